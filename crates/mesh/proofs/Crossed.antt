-- Two takeovers that crossed: their lists agree, and no one order of all lines fits them.
use Rattle.std.proofs.Common.{◌≡◌, ℕ, zero, suc, ◌+◌, ◌<◌, ◌≤◌, ◌==◌, List, [], ◌∷◌, ◌++◌, Bool, true, false, cond, filter, map, refl, sym, ap, ◌∙◌, subst, arith, append_assoc}
use Rattle.journal_core.specs.declared.request.Request.TheVariants as request
use Rattle.journal_core.specs.declared.reply.Reply.{Reply}
use Rattle.journal_core.specs.declared.reply.Reply.TheVariants as reply
use Rattle.journal_core.specs.Segments.{find_segment, put_segment, remove_segment, newest}
use Rattle.journal_core.specs.Limits.{limit_of}
use Rattle.journal_core.specs.Effects.{after_effects}
use Rattle.journal_core.specs.Step.{node_step, effects_of}
use Rattle.journal_core.specs.Cuts.{standing}
use Rattle.writer_core.specs.declared.task.Task.TheVariants as task
use Rattle.writer_core.specs.Best.{best_from, greatest_promise, greatest_newest}
use Rattle.writer_core.specs.Rounds.{judgment, after_fetch}
use Rattle.writer_core.specs.Writer.{log_limit, writer_begun, writer_heard}
use Rattle.journal_history.specs.declared.history_line.HistoryLine.{HistoryLine}
use Rattle.journal_history.specs.declared.record.Record.{Record}
use Rattle.journal_history.specs.declared.record.Told.TheVariants as told
use Rattle.journal_history.specs.Cell.{cell_takes, fresh_cell, IsLocalRun}
use Rattle.journal_history.specs.Moving.{Placed, epoch_of, moves, move_of, entry_of, moving_of}
use Rattle.run_safety.proofs.Slots.{true≢false}
use Rattle.mesh.specs.Marks.{IsAsMarked, IsMarked, AreCopied}
use Rattle.mesh.specs.Makers.{Writes, maker_of, maker_hears, HaveBodies, IsMade, IsOfChores, IsOperators}
use Rattle.mesh.specs.Matches.{reaches, reached, lines_of, IsSame, AreSame, AreWithin, CallersWithin}
use Rattle.mesh.specs.Agree.{Agrees, operator_of, history_at, record_of, plan_of}
use Rattle.mesh.specs.Owners.{wins, owns}
use Rattle.mesh.specs.Order.{placed_from, place_of, key_of, is_below, tags_of, blocks_cut, blocks_from, put_block, sorted, entries_in, epoch_order}
use Rattle.mesh.specs.Traces.{history_of, IsTrace}
use Rattle.mesh.specs.Examples.{listed, called, promised, crossed, crossed_order}
use Rattle.mesh.proofs.Lists.{contains_none, same_test}
use Rattle.mesh.proofs.Tied.{Tied}
use Rattle.mesh.proofs.InStep.{tied_of, Sent, sent_at}
use Rattle.mesh.proofs.Traced.{Among, among}

pub crossed_epochs : epoch_order crossed ≡ crossed_order
unfolding find_segment put_segment remove_segment newest limit_of after_effects node_step effects_of standing cell_takes epoch_of moves move_of
    entry_of moving_of reaches reached lines_of wins owns placed_from place_of key_of is_below tags_of blocks_cut blocks_from put_block sorted
    entries_in epoch_order crossed crossed_order
crossed_epochs = refl

-- ## The lists agree
local_of : (i : ℕ) → i < 2 → IsLocalRun fresh_cell (history_at crossed i)
unfolding crossed IsLocalRun find_segment put_segment remove_segment newest limit_of after_effects node_step effects_of standing cell_takes
local_of zero l = (refl, (refl, (refl, (refl, tt))))
local_of (suc zero) l = (refl, (refl, (refl, (refl, tt))))
local_of (suc (suc i)) l = absurd (omega (arith, l))

made_of : (c : ℕ) → c < 2 → IsOfChores 2 (record_of crossed c)
unfolding crossed HaveBodies IsMade find_segment newest limit_of best_from greatest_promise greatest_newest judgment after_fetch log_limit writer_begun writer_heard maker_of maker_hears
made_of zero l = (Writes task.Takeover ∷ [], (tt, tt), (refl, (refl, (refl, (refl, tt)))))
made_of (suc zero) l = (Writes task.Takeover ∷ [], (tt, tt), (refl, (refl, (refl, (refl, tt)))))
made_of (suc (suc c)) l = absurd (omega (arith, l))

same_of : (i c : ℕ) → i < 2 → c ≤ 2 → AreSame (reached (i + 1) (record_of crossed c)) (lines_of c (history_at crossed i))
unfolding crossed reaches reached lines_of AreSame IsSame
same_of zero zero l m = ((refl, refl), ((refl, refl), tt))
same_of zero (suc zero) l m = ((refl, refl), ((refl, refl), tt))
same_of zero (suc (suc zero)) l m = tt
same_of (suc zero) zero l m = ((refl, refl), ((refl, refl), tt))
same_of (suc zero) (suc zero) l m = ((refl, refl), ((refl, refl), tt))
same_of (suc zero) (suc (suc zero)) l m = tt
same_of (suc (suc i)) c l m = absurd (omega (arith, l))
same_of zero (suc (suc (suc c))) l m = absurd (omega (arith, m))
same_of (suc zero) (suc (suc (suc c))) l m = absurd (omega (arith, m))

pub unmarked : (node number : ℕ) (x : Reply) → IsAsMarked [] node number (told.Reply x)
unmarked node number x = ((λ e. absurd (cc e), λ e. absurd (contains_none _ e)), (λ off. (λ e. absurd (cc e), λ e. absurd (contains_none _ e))))

marked_of : (c : ℕ) → c < 2 → IsMarked (plan_of crossed c) [] (record_of crossed c)
unfolding crossed IsMarked
marked_of zero l = (unmarked 1 _ _, (unmarked 2 _ _, (unmarked 1 _ _, (unmarked 2 _ _, tt))))
marked_of (suc zero) l = (unmarked 1 _ _, (unmarked 2 _ _, (unmarked 1 _ _, (unmarked 2 _ _, tt))))
marked_of (suc (suc c)) l = absurd (omega (arith, l))

copied_of : (c : ℕ) → c < 2 → AreCopied (plan_of crossed c) (record_of crossed c)
unfolding crossed
copied_of zero l node r = omega arith
copied_of (suc zero) l node r = omega arith
copied_of (suc (suc c)) l node r = absurd (omega (arith, l))

callers_of : (i : ℕ) → i < 2 → CallersWithin 2 (history_at crossed i)
unfolding crossed CallersWithin
callers_of zero l = (omega arith, (omega arith, (omega arith, (omega arith, tt))))
callers_of (suc zero) l = (omega arith, (omega arith, (omega arith, (omega arith, tt))))
callers_of (suc (suc i)) l = absurd (omega (arith, l))

within_of : (c : ℕ) → c ≤ 2 → AreWithin 2 (record_of crossed c)
unfolding crossed AreWithin
within_of zero l = ((omega arith, omega arith), ((omega arith, omega arith), ((omega arith, omega arith), ((omega arith, omega arith), tt))))
within_of (suc zero) l = ((omega arith, omega arith), ((omega arith, omega arith), ((omega arith, omega arith), ((omega arith, omega arith), tt))))
within_of (suc (suc zero)) l = tt
within_of (suc (suc (suc c))) l = absurd (omega (arith, l))

pub crossed_agrees : Agrees crossed
unfolding crossed IsOperators
crossed_agrees = record {
  lists = record { local = local_of; operated = tt; same = same_of; marked = marked_of; copied = copied_of; callers = callers_of; within = within_of };
  made = made_of;
  histories = refl;
  records = refl;
}

-- ## No one order of all lines fits them
history_append : (k : ℕ) (xs ys : List Placed) → history_of k (xs ++ ys) ≡ history_of k xs ++ history_of k ys
unfolding history_of
history_append k [] ys = refl
history_append k (x ∷ xs) ys = by (x.node == k) (history_append k xs ys)
  where
    by : (b : Bool) → map (λ (z : Placed). z.line) (filter (λ (z : Placed). z.node == k) (xs ++ ys)) ≡ map (λ (z : Placed). z.line)
        (filter (λ (z : Placed). z.node == k) xs) ++ map (λ (z : Placed). z.line) (filter (λ (z : Placed). z.node == k) ys)
        → map (λ (z : Placed). z.line) (cond b (x ∷ filter (λ (z : Placed). z.node == k) (xs ++ ys)) (filter (λ (z : Placed). z.node == k) (xs ++ ys)))
        ≡ map (λ (z : Placed). z.line) (cond b (x ∷ filter (λ (z : Placed). z.node == k) xs) (filter (λ (z : Placed). z.node == k) xs)) ++ map
        (λ (z : Placed). z.line) (filter (λ (z : Placed). z.node == k) ys)
    by true h = ap (λ (l : List HistoryLine). x.line ∷ l) h
    by false h = h

front_empty : (xs ys : List HistoryLine) → xs ++ ys ≡ [] → xs ≡ []
front_empty [] ys e = refl
front_empty (x ∷ xs) ys e = absurd (cc e)

-- what the callers list
abbrev asked_one : ℕ → Record
asked_one promise = called 1 request.State (reply.State promise)

abbrev asked_two : Record
asked_two = called 2 request.State (reply.State 0)

abbrev proposed : ℕ → ℕ → Record
proposed node epoch = called node (request.NewEpoch epoch) promised

abbrev its_record : ℕ → ℕ → List Record
its_record promise epoch = asked_one promise ∷ asked_two ∷ proposed 1 epoch ∷ proposed 2 epoch ∷ []

-- what nodes list of the first one
abbrev first_asks : HistoryLine
first_asks = listed 0 request.State (reply.State 0)

abbrev first_proposes : HistoryLine
first_proposes = listed 0 (request.NewEpoch 1) promised

asks_state : (node promise : ℕ) (r : Record) (h : HistoryLine) → called node request.State (reply.State promise) ≡ r → h ≡ first_proposes → IsSame r h → ⊥
unfolding IsSame
asks_state node promise r h e f s =
    let same : IsSame (called node request.State (reply.State promise)) (first_proposes) = subst (λ (x : Record). IsSame x (first_proposes)) (sym e) (subst (IsSame r) f s) in
    cc (same.0)

-- The first caller proposed at node 1 after it had asked node 2.
asked_before : (rs : List Record) (p : List Placed) (y : Placed) → rs ≡ its_record 0 1 → Sent 0 rs p y → y.line ≡ first_proposes → history_of 2 p ≡ [] → ⊥
unfolding Tied reached reaches lines_of AreSame
asked_before rs p y is s line none = by s.past s.line s.rest (sym is ∙ s.whole) s.event.same (tied_of 2 0 s.past p s.step)
  where
    by : (past : List Record) (r : Record) (rest : List Record) → its_record 0 1 ≡ past ++ r ∷ rest → IsSame r y.line → AreSame (reached 2 past) (lines_of 0 (history_of 2 p)) → ⊥
    by [] r rest e same ties = let first : asked_one 0 ≡ r = cc e in asks_state 1 0 r y.line first line same
    by (a ∷ []) r rest e same ties = let second : asked_two ≡ r = cc e in asks_state 2 0 r y.line second line same
    by (a ∷ (b ∷ past)) r rest e same ties =
        let first : asked_one 0 ≡ a = cc e in
        let second : asked_two ≡ b = cc e in
        let none_of : AreSame (reached 2 (asked_one 0 ∷ (asked_two ∷ past))) (lines_of 0 []) =
        subst (λ (x : Record). AreSame (reached 2 (x ∷ (asked_two ∷ past))) (lines_of 0 [])) (sym first)
        (subst (λ (x : Record). AreSame (reached 2 (a ∷ (x ∷ past))) (lines_of 0 [])) (sym second)
        (subst (λ (hs : List HistoryLine). AreSame (reached 2 (a ∷ (b ∷ past))) (lines_of 0 hs)) none ties)) in
        none_of

-- The second caller asked node 2 after it had asked node 1.
second_listed : (rs : List Record) (p : List Placed) (x : Placed) → rs ≡ its_record 1 2 → Sent 1 rs p x → x.node ≡ 2 → lines_of 1 (history_of 1 p) ≡ [] → ⊥
unfolding Tied reached reaches AreSame
second_listed rs p x is s at none = by s.past s.line s.rest (sym is ∙ s.whole) (s.event.reach 2) (tied_of 1 1 s.past p s.step)
  where
    by : (past : List Record) (r : Record) (rest : List Record) → its_record 1 2 ≡ past ++ r ∷ rest → reaches 2 r ≡ (x.node == 2) → AreSame (reached 1 past) (lines_of 1 (history_of 1 p)) → ⊥
    by [] r rest e reach ties =
        let first : asked_one 1 ≡ r = cc e in
        true≢false (sym (same_test x.node 2 at) ∙ sym (ap (reaches 2) first ∙ reach))
    by (a ∷ past) r rest e reach ties =
        let first : asked_one 1 ≡ a = cc e in
        let none_of : AreSame (reached 1 (asked_one 1 ∷ past)) [] =
        subst (λ (z : Record). AreSame (reached 1 (z ∷ past)) []) (sym first) (subst (AreSame (reached 1 (a ∷ past))) none ties) in
        none_of

record_one : (record_of crossed 0 ≡ its_record 0 1) × (record_of crossed 1 ≡ its_record 1 2)
unfolding crossed
record_one = (refl, refl)

-- what node 1 lists before the second caller came
history_one : (hs more : List HistoryLine) → hs ++ more ≡ history_at crossed 0 → (lines_of 1 hs ≡ [] → ⊥) → (tail : List HistoryLine) × (hs ≡ first_asks ∷ first_proposes ∷ tail)
unfolding crossed lines_of
history_one [] more e some = absurd (some refl)
history_one (g ∷ []) more e some = let first : g ≡ first_asks = cc e in absurd (some (ap (λ (z : HistoryLine). lines_of 1 (z ∷ [])) first))
history_one (g ∷ (i ∷ tail)) more e some =
    let first : g ≡ first_asks = cc e in
    let second : i ≡ first_proposes = cc e in
    (tail, ap (λ (z : HistoryLine). z ∷ (i ∷ tail)) first ∙ ap (λ (z : HistoryLine). first_asks ∷ (z ∷ tail)) second)

history_two : listed 1 request.State (reply.State 0) ∷ first_asks ∷ first_proposes ∷ listed 1 (request.NewEpoch 2) promised ∷ [] ≡ history_at crossed 1
unfolding crossed
history_two = refl

numbers : (0 < crossed.nodes) × (1 < crossed.nodes) × (0 ≤ operator_of crossed) × (1 ≤ operator_of crossed)
unfolding crossed
numbers = (omega arith, omega arith, omega arith, omega arith)

pub crossed_has_none : (t : List Placed) → IsTrace crossed t → ⊥
crossed_has_none t h =
    let w : Among 2 t [] (listed 1 request.State (reply.State 0)) =
    among 2 t [] (first_asks ∷ first_proposes ∷ listed 1 (request.NewEpoch 2) promised ∷ []) (listed 1 request.State (reply.State 0)) (history_two ∙ h.histories 1 numbers.1) in
    let s : Sent 1 (record_of crossed 1) w.past w.line = sent_at 1 (record_of crossed 1) t w.past w.rest w.line (h.records 1 numbers.3) w.whole (ap (λ (z : HistoryLine). z.caller) w.line_is) in
    let all : history_of 1 w.past ++ history_of 1 (w.line ∷ w.rest) ≡ history_at crossed 0 = sym (history_append 1 w.past (w.line ∷ w.rest))
    ∙ ap (history_of 1) (sym w.whole) ∙ sym (h.histories 0 numbers.0) in
    let one : (tail : List HistoryLine) × (history_of 1 w.past ≡ first_asks ∷ first_proposes ∷ tail) =
    history_one (history_of 1 w.past) (history_of 1 (w.line ∷ w.rest)) all (second_listed (record_of crossed 1) w.past w.line record_one.1 s w.node_is) in
    let v : Among 1 w.past (first_asks ∷ []) (first_proposes) = among 1 w.past (first_asks ∷ []) one.0 (first_proposes) (sym one.1) in
    let whole : t ≡ v.past ++ v.line ∷ (v.rest ++ w.line ∷ w.rest) = w.whole ∙ ap (λ (l : List Placed). l ++ w.line ∷ w.rest) v.whole ∙ append_assoc v.past (v.line ∷ v.rest) (w.line ∷ w.rest) in
    let u : Sent 0 (record_of crossed 0) v.past v.line =
    sent_at 0 (record_of crossed 0) t v.past (v.rest ++ w.line ∷ w.rest) v.line (h.records 0 numbers.2) whole (ap (λ (z : HistoryLine). z.caller) v.line_is) in
    let empty : history_of 2 v.past ≡ [] =
    front_empty (history_of 2 v.past) (history_of 2 (v.line ∷ v.rest)) (sym (history_append 2 v.past (v.line ∷ v.rest)) ∙ ap (history_of 2) (sym v.whole) ∙ w.before_is) in
    asked_before (record_of crossed 0) v.past v.line record_one.0 u v.line_is empty
