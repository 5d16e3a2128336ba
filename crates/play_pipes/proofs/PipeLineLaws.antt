-- What a gate lists of a caller is what the lines of its pipes list, and so what its record says.
use Rattle.std.proofs.Common.{◌≡◌, ◌≢◌, ⊎_elim, ℕ, ◌+◌, ◌-◌, ◌<◌, ◌≤◌, true, false, List, [], ◌∷◌, ◌++◌, length, set, get_or, sym, ap, ◌∙◌, subst, arith, append-nil}
use Rattle.std.specs.Prelude.{Ok}
use Rattle.std.proofs.lemmas.List.{append_assoc, length-set, get_or-set_same, get_or-set_other}
use Rattle.journal_core.specs.declared.request.Request.{Request}
use Rattle.journal_core.specs.declared.heard.Heard.{Heard}
use Rattle.journal_core.specs.declared.heard.Heard.TheVariants.{Answer, Silent}
use Rattle.journal_history.specs.declared.node_ask.NodeAsk.TheVariants.{Act}
use Rattle.journal_history.specs.declared.node_ask.NodeAnswer.{NodeAnswer}
use Rattle.journal_history.specs.declared.node_ask.NodeAnswer.TheVariants.{Replied, Stopped, Done, Idle, NotOpened}
use Rattle.journal_history.specs.declared.history_line.HistoryLine.{HistoryLine}
use Rattle.journal_history.specs.declared.record.Record.{Record}
use Rattle.journal_history.specs.declared.record.Record.TheVariants.{Call, Late, Operator, Outcome}
use Rattle.journal_history.specs.declared.record.Told.{Told}
use Rattle.journal_history.specs.declared.record.Told.TheVariants as told
use Rattle.journal_history.specs.Cell.{heard_of}
use Rattle.mesh.specs.Matches.{reaches, reached, IsSame, AreSame, StandsFor}
use Rattle.mesh.proofs.Tied.{reached_at, reached_off}
use Rattle.play_threads.specs.Entries.{IsReplyOrStop}
use Rattle.play_pipes.specs.Calls.{Calls, call_of, gained}
use Rattle.play_pipes.proofs.DeskLaws.{same_or}
use Rattle.play_pipes.specs.PipeLines.{call_at, calls_at, OnlyCalls, Stands, TellsOne, Tells, AreTold}

pub calls_more : (hs : List HistoryLine) (h : HistoryLine) → calls_at (hs ++ h ∷ []) ≡ calls_at hs ++ call_at h.ask h.answer
calls_more [] h = append-nil (call_at h.ask h.answer)
calls_more (x ∷ hs) h = ap (λ l. call_at x.ask x.answer ++ l) (calls_more hs h) ∙ sym (append_assoc (call_at x.ask x.answer) (calls_at hs) (call_at h.ask h.answer))

pub are_more : (hs : List HistoryLine) (h : HistoryLine) → OnlyCalls hs → (r : Request) → h.ask ≡ Act false r → IsReplyOrStop h.answer → OnlyCalls (hs ++ h ∷ [])
are_more [] h all r e a = ((r, e), a, tt)
are_more (x ∷ hs) h all r e a = (all.0, all.1, are_more hs h all.2 r e a)

-- ## A record that tells the lines' lists tells the gates' lines
stands_for : (t : Told) (answer : NodeAnswer) → IsReplyOrStop answer → Stands t (heard_of answer) → StandsFor t answer
stands_for (told.Reply reply) (Replied x) ok s = ap Replied (let e : Answer x ≡ Answer reply = s in cc)
stands_for (told.Reply reply) (Stopped keep) ok s = absurd (let e : Silent ≡ Answer reply = s in cc)
stands_for (told.Reply reply) Done ok s = absurd ok
stands_for (told.Reply reply) Idle ok s = absurd ok
stands_for (told.Reply reply) (NotOpened fail) ok s = absurd ok
stands_for told.Dropped answer ok s = absurd s
stands_for told.Muted answer ok s = tt
stands_for told.Silent (Replied x) ok s = absurd (let e : Answer x ≡ Silent = s in cc)
stands_for told.Silent (Stopped keep) ok s = tt
stands_for told.Silent Done ok s = absurd ok
stands_for told.Silent Idle ok s = absurd ok
stands_for told.Silent (NotOpened fail) ok s = absurd ok

one_same : (r : Record) (q : Request) (h : HistoryLine) → h.ask ≡ Act false q → IsReplyOrStop h.answer → TellsOne r (q, heard_of h.answer) → IsSame r h
unfolding IsSame
one_same (Call node r t) q h e ok s = (e ∙ ap (Act false) s.0, stands_for t h.answer ok s.1)
one_same (Late node r) q h e ok s = absurd s
one_same (Operator node ask done) q h e ok s = absurd s
one_same (Outcome text) q h e ok s = absurd s

call_is : (h : HistoryLine) (q : Request) (hs : List HistoryLine) → h.ask ≡ Act false q → calls_at (h ∷ hs) ≡ (q, heard_of h.answer) ∷ calls_at hs
call_is h q hs e = ap (λ a. call_at a h.answer ++ calls_at hs) e

pub tells_same : (rs : List Record) (hs : List HistoryLine) → OnlyCalls hs → Tells rs (calls_at hs) → AreSame rs hs
unfolding AreSame
tells_same [] [] all s = tt
tells_same [] (h ∷ hs) all s = absurd (subst (Tells []) (call_is h all.0.0 hs all.0.1) s)
tells_same (r ∷ rs) [] all s = absurd s
tells_same (r ∷ rs) (h ∷ hs) all s =
    let both : Tells (r ∷ rs) ((all.0.0, heard_of h.answer) ∷ calls_at hs) = subst (Tells (r ∷ rs)) (call_is h all.0.0 hs all.0.1) s in
    (one_same r all.0.0 h all.0.1 all.1 both.0, tells_same rs hs all.2 both.1)

-- ## One call more
tells_more : (rs : List Record) (cs : Calls) (r : Record) (c : Request × Heard) → Tells rs cs → TellsOne r c → Tells (rs ++ r ∷ []) (cs ++ c ∷ [])
tells_more [] [] r c s one = (one, tt)
tells_more [] (x ∷ cs) r c s one = absurd s
tells_more (x ∷ rs) [] r c s one = absurd s
tells_more (x ∷ rs) (y ∷ cs) r c s one = (s.0, tells_more rs cs r c s.1 one)

pub told_first : (lists : List Calls) → ((i : ℕ) → i < length lists → get_or lists i [] ≡ []) → AreTold [] lists
unfolding reached
told_first lists none i lt = subst (Tells []) (sym (none i lt)) tt

-- a call that reached the node, and the one list that gained it
pub told_more : (past : List Record) (lists : List Calls) (node : ℕ) (r : Record) (q : Request) (heard : Heard) → 1 ≤ node → node ≤ length lists → reaches node r ≡ true
    → ((k : ℕ) → k ≢ node → reaches k r ≡ false) → TellsOne r (q, heard) → AreTold past lists → AreTold (past ++ r ∷ []) (gained (node ∷ []) q (Ok heard ∷ []) lists)
told_more past lists node r q heard low high here else one all i lt =
    let at = node - 1 in
    let new : List Calls = set lists at (get_or lists at [] ++ call_of q (Ok heard)) in
    let long = length-set lists at (get_or lists at [] ++ call_of q (Ok heard)) in
    let within : i < length lists = omega (arith, lt, long) in
    ⊎_elim
    (λ (x : i ≡ at).
    let is : i + 1 ≡ node = omega (arith, x, low) in
    let now : get_or new i [] ≡ get_or lists i [] ++ (q, heard) ∷ [] =
    ap (λ j. get_or new j []) x ∙ get_or-set_same lists at (get_or lists at [] ++ call_of q (Ok heard)) [] (omega (arith, low, high)) ∙ ap (λ j. get_or lists j [] ++ (q, heard) ∷ []) (sym x) in
    let past_now : reached (i + 1) (past ++ r ∷ []) ≡ reached (i + 1) past ++ r ∷ [] = reached_at (i + 1) past r (ap (λ k. reaches k r) is ∙ here) in
    subst (λ (y : List Record × Calls). Tells y.0 y.1) (λ j. (sym past_now j, sym now j)) (tells_more (reached (i + 1) past) (get_or lists i []) r (q, heard) (all i within) one))
    (λ (x : i ≢ at).
    let off : i + 1 ≢ node = λ e. x (omega (arith, e)) in
    let now : get_or new i [] ≡ get_or lists i [] = get_or-set_other lists at i (get_or lists at [] ++ call_of q (Ok heard)) [] x in
    let past_now : reached (i + 1) (past ++ r ∷ []) ≡ reached (i + 1) past = reached_off (i + 1) past r (else (i + 1) off) in
    subst (λ (y : List Record × Calls). Tells y.0 y.1) (λ j. (sym past_now j, sym now j)) (all i within)) (same_or i at)

-- a line that reached no node
pub told_off : (past : List Record) (lists : List Calls) (r : Record) → ((k : ℕ) → reaches k r ≡ false) → AreTold past lists → AreTold (past ++ r ∷ []) lists
told_off past lists r off all i lt = subst (λ rs. Tells rs (get_or lists i [])) (sym (reached_off (i + 1) past r (off (i + 1)))) (all i lt)
