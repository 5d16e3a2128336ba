-- What the actors' records say moved the nodes is a tale of fair entries, caller by caller.
use Rattle.std.proofs.Common.{◌≡◌, ◌≢◌, ℕ, zero, suc, ◌+◌, ◌-◌, ◌<◌, ◌≤◌, inl, inr, List, [], ◌∷◌, ◌++◌, Bool, true, false, not, cond, filter, length}
use Rattle.std.proofs.Common.{refl, sym, ap, ◌∙◌, subst, arith, append_assoc, Option, Some, None, is_some}
use Rattle.std.specs.Prelude.{slice_get, ◌&&◌}
use Rattle.journal_core.specs.declared.request.Request.{Request}
use Rattle.journal_core.specs.declared.request.Request.TheVariants as request
use Rattle.journal_core.specs.declared.reply.Reply.{Reply}
use Rattle.journal_core.specs.declared.reply.Reply.TheVariants as reply
use Rattle.journal_core.specs.declared.heard.Heard.TheVariants as heard
use Rattle.writer_core.specs.declared.task.Task.{Task}
use Rattle.writer_core.specs.Views.{WriterView}
use Rattle.writer_core.specs.Writer.{new_writer, HasBody, writer_begun}
use Rattle.writer_core.proofs.Plain.{plain_heard}
use Rattle.journal_history.specs.declared.node_ask.NodeAsk.{NodeAsk}
use Rattle.journal_history.specs.declared.node_ask.NodeAsk.TheVariants.{Act}
use Rattle.journal_history.specs.declared.node_ask.NodeAnswer.{NodeAnswer}
use Rattle.journal_history.specs.declared.node_ask.NodeAnswer.TheVariants.{Replied, Stopped, Done, Idle, NotOpened}
use Rattle.journal_history.specs.declared.history_line.HistoryLine.{HistoryLine}
use Rattle.journal_history.specs.declared.record.Record.{Record}
use Rattle.journal_history.specs.declared.record.Record.TheVariants.{Call, Late, Operator, Outcome}
use Rattle.journal_history.specs.declared.record.Told.{Told}
use Rattle.journal_history.specs.declared.record.Told.TheVariants as told
use Rattle.journal_history.specs.declared.mark.Mark.{Mark}
use Rattle.journal_history.specs.Cell.{Cell, fresh_cell, cell_takes, IsLocalRun}
use Rattle.journal_history.specs.Entries.{Heard, Muted, Late as LateWay, Move, Answer, Stop, Entry, Earlier}
use Rattle.journal_history.specs.Moving.{epoch_of, is_refused_at_once, moves, move_of, entry_at, entry_of, falls}
use Rattle.run_safety.proofs.Slots.{true≢false}
use Rattle.journal_history.proofs.Raised.{CellRaised, cell_raised}
use Rattle.run_safety.proofs.Tales.{Tale, place_below}
use Rattle.run_safety.proofs.WriterRange.{new_sized}
use Rattle.run_safety.proofs.Tracked.{free}
use Rattle.run_safety.proofs.CallLeft.{entry, HasEpoch, CallLeft, nothing, unheard, answered, enters_answer, enters_muted, enters_late, enters_stop, CopyLeft, no_entry, an_entry}
use Rattle.mesh.specs.declared.whole.Mesh.{Mesh}
use Rattle.mesh.specs.Marks.{calls_to, IsMarked}
use Rattle.mesh.specs.Makers.{Maker, heard_of, maker_of, asks, maker_hears, IsMade}
use Rattle.mesh.specs.Matches.{reaches, reached, lines_of, StandsFor, IsSame, AreSame, AreWithin}
use Rattle.mesh.specs.Agree.{Agrees, operator_of, history_at, record_of, plan_of}
use Rattle.mesh.specs.Order.{was_muted}
use Rattle.mesh.proofs.Lists.{same_test}
use Rattle.mesh.proofs.CopyLaws.{copy_named}
use Rattle.mesh.proofs.Shared.{In}
use Rattle.mesh.proofs.OneOwner.{lines_out}
use Rattle.run_safety.proofs.Fair.{IsTold}
use Rattle.mesh.proofs.Signs.{Sign, entries, sign_onto, entry_by, line_for, noted_at, diary, all_signs}
use Rattle.mesh.proofs.FairActs.{Standing, call_stands, read_stands, task_stands, other_stands, copy_stands}
use Rattle.mesh.proofs.Chores.{Stands, maker_stands, hears_stands}

-- ## A line that did more than fall is of a request with an epoch
pub record HasRequest (h : HistoryLine) : Type 0 where
  pub late : Bool
  pub request : Request
  pub asks : h.ask ≡ Act late request
  pub epoch : ℕ
  pub of : epoch_of request ≡ Some epoch

pub line_request : (c : Cell) (hs : List HistoryLine) (h : HistoryLine) (caller : ℕ) (muted : Bool) (m : Move) → IsLocalRun c hs → In h hs
    → move_of caller muted h.ask h.answer ≡ Some m → falls m ≡ false → HasRequest h
unfolding IsLocalRun In
line_request c [] h caller muted m run i is off = absurd i
line_request c (x ∷ hs) h caller muted m run (inr i) is off = line_request (cell_takes c x.ask).cell hs h caller muted m run.1 i is off
line_request c (x ∷ hs) h caller muted m run (inl same) is off =
    let moved : move_of caller muted x.ask (cell_takes c x.ask).answer ≡ Some m =
    ap (λ (a : NodeAnswer). move_of caller muted x.ask a) (sym run.0) ∙ ap (λ (z : HistoryLine). move_of caller muted z.ask z.answer) same ∙ is in
    let w : CellRaised c x.ask = cell_raised c x.ask caller muted m moved off in
    record { late = w.late; request = w.request; asks = ap (λ (z : HistoryLine). z.ask) (sym same) ∙ w.asks; epoch = w.raised.epoch; of = w.raised.of }

-- a stop after some effects, then
abbrev StopsUnder : Request → NodeAnswer → Type 0
StopsUnder q a = (k : ℕ) → a ≡ Stopped (suc k) → HasEpoch q

-- ## What a line of an actor's record left
refused_plain : (q : Request) (x : Reply) → moves q x ≡ false → HasEpoch q → plain_heard (heard.Answer x) ≡ heard.Silent
unfolding moves
refused_plain q (reply.Refused f) e some = refl
refused_plain q reply.Ok e some = absurd (let z : true ≡ false = sym (rw some refl) ∙ e in cc z)
refused_plain q (reply.State p) e some = absurd (let z : true ≡ false = sym (rw some refl) ∙ e in cc z)
refused_plain q (reply.NewEpoch p) e some = absurd (let z : true ≡ false = sym (rw some refl) ∙ e in cc z)
refused_plain q (reply.Prepared a b c) e some = absurd (let z : true ≡ false = sym (rw some refl) ∙ e in cc z)
refused_plain q (reply.Edits b) e some = absurd (let z : true ≡ false = sym (rw some refl) ∙ e in cc z)
refused_plain q (reply.Segments b) e some = absurd (let z : true ≡ false = sym (rw some refl) ∙ e in cc z)

moves_epoch : (q : Request) (x : Reply) → moves q x ≡ true → HasEpoch q
unfolding moves
moves_epoch q x e = by (is_some (epoch_of q)) (is_refused_at_once x) e
  where
    by : (a b : Bool) → (a && not b) ≡ true → a ≡ true
    by true b f = refl
    by false b f = f

module _ (n c p k : ℕ) (q : Request) (ss : List Sign) where
  abbrev past : List Entry
  past = entries ss

  abbrev left : Bool → Bool → NodeAnswer → List Entry
  left muted late a = entries (sign_onto (entry_at k (move_of c muted (Act late q) a)) c p ss)

  if_left : (b : Bool) (m : Move) → falls m ≡ false → entries (sign_onto (entry_at k (cond b (Some m) None)) c p ss) ≡ cond b (entry k m ∷ past) past
  if_left true m e = rw e refl
  if_left false m e = refl

  heard_left : (x : Reply) → CallLeft n past c k q (heard.Answer x) (left false false (Replied x))
  unfolding move_of
  heard_left x = by (moves q x) refl
    where
      by : (b : Bool) → moves q x ≡ b → CallLeft n past c k q (heard.Answer x) (entries (sign_onto (entry_at k (cond b (Some (Answer c Heard q x)) None)) c p ss))
      by true e = answered x refl refl (moves_epoch q x e) (enters_answer n past c k q x (moves_epoch q x e))
      by false e = nothing refl (λ some. refused_plain q x e some)

  stop_left : (muted : Bool) (kept : ℕ) → StopsUnder q (Stopped kept) → CallLeft n past c k q heard.Silent (left muted false (Stopped kept))
  unfolding move_of
  stop_left muted zero u = nothing refl (λ some. refl)
  stop_left muted (suc kept) u = unheard (Stop c false q (suc kept)) refl refl (λ turn. u kept refl) (enters_stop n past c k q false (suc kept) (λ l. u kept refl))

  muted_left : (a : NodeAnswer) → StopsUnder q a → CallLeft n past c k q heard.Silent (left true false a)
  unfolding move_of
  muted_left (Replied x) u = by (moves q x) refl
    where
      by : (b : Bool) → moves q x ≡ b → CallLeft n past c k q heard.Silent (entries (sign_onto (entry_at k (cond b (Some (Answer c Muted q x)) None)) c p ss))
      by true e = unheard (Answer c Muted q x) refl refl (λ turn. moves_epoch q x e) (enters_muted n past c k q x (moves_epoch q x e))
      by false e = nothing refl (λ some. refl)
  muted_left (Stopped kept) u = stop_left true kept u
  muted_left Done u = nothing refl (λ some. refl)
  muted_left Idle u = nothing refl (λ some. refl)
  muted_left (NotOpened fail) u = nothing refl (λ some. refl)

  call_left : (t : Told) (a : NodeAnswer) → StandsFor t a → StopsUnder q a → CallLeft n past c k q (heard_of t) (left (was_muted t) false a)
  call_left (told.Reply x) a s u = subst (λ (y : NodeAnswer). CallLeft n past c k q (heard.Answer x) (left false false y)) (sym s) (heard_left x)
  call_left told.Dropped a s u = absurd s
  call_left told.Muted a s u = muted_left a u
  call_left told.Silent (Replied x) s u = absurd s
  call_left told.Silent (Stopped kept) s u = stop_left false kept u
  call_left told.Silent Done s u = absurd s
  call_left told.Silent Idle s u = absurd s
  call_left told.Silent (NotOpened fail) s u = absurd s

  copy_left : (a : NodeAnswer) → StopsUnder q a → CopyLeft n past c k q (left false true a)
  unfolding move_of
  copy_left (Replied x) u = by (moves q x) refl
    where
      by : (b : Bool) → moves q x ≡ b → CopyLeft n past c k q (entries (sign_onto (entry_at k (cond b (Some (Answer c LateWay q x)) None)) c p ss))
      by true e = an_entry (Answer c LateWay q x) refl (λ turn. turn refl) (enters_late n past c k q x (moves_epoch q x e))
      by false e = no_entry refl
  copy_left (Stopped zero) u = no_entry refl
  copy_left (Stopped (suc kept)) u = an_entry (Stop c true q (suc kept)) refl (λ turn. true≢false turn.0) (enters_stop n past c k q true (suc kept) (λ l. u kept refl))
  copy_left Done u = no_entry refl
  copy_left Idle u = no_entry refl
  copy_left (NotOpened fail) u = no_entry refl

-- ## The node's line of a record's line
pub same_at : (xs : List Record) (r : Record) (ys : List Record) (hs : List HistoryLine) → AreSame (xs ++ r ∷ ys) hs → (h : HistoryLine) × (slice_get hs (length xs) ≡ Some h) × IsSame r h
unfolding AreSame
same_at [] r ys [] s = absurd s
same_at [] r ys (h ∷ hs) s = (h, refl, s.0)
same_at (x ∷ xs) r ys [] s = absurd s
same_at (x ∷ xs) r ys (h ∷ hs) s = same_at xs r ys hs s.1

pub get_in : (hs : List HistoryLine) (j : ℕ) (h : HistoryLine) → slice_get hs j ≡ Some h → In h hs
unfolding In
get_in [] j h e = absurd (cc e)
get_in (x ∷ hs) zero h e = inl (same e)
  where
    same : Some x ≡ Some h → x ≡ h
    same f = cc
get_in (x ∷ hs) (suc j) h e = inr (get_in hs j h e)

pub reached_at : (k : ℕ) (before rest : List Record) (r : Record) → reaches k r ≡ true → reached k (before ++ r ∷ rest) ≡ reached k before ++ r ∷ reached k rest
unfolding reached
reached_at k [] rest r e = rw e refl
reached_at k (x ∷ before) rest r e = by (reaches k x) (reached_at k before rest r e)
  where
    by : (b : Bool) → filter (reaches k) (before ++ r ∷ rest) ≡ filter (reaches k) before ++ r ∷ filter (reaches k) rest
        → cond b (x ∷ filter (reaches k) (before ++ r ∷ rest)) (filter (reaches k) (before ++ r ∷ rest)) ≡ cond b (x ∷ filter (reaches k) before)
        (filter (reaches k) before) ++ r ∷ filter (reaches k) rest
    by true h = ap (λ (l : List Record). x ∷ l) h
    by false h = h

-- of a mesh that agrees
pub record LineOf (m : Mesh) (c k : ℕ) (before : List Record) (r : Record) : Type 0 where
  pub line : HistoryLine
  pub there : slice_get (lines_of c (history_at m (k - 1))) (length (reached k before)) ≡ Some line
  pub same : IsSame r line
  pub in_history : In line (history_at m (k - 1))
  pub caller : line.caller ≡ c

pub line_of : (m : Mesh) (c k : ℕ) (before rest : List Record) (r : Record) → Agrees m → c ≤ operator_of m → before ++ r ∷ rest ≡ record_of m c
    → 1 ≤ k → k ≤ m.nodes → reaches k r ≡ true → LineOf m c k before r
line_of m c k before rest r a l whole low high e =
    let back : k - 1 + 1 ≡ k = omega (arith, low) in
    let in_ : k - 1 < m.nodes = omega (arith, low, high) in
    let all : AreSame (reached k (record_of m c)) (lines_of c (history_at m (k - 1))) =
    subst (λ (j : ℕ). AreSame (reached j (record_of m c)) (lines_of c (history_at m (k - 1)))) back (a.lists.same (k - 1) c in_ l) in
    let here : AreSame (reached k before ++ r ∷ reached k rest) (lines_of c (history_at m (k - 1))) =
    subst (λ (x : List Record). AreSame x (lines_of c (history_at m (k - 1)))) (ap (reached k) (sym whole) ∙ reached_at k before rest r e) all in
    let w = same_at (reached k before) r (reached k rest) (lines_of c (history_at m (k - 1))) here in
    let out : In w.0 (history_at m (k - 1)) × (w.0.caller ≡ c) = lines_out c w.0 (history_at m (k - 1)) (get_in (lines_of c (history_at m (k - 1))) (length (reached k before)) w.0 w.1) in
    record { line = w.0; there = w.1; same = w.2; in_history = out.0; caller = out.1 }

stops_under : (m : Mesh) (k : ℕ) (h : HistoryLine) (late : Bool) (q : Request) → Agrees m → 1 ≤ k → k ≤ m.nodes → In h (history_at m (k - 1)) → h.ask ≡ Act late q → StopsUnder q h.answer
unfolding move_of
stops_under m k h late q a low high i asks kept is =
    let moved : move_of 0 false h.ask h.answer ≡ Some (Stop 0 late q (suc kept)) = ap (λ (z : NodeAnswer). move_of 0 false h.ask z) is
    ∙ ap (λ (z : NodeAsk). move_of 0 false z (Stopped (suc kept))) asks in
    let w : HasRequest h = line_request fresh_cell (history_at m (k - 1)) h 0 false (Stop 0 late q (suc kept)) (a.lists.local (k - 1) (omega (arith, low, high))) i moved refl in
    let one : q ≡ w.request = request_is (sym asks ∙ w.asks) in
    ap (λ (z : Request). is_some (epoch_of z)) one ∙ ap is_some w.of
  where
    request_is : {l1 l2 : Bool} {x y : Request} → Act l1 x ≡ Act l2 y → x ≡ y
    request_is f = cc

-- what is noted of it
pub entry_line : (k : ℕ) (r : Record) (h : HistoryLine) (muted : Bool) (c : ℕ) (late : Bool) (q : Request) → h.caller ≡ c → h.ask ≡ Act late q
    → entry_of (record { node = k; line = h; muted = muted }) ≡ entry_at k (move_of c muted (Act late q) h.answer)
unfolding entry_of
entry_line k r h muted c late q by asks = ap (λ (z : ℕ). entry_at k (move_of z muted h.ask h.answer)) by ∙ ap (λ (z : NodeAsk). entry_at k (move_of c muted z h.answer)) asks

module _ (m : Mesh) (c : ℕ) (a : Agrees m) (mine : c < operator_of m) where
  abbrev n : ℕ
  n = m.nodes

  call_noted : (p : ℕ) (before rest : List Record) (k : ℕ) (q : Request) (t : Told) (ss : List Sign) → before ++ Call k q t ∷ rest ≡ record_of m c
      → 1 ≤ k → k ≤ n → t ≢ told.Dropped → reaches k (Call k q t) ≡ true
      → CallLeft n (entries ss) c k q (heard_of t) (entries (noted_at m c p before k (Call k q t) ss))
  unfolding IsSame
  call_noted p before rest k q t ss whole low high off reach =
      let w : LineOf m c k before (Call k q t) = line_of m c k before rest (Call k q t) a (omega (arith, mine)) whole low high reach in
      let is : entry_by k (Call k q t) (line_for m c k before) ≡ entry_at k (move_of c (was_muted t) (Act false q) w.line.answer) =
      ap (entry_by k (Call k q t)) w.there ∙ entry_line k (Call k q t) w.line (was_muted t) c false q w.caller w.same.0 in
      subst (λ (o : Option Entry). CallLeft n (entries ss) c k q (heard_of t) (entries (sign_onto o c p ss))) (sym is)
      (call_left n c p k q ss t w.line.answer w.same.1 (stops_under m k w.line false q a low high w.in_history w.same.0))

  copy_noted : (p : ℕ) (before rest : List Record) (k : ℕ) (q : Request) (ss : List Sign) → before ++ Late k q ∷ rest ≡ record_of m c → 1 ≤ k → k ≤ n
      → CopyLeft n (entries ss) c k q (entries (noted_at m c p before k (Late k q) ss))
  unfolding IsSame reaches
  copy_noted p before rest k q ss whole low high =
      let w : LineOf m c k before (Late k q) = line_of m c k before rest (Late k q) a (omega (arith, mine)) whole low high (same_test k k refl) in
      let is : entry_by k (Late k q) (line_for m c k before) ≡ entry_at k (move_of c false (Act true q) w.line.answer) =
      ap (entry_by k (Late k q)) w.there ∙ entry_line k (Late k q) w.line false c true q w.caller w.same in
      subst (λ (o : Option Entry). CopyLeft n (entries ss) c k q (entries (sign_onto o c p ss))) (sym is)
      (copy_left n c p k q ss w.line.answer (stops_under m k w.line true q a low high w.in_history w.same))

  -- ## Along the record
  abbrev StandsAt : List Record × List Entry → WriterView → Type 0
  StandsAt x w = Standing n c x.0 x.1 w

  task_begins : (x : List Record × List Entry) (w : WriterView) (t : Task) → HasBody t → StandsAt x w → StandsAt x (writer_begun w t).writer
  task_begins x w t b h = task_stands n c x.0 x.1 w t b h

  abbrev MakerStands : List Record → List Entry → Maker → Type 0
  MakerStands before past mk = Stands StandsAt task_begins (before, past) mk

  no_epoch : (q : Request) (from : ℕ) → q ≡ request.Read from → HasEpoch q → ⊥
  unfolding epoch_of
  no_epoch q from is some = let none : HasEpoch (request.Read from) = subst HasEpoch is some in cc none

  -- a call that was the writer's, or a read
  maker_hears_stands : (mk : Maker) (before : List Record) (past next : List Entry) (k : ℕ) (q : Request) (t : Told) → asks mk.reading mk.writer ≡ Some (k, q) → CallLeft n past c k q (heard_of t) next
      → MakerStands before past mk → MakerStands (before ++ Call k q t ∷ []) next (maker_hears mk k t)
  maker_hears_stands mk before past next k q t e left h =
      hears_stands StandsAt task_begins (before ++ Call k q t ∷ [], next) mk k q t h.bodies h.rests e
      (λ called. call_stands n c before past next mk.writer k q t called left h.writer)
      (λ from is none. read_stands n c before past next mk.writer k q t (heard_of t) (no_epoch q from is) left h.writer)

  abbrev Ends : List Entry → Type 0
  Ends past = (b : Tale) × IsTold n b past

  record_told : (rs : List Record) (mk : Maker) (p : ℕ) (before : List Record) (plan : List Mark) (ss : List Sign) → before ++ rs ≡ record_of m c
      → AreWithin n rs → IsMade mk rs → IsMarked plan before rs
      → MakerStands before (entries ss) mk → Ends (entries (diary m c p before rs ss))
  unfolding diary AreWithin IsMade IsMarked reaches
  record_told [] mk p before plan ss whole w d i h = (h.writer.tale, h.writer.told)
  record_told (Call k q told.Dropped ∷ rs) mk p before plan ss whole w d i h =
      record_told rs (maker_hears mk k told.Dropped) (p + 1) (before ++ Call k q told.Dropped ∷ []) plan ss (append_assoc before (Call k q told.Dropped ∷ []) rs ∙ whole) w.1 d.1 i.1
      (maker_hears_stands mk before (entries ss) (entries ss) k q told.Dropped d.0 (nothing refl (λ some. refl)) h)
  record_told (Call k q (told.Reply x) ∷ rs) mk p before plan ss whole w d i h =
      let t : Told = told.Reply x in
      record_told rs (maker_hears mk k t) (p + 1) (before ++ Call k q t ∷ []) plan (noted_at m c p before k (Call k q t) ss) (append_assoc before (Call k q t ∷ []) rs ∙ whole) w.1 d.1 i.1
      (maker_hears_stands mk before (entries ss) (entries (noted_at m c p before k (Call k q t) ss)) k q t d.0 (call_noted p before rs k q t ss whole w.0.0 w.0.1 (λ e. cc e) (same_test k k refl)) h)
  record_told (Call k q told.Muted ∷ rs) mk p before plan ss whole w d i h =
      let t : Told = told.Muted in
      record_told rs (maker_hears mk k t) (p + 1) (before ++ Call k q t ∷ []) plan (noted_at m c p before k (Call k q t) ss) (append_assoc before (Call k q t ∷ []) rs ∙ whole) w.1 d.1 i.1
      (maker_hears_stands mk before (entries ss) (entries (noted_at m c p before k (Call k q t) ss)) k q t d.0 (call_noted p before rs k q t ss whole w.0.0 w.0.1 (λ e. cc e) (same_test k k refl)) h)
  record_told (Call k q told.Silent ∷ rs) mk p before plan ss whole w d i h =
      let t : Told = told.Silent in
      record_told rs (maker_hears mk k t) (p + 1) (before ++ Call k q t ∷ []) plan (noted_at m c p before k (Call k q t) ss) (append_assoc before (Call k q t ∷ []) rs ∙ whole) w.1 d.1 i.1
      (maker_hears_stands mk before (entries ss) (entries (noted_at m c p before k (Call k q t) ss)) k q t d.0 (call_noted p before rs k q t ss whole w.0.0 w.0.1 (λ e. cc e) (same_test k k refl)) h)
  record_told (Late k q ∷ rs) mk p before plan ss whole w d i h =
      let named = copy_named plan before k q i.0 in
      record_told rs mk (p + 1) (before ++ Late k q ∷ []) plan (noted_at m c p before k (Late k q) ss) (append_assoc before (Late k q ∷ []) rs ∙ whole) w.1 d i.1
      (record {
        bodies = h.bodies;
        writer = copy_stands n c before (entries ss) (entries (noted_at m c p before k (Late k q) ss)) mk.writer k (named.0 - 1) q named.2.1 (copy_noted p before rs k q ss whole w.0.0 w.0.1) h.writer;
        rests = h.rests;
      })
  record_told (Operator k ask done ∷ rs) mk p before plan ss whole w d i h = absurd d
  record_told (Outcome x ∷ rs) mk p before plan ss whole w d i h =
      record_told rs mk (p + 1) (before ++ Outcome x ∷ []) plan ss (append_assoc before (Outcome x ∷ []) rs ∙ whole) w.1 d i
      (record { bodies = h.bodies; writer = other_stands n c before (entries ss) mk.writer (Outcome x) (λ node. unfold calls_to in refl) h.writer; rests = h.rests })

-- ## All actors
no_place : (old : List Entry) (e : Entry) → Earlier (e ∷ old) [] → ⊥
no_place old e p = omega (arith, place_below e p)

-- the tale of no takeover
no_tale : Tale
no_tale = record {
  story = record { takeover = λ k. record { caller = 0; epoch = 0; tasks = []; heard = λ s i. None }; whose = λ k. 0; round = λ k. 0 };
  count = 0;
  top = λ k. 0;
}

pub all_told : (m : Mesh) → Agrees m → (c : ℕ) → c ≤ operator_of m → (b : Tale) × IsTold m.nodes b (entries (all_signs m c))
unfolding all_signs
all_told m a zero l = (no_tale, record { fair = tt; labels = λ old e p. absurd (no_place old e p) })
all_told m a (suc c) l =
    let mine : c < operator_of m = omega (arith, l) in
    let h : (b : Tale) × IsTold m.nodes b (entries (all_signs m c)) = all_told m a c (omega (arith, l)) in
    let d = a.made c mine in
    let s : Standing m.nodes c [] (entries (all_signs m c)) (new_writer m.nodes) =
    record { tale = h.0; told = h.1; status = free refl; sized = new_sized m.nodes; own = λ node i r e some. absurd (unfold calls_to in cc e) } in
    record_told m c a mine (record_of m c) (maker_of d.0 (new_writer m.nodes)) 1 [] (plan_of m c) (all_signs m c) refl (a.lists.within c (omega (arith, mine))) d.2 (a.lists.marked c mine)
    (maker_stands (StandsAt m c a mine) (task_begins m c a mine) d.0 ([], entries (all_signs m c)) (new_writer m.nodes) d.1 s)
