-- A mesh that agrees shows no fault of a disk, no lack of memory and no bad file.
use Rattle.std.proofs.Common.{◌≡◌, ℕ, suc, ◌+◌, ◌-◌, ◌<◌, ◌≤◌, List, [], ◌∷◌, Bool, true, false, cond, filter, Some, None, refl, sym, subst, arith, inl, inr}
use Rattle.std.specs.Prelude.{Option, nat_lt, ◌==◌}
use Rattle.std.specs.List.{All}
use Rattle.std.proofs.lemmas.List.Elements.{All-nil, All-cons, All-filter, All-from_get_or, All-get_or}
use Rattle.std.proofs.lemmas.Bool.Decides.{eqb_tells}
use Rattle.journal_core.specs.declared.node_state.NodeState.{NodeState}
use Rattle.journal_core.specs.declared.request.Request.{Request}
use Rattle.journal_core.proofs.StepLaws.{step_own}
use Rattle.journal_history.specs.declared.node_ask.NodeAsk.{NodeAsk}
use Rattle.journal_history.specs.declared.node_ask.NodeAsk.TheVariants.{Act, Kill, Restart, Arm}
use Rattle.journal_history.specs.declared.node_ask.NodeAnswer.{NodeAnswer}
use Rattle.journal_history.specs.declared.history_line.HistoryLine.{HistoryLine}
use Rattle.journal_history.specs.declared.record.Record.{Record}
use Rattle.journal_history.specs.declared.record.Record.TheVariants.{Call, Late, Operator, Outcome}
use Rattle.journal_history.specs.declared.record.Told.{Told}
use Rattle.journal_history.specs.declared.record.Told.TheVariants as told
use Rattle.journal_history.specs.declared.arming.Arming.{Arming}
use Rattle.journal_history.specs.Cell.{Cell, fresh_cell, Taken, replies, stops, kept_by, count_request, take_request, take_kill, started_again, take_arming, cell_takes, IsLocalRun}
use Rattle.mesh.specs.declared.whole.Mesh.{Mesh}
use Rattle.mesh.specs.Agree.{Agrees, history_at, record_of, operator_of}
use Rattle.mesh.specs.Matches.{reaches, reached, lines_of, StandsFor, IsSame, AreSame, IsWithin, AreWithin}
use Rattle.play_model.specs.Faultless.{IsSound, AnswersSoundly, IsSoundlyTold, TellsSoundly, ShowsNoFault}

-- ## One node
either : (P : Taken → Type 0) (b : Bool) (x y : Taken) → P x → P y → P (cond b x y)
either P true x y h k = h
either P false x y h k = k

counted_sound : (s : NodeState) (r : Request) (o : Option Arming) → IsSound (count_request s r o).answer
counted_sound s r None = step_own s r
counted_sound s r (Some a) =
    either (λ t. IsSound t.answer) (nat_lt 1 a.calls) (replies s r (Some (record a { calls = a.calls - 1 }))) (stops s r (kept_by a.stop s r)) (step_own s r) tt

requested_sound : (up : Bool) (c : Cell) (r : Request) → IsSound (take_request up c r).answer
requested_sound true c r = counted_sound c.state r c.arming
requested_sound false c r = step_own c.state r

killed_sound : (up : Bool) (c : Cell) → IsSound (take_kill up c).answer
killed_sound true c = tt
killed_sound false c = tt

restarted_sound : (up : Bool) (c : Cell) → IsSound (started_again up c).answer
restarted_sound true c = tt
restarted_sound false c = tt

armed_sound : (up : Bool) (c : Cell) (a : Arming) → IsSound (take_arming up c a).answer
armed_sound true c a = tt
armed_sound false c a = tt

taken_sound : (c : Cell) (ask : NodeAsk) → IsSound (cell_takes c ask).answer
unfolding cell_takes
taken_sound c (Act late r) = requested_sound c.state.up c r
taken_sound c Kill = killed_sound c.state.up c
taken_sound c Restart = restarted_sound c.state.up c
taken_sound c (Arm calls stop) = armed_sound c.state.up c (record { calls = calls; stop = stop })

run_sound : (c : Cell) (hs : List HistoryLine) → IsLocalRun c hs → All AnswersSoundly hs
unfolding IsLocalRun
run_sound c [] run = All-nil AnswersSoundly
run_sound c (h ∷ hs) run =
    All-cons AnswersSoundly h hs (subst (λ (a : NodeAnswer). IsSound a) (sym run.0) (taken_sound c h.ask)) (run_sound (cell_takes c h.ask).cell hs run.1)

-- ## What callers were told
told_sound : (t : Told) (a : NodeAnswer) → StandsFor t a → IsSound a → IsSoundlyTold t
told_sound (told.Reply reply) a e sound = subst (λ (x : NodeAnswer). IsSound x) e sound
told_sound told.Dropped a e sound = tt
told_sound told.Muted a e sound = tt
told_sound told.Silent a e sound = tt

line_sound : (r : Record) (h : HistoryLine) → IsSame r h → AnswersSoundly h → TellsSoundly r
unfolding IsSame
line_sound (Call node q t) h same sound = told_sound t h.answer same.1 sound
line_sound (Late node q) h same sound = tt
line_sound (Operator node ask done) h same sound = tt
line_sound (Outcome text) h same sound = tt

lines_sound : (rs : List Record) (hs : List HistoryLine) → AreSame rs hs → All AnswersSoundly hs → All TellsSoundly rs
unfolding AreSame
lines_sound [] hs same sound = All-nil TellsSoundly
lines_sound (r ∷ rs) [] same sound = absurd same
lines_sound (r ∷ rs) (h ∷ hs) same sound =
    All-cons TellsSoundly r rs (line_sound r h same.0 (All-get_or AnswersSoundly (h ∷ hs) 0 h (omega arith) sound))
    (lines_sound rs hs same.1 (All-from_get_or AnswersSoundly hs h (λ i l. All-get_or AnswersSoundly (h ∷ hs) (suc i) h (omega (arith, l)) sound)))

-- what holds of the lines to each node holds of all
abbrev AreSoundAt : ℕ → List Record → Type 0
AreSoundAt node rs = All TellsSoundly (reached node rs)

kept_rest : (b : Bool) (r : Record) (rs : List Record) → All TellsSoundly (cond b (r ∷ rs) rs) → All TellsSoundly rs
kept_rest false r rs h = h
kept_rest true r rs h = All-from_get_or TellsSoundly rs r (λ i l. All-get_or TellsSoundly (r ∷ rs) (suc i) r (omega (arith, l)) h)

kept_first : (b : Bool) (r : Record) (rs : List Record) → b ≡ true → All TellsSoundly (cond b (r ∷ rs) rs) → TellsSoundly r
kept_first false r rs e h = cc
kept_first true r rs e h = All-get_or TellsSoundly (r ∷ rs) 0 r (omega arith) h

reaches_it : (k : ℕ) (q : Request) (t : Told) → (t ≡ told.Dropped → ⊥) → reaches k (Call k q t) ≡ true
unfolding reaches
reaches_it k q (told.Reply reply) n = elim (eqb_tells k k) [ inl p ↦ p.0 | inr p ↦ absurd (p.1 refl) ]
reaches_it k q told.Dropped n = absurd (n refl)
reaches_it k q told.Muted n = elim (eqb_tells k k) [ inl p ↦ p.0 | inr p ↦ absurd (p.1 refl) ]
reaches_it k q told.Silent n = elim (eqb_tells k k) [ inl p ↦ p.0 | inr p ↦ absurd (p.1 refl) ]

call_sound : (n k : ℕ) (q : Request) (reply : Told) (rs : List Record) → (reply ≡ told.Dropped → ⊥) → (1 ≤ k) × (k ≤ n)
    → ((i : ℕ) → i < n → AreSoundAt (i + 1) (Call k q reply ∷ rs)) → IsSoundlyTold reply
unfolding reached
call_sound n k q reply rs heard within each =
    let at : (k - 1) + 1 ≡ k = omega (arith, within.0) in
    let here : AreSoundAt k (Call k q reply ∷ rs) =
    subst (λ (i : ℕ). AreSoundAt i (Call k q reply ∷ rs)) at (each (k - 1) (omega (arith, within.0, within.1))) in
    kept_first (reaches k (Call k q reply)) (Call k q reply) (filter (reaches k) rs) (reaches_it k q reply heard) here

first_sound : (n : ℕ) (r : Record) (rs : List Record) → IsWithin n r → ((i : ℕ) → i < n → AreSoundAt (i + 1) (r ∷ rs)) → TellsSoundly r
first_sound n (Call k q (told.Reply reply)) rs within each = call_sound n k q (told.Reply reply) rs (λ e. cc) within each
first_sound n (Call k q told.Dropped) rs within each = tt
first_sound n (Call k q told.Muted) rs within each = tt
first_sound n (Call k q told.Silent) rs within each = tt
first_sound n (Late k q) rs within each = tt
first_sound n (Operator k ask done) rs within each = tt
first_sound n (Outcome text) rs within each = tt

rest_sound : (node : ℕ) (r : Record) (rs : List Record) → AreSoundAt node (r ∷ rs) → AreSoundAt node rs
unfolding reached
rest_sound node r rs h = kept_rest (reaches node r) r (filter (reaches node) rs) h

record_sound : (n : ℕ) (rs : List Record) → AreWithin n rs → ((i : ℕ) → i < n → AreSoundAt (i + 1) rs) → All TellsSoundly rs
unfolding AreWithin
record_sound n [] within each = All-nil TellsSoundly
record_sound n (r ∷ rs) within each =
    All-cons TellsSoundly r rs (first_sound n r rs within.0 each) (record_sound n rs within.1 (λ i l. rest_sound (i + 1) r rs (each i l)))

-- ## The mesh
module _ (m : Mesh) (agrees : Agrees m) where
  node_sound : (i : ℕ) → i < m.nodes → All AnswersSoundly (history_at m i)
  node_sound i l = run_sound fresh_cell (history_at m i) (agrees.lists.local i l)

  caller_sound : (c : ℕ) → c ≤ operator_of m → All TellsSoundly (record_of m c)
  unfolding lines_of
  caller_sound c l =
      record_sound m.nodes (record_of m c) (agrees.lists.within c l)
      (λ i below. lines_sound (reached (i + 1) (record_of m c)) (lines_of c (history_at m i)) (agrees.lists.same i c below l)
      (All-filter (λ h. h.caller == c) AnswersSoundly (history_at m i) (node_sound i below)))

  pub shows_no_fault : ShowsNoFault m
  shows_no_fault = record {
    histories = All-from_get_or (All AnswersSoundly) m.histories [] (λ i l. let e = agrees.histories in node_sound i (omega (arith, e, l)));
    records = All-from_get_or (All TellsSoundly) m.records [] (λ c l. let e = agrees.records in caller_sound c (omega (arith, e, l)));
  }
