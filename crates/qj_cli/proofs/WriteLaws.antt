-- A text that is written through a buffer.
use Rattle.std.proofs.Common.{ℕ, ◌≡◌, ◌+◌, Bool, true, false, List, [], ◌++◌, length, take, drop, Option, Result, Ok, Err, refl, sym, ap, subst, ◌∙◌, arith, inl, inr, ⊎_elim, append-nil}
use Rattle.std.specs.Prelude.{IfOk, OnOk, is_err}
use Rattle.std.specs.Io.KnownBytes.{Appends}
use Rattle.std.proofs.Math.Seq.{take-append-add, take-append_seam}
use Rattle.std.proofs.lemmas.List.{take-append-drop}
use Rattle.std.proofs.KnownBytes.{Appends-nil, Appends-trans}
use Rattle.base_outside.specs.Faults.{CountsFaults, Rose}
use Rattle.base_outside.specs.Whole.{TakesFront}
use Rattle.cli_commands.specs.declared.status.Status.{Status}
use Rattle.cli_commands.specs.declared.status.Status.TheVariants as status
use Rattle.cli_commands.specs.declared.command_fault.CommandFault.{CommandFault}
use Rattle.cli_commands.specs.Uses.{SinkUse}
use Rattle.cli_commands.specs.Told.{TellsText, Told, wrote_text}
use Rattle.qj_cli.specs.Plays.{Writes}
use Rattle.qj_cli.specs.Written.{Writing, Gives}

-- what waits and a piece were written, or a write failed
pub wrote :
    {E : Type 0} (before now : Option (List ℕ)) (faults after : ℕ) (held held_now bytes : List ℕ) (was is : Bool) (r : Result (Unit {0}) E)
    → was ≡ false → is ≡ is_err r → held_now ≡ []
    → OnOk r (Appends before now (held ++ bytes)) → TakesFront before now (held ++ bytes) → CountsFaults faults after r
    → Gives (record { taken = before; faults = faults; held = held; failed = was }) (record { taken = now; faults = after; held = held_now; failed = is }) bytes
wrote before now faults after held held_now bytes was is (Ok u) sound f none all front cause = record {
  front = held ++ bytes;
  rest = [];
  took = all;
  parts = sym (append-nil (held ++ bytes));
  never_falls = cause.never_falls;
  sound = λ e. (sound, sym none, cause.ok);
  broken = λ e. absurd (cc (e, f));
  after = λ e. absurd (cc (e, sound));
}
wrote before now faults after held held_now bytes was is (Err x) sound f none all front cause = record {
  front = take front.0 (held ++ bytes);
  rest = drop front.0 (held ++ bytes);
  took = front.1;
  parts = sym (take-append-drop front.0 (held ++ bytes));
  never_falls = cause.never_falls;
  sound = λ e. absurd (cc (e, f));
  broken = λ e. inr cause.failed;
  after = λ e. absurd (cc (e, sound));
}

-- a piece waits
pub waits : (x : Writing) (held bytes : List ℕ) → held ≡ x.held ++ bytes → Gives x (record x { held = held }) bytes
waits x held bytes e = record {
  front = [];
  rest = held;
  took = Appends-nil x.taken;
  parts = sym e;
  never_falls = omega arith;
  sound = λ s. (s, refl, refl);
  broken = λ b. inl b;
  after = λ b. refl;
}

-- after a write that failed nothing is written
pub swallows : (x : Writing) (bytes : List ℕ) → x.failed ≡ true → Gives x x bytes
swallows x bytes f = record {
  front = [];
  rest = x.held ++ bytes;
  took = Appends-nil x.taken;
  parts = refl;
  never_falls = omega arith;
  sound = λ s. absurd (cc (f, s));
  broken = λ b. inl b;
  after = λ b. refl;
}

-- ## The end of a text
module _ (before mid : Option (List ℕ)) (f g k : ℕ) (held text : List ℕ) (failed : Bool)
    (gives : Gives (record { taken = before; faults = f; held = []; failed = false }) (record { taken = mid; faults = g; held = held; failed = failed }) text) where
  -- what still waited was written
  pub ends : (now : Option (List ℕ)) (h m n : ℕ) (s : Status) → failed ≡ false
      → TellsText status.Ok held s (record { before = mid; now = now; faults_before = g; faults_now = h; kept_before = m; kept_now = n })
      → TellsText status.Ok text s (record { before = before; now = now; faults_before = f; faults_now = h; kept_before = k; kept_now = n })
  ends now h m n s sound (inl w) =
      let so = gives.sound sound in
      let all : gives.front ++ held ≡ text = ap (λ (t : List ℕ). gives.front ++ t) (sym so.1) ∙ sym gives.parts in
      inl (w.0, w.1 ∙ so.2, subst (λ (t : List ℕ). Appends before now t) all (Appends-trans before mid now gives.front held gives.took w.2), w.3)
  ends now h m n s sound (inr w) =
      let so = gives.sound sound in
      let all : gives.front ++ held ≡ text = ap (λ (t : List ℕ). gives.front ++ t) (sym so.1) ∙ sym gives.parts in
      let front : gives.front ++ take w.2.0 held ≡ take (length gives.front + w.2.0) text =
      sym (take-append-add gives.front held w.2.0) ∙ ap (take (length gives.front + w.2.0)) all in
      inr (
        w.0,
        subst (λ (n : ℕ). Rose n h) so.2 w.1,
        (length gives.front + w.2.0, subst (λ (t : List ℕ). Appends before now t) front (Appends-trans before mid now gives.front (take w.2.0 held) gives.took w.2.1)),
      )

  -- or a write had failed
  pub breaks : (n : ℕ) → failed ≡ true → TellsText status.Ok text status.WriteFault (record { before = before; now = mid; faults_before = f; faults_now = g; kept_before = k; kept_now = n })
  breaks n broken =
      let front : gives.front ≡ take (length gives.front) text = sym (take-append_seam gives.front gives.rest) ∙ ap (take (length gives.front)) (sym gives.parts) in
      let rose : Rose f g = ⊎_elim (λ (e : false ≡ true). absurd (cc e)) (λ (r : Rose f g). r) (gives.broken broken) in
      inr (refl, rose, (length gives.front, subst (λ (t : List ℕ). Appends before mid t) front gives.took))

-- ## What is due
-- the text that is due was written
pub writes : {W : Type 0} (r : Result Status W) (text : List ℕ) (Gives : Status → List ℕ → Type 0) (Within : Type 0) (sink : SinkUse) → (Within → Gives status.Ok text)
    → IfOk r (λ s. TellsText status.Ok text s sink) → IfOk r (λ s. Within) → IfOk r (λ s. Writes Gives s sink)
writes (Ok s) text Gives Within sink gives tells within = (status.Ok, text, gives within, tells)
writes (Err e) text Gives Within sink gives tells within = tt

-- it was told how that ended
pub told_written : (Gives : Status → List ℕ → Type 0) (Faults : CommandFault → Type 0) (s : Status) (sink : SinkUse) → Writes Gives s sink → Told Gives Faults s sink
told_written Gives Faults s sink w = wrote_text w.0 w.1 w.2 w.3
