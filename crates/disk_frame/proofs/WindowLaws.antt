-- What stands in a window of bytes stands in the bytes, where the window doesn't end before it.
use Rattle.std.proofs.Common.{◌≡◌, ◌≢◌, ℕ, ◌+◌, ◌≤◌, List, [], ◌∷◌, ◌++◌, length, take, drop, refl, sym, ap, subst, ◌∙◌, arith, append_assoc, length-append}
use Rattle.std.specs.Int.{w32, from_be_bytes}
use Rattle.std.proofs.lemmas.List.{append-nil, drop-append-le, take-append-le, length-drop, take-append-drop, take_at}
use Rattle.journal_core.specs.Views.{BatchView}
use Rattle.disk_frame.specs.declared.frame_cause.FrameCause.{FrameCause}
use Rattle.disk_frame.specs.declared.frame_cause.FrameCause.TheVariants.{Short, Length, Count, Body, Order}
use Rattle.disk_frame.specs.Frames.{frame_bytes, IsTail}
use Rattle.disk_frame.specs.Faults.{HasSeal, told_length, Spells, IsBadFrame}
use Rattle.disk_frame.proofs.SpellLaws.{length-frame_bytes, spelled_tells}

-- a byte that is no seal, or the end of all
pub tail_on : (xs ys : List ℕ) → IsTail xs → (length xs ≡ 0 → ys ≡ []) → IsTail (xs ++ ys)
tail_on [] ys is ends = subst IsTail (sym (ends refl)) tt
tail_on (x ∷ xs) ys is ends = is

seal_on : (xs ys : List ℕ) → HasSeal xs → HasSeal (xs ++ ys)
seal_on [] ys seal = absurd seal
seal_on (x ∷ xs) ys seal = seal

pub spells_on : (xs ys : List ℕ) (b : BatchView) → Spells xs b → Spells (xs ++ ys) b
spells_on xs ys b spells = record {
  fits = spells.fits;
  rest = spells.rest ++ ys;
  spelled = ap (λ (l : List ℕ). l ++ ys) spells.spelled ∙ append_assoc (frame_bytes b) spells.rest ys;
}

-- the length that a frame tells
told_on : (xs ys : List ℕ) → 5 ≤ length xs → told_length (xs ++ ys) ≡ told_length xs
told_on xs ys there =
    ap (λ (l : List ℕ). from_be_bytes w32 (take 4 l)) (drop-append-le 1 xs ys (omega (arith, there)))
    ∙ ap (λ (l : List ℕ). from_be_bytes w32 l) (take-append-le 4 (drop 1 xs) ys (omega (arith, there, length-drop 1 xs)))

-- a frame that lies in the front is one of the front
spells_back : (xs ys : List ℕ) (b : BatchView) → 5 + told_length xs ≤ length xs → Spells (xs ++ ys) b → Spells xs b
spells_back xs ys b there spells =
    let tells = spelled_tells (xs ++ ys) b spells in
    let n : length (frame_bytes b) ≤ length xs = omega (arith, there, length-frame_bytes b, tells.told, told_on xs ys (omega (arith, there))) in
    let front : take (length (frame_bytes b)) xs ≡ frame_bytes b =
    sym (take-append-le (length (frame_bytes b)) xs ys n) ∙ (ap (take (length (frame_bytes b))) spells.spelled ∙ take_at (frame_bytes b) spells.rest (length (frame_bytes b)) refl) in
    record {
      fits = spells.fits;
      rest = drop (length (frame_bytes b)) xs;
      spelled = sym (take-append-drop (length (frame_bytes b)) xs) ∙ ap (λ (l : List ℕ). l ++ drop (length (frame_bytes b)) xs) front;
    }

-- a bad frame, where the front doesn't end inside it
bad_on : (next : ℕ) (xs ys : List ℕ) (cause : FrameCause) → IsBadFrame next xs cause → cause ≢ Short → IsBadFrame next (xs ++ ys) cause
bad_on next xs ys Short bad ne = absurd (ne refl)
bad_on next xs ys Length bad ne = (
  seal_on xs ys bad.0,
  omega (arith, bad.1, told_on xs ys (omega (arith, bad.1)), length-append xs ys),
  λ b spells. bad.2 b (spells_back xs ys b bad.1 spells),
)
bad_on next xs ys Count bad ne = (bad.0, spells_on xs ys bad.0 bad.1, bad.2)
bad_on next xs ys Body bad ne = (bad.0, spells_on xs ys bad.0 bad.1, bad.2)
bad_on next xs ys Order bad ne = (bad.0, spells_on xs ys bad.0 bad.1, bad.2)

-- a bad frame, where the front doesn't end inside it, or the front is all
pub bad_in_all : (next : ℕ) (xs ys : List ℕ) (cause : FrameCause) → IsBadFrame next xs cause → (cause ≡ Short → ys ≡ []) → IsBadFrame next (xs ++ ys) cause
bad_in_all next xs ys Short bad ends = subst (λ (l : List ℕ). IsBadFrame next l Short) (sym (ap (λ (l : List ℕ). xs ++ l) (ends refl) ∙ append-nil xs)) bad
bad_in_all next xs ys Length bad ends = bad_on next xs ys Length bad (λ e. absurd cc)
bad_in_all next xs ys Count bad ends = bad_on next xs ys Count bad (λ e. absurd cc)
bad_in_all next xs ys Body bad ends = bad_on next xs ys Body bad (λ e. absurd cc)
bad_in_all next xs ys Order bad ends = bad_on next xs ys Order bad (λ e. absurd cc)
