-- A frame that is spelled, and what it tells.
use Rattle.std.proofs.Common.{◌≡◌, ℕ, suc, ◌+◌, ◌^◌, ◌<◌, ◌≤◌, List, [], ◌∷◌, ◌++◌, length, take, drop, Some, refl, sym, ap, subst, ◌∙◌, arith}
use Rattle.std.specs.Int.{w32, from_be_bytes, to_be_bytes}
use Rattle.std.proofs.lemmas.Option.{same_Some}
use Rattle.std.proofs.lemmas.List.{take_at, take-append-drop, length-append, length-take, length-drop}
use Rattle.std.proofs.lemmas.Nat.{from_be_bytes-to_be_bytes_4}
use Rattle.base_words.specs.Fields.{IsBytes}
use Rattle.base_words.proofs.FieldLaws.{Front, bytes_before, bytes_after, field32}
use Rattle.journal_core.specs.Views.{BatchView}
use Rattle.disk_frame.specs.Frames.{inner_bytes, frame_bytes}
use Rattle.disk_frame.specs.Faults.{HasSeal, told_length, Spells}
use Rattle.disk_frame.specs.Reading.{batch_in}
use Rattle.disk_frame.proofs.EntryLaws.{batch_again, batch_takes}

pub length-frame_bytes : (b : BatchView) → length (frame_bytes b) ≡ 5 + length (inner_bytes b)
unfolding frame_bytes
length-frame_bytes b = omega arith

-- what the bytes tell that begin with the frame of a batch
pub record Tells (bytes : List ℕ) (b : BatchView) : Type 0 where
  pub seal_is : HasSeal bytes
  pub told : told_length bytes ≡ length (inner_bytes b)
  pub there : 5 + told_length bytes ≤ length bytes
  pub inner : take (told_length bytes) (drop 5 bytes) ≡ inner_bytes b

frame_tells : (b : BatchView) (rest : List ℕ) → length (inner_bytes b) < 2 ^ 32 → Tells (frame_bytes b ++ rest) b
unfolding frame_bytes
frame_tells b rest lt =
    let told : told_length (frame_bytes b ++ rest) ≡ length (inner_bytes b) = from_be_bytes-to_be_bytes_4 (length (inner_bytes b)) lt in
    record {
      seal_is = refl;
      told = told;
      there = omega (arith, told, length-append (inner_bytes b) rest);
      inner = ap (λ (n : ℕ). take n (inner_bytes b ++ rest)) told ∙ take_at (inner_bytes b) rest (length (inner_bytes b)) refl;
    }

pub spelled_tells : (bytes : List ℕ) (b : BatchView) → Spells bytes b → Tells bytes b
spelled_tells bytes b s = subst (λ (x : List ℕ). Tells x b) (sym s.spelled) (frame_tells b s.rest s.fits.whole)

pub spelled_batch : (bytes : List ℕ) (b : BatchView) → Spells bytes b → batch_in (take (told_length bytes) (drop 5 bytes)) ≡ Some b
spelled_batch bytes b s = ap batch_in (spelled_tells bytes b s).inner ∙ batch_again b s.fits

-- bytes begin with the frame of one batch at most
pub one_spelling : (bytes : List ℕ) (b c : BatchView) → Spells bytes b → Spells bytes c → b ≡ c
one_spelling bytes b c s t = same_Some b c (sym (spelled_batch bytes b s) ∙ spelled_batch bytes c t)

pub spells_from : (bytes : List ℕ) (b : BatchView) → IsBytes bytes → HasSeal bytes → 5 + told_length bytes ≤ length bytes → batch_in (take (told_length bytes) (drop 5 bytes)) ≡ Some b → Spells bytes b
unfolding frame_bytes
spells_from [] b fits is_seal there e = absurd is_seal
spells_from (byte ∷ bytes) b fits is_seal there e =
    let told : ℕ = from_be_bytes w32 (take 4 bytes) in
    let fit : IsBytes bytes = λ i. fits (suc i) in
    let long : 4 + from_be_bytes w32 (take 4 bytes) ≤ length bytes = omega (arith, there) in
    let len : length (take (from_be_bytes w32 (take 4 bytes)) (drop 4 bytes)) ≡ from_be_bytes w32 (take 4 bytes) =
    omega (arith, length-take (from_be_bytes w32 (take 4 bytes)) (drop 4 bytes), length-drop 4 bytes, long) in
    let size : Front w32 4 (2 ^ 32) bytes (from_be_bytes w32 (take 4 bytes)) (drop 4 bytes) = field32.found bytes fit (omega (arith, long)) in
    let below : length (take (from_be_bytes w32 (take 4 bytes)) (drop 4 bytes)) < 2 ^ 32 = subst (λ (k : ℕ). k < 2 ^ 32) (sym len) size.small in
    let t = batch_takes (take (from_be_bytes w32 (take 4 bytes)) (drop 4 bytes)) b (bytes_before (from_be_bytes w32 (take 4 bytes)) (drop 4 bytes) (bytes_after 4 bytes fit)) below e in
    let told_is : from_be_bytes w32 (take 4 bytes) ≡ length (inner_bytes b) = sym len ∙ ap length t.0 in
    let rest : List ℕ = drop (from_be_bytes w32 (take 4 bytes)) (drop 4 bytes) in
    let split : drop 4 bytes ≡ inner_bytes b ++ drop (from_be_bytes w32 (take 4 bytes)) (drop 4 bytes) =
    sym (take-append-drop (from_be_bytes w32 (take 4 bytes)) (drop 4 bytes))
    ∙ ap (λ (x : List ℕ). x ++ drop (from_be_bytes w32 (take 4 bytes)) (drop 4 bytes)) t.0 in
    let tail : bytes ≡ to_be_bytes w32 (length (inner_bytes b)) ++ (inner_bytes b ++ drop (from_be_bytes w32 (take 4 bytes)) (drop 4 bytes)) =
    size.spelled ∙ (λ i. to_be_bytes w32 (told_is i) ++ split i) in
    record {
      fits = t.1;
      rest = drop (from_be_bytes w32 (take 4 bytes)) (drop 4 bytes);
      spelled = λ i. is_seal i ∷ tail i;
    }
