-- A byte in the place of those that were written and not synced: what a crash may leave.
use Rattle.std.proofs.Common.{◌≡◌, ℕ, zero, suc, ◌+◌, ◌-◌, ◌≤◌, List, [], ◌∷◌, ◌++◌, refl, ap, sym, ◌∙◌, subst, arith, take, drop, length, replicate, length-take}
use Rattle.std.specs.Prelude.{min, map, Option, Some, None}
use Rattle.base_disk.specs.Files.{IsTorn, IsCut}
use Rattle.base_disk.specs.FileView.{Step, Wrote, CutTo, Allows, Image, filled, filled_by}
use Rattle.base_disk.specs.Change.{Stage, content, undone, step_of, Leads}
use Rattle.base_disk.specs.declared.change.Change.{Change}

module _ (byte : ℕ) where
  pub length-filled : (at len : ℕ) (xs : List ℕ) → length (filled byte at len xs) ≡ length xs
  length-filled at len [] = refl
  length-filled zero zero (x ∷ xs) = refl
  length-filled zero (suc len) (x ∷ xs) = ap suc (length-filled zero len xs)
  length-filled (suc at) len (x ∷ xs) = ap suc (length-filled at len xs)

  filled_none : (at : ℕ) (xs : List ℕ) → filled byte at 0 xs ≡ xs
  filled_none at [] = refl
  filled_none zero (x ∷ xs) = refl
  filled_none (suc at) (x ∷ xs) = ap (λ (l : List ℕ). x ∷ l) (filled_none at xs)

  pub filled_past : (at len : ℕ) (xs : List ℕ) → length xs ≤ at → filled byte at len xs ≡ xs
  filled_past at len [] le = refl
  filled_past zero len (x ∷ xs) le = absurd (omega arith)
  filled_past (suc at) len (x ∷ xs) le = ap (λ (l : List ℕ). x ∷ l) (filled_past at len xs (omega arith))

  take-filled : (n at len : ℕ) (xs : List ℕ) → take n (filled byte at len xs) ≡ filled byte at len (take n xs)
  take-filled zero at len [] = refl
  take-filled zero zero zero (x ∷ xs) = refl
  take-filled zero zero (suc len) (x ∷ xs) = refl
  take-filled zero (suc at) len (x ∷ xs) = refl
  take-filled (suc n) at len [] = refl
  take-filled (suc n) zero zero (x ∷ xs) = refl
  take-filled (suc n) zero (suc len) (x ∷ xs) = ap (λ (l : List ℕ). byte ∷ l) (take-filled n zero len xs)
  take-filled (suc n) (suc at) len (x ∷ xs) = ap (λ (l : List ℕ). x ∷ l) (take-filled n at len xs)

  drop-filled : (n at len : ℕ) (xs : List ℕ) → drop n (filled byte at len xs) ≡ filled byte (at - n) (len - (n - at)) (drop n xs)
  drop-filled zero at len xs =
      ap (λ (k : ℕ). filled byte at k xs) (let e : len ≡ len - (0 - at) = omega arith in e) ∙ ap (λ (k : ℕ). filled byte k (len - (0 - at)) xs) (let e : at ≡ at - 0 = omega arith in e)
  drop-filled (suc n) at len [] = refl
  drop-filled (suc n) zero zero (x ∷ xs) =
      sym (ap (λ (k : ℕ). filled byte (0 - suc n) k (drop n xs)) (let e : 0 - (suc n - 0) ≡ 0 = omega arith in e) ∙ filled_none (0 - suc n) (drop n xs))
  drop-filled (suc n) zero (suc len) (x ∷ xs) =
      drop-filled n zero len xs ∙ ap (λ (k : ℕ). filled byte (0 - n) k (drop n xs)) (let e : len - (n - 0) ≡ suc len - (suc n - 0) = omega arith in e)
      ∙ ap (λ (k : ℕ). filled byte k (suc len - (suc n - 0)) (drop n xs)) (let e : 0 - n ≡ 0 - suc n = omega arith in e)
  drop-filled (suc n) (suc at) len (x ∷ xs) =
      drop-filled n at len xs ∙ ap (λ (k : ℕ). filled byte (at - n) k (drop n xs)) (let e : len - (n - at) ≡ len - (suc n - suc at) = omega arith in e)
      ∙ ap (λ (k : ℕ). filled byte k (len - (suc n - suc at)) (drop n xs)) (let e : at - n ≡ suc at - suc n = omega arith in e)

  -- what `fill` of a part writes
  pub filled_is : (at len k : ℕ) (xs : List ℕ) → k ≡ min len (length xs - at) → take at xs ++ replicate k byte ++ drop (at + k) xs ≡ filled byte at len xs
  filled_is zero len k [] is = ap (λ (n : ℕ). [] ++ replicate n byte ++ drop {A = ℕ} (0 + n) []) (let e : k ≡ 0 = omega arith in e)
  filled_is (suc at) len k [] is = ap (λ (n : ℕ). [] ++ replicate n byte ++ drop {A = ℕ} (suc at + n) []) (let e : k ≡ 0 = omega arith in e)
      ∙ ap (λ (n : ℕ). drop {A = ℕ} n []) (let e : suc at + 0 ≡ suc at = omega arith in e)
  filled_is zero zero k (x ∷ xs) is = ap (λ (n : ℕ). [] ++ replicate n byte ++ drop (0 + n) (x ∷ xs)) (let e : k ≡ 0 = omega arith in e)
  filled_is zero (suc len) zero (x ∷ xs) is = absurd (omega arith)
  filled_is zero (suc len) (suc k) (x ∷ xs) is =
      ap (λ (n : ℕ). replicate (suc k) byte ++ drop n (x ∷ xs)) (let e : 0 + suc k ≡ suc (0 + k) = omega arith in e)
      ∙ ap (λ (l : List ℕ). byte ∷ l) (filled_is zero len k xs (omega arith))
  filled_is (suc at) len k (x ∷ xs) is =
      ap (λ (n : ℕ). take (suc at) (x ∷ xs) ++ replicate k byte ++ drop n (x ∷ xs)) (let e : suc at + k ≡ suc (at + k) = omega arith in e)
      ∙ ap (λ (l : List ℕ). x ∷ l) (filled_is at len k xs (omega arith))

  -- a write that was cut short still is one where one byte fills one range both before and after it
  torn_filled : (at n a m : ℕ) (x y : List ℕ) → IsTorn at n x y → IsTorn at n (filled byte a m x) (filled byte a m y)
  torn_filled at n a m x y torn = record {
    before = take-filled at a m y ∙ ap (λ (l : List ℕ). filled byte a m l) torn.before ∙ sym (take-filled at a m x);
    after = drop-filled (at + n) a m y ∙ ap (λ (l : List ℕ). filled byte (a - (at + n)) (m - ((at + n) - a)) l) torn.after ∙ sym (drop-filled (at + n) a m x);
    no_shorter = omega (arith, torn.no_shorter, length-filled a m x, length-filled a m y);
    no_longer = omega (arith, torn.no_longer, length-filled a m x, length-filled a m y);
  }

  -- the byte in the range of the write itself
  torn_then : (at n : ℕ) (x y : List ℕ) → IsTorn at n x y → IsTorn at n x (filled byte at n y)
  torn_then at n x y torn = record {
    before = take-filled at at n y ∙ filled_past at n (take at y) (omega (arith, length-take at y)) ∙ torn.before;
    after = drop-filled (at + n) at n y ∙ ap (λ (k : ℕ). filled byte (at - (at + n)) k (drop (at + n) y))
        (let e : n - ((at + n) - at) ≡ 0 = omega arith in e) ∙ filled_none (at - (at + n)) (drop (at + n) y) ∙ torn.after;
    no_shorter = omega (arith, torn.no_shorter, length-filled at n y);
    no_longer = omega (arith, torn.no_longer, length-filled at n y);
  }

  cut_filled : (to a m : ℕ) (x y : List ℕ) → IsCut to x y → IsCut to (filled byte a m x) (filled byte a m y)
  cut_filled to a m x y cut = record {
    no_shorter = omega (arith, cut.no_shorter, length-filled a m x, length-filled a m y);
    front = ap (λ (k : ℕ). take k (filled byte a m x)) (length-filled a m y) ∙ take-filled (length y) a m x ∙ ap (λ (l : List ℕ). filled byte a m l) cut.front;
  }

  torn_filled_by : (at n : ℕ) (steps : List Step) (x y : List ℕ) → IsTorn at n x y → IsTorn at n (filled_by byte steps x) (filled_by byte steps y)
  torn_filled_by at n [] x y torn = torn
  torn_filled_by at n (Wrote a m ∷ steps) x y torn = torn_filled_by at n steps (filled byte a m x) (filled byte a m y) (torn_filled at n a m x y torn)
  torn_filled_by at n (CutTo to ∷ steps) x y torn = torn_filled_by at n steps x y torn

  cut_filled_by : (to : ℕ) (steps : List Step) (x y : List ℕ) → IsCut to x y → IsCut to (filled_by byte steps x) (filled_by byte steps y)
  cut_filled_by to [] x y cut = cut
  cut_filled_by to (Wrote a m ∷ steps) x y cut = cut_filled_by to steps (filled byte a m x) (filled byte a m y) (cut_filled to a m x y cut)
  cut_filled_by to (CutTo t ∷ steps) x y cut = cut_filled_by to steps x y cut

  filled_by-append : (steps more : List Step) (xs : List ℕ) → filled_by byte (steps ++ more) xs ≡ filled_by byte more (filled_by byte steps xs)
  filled_by-append [] more xs = refl
  filled_by-append (Wrote a m ∷ steps) more xs = filled_by-append steps more (filled byte a m xs)
  filled_by-append (CutTo to ∷ steps) more xs = filled_by-append steps more xs

  -- a step, where what was written before it and in it has the byte
  allowed : (done : List Step) (step : Step) (x y : List ℕ) → Allows step (Some x) (Some y) → Allows step (Some (filled_by byte done x)) (Some (filled_by byte (done ++ step ∷ []) y))
  allowed done (Wrote at n) x y torn =
      subst (λ (l : List ℕ). IsTorn at n (filled_by byte done x) l) (sym (filled_by-append done (Wrote at n ∷ []) y))
      (torn_then at n (filled_by byte done x) (filled_by byte done y) (torn_filled_by at n done x y torn))
  allowed done (CutTo to) x y cut =
      subst (λ (l : List ℕ). IsCut to (filled_by byte done x) l) (sym (filled_by-append done (CutTo to ∷ []) y)) (cut_filled_by to done x y cut)

  image_from : (done : List Step) (first : List ℕ) (cs : List Change) (s : Stage) → Leads (Some first) cs s
      → Image (Some (filled_by byte done first)) (map step_of cs) (Some (filled_by byte (done ++ map step_of cs) (content s)))
  image_from done first [] s leads = ap (λ (l : List Step). Some (filled_by byte l (content s))) (append_nil done) ∙ sym (ap (λ (o : Option (List ℕ)). option_filled o) leads)
    where
      append_nil : (l : List Step) → l ++ [] ≡ l
      append_nil [] = refl
      append_nil (x ∷ l) = ap (λ (m : List Step). x ∷ m) (append_nil l)

      option_filled : Option (List ℕ) → Option (List ℕ)
      option_filled None = None
      option_filled (Some l) = Some (filled_by byte done l)
  image_from done first (c ∷ cs) s leads = (
    Some (filled_by byte (done ++ step_of c ∷ []) (content (undone cs s))),
    allowed done (step_of c) first (content (undone cs s)) leads.0,
    subst (λ (l : List Step). Image (Some (filled_by byte (done ++ step_of c ∷ []) (content (undone cs s)))) (map step_of cs)
        (Some (filled_by byte l (content s)))) (assoc done (step_of c) (map step_of cs))
        (image_from (done ++ step_of c ∷ []) (content (undone cs s)) cs s leads.1),
  )
    where
      assoc : (l : List Step) (x : Step) (m : List Step) → (l ++ x ∷ []) ++ m ≡ l ++ x ∷ m
      assoc [] x m = refl
      assoc (y ∷ l) x m = ap (λ (r : List Step). y ∷ r) (assoc l x m)

  -- all that was written and not synced may be this byte
  pub fill_image : (first : Option (List ℕ)) (cs : List Change) (s : Stage) → Leads first cs s → Image first (map step_of cs) (Some (filled_by byte (map step_of cs) (content s)))
  fill_image (Some first) cs s leads = image_from [] first cs s leads
  fill_image None [] s leads = absurd (cc)
  fill_image None (c ∷ cs) s leads = (
    Some (filled_by byte (step_of c ∷ []) (content (undone cs s))),
    first_write (step_of c) (content (undone cs s)) leads.0,
    image_from (step_of c ∷ []) (content (undone cs s)) cs s leads.1,
  )
    where
      first_write : (step : Step) (y : List ℕ) → Allows step None (Some y) → Allows step None (Some (filled_by byte (step ∷ []) y))
      first_write (Wrote at n) y torn = torn_then at n [] y torn
      first_write (CutTo to) y cut = cut
