-- What is held of a line: the replay of its first entries, and images of such replays.
use Rattle.std.proofs.Common.{◌≡◌, ℕ, zero, suc, ◌+◌, List, [], ◌∷◌, ◌++◌, Bool, true, false, cond, refl, sym, ap, ◌∙◌, subst, arith, length, length-append, take}
use Rattle.std.specs.Prelude.{Some, None, ◌==◌, nat_lt}
use Rattle.edit_ops.specs.declared.op.Op.TheVariants.{StartLogSegment, EndLogSegment}
use Rattle.ns_tree.specs.Space.{Space, empty_space}
use Rattle.ns_edits.specs.Admit.{admit_op, admit_of}
use Rattle.ns_edits.specs.Apply.{apply_op, apply_of}
use Rattle.ns_edits.specs.Replay.{Image, entered, replay_from, replay}
use Rattle.ns_edits.proofs.Splits.{replay_one, log_joins}
use Rattle.ns_edits.proofs.Decodes.{start_decodes, end_decodes}
use Rattle.ns_edits.proofs.Calls.{enters}
use Rattle.play_names.specs.Holding.{Holding, Free, image_put, save_image, load_image, reload_image}
use Rattle.play_model.specs.Safe.{AllOn}

-- ## The records of a segment's ends
pub start_entered : (t : ℕ) (s : Space) → entered t (24 ∷ []) s ≡ Some s
unfolding admit_of admit_op apply_of apply_op
start_entered t s = enters t (24 ∷ []) s (record { op = StartLogSegment; call = None }) start_decodes refl

pub end_entered : (t : ℕ) (s : Space) → entered t (23 ∷ []) s ≡ Some s
unfolding admit_of admit_op apply_of apply_op
end_entered t s = enters t (23 ∷ []) s (record { op = EndLogSegment; call = None }) end_decodes refl

module _ (L : ℕ → List ℕ → Type 0) where
  pub AllOn-append : (t : ℕ) (xs ys : List (List ℕ)) → AllOn L t xs → AllOn L (t + length xs) ys → AllOn L t (xs ++ ys)
  AllOn-append t [] ys a b = let same : t + length {A = List ℕ} [] ≡ t = omega arith in subst (λ (k : ℕ). AllOn L k ys) same b
  AllOn-append t (x ∷ xs) ys a b =
      let same : t + length (x ∷ xs) ≡ t + 1 + length xs = omega arith in
      (a.0, AllOn-append (t + 1) xs ys a.1 (subst (λ (k : ℕ). AllOn L k ys) same b))

  pub AllOn-take : (n t : ℕ) (xs : List (List ℕ)) → AllOn L t xs → AllOn L t (take n xs)
  AllOn-take zero t [] a = tt
  AllOn-take (suc n) t [] a = tt
  AllOn-take zero t (x ∷ xs) a = tt
  AllOn-take (suc n) t (x ∷ xs) a = (a.0, AllOn-take n (t + 1) xs a.1)

  -- ## The replay of so many entries of the line
  pub record Held (p : ℕ) (s : Space) : Type 0 where
    pub log : List (List ℕ)
    pub on : AllOn L 0 log
    pub so_many : length log ≡ p
    pub replayed : replay log ≡ Some s

  pub held_more : (p : ℕ) (s z : Space) (bodies : List (List ℕ)) → Held p s → AllOn L p bodies → replay_from p bodies s ≡ Some z → Held (p + length bodies) z
  held_more p s z bodies h a e = record {
    log = h.log ++ bodies;
    on = AllOn-append 0 h.log bodies h.on (let same : p ≡ 0 + length h.log = omega (arith, h.so_many) in subst (λ (k : ℕ). AllOn L k bodies) same a);
    so_many = length-append h.log bodies ∙ ap (λ (k : ℕ). k + length bodies) h.so_many;
    replayed = log_joins h.log bodies s z h.replayed (ap (λ (k : ℕ). replay_from k bodies s) h.so_many ∙ e);
  }

  pub held_at : (p q : ℕ) (s : Space) → p ≡ q → Held p s → Held q s
  held_at p q s e h = subst (λ (k : ℕ). Held k s) e h

  held_one : (p q : ℕ) (s : Space) (body : List ℕ) → q ≡ p + 1 → entered (p + 1) body s ≡ Some s → Held p s → L q body → Held q s
  held_one p q s body is e h l = held_at (p + 1) q s (sym is) (held_more p s s (body ∷ []) h (subst (λ (k : ℕ). L k body) is l, tt) (replay_one p body s s e))

  pub held_start : (p q : ℕ) (s : Space) → q ≡ p + 1 → Held p s → L q (24 ∷ []) → Held q s
  held_start p q s is h l = held_one p q s (24 ∷ []) is (start_entered (p + 1) s) h l

  pub held_end : (p q : ℕ) (s : Space) → q ≡ p + 1 → Held p s → L q (23 ∷ []) → Held q s
  held_end p q s is h l = held_one p q s (23 ∷ []) is (end_entered (p + 1) s) h l

  pub held_empty : Held 0 empty_space
  unfolding replay replay_from
  held_empty = record { log = []; on = tt; so_many = refl; replayed = refl }

  abbrev pub AreHeld : List Image → Type 0
  AreHeld [] = Unit {0}
  AreHeld (i ∷ is) = Held i.txid i.space × AreHeld is

  pub record Standing (h : Holding) : Type 0 where
    pub held : Held h.position h.space
    pub images : AreHeld h.images

  -- ## Images
  put_held : (i : Image) (is : List Image) → Held i.txid i.space → AreHeld is → AreHeld (image_put i is)
  unfolding image_put
  put_held i [] h hs = (h, tt)
  put_held i (j ∷ js) h hs = by (nat_lt j.txid i.txid) (j.txid == i.txid) (put_held i js h hs.1)
    where
      by : (b c : Bool) → AreHeld (image_put i js) → AreHeld (cond b (i ∷ j ∷ js) (cond c (i ∷ js) (j ∷ image_put i js)))
      by true c rest = (h, hs)
      by false true rest = (h, hs.1)
      by false false rest = (hs.0, rest)

  take_held : (n : ℕ) (is : List Image) → AreHeld is → AreHeld (take n is)
  take_held zero [] h = tt
  take_held (suc n) [] h = tt
  take_held zero (i ∷ is) h = tt
  take_held (suc n) (i ∷ is) h = (h.0, take_held n is h.1)

  pub saved_stands : (h : Holding) → Standing h → Standing (save_image h)
  unfolding save_image
  saved_stands h s = record {
    held = s.held;
    images = take_held 2 (image_put (record { space = h.space; txid = h.position }) h.images)
        (put_held (record { space = h.space; txid = h.position }) h.images s.held s.images);
  }

  pub reloaded_stands : (h : Holding) → AreHeld h.images → Standing (reload_image h)
  unfolding reload_image
  reloaded_stands h s = by h.images s
    where
      by : (is : List Image) → AreHeld is → Standing (load_image is (record h { work = Free; images = is }))
      by [] s = record { held = held_empty; images = tt }
      by (i ∷ is) s = record { held = s.0; images = s }
