-- Replay splits: a log replayed is its front replayed, and then the rest.
use Rattle.std.proofs.Common.{◌≡◌, ℕ, suc, ◌+◌, ◌<◌, ◌≤◌, List, [], ◌∷◌, ◌++◌, length, take, drop, get_or, add-one, Option, Some, None, refl, sym, ap, ◌∙◌, arith}
use Rattle.std.proofs.Math.Seq.{take-suc}
use Rattle.std.proofs.lemmas.List.{length-take-le}
use Rattle.std.proofs.lemmas.Grind.{common_steps}
use Rattle.ns_tree.specs.Space.{Space, empty_space}
use Rattle.ns_edits.specs.Keeps.{ReplaySplits, OneReplay}
use Rattle.ns_edits.specs.Replay.{entered, goes_on, replay_from, replay, Applied, All, BadEntry, applied_next, applied}

pub some_is : {A : Type 0} (x y : A) → Some x ≡ Some y → x ≡ y
some_is {A} x y e = ap (λ (o : Option A). or_this o) e
  where
    or_this : Option A → A
    or_this None = x
    or_this (Some z) = z

pub none≢some : {A B : Type 0} (x : A) → None ≡ Some x → B
none≢some x e = absurd (cc e)

pub replay_append : (t : ℕ) (xs ys : List (List ℕ)) (s : Space) → replay_from t (xs ++ ys) s ≡ goes_on (replay_from t xs s) (replay_from (t + length xs) ys)
unfolding replay_from
replay_append t [] ys s = ap (λ (k : ℕ). replay_from k ys s) (omega arith)
replay_append t (x ∷ xs) ys s = by (λ z. replay_append (t + 1) xs ys z) (entered (t + 1) x s)
  where
    by : ((z : Space) → replay_from (t + 1) (xs ++ ys) z ≡ goes_on (replay_from (t + 1) xs z) (replay_from (t + 1 + length xs) ys)) → (o : Option Space)
        → goes_on o (replay_from (t + 1) (xs ++ ys)) ≡ goes_on (goes_on o (replay_from (t + 1) xs)) (replay_from (t + length (x ∷ xs)) ys)
    by rec None = refl
    by rec (Some z) =
        let same : t + 1 + length xs ≡ t + length (x ∷ xs) = omega arith in
        rec z ∙ ap (λ (k : ℕ). goes_on (replay_from (t + 1) xs z) (replay_from k ys)) same

-- with the values of both parts
pub replay_joins : (t : ℕ) (xs ys : List (List ℕ)) (s z u : Space) → replay_from t xs s ≡ Some z → replay_from (t + length xs) ys z ≡ Some u → replay_from t (xs ++ ys) s ≡ Some u
replay_joins t xs ys s z u front rest = replay_append t xs ys s ∙ ap (λ (o : Option Space). goes_on o (replay_from (t + length xs) ys)) front ∙ rest

pub record Split (t : ℕ) (xs ys : List (List ℕ)) (s u : Space) : Type 0 where
  pub between : Space
  pub front : replay_from t xs s ≡ Some between
  pub rest : replay_from (t + length xs) ys between ≡ Some u

pub replay_split : (t : ℕ) (xs ys : List (List ℕ)) (s u : Space) → replay_from t (xs ++ ys) s ≡ Some u → Split t xs ys s u
replay_split t xs ys s u e = by (replay_from t xs s) refl
  where
    by : (o : Option Space) → replay_from t xs s ≡ o → Split t xs ys s u
    by None is = none≢some u (sym (replay_append t xs ys s ∙ ap (λ (o : Option Space). goes_on o (replay_from (t + length xs) ys)) is) ∙ e)
    by (Some z) is = record { between = z; front = is; rest = sym (replay_append t xs ys s ∙ ap (λ (o : Option Space). goes_on o (replay_from (t + length xs) ys)) is) ∙ e }

pub nothing_replayed : (t : ℕ) (s : Space) → replay_from t [] s ≡ Some s
unfolding replay_from
nothing_replayed t s = refl

-- one entry more
pub replay_one : (t : ℕ) (body : List ℕ) (s z : Space) → entered (t + 1) body s ≡ Some z → replay_from t (body ∷ []) s ≡ Some z
unfolding replay_from
replay_one t body s z e = ap (λ (o : Option Space). goes_on o (replay_from (t + 1) [])) e

pub one_replayed : (t : ℕ) (body : List ℕ) (s z : Space) → replay_from t (body ∷ []) s ≡ Some z → entered (t + 1) body s ≡ Some z
unfolding replay_from
one_replayed t body s z e = by (entered (t + 1) body s) e
  where
    by : (o : Option Space) → goes_on o (replay_from (t + 1) []) ≡ Some z → o ≡ Some z
    by None e = e
    by (Some y) e = e

-- ## A log, from its beginning
pub log_joins : (xs ys : List (List ℕ)) (z u : Space) → replay xs ≡ Some z → replay_from (length xs) ys z ≡ Some u → replay (xs ++ ys) ≡ Some u
unfolding replay
log_joins xs ys z u front rest = let same : length xs ≡ 0 + length xs = omega arith in replay_joins 0 xs ys empty_space z u front (ap (λ (k : ℕ). replay_from k ys z) (sym same) ∙ rest)

pub record LogSplit (xs ys : List (List ℕ)) (u : Space) : Type 0 where
  pub between : Space
  pub front : replay xs ≡ Some between
  pub rest : replay_from (length xs) ys between ≡ Some u

pub log_split : (xs ys : List (List ℕ)) (u : Space) → replay (xs ++ ys) ≡ Some u → LogSplit xs ys u
unfolding replay
log_split xs ys u e =
    let s : Split 0 xs ys empty_space u = replay_split 0 xs ys empty_space u e in
    let same : length xs ≡ 0 + length xs = omega arith in
    record { between = s.between; front = s.front; rest = ap (λ (k : ℕ). replay_from k ys s.between) same ∙ s.rest }

-- ## As far as it goes
-- All bodies are applied just where they replay.
pub all_applied : (t : ℕ) (bodies : List (List ℕ)) (s z : Space) → replay_from t bodies s ≡ Some z → applied t bodies s ≡ All z (t + length bodies)
unfolding replay_from applied
all_applied t [] s z e = let same : t ≡ t + length {A = List ℕ} [] = omega arith in ap (λ (x : Space). All x t) (some_is s z e) ∙ ap (All z) same
all_applied t (body ∷ bodies) s z e = by (λ y. all_applied (t + 1) bodies y z) (entered (t + 1) body s) e
  where
    by : ((y : Space) → replay_from (t + 1) bodies y ≡ Some z → applied (t + 1) bodies y ≡ All z (t + 1 + length bodies)) → (o : Option Space) → goes_on o (replay_from (t + 1) bodies) ≡ Some z
        → applied_next o t s (applied (t + 1) bodies) ≡ All z (t + length (body ∷ bodies))
    by rec None e = none≢some z e
    by rec (Some y) e = let same : t + 1 + length bodies ≡ t + length (body ∷ bodies) = omega arith in rec y e ∙ ap (All z) same

-- the entries after those that were applied
applied_after : (t : ℕ) (xs ys : List (List ℕ)) (s z : Space) → replay_from t xs s ≡ Some z → applied t (xs ++ ys) s ≡ applied (t + length xs) ys z
unfolding replay_from applied
applied_after t [] ys s z e = let same : t ≡ t + length {A = List ℕ} [] = omega arith in (λ i. applied (same i) ys (some_is s z e i))
applied_after t (x ∷ xs) ys s z e = by (λ y. applied_after (t + 1) xs ys y z) (entered (t + 1) x s) e
  where
    by : ((y : Space) → replay_from (t + 1) xs y ≡ Some z → applied (t + 1) (xs ++ ys) y ≡ applied (t + 1 + length xs) ys z) → (o : Option Space) → goes_on o (replay_from (t + 1) xs) ≡ Some z
        → applied_next o t s (applied (t + 1) (xs ++ ys)) ≡ applied (t + length (x ∷ xs)) ys z
    by rec None e = none≢some z e
    by rec (Some y) e = let same : t + 1 + length xs ≡ t + length (x ∷ xs) = omega arith in rec y e ∙ ap (λ (k : ℕ). applied k ys z) same

-- one body more, by its index
module _ (t : ℕ) (bodies : List (List ℕ)) (i : ℕ) (body : List ℕ) (s z : Space) (h : i < length bodies) (is : body ≡ get_or bodies i body) (front : replay_from t (take i bodies) s ≡ Some z) where
  size : length (take i bodies) ≡ i
  size = let le : i ≤ length bodies = omega arith in length-take-le i bodies le

  pub replay_next : (u : Space) → entered (t + i + 1) body z ≡ Some u → replay_from t (take (i + 1) bodies) s ≡ Some u
  replay_next u e =
      let taken : take (i + 1) bodies ≡ take i bodies ++ body ∷ [] = rw add-one (take-suc bodies i body h ∙ ap (λ (b : List ℕ). take i bodies ++ b ∷ []) (sym is)) in
      ap (λ (l : List (List ℕ)). replay_from t l s) taken
      ∙ replay_joins t (take i bodies) (body ∷ []) s z u front (replay_one (t + length (take i bodies)) body z u (ap (λ (k : ℕ). entered (t + k + 1) body z) size ∙ e))

  pub bad_next : entered (t + i + 1) body z ≡ None → applied t bodies s ≡ BadEntry z (t + i + 1)
  unfolding applied
  bad_next e =
      let whole : take i bodies ++ body ∷ drop (i + 1) bodies ≡ bodies = ap (λ (b : List ℕ). take i bodies ++ b ∷ drop (i + 1) bodies) is ∙ halves in
      ap (λ (l : List (List ℕ)). applied t l s) (sym whole) ∙ applied_after t (take i bodies) (body ∷ drop (i + 1) bodies) s z front
      ∙ ap (λ (k : ℕ). applied k (body ∷ drop (i + 1) bodies) z) (ap (λ (k : ℕ). t + k) size)
      ∙ ap (λ (o : Option Space). applied_next o (t + i) z (applied (t + i + 1) (drop (i + 1) bodies))) e
    where
      halves : take i bodies ++ get_or bodies i body ∷ drop (i + 1) bodies ≡ bodies
      halves = grind (arith, common_steps)

-- how far it went: so many bodies were applied, and the next one is bad, at this txid
pub record Went (t : ℕ) (bodies : List (List ℕ)) (s z : Space) (u : ℕ) : Type 0 where
  pub count : ℕ
  pub few : count ≤ length bodies
  pub position : u ≡ t + count + 1
  pub replayed : replay_from t (take count bodies) s ≡ Some z

abbrev pub HasGone : ℕ → List (List ℕ) → Space → Applied → Type 0
HasGone t bodies s (All z u) = (replay_from t bodies s ≡ Some z) × (u ≡ t + length bodies)
HasGone t bodies s (BadEntry z u) = Went t bodies s z u × (replay_from t bodies s ≡ None)

pub has_gone : (t : ℕ) (bodies : List (List ℕ)) (s : Space) → HasGone t bodies s (applied t bodies s)
unfolding replay_from applied
has_gone t [] s = let same : t ≡ t + length {A = List ℕ} [] = omega arith in (refl, same)
has_gone t (body ∷ bodies) s = by (λ y. has_gone (t + 1) bodies y) (entered (t + 1) body s) refl
  where
    more : (y : Space) → entered (t + 1) body s ≡ Some y → (a : Applied) → HasGone (t + 1) bodies y a → HasGone t (body ∷ bodies) s a
    more y is (All z u) h = (ap (λ (o : Option Space). goes_on o (replay_from (t + 1) bodies)) is ∙ h.0, omega (arith, h.1))
    more y is (BadEntry z u) h = (
      record {
        count = h.0.count + 1;
        few = omega (arith, h.0.few);
        position = omega (arith, h.0.position);
        replayed = took h.0.count h.0.replayed;
      },
      ap (λ (o : Option Space). goes_on o (replay_from (t + 1) bodies)) is ∙ h.1,
    )
      where
        took : (k : ℕ) → replay_from (t + 1) (take k bodies) y ≡ Some z → replay_from t (take (k + 1) (body ∷ bodies)) s ≡ Some z
        took k r = let same : take (k + 1) (body ∷ bodies) ≡ body ∷ take k bodies = taken k in
            ap (λ (l : List (List ℕ)). replay_from t l s) same ∙ ap (λ (o : Option Space). goes_on o (replay_from (t + 1) (take k bodies))) is ∙ r
          where
            taken : (k : ℕ) → take (k + 1) (body ∷ bodies) ≡ body ∷ take k bodies
            taken k = let e : k + 1 ≡ suc k = omega arith in ap (λ (j : ℕ). take j (body ∷ bodies)) e

    by : ((y : Space) → HasGone (t + 1) bodies y (applied (t + 1) bodies y)) → (o : Option Space) → entered (t + 1) body s ≡ o
        → HasGone t (body ∷ bodies) s (applied_next o t s (applied (t + 1) bodies))
    by rec None is = (record { count = 0; few = omega arith; position = omega arith; replayed = refl }, ap (λ (o : Option Space). goes_on o (replay_from (t + 1) bodies)) is)
    by rec (Some y) is = more y is (applied (t + 1) bodies y) (rec y)

-- ## The laws
pub log_splits : ReplaySplits
unfolding replay
log_splits xs ys = let same : 0 + length xs ≡ length xs = omega arith in replay_append 0 xs ys empty_space ∙ ap (λ (k : ℕ). goes_on (replay_from 0 xs empty_space) (replay_from k ys)) same

pub one_replay : OneReplay
one_replay log rows others a b =
    let same : a.0 ≡ b.0 = some_is a.0 b.0 (sym a.1 ∙ b.1) in
    sym a.2 ∙ (ap (λ (s : Space). s.pairs) same ∙ b.2)
