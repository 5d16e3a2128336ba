-- How files become stable one after the other.
use Rattle.std.proofs.Common.{◌≡◌, ◌↔◌, ℕ, zero, suc, length, ◌+◌, ◌<◌, ◌≤◌, List, [], ◌∷◌, ◌++◌, ap, sym, ◌∙◌, refl, subst, arith, get_or, take}
use Rattle.std.specs.Prelude.{Option, Some, None, IsSome, IsOk, Contains, slice_index_or, map, Result}
use Rattle.std.proofs.lemmas.List.{take_more, take_all, map-append, length-map}
use Rattle.base_disk.specs.Files.{Files, IsSame, ChangesOnly}
use Rattle.base_disk.specs.View.{View, IsSound, IsStable}
use Rattle.base_disk.specs.Calls.{Keeps, Rests, Lists, HasCause}
use Rattle.base_disk.specs.Runs.{Quiet, quiet_start, quiet_keeps}
use Rattle.base_disk.specs.declared.disk.DiskFail.{DiskFail}
use Rattle.disk_opening.specs.Opening.{IsLastingFile, Settled, SegmentsStable, SyncsOnly}
use Rattle.base_disk.proofs.Causes.{none_at_ok}

abbrev pub AllSettled : View → List (List ℕ) → Type 0
AllSettled v [] = Unit {0}
AllSettled v (name ∷ names) = Settled v name × AllSettled v names

pub settled_push : (v : View) (names : List (List ℕ)) (name : List ℕ) → AllSettled v names → Settled v name → AllSettled v (names ++ name ∷ [])
settled_push v [] name all one = (one, tt)
settled_push v (x ∷ names) name all one = (all.0, settled_push v names name all.1 one)

-- what is stable stays so while nothing changes
pub stays : (v w : View) (name : List ℕ) → Keeps v w → IsStable name v → IsStable name w
stays v w name keeps stable c left = stable c (keeps.crash c left) ∙ sym (ap (λ (f : Files). f name) keeps.seen)

pub settled_stays : (v w : View) (names : List (List ℕ)) → Keeps v w → AllSettled v names → AllSettled w names
settled_stays v w [] keeps all = tt
settled_stays v w (name ∷ names) keeps all = (λ own. stays v w name keeps (all.0 own), settled_stays v w names keeps all.1)

pub same_quiet : (v : View) → IsSound v → Quiet IsSame v v
same_quiet v sound = quiet_start IsSame v sound (λ c now. record { files = λ name. refl })

-- the files of these names, of those that are there, are settled
pub record IsSynced (told tells : Type 0) (v0 v : View) (names done : List (List ℕ)) (f0 f : ℕ) (was_steady is_steady : Type 0) : Type 0 where
  pub tells_on : told ↔ tells
  pub quiet : told → Quiet IsSame v0 v
  pub listed : told → Lists names v.seen
  pub settled : told → AllSettled v done
  pub spared : told → SyncsOnly IsLastingFile v0 v
  pub same : f ≡ f0
  pub steady : was_steady → is_steady

module _ (told : Type 0) (v0 : View) (sound : told → IsSound v0) (names : List (List ℕ)) (f0 : ℕ) (was_steady : Type 0) where
  pub begun : {T : Type 0} (tells : Type 0) (v : View) (f : ℕ) (is_steady : Type 0) (r : Result T DiskFail) → told ↔ tells → (told → Rests v0 v)
      → (told → Lists names v0.seen) → HasCause f0 f was_steady is_steady r → IsOk r
      → IsSynced told tells v0 v names [] f0 f was_steady is_steady
  begun tells v f is_steady r on rests lists cause ok = record {
    tells_on = on;
    quiet = λ t. quiet_keeps IsSame v0 v0 v (same_quiet v0 (sound t)) (rests t).keeps;
    listed = λ t. subst (λ (files : Files). Lists names files) (sym (rests t).keeps.seen) (lists t);
    settled = λ t. tt;
    spared = λ t name not. ap (λ (files : Files). files name) (rests t).synced;
    same = none_at_ok f0 f was_steady is_steady r cause ok;
    steady = cause.steady;
  }

  module _ (tells : Type 0) (v : View) (done : List (List ℕ)) (f : ℕ) (is_steady : Type 0) (so_far : IsSynced told tells v0 v names done f0 f was_steady is_steady)
      {T : Type 0} (tells1 : Type 0) (v1 : View) (f1 : ℕ) (steady1 : Type 0) (r : Result T DiskFail) (on : tells ↔ tells1)
      (keeps : tells → Keeps v v1) (cause : HasCause f f1 is_steady steady1 r) where
    pub one_more : IsOk r → (name : List ℕ) (next : List (List ℕ)) → next ≡ done ++ name ∷ [] → (tells → Settled v1 name)
        → (tells → SyncsOnly IsLastingFile v v1) → IsSynced told tells1 v0 v1 names next f0 f1 was_steady steady1
    one_more ok name next is settled spared = record {
      tells_on = (λ t. on.0 (so_far.tells_on.0 t), λ t. so_far.tells_on.1 (on.1 t));
      quiet = λ t. quiet_keeps IsSame v0 v v1 (so_far.quiet t) (keeps (so_far.tells_on.0 t));
      listed = λ t. subst (λ (files : Files). Lists names files) (sym (keeps (so_far.tells_on.0 t)).seen) (so_far.listed t);
      settled = λ t. subst (λ (l : List (List ℕ)). AllSettled v1 l) (sym is)
          (settled_push v1 done name (settled_stays v v1 done (keeps (so_far.tells_on.0 t)) (so_far.settled t)) (settled (so_far.tells_on.0 t)));
      spared = λ t other not. spared (so_far.tells_on.0 t) other not ∙ so_far.spared t other not;
      same = none_at_ok f f1 is_steady steady1 r cause ok ∙ so_far.same;
      steady = λ s. cause.steady (so_far.steady s);
    }

    pub given_up_quiet : told → Quiet IsSame v0 v1
    given_up_quiet t = quiet_keeps IsSame v0 v v1 (so_far.quiet t) (keeps (so_far.tells_on.0 t))

    pub given_up_tells : told ↔ tells1
    given_up_tells = (λ t. on.0 (so_far.tells_on.0 t), λ t. so_far.tells_on.1 (on.1 t))

-- the names of a list, one after the other
module _ {X : Type 0} (f : X → List ℕ) where
  pub next_done : (xs : List X) (i : ℕ) (x : X) → i < length xs → x ≡ get_or xs i x → map f (take (i + 1) xs) ≡ map f (take i xs) ++ f x ∷ []
  next_done xs i x lt is = ap (map f) (take_more xs i x lt) ∙ map-append f (take i xs) (get_or xs i x ∷ []) ∙ ap (λ (y : X). map f (take i xs) ++ f y ∷ []) (sym is)

  pub all_done : (xs : List X) (i : ℕ) → length xs ≤ i → map f (take i xs) ≡ map f xs
  all_done xs i le = ap (map f) (take_all i xs le)

  pub index_at : (xs : List X) (i : ℕ) (x : X) → i < length xs → x ≡ get_or xs i x → slice_index_or (map f xs) i (f x) ≡ f x
  index_at [] i x lt is = absurd (omega (arith, lt))
  index_at (y ∷ ys) zero x lt is = ap f (sym is)
  index_at (y ∷ ys) (suc i) x lt is = index_at ys i x (omega (arith, lt)) is

  pub listed_there : (xs : List X) (i : ℕ) (x : X) (files : Files) (name : List ℕ) → i < length xs → x ≡ get_or xs i x → Lists (map f xs) files → name ≡ f x → IsSome (files name)
  listed_there xs i x files name lt is lists named =
      subst (λ (n : List ℕ). IsSome (files n)) (sym named) (lists.there (f x) (i, omega (arith, lt, length-map xs f), index_at xs i x lt is))

pub listed_as : (xs ys : List (List ℕ)) (files : Files) → xs ≡ ys → Lists ys files → Lists xs files
listed_as xs ys files same lists = subst (λ (l : List (List ℕ)). Lists l files) (sym same) lists

pub settled_as : (v : View) (xs ys : List (List ℕ)) → xs ≡ ys → AllSettled v xs → AllSettled v ys
settled_as v xs ys same all = subst (λ (l : List (List ℕ)). AllSettled v l) same all

-- a name that is listed is one of those that are settled, and what isn't there no crash brings back
settled_at : (v : View) (names : List (List ℕ)) (name : List ℕ) (k : ℕ) → AllSettled v names → k < length names → slice_index_or names k name ≡ name → Settled v name
settled_at v [] name k all lt is = absurd (omega (arith, lt))
settled_at v (x ∷ names) name zero all lt is = subst (λ (n : List ℕ). Settled v n) is all.0
settled_at v (x ∷ names) name (suc k) all lt is = settled_at v names name k all.1 (omega (arith, lt)) is

pub all_settled : (v : View) (names : List (List ℕ)) (name : List ℕ) → AllSettled v names → Contains names name → Settled v name
all_settled v names name all there = settled_at v names name there.0 all there.1 there.2

pub all_stable : (v : View) → IsSound v → (names : List (List ℕ)) → Lists names v.seen → AllSettled v names → SegmentsStable v
all_stable v sound names lists all = record { each = λ name. by name (v.seen name) refl }
  where
    by : (name : List ℕ) (file : Option (List ℕ)) → v.seen name ≡ file → Settled v name
    by name None is = λ own c left. sound.absent name c is left ∙ sym is
    by name (Some bytes) is = all_settled v names name all (lists.all name (subst IsSome (sym is) refl))

pub settled_name : (v : View) (told name : List ℕ) → told ≡ name → Settled v told → Settled v name
settled_name v told name same is = subst (λ (n : List ℕ). Settled v n) same is
