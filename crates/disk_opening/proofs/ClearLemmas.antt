-- How files are cleared one after the other.
use Rattle.std.proofs.Common.{inl, inr, ⊎_elim, ◌⊎◌, ◌≡◌, ◌≢◌, ◌↔◌, ℕ, List, [], ◌∷◌, ◌++◌, ap, sym, ◌∙◌, refl, subst, arith}
use Rattle.std.specs.Prelude.{Option, Some, None, IsSome, IsOk, Contains, Result}
use Rattle.std.proofs.lemmas.List.Elements.{Contains-push, Contains-push_cases, Contains-append_left}
use Rattle.base_disk.specs.Files.{Files}
use Rattle.base_disk.specs.View.{View, IsSound}
use Rattle.base_disk.specs.Calls.{Rests, Lists, HasCause}
use Rattle.base_disk.specs.declared.disk.DiskFail.{DiskFail}
use Rattle.disk_segment.specs.Names.{Kind, InProgress, Final, UnderWay}
use Rattle.disk_opening.specs.Opening.{SegmentsStable, IsTemporary}
use Rattle.disk_opening.specs.Completing.{Mends, IsFinalFile, AreFinals, IsWay, IsProgress, IsLeftKind, IsLeftOver, NoName, Clears, ClearsAll}
use Rattle.disk_opening.proofs.RepairLemmas.{names_cases}
use Rattle.disk_opening.proofs.MendLemmas.{mends_keeps, mends_then, one_kind}
use Rattle.disk_opening.proofs.TemporaryLemmas.{not_temporary, tmp_temporary}
use Rattle.disk_opening.proofs.TurnLemmas.{Turn, not_done, is_listed}
use Rattle.base_disk.proofs.Causes.{none_at_ok}

-- the final files that are there stay
pub finals_stay : (starts : List ℕ) (d c : Files) → ((name : List ℕ) (start : ℕ) → IsFinalFile name start → c name ≡ d name) → AreFinals starts d → AreFinals starts c
finals_stay starts d c same are = record {
  there = λ start among. let had = are.there start among in record { name = had.name; is = had.is; there = subst IsSome (sym (same had.name start had.is)) had.there };
  all = λ start has. are.all start record { name = has.name; is = has.is; there = subst IsSome (same has.name start has.is) has.there };
}

module _ (P Free : List ℕ → Type 0) where
  -- those of these names are gone of which P holds
  pub record Cleared (done : List (List ℕ)) (old new : Files) : Type 0 where
    pub gone : (name : List ℕ) → Contains done name → P name → new name ≡ None
    pub only : (name : List ℕ) → (Free name → ⊥) → (new name ≡ old name) ⊎ (P name × (new name ≡ None))
    pub later : (name : List ℕ) → (Contains done name → ⊥) → (Free name → ⊥) → new name ≡ old name

  -- the files of these names are cleared, of those that are there
  pub record IsClearing (told tells : Type 0) (v0 v : View) (names done : List (List ℕ)) (f0 f : ℕ) (was_steady is_steady : Type 0) : Type 0 where
    pub tells_on : told ↔ tells
    pub mends : told → SegmentsStable v0 → Mends v0 v
    pub listed : told → Lists names v0.seen
    pub cleared : told → Cleared done v0.seen v.seen
    pub same : f ≡ f0
    pub steady : was_steady → is_steady

module _ (P Free : List ℕ → Type 0) (apart : (name : List ℕ) → P name → Free name → ⊥) where
  cleared_none : (d : Files) → Cleared P Free [] d d
  cleared_none d = record { gone = λ name among p. absurd (omega (arith, among.1)); only = λ name free. inl refl; later = λ name not free. refl }

  module _ (done : List (List ℕ)) (name : List ℕ) (a b c : Files) (so_far : Cleared P Free done a b) (step : Clears P Free name b c) where
    more_gone : (other : List ℕ) → Contains (done ++ name ∷ []) other → P other → c other ≡ None
    more_gone other among p = by (names_cases other name) (Contains-push_cases done name other among)
      where
        at_name : (P name × (c name ≡ None)) ⊎ ((P name → ⊥) × (c name ≡ b name)) → P name → c name ≡ None
        at_name (inl gone) here = gone.1
        at_name (inr kept) here = absurd (kept.0 here)

        by : (other ≡ name) ⊎ (other ≢ name) → Contains done other ⊎ (name ≡ other) → c other ≡ None
        by (inl is) either = ap c is ∙ at_name step.here (subst P is p)
        by (inr ne) (inl before) = step.others other ne (apart other p) ∙ so_far.gone other before p
        by (inr ne) (inr is) = absurd (ne (sym is))

    more_only : (other : List ℕ) → (Free other → ⊥) → (c other ≡ a other) ⊎ (P other × (c other ≡ None))
    more_only other free = by (names_cases other name) (so_far.only other free)
      where
        at_name : (n : List ℕ) → n ≡ name → (P name × (c name ≡ None)) ⊎ ((P name → ⊥) × (c name ≡ b name)) → (b n ≡ a n) ⊎ (P n × (b n ≡ None)) → (c n ≡ a n) ⊎ (P n × (c n ≡ None))
        at_name n is (inl gone) was = inr (subst P (sym is) gone.0, ap c is ∙ gone.1)
        at_name n is (inr kept) was = let same : c n ≡ b n = ap c is ∙ kept.1 ∙ ap b (sym is) in ⊎_elim (λ w. inl (same ∙ w)) (λ w. inr (w.0, same ∙ w.1)) was

        by : (other ≡ name) ⊎ (other ≢ name) → (b other ≡ a other) ⊎ (P other × (b other ≡ None)) → (c other ≡ a other) ⊎ (P other × (c other ≡ None))
        by (inl is) was = at_name other is step.here was
        by (inr ne) was = let same = step.others other ne free in ⊎_elim (λ w. inl (same ∙ w)) (λ w. inr (w.0, same ∙ w.1)) was

    cleared_more : Cleared P Free (done ++ name ∷ []) a c
    cleared_more = record {
      gone = more_gone;
      only = more_only;
      later = λ other not free.
          step.others other (λ is. not (subst (λ (n : List ℕ). Contains (done ++ name ∷ []) n) (sym is) (Contains-push done name))) free
          ∙ so_far.later other (λ among. not (Contains-append_left done (name ∷ []) other among)) free;
    }

  cleared_all : (names : List (List ℕ)) (a c : Files) → Lists names a → Cleared P Free names a c → ClearsAll P Free a c
  cleared_all names a c lists cleared = record {
    gone = λ name p. by name p (a name) refl;
    others = λ name not free. ⊎_elim (λ same. same) (λ gone. absurd (not gone.0)) (cleared.only name free);
  }
    where
      by : (name : List ℕ) → P name → (file : Option (List ℕ)) → a name ≡ file → c name ≡ None
      by name p None is = ⊎_elim (λ same. same ∙ is) (λ gone. gone.1) (cleared.only name (apart name p))
      by name p (Some bytes) is = cleared.gone name (lists.all name (subst IsSome (sym is) refl)) p

  module _ (told : Type 0) (v0 : View) (sound : told → IsSound v0) (names : List (List ℕ)) (f0 : ℕ) (was_steady : Type 0) where
    pub begun : {T : Type 0} (tells : Type 0) (v : View) (f : ℕ) (is_steady : Type 0) (r : Result T DiskFail) → told ↔ tells → (told → Rests v0 v)
        → (told → Lists names v0.seen) → HasCause f0 f was_steady is_steady r → IsOk r
        → IsClearing P Free told tells v0 v names [] f0 f was_steady is_steady
    begun tells v f is_steady r on rests lists cause ok = record {
      tells_on = on;
      mends = λ t all. mends_keeps v0 v (sound t) (rests t).keeps all;
      listed = lists;
      cleared = λ t. subst (λ (files : Files). Cleared P Free [] v0.seen files) (sym (rests t).keeps.seen) (cleared_none v0.seen);
      same = none_at_ok f0 f was_steady is_steady r cause ok;
      steady = cause.steady;
    }

    module _ (tells : Type 0) (v : View) (done : List (List ℕ)) (f : ℕ) (is_steady : Type 0) (so_far : IsClearing P Free told tells v0 v names done f0 f was_steady is_steady) where
      -- the next file is as it was
      pub next_there : (name : List ℕ) → tells → Turn names done name → (Free name → ⊥) → IsSome (v.seen name)
      next_there name t at free =
          let told = so_far.tells_on.1 t in
          subst IsSome (sym ((so_far.cleared told).later name (not_done names done name (so_far.listed told).sorted at) free))
          ((so_far.listed told).there name (is_listed names done name (so_far.listed told).sorted at))

      pub finals_so_far : (starts : List ℕ) → tells → ((name : List ℕ) (start : ℕ) → IsFinalFile name start → P name → ⊥)
          → ((name : List ℕ) (start : ℕ) → IsFinalFile name start → Free name → ⊥) → (told → AreFinals starts v0.seen) → AreFinals starts v.seen
      finals_so_far starts t no_p no_free are =
          let told = so_far.tells_on.1 t in
          finals_stay starts v0.seen v.seen (λ name start final. ⊎_elim (λ same. same) (λ gone. absurd (no_p name start final gone.0))
          ((so_far.cleared told).only name (no_free name start final))) (are told)

      module _ {T : Type 0} (tells1 : Type 0) (v1 : View) (f1 : ℕ) (steady1 : Type 0) (r : Result T DiskFail) (on : tells ↔ tells1)
          (mends : tells → SegmentsStable v → Mends v v1) (cause : HasCause f f1 is_steady steady1 r) where
        mends_on : told → SegmentsStable v0 → Mends v0 v1
        mends_on t all = let first = so_far.mends t all in mends_then v0 v v1 first (mends (so_far.tells_on.0 t) first.stable)

        pub one_more : IsOk r → (name : List ℕ) (next : List (List ℕ)) → next ≡ done ++ name ∷ [] → (tells → Clears P Free name v.seen v1.seen)
            → IsClearing P Free told tells1 v0 v1 names next f0 f1 was_steady steady1
        one_more ok name next is clears = record {
          tells_on = (λ t. on.0 (so_far.tells_on.0 t), λ t. so_far.tells_on.1 (on.1 t));
          mends = mends_on;
          listed = so_far.listed;
          cleared = λ t. subst (λ (l : List (List ℕ)). Cleared P Free l v0.seen v1.seen) (sym is) (cleared_more done name v0.seen v.seen v1.seen (so_far.cleared t) (clears (so_far.tells_on.0 t)));
          same = none_at_ok f f1 is_steady steady1 r cause ok ∙ so_far.same;
          steady = λ s. cause.steady (so_far.steady s);
        }

        pub given_up_mends : told → SegmentsStable v0 → Mends v0 v1
        given_up_mends = mends_on

        pub given_up_tells : told ↔ tells1
        given_up_tells = (λ t. on.0 (so_far.tells_on.0 t), λ t. so_far.tells_on.1 (on.1 t))

      pub all_cleared : done ≡ names → told → ClearsAll P Free v0.seen v.seen
      all_cleared is t = cleared_all names v0.seen v.seen (so_far.listed t) (subst (λ (l : List (List ℕ)). Cleared P Free l v0.seen v.seen) is (so_far.cleared t))

-- the names of the two passes
pub ways_apart : (name : List ℕ) → IsWay name → IsProgress name → ⊥
ways_apart name way progress = let same = one_kind name way.start progress.start (UnderWay way.epoch) InProgress way.named progress.named in absurd (cc)

pub final_no_way : (name : List ℕ) (start : ℕ) → IsFinalFile name start → IsWay name → ⊥
final_no_way name start final way = let same = one_kind name start way.start (Final final.last) (UnderWay way.epoch) final.named way.named in absurd (cc)

pub final_no_progress : (name : List ℕ) (start : ℕ) → IsFinalFile name start → IsProgress name → ⊥
final_no_progress name start final progress = let same = one_kind name start progress.start (Final final.last) InProgress final.named progress.named in absurd (cc)

pub none_apart : (finals name : List ℕ) → IsLeftOver finals name → NoName name → ⊥
none_apart finals name left none = none

pub final_not_left : (finals name : List ℕ) (start : ℕ) → IsFinalFile name start → IsLeftOver finals name → ⊥
final_not_left finals name start final (inl tmp) = not_temporary start (Final final.last) final.named.valid tt
    (subst (λ (n : List ℕ). IsTemporary n) final.named.spelled (tmp_temporary name tmp.0 tmp.1))
final_not_left finals name start final (inr file) = subst (λ (kind : Kind). IsLeftKind finals file.start kind)
    (one_kind name file.start start file.kind (Final final.last) file.named final.named) file.left
