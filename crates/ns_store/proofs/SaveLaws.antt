-- What the calls of a save leave.
use Rattle.std.proofs.Common.{inl, inr, ⊎_elim, ◌⊎◌, ◌≡◌, ◌≢◌, ℕ, List, [], ◌∷◌, ap, sym, ◌∙◌, refl, subst}
use Rattle.std.specs.Prelude.{Option, Some, None, IsSome, Result, Ok, Err, OnOk, IsErr}
use Rattle.base_disk.specs.Files.{Files, ChangesOnly, Moves, IsSame}
use Rattle.base_disk.specs.View.{View, IsSound, AllLeave}
use Rattle.base_disk.specs.Calls.{Effect, Happens, Atomic}
use Rattle.base_disk.specs.Runs.{Quiet, weaker, atomic_effect}
use Rattle.base_disk.specs.declared.disk.DiskFail.{DiskFail}
use Rattle.base_files.specs.Puts.{Disturbs, Puts}
use Rattle.base_files.proofs.PutsLemmas.{gave_up}
use Rattle.ns_store.specs.Names.{Part, Itself, Checkpoint, Digest, FreshDigest, name_of}
use Rattle.ns_store.specs.Saves.{IsSameOrGone, MayGo, KeepsImage, OnlyOf, Prepares, Saves, Publishing, Publishes, Removes, IsRemoved}
use Rattle.ns_store.proofs.NameLaws.{parts_apart}
use Rattle.ns_store.proofs.Runs.{From, quiet_weaker, quiet_then, effect_then}

-- ## Names of one image
module _ (t : ℕ) where
  pub itself_checkpoint : name_of t Itself ≢ name_of t Checkpoint
  itself_checkpoint = parts_apart t t Itself Checkpoint (λ e. absurd (cc))

  pub itself_digest : name_of t Itself ≢ name_of t Digest
  itself_digest = parts_apart t t Itself Digest (λ e. absurd (cc))

  pub itself_fresh : name_of t Itself ≢ name_of t FreshDigest
  itself_fresh = parts_apart t t Itself FreshDigest (λ e. absurd (cc))

  pub checkpoint_digest : name_of t Checkpoint ≢ name_of t Digest
  checkpoint_digest = parts_apart t t Checkpoint Digest (λ e. absurd (cc))

  pub checkpoint_fresh : name_of t Checkpoint ≢ name_of t FreshDigest
  checkpoint_fresh = parts_apart t t Checkpoint FreshDigest (λ e. absurd (cc))

  pub digest_fresh : name_of t Digest ≢ name_of t FreshDigest
  digest_fresh = parts_apart t t Digest FreshDigest (λ e. absurd (cc))

pub turned : {a b : List ℕ} → a ≢ b → b ≢ a
turned apart same = apart (sym same)

pub always : {T E : Type 0} (r : Result T E) (P : Type 0) → P → OnOk r P
always (Ok x) P fact = fact
always (Err e) P fact = tt

-- ## The checkpoint file is stored
pub only_then : (t : ℕ) (parts : List Part) (d e c : Files) → OnlyOf t parts d e → OnlyOf t parts e c → OnlyOf t parts d c
only_then t parts d e c one two = record { others = λ name out. two.others name out ∙ one.others name out }

module _ (t : ℕ) where
  of_checkpoint : (step : Option (List ℕ) → Option (List ℕ) → Type 0) (d c : Files) → ChangesOnly (name_of t Checkpoint) step d c → OnlyOf t (Checkpoint ∷ FreshDigest ∷ []) d c
  of_checkpoint step d c changes = record { others = λ name out. changes.others name out.0 }

  of_fresh : (step : Option (List ℕ) → Option (List ℕ) → Type 0) (d c : Files) → ChangesOnly (name_of t FreshDigest) step d c → OnlyOf t (Checkpoint ∷ FreshDigest ∷ []) d c
  of_fresh step d c changes = record { others = λ name out. changes.others name out.1.0 }

  module _ (v0 v1 v2 : View) (sound0 : IsSound v0) (sound1 : IsSound v1) (checkpoint fresh : List ℕ) (is_checkpoint : checkpoint ≡ name_of t Checkpoint) (is_fresh : fresh ≡ name_of t FreshDigest)
      (one : Quiet (MayGo checkpoint) v0 v1) (two : Quiet (MayGo fresh) v1 v2) where
    here_one : Quiet (MayGo (name_of t Checkpoint)) v0 v1
    here_one = subst (λ (n : List ℕ). Quiet (MayGo n) v0 v1) is_checkpoint one

    here_two : Quiet (MayGo (name_of t FreshDigest)) v1 v2
    here_two = subst (λ (n : List ℕ). Quiet (MayGo n) v1 v2) is_fresh two

    pub two_cleared : Quiet (OnlyOf t (Checkpoint ∷ FreshDigest ∷ [])) v0 v2
    two_cleared = quiet_then (MayGo (name_of t Checkpoint)) (MayGo (name_of t FreshDigest)) (OnlyOf t (Checkpoint ∷ FreshDigest ∷ [])) v0 v1 v2 sound0 sound1
        (of_checkpoint IsSameOrGone)
        (λ d e c left_d left_e first second. only_then t (Checkpoint ∷ FreshDigest ∷ []) d e c (of_checkpoint IsSameOrGone d e first) (of_fresh IsSameOrGone e c second))
        here_one here_two

    pub still_gone : (again : List ℕ) → again ≡ name_of t Checkpoint → v1.seen checkpoint ≡ None → v2.seen again ≡ None
    still_gone again is gone = ap v2.seen is ∙ here_two.seen.others (name_of t Checkpoint) (checkpoint_fresh t) ∙ sym (ap v1.seen is_checkpoint) ∙ gone

    module _ (v3 : View) (sound2 : IsSound v2) (again : List ℕ) (is : again ≡ name_of t Checkpoint) (three : Quiet (Disturbs again) v2 v3) where
      pub three_done : Quiet (OnlyOf t (Checkpoint ∷ FreshDigest ∷ [])) v0 v3
      three_done = quiet_then (OnlyOf t (Checkpoint ∷ FreshDigest ∷ [])) (Disturbs (name_of t Checkpoint)) (OnlyOf t (Checkpoint ∷ FreshDigest ∷ [])) v0 v2 v3 sound0 sound2
          (λ d c h. h)
          (λ d e c left_d left_e first second. only_then t (Checkpoint ∷ FreshDigest ∷ []) d e c first (of_checkpoint (λ _ _. Unit {0}) e c second))
          two_cleared (subst (λ (n : List ℕ). Quiet (Disturbs n) v2 v3) is three)

      pub fresh_gone : v2.seen fresh ≡ None → v3.seen (name_of t FreshDigest) ≡ None
      fresh_gone gone =
          let other = subst (λ (n : List ℕ). Quiet (Disturbs n) v2 v3) is three in
          other.seen.others (name_of t FreshDigest) (turned (checkpoint_fresh t)) ∙ sym (ap v2.seen is_fresh) ∙ gone

-- ## It begins to count
module _ (t : ℕ) (line : List ℕ) where
  while_noisy : (d c : Files) → Disturbs (name_of t FreshDigest) d c → Publishing t line d c
  while_noisy d c noisy = record { only = record { others = λ name out. noisy.others name out.1.0 }; digest = inl (noisy.others (name_of t Digest) (digest_fresh t)) }

  when_put : (d c : Files) → Puts (name_of t Digest) (name_of t FreshDigest) line d c → Publishing t line d c
  when_put d c puts = record { only = record { others = λ name out. puts.others name out.0 out.1.0 }; digest = inr puts.here }

  either_way : (d c : Files) → Disturbs (name_of t FreshDigest) d c ⊎ Puts (name_of t Digest) (name_of t FreshDigest) line d c → Publishing t line d c
  either_way d c (inl noisy) = while_noisy d c noisy
  either_way d c (inr puts) = when_put d c puts

  when_same : (d e c : Files) → Puts (name_of t Digest) (name_of t FreshDigest) line d e → IsSame e c → Publishing t line d c
  when_same d e c puts same = record {
    only = record { others = λ name out. same.files name ∙ puts.others name out.0 out.1.0 };
    digest = inr (same.files (name_of t Digest) ∙ puts.here);
  }

  when_moved : (d e c : Files) → Puts (name_of t Digest) (name_of t FreshDigest) line d e → Moves (name_of t Checkpoint) (name_of t Itself) e c → Publishes t line d c
  when_moved d e c puts moves = record {
    only = record { others = λ name out. moves.others name out.1.0 out.0 ∙ puts.others name out.1.1.0 out.1.1.1.0 };
    itself = moves.moved ∙ puts.others (name_of t Checkpoint) (checkpoint_digest t) (checkpoint_fresh t);
    digest = moves.others (name_of t Digest) (turned (checkpoint_digest t)) (turned (itself_digest t)) ∙ puts.here;
    checkpoint = moves.gone (turned (itself_checkpoint t));
    fresh = moves.others (name_of t FreshDigest) (turned (checkpoint_fresh t)) (turned (itself_fresh t)) ∙ puts.gone;
  }

  module _ (v0 v1 : View) (sound0 : IsSound v0) (sound1 : IsSound v1) {T E : Type 0} (put : Result T E) (digest fresh : List ℕ)
      (is_digest : digest ≡ name_of t Digest) (is_fresh : fresh ≡ name_of t FreshDigest)
      (effect : Effect (Disturbs fresh) (Puts digest fresh line) put v0 v1) where
    here : Effect (Disturbs (name_of t FreshDigest)) (Puts (name_of t Digest) (name_of t FreshDigest) line) put v0 v1
    here = subst (λ (n : List ℕ). Effect (Disturbs n) (Puts (name_of t Digest) n line) put v0 v1) is_fresh
        (subst (λ (n : List ℕ). Effect (Disturbs fresh) (Puts n fresh line) put v0 v1) is_digest effect)

    pub put_failed : {X F : Type 0} (result : Result X F) → IsErr result → Effect (Publishing t line) (Publishes t line) result v0 v1
    put_failed result err = gave_up (Publishing t line) (Publishes t line) result v0 v1 err
        (weaker v0 v1 _ (λ c. (d : Files) × v0.may_leave d × (Publishing t line d c ⊎ Publishes t line d c)) (λ c from. (from.0, from.1, inl (either_way from.0 c from.2))) here.any_moment)
        (either_way v0.seen v1.seen here.failed)

    puts_here : Happens (Puts digest fresh line) v0 v1 → Happens (Puts (name_of t Digest) (name_of t FreshDigest) line) v0 v1
    puts_here happens = subst (λ (n : List ℕ). Happens (Puts (name_of t Digest) n line) v0 v1) is_fresh (subst (λ (n : List ℕ). Happens (Puts n fresh line) v0 v1) is_digest happens)

    pub there_still : Happens (Puts digest fresh line) v0 v1 → (checkpoint : List ℕ) → checkpoint ≡ name_of t Checkpoint → IsSome (v0.seen (name_of t Checkpoint)) → IsSome (v1.seen checkpoint)
    there_still happens checkpoint is there =
        subst (λ (f : Option (List ℕ)). IsSome f) (sym (ap v1.seen is ∙ (puts_here happens).seen.others (name_of t Checkpoint) (checkpoint_digest t) (checkpoint_fresh t))) there

    pub renamed : (v2 : View) {X : Type 0} (result : Result X DiskFail) (checkpoint itself : List ℕ) → checkpoint ≡ name_of t Checkpoint → itself ≡ name_of t Itself
        → Happens (Puts digest fresh line) v0 v1 → Atomic (Moves checkpoint itself) result v1 v2 → Effect (Publishing t line) (Publishes t line) result v0 v2
    renamed v2 result checkpoint itself is_checkpoint is_itself happens atomic =
        let put_here = puts_here happens in
        let moved_here : Atomic (Moves (name_of t Checkpoint) (name_of t Itself)) result v1 v2 =
        subst (λ (n : List ℕ). Atomic (Moves (name_of t Checkpoint) n) result v1 v2) is_itself (subst (λ (n : List ℕ). Atomic (Moves n itself) result v1 v2) is_checkpoint atomic) in
        effect_then (Puts (name_of t Digest) (name_of t FreshDigest) line) IsSame (Publishing t line) v0 v1 v2 sound0 sound1 (Moves (name_of t Checkpoint) (name_of t Itself)) (Publishes t line) result
        (weaker v0 v1 _ (From v0 (Publishing t line)) (λ c from. (from.0, from.1, either_way from.0 c from.2)) here.any_moment)
        put_here.crash put_here.seen
        (λ d e c left_d left_e puts same. when_same d e c puts same)
        (λ d e c left_d left_e puts moves. when_moved d e c puts moves)
        (atomic_effect (Moves (name_of t Checkpoint) (name_of t Itself)) result v1 v2 sound1 moved_here)

-- ## The whole
-- the checkpoint file is stored, and the image may be gone
pub record Ready (t : ℕ) (d e : Files) : Type 0 where
  pub only : OnlyOf t (Itself ∷ Checkpoint ∷ Digest ∷ FreshDigest ∷ []) d e
  pub image : (e (name_of t Itself) ≡ d (name_of t Itself)) ⊎ (e (name_of t Itself) ≡ None)
  pub digest : e (name_of t Digest) ≡ d (name_of t Digest)

module _ (t : ℕ) where
  stored_ready : (d c : Files) → OnlyOf t (Checkpoint ∷ FreshDigest ∷ []) d c → Ready t d c
  stored_ready d c stored = record {
    only = record { others = λ name out. stored.others name (out.1.0, (out.1.1.1.0, tt)) };
    image = inl (stored.others (name_of t Itself) (itself_checkpoint t, (itself_fresh t, tt)));
    digest = stored.others (name_of t Digest) (turned (checkpoint_digest t), (digest_fresh t, tt));
  }

  both_ready : (d e c : Files) → OnlyOf t (Checkpoint ∷ FreshDigest ∷ []) d e → MayGo (name_of t Itself) e c → Ready t d c
  both_ready d e c stored goes =
      let first = stored_ready d e stored in
      record {
        only = record { others = λ name out. goes.others name out.0 ∙ first.only.others name out };
        image = ⊎_elim (λ same. inl (same ∙ stored.others (name_of t Itself) (itself_checkpoint t, (itself_fresh t, tt)))) (λ none. inr none) goes.here;
        digest = goes.others (name_of t Digest) (turned (itself_digest t)) ∙ first.digest;
      }

  ready_prepares : (d c : Files) → Ready t d c → Prepares t d c
  ready_prepares d c ready = record { only = ready.only; here = ⊎_elim (λ same. inl record { itself = same; digest = ready.digest }) (λ none. inr none) ready.image }

  pub stored_prepares : (d c : Files) → OnlyOf t (Checkpoint ∷ FreshDigest ∷ []) d c → Prepares t d c
  stored_prepares d c stored = ready_prepares d c (stored_ready d c stored)

  -- the image isn't there, or has this digest
  abbrev Free : List ℕ → Files → Type 0
  Free line e = (e (name_of t Itself) ≡ None) ⊎ (e (name_of t Digest) ≡ Some line)

  still : (line : List ℕ) (d e c : Files) → Ready t d e → (e (name_of t Itself) ≡ None) ⊎ (e (name_of t Digest) ≡ Some line) → Publishing t line e c → KeepsImage t d c ⊎ (c (name_of t Itself) ≡ None)
  still line d e c ready free publishing = by free ready.image publishing.digest
    where
      same : c (name_of t Itself) ≡ e (name_of t Itself)
      same = publishing.only.others (name_of t Itself) (itself_digest t, (itself_fresh t, tt))

      by : (e (name_of t Itself) ≡ None) ⊎ (e (name_of t Digest) ≡ Some line) → (e (name_of t Itself) ≡ d (name_of t Itself)) ⊎ (e (name_of t Itself) ≡ None)
          → (c (name_of t Digest) ≡ e (name_of t Digest)) ⊎ (c (name_of t Digest) ≡ Some line) → KeepsImage t d c ⊎ (c (name_of t Itself) ≡ None)
      by (inl none) image digest = inr (same ∙ none)
      by (inr held) (inr none) digest = inr (same ∙ none)
      by (inr held) (inl kept) (inl digest) = inl record { itself = same ∙ kept; digest = digest ∙ ready.digest }
      by (inr held) (inl kept) (inr digest) = inl record { itself = same ∙ kept; digest = digest ∙ sym held ∙ ready.digest }

  noise : (line : List ℕ) (d e c : Files) → Ready t d e → (e (name_of t Itself) ≡ None) ⊎ (e (name_of t Digest) ≡ Some line) → Publishing t line e c → Prepares t d c
  noise line d e c ready free publishing = record {
    only = record { others = λ name out. publishing.only.others name (out.1.1.0, (out.1.1.1.0, tt)) ∙ ready.only.others name out };
    here = still line d e c ready free publishing;
  }

  deed : (bytes line : List ℕ) (d e c : Files) → Ready t d e → e (name_of t Checkpoint) ≡ Some bytes → Publishes t line e c → Saves t bytes line d c
  deed bytes line d e c ready stored publishes = record {
    only = record { others = λ name out. publishes.only.others name out ∙ ready.only.others name out };
    itself = publishes.itself ∙ stored;
    digest = publishes.digest;
    checkpoint = publishes.checkpoint;
    fresh = publishes.fresh;
  }

  module _ (bytes : List ℕ) (v0 v1 v2 : View) (sound0 : IsSound v0) (sound1 : IsSound v1)
      (one : Quiet (OnlyOf t (Checkpoint ∷ FreshDigest ∷ [])) v0 v1) (two : Quiet (MayGo (name_of t Itself)) v1 v2) where
    ready : Quiet (Ready t) v0 v2
    ready = quiet_then (OnlyOf t (Checkpoint ∷ FreshDigest ∷ [])) (MayGo (name_of t Itself)) (Ready t) v0 v1 v2 sound0 sound1 stored_ready
        (λ d e c left_d left_e first second. both_ready d e c first second) one two

    pub prepared : Quiet (Prepares t) v0 v2
    prepared = quiet_weaker (Ready t) (Prepares t) v0 v2 ready_prepares ready

    pub stored_still : AllLeave v1 (λ c. c (name_of t Checkpoint) ≡ Some bytes) → AllLeave v2 (λ c. c (name_of t Checkpoint) ≡ Some bytes)
    stored_still stored c left = let from = two.now c left in from.2.others (name_of t Checkpoint) (turned (itself_checkpoint t)) ∙ stored from.0 from.1

    pub fresh_still : v1.seen (name_of t FreshDigest) ≡ None → v2.seen (name_of t FreshDigest) ≡ None
    fresh_still gone = two.seen.others (name_of t FreshDigest) (turned (itself_fresh t)) ∙ gone

    pub checkpoint_there : IsSound v2 → AllLeave v1 (λ c. c (name_of t Checkpoint) ≡ Some bytes) → IsSome (v2.seen (name_of t Checkpoint))
    checkpoint_there sound2 stored = subst (λ (f : Option (List ℕ)). IsSome f) (sym (stored_still stored v2.seen sound2.seen_now)) refl

    pub saved : (line : List ℕ) → IsSound v2 → AllLeave v1 (λ c. c (name_of t Checkpoint) ≡ Some bytes)
        → AllLeave v2 (λ c. (c (name_of t Itself) ≡ None) ⊎ (c (name_of t Digest) ≡ Some line))
        → (v3 : View) {X E : Type 0} (result : Result X E) → Effect (Publishing t line) (Publishes t line) result v2 v3 → Effect (Prepares t) (Saves t bytes line) result v0 v3
    saved line sound2 stored free v3 result effect = effect_then (Ready t) (Publishing t line) (Prepares t) v0 v2 v3 sound0 sound2 (Publishes t line) (Saves t bytes line) result
        prepared.moments ready.now ready.seen
        (λ d e c left_d left_e first second. noise line d e c first (free e left_e) second)
        (λ d e c left_d left_e first second. deed bytes line d e c first (stored_still stored e left_e) second)
        effect

-- ## An image is removed
module _ (t : ℕ) (v0 v1 v2 : View) (sound0 : IsSound v0) (sound1 : IsSound v1) (itself digest : List ℕ) (is_itself : itself ≡ name_of t Itself) (is_digest : digest ≡ name_of t Digest) where
  goes : (d c : Files) → MayGo (name_of t Itself) d c → Removes t d c
  goes d c step = record {
    only = record { others = λ name out. step.others name out.0 };
    here = ⊎_elim (λ same. inl record { itself = same; digest = step.others (name_of t Digest) (turned (itself_digest t)) }) (λ none. inr none) step.here;
  }

  goes_on : (d e c : Files) → MayGo (name_of t Itself) d e → e (name_of t Itself) ≡ None → MayGo (name_of t Digest) e c → Removes t d c
  goes_on d e c first none second = record {
    only = record { others = λ name out. second.others name out.1.0 ∙ first.others name out.0 };
    here = inr (second.others (name_of t Itself) (itself_digest t) ∙ none);
  }

  pub itself_removed : Quiet (MayGo itself) v0 v1 → Quiet (Removes t) v0 v1
  itself_removed one = quiet_weaker (MayGo (name_of t Itself)) (Removes t) v0 v1 goes (subst (λ (n : List ℕ). Quiet (MayGo n) v0 v1) is_itself one)

  pub both_removed : Quiet (MayGo itself) v0 v1 → v1.seen itself ≡ None → Quiet (MayGo digest) v1 v2 → Quiet (Removes t) v0 v2
  both_removed one gone two = quiet_then (MayGo (name_of t Itself)) (MayGo (name_of t Digest)) (Removes t) v0 v1 v2 sound0 sound1 goes
      (λ d e c left_d left_e first second. goes_on d e c first (sound1.absent (name_of t Itself) e (sym (ap v1.seen is_itself) ∙ gone) left_e) second)
      (subst (λ (n : List ℕ). Quiet (MayGo n) v0 v1) is_itself one) (subst (λ (n : List ℕ). Quiet (MayGo n) v1 v2) is_digest two)

  pub is_removed : v1.seen itself ≡ None → Quiet (MayGo digest) v1 v2 → v2.seen digest ≡ None → IsRemoved t v2.seen
  is_removed gone two digest_gone = record {
    itself = (subst (λ (n : List ℕ). Quiet (MayGo n) v1 v2) is_digest two).seen.others (name_of t Itself) (itself_digest t) ∙ sym (ap v1.seen is_itself) ∙ gone;
    digest = sym (ap v2.seen is_digest) ∙ digest_gone;
  }
