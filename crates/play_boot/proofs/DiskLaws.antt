-- What a bootstrap leaves on its own disk.
use Rattle.std.proofs.Common.{inl, inr, ⊎_elim, ◌⊎◌, ◌≡◌, ℕ, ◌≤◌, ◌^◌, List, Option, Some, None, refl, sym, subst}
use Rattle.std.specs.Prelude.{IsSome, Result, Ok, Err, OnOk}
use Rattle.std.proofs.lemmas.Bool.{cases_eq}
use Rattle.base_disk.specs.Files.{Files}
use Rattle.base_disk.specs.View.{View, IsSound, LeavesOnly}
use Rattle.base_disk.specs.Calls.{Rests, Effect, Happens}
use Rattle.base_disk.specs.Moments.{started, goes_on}
use Rattle.base_disk.specs.Runs.{weaker, joined}
use Rattle.md5.specs.Md5.{md5}
use Rattle.ns_store.specs.Answers.{IsNewest}
use Rattle.ns_store.specs.Digests.{digest_line}
use Rattle.ns_store.specs.Images.{Image, image_of, image_in, Counts}
use Rattle.ns_store.specs.Loads.{HasBytes}
use Rattle.ns_store.specs.Names.{Itself, Digest, name_of}
use Rattle.ns_store.specs.Saves.{Prepares, Saves}
use Rattle.ns_store.specs.declared.newest_answer.Newest.TheVariants as newest
use Rattle.ns_store.proofs.CountLaws.{only_others, before_it, after_it}
use Rattle.play_boot.specs.Boots.{Copies, IsKept, HasNoneOrCopy}

-- ## No image counts
lacks_itself : (digest : Option (List ℕ)) → IsSome (image_of None digest) → ⊥
lacks_itself digest h = absurd (cc h)

lacks_digest : (itself : Option (List ℕ)) → IsSome (image_of itself None) → ⊥
lacks_digest None h = absurd (cc h)
lacks_digest (Some bytes) h = absurd (cc h)

both_there : (a b x y : Option (List ℕ)) → (a ≡ None → x ≡ None) → (b ≡ None → y ≡ None) → IsSome (image_of x y) → IsSome (image_of a b)
both_there None b x y f g h = absurd (lacks_itself y (subst (λ (o : Option (List ℕ)). IsSome (image_of o y)) (f refl) h))
both_there (Some a) None x y f g h = absurd (lacks_digest x (subst (λ (o : Option (List ℕ)). IsSome (image_of x o)) (g refl) h))
both_there (Some a) (Some b) x y f g h = refl

-- nor after a crash
none_left : (v : View) (c : Files) → IsSound v → IsNewest v.seen newest.NoImage → v.may_leave c → IsNewest c newest.NoImage
none_left v c sound none left t counts =
    none t (
      counts.0,
      both_there (v.seen (name_of t Itself)) (v.seen (name_of t Digest)) (c (name_of t Itself)) (c (name_of t Digest))
          (λ e. sound.absent (name_of t Itself) c e left) (λ e. sound.absent (name_of t Digest) c e left) counts.1,
    )

pub none_still : (old new : View) → Rests old new → IsNewest old.seen newest.NoImage → IsNewest new.seen newest.NoImage
none_still old new rests none = subst (λ (f : Files). IsNewest f newest.NoImage) (sym rests.keeps.seen) none

pub rests_leave : (from : Files) (old new : View) → IsSound old → Rests old new → IsNewest old.seen newest.NoImage → LeavesOnly old new (HasNoneOrCopy from)
rests_leave from old new sound rests none =
    goes_on old old new (HasNoneOrCopy from) (started old (HasNoneOrCopy from) sound (λ c left. inl (none_left old c sound none left))) rests.keeps.time
    (λ c left. inl (none_left old c sound none (rests.keeps.crash c left)))

-- ## The image is saved
counts_as : (old new : Files) (t : ℕ) → image_in new t ≡ image_in old t → Counts new t → Counts old t
counts_as old new t e c = (c.0, subst (λ (o : Option Image). IsSome o) e c.1)

module _ (t : ℕ) (small : t ≤ 2 ^ 62) (from : Files) (bytes : List ℕ) (original : HasBytes t (image_in from t) bytes) where
  abbrev SavesBytes : Files → Files → Type 0
  SavesBytes = Saves t bytes (digest_line t (md5 bytes))

  there : (old new : Files) → SavesBytes old new → HasBytes t (image_in new t) bytes
  there old new saves = record {
    digest = digest_line t (md5 bytes);
    there = after_it t bytes (digest_line t (md5 bytes)) old new saves;
    stored = record { bytes = original.stored.bytes; long = original.stored.long; spelled = inr refl };
  }

  copies : (old new : Files) → SavesBytes old new → Copies t bytes old new
  copies old new saves = record { only = saves.only; here = there old new saves }

  alone : (old new : Files) → IsNewest old newest.NoImage → SavesBytes old new → (other : ℕ) → Counts new other → other ≡ t
  alone old new none saves other counts = by (cases_eq other t)
    where
      by : (other ≡ t) ⊎ (other ≡ t → ⊥) → other ≡ t
      by (inl e) = e
      by (inr ne) = absurd (none other (counts_as old new other (only_others t other small counts.0 ne old new saves.only) counts))

  none_prepared : (old new : Files) → IsNewest old newest.NoImage → Prepares t old new → IsNewest new newest.NoImage
  none_prepared old new none prepares other counts = by (cases_eq other t)
    where
      at_it : (image_in new t ≡ image_in old t) ⊎ (image_in new t ≡ None) → Counts new t → ⊥
      at_it (inl same) c = none t (counts_as old new t same c)
      at_it (inr gone) c = let h : IsSome (let o : Option Image = None in o) = subst (λ (o : Option Image). IsSome o) gone c.1 in absurd (cc h)

      by : (other ≡ t) ⊎ (other ≡ t → ⊥) → ⊥
      by (inl e) = at_it (before_it t old new prepares) (subst (λ (k : ℕ). Counts new k) e counts)
      by (inr ne) = none other (counts_as old new other (only_others t other small counts.0 ne old new prepares.only) counts)

  copy_or_none : (is : IsNewest from (newest.Image t)) (old new : Files) → IsNewest old newest.NoImage → Prepares t old new ⊎ SavesBytes old new → HasNoneOrCopy from new
  copy_or_none is old new none (inl prepares) = inl (none_prepared old new none prepares)
  copy_or_none is old new none (inr saves) =
      inr (record { txid = t; newest = is; bytes = bytes; original = original; here = there old new saves; alone = alone old new none saves })

  -- calls that read, and then the save
  module _ {T E : Type 0} (r : Result T E) (old mid new : View) (sound : IsSound old) (sound_mid : IsSound mid) (rests : Rests old mid) (effect : Effect (Prepares t) SavesBytes r mid new) where
    pub save_leaves : IsNewest from (newest.Image t) → IsNewest old.seen newest.NoImage → LeavesOnly old new (HasNoneOrCopy from)
    save_leaves is none =
        weaker old new (λ c. HasNoneOrCopy from c ⊎ HasNoneOrCopy from c) (HasNoneOrCopy from) (λ c either. ⊎_elim (λ h. h) (λ h. h) either)
        (joined old mid new (HasNoneOrCopy from) (HasNoneOrCopy from) (rests_leave from old mid sound rests none)
        (weaker mid new (λ c. (d : Files) × mid.may_leave d × (Prepares t d c ⊎ SavesBytes d c)) (HasNoneOrCopy from)
        (λ c left. copy_or_none is left.0 c (none_left mid left.0 sound_mid (none_still old mid rests none) left.1) left.2) effect.any_moment))

    pub save_keeps : OnOk r (IsKept t from old new)
    save_keeps = by r effect.done
      where
        by : (s : Result T E) → OnOk s (Happens SavesBytes mid new) → OnOk s (IsKept t from old new)
        by (Err e) h = tt
        by (Ok x) h = record {
          bytes = bytes;
          original = original;
          copies = record {
            seen = subst (λ (f : Files). Copies t bytes f new.seen) rests.keeps.seen (copies mid.seen new.seen h.seen);
            crash = λ c left. let put = h.crash c left in (put.0, rests.keeps.crash put.0 put.1, copies put.0 c put.2);
          };
        }
