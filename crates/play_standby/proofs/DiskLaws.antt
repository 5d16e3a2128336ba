-- The images that a disk holds, over a checkpoint and opening.
use Rattle.std.proofs.Common.{inl, inr, ⊎_elim, ◌⊎◌, ◌≡◌, ℕ, ◌+◌, ◌-◌, ◌<◌, ◌≤◌, ◌^◌, max, List, [], ◌∷◌, ◌++◌, refl, sym, ap, ◌∙◌, subst, arith, length, take, drop, length-append, Option, Some, None}
use Rattle.std.specs.Prelude.{◌↔◌, ◌≢◌, Contains, IsSome, slice_index, Result, Ok, IsErr, OnOk}
use Rattle.std.proofs.Math.Seq.{get_or-append_seam}
use Rattle.std.proofs.lemmas.Bool.{cases_eq}
use Rattle.base_disk.specs.Files.{Files}
use Rattle.ns_tree.specs.Space.{Space, empty_space}
use Rattle.ns_edits.specs.Replay.{Image}
use Rattle.play_names.specs.Holding.{image_put, save_image, reload_image, min_to_keep}
use Rattle.ns_store.specs.Images.{image_in, Counts, ListsImages}
use Rattle.ns_store.specs.Images as stored
use Rattle.ns_store.specs.Lists.{older_than, second_newest, kept_from}
use Rattle.ns_store.specs.Names.{Itself, Digest, name_of}
use Rattle.ns_store.specs.Saves.{Prepares, Thins, AreRemoved, Retains}
use Rattle.base_disk.specs.Calls.{Effect, Happens}
use Rattle.base_disk.specs.Runs.{Quiet, weaker, joined}
use Rattle.base_disk.specs.View.{View, LeavesOnly}
use Rattle.base_disk.specs.declared.disk.DiskFail.{DiskFail}
use Rattle.std.proofs.lemmas.Result.{on_ok_weaker, IfOk-from_err}
use Rattle.ns_store.specs.Answers.{IsNewest, IsKeptFrom}
use Rattle.ns_store.specs.Loads.{SavesImage, LoadsAs, IsAnswer, IsAnswerOf}
use Rattle.ns_store.specs.declared.loaded.Loaded.{Loaded}
use Rattle.ns_store.specs.declared.loaded.Loaded.TheVariants as loading
use Rattle.ns_store.specs.declared.newest_answer.Newest.TheVariants as newest
use Rattle.ns_store.specs.declared.kept_answer.MinToKeep.{MinToKeep}
use Rattle.ns_store.specs.declared.kept_answer.MinToKeep.TheVariants as kept
use Rattle.ns_store.proofs.CountLaws.{only_others, after_it, thin_others}
use Rattle.ns_store.proofs.AnswerLaws.{loads_as}
use Rattle.ns_store.proofs.ThinLaws.{one_list, small_front}
use Rattle.play_standby.specs.declared.opened.OpenedImage.{OpenedImage}
use Rattle.play_standby.specs.declared.opened.OpenedImage.TheVariants as opened
use Rattle.play_standby.specs.Standbys.{StandbyView, empty_standby, held}
use Rattle.play_standby.specs.Disks.{AreFalling, HasTxid, HoldsImages, rising_txids, IsOpened, OpensAs, IsReloaded, IsMinOf, ListsBeside, IsThinned, IsInCheckpoint, Checkpoints}
use Rattle.play_standby.proofs.ImageLists.{Each, each_both, each_of, at_txid, has_or_not, put_has, put_has_it, put_falling, put_each, rising_has, has_rising, rising_sorted, rising_two, older_two}

-- ## One image in two folders
counts_as : (old new : Files) (t : ℕ) → image_in new t ≡ image_in old t → Counts old t → Counts new t
counts_as old new t e c = (c.0, subst (λ (o : Option stored.Image). IsSome o) (sym e) c.1)

loads_same : (t : ℕ) (s : Space) (old new : Files) → image_in new t ≡ image_in old t → LoadsAs t s old → LoadsAs t s new
loads_same t s old new e h =
    subst (λ (o : Option stored.Image). (answer : Loaded) → ((t ≤ 2 ^ 62 → IsAnswerOf t o answer) × ((t ≤ 2 ^ 62 → ⊥) → answer ≡ loading.NoImage)) ↔ (answer ≡ loading.Image s t)) (sym e) h

small_in : (files : Files) (images : List Image) → HoldsImages files images → (t : ℕ) → HasTxid t images → t ≤ 2 ^ 62
small_in files images h t has = ((h.counts t).1 has).0

smalls : (files : Files) (images : List Image) → HoldsImages files images → Each (λ i. i.txid ≤ 2 ^ 62) images
smalls files images h = each_of (λ t. t ≤ 2 ^ 62) images (small_in files images h)

-- ## A save
pub saved_holds : (images : List Image) (i : Image) (old new : Files) → i.txid ≤ 2 ^ 62 → HoldsImages old images → SavesImage i.txid i.space old new → HoldsImages new (image_put i images)
saved_holds images i old new small h saves = record {
  falling = put_falling i images h.falling;
  counts = λ t. (λ c. to t c (cases_eq t i.txid), λ has. ⊎_elim (λ e. subst (λ (k : ℕ). Counts new k) (sym e) here) (λ x. from t x (cases_eq t i.txid)) (put_has i t images has));
  loads = put_each i (λ j. LoadsAs j.txid j.space new) (loads_as i.txid i.space old new small saves) images h.falling
      (each_both (λ j. LoadsAs j.txid j.space old) (λ j. j.txid ≤ 2 ^ 62) (λ j. (j.txid ≡ i.txid → ⊥) → LoadsAs j.txid j.space new)
      (λ j l s ne. loads_same j.txid j.space old new (others j.txid s ne) l) images h.loads (smalls old images h));
}
  where
    others : (t : ℕ) → t ≤ 2 ^ 62 → (t ≡ i.txid → ⊥) → image_in new t ≡ image_in old t
    others t s ne = only_others i.txid t small s ne old new saves.saves.only

    here : Counts new i.txid
    here = let e = after_it i.txid _ _ old new saves.saves in (small, subst (λ (o : Option stored.Image). IsSome o) (sym e) refl)

    to : (t : ℕ) → Counts new t → (t ≡ i.txid) ⊎ (t ≡ i.txid → ⊥) → HasTxid t (image_put i images)
    to t c (inl e) = put_has_it i t images (inl e)
    to t c (inr ne) = put_has_it i t images (inr ((h.counts t).0 (counts_as new old t (sym (others t c.0 ne)) c)))

    from : (t : ℕ) → HasTxid t images → (t ≡ i.txid) ⊎ (t ≡ i.txid → ⊥) → Counts new t
    from t has (inl e) = subst (λ (k : ℕ). Counts new k) (sym e) here
    from t has (inr ne) = counts_as old new t (others t (small_in old images h t has) ne) ((h.counts t).1 has)

-- ## All but some are removed
pub record Parts (images keep gone : List Image) : Type 1 where
  pub falling : AreFalling keep
  pub kept : (t : ℕ) → HasTxid t keep → HasTxid t images
  pub left : (t : ℕ) → HasTxid t gone → HasTxid t images
  pub either : (t : ℕ) → HasTxid t images → HasTxid t keep ⊎ HasTxid t gone
  pub apart : (t : ℕ) → HasTxid t keep → HasTxid t gone → ⊥
  pub loads : (P : Image → Type 0) → Each P images → Each P keep

parts : (images : List Image) → AreFalling images → Parts images (take 2 images) (drop 2 images)
parts [] f = record { falling = tt; kept = λ t h. h; left = λ t h. h; either = λ t h. inl h; apart = λ t h g. g; loads = λ P p. p }
parts (i ∷ []) f = record { falling = f; kept = λ t h. h; left = λ t h. absurd h; either = λ t h. inl h; apart = λ t h g. g; loads = λ P p. p }
parts (i ∷ j ∷ is) f = record {
  falling = ((f.0.0, tt), (tt, tt));
  kept = λ t h. ⊎_elim (λ e. inl e) (λ x. inr (⊎_elim (λ e. inl e) (λ lacks. absurd lacks) x)) h;
  left = λ t h. inr (inr h);
  either = λ t h. ⊎_elim (λ e. inl (inl e)) (λ x. ⊎_elim (λ e. inl (inr (inl e))) (λ y. inr y) x) h;
  apart = λ t h g. ⊎_elim (λ e. below t i.txid e (at_txid (λ k. k < i.txid) is t f.0.1 g)) (λ x. ⊎_elim (λ e. below t j.txid e (at_txid (λ k. k < j.txid) is t f.1.0 g)) (λ lacks. lacks) x) h;
  loads = λ P p. (p.0, (p.1.0, tt));
}
  where
    below : (t k : ℕ) → t ≡ k → t < k → ⊥
    below t k e h = omega (arith, e, h)

removed_none : (files : Files) (t : ℕ) → files (name_of t Itself) ≡ None → Counts files t → ⊥
removed_none files t e c = lacks (subst (λ (o : Option (List ℕ)). IsSome (stored.image_of o (files (name_of t Digest)))) e c.1)
  where
    lacks : IsSome (stored.image_of None (files (name_of t Digest))) → ⊥
    lacks h = absurd (cc h)

pub thinned_holds : (images keep gone : List Image) (old new : Files) → HoldsImages old images → Parts images keep gone
    → Thins (rising_txids gone) old new → AreRemoved (rising_txids gone) new → HoldsImages new keep
thinned_holds images keep gone old new h p thins removed = record {
  falling = p.falling;
  counts = λ t. (λ c. to t c (has_or_not t gone), λ has. counts_as old new t (same t (small_in old images h t (p.kept t has)) (λ g. p.apart t has g)) ((h.counts t).1 (p.kept t has)));
  loads = each_both (λ i. LoadsAs i.txid i.space old) (λ i. image_in new i.txid ≡ image_in old i.txid) (λ i. LoadsAs i.txid i.space new) (λ i l e. loads_same i.txid i.space old new e l) keep
      (p.loads (λ i. LoadsAs i.txid i.space old) h.loads)
      (each_of (λ t. image_in new t ≡ image_in old t) keep (λ t has. same t (small_in old images h t (p.kept t has)) (λ g. p.apart t has g)));
}
  where
    same : (t : ℕ) → t ≤ 2 ^ 62 → (HasTxid t gone → ⊥) → image_in new t ≡ image_in old t
    same t s lacks = thin_others (rising_txids gone) t old new (λ u c. small_in old images h u (p.left u (rising_has u gone c))) s (λ c. lacks (rising_has t gone c)) thins

    kept : (t : ℕ) → HasTxid t keep ⊎ HasTxid t gone → (HasTxid t gone → ⊥) → HasTxid t keep
    kept t (inl k) lacks = k
    kept t (inr g) lacks = absurd (lacks g)

    to : (t : ℕ) → Counts new t → HasTxid t gone ⊎ (HasTxid t gone → ⊥) → HasTxid t keep
    to t c (inl g) = absurd (removed_none new t (removed t (has_rising t gone g)).itself c)
    to t c (inr lacks) = kept t (p.either t ((h.counts t).0 (counts_as new old t (sym (same t c.0 lacks)) c))) lacks

pub lists : (files : Files) (images : List Image) → HoldsImages files images → ListsImages (rising_txids images) files
lists files images h = record {
  each = λ t. (λ c. (h.counts t).1 (rising_has t images c), λ c. has_rising t images ((h.counts t).0 c));
  sorted = rising_sorted images h.falling;
}

pub retained_holds : (images : List Image) (old new : Files) → HoldsImages old images → Thins (older_than 2 (rising_txids images)) old new → AreRemoved (older_than 2 (rising_txids images)) new
    → HoldsImages new (take 2 images)
retained_holds images old new h thins removed =
    thinned_holds images (take 2 images) (drop 2 images) old new h (parts images h.falling)
    (subst (λ (l : List ℕ). Thins l old new) (older_two images) thins) (subst (λ (l : List ℕ). AreRemoved l new) (older_two images) removed)

-- ## Opening
newest_is : (files : Files) (i : Image) (is : List Image) (t : ℕ) → HoldsImages files (i ∷ is) → IsNewest files (newest.Image t) → t ≡ i.txid
newest_is files i is t h n = by ((h.counts t).0 n.0)
  where
    by : HasTxid t (i ∷ is) → t ≡ i.txid
    by (inl e) = e
    by (inr x) =
        let below : t < i.txid = at_txid (λ k. k < i.txid) is t h.falling.0 x in
        let most : i.txid ≤ t = n.1 i.txid ((h.counts i.txid).1 (inl refl)) in
        absurd (omega (arith, below, most))

answer_is : (files : Files) (images : List Image) (t : ℕ) (answer : Loaded) → HoldsImages files images → IsNewest files (newest.Image t) → IsAnswer files t answer
    → (i : Image) × (is : List Image) × (images ≡ i ∷ is) × (answer ≡ loading.Image i.space i.txid)
answer_is files [] t answer h n a = absurd ((h.counts t).0 n.0)
answer_is files (i ∷ is) t answer h n a =
    let e : t ≡ i.txid = newest_is files i is t h n in
    (i, is, refl, (h.loads.0 answer).0 (subst (λ (k : ℕ). IsAnswer files k answer) e a))

is_image : Loaded → Type 0
is_image (loading.Image namespace txid) = Unit {0}
is_image _ = ⊥

space_of : Loaded → Space
space_of (loading.Image namespace txid) = namespace
space_of _ = empty_space

txid_of : Loaded → ℕ
txid_of (loading.Image namespace txid) = txid
txid_of _ = 0

first_of : (images is : List Image) (i : Image) (old : StandbyView) → images ≡ i ∷ is → held images (record { space = i.space; position = i.txid }) ≡ reload_image (held images old)
unfolding reload_image
first_of images is i old e = subst (λ (l : List Image). held l (record { space = i.space; position = i.txid }) ≡ reload_image (held l old)) (sym e) refl

empty_of : (files : Files) (images : List Image) (old new : StandbyView) → HoldsImages files images → ((t : ℕ) → Counts files t → ⊥)
    → new ≡ empty_standby → held images new ≡ reload_image (held images old)
unfolding reload_image
empty_of files [] old new h none s = ap (held []) s
empty_of files (i ∷ is) old new h none s = absurd (none i.txid ((h.counts i.txid).1 (inl refl)))

pub reload_of : (files : Files) (images : List Image) (old new : StandbyView) (answer : OpenedImage) → HoldsImages files images
    → IsOpened files new answer → OpensAs old new answer → IsReloaded images old new answer
unfolding space_of txid_of is_image
reload_of files images old new (opened.Loaded told) h o s =
    let x = answer_is files images o.txid (loading.Image new.space told) h o.newest o.loaded in
    let space : new.space ≡ x.0.space = ap space_of x.3 in
    let txid : told ≡ x.0.txid = ap txid_of x.3 in
    let same : held images new ≡ held images (record { space = x.0.space; position = x.0.txid }) = λ k. held images (record { space = space k; position = (s ∙ txid) k }) in
    same ∙ first_of images x.1 x.0 old x.2
reload_of files images old new opened.Empty h o s = empty_of files images old new h o s
reload_of files images old new (opened.DigestDiffers stored computed) h o s =
    let x = answer_is files images o.txid (loading.DigestDiffers stored computed) h o.newest o.loaded in subst is_image (sym x.3) tt
reload_of files images old new (opened.BadImage place cause) h o s =
    let x = answer_is files images o.txid (loading.BadImage place cause) h o.newest o.loaded in subst is_image (sym x.3) tt
reload_of files images old new opened.DiskFault h o s = tt
reload_of files images old new opened.OutOfMemory h o s = tt

-- ## What is to keep
kept_of : (images : List Image) (extra : ℕ) → (images ≡ [] → ⊥) → min_to_keep extra images ≡ Some (kept_from extra (rising_txids images))
unfolding min_to_keep
kept_of [] extra ne = absurd (ne refl)
kept_of (i ∷ []) extra ne = refl
kept_of (i ∷ j ∷ is) extra ne =
    let size : length (rising_txids is ++ j.txid ∷ i.txid ∷ []) ≡ length (rising_txids is) + 2 = length-append (rising_txids is) (j.txid ∷ i.txid ∷ []) in
    let at : length (rising_txids is ++ j.txid ∷ i.txid ∷ []) - 2 ≡ length (rising_txids is) = omega (arith, size) in
    let here : slice_index (rising_txids is ++ j.txid ∷ i.txid ∷ []) (length (rising_txids is)) ≡ j.txid = get_or-append_seam (rising_txids is) j.txid (i.txid ∷ []) 0 in
    let second : second_newest (rising_txids (i ∷ j ∷ is)) ≡ j.txid = ap second_newest (rising_two i j is) ∙ (ap (slice_index (rising_txids is ++ j.txid ∷ i.txid ∷ [])) at ∙ here) in
    ap (λ (k : ℕ). Some (max 1 (k + 1 - extra))) (sym second)

none_kept : (files : Files) (images : List Image) (extra : ℕ) → HoldsImages files images → ((t : ℕ) → Counts files t → ⊥) → min_to_keep extra images ≡ None
unfolding min_to_keep
none_kept files [] extra h none = refl
none_kept files (i ∷ is) extra h none = absurd (none i.txid ((h.counts i.txid).1 (inl refl)))

pub min_of : (files : Files) (images : List Image) (extra : ℕ) (answer : MinToKeep) → HoldsImages files images → IsKeptFrom files extra answer → IsMinOf (min_to_keep extra images) answer
min_of files images extra (kept.Min txid) h (txids, are, some, is) =
    let e : txids ≡ rising_txids images = one_list files txids (rising_txids images) are (lists files images h) in
    kept_of images extra (λ none. some (e ∙ ap rising_txids none)) ∙ ap (λ (l : List ℕ). Some (kept_from extra l)) (sym e) ∙ ap (λ (k : ℕ). Some k) (sym is)
min_of files images extra kept.NoImage h none = none_kept files images extra h none
min_of files images extra kept.DiskFault h x = tt
min_of files images extra kept.OutOfMemory h x = tt

-- ## A new disk
pub holds_none : (files : Files) → ((name : List ℕ) → files name ≡ None) → HoldsImages files []
holds_none files empty = record {
  falling = tt;
  counts = λ t. (λ c. removed_none files t (empty (name_of t Itself)) c, λ h. absurd h);
  loads = tt;
}

-- ## A checkpoint
pub checkpoint_holds : (before : List Image) (s : StandbyView) (old : Files) (v1 v2 : View) (r : Result (Unit {0}) DiskFail) → s.position ≤ 2 ^ 62 → HoldsImages old before
    → SavesImage s.position s.space old v1.seen → Retains 2 r v1 v2 → OnOk r (HoldsImages v2.seen (save_image (held before s)).images)
unfolding save_image
checkpoint_holds before s old v1 v2 r small h saves retains =
    let i : Image = record { space = s.space; txid = s.position } in
    let mid : HoldsImages v1.seen (image_put i before) = saved_holds before i old v1.seen small h saves in
    let listed : ListsImages (rising_txids (image_put i before)) v1.seen = lists v1.seen (image_put i before) mid in
    on_ok_weaker r
    (λ removed. retained_holds (image_put i before) v1.seen v2.seen mid (retains.quiet (rising_txids (image_put i before)) listed).seen (removed (rising_txids (image_put i before)) listed))
    retains.removed

-- ## A checkpoint at every moment
-- the images that count once it is saved
lists_saved : (txid : ℕ) (space : Space) (txids : List ℕ) (old new : Files) → txid ≤ 2 ^ 62 → ListsBeside txid txids old → SavesImage txid space old new → ListsImages txids new
lists_saved txid space txids old new small beside saves = record {
  each = λ t. (λ c. to t ((beside.each t).0 c), λ c. (beside.each t).1 (from t c (cases_eq t txid)));
  sorted = beside.sorted;
}
  where
    others : (t : ℕ) → t ≤ 2 ^ 62 → (t ≡ txid → ⊥) → image_in new t ≡ image_in old t
    others t s ne = only_others txid t small s ne old new saves.saves.only

    here : Counts new txid
    here = let e = after_it txid _ _ old new saves.saves in (small, subst (λ (o : Option stored.Image). IsSome o) (sym e) refl)

    saved : (t : ℕ) → t ≡ txid → Counts new t
    saved t e = subst (λ (k : ℕ). Counts new k) (sym e) here

    stays : (t : ℕ) → Counts old t → (t ≡ txid) ⊎ (t ≡ txid → ⊥) → Counts new t
    stays t c (inl e) = saved t e
    stays t c (inr ne) = counts_as old new t (others t c.0 ne) c

    to : (t : ℕ) → Counts old t ⊎ (t ≡ txid) → Counts new t
    to t (inl c) = stays t c (cases_eq t txid)
    to t (inr e) = saved t e

    from : (t : ℕ) → Counts new t → (t ≡ txid) ⊎ (t ≡ txid → ⊥) → Counts old t ⊎ (t ≡ txid)
    from t c (inl e) = inr e
    from t c (inr ne) = inl (counts_as new old t (sym (others t c.0 ne)) c)

none_went : (older : List ℕ) (files : Files) → Thins older files files
none_went older files = record { others = λ name out. refl; here = λ t is. inl (record { itself = refl; digest = refl }) }

abbrev WhileSaved : ℕ → Space → View → Files → Type 0
WhileSaved txid space old c = (d : Files) × old.may_leave d × (Prepares txid d c ⊎ SavesImage txid space d c)

abbrev WhileThinned : List ℕ → View → Files → Type 0
WhileThinned older mid c = (d : Files) × mid.may_leave d × Thins older d c

abbrev WhileMade : ℕ → Space → List ℕ → View → Files → Type 0
WhileMade txid space older old c = (d : Files) × old.may_leave d × IsInCheckpoint txid space older d c

in_save : (txid : ℕ) (space : Space) (older : List ℕ) (d c : Files) → Prepares txid d c ⊎ SavesImage txid space d c → IsInCheckpoint txid space older d c
in_save txid space older d c (inl prepares) = inl prepares
in_save txid space older d c (inr saves) = inr (record { put = c; saves = saves; thins = none_went older c })

while_saved : (txid : ℕ) (space : Space) (older : List ℕ) (old : View) (c : Files) → WhileSaved txid space old c → WhileMade txid space older old c
while_saved txid space older old c left = (left.0, left.1, in_save txid space older left.0 c left.2)

-- the save was the last step
save_stops : (txid : ℕ) (space : Space) (r saved : Result (Unit {0}) DiskFail) (old new : View) → IsErr r
    → Effect {T = Unit {0}} {E = DiskFail} (Prepares txid) (SavesImage txid space) saved old new → Checkpoints txid space r old new
save_stops txid space r saved old new err effect = record {
  moments = λ txids beside.
      weaker old new (WhileSaved txid space old) (WhileMade txid space (older_than 2 txids) old) (while_saved txid space (older_than 2 txids) old) effect.any_moment;
  seen = λ txids beside. in_save txid space (older_than 2 txids) old.seen new.seen effect.failed;
  done = IfOk-from_err r (λ _. (txids : List ℕ) → ListsBeside txid txids old.seen → IsThinned txid space (older_than 2 txids) old.seen new.seen × AreRemoved (older_than 2 txids) new.seen) err;
}

-- both steps were done, or the second in part
both_steps : (txid : ℕ) (space : Space) (r : Result (Unit {0}) DiskFail) (old mid new : View) → txid ≤ 2 ^ 62
    → LeavesOnly old mid (WhileSaved txid space old) → Happens (SavesImage txid space) old mid → Retains 2 r mid new → Checkpoints txid space r old new
both_steps txid space r old mid new small first saved retains = record {
  moments = λ txids beside.
      weaker old new (λ c. WhileSaved txid space old c ⊎ WhileThinned (older_than 2 txids) mid c) (WhileMade txid space (older_than 2 txids) old)
      (λ c left. ⊎_elim (λ l. while_saved txid space (older_than 2 txids) old c l) (λ l. then_thinned txids c l) left)
      (joined old mid new (WhileSaved txid space old) (WhileThinned (older_than 2 txids) mid) first (quiet txids beside).moments);
  seen = λ txids beside. inr (thinned txids beside);
  done = on_ok_weaker r finished retains.removed;
}
  where
    listed : (txids : List ℕ) → ListsBeside txid txids old.seen → ListsImages txids mid.seen
    listed txids beside = lists_saved txid space txids old.seen mid.seen small beside saved.seen

    quiet : (txids : List ℕ) → ListsBeside txid txids old.seen → Quiet (Thins (older_than 2 txids)) mid new
    quiet txids beside = retains.quiet txids (listed txids beside)

    thinned : (txids : List ℕ) → ListsBeside txid txids old.seen → IsThinned txid space (older_than 2 txids) old.seen new.seen
    thinned txids beside = record { put = mid.seen; saves = saved.seen; thins = (quiet txids beside).seen }

    then_thinned : (txids : List ℕ) (c : Files) → WhileThinned (older_than 2 txids) mid c → WhileMade txid space (older_than 2 txids) old c
    then_thinned txids c left =
        let put = saved.crash left.0 left.1 in
        (put.0, put.1, inr (record { put = left.0; saves = put.2; thins = left.2 }))

    finished : ((txids : List ℕ) → ListsImages txids mid.seen → AreRemoved (older_than 2 txids) new.seen) → (txids : List ℕ) → ListsBeside txid txids old.seen
        → IsThinned txid space (older_than 2 txids) old.seen new.seen × AreRemoved (older_than 2 txids) new.seen
    finished removed txids beside = (thinned txids beside, removed txids (listed txids beside))

-- the txid and the namespace are those of the standby
checkpoint_of : (t u : ℕ) (s n : Space) (r : Result (Unit {0}) DiskFail) (old new : View) → u ≡ t → n ≡ s → Checkpoints u n r old new → Checkpoints t s r old new
checkpoint_of t u s n r old new p q is = subst (λ (z : ℕ). Checkpoints z s r old new) p (subst (λ (z : Space). Checkpoints u z r old new) q is)

pub checkpoint_stops : (t u : ℕ) (s n : Space) (r saved : Result (Unit {0}) DiskFail) (old new : View) → u ≡ t → n ≡ s → IsErr r
    → Effect {T = Unit {0}} {E = DiskFail} (Prepares u) (SavesImage u n) saved old new → Checkpoints t s r old new
checkpoint_stops t u s n r saved old new p q err effect = checkpoint_of t u s n r old new p q (save_stops u n r saved old new err effect)

pub checkpoint_steps : (t u : ℕ) (s n : Space) (x : Unit {0}) (r : Result (Unit {0}) DiskFail) (old mid new : View) → u ≡ t → n ≡ s → u ≤ 2 ^ 62
    → Effect {T = Unit {0}} {E = DiskFail} (Prepares u) (SavesImage u n) (Ok x) old mid → Retains 2 r mid new → Checkpoints t s r old new
checkpoint_steps t u s n x r old mid new p q small effect retains =
    checkpoint_of t u s n r old new p q (both_steps u n r old mid new small effect.any_moment effect.done retains)

-- ## What a checkpoint leaves as it is
small_beside : (txid : ℕ) (txids : List ℕ) (files : Files) → txid ≤ 2 ^ 62 → ListsBeside txid txids files → (t : ℕ) → Contains txids t → t ≤ 2 ^ 62
small_beside txid txids files small beside t has = by ((beside.each t).0 has)
  where
    by : Counts files t ⊎ (t ≡ txid) → t ≤ 2 ^ 62
    by (inl c) = c.0
    by (inr e) = subst (λ (k : ℕ). k ≤ 2 ^ 62) (sym e) small

pub kept_stays : (txid other : ℕ) (space : Space) (txids : List ℕ) (seen old new : Files) → txid ≤ 2 ^ 62 → other ≤ 2 ^ 62 → ListsBeside txid txids seen → other ≢ txid
    → (Contains (older_than 2 txids) other → ⊥) → IsInCheckpoint txid space (older_than 2 txids) old new → image_in new other ≡ image_in old other
kept_stays txid other space txids seen old new small low beside ne kept (inl prepares) = only_others txid other small low ne old new prepares.only
kept_stays txid other space txids seen old new small low beside ne kept (inr thinned) =
    thin_others (older_than 2 txids) other thinned.put new (small_front (length txids - 2) txids (small_beside txid txids seen small beside)) low kept thinned.thins
    ∙ only_others txid other small low ne old thinned.put thinned.saves.saves.only
