-- What a standby begins with, of images that a disk holds.
use Rattle.std.proofs.Common.{inl, inr, ◌≡◌, ℕ, ◌<◌, ◌≤◌, List, [], ◌∷◌, Option, Some, None, refl, sym, ap, ◌∙◌, subst, arith}
use Rattle.base_disk.specs.Files.{Files}
use Rattle.ns_edits.specs.Replay.{Image}
use Rattle.ns_tree.specs.Space.{Space, empty_space}
use Rattle.ns_image.specs.Reading.{reading_of}
use Rattle.ns_store.specs.Answers.{IsNewest}
use Rattle.ns_store.specs.Images as stored
use Rattle.ns_store.specs.Images.{image_in, Counts}
use Rattle.ns_store.specs.Loads.{IsAnswerOf, IsAnswer, LoadsAs}
use Rattle.ns_store.specs.declared.loaded.Loaded.{Loaded}
use Rattle.ns_store.specs.declared.loaded.Loaded.TheVariants as loaded
use Rattle.ns_store.specs.declared.newest_answer.Newest.TheVariants as newest
use Rattle.play_names.specs.Holding.{Holding, reload_image}
use Rattle.play_names.specs.ImageDisks.{AreFalling, HasTxid, HoldsImages}
use Rattle.play_standby.specs.declared.opened.OpenedImage.TheVariants as opened
use Rattle.play_standby.specs.Standbys.{StandbyView, empty_standby, held}
use Rattle.play_standby.proofs.ImageLists.{Each, at_txid}
use Rattle.play_standby.proofs.DiskLaws.{reload_of}
use Rattle.play_boot.specs.Boots.{LoadsNewest}
use Rattle.play_boot.specs.Laws.{ABootReloads, CopiesAreLoaded}
use Rattle.play_boot.specs.Nodes.{begun_of, image_of}

-- ## The newest image
newest_at : (files : Files) (images : List Image) (t : ℕ) → HoldsImages files images → IsNewest files (newest.Image t) → Some t ≡ image_of images
newest_at files [] t h n = absurd ((h.counts t).0 n.0)
newest_at files (i ∷ is) t h n = by ((h.counts t).0 n.0)
  where
    by : HasTxid t (i ∷ is) → Some t ≡ Some i.txid
    by (inl e) = ap (λ (k : ℕ). Some k) e
    by (inr x) =
        let below : t < i.txid = at_txid (λ k. k < i.txid) is t h.falling.0 x in
        let most : i.txid ≤ t = n.1 i.txid ((h.counts i.txid).1 (inl refl)) in
        absurd (omega (arith, below, most))

none_at : (files : Files) (images : List Image) → HoldsImages files images → IsNewest files newest.NoImage → None ≡ image_of images
none_at files [] h none = refl
none_at files (i ∷ is) h none = absurd (none i.txid ((h.counts i.txid).1 (inl refl)))

pub boot_reloads : ABootReloads
boot_reloads from images begun old (Some txid) h is = record {
  reloads = reload_of from images old begun (opened.Loaded begun.position) h (record { txid = txid; newest = is.0; loaded = is.1 }) refl;
  newest = newest_at from images txid h is.0;
}
boot_reloads from images begun old None h is = record {
  reloads = reload_of from images old begun opened.Empty h is.0 is.1;
  newest = none_at from images h is.0;
}

standby_of : Holding → StandbyView
standby_of h = record { space = h.space; position = h.position }

pub begun_is : (images : List Image) (begun : StandbyView) → held images begun ≡ reload_image (held images empty_standby) → begun ≡ begun_of images
unfolding reload_image standby_of
begun_is [] begun e = ap standby_of e
begun_is (i ∷ is) begun e = ap standby_of e

-- a load of the newest doesn't fail
pub never_differs : (from : Files) (images : List Image) (kept computed : List ℕ) → HoldsImages from images → LoadsNewest from (loaded.DigestDiffers kept computed) → ⊥
never_differs from images kept computed h l =
    reload_of from images empty_standby empty_standby (opened.DigestDiffers kept computed) h (record { txid = l.txid; newest = l.newest; loaded = l.loads }) refl

pub never_bad : (from : Files) (images : List Image) (place : ℕ) (cause : _) → HoldsImages from images → LoadsNewest from (loaded.BadImage place cause) → ⊥
never_bad from images place cause h l =
    reload_of from images empty_standby empty_standby (opened.BadImage place cause) h (record { txid = l.txid; newest = l.newest; loaded = l.loads }) refl

space_in : Loaded → Space
space_in (loaded.Image namespace txid) = namespace
space_in _ = empty_space

-- ## Copies
bytes_in : Option stored.Image → List ℕ
bytes_in None = []
bytes_in (Some image) = image.bytes

pub copy_loaded : CopiesAreLoaded
unfolding bytes_in
copy_loaded from old new txid told space bytes small original copies is =
    let found : IsAnswerOf txid (image_in from txid) (loaded.Image space told) = is.0 small in
    let same : found.0 ≡ bytes = ap bytes_in (sym found.1.there ∙ original.there) in
    (λ _. (bytes, copies.here, ap reading_of (sym same) ∙ found.2), λ large. absurd (large small))

-- ## A disk holds one list of images
same_held : (files : Files) (a b : List Image) → AreFalling a → AreFalling b → ((t : ℕ) → HasTxid t a → HasTxid t b) → ((t : ℕ) → HasTxid t b → HasTxid t a)
    → Each (λ i. LoadsAs i.txid i.space files) a → Each (λ i. LoadsAs i.txid i.space files) b → a ≡ b
unfolding space_in
same_held files [] [] fa fb to back la lb = refl
same_held files [] (j ∷ b) fa fb to back la lb = absurd (back j.txid (inl refl))
same_held files (i ∷ a) [] fa fb to back la lb = absurd (to i.txid (inl refl))
same_held files (i ∷ a) (j ∷ b) fa fb to back la lb =
    let e : i ≡ j = (λ k. record { space = space k; txid = txid k }) in
    let rest : a ≡ b = same_held files a b fa.1 fb.1 (λ t x. on t x (to t (inr x))) (λ t y. off t y (back t (inr y))) la.1 lb.1 in
    (λ k. e k ∷ rest k)
  where
    both : HasTxid i.txid (j ∷ b) → HasTxid j.txid (i ∷ a) → i.txid ≡ j.txid
    both (inl e) y = e
    both (inr x) (inl e) = sym e
    both (inr x) (inr y) =
        let low : i.txid < j.txid = at_txid (λ k. k < j.txid) b i.txid fb.0 x in
        let high : j.txid < i.txid = at_txid (λ k. k < i.txid) a j.txid fa.0 y in
        absurd (omega (arith, low, high))

    txid : i.txid ≡ j.txid
    txid = both (to i.txid (inl refl)) (back j.txid (inl refl))

    loads : IsAnswer files i.txid (loaded.Image i.space i.txid)
    loads = (la.0 (loaded.Image i.space i.txid)).1 refl

    space : i.space ≡ j.space
    space = ap space_in ((lb.0 (loaded.Image i.space i.txid)).0 (subst (λ (k : ℕ). IsAnswer files k (loaded.Image i.space i.txid)) txid loads))

    on : (t : ℕ) → HasTxid t a → HasTxid t (j ∷ b) → HasTxid t b
    on t x (inr y) = y
    on t x (inl e) = let low : t < i.txid = at_txid (λ k. k < i.txid) a t fa.0 x in absurd (omega (arith, low, e, txid))

    off : (t : ℕ) → HasTxid t b → HasTxid t (i ∷ a) → HasTxid t a
    off t y (inr x) = x
    off t y (inl e) = let low : t < j.txid = at_txid (λ k. k < j.txid) b t fb.0 y in absurd (omega (arith, low, e, txid))

pub one_held : (files : Files) (a b : List Image) → HoldsImages files a → HoldsImages files b → a ≡ b
one_held files a b x y =
    same_held files a b x.falling y.falling (λ t has. (y.counts t).0 ((x.counts t).1 has)) (λ t has. (x.counts t).0 ((y.counts t).1 has)) x.loads y.loads
