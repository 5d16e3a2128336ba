-- Files that a crash changes one by one, and of which it keeps some.
use Rattle.std.proofs.Common.{◌≡◌, ◌∙◌, ℕ, List, [], ◌∷◌, ap, sym, subst, Bool, true, false, cond, refl}
use Rattle.std.specs.Prelude.{Option, Some, None, string_bytes, if◌then◌else◌}
use Rattle.std.specs.declared.string.String.{String}
use Rattle.std.specs.declared.alloc.Global.{Global}
use Rattle.std.specs.declared.cmp.Ordering.{Ordering}
use Rattle.std.specs.declared.cmp.Ordering.TheVariants.{Less}
use Rattle.std.specs.Bool.{OnTrue}
use Rattle.std.specs.Map.{lookup, keys_of}
use Rattle.std.specs.Map.Calls.{RetainsPairs}
use Rattle.std.specs.Cmp.Lexicographic.{slice_cmp}
use Rattle.std.specs.Ordering.{nat_cmp, is_eq}
use Rattle.std.specs.String.{string_cmp}
use Rattle.std.specs.List.Sorted.{IsStrictlySortedBy}
use Rattle.std.specs.List.{AllByRecursion}
use Rattle.std.proofs.lemmas.Map.Text.{is_eq-slice_cmp}
use Rattle.std.proofs.lemmas.Slice.Eq.{bytes_eq-Decides}
use Rattle.base_disk.specs.declared.disk.Choice.{Choice}
use Rattle.base_disk.specs.FileView.{FileView, crashed, IsImage, at_rest}
use Rattle.base_disk.specs.FileMap.{is_named, now_of, crashed_in, MayBe, IsAtRest}

abbrev Entry : Type 0
Entry = String Global × FileView

-- what a crash makes of one file, and whether the file stays
pub record CrashesFile (choice : Choice) (old : FileView) (stays : Bool) (new : FileView) : Type 0 where
  pub left : (if stays then Some new.now else None) ≡ crashed choice old
  pub rests : OnTrue stays (new ≡ at_rest new.now)
  pub image : IsImage old (crashed choice old)

pub record CrashesIn (choice : Choice) (old new : Option FileView) : Type 0 where
  pub left : now_of new ≡ crashed_in choice old
  pub rests : IsAtRest new
  pub image : MayBe old (crashed_in choice old)

-- after a key there is no key like it
none_behind : (name : List ℕ) (k : String Global) (es : List Entry) → is_named name k ≡ true → AllByRecursion (λ y. string_cmp k y ≡ Less) (keys_of es) → lookup (is_named name) es ≡ None
none_behind name k [] is all = refl
none_behind name k (e ∷ es) is all =
    let same : name ≡ string_bytes k = (bytes_eq-Decides name (string_bytes k)).0 (sym (is_eq-slice_cmp name (string_bytes k)) ∙ is) in
    let less : slice_cmp nat_cmp name (string_bytes e.0) ≡ Less = ap (λ (l : List ℕ). slice_cmp nat_cmp l (string_bytes e.0)) same ∙ all.0 in
    ap (λ (o : Ordering). cond (is_eq o) (Some e.1) (lookup (is_named name) es)) less ∙ none_behind name k es is all.1

absent : (choice : Choice) → CrashesIn choice None None
absent choice = record { left = refl; rests = tt; image = refl }

module _ {F : Type 0} (T : F → String Global → FileView → Bool → FileView → F → Type 0) (choice : Choice) (f : F)
    (each : (k : String Global) (v : FileView) (b : Bool) (w : FileView) (g : F) → T f k v b w g → CrashesFile choice v b w × (g ≡ f)) (name : List ℕ)
  where
    one : (v : FileView) (b : Bool) (w : FileView) (behind : Option FileView) → CrashesFile choice v b w → behind ≡ None → CrashesIn choice (Some v) (if b then Some w else behind)
    one v true w behind crashes none = record { left = crashes.left; rests = crashes.rests; image = crashes.image }
    one v false w behind crashes none =
        subst (λ (o : Option FileView). CrashesIn choice (Some v) o) (sym none) (record { left = crashes.left; rests = tt; image = crashes.image })

    none_left : (o : Option FileView) → crashed_in choice None ≡ now_of o → o ≡ None
    none_left None is = refl
    none_left (Some v) is = absurd (cc)

    -- the first file, and those after it
    step : (k : String Global) (v w : FileView) (es rest : List Entry) (b t : Bool) → is_named name k ≡ t → CrashesFile choice v b w → AllByRecursion (λ y. string_cmp k y ≡ Less) (keys_of es)
        → CrashesIn choice (lookup (is_named name) es) (lookup (is_named name) rest)
        → CrashesIn choice (cond t (Some v) (lookup (is_named name) es)) (lookup (is_named name) (cond b ((k, w) ∷ rest) rest))
    step k v w es rest true true is crashes all behind = subst (λ (s : Bool). CrashesIn choice (Some v) (cond s (Some w) (lookup (is_named name) rest))) (sym is) (one v true w None crashes refl)
    step k v w es rest false true is crashes all behind =
        let none : lookup (is_named name) es ≡ None = none_behind name k es is all in
        one v false w (lookup (is_named name) rest) crashes (none_left (lookup (is_named name) rest) (sym (behind.left ∙ ap (λ (o : Option FileView). crashed_in choice o) none)))
    step k v w es rest true false is crashes all behind = subst (λ (s : Bool). CrashesIn choice (lookup (is_named name) es) (cond s (Some w) (lookup (is_named name) rest))) (sym is) behind
    step k v w es rest false false is crashes all behind = behind

    pub retained : (es kept : List Entry) → IsStrictlySortedBy string_cmp (keys_of es) → RetainsPairs T f es kept → CrashesIn choice (lookup (is_named name) es) (lookup (is_named name) kept)
    unfolding IsStrictlySortedBy
    retained [] kept sorted all = subst (λ (l : List Entry). CrashesIn choice None (lookup (is_named name) l)) (sym all) (absent choice)
    retained (e ∷ es) kept sorted all =
        let did = each e.0 e.1 all.0 all.1 all.2 all.4 in
        let rest : RetainsPairs T f es all.3 = subst (λ (g : F). RetainsPairs T g es all.3) did.1 all.5 in
        subst (λ (l : List Entry). CrashesIn choice (cond (is_named name e.0) (Some e.1) (lookup (is_named name) es)) (lookup (is_named name) l)) (sym all.6)
        (step e.0 e.1 all.1 es all.3 all.0 (is_named name e.0) refl did.0 sorted.0 (retained es all.3 sorted.1 rest))
