-- What is told of names.
use Rattle.std.proofs.Common.{◌≡◌, ◌≢◌, ℕ, ◌≤◌, ◌^◌, List, [], ◌++◌, refl, sym, ap, subst, ◌∙◌, inl, inr, Bool, true, false}
use Rattle.std.specs.Prelude.{Option, Some, None, Result, Ok, Err, IfOk, MatchBool, codes}
use Rattle.base_words.specs.Padded.{padded}
use Rattle.base_disk.specs.Files.{Files}
use Rattle.disk_files.specs.Durable.{number_name}
use Rattle.disk_files.specs.declared.node_number.NodeNumber.{NodeNumber}
use Rattle.disk_files.specs.declared.node_number.NodeNumber.TheVariants.{Promised, Writer, Committed}
use Rattle.disk_segment.specs.Names.{Kind, InProgress, Final, Record, UnderWay, Fresh, name_of}
use Rattle.disk_opening.specs.Kinds.{IsNamed, IsTold}
use Rattle.ns_store.specs.Names as image
use Rattle.list_fsck.specs.declared.finding.Finding.{Finding}
use Rattle.list_fsck.specs.declared.rule.Rule.TheVariants as rule
use Rattle.list_fsck.specs.declared.file_role.FileRole.{FileRole}
use Rattle.list_fsck.specs.declared.file_role.FileRole.TheVariants as role
use Rattle.ns_store.specs.Lists.{IsNamed as IsImageName}
use Rattle.list_fsck.specs.Roles.{IsPassing, temporary, fresh, under_way, checkpoint, IsKnownAs, HasRole}
use Rattle.list_fsck.specs.Rules.{IsVerdict}
use Rattle.list_fsck.specs.Steps.{IsOfImage, IsLeft}

pub no_number : (name : List ℕ) → (name ≢ number_name Promised) → (name ≢ number_name Writer) → (name ≢ number_name Committed) → (n : NodeNumber) → name ≢ number_name n
no_number name promised writer committed Promised = promised
no_number name promised writer committed Writer = writer
no_number name promised writer committed Committed = committed

module _ (name : List ℕ) (numbers : (n : NodeNumber) → name ≢ number_name n) (segments : (start : ℕ) (kind : Kind) → IsTold kind → IsNamed name start kind → ⊥)
    (images : (rest : List ℕ) (txid : ℕ) → IsOfImage rest → IsImageName name rest txid → ⊥) where
  module _ (left : ((front : List ℕ) → name ≢ front ++ codes ".tmp") × ((txid : ℕ) → txid ≤ 2 ^ 62 → name ≢ codes "fsimage.ckpt_" ++ padded 19 txid)) where
    not_passing : IsPassing name → ⊥
    not_passing (temporary front is) = left.0 front is
    not_passing (fresh start is) = segments start Fresh tt is
    not_passing (under_way start epoch is) = segments start (UnderWay epoch) tt is
    not_passing (checkpoint txid small is) = left.1 txid small is

    unknown : (r : FileRole) → IsKnownAs name r → ⊥
    unknown (role.Number n) is = numbers n is
    unknown (role.Record start) is = segments start Record tt is
    unknown (role.InProgress start) is = segments start InProgress tt is
    unknown (role.Final start last) is = segments start (Final last) tt is
    unknown (role.Image txid) is = images [] txid (inl refl) is
    unknown (role.Digest txid) is = images (codes ".md5") txid (inr refl) is
    unknown role.Passing is = not_passing is
    unknown role.Unknown is = is

  pub left_role : (r : FileRole) → IsLeft name r → HasRole name r
  left_role (role.Number n) is = absurd is
  left_role (role.Record start) is = absurd is
  left_role (role.InProgress start) is = absurd is
  left_role (role.Final start last) is = absurd is
  left_role (role.Image txid) is = absurd is
  left_role (role.Digest txid) is = absurd is
  left_role role.Passing is = is
  left_role role.Unknown is = unknown is

-- no file of an image
pub no_image : (name : List ℕ) → ((n : ℕ) → n ≤ 2 ^ 62 → name ≢ codes "fsimage_" ++ (padded 19 n ++ [])) → ((n : ℕ) → n ≤ 2 ^ 62 → name ≢ codes "fsimage_" ++ (padded 19 n ++ codes ".md5"))
    → (rest : List ℕ) (txid : ℕ) → IsOfImage rest → IsImageName name rest txid → ⊥
no_image name itself digest rest txid (inl is) named = itself txid named.small (named.spelled ∙ ap (λ (l : List ℕ). codes "fsimage_" ++ (padded 19 txid ++ l)) is)
no_image name itself digest rest txid (inr is) named = digest txid named.small (named.spelled ∙ ap (λ (l : List ℕ). codes "fsimage_" ++ (padded 19 txid ++ l)) is)

-- ## Verdicts by the name alone
module _ (files : Files) (before : ℕ) (name : List ℕ) where
  pub unknown_told : IsVerdict files before name role.Unknown (Some record { rule = rule.KnownName; first = 0; second = 0 })
  unknown_told = inl (0, 0, (refl, refl), refl)

  pub passing_fine : IsVerdict files before name role.Passing None
  passing_fine =
      inr (λ v w h. h, inr (λ v w h. h, inr (λ v w h. h, inr (λ v w h. h, inr (λ v w h. h, inr (λ v w h. h, inr (λ v w h. h, inr (λ v w h. h, inr (λ v w h. h, inr (λ v w h. h, refl))))))))))

-- a test of how a name ends
pub ends_cases : (name end front : List ℕ) (b : Bool) → (b ≡ true → name ≡ front ++ end) × ((other : List ℕ) → name ≡ other ++ end → b ≡ true)
    → MatchBool b ((other : List ℕ) × (name ≡ other ++ end)) ((other : List ℕ) → name ≢ other ++ end)
ends_cases name end front true is = (front, is.0 refl)
ends_cases name end front false is = λ other ends. let p = is.1 other ends in absurd (cc)

-- the image of an image's name
pub image_name : (name : List ℕ) (txid : ℕ) → IsImageName name [] txid → name ≡ image.name_of txid image.Itself
unfolding image.name_of
image_name name txid is = is.spelled

-- what is told of a role, whatever stands before it, is told of each file that has it
pub told_by_role : {E : Type 0} (files : Files) (before : ℕ) (name : List ℕ) (r s : FileRole) (found : Result (Option Finding) E) → r ≡ s
    → IfOk found (λ f. (before : ℕ) (name : List ℕ) → IsVerdict files before name s f) → IfOk found (IsVerdict files before name r)
told_by_role files before name r s (Ok f) same told = subst (λ (x : FileRole). IsVerdict files before name x f) (sym same) (told before name)
told_by_role files before name r s (Err e) same told = tt

pub told_by_name : {E : Type 0} (files : Files) (before : ℕ) (name at : List ℕ) (r s : FileRole) (found : Result (Option Finding) E) → r ≡ s → name ≡ at
    → IfOk found (λ f. (before : ℕ) → IsVerdict files before at s f) → IfOk found (IsVerdict files before name r)
told_by_name files before name at r s (Ok f) same is told =
    subst (λ (x : FileRole). IsVerdict files before name x f) (sym same) (subst (λ (n : List ℕ). IsVerdict files before n s f) (sym is) (told before))
told_by_name files before name at r s (Err e) same is told = tt

-- the names of the roles
module _ (name : List ℕ) (r : FileRole) (has : HasRole name r) where
  pub record_named : (start : ℕ) → r ≡ role.Record start → name ≡ name_of start Record
  record_named start is = let named : IsNamed name start Record = subst (HasRole name) is has in named.spelled

  pub image_named : (txid : ℕ) → r ≡ role.Image txid → name ≡ image.name_of txid image.Itself
  image_named txid is = let named : IsImageName name [] txid = subst (HasRole name) is has in image_name name txid named
