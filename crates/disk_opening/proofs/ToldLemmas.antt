-- What a name tells, it tells of one file.
use Rattle.std.proofs.Common.{◌≡◌, ℕ, List, ◌++◌, ap, sym, refl, subst, Bool, true, false}
use Rattle.std.specs.Prelude.{MatchBool}
use Rattle.disk_segment.specs.Names.{Kind, InProgress, Final, Record, UnderWay, Fresh, FreshRecord, IsLasting}
use Rattle.disk_opening.specs.Kinds.{IsNamed, IsTold, kind_told}
use Rattle.disk_opening.specs.declared.file_kind.FileKind.{FileKind}
use Rattle.disk_opening.specs.declared.file_kind.FileKind.TheVariants as told
use Rattle.disk_opening.specs.Opening.{IsLastingFile}
use Rattle.disk_opening.specs.Completing.{IsFinalFile, IsWay, IsLeftKind, IsLeftFile}
use Rattle.disk_opening.proofs.MendLemmas.{one_start, one_kind}

pub told_record : (k : FileKind) → kind_told k ≡ Record → k ≡ told.Record
told_record told.InProgress is = absurd (cc)
told_record (told.Final last) is = absurd (cc)
told_record told.Record is = refl
told_record (told.UnderWay epoch) is = absurd (cc)
told_record told.Fresh is = absurd (cc)

pub told_final : (k : FileKind) (last : ℕ) → kind_told k ≡ Final last → k ≡ told.Final last
told_final told.InProgress last is = absurd (cc)
told_final (told.Final other) last is = let p : other ≡ last = cc in ap told.Final p
told_final told.Record last is = absurd (cc)
told_final (told.UnderWay epoch) last is = absurd (cc)
told_final told.Fresh last is = absurd (cc)

pub told_way : (k : FileKind) (epoch : ℕ) → kind_told k ≡ UnderWay epoch → k ≡ told.UnderWay epoch
told_way told.InProgress epoch is = absurd (cc)
told_way (told.Final last) epoch is = absurd (cc)
told_way told.Record epoch is = absurd (cc)
told_way (told.UnderWay other) epoch is = let p : other ≡ epoch = cc in ap told.UnderWay p
told_way told.Fresh epoch is = absurd (cc)

pub no_record : (name : List ℕ) (s : ℕ) (k : FileKind) → IsNamed name s (kind_told k) → (k ≡ told.Record → ⊥) → (start : ℕ) → IsNamed name start Record → ⊥
no_record name s k named not start is = not (told_record k (one_kind name s start (kind_told k) Record named is))

pub no_final_file : (name : List ℕ) (s : ℕ) (k : FileKind) → IsNamed name s (kind_told k) → ((last : ℕ) → k ≡ told.Final last → ⊥) → (start : ℕ) → IsFinalFile name start → ⊥
no_final_file name s k named not start is = not is.last (told_final k is.last (one_kind name s start (kind_told k) (Final is.last) named is.named))

pub no_way_file : (name : List ℕ) (s : ℕ) (k : FileKind) → IsNamed name s (kind_told k) → ((epoch : ℕ) → k ≡ told.UnderWay epoch → ⊥) → IsWay name → ⊥
no_way_file name s k named not is = not is.epoch (told_way k is.epoch (one_kind name s is.start (kind_told k) (UnderWay is.epoch) named is.named))

-- what is left over, by what its name tells
pub left_file : (finals name : List ℕ) (s : ℕ) (k : Kind) (b : Bool) → IsNamed name s k
    → MatchBool b (IsLeftKind finals s k) (IsLeftKind finals s k → ⊥) → MatchBool b (IsLeftFile finals name) (IsLeftFile finals name → ⊥)
left_file finals name s k true named left = record { start = s; kind = k; named = named; left = left }
left_file finals name s k false named not = λ file.
    not (subst (λ (kind : Kind). IsLeftKind finals s kind) (sym (one_kind name s file.start k file.kind named file.named))
    (subst (λ (start : ℕ). IsLeftKind finals start file.kind) (sym (one_start name s file.start k file.kind named file.named)) file.left))

-- what counts, by what its name tells
pub lasting_file : (name : List ℕ) (s : ℕ) (k : Kind) (b : Bool) → IsNamed name s k → MatchBool b (IsLasting k) (IsLasting k → ⊥) → MatchBool b (IsLastingFile name) (IsLastingFile name → ⊥)
lasting_file name s k true named lasts = record { start = s; kind = k; named = named; lasting = lasts }
lasting_file name s k false named not = λ file. not (subst IsLasting (sym (one_kind name s file.start k file.kind named file.named)) file.lasting)

lasting_told : (k : Kind) → IsLasting k → IsTold k
lasting_told InProgress lasts = tt
lasting_told (Final last) lasts = tt
lasting_told Record lasts = tt
lasting_told (UnderWay epoch) lasts = tt
lasting_told Fresh lasts = absurd lasts
lasting_told FreshRecord lasts = lasts

pub no_lasting_file : (name : List ℕ) → ((start : ℕ) (kind : Kind) → IsTold kind → IsNamed name start kind → ⊥) → IsLastingFile name → ⊥
no_lasting_file name none file = none file.start file.kind (lasting_told file.kind file.lasting) file.named

-- a test of how a name ends
pub ends_cases : (name end front : List ℕ) (b : Bool) → (b ≡ true → name ≡ front ++ end) × ((other : List ℕ) → name ≡ other ++ end → b ≡ true)
    → MatchBool b ((other : List ℕ) × (name ≡ other ++ end)) ((other : List ℕ) → name ≡ other ++ end → ⊥)
ends_cases name end front true is = (front, is.0 refl)
ends_cases name end front false is = λ other ends. let p = is.1 other ends in absurd (cc)
