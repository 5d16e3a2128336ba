-- A folder has one report.
use Rattle.std.proofs.Common.{◌≡◌, ◌⊎◌, ℕ, zero, suc, ◌<◌, List, [], ◌∷◌, refl, sym, ap, subst, ◌∙◌, inl, inr, ⊎_elim, arith}
use Rattle.std.specs.Prelude.{Option, Some, map, Contains}
use Rattle.std.specs.Cmp.Lexicographic.{slice_cmp}
use Rattle.std.specs.Ordering.{nat_cmp}
use Rattle.std.specs.declared.cmp.Ordering.TheVariants.{Less, Equal}
use Rattle.std.specs.List.Sorted.{IsStrictlySortedBy}
use Rattle.std.proofs.lemmas.Cmp.{tied_itself, nat_list_cmp_total}
use Rattle.std.proofs.lemmas.List.Elements.{All-contains, All-from_recursion}
use Rattle.std.proofs.lemmas.Map.Keys.{sorted_head, sorted_tail}
use Rattle.md5.specs.Md5.{md5}
use Rattle.base_disk.specs.Files.{Files, bytes_of}
use Rattle.base_disk.specs.Calls.{Lists}
use Rattle.disk_files.specs.Durable.{number_name}
use Rattle.disk_files.specs.declared.node_number.NodeNumber.TheVariants.{Promised, Writer}
use Rattle.disk_frame.proofs.SegmentLaws.{one_segment_fault}
use Rattle.ns_image.specs.declared.answer.ReadImage.TheVariants as read
use Rattle.ns_image.specs.Reading.{reading_of}
use Rattle.ns_store.specs.Images.{Image, image_in}
use Rattle.ns_store.specs.Digests.{IsStored}
use Rattle.list_fsck.specs.declared.rule.Rule.{Rule}
use Rattle.list_fsck.specs.declared.rule.Rule.TheVariants as rule
use Rattle.list_fsck.specs.declared.finding.Finding.{Finding}
use Rattle.list_fsck.specs.declared.file_role.FileRole.{FileRole}
use Rattle.list_fsck.specs.declared.file_role.FileRole.TheVariants as role
use Rattle.list_fsck.specs.Segments.{IsBadSegment, no_header, bad_frame}
use Rattle.list_fsck.specs.Roles.{HasRole, end_after}
use Rattle.list_fsck.specs.Rules.{AreZero, StartDiffers, LastDiffers, DigestDiffers, IsBadImage, no_digest, bad_bytes, front_number, Breaks, IsFirstBroken, IsVerdict, in_order}
use Rattle.list_fsck.specs.Reports.{Verdict, count_of, text_of, AreVerdicts, FoldersHaveOneReport}
use Rattle.list_fsck.proofs.SegmentLaws.{one_content}
use Rattle.list_fsck.proofs.NumberLaws.{one_number}
use Rattle.list_fsck.proofs.ImageLaws.{one_stored, the_image}
use Rattle.list_fsck.proofs.OneRole.{one_role}

-- ## The numbers of a finding
abbrev Same : ℕ → ℕ → ℕ → ℕ → Type 0
Same v w x y = (v ≡ x) × (w ≡ y)

both_zero : {v w x y : ℕ} → AreZero v w → AreZero x y → Same v w x y
both_zero one two = (one.0 ∙ sym two.0, one.1 ∙ sym two.1)

one_place : (bytes : List ℕ) (v x : ℕ) → IsBadSegment bytes v → IsBadSegment bytes x → v ≡ x
one_place bytes v x (no_header none is) (no_header also other) = is ∙ sym other
one_place bytes v x (no_header none is) (bad_frame start epoch cause bad) = absurd (none start epoch bad.header)
one_place bytes v x (bad_frame start epoch cause bad) (no_header none is) = absurd (none start epoch bad.header)
one_place bytes v x (bad_frame s e c bad) (bad_frame t f d other) = (one_segment_fault bytes s t e f v x c d bad other).0

one_start_told : (file : Option (List ℕ)) (start v w x y : ℕ) → (v ≡ start) × StartDiffers file v w → (x ≡ start) × StartDiffers file x y → Same v w x y
one_start_told file start v w x y one two = (one.0 ∙ sym two.0, (one_content (bytes_of file) w one.1.next y two.1.next one.1.content two.1.content).0)

one_last_told : (file : Option (List ℕ)) (last v w x y : ℕ) → (v ≡ last) × LastDiffers file v w → (x ≡ last) × LastDiffers file x y → Same v w x y
one_last_told file last v w x y one two =
    (one.0 ∙ sym two.0, omega (arith, one.1.told_is, two.1.told_is, (one_content (bytes_of file) one.1.start one.1.next two.1.start two.1.next one.1.content two.1.content).1))

one_digest_told : (txid : ℕ) (found : Option Image) (v w x y : ℕ) → DigestDiffers txid found v w → DigestDiffers txid found x y → Same v w x y
one_digest_told txid found v w x y one two =
    let same : two.image ≡ one.image = the_image txid found one.image one.there two.image two.there in
    let stored : one.stored ≡ two.stored = one_stored txid one.image.digest one.stored two.stored one.told (subst (λ (i : Image). IsStored txid i.digest two.stored) same two.told) in
    (one.first ∙ ap front_number stored ∙ sym two.first, one.second ∙ ap (λ (i : Image). front_number (md5 i.bytes)) (sym same) ∙ sym two.second)

one_fault : (txid : ℕ) (found : Option Image) (v w x y : ℕ) → IsBadImage txid found v w → IsBadImage txid found x y → Same v w x y
one_fault txid found v w x y (no_digest image there none none_told) (no_digest other also none' also_none) = both_zero none_told also_none
one_fault txid found v w x y (no_digest image there none none_told) (bad_bytes other digest cause also told reading is) =
    absurd (none digest (subst (λ (i : Image). IsStored txid i.digest digest) (the_image txid found image there other also) told))
one_fault txid found v w x y (bad_bytes other digest cause also told reading is) (no_digest image there none none_told) =
    absurd (none digest (subst (λ (i : Image). IsStored txid i.digest digest) (the_image txid found image there other also) told))
one_fault txid found v w x y (bad_bytes image digest cause there told reading is) (bad_bytes other digest' cause' also told' reading' is') = same_fault
  where
    same_fault : Same v w x y
    same_fault =
        let again : read.BadImage v cause ≡ read.BadImage x cause' = sym reading ∙ ap (λ (i : Image). reading_of i.bytes) (sym (the_image txid found image there other also)) ∙ reading' in
        let place : v ≡ x = cc in
        (place, is ∙ sym is')

abbrev Alike : (ℕ → ℕ → Type 0) → Type 0
Alike P = (v w x y : ℕ) → P v w → P x y → Same v w x y

none_broken : Alike (λ v w. ⊥)
none_broken v w x y one two = absurd one

-- ## One verdict
one_found : (breaks : Rule → ℕ → ℕ → Type 0) → ((r : Rule) → Alike (breaks r)) → (rules : List Rule) (f g : Option Finding) → IsFirstBroken breaks rules f → IsFirstBroken breaks rules g → f ≡ g
one_found breaks alike [] f g one two = one ∙ sym two
one_found breaks alike (r ∷ rules) f g (inl (v, w, broken, is)) (inl (x, y, also, is')) =
    let same = alike r v w x y broken also in is ∙ (λ i. Some record { rule = r; first = same.0 i; second = same.1 i }) ∙ sym is'
one_found breaks alike (r ∷ rules) f g (inl (v, w, broken, is)) (inr (none, rest)) = absurd (none v w broken)
one_found breaks alike (r ∷ rules) f g (inr (none, rest)) (inl (v, w, broken, is)) = absurd (none v w broken)
one_found breaks alike (r ∷ rules) f g (inr (none, rest)) (inr (none', rest')) = one_found breaks alike rules f g rest rest'

module _ (files : Files) (before : ℕ) (name : List ℕ) where
  by_number : Alike (Breaks files before name (role.Number Writer) rule.WriterPromised)
  by_number v w x y one two = (one_number (files (number_name Writer)) v x one.0 two.0, one_number (files (number_name Promised)) w y one.1 two.1)

  by_bytes_told : (bytes : List ℕ) → Alike (λ v w. IsBadSegment bytes v × (w ≡ 0))
  by_bytes_told bytes v w x y one two = (one_place bytes v x one.0 two.0, one.1 ∙ sym two.1)

  by_names : (start last : ℕ) → Alike (Breaks files before name (role.Final start last) rule.Apart)
  by_names start last v w x y one two = (one.0 ∙ sym two.0, one.1 ∙ sym two.1)

  by_zero : {P : Type 0} → Alike (λ v w. P × AreZero v w)
  by_zero v w x y one two = both_zero one.1 two.1

  alike : (of : FileRole) (r : Rule) → Alike (Breaks files before name of r)
  alike role.Unknown rule.KnownName = λ v w x y one two. both_zero one two
  alike (role.Number n) rule.Grammar = by_zero
  alike (role.Number Writer) rule.WriterPromised = by_number
  alike (role.Record start) rule.Grammar = by_zero
  alike (role.InProgress start) rule.SegmentBytes = by_bytes_told (bytes_of (files name))
  alike (role.Final start last) rule.SegmentBytes = by_bytes_told (bytes_of (files name))
  alike (role.InProgress start) rule.Start = one_start_told (files name) start
  alike (role.Final start last) rule.Start = one_start_told (files name) start
  alike (role.Final start last) rule.Last = one_last_told (files name) last
  alike (role.Final start last) rule.Apart = by_names start last
  alike (role.Image txid) rule.Paired = by_zero
  alike (role.Digest txid) rule.Paired = by_zero
  alike (role.Image txid) rule.Digest = one_digest_told txid (image_in files txid)
  alike (role.Image txid) rule.ImageBytes = one_fault txid (image_in files txid)
  alike _ _ = none_broken

  -- a file has one verdict
  pub one_verdict : (r : FileRole) (f g : Option Finding) → IsVerdict files before name r f → IsVerdict files before name r g → f ≡ g
  one_verdict r f g one two = one_found (Breaks files before name r) (alike r) in_order f g one two

-- ## One list of names
abbrev Before : List ℕ → List ℕ → Type 0
Before x y = slice_cmp nat_cmp x y ≡ Less

abbrev AreOrdered : List (List ℕ) → Type 0
AreOrdered names = IsStrictlySortedBy (slice_cmp nat_cmp) names

not_itself : (x : List ℕ) → Before x x → ⊥
not_itself x is = let p : slice_cmp nat_cmp x x ≡ Equal = tied_itself nat_list_cmp_total x in absurd (cc)

above : (x : List ℕ) (xs : List (List ℕ)) (y : List ℕ) → AreOrdered (x ∷ xs) → Contains xs y → Before x y
above x xs y sorted among =
    All-contains (λ z. slice_cmp nat_cmp x z ≡ Less) xs y (All-from_recursion (λ z. slice_cmp nat_cmp x z ≡ Less) xs (sorted_head (slice_cmp nat_cmp) x xs sorted)) among

head : (x : List ℕ) (xs : List (List ℕ)) → Contains (x ∷ xs) x
head x xs = (zero, omega arith, refl)

later : (x : List ℕ) (xs : List (List ℕ)) (y : List ℕ) → Contains xs y → Contains (x ∷ xs) y
later x xs y among = (suc among.0, omega (arith, among.1), among.2)

behind : (x : List ℕ) (xs : List (List ℕ)) (y : List ℕ) → Contains (x ∷ xs) y → (x ≡ y) ⊎ Contains xs y
behind x xs y (zero, lt, is) = inl is
behind x xs y (suc k, lt, is) = inr (k, omega (arith, lt), is)

first_same : (x : List ℕ) (xs : List (List ℕ)) (y : List ℕ) (ys : List (List ℕ)) → AreOrdered (x ∷ xs) → AreOrdered (y ∷ ys) → Contains (y ∷ ys) x → Contains (x ∷ xs) y → x ≡ y
first_same x xs y ys one two has_x has_y = by (behind y ys x has_x) (behind x xs y has_y)
  where
    by : (y ≡ x) ⊎ Contains ys x → (x ≡ y) ⊎ Contains xs y → x ≡ y
    by (inl same) more = sym same
    by (inr after) (inl same) = same
    by (inr after) (inr before) = absurd (not_itself y (nat_list_cmp_total.trans y x y (above y ys x two after) (above x xs y one before)))

same_names : (xs ys : List (List ℕ)) → AreOrdered xs → AreOrdered ys → ((t : List ℕ) → Contains xs t → Contains ys t) → ((t : List ℕ) → Contains ys t → Contains xs t) → xs ≡ ys
same_names [] [] one two to from = refl
same_names [] (y ∷ ys) one two to from = let among = from y (head y ys) in let lt : among.0 < 0 = among.1 in absurd (omega (arith, lt))
same_names (x ∷ xs) [] one two to from = let among = to x (head x xs) in let lt : among.0 < 0 = among.1 in absurd (omega (arith, lt))
same_names (x ∷ xs) (y ∷ ys) one two to from =
    let same = first_same x xs y ys one two (to x (head x xs)) (from y (head y ys)) in
    let rest = same_names xs ys (sorted_tail (slice_cmp nat_cmp) x xs one) (sorted_tail (slice_cmp nat_cmp) y ys two)
    (λ t among. ⊎_elim (λ is. absurd (not_itself t (subst (λ (n : List ℕ). Before n t) (same ∙ is) (above x xs t one among)))) (λ there. there) (behind y ys t (to t (later x xs t among))))
    (λ t among. ⊎_elim (λ is. absurd (not_itself t (subst (λ (n : List ℕ). Before n t) (sym same ∙ is) (above y ys t two among)))) (λ there. there) (behind x xs t (from t (later y ys t among)))) in
    λ i. same i ∷ rest i

one_list : (files : Files) (xs ys : List (List ℕ)) → Lists xs files → Lists ys files → xs ≡ ys
one_list files xs ys one two = same_names xs ys one.sorted two.sorted (λ t among. two.all t (one.there t among)) (λ t among. one.all t (two.there t among))

-- ## One report
abbrev names_of : List Verdict → List (List ℕ)
names_of vs = map (λ (v : Verdict). v.name) vs

same_verdicts : (files : Files) (before : ℕ) (vs ws : List Verdict) (after end : ℕ) → names_of vs ≡ names_of ws → AreVerdicts files before vs after → AreVerdicts files before ws end → vs ≡ ws
same_verdicts files before [] [] after end names one two = refl
same_verdicts files before [] (w ∷ ws) after end names one two = absurd (cc)
same_verdicts files before (v ∷ vs) [] after end names one two = absurd (cc)
same_verdicts files before (v ∷ vs) (w ∷ ws) after end names one two =
    let name : v.name ≡ w.name = cc in
    let others : names_of vs ≡ names_of ws = cc in
    let named : HasRole w.name one.0 = subst (λ (n : List ℕ). HasRole n one.0) name one.1 in
    let r : one.0 ≡ two.0 = one_role w.name one.0 two.0 named two.1 in
    let told : IsVerdict files before w.name two.0 v.found = subst (λ (x : List ℕ × FileRole). IsVerdict files before x.0 x.1 v.found) (λ i. (name i, r i)) one.2 in
    let found : v.found ≡ w.found = one_verdict files before w.name two.0 v.found w.found told two.2 in
    let rest : vs ≡ ws = same_verdicts files (end_after two.0 before) vs ws after end others (subst (λ (x : FileRole). AreVerdicts files (end_after x before) vs after) r one.3) two.3 in
    λ i. record { name = name i; found = found i } ∷ rest i

pub one_report : FoldersHaveOneReport
one_report files text other n m one two =
    let right = one.right tt in
    let also = two.right tt in
    let same : one.verdicts ≡ two.verdicts = same_verdicts files 0 one.verdicts two.verdicts right.end also.end
    (one_list files (names_of one.verdicts) (names_of two.verdicts) right.all also.all) right.each also.each in
    (one.spelled ∙ ap text_of same ∙ sym two.spelled, one.counted ∙ ap count_of same ∙ sym two.counted)
