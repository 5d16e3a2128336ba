-- A name has one role.
use Rattle.std.proofs.Common.{◌≡◌, ◌⊎◌, ℕ, ◌+◌, ◌/◌, ◌%◌, ◌≤◌, ◌^◌, List, [], ◌∷◌, ◌++◌, length, refl, sym, ap, subst, ◌∙◌, inl, inr, append_assoc, arith}
use Rattle.std.specs.Prelude.{codes}
use Rattle.std.proofs.lemmas.List.{append-nil}
use Rattle.base_words.specs.Padded.{padded}
use Rattle.disk_files.specs.Durable.{number_name}
use Rattle.disk_files.specs.declared.node_number.NodeNumber.{NodeNumber}
use Rattle.disk_files.specs.declared.node_number.NodeNumber.TheVariants.{Promised, Writer, Committed}
use Rattle.disk_segment.specs.Names.{Kind, InProgress, Final, Record, UnderWay, Fresh, FreshRecord, name_of}
use Rattle.disk_opening.specs.Kinds.{IsNamed, IsTold}
use Rattle.disk_opening.proofs.MendLemmas.{one_start, one_kind}
use Rattle.ns_store.specs.Names as image
use Rattle.ns_store.proofs.NameLaws.{parts_apart, same_txid}
use Rattle.list_fsck.specs.declared.file_role.FileRole.{FileRole}
use Rattle.list_fsck.specs.declared.file_role.FileRole.TheVariants as role
use Rattle.ns_store.specs.Lists.{IsNamed as IsImageName}
use Rattle.list_fsck.specs.Roles.{temporary, fresh, under_way, checkpoint, IsKnownAs, HasRole}

-- ## How names end
abbrev last_byte : List ℕ → ℕ
last_byte [] = 0
last_byte (x ∷ []) = x
last_byte (x ∷ y ∷ ys) = last_byte (y ∷ ys)

last_more : (xs : List ℕ) (x : ℕ) → last_byte (xs ++ x ∷ []) ≡ x
last_more [] x = refl
last_more (y ∷ []) x = refl
last_more (y ∷ z ∷ zs) x = last_more (z ∷ zs) x

digit_last : (xs : List ℕ) (n : ℕ) → last_byte (xs ++ padded 19 n) ≤ 57
unfolding padded
digit_last xs n =
    let end : last_byte (xs ++ padded 19 n) ≡ 48 + n % 10 = ap last_byte (sym (append_assoc xs (padded 18 (n / 10)) ((48 + n % 10) ∷ []))) ∙ last_more (xs ++ padded 18 (n / 10)) (48 + n % 10) in
    omega (arith, end)

-- a temporary file's
temporary_last : (front name : List ℕ) → name ≡ front ++ codes ".tmp" → last_byte name ≡ 112
temporary_last front name is = ap last_byte is ∙ ap last_byte (sym (append_assoc front (46 ∷ 116 ∷ 109 ∷ []) (112 ∷ []))) ∙ last_more (front ++ 46 ∷ 116 ∷ 109 ∷ []) 112

-- ## What names are
role_of_kind : ℕ → Kind → FileRole
role_of_kind start InProgress = role.InProgress start
role_of_kind start (Final last) = role.Final start last
role_of_kind start Record = role.Record start
role_of_kind start (UnderWay epoch) = role.Passing
role_of_kind start Fresh = role.Passing
role_of_kind start FreshRecord = role.Passing

role_of_part : ℕ → image.Part → FileRole
role_of_part txid image.Itself = role.Image txid
role_of_part txid image.Digest = role.Digest txid
role_of_part txid image.Checkpoint = role.Passing
role_of_part txid image.FreshDigest = role.Passing

data Is (name : List ℕ) (r : FileRole) : Type 0 where
  number : (n : NodeNumber) → name ≡ number_name n → r ≡ role.Number n → Is name r
  segment : (start : ℕ) (kind : Kind) → IsTold kind → IsNamed name start kind → r ≡ role_of_kind start kind → Is name r
  of_image : (txid : ℕ) (part : image.Part) → txid ≤ 2 ^ 62 → name ≡ image.name_of txid part → r ≡ role_of_part txid part → Is name r
  temporary_file : (front : List ℕ) → name ≡ front ++ codes ".tmp" → r ≡ role.Passing → Is name r

image_is : (name rest : List ℕ) (txid : ℕ) (part : image.Part) (r : FileRole) → image.front_of part ≡ codes "fsimage_" → image.rest_of part ≡ rest
    → IsImageName name rest txid → r ≡ role_of_part txid part → Is name r
unfolding image.name_of
image_is name rest txid part r front is named same = of_image txid part named.small (named.spelled ∙ (λ i. sym front i ++ (padded 19 txid ++ sym is i))) same

is_of : (name : List ℕ) (r : FileRole) → IsKnownAs name r → Is name r
unfolding role_of_kind role_of_part image.name_of
is_of name (role.Number n) is = number n is refl
is_of name (role.Record start) is = segment start Record tt is refl
is_of name (role.InProgress start) is = segment start InProgress tt is refl
is_of name (role.Final start last) is = segment start (Final last) tt is refl
is_of name (role.Image txid) is = image_is name [] txid image.Itself (role.Image txid) refl refl is refl
is_of name (role.Digest txid) is = image_is name (codes ".md5") txid image.Digest (role.Digest txid) refl refl is refl
is_of name role.Passing (temporary front is) = temporary_file front is refl
is_of name role.Passing (fresh start is) = segment start Fresh tt is refl
is_of name role.Passing (under_way start epoch is) = segment start (UnderWay epoch) tt is refl
is_of name role.Passing (checkpoint txid small is) = of_image txid image.Checkpoint small (is ∙ ap (λ (l : List ℕ). codes "fsimage.ckpt_" ++ l) (sym (append-nil (padded 19 txid)))) refl
is_of name role.Unknown is = absurd is

-- ## How names begin
first_byte : List ℕ → ℕ
first_byte [] = 0
first_byte (x ∷ xs) = x

number_first : (n : NodeNumber) → (first_byte (number_name n) ≡ 108) ⊎ (first_byte (number_name n) ≡ 99)
unfolding first_byte
number_first Promised = inl refl
number_first Writer = inl refl
number_first Committed = inr refl

segment_first : (start : ℕ) (kind : Kind) → (first_byte (name_of start kind) ≡ 101) ⊎ (first_byte (name_of start kind) ≡ 112)
unfolding first_byte name_of
segment_first start InProgress = inl refl
segment_first start (Final last) = inl refl
segment_first start Record = inr refl
segment_first start (UnderWay epoch) = inl refl
segment_first start Fresh = inl refl
segment_first start FreshRecord = inr refl

image_first : (txid : ℕ) (part : image.Part) → first_byte (image.name_of txid part) ≡ 102
unfolding first_byte image.name_of
image_first txid image.Itself = refl
image_first txid image.Digest = refl
image_first txid image.Checkpoint = refl
image_first txid image.FreshDigest = refl

-- ## Different names
one_number : (m n : NodeNumber) → number_name m ≡ number_name n → m ≡ n
one_number Promised Promised is = refl
one_number Writer Writer is = refl
one_number Committed Committed is = refl
one_number Promised Writer is = absurd (omega (arith, ap length is))
one_number Promised Committed is = absurd (omega (arith, ap length is))
one_number Writer Promised is = absurd (omega (arith, ap length is))
one_number Writer Committed is = absurd (omega (arith, ap length is))
one_number Committed Promised is = absurd (omega (arith, ap length is))
one_number Committed Writer is = absurd (omega (arith, ap length is))

number_last : (n : NodeNumber) → last_byte (number_name n) ≤ 104
number_last Promised = omega arith
number_last Writer = omega arith
number_last Committed = omega arith

-- a temporary file that is one of a segment's has no other role
segment_last : (start : ℕ) (kind : Kind) → IsTold kind → last_byte (name_of start kind) ≡ 112 → role_of_kind start kind ≡ role.Passing
unfolding role_of_kind name_of
segment_last start InProgress told is = absurd (omega (
  arith,
  is,
  ap last_byte
      (ap (λ (l : List ℕ). codes "edits_inprogress_" ++ l) (append-nil (padded 19 start))),
  digit_last (codes "edits_inprogress_") start,
))
segment_last start (Final last) told is =
    let spelled = sym (append_assoc (codes "edits_") (padded 19 start) (codes "-" ++ padded 19 last)) ∙ sym (append_assoc (codes "edits_" ++ padded 19 start) (codes "-") (padded 19 last)) in
    absurd (omega (arith, is, ap last_byte spelled, digit_last ((codes "edits_" ++ padded 19 start) ++ codes "-") last))
segment_last start Record told is = absurd (omega (arith, is, ap last_byte (ap (λ (l : List ℕ). codes "paxos/" ++ l) (append-nil (padded 19 start))), digit_last (codes "paxos/") start))
segment_last start (UnderWay epoch) told is = refl
segment_last start Fresh told is = refl
segment_last start FreshRecord told is = refl

image_last : (txid : ℕ) (part : image.Part) → last_byte (image.name_of txid part) ≡ 112 → role_of_part txid part ≡ role.Passing
unfolding role_of_part image.name_of
image_last txid image.Itself is = absurd (omega (arith, is, ap last_byte (ap (λ (l : List ℕ). codes "fsimage_" ++ l) (append-nil (padded 19 txid))), digit_last (codes "fsimage_") txid))
image_last txid image.Digest is =
    let spelled = sym (append_assoc (codes "fsimage_") (padded 19 txid) (codes ".md5")) ∙ sym (append_assoc (codes "fsimage_" ++ padded 19 txid) (46 ∷ 109 ∷ 100 ∷ []) (53 ∷ [])) in
    absurd (omega (arith, is, ap last_byte spelled, last_more ((codes "fsimage_" ++ padded 19 txid) ++ 46 ∷ 109 ∷ 100 ∷ []) 53))
image_last txid image.Checkpoint is = refl
image_last txid image.FreshDigest is = refl

-- ## One role
number_and_segment : (n : NodeNumber) (start : ℕ) (kind : Kind) → number_name n ≡ name_of start kind → ⊥
number_and_segment n start kind is = by (number_first n) (segment_first start kind) (ap first_byte is)
  where
    by : {a b : ℕ} → (a ≡ 108) ⊎ (a ≡ 99) → (b ≡ 101) ⊎ (b ≡ 112) → a ≡ b → ⊥
    by (inl p) (inl q) same = omega (arith, p, q, same)
    by (inl p) (inr q) same = omega (arith, p, q, same)
    by (inr p) (inl q) same = omega (arith, p, q, same)
    by (inr p) (inr q) same = omega (arith, p, q, same)

number_and_image : (n : NodeNumber) (txid : ℕ) (part : image.Part) → number_name n ≡ image.name_of txid part → ⊥
number_and_image n txid part is = by (number_first n) (image_first txid part) (ap first_byte is)
  where
    by : {a b : ℕ} → (a ≡ 108) ⊎ (a ≡ 99) → b ≡ 102 → a ≡ b → ⊥
    by (inl p) q same = omega (arith, p, q, same)
    by (inr p) q same = omega (arith, p, q, same)

segment_and_image : (start : ℕ) (kind : Kind) (txid : ℕ) (part : image.Part) → name_of start kind ≡ image.name_of txid part → ⊥
segment_and_image start kind txid part is = by (segment_first start kind) (image_first txid part) (ap first_byte is)
  where
    by : {a b : ℕ} → (a ≡ 101) ⊎ (a ≡ 112) → b ≡ 102 → a ≡ b → ⊥
    by (inl p) q same = omega (arith, p, q, same)
    by (inr p) q same = omega (arith, p, q, same)

one_part : (t u : ℕ) (p q : image.Part) → t ≤ 2 ^ 62 → u ≤ 2 ^ 62 → image.name_of t p ≡ image.name_of u q → role_of_part t p ≡ role_of_part u q
unfolding role_of_part
one_part t u image.Itself image.Itself small_t small_u same = ap role.Image (same_txid t u image.Itself small_t small_u same)
one_part t u image.Digest image.Digest small_t small_u same = ap role.Digest (same_txid t u image.Digest small_t small_u same)
one_part t u image.Itself image.Digest small_t small_u same = absurd (parts_apart t u image.Itself image.Digest (λ e. omega (arith, e)) same)
one_part t u image.Itself image.Checkpoint small_t small_u same = absurd (parts_apart t u image.Itself image.Checkpoint (λ e. omega (arith, e)) same)
one_part t u image.Itself image.FreshDigest small_t small_u same = absurd (parts_apart t u image.Itself image.FreshDigest (λ e. omega (arith, e)) same)
one_part t u image.Digest image.Itself small_t small_u same = absurd (parts_apart t u image.Digest image.Itself (λ e. omega (arith, e)) same)
one_part t u image.Digest image.Checkpoint small_t small_u same = absurd (parts_apart t u image.Digest image.Checkpoint (λ e. omega (arith, e)) same)
one_part t u image.Digest image.FreshDigest small_t small_u same = absurd (parts_apart t u image.Digest image.FreshDigest (λ e. omega (arith, e)) same)
one_part t u image.Checkpoint image.Itself small_t small_u same = absurd (parts_apart t u image.Checkpoint image.Itself (λ e. omega (arith, e)) same)
one_part t u image.Checkpoint image.Digest small_t small_u same = absurd (parts_apart t u image.Checkpoint image.Digest (λ e. omega (arith, e)) same)
one_part t u image.Checkpoint image.Checkpoint small_t small_u same = refl
one_part t u image.Checkpoint image.FreshDigest small_t small_u same = refl
one_part t u image.FreshDigest image.Itself small_t small_u same = absurd (parts_apart t u image.FreshDigest image.Itself (λ e. omega (arith, e)) same)
one_part t u image.FreshDigest image.Digest small_t small_u same = absurd (parts_apart t u image.FreshDigest image.Digest (λ e. omega (arith, e)) same)
one_part t u image.FreshDigest image.Checkpoint small_t small_u same = refl
one_part t u image.FreshDigest image.FreshDigest small_t small_u same = refl

one_is : (name : List ℕ) (r s : FileRole) → Is name r → Is name s → r ≡ s
one_is name r s (number m is is_r) (number n other is_s) = is_r ∙ ap role.Number (one_number m n (sym is ∙ other)) ∙ sym is_s
one_is name r s (number n is is_r) (segment start kind told named is_s) = absurd (number_and_segment n start kind (sym is ∙ named.spelled))
one_is name r s (number n is is_r) (of_image txid part small other is_s) = absurd (number_and_image n txid part (sym is ∙ other))
one_is name r s (number n is is_r) (temporary_file front ends is_s) = absurd (omega (arith, number_last n, sym (ap last_byte is) ∙ temporary_last front name ends))
one_is name r s (segment start kind told named is_r) (number n is is_s) = absurd (number_and_segment n start kind (sym is ∙ named.spelled))
one_is name r s (segment start kind told named is_r) (segment other that also other_named is_s) =
    is_r ∙ (λ i. role_of_kind (one_start name start other kind that named other_named i) (one_kind name start other kind that named other_named i)) ∙ sym is_s
one_is name r s (segment start kind told named is_r) (of_image txid part small is is_s) = absurd (segment_and_image start kind txid part (sym named.spelled ∙ is))
one_is name r s (segment start kind told named is_r) (temporary_file front ends is_s) = is_r
    ∙ segment_last start kind told (sym (ap last_byte named.spelled) ∙ temporary_last front name ends) ∙ sym is_s
one_is name r s (of_image txid part small is is_r) (number n other is_s) = absurd (number_and_image n txid part (sym other ∙ is))
one_is name r s (of_image txid part small is is_r) (segment start kind told named is_s) = absurd (segment_and_image start kind txid part (sym named.spelled ∙ is))
one_is name r s (of_image t p small is is_r) (of_image u q small_u other is_s) = is_r ∙ one_part t u p q small small_u (sym is ∙ other) ∙ sym is_s
one_is name r s (of_image txid part small is is_r) (temporary_file front ends is_s) = is_r ∙ image_last txid part (sym (ap last_byte is) ∙ temporary_last front name ends) ∙ sym is_s
one_is name r s (temporary_file front ends is_r) (number n is is_s) = absurd (omega (arith, number_last n, sym (ap last_byte is) ∙ temporary_last front name ends))
one_is name r s (temporary_file front ends is_r) (segment start kind told named is_s) = is_r
    ∙ sym (segment_last start kind told (sym (ap last_byte named.spelled) ∙ temporary_last front name ends)) ∙ sym is_s
one_is name r s (temporary_file front ends is_r) (of_image txid part small is is_s) = is_r ∙ sym (image_last txid part (sym (ap last_byte is) ∙ temporary_last front name ends)) ∙ sym is_s
one_is name r s (temporary_file front ends is_r) (temporary_file other also is_s) = is_r ∙ sym is_s

-- a role is known or not
known_or_not : (name : List ℕ) (r : FileRole) → HasRole name r → Is name r ⊎ (r ≡ role.Unknown)
known_or_not name (role.Number n) is = inl (is_of name (role.Number n) is)
known_or_not name (role.Record start) is = inl (is_of name (role.Record start) is)
known_or_not name (role.InProgress start) is = inl (is_of name (role.InProgress start) is)
known_or_not name (role.Final start last) is = inl (is_of name (role.Final start last) is)
known_or_not name (role.Image txid) is = inl (is_of name (role.Image txid) is)
known_or_not name (role.Digest txid) is = inl (is_of name (role.Digest txid) is)
known_or_not name role.Passing is = inl (is_of name role.Passing is)
known_or_not name role.Unknown is = inr refl

unknown_alone : (name : List ℕ) (r : FileRole) → HasRole name role.Unknown → HasRole name r → r ≡ role.Unknown
unknown_alone name (role.Number n) none is = absurd (none (role.Number n) is)
unknown_alone name (role.Record start) none is = absurd (none (role.Record start) is)
unknown_alone name (role.InProgress start) none is = absurd (none (role.InProgress start) is)
unknown_alone name (role.Final start last) none is = absurd (none (role.Final start last) is)
unknown_alone name (role.Image txid) none is = absurd (none (role.Image txid) is)
unknown_alone name (role.Digest txid) none is = absurd (none (role.Digest txid) is)
unknown_alone name role.Passing none is = absurd (none role.Passing is)
unknown_alone name role.Unknown none is = refl

-- a name has one role
pub one_role : (name : List ℕ) (r s : FileRole) → HasRole name r → HasRole name s → r ≡ s
one_role name r s has_r has_s = by (known_or_not name r has_r) (known_or_not name s has_s)
  where
    by : Is name r ⊎ (r ≡ role.Unknown) → Is name s ⊎ (s ≡ role.Unknown) → r ≡ s
    by (inl one) (inl two) = one_is name r s one two
    by (inr none) two = none ∙ sym (unknown_alone name s (subst (HasRole name) none has_r) has_s)
    by (inl one) (inr none) = unknown_alone name r (subst (HasRole name) none has_s) has_r ∙ sym none
