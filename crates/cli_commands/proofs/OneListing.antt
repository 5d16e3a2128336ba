-- A file has one listing by a tool, or else one fault.
use Rattle.std.proofs.Common.{◌≡◌, ℕ, List, [], Option, Some, None, refl, sym, ap, subst, ◌∙◌}
use Rattle.std.specs.Prelude.{true, false, IsSome, option_map}
use Rattle.ns_tree.specs.declared.inode.Row.{Row}
use Rattle.ns_tree.specs.Space.{Space, find}
use Rattle.ns_image.specs.Reading.{reading_of}
use Rattle.ns_image.specs.declared.image_cause.ImageCause.{ImageCause as Cause}
use Rattle.ns_image.specs.declared.answer.ReadImage.{ReadImage}
use Rattle.ns_image.specs.declared.answer.ReadImage.TheVariants as readings
use Rattle.list_oev.specs.declared.segment_listing.SegmentCause.{SegmentCause}
use Rattle.list_oev.specs.Damage.{IsDamaged}
use Rattle.list_oev.specs.Listed.{IsTold}
use Rattle.list_oev.proofs.OneAnswer.{one_segment as one_listed, one_damage}
use Rattle.list_oiv.specs.declared.image_listing.ImageByteCause.{ImageByteCause}
use Rattle.list_oiv.specs.Listed.{cause_of}
use Rattle.list_oiv.specs.Directory.{text_at, path_listing}
use Rattle.list_back.specs.Backs.{HasNoArray, HasLongArray, HasBadMember, IsOfObjects}
use Rattle.list_back.proofs.OneText.{one_segment, segment_objects, one_bad_member, none_long, none_bad_member, long_no_bad, objects_array, objects_few, objects_good}
use Rattle.cli_commands.specs.declared.command_fault.CommandFault.{CommandFault}
use Rattle.cli_commands.specs.declared.command_fault.CommandFault.TheVariants as fault
use Rattle.cli_commands.specs.declared.tool.SegmentTool.{SegmentTool}
use Rattle.cli_commands.specs.declared.tool.ImageTool.{ImageTool}
use Rattle.cli_commands.specs.Tools.{Tool}
use Rattle.cli_commands.specs.Tools as tool
use Rattle.cli_commands.specs.Listing.{told_by, rows_told_by, IsImageTold, IsPathTold, LacksPath, IsToldBy, IsInGrammar, IsBytesFault}
use Rattle.cli_commands.specs.Listing.{HasDamage, IsFileFault, FilesHaveOneListing, FilesHaveOneFault, ListedFilesHaveNoFault}

one_image : (tell : List Row → List ℕ) (bytes a b : List ℕ) → IsImageTold tell bytes a → IsImageTold tell bytes b → a ≡ b
one_image tell bytes a b p q =
    let same : readings.Image p.space p.txid ≡ readings.Image q.space q.txid = sym p.read ∙ q.read in
    p.spelled ∙ (ap tell (ap pairs_in same) ∙ sym q.spelled)
  where
    pairs_in : ReadImage → List Row
    pairs_in (readings.Image space txid) = space.pairs
    pairs_in (readings.BadImage place why) = []

one_path : (path bytes a b : List ℕ) → IsPathTold path bytes a → IsPathTold path bytes b → a ≡ b
one_path path bytes a b p q =
    let spaces : p.space ≡ q.space = cc (p.read, q.read) in
    let texts : Some a ≡ Some b = sym p.spelled ∙ (ap (λ (s : Space). path_listing path s.pairs) spaces ∙ q.spelled) in
    cc texts

told_once : (of : Tool) (bytes a b : List ℕ) → IsToldBy of bytes a → IsToldBy of bytes b → a ≡ b
told_once (tool.Oev of) bytes a b p q =
    let same = one_listed bytes p.start q.start p.edits q.edits p.segment q.segment in
    p.spelled ∙ (ap (λ n. told_by of n p.edits) same.same_start ∙ (ap (told_by of q.start) same.same_edits ∙ sym q.spelled))
told_once (tool.Oiv of) bytes a b p q = one_image (rows_told_by of) bytes a b p q
told_once (tool.Ls path) bytes a b p q = one_path path bytes a b p q
told_once (tool.Back start epoch) bytes a b p q = one_segment start epoch bytes a b p q

pub one_listing_of_file : FilesHaveOneListing
one_listing_of_file of None a b p q = absurd p
one_listing_of_file of (Some bytes) a b p q = told_once of bytes a b p.1 q.1

-- ## Faults
-- a damage of a segment's file
data IsSegmentDamage (bytes : List ℕ) (why : CommandFault) : Type 0 where
  damaged : (place : ℕ) (cause : SegmentCause) → why ≡ fault.BadBytes place cause → IsDamaged bytes place cause → IsSegmentDamage bytes why

segment_damage : (of : SegmentTool) (bytes : List ℕ) (why : CommandFault) → IsBytesFault (tool.Oev of) bytes why → IsSegmentDamage bytes why
segment_damage of bytes (fault.Usage place) is = absurd is
segment_damage of bytes (fault.BadScript line rule) is = absurd is
segment_damage of bytes (fault.BadReport line rule) is = absurd is
segment_damage of bytes fault.NoFile is = absurd is
segment_damage of bytes (fault.BadBytes place cause) is = damaged place cause refl is.1
segment_damage of bytes (fault.BadImage place cause) is = absurd is
segment_damage of bytes (fault.BadFile name) is = absurd is
segment_damage of bytes fault.NoPath is = absurd is
segment_damage of bytes fault.NotJson is = absurd is
segment_damage of bytes (fault.BadEntry index) is = absurd is
segment_damage of bytes (fault.TooManyEntries number) is = absurd is
segment_damage of bytes (fault.Limit number) is = absurd is
segment_damage of bytes fault.ReadFault is = absurd is
segment_damage of bytes fault.DiskFault is = absurd is
segment_damage of bytes fault.OutOfMemory is = absurd is

one_segment_damage : (bytes : List ℕ) (a b : CommandFault) → IsSegmentDamage bytes a → IsSegmentDamage bytes b → a ≡ b
one_segment_damage bytes a b (damaged place cause e p) (damaged other also d q) =
    let same = one_damage bytes place other cause also p q in
    e ∙ (ap (λ n. fault.BadBytes n cause) same.same_place ∙ (ap (λ c. fault.BadBytes other c) same.same_cause ∙ sym d))

-- a fault of an image
data IsImageDamage (bytes : List ℕ) (why : CommandFault) : Type 0 where
  misread : (place : ℕ) (cause : ImageByteCause) (of : Cause) → why ≡ fault.BadImage place cause → reading_of bytes ≡ readings.BadImage place of → cause_of of ≡ Some cause → IsImageDamage bytes why

image_damage : (of : ImageTool) (bytes : List ℕ) (why : CommandFault) → IsBytesFault (tool.Oiv of) bytes why → IsImageDamage bytes why
image_damage of bytes (fault.Usage place) is = absurd is
image_damage of bytes (fault.BadScript line rule) is = absurd is
image_damage of bytes (fault.BadReport line rule) is = absurd is
image_damage of bytes fault.NoFile is = absurd is
image_damage of bytes (fault.BadBytes place cause) is = absurd is
image_damage of bytes (fault.BadImage place cause) is = misread place cause is.0 refl is.1 is.2
image_damage of bytes (fault.BadFile name) is = absurd is
image_damage of bytes fault.NoPath is = absurd is
image_damage of bytes fault.NotJson is = absurd is
image_damage of bytes (fault.BadEntry index) is = absurd is
image_damage of bytes (fault.TooManyEntries number) is = absurd is
image_damage of bytes (fault.Limit number) is = absurd is
image_damage of bytes fault.ReadFault is = absurd is
image_damage of bytes fault.DiskFault is = absurd is
image_damage of bytes fault.OutOfMemory is = absurd is

one_image_damage : (bytes : List ℕ) (a b : CommandFault) → IsImageDamage bytes a → IsImageDamage bytes b → a ≡ b
one_image_damage bytes a b (misread place cause of e p c) (misread other also by d q k) =
    let places : place ≡ other = cc (p, q) in
    let reasons : of ≡ by = cc (p, q) in
    let causes : cause ≡ also = cc (reasons, c, k) in
    e ∙ (ap (λ (n : ℕ). fault.BadImage n cause) places ∙ (ap (λ (x : ImageByteCause). fault.BadImage other x) causes ∙ sym d))

-- a fault of a path of an image
data IsPathFault (path bytes : List ℕ) (why : CommandFault) : Type 0 where
  no_image : IsImageDamage bytes why → IsPathFault path bytes why
  no_path : why ≡ fault.NoPath → LacksPath path bytes → IsPathFault path bytes why

path_fault : (path bytes : List ℕ) (why : CommandFault) → IsBytesFault (tool.Ls path) bytes why → IsPathFault path bytes why
path_fault path bytes (fault.Usage place) is = absurd is
path_fault path bytes (fault.BadScript line rule) is = absurd is
path_fault path bytes (fault.BadReport line rule) is = absurd is
path_fault path bytes fault.NoFile is = absurd is
path_fault path bytes (fault.BadBytes place cause) is = absurd is
path_fault path bytes (fault.BadImage place cause) is = no_image (misread place cause is.0 refl is.1 is.2)
path_fault path bytes (fault.BadFile name) is = absurd is
path_fault path bytes fault.NoPath is = no_path refl is
path_fault path bytes fault.NotJson is = absurd is
path_fault path bytes (fault.BadEntry index) is = absurd is
path_fault path bytes (fault.TooManyEntries number) is = absurd is
path_fault path bytes (fault.Limit number) is = absurd is
path_fault path bytes fault.ReadFault is = absurd is
path_fault path bytes fault.DiskFault is = absurd is
path_fault path bytes fault.OutOfMemory is = absurd is

-- the bytes of an image have no damage
undamaged_image : (bytes : List ℕ) (why : CommandFault) (space : Space) (txid : ℕ) → reading_of bytes ≡ readings.Image space txid → IsImageDamage bytes why → ⊥
undamaged_image bytes why space txid e (misread place cause of d q k) = let other : readings.Image space txid ≡ readings.BadImage place of = sym e ∙ q in cc other

-- and one that has the path no fault
has_path : (path bytes : List ℕ) (why : CommandFault) (space : Space) (txid : ℕ) → reading_of bytes ≡ readings.Image space txid → (find path space.pairs ≡ None → ⊥) → IsPathFault path bytes why → ⊥
has_path path bytes why space txid e has (no_image d) = undamaged_image bytes why space txid e d
has_path path bytes why space txid e has (no_path d q) = has (ap (λ (s : Space). find path s.pairs) (let same : space ≡ q.space = cc (e, q.read) in same) ∙ q.absent)

one_path_fault : (path bytes : List ℕ) (a b : CommandFault) → IsPathFault path bytes a → IsPathFault path bytes b → a ≡ b
one_path_fault path bytes a b (no_image p) (no_image q) = one_image_damage bytes a b p q
one_path_fault path bytes a b (no_image p) (no_path d q) = absurd (undamaged_image bytes a q.space q.txid q.read p)
one_path_fault path bytes a b (no_path e p) (no_image q) = absurd (undamaged_image bytes b p.space p.txid p.read q)
one_path_fault path bytes a b (no_path e p) (no_path d q) = e ∙ sym d

-- a fault of a listing as JSON
data IsListingFault (start : ℕ) (bytes : List ℕ) (why : CommandFault) : Type 0 where
  no_array : why ≡ fault.NotJson → HasNoArray bytes → IsListingFault start bytes why
  long_array : (number : ℕ) → why ≡ fault.TooManyEntries number → HasLongArray bytes number → IsListingFault start bytes why
  bad_member : (index : ℕ) → why ≡ fault.BadEntry index → HasBadMember start bytes index → IsListingFault start bytes why

listing_fault : (start epoch : ℕ) (bytes : List ℕ) (why : CommandFault) → IsBytesFault (tool.Back start epoch) bytes why → IsListingFault start bytes why
listing_fault start epoch bytes (fault.Usage place) is = absurd is
listing_fault start epoch bytes (fault.BadScript line rule) is = absurd is
listing_fault start epoch bytes (fault.BadReport line rule) is = absurd is
listing_fault start epoch bytes fault.NoFile is = absurd is
listing_fault start epoch bytes (fault.BadBytes place cause) is = absurd is
listing_fault start epoch bytes (fault.BadImage place cause) is = absurd is
listing_fault start epoch bytes (fault.BadFile name) is = absurd is
listing_fault start epoch bytes fault.NoPath is = absurd is
listing_fault start epoch bytes fault.NotJson is = no_array refl is
listing_fault start epoch bytes (fault.BadEntry index) is = bad_member index refl is
listing_fault start epoch bytes (fault.TooManyEntries number) is = long_array number refl is
listing_fault start epoch bytes (fault.Limit number) is = absurd is
listing_fault start epoch bytes fault.ReadFault is = absurd is
listing_fault start epoch bytes fault.DiskFault is = absurd is
listing_fault start epoch bytes fault.OutOfMemory is = absurd is

one_listing_fault : (start : ℕ) (bytes : List ℕ) (a b : CommandFault) → IsListingFault start bytes a → IsListingFault start bytes b → a ≡ b
one_listing_fault start bytes a b (no_array e p) (no_array d q) = e ∙ sym d
one_listing_fault start bytes a b (no_array e p) (long_array n d q) = absurd (none_long bytes n p q)
one_listing_fault start bytes a b (no_array e p) (bad_member j d q) = absurd (none_bad_member start bytes j p q)
one_listing_fault start bytes a b (long_array n e p) (no_array d q) = absurd (none_long bytes n q p)
one_listing_fault start bytes a b (long_array n e p) (long_array m d q) = e ∙ (ap (λ (k : ℕ). fault.TooManyEntries k) (p.2 ∙ sym q.2) ∙ sym d)
one_listing_fault start bytes a b (long_array n e p) (bad_member j d q) = absurd (long_no_bad start bytes n j p q)
one_listing_fault start bytes a b (bad_member i e p) (no_array d q) = absurd (none_bad_member start bytes i q p)
one_listing_fault start bytes a b (bad_member i e p) (long_array m d q) = absurd (long_no_bad start bytes m i q p)
one_listing_fault start bytes a b (bad_member i e p) (bad_member j d q) = e ∙ (ap (λ (k : ℕ). fault.BadEntry k) (one_bad_member start bytes i j p q) ∙ sym d)

damaged_once : (of : Tool) (bytes : List ℕ) (a b : CommandFault) → IsBytesFault of bytes a → IsBytesFault of bytes b → a ≡ b
damaged_once (tool.Oev of) bytes a b p q = one_segment_damage bytes a b (segment_damage of bytes a p) (segment_damage of bytes b q)
damaged_once (tool.Oiv of) bytes a b p q = one_image_damage bytes a b (image_damage of bytes a p) (image_damage of bytes b q)
damaged_once (tool.Ls path) bytes a b p q = one_path_fault path bytes a b (path_fault path bytes a p) (path_fault path bytes b q)
damaged_once (tool.Back start epoch) bytes a b p q = one_listing_fault start bytes a b (listing_fault start epoch bytes a p) (listing_fault start epoch bytes b q)

-- a file's fault is that it is absent, or a damage of its bytes
data IsOne (of : Tool) (file : Option (List ℕ)) (why : CommandFault) : Type 0 where
  absent : file ≡ None → why ≡ fault.NoFile → IsOne of file why
  broken : (bytes : List ℕ) → file ≡ Some bytes → IsBytesFault of bytes why → IsOne of file why

has_damage : (of : Tool) (file : Option (List ℕ)) (why : CommandFault) → HasDamage of file why → IsOne of file why
has_damage of None why is = absurd is
has_damage of (Some bytes) why is = broken bytes refl is.1

one_of : (of : Tool) (file : Option (List ℕ)) (why : CommandFault) → IsFileFault of file why → IsOne of file why
one_of of file (fault.Usage place) is = absurd is
one_of of file (fault.BadScript line rule) is = absurd is
one_of of file (fault.BadReport line rule) is = absurd is
one_of of file fault.NoFile is = absent is refl
one_of of file (fault.BadBytes place cause) is = has_damage of file (fault.BadBytes place cause) is
one_of of file (fault.BadImage place cause) is = has_damage of file (fault.BadImage place cause) is
one_of of file (fault.BadFile name) is = absurd is
one_of of file fault.NoPath is = has_damage of file fault.NoPath is
one_of of file fault.NotJson is = has_damage of file fault.NotJson is
one_of of file (fault.BadEntry index) is = has_damage of file (fault.BadEntry index) is
one_of of file (fault.TooManyEntries number) is = has_damage of file (fault.TooManyEntries number) is
one_of of file (fault.Limit number) is = absurd is
one_of of file fault.ReadFault is = absurd is
one_of of file fault.DiskFault is = absurd is
one_of of file fault.OutOfMemory is = absurd is

same_fault : (of : Tool) (file : Option (List ℕ)) (a b : CommandFault) → IsOne of file a → IsOne of file b → a ≡ b
same_fault of file a b (absent f e) (absent g d) = e ∙ sym d
same_fault of file a b (absent f e) (broken bytes g q) = absurd (cc (f, g))
same_fault of file a b (broken bytes f p) (absent g d) = absurd (cc (f, g))
same_fault of file a b (broken bytes f p) (broken others g q) =
    let same : bytes ≡ others = cc (f, g) in
    damaged_once of others a b (subst (λ (x : List ℕ). IsBytesFault of x a) same p) q

pub one_fault_of_file : FilesHaveOneFault
one_fault_of_file of file a b p q = same_fault of file a b (one_of of file a p) (one_of of file b q)

-- ## Not both
-- bytes that are listed have no damage
segment_undamaged : (of : SegmentTool) (bytes text : List ℕ) (why : CommandFault) → IsTold (told_by of) bytes text → IsBytesFault (tool.Oev of) bytes why → ⊥
segment_undamaged of bytes text (fault.Usage place) p q = q
segment_undamaged of bytes text (fault.BadScript line rule) p q = q
segment_undamaged of bytes text (fault.BadReport line rule) p q = q
segment_undamaged of bytes text fault.NoFile p q = q
segment_undamaged of bytes text (fault.BadBytes place cause) p q = q.0 (p.start, p.edits, p.segment)
segment_undamaged of bytes text (fault.BadImage place cause) p q = q
segment_undamaged of bytes text (fault.BadFile name) p q = q
segment_undamaged of bytes text fault.NoPath p q = q
segment_undamaged of bytes text fault.NotJson p q = q
segment_undamaged of bytes text (fault.BadEntry index) p q = q
segment_undamaged of bytes text (fault.TooManyEntries number) p q = q
segment_undamaged of bytes text (fault.Limit number) p q = q
segment_undamaged of bytes text fault.ReadFault p q = q
segment_undamaged of bytes text fault.DiskFault p q = q
segment_undamaged of bytes text fault.OutOfMemory p q = q

image_misread : (of : ImageTool) (bytes text : List ℕ) (why : CommandFault) → IsImageTold (rows_told_by of) bytes text → IsImageDamage bytes why → ⊥
image_misread of bytes text why p d = undamaged_image bytes why p.space p.txid p.read d

path_faultless : (path bytes text : List ℕ) (why : CommandFault) → IsPathTold path bytes text → IsPathFault path bytes why → ⊥
path_faultless path bytes text why p q =
    has_path path bytes why p.space p.txid p.read (λ n. let none : Some text ≡ None = sym p.spelled ∙ ap (option_map (text_at path p.space.pairs)) n in cc none) q

objects_faultless : (start : ℕ) (bytes : List ℕ) (why : CommandFault) → IsOfObjects start bytes → IsListingFault start bytes why → ⊥
objects_faultless start bytes why is (no_array e q) = objects_array start bytes is q
objects_faultless start bytes why is (long_array n e q) = objects_few start bytes n is q
objects_faultless start bytes why is (bad_member i e q) = objects_good start bytes i is q

undamaged : (of : Tool) (bytes text : List ℕ) (why : CommandFault) → IsToldBy of bytes text → IsBytesFault of bytes why → ⊥
undamaged (tool.Oev of) bytes text why p q = segment_undamaged of bytes text why p q
undamaged (tool.Oiv of) bytes text why p q = image_misread of bytes text why p (image_damage of bytes why q)
undamaged (tool.Ls path) bytes text why p q = path_faultless path bytes text why p (path_fault path bytes why q)
undamaged (tool.Back start epoch) bytes text why p q = objects_faultless start bytes why (segment_objects start epoch bytes text p) (listing_fault start epoch bytes why q)

listed_alone : (of : Tool) (bytes text : List ℕ) (why : CommandFault) → IsToldBy of bytes text → IsOne of (Some bytes) why → ⊥
listed_alone of bytes text why p (absent f e) = cc f
listed_alone of bytes text why p (broken others f q) = undamaged of bytes text why p (subst (λ (x : List ℕ). IsBytesFault of x why) (let same : others ≡ bytes = cc f in same) q)

pub not_both : ListedFilesHaveNoFault
not_both of None text why p q = absurd p
not_both of (Some bytes) text why p q = listed_alone of bytes text why p.1 (one_of of (Some bytes) why q)

-- bytes in the grammar have no damage
pub in_grammar : (of : Tool) (bytes : List ℕ) (why : CommandFault) → IsInGrammar of bytes → IsBytesFault of bytes why → ⊥
in_grammar (tool.Oev of) bytes why is q =
    segment_undamaged of bytes (told_by of is.0 is.1) why (record { start = is.0; edits = is.1; segment = is.2; spelled = refl }) q
in_grammar (tool.Oiv of) bytes why is q =
    image_misread of bytes (rows_told_by of is.0.pairs) why (record { space = is.0; txid = is.1; read = is.2; spelled = refl }) (image_damage of bytes why q)
in_grammar (tool.Ls path) bytes why is q = has_path path bytes why is.0 is.1 is.2 (λ n. let some : false ≡ true = subst IsSome n is.3 in cc some) (path_fault path bytes why q)
in_grammar (tool.Back start epoch) bytes why is q = objects_faultless start bytes why is (listing_fault start epoch bytes why q)
