-- What the bytes of a segment file give to a read.
use Rattle.std.proofs.Common.{◌≡◌, ◌≢◌, ℕ, ◌+◌, ◌-◌, ◌≤◌, min, Bool, true, List, [], length, drop, refl, sym, ap, subst, ◌∙◌, arith}
use Rattle.std.specs.Prelude.{Option, Some, None}
use Rattle.std.proofs.lemmas.List.{length-take, length-drop}
use Rattle.std.proofs.lemmas.Option.{same_Some}
use Rattle.journal_core.specs.Views.{BatchView}
use Rattle.disk_frame.specs.Segments.{IsSegmentFile}
use Rattle.disk_frame.proofs.SegmentLaws.{one_segment}
use Rattle.disk_segment.specs.Names.{name_of, kind_of}
use Rattle.disk_segment.specs.declared.file_scan.FileScan.{FileScan}
use Rattle.disk_segment.specs.declared.given.Given.{Given}
use Rattle.disk_segment.specs.declared.given.Given.TheVariants as given
use Rattle.disk_segment.specs.Scans.{IsFileScan, ScansFile}
use Rattle.disk_segment.specs.Reads.{Serves, IsFound, IsGiven, IsBad}
use Rattle.base_words.proofs.Lists.{some_length}

module _ (start end : ℕ) (is_final : Bool) (from : ℕ) (bytes : List ℕ) (f : FileScan) (is : IsFileScan start bytes (from - start) 256 f) where
  one : (bodies : List (List ℕ)) → Serves start end is_final from (Some bytes) bodies → bodies ≡ is.bodies
  one bodies serves = (one_segment bytes start start serves.epoch f.epoch bodies is.bodies serves.whole_length (24 + f.scan.whole_length)
      (subst (λ (l : List ℕ). IsSegmentFile l start serves.epoch bodies serves.whole_length) (same_Some serves.bytes bytes (sym serves.there)) serves.edits) is.file).2

  -- how many bodies the piece has
  piece_length : length f.scan.bodies ≡ min 256 (length is.bodies - (from - start))
  piece_length = ap length is.piece ∙ (length-take 256 (drop (from - start) is.bodies) ∙ ap (min 256) (length-drop (from - start) is.bodies))

  pub found : (is_final ≡ true → end + 1 ≡ start + f.scan.count) → start ≤ from → f.scan.bodies ≢ [] → (b : BatchView)
      → b ≡ record { first = from; bodies = f.scan.bodies } → IsFound start end is_final from bytes (Some b)
  found ends le some b made = (
    is.bodies,
    record {
      bytes = bytes;
      there = refl;
      epoch = f.epoch;
      whole_length = 24 + f.scan.whole_length;
      edits = is.file;
      ends = λ final. ends final ∙ ap (λ (n : ℕ). start + n) is.count;
      more = omega (arith, some_length f.scan.bodies some, piece_length, le);
    },
    made ∙ ap (λ (l : List (List ℕ)). record { first = from; bodies = l }) is.piece,
  )

  pub ends_elsewhere : is_final ≡ true → end + 1 ≢ start + f.scan.count → IsFound start end is_final from bytes None
  ends_elsewhere final ne = λ bodies serves. ne (serves.ends final ∙ (ap (λ (l : List (List ℕ)). start + length l) (one bodies serves) ∙ ap (λ (n : ℕ). start + n) (sym is.count)))

  pub ends_before : start ≤ from → length f.scan.bodies ≡ 0 → IsFound start end is_final from bytes None
  ends_before le none = λ bodies serves. omega (arith, serves.more, ap length (one bodies serves), piece_length, none, le)

-- what is found in the bytes of the file is given
pub found_given : (start end : ℕ) (is_final : Bool) (from : ℕ) (bytes : List ℕ) (file : Option (List ℕ)) (b : BatchView) → file ≡ Some bytes
    → IsFound start end is_final from bytes (Some b) → IsGiven start end is_final from file (given.Edits b)
found_given start end is_final from bytes file b there found = (found.0, subst (λ (o : Option (List ℕ)). Serves start end is_final from o found.0) (sym there) found.1, found.2)

pub none_served : (start end : ℕ) (is_final : Bool) (from : ℕ) (bytes : List ℕ) (file : Option (List ℕ)) → file ≡ Some bytes
    → IsFound start end is_final from bytes None → (bodies : List (List ℕ)) → Serves start end is_final from file bodies → ⊥
none_served start end is_final from bytes file there none bodies serves = none bodies (subst (λ (o : Option (List ℕ)). Serves start end is_final from o bodies) there serves)

-- a file that isn't that of the segment serves nothing
pub no_file : (start end : ℕ) (is_final : Bool) (from skip most : ℕ) (file : Option (List ℕ)) → ScansFile start file skip most None
    → (bodies : List (List ℕ)) → Serves start end is_final from file bodies → ⊥
no_file start end is_final from skip most file none bodies serves = none serves.bytes serves.there serves.epoch serves.whole_length bodies serves.edits

-- a bad file is told by its name
pub bad_given : (start end : ℕ) (is_final : Bool) (from : ℕ) (file : Option (List ℕ)) (name : List ℕ) → name ≡ name_of start (kind_of end is_final)
    → ((bodies : List (List ℕ)) → Serves start end is_final from file bodies → ⊥)
    → (result : Given) → IsBad name result → IsGiven start end is_final from file result
bad_given start end is_final from file name named none (given.Edits b) bad = absurd bad
bad_given start end is_final from file name named none (given.BadFile told) bad = (bad ∙ named, none)
bad_given start end is_final from file name named none given.DiskFault bad = absurd bad
bad_given start end is_final from file name named none given.OutOfMemory bad = tt
