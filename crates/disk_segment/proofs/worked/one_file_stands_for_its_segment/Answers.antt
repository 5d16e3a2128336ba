use Rattle.std.proofs.Common.{◌≡◌, ◌≢◌, ap, refl, inl, arith, true, false, Bool, List, ℕ, [], ◌∷◌, ◌++◌}
use Rattle.std.specs.Prelude.{Some, None, if◌then◌else◌}
use Rattle.std.specs.Str.{bytes_eq}
use Rattle.std.proofs.lemmas.Slice.Eq.{bytes_eq-Decides}
use Rattle.base_disk.specs.Files.{Files}
use Rattle.journal_core.specs.Views.{BatchView}
use Rattle.journal_core.specs.declared.segment.Segment.{Segment}
use Rattle.journal_core.specs.Segments.{find_segment, put_segment}
use Rattle.disk_frame.specs.Frames.{frame_bytes, broken_rule}
use Rattle.disk_frame.specs.Segments.{IsSegmentFile}
use Rattle.disk_segment.specs.Names.{name_of, InProgress, Fresh}
use Rattle.disk_segment.specs.Places.{Places}
use Rattle.disk_segment.proofs.Frame.{fresh_apart}
use Rattle.disk_segment.proofs.FileBytes.{one_frame}
use Rattle.disk_segment.proofs.Single.{Before, placed_stands}
use Rattle.disk_segment.proofs.worked.one_file_stands_for_its_segment.Goals as goal

abbrev no_files : Files
no_files name = None

abbrev one_file : List ℕ → List ℕ → Files
one_file name bytes other = if bytes_eq other name then Some bytes else None

abbrev edit : BatchView
edit = record { first = 1; bodies = (24 ∷ []) ∷ [] }

abbrev segment : Segment
segment = record { start = 1; epoch = 2; bodies = (24 ∷ []) ∷ []; is_final = false; accepted = false }

abbrev file_bytes : List ℕ
file_bytes = 81 ∷ 74 ∷ 83 ∷ 71 ∷ 0 ∷ 0 ∷ 0 ∷ 1 ∷ 0 ∷ 0 ∷ 0 ∷ 0 ∷ 0 ∷ 0 ∷ 0 ∷ 1 ∷ 0 ∷ 0 ∷ 0 ∷ 0 ∷ 0 ∷ 0 ∷ 0 ∷ 2 ∷ 165 ∷ 0 ∷ 0 ∷ 0 ∷ 15 ∷ 0 ∷ 0 ∷ 0 ∷ 0
    ∷ 0 ∷ 0 ∷ 0 ∷ 1 ∷ 0 ∷ 0 ∷ 0 ∷ 1 ∷ 0 ∷ 1 ∷ 24 ∷ 0 ∷ []

here : (name bytes : List ℕ) → one_file name bytes name ≡ Some bytes
here name bytes = ap (λ (b : Bool). if b then Some bytes else None) ((bytes_eq-Decides name name).1 refl)

elsewhere : (name bytes other : List ℕ) → other ≢ name → one_file name bytes other ≡ None
elsewhere name bytes other ne = by (bytes_eq other name) refl
  where
    by : (b : Bool) → bytes_eq other name ≡ b → one_file name bytes other ≡ None
    by true is = absurd (ne ((bytes_eq-Decides other name).0 is))
    by false is = ap (λ (b : Bool). if b then Some bytes else None) is

before : Before 1 no_files []
unfolding find_segment
before = record {
  first = omega arith;
  small = omega arith;
  tidy = record { none_under_way = λ start epoch first small ok. refl; not_both = λ start last first small ok there. refl };
  stands = record {
    slots = λ start first most. record {
      record_ = inl refl;
      holds = record { none_final = record { none = λ last ok. refl }; counts = record { none = record { none = λ epoch ok has. refl }; there = refl } };
    };
  };
}

places : Places (name_of 1 InProgress) (name_of 1 Fresh) file_bytes no_files (one_file (name_of 1 InProgress) file_bytes)
places = record {
  behind = [];
  here = here (name_of 1 InProgress) file_bytes;
  gone = elsewhere (name_of 1 InProgress) file_bytes (name_of 1 Fresh) (fresh_apart 1);
  others = λ other ne ne_tmp. elsewhere (name_of 1 InProgress) file_bytes other ne;
}

edits : (behind : List ℕ) → IsSegmentFile (file_bytes ++ behind) 1 2 ((24 ∷ []) ∷ []) 44
unfolding frame_bytes broken_rule
edits behind = one_frame 2 edit behind record { some_start = omega arith; start_within = omega arith; some_epoch = omega arith; epoch_within = omega arith } refl

pub returns : goal.returns
unfolding find_segment put_segment
returns c = placed_stands 1 no_files [] before (one_file (name_of 1 InProgress) file_bytes) file_bytes places segment 44 refl refl tt edits (λ has. let p = has.there in absurd (cc))
