-- The folder of a known session.
use Rattle.std.proofs.Common.{[], ◌∷◌, refl, lit≤, arith}
use Rattle.std.specs.Prelude.{Some}
use Rattle.base_words.specs.Padded.{padded}
use Rattle.base_files.specs.Records.{IsNumber}
use Rattle.journal_core.specs.Views.{BatchView}
use Rattle.disk_frame.specs.Frames.{frame_bytes, broken_rule}
use Rattle.disk_segment.specs.Names.{name_of, Final}
use Rattle.disk_opening.specs.Kinds.{IsNamed}
use Rattle.list_fsck.specs.Segments.{TellsSegment}
use Rattle.list_fsck.specs.Examples.{two, segment_file, clean_name, other_name}

edit : BatchView
edit = record { first = 2; bodies = (24 ∷ []) ∷ [] }

-- what the segment's file tells
pub content : TellsSegment segment_file 2 3
unfolding frame_bytes broken_rule edit
content = record {
  epoch = 2;
  bodies = (24 ∷ []) ∷ [];
  whole_length = 44;
  file = record {
    header = record { spelled = refl; some_start = lit≤ tt; start_within = lit≤ tt; some_epoch = lit≤ tt; epoch_within = lit≤ tt };
    frames_length = 20;
    frames = record {
      frames = record { batches = edit ∷ []; in_order = (refl, tt); bodies_are = refl; spelled = refl; there = lit≤ tt };
      tail = λ e. omega (arith, e);
    };
    whole = refl;
  };
  next_is = refl;
}

pub named_clean : IsNamed clean_name 2 (Final 2)
unfolding padded name_of
named_clean = record { first = lit≤ tt; small = lit≤ tt; valid = (lit≤ tt, lit≤ tt); spelled = refl }

pub named_other : IsNamed other_name 2 (Final 3)
unfolding padded name_of
named_other = record { first = lit≤ tt; small = lit≤ tt; valid = (lit≤ tt, lit≤ tt); spelled = refl }

pub two_held : IsNumber (Some two) 2
unfolding padded
two_held = (lit≤ tt, refl)
