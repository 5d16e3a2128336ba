use Rattle.std.proofs.Common.{refl, inl}
use Rattle.journal_core.specs.Segments.{find_segment}
use Rattle.disk_segment.proofs.worked.no_files_stand_for_nothing.Goals as goal

pub returns : goal.returns
unfolding find_segment
returns c = record {
  slots = λ start first most. record {
    record_ = inl refl;
    holds = record {
      none_final = record { none = λ last ok. refl };
      counts = record { none = record { none = λ epoch ok has. refl }; there = refl };
    };
  };
}
