-- What a disk has that holds a node's state.
use Rattle.std.proofs.Common.{inl, inr, ◌≡◌, ℕ, List, [], sym, ◌∙◌, refl, subst, arith, ◌+◌, ◌^◌, ◌≤◌, true, false, length}
use Rattle.std.specs.Prelude.{Option, Some, None, IsSome}
use Rattle.base_disk.specs.Files.{Files}
use Rattle.base_disk.specs.View.{View, IsSound}
use Rattle.base_files.specs.Records.{IsNumber}
use Rattle.journal_core.specs.declared.segment.Segment.{Segment}
use Rattle.journal_core.specs.declared.node_state.NodeState.{NodeState}
use Rattle.journal_core.specs.Segments.{find_segment}
use Rattle.journal_core.specs.Step.{fresh_state}
use Rattle.journal_core.proofs.SegmentLists.{find-start}
use Rattle.disk_segment.specs.Seal.{IsBlank}
use Rattle.disk_segment.specs.Names.{InProgress, Final, Record, UnderWay, name_of}
use Rattle.disk_segment.specs.Stands.{Holds, StandsFor, slot_of}
use Rattle.disk_segment.specs.Effects.{AppendsAt}
use Rattle.disk_segment.proofs.FileBytes.{seal_blank}
use Rattle.disk_segment.proofs.Single.{plain_here}
use Rattle.disk_segment.proofs.PlacedLaws.{before_all}
use Rattle.disk_segment.proofs.EffectLaws.{none_is_not}
use Rattle.disk_files.specs.declared.node_number.NodeNumber.{NodeNumber}
use Rattle.disk_files.specs.declared.node_number.NodeNumber.TheVariants.{Promised, Writer, Committed}
use Rattle.disk_files.specs.Durable.{number_name, number_of, HaveNumbers, StandsAs, HoldsState}
use Rattle.disk_files.proofs.Lists.{starts_of}
use Rattle.disk_files.proofs.OneCall.{accepted_epoch}

-- ## No files
none_number : (file : Option (List ℕ)) → file ≡ None → IsNumber file 0
none_number None is = refl
none_number (Some bytes) is = absurd (cc)

fresh_numbers : (c : Files) → ((name : List ℕ) → c name ≡ None) → HaveNumbers c fresh_state
fresh_numbers c none = λ n. by n
  where
    by : (n : NodeNumber) → IsNumber (c (number_name n)) (number_of n fresh_state)
    by Promised = none_number (c (number_name Promised)) (none (number_name Promised))
    by Writer = none_number (c (number_name Writer)) (none (number_name Writer))
    by Committed = none_number (c (number_name Committed)) (none (number_name Committed))

no_segments : (c : Files) → ((name : List ℕ) → c name ≡ None) → StandsFor c []
unfolding find_segment
no_segments c none = record {
  slots = λ start first small. record {
    record_ = inl (none (name_of start Record));
    holds = record {
      none_final = record { none = λ last ok. none (name_of start (Final last)) };
      counts = record { none = record { none = λ epoch ok has. none (name_of start (UnderWay epoch)) }; there = none (name_of start InProgress) };
    };
  };
}

pub fresh_stands : (c : Files) → ((name : List ℕ) → c name ≡ None) → StandsAs c fresh_state
fresh_stands c none = record { numbers = fresh_numbers c none; segments = no_segments c none }

pub fresh_holds : (v : View) → IsSound v → ((name : List ℕ) → v.seen name ≡ None) → HoldsState v fresh_state
fresh_holds v sound none = record {
  numbers = λ c left. fresh_numbers c (λ name. sound.absent name c (none name) left);
  segments = record {
    stands = λ c left. no_segments c (λ name. sound.absent name c (none name) left);
    tidy = record {
      none_under_way = λ start epoch first small ok. none (name_of start (UnderWay epoch));
      not_both = λ start last first small ok there. none (name_of start InProgress);
    };
  };
  starts = tt;
  filled = tt;
  records = record { accepted = λ start first small there. absurd (none_is_not (v.seen (name_of start Record)) (none (name_of start Record)) there) };
  none_temporary = λ n. none _;
  none_fresh_record = λ start first small. none _;
}

-- ## The files of a segment
module _ (v : View) (sound : IsSound v) (s : NodeState) (start : ℕ) (g : Segment) (holds : HoldsState v s) (known : find_segment start s.segments ≡ Some g) where
  first : 1 ≤ start
  first = subst (λ (m : ℕ). 1 ≤ m) (find-start start s.segments g known) (starts_of start s.segments g holds.starts known).0

  small : start ≤ 2 ^ 62
  small = subst (λ (m : ℕ). m ≤ 2 ^ 62) (find-start start s.segments g known) (starts_of start s.segments g holds.starts known).1

  pub progress_there : g.is_final ≡ false → IsSome (v.seen (name_of start InProgress))
  progress_there open_ = subst IsSome (sym (plain_here start v.seen s.segments (before_all start first small v sound s.segments holds.segments v.seen sound.seen_now) g known open_).content.there) refl

  pub final_there : (end : ℕ) → g.is_final ≡ true → end + 1 ≡ start + length g.bodies → IsSome (v.seen (name_of start (Final end)))
  final_there end closed ends = by (subst (λ (held : Option Segment). Holds start (slot_of v.seen start) held) known ((holds.segments.stands v.seen sound.seen_now).slots start first small).holds)
    where
      by : Holds start (slot_of v.seen start) (Some g) → IsSome (v.seen (name_of start (Final end)))
      by (inl is) = let same : is.last ≡ end = omega (arith, is.ends, ends) in subst (λ (last : ℕ). IsSome (v.seen (name_of start (Final last)))) same (subst IsSome (sym is.content.there) refl)
      by (inr is) = let p : true ≡ false = sym closed ∙ is.final in absurd (cc)

  pub accepted_there : g.accepted ≡ true → IsSome (v.seen (name_of start Record))
  accepted_there accepted = subst IsSome (sym (accepted_epoch start first small v s holds v.seen sound.seen_now g known accepted).there) refl

pub appends_blank : (v : View) (g : Segment) (at : ℕ) → AppendsAt v g at → IsBlank at (v.seen (name_of g.start InProgress))
appends_blank v g at is = subst (λ (file : Option (List ℕ)). IsBlank at file) (sym is.there) (is.more, seal_blank is.bytes g.start g.epoch g.bodies at is.edits)
