-- The files of a folder stand for one state of a node that comes up.
use Rattle.std.proofs.Common.{ℕ, ◌≡◌, ◌==◌, ◌≤◌, List, [], ◌∷◌, Option, Some, None, true, arith, sym, subst, ◌∙◌}
use Rattle.std.proofs.lemmas.Bool.{cond-false, ne_eqb}
use Rattle.base_disk.specs.Files.{Files}
use Rattle.journal_core.specs.declared.segment.Segment.{Segment}
use Rattle.journal_core.specs.declared.node_state.NodeState.{NodeState}
use Rattle.journal_core.specs.Segments.{find_segment, AreSound}
use Rattle.journal_core.specs.Step.{fresh_state, restarted}
use Rattle.disk_segment.specs.RowsTell.{AreStarts}
use Rattle.disk_segment.specs.Stands.{SlotStands, slot_of}
use Rattle.disk_files.specs.declared.node_number.NodeNumber.{NodeNumber}
use Rattle.disk_files.specs.declared.node_number.NodeNumber.TheVariants.{Promised, Writer, Committed}
use Rattle.disk_files.specs.Durable.{number_of, number_name, HaveNumbers, StandsAs}
use Rattle.disk_files.proofs.HoldsLaws.{fresh_stands}
use Rattle.disk_node.proofs.Decodes.{number_decoded}
use Rattle.disk_node.proofs.Reopens.{one_segments}

pub one_state : (files : Files) (s t : NodeState) → StandsAs files s → StandsAs files t → AreSound s.segments → AreSound t.segments → AreStarts s.segments → AreStarts t.segments
    → restarted s ≡ restarted t
one_state files s t a b sound_s sound_t starts_s starts_t =
    let number : (n : NodeNumber) → number_of n s ≡ number_of n t =
    λ n. sym (number_decoded (files (number_name n)) (number_of n s) (a.numbers n)) ∙ number_decoded (files (number_name n)) (number_of n t) (b.numbers n) in
    let segments = one_segments files s.segments t.segments a.segments b.segments sound_s sound_t starts_s starts_t in
    λ i. record { promised = number Promised i; writer = number Writer i; committed = number Committed i; known = number Committed i; segments = segments i; opened = None; serial = 0; up = true }

-- ## A segment that no file has
-- no lookup from 1 on finds a segment that starts at 0
not_found : (g : Segment) (start : ℕ) → g.start ≡ 0 → 1 ≤ start → find_segment start (g ∷ []) ≡ None
unfolding find_segment
not_found g start zero first = cond-false (g.start == start) (Some g) None (ne_eqb g.start start (λ e. omega (arith, e, zero, first)))

numbers_beside : (files : Files) (g : Segment) → ((name : List ℕ) → files name ≡ None) → HaveNumbers files (record fresh_state { segments = g ∷ [] })
numbers_beside files g none Promised = (fresh_stands files none).numbers Promised
numbers_beside files g none Writer = (fresh_stands files none).numbers Writer
numbers_beside files g none Committed = (fresh_stands files none).numbers Committed

-- so by lookups alone an empty folder stands for it
pub stands_beside : (files : Files) (g : Segment) → g.start ≡ 0 → ((name : List ℕ) → files name ≡ None) → StandsAs files (record fresh_state { segments = g ∷ [] })
unfolding find_segment
stands_beside files g zero none = record {
  numbers = numbers_beside files g none;
  segments = record {
    slots = λ start first small.
        subst (λ (held : Option Segment). SlotStands start (slot_of files start) held) (sym (not_found g start zero first))
        ((fresh_stands files none).segments.slots start first small);
  };
}

pub empty_is_fresh : (files : Files) (s : NodeState) → ((name : List ℕ) → files name ≡ None) → StandsAs files s → AreSound s.segments → AreStarts s.segments → restarted s ≡ fresh_state
empty_is_fresh files s none stands sound starts = one_state files s fresh_state stands (fresh_stands files none) sound (record { rising = tt; within = tt }) starts tt
