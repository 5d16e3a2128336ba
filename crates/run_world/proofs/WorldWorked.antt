-- The worked world, computed.
use Rattle.std.proofs.Common.{◌≡◌, ℕ, ◌<◌, [], ◌∷◌, refl, inl, inr, arith, subst}
use Rattle.journal_core.specs.Segments.{find_segment, put_segment, remove_segment, newest}
use Rattle.journal_core.specs.Limits.{limit_of, max_number}
use Rattle.journal_core.specs.Effects.{after_effects}
use Rattle.journal_core.specs.Step.{node_step, effects_of}
use Rattle.writer_core.specs.declared.phase.Phase.TheVariants.{Writing}
use Rattle.writer_core.specs.Best.{best_from, greatest_newest, greatest_promise}
use Rattle.writer_core.specs.Rounds.{judgment, after_fetch}
use Rattle.writer_core.specs.Writer.{new_writer, log_limit, writer_begun, writer_heard}
use Rattle.run_world.specs.declared.seen.Seen.TheVariants.{NotNext}
use Rattle.journal_history.specs.Cell.{cell_takes}
use Rattle.run_world.specs.Complete.{AreServed, HasBegun}
use Rattle.run_safety.specs.Majority.{Member}
use Rattle.run_world.specs.World.{new_world, acting_at, node_asked, with_acting, call_reached, world_step, world_after}
use Rattle.run_world.specs.WorldExamples.{begun_world, its_calls, out_of_turn, never_made}

pub begun : HasBegun (acting_at 0 begun_world).writer
unfolding new_world world_after world_step with_acting writer_begun
begun = (new_writer 1, refl)

-- the only node
only : (P : ℕ → Type 0) → P 1 → (i : ℕ) → Member i (1 ∷ []) → P i
only P p i (inl e) = subst P e p
only P p i (inr none) = absurd none

pub served : AreServed 0 (1 ∷ []) begun_world its_calls
unfolding AreServed new_world world_after world_step call_reached node_asked with_acting cell_takes find_segment put_segment remove_segment newest
    limit_of after_effects node_step effects_of best_from greatest_newest greatest_promise judgment after_fetch log_limit writer_begun writer_heard
served =
    let low : 0 < max_number = omega arith in (
      record { up = only _ refl; answered = λ node r fate e m q. tt; low = λ node r fate e. low; runs = tt },
      (
        record { up = only _ refl; answered = λ node r fate e m q. tt; low = λ node r fate e. tt; runs = tt },
        (
          record { up = only _ refl; answered = λ node r fate e m q. tt; low = λ node r fate e. tt; runs = tt },
          (record { up = only _ refl; answered = λ node r fate e m q. tt; low = λ node r fate e. tt; runs = tt }, tt),
        ),
      ),
    )

pub taken : (acting_at 0 (world_after begun_world its_calls)).writer.phase ≡ Writing
unfolding new_world world_after world_step call_reached node_asked with_acting cell_takes find_segment put_segment remove_segment newest limit_of
    after_effects node_step effects_of best_from greatest_newest greatest_promise judgment after_fetch log_limit writer_begun writer_heard
taken = refl

pub call_next : (world_step begun_world out_of_turn).seen ≡ NotNext
unfolding new_world world_after world_step with_acting writer_begun
call_next = refl

pub copy_next : (world_step begun_world never_made).seen ≡ NotNext
unfolding new_world world_after world_step with_acting writer_begun
copy_next = refl
