-- A world of one node and one actor, whose takeover is served.
use Rattle.std.specs.Prelude.{List, [], ◌∷◌, None}
use Rattle.journal_core.specs.declared.request.Request.TheVariants.{State, NewEpoch, Start, Journal}
use Rattle.writer_core.specs.declared.task.Task.TheVariants.{Takeover}
use Rattle.run_safety.specs.declared.event.Fate.TheVariants as fate
use Rattle.run_safety.specs.declared.event.Event.{Event}
use Rattle.run_safety.specs.declared.event.Event.TheVariants.{Begin, Call, Late}
use Rattle.run_safety.specs.Examples.{head, begin, one_edit}
use Rattle.run_world.specs.World.{World, new_world, world_after}

abbrev pub takeover_begins : List Event
takeover_begins = Begin 0 Takeover ∷ []

-- its calls, each answered
abbrev pub its_calls : List Event
its_calls =
    Call 0 1 State fate.Heard
    ∷ Call 0 1 (NewEpoch 1) fate.Heard
    ∷ Call 0 1 (Start (head 1 1 0) 1) fate.Heard
    ∷ Call 0 1 (Journal (head 1 2 0) 1 (one_edit 1 begin)) fate.Heard
    ∷ []

abbrev pub begun_world : World
begun_world = world_after (new_world 1 1) takeover_begins

-- a call that isn't the next one, and a copy of a call that wasn't made
abbrev pub out_of_turn : Event
out_of_turn = Call 0 1 (NewEpoch 1) fate.Heard

abbrev pub never_made : Event
never_made = Late 0 1 State None
