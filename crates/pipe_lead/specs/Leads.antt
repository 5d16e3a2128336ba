-- What a name node in a process of its own did with its input.
use Rattle.std.specs.Prelude.{ℕ, ◌≡◌, ◌+◌, ◌*◌, ◌^◌, ◌<◌, ◌≤◌, ◌⊎◌, ◌||◌, ◌==◌, Bool, true, false, if◌then◌else◌, List, [], ◌∷◌, ◌++◌, Option, None, Some, codes, decimal, map, drop, length}
use Rattle.std.specs.List.{flat_map, starts_with}
use Rattle.std.specs.Str.{bytes_eq}
use Rattle.std.specs.Io.KnownBytes.{Appends, Consumes, IsAtEnd}
use Rattle.base_outside.specs.Whole.{TakesFront}
use Rattle.journal_history.specs.declared.record.Record.{Record}
use Rattle.journal_history.specs.declared.record.Record.TheVariants.{Call, Late, Operator, Outcome}
use Rattle.journal_session.specs.Lines.{IsLine, lines_text, longest_line}
use Rattle.journal_session.specs.declared.next.Next.{Next}
use Rattle.journal_session.specs.declared.next.Next.TheVariants as next
use Rattle.play_script.specs.declared.script_line.ScriptLine.{ScriptLine}
use Rattle.play_calls.specs.Logs.{LogView, new_log}
use Rattle.play_model.specs.Lines.{line_of, actions_of}
use Rattle.play_model.specs.Actions.{ActorView, new_actor_view, has_names, kept_by}
use Rattle.play_model.specs.KeptActor.{KeptActor}
use Rattle.play_threads.specs.Threads.{FollowsActions}
use Rattle.ns_tree.specs.declared.end.LastSpace.{LastSpace}
use Rattle.caller.specs.Callers.{AreLater}
use Rattle.pipe_seats.specs.Piped.{AreResting}
use Rattle.pipe_seats.specs.Wires.{PipeCaller, pipe_wire}
use Rattle.pipe_lead.specs.declared.answer.Answer.{Answer}
use Rattle.pipe_lead.specs.declared.answer.Answer.TheVariants as answer
use Rattle.pipe_lead.specs.declared.lead_end.LeadEnd.{LeadEnd}
use Rattle.pipe_lead.specs.declared.lead_end.LeadEnd.TheVariants as lead_end
use Rattle.pipe_lead.specs.Begun.{HasDoneFrom, FollowsFrom}
use Rattle.pipe_lead.specs.Inputs.{Step, Took, Passed, Refused, Stated, IsStepOf, TakesStep, IsTaken, view_of}
use Rattle.pipe_lead.specs.declared.lead_state.LeadState.{LeadState}
use Rattle.pipe_lead.specs.States.{IsInState, state_text}

-- ## What is written
-- a result's line
abbrev pub result_text : Record → List ℕ
result_text (Outcome text) = codes "= " ++ text ++ 10 ∷ []
result_text (Call node r t) = []
result_text (Late node r) = []
result_text (Operator node ask done) = []

abbrev pub results_text : List Record → List ℕ
results_text records = flat_map result_text records

abbrev pub refusal_text : ℕ → List ℕ
refusal_text rule = codes "= bad " ++ decimal rule ++ 10 ∷ []

-- what is written of a line, of which these results and calls were listed
abbrev pub answer_text : Answer → List Record → List ℕ
answer_text answer.Results more = results_text more
answer_text answer.Nothing more = []
answer_text (answer.Broken rule) more = refusal_text rule
answer_text (answer.State of) more = state_text of

-- Line by line, from an actor of so many nodes as it began: what a line did to it, and the results
-- that were listed of one that was taken, the rule that one broke, or what the actor was.
pub data AreTold (nodes : ℕ) (begun : ActorView) : List Step → KeptActor → List ℕ → Type 0 where
  none : AreTold nodes begun [] (kept_by begun (new_log nodes true)) []
  took : (steps : List Step) (old new : KeptActor) (more : List Record) (text : List ℕ) (line : ScriptLine) → AreTold nodes begun steps old text → TakesStep nodes (Took line) old new
      → new.past ≡ old.past ++ more → AreTold nodes begun (steps ++ Took line ∷ []) new (text ++ results_text more)
  passed : (steps : List Step) (by : KeptActor) (text : List ℕ) → AreTold nodes begun steps by text → AreTold nodes begun (steps ++ Passed ∷ []) by text
  refused : (steps : List Step) (by : KeptActor) (text : List ℕ) (rule : ℕ) → AreTold nodes begun steps by text
      → AreTold nodes begun (steps ++ Refused rule ∷ []) by (text ++ refusal_text rule)
  stated : (steps : List Step) (by : KeptActor) (text : List ℕ) (of : LeadState) → AreTold nodes begun steps by text → IsInState of (view_of by)
      → AreTold nodes begun (steps ++ Stated of ∷ []) by (text ++ state_text of)

-- ## What was done
-- the lines that were taken
abbrev pub taken_in : List Step → List ScriptLine
taken_in [] = []
taken_in (Took line ∷ steps) = line ∷ taken_in steps
taken_in (Passed ∷ steps) = taken_in steps
taken_in (Refused rule ∷ steps) = taken_in steps
taken_in (Stated of ∷ steps) = taken_in steps

-- what came of each line
abbrev pub AreStepsOf : ℕ → List (List ℕ) → List Step → Type 0
AreStepsOf nodes [] [] = Unit {0}
AreStepsOf nodes (line ∷ lines) (step ∷ steps) = IsStepOf nodes line step × AreStepsOf nodes lines steps
AreStepsOf nodes [] (step ∷ steps) = ⊥
AreStepsOf nodes (line ∷ lines) [] = ⊥

abbrev pub IsWritten : Bool → Option (List ℕ) → Option (List ℕ) → List ℕ → Type 0
IsWritten true before now text = Appends before now text
IsWritten false before now text = TakesFront before now text

-- One line was taken, no request is under way, and what is told of it was written, or a front of it.
pub record IsAnsweredAs (whole : Bool) (line : List ℕ) (old : ActorView) (was : PipeCaller) (new : ActorView) (now : PipeCaller) (before after : Option (List ℕ)) : Type 0 where
  pub of : Answer
  pub taken : IsTaken was.log.nodes line of (kept_by old was.log) (kept_by new now.log)
  pub named : has_names new ≡ true
  pub later : AreLater pipe_wire was now
  pub resting : AreResting now.wire
  pub written : IsWritten whole before after (answer_text of (drop (length was.log.past) now.log.past))

-- or the process ends with it
abbrev pub IsAnswered : Option LeadEnd → List ℕ → ActorView → PipeCaller → ActorView → PipeCaller → Option (List ℕ) → Option (List ℕ) → Type 0
IsAnswered None line old was new now before after = IsAnsweredAs true line old was new now before after
IsAnswered (Some lead_end.WriteFault) line old was new now before after = IsAnsweredAs false line old was new now before after
IsAnswered (Some lead_end.OutOfMemory) line old was new now before after = Unit {0}
IsAnswered (Some _) line old was new now before after = ⊥

-- ## Where a `roll` is put in
-- a line of edits
abbrev pub is_of_edits : List ℕ → Bool
is_of_edits line = starts_with (λ a b. a == b) line (codes "log ")

-- a line that begins a segment
abbrev pub begins_segment : List ℕ → Bool
begins_segment line = bytes_eq line (codes "takeover") || bytes_eq line (codes "roll")

-- how many bytes the bodies of the open segment take in an acceptance of it, at most, after one line
-- more: ten for each byte of a line of edits, and a few
abbrev pub used_after : ℕ → List ℕ → ℕ
used_after used line = if is_of_edits line then used + 10 * length line + 32 else (if begins_segment line then 0 else used)

-- how many they may be before the next line is taken: with that line they still fit in a line of a
-- request
abbrev pub most_used : ℕ
most_used = 800000

-- so many are few enough, where the process goes on
abbrev pub IsFew : Option LeadEnd → ℕ → Type 0
IsFew None used = used ≤ most_used
IsFew (Some end) used = Unit {0}

-- A line was answered, no `roll` is due behind it, and so many are used now.
pub record IsAnsweredAlone (of : Option LeadEnd) (used : ℕ) (line : List ℕ) (old : ActorView) (was : PipeCaller) (new : ActorView) (now : PipeCaller) (before after : Option (List ℕ)) (used_now : ℕ) : Type 0 where
  pub one : IsAnswered of line old was new now before after
  pub few : IsFew of (used_after used line)
  pub counted : of ≡ None → used_now ≡ used_after used line

-- A line was answered, a `roll` was due, and was put in behind it.
pub record IsRolledBehind (of : Option LeadEnd) (used : ℕ) (line : List ℕ) (old : ActorView) (was : PipeCaller) (new : ActorView) (now : PipeCaller) (before after : Option (List ℕ)) (used_now : ℕ) : Type 0 where
  pub actor : ActorView
  pub seats : PipeCaller
  pub told : Option (List ℕ)
  pub first : IsAnsweredAs true line old was actor seats before told
  pub roll : IsAnswered of (codes "roll") actor seats new now told after
  pub due : most_used < used_after used line
  pub counted : used_now ≡ 0

-- with such a `roll` or without
abbrev pub IsAnsweredInTime : Option LeadEnd → ℕ → List ℕ → ActorView → PipeCaller → ActorView → PipeCaller → Option (List ℕ) → Option (List ℕ) → ℕ → Type 0
IsAnsweredInTime of used line old was new now before after used_now =
    IsAnsweredAlone of used line old was new now before after used_now ⊎ IsRolledBehind of used line old was new now before after used_now

-- The lines of an input, in order, with a line `roll` put in just where it is due; and how many bytes
-- are used after them.
pub data IsWithRolls : List (List ℕ) → List (List ℕ) → ℕ → Type 0 where
  no_line : IsWithRolls [] [] 0
  its_line : (input lines : List (List ℕ)) (used : ℕ) (line : List ℕ) → IsWithRolls input lines used → used ≤ most_used
      → IsWithRolls (input ++ line ∷ []) (lines ++ line ∷ []) (used_after used line)
  one_roll : (input lines : List (List ℕ)) (used : ℕ) → IsWithRolls input lines used → most_used < used → IsWithRolls input (lines ++ codes "roll" ∷ []) 0

-- ## How it ended
-- all that is told of the lines was written
abbrev pub tells_all : LeadEnd → Bool
tells_all lead_end.WriteFault = false
tells_all _ = true

-- the front of a line that is too long
pub record IsLong (text : List ℕ) : Type 0 where
  pub front : List ℕ
  pub behind : List ℕ
  pub spelled : text ≡ front ++ behind
  pub one : IsLine front
  pub long : longest_line < length front

-- By what is known of the bytes behind the last line: the input was at its end, and they are a line
-- without an LF, or none; they begin a line too long, or as many lines were read as can be counted; a
-- read failed inside a line.
abbrev pub EndsAt : LeadEnd → List (List ℕ) → List ℕ → Option (List ℕ) → Type 0
EndsAt lead_end.Done input rest left = IsLine rest × IsAtEnd left
EndsAt lead_end.LongLine input rest left = IsLong rest ⊎ (2 ^ 64 ≤ length input + 1)
EndsAt lead_end.ReadFault input rest left = IsLine rest
EndsAt lead_end.WriteFault input rest left = Unit {0}
EndsAt lead_end.OutOfMemory input rest left = Unit {0}

-- Lines were read, and maybe some bytes after them. With a roll put in just where one was due, of
-- each line something came; the actor did the actions of those that were taken, in order, by what it
-- heard; and what was written is what was told of them, or a front of it where a write failed.
pub record HasLed (nodes : ℕ) (begun actor : ActorView) (log : LogView) (given now : Option (List ℕ)) (before after : Option (List ℕ)) (end : LeadEnd) : Type 0 where
  pub input : List (List ℕ)
  pub lines : List (List ℕ)
  pub used : ℕ
  pub put_in : IsWithRolls input lines used
  pub in_time : tells_all end ≡ true → used ≤ most_used
  pub steps : List Step
  pub rest : List ℕ
  pub read : Consumes given now (lines_text input ++ rest)
  pub ends : EndsAt end input rest now
  pub are : AreStepsOf nodes lines steps
  pub done : HasDoneFrom begun nodes (actions_of 0 (map line_of (taken_in steps))) (kept_by actor log)
  pub text : List ℕ
  pub told : AreTold nodes begun steps (kept_by actor log) text
  pub written : IsWritten (tells_all end) before after text

-- And so its record is what such an actor lists, with what it holds at last; where it began with
-- nothing, it is an actor of a script.
pub record Leads (nodes : ℕ) (begun actor : ActorView) (log : LogView) (given now : Option (List ℕ)) (before after : Option (List ℕ)) (end : LeadEnd) : Type 0 where
  pub has : HasLed nodes begun actor log given now before after end
  pub last : Option LastSpace
  pub follows : FollowsFrom begun nodes (actions_of 0 (map line_of (taken_in has.steps))) log.past log.marks last
  pub fresh : begun ≡ new_actor_view true nodes → FollowsActions true nodes (actions_of 0 (map line_of (taken_in has.steps))) log.past log.marks last

-- but where memory ran out
abbrev pub IfLasts : LeadEnd → Type 0 → Type 0
IfLasts lead_end.Done P = P
IfLasts lead_end.LongLine P = P
IfLasts lead_end.ReadFault P = P
IfLasts lead_end.WriteFault P = P
IfLasts lead_end.OutOfMemory P = Unit {0}

-- how the process ends where there is no next line
abbrev pub end_of : Next → Option LeadEnd
end_of next.Line = None
end_of next.Last = Some lead_end.Done
end_of next.End = Some lead_end.Done
end_of next.LongLine = Some lead_end.LongLine
end_of next.LongInput = Some lead_end.LongLine
end_of next.ReadFault = Some lead_end.ReadFault
end_of next.OutOfMemory = Some lead_end.OutOfMemory
