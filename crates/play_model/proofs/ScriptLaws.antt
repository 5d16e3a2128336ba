-- A script of the grammar can be played.
use Rattle.std.proofs.Common.{◌≡◌, ◌+◌, ◌≤◌, List, [], ◌∷◌, ◌++◌, Bool, true, false, length, map, subst, arith}
use Rattle.std.specs.Prelude.{◌≢◌, not}
use Rattle.std.specs.List.{AllByRecursion}
use Rattle.std.proofs.lemmas.List.{length-append}
use Rattle.edit_ops.specs.Records.{EditView}
use Rattle.writer_core.specs.declared.task.Task.{Task}
use Rattle.writer_core.specs.declared.task.Task.TheVariants as task
use Rattle.writer_core.specs.Writer.{HasBody}
use Rattle.journal_history.specs.declared.stop.Stop.TheVariants as stop
use Rattle.play_script.specs.declared.script_line.ScriptLine.{ScriptLine}
use Rattle.play_script.specs.declared.script_line.ScriptLine.TheVariants as line
use Rattle.play_script.specs.Scripts.{ScriptView}
use Rattle.play_script.specs.Views.{SaidView}
use Rattle.play_script.specs.Edits.{IsSayable}
use Rattle.play_script.specs.Grammar.{AreLines, IsScript, said_after, nothing_said}
use Rattle.play_model.specs.Lines.{line_of, lines_of, count_actors, AreEdits, IsNamesTask, IsTask, WithNames, ArePlayable, IsPlayable, AreInRange, NumbersFit}

-- ## Lines that stand in scripts with names, without them, or in both
common_task : (named : Bool) (t : Task) → IsNamesTask t → HasBody t → IsTask named t
common_task true t n h = n
common_task false t n h = h

raw_task : (named : Bool) (t : Task) → not named ≡ true → HasBody t → IsTask named t
raw_task true t e h = absurd (cc e)
raw_task false t e h = h

with_names : (named : Bool) (A : Type 0) → named ≡ true → A → WithNames named A
with_names true A e x = x
with_names false A e x = absurd (cc e)

are_edits : (es : List EditView) → AllByRecursion IsSayable es → AreEdits es
are_edits [] h = tt
are_edits (e ∷ es) h = (h.0.text.edit, are_edits es h.1)

lines_playable : (said : SaidView) (lines : List ScriptLine) → AreLines said lines → ArePlayable said.named said.nodes (length said.names) (map line_of lines)
unfolding AreLines ArePlayable
lines_playable said [] h = h
lines_playable said (line.Declare name ∷ lines) h =
    subst (λ n. ArePlayable said.named said.nodes n (map line_of lines)) (length-append said.names (name ∷ [])) (lines_playable (said_after said (line.Declare name)) lines h.1)
lines_playable said (line.Takeover actor ∷ lines) h = (h.0.sense, common_task said.named task.Takeover tt tt, lines_playable said lines h.1)
lines_playable said (line.Roll actor ∷ lines) h = (h.0.sense, common_task said.named task.Roll tt tt, lines_playable said lines h.1)
lines_playable said (line.Close actor ∷ lines) h = (h.0.sense, common_task said.named task.Close tt tt, lines_playable said lines h.1)
lines_playable said (line.Log actor bodies ∷ lines) h = (h.0.sense.0, raw_task said.named (task.Log bodies) h.0.here h.0.sense.1, lines_playable said lines h.1)
lines_playable said (line.Edits actor edits ∷ lines) h =
    (h.0.sense.0, with_names said.named ((edits ≢ []) × AreEdits edits) h.0.here (h.0.sense.1, are_edits edits h.0.sense.2), lines_playable said lines h.1)
lines_playable said (line.Purge actor min ∷ lines) h = (h.0.sense.0, raw_task said.named (task.Purge min) h.0.here tt, lines_playable said lines h.1)
lines_playable said (line.Trim actor extra ∷ lines) h = (h.0.sense.0, with_names said.named (Unit {0}) h.0.here tt, lines_playable said lines h.1)
lines_playable said (line.Tail actor ∷ lines) h = (h.0.sense, with_names said.named (Unit {0}) h.0.here tt, lines_playable said lines h.1)
lines_playable said (line.Checkpoint actor ∷ lines) h = (h.0.sense, with_names said.named (Unit {0}) h.0.here tt, lines_playable said lines h.1)
lines_playable said (line.Reload actor ∷ lines) h = (h.0.sense, with_names said.named (Unit {0}) h.0.here tt, lines_playable said lines h.1)
lines_playable said (line.Drop actor i k ∷ lines) h = (h.0.sense.0, h.0.sense.2.0, lines_playable said lines h.1)
lines_playable said (line.Mute actor i k ∷ lines) h = (h.0.sense.0, h.0.sense.2.0, lines_playable said lines h.1)
lines_playable said (line.Late actor i k ∷ lines) h = (h.0.sense.0, h.0.sense.2.0, lines_playable said lines h.1)
lines_playable said (line.Kill i ∷ lines) h = (h.0.sense.0, h.0.sense.1, tt, lines_playable said lines h.1)
lines_playable said (line.Restart i ∷ lines) h = (h.0.sense.0, h.0.sense.1, tt, lines_playable said lines h.1)
lines_playable said (line.Arm i calls (stop.Effects keep) ∷ lines) h = (h.0.sense.0.0, h.0.sense.0.1, tt, lines_playable said lines h.1)
lines_playable said (line.Arm i calls (stop.DiskCalls after cut) ∷ lines) h = (h.0.sense.0.0, h.0.sense.0.1, tt, lines_playable said lines h.1)

pub playable : (s : ScriptView) → IsScript s → IsPlayable s
playable s h = record { nodes = h.permitted.0; lines = lines_playable (nothing_said s.named s.nodes) s.lines h.lines }

-- ## Numbers
lines_fit : (said : SaidView) (lines : List ScriptLine) → AreLines said lines → AreInRange said.nodes lines
unfolding AreLines AreInRange
lines_fit said [] h = h
lines_fit said (line.Declare name ∷ lines) h = (tt, lines_fit (said_after said (line.Declare name)) lines h.1)
lines_fit said (line.Takeover actor ∷ lines) h = (tt, lines_fit said lines h.1)
lines_fit said (line.Roll actor ∷ lines) h = (tt, lines_fit said lines h.1)
lines_fit said (line.Close actor ∷ lines) h = (tt, lines_fit said lines h.1)
lines_fit said (line.Log actor bodies ∷ lines) h = (tt, lines_fit said lines h.1)
lines_fit said (line.Edits actor edits ∷ lines) h = (tt, lines_fit said lines h.1)
lines_fit said (line.Purge actor min ∷ lines) h = (tt, lines_fit said lines h.1)
lines_fit said (line.Trim actor extra ∷ lines) h = (tt, lines_fit said lines h.1)
lines_fit said (line.Tail actor ∷ lines) h = (tt, lines_fit said lines h.1)
lines_fit said (line.Checkpoint actor ∷ lines) h = (tt, lines_fit said lines h.1)
lines_fit said (line.Reload actor ∷ lines) h = (tt, lines_fit said lines h.1)
lines_fit said (line.Drop actor i k ∷ lines) h = ((h.0.sense.1.0, h.0.sense.1.1, h.0.sense.2.1), lines_fit said lines h.1)
lines_fit said (line.Mute actor i k ∷ lines) h = ((h.0.sense.1.0, h.0.sense.1.1, h.0.sense.2.1), lines_fit said lines h.1)
lines_fit said (line.Late actor i k ∷ lines) h = ((h.0.sense.1.0, h.0.sense.1.1), lines_fit said lines h.1)
lines_fit said (line.Kill i ∷ lines) h = (tt, lines_fit said lines h.1)
lines_fit said (line.Restart i ∷ lines) h = (tt, lines_fit said lines h.1)
lines_fit said (line.Arm i calls (stop.Effects keep) ∷ lines) h = (tt, lines_fit said lines h.1)
lines_fit said (line.Arm i calls (stop.DiskCalls after cut) ∷ lines) h = (tt, lines_fit said lines h.1)

-- a script declares at most eight actors
few_declared : (said : SaidView) (lines : List ScriptLine) → AreLines said lines → length said.names ≤ 8 → count_actors (map line_of lines) + length said.names ≤ 8
unfolding AreLines count_actors
few_declared said [] h l = omega (arith, l)
few_declared said (line.Declare name ∷ lines) h l =
    let e : length (said.names ++ name ∷ []) ≡ length said.names + 1 = length-append said.names (name ∷ []) in
    let more : count_actors (map line_of lines) + length (said.names ++ name ∷ []) ≤ 8 =
    few_declared (said_after said (line.Declare name)) lines h.1 (omega (arith, e, h.0.sense.1)) in
    omega (arith, e, more)
few_declared said (line.Takeover actor ∷ lines) h l = few_declared said lines h.1 l
few_declared said (line.Roll actor ∷ lines) h l = few_declared said lines h.1 l
few_declared said (line.Close actor ∷ lines) h l = few_declared said lines h.1 l
few_declared said (line.Log actor bodies ∷ lines) h l = few_declared said lines h.1 l
few_declared said (line.Edits actor edits ∷ lines) h l = few_declared said lines h.1 l
few_declared said (line.Purge actor min ∷ lines) h l = few_declared said lines h.1 l
few_declared said (line.Trim actor extra ∷ lines) h l = few_declared said lines h.1 l
few_declared said (line.Tail actor ∷ lines) h l = few_declared said lines h.1 l
few_declared said (line.Checkpoint actor ∷ lines) h l = few_declared said lines h.1 l
few_declared said (line.Reload actor ∷ lines) h l = few_declared said lines h.1 l
few_declared said (line.Drop actor i k ∷ lines) h l = few_declared said lines h.1 l
few_declared said (line.Mute actor i k ∷ lines) h l = few_declared said lines h.1 l
few_declared said (line.Late actor i k ∷ lines) h l = few_declared said lines h.1 l
few_declared said (line.Kill i ∷ lines) h l = few_declared said lines h.1 l
few_declared said (line.Restart i ∷ lines) h l = few_declared said lines h.1 l
few_declared said (line.Arm i calls (stop.Effects keep) ∷ lines) h l = few_declared said lines h.1 l
few_declared said (line.Arm i calls (stop.DiskCalls after cut) ∷ lines) h l = few_declared said lines h.1 l

pub numbers_fit : (s : ScriptView) → IsScript s → NumbersFit s
numbers_fit s h =
    let few : count_actors (lines_of s) + 0 ≤ 8 = few_declared (nothing_said s.named s.nodes) s.lines h.lines (omega arith) in
    record { operator = omega (arith, few); lines = lines_fit (nothing_said s.named s.nodes) s.lines h.lines }
