-- Which lines leave a name node as it is.
use Rattle.play_script.specs.declared.script_line.ScriptLine.{ScriptLine}
use Rattle.play_script.specs.declared.script_line.ScriptLine.TheVariants as line

-- a mark, a late copy, or no line of an actor
abbrev pub IsOther : ScriptLine → Type 0
IsOther (line.Declare name) = Unit {0}
IsOther (line.Drop actor node call) = Unit {0}
IsOther (line.Mute actor node call) = Unit {0}
IsOther (line.Late actor node call) = Unit {0}
IsOther (line.Kill node) = Unit {0}
IsOther (line.Restart node) = Unit {0}
IsOther (line.Arm node calls stop) = Unit {0}
IsOther _ = ⊥

-- or one that a standby refuses
abbrev pub IsRefusedResting : ScriptLine → Type 0
IsRefusedResting (line.Takeover actor) = ⊥
IsRefusedResting (line.Log actor bodies) = ⊥
IsRefusedResting (line.Purge actor min) = ⊥
IsRefusedResting (line.Tail actor) = ⊥
IsRefusedResting (line.Checkpoint actor) = ⊥
IsRefusedResting (line.Reload actor) = ⊥
IsRefusedResting _ = Unit {0}

-- or one that an active one refuses
abbrev pub IsRefusedActive : ScriptLine → Type 0
IsRefusedActive (line.Takeover actor) = ⊥
IsRefusedActive (line.Roll actor) = ⊥
IsRefusedActive (line.Close actor) = ⊥
IsRefusedActive (line.Log actor bodies) = ⊥
IsRefusedActive (line.Edits actor edits) = ⊥
IsRefusedActive (line.Purge actor min) = ⊥
IsRefusedActive (line.Trim actor extra) = ⊥
IsRefusedActive _ = Unit {0}
