-- The lines of a script that can be played: each may come to its thread.
use Rattle.std.proofs.Common.{◌≡◌, ◌≢◌, refl, ℕ, zero, suc, arith, ◌+◌, List, [], ◌∷◌, map, Bool, true, false}
use Rattle.std.specs.List.{All}
use Rattle.play_script.specs.declared.script_line.ScriptLine.{ScriptLine}
use Rattle.play_script.specs.declared.script_line.ScriptLine.TheVariants as line
use Rattle.edit_ops.specs.Records.{EditView}
use Rattle.writer_core.specs.declared.task.Task.TheVariants as task
use Rattle.play_model.specs.Lines.{Does, Submits, line_of, ArePlayable, AreInRange, IsAction}
use Rattle.play_model.specs.Actions.{MayCome}
use Rattle.play_model.proofs.PlayableActions.{names_may}

no_lines : (named : Bool) (n : ℕ) → All (MayCome named n) []
no_lines named n k d l = absurd (omega (arith, l))

one_line : (named : Bool) (n : ℕ) (x : ScriptLine) (ls : List ScriptLine) → MayCome named n x → All (MayCome named n) ls → All (MayCome named n) (x ∷ ls)
one_line named n x ls h t zero d l = h
one_line named n x ls h t (suc k) d l = t k d (omega (arith, l))

-- ## What belongs to scripts with names or without
raw_log : (named : Bool) (bodies : List (List ℕ)) → IsAction named (Does (task.Log bodies)) → (named ≡ false) × (bodies ≢ [])
raw_log false bodies h = (refl, h)
raw_log true bodies h = absurd h

raw_purge : (named : Bool) (min : ℕ) → IsAction named (Does (task.Purge min)) → named ≡ false
raw_purge false min h = refl
raw_purge true min h = absurd h

some_edits : (named : Bool) (edits : List EditView) → IsAction named (Submits edits) → (named ≡ true) × (edits ≢ [])
some_edits true edits h = (refl, h.0)
some_edits false edits h = absurd h

pub may_come : (named : Bool) (n actors : ℕ) (items : List ScriptLine) → ArePlayable named n actors (map line_of items) → AreInRange n items → All (MayCome named n) items
unfolding ArePlayable AreInRange
may_come named n actors [] p r = no_lines named n
may_come named n actors (line.Declare name ∷ ls) p r = one_line named n _ ls tt (may_come named n (actors + 1) ls p r.1)
may_come named n actors (line.Takeover actor ∷ ls) p r = one_line named n _ ls tt (may_come named n actors ls p.2 r.1)
may_come named n actors (line.Roll actor ∷ ls) p r = one_line named n _ ls tt (may_come named n actors ls p.2 r.1)
may_come named n actors (line.Close actor ∷ ls) p r = one_line named n _ ls tt (may_come named n actors ls p.2 r.1)
may_come named n actors (line.Log actor bodies ∷ ls) p r = one_line named n _ ls (raw_log named bodies p.1) (may_come named n actors ls p.2 r.1)
may_come named n actors (line.Edits actor edits ∷ ls) p r = one_line named n _ ls (some_edits named edits p.1) (may_come named n actors ls p.2 r.1)
may_come named n actors (line.Purge actor min ∷ ls) p r = one_line named n _ ls (raw_purge named min p.1) (may_come named n actors ls p.2 r.1)
may_come named n actors (line.Trim actor extra ∷ ls) p r = one_line named n _ ls (names_may named p.1) (may_come named n actors ls p.2 r.1)
may_come named n actors (line.Tail actor ∷ ls) p r = one_line named n _ ls (names_may named p.1) (may_come named n actors ls p.2 r.1)
may_come named n actors (line.Checkpoint actor ∷ ls) p r = one_line named n _ ls (names_may named p.1) (may_come named n actors ls p.2 r.1)
may_come named n actors (line.Reload actor ∷ ls) p r = one_line named n _ ls (names_may named p.1) (may_come named n actors ls p.2 r.1)
may_come named n actors (line.Drop actor node call ∷ ls) p r = one_line named n _ ls (p.1, r.0.0, r.0.1, r.0.2) (may_come named n actors ls p.2 r.1)
may_come named n actors (line.Mute actor node call ∷ ls) p r = one_line named n _ ls (p.1, r.0.0, r.0.1, r.0.2) (may_come named n actors ls p.2 r.1)
may_come named n actors (line.Late actor node call ∷ ls) p r = one_line named n _ ls (p.1, r.0.0, r.0.1) (may_come named n actors ls p.2 r.1)
may_come named n actors (line.Kill node ∷ ls) p r = one_line named n _ ls (p.0, p.1) (may_come named n actors ls p.3 r.1)
may_come named n actors (line.Restart node ∷ ls) p r = one_line named n _ ls (p.0, p.1) (may_come named n actors ls p.3 r.1)
may_come named n actors (line.Arm node calls stop ∷ ls) p r = one_line named n _ ls (p.0, p.1) (may_come named n actors ls p.3 r.1)
