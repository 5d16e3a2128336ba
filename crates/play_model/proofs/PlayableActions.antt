-- Each actor's actions are actions of a script that can be played.
use Rattle.std.proofs.Common.{◌≡◌, ℕ, ◌+◌, ◌==◌, List, [], ◌∷◌, Bool, true, false, cond, refl}
use Rattle.play_model.specs.Lines.{Line, Declares, Acts, Operates, actions_of, AreActions, ArePlayable, WithNames}

pub playable_actions : (named : Bool) (nodes actors : ℕ) (lines : List Line) → ArePlayable named nodes actors lines → (c : ℕ) → AreActions named (actions_of c lines)
unfolding ArePlayable AreActions actions_of
playable_actions named nodes actors [] p c = tt
playable_actions named nodes actors (Declares name ∷ ls) p c = playable_actions named nodes (actors + 1) ls p c
playable_actions named nodes actors (Operates node ask ∷ ls) p c = playable_actions named nodes actors ls p.3 c
playable_actions named nodes actors (Acts actor action ∷ ls) p c = by (actor == c) (playable_actions named nodes actors ls p.2 c)
  where
    by : (b : Bool) → AreActions named (actions_of c ls) → AreActions named (cond b (action ∷ actions_of c ls) (actions_of c ls))
    by true rest = (p.1, rest)
    by false rest = rest

pub names_may : (named : Bool) → WithNames named (Unit {0}) → named ≡ true
names_may true h = refl
names_may false h = absurd h
