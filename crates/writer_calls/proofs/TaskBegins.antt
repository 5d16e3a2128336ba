-- Which tasks of a writer are begun.
use Rattle.std.proofs.Common.{◌≡◌, ℕ, List, length, [], ◌∷◌, Bool, true, false, Option, None, ◌==◌, refl, ap, ◌∙◌}
use Rattle.std.specs.Prelude.{◌≢◌}
use Rattle.writer_core.specs.declared.phase.Aim.TheVariants as aim
use Rattle.writer_core.specs.declared.round.Round.TheVariants as round
use Rattle.writer_core.specs.declared.task.Task.TheVariants as task
use Rattle.writer_core.specs.declared.task.Begun.TheVariants as begun
use Rattle.writer_core.specs.Views.{WriterView}
use Rattle.writer_core.specs.Rounds.{asks_all}
use Rattle.writer_core.specs.Writer.{Began, begins, if_writing, is_writing, log_begins, log_limit, writer_begun}

pub begun_open : (b : Bool) (x : Began) (w : WriterView) → (if_writing b x w).begun ≡ begun.Going → b ≡ true
begun_open true x w e = refl
begun_open false x w e = absurd (cc e)

pub purge_begins : (w : WriterView) (min : ℕ) → is_writing w.phase ≡ true → (writer_begun w (task.Purge min)).begun ≡ begun.Going
unfolding writer_begun
purge_begins w min e = ap (λ (b : Bool). (if_writing b (begins (asks_all (round.Purge min) (record w { aim = aim.Purge }))) w).begun) e

-- a batch that fits an open segment is begun
pub log_going : (w : WriterView) (bodies : List (List ℕ)) → is_writing w.phase ≡ true → log_limit w bodies ≡ None → (writer_begun w (task.Log bodies)).begun ≡ begun.Going
unfolding writer_begun
log_going w bodies e l = ap (λ (b : Bool). (if_writing b (log_begins (log_limit w bodies) bodies w) w).begun) e ∙ ap (λ (o : Option ℕ). (log_begins o bodies w).begun) l

pub not_empty : (bodies : List (List ℕ)) (b : Bool) → b ≡ (length bodies == 0) → b ≡ false → bodies ≢ []
not_empty [] b e is none = cc (e, is)
not_empty (x ∷ xs) b e is none = cc none
