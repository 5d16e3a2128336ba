-- A task begins alike for writers that are alike but for what no round asks about.
use Rattle.std.proofs.Common.{◌≡◌, ◌≢◌, ℕ, List, Bool, true, false, refl, sym, ap, ◌∙◌, subst, Option, Some, None}
use Rattle.writer_core.specs.declared.round.Round.{Round}
use Rattle.writer_core.specs.declared.round.Round.TheVariants as round
use Rattle.writer_core.specs.declared.phase.Phase.{Phase}
use Rattle.writer_core.specs.declared.phase.Phase.TheVariants as phase
use Rattle.writer_core.specs.declared.task.Task.{Task}
use Rattle.writer_core.specs.declared.task.Task.TheVariants as task
use Rattle.writer_core.specs.declared.task.Begun.TheVariants as begun
use Rattle.writer_core.specs.Views.{WriterView}
use Rattle.writer_core.specs.Writer.{Began, log_limit, log_begins, if_writing, is_writing, writer_begun}
use Rattle.writer_core.proofs.Plain.{plain}
use Rattle.writer_core.proofs.PlainRounds.{IsWhole, alike_phase}

-- a task that is no takeover
abbrev pub IsUnder : Task → Type 0
IsUnder task.Takeover = ⊥
IsUnder _ = Unit {0}

-- It begins, in a whole round, for both; or for neither, and leaves the writer as it was.
pub data BeginsAlike (v u : WriterView) (t : Task) : Type 0 where
  goes : (r : Round) → IsWhole r → (writer_begun v t).begun ≡ begun.Going → (writer_begun u t).begun ≡ begun.Going
      → (writer_begun v t).writer.phase ≡ phase.InRound r → plain (writer_begun v t).writer ≡ plain (writer_begun u t).writer → BeginsAlike v u t
  stays : (writer_begun v t).begun ≢ begun.Going → (writer_begun v t).writer ≡ v → (writer_begun u t).begun ≢ begun.Going → BeginsAlike v u t

abbrev writes : WriterView → WriterView
writes w = record w { phase = phase.Writing }

log_by : (o : Option ℕ) (bodies : List (List ℕ)) (w x : WriterView) → log_limit w bodies ≡ o → x ≡ plain (writes w) → log_limit (writes w) bodies ≡ o → log_limit x bodies ≡ o
    → BeginsAlike (writes w) x (task.Log bodies)
unfolding writer_begun
log_by (Some n) bodies w x e is f g =
    let off : begun.TooLong n ≢ begun.Going = λ (h : begun.TooLong n ≡ begun.Going). absurd (cc h) in
    stays (subst (λ (o : Option ℕ). (log_begins o bodies (writes w)).begun ≢ begun.Going) (sym f) off)
    (ap (λ (o : Option ℕ). (log_begins o bodies (writes w)).writer) f)
    (subst (λ (p : Phase). (if_writing (is_writing p) (log_begins (log_limit x bodies) bodies x) x).begun ≢ begun.Going)
    (sym (ap (λ (y : WriterView). y.phase) is)) (subst (λ (o : Option ℕ). (log_begins o bodies x).begun ≢ begun.Going) (sym g) off))
log_by None bodies w x e is f g =
    goes (round.Write bodies) tt (ap (λ (o : Option ℕ). (log_begins o bodies (writes w)).begun) f)
    (ap (λ (p : Phase). (if_writing (is_writing p) (log_begins (log_limit x bodies) bodies x) x).begun) (ap (λ (y : WriterView). y.phase) is) ∙ ap (λ (o : Option ℕ). (log_begins o bodies x).begun) g)
    (ap (λ (o : Option ℕ). (log_begins o bodies (writes w)).writer.phase) f)
    (ap (λ (o : Option ℕ). plain (log_begins o bodies (writes w)).writer) f
    ∙ ap (λ (y : WriterView). plain (log_begins None bodies y).writer) (sym is)
    ∙ sym (ap (λ (p : Phase). plain (if_writing (is_writing p) (log_begins (log_limit x bodies) bodies x) x).writer)
    (ap (λ (y : WriterView). y.phase) is) ∙ ap (λ (o : Option ℕ). plain (log_begins o bodies x).writer) g))

plain_begins : (w : WriterView) (t : Task) → IsUnder t → BeginsAlike (writes w) (plain (writes w)) t
unfolding writer_begun log_limit
plain_begins w task.Takeover u = absurd u
plain_begins w (task.Log bodies) u = log_by (log_limit w bodies) bodies w (plain (writes w)) refl refl refl refl
plain_begins w task.Roll u = goes (round.Write _) tt refl refl refl refl
plain_begins w task.Close u = goes (round.Write _) tt refl refl refl refl
plain_begins w (task.Purge min) u = goes (round.Purge min) tt refl refl refl refl

writing_is : (w : WriterView) → w.phase ≡ phase.Writing → w ≡ writes w
writing_is w e = ap (λ (p : Phase). record w { phase = p }) e

plain_one : (w : WriterView) (t : Task) → IsUnder t → w.phase ≡ phase.Writing → BeginsAlike w (plain w) t
plain_one w t u e = subst (λ (x : WriterView). BeginsAlike x (plain x) t) (sym (writing_is w e)) (plain_begins w t u)

both : (v u x : WriterView) (t : Task) → BeginsAlike v x t → BeginsAlike u x t → BeginsAlike v u t
both v u x t (stays n e m) (stays k f l) = stays n e k
both v u x t (stays n e m) (goes q j c d f g) = absurd (m d)
both v u x t (goes r i a b p s) (stays n e m) = absurd (m b)
both v u x t (goes r i a b p s) (goes q j c d f g) = goes r i a c p (s ∙ sym g)

pub begun_alike : (v u : WriterView) (t : Task) → IsUnder t → v.phase ≡ phase.Writing → plain v ≡ plain u → BeginsAlike v u t
begun_alike v u t i e same =
    both v u (plain u) t (subst (λ (x : WriterView). BeginsAlike v x t) same (plain_one v t i e)) (plain_one u t i (sym (alike_phase v u same) ∙ e))

-- outside of an open segment no such task begins
abbrev pub Stays : WriterView → Began → Type 0
Stays w b = (b.begun ≢ begun.Going) × (b.writer ≡ w)

idle : (c : Bool) (b : Began) (w : WriterView) → c ≡ false → Stays w (if_writing c b w)
idle true b w e = absurd (cc e)
idle false b w e = ((λ (h : begun.NotActive ≡ begun.Going). absurd (cc h)), refl)

pub not_writing : (w : WriterView) (t : Task) → IsUnder t → is_writing w.phase ≡ false → Stays w (writer_begun w t)
unfolding writer_begun
not_writing w task.Takeover u e = absurd u
not_writing w (task.Log bodies) u e = idle (is_writing w.phase) (log_begins (log_limit w bodies) bodies w) w e
not_writing w task.Roll u e = idle (is_writing w.phase) _ w e
not_writing w task.Close u e = idle (is_writing w.phase) _ w e
not_writing w (task.Purge min) u e = idle (is_writing w.phase) _ w e
