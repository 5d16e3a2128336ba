-- What a caller's thread leaves.
use Rattle.std.proofs.Common.{◌≡◌, ℕ, ◌==◌, Bool, List, Option, [], true, sym, ap, ◌∙◌, subst}
use Rattle.atomic_table.specs.Seated.{TableId}
use Rattle.journal_history.specs.declared.record.Record.{Record}
use Rattle.journal_history.specs.declared.mark.Mark.{Mark}
use Rattle.mesh.specs.Marks.{IsMarked, AreCopied}
use Rattle.mesh.specs.Matches.{AreWithin}
use Rattle.play_calls.specs.Logs.{LogView}
use Rattle.play_threads.specs.Seated.{Seat, AreSeated}
use Rattle.ns_tree.specs.declared.end.LastSpace.{LastSpace}
use Rattle.play_model.specs.Lines.{Line}
use Rattle.play_threads.specs.Threads.{DoesLines}
use Rattle.play_threads.specs.Gathered.{CallerLeaves}

module _ (named : Bool) (n operator caller : ℕ) (lines : List Line) (tables : List TableId) (seats : List Seat) (rs : List Record) (plan : List Mark)
    (space : Option LastSpace) (last : LogView) where
  pub leaves : last.whole ≡ true → last.nodes ≡ n → AreSeated caller tables last seats → rs ≡ last.past → plan ≡ last.marks
      → (last.whole ≡ true → IsMarked last.marks [] last.past) → (last.whole ≡ true → AreCopied last.marks last.past) → (last.whole ≡ true → AreWithin last.nodes last.past)
      → DoesLines named (caller == operator) n caller lines last space → CallerLeaves named n operator caller lines tables seats rs plan space
  leaves whole nodes h e f marked copied within does = record {
    does = (last, whole, nodes, sym e, sym f, h, does);
    marked = subst (λ x. IsMarked plan [] x) (sym e) (subst (λ y. IsMarked y [] last.past) (sym f) (marked whole));
    copied = subst (λ x. AreCopied plan x) (sym e) (subst (λ y. AreCopied y last.past) (sym f) (copied whole));
    within = subst (λ x. AreWithin n x) (sym e) (subst (λ k. AreWithin k last.past) nodes (within whole));
  }
