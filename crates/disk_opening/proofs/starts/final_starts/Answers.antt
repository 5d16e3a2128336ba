use Rattle.std.proofs.Common.{List, ℕ, ap, subst}
use Rattle.std.specs.Prelude.{map, string_bytes}
use Rattle.disk_opening.specs.Completing.{AreStartsIn}
use Rattle.disk_opening.proofs.StartLemmas.{are_finals}
use Rattle.disk_opening.proofs.starts.final_starts.Goals as goal

pub returns-clause-starts : goal.returns-clause-starts
returns-clause-starts g c = λ t.
    are_finals (map string_bytes c.in_ok-names.names.items) c.in_ok-starts_in.field-0.items (g.D.DiskModel.view c.args.disk.now).seen (c.in_ok-names.ensures.names t)
    (subst (λ (l : List (List ℕ)). AreStartsIn l c.in_ok-starts_in.field-0.items) (ap (map string_bytes) c.deref.ensures.value) c.in_ok-starts_in.ensures)
