use Rattle.std.proofs.Common.{sym, ◌∙◌}
use Rattle.std.proofs.lemmas.Bool.Decides.{not_from_Decides}
use Rattle.std.proofs.lemmas.Slice.Eq.{bytes_eq-Decides}
use Rattle.play_report.proofs.ComeLaws.{begin_otherwise}
use Rattle.play_report.proofs.expected.after.Goals as goal

pub returns-else-eq-clause-none : goal.returns-else-eq-clause-none
returns-else-eq-clause-none c =
    λ rest e.
    begin_otherwise c.args.bytes.now c.args.piece.now c.split_at.result.0.now rest c.split_at.ensures.front
    (not_from_Decides _ (bytes_eq-Decides c.split_at.result.0.now c.args.piece.now) (sym c.eq.ensures ∙ c.if-eq.false)) e
