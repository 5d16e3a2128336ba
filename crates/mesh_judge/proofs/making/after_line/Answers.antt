use Rattle.std.proofs.Common.{sym, ap, ◌∙◌, subst}
use Rattle.journal_history.specs.Listed.{shown_record}
use Rattle.mesh_judge.specs.Leading.{stands_of, Follows}
use Rattle.mesh_judge.proofs.Following.{follows_outcome}
use Rattle.mesh_judge.proofs.making.after_line.Goals as goal

pub returns-in-Outcome : goal.returns-in-Outcome
returns-in-Outcome c =
    subst (λ line. Follows c.args.nodes (stands_of c.args.candidates.items) line (stands_of c.args.candidates.items)) (sym (sym c.lend.ensures ∙ ap shown_record c.in-Outcome.is))
    (follows_outcome c.args.nodes c.in-Outcome.text.now (stands_of c.args.candidates.items) c.requires.live)
