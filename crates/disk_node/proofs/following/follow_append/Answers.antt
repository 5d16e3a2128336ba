use Rattle.std.proofs.Common.{◌≡◌, ◌≤◌, false, length, sym, ap, subst, ◌∙◌}
use Rattle.std.specs.Prelude.{nat_lt}
use Rattle.std.specs.List.{list_any}
use Rattle.journal_core.specs.Views.{BatchView, last_txid}
use Rattle.journal_core.specs.Limits.{max_body, max_number}
use Rattle.journal_core.specs.Segments.{find_segment}
use Rattle.journal_core.specs.Effects.{appended}
use Rattle.disk_effects.specs.Due.{batch_of}
use Rattle.disk_effects.proofs.ApplyLaws.{last_within}
use Rattle.disk_recent.specs.Recent.{IsRecent}
use Rattle.disk_recent.proofs.Following.{appended_to}
use Rattle.disk_node.proofs.Followed.{short_bodies, none_appended}
use Rattle.disk_node.proofs.following.follow_append.Goals as goal

pub append-requires-clause-short : goal.append-requires-clause-short
append-requires-clause-short c = subst (λ (b : BatchView). list_any (λ body. nat_lt max_body (length body)) b.bodies ≡ false)
    (sym c.in-Some.ensures.batch) (short_bodies c.args.request.now c.requires.limits)

pub append-requires-clause-last : goal.append-requires-clause-last
append-requires-clause-last c = subst (λ (b : BatchView). last_txid b ≤ max_number) (sym c.in-Some.ensures.batch) (last_within c.args.request.now c.requires.limits)

pub returns-in-Some-clause-held : goal.returns-in-Some-clause-held
returns-in-Some-clause-held c = λ gs rows at due held.
    subst (λ (b : BatchView). IsRecent c.append.new.self (appended b.bodies (find_segment c.args.start gs) gs)) c.in-Some.ensures.batch
    (appended_to c.args.recent.now c.append.new.self gs c.args.start c.in-Some.batch.now.first c.in-Some.batch.now.bodies due.segment due.known
    (ap (λ (b : BatchView). b.first) c.in-Some.ensures.batch ∙ due.next)
    c.append.ensures.start c.append.ensures.same c.append.ensures.held held)

pub returns-in_default-clause-held : goal.returns-in_default-clause-held
returns-in_default-clause-held c = λ gs rows at due held.
    none_appended c.args.recent.now gs c.args.start (batch_of c.args.request.now).first due.segment (batch_of c.args.request.now).bodies
    (ap (λ (b : BatchView). b.bodies) c.in_default.ensures.batch) due.known due.next held
