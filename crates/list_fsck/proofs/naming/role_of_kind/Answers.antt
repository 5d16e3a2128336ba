use Rattle.std.proofs.Common.{subst, ap}
use Rattle.disk_segment.specs.Names.{Kind}
use Rattle.disk_opening.specs.Kinds.{IsNamed, kind_told}
use Rattle.list_fsck.specs.Roles.{fresh, under_way}
use Rattle.list_fsck.proofs.naming.role_of_kind.Goals as goal

pub returns-in-UnderWay : goal.returns-in-UnderWay
returns-in-UnderWay c = λ name named. under_way c.args.start c.in-UnderWay.epoch (subst (λ (k : Kind). IsNamed name c.args.start k) (ap kind_told c.in-UnderWay.is) named)

pub returns-in-Fresh : goal.returns-in-Fresh
returns-in-Fresh c = λ name named. fresh c.args.start (subst (λ (k : Kind). IsNamed name c.args.start k) (ap kind_told c.in-Fresh.is) named)
