use Rattle.disk_segment.specs.Names.{progress}
use Rattle.disk_opening.specs.Kinds.{kind_told}
use Rattle.disk_opening.proofs.KindsLemmas.{not_front, no_number, no_kind, is_named}
use Rattle.disk_opening.proofs.kinds.progress_named.Goals as goal

pub returns-in-Some-progress_kind : goal.returns-in-Some-progress_kind
returns-in-Some-progress_kind c = is_named progress c.args.name.now c.in-Some.rest.now c.in-Some.ensures c.in-Some-number_of.start
    c.in-Some-number_of.tail.now c.in-Some-number_of.ensures (kind_told c.in-Some-progress_kind.kind) c.in-Some-progress_kind.ensures

pub returns-in-None-progress_kind : goal.returns-in-None-progress_kind
returns-in-None-progress_kind c start kind is same =
    no_kind progress c.args.name.now c.in-Some.rest.now c.in-Some.ensures c.in-Some-number_of.start c.in-Some-number_of.tail.now
    c.in-Some-number_of.ensures start kind (λ rest. c.in-None-progress_kind.ensures kind rest) is same

pub returns-in-None-number_of : goal.returns-in-None-number_of
returns-in-None-number_of c start kind is same = no_number progress c.args.name.now c.in-Some.rest.now c.in-Some.ensures c.in-None-number_of.ensures start kind is same

pub returns-in-None : goal.returns-in-None
returns-in-None c start kind is same = not_front progress c.args.name.now c.in-None.ensures start kind is same
