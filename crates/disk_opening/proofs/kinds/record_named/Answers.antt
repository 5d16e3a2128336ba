use Rattle.disk_segment.specs.Names.{record_}
use Rattle.disk_opening.specs.Kinds.{kind_told}
use Rattle.disk_opening.proofs.KindsLemmas.{not_front, no_number, no_kind, is_named}
use Rattle.disk_opening.proofs.kinds.record_named.Goals as goal

pub returns-in-Some-record_kind : goal.returns-in-Some-record_kind
returns-in-Some-record_kind c = is_named record_ c.args.name.now c.in-Some.rest.now c.in-Some.ensures c.in-Some-number_of.start
    c.in-Some-number_of.tail.now c.in-Some-number_of.ensures (kind_told c.in-Some-record_kind.kind) c.in-Some-record_kind.ensures

pub returns-in-None-record_kind : goal.returns-in-None-record_kind
returns-in-None-record_kind c start kind told is same =
    no_kind record_ c.args.name.now c.in-Some.rest.now c.in-Some.ensures c.in-Some-number_of.start c.in-Some-number_of.tail.now
    c.in-Some-number_of.ensures start kind (λ rest. c.in-None-record_kind.ensures kind told rest) is same

pub returns-in-None-number_of : goal.returns-in-None-number_of
returns-in-None-number_of c start kind told is same = no_number record_ c.args.name.now c.in-Some.rest.now c.in-Some.ensures c.in-None-number_of.ensures start kind is same

pub returns-in-None : goal.returns-in-None
returns-in-None c start kind told is same = not_front record_ c.args.name.now c.in-None.ensures start kind is same
