use Rattle.disk_opening.specs.declared.file_kind.FileKind.TheVariants as told
use Rattle.disk_opening.proofs.OpenJudged.{told_idle, told_not_idle}
use Rattle.disk_opening.proofs.opening.is_idle.Goals as goal

pub returns-in-Some-default-Record : goal.returns-in-Some-default-Record
returns-in-Some-default-Record c =
    told_idle _ c.args.name.now c.in-Some-default-Record.start _ c.args.table.now c.is_free.result c.as_bytes.ensures.value
    c.in-Some-default-Record.field-0-1-is c.in-Some-default-Record.ensures c.is_free.ensures

pub returns-in-Some-default-InProgress : goal.returns-in-Some-default-InProgress
returns-in-Some-default-InProgress c =
    told_not_idle _ c.args.name.now c.in-Some-default-InProgress.field-0-0 _ told.InProgress c.args.table.now c.as_bytes.ensures.value
    c.in-Some-default-InProgress.field-0-1-is c.in-Some-default-InProgress.ensures (λ same. absurd (cc))

pub returns-in-Some-default-Final : goal.returns-in-Some-default-Final
returns-in-Some-default-Final c =
    told_not_idle _ c.args.name.now c.in-Some-default-Final.field-0-0 _ (told.Final c.in-Some-default-Final.field-0-1-0) c.args.table.now
    c.as_bytes.ensures.value c.in-Some-default-Final.field-0-1-is c.in-Some-default-Final.ensures (λ same. absurd (cc))

pub returns-in-Some-default-UnderWay : goal.returns-in-Some-default-UnderWay
returns-in-Some-default-UnderWay c =
    told_not_idle _ c.args.name.now c.in-Some-default-UnderWay.field-0-0 _ (told.UnderWay c.in-Some-default-UnderWay.field-0-1-0) c.args.table.now
    c.as_bytes.ensures.value c.in-Some-default-UnderWay.field-0-1-is c.in-Some-default-UnderWay.ensures (λ same. absurd (cc))

pub returns-in-Some-default-Fresh : goal.returns-in-Some-default-Fresh
returns-in-Some-default-Fresh c =
    told_not_idle _ c.args.name.now c.in-Some-default-Fresh.field-0-0 _ told.Fresh c.args.table.now c.as_bytes.ensures.value
    c.in-Some-default-Fresh.field-0-1-is c.in-Some-default-Fresh.ensures (λ same. absurd (cc))
