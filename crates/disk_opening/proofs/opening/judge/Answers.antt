use Rattle.disk_opening.specs.declared.file_kind.FileKind.TheVariants as told
use Rattle.disk_opening.proofs.OpenJudged.{told_other}
use Rattle.disk_opening.proofs.opening.judge.Goals as goal

pub returns-in-Some-default-Record-clause-told : goal.returns-in-Some-default-Record-clause-told
returns-in-Some-default-Record-clause-told g c = λ t.
    told_other _ c.args.name.now c.in-Some-default-Record.field-0-0 _ told.Record c.as_bytes.ensures.value c.in-Some-default-Record.field-0-1-is c.in-Some-default-Record.ensures (λ holds. holds)

pub returns-in-Some-default-UnderWay-clause-told : goal.returns-in-Some-default-UnderWay-clause-told
returns-in-Some-default-UnderWay-clause-told g c = λ t.
    told_other _ c.args.name.now c.in-Some-default-UnderWay.field-0-0 _ (told.UnderWay c.in-Some-default-UnderWay.field-0-1-0)
    c.as_bytes.ensures.value c.in-Some-default-UnderWay.field-0-1-is c.in-Some-default-UnderWay.ensures (λ holds. holds)

pub returns-in-Some-default-Fresh-clause-told : goal.returns-in-Some-default-Fresh-clause-told
returns-in-Some-default-Fresh-clause-told g c = λ t.
    told_other _ c.args.name.now c.in-Some-default-Fresh.field-0-0 _ told.Fresh c.as_bytes.ensures.value c.in-Some-default-Fresh.field-0-1-is c.in-Some-default-Fresh.ensures (λ holds. holds)
