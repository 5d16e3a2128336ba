use Rattle.std.proofs.Common.{◌∙◌}
use Rattle.ns_store.proofs.DigestLaws.{digits_alone, line_cases}
use Rattle.ns_store.proofs.stored.is_spelled.Goals as goal

pub returns-then-file-eq32 : goal.returns-then-file-eq32
returns-then-file-eq32 c = digits_alone c.args.names.now c.args.file.now c.args.digest.now c.requires c.if-file-eq32.true

pub returns : goal.returns
returns c = line_cases c.args.names.now c.args.file.now c.args.digest.now c.requires c.as_bytes.result.now c.eq.result c.eq.ensures
    (c.as_bytes.ensures.value ∙ c.in_ok-line.ensures) c.if-file-eq32.false
