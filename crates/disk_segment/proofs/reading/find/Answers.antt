use Rattle.std.proofs.Common.{◌≡◌, ◌∙◌, length, ◌==◌, true, sym, arith}
use Rattle.std.proofs.lemmas.Bool.Decides.{nat_tests}
use Rattle.disk_segment.proofs.ReadLemmas.{ends_elsewhere, ends_before}
use Rattle.disk_segment.proofs.reading.find.Goals as goal

pub returns-then-segment-file : goal.returns-then-segment-file
returns-then-segment-file c = λ bytes is. ends_elsewhere c.args.segment.now.start c.args.segment.now.end c.args.segment.now.is_final c.args.from bytes
    c.args.file is c.if-segment.true c.if-segment-file.true

pub returns-then-is_empty : goal.returns-then-is_empty
returns-then-is_empty c = λ bytes is.
    let told : (length c.args.file.scan.bodies == 0) ≡ true = sym c.is_empty.ensures ∙ c.if-is_empty.true in
    let none : length c.args.file.scan.bodies ≡ 0 = grind (arith, nat_tests, told) in
    ends_before c.args.segment.now.start c.args.segment.now.end c.args.segment.now.is_final c.args.from bytes c.args.file is c.requires.start none
