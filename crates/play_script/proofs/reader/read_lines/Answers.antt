use Rattle.std.proofs.Common.{◌≡◌, ◌<◌, sym, subst, length, arith}
use Rattle.std.proofs.lemmas.Bool.{false≢true}
use Rattle.std.proofs.lemmas.Bool.Decides.{nat_tests}
use Rattle.std.proofs.lemmas.Result.{err_from_is_err_and}
use Rattle.std.proofs.lemmas.List.{nil_from_length}
use Rattle.play_script.specs.Views.{ReadingView}
use Rattle.play_script.specs.Reading.{IsBehind}
use Rattle.play_script.proofs.ReadLaws.{after_start, behind_more, behind_open, after_broken, after_nothing, after_all, after_wants}
use Rattle.play_script.proofs.MemoryLaws.{first_was_right}
use Rattle.play_script.proofs.reader.read_lines.Goals as goal

pub loop-rest-init : goal.loop-rest-init
loop-rest-init c =
    let P : ReadingView → Type 0 = λ r. IsBehind c.args.bytes.now 0 r c.args.bytes.now in
    subst P (sym c.empty-reading.ensures) (after_start c.args.bytes.now)

pub returns-in_default-clause-fault : goal.returns-in_default-clause-fault
returns-in_default-clause-fault c =
    let some : 0 < length c.loop-rest.rest.now = grind (arith, nat_tests) in
    behind_open c.args.bytes.now c.loop-rest.count c.loop-rest.reading c.loop-rest.rest.now c.loop-rest.invariant c.in_default.ensures.none some

pub returns-in-Some-2-clause-fault : goal.returns-in-Some-2-clause-fault
returns-in-Some-2-clause-fault c =
    after_broken c.args.bytes.now c.loop-rest.count c.loop-rest.reading c.loop-rest.rest.now c.in-Some.line.now c.in-Some.others.now c.in-Some-2.rule
    c.loop-rest.invariant c.in-Some.ensures.spelled c.in-Some.ensures.first (rw c.in-Some-2.is at c.in_ok-rule.ensures.broken)

pub loop-rest-preserved : goal.loop-rest-preserved
loop-rest-preserved c =
    behind_more c.args.bytes.now c.loop-rest.count c.loop-rest.reading c.loop-rest.rest.now c.in-Some.line.now c.in-Some.others.now c.take_line.new.self
    c.loop-rest.invariant c.in-Some.ensures.spelled c.in-Some.ensures.first c.in-Some.ensures.shorter (rw c.in_default-2.is at c.in_ok-rule.ensures.taken)

pub returns-in-Some-script-clause-script : goal.returns-in-Some-script-clause-script
returns-in-Some-script-clause-script c =
    let none : length c.loop-rest.rest.now ≡ 0 = grind (arith, nat_tests) in
    after_all c.args.bytes.now c.loop-rest.count c.loop-rest.reading c.loop-rest.rest.now c.in-Some-script.script
    c.loop-rest.invariant (nil_from_length c.loop-rest.rest.now none) c.in-Some-script.ensures

pub returns-in-None-clause-fault : goal.returns-in-None-clause-fault
returns-in-None-clause-fault c =
    let none : length c.loop-rest.rest.now ≡ 0 = grind (arith, nat_tests) in
    after_nothing c.args.bytes.now c.loop-rest.count c.loop-rest.reading c.loop-rest.rest.now
    c.loop-rest.invariant (nil_from_length c.loop-rest.rest.now none) c.in-None.ensures

pub returns-in_err-rule-clause-first : goal.returns-in_err-rule-clause-first
returns-in_err-rule-clause-first c =
    let p = err_from_is_err_and c.from_residual.result c.from_residual.ensures.1 in
    rw p.1 (λ line e. first_was_right c.args.bytes.now c.loop-rest.count line c.loop-rest.reading c.loop-rest.rest.now c.loop-rest.invariant (λ n. false≢true (c.in_err-rule.ensures.first n)) e)

pub returns-in_err-rule-clause-memory : goal.returns-in_err-rule-clause-memory
returns-in_err-rule-clause-memory c =
    let p = err_from_is_err_and c.from_residual.result c.from_residual.ensures.1 in
    rw p.1 (after_wants c.args.bytes.now c.loop-rest.count c.loop-rest.reading c.loop-rest.rest.now c.in-Some.line.now c.in-Some.others.now
    c.loop-rest.invariant c.in-Some.ensures.spelled c.in-Some.ensures.first
    (λ n. false≢true (c.in_err-rule.ensures.first n)) (λ n. false≢true (c.in_err-rule.ensures.silent n)) c.in_err-rule.ensures.memory)
