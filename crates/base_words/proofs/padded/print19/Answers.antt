use Rattle.std.proofs.Common.{◌≡◌, ◌+◌, ◌-◌, append-nil, refl, sym, arith, length-set}
use Rattle.base_words.specs.Padded.{padded}
use Rattle.base_words.proofs.PaddedLaws.{padded_goes_on, padded_zeros}
use Rattle.base_words.proofs.padded.print19.Goals as goal

pub loop-step-preserved : goal.loop-step-preserved
loop-step-preserved c =
    let l = c.loop-step in
    let place : 19 - (l.step + 1) ≡ 18 - l.step = omega arith in
    record {
      len = omega (arith, length-set l.out);
      text = rw place (padded_goes_on (19 - l.step) (18 - l.step) l.left _ l.out (padded 19 c.args.value) (omega arith) (omega arith) refl l.invariant.text);
      zeros = rw place (padded_zeros (19 - l.step) (18 - l.step) _ l.out (omega arith) (omega arith) l.invariant.zeros);
    }

pub returns : goal.returns
unfolding padded
returns c =
    let none_left : 19 - c.loop-step.step ≡ 0 = omega arith in
    let text = c.loop-step.invariant.text in
    sym (rw none_left at text)

pub loop-step-init : goal.loop-step-init
unfolding padded
loop-step-init c = record { len = refl; text = sym (append-nil (padded 19 c.args.value)); zeros = refl }
