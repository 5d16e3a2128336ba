use Rattle.std.proofs.Common.{ℕ, ◌≡◌, ◌≤◌, ◌+◌, ◌-◌, arith, refl, sym, ap, ◌∙◌, drop, length, get_or, decimal}
use Rattle.journal_text.specs.Texts.{numbers_text}
use Rattle.journal_text.proofs.PrintLaws.{decimal_short}
use Rattle.play_report.proofs.PartLaws.{spaces_first, spaces_kept, numbers_last, number_written}
use Rattle.play_report.proofs.pieces.put_few.Goals as goal

pub loop-left-init : goal.loop-left-init
loop-left-init g c = record {
  size = refl;
  few = omega arith;
  room = omega (arith, c.requires);
  end = omega arith;
  spaces = spaces_first 126;
  written = numbers_last c.args.numbers.now;
}

pub write_digits-start-requires : goal.write_digits-start-requires
write_digits-start-requires g c =
    let number = get_or c.args.numbers.now (c.loop-left.left - 1) 0 in
    let short : length (decimal number) ≤ 20 = decimal_short number (omega (arith, c.type_inv.numbers (c.loop-left.left - 1))) in
    (omega (arith, short, c.loop-left.invariant.room, c.loop-left-test.true), omega (arith, c.loop-left.invariant.size, c.loop-left.invariant.end))

pub overflow_sub-start : goal.overflow_sub-start
overflow_sub-start g c =
    let number = get_or c.args.numbers.now (c.loop-left.left - 1) 0 in
    let short : length (decimal number) ≤ 20 = decimal_short number (omega (arith, c.type_inv.numbers (c.loop-left.left - 1))) in
    omega (arith, short, c.write_digits-start.ensures.start, c.loop-left.invariant.room, c.loop-left-test.true)

pub loop-left-preserved : goal.loop-left-preserved
loop-left-preserved g c =
    let numbers = c.args.numbers.now in
    let left = c.loop-left.left in
    let inv = c.loop-left.invariant in
    let old = c.loop-left.digits in
    let new = c.write_digits-start.new.buf in
    let start = c.loop-left.start in
    let at = c.write_digits-start.result in
    let number = get_or numbers (left - 1) 0 in
    let short : length (decimal number) ≤ 20 = decimal_short number (omega (arith, c.type_inv.numbers (left - 1))) in
    let ends : at + length (decimal number) ≡ start = c.write_digits-start.ensures.start in
    let size : length new ≡ 126 = omega (arith, c.write_digits-start.auto.buf, inv.size) in
    let back : left - 1 + 1 ≡ left = omega (arith, c.loop-left-test.true) in
    record {
      size = size;
      few = omega (arith, inv.few);
      room = omega (arith, short, ends, inv.room, c.loop-left-test.true);
      end = omega (arith, ends, inv.end);
      spaces = λ k small. spaces_kept old new start at (omega (arith, ends)) c.write_digits-start.ensures.before inv.spaces k (omega (arith, small));
      written = number_written numbers old new (left - 1) number start at (omega (arith, inv.few, c.loop-left-test.true)) refl
          (omega (arith, short, ends, inv.room, c.loop-left-test.true)) (omega (arith, ends)) (omega (arith, ends, inv.end, size))
          c.write_digits-start.ensures.written c.write_digits-start.ensures.before inv.spaces
          (inv.written ∙ ap (λ (k : ℕ). numbers_text (drop k numbers)) (sym back));
    }
