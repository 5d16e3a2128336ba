use Rattle.std.proofs.Common.{◌≡◌, ℕ, ◌+◌, ◌-◌, ◌/◌, ◌%◌, ◌≤◌, List, ◌∷◌, ◌++◌, length, set, drop, false, sym, ap, ◌∙◌, length-set, arith, rules}
use Rattle.std.specs.Fmt.{digits}
use Rattle.std.proofs.lemmas.List.{drop-set}
use Rattle.base_words.proofs.Bases.{digits_push, first_digit, room_left}
use Rattle.base_words.proofs.digits.put_digits.Goals as goal

-- a digit that is written at a place stands before the rest
written_at : (buffer : List ℕ) (at x : ℕ) → 1 ≤ at → at ≤ length buffer → drop (at - 1) (set buffer (at - 1) x) ≡ x ∷ drop at buffer
written_at buffer at x some within = drop-set buffer (at - 1) x (omega arith) ∙ ap (λ (k : ℕ). x ∷ drop k buffer) (omega arith)

pub loop-left-preserved : goal.loop-left-preserved
loop-left-preserved c =
    let l = c.loop-left in
    let base : ℕ = c.args.base in
    let room = room_left c.args.base c.requires.low c.requires.high l.left l.at c.loop-left-test.true l.invariant.room in
    record {
      len = omega (arith, length-set l.buffer, l.invariant.len);
      within = omega (arith, l.invariant.within);
      some = omega (arith, room.0);
      room = room.1;
      text = l.invariant.text ∙ digits_push c.args.base c.requires.low c.requires.high l.left (drop l.at l.buffer) c.loop-left-test.true (omega arith)
          ∙ ap (λ (r : List ℕ). digits c.args.base false (l.left / c.args.base) ++ r)
          (sym (written_at l.buffer l.at (48 + l.left % c.args.base) l.invariant.some (omega (arith, l.invariant.within, l.invariant.len))));
    }

pub returns-clause-ok : goal.returns-clause-ok
returns-clause-ok c =
    let l = c.loop-left in
    let text : digits c.args.base false c.args.value ≡ drop (l.at - 1) (set l.buffer (l.at - 1) (48 + l.left)) = l.invariant.text
    ∙ first_digit c.args.base c.requires.low c.requires.high l.left (drop l.at l.buffer) c.loop-left-test.false
    ∙ sym (written_at l.buffer l.at (48 + l.left) l.invariant.some (omega (arith, l.invariant.within, l.invariant.len))) in
    rw text (search rules)
