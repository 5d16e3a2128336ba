use Rattle.std.proofs.Common.{arith, sym, ◌++◌, ◌≡◌, take-append-drop}
use Rattle.std.proofs.lemmas.Bool.Decides.{nat_tests}
use Rattle.base_words.proofs.AppendLaws.{Keeps-on}
use Rattle.base_words.proofs.HexLaws.{hex_step, hex_end}
use Rattle.base_words.proofs.hex.put_hex.Goals as goal

pub returns-in_err-put-clause-kept : goal.returns-in_err-put-clause-kept
returns-in_err-put-clause-kept c = Keeps-on c.args.out.now.items c.loop-rest.out.items c.put.new.out.items c.loop-rest.invariant.1 c.put.ensures.kept

pub loop-rest-preserved : goal.loop-rest-preserved
loop-rest-preserved c =
    let front = c.split_at.result.0.now in
    let back = c.split_at.result.1.now in
    let whole : c.loop-rest.rest.now ≡ front ++ back = rw (c.split_at.ensures.front, c.split_at.ensures.back) (sym (take-append-drop _ c.loop-rest.rest.now)) in (
      hex_step c.args.out.now.items c.loop-rest.out.items c.put.new.out.items c.loop-rest.rest.now front back _ c.args.bytes.now
          c.loop-rest.invariant.0 whole c.hex_digits-digits.ensures c.in_ok-put.ensures.ok,
      Keeps-on c.args.out.now.items c.loop-rest.out.items c.put.new.out.items c.loop-rest.invariant.1 c.put.ensures.kept,
    )

pub returns-clause-ok : goal.returns-clause-ok
returns-clause-ok c = hex_end c.args.out.now.items c.loop-rest.out.items c.loop-rest.rest.now c.args.bytes.now c.loop-rest.invariant.0 (grind (arith, nat_tests, c.loop-rest-test.ensures))

pub returns-clause-kept : goal.returns-clause-kept
returns-clause-kept c = c.loop-rest.invariant.1
