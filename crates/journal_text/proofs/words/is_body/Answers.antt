use Rattle.std.proofs.Common.{◌≡◌, ◌<◌, ◌≤◌, ◌/◌, length, arith, is_some, ap}
use Rattle.std.proofs.lemmas.Bool.Decides.{nat_tests}
use Rattle.std.proofs.lemmas.List.{length-take, nil_from_length}
use Rattle.journal_text.proofs.BodyLaws.{no_word, too_long, hex_judges}
use Rattle.journal_text.proofs.words.is_body.Goals as goal
use Rattle.journal_text.proofs.words.is_body.Goals.{then-is_empty-via-then-is_empty, then-is_empty-via-else-is_empty+then-word}

pub returns-then-is_empty : goal.returns-then-is_empty
returns-then-is_empty c = elim c.then-is_empty.branch [
  | then-is_empty-via-then-is_empty w ↦
      let none : length c.args.word.now ≡ 0 = grind (arith, nat_tests, c.is_empty.ensures, w.if-is_empty.true) in
      ap is_some (no_word c.args.word.now (nil_from_length c.args.word.now none))
  | then-is_empty-via-else-is_empty+then-word w ↦
      let long : 8192 < length c.args.word.now = grind (arith, nat_tests, w.if-word.true) in
      ap is_some (too_long c.args.word.now long)
]

pub returns : goal.returns
returns c =
    let some : 0 < length c.args.word.now = grind (arith, nat_tests, c.is_empty.ensures, c.if-is_empty.false) in
    let short : length c.args.word.now ≤ 8192 = grind (arith, nat_tests, c.if-word.false) in
    hex_judges c.args.word.now _ c.read_hex.result c.read_hex.ensures (omega (arith, short, length-take (length c.args.word.now / 2) c.read_hex.new.bytes)) some
