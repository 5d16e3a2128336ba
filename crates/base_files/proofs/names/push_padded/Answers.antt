use Rattle.std.proofs.Common.{sym, subst}
use Rattle.std.specs.Prelude.{IsAscii}
use Rattle.std.proofs.lemmas.Fmt.{IsAscii-from_digits}
use Rattle.std.proofs.lemmas.Str.{IsUtf8-from_ascii}
use Rattle.base_words.specs.Padded.{padded}
use Rattle.base_words.proofs.PaddedLaws.{padded_digits}
use Rattle.base_files.proofs.names.push_padded.Goals as goal

pub unreachable-requires : goal.unreachable-requires
unreachable-requires c =
    let ascii : IsAscii c.print19.new.out = subst IsAscii (sym c.print19.ensures) (IsAscii-from_digits (padded 19 c.args.value) (padded_digits 19 c.args.value)) in
    c.in-Err.ensures.cases.0 (IsUtf8-from_ascii c.print19.new.out ascii)
