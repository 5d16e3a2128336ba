-- The longest report.
use Rattle.std.specs.Prelude.{ℕ}

abbrev pub longest_report : ℕ
longest_report = 268435456
