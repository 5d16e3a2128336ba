use Rattle.std.proofs.Common.{◌≡◌, ◌≤◌, ◌*◌, drop, length}
use Rattle.journal_text.specs.Texts.{numbers_text}
use Rattle.play_report.proofs.PartLaws.{AreSpaces}
use Rattle.play_report.proofs.pieces.put_few.Given as goal

-- the text of those that were written is at the end, and spaces are before it, with room for the others
abbrev pub invariant-loop-left : goal.invariant-loop-left
invariant-loop-left g l = record {
  size : length l.digits ≡ 126;
  few : l.left ≤ length l.numbers;
  room : 21 * l.left ≤ l.start;
  end : l.start ≤ 126;
  spaces : AreSpaces l.start l.digits;
  written : drop l.start l.digits ≡ numbers_text (drop l.left l.numbers);
}

abbrev pub decreases-loop-left : goal.decreases-loop-left
decreases-loop-left g l = l.left
