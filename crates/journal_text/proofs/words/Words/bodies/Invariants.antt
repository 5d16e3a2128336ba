use Rattle.std.proofs.Common.{◌≡◌, ◌+◌, ◌==◌, is_some, true, false, length}
use Rattle.journal_text.specs.Reading.{bodies_in}
use Rattle.base_words.proofs.HexLaws.{prepend}
use Rattle.journal_text.proofs.words.Words.bodies.Given as goal

-- the bodies so far, and those of the rest, which are bodies once one was copied
abbrev pub invariant-loop-word : goal.invariant-loop-word
invariant-loop-word l = record {
  read : prepend l.list (bodies_in l.self) ≡ bodies_in l.fn.self;
  count : length l.list + length l.self ≡ length l.fn.self;
  judged : (length l.list == 0) ≡ false → is_some (bodies_in l.self) ≡ true;
}

abbrev pub decreases-loop-word : goal.decreases-loop-word
decreases-loop-word l = length l.self
