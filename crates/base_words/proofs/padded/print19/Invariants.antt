use Rattle.std.proofs.Common.{◌≡◌, ◌-◌, ◌++◌, take, drop, length}
use Rattle.base_words.specs.Padded.{padded}
use Rattle.base_words.proofs.padded.print19.Given as goal

-- the digits from the back so far, before them those of what is left, and zeros stand in their
-- place
abbrev pub invariant-loop-step : goal.invariant-loop-step
invariant-loop-step l = record {
  len : length l.out ≡ 19;
  text : padded 19 l.value ≡ padded (19 - l.step) l.left ++ drop (19 - l.step) l.out;
  zeros : take (19 - l.step) l.out ≡ padded (19 - l.step) 0;
}
