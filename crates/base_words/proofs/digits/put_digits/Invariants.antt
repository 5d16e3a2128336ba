use Rattle.std.proofs.Common.{◌≡◌, ◌≤◌, ◌<◌, ◌^◌, ◌++◌, drop, length, false}
use Rattle.std.specs.Fmt.{digits}
use Rattle.base_words.proofs.digits.put_digits.Given as goal

-- the digits from the back so far, before them those of what is left
abbrev pub invariant-loop-left : goal.invariant-loop-left
invariant-loop-left l = record {
  len : length l.buffer ≡ 64;
  within : l.at ≤ 64;
  some : 1 ≤ l.at;
  room : l.left < 2 ^ l.at;
  text : digits l.base false l.value ≡ digits l.base false l.left ++ drop l.at l.buffer;
}

abbrev pub decreases-loop-left : goal.decreases-loop-left
decreases-loop-left l = l.left
