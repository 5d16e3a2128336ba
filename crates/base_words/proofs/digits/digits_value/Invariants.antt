use Rattle.std.proofs.Common.{◌≡◌, ◌<◌, ◌^◌, take}
use Rattle.std.specs.Str.Parse.{AllDigits, digits_value as value_of}
use Rattle.base_words.proofs.digits.digits_value.Given as goal

-- the bytes so far are digits, and this is their value
abbrev pub invariant-loop-byte : goal.invariant-loop-byte
invariant-loop-byte l = record {
  digits : AllDigits l.base (take l.byte-index l.bytes);
  value : l.value ≡ value_of l.base (take l.byte-index l.bytes);
  fits : l.value < 2 ^ 64;
}
