use Rattle.std.proofs.Common.{◌≡◌, ◌+◌, take}
use Rattle.disk_recent.specs.Places.{put_at}
use Rattle.disk_recent.proofs.raw.RawBytes.write_all.Given as goal

abbrev pub invariant-loop-byte : goal.invariant-loop-byte
invariant-loop-byte l = record {
  reached : l.place ≡ l.at + l.byte-index;
  same : l.self.at ≡ l.initial.self.at;
  written : l.self.places ≡ put_at l.initial.self.places l.at (take l.byte-index l.bytes);
}
