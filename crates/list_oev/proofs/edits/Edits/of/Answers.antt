use Rattle.std.proofs.Common.{refl}
use Rattle.list_oev.specs.Places.{between}
use Rattle.list_oev.proofs.PlaceLaws.{fresh}
use Rattle.list_oev.proofs.edits.Edits.of.Goals as goal

pub returns : goal.returns
returns c = record {
  start = c.in_ok-header.header.start;
  at = between (fresh c.args.bytes.now c.in_ok-header.header.start c.in_ok-header.header.epoch _ c.in_ok-header.ensures refl refl refl refl refl);
  same = refl;
}
