use Rattle.std.proofs.Common.{◌≡◌, ◌-◌}
use Rattle.std.specs.Option.{option_map}
use Rattle.std.specs.List.{list_any}
use Rattle.disk_frame.specs.Frames.{is_bad_body}
use Rattle.disk_frame.specs.Reading.{entries_in}
use Rattle.disk_frame.proofs.ReadLaws.{seen_bad}
use Rattle.disk_frame.proofs.checking.any_bad_body.Given as goal

-- what was found, with the entries that are left, is what there is
abbrev pub invariant-loop : goal.invariant-loop
invariant-loop l = seen_bad l.found (entries_in (l.count - l.counter) l.rest) ≡ option_map (list_any is_bad_body) (entries_in l.count l.entries)
