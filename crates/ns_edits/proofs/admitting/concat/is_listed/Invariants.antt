use Rattle.std.proofs.Common.{◌≡◌, drop}
use Rattle.std.specs.List.{list_any}
use Rattle.ns_tree.specs.Path.{same_text}
use Rattle.ns_edits.proofs.admitting.concat.is_listed.Given as goal

abbrev pub invariant-loop-other : goal.invariant-loop-other
invariant-loop-other l = list_any (same_text l.path) l.paths ≡ list_any (same_text l.path) (drop l.other-index l.paths)
