use Rattle.std.proofs.Common.{◌≡◌, drop}
use Rattle.ns_edits.specs.Admit.{bad_paths}
use Rattle.ns_edits.proofs.admitting.concat.check_paths.Given as goal

abbrev pub invariant-loop-path : goal.invariant-loop-path
invariant-loop-path l = bad_paths l.paths ≡ bad_paths (drop l.path-index l.paths)
