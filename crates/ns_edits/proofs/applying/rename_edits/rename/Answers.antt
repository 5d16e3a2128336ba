use Rattle.std.proofs.Common.{refl}
use Rattle.ns_edits.proofs.AdmittedRenames.{rename_moves}
use Rattle.ns_edits.proofs.applying.rename_edits.rename.Goals as goal

pub rename-requires-clause-parent : goal.rename-requires-clause-parent
rename-requires-clause-parent c = (rename_moves c.args.src.now c.args.dst.now c.args.overwrite c.args.ns.now c.show_invariant.ensures c.requires.admitted).parent

pub rename-requires-clause-empty : goal.rename-requires-clause-empty
rename-requires-clause-empty c = λ _. (rename_moves c.args.src.now c.args.dst.now c.args.overwrite c.args.ns.now c.show_invariant.ensures c.requires.admitted).empty

pub returns-clause-ok : goal.returns-clause-ok
returns-clause-ok c = rw (c.raise_mtime-2.ensures, c.raise_mtime.ensures, c.in_ok-rename.ensures.ok, c.parent.ensures, c.parent-2.ensures) refl
