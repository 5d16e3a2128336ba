use Rattle.std.proofs.Common.{refl}
use Rattle.ns_edits.proofs.AdmittedRenames.{rename_old_moves}
use Rattle.ns_edits.proofs.applying.rename_edits.rename_old.Goals as goal

pub rename-requires-clause-path : goal.rename-requires-clause-path
rename-requires-clause-path c = rw (c.as_slice.ensures.value, c.target_of-target.ensures)
    (rename_old_moves c.args.src.now c.args.dst.now c.args.ns.now c.show_invariant.ensures c.requires.admitted).path

pub rename-requires-clause-apart : goal.rename-requires-clause-apart
rename-requires-clause-apart c = rw (c.as_slice.ensures.value, c.target_of-target.ensures)
    (rename_old_moves c.args.src.now c.args.dst.now c.args.ns.now c.show_invariant.ensures c.requires.admitted).apart

pub rename-requires-clause-parent : goal.rename-requires-clause-parent
rename-requires-clause-parent c = rw (c.as_slice.ensures.value, c.target_of-target.ensures)
    (rename_old_moves c.args.src.now c.args.dst.now c.args.ns.now c.show_invariant.ensures c.requires.admitted).parent

pub returns-clause-ok : goal.returns-clause-ok
returns-clause-ok c =
    rw (
      c.raise_mtime-2.ensures,
      c.raise_mtime.ensures,
      c.in_ok-rename.ensures.ok,
      c.parent.ensures,
      c.parent-2.ensures,
      c.as_slice.ensures.value,
      c.as_slice-2.ensures.value,
      c.target_of-target.ensures,
    ) refl
