use Rattle.std.proofs.Common.{ap, subst, ◌∙◌, List, ℕ, ◌+◌, ◌++◌}
use Rattle.list_fsck.specs.Roles.{HasRole}
use Rattle.list_fsck.specs.Reports.{line_of}
use Rattle.list_fsck.proofs.checking.check_one.Goals as goal

pub returns-clause-adds : goal.returns-clause-adds
returns-clause-adds g c = record {
  role = c.role_of-role.result;
  named = subst (λ (n : List ℕ). HasRole n c.role_of-role.result) c.as_bytes.ensures.value c.role_of-role.ensures;
  found = c.in_ok-found.found;
  verdict = λ t. c.in_ok-found.ensures.found t;
  text = c.in_ok-put_line.ensures ∙ ap (λ (n : List ℕ). c.args.so_far.now.text.items ++ line_of n c.in_ok-found.found) c.as_bytes-2.ensures.value;
  findings = ap (λ (n : ℕ). c.args.so_far.now.findings + n) c.one_if.ensures;
  before = c.end_after-so_far.ensures;
}
