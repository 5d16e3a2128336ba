use Rattle.std.proofs.Common.{◌≡◌, ◌++◌, take, map}
use Rattle.std.specs.List.{flat_map}
use Rattle.list_text.specs.Values.{member_tokens}
use Rattle.list_text.specs.Shown.{shown}
use Rattle.list_text.proofs.writing.put_members.Given as goal

-- the members so far are added
abbrev pub invariant-loop-member : goal.invariant-loop-member
invariant-loop-member l = (l.writer.tokens ≡ l.fn.writer.tokens ++ flat_map member_tokens (map shown (take l.member-index l.members))) × (l.writer.before ≡ l.fn.writer.before)
