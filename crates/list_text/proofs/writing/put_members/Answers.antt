use Rattle.std.proofs.Common.{List, ℕ, subst, sym}
use Rattle.list_text.specs.declared.member.Member.{Member}
use Rattle.list_text.specs.Values.{IsAsciiMember}
use Rattle.list_text.specs.Shown.{shown}
use Rattle.list_text.proofs.Ascii.{each_at}
use Rattle.list_text.proofs.writing.put_members.Goals as goal

pub put_member-requires : goal.put_member-requires
put_member-requires c =
    subst (λ (m : Member). IsAsciiMember (shown m)) (sym c.member-item.is) (each_at IsAsciiMember shown c.args.members.now c.loop-member.member-index _ c.requires c.loop-member-test.true)
