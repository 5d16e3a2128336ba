use Rattle.std.proofs.Common.{◌≡◌, ◌<◌, ◌^◌, ◌-◌, List, [], length, get_or, false, subst}
use Rattle.std.specs.Prelude.{nat_le}
use Rattle.ns_tree.specs.declared.inode.Noted.{Noted}
use Rattle.ns_tree.specs.Space.{AreRising}
use Rattle.ns_tree.specs.Marks.{AreMarked, mark_of}
use Rattle.ns_tree.proofs.Marks.{none_marked}
use Rattle.ns_tree.proofs.retry_list.RetryList.may_have.Goals as goal

pub returns : goal.returns
returns c later =
    let marked : AreMarked c.self.inside.marks.items c.args.self.now = subst (AreMarked c.self.inside.marks.items) c.self.view_is c.self.invariant.marked in
    let rising : AreRising 0 (2 ^ 64 - 1) c.args.self.now = subst (AreRising 0 (2 ^ 64 - 1)) c.self.view_is c.self.invariant.rising in
    let here : mark_of c.args.call.now < length c.self.inside.marks.items = rw (← c.mark_of.ensures.mark, c.self.invariant.marks) c.mark_of.ensures.bound in
    let first : Noted = record { call = record { client = []; number = 0 }; txid = 0 } in
    let before : nat_le (get_or c.args.self.now 0 first).txid c.index.result.now ≡ false =
    subst (λ (ns : List Noted). nat_le (get_or ns 0 first).txid c.index.result.now ≡ false) c.as_slice-calls.ensures later in
    none_marked c.args.call.now c.self.inside.marks.items c.index.result.now (2 ^ 64 - 1) c.args.self.now first marked rising here (rw (← c.mark_of.ensures.mark) c.index.ensures) before
