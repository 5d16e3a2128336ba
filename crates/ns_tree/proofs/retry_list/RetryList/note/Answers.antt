use Rattle.std.proofs.Common.{◌≡◌, ◌<◌, ◌-◌, ◌^◌, ◌∙◌, sym, subst, arith, drop, length, refl}
use Rattle.std.proofs.lemmas.List.{length-set}
use Rattle.ns_tree.specs.Space.{AreRising, noted}
use Rattle.ns_tree.specs.Marks.{AreMarked, mark_of}
use Rattle.ns_tree.proofs.Noting.{rising_noted, rising_later}
use Rattle.ns_tree.proofs.Marks.{marked_noted}
use Rattle.ns_tree.proofs.retry_list.RetryList.note.Goals as goal

pub invariant_of-self : goal.invariant_of-self
invariant_of-self c =
    let list : drop c.put_last-self-inside.result c.put_last-self-inside.new.calls.items ≡ noted c.args.call c.args.txid c.args.self.now =
    c.put_last-self-inside.ensures.list ∙ rw c.self.view_is refl in
    let marked : AreMarked c.self.inside.marks.items c.args.self.now = subst (AreMarked c.self.inside.marks.items) c.self.view_is c.self.invariant.marked in
    let here : mark_of c.args.call < length c.self.inside.marks.items = rw (← c.mark_of.ensures.mark, c.self.invariant.marks) c.mark_of.ensures.bound in
    record {
      gone = c.put_last-self-inside.ensures.gone;
      few = c.put_last-self-inside.ensures.few;
      room = c.put_last-self-inside.ensures.room;
      rising = subst (AreRising 0 (2 ^ 64 - 1)) (sym list) (rising_later 0 c.args.txid (2 ^ 64 - 1) (noted c.args.call c.args.txid c.args.self.now)
          (omega (arith, c.ranges.txid.fits)) (rising_noted c.args.call c.args.txid c.args.self.now c.requires.positive c.requires.later));
      marks = length-set c.self.inside.marks.items c.mark_of.result c.args.txid ∙ c.self.invariant.marks;
      marked = rw (list, c.mark_of.ensures.mark) (marked_noted c.self.inside.marks.items c.args.call c.args.txid c.args.self.now here marked c.requires.later);
    }
