use Rattle.std.proofs.Common.{◌≡◌, ◌-◌, ◌∙◌, sym, refl, arith, true, false, set}
use Rattle.std.specs.List.{list_any}
use Rattle.writer_core.specs.declared.slot.Slot.TheVariants.{Told}
use Rattle.writer_core.specs.Answers.{is_waiting}
use Rattle.writer_core.proofs.Waiting.{past_set, any_place}
use Rattle.writer_core.proofs.Judging.{place_is}
use Rattle.writer_core.proofs.writer.Writer.hear_answer.Goals as goal

pub next_waiting-self-inside-requires : goal.next_waiting-self-inside-requires
next_waiting-self-inside-requires c =
    let p = place_is is_waiting c.self.inside.slots.items (c.args.node - 1) (rw (← c.self.view_is) at c.requires.place) in
    let h = past_set is_waiting c.self.inside.slots.items (c.args.node - 1) (Told c.args.heard) p.0 p.1 refl in
    rw c.deref.ensures.value (omega (arith, h))

pub returns-then-is_some : goal.returns-then-is_some
returns-then-is_some c =
    let n = rw c.deref.ensures.value at c.next_waiting-self-inside.ensures in
    let a : list_any is_waiting (set c.self.inside.slots.items (c.args.node - 1) (Told c.args.heard)) ≡ true =
    any_place is_waiting (set c.self.inside.slots.items (c.args.node - 1) (Told c.args.heard)) ∙ (rw (← n) (sym c.is_some.ensures ∙ c.if-is_some.true)) in
    rw (← c.self.view_is) (rw a refl)

pub returns-else-is_some : goal.returns-else-is_some
returns-else-is_some c =
    let n = rw c.deref.ensures.value at c.next_waiting-self-inside.ensures in
    let a : list_any is_waiting (set c.self.inside.slots.items (c.args.node - 1) (Told c.args.heard)) ≡ false =
    any_place is_waiting (set c.self.inside.slots.items (c.args.node - 1) (Told c.args.heard)) ∙ (rw (← n) (sym c.is_some.ensures ∙ c.if-is_some.false)) in
    rw (← c.self.view_is) (rw a c.judge.ensures)
