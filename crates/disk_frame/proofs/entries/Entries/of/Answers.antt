use Rattle.std.proofs.Common.{◌+◌, ◌-◌, take, ap, length, ◌∙◌, arith}
use Rattle.std.proofs.lemmas.List.{length-drop}
use Rattle.disk_frame.proofs.ReadLaws.{placed, cursor_of, cursor_view}
use Rattle.disk_frame.proofs.entries.Entries.of.Goals as goal

pub overflow_add-at : goal.overflow_add-at
overflow_add-at c = let p = placed c.args.bytes.now c.args.at c.args.first c.args.count c.args.length c.requires in omega (arith, p.there, p.head)

pub split_at-requires : goal.split_at-requires
split_at-requires c = let p = placed c.args.bytes.now c.args.at c.args.first c.args.count c.args.length c.requires in omega (arith, p.there, p.head)

pub overflow_sub-length : goal.overflow_sub-length
overflow_sub-length c = let p = placed c.args.bytes.now c.args.at c.args.first c.args.count c.args.length c.requires in omega (arith, p.head)

pub split_at-requires-2 : goal.split_at-requires-2
split_at-requires-2 c =
    let p = placed c.args.bytes.now c.args.at c.args.first c.args.count c.args.length c.requires in
    omega (arith, p.there, p.head, ap length c.split_at.ensures.back, length-drop (c.args.at + 17) c.args.bytes.now)

pub invariant_of-result : goal.invariant_of-result
invariant_of-result c =
    cursor_of c.args.bytes.now c.split_at-2.result.0.now c.args.at c.args.first c.args.count c.args.length c.requires
    (c.split_at-2.ensures.front ∙ ap (take (c.args.length - 17)) c.split_at.ensures.back) (omega arith)

pub returns : goal.returns
returns c b spells =
    cursor_view c.args.bytes.now c.split_at-2.result.0.now c.args.at c.args.first c.args.count c.args.length b c.requires
    (c.split_at-2.ensures.front ∙ ap (take (c.args.length - 17)) c.split_at.ensures.back) spells
