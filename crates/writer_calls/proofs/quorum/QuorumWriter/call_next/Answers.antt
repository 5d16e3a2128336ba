use Rattle.std.proofs.Common.{◌≡◌, ◌≤◌, subst, arith, Some}
use Rattle.writer_core.specs.Views.{WriterView}
use Rattle.writer_core.specs.Writer.{next_call}
use Rattle.writer_calls.specs.Led.{nodes_of}
use Rattle.writer_calls.specs.Ready.{IsReady}
use Rattle.writer_calls.proofs.Going.{within, named, unnamed, heard_next}
use Rattle.writer_calls.proofs.quorum.QuorumWriter.call_next.Goals as goal

pub unreachable-requires : goal.unreachable-requires
unreachable-requires g c =
    unnamed c.args.self.now c.next.new.self.view c.self.inside.writer.view c.in_ok-node.field-0 c.self.view_is c.next.ensures.unchanged
    c.self.invariant c.requires.under_way c.in_ok-node.ensures.call c.in_default.is

pub call-requires-clause-last : goal.call-requires-clause-last
call-requires-clause-last g c =
    let now = c.args.self.now in
    let next = named now c.next.new.self.view c.self.inside.writer.view c.in_ok-node.field-0 c.in-Some.node c.in-Some.request c.self.view_is
    c.next.ensures.unchanged c.in_ok-node.ensures.call c.in-Some.is in
    let ready : IsReady now = subst (λ (w : WriterView). IsReady w) c.self.view_is c.self.invariant in
    let h = within now c.in-Some.node c.in-Some.request ready.live next in
    let most : c.in-Some.node ≤ nodes_of now = h.1 in
    omega (arith, most, c.requires.nodes)

pub invariant_of-self-2 : goal.invariant_of-self-2
invariant_of-self-2 g c =
    (heard_next c.args.self.now c.next.new.self.view c.self.inside.writer.view c.hear.new.self.view c.hear.result c.in-Some.node c.in_ok-heard.heard
    c.self.view_is c.self.invariant c.requires.under_way
    c.next.ensures.unchanged c.hear.ensures.heard).ready

pub returns-clause-turn : goal.returns-clause-turn
returns-clause-turn g c =
    (heard_next c.args.self.now c.next.new.self.view c.self.inside.writer.view c.hear.new.self.view c.hear.result c.in-Some.node c.in_ok-heard.heard
    c.self.view_is c.self.invariant c.requires.under_way
    c.next.ensures.unchanged c.hear.ensures.heard).turn

pub returns-clause-aim : goal.returns-clause-aim
returns-clause-aim g c =
    (heard_next c.args.self.now c.next.new.self.view c.self.inside.writer.view c.hear.new.self.view c.hear.result c.in-Some.node c.in_ok-heard.heard
    c.self.view_is c.self.invariant c.requires.under_way
    c.next.ensures.unchanged c.hear.ensures.heard).aim

pub returns-clause-nodes : goal.returns-clause-nodes
returns-clause-nodes g c =
    (heard_next c.args.self.now c.next.new.self.view c.self.inside.writer.view c.hear.new.self.view c.hear.result c.in-Some.node c.in_ok-heard.heard
    c.self.view_is c.self.invariant c.requires.under_way
    c.next.ensures.unchanged c.hear.ensures.heard).nodes
