use Rattle.std.proofs.Common.{◌≡◌, ◌+◌, ◌-◌, ◌≤◌, List, length, ap, ◌∙◌, arith, rules}
use Rattle.std.proofs.lemmas.Fn.{filter_same}
use Rattle.journal_core.specs.declared.segment.Segment.{Segment}
use Rattle.writer_calls.specs.Fetching.{HasBody}
use Rattle.writer_calls.proofs.SyncLaws.{is_missing, is_synced, since_mirrored}
use Rattle.writer_calls.proofs.mirror.Mirror.sync.Goals as goal

pub returns-in_err-heard-clause-mirrored : goal.returns-in_err-heard-clause-mirrored
returns-in_err-heard-clause-mirrored g c =
    λ log agree m. since_mirrored (HasBody 1 log) (g.P.Peers.calls c.args.peers.now) (g.P.Peers.calls c.pass.new.peers) c.args.self.now c.pass.new.self c.in_err-heard.ensures.begun agree m

begun_count : (old new before after : List Segment) → before ≡ old → after ≡ new → length old ≤ length new → length new ≡ length old + (length after - length before)
begun_count old new before after e f grows =
    let was : length before ≡ length old = ap (λ (gs : List Segment). length gs) e in
    let is : length after ≡ length new = ap (λ (gs : List Segment). length gs) f in
    omega (arith, was, is, grows)

pub returns-clause-synced : goal.returns-clause-synced
returns-clause-synced g c =
    let taken = c.in_ok-heard.ensures.taken in
    let passes = taken.passes in
    let takes = passes.takes in
    is_synced (g.P.Peers.nodes c.args.peers.now) (g.P.Peers.calls c.args.peers.now) (g.P.Peers.calls c.pass.new.peers) c.args.self.now c.pass.new.self c.in_ok-heard.field-0.stopped.items _
    taken c.in_ok-heard.ensures.all (filter_same _ (is_missing c.pass.new.self) _ (λ x b f k. search rules) _ _ c.retain.ensures.filtered)
    (begun_count c.args.self.now c.pass.new.self c.as_slice-before.result.now c.as_slice.result.now (c.as_slice-before.ensures.segments ∙ c.self.view_is)
    (c.as_slice.ensures.segments ∙ c.self-2.view_is) takes.grows)

pub returns-clause-mirrored : goal.returns-clause-mirrored
returns-clause-mirrored g c =
    let taken = c.in_ok-heard.ensures.taken in
    λ log agree m. since_mirrored (HasBody 1 log) (g.P.Peers.calls c.args.peers.now) (g.P.Peers.calls c.pass.new.peers) c.args.self.now c.pass.new.self taken.passes agree m
