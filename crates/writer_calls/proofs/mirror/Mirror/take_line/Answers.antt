use Rattle.std.proofs.Common.{◌≡◌, ◌≤◌, ℕ, ◌+◌, List, Ok, length, sym, ap, ◌∙◌, subst, arith}
use Rattle.journal_core.specs.Segments.{put_segment, AreRising, AreSound}
use Rattle.journal_core.specs.declared.peer_call.PeerCall.{PeerCall}
use Rattle.journal_core.specs.declared.segment.Segment.{Segment}
use Rattle.journal_core.specs.declared.segment_line.SegmentLine.{SegmentLine}
use Rattle.journal_core.proofs.PlaceLaws.{put_sound}
use Rattle.writer_core.specs.declared.cause.Cause.{Cause}
use Rattle.writer_calls.specs.declared.fetching.Fetched.{Fetched}
use Rattle.writer_calls.specs.declared.fetching.Fetched.TheVariants.{Whole, Stopped}
use Rattle.writer_calls.specs.Fetching.{HasStopped, HasWhole, IsFetched}
use Rattle.writer_calls.proofs.Holding.{held_as}
use Rattle.writer_calls.proofs.Taking.{taken_held, taken_whole, taken_stopped}
use Rattle.writer_calls.proofs.mirror.Mirror.take_line.Goals as goal

abbrev Fetches : ℕ → ℕ → ℕ → List PeerCall → List PeerCall → Fetched → Type 0
Fetches node start end before after f = IsFetched node start end before after (Ok f)

whole_of : (node start end : ℕ) (before after : List PeerCall) (f : Fetched) (bodies : List (List ℕ)) → f ≡ Whole bodies → Fetches node start end before after f
    → HasWhole node start end before after bodies
whole_of node start end before after f bodies is h = subst (λ (x : Fetched). Fetches node start end before after x) is h

stopped_of : (node start end : ℕ) (before after : List PeerCall) (f : Fetched) (cause : Cause) → f ≡ Stopped cause → Fetches node start end before after f
    → HasStopped node start end before after cause
stopped_of node start end before after f cause is h = subst (λ (x : Fetched). Fetches node start end before after x) is h

put_whole : (l : SegmentLine) (node : ℕ) (before after : List PeerCall) (bodies : List (List ℕ)) (gs new : List Segment) → HasWhole node l.start l.end before after bodies → AreSound gs
    → new ≡ put_segment (held_as l bodies) gs → AreSound new
put_whole l node before after bodies gs new h sound is =
    let top : l.end ≤ 4611686018427387904 = h.within in
    let within : l.start + length bodies ≤ 4611686018427387905 = omega (arith, h.whole, top) in
    subst (λ (xs : List Segment). AreSound xs) (sym is) (put_sound (held_as l bodies) gs within sound)

pub returns-then-holds-clause-taken : goal.returns-then-holds-clause-taken
returns-then-holds-clause-taken g c =
    taken_held c.args.told (g.P.Peers.calls c.args.peers.now) c.args.self.now (subst (λ (gs : List Segment). AreRising gs) c.self.view_is c.self.invariant.rising)
    (sym c.holds.ensures ∙ c.if-holds.true)

pub invariant_of-self-in-Whole : goal.invariant_of-self-in-Whole
invariant_of-self-in-Whole g c =
    put_whole c.args.told.line c.args.told.node (g.P.Peers.calls c.args.peers.now) (g.P.Peers.calls c.fetch.new.peers) c.in-Whole.bodies c.self.inside.segments c.put.new.self
    (whole_of c.args.told.node c.args.told.line.start c.args.told.line.end (g.P.Peers.calls c.args.peers.now) (g.P.Peers.calls c.fetch.new.peers) c.in_ok-bodies.field-0 c.in-Whole.bodies
    c.in-Whole.is c.in_ok-bodies.ensures.fetched)
    c.self.invariant c.in_ok-put-in-Whole.ensures.ok

pub returns-in_ok-put-in-Whole-clause-taken : goal.returns-in_ok-put-in-Whole-clause-taken
returns-in_ok-put-in-Whole-clause-taken g c =
    taken_whole c.args.told (g.P.Peers.calls c.args.peers.now) (g.P.Peers.calls c.fetch.new.peers) c.args.self.now c.put.new.self c.in-Whole.bodies c.requires.counts
    (sym c.holds.ensures ∙ c.if-holds.false)
    (whole_of c.args.told.node c.args.told.line.start c.args.told.line.end (g.P.Peers.calls c.args.peers.now) (g.P.Peers.calls c.fetch.new.peers) c.in_ok-bodies.field-0 c.in-Whole.bodies
    c.in-Whole.is c.in_ok-bodies.ensures.fetched)
    (c.in_ok-put-in-Whole.ensures.ok ∙ ap (λ (gs : List Segment). put_segment (held_as c.args.told.line c.in-Whole.bodies) gs) c.self.view_is)

pub returns-in-Stopped-clause-taken : goal.returns-in-Stopped-clause-taken
returns-in-Stopped-clause-taken g c =
    taken_stopped c.args.told (g.P.Peers.calls c.args.peers.now) (g.P.Peers.calls c.fetch.new.peers) c.args.self.now c.in-Stopped.cause
    (stopped_of c.args.told.node c.args.told.line.start c.args.told.line.end (g.P.Peers.calls c.args.peers.now) (g.P.Peers.calls c.fetch.new.peers) c.in_ok-bodies.field-0 c.in-Stopped.cause
    c.in-Stopped.is c.in_ok-bodies.ensures.fetched)
