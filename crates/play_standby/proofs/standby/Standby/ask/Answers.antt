use Rattle.std.proofs.Common.{◌≡◌, ℕ, ◌+◌, ◌++◌, ◌∷◌, [], List, length, ap, ◌∙◌, arith}
use Rattle.std.proofs.lemmas.Result.{IfOk-weaker, on_err_weaker}
use Rattle.journal_core.specs.declared.request.Request.TheVariants.{Read}
use Rattle.journal_core.specs.declared.peer_call.PeerCall.{PeerCall}
use Rattle.ns_edits.specs.Replay.{Image}
use Rattle.play_names.specs.Tails.{TailStep, GoesOn, tail_hears}
use Rattle.play_standby.specs.declared.step.Step.{Step}
use Rattle.play_standby.specs.Standbys.{held}
use Rattle.play_standby.specs.Reads.{LeadsTail}
use Rattle.play_standby.specs.Tailing.{begin_asking, IsStep, StandsAt}
use Rattle.play_standby.proofs.StepLaws.{err_of, stops_silent, stops_within, stands_more}
use Rattle.play_standby.proofs.standby.Standby.ask.Goals as goal

pub returns-in_err-heard-clause-err : goal.returns-in_err-heard-clause-err
returns-in_err-heard-clause-err g c =
    err_of c.from_residual.result
    (λ images begun before l.
    stops_silent (g.P.Peers.nodes c.args.peers.now) begun images before (g.P.Peers.calls c.args.peers.now) (g.P.Peers.calls c.read_next.new.peers)
    c.args.until c.args.told.now.items c.args.self.now l c.in_err-heard.ensures.listed)

pub returns-clause-ok : goal.returns-clause-ok
returns-clause-ok g c =
    let nodes : ℕ = g.P.Peers.nodes c.args.peers.now in
    let here : ℕ = c.nodes.result in
    let same : here ≡ nodes = c.nodes.ensures ∙ c.read_next.ensures.nodes in
    let size : c.len.result ≡ length c.args.told.now.items = omega (arith, c.len.ensures) in
    let listed : g.P.Peers.calls c.read_next.new.peers ≡ g.P.Peers.calls c.args.peers.now ++
    record { node = length c.args.told.now.items + 1; request = Read (c.args.self.now.position + 1); heard = c.in_ok-heard.heard } ∷ [] =
    c.in_ok-heard.ensures.listed ∙ ap (λ (k : ℕ). g.P.Peers.calls c.args.peers.now ++ record { node = k + 1; request = Read (c.args.self.now.position + 1); heard = c.in_ok-heard.heard } ∷ []) size in
    IfOk-weaker c.hear.result
    (λ (t : Step). (images : List Image) → IsStep (tail_hears here c.args.until (length c.args.told.now.items + 1) c.args.told.now.items
    c.in_ok-heard.heard (begin_asking c.args.until c.args.told.now.items (held images c.args.self.now))) c.args.until c.hear.new.told.items images
    c.hear.new.self t)
    (λ (t : Step). (images : List Image) (begun : TailStep) (before : List PeerCall)
    → LeadsTail nodes begun before (g.P.Peers.calls c.args.peers.now)
    (GoesOn (begin_asking c.args.until c.args.told.now.items (held images c.args.self.now)))
    → StandsAt nodes begun before (g.P.Peers.calls c.read_next.new.peers) c.args.until c.hear.new.told.items images c.hear.new.self t)
    (λ t f images begun before l.
    stands_more nodes begun images before (g.P.Peers.calls c.args.peers.now) (g.P.Peers.calls c.read_next.new.peers) c.args.until
    c.args.told.now.items c.hear.new.told.items c.args.self.now c.hear.new.self c.in_ok-heard.heard t listed
    (rw (← same) (f images)) l)
    c.hear.ensures.ok

pub returns-clause-err : goal.returns-clause-err
returns-clause-err g c =
    let size : c.len.result ≡ length c.args.told.now.items = omega (arith, c.len.ensures) in
    let listed : g.P.Peers.calls c.read_next.new.peers ≡ g.P.Peers.calls c.args.peers.now ++
    record { node = length c.args.told.now.items + 1; request = Read (c.args.self.now.position + 1); heard = c.in_ok-heard.heard } ∷ [] =
    c.in_ok-heard.ensures.listed ∙ ap (λ (k : ℕ). g.P.Peers.calls c.args.peers.now ++ record { node = k + 1; request = Read (c.args.self.now.position + 1); heard = c.in_ok-heard.heard } ∷ []) size in
    on_err_weaker c.hear.result
    (λ p images begun before l.
    stops_within (g.P.Peers.nodes c.args.peers.now) begun images before (g.P.Peers.calls c.args.peers.now) (g.P.Peers.calls c.read_next.new.peers)
    c.args.until c.args.told.now.items c.args.self.now c.hear.new.self c.in_ok-heard.heard listed p l)
    c.hear.ensures.err
