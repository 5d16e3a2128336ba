use Rattle.std.proofs.Common.{◌≡◌, ◌≤◌, ℕ, ◌-◌, List, [], ◌∷◌, ◌++◌, Option, length, get_or, set, refl, sym, subst, arith}
use Rattle.std.proofs.lemmas.Option.{slice_get_read}
use Rattle.journal_core.specs.declared.heard.Heard.TheVariants.{Answer}
use Rattle.journal_core.specs.declared.node_state.NodeState.{NodeState}
use Rattle.journal_core.specs.declared.peer_call.PeerCall.{PeerCall}
use Rattle.journal_core.specs.declared.reply.Reply.{Reply}
use Rattle.journal_core.specs.declared.request.Request.{Request}
use Rattle.writer_calls.specs.Directs.{DirectView, IsActed, AreCalled}
use Rattle.writer_calls.specs.DirectLaws.{called_one}
use Rattle.writer_calls.proofs.direct.DirectPeers.call.Goals as goal

abbrev as_view : {N : Type 0} → List N → List PeerCall → DirectView N
as_view nodes calls = record { nodes = nodes; calls = calls }

one_called : {N : Type 0} (state : N → Option NodeState) (steady : N → Type 0) (old : DirectView N) (nodes : List N) (calls listed : List PeerCall) (node : ℕ) (r : Request) (reply : Reply)
    (before after : N) → as_view nodes calls ≡ old → 1 ≤ node → node ≤ length old.nodes → before ≡ get_or nodes (node - 1) before → IsActed state steady before r reply after
    → listed ≡ calls ++ record { node = node; request = r; heard = Answer reply } ∷ [] → AreCalled state steady old (as_view (set nodes (node - 1) after) listed)
one_called {N} state steady old nodes calls listed node r reply before after view low high is acted made =
    let last : node ≤ length nodes = subst (λ (p : DirectView N). node ≤ length p.nodes) (sym view) high in
    subst (λ (p : DirectView N). AreCalled state steady p (as_view (set nodes (node - 1) after) listed)) view
    (called_one state steady (as_view nodes calls) (as_view (set nodes (node - 1) after) listed) node r reply before after
    (slice_get_read nodes (length nodes) (node - 1) before refl (omega (arith, low, last)) is) acted refl made)

pub returns-clause-called : goal.returns-clause-called
returns-clause-called g c =
    let made : c.push.new.self.items ≡ c.self.inside.calls.items ++ record { node = c.args.node; request = c.args.request; heard = Answer c.in_ok-reply.reply } ∷ [] =
    cc (c.in_ok-push.ensures.items, c.in_ok-reserve.ensures.items, c.in_ok-listed.ensures) in
    one_called g.N.Node.state g.N.Node.steady c.args.self.now c.self.inside.nodes.items c.self.inside.calls.items c.push.new.self.items c.args.node c.args.request c.in_ok-reply.reply
    c.index_mut.result.now c.answer.new.node c.self.view_is c.requires.first c.requires.last c.index_mut.ensures.value c.in_ok-reply.ensures.acted made
