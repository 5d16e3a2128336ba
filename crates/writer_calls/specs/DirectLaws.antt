-- Calls at nodes that are called directly, one after the other.
use Rattle.std.proofs.Common.{◌≡◌, ℕ, ◌-◌, List, [], ◌∷◌, ◌++◌, Option, Some, slice_get, set, refl, sym, ap, ◌∙◌, subst, append_assoc, append-nil}
use Rattle.journal_core.specs.declared.heard.Heard.TheVariants.{Answer}
use Rattle.journal_core.specs.declared.node_state.NodeState.{NodeState}
use Rattle.journal_core.specs.declared.peer_call.PeerCall.{PeerCall}
use Rattle.journal_core.specs.declared.reply.Reply.{Reply}
use Rattle.journal_core.specs.declared.request.Request.{Request}
use Rattle.writer_calls.specs.Directs.{DirectView, IsActed, CallsGo, AreCalled}

go_on : {N : Type 0} (state : N → Option NodeState) (steady : N → Type 0) (xs ys : List PeerCall) (old mid new : List N)
    → CallsGo state steady xs old mid → CallsGo state steady ys mid new → CallsGo state steady (xs ++ ys) old new
unfolding CallsGo
go_on {N} state steady [] ys old mid new g h = subst (λ (ns : List N). CallsGo state steady ys ns new) g h
go_on state steady (x ∷ xs) ys old mid new g h = (g.0, g.1, go_on state steady xs ys g.0 mid new g.2 h)

pub called_none : {N : Type 0} (state : N → Option NodeState) (steady : N → Type 0) (p : DirectView N) → AreCalled state steady p p
unfolding CallsGo
called_none state steady p = record { made = []; listed = sym (append-nil p.calls); went = refl }

pub called_on : {N : Type 0} (state : N → Option NodeState) (steady : N → Type 0) (p q r : DirectView N)
    → AreCalled state steady p q → AreCalled state steady q r → AreCalled state steady p r
called_on state steady p q r a b =
    record {
      made = a.made ++ b.made;
      listed = b.listed ∙ ap (λ (cs : List PeerCall). cs ++ b.made) a.listed ∙ append_assoc p.calls a.made b.made;
      went = go_on state steady a.made b.made p.nodes q.nodes r.nodes a.went b.went;
    }

-- one call
pub called_one : {N : Type 0} (state : N → Option NodeState) (steady : N → Type 0) (p q : DirectView N) (node : ℕ) (r : Request) (reply : Reply) (before after : N)
    → slice_get p.nodes (node - 1) ≡ Some before → IsActed state steady before r reply after → q.nodes ≡ set p.nodes (node - 1) after
    → q.calls ≡ p.calls ++ record { node = node; request = r; heard = Answer reply } ∷ [] → AreCalled state steady p q
unfolding CallsGo
called_one state steady p q node r reply before after here acted left listed =
    record {
      made = record { node = node; request = r; heard = Answer reply } ∷ [];
      listed = listed;
      went = (q.nodes, record { before = before; after = after; reply = reply; here = here; heard_is = refl; acted = acted; left = left }, refl);
    }
