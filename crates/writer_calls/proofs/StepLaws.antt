-- A plain node that is called.
use Rattle.std.proofs.Common.{◌≡◌, ℕ, ◌-◌, ◌<◌, List, length, sym, ap, ◌∙◌, Option, Some, slice_get, get_or, set}
use Rattle.std.proofs.lemmas.Grind.{common_steps}
use Rattle.journal_core.specs.declared.node_state.NodeState.{NodeState}
use Rattle.journal_core.specs.declared.request.Request.{Request}
use Rattle.journal_core.specs.declared.reply.Reply.{Reply}
use Rattle.journal_core.specs.declared.heard.Heard.TheVariants.{Answer}
use Rattle.journal_core.specs.Step.{node_step}
use Rattle.writer_calls.specs.PlainPeersView.{IsStepOf}

pub step_of : (old new : List NodeState) (node : ℕ) (r : Request) (reply : Reply) (before after : NodeState) → slice_get old (node - 1) ≡ Some before
    → node_step before r ≡ record { state = after; reply = reply } → new ≡ set old (node - 1) after → IsStepOf old node r (Answer reply) new
step_of old new node r reply before after here step e = record {
  state = before;
  here = here;
  heard_is = ap (λ x. Answer x.reply) (sym step);
  stepped = e ∙ ap (λ x. set old (node - 1) x.state) (sym step);
}
