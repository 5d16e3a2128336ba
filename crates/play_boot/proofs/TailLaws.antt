-- How the tail of a bootstrap ended.
use Rattle.std.proofs.Common.{◌≡◌, ℕ, List, [], None, refl, sym}
use Rattle.journal_core.specs.declared.peer_call.PeerCall.{PeerCall}
use Rattle.play_names.specs.Tails.{pass_begun}
use Rattle.play_names.specs.declared.tailed.Tailed.TheVariants as tailed
use Rattle.play_standby.specs.Standbys.{StandbyView, held}
use Rattle.play_standby.specs.Tailing.{TailEnds}
use Rattle.play_boot.specs.Boots.{TailsTo}

module _ (nodes : ℕ) (begun : StandbyView) (before after : List PeerCall) (s : StandbyView) where
  pub caught_here : (txid : ℕ) → TailsTo nodes begun before after s (tailed.Caught txid) → TailsTo nodes begun before after s (tailed.Caught s.position)
  caught_here txid tails images =
      let x : TailEnds nodes (pass_begun None (held images begun)) images before after s (tailed.Caught txid) = tails images in
      record { end = x.end; leads = x.leads; is = (x.is.0, refl) }

  pub behind_here : (txid : ℕ) (causes : _) → TailsTo nodes begun before after s (tailed.Behind txid causes) → s.position ≡ txid
  behind_here txid causes tails =
      let x : TailEnds nodes (pass_begun None (held [] begun)) [] before after s (tailed.Behind txid causes) = tails [] in sym x.is.1
