use Rattle.play_model.proofs.Final.{play_agrees}
use Rattle.play_model.proofs.Sound.{has_nodes}
use Rattle.play_model.specs.Lines.{lines_of}
use Rattle.play_model.proofs.laws.a_play_agrees.Goals as goal

pub returns : goal.returns
returns c = record {
  lines = λ b n lines p some can h. play_agrees b n lines p some can h;
  script = λ s p can h. play_agrees s.named s.nodes (lines_of s) p (has_nodes s.named s.nodes can.nodes) can.lines h;
}
