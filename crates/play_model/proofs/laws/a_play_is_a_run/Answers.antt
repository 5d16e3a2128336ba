use Rattle.play_model.proofs.Final.{play_runs, play_in_order}
use Rattle.play_model.proofs.Sound.{has_nodes}
use Rattle.play_model.specs.Lines.{lines_of}
use Rattle.play_model.proofs.laws.a_play_is_a_run.Goals as goal

pub returns : goal.returns
returns c = record {
  lines = λ b n lines p some can h. play_runs b n lines p some can h;
  nodes = λ b n lines p some can h i below. play_in_order b n lines p some can h i below;
  script = λ s p can h. play_runs s.named s.nodes (lines_of s) p (has_nodes s.named s.nodes can.nodes) can.lines h;
}
