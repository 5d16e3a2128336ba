use Rattle.std.proofs.Common.{refl}
use Rattle.std.specs.Fmt.{digits}
use Rattle.serde_json.proofs.OnLiterals.{serde_json_on_literals}
use Rattle.disk_frame.specs.Frames.{frame_bytes}
use Rattle.list_back.specs.Pieces.{batches}
use Rattle.list_back.proofs.worked.known_texts_are_read.Goals as goal

pub returns-clause-start : goal.returns-clause-start
unfolding serde_json_on_literals digits
returns-clause-start c = refl

pub returns-clause-turned : goal.returns-clause-turned
unfolding serde_json_on_literals
returns-clause-turned c = refl

pub returns-clause-open : goal.returns-clause-open
unfolding serde_json_on_literals
returns-clause-open c = refl

pub returns-clause-empty : goal.returns-clause-empty
unfolding serde_json_on_literals
returns-clause-empty c = refl

pub returns-clause-segment : goal.returns-clause-segment
unfolding frame_bytes batches
returns-clause-segment c = refl

pub returns-clause-nothing : goal.returns-clause-nothing
unfolding frame_bytes batches
returns-clause-nothing c = refl

pub returns-clause-point : goal.returns-clause-point
unfolding serde_json_on_literals
returns-clause-point c = λ e. cc

pub returns-clause-power : goal.returns-clause-power
unfolding serde_json_on_literals
returns-clause-power c = λ e. cc
