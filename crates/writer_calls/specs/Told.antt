-- What nodes tell of their final segments, call by call.
use Rattle.std.specs.Prelude.{ℕ, ◌==◌, ◌+◌, ◌&&◌, Bool, not, nat_le, List, [], ◌∷◌, map, filter, count_by}
use Rattle.std.specs.List.{flat_map}
use Rattle.journal_core.specs.declared.heard.Heard.{Heard}
use Rattle.journal_core.specs.declared.heard.Heard.TheVariants.{Answer}
use Rattle.journal_core.specs.declared.peer_call.PeerCall.{PeerCall}
use Rattle.journal_core.specs.declared.reply.Reply.TheVariants as reply
use Rattle.journal_core.specs.declared.request.Request.{Request}
use Rattle.journal_core.specs.declared.request.Request.TheVariants.{Manifest}
use Rattle.journal_core.specs.declared.segment_line.SegmentLine.{SegmentLine}
use Rattle.writer_core.specs.declared.cause.Cause.{Cause}
use Rattle.writer_core.specs.declared.cause.Cause.TheVariants as cause
use Rattle.writer_calls.specs.declared.told.NodeTold.{NodeTold}
use Rattle.writer_calls.specs.declared.told.ToldLine.{ToldLine}

-- a line that counts as told: a final one whose start isn't 0 nor above its end
abbrev pub counts : SegmentLine → Bool
counts line = line.is_final && (not (line.start == 0) && nat_le line.start line.end)

-- the lines that were heard of a manifest
abbrev pub lines_heard : Heard → List SegmentLine
lines_heard (Answer (reply.Segments lines)) = lines
lines_heard _ = []

abbrev pub manifest_cause : Heard → Cause
manifest_cause (Answer (reply.Segments lines)) = cause.Ok
manifest_cause (Answer (reply.Refused refusal)) = cause.Refused refusal
manifest_cause _ = cause.Silent

-- what came of the manifest call
abbrev pub node_told : Heard → NodeTold
node_told heard = record { cause = manifest_cause heard; lines = count_by counts (lines_heard heard) }

-- the lines of a node, of which those that count are told
abbrev pub lines_of_node : ℕ → List SegmentLine → List ToldLine
lines_of_node node lines = map (λ line. record { node = node; line = line }) (filter counts lines)

-- ## Calls
-- of a call that asks for a manifest; others tell nothing
abbrev pub lines_in_call : ℕ → Request → Heard → List ToldLine
lines_in_call node Manifest heard = lines_of_node node (lines_heard heard)
lines_in_call node _ heard = []

-- the final lines that these calls told
abbrev pub lines_told : List PeerCall → List ToldLine
lines_told calls = flat_map (λ c. lines_in_call c.node c.request c.heard) calls

abbrev pub told_in_call : ℕ → Request → Heard → List (ℕ × NodeTold)
told_in_call node Manifest heard = (node, node_told heard) ∷ []
told_in_call node _ heard = []

-- which nodes were asked for a manifest by these calls, and what came of it
abbrev pub nodes_told : List PeerCall → List (ℕ × NodeTold)
nodes_told calls = flat_map (λ c. told_in_call c.node c.request c.heard) calls

-- the nodes of that number and the next ones
abbrev pub numbered : ℕ → List NodeTold → List (ℕ × NodeTold)
numbered node [] = []
numbered node (told ∷ rest) = (node, told) ∷ numbered (node + 1) rest
