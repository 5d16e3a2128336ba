use Rattle.std.proofs.Common.{◌≡◌, ◌++◌, drop}
use Rattle.std.specs.List.{flat_map}
use Rattle.writer_core.proofs.pieces.Pieces.share.Given as goal

-- what is joined, and the pieces to come
abbrev pub invariant-loop-piece : goal.invariant-loop-piece
invariant-loop-piece l = l.all ++ flat_map (λ l. l) (drop l.piece-index l.piece-items) ≡ l.self.bodies
