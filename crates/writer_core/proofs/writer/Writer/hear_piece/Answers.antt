use Rattle.std.proofs.Common.{◌≡◌, ◌∙◌, sym, refl}
use Rattle.writer_core.specs.declared.round.Round.TheVariants as round
use Rattle.writer_core.specs.Current.{round_in}
use Rattle.writer_core.proofs.Judging.{piece_unfit, piece_lost}
use Rattle.writer_core.proofs.writer.Writer.hear_piece.Goals as goal

pub returns-else-piece_fits : goal.returns-else-piece_fits
returns-else-piece_fits c =
    let a = c.in-Round-Fetch in
    let w = c.args.self.now.view in
    let fetch = rw a.is at a.field-0-is in
    let is : round_in w.phase ≡ round.Fetch a.node a.start a.field-0-2 c.self.inside.pieces.bodies =
    rw (← c.self.view_is) (rw a.is (rw fetch refl)) in
    piece_unfit a.node a.start a.field-0-2 c.self.inside.pieces.bodies (round_in w.phase) c.args.heard c.in-Ok.batch w is
    (sym c.edits_heard.ensures ∙ c.in-Ok.is) (sym c.piece_fits.ensures ∙ c.if-piece_fits.false)
    ∙ c.lose_node.ensures

pub returns-in-Err : goal.returns-in-Err
returns-in-Err c =
    let a = c.in-Round-Fetch in
    let w = c.args.self.now.view in
    let fetch = rw a.is at a.field-0-is in
    let is : round_in w.phase ≡ round.Fetch a.node a.start a.field-0-2 c.self.inside.pieces.bodies =
    rw (← c.self.view_is) (rw a.is (rw fetch refl)) in
    piece_lost a.node a.start a.field-0-2 c.self.inside.pieces.bodies (round_in w.phase) c.args.heard c.in-Err.heard w is
    (sym c.edits_heard.ensures ∙ c.in-Err.is)
    ∙ c.lose_node-in-Err.ensures
