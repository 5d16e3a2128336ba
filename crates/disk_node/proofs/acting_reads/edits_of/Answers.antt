use Rattle.disk_node.proofs.ActingReads.{line_serves, given_piece, given_bad, told_edits}
use Rattle.disk_segment.specs.Names.{name_of, kind_of}
use Rattle.std.proofs.Common.{arith, ap, ◌∙◌, ◌-◌, ◌≡◌, List, ℕ, drop, take}
use Rattle.journal_core.specs.Views.{BatchView}
use Rattle.journal_core.proofs.SegmentLists.{find-start}
use Rattle.disk_recent.proofs.Reading.{held_piece}
use Rattle.disk_node.proofs.acting_reads.edits_of.Goals as goal

pub returns-in-Edits-clause-edits : goal.returns-in-Edits-clause-edits
returns-in-Edits-clause-edits g c = λ t gs segment ready sound held one known is.
    let line = c.args.line.now in
    let file = (g.D.DiskModel.view c.args.disk.now).seen (name_of line.start (kind_of line.end line.is_final)) in
    told_edits line.start c.args.from c.args.most segment gs c.in-Edits.batch _ sound known c.requires.start (omega (arith, c.requires.end, c.requires.end_within))
    (given_piece line.start line.end line.is_final c.args.from file segment.bodies c.in-Edits.batch
    (line_serves (g.D.DiskModel.view c.args.disk.now) (g.met.D.Disk.sound _ t) gs segment line c.args.from ready one known is c.requires.start c.requires.end c.requires.end_within)
    (c.in-Edits.ensures.given t))
    c.in_ok-read-in-Edits.ensures.edits

pub returns-in-BadFile-clause-edits : goal.returns-in-BadFile-clause-edits
returns-in-BadFile-clause-edits g c = λ t gs segment ready sound held one known is.
    let line = c.args.line.now in
    let file = (g.D.DiskModel.view c.args.disk.now).seen (name_of line.start (kind_of line.end line.is_final)) in
    absurd (given_bad line.start line.end line.is_final c.args.from file segment.bodies c.in-BadFile.name
    (line_serves (g.D.DiskModel.view c.args.disk.now) (g.met.D.Disk.sound _ t) gs segment line c.args.from ready one known is c.requires.start c.requires.end c.requires.end_within)
    (c.in-BadFile.ensures.given t))

pub returns-in-Some-clause-edits : goal.returns-in-Some-clause-edits
returns-in-Some-clause-edits g c = λ t gs segment ready sound held one known is.
    let line = c.args.line.now in
    let at : segment.start ≡ line.start = find-start line.start gs segment known in
    let piece : List (List ℕ) = take 256 (drop (c.args.from - line.start) segment.bodies) in
    let whole : BatchView = record { first = c.args.from; bodies = piece } in
    let given = rw c.in-Some.is at c.in_ok-batch.ensures in
    let same : c.in-Some.batch ≡ whole =
    given.1
    ∙ ap (λ (bodies : List (List ℕ)). let b : BatchView = record { first = c.args.from; bodies = bodies } in b)
    (held_piece c.args.recent.now gs line.start c.args.from segment held known given.0 ∙ ap (λ (n : ℕ). take 256 (drop (c.args.from - n) segment.bodies)) at) in
    told_edits line.start c.args.from c.args.most segment gs c.in-Some.batch _ sound known c.requires.start (omega (arith, c.requires.end, c.requires.end_within)) same c.in_ok-held.ensures.edits
