use Rattle.std.proofs.Common.{sym, ap, not, ◌∙◌}
use Rattle.std.proofs.lemmas.Bool.{true≢false}
use Rattle.std.proofs.lemmas.Slice.Eq.{bytes_eq-Decides}
use Rattle.disk_frame.proofs.ReadLaws.{header_same}
use Rattle.disk_frame.proofs.header.read_header.Goals as goal

pub returns-then-ne : goal.returns-then-ne
returns-then-ne c start epoch h =
    let same = header_same c.args.bytes.now c.split_at.result.0.now c.in_ok-start.start c.in_ok-epoch.epoch start epoch c.in_ok-start.ensures c.in_ok-epoch.ensures h c.split_at.ensures.front in
    let equal = (bytes_eq-Decides c.split_at.result.0.now c.as_slice.result.now).1 (same ∙ sym (c.as_slice.ensures ∙ c.header_of.ensures)) in
    true≢false (sym c.if-ne.true ∙ c.ne.ensures ∙ ap not equal)
