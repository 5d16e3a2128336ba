use Rattle.std.proofs.Common.{◌∙◌, List, ℕ, ap, sym, subst, length, arith}
use Rattle.base_words.specs.Fields.{overwritten}
use Rattle.disk_frame.specs.Segments.{header_bytes}
use Rattle.disk_segment.specs.Calls.{IsFrameOf}
use Rattle.disk_segment.proofs.ReadyFrames.{content_whole}
use Rattle.disk_segment.proofs.ready_frame.ReadyFrame.put_header.Goals as goal

pub returns-clause-content : goal.returns-clause-content
returns-clause-content c =
    content_whole c.args.batch.now c.first.result c.args.epoch c.self.inside.bytes.len c.self.inside.bytes.items c.put_header.new.out
    (subst (λ (l : List ℕ). IsFrameOf c.args.batch.now l) (sym c.self.view_is) c.requires)
    (omega (arith, ap length c.deref_mut.ensures.value, c.deref_mut.ensures.len)) c.first.ensures
    (c.put_header.ensures ∙ ap (λ (l : List ℕ). overwritten l 0 (header_bytes c.first.result c.args.epoch)) c.deref_mut.ensures.value)
