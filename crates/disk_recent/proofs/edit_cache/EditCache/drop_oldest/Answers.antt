use Rattle.std.proofs.Common.{◌≡◌, ℕ, List, length, drop, ap, ◌∙◌, arith}
use Rattle.disk_recent.specs.Edits.{Edit, Cached, number_edits}
use Rattle.disk_recent.specs.Ring.{held_bodies}
use Rattle.disk_recent.proofs.Numbered.{dropped, length-numbered}
use Rattle.disk_recent.proofs.edit_cache.EditCache.drop_oldest.Goals as goal

pub returns-clause-edits : goal.returns-clause-edits
returns-clause-edits c =
    let r = c.self.inside.ring in let s = c.drop_oldest.new.self in
    let is : number_edits r.first (held_bodies r) ≡ c.args.self.now.edits = ap (λ (v : Cached). v.edits) c.self.view_is in
    ap (λ (bs : List (List ℕ)). number_edits s.first bs) c.drop_oldest.ensures.held ∙
    (dropped r.first s.first (held_bodies r) (omega (arith, ap length is, length-numbered r.first (held_bodies r), c.requires)) c.drop_oldest.ensures.first ∙ ap (λ (es : List Edit). drop 1 es) is)
