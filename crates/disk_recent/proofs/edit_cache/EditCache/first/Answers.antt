use Rattle.std.proofs.Common.{◌≡◌, ℕ, List, ap, sym, ◌∙◌}
use Rattle.disk_recent.specs.Edits.{Edit, Cached, bodies_of, number_edits}
use Rattle.disk_recent.specs.Ring.{held_bodies}
use Rattle.disk_recent.proofs.Numbered.{bodies_of-numbered}
use Rattle.disk_recent.proofs.edit_cache.EditCache.first.Goals as goal

pub returns-clause-consecutive : goal.returns-clause-consecutive
returns-clause-consecutive c =
    let r = c.self.inside.ring in
    let is : number_edits r.first (held_bodies r) ≡ c.args.self.now.edits = ap (λ (v : Cached). v.edits) c.self.view_is in
    sym is ∙ ap (λ (bs : List (List ℕ)). number_edits r.first bs) (sym (bodies_of-numbered r.first (held_bodies r)) ∙ ap (λ (es : List Edit). bodies_of es) is)
