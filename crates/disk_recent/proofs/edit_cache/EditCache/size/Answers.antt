use Rattle.std.proofs.Common.{◌≡◌, List, length, ap, sym, ◌∙◌, arith, length-append}
use Rattle.disk_recent.specs.Edits.{Edit, Cached, number_edits, size_of, stored_bytes}
use Rattle.disk_recent.specs.Ring.{held_bodies, old_bodies, new_bodies}
use Rattle.disk_recent.proofs.Rings.{all_sizes, sized, stored-append}
use Rattle.disk_recent.proofs.Numbered.{size_of-numbered}
use Rattle.disk_recent.proofs.edit_cache.EditCache.size.Goals as goal

pub returns-clause-size : goal.returns-clause-size
returns-clause-size c =
    let r = c.self.inside.ring in
    let is : number_edits r.first (held_bodies r) ≡ c.args.self.now.edits = ap (λ (v : Cached). v.edits) c.self.view_is in
    c.size.ensures ∙ (sym (size_of-numbered r.first (held_bodies r)) ∙ ap (λ (es : List Edit). size_of es) is)

pub returns-clause-within : goal.returns-clause-within
returns-clause-within c =
    let r = c.self.inside.ring in let os = old_bodies r in let ns = new_bodies r in let l = c.self.invariant in
    omega (
      arith,
      c.size.ensures,
      ap (λ (v : Cached). v.bytes) c.self.view_is,
      all_sizes r os ns l,
      sized r.block r.older os l.older,
      sized r.block r.newer ns l.newer,
      ap length (stored-append os ns),
      length-append (stored_bytes os) (stored_bytes ns),
    )
