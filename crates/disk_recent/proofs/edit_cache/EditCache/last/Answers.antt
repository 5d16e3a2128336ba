use Rattle.std.proofs.Common.{◌≡◌, ℕ, ◌+◌, ◌-◌, List, ap, sym, ◌∙◌, arith}
use Rattle.std.specs.Prelude.{Some}
use Rattle.disk_recent.specs.Edits.{Edit, Cached, last_txid, number_edits}
use Rattle.disk_recent.specs.Ring.{held_bodies}
use Rattle.disk_recent.proofs.Numbered.{last-numbered}
use Rattle.disk_recent.proofs.edit_cache.EditCache.last.Goals as goal

pub returns : goal.returns
returns c =
    let r = c.self.inside.ring in
    let is : number_edits r.first (held_bodies r) ≡ c.args.self.now.edits = ap (λ (v : Cached). v.edits) c.self.view_is in
    ap (λ (k : ℕ). Some (r.first + (k - 1))) c.count-count.ensures ∙ (sym (last-numbered r.first (held_bodies r) (omega (arith, c.count-count.ensures))) ∙ ap (λ (es : List Edit). last_txid es) is)
