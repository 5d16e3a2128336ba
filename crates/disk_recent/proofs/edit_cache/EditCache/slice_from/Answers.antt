use Rattle.std.proofs.Common.{◌≡◌, ℕ, ◌↔◌, List, [], ap, subst}
use Rattle.std.specs.Prelude.{IfSome, IsNone}
use Rattle.std.specs.Borrow.{Bor}
use Rattle.disk_recent.specs.Edits.{Edit, Cached, IsStored, bodies_of, number_edits, since}
use Rattle.disk_recent.specs.Ring.{held_bodies}
use Rattle.disk_recent.proofs.Numbered.{none_held, run_held}
use Rattle.disk_recent.proofs.edit_cache.EditCache.slice_from.Goals as goal

pub returns-clause-held : goal.returns-clause-held
returns-clause-held c =
    let r = c.self.inside.ring in
    let is : number_edits r.first (held_bodies r) ≡ c.args.self.now.edits = ap (λ (v : Cached). v.edits) c.self.view_is in
    subst (λ (es : List Edit). IsNone c.slice_from.result ↔ (since c.args.txid es ≡ [])) is (none_held r.first (held_bodies r) c.args.txid c.slice_from.result c.slice_from.ensures.held)

pub returns-clause-run : goal.returns-clause-run
returns-clause-run c =
    let r = c.self.inside.ring in
    let is : number_edits r.first (held_bodies r) ≡ c.args.self.now.edits = ap (λ (v : Cached). v.edits) c.self.view_is in
    subst (λ (es : List Edit). IfSome c.slice_from.result (λ s. IsStored (bodies_of (since c.args.txid es)) s.now)) is
    (run_held r.first (held_bodies r) c.args.txid c.slice_from.result (λ (s : Bor (List ℕ)). s.now) c.slice_from.ensures.held c.slice_from.ensures.run)
