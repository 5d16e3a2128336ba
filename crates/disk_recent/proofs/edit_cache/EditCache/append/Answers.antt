use Rattle.std.proofs.Common.{◌≡◌, ℕ, ◌+◌, ◌<◌, List, [], ◌∷◌, ◌++◌, length, ap, sym, subst, ◌∙◌, arith}
use Rattle.disk_recent.specs.Edits.{Edit, Cached, Follows, number_edits, size_of}
use Rattle.disk_recent.specs.Ring.{held_bodies}
use Rattle.disk_recent.specs.declared.ring.Ring.{Ring}
use Rattle.disk_recent.proofs.Numbered.{follows-numbered, length-numbered, numbered-push, size_of-numbered}
use Rattle.disk_recent.proofs.edit_cache.EditCache.append.Goals as goal

pub make_way-requires-clause-fits : goal.make_way-requires-clause-fits
make_way-requires-clause-fits c =
    let r = c.self.inside.ring in
    let is : number_edits r.first (held_bodies r) ≡ c.args.self.now.edits = ap (λ (v : Cached). v.edits) c.self.view_is in
    let fits = c.requires.fits (omega (arith, c.count.ensures, ap length is, length-numbered r.first (held_bodies r))) in
    omega (arith, fits, ap (λ (v : Cached). v.bytes) c.self.view_is, ap (λ (es : List Edit). size_of es) is, size_of-numbered r.first (held_bodies r))

next : (r : Ring) (es : List Edit) (txid : ℕ) → number_edits r.first (held_bodies r) ≡ es → 0 < length (held_bodies r) → Follows es txid → txid ≡ r.first + length (held_bodies r)
next r es txid is some f = follows-numbered r.first (held_bodies r) txid some (subst (λ (ds : List Edit). Follows ds txid) (sym is) f)

pub put-requires-2-clause-number : goal.put-requires-2-clause-number
put-requires-2-clause-number c =
    let r = c.self.inside.ring in
    let is : number_edits r.first (held_bodies r) ≡ c.args.self.now.edits = ap (λ (v : Cached). v.edits) c.self.view_is in
    let e = next r c.args.self.now.edits c.args.entry.now.txid is (omega (arith, c.count.ensures)) c.requires.follows in
    omega (arith, e, c.make_way.ensures.first, ap (λ (bs : List (List ℕ)). length bs) c.make_way.ensures.held)

pub returns-clause-edits : goal.returns-clause-edits
returns-clause-edits c =
    let r = c.self.inside.ring in let s = c.put-2.new.self in
    let is : number_edits r.first (held_bodies r) ≡ c.args.self.now.edits = ap (λ (v : Cached). v.edits) c.self.view_is in
    let e = next r c.args.self.now.edits c.args.entry.now.txid is (omega (arith, c.count.ensures)) c.requires.follows in
    let first : s.first ≡ r.first = c.put-2.ensures.first ∙ c.make_way.ensures.first in
    let bodies : held_bodies s ≡ held_bodies r ++ c.args.entry.now.body.now ∷ [] = c.put-2.ensures.held ∙ ap (λ (bs : List (List ℕ)). bs ++ c.args.entry.now.body.now ∷ []) c.make_way.ensures.held in
    ap (λ (p : ℕ × List (List ℕ)). number_edits p.0 p.1) (λ i. (first i, bodies i)) ∙ (numbered-push r.first (held_bodies r) c.args.entry.now.body.now ∙
    ap (λ (p : List Edit × ℕ). p.0 ++ record { txid = p.1; body = c.args.entry.now.body.now } ∷ []) (λ i. (is i, sym e i)))
