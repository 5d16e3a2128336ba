use Rattle.std.proofs.Common.{◌≡◌, ◌+◌, ◌-◌, List, [], ◌∷◌, ◌++◌, refl, sym, subst, ◌∙◌, arith}
use Rattle.disk_recent.specs.Edits.{Edit, Follows, kept_edits}
use Rattle.disk_recent.proofs.Kept.{follows_kept}
use Rattle.disk_recent.proofs.Numbered.{kept_all}
use Rattle.disk_recent.proofs.edit_cache.EditCache.push.Goals as goal

pub returns-clause-kept : goal.returns-clause-kept
returns-clause-kept c =
    let es : List Edit = c.make_room.new.self.edits in
    let e : Edit = record { txid = c.args.entry.now.txid; body = c.args.entry.now.body.now } in
    c.append.ensures.edits ∙ (sym (kept_all (c.args.self.now.bytes - 4098) es e (λ some. omega (arith, c.make_room.ensures.fits some, c.make_room.ensures.bytes))) ∙ c.make_room.ensures.kept e refl)

pub returns-clause-next : goal.returns-clause-next
returns-clause-next c =
    let es : List Edit = c.make_room.new.self.edits in
    let e : Edit = record { txid = c.args.entry.now.txid; body = c.args.entry.now.body.now } in
    let all : kept_edits (c.args.self.now.bytes - 4098) (es ++ e ∷ []) ≡ es ++ e ∷ [] =
    kept_all (c.args.self.now.bytes - 4098) es e (λ some. omega (arith, c.make_room.ensures.fits some, c.make_room.ensures.bytes)) in
    subst (λ (ds : List Edit). Follows ds (e.txid + 1)) (all ∙ sym c.append.ensures.edits) (follows_kept (c.args.self.now.bytes - 4098) es e)
