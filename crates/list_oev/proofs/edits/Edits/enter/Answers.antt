use Rattle.std.proofs.Common.{◌+◌, drop, sym, refl, subst, arith}
use Rattle.disk_frame.specs.Answers.{IsWholeFrame}
use Rattle.list_oev.specs.Places.{Reader, ahead_of, Between, Enters}
use Rattle.list_oev.proofs.NextLaws.{sizes, entered}
use Rattle.list_oev.proofs.edits.Edits.enter.Goals as goal

pub overflow_add-self : goal.overflow_add-self
overflow_add-self c =
    let w : IsWholeFrame c.self.inside.txid (drop c.self.inside.end c.self.inside.bytes.now) c.args.count c.args.length =
    subst (λ (r : Reader). IsWholeFrame r.txid (drop r.end r.bytes) c.args.count c.args.length) (sym c.self.view_is) c.requires in
    let s = sizes c.self.inside.txid c.self.inside.end c.self.inside.bytes.now c.args.count c.args.length w in omega (arith, s.there)

pub overflow_add-self-2 : goal.overflow_add-self-2
overflow_add-self-2 c =
    let w : IsWholeFrame c.self.inside.txid (drop c.self.inside.end c.self.inside.bytes.now) c.args.count c.args.length =
    subst (λ (r : Reader). IsWholeFrame r.txid (drop r.end r.bytes) c.args.count c.args.length) (sym c.self.view_is) c.requires in
    let s = sizes c.self.inside.txid c.self.inside.end c.self.inside.bytes.now c.args.count c.args.length w in omega (arith, s.last)

pub returns : goal.returns
returns c start edits b =
    let w : IsWholeFrame c.self.inside.txid (drop c.self.inside.end c.self.inside.bytes.now) c.args.count c.args.length =
    subst (λ (r : Reader). IsWholeFrame r.txid (drop r.end r.bytes) c.args.count c.args.length) (sym c.self.view_is) c.requires in
    let old : Reader = record { bytes = c.self.inside.bytes.now; end = c.self.inside.end; txid = c.self.inside.txid; ahead = ahead_of c.self.inside.txid c.self.inside.end c.self.inside.entries } in
    let new : Reader = record { bytes = c.self.inside.bytes.now; end = c.self.inside.end + c.args.length; txid = c.self.inside.txid + c.args.count; ahead = c.of.result } in
    subst (λ (r : Reader). Enters start edits r new) c.self.view_is
    (entered old new c.args.count c.args.length w refl refl refl (c.of.ensures w.batch w.spells) start edits (subst (λ (r : Reader). Between start edits r) (sym c.self.view_is) b))
