use Rattle.std.proofs.Common.{◌≡◌, ℕ, List, length, ap, ◌∙◌, arith}
use Rattle.play_standby.specs.Pendings.{PendingView}
use Rattle.play_standby.proofs.PendLaws.{long_body, many_bodies, no_room, has_room}
use Rattle.play_standby.proofs.pending.Pending.limit_with.Goals as goal

pub returns-then-as_slice-gt-MAX_BODY-clause-limit : goal.returns-then-as_slice-gt-MAX_BODY-clause-limit
returns-then-as_slice-gt-MAX_BODY-clause-limit c =
    let size : length c.as_slice.result.now ≡ length c.args.body.now = ap (λ (l : List ℕ). length l) c.as_slice.ensures in
    λ w next h. long_body w c.args.room next c.args.self.now c.args.body.now h (omega (arith, size, c.if-as_slice-gt-MAX_BODY.true))

pub returns-then-pending-ge-MAX_BATCH-clause-limit : goal.returns-then-pending-ge-MAX_BATCH-clause-limit
returns-then-pending-ge-MAX_BATCH-clause-limit c =
    let size : length c.as_slice.result.now ≡ length c.args.body.now = ap (λ (l : List ℕ). length l) c.as_slice.ensures in
    let many : c.len-pending.result ≡ length c.args.self.now.bodies = c.len-pending.ensures ∙ ap (λ (p : PendingView). length p.bodies) c.self.view_is in
    λ w next h. many_bodies w c.args.room next c.args.self.now c.args.body.now h (omega (arith, size, c.if-as_slice-gt-MAX_BODY.false)) (omega (arith, many, c.if-pending-ge-MAX_BATCH.true))

pub returns-then-pending-room-clause-limit : goal.returns-then-pending-room-clause-limit
returns-then-pending-room-clause-limit c =
    let size : length c.as_slice.result.now ≡ length c.args.body.now = ap (λ (l : List ℕ). length l) c.as_slice.ensures in
    let many : c.len-pending.result ≡ length c.args.self.now.bodies = c.len-pending.ensures ∙ ap (λ (p : PendingView). length p.bodies) c.self.view_is in
    λ w next h.
    no_room w c.args.room next c.args.self.now c.args.body.now h (omega (arith, size, c.if-as_slice-gt-MAX_BODY.false)) (omega (arith, many, c.if-pending-ge-MAX_BATCH.false))
    (omega (arith, many, c.if-pending-room.true))

pub returns-clause-limit : goal.returns-clause-limit
returns-clause-limit c =
    let size : length c.as_slice.result.now ≡ length c.args.body.now = ap (λ (l : List ℕ). length l) c.as_slice.ensures in
    let many : c.len-pending.result ≡ length c.args.self.now.bodies = c.len-pending.ensures ∙ ap (λ (p : PendingView). length p.bodies) c.self.view_is in
    λ w next h.
    has_room w c.args.room next c.args.self.now c.args.body.now h (omega (arith, size, c.if-as_slice-gt-MAX_BODY.false)) (omega (arith, many, c.if-pending-ge-MAX_BATCH.false))
    (omega (arith, many, c.if-pending-room.false))
