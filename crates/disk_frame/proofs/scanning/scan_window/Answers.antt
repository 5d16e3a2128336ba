use Rattle.std.proofs.Common.{◌≡◌, ℕ, ◌+◌, ◌-◌, List, ◌++◌, length, take, drop, refl, ap, subst, ◌∙◌, arith}
use Rattle.disk_frame.specs.Entries.{EntriesView}
use Rattle.disk_frame.specs.Faults.{IsBadFrame}
use Rattle.disk_frame.proofs.ReadLaws.{in_room}
use Rattle.disk_frame.proofs.PieceLaws.{goes_on_in}
use Rattle.disk_frame.proofs.scanning.scan_window.Goals as goal

pub returns-in-Bad-clause-stop : goal.returns-in-Bad-clause-stop
returns-in-Bad-clause-stop c =
    let place : c.loop-cause.at ≡ c.loop-cause.scan.whole_length - c.args.scan.now.whole_length = omega (arith, c.loop-cause.invariant.place) in
    subst (λ (n : ℕ). IsBadFrame (c.args.first + c.loop-cause.scan.count) (drop n c.args.window.now) c.in-Bad.cause) place c.in-Bad.ensures

pub overflow_add-at : goal.overflow_add-at
overflow_add-at c = let room = in_room c.args.window.now c.loop-cause.at (c.args.first + c.loop-cause.scan.count) c.in-Whole.count c.in-Whole.length
    c.in-Whole.ensures in omega (arith, room.there, c.requires.places)

pub overflow_add-scan : goal.overflow_add-scan
overflow_add-scan c = let room = in_room c.args.window.now c.loop-cause.at (c.args.first + c.loop-cause.scan.count) c.in-Whole.count c.in-Whole.length c.in-Whole.ensures in omega (arith, room.txids)

pub overflow_add-scan-in-Whole : goal.overflow_add-scan-in-Whole
overflow_add-scan-in-Whole c =
    let room = in_room c.args.window.now c.loop-cause.at (c.args.first + c.loop-cause.scan.count) c.in-Whole.count c.in-Whole.length c.in-Whole.ensures in
    omega (arith, room.there, c.requires.places, c.loop-cause.invariant.place)

pub loop-cause-smaller : goal.loop-cause-smaller
loop-cause-smaller c =
    let room = in_room c.args.window.now c.loop-cause.at (c.args.first + c.loop-cause.scan.count) c.in-Whole.count c.in-Whole.length c.in-Whole.ensures in omega (arith, room.there, room.some)

pub loop-cause-preserved : goal.loop-cause-preserved
loop-cause-preserved c =
    let w = c.in-Whole.ensures in
    let entries : c.of-entries.result.bodies ≡ w.batch.bodies = ap (λ (x : EntriesView). x.bodies) (c.of-entries.ensures w.batch w.spells) in
    goes_on_in c.args.first c.args.skip c.args.most c.args.window.now c.args.scan.now c.loop-cause.scan _ c.loop-cause.at c.in-Whole.count c.in-Whole.length c.loop-cause.invariant w refl refl
    (c.in_ok-push_piece-in-Whole.ensures.copied ∙ ap (λ (p : ℕ × ℕ × List (List ℕ)). c.loop-cause.scan.bodies ++ take p.0 (drop p.1 p.2)) (λ i. (room i, before i, entries i)))
  where
    room : c.saturating_sub-room.result ≡ c.args.most - length c.loop-cause.scan.bodies
    room = c.saturating_sub-room.ensures ∙ ap (λ (k : ℕ). c.args.most - k) c.len.ensures

    before : c.saturating_sub-before.result ≡ c.args.skip - c.loop-cause.scan.count
    before = c.saturating_sub-before.ensures
