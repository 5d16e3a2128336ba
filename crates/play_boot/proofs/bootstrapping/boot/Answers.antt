use Rattle.std.proofs.lemmas.Result.{err_from_is_err_and}
use Rattle.base_disk.proofs.Keeping.{rests_same}
use Rattle.play_boot.specs.Boots.{from_result, to_result, booted_as}
use Rattle.play_boot.specs.Stages.{kept_result, txid_of}
use Rattle.play_boot.proofs.RunLaws.{run_still, run_as, run_then, ok_is_fine}
use Rattle.play_boot.proofs.DiskLaws.{rests_leave}
use Rattle.play_boot.proofs.Refusals.{full_from_fine, full_booted, full_left, full_of_log, begins_to_fine, begins_booted, begins_left, begins_of_log}
use Rattle.play_boot.proofs.Refusals.{tails_from_fine, tails_to_fine, tails_booted, tails_left, tails_of_log}
use Rattle.play_boot.proofs.KeepLaws.{kept_booted, kept_of_log, kept_from_fine, kept_to_call, kept_left, kept_moments}
use Rattle.play_boot.proofs.LogLaws.{tails_on}
use Rattle.play_boot.proofs.bootstrapping.boot.Goals as goal

-- ## Its own disk has an image
pub returns-in_err-require_none-clause-from_call : goal.returns-in_err-require_none-clause-from_call
returns-in_err-require_none-clause-from_call g c =
    let p = err_from_is_err_and c.from_residual.result c.from_residual.ensures.1 in
    rw (p.1, p.2) (run_still g.D.DiskModel c.args.from.now (from_result c.in_err-require_none.field-0.0)
    (full_from_fine (g.E.DiskModel.tells c.args.to.now) (g.E.DiskModel.view c.args.to.now).seen c.in_err-require_none.field-0.0 c.in_err-require_none.ensures.none))

pub returns-in_err-require_none-clause-to_call : goal.returns-in_err-require_none-clause-to_call
returns-in_err-require_none-clause-to_call g c =
    let p = err_from_is_err_and c.from_residual.result c.from_residual.ensures.1 in rw (p.1, p.2) c.in_err-require_none.ensures.call

pub returns-in_err-require_none-clause-from_rests : goal.returns-in_err-require_none-clause-from_rests
returns-in_err-require_none-clause-from_rests g c = λ t. rests_same (g.D.DiskModel.view c.args.from.now)

pub returns-in_err-require_none-clause-booted : goal.returns-in_err-require_none-clause-booted
returns-in_err-require_none-clause-booted g c =
    let p = err_from_is_err_and c.from_residual.result c.from_residual.ensures.1 in
    rw (p.1, p.2) (λ t u. full_booted (g.E.DiskModel.tells c.args.to.now) (g.P.Peers.nodes c.args.peers.now) (g.D.DiskModel.view c.args.from.now).seen
    (g.E.DiskModel.view c.args.to.now).seen (g.P.Peers.calls c.args.peers.now) c.in_err-require_none.field-0.0 c.in_err-require_none.ensures.none u)

pub returns-in_err-require_none-clause-disk : goal.returns-in_err-require_none-clause-disk
returns-in_err-require_none-clause-disk g c =
    let p = err_from_is_err_and c.from_residual.result c.from_residual.ensures.1 in
    rw (p.1, p.2) (λ t u. full_left (g.E.DiskModel.tells c.args.to.now) (g.D.DiskModel.view c.args.from.now).seen (g.E.DiskModel.view c.args.to.now).seen
    (g.E.DiskModel.view c.args.to.now) (g.E.DiskModel.view c.require_none.new.to) c.in_err-require_none.field-0.0 c.in_err-require_none.ensures.none (c.in_err-require_none.ensures.disk u))

pub returns-in_err-require_none-clause-moments : goal.returns-in_err-require_none-clause-moments
returns-in_err-require_none-clause-moments g c = λ t u none.
    rests_leave (g.D.DiskModel.view c.args.from.now).seen (g.E.DiskModel.view c.args.to.now) (g.E.DiskModel.view c.require_none.new.to) (g.met.E.Disk.sound _ u)
    (c.in_err-require_none.ensures.disk u) none

pub returns-in_err-require_none-clause-of_log : goal.returns-in_err-require_none-clause-of_log
returns-in_err-require_none-clause-of_log g c =
    let p = err_from_is_err_and c.from_residual.result c.from_residual.ensures.1 in
    rw (p.1, p.2) (λ t log of agree. full_of_log (g.E.DiskModel.tells c.args.to.now) (g.E.DiskModel.view c.args.to.now).seen log c.in_err-require_none.field-0.0
    c.in_err-require_none.ensures.none)

pub returns-in_err-require_none-clause-called : goal.returns-in_err-require_none-clause-called
returns-in_err-require_none-clause-called g c = λ other. g.met.P.Peers.called_none c.args.peers.now

-- ## It doesn't begin
pub returns-in_err-image-clause-from_call : goal.returns-in_err-image-clause-from_call
returns-in_err-image-clause-from_call g c =
    let p = err_from_is_err_and c.from_residual-in_err-image.result c.from_residual-in_err-image.ensures.1 in rw (p.1, p.2) c.in_err-image.ensures.call

pub returns-in_err-image-clause-to_call : goal.returns-in_err-image-clause-to_call
returns-in_err-image-clause-to_call g c =
    let p = err_from_is_err_and c.from_residual-in_err-image.result c.from_residual-in_err-image.ensures.1 in
    rw (p.1, p.2) (run_as g.E.DiskModel c.args.to.now c.require_none.new.to _ (to_result c.in_err-image.field-0.0) (ok_is_fine tt)
    (begins_to_fine (g.D.DiskModel.tells c.args.from.now) (g.D.DiskModel.view c.args.from.now).seen c.in_err-image.field-0.0 c.in_err-image.ensures.begun)
    c.in_ok-require_none.ensures.call)

pub returns-in_err-image-clause-booted : goal.returns-in_err-image-clause-booted
returns-in_err-image-clause-booted g c =
    let p = err_from_is_err_and c.from_residual-in_err-image.result c.from_residual-in_err-image.ensures.1 in
    rw (p.1, p.2) (λ t u. begins_booted (g.D.DiskModel.tells c.args.from.now) (g.P.Peers.nodes c.args.peers.now) (g.D.DiskModel.view c.args.from.now).seen
    (g.E.DiskModel.view c.args.to.now).seen (g.P.Peers.calls c.args.peers.now) c.in_err-image.field-0.0 (c.in_ok-require_none.ensures.none u) c.in_err-image.ensures.begun t)

pub returns-in_err-image-clause-disk : goal.returns-in_err-image-clause-disk
returns-in_err-image-clause-disk g c =
    let p = err_from_is_err_and c.from_residual-in_err-image.result c.from_residual-in_err-image.ensures.1 in
    rw (p.1, p.2) (λ t u. begins_left (g.D.DiskModel.tells c.args.from.now) (g.D.DiskModel.view c.args.from.now).seen (g.E.DiskModel.view c.args.to.now)
    (g.E.DiskModel.view c.require_none.new.to) c.in_err-image.field-0.0 c.in_err-image.ensures.begun (c.in_ok-require_none.ensures.disk u))

pub returns-in_err-image-clause-moments : goal.returns-in_err-image-clause-moments
returns-in_err-image-clause-moments g c = λ t u none.
    rests_leave (g.D.DiskModel.view c.args.from.now).seen (g.E.DiskModel.view c.args.to.now) (g.E.DiskModel.view c.require_none.new.to) (g.met.E.Disk.sound _ u)
    (c.in_ok-require_none.ensures.disk u) none

pub returns-in_err-image-clause-of_log : goal.returns-in_err-image-clause-of_log
returns-in_err-image-clause-of_log g c =
    let p = err_from_is_err_and c.from_residual-in_err-image.result c.from_residual-in_err-image.ensures.1 in
    rw (p.1, p.2) (λ t log of agree. begins_of_log (g.D.DiskModel.tells c.args.from.now) (g.D.DiskModel.view c.args.from.now).seen log c.in_err-image.field-0.0 c.in_err-image.ensures.begun)

pub returns-in_err-image-clause-called : goal.returns-in_err-image-clause-called
returns-in_err-image-clause-called g c = λ other. g.met.P.Peers.called_none c.args.peers.now

-- ## Its tail doesn't catch up
pub returns-in_err-tail_all-clause-from_call : goal.returns-in_err-tail_all-clause-from_call
returns-in_err-tail_all-clause-from_call g c =
    let p = err_from_is_err_and c.from_residual-in_err-tail_all.result c.from_residual-in_err-tail_all.ensures.1 in
    rw (p.1, p.2) (run_as g.D.DiskModel c.args.from.now c.begin.new.from _ (from_result c.in_err-tail_all.field-0.0) (ok_is_fine tt)
    (tails_from_fine (g.P.Peers.nodes c.args.peers.now) c.begin.new.standby (g.P.Peers.calls c.args.peers.now) (g.P.Peers.calls c.tail_all.new.peers) c.tail_all.new.standby
    c.in_err-tail_all.field-0.0 c.in_err-tail_all.ensures.tailed) c.in_ok-image.ensures.call)

pub returns-in_err-tail_all-clause-to_call : goal.returns-in_err-tail_all-clause-to_call
returns-in_err-tail_all-clause-to_call g c =
    let p = err_from_is_err_and c.from_residual-in_err-tail_all.result c.from_residual-in_err-tail_all.ensures.1 in
    rw (p.1, p.2) (run_as g.E.DiskModel c.args.to.now c.require_none.new.to _ (to_result c.in_err-tail_all.field-0.0) (ok_is_fine tt)
    (tails_to_fine (g.P.Peers.nodes c.args.peers.now) c.begin.new.standby (g.P.Peers.calls c.args.peers.now) (g.P.Peers.calls c.tail_all.new.peers) c.tail_all.new.standby
    c.in_err-tail_all.field-0.0 c.in_err-tail_all.ensures.tailed) c.in_ok-require_none.ensures.call)

pub returns-in_err-tail_all-clause-booted : goal.returns-in_err-tail_all-clause-booted
returns-in_err-tail_all-clause-booted g c =
    let p = err_from_is_err_and c.from_residual-in_err-tail_all.result c.from_residual-in_err-tail_all.ensures.1 in
    rw (p.1, p.2) (λ t u. tails_booted (g.P.Peers.nodes c.args.peers.now) c.begin.new.standby (g.P.Peers.calls c.args.peers.now) (g.P.Peers.calls c.tail_all.new.peers) c.tail_all.new.standby
    (g.D.DiskModel.view c.args.from.now).seen (g.E.DiskModel.view c.args.to.now).seen (txid_of c.in_ok-image.image) c.in_err-tail_all.field-0.0 (c.in_ok-require_none.ensures.none u)
    (c.in_ok-image.ensures.begun t).begun c.in_err-tail_all.ensures.tailed)

pub returns-in_err-tail_all-clause-disk : goal.returns-in_err-tail_all-clause-disk
returns-in_err-tail_all-clause-disk g c =
    let p = err_from_is_err_and c.from_residual-in_err-tail_all.result c.from_residual-in_err-tail_all.ensures.1 in
    rw (p.1, p.2) (λ t u. tails_left (g.P.Peers.nodes c.args.peers.now) c.begin.new.standby (g.P.Peers.calls c.args.peers.now) (g.P.Peers.calls c.tail_all.new.peers) c.tail_all.new.standby
    (g.D.DiskModel.view c.args.from.now).seen (g.E.DiskModel.view c.args.to.now) (g.E.DiskModel.view c.require_none.new.to) c.in_err-tail_all.field-0.0 c.in_err-tail_all.ensures.tailed
    (c.in_ok-require_none.ensures.disk u))

pub returns-in_err-tail_all-clause-moments : goal.returns-in_err-tail_all-clause-moments
returns-in_err-tail_all-clause-moments g c = λ t u none.
    rests_leave (g.D.DiskModel.view c.args.from.now).seen (g.E.DiskModel.view c.args.to.now) (g.E.DiskModel.view c.require_none.new.to) (g.met.E.Disk.sound _ u)
    (c.in_ok-require_none.ensures.disk u) none

pub returns-in_err-tail_all-clause-of_log : goal.returns-in_err-tail_all-clause-of_log
returns-in_err-tail_all-clause-of_log g c =
    let p = err_from_is_err_and c.from_residual-in_err-tail_all.result c.from_residual-in_err-tail_all.ensures.1 in
    rw (p.1, p.2) (λ t log of agree. tails_of_log (g.P.Peers.nodes c.args.peers.now) c.begin.new.standby (g.P.Peers.calls c.args.peers.now) (g.P.Peers.calls c.tail_all.new.peers)
    c.tail_all.new.standby log c.in_err-tail_all.field-0.0 c.in_err-tail_all.ensures.tailed)

pub returns-in_err-tail_all-clause-called : goal.returns-in_err-tail_all-clause-called
returns-in_err-tail_all-clause-called g c =
    let p = err_from_is_err_and c.from_residual-in_err-tail_all.result c.from_residual-in_err-tail_all.ensures.1 in
    rw (p.1, p.2) (λ other. c.in_err-tail_all.ensures.called (λ e. other (cc e)))

-- ## It is kept
pub returns-clause-from_call : goal.returns-clause-from_call
returns-clause-from_call g c =
    run_as g.D.DiskModel c.args.from.now c.begin.new.from _ (from_result (booted_as c.tail_all.new.standby c.keep.result)) (ok_is_fine tt)
    (kept_from_fine c.tail_all.new.standby c.keep.result c.keep.ensures.refused) c.in_ok-image.ensures.call

pub returns-clause-to_call : goal.returns-clause-to_call
returns-clause-to_call g c =
    kept_to_call g.E.DiskModel c.args.to.now c.keep.new.to c.tail_all.new.standby c.keep.result
    (run_then g.E.DiskModel c.args.to.now c.require_none.new.to c.keep.new.to _ (kept_result c.keep.result) (ok_is_fine tt) c.in_ok-require_none.ensures.call c.keep.ensures.call)

pub returns-clause-booted : goal.returns-clause-booted
returns-clause-booted g c = λ t u.
    kept_booted (g.P.Peers.nodes c.args.peers.now) (g.D.DiskModel.view c.args.from.now).seen (g.E.DiskModel.view c.args.to.now).seen (g.P.Peers.calls c.args.peers.now)
    (g.P.Peers.calls c.tail_all.new.peers) c.begin.new.standby c.tail_all.new.standby c.in_ok-image.image (c.in_ok-require_none.ensures.none u) (c.in_ok-image.ensures.begun t)
    c.in_ok-tail_all.ensures.tailed c.keep.result c.keep.ensures.txid c.keep.ensures.refused

pub returns-clause-disk : goal.returns-clause-disk
returns-clause-disk g c = λ t u.
    let v = c.require_none.ensures.call.tells.0 u in
    kept_left (g.D.DiskModel.view c.args.from.now).seen c.begin.new.standby c.tail_all.new.standby (g.E.DiskModel.view c.args.to.now) (g.E.DiskModel.view c.require_none.new.to)
    (g.E.DiskModel.view c.keep.new.to) (g.met.E.Disk.sound _ u) (g.met.E.Disk.sound _ v) (c.in_ok-require_none.ensures.disk u) c.in_ok-image.image c.keep.result
    (c.in_ok-image.ensures.begun t) c.in_ok-image.ensures.small c.keep.ensures.txid c.keep.ensures.refused (c.keep.ensures.kept v)

pub returns-clause-moments : goal.returns-clause-moments
returns-clause-moments g c = λ t u none.
    let v = c.require_none.ensures.call.tells.0 u in
    kept_moments (g.D.DiskModel.view c.args.from.now).seen c.begin.new.standby c.tail_all.new.standby (g.E.DiskModel.view c.args.to.now) (g.E.DiskModel.view c.require_none.new.to)
    (g.E.DiskModel.view c.keep.new.to) (g.met.E.Disk.sound _ u) (g.met.E.Disk.sound _ v) (c.in_ok-require_none.ensures.disk u) c.in_ok-image.image c.keep.result
    (c.in_ok-image.ensures.begun t) c.in_ok-image.ensures.small (c.keep.ensures.kept v) none

pub returns-clause-of_log : goal.returns-clause-of_log
returns-clause-of_log g c = λ t log of agree.
    kept_of_log log c.tail_all.new.standby c.keep.result c.keep.ensures.refused
    (tails_on log (g.P.Peers.nodes c.args.peers.now) (g.D.DiskModel.view c.args.from.now).seen c.begin.new.standby c.tail_all.new.standby (txid_of c.in_ok-image.image)
    (g.P.Peers.calls c.args.peers.now) (g.P.Peers.calls c.tail_all.new.peers) of (c.in_ok-image.ensures.begun t).begun c.in_ok-tail_all.ensures.tailed agree)

pub returns-clause-called : goal.returns-clause-called
returns-clause-called g c = λ other. c.in_ok-tail_all.ensures.called (λ e. absurd (cc e))
