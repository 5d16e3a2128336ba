use Rattle.std.proofs.Common.{◌≡◌, rules}
use Rattle.disk_files.proofs.OneCall.{keeps_others, does_by, cut_by}
use Rattle.disk_files.proofs.ClearLaws.{cleared_others}
use Rattle.disk_files.proofs.TwoCalls.{on_ok_never, failed_counts, both_counts, failed_cut, both_do, both_cut}
use Rattle.disk_files.proofs.EndLaws.{discard_outside, record_there, removed_free, discard_kept}
use Rattle.disk_files.proofs.removing.remove_segment.Goals as goal

pub clear_record-requires-clause-there : goal.clear_record-requires-clause-there
clear_record-requires-clause-there g c = λ t1 yes.
    let t = c.discard.ensures.call.tells.1 t1 in
    record_there c.args.segment.now.start _ _ _ (discard_outside c.args.segment.now.start c.args.segment.now.end c.args.segment.now.is_final) (c.discard.ensures.touches t) (c.requires.record_ t yes)

pub returns-clause-effect : goal.returns-clause-effect
returns-clause-effect g c = λ t s h holds can told.
    let t1 = c.discard.ensures.call.tells.0 t in
    both_do c.args.segment.now.start c.requires.start.0 c.requires.start.1 _ _ _ _ (g.met.D.Disk.sound _ t1) (c.discard.ensures.touches t) s holds _
    (c.in_ok-discard.ensures.effect t s.segments h holds.segments can).done (removed_free c.args.segment.now.start s.segments) c.args.accepted _ (c.clear_record.ensures.clears t1)
    (c.discard.ensures.effect t s.segments h holds.segments can).any_moment
    (discard_kept c.args.segment.now.start c.args.segment.now.end c.args.segment.now.is_final c.requires.start.0 c.requires.start.1 _ _ _
    (c.discard.ensures.touches t) s holds h can c.args.accepted told _ (c.clear_record.ensures.clears t1))

pub returns-clause-others : goal.returns-clause-others
returns-clause-others g c = λ t.
    let t1 = c.discard.ensures.call.tells.0 t in
    cleared_others c.args.segment.now.start _ c.args.accepted _ _ _ (keeps_others c.args.segment.now.start _ _ _ (g.met.D.Disk.sound _ t1)
    (c.discard.ensures.touches t) c.requires.start.1) (c.clear_record.ensures.clears t1)

pub returns-clause-counts : goal.returns-clause-counts
returns-clause-counts g c = both_counts c.args.accepted _ _ _ _ _ (search rules) c.discard.ensures.counts c.clear_record.ensures.counts

pub returns-clause-cut : goal.returns-clause-cut
returns-clause-cut g c = λ t s h holds can told.
    let t1 = c.discard.ensures.call.tells.0 t in
    both_cut c.args.segment.now.start c.requires.start.0 c.requires.start.1 _ _ _ _ (g.met.D.Disk.sound _ t1) (c.discard.ensures.touches t) s holds _
    (c.in_ok-discard.ensures.effect t s.segments h holds.segments can).done (removed_free c.args.segment.now.start s.segments) c.args.accepted _ (c.clear_record.ensures.clears t1)
    _ _ _ (search rules) c.discard.ensures.counts

pub returns-in_err-discard-clause-effect : goal.returns-in_err-discard-clause-effect
returns-in_err-discard-clause-effect g c = λ t s h holds can told.
    let same : c.from_residual.result ≡ c.discard.result = search rules in
    rw same (does_by c.args.segment.now.start _ _ _ (g.met.D.Disk.sound _ (c.discard.ensures.call.tells.0 t)) (c.discard.ensures.touches t) s holds _ _
    (c.discard.ensures.effect t s.segments h holds.segments can) (on_ok_never c.discard.result _ (search rules)))

pub returns-in_err-discard-clause-others : goal.returns-in_err-discard-clause-others
returns-in_err-discard-clause-others g c = λ t. keeps_others c.args.segment.now.start _ _ _ (g.met.D.Disk.sound _ (c.discard.ensures.call.tells.0 t)) (c.discard.ensures.touches t) c.requires.start.1

pub returns-in_err-discard-clause-counts : goal.returns-in_err-discard-clause-counts
returns-in_err-discard-clause-counts g c =
    let same : c.from_residual.result ≡ c.discard.result = search rules in
    rw same (failed_counts c.args.accepted _ _ _ (search rules) c.discard.ensures.counts)

pub returns-in_err-discard-clause-cut : goal.returns-in_err-discard-clause-cut
returns-in_err-discard-clause-cut g c = λ t s h holds can told.
    let same : c.from_residual.result ≡ c.discard.result = search rules in
    rw same (failed_cut c.args.accepted s _ _ _ _
    (cut_by c.args.segment.now.start _ _ _ (g.met.D.Disk.sound _ (c.discard.ensures.call.tells.0 t)) (c.discard.ensures.touches t) s holds _ _ _ _
    (c.discard.ensures.cut t s.segments h holds.segments can)))
