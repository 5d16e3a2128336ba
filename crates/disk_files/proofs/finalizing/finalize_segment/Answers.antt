use Rattle.std.proofs.Common.{◌≡◌, rules}
use Rattle.disk_files.proofs.OneCall.{keeps_others, does_by, cut_by}
use Rattle.disk_files.proofs.ClearLaws.{cleared_others}
use Rattle.disk_files.proofs.TwoCalls.{on_ok_never, failed_counts, both_counts, failed_cut, both_do, both_cut}
use Rattle.disk_files.proofs.EndLaws.{finalize_outside, record_there, finalized_free, finalize_kept}
use Rattle.disk_files.proofs.finalizing.finalize_segment.Goals as goal

pub clear_record-requires-clause-there : goal.clear_record-requires-clause-there
clear_record-requires-clause-there g c = λ t1 yes.
    let t = c.finalize.ensures.call.tells.1 t1 in
    record_there c.args.start _ _ _ (finalize_outside c.args.start c.args.end) (c.finalize.ensures.touches t) (c.requires.record_ t yes)

pub returns-clause-effect : goal.returns-clause-effect
returns-clause-effect g c = λ t s h holds can told.
    let t1 = c.finalize.ensures.call.tells.0 t in
    both_do c.args.start c.requires.start.0 c.requires.start.1 _ _ _ _ (g.met.D.Disk.sound _ t1) (c.finalize.ensures.touches t) s holds _
    (c.in_ok-finalize.ensures.effect t s.segments h holds.segments can).done (finalized_free c.args.start c.args.end s.segments h can) c.args.accepted _ (c.clear_record.ensures.clears t1)
    (c.finalize.ensures.effect t s.segments h holds.segments can).any_moment
    (finalize_kept c.args.start c.args.end c.requires.start.0 c.requires.start.1 _ _ _ (c.finalize.ensures.touches t) s holds h can c.args.accepted told _ (c.clear_record.ensures.clears t1))

pub returns-clause-others : goal.returns-clause-others
returns-clause-others g c = λ t.
    let t1 = c.finalize.ensures.call.tells.0 t in
    cleared_others c.args.start _ c.args.accepted _ _ _ (keeps_others c.args.start _ _ _ (g.met.D.Disk.sound _ t1) (c.finalize.ensures.touches t) c.requires.start.1) (c.clear_record.ensures.clears t1)

pub returns-clause-counts : goal.returns-clause-counts
returns-clause-counts g c = both_counts c.args.accepted _ _ _ _ _ (search rules) c.finalize.ensures.counts c.clear_record.ensures.counts

pub returns-clause-cut : goal.returns-clause-cut
returns-clause-cut g c = λ t s h holds can told.
    let t1 = c.finalize.ensures.call.tells.0 t in
    both_cut c.args.start c.requires.start.0 c.requires.start.1 _ _ _ _ (g.met.D.Disk.sound _ t1) (c.finalize.ensures.touches t) s holds _
    (c.in_ok-finalize.ensures.effect t s.segments h holds.segments can).done (finalized_free c.args.start c.args.end s.segments h can) c.args.accepted _ (c.clear_record.ensures.clears t1)
    _ _ _ (search rules) c.finalize.ensures.counts

pub returns-in_err-finalize-clause-effect : goal.returns-in_err-finalize-clause-effect
returns-in_err-finalize-clause-effect g c = λ t s h holds can told.
    let same : c.from_residual.result ≡ c.finalize.result = search rules in
    rw same (does_by c.args.start _ _ _ (g.met.D.Disk.sound _ (c.finalize.ensures.call.tells.0 t)) (c.finalize.ensures.touches t) s holds _ _
    (c.finalize.ensures.effect t s.segments h holds.segments can) (on_ok_never c.finalize.result _ (search rules)))

pub returns-in_err-finalize-clause-others : goal.returns-in_err-finalize-clause-others
returns-in_err-finalize-clause-others g c = λ t. keeps_others c.args.start _ _ _ (g.met.D.Disk.sound _ (c.finalize.ensures.call.tells.0 t)) (c.finalize.ensures.touches t) c.requires.start.1

pub returns-in_err-finalize-clause-counts : goal.returns-in_err-finalize-clause-counts
returns-in_err-finalize-clause-counts g c =
    let same : c.from_residual.result ≡ c.finalize.result = search rules in
    rw same (failed_counts c.args.accepted _ _ _ (search rules) c.finalize.ensures.counts)

pub returns-in_err-finalize-clause-cut : goal.returns-in_err-finalize-clause-cut
returns-in_err-finalize-clause-cut g c = λ t s h holds can told.
    let same : c.from_residual.result ≡ c.finalize.result = search rules in
    rw same (failed_cut c.args.accepted s _ _ _ _
    (cut_by c.args.start _ _ _ (g.met.D.Disk.sound _ (c.finalize.ensures.call.tells.0 t)) (c.finalize.ensures.touches t) s holds _ _ _ _ (c.finalize.ensures.cut t s.segments h holds.segments can)))
