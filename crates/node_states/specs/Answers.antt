-- What a node answered, as an object.
use Rattle.std.specs.Prelude.{ℕ, List, [], ◌++◌, length, codes, Option, Some, None}
use Rattle.journal_core.specs.declared.segment_info.SegmentInfo.{SegmentInfo}
use Rattle.journal_core.specs.declared.refusal.Refusal.{Refusal}
use Rattle.journal_core.specs.Refusals.{refusal_name, refusal_field}
use Rattle.journal_core.specs.declared.reply.Reply.{Reply}
use Rattle.journal_core.specs.declared.reply.Reply.TheVariants as reply
use Rattle.journal_history.specs.declared.node_ask.NodeAnswer.{NodeAnswer}
use Rattle.journal_history.specs.declared.node_ask.NodeAnswer.TheVariants as answer
use Rattle.node_states.specs.Fields.{key_text, first_text, number_text, limit_text, flag_text, word_text, kind_text, closed}

-- a segment's txids from its start to its last edit, one below the start where it holds none; its
-- epoch; and whether it is final or accepted
unfoldable pub segment_text : SegmentInfo → List ℕ
segment_text g =
    key_text (codes "segment") ++ (first_text (codes "start") g.start ++ (number_text (codes "end") g.end ++ (number_text (codes "epoch") g.epoch
    ++ (flag_text (codes "final") g.is_final ++ (flag_text (codes "accepted") g.accepted ++ closed)))))

unfoldable pub told_text : Option SegmentInfo → List ℕ
told_text None = []
told_text (Some g) = segment_text g

unfoldable pub refused_text : Refusal → List ℕ
refused_text cause = kind_text (codes "refused") ++ (word_text (codes "cause") (refusal_name cause) ++ (limit_text (codes "number") (refusal_field cause) ++ closed))

unfoldable pub reply_text : Reply → List ℕ
reply_text reply.Ok = kind_text (codes "ok") ++ closed
reply_text (reply.State promised) = kind_text (codes "state") ++ (number_text (codes "promised") promised ++ closed)
reply_text (reply.NewEpoch newest) = kind_text (codes "new") ++ (limit_text (codes "newest") newest ++ closed)
reply_text (reply.Prepared writer committed segment) =
    kind_text (codes "prepared") ++ (number_text (codes "writer") writer ++ (number_text (codes "known") committed ++ (told_text segment ++ closed)))
reply_text (reply.Edits batch) = kind_text (codes "edits") ++ (number_text (codes "first") batch.first ++ (number_text (codes "edits") (length batch.bodies) ++ closed))
reply_text (reply.Segments lines) = kind_text (codes "segments") ++ (number_text (codes "count") (length lines) ++ closed)
reply_text (reply.Refused cause) = refused_text cause

unfoldable pub answer_text : NodeAnswer → List ℕ
answer_text (answer.Replied r) = reply_text r
answer_text (answer.Stopped keep) = kind_text (codes "stopped") ++ (number_text (codes "keep") keep ++ closed)
answer_text answer.Done = kind_text (codes "done") ++ closed
answer_text answer.Idle = kind_text (codes "idle") ++ closed
answer_text (answer.NotOpened fail) = kind_text (codes "unopened") ++ closed
