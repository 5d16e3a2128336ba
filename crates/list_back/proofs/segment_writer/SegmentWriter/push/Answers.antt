use Rattle.std.proofs.Common.{◌+◌, length, refl, ap, arith}
use Rattle.std.proofs.lemmas.List.{length_push}
use Rattle.list_back.proofs.Written.{pushed_waits, pushed_frame}
use Rattle.list_back.proofs.segment_writer.SegmentWriter.push.Goals as goal

pub returns-then-len-lt-MAX_BATCH-clause-written : goal.returns-then-len-lt-MAX_BATCH-clause-written
returns-then-len-lt-MAX_BATCH-clause-written c = λ start epoch bodies h.
    pushed_waits start epoch bodies c.push.new.self c.args.body c.args.self
    (omega (arith, c.if-len-lt-MAX_BATCH.true, c.len.ensures, ap length c.in_ok-push.ensures.ok, length_push c.args.self.waiting c.args.body))
    c.in_ok-push.ensures.ok h

pub returns-clause-written : goal.returns-clause-written
returns-clause-written c = λ start epoch bodies h.
    pushed_frame start epoch (c.args.self.first + 256) bodies c.push.new.self c.new.result c.args.body c.args.self c.put_frame.new.out
    (omega (arith, c.if-len-lt-MAX_BATCH.false, c.len.ensures, ap length c.in_ok-push.ensures.ok, length_push c.args.self.waiting c.args.body))
    c.requires.room.room c.in_ok-push.ensures.ok c.in_ok-put_frame.ensures refl c.new.ensures h
