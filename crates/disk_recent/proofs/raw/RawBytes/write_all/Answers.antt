use Rattle.std.proofs.Common.{◌≡◌, ℕ, ◌+◌, List, length, set, take, ap, sym, ◌∙◌, arith, length-take, get_or}
use Rattle.std.specs.Prelude.{Option, Some}
use Rattle.std.proofs.lemmas.List.{take_more}
use Rattle.disk_recent.specs.Places.{put_at}
use Rattle.disk_recent.proofs.Windows.{put_more}
use Rattle.disk_recent.proofs.raw.RawBytes.write_all.Goals as goal

pub loop-byte-preserved : goal.loop-byte-preserved
loop-byte-preserved c =
    let i : ℕ = c.loop-byte.byte-index in let bs : List ℕ = c.args.bytes.now in let b : ℕ = get_or bs i 0 in
    let cs : List (Option ℕ) = c.args.self.now.places in
    let long : length (take i bs) ≡ i = omega (arith, length-take i bs) in
    let place : c.loop-byte.place ≡ c.args.at + length (take i bs) = omega arith in
    record {
      reached = omega arith;
      same = c.write.ensures.0 ∙ c.loop-byte.invariant.same;
      written =
          c.write.ensures.1 ∙ (ap (λ (l : List (Option ℕ)). set l c.loop-byte.place (Some b)) c.loop-byte.invariant.written ∙
          (ap (λ (k : ℕ). set (put_at cs c.args.at (take i bs)) k (Some b)) place
          ∙ (put_more cs c.args.at (take i bs) b (omega arith) ∙ ap (λ (l : List ℕ). put_at cs c.args.at l)
          (sym (take_more bs i 0 c.loop-byte-test.true)))));
    }
