use Rattle.std.proofs.Common.{◌≡◌, ◌+◌, ◌-◌, ◌∙◌, ℕ, List, [], take, drop, length, ap, arith}
use Rattle.std.specs.Prelude.{Option}
use Rattle.base_disk.specs.Files.{bytes_of}
use Rattle.disk_frame.specs.declared.frame_cause.FrameCause.TheVariants.{Short}
use Rattle.disk_segment.proofs.ScanLemmas.{split, none_left, ended_in, bad_in}
use Rattle.disk_segment.proofs.scanning.scan_next.Goals.{else-size-rest-via-then-size-rest+else-is_inside, else-size-rest-via-else-size-rest}
use Rattle.disk_segment.proofs.scanning.scan_next.Goals as goal

pub returns-then-is_inside-clause-told : goal.returns-then-is_inside-clause-told
returns-then-is_inside-clause-told g c = λ t bytes there long scan.
    let is : c.deref.result.now ≡ take c.min.result (drop (24 + c.args.scan.now.whole_length) bytes) =
    c.deref.ensures.value ∙ (c.in_ok-window.ensures.bytes t ∙ ap (λ (o : Option (List ℕ)). take c.min.result (drop (24 + c.args.scan.now.whole_length) (bytes_of o))) there) in
    c.in_ok-stop.ensures.scans (drop 24 bytes) _ (split bytes c.deref.result.now c.args.scan.now.whole_length c.min.result is) scan

pub returns-in-None-clause-told : goal.returns-in-None-clause-told
returns-in-None-clause-told g c = λ t bytes there long scan.
    let is : c.deref.result.now ≡ take c.min.result (drop (24 + c.args.scan.now.whole_length) bytes) =
    c.deref.ensures.value ∙ (c.in_ok-window.ensures.bytes t ∙ ap (λ (o : Option (List ℕ)). take c.min.result (drop (24 + c.args.scan.now.whole_length) (bytes_of o))) there) in
    let ends : c.scan_window.new.scan.whole_length - c.args.scan.now.whole_length ≡ length c.deref.result.now → drop c.min.result (drop (24 + c.args.scan.now.whole_length) bytes) ≡ [] =
    elim c.else-size-rest.branch [
      | else-size-rest-via-then-size-rest+else-is_inside w ↦ λ all. absurd ((rw c.in-None.is at w.if-is_inside.ensures) (omega (arith, all, c.deref.ensures.len, w.len.ensures)))
      | else-size-rest-via-else-size-rest w ↦ λ all. none_left bytes c.deref.result.now c.args.scan.now.whole_length c.min.result is c.args.rest long
          (omega (arith, w.if-size-rest.false, c.min.ensures))
    ] in
    ended_in bytes c.deref.result.now c.args.scan.now.whole_length c.min.result is c.args.asked.now.start c.args.asked.now.skip c.args.asked.now.most c.scan_window.new.scan
    (c.in_ok-stop.ensures.scans (drop 24 bytes) _ (split bytes c.deref.result.now c.args.scan.now.whole_length c.min.result is) scan)
    c.in_ok-stop.ensures.later c.in_ok-stop.ensures.places (rw c.in-None.is at c.in_ok-stop.ensures.stop) ends

pub returns-clause-told : goal.returns-clause-told
returns-clause-told g c = λ t bytes there long scan.
    let is : c.deref.result.now ≡ take c.min.result (drop (24 + c.args.scan.now.whole_length) bytes) =
    c.deref.ensures.value ∙ (c.in_ok-window.ensures.bytes t ∙ ap (λ (o : Option (List ℕ)). take c.min.result (drop (24 + c.args.scan.now.whole_length) (bytes_of o))) there) in
    let ends : c.in-Some.field-0 ≡ Short → drop c.min.result (drop (24 + c.args.scan.now.whole_length) bytes) ≡ [] =
    elim c.else-size-rest.branch [
      | else-size-rest-via-then-size-rest+else-is_inside w ↦ λ short. absurd ((rw c.in-Some.is at w.if-is_inside.ensures) short)
      | else-size-rest-via-else-size-rest w ↦ λ short. none_left bytes c.deref.result.now c.args.scan.now.whole_length c.min.result is c.args.rest
          long (omega (arith, w.if-size-rest.false, c.min.ensures))
    ] in
    bad_in bytes c.deref.result.now c.args.scan.now.whole_length c.min.result is c.args.asked.now.start c.args.asked.now.skip c.args.asked.now.most c.scan_window.new.scan
    (c.in_ok-stop.ensures.scans (drop 24 bytes) _ (split bytes c.deref.result.now c.args.scan.now.whole_length c.min.result is) scan)
    c.in_ok-stop.ensures.later c.in_ok-stop.ensures.places c.in-Some.field-0 (rw c.in-Some.is at c.in_ok-stop.ensures.stop) ends
