use Rattle.std.proofs.Common.{◌≡◌, ◌∙◌, ℕ, List, take, drop, length, ap, sym}
use Rattle.std.specs.Prelude.{Option, Some, option_map}
use Rattle.std.proofs.lemmas.Option.{same_Some}
use Rattle.base_disk.specs.Files.{Files, bytes_of}
use Rattle.base_disk.proofs.Keeping.{rests_then}
use Rattle.disk_segment.proofs.ScanLemmas.{header_in_front, header_of_front, some_file, scanned_whole, scanned_bad}
use Rattle.disk_segment.proofs.scanning.scan_file.Goals as goal

pub returns-in_default-read_header-clause-told : goal.returns-in_default-read_header-clause-told
returns-in_default-read_header-clause-told g c = λ t bytes there epoch whole bodies file.
    let t1 = c.length.ensures.call.tells.0 t in
    let is : c.deref.result.now ≡ take 24 bytes =
    c.deref.ensures.value ∙ (c.in_ok-front.ensures.bytes t1 ∙ ap (λ (o : Option (List ℕ)). take 24 (drop 0 (bytes_of o)))
    (ap (λ (files : Files). files c.args.asked.now.name.now) (c.length.ensures.disk t).keeps.seen ∙ there)) in
    c.in_default-read_header.ensures c.args.asked.now.start epoch (header_in_front bytes c.deref.result.now is c.args.asked.now.start epoch file.header)

pub returns-in_err-scan-clause-disk : goal.returns-in_err-scan-clause-disk
returns-in_err-scan-clause-disk g c = λ t.
    let t1 = c.length.ensures.call.tells.0 t in
    rests_then _ _ _ (g.met.D.Disk.sound _ t) (c.length.ensures.disk t)
    (rests_then _ _ _ (g.met.D.Disk.sound _ t1) (c.read_window.ensures.disk t1)
    (c.scan_frames.ensures.disk (c.read_window.ensures.call.tells.0 t1)))

pub returns-in-Some-2-clause-told : goal.returns-in-Some-2-clause-told
returns-in-Some-2-clause-told g c = λ t.
    let some = some_file ((g.D.DiskModel.view c.args.disk.now).seen c.args.asked.now.name.now) c.in-Some.size (sym (c.in_ok-size.ensures.length t) ∙ c.in-Some.is) in
    let bytes = some.0 in
    let there = some.1 in
    let t1 = c.length.ensures.call.tells.0 t in
    let is : c.deref.result.now ≡ take 24 bytes =
    c.deref.ensures.value ∙ (c.in_ok-front.ensures.bytes t1 ∙ ap (λ (o : Option (List ℕ)). take 24 (drop 0 (bytes_of o)))
    (ap (λ (files : Files). files c.args.asked.now.name.now) (c.length.ensures.disk t).keeps.seen ∙ there)) in
    let t2 = c.read_window.ensures.call.tells.0 t1 in
    let there2 : (g.D.DiskModel.view c.read_window.new.disk).seen c.args.asked.now.name.now ≡ Some bytes =
    ap (λ (files : Files). files c.args.asked.now.name.now) ((c.read_window.ensures.disk t1).keeps.seen ∙ (c.length.ensures.disk t).keeps.seen) ∙ there in
    let scans = rw c.in-Some-2.is at (c.in_ok-scan.ensures.told t2 bytes there2 some.2) in (
      bytes,
      there,
      scanned_whole c.args.asked.now.start c.args.asked.now.skip c.args.asked.now.most bytes c.in-Some-read_header.header.start c.in-Some-read_header.header.epoch
          (header_of_front bytes c.deref.result.now is _ _ c.in-Some-read_header.ensures) c.in-Some-2.scan c.if-header-asked.false scans.0 scans.1,
    )

pub returns-in-Some-2-clause-disk : goal.returns-in-Some-2-clause-disk
returns-in-Some-2-clause-disk g c = λ t.
    let t1 = c.length.ensures.call.tells.0 t in
    rests_then _ _ _ (g.met.D.Disk.sound _ t) (c.length.ensures.disk t)
    (rests_then _ _ _ (g.met.D.Disk.sound _ t1) (c.read_window.ensures.disk t1)
    (c.scan_frames.ensures.disk (c.read_window.ensures.call.tells.0 t1)))

pub returns-clause-told : goal.returns-clause-told
returns-clause-told g c = λ t bytes there.
    let t1 = c.length.ensures.call.tells.0 t in
    let is : c.deref.result.now ≡ take 24 bytes =
    c.deref.ensures.value ∙ (c.in_ok-front.ensures.bytes t1 ∙ ap (λ (o : Option (List ℕ)). take 24 (drop 0 (bytes_of o)))
    (ap (λ (files : Files). files c.args.asked.now.name.now) (c.length.ensures.disk t).keeps.seen ∙ there)) in
    let t2 = c.read_window.ensures.call.tells.0 t1 in
    let there2 : (g.D.DiskModel.view c.read_window.new.disk).seen c.args.asked.now.name.now ≡ Some bytes =
    ap (λ (files : Files). files c.args.asked.now.name.now) ((c.read_window.ensures.disk t1).keeps.seen ∙ (c.length.ensures.disk t).keeps.seen) ∙ there in
    let long : length bytes ≡ c.in-Some.size = same_Some (length bytes) c.in-Some.size
    (ap (λ (o : Option (List ℕ)). option_map length o) (sym there) ∙ (sym (c.in_ok-size.ensures.length t) ∙ c.in-Some.is)) in
    let bad = rw c.in-None.is at (c.in_ok-scan.ensures.told t2 bytes there2 long) in
    scanned_bad c.args.asked.now.start c.args.asked.now.skip c.args.asked.now.most bytes c.in-Some-read_header.header.start c.in-Some-read_header.header.epoch
    (header_of_front bytes c.deref.result.now is _ _ c.in-Some-read_header.ensures) bad.0 bad.1 c.if-header-asked.false bad.2

pub returns-clause-disk : goal.returns-clause-disk
returns-clause-disk g c = λ t.
    let t1 = c.length.ensures.call.tells.0 t in
    rests_then _ _ _ (g.met.D.Disk.sound _ t) (c.length.ensures.disk t)
    (rests_then _ _ _ (g.met.D.Disk.sound _ t1) (c.read_window.ensures.disk t1)
    (c.scan_frames.ensures.disk (c.read_window.ensures.call.tells.0 t1)))
