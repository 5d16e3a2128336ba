-- An acceptance leaves no temporary file of its record.
use Rattle.std.proofs.Common.{◌≡◌, ℕ, ◌∙◌, ◌≤◌, ◌^◌}
use Rattle.std.specs.Prelude.{None, Result, OnOk}
use Rattle.std.proofs.lemmas.Result.{on_ok_weaker}
use Rattle.base_disk.specs.Files.{Moves}
use Rattle.base_disk.specs.View.{View}
use Rattle.base_disk.specs.Calls.{Atomic, Happens}
use Rattle.base_disk.specs.declared.disk.DiskFail.{DiskFail}
use Rattle.journal_core.specs.Views.{BatchView}
use Rattle.disk_segment.specs.Names.{InProgress, UnderWay, FreshRecord, name_of}
use Rattle.disk_segment.proofs.Frame.{kinds_apart}
use Rattle.disk_segment.proofs.AcceptLaws.{PutsRecordOf}

pub settle_fresh : (epoch : ℕ) → (1 ≤ epoch) × (epoch ≤ 2 ^ 62) → (b : BatchView) (v1 v2 v3 : View) (last : Result (Unit {0}) DiskFail) → Happens (PutsRecordOf epoch b) v1 v2
    → Atomic (Moves (name_of b.first (UnderWay epoch)) (name_of b.first InProgress)) last v2 v3 → OnOk last (v3.seen (name_of b.first FreshRecord) ≡ None)
settle_fresh epoch valid b v1 v2 v3 last happened atomic = on_ok_weaker last
    (λ (h : Happens (Moves (name_of b.first (UnderWay epoch)) (name_of b.first InProgress)) v2 v3). h.seen.others (name_of b.first FreshRecord)
    (kinds_apart b.first (UnderWay epoch) FreshRecord valid tt (λ is. absurd (cc))) (kinds_apart b.first InProgress FreshRecord tt tt (λ is. absurd (cc))) ∙ happened.seen.gone)
    atomic.done
