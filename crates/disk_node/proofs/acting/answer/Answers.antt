use Rattle.std.proofs.Common.{inr, List, refl, sym, ap, ◌∙◌}
use Rattle.journal_core.specs.Effects.{Effect}
use Rattle.disk_recent.specs.Recent.{cached_then}
use Rattle.disk_node.proofs.ActingDone.{once_same, once_up}
use Rattle.disk_node.proofs.ActingAnswer.{answer_at_once, moments_none, stable_at_once, up_stands, none_at_once}
use Rattle.base_disk.proofs.Keeping.{rests_same}
use Rattle.disk_node.proofs.acting.answer.Goals as goal

pub returns-in-Some-clause-answer : goal.returns-in-Some-clause-answer
returns-in-Some-clause-answer g c = λ t s has. (
  s,
  has,
  answer_at_once s c.args.request.now c.in-Some.refusal (sym
      (once_same c.args.memory.now.numbers.up (g.D.DiskModel.view c.args.disk.now) c.args.memory.now.numbers c.args.memory.now.table s c.args.request.now refl has)
      ∙ sym c.in-Some.ensures.refusal),
)

pub returns-in-Some-clause-moments : goal.returns-in-Some-clause-moments
returns-in-Some-clause-moments g c = λ t s up.
    moments_none (g.D.DiskModel.view c.args.disk.now) s c.args.request.now (g.met.D.Disk.sound _ t) (up_stands (g.D.DiskModel.view c.args.disk.now) c.args.memory.now.numbers
    c.args.memory.now.table s up)

pub returns-in-Some-clause-stable : goal.returns-in-Some-clause-stable
returns-in-Some-clause-stable g c = λ t s up own.
    stable_at_once (g.D.DiskModel.view c.args.disk.now) c.args.memory.now.numbers c.args.memory.now.table s c.args.request.now c.in-Some.refusal
    (sym (once_up (g.D.DiskModel.view c.args.disk.now) c.args.memory.now.numbers c.args.memory.now.table s c.args.request.now up)
    ∙ sym c.in-Some.ensures.refusal) up

pub returns-in-Err-clause-moments : goal.returns-in-Err-clause-moments
returns-in-Err-clause-moments g c = λ t s up.
    moments_none (g.D.DiskModel.view c.args.disk.now) s c.args.request.now (g.met.D.Disk.sound _ t) (up_stands (g.D.DiskModel.view c.args.disk.now) c.args.memory.now.numbers
    c.args.memory.now.table s up)

pub returns-in-Some-clause-cached : goal.returns-in-Some-clause-cached
returns-in-Some-clause-cached g c = λ t s up own.
    sym (ap (λ (es : List Effect). cached_then c.args.memory.now.recent.start es)
    (none_at_once s c.args.request.now c.in-Some.refusal (sym (once_up (g.D.DiskModel.view c.args.disk.now) c.args.memory.now.numbers c.args.memory.now.table s
    c.args.request.now up) ∙ sym c.in-Some.ensures.refusal)))

pub returns-in-Some-clause-spared : goal.returns-in-Some-clause-spared
returns-in-Some-clause-spared g c = λ e. inr (record { disk = λ t. rests_same (g.D.DiskModel.view c.args.disk.now); memory = refl; rows = refl; recent = refl })

pub returns-in-Err-clause-spared : goal.returns-in-Err-clause-spared
returns-in-Err-clause-spared g c = λ e. inr (record { disk = λ t. rests_same (g.D.DiskModel.view c.args.disk.now); memory = refl; rows = refl; recent = refl })
