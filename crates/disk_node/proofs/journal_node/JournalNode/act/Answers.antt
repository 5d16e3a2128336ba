use Rattle.std.proofs.Common.{subst, ◌≡◌, ◌⊎◌, Option}
use Rattle.disk_recent.specs.Recent.{AsksRecent}
use Rattle.journal_core.specs.declared.node_state.NodeState.{NodeState}
use Rattle.disk_node.specs.Acted.{IsActed}
use Rattle.disk_node.specs.Node.{told_state, IsUp, IsNoFault, IsUnchanged}
use Rattle.disk_node.proofs.NodeStands.{told_both}
use Rattle.base_disk.specs.View.{AllLeave}
use Rattle.journal_core.specs.Answers.{Answers, Rose}
use Rattle.journal_core.specs.declared.reply.Reply.TheVariants.{Refused}
use Rattle.journal_core.specs.declared.refusal.Refusal.TheVariants.{OutOfMemory}
use Rattle.journal_core.specs.Effects.{after_effects}
use Rattle.journal_core.specs.Step.{effects_of}
use Rattle.disk_files.specs.Durable.{StandsAs}
use Rattle.disk_node.proofs.journal_node.JournalNode.act.Goals as goal

pub returns-clause-step : goal.returns-clause-step
returns-clause-step g c =
    subst (λ p. Answers (told_state (g.D.DiskModel.is_told p.disk) (g.D.DiskModel.view p.disk).seen p.memory p.rows) c.args.request.now
    c.answer.result (told_state (g.D.DiskModel.is_told c.answer.new.disk) (g.D.DiskModel.view c.answer.new.disk).seen c.answer.new.memory.numbers
    c.answer.new.memory.table)) c.self.view_is
    (told_both (g.D.DiskModel.is_told c.self.inside.disk) (g.D.DiskModel.is_told c.answer.new.disk)
    (λ (x y : Option NodeState). Answers x c.args.request.now c.answer.result y) tt (g.met.D.Disk.told_so c.self.inside.disk)
    (g.met.D.Disk.told_so c.answer.new.disk) c.answer.ensures.tells
    c.self.invariant.node c.answer.ensures.node (λ t. (g.met.D.Disk.sound _ t).seen_now) (λ t. (g.met.D.Disk.sound _ t).seen_now)
    (λ t s has. c.answer.ensures.answer t s has))

pub returns-clause-stable : goal.returns-clause-stable
returns-clause-stable g c =
    subst (λ p. g.D.DiskModel.tells p.disk → (s : NodeState) → IsUp (g.D.DiskModel.view p.disk) p.memory p.rows s → IsNoFault c.answer.result
    → AllLeave (g.D.DiskModel.view c.answer.new.disk) (λ x. StandsAs x (after_effects s (effects_of s c.args.request.now)))) c.self.view_is
    c.answer.ensures.stable

pub returns-clause-unread : goal.returns-clause-unread
returns-clause-unread g c =
    subst (λ p. g.D.DiskModel.tells p.disk → (s : NodeState) → IsUp (g.D.DiskModel.view p.disk) p.memory p.rows s
    → AsksRecent p.recent.start s c.args.request.now → g.D.DiskModel.reads c.answer.new.disk ≡ g.D.DiskModel.reads p.disk) c.self.view_is
    c.answer.ensures.unread

pub returns-clause-acted : goal.returns-clause-acted
returns-clause-acted g c =
    subst
    (λ p. IsActed g.D.DiskModel.tells g.D.DiskModel.view p c.args.request.now c.answer.result
    (record { disk = c.answer.new.disk; memory = c.answer.new.memory.numbers; rows = c.answer.new.memory.table; recent = c.answer.new.memory.recent })) c.self.view_is
    (record {
      tells_still = c.answer.ensures.tells.0;
      sound = λ t. g.met.D.Disk.sound c.answer.new.disk t;
      goes = c.answer.ensures.answer;
      moments = c.answer.ensures.moments;
    })

pub returns-clause-spared : goal.returns-clause-spared
returns-clause-spared g c =
    subst
    (λ p. c.answer.result ≡ Refused OutOfMemory → Rose (g.D.DiskModel.shortages p.disk) (g.D.DiskModel.shortages c.answer.new.disk)
    ⊎ IsUnchanged (g.D.DiskModel.tells p.disk) (g.D.DiskModel.view p.disk) (g.D.DiskModel.view c.answer.new.disk) p.memory c.answer.new.memory.numbers p.rows
    c.answer.new.memory.table p.recent c.answer.new.memory.recent) c.self.view_is c.answer.ensures.spared
