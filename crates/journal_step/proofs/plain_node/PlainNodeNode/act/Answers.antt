use Rattle.std.proofs.Common.{◌≡◌, ◌≢◌, true, inl, subst}
use Rattle.journal_core.specs.declared.node_state.NodeState.{NodeState}
use Rattle.journal_core.specs.declared.refusal.Refusal.TheVariants.{DiskFault, OutOfMemory, BadFile}
use Rattle.journal_core.specs.declared.reply.Reply.TheVariants as reply
use Rattle.journal_core.specs.Step.{node_step}
use Rattle.journal_core.specs.Answers.{IsAnswer, is_refusal}
use Rattle.journal_core.proofs.StepLaws.{step_not}
use Rattle.journal_step.proofs.plain_node.PlainNodeNode.act.Goals as goal

pub returns-clause-sound : goal.returns-clause-sound
returns-clause-sound c = step_not c.self.inside.state c.step.new.state c.args.request.now c.step.result DiskFault (λ h. h) (λ e. cc) c.step.ensures.step

pub returns-clause-refused : goal.returns-clause-refused
returns-clause-refused c =
    let P : NodeState → Type 0 = λ s. is_refusal (node_step s c.args.request.now).reply ≡ true → c.step.result ≢ reply.Refused OutOfMemory in
    subst P c.self.view_is c.step.ensures.refused

pub returns-clause-step : goal.returns-clause-step
returns-clause-step c =
    let P : NodeState → Type 0 = λ s. IsAnswer s c.args.request.now c.step.result c.step.new.state in
    let no_fault = step_not c.self.inside.state c.step.new.state c.args.request.now c.step.result DiskFault (λ h. h) (λ e. cc) c.step.ensures.step in
    subst P c.self.view_is
    (record {
      step = λ m f. c.step.ensures.step m;
      memory = λ m. inl (c.step.ensures.memory m);
      fault = λ f. absurd (no_fault f);
      whole = step_not c.self.inside.state c.step.new.state c.args.request.now c.step.result BadFile (λ h. h) (λ e. cc) c.step.ensures.step;
    })
