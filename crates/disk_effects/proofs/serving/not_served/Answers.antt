use Rattle.std.proofs.Common.{ℕ, ap, ◌∙◌, nat_lt, if◌then◌else◌}
use Rattle.journal_core.specs.declared.refusal.Refusal.{Refusal}
use Rattle.journal_core.specs.declared.refusal.Refusal.TheVariants.{Purged, NotHere}
use Rattle.journal_core.specs.declared.reply.Reply.{Reply}
use Rattle.journal_core.specs.declared.reply.Reply.TheVariants.{Refused}
use Rattle.journal_core.specs.Reads.{least_served}
use Rattle.disk_effects.specs.Told.{state_with}
use Rattle.disk_effects.specs.Served.{last_row}
use Rattle.disk_effects.proofs.ServingTold.{least_told, last_told}
use Rattle.disk_effects.proofs.serving.not_served.Goals as goal

why : ℕ → ℕ → ℕ → Reply
why from least last = Refused (if nat_lt from least then Purged least else NotHere last)

pub returns : goal.returns
unfolding why
returns c = λ gs t.
    let m = c.args.memory.now in
    let rows = c.args.table.now in
    ap (λ (r : Refusal). let x : Reply = Refused r in x) c.why_not_served.ensures.refusal
    ∙ ap (λ (n : ℕ). why c.args.from n (last_row m.opened m.known c.args.from rows)) (least_told m gs rows t c.why_not_served.ensures.sound)
    ∙ ap (λ (n : ℕ). why c.args.from (least_served (state_with m gs) gs) n) (last_told m c.args.from gs rows t)
