-- What is told of an answer, by what is heard of it.
use Rattle.std.proofs.Common.{◌≡◌, refl}
use Rattle.journal_core.specs.declared.reply.Reply.{Reply}
use Rattle.journal_core.specs.declared.heard.Heard.TheVariants.{Answer, Silent}
use Rattle.journal_history.specs.declared.node_ask.NodeAnswer.{NodeAnswer}
use Rattle.journal_history.specs.declared.node_ask.NodeAnswer.TheVariants.{Replied, Stopped, Done, Idle, NotOpened}
use Rattle.journal_history.specs.declared.record.Told.TheVariants as told
use Rattle.journal_history.specs.Cell.{heard_of}
use Rattle.play_calls.specs.declared.delivery.Delivery.TheVariants.{Delivered}
use Rattle.play_calls.specs.Deliveries.{told_of}

pub reply_told : (a : NodeAnswer) (r : Reply) → Answer r ≡ heard_of a → told.Reply r ≡ told_of Delivered a
unfolding told_of
reply_told (Replied s) r e = cc
reply_told (Stopped keep) r e = absurd (cc)
reply_told Done r e = absurd (cc)
reply_told Idle r e = absurd (cc)
reply_told (NotOpened fail) r e = absurd (cc)

pub silent_told : (a : NodeAnswer) → Silent ≡ heard_of a → told.Silent ≡ told_of Delivered a
unfolding told_of
silent_told (Replied s) e = absurd (cc)
silent_told (Stopped keep) e = refl
silent_told Done e = refl
silent_told Idle e = refl
silent_told (NotOpened fail) e = refl

pub ruleset tells = (reply_told, silent_told)
