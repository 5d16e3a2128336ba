use Rattle.std.proofs.Common.{[], ◌∷◌, refl}
use Rattle.std.proofs.lemmas.List.Elements.{All-nil, All-cons}
use Rattle.journal_core.specs.Segments.{find_segment, put_segment, remove_segment, newest}
use Rattle.journal_core.specs.Limits.{limit_of}
use Rattle.journal_core.specs.Effects.{after_effects}
use Rattle.journal_core.specs.Reads.{edits_from, serving, last_below, least_served}
use Rattle.journal_core.specs.Step.{node_step}
use Rattle.journal_core.specs.declared.heard.Heard.TheVariants.{Answer}
use Rattle.journal_core.specs.declared.refusal.Refusal.TheVariants as refusal
use Rattle.journal_core.specs.declared.reply.Reply.TheVariants as reply
use Rattle.journal_core.specs.declared.request.Request.TheVariants.{Read}
use Rattle.writer_calls.specs.Fetching.{call_of}
use Rattle.play_names.specs.Tails.{pass_begun, tail_hears, pass_end, least_purged}
use Rattle.play_standby.specs.Reads.{AreReads, tail_along}
use Rattle.play_boot.specs.Nodes.{IsAnswered}
use Rattle.writer_calls.specs.Examples.{one_down}
use Rattle.play_boot.proofs.examples.an_image_at_the_end_is_caught_up.Goals as goal

pub returns : goal.returns
unfolding AreReads tail_along pass_begun tail_hears pass_end least_purged node_step limit_of after_effects find_segment put_segment remove_segment newest edits_from serving last_below least_served
returns c =
    let first = call_of 1 (Read 4) (Answer (reply.Refused refusal.Down)) in
    let second = call_of 2 (Read 4) (Answer (reply.Refused (refusal.NotHere 3))) in
    let third = call_of 3 (Read 4) (Answer (reply.Refused (refusal.NotHere 3))) in
    record {
      made = first ∷ second ∷ third ∷ [];
      led = (refl, (refl, (refl, tt)));
      answered = All-cons (IsAnswered one_down) first (second ∷ third ∷ []) (_, refl, refl)
          (All-cons (IsAnswered one_down) second (third ∷ []) (_, refl, refl) (All-cons (IsAnswered one_down) third [] (_, refl, refl) (All-nil (IsAnswered one_down))));
      stands = refl;
      over = refl;
    }
