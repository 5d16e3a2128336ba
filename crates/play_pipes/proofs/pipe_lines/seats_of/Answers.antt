use Rattle.std.proofs.Common.{rules, ◌∷◌, [], ◌++◌, ◌∙◌, ap, map}
use Rattle.std.proofs.lemmas.List.{map-append}
use Rattle.std.proofs.lemmas.List.Elements.{All-push}
use Rattle.play_pipes.specs.PipeLines.{OnlyCalls}
use Rattle.play_threads.specs.Seated.{Seat, seat_of}
use Rattle.play_pipes.proofs.pipe_lines.seats_of.Goals as goal

pub loop-line-preserved : goal.loop-line-preserved
loop-line-preserved g c =
    let inv = c.loop-line.invariant in (
      search rules,
      search rules,
      ap (map (λ t. seat_of t.seat.table_id t.caller t.seat.me.0.seen)) c.in_ok-push.ensures.items
          ∙ map-append (λ t. seat_of t.seat.table_id t.caller t.seat.me.0.seen) c.loop-line.seats.items (c.into_seat.result ∷ [])
          ∙ (λ i. inv.2 i ++ c.into_seat.ensures.seat i ∷ []),
      All-push (λ (s : Seat). OnlyCalls s.own) c.loop-line.yielded c.in-Some.line inv.3 c.into_seat.ensures.calls,
    )
