use Rattle.std.proofs.Common.{rules, map, sym, subst}
use Rattle.play_threads.specs.Seated.{seat_of}
use Rattle.play_threads.specs.Gathered.{MayAct}
use Rattle.play_pipes.proofs.threads.pipe_all.Goals as goal

pub map_vec-requires-after_bounds : goal.map_vec-requires-after_bounds
map_vec-requires-after_bounds g c κs within i x l is = (
  subst (λ j. MayAct c.args.named c.args.lines.now (map (λ y. y.table.shared.table_id) c.args.gates.now) j.0
      (map (λ t. seat_of t.seat.table_id t.caller t.seat.me.0.seen) j.1.items)) (sym is) (c.requires.jobs i x l),
  search rules,
)
