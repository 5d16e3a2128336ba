use Rattle.std.proofs.Common.{map, ap, sym, subst, arith, ◌≡◌, ◌∙◌}
use Rattle.play_model.specs.Lines.{actions_of, line_of}
use Rattle.play_model.specs.Actions.{has_names, kept_by, new_actor_view}
use Rattle.play_threads.specs.Threads.{HasDone}
use Rattle.play_threads.proofs.ActorLaws.{done_follows, new_named}
use Rattle.play_threads.proofs.actor_lines.act_alone.Goals as goal

pub new-requires : goal.new-requires
new-requires g c =
    let same : c.nodes.result ≡ c.args.caller.now.log.nodes = c.nodes.ensures in
    omega (arith, same, c.requires.some)

pub act-requires-clause-new : goal.act-requires-clause-new
act-requires-clause-new g c =
    let nodes = c.args.caller.now.log.nodes in
    let same : c.nodes.result ≡ nodes = c.nodes.ensures in
    let named : has_names (g.A.Actor.seen c.in_ok-by.by) ≡ c.args.named = ap has_names c.in_ok-by.ensures ∙ new_named c.args.named c.nodes.result in
    c.in_ok-by.ensures ∙ ap (λ n. new_actor_view c.args.named n) same ∙ ap (λ b. new_actor_view b nodes) (sym named)

pub returns-clause-follows : goal.returns-clause-follows
returns-clause-follows g c =
    let nodes = c.args.caller.now.log.nodes in
    let actions = actions_of c.args.actor (map line_of c.args.lines.now) in
    let by = g.A.Actor.seen c.in_ok-by.by in
    let log = c.act.new.caller.log in
    let named : has_names by ≡ c.args.named = ap has_names c.in_ok-by.ensures ∙ new_named c.args.named c.nodes.result in
    let done : HasDone c.args.named nodes actions (kept_by (g.A.Actor.seen c.act.new.by) log) =
    subst (λ b. HasDone b nodes actions (kept_by (g.A.Actor.seen c.act.new.by) log)) named c.in_ok-act.ensures.done in
    done_follows c.args.named nodes actions (g.A.Actor.seen c.act.new.by) log c.in_ok-left.left.last done c.in_ok-left.ensures.last
