use Rattle.std.proofs.lemmas.Result.{on_ok_weaker}
use Rattle.std.specs.Prelude.{◌≢◌}
use Rattle.std.proofs.Common.{ℕ, List, Option, sym, ap, ◌∙◌, subst, refl}
use Rattle.caller.specs.LaterLaws.{later_on}
use Rattle.play_calls.specs.Logs.{calls_in}
use Rattle.writer_calls.specs.declared.came.Came.TheVariants as came
use Rattle.play_calls.specs.Made.{MakesCalls}
use Rattle.play_names.specs.Results.{name_of}
use Rattle.play_actor.specs.Came.{texts_came, CameFits}
use Rattle.play_actor.proofs.CameLaws.{takes_came, came_fits}
use Rattle.play_actor.proofs.actions.take_task.Goals as goal

pub run-came-requires-clause-nodes : goal.run-came-requires-clause-nodes
run-came-requires-clause-nodes g c = sym c.requires.idle.ready.sized.left

pub came_texts-requires : goal.came_texts-requires
came_texts-requires g c =
    let log = c.args.caller.now.log in
    let mid = c.run-came.new.peers.log in
    let t = c.args.task in
    let made : c.run-came.result ≢ came.OutOfMemory → MakesCalls log mid =
    λ some. (c.run-came.ensures.called some).1 in
    subst (λ (o : Option ℕ). CameFits o c.run-came.result) (sym c.edits_of-edits.ensures)
    (came_fits log.nodes c.args.writer.now c.run-came.new.self log mid mid (calls_in c.args.caller.now.log.past) (calls_in c.run-came.new.peers.log.past) t
    refl refl c.requires.idle c.run-came.result c.run-came.ensures.came made)

pub returns-clause-takes : goal.returns-clause-takes
returns-clause-takes g c =
    let log = c.args.caller.now.log in
    let mid = c.run-came.new.peers.log in
    let new = c.say_all.new.caller.log in
    let t = c.args.task in
    let some : c.run-came.result ≢ came.OutOfMemory = c.in_ok-texts.ensures.memory in
    let made : MakesCalls log mid = (c.run-came.ensures.called some).1 in
    on_ok_weaker c.say_all.result
    (λ said.
    takes_came log.nodes c.args.writer.now c.run-came.new.self log mid new (calls_in c.args.caller.now.log.past) (calls_in c.run-came.new.peers.log.past) t
    refl refl c.requires.idle c.run-came.result c.in_ok-texts.texts.items
    c.run-came.ensures.came some made
    (c.in_ok-texts.ensures.texts
    ∙ ap (λ (x : List ℕ). texts_came x c.edits_of-edits.result c.run-came.result) c.name_of-name.ensures
    ∙ ap (λ (x : Option ℕ). texts_came (name_of t) x c.run-came.result) c.edits_of-edits.ensures)
    said)
    c.say_all.ensures.leads

pub returns-clause-later : goal.returns-clause-later
returns-clause-later g c =
    on_ok_weaker c.say_all.result
    (λ h.
    later_on g.W.WireModel g.met.W.Wire.readies_on _ _ _ (c.run-came.ensures.called c.in_ok-texts.ensures.memory).0 h)
    c.say_all.ensures.later
