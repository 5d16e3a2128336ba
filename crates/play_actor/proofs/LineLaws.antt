-- A line of a script, a name node and an actor, each by its kind.
use Rattle.std.proofs.Common.{◌≡◌, ◌⊎◌, inl, inr, ℕ, List, [], ◌∷◌, codes, true, Option, Some, None, refl, sym, ap, ◌∙◌, subst}
use Rattle.ns_tree.specs.declared.end.LastSpace.{LastSpace}
use Rattle.ns_edits.specs.Replay.{Image}
use Rattle.writer_core.specs.Views.{WriterView}
use Rattle.writer_core.specs.Writer.{is_writing}
use Rattle.play_script.specs.declared.script_line.ScriptLine.{ScriptLine}
use Rattle.play_script.specs.declared.script_line.ScriptLine.TheVariants as line
use Rattle.play_names.specs.Holding.{Holding, Free, Broken}
use Rattle.play_standby.specs.Standbys.{StandbyView}
use Rattle.play_standby.specs.Actives.{ActiveView}
use Rattle.play_standby.specs.Acting.{left_by}
use Rattle.play_calls.specs.Logs.{LogView}
use Rattle.play_model.specs.Lines.{Action, line_of}
use Rattle.play_model.specs.Actor.{last_of, images_of}
use Rattle.play_model.specs.KeptActor.{KeptActor}
use Rattle.play_model.specs.Actions.{kept_of, action_of, IsIdleActor, TakesIf}
use Rattle.play_model.proofs.LedLaws.{led_same}
use Rattle.play_model.proofs.KeptActor.{handed_broken}
use Rattle.play_actor.specs.declared.role.Role.{Role}
use Rattle.play_actor.specs.declared.role.Role.TheVariants as role
use Rattle.play_actor.specs.declared.role.Resting.{Resting}
use Rattle.play_actor.specs.declared.script_actor.Kind.{Kind}
use Rattle.play_actor.specs.declared.script_actor.Kind.TheVariants as kind
use Rattle.play_actor.specs.Kinds.{seen_kind}
use Rattle.play_actor.specs.Nodes.{NameView, kept_node}
use Rattle.play_actor.specs.Roles.{writer_in, holding_in, StandsIn}
use Rattle.play_actor.specs.Refusals.{IsOther}
use Rattle.play_actor.specs.Rounds.{IsSaidOf}
use Rattle.play_actor.proofs.RefusedLaws.{active_tail, active_saves, active_reloads}
use Rattle.play_actor.proofs.RoundLaws.{serving_left}

-- ## A line
pub takes_line : (n : ℕ) (l x : ScriptLine) (k k' : KeptActor) → l ≡ x → TakesIf n (action_of (line_of x)) k k' → TakesIf n (action_of (line_of l)) k k'
takes_line n l x k k' e takes = subst (λ (y : ScriptLine). TakesIf n (action_of (line_of y)) k k') (sym e) takes

-- no line of an actor
pub others_take : (n : ℕ) (l : ScriptLine) (k : KeptActor) → IsOther l → ((actor node call : ℕ) → l ≡ line.Drop actor node call → ⊥)
    → ((actor node call : ℕ) → l ≡ line.Mute actor node call → ⊥) → ((actor node call : ℕ) → l ≡ line.Late actor node call → ⊥) → TakesIf n (action_of (line_of l)) k k
others_take n (line.Declare name) k is drop mute late = refl
others_take n (line.Kill node) k is drop mute late = refl
others_take n (line.Restart node) k is drop mute late = refl
others_take n (line.Arm node calls stop) k is drop mute late = refl
others_take n (line.Drop actor node call) k is drop mute late = absurd (drop actor node call refl)
others_take n (line.Mute actor node call) k is drop mute late = absurd (mute actor node call refl)
others_take n (line.Late actor node call) k is drop mute late = absurd (late actor node call refl)
others_take n l k is drop mute late = absurd is

-- what only a standby does, of one that is active
pub busy_takes : (n : ℕ) (l : ScriptLine) (w : WriterView) (h : Holding) (old new : LogView) (texts : List (List ℕ)) → IsIdleActor n (kept_of w (Some h) old) → h.work ≡ Free
    → is_writing w.phase ≡ true → ((actor : ℕ) × (l ≡ line.Tail actor)) ⊎ ((actor : ℕ) × (l ≡ line.Checkpoint actor)) ⊎ ((actor : ℕ) × (l ≡ line.Reload actor))
    → texts ≡ codes "active" ∷ [] → IsSaidOf old new texts → TakesIf n (action_of (line_of l)) (kept_of w (Some h) old) (kept_of w (Some h) new)
busy_takes n l w h old new texts idle free writing (inl (actor, e)) are said =
    takes_line n l (line.Tail actor) (kept_of w (Some h) old) (kept_of w (Some h) new) e (active_tail n w h old new texts idle free writing are said)
busy_takes n l w h old new texts idle free writing (inr (inl (actor, e))) are said =
    takes_line n l (line.Checkpoint actor) (kept_of w (Some h) old) (kept_of w (Some h) new) e (active_saves n w h old new texts idle free writing are said)
busy_takes n l w h old new texts idle free writing (inr (inr (actor, e))) are said =
    takes_line n l (line.Reload actor) (kept_of w (Some h) old) (kept_of w (Some h) new) e (active_reloads n w h old new texts idle free writing are said)

-- an actor that met a bad entry does nothing more
pub broken_takes : (n : ℕ) (o : Option (ℕ × Action)) (w : WriterView) (h : Holding) (log : LogView) → IsIdleActor n (kept_of w (Some h) log) → h.work ≡ Broken
    → TakesIf n o (kept_of w (Some h) log) (kept_of w (Some h) log)
broken_takes n None w h log idle broken = refl
broken_takes n (Some d) w h log idle broken = record { idle = idle; leads = led_same _ _ (handed_broken (kept_of w (Some h) log) h d.1 refl broken idle.rests) }

-- ## A name node, by what it is
pub role_kept : (node : NameView) (images : List Image) (r x : Role) (log : LogView) → writer_in r ≡ node.writer → holding_in images r ≡ node.holding → r ≡ x
    → kept_of (writer_in x) (Some (holding_in images x)) log ≡ kept_node node log
role_kept node images r x log w h e =
    ap (λ (y : Role). kept_of (writer_in y) (Some (holding_in images y)) log) (sym e)
    ∙ ap (λ (v : WriterView). kept_of v (Some (holding_in images r)) log) w
    ∙ ap (λ (y : Holding). kept_of node.writer (Some y) log) h

-- what it holds at last
abbrev pub last_held : StandbyView → LastSpace
last_held s = record { position = s.position; rows = s.space.pairs }

abbrev pub stands_in : Holding → StandbyView
stands_in h = record { space = h.space; position = h.position }

pub in_rest : (images : List Image) (r : Role) (rest : Resting) → (r ≡ role.Standby rest) ⊎ (r ≡ role.Broken rest) → rest.standby ≡ stands_in (holding_in images r)
in_rest images r rest (inl e) = ap (λ (x : Role). stands_in (holding_in images x)) (sym e)
in_rest images r rest (inr e) = ap (λ (x : Role). stands_in (holding_in images x)) (sym e)

pub in_active : (images : List Image) (r : Role) (a : ActiveView) (s : StandbyView) → r ≡ role.Active a → StandsIn r → s ≡ left_by a → s ≡ stands_in (holding_in images r)
in_active images r a s e stands left =
    left ∙ serving_left a (subst (λ (x : Role). StandsIn x) e stands) ∙ ap (λ (x : Role). stands_in (holding_in images x)) (sym e)

-- its images are those that it is held with
pub images_in : (images : List Image) (r : Role) → (holding_in images r).images ≡ images
images_in images (role.Standby rest) = refl
images_in images (role.Active a) = refl
images_in images (role.Broken rest) = refl

-- ## An actor, by what it is
-- one without names holds no namespace
pub no_last : (k : Kind) → ((w : WriterView) × (k ≡ kind.Raw w)) ⊎ (k ≡ kind.Spent) → None ≡ last_of (seen_kind k).holds
no_last k (inl (w, e)) = ap (λ (x : Kind). last_of (seen_kind x).holds) (sym e)
no_last k (inr e) = ap (λ (x : Kind). last_of (seen_kind x).holds) (sym e)

pub no_images : (k : Kind) → ((w : WriterView) × (k ≡ kind.Raw w)) ⊎ (k ≡ kind.Spent) → [] ≡ images_of (seen_kind k).holds
no_images k (inl (w, e)) = ap (λ (x : Kind). images_of (seen_kind x).holds) (sym e)
no_images k (inr e) = ap (λ (x : Kind). images_of (seen_kind x).holds) (sym e)
