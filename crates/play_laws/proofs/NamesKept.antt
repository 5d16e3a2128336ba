-- A mesh that follows a script with names keeps what is claimed of names, and each edit of any
-- script has one result.
use Rattle.std.proofs.Common.{◌≡◌, ℕ, ◌<◌, ◌≤◌, List, [], ◌∷◌, ◌++◌, Bool, true, false, Contains, refl, sym, ◌∙◌, subst, append_assoc}
use Rattle.std.specs.Prelude.{Some, slice_get}
use Rattle.journal_core.specs.Views.{HeadView, BatchView}
use Rattle.journal_core.specs.declared.request.Request.TheVariants.{Journal}
use Rattle.journal_history.specs.declared.record.Record.{Record}
use Rattle.journal_history.specs.declared.record.Record.TheVariants.{Call}
use Rattle.journal_history.specs.declared.record.Told.{Told}
use Rattle.journal_history.specs.Entries.{Entry}
use Rattle.journal_history.specs.Moving.{moving_of}
use Rattle.run_safety.proofs.Values.{get_there}
use Rattle.mesh.specs.declared.whole.Mesh.{Mesh}
use Rattle.mesh.specs.Agree.{operator_of, record_of, plan_of, ListsAgree, Agrees}
use Rattle.mesh.specs.Order.{epoch_order}
use Rattle.ns_tree.specs.declared.end.End.{End}
use Rattle.play_model.specs.Lines.{Line, ArePlayable, lines_of, actions_of}
use Rattle.play_model.specs.Actor.{Actor, IsLed, actor_after, is_broken}
use Rattle.play_model.specs.Follows.{actor_with, Follows, FollowsLines}
use Rattle.play_model.specs.Told.{results_in}
use Rattle.play_model.specs.EditResults.{AreResults, NeverBroken}
use Rattle.play_model.specs.Plays.{Play, IsPlay, mesh_of, ends_of}
use Rattle.play_model.proofs.Led.{after_snoc}
use Rattle.play_model.proofs.Final.{play_agrees, play_follows}
use Rattle.play_model.proofs.Sound.{actions_raw}
use Rattle.play_model.proofs.PlayableActions.{playable_actions}
use Rattle.play_model.proofs.EachResult.{each_result}
use Rattle.play_model.proofs.NamedResults.{each_named_result}
use Rattle.play_laws.specs.Linear.{IsLinear, IsNamed, IsAdmitted}
use Rattle.play_laws.specs.Keeps.{KeepsNames}
use Rattle.play_laws.specs.Laws.{NamesAreKept, EditsHaveOneResult}
use Rattle.play_laws.proofs.ReadLaws.{contains_in}
use Rattle.play_laws.proofs.Replays.{actors_hold_replays}
use Rattle.play_laws.proofs.LineLaws.{Wanted, led_of, wanted, logs_are_admitted, line_replays, line_calls_apart}
use Rattle.play_laws.proofs.Unbroken.{none_breaks}
use Rattle.play_laws.proofs.Safeties.{epoch_order_linear}
use Rattle.play_laws.proofs.NamedPlays.{ends_many, is_named, play_linear}

-- ## With names
-- in any linear order
module _ (m : Mesh) (entries : List Entry) (lines : List Line) (last : List End) (lists : ListsAgree m) (lin : IsLinear m entries) (named : IsNamed lines m last) where
  admitted : (c k start : ℕ) (head : HeadView) (batch : BatchView) (t : Told) → c < operator_of m → Contains (record_of m c) (Call k (Journal head start batch) t) → IsAdmitted m entries batch
  admitted c k start head batch t below has =
      let r : Record = Call k (Journal head start batch) t in
      let w : Wanted m c r = wanted m entries lines last lists lin named c below r (contains_in r (record_of m c) has) in
      logs_are_admitted m entries c w.actor k head start batch t lists lin below w.is_actor w.fits

  pub names_keep : KeepsNames m entries
  names_keep = record {
    admitted = admitted;
    unbroken = λ c a below x. none_breaks m entries lines last c a lists lin named below x;
    images = λ c a h below x is. (actors_hold_replays m entries c a h lists lin below x is).1;
    replays = λ log on. line_replays m entries lines last log lists lin named on;
    apart = λ log on. line_calls_apart m entries lines last log lists lin named on;
  }

  -- ## Results: nobody is broken at any moment
  module _ (c : ℕ) (below : c < operator_of m) where
    abbrev actor : Actor
    actor = actor_with true m.nodes (actions_of c lines)

    whole_at : (before after : List Record) → record_of m c ≡ before ++ after → is_broken (actor_after actor before) ≡ false
    whole_at before after is = none_breaks m entries lines last c (actor_after actor before) lists lin named below (record {
      some = named.some;
      actions = actions_of c lines;
      are_actions = named.actions c;
      before = before;
      after = after;
      record_is = is;
      led = subst (λ (l : List Record). IsLed actor l) is (led_of m entries lines last lists lin named c below);
      is = refl;
    })

    never_from : (before after : List Record) → record_of m c ≡ before ++ after → NeverBroken (actor_after actor before) after
    unfolding NeverBroken
    never_from before [] is = whole_at before [] is
    never_from before (r ∷ rs) is = (
      whole_at before (r ∷ rs) is,
      subst (λ (a : Actor). NeverBroken a rs) (after_snoc actor before r)
          (never_from (before ++ r ∷ []) rs (is ∙ sym (append_assoc before (r ∷ []) rs))),
    )

    never_broken : NeverBroken actor (record_of m c)
    never_broken = subst (λ (a : Actor). NeverBroken a (record_of m c)) (none_after actor) (never_from [] (record_of m c) refl)
      where
        none_after : (a : Actor) → actor_after a [] ≡ a
        none_after a = unfold actor_after in refl

    pub named_results : AreResults (actions_of c lines) (results_in (record_of m c))
    named_results =
        let there : (e : End) × (slice_get last c ≡ Some e) = get_there last c (subst (λ (n : ℕ). c < n) (sym named.as_many) below) in
        let f : Follows true m.nodes (actions_of c lines) (record_of m c) (plan_of m c) there.0 = named.follows.actors c there.0 below there.1 in
        each_named_result m.nodes (actions_of c lines) (record_of m c) named.some (named.actions c) f.led never_broken f.ended

pub names_are_kept : NamesAreKept
names_are_kept m lines ends a named = names_keep m (epoch_order m) lines ends a.lists (epoch_order_linear m a) named

-- and in the order in which the entries of a play came
pub plays_keep : (nodes : ℕ) (lines : List Line) (p : Play) → 1 ≤ nodes → ArePlayable true nodes 0 lines → IsPlay true nodes lines p → KeepsNames (mesh_of p) (moving_of p.trace)
plays_keep nodes lines p some can h =
    names_keep (mesh_of p) (moving_of p.trace) lines (ends_of p) (play_agrees true nodes lines p some can h).lists (play_linear true nodes lines p some can h)
    (is_named nodes lines (mesh_of p) (ends_of p) some can (play_follows true nodes lines p some can h))

-- ## Of any script
script_results : (named : Bool) (nodes : ℕ) (lines : List Line) (m : Mesh) (ends : List End) → 1 ≤ nodes → ArePlayable named nodes 0 lines → Agrees m
    → FollowsLines named nodes lines m ends → (c : ℕ) → c < operator_of m → AreResults (actions_of c lines) (results_in (record_of m c))
script_results true nodes lines m ends some can a f c below =
    named_results m (epoch_order m) lines ends a.lists (epoch_order_linear m a) (is_named nodes lines m ends some can f) c below
script_results false nodes lines m ends some can a f c below =
    let there : (e : End) × (slice_get ends c ≡ Some e) = get_there ends c (subst (λ (n : ℕ). c < n) (sym (ends_many false nodes lines m ends f)) below) in
    let g : Follows false nodes (actions_of c lines) (record_of m c) (plan_of m c) there.0 = f.actors c there.0 below there.1 in
    each_result nodes (actions_of c lines) (record_of m c) some (actions_raw (actions_of c lines) (playable_actions false nodes 0 lines can c)) g.led g.ended

pub edits_have_one_result : EditsHaveOneResult
edits_have_one_result s m ends can a f c below = script_results s.named s.nodes (lines_of s) m ends can.nodes can.lines a f c below
