-- Each play of a script with names is safe, with what its actors end with.
use Rattle.std.proofs.Common.{◌≡◌, ℕ, ◌<◌, ◌≤◌, Bool, List, true, sym, ap, ◌∙◌, subst, arith, length}
use Rattle.std.proofs.lemmas.List.{length-map}
use Rattle.ns_tree.specs.declared.end.End.{End}
use Rattle.journal_history.specs.Moving.{moving_of}
use Rattle.run_safety.specs.Run.{IsRun}
use Rattle.mesh.specs.declared.whole.Mesh.{Mesh}
use Rattle.mesh.specs.Agree.{Agrees, operator_of}
use Rattle.mesh.specs.Order.{epoch_order}
use Rattle.play_model.specs.Lines.{Line, ArePlayable}
use Rattle.play_model.specs.Plays.{mesh_of, ends_of}
use Rattle.play_model.specs.Follows.{FollowsLines}
use Rattle.play_model.specs.Safe.{IsSafeWithEnds}
use Rattle.play_model.proofs.PlayableActions.{playable_actions}
use Rattle.play_model.proofs.Final.{play_agrees, play_runs, play_in_order, play_follows, names_count}
use Rattle.play_laws.specs.Linear.{IsNamed}
use Rattle.play_laws.specs.Laws.{PlayIsLinear, PlaysAreSafe}
use Rattle.play_laws.proofs.Safeties.{names_are_safe, epoch_order_is_safe}

-- one end for each actor
pub ends_many : (named : Bool) (nodes : ℕ) (lines : List Line) (m : Mesh) (ends : List End) → FollowsLines named nodes lines m ends → length ends ≡ operator_of m
ends_many named nodes lines m ends f = sym (length-map ends (λ (e : End). e.name)) ∙ ap length f.names ∙ names_count lines ∙ sym f.actors_are

pub is_named : (nodes : ℕ) (lines : List Line) (m : Mesh) (ends : List End) → 1 ≤ nodes → ArePlayable true nodes 0 lines → FollowsLines true nodes lines m ends → IsNamed lines m ends
is_named nodes lines m ends some can f = record {
  some = subst (λ (n : ℕ). 1 ≤ n) (sym f.nodes_are) some;
  actions = playable_actions true nodes 0 lines can;
  as_many = ends_many true nodes lines m ends f;
  follows = subst (λ (n : ℕ). FollowsLines true n lines m ends) (sym f.nodes_are) f;
}

pub play_linear : PlayIsLinear
play_linear named nodes lines p some can h =
    let same : (mesh_of p).nodes ≡ nodes = (play_follows named nodes lines p some can h).nodes_are in
    record {
      run = subst (λ (k : ℕ). IsRun k (moving_of p.trace)) (sym same) (play_runs named nodes lines p some can h);
      at_nodes = λ i in_. play_in_order named nodes lines p some can h i (subst (λ (k : ℕ). i < k) same in_);
    }

pub plays_are_safe : PlaysAreSafe
plays_are_safe nodes lines p some can h =
    let m : Mesh = mesh_of p in
    let a : Agrees m = play_agrees true nodes lines p some can h in
    let f : FollowsLines true nodes lines m (ends_of p) = play_follows true nodes lines p some can h in
    let n : IsNamed lines m (ends_of p) = is_named nodes lines m (ends_of p) some can f in (
      subst (λ (k : ℕ). IsSafeWithEnds k (moving_of p.trace) (ends_of p)) f.nodes_are (names_are_safe m (moving_of p.trace) lines (ends_of p) a.lists (play_linear true nodes lines p some can h) n),
      subst (λ (k : ℕ). IsSafeWithEnds k (epoch_order m) (ends_of p)) f.nodes_are (epoch_order_is_safe m lines (ends_of p) a n),
    )
