-- Which name nodes and actors are no standbys.
use Rattle.std.proofs.Common.{ℕ, ◌≡◌, List, true, false, true≢false, Option, Some, None, Bor, refl, sym, ap, ◌∙◌, subst}
use Rattle.std.specs.Prelude.{MatchOption}
use Rattle.ns_edits.specs.Replay.{Image}
use Rattle.writer_core.specs.Views.{WriterView}
use Rattle.writer_core.specs.Writer.{is_writing}
use Rattle.play_names.specs.Holding.{Holding, Work, Free, Broken, with_work}
use Rattle.play_standby.specs.Standbys.{StandbyView, held}
use Rattle.play_standby.specs.Actives.{ActiveView}
use Rattle.play_model.specs.Actions.{ActorView}
use Rattle.play_actor.specs.declared.role.Resting.{Resting}
use Rattle.play_actor.specs.declared.role.Role.{Role}
use Rattle.play_actor.specs.declared.role.Role.TheVariants as role
use Rattle.play_actor.specs.Nodes.{NameView, RestsAt, RestsNowhere, IsServing, standing}
use Rattle.play_actor.specs.Roles.{writer_in, holding_in, StandsIn}
use Rattle.play_actor.specs.Kinds.{IsStandbyAt, IsNoStandby, IsActiveIn, IsNotActive, seen_name}

-- ## A name node
pub rests_in : (images : List Image) (r : Role) (at : Resting) (n : NameView) → record { writer = writer_in r; holding = holding_in images r } ≡ n → StandsIn r → r ≡ role.Standby at → RestsAt n at.standby
rests_in images r at n e stands is = subst (λ (m : NameView). RestsAt m at.standby) (ap (λ (x : Role). record { writer = writer_in x; holding = holding_in images x }) (sym is) ∙ e)
    (record { images = images; holding = refl; rests = subst (λ (x : Role). StandsIn x) is stands })

pub active_nowhere : (a : ActiveView) (n : NameView) → IsServing a → n.writer ≡ a.writer → RestsNowhere n
active_nowhere a n serves e s r =
    let ended : is_writing a.writer.phase ≡ false = ap (λ (w : WriterView). is_writing w.phase) (sym e) ∙ r.rests in
    true≢false (sym serves.opened ∙ ended)

pub broken_nowhere : (images : List Image) (at : StandbyView) (n : NameView) → n.holding ≡ with_work Broken (held images at) → RestsNowhere n
broken_nowhere images at n e s r =
    let same : Broken ≡ Free = ap (λ (h : Holding). h.work) (sym e ∙ r.holding) in
    cc same

pub ruleset nowhere = (active_nowhere, broken_nowhere)

-- ## An actor
named_at : (n : NameView) (v : ActorView) (s : StandbyView) → RestsAt n s → v ≡ record { writer = n.writer; holds = Some n.holding } → IsStandbyAt v s
named_at n v s r e = record {
  images = r.images;
  holds = ap (λ (x : ActorView). x.holds) e ∙ ap (λ (h : Holding). Some h) r.holding;
  rests = ap (λ (x : ActorView). is_writing x.writer.phase) e ∙ r.rests;
}

named_none : (n : NameView) (v : ActorView) → RestsNowhere n → v ≡ record { writer = n.writer; holds = Some n.holding } → IsNoStandby v
named_none n v none e s at =
    let same : Some n.holding ≡ Some (held at.images s) = ap (λ (x : ActorView). x.holds) (sym e) ∙ at.holds in
    none s (record { images = at.images; holding = (cc same); rests = ap (λ (x : ActorView). is_writing x.writer.phase) (sym e) ∙ at.rests })

pub unnamed_none : (v : ActorView) → v.holds ≡ None → IsNoStandby v
unnamed_none v e s at =
    let same : None ≡ Some (held at.images s) = sym e ∙ at.holds in
    cc same

pub named_stands : (result : Option (Bor StandbyView)) (n : NameView) (v : ActorView) → MatchOption result (RestsNowhere n) (λ standby. RestsAt n standby.now)
    → v ≡ record { writer = n.writer; holds = Some n.holding } → MatchOption result (IsNoStandby v) (λ standby. IsStandbyAt v standby.now)
named_stands None n v h e = named_none n v h e
named_stands (Some standby) n v h e = named_at n v standby.now h e

pub ruleset no_standby = (unnamed_none)

-- ## Who is active
pub serves_in : (images : List Image) (a : ActiveView) (n : NameView) (epoch : ℕ) → IsServing a → n.writer ≡ a.writer → n.holding ≡ held images (standing a) → epoch ≡ a.writer.epoch
    → IsActiveIn (seen_name n) epoch
serves_in images a n epoch serves w h e = record {
  holding = n.holding;
  holds = refl;
  free = ap (λ (x : Holding). x.work) h;
  opened = ap (λ (x : WriterView). is_writing x.phase) w ∙ serves.opened;
  epoch_is = ap (λ (x : WriterView). x.epoch) w ∙ sym e;
}

pub standby_serves_not : (n : NameView) → is_writing n.writer.phase ≡ false → IsNotActive (seen_name n)
standby_serves_not n e epoch h = true≢false (sym h.opened ∙ e)

pub broken_serves_not : (images : List Image) (at : StandbyView) (n : NameView) → n.holding ≡ with_work Broken (held images at) → IsNotActive (seen_name n)
broken_serves_not images at n e epoch h =
    let here : n.holding ≡ h.holding = cc h.holds in
    let same : Broken ≡ Free = ap (λ (x : Holding). x.work) (sym e ∙ here) ∙ h.free in
    cc same

pub ruleset activity = (serves_in, standby_serves_not, broken_serves_not)

pub unnamed_serves_not : (v : ActorView) → v.holds ≡ None → IsNotActive v
unnamed_serves_not v e epoch h =
    let same : None ≡ Some h.holding = sym e ∙ h.holds in
    cc same

pub ruleset no_activity = (unnamed_serves_not)

-- An actor that is a name node is active just where the node is.
pub named_serves : (result : Option ℕ) (n : NameView) (v : ActorView) → MatchOption result (IsNotActive (seen_name n)) (IsActiveIn (seen_name n)) → v ≡ seen_name n
    → MatchOption result (IsNotActive v) (IsActiveIn v)
named_serves result n v h e = subst (λ (a : ActorView). MatchOption result (IsNotActive a) (IsActiveIn a)) (sym e) h
