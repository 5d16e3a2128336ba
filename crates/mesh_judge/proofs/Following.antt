-- Candidates along a record, line by line.
use Rattle.std.proofs.Common.{◌≡◌, ℕ, zero, suc, ◌+◌, ◌<◌, ◌≤◌, List, [], ◌∷◌, Bool, Decides, length, get_or, drop, sym, subst, arith, inl, inr}
use Rattle.std.proofs.lemmas.List.{drop_all}
use Rattle.journal_core.specs.declared.request.Request.{Request}
use Rattle.writer_core.specs.Writer.{new_writer}
use Rattle.journal_history.specs.declared.node_ask.NodeAsk.{NodeAsk}
use Rattle.journal_history.specs.declared.record.Record.{Record}
use Rattle.journal_history.specs.declared.record.Record.TheVariants.{Call, Late, Operator, Outcome}
use Rattle.journal_history.specs.declared.record.Told.{Told}
use Rattle.mesh.specs.Makers.{IsMade, HaveBodies, IsOfChores}
use Rattle.mesh.specs.Matches.{IsWithin, AreWithin}
use Rattle.mesh_judge.specs.declared.making.Candidate.{Candidate}
use Rattle.mesh_judge.specs.Leading.{Stand, stand_of, stands_of, between, CanMake, SomeMake, AllLive, all_go_on, MakeAlike, Follows}
use Rattle.mesh_judge.proofs.Deciding.{front}
use Rattle.mesh_judge.proofs.Leading.{some_map, nobody, all_on, all_back, live_all}

-- ## One line
pub follows_call : (nodes node : ℕ) (r : Request) (t : Told) (those these : List Stand) → IsWithin nodes (Call node r t) → (0 < nodes → AllLive those) → MakeAlike (all_go_on those node r t) these
    → Follows nodes those (Call node r t) these
follows_call nodes node r t those these within live alike = record {
  on = λ rs h. alike.on rs (all_on those node r t rs (live (omega (arith, within.0, within.1))) h);
  back = λ rs h. all_back those node r t rs (alike.back rs h);
  live = λ z. alike.live (live_all those node r t (live z));
}

late_on : (node : ℕ) (r : Request) (rs : List Record) (s : Stand) → CanMake s (Late node r ∷ rs) → CanMake s rs
unfolding IsMade
late_on node r rs s h = h

late_back : (node : ℕ) (r : Request) (rs : List Record) (s : Stand) → CanMake s rs → CanMake s (Late node r ∷ rs)
unfolding IsMade
late_back node r rs s h = h

pub follows_late : (nodes node : ℕ) (r : Request) (those : List Stand) → (0 < nodes → AllLive those) → Follows nodes those (Late node r) those
follows_late nodes node r those live = record {
  on = λ rs h. some_map those (Late node r ∷ rs) rs (late_on node r rs) h;
  back = λ rs h. some_map those rs (Late node r ∷ rs) (late_back node r rs) h;
  live = live;
}

outcome_on : (text : List ℕ) (rs : List Record) (s : Stand) → CanMake s (Outcome text ∷ rs) → CanMake s rs
unfolding IsMade
outcome_on text rs s h = h

outcome_back : (text : List ℕ) (rs : List Record) (s : Stand) → CanMake s rs → CanMake s (Outcome text ∷ rs)
unfolding IsMade
outcome_back text rs s h = h

pub follows_outcome : (nodes : ℕ) (text : List ℕ) (those : List Stand) → (0 < nodes → AllLive those) → Follows nodes those (Outcome text) those
follows_outcome nodes text those live = record {
  on = λ rs h. some_map those (Outcome text ∷ rs) rs (outcome_on text rs) h;
  back = λ rs h. some_map those rs (Outcome text ∷ rs) (outcome_back text rs) h;
  live = live;
}

no_operator : (node : ℕ) (ask : NodeAsk) (done : Bool) (rs : List Record) (s : Stand) → CanMake s (Operator node ask done ∷ rs) → ⊥
unfolding IsMade
no_operator node ask done rs s (cs, bodies, h) = h

pub follows_operator : (nodes node : ℕ) (ask : NodeAsk) (done : Bool) (those : List Stand) → Follows nodes those (Operator node ask done) []
follows_operator nodes node ask done those = record {
  on = λ rs h. absurd (nobody those (Operator node ask done ∷ rs) (no_operator node ask done rs) h);
  back = λ rs h. absurd h;
  live = λ z. tt;
}

-- ## All lines
-- so many lines are followed
pub record Led (nodes : ℕ) (rs : List Record) (i : ℕ) (ss : List Stand) : Type 0 where
  pub on : IsOfChores nodes rs → SomeMake ss (drop i rs)
  pub back : SomeMake ss (drop i rs) → IsOfChores nodes rs
  pub live : 0 < nodes → AllLive ss

only : (nodes : ℕ) (rs : List Record) → SomeMake (between (new_writer nodes) ∷ []) rs → IsOfChores nodes rs
only nodes rs (inl h) = h
only nodes rs (inr h) = absurd h

pub led_more : (nodes i : ℕ) (rs : List Record) (r : Record) (those these : List Stand) → i < length rs → r ≡ get_or rs i r
    → Follows nodes those r these → Led nodes rs i those → Led nodes rs (i + 1) these
led_more nodes i rs r those these l is f h =
    let e = front i rs r l is in
    record {
      on = λ g. f.on (drop (i + 1) rs) (subst (SomeMake those) e (h.on g));
      back = λ g. h.back (subst (SomeMake those) (sym e) (f.back (drop (i + 1) rs) g));
      live = f.live;
    }

pub line_within : (nodes i : ℕ) (rs : List Record) (r : Record) → AreWithin nodes rs → i < length rs → r ≡ get_or rs i r → IsWithin nodes r
unfolding AreWithin
line_within nodes i [] r w l is = absurd (omega (arith, l))
line_within nodes zero (x ∷ rs) r w l is = subst (IsWithin nodes) (sym is) w.0
line_within nodes (suc i) (x ∷ rs) r w l is = line_within nodes i rs r w.1 (omega (arith, l)) is

ends : (s : Stand) → CanMake s []
unfolding IsMade HaveBodies
ends s = ([], tt, tt)

none_left : (nodes i : ℕ) (rs : List Record) → length rs ≤ i → Led nodes rs i [] → IsOfChores nodes rs → ⊥
none_left nodes i rs l h g = h.on g

some_left : (nodes i : ℕ) (rs : List Record) (s : Stand) (ss : List Stand) → length rs ≤ i → Led nodes rs i (s ∷ ss) → IsOfChores nodes rs
some_left nodes i rs s ss l h = h.back (subst (SomeMake (s ∷ ss)) (sym (drop_all i rs l)) (inl (ends s)))

pub led_ends : (nodes i : ℕ) (rs : List Record) (cs : List Candidate) (b : Bool) → length rs ≤ i → Led nodes rs i (stands_of cs) → Decides b (0 < length cs) → Decides b (IsOfChores nodes rs)
led_ends nodes i rs [] b l h d = (λ e. absurd (let z : 0 < 0 = d.0 e in omega (arith, z)), λ g. absurd (none_left nodes i rs l h g))
led_ends nodes i rs (c ∷ cs) b l h d = (λ e. some_left nodes i rs (stand_of c) (stands_of cs) l h, λ g. d.1 (omega arith))
