-- What a crash at any moment of a trail leaves in a node's files.
use Rattle.std.proofs.Common.{◌≡◌, ◌≤◌, ◌+◌, ℕ, suc, zero, List, [], ◌∷◌, Bool, true, false, length, take, refl, sym, ap, subst, ◌∙◌, inl, inr, ◌⊎◌, arith, ⊎_elim}
use Rattle.base_disk.specs.Files.{Files}
use Rattle.base_disk.specs.View.{View, IsSound, LeavesOnly}
use Rattle.base_disk.specs.Moments.{started}
use Rattle.base_disk.specs.Runs.{weaker, joined}
use Rattle.journal_core.specs.declared.node_state.NodeState.{NodeState}
use Rattle.journal_core.specs.declared.request.Request.{Request}
use Rattle.journal_core.specs.Answers.{IsAnswer}
use Rattle.journal_core.specs.Effects.{after_effects}
use Rattle.journal_core.specs.Step.{Stepped, node_step, effects_of}
use Rattle.disk_segment.specs.declared.segment_row.SegmentRow.{SegmentRow}
use Rattle.disk_files.specs.Durable.{StandsAs}
use Rattle.disk_node.specs.Held.{StandsStopped}
use Rattle.disk_node.specs.Node.{NodeParts, IsUp, HasState, IsNoFault}
use Rattle.disk_node.specs.Acted.{IsActed}
use Rattle.disk_node.proofs.ActingDone.{up_of, has_up}
use Rattle.disk_node.proofs.ActingAnswer.{up_stands}
use Rattle.journal_history.proofs.CellCode.{step_up}
use Rattle.pipe_serve.specs.Trails.{Call, Line, calls_in, IsTrail}
use Rattle.pipe_serve.specs.Crashes.{AreFine, StandsInside, OutlastsCrashes}

-- ## Files inside some calls
in_first : (s : NodeState) (c : Call) (calls : List Call) (files : Files) → StandsStopped s (effects_of s c.0) files → StandsInside s (c ∷ calls) 0 files
in_first s c calls files stands = record { count = 0; enough = omega arith; within = omega arith; state = s; answered = refl; stands = stands }

in_rest : (s t : NodeState) (c : Call) (calls : List Call) (least : ℕ) (files : Files) → IsAnswer s c.0 c.1 t → StandsInside t calls least files → StandsInside s (c ∷ calls) (suc least) files
in_rest s t c calls least files answer is = record {
  count = suc is.count;
  enough = omega (arith, is.enough);
  within = omega (arith, is.within);
  state = is.state;
  answered = (t, answer, is.answered);
  stands = is.stands;
}

in_any : (s : NodeState) (calls : List Call) (least : ℕ) (files : Files) → StandsInside s calls least files → StandsInside s calls 0 files
in_any s calls least files is = record { count = is.count; enough = omega arith; within = is.within; state = is.state; answered = is.answered; stands = is.stands }

in_none : (s : NodeState) (files : Files) → StandsAs files s → StandsInside s [] 0 files
in_none s files stands = record { count = 0; enough = omega arith; within = omega arith; state = s; answered = refl; stands = stands }

none_done : (s : NodeState) (r : Request) (files : Files) → StandsAs files s → StandsStopped s (effects_of s r) files
unfolding after_effects
none_done s r files stands = record { count = 0; within = omega arith; stands = stands }

now_inside : (s : NodeState) (calls : List Call) (files : Files) → StandsAs files s → StandsInside s calls 0 files
now_inside s [] files stands = in_none s files stands
now_inside s (c ∷ calls) files stands = in_first s c calls files (none_done s c.0 files stands)

-- ## One call
up_if : (b : Bool) (v : View) (m : NodeState) (rows : List SegmentRow) (s : NodeState) → s.up ≡ true → HasState b v m rows s → b ≡ true
up_if true v m rows s up has = refl
up_if false v m rows s up has =
    let down : s.up ≡ false = ap (λ (x : NodeState). x.up) has.state in
    absurd (cc (up, down))

-- the node is up with this state, over a disk that tells its bytes
pub record IsAt {D : Type 0} (tells : D → Type 0) (view : D → View) (n : NodeParts D) (s : NodeState) : Type 0 where
  pub told : tells n.disk
  pub sound : IsSound (view n.disk)
  pub up : IsUp (view n.disk) n.memory n.rows s
  pub is_up : s.up ≡ true
  pub memory_up : n.memory.up ≡ true

-- and with another after a call
record Next {D : Type 0} (tells : D → Type 0) (view : D → View) (m : NodeParts D) (s : NodeState) (c : Call) : Type 0 where
  pub state : NodeState
  pub answer : IsAnswer s c.0 c.1 state
  pub here : IsAt tells view m state

module _ {D : Type 0} (tells : D → Type 0) (is_told : D → Bool) (view : D → View) where
  step_moments : (n m : NodeParts D) (s : NodeState) (c : Call) → IsAt tells view n s → IsActed tells view n c.0 c.1 m
      → LeavesOnly (view n.disk) (view m.disk) (StandsStopped s (effects_of s c.0))
  step_moments n m s c is acted = acted.moments is.told s is.up

  step_at : (n m : NodeParts D) (s : NodeState) (c : Call) → IsAt tells view n s → IsActed tells view n c.0 c.1 m → IsNoFault c.1 → Next tells view m s c
  step_at n m s c is acted fine =
      let went = acted.goes is.told s (has_up (view n.disk) n.memory n.rows s is.memory_up is.up) in
      let same : went.0 ≡ (node_step s c.0).state = sym (ap (λ (x : Stepped). x.state) (went.2.step fine.memory fine.disk)) in
      let up : went.0.up ≡ true = ap (λ (x : NodeState). x.up) same ∙ step_up s c.0 ∙ is.is_up in
      let memory : m.memory.up ≡ true = up_if m.memory.up (view m.disk) m.memory m.rows went.0 up went.1 in
      let still = acted.tells_still is.told in
      record {
        state = went.0;
        answer = went.2;
        here = record { told = still; sound = acted.sound still; up = up_of (view m.disk) m.memory m.rows went.0 memory went.1; is_up = up; memory_up = memory };
      }

  -- ## The moment when so many calls were answered
  reached : (count : ℕ) (trail : List Line) (v0 : D) (P : Files → Type 0) (n m : NodeParts D) (s : NodeState) → count ≤ length (calls_in trail) → AreFine (take count (calls_in trail))
      → IsAt tells view n s → LeavesOnly (view v0) (view n.disk) P → IsTrail tells is_told view trail n m
      → (d e : D) × LeavesOnly (view v0) (view d) (λ c. P c ⊎ StandsInside s (take count (calls_in trail)) 0 c)
      × LeavesOnly (view d) (view e) (StandsInside s (take (suc count) (calls_in trail)) count)
      × (count ≡ length (calls_in trail) → m.disk ≡ d)
  reached zero [] v0 P n m s within fine is so_far trail = (
    n.disk,
    n.disk,
    weaker (view v0) (view n.disk) P (λ c. P c ⊎ StandsInside s [] 0 c) (λ c p. inl p) so_far,
    weaker (view n.disk) (view n.disk) (λ c. StandsAs c s) (StandsInside s [] 0) (λ c. in_none s c)
        (started (view n.disk) (λ c. StandsAs c s) is.sound (up_stands (view n.disk) n.memory n.rows s is.up)),
    λ _. ap (λ (x : NodeParts D). x.disk) trail,
  )
  reached zero (line ∷ lines) v0 P n m s within fine is so_far trail = (
    n.disk,
    trail.0.disk,
    weaker (view v0) (view n.disk) P (λ c. P c ⊎ StandsInside s [] 0 c) (λ c p. inl p) so_far,
    weaker (view n.disk) (view trail.0.disk) (StandsStopped s (effects_of s line.1.0)) (StandsInside s (line.1 ∷ []) 0) (λ c. in_first s line.1 [] c)
        (step_moments n trail.0 s line.1 is trail.1.acted),
    λ e. absurd (omega (arith, e)),
  )
  reached (suc count) [] v0 P n m s within fine is so_far trail = absurd (omega (arith, within))
  reached (suc count) (line ∷ lines) v0 P n m s within fine is so_far trail =
      let c = line.1 in
      let mid = trail.0 in
      let next = step_at n mid s c is trail.1.acted fine.0 in
      let t = next.state in
      let Q : Files → Type 0 = λ f. P f ⊎ StandsStopped s (effects_of s c.0) f in
      let now : LeavesOnly (view v0) (view mid.disk) Q = joined (view v0) (view n.disk) (view mid.disk) P (StandsStopped s (effects_of s c.0)) so_far (step_moments n mid s c is trail.1.acted) in
      let rest = reached count lines v0 Q mid m t (omega (arith, within)) fine.1 next.here now trail.2 in (
        rest.0,
        rest.1,
        weaker (view v0) (view rest.0) (λ f. Q f ⊎ StandsInside t (take count (calls_in lines)) 0 f) (λ f. P f ⊎ StandsInside s (c ∷ take count (calls_in lines)) 0 f)
            (λ f. ⊎_elim (⊎_elim (λ p. inl p) (λ q. inr (in_first s c (take count (calls_in lines)) f q)))
            (λ i. inr (in_any s (c ∷ take count (calls_in lines)) 1 f (in_rest s t c (take count (calls_in lines)) 0 f next.answer i)))) rest.2,
        weaker (view rest.0) (view rest.1) (StandsInside t (take (suc count) (calls_in lines)) count) (StandsInside s (c ∷ take (suc count) (calls_in lines)) (suc count))
            (λ f i. in_rest s t c (take (suc count) (calls_in lines)) count f next.answer i) rest.3,
        λ e. rest.4 (omega (arith, e)),
      )

  -- from a node that is up on
  pub outlasts : (trail : List Line) (n m : NodeParts D) → IsTrail tells is_told view trail n m → tells n.disk → IsSound (view n.disk) → n.memory.up ≡ true → (s : NodeState)
      → IsUp (view n.disk) n.memory n.rows s → OutlastsCrashes view n.disk m.disk s (calls_in trail)
  outlasts trail n m goes tell sound memory_up s up count within fine =
      let here : IsAt tells view n s = record { told = tell; sound = sound; up = up; is_up = sym (ap (λ (x : NodeState). x.up) up.held.memory) ∙ memory_up; memory_up = memory_up } in
      let first = started (view n.disk) (λ c. StandsAs c s) sound (up_stands (view n.disk) n.memory n.rows s up) in
      let one_more : suc count ≡ count + 1 = omega arith in
      let r = reached count trail n.disk (λ c. StandsAs c s) n m s within fine here first goes in record {
        disk = r.0;
        next = r.1;
        until = weaker (view n.disk) (view r.0) (λ c. StandsAs c s ⊎ StandsInside s (take count (calls_in trail)) 0 c) (StandsInside s (take count (calls_in trail)) 0)
            (λ c. ⊎_elim (λ stands. now_inside s (take count (calls_in trail)) c stands) (λ i. i)) r.2;
        since = subst (λ (n : ℕ). LeavesOnly (view r.0) (view r.1) (StandsInside s (take n (calls_in trail)) count)) one_more r.3;
        last = r.4;
      }
