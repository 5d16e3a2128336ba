-- What a crash in the middle of a session leaves, and what the session writes: its moments are those
-- of its requests, one after the other.
use Rattle.std.proofs.Common.{◌≡◌, ℕ, suc, zero, List, [], ◌∷◌, Bool, true, false, Option, Some, None, refl, sym, ap, subst, ◌∙◌, inl, inr, ◌⊎◌, ◌≤◌, ◌++◌, length, take, arith, ⊎_elim, append_assoc}
use Rattle.std.specs.Prelude.{◌≢◌}
use Rattle.base_disk.specs.Files.{Files}
use Rattle.base_disk.specs.View.{View, IsSound, LeavesOnly}
use Rattle.base_disk.specs.Moments.{started}
use Rattle.base_disk.specs.Runs.{weaker, joined}
use Rattle.journal_core.specs.declared.node_state.NodeState.{NodeState}
use Rattle.journal_core.specs.declared.request.Request.{Request}
use Rattle.journal_core.specs.declared.reply.Reply.{Reply}
use Rattle.journal_core.specs.declared.reply.Reply.TheVariants as reply
use Rattle.journal_core.specs.declared.refusal.Refusal.TheVariants as refusal
use Rattle.journal_core.specs.Effects.{after_effects}
use Rattle.journal_core.specs.Step.{Stepped, node_step, effects_of, restarted}
use Rattle.journal_text.specs.Reading.{reading_of}
use Rattle.journal_text.specs.Texts.{reply_text}
use Rattle.journal_text.specs.declared.request_line.ReadRequest.TheVariants.{Read}
use Rattle.disk_segment.specs.declared.segment_row.SegmentRow.{SegmentRow}
use Rattle.disk_files.specs.Durable.{StandsAs}
use Rattle.disk_node.specs.Held.{StandsStopped}
use Rattle.disk_node.specs.Node.{NodeParts, IsUp, HasState}
use Rattle.disk_node.specs.Acted.{IsActed}
use Rattle.disk_node.specs.Opening.{IsOpenedNode, StandsAsBefore}
use Rattle.disk_node.proofs.ActingDone.{up_of, has_up}
use Rattle.disk_node.proofs.ActingAnswer.{up_stands}
use Rattle.journal_session.specs.Session.{AreAnswered, Asks}
use Rattle.journal_session.specs.Asking.{IsWell, AreAsked, IsAskedLast, IsTrail}
use Rattle.journal_session.specs.declared.served.Served.{Served}
use Rattle.journal_history.proofs.CellCode.{step_up}
use Rattle.cli_commands.specs.Crashes.{StandsInside, with_next, OutlastsCrashes, WasAsked}
use Rattle.cli_commands.specs.Serving.{IsPartBehind, AreReplied}

-- ## Files inside some lines
-- stopped inside the first line
in_first : (s : NodeState) (line : List ℕ) (lines : List (List ℕ)) (c : Files) → Asks line (λ r. StandsStopped s (effects_of s r) c) → StandsInside s (line ∷ lines) 0 c
in_first s line lines c in_line = record {
  count = 0;
  enough = omega arith;
  within = omega arith;
  replies = [];
  state = s;
  answered = (refl, refl);
  stands = in_line;
}

-- stopped inside those after the first
pub in_rest : (s : NodeState) (line : List ℕ) (lines : List (List ℕ)) (r : Request) (least : ℕ) (c : Files) → reading_of line ≡ Read r → StandsInside (node_step s r).state lines least c
    → StandsInside s (line ∷ lines) (suc least) c
in_rest s line lines r least c reads is = record {
  count = suc is.count;
  enough = omega (arith, is.enough);
  within = omega (arith, is.within);
  replies = reply_text (node_step s r).reply ++ 10 ∷ is.replies;
  state = is.state;
  answered = (r, reads, is.replies, refl, is.answered);
  stands = is.stands;
}

in_any : (s : NodeState) (lines : List (List ℕ)) (least : ℕ) (c : Files) → StandsInside s lines least c → StandsInside s lines 0 c
in_any s lines least c is = record {
  count = is.count;
  enough = omega arith;
  within = is.within;
  replies = is.replies;
  state = is.state;
  answered = is.answered;
  stands = is.stands;
}

none_done : (s : NodeState) (r : Request) (c : Files) → StandsAs c s → StandsStopped s (effects_of s r) c
unfolding after_effects
none_done s r c stands = record { count = 0; within = omega arith; stands = stands }

pub now_in : (s : NodeState) (line : List ℕ) (lines : List (List ℕ)) (r : Request) (c : Files) → reading_of line ≡ Read r → StandsAs c s → StandsInside s (line ∷ lines) 0 c
now_in s line lines r c reads stands = in_first s line lines c (record { request = r; reads = reads; so = none_done s r c stands })

-- ## One request
up_if : (b : Bool) (v : View) (m : NodeState) (rows : List SegmentRow) (s : NodeState) → s.up ≡ true → HasState b v m rows s → b ≡ true
up_if true v m rows s up has = refl
up_if false v m rows s up has =
    let down : s.up ≡ false = ap (λ (x : NodeState). x.up) has.state in
    absurd (cc (up, down))

none_within : (n : ℕ) → suc n ≤ 0 → ⊥
none_within n le = omega (arith, le)

-- the node is up with this state, over a disk that tells its bytes
pub record IsAt {D : Type 0} (tells : D → Type 0) (view : D → View) (n : NodeParts D) (s : NodeState) : Type 0 where
  pub told : tells n.disk
  pub sound : IsSound (view n.disk)
  pub up : IsUp (view n.disk) n.memory n.rows s
  pub is_up : s.up ≡ true
  pub memory_up : n.memory.up ≡ true

module _ {D : Type 0} (tells : D → Type 0) (view : D → View) where
  step_moments : (n m : NodeParts D) (s : NodeState) (r : Request) (a : Reply) → IsAt tells view n s → IsActed tells view n r a m
      → LeavesOnly (view n.disk) (view m.disk) (StandsStopped s (effects_of s r))
  step_moments n m s r a is acted = acted.moments is.told s is.up

  step_at : (n m : NodeParts D) (s : NodeState) (r : Request) (a : Reply) → IsAt tells view n s → IsActed tells view n r a m
      → a ≢ reply.Refused refusal.DiskFault → a ≢ reply.Refused refusal.OutOfMemory
      → IsAt tells view m (node_step s r).state
  step_at n m s r a is acted no_fault no_want =
      let went = acted.goes is.told s (has_up (view n.disk) n.memory n.rows s is.memory_up is.up) in
      let same : went.0 ≡ (node_step s r).state = sym (ap (λ (x : Stepped). x.state) (went.2.step no_want no_fault)) in
      let has = subst (λ (t : NodeState). HasState m.memory.up (view m.disk) m.memory m.rows t) same went.1 in
      let up : (node_step s r).state.up ≡ true = step_up s r ∙ is.is_up in
      let memory : m.memory.up ≡ true = up_if m.memory.up (view m.disk) m.memory m.rows (node_step s r).state up has in
      let still = acted.tells_still is.told in
      record {
        told = still;
        sound = acted.sound still;
        up = up_of (view m.disk) m.memory m.rows (node_step s r).state memory has;
        is_up = up;
        memory_up = memory;
      }

  -- stopped inside the first line, after what was so far
  first_moments : (v0 : View) (P : Files → Type 0) (n m : NodeParts D) (s : NodeState) (r : Request) (a : Reply) → IsAt tells view n s → LeavesOnly v0 (view n.disk) P → IsActed tells view n r a m
      → LeavesOnly v0 (view m.disk) (λ c. P c ⊎ StandsStopped s (effects_of s r) c)
  first_moments v0 P n m s r a is so_far acted = joined v0 (view n.disk) (view m.disk) P (StandsStopped s (effects_of s r)) so_far (step_moments n m s r a is acted)

  -- ## All moments
  moments : (lines : List (List ℕ)) (next : Option (List ℕ)) (v0 : View) (P : Files → Type 0) (n mid m : NodeParts D) (s : NodeState) (text part : List ℕ) → IsAt tells view n s
      → LeavesOnly v0 (view n.disk) P → AreAsked (IsActed tells view) lines text n mid → IsAskedLast (IsActed tells view) next part mid m
      → LeavesOnly v0 (view m.disk) (λ c. P c ⊎ StandsInside s (with_next lines next) 0 c)
  moments [] None v0 P n mid m s text part is so_far asked last =
      subst (λ (x : NodeParts D). LeavesOnly v0 (view x.disk) (λ c. P c ⊎ StandsInside s [] 0 c)) (sym (last.1 ∙ asked.1))
      (weaker v0 (view n.disk) P (λ c. P c ⊎ StandsInside s [] 0 c) (λ c p. inl p) so_far)
  moments [] (Some line) v0 P n mid m s text part is so_far asked last =
      let r = last.request in
      let acted : IsActed tells view n r last.so.0 m = subst (λ (x : NodeParts D). IsActed tells view x r last.so.0 m) asked.1 last.so.1 in
      weaker v0 (view m.disk) (λ c. P c ⊎ StandsStopped s (effects_of s r) c) (λ c. P c ⊎ StandsInside s (line ∷ []) 0 c)
      (λ c. ⊎_elim (λ p. inl p) (λ q. inr (in_first s line [] c (record { request = r; reads = last.reads; so = q }))))
      (first_moments v0 P n m s r last.so.0 is so_far acted)
  moments (line ∷ lines) next v0 P n mid m s text part is so_far asked last =
      let r = asked.asked.request in
      let reads = asked.asked.reads in
      let so = asked.asked.so in
      let rest = with_next lines next in
      weaker v0 (view m.disk) (λ c. (P c ⊎ StandsStopped s (effects_of s r) c) ⊎ StandsInside (node_step s r).state rest 0 c) (λ c. P c ⊎ StandsInside s (line ∷ rest) 0 c)
      (λ c. ⊎_elim (⊎_elim (λ p. inl p) (λ q. inr (in_first s line rest c (record { request = r; reads = reads; so = q }))))
      (λ i. inr (in_any s (line ∷ rest) 1 c (in_rest s line rest r 0 c reads i))))
      (moments lines next v0 (λ c. P c ⊎ StandsStopped s (effects_of s r) c) asked.node mid m (node_step s r).state asked.behind part (step_at n asked.node s r so.0 is so.1 so.2.0 so.2.1)
      (first_moments v0 P n asked.node s r so.0 is so_far so.1) asked.rest last)

  now_inside : (lines : List (List ℕ)) (next : Option (List ℕ)) (n mid m : NodeParts D) (s : NodeState) (text part : List ℕ) (c : Files) → AreAsked (IsActed tells view) lines text n mid
      → IsAskedLast (IsActed tells view) next part mid m → StandsAs c s → StandsInside s (with_next lines next) 0 c
  now_inside [] None n mid m s text part c asked last stands =
      record { count = 0; enough = omega arith; within = omega arith; replies = []; state = s; answered = (refl, refl); stands = stands }
  now_inside [] (Some line) n mid m s text part c asked last stands = now_in s line [] last.request c last.reads stands
  now_inside (line ∷ lines) next n mid m s text part c asked last stands = now_in s line (with_next lines next) asked.asked.request c asked.asked.reads stands

  -- of the node as it is
  all_since : (lines : List (List ℕ)) (next : Option (List ℕ)) (n mid m : NodeParts D) (s : NodeState) (text part : List ℕ) → IsAt tells view n s
      → AreAsked (IsActed tells view) lines text n mid → IsAskedLast (IsActed tells view) next part mid m → LeavesOnly (view n.disk) (view m.disk) (StandsInside s (with_next lines next) 0)
  all_since lines next n mid m s text part is asked last =
      let v = view n.disk in
      weaker v (view m.disk) (λ c. StandsAs c s ⊎ StandsInside s (with_next lines next) 0 c) (StandsInside s (with_next lines next) 0)
      (λ c. ⊎_elim (λ stands. now_inside lines next n mid m s text part c asked last stands) (λ i. i))
      (moments lines next v (λ c. StandsAs c s) n mid m s text part is (started v (λ c. StandsAs c s) is.sound (up_stands v n.memory n.rows s is.up)) asked last)

  -- ## The moment when so many lines were answered
  reached : (count : ℕ) (lines : List (List ℕ)) (next : Option (List ℕ)) (v0 : View) (P : Files → Type 0) (n mid m : NodeParts D) (s : NodeState) (text part : List ℕ) → count ≤ length lines
      → IsAt tells view n s → LeavesOnly v0 (view n.disk) P → AreAsked (IsActed tells view) lines text n mid → IsAskedLast (IsActed tells view) next part mid m
      → (d : NodeParts D) × LeavesOnly v0 (view d.disk) (λ c. P c ⊎ StandsInside s (take count lines) 0 c) × LeavesOnly (view d.disk) (view m.disk) (StandsInside s (with_next lines next) count)
  reached zero lines next v0 P n mid m s text part within is so_far asked last = (
    n,
    weaker v0 (view n.disk) P (λ c. P c ⊎ StandsInside s (take 0 lines) 0 c) (λ c p. inl p) so_far,
    all_since lines next n mid m s text part is asked last,
  )
  reached (suc count) [] next v0 P n mid m s text part within is so_far asked last = absurd (none_within count within)
  reached (suc count) (line ∷ lines) next v0 P n mid m s text part within is so_far asked last =
      let r = asked.asked.request in
      let reads = asked.asked.reads in
      let so = asked.asked.so in
      let rest = with_next lines next in
      let front = take count lines in
      let d = reached count lines next v0 (λ c. P c ⊎ StandsStopped s (effects_of s r) c) asked.node mid m (node_step s r).state asked.behind part (omega (arith, within))
      (step_at n asked.node s r so.0 is so.1 so.2.0 so.2.1) (first_moments v0 P n asked.node s r so.0 is so_far so.1) asked.rest last in (
        d.0,
        weaker v0 (view d.0.disk) (λ c. (P c ⊎ StandsStopped s (effects_of s r) c) ⊎ StandsInside (node_step s r).state front 0 c) (λ c. P c ⊎ StandsInside s (line ∷ front) 0 c)
            (λ c. ⊎_elim (⊎_elim (λ p. inl p) (λ q. inr (in_first s line front c (record { request = r; reads = reads; so = q }))))
            (λ i. inr (in_any s (line ∷ front) 1 c (in_rest s line front r 0 c reads i)))) d.1,
        weaker (view d.0.disk) (view m.disk) (StandsInside (node_step s r).state rest count) (StandsInside s (line ∷ rest) (suc count))
            (λ c i. in_rest s line rest r count c reads i) d.2,
      )

  -- ## What was written
  reply_at : (n m : NodeParts D) (s : NodeState) (r : Request) (a : Reply) → IsAt tells view n s → IsActed tells view n r a m
      → a ≢ reply.Refused refusal.DiskFault → a ≢ reply.Refused refusal.OutOfMemory → a ≡ (node_step s r).reply
  reply_at n m s r a is acted no_fault no_want =
      let went = acted.goes is.told s (has_up (view n.disk) n.memory n.rows s is.memory_up is.up) in
      sym (ap (λ (x : Stepped). x.reply) (went.2.step no_want no_fault))

  -- the node's replies are those of the states
  line_at : (n m : NodeParts D) (s : NodeState) (r : Request) (a : Reply) (text : List ℕ) → IsAt tells view n s → IsActed tells view n r a m → IsWell a text
      → text ≡ reply_text (node_step s r).reply ++ 10 ∷ []
  line_at n m s r a text is acted well = well.2 ∙ ap (λ (x : Reply). reply_text x ++ 10 ∷ []) (reply_at n m s r a is acted well.0 well.1)

  pub record AreAnsweredAt (s : NodeState) (lines : List (List ℕ)) (text : List ℕ) (mid : NodeParts D) : Type 0 where
    pub state : NodeState
    pub answered : AreAnswered s lines text state
    pub here : IsAt tells view mid state

  answered_at : (lines : List (List ℕ)) (text : List ℕ) (n mid : NodeParts D) (s : NodeState) → IsAt tells view n s → AreAsked (IsActed tells view) lines text n mid
      → AreAnsweredAt s lines text mid
  answered_at [] text n mid s is asked = record { state = s; answered = (asked.0, refl); here = subst (λ (x : NodeParts D). IsAt tells view x s) (sym asked.1) is }
  answered_at (line ∷ lines) text n mid s is asked =
      let r = asked.asked.request in
      let so = asked.asked.so in
      let rest = answered_at lines asked.behind asked.node mid (node_step s r).state (step_at n asked.node s r so.0 is so.1 so.2.0 so.2.1) asked.rest in
      let spelled : text ≡ reply_text (node_step s r).reply ++ 10 ∷ asked.behind =
      asked.spelled ∙ ap (λ xs. xs ++ asked.behind) (line_at n asked.node s r so.0 asked.reply is so.1 so.2)
      ∙ append_assoc (reply_text (node_step s r).reply) (10 ∷ []) asked.behind in
      record { state = rest.state; answered = (r, asked.asked.reads, asked.behind, spelled, rest.answered); here = rest.here }

  part_at : (next : Option (List ℕ)) (part : List ℕ) (mid m : NodeParts D) (s : NodeState) → IsAt tells view mid s → IsAskedLast (IsActed tells view) next part mid m → IsPartBehind s next part
  part_at None part mid m s is last = last.0
  part_at (Some line) part mid m s is last =
      let r = last.request in
      let so = last.so in
      ⊎_elim (λ e. inl e)
      (λ w. inr (record { request = r; reads = last.reads; so = (w.2.0, w.2.1 ∙ ap (take w.2.0) (line_at mid m s r so.0 w.0 is so.1 w.1)) })) so.2

  replied_at : (lines : List (List ℕ)) (next : Option (List ℕ)) (o : Served) (n m : NodeParts D) (before now : Option (List ℕ)) (s : NodeState) → IsAt tells view n s
      → IsTrail (IsActed tells view) lines next o n m before now → AreReplied s lines next o before now
  replied_at lines next o n m before now s is trail =
      let all = answered_at lines trail.text n trail.node s is trail.answered in record {
        text = trail.text;
        state = all.state;
        answered = all.answered;
        part = trail.part;
        behind = part_at next trail.part trail.node m all.state all.here trail.last;
        written = trail.written;
      }

  -- ## A session from its opening on
  opened_at : (old : D) (n : NodeParts D) → tells n.disk → IsSound (view n.disk) → (is : IsOpenedNode (view old).seen (view n.disk) n.memory n.rows) → IsAt tells view n (restarted is.state)
  opened_at old n tell sound is = record { told = tell; sound = sound; up = is.up; is_up = refl; memory_up = ap (λ (x : NodeState). x.up) is.up.held.memory }

  pub replied_from : (old now : D) (n : NodeParts D) (before : Option (List ℕ)) (lines : List (List ℕ)) (next : Option (List ℕ)) (o : Served) (replied : Option (List ℕ)) → tells n.disk
      → IsSound (view n.disk) → (is : IsOpenedNode (view old).seen (view n.disk) n.memory n.rows) → WasAsked tells view n now before lines next o replied
      → AreReplied (restarted is.state) lines next o before replied
  replied_from old now n before lines next o replied tell sound is was =
      replied_at lines next o n was.last before replied (restarted is.state) (opened_at old n tell sound is) was.trail

  pub outlasts : (old now : D) (n : NodeParts D) (before : Option (List ℕ)) (lines : List (List ℕ)) (next : Option (List ℕ)) (o : Served) (replied : Option (List ℕ)) → tells n.disk
      → IsSound (view n.disk) → (is : IsOpenedNode (view old).seen (view n.disk) n.memory n.rows) → LeavesOnly (view old) (view n.disk) (StandsAsBefore (view old))
      → WasAsked tells view n now before lines next o replied → OutlastsCrashes view old now (restarted is.state) lines next
  outlasts old now n before lines next o replied tell sound is opening was =
      let s = restarted is.state in
      let here = opened_at old n tell sound is in
      let trail = was.trail in
      subst (λ (x : D). OutlastsCrashes view old x s lines next) was.disk (record {
        moments = moments lines next (view old) (StandsAsBefore (view old)) n trail.node was.last s trail.text trail.part here opening trail.answered trail.last;
        reached = λ count within.
            let d = reached count lines next (view old) (StandsAsBefore (view old)) n trail.node was.last s trail.text trail.part within here opening trail.answered trail.last in
            record { disk = d.0.disk; until = d.1; since = d.2 };
      })
