-- A takeover that a majority of nodes serves: what comes from elsewhere leaves its course.
use Rattle.std.proofs.Common.{◌≡◌, ℕ, ◌<◌, ◌≤◌, ◌⊎◌, inl, inr, List, [], ◌∷◌, ◌++◌, true, false, refl, sym, ap, ◌∙◌, subst, arith, Option, Some, None}
use Rattle.std.proofs.lemmas.Bool.{cases_eq, and_parts, or_cases, eqb-true}
use Rattle.journal_core.specs.Views.{HeadView}
use Rattle.journal_core.specs.Limits.{head_of}
use Rattle.journal_core.specs.Step.{node_step}
use Rattle.journal_core.specs.declared.node_state.NodeState.{NodeState}
use Rattle.journal_core.specs.declared.request.Request.{Request}
use Rattle.journal_core.specs.declared.request.Request.TheVariants as request
use Rattle.journal_core.specs.declared.reply.Reply.{Reply}
use Rattle.journal_core.specs.declared.reply.Reply.TheVariants as reply
use Rattle.journal_core.specs.declared.heard.Heard.TheVariants.{Answer}
use Rattle.writer_core.specs.declared.round.Round.{Round}
use Rattle.writer_core.specs.declared.round.Round.TheVariants as round
use Rattle.writer_core.specs.declared.phase.Phase.TheVariants as phase
use Rattle.writer_core.specs.declared.phase.Aim.TheVariants as aim
use Rattle.writer_core.specs.declared.slot.Slot.TheVariants.{Waiting, Told}
use Rattle.writer_core.specs.Views.{WriterView}
use Rattle.writer_core.specs.Answers.{fits_round}
use Rattle.run_safety.specs.Majority.{Member, IsMajority}
use Rattle.journal_history.specs.Moving.{epoch_of}
use Rattle.journal_history.specs.Same.{same_request}
use Rattle.journal_history.specs.Entries.{Entry, node_after}
use Rattle.run_safety.specs.Actings.{CallMade, Acting, was_made}
use Rattle.run_world.specs.World.{World, acting_at}
use Rattle.run_safety.proofs.Slots.{none≢some, some_same, true≢false, At}
use Rattle.journal_history.proofs.SameLaws.{request_same}
use Rattle.run_safety.proofs.CallLeft.{HasEpoch}
use Rattle.run_world.proofs.Touches.{touched}
use Rattle.run_safety.proofs.Tales.{Tale}
use Rattle.run_safety.proofs.Tracked.{Tracked, is_free, Status, free, asking, tracked}
use Rattle.run_world.proofs.Duties.{Off, AreOld, Due, Ready, After, Part, waits, told, Voted, Voter, IsOutside}
use Rattle.run_world.proofs.Duties as duties
use Rattle.run_world.proofs.Passing.{AreIn, Facts, Way, goes, writes, AreLow}
use Rattle.run_world.proofs.Rivals.{within, owned, voted, Rival, rival}
use Rattle.run_world.proofs.WorldNodes.{entries}
use Rattle.run_world.proofs.WorldEntries.{state_at}
use Rattle.run_safety.proofs.WorldActs.{IsMadeBy}
use Rattle.run_world.proofs.WorldRuns.{Runs, runs_follow}
use Rattle.run_world.proofs.NodeFacts.{state, Changed, still, by_request, fell}

-- a node's part while the promises are asked for
pub data Teller (v : WriterView) (i : ℕ) : Type 0 where
  silent : At 1 v.slots i Waiting → Teller v i
  tells : (x : Reply) → At 1 v.slots i (Told (Answer x)) → fits_round round.State x ≡ true → Teller v i

-- Some node that is still to be asked has promised the epoch, or a higher one: the proposal will be
-- refused there.
pub record Doomed (nodes : List ℕ) (s : ℕ → NodeState) (v : WriterView) : Type 0 where
  pub node : ℕ
  pub member : Member node nodes
  pub waits_still : At 1 v.slots node Waiting
  pub promised : v.epoch ≤ (s node).promised

-- ## The course of a takeover
pub data Course (nodes : List ℕ) (s : ℕ → NodeState) (x : Acting) : Type 0 where
  asks : x.writer.phase ≡ phase.InRound round.State → x.writer.aim ≡ aim.Takeover → AreIn nodes x.writer.left → AreLow x.writer.slots
      → ((i : ℕ) → Member i nodes → Teller x.writer i) → Course nodes s x
  proposes : x.writer.phase ≡ phase.InRound round.Propose → x.writer.aim ≡ aim.Takeover → x.writer.serial ≡ 0 → AreIn nodes x.writer.left
      → Doomed nodes s x.writer ⊎ ((i : ℕ) → Member i nodes → Voter x.writer (s i) i) → Course nodes s x
  on : Way nodes s x.calls x.writer → Course nodes s x

-- ## What comes from elsewhere
-- the request has no epoch, or was made by somebody; what the actor itself made is among its calls
pub data Foreign (n : ℕ) (a : Tale) (past : List Entry) (c i : ℕ) (calls : List CallMade) (q : Request) : Type 0 where
  no_epoch : (HasEpoch q → ⊥) → Foreign n a past c i calls q
  made_by : (d : ℕ) → (HasEpoch q → IsMadeBy n a past d i q) → (d ≡ c → was_made i q calls ≡ true) → Foreign n a past c i calls q

pub data Outside (n : ℕ) (a : Tale) (past : List Entry) (c i : ℕ) (calls : List CallMade) (s t : NodeState) : Type 0 where
  left : t ≡ s → Outside n a past c i calls s t
  asked : (q : Request) → Foreign n a past c i calls q → Changed s q t → Outside n a past c i calls s t
  down : t.up ≡ false → Outside n a past c i calls s t

-- the actor made no call more, or one that reads
pub data SameCalls (old new : List CallMade) : Type 0 where
  none : new ≡ old → SameCalls old new
  reads : (y : CallMade) → head_of y.request ≡ None → new ≡ old ++ y ∷ [] → SameCalls old new

pub head_epoch : (q : Request) (h : HeadView) → head_of q ≡ Some h → HasEpoch q
unfolding epoch_of
head_epoch request.State h e = none≢some h e
head_epoch (request.NewEpoch epoch) h e = none≢some h e
head_epoch (request.Start head start) h e = refl
head_epoch (request.Journal head start batch) h e = refl
head_epoch (request.Finalize head start end) h e = refl
head_epoch (request.Prepare head start) h e = refl
head_epoch (request.Fetch head start from) h e = refl
head_epoch (request.Accept head batch) h e = refl
head_epoch (request.Purge head min) h e = refl
head_epoch (request.Read from) h e = none≢some h e
head_epoch request.Manifest h e = none≢some h e

-- what was made is old
old_get : (i epoch top : ℕ) (calls : List CallMade) (q : Request) (h : HeadView) → AreOld i epoch top calls → was_made i q calls ≡ true → head_of q ≡ Some h → h.epoch ≡ epoch → h.serial ≤ top
old_get i epoch top [] q h a e at same = true≢false (sym e)
old_get i epoch top (x ∷ calls) q h a e at same = elim (or_cases _ (was_made i q calls) e) [
  | inl f ↦ (let p = and_parts _ (same_request x.request q) f in a.0 (eqb-true x.node i p.0) h (ap head_of (request_same x.request q p.1) ∙ at) same)
  | inr f ↦ old_get i epoch top calls q h a.1 f at same
]

old_same : (i epoch top : ℕ) (old new : List CallMade) → SameCalls old new → AreOld i epoch top old → AreOld i epoch top new
old_same i epoch top old new (none e) a = subst (λ l. AreOld i epoch top l) (sym e) a
old_same i epoch top old new (reads y head e) a = subst (λ l. AreOld i epoch top l) (sym e) (more old a)
  where
    more : (xs : List CallMade) → AreOld i epoch top xs → AreOld i epoch top (xs ++ y ∷ [])
    more [] b = (λ at h is same. none≢some h (sym head ∙ is), tt)
    more (x ∷ xs) b = (b.0, more xs b.1)

-- for all nodes of a list, or for some
all_or : (D : Type 0) (P : ℕ → Type 0) (xs : List ℕ) → ((i : ℕ) → Member i xs → D ⊎ P i) → D ⊎ ((i : ℕ) → Member i xs → P i)
all_or D P [] f = inr (λ i m. absurd m)
all_or D P (x ∷ xs) f = by (f x (inl refl)) (all_or D P xs (λ i m. f i (inr m)))
  where
    by : D ⊎ P x → D ⊎ ((i : ℕ) → Member i xs → P i) → D ⊎ ((i : ℕ) → Member i (x ∷ xs) → P i)
    by (inl d) rest = inl d
    by (inr p) (inl d) = inl d
    by (inr p) (inr rest) = inr (λ i. elim [ inl same ↦ subst P same p | inr m ↦ rest i m ])

module _ (n c : ℕ) (nodes : List ℕ) (majority : IsMajority n nodes) (w : World) (h : Runs n w) where
  abbrev past : List Entry
  past = entries w.trace

  abbrev x : Acting
  x = acting_at c w

  -- the takeover that the writer is in
  pub its_takeover : (r : Round) → (acting_at c w).writer.phase ≡ phase.InRound r → (r ≡ round.State → ⊥) → Tracked n h.tale (entries w.trace) c (acting_at c w).writer
  its_takeover r is off = by (h.all c).status
    where
      by : Status n h.tale (entries w.trace) c (acting_at c w).writer → Tracked n h.tale (entries w.trace) c (acting_at c w).writer
      by (free e) = absurd (true≢false (sym e ∙ ap is_free is))
      by (asking p e f) = absurd (off (one (sym is ∙ p)))
        where
          one : phase.InRound r ≡ phase.InRound round.State → r ≡ round.State
          one e = cc
      by (tracked t) = t

  -- ## A round under way
  outside_is : (i : ℕ) (r : Round) (q : Request) (s : NodeState) → (acting_at c w).writer.phase ≡ phase.InRound r → (r ≡ round.State → ⊥) → 0 < (acting_at c w).writer.serial
      → Foreign n h.tale (entries w.trace) c i (acting_at c w).calls q → AreOld i (acting_at c w).writer.epoch s.serial (acting_at c w).calls → IsOutside (acting_at c w).writer.epoch s q
  outside_is i r q s is off pos (no_epoch none_it) old = λ hd at same lt. none_it (head_epoch q hd at)
  outside_is i r q s is off pos (made_by d made mine) old = λ hd at same lt.
      let t : Tracked n h.tale (entries w.trace) c (acting_at c w).writer = its_takeover r is off in
      let m : IsMadeBy n h.tale (entries w.trace) d i q = made (head_epoch q hd at) in
      let one : d ≡ c = owned n h.tale (entries w.trace) (runs_follow n w h) c (acting_at c w).writer t r m.0 m.1 d i q hd
      (within n h.tale (entries w.trace) (runs_follow n w h) c (acting_at c w).writer t r is) pos m.2 at same in
      let le : hd.serial ≤ s.serial = old_get i (acting_at c w).writer.epoch s.serial (acting_at c w).calls q hd old (mine one) at same in
      omega (arith, le, lt)

  off_keeps : (epoch : ℕ) (s t : NodeState) → s.up ≡ true → s.promised ≤ t.promised → Off epoch s → Off epoch t
  off_keeps epoch s t up le (inl l) = inl (omega (arith, l, le))
  off_keeps epoch s t up le (inr d) = true≢false (sym up ∙ d)

  outside_leaves : (i : ℕ) (r : Round) (s t : NodeState) → (acting_at c w).writer.phase ≡ phase.InRound r → (r ≡ round.State → ⊥)
      → 0 < (acting_at c w).writer.serial → s.promised ≡ (acting_at c w).writer.epoch
      → AreOld i (acting_at c w).writer.epoch s.serial (acting_at c w).calls → Outside n h.tale (entries w.trace) c i (acting_at c w).calls s t → (t ≡ s) ⊎ Off (acting_at c w).writer.epoch t
  outside_leaves i r s t is off pos bound old (left e) = inl e
  outside_leaves i r s t is off pos bound old (down d) = inr (inr d)
  outside_leaves i r s t is off pos bound old (asked q f (still e)) = inl e
  outside_leaves i r s t is off pos bound old (asked q f (fell d)) = inr (inr d)
  outside_leaves i r s t is off pos bound old (asked q f (by_request e)) =
      subst (λ z. (z ≡ s) ⊎ Off (acting_at c w).writer.epoch z) (sym e) (touched s q (acting_at c w).writer.epoch bound (outside_is i r q s is off pos f old))

  part_keeps : (i : ℕ) (r : Round) (s t : NodeState) (calls : List CallMade) → (acting_at c w).writer.phase ≡ phase.InRound r → (r ≡ round.State → ⊥)
      → 0 < (acting_at c w).writer.serial → s.up ≡ true → s.promised ≤ t.promised
      → Outside n h.tale (entries w.trace) c i (acting_at c w).calls s t → SameCalls (acting_at c w).calls calls
      → Part r (acting_at c w).writer s (acting_at c w).calls i → Part r (acting_at c w).writer t calls i
  part_keeps i r s t calls is off pos up le o same (waits at p) = waits at (by p)
    where
      v : WriterView
      v = (acting_at c w).writer

      by : Off (acting_at c w).writer.epoch s ⊎ Ready r (acting_at c w).writer s (acting_at c w).calls i → Off (acting_at c w).writer.epoch t ⊎ Ready r (acting_at c w).writer t calls i
      by (inl f) = inl (off_keeps (acting_at c w).writer.epoch s t up le f)
      by (inr k) = elim (outside_leaves i r s t is off pos k.bound k.old o) [
        | inl e ↦ inr (subst (λ z. Ready r (acting_at c w).writer z calls i) (sym e)
            (record {
              bound = k.bound;
              serial = k.serial;
              due = k.due;
              old = old_same i (acting_at c w).writer.epoch s.serial (acting_at c w).calls calls same k.old;
            }))
        | inr f ↦ inl f
      ]
  part_keeps i r s t calls is off pos up le o same (told y at kind numbers p) = told y at kind numbers (by p)
    where
      by : Off (acting_at c w).writer.epoch s ⊎ After r (acting_at c w).writer s (acting_at c w).calls i y → Off (acting_at c w).writer.epoch t ⊎ After r (acting_at c w).writer t calls i y
      by (inl f) = inl (off_keeps (acting_at c w).writer.epoch s t up le f)
      by (inr k) = elim (outside_leaves i r s t is off pos k.bound k.old o) [
        | inl e ↦ inr (subst (λ z. After r (acting_at c w).writer z calls i y) (sym e)
            (record {
              bound = k.bound;
              serial = k.serial;
              had = k.had;
              old = old_same i (acting_at c w).writer.epoch s.serial (acting_at c w).calls calls same k.old;
            }))
        | inr f ↦ inl f
      ]

  -- ## While the epoch is proposed
  doom_of : (states : ℕ → NodeState) (t : Tracked n h.tale (entries w.trace) c (acting_at c w).writer) → (acting_at c w).writer.phase ≡ phase.InRound round.Propose
      → ((i : ℕ) → Member i nodes → Voter (acting_at c w).writer (state w i) i) → ((i : ℕ) → Member i nodes → (state w i).promised ≤ (states i).promised)
      → Rival n h.tale (entries w.trace) (runs_follow n w h) c (acting_at c w).writer t nodes → Doomed nodes states (acting_at c w).writer
  doom_of states t is voters le v = by (voters v.node v.member)
    where
      within_it : (1 ≤ v.node) × (v.node ≤ n)
      within_it = majority.within v.node v.member

      by : Voter (acting_at c w).writer (state w v.node) v.node → Doomed nodes states (acting_at c w).writer
      by (duties.waits at) = record {
        node = v.node;
        member = v.member;
        waits_still = at;
        promised = (let e : (state w v.node).promised ≡ (node_after v.node (entries w.trace)).promised = ap (λ (s : NodeState). s.promised) (state_at n w v.node h.agree within_it.0 within_it.1) in
            let up : (state w v.node).promised ≤ (states v.node).promised = le v.node v.member in
            omega (arith, e, up, v.promised));
      }
      by (duties.told y at kind numbers p) = absurd (from y at kind)
        where
          from : (z : Reply) → At 1 (acting_at c w).writer.slots v.node (Told (Answer z)) → fits_round round.Propose z ≡ true → ⊥
          from (reply.NewEpoch o) at_it kind_it = v.no_vote (voted n h.tale (entries w.trace) (runs_follow n w h) c (acting_at c w).writer t v.node o is at_it kind_it)
          from reply.Ok at_it kind_it = true≢false (sym kind_it)
          from (reply.State p_it) at_it kind_it = true≢false (sym kind_it)
          from (reply.Prepared a b g) at_it kind_it = true≢false (sym kind_it)
          from (reply.Edits b) at_it kind_it = true≢false (sym kind_it)
          from (reply.Segments l) at_it kind_it = true≢false (sym kind_it)
          from (reply.Refused f) at_it kind_it = true≢false (sym kind_it)

  -- a request under the epoch dooms it; any other one leaves a node that voted, or takes it out
  voted_or : (i : ℕ) (states : ℕ → NodeState) (q : Request) → (acting_at c w).writer.phase ≡ phase.InRound round.Propose → ((j : ℕ) → Member j nodes → Voter (acting_at c w).writer (state w j) j)
      → ((j : ℕ) → Member j nodes → (state w j).promised ≤ (states j).promised) → Foreign n h.tale (entries w.trace) c i (acting_at c w).calls q
      → Doomed nodes states (acting_at c w).writer ⊎ IsOutside (acting_at c w).writer.epoch (state w i) q
  voted_or i states q is voters le f = by (head_of q) refl f
    where
      t : Tracked n h.tale (entries w.trace) c (acting_at c w).writer
      t = its_takeover round.Propose is (λ e. off e)
        where
          off : round.Propose ≡ round.State → ⊥
          off e = cc e

      by : (o : Option HeadView) → head_of q ≡ o → Foreign n h.tale (entries w.trace) c i (acting_at c w).calls q
          → Doomed nodes states (acting_at c w).writer ⊎ IsOutside (acting_at c w).writer.epoch (state w i) q
      by None e g = inr (λ hd at same lt. none≢some hd (sym e ∙ at))
      by (Some y) e (no_epoch none_it) = absurd (none_it (head_epoch q y e))
      by (Some y) e (made_by d made mine) = elim (cases_eq y.epoch (acting_at c w).writer.epoch) [
        | inr other ↦ inr (λ hd at same lt. other (ap (λ (z : HeadView). z.epoch) (some_same (sym e ∙ at)) ∙ same))
        | inl same ↦ (let m : IsMadeBy n h.tale (entries w.trace) d i q = made (head_epoch q y e) in
            inl (doom_of states t is voters le (rival n h.tale (entries w.trace) (runs_follow n w h) c (acting_at c w).writer t nodes m.0 m.1 d i q y is majority m.2 e same)))
      ]

  voter_keeps : (i : ℕ) (states : ℕ → NodeState) → (acting_at c w).writer.phase ≡ phase.InRound round.Propose → ((j : ℕ) → Member j nodes → Voter (acting_at c w).writer (state w j) j)
      → ((j : ℕ) → Member j nodes → (state w j).promised ≤ (states j).promised) → (state w i).up ≡ true → (state w i).promised ≤ (states i).promised
      → Outside n h.tale (entries w.trace) c i (acting_at c w).calls (state w i) (states i) → Voter (acting_at c w).writer (state w i) i
      → Doomed nodes states (acting_at c w).writer ⊎ Voter (acting_at c w).writer (states i) i
  voter_keeps i states is voters le up low o (duties.waits at) = inr (duties.waits at)
  voter_keeps i states is voters le up low o (duties.told y at kind numbers (inl f)) =
      inr (duties.told y at kind numbers (inl (off_keeps (acting_at c w).writer.epoch (state w i) (states i) up low f)))
  voter_keeps i states is voters le up low o (duties.told y at kind numbers (inr k)) = by o
    where
      same : states i ≡ state w i → Voter (acting_at c w).writer (states i) i
      same e = duties.told y at kind numbers (inr (subst (λ z. Voted (acting_at c w).writer z y) (sym e) k))

      gone : Off (acting_at c w).writer.epoch (states i) → Voter (acting_at c w).writer (states i) i
      gone f = duties.told y at kind numbers (inl f)

      step : (q : Request) → states i ≡ (node_step (state w i) q).state → IsOutside (acting_at c w).writer.epoch (state w i) q → Voter (acting_at c w).writer (states i) i
      step q e out = elim (touched (state w i) q (acting_at c w).writer.epoch k.bound out) [
        | inl f ↦ same (e ∙ f)
        | inr f ↦ gone (subst (λ z. Off (acting_at c w).writer.epoch z) (sym e) f)
      ]

      by : Outside n h.tale (entries w.trace) c i (acting_at c w).calls (state w i) (states i) → Doomed nodes states (acting_at c w).writer ⊎ Voter (acting_at c w).writer (states i) i
      by (left e) = inr (same e)
      by (down d) = inr (gone (inr d))
      by (asked q f (still e)) = inr (same e)
      by (asked q f (fell d)) = inr (gone (inr d))
      by (asked q f (by_request e)) = elim (voted_or i states q is voters le f) [ inl d ↦ inl d | inr out ↦ inr (step q e out) ]

  -- ## The course goes on
  pub keeps : (states : ℕ → NodeState) (y : Acting) → y.writer ≡ (acting_at c w).writer → SameCalls (acting_at c w).calls y.calls → ((i : ℕ) → Member i nodes → (state w i).up ≡ true)
      → ((i : ℕ) → Member i nodes → (state w i).promised ≤ (states i).promised) → ((i : ℕ) → Member i nodes → Outside n h.tale (entries w.trace) c i (acting_at c w).calls (state w i) (states i))
      → Course nodes (state w) (acting_at c w) → Course nodes states y
  keeps states y same calls up le o course = subst (λ (v : WriterView). Course nodes states (record { writer = v; calls = y.calls })) (sym same) (by course)
    where
      by : Course nodes (state w) (acting_at c w) → Course nodes states (record { writer = (acting_at c w).writer; calls = y.calls })
      by (asks p a l low t) = asks p a l low t
      by (proposes p a s l (inl d)) = proposes p a s l
          (inl (record {
            node = d.node;
            member = d.member;
            waits_still = d.waits_still;
            promised = (let z : (state w d.node).promised ≤ (states d.node).promised = le d.node d.member in omega (arith, z, d.promised));
          }))
      by (proposes p a s l (inr voters)) =
          proposes p a s l (all_or (Doomed nodes states (acting_at c w).writer) (λ i. Voter (acting_at c w).writer (states i) i) nodes
          (λ i m. voter_keeps i states p voters le (up i m) (le i m) (o i m) (voters i m)))
      by (on (writes p)) = on (writes p)
      by (on (goes r p a pos f parts)) = on (goes r p a pos f (λ i m. part_keeps i r (state w i) (states i) y.calls p (not_state r f) pos (up i m) (le i m) (o i m) calls (parts i m)))
        where
          not_state : (q : Round) → Facts nodes q (acting_at c w).writer → q ≡ round.State → ⊥
          not_state q g e = subst (λ z. Facts nodes z (acting_at c w).writer) e g
