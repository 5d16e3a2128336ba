-- The line of a script with names replays, up to each of its txids: whoever put an edit there had
-- read, or logged, all that stands before it, and the edit was admitted after that.
use Rattle.std.proofs.Common.{◌≡◌, ℕ, zero, suc, ◌+◌, ◌<◌, ◌≤◌, List, [], ◌∷◌, ◌++◌, Bool, true, refl, sym, ap, ◌∙◌, subst, arith, length, length-append, reverse, take, drop, ◌⊎◌, inl, inr}
use Rattle.std.specs.Prelude.{Option, Some, None, slice_get}
use Rattle.std.proofs.lemmas.List.{length-take-le, take-append-drop}
use Rattle.journal_core.specs.Views.{HeadView, BatchView}
use Rattle.journal_core.specs.declared.request.Request.{Request}
use Rattle.journal_core.specs.declared.request.Request.TheVariants.{Journal}
use Rattle.ns_tree.specs.Space.{Space, empty_space}
use Rattle.ns_edits.specs.Replay.{replay, replay_from}
use Rattle.ns_edits.proofs.Splits.{some_is, none≢some, replay_one, log_joins, Split, replay_split}
use Rattle.ns_edits.proofs.Calls.{calls_apart}
use Rattle.writer_core.specs.declared.round.Round.{Round}
use Rattle.writer_core.specs.declared.round.Round.TheVariants as round
use Rattle.writer_core.specs.declared.phase.Phase.{Phase}
use Rattle.writer_core.specs.declared.phase.Phase.TheVariants as phase
use Rattle.writer_core.specs.declared.phase.Aim.TheVariants as aim
use Rattle.writer_core.specs.declared.task.Task.{Task}
use Rattle.writer_core.specs.declared.task.Task.TheVariants as task
use Rattle.writer_core.specs.Views.{WriterView}
use Rattle.writer_core.specs.Rounds.{request_in, batch_from, start_record, end_record}
use Rattle.writer_core.specs.Writer.{next_call}
use Rattle.journal_history.specs.declared.node_ask.NodeAsk.{NodeAsk}
use Rattle.journal_history.specs.declared.record.Record.{Record}
use Rattle.journal_history.specs.declared.record.Record.TheVariants.{Call, Late, Operator, Outcome}
use Rattle.journal_history.specs.declared.record.Told.{Told}
use Rattle.journal_history.specs.Entries.{Entry}
use Rattle.run_safety.proofs.Values.{get_within, get_there}
use Rattle.mesh.specs.declared.whole.Mesh.{Mesh}
use Rattle.mesh.specs.Agree.{operator_of, record_of, plan_of, ListsAgree}
use Rattle.mesh.proofs.Shared.{In}
use Rattle.play_model.specs.Lines.{Line, actions_of}
use Rattle.play_names.specs.Holding.{Holding, Work, Free, Tails, Logs, Broken}
use Rattle.play_model.specs.Actor.{Actor, Want, WantsCall, WantsCopy, Says, Rests, call_wanted, work_read, read_first, wants, Fits, IsLed, actor_after, goes_on}
use Rattle.ns_tree.specs.declared.end.End.{End}
use Rattle.play_model.specs.Follows.{actor_with, Follows}
use Rattle.play_model.specs.Safe.{AllOn}
use Rattle.play_laws.specs.Linear.{IsLinear, OnLine, IsActor, IsNamed, IsAdmitted, begins, ends, edits, LogsAreAdmitted, LineReplays, LineCallsApart}
use Rattle.play_laws.proofs.ReadLaws.{all_on, get_take, Place, place_of}
use Rattle.play_model.proofs.WriterTurns.{IsBetween, InCourse}
use Rattle.play_laws.proofs.WriterPlaces.{PhasePlace, IsLogIn}
use Rattle.play_laws.proofs.Held.{start_entered, end_entered, AllOn-append, Held}
use Rattle.play_laws.proofs.Stages.{Stage, Good, RestsAt}
use Rattle.play_laws.proofs.Keeps.{UnderTask, under_by}
use Rattle.play_laws.proofs.Oks.{IsNext, next_is}
use Rattle.play_laws.proofs.Walks.{read_fits, fits_call}
use Rattle.play_laws.proofs.Replays.{walked}
use Rattle.run_safety.specs.Parts.{IsPutByJournal}
use Rattle.run_safety.proofs.Journals.{line_once, line_put}
use Rattle.play_laws.proofs.Askers.{NoOperation, Asker, asker}

-- ## Actors that follow their lines
fits_no_operation : (w : Want) (k : ℕ) (ask : NodeAsk) (done : Bool) → Fits w (Operator k ask done) → ⊥
unfolding Fits
fits_no_operation (WantsCall n q) k ask done f = f
fits_no_operation (WantsCopy n q) k ask done f = f
fits_no_operation (Says text) k ask done f = f
fits_no_operation Rests k ask done f = f

led_none : (a : Actor) (rs : List Record) → IsLed a rs → NoOperation rs
unfolding IsLed NoOperation
led_none a [] led = tt
led_none a (Operator k ask done ∷ rs) led = fits_no_operation (wants a) k ask done led.0
led_none a (Call k q t ∷ rs) led = led_none (goes_on a (Call k q t)) rs led.1
led_none a (Late k q ∷ rs) led = led_none (goes_on a (Late k q)) rs led.1
led_none a (Outcome text ∷ rs) led = led_none (goes_on a (Outcome text)) rs led.1

pub led_rest : (a : Actor) (xs ys : List Record) → IsLed a (xs ++ ys) → IsLed (actor_after a xs) ys
unfolding IsLed actor_after
led_rest a [] ys led = led
led_rest a (x ∷ xs) ys led = led_rest (goes_on a x) xs ys led.1

led_now : (a : Actor) (r : Record) (rs : List Record) → IsLed a (r ∷ rs) → Fits (wants a) r
unfolding IsLed
led_now a r rs led = led.0

-- what an actor of a script with names wanted when it listed a line
pub record Wanted (m : Mesh) (c : ℕ) (r : Record) : Type 0 where
  pub actor : Actor
  pub is_actor : IsActor m c actor
  pub fits : Fits (wants actor) r

-- ## What a batch was made of
-- after the replay of so many entries of the line, edits that go on from there
pub record FromLog (L : ℕ → List ℕ → Type 0) (batch : BatchView) : Type 0 where
  pub position : ℕ
  pub space : Space
  pub held : Held L position space
  pub first : batch.first ≡ position + 1
  pub ahead : Space
  pub leads : replay_from position batch.bodies space ≡ Some ahead

pub data Made (L : ℕ → List ℕ → Type 0) (batch : BatchView) : Type 0 where
  as_start : batch.bodies ≡ start_record → Made L batch
  as_end : batch.bodies ≡ end_record → Made L batch
  as_edits : FromLog L batch → Made L batch

batch_is : (h g : HeadView) (s u : ℕ) (b c : BatchView) → Journal h s b ≡ Journal g u c → b ≡ c
batch_is h g s u b c e = ap batch_in e
  where
    batch_in : Request → BatchView
    batch_in (Journal x y z) = z
    batch_in _ = b

module _ (L : ℕ → List ℕ → Type 0) where
  by_task : (h : Holding) (t : Task) (w : WriterView) (bodies : List (List ℕ)) → Held L h.position h.space → UnderTask L h t w
      → w.phase ≡ phase.InRound (round.Write bodies) → Made L (batch_from w.next bodies)
  by_task h (task.Log b) w bodies held u is =
      let same : bodies ≡ b = subst (λ (x : Phase). IsLogIn L b aim.Log x) is u.is_log in
      let next : w.next ≡ h.position + 1 = subst (λ (x : Phase). PhasePlace L h.position aim.Log x w) is u.on.place in
      as_edits (record { position = h.position; space = h.space; held = held; first = next; ahead = u.work.0; leads = ap (λ (z : List (List ℕ)). replay_from h.position z h.space) same ∙ u.work.3 })
  by_task h task.Roll w bodies held u is = let p : (bodies ≡ end_record) × (w.next ≡ h.position + 1) = subst (λ (x : Phase). PhasePlace L h.position aim.Roll x w) is u.on.place in as_end p.0
  by_task h task.Close w bodies held u is = let p : (bodies ≡ end_record) × (w.next ≡ h.position + 1) = subst (λ (x : Phase). PhasePlace L h.position aim.Close x w) is u.on.place in as_end p.0
  by_task h task.Takeover w bodies held u is = let c : InCourse aim.Takeover (phase.InRound (round.Write bodies)) w.slots =
      subst (λ (x : Phase). InCourse aim.Takeover x w.slots) is u.on.course.course in absurd c.0
  by_task h (task.Purge min) w bodies held u is = let c : InCourse aim.Purge (phase.InRound (round.Write bodies)) w.slots =
      subst (λ (x : Phase). InCourse aim.Purge x w.slots) is u.on.course.course in absurd c.0

  in_write : (a : Actor) (g : Good L a.doing a.writer a.holds) (bodies : List (List ℕ))
      → (g.holding.work ≡ Free) ⊎ ((s : Space) × (d : _) × (g.holding.work ≡ Logs s d)) ⊎ (g.holding.work ≡ Broken)
      → a.writer.phase ≡ phase.InRound (round.Write bodies) → Made L (batch_from a.writer.next bodies)
  in_write a g bodies works is = by a.doing refl works
    where
      h : Holding
      h = g.holding

      stage : (d : Option Task) → a.doing ≡ d → (x : Work) → h.work ≡ x → Stage L h d a.writer x
      stage d e x f = subst (λ (y : Work). Stage L h d a.writer y) f (subst (λ (z : Option Task). Stage L h z a.writer h.work) e g.stage)

      by : (d : Option Task) → a.doing ≡ d → (h.work ≡ Free) ⊎ ((s : Space) × (d : _) × (h.work ≡ Logs s d)) ⊎ (h.work ≡ Broken) → Made L (batch_from a.writer.next bodies)
      by (Some t) e works = by_task h t a.writer bodies g.stands.held (under_by L h t a.writer h.work refl (stage (Some t) e h.work refl)) is
      by None e (inl f) = absurd (subst (λ (x : Phase). RestsAt L h.position x a.writer) is (stage None e Free f))
      by None e (inr (inl f)) = absurd (stage None e (Logs f.0 f.1) f.2)
      by None e (inr (inr f)) = absurd (subst (λ (x : Phase). IsBetween x) is (stage None e Broken f))

  by_round : (a : Actor) (g : Good L a.doing a.writer a.holds) (r : Round) (head : HeadView) (start : ℕ) (batch : BatchView)
      → (g.holding.work ≡ Free) ⊎ ((s : Space) × (d : _) × (g.holding.work ≡ Logs s d)) ⊎ (g.holding.work ≡ Broken)
      → a.writer.phase ≡ phase.InRound r → Journal head start batch ≡ request_in a.writer r → Made L batch
  by_round a g (round.Write bodies) head start batch works is e = subst (λ (b : BatchView). Made L b)
      (sym (batch_is head _ start _ batch (batch_from a.writer.next bodies) e)) (in_write a g bodies works is)
  by_round a g round.Open head start batch works is e = as_start (ap (λ (b : BatchView). b.bodies) (batch_is head _ start _ batch (batch_from a.writer.start start_record) e))
  by_round a g round.State head start batch works is e = absurd (cc e)
  by_round a g round.Propose head start batch works is e = absurd (cc e)
  by_round a g (round.Prepare s) head start batch works is e = absurd (cc e)
  by_round a g (round.Fetch n s l b) head start batch works is e = absurd (cc e)
  by_round a g (round.Accept b) head start batch works is e = absurd (cc e)
  by_round a g (round.Finalize s l) head start batch works is e = absurd (cc e)
  by_round a g round.Start head start batch works is e = absurd (cc e)
  by_round a g (round.Purge l) head start batch works is e = absurd (cc e)

  -- the batch of a journal call that an actor makes
  pub made_batch : (a : Actor) (g : Good L a.doing a.writer a.holds) (k : ℕ) (head : HeadView) (start : ℕ) (batch : BatchView) (t : Told)
      → Fits (wants a) (Call k (Journal head start batch) t) → Made L batch
  unfolding read_first Fits
  made_batch a g k head start batch t f = by g.holding.work refl (subst
      (λ (o : Option Holding). Fits (read_first o (call_wanted (next_call a.writer))) (Call k (Journal head start batch) t)) g.is
      (unfold Fits in read_fits a k (Journal head start batch) t f))
    where
      writes : Fits (call_wanted (next_call a.writer)) (Call k (Journal head start batch) t)
          → (g.holding.work ≡ Free) ⊎ ((s : Space) × (d : _) × (g.holding.work ≡ Logs s d)) ⊎ (g.holding.work ≡ Broken) → Made L batch
      writes f works =
          let x : (r : Round) × IsNext a.writer r k (Journal head start batch) =
          next_is a.writer a.writer.phase k (Journal head start batch) refl
          (unfold Fits in fits_call (next_call a.writer) k (Journal head start batch) t f) in
          by_round a g x.0 head start batch works x.1.phase_is x.1.asked

      by : (x : Work) → g.holding.work ≡ x → Fits (work_read x g.holding.position (call_wanted (next_call a.writer))) (Call k (Journal head start batch) t) → Made L batch
      by Free is f = writes f (inl is)
      by (Logs s d) is f = writes f (inr (inl (s, d, is)))
      by Broken is f = writes f (inr (inr is))
      by (Tails until node heard) is f = absurd (cc f.1)

-- ## What an actor logs is admitted
pub logs_are_admitted : LogsAreAdmitted
logs_are_admitted m entries c a k head start batch t lists lin below x f = by (made_batch (OnLine m entries) a (walked m entries lists lin c below a x).going.good k head start batch t f)
  where
    by : Made (OnLine m entries) batch → IsAdmitted m entries batch
    by (as_start is) = begins is
    by (as_end is) = ends is
    by (as_edits l) =
        let at : length l.held.log + 1 ≡ batch.first = (let many : length l.held.log ≡ l.position =
        l.held.so_many in let first : batch.first ≡ l.position + 1 = l.first in omega (arith, many, first)) in
        edits l.held.log l.space l.ahead l.held.on at l.held.replayed (ap (λ (n : ℕ). replay_from n batch.bodies l.space) l.held.so_many ∙ l.leads)

-- ## Lists of the line
AllOn-parts : (L : ℕ → List ℕ → Type 0) (t : ℕ) (xs ys : List (List ℕ)) → AllOn L t (xs ++ ys) → AllOn L t xs × AllOn L (t + length xs) ys
AllOn-parts L t [] ys a = let same : t ≡ t + length {A = List ℕ} [] = omega arith in (tt, subst (λ (k : ℕ). AllOn L k ys) same a)
AllOn-parts L t (x ∷ xs) ys a =
    let r : AllOn L (t + 1) xs × AllOn L (t + 1 + length xs) ys = AllOn-parts L (t + 1) xs ys a.1 in
    let same : t + 1 + length xs ≡ t + length (x ∷ xs) = omega arith in
    ((a.0, r.0), subst (λ (k : ℕ). AllOn L k ys) same r.1)

one_list : (L : ℕ → List ℕ → Type 0) → ((t : ℕ) (x y : List ℕ) → L t x → L t y → x ≡ y) → (t : ℕ) (xs ys : List (List ℕ)) → length xs ≡ length ys → AllOn L t xs → AllOn L t ys → xs ≡ ys
one_list L once t [] [] e a b = refl
one_list L once t [] (y ∷ ys) e a b = absurd (omega (arith, e))
one_list L once t (x ∷ xs) [] e a b = absurd (omega (arith, e))
one_list L once t (x ∷ xs) (y ∷ ys) e a b =
    let fewer : length xs ≡ length ys = omega (arith, e) in
    let rest : xs ≡ ys = one_list L once (t + 1) xs ys fewer a.1 b.1 in
    let first : x ≡ y = once (t + 1) x y a.0 b.0 in
    (λ i. first i ∷ rest i)

record Snoc (xs : List (List ℕ)) (n : ℕ) : Type 0 where
  pub init : List (List ℕ)
  pub last : List ℕ
  pub is : xs ≡ init ++ last ∷ []
  pub so_many : length init ≡ n

snoc : (n : ℕ) (xs : List (List ℕ)) → length xs ≡ suc n → Snoc xs n
snoc n [] e = absurd (omega (arith, e))
snoc zero (x ∷ []) e = record { init = []; last = x; is = refl; so_many = refl }
snoc zero (x ∷ y ∷ xs) e = absurd (omega (arith, e))
snoc (suc n) (x ∷ xs) e =
    let s : Snoc xs n = snoc n xs (omega (arith, e)) in
    let more : length (x ∷ s.init) ≡ suc n = (let m : length s.init ≡ n = s.so_many in omega (arith, m)) in
    record { init = x ∷ s.init; last = s.last; is = ap (λ (l : List (List ℕ)). x ∷ l) s.is; so_many = more }

-- ## The line replays
module _ (m : Mesh) (entries : List Entry) (lines : List Line) (last : List End) (lists : ListsAgree m) (lin : IsLinear m entries) (named : IsNamed lines m last) where
  abbrev pub L : ℕ → List ℕ → Type 0
  L = OnLine m entries

  pub led_of : (c : ℕ) → c < operator_of m → IsLed (actor_with true m.nodes (actions_of c lines)) (record_of m c)
  led_of c below =
      let there : (e : End) × (slice_get last c ≡ Some e) = get_there last c (let many : length last ≡ operator_of m = named.as_many in omega (arith, below, many)) in
      let f : Follows true m.nodes (actions_of c lines) (record_of m c) (plan_of m c) there.0 = named.follows.actors c there.0 below there.1 in
      f.led

  once : (t : ℕ) (x y : List ℕ) → L t x → L t y → x ≡ y
  once t x y a b = line_once m.nodes lin.run.0 (reverse entries) lin.run.1 t x y a b

  -- a line of an actor's record is what it wanted there
  pub wanted : (c : ℕ) → c < operator_of m → (r : Record) → In r (record_of m c) → Wanted m c r
  wanted c below r listed = record {
    actor = actor_after (actor_with true m.nodes (actions_of c lines)) p.before;
    is_actor = record { some = named.some; actions = actions_of c lines; are_actions = named.actions c; before = p.before; after = r ∷ p.after; record_is = p.is; led = led; is = refl };
    fits = led_now (actor_after (actor_with true m.nodes (actions_of c lines)) p.before) r p.after (led_rest (actor_with true m.nodes (actions_of c lines)) p.before (r ∷ p.after) led);
  }
    where
      p : Place r (record_of m c)
      p = place_of r (record_of m c) listed

      led : IsLed (actor_with true m.nodes (actions_of c lines)) (p.before ++ r ∷ p.after)
      led = subst (λ (l : List Record). IsLed (actor_with true m.nodes (actions_of c lines)) l) p.is (led_of c below)

  -- the batch that put an entry of the line there
  maker : (t : ℕ) (x : List ℕ) → (k : IsPutByJournal m.nodes (reverse entries) t x) → Made L k.batch
  maker t x k = made_batch L w.actor (walked m entries lists lin s.caller s.below w.actor w.is_actor).going.good s.node k.head k.start k.batch s.told w.fits
    where
      s : Asker m (Journal k.head k.start k.batch)
      s = asker m entries lists lin (λ c below. led_none (actor_with true m.nodes (actions_of c lines)) (record_of m c) (led_of c below)) k.old
          k.entry (Journal k.head k.start k.batch) k.within k.of_request

      w : Wanted m s.caller (Call s.node (Journal k.head k.start k.batch) s.told)
      w = wanted s.caller s.below (Call s.node (Journal k.head k.start k.batch) s.told) s.called

  -- an entry after so many that replay
  marks : (init : List (List ℕ)) (x mark : List ℕ) (bodies : List (List ℕ)) (k : ℕ) (z : Space) → bodies ≡ mark ∷ [] → slice_get bodies k ≡ Some x
      → ((t : ℕ) (s : Space) → replay_from t (mark ∷ []) s ≡ Some s) → replay init ≡ Some z → replay (init ++ x ∷ []) ≡ Some z
  marks init x mark bodies k z is has same e =
      let one : x ≡ mark = only k (ap (λ (l : List (List ℕ)). slice_get l k) (sym is) ∙ has) in
      log_joins init (x ∷ []) z z e (ap (λ (b : List ℕ). replay_from (length init) (b ∷ []) z) one ∙ same (length init) z)
    where
      only : (j : ℕ) → slice_get (mark ∷ []) j ≡ Some x → x ≡ mark
      only zero e = sym (some_is mark x e)
      only (suc j) e = none≢some x e

  edits_replay : (init : List (List ℕ)) (x : List ℕ) → AllOn L 0 (init ++ x ∷ []) → (k : IsPutByJournal m.nodes (reverse entries) (length init + 1) x)
      → FromLog L k.batch → (s : Space) × (replay (init ++ x ∷ []) ≡ Some s)
  edits_replay init x on k f = (cut.between, ap replay same ∙ log_joins f.held.log given f.space cut.between f.held.replayed (ap (λ (j : ℕ). replay_from j given f.space) f.held.so_many ∙ cut.front))
    where
      given : List (List ℕ)
      given = take (k.k + 1) k.batch.bodies

      inside : k.k < length k.batch.bodies
      inside = get_within k.batch.bodies k.k x k.has

      cut : Split f.position given (drop (k.k + 1) k.batch.bodies) f.space f.ahead
      cut = replay_split f.position given (drop (k.k + 1) k.batch.bodies) f.space f.ahead
          (ap (λ (l : List (List ℕ)). replay_from f.position l f.space) (take-append-drop (k.k + 1) k.batch.bodies) ∙ f.leads)

      given_on : AllOn L f.position given
      given_on = all_on L f.position given one
        where
          one : (j : ℕ) (y : List ℕ) → slice_get given j ≡ Some y → L (f.position + 1 + j) y
          one j y e =
              let few : length given ≡ k.k + 1 = length-take-le (k.k + 1) k.batch.bodies (omega (arith, inside)) in
              let le : j ≤ k.k = (let lt : j < length given = get_within given j y e in omega (arith, lt, few)) in
              let at : k.batch.first + j ≡ f.position + 1 + j = (let first : k.batch.first ≡ f.position + 1 = f.first in omega (arith, first)) in
              subst (λ (t : ℕ). L t y) at (k.on_line j y le (get_take j (k.k + 1) k.batch.bodies y e))

      whole_on : AllOn L 0 (f.held.log ++ given)
      whole_on = AllOn-append L 0 f.held.log given f.held.on (let at : f.position ≡ 0 + length f.held.log =
          (let many : length f.held.log ≡ f.position = f.held.so_many in omega (arith, many)) in subst (λ (t : ℕ). AllOn L t given) at given_on)

      lengths : length (init ++ x ∷ []) ≡ length (f.held.log ++ given)
      lengths =
          let a : length (init ++ x ∷ []) ≡ length init + length (x ∷ []) = length-append init (x ∷ []) in
          let b : length (f.held.log ++ given) ≡ length f.held.log + length given = length-append f.held.log given in
          let many : length f.held.log ≡ f.position = f.held.so_many in
          let few : length given ≡ k.k + 1 = length-take-le (k.k + 1) k.batch.bodies (omega (arith, inside)) in
          let place : length init + 1 ≡ k.batch.first + k.k = k.place in
          let first : k.batch.first ≡ f.position + 1 = f.first in
          omega (arith, a, b, many, few, place, first)

      same : init ++ x ∷ [] ≡ f.held.log ++ given
      same = one_list L once 0 (init ++ x ∷ []) (f.held.log ++ given) lengths on whole_on

  next_replays : (init : List (List ℕ)) (x : List ℕ) (z : Space) → AllOn L 0 (init ++ x ∷ []) → replay init ≡ Some z → (s : Space) × (replay (init ++ x ∷ []) ≡ Some s)
  next_replays init x z on e = by (maker (length init + 1) x k)
    where
      here : L (length init + 1) x
      here = let parts : AllOn L 0 init × AllOn L (0 + length init) (x ∷ []) =
          AllOn-parts L 0 init (x ∷ []) on in let at : 0 + length init + 1 ≡ length init + 1 = omega arith in subst (λ (t : ℕ). L t x) at parts.1.0

      k : IsPutByJournal m.nodes (reverse entries) (length init + 1) x
      k = line_put m.nodes lin.run.0 (reverse entries) lin.run.1 (length init + 1) x here

      by : Made L k.batch → (s : Space) × (replay (init ++ x ∷ []) ≡ Some s)
      by (as_start is) = (z, marks init x (24 ∷ []) k.batch.bodies k.k z is k.has (λ t s. replay_one t (24 ∷ []) s s (start_entered (t + 1) s)) e)
      by (as_end is) = (z, marks init x (23 ∷ []) k.batch.bodies k.k z is k.has (λ t s. replay_one t (23 ∷ []) s s (end_entered (t + 1) s)) e)
      by (as_edits f) = edits_replay init x on k f

  replays : (n : ℕ) (log : List (List ℕ)) → length log ≡ n → AllOn L 0 log → (s : Space) × (replay log ≡ Some s)
  unfolding replay replay_from
  replays zero [] e on = (empty_space, refl)
  replays zero (x ∷ log) e on = absurd (omega (arith, e))
  replays (suc n) log e on =
      let s : Snoc log n = snoc n log e in
      let parts : AllOn L 0 s.init × AllOn L (0 + length s.init) (s.last ∷ []) = AllOn-parts L 0 s.init (s.last ∷ []) (subst (λ (l : List (List ℕ)). AllOn L 0 l) s.is on) in
      let before : (z : Space) × (replay s.init ≡ Some z) = replays n s.init s.so_many parts.0 in
      let whole : (z : Space) × (replay (s.init ++ s.last ∷ []) ≡ Some z) = next_replays s.init s.last before.0 (subst (λ (l : List (List ℕ)). AllOn L 0 l) s.is on) before.1 in
      (whole.0, ap replay s.is ∙ whole.1)

pub line_replays : LineReplays
line_replays m entries lines last log lists lin named on = replays m entries lines last lists lin named (length log) log refl on

pub line_calls_apart : LineCallsApart
line_calls_apart m entries lines last log lists lin named on =
    let r : (s : Space) × (replay log ≡ Some s) = line_replays m entries lines last log lists lin named on in
    calls_apart log r.0 r.1
