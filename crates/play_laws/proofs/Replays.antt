-- Of every mesh whose lists agree, over any linear order: what an actor of a script with names
-- holds is a replay of the line's first entries.
use Rattle.std.proofs.Common.{◌≡◌, ℕ, ◌+◌, ◌<◌, List, [], ◌∷◌, ◌++◌, true, refl, sym, ap, ◌∙◌, subst, arith, length, append_assoc, reverse}
use Rattle.std.specs.Prelude.{Option, Some, None}
use Rattle.std.proofs.lemmas.List.{append-nil}
use Rattle.std.proofs.lemmas.Option.{slice_get_within}
use Rattle.journal_core.specs.declared.request.Request.{Request}
use Rattle.journal_core.specs.declared.request.Request.TheVariants.{Read}
use Rattle.journal_core.specs.declared.reply.Reply.TheVariants as reply
use Rattle.ns_edits.specs.Replay.{Image}
use Rattle.ns_edits.proofs.Splits.{some_is}
use Rattle.writer_core.specs.Views.{WriterView}
use Rattle.writer_core.specs.Writer.{next_call}
use Rattle.journal_history.specs.declared.record.Record.{Record}
use Rattle.journal_history.specs.declared.record.Record.TheVariants.{Call, Late, Operator, Outcome}
use Rattle.journal_history.specs.declared.record.Told.{Told}
use Rattle.journal_history.specs.declared.record.Told.TheVariants as told
use Rattle.journal_history.specs.Entries.{Entry}
use Rattle.run_safety.proofs.Safety.{acknowledged_survive}
use Rattle.mesh.specs.declared.whole.Mesh.{Mesh}
use Rattle.mesh.specs.Agree.{operator_of, record_of, plan_of, ListsAgree}
use Rattle.mesh.specs.Makers.{heard_of}
use Rattle.play_model.specs.Lines.{actions_of}
use Rattle.play_names.specs.Holding.{Holding, Work, Free, Tails, Logs, Broken}
use Rattle.play_model.specs.Actor.{Actor, call_wanted, work_read, read_first, wants, goes_on, Fits, IsLed, actor_after, last_of}
use Rattle.play_model.specs.Follows.{actor_with, Follows}
use Rattle.play_laws.specs.Linear.{IsLinear, OnLine, IsActor, HoldsReplay, ImagesReplay, ActorsHoldReplays, EndsAreReplays}
use Rattle.play_laws.proofs.ReadLaws.{reads_on_line}
use Rattle.play_laws.proofs.WriterPlaces.{HearsAt, hears_more}
use Rattle.play_laws.proofs.Held.{AreHeld, Standing}
use Rattle.play_laws.proofs.Stages.{Good, EditsOn}
use Rattle.play_laws.proofs.Keeps.{LearnsIn, Learns, LineLearns, FromOne, Going, goes_good, begins_good}
use Rattle.play_laws.proofs.Acks.{Acked, acked_at}
use Rattle.play_laws.proofs.Walks.{read_fits, fits_call, Both, goes_writer, fresh_both}

module _ (m : Mesh) (entries : List Entry) (lists : ListsAgree m) (lin : IsLinear m entries) (c : ℕ) (below : c < operator_of m) where
  abbrev pub L : ℕ → List ℕ → Type 0
  L = OnLine m entries

  -- the answer that ends a journal round: what the round acknowledges is on the line
  hears_at : (before after : List Record) (w : WriterView) (node : ℕ) (q : Request) (t : Told) → record_of m c ≡ before ++ Call node q t ∷ after
      → Both m.nodes before w → next_call w ≡ Some (node, q) → HearsAt L w.phase w node (heard_of t)
  hears_at before after w node q t is b next =
      hears_more (Acked m entries c w.epoch) L (λ k x a. (acknowledged_survive m.nodes lin.run.0 (reverse entries) lin.run.1 w.epoch k x a.acknowledged).0) w.phase w node (heard_of t)
      (acked_at m entries lists lin c below before after w node q t is b next)

  -- ## What a line of the record tells
  edits_on : (before after : List Record) (node p : ℕ) (q : Request) (t : Told) → record_of m c ≡ before ++ Call node q t ∷ after → q ≡ Read (p + 1) → EditsOn L p (heard_of t)
  edits_on before after node p q (told.Reply (reply.Edits batch)) is asked =
      reads_on_line m entries c node p batch before after lists lin below
      (is ∙ ap (λ (z : Request). before ++ Call node z (told.Reply (reply.Edits batch)) ∷ after) asked)
  edits_on before after node p q (told.Reply _) is asked = tt
  edits_on before after node p q told.Dropped is asked = tt
  edits_on before after node p q told.Muted is asked = tt
  edits_on before after node p q told.Silent is asked = tt

  call_learns : (before after : List Record) (a : Actor) (node : ℕ) (q : Request) (t : Told) → record_of m c ≡ before ++ Call node q t ∷ after → Both m.nodes before a.writer → (o : Option Holding)
      → Fits (read_first o (call_wanted (next_call a.writer))) (Call node q t) → Learns L o a.writer node (heard_of t)
  unfolding read_first Fits
  call_learns before after a node q t is b None f = tt
  call_learns before after a node q t is b (Some h) f = by h.work f
    where
      writes : Fits (call_wanted (next_call a.writer)) (Call node q t) → HearsAt L a.writer.phase a.writer node (heard_of t)
      writes f = hears_at before after a.writer node q t is b (fits_call (next_call a.writer) node q t f)

      by : (x : Work) → Fits (work_read x h.position (call_wanted (next_call a.writer))) (Call node q t) → LearnsIn L x h a.writer node (heard_of t)
      by Free f = writes f
      by (Logs ahead dues) f = writes f
      by Broken f = writes f
      by (Tails until next heard) f = edits_on before after node h.position q t is f.1

  pub line_learns : (before after : List Record) (a : Actor) (r : Record) → record_of m c ≡ before ++ r ∷ after → Both m.nodes before a.writer → Fits (wants a) r → LineLearns L a r
  line_learns before after a (Call node q t) is b f = call_learns before after a node q t is b a.holds (read_fits a node q t f)
  line_learns before after a (Late node q) is b f = tt
  line_learns before after a (Operator node ask done) is b f = tt
  line_learns before after a (Outcome text) is b f = tt

  from_one : FromOne L
  from_one t body o = o.from_one

  pub record Walked (before : List Record) (a : Actor) : Type 0 where
    pub going : Going L a
    pub both : Both m.nodes before a.writer

  pub walk : (before xs ys : List Record) (a : Actor) → record_of m c ≡ before ++ (xs ++ ys) → Walked before a → IsLed a (xs ++ ys) → Walked (before ++ xs) (actor_after a xs)
  unfolding actor_after IsLed
  walk before [] ys a is g led = subst (λ (l : List Record). Walked l a) (sym (append-nil before)) g
  walk before (r ∷ xs) ys a is g led =
      subst (λ (l : List Record). Walked l (actor_after (goes_on a r) xs)) (append_assoc before (r ∷ []) xs)
      (walk (before ++ r ∷ []) xs ys (goes_on a r) (is ∙ sym (append_assoc before (r ∷ []) (xs ++ ys)))
      (record {
        going = goes_good L a r from_one g.going (line_learns before (xs ++ ys) a r is g.both led.0);
        both = goes_writer m.nodes before a r g.both led.0;
      }) led.1)

  pub walked : (a : Actor) (x : IsActor m c a) → Walked x.before a
  walked a x =
      subst (λ (z : Actor). Walked x.before z) (sym x.is)
      (walk [] x.before x.after (actor_with true m.nodes x.actions) x.record_is
      (record { going = begins_good L m.nodes x.actions x.some x.are_actions; both = fresh_both true m.nodes x.actions }) x.led)

-- ## At every moment
images_replay : (m : Mesh) (entries : List Entry) (is : List Image) → AreHeld (OnLine m entries) is → ImagesReplay m entries is
images_replay m entries [] h = tt
images_replay m entries (i ∷ is) h = ((h.0.log, h.0.on, (h.0.replayed, h.0.so_many)), images_replay m entries is h.1)

pub actors_hold_replays : ActorsHoldReplays
actors_hold_replays m entries c a h lists lin below x is = (
  record { log = s.held.log; of_line = s.held.on; position = s.held.so_many; replayed = s.held.replayed },
  images_replay m entries h.images s.images,
)
  where
    g : Good (OnLine m entries) a.doing a.writer a.holds
    g = (walked m entries lists lin c below a x).going.good

    same : g.holding ≡ h
    same = some_is g.holding h (sym g.is ∙ is)

    s : Standing (OnLine m entries) h
    s = subst (λ (z : Holding). Standing (OnLine m entries) z) same g.stands

-- ## At its end
pub ends_are_replays : EndsAreReplays
ends_are_replays m entries lines ends c e lists lin named is = (record { position = h.position; rows = h.space.pairs }, last, (r.0.log, r.0.of_line, r.0.position, (h.space, r.0.replayed, refl)))
  where
    below : c < operator_of m
    below = let range : c < length ends = slice_get_within ends c e is in let many : length ends ≡ operator_of m = named.as_many in omega (arith, range, many)

    f : Follows true m.nodes (actions_of c lines) (record_of m c) (plan_of m c) e
    f = named.follows.actors c e below is

    a : Actor
    a = actor_after (actor_with true m.nodes (actions_of c lines)) (record_of m c)

    x : IsActor m c a
    x = record {
      some = named.some;
      actions = actions_of c lines;
      are_actions = named.actions c;
      before = record_of m c;
      after = [];
      record_is = sym (append-nil (record_of m c));
      led = subst (λ (l : List Record). IsLed (actor_with true m.nodes (actions_of c lines)) l) (sym (append-nil (record_of m c))) f.led;
      is = refl;
    }

    g : Good (OnLine m entries) a.doing a.writer a.holds
    g = (walked m entries lists lin c below a x).going.good

    h : Holding
    h = g.holding

    last : e.last ≡ Some (record { position = h.position; rows = h.space.pairs })
    last = f.end ∙ ap last_of g.is

    r : HoldsReplay m entries h × ImagesReplay m entries h.images
    r = actors_hold_replays m entries c a h lists lin below x g.is
