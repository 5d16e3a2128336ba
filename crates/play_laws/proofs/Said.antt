-- Of every mesh that follows a script: each of its result lines claims only what is acknowledged.
use Rattle.std.proofs.Common.{◌≡◌, ℕ, ◌<◌, ◌≤◌, List, [], ◌∷◌, ◌++◌, Bool, refl, sym, ◌∙◌, subst, length, append_assoc, inl, inr}
use Rattle.std.specs.Prelude.{Option, Some, None, slice_get, codes}
use Rattle.journal_core.specs.declared.request.Request.{Request}
use Rattle.journal_core.specs.declared.heard.Heard.{Heard}
use Rattle.writer_core.specs.declared.task.Task.{Task}
use Rattle.writer_core.specs.Writer.{next_call, writer_heard}
use Rattle.journal_history.specs.declared.record.Record.{Record}
use Rattle.journal_history.specs.declared.record.Record.TheVariants.{Call, Late, Operator, Outcome}
use Rattle.journal_history.specs.declared.record.Told.{Told}
use Rattle.journal_history.specs.Entries.{Entry}
use Rattle.run_safety.proofs.Values.{get_there}
use Rattle.mesh.specs.declared.whole.Mesh.{Mesh}
use Rattle.mesh.specs.Agree.{operator_of, record_of, plan_of, ListsAgree, Agrees}
use Rattle.mesh.specs.Makers.{heard_of}
use Rattle.mesh.specs.Order.{epoch_order}
use Rattle.mesh.proofs.Shared.{In}
use Rattle.ns_tree.specs.declared.end.End.{End}
use Rattle.play_names.specs.Holding.{Holding, Work, Free, Tails, Logs, Broken}
use Rattle.play_names.specs.Tails.{tail_hears}
use Rattle.play_names.specs.Results.{word, took}
use Rattle.play_model.specs.Lines.{Line, Action, lines_of, actions_of}
use Rattle.play_model.specs.Actor.{Actor, fresh_actor, call_wanted, work_read, read_first, wants, tail_stepped, after_judgment, heard_in_work, heard_by, moved_on, settle_again, goes_on, Fits, IsLed}
use Rattle.play_model.specs.Follows.{actor_with, Follows, FollowsLines}
use Rattle.play_model.proofs.Wanting.{Saying, fits_saying}
use Rattle.play_laws.specs.Linear.{IsLinear}
use Rattle.play_laws.specs.Acked.{Says}
use Rattle.play_laws.specs.Laws.{ResultsTellAcknowledged}
use Rattle.play_laws.proofs.ReadLaws.{contains_in}
use Rattle.play_laws.proofs.Walks.{read_fits, fits_call, Both, goes_writer, fresh_both}
use Rattle.play_laws.proofs.Acks.{acked_at}
use Rattle.play_laws.proofs.Claims.{Tells, TellAll, tell_rest}
use Rattle.play_laws.proofs.Telling.{Matches, IdleWork, Stage, Telling, stepped_tells, tail_shape, settled_tells, fresh_tells}
use Rattle.play_laws.proofs.TellingTurns.{writer_tells}
use Rattle.play_laws.proofs.Safeties.{epoch_order_linear}
use Rattle.play_laws.proofs.NamedPlays.{ends_many}

module _ (m : Mesh) (entries : List Entry) (lists : ListsAgree m) (lin : IsLinear m entries) (c : ℕ) (below : c < operator_of m) where
  -- ## A line of the record
  tail_tells : (a : Actor) (h : Holding) (until : Option ℕ) (next : ℕ) (told : List Heard) (heard : Heard) → a.holds ≡ Some h → h.work ≡ Tails until next told → Telling m entries c a
      → Telling m entries c (tail_stepped until (tail_hears (length a.writer.left) until next told heard h) a)
  tail_tells a h until next told heard holds is g = by a.doing refl
    where
      at : (x : Option Task) → a.doing ≡ x → Stage m entries c x (Some h) a.writer
      at x e = subst (λ (o : Option Holding). Stage m entries c x o a.writer) holds (subst (λ (y : Option Task). Stage m entries c y a.holds a.writer) e g.stage)

      by : (x : Option Task) → a.doing ≡ x → Telling m entries c (tail_stepped until (tail_hears (length a.writer.left) until next told heard h) a)
      by None e =
          stepped_tells m entries c lin until (tail_hears (length a.writer.left) until next told heard h) a (tail_shape (length a.writer.left) until next told heard h)
          g.says_all e g.other (at None e).0 (subst (λ (x : Work). IdleWork m entries c x a.writer) is (at None e).1)
      by (Some t) e = absurd (subst (λ (x : Work). Matches m entries c t x) is (at (Some t) e).1)

  call_tells : (before after : List Record) (a : Actor) (node : ℕ) (q : Request) (t : Told) → record_of m c ≡ before ++ Call node q t ∷ after → Both m.nodes before a.writer → Telling m entries c a
      → (o : Option Holding) → a.holds ≡ o → Fits (read_first o (call_wanted (next_call a.writer))) (Call node q t) → Telling m entries c (heard_by o node (heard_of t) a)
  unfolding read_first heard_by
  call_tells before after a node q t is b g o holds f = by o holds f
    where
      writes : Fits (call_wanted (next_call a.writer)) (Call node q t) → Telling m entries c (after_judgment (writer_heard a.writer node (heard_of t)) a)
      writes f = writer_tells m entries c lin a node (heard_of t) g (acked_at m entries lists lin c below before after a.writer node q t is b (fits_call (next_call a.writer) node q t f))

      work : (h : Holding) (x : Work) → a.holds ≡ Some h → h.work ≡ x → Fits (work_read x h.position (call_wanted (next_call a.writer))) (Call node q t)
          → Telling m entries c (heard_in_work x h node (heard_of t) a)
      work h Free holds same f = writes f
      work h (Logs ahead dues) holds same f = writes f
      work h Broken holds same f = writes f
      work h (Tails until next told) holds same f = tail_tells a h until next told (heard_of t) holds same g

      by : (o : Option Holding) → a.holds ≡ o → Fits (read_first o (call_wanted (next_call a.writer))) (Call node q t) → Telling m entries c (heard_by o node (heard_of t) a)
      by None holds f = writes f
      by (Some h) holds f = work h h.work holds refl f

  moved_tells : (before after : List Record) (a : Actor) (r : Record) → record_of m c ≡ before ++ r ∷ after → Both m.nodes before a.writer → Telling m entries c a → Fits (wants a) r
      → Telling m entries c (moved_on r (record a { past = a.past ++ r ∷ [] }))
  unfolding moved_on
  moved_tells before after a (Call node q t) is b g f = call_tells before after (record a { past = a.past ++ Call node q t ∷ [] }) node q t is b g a.holds refl (read_fits a node q t f)
  moved_tells before after a (Late node q) is b g f = g
  moved_tells before after a (Operator node ask done) is b g f = g
  moved_tells before after a (Outcome text) is b g f = record { says_all = tell_rest m entries c a.says g.says_all; other = g.other; stage = g.stage }

  goes_tells : (before after : List Record) (a : Actor) (r : Record) → record_of m c ≡ before ++ r ∷ after → Both m.nodes before a.writer → Telling m entries c a → Fits (wants a) r
      → Telling m entries c (goes_on a r)
  unfolding goes_on settle_again
  goes_tells before after a r is b g f =
      let x : Actor = moved_on r (record a { past = a.past ++ r ∷ [] }) in
      settled_tells m entries c lin x.todo x (moved_tells before after a r is b g f)

  -- ## Along the record
  said_now : (a : Actor) (text : List ℕ) → Telling m entries c a → Fits (wants a) (Outcome text) → Tells m entries c text
  said_now a text g f = let s : Saying text a = fits_saying a text f in (subst (λ (l : List (List ℕ)). TellAll m entries c l) s.says g.says_all).0

  tells_along : (before xs : List Record) (a : Actor) → record_of m c ≡ before ++ xs → Both m.nodes before a.writer → Telling m entries c a → IsLed a xs
      → (text : List ℕ) → In (Outcome text) xs → Tells m entries c text
  unfolding IsLed In
  tells_along before [] a is b g led text i = absurd i
  tells_along before (r ∷ xs) a is b g led text (inl e) = said_now a text g (subst (λ (y : Record). Fits (wants a) y) e led.0)
  tells_along before (r ∷ xs) a is b g led text (inr i) =
      tells_along (before ++ r ∷ []) xs (goes_on a r) (is ∙ sym (append_assoc before (r ∷ []) xs)) (goes_writer m.nodes before a r b led.0) (goes_tells before xs a r is b g led.0) led.1 text i

  pub all_tell : (named : Bool) (ds : List Action) → 1 ≤ m.nodes → IsLed (actor_with named m.nodes ds) (record_of m c) → (text : List ℕ) → Says m c text → Tells m entries c text
  all_tell named ds some led text has =
      tells_along [] (record_of m c) (actor_with named m.nodes ds) refl (fresh_both named m.nodes ds)
      (settled_tells m entries c lin ds (fresh_actor named m.nodes) (fresh_tells m entries c lin named m.nodes some)) led text (contains_in (Outcome text) (record_of m c) has)

-- ## Of any script
said_of : (named : Bool) (lines : List Line) (m : Mesh) (ends : List End) → 1 ≤ m.nodes → Agrees m → FollowsLines named m.nodes lines m ends → (c : ℕ) → c < operator_of m
    → (text : List ℕ) → Says m c text → Tells m (epoch_order m) c text
said_of named lines m ends some a f c below text has =
    let there : (e : End) × (slice_get ends c ≡ Some e) = get_there ends c (subst (λ (n : ℕ). c < n) (sym (ends_many named m.nodes lines m ends f)) below) in
    let g : Follows named m.nodes (actions_of c lines) (record_of m c) (plan_of m c) there.0 = f.actors c there.0 below there.1 in
    all_tell m (epoch_order m) a.lists (epoch_order_linear m a) c below named (actions_of c lines) some g.led text has

pub results_tell_acknowledged : ResultsTellAcknowledged
results_tell_acknowledged s m ends can a f = record {
  edits = λ c txid below small has. (said c below (word (codes "acked") txid) has).edits txid small refl;
  takeovers = λ c epoch first below small fits has. (said c below (took epoch first) has).takeovers epoch first small fits refl;
  rolls = λ c start below small has. (said c below (word (codes "roll") start) has).rolls start small refl;
  closes = λ c last below small has. (said c below (word (codes "close") last) has).closes last small refl;
}
  where
    said : (c : ℕ) → c < operator_of m → (text : List ℕ) → Says m c text → Tells m (epoch_order m) c text
    said c below text has =
        said_of s.named (lines_of s) m ends (subst (λ (n : ℕ). 1 ≤ n) (sym f.nodes_are) can.nodes) a
        (subst (λ (n : ℕ). FollowsLines s.named n (lines_of s) m ends) (sym f.nodes_are) f) c below text has
