-- A trail of requests, line by line, and what is left of it when the gate is closed.
use Rattle.std.proofs.Common.{ℕ, ◌≡◌, ◌+◌, ◌<◌, Bool, List, [], ◌∷◌, ◌++◌, length, get_or, refl, sym, ap, ◌∙◌, subst, arith}
use lib.ListN.{get_elem?}
use mathlib.Core.Option.{some}
use Rattle.atomic_table.specs.Seated.{TableId}
use Rattle.base_disk.specs.View.{View}
use Rattle.journal_core.specs.declared.request.Request.{Request}
use Rattle.journal_core.specs.declared.reply.Reply.{Reply}
use Rattle.journal_core.specs.Answers.{Answers}
use Rattle.disk_node.specs.Acted.{IsActed}
use Rattle.disk_node.specs.Node.{NodeParts}
use Rattle.play_threads.specs.Board.{Begins, places_of, AllAt, IsClosed}
use Rattle.play_threads.proofs.GateLaws.{element, is_element}
use Rattle.play_threads.proofs.Histories.{at_less}
use Rattle.pipe_serve.specs.Serving.{state_told, AreAnswered, Leads, IsSharedAnswer}
use Rattle.pipe_serve.specs.Sessions.{SourceUse, SinkUse}
use Rattle.pipe_serve.specs.Trails.{Call, Line, calls_of, IsAnswered, IsTrail, IsLedBy, seat_in, IsClient, IsAttended, IsSharedOut, IsSharedFrom}
use Rattle.pipe_serve.proofs.CrashLaws.{outlasts}
use Rattle.pipe_serve.proofs.SeatLaws.{calls_same, calls_none}

module _ {D : Type 0} (tells : D → Type 0) (is_told : D → Bool) (view : D → View) where
  -- ## One line more
  trail_snoc : (trail : List Line) (line : Line) (old mid new : NodeParts D) → IsTrail tells is_told view trail old mid → IsAnswered tells is_told view mid line.1 new
      → IsTrail tells is_told view (trail ++ line ∷ []) old new
  trail_snoc [] line old mid new h k = (new, subst (λ (n : NodeParts D). IsAnswered tells is_told view n line.1 new) h k, refl)
  trail_snoc (l ∷ trail) line old mid new h k = (h.0, h.1, trail_snoc trail line h.0 mid new h.2 k)

  pub led_none : (first : NodeParts D → Type 0) (n : NodeParts D) → first n → IsLedBy tells is_told view first [] n
  led_none first n h = record { start = n; is_first = h; trail_is = refl }

  pub led_more : (first : NodeParts D → Type 0) (trail : List Line) (client : ℕ) (r : Request) (a : Reply) (old new : NodeParts D) → IsActed tells view old r a new
      → Answers (state_told is_told view old) r a (state_told is_told view new) → IsLedBy tells is_told view first trail old
      → IsLedBy tells is_told view first (trail ++ (client, (r, a)) ∷ []) new
  led_more first trail client r a old new acted step h =
      record { start = h.start; is_first = h.is_first; trail_is = trail_snoc trail (client, (r, a)) h.start old new h.trail_is (record { acted = acted; step = step }) }

  -- ## Its states
  trail_calls : (trail : List Line) (old new : NodeParts D) → IsTrail tells is_told view trail old new
      → (calls : List Call) × AreAnswered (state_told is_told view old) calls (state_told is_told view new)
  trail_calls [] old new h = ([], ap (state_told is_told view) h)
  trail_calls (line ∷ trail) old new h =
      let more = trail_calls trail h.0 new h.2 in
      (line.1 ∷ more.0, (state_told is_told view h.0, h.1.step, more.1))

  leads : (was_steady : Type 0) (At : ℕ → SourceUse → SinkUse → Type 0) (clients : ℕ) (old new : NodeParts D) → IsSharedOut tells is_told view was_steady At old clients new
      → Leads (state_told is_told view old) (state_told is_told view new)
  leads was_steady At clients old new h = let c = trail_calls h.trail old new h.asked in record { calls = c.0; answered = c.1 }

  pub shared_of : (was_steady : Type 0) (At : ℕ → SourceUse → SinkUse → Type 0) (clients : ℕ) (old new : NodeParts D)
      → IsSharedFrom tells is_told view was_steady At (λ n. n ≡ old) clients new
      → IsSharedOut tells is_told view was_steady At old clients new
  shared_of was_steady At clients old new h = subst (λ (n : NodeParts D). IsSharedOut tells is_told view was_steady At n clients new) h.is_first h.shared

  pub shared_leads : (was_steady : Type 0) (At : ℕ → SourceUse → SinkUse → Type 0) (clients : ℕ) (old new : NodeParts D)
      → IsSharedFrom tells is_told view was_steady At (λ n. n ≡ old) clients new
      → Leads (state_told is_told view old) (state_told is_told view new)
  shared_leads was_steady At clients old new h = leads was_steady At clients old new (shared_of was_steady At clients old new h)

  -- ## The gate is closed
  module _ {G : Type 0} (first : NodeParts D → Type 0) (was_steady : Type 0) (At : ℕ → SourceUse → SinkUse → Type 0) (table : TableId)
      (seen : G → List Line) (places : G → List ℕ) (its_table : G → TableId) (its_client : G → ℕ) (at_rest : (s : G) → places_of (its_client s) (seen s) ≡ places s) where
    client_of : (k : ℕ) (s : G) (log : List Line) (places_are : places_of k log ≡ places s)
        → IsAttended (IsSharedAnswer tells view was_steady) (At (k + 1)) table k (its_table s) (its_client s) (seen s)
        → Begins (seen s) log → IsClient (IsSharedAnswer tells view was_steady) (At (k + 1)) (calls_of k log)
    client_of k s log places_are h begins = record {
      old = seat_in table k [] 0;
      new = seat_in (its_table s) (its_client s) (seen s) h.faults;
      fresh = refl;
      all = ap (λ (n : ℕ). calls_of n (seen s)) h.its
          ∙ sym (calls_same k (seen s) log begins (places_are ∙ sym (at_rest s) ∙ ap (λ (n : ℕ). places_of n (seen s)) h.its));
      served = h.served;
    }

    pub closed_out : (seats : List G) (n : NodeParts D) → AllAt (λ k s. IsAttended (IsSharedAnswer tells view was_steady) (At (k + 1)) table k (its_table s) (its_client s) (seen s)) seats
        → IsClosed (IsLedBy tells is_told view first) seen places seats n → IsSharedFrom tells is_told view was_steady At first (length seats) n
    closed_out seats n attended closed = record {
      start = closed.led_to.start;
      is_first = closed.led_to.is_first;
      shared = record {
        trail = closed.log;
        asked = closed.led_to.trail_is;
        each = λ k lt. let e = element seats k lt in let here = closed.each k e.0 e.1 in client_of k e.0 closed.log here.1 (attended k e.0 e.1) here.0;
        no_others = λ k le. calls_none k closed.log (closed.no_others k le);
        crashes = outlasts tells is_told view closed.log closed.led_to.start n closed.led_to.trail_is;
      };
    }

-- ## All seats
-- each went through sessions alone, since it was handed out
pub attended_all : {G : Type 0} (Fits : Request → Reply → Type 0) (At : ℕ → SourceUse → SinkUse → Type 0) (table : TableId) (its_table : G → TableId) (its_client : G → ℕ) (seen : G → List Line)
    (before after : List G) → ((k : ℕ) (s : G) → get_elem? before k ≡ some s → (its_table s ≡ table) × (its_client s ≡ k)) → length after ≡ length before
    → ((k : ℕ) (d e : G) → k < length before
    → IsAttended Fits (At (its_client (get_or before k d) + 1)) (its_table (get_or before k d)) (its_client (get_or before k d))
    (its_table (get_or after k e)) (its_client (get_or after k e)) (seen (get_or after k e)))
    → AllAt (λ k s. IsAttended Fits (At (k + 1)) table k (its_table s) (its_client s) (seen s)) after
attended_all {G} Fits At table its_table its_client seen before after each many kept k s at =
    let lt : k < length before = let l = at_less after k s at in omega (arith, l, many) in
    let b = element before k lt in
    let first : get_or before k b.0 ≡ b.0 = is_element before k b.0 b.0 b.1 in
    let last : get_or after k s ≡ s = is_element after k s s at in
    let own = each k b.0 b.1 in
    let h : IsAttended Fits (At (its_client b.0 + 1)) (its_table b.0) (its_client b.0) (its_table s) (its_client s) (seen s) =
    subst (λ (p : G × G). IsAttended Fits (At (its_client p.0 + 1)) (its_table p.0) (its_client p.0) (its_table p.1) (its_client p.1) (seen p.1)) (λ i. (first i, last i)) (kept k b.0 s lt) in
    subst (λ (p : TableId × ℕ). IsAttended Fits (At (p.1 + 1)) p.0 p.1 (its_table s) (its_client s) (seen s)) (λ i. (own.0 i, own.1 i)) h

pub ruleset trails = (led_none)

pub ruleset shares = (shared_of)
