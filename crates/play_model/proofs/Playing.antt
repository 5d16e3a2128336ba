-- What a play keeps from step to step.
use Rattle.std.proofs.Common.{◌≡◌, ℕ, ◌-◌, ◌<◌, ◌≤◌, List, ◌++◌, Bool, true, false, refl, sym, ap, ◌∙◌, subst, length, get_or, set, inl, inr}
use Rattle.std.specs.Prelude.{Some, ◌≢◌}
use Rattle.std.proofs.lemmas.List.{get_or-set_other, length-set}
use Rattle.journal_core.specs.declared.request.Request.{Request}
use Rattle.journal_history.specs.declared.node_ask.NodeAsk.{NodeAsk}
use Rattle.journal_history.specs.declared.node_ask.NodeAsk.TheVariants.{Act}
use Rattle.journal_history.specs.declared.node_ask.NodeAnswer.{NodeAnswer}
use Rattle.journal_history.specs.declared.record.Record.{Record}
use Rattle.journal_history.specs.declared.record.Record.TheVariants.{Call, Late, Outcome}
use Rattle.journal_history.specs.declared.record.Told.TheVariants as told
use Rattle.journal_history.specs.Cell.{fresh_cell}
use Rattle.journal_history.specs.Moving.{Placed}
use Rattle.mesh.specs.Marks.{next_number, IsAsMarked}
use Rattle.mesh.specs.Makers.{IsOperators}
use Rattle.mesh.specs.Matches.{reaches, IsSame, IsWithin, AreWithin}
use Rattle.play_model.specs.Lines.{Line, count_actors, names_in, operations_in, ArePlayable, HasNodes}
use Rattle.play_model.specs.Actor.{Actor, fresh_actor, Want, WantsCall, WantsCopy, Says, Rests, wants, goes_on, Fits}
use Rattle.play_model.specs.Plays.{Play, actor_at, taken_at, node_asked, note_record, Delivery, Delivered, ReplyLost, NotDelivered, delivery, told_of, call_made, copy_made, meet_want}
use Rattle.play_model.specs.Follows.{AreOperations}
use Rattle.mesh.proofs.Lists.{Alike, alike}
use Rattle.play_calls.proofs.MarkLaws.{delivery_marked}
use Rattle.play_model.proofs.Goes.{IsTold}
use Rattle.play_model.proofs.Sound.{goes_past, wants_call_within, wants_copy_within}
use Rattle.play_model.proofs.Parts.{Actors, actors_noted, Nodes, nodes_asked}
use Rattle.mesh.specs.Traces.{IsEvent}
use Rattle.play_model.proofs.Links.{Links, links_quiet, links_loud}
use Rattle.play_model.proofs.Answers.{call_answer, told_stands, told_reaches, told_muted}

-- the operator's record
pub record Operated (n : ℕ) (taken : List Line) (rs : List Record) : Type 0 where
  pub follows : AreOperations (operations_in taken) rs
  pub theirs : IsOperators rs
  pub within : AreWithin n rs

pub record Holds (named : Bool) (n : ℕ) (lines : List Line) (p : Play) : Type 0 where
  pub taken : List Line
  pub all : lines ≡ taken ++ p.lines
  pub named_is : p.named ≡ named
  pub nodes : p.nodes ≡ n
  pub some : HasNodes p.named p.nodes
  pub operator : p.operator ≡ count_actors lines
  pub actors : Actors p.named p.nodes taken p.actors
  pub cells : Nodes p.nodes p.cells p.trace
  pub links : Links p.nodes p.operator (fresh_actor p.named p.nodes) p.actors p.operated p.trace
  pub counted : length p.actors ≡ count_actors taken
  pub names : p.names ≡ names_in taken
  pub operated : Operated p.nodes taken p.operated
  pub playable : ArePlayable p.named p.nodes (length p.actors) p.lines
  pub turn : (a : ℕ) → p.turn ≡ Some a → a < length p.actors
  pub rests : (c : ℕ) → c < length p.actors → p.turn ≢ Some c → wants (actor_at p c) ≡ Rests

some_is : (a b : ℕ) → Some a ≡ Some b → a ≡ b
some_is a b e = cc e

-- the other actors rest while one has its turn
others_rest : (p : Play) (a : ℕ) (x : Actor) → p.turn ≡ Some a → ((c : ℕ) → c < length p.actors → p.turn ≢ Some c → wants (actor_at p c) ≡ Rests)
    → (c : ℕ) → c < length (set p.actors a x) → p.turn ≢ Some c → wants (get_or (set p.actors a x) c (fresh_actor p.named p.nodes)) ≡ Rests
unfolding actor_at
others_rest p a x e rests c below off =
    let apart : c ≢ a = λ (y : c ≡ a). off (e ∙ ap (λ (z : ℕ). Some z) (sym y)) in
    ap wants (get_or-set_other p.actors a c x (fresh_actor p.named p.nodes) apart) ∙ rests c (subst (λ (z : ℕ). c < z) (length-set p.actors a x) below) off

-- ## A line of an actor's record that reached no node
noted_quiet : (named : Bool) (n : ℕ) (lines : List Line) (p : Play) (a : ℕ) (r : Record) → Holds named n lines p → p.turn ≡ Some a
    → Fits (wants (actor_at p a)) r → IsTold (actor_at p a) r → IsWithin p.nodes r → ((k : ℕ) → reaches k r ≡ false) → Holds named n lines (note_record a r p)
unfolding note_record actor_at
noted_quiet named n lines p a r h e f t w off =
    let in_ : a < length p.actors = h.turn a e in
    let b : Actor = goes_on (get_or p.actors a (fresh_actor p.named p.nodes)) r in
    let long : length (set p.actors a b) ≡ length p.actors = length-set p.actors a b in
    record {
      taken = h.taken;
      all = h.all;
      named_is = h.named_is;
      nodes = h.nodes;
      some = h.some;
      operator = h.operator;
      actors = actors_noted p.named p.nodes h.taken p.actors a r h.actors in_ f t w;
      cells = h.cells;
      links = links_quiet p.nodes p.operator (fresh_actor p.named p.nodes) p.actors p.operated p.trace a b r h.links in_ (goes_past (get_or p.actors a (fresh_actor p.named p.nodes)) r) off;
      counted = long ∙ h.counted;
      names = h.names;
      operated = h.operated;
      playable = subst (λ (m : ℕ). ArePlayable p.named p.nodes m p.lines) (sym long) h.playable;
      turn = λ c g. subst (λ (m : ℕ). c < m) (sym long) (h.turn c g);
      rests = others_rest p a b e h.rests;
    }

-- ## A line that reached a node
abbrev pub asked_as : ℕ → ℕ → Bool → NodeAsk → Play → Placed
asked_as k a m ask p = record { node = k; line = record { caller = a; ask = ask; answer = (taken_at k ask p).answer }; muted = m }

noted_loud : (named : Bool) (n : ℕ) (lines : List Line) (p : Play) (a k : ℕ) (m : Bool) (ask : NodeAsk) (r : Record) → Holds named n lines p → p.turn ≡ Some a
    → Fits (wants (actor_at p a)) r → IsTold (actor_at p a) r → IsWithin p.nodes r → (1 ≤ k) × (k ≤ p.nodes)
    → IsEvent r (asked_as k a m ask p) → Holds named n lines (note_record a r (node_asked k a m ask p))
unfolding note_record actor_at node_asked
noted_loud named n lines p a k m ask r h e f t w range event =
    let in_ : a < length p.actors = h.turn a e in
    let b : Actor = goes_on (get_or p.actors a (fresh_actor p.named p.nodes)) r in
    let long : length (set p.actors a b) ≡ length p.actors = length-set p.actors a b in
    record {
      taken = h.taken;
      all = h.all;
      named_is = h.named_is;
      nodes = h.nodes;
      some = h.some;
      operator = h.operator;
      actors = actors_noted p.named p.nodes h.taken p.actors a r h.actors in_ f t w;
      cells = nodes_asked p.nodes p.cells p.trace (asked_as k a m ask p) h.cells range.0 range.1 refl;
      links = links_loud p.nodes p.operator (fresh_actor p.named p.nodes) p.actors p.operated p.trace a b r (asked_as k a m ask p) h.links in_
          (goes_past (get_or p.actors a (fresh_actor p.named p.nodes)) r) refl range event;
      counted = long ∙ h.counted;
      names = h.names;
      operated = h.operated;
      playable = subst (λ (z : ℕ). ArePlayable p.named p.nodes z p.lines) (sym long) h.playable;
      turn = λ c g. subst (λ (z : ℕ). c < z) (sym long) (h.turn c g);
      rests = others_rest p a b e h.rests;
    }

-- ## What an actor wants
call_within : (named : Bool) (n : ℕ) (lines : List Line) (p : Play) (a k : ℕ) (q : Request) → Holds named n lines p → p.turn ≡ Some a → wants (actor_at p a) ≡ WantsCall k q → (1 ≤ k) × (k ≤ p.nodes)
unfolding actor_at
call_within named n lines p a k q h e w = wants_call_within p.named p.nodes k q (get_or p.actors a (fresh_actor p.named p.nodes)) (h.actors.each a (h.turn a e)).sound w

called_by : (named : Bool) (n : ℕ) (lines : List Line) (p : Play) (a k : ℕ) (q : Request) (d : Delivery) → Holds named n lines p → p.turn ≡ Some a → wants (actor_at p a) ≡ WantsCall k q
    → delivery (actor_at p a).marks k (next_number k (actor_at p a).past) ≡ d → Holds named n lines (call_made d a k q p)
unfolding call_made IsTold Fits reaches IsSame told_of
called_by named n lines p a k q NotDelivered h e w is =
    let range : (1 ≤ k) × (k ≤ p.nodes) = call_within named n lines p a k q h e w in
    noted_quiet named n lines p a (Call k q told.Dropped) h e (subst (λ (x : Want). Fits x (Call k q told.Dropped)) (sym w) (refl, refl))
    (subst (λ (d : Delivery). IsAsMarked (actor_at p a).marks k (next_number k (actor_at p a).past) (told_of d (taken_at k (Act false q) p).answer)) is
    (delivery_marked (actor_at p a).marks k (next_number k (actor_at p a).past) (taken_at k (Act false q) p).answer))
    range (λ i. refl)
called_by named n lines p a k q ReplyLost h e w is =
    let range : (1 ≤ k) × (k ≤ p.nodes) = call_within named n lines p a k q h e w in
    noted_loud named n lines p a k true (Act false q) (Call k q told.Muted) h e (subst (λ (x : Want). Fits x (Call k q told.Muted)) (sym w) (refl, refl))
    (subst (λ (d : Delivery). IsAsMarked (actor_at p a).marks k (next_number k (actor_at p a).past) (told_of d (taken_at k (Act false q) p).answer)) is
    (delivery_marked (actor_at p a).marks k (next_number k (actor_at p a).past) (taken_at k (Act false q) p).answer))
    range range (record { reach = λ i. refl; same = (refl, tt); muted = refl })
called_by named n lines p a k q Delivered h e w is =
    let range : (1 ≤ k) × (k ≤ p.nodes) = call_within named n lines p a k q h e w in
    let answer : NodeAnswer = (taken_at k (Act false q) p).answer in
    noted_loud named n lines p a k false (Act false q) (Call k q (told_of Delivered answer)) h e (subst (λ (x : Want). Fits x (Call k q (told_of Delivered answer))) (sym w) (refl, refl))
    (subst (λ (d : Delivery). IsAsMarked (actor_at p a).marks k (next_number k (actor_at p a).past) (told_of d answer)) is
    (delivery_marked (actor_at p a).marks k (next_number k (actor_at p a).past) answer))
    range range
    (record { reach = λ i. told_reaches i k q answer; same = (refl, told_stands answer (call_answer (get_or p.cells (k - 1) fresh_cell) false q)); muted = told_muted answer })

copied_holds : (named : Bool) (n : ℕ) (lines : List Line) (p : Play) (a k : ℕ) (q : Request) → Holds named n lines p → p.turn ≡ Some a
    → wants (actor_at p a) ≡ WantsCopy k q → Holds named n lines (copy_made a k q p)
unfolding copy_made IsTold Fits reaches IsSame
copied_holds named n lines p a k q h e w =
    let range : (1 ≤ k) × (k ≤ p.nodes) = unfold actor_at in wants_copy_within p.named p.nodes k q (get_or p.actors a (fresh_actor p.named p.nodes)) (h.actors.each a (h.turn a e)).sound w in
    noted_loud named n lines p a k false (Act true q) (Late k q) h e (subst (λ (x : Want). Fits x (Late k q)) (sym w) (refl, refl)) tt range range
    (record { reach = λ i. refl; same = refl; muted = refl })

pub wanted_holds : (named : Bool) (n : ℕ) (lines : List Line) (p : Play) (a : ℕ) (x : Want) → Holds named n lines p → p.turn ≡ Some a → wants (actor_at p a) ≡ x → Holds named n lines (meet_want x a p)
unfolding meet_want Fits IsTold reaches Alike
wanted_holds named n lines p a Rests h e w = record {
  taken = h.taken;
  all = h.all;
  named_is = h.named_is;
  nodes = h.nodes;
  some = h.some;
  operator = h.operator;
  actors = h.actors;
  cells = h.cells;
  links = h.links;
  counted = h.counted;
  names = h.names;
  operated = h.operated;
  playable = h.playable;
  turn = λ b f. absurd (cc f);
  rests = λ c below off. unfold actor_at in by c below (alike c a);
}
  where
    by : (c : ℕ) → c < length p.actors → Alike c a → wants (actor_at p c) ≡ Rests
    by c below (inl f) = ap (λ (z : ℕ). wants (actor_at p z)) f.1 ∙ w
    by c below (inr f) = h.rests c below (λ (g : p.turn ≡ Some c). f.1 (some_is c a (sym g ∙ e)))
wanted_holds named n lines p a (Says t) h e w = noted_quiet named n lines p a (Outcome t) h e (subst (λ (x : Want). Fits x (Outcome t)) (sym w) refl) tt tt (λ k. refl)
wanted_holds named n lines p a (WantsCall k q) h e w = called_by named n lines p a k q (delivery (actor_at p a).marks k (next_number k (actor_at p a).past)) h e w refl
wanted_holds named n lines p a (WantsCopy k q) h e w = copied_holds named n lines p a k q h e w
