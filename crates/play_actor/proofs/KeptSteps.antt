-- The steps of a play, one kind each.
use Rattle.std.proofs.Common.{◌≡◌, ℕ, ◌-◌, List, [], ◌∷◌, ◌++◌, Bool, true, false, ap, ◌∙◌, set, get_or, Some, None}
use Rattle.journal_core.specs.declared.request.Request.{Request}
use Rattle.journal_history.specs.declared.node_ask.NodeAsk.{NodeAsk}
use Rattle.journal_history.specs.declared.node_ask.NodeAsk.TheVariants.{Act}
use Rattle.journal_history.specs.declared.record.Record.{Record}
use Rattle.journal_history.specs.declared.record.Record.TheVariants.{Call, Late, Operator, Outcome}
use Rattle.journal_history.specs.Cell.{Cell, fresh_cell, cell_takes}
use Rattle.journal_history.specs.Moving.{Placed}
use Rattle.mesh.specs.Marks.{next_number}
use Rattle.play_model.specs.Lines.{Line, Operates}
use Rattle.play_model.specs.Actor.{Actor, WantsCall, WantsCopy, Says, Rests, wants, goes_on, fresh_actor}
use Rattle.play_model.specs.Plays.{Play, play_step, take_turn, meet_want, call_made, copy_made, Delivery, Delivered, ReplyLost, NotDelivered}
use Rattle.play_model.specs.Plays.{delivery, told_of, note_record, node_asked, is_done, actor_at, next_line, line_taken}

-- what was listed of this node
abbrev pub placed : ℕ → ℕ → Bool → NodeAsk → Cell → Placed
placed node c muted ask v = record { node = node; line = record { caller = c; ask = ask; answer = (cell_takes v ask).answer }; muted = muted }

-- the play once this reached the node
abbrev pub asked_play : Play → ℕ → ℕ → Bool → NodeAsk → Cell → Play
asked_play p node c muted ask v = record p { cells = set p.cells (node - 1) (cell_takes v ask).cell; trace = p.trace ++ placed node c muted ask v ∷ [] }

abbrev pub reached_play : Delivery → Play → ℕ → ℕ → Request → Cell → Play
reached_play NotDelivered p node c r v = p
reached_play ReplyLost p node c r v = asked_play p node c true (Act false r) v
reached_play Delivered p node c r v = asked_play p node c false (Act false r) v

-- the play once the actor went on by a line of its record
abbrev pub noted_play : Play → ℕ → Actor → Record → Play
noted_play p c a r = record p { actors = set p.actors c (goes_on a r) }

-- the play once the actor has heard what came of its call
abbrev pub called_play : Delivery → Play → ℕ → ℕ → Request → Actor → Cell → Play
called_play d p c node r a v = noted_play (reached_play d p node c r v) c a (Call node r (told_of d (cell_takes v (Act false r)).answer))

pub step_call : (d : Delivery) (p : Play) (c node : ℕ) (r : Request) (a : Actor) (v : Cell) → p.turn ≡ Some c → actor_at p c ≡ a → wants a ≡ WantsCall node r
    → delivery a.marks node (next_number node a.past) ≡ d → get_or p.cells (node - 1) fresh_cell ≡ v → play_step p ≡ called_play d p c node r a v
unfolding play_step take_turn meet_want call_made note_record node_asked told_of actor_at
step_call d p c node r a v turn actor want goes cell =
    ap (λ t. take_turn t p) turn
    ∙ ap (λ x. meet_want (wants x) c p) actor
    ∙ ap (λ w. meet_want w c p) want
    ∙ ap (λ x. call_made (delivery x.marks node (next_number node x.past)) c node r p) actor
    ∙ ap (λ e. call_made e c node r p) goes
    ∙ by d
  where
    by : (e : Delivery) → call_made e c node r p ≡ called_play e p c node r a v
    by NotDelivered = ap (λ x. called_play NotDelivered p c node r x v) actor
    by ReplyLost = ap (λ y. called_play ReplyLost p c node r (get_or p.actors c (fresh_actor p.named p.nodes)) y) cell ∙ ap (λ x. called_play ReplyLost p c node r x v) actor
    by Delivered = ap (λ y. called_play Delivered p c node r (get_or p.actors c (fresh_actor p.named p.nodes)) y) cell ∙ ap (λ x. called_play Delivered p c node r x v) actor

-- the play once a late copy has come
abbrev pub copied_play : Play → ℕ → ℕ → Request → Actor → Cell → Play
copied_play p c node r a v = noted_play (asked_play p node c false (Act true r) v) c a (Late node r)

pub step_copy : (p : Play) (c node : ℕ) (r : Request) (a : Actor) (v : Cell) → p.turn ≡ Some c → actor_at p c ≡ a → wants a ≡ WantsCopy node r
    → get_or p.cells (node - 1) fresh_cell ≡ v → play_step p ≡ copied_play p c node r a v
unfolding play_step take_turn meet_want copy_made note_record node_asked actor_at
step_copy p c node r a v turn actor want cell =
    ap (λ t. take_turn t p) turn
    ∙ ap (λ x. meet_want (wants x) c p) actor
    ∙ ap (λ w. meet_want w c p) want
    ∙ ap (λ y. copied_play p c node r (get_or p.actors c (fresh_actor p.named p.nodes)) y) cell
    ∙ ap (λ x. copied_play p c node r x v) actor

pub step_says : (p : Play) (c : ℕ) (text : List ℕ) (a : Actor) → p.turn ≡ Some c → actor_at p c ≡ a → wants a ≡ Says text → play_step p ≡ noted_play p c a (Outcome text)
unfolding play_step take_turn meet_want note_record actor_at
step_says p c text a turn actor want =
    ap (λ t. take_turn t p) turn
    ∙ ap (λ x. meet_want (wants x) c p) actor
    ∙ ap (λ w. meet_want w c p) want
    ∙ ap (λ x. noted_play p c x (Outcome text)) actor

pub step_rests : (p : Play) (c : ℕ) (a : Actor) → p.turn ≡ Some c → actor_at p c ≡ a → wants a ≡ Rests → play_step p ≡ record p { turn = None }
unfolding play_step take_turn meet_want actor_at
step_rests p c a turn actor want =
    ap (λ t. take_turn t p) turn
    ∙ ap (λ x. meet_want (wants x) c p) actor
    ∙ ap (λ w. meet_want w c p) want

pub step_line : (p : Play) (l : Line) (ls : List Line) → p.turn ≡ None → p.lines ≡ l ∷ ls → play_step p ≡ line_taken l (record p { lines = ls })
unfolding play_step take_turn next_line
step_line p l ls turn lines = ap (λ t. take_turn t p) turn ∙ ap (λ x. next_line x p) lines

-- the play once the operator has done this to the node
abbrev pub operated_play : Play → List Line → ℕ → NodeAsk → ℕ → Cell → Play
operated_play p ls node ask c v =
    record (asked_play (record p { lines = ls }) node c false ask v) { operated = p.operated ++ Operator node ask (is_done (cell_takes v ask).answer) ∷ [] }

pub step_operated : (p : Play) (ls : List Line) (node c : ℕ) (ask : NodeAsk) (v : Cell) → p.turn ≡ None → p.lines ≡ Operates node ask ∷ ls → p.operator ≡ c
    → get_or p.cells (node - 1) fresh_cell ≡ v → play_step p ≡ operated_play p ls node ask c v
unfolding line_taken node_asked
step_operated p ls node c ask v turn lines operator cell =
    step_line p (Operates node ask) ls turn lines
    ∙ ap (λ y. operated_play p ls node ask p.operator y) cell
    ∙ ap (λ x. operated_play p ls node ask x v) operator
