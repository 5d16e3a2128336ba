-- A node's lives over one folder are one local run.
use Rattle.std.proofs.Common.{ℕ, ◌≡◌, ◌≤◌, ◌+◌, min, List, [], ◌∷◌, ◌++◌, length, map, Option, Some, None, Bool, true, false, refl, sym, ap, ◌∙◌, subst, arith, append_assoc}
use Rattle.std.proofs.Math.Nat.{min-eq_left}
use Rattle.journal_core.specs.declared.node_state.NodeState.{NodeState}
use Rattle.journal_core.specs.declared.request.Request.{Request}
use Rattle.journal_core.specs.declared.reply.Reply.{Reply}
use Rattle.journal_core.specs.Step.{node_step, effects_of, stopped, crashed, restarted, fresh_state}
use Rattle.journal_history.specs.declared.history_line.HistoryLine.{HistoryLine}
use Rattle.journal_history.specs.declared.node_ask.NodeAsk.{NodeAsk}
use Rattle.journal_history.specs.declared.node_ask.NodeAsk.TheVariants.{Act, Kill, Restart, Arm}
use Rattle.journal_history.specs.declared.node_ask.NodeAnswer.{NodeAnswer}
use Rattle.journal_history.specs.declared.node_ask.NodeAnswer.TheVariants.{Replied, Stopped, Done}
use Rattle.journal_history.specs.declared.stop.Stop.TheVariants.{Effects}
use Rattle.journal_history.specs.Cell.{Cell, Taken, cell_takes, take_request, take_kill, started_again, take_arming, IsLocalRun}
use Rattle.journal_history.proofs.CellCode.{step_up}
use Rattle.pipe_seats.specs.Lives.{Answered, Cut, NodeLife, AreSteps, IsLeftBy, IsLife, AreLives, line, answered_line, death_lines, life_lines, lives_lines, LivesAreLocal}

-- with no arming
abbrev plain : NodeState → Cell
plain s = record { state = s; arming = None }

abbrev armed : NodeState → ℕ → Cell
armed s keep = record { state = s; arming = Some (record { calls = 1; stop = Effects keep }) }

abbrev answers_with : NodeState → Reply → Taken
answers_with s reply = record { answer = Replied reply; cell = plain s }

abbrev stops_with : NodeState → Request → ℕ → Taken
stops_with s r keep = record { answer = Stopped keep; cell = plain (stopped s r keep) }

-- ## One line
one : (c d : Cell) (h : HistoryLine) (hs : List HistoryLine) → cell_takes c h.ask ≡ record { answer = h.answer; cell = d } → IsLocalRun d hs → IsLocalRun c (h ∷ hs)
unfolding IsLocalRun
one c d h hs e k = (sym (ap (λ (t : Taken). t.answer) e), subst (λ (x : Cell). IsLocalRun x hs) (sym (ap (λ (t : Taken). t.cell) e)) k)

asks : (s : NodeState) (r : Request) → s.up ≡ true → cell_takes (plain s) (Act false r) ≡ answers_with (node_step s r).state (node_step s r).reply
unfolding cell_takes
asks s r up = ap (λ (b : Bool). take_request b (plain s) r) up

kills : (s : NodeState) → s.up ≡ true → cell_takes (plain s) Kill ≡ record { answer = Done; cell = plain (crashed s) }
unfolding cell_takes
kills s up = ap (λ (b : Bool). take_kill b (plain s)) up

arms : (s : NodeState) (keep : ℕ) → s.up ≡ true → cell_takes (plain s) (Arm 1 (Effects keep)) ≡ record { answer = Done; cell = armed s keep }
unfolding cell_takes
arms s keep up = ap (λ (b : Bool). take_arming b (plain s) (record { calls = 1; stop = Effects keep })) up

stops : (s : NodeState) (r : Request) (keep : ℕ) → s.up ≡ true → cell_takes (armed s keep) (Act false r) ≡
    stops_with s r (min keep (length (effects_of s r)))
unfolding cell_takes
stops s r keep up = ap (λ (b : Bool). take_request b (armed s keep) r) up

starts : (s : NodeState) → s.up ≡ false → cell_takes (plain s) Restart ≡ record { answer = Done; cell = plain (restarted s) }
unfolding cell_takes
starts s down = ap (λ (b : Bool). started_again b (plain s)) down

-- ## A life
restarts : (operator : ℕ) (s : NodeState) (hs : List HistoryLine) → s.up ≡ false → IsLocalRun (plain (restarted s)) hs → IsLocalRun (plain s) (line operator Restart Done ∷ hs)
restarts operator s hs down k = one (plain s) (plain (restarted s)) (line operator Restart Done) hs (starts s down) k

dies : (operator : ℕ) (s t : NodeState) (cut : Option Cut) (hs : List HistoryLine) → s.up ≡ true → IsLeftBy s cut t → IsLocalRun (plain (restarted t)) hs
    → IsLocalRun (plain s) (death_lines operator cut ++ line operator Restart Done ∷ hs)
dies operator s t None hs up left k =
    let down : t.up ≡ false = ap (λ (x : NodeState). x.up) left in
    one (plain s) (plain (crashed s)) (line operator Kill Done) (line operator Restart Done ∷ hs) (kills s up)
    (subst (λ (x : NodeState). IsLocalRun (plain x) (line operator Restart Done ∷ hs)) left (restarts operator t hs down k))
dies operator s t (Some c) hs up left k =
    let down : t.up ≡ false = ap (λ (x : NodeState). x.up) left.0 in
    let few : min c.effects (length (effects_of s c.request)) ≡ c.effects = min-eq_left left.1 in
    let after : List HistoryLine = line operator Restart Done ∷ hs in
    let cut_there : cell_takes (armed s c.effects) (Act false c.request) ≡ stops_with s c.request c.effects =
    stops s c.request c.effects up ∙ ap (stops_with s c.request) few in
    one (plain s) (armed s c.effects) (line operator (Arm 1 (Effects c.effects)) Done) (line c.caller (Act false c.request) (Stopped c.effects) ∷ after) (arms s c.effects up)
    (one (armed s c.effects) (plain (stopped s c.request c.effects)) (line c.caller (Act false c.request) (Stopped c.effects)) after cut_there
    (subst (λ (x : NodeState). IsLocalRun (plain x) after) left.0 (restarts operator t hs down k)))

answers : (s t : NodeState) (as_asked : List Answered) (hs : List HistoryLine) → s.up ≡ true → AreSteps s as_asked t
    → (t.up ≡ true → IsLocalRun (plain t) hs) → IsLocalRun (plain s) (map answered_line as_asked ++ hs)
answers s t [] hs up same k = subst (λ (x : NodeState). IsLocalRun (plain x) hs) same (k (ap (λ (x : NodeState). x.up) same ∙ up))
answers s t (a ∷ more) hs up steps k =
    let next : NodeState = (node_step s a.request).state in
    one (plain s) (plain next) (answered_line a) (map answered_line more ++ hs)
    (asks s a.request up ∙ ap (answers_with next) (sym steps.0))
    (answers next t more hs (step_up s a.request ∙ up) steps.1 k)

life : (operator : ℕ) (s t : NodeState) (l : NodeLife) (hs : List HistoryLine) → s.up ≡ true → IsLife s l t → IsLocalRun (plain (restarted t)) hs → IsLocalRun (plain s) (life_lines operator l ++ hs)
life operator s t l hs up is k =
    let asked : List HistoryLine = map answered_line l.answered in
    let death : List HistoryLine = death_lines operator l.cut in
    let restart : List HistoryLine = line operator Restart Done ∷ [] in
    let whole : (asked ++ death ++ restart) ++ hs ≡ asked ++ (death ++ line operator Restart Done ∷ hs) =
    append_assoc (asked ++ death) restart hs ∙ append_assoc asked death (restart ++ hs) in
    subst (λ (x : List HistoryLine). IsLocalRun (plain s) x) (sym whole)
    (answers s is.last l.answered (death ++ line operator Restart Done ∷ hs) up is.steps (λ last_up. dies operator is.last t l.cut hs last_up is.left k))

none : (c : Cell) → IsLocalRun c []
unfolding IsLocalRun
none c = tt

lives : (operator : ℕ) (s : NodeState) (ls : List NodeLife) → s.up ≡ true → AreLives s ls → IsLocalRun (plain s) (lives_lines operator ls)
lives operator s [] up h = none (plain s)
lives operator s (l ∷ ls) up h = life operator s h.0 l (lives_lines operator ls) up h.1 (lives operator (restarted h.0) ls refl h.2)

pub all_lives : LivesAreLocal
all_lives operator ls h = lives operator fresh_state ls refl h
