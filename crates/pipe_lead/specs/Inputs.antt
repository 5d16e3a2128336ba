-- The lines that a name node in a process of its own is given.
use Rattle.std.specs.Prelude.{ℕ, ◌≡◌, ◌==◌, ◌⊎◌, Bool, true, false, List, [], ◌∷◌, ◌++◌, Some, codes, decimal, slice_get}
use Rattle.base_words.specs.Words.{joined, words_of}
use Rattle.play_script.specs.declared.script_line.ScriptLine.{ScriptLine}
use Rattle.play_script.specs.declared.script_line.ScriptLine.TheVariants as line
use Rattle.play_script.specs.Scripts.{ScriptView}
use Rattle.play_script.specs.Grammar.{IsScriptText, is_silent}
use Rattle.play_script.specs.Rules.{fault_of}
use Rattle.play_model.specs.Lines.{line_of}
use Rattle.play_model.specs.Actions.{ActorView, action_of, TakesIf}
use Rattle.play_model.specs.KeptActor.{KeptActor}
use Rattle.pipe_lead.specs.declared.lead_state.LeadState.{LeadState}
use Rattle.pipe_lead.specs.States.{IsInState}
use Rattle.pipe_lead.specs.declared.answer.Answer.{Answer}
use Rattle.pipe_lead.specs.declared.answer.Answer.TheVariants as answer

-- with the actor's name after the first word
abbrev pub with_actor : List (List ℕ) → List (List ℕ)
with_actor [] = []
with_actor (word ∷ words) = word ∷ codes "a" ∷ words

-- the text of a script of so many nodes, whose one actor has this line alone
abbrev pub script_of : ℕ → List ℕ → List ℕ
script_of nodes line = codes "names " ++ decimal nodes ++ (10 ∷ codes "name a" ++ 10 ∷ []) ++ joined (with_actor (words_of line)) ++ 10 ∷ []

-- the first actor's lines, of a kind that isn't about losses
abbrev pub may_be_taken : ScriptLine → Bool
may_be_taken (line.Takeover actor) = actor == 0
may_be_taken (line.Roll actor) = actor == 0
may_be_taken (line.Close actor) = actor == 0
may_be_taken (line.Edits actor edits) = actor == 0
may_be_taken (line.Trim actor extra) = actor == 0
may_be_taken (line.Tail actor) = actor == 0
may_be_taken (line.Checkpoint actor) = actor == 0
may_be_taken (line.Reload actor) = actor == 0
may_be_taken _ = false

-- the line of a script that the text says, with names and over so many nodes, and the actor's own
pub record IsOwnLine (nodes : ℕ) (script : ScriptView) (line : ScriptLine) : Type 0 where
  pub named : script.named ≡ true
  pub nodes_are : script.nodes ≡ nodes
  pub place : slice_get script.lines 1 ≡ Some line
  pub own : may_be_taken line ≡ true

-- there is none
pub record HasNoOwn (nodes : ℕ) (script : ScriptView) : Type 0 where
  pub none : (line : ScriptLine) → IsOwnLine nodes script line → ⊥

-- the actor took it, if there is one
abbrev pub TookOwn : Bool → ℕ → ScriptView → KeptActor → KeptActor → Type 0
TookOwn true nodes script old new = (line : ScriptLine) × IsOwnLine nodes script line × TakesIf nodes (action_of (line_of line)) old new
TookOwn false nodes script old new = HasNoOwn nodes script × (new ≡ old)

pub record Says (nodes : ℕ) (text : List ℕ) (line : ScriptLine) : Type 0 where
  pub script : ScriptView
  pub reads : IsScriptText (script_of nodes text) script
  pub is_own : IsOwnLine nodes script line

-- what came of a line: it was taken; it is empty or a comment; it is none that may be taken, by
-- this rule; or it asks what the name node is, and that was told
pub data Step : Type 0 where
  Took : (line : ScriptLine) → Step
  Passed : Step
  Refused : (rule : ℕ) → Step
  Stated : (of : LeadState) → Step

-- the first rule of scripts that it breaks, or that it is no line here: its first word begins none
abbrev pub IsRefusedBy : ℕ → List ℕ → ℕ → Type 0
IsRefusedBy nodes text rule = ((line : ℕ) × (fault_of (script_of nodes text) ≡ Some (line, rule))) ⊎ ((rule ≡ 2) × ((line : ScriptLine) → Says nodes text line → ⊥))

abbrev pub IsStepOf : ℕ → List ℕ → Step → Type 0
IsStepOf nodes text (Took line) = Says nodes text line
IsStepOf nodes text Passed = is_silent text ≡ true
IsStepOf nodes text (Refused rule) = IsRefusedBy nodes text rule
IsStepOf nodes text (Stated of) = text ≡ codes "state"

-- what contracts see of it
abbrev pub view_of : KeptActor → ActorView
view_of k = record { writer = k.writer; holds = k.holds }

-- what it did to the actor
abbrev pub TakesStep : ℕ → Step → KeptActor → KeptActor → Type 0
TakesStep nodes (Took line) old new = TakesIf nodes (action_of (line_of line)) old new
TakesStep nodes Passed old new = new ≡ old
TakesStep nodes (Refused rule) old new = new ≡ old
TakesStep nodes (Stated of) old new = (new ≡ old) × IsInState of (view_of old)

-- how it is answered
abbrev pub IsAnsweredBy : Answer → Step → Type 0
IsAnsweredBy answer.Results (Took line) = Unit {0}
IsAnsweredBy answer.Nothing Passed = Unit {0}
IsAnsweredBy (answer.Broken rule) (Refused by) = by ≡ rule
IsAnsweredBy (answer.State state) (Stated of) = of ≡ state
IsAnsweredBy _ _ = ⊥

-- one line: what came of it, and what it did to the actor
pub record IsTaken (nodes : ℕ) (text : List ℕ) (of : Answer) (old new : KeptActor) : Type 0 where
  pub step : Step
  pub is : IsStepOf nodes text step
  pub answered : IsAnsweredBy of step
  pub takes : TakesStep nodes step old new
