-- The actor's own line of a script may be taken, and its action is one that may be asked.
use Rattle.std.proofs.Common.{ℕ, zero, suc, ◌≡◌, ◌+◌, ◌<◌, List, [], ◌∷◌, map, length, get_or, Option, Some, None, Bool, true, false, refl, sym, ap, ◌∙◌, subst, arith, inl, inr, ◌≢◌}
use Rattle.std.specs.Prelude.{codes, slice_get}
use Rattle.std.specs.List.{All}
use Rattle.play_script.specs.declared.answer.ReadScript.{ReadScript}
use Rattle.play_script.specs.declared.answer.ReadScript.TheVariants as read
use Rattle.play_script.specs.declared.script_line.ScriptLine.{ScriptLine}
use Rattle.play_script.specs.declared.script_line.ScriptLine.TheVariants as line
use Rattle.play_script.specs.Scripts.{ScriptView}
use Rattle.play_script.specs.Grammar.{IsScript, IsScriptText, is_silent}
use Rattle.play_script.specs.Reading.{Reads}
use Rattle.play_script.specs.Rules.{fault_of}
use Rattle.play_model.specs.Lines.{Line, Declares, Acts, Operates, Action, line_of, lines_of, IsAction, ArePlayable}
use Rattle.play_model.specs.Scripts.{ScriptsArePlayable, ScriptNumbersFit}
use Rattle.play_model.specs.Actions.{action_of, MayCome}
use Rattle.play_model.specs.KeptActor.{KeptActor}
use Rattle.play_threads.specs.Threads.{is_by}
use Rattle.play_threads.proofs.LineLaws.{may_come}
use Rattle.pipe_lead.specs.declared.answer.Answer.TheVariants as answer
use Rattle.pipe_lead.specs.Inputs.{may_be_taken, IsOwnLine, HasNoOwn, TookOwn, Says, Took, Passed, Refused, Stated, IsTaken, script_of, view_of}
use Rattle.pipe_lead.specs.declared.lead_state.LeadState.{LeadState}
use Rattle.pipe_lead.specs.States.{IsInState}

-- ## An element
found : {A : Type 0} (xs : List A) (k : ℕ) (x : A) → slice_get xs k ≡ Some x → (k < length xs) × (get_or xs k x ≡ x)
found [] k x e = absurd (cc e)
found (y ∷ xs) zero x e = (omega arith, (let same : y ≡ x = cc e in same))
found (y ∷ xs) (suc k) x e = let more = found xs k x e in (omega (arith, more.0), more.1)

-- ## It may come
may_at : (named : Bool) (n k : ℕ) (items : List ScriptLine) (line : ScriptLine) → All (MayCome named n) items → slice_get items k ≡ Some line → MayCome named n line
may_at named n k items line all e = let at = found items k line e in subst (MayCome named n) at.1 (all k line at.0)

pub own_may : (named : Bool) (n : ℕ) (script : ScriptView) (line : ScriptLine) → ScriptsArePlayable → ScriptNumbersFit → IsScript script → IsOwnLine n script line → named ≡ true → MayCome named n line
own_may named n script line playable fit is own names =
    let p = playable script is in
    let all : All (MayCome script.named script.nodes) script.lines = may_come script.named script.nodes 0 script.lines p.lines (fit script is).lines in
    let here : MayCome script.named script.nodes line = may_at script.named script.nodes 1 script.lines line all own.place in
    subst (λ (b : Bool). MayCome b n line) (own.named ∙ sym names) (subst (λ (m : ℕ). MayCome script.named m line) own.nodes_are here)

pub ruleset takes = (own_may)

-- such a line is the first actor's
pub own_by : (l : ScriptLine) → may_be_taken l ≡ true → is_by 0 (action_of (line_of l)) ≡ true
own_by (line.Declare name) e = absurd (cc e)
own_by (line.Takeover actor) e = e
own_by (line.Roll actor) e = e
own_by (line.Close actor) e = e
own_by (line.Log actor bodies) e = absurd (cc e)
own_by (line.Edits actor edits) e = e
own_by (line.Purge actor min) e = absurd (cc e)
own_by (line.Trim actor extra) e = e
own_by (line.Tail actor) e = e
own_by (line.Checkpoint actor) e = e
own_by (line.Reload actor) e = e
own_by (line.Drop actor node call) e = absurd (cc e)
own_by (line.Mute actor node call) e = absurd (cc e)
own_by (line.Late actor node call) e = absurd (cc e)
own_by (line.Kill node) e = absurd (cc e)
own_by (line.Restart node) e = absurd (cc e)
own_by (line.Arm node calls stop) e = absurd (cc e)

-- ## Scripts without such a line
pub without_names : (n : ℕ) (s : ScriptView) → s.named ≡ false → HasNoOwn n s
without_names n s e = record { none = λ l own. absurd (let no : true ≡ false = sym own.named ∙ e in cc no) }

pub of_other_count : (n : ℕ) (s : ScriptView) → s.nodes ≢ n → HasNoOwn n s
of_other_count n s e = record { none = λ l own. e own.nodes_are }

pub without_line : (n : ℕ) (s : ScriptView) → slice_get s.lines 1 ≡ None → HasNoOwn n s
without_line n s e = record { none = λ l own. absurd (let no : Some l ≡ None = sym own.place ∙ e in cc no) }

pub with_other : (n : ℕ) (s : ScriptView) (l : ScriptLine) → slice_get s.lines 1 ≡ Some l → may_be_taken l ≡ false → HasNoOwn n s
with_other n s l e other = record {
  none = λ k own. absurd (
      let here : Some k ≡ Some l = sym own.place ∙ e in
      let same : k ≡ l = cc here in
      let no : true ≡ false = sym own.own ∙ ap may_be_taken same ∙ other in
      cc no
      );
}

pub ruleset others = (without_names, of_other_count, without_line, with_other)

-- ## What came of a line
pub passes_taken : (n : ℕ) (text : List ℕ) (k : KeptActor) → is_silent text ≡ true → IsTaken n text answer.Nothing k k
passes_taken n text k e = record { step = Passed; is = e; answered = tt; takes = refl }

pub state_taken : (n : ℕ) (text : List ℕ) (of : LeadState) (k : KeptActor) → text ≡ codes "state" → IsInState of (view_of k) → IsTaken n text (answer.State of) k k
state_taken n text of k e h = record { step = Stated of; is = e; answered = refl; takes = (refl, h) }

pub own_taken : (n m : ℕ) (text written : List ℕ) (s : ScriptView) (b : Bool) (old new : KeptActor) → written ≡ script_of m text → m ≡ n → IsScriptText written s → b ≡ true → TookOwn b n s old new
    → IsTaken n text answer.Results old new
own_taken n m text written s b old new is count reads holds took =
    let its : TookOwn true n s old new = subst (λ (x : Bool). TookOwn x n s old new) holds took in
    record {
      step = Took its.0;
      is = record { script = s; reads = subst (λ (x : List ℕ). IsScriptText x s) (is ∙ ap (λ (k : ℕ). script_of k text) count) reads; is_own = its.1 };
      answered = tt;
      takes = its.2;
    }

pub other_taken : (n m : ℕ) (text written : List ℕ) (s : ScriptView) (r : ReadScript) (b : Bool) (old new : KeptActor) → written ≡ script_of m text → m ≡ n
    → ((t : ScriptView) → IsScriptText written t → Reads r t) → r ≡ read.Script s → b ≡ false → TookOwn b n s old new → IsTaken n text (answer.Broken 2) old new
other_taken n m text written s r b old new is count only one fails took =
    let its : TookOwn false n s old new = subst (λ (x : Bool). TookOwn x n s old new) fails took in
    let text_is : script_of n text ≡ written = sym (is ∙ ap (λ (k : ℕ). script_of k text) count) in
    record {
      step = Refused 2;
      is = inr (
        refl,
        λ (l : ScriptLine) (h : Says n text l).
            let reads : IsScriptText written h.script = subst (λ (x : List ℕ). IsScriptText x h.script) text_is h.reads in
            let same : s ≡ h.script = subst (λ (x : ReadScript). Reads x h.script) one (only h.script reads) in
            its.0.none l (subst (λ (x : ScriptView). IsOwnLine n x l) (sym same) h.is_own),
      );
      answered = refl;
      takes = its.1;
    }

pub bad_taken : (n m : ℕ) (text written : List ℕ) (line rule : ℕ) (k : KeptActor) → written ≡ script_of m text → m ≡ n → fault_of written ≡ Some (line, rule) → IsTaken n text (answer.Broken rule) k k
bad_taken n m text written line rule k is count fault =
    record { step = Refused rule; is = inl (line, ap fault_of (sym (is ∙ ap (λ (j : ℕ). script_of j text) count)) ∙ fault); answered = refl; takes = refl }

pub ruleset taken = (passes_taken, state_taken, own_taken, other_taken, bad_taken)

-- ## Its action
abbrev pub IsOwnAction : Bool → Option (ℕ × Action) → Type 0
IsOwnAction named None = Unit {0}
IsOwnAction named (Some d) = IsAction named d.1

at_line : (named : Bool) (n actors k : ℕ) (ls : List Line) (l : Line) → ArePlayable named n actors ls → slice_get ls k ≡ Some l → IsOwnAction named (action_of l)
unfolding ArePlayable
at_line named n actors k [] l p e = absurd (cc e)
at_line named n actors zero (Declares name ∷ ls) l p e = let same : Declares name ≡ l = cc e in subst (λ (x : Line). IsOwnAction named (action_of x)) same tt
at_line named n actors zero (Acts actor action ∷ ls) l p e = let same : Acts actor action ≡ l = cc e in subst (λ (x : Line). IsOwnAction named (action_of x)) same p.1
at_line named n actors zero (Operates node ask ∷ ls) l p e = let same : Operates node ask ≡ l = cc e in subst (λ (x : Line). IsOwnAction named (action_of x)) same tt
at_line named n actors (suc k) (Declares name ∷ ls) l p e = at_line named n (actors + 1) k ls l p e
at_line named n actors (suc k) (Acts actor action ∷ ls) l p e = at_line named n actors k ls l p.2 e
at_line named n actors (suc k) (Operates node ask ∷ ls) l p e = at_line named n actors k ls l p.3 e

get_map : {A B : Type 0} (f : A → B) (xs : List A) (k : ℕ) (x : A) → slice_get xs k ≡ Some x → slice_get (map f xs) k ≡ Some (f x)
get_map f [] k x e = absurd (cc e)
get_map f (y ∷ xs) zero x e = let same : y ≡ x = cc e in ap (λ z. Some (f z)) same
get_map f (y ∷ xs) (suc k) x e = get_map f xs k x e

pub own_action : (n : ℕ) (text : List ℕ) (line : ScriptLine) → ScriptsArePlayable → Says n text line → IsOwnAction true (action_of (line_of line))
own_action n text line playable h =
    let p = playable h.script h.reads.script in
    subst (λ (b : Bool). IsOwnAction b (action_of (line_of line))) h.is_own.named
    (at_line h.script.named h.script.nodes 0 1 (lines_of h.script) (line_of line) p.lines (get_map line_of h.script.lines 1 line h.is_own.place))
