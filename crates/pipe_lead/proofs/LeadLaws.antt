-- A name node along the lines of its input.
use Rattle.std.proofs.Common.{ℕ, ◌≡◌, ◌+◌, ◌^◌, ◌<◌, ◌≤◌, ◌==◌, List, [], ◌∷◌, ◌++◌, map, length, take, drop, Option, Some, None, Bool, true}
use Rattle.std.proofs.Common.{false, cond, refl, sym, ap, ◌∙◌, subst, arith, length-append, append-nil, append_assoc, inl, inr}
use Rattle.std.specs.Prelude.{codes, is_some}
use Rattle.std.specs.Io.KnownBytes.{Appends, Consumes, prepend_known}
use Rattle.std.proofs.KnownBytes.{Appends-nil, Appends-trans, Consumes-nil, Consumes-trans}
use Rattle.std.proofs.Math.Seq.{take-append-add, drop-append_seam}
use Rattle.base_outside.specs.Whole.{TakesFront}
use Rattle.journal_history.specs.declared.record.Record.{Record}
use Rattle.journal_session.specs.Lines.{IsLine, lines_text, longest_line}
use Rattle.journal_session.specs.Reader.{LineReaderView, to_come, IsNextLine, IsEmptied}
use Rattle.journal_session.specs.declared.next.Next.{Next}
use Rattle.journal_session.specs.declared.next.Next.TheVariants as next
use Rattle.mesh.specs.Makers.{IsOfChores}
use Rattle.play_names.specs.Holding.{Holding}
use Rattle.play_script.specs.declared.script_line.ScriptLine.{ScriptLine}
use Rattle.play_calls.specs.Logs.{LogView, new_log}
use Rattle.play_model.specs.Lines.{Action, Line, Declares, Acts, Operates, line_of, actions_of, AreActions}
use Rattle.play_model.specs.Actor.{last_of}
use Rattle.play_model.specs.Actions.{ActorView, has_names, kept_by, action_of, TakesIf, IsIdleActor}
use Rattle.play_model.specs.KeptActor.{KeptActor}
use Rattle.play_model.specs.Scripts.{ScriptsArePlayable}
use Rattle.caller.specs.Callers.{AreLater}
use Rattle.caller.specs.LaterLaws.{later_same, later_on}
use Rattle.pipe_seats.specs.Piped.{AreLater as ArePipesLater, AreResting}
use Rattle.pipe_seats.specs.Wires.{PipeCaller, pipe_wire, pipes_of, readies_none, readies_on}
use Rattle.pipe_seats.proofs.PipesGo.{pipes_go}
use Rattle.pipe_seats.proofs.PipeLaws.{text_snoc}
use Rattle.pipe_lead.specs.declared.answer.Answer.{Answer}
use Rattle.pipe_lead.specs.declared.answer.Answer.TheVariants as answer
use Rattle.pipe_lead.specs.declared.lead_end.LeadEnd.{LeadEnd}
use Rattle.pipe_lead.specs.declared.lead_end.LeadEnd.TheVariants as lead_end
use Rattle.pipe_lead.specs.Inputs.{Step, Took, Passed, Refused, Stated, IsStepOf, TakesStep, IsAnsweredBy, IsTaken}
use Rattle.pipe_lead.specs.declared.lead_state.LeadState.{LeadState}
use Rattle.pipe_lead.specs.States.{state_text}
use Rattle.pipe_lead.specs.Leads.{refusal_text, answer_text, AreTold, none, took, passed, refused, stated, taken_in, AreStepsOf, IsWithRolls, no_line, its_line, one_roll, IsWritten}
use Rattle.pipe_lead.specs.Leads.{IsAnsweredAs, IsAnswered, IsAnsweredInTime, most_used, used_after, tells_all, IsLong, EndsAt, HasLed, Leads, IfLasts, end_of}
use Rattle.pipe_lead.specs.Begun.{IsBegun, HasDoneFrom, FollowsFrom}
use Rattle.pipe_lead.proofs.DoneLaws.{done_first, done_line, done_follows, fresh_follows, begun_made}
use Rattle.pipe_lead.proofs.TakeLaws.{IsOwnAction, own_by, own_action}

-- ## One line more
steps_snoc : (n : ℕ) (lines : List (List ℕ)) (steps : List Step) (line : List ℕ) (step : Step) → AreStepsOf n lines steps → IsStepOf n line step
    → AreStepsOf n (lines ++ line ∷ []) (steps ++ step ∷ [])
steps_snoc n [] [] line step h k = (k, tt)
steps_snoc n [] (s ∷ steps) line step h k = absurd h
steps_snoc n (l ∷ lines) [] line step h k = absurd h
steps_snoc n (l ∷ lines) (s ∷ steps) line step h k = (h.0, steps_snoc n lines steps line step h.1 k)

-- what a line adds to the lines that were taken
abbrev added : Step → List ScriptLine
added (Took line) = line ∷ []
added Passed = []
added (Refused rule) = []
added (Stated of) = []

taken_snoc : (steps : List Step) (step : Step) → taken_in (steps ++ step ∷ []) ≡ taken_in steps ++ added step
taken_snoc [] (Took line) = refl
taken_snoc [] Passed = refl
taken_snoc [] (Refused rule) = refl
taken_snoc [] (Stated of) = refl
taken_snoc (Took l ∷ steps) step = ap (λ ls. l ∷ ls) (taken_snoc steps step)
taken_snoc (Passed ∷ steps) step = taken_snoc steps step
taken_snoc (Refused rule ∷ steps) step = taken_snoc steps step
taken_snoc (Stated of ∷ steps) step = taken_snoc steps step

done_step : (n : ℕ) (o : ActorView) (steps : List Step) (text : List ℕ) (step : Step) (old new : KeptActor) → HasDoneFrom o n (actions_of 0 (map line_of (taken_in steps))) old → IsStepOf n text step
    → TakesStep n step old new → HasDoneFrom o n (actions_of 0 (map line_of (taken_in (steps ++ step ∷ [])))) new
done_step n o steps text (Took line) old new h is t =
    subst (λ (xs : List ScriptLine). HasDoneFrom o n (actions_of 0 (map line_of xs)) new) (sym (taken_snoc steps (Took line)))
    (done_line n o (taken_in steps) line old new h (own_by line is.is_own.own) t)
done_step n o steps text Passed old new h is t =
    subst (λ (xs : List ScriptLine). HasDoneFrom o n (actions_of 0 (map line_of xs)) new) (sym (taken_snoc steps Passed ∙ append-nil (taken_in steps)))
    (subst (λ (k : KeptActor). HasDoneFrom o n (actions_of 0 (map line_of (taken_in steps))) k) (sym t) h)
done_step n o steps text (Refused rule) old new h is t =
    subst (λ (xs : List ScriptLine). HasDoneFrom o n (actions_of 0 (map line_of xs)) new) (sym (taken_snoc steps (Refused rule) ∙ append-nil (taken_in steps)))
    (subst (λ (k : KeptActor). HasDoneFrom o n (actions_of 0 (map line_of (taken_in steps))) k) (sym t) h)
done_step n o steps text (Stated of) old new h is t =
    subst (λ (xs : List ScriptLine). HasDoneFrom o n (actions_of 0 (map line_of xs)) new) (sym (taken_snoc steps (Stated of) ∙ append-nil (taken_in steps)))
    (subst (λ (k : KeptActor). HasDoneFrom o n (actions_of 0 (map line_of (taken_in steps))) k) (sym t.0) h)

-- what is told of it
told_step : (n : ℕ) (o : ActorView) (steps : List Step) (text : List ℕ) (step : Step) (of : Answer) (old new : KeptActor) (more : List Record) → AreTold n o steps old text → IsAnsweredBy of step
    → TakesStep n step old new → new.past ≡ old.past ++ more → AreTold n o (steps ++ step ∷ []) new (text ++ answer_text of more)
told_step n o steps text (Took l) answer.Results old new more h a t e = took steps old new more text l h t e
told_step n o steps text (Took l) answer.Nothing old new more h a t e = absurd a
told_step n o steps text (Took l) (answer.Broken rule) old new more h a t e = absurd a
told_step n o steps text (Took l) (answer.State of) old new more h a t e = absurd a
told_step n o steps text Passed answer.Nothing old new more h a t e =
    subst (λ (k : KeptActor). AreTold n o (steps ++ Passed ∷ []) k (text ++ [])) (sym t)
    (subst (λ (x : List ℕ). AreTold n o (steps ++ Passed ∷ []) old x) (sym (append-nil text)) (passed steps old text h))
told_step n o steps text Passed answer.Results old new more h a t e = absurd a
told_step n o steps text Passed (answer.Broken rule) old new more h a t e = absurd a
told_step n o steps text Passed (answer.State of) old new more h a t e = absurd a
told_step n o steps text (Refused by) (answer.Broken rule) old new more h a t e =
    subst (λ (k : KeptActor). AreTold n o (steps ++ Refused by ∷ []) k (text ++ refusal_text rule)) (sym t)
    (subst (λ (x : ℕ). AreTold n o (steps ++ Refused by ∷ []) old (text ++ refusal_text x)) a (refused steps old text by h))
told_step n o steps text (Refused by) answer.Results old new more h a t e = absurd a
told_step n o steps text (Refused by) answer.Nothing old new more h a t e = absurd a
told_step n o steps text (Refused by) (answer.State of) old new more h a t e = absurd a
told_step n o steps text (Stated of) (answer.State state) old new more h a t e =
    subst (λ (k : KeptActor). AreTold n o (steps ++ Stated of ∷ []) k (text ++ state_text state)) (sym t.0)
    (subst (λ (x : LeadState). AreTold n o (steps ++ Stated of ∷ []) old (text ++ state_text x)) a (stated steps old text of h t.1))
told_step n o steps text (Stated of) answer.Results old new more h a t e = absurd a
told_step n o steps text (Stated of) answer.Nothing old new more h a t e = absurd a
told_step n o steps text (Stated of) (answer.Broken rule) old new more h a t e = absurd a

-- ## What is written
front_after : (a b c : Option (List ℕ)) (xs ys : List ℕ) → Appends a b xs → TakesFront b c ys → TakesFront a c (xs ++ ys)
front_after a b c xs ys h k = (length xs + k.0, subst (λ (zs : List ℕ). Appends a c zs) (sym (take-append-add xs ys k.0)) (Appends-trans a b c xs (take k.0 ys) h k.1))

written_more : (whole : Bool) (a b c : Option (List ℕ)) (xs ys : List ℕ) → IsWritten true a b xs → IsWritten whole b c ys → IsWritten whole a c (xs ++ ys)
written_more true a b c xs ys h k = Appends-trans a b c xs ys h k
written_more false a b c xs ys h k = front_after a b c xs ys h k

-- ## So far
-- so many lines of the input were read
pub record LedSoFar (n : ℕ) (o actor : ActorView) (first now : PipeCaller) (given left before after : Option (List ℕ)) (whole : Bool) (count used : ℕ) : Type 0 where
  pub input : List (List ℕ)
  pub counted : length input ≡ count
  pub lines : List (List ℕ)
  pub put_in : IsWithRolls input lines used
  pub steps : List Step
  pub read : Consumes given left (lines_text input)
  pub are : AreStepsOf n lines steps
  pub done : HasDoneFrom o n (actions_of 0 (map line_of (taken_in steps))) (kept_by actor now.log)
  pub text : List ℕ
  pub told : AreTold n o steps (kept_by actor now.log) text
  pub written : IsWritten whole before after text
  pub named : has_names actor ≡ true
  pub later : AreLater pipe_wire first now
  pub resting : AreResting first.wire → AreResting now.wire

pub led_first : (n : ℕ) (v : ActorView) (s : PipeCaller) (given before : Option (List ℕ)) → 1 ≤ n → IsBegun n v → s.log ≡ new_log n true
    → LedSoFar n v v s s given given before before true 0 0
unfolding actions_of
led_first n v s given before some e f = record {
  input = [];
  counted = refl;
  lines = [];
  put_in = no_line;
  steps = [];
  read = Consumes-nil given;
  are = tt;
  done = done_first n v s.log some e f;
  text = [];
  told = subst (λ (k : KeptActor). AreTold n v [] k []) (sym (ap (kept_by v) f)) none;
  written = Appends-nil before;
  named = ap (λ (x : Option Holding). is_some x) e.holds;
  later = later_same pipe_wire readies_none s;
  resting = λ r. r;
}

-- one line was answered, of the input or put in
led_more : (n : ℕ) (o : ActorView) (whole : Bool) (line : List ℕ) (v w : ActorView) (first s t : PipeCaller) (given mid left a b c : Option (List ℕ)) (count sum used now : ℕ) (input : List (List ℕ))
    → s.log.nodes ≡ n → (h : LedSoFar n o v first s given mid a b true count used) → IsAnsweredAs whole line v s w t b c → length input ≡ sum → IsWithRolls input (h.lines ++ line ∷ []) now
    → Consumes given left (lines_text input) → LedSoFar n o w first t given left a c whole sum now
led_more n o whole line v w first s t given mid left a b c count sum used now input nodes h k counted put_in read =
    let taken : IsTaken n line k.of (kept_by v s.log) (kept_by w t.log) = subst (λ (m : ℕ). IsTaken m line k.of (kept_by v s.log) (kept_by w t.log)) nodes k.taken in
    let more : List Record = drop (length s.log.past) t.log.past in
    let past : t.log.past ≡ s.log.past ++ more =
    k.later.past ∙ ap (λ (rs : List Record). s.log.past ++ rs) (sym (drop-append_seam s.log.past k.later.lines) ∙ ap (drop (length s.log.past)) (sym k.later.past)) in
    record {
      input = input;
      counted = counted;
      lines = h.lines ++ line ∷ [];
      put_in = put_in;
      steps = h.steps ++ taken.step ∷ [];
      read = read;
      are = steps_snoc n h.lines h.steps line taken.step h.are taken.is;
      done = done_step n o h.steps line taken.step (kept_by v s.log) (kept_by w t.log) h.done taken.is taken.takes;
      text = h.text ++ answer_text k.of more;
      told = told_step n o h.steps h.text taken.step k.of (kept_by v s.log) (kept_by w t.log) more h.told taken.answered taken.takes past;
      written = written_more whole a b c h.text (answer_text k.of more) h.written k.written;
      named = k.named;
      later = later_on pipe_wire readies_on first s t h.later k.later;
      resting = λ r. k.resting;
    }

pub led_next : (n : ℕ) (o : ActorView) (whole : Bool) (line : List ℕ) (v w : ActorView) (first s t : PipeCaller) (given mid left a b c : Option (List ℕ)) (count used : ℕ) → s.log.nodes ≡ n
    → LedSoFar n o v first s given mid a b true count used → used ≤ most_used → IsAnsweredAs whole line v s w t b c → Consumes mid left (line ++ 10 ∷ [])
    → LedSoFar n o w first t given left a c whole (count + 1) (used_after used line)
led_next n o whole line v w first s t given mid left a b c count used nodes h few k read =
    led_more n o whole line v w first s t given mid left a b c count (count + 1) used (used_after used line) (h.input ++ line ∷ []) nodes h k (omega (arith, length-append h.input (line ∷ []), h.counted))
    (its_line h.input h.lines used line h.put_in few)
    (subst (λ (x : List ℕ). Consumes given left x) (text_snoc h.input line) (Consumes-trans given mid left (lines_text h.input) (line ++ 10 ∷ []) h.read read))

pub led_rolled : (n : ℕ) (o : ActorView) (whole : Bool) (v w : ActorView) (first s t : PipeCaller) (given left a b c : Option (List ℕ)) (count used : ℕ) → s.log.nodes ≡ n
    → LedSoFar n o v first s given left a b true count used → most_used < used → IsAnsweredAs whole (codes "roll") v s w t b c → LedSoFar n o w first t given left a c whole count 0
led_rolled n o whole v w first s t given left a b c count used nodes h due k =
    led_more n o whole (codes "roll") v w first s t given left left a b c count count used 0 h.input nodes h k h.counted (one_roll h.input h.lines used h.put_in due) h.read

-- ## At its end
-- what a reader held when it was let go was read, too
let_go : (r q : LineReaderView) (a b : Option (List ℕ)) (xs : List ℕ) → r.held ≡ [] → Consumes (to_come r a) (to_come q b) xs → Consumes a b (xs ++ q.held)
let_go r q None b xs e h = tt
let_go r q (Some x) None xs e h = absurd h
let_go r q (Some x) (Some y) xs e h = ap (λ (l : List ℕ). l ++ x) (sym e) ∙ h ∙ sym (append_assoc xs q.held y)

-- the lines were told whole, or a front of them where a write failed
pub has_led : (end : LeadEnd) (n : ℕ) (o : ActorView) (v : ActorView) (first s : PipeCaller) (r q : LineReaderView) (given left a b : Option (List ℕ)) (count used : ℕ) → r.held ≡ []
    → (h : LedSoFar n o v first s (to_come r given) (to_come q left) a b (tells_all end) count used) → (tells_all end ≡ true → used ≤ most_used) → EndsAt end h.input q.held left
    → HasLed n o v s.log given left a b end
has_led end n o v first s r q given left a b count used e h few ends = record {
  input = h.input;
  lines = h.lines;
  used = used;
  put_in = h.put_in;
  in_time = few;
  steps = h.steps;
  rest = q.held;
  read = let_go r q given left (lines_text h.input) e h.read;
  ends = ends;
  are = h.are;
  done = h.done;
  text = h.text;
  told = h.told;
  written = h.written;
}

-- some bytes more were read
led_rest : (end : LeadEnd) (n : ℕ) (o : ActorView) (v : ActorView) (first s : PipeCaller) (r q p : LineReaderView) (given mid left a b : Option (List ℕ)) (count used : ℕ) (bytes : List ℕ)
    → tells_all end ≡ true → r.held ≡ [] → (h : LedSoFar n o v first s (to_come r given) (to_come q mid) a b true count used) → used ≤ most_used
    → Consumes (to_come q mid) (to_come p left) bytes → EndsAt end h.input (bytes ++ p.held) left → HasLed n o v s.log given left a b end
led_rest end n o v first s r q p given mid left a b count used bytes all e h few more ends = record {
  input = h.input;
  lines = h.lines;
  used = used;
  put_in = h.put_in;
  in_time = λ t. few;
  steps = h.steps;
  rest = bytes ++ p.held;
  read = subst (λ (x : List ℕ). Consumes given left x) (append_assoc (lines_text h.input) bytes p.held)
      (let_go r p given left (lines_text h.input ++ bytes) e (Consumes-trans (to_come r given) (to_come q mid) (to_come p left) (lines_text h.input) bytes h.read more));
  ends = ends;
  are = h.are;
  done = h.done;
  text = h.text;
  told = h.told;
  written = subst (λ (w : Bool). IsWritten w a b h.text) (sym all) h.written;
}

-- nothing is held at the end, and the last line has no LF
line_alone : (line : List ℕ) (p : LineReaderView) (left : Option (List ℕ)) → IsLine line → IsEmptied p left → IsLine (line ++ p.held)
line_alone line p left one h = subst (λ (x : List ℕ). IsLine x) (sym (ap (λ (x : List ℕ). line ++ x) h.held ∙ append-nil line)) one

-- where there is no next line; of an input that is counted anew no line comes too late
pub ends_at : (of : Next) (end : LeadEnd) (line : List ℕ) (n : ℕ) (o : ActorView) (v : ActorView) (first s : PipeCaller) (r q p : LineReaderView) (given mid left a b : Option (List ℕ)) (count used : ℕ)
    → r.held ≡ [] → LedSoFar n o v first s (to_come r given) (to_come q mid) a b true count used → used ≤ most_used → q.taken ≡ 0 → IsNextLine of line q p mid left → end_of of ≡ Some end
    → IfLasts end (HasLed n o v s.log given left a b end)
ends_at next.Line end line n o v first s r q p given mid left a b count used e h few z k is = absurd (cc is)
ends_at next.Last end line n o v first s r q p given mid left a b count used e h few z k is =
    let same : lead_end.Done ≡ end = cc is in
    subst (λ (x : LeadEnd). IfLasts x (HasLed n o v s.log given left a b x)) same
    (led_rest lead_end.Done n o v first s r q p given mid left a b count used line refl e h few k.0.given (line_alone line p left k.0.one k.2, k.2.end))
ends_at next.End end line n o v first s r q p given mid left a b count used e h few z k is =
    let same : lead_end.Done ≡ end = cc is in
    subst (λ (x : LeadEnd). IfLasts x (HasLed n o v s.log given left a b x)) same
    (led_rest lead_end.Done n o v first s r q p given mid left a b count used [] refl e h few k.0.given (line_alone [] p left tt k.1, k.1.end))
ends_at next.LongLine end line n o v first s r q p given mid left a b count used e h few z k is =
    let same : lead_end.LongLine ≡ end = cc is in
    let long : IsLong p.held = record { front = k.1.front; behind = k.1.behind; spelled = k.1.spelled; one = k.1.one; long = k.1.long } in
    subst (λ (x : LeadEnd). IfLasts x (HasLed n o v s.log given left a b x)) same
    (led_rest lead_end.LongLine n o v first s r q p given mid left a b count used [] refl e h few k.0.given (inl long))
ends_at next.LongInput end line n o v first s r q p given mid left a b count used e h few z k is = absurd (omega (arith, z, k.0.taken, k.0.all, k.1.short))
ends_at next.ReadFault end line n o v first s r q p given mid left a b count used e h few z k is =
    let same : lead_end.ReadFault ≡ end = cc is in
    subst (λ (x : LeadEnd). IfLasts x (HasLed n o v s.log given left a b x)) same
    (led_rest lead_end.ReadFault n o v first s r q p given mid left a b count used [] refl e h few k.0.given k.1.one)
ends_at next.OutOfMemory end line n o v first s r q p given mid left a b count used e h few z k is =
    let same : lead_end.OutOfMemory ≡ end = cc is in
    subst (λ (x : LeadEnd). IfLasts x (HasLed n o v s.log given left a b x)) same tt

pub later_at : (end : LeadEnd) (first s : PipeCaller) → AreLater pipe_wire first s → IfLasts end (ArePipesLater (pipes_of first) (pipes_of s))
later_at lead_end.Done first s h = pipes_go first s h
later_at lead_end.LongLine first s h = pipes_go first s h
later_at lead_end.ReadFault first s h = pipes_go first s h
later_at lead_end.WriteFault first s h = pipes_go first s h
later_at lead_end.OutOfMemory first s h = tt

-- where a line ends it
pub ends_with : (of : LeadEnd) (line : List ℕ) (n : ℕ) (o : ActorView) (v w : ActorView) (first s t : PipeCaller) (r q p : LineReaderView) (given mid left a b c : Option (List ℕ)) (count used : ℕ)
    → r.held ≡ [] → s.log.nodes ≡ n → LedSoFar n o v first s (to_come r given) (to_come q mid) a b true count used → used ≤ most_used → IsAnswered (Some of) line v s w t b c
    → Consumes (to_come q mid) (to_come p left) (line ++ 10 ∷ []) → IfLasts of (HasLed n o w t.log given left a c of)
ends_with lead_end.Done line n o v w first s t r q p given mid left a b c count used e nodes h few k read = absurd k
ends_with lead_end.LongLine line n o v w first s t r q p given mid left a b c count used e nodes h few k read = absurd k
ends_with lead_end.ReadFault line n o v w first s t r q p given mid left a b c count used e nodes h few k read = absurd k
ends_with lead_end.WriteFault line n o v w first s t r q p given mid left a b c count used e nodes h few k read =
    has_led lead_end.WriteFault n o w first t r p given left a c (count + 1) (used_after used line) e
    (led_next n o false line v w first s t (to_come r given) (to_come q mid) (to_come p left) a b c count used nodes h few k read) (λ t. absurd (cc t)) tt
ends_with lead_end.OutOfMemory line n o v w first s t r q p given mid left a b c count used e nodes h few k read = tt

-- where the roll that is put in ends it
pub ends_rolled : (of : LeadEnd) (n : ℕ) (o : ActorView) (v w : ActorView) (first s t : PipeCaller) (r q : LineReaderView) (given left a b c : Option (List ℕ)) (count used : ℕ) → r.held ≡ []
    → s.log.nodes ≡ n → LedSoFar n o v first s (to_come r given) (to_come q left) a b true count used → most_used < used → IsAnswered (Some of) (codes "roll") v s w t b c → IfLasts of (HasLed n o w t.log given left a c of)
ends_rolled lead_end.Done n o v w first s t r q given left a b c count used e nodes h due k = absurd k
ends_rolled lead_end.LongLine n o v w first s t r q given left a b c count used e nodes h due k = absurd k
ends_rolled lead_end.ReadFault n o v w first s t r q given left a b c count used e nodes h due k = absurd k
ends_rolled lead_end.WriteFault n o v w first s t r q given left a b c count used e nodes h due k =
    has_led lead_end.WriteFault n o w first t r q given left a c count 0 e (led_rolled n o false v w first s t (to_come r given) (to_come q left) a b c count used nodes h due k) (λ t. absurd (cc t)) tt
ends_rolled lead_end.OutOfMemory n o v w first s t r q given left a b c count used e nodes h due k = tt

pub later_with : (of : LeadEnd) (line : List ℕ) (v w : ActorView) (first s t : PipeCaller) (b c : Option (List ℕ)) → AreLater pipe_wire first s
    → IsAnswered (Some of) line v s w t b c → IfLasts of (ArePipesLater (pipes_of first) (pipes_of t))
later_with lead_end.Done line v w first s t b c h k = absurd k
later_with lead_end.LongLine line v w first s t b c h k = absurd k
later_with lead_end.ReadFault line v w first s t b c h k = absurd k
later_with lead_end.WriteFault line v w first s t b c h k = pipes_go first t (later_on pipe_wire readies_on first s t h k.later)
later_with lead_end.OutOfMemory line v w first s t b c h k = tt

-- nothing is under way at its end
pub at_rest : (end : LeadEnd) (P : Type 0) → P → IfLasts end P
at_rest lead_end.Done P h = h
at_rest lead_end.LongLine P h = h
at_rest lead_end.ReadFault P h = h
at_rest lead_end.WriteFault P h = h
at_rest lead_end.OutOfMemory P h = tt

rest_with : (of : LeadEnd) (line : List ℕ) (v w : ActorView) (first s t : PipeCaller) (b c : Option (List ℕ)) → IsAnswered (Some of) line v s w t b c
    → IfLasts of (AreResting first.wire → AreResting t.wire)
rest_with lead_end.Done line v w first s t b c k = absurd k
rest_with lead_end.LongLine line v w first s t b c k = absurd k
rest_with lead_end.ReadFault line v w first s t b c k = absurd k
rest_with lead_end.WriteFault line v w first s t b c k = λ r. k.resting
rest_with lead_end.OutOfMemory line v w first s t b c k = tt

pub lines_cut_rest : (of : LeadEnd) (line : List ℕ) (v w : ActorView) (first s t : PipeCaller) (b c : Option (List ℕ)) (used now : ℕ) → IsAnsweredInTime (Some of) used line v s w t b c now
    → IfLasts of (AreResting first.wire → AreResting t.wire)
lines_cut_rest of line v w first s t b c used now (inl alone) = rest_with of line v w first s t b c alone.one
lines_cut_rest of line v w first s t b c used now (inr two) = rest_with of (codes "roll") two.actor w first two.seats t two.told c two.roll

-- ## One line
pub past_grows : (s t : PipeCaller) (from : ℕ) → from ≡ length s.log.past → AreLater pipe_wire s t → from ≤ length t.log.past
past_grows s t from e h =
    let more : length t.log.past ≡ length s.log.past + length h.lines = ap length h.past ∙ length-append s.log.past h.lines in
    omega (arith, e, more)

written_text : (whole : Bool) (of : Answer) (s t : PipeCaller) (a b : Option (List ℕ)) (from : ℕ) (text : List ℕ) → from ≡ length s.log.past → text ≡ answer_text of (drop from t.log.past)
    → IsWritten whole a b text → IsWritten whole a b (answer_text of (drop (length s.log.past) t.log.past))
written_text whole of s t a b from text e is h =
    subst (λ (n : ℕ). IsWritten whole a b (answer_text of (drop n t.log.past))) e (subst (λ (x : List ℕ). IsWritten whole a b x) is h)

pub answered_well : (of : Answer) (line : List ℕ) (v w : ActorView) (s t : PipeCaller) (a b : Option (List ℕ)) (from : ℕ) (text : List ℕ)
    → IsTaken s.log.nodes line of (kept_by v s.log) (kept_by w t.log) → has_names w ≡ true → AreLater pipe_wire s t → AreResting t.wire → from ≡ length s.log.past
    → text ≡ answer_text of (drop from t.log.past) → Appends a b text → IsAnswered None line v s w t a b
answered_well of line v w s t a b from text taken named later rests e is h =
    record { of = of; taken = taken; named = named; later = later; resting = rests; written = written_text true of s t a b from text e is h }

pub answered_ill : (of : Answer) (line : List ℕ) (v w : ActorView) (s t : PipeCaller) (a b : Option (List ℕ)) (from : ℕ) (text : List ℕ)
    → IsTaken s.log.nodes line of (kept_by v s.log) (kept_by w t.log) → has_names w ≡ true → AreLater pipe_wire s t → AreResting t.wire → from ≡ length s.log.past
    → text ≡ answer_text of (drop from t.log.past) → TakesFront a b text → IsAnswered (Some lead_end.WriteFault) line v s w t a b
answered_ill of line v w s t a b from text taken named later rests e is h =
    record { of = of; taken = taken; named = named; later = later; resting = rests; written = written_text false of s t a b from text e is h }

pub ruleset one_line = (past_grows, answered_well, answered_ill)

-- ## Line after line
-- an actor that was idle is idle after a line
if_idle : (n : ℕ) (o : Option (ℕ × Action)) (old new : KeptActor) → IsIdleActor n old → TakesIf n o old new → IsIdleActor n new
if_idle n None old new h t = subst (λ (k : KeptActor). IsIdleActor n k) (sym t) h
if_idle n (Some d) old new h t = t.idle

step_idle : (n : ℕ) (step : Step) (old new : KeptActor) → IsIdleActor n old → TakesStep n step old new → IsIdleActor n new
step_idle n (Took line) old new h t = if_idle n (action_of (line_of line)) old new h t
step_idle n Passed old new h t = subst (λ (k : KeptActor). IsIdleActor n k) (sym t) h
step_idle n (Refused rule) old new h t = subst (λ (k : KeptActor). IsIdleActor n k) (sym t) h
step_idle n (Stated of) old new h t = subst (λ (k : KeptActor). IsIdleActor n k) (sym t.0) h

pub answered_idle : (line : List ℕ) (v w : ActorView) (s t : PipeCaller) (a b : Option (List ℕ)) → IsIdleActor s.log.nodes (kept_by v s.log) → IsAnsweredAs true line v s w t a b
    → IsIdleActor t.log.nodes (kept_by w t.log)
answered_idle line v w s t a b h k =
    subst (λ (n : ℕ). IsIdleActor n (kept_by w t.log)) (sym k.later.nodes) (step_idle s.log.nodes k.taken.step (kept_by v s.log) (kept_by w t.log) h k.taken.takes)

pub answered_named : (line : List ℕ) (v w : ActorView) (s t : PipeCaller) (a b : Option (List ℕ)) → IsAnsweredAs true line v s w t a b → has_names w ≡ true
answered_named line v w s t a b k = k.named

-- where the line ends it
pub cut_off : (end : LeadEnd) (line : List ℕ) (v w : ActorView) (s t : PipeCaller) (a b : Option (List ℕ)) (used now : ℕ) → IsAnswered (Some end) line v s w t a b
    → IsAnsweredInTime (Some end) used line v s w t a b now
cut_off end line v w s t a b used now h = inl (record { one = h; few = tt; counted = λ e. absurd (cc e) })

pub not_rolled : (line : List ℕ) (v w : ActorView) (s t : PipeCaller) (a b : Option (List ℕ)) (used now : ℕ) → IsAnsweredAs true line v s w t a b → now ≡ used_after used line → now ≤ most_used
    → IsAnsweredInTime None used line v s w t a b now
not_rolled line v w s t a b used now h is few = inl (record { one = h; few = subst (λ (k : ℕ). k ≤ most_used) is few; counted = λ e. is })

pub rolled : (of : Option LeadEnd) (line : List ℕ) (v u w : ActorView) (s r t : PipeCaller) (a b d : Option (List ℕ)) (used mid now : ℕ) → IsAnsweredAs true line v s u r a b
    → IsAnswered of (codes "roll") u r w t b d → mid ≡ used_after used line → most_used < mid → now ≡ 0 → IsAnsweredInTime of used line v s w t a d now
rolled of line v u w s r t a b d used mid now h k is due zero =
    inr (record { actor = u; seats = r; told = b; first = h; roll = k; due = subst (λ (n : ℕ). most_used < n) is due; counted = zero })

pub ruleset in_time = (answered_idle, answered_named, cut_off, not_rolled, rolled)

-- a reader before its first byte
abbrev pub fresh_reader : LineReaderView
fresh_reader = record { held = []; taken = 0; line = [] }

pub lines_first : (v : ActorView) (s : PipeCaller) (r : LineReaderView) (given before : Option (List ℕ)) → 1 ≤ s.log.nodes → IsBegun s.log.nodes v
    → s.log ≡ new_log s.log.nodes true → r.held ≡ []
    → LedSoFar s.log.nodes v v s s (to_come fresh_reader given) (to_come r given) before before true 0 0
lines_first v s r given before some e f none_held =
    subst (λ (x : Option (List ℕ)). LedSoFar s.log.nodes v v s s (to_come fresh_reader given) x before before true 0 0) (ap (λ (l : List ℕ). prepend_known l given) (sym none_held))
    (led_first s.log.nodes v s (to_come fresh_reader given) before some e f)

pub so_idle : (o v : ActorView) (first s : PipeCaller) (given left a b : Option (List ℕ)) (count used : ℕ) → LedSoFar first.log.nodes o v first s given left a b true count used
    → IsIdleActor s.log.nodes (kept_by v s.log)
so_idle o v first s given left a b count used h = subst (λ (n : ℕ). IsIdleActor n (kept_by v s.log)) (sym h.later.nodes) h.done.idle

pub so_named : (o v : ActorView) (first s : PipeCaller) (given left a b : Option (List ℕ)) (count used : ℕ) → LedSoFar first.log.nodes o v first s given left a b true count used → has_names v ≡ true
so_named o v first s given left a b count used h = h.named

-- a line came
line_came : (of : Next) (line : List ℕ) (q p : LineReaderView) (mid left : Option (List ℕ)) → end_of of ≡ None → IsNextLine of line q p mid left → IsNextLine next.Line line q p mid left
line_came next.Line line q p mid left e h = h
line_came next.Last line q p mid left e h = absurd (cc e)
line_came next.End line q p mid left e h = absurd (cc e)
line_came next.LongLine line q p mid left e h = absurd (cc e)
line_came next.LongInput line q p mid left e h = absurd (cc e)
line_came next.ReadFault line q p mid left e h = absurd (cc e)
line_came next.OutOfMemory line q p mid left e h = absurd (cc e)

given_line : (of : Next) (line : List ℕ) (q p : LineReaderView) (mid left : Option (List ℕ)) → IsNextLine of p.line q p mid left → end_of of ≡ None → line ≡ p.line
    → Consumes (to_come q mid) (to_come p left) (line ++ 10 ∷ [])
given_line of line q p mid left k e is =
    subst (λ (l : List ℕ). Consumes (to_come q mid) (to_come p left) (l ++ 10 ∷ [])) (sym is) (line_came of p.line q p mid left e k).given

-- the line is no longer than lines may be
pub line_short : (of : Next) (line : List ℕ) (q p : LineReaderView) (mid left : Option (List ℕ)) → IsNextLine of p.line q p mid left → end_of of ≡ None → line ≡ p.line
    → length line ≤ longest_line
line_short of line q p mid left k e is = subst (λ (l : List ℕ). length l ≤ longest_line) (sym is) (line_came of p.line q p mid left e k).short

-- one line more, and a roll behind it where one is due
pub lines_next : (of : Next) (line : List ℕ) (o v w : ActorView) (first s t : PipeCaller) (q p n : LineReaderView) (given mid left a b c : Option (List ℕ)) (count used now : ℕ)
    → LedSoFar first.log.nodes o v first s (to_come fresh_reader given) (to_come q mid) a b true count used → used ≤ most_used → IsNextLine of p.line q p mid left → end_of of ≡ None
    → n.held ≡ p.held → line ≡ p.line → IsAnsweredInTime None used line v s w t b c now
    → LedSoFar first.log.nodes o w first t (to_come fresh_reader given) (to_come n left) a c true (count + 1) now
lines_next of line o v w first s t q p n given mid left a b c count used now h few k came held is answered =
    subst (λ (l : List ℕ). LedSoFar first.log.nodes o w first t (to_come fresh_reader given) (prepend_known l left) a c true (count + 1) now) (sym held) (by answered)
  where
    taken : Consumes (to_come q mid) (to_come p left) (line ++ 10 ∷ [])
    taken = given_line of line q p mid left k came is

    by : IsAnsweredInTime None used line v s w t b c now → LedSoFar first.log.nodes o w first t (to_come fresh_reader given) (to_come p left) a c true (count + 1) now
    by (inl alone) =
        subst (λ (u : ℕ). LedSoFar first.log.nodes o w first t (to_come fresh_reader given) (to_come p left) a c true (count + 1) u) (sym (alone.counted refl))
        (led_next first.log.nodes o true line v w first s t (to_come fresh_reader given) (to_come q mid) (to_come p left) a b c count used h.later.nodes h few alone.one taken)
    by (inr two) =
        let so = led_next first.log.nodes o true line v two.actor first s two.seats (to_come fresh_reader given) (to_come q mid) (to_come p left) a b two.told count used h.later.nodes h few two.first taken in
        subst (λ (u : ℕ). LedSoFar first.log.nodes o w first t (to_come fresh_reader given) (to_come p left) a c true (count + 1) u) (sym two.counted)
        (led_rolled first.log.nodes o true two.actor w first two.seats t (to_come fresh_reader given) (to_come p left) a two.told c (count + 1) (used_after used line) so.later.nodes so two.due two.roll)

-- no line more
pub lines_end : (of : Next) (end : LeadEnd) (line : List ℕ) (o v : ActorView) (first s : PipeCaller) (q p : LineReaderView) (given mid left a b : Option (List ℕ)) (count used : ℕ)
    → LedSoFar first.log.nodes o v first s (to_come fresh_reader given) (to_come q mid) a b true count used → used ≤ most_used → q.taken ≡ 0 → IsNextLine of line q p mid left → end_of of ≡ Some end
    → IfLasts end (HasLed first.log.nodes o v s.log given left a b end)
lines_end of end line o v first s q p given mid left a b count used h few z k is =
    ends_at of end line first.log.nodes o v first s fresh_reader q p given mid left a b count used refl h few z k is

-- a line, or the roll behind it, ends it
pub lines_cut : (got : Next) (of : LeadEnd) (line : List ℕ) (o v w : ActorView) (first s t : PipeCaller) (q p : LineReaderView) (given mid left a b c : Option (List ℕ)) (count used now : ℕ)
    → LedSoFar first.log.nodes o v first s (to_come fresh_reader given) (to_come q mid) a b true count used → used ≤ most_used → IsNextLine got p.line q p mid left → end_of got ≡ None → line ≡ p.line
    → IsAnsweredInTime (Some of) used line v s w t b c now → IfLasts of (HasLed first.log.nodes o w t.log given left a c of)
lines_cut got of line o v w first s t q p given mid left a b c count used now h few k came is answered = by answered
  where
    taken : Consumes (to_come q mid) (to_come p left) (line ++ 10 ∷ [])
    taken = given_line got line q p mid left k came is

    by : IsAnsweredInTime (Some of) used line v s w t b c now → IfLasts of (HasLed first.log.nodes o w t.log given left a c of)
    by (inl alone) = ends_with of line first.log.nodes o v w first s t fresh_reader q p given mid left a b c count used refl h.later.nodes h few alone.one taken
    by (inr two) =
        let so = led_next first.log.nodes o true line v two.actor first s two.seats (to_come fresh_reader given) (to_come q mid) (to_come p left) a b two.told count used h.later.nodes h few two.first taken in
        ends_rolled of first.log.nodes o two.actor w first two.seats t fresh_reader p given left a two.told c (count + 1) (used_after used line) refl so.later.nodes so two.due two.roll

pub lines_cut_later : (of : LeadEnd) (line : List ℕ) (o v w : ActorView) (first s t : PipeCaller) (given left a b c : Option (List ℕ)) (count used now : ℕ)
    → LedSoFar first.log.nodes o v first s given left a b true count used → IsAnsweredInTime (Some of) used line v s w t b c now → IfLasts of (ArePipesLater (pipes_of first) (pipes_of t))
lines_cut_later of line o v w first s t given left a b c count used now h (inl alone) = later_with of line v w first s t b c h.later alone.one
lines_cut_later of line o v w first s t given left a b c count used now h (inr two) =
    later_with of (codes "roll") two.actor w first two.seats t two.told c (later_on pipe_wire readies_on first s two.seats h.later two.first.later) two.roll

-- the lines that a process can count came to their end
pub lines_out : (o v : ActorView) (first s : PipeCaller) (q : LineReaderView) (given left a b : Option (List ℕ)) (count used : ℕ)
    → LedSoFar first.log.nodes o v first s (to_come fresh_reader given) (to_come q left) a b true count used → used ≤ most_used → 2 ^ 64 ≤ count + 1
    → HasLed first.log.nodes o v s.log given left a b lead_end.LongLine
lines_out o v first s q given left a b count used h few many =
    has_led lead_end.LongLine first.log.nodes o v first s fresh_reader q given left a b count used refl h (λ t. few) (inr (omega (arith, many, h.counted)))

pub ruleset line_by_line = (lines_first, so_idle, so_named, line_short, lines_next, lines_end, lines_cut, lines_cut_later, lines_out)

-- ## A whole life
pub leads : (end : LeadEnd) (n : ℕ) (o v : ActorView) (l : LogView) (given left a b : Option (List ℕ)) → HasLed n o v l given left a b end → Leads n o v l given left a b end
leads end n o v l given left a b h =
    let ds : List Action = actions_of 0 (map line_of (taken_in h.steps)) in
    let f : FollowsFrom o n ds l.past l.marks (last_of v.holds) = done_follows n o ds v l h.done in
    record { has = h; last = last_of v.holds; follows = f; fresh = fresh_follows n o ds l.past l.marks (last_of v.holds) f }

actions_more : (l : Line) (ls : List Line) → IsOwnAction true (action_of l) → AreActions true (actions_of 0 ls) → AreActions true (actions_of 0 (l ∷ ls))
unfolding AreActions actions_of
actions_more (Declares name) ls h k = k
actions_more (Operates node ask) ls h k = k
actions_more (Acts actor action) ls h k = by (actor == 0)
  where
    by : (b : Bool) → AreActions true (cond b (action ∷ actions_of 0 ls) (actions_of 0 ls))
    by true = (h, k)
    by false = k

no_actions : AreActions true (actions_of 0 [])
unfolding AreActions actions_of
no_actions = tt

are_actions : (n : ℕ) (lines : List (List ℕ)) (steps : List Step) → ScriptsArePlayable → AreStepsOf n lines steps → AreActions true (actions_of 0 (map line_of (taken_in steps)))
are_actions n [] [] playable h = no_actions
are_actions n [] (s ∷ steps) playable h = absurd h
are_actions n (l ∷ lines) [] playable h = absurd h
are_actions n (l ∷ lines) (Took line ∷ steps) playable h = actions_more (line_of line) (map line_of (taken_in steps)) (own_action n l line playable h.0) (are_actions n lines steps playable h.1)
are_actions n (l ∷ lines) (Passed ∷ steps) playable h = are_actions n lines steps playable h.1
are_actions n (l ∷ lines) (Refused rule ∷ steps) playable h = are_actions n lines steps playable h.1
are_actions n (l ∷ lines) (Stated of ∷ steps) playable h = are_actions n lines steps playable h.1

led_made : (end : LeadEnd) (n : ℕ) (o v : ActorView) (l : LogView) (given left a b : Option (List ℕ)) → ScriptsArePlayable → IsBegun n o → Leads n o v l given left a b end → IsOfChores n l.past
led_made end n o v l given left a b playable begun h =
    begun_made n o (actions_of 0 (map line_of (taken_in h.has.steps))) l.past l.marks h.last begun (are_actions n h.has.lines h.has.steps playable h.has.are) h.follows

-- what is known of each end that isn't for want of memory
if_lasts : (of : LeadEnd) (P Q : Type 0) → (P → Q) → IfLasts of P → IfLasts of Q
if_lasts lead_end.Done P Q f h = f h
if_lasts lead_end.LongLine P Q f h = f h
if_lasts lead_end.ReadFault P Q f h = f h
if_lasts lead_end.WriteFault P Q f h = f h
if_lasts lead_end.OutOfMemory P Q f h = tt

pub life_leads : (of : LeadEnd) (n : ℕ) (o v : ActorView) (l : LogView) (given left a b : Option (List ℕ)) → IfLasts of (HasLed n o v l given left a b of)
    → IfLasts of (Leads n o v l given left a b of)
life_leads of n o v l given left a b h = if_lasts of (HasLed n o v l given left a b of) (Leads n o v l given left a b of) (leads of n o v l given left a b) h

pub life_made : (of : LeadEnd) (n : ℕ) (o v : ActorView) (l : LogView) (given left a b : Option (List ℕ)) → ScriptsArePlayable → IsBegun n o → IfLasts of (HasLed n o v l given left a b of)
    → IfLasts of (IsOfChores n l.past)
life_made of n o v l given left a b playable begun h =
    if_lasts of (HasLed n o v l given left a b of) (IsOfChores n l.past) (λ k. led_made of n o v l given left a b playable begun (leads of n o v l given left a b k)) h

pub ruleset whole_life = (life_leads, life_made)
