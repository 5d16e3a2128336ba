-- How a session ends.
use Rattle.std.proofs.Common.{ℕ, ◌≡◌, ◌≢◌, ◌≤◌, ◌+◌, ◌-◌, ◌⊎◌, List, [], ◌∷◌, ◌++◌, length, take, Option, Some, None, refl, sym, ap, ◌∙◌, arith}
use Rattle.std.proofs.Common.{append_assoc, append-nil, inl, inr, subst, length-append}
use Rattle.std.proofs.KnownBytes.{Appends-trans}
use Rattle.std.specs.Io.KnownBytes.{Appends}
use Rattle.base_outside.specs.Whole.{TakesFront}
use Rattle.journal_core.specs.declared.node_state.NodeState.{NodeState}
use Rattle.journal_core.specs.declared.request.Request.{Request}
use Rattle.journal_core.specs.Step.{node_step}
use Rattle.journal_core.specs.Answers.{IsStopOf}
use Rattle.journal_session.specs.Lines.{longest_line, longest_input, IsLine, lines_text}
use Rattle.journal_session.specs.Reader.{LineReaderView, to_come, TakesLine, TakesNone, IsEmptied, HoldsLong, HoldsFront, IsPastLimit}
use Rattle.journal_session.specs.Session.{AreAnswered, Asks, Moves, AreFront, IsNext, NextAsks, room_behind, AreWritten, EndsBy, IsAskedNext, IsSession, IsSessionOf, IsPartWritten}
use Rattle.journal_session.specs.Answering.{reply_line, IsServed, IsServedOf}
use Rattle.journal_session.specs.declared.served.Served.{Served}
use Rattle.journal_session.specs.declared.served.Served.TheVariants as served
use Rattle.journal_session.proofs.LineLaws.{lines_text_more, lines_more}
use Rattle.journal_session.proofs.AnswerLaws.{answered_more}
use Rattle.journal_session.proofs.SessionLaws.{AreServed, SoFar, begun}

front_of : (lines : List (List ℕ)) (told rest : List ℕ) (old now : NodeState) (before written : Option (List ℕ)) (taken number : ℕ) (s : AreServed lines told rest old now before written taken number)
    → taken ≤ longest_input → AreFront told lines rest
front_of lines told rest old now before written taken number s within = (s.spelled, omega (arith, s.count))

-- a session that ends after the lines so far, with nothing more written
ended : (lines : List (List ℕ)) (last : Option (List ℕ)) (outcome : Served) (told rest : List ℕ) (left : Option (List ℕ)) (old now new : NodeState)
    (before written after : Option (List ℕ)) (taken number : ℕ)
    (s : AreServed lines told rest old now before written taken number) → AreWritten outcome before after s.text [] → EndsBy outcome told lines rest left now new []
    → IsAskedNext last rest (room_behind lines) → IsSession lines last outcome told left old new before after
ended lines last outcome told rest left old now new before written after taken number s wrote ends asked = record {
  whole = s.whole;
  rest = rest;
  text = s.text;
  state = now;
  answered = s.answered;
  part = [];
  written = wrote;
  ends = ends;
  asked_next = asked;
}

-- ## The source is at its end
pub at_end : (lines : List (List ℕ)) (told : Option (List ℕ)) (old : Option NodeState) (left after : Option (List ℕ)) (now : Option NodeState) (before written : Option (List ℕ))
    (reader next : LineReaderView) (number : ℕ) → SoFar lines told old (to_come reader left) now before written reader.taken number → TakesNone reader next left after
    → IsEmptied next after → next.taken ≤ longest_input → IsSessionOf lines None served.Done told after old now before written
at_end lines None old left after now before written reader next number h t k within = tt
at_end lines (Some told) None left after now before written reader next number h t k within = tt
at_end lines (Some told) (Some old) None after now before written reader next number h t k within = absurd h
at_end lines (Some told) (Some old) (Some left) after None before written reader next number h t k within = absurd h
at_end lines (Some told) (Some old) (Some left) None (Some now) before written reader next number h t k within = absurd t.given
at_end lines (Some told) (Some old) (Some left) (Some after) (Some now) before written reader next number h t k within =
    let none : reader.held ++ left ≡ [] = t.given ∙ ap (λ xs. xs ++ after) k.held ∙ k.end in
    let all : told ≡ lines_text lines = h.spelled ∙ ap (λ xs. lines_text lines ++ xs) none ∙ append-nil (lines_text lines) in
    ended lines None served.Done told (reader.held ++ left) (Some after) old now now before written written reader.taken number h h.wrote
    ((inl all, omega (arith, ap length all, h.count, t.taken)), ap Some k.end, refl) tt

-- the last line was answered
last_done : (lines : List (List ℕ)) (told rest line : List ℕ) (old now new : NodeState) (before written after : Option (List ℕ)) (taken next number : ℕ)
    → AreServed lines told rest old now before written taken number → rest ≡ line → IsLine line → length line ≤ longest_line
    → next ≡ taken + length line → next ≤ longest_input → Asks line (λ r. (new ≡ (node_step now r).state) × Appends written after (reply_line now r))
    → IsSession (lines ++ line ∷ []) None served.Done told (Some []) old new before after
last_done lines told rest line old now new before written after taken next number s e one short n within a =
    let P : NodeState → Type 0 = λ x. AreAnswered old (lines ++ line ∷ []) (s.text ++ reply_line now a.request) x in
    let spelled : told ≡ lines_text lines ++ line = s.spelled ∙ ap (λ xs. lines_text lines ++ xs) e in
    let all : told ++ 10 ∷ [] ≡ lines_text (lines ++ line ∷ []) =
    ap (λ xs. xs ++ 10 ∷ []) spelled ∙ append_assoc (lines_text lines) line (10 ∷ []) ∙ sym (lines_text_more lines line) in
    let size : length told ≤ longest_input = omega (arith, ap length spelled, length-append (lines_text lines) line, s.count) in record {
      whole = lines_more lines line s.whole one short;
      rest = [];
      text = s.text ++ reply_line now a.request;
      state = new;
      answered = subst P (sym a.so.0) (answered_more old now lines line s.text a.request s.answered a.reads);
      part = [];
      written = Appends-trans before written after s.text (reply_line now a.request) s.wrote a.so.1;
      ends = ((inr all, size), refl, refl);
      asked_next = tt;
    }

pub last_answered : (lines : List (List ℕ)) (told : Option (List ℕ)) (old : Option NodeState) (left after : Option (List ℕ)) (now new : Option NodeState) (before written wrote : Option (List ℕ))
    (reader next : LineReaderView) (number : ℕ) (line : List ℕ) → SoFar lines told old (to_come reader left) now before written reader.taken number
    → TakesLine line line reader next left after → IsEmptied next after → next.taken ≤ longest_input → IsServedOf None number line now new written wrote
    → IsSessionOf (lines ++ line ∷ []) None served.Done told after old new before wrote
last_answered lines None old left after now new before written wrote reader next number line h t k within a = tt
last_answered lines (Some told) None left after now new before written wrote reader next number line h t k within a = tt
last_answered lines (Some told) (Some old) None after now new before written wrote reader next number line h t k within a = absurd h
last_answered lines (Some told) (Some old) (Some left) after None new before written wrote reader next number line h t k within a = absurd h
last_answered lines (Some told) (Some old) (Some left) None (Some now) new before written wrote reader next number line h t k within a = absurd t.given
last_answered lines (Some told) (Some old) (Some left) (Some after) (Some now) None before written wrote reader next number line h t k within a = absurd a
last_answered lines (Some told) (Some old) (Some left) (Some after) (Some now) (Some new) before written wrote reader next number line h t k within a =
    let P : List ℕ → Type 0 = λ xs. IsSession (lines ++ line ∷ []) None served.Done told (Some xs) old new before wrote in
    let none : next.held ++ after ≡ [] = ap (λ xs. xs ++ after) k.held ∙ k.end in
    let whole : reader.held ++ left ≡ line = t.given ∙ ap (λ xs. line ++ xs) none ∙ append-nil line in
    subst P (sym k.end)
    (last_done lines told (reader.held ++ left) line old now new before written wrote reader.taken next.taken number h whole t.one t.short t.taken within a)

-- ## The line can't be taken
pub line_too_long : (lines : List (List ℕ)) (told : Option (List ℕ)) (old : Option NodeState) (left after : Option (List ℕ)) (now : Option NodeState) (before written : Option (List ℕ))
    (reader next : LineReaderView) (number : ℕ) → SoFar lines told old (to_come reader left) now before written reader.taken number → TakesNone reader next left after
    → HoldsLong next → next.taken + length next.held ≤ longest_input → IsSessionOf lines None served.LongLine told after old now before written
line_too_long lines None old left after now before written reader next number h t k within = tt
line_too_long lines (Some told) None left after now before written reader next number h t k within = tt
line_too_long lines (Some told) (Some old) None after now before written reader next number h t k within = absurd h
line_too_long lines (Some told) (Some old) (Some left) after None before written reader next number h t k within = absurd h
line_too_long lines (Some told) (Some old) (Some left) None (Some now) before written reader next number h t k within = absurd t.given
line_too_long lines (Some told) (Some old) (Some left) (Some after) (Some now) before written reader next number h t k within =
    let size : length next.held ≡ length k.front + length k.behind = ap length k.spelled ∙ length-append k.front k.behind in
    let spelled : reader.held ++ left ≡ k.front ++ (k.behind ++ after) =
    t.given ∙ ap (λ xs. xs ++ after) k.spelled ∙ append_assoc k.front k.behind after in
    ended lines None served.LongLine told (reader.held ++ left) (Some after) old now now before written written reader.taken number h h.wrote (
      front_of lines told (reader.held ++ left) old now before written reader.taken number h (omega (arith, t.taken)),
      omega (arith, t.taken, h.count, size, k.long),
      record { front = k.front; behind = k.behind ++ after; one = k.one; spelled = spelled; long = omega (arith, k.long) },
      refl,
    ) tt

pub input_too_long : (lines : List (List ℕ)) (told : Option (List ℕ)) (old : Option NodeState) (left after : Option (List ℕ)) (now : Option NodeState) (before written : Option (List ℕ))
    (reader next : LineReaderView) (number : ℕ) → SoFar lines told old (to_come reader left) now before written reader.taken number → IsPastLimit reader next left after
    → HoldsFront next → IsSessionOf lines None served.LongInput told after old now before written
input_too_long lines None old left after now before written reader next number h t k = tt
input_too_long lines (Some told) None left after now before written reader next number h t k = tt
input_too_long lines (Some told) (Some old) None after now before written reader next number h t k = absurd h
input_too_long lines (Some told) (Some old) (Some left) after None before written reader next number h t k = absurd h
input_too_long lines (Some told) (Some old) (Some left) None (Some now) before written reader next number h t k = absurd t.given
input_too_long lines (Some told) (Some old) (Some left) (Some after) (Some now) before written reader next number h t k =
    let spelled : reader.held ++ left ≡ next.held ++ (t.byte ∷ after) = t.given ∙ append_assoc next.held (t.byte ∷ []) after in
    let rest : length (reader.held ++ left) ≡ length next.held + (length after + 1) =
    ap length spelled ∙ length-append next.held (t.byte ∷ after) ∙ omega arith in
    let size : length told ≡ length (lines_text lines) + length (reader.held ++ left) =
    ap length h.spelled ∙ length-append (lines_text lines) (reader.held ++ left) in
    ended lines None served.LongInput told (reader.held ++ left) (Some after) old now now before written written reader.taken number h h.wrote (
      front_of lines told (reader.held ++ left) old now before written reader.taken number h (omega (arith, t.taken, t.all)),
      omega (arith, size, rest, h.count, t.taken, t.all),
      omega (arith, h.count, t.taken, t.all, k.short),
      record { front = next.held; behind = t.byte ∷ after; one = k.one; spelled = spelled; long = omega (arith, h.count, t.taken, t.all) },
      refl,
    ) tt

pub read_failed : (lines : List (List ℕ)) (told : Option (List ℕ)) (old : Option NodeState) (left after : Option (List ℕ)) (now : Option NodeState) (before written : Option (List ℕ))
    (reader next : LineReaderView) (number : ℕ) → SoFar lines told old (to_come reader left) now before written reader.taken number → TakesNone reader next left after
    → HoldsFront next → next.taken + length next.held ≤ longest_input → IsSessionOf lines None served.ReadFault told after old now before written
read_failed lines None old left after now before written reader next number h t k within = tt
read_failed lines (Some told) None left after now before written reader next number h t k within = tt
read_failed lines (Some told) (Some old) None after now before written reader next number h t k within = absurd h
read_failed lines (Some told) (Some old) (Some left) after None before written reader next number h t k within = absurd h
read_failed lines (Some told) (Some old) (Some left) None (Some now) before written reader next number h t k within = absurd t.given
read_failed lines (Some told) (Some old) (Some left) (Some after) (Some now) before written reader next number h t k within =
    ended lines None served.ReadFault told (reader.held ++ left) (Some after) old now now before written written reader.taken number h h.wrote (
      front_of lines told (reader.held ++ left) old now before written reader.taken number h (omega (arith, t.taken)),
      record {
        front = next.held;
        behind = after;
        one = k.one;
        short = k.short;
        within = omega (arith, h.count, t.taken);
        spelled = t.given;
        others = refl;
      },
      refl,
    ) tt

-- there was no memory for the line
pub untaken : (lines : List (List ℕ)) (told : Option (List ℕ)) (old : Option NodeState) (rest after : Option (List ℕ)) (now : Option NodeState) (before written : Option (List ℕ))
    (taken number : ℕ) → SoFar lines told old rest now before written taken number → taken ≤ longest_input
    → IsSessionOf lines None served.OutOfMemory told after old now before written
untaken lines None old rest after now before written taken number h within = tt
untaken lines (Some told) None rest after now before written taken number h within = tt
untaken lines (Some told) (Some old) None after now before written taken number h within = absurd h
untaken lines (Some told) (Some old) (Some rest) after None before written taken number h within = absurd h
untaken lines (Some told) (Some old) (Some rest) after (Some now) before written taken number h within =
    ended lines None served.OutOfMemory told rest after old now now before written written taken number h h.wrote
    (front_of lines told rest old now before written taken number h within, inl refl) tt

-- there was no memory to begin with
pub unbegun : (told : Option (List ℕ)) (old : Option NodeState) (before : Option (List ℕ)) → IsSessionOf [] None served.OutOfMemory told told old old before before
unbegun told old before = untaken [] told old told told old before before 0 1 (begun told old before) (omega arith)

-- ## The session ends with the line
wrote_none : (before written after : Option (List ℕ)) (text : List ℕ) → Appends before written text → Appends written after [] → Appends before after text
wrote_none before written after text h k =
    let P : List ℕ → Type 0 = λ xs. Appends before after xs in subst P (append-nil text) (Appends-trans before written after text [] h k)

-- of the bytes to come so many may follow
next_asks : (line rest : List ℕ) (lines : List (List ℕ)) (taken : ℕ) (P : Request → Type 0) → taken ≡ length (lines_text lines)
    → IsNext line rest (longest_input - taken) → Asks line P → NextAsks rest (room_behind lines) P
next_asks line rest lines taken P e next asks =
    let Q : ℕ → Type 0 = λ n. IsNext line rest (longest_input - n) in record { line = line; next = subst Q e next; asks = asks }

-- what the session wrote is the replies to the lines before, and a part of this line's
unwritten : (lines : List (List ℕ)) (last : Option (List ℕ)) (told rest line : List ℕ) (left : Option (List ℕ)) (old now new : NodeState) (before written after : Option (List ℕ)) (taken number : ℕ)
    → AreServed lines told rest old now before written taken number → taken ≤ longest_input → IsNext line rest (longest_input - taken)
    → Asks line (λ r. (new ≡ (node_step now r).state) × TakesFront written after (reply_line now r)) → IsAskedNext last rest (room_behind lines)
    → IsSession lines last served.WriteFault told left old new before after
unwritten lines last told rest line left old now new before written after taken number s within next a asked =
    let part = take a.so.1.0 (reply_line now a.request) in
    let asks : Asks line (IsPartWritten now part new) = record { request = a.request; reads = a.reads; so = (a.so.0, (a.so.1.0, refl)) } in record {
      whole = s.whole;
      rest = rest;
      text = s.text;
      state = now;
      answered = s.answered;
      part = part;
      written = Appends-trans before written after s.text part s.wrote a.so.1.1;
      ends = (
        front_of lines told rest old now before written taken number s within,
        next_asks line rest lines taken (IsPartWritten now part new) s.count next asks,
      );
      asked_next = asked;
    }

short_of_memory : (line rest : List ℕ) (lines : List (List ℕ)) (taken : ℕ) (now new : NodeState) → taken ≡ length (lines_text lines)
    → IsNext line rest (longest_input - taken) → (new ≡ now) ⊎ Asks line (λ r. Moves now r new) → (new ≡ now) ⊎ NextAsks rest (room_behind lines) (λ r. Moves now r new)
short_of_memory line rest lines taken now new e next (inl h) = inl h
short_of_memory line rest lines taken now new e next (inr h) = inr (next_asks line rest lines taken (λ r. Moves now r new) e next h)

-- the line, where it was asked
abbrev pub IsThis : Option (List ℕ) → List ℕ → Type 0
IsThis None line = Unit {0}
IsThis (Some asked) line = asked ≡ line

asked_this : (last : Option (List ℕ)) (line rest : List ℕ) (lines : List (List ℕ)) (taken : ℕ) → taken ≡ length (lines_text lines) → IsThis last line
    → IsNext line rest (longest_input - taken) → IsAskedNext last rest (room_behind lines)
asked_this None line rest lines taken e this next = tt
asked_this (Some asked) line rest lines taken e this next =
    subst (λ (l : List ℕ). IsNext l rest (room_behind lines)) (sym this) (subst (λ n. IsNext line rest (longest_input - n)) e next)

stopped : (lines : List (List ℕ)) (last : Option (List ℕ)) (outcome : Served) (told rest line : List ℕ) (left : Option (List ℕ))
    (old now new : NodeState) (before written after : Option (List ℕ)) (taken number : ℕ)
    → AreServed lines told rest old now before written taken number → taken ≤ longest_input → IsNext line rest (longest_input - taken)
    → IsServed (Some outcome) number line now new written after → IsAskedNext last rest (room_behind lines)
    → IsSession lines last outcome told left old new before after
stopped lines last served.Done told rest line left old now new before written after taken number s within next a asked = absurd a
stopped lines last (served.BadLine n rule) told rest line left old now new before written after taken number s within next a asked =
    let Q : ℕ → Type 0 = λ k. IsNext line rest (longest_input - k) in
    ended lines last (served.BadLine n rule) told rest left old now new before written after taken number s (wrote_none before written after s.text s.wrote a.3) (
      front_of lines told rest old now before written taken number s within,
      a.0 ∙ s.counted,
      record { line = line; next = subst Q s.count next; bad = a.1 },
      a.2,
    ) asked
stopped lines last served.LongLine told rest line left old now new before written after taken number s within next a asked = absurd a
stopped lines last served.LongInput told rest line left old now new before written after taken number s within next a asked = absurd a
stopped lines last served.ReadFault told rest line left old now new before written after taken number s within next a asked = absurd a
stopped lines last served.WriteFault told rest line left old now new before written after taken number s within next a asked =
    unwritten lines last told rest line left old now new before written after taken number s within next a asked
stopped lines last served.DiskFault told rest line left old now new before written after taken number s within next a asked =
    ended lines last served.DiskFault told rest left old now new before written after taken number s (wrote_none before written after s.text s.wrote a.1)
    (front_of lines told rest old now before written taken number s within, next_asks line rest lines taken (λ r. IsStopOf now r new) s.count next a.0) asked
stopped lines last served.OutOfMemory told rest line left old now new before written after taken number s within next a asked =
    ended lines last served.OutOfMemory told rest left old now new before written after taken number s (wrote_none before written after s.text s.wrote a.1)
    (front_of lines told rest old now before written taken number s within, short_of_memory line rest lines taken now new s.count next a.0) asked

-- the line stands next, where it ends in an LF
next_ended : (line rest behind : List ℕ) (taken next : ℕ) → rest ≡ (line ++ 10 ∷ []) ++ behind → IsLine line → length line ≤ longest_line
    → next ≡ taken + length (line ++ 10 ∷ []) → next ≤ longest_input → IsNext line rest (longest_input - taken)
next_ended line rest behind taken next e one short n within = record {
  one = one;
  short = short;
  place = inl (behind, e ∙ append_assoc line (10 ∷ []) behind, omega (arith, n, length-append line (10 ∷ [])));
}

-- and where it is the last
next_last : (line rest : List ℕ) (taken next : ℕ) → rest ≡ line → IsLine line → length line ≤ longest_line → line ≢ []
    → next ≡ taken + length line → next ≤ longest_input → IsNext line rest (longest_input - taken)
next_last line rest taken next e one short some n within = record { one = one; short = short; place = inr (e, some, omega (arith, n)) }

pub stopped_ended : (lines : List (List ℕ)) (last : Option (List ℕ)) (outcome : Served) (told : Option (List ℕ)) (old : Option NodeState) (left after : Option (List ℕ)) (now new : Option NodeState)
    (before written wrote : Option (List ℕ)) (reader next : LineReaderView) (number : ℕ) (line : List ℕ) → SoFar lines told old (to_come reader left) now before written reader.taken number
    → TakesLine line (line ++ 10 ∷ []) reader next left after → next.taken ≤ longest_input → IsServedOf (Some outcome) number line now new written wrote
    → IsThis last line → IsSessionOf lines last outcome told after old new before wrote
stopped_ended lines last outcome None old left after now new before written wrote reader next number line h t within a this = tt
stopped_ended lines last outcome (Some told) None left after now new before written wrote reader next number line h t within a this = tt
stopped_ended lines last outcome (Some told) (Some old) None after now new before written wrote reader next number line h t within a this = absurd h
stopped_ended lines last outcome (Some told) (Some old) (Some left) after None new before written wrote reader next number line h t within a this = absurd h
stopped_ended lines last outcome (Some told) (Some old) (Some left) None (Some now) new before written wrote reader next number line h t within a this = absurd t.given
stopped_ended lines last outcome (Some told) (Some old) (Some left) (Some after) (Some now) None before written wrote reader next number line h t within a this = absurd a
stopped_ended lines last outcome (Some told) (Some old) (Some left) (Some after) (Some now) (Some new) before written wrote reader next number line h t within a this =
    let here = next_ended line (reader.held ++ left) (next.held ++ after) reader.taken next.taken t.given t.one t.short t.taken within in
    stopped lines last outcome told (reader.held ++ left) line (Some after) old now new before written wrote reader.taken number h (omega (arith, t.taken)) here a
    (asked_this last line (reader.held ++ left) lines reader.taken h.count this here)

pub stopped_last : (lines : List (List ℕ)) (last : Option (List ℕ)) (outcome : Served) (told : Option (List ℕ)) (old : Option NodeState) (left after : Option (List ℕ)) (now new : Option NodeState)
    (before written wrote : Option (List ℕ)) (reader next : LineReaderView) (number : ℕ) (line : List ℕ) → SoFar lines told old (to_come reader left) now before written reader.taken number
    → TakesLine line line reader next left after → line ≢ [] → IsEmptied next after → next.taken ≤ longest_input
    → IsServedOf (Some outcome) number line now new written wrote → IsThis last line
    → IsSessionOf lines last outcome told after old new before wrote
stopped_last lines last outcome None old left after now new before written wrote reader next number line h t some k within a this = tt
stopped_last lines last outcome (Some told) None left after now new before written wrote reader next number line h t some k within a this = tt
stopped_last lines last outcome (Some told) (Some old) None after now new before written wrote reader next number line h t some k within a this = absurd h
stopped_last lines last outcome (Some told) (Some old) (Some left) after None new before written wrote reader next number line h t some k within a this = absurd h
stopped_last lines last outcome (Some told) (Some old) (Some left) None (Some now) new before written wrote reader next number line h t some k within a this = absurd t.given
stopped_last lines last outcome (Some told) (Some old) (Some left) (Some after) (Some now) None before written wrote reader next number line h t some k within a this = absurd a
stopped_last lines last outcome (Some told) (Some old) (Some left) (Some after) (Some now) (Some new) before written wrote reader next number line h t some k within a this =
    let none : next.held ++ after ≡ [] = ap (λ xs. xs ++ after) k.held ∙ k.end in
    let whole : reader.held ++ left ≡ line = t.given ∙ ap (λ xs. line ++ xs) none ∙ append-nil line in
    let here = next_last line (reader.held ++ left) reader.taken next.taken whole t.one t.short some t.taken within in
    stopped lines last outcome told (reader.held ++ left) line (Some after) old now new before written wrote reader.taken number h (omega (arith, t.taken)) here a
    (asked_this last line (reader.held ++ left) lines reader.taken h.count this here)
