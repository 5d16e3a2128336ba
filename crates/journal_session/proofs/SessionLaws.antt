-- A session so far.
use Rattle.std.proofs.Common.{ℕ, ◌≡◌, ◌≤◌, ◌+◌, List, [], ◌∷◌, ◌++◌, length, Option, Some, None, refl, sym, ap, ◌∙◌, arith, append_assoc, subst, length-append}
use Rattle.std.proofs.KnownBytes.{Appends-nil, Appends-trans, prepend_known-nil}
use Rattle.std.proofs.lemmas.List.{length_push}
use Rattle.std.specs.Io.KnownBytes.{Appends, prepend_known}
use Rattle.journal_core.specs.declared.node_state.NodeState.{NodeState}
use Rattle.journal_core.specs.Step.{node_step}
use Rattle.journal_session.specs.Lines.{longest_line, IsLine, AreLines, lines_text}
use Rattle.journal_session.specs.Reader.{LineReaderView, to_come, TakesLine}
use Rattle.journal_session.specs.Session.{AreAnswered, Asks}
use Rattle.journal_session.specs.Answering.{reply_line, IsServedOf}
use Rattle.journal_session.proofs.LineLaws.{lines_text_more, lines_more}
use Rattle.journal_session.proofs.AnswerLaws.{answered_more}

-- these lines were taken from the input's front and answered, and their replies written; the rest
-- is still to come
pub record AreServed (lines : List (List ℕ)) (told rest : List ℕ) (old now : NodeState) (before written : Option (List ℕ)) (taken number : ℕ) : Type 0 where
  pub whole : AreLines lines
  pub spelled : told ≡ lines_text lines ++ rest
  pub count : taken ≡ length (lines_text lines)
  pub text : List ℕ
  pub answered : AreAnswered old lines text now
  pub wrote : Appends before written text
  pub counted : number ≡ length lines + 1

-- lines were taken, answered and their replies written, where the source tells its bytes and the
-- node its state, and both go on telling; nothing is said where one of them doesn't tell
abbrev pub SoFar : List (List ℕ) → Option (List ℕ) → Option NodeState → Option (List ℕ) → Option NodeState → Option (List ℕ) → Option (List ℕ) → ℕ → ℕ → Type 0
SoFar lines None old rest now before written taken number = Unit {0}
SoFar lines (Some told) None rest now before written taken number = Unit {0}
SoFar lines (Some told) (Some old) None now before written taken number = ⊥
SoFar lines (Some told) (Some old) (Some rest) None before written taken number = ⊥
SoFar lines (Some told) (Some old) (Some rest) (Some now) before written taken number = AreServed lines told rest old now before written taken number

-- no line was taken yet
pub begun : (told : Option (List ℕ)) (old : Option NodeState) (before : Option (List ℕ)) → SoFar [] told old told old before before 0 1
begun None old before = tt
begun (Some told) None before = tt
begun (Some told) (Some old) before = record {
  whole = tt;
  spelled = refl;
  count = refl;
  text = [];
  answered = (refl, refl);
  wrote = Appends-nil before;
  counted = refl;
}

pub begun_with : (told : Option (List ℕ)) (old : Option NodeState) (before : Option (List ℕ)) (reader : LineReaderView) → reader.held ≡ [] → reader.taken ≡ 0
    → SoFar [] told old (to_come reader told) old before before reader.taken 1
begun_with told old before reader none zero =
    let P : List ℕ → Type 0 = λ xs. SoFar [] told old (prepend_known xs told) old before before reader.taken 1 in
    let Q : Option (List ℕ) → Type 0 = λ x. SoFar [] told old x old before before reader.taken 1 in
    let R : ℕ → Type 0 = λ n. SoFar [] told old told old before before n 1 in
    subst P (sym none) (subst Q (sym (prepend_known-nil told)) (subst R (sym zero) (begun told old before)))

-- ## One line more
-- the text of the lines, with one more after them
spelled_more : (told rest behind line : List ℕ) (lines : List (List ℕ)) → told ≡ lines_text lines ++ rest → rest ≡ (line ++ 10 ∷ []) ++ behind
    → told ≡ lines_text (lines ++ line ∷ []) ++ behind
spelled_more told rest behind line lines e f =
    e ∙ ap (λ xs. lines_text lines ++ xs) f ∙ sym (append_assoc (lines_text lines) (line ++ 10 ∷ []) behind)
    ∙ ap (λ xs. xs ++ behind) (sym (lines_text_more lines line))

count_more : (line : List ℕ) (lines : List (List ℕ)) (taken next : ℕ) → taken ≡ length (lines_text lines) → next ≡ taken + length (line ++ 10 ∷ [])
    → next ≡ length (lines_text (lines ++ line ∷ []))
count_more line lines taken next e f =
    rw (lines_text_more lines line) (omega (arith, length-append (lines_text lines) (line ++ 10 ∷ [])))

served_more : (lines : List (List ℕ)) (told rest behind line : List ℕ) (old now new : NodeState) (before written after : Option (List ℕ)) (taken next number : ℕ)
    → AreServed lines told rest old now before written taken number → rest ≡ (line ++ 10 ∷ []) ++ behind → IsLine line → length line ≤ longest_line
    → next ≡ taken + length (line ++ 10 ∷ []) → Asks line (λ r. (new ≡ (node_step now r).state) × Appends written after (reply_line now r))
    → AreServed (lines ++ line ∷ []) told behind old new before after next (number + 1)
served_more lines told rest behind line old now new before written after taken next number s e one short n a =
    let P : NodeState → Type 0 = λ x. AreAnswered old (lines ++ line ∷ []) (s.text ++ reply_line now a.request) x in record {
      whole = lines_more lines line s.whole one short;
      spelled = spelled_more told rest behind line lines s.spelled e;
      count = count_more line lines taken next s.count n;
      text = s.text ++ reply_line now a.request;
      answered = subst P (sym a.so.0) (answered_more old now lines line s.text a.request s.answered a.reads);
      wrote = Appends-trans before written after s.text (reply_line now a.request) s.wrote a.so.1;
      counted = omega (arith, s.counted, length_push lines line);
    }

-- a line was taken, answered, and its reply written
pub one_more : (lines : List (List ℕ)) (told : Option (List ℕ)) (old : Option NodeState) (left after : Option (List ℕ)) (now new : Option NodeState) (before written wrote : Option (List ℕ))
    (reader next : LineReaderView) (number : ℕ) (line : List ℕ) → SoFar lines told old (to_come reader left) now before written reader.taken number
    → TakesLine line (line ++ 10 ∷ []) reader next left after → IsServedOf None number line now new written wrote
    → SoFar (lines ++ line ∷ []) told old (to_come next after) new before wrote next.taken (number + 1)
one_more lines None old left after now new before written wrote reader next number line h t k = tt
one_more lines (Some told) None left after now new before written wrote reader next number line h t k = tt
one_more lines (Some told) (Some old) None after now new before written wrote reader next number line h t k = absurd h
one_more lines (Some told) (Some old) (Some left) after None new before written wrote reader next number line h t k = absurd h
one_more lines (Some told) (Some old) (Some left) None (Some now) new before written wrote reader next number line h t k = absurd t.given
one_more lines (Some told) (Some old) (Some left) (Some after) (Some now) None before written wrote reader next number line h t k = absurd k
one_more lines (Some told) (Some old) (Some left) (Some after) (Some now) (Some new) before written wrote reader next number line h t k =
    served_more lines told (reader.held ++ left) (next.held ++ after) line old now new before written wrote reader.taken next.taken number h t.given t.one t.short t.taken k
