-- What is printed of the parts of a report is read as lists with that text.
use Rattle.std.proofs.Common.{ℕ, suc, ◌≡◌, ◌≢◌, ◌<◌, ◌≤◌, ◌+◌, ◌^◌, List, [], ◌∷◌, ◌++◌, Bool, true, false, Option, Some, None, length, take, drop, refl, sym}
use Rattle.std.proofs.Common.{ap, ◌∙◌, arith, append-nil, append_assoc, length-append, decimal, if◌then◌else◌}
use Rattle.std.specs.Prelude.{codes}
use Rattle.std.specs.List.{AllByRecursion, flat_map}
use Rattle.std.proofs.lemmas.Bool.{false≢true}
use Rattle.std.proofs.lemmas.Bool.Decides.{Decides-eqb}
use Rattle.std.proofs.lemmas.Slice.Eq.{bytes_eq-Decides, starts_is}
use Rattle.journal_core.specs.Nodes.{most_nodes}
use Rattle.base_words.specs.WordNumbers.{is_number}
use Rattle.base_words.proofs.NumberLaws.{tells}
use Rattle.journal_text.specs.Texts.{numbers_text, request_text}
use Rattle.journal_text.specs.Reading.{number_in}
use Rattle.journal_text.specs.Exact.{IsWide}
use Rattle.journal_text.proofs.Found.{number_back}
use Rattle.journal_history.specs.declared.history_line.HistoryLine.{HistoryLine}
use Rattle.journal_history.specs.declared.record.Record.{Record}
use Rattle.journal_history.specs.declared.record.Record.TheVariants as record_
use Rattle.ns_tree.specs.declared.inode.Row.{Row}
use Rattle.ns_tree.specs.declared.end.LastSpace.{LastSpace}
use Rattle.ns_tree.specs.declared.end.End.{End}
use Rattle.play_script.specs.Lines.{Lacks}
use Rattle.play_script.specs.Words.{is_name}
use Rattle.play_report.specs.Summary.{begins}
use Rattle.play_report.specs.Text.{operator, caller_name, arrow, ask_text, answer_text, heard_text, done_text, history_line_text, record_line_text, history_text, record_text, node_text}
use Rattle.play_report.specs.Text.{nodes_text, actor_text, row_line_text, rows_text, space_text, last_text, ended_text, operator_text, actors_text}
use Rattle.report_judge.specs.declared.rules.Rule.TheVariants as rule
use Rattle.report_judge.specs.declared.actors.Callers.{Callers}
use Rattle.report_judge.specs.Cuts.{has_arrow}
use Rattle.report_judge.specs.Pieces.{pieces, Front, Taken, behind, then_, IsLineOf, AreRead}
use Rattle.report_judge.specs.Rows.{row_in}
use Rattle.report_judge.specs.Reading.{history_line_in, record_line_in, is_of_record, history_in, is_header, header_in, is_name_line, nodes_in, is_row, rows_in, held, space_in, held_from, last_in}
use Rattle.report_judge.specs.Reading.{record_in, tells_name, name_in, with_actor, actor_in, actors_in, is_name_next, with_record, operator_in, is_end_line, nothing_in, end_in}
use Rattle.report_judge.specs.Callers.{bare}
use Rattle.report_judge.specs.Reading.{with_name, names_from}
use Rattle.report_judge.specs.Complete.{bared}
use Rattle.report_judge.specs.Written.{IsHistoryLine, IsRecordLine, IsHeld, IsRow, AreNamed}
use Rattle.report_judge.proofs.PieceLaws.{first_piece, has_piece, HasPiece, line_taken, next_is, stops_at, lines_back, AreThemselves, lines_unchanged}
use Rattle.report_judge.proofs.CutLaws.{arrow_there, arrow_missed, Lacks-append}
use Rattle.report_judge.proofs.Tame.{Tame, tame_append, no_end, no_mark, tame_ask, tame_answer, tame_numbers}
use Rattle.report_judge.proofs.LineBack.{history_back, line_of, record_spelled, record_back, record_whole, record_own}
use Rattle.report_judge.proofs.NameBack.{names_of, name_lacks, operator_lacks, caller_lacks, caller_back, no_name, arrow_no_name, names_step, Nameless, names_over, Free, free_more}
use Rattle.report_judge.proofs.NameBack.{name_pushed, operator_nameless}
use Rattle.report_judge.proofs.RowBack.{row_line}

-- ## What comes next
-- A text begins with a line that is no history's, no record's, no row and no position.
pub record IsNext (after : List ℕ) : Type 0 where
  pub line : List ℕ
  pub rest : List ℕ
  pub spelled : after ≡ line ++ 10 ∷ rest
  pub whole : Lacks 10 line
  pub arrowless : has_arrow line ≡ false
  pub letter : is_of_record line ≡ false
  pub no_row : is_row line ≡ false
  pub no_place : begins line (codes "position ") ≡ false

name_next : (name rest : List ℕ) → Lacks 10 name → Lacks 62 name → IsNext (codes "actor " ++ name ++ 10 ∷ rest)
name_next name rest l m = record {
  line = codes "actor " ++ name;
  rest = rest;
  spelled = refl;
  whole = Lacks-append 10 (codes "actor ") name ((λ e. cc), ((λ e. cc), ((λ e. cc), ((λ e. cc), ((λ e. cc), ((λ e. cc), tt)))))) l;
  arrowless = arrow_missed (codes "actor " ++ name) (Lacks-append 62 (codes "actor ") name ((λ e. cc), ((λ e. cc), ((λ e. cc), ((λ e. cc), ((λ e. cc), ((λ e. cc), tt)))))) m);
  letter = refl;
  no_row = refl;
  no_place = refl;
}

end_next : IsNext (codes "end\n")
end_next = record {
  line = codes "end";
  rest = [];
  spelled = refl;
  whole = ((λ e. cc), ((λ e. cc), ((λ e. cc), tt)));
  arrowless = arrow_missed (codes "end") ((λ e. cc), ((λ e. cc), ((λ e. cc), tt)));
  letter = refl;
  no_row = refl;
  no_place = refl;
}

is_next : (text other : List ℕ) → text ≡ other → IsNext other → IsNext text
is_next text other e n = record {
  line = n.line;
  rest = n.rest;
  spelled = e ∙ n.spelled;
  whole = n.whole;
  arrowless = n.arrowless;
  letter = n.letter;
  no_row = n.no_row;
  no_place = n.no_place;
}

-- the text of a caller's name and of its record
actor_spelled : (name : List ℕ) (lines : List Record) (after : List ℕ) → actor_text name lines ++ after ≡ codes "actor " ++ name ++ 10 ∷ (record_text lines ++ after)
unfolding actor_text
actor_spelled name lines after =
    append_assoc (codes "actor " ++ name ++ 10 ∷ []) (record_text lines) after ∙ append_assoc (codes "actor " ++ name) (10 ∷ []) (record_text lines ++ after)

actor_next : (name : List ℕ) (lines : List Record) (after : List ℕ) → Lacks 10 name → Lacks 62 name → IsNext (actor_text name lines ++ after)
actor_next name lines after l m =
    is_next (actor_text name lines ++ after) (codes "actor " ++ name ++ 10 ∷ (record_text lines ++ after)) (actor_spelled name lines after) (name_next name (record_text lines ++ after) l m)

operator_is : (x : Record) (xs : List Record) (rs : List (List Record)) → operator_text ((x ∷ xs) ∷ rs) ≡ actor_text operator (x ∷ xs)
unfolding operator_text
operator_is x xs rs = refl

nil_text : (rs : List (List Record)) → operator_text ([] ∷ rs) ≡ []
unfolding operator_text
nil_text rs = refl

no_rs : operator_text [] ≡ []
unfolding operator_text
no_rs = refl

operator_next : (rs : List (List Record)) → IsNext (operator_text rs ++ codes "end\n")
operator_next [] = is_next (operator_text [] ++ codes "end\n") (codes "end\n") (ap (λ (t : List ℕ). t ++ codes "end\n") no_rs) end_next
operator_next ([] ∷ rs) = is_next (operator_text ([] ∷ rs) ++ codes "end\n") (codes "end\n") (ap (λ (t : List ℕ). t ++ codes "end\n") (nil_text rs)) end_next
operator_next ((x ∷ xs) ∷ rs) =
    is_next (operator_text ((x ∷ xs) ∷ rs) ++ codes "end\n") (actor_text operator (x ∷ xs) ++ codes "end\n") (ap (λ (t : List ℕ). t ++ codes "end\n") (operator_is x xs rs))
    (actor_next operator (x ∷ xs) (codes "end\n") (operator_lacks 10 refl) (operator_lacks 62 refl))

ended_spelled : (e : End) (lines : List Record) (after : List ℕ) → ended_text e lines ++ after ≡ codes "actor " ++ e.name ++ 10 ∷ (record_text lines ++ (last_text e.last ++ after))
unfolding ended_text
ended_spelled e lines after = append_assoc (actor_text e.name lines) (last_text e.last) after ∙ actor_spelled e.name lines (last_text e.last ++ after)

actors_spelled : (e : End) (ends : List End) (lines : List Record) (records : List (List Record)) (after : List ℕ)
    → actors_text (e ∷ ends) (lines ∷ records) ++ after ≡ codes "actor " ++ e.name ++ 10 ∷ (record_text lines ++ (last_text e.last ++ (actors_text ends records ++ after)))
unfolding actors_text
actors_spelled e ends lines records after = append_assoc (ended_text e lines) (actors_text ends records) after ∙ ended_spelled e lines (actors_text ends records ++ after)

pub actors_next : (ends : List End) (records : List (List Record)) → AreNamed ends → length ends < length records → IsNext (actors_text ends records ++ codes "end\n")
unfolding actors_text
actors_next [] records h l = operator_next records
actors_next (e ∷ ends) [] h l = absurd (omega (arith, l))
actors_next (e ∷ ends) (lines ∷ records) h l =
    is_next (actors_text (e ∷ ends) (lines ∷ records) ++ codes "end\n")
    (codes "actor " ++ e.name ++ 10 ∷ (record_text lines ++ (last_text e.last ++ (actors_text ends records ++ codes "end\n"))))
    (actors_spelled e ends lines records (codes "end\n"))
    (name_next e.name (record_text lines ++ (last_text e.last ++ (actors_text ends records ++ codes "end\n"))) (name_lacks 10 refl e.name h.0) (name_lacks 62 refl e.name h.0))

-- ## Lists of lines
same_left : {X : Type 0} (things : List X) (ps : List (List ℕ)) → behind things (Taken [] ps) ≡ Taken things ps
same_left things ps = ap (λ xs. Taken xs ps) (append-nil things)

-- What was taken of a text, of which this is left.
pub record TakesList {X : Type 0} (front : List (List ℕ) → Front (List X)) (text : X → List ℕ) (xs : List X) (after : List ℕ) : Type 0 where
  pub things : List X
  pub are : front (pieces (flat_map text xs ++ after)) ≡ Taken things (pieces after)
  pub same : flat_map text things ≡ flat_map text xs

takes : {X : Type 0} (front : List (List ℕ) → Front (List X)) (text : X → List ℕ) (xs : List X) (after : List ℕ)
    → AreRead front text xs after → front (pieces after) ≡ Taken [] (pieces after) → TakesList front text xs after
takes front text xs after r s = record { things = r.things; are = r.are ∙ ap (behind r.things) s ∙ same_left r.things (pieces after); same = r.same }

-- ## Histories
module _ (ends : List End) (named : AreNamed ends) where
  abbrev history_line : HistoryLine → List ℕ
  history_line h = caller_name ends h.caller ++ 32 ∷ ask_text h.ask ++ arrow ++ answer_text h.answer

  history_spelled : (h : HistoryLine) → history_line_text ends h ≡ history_line h ++ 10 ∷ []
  unfolding history_line_text
  history_spelled h = refl

  asked_lacks : (h : HistoryLine) → IsHistoryLine (length ends) h → Lacks 62 (caller_name ends h.caller ++ 32 ∷ ask_text h.ask)
  asked_lacks h w = Lacks-append 62 (caller_name ends h.caller) (32 ∷ ask_text h.ask) (caller_lacks 62 refl ends h.caller named) ((λ e. cc), no_mark (ask_text h.ask) (tame_ask h.ask w.asked))

  history_whole : (h : HistoryLine) → IsHistoryLine (length ends) h → Lacks 10 (history_line h)
  history_whole h w =
      Lacks-append 10 (caller_name ends h.caller ++ 32 ∷ ask_text h.ask ++ arrow) (answer_text h.answer)
      (Lacks-append 10 (caller_name ends h.caller ++ 32 ∷ ask_text h.ask) arrow
      (Lacks-append 10 (caller_name ends h.caller) (32 ∷ ask_text h.ask) (caller_lacks 10 refl ends h.caller named) ((λ e. cc), no_end (ask_text h.ask) (tame_ask h.ask w.asked)))
      ((λ e. cc), ((λ e. cc), ((λ e. cc), ((λ e. cc), tt)))))
      (no_end (answer_text h.answer) (tame_answer h.ask h.answer w.answered))

  history_own : (h : HistoryLine) → IsHistoryLine (length ends) h → has_arrow (history_line h) ≡ true
  history_own h w = arrow_there (caller_name ends h.caller ++ 32 ∷ ask_text h.ask) (answer_text h.answer) (asked_lacks h w)

  line_read : (h : HistoryLine) → IsHistoryLine (length ends) h → IsLineOf has_arrow (history_line_in (bared ends)) (history_line_text ends) h
  line_read h w = record {
    line = history_line h;
    spelled = history_spelled h;
    whole = history_whole h w;
    own_line = history_own h w;
    thing = h;
    is_read = history_back (bared ends) (caller_name ends h.caller) h (caller_lacks 32 refl ends h.caller named)
        (caller_back 0 ends h.caller named w.caller ∙ ap (λ n. Some n) (omega arith)) w.asked w.answered;
    same = refl;
  }

  lines_read : (hs : List HistoryLine) → AllByRecursion (IsHistoryLine (length ends)) hs → AllByRecursion (IsLineOf has_arrow (history_line_in (bared ends)) (history_line_text ends)) hs
  lines_read [] w = tt
  lines_read (h ∷ hs) w = (line_read h w.0, lines_read hs w.1)

  history_read : (hs : List HistoryLine) (after : List ℕ) → AllByRecursion (IsHistoryLine (length ends)) hs → history_in (bared ends) (pieces after) ≡ Taken [] (pieces after)
      → TakesList (history_in (bared ends)) (history_line_text ends) hs after
  history_read hs after w s =
      takes (history_in (bared ends)) (history_line_text ends) hs after
      (lines_back has_arrow (history_line_in (bared ends)) rule.HistoryLine (history_line_text ends) hs after (lines_read hs w)) s

  -- each line is read as itself
  themselves : (hs : List HistoryLine) (w : AllByRecursion (IsHistoryLine (length ends)) hs)
      → AreThemselves has_arrow (history_line_in (bared ends)) rule.HistoryLine (history_line_text ends) hs (lines_read hs w)
  unfolding lines_read line_read
  themselves [] w = tt
  themselves (h ∷ hs) w = (refl, themselves hs w.1)

  history_unchanged : (hs : List HistoryLine) (after : List ℕ) (w : AllByRecursion (IsHistoryLine (length ends)) hs)
      → (lines_back has_arrow (history_line_in (bared ends)) rule.HistoryLine (history_line_text ends) hs after (lines_read hs w)).things ≡ hs
  history_unchanged hs after w = lines_unchanged has_arrow (history_line_in (bared ends)) rule.HistoryLine (history_line_text ends) hs after (lines_read hs w) (themselves hs w)

  abbrev header : ℕ → List ℕ
  header node = codes "node" ++ numbers_text (node ∷ [])

  node_spelled : (node : ℕ) (hs : List HistoryLine) (after : List ℕ) → node_text ends node hs ++ after ≡ header node ++ 10 ∷ (history_text ends hs ++ after)
  unfolding node_text
  node_spelled node hs after = append_assoc (header node ++ 10 ∷ []) (history_text ends hs) after ∙ append_assoc (header node) (10 ∷ []) (history_text ends hs ++ after)

  header_tame : (node : ℕ) → IsWide node → Tame (header node)
  header_tame node w = tame_append (codes "node") (numbers_text (node ∷ [])) refl (tame_numbers (node ∷ []) (w, tt))

  header_word : (node : ℕ) → is_header node (header node) ≡ is_number node node (decimal node ++ [])
  unfolding numbers_text
  header_word node = refl

  header_is : (node : ℕ) → IsWide node → is_header node (header node) ≡ true
  header_is node w = header_word node ∙ ap (is_number node node) (append-nil (decimal node)) ∙ (tells node node (decimal node) node w refl (omega arith) (omega arith)).0

  header_back : (node : ℕ) (text rest : List ℕ) → IsWide node → text ≡ header node ++ 10 ∷ rest → header_in node (pieces text) ≡ Taken tt (pieces rest)
  header_back node text rest w e = line_taken (is_header node) rule.NodeLine text (header node) rest e (no_end (header node) (header_tame node w)) (header_is node w)

  -- a node, or what comes next, ends a history
  history_stops : (line rest text : List ℕ) → text ≡ line ++ 10 ∷ rest → Lacks 10 line → has_arrow line ≡ false → history_in (bared ends) (pieces text) ≡ Taken [] (pieces text)
  history_stops line rest text e l a = stops_at has_arrow (history_line_in (bared ends)) rule.HistoryLine text line rest e l a

  nodes_stop : (node : ℕ) (hs : List (List HistoryLine)) (after : List ℕ) → IsWide node → IsNext after
      → history_in (bared ends) (pieces (nodes_text ends node hs ++ after)) ≡ Taken [] (pieces (nodes_text ends node hs ++ after))
  unfolding nodes_text
  nodes_stop node [] after w n = history_stops n.line n.rest after n.spelled n.whole n.arrowless
  nodes_stop node (h ∷ hs) after w n =
      let rest = nodes_text ends (node + 1) hs ++ after in
      history_stops (header node) (history_text ends h ++ rest) (node_text ends node h ++ nodes_text ends (node + 1) hs ++ after)
      (append_assoc (node_text ends node h) (nodes_text ends (node + 1) hs) after ∙ node_spelled node h rest)
      (no_end (header node) (header_tame node w)) (arrow_missed (header node) (no_mark (header node) (header_tame node w)))

  -- Histories were taken, of which this is left.
  pub record TakesNodes (node : ℕ) (done hs : List (List HistoryLine)) (after : List ℕ) : Type 0 where
    pub histories : List (List HistoryLine)
    pub are : nodes_in (bared ends) (length hs) node done (pieces (nodes_text ends node hs ++ after)) ≡ Taken (done ++ histories) (pieces after)
    pub same : nodes_text ends node histories ≡ nodes_text ends node hs
    pub unchanged : histories ≡ hs

  nodes_step : (count node : ℕ) (done : List (List HistoryLine)) (ps rest left : List (List ℕ)) (h : List HistoryLine) → header_in node ps ≡ Taken tt rest
      → history_in (bared ends) rest ≡ Taken h left → nodes_in (bared ends) (suc count) node done ps ≡ nodes_in (bared ends) count (node + 1) (done ++ h ∷ []) left
  unfolding nodes_in
  nodes_step count node done ps rest left h e f =
      ap (λ x. then_ x (λ u rest. then_ (history_in (bared ends) rest) (λ history left. nodes_in (bared ends) count (node + 1) (done ++ history ∷ []) left))) e
      ∙ ap (λ x. then_ x (λ history left. nodes_in (bared ends) count (node + 1) (done ++ history ∷ []) left)) f

  none_left : (node : ℕ) (done : List (List HistoryLine)) (after : List ℕ) → nodes_in (bared ends) 0 node done (pieces (nodes_text ends node [] ++ after)) ≡ Taken (done ++ []) (pieces after)
  unfolding nodes_in nodes_text
  none_left node done after = ap (λ x. Taken x (pieces after)) (sym (append-nil done))

  one_same : (node : ℕ) (h g : List HistoryLine) (hs gs : List (List HistoryLine)) → history_text ends g ≡ history_text ends h → nodes_text ends (node + 1) gs ≡ nodes_text ends (node + 1) hs
      → nodes_text ends node (g ∷ gs) ≡ nodes_text ends node (h ∷ hs)
  unfolding nodes_text node_text
  one_same node h g hs gs e f =
      ap (λ (x : List ℕ). header node ++ 10 ∷ [] ++ x ++ nodes_text ends (node + 1) gs) e ∙ ap (λ (x : List ℕ). header node ++ 10 ∷ [] ++ history_text ends h ++ x) f

  nodes_join : (node : ℕ) (h : List HistoryLine) (hs : List (List HistoryLine)) (after : List ℕ)
      → nodes_text ends node (h ∷ hs) ++ after ≡ header node ++ 10 ∷ (history_text ends h ++ (nodes_text ends (node + 1) hs ++ after))
  unfolding nodes_text
  nodes_join node h hs after = append_assoc (node_text ends node h) (nodes_text ends (node + 1) hs) after ∙ node_spelled node h (nodes_text ends (node + 1) hs ++ after)

  pub nodes_back : (node : ℕ) (done hs : List (List HistoryLine)) (after : List ℕ) → IsNext after → node + length hs < 2 ^ 64
      → AllByRecursion (AllByRecursion (IsHistoryLine (length ends))) hs → TakesNodes node done hs after
  unfolding history_read takes
  nodes_back node done [] after n l w = record { histories = []; are = none_left node done after; same = refl; unchanged = refl }
  nodes_back node done (h ∷ hs) after n l w =
      let rest = nodes_text ends (node + 1) hs ++ after in
      let here = history_read h rest w.0 (nodes_stop (node + 1) hs after (omega (arith, l)) n) in
      let more = nodes_back (node + 1) (done ++ here.things ∷ []) hs after n (omega (arith, l)) w.1 in
      record {
        histories = here.things ∷ more.histories;
        are =
            nodes_step (length hs) node done (pieces (nodes_text ends node (h ∷ hs) ++ after)) (pieces (history_text ends h ++ rest)) (pieces rest) here.things
            (header_back node (nodes_text ends node (h ∷ hs) ++ after) (history_text ends h ++ rest) (omega (arith, l)) (nodes_join node h hs after)) here.are
            ∙ more.are ∙ ap (λ x. Taken x (pieces after)) (append_assoc done (here.things ∷ []) more.histories);
        same = one_same node h here.things hs more.histories here.same more.same;
        unchanged = λ i. history_unchanged h rest w.0 i ∷ more.unchanged i;
      }

  -- no line of theirs tells a name
  history_nameless : (h : HistoryLine) → IsHistoryLine (length ends) h → Nameless (history_line_text ends) h
  history_nameless h w = record { line = history_line h; spelled = history_spelled h; whole = history_whole h w; none = λ es. arrow_no_name es (history_line h) (history_own h w) }

  histories_nameless : (hs : List HistoryLine) → AllByRecursion (IsHistoryLine (length ends)) hs → AllByRecursion (Nameless (history_line_text ends)) hs
  histories_nameless [] w = tt
  histories_nameless (h ∷ hs) w = (history_nameless h w.0, histories_nameless hs w.1)

  no_nodes : (es : List End) (node : ℕ) (after : List ℕ) → names_from es (pieces (nodes_text ends node [] ++ after)) ≡ names_from es (pieces after)
  unfolding nodes_text
  no_nodes es node after = refl

  header_none : (es : List End) (node : ℕ) → with_name es (header node) ≡ es
  header_none es node = no_name es (header node) refl

  pub nodes_names : (es : List End) (node : ℕ) (hs : List (List HistoryLine)) (after : List ℕ) → node + length hs < 2 ^ 64 → AllByRecursion (AllByRecursion (IsHistoryLine (length ends))) hs
      → names_from es (pieces (nodes_text ends node hs ++ after)) ≡ names_from es (pieces after)
  nodes_names es node [] after l w = no_nodes es node after
  nodes_names es node (h ∷ hs) after l w =
      let rest = nodes_text ends (node + 1) hs ++ after in
      names_step es (nodes_text ends node (h ∷ hs) ++ after) (header node) (history_text ends h ++ rest) (nodes_join node h hs after) (no_end (header node) (header_tame node (omega (arith, l))))
      ∙ ap (λ x. names_from x (pieces (history_text ends h ++ rest))) (header_none es node)
      ∙ names_over (history_line_text ends) h es rest (histories_nameless h w.0) ∙ nodes_names es (node + 1) hs after (omega (arith, l)) w.1

-- ## Records
-- a line that tells a name begins with a letter
letter_apart : (b : ℕ) (bs : List ℕ) → tells_name (b ∷ bs) ≡ true → is_of_record (b ∷ bs) ≡ true → ⊥
letter_apart b bs e h =
    let spelled : b ∷ bs ≡ codes "actor " ++ drop 6 (b ∷ bs) = (starts_is Decides-eqb (b ∷ bs) (codes "actor ") (tells_name (b ∷ bs)) refl).0 e in
    false≢true (sym (ap is_of_record spelled) ∙ h)

module _ (nodes : ℕ) (few : nodes ≤ most_nodes) where
  record_line : (x : Record) → IsRecordLine nodes x → IsLineOf is_of_record (record_line_in nodes) record_line_text x
  record_line x w = record {
    line = line_of nodes few x;
    spelled = record_spelled nodes few x;
    whole = record_whole nodes few x w;
    own_line = record_own nodes few x w;
    thing = x;
    is_read = record_back nodes few x w;
    same = refl;
  }

  record_lines : (xs : List Record) → AllByRecursion (IsRecordLine nodes) xs → AllByRecursion (IsLineOf is_of_record (record_line_in nodes) record_line_text) xs
  record_lines [] w = tt
  record_lines (x ∷ xs) w = (record_line x w.0, record_lines xs w.1)

  record_read : (xs : List Record) (after : List ℕ) → AllByRecursion (IsRecordLine nodes) xs → record_in nodes (pieces after) ≡ Taken [] (pieces after)
      → TakesList (record_in nodes) record_line_text xs after
  record_read xs after w s =
      takes (record_in nodes) record_line_text xs after (lines_back is_of_record (record_line_in nodes) rule.RecordLine record_line_text xs after (record_lines xs w)) s

  -- each line is read as itself
  as_they_are : (xs : List Record) (w : AllByRecursion (IsRecordLine nodes) xs) → AreThemselves is_of_record (record_line_in nodes) rule.RecordLine record_line_text xs (record_lines xs w)
  unfolding record_lines record_line
  as_they_are [] w = tt
  as_they_are (x ∷ xs) w = (refl, as_they_are xs w.1)

  record_unchanged : (xs : List Record) (after : List ℕ) (w : AllByRecursion (IsRecordLine nodes) xs)
      → (lines_back is_of_record (record_line_in nodes) rule.RecordLine record_line_text xs after (record_lines xs w)).things ≡ xs
  record_unchanged xs after w = lines_unchanged is_of_record (record_line_in nodes) rule.RecordLine record_line_text xs after (record_lines xs w) (as_they_are xs w)

  -- a line that begins with a letter ends a record
  record_stops : (line rest text : List ℕ) → text ≡ line ++ 10 ∷ rest → Lacks 10 line → is_of_record line ≡ false → record_in nodes (pieces text) ≡ Taken [] (pieces text)
  record_stops line rest text e l a = stops_at is_of_record (record_line_in nodes) rule.RecordLine text line rest e l a

  not_letter : (line : List ℕ) → is_of_record line ≡ true → tells_name line ≡ false
  not_letter [] h = refl
  not_letter (b ∷ bs) h = by (tells_name (b ∷ bs)) refl
    where
      by : (t : Bool) → tells_name (b ∷ bs) ≡ t → t ≡ false
      by false e = refl
      by true e = absurd (letter_apart b bs e h)

  record_nameless : (x : Record) → IsRecordLine nodes x → Nameless record_line_text x
  record_nameless x w = record {
    line = line_of nodes few x;
    spelled = record_spelled nodes few x;
    whole = record_whole nodes few x w;
    none = λ es. no_name es (line_of nodes few x) (not_letter (line_of nodes few x) (record_own nodes few x w));
  }

  records_nameless : (xs : List Record) → AllByRecursion (IsRecordLine nodes) xs → AllByRecursion (Nameless record_line_text) xs
  records_nameless [] w = tt
  records_nameless (x ∷ xs) w = (record_nameless x w.0, records_nameless xs w.1)

-- ## What an actor holds at last
rows_read : (rows : List Row) → AllByRecursion IsRow rows → AllByRecursion (IsLineOf is_row (λ line. row_in (drop 2 line)) row_line_text) rows
rows_read [] w = tt
rows_read (r ∷ rows) w = (row_line r w.0, rows_read rows w.1)

place_line : ℕ → List ℕ
place_line position = codes "position" ++ numbers_text (position ∷ [])

place_whole : (position : ℕ) → IsWide position → Lacks 10 (place_line position)
unfolding place_line
place_whole position w = no_end (codes "position" ++ numbers_text (position ∷ [])) (tame_append (codes "position") (numbers_text (position ∷ [])) refl (tame_numbers (position ∷ []) (w, tt)))

space_spelled : (last : LastSpace) (after : List ℕ) → space_text last ++ after ≡ place_line last.position ++ 10 ∷ (rows_text last.rows ++ after)
unfolding space_text place_line
space_spelled last after =
    append_assoc (codes "position" ++ numbers_text (last.position ∷ []) ++ 10 ∷ []) (rows_text last.rows) after
    ∙ append_assoc (codes "position" ++ numbers_text (last.position ∷ [])) (10 ∷ []) (rows_text last.rows ++ after)

place_step : (position : ℕ) (ps : List (List ℕ)) → HasPiece ps → last_in (place_line position ∷ ps) ≡ held_from (place_line position ∷ ps) (number_in 0 (decimal position ++ [])) ps
unfolding last_in place_line numbers_text
place_step position [] h = absurd (let e = h.are in cc)
place_step position (m ∷ ps) h = refl

held_step : (here ps : List (List ℕ)) (position : ℕ) (rows : List Row) (left : List (List ℕ)) → IsWide position → rows_in ps ≡ Taken rows left
    → held_from here (number_in 0 (decimal position ++ [])) ps ≡ held position rows left
unfolding space_in
held_step here ps position rows left w e =
    ap (λ x. held_from here (number_in 0 x) ps) (append-nil (decimal position)) ∙ ap (λ o. held_from here o ps) (number_back position w)
    ∙ ap (λ f. then_ f (λ rows left. held position rows left)) e

next_step : (l : List ℕ) (ps : List (List ℕ)) → HasPiece ps → begins l (codes "position ") ≡ false → last_in (l ∷ ps) ≡ Taken None (l ∷ ps)
unfolding last_in
next_step l [] h e = absurd (let q = h.are in cc)
next_step l (m ∷ ps) h e = ap (λ b. if b then held_from (l ∷ m ∷ ps) (number_in 0 (drop 9 l)) (m ∷ ps) else Taken None (l ∷ m ∷ ps)) e

-- What an actor holds was taken, of which this is left.
pub record TakesLast (last : Option LastSpace) (after : List ℕ) : Type 0 where
  pub what : Option LastSpace
  pub are : last_in (pieces (last_text last ++ after)) ≡ Taken what (pieces after)
  pub same : last_text what ≡ last_text last

space_same : (position : ℕ) (rows others : List Row) → rows_text others ≡ rows_text rows
    → last_text (Some (record { position = position; rows = others })) ≡ last_text (Some (record { position = position; rows = rows }))
unfolding last_text space_text
space_same position rows others e = ap (λ (x : List ℕ). codes "position" ++ numbers_text (position ∷ []) ++ 10 ∷ [] ++ x) e

none_held : (after : List ℕ) → IsNext after → last_in (pieces (last_text None ++ after)) ≡ Taken None (pieces after)
unfolding last_text
none_held after n =
    let p : pieces after ≡ n.line ∷ pieces n.rest = first_piece after n.line n.rest n.spelled n.whole in
    ap last_in p ∙ next_step n.line (pieces n.rest) (has_piece n.rest) n.no_place ∙ ap (λ ps. Taken None ps) (sym p)

some_text : (last : LastSpace) (after : List ℕ) → last_text (Some last) ++ after ≡ place_line last.position ++ 10 ∷ (rows_text last.rows ++ after)
unfolding last_text
some_text last after = space_spelled last after

last_back : (last : Option LastSpace) (after : List ℕ) → IsNext after → IsHeld last → TakesLast last after
last_back None after n w = record { what = None; are = none_held after n; same = refl }
last_back (Some last) after n w =
    let stop = stops_at is_row (λ line. row_in (drop 2 line)) rule.RowLine after n.line n.rest n.spelled n.whole n.no_row in
    let rows = takes rows_in row_line_text last.rows after (lines_back is_row (λ line. row_in (drop 2 line)) rule.RowLine row_line_text last.rows after (rows_read last.rows w.1)) stop in
    let text = rows_text last.rows ++ after in
    let p : pieces (last_text (Some last) ++ after) ≡ place_line last.position ∷ pieces text =
    first_piece (last_text (Some last) ++ after) (place_line last.position) text (some_text last after) (place_whole last.position w.0) in
    record {
      what = Some (record { position = last.position; rows = rows.things });
      are =
          ap last_in p ∙ place_step last.position (pieces text) (has_piece text)
          ∙ held_step (place_line last.position ∷ pieces text) (pieces text) last.position rows.things (pieces after) w.0 rows.are;
      same = space_same last.position last.rows rows.things rows.same;
    }

place_letter : (position : ℕ) → is_of_record (place_line position) ≡ false
unfolding place_line
place_letter position = refl

place_none : (ends : List End) (position : ℕ) → with_name ends (place_line position) ≡ ends
unfolding place_line
place_none ends position = no_name ends (codes "position" ++ numbers_text (position ∷ [])) refl

row_nameless : (row : Row) → IsRow row → Nameless row_line_text row
row_nameless row w =
    let l = row_line row w in record { line = l.line; spelled = l.spelled; whole = l.whole; none = λ es. no_name es l.line (row_apart l.line l.own_line) }
  where
    not_actor : (b : ℕ) (bs : List ℕ) → is_row (b ∷ bs) ≡ true → tells_name (b ∷ bs) ≡ true → ⊥
    not_actor b bs r t =
        let one : b ∷ bs ≡ codes ". " ++ drop 2 (b ∷ bs) = (starts_is Decides-eqb (b ∷ bs) (codes ". ") (is_row (b ∷ bs)) refl).0 r in
        false≢true (sym (ap tells_name one) ∙ t)

    row_apart : (line : List ℕ) → is_row line ≡ true → tells_name line ≡ false
    row_apart [] r = refl
    row_apart (b ∷ bs) r = by (tells_name (b ∷ bs)) refl
      where
        by : (t : Bool) → tells_name (b ∷ bs) ≡ t → t ≡ false
        by false e = refl
        by true e = absurd (not_actor b bs r e)

rows_nameless : (rows : List Row) → AllByRecursion IsRow rows → AllByRecursion (Nameless row_line_text) rows
rows_nameless [] w = tt
rows_nameless (r ∷ rows) w = (row_nameless r w.0, rows_nameless rows w.1)

no_last : (es : List End) (after : List ℕ) → names_from es (pieces (last_text None ++ after)) ≡ names_from es (pieces after)
unfolding last_text
no_last es after = refl

last_names : (es : List End) (last : Option LastSpace) (after : List ℕ) → IsHeld last → names_from es (pieces (last_text last ++ after)) ≡ names_from es (pieces after)
last_names es None after w = no_last es after
last_names es (Some last) after w =
    names_step es (last_text (Some last) ++ after) (place_line last.position) (rows_text last.rows ++ after) (some_text last after) (place_whole last.position w.0)
    ∙ ap (λ x. names_from x (pieces (rows_text last.rows ++ after))) (place_none es last.position) ∙ names_over row_line_text last.rows es after (rows_nameless last.rows w.1)

-- ## Actors
-- a text of some lines isn't empty
no_text : (line rest : List ℕ) → [] ≡ (line ++ 10 ∷ []) ++ rest → ⊥
no_text [] rest e = cc
no_text (b ∷ bs) rest e = cc

all_named : (es : List End) → names_from es (pieces (codes "end\n")) ≡ es
unfolding names_from pieces
all_named es = no_name es (codes "end") refl

over : nothing_in (pieces []) ≡ Taken tt []
unfolding nothing_in pieces
over = refl

module _ (nodes : ℕ) (few : nodes ≤ most_nodes) where
  -- what an actor holds, or what comes next, ends its record
  last_stops : (last : Option LastSpace) (after : List ℕ) → IsHeld last → IsNext after → record_in nodes (pieces (last_text last ++ after)) ≡ Taken [] (pieces (last_text last ++ after))
  unfolding last_text
  last_stops None after w n = record_stops nodes few n.line n.rest after n.spelled n.whole n.letter
  last_stops (Some last) after w n =
      record_stops nodes few (place_line last.position) (rows_text last.rows ++ after) (space_text last ++ after) (space_spelled last after) (place_whole last.position w.0)
      (place_letter last.position)

  -- Actors were taken, of which this is left: their names are the same, and so is their text before
  -- any record of the operator's with the same text.
  pub record TakesActors (c : Callers) (ends : List End) (records : List (List Record)) (after : List ℕ) : Type 0 where
    pub took : List End
    pub told : List (List Record)
    pub are :
        actors_in nodes (bared ends) c (pieces (actors_text ends records ++ after))
        ≡ Taken (record { ends = c.ends ++ took; records = c.records ++ told }) (pieces (operator_text (drop (length ends) records) ++ after))
    pub names : names_of took ≡ names_of ends
    pub unchanged : told ≡ take (length ends) records
    pub same : (rs : List (List Record)) → operator_text rs ≡ operator_text (drop (length ends) records) → actors_text took (told ++ rs) ≡ actors_text ends records

  actor_step : (c : Callers) (name : List ℕ) (ps left end : List (List ℕ)) (lines : List Record) (last : Option LastSpace) → record_in nodes ps ≡ Taken lines left → last_in left ≡ Taken last end
      → actor_in nodes name c ps ≡ Taken (with_actor c name lines last) end
  unfolding actor_in
  actor_step c name ps left end lines last e f =
      ap (λ x. then_ x (λ lines left. then_ (last_in left) (λ last over. Taken (with_actor c name lines last) over))) e
      ∙ ap (λ x. then_ x (λ last over. Taken (with_actor c name lines last) over)) f

  actors_step : (c more : Callers) (name : List ℕ) (ends : List End) (ps rest left : List (List ℕ)) → name_in name ps ≡ Taken tt rest → actor_in nodes name c rest ≡ Taken more left
      → actors_in nodes (bared (record { name = name; last = None } ∷ ends)) c ps ≡ actors_in nodes (bared ends) more left
  unfolding actors_in
  actors_step c more name ends ps rest left e f =
      ap (λ x. then_ x (λ u rest. then_ (actor_in nodes name c rest) (λ more left. actors_in nodes (bared ends) more left))) e
      ∙ ap (λ x. then_ x (λ more left. actors_in nodes (bared ends) more left)) f

  name_own : (name : List ℕ) → is_name_line name (codes "actor " ++ name) ≡ true
  name_own name = (bytes_eq-Decides name name).1 refl

  name_whole : (name : List ℕ) → is_name name ≡ true → Lacks 10 (codes "actor " ++ name)
  name_whole name n = Lacks-append 10 (codes "actor ") name ((λ e. cc), ((λ e. cc), ((λ e. cc), ((λ e. cc), ((λ e. cc), ((λ e. cc), tt)))))) (name_lacks 10 refl name n)

  name_back : (name text rest : List ℕ) → Lacks 10 (codes "actor " ++ name) → text ≡ codes "actor " ++ name ++ 10 ∷ rest → name_in name (pieces text) ≡ Taken tt (pieces rest)
  name_back name text rest w e = line_taken (is_name_line name) rule.ActorLine text (codes "actor " ++ name) rest e w (name_own name)

  none_taken : (c : Callers) (records : List (List Record)) (after : List ℕ)
      → actors_in nodes [] c (pieces (actors_text [] records ++ after)) ≡ Taken (record { ends = c.ends ++ []; records = c.records ++ [] }) (pieces (operator_text records ++ after))
  unfolding actors_in actors_text
  none_taken c records after = λ i. Taken (record { ends = sym (append-nil c.ends) i; records = sym (append-nil c.records) i }) (pieces (operator_text records ++ after))

  none_same : (records rs : List (List Record)) → operator_text rs ≡ operator_text records → actors_text [] ([] ++ rs) ≡ actors_text [] records
  unfolding actors_text
  none_same records rs e = e

  more_same : (e f : End) (ends took : List End) (lines told : List Record) (records others : List (List Record)) → f.name ≡ e.name → last_text f.last ≡ last_text e.last
      → record_text told ≡ record_text lines
      → actors_text took others ≡ actors_text ends records → actors_text (f ∷ took) (told ∷ others) ≡ actors_text (e ∷ ends) (lines ∷ records)
  unfolding actors_text ended_text actor_text
  more_same e f ends took lines told records others a b c d = λ i. codes "actor " ++ a i ++ 10 ∷ [] ++ c i ++ b i ++ d i

  pub actors_back : (c : Callers) (ends : List End) (records : List (List Record)) → AreNamed ends → length ends < length records → AllByRecursion (λ (e : End). IsHeld e.last) ends
      → AllByRecursion (AllByRecursion (IsRecordLine nodes)) records → TakesActors c ends records (codes "end\n")
  unfolding record_read takes
  actors_back c [] records h l w v = record { took = []; told = []; are = none_taken c records (codes "end\n"); names = refl; unchanged = refl; same = λ rs e. none_same records rs e }
  actors_back c (e ∷ ends) [] h l w v = absurd (omega (arith, l))
  actors_back c (e ∷ ends) (lines ∷ records) h l w v =
      let rest = actors_text ends records ++ codes "end\n" in
      let next = actors_next ends records h.2 (omega (arith, l)) in
      let text = record_text lines ++ (last_text e.last ++ rest) in
      let own = record_read nodes few lines (last_text e.last ++ rest) v.0 (last_stops e.last rest w.0 next) in
      let last = last_back e.last rest next w.0 in
      let with = with_actor c e.name own.things last.what in
      let more = actors_back with ends records h.2 (omega (arith, l)) w.1 v.1 in
      record {
        took = record { name = e.name; last = last.what } ∷ more.took;
        told = own.things ∷ more.told;
        are =
            actors_step c with e.name ends (pieces (actors_text (e ∷ ends) (lines ∷ records) ++ codes "end\n")) (pieces text) (pieces rest)
            (name_back e.name (actors_text (e ∷ ends) (lines ∷ records) ++ codes "end\n") text (name_whole e.name h.0) (actors_spelled e ends lines records (codes "end\n")))
            (actor_step c e.name (pieces text) (pieces (last_text e.last ++ rest)) (pieces rest) own.things last.what own.are last.are)
            ∙ more.are
            ∙ (λ i. Taken (record {
              ends = append_assoc c.ends (record { name = e.name; last = last.what } ∷ []) more.took i;
              records = append_assoc c.records (own.things ∷ []) more.told i;
            }) (pieces (operator_text (drop (length ends) records) ++ codes "end\n")));
        names = ap (λ (ns : List (List ℕ)). e.name ∷ ns) more.names;
        unchanged = λ i. record_unchanged nodes few lines (last_text e.last ++ rest) v.0 i ∷ more.unchanged i;
        same = λ rs q. more_same e (record { name = e.name; last = last.what }) ends more.took lines own.things records (more.told ++ rs) refl last.same own.same (more.same rs q);
      }

  -- ## The operator, and the end
  -- What the operator did was taken, and then the end.
  pub record TakesOperator (c : Callers) (rs : List (List Record)) : Type 0 where
    pub lines : List Record
    pub are : operator_in nodes c (pieces (operator_text rs ++ codes "end\n")) ≡ Taken (with_record c lines) (pieces (codes "end\n"))
    pub same : operator_text (lines ∷ []) ≡ operator_text rs
    pub unchanged : length rs ≡ 1 → lines ∷ [] ≡ rs

  end_stops : record_in nodes (pieces (codes "end\n")) ≡ Taken [] (pieces (codes "end\n"))
  end_stops = record_stops nodes few (codes "end") [] (codes "end\n") refl ((λ e. cc), ((λ e. cc), ((λ e. cc), tt))) refl

  no_operator : (c : Callers) → operator_in nodes c (pieces (codes "end\n")) ≡ Taken (with_record c []) (pieces (codes "end\n"))
  unfolding operator_in
  no_operator c =
      ap (λ b. if b then then_ (name_in operator (pieces (codes "end\n"))) (λ u rest. then_ (record_in nodes rest) (λ lines left. Taken (with_record c lines) left)) else Taken
      (with_record c []) (pieces (codes "end\n")))
      (next_is tells_name (codes "end\n") (codes "end") [] refl ((λ e. cc), ((λ e. cc), ((λ e. cc), tt))))

  operator_step : (c : Callers) (ps rest left : List (List ℕ)) (lines : List Record) → is_name_next ps ≡ true → name_in operator ps ≡ Taken tt rest → record_in nodes rest ≡ Taken lines left
      → operator_in nodes c ps ≡ Taken (with_record c lines) left
  unfolding operator_in
  operator_step c ps rest left lines n e f =
      ap (λ b. if b then then_ (name_in operator ps) (λ u rest. then_ (record_in nodes rest) (λ lines left. Taken (with_record c lines) left)) else Taken (with_record c []) ps) n
      ∙ ap (λ x. then_ x (λ u rest. then_ (record_in nodes rest) (λ lines left. Taken (with_record c lines) left))) e
      ∙ ap (λ x. then_ x (λ lines left. Taken (with_record c lines) left)) f

  operator_whole : Lacks 10 (codes "actor " ++ operator)
  operator_whole = ((λ e. cc), ((λ e. cc), ((λ e. cc), ((λ e. cc), ((λ e. cc), ((λ e. cc), ((λ e. cc), ((λ e. cc), ((λ e. cc), tt)))))))))

  -- lines with this text are some, where these are
  some_lines : (x : Record) (xs ys : List Record) → record_text ys ≡ record_text (x ∷ xs) → operator_text (ys ∷ []) ≡ operator_text ((x ∷ xs) ∷ [])
  unfolding operator_text actor_text record_line_text
  some_lines x xs (y ∷ ys) e = ap (λ (t : List ℕ). codes "actor " ++ operator ++ 10 ∷ [] ++ t) e
  some_lines (record_.Call node r t) xs [] e = absurd (no_text (decimal node ++ 32 ∷ request_text r ++ arrow ++ heard_text t) (record_text xs) e)
  some_lines (record_.Late node r) xs [] e = absurd (no_text (decimal node ++ codes " late " ++ request_text r ++ codes " -> gone") (record_text xs) e)
  some_lines (record_.Operator node q done) xs [] e = absurd (no_text (decimal node ++ 32 ∷ ask_text q ++ arrow ++ done_text done) (record_text xs) e)
  some_lines (record_.Outcome text) xs [] e = absurd (no_text (codes "= " ++ text) (record_text xs) e)

  first_only : (lines : List Record) (rs : List (List Record)) → operator_text (lines ∷ []) ≡ operator_text (lines ∷ rs)
  unfolding operator_text
  first_only [] rs = refl
  first_only (x ∷ xs) rs = refl

  operator_spelled : (x : Record) (xs : List Record) (rs : List (List Record)) (after : List ℕ)
      → operator_text ((x ∷ xs) ∷ rs) ++ after ≡ codes "actor " ++ operator ++ 10 ∷ (record_text (x ∷ xs) ++ after)
  unfolding operator_text
  operator_spelled x xs rs after = actor_spelled operator (x ∷ xs) after

  no_text_operator : (c : Callers) (rs : List (List Record)) → operator_text rs ≡ []
      → operator_in nodes c (pieces (operator_text rs ++ codes "end\n")) ≡ Taken (with_record c []) (pieces (codes "end\n"))
  no_text_operator c rs e = ap (λ (t : List ℕ). operator_in nodes c (pieces (t ++ codes "end\n"))) e ∙ no_operator c

  none_text : operator_text ([] ∷ []) ≡ []
  unfolding operator_text
  none_text = refl

  no_more : (rs : List (List Record)) → suc (length rs) ≡ 1 → [] ≡ rs
  no_more [] e = refl
  no_more (r ∷ rs) e = absurd (omega (arith, e))

  pub operator_back : (c : Callers) (rs : List (List Record)) → AllByRecursion (AllByRecursion (IsRecordLine nodes)) rs → TakesOperator c rs
  unfolding record_read takes
  operator_back c [] v = record { lines = []; are = no_text_operator c [] no_rs; same = none_text ∙ sym no_rs; unchanged = λ e. absurd (omega (arith, e)) }
  operator_back c ([] ∷ rs) v = record {
    lines = [];
    are = no_text_operator c ([] ∷ rs) (nil_text rs);
    same = none_text ∙ sym (nil_text rs);
    unchanged = λ e. ap (λ (others : List (List Record)). [] ∷ others) (no_more rs e);
  }
  operator_back c ((x ∷ xs) ∷ rs) v =
      let text = operator_text ((x ∷ xs) ∷ rs) ++ codes "end\n" in
      let rest = record_text (x ∷ xs) ++ codes "end\n" in
      let own = record_read nodes few (x ∷ xs) (codes "end\n") v.0 end_stops in
      let spelled = operator_spelled x xs rs (codes "end\n") in
      record {
        lines = own.things;
        are =
            operator_step c (pieces text) (pieces rest) (pieces (codes "end\n")) own.things (next_is tells_name text (codes "actor " ++ operator) rest spelled operator_whole)
            (name_back operator text rest operator_whole spelled) own.are;
        same = some_lines x xs own.things own.same ∙ first_only (x ∷ xs) rs;
        unchanged = λ e. λ i. record_unchanged nodes few (x ∷ xs) (codes "end\n") v.0 i ∷ no_more rs e i;
      }

  pub end_back : end_in (pieces (codes "end\n")) ≡ Taken tt []
  unfolding end_in nothing_in
  end_back = ap (λ x. then_ x (λ u rest. nothing_in rest)) (line_taken is_end_line rule.LastLine (codes "end\n") (codes "end") [] refl ((λ e. cc), ((λ e. cc), ((λ e. cc), tt))) refl) ∙ over

  -- ## The names
  -- no line of a record tells a name, and the operator's doesn't either
  operator_names : (es : List End) (rs : List (List Record)) → AllByRecursion (AllByRecursion (IsRecordLine nodes)) rs → names_from es (pieces (operator_text rs ++ codes "end\n")) ≡ es
  operator_names es [] v = ap (λ (t : List ℕ). names_from es (pieces (t ++ codes "end\n"))) no_rs ∙ all_named es
  operator_names es ([] ∷ rs) v = ap (λ (t : List ℕ). names_from es (pieces (t ++ codes "end\n"))) (nil_text rs) ∙ all_named es
  operator_names es ((x ∷ xs) ∷ rs) v =
      names_step es (operator_text ((x ∷ xs) ∷ rs) ++ codes "end\n") (codes "actor " ++ operator) (record_text (x ∷ xs) ++ codes "end\n") (operator_spelled x xs rs (codes "end\n")) operator_whole
      ∙ ap (λ y. names_from y (pieces (record_text (x ∷ xs) ++ codes "end\n"))) (operator_nameless es)
      ∙ names_over record_line_text (x ∷ xs) es (codes "end\n") (records_nameless nodes few (x ∷ xs) v.0) ∙ all_named es

  no_actor_names : (es : List End) (rs : List (List Record)) → names_from es (pieces (actors_text [] rs ++ codes "end\n")) ≡ names_from es (pieces (operator_text rs ++ codes "end\n"))
  unfolding actors_text
  no_actor_names es rs = refl

  others_free : (es : List End) (name : List ℕ) (ends : List End) → AllByRecursion (λ (e : End). Free es e.name) ends → AllByRecursion (λ (other : End). other.name ≢ name) ends
      → AllByRecursion (λ (e : End). Free (es ++ bare name ∷ []) e.name) ends
  others_free es name [] f h = tt
  others_free es name (e ∷ ends) f h = (free_more es name e.name f.0 (λ q. h.0 (sym q)), others_free es name ends f.1 h.1)

  pub actors_names : (es ends : List End) (records : List (List Record)) → AreNamed ends → length ends < length records → AllByRecursion (λ (e : End). IsHeld e.last) ends
      → AllByRecursion (AllByRecursion (IsRecordLine nodes)) records → AllByRecursion (λ (e : End). Free es e.name) ends → length es + length ends ≤ 8
      → names_from es (pieces (actors_text ends records ++ codes "end\n")) ≡ es ++ bared ends
  actors_names es [] records h l w v f m = no_actor_names es records ∙ operator_names es records v ∙ sym (append-nil es)
  actors_names es (e ∷ ends) [] h l w v f m = absurd (omega (arith, l))
  actors_names es (e ∷ ends) (lines ∷ records) h l w v f m =
      let rest = actors_text ends records ++ codes "end\n" in
      let text = record_text lines ++ (last_text e.last ++ rest) in
      let more = es ++ bare e.name ∷ [] in
      let size : length more ≡ length es + 1 = length-append es (bare e.name ∷ []) in
      names_step es (actors_text (e ∷ ends) (lines ∷ records) ++ codes "end\n") (codes "actor " ++ e.name) text (actors_spelled e ends lines records (codes "end\n")) (name_whole e.name h.0)
      ∙ ap (λ y. names_from y (pieces text)) (name_pushed es e.name (omega (arith, m)) h.0 f.0)
      ∙ names_over record_line_text lines more (last_text e.last ++ rest) (records_nameless nodes few lines v.0) ∙ last_names more e.last rest w.0
      ∙ actors_names more ends records h.2 (omega (arith, l)) w.1 v.1 (others_free es e.name ends f.1 h.1) (omega (arith, size, m))
      ∙ append_assoc es (bare e.name ∷ []) (bared ends)
