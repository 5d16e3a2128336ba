-- Each report of lists within the limits is read as lists with that text.
use Rattle.std.proofs.Common.{ℕ, zero, suc, ◌≡◌, ◌≢◌, ◌<◌, ◌≤◌, ◌+◌, ◌-◌, ◌^◌, List, [], ◌∷◌, ◌++◌, Bool, true, false, Some, None, length, drop, refl, sym, ap, subst, ◌∙◌, arith, inl}
use Rattle.std.proofs.Common.{append-nil, append_assoc, decimal}
use Rattle.std.proofs.lemmas.List.{length-drop, take-append-drop}
use Rattle.std.specs.Prelude.{codes, slice_get, unwrap_or, if◌then◌else◌}
use Rattle.std.specs.List.{AllByRecursion}
use Rattle.std.specs.Str.{bytes_eq}
use Rattle.std.proofs.lemmas.Slice.Eq.{bytes_eq-Decides}
use Rattle.journal_core.specs.Nodes.{most_nodes}
use Rattle.journal_text.specs.Texts.{numbers_text}
use Rattle.journal_history.specs.declared.history_line.HistoryLine.{HistoryLine}
use Rattle.journal_history.specs.declared.record.Record.{Record}
use Rattle.ns_tree.specs.declared.end.End.{End}
use Rattle.mesh.specs.declared.whole.Mesh.{Mesh}
use Rattle.mesh.specs.Agree.{operator_of}
use Rattle.play_script.specs.Lines.{Lacks}
use Rattle.play_report.specs.Text.{operator, caller_name, arrow, ask_text, answer_text, history_line_text, history_text, node_text, nodes_text, operator_text, actors_text, text_of}
use Rattle.report_judge.specs.declared.rules.Rule.{Rule}
use Rattle.report_judge.specs.declared.unread.Unread.{Unread}
use Rattle.report_judge.specs.declared.unread.Unread.TheVariants as unread
use Rattle.report_judge.specs.declared.actors.Callers.{Callers}
use Rattle.report_judge.specs.declared.answer.Lists.{Lists}
use Rattle.report_judge.specs.Pieces.{pieces, Front, Taken, Broken, then_, IsBroken, Stops}
use Rattle.report_judge.specs.Reading.{number_within, nodes_in, actors_in, operator_in, end_in, no_callers, callers_in, with_record, names_from, first_by, first_in, ListsView, read_as, lists_with}
use Rattle.report_judge.specs.Reading.{lists_in, shown, printed, read_back, lists_of}
use Rattle.report_judge.specs.Reads.{IsMarkedIfAny, IsReadAs}
use Rattle.report_judge.specs.Written.{IsRecordLine, AreWritten, NoReport}
use Rattle.report_judge.specs.Complete.{bared, SpellsOtherwise, IsUnread}
use Rattle.report_judge.proofs.PieceLaws.{first_piece, has_piece, HasPiece}
use Rattle.report_judge.proofs.Tame.{tame_append, no_end, tame_numbers}
use Rattle.report_judge.proofs.LineBack.{within_back}
use Rattle.report_judge.proofs.NameBack.{names_of, caller_by, Free}
use Rattle.report_judge.proofs.PartBack.{actors_next, nodes_back, nodes_names, actors_back, operator_back, end_back, actors_names}

-- ## The first line
abbrev first_line : ℕ → List ℕ
first_line n = codes "nodes" ++ numbers_text (n ∷ [])

first_whole : (n : ℕ) → n ≤ most_nodes → Lacks 10 (first_line n)
first_whole n few = no_end (first_line n) (tame_append (codes "nodes") (numbers_text (n ∷ [])) refl (tame_numbers (n ∷ []) (omega (arith, few), tt)))

first_step : (n : ℕ) (ps : List (List ℕ)) → HasPiece ps → first_in (first_line n ∷ ps) ≡ first_by (first_line n ∷ ps) (number_within 1 most_nodes (decimal n ++ [])) ps
unfolding first_in numbers_text
first_step n [] h = absurd (let e = h.are in cc)
first_step n (m ∷ ps) h = refl

first_back : (n : ℕ) (text rest : List ℕ) → 1 ≤ n → n ≤ most_nodes → text ≡ first_line n ++ 10 ∷ rest → first_in (pieces text) ≡ Taken n (pieces rest)
first_back n text rest some few e =
    ap first_in (first_piece text (first_line n) rest e (first_whole n few)) ∙ first_step n (pieces rest) (has_piece rest)
    ∙ ap (λ x. first_by (first_line n ∷ pieces rest) (number_within 1 most_nodes x) (pieces rest)) (append-nil (decimal n))
    ∙ ap (λ o. first_by (first_line n ∷ pieces rest) o (pieces rest)) (within_back 1 most_nodes n (omega (arith, few)) some few)

text_spelled : (m : Mesh) (ends : List End) → text_of m ends ≡ first_line m.nodes ++ 10 ∷ (nodes_text ends 1 m.histories ++ (actors_text ends m.records ++ codes "end\n"))
unfolding text_of
text_spelled m ends =
    append_assoc (first_line m.nodes ++ 10 ∷ [] ++ nodes_text ends 1 m.histories) (actors_text ends m.records) (codes "end\n")
    ∙ append_assoc (first_line m.nodes ++ 10 ∷ []) (nodes_text ends 1 m.histories) (actors_text ends m.records ++ codes "end\n")
    ∙ append_assoc (first_line m.nodes) (10 ∷ []) (nodes_text ends 1 m.histories ++ (actors_text ends m.records ++ codes "end\n"))

-- ## The same names tell the same histories
caller_same : (ends took : List End) (k : ℕ) → names_of took ≡ names_of ends → caller_name took k ≡ caller_name ends k
caller_same ends took k e = caller_by took k ∙ ap (λ ns. unwrap_or (slice_get ns k) operator) e ∙ sym (caller_by ends k)

line_same : (ends took : List End) (h : HistoryLine) → names_of took ≡ names_of ends → history_line_text took h ≡ history_line_text ends h
unfolding history_line_text
line_same ends took h e = ap (λ (n : List ℕ). n ++ 32 ∷ ask_text h.ask ++ arrow ++ answer_text h.answer ++ 10 ∷ []) (caller_same ends took h.caller e)

history_same : (ends took : List End) (hs : List HistoryLine) → names_of took ≡ names_of ends → history_text took hs ≡ history_text ends hs
history_same ends took [] e = refl
history_same ends took (h ∷ hs) e = λ i. line_same ends took h e i ++ history_same ends took hs e i

nodes_same : (ends took : List End) (node : ℕ) (hs : List (List HistoryLine)) → names_of took ≡ names_of ends → nodes_text took node hs ≡ nodes_text ends node hs
unfolding nodes_text node_text
nodes_same ends took node [] e = refl
nodes_same ends took node (h ∷ hs) e = λ i. codes "node" ++ numbers_text (node ∷ []) ++ 10 ∷ [] ++ history_same ends took h e i ++ nodes_same ends took (node + 1) hs e i

-- ## The whole
-- Lists were read of the text of these, and have it; but for what actors hold they are the same.
pub record ReadsAs (lists : Lists) : Type 0 where
  pub view : ListsView
  pub are : lists_in (pieces (text_of lists.mesh lists.ends)) ≡ Taken view []
  pub named : then_ (first_in (pieces (text_of lists.mesh lists.ends))) (λ nodes rest. lists_with nodes (bared lists.ends) rest) ≡ Taken view []
  pub same : printed view ≡ text_of lists.mesh lists.ends
  pub nodes : view.nodes ≡ lists.mesh.nodes
  pub histories : view.histories ≡ lists.mesh.histories
  pub records : length lists.mesh.records ≡ length lists.ends + 1 → view.callers.records ≡ lists.mesh.records

callers_step : (n : ℕ) (names : List End) (ps rest left : List (List ℕ)) (actors all : Callers) → actors_in n names no_callers ps ≡ Taken actors rest → operator_in n actors rest ≡ Taken all left
    → end_in left ≡ Taken tt [] → callers_in n names no_callers ps ≡ Taken all []
unfolding callers_in
callers_step n names ps rest left actors all e f g =
    ap (λ x. then_ x (λ actors rest. then_ (operator_in n actors rest) (λ all left. then_ (end_in left) (λ u over. Taken all over)))) e
    ∙ ap (λ x. then_ x (λ all left. then_ (end_in left) (λ u over. Taken all over))) f ∙ ap (λ x. then_ x (λ u over. Taken all over)) g

with_step : (n : ℕ) (ps rest left : List (List ℕ)) (names : List End) (histories : List (List HistoryLine)) (callers : Callers) → first_in ps ≡ Taken n rest
    → nodes_in names n 1 [] rest ≡ Taken histories left → callers_in n names no_callers left ≡ Taken callers []
    → then_ (first_in ps) (λ nodes rest. lists_with nodes names rest) ≡ Taken (read_as n histories callers) []
with_step n ps rest left names histories callers e f g =
    ap (λ x. then_ x (λ nodes rest. lists_with nodes names rest)) e
    ∙ ap (λ x. then_ x (λ histories left. then_ (callers_in n names no_callers left) (λ callers over. Taken (read_as n histories callers) over))) f
    ∙ ap (λ x. then_ x (λ callers over. Taken (read_as n histories callers) over)) g

lists_step : (n : ℕ) (ps rest : List (List ℕ)) (names : List End) (view : ListsView) → first_in ps ≡ Taken n rest → names_from [] rest ≡ names
    → then_ (first_in ps) (λ nodes rest. lists_with nodes names rest) ≡ Taken view [] → lists_in ps ≡ Taken view []
unfolding lists_in
lists_step n ps rest names view e named f =
    ap (λ x. then_ x (λ nodes rest. lists_with nodes (names_from [] rest) rest)) e ∙ ap (λ es. lists_with n es rest) named
    ∙ sym (ap (λ x. then_ x (λ nodes rest. lists_with nodes names rest)) e) ∙ f

all_drop : {X : Type 0} (P : X → Type 0) (n : ℕ) (xs : List X) → AllByRecursion P xs → AllByRecursion P (drop n xs)
all_drop P zero xs h = h
all_drop P (suc n) [] h = h
all_drop P (suc n) (x ∷ xs) h = all_drop P n xs h.1

none_free : (ends : List End) → AllByRecursion (λ (e : End). Free [] e.name) ends
none_free [] = tt
none_free (e ∷ ends) = (tt, none_free ends)

same_text : (n : ℕ) (ends took : List End) (hs histories : List (List HistoryLine)) (records told : List (List Record)) (m : Mesh) → m.nodes ≡ n → m.histories ≡ hs → m.records ≡ records
    → nodes_text took 1 histories ≡ nodes_text ends 1 hs → actors_text took told ≡ actors_text ends records
    → printed (record { nodes = n; histories = histories; callers = record { ends = took; records = told } }) ≡ text_of m ends
unfolding text_of
same_text n ends took hs histories records told m a b c d e =
    λ i. codes "nodes" ++ numbers_text (sym a i ∷ []) ++ 10 ∷ [] ++ (d ∙ ap (nodes_text ends 1) (sym b)) i ++ (e ∙ ap (actors_text ends) (sym c)) i ++ codes "end\n"

pub lists_back : (lists : Lists) → AreWritten lists → ReadsAs lists
lists_back lists w =
    let m = lists.mesh in
    let ends = lists.ends in
    let few = w.permitted.1 in
    let tail = actors_text ends m.records ++ codes "end\n" in
    let rest = nodes_text ends 1 m.histories ++ tail in
    let many = w.histories in
    let actors = w.actors in
    let low : 1 + length m.histories < 2 ^ 64 = omega (arith, many, few) in
    let named : names_from [] (pieces rest) ≡ bared ends =
    nodes_names ends w.named [] 1 m.histories tail low w.history_lines
    ∙ actors_names m.nodes w.permitted.1 [] ends m.records w.named w.records w.held w.record_lines (none_free ends) (omega (arith, actors)) in
    let nodes = nodes_back ends w.named 1 [] m.histories tail (actors_next ends m.records w.named w.records) low w.history_lines in
    let took = actors_back m.nodes w.permitted.1 no_callers ends m.records w.named w.records w.held w.record_lines in
    let with : Callers = record { ends = took.took; records = took.told } in
    let last = operator_back m.nodes w.permitted.1 with (drop (length ends) m.records) (all_drop (AllByRecursion (IsRecordLine m.nodes)) (length ends) m.records w.record_lines) in
    let first = first_back m.nodes (text_of m ends) rest w.permitted.0 w.permitted.1 (text_spelled m ends) in
    let view = read_as m.nodes nodes.histories (with_record with last.lines) in
    let all =
    with_step m.nodes (pieces (text_of m ends)) (pieces rest) (pieces tail) (bared ends) nodes.histories (with_record with last.lines) first
    (ap (λ n. nodes_in (bared ends) n 1 [] (pieces rest)) (sym w.histories) ∙ nodes.are)
    (callers_step m.nodes (bared ends) (pieces tail) (pieces (operator_text (drop (length ends) m.records) ++ codes "end\n")) (pieces (codes "end\n")) with (with_record with last.lines)
    took.are last.are (end_back m.nodes w.permitted.1)) in
    record {
      view = view;
      are = lists_step m.nodes (pieces (text_of m ends)) (pieces rest) (bared ends) view first named all;
      named = all;
      same =
          same_text m.nodes ends took.took m.histories nodes.histories m.records (took.told ++ last.lines ∷ []) m refl refl refl
          (nodes_same ends took.took 1 nodes.histories took.names ∙ nodes.same) (took.same (last.lines ∷ []) last.same);
      nodes = refl;
      histories = nodes.unchanged;
      records = λ one.
          (λ i. took.unchanged i ++ last.unchanged (let all = length-drop (length ends) m.records in omega (arith, all, one)) i) ∙ take-append-drop (length ends) m.records;
    }

-- ## What is no report
of_by : (bytes : List ℕ) (f : Front ListsView) → lists_in (pieces bytes) ≡ f → lists_of bytes ≡ read_back bytes f
unfolding lists_of
of_by bytes f e = ap (read_back bytes) e

none_broken : (bytes : List ℕ) (f : Front ListsView) (left : ℕ) (rule : Rule) → IsBroken f left rule → read_back bytes f ≡ None
none_broken bytes (Taken view ps) left rule h = absurd h
none_broken bytes (Broken ps r) left rule h = refl

pub no_report_stopped : (bytes : List ℕ) (e : Unread) → Stops (lists_in (pieces bytes)) e → (left : ℕ) (rule : Rule) → e ≡ unread.Bad left rule → NoReport bytes
no_report_stopped bytes e h left rule is =
    let broken : IsBroken (lists_in (pieces bytes)) left rule = subst (Stops (lists_in (pieces bytes))) is h in
    record {
      none = of_by bytes (lists_in (pieces bytes)) refl ∙ none_broken bytes (lists_in (pieces bytes)) left rule broken;
      of_none = λ lists w of. subst (λ f. IsBroken f left rule) (ap (λ t. lists_in (pieces t)) of ∙ (lists_back lists w).are) broken;
    }

shown_printed : (lists : Lists) → printed (shown lists) ≡ text_of lists.mesh lists.ends
unfolding text_of
shown_printed lists = refl

abbrev what_of : Front ListsView → ListsView → ListsView
what_of (Taken v left) other = v
what_of (Broken left r) other = other

other_text : (bytes text : List ℕ) → bytes ≢ text → bytes_eq bytes text ≡ false
other_text bytes text apart = by (bytes_eq bytes text) refl
  where
    by : (b : Bool) → bytes_eq bytes text ≡ b → b ≡ false
    by false e = refl
    by true e = absurd (apart ((bytes_eq-Decides bytes text).0 e))

pub no_report_parted : (bytes : List ℕ) (read : Lists) → lists_in (pieces bytes) ≡ Taken (shown read) [] → bytes ≢ text_of read.mesh read.ends → NoReport bytes
no_report_parted bytes read is apart = record {
  none =
      of_by bytes (Taken (shown read) []) is
      ∙ ap (λ (b : Bool). if b then Some (shown read) else None) (other_text bytes (printed (shown read)) (λ e. apart (e ∙ shown_printed read)));
  of_none = λ lists w of.
      let r = lists_back lists w in
      let same : shown read ≡ r.view = ap (λ f. what_of f (shown read)) (sym is ∙ ap (λ t. lists_in (pieces t)) of ∙ r.are) in
      apart (of ∙ sym r.same ∙ ap printed (sym same) ∙ shown_printed read);
}

-- what is read are the lists in the bytes
pub read_as_is : (bytes : List ℕ) (read : Lists) → lists_in (pieces bytes) ≡ Taken (shown read) [] → bytes ≡ text_of read.mesh read.ends
    → length read.mesh.plan ≡ length read.mesh.records - 1 → ((c : ℕ) → c < operator_of read.mesh → IsMarkedIfAny read.mesh c) → IsReadAs bytes read
read_as_is bytes read is of sized marked = record {
  is_report = of;
  are =
      of_by bytes (Taken (shown read) []) is
      ∙ ap (λ (b : Bool). if b then Some (shown read) else None) ((bytes_eq-Decides bytes (printed (shown read))).1 (of ∙ sym (shown_printed read)));
  sized = sized;
  marked = marked;
}

-- those of a report of lists within the limits are these, but for their marks and what actors hold
pub written_back : (lists : Lists) → AreWritten lists → length lists.mesh.records ≡ length lists.ends + 1
    → (ends : List End) × (lists_of (text_of lists.mesh lists.ends) ≡ Some (shown (record { mesh = lists.mesh; ends = ends })))
written_back lists w one =
    let back = lists_back lists w in
    let text = text_of lists.mesh lists.ends in (
      back.view.callers.ends,
      of_by text (Taken back.view []) back.are
          ∙ ap (λ (b : Bool). if b then Some back.view else None) ((bytes_eq-Decides text (printed back.view)).1 (sym back.same))
          ∙ (λ i. Some (record { nodes = back.nodes i; histories = back.histories i; callers = record { ends = back.view.callers.ends; records = back.records one i } })),
    )

pub spelled_otherwise : (bytes : List ℕ) (read : Lists) → lists_in (pieces bytes) ≡ Taken (shown read) [] → bytes ≢ text_of read.mesh read.ends → SpellsOtherwise bytes
spelled_otherwise bytes read is apart = record { view = shown read; is_read = is; apart = λ e. apart (e ∙ shown_printed read) }

-- where reading stopped
pub stopped_unread : (bytes : List ℕ) (e : Unread) → Stops (lists_in (pieces bytes)) e → IsUnread bytes e
stopped_unread bytes (unread.Bad left rule) h = (no_report_stopped bytes (unread.Bad left rule) h left rule refl, inl h)
stopped_unread bytes unread.OutOfMemory h = tt

pub ruleset unreads = (stopped_unread, read_as_is)
