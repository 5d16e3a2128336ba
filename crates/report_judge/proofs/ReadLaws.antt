-- The reader goes by the definition of what the lines say.
use Rattle.std.proofs.Common.{ℕ, suc, ◌≡◌, ◌<◌, ◌≤◌, ◌+◌, ◌-◌, ◌^◌, ◌&&◌, List, [], ◌∷◌, ◌++◌, Bool, true, false, Option, Some, None, Result, Ok, Err, Bor, length, drop, get_or, refl}
use Rattle.std.proofs.Common.{sym, ap, subst, ◌∙◌, arith, if◌then◌else◌}
use Rattle.std.specs.Prelude.{codes, MatchOption, IfOk, IfErr, is_some}
use Rattle.std.specs.Str.Parse.{digits_value}
use Rattle.std.proofs.lemmas.List.{drop_more, drop_all}
use Rattle.journal_core.specs.Nodes.{most_nodes}
use Rattle.base_words.specs.WordNumbers.{is_number, Tells}
use Rattle.base_words.proofs.NumberLaws.{value_of_decimal}
use Rattle.journal_text.specs.Reading.{number_in}
use Rattle.journal_history.specs.declared.history_line.HistoryLine.{HistoryLine}
use Rattle.journal_history.specs.declared.record.Record.{Record}
use Rattle.ns_tree.specs.declared.inode.Row.{Row}
use Rattle.ns_tree.specs.declared.end.LastSpace.{LastSpace}
use Rattle.ns_tree.specs.declared.end.End.{End}
use Rattle.play_script.specs.Lines.{Lacks}
use Rattle.play_report.specs.Summary.{begins}
use Rattle.play_report.specs.Text.{operator}
use Rattle.report_judge.specs.declared.rules.Rule.{Rule}
use Rattle.report_judge.specs.declared.rules.Rule.TheVariants as rule
use Rattle.report_judge.specs.declared.unread.Unread.{Unread}
use Rattle.report_judge.specs.declared.unread.Unread.TheVariants as unread
use Rattle.report_judge.specs.declared.actors.Callers.{Callers}
use Rattle.report_judge.specs.Pieces.{pieces, joined, Front, Taken, Broken, line_if, lines_while, behind, then_, IsBroken, Stops}
use Rattle.report_judge.specs.Reading.{number_within, history_in, header_in, nodes_in, rows_in, held, space_in, held_from, last_in, record_in, name_in, tells_name, with_actor, actor_in, actors_in}
use Rattle.report_judge.specs.Callers.{bare}
use Rattle.report_judge.specs.Reading.{is_name_next, with_record, operator_in, is_end_line, nothing_in, end_in, no_callers, callers_in, may_follow, with_name, names_from, first_by, first_in}
use Rattle.report_judge.specs.Reading.{read_as, lists_with, lists_in}
use Rattle.report_judge.proofs.PieceLaws.{first_piece, only_piece, joined_pieces, has_piece, HasPiece, line_taken, refused_here, missed_here, next_is, next_none, stops_at, stops_short, is_broken}
use Rattle.report_judge.proofs.PieceLaws.{goes_on, broken_here, stops_then, stops_after, stops_at_all, broken_list, none_before, taken_list}
use Rattle.report_judge.proofs.NameBack.{names_step, no_name}

-- ## Numbers
within_by : (least most : ℕ) (w : List ℕ) (n : ℕ) → n < 2 ^ 64 → Tells least most w n → Some n ≡ number_within least most w
within_by least most w n l t =
    sym (ap (λ b. if b then Some (digits_value 10 w) else None) t.0 ∙ ap (λ k. Some k) (ap (digits_value 10) (sym t.1) ∙ value_of_decimal n l))

pub told_within : (least most : ℕ) (w : List ℕ) (r : Option ℕ) → most < 2 ^ 64 → MatchOption r (is_number least most w ≡ false) (Tells least most w) → r ≡ number_within least most w
told_within least most w None l h = sym (ap (λ b. if b then Some (digits_value 10 w) else None) h)
told_within least most w (Some n) l h = let high = h.3 in within_by least most w n (omega (arith, high, l)) h

pub told_number : (least most : ℕ) (w : List ℕ) (r : Option ℕ) → MatchOption r (is_number least most w ≡ false) (Tells least most w) → is_some r ≡ is_number least most w
told_number least most w None h = sym h
told_number least most w (Some n) h = sym h.0

pub ruleset numbers = (told_within, told_number)

-- ## A line
pub refused_stops : (own : List ℕ → Bool) (rule : Rule) (text line rest : List ℕ) (e : Unread) → text ≡ line ++ 10 ∷ rest → Lacks 10 line → own line ≡ false → e ≡ unread.Bad (length text) rule
    → Stops (line_if own rule (pieces text)) e
refused_stops own rule text line rest e s l o is = subst (Stops (line_if own rule (pieces text))) (sym is) (refused_here own rule text line rest s l o)

pub missed_stops : (own : List ℕ → Bool) (rule : Rule) (text : List ℕ) (e : Unread) → Lacks 10 text → e ≡ unread.Bad (length text) rule → Stops (line_if own rule (pieces text)) e
missed_stops own rule text e l is = subst (Stops (line_if own rule (pieces text))) (sym is) (missed_here own rule text l)

pub ruleset lines = (line_taken, refused_stops, missed_stops)

pub ruleset nexts = (next_is, next_none)

-- ## Lists of lines
pub list_more :
    {X : Type 0} (own : List ℕ → Bool) (read : List ℕ → Option X) (rule : Rule) (done new : List X) (all : Front (List X)) (text line rest : List ℕ) (x : X)
    → behind done (lines_while own read rule (pieces text)) ≡ all → text ≡ line ++ 10 ∷ rest → Lacks 10 line → own line ≡ true → Some x ≡ read line → new ≡ done ++ x ∷ []
    → behind new (lines_while own read rule (pieces rest)) ≡ all
list_more own read rule done new all text line rest x h e l o r n =
    ap (λ d. behind d (lines_while own read rule (pieces rest))) n ∙ sym (goes_on own read rule done text line rest x e l o (sym r)) ∙ h

pub list_stops :
    {X : Type 0} (own : List ℕ → Bool) (read : List ℕ → Option X) (rule : Rule) (done before : List X) (all : Front (List X)) (text line rest : List ℕ)
    → behind done (lines_while own read rule (pieces text)) ≡ behind before all → text ≡ line ++ 10 ∷ rest → Lacks 10 line → own line ≡ false → behind before all ≡ Taken done (pieces text)
list_stops own read rule done before all text line rest h e l o = taken_list done before (lines_while own read rule (pieces text)) all (pieces text) h (stops_at own read rule text line rest e l o)

pub list_over :
    {X : Type 0} (own : List ℕ → Bool) (read : List ℕ → Option X) (rule : Rule) (done before : List X) (all : Front (List X)) (text : List ℕ)
    → behind done (lines_while own read rule (pieces text)) ≡ behind before all → Lacks 10 text → behind before all ≡ Taken done (pieces text)
list_over own read rule done before all text h l = taken_list done before (lines_while own read rule (pieces text)) all (pieces text) h (stops_short own read rule text l)

pub list_broken :
    {X : Type 0} (own : List ℕ → Bool) (read : List ℕ → Option X) (rule : Rule) (done before : List X) (all : Front (List X)) (text line rest : List ℕ) (e : Unread)
    → behind done (lines_while own read rule (pieces text)) ≡ behind before all → text ≡ line ++ 10 ∷ rest → Lacks 10 line → own line ≡ true → None ≡ read line
    → e ≡ unread.Bad (length text) rule → Stops all e
list_broken own read rule done before all text line rest e h s l o r is =
    subst (Stops all) (sym is) (broken_list done before (lines_while own read rule (pieces text)) all text rule h (is_broken own read rule text line rest s l o (sym r)))

pub memory_stops : {A : Type 0} (f : Front A) (e : Unread) → e ≡ unread.OutOfMemory → Stops f e
memory_stops f e is = subst (Stops f) (sym is) (tt)

pub ruleset histories = (list_more, list_stops, list_over, list_broken, memory_stops)

pub ruleset records = (list_more, list_stops, list_over, list_broken, memory_stops)

pub ruleset rows = (list_more, list_stops, list_over, list_broken, memory_stops)

-- ## Nodes
some_left : (nodes index : ℕ) → index < nodes → nodes - index ≡ suc (nodes - (index + 1))
some_left nodes index l = omega (arith, l)

node_steps : (ends : List End) (count node : ℕ) (done : List (List HistoryLine)) (ps rest left : List (List ℕ)) (h : List HistoryLine) → header_in node ps ≡ Taken tt rest
    → history_in ends rest ≡ Taken h left
    → nodes_in ends (suc count) node done ps ≡ nodes_in ends count (node + 1) (done ++ h ∷ []) left
unfolding nodes_in
node_steps ends count node done ps rest left h e f =
    ap (λ x. then_ x (λ u rest. then_ (history_in ends rest) (λ history left. nodes_in ends count (node + 1) (done ++ history ∷ []) left))) e
    ∙ ap (λ x. then_ x (λ history left. nodes_in ends count (node + 1) (done ++ history ∷ []) left)) f

pub nodes_more :
    (ends : List End) (nodes index : ℕ) (done new : List (List HistoryLine)) (all : Front (List (List HistoryLine))) (ps rest left : List (List ℕ)) (h : List HistoryLine)
    → nodes_in ends (nodes - index) (index + 1) done ps ≡ all → index < nodes → header_in (index + 1) ps ≡ Taken tt rest → behind [] (history_in ends rest) ≡ Taken h left → new ≡ done ++ h ∷ []
    → nodes_in ends (nodes - (index + 1)) (index + 1 + 1) new left ≡ all
nodes_more ends nodes index done new all ps rest left h i l e f n =
    ap (λ d. nodes_in ends (nodes - (index + 1)) (index + 1 + 1) d left) n
    ∙ sym (node_steps ends (nodes - (index + 1)) (index + 1) done ps rest left h e (sym (none_before (history_in ends rest)) ∙ f))
    ∙ ap (λ k. nodes_in ends k (index + 1) done ps) (sym (some_left nodes index l)) ∙ i

no_nodes : (ends : List End) (node : ℕ) (done : List (List HistoryLine)) (ps : List (List ℕ)) → nodes_in ends 0 node done ps ≡ Taken done ps
unfolding nodes_in
no_nodes ends node done ps = refl

pub nodes_over : (ends : List End) (nodes index : ℕ) (done : List (List HistoryLine)) (all : Front (List (List HistoryLine))) (ps : List (List ℕ))
    → nodes_in ends (nodes - index) (index + 1) done ps ≡ all → nodes ≤ index → all ≡ Taken done ps
nodes_over ends nodes index done all ps i l =
    let none : nodes - index ≡ 0 = omega (arith, l) in
    sym i ∙ ap (λ k. nodes_in ends k (index + 1) done ps) none ∙ no_nodes ends (index + 1) done ps

node_unfolds : (ends : List End) (count node : ℕ) (done : List (List HistoryLine)) (ps : List (List ℕ))
    → nodes_in ends (suc count) node done ps ≡ then_ (header_in node ps) (λ u rest. then_ (history_in ends rest) (λ history left. nodes_in ends count (node + 1) (done ++ history ∷ []) left))
unfolding nodes_in
node_unfolds ends count node done ps = refl

node_at : (ends : List End) (nodes index : ℕ) (done : List (List HistoryLine)) (all : Front (List (List HistoryLine))) (ps : List (List ℕ))
    → nodes_in ends (nodes - index) (index + 1) done ps ≡ all → index < nodes
    → then_ (header_in (index + 1) ps) (λ u rest. then_ (history_in ends rest) (λ history left. nodes_in ends (nodes - (index + 1)) (index + 1 + 1) (done ++ history ∷ []) left)) ≡ all
node_at ends nodes index done all ps i l =
    sym (node_unfolds ends (nodes - (index + 1)) (index + 1) done ps) ∙ ap (λ k. nodes_in ends k (index + 1) done ps) (sym (some_left nodes index l)) ∙ i

pub header_stops : (ends : List End) (nodes index : ℕ) (done : List (List HistoryLine)) (all : Front (List (List HistoryLine))) (ps : List (List ℕ)) (e : Unread)
    → nodes_in ends (nodes - index) (index + 1) done ps ≡ all → index < nodes → Stops (header_in (index + 1) ps) e → Stops all e
header_stops ends nodes index done all ps e i l s =
    let next = λ (u : Unit {0}) (rest : List (List ℕ)). then_ (history_in ends rest) (λ history left. nodes_in ends (nodes - (index + 1)) (index + 1 + 1) (done ++ history ∷ []) left) in
    stops_at_all (then_ (header_in (index + 1) ps) next) all e (node_at ends nodes index done all ps i l) (stops_then (header_in (index + 1) ps) next e s)

pub history_stops : (ends : List End) (nodes index : ℕ) (done : List (List HistoryLine)) (all : Front (List (List HistoryLine))) (ps rest : List (List ℕ)) (e : Unread)
    → nodes_in ends (nodes - index) (index + 1) done ps ≡ all → index < nodes → header_in (index + 1) ps ≡ Taken tt rest → Stops (history_in ends rest) e → Stops all e
history_stops ends nodes index done all ps rest e i l h s =
    let more = λ (history : List HistoryLine) (left : List (List ℕ)). nodes_in ends (nodes - (index + 1)) (index + 1 + 1) (done ++ history ∷ []) left in
    let next = λ (u : Unit {0}) (rest : List (List ℕ)). then_ (history_in ends rest) more in
    stops_at_all (then_ (header_in (index + 1) ps) next) all e (node_at ends nodes index done all ps i l)
    (stops_after (header_in (index + 1) ps) next tt rest e h (stops_then (history_in ends rest) more e s))

pub ruleset nodes = (nodes_more, nodes_over, header_stops, history_stops, memory_stops)

-- ## What an actor holds
last_by : (l : List ℕ) (ps : List (List ℕ)) → HasPiece ps → last_in (l ∷ ps) ≡ (if begins l (codes "position ") then held_from (l ∷ ps) (number_in 0 (drop 9 l)) ps else Taken None (l ∷ ps))
unfolding last_in
last_by l [] h = absurd (let e = h.are in cc)
last_by l (m ∷ ps) h = refl

last_line : (text line rest : List ℕ) → text ≡ line ++ 10 ∷ rest → Lacks 10 line
    → last_in (pieces text) ≡ (if begins line (codes "position ") then held_from (pieces text) (number_in 0 (drop 9 line)) (pieces rest) else Taken None (pieces text))
last_line text line rest e l =
    let p : pieces text ≡ line ∷ pieces rest = first_piece text line rest e l in
    ap last_in p ∙ last_by line (pieces rest) (has_piece rest)
    ∙ ap (λ ps. if begins line (codes "position ") then held_from ps (number_in 0 (drop 9 line)) (pieces rest) else Taken None ps) (sym p)

pub last_none : (text : List ℕ) → Lacks 10 text → last_in (pieces text) ≡ Taken None (pieces text)
unfolding last_in
last_none text l = let p : pieces text ≡ text ∷ [] = only_piece text l in ap last_in p ∙ ap (λ ps. Taken None ps) (sym p)

pub last_other : (text line rest : List ℕ) → text ≡ line ++ 10 ∷ rest → Lacks 10 line → begins line (codes "position ") ≡ false → last_in (pieces text) ≡ Taken None (pieces text)
last_other text line rest e l b = last_line text line rest e l ∙ ap (λ t. if t then held_from (pieces text) (number_in 0 (drop 9 line)) (pieces rest) else Taken None (pieces text)) b

last_held : (text line rest word : List ℕ) → text ≡ line ++ 10 ∷ rest → Lacks 10 line → begins line (codes "position ") ≡ true → word ≡ drop 9 line
    → last_in (pieces text) ≡ held_from (pieces text) (number_in 0 word) (pieces rest)
last_held text line rest word e l b w =
    last_line text line rest e l ∙ ap (λ t. if t then held_from (pieces text) (number_in 0 (drop 9 line)) (pieces rest) else Taken None (pieces text)) b
    ∙ ap (λ v. held_from (pieces text) (number_in 0 v) (pieces rest)) (sym w)

pub last_broken : (text line rest word : List ℕ) (e : Unread) → text ≡ line ++ 10 ∷ rest → Lacks 10 line → begins line (codes "position ") ≡ true → word ≡ drop 9 line → None ≡ number_in 0 word
    → e ≡ unread.Bad (length text) rule.PositionLine → Stops (last_in (pieces text)) e
last_broken text line rest word e s l b w n is =
    subst (Stops (last_in (pieces text))) (sym is)
    (broken_here (last_in (pieces text)) text rule.PositionLine (last_held text line rest word s l b w ∙ ap (λ o. held_from (pieces text) o (pieces rest)) (sym n)))

last_space : (text line rest word : List ℕ) (position : ℕ) → text ≡ line ++ 10 ∷ rest → Lacks 10 line → begins line (codes "position ") ≡ true → word ≡ drop 9 line
    → Some position ≡ number_in 0 word
    → last_in (pieces text) ≡ space_in position (pieces rest)
last_space text line rest word position s l b w n = last_held text line rest word s l b w ∙ ap (λ o. held_from (pieces text) o (pieces rest)) (sym n)

pub last_stops : (text line rest word : List ℕ) (position : ℕ) (e : Unread) → text ≡ line ++ 10 ∷ rest → Lacks 10 line → begins line (codes "position ") ≡ true → word ≡ drop 9 line
    → Some position ≡ number_in 0 word → Stops (space_in position (pieces rest)) e → Stops (last_in (pieces text)) e
last_stops text line rest word position e s l b w n h =
    stops_at_all (space_in position (pieces rest)) (last_in (pieces text)) e (sym (last_space text line rest word position s l b w n)) h

pub last_taken : (text line rest word : List ℕ) (position : ℕ) (left : List (List ℕ)) (last : Option LastSpace) → text ≡ line ++ 10 ∷ rest → Lacks 10 line → begins line (codes "position ") ≡ true
    → word ≡ drop 9 line → Some position ≡ number_in 0 word → space_in position (pieces rest) ≡ Taken last left → last_in (pieces text) ≡ Taken last left
last_taken text line rest word position left last s l b w n h = last_space text line rest word position s l b w n ∙ h

-- the answer of what stands behind the position
pub last_all : (text line rest word : List ℕ) (position : ℕ) (last : Option LastSpace) (r : Result (Bor (List ℕ)) Unread) → text ≡ line ++ 10 ∷ rest → Lacks 10 line
    → begins line (codes "position ") ≡ true
    → word ≡ drop 9 line → Some position ≡ number_in 0 word → IfOk r (λ left. space_in position (pieces rest) ≡ Taken last (pieces left.now))
    → IfOk r (λ left. last_in (pieces text) ≡ Taken last (pieces left.now))
last_all text line rest word position last (Ok left) s l b w n h = last_taken text line rest word position (pieces left.now) last s l b w n h
last_all text line rest word position last (Err e) s l b w n h = h

pub last_err : (text line rest word : List ℕ) (position : ℕ) (r : Result (Bor (List ℕ)) Unread) → text ≡ line ++ 10 ∷ rest → Lacks 10 line → begins line (codes "position ") ≡ true
    → word ≡ drop 9 line → Some position ≡ number_in 0 word → IfErr r (λ e. Stops (space_in position (pieces rest)) e) → IfErr r (λ e. Stops (last_in (pieces text)) e)
last_err text line rest word position (Ok left) s l b w n h = h
last_err text line rest word position (Err e) s l b w n h = last_stops text line rest word position e s l b w n h

pub space_stops_at : (position : ℕ) (ps : List (List ℕ)) (e : Unread) → Stops (rows_in ps) e → Stops (space_in position ps) e
unfolding space_in
space_stops_at position ps e h = stops_then (rows_in ps) (λ rows left. held position rows left) e h

pub space_taken : (position : ℕ) (ps left : List (List ℕ)) (rows list : List Row) (last : Option LastSpace) → behind [] (rows_in ps) ≡ Taken rows left → list ≡ rows
    → last ≡ Some (record { position = position; rows = list }) → space_in position ps ≡ Taken last left
unfolding space_in
space_taken position ps left rows list last h l is =
    ap (λ f. then_ f (λ rows left. held position rows left)) (sym (none_before (rows_in ps)) ∙ h) ∙ ap (λ rs. held position rs left) (sym l) ∙ ap (λ o. Taken o left) (sym is)

pub ruleset held_rows = (space_stops_at, space_taken, memory_stops)

pub ruleset spaces = (last_none, last_other, last_broken, last_all, last_err)

-- ## Actors
pub actor_taken : (nodes : ℕ) (name : List ℕ) (c : Callers) (ps left over : List (List ℕ)) (lines : List Record) (last : Option LastSpace) → behind [] (record_in nodes ps) ≡ Taken lines left
    → last_in left ≡ Taken last over → actor_in nodes name c ps ≡ Taken (with_actor c name lines last) over
unfolding actor_in
actor_taken nodes name c ps left over lines last e f =
    ap (λ x. then_ x (λ lines left. then_ (last_in left) (λ last over. Taken (with_actor c name lines last) over))) (sym (none_before (record_in nodes ps)) ∙ e)
    ∙ ap (λ x. then_ x (λ last over. Taken (with_actor c name lines last) over)) f

pub record_stops : (nodes : ℕ) (name : List ℕ) (c : Callers) (ps : List (List ℕ)) (e : Unread) → Stops (record_in nodes ps) e → Stops (actor_in nodes name c ps) e
unfolding actor_in
record_stops nodes name c ps e s = stops_then (record_in nodes ps) (λ lines left. then_ (last_in left) (λ last over. Taken (with_actor c name lines last) over)) e s

pub space_stops : (nodes : ℕ) (name : List ℕ) (c : Callers) (ps left : List (List ℕ)) (lines : List Record) (e : Unread) → behind [] (record_in nodes ps) ≡ Taken lines left
    → Stops (last_in left) e
    → Stops (actor_in nodes name c ps) e
unfolding actor_in
space_stops nodes name c ps left lines e r s =
    stops_after (record_in nodes ps) (λ lines left. then_ (last_in left) (λ last over. Taken (with_actor c name lines last) over)) lines left e (sym (none_before (record_in nodes ps)) ∙ r)
    (stops_then (last_in left) (λ last over. Taken (with_actor c name lines last) over) e s)

pub ruleset actors = (actor_taken, record_stops, space_stops, memory_stops)

one_actor : (nodes : ℕ) (x : End) (ends : List End) (c : Callers) (ps : List (List ℕ))
    → actors_in nodes (x ∷ ends) c ps ≡ then_ (name_in x.name ps) (λ u rest. then_ (actor_in nodes x.name c rest) (λ more left. actors_in nodes ends more left))
unfolding actors_in
one_actor nodes x ends c ps = refl

actor_at : (nodes : ℕ) (names : List End) (i : ℕ) (d : End) (c : Callers) (all : Front Callers) (ps : List (List ℕ)) → actors_in nodes (drop i names) c ps ≡ all → i < length names
    → then_ (name_in (get_or names i d).name ps) (λ u rest. then_ (actor_in nodes (get_or names i d).name c rest) (λ more left. actors_in nodes (drop (i + 1) names) more left)) ≡ all
actor_at nodes names i d c all ps h l =
    sym (one_actor nodes (get_or names i d) (drop (i + 1) names) c ps) ∙ ap (λ es. actors_in nodes es c ps) (sym (drop_more names i d l)) ∙ h

pub actors_more : (nodes : ℕ) (names : List End) (i : ℕ) (d : End) (name : List ℕ) (c more : Callers) (all : Front Callers) (ps rest left : List (List ℕ))
    → actors_in nodes (drop i names) c ps ≡ all
    → i < length names → name ≡ (get_or names i d).name → name_in name ps ≡ Taken tt rest → actor_in nodes name c rest ≡ Taken more left → actors_in nodes (drop (i + 1) names) more left ≡ all
actors_more nodes names i d name c more all ps rest left h l n e f =
    sym (ap (λ x. then_ x (λ u rest. then_ (actor_in nodes (get_or names i d).name c rest) (λ more left. actors_in nodes (drop (i + 1) names) more left))) (ap (λ w. name_in w ps) (sym n) ∙ e)
    ∙ ap (λ x. then_ x (λ more left. actors_in nodes (drop (i + 1) names) more left)) (ap (λ w. actor_in nodes w c rest) (sym n) ∙ f))
    ∙ actor_at nodes names i d c all ps h l

no_actors : (nodes : ℕ) (c : Callers) (ps : List (List ℕ)) → actors_in nodes [] c ps ≡ Taken c ps
unfolding actors_in
no_actors nodes c ps = refl

pub actors_over : (nodes : ℕ) (names : List End) (i : ℕ) (c : Callers) (all : Front Callers) (ps : List (List ℕ)) → actors_in nodes (drop i names) c ps ≡ all → length names ≤ i → all ≡ Taken c ps
actors_over nodes names i c all ps h l = sym h ∙ ap (λ es. actors_in nodes es c ps) (drop_all i names l) ∙ no_actors nodes c ps

pub name_stops : (nodes : ℕ) (names : List End) (i : ℕ) (d : End) (name : List ℕ) (c : Callers) (all : Front Callers) (ps : List (List ℕ)) (e : Unread) → actors_in nodes (drop i names) c ps ≡ all
    → i < length names → name ≡ (get_or names i d).name → Stops (name_in name ps) e → Stops all e
name_stops nodes names i d name c all ps e h l n s =
    let next = λ (u : Unit {0}) (rest : List (List ℕ)). then_ (actor_in nodes (get_or names i d).name c rest) (λ more left. actors_in nodes (drop (i + 1) names) more left) in
    stops_at_all (then_ (name_in (get_or names i d).name ps) next) all e (actor_at nodes names i d c all ps h l)
    (stops_then (name_in (get_or names i d).name ps) next e (subst (λ w. Stops (name_in w ps) e) n s))

pub actor_stops : (nodes : ℕ) (names : List End) (i : ℕ) (d : End) (name : List ℕ) (c : Callers) (all : Front Callers) (ps rest : List (List ℕ)) (e : Unread)
    → actors_in nodes (drop i names) c ps ≡ all
    → i < length names → name ≡ (get_or names i d).name → name_in name ps ≡ Taken tt rest → Stops (actor_in nodes name c rest) e → Stops all e
actor_stops nodes names i d name c all ps rest e h l n t s =
    let more = λ (more : Callers) (left : List (List ℕ)). actors_in nodes (drop (i + 1) names) more left in
    let next = λ (u : Unit {0}) (rest : List (List ℕ)). then_ (actor_in nodes (get_or names i d).name c rest) more in
    stops_at_all (then_ (name_in (get_or names i d).name ps) next) all e (actor_at nodes names i d c all ps h l)
    (stops_after (name_in (get_or names i d).name ps) next tt rest e (ap (λ w. name_in w ps) (sym n) ∙ t)
    (stops_then (actor_in nodes (get_or names i d).name c rest) more e (subst (λ w. Stops (actor_in nodes w c rest) e) n s)))

pub ruleset all_actors = (actors_more, actors_over, name_stops, actor_stops)

-- ## The operator
operator_by : ℕ → Callers → List (List ℕ) → Bool → Front Callers
operator_by nodes c ps b = if b then then_ (name_in operator ps) (λ u rest. then_ (record_in nodes rest) (λ lines left. Taken (with_record c lines) left)) else Taken (with_record c []) ps

pub operator_none : (nodes : ℕ) (c : Callers) (ps : List (List ℕ)) → is_name_next ps ≡ false → operator_in nodes c ps ≡ Taken (with_record c []) ps
unfolding operator_in operator_by
operator_none nodes c ps n = ap (operator_by nodes c ps) n

pub operator_taken : (nodes : ℕ) (c : Callers) (ps rest left : List (List ℕ)) (lines : List Record) → is_name_next ps ≡ true → name_in operator ps ≡ Taken tt rest
    → behind [] (record_in nodes rest) ≡ Taken lines left
    → operator_in nodes c ps ≡ Taken (with_record c lines) left
unfolding operator_in operator_by
operator_taken nodes c ps rest left lines n e f =
    ap (operator_by nodes c ps) n ∙ ap (λ x. then_ x (λ u rest. then_ (record_in nodes rest) (λ lines left. Taken (with_record c lines) left))) e
    ∙ ap (λ x. then_ x (λ lines left. Taken (with_record c lines) left)) (sym (none_before (record_in nodes rest)) ∙ f)

operator_some : (nodes : ℕ) (c : Callers) (ps : List (List ℕ)) → is_name_next ps ≡ true
    → operator_in nodes c ps ≡ then_ (name_in operator ps) (λ u rest. then_ (record_in nodes rest) (λ lines left. Taken (with_record c lines) left))
unfolding operator_in operator_by
operator_some nodes c ps n = ap (operator_by nodes c ps) n

pub operator_name_stops : (nodes : ℕ) (c : Callers) (ps : List (List ℕ)) (e : Unread) → is_name_next ps ≡ true → Stops (name_in operator ps) e → Stops (operator_in nodes c ps) e
operator_name_stops nodes c ps e n s =
    let next = λ (u : Unit {0}) (rest : List (List ℕ)). then_ (record_in nodes rest) (λ lines left. Taken (with_record c lines) left) in
    stops_at_all (then_ (name_in operator ps) next) (operator_in nodes c ps) e (sym (operator_some nodes c ps n)) (stops_then (name_in operator ps) next e s)

pub operator_stops : (nodes : ℕ) (c : Callers) (ps rest : List (List ℕ)) (e : Unread) → is_name_next ps ≡ true → name_in operator ps ≡ Taken tt rest → Stops (record_in nodes rest) e
    → Stops (operator_in nodes c ps) e
operator_stops nodes c ps rest e n t s =
    let more = λ (lines : List Record) (left : List (List ℕ)). Taken (with_record c lines) left in
    let next = λ (u : Unit {0}) (rest : List (List ℕ)). then_ (record_in nodes rest) more in
    stops_at_all (then_ (name_in operator ps) next) (operator_in nodes c ps) e (sym (operator_some nodes c ps n))
    (stops_after (name_in operator ps) next tt rest e t (stops_then (record_in nodes rest) more e s))

pub ruleset operators = (operator_none, operator_taken, operator_name_stops, operator_stops, memory_stops)

-- ## The end
over_by : (rest : List ℕ) → rest ≡ [] → nothing_in (pieces rest) ≡ Taken tt []
unfolding nothing_in pieces
over_by rest e = ap (λ t. nothing_in (pieces t)) e

more_by : (ps : List (List ℕ)) (b : ℕ) (bs : List ℕ) → joined ps ≡ b ∷ bs → nothing_in ps ≡ Broken ps rule.LastLine
unfolding nothing_in
more_by [] b bs e = absurd cc
more_by ([] ∷ []) b bs e = absurd cc
more_by ([] ∷ m ∷ ps) b bs e = refl
more_by ((c ∷ cs) ∷ ps) b bs e = refl

more_left : (rest : List ℕ) → 1 ≤ length rest → nothing_in (pieces rest) ≡ Broken (pieces rest) rule.LastLine
more_left [] l = absurd (omega (arith, l))
more_left (b ∷ bs) l = more_by (pieces (b ∷ bs)) b bs (joined_pieces (b ∷ bs))

pub end_taken : (text line rest : List ℕ) → text ≡ line ++ 10 ∷ rest → Lacks 10 line → is_end_line line ≡ true → rest ≡ [] → end_in (pieces text) ≡ Taken tt []
unfolding end_in
end_taken text line rest e l is none = ap (λ x. then_ x (λ u rest. nothing_in rest)) (line_taken is_end_line rule.LastLine text line rest e l is) ∙ over_by rest none

pub end_missed : (text : List ℕ) (e : Unread) → Lacks 10 text → e ≡ unread.Bad (length text) rule.LastLine → Stops (end_in (pieces text)) e
unfolding end_in
end_missed text e l is = stops_then (line_if is_end_line rule.LastLine (pieces text)) (λ u rest. nothing_in rest) e (missed_stops is_end_line rule.LastLine text e l is)

pub end_other : (text line rest : List ℕ) (e : Unread) → text ≡ line ++ 10 ∷ rest → Lacks 10 line → is_end_line line ≡ false → e ≡ unread.Bad (length text) rule.LastLine
    → Stops (end_in (pieces text)) e
unfolding end_in
end_other text line rest e s l n is =
    stops_then (line_if is_end_line rule.LastLine (pieces text)) (λ u rest. nothing_in rest) e (refused_stops is_end_line rule.LastLine text line rest e s l n is)

pub end_more : (text line rest : List ℕ) (e : Unread) → text ≡ line ++ 10 ∷ rest → Lacks 10 line → is_end_line line ≡ true → 1 ≤ length rest → e ≡ unread.Bad (length rest) rule.LastLine
    → Stops (end_in (pieces text)) e
unfolding end_in
end_more text line rest e s l is n w =
    stops_after (line_if is_end_line rule.LastLine (pieces text)) (λ u rest. nothing_in rest) tt (pieces rest) e (line_taken is_end_line rule.LastLine text line rest s l is)
    (subst (Stops (nothing_in (pieces rest))) (sym w) (broken_here (nothing_in (pieces rest)) rest rule.LastLine (more_left rest n)))

pub ruleset lasts = (end_taken, end_missed, end_other, end_more)

-- ## All callers
pub callers_taken : (nodes : ℕ) (names : List End) (c actors all : Callers) (ps rest left : List (List ℕ)) → actors_in nodes names c ps ≡ Taken actors rest
    → operator_in nodes actors rest ≡ Taken all left
    → end_in left ≡ Taken tt [] → callers_in nodes names c ps ≡ Taken all []
unfolding callers_in
callers_taken nodes names c actors all ps rest left e f g =
    ap (λ x. then_ x (λ actors rest. then_ (operator_in nodes actors rest) (λ all left. then_ (end_in left) (λ u over. Taken all over)))) e
    ∙ ap (λ x. then_ x (λ all left. then_ (end_in left) (λ u over. Taken all over))) f ∙ ap (λ x. then_ x (λ u over. Taken all over)) g

pub actors_stop : (nodes : ℕ) (names : List End) (c : Callers) (ps : List (List ℕ)) (e : Unread) → Stops (actors_in nodes names c ps) e → Stops (callers_in nodes names c ps) e
unfolding callers_in
actors_stop nodes names c ps e s = stops_then (actors_in nodes names c ps) (λ actors rest. then_ (operator_in nodes actors rest) (λ all left. then_ (end_in left) (λ u over. Taken all over))) e s

pub operator_stop : (nodes : ℕ) (names : List End) (c actors : Callers) (ps rest : List (List ℕ)) (e : Unread) → actors_in nodes names c ps ≡ Taken actors rest
    → Stops (operator_in nodes actors rest) e
    → Stops (callers_in nodes names c ps) e
unfolding callers_in
operator_stop nodes names c actors ps rest e t s =
    stops_after (actors_in nodes names c ps) (λ actors rest. then_ (operator_in nodes actors rest) (λ all left. then_ (end_in left) (λ u over. Taken all over))) actors rest e t
    (stops_then (operator_in nodes actors rest) (λ all left. then_ (end_in left) (λ u over. Taken all over)) e s)

pub end_stop : (nodes : ℕ) (names : List End) (c actors all : Callers) (ps rest left : List (List ℕ)) (e : Unread) → actors_in nodes names c ps ≡ Taken actors rest
    → operator_in nodes actors rest ≡ Taken all left
    → Stops (end_in left) e → Stops (callers_in nodes names c ps) e
unfolding callers_in
end_stop nodes names c actors all ps rest left e t o s =
    stops_after (actors_in nodes names c ps) (λ actors rest. then_ (operator_in nodes actors rest) (λ all left. then_ (end_in left) (λ u over. Taken all over))) actors rest e t
    (stops_after (operator_in nodes actors rest) (λ all left. then_ (end_in left) (λ u over. Taken all over)) all left e o (stops_then (end_in left) (λ u over. Taken all over) e s))

pub ruleset all_callers = (callers_taken, actors_stop, operator_stop, end_stop)

-- ## Names
pub name_none : (ends : List End) (line : List ℕ) → begins line (codes "actor ") ≡ false → ends ≡ with_name ends line
name_none ends line b = sym (no_name ends line b)

both_by : (a b : Bool) → a ≡ true → (a && b) ≡ b
both_by true b e = refl
both_by false b e = absurd cc

pub named_by : (ends : List End) (line name : List ℕ) → begins line (codes "actor ") ≡ true → name ≡ drop 6 line
    → with_name ends line ≡ (if may_follow ends name then ends ++ bare name ∷ [] else ends)
unfolding with_name
named_by ends line name b n =
    ap (λ t. if t then ends ++ bare (drop 6 line) ∷ [] else ends) (both_by (tells_name line) (may_follow ends (drop 6 line)) b)
    ∙ ap (λ w. if may_follow ends w then ends ++ bare w ∷ [] else ends) (sym n)

pub ruleset names = (name_none)

-- at most eight so far, and those to come
abbrev pub SoFar : List End → List (List ℕ) → List End → Type 0
SoFar ends ps all = (length ends ≤ 8) × (names_from ends ps ≡ all)

pub names_more : (ends new all : List End) (text line rest : List ℕ) → SoFar ends (pieces text) all → text ≡ line ++ 10 ∷ rest → Lacks 10 line → length new ≤ 8 → new ≡ with_name ends line
    → SoFar new (pieces rest) all
names_more ends new all text line rest h e l few n = (few, ap (λ es. names_from es (pieces rest)) n ∙ sym (names_step ends text line rest e l) ∙ h.1)

pub names_over : (ends all : List End) (text : List ℕ) → SoFar ends (pieces text) all → Lacks 10 text → ends ≡ all
unfolding names_from
names_over ends all text h l = sym (ap (names_from ends) (only_piece text l)) ∙ h.1

pub ruleset all_names = (names_more, names_over)

-- ## The whole
first_at : (l : List ℕ) (ps : List (List ℕ)) → HasPiece ps → first_in (l ∷ ps) ≡ first_by (l ∷ ps) (if begins l (codes "nodes ") then number_within 1 most_nodes (drop 6 l) else None) ps
unfolding first_in
first_at l [] h = absurd (let e = h.are in cc)
first_at l (m ∷ ps) h = refl

first_line : (text line rest : List ℕ) → text ≡ line ++ 10 ∷ rest → Lacks 10 line
    → first_in (pieces text) ≡ first_by (pieces text) (if begins line (codes "nodes ") then number_within 1 most_nodes (drop 6 line) else None) (pieces rest)
first_line text line rest e l =
    let p : pieces text ≡ line ∷ pieces rest = first_piece text line rest e l in
    ap first_in p ∙ first_at line (pieces rest) (has_piece rest)
    ∙ ap (λ ps. first_by ps (if begins line (codes "nodes ") then number_within 1 most_nodes (drop 6 line) else None) (pieces rest)) (sym p)

pub first_missed : (text : List ℕ) → Lacks 10 text → IsBroken (first_in (pieces text)) (length text) rule.FirstLine
unfolding first_in
first_missed text l =
    let p : pieces text ≡ text ∷ [] = only_piece text l in
    broken_here (first_in (pieces text)) text rule.FirstLine (ap first_in p ∙ ap (λ ps. Broken ps rule.FirstLine) (sym p))

pub first_other : (text line rest : List ℕ) → text ≡ line ++ 10 ∷ rest → Lacks 10 line → begins line (codes "nodes ") ≡ false → IsBroken (first_in (pieces text)) (length text) rule.FirstLine
first_other text line rest e l b =
    broken_here (first_in (pieces text)) text rule.FirstLine
    (first_line text line rest e l ∙ ap (λ t. first_by (pieces text) (if t then number_within 1 most_nodes (drop 6 line) else None) (pieces rest)) b)

first_told : (text line rest word : List ℕ) (o : Option ℕ) → text ≡ line ++ 10 ∷ rest → Lacks 10 line → begins line (codes "nodes ") ≡ true → word ≡ drop 6 line → o ≡ number_within 1 most_nodes word
    → first_in (pieces text) ≡ first_by (pieces text) o (pieces rest)
first_told text line rest word o e l b w n =
    first_line text line rest e l ∙ ap (λ t. first_by (pieces text) (if t then number_within 1 most_nodes (drop 6 line) else None) (pieces rest)) b
    ∙ ap (λ v. first_by (pieces text) (number_within 1 most_nodes v) (pieces rest)) (sym w) ∙ ap (λ q. first_by (pieces text) q (pieces rest)) (sym n)

pub first_bad : (text line rest word : List ℕ) → text ≡ line ++ 10 ∷ rest → Lacks 10 line → begins line (codes "nodes ") ≡ true → word ≡ drop 6 line → is_number 1 most_nodes word ≡ false
    → IsBroken (first_in (pieces text)) (length text) rule.FirstLine
first_bad text line rest word e l b w n =
    broken_here (first_in (pieces text)) text rule.FirstLine (first_told text line rest word None e l b w (sym (ap (λ t. if t then Some (digits_value 10 word) else None) n)))

pub first_taken : (text line rest word : List ℕ) (nodes : ℕ) → text ≡ line ++ 10 ∷ rest → Lacks 10 line → begins line (codes "nodes ") ≡ true → word ≡ drop 6 line → Tells 1 most_nodes word nodes
    → first_in (pieces text) ≡ Taken nodes (pieces rest)
first_taken text line rest word nodes e l b w n =
    let high = n.3 in first_told text line rest word (Some nodes) e l b w (within_by 1 most_nodes word nodes (omega (arith, high)) n)

pub ruleset firsts = (first_missed, first_other, first_bad, first_taken)

-- the parts one after another
all_lists : (nodes : ℕ) (ps rest : List (List ℕ)) (names : List End) → first_in ps ≡ Taken nodes rest → names ≡ names_from [] rest → lists_in ps ≡ lists_with nodes names rest
unfolding lists_in
all_lists nodes ps rest names e n = ap (λ x. then_ x (λ nodes rest. lists_with nodes (names_from [] rest) rest)) e ∙ ap (λ es. lists_with nodes es rest) (sym n)

pub lists_taken : (nodes : ℕ) (ps rest left : List (List ℕ)) (names : List End) (before histories : List (List HistoryLine)) (c callers : Callers) → first_in ps ≡ Taken nodes rest
    → names ≡ names_from [] rest
    → before ≡ [] → c ≡ no_callers → nodes_in names nodes 1 before rest ≡ Taken histories left → callers_in nodes names c left ≡ Taken callers []
    → lists_in ps ≡ Taken (read_as nodes histories callers) []
lists_taken nodes ps rest left names before histories c callers e n b k f g =
    all_lists nodes ps rest names e n
    ∙ ap (λ x. then_ x (λ histories left. then_ (callers_in nodes names no_callers left) (λ callers over. Taken (read_as nodes histories callers) over)))
    (ap (λ d. nodes_in names nodes 1 d rest) (sym b) ∙ f)
    ∙ ap (λ x. then_ x (λ callers over. Taken (read_as nodes histories callers) over)) (ap (λ d. callers_in nodes names d left) (sym k) ∙ g)

pub first_stops : (ps : List (List ℕ)) (bytes : ℕ) (e : Unread) → IsBroken (first_in ps) bytes rule.FirstLine → e ≡ unread.Bad bytes rule.FirstLine → Stops (lists_in ps) e
unfolding lists_in
first_stops ps bytes e h is =
    stops_then (first_in ps) (λ nodes rest. lists_with nodes (names_from [] rest) rest) e (subst (Stops (first_in ps)) (sym is) h)

pub nodes_stop : (nodes : ℕ) (ps rest : List (List ℕ)) (names : List End) (before : List (List HistoryLine)) (e : Unread) → first_in ps ≡ Taken nodes rest → names ≡ names_from [] rest
    → before ≡ []
    → Stops (nodes_in names nodes 1 before rest) e → Stops (lists_in ps) e
nodes_stop nodes ps rest names before e f n b s =
    let next = λ (histories : List (List HistoryLine)) (left : List (List ℕ)). then_ (callers_in nodes names no_callers left) (λ callers over. Taken (read_as nodes histories callers) over) in
    stops_at_all (lists_with nodes names rest) (lists_in ps) e (sym (all_lists nodes ps rest names f n))
    (stops_then (nodes_in names nodes 1 [] rest) next e (subst (λ d. Stops (nodes_in names nodes 1 d rest) e) b s))

pub callers_stop : (nodes : ℕ) (ps rest left : List (List ℕ)) (names : List End) (before histories : List (List HistoryLine)) (c : Callers) (e : Unread) → first_in ps ≡ Taken nodes rest
    → names ≡ names_from [] rest → before ≡ [] → c ≡ no_callers → nodes_in names nodes 1 before rest ≡ Taken histories left → Stops (callers_in nodes names c left) e → Stops (lists_in ps) e
callers_stop nodes ps rest left names before histories c e f n b k g s =
    let more = λ (callers : Callers) (over : List (List ℕ)). Taken (read_as nodes histories callers) over in
    let next = λ (histories : List (List HistoryLine)) (left : List (List ℕ)). then_ (callers_in nodes names no_callers left) (λ callers over. Taken (read_as nodes histories callers) over) in
    stops_at_all (lists_with nodes names rest) (lists_in ps) e (sym (all_lists nodes ps rest names f n))
    (stops_after (nodes_in names nodes 1 [] rest) next histories left e (ap (λ d. nodes_in names nodes 1 d rest) (sym b) ∙ g)
    (stops_then (callers_in nodes names no_callers left) more e (subst (λ d. Stops (callers_in nodes names d left) e) k s)))

pub ruleset parts = (lists_taken, first_stops, nodes_stop, callers_stop, memory_stops)

pub ruleset reads = (memory_stops)
