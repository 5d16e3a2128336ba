-- What is read of a front of some pieces is read of each list of pieces with that front.
use Rattle.std.proofs.Common.{ℕ, zero, suc, ◌≡◌, ◌≢◌, ◌+◌, List, [], ◌∷◌, ◌++◌, Bool, true, false, Option, Some, None, drop, refl, sym, ap, subst, ◌∙◌}
use Rattle.std.proofs.Common.{append_assoc, if◌then◌else◌}
use Rattle.std.specs.Prelude.{codes}
use Rattle.journal_core.specs.Nodes.{most_nodes}
use Rattle.journal_text.specs.Reading.{number_in}
use Rattle.journal_history.specs.declared.history_line.HistoryLine.{HistoryLine}
use Rattle.journal_history.specs.declared.record.Record.{Record}
use Rattle.ns_tree.specs.declared.end.LastSpace.{LastSpace}
use Rattle.ns_tree.specs.declared.end.End.{End}
use Rattle.play_report.specs.Summary.{begins}
use Rattle.play_report.specs.Text.{operator}
use Rattle.report_judge.specs.declared.rules.Rule.{Rule}
use Rattle.report_judge.specs.declared.rules.Rule.TheVariants as rule
use Rattle.report_judge.specs.declared.actors.Callers.{Callers}
use Rattle.report_judge.specs.Cuts.{has_arrow}
use Rattle.report_judge.specs.Rows.{row_in}
use Rattle.report_judge.specs.Pieces.{Front, Taken, Broken, line_if, is_next, with_line, lines_while, then_}
use Rattle.report_judge.specs.Reading.{history_line_in, record_line_in, is_of_record, is_header, nodes_in, history_in, header_in, is_row, rows_in, held, space_in, held_from, last_in, record_in}
use Rattle.report_judge.specs.Reading.{tells_name, is_name_line, name_in, with_actor, actor_in, actors_in, is_name_next, with_record, operator_in, is_end_line, nothing_in, end_in, no_callers}
use Rattle.report_judge.specs.Reading.{callers_in, first_by, first_in, number_within, read_as, lists_with}

-- both have none, or the same first one, and more behind it or not
abbrev pub Alike : List (List ℕ) → List (List ℕ) → Type 0
Alike [] [] = Unit {0}
Alike (l ∷ []) (k ∷ []) = k ≡ l
Alike (l ∷ m ∷ ps) (k ∷ n ∷ qs) = k ≡ l
Alike _ _ = ⊥

-- The end is left, or broken, and so it would be of other pieces behind the same front.
pub record KeepsFront {A : Type 0} (F : List (List ℕ) → Front A) (ps left : List (List ℕ)) (made : List (List ℕ) → Front A) : Type 0 where
  pub front : List (List ℕ)
  pub are : ps ≡ front ++ left
  pub others : (other : List (List ℕ)) → Alike left other → F (front ++ other) ≡ made other

abbrev pub Kept : {A : Type 0} → (List (List ℕ) → Front A) → List (List ℕ) → Front A → Type 0
Kept F ps (Taken x left) = KeepsFront F ps left (λ other. Taken x other)
Kept F ps (Broken left r) = KeepsFront F ps left (λ other. Broken other r)

abbrev pub IsLocal : {A : Type 0} → (List (List ℕ) → Front A) → Type 0
IsLocal F = (ps : List (List ℕ)) → Kept F ps (F ps)

-- ## Alike
alike_same : (ps : List (List ℕ)) → Alike ps ps
alike_same [] = tt
alike_same (l ∷ []) = refl
alike_same (l ∷ m ∷ ps) = refl

alike_behind : (front ps qs : List (List ℕ)) → Alike ps qs → Alike (front ++ ps) (front ++ qs)
alike_behind [] ps qs h = h
alike_behind (l ∷ []) [] [] h = refl
alike_behind (l ∷ []) [] (k ∷ qs) h = absurd h
alike_behind (l ∷ []) (k ∷ ps) [] h = absurd (by ps h)
  where
    by : (ps : List (List ℕ)) → Alike (k ∷ ps) [] → ⊥
    by [] h = h
    by (m ∷ ps) h = h
alike_behind (l ∷ []) (k ∷ ps) (j ∷ qs) h = refl
alike_behind (l ∷ m ∷ front) ps qs h = refl

-- nothing was passed
here : {A : Type 0} (F : List (List ℕ) → Front A) (ps : List (List ℕ)) (made : List (List ℕ) → Front A) → ((other : List (List ℕ)) → Alike ps other → F other ≡ made other)
    → KeepsFront F ps ps made
here F ps made h = record { front = []; are = refl; others = h }

-- ## One line
pub line_local : (own : List ℕ → Bool) (rule : Rule) → IsLocal (line_if own rule)
unfolding line_if
line_local own rule [] = here (line_if own rule) [] (λ other. Broken other rule) by
  where
    by : (other : List (List ℕ)) → Alike [] other → line_if own rule other ≡ Broken other rule
    by [] h = refl
    by (k ∷ qs) h = absurd h
line_local own rule (l ∷ []) = here (line_if own rule) (l ∷ []) (λ other. Broken other rule) by
  where
    by : (other : List (List ℕ)) → Alike (l ∷ []) other → line_if own rule other ≡ Broken other rule
    by [] h = absurd h
    by (k ∷ []) h = refl
    by (k ∷ n ∷ qs) h = absurd h
line_local own rule (l ∷ m ∷ ps) = by (own l) refl
  where
    yes : own l ≡ true → (other : List (List ℕ)) → Alike (m ∷ ps) other → line_if own rule (l ∷ other) ≡ Taken tt other
    yes e [] h = absurd (no ps h)
      where
        no : (ps : List (List ℕ)) → Alike (m ∷ ps) [] → ⊥
        no [] h = h
        no (n ∷ ps) h = h
    yes e (k ∷ qs) h = ap (λ b. if b then Taken tt (k ∷ qs) else Broken (l ∷ k ∷ qs) rule) e

    no : own l ≡ false → (other : List (List ℕ)) → Alike (l ∷ m ∷ ps) other → line_if own rule other ≡ Broken other rule
    no e [] h = absurd h
    no e (k ∷ []) h = absurd h
    no e (k ∷ n ∷ qs) h = ap (λ b. if b then Taken tt (n ∷ qs) else Broken (k ∷ n ∷ qs) rule) (ap own h ∙ e)

    by : (b : Bool) → own l ≡ b → Kept (line_if own rule) (l ∷ m ∷ ps) (if own l then Taken tt (m ∷ ps) else Broken (l ∷ m ∷ ps) rule)
    by true e = rw e (record { front = l ∷ []; are = refl; others = yes e })
    by false e = rw e (record { front = []; are = refl; others = no e })

-- ## Lines
module _ {X : Type 0} (own : List ℕ → Bool) (read : List ℕ → Option X) (rule : Rule) where
  abbrev of : List (List ℕ) → Front (List X)
  of ps = lines_while own read rule ps

  step : (l m : List ℕ) (ps : List (List ℕ)) → of (l ∷ m ∷ ps) ≡ (if own l then with_line rule (l ∷ m ∷ ps) (read l) (of (m ∷ ps)) else Taken [] (l ∷ m ∷ ps))
  unfolding lines_while
  step l m ps = refl

  stops : (l m : List ℕ) (ps : List (List ℕ)) → own l ≡ false → of (l ∷ m ∷ ps) ≡ Taken [] (l ∷ m ∷ ps)
  stops l m ps e = step l m ps ∙ ap (λ b. if b then with_line rule (l ∷ m ∷ ps) (read l) (of (m ∷ ps)) else Taken [] (l ∷ m ∷ ps)) e

  goes : (l m : List ℕ) (ps : List (List ℕ)) → own l ≡ true → of (l ∷ m ∷ ps) ≡ with_line rule (l ∷ m ∷ ps) (read l) (of (m ∷ ps))
  goes l m ps e = step l m ps ∙ ap (λ b. if b then with_line rule (l ∷ m ∷ ps) (read l) (of (m ∷ ps)) else Taken [] (l ∷ m ∷ ps)) e

  short : (l : List ℕ) → of (l ∷ []) ≡ Taken [] (l ∷ [])
  unfolding lines_while
  short l = refl

  empty : of [] ≡ Taken [] []
  unfolding lines_while
  empty = refl

  stop_here : (l m : List ℕ) (ps : List (List ℕ)) → own l ≡ false → (other : List (List ℕ)) → Alike (l ∷ m ∷ ps) other → of other ≡ Taken [] other
  stop_here l m ps e [] h = absurd h
  stop_here l m ps e (k ∷ []) h = absurd h
  stop_here l m ps e (k ∷ n ∷ qs) h = stops k n qs (ap own h ∙ e)

  break_here : (l m : List ℕ) (ps : List (List ℕ)) → own l ≡ true → read l ≡ None → (other : List (List ℕ)) → Alike (l ∷ m ∷ ps) other → of other ≡ Broken other rule
  break_here l m ps e r [] h = absurd h
  break_here l m ps e r (k ∷ []) h = absurd h
  break_here l m ps e r (k ∷ n ∷ qs) h = goes k n qs (ap own h ∙ e) ∙ ap (λ o. with_line rule (k ∷ n ∷ qs) o (of (n ∷ qs))) (ap read h ∙ r)

  -- one line in front of what is kept
  one_more : (l : List ℕ) (x : X) (front left other : List (List ℕ)) (f : Front (List X)) → own l ≡ true → read l ≡ Some x → Alike left other → (front ≡ [] → left ≢ []) → of (front ++ other) ≡ f
      → of (l ∷ (front ++ other)) ≡ with_line rule (l ∷ (front ++ other)) (Some x) f
  one_more l x [] [] other f e r h some g = absurd (some refl refl)
  one_more l x [] (j ∷ left) [] f e r h some g = absurd (no left h)
    where
      no : (ps : List (List ℕ)) → Alike (j ∷ ps) [] → ⊥
      no [] h = h
      no (n ∷ ps) h = h
  one_more l x [] (j ∷ left) (k ∷ qs) f e r h some g = goes l k qs e ∙ ap (λ o. with_line rule (l ∷ k ∷ qs) o (of (k ∷ qs))) r ∙ ap (with_line rule (l ∷ k ∷ qs) (Some x)) g
  one_more l x (k ∷ front) left other f e r h some g =
      goes l k (front ++ other) e ∙ ap (λ o. with_line rule (l ∷ k ∷ (front ++ other)) o (of (k ∷ (front ++ other)))) r ∙ ap (with_line rule (l ∷ k ∷ (front ++ other)) (Some x)) g

  nothing : (m : List ℕ) (ps front left : List (List ℕ)) → m ∷ ps ≡ front ++ left → front ≡ [] → left ≢ []
  nothing m ps front left are e n = let q : m ∷ ps ≡ [] = are ∙ (λ i. e i ++ n i) in absurd cc

  more : (l m : List ℕ) (x : X) (ps : List (List ℕ)) (f : Front (List X)) → own l ≡ true → read l ≡ Some x → Kept of (m ∷ ps) f → Kept of (l ∷ m ∷ ps) (with_line rule (l ∷ m ∷ ps) (Some x) f)
  more l m x ps (Taken xs left) e r k = record {
    front = l ∷ k.front;
    are = ap (λ qs. l ∷ qs) k.are;
    others = λ other h. one_more l x k.front left other (Taken xs other) e r h (nothing m ps k.front left k.are) (k.others other h);
  }
  more l m x ps (Broken left q) e r k = record {
    front = l ∷ k.front;
    are = ap (λ qs. l ∷ qs) k.are;
    others = λ other h. one_more l x k.front left other (Broken other q) e r h (nothing m ps k.front left k.are) (k.others other h);
  }

  short_here : (l : List ℕ) (other : List (List ℕ)) → Alike (l ∷ []) other → of other ≡ Taken [] other
  short_here l [] h = absurd h
  short_here l (k ∷ []) h = short k
  short_here l (k ∷ n ∷ qs) h = absurd h

  empty_here : (other : List (List ℕ)) → Alike [] other → of other ≡ Taken [] other
  empty_here [] h = empty
  empty_here (k ∷ qs) h = absurd h

  pub lines_local : IsLocal of
  lines_local [] = subst (Kept of []) (sym empty) (record { front = []; are = refl; others = empty_here })
  lines_local (l ∷ []) = subst (Kept of (l ∷ [])) (sym (short l)) (record { front = []; are = refl; others = short_here l })
  lines_local (l ∷ m ∷ ps) = by (own l) (read l) refl refl (lines_local (m ∷ ps))
    where
      by : (b : Bool) (o : Option X) → own l ≡ b → read l ≡ o → Kept of (m ∷ ps) (of (m ∷ ps)) → Kept of (l ∷ m ∷ ps) (of (l ∷ m ∷ ps))
      by false o e r k = subst (Kept of (l ∷ m ∷ ps)) (sym (stops l m ps e)) (record { front = []; are = refl; others = stop_here l m ps e })
      by true None e r k =
          subst (Kept of (l ∷ m ∷ ps)) (sym (goes l m ps e ∙ ap (λ o. with_line rule (l ∷ m ∷ ps) o (of (m ∷ ps))) r))
          (record { front = []; are = refl; others = break_here l m ps e r })
      by true (Some x) e r k =
          subst (Kept of (l ∷ m ∷ ps)) (sym (goes l m ps e ∙ ap (λ o. with_line rule (l ∷ m ∷ ps) o (of (m ∷ ps))) r))
          (more l m x ps (of (m ∷ ps)) e r k)

-- ## One after another
pub taken_local : {A : Type 0} (x : A) → IsLocal (λ ps. Taken x ps)
taken_local x ps = record { front = []; are = refl; others = λ other h. refl }

join_front : {A B : Type 0} (F : List (List ℕ) → Front A) (G : A → List (List ℕ) → Front B) (x : A) (ps left over : List (List ℕ)) (made : List (List ℕ) → Front B)
    → KeepsFront F ps left (λ other. Taken x other) → KeepsFront (G x) left over made → KeepsFront (λ qs. then_ (F qs) G) ps over made
join_front F G x ps left over made f g = record {
  front = f.front ++ g.front;
  are = f.are ∙ ap (λ qs. f.front ++ qs) g.are ∙ sym (append_assoc f.front g.front over);
  others =
      λ other h.
      ap (λ qs. then_ (F qs) G) (append_assoc f.front g.front other)
      ∙ ap (λ y. then_ y G) (f.others (g.front ++ other) (subst (λ qs. Alike qs (g.front ++ other)) (sym g.are) (alike_behind g.front over other h))) ∙ g.others other h;
}

then_by : {A B : Type 0} (F : List (List ℕ) → Front A) (G : A → List (List ℕ) → Front B) (ps : List (List ℕ)) (f : Front A) → F ps ≡ f → Kept F ps f → ((x : A) → IsLocal (G x))
    → Kept (λ qs. then_ (F qs) G) ps (then_ f G)
then_by F G ps (Broken left r) e k g = record { front = k.front; are = k.are; others = λ other h. ap (λ y. then_ y G) (k.others other h) }
then_by {B = B} F G ps (Taken x left) e k g = by (G x left) refl (g x left)
  where
    by : (y : Front B) → G x left ≡ y → Kept (G x) left y → Kept (λ qs. then_ (F qs) G) ps y
    by (Taken z over) q n = join_front F G x ps left over (λ other. Taken z other) k n
    by (Broken over r) q n = join_front F G x ps left over (λ other. Broken other r) k n

pub then_local : {A B : Type 0} (F : List (List ℕ) → Front A) (G : A → List (List ℕ) → Front B) → IsLocal F → ((x : A) → IsLocal (G x)) → IsLocal (λ qs. then_ (F qs) G)
then_local F G f g ps = then_by F G ps (F ps) refl (f ps) g

-- a reader that is another everywhere
pub same_local : {A : Type 0} (F G : List (List ℕ) → Front A) → ((ps : List (List ℕ)) → G ps ≡ F ps) → IsLocal F → IsLocal G
same_local {A = A} F G e f ps = subst (Kept G ps) (sym (e ps)) (by (F ps) (f ps))
  where
    by : (y : Front A) → Kept F ps y → Kept G ps y
    by (Taken x left) k = record { front = k.front; are = k.are; others = λ other h. e (k.front ++ other) ∙ k.others other h }
    by (Broken left r) k = record { front = k.front; are = k.are; others = λ other h. e (k.front ++ other) ∙ k.others other h }

-- a line before what is kept
module _ {A : Type 0} (F G : List (List ℕ) → Front A) (l m : List ℕ) (ps : List (List ℕ)) (first : (k : List ℕ) (qs : List (List ℕ)) → F (l ∷ k ∷ qs) ≡ G (k ∷ qs)) where
  line_over : (front left other : List (List ℕ)) (y : Front A) → m ∷ ps ≡ front ++ left → Alike left other → G (front ++ other) ≡ y → F (l ∷ (front ++ other)) ≡ y
  line_over [] [] other y e h g = absurd (let q : m ∷ ps ≡ [] = e in cc)
  line_over [] (j ∷ left) [] y e h g = absurd (no left h)
    where
      no : (ps : List (List ℕ)) → Alike (j ∷ ps) [] → ⊥
      no [] h = h
      no (n ∷ ps) h = h
  line_over [] (j ∷ left) (k ∷ qs) y e h g = first k qs ∙ g
  line_over (k ∷ front) left other y e h g = first k (front ++ other) ∙ g

  pub after_line : (y : Front A) → Kept G (m ∷ ps) y → Kept F (l ∷ m ∷ ps) y
  after_line (Taken x left) k =
      record { front = l ∷ k.front; are = ap (λ qs. l ∷ qs) k.are; others = λ other h. line_over k.front left other (Taken x other) k.are h (k.others other h) }
  after_line (Broken left r) k =
      record { front = l ∷ k.front; are = ap (λ qs. l ∷ qs) k.are; others = λ other h. line_over k.front left other (Broken other r) k.are h (k.others other h) }

-- one of two readers, by what stands first
module _ {A : Type 0} (T : List (List ℕ) → Bool) (G H : List (List ℕ) → Front A) (same : (ps qs : List (List ℕ)) → Alike ps qs → T qs ≡ T ps) where
  abbrev chosen : List (List ℕ) → Front A
  chosen ps = if T ps then G ps else H ps

  yes : (ps front left other : List (List ℕ)) → T ps ≡ true → ps ≡ front ++ left → Alike left other → chosen (front ++ other) ≡ G (front ++ other)
  yes ps front left other t e h =
      ap (λ b. if b then G (front ++ other) else H (front ++ other)) (same (front ++ left) (front ++ other) (alike_behind front left other h) ∙ ap T (sym e) ∙ t)

  no : (ps front left other : List (List ℕ)) → T ps ≡ false → ps ≡ front ++ left → Alike left other → chosen (front ++ other) ≡ H (front ++ other)
  no ps front left other t e h =
      ap (λ b. if b then G (front ++ other) else H (front ++ other)) (same (front ++ left) (front ++ other) (alike_behind front left other h) ∙ ap T (sym e) ∙ t)

  yes_kept : (ps : List (List ℕ)) (y : Front A) → T ps ≡ true → Kept G ps y → Kept chosen ps y
  yes_kept ps (Taken x left) t k = record { front = k.front; are = k.are; others = λ other h. yes ps k.front left other t k.are h ∙ k.others other h }
  yes_kept ps (Broken left r) t k = record { front = k.front; are = k.are; others = λ other h. yes ps k.front left other t k.are h ∙ k.others other h }

  no_kept : (ps : List (List ℕ)) (y : Front A) → T ps ≡ false → Kept H ps y → Kept chosen ps y
  no_kept ps (Taken x left) t k = record { front = k.front; are = k.are; others = λ other h. no ps k.front left other t k.are h ∙ k.others other h }
  no_kept ps (Broken left r) t k = record { front = k.front; are = k.are; others = λ other h. no ps k.front left other t k.are h ∙ k.others other h }

  pub chosen_local : IsLocal G → IsLocal H → IsLocal chosen
  chosen_local g h ps = by (T ps) refl
    where
      by : (b : Bool) → T ps ≡ b → Kept chosen ps (if T ps then G ps else H ps)
      by true t = subst (Kept chosen ps) (sym (ap (λ b. if b then G ps else H ps) t)) (yes_kept ps (G ps) t (g ps))
      by false t = subst (Kept chosen ps) (sym (ap (λ b. if b then G ps else H ps) t)) (no_kept ps (H ps) t (h ps))

-- ## The parts of a report
history_local : (ends : List End) → IsLocal (history_in ends)
history_local ends = lines_local has_arrow (history_line_in ends) rule.HistoryLine

record_local : (nodes : ℕ) → IsLocal (record_in nodes)
record_local nodes = lines_local is_of_record (record_line_in nodes) rule.RecordLine

rows_local : IsLocal rows_in
rows_local = lines_local is_row (λ line. row_in (drop 2 line)) rule.RowLine

no_nodes : (ends : List End) (node : ℕ) (done : List (List HistoryLine)) (ps : List (List ℕ)) → nodes_in ends 0 node done ps ≡ Taken done ps
unfolding nodes_in
no_nodes ends node done ps = refl

one_node : (ends : List End) (count node : ℕ) (done : List (List HistoryLine)) (ps : List (List ℕ))
    → nodes_in ends (suc count) node done ps ≡ then_ (header_in node ps) (λ u rest. then_ (history_in ends rest) (λ history left. nodes_in ends count (node + 1) (done ++ history ∷ []) left))
unfolding nodes_in
one_node ends count node done ps = refl

pub nodes_local : (ends : List End) (count node : ℕ) (done : List (List HistoryLine)) → IsLocal (nodes_in ends count node done)
nodes_local ends zero node done = same_local (λ ps. Taken done ps) (nodes_in ends 0 node done) (no_nodes ends node done) (taken_local done)
nodes_local ends (suc count) node done =
    let rest = λ (history : List HistoryLine) (left : List (List ℕ)). nodes_in ends count (node + 1) (done ++ history ∷ []) left in
    let next = λ (u : Unit {0}) (rest_ : List (List ℕ)). then_ (history_in ends rest_) rest in
    same_local (λ ps. then_ (header_in node ps) next) (nodes_in ends (suc count) node done) (one_node ends count node done)
    (then_local (header_in node) next (line_local (is_header node) rule.NodeLine)
    (λ u. then_local (history_in ends) rest (history_local ends) (λ history. nodes_local ends count (node + 1) (done ++ history ∷ []))))

-- what an actor holds
last_nil : last_in [] ≡ Taken None []
unfolding last_in
last_nil = refl

last_short : (l : List ℕ) → last_in (l ∷ []) ≡ Taken None (l ∷ [])
unfolding last_in
last_short l = refl

last_first : (l m : List ℕ) (ps : List (List ℕ))
    → last_in (l ∷ m ∷ ps) ≡ (if begins l (codes "position ") then held_from (l ∷ m ∷ ps) (number_in 0 (drop 9 l)) (m ∷ ps) else Taken None (l ∷ m ∷ ps))
unfolding last_in
last_first l m ps = refl

last_not : (l m : List ℕ) (ps : List (List ℕ)) → begins l (codes "position ") ≡ false → last_in (l ∷ m ∷ ps) ≡ Taken None (l ∷ m ∷ ps)
last_not l m ps e = last_first l m ps ∙ ap (λ b. if b then held_from (l ∷ m ∷ ps) (number_in 0 (drop 9 l)) (m ∷ ps) else Taken None (l ∷ m ∷ ps)) e

last_some : (l m : List ℕ) (ps : List (List ℕ)) (o : Option ℕ) → begins l (codes "position ") ≡ true → number_in 0 (drop 9 l) ≡ o → last_in (l ∷ m ∷ ps) ≡ held_from (l ∷ m ∷ ps) o (m ∷ ps)
last_some l m ps o e n =
    last_first l m ps ∙ ap (λ b. if b then held_from (l ∷ m ∷ ps) (number_in 0 (drop 9 l)) (m ∷ ps) else Taken None (l ∷ m ∷ ps)) e ∙ ap (λ q. held_from (l ∷ m ∷ ps) q (m ∷ ps)) n

nil_taken : (other : List (List ℕ)) → Alike [] other → last_in other ≡ Taken None other
nil_taken [] h = last_nil
nil_taken (k ∷ qs) h = absurd h

short_taken : (l : List ℕ) (other : List (List ℕ)) → Alike (l ∷ []) other → last_in other ≡ Taken None other
short_taken l [] h = absurd h
short_taken l (k ∷ []) h = last_short k
short_taken l (k ∷ n ∷ qs) h = absurd h

not_taken : (l m : List ℕ) (ps : List (List ℕ)) → begins l (codes "position ") ≡ false → (other : List (List ℕ)) → Alike (l ∷ m ∷ ps) other → last_in other ≡ Taken None other
not_taken l m ps e [] h = absurd h
not_taken l m ps e (k ∷ []) h = absurd h
not_taken l m ps e (k ∷ n ∷ qs) h = last_not k n qs (ap (λ x. begins x (codes "position ")) h ∙ e)

place_broken : (l m : List ℕ) (ps : List (List ℕ)) → begins l (codes "position ") ≡ true → number_in 0 (drop 9 l) ≡ None → (other : List (List ℕ)) → Alike (l ∷ m ∷ ps) other
    → last_in other ≡ Broken other rule.PositionLine
place_broken l m ps e n [] h = absurd h
place_broken l m ps e n (k ∷ []) h = absurd h
place_broken l m ps e n (k ∷ j ∷ qs) h = last_some k j qs None (ap (λ x. begins x (codes "position ")) h ∙ e) (ap (λ x. number_in 0 (drop 9 x)) h ∙ n)

space_is : (position : ℕ) (ps : List (List ℕ)) → space_in position ps ≡ then_ (rows_in ps) (λ rows left. held position rows left)
unfolding space_in
space_is position ps = refl

held_local : (position : ℕ) → IsLocal (space_in position)
held_local position =
    same_local (λ ps. then_ (rows_in ps) (λ rows left. held position rows left)) (space_in position) (space_is position)
    (then_local rows_in (λ rows left. held position rows left) rows_local (λ rows ps. record { front = []; are = refl; others = λ other h. refl }))

held_first : (l : List ℕ) (position : ℕ) → begins l (codes "position ") ≡ true → number_in 0 (drop 9 l) ≡ Some position → (k : List ℕ) (qs : List (List ℕ))
    → last_in (l ∷ k ∷ qs) ≡ space_in position (k ∷ qs)
held_first l position e n k qs = last_some l k qs (Some position) e n

last_local : IsLocal last_in
last_local [] = subst (Kept last_in []) (sym last_nil) (record { front = []; are = refl; others = nil_taken })
last_local (l ∷ []) = subst (Kept last_in (l ∷ [])) (sym (last_short l)) (record { front = []; are = refl; others = short_taken l })
last_local (l ∷ m ∷ ps) = by (begins l (codes "position ")) (number_in 0 (drop 9 l)) refl refl
  where
    by : (b : Bool) (o : Option ℕ) → begins l (codes "position ") ≡ b → number_in 0 (drop 9 l) ≡ o → Kept last_in (l ∷ m ∷ ps) (last_in (l ∷ m ∷ ps))
    by false o e n = subst (Kept last_in (l ∷ m ∷ ps)) (sym (last_not l m ps e)) (record { front = []; are = refl; others = not_taken l m ps e })
    by true None e n = subst (Kept last_in (l ∷ m ∷ ps)) (sym (last_some l m ps None e n)) (record { front = []; are = refl; others = place_broken l m ps e n })
    by true (Some position) e n =
        subst (Kept last_in (l ∷ m ∷ ps)) (sym (held_first l position e n m ps))
        (after_line last_in (space_in position) l m ps (held_first l position e n) (space_in position (m ∷ ps)) (held_local position (m ∷ ps)))

-- callers
actor_is : (nodes : ℕ) (name : List ℕ) (c : Callers) (ps : List (List ℕ))
    → actor_in nodes name c ps ≡ then_ (record_in nodes ps) (λ lines left. then_ (last_in left) (λ last over. Taken (with_actor c name lines last) over))
unfolding actor_in
actor_is nodes name c ps = refl

actor_local : (nodes : ℕ) (name : List ℕ) (c : Callers) → IsLocal (actor_in nodes name c)
actor_local nodes name c =
    let last = λ (lines : List Record) (last_ : Option LastSpace) (over : List (List ℕ)). Taken (with_actor c name lines last_) over in
    let next = λ (lines : List Record) (left : List (List ℕ)). then_ (last_in left) (last lines) in
    same_local (λ ps. then_ (record_in nodes ps) next) (actor_in nodes name c) (actor_is nodes name c)
    (then_local (record_in nodes) next (record_local nodes) (λ lines. then_local last_in (last lines) last_local (λ last_. taken_local (with_actor c name lines last_))))

no_actors : (nodes : ℕ) (c : Callers) (ps : List (List ℕ)) → actors_in nodes [] c ps ≡ Taken c ps
unfolding actors_in
no_actors nodes c ps = refl

one_actor : (nodes : ℕ) (x : End) (ends : List End) (c : Callers) (ps : List (List ℕ))
    → actors_in nodes (x ∷ ends) c ps ≡ then_ (name_in x.name ps) (λ u rest. then_ (actor_in nodes x.name c rest) (λ more left. actors_in nodes ends more left))
unfolding actors_in
one_actor nodes x ends c ps = refl

actors_local : (nodes : ℕ) (ends : List End) (c : Callers) → IsLocal (actors_in nodes ends c)
actors_local nodes [] c = same_local (λ ps. Taken c ps) (actors_in nodes [] c) (no_actors nodes c) (taken_local c)
actors_local nodes (x ∷ ends) c =
    let rest = λ (more : Callers) (left : List (List ℕ)). actors_in nodes ends more left in
    let next = λ (u : Unit {0}) (rest_ : List (List ℕ)). then_ (actor_in nodes x.name c rest_) rest in
    same_local (λ ps. then_ (name_in x.name ps) next) (actors_in nodes (x ∷ ends) c) (one_actor nodes x ends c)
    (then_local (name_in x.name) next (line_local (is_name_line x.name) rule.ActorLine)
    (λ u. then_local (actor_in nodes x.name c) rest (actor_local nodes x.name c) (λ more. actors_local nodes ends more)))

operator_is : (nodes : ℕ) (c : Callers) (ps : List (List ℕ))
    → operator_in nodes c ps ≡
    (if is_name_next ps then then_ (name_in operator ps) (λ u rest. then_ (record_in nodes rest) (λ lines left. Taken (with_record c lines) left)) else Taken (with_record c []) ps)
unfolding operator_in
operator_is nodes c ps = refl

next_same : (ps qs : List (List ℕ)) → Alike ps qs → is_name_next qs ≡ is_name_next ps
unfolding is_next
next_same [] [] h = refl
next_same [] (k ∷ qs) h = absurd h
next_same (l ∷ []) [] h = absurd h
next_same (l ∷ []) (k ∷ []) h = refl
next_same (l ∷ []) (k ∷ n ∷ qs) h = absurd h
next_same (l ∷ m ∷ ps) [] h = absurd h
next_same (l ∷ m ∷ ps) (k ∷ []) h = absurd h
next_same (l ∷ m ∷ ps) (k ∷ n ∷ qs) h = ap tells_name h

operator_local : (nodes : ℕ) (c : Callers) → IsLocal (operator_in nodes c)
operator_local nodes c =
    let rest = λ (lines : List Record) (left : List (List ℕ)). Taken (with_record c lines) left in
    let next = λ (u : Unit {0}) (rest_ : List (List ℕ)). then_ (record_in nodes rest_) rest in
    let some = λ (ps : List (List ℕ)). then_ (name_in operator ps) next in
    same_local (λ ps. if is_name_next ps then some ps else Taken (with_record c []) ps) (operator_in nodes c) (operator_is nodes c)
    (chosen_local is_name_next some (λ ps. Taken (with_record c []) ps) next_same
    (then_local (name_in operator) next (line_local (is_name_line operator) rule.ActorLine) (λ u. then_local (record_in nodes) rest (record_local nodes) (λ lines. taken_local
    (with_record c lines))))
    (taken_local (with_record c [])))

nothing_local : IsLocal nothing_in
unfolding nothing_in
nothing_local [] = record { front = []; are = refl; others = by }
  where
    by : (other : List (List ℕ)) → Alike [] other → nothing_in other ≡ Taken tt other
    by [] h = refl
    by (k ∷ qs) h = absurd h
nothing_local ([] ∷ []) = record { front = [] ∷ []; are = refl; others = by }
  where
    by : (other : List (List ℕ)) → Alike [] other → nothing_in ([] ∷ other) ≡ Taken tt other
    by [] h = refl
    by (k ∷ qs) h = absurd h
nothing_local ([] ∷ m ∷ ps) = record { front = []; are = refl; others = by }
  where
    same : (k : List ℕ) (n : List ℕ) (qs : List (List ℕ)) → k ≡ [] → nothing_in (k ∷ n ∷ qs) ≡ Broken (k ∷ n ∷ qs) rule.LastLine
    same [] n qs e = refl
    same (b ∷ bs) n qs e = refl

    by : (other : List (List ℕ)) → Alike ([] ∷ m ∷ ps) other → nothing_in other ≡ Broken other rule.LastLine
    by [] h = absurd h
    by (k ∷ []) h = absurd h
    by (k ∷ n ∷ qs) h = same k n qs h
nothing_local ((b ∷ bs) ∷ ps) = record { front = []; are = refl; others = by ps }
  where
    same : (k : List ℕ) (qs : List (List ℕ)) → k ≡ b ∷ bs → nothing_in (k ∷ qs) ≡ Broken (k ∷ qs) rule.LastLine
    same [] qs e = absurd cc
    same (c ∷ cs) qs e = refl

    by : (ps : List (List ℕ)) (other : List (List ℕ)) → Alike ((b ∷ bs) ∷ ps) other → nothing_in other ≡ Broken other rule.LastLine
    by [] [] h = absurd h
    by (m ∷ ps) [] h = absurd h
    by [] (k ∷ []) h = same k [] h
    by [] (k ∷ n ∷ qs) h = absurd h
    by (m ∷ ps) (k ∷ []) h = absurd h
    by (m ∷ ps) (k ∷ n ∷ qs) h = same k (n ∷ qs) h

end_is : (ps : List (List ℕ)) → end_in ps ≡ then_ (line_if is_end_line rule.LastLine ps) (λ u rest. nothing_in rest)
unfolding end_in
end_is ps = refl

end_local : IsLocal end_in
end_local =
    same_local (λ ps. then_ (line_if is_end_line rule.LastLine ps) (λ u rest. nothing_in rest)) end_in end_is
    (then_local (line_if is_end_line rule.LastLine) (λ u rest. nothing_in rest) (line_local is_end_line rule.LastLine) (λ u. nothing_local))

callers_is : (nodes : ℕ) (names : List End) (c : Callers) (ps : List (List ℕ))
    → callers_in nodes names c ps ≡ then_ (actors_in nodes names c ps) (λ actors rest. then_ (operator_in nodes actors rest) (λ all left. then_ (end_in left) (λ u over. Taken all over)))
unfolding callers_in
callers_is nodes names c ps = refl

callers_local : (nodes : ℕ) (names : List End) (c : Callers) → IsLocal (callers_in nodes names c)
callers_local nodes names c =
    let last = λ (all : Callers) (u : Unit {0}) (over : List (List ℕ)). Taken all over in
    let more = λ (all : Callers) (left : List (List ℕ)). then_ (end_in left) (last all) in
    let next = λ (actors : Callers) (rest : List (List ℕ)). then_ (operator_in nodes actors rest) more in
    same_local (λ ps. then_ (actors_in nodes names c ps) next) (callers_in nodes names c) (callers_is nodes names c)
    (then_local (actors_in nodes names c) next (actors_local nodes names c)
    (λ actors. then_local (operator_in nodes actors) more (operator_local nodes actors) (λ all. then_local end_in (last all) end_local (λ u. taken_local all))))

pub lists_with_local : (nodes : ℕ) (names : List End) → IsLocal (lists_with nodes names)
lists_with_local nodes names =
    let last = λ (histories : List (List HistoryLine)) (callers : Callers) (over : List (List ℕ)). Taken (read_as nodes histories callers) over in
    let next = λ (histories : List (List HistoryLine)) (left : List (List ℕ)). then_ (callers_in nodes names no_callers left) (last histories) in
    then_local (nodes_in names nodes 1 []) next (nodes_local names nodes 1 [])
    (λ histories. then_local (callers_in nodes names no_callers) (last histories) (callers_local nodes names no_callers) (λ callers. taken_local (read_as nodes histories callers)))

-- the first line
abbrev told_nodes : List ℕ → Option ℕ
told_nodes l = if begins l (codes "nodes ") then number_within 1 most_nodes (drop 6 l) else None

first_nil : first_in [] ≡ Broken [] rule.FirstLine
unfolding first_in
first_nil = refl

first_short : (l : List ℕ) → first_in (l ∷ []) ≡ Broken (l ∷ []) rule.FirstLine
unfolding first_in
first_short l = refl

first_is : (l m : List ℕ) (ps : List (List ℕ)) (o : Option ℕ) → told_nodes l ≡ o → first_in (l ∷ m ∷ ps) ≡ first_by (l ∷ m ∷ ps) o (m ∷ ps)
unfolding first_in
first_is l m ps o e = ap (λ q. first_by (l ∷ m ∷ ps) q (m ∷ ps)) e

nil_broken : (other : List (List ℕ)) → Alike [] other → first_in other ≡ Broken other rule.FirstLine
nil_broken [] h = first_nil
nil_broken (k ∷ qs) h = absurd h

short_broken : (l : List ℕ) (other : List (List ℕ)) → Alike (l ∷ []) other → first_in other ≡ Broken other rule.FirstLine
short_broken l [] h = absurd h
short_broken l (k ∷ []) h = first_short k
short_broken l (k ∷ n ∷ qs) h = absurd h

none_broken : (l m : List ℕ) (ps : List (List ℕ)) → told_nodes l ≡ None → (other : List (List ℕ)) → Alike (l ∷ m ∷ ps) other → first_in other ≡ Broken other rule.FirstLine
none_broken l m ps e [] h = absurd h
none_broken l m ps e (k ∷ []) h = absurd h
none_broken l m ps e (k ∷ n ∷ qs) h = first_is k n qs None (ap told_nodes h ∙ e)

pub first_local : IsLocal first_in
first_local [] = subst (Kept first_in []) (sym first_nil) (record { front = []; are = refl; others = nil_broken })
first_local (l ∷ []) = subst (Kept first_in (l ∷ [])) (sym (first_short l)) (record { front = []; are = refl; others = short_broken l })
first_local (l ∷ m ∷ ps) = by (told_nodes l) refl
  where
    by : (o : Option ℕ) → told_nodes l ≡ o → Kept first_in (l ∷ m ∷ ps) (first_in (l ∷ m ∷ ps))
    by None e = subst (Kept first_in (l ∷ m ∷ ps)) (sym (first_is l m ps None e)) (record { front = []; are = refl; others = none_broken l m ps e })
    by (Some n) e =
        subst (Kept first_in (l ∷ m ∷ ps)) (sym (first_is l m ps (Some n) e))
        (after_line first_in (λ qs. Taken n qs) l m ps (λ k qs. first_is l k qs (Some n) e) (Taken n (m ∷ ps)) (record { front = []; are = refl; others = λ other h. refl }))

-- with these names
pub named_local : (names : List End) → IsLocal (λ ps. then_ (first_in ps) (λ nodes rest. lists_with nodes names rest))
named_local names = then_local first_in (λ nodes rest. lists_with nodes names rest) first_local (λ nodes. lists_with_local nodes names)
