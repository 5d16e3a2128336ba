-- What is read line by line.
use Rattle.std.proofs.Common.{ℕ, zero, suc, ◌≡◌, ◌≢◌, ◌==◌, List, [], ◌∷◌, ◌++◌, Bool, true, false, cond, Option, Some, None, length, refl, sym, ap, subst, ◌∙◌, arith, inl, inr}
use Rattle.std.proofs.Common.{append_assoc, append-nil, if◌then◌else◌}
use Rattle.std.specs.List.{All, AllByRecursion, slice_split, join_with_byte, flat_map}
use Rattle.std.proofs.lemmas.Bool.Decides.{eqb_tells}
use Rattle.std.proofs.lemmas.List.Splits.{slice_split_at, slice_split_none, join_with_byte-slice_split}
use Rattle.play_script.specs.Lines.{Lacks}
use Rattle.report_judge.specs.declared.rules.Rule.{Rule}
use Rattle.report_judge.specs.declared.unread.Unread.{Unread}
use Rattle.report_judge.specs.declared.unread.Unread.TheVariants as unread
use Rattle.report_judge.specs.Pieces.{pieces, joined, Front, Taken, Broken, line_if, is_next, with_line, lines_while, behind, then_, IsBroken, Stops, IsLineOf, AreRead}

-- ## Pieces
pub not_byte : (b c : ℕ) → b ≢ c → (b == c) ≡ false
not_byte b c n = elim (eqb_tells b c) [ inl p ↦ absurd (n p.1) | inr p ↦ p.0 ]

pub each_lacks : (c : ℕ) (xs : List ℕ) → Lacks c xs → All (λ b. (b == c) ≡ false) xs
each_lacks c [] h k d l = absurd (omega arith)
each_lacks c (x ∷ xs) h zero d l = not_byte x c h.0
each_lacks c (x ∷ xs) h (suc k) d l = each_lacks c xs h.1 k d (omega arith)

-- the first line of a text is its first piece
pub first_piece : (text line rest : List ℕ) → text ≡ line ++ 10 ∷ rest → Lacks 10 line → pieces text ≡ line ∷ pieces rest
unfolding pieces
first_piece text line rest e h = ap (slice_split (λ b. b == 10)) e ∙ slice_split_at (λ b. b == 10) line 10 rest (each_lacks 10 line h) refl

-- a text without a line end is one piece
pub only_piece : (text : List ℕ) → Lacks 10 text → pieces text ≡ text ∷ []
unfolding pieces
only_piece text h = slice_split_none (λ b. b == 10) text (each_lacks 10 text h)

pub joined_pieces : (text : List ℕ) → joined (pieces text) ≡ text
unfolding pieces
joined_pieces text = join_with_byte-slice_split 10 text

-- a text has a piece
pub record HasPiece (ps : List (List ℕ)) : Type 0 where
  pub first : List ℕ
  pub others : List (List ℕ)
  pub are : ps ≡ first ∷ others

onto_has : (b : Bool) (x : ℕ) (ps : List (List ℕ)) → HasPiece ps → HasPiece (cond b ([] ∷ ps) (Rattle.std.specs.List.onto_first x ps))
onto_has true x ps h = record { first = []; others = ps; are = refl }
onto_has false x [] h = absurd (let e = h.are in cc)
onto_has false x (p ∷ ps) h = record { first = x ∷ p; others = ps; are = refl }

pub has_piece : (text : List ℕ) → HasPiece (pieces text)
unfolding pieces
has_piece [] = record { first = []; others = []; are = refl }
has_piece (b ∷ bs) = onto_has (b == 10) b (slice_split (λ b. b == 10) bs) (has_piece bs)

-- ## One line
if_by : (own : List ℕ → Bool) (rule : Rule) (l : List ℕ) (ps : List (List ℕ)) → HasPiece ps → line_if own rule (l ∷ ps) ≡ (if own l then Taken tt ps else Broken (l ∷ ps) rule)
unfolding line_if
if_by own rule l [] h = absurd (let e = h.are in cc)
if_by own rule l (m ∷ ps) h = refl

if_line : (own : List ℕ → Bool) (rule : Rule) (text line rest : List ℕ) → text ≡ line ++ 10 ∷ rest → Lacks 10 line
    → line_if own rule (pieces text) ≡ (if own line then Taken tt (pieces rest) else Broken (pieces text) rule)
if_line own rule text line rest e h =
    let p : pieces text ≡ line ∷ pieces rest = first_piece text line rest e h in
    ap (line_if own rule) p ∙ if_by own rule line (pieces rest) (has_piece rest) ∙ ap (λ ps. if own line then Taken tt (pieces rest) else Broken ps rule) (sym p)

pub line_taken : (own : List ℕ → Bool) (rule : Rule) (text line rest : List ℕ) → text ≡ line ++ 10 ∷ rest → Lacks 10 line → own line ≡ true
    → line_if own rule (pieces text) ≡ Taken tt (pieces rest)
line_taken own rule text line rest e h o = if_line own rule text line rest e h ∙ ap (λ b. if b then Taken tt (pieces rest) else Broken (pieces text) rule) o

line_refused : (own : List ℕ → Bool) (rule : Rule) (text line rest : List ℕ) → text ≡ line ++ 10 ∷ rest → Lacks 10 line → own line ≡ false
    → line_if own rule (pieces text) ≡ Broken (pieces text) rule
line_refused own rule text line rest e h o = if_line own rule text line rest e h ∙ ap (λ b. if b then Taken tt (pieces rest) else Broken (pieces text) rule) o

line_missed : (own : List ℕ → Bool) (rule : Rule) (text : List ℕ) → Lacks 10 text → line_if own rule (pieces text) ≡ Broken (pieces text) rule
unfolding line_if
line_missed own rule text h = let p : pieces text ≡ text ∷ [] = only_piece text h in ap (line_if own rule) p ∙ ap (λ ps. Broken ps rule) (sym p)

next_by : (own : List ℕ → Bool) (l : List ℕ) (ps : List (List ℕ)) → HasPiece ps → is_next own (l ∷ ps) ≡ own l
unfolding is_next
next_by own l [] h = absurd (let e = h.are in cc)
next_by own l (m ∷ ps) h = refl

pub next_is : (own : List ℕ → Bool) (text line rest : List ℕ) → text ≡ line ++ 10 ∷ rest → Lacks 10 line → is_next own (pieces text) ≡ own line
next_is own text line rest e h = ap (is_next own) (first_piece text line rest e h) ∙ next_by own line (pieces rest) (has_piece rest)

pub next_none : (own : List ℕ → Bool) (text : List ℕ) → Lacks 10 text → is_next own (pieces text) ≡ false
unfolding is_next
next_none own text h = ap (is_next own) (only_piece text h)

-- ## Lines
module _ {X : Type 0} (own : List ℕ → Bool) (read : List ℕ → Option X) (rule : Rule) where
  abbrev of : List (List ℕ) → Front (List X)
  of ps = lines_while own read rule ps

  -- one line and what follows it
  one : (l : List ℕ) (ps : List (List ℕ)) → HasPiece ps → of (l ∷ ps) ≡ (if own l then with_line rule (l ∷ ps) (read l) (of ps) else Taken [] (l ∷ ps))
  unfolding lines_while
  one l [] h = absurd (let e = h.are in cc)
  one l (m ∷ ps) h = refl

  pub stops_at : (text line rest : List ℕ) → text ≡ line ++ 10 ∷ rest → Lacks 10 line → own line ≡ false → of (pieces text) ≡ Taken [] (pieces text)
  stops_at text line rest e h o =
      let p : pieces text ≡ line ∷ pieces rest = first_piece text line rest e h in
      ap of p ∙ one line (pieces rest) (has_piece rest)
      ∙ ap (λ b. if b then with_line rule (line ∷ pieces rest) (read line) (of (pieces rest)) else Taken [] (line ∷ pieces rest)) o ∙ ap (λ ps. Taken [] ps) (sym p)

  pub stops_short : (text : List ℕ) → Lacks 10 text → of (pieces text) ≡ Taken [] (pieces text)
  unfolding lines_while
  stops_short text h = let p : pieces text ≡ text ∷ [] = only_piece text h in ap of p ∙ ap (λ ps. Taken [] ps) (sym p)

  pub line_by : (text line rest : List ℕ) → text ≡ line ++ 10 ∷ rest → Lacks 10 line → own line ≡ true → of (pieces text) ≡ with_line rule (pieces text) (read line) (of (pieces rest))
  line_by text line rest e h o =
      let p : pieces text ≡ line ∷ pieces rest = first_piece text line rest e h in
      ap of p ∙ one line (pieces rest) (has_piece rest)
      ∙ ap (λ b. if b then with_line rule (line ∷ pieces rest) (read line) (of (pieces rest)) else Taken [] (line ∷ pieces rest)) o
      ∙ ap (λ ps. with_line rule ps (read line) (of (pieces rest))) (sym p)

  pub is_broken : (text line rest : List ℕ) → text ≡ line ++ 10 ∷ rest → Lacks 10 line → own line ≡ true → read line ≡ None → of (pieces text) ≡ Broken (pieces text) rule
  is_broken text line rest e h o n = line_by text line rest e h o ∙ ap (λ r. with_line rule (pieces text) r (of (pieces rest))) n

  behind_more : (done : List X) (x : X) (here : List (List ℕ)) (f : Front (List X)) → behind done (with_line rule here (Some x) f) ≡ behind (done ++ x ∷ []) f
  behind_more done x here (Taken xs left) = ap (λ ys. Taken ys left) (sym (append_assoc done (x ∷ []) xs))
  behind_more done x here (Broken left r) = refl

  -- one more line
  pub goes_on : (done : List X) (text line rest : List ℕ) (x : X) → text ≡ line ++ 10 ∷ rest → Lacks 10 line → own line ≡ true → read line ≡ Some x
      → behind done (of (pieces text)) ≡ behind (done ++ x ∷ []) (of (pieces rest))
  goes_on done text line rest x e h o r =
      ap (behind done) (line_by text line rest e h o ∙ ap (λ q. with_line rule (pieces text) q (of (pieces rest))) r) ∙ behind_more done x (pieces text) (of (pieces rest))

  -- ## What is printed line by line is read
  behind_behind : (x : X) (here : List (List ℕ)) (xs : List X) (f : Front (List X)) → with_line rule here (Some x) (behind xs f) ≡ behind (x ∷ xs) f
  behind_behind x here xs (Taken ys left) = refl
  behind_behind x here xs (Broken left r) = refl

  none_behind : (f : Front (List X)) → f ≡ behind [] f
  none_behind (Taken ys left) = refl
  none_behind (Broken left r) = refl

  pub lines_back : (text : X → List ℕ) (xs : List X) (after : List ℕ) → AllByRecursion (IsLineOf own read text) xs → AreRead of text xs after
  lines_back text [] after h = record { things = []; are = none_behind (of (pieces after)); same = refl }
  lines_back text (x ∷ xs) after h =
      let rest = lines_back text xs after h.1 in
      let l = h.0 in
      let all : (text x ++ flat_map text xs) ++ after ≡ l.line ++ 10 ∷ (flat_map text xs ++ after) =
      append_assoc (text x) (flat_map text xs) after ∙ ap (λ t. t ++ (flat_map text xs ++ after)) l.spelled ∙ append_assoc l.line (10 ∷ []) (flat_map text xs ++ after) in
      record {
        things = l.thing ∷ rest.things;
        are =
            line_by ((text x ++ flat_map text xs) ++ after) l.line (flat_map text xs ++ after) all l.whole l.own_line
            ∙ ap (λ q. with_line rule (pieces ((text x ++ flat_map text xs) ++ after)) q (of (pieces (flat_map text xs ++ after)))) l.is_read
            ∙ ap (with_line rule (pieces ((text x ++ flat_map text xs) ++ after)) (Some l.thing)) rest.are
            ∙ behind_behind l.thing (pieces ((text x ++ flat_map text xs) ++ after)) rest.things (of (pieces after));
        same = ap (λ t. t ++ flat_map text rest.things) l.same ∙ ap (λ t. text x ++ t) rest.same;
      }

  -- each line is read as itself
  abbrev pub AreThemselves : (text : X → List ℕ) (xs : List X) → AllByRecursion (IsLineOf own read text) xs → Type 0
  AreThemselves text [] h = Unit {0}
  AreThemselves text (x ∷ xs) h = (h.0.thing ≡ x) × AreThemselves text xs h.1

  -- then those that are read are the same
  pub lines_unchanged : (text : X → List ℕ) (xs : List X) (after : List ℕ) (h : AllByRecursion (IsLineOf own read text) xs) → AreThemselves text xs h → (lines_back text xs after h).things ≡ xs
  unfolding lines_back
  lines_unchanged text [] after h k = refl
  lines_unchanged text (x ∷ xs) after h k = λ i. k.0 i ∷ lines_unchanged text xs after h.1 k.1 i

-- ## Where reading stops
pub broken_here : {A : Type 0} (f : Front A) (text : List ℕ) (rule : Rule) → f ≡ Broken (pieces text) rule → IsBroken f (length text) rule
broken_here f text rule e = rw e (refl, ap length (sym (joined_pieces text)))

pub refused_here : (own : List ℕ → Bool) (rule : Rule) (text line rest : List ℕ) → text ≡ line ++ 10 ∷ rest → Lacks 10 line → own line ≡ false
    → IsBroken (line_if own rule (pieces text)) (length text) rule
refused_here own rule text line rest e h o = broken_here (line_if own rule (pieces text)) text rule (line_refused own rule text line rest e h o)

pub missed_here : (own : List ℕ → Bool) (rule : Rule) (text : List ℕ) → Lacks 10 text → IsBroken (line_if own rule (pieces text)) (length text) rule
missed_here own rule text h = broken_here (line_if own rule (pieces text)) text rule (line_missed own rule text h)

-- ## One after another
pub stops_then : {A B : Type 0} (f : Front A) (next : A → List (List ℕ) → Front B) (e : Unread) → Stops f e → Stops (then_ f next) e
stops_then (Taken x left) next (unread.Bad bytes rule) h = absurd h
stops_then (Broken left r) next (unread.Bad bytes rule) h = h
stops_then f next unread.OutOfMemory h = tt

pub stops_after : {A B : Type 0} (f : Front A) (next : A → List (List ℕ) → Front B) (x : A) (left : List (List ℕ)) (e : Unread) → f ≡ Taken x left → Stops (next x left) e → Stops (then_ f next) e
stops_after f next x left e is h = subst (λ g. Stops (then_ g next) e) (sym is) h

pub stops_at_all : {A : Type 0} (f all : Front A) (e : Unread) → f ≡ all → Stops f e → Stops all e
stops_at_all f all e is h = subst (λ g. Stops g e) is h

-- things that were read before don't matter
broken_by : {X : Type 0} (done : List X) (f : Front (List X)) (left : List (List ℕ)) (rule : Rule) → behind done f ≡ Broken left rule → f ≡ Broken left rule
broken_by done (Taken x l) left rule h = absurd cc
broken_by done (Broken l r) left rule h = cc

pub broken_list : {X : Type 0} (done before : List X) (f all : Front (List X)) (text : List ℕ) (rule : Rule) → behind done f ≡ behind before all → f ≡ Broken (pieces text) rule
    → IsBroken all (length text) rule
broken_list done before f all text rule h e = broken_here all text rule (broken_by before all (pieces text) rule (sym h ∙ ap (behind done) e))

pub none_before : {X : Type 0} (f : Front (List X)) → behind [] f ≡ f
none_before (Taken ys left) = refl
none_before (Broken left r) = refl

pub taken_list : {X : Type 0} (done before : List X) (f all : Front (List X)) (left : List (List ℕ)) → behind done f ≡ behind before all → f ≡ Taken [] left → behind before all ≡ Taken done left
taken_list done before f all left h e = sym h ∙ ap (behind done) e ∙ ap (λ xs. Taken xs left) (append-nil done)
