-- The names of actors: where they stand, and how callers are found by them.
use Rattle.std.proofs.Common.{ℕ, zero, suc, ◌≡◌, ◌≢◌, ◌<◌, ◌≤◌, ◌+◌, ◌&&◌, ◌||◌, nat_le, nat_lt, List, [], ◌∷◌, ◌++◌, map, Bool, true, false, not, Option, Some, None, length, drop}
use Rattle.std.proofs.Common.{refl, sym, ap, subst, ◌∙◌, arith, append_assoc, if◌then◌else◌}
use Rattle.std.specs.Prelude.{codes, slice_get, is_none, option_map, unwrap_or}
use Rattle.std.specs.List.{AllByRecursion, list_all, flat_map}
use Rattle.std.specs.Str.{bytes_eq}
use Rattle.std.proofs.lemmas.Bool.Decides.{nat_tests, Decides-eqb}
use Rattle.std.proofs.lemmas.Bool.{and_parts, false≢true}
use Rattle.std.proofs.lemmas.Slice.Eq.{bytes_eq-Decides, starts_is}
use Rattle.std.proofs.lemmas.Option.{slice_get-map}
use Rattle.ns_tree.specs.declared.end.End.{End}
use Rattle.play_script.specs.Lines.{Lacks}
use Rattle.play_script.specs.Words.{is_letter, is_name_byte, is_word_of_name, is_name}
use Rattle.play_report.specs.Text.{operator, name_or_operator, caller_name}
use Rattle.report_judge.specs.Callers.{bare, caller_from, caller_in}
use Rattle.report_judge.specs.Cuts.{has_arrow}
use Rattle.report_judge.specs.Pieces.{pieces}
use Rattle.report_judge.specs.Reading.{tells_name, may_follow, with_name, names_from}
use Rattle.report_judge.specs.Complete.{bared}
use Rattle.report_judge.specs.Written.{AreNamed}
use Rattle.report_judge.proofs.PieceLaws.{first_piece, has_piece, HasPiece}
use Rattle.report_judge.proofs.CutLaws.{arrow_missed, Lacks-append}

-- ## The bytes of a name
apart_if : (c b : ℕ) → is_name_byte c ≡ false → is_name_byte b ≡ true → b ≢ c
apart_if c b f t e = absurd (false≢true (sym f ∙ sym (ap is_name_byte e) ∙ t))

bytes_lack : (c : ℕ) → is_name_byte c ≡ false → (bs : List ℕ) → list_all is_name_byte bs ≡ true → Lacks c bs
bytes_lack c f [] h = tt
bytes_lack c f (b ∷ bs) h = let p = and_parts (is_name_byte b) (list_all is_name_byte bs) h in (apart_if c b f p.0, bytes_lack c f bs p.1)

letter_is : (b : ℕ) → is_letter b ≡ true → is_name_byte b ≡ true
letter_is b h = ap (λ t. t || (nat_le 48 b && nat_le b 57)) h

word_lacks : (c : ℕ) → is_name_byte c ≡ false → (w : List ℕ) → is_word_of_name w ≡ true → Lacks c w
word_lacks c f [] h = tt
word_lacks c f (b ∷ bs) h =
    let p = and_parts (is_letter b && list_all is_name_byte bs) (nat_lt (length bs) 16) h in
    let q = and_parts (is_letter b) (list_all is_name_byte bs) p.0 in (apart_if c b f (letter_is b q.0), bytes_lack c f bs q.1)

pub name_lacks : (c : ℕ) → is_name_byte c ≡ false → (w : List ℕ) → is_name w ≡ true → Lacks c w
unfolding is_name
name_lacks c f w h = word_lacks c f w (and_parts (is_word_of_name w) (not (bytes_eq w operator)) h).0

not_both : (b : Bool) → b ≡ true → not b ≡ true → ⊥
not_both true e n = absurd (false≢true n)
not_both false e n = absurd (false≢true e)

-- an actor's name isn't the operator's
pub name_apart : (w : List ℕ) → is_name w ≡ true → w ≢ operator
unfolding is_name
name_apart w h e = not_both (bytes_eq w operator) ((bytes_eq-Decides w operator).1 e) (and_parts (is_word_of_name w) (not (bytes_eq w operator)) h).1

pub operator_lacks : (c : ℕ) → is_name_byte c ≡ false → Lacks c operator
operator_lacks c f = bytes_lack c f operator refl

pub caller_lacks : (c : ℕ) → is_name_byte c ≡ false → (ends : List End) (k : ℕ) → AreNamed ends → Lacks c (caller_name ends k)
caller_lacks c f [] k h = operator_lacks c f
caller_lacks c f (e ∷ ends) zero h = name_lacks c f e.name h.0
caller_lacks c f (e ∷ ends) (suc k) h = caller_lacks c f ends k h.2

-- ## Callers by their names
other_name : (ends : List End) (k : ℕ) (w : List ℕ) → AllByRecursion (λ (other : End). other.name ≢ w) ends → w ≢ operator → w ≢ caller_name ends k
other_name [] k w h n = n
other_name (e ∷ ends) zero w h n = λ q. h.0 (sym q)
other_name (e ∷ ends) (suc k) w h n = other_name ends k w h.1 n

is_not : (b : Bool) → (b ≡ true → ⊥) → b ≡ false
is_not true n = absurd (n refl)
is_not false n = refl

differ : (v w : List ℕ) → v ≢ w → bytes_eq v w ≡ false
differ v w n = is_not (bytes_eq v w) (λ t. n ((bytes_eq-Decides v w).0 t))

pub caller_back : (number : ℕ) (ends : List End) (k : ℕ) → AreNamed ends → k ≤ length ends → caller_from number (bared ends) (caller_name ends k) ≡ Some (number + k)
unfolding caller_from
caller_back number [] zero h l = ap (λ n. Some n) (omega arith)
caller_back number [] (suc k) h l = absurd (omega (arith, l))
caller_back number (e ∷ ends) zero h l =
    ap (λ b. if b then Some number else caller_from (number + 1) (bared ends) e.name) ((bytes_eq-Decides e.name e.name).1 refl) ∙ ap (λ n. Some n) (omega arith)
caller_back number (e ∷ ends) (suc k) h l =
    ap (λ b. if b then Some number else caller_from (number + 1) (bared ends) (caller_name ends k))
    (differ e.name (caller_name ends k) (other_name ends k e.name h.1 (name_apart e.name h.0)))
    ∙ caller_back (number + 1) ends k h.2 (omega (arith, l)) ∙ ap (λ n. Some n) (omega arith)

-- a name is found by the names alone
name_by : (o : Option End) → name_or_operator o ≡ unwrap_or (option_map (λ (e : End). e.name) o) operator
name_by None = refl
name_by (Some e) = refl

abbrev pub names_of : List End → List (List ℕ)
names_of ends = map (λ (e : End). e.name) ends

pub caller_by : (ends : List End) (k : ℕ) → caller_name ends k ≡ unwrap_or (slice_get (names_of ends) k) operator
caller_by ends k = name_by (slice_get ends k) ∙ ap (λ o. unwrap_or o operator) (sym (slice_get-map (λ (e : End). e.name) ends k))

-- ## Lines that tell no name
pub no_name : (ends : List End) (line : List ℕ) → tells_name line ≡ false → with_name ends line ≡ ends
unfolding with_name
no_name ends line h = ap (λ b. if b && may_follow ends (drop 6 line) then ends ++ bare (drop 6 line) ∷ [] else ends) h

second_false : (a b c : Bool) → b ≡ false → (a && (b && c)) ≡ false
second_false true b c e = rw e refl
second_false false b c e = refl

and_false : (a b : Bool) → b ≡ false → (a && b) ≡ false
and_false true b e = e
and_false false b e = refl

-- what tells no actor's name behind the word
pub other_word : (ends : List End) (line : List ℕ) → is_name (drop 6 line) ≡ false → with_name ends line ≡ ends
unfolding with_name
other_word ends line h =
    ap (λ b. if b then ends ++ bare (drop 6 line) ∷ [] else ends)
    (and_false (tells_name line) (may_follow ends (drop 6 line))
    (second_false (nat_lt (length ends) 8) (is_name (drop 6 line)) (is_none (caller_in ends (drop 6 line))) h))

line_lacks : (line : List ℕ) → tells_name line ≡ true → is_name (drop 6 line) ≡ true → Lacks 62 line
line_lacks line t n =
    let spelled : line ≡ codes "actor " ++ drop 6 line = (starts_is Decides-eqb line (codes "actor ") (tells_name line) refl).0 t in
    subst (Lacks 62) (sym spelled)
    (Lacks-append 62 (codes "actor ") (drop 6 line) ((λ e. cc), ((λ e. cc), ((λ e. cc), ((λ e. cc), ((λ e. cc), ((λ e. cc), tt)))))) (name_lacks 62 refl (drop 6 line) n))

-- a line with an arrow tells none
pub arrow_no_name : (ends : List End) (line : List ℕ) → has_arrow line ≡ true → with_name ends line ≡ ends
arrow_no_name ends line a = by (tells_name line) (is_name (drop 6 line)) refl refl
  where
    by : (t n : Bool) → tells_name line ≡ t → is_name (drop 6 line) ≡ n → with_name ends line ≡ ends
    by false n e f = no_name ends line e
    by true false e f = other_word ends line f
    by true true e f = absurd (false≢true (sym (arrow_missed line (line_lacks line e f)) ∙ a))

-- ## Names line by line
step_by : (ends : List End) (l : List ℕ) (ps : List (List ℕ)) → HasPiece ps → names_from ends (l ∷ ps) ≡ names_from (with_name ends l) ps
unfolding names_from
step_by ends l [] h = absurd (let e = h.are in cc)
step_by ends l (m ∷ ps) h = refl

pub names_step : (ends : List End) (text line rest : List ℕ) → text ≡ line ++ 10 ∷ rest → Lacks 10 line → names_from ends (pieces text) ≡ names_from (with_name ends line) (pieces rest)
names_step ends text line rest e h = ap (names_from ends) (first_piece text line rest e h) ∙ step_by ends line (pieces rest) (has_piece rest)

-- A thing whose text is a line that tells no name.
pub record Nameless {X : Type 0} (text : X → List ℕ) (x : X) : Type 0 where
  pub line : List ℕ
  pub spelled : text x ≡ line ++ 10 ∷ []
  pub whole : Lacks 10 line
  pub none : (ends : List End) → with_name ends line ≡ ends

pub names_over :
    {X : Type 0} (text : X → List ℕ) (xs : List X) (ends : List End) (after : List ℕ) → AllByRecursion (Nameless text) xs
    → names_from ends (pieces (flat_map text xs ++ after)) ≡ names_from ends (pieces after)
names_over text [] ends after h = refl
names_over text (x ∷ xs) ends after h =
    let l = h.0 in
    let all : (text x ++ flat_map text xs) ++ after ≡ l.line ++ 10 ∷ (flat_map text xs ++ after) =
    append_assoc (text x) (flat_map text xs) after ∙ ap (λ t. t ++ (flat_map text xs ++ after)) l.spelled ∙ append_assoc l.line (10 ∷ []) (flat_map text xs ++ after) in
    names_step ends ((text x ++ flat_map text xs) ++ after) l.line (flat_map text xs ++ after) all l.whole
    ∙ ap (λ es. names_from es (pieces (flat_map text xs ++ after))) (l.none ends) ∙ names_over text xs ends after h.1

-- ## An actor's name
abbrev pub Free : List End → List ℕ → Type 0
Free ends name = AllByRecursion (λ (e : End). e.name ≢ name) ends

free_none : (number : ℕ) (ends : List End) (name : List ℕ) → Free ends name → name ≢ operator → caller_from number ends name ≡ None
unfolding caller_from
free_none number [] name h n = ap (λ b. if b then Some number else None) (differ name operator n)
free_none number (e ∷ ends) name h n =
    ap (λ b. if b then Some number else caller_from (number + 1) ends name) (differ e.name name h.0) ∙ free_none (number + 1) ends name h.1 n

pub free_more : (ends : List End) (name other : List ℕ) → Free ends other → name ≢ other → Free (ends ++ bare name ∷ []) other
free_more [] name other h n = (n, tt)
free_more (e ∷ ends) name other h n = (h.0, free_more ends name other h.1 n)

three_true : (a b c : Bool) → a ≡ true → b ≡ true → c ≡ true → (a && (b && c)) ≡ true
three_true a b c e f g = rw (e, f, g) refl

below : (n m : ℕ) → n < m → nat_lt n m ≡ true
below n m l = grind (arith, nat_tests)

-- one more actor may have the name
pub name_pushed : (ends : List End) (name : List ℕ) → length ends < 8 → is_name name ≡ true → Free ends name → with_name ends (codes "actor " ++ name) ≡ ends ++ bare name ∷ []
unfolding with_name
name_pushed ends name l n f =
    ap (λ b. if b then ends ++ bare name ∷ [] else ends)
    (three_true (nat_lt (length ends) 8) (is_name name) (is_none (caller_in ends name)) (below (length ends) 8 l) n (ap is_none (free_none 0 ends name f (name_apart name n))))

operator_no_name : is_name operator ≡ false
unfolding is_name
operator_no_name = refl

-- the operator's line tells none
pub operator_nameless : (ends : List End) → with_name ends (codes "actor " ++ operator) ≡ ends
operator_nameless ends = other_word ends (codes "actor " ++ operator) operator_no_name
