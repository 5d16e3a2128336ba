-- Edits that are pushed one by one: which are kept, that each has a byte, and stored bodies taken
-- apart.
use Rattle.std.proofs.Common.{ℕ, zero, suc, ◌≡◌, ◌≢◌, ◌+◌, ◌-◌, ◌<◌, ◌≤◌, Bool, true, false, List, [], ◌∷◌, ◌++◌, length, get_or, take, Some, None}
use Rattle.std.proofs.Common.{refl, sym, ap, subst, ◌∙◌, arith, append_assoc, length-append}
use Rattle.std.proofs.lemmas.Bool.Decides.{nat_tests}
use Rattle.std.proofs.lemmas.List.{append-nil, length-take-le, map-append}
use Rattle.std.proofs.lemmas.List.Folds.{list_any_at}
use Rattle.std.proofs.lemmas.List.Elements.{All-append, All-drop}
use Rattle.std.proofs.Math.Seq.{take-nil, take-suc}
use Rattle.std.specs.Prelude.{nat_lt}
use Rattle.std.specs.List.{list_any}
use Rattle.std.specs.Borrow.{Bor}
use Rattle.std.specs.List.{drop-map}
use Rattle.disk_recent.specs.Edits.{Edit, Follows, kept_edits, last_txid, number_edits, bodies_of, stored_bytes}
use Rattle.disk_recent.specs.Split.{IsSplit}
use Rattle.disk_recent.proofs.Kept.{kept-drop, kept_in_turn, follows_last}
use Rattle.disk_recent.proofs.Numbered.{numbered-push}
use Rattle.journal_core.specs.Limits.{max_body}
use Rattle.disk_recent.specs.Recent.{AreFilled, most_stored}

-- ## One more edit
one_filled : (body : List ℕ) → body ≢ [] → AreFilled (body ∷ [])
one_filled body some zero d within = some
one_filled body some (suc k) d within = absurd (omega arith)

filled_append : (es : List Edit) (e : Edit) → AreFilled (bodies_of es) → e.body ≢ [] → AreFilled (bodies_of (es ++ e ∷ []))
filled_append es e filled some =
    subst (λ (bs : List (List ℕ)). AreFilled bs) (sym (map-append (λ (x : Edit). x.body) es (e ∷ [])))
    (All-append (λ (b : List ℕ). b ≢ []) (bodies_of es) (e.body ∷ []) filled (one_filled e.body some))

pub rest_filled : (b : List ℕ) (bs : List (List ℕ)) → AreFilled (b ∷ bs) → AreFilled bs
rest_filled b bs filled k d within = filled (suc k) d (omega arith)

pub filled_kept : (most : ℕ) (es : List Edit) (e : Edit) → AreFilled (bodies_of es) → e.body ≢ [] → AreFilled (bodies_of (kept_edits most (es ++ e ∷ [])))
filled_kept most es e filled some =
    let n = kept-drop most (es ++ e ∷ []) in
    subst (λ (xs : List Edit). AreFilled (bodies_of xs)) (sym n.1)
    (subst (λ (bs : List (List ℕ)). AreFilled bs) (drop-map (λ (d : Edit). d.body) n.0 (es ++ e ∷ []))
    (All-drop (λ (b : List ℕ). b ≢ []) n.0 (bodies_of (es ++ e ∷ [])) (filled_append es e filled some)))

-- what is kept of all edits to the next one
pub kept_next : (before now : List Edit) (first i : ℕ) (bodies : List (List ℕ)) (body d : List ℕ) → i < length bodies → body ≡ get_or bodies i d
    → now ≡ kept_edits most_stored (before ++ number_edits first (take i bodies))
    → kept_edits most_stored (now ++ record { txid = first + i; body = body } ∷ []) ≡ kept_edits most_stored (before ++ number_edits first (take (i + 1) bodies))
kept_next before now first i bodies body d within is held =
    let e : Edit = record { txid = first + i; body = body } in
    let one : take (i + 1) bodies ≡ take i bodies ++ body ∷ [] =
    (let s : i + 1 ≡ suc i = omega arith in ap (λ (n : ℕ). take n bodies) s) ∙ take-suc bodies i d within ∙ ap (λ (b : List ℕ). take i bodies ++ b ∷ []) (sym is) in
    let last : number_edits first (take (i + 1) bodies) ≡ number_edits first (take i bodies) ++ e ∷ [] =
    ap (number_edits first) one ∙ numbered-push first (take i bodies) body
    ∙ ap (λ (n : ℕ). number_edits first (take i bodies) ++ record { txid = first + n; body = body } ∷ []) (length-take-le i bodies (omega arith)) in
    ap (λ (xs : List Edit). kept_edits most_stored (xs ++ e ∷ [])) held
    ∙ kept_in_turn most_stored (before ++ number_edits first (take i bodies)) e
    ∙ ap (kept_edits most_stored) (append_assoc before (number_edits first (take i bodies)) (e ∷ []) ∙ ap (λ (xs : List Edit). before ++ xs) (sym last))

pub not_empty : (xs : List ℕ) → 0 < length xs → xs ≢ []
not_empty xs some none = omega (arith, some, ap length none)

-- ## The next txid
pub follows_next : (es : List Edit) (last next : ℕ) → last_txid es ≡ Some last → last + 1 ≡ next → Follows es next
follows_next es last next is e = subst (λ (n : ℕ). Follows es n) e (follows_last es last is)

same_last : (a b : ℕ) → Some a ≡ Some b → a ≡ b
same_last a b e = cc

pub next_is : (es : List Edit) (last next : ℕ) → last_txid es ≡ Some last → Follows es next → next ≡ last + 1
next_is [] last next none follows = absurd (cc)
next_is (e ∷ []) last next is follows = follows ∙ ap (λ (n : ℕ). n + 1) (same_last e.txid last is)
next_is (e ∷ f ∷ es) last next is follows = next_is (f ∷ es) last next is follows

-- ## Stored bodies taken apart
-- what is left to be added to the list, of bodies that are stored as `rest`
pub record IsLeft (most : ℕ) (rest : List ℕ) (bodies all : List (List ℕ)) : Type 0 where
  pub left : List (List ℕ)
  pub is : rest ≡ stored_bytes left
  pub filled : AreFilled left
  pub same : bodies ++ take (most - length bodies) left ≡ all

pub left_next : (most : ℕ) (rest : List ℕ) (bodies all : List (List ℕ)) (p : Bor (List ℕ) × Bor (List ℕ)) (body : List ℕ)
    (l : IsLeft most rest bodies all) → IsSplit l.left (Some p) → length bodies < most → body ≡ p.0.now
    → IsLeft most p.1.now (bodies ++ body ∷ []) all
left_next most rest bodies all p body l split more is = by l.left l.filled l.same split
  where
    by : (left : List (List ℕ)) → AreFilled left → bodies ++ take (most - length bodies) left ≡ all → IsSplit left (Some p) → IsLeft most p.1.now (bodies ++ body ∷ []) all
    by [] filled same split = absurd (cc)
    by (b ∷ bs) filled same split = record {
      left = bs;
      is = split.1;
      filled = rest_filled b bs filled;
      same = append_assoc bodies (body ∷ []) (take (most - length (bodies ++ body ∷ [])) bs)
          ∙ ap (λ (x : List ℕ). bodies ++ x ∷ take (most - length (bodies ++ body ∷ [])) bs) (is ∙ split.0)
          ∙ ap (λ (xs : List (List ℕ)). bodies ++ xs) (one (most - length bodies) (most - length (bodies ++ body ∷ [])) (omega (arith, length-snoc)))
          ∙ same;
    }
      where
        length-snoc : length (bodies ++ body ∷ []) ≡ length bodies + 1
        length-snoc = simp length-append

        one : (n m : ℕ) → n ≡ suc m → b ∷ take m bs ≡ take n (b ∷ bs)
        one n m e = ap (λ (k : ℕ). take k (b ∷ bs)) (sym e)

pub split_none : (most : ℕ) (rest : List ℕ) (bodies all : List (List ℕ)) (l : IsLeft most rest bodies all) → IsSplit l.left None → l.left ≡ []
split_none most rest bodies all l split = by l.left split
  where
    by : (left : List (List ℕ)) → IsSplit left None → left ≡ []
    by [] split = refl
    by (b ∷ bs) split = absurd split
