-- The first line that says something.
use Rattle.std.proofs.Common.{ℕ, ◌≡◌, ◌<◌, ◌≤◌, ◌+◌, ◌-◌, List, [], ◌∷◌, ◌++◌, Option, Some, None, Bool, true, false, cond, refl, sym, ap, arith, ◌∙◌, zero, suc, codes, subst}
use Rattle.std.specs.List.{find, range_with_len}
use Rattle.std.specs.Str.{bytes_eq}
use Rattle.std.specs.Fmt.{decimal, digits}
use Rattle.std.proofs.lemmas.Fmt.{decimal_digit}
use Rattle.std.proofs.lemmas.Slice.Eq.{bytes_eq-Decides}
use Rattle.journal_core.specs.Nodes.{most_nodes, PermittedNodes}
use Rattle.play_script.specs.Views.{SaidView}
use Rattle.play_script.specs.Grammar.{first_line, nothing_said}
use Rattle.play_script.specs.Rules.{nodes_of, said_first_of, said_first}

-- ## Its spelling
pub raw_low : (line : List ℕ) (nodes : ℕ) → nodes < 10 → bytes_eq line (first_line false nodes) ≡ bytes_eq line (114 ∷ 97 ∷ 119 ∷ 32 ∷ (48 + nodes) ∷ [])
raw_low line nodes l = ap (λ d. bytes_eq line (codes "raw " ++ d)) (decimal_digit nodes l)

pub names_low : (line : List ℕ) (nodes : ℕ) → nodes < 10 → bytes_eq line (first_line true nodes) ≡ bytes_eq line (110 ∷ 97 ∷ 109 ∷ 101 ∷ 115 ∷ 32 ∷ (48 + nodes) ∷ [])
names_low line nodes l = ap (λ d. bytes_eq line (codes "names " ++ d)) (decimal_digit nodes l)

decimal_more : (k : ℕ) → k < 6 → decimal (10 + k) ≡ 49 ∷ (48 + k) ∷ []
unfolding digits
decimal_more zero h = refl
decimal_more (suc zero) h = refl
decimal_more (suc (suc zero)) h = refl
decimal_more (suc (suc (suc zero))) h = refl
decimal_more (suc (suc (suc (suc zero)))) h = refl
decimal_more (suc (suc (suc (suc (suc zero))))) h = refl
decimal_more (suc (suc (suc (suc (suc (suc k)))))) h = absurd (omega arith)

decimal_high : (nodes : ℕ) → 10 ≤ nodes → nodes ≤ most_nodes → decimal nodes ≡ 49 ∷ (48 + (nodes - 10)) ∷ []
decimal_high nodes g l =
    let k : nodes ≡ 10 + (nodes - 10) = omega arith in
    ap decimal k ∙ decimal_more (nodes - 10) (omega arith)

pub raw_high : (line : List ℕ) (nodes : ℕ) → 10 ≤ nodes → nodes ≤ most_nodes → bytes_eq line (first_line false nodes) ≡ bytes_eq line (114 ∷ 97 ∷ 119 ∷ 32 ∷ 49 ∷ (48 + (nodes - 10)) ∷ [])
raw_high line nodes g l = ap (λ d. bytes_eq line (codes "raw " ++ d)) (decimal_high nodes g l)

pub names_high : (line : List ℕ) (nodes : ℕ) → 10 ≤ nodes → nodes ≤ most_nodes → bytes_eq line (first_line true nodes) ≡ bytes_eq line (110 ∷ 97 ∷ 109 ∷ 101 ∷ 115 ∷ 32 ∷ 49 ∷ (48 + (nodes - 10)) ∷ [])
names_high line nodes g l = ap (λ d. bytes_eq line (codes "names " ++ d)) (decimal_high nodes g l)

pub ruleset first_lines = (raw_low, names_low, raw_high, names_high)

-- ## The number that it tells
abbrev is_told : Bool → List ℕ → ℕ → Bool
is_told named line nodes = bytes_eq line (first_line named nodes)

range_next : (i n : ℕ) → i < n → range_with_len i (n - i) ≡ i ∷ range_with_len (i + 1) (n - (i + 1))
range_next i n l = let e : n - i ≡ suc (n - (i + 1)) = omega arith in rw e refl

-- the first of the numbers from i on
unfoldable pub told_from : Bool → List ℕ → ℕ → Option ℕ
told_from named line i = find (is_told named line) (range_with_len i (16 - i))

pub told_first : (named : Bool) (line : List ℕ) → told_from named line 1 ≡ nodes_of named line
unfolding told_from nodes_of
told_first named line = refl

pub told_here : (named : Bool) (line : List ℕ) (i : ℕ) → i < 16 → bytes_eq line (first_line named i) ≡ true → told_from named line i ≡ Some i
unfolding told_from
told_here named line i l e = ap (find (is_told named line)) (range_next i 16 l) ∙ rw e refl

pub told_later : (named : Bool) (line : List ℕ) (i : ℕ) → i < 16 → bytes_eq line (first_line named i) ≡ false → told_from named line i ≡ told_from named line (i + 1)
unfolding told_from
told_later named line i l e = ap (find (is_told named line)) (range_next i 16 l) ∙ rw e refl

pub told_never : (named : Bool) (line : List ℕ) → told_from named line 16 ≡ None
unfolding told_from
told_never named line = refl

pub ruleset first_steps = (told_first, told_here, told_later, told_never)

find_here : (named : Bool) (line : List ℕ) (a n x : ℕ) (b : Bool) → is_told named line a ≡ b
    → (find (is_told named line) (range_with_len (a + 1) n) ≡ Some x → (is_told named line x ≡ true) × (a + 1 ≤ x) × (x < a + 1 + n))
    → cond b (Some a) (find (is_told named line) (range_with_len (a + 1) n)) ≡ Some x → (is_told named line x ≡ true) × (a ≤ x) × (x < a + suc n)
find_here named line a n x true t rest e = let s : a ≡ x = cc in (ap (is_told named line) (sym s) ∙ t, omega arith, omega arith)
find_here named line a n x false t rest e =
    let r : (is_told named line x ≡ true) × (a + 1 ≤ x) × (x < a + 1 + n) = rest e in
    (r.0, omega (arith, r.1), omega (arith, r.2))

find_in : (named : Bool) (line : List ℕ) (a n x : ℕ) → find (is_told named line) (range_with_len a n) ≡ Some x → (is_told named line x ≡ true) × (a ≤ x) × (x < a + n)
find_in named line a zero x e = cc
find_in named line a (suc n) x e = find_here named line a n x (is_told named line a) refl (find_in named line (a + 1) n x) e

-- a line that tells that number
pub told_is : (named : Bool) (line : List ℕ) (nodes : ℕ) → nodes_of named line ≡ Some nodes → (bytes_eq line (first_line named nodes) ≡ true) × (1 ≤ nodes) × (nodes ≤ most_nodes)
unfolding nodes_of
told_is named line nodes e =
    let t : (is_told named line nodes ≡ true) × (1 ≤ nodes) × (nodes < 16) = find_in named line 1 most_nodes nodes e in
    (t.0, t.1, omega (arith, t.2))

-- ## What it says
-- the first line of such a script with that number of nodes
pub record FirstTells (line : List ℕ) (said : SaidView) : Type 0 where
  pub spelled : line ≡ first_line said.named said.nodes
  pub begins : said ≡ nothing_said said.named said.nodes
  pub permitted : PermittedNodes said.nodes

tells_nodes : (named : Bool) (line : List ℕ) (nodes : ℕ) → nodes_of named line ≡ Some nodes → FirstTells line (nothing_said named nodes)
tells_nodes named line nodes e =
    let t = told_is named line nodes e in
    record { spelled = (bytes_eq-Decides line (first_line named nodes)).0 t.0; begins = refl; permitted = (t.1, t.2) }

pub first_tells : (line : List ℕ) (said : SaidView) → said_first line ≡ Some said → FirstTells line said
first_tells line said e = by (nodes_of false line) refl (nodes_of true line) refl e
  where
    by : (o : Option ℕ) → nodes_of false line ≡ o → (p : Option ℕ) → nodes_of true line ≡ p → said_first_of false o (said_first_of true p None) ≡ Some said → FirstTells line said
    by (Some nodes) h p k e = let same : nothing_said false nodes ≡ said = cc in subst (FirstTells line) same (tells_nodes false line nodes h)
    by None h (Some nodes) k e = let same : nothing_said true nodes ≡ said = cc in subst (FirstTells line) same (tells_nodes true line nodes k)
    by None h None k e = absurd cc
