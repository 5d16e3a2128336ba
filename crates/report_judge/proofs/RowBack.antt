-- What is printed of a row is read as a row with that text.
use Rattle.std.proofs.Common.{ℕ, zero, suc, ◌≡◌, ◌≢◌, ◌<◌, ◌≤◌, ◌+◌, ◌-◌, ◌*◌, ◌/◌, ◌%◌, ◌^◌, ◌==◌, ◌&&◌, ◌||◌, nat_le, nat_lt, ◌⊎◌, inl, inr, List, [], ◌∷◌, ◌++◌, Bool, true, false}
use Rattle.std.proofs.Common.{Some, None, length, drop, refl, sym, ap, ◌∙◌, arith, append-nil, decimal, if◌then◌else◌}
use Rattle.std.specs.Prelude.{codes, sum}
use Rattle.std.specs.List.{AllByRecursion, slice_split, flat_map, fold}
use Rattle.std.specs.Str.{bytes_eq}
use Rattle.std.proofs.lemmas.Bool.{cases_lt}
use Rattle.std.proofs.lemmas.Bool.Decides.{nat_tests}
use Rattle.std.proofs.lemmas.Fmt.{decimal_by_steps_wide}
use Rattle.std.proofs.lemmas.Nat.{div-mul-add}
use Rattle.std.proofs.lemmas.List.Sums.{sum_by-cons}
use Rattle.std.proofs.lemmas.List.Splits.{slice_split_at, slice_split_none}
use Rattle.journal_text.specs.Reading.{number_in}
use Rattle.journal_text.specs.Exact.{IsWide}
use Rattle.journal_text.proofs.Found.{number_back}
use Rattle.list_text.specs.Columns.{ColumnsView, columns_of, columns, quota}
use Rattle.list_text.specs.Permissions.{has_bit, kind_letter, letters}
use Rattle.list_text.specs.Texts.{quota_text, tabbed, texts, row_text}
use Rattle.ns_tree.specs.declared.inode.Inode.{Inode}
use Rattle.ns_tree.specs.declared.inode.Inode.TheVariants.{Dir, File}
use Rattle.ns_tree.specs.declared.inode.Row.{Row}
use Rattle.play_script.specs.Lines.{Lacks}
use Rattle.play_report.specs.Text.{row_line_text}
use Rattle.report_judge.specs.declared.rows.Numbers.{Numbers}
use Rattle.report_judge.specs.Pieces.{IsLineOf}
use Rattle.report_judge.specs.Rows.{columns_in, is_refused, small, wide_from, quota_in, numbers_by, numbers_of, RightsView, rights_by, rights_of, bit_of, with_bit, is_sticky, with_sticky}
use Rattle.report_judge.specs.Rows.{permission_in, least_of, lengths_of, row_by, row_of, row_in}
use Rattle.report_judge.specs.Reading.{is_row}
use Rattle.report_judge.specs.Written.{IsColumn, IsInode, IsRow}
use Rattle.report_judge.proofs.PieceLaws.{each_lacks}
use Rattle.report_judge.proofs.CutLaws.{Lacks-append}
use Rattle.report_judge.proofs.LineBack.{starts_digit}

-- ## Columns
columns_back : (ws : List (List ℕ)) (w : List ℕ) → Lacks 9 w → AllByRecursion (Lacks 9) ws → columns_in (w ++ flat_map tabbed ws) ≡ w ∷ ws
unfolding columns_in
columns_back [] w h k = ap (slice_split (λ b. b == 9)) (append-nil w) ∙ slice_split_none (λ b. b == 9) w (each_lacks 9 w h)
columns_back (v ∷ vs) w h k = slice_split_at (λ b. b == 9) w 9 (v ++ flat_map tabbed vs) (each_lacks 9 w h) refl ∙ ap (λ (us : List (List ℕ)). w ∷ us) (columns_back vs v k.0 k.1)

tabs_whole : (ws : List (List ℕ)) → AllByRecursion (Lacks 10) ws → Lacks 10 (flat_map tabbed ws)
tabs_whole [] h = tt
tabs_whole (w ∷ ws) h = ((λ e. cc), Lacks-append 10 w (flat_map tabbed ws) h.0 (tabs_whole ws h.1))

-- ## Numbers
small_back : (n : ℕ) → n < 2 ^ 16 → small (number_in 0 (decimal n)) ≡ Some n
small_back n h =
    let low : nat_lt 65535 n ≡ false = grind (arith, nat_tests) in
    ap small (number_back n (omega (arith, h))) ∙ ap (λ b. if b then None else Some n) low

wide_more : (m : ℕ) (ds es : List ℕ) (n : ℕ) → wide_from m ds ≡ Some n → wide_from m (ds ++ es) ≡ wide_from n es
unfolding wide_from
wide_more m [] es n h = let e : m ≡ n = cc in ap (λ k. wide_from k es) e
wide_more m (d ∷ ds) es n h = by (is_refused m d) refl (wide_more (m * 10 + d % 16) ds es n)
  where
    by : (b : Bool) → is_refused m d ≡ b → (wide_from (m * 10 + d % 16) ds ≡ Some n → wide_from (m * 10 + d % 16) (ds ++ es) ≡ wide_from n es)
        → (if is_refused m d then None else wide_from (m * 10 + d % 16) (ds ++ es)) ≡ wide_from n es
    by true e more = let q : None ≡ Some n = sym (ap (λ b. if b then None else wide_from (m * 10 + d % 16) ds) e) ∙ h in absurd cc
    by false e more = ap (λ b. if b then None else wide_from (m * 10 + d % 16) (ds ++ es)) e ∙ more (sym (ap (λ b. if b then None else wide_from (m * 10 + d % 16) ds) e) ∙ h)

wide_one : (m d n : ℕ) → d < 10 → m < 2 ^ 96 → n ≡ m * 10 + d → wide_from m ((48 + d) ∷ []) ≡ Some n
unfolding wide_from
wide_one m d n l h e =
    let t : (nat_lt (48 + d) 48 || nat_lt 57 (48 + d) || nat_le (2 ^ 96) m) ≡ false = grind (arith, nat_tests) in
    let v : m * 10 + (48 + d) % 16 ≡ n = omega (arith, l, e) in
    ap (λ b. if b then None else Some (m * 10 + (48 + d) % 16)) t ∙ ap (λ k. Some k) v

wide_back : (n : ℕ) → n < 2 ^ 96 → wide_from 0 (decimal n) ≡ Some n
wide_back n h =
    decimal_by_steps_wide (λ m ds. m < 2 ^ 96 → wide_from 0 ds ≡ Some m) (λ m l b. wide_one 0 m m l (omega arith) (omega arith))
    (λ m ds l k b.
    let small : m / 10 < 2 ^ 96 = omega (arith, b) in
    wide_more 0 ds ((48 + m % 10) ∷ []) (m / 10) (k small) ∙ wide_one (m / 10) (m % 10) m (omega arith) small (omega arith)) n (omega (arith, h)) h

digit_no_minus : (d : ℕ) → 48 ≤ d → (d == 45) ≡ false
digit_no_minus d l = grind (arith, nat_tests)

no_minus_first : (d : ℕ) (ds : List ℕ) → (d == 45) ≡ false → bytes_eq (d ∷ ds) (codes "-1") ≡ false
no_minus_first d ds e = ap (λ b. b && bytes_eq ds (codes "1")) e

number_quota : (n : ℕ) → IsWide n → quota_in (decimal n) ≡ Some n
number_quota n h =
    let s = starts_digit n h in
    let apart : bytes_eq (decimal n) (codes "-1") ≡ false = ap (λ x. bytes_eq x (codes "-1")) s.are ∙ no_minus_first s.digit s.others (digit_no_minus s.digit s.low) in
    ap (λ b. if b then Some 0 else number_in 0 (decimal n)) apart ∙ number_back n h

quota_back : (n : ℕ) → IsWide n → quota_in (quota_text (quota n)) ≡ Some n
quota_back zero h = refl
quota_back (suc n) h = number_quota (suc n) h

-- ## Permissions
abbrev bit : Bool → ℕ
bit true = 1
bit false = 0

bit_small : (b : Bool) → bit b ≤ 1
bit_small true = omega arith
bit_small false = omega arith

bit_told : (b : Bool) → (bit b == 1) ≡ b
bit_told true = refl
bit_told false = refl

abbrev letter_by : Bool → ℕ → ℕ
letter_by b glyph = if b then glyph else 45

letter_bit : (b : Bool) (glyph : ℕ) → bit_of glyph ≡ 1 → bit_of (letter_by b glyph) ≡ bit b
letter_bit true glyph h = h
letter_bit false glyph h = refl

abbrev last_by : Bool → Bool → ℕ
last_by s b = if s then (if b then 116 else 84) else (if b then 120 else 45)

last_bit : (s b : Bool) → bit_of (last_by s b) ≡ bit b
last_bit true true = refl
last_bit true false = refl
last_bit false true = refl
last_bit false false = refl

last_sticky : (s b : Bool) → (last_by s b == 116 || last_by s b == 84) ≡ s
last_sticky true true = refl
last_sticky true false = refl
last_sticky false true = refl
last_sticky false false = refl

-- nine bits, the greatest first
abbrev nine : ℕ → ℕ → ℕ → ℕ → ℕ → ℕ → ℕ → ℕ → ℕ → ℕ
nine a b c d e f g h i = 256 * a + 128 * b + 64 * c + 32 * d + 16 * e + 8 * f + 4 * g + 2 * h + i

abbrev next_bit : ℕ → ℕ → ℕ
next_bit n b = n % 256 * 2 + b

nine_is : (a b c d e f g h i : ℕ) → a ≤ 1 → b ≤ 1 → c ≤ 1 → d ≤ 1 → e ≤ 1 → f ≤ 1 → g ≤ 1 → h ≤ 1 → i ≤ 1
    → next_bit (next_bit (next_bit (next_bit (next_bit (next_bit (next_bit (next_bit (next_bit 0 a) b) c) d) e) f) g) h) i ≡ nine a b c d e f g h i
nine_is a b c d e f g h i la lb lc ld le lf lg lh li =
    let pa : next_bit 0 a ≡ a = omega arith in
    let pb : next_bit (next_bit 0 a) b ≡ 2 * a + b = omega (arith, pa, la) in
    let pc : next_bit (next_bit (next_bit 0 a) b) c ≡ 4 * a + 2 * b + c = omega (arith, pb, la, lb) in
    let pd : next_bit (next_bit (next_bit (next_bit 0 a) b) c) d ≡ 8 * a + 4 * b + 2 * c + d = omega (arith, pc, la, lb, lc) in
    let pe : next_bit (next_bit (next_bit (next_bit (next_bit 0 a) b) c) d) e ≡ 16 * a + 8 * b + 4 * c + 2 * d + e = omega (arith, pd, la, lb, lc, ld) in
    let pf : next_bit (next_bit (next_bit (next_bit (next_bit (next_bit 0 a) b) c) d) e) f ≡ 32 * a + 16 * b + 8 * c + 4 * d + 2 * e + f = omega (arith, pe, la, lb, lc, ld, le) in
    let pg : next_bit (next_bit (next_bit (next_bit (next_bit (next_bit (next_bit 0 a) b) c) d) e) f) g ≡ 64 * a + 32 * b + 16 * c + 8 * d + 4 * e + 2 * f + g = omega
    (arith, pf, la, lb, lc, ld, le, lf) in
    let ph : next_bit (next_bit (next_bit (next_bit (next_bit (next_bit (next_bit (next_bit 0 a) b) c) d) e) f) g) h ≡ 128 * a + 64 * b + 32 * c + 16 * d + 8 * e + 4 * f + 2 * g + h =
    omega (arith, pg, la, lb, lc, ld, le, lf, lg) in
    omega (arith, ph, la, lb, lc, ld, le, lf, lg, lh)

-- a bit of ten, by what stands above it and below
bit_at : (n weight above b below : ℕ) → n ≡ (2 * above + b) * weight + below → b ≤ 1 → below < weight → n / weight % 2 ≡ b
bit_at n weight above b below e l s =
    let q : n / weight ≡ 2 * above + b = ap (λ k. k / weight) e ∙ div-mul-add (2 * above + b) weight below s in
    ap (λ k. k % 2) q ∙ omega (arith, l)

-- A permission's ten bits.
pub record Bits : Type 0 where
  pub s : Bool
  pub a : Bool
  pub b : Bool
  pub c : Bool
  pub d : Bool
  pub e : Bool
  pub f : Bool
  pub g : Bool
  pub h : Bool
  pub i : Bool

abbrev bits_of : ℕ → Bits
bits_of p = record {
  s = has_bit p 512;
  a = has_bit p 256;
  b = has_bit p 128;
  c = has_bit p 64;
  d = has_bit p 32;
  e = has_bit p 16;
  f = has_bit p 8;
  g = has_bit p 4;
  h = has_bit p 2;
  i = has_bit p 1;
}

abbrev spelled_bits : Bool → Bits → List ℕ
spelled_bits k x =
    kind_letter k ∷ letter_by x.a 114 ∷ letter_by x.b 119 ∷ letter_by x.c 120 ∷ letter_by x.d 114 ∷ letter_by x.e 119 ∷ letter_by x.f 120
    ∷ letter_by x.g 114 ∷ letter_by x.h 119 ∷ last_by x.s x.i ∷ []

letters_are : (k : Bool) (p : ℕ) → letters k p ≡ spelled_bits k (bits_of p)
letters_are k p = refl

abbrev number_of : Bits → ℕ
number_of x = nine (bit x.a) (bit x.b) (bit x.c) (bit x.d) (bit x.e) (bit x.f) (bit x.g) (bit x.h) (bit x.i)

nine_small : (a b c d e f g h i : ℕ) → a ≤ 1 → b ≤ 1 → c ≤ 1 → d ≤ 1 → e ≤ 1 → f ≤ 1 → g ≤ 1 → h ≤ 1 → i ≤ 1 → nine a b c d e f g h i < 512
nine_small a b c d e f g h i la lb lc ld le lf lg lh li = omega (arith, la, lb, lc, ld, le, lf, lg, lh, li)

number_small : (x : Bits) → number_of x < 512
number_small x =
    nine_small (bit x.a) (bit x.b) (bit x.c) (bit x.d) (bit x.e) (bit x.f) (bit x.g) (bit x.h) (bit x.i)
    (bit_small x.a) (bit_small x.b) (bit_small x.c) (bit_small x.d) (bit_small x.e) (bit_small x.f) (bit_small x.g) (bit_small x.h) (bit_small x.i)

folded : (k : Bool) (x : Bits) → fold with_bit 0 (drop 1 (spelled_bits k x)) ≡ number_of x
folded k x =
    (λ i. next_bit (next_bit (next_bit (next_bit (next_bit (next_bit (next_bit (next_bit (next_bit 0 (letter_bit x.a 114 refl i)) (letter_bit x.b 119 refl i)) (letter_bit x.c 120 refl i))
    (letter_bit x.d 114 refl i)) (letter_bit x.e 119 refl i)) (letter_bit x.f 120 refl i)) (letter_bit x.g 114 refl i)) (letter_bit x.h 119 refl i)) (last_bit x.s x.i i))
    ∙ nine_is (bit x.a) (bit x.b) (bit x.c) (bit x.d) (bit x.e) (bit x.f) (bit x.g) (bit x.h) (bit x.i)
    (bit_small x.a) (bit_small x.b) (bit_small x.c) (bit_small x.d) (bit_small x.e) (bit_small x.f) (bit_small x.g) (bit_small x.h) (bit_small x.i)

sticky_is : (s : Bool) (n : ℕ) → n < 512 → with_sticky s n ≡ 512 * bit s + n
sticky_is true n l = omega (arith, l)
sticky_is false n l = omega arith

permission_is : (k : Bool) (x : Bits) → permission_in (spelled_bits k x) ≡ 512 * bit x.s + number_of x
unfolding permission_in is_sticky
permission_is k x =
    ap (λ n. with_sticky (is_sticky (spelled_bits k x)) n) (folded k x) ∙ ap (λ t. with_sticky t (number_of x)) (last_sticky x.s x.i) ∙ sticky_is x.s (number_of x) (number_small x)

ten_bits : (n y a b c d e f g h i : ℕ) → n ≡ 512 * y + nine a b c d e f g h i → y ≤ 1 → a ≤ 1 → b ≤ 1 → c ≤ 1 → d ≤ 1 → e ≤ 1 → f ≤ 1 → g ≤ 1 → h ≤ 1 → i ≤ 1
    → (n / 512 % 2 ≡ y) × (n / 256 % 2 ≡ a) × (n / 128 % 2 ≡ b) × (n / 64 % 2 ≡ c) × (n / 32 % 2 ≡ d) × (n / 16 % 2 ≡ e) × (n / 8 % 2 ≡ f) × (n / 4 % 2 ≡ g) × (n / 2 % 2 ≡ h) × (n / 1 % 2 ≡ i)
ten_bits n y a b c d e f g h i is ly la lb lc ld le lf lg lh li = (
  bit_at n 512 0 y (nine a b c d e f g h i) (omega (arith, is)) ly (nine_small a b c d e f g h i la lb lc ld le lf lg lh li),
  bit_at n 256 y a (nine 0 b c d e f g h i) (omega (arith, is)) la (omega (arith, lb, lc, ld, le, lf, lg, lh, li)),
  bit_at n 128 (2 * y + a) b (nine 0 0 c d e f g h i) (omega (arith, is)) lb (omega (arith, lc, ld, le, lf, lg, lh, li)),
  bit_at n 64 (4 * y + 2 * a + b) c (nine 0 0 0 d e f g h i) (omega (arith, is)) lc (omega (arith, ld, le, lf, lg, lh, li)),
  bit_at n 32 (8 * y + 4 * a + 2 * b + c) d (nine 0 0 0 0 e f g h i) (omega (arith, is)) ld (omega (arith, le, lf, lg, lh, li)),
  bit_at n 16 (16 * y + 8 * a + 4 * b + 2 * c + d) e (nine 0 0 0 0 0 f g h i) (omega (arith, is)) le (omega (arith, lf, lg, lh, li)),
  bit_at n 8 (32 * y + 16 * a + 8 * b + 4 * c + 2 * d + e) f (nine 0 0 0 0 0 0 g h i) (omega (arith, is)) lf (omega (arith, lg, lh, li)),
  bit_at n 4 (64 * y + 32 * a + 16 * b + 8 * c + 4 * d + 2 * e + f) g (nine 0 0 0 0 0 0 0 h i) (omega (arith, is)) lg (omega (arith, lh, li)),
  bit_at n 2 (128 * y + 64 * a + 32 * b + 16 * c + 8 * d + 4 * e + 2 * f + g) h (nine 0 0 0 0 0 0 0 0 i) (omega (arith, is)) lh (omega (arith, li)),
  bit_at n 1 (256 * y + 128 * a + 64 * b + 32 * c + 16 * d + 8 * e + 4 * f + 2 * g + h) i 0 (omega (arith, is)) li (omega arith),
)

same_bits : (x : Bits) (n : ℕ) → n ≡ 512 * bit x.s + number_of x → (k : Bool) → spelled_bits k (bits_of n) ≡ spelled_bits k x
same_bits x n is k =
    let t = ten_bits n (bit x.s) (bit x.a) (bit x.b) (bit x.c) (bit x.d) (bit x.e) (bit x.f) (bit x.g) (bit x.h) (bit x.i) is
    (bit_small x.s) (bit_small x.a) (bit_small x.b) (bit_small x.c) (bit_small x.d) (bit_small x.e) (bit_small x.f) (bit_small x.g) (bit_small x.h) (bit_small x.i) in
    let told : (b : Bool) (m : ℕ) → m ≡ bit b → (m == 1) ≡ b = λ b m e. ap (λ j. j == 1) e ∙ bit_told b in
    λ j. spelled_bits k (record {
      s = told x.s (n / 512 % 2) t.0 j;
      a = told x.a (n / 256 % 2) t.1 j;
      b = told x.b (n / 128 % 2) t.2 j;
      c = told x.c (n / 64 % 2) t.3 j;
      d = told x.d (n / 32 % 2) t.4 j;
      e = told x.e (n / 16 % 2) t.5 j;
      f = told x.f (n / 8 % 2) t.6 j;
      g = told x.g (n / 4 % 2) t.7 j;
      h = told x.h (n / 2 % 2) t.8 j;
      i = told x.i (n / 1 % 2) t.9 j;
    })

-- a permission by its letters has these letters
permission_back : (k : Bool) (p : ℕ) → letters k (permission_in (letters k p)) ≡ letters k p
permission_back k p = same_bits (bits_of p) (permission_in (letters k p)) (permission_is k (bits_of p)) k

-- ## Lengths of blocks
lengths_many : (n size : ℕ) → length (lengths_of n size) ≡ n
unfolding lengths_of
lengths_many zero size = refl
lengths_many (suc n) size = let e = lengths_many n (size - least_of size) in omega (arith, e)

least_is : (size : ℕ) → ((least_of size ≡ size) × (size ≤ 2 ^ 64 - 1)) ⊎ ((least_of size ≡ 2 ^ 64 - 1) × (2 ^ 64 - 1 < size))
least_is size = elim (cases_lt (2 ^ 64 - 1) size) [ inl l ↦ inr (omega (arith, l), l) | inr l ↦ inl (omega (arith, l), l) ]

lengths_sum : (n size : ℕ) → size ≤ n * (2 ^ 64 - 1) → sum (lengths_of n size) ≡ size
unfolding lengths_of
lengths_sum zero size l = omega (arith, l)
lengths_sum (suc n) size l = elim (least_is size) [
  | inl p ↦
      let more = lengths_sum n (size - least_of size) (let a = p.0 in omega (arith, a)) in
      let a = p.0 in let s = sum_by-cons (λ x. x) (least_of size) (lengths_of n (size - least_of size)) in omega (arith, more, a, s)
  | inr p ↦
      let more = lengths_sum n (size - least_of size) (let a = p.0 in omega (arith, a, l)) in
      let a = p.0 in let b = p.1 in let s = sum_by-cons (λ x. x) (least_of size) (lengths_of n (size - least_of size)) in omega (arith, more, a, b, s)
]

sum_within : (ns : List ℕ) → AllByRecursion IsWide ns → sum ns ≤ length ns * (2 ^ 64 - 1)
sum_within [] h = omega arith
sum_within (n ∷ ns) h = let more = sum_within ns h.1 in let one = h.0 in let s = sum_by-cons (λ x. x) n ns in omega (arith, more, one, s)

-- ## Rows
-- the columns behind a path are read as these numbers, these quotas and these names
row_read : (path : List ℕ) (c : ColumnsView) (n : Numbers) (r : RightsView) → Lacks 9 path → AllByRecursion (Lacks 9) (texts c) → numbers_of (texts c) ≡ Some n
    → rights_of (drop 1 (drop 1 (drop 1 (drop 1 (drop 1 (drop 1 (texts c))))))) ≡ Some r → row_in (path ++ flat_map tabbed (texts c)) ≡ row_by path (Some n) (Some r)
unfolding row_in
row_read path c n r h k e f =
    ap row_of (columns_back (texts c) path h k) ∙ ap (λ o. row_by path o (rights_of (drop 1 (drop 1 (drop 1 (drop 1 (drop 1 (drop 1 (texts c))))))))) e ∙ ap (λ o. row_by path (Some n) o) f

numbers_back : (c : ColumnsView) → c.replication < 2 ^ 16 → IsWide c.mtime → IsWide c.atime → IsWide c.block_size → IsWide c.block_count → c.size < 2 ^ 96
    → numbers_of (texts c) ≡ Some (record { replication = c.replication; mtime = c.mtime; atime = c.atime; block_size = c.block_size; blocks = c.block_count; size = c.size })
unfolding numbers_of
numbers_back c r m a b n s =
    λ i. numbers_by (small_back c.replication r i) (number_back c.mtime m i) (number_back c.atime a i) (number_back c.block_size b i) (number_back c.block_count n i) (wide_back c.size s i)

rights_back : (c : ColumnsView) (names space : ℕ) → quota_in (quota_text c.names) ≡ Some names → quota_in (quota_text c.space) ≡ Some space
    → rights_of (drop 1 (drop 1 (drop 1 (drop 1 (drop 1 (drop 1 (texts c)))))))
    ≡ Some (record { names = names; space = space; letters = c.permission; user = c.user; group = c.group })
unfolding rights_of
rights_back c names space e f = λ i. rights_by (e i) (f i) (Some c.permission) (Some c.user) (Some c.group) true

few_blocks : (n : ℕ) → n ≤ 16384 → nat_lt 16384 n ≡ false
few_blocks n l = grind (arith, nat_tests)

-- a letter is no tab and no line end
abbrev IsLetter : ℕ → Type 0
IsLetter b = (b ≢ 9) × (b ≢ 10)

by_letter : (b : Bool) (glyph : ℕ) → IsLetter glyph → IsLetter (letter_by b glyph)
by_letter true glyph h = h
by_letter false glyph h = ((λ e. cc), (λ e. cc))

by_last : (s b : Bool) → IsLetter (last_by s b)
by_last true true = ((λ e. cc), (λ e. cc))
by_last true false = ((λ e. cc), (λ e. cc))
by_last false true = ((λ e. cc), (λ e. cc))
by_last false false = ((λ e. cc), (λ e. cc))

by_kind : (k : Bool) → IsLetter (kind_letter k)
by_kind true = ((λ e. cc), (λ e. cc))
by_kind false = ((λ e. cc), (λ e. cc))

abbrev AreLetters : List ℕ → Type 0
AreLetters bs = AllByRecursion IsLetter bs

letters_column : (bs : List ℕ) → AreLetters bs → IsColumn bs
letters_column [] h = (tt, tt)
letters_column (b ∷ bs) h = let more = letters_column bs h.1 in ((h.0.1, more.0), (h.0.0, more.1))

bits_letters : (k : Bool) (x : Bits) → AreLetters (spelled_bits k x)
bits_letters k x =
    let r : IsLetter 114 = ((λ e. cc), (λ e. cc)) in
    let w : IsLetter 119 = ((λ e. cc), (λ e. cc)) in
    let t : IsLetter 120 = ((λ e. cc), (λ e. cc)) in (
      by_kind k,
      (
        by_letter x.a 114 r,
        (
          by_letter x.b 119 w,
          (
            by_letter x.c 120 t,
            (
              by_letter x.d 114 r,
              (
                by_letter x.e 119 w,
                (
                  by_letter x.f 120 t,
                  (
                    by_letter x.g 114 r,
                    (by_letter x.h 119 w, (by_last x.s x.i, tt)),
                  ),
                ),
              ),
            ),
          ),
        ),
      ),
    )

permission_column : (k : Bool) (p : ℕ) → IsColumn (letters k p)
permission_column k p = letters_column (letters k p) (bits_letters k (bits_of p))

decimal_wide_lacks : (c n : ℕ) → c < 48 → n < 2 ^ 96 → Lacks c (decimal n)
decimal_wide_lacks c n small h =
    decimal_by_steps_wide (λ m ds. Lacks c ds) (λ m l. (apart (48 + m) (omega arith), tt)) (λ m ds l k. Lacks-append c ds ((48 + m % 10) ∷ []) k (apart (48 + m % 10) (omega arith), tt)) n
    (omega (arith, h))
  where
    apart : (b : ℕ) → 48 ≤ b → b ≢ c
    apart b l e = omega (arith, l, small, e)

number_column : (n : ℕ) → n < 2 ^ 96 → IsColumn (decimal n)
number_column n h = (decimal_wide_lacks 10 n (omega arith) h, decimal_wide_lacks 9 n (omega arith) h)

wide_column : (n : ℕ) → IsWide n → IsColumn (decimal n)
wide_column n h = number_column n (omega (arith, h))

quota_column : (n : ℕ) → IsWide n → IsColumn (quota_text (quota n))
quota_column zero h = (((λ e. cc), ((λ e. cc), tt)), ((λ e. cc), ((λ e. cc), tt)))
quota_column (suc n) h = wide_column (suc n) h

-- all columns of a row are such
abbrev AreColumns : List (List ℕ) → Type 0
AreColumns ws = AllByRecursion IsColumn ws

columns_tabs : (ws : List (List ℕ)) → AreColumns ws → AllByRecursion (Lacks 9) ws
columns_tabs [] h = tt
columns_tabs (w ∷ ws) h = (h.0.1, columns_tabs ws h.1)

columns_ends : (ws : List (List ℕ)) → AreColumns ws → AllByRecursion (Lacks 10) ws
columns_ends [] h = tt
columns_ends (w ∷ ws) h = (h.0.0, columns_ends ws h.1)

-- What is read of a row's text.
pub record RowRead (row : Row) : Type 0 where
  pub path : IsColumn ((columns_of row).path)
  pub columns : AreColumns (texts (columns_of row))
  pub thing : Row
  pub is_read : row_in (row_text row) ≡ Some thing
  pub same : row_text thing ≡ row_text row

abbrev permitted : ColumnsView → List ℕ → ColumnsView
permitted c p = record c { permission = p }

directory_back : (path : List ℕ) (mtime permission : ℕ) (user group : List ℕ) (names space : ℕ) → IsColumn path → IsInode (Dir mtime permission user group names space)
    → RowRead (record { path = path; inode = Dir mtime permission user group names space })
directory_back path mtime permission user group names space p h =
    let c = columns path (Dir mtime permission user group names space) in
    let zero_column = number_column 0 (omega arith) in
    let all : AreColumns (texts c) = (
      zero_column,
      (
        wide_column mtime h.0,
        (
          zero_column,
          (
            zero_column,
            (
              zero_column,
              (
                zero_column,
                (
                  quota_column names h.1,
                  (
                    quota_column space h.2,
                    (
                      permission_column true permission,
                      (h.3, (h.4, tt)),
                    ),
                  ),
                ),
              ),
            ),
          ),
        ),
      ),
    ) in
    record {
      path = p;
      columns = all;
      thing = record { path = path; inode = Dir mtime (permission_in (letters true permission)) user group names space };
      is_read =
          row_read path c (record { replication = 0; mtime = mtime; atime = 0; block_size = 0; blocks = 0; size = 0 })
          (record { names = names; space = space; letters = letters true permission; user = user; group = group }) p.1 (columns_tabs (texts c) all)
          (numbers_back c (omega arith) h.0 (omega arith) (omega arith) (omega arith) (omega arith)) (rights_back c names space (quota_back names h.1) (quota_back space h.2));
      same = ap (λ x. path ++ flat_map tabbed (texts (permitted c x))) (permission_back true permission);
    }

file_back : (path : List ℕ) (replication mtime atime block_size permission : ℕ) (user group lengths : List ℕ) (open_ : Bool) → IsColumn path
    → IsInode (File replication mtime atime block_size permission user group lengths open_)
    → RowRead (record { path = path; inode = File replication mtime atime block_size permission user group lengths open_ })
file_back path replication mtime atime block_size permission user group lengths open_ p h =
    let c = columns path (File replication mtime atime block_size permission user group lengths open_) in
    let within = sum_within lengths h.5 in
    let many = h.4 in
    let small : sum lengths < 2 ^ 96 = omega (arith, within, many) in
    let zero_column = number_column 0 (omega arith) in
    let all : AreColumns (texts c) = (
      number_column replication (let r = h.0 in omega (arith, r)),
      (
        wide_column mtime h.1,
        (
          wide_column atime h.2,
          (
            wide_column block_size h.3,
            (
              number_column (length lengths) (omega (arith, many)),
              (
                number_column (sum lengths) small,
                (zero_column, (zero_column, (permission_column false permission, (h.6, (h.7, tt))))),
              ),
            ),
          ),
        ),
      ),
    ) in
    record {
      path = p;
      columns = all;
      thing = record { path = path; inode = File replication mtime atime block_size (permission_in (letters false permission)) user group (lengths_of (length lengths) (sum lengths)) false };
      is_read =
          row_read path c (record { replication = replication; mtime = mtime; atime = atime; block_size = block_size; blocks = length lengths; size = sum lengths })
          (record { names = 0; space = 0; letters = letters false permission; user = user; group = group }) p.1 (columns_tabs (texts c) all)
          (numbers_back c h.0 h.1 h.2 h.3 (omega (arith, many)) small) (rights_back c 0 0 (number_quota 0 (omega arith)) (number_quota 0 (omega arith)))
          ∙ ap (λ b. if b then None else Some (record {
            path = path;
            inode = File replication mtime atime block_size (permission_in (letters false permission)) user group (lengths_of
                (length lengths) (sum lengths)) false;
          }))
          (few_blocks (length lengths) many);
      same =
          λ i. path ++ flat_map tabbed (texts (record c {
            permission = permission_back false permission i;
            block_count = lengths_many (length lengths) (sum lengths) i;
            size = lengths_sum (length lengths) (sum lengths) within i;
          }));
    }

row_back : (row : Row) → IsRow row → RowRead row
row_back row h = by row.inode h.inode
  where
    by : (x : Inode) → IsInode x → RowRead (record { path = row.path; inode = x })
    by (Dir mtime permission user group names space) k = directory_back row.path mtime permission user group names space h.path k
    by (File replication mtime atime block_size permission user group lengths open_) k = file_back row.path replication mtime atime block_size permission user group lengths open_ h.path k

-- a row stands in a line of its own, which is read
pub row_line : (row : Row) → IsRow row → IsLineOf is_row (λ line. row_in (drop 2 line)) row_line_text row
unfolding row_line_text
row_line row h =
    let r = row_back row h in
    record {
      line = codes ". " ++ row_text row;
      spelled = refl;
      whole = (
        (λ e. cc),
        (
          (λ e. cc),
          Lacks-append 10 ((columns_of row).path) (flat_map tabbed (texts (columns_of row))) r.path.0 (tabs_whole (texts (columns_of row)) (columns_ends (texts
              (columns_of row)) r.columns)),
        ),
      );
      own_line = refl;
      thing = r.thing;
      is_read = r.is_read;
      same = ap (λ (x : List ℕ). codes ". " ++ x ++ 10 ∷ []) r.same;
    }
