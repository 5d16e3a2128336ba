-- Edits that pend, by one edit more: the limits, the calls that the namespace remembers, and what
-- was submitted.
use Rattle.std.proofs.Common.{◌≡◌, ℕ, ◌+◌, ◌-◌, ◌<◌, ◌≤◌, ◌||◌, nat_lt, nat_le, List, length, length-append, [], ◌∷◌, ◌++◌, Bool, true, false}
use Rattle.std.proofs.Common.{if◌then◌else◌, Option, Some, None, refl, sym, ap, ◌∙◌, subst, arith}
use Rattle.std.specs.Prelude.{◌≢◌}
use Rattle.std.specs.List.{list_any}
use Rattle.std.proofs.lemmas.Bool.Decides.{nat_tests}
use Rattle.std.proofs.lemmas.List.Folds.{list_any-append}
use Rattle.journal_core.specs.Limits.{max_body, max_batch, max_segment}
use Rattle.edit_ops.specs.declared.call.Call.{Call}
use Rattle.edit_ops.specs.Records.{EditView}
use Rattle.ns_tree.specs.Space.{Space, AreRising}
use Rattle.ns_tree.proofs.Noting.{rising_later, rising_noted}
use Rattle.ns_edits.specs.Apply.{apply_of, noted_if}
use Rattle.writer_core.specs.Views.{WriterView}
use Rattle.writer_core.specs.Writer.{log_limit}
use Rattle.play_names.specs.Submissions.{Submission, submitted_one, submit_edits}
use Rattle.play_standby.specs.Pendings.{PendingView, PendsFrom, PendsAt}

-- ## The limits with one body more
abbrev pub any_long : List (List ℕ) → Bool
any_long bodies = list_any (λ body. nat_lt max_body (length body)) bodies

abbrev pub long_by : Bool → Bool → Bool → Option ℕ
long_by a b c = if a then Some max_body else if b then Some max_batch else if c then Some max_segment else None

limit_is : (w : WriterView) (bodies : List (List ℕ)) → log_limit w bodies ≡ long_by (any_long bodies) (nat_lt max_batch (length bodies)) (nat_le (w.start + 16383) (w.next + length bodies - 1))
unfolding log_limit
limit_is w bodies = refl

none_long : (a b c : Bool) → long_by a b c ≡ None → a ≡ false
none_long true b c e = absurd (cc e)
none_long false b c e = refl

pub fits_short : (w : WriterView) (bodies : List (List ℕ)) → (bodies ≢ [] → log_limit w bodies ≡ None) → any_long bodies ≡ false
fits_short w [] h = refl
fits_short w (b ∷ bs) h =
    none_long (any_long (b ∷ bs)) (nat_lt max_batch (length (b ∷ bs))) (nat_le (w.start + 16383) (w.next + length (b ∷ bs) - 1)) (sym (limit_is w (b ∷ bs)) ∙ h (λ e. cc e))

or_false : (a : Bool) → (a || false) ≡ a
or_false true = refl
or_false false = refl

-- the limits with one body more
limit_more : (w : WriterView) (bodies : List (List ℕ)) (body : List ℕ) → any_long bodies ≡ false
    → log_limit w (bodies ++ body ∷ []) ≡ long_by (nat_lt max_body (length body)) (nat_lt max_batch (length bodies + 1)) (nat_le (w.start + 16383) (w.next + (length bodies + 1) - 1))
limit_more w bodies body short =
    let size : length (bodies ++ body ∷ []) ≡ length bodies + 1 = length-append bodies (body ∷ []) in
    let long : any_long (bodies ++ body ∷ []) ≡ nat_lt max_body (length body) =
    list_any-append (λ (b : List ℕ). nat_lt max_body (length b)) bodies (body ∷ [])
    ∙ (ap (λ (a : Bool). a || (nat_lt max_body (length body) || false)) short ∙ or_false (nat_lt max_body (length body))) in
    limit_is w (bodies ++ body ∷ [])
    ∙ (λ i. long_by (long i) (nat_lt max_batch (size i)) (nat_le (w.start + 16383) (w.next + size i - 1)))

module _ (w : WriterView) (room next : ℕ) (p : PendingView) (body : List ℕ) (h : PendsAt w room next p) where
  more : log_limit w (p.bodies ++ body ∷ []) ≡ long_by (nat_lt max_body (length body)) (nat_lt max_batch (length p.bodies + 1)) (nat_le (w.start + 16383) (w.next + (length p.bodies + 1) - 1))
  more = limit_more w p.bodies body (fits_short w p.bodies h.fits)

  pub long_body : max_body < length body → Some max_body ≡ log_limit w (p.bodies ++ body ∷ [])
  long_body l =
      let a : nat_lt max_body (length body) ≡ true = grind (arith, nat_tests) in
      sym (more ∙ ap (λ (x : Bool). long_by x (nat_lt max_batch (length p.bodies + 1)) (nat_le (w.start + 16383) (w.next + (length p.bodies + 1) - 1))) a)

  pub many_bodies : length body ≤ max_body → max_batch ≤ length p.bodies → Some max_batch ≡ log_limit w (p.bodies ++ body ∷ [])
  many_bodies l m =
      let a : nat_lt max_body (length body) ≡ false = grind (arith, nat_tests) in
      let b : nat_lt max_batch (length p.bodies + 1) ≡ true = grind (arith, nat_tests) in
      sym (more ∙ (λ i. long_by (a i) (b i) (nat_le (w.start + 16383) (w.next + (length p.bodies + 1) - 1))))

  room_is : room ≡ w.start + 16383 - w.next
  room_is = h.has_room ∙ ap (λ (x : Bool). if x then w.start + 16383 - w.next else 0) h.writing

  pub no_room : length body ≤ max_body → length p.bodies < max_batch → room ≤ length p.bodies → Some max_segment ≡ log_limit w (p.bodies ++ body ∷ [])
  no_room l m full =
      let a : nat_lt max_body (length body) ≡ false = grind (arith, nat_tests) in
      let b : nat_lt max_batch (length p.bodies + 1) ≡ false = grind (arith, nat_tests) in
      let past : w.start + 16383 ≤ w.next + (length p.bodies + 1) - 1 = omega (arith, room_is, full) in
      let c : nat_le (w.start + 16383) (w.next + (length p.bodies + 1) - 1) ≡ true = grind (arith, nat_tests) in
      sym (more ∙ (λ i. long_by (a i) (b i) (c i)))

  pub has_room : length body ≤ max_body → length p.bodies < max_batch → length p.bodies < room → None ≡ log_limit w (p.bodies ++ body ∷ [])
  has_room l m free =
      let a : nat_lt max_body (length body) ≡ false = grind (arith, nat_tests) in
      let b : nat_lt max_batch (length p.bodies + 1) ≡ false = grind (arith, nat_tests) in
      let past : w.next + (length p.bodies + 1) - 1 < w.start + 16383 = omega (arith, room_is, free) in
      let c : nat_le (w.start + 16383) (w.next + (length p.bodies + 1) - 1) ≡ false = grind (arith, nat_tests) in
      sym (more ∙ (λ i. long_by (a i) (b i) (c i)))

-- ## The calls that the namespace remembers
pub apply_rising : (s : Space) (e : EditView) (txid : ℕ) → 1 ≤ txid → AreRising 0 (txid - 1) s.calls → AreRising 0 txid (apply_of s e txid).calls
unfolding apply_of
apply_rising s e txid some h = by e.call
  where
    by : (o : Option Call) → AreRising 0 txid (noted_if o txid s.calls)
    by None = rising_later 0 (txid - 1) txid s.calls (omega arith) h
    by (Some call) = rising_noted call txid s.calls some h

-- the txid of the next edit
pub last_calls : (next : ℕ) (p : PendingView) → PendsFrom next p → AreRising 0 (next + length p.bodies - 1) p.ahead.calls
last_calls next p h =
    let same : next - 1 + length p.bodies ≡ next + length p.bodies - 1 = let some : 1 ≤ next = h.some in omega (arith, some) in
    subst (λ (k : ℕ). AreRising 0 k p.ahead.calls) same h.calls

-- one edit more pends
pub from_more : (next : ℕ) (p : PendingView) (e : EditView) (body : List ℕ) → PendsFrom next p
    → PendsFrom next (record { ahead = apply_of p.ahead e (next + length p.bodies); bodies = p.bodies ++ body ∷ [] })
from_more next p e body h =
    let some : 1 ≤ next = h.some in
    let size : length (p.bodies ++ body ∷ []) ≡ length p.bodies + 1 = length-append p.bodies (body ∷ []) in
    let rising : AreRising 0 (next + length p.bodies) (apply_of p.ahead e (next + length p.bodies)).calls =
    apply_rising p.ahead e (next + length p.bodies) (omega (arith, some)) (last_calls next p h) in
    let same : next + length p.bodies ≡ next - 1 + length (p.bodies ++ body ∷ []) = omega (arith, some, size) in
    record { some = some; within = h.within; calls = subst (λ (k : ℕ). AreRising 0 k (apply_of p.ahead e (next + length p.bodies)).calls) same rising }

-- ## Edits that are submitted one after the other
pub submitted_more : (w : WriterView) (es : List EditView) (e : EditView) (x : Submission) → submit_edits w (es ++ e ∷ []) x ≡ submitted_one w e (submit_edits w es x)
unfolding submit_edits
submitted_more w [] e x = refl
submitted_more w (d ∷ es) e x = submitted_more w es e (submitted_one w d x)
