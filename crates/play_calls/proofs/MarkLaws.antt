-- A record that goes by a plan goes by it still when marks of later calls are added, and when the
-- next call is told by its marks.
use Rattle.std.proofs.Common.{◌≡◌, ℕ, ◌+◌, ◌-◌, ◌<◌, ◌≤◌, List, [], ◌∷◌, ◌++◌, Bool, true, false, cond, refl, sym, ap, ◌∙◌, subst, arith, length, ◌⊎◌, inl, inr, append_assoc, length-append}
use Rattle.std.specs.Prelude.{◌≢◌, ◌==◌, slice_get}
use Rattle.std.proofs.lemmas.List.Elements.{Contains-append_left}
use Rattle.journal_core.specs.declared.request.Request.{Request}
use Rattle.journal_history.specs.declared.node_ask.NodeAnswer.{NodeAnswer}
use Rattle.journal_history.specs.declared.node_ask.NodeAnswer.TheVariants.{Replied, Stopped, Done, Idle, NotOpened}
use Rattle.journal_history.specs.declared.record.Record.{Record}
use Rattle.journal_history.specs.declared.record.Record.TheVariants.{Call, Late, Operator, Outcome}
use Rattle.journal_history.specs.declared.record.Told.{Told}
use Rattle.journal_history.specs.declared.record.Told.TheVariants as told
use Rattle.journal_history.specs.declared.mark.Mark.{Mark}
use Rattle.journal_history.specs.declared.mark.MarkKind.{MarkKind}
use Rattle.journal_history.specs.declared.mark.MarkKind.TheVariants as kind
use Rattle.run_safety.proofs.Values.{get_append_left}
use Rattle.mesh.specs.Marks.{mark, calls_to, next_number, Asked, IsAsMarked, IsMarked, is_marked}
use Rattle.play_calls.specs.Deliveries.{Delivery, Delivered, ReplyLost, NotDelivered, delivery, told_of}
use Rattle.mesh.proofs.Lists.{contains_less, append_none, same_test, cond_true}
use Rattle.mesh.proofs.CallLists.{calls_append}
use Rattle.mesh.proofs.CopyLaws.{copy_planned}
use Rattle.mesh.proofs.MarkTests.{marked_has, has_marked}

-- ## Calls of a longer record
pub asked_more : (k n : ℕ) (q : Request) (xs ys : List Record) → Asked k n q xs → Asked k n q (xs ++ ys)
asked_more k n q xs ys h = (h.0, ap (λ (l : List Request). slice_get l (n - 1)) (calls_append k xs ys) ∙ get_append_left (calls_to k xs) (calls_to k ys) (n - 1) q h.1)

-- ## A mark of a call that is still to come, or of a late copy
unfoldable pub IsLater : Mark → List Record → Type 0
IsLater x rs = (x.kind ≡ kind.Late) ⊎ (length (calls_to x.node rs) < x.number)

as_more : (plan : List Mark) (x : Mark) (k n : ℕ) (t : Told) → x ≢ mark k n kind.Dropped → x ≢ mark k n kind.Muted → IsAsMarked plan k n t → IsAsMarked (plan ++ x ∷ []) k n t
as_more plan x k n t d m h = (
  (λ (e : t ≡ told.Dropped). Contains-append_left plan (x ∷ []) (mark k n kind.Dropped) (h.0.0 e), λ g. h.0.1 (contains_less (mark k n kind.Dropped) x plan d g)),
  λ (off : t ≢ told.Dropped). (λ (e : t ≡ told.Muted). Contains-append_left plan (x ∷ []) (mark k n kind.Muted) ((h.1 off).0 e), λ g. (h.1 off).1 (contains_less (mark k n kind.Muted) x plan m g)),
)

later_apart : (x : Mark) (k n : ℕ) (kd : MarkKind) (rs : List Record) → kd ≢ kind.Late → n ≤ length (calls_to k rs) → IsLater x rs → x ≢ mark k n kd
unfolding IsLater
later_apart x k n kd rs off l (inl e) same = off (sym (ap (λ (m : Mark). m.kind) same) ∙ e)
later_apart x k n kd rs off l (inr h) same =
    let a : x.node ≡ k = ap (λ (m : Mark). m.node) same in
    let b : x.number ≡ n = ap (λ (m : Mark). m.number) same in
    let h' : length (calls_to k rs) < x.number = subst (λ (z : ℕ). length (calls_to z rs) < x.number) a h in
    omega (arith, h', b, l)

later_less : (x : Mark) (before rest : List Record) → IsLater x (before ++ rest) → IsLater x before
unfolding IsLater
later_less x before rest (inl e) = inl e
later_less x before rest (inr h) =
    let long : length (calls_to x.node (before ++ rest)) ≡ length (calls_to x.node before) + length (calls_to x.node rest) =
    ap length (calls_append x.node before rest) ∙ length-append (calls_to x.node before) (calls_to x.node rest) in
    inr (omega (arith, h, long))

counts : (k : ℕ) (before : List Record) (q : Request) (t : Told) → next_number k before ≤ length (calls_to k (before ++ Call k q t ∷ []))
unfolding calls_to
counts k before q t =
    let one : calls_to k (Call k q t ∷ []) ≡ q ∷ [] = cond_true (k == k) (q ∷ []) [] (same_test k k refl) in
    let long : length (calls_to k (before ++ Call k q t ∷ [])) ≡ length (calls_to k before) + 1 =
    ap length (calls_append k before (Call k q t ∷ []) ∙ ap (λ (l : List Request). calls_to k before ++ l) one) ∙ length-append (calls_to k before) (q ∷ []) in
    omega (arith, long)

pub more_marks : (plan : List Mark) (x : Mark) (before rs : List Record) → IsLater x (before ++ rs) → IsMarked plan before rs → IsMarked (plan ++ x ∷ []) before rs
unfolding IsMarked
more_marks plan x before [] l h = tt
more_marks plan x before (Call k q t ∷ rs) l h =
    let whole : IsLater x ((before ++ Call k q t ∷ []) ++ rs) = subst (IsLater x) (sym (append_assoc before (Call k q t ∷ []) rs)) l in
    let here : IsLater x (before ++ Call k q t ∷ []) = later_less x (before ++ Call k q t ∷ []) rs whole in (
      as_more plan x k (next_number k before) t
          (later_apart x k (next_number k before) kind.Dropped (before ++ Call k q t ∷ []) (λ (e : kind.Dropped ≡ kind.Late). cc e) (counts k before q t) here)
          (later_apart x k (next_number k before) kind.Muted (before ++ Call k q t ∷ []) (λ (e : kind.Muted ≡ kind.Late). cc e) (counts k before q t) here) h.0,
      more_marks plan x (before ++ Call k q t ∷ []) rs whole h.1,
    )
more_marks plan x before (Late k q ∷ rs) l h =
    (copy_planned plan x before k q h.0, more_marks plan x (before ++ Late k q ∷ []) rs (subst (IsLater x) (sym (append_assoc before (Late k q ∷ []) rs)) l) h.1)
more_marks plan x before (Operator k a d ∷ rs) l h = more_marks plan x (before ++ Operator k a d ∷ []) rs (subst (IsLater x) (sym (append_assoc before (Operator k a d ∷ []) rs)) l) h
more_marks plan x before (Outcome y ∷ rs) l h = more_marks plan x (before ++ Outcome y ∷ []) rs (subst (IsLater x) (sym (append_assoc before (Outcome y ∷ []) rs)) l) h

-- ## One line more
pub marked_snoc : (plan : List Mark) (before rs : List Record) (r : Record) → IsMarked plan before rs → IsMarked plan (before ++ rs) (r ∷ []) → IsMarked plan before (rs ++ r ∷ [])
unfolding IsMarked
marked_snoc plan before [] r h e = subst (λ (l : List Record). IsMarked plan l (r ∷ [])) (append_none before) e
marked_snoc plan before (Call k q t ∷ rs) r h e = (
  h.0,
  marked_snoc plan (before ++ Call k q t ∷ []) rs r h.1
      (subst (λ (l : List Record). IsMarked plan l (r ∷ [])) (sym (append_assoc before (Call k q t ∷ []) rs)) e),
)
marked_snoc plan before (Late k q ∷ rs) r h e = (
  h.0,
  marked_snoc plan (before ++ Late k q ∷ []) rs r h.1
      (subst (λ (l : List Record). IsMarked plan l (r ∷ [])) (sym (append_assoc before (Late k q ∷ []) rs)) e),
)
marked_snoc plan before (Operator k a d ∷ rs) r h e = marked_snoc plan (before ++ Operator k a d ∷ []) rs r h
    (subst (λ (l : List Record). IsMarked plan l (r ∷ [])) (sym (append_assoc before (Operator k a d ∷ []) rs)) e)
marked_snoc plan before (Outcome y ∷ rs) r h e = marked_snoc plan (before ++ Outcome y ∷ []) rs r h
    (subst (λ (l : List Record). IsMarked plan l (r ∷ [])) (sym (append_assoc before (Outcome y ∷ []) rs)) e)

-- ## What a call is told goes by its marks
heard_plain : (a : NodeAnswer) → (told_of Delivered a ≢ told.Dropped) × (told_of Delivered a ≢ told.Muted)
unfolding told_of
heard_plain (Replied r) = ((λ (e : told.Reply r ≡ told.Dropped). cc e), λ (e : told.Reply r ≡ told.Muted). cc e)
heard_plain (Stopped k) = ((λ (e : told.Silent ≡ told.Dropped). cc e), λ (e : told.Silent ≡ told.Muted). cc e)
heard_plain Done = ((λ (e : told.Silent ≡ told.Dropped). cc e), λ (e : told.Silent ≡ told.Muted). cc e)
heard_plain Idle = ((λ (e : told.Silent ≡ told.Dropped). cc e), λ (e : told.Silent ≡ told.Muted). cc e)
heard_plain (NotOpened f) = ((λ (e : told.Silent ≡ told.Dropped). cc e), λ (e : told.Silent ≡ told.Muted). cc e)

delivered_by : (plan : List Mark) (k n : ℕ) (a : NodeAnswer) (d m : Bool) → is_marked plan k n kind.Dropped ≡ d → is_marked plan k n kind.Muted ≡ m
    → IsAsMarked plan k n (told_of (cond d NotDelivered (cond m ReplyLost Delivered)) a)
unfolding told_of
delivered_by plan k n a true m d_is m_is = ((λ e. marked_has k n kind.Dropped plan d_is, λ g. refl), λ (off : told.Dropped ≢ told.Dropped). absurd (off refl))
delivered_by plan k n a false true d_is m_is = (
  (λ (e : told.Muted ≡ told.Dropped). absurd (cc e), λ g. absurd (cc (d_is, has_marked k n kind.Dropped plan g))),
  λ (off : told.Muted ≢ told.Dropped). (λ (e : told.Muted ≡ told.Muted). marked_has k n kind.Muted plan m_is, λ g. refl),
)
delivered_by plan k n a false false d_is m_is = (
  (λ (e : told_of Delivered a ≡ told.Dropped). absurd ((heard_plain a).0 e), λ g. absurd (cc (d_is, has_marked k n kind.Dropped plan g))),
  λ (off : told_of Delivered a ≢ told.Dropped). (λ (e : told_of Delivered a ≡ told.Muted). absurd ((heard_plain a).1 e), λ g. absurd (cc (m_is, has_marked k n kind.Muted plan g))),
)

-- what a call is told by its marks is as the plan marks it
pub delivery_marked : (plan : List Mark) (k n : ℕ) (a : NodeAnswer) → IsAsMarked plan k n (told_of (delivery plan k n) a)
unfolding delivery
delivery_marked plan k n a = delivered_by plan k n a (is_marked plan k n kind.Dropped) (is_marked plan k n kind.Muted) refl refl

-- how a call went is known by what was told of it, where that is as the plan marks it
went_by : (plan : List Mark) (k n : ℕ) (d : Delivery) (a : NodeAnswer) (x y : Bool) → is_marked plan k n kind.Dropped ≡ x → is_marked plan k n kind.Muted ≡ y → IsAsMarked plan k n (told_of d a)
    → cond x NotDelivered (cond y ReplyLost Delivered) ≡ d
unfolding told_of
went_by plan k n NotDelivered a true y xs ys h = refl
went_by plan k n NotDelivered a false y xs ys h = absurd (cc (xs, has_marked k n kind.Dropped plan (h.0.0 refl)))
went_by plan k n ReplyLost a true y xs ys h = absurd (cc (h.0.1 (marked_has k n kind.Dropped plan xs)))
went_by plan k n ReplyLost a false true xs ys h = refl
went_by plan k n ReplyLost a false false xs ys h = absurd (cc (ys, has_marked k n kind.Muted plan ((h.1 (λ (e : told.Muted ≡ told.Dropped). cc e)).0 refl)))
went_by plan k n Delivered a true y xs ys h = absurd ((heard_plain a).0 (h.0.1 (marked_has k n kind.Dropped plan xs)))
went_by plan k n Delivered a false true xs ys h = absurd ((heard_plain a).1 ((h.1 (heard_plain a).0).1 (marked_has k n kind.Muted plan ys)))
went_by plan k n Delivered a false false xs ys h = refl

pub delivery_known : (plan : List Mark) (k n : ℕ) (d : Delivery) (a : NodeAnswer) → IsAsMarked plan k n (told_of d a) → delivery plan k n ≡ d
unfolding delivery
delivery_known plan k n d a h = went_by plan k n d a (is_marked plan k n kind.Dropped) (is_marked plan k n kind.Muted) refl refl h

-- the later part of a record that goes by a plan
pub marked_after : (plan : List Mark) (before xs ys : List Record) → IsMarked plan before (xs ++ ys) → IsMarked plan (before ++ xs) ys
unfolding IsMarked
marked_after plan before [] ys h = subst (λ (l : List Record). IsMarked plan l ys) (sym (append_none before)) h
marked_after plan before (Call k q t ∷ xs) ys h = subst (λ (l : List Record). IsMarked plan l ys) (append_assoc before (Call k q t ∷ []) xs) (marked_after plan (before ++ Call k q t ∷ []) xs ys h.1)
marked_after plan before (Late k q ∷ xs) ys h = subst (λ (l : List Record). IsMarked plan l ys) (append_assoc before (Late k q ∷ []) xs) (marked_after plan (before ++ Late k q ∷ []) xs ys h.1)
marked_after plan before (Operator k a d ∷ xs) ys h = subst (λ (l : List Record). IsMarked plan l ys) (append_assoc before (Operator k a d ∷ []) xs)
    (marked_after plan (before ++ Operator k a d ∷ []) xs ys h)
marked_after plan before (Outcome y ∷ xs) ys h = subst (λ (l : List Record). IsMarked plan l ys) (append_assoc before (Outcome y ∷ []) xs) (marked_after plan (before ++ Outcome y ∷ []) xs ys h)
