-- An actor's record goes by its marks, line by line and action by action.
use Rattle.std.proofs.Common.{◌≡◌, ℕ, ◌+◌, ◌-◌, ◌≤◌, ◌<◌, Bool, true, false, List, [], ◌∷◌, ◌++◌, Contains, refl, sym, ap, ◌∙◌, subst, arith, ◌⊎◌, inl, inr}
use Rattle.std.specs.Prelude.{Option, Some, None, ◌≢◌, ◌==◌, ◌&&◌, slice_get}
use Rattle.std.specs.List.{count_by}
use Rattle.std.proofs.lemmas.Bool.{and_from, eq-eqb}
use Rattle.std.proofs.lemmas.List.Elements.{Contains-push_cases}
use Rattle.journal_core.specs.declared.request.Request.{Request}
use Rattle.writer_core.specs.declared.task.Task.{Task}
use Rattle.writer_core.specs.declared.task.Begun.{Begun}
use Rattle.writer_core.specs.declared.task.Begun.TheVariants as begun
use Rattle.writer_core.specs.Views.{WriterView}
use Rattle.writer_core.specs.Writer.{writer_begun}
use Rattle.journal_history.specs.Same.{same_request}
use Rattle.journal_history.proofs.SameLaws.{request_self}
use Rattle.journal_history.specs.declared.record.Record.{Record}
use Rattle.journal_history.specs.declared.record.Record.TheVariants.{Call, Late, Operator, Outcome}
use Rattle.journal_history.specs.declared.mark.Mark.{Mark}
use Rattle.journal_history.specs.declared.mark.MarkKind.TheVariants as kind
use Rattle.mesh.specs.Marks.{mark, calls_to, next_number, Asked, IsAsMarked, IsCopy, IsMarked, AreCopied, is_copy_of, copies_of, is_late_of, marked_late}
use Rattle.mesh.proofs.CopyLaws.{AreAsked, one_if, one_more, none_more, asked_known, marks_still, not_late, late_of_call}
use Rattle.play_names.specs.Holding.{Holding}
use Rattle.play_model.specs.Lines.{Action, Does, DoDrop, DoMute, DoLate, Submits, Trims, DoTail, Saves, Reloads, IsAction}
use Rattle.play_model.specs.Actor.{Actor, wants, task_begun, make_copy, take_named_action, take_action, moved_on, Fits}
use Rattle.play_model.proofs.Framed.{framed_keeps, held_framed}
use Rattle.play_model.proofs.Led.{moved_keeps, call_copies}
use Rattle.play_model.proofs.Wanting.{Copying, fits_copying, no_operation}
use Rattle.play_calls.proofs.MarkLaws.{asked_more, IsLater, more_marks, marked_snoc}

-- the copy that is the next to be sent
abbrev pub coming : Option (ℕ × Request) → List Record
coming (Some (k, r)) = Late k r ∷ []
coming None = []

-- The late marks are of calls that were made, and as many copies were sent or are the next to be
-- sent.
pub record Goes (marks : List Mark) (past : List Record) (copies : Option (ℕ × Request)) : Type 0 where
  pub marked : IsMarked marks [] past
  pub asked : AreAsked marks past
  pub counted : (k : ℕ) (q : Request) → copies_of k q past + copies_of k q (coming copies) ≡ marked_late marks k q past

pub fresh_goes : Goes [] [] None
unfolding IsMarked
fresh_goes = record { marked = tt; asked = λ k n h. absurd (omega (arith, h.1)); counted = λ k q. refl }

-- ## A mark of a call to come
pub one_mark : (marks : List Mark) (past : List Record) (copies : Option (ℕ × Request)) (x : Mark) → IsLater x past
    → x.kind ≢ kind.Late → Goes marks past copies → Goes (marks ++ x ∷ []) past copies
one_mark marks past copies x l off h = record {
  marked = more_marks marks x [] past l h.marked;
  asked = λ k n g. by k n (Contains-push_cases marks x (mark k n kind.Late) g);
  counted = λ k q. h.counted k q ∙ sym (none_more (is_late_of k q past) marks x (not_late x past k q off));
}
  where
    by : (k n : ℕ) → Contains marks (mark k n kind.Late) ⊎ (x ≡ mark k n kind.Late) → (q : Request) × Asked k n q past
    by k n (inl g) = h.asked k n g
    by k n (inr e) = absurd (off (ap (λ (m : Mark). m.kind) e))

-- ## A copy of a call that was made
-- one line is counted once
one_line_counted : (p : Record → Bool) (x : Record) (b : Bool) → p x ≡ b → count_by p (x ∷ []) ≡ one_if b
one_line_counted p x b e = let h : count_by p (x ∷ []) ≡ 0 + one_if b = one_more p [] x b e in omega (arith, h)

marked_more : (marks : List Mark) (past : List Record) (k n : ℕ) (q : Request) → Asked k n q past → (i : ℕ) (p : Request) → copies_of i p past + 0 ≡ marked_late marks i p past
    → copies_of i p past + copies_of i p (Late k q ∷ []) ≡ marked_late (marks ++ mark k n kind.Late ∷ []) i p past
unfolding is_copy_of
marked_more marks past k n q a i p h =
    let of : Bool = (k == i) && same_request q p in
    let copy : copies_of i p (Late k q ∷ []) ≡ one_if of = one_line_counted (is_copy_of i p) (Late k q) of refl in
    let more : marked_late (marks ++ mark k n kind.Late ∷ []) i p past ≡ marked_late marks i p past + one_if of =
    one_more (is_late_of i p past) marks (mark k n kind.Late) of (late_of_call k n q past i p (asked_known k n q past a)) in
    omega (arith, h, copy, more)

one_copy : (marks : List Mark) (past : List Record) (k n : ℕ) (q : Request) → Asked k n q past → Goes marks past None → Goes (marks ++ mark k n kind.Late ∷ []) past (Some (k, q))
unfolding IsLater
one_copy marks past k n q a h = record {
  marked = more_marks marks (mark k n kind.Late) [] past (inl refl) h.marked;
  asked = λ i j g. by i j (Contains-push_cases marks (mark k n kind.Late) (mark i j kind.Late) g);
  counted = λ i p. marked_more marks past k n q a i p (h.counted i p);
}
  where
    by : (i j : ℕ) → Contains marks (mark i j kind.Late) ⊎ (mark k n kind.Late ≡ mark i j kind.Late) → (p : Request) × Asked i j p past
    by i j (inl g) = h.asked i j g
    by i j (inr e) =
        let x : k ≡ i = ap (λ (m : Mark). m.node) e in
        let y : n ≡ j = ap (λ (m : Mark). m.number) e in
        (q, subst (λ (z : ℕ). Asked z j q past) x (subst (λ (z : ℕ). Asked k z q past) y a))

-- ## One line of the record more
asked_still : (marks : List Mark) (past : List Record) (r : Record) → AreAsked marks past → AreAsked marks (past ++ r ∷ [])
asked_still marks past r h k n g = let q = h k n g in (q.0, asked_more k n q.0 past (r ∷ []) q.1)

one_line : (marks : List Mark) (past : List Record) (copies : Option (ℕ × Request)) (r : Record) → IsMarked marks past (r ∷ []) → ((k : ℕ) (q : Request) → is_copy_of k q r ≡ false)
    → Goes marks past copies → Goes marks (past ++ r ∷ []) copies
one_line marks past copies r e other h = record {
  marked = marked_snoc marks [] past r h.marked e;
  asked = asked_still marks past r h.asked;
  counted = λ k q. ap (λ (z : ℕ). z + copies_of k q (coming copies)) (none_more (is_copy_of k q) past r (other k q)) ∙ (h.counted k q ∙ sym (marks_still marks past r k q h.asked));
}

-- the copy that is to be sent has its mark
pub copy_due : (marks : List Mark) (past : List Record) (k : ℕ) (q : Request) → Goes marks past (Some (k, q)) → IsCopy marks past k q
unfolding is_copy_of
copy_due marks past k q h =
    let own : ((k == k) && same_request q q) ≡ true = and_from (k == k) (same_request q q) (eq-eqb k k refl) (request_self q) in
    let copy : copies_of k q (Late k q ∷ []) ≡ 1 = one_line_counted (is_copy_of k q) (Late k q) true own in
    let all : copies_of k q past + copies_of k q (Late k q ∷ []) ≡ marked_late marks k q past = h.counted k q in
    omega (arith, copy, all)

copy_counted : (marks : List Mark) (past : List Record) (k : ℕ) (q : Request) → AreAsked marks past → (i : ℕ) (p : Request)
    → copies_of i p past + copies_of i p (Late k q ∷ []) ≡ marked_late marks i p past → copies_of i p (past ++ Late k q ∷ []) + 0 ≡ marked_late marks i p (past ++ Late k q ∷ [])
unfolding is_copy_of
copy_counted marks past k q asked i p h =
    let of : Bool = (k == i) && same_request q p in
    let copy : copies_of i p (Late k q ∷ []) ≡ one_if of = one_line_counted (is_copy_of i p) (Late k q) of refl in
    let line : copies_of i p (past ++ Late k q ∷ []) ≡ copies_of i p past + one_if of = one_more (is_copy_of i p) past (Late k q) of refl in
    let marks_are : marked_late marks i p (past ++ Late k q ∷ []) ≡ marked_late marks i p past = marks_still marks past (Late k q) i p asked in
    omega (arith, h, copy, line, marks_are)

copy_line : (marks : List Mark) (past : List Record) (k : ℕ) (q : Request) → Goes marks past (Some (k, q)) → Goes marks (past ++ Late k q ∷ []) None
unfolding IsMarked
copy_line marks past k q h = record {
  marked = marked_snoc marks [] past (Late k q) h.marked (copy_due marks past k q h, tt);
  asked = asked_still marks past (Late k q) h.asked;
  counted = λ i p. copy_counted marks past k q h.asked i p (h.counted i p);
}

-- ## At its end each late mark has a copy of its own
pub all_copied : (marks : List Mark) (past : List Record) → Goes marks past None → AreCopied marks past
all_copied marks past h k q = let e : copies_of k q past + 0 ≡ marked_late marks k q past = h.counted k q in omega (arith, e)

-- ## An actor
unfoldable pub GoesBy : Actor → Type 0
GoesBy a = Goes a.marks a.past a.copies

begun_goes : (t : Task) (v : WriterView) (a : Actor) (b : Begun) → GoesBy a → GoesBy (task_begun t v a b)
unfolding task_begun GoesBy
begun_goes t v a begun.Going h = h
begun_goes t v a begun.NotActive h = h
begun_goes t v a (begun.TooLong n) h = h

copied_goes : (k n : ℕ) (o : Option Request) (a : Actor) → slice_get (calls_to k a.past) (n - 1) ≡ o → 1 ≤ n → a.copies ≡ None → GoesBy a → GoesBy (make_copy k n o a)
unfolding make_copy GoesBy
copied_goes k n None a e l none h = h
copied_goes k n (Some q) a e l none h = one_copy a.marks a.past k n q (l, e) (subst (λ (z : Option (ℕ × Request)). Goes a.marks a.past z) none h)

along : (m n : List Mark) (p o : List Record) (c e : Option (ℕ × Request)) → m ≡ n → p ≡ o → c ≡ e → Goes m p c → Goes n o e
along m n p o c e x y z h = subst (λ (u : Option (ℕ × Request)). Goes n o u) z (subst (λ (u : List Record). Goes n u c) y (subst (λ (u : List Mark). Goes u p c) x h))

held_goes : (d : Action) (o : Option Holding) (a : Actor) → GoesBy a → GoesBy (take_named_action d o a)
unfolding GoesBy
held_goes d o a h =
    let e : ((take_named_action d o a).todo ≡ a.todo) × ((take_named_action d o a).past ≡ a.past) × ((take_named_action d o a).marks ≡ a.marks) × ((take_named_action d o a).copies ≡ a.copies) =
    framed_keeps (take_named_action d o) (held_framed d o) a in
    along a.marks (take_named_action d o a).marks a.past (take_named_action d o a).past a.copies (take_named_action d o a).copies (sym e.2) (sym e.1) (sym e.3) h

pub taken_goes : (named : Bool) (d : Action) (a : Actor) → IsAction named d → a.copies ≡ None → GoesBy a → GoesBy (take_action d a)
unfolding take_action GoesBy IsLater
taken_goes named (Does t) a d none h = unfold GoesBy in begun_goes t (writer_begun a.writer t).writer a (writer_begun a.writer t).begun h
taken_goes named (DoDrop k n) a d none h = one_mark a.marks a.past a.copies (mark k (next_number k a.past + (n - 1)) kind.Dropped) (inr (omega arith))
    kinds h
  where
    kinds : kind.Dropped ≡ kind.Late → ⊥
    kinds e = cc e
taken_goes named (DoMute k n) a d none h = one_mark a.marks a.past a.copies (mark k (next_number k a.past + (n - 1)) kind.Muted) (inr (omega arith))
    kinds h
  where
    kinds : kind.Muted ≡ kind.Late → ⊥
    kinds e = cc e
taken_goes named (DoLate k n) a d none h = copied_goes k n (slice_get (calls_to k a.past) (n - 1)) a refl d none h
taken_goes named (Submits es) a d none h = unfold GoesBy in held_goes (Submits es) a.holds a h
taken_goes named (Trims extra) a d none h = unfold GoesBy in held_goes (Trims extra) a.holds a h
taken_goes named DoTail a d none h = unfold GoesBy in held_goes DoTail a.holds a h
taken_goes named Saves a d none h = unfold GoesBy in held_goes Saves a.holds a h
taken_goes named Reloads a d none h = unfold GoesBy in held_goes Reloads a.holds a h

-- what the actor is told of a call is as its marks say
unfoldable pub IsTold : Actor → Record → Type 0
IsTold a (Call k q t) = IsAsMarked a.marks k (next_number k a.past) t
IsTold a (Late k q) = Unit {0}
IsTold a (Operator k ask d) = Unit {0}
IsTold a (Outcome x) = Unit {0}

pub moved_goes : (r : Record) (a : Actor) → Fits (wants a) r → IsTold a r → GoesBy a → GoesBy (moved_on r (record a { past = a.past ++ r ∷ [] }))
unfolding GoesBy IsTold IsMarked is_copy_of
moved_goes (Call k q t) a f told h =
    let b : Actor = record a { past = a.past ++ Call k q t ∷ [] } in
    let keeps : ((moved_on (Call k q t) b).todo ≡ b.todo) × ((moved_on (Call k q t) b).past ≡ b.past) × ((moved_on (Call k q t) b).marks ≡ b.marks) = moved_keeps (Call k q t) b in
    along b.marks (moved_on (Call k q t) b).marks b.past (moved_on (Call k q t) b).past b.copies (moved_on (Call k q t) b).copies (sym keeps.2) (sym keeps.1) (sym (call_copies k q t b))
    (one_line a.marks a.past a.copies (Call k q t) (told, tt) (λ i p. refl) h)
moved_goes (Late k q) a f told h =
    let c : Copying k q a = fits_copying a k q f in
    unfold moved_on in copy_line a.marks a.past k q (subst (λ (z : Option (ℕ × Request)). Goes a.marks a.past z) c.copies h)
moved_goes (Operator k ask d) a f told h = absurd (no_operation (wants a) k ask d f)
moved_goes (Outcome x) a f told h = unfold moved_on in one_line a.marks a.past a.copies (Outcome x) tt (λ i p. refl) h
