-- A record that is settled goes by its losses, and its calls are still those that its maker makes.
use Rattle.std.proofs.Common.{◌≡◌, ℕ, ◌≤◌, ◌<◌, List, [], ◌∷◌, ◌++◌, Bool, true, false, Contains, refl, sym, ap, ◌∙◌, subst, arith, length, ◌⊎◌, inl, inr}
use Rattle.std.proofs.Common.{append_assoc, length-append, Option, Some, None}
use Rattle.std.specs.Prelude.{◌≢◌, ◌==◌}
use Rattle.std.proofs.lemmas.Bool.{cases_lt}
use Rattle.std.proofs.lemmas.List.Elements.{Contains-push, Contains-push_cases}
use Rattle.journal_core.specs.declared.request.Request.{Request}
use Rattle.journal_history.specs.declared.record.Record.{Record}
use Rattle.journal_history.specs.declared.record.Record.TheVariants.{Call, Late, Operator, Outcome}
use Rattle.journal_history.specs.declared.record.Told.{Told}
use Rattle.journal_history.specs.declared.record.Told.TheVariants as told
use Rattle.journal_history.specs.declared.mark.Mark.{Mark}
use Rattle.journal_history.specs.declared.mark.MarkKind.{MarkKind}
use Rattle.journal_history.specs.declared.mark.MarkKind.TheVariants as kind
use Rattle.mesh.specs.Marks.{mark, calls_to, next_number, copies_of, marked_late, IsAsMarked, IsMarked, AreCopied}
use Rattle.journal_core.specs.declared.heard.Heard.{Heard}
use Rattle.writer_core.specs.Writer.{new_writer, writer_heard}
use Rattle.mesh.specs.Makers.{heard_of, Maker, Reading, maker_of, read_heard, chore_hears, maker_hears, IsMade, IsOfChores}
use Rattle.mesh.specs.Matches.{AreWithin}
use Rattle.mesh.proofs.Lists.{append_none, contains_none, cond_true, same_test}
use Rattle.mesh.proofs.CallLists.{calls_append}
use Rattle.mesh.proofs.CopyLaws.{copy_named}
use Rattle.play_calls.proofs.MarkLaws.{IsLater, more_marks, marked_snoc}
use Rattle.pipe_seats.specs.Settled.{settled_told, settled, marks_of, losses_on, losses, NoCopies}

-- ## Marks of earlier calls
-- each mark is of a call that stands in the record, and none is of a copy
record AreEarlier (plan : List Mark) (before : List Record) : Type 0 where
  earlier : (k n : ℕ) (kd : MarkKind) → Contains plan (mark k n kd) → n ≤ length (calls_to k before)
  no_late : (k n : ℕ) → Contains plan (mark k n kind.Late) → ⊥

record GoesOn (plan : List Mark) (before : List Record) : Type 0 where
  marked : IsMarked plan [] before
  earlier : AreEarlier plan before

longer : (k : ℕ) (before : List Record) (line : Record) → length (calls_to k before) ≤ length (calls_to k (before ++ line ∷ []))
longer k before line = omega (arith, ap length (calls_append k before (line ∷ [])), length-append (calls_to k before) (calls_to k (line ∷ [])))

counted : (k : ℕ) (before : List Record) (q : Request) (t : Told) → length (calls_to k (before ++ Call k q t ∷ [])) ≡ next_number k before
unfolding calls_to
counted k before q t =
    let one : calls_to k (Call k q t ∷ []) ≡ q ∷ [] = cond_true (k == k) (q ∷ []) [] (same_test k k refl) in
    ap length (calls_append k before (Call k q t ∷ []) ∙ ap (λ (l : List Request). calls_to k before ++ l) one) ∙ length-append (calls_to k before) (q ∷ [])

-- no mark so far is of the next call
apart : (plan : List Mark) (before : List Record) (k : ℕ) (kd : MarkKind) → AreEarlier plan before → Contains plan (mark k (next_number k before) kd) → ⊥
apart plan before k kd h c = absurd (omega (arith, h.earlier k (next_number k before) kd c))

-- ## One call more
-- a call that was told a reply, or nothing, has no mark
as_unmarked : (plan : List Mark) (before : List Record) (k : ℕ) (t : Told) → t ≢ told.Dropped → t ≢ told.Muted → AreEarlier plan before → IsAsMarked plan k (next_number k before) t
as_unmarked plan before k t d m h = (
  (λ (e : t ≡ told.Dropped). absurd (d e), λ g. absurd (apart plan before k kind.Dropped h g)),
  λ (off : t ≢ told.Dropped). (λ (e : t ≡ told.Muted). absurd (m e), λ g. absurd (apart plan before k kind.Muted h g)),
)

as_dropped : (plan : List Mark) (before : List Record) (k : ℕ) → IsAsMarked (plan ++ mark k (next_number k before) kind.Dropped ∷ []) k (next_number k before) told.Dropped
as_dropped plan before k = (
  (λ (e : told.Dropped ≡ told.Dropped). Contains-push plan (mark k (next_number k before) kind.Dropped), λ g. refl),
  λ (off : told.Dropped ≢ told.Dropped). absurd (off refl),
)

muted_apart : (plan : List Mark) (before : List Record) (k : ℕ) → AreEarlier plan before
    → Contains (plan ++ mark k (next_number k before) kind.Muted ∷ []) (mark k (next_number k before) kind.Dropped) → ⊥
muted_apart plan before k h c = by (Contains-push_cases plan (mark k (next_number k before) kind.Muted) (mark k (next_number k before) kind.Dropped) c)
  where
    by : Contains plan (mark k (next_number k before) kind.Dropped) ⊎ (mark k (next_number k before) kind.Muted ≡ mark k (next_number k before) kind.Dropped) → ⊥
    by (inl g) = apart plan before k kind.Dropped h g
    by (inr e) = let same : kind.Muted ≡ kind.Dropped = ap (λ (m : Mark). m.kind) e in cc same

as_muted : (plan : List Mark) (before : List Record) (k : ℕ) → AreEarlier plan before → IsAsMarked (plan ++ mark k (next_number k before) kind.Muted ∷ []) k (next_number k before) told.Muted
as_muted plan before k h = (
  (λ (e : told.Muted ≡ told.Dropped). absurd (cc e), λ g. absurd (muted_apart plan before k h g)),
  λ (off : told.Muted ≢ told.Dropped). (λ (e : told.Muted ≡ told.Muted). Contains-push plan (mark k (next_number k before) kind.Muted), λ g. refl),
)

-- the earlier marks are earlier still
earlier_line : (plan : List Mark) (before : List Record) (line : Record) → AreEarlier plan before → AreEarlier plan (before ++ line ∷ [])
earlier_line plan before line h = record {
  earlier = λ k n kd c. let a = h.earlier k n kd c in omega (arith, a, longer k before line);
  no_late = h.no_late;
}

earlier_mark : (plan : List Mark) (before : List Record) (k : ℕ) (q : Request) (t : Told) (kd : MarkKind) → kd ≢ kind.Late → AreEarlier plan before
    → AreEarlier (plan ++ mark k (next_number k before) kd ∷ []) (before ++ Call k q t ∷ [])
earlier_mark plan before k q t kd off h = record {
  earlier = λ j n e c. early j n e (Contains-push_cases plan (mark k (next_number k before) kd) (mark j n e) c);
  no_late = λ j n c. late j n (Contains-push_cases plan (mark k (next_number k before) kd) (mark j n kind.Late) c);
}
  where
    early : (j n : ℕ) (e : MarkKind) → Contains plan (mark j n e) ⊎ (mark k (next_number k before) kd ≡ mark j n e) → n ≤ length (calls_to j (before ++ Call k q t ∷ []))
    early j n e (inl c) = let a = h.earlier j n e c in omega (arith, a, longer j before (Call k q t))
    early j n e (inr s) =
        let node : k ≡ j = ap (λ (m : Mark). m.node) s in
        let number : next_number k before ≡ n = ap (λ (m : Mark). m.number) s in
        let here : next_number k before ≤ length (calls_to k (before ++ Call k q t ∷ [])) = omega (arith, counted k before q t) in
        subst (λ (x : ℕ). x ≤ length (calls_to j (before ++ Call k q t ∷ []))) number (subst (λ (x : ℕ). next_number k before ≤ length (calls_to x (before ++ Call k q t ∷ []))) node here)

    late : (j n : ℕ) → Contains plan (mark j n kind.Late) ⊎ (mark k (next_number k before) kd ≡ mark j n kind.Late) → ⊥
    late j n (inl c) = h.no_late j n c
    late j n (inr s) = let same : kd ≡ kind.Late = ap (λ (m : Mark). m.kind) s in off same

-- the mark is of a call to come
next_later : (k : ℕ) (before : List Record) (kd : MarkKind) → IsLater (mark k (next_number k before) kd) before
unfolding IsLater
next_later k before kd = inr (omega arith)

call_plain : (plan : List Mark) (before : List Record) (k : ℕ) (q : Request) (t : Told) → t ≢ told.Dropped → t ≢ told.Muted → GoesOn plan before → GoesOn plan (before ++ Call k q t ∷ [])
unfolding IsMarked
call_plain plan before k q t d m h = record {
  marked = marked_snoc plan [] before (Call k q t) h.marked (as_unmarked plan before k t d m h.earlier, tt);
  earlier = earlier_line plan before (Call k q t) h.earlier;
}

call_dropped : (plan : List Mark) (before : List Record) (k : ℕ) (q : Request) → GoesOn plan before
    → GoesOn (plan ++ mark k (next_number k before) kind.Dropped ∷ []) (before ++ Call k q told.Dropped ∷ [])
unfolding IsMarked
call_dropped plan before k q h = record {
  marked = marked_snoc (plan ++ mark k (next_number k before) kind.Dropped ∷ []) [] before (Call k q told.Dropped)
      (more_marks plan (mark k (next_number k before) kind.Dropped) [] before (next_later k before kind.Dropped) h.marked) (as_dropped plan before k, tt);
  earlier = earlier_mark plan before k q told.Dropped kind.Dropped (λ (e : kind.Dropped ≡ kind.Late). cc e) h.earlier;
}

call_muted : (plan : List Mark) (before : List Record) (k : ℕ) (q : Request) → GoesOn plan before → GoesOn (plan ++ mark k (next_number k before) kind.Muted ∷ []) (before ++ Call k q told.Muted ∷ [])
unfolding IsMarked
call_muted plan before k q h = record {
  marked = marked_snoc (plan ++ mark k (next_number k before) kind.Muted ∷ []) [] before (Call k q told.Muted)
      (more_marks plan (mark k (next_number k before) kind.Muted) [] before (next_later k before kind.Muted) h.marked) (as_muted plan before k h.earlier, tt);
  earlier = earlier_mark plan before k q told.Muted kind.Muted (λ (e : kind.Muted ≡ kind.Late). cc e) h.earlier;
}

call_goes : (plan : List Mark) (before : List Record) (k : ℕ) (q : Request) (t : Told) → GoesOn plan before → GoesOn (plan ++ marks_of k (next_number k before) t) (before ++ Call k q t ∷ [])
call_goes plan before k q (told.Reply r) h =
    subst (λ (p : List Mark). GoesOn p (before ++ Call k q (told.Reply r) ∷ [])) (sym (append_none plan))
    (call_plain plan before k q (told.Reply r) (λ (e : told.Reply r ≡ told.Dropped). cc e) (λ (e : told.Reply r ≡ told.Muted). cc e) h)
call_goes plan before k q told.Silent h =
    subst (λ (p : List Mark). GoesOn p (before ++ Call k q told.Silent ∷ [])) (sym (append_none plan))
    (call_plain plan before k q told.Silent (λ (e : told.Silent ≡ told.Dropped). cc e) (λ (e : told.Silent ≡ told.Muted). cc e) h)
call_goes plan before k q told.Dropped h = call_dropped plan before k q h
call_goes plan before k q told.Muted h = call_muted plan before k q h

-- ## The whole record
goes : (plan : List Mark) (before rs : List Record) → NoCopies rs → GoesOn plan before → GoesOn (losses_on plan before rs) (before ++ rs)
unfolding IsMarked
goes plan before [] n h = subst (λ (l : List Record). GoesOn plan l) (sym (append_none before)) h
goes plan before (Call k q t ∷ rs) n h =
    subst (λ (l : List Record). GoesOn (losses_on plan before (Call k q t ∷ rs)) l) (append_assoc before (Call k q t ∷ []) rs)
    (goes (plan ++ marks_of k (next_number k before) t) (before ++ Call k q t ∷ []) rs n (call_goes plan before k q t h))
goes plan before (Late k q ∷ rs) n h = absurd n
goes plan before (Operator k a d ∷ rs) n h =
    subst (λ (l : List Record). GoesOn (losses_on plan before (Operator k a d ∷ rs)) l) (append_assoc before (Operator k a d ∷ []) rs)
    (goes plan (before ++ Operator k a d ∷ []) rs n (record { marked = marked_snoc plan [] before (Operator k a d) h.marked tt; earlier = earlier_line plan before (Operator k a d) h.earlier }))
goes plan before (Outcome text ∷ rs) n h =
    subst (λ (l : List Record). GoesOn (losses_on plan before (Outcome text ∷ rs)) l) (append_assoc before (Outcome text ∷ []) rs)
    (goes plan (before ++ Outcome text ∷ []) rs n (record { marked = marked_snoc plan [] before (Outcome text) h.marked tt; earlier = earlier_line plan before (Outcome text) h.earlier }))

begun : GoesOn [] []
unfolding IsMarked
begun = record { marked = tt; earlier = record { earlier = λ k n kd c. absurd (contains_none (mark k n kd) c); no_late = λ k n c. contains_none (mark k n kind.Late) c } }

pub goes_by_losses : (rs : List Record) → NoCopies rs → IsMarked (losses rs) [] rs
unfolding losses
goes_by_losses rs n = (goes [] [] rs n begun).marked

no_late_in : (rs : List Record) (n : NoCopies rs) (k number : ℕ) → Contains (losses rs) (mark k number kind.Late) → ⊥
unfolding losses
no_late_in rs n k number c = (goes [] [] rs n begun).earlier.no_late k number c

pub copied_by_losses : (rs : List Record) → NoCopies rs → AreCopied (losses rs) rs
copied_by_losses rs n k r = by (cases_lt (copies_of k r rs) (marked_late (losses rs) k r rs))
  where
    by : (copies_of k r rs < marked_late (losses rs) k r rs) ⊎ (marked_late (losses rs) k r rs ≤ copies_of k r rs) → marked_late (losses rs) k r rs ≤ copies_of k r rs
    by (inl l) = let c = copy_named (losses rs) rs k r l in absurd (no_late_in rs n k c.0 c.1)
    by (inr l) = l

-- ## What is settled
pub settled_copies : (arrived : List Bool) (rs : List Record) → NoCopies rs → NoCopies (settled arrived rs)
settled_copies arrived [] n = tt
settled_copies [] (Call k q t ∷ rs) n = settled_copies [] rs n
settled_copies (b ∷ arrived) (Call k q t ∷ rs) n = settled_copies arrived rs n
settled_copies arrived (Late k q ∷ rs) n = absurd n
settled_copies arrived (Operator k a d ∷ rs) n = settled_copies arrived rs n
settled_copies arrived (Outcome text ∷ rs) n = settled_copies arrived rs n

pub settled_within : (nodes : ℕ) (arrived : List Bool) (rs : List Record) → AreWithin nodes rs → AreWithin nodes (settled arrived rs)
unfolding AreWithin
settled_within nodes arrived [] h = tt
settled_within nodes [] (Call k q t ∷ rs) h = (h.0, settled_within nodes [] rs h.1)
settled_within nodes (b ∷ arrived) (Call k q t ∷ rs) h = (h.0, settled_within nodes arrived rs h.1)
settled_within nodes arrived (Late k q ∷ rs) h = (h.0, settled_within nodes arrived rs h.1)
settled_within nodes arrived (Operator k a d ∷ rs) h = (h.0, settled_within nodes arrived rs h.1)
settled_within nodes arrived (Outcome text ∷ rs) h = (h.0, settled_within nodes arrived rs h.1)

same_heard : (t : Told) (b : Bool) → heard_of t ≡ heard_of (settled_told t b)
same_heard (told.Reply r) b = refl
same_heard told.Dropped true = refl
same_heard told.Dropped false = refl
same_heard told.Muted true = refl
same_heard told.Muted false = refl
same_heard told.Silent true = refl
same_heard told.Silent false = refl

same_read : (r : Reading) (t : Told) (b : Bool) (m : Maker) → read_heard r t m ≡ read_heard r (settled_told t b) m
same_read r (told.Reply a) b m = refl
same_read r told.Dropped true m = refl
same_read r told.Dropped false m = refl
same_read r told.Muted true m = refl
same_read r told.Muted false m = refl
same_read r told.Silent true m = refl
same_read r told.Silent false m = refl

same_chore : (o : Option Reading) (k : ℕ) (t : Told) (b : Bool) (m : Maker) → chore_hears o k t m ≡ chore_hears o k (settled_told t b) m
same_chore None k t b m = ap (λ (h : Heard). maker_of m.chores (writer_heard m.writer k h).writer) (same_heard t b)
same_chore (Some r) k t b m = same_read r t b m

same_hears : (m : Maker) (k : ℕ) (t : Told) (b : Bool) → maker_hears m k t ≡ maker_hears m k (settled_told t b)
unfolding maker_hears
same_hears m k t b = same_chore m.reading k t b m

settled_made : (m : Maker) (arrived : List Bool) (rs : List Record) → IsMade m rs → IsMade m (settled arrived rs)
unfolding IsMade
settled_made m arrived [] h = tt
settled_made m [] (Call k q t ∷ rs) h = (h.0, subst (λ (x : Maker). IsMade x (settled [] rs)) (same_hears m k t false) (settled_made (maker_hears m k t) [] rs h.1))
settled_made m (b ∷ arrived) (Call k q t ∷ rs) h = (h.0, subst (λ (x : Maker). IsMade x (settled arrived rs)) (same_hears m k t b) (settled_made (maker_hears m k t) arrived rs h.1))
settled_made m arrived (Late k q ∷ rs) h = settled_made m arrived rs h
settled_made m arrived (Operator k a d ∷ rs) h = absurd h
settled_made m arrived (Outcome text ∷ rs) h = settled_made m arrived rs h

pub settled_chores : (nodes : ℕ) (arrived : List Bool) (rs : List Record) → IsOfChores nodes rs → IsOfChores nodes (settled arrived rs)
settled_chores nodes arrived rs h = (h.0, h.1, settled_made (maker_of h.0 (new_writer nodes)) arrived rs h.2)

front_made : (m : Maker) (rs more : List Record) → IsMade m (rs ++ more) → IsMade m rs
unfolding IsMade
front_made m [] more h = tt
front_made m (Call k q t ∷ rs) more h = (h.0, front_made (maker_hears m k t) rs more h.1)
front_made m (Late k q ∷ rs) more h = front_made m rs more h
front_made m (Operator k a d ∷ rs) more h = absurd h
front_made m (Outcome text ∷ rs) more h = front_made m rs more h

pub front_chores : (nodes : ℕ) (rs more : List Record) → IsOfChores nodes (rs ++ more) → IsOfChores nodes rs
front_chores nodes rs more h = (h.0, h.1, front_made (maker_of h.0 (new_writer nodes)) rs more h.2)
