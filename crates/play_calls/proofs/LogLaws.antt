-- A log goes by its marks: one line more, one mark more, one copy more.
use Rattle.std.proofs.Common.{◌≡◌, ℕ, ◌+◌, ◌-◌, ◌≤◌, ◌<◌, List, [], ◌∷◌, ◌++◌, Contains, refl, sym, ap, ◌∙◌, subst, arith, ◌⊎◌, inl, inr, length, length-set, set, Some, get_or, Bool, true, false}
use Rattle.std.specs.Prelude.{◌≢◌, ◌==◌, ◌&&◌, slice_get}
use Rattle.std.proofs.lemmas.Bool.{and_from, eq-eqb}
use Rattle.std.proofs.lemmas.List.Elements.{Contains-push_cases}
use Rattle.journal_core.specs.declared.request.Request.{Request}
use Rattle.journal_history.specs.Same.{same_request}
use Rattle.journal_history.proofs.SameLaws.{request_self}
use Rattle.journal_history.specs.declared.record.Record.{Record}
use Rattle.journal_history.specs.declared.record.Record.TheVariants.{Call, Late, Operator, Outcome}
use Rattle.journal_history.specs.declared.record.Told.{Told}
use Rattle.journal_history.specs.declared.node_ask.NodeAsk.{NodeAsk}
use Rattle.journal_history.specs.declared.mark.Mark.{Mark}
use Rattle.journal_history.specs.declared.mark.MarkKind.{MarkKind}
use Rattle.journal_history.specs.declared.mark.MarkKind.TheVariants as kind
use Rattle.mesh.specs.Marks.{mark, calls_to, next_number, Asked, IsAsMarked, IsMarked, is_copy_of, copies_of, asked_in, is_late_of, marked_late, IsCopy, AreCopied}
use Rattle.mesh.specs.Matches.{IsWithin, AreWithin}
use Rattle.mesh.proofs.CopyLaws.{one_if, one_more, none_more, asked_known, asked_in_more, marks_still, not_late, late_of_call}
use Rattle.play_calls.specs.declared.calls_to.CallsTo.{CallsTo}
use Rattle.play_calls.specs.Indexes.{IsIndex, AreIndexes}
use Rattle.play_calls.specs.Logs.{GoesBy}
use Rattle.play_calls.proofs.MarkLaws.{asked_more, IsLater, more_marks, marked_snoc}
use Rattle.play_calls.proofs.IndexLaws.{call_indexes, mark_indexes, say_indexes, operate_indexes, copy_indexes}

abbrev pub Keeps : List Record → List Mark → List CallsTo → Type 0
Keeps past marks calls = AreIndexes past marks calls × GoesBy (length calls) marks past

pub within_snoc : (n : ℕ) (rs : List Record) (r : Record) → AreWithin n rs → IsWithin n r → AreWithin n (rs ++ r ∷ [])
unfolding AreWithin
within_snoc n [] r h e = (e, tt)
within_snoc n (x ∷ rs) r h e = (h.0, within_snoc n rs r h.1 e)

pub nothing : (n : ℕ) → GoesBy n [] []
unfolding IsMarked AreWithin
nothing n = record { marked = tt; asked = λ k m h. absurd (omega (arith, h.1)); counted = λ k q. refl; within = tt }

asked_still : (past : List Record) (r : Record) (k n : ℕ) → (q : Request) × Asked k n q past → (q : Request) × Asked k n q (past ++ r ∷ [])
asked_still past r k n h = (h.0, asked_more k n h.0 past (r ∷ []) h.1)

one_line : (n : ℕ) (marks : List Mark) (past : List Record) (r : Record) → IsMarked marks past (r ∷ []) → ((k : ℕ) (q : Request) → is_copy_of k q r ≡ false) → IsWithin n r
    → GoesBy n marks past → GoesBy n marks (past ++ r ∷ [])
one_line n marks past r e other w h = record {
  marked = marked_snoc marks [] past r h.marked e;
  asked = λ k i g. asked_still past r k i (h.asked k i g);
  counted = λ k q. none_more (is_copy_of k q) past r (other k q) ∙ (h.counted k q ∙ sym (marks_still marks past r k q (λ j i g. h.asked j i g)));
  within = within_snoc n past r h.within w;
}

one_mark : (n : ℕ) (marks : List Mark) (past : List Record) (x : Mark) → IsLater x past → x.kind ≢ kind.Late → GoesBy n marks past → GoesBy n (marks ++ x ∷ []) past
one_mark n marks past x l off h = record {
  marked = more_marks marks x [] past l h.marked;
  asked = λ k i g. by k i (Contains-push_cases marks x (mark k i kind.Late) g);
  counted = λ k q. h.counted k q ∙ sym (none_more (is_late_of k q past) marks x (not_late x past k q off));
  within = h.within;
}
  where
    by : (k i : ℕ) → Contains marks (mark k i kind.Late) ⊎ (x ≡ mark k i kind.Late) → (q : Request) × Asked k i q past
    by k i (inl g) = h.asked k i g
    by k i (inr e) = absurd (off (ap (λ (m : Mark). m.kind) e))

-- the mark of a copy is one more, and so is the copy
pub copy_due : (marks : List Mark) (past : List Record) (k i : ℕ) (q : Request) → Asked k i q past → copies_of k q past ≡ marked_late marks k q past
    → IsCopy (marks ++ mark k i kind.Late ∷ []) past k q
copy_due marks past k i q a h =
    let own : is_late_of k q past (mark k i kind.Late) ≡ true =
    late_of_call k i q past k q (asked_known k i q past a) ∙ and_from (k == k) (same_request q q) (eq-eqb k k refl) (request_self q) in
    let more : marked_late (marks ++ mark k i kind.Late ∷ []) k q past ≡ marked_late marks k q past + 1 = one_more (is_late_of k q past) marks (mark k i kind.Late) true own in
    omega (arith, h, more)

copy_counted : (marks : List Mark) (past : List Record) (k i : ℕ) (q : Request) → Asked k i q past → ((j m : ℕ) → Contains marks (mark j m kind.Late) → (r : Request) × Asked j m r past)
    → (node : ℕ) (r : Request) → copies_of node r past ≡ marked_late marks node r past
    → copies_of node r (past ++ Late k q ∷ []) ≡ marked_late (marks ++ mark k i kind.Late ∷ []) node r (past ++ Late k q ∷ [])
unfolding is_copy_of
copy_counted marks past k i q a asked node r h =
    let rs : List Record = past ++ Late k q ∷ [] in
    let of : Bool = (k == node) && same_request q r in
    let there : asked_in k i rs ≡ Some q = asked_in_more k i q past (Late k q ∷ []) (asked_known k i q past a) in
    one_more (is_copy_of node r) past (Late k q) of refl
    ∙ (ap (λ (n : ℕ). n + one_if of) (h ∙ sym (marks_still marks past (Late k q) node r asked))
    ∙ sym (one_more (is_late_of node r rs) marks (mark k i kind.Late) of (late_of_call k i q rs node r there)))

one_copy : (n : ℕ) (marks : List Mark) (past : List Record) (k i : ℕ) (q : Request) → (1 ≤ k) × (k ≤ n) → Asked k i q past → GoesBy n marks past
    → GoesBy n (marks ++ mark k i kind.Late ∷ []) (past ++ Late k q ∷ [])
unfolding IsMarked IsLater
one_copy n marks past k i q w a h = record {
  marked = marked_snoc (marks ++ mark k i kind.Late ∷ []) [] past (Late k q) (more_marks marks (mark k i kind.Late) [] past (inl refl) h.marked)
      (copy_due marks past k i q a (h.counted k q), tt);
  asked = λ j m g. by j m (Contains-push_cases marks (mark k i kind.Late) (mark j m kind.Late) g);
  counted = λ j r. copy_counted marks past k i q a (λ x y g. h.asked x y g) j r (h.counted j r);
  within = within_snoc n past (Late k q) h.within w;
}
  where
    by : (j m : ℕ) → Contains marks (mark j m kind.Late) ⊎ (mark k i kind.Late ≡ mark j m kind.Late) → (r : Request) × Asked j m r (past ++ Late k q ∷ [])
    by j m (inl g) = asked_still past (Late k q) j m (h.asked j m g)
    by j m (inr e) =
        let x : k ≡ j = ap (λ (z : Mark). z.node) e in
        let y : i ≡ m = ap (λ (z : Mark). z.number) e in
        let own : Asked k i q (past ++ Late k q ∷ []) = asked_more k i q past (Late k q ∷ []) a in
        (q, subst (λ (z : ℕ). Asked z m q (past ++ Late k q ∷ [])) x (subst (λ (z : ℕ). Asked k z q (past ++ Late k q ∷ [])) y own))

-- ## The log
pub call_kept : (past past2 : List Record) (marks : List Mark) (calls : List CallsTo) (node place : ℕ) (r : Request) (told : Told) (x y : CallsTo)
    → 1 ≤ node → node ≤ length calls → IsAsMarked marks node (next_number node past) told → Keeps past marks calls → x ≡ get_or calls (node - 1) x
    → ((k : ℕ) (ps : List Record) (ms : List Mark) (q : Request) (t : Told) → place ≡ length ps → IsIndex k ps ms x → IsIndex k (ps ++ Call k q t ∷ []) ms y) → place ≡ length past
    → past2 ≡ past ++ Call node r told ∷ [] → Keeps past2 marks (set calls (node - 1) y)
unfolding IsMarked is_copy_of
call_kept past past2 marks calls node place r told x y low high marked h is push there more =
    let P : List Record → Type 0 = λ ps. Keeps ps marks (set calls (node - 1) y) in
    let Q : ℕ → Type 0 = λ n. GoesBy n marks (past ++ Call node r told ∷ []) in
    subst P (sym more) (
      call_indexes past marks calls node place r told x y low high h.0 is push there,
      subst Q (sym (length-set calls (node - 1) y)) (one_line (length calls) marks past (Call node r told) (marked, tt) (λ k q. refl) (low, high) h.1),
    )

later_lost : (node next : ℕ) (past : List Record) (a : MarkKind) → 1 ≤ next → IsLater (mark node (next_number node past + (next - 1)) a) past
unfolding IsLater
later_lost node next past a l = inr (omega (arith, l))

pub mark_kept : (past : List Record) (marks marks2 : List Mark) (calls : List CallsTo) (node next n : ℕ) (a : MarkKind) (x y : CallsTo)
    → 1 ≤ node → node ≤ length calls → 1 ≤ next → a ≢ kind.Late → Keeps past marks calls → x ≡ get_or calls (node - 1) x → n ≡ next_number node past + (next - 1)
    → ((k : ℕ) (ps : List Record) (ms : List Mark) → IsIndex k ps ms x → IsIndex k ps (ms ++ mark k n a ∷ []) y)
    → marks2 ≡ marks ++ mark node n a ∷ [] → Keeps past marks2 (set calls (node - 1) y)
mark_kept past marks marks2 calls node next n a x y low high from off h is number put more =
    let P : List Mark → Type 0 = λ ms. Keeps past ms (set calls (node - 1) y) in
    let Q : ℕ → Type 0 = λ k. GoesBy k (marks ++ mark node n a ∷ []) past in
    let R : ℕ → Type 0 = λ k. IsLater (mark node k a) past in
    subst P (sym more) (
      mark_indexes past marks calls node n a x y low high h.0 is put,
      subst Q (sym (length-set calls (node - 1) y))
          (one_mark (length calls) marks past (mark node n a) (subst R (sym number) (later_lost node next past a from)) off h.1),
    )

pub say_kept : (past past2 : List Record) (marks : List Mark) (calls : List CallsTo) (text : List ℕ) → Keeps past marks calls → past2 ≡ past ++ Outcome text ∷ [] → Keeps past2 marks calls
unfolding IsMarked is_copy_of
say_kept past past2 marks calls text h more =
    let P : List Record → Type 0 = λ ps. Keeps ps marks calls in
    subst P (sym more) (say_indexes past marks calls text h.0, one_line (length calls) marks past (Outcome text) tt (λ k q. refl) tt h.1)

pub operate_kept : (past past2 : List Record) (marks : List Mark) (calls : List CallsTo) (node : ℕ) (ask : NodeAsk) (done : Bool) → 1 ≤ node → node ≤ length calls → Keeps past marks calls
    → past2 ≡ past ++ Operator node ask done ∷ [] → Keeps past2 marks calls
unfolding IsMarked is_copy_of
operate_kept past past2 marks calls node ask done low high h more =
    let P : List Record → Type 0 = λ ps. Keeps ps marks calls in
    subst P (sym more) (operate_indexes past marks calls node ask done h.0, one_line (length calls) marks past (Operator node ask done) tt (λ k q. refl) (low, high) h.1)

pub copy_kept : (past past2 : List Record) (marks marks2 : List Mark) (calls : List CallsTo) (node n : ℕ) (q : Request) → 1 ≤ node → node ≤ length calls → 1 ≤ n
    → slice_get (calls_to node past) (n - 1) ≡ Some q → Keeps past marks calls → past2 ≡ past ++ Late node q ∷ [] → marks2 ≡ marks ++ mark node n kind.Late ∷ [] → Keeps past2 marks2 calls
copy_kept past past2 marks marks2 calls node n q low high from made h more most =
    let P : List Record → Type 0 = λ ps. Keeps ps marks2 calls in
    let Q : List Mark → Type 0 = λ ms. Keeps (past ++ Late node q ∷ []) ms calls in
    subst P (sym more) (subst Q (sym most) (copy_indexes past marks calls node n q h.0, one_copy (length calls) marks past node n q (low, high) (from, made) h.1))

pub all_copied : (n : ℕ) (marks : List Mark) (past : List Record) → GoesBy n marks past → AreCopied marks past
all_copied n marks past h node r = let e : copies_of node r past ≡ marked_late marks node r past = h.counted node r in omega (arith, e)

pub new_kept : (n : ℕ) (past : List Record) (marks : List Mark) (calls : List CallsTo) → past ≡ [] → marks ≡ [] → length calls ≡ n
    → ((i : ℕ) (d : CallsTo) → i < n → IsIndex (i + 1) [] [] (get_or calls i d)) → Keeps past marks calls
new_kept n past marks calls e f count each =
    let P : List Record → Type 0 = λ ps. Keeps ps marks calls in
    let Q : List Mark → Type 0 = λ ms. Keeps [] ms calls in
    subst P (sym e) (subst Q (sym f) ((λ i d l. each i d (omega (arith, l, count))), nothing (length calls)))
