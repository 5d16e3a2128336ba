-- Each body has one right answer, and no record begins another.
use Rattle.std.proofs.Common.{◌≡◌, ◌≢◌, ◌⊎◌, ℕ, suc, ◌+◌, ◌-◌, ◌<◌, ◌≤◌, List, [], ◌∷◌, ◌++◌, length, length-append, Bool, true, Result, Ok, Err, refl, sym, ap, ◌∙◌, arith, inl, inr}
use Rattle.std.specs.List.{flat_map}
use Rattle.std.proofs.lemmas.List.{append-nil, nil_from_length}
use Rattle.base_words.specs.Fields.{IsBytes}
use Rattle.edit_ops.specs.declared.field_fault.FieldFault.{FieldFault}
use Rattle.edit_ops.specs.declared.field_fault.FieldFault.TheVariants as faults
use Rattle.edit_ops.specs.declared.field_fault.ReadError.{ReadError}
use Rattle.edit_ops.specs.declared.field_fault.ReadError.TheVariants as errors
use Rattle.edit_ops.specs.declared.kind.OpKind.{OpKind}
use Rattle.edit_codec.specs.declared.decoded.Decoded.{Decoded}
use Rattle.edit_codec.specs.declared.decoded.Decoded.TheVariants.{Edit, UnknownOpcode, Short, Trailing, BadField, OutOfMemory}
use Rattle.edit_ops.specs.Fields.{Kind, Field, client, call_number, field_bytes}
use Rattle.edit_ops.specs.Records.{EditView, kind_of, layout, full_layout, opcode, called, edit_fields, record_of}
use Rattle.edit_ops.specs.Grammar.{MayCall, IsEdit, IsRecord}
use Rattle.edit_ops.specs.Rules.{least, Matches}
use Rattle.edit_codec.specs.Decoding.{Begins, EndsInside, BreaksRule, HasTrailing, IsDecoded}
use Rattle.edit_ops.specs.Sources.{Fails}
use Rattle.edit_ops.specs.Reading.{field_at, group_at, fields_at}
use Rattle.edit_ops.proofs.SourceLaws.{with_front, ok_is, fields-append}
use Rattle.edit_ops.proofs.ReadFields.{broken_field, short_field}
use Rattle.edit_ops.proofs.FieldLaws.{is_wrong, least_bound}
use Rattle.edit_ops.proofs.WalkLaws.{runs, fields_good, fields_wrong}
use Rattle.edit_ops.proofs.EditLaws.{edit_matches, same_edit, same_opcode}

abbrev Read : Type 0
Read = Result (List Field × List ℕ) FieldFault

-- ---- an answer as it shows what was read

data Answer : Type 0 where
  edit : OpKind → Bool → List Field → Answer
  unknown : ℕ → Answer
  short : ℕ → Answer
  trailing : ℕ → Answer
  bad : ℕ → ℕ → Answer
  memory : Answer

abbrev shape : Decoded → Answer
shape (Edit e) = edit (kind_of e.op) (called e) (edit_fields e)
shape (UnknownOpcode byte) = unknown byte
shape (Short needed) = short needed
shape (Trailing count) = trailing count
shape (BadField place rule) = bad place rule
shape OutOfMemory = memory

abbrev ended : OpKind → Bool → List Field → List ℕ → Answer
ended kind c fields [] = edit kind c fields
ended kind c fields (b ∷ rest) = trailing (suc (length rest))

abbrev told : ℕ → OpKind → Bool → Read → Answer
told len kind c (Ok x) = ended kind c x.0 x.1
told len kind c (Err (faults.Short missing)) = short (len + missing)
told len kind c (Err (faults.Bad left rule)) = bad (len - left) rule

-- the shapes of two edits are one only where the edits are
same_shape : (a b : Decoded) → shape a ≡ shape b → a ≡ b
same_shape (Edit d) (Edit e) same = let k : kind_of d.op ≡ kind_of e.op = cc in let c : called d ≡ called e = cc in let f : edit_fields d ≡ edit_fields e = cc in ap Edit (same_edit d e k c f)
same_shape (Edit d) (UnknownOpcode m) same = absurd cc
same_shape (Edit d) (Short m) same = absurd cc
same_shape (Edit d) (Trailing m) same = absurd cc
same_shape (Edit d) (BadField m r) same = absurd cc
same_shape (Edit d) OutOfMemory same = absurd cc
same_shape (UnknownOpcode n) (Edit e) same = absurd cc
same_shape (UnknownOpcode n) (UnknownOpcode m) same = let e : n ≡ m = cc in ap UnknownOpcode e
same_shape (UnknownOpcode n) (Short m) same = absurd cc
same_shape (UnknownOpcode n) (Trailing m) same = absurd cc
same_shape (UnknownOpcode n) (BadField m r) same = absurd cc
same_shape (UnknownOpcode n) OutOfMemory same = absurd cc
same_shape (Short n) (Edit e) same = absurd cc
same_shape (Short n) (UnknownOpcode m) same = absurd cc
same_shape (Short n) (Short m) same = let e : n ≡ m = cc in ap Short e
same_shape (Short n) (Trailing m) same = absurd cc
same_shape (Short n) (BadField m r) same = absurd cc
same_shape (Short n) OutOfMemory same = absurd cc
same_shape (Trailing n) (Edit e) same = absurd cc
same_shape (Trailing n) (UnknownOpcode m) same = absurd cc
same_shape (Trailing n) (Short m) same = absurd cc
same_shape (Trailing n) (Trailing m) same = let e : n ≡ m = cc in ap Trailing e
same_shape (Trailing n) (BadField m r) same = absurd cc
same_shape (Trailing n) OutOfMemory same = absurd cc
same_shape (BadField n s) (Edit e) same = absurd cc
same_shape (BadField n s) (UnknownOpcode m) same = absurd cc
same_shape (BadField n s) (Short m) same = absurd cc
same_shape (BadField n s) (Trailing m) same = absurd cc
same_shape (BadField n s) (BadField m r) same = let e : n ≡ m = cc in let f : s ≡ r = cc in (λ i. BadField (e i) (f i))
same_shape (BadField n s) OutOfMemory same = absurd cc
same_shape OutOfMemory (Edit e) same = absurd cc
same_shape OutOfMemory (UnknownOpcode m) same = absurd cc
same_shape OutOfMemory (Short m) same = absurd cc
same_shape OutOfMemory (Trailing m) same = absurd cc
same_shape OutOfMemory (BadField m r) same = absurd cc
same_shape OutOfMemory OutOfMemory same = refl

-- ---- what a right answer says of the reading

-- a body that begins with an opcode of the table
record Known (body : List ℕ) (answer : Answer) : Type 0 where
  kind : OpKind
  c : Bool
  bytes : List ℕ
  may_call : MayCall kind c
  whole : body ≡ opcode kind c ∷ bytes
  answer_is : answer ≡ told (length body) kind c (fields_at (full_layout kind c) bytes)

record Unknown (body : List ℕ) (answer : Answer) : Type 0 where
  byte : ℕ
  bytes : List ℕ
  whole : body ≡ byte ∷ bytes
  no_kind : (kind : OpKind) (c : Bool) → MayCall kind c → opcode kind c ≢ byte
  answer_is : answer ≡ unknown byte

with_front-nil : (fields : List Field) (rest : List ℕ) → with_front fields (fields_at [] rest) ≡ Ok (fields, rest)
with_front-nil fields rest = ap (λ (fs : List Field). Ok (fs, rest)) (append-nil fields)

known_begins : (body : List ℕ) (answer : Answer) (left : List Kind) (rest : List ℕ) (b : Begins body left rest)
    → answer ≡ told (length body) b.kind b.called (with_front b.fields (fields_at left rest)) → Known body answer
known_begins body answer left rest b is = record {
  kind = b.kind;
  c = b.called;
  bytes = flat_map field_bytes b.fields ++ rest;
  may_call = b.may_call;
  whole = b.whole;
  answer_is = is ∙ ap (told (length body) b.kind b.called) (sym (runs (full_layout b.kind b.called) b.fields left rest b.good));
}

fails_first : (fields : List Field) (next : Kind) (left : List Kind) (rest : List ℕ) (fault : FieldFault) → field_at next rest ≡ Err fault
    → with_front fields (fields_at (next ∷ left) rest) ≡ Err fault
fails_first fields next left rest fault wrong = rw wrong refl

ended_nonempty : (kind : OpKind) (c : Bool) (fields : List Field) (rest : List ℕ) → 0 < length rest → trailing (length rest) ≡ ended kind c fields rest
ended_nonempty kind c fields [] some = absurd (omega arith)
ended_nonempty kind c fields (b ∷ rest) some = refl

abbrev Says : List ℕ → Answer → Type 0
Says body answer = Known body answer ⊎ (Unknown body answer ⊎ ((body ≡ []) × (answer ≡ short 1)))

says : (body : List ℕ) (a : Decoded) → IsDecoded body a → a ≢ OutOfMemory → Says body (shape a)
says body (Edit e) is not_memory = inl (record {
  kind = kind_of e.op;
  c = called e;
  bytes = flat_map field_bytes (edit_fields e);
  may_call = is.edit.call;
  whole = is.spelled;
  answer_is = sym (ap (told (length body) (kind_of e.op) (called e))
      (ap (fields_at (full_layout (kind_of e.op) (called e))) (sym (append-nil (flat_map field_bytes (edit_fields e))))
      ∙ runs (full_layout (kind_of e.op) (called e)) (edit_fields e) [] [] (edit_matches e is.edit) ∙ with_front-nil (edit_fields e) []));
})
says body (UnknownOpcode byte) is not_memory = inr (inl (record { byte = byte; bytes = is.bytes; whole = is.whole; no_kind = is.unknown; answer_is = refl }))
says [] (Short needed) is not_memory = inr (inr (refl, ap short is))
says (byte ∷ bytes) (Short needed) is not_memory =
    let missing : ℕ = least is.next is.rest - length is.rest in
    let needed_is : needed ≡ length (byte ∷ bytes) + (least is.next is.rest - length is.rest) = omega (arith, is.ends, is.least_length) in
    inl (known_begins (byte ∷ bytes) (short needed) (is.next ∷ is.left) is.rest is.begins
    (ap short needed_is ∙ sym (ap (told (length (byte ∷ bytes)) is.begins.kind is.begins.called)
    (fails_first is.begins.fields is.next is.left is.rest (faults.Short (least is.next is.rest - length is.rest))
    (short_field is.next is.rest is.ends)))))
says body (Trailing count) is not_memory =
    inl (known_begins body (trailing count) [] is.rest is.begins
    (ap trailing is.all ∙ ended_nonempty is.begins.kind is.begins.called is.begins.fields is.rest is.some
    ∙ sym (ap (told (length body) is.begins.kind is.begins.called) (with_front-nil is.begins.fields is.rest))))
says body (BadField place rule) is not_memory =
    let place_is : place ≡ length body - length is.rest = omega (arith, is.at) in
    inl (known_begins body (bad place rule) (is.next ∷ is.left) is.rest is.begins
    (ap (λ (p : ℕ). bad p rule) place_is ∙ sym (ap (told (length body) is.begins.kind is.begins.called)
    (fails_first is.begins.fields is.next is.left is.rest (faults.Bad (length is.rest) rule)
    (broken_field is.next is.rest rule is.there is.broken)))))
says body OutOfMemory is not_memory = absurd (not_memory refl)

heads : (a b : ℕ) (x y : List ℕ) → a ∷ x ≡ b ∷ y → (a ≡ b) × (x ≡ y)
heads a b x y e = (cc, cc)

one_known : (body : List ℕ) (p q : Answer) → Known body p → Known body q → p ≡ q
one_known body p q k l =
    let h = heads (opcode k.kind k.c) (opcode l.kind l.c) k.bytes l.bytes (sym k.whole ∙ l.whole) in
    let o = same_opcode k.kind l.kind k.c l.c h.0 in
    k.answer_is ∙ (λ i. told (length body) (o.0 i) (o.1 i) (fields_at (full_layout (o.0 i) (o.1 i)) (h.1 i))) ∙ sym l.answer_is

not_both : {A : Type 0} (body : List ℕ) (p q : Answer) → Known body p → Unknown body q → A
not_both body p q k u = absurd (u.no_kind k.kind k.c k.may_call (heads (opcode k.kind k.c) u.byte k.bytes u.bytes (sym k.whole ∙ u.whole)).0)

one_answer : (body : List ℕ) (p q : Answer) → Says body p → Says body q → p ≡ q
one_answer body p q (inl k) (inl l) = one_known body p q k l
one_answer body p q (inl k) (inr (inl u)) = not_both body p q k u
one_answer body p q (inl k) (inr (inr n)) = let e = sym k.whole ∙ n.0 in absurd cc
one_answer body p q (inr (inl u)) (inl k) = not_both body q p k u
one_answer body p q (inr (inl u)) (inr (inl v)) = u.answer_is ∙ ap unknown (heads u.byte v.byte u.bytes v.bytes (sym u.whole ∙ v.whole)).0 ∙ sym v.answer_is
one_answer body p q (inr (inl u)) (inr (inr n)) = let e = sym u.whole ∙ n.0 in absurd cc
one_answer body p q (inr (inr n)) (inl k) = let e = sym k.whole ∙ n.0 in absurd cc
one_answer body p q (inr (inr n)) (inr (inl u)) = let e = sym u.whole ∙ n.0 in absurd cc
one_answer body p q (inr (inr m)) (inr (inr n)) = m.1 ∙ sym n.1

-- a body has one right answer beside lack of memory
pub one_right_answer : (body : List ℕ) (a b : Decoded) → IsDecoded body a → IsDecoded body b → a ≢ OutOfMemory → b ≢ OutOfMemory → a ≡ b
one_right_answer body a b p q not_a not_b = same_shape a b (one_answer body (shape a) (shape b) (says body a p not_a) (says body b q not_b))

-- what an answer is, beside the right one
pub this_or_memory : (body : List ℕ) (a b : Decoded) → IsDecoded body a → IsDecoded body b → b ≢ OutOfMemory → (a ≡ OutOfMemory) ⊎ (a ≡ b)
this_or_memory body OutOfMemory b p q not_b = inl refl
this_or_memory body (Edit e) b p q not_b = inr (one_right_answer body (Edit e) b p q (λ is. absurd (cc)) not_b)
this_or_memory body (UnknownOpcode n) b p q not_b = inr (one_right_answer body (UnknownOpcode n) b p q (λ is. absurd (cc)) not_b)
this_or_memory body (Short n) b p q not_b = inr (one_right_answer body (Short n) b p q (λ is. absurd (cc)) not_b)
this_or_memory body (Trailing n) b p q not_b = inr (one_right_answer body (Trailing n) b p q (λ is. absurd (cc)) not_b)
this_or_memory body (BadField n r) b p q not_b = inr (one_right_answer body (BadField n r) b p q (λ is. absurd (cc)) not_b)

-- no record begins another
pub no_prefix : (a b : EditView) (x y : List ℕ) → IsEdit a → IsEdit b → record_of a ++ x ≡ record_of b ++ y → (a ≡ b) × (x ≡ y)
no_prefix a b x y p q e =
    let h = heads (opcode (kind_of a.op) (called a)) (opcode (kind_of b.op) (called b)) (flat_map field_bytes (edit_fields a) ++ x) (flat_map field_bytes (edit_fields b) ++ y) e in
    let o = same_opcode (kind_of a.op) (kind_of b.op) (called a) (called b) h.0 in
    let read_a = runs (full_layout (kind_of a.op) (called a)) (edit_fields a) [] x (edit_matches a p) ∙ with_front-nil (edit_fields a) x in
    let read_b = runs (full_layout (kind_of b.op) (called b)) (edit_fields b) [] y (edit_matches b q) ∙ with_front-nil (edit_fields b) y in
    let same = ok_is (edit_fields a, x) (edit_fields b, y) (sym read_a ∙ (λ i. fields_at (full_layout (o.0 i) (o.1 i)) (h.1 i)) ∙ read_b) in
    (same_edit a b o.0 o.1 (ap (λ (r : List Field × List ℕ). r.0) same), ap (λ (r : List Field × List ℕ). r.1) same)

-- ---- what was read says what the body is

-- a call, and then the fields of its edit
pub both_read : (kind : OpKind) (bytes : List ℕ) (front fields : List Field) (after rest : List ℕ)
    → fields_at (client ∷ call_number ∷ []) bytes ≡ Ok (front, after) → fields_at (layout kind) after ≡ Ok (fields, rest)
    → fields_at (full_layout kind true) bytes ≡ Ok (front ++ fields, rest)
both_read kind bytes front fields after rest p q = fields-append group_at (client ∷ call_number ∷ []) (layout kind) bytes ∙ rw (p, q) refl

pub second_fails : (kind : OpKind) (bytes : List ℕ) (front : List Field) (after : List ℕ) (e : ReadError FieldFault)
    → fields_at (client ∷ call_number ∷ []) bytes ≡ Ok (front, after) → Fails e (fields_at (layout kind) after)
    → Fails e (fields_at (full_layout kind true) bytes)
second_fails kind bytes front after errors.Memory p fails = tt
second_fails kind bytes front after (errors.Fault f) p fails = fields-append group_at (client ∷ call_number ∷ []) (layout kind) bytes ∙ rw (p, fails) refl

module _ (kind : OpKind) (c : Bool) (body bytes : List ℕ) (byte : ℕ) (may : MayCall kind c) (code_is : opcode kind c ≡ byte) (whole : body ≡ byte ∷ bytes) (fits : IsBytes bytes) where
  begins_at : (left : List Kind) (fields : List Field) (rest : List ℕ) → Matches (full_layout kind c) fields left → bytes ≡ flat_map field_bytes fields ++ rest → Begins body left rest
  begins_at left fields rest m parts = record { kind = kind; called = c; may_call = may; fields = fields; good = m; whole = whole ∙ (λ i. sym code_is i ∷ parts i) }

  pub right_edit : (e : EditView) (rest : List ℕ) → IsEdit e → kind_of e.op ≡ kind → called e ≡ c → fields_at (full_layout kind c) bytes ≡ Ok (edit_fields e, rest) → length rest ≡ 0 → IsRecord body e
  right_edit e rest is kind_is called_is read none =
      let ends = fields_good (full_layout kind c) bytes (edit_fields e) rest fits read in
      let nothing : rest ≡ [] = nil_from_length rest none in
      record {
        edit = is;
        spelled = whole ∙ (λ i. (sym code_is ∙ (λ j. opcode (sym kind_is j) (sym called_is j))) i ∷
            (ends.parts ∙ ap (λ (r : List ℕ). flat_map field_bytes (edit_fields e) ++ r) nothing ∙ append-nil (flat_map field_bytes (edit_fields e)))
            i);
      }

  pub right_trailing : (fields : List Field) (rest : List ℕ) → fields_at (full_layout kind c) bytes ≡ Ok (fields, rest) → 0 < length rest → HasTrailing body (length rest)
  right_trailing fields rest read some =
      let ends = fields_good (full_layout kind c) bytes fields rest fits read in
      record { rest = rest; begins = begins_at [] fields rest ends.matches ends.parts; some = some; all = refl }

  pub right_short : (missing : ℕ) → fields_at (full_layout kind c) bytes ≡ Err (faults.Short missing) → EndsInside body (length body + missing)
  right_short missing read =
      let stops = fields_wrong (full_layout kind c) bytes (faults.Short missing) fits read in
      let wrong = is_wrong stops.next stops.rest (faults.Short missing) stops.wrong in
      record {
        next = stops.next;
        left = stops.left;
        rest = stops.rest;
        begins = begins_at (stops.next ∷ stops.left) stops.fields stops.rest stops.matches stops.parts;
        ends = wrong.short;
        least_length = omega (arith, wrong.told);
      }

  pub right_bad : (left rule : ℕ) → fields_at (full_layout kind c) bytes ≡ Err (faults.Bad left rule) → BreaksRule body (length body - left) rule
  right_bad left rule read =
      let stops = fields_wrong (full_layout kind c) bytes (faults.Bad left rule) fits read in
      let wrong = is_wrong stops.next stops.rest (faults.Bad left rule) stops.wrong in
      record {
        next = stops.next;
        left = stops.left;
        rest = stops.rest;
        begins = begins_at (stops.next ∷ stops.left) stops.fields stops.rest stops.matches stops.parts;
        there = wrong.there;
        broken = wrong.broken;
        at = omega (arith, wrong.told, ap length whole, ap length stops.parts, length-append (flat_map field_bytes stops.fields) stops.rest);
      }

  pub few_left : (left rule : ℕ) → fields_at (full_layout kind c) bytes ≡ Err (faults.Bad left rule) → left ≤ length body
  few_left left rule read =
      let stops = fields_wrong (full_layout kind c) bytes (faults.Bad left rule) fits read in
      let wrong = is_wrong stops.next stops.rest (faults.Bad left rule) stops.wrong in
      omega (arith, wrong.told, ap length whole, ap length stops.parts, length-append (flat_map field_bytes stops.fields) stops.rest)

  pub few_missing : (missing : ℕ) → fields_at (full_layout kind c) bytes ≡ Err (faults.Short missing) → missing ≤ 65537
  few_missing missing read =
      let stops = fields_wrong (full_layout kind c) bytes (faults.Short missing) fits read in
      let wrong = is_wrong stops.next stops.rest (faults.Short missing) stops.wrong in
      omega (arith, wrong.told, least_bound stops.next stops.rest stops.rest_fits)
