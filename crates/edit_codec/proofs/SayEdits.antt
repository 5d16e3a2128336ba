-- Whole texts: each has one edit or none.
use Rattle.std.proofs.Common.{◌≡◌, ◌≢◌, ◌⊎◌, ℕ, ◌<◌, false, List, [], ◌∷◌, ◌++◌, length, Option, Some, None, Ok, Err, refl, sym, ap, subst, ◌∙◌, append_assoc, arith, inl, inr}
use Rattle.std.specs.Prelude.{codes}
use Rattle.std.specs.List.{flat_map, AllByRecursion}
use Rattle.std.proofs.lemmas.List.{append-nil, nil_from_length, append_cancel_left}
use Rattle.edit_ops.specs.declared.kind.OpKind.{OpKind}
use Rattle.edit_ops.specs.declared.op.Op.{Op}
use Rattle.edit_ops.specs.declared.call.Call.{Call}
use Rattle.edit_codec.specs.declared.said_text.ReadText.{ReadText}
use Rattle.edit_codec.specs.declared.said_text.ReadText.TheVariants as answers
use Rattle.edit_codec.specs.declared.bad_text.BadText.{BadText}
use Rattle.edit_ops.specs.declared.field_fault.ReadError.{ReadError}
use Rattle.edit_ops.specs.declared.field_fault.ReadError.TheVariants as errors
use Rattle.edit_ops.specs.Kinds.{is_mark}
use Rattle.edit_ops.specs.Words.{verb}
use Rattle.edit_ops.specs.Fields.{Field, client, call_number, IsGood}
use Rattle.edit_ops.specs.Records.{EditView, kind_of, fields_of, layout, call_fields}
use Rattle.edit_codec.specs.Spaced.{spaced}
use Rattle.edit_codec.specs.EditTexts.{IsText}
use Rattle.edit_codec.specs.ReadTexts.{IsLine, IsReadLine, IsReadEdit, IsReadText}
use Rattle.edit_ops.specs.Sources.{Fails}
use Rattle.edit_codec.specs.OpRead.{op_read}
use Rattle.edit_codec.specs.Saying.{Boundary, split_word, words_group, fields_said}
use Rattle.edit_ops.proofs.SourceLaws.{ok_is}
use Rattle.edit_codec.proofs.OpReads.{op_is_read, op_fails}
use Rattle.edit_ops.proofs.EditLaws.{same_op}
use Rattle.edit_codec.proofs.SayWords.{NoSpace, split_again}
use Rattle.edit_codec.proofs.SayLaws.{runs, fields_taken}
use Rattle.edit_codec.proofs.SayOps.{op_says, op_bound, same_verb, verb_plain, no_call_verb}

abbrev flat : List Field → List ℕ
flat fields = flat_map (spaced false) fields

-- ---- lines

pub line_split : (words : List ℕ) (op : Op) → IsLine words op → split_word words ≡ (verb (kind_of op), flat (fields_of op))
line_split words op line = ap split_word line.spelled ∙ split_again (verb (kind_of op)) (flat (fields_of op)) (verb_plain (kind_of op)) (op_bound op line.no_mark)

pub line_word : (words : List ℕ) (op : Op) → IsLine words op → (split_word words).0 ≡ verb (kind_of op)
line_word words op line = ap (λ (p : List ℕ × List ℕ). p.0) (line_split words op line)

pub line_rest : (words : List ℕ) (op : Op) → IsLine words op → (split_word words).1 ≡ flat (fields_of op)
line_rest words op line = ap (λ (p : List ℕ × List ℕ). p.1) (line_split words op line)

pub line_says : (words : List ℕ) (op : Op) → IsLine words op → fields_said (layout (kind_of op)) (flat (fields_of op)) ≡ Ok (fields_of op, [])
line_says words op line = op_says op line.good line.said line.no_mark

-- the words of a line under the kind that its first word tells
line_under : (words : List ℕ) (kind : OpKind) (op : Op) → verb kind ≡ (split_word words).0 → IsLine words op → fields_said (layout kind) (split_word words).1 ≡ Ok (fields_of op, [])
line_under words kind op told line =
    let kind_is : kind ≡ kind_of op = same_verb kind (kind_of op) (told ∙ line_word words op line) in
    (λ i. fields_said (layout (kind_is i)) (line_rest words op line i)) ∙ line_says words op line

pub no_verb : (words : List ℕ) → ((kind : OpKind) → is_mark kind ≡ false → verb kind ≢ (split_word words).0) → (op : Op) → IsLine words op → ⊥
no_verb words none op line = none (kind_of op) line.no_mark (sym (line_word words op line))

pub no_fields : (words : List ℕ) (kind : OpKind) (f : BadText) → verb kind ≡ (split_word words).0 → op_read words_group kind (split_word words).1 ≡ Err f → (op : Op) → IsLine words op → ⊥
no_fields words kind f told missed op line = let p = op_fails words_group kind (split_word words).1 (errors.Fault f) missed in let q =
    line_under words kind op told line in let e = sym p ∙ q in absurd cc

pub no_more : (words : List ℕ) (kind : OpKind) (k : OpKind) (fields : List Field) (rest : List ℕ) → verb kind ≡ (split_word words).0
    → op_read words_group kind (split_word words).1 ≡ Ok ((k, fields), rest) → 0 < length rest → (op : Op) → IsLine words op → ⊥
no_more words kind k fields rest told read some op line =
    let p = (op_is_read words_group kind (split_word words).1 k fields rest read).0 in
    let q = line_under words kind op told line in
    let same = ok_is (fields, rest) (fields_of op, []) (sym p ∙ q) in
    omega (arith, some, ap (λ (x : List Field × List ℕ). length x.1) same)

pub is_line : (words : List ℕ) (kind : OpKind) (op : Op) (rest : List ℕ) → is_mark kind ≡ false → verb kind ≡ (split_word words).0
    → (split_word words).0 ++ (split_word words).1 ≡ words → op_read words_group kind (split_word words).1 ≡ Ok ((kind_of op, fields_of op), rest)
    → length rest ≡ 0 → IsLine words op
is_line words kind op rest mark told parts read none =
    let r = op_is_read words_group kind (split_word words).1 (kind_of op) (fields_of op) rest read in
    let t = fields_taken (layout kind) (split_word words).1 (fields_of op, rest) r.0 in
    let nothing : rest ≡ [] = nil_from_length rest none in
    record {
      good = t.good;
      said = t.can;
      no_mark = ap is_mark r.1 ∙ mark;
      spelled = sym parts ∙ (λ i. (sym told ∙ ap verb (sym r.1)) i ++ (t.parts ∙ ap (λ (w : List ℕ). flat (fields_of op) ++ w) nothing ∙ append-nil (flat (fields_of op))) i);
    }

pub one_line : (words : List ℕ) (a b : Op) → IsLine words a → IsLine words b → a ≡ b
one_line words a b p q =
    let kinds_same : kind_of a ≡ kind_of b = same_verb (kind_of a) (kind_of b) (sym (line_word words a p) ∙ line_word words b q) in
    let read_a = line_under words (kind_of a) a (sym (line_word words a p)) p in
    let read_b = line_under words (kind_of b) b (sym (line_word words b q)) q in
    let same = ok_is (fields_of a, []) (fields_of b, []) (sym read_a ∙ (λ i. fields_said (layout (kinds_same i)) (split_word words).1) ∙ read_b) in
    same_op a b kinds_same (ap (λ (x : List Field × List ℕ). x.0) same)

-- ---- calls

-- a text that a call stands before: the words after `call`
pub record IsCalled (text : List ℕ) (call : Call) (op : Op) : Type 0 where
  pub line : List ℕ
  pub parts : text ≡ codes "call" ++ (flat (call_fields (Some call)) ++ 32 ∷ line)
  pub is_line : IsLine line op
  pub good : AllByRecursion IsGood (call_fields (Some call))

split_good : (xs ys : List Field) → AllByRecursion IsGood (xs ++ ys) → AllByRecursion IsGood xs × AllByRecursion IsGood ys
split_good [] ys good = (tt, good)
split_good (x ∷ xs) ys good = let r = split_good xs ys good.1 in ((good.0, r.0), r.1)

pub called_text : (text : List ℕ) (call : Call) (op : Op) → IsText text (record { op = op; call = Some call }) → IsCalled text call op
called_text text call op is =
    let good = split_good (call_fields (Some call)) (fields_of op) is.edit.fields in
    let line : List ℕ = verb (kind_of op) ++ flat (fields_of op) in
    record {
      line = verb (kind_of op) ++ flat (fields_of op);
      parts = is.spelled ∙ ap (λ (w : List ℕ). codes "call" ++ w) (append_assoc (flat (call_fields (Some call))) (32 ∷ []) (verb (kind_of op) ++ flat (fields_of op)));
      is_line = record { good = good.1; said = is.said; no_mark = is.no_mark; spelled = refl };
      good = good.0;
    }

pub plain_text : (text : List ℕ) (op : Op) → IsText text (record { op = op; call = None }) → IsLine text op
plain_text text op is = record { good = is.edit.fields; said = is.said; no_mark = is.no_mark; spelled = is.spelled }

pub call_plain : NoSpace (codes "call")
call_plain = (refl, (refl, (refl, (refl, tt))))

-- what begins with the word `call` is no line
not_line : (words : List ℕ) (op : Op) → Boundary words → IsLine (codes "call" ++ words) op → ⊥
not_line words op bound line = no_call_verb (kind_of op) (sym (line_word (codes "call" ++ words) op line) ∙ ap (λ (p : List ℕ × List ℕ). p.0) (split_again (codes "call") words call_plain bound))

pub call_bound : (call : Call) (line : List ℕ) → Boundary (flat (call_fields (Some call)) ++ 32 ∷ line)
call_bound call line = refl

pub call_says : (call : Call) (line : List ℕ) → AllByRecursion IsGood (call_fields (Some call))
    → fields_said (client ∷ call_number ∷ []) (flat (call_fields (Some call)) ++ 32 ∷ line) ≡ Ok (call_fields (Some call), 32 ∷ line)
call_says call line good = runs (call_fields (Some call)) [] (32 ∷ line) ((tt, (tt, tt)), good, (tt, (tt, tt))) refl

same_call : (a b : Call) → call_fields (Some a) ≡ call_fields (Some b) → a ≡ b
same_call a b e = let x : a.client ≡ b.client = cc in let y : a.number ≡ b.number = cc in (λ i. record { client = x i; number = y i })

tails : (a b : ℕ) (x y : List ℕ) → a ∷ x ≡ b ∷ y → x ≡ y
tails a b x y e = cc

-- the words after `call` and a call that a text has
behind : (text words : List ℕ) (call : Call) (op : Op) → text ≡ codes "call" ++ words → (t : IsCalled text call op) → words ≡ flat (call_fields (Some call)) ++ 32 ∷ t.line
behind text words call op whole t = append_cancel_left (codes "call") words (flat (call_fields (Some call)) ++ 32 ∷ t.line) (sym whole ∙ t.parts)

one_edit_by : (text : List ℕ) (c d : Option Call) (a b : Op) → IsText text (record { op = a; call = c }) → IsText text (record { op = b; call = d }) → (c ≡ d) × (a ≡ b)
one_edit_by text None None a b p q = (refl, one_line text a b (plain_text text a p) (plain_text text b q))
one_edit_by text None (Some d) a b p q = let t = called_text text d b q in absurd
    (not_line (flat (call_fields (Some d)) ++ 32 ∷ t.line) a (call_bound d t.line) (subst (λ (w : List ℕ). IsLine w a) t.parts (plain_text text a p)))
one_edit_by text (Some c) None a b p q = let t = called_text text c a p in absurd
    (not_line (flat (call_fields (Some c)) ++ 32 ∷ t.line) b (call_bound c t.line) (subst (λ (w : List ℕ). IsLine w b) t.parts (plain_text text b q)))
one_edit_by text (Some c) (Some d) a b p q =
    let t = called_text text c a p in
    let u = called_text text d b q in
    let words = append_cancel_left (codes "call") (flat (call_fields (Some c)) ++ 32 ∷ t.line) (flat (call_fields (Some d)) ++ 32 ∷ u.line) (sym t.parts ∙ u.parts) in
    let same = ok_is (call_fields (Some c), 32 ∷ t.line) (call_fields (Some d), 32 ∷ u.line)
    (sym (call_says c t.line t.good) ∙ ap (fields_said (client ∷ call_number ∷ [])) words ∙ call_says d u.line u.good) in
    let line_same : t.line ≡ u.line = tails 32 32 t.line u.line (ap (λ (x : List Field × List ℕ). x.1) same) in
    (ap (λ (k : Call). Some k) (same_call c d (ap (λ (x : List Field × List ℕ). x.0) same)), one_line u.line a b (subst (λ (w : List ℕ). IsLine w a) line_same t.is_line) u.is_line)

-- a text is that of one edit
pub one_edit : (a b : EditView) (text : List ℕ) → IsText text a → IsText text b → a ≡ b
one_edit a b text p q = let r = one_edit_by text a.call b.call a.op b.op p q in (λ i. record { op = r.1 i; call = r.0 i })

-- ---- the answers

no_plain : (text words : List ℕ) (op : Op) → text ≡ codes "call" ++ words → Boundary words → IsText text (record { op = op; call = None }) → ⊥
no_plain text words op whole bound is = not_line words op bound (subst (λ (w : List ℕ). IsLine w op) whole (plain_text text op is))

-- after the word `call` only an edit with a call stands
only_called : (text words : List ℕ) (c : Option Call) (op : Op) → text ≡ codes "call" ++ words → Boundary words → IsText text (record { op = op; call = c }) → (call : Call) × IsCalled text call op
only_called text words None op whole bound is = absurd (no_plain text words op whole bound is)
only_called text words (Some call) op whole bound is = (call, called_text text call op is)

says_after : (text words : List ℕ) (e : EditView) → text ≡ codes "call" ++ words → Boundary words → IsText text e
    → (call : Call) × (line : List ℕ) × IsLine line e.op × (fields_said (client ∷ call_number ∷ []) words ≡ Ok (call_fields (Some call), 32 ∷ line))
says_after text words e whole bound is =
    let t = only_called text words e.call e.op whole bound is in
    (t.0, t.1.line, t.1.is_line, ap (fields_said (client ∷ call_number ∷ [])) (behind text words t.0 e.op whole t.1) ∙ call_says t.0 t.1.line t.1.good)

pub no_call : (text words : List ℕ) (f : BadText) → text ≡ codes "call" ++ words → Boundary words → fields_said (client ∷ call_number ∷ []) words ≡ Err f → (e : EditView) → IsText text e → ⊥
no_call text words f whole bound missed e is = let s = says_after text words e whole bound is in let both = sym missed ∙ s.3 in absurd cc

pub no_space : (text words : List ℕ) (fields : List Field) (rest : List ℕ) → text ≡ codes "call" ++ words → Boundary words
    → fields_said (client ∷ call_number ∷ []) words ≡ Ok (fields, rest) → ((line : List ℕ) → rest ≢ 32 ∷ line) → (e : EditView) → IsText text e → ⊥
no_space text words fields rest whole bound read none e is =
    let s = says_after text words e whole bound is in
    let same = ok_is (fields, rest) (call_fields (Some s.0), 32 ∷ s.1) (sym read ∙ s.3) in
    none s.1 (ap (λ (x : List Field × List ℕ). x.1) same)

pub no_line : (text words line : List ℕ) (fields : List Field) → text ≡ codes "call" ++ words → Boundary words
    → fields_said (client ∷ call_number ∷ []) words ≡ Ok (fields, 32 ∷ line) → ((op : Op) → IsLine line op → ⊥) → (e : EditView) → IsText text e → ⊥
no_line text words line fields whole bound read none e is =
    let s = says_after text words e whole bound is in
    let same = ok_is (fields, 32 ∷ line) (call_fields (Some s.0), 32 ∷ s.1) (sym read ∙ s.3) in
    let line_is : line ≡ s.1 = tails 32 32 line s.1 (ap (λ (x : List Field × List ℕ). x.1) same) in
    none e.op (subst (λ (w : List ℕ). IsLine w e.op) (sym line_is) s.2)

pub called_edit : (text words line : List ℕ) (call : Call) (op : Op) → text ≡ codes "call" ++ words
    → fields_said (client ∷ call_number ∷ []) words ≡ Ok (call_fields (Some call), 32 ∷ line) → IsLine line op
    → IsText text (record { op = op; call = Some call })
called_edit text words line call op whole read is =
    let t = fields_taken (client ∷ call_number ∷ []) words (call_fields (Some call), 32 ∷ line) read in
    record {
      edit = record { fields = (t.good.0, (t.good.1.0, is.good)); call = is.no_mark };
      no_mark = is.no_mark;
      said = is.said;
      spelled = whole ∙ ap (λ (w : List ℕ). codes "call" ++ w) (t.parts ∙ ap (λ (w : List ℕ). flat (call_fields (Some call)) ++ 32 ∷ w) is.spelled
          ∙ sym (append_assoc (flat (call_fields (Some call))) (32 ∷ []) (verb (kind_of op) ++ flat (fields_of op))));
    }

pub plain_edit : (text : List ℕ) (op : Op) → IsLine text op → IsText text (record { op = op; call = None })
plain_edit text op is = record { edit = record { fields = is.good; call = tt }; no_mark = is.no_mark; said = is.said; spelled = is.spelled }

-- a text whose first word isn't `call` and that is no line is no edit's
not_called : (text : List ℕ) (c : Option Call) (op : Op) → (split_word text).0 ≢ codes "call" → ((o : Op) → IsLine text o → ⊥) → IsText text (record { op = op; call = c }) → ⊥
not_called text None op other none is = none op (plain_text text op is)
not_called text (Some call) op other none is =
    let t = called_text text call op is in
    other (ap (λ (w : List ℕ). (split_word w).0) t.parts ∙ ap (λ (p : List ℕ × List ℕ). p.0)
    (split_again (codes "call") (flat (call_fields (Some call)) ++ 32 ∷ t.line) call_plain (call_bound call t.line)))

pub no_edit : (text : List ℕ) → (split_word text).0 ≢ codes "call" → ((o : Op) → IsLine text o → ⊥) → (e : EditView) → IsText text e → ⊥
no_edit text other none e is = not_called text e.call e.op other none is

pub read_only : (text : List ℕ) (a : ReadText) (e : EditView) → IsReadText text a → IsText text e → (a ≡ answers.OutOfMemory) ⊎ (a ≡ answers.Edit e)
read_only text (answers.Edit d) e p q = inr (ap answers.Edit (one_edit d e text p q))
read_only text answers.BadText e p q = absurd (p e q)
read_only text answers.OutOfMemory e p q = inl refl

-- ---- errors, whichever they are

pub line_misses : (words : List ℕ) (kind : OpKind) (e : ReadError BadText) → verb kind ≡ (split_word words).0 → Fails e (op_read words_group kind (split_word words).1) → IsReadLine words (Err e)
line_misses words kind errors.Memory told missed = tt
line_misses words kind (errors.Fault f) told missed = no_fields words kind f told missed

pub call_misses : (text words : List ℕ) (e : ReadError BadText) → text ≡ codes "call" ++ words → Boundary words → Fails e (fields_said (client ∷ call_number ∷ []) words) → IsReadEdit text (Err e)
call_misses text words errors.Memory whole bound missed = tt
call_misses text words (errors.Fault f) whole bound missed = no_call text words f whole bound missed

pub line_fails : (text words line : List ℕ) (fields : List Field) (e : ReadError BadText) → text ≡ codes "call" ++ words → Boundary words
    → fields_said (client ∷ call_number ∷ []) words ≡ Ok (fields, 32 ∷ line) → IsReadLine line (Err e) → IsReadEdit text (Err e)
line_fails text words line fields errors.Memory whole bound read none = tt
line_fails text words line fields (errors.Fault f) whole bound read none = no_line text words line fields whole bound read none

pub plain_fails : (text : List ℕ) (e : ReadError BadText) → (split_word text).0 ≢ codes "call" → IsReadLine text (Err e) → IsReadEdit text (Err e)
plain_fails text errors.Memory other none = tt
plain_fails text (errors.Fault f) other none = no_edit text other none
