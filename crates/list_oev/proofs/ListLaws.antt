-- Lines and counts, as one edit more comes.
use Rattle.std.proofs.Common.{◌≡◌, ℕ, suc, ◌+◌, ◌<◌, ◌≤◌, Bool, true, false, eqb, List, [], ◌∷◌, ◌++◌, length, slice_index, refl, sym, ap, ◌∙◌, append_assoc, arith, lit<}
use Rattle.std.specs.List.{flat_map}
use Rattle.std.proofs.lemmas.List.{append-nil}
use Rattle.std.proofs.lemmas.List.Sums.{count_by-le-length}
use Rattle.edit_ops.specs.declared.kind.OpKind.{OpKind}
use Rattle.edit_ops.specs.declared.kind.OpKind.TheVariants.{Add, RenameOld, Delete, Mkdir, SetReplication, SetPermissions, SetOwner, Close, Times}
use Rattle.edit_ops.specs.declared.kind.OpKind.TheVariants.{SetQuota, Rename, ConcatDelete, EndLogSegment, StartLogSegment}
use Rattle.edit_ops.specs.Kinds.{code, kinds}
use Rattle.edit_ops.specs.Records.{EditView, kind_of, called, opcode}
use Rattle.list_oev.specs.Lines.{line, lines}
use Rattle.list_oev.specs.Counts.{code_of, count_of, tally, tally_by, statistics_by, statistics, AreCounts}

line_at : (t u : ℕ) (edit : EditView) → t ≡ u → line t edit ≡ line u edit
line_at t u edit h = ap (λ (n : ℕ). line n edit) h

-- a line more
pub lines_push : (txid : ℕ) (edits : List EditView) (edit : EditView) → lines txid (edits ++ edit ∷ []) ≡ lines txid edits ++ line (txid + length edits) edit
lines_push txid [] edit = append-nil (line txid edit) ∙ line_at txid (txid + 0) edit (omega arith)
lines_push txid (x ∷ edits) edit =
    ap (λ (z : List ℕ). line txid x ++ z) (lines_push (txid + 1) edits edit
    ∙ ap (λ (z : List ℕ). lines (txid + 1) edits ++ z) (line_at (txid + 1 + length edits) (txid + suc (length edits)) edit (omega arith)))
    ∙ sym (append_assoc (line txid x) (lines (txid + 1) edits) (line (txid + suc (length edits)) edit))

code_small : (kind : OpKind) → code kind < 64
code_small Add = lit< tt
code_small RenameOld = lit< tt
code_small Delete = lit< tt
code_small Mkdir = lit< tt
code_small SetReplication = lit< tt
code_small SetPermissions = lit< tt
code_small SetOwner = lit< tt
code_small Close = lit< tt
code_small Times = lit< tt
code_small SetQuota = lit< tt
code_small Rename = lit< tt
code_small ConcatDelete = lit< tt
code_small EndLogSegment = lit< tt
code_small StartLogSegment = lit< tt

pub opcode_small : (kind : OpKind) (with_call : Bool) → opcode kind with_call < 128
opcode_small kind false = omega (arith, code_small kind)
opcode_small kind true = omega (arith, code_small kind)

flat_map_same : (f g : OpKind → List ℕ) (ks : List OpKind) → ((k : OpKind) → f k ≡ g k) → flat_map f ks ≡ flat_map g ks
flat_map_same f g [] h = refl
flat_map_same f g (k ∷ ks) h = let e : f k ≡ g k = h k in let t : flat_map f ks ≡ flat_map g ks = flat_map_same f g ks h in cc

tallies_same : (f g : ℕ → ℕ) (with_call : Bool) → ((n : ℕ) → n < 128 → f n ≡ g n) → flat_map (tally_by f with_call) kinds ≡ flat_map (tally_by g with_call) kinds
tallies_same f g with_call h = flat_map_same (tally_by f with_call) (tally_by g with_call) kinds (λ k. ap (tally k with_call) (h (opcode k with_call) (opcode_small k with_call)))

-- what the counts tell is told of the edits
pub statistics_are : (counts : List ℕ) (edits : List EditView) (total : ℕ) → AreCounts counts edits → total ≡ length edits → statistics_by (λ n. slice_index counts n) total ≡ statistics edits
statistics_are counts edits total h e =
    let p = tallies_same (λ n. slice_index counts n) (λ n. count_of n edits) false h in
    let q = tallies_same (λ n. slice_index counts n) (λ n. count_of n edits) true h in
    cc

-- a count has room for one more
pub count_room : (counts : List ℕ) (edits : List EditView) (edit : EditView) → AreCounts counts edits → length edits ≤ 4611686018427387904 → slice_index counts (code_of edit) < 18446744073709551615
count_room counts edits edit are h =
    omega (arith, are (code_of edit) (opcode_small (kind_of edit.op) (called edit)), count_by-le-length (λ (e : EditView). eqb (code_of e) (code_of edit)) edits)

-- five texts appended one after the other
pub five_appended : (o a b c d e p q r s t : List ℕ) → p ≡ o ++ a → q ≡ p ++ b → r ≡ q ++ c → s ≡ r ++ d → t ≡ s ++ e → t ≡ o ++ (a ++ (b ++ (c ++ (d ++ e))))
five_appended o a b c d e p q r s t hp hq hr hs ht =
    let all : t ≡ ((((o ++ a) ++ b) ++ c) ++ d) ++ e = cc in
    all ∙ simp append_assoc
