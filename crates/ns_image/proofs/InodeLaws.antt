-- An inode that is read is the inode that was written, and what was written is read again.
use Rattle.std.proofs.Common.{◌≡◌, ℕ, zero, suc, ◌^◌, ◌≤◌, Bool, true, false, cond, List, [], ◌∷◌, ◌++◌, length, Ok, refl, sym, ap, subst, ◌∙◌, append_assoc, arith, ◌==◌}
use Rattle.std.specs.List.{flat_map}
use Rattle.std.specs.Int.{w16, w64, to_be_bytes}
use Rattle.base_words.specs.Fields.{IsBytes}
use Rattle.base_words.proofs.FieldLaws.{Begins, Begins-then, field16, field64}
use Rattle.edit_ops.proofs.SourceLaws.{ok_is}
use Rattle.ns_tree.specs.declared.inode.Inode.{Inode}
use Rattle.ns_tree.specs.declared.inode.Inode.TheVariants.{Dir, File}
use Rattle.ns_tree.specs.Space.{AreLengths, IsInode, is_dir}
use Rattle.ns_image.specs.declared.image_cause.ImageCause.TheVariants.{Field}
use Rattle.ns_image.specs.Layouts.{text_bytes, flag_byte, owner_bytes, quota_bytes, copies_bytes, blocks_bytes, inode_bytes}
use Rattle.ns_image.specs.Reading.{length_at, blocks_at, dir_at, file_at, file_after, inode_at}
use Rattle.ns_image.proofs.FieldLaws.{bind_ok, whole_takes, whole_again, number_takes, number_again, byte_takes, byte_again, owner_takes, owner_again}
use Rattle.ns_image.proofs.Items.{AreNext, OneTaken, many_take, many_again}

-- ## Blocks
-- a length that may be a block's
abbrev IsSize : List ℕ → ℕ → Type 0
IsSize lengths n = (1 ≤ n) × (n ≤ 2 ^ 40)

length_takes : (lengths bytes : List ℕ) (x : List ℕ × List ℕ) → IsBytes bytes → length_at lengths bytes ≡ Ok x → OneTaken length_at (to_be_bytes w64) IsSize lengths bytes x
unfolding length_at
length_takes lengths bytes x fits e =
    let a = bind_ok e in
    let t = number_takes field64 _ fits a.1 in
    subst (λ (y : List ℕ × List ℕ). OneTaken length_at (to_be_bytes w64) IsSize lengths bytes y) (ok_is (lengths ++ a.0.0 ∷ [], a.0.1) x a.2)
    (record { item = a.0.0; all = refl; taken = t.0; may = (t.1, t.2) })

length_again : (lengths : List ℕ) (n : ℕ) (rest : List ℕ) → IsSize lengths n → length_at lengths (to_be_bytes w64 n ++ rest) ≡ Ok (lengths ++ n ∷ [], rest)
unfolding length_at
length_again lengths n rest good = rw (number_again field64 1 (2 ^ 40) Field n rest (omega (arith, good.1)) good.0 good.1) refl

lengths_next : (before ns : List ℕ) → AreLengths ns → AreNext length_at (to_be_bytes w64) IsSize before ns
lengths_next before [] good = tt
lengths_next before (n ∷ ns) good = ((good.0, good.1), lengths_next (before ++ n ∷ []) ns good.2)

next_lengths : (before ns : List ℕ) → AreNext length_at (to_be_bytes w64) IsSize before ns → AreLengths ns
next_lengths before [] good = tt
next_lengths before (n ∷ ns) good = (good.0.0, good.0.1, next_lengths (before ++ n ∷ []) ns good.1)

abbrev lengths_bytes : List ℕ → List ℕ
lengths_bytes lengths = to_be_bytes w16 (length lengths) ++ flat_map (to_be_bytes w64) lengths

blocks_takes : {bytes : List ℕ} {x : List ℕ × List ℕ} → IsBytes bytes → blocks_at bytes ≡ Ok x → Begins bytes (lengths_bytes x.0) x.1 × AreLengths x.0 × (length x.0 ≤ 65535)
unfolding blocks_at
blocks_takes {bytes = bytes} {x = x} fits e =
    let a = bind_ok e in
    let t = whole_takes field16 fits a.1 in
    let s = many_take length_at (to_be_bytes w64) IsSize length_takes a.0.0 [] a.0.1 x t.0.left a.2 in
    let counted : Begins bytes (lengths_bytes s.more) x.1 = subst (λ (n : ℕ). Begins bytes (to_be_bytes w16 n ++ flat_map (to_be_bytes w64) s.more) x.1) (sym s.counted) (Begins-then t.0 s.taken) in
    subst (λ (xs : List ℕ). Begins bytes (lengths_bytes xs) x.1 × AreLengths xs × (length xs ≤ 65535)) (sym s.all) (counted, next_lengths [] s.more s.good, omega (arith, t.1, s.counted))

blocks_again : (sizes rest : List ℕ) → AreLengths sizes → length sizes ≤ 65535 → blocks_at (lengths_bytes sizes ++ rest) ≡ Ok (sizes, rest)
unfolding blocks_at
blocks_again sizes rest good few =
    let regrouped : lengths_bytes sizes ++ rest ≡ to_be_bytes w16 (length sizes) ++ (flat_map (to_be_bytes w64) sizes ++ rest) =
    append_assoc (to_be_bytes w16 (length sizes)) (flat_map (to_be_bytes w64) sizes) rest in
    ap blocks_at regrouped
    ∙ rw (whole_again field16 (length sizes) (flat_map (to_be_bytes w64) sizes ++ rest) (omega (arith, few)))
    (many_again length_at (to_be_bytes w64) IsSize length_again [] sizes rest (lengths_next [] sizes good))

pub lengths_snoc : (ns : List ℕ) (n : ℕ) → AreLengths ns → 1 ≤ n → n ≤ 2 ^ 40 → AreLengths (ns ++ n ∷ [])
lengths_snoc [] n good low high = (low, high, tt)
lengths_snoc (m ∷ ns) n good low high = (good.0, good.1, lengths_snoc ns n good.2 low high)

-- ## Directories
abbrev dir_bytes : ℕ → ℕ → List ℕ → List ℕ → ℕ → ℕ → List ℕ
dir_bytes mtime permission user group names space = to_be_bytes w64 mtime ++ (owner_bytes permission user group ++ quota_bytes names space)

abbrev after_bytes : ℕ → ℕ → ℕ → Bool → List ℕ → List ℕ
after_bytes replication atime block_size flag lengths = copies_bytes replication atime block_size ++ blocks_bytes flag lengths

-- the bytes of an inode without its kind
abbrev pub fields_bytes : Inode → List ℕ
fields_bytes (Dir mtime permission user group names space) = dir_bytes mtime permission user group names space
fields_bytes (File replication mtime atime block_size permission user group lengths under_construction) =
    to_be_bytes w64 mtime ++ (owner_bytes permission user group ++ after_bytes replication atime block_size under_construction lengths)

pub dir_takes : {bytes : List ℕ} {x : Inode × List ℕ} → IsBytes bytes → dir_at bytes ≡ Ok x → Begins bytes (fields_bytes x.0) x.1 × IsInode x.0 × (is_dir x.0 ≡ true)
unfolding dir_at
dir_takes {bytes = bytes} {x = x} fits e =
    let m = bind_ok e in
    let p = bind_ok m.2 in
    let u = bind_ok p.2 in
    let g = bind_ok u.2 in
    let n = bind_ok g.2 in
    let s = bind_ok n.2 in
    let tm = number_takes field64 _ fits m.1 in
    let tp = number_takes field16 _ tm.0.left p.1 in
    let tu = owner_takes tp.0.left u.1 in
    let tg = owner_takes tu.0.left g.1 in
    let tn = number_takes field64 _ tg.0.left n.1 in
    let ts = number_takes field64 _ tn.0.left s.1 in
    let owner = Begins-then tp.0 (Begins-then tu.0 tg.0) in
    let all = Begins-then tm.0 (Begins-then owner (Begins-then tn.0 ts.0)) in
    subst (λ (y : Inode × List ℕ). Begins bytes (fields_bytes y.0) y.1 × IsInode y.0 × (is_dir y.0 ≡ true)) (ok_is (Dir m.0.0 p.0.0 u.0.0 g.0.0 n.0.0 s.0.0, s.0.1) x s.2)
    (all, (tm.2, tp.2, tu.1, tg.1, tn.2, ts.2), refl)

dir_grouped : (mtime permission : ℕ) (user group : List ℕ) (names space : ℕ) (rest : List ℕ)
    → dir_bytes mtime permission user group names space ++ rest
    ≡ to_be_bytes w64 mtime ++ (to_be_bytes w16 permission ++ (text_bytes user ++ (text_bytes group ++ (to_be_bytes w64 names ++ (to_be_bytes w64 space ++ rest)))))
dir_grouped mtime permission user group names space rest =
    by (to_be_bytes w64 mtime) (to_be_bytes w16 permission) (text_bytes user) (text_bytes group) (to_be_bytes w64 names) (to_be_bytes w64 space)
  where
    by : (a b c d e f : List ℕ) → (a ++ ((b ++ (c ++ d)) ++ (e ++ f))) ++ rest ≡ a ++ (b ++ (c ++ (d ++ (e ++ (f ++ rest)))))
    by a b c d e f = simp append_assoc

pub dir_again : (mtime permission : ℕ) (user group : List ℕ) (names space : ℕ) (rest : List ℕ) → IsInode (Dir mtime permission user group names space)
    → dir_at (dir_bytes mtime permission user group names space ++ rest) ≡ Ok (Dir mtime permission user group names space, rest)
unfolding dir_at
dir_again mtime permission user group names space rest good =
    ap dir_at (dir_grouped mtime permission user group names space rest)
    ∙ rw (
      number_again field64 0 (2 ^ 62) Field mtime (to_be_bytes w16 permission ++
          (text_bytes user ++ (text_bytes group ++ (to_be_bytes w64 names ++ (to_be_bytes w64 space ++ rest))))) (omega (arith, good.0)) (omega arith)
          good.0,
      number_again field16 0 1023 Field permission (text_bytes user ++
          (text_bytes group ++ (to_be_bytes w64 names ++ (to_be_bytes w64 space ++ rest)))) (omega (arith, good.1)) (omega arith) good.1,
      owner_again user (text_bytes group ++ (to_be_bytes w64 names ++ (to_be_bytes w64 space ++ rest))) good.2,
      owner_again group (to_be_bytes w64 names ++ (to_be_bytes w64 space ++ rest)) good.3,
      number_again field64 0 (2 ^ 62) Field names (to_be_bytes w64 space ++ rest) (omega (arith, good.4)) (omega arith) good.4,
      number_again field64 0 (2 ^ 62) Field space rest (omega (arith, good.5)) (omega arith) good.5,
    ) refl

-- ## Files
-- a flag that was read is the byte that spells it
pub flag_spelled : (byte : ℕ) → byte ≤ 1 → flag_byte (byte == 1) ≡ byte
flag_spelled zero le = refl
flag_spelled (suc zero) le = refl
flag_spelled (suc (suc n)) le = absurd (omega (arith, le))

flag_again : (b : Bool) → (flag_byte b == 1) ≡ b
flag_again true = refl
flag_again false = refl

flag_low : (b : Bool) → flag_byte b ≤ 1
flag_low true = omega arith
flag_low false = omega arith

record AfterTaken (mtime permission : ℕ) (user group bytes : List ℕ) (x : Inode × List ℕ) : Type 0 where
  replication : ℕ
  atime : ℕ
  block_size : ℕ
  flag : Bool
  lengths : List ℕ
  is : x.0 ≡ File replication mtime atime block_size permission user group lengths flag
  taken : Begins bytes (after_bytes replication atime block_size flag lengths) x.1
  copies : (1 ≤ replication) × (replication ≤ 512)
  atime_good : atime ≤ 2 ^ 62
  block : (1 ≤ block_size) × (block_size ≤ 2 ^ 40)
  good : AreLengths lengths
  few : length lengths ≤ 65535

after_takes : (mtime permission : ℕ) (user group : List ℕ) {bytes : List ℕ} {x : Inode × List ℕ} → IsBytes bytes
    → file_after mtime permission user group bytes ≡ Ok x → AfterTaken mtime permission user group bytes x
unfolding file_after
after_takes mtime permission user group {bytes = bytes} {x = x} fits e =
    let r = bind_ok e in
    let a = bind_ok r.2 in
    let s = bind_ok a.2 in
    let o = bind_ok s.2 in
    let l = bind_ok o.2 in
    let tr = number_takes field16 _ fits r.1 in
    let ta = number_takes field64 _ tr.0.left a.1 in
    let ts = number_takes field64 _ ta.0.left s.1 in
    let to = byte_takes ts.0.left o.1 in
    let tl = blocks_takes to.0.left l.1 in
    let flag : Begins s.0.1 (flag_byte (o.0.0 == 1) ∷ []) o.0.1 = subst (λ (n : ℕ). Begins s.0.1 (n ∷ []) o.0.1) (sym (flag_spelled o.0.0 to.1)) to.0 in
    let all = Begins-then (Begins-then tr.0 (Begins-then ta.0 ts.0)) (Begins-then flag tl.0) in
    subst (λ (y : Inode × List ℕ). AfterTaken mtime permission user group bytes y) (ok_is (File r.0.0 mtime a.0.0 s.0.0 permission user group l.0.0 (o.0.0 == 1), l.0.1) x l.2)
    (record {
      replication = r.0.0;
      atime = a.0.0;
      block_size = s.0.0;
      flag = o.0.0 == 1;
      lengths = l.0.0;
      is = refl;
      taken = all;
      copies = (tr.1, tr.2);
      atime_good = ta.2;
      block = (ts.1, ts.2);
      good = tl.1;
      few = tl.2;
    })

file_takes : {bytes : List ℕ} {x : Inode × List ℕ} → IsBytes bytes → file_at bytes ≡ Ok x → Begins bytes (fields_bytes x.0) x.1 × IsInode x.0 × (is_dir x.0 ≡ false)
unfolding file_at
file_takes {bytes = bytes} {x = x} fits e =
    let m = bind_ok e in
    let p = bind_ok m.2 in
    let u = bind_ok p.2 in
    let g = bind_ok u.2 in
    let tm = number_takes field64 _ fits m.1 in
    let tp = number_takes field16 _ tm.0.left p.1 in
    let tu = owner_takes tp.0.left u.1 in
    let tg = owner_takes tu.0.left g.1 in
    let t = after_takes m.0.0 p.0.0 u.0.0 g.0.0 {bytes = g.0.1} {x = x} tg.0.left g.2 in
    let owner = Begins-then tp.0 (Begins-then tu.0 tg.0) in
    let all = Begins-then tm.0 (Begins-then owner t.taken) in
    subst (λ (i : Inode). Begins bytes (fields_bytes i) x.1 × IsInode i × (is_dir i ≡ false)) (sym t.is)
    (all, (t.copies, tm.2, t.atime_good, t.block, tp.2, tu.1, tg.1, t.good, t.few), refl)

after_grouped : (a b c d e : List ℕ) (rest : List ℕ) → ((a ++ (b ++ c)) ++ (d ++ e)) ++ rest ≡ a ++ (b ++ (c ++ (d ++ (e ++ rest))))
after_grouped a b c d e rest = simp append_assoc

after_again : (replication mtime atime block_size permission : ℕ) (user group lengths : List ℕ) (flag : Bool) (rest : List ℕ)
    → (1 ≤ replication) × (replication ≤ 512) → atime ≤ 2 ^ 62 → (1 ≤ block_size) × (block_size ≤ 2 ^ 40) → AreLengths lengths
    → length lengths ≤ 65535
    → file_after mtime permission user group (after_bytes replication atime block_size flag lengths ++ rest) ≡ Ok (File replication mtime atime block_size permission user group lengths flag, rest)
unfolding file_after
after_again replication mtime atime block_size permission user group lengths flag rest copies low block good few =
    ap (file_after mtime permission user group) (after_grouped (to_be_bytes w16 replication) (to_be_bytes w64 atime) (to_be_bytes w64 block_size) (flag_byte flag ∷ []) (lengths_bytes lengths) rest)
    ∙ rw (
      number_again field16 1 512 Field replication (to_be_bytes w64 atime ++
          (to_be_bytes w64 block_size ++ (flag_byte flag ∷ (lengths_bytes lengths ++ rest)))) (omega (arith, copies.1)) copies.0 copies.1,
      number_again field64 0 (2 ^ 62) Field atime (to_be_bytes w64 block_size ++ (flag_byte flag ∷ (lengths_bytes lengths ++ rest))) (omega (arith, low)) (omega arith) low,
      number_again field64 1 (2 ^ 40) Field block_size (flag_byte flag ∷ (lengths_bytes lengths ++ rest)) (omega (arith, block.1)) block.0 block.1,
      byte_again 1 (flag_byte flag) (lengths_bytes lengths ++ rest) (flag_low flag),
      blocks_again lengths rest good few,
      flag_again flag,
    ) refl

file_grouped : (a b c d e rest : List ℕ) → (a ++ ((b ++ (c ++ d)) ++ e)) ++ rest ≡ a ++ (b ++ (c ++ (d ++ (e ++ rest))))
file_grouped a b c d e rest = simp append_assoc

file_again : (replication mtime atime block_size permission : ℕ) (user group lengths : List ℕ) (flag : Bool) (rest : List ℕ)
    → IsInode (File replication mtime atime block_size permission user group lengths flag)
    → file_at (fields_bytes (File replication mtime atime block_size permission user group lengths flag) ++ rest) ≡ Ok
    (File replication mtime atime block_size permission user group lengths flag, rest)
unfolding file_at
file_again replication mtime atime block_size permission user group lengths flag rest good =
    let end : List ℕ = after_bytes replication atime block_size flag lengths ++ rest in
    ap file_at (file_grouped (to_be_bytes w64 mtime) (to_be_bytes w16 permission) (text_bytes user) (text_bytes group) (after_bytes replication atime block_size flag lengths) rest)
    ∙ rw (
      number_again field64 0 (2 ^ 62) Field mtime (to_be_bytes w16 permission ++ (text_bytes user ++ (text_bytes group ++ end))) (omega (arith, good.1)) (omega arith) good.1,
      number_again field16 0 1023 Field permission (text_bytes user ++ (text_bytes group ++ end)) (omega (arith, good.4)) (omega arith) good.4,
      owner_again user (text_bytes group ++ end) good.5,
      owner_again group end good.6,
    ) (after_again replication mtime atime block_size permission user group lengths flag rest good.0 good.2 good.3 good.7 good.8)

-- ## Inodes

by_kind : (byte : ℕ) (bytes : List ℕ) (x : Inode × List ℕ) → byte ≤ 1 → IsBytes bytes → cond (byte == 0) (dir_at bytes) (file_at bytes) ≡ Ok x
    → Begins (byte ∷ bytes) (inode_bytes x.0) x.1 × IsInode x.0
by_kind zero bytes x le fits e =
    let t = dir_takes {bytes = bytes} {x = x} fits e in
    (dir_kind x.0 t.2 (record { spelled = ap (λ (w : List ℕ). 0 ∷ w) t.0.spelled; left = t.0.left }), t.1)
  where
    dir_kind : (i : Inode) → is_dir i ≡ true → Begins (0 ∷ bytes) (0 ∷ fields_bytes i) x.1 → Begins (0 ∷ bytes) (inode_bytes i) x.1
    dir_kind (Dir m p u g n s) d t = t
    dir_kind (File r m a b p u g ls c) d t = absurd (cc d)
by_kind (suc zero) bytes x le fits e =
    let t = file_takes {bytes = bytes} {x = x} fits e in
    (file_kind x.0 t.2 (record { spelled = ap (λ (w : List ℕ). 1 ∷ w) t.0.spelled; left = t.0.left }), t.1)
  where
    file_kind : (i : Inode) → is_dir i ≡ false → Begins (1 ∷ bytes) (1 ∷ fields_bytes i) x.1 → Begins (1 ∷ bytes) (inode_bytes i) x.1
    file_kind (Dir m p u g n s) d t = absurd (cc d)
    file_kind (File r m a b p u g ls c) d t = t
by_kind (suc (suc n)) bytes x le fits e = absurd (omega (arith, le))

pub inode_takes : {bytes : List ℕ} {x : Inode × List ℕ} → IsBytes bytes → inode_at bytes ≡ Ok x → Begins bytes (inode_bytes x.0) x.1 × IsInode x.0
unfolding inode_at
inode_takes {bytes = bytes} {x = x} fits e =
    let k = bind_ok e in
    let tk = byte_takes {high = 1} {bytes = bytes} {x = k.0} fits k.1 in
    let t = by_kind k.0.0 k.0.1 x tk.1 tk.0.left k.2 in
    (record { spelled = tk.0.spelled ∙ t.0.spelled; left = t.0.left }, t.1)

pub inode_again : (inode : Inode) (rest : List ℕ) → IsInode inode → inode_at (inode_bytes inode ++ rest) ≡ Ok (inode, rest)
unfolding inode_at
inode_again (Dir m p u g n s) rest good = rw (byte_again 1 0 (dir_bytes m p u g n s ++ rest) (omega arith)) (dir_again m p u g n s rest good)
inode_again (File r m a b p u g ls c) rest good = rw (byte_again 1 1 (fields_bytes (File r m a b p u g ls c) ++ rest) (omega arith)) (file_again r m a b p u g ls c rest good)
