-- What an admitted edit makes or sets is within the limits of inodes.
use Rattle.std.proofs.Common.{◌≡◌, ℕ, ◌<◌, ◌≤◌, List, [], ◌∷◌, ◌++◌, length, Bool, true, false, cond, refl, sym, ap, subst, Option, Some, None, arith, ◌&&◌}
use Rattle.std.specs.Prelude.{◌^◌, is_some, nat_lt, nat_le}
use Rattle.std.specs.List.{AllByRecursion}
use Rattle.std.proofs.lemmas.Bool.Decides.{nat_tests}
use Rattle.edit_ops.specs.declared.op.Op.TheVariants.{Add, Mkdir, Close, Times, SetQuota, ConcatDelete}
use Rattle.edit_ops.specs.Fields.{IsGood}
use Rattle.edit_ops.specs.Records.{fields_of}
use Rattle.ns_tree.specs.declared.inode.Inode.{Inode}
use Rattle.ns_tree.specs.declared.inode.Inode.TheVariants.{Dir, File}
use Rattle.ns_tree.specs.declared.inode.Row.{Row}
use Rattle.ns_tree.specs.Path.{same_text, is_owner}
use Rattle.ns_tree.specs.Space.{is_dir, find, Each, AreLengths, IsInode, IsPair}
use Rattle.ns_edits.specs.declared.refusal.AdmitRefusal.TheVariants.{Exists, NotFile, BadName, BadNumber}
use Rattle.ns_edits.specs.Admit.{refused_if, bad_path, bad_owner, bad_new_owner, bad_permission, bad_replication, bad_block_size, finds, has_parent}
use Rattle.ns_edits.specs.Admit.{refused_there, refused_dir, blocks_of, are_within, bad_blocks, admit_part, admit_sources, blocks_at, no_source}
use Rattle.ns_edits.specs.Admit.{bad_paths, admit_add, admit_mkdir, admit_close, admit_set_replication, admit_set_permissions, admit_set_owner}
use Rattle.ns_edits.specs.Admit.{admit_concat}
use Rattle.ns_edits.specs.Apply.{with_blocks, with_replication, with_permission, or_old, with_owner, with_times, with_quota, with_all_blocks}
use Rattle.ns_edits.proofs.Admitted.{none≢some, AllPassed, all_passed, not_refused, is_so, permission_fits, replication_fits, block_fits, is_there, CanStand, can_stand}

-- ## What is made
module _ (path : List ℕ) (r m a b s : ℕ) (u g : List ℕ) (xs : List Row) (e : admit_add path r b s u g xs ≡ None) where
  add_passed : AllPassed (bad_path path ∷ bad_owner u ∷ bad_owner g ∷ bad_permission s ∷ bad_replication r ∷ bad_block_size b ∷ has_parent path xs ∷ refused_there Exists (find path xs) ∷ [])
  add_passed = all_passed (bad_path path ∷ bad_owner u ∷ bad_owner g ∷ bad_permission s ∷ bad_replication r ∷ bad_block_size b ∷ has_parent path xs ∷ refused_there Exists (find path xs) ∷ []) e

  pub add_stands : CanStand path xs
  add_stands = can_stand path xs add_passed.0 add_passed.1.1.1.1.1.1.0 add_passed.1.1.1.1.1.1.1.0

  pub add_good : AllByRecursion IsGood (fields_of (Add path r m a b s u g)) → IsInode (File r m a b s u g [] true)
  add_good f = (
    replication_fits r add_passed.1.1.1.1.0,
    f.1.1.0,
    f.1.1.1.0,
    block_fits b add_passed.1.1.1.1.1.0,
    permission_fits s add_passed.1.1.1.0,
    is_so (is_owner u) BadName add_passed.1.0,
    is_so (is_owner g) BadName add_passed.1.1.0,
    tt,
    omega arith,
  )

module _ (path : List ℕ) (t s : ℕ) (u g : List ℕ) (xs : List Row) (e : admit_mkdir path s u g xs ≡ None) where
  mkdir_passed : AllPassed (bad_path path ∷ bad_owner u ∷ bad_owner g ∷ bad_permission s ∷ has_parent path xs ∷ refused_there Exists (find path xs) ∷ [])
  mkdir_passed = all_passed (bad_path path ∷ bad_owner u ∷ bad_owner g ∷ bad_permission s ∷ has_parent path xs ∷ refused_there Exists (find path xs) ∷ []) e

  pub mkdir_stands : CanStand path xs
  mkdir_stands = can_stand path xs mkdir_passed.0 mkdir_passed.1.1.1.1.0 mkdir_passed.1.1.1.1.1.0

  pub mkdir_good : AllByRecursion IsGood (fields_of (Mkdir path t s u g)) → IsInode (Dir t s u g 0 0)
  mkdir_good f = (f.1.0, permission_fits s mkdir_passed.1.1.1.0, is_so (is_owner u) BadName mkdir_passed.1.0, is_so (is_owner g) BadName mkdir_passed.1.1.0, omega arith, omega arith)

-- ## What is found
pub found_inode : (p : List ℕ) (ys xs : List Row) (i : Inode) → Each (IsPair ys) xs → find p xs ≡ Some i → IsInode i
found_inode p ys [] i h e = absurd (cc e)
found_inode p ys (x ∷ xs) i h e = by (same_text p x.path) e (λ f. found_inode p ys xs i h.1 f)
  where
    by : (b : Bool) → cond b (Some x.inode) (find p xs) ≡ Some i → (find p xs ≡ Some i → IsInode i) → IsInode i
    by true e go = subst IsInode (the_inode x.inode i e) h.0.inode
      where
        the_inode : (a b : Inode) → Some a ≡ Some b → a ≡ b
        the_inode a b e = ap (λ (o : Option Inode). or_this o) e
          where
            or_this : Option Inode → Inode
            or_this None = a
            or_this (Some z) = z
    by false e go = go e

-- ## What is set
owner_or_old : (u old : List ℕ) → bad_new_owner u ≡ None → is_owner old ≡ true → is_owner (or_old u old) ≡ true
owner_or_old [] old e h = h
owner_or_old (b ∷ bs) old e h = is_so (is_owner (b ∷ bs)) BadName e

lengths_within : (size : ℕ) (ls : List ℕ) → size ≤ 2 ^ 40 → are_within size ls ≡ true → AreLengths ls
lengths_within size [] le e = tt
lengths_within size (n ∷ ls) le e =
    let t : ((nat_le 1 n && nat_le n size) ≡ true) × (are_within size ls ≡ true) = both (nat_le 1 n && nat_le n size) (are_within size ls) e in
    let u : (nat_le 1 n ≡ true) × (nat_le n size ≡ true) = both (nat_le 1 n) (nat_le n size) t.0 in
    let low : 1 ≤ n = (let l : nat_le 1 n ≡ true = u.0 in grind (arith, nat_tests, l)) in
    let high : n ≤ size = (let l : nat_le n size ≡ true = u.1 in grind (arith, nat_tests, l)) in
    (low, omega (arith, high, le), lengths_within size ls le t.1)
  where
    both : (a b : Bool) → (a && b) ≡ true → (a ≡ true) × (b ≡ true)
    both true b e = (refl, e)
    both false b e = absurd (cc e)

closed_lengths : (o : Option Inode) (ls : List ℕ) → ((i : Inode) → o ≡ Some i → IsInode i) → is_some o ≡ true → refused_dir NotFile o ≡ None → bad_blocks ls o ≡ None → AreLengths ls
closed_lengths None ls good there file blocks = absurd (cc there)
closed_lengths (Some (Dir m p u g n s)) ls good there file blocks = none≢some NotFile (sym file)
closed_lengths (Some (File r m a b p u g old c)) ls good there file blocks =
    let h : IsInode (File r m a b p u g old c) = good (File r m a b p u g old c) refl in
    lengths_within b ls h.3.1 (is_so (are_within b ls) BadNumber blocks)

lengths_append : (xs ys : List ℕ) → AreLengths xs → AreLengths ys → AreLengths (xs ++ ys)
lengths_append [] ys a b = b
lengths_append (x ∷ xs) ys a b = (a.0, a.1, lengths_append xs ys a.2 b)

blocks_good : (o : Option Inode) → ((i : Inode) → o ≡ Some i → IsInode i) → AreLengths (blocks_of o)
blocks_good None f = tt
blocks_good (Some (Dir m p u g n s)) f = tt
blocks_good (Some (File r m a b p u g ls c)) f = let h : IsInode (File r m a b p u g ls c) = f (File r m a b p u g ls c) refl in h.7

pub all_blocks : (ps : List (List ℕ)) (xs : List Row) → Each (IsPair xs) xs → AreLengths (blocks_at ps xs)
all_blocks [] xs h = tt
all_blocks (p ∷ ps) xs h = lengths_append (blocks_of (find p xs)) (blocks_at ps xs) (blocks_good (find p xs) (λ i e. found_inode p xs xs i h e)) (all_blocks ps xs h)

pub closed_dir : (m a : ℕ) (ls : List ℕ) (i : Inode) → is_dir (with_blocks m a ls i) ≡ is_dir i
closed_dir m a ls (Dir m2 p u g q s) = refl
closed_dir m a ls (File r m2 a2 b p u g ls2 c) = refl

pub closed_good : (path : List ℕ) (m a : ℕ) (ls : List ℕ) (xs : List Row) → AllByRecursion IsGood (fields_of (Close path m a ls))
    → Each (IsPair xs) xs → admit_close path ls xs ≡ None → (i : Inode) → IsInode i → IsInode (with_blocks m a ls i)
closed_good path m a ls xs f pairs e (Dir m2 p u g q s) h = h
closed_good path m a ls xs f pairs e (File r m2 a2 b p u g ls2 c) h =
    let t = all_passed (bad_path path ∷ finds path xs ∷ refused_dir NotFile (find path xs) ∷ bad_blocks ls (find path xs) ∷ []) e in
    let few : length ls ≤ 65535 = (let lt : length ls < 2 ^ 16 = f.1.1.1.0 in omega (arith, lt)) in
    (h.0, f.1.0, f.1.1.0, h.3, h.4, h.5, h.6, closed_lengths (find path xs) ls (λ i g. found_inode path xs xs i pairs g) (is_there path xs t.1.0) t.1.1.0 t.1.1.1.0, few)

pub replicated_dir : (n : ℕ) (i : Inode) → is_dir (with_replication n i) ≡ is_dir i
replicated_dir n (Dir m2 p u g q s) = refl
replicated_dir n (File r2 m2 a2 b p u g ls2 c) = refl

pub replicated_good : (path : List ℕ) (n : ℕ) (xs : List Row) → admit_set_replication path n xs ≡ None → (i : Inode) → IsInode i → IsInode (with_replication n i)
replicated_good path n xs e (Dir m2 p u g q s) h = h
replicated_good path n xs e (File r2 m2 a2 b p u g ls2 c) h =
    (replication_fits n (all_passed (bad_path path ∷ bad_replication n ∷ finds path xs ∷ refused_dir NotFile (find path xs) ∷ []) e).1.0, h.1, h.2, h.3, h.4, h.5, h.6, h.7, h.8)

pub permitted_dir : (n : ℕ) (i : Inode) → is_dir (with_permission n i) ≡ is_dir i
permitted_dir n (Dir m2 p u g q s2) = refl
permitted_dir n (File r2 m2 a2 b p u g ls2 c) = refl

pub permitted_good : (path : List ℕ) (n : ℕ) (xs : List Row) → admit_set_permissions path n xs ≡ None → (i : Inode) → IsInode i → IsInode (with_permission n i)
permitted_good path n xs e i h = by i h (permission_fits n (all_passed (bad_path path ∷ bad_permission n ∷ finds path xs ∷ []) e).1.0)
  where
    by : (i : Inode) → IsInode i → n ≤ 1023 → IsInode (with_permission n i)
    by (Dir m2 p u g q s2) h l = (h.0, l, h.2, h.3, h.4, h.5)
    by (File r2 m2 a2 b p u g ls2 c) h l = (h.0, h.1, h.2, h.3, l, h.5, h.6, h.7, h.8)

pub owned_dir : (u g : List ℕ) (i : Inode) → is_dir (with_owner u g i) ≡ is_dir i
owned_dir u g (Dir m2 p u2 g2 q s2) = refl
owned_dir u g (File r2 m2 a2 b p u2 g2 ls2 c) = refl

pub owned_good : (path u g : List ℕ) (xs : List Row) → admit_set_owner path u g xs ≡ None → (i : Inode) → IsInode i → IsInode (with_owner u g i)
owned_good path u g xs e i h = let t = all_passed (bad_path path ∷ bad_new_owner u ∷ bad_new_owner g ∷ finds path xs ∷ []) e in by i h t.1.0 t.1.1.0
  where
    by : (i : Inode) → IsInode i → bad_new_owner u ≡ None → bad_new_owner g ≡ None → IsInode (with_owner u g i)
    by (Dir m2 p u2 g2 q s2) h x y = (h.0, h.1, owner_or_old u u2 x h.2, owner_or_old g g2 y h.3, h.4, h.5)
    by (File r2 m2 a2 b p u2 g2 ls2 c) h x y = (h.0, h.1, h.2, h.3, h.4, owner_or_old u u2 x h.5, owner_or_old g g2 y h.6, h.7, h.8)

pub timed_dir : (m a : ℕ) (i : Inode) → is_dir (with_times m a i) ≡ is_dir i
timed_dir m a (Dir m2 p u2 g2 q s2) = refl
timed_dir m a (File r2 m2 a2 b p u2 g2 ls2 c) = refl

pub timed_good : (path : List ℕ) (m a : ℕ) → AllByRecursion IsGood (fields_of (Times path m a)) → (i : Inode) → IsInode i → IsInode (with_times m a i)
timed_good path m a f (Dir m2 p u2 g2 q s2) h = (f.1.0, h.1, h.2, h.3, h.4, h.5)
timed_good path m a f (File r2 m2 a2 b p u2 g2 ls2 c) h = (h.0, f.1.0, f.1.1.0, h.3, h.4, h.5, h.6, h.7, h.8)

pub limited_dir : (q d : ℕ) (i : Inode) → is_dir (with_quota q d i) ≡ is_dir i
limited_dir q d (Dir m2 p u2 g2 q2 s2) = refl
limited_dir q d (File r2 m2 a2 b p u2 g2 ls2 c) = refl

pub limited_good : (path : List ℕ) (q d : ℕ) → AllByRecursion IsGood (fields_of (SetQuota path q d)) → (i : Inode) → IsInode i → IsInode (with_quota q d i)
limited_good path q d f (Dir m2 p u2 g2 q2 s2) h = (h.0, h.1, h.2, h.3, f.1.0, f.1.1.0)
limited_good path q d f (File r2 m2 a2 b p u2 g2 ls2 c) h = h

-- ## Files that are joined
pub joined_dir : (t : ℕ) (all : List ℕ) (i : Inode) → is_dir (with_all_blocks t all i) ≡ is_dir i
joined_dir t all (Dir m2 p u2 g2 q2 s2) = refl
joined_dir t all (File r2 m2 a2 b p u2 g2 ls2 c) = refl

pub joined_good : (target : List ℕ) (t : ℕ) (ps : List (List ℕ)) (xs : List Row) → AllByRecursion IsGood (fields_of (ConcatDelete target t ps)) → Each (IsPair xs) xs → admit_concat target ps xs ≡ None
    → (i : Inode) → IsInode i → IsInode (with_all_blocks t (blocks_at (target ∷ ps) xs) i)
joined_good target t ps xs f pairs e (Dir m2 p u2 g2 q2 s2) h = h
joined_good target t ps xs f pairs e (File r2 m2 a2 b p u2 g2 ls2 c) h =
    let q = all_passed (bad_path target ∷ bad_paths ps ∷ refused_if (no_source ps) BadNumber ∷ admit_part target xs ∷ admit_sources (target ∷ []) ps
    xs ∷ refused_if (nat_lt 65535 (length (blocks_at (target ∷ ps) xs))) BadNumber ∷ []) e in
    let many : nat_lt 65535 (length (blocks_at (target ∷ ps) xs)) ≡ false = not_refused (nat_lt 65535 (length (blocks_at (target ∷ ps) xs))) BadNumber q.1.1.1.1.1.0 in
    let few : length (blocks_at (target ∷ ps) xs) ≤ 65535 = grind (arith, nat_tests, many) in
    (h.0, f.1.0, h.2, h.3, h.4, h.5, h.6, all_blocks (target ∷ ps) xs pairs, few)
