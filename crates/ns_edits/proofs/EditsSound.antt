-- An admitted edit of each kind keeps what holds of every namespace's pairs.
use Rattle.std.proofs.Common.{◌≡◌, ℕ, ◌≤◌, List, [], ◌∷◌, length, true, false, None}
use Rattle.std.specs.Prelude.{◌^◌}
use Rattle.std.specs.List.{AllByRecursion}
use Rattle.edit_ops.specs.declared.op.Op.{Op}
use Rattle.edit_ops.specs.declared.op.Op.TheVariants.{Add, RenameOld, Delete, Mkdir, SetReplication, SetPermissions, SetOwner, Close, Times, SetQuota}
use Rattle.edit_ops.specs.declared.op.Op.TheVariants.{Rename, ConcatDelete, EndLogSegment, StartLogSegment}
use Rattle.edit_ops.specs.Fields.{IsGood}
use Rattle.edit_ops.specs.Records.{fields_of}
use Rattle.ns_tree.specs.declared.inode.Inode.{Inode}
use Rattle.ns_tree.specs.declared.inode.Inode.TheVariants.{Dir, File}
use Rattle.ns_tree.specs.declared.inode.Row.{Row}
use Rattle.ns_tree.specs.Path.{parent_of, is_path, is_root}
use Rattle.ns_tree.specs.Space.{Space, is_dir, put, without, raise, renamed, change_at, IsInode}
use Rattle.ns_tree.specs.Places.{IsTree}
use Rattle.ns_tree.proofs.Walks.{order_change}
use Rattle.ns_tree.proofs.Parents.{below_root}
use Rattle.ns_tree.proofs.Pairs.{kept_change}
use Rattle.ns_tree.proofs.Sound.{pairs_of, sound_pairs, sound_put, sound_without, sound_raise}
use Rattle.ns_tree.proofs.RenameKeeps.{sound_renamed}
use Rattle.ns_edits.specs.declared.refusal.AdmitRefusal.TheVariants.{Root, BadName}
use Rattle.ns_edits.specs.Admit.{refused_if, bad_path, finds, target_of, blocks_at, admit_op}
use Rattle.ns_edits.specs.Apply.{with_blocks, with_replication, with_permission, with_owner, with_times, with_quota, with_all_blocks, AreSources}
use Rattle.ns_edits.specs.Apply.{without_sources, move_of, apply_op}
use Rattle.ns_edits.proofs.Admitted.{all_passed, not_refused, is_so, CanStand}
use Rattle.ns_edits.proofs.Inodes.{add_stands, add_good, mkdir_stands, mkdir_good, closed_dir, closed_good, replicated_dir, replicated_good}
use Rattle.ns_edits.proofs.Inodes.{permitted_dir, permitted_good, owned_dir, owned_good, timed_dir, timed_good, limited_dir, limited_good, joined_dir}
use Rattle.ns_edits.proofs.Inodes.{joined_good}
use Rattle.ns_edits.proofs.Joins.{sources_left, sources_changed, concat_joins}
use Rattle.ns_edits.proofs.AdmittedRenames.{CanMove, rename_moves, rename_old_moves}

-- with some pairs in the place of its own
abbrev with_pairs : Space → List Row → Space
with_pairs s xs = record s { pairs = xs }

made : (s : Space) (p : List ℕ) (t : ℕ) (i : Inode) → IsTree s → CanStand p s.pairs → length p ≤ 1000 → IsInode i → t ≤ 2 ^ 62 → IsTree (with_pairs s (raise (parent_of p) t (put p i s.pairs)))
made s p t i h c short good le = sound_raise (with_pairs s (put p i s.pairs)) (parent_of p) t (sound_put s p i h c.path short good c.absent c.parent) le

gone : (s : Space) (p : List ℕ) (t : ℕ) → IsTree s → is_path p ≡ true → is_root p ≡ false → t ≤ 2 ^ 62 → IsTree (with_pairs s (raise (parent_of p) t (without p s.pairs)))
gone s p t h path below le = sound_raise (with_pairs s (without p s.pairs)) (parent_of p) t (sound_without s p h path below) le

set : (s : Space) (p : List ℕ) (f : Inode → Inode) → IsTree s → ((i : Inode) → is_dir (f i) ≡ is_dir i) → ((i : Inode) → IsInode i → IsInode (f i)) → IsTree (with_pairs s (change_at p f s.pairs))
set s p f h dirs goods = sound_pairs s (change_at p f s.pairs) h (order_change p f s.pairs h.ordered) (kept_change p f s.pairs dirs goods (pairs_of s h))

moves : (s : Space) (src dst : List ℕ) (t : ℕ) → IsTree s → CanMove src dst s.pairs → t ≤ 2 ^ 62 → IsTree (with_pairs s (move_of src dst t s.pairs))
moves s src dst t h c le =
    let whole : IsTree (with_pairs s (renamed src dst s.pairs)) = sound_renamed s src dst h (below_root src c.source c.src_below)
    (below_root dst c.path c.dst_below) c.path c.apart c.parent c.empty c.short in
    let one : IsTree (with_pairs s (raise (parent_of dst) t (renamed src dst s.pairs))) = sound_raise (with_pairs s (renamed src dst s.pairs)) (parent_of dst) t whole le in
    sound_raise (with_pairs s (raise (parent_of dst) t (renamed src dst s.pairs))) (parent_of src) t one le

all_gone : (ps : List (List ℕ)) (t : ℕ) (s : Space) → t ≤ 2 ^ 62 → AreSources ps s.pairs → IsTree s → IsTree (with_pairs s (without_sources ps t s.pairs))
all_gone [] t s le a h = h
all_gone (p ∷ ps) t s le a h =
    all_gone ps t (with_pairs s (raise (parent_of p) t (without p s.pairs))) le (sources_left p t ps s.pairs a) (gone s p t h a.0.path a.0.below le)

pub op_sound : (op : Op) (s : Space) → AllByRecursion IsGood (fields_of op) → admit_op op s.pairs ≡ None → IsTree s → IsTree (with_pairs s (apply_op op s.pairs))
unfolding admit_op apply_op
op_sound (Add path r m a b p u g) s f e h = made s path m (File r m a b p u g [] true) h (add_stands path r m a b p u g s.pairs e) f.0.0 (add_good path r m a b p u g s.pairs e f) f.1.1.0
op_sound (Mkdir path t p u g) s f e h = made s path t (Dir t p u g 0 0) h (mkdir_stands path t p u g s.pairs e) f.0.0 (mkdir_good path t p u g s.pairs e f) f.1.0
op_sound (Delete path t) s f e h =
    let q = all_passed (bad_path path ∷ refused_if (is_root path) Root ∷ finds path s.pairs ∷ []) e in
    gone s path t h (is_so (is_path path) BadName q.0) (not_refused (is_root path) Root q.1.0) f.1.0
op_sound (Close path m a ls) s f e h = set s path (with_blocks m a ls) h (closed_dir m a ls) (closed_good path m a ls s.pairs f h.pairs e)
op_sound (RenameOld src dst t) s f e h = moves s src (target_of src dst s.pairs) t h (rename_old_moves src dst s h e) f.1.1.0
op_sound (Rename src dst t o) s f e h = moves s src dst t h (rename_moves src dst o s h e) f.1.1.0
op_sound (SetReplication path n) s f e h = set s path (with_replication n) h (replicated_dir n) (replicated_good path n s.pairs e)
op_sound (SetPermissions path n) s f e h = set s path (with_permission n) h (permitted_dir n) (permitted_good path n s.pairs e)
op_sound (SetOwner path u g) s f e h = set s path (with_owner u g) h (owned_dir u g) (owned_good path u g s.pairs e)
op_sound (Times path m a) s f e h = set s path (with_times m a) h (timed_dir m a) (timed_good path m a f)
op_sound (SetQuota path q d) s f e h = set s path (with_quota q d) h (limited_dir q d) (limited_good path q d f)
op_sound (ConcatDelete target t ps) s f e h =
    let joined : IsTree (with_pairs s (change_at target (with_all_blocks t (blocks_at (target ∷ ps) s.pairs)) s.pairs)) =
    set s target (with_all_blocks t (blocks_at (target ∷ ps) s.pairs)) h (joined_dir t (blocks_at (target ∷ ps) s.pairs)) (joined_good target t ps s.pairs f h.pairs e) in
    let left : AreSources ps (change_at target (with_all_blocks t (blocks_at (target ∷ ps) s.pairs)) s.pairs) =
    sources_changed target (with_all_blocks t (blocks_at (target ∷ ps) s.pairs)) ps s.pairs (joined_dir t (blocks_at (target ∷ ps) s.pairs)) (concat_joins target ps s.pairs h.root e).sources in
    sound_raise (with_pairs s (without_sources ps t (change_at target (with_all_blocks t (blocks_at (target ∷ ps) s.pairs)) s.pairs))) (parent_of target) t
    (all_gone ps t (with_pairs s (change_at target (with_all_blocks t (blocks_at (target ∷ ps) s.pairs)) s.pairs)) f.1.0 left joined) f.1.0
op_sound EndLogSegment s f e h = h
op_sound StartLogSegment s f e h = h
