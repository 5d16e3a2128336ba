-- The epoch order of a mesh that agrees is a run, and so a safe one; so is any order that keeps
-- what stands in order.
use Rattle.std.proofs.Common.{◌≡◌, ℕ, ◌+◌, ◌<◌, ◌≤◌, ◌⊎◌, inl, inr, List, [], ◌∷◌, false, reverse, refl, sym, ap, ◌∙◌, subst, arith}
use Rattle.journal_history.specs.Entries.{node_after}
use Rattle.run_safety.specs.Run.{Story, IsRun}
use Rattle.run_safety.specs.Safe.{IsSafe}
use Rattle.journal_history.specs.Moving.{moving_of, falls}
use Rattle.run_safety.proofs.Safety.{run_safe}
use Rattle.run_safety.proofs.Tales.{Tale}
use Rattle.mesh.specs.declared.whole.Mesh.{Mesh}
use Rattle.mesh.specs.Agree.{Agrees, operator_of}
use Rattle.mesh.specs.Order.{placed_at, epoch_order, entries_at}
use Rattle.mesh.proofs.Lists.{append_none}
use Rattle.mesh.proofs.Shared.{In}
use Rattle.mesh.proofs.Cutting.{order_at_nodes}
use Rattle.run_safety.proofs.Fair.{Fairs, IsTold, Sounds, follows_of}
use Rattle.mesh.proofs.Signs.{Sign, entries, all_signs}
use Rattle.mesh.proofs.Rearranged.{Keeps, rearranged, fairs_rearranged}
use Rattle.mesh.proofs.Noting.{signs_fall}
use Rattle.mesh.proofs.Matching.{sign_listed}
use Rattle.mesh.proofs.Diaries.{all_told}
use Rattle.mesh.proofs.OrderSigns.{order_signs, order_is, sign_ordered}
use Rattle.mesh.proofs.OrderLaws.{order_noted, order_within, order_keeps, back_onto, back_in, back_out, back_entries, back_is}
use Rattle.mesh.proofs.OrderSound.{SoundFrom, AllWithin, node_sound, sounds_on}

all_within : (n : ℕ) (ss : List Sign) → ((s : Sign) → In s ss → (1 ≤ s.entry.node) × (s.entry.node ≤ n)) → AllWithin n (entries ss)
unfolding AllWithin In
all_within n [] h = tt
all_within n (s ∷ ss) h = let w = h s (inl refl) in (w.0, w.1, all_within n ss (λ t i. h t (inr i)))

-- ## Any order of the entries of a mesh
-- An order of the moving entries of all nodes, oldest first: it keeps the order of each node, and
-- that of each caller's entries under one epoch, but for proposals, which may stand by node.
pub record Arranged (m : Mesh) (ss : List Sign) : Type 0 where
  pub noted : (s : Sign) → In s ss → falls s.entry.move ≡ false → In s (all_signs m (operator_of m))
  pub all : (s : Sign) → In s (all_signs m (operator_of m)) → In s ss
  pub within : (s : Sign) → In s ss → (1 ≤ s.entry.node) × (s.entry.node ≤ m.nodes)
  pub keeps : Keeps (back_onto ss [])
  pub nodes : (i : ℕ) → i < m.nodes → entries_at (i + 1) (entries ss) ≡ moving_of (placed_at m i)

newest_is : (ss : List Sign) → entries (back_onto ss []) ≡ reverse (entries ss)
newest_is ss = back_entries ss [] ∙ back_is (entries ss) [] ∙ append_none (reverse (entries ss))

arranged_sounds : (m : Mesh) (ss : List Sign) → Agrees m → Arranged m ss → Sounds m.nodes (reverse (entries ss))
arranged_sounds m ss a h =
    subst (Sounds m.nodes) (back_is (entries ss) [] ∙ append_none (reverse (entries ss)))
    (sounds_on m.nodes (entries ss) [] (all_within m.nodes ss h.within) tt (λ i in_. subst (SoundFrom (node_after (i + 1) [])) (sym (h.nodes i in_)) (node_sound m i a in_)))

pub arranged_runs : (m : Mesh) (ss : List Sign) → Agrees m → Arranged m ss → IsRun m.nodes (entries ss)
arranged_runs m ss a h =
    let first : List Sign = all_signs m (operator_of m) in
    let t : (b : Tale) × IsTold m.nodes b (entries first) = all_told m a (operator_of m) (omega arith) in
    let story : Story = rearranged t.0.story first (back_onto ss []) in
    let fairs : Fairs m.nodes story (entries (back_onto ss [])) =
    fairs_rearranged m.nodes t.0.story first (back_onto ss []) t.1.fair (signs_fall m (operator_of m)) (λ s i. (sign_listed m s a i).1)
    (λ s i off. h.noted s (out s i) off) (λ s i. back_in s ss [] (inl (h.all s i))) h.keeps in
    (story, follows_of m.nodes story (reverse (entries ss)) (subst (Fairs m.nodes story) (newest_is ss) fairs) (arranged_sounds m ss a h))
  where
    out : (s : Sign) → In s (back_onto ss []) → In s ss
    out s i = by (back_out s ss [] i)
      where
        by : In s ss ⊎ In s [] → In s ss
        by (inl j) = j
        by (inr j) = absurd (unfold In in j)

-- ## The epoch order
order_arranged : (m : Mesh) → Agrees m → Arranged m (order_signs m)
order_arranged m a = record {
  noted = order_noted m a;
  all = λ s i. sign_ordered m s a.histories (sign_listed m s a i).0;
  within = order_within m a;
  keeps = order_keeps m a;
  nodes = λ i in_. ap (entries_at (i + 1)) (order_is m) ∙ order_at_nodes m i a in_;
}

pub order_runs : (m : Mesh) → Agrees m → IsRun m.nodes (epoch_order m)
order_runs m a = subst (IsRun m.nodes) (order_is m) (arranged_runs m (order_signs m) a (order_arranged m a))

pub order_safe : (m : Mesh) → Agrees m → IsSafe m.nodes (epoch_order m)
order_safe m a = run_safe m.nodes (epoch_order m) (order_runs m a)
