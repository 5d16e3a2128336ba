-- The lists of a cluster agree.
use Rattle.std.proofs.Common.{◌≡◌, ℕ, ◌+◌, ◌<◌, ◌≤◌, List, [], ◌∷◌, ◌++◌, sym, ap, ◌∙◌, subst, arith, length, map, get_or, ◌⊎◌, inl, inr, length-append}
use Rattle.std.proofs.lemmas.Bool.{cases_lt}
use Rattle.std.proofs.lemmas.List.{get_or-map, length-map, get_or_append_left}
use Rattle.std.proofs.Math.Seq.{get_or-append_seam}
use Rattle.journal_history.specs.declared.record.Record.{Record}
use Rattle.journal_history.specs.declared.mark.Mark.{Mark}
use Rattle.mesh.specs.Marks.{IsMarked, AreCopied}
use Rattle.mesh.specs.Makers.{IsOfChores, IsOperators}
use Rattle.mesh.specs.Matches.{reached, lines_of, AreSame, AreWithin, CallersWithin}
use Rattle.mesh.specs.Agree.{operator_of, record_of, plan_of, ListsAgree}
use Rattle.pipe_seats.specs.Settled.{losses}
use Rattle.pipe_seats.specs.Cluster.{Life, settled_life, no_life, Cluster, life_of, history_of, IsCluster, mesh_of, ClustersAgree}
use Rattle.pipe_seats.proofs.SettledLaws.{goes_by_losses, copied_by_losses, settled_copies, settled_within, settled_chores}

abbrev planned : Life → List Mark
planned l = losses (settled_life l)

count_is : (c : Cluster) → operator_of (mesh_of c) ≡ length c.lives
count_is c = length-map c.lives planned

record_is : (c : Cluster) (k : ℕ) → k < length c.lives → record_of (mesh_of c) k ≡ settled_life (life_of c k)
record_is c k l =
    let low : k < length (map settled_life c.lives) = omega (arith, length-map c.lives settled_life) in
    get_or_append_left (map settled_life c.lives) (c.operator ∷ []) [] k low ∙ get_or-map settled_life c.lives k no_life [] l

operator_is : (c : Cluster) → record_of (mesh_of c) (length c.lives) ≡ c.operator
operator_is c =
    ap (λ (n : ℕ). get_or (map settled_life c.lives ++ c.operator ∷ []) n []) (sym (length-map c.lives settled_life)) ∙ get_or-append_seam (map settled_life c.lives) c.operator [] []

plan_is : (c : Cluster) (k : ℕ) → k < length c.lives → plan_of (mesh_of c) k ≡ losses (settled_life (life_of c k))
plan_is c k l = get_or-map planned c.lives k no_life [] l

-- a fact of the records of all callers: of each life, and of the operator
each_caller : (c : Cluster) (P : ℕ → List Record → Type 0) → ((k : ℕ) → k < length c.lives → P k (settled_life (life_of c k))) → P (length c.lives) c.operator
    → (k : ℕ) → k ≤ operator_of (mesh_of c) → P k (record_of (mesh_of c) k)
each_caller c P lives operator k l = by (cases_lt k (length c.lives))
  where
    by : (k < length c.lives) ⊎ (length c.lives ≤ k) → P k (record_of (mesh_of c) k)
    by (inl h) = subst (λ (rs : List Record). P k rs) (sym (record_is c k h)) (lives k h)
    by (inr h) =
        let last : length c.lives ≡ k = omega (arith, h, l, count_is c) in
        subst (λ (n : ℕ). P n (record_of (mesh_of c) n)) last (subst (λ (rs : List Record). P (length c.lives) rs) (sym (operator_is c)) operator)

below : (c : Cluster) (k : ℕ) → k < operator_of (mesh_of c) → k < length c.lives
below c k l = omega (arith, l, count_is c)

lists : (c : Cluster) → IsCluster c → ListsAgree (mesh_of c)
lists c h = record {
  local = h.local;
  operated = subst (λ (n : ℕ). IsOperators (record_of (mesh_of c) n)) (sym (count_is c)) (subst (λ (rs : List Record). IsOperators rs) (sym (operator_is c)) h.operated);
  same = λ i k l m. each_caller c (λ n rs. AreSame (reached (i + 1) rs) (lines_of n (history_of c i))) (λ n g. h.pipes i n l g) (h.operator_same i l) k m;
  marked = λ k l.
      let n = settled_copies (life_of c k).arrived (life_of c k).past (h.no_copies k (below c k l)) in
      subst (λ (plan : List Mark). IsMarked plan [] (record_of (mesh_of c) k)) (sym (plan_is c k (below c k l)))
      (subst (λ (rs : List Record). IsMarked (losses (settled_life (life_of c k))) [] rs) (sym (record_is c k (below c k l))) (goes_by_losses (settled_life (life_of c k)) n));
  copied = λ k l.
      let n = settled_copies (life_of c k).arrived (life_of c k).past (h.no_copies k (below c k l)) in
      subst (λ (plan : List Mark). AreCopied plan (record_of (mesh_of c) k)) (sym (plan_is c k (below c k l)))
      (subst (λ (rs : List Record). AreCopied (losses (settled_life (life_of c k))) rs) (sym (record_is c k (below c k l))) (copied_by_losses (settled_life (life_of c k)) n));
  callers = λ i l. subst (λ (n : ℕ). CallersWithin n (history_of c i)) (sym (count_is c)) (h.callers i l);
  within = λ k m. each_caller c (λ n rs. AreWithin c.nodes rs) (λ n g. settled_within c.nodes (life_of c n).arrived (life_of c n).past (h.within n g)) h.operator_within k m;
}

pub agrees : ClustersAgree
agrees c h = record {
  lists = lists c h;
  made = λ k l.
      subst (λ (rs : List Record). IsOfChores c.nodes rs) (sym (record_is c k (below c k l))) (settled_chores c.nodes (life_of c k).arrived (life_of c k).past (h.made k (below c k l)));
  histories = h.count;
  records = omega (arith, length-append (map settled_life c.lives) (c.operator ∷ []), length-map c.lives settled_life, length-map c.lives planned);
}
