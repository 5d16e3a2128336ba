-- The lines of a record that reached a node, with their places: one more line, and the line with a
-- given number.
use Rattle.std.proofs.Common.{◌≡◌, ℕ, zero, suc, ◌+◌, ◌-◌, ◌<◌, ◌≤◌, ◌==◌, List, [], ◌∷◌, ◌++◌, Bool, true, false, cond, length, refl, sym, ap, ◌∙◌}
use Rattle.std.proofs.Common.{subst, arith, get_or, set, take, filter, Some, None, inl, inr}
use Rattle.std.specs.Prelude.{slice_get}
use Rattle.std.proofs.lemmas.List.{take_more, take_all, get_or-set_same, get_or-set_other, length-set, append-nil}
use Rattle.journal_history.specs.declared.record.Record.{Record}
use Rattle.journal_history.specs.declared.record.Record.TheVariants.{Call, Late, Operator, Outcome}
use Rattle.journal_history.specs.declared.record.Told.TheVariants as told
use Rattle.mesh.specs.Matches.{reaches, reached, IsWithin, AreWithin}
use Rattle.mesh.specs.Order.{is_muted, place_of}
use Rattle.mesh.proofs.Lists.{Alike, alike}
use Rattle.mesh_judge.specs.declared.reached.Reach.{Reach}
use Rattle.mesh_judge.specs.Reaches.{node_reached, places}

abbrev pub reach : ℕ → Record → Reach
reach place r = record { place = place; is_muted = is_muted (Some r) }

-- ## One more line
abbrev more : Bool → ℕ → Record → List Reach
more b place r = cond b (reach place r ∷ []) []

pub places_snoc : (node p : ℕ) (rs : List Record) (r : Record) → places node p (rs ++ r ∷ []) ≡ places node p rs ++ more (reaches node r) (p + length rs) r
unfolding places
places_snoc node p [] r = by (reaches node r)
  where
    by : (b : Bool) → cond b (reach p r ∷ []) [] ≡ cond b (reach (p + 0) r ∷ []) []
    by b = ap (λ n. cond b (reach n r ∷ []) []) (let e : p ≡ p + 0 = omega arith in e)
places_snoc node p (x ∷ rs) r = by (reaches node x) (places_snoc node (p + 1) rs r)
  where
    next : p + 1 + length rs ≡ p + suc (length rs)
    next = omega arith

    by : (b : Bool) → places node (p + 1) (rs ++ r ∷ []) ≡ places node (p + 1) rs ++ more (reaches node r) (p + 1 + length rs) r
        → cond b (reach p x ∷ places node (p + 1) (rs ++ r ∷ [])) (places node (p + 1) (rs ++ r ∷ [])) ≡ cond b (reach p x ∷ places node (p + 1) rs)
        (places node (p + 1) rs) ++ more (reaches node r) (p + suc (length rs)) r
    by true h = ap (λ (l : List Reach). reach p x ∷ l) (h ∙ ap (λ n. places node (p + 1) rs ++ more (reaches node r) n r) next)
    by false h = h ∙ ap (λ n. places node (p + 1) rs ++ more (reaches node r) n r) next

-- ## The line with a number
pub places_length : (node p : ℕ) (rs : List Record) → length (places node p rs) ≡ length (reached node rs)
unfolding places reached
places_length node p [] = refl
places_length node p (r ∷ rs) = by (reaches node r) (places_length node (p + 1) rs)
  where
    by : (b : Bool) → length (places node (p + 1) rs) ≡ length (filter (reaches node) rs)
        → length (cond b (reach p r ∷ places node (p + 1) rs) (places node (p + 1) rs)) ≡ length (cond b (r ∷ filter (reaches node) rs) (filter (reaches node) rs))
    by true h = ap suc h
    by false h = h

pub place_at : (node j p : ℕ) (rs : List Record) (d : Reach) → j < length (reached node rs)
    → get_or (places node p rs) j d ≡ record { place = place_of node j p rs; is_muted = is_muted (slice_get (reached node rs) j) }
unfolding places reached place_of
place_at node j p [] d l = absurd (omega (arith, l))
place_at node zero p (r ∷ rs) d l = by (reaches node r) l (λ x. place_at node zero (p + 1) rs d x)
  where
    by : (b : Bool) → zero < length (cond b (r ∷ filter (reaches node) rs) (filter (reaches node) rs))
        → (zero < length (filter (reaches node) rs) → get_or (places node (p + 1) rs) zero d ≡
        record { place = place_of node zero (p + 1) rs; is_muted = is_muted (slice_get (filter (reaches node) rs) zero) })
        → get_or (cond b (reach p r ∷ places node (p + 1) rs) (places node (p + 1) rs)) zero d
        ≡ record { place = cond b p (place_of node zero (p + 1) rs); is_muted = is_muted (slice_get (cond b (r ∷ filter (reaches node) rs) (filter (reaches node) rs)) zero) }
    by true x h = refl
    by false x h = h x
place_at node (suc j) p (r ∷ rs) d l = by (reaches node r) l (λ x. place_at node j (p + 1) rs d x) (λ x. place_at node (suc j) (p + 1) rs d x)
  where
    by : (b : Bool) → suc j < length (cond b (r ∷ filter (reaches node) rs) (filter (reaches node) rs))
        → (j < length (filter (reaches node) rs) → get_or (places node (p + 1) rs) j d ≡ record { place = place_of node j (p + 1) rs; is_muted = is_muted (slice_get (filter (reaches node) rs) j) })
        → (suc j < length (filter (reaches node) rs) → get_or (places node (p + 1) rs) (suc j) d ≡
        record { place = place_of node (suc j) (p + 1) rs; is_muted = is_muted (slice_get (filter (reaches node) rs) (suc j)) })
        → get_or (cond b (reach p r ∷ places node (p + 1) rs) (places node (p + 1) rs)) (suc j) d
        ≡ record {
          place = cond b (place_of node j (p + 1) rs) (place_of node (suc j) (p + 1) rs);
          is_muted = is_muted (slice_get (cond b (r ∷ filter (reaches node) rs) (filter (reaches node) rs)) (suc j));
        }
    by true x h g = h (omega (arith, x))
    by false x h g = g x

-- ## Lists of one record, node by node
-- what the lists of that many nodes hold of these lines
pub record Split (nodes : ℕ) (rs : List Record) (lists : List (List Reach)) : Type 0 where
  pub size : length lists ≡ nodes
  pub each : (i : ℕ) → i < nodes → get_or lists i [] ≡ places (i + 1) 1 rs

pub split_none : (nodes : ℕ) (lists : List (List Reach)) → length lists ≡ nodes → ((i : ℕ) → get_or lists i [] ≡ []) → Split nodes [] lists
unfolding places
split_none nodes lists l e = record { size = l; each = λ i less. e i }

-- a line that reached no node
none_reaches : (i : ℕ) (r : Record) → node_reached r ≡ None → reaches i r ≡ false
unfolding reaches
none_reaches i (Call k r (told.Reply x)) e = absurd (cc e)
none_reaches i (Call k r told.Dropped) e = refl
none_reaches i (Call k r told.Muted) e = absurd (cc e)
none_reaches i (Call k r told.Silent) e = absurd (cc e)
none_reaches i (Late k r) e = absurd (cc e)
none_reaches i (Operator k ask done) e = absurd (cc e)
none_reaches i (Outcome text) e = refl

node_reaches : (i node : ℕ) (r : Record) → node_reached r ≡ Some node → reaches i r ≡ (node == i)
unfolding reaches
node_reaches i node (Call k r (told.Reply x)) e = let same : k ≡ node = cc e in ap (λ n. n == i) same
node_reaches i node (Call k r told.Dropped) e = absurd (cc e)
node_reaches i node (Call k r told.Muted) e = let same : k ≡ node = cc e in ap (λ n. n == i) same
node_reaches i node (Call k r told.Silent) e = let same : k ≡ node = cc e in ap (λ n. n == i) same
node_reaches i node (Late k r) e = let same : k ≡ node = cc e in ap (λ n. n == i) same
node_reaches i node (Operator k ask done) e = let same : k ≡ node = cc e in ap (λ n. n == i) same
node_reaches i node (Outcome text) e = absurd (cc e)

within_node : (nodes node : ℕ) (r : Record) → IsWithin nodes r → node_reached r ≡ Some node → (1 ≤ node) × (node ≤ nodes)
within_node nodes node (Call k r (told.Reply x)) w e = let same : k ≡ node = cc e in subst (λ n. (1 ≤ n) × (n ≤ nodes)) same w
within_node nodes node (Call k r told.Dropped) w e = absurd (cc e)
within_node nodes node (Call k r told.Muted) w e = let same : k ≡ node = cc e in subst (λ n. (1 ≤ n) × (n ≤ nodes)) same w
within_node nodes node (Call k r told.Silent) w e = let same : k ≡ node = cc e in subst (λ n. (1 ≤ n) × (n ≤ nodes)) same w
within_node nodes node (Late k r) w e = let same : k ≡ node = cc e in subst (λ n. (1 ≤ n) × (n ≤ nodes)) same w
within_node nodes node (Operator k ask done) w e = let same : k ≡ node = cc e in subst (λ n. (1 ≤ n) × (n ≤ nodes)) same w
within_node nodes node (Outcome text) w e = absurd (cc e)

are_within : (nodes i : ℕ) (rs : List Record) (d : Record) → AreWithin nodes rs → i < length rs → IsWithin nodes (get_or rs i d)
unfolding AreWithin
are_within nodes i [] d w l = absurd (omega (arith, l))
are_within nodes zero (r ∷ rs) d w l = w.0
are_within nodes (suc i) (r ∷ rs) d w l = are_within nodes i rs d w.1 (omega (arith, l))

pub node_within : (nodes node i : ℕ) (rs : List Record) (r : Record) → AreWithin nodes rs → i < length rs → r ≡ get_or rs i r → node_reached r ≡ Some node → (1 ≤ node) × (node ≤ nodes)
node_within nodes node i rs r w l is e = within_node nodes node r (subst (IsWithin nodes) (sym is) (are_within nodes i rs r w l)) e

pub taken_length : {A : Type 0} (i : ℕ) (xs : List A) → i ≤ length xs → length (take i xs) ≡ i
taken_length zero xs l = refl
taken_length (suc i) [] l = absurd (omega (arith, l))
taken_length (suc i) (x ∷ xs) l = ap suc (taken_length i xs (omega (arith, l)))

places_more : (node i : ℕ) (rs : List Record) (r : Record) → i < length rs → r ≡ get_or rs i r → places node 1 (take (i + 1) rs) ≡ places node 1 (take i rs) ++ more (reaches node r) (1 + i) r
places_more node i rs r l is =
    let one : take (i + 1) rs ≡ take i rs ++ r ∷ [] = take_more rs i r l ∙ ap (λ x. take i rs ++ x ∷ []) (sym is) in
    ap (places node 1) one ∙ places_snoc node 1 (take i rs) r ∙ ap (λ n. places node 1 (take i rs) ++ more (reaches node r) (1 + n) r) (taken_length i rs (omega (arith, l)))

pub split_skips : (nodes i : ℕ) (rs : List Record) (r : Record) (lists : List (List Reach)) → i < length rs → r ≡ get_or rs i r
    → node_reached r ≡ None → Split nodes (take i rs) lists → Split nodes (take (i + 1) rs) lists
split_skips nodes i rs r lists l is e h = record {
  size = h.size;
  each = λ k less. h.each k less ∙ sym (places_more (k + 1) i rs r l is
      ∙ ap (λ b. places (k + 1) 1 (take i rs) ++ more b (1 + i) r) (none_reaches (k + 1) r e) ∙ append-nil (places (k + 1) 1 (take i rs)));
}

pub split_adds : (nodes node i : ℕ) (rs : List Record) (r : Record) (lists : List (List Reach)) (x : Reach) (list : List Reach) → i < length rs
    → r ≡ get_or rs i r → node_reached r ≡ Some node → (1 ≤ node) × (node ≤ nodes)
    → x ≡ reach (i + 1) r → list ≡ get_or lists (node - 1) [] ++ x ∷ [] → Split nodes (take i rs) lists → Split nodes (take (i + 1) rs) (set lists (node - 1) list)
unfolding Alike
split_adds nodes node i rs r lists x list l is e w made grown h = record {
  size = length-set lists (node - 1) list ∙ h.size;
  each = λ k less. by k less (alike node (k + 1));
}
  where
    place : i + 1 ≡ 1 + i
    place = omega arith

    tells : (k : ℕ) (b : Bool) → (node == (k + 1)) ≡ b → places (k + 1) 1 (take (i + 1) rs) ≡ places (k + 1) 1 (take i rs) ++ more b (1 + i) r
    tells k b f = places_more (k + 1) i rs r l is ∙ ap (λ z. places (k + 1) 1 (take i rs) ++ more z (1 + i) r) (node_reaches (k + 1) node r e ∙ f)

    by : (k : ℕ) → k < nodes → Alike node (k + 1) → get_or (set lists (node - 1) list) k [] ≡ places (k + 1) 1 (take (i + 1) rs)
    by k less (inl f) =
        let same : node - 1 ≡ k = omega (arith, f.1) in
        let there : get_or (set lists (node - 1) list) k [] ≡ list =
        subst (λ n. get_or (set lists (node - 1) list) n [] ≡ list) same
        (get_or-set_same lists (node - 1) list [] (omega (arith, h.size, w.0, w.1))) in
        there ∙ grown ∙ ap (λ n. get_or lists n [] ++ x ∷ []) same ∙ ap (λ ys. ys ++ x ∷ []) (h.each k less)
        ∙ ap (λ z. places (k + 1) 1 (take i rs) ++ z ∷ []) (made ∙ ap (λ n. reach n r) place) ∙ sym (tells k true f.0)
    by k less (inr f) =
        get_or-set_other lists (node - 1) k list [] (λ g. f.1 (omega (arith, g, w.0))) ∙ h.each k less ∙ sym (tells k false f.0 ∙ append-nil (places (k + 1) 1 (take i rs)))

pub split_whole : (nodes i k : ℕ) (rs : List Record) (lists : List (List Reach)) → length rs ≤ i → k < nodes → Split nodes (take i rs) lists → get_or lists k [] ≡ places (k + 1) 1 rs
split_whole nodes i k rs lists l less h = h.each k less ∙ ap (places (k + 1) 1) (take_all i rs l)
