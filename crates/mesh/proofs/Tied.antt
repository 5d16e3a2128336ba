-- A caller's record and a node's history, when either or both get one line more.
use Rattle.std.proofs.Common.{◌≡◌, ℕ, ◌≤◌, List, [], ◌∷◌, ◌++◌, Bool, true, false, cond, filter, map, Contains, refl, sym, ap, ◌∙◌, subst, inl, inr}
use Rattle.std.specs.Prelude.{◌≢◌, ◌==◌}
use Rattle.journal_history.specs.declared.history_line.HistoryLine.{HistoryLine}
use Rattle.journal_history.specs.declared.record.Record.{Record}
use Rattle.journal_history.specs.Cell.{Cell, cell_takes, IsLocalRun, cell_after}
use Rattle.journal_history.specs.Moving.{Placed}
use Rattle.mesh.specs.Matches.{reaches, reached, lines_of, IsSame, AreSame, CallersWithin}
use Rattle.mesh.specs.Traces.{history_of}
use Rattle.mesh.proofs.Lists.{filter_snoc, cond_true, cond_false, Alike, alike, same_test, other_test, contains_head, contains_tail}

-- ## Histories
map_snoc : (xs : List Placed) (x : Placed) → map (λ (y : Placed). y.line) (xs ++ x ∷ []) ≡ map (λ (y : Placed). y.line) xs ++ x.line ∷ []
map_snoc [] x = refl
map_snoc (y ∷ xs) x = ap (λ (l : List HistoryLine). y.line ∷ l) (map_snoc xs x)

pub history_at : (k : ℕ) (t : List Placed) (x : Placed) → x.node ≡ k → history_of k (t ++ x ∷ []) ≡ history_of k t ++ x.line ∷ []
unfolding history_of
history_at k t x e =
    ap (map (λ (y : Placed). y.line)) (filter_snoc (λ (y : Placed). y.node == k) t x ∙ cond_true (x.node == k) _ _ (same_test x.node k e))
    ∙ map_snoc (filter (λ (y : Placed). y.node == k) t) x

pub history_off : (k : ℕ) (t : List Placed) (x : Placed) → x.node ≢ k → history_of k (t ++ x ∷ []) ≡ history_of k t
unfolding history_of
history_off k t x e = ap (map (λ (y : Placed). y.line)) (filter_snoc (λ (y : Placed). y.node == k) t x ∙ cond_false (x.node == k) _ _ (other_test x.node k e))

pub local_snoc : (c : Cell) (hs : List HistoryLine) (h : HistoryLine) → IsLocalRun c hs → h.answer ≡ (cell_takes (cell_after c hs) h.ask).answer → IsLocalRun c (hs ++ h ∷ [])
unfolding IsLocalRun cell_after
local_snoc c [] h l e = (e, tt)
local_snoc c (x ∷ hs) h l e = (l.0, local_snoc (cell_takes c x.ask).cell hs h l.1 e)

pub cell_snoc : (c : Cell) (hs : List HistoryLine) (h : HistoryLine) → cell_after c (hs ++ h ∷ []) ≡ (cell_takes (cell_after c hs) h.ask).cell
unfolding cell_after
cell_snoc c [] h = refl
cell_snoc c (x ∷ hs) h = cell_snoc (cell_takes c x.ask).cell hs h

-- ## The lines of one caller
lines_at : (c : ℕ) (hs : List HistoryLine) (h : HistoryLine) → h.caller ≡ c → lines_of c (hs ++ h ∷ []) ≡ lines_of c hs ++ h ∷ []
unfolding lines_of
lines_at c hs h e = filter_snoc (λ (x : HistoryLine). x.caller == c) hs h ∙ cond_true (h.caller == c) _ _ (same_test h.caller c e)

lines_off : (c : ℕ) (hs : List HistoryLine) (h : HistoryLine) → h.caller ≢ c → lines_of c (hs ++ h ∷ []) ≡ lines_of c hs
unfolding lines_of
lines_off c hs h e = filter_snoc (λ (x : HistoryLine). x.caller == c) hs h ∙ cond_false (h.caller == c) _ _ (other_test h.caller c e)

pub reached_at : (k : ℕ) (rs : List Record) (r : Record) → reaches k r ≡ true → reached k (rs ++ r ∷ []) ≡ reached k rs ++ r ∷ []
unfolding reached
reached_at k rs r e = filter_snoc (reaches k) rs r ∙ cond_true (reaches k r) _ _ e

pub reached_off : (k : ℕ) (rs : List Record) (r : Record) → reaches k r ≡ false → reached k (rs ++ r ∷ []) ≡ reached k rs
unfolding reached
reached_off k rs r e = filter_snoc (reaches k) rs r ∙ cond_false (reaches k r) _ _ e

pub same_snoc : (rs : List Record) (hs : List HistoryLine) (r : Record) (h : HistoryLine) → AreSame rs hs → IsSame r h → AreSame (rs ++ r ∷ []) (hs ++ h ∷ [])
unfolding AreSame
same_snoc [] [] r h s e = (e, tt)
same_snoc [] (x ∷ hs) r h s e = absurd s
same_snoc (x ∷ rs) [] r h s e = absurd s
same_snoc (x ∷ rs) (y ∷ hs) r h s e = (s.0, same_snoc rs hs r h s.1 e)

-- ## What ties the two
unfoldable pub Tied : ℕ → ℕ → List Record → List Placed → Type 0
Tied k c rs t = AreSame (reached k rs) (lines_of c (history_of k t))

along : (rs ss : List Record) (hs gs : List HistoryLine) → ss ≡ rs → gs ≡ hs → AreSame rs hs → AreSame ss gs
along rs ss hs gs d e h = subst (λ (x : List HistoryLine). AreSame ss x) (sym e) (subst (λ (x : List Record). AreSame x hs) (sym d) h)

-- a line that reached no node
pub quiet : (k c : ℕ) (rs : List Record) (r : Record) (t : List Placed) → reaches k r ≡ false → Tied k c rs t → Tied k c (rs ++ r ∷ []) t
unfolding Tied Alike
quiet k c rs r t e h = along _ _ _ _ (reached_off k rs r e) refl h

-- a line of another caller
pub others : (k c : ℕ) (rs : List Record) (t : List Placed) (x : Placed) → x.line.caller ≢ c → Tied k c rs t → Tied k c rs (t ++ x ∷ [])
unfolding Tied Alike
others k c rs t x e h = by (alike x.node k)
  where
    by : Alike x.node k → AreSame (reached k rs) (lines_of c (history_of k (t ++ x ∷ [])))
    by (inl g) = along _ _ _ _ refl (ap (lines_of c) (history_at k t x g.1) ∙ lines_off c (history_of k t) x.line e) h
    by (inr g) = along _ _ _ _ refl (ap (lines_of c) (history_off k t x g.1)) h

-- a line of this caller, at this node or at another
pub both : (k c : ℕ) (rs : List Record) (r : Record) (t : List Placed) (x : Placed) → x.line.caller ≡ c → reaches k r ≡ (x.node == k)
    → IsSame r x.line → Tied k c rs t → Tied k c (rs ++ r ∷ []) (t ++ x ∷ [])
unfolding Tied Alike
both k c rs r t x e f s h = by (alike x.node k)
  where
    by : Alike x.node k → AreSame (reached k (rs ++ r ∷ [])) (lines_of c (history_of k (t ++ x ∷ [])))
    by (inl g) = along (reached k rs ++ r ∷ []) _ (lines_of c (history_of k t) ++ x.line ∷ []) _ (reached_at k rs r (f ∙ g.0))
        (ap (lines_of c) (history_at k t x g.1) ∙ lines_at c (history_of k t) x.line e) (same_snoc (reached k rs) (lines_of c (history_of k t)) r x.line h s)
    by (inr g) = along (reached k rs) _ (lines_of c (history_of k t)) _ (reached_off k rs r (f ∙ g.0)) (ap (lines_of c) (history_off k t x g.1)) h

-- ## The callers of a history
pub callers_within : (op k : ℕ) (t : List Placed) → ((x : Placed) → Contains t x → x.line.caller ≤ op) → CallersWithin op (history_of k t)
unfolding CallersWithin history_of
callers_within op k [] h = tt
callers_within op k (x ∷ t) h = by (x.node == k) (callers_within op k t (λ y i. h y (contains_tail x t y i)))
  where
    by : (b : Bool) → CallersWithin op (map (λ (y : Placed). y.line) (filter (λ (y : Placed). y.node == k) t))
        → CallersWithin op (map (λ (y : Placed). y.line) (cond b (x ∷ filter (λ (y : Placed). y.node == k) t) (filter (λ (y : Placed). y.node == k) t)))
    by true g = (h x (contains_head x t x refl), g)
    by false g = g
