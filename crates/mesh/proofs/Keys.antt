-- In an agreeing mesh the keys of each node rise.
use Rattle.std.proofs.Common.{◌≡◌, ℕ, zero, suc, ◌+◌, ◌<◌, ◌≤◌, List, [], ◌∷◌, ◌++◌, Bool, true, false, cond, filter, refl, sym, ap, ◌∙◌, subst}
use Rattle.std.proofs.Common.{arith, length, get_or, append_assoc, length-append, ◌⊎◌, inl, inr}
use Rattle.std.specs.Prelude.{Option, Some, None, ◌==◌, nat_lt, ◌&&◌, ◌||◌}
use Rattle.std.proofs.lemmas.Bool.{le-ltb, cases_Bool}
use Rattle.std.proofs.lemmas.List.Elements.{filter-append}
use Rattle.journal_core.specs.declared.request.Request.{Request}
use Rattle.journal_history.specs.declared.node_ask.NodeAsk.TheVariants.{Act}
use Rattle.journal_history.specs.declared.history_line.HistoryLine.{HistoryLine}
use Rattle.journal_history.specs.declared.record.Record.{Record}
use Rattle.journal_history.specs.Cell.{Cell, cell_takes, fresh_cell, IsLocalRun}
use Rattle.journal_history.specs.Entries.{Move, Entry}
use Rattle.journal_history.specs.Moving.{is_proposal, move_of, entry_at, entry_of, falls}
use Rattle.journal_history.proofs.Raised.{Raised, CellRaised, cell_raised}
use Rattle.journal_history.proofs.CellLaws.{promise}
use Rattle.mesh.specs.declared.whole.Mesh.{Mesh}
use Rattle.mesh.specs.Matches.{reaches, reached, lines_of, AreSame, CallersWithin}
use Rattle.mesh.specs.Agree.{Agrees, operator_of, history_at, record_of}
use Rattle.mesh.specs.Owners.{owns, HasOwners}
use Rattle.mesh.specs.Order.{Key, Tagged, is_muted, line_of_caller, place_of, owners_place, key_of, is_below, tag_first, tags_of}
use Rattle.mesh.specs.Sorted.{NotBelow, Rising, AllRising}
use Rattle.mesh.proofs.Lists.{Alike, alike, same_test}

-- ## Places of a caller's record rise
pub at_least : (k j p : ℕ) (rs : List Record) → p ≤ place_of k j p rs
unfolding place_of
at_least k j p [] = omega arith
at_least k zero p (r ∷ rs) = by (reaches k r) (at_least k zero (p + 1) rs)
  where
    by : (b : Bool) → p + 1 ≤ place_of k zero (p + 1) rs → p ≤ cond b p (place_of k zero (p + 1) rs)
    by true h = omega arith
    by false h = omega (arith, h)
at_least k (suc j) p (r ∷ rs) = by (reaches k r) (at_least k j (p + 1) rs) (at_least k (suc j) (p + 1) rs)
  where
    by : (b : Bool) → p + 1 ≤ place_of k j (p + 1) rs → p + 1 ≤ place_of k (suc j) (p + 1) rs → p ≤ cond b (place_of k j (p + 1) rs) (place_of k (suc j) (p + 1) rs)
    by true h g = omega (arith, h)
    by false h g = omega (arith, g)

pub places_rise : (k i j p : ℕ) (rs : List Record) → i < j → j < length (reached k rs) → place_of k i p rs < place_of k j p rs
unfolding place_of reached
places_rise k i j p [] l m = absurd (omega (arith, m))
places_rise k i zero p (r ∷ rs) l m = absurd (omega (arith, l))
places_rise k zero (suc j) p (r ∷ rs) l m = by (reaches k r) m (at_least k j (p + 1) rs) (λ x. places_rise k zero (suc j) (p + 1) rs l x)
  where
    by : (b : Bool) → suc j < length (cond b (r ∷ filter (reaches k) rs) (filter (reaches k) rs)) → p + 1 ≤ place_of k j (p + 1) rs
        → (suc j < length (filter (reaches k) rs) → place_of k zero (p + 1) rs < place_of k (suc j) (p + 1) rs)
        → cond b p (place_of k zero (p + 1) rs) < cond b (place_of k j (p + 1) rs) (place_of k (suc j) (p + 1) rs)
    by true x h go = omega (arith, h)
    by false x h go = go x
places_rise k (suc i) (suc j) p (r ∷ rs) l m = by (reaches k r) m (λ x. places_rise k i j (p + 1) rs (omega (arith, l)) x) (λ x. places_rise k (suc i) (suc j) (p + 1) rs l x)
  where
    by : (b : Bool) → suc j < length (cond b (r ∷ filter (reaches k) rs) (filter (reaches k) rs))
        → (j < length (filter (reaches k) rs) → place_of k i (p + 1) rs < place_of k j (p + 1) rs)
        → (suc j < length (filter (reaches k) rs) → place_of k (suc i) (p + 1) rs < place_of k (suc j) (p + 1) rs)
        → cond b (place_of k i (p + 1) rs) (place_of k (suc i) (p + 1) rs) < cond b (place_of k j (p + 1) rs) (place_of k (suc j) (p + 1) rs)
    by true x h go = h (omega (arith, x))
    by false x h go = go x

-- ## How many lines a caller has
unfoldable pub count_of : ℕ → List HistoryLine → ℕ
count_of c hs = length (lines_of c hs)

pub count_append : (c : ℕ) (xs ys : List HistoryLine) → count_of c (xs ++ ys) ≡ count_of c xs + count_of c ys
unfolding count_of lines_of
count_append c xs ys = ap length (filter-append (λ (h : HistoryLine). h.caller == c) xs ys)
    ∙ length-append (filter (λ (h : HistoryLine). h.caller == c) xs) (filter (λ (h : HistoryLine). h.caller == c) ys)

pub count_self : (h : HistoryLine) (hs : List HistoryLine) → count_of h.caller (h ∷ hs) ≡ suc (count_of h.caller hs)
unfolding count_of lines_of
count_self h hs = rw (same_test h.caller h.caller refl) refl

count_none : (c : ℕ) → count_of c [] ≡ 0
unfolding count_of lines_of
count_none c = refl

pub same_length : (rs : List Record) (hs : List HistoryLine) → AreSame rs hs → length rs ≡ length hs
unfolding AreSame
same_length [] [] h = refl
same_length [] (x ∷ hs) h = absurd h
same_length (x ∷ rs) [] h = absurd h
same_length (x ∷ rs) (y ∷ hs) h = ap suc (same_length rs hs h.1)

not_below_by : (a b c d : ℕ) → c ≤ a → (a ≡ c → d ≤ b) → (nat_lt a c || ((a == c) && nat_lt b d)) ≡ false
unfolding Alike
not_below_by a b c d l h = by (alike a c)
  where
    by : Alike a c → (nat_lt a c || ((a == c) && nat_lt b d)) ≡ false
    by (inl e) = rw (le-ltb a c l, e.0, le-ltb b d (h e.1)) refl
    by (inr e) = rw (le-ltb a c l, e.0) refl

place_by : (b d : Bool) (p r : ℕ) → d ≡ true → (b ≡ true → p ≤ r) → owners_place b p ≤ owners_place d r
place_by false d p r is h = omega arith
place_by true d p r is h = rw is (h refl)

-- ## A line that moves
pub entry_move : (node : ℕ) (o : Option Move) (e : Entry) → entry_at node o ≡ Some e → o ≡ Some e.move
entry_move node None e h = absurd (cc h)
entry_move node (Some m) e h = let same : record { node = node; move = m } ≡ e = cc h in ap (λ (x : Entry). Some x.move) same

not_first : (o : Option Entry) (low key : Key) (ts : List Tagged) → ((e : Entry) → o ≡ Some e → falls e.move ≡ false → is_below key low ≡ false) → NotBelow low ts → NotBelow low (tag_first o key ts)
unfolding NotBelow
not_first None low key ts f h = h
not_first (Some e) low key ts f h = ((λ (off : falls e.move ≡ false). f e refl off), h)

rising_first : (o : Option Entry) (key : Key) (ts : List Tagged) → ((e : Entry) → o ≡ Some e → falls e.move ≡ false → NotBelow key ts) → Rising ts → Rising (tag_first o key ts)
unfolding Rising
rising_first None key ts f h = h
rising_first (Some e) key ts f h = ((λ (off : falls e.move ≡ false). f e refl off), h)

raised_at : (m : Mesh) (node : ℕ) (before : List HistoryLine) (h : HistoryLine) (cell : Cell) (e : Entry) → h.answer ≡ (cell_takes cell h.ask).answer
    → entry_of (record { node = node; line = h; muted = is_muted (line_of_caller m node before h) }) ≡ Some e → falls e.move ≡ false → CellRaised cell h.ask
unfolding entry_of
raised_at m node before h cell e run is off =
    let muted : Bool = is_muted (line_of_caller m node before h) in
    let moved : move_of h.caller muted h.ask h.answer ≡ Some e.move = entry_move node (move_of h.caller muted h.ask h.answer) e is in
    cell_raised cell h.ask h.caller muted e.move (ap (move_of h.caller muted h.ask) (sym run) ∙ moved) off

-- what is known of the history of the node i + 1: its owners, and the places of its callers
module _ (m : Mesh) (i : ℕ) (all : List HistoryLine) (in_ : i < m.nodes) (is : history_at m i ≡ all) (own : HasOwners m)
    (places : (c j : ℕ) → j < count_of c all → j < length (reached (i + 1) (record_of m c)))
  where
    abbrev place : ℕ → ℕ → ℕ
    place c j = place_of (i + 1) j 1 (record_of m c)

    -- a moving line against an earlier one under the same promise, which was the j-th of the caller
    -- c
    later_place : (before after : List HistoryLine) (h : HistoryLine) (cell : Cell) (c j e : ℕ) (late : Bool) (q : Request) → before ++ h ∷ after ≡ all → h.ask ≡ Act late q
        → Raised cell.state.promised (cell_takes cell h.ask).cell.state.promised q → e ≤ cell.state.promised → j < count_of c before → (cell_takes cell h.ask).cell.state.promised ≡ e
        → owners_place (owns m c e) (place c j) ≤ owners_place (owns m h.caller (cell_takes cell h.ask).cell.state.promised) (place h.caller (count_of h.caller before))
    later_place before after h cell c j e late q whole ask mv low less same = by (cases_Bool (is_proposal q))
      where
        by : (is_proposal q ≡ true) ⊎ (is_proposal q ≡ false) → owners_place (owns m c e) (place c j) ≤ owners_place
            (owns m h.caller (cell_takes cell h.ask).cell.state.promised) (place h.caller (count_of h.caller before))
        by (inl p) = absurd (omega (arith, mv.rises p, mv.is, low, same))
        by (inr p) =
            let owner : owns m h.caller (cell_takes cell h.ask).cell.state.promised ≡ true = ap (owns m h.caller) mv.is ∙ own.heads i before after h late q mv.epoch in_ (is ∙ sym whole) ask mv.of p in
            place_by (owns m c e) (owns m h.caller (cell_takes cell h.ask).cell.state.promised) (place c j) (place h.caller (count_of h.caller before)) owner
            (λ (mine : owns m c e ≡ true).
            let one : c ≡ h.caller = own.one c h.caller e mine (ap (owns m h.caller) (sym same) ∙ owner) in
            let total : count_of h.caller all ≡ count_of h.caller before + suc (count_of h.caller after) = ap (count_of h.caller) (sym whole)
            ∙ (count_append h.caller before (h ∷ after) ∙ ap (λ (x : ℕ). count_of h.caller before + x) (count_self h after)) in
            let fits : count_of h.caller before < length (reached (i + 1) (record_of m h.caller)) = places h.caller (count_of h.caller before) (omega (arith, total)) in
            let rise : place h.caller j < place h.caller (count_of h.caller before) =
            places_rise (i + 1) j (count_of h.caller before) 1 (record_of m h.caller) (subst (λ (x : ℕ). j < count_of x before) one less) fits in
            let here : place c j ≡ place h.caller j = ap (λ (x : ℕ). place x j) one in
            omega (arith, rise, here))

    none_after : (before hs : List HistoryLine) (cell : Cell) (c j e : ℕ) → before ++ hs ≡ all → IsLocalRun cell hs → e ≤ cell.state.promised → j < count_of c before
        → NotBelow (record { promise = e; place = owners_place (owns m c e) (place c j) }) (tags_of m (i + 1) cell before hs)
    unfolding NotBelow tags_of key_of is_below IsLocalRun
    none_after before [] cell c j e whole run low less = tt
    none_after before (h ∷ hs) cell c j e whole run low less =
        not_first (entry_of (record { node = i + 1; line = h; muted = is_muted (line_of_caller m (i + 1) before h) })) (record { promise = e; place = owners_place (owns m c e) (place c j) })
        (key_of m (i + 1) (cell_takes cell h.ask).cell.state.promised before h) (tags_of m (i + 1) (cell_takes cell h.ask).cell (before ++ h ∷ []) hs)
        (λ (x : Entry) (f : _) (off : _).
        let w : CellRaised cell h.ask = raised_at m (i + 1) before h cell x run.0 f off in
        unfold count_of in not_below_by (cell_takes cell h.ask).cell.state.promised
        (owners_place (owns m h.caller (cell_takes cell h.ask).cell.state.promised) (place h.caller (count_of h.caller before))) e
        (owners_place (owns m c e) (place c j))
        (omega (arith, promise cell h.ask, low)) (λ (same : (cell_takes cell h.ask).cell.state.promised ≡ e). later_place before hs h cell c j e w.late w.request whole w.asks w.raised low less same))
        (none_after (before ++ h ∷ []) hs (cell_takes cell h.ask).cell c j e (append_assoc before (h ∷ []) hs ∙ whole) run.1
        (omega (arith, promise cell h.ask, low)) (omega (arith, less, count_append c before (h ∷ []))))

    tags_rise : (before hs : List HistoryLine) (cell : Cell) → before ++ hs ≡ all → IsLocalRun cell hs → Rising (tags_of m (i + 1) cell before hs)
    unfolding Rising tags_of key_of IsLocalRun
    tags_rise before [] cell whole run = tt
    tags_rise before (h ∷ hs) cell whole run =
        rising_first (entry_of (record { node = i + 1; line = h; muted = is_muted (line_of_caller m (i + 1) before h) }))
        (key_of m (i + 1) (cell_takes cell h.ask).cell.state.promised before h) (tags_of m (i + 1) (cell_takes cell h.ask).cell (before ++ h ∷ []) hs)
        (λ (x : Entry) (f : _) (off : _).
        unfold count_of in none_after (before ++ h ∷ []) hs (cell_takes cell h.ask).cell h.caller (count_of h.caller before)
        (cell_takes cell h.ask).cell.state.promised (append_assoc before (h ∷ []) hs ∙ whole) run.1 (omega arith)
        (omega (arith, count_append h.caller before (h ∷ []), count_self h [])))
        (tags_rise (before ++ h ∷ []) hs (cell_takes cell h.ask).cell (append_assoc before (h ∷ []) hs ∙ whole) run.1)

-- ## Every node of an agreeing mesh
caller_within : (n c : ℕ) (hs : List HistoryLine) (j : ℕ) → CallersWithin n hs → j < count_of c hs → c ≤ n
unfolding CallersWithin count_of lines_of Alike
caller_within n c [] j w l = absurd (omega (arith, l))
caller_within n c (h ∷ hs) j w l = by (alike h.caller c) l (λ x. caller_within n c hs j w.1 x)
  where
    by : Alike h.caller c → j < length (cond (h.caller == c) (h ∷ filter (λ (x : HistoryLine). x.caller == c) hs)
        (filter (λ (x : HistoryLine). x.caller == c) hs)) → (j < length (filter (λ (x : HistoryLine). x.caller == c) hs) → c ≤ n) → c ≤ n
    by (inl e) x go = omega (arith, e.1, w.0)
    by (inr e) x go = go (rw e.0 at x)

rising_from : (m : Mesh) (k : ℕ) (hss : List (List HistoryLine)) → ((i : ℕ) → i < length hss → Rising (tags_of m (k + i) fresh_cell [] (get_or hss i []))) → AllRising m k hss
unfolding AllRising
rising_from m k [] h = tt
rising_from m k (hs ∷ hss) h =
    let same : k + 0 ≡ k = omega arith in (
      subst (λ (x : ℕ). Rising (tags_of m x fresh_cell [] hs)) same (h 0 (omega arith)),
      rising_from m (k + 1) hss (λ i l. let next : k + suc i ≡ k + 1 + i = omega arith in subst (λ (x : ℕ). Rising (tags_of m x fresh_cell [] (get_or hss i []))) next (h (suc i) (omega (arith, l)))),
    )

pub fits : (m : Mesh) → Agrees m → (i : ℕ) → i < m.nodes → (c j : ℕ) → j < count_of c (history_at m i) → j < length (reached (i + 1) (record_of m c))
unfolding count_of
fits m a i in_ c j less =
    let caller : c ≤ operator_of m = caller_within (operator_of m) c (history_at m i) j (a.lists.callers i in_) (unfold count_of in less) in
    omega (arith, less, same_length (reached (i + 1) (record_of m c)) (lines_of c (history_at m i)) (a.lists.same i c in_ caller))

pub all_rising : (m : Mesh) → Agrees m → HasOwners m → AllRising m 1 m.histories
all_rising m a own = rising_from m 1 m.histories (λ i l.
    let in_ : i < m.nodes = omega (arith, l, a.histories) in
    let next : i + 1 ≡ 1 + i = omega arith in
    subst (λ (x : ℕ). Rising (tags_of m x fresh_cell [] (history_at m i))) next
    (tags_rise m i (history_at m i) in_ refl own (fits m a i in_) [] (history_at m i) fresh_cell refl (a.lists.local i in_)))
