-- A node's history, line by line: where each caller stands in its record, and what is ranked so
-- far.
use Rattle.std.proofs.Common.{◌≡◌, ℕ, zero, suc, ◌+◌, ◌<◌, ◌≤◌, ◌==◌, List, [], ◌∷◌, ◌++◌, Bool, true, false, cond, map, length, refl, sym, ap, ◌∙◌}
use Rattle.std.proofs.Common.{subst, arith, get_or, set, take, drop, filter, replicate, append_assoc, Option, Some, None, ◌⊎◌, inl, inr}
use Rattle.std.specs.Prelude.{◌≢◌, slice_get}
use Rattle.std.specs.BTreeSet.{contains}
use Rattle.std.specs.Ordering.{nat_cmp}
use Rattle.std.proofs.lemmas.Bool.{cases_Bool}
use Rattle.std.proofs.lemmas.List.{map-append, get_or_default, take_more, drop_more, drop_all, take-append-drop, get_or-set_same, get_or-set_other}
use Rattle.std.proofs.lemmas.List.{get_or-replicate, length-replicate, length-set, append-nil}
use Rattle.journal_core.specs.declared.request.Request.{Request}
use Rattle.journal_history.specs.declared.node_ask.NodeAsk.TheVariants.{Act}
use Rattle.journal_history.specs.declared.node_ask.NodeAnswer.{NodeAnswer}
use Rattle.journal_history.specs.declared.node_ask.NodeAnswer.TheVariants.{Replied, Stopped, Done, Idle, NotOpened}
use Rattle.run_safety.specs.declared.event.Event.{Event}
use Rattle.journal_history.specs.declared.history_line.HistoryLine.{HistoryLine}
use Rattle.journal_history.specs.Cell.{Cell, fresh_cell, cell_takes, cell_after, IsLocalRun}
use Rattle.journal_history.specs.Entries.{Move, Answer, Stop, Kill, Restart, Entry}
use Rattle.journal_history.specs.Moving.{Placed, epoch_of, moves, way_of, move_of, falls, entry_of}
use Rattle.journal_history.proofs.Raised.{CellRaised, cell_raised}
use Rattle.mesh.specs.declared.whole.Mesh.{Mesh}
use Rattle.mesh.specs.Matches.{reached, lines_of, CallersWithin}
use Rattle.mesh.specs.Agree.{Agrees, operator_of, history_at, record_of}
use Rattle.mesh.specs.Owners.{wins, owns}
use Rattle.mesh.specs.Order.{Key, Block, Tagged, is_muted, line_of_caller, place_of, owners_place, key_of, tag_first, tags_of, block_of, with_fall, blocks_cut, front_block, blocks_at}
use Rattle.mesh.proofs.Lists.{Alike, alike}
use Rattle.mesh.proofs.Keys.{count_of, count_append, count_self, fits}
use Rattle.mesh.proofs.Matching.{entry_moves}
use Rattle.mesh.proofs.Tied.{cell_snoc}
use Rattle.mesh_judge.specs.declared.caller.Caller.{Caller}
use Rattle.mesh_judge.specs.declared.moved.Moved.{Moved}
use Rattle.mesh_judge.specs.declared.ranking.Rank.{Rank}
use Rattle.mesh_judge.specs.declared.ranking.Ranked.{Ranked}
use Rattle.mesh_judge.specs.declared.reached.Reach.{Reach}
use Rattle.mesh_judge.specs.Callers.{KnowsAll}
use Rattle.mesh_judge.specs.Events.{event_of, epoch_moved, moved_by}
use Rattle.mesh_judge.specs.Ranks.{rank_of, by_key, rank_entry, ranked_in}
use Rattle.mesh_judge.specs.Reaches.{places}
use Rattle.mesh_judge.proofs.ReachLaws.{places_length, place_at, taken_length}

-- ## Ranks along the tags of a history
abbrev pub rank_by : Bool → Rank → Key → Rank
rank_by true last key = last
rank_by false last key = by_key key

abbrev rank_at : ℕ → ℕ → Rank
rank_at promise place = record { promise = promise; place = place }

abbrev pub event_ranked : Rank → Event → Ranked
event_ranked rank event = record { rank = rank; event = event }

unfoldable pub ranks_from : Rank → List Tagged → List Ranked
ranks_from last [] = []
ranks_from last (t ∷ ts) = rank_entry (rank_by (falls t.entry.move) last t.key) t.entry ∷ ranks_from (rank_by (falls t.entry.move) last t.key) ts

cut_ranked : (b : Block) (ts : List Tagged) → ranked_in (blocks_cut b ts) ≡ map (rank_entry (by_key b.key)) b.entries ++ ranks_from (by_key b.key) ts
unfolding blocks_cut ranked_in ranks_from
cut_ranked b [] = refl
cut_ranked b (t ∷ ts) = by (falls t.entry.move) (cut_ranked (with_fall b t.entry) ts) (cut_ranked (block_of b.node t) ts)
  where
    by : (f : Bool) → ranked_in (blocks_cut (with_fall b t.entry) ts) ≡ map (rank_entry (by_key b.key)) (b.entries ++ t.entry ∷ []) ++ ranks_from (by_key b.key) ts
        → ranked_in (blocks_cut (block_of b.node t) ts) ≡ rank_entry (by_key t.key) t.entry ∷ ranks_from (by_key t.key) ts
        → ranked_in (cond f (blocks_cut (with_fall b t.entry) ts) (b ∷ blocks_cut (block_of b.node t) ts))
        ≡ map (rank_entry (by_key b.key)) b.entries ++ rank_entry (rank_by f (by_key b.key) t.key) t.entry ∷ ranks_from (rank_by f (by_key b.key) t.key) ts
    by true h g =
        h ∙ ap (λ (l : List Ranked). l ++ ranks_from (by_key b.key) ts) (map-append (rank_entry (by_key b.key)) b.entries (t.entry ∷ []))
        ∙ append_assoc (map (rank_entry (by_key b.key)) b.entries) (rank_entry (by_key b.key) t.entry ∷ []) (ranks_from (by_key b.key) ts)
    by false h g = ap (λ (l : List Ranked). map (rank_entry (by_key b.key)) b.entries ++ l) g

abbrev pub first_rank : Rank
first_rank = record { promise = 0; place = 0 }

pub history_ranked : (m : Mesh) (i : ℕ) → ranked_in (blocks_at m (i + 1) (history_at m i)) ≡ ranks_from first_rank (tags_of m (i + 1) fresh_cell [] (history_at m i))
history_ranked m i = cut_ranked (front_block (i + 1)) (tags_of m (i + 1) fresh_cell [] (history_at m i))

-- ## The epoch of a move
fall_epoch : (v : Move) → falls v ≡ true → epoch_moved v ≡ None
fall_epoch (Answer caller way r reply) e = absurd (cc e)
fall_epoch (Stop caller late r zero) e = refl
fall_epoch (Stop caller late r (suc kept)) e = absurd (cc e)
fall_epoch Kill e = refl
fall_epoch Restart e = refl

move_epoch : (caller : ℕ) (muted late : Bool) (r : Request) (a : NodeAnswer) (v : Move) → move_of caller muted (Act late r) a ≡ Some v → falls v ≡ false → epoch_moved v ≡ epoch_of r
unfolding move_of
move_epoch caller muted late r (Replied x) v e off = by (moves r x) e
  where
    by : (b : Bool) → cond b (Some (Answer caller (way_of late muted) r x)) None ≡ Some v → epoch_moved v ≡ epoch_of r
    by true f = let same : Answer caller (way_of late muted) r x ≡ v = cc f in ap epoch_moved (sym same)
    by false f = absurd (cc f)
move_epoch caller muted late r (Stopped zero) v e off = let same : Stop caller late r zero ≡ v = cc e in absurd (cc (ap falls same, off))
move_epoch caller muted late r (Stopped (suc kept)) v e off = let same : Stop caller late r (suc kept) ≡ v = cc e in ap epoch_moved (sym same)
move_epoch caller muted late r Done v e off = absurd (cc e)
move_epoch caller muted late r Idle v e off = absurd (cc e)
move_epoch caller muted late r (NotOpened fail) v e off = absurd (cc e)

-- ## One line
-- a line of the node i + 1, after these, with what is known of its caller and of its place in the
-- caller's record
module _ (m : Mesh) (i : ℕ) (before : List HistoryLine) (h : HistoryLine) (cell : Cell) (c : Caller) (place : ℕ) (last : Rank)
    (run : h.answer ≡ (cell_takes cell h.ask).answer)
    (owned : (epoch : ℕ) → contains nat_cmp c.won epoch ≡ wins m.nodes epoch 0 (record_of m h.caller))
    (stands : place ≡ place_of (i + 1) (length (lines_of h.caller before)) 1 (record_of m h.caller))
  where
    abbrev muted : Bool
    muted = is_muted (line_of_caller m (i + 1) before h)

    abbrev placed : Placed
    placed = record { node = i + 1; line = h; muted = muted }

    abbrev key : Key
    key = key_of m (i + 1) (cell_takes cell h.ask).cell.state.promised before h

    line_rank : (e : Entry) → entry_of placed ≡ Some e → rank_of c (epoch_moved e.move) place last ≡ rank_by (falls e.move) last key
    unfolding key_of owns
    line_rank e is = by (cases_Bool (falls e.move))
      where
        by : (falls e.move ≡ true) ⊎ (falls e.move ≡ false) → rank_of c (epoch_moved e.move) place last ≡ rank_by (falls e.move) last key
        by (inl t) = ap (λ o. rank_of c o place last) (fall_epoch e.move t) ∙ sym (ap (λ b. rank_by b last key) t)
        by (inr f) =
            let mv = (entry_moves (i + 1) h muted e is).0 in
            let w : CellRaised cell h.ask = cell_raised cell h.ask h.caller muted e.move (ap (move_of h.caller muted h.ask) (sym run) ∙ mv) f in
            let ep : epoch_moved e.move ≡ Some w.raised.epoch =
            move_epoch h.caller muted w.late w.request h.answer e.move (ap (λ a. move_of h.caller muted a h.answer) (sym w.asks) ∙ mv) f ∙ w.raised.of in
            ap (λ o. rank_of c o place last) ep
            ∙ ap (λ b. rank_at w.raised.epoch (owners_place b place)) (owned w.raised.epoch)
            ∙ ap (λ p. rank_at w.raised.epoch (owners_place (wins m.nodes w.raised.epoch 0 (record_of m h.caller)) p)) stands
            ∙ ap (λ z. by_key (key_of m (i + 1) z before h)) (sym w.raised.is) ∙ sym (ap (λ b. rank_by b last key) f)

    pub line_still : (rest : List HistoryLine) → moved_by (entry_of placed) ≡ None
        → ranks_from last (tags_of m (i + 1) cell before (h ∷ rest)) ≡ ranks_from last (tags_of m (i + 1) (cell_takes cell h.ask).cell (before ++ h ∷ []) rest)
    unfolding tags_of
    line_still rest e = by (entry_of placed) e
      where
        by : (o : Option Entry) → moved_by o ≡ None
            → ranks_from last (tag_first o key (tags_of m (i + 1) (cell_takes cell h.ask).cell (before ++ h ∷ []) rest)) ≡ ranks_from last
            (tags_of m (i + 1) (cell_takes cell h.ask).cell (before ++ h ∷ []) rest)
        by None f = refl
        by (Some x) f = absurd (cc f)

    pub line_moves : (rest : List HistoryLine) (mv : Moved) → moved_by (entry_of placed) ≡ Some mv
        → ranks_from last (tags_of m (i + 1) cell before (h ∷ rest))
        ≡ event_ranked (rank_of c mv.epoch place last) mv.event ∷ ranks_from (rank_of c mv.epoch place last) (tags_of m (i + 1) (cell_takes cell h.ask).cell (before ++ h ∷ []) rest)
    unfolding tags_of ranks_from
    line_moves rest mv e = by (entry_of placed) refl e
      where
        later : List Tagged
        later = tags_of m (i + 1) (cell_takes cell h.ask).cell (before ++ h ∷ []) rest

        by : (o : Option Entry) → entry_of placed ≡ o → moved_by o ≡ Some mv
            → ranks_from last (tag_first o key later) ≡ event_ranked (rank_of c mv.epoch place last) mv.event ∷ ranks_from (rank_of c mv.epoch place last) later
        by None is f = absurd (cc f)
        by (Some x) is f =
            let same : record { event = event_of x; epoch = epoch_moved x.move } ≡ mv = cc f in
            ap (λ r. rank_entry r x ∷ ranks_from r later) (sym (line_rank x is))
            ∙ ap (λ (w : Moved). event_ranked (rank_of c w.epoch place last) w.event ∷ ranks_from (rank_of c w.epoch place last) later) same

-- ## Where a line stands
local_at : (c : Cell) (hs : List HistoryLine) (k : ℕ) (d : HistoryLine) → IsLocalRun c hs → k < length hs → (get_or hs k d).answer ≡ (cell_takes (cell_after c (take k hs)) (get_or hs k d).ask).answer
unfolding IsLocalRun cell_after
local_at c [] k d run l = absurd (omega (arith, l))
local_at c (h ∷ hs) zero d run l = run.0
local_at c (h ∷ hs) (suc k) d run l = local_at (cell_takes c h.ask).cell hs k d run.1 (omega (arith, l))

within_at : (n : ℕ) (hs : List HistoryLine) (k : ℕ) (d : HistoryLine) → CallersWithin n hs → k < length hs → (get_or hs k d).caller ≤ n
unfolding CallersWithin
within_at n [] k d w l = absurd (omega (arith, l))
within_at n (h ∷ hs) zero d w l = w.0
within_at n (h ∷ hs) (suc k) d w l = within_at n hs k d w.1 (omega (arith, l))

count_le : (c : ℕ) (hs : List HistoryLine) → count_of c hs ≤ length hs
unfolding count_of lines_of
count_le c [] = omega arith
count_le c (h ∷ hs) = by (h.caller == c) (count_le c hs)
  where
    by : (b : Bool) → length (filter (λ (x : HistoryLine). x.caller == c) hs) ≤ length hs
        → length (cond b (h ∷ filter (λ (x : HistoryLine). x.caller == c) hs) (filter (λ (x : HistoryLine). x.caller == c) hs)) ≤ suc (length hs)
    by true l = omega (arith, l)
    by false l = omega (arith, l)

count_other : (c : ℕ) (h : HistoryLine) → h.caller ≢ c → count_of c (h ∷ []) ≡ 0
unfolding count_of lines_of Alike
count_other c h off = by (alike h.caller c)
  where
    by : Alike h.caller c → length (cond (h.caller == c) (h ∷ []) []) ≡ 0
    by (inl e) = absurd (off e.1)
    by (inr e) = rw e.0 refl

count_nothing : (c : ℕ) → count_of c [] ≡ 0
unfolding count_of lines_of
count_nothing c = refl

-- the line h of the node i + 1 stands at k
module _ (m : Mesh) (cs : List Caller) (i k : ℕ) (h : HistoryLine) (a : Agrees m) (known : KnowsAll m cs) (in_ : i < m.nodes)
    (l : k < length (history_at m i)) (is : h ≡ get_or (history_at m i) k h) where
  abbrev past : List HistoryLine
  past = take k (history_at m i)

  pub caller_known : h.caller < length cs
  caller_known = omega (arith, within_at (operator_of m) (history_at m i) k h (a.lists.callers i in_) l, ap (λ (x : HistoryLine). x.caller) is, known.all_known, a.records)

  pub line_reached : count_of h.caller past < length (reached (i + 1) (record_of m h.caller))
  line_reached =
      let whole : past ++ h ∷ drop (k + 1) (history_at m i) ≡ history_at m i =
      ap (λ x. past ++ x ∷ drop (k + 1) (history_at m i)) is ∙ ap (λ x. past ++ x) (sym (drop_more (history_at m i) k h l)) ∙ take-append-drop k (history_at m i) in
      let total : count_of h.caller (history_at m i) ≡ count_of h.caller past + suc (count_of h.caller (drop (k + 1) (history_at m i))) =
      ap (count_of h.caller) (sym whole) ∙ count_append h.caller past (h ∷ drop (k + 1) (history_at m i)) ∙ ap (λ x. count_of h.caller past + x) (count_self h (drop (k + 1) (history_at m i))) in
      fits m a i in_ h.caller (count_of h.caller past) (omega (arith, total))

  pub count_small : count_of h.caller past ≤ k
  count_small = omega (arith, count_le h.caller past, taken_length k (history_at m i) (omega (arith, l)))

-- the lines that are read are the node's
pub lines_are : (m : Mesh) (i : ℕ) (tables : List (List HistoryLine)) (d lines : List HistoryLine) → i < m.nodes → length m.histories ≡ m.nodes
    → tables ≡ m.histories → d ≡ get_or tables i d → lines ≡ d → lines ≡ history_at m i
lines_are m i tables d lines in_ size whole at is = is ∙ at ∙ ap (λ (t : List (List HistoryLine)). get_or t i d) whole ∙ get_or_default m.histories i d [] (omega (arith, in_, size))

-- ## All lines
-- so many lines of the node i + 1 are taken
pub record Walked (m : Mesh) (cs : List Caller) (i : ℕ) (old out : List Ranked) (taken : List ℕ) (last : Rank) (k : ℕ) : Type 0 where
  pub size : length taken ≡ length cs
  pub counts : (c : ℕ) → c < length cs → get_or taken c 0 ≡ count_of c (take k (history_at m i))
  pub going :
      out ++ ranks_from last (tags_of m (i + 1) (cell_after fresh_cell (take k (history_at m i))) (take k (history_at m i)) (drop k (history_at m i)))
      ≡ old ++ ranks_from first_rank (tags_of m (i + 1) fresh_cell [] (history_at m i))

pub walk_begins : (m : Mesh) (cs : List Caller) (i : ℕ) (old : List Ranked) (taken : List ℕ) → taken ≡ replicate (length cs) 0 → Walked m cs i old old taken first_rank 0
unfolding cell_after
walk_begins m cs i old taken is = record {
  size = ap length is ∙ length-replicate (length cs) 0;
  counts = λ c less. ap (λ (t : List ℕ). get_or t c 0) is ∙ get_or-replicate (length cs) c 0 0 less ∙ sym (count_nothing c);
  going = refl;
}

pub walk_ends : (m : Mesh) (cs : List Caller) (i k : ℕ) (old out : List Ranked) (taken : List ℕ) (last : Rank) → Walked m cs i old out taken last k → length (history_at m i) ≤ k
    → out ≡ old ++ ranked_in (blocks_at m (i + 1) (history_at m i))
unfolding tags_of ranks_from
walk_ends m cs i k old out taken last w l =
    let cell : Cell = cell_after fresh_cell (take k (history_at m i)) in
    sym (append-nil out) ∙ ap (λ (hs : List HistoryLine). out ++ ranks_from last (tags_of m (i + 1) cell (take k (history_at m i)) hs)) (sym (drop_all k (history_at m i) l))
    ∙ w.going ∙ ap (λ (x : List Ranked). old ++ x) (sym (history_ranked m i))

-- one more line
module _ (m : Mesh) (cs : List Caller) (i k : ℕ) (h : HistoryLine) (a : Agrees m) (known : KnowsAll m cs) (in_ : i < m.nodes) (l : k < length (history_at m i)) (is : h ≡ get_or (history_at m i) k h)
    (old out : List Ranked) (taken : List ℕ) (last : Rank) (w : Walked m cs i old out taken last k) (c : Caller) (there : c ≡ get_or cs h.caller c)
    (number : ℕ) (numbered : number ≡ get_or taken h.caller 0)
  where
    abbrev all : List HistoryLine
    all = history_at m i

    abbrev cell : Cell
    cell = cell_after fresh_cell (take k all)

    counted : number ≡ count_of h.caller (take k all)
    counted = numbered ∙ w.counts h.caller (caller_known m cs i k h a known in_ l is)

    next : take (k + 1) all ≡ take k all ++ h ∷ []
    next = take_more all k h l ∙ ap (λ x. take k all ++ x ∷ []) (sym is)

    more : drop k all ≡ h ∷ drop (k + 1) all
    more = drop_more all k h l ∙ ap (λ x. x ∷ drop (k + 1) all) (sym is)

    run : h.answer ≡ (cell_takes cell h.ask).answer
    run = subst (λ (x : HistoryLine). x.answer ≡ (cell_takes cell x.ask).answer) (sym is) (local_at fresh_cell all k h (a.lists.local i in_) l)

    moved_cell : cell_after fresh_cell (take (k + 1) all) ≡ (cell_takes cell h.ask).cell
    moved_cell = ap (cell_after fresh_cell) next ∙ cell_snoc fresh_cell (take k all) h

    in_records : h.caller < length m.records
    in_records = omega (arith, caller_known m cs i k h a known in_ l is, known.all_known)

    owned : (epoch : ℕ) → contains nat_cmp c.won epoch ≡ wins m.nodes epoch 0 (record_of m h.caller)
    owned epoch = ap (λ (x : Caller). contains nat_cmp x.won epoch) there ∙ (known.each h.caller c in_records).owned epoch

    pub nodes_reached : length c.reached.items ≡ m.nodes
    nodes_reached = ap (λ (x : Caller). length x.reached.items) there ∙ (known.each h.caller c in_records).nodes_known

    listed : get_or c.reached.items i [] ≡ places (i + 1) 1 (record_of m h.caller)
    listed = ap (λ (x : Caller). get_or x.reached.items i []) there ∙ (known.each h.caller c in_records).reaching i in_

    pub number_reached : number < length (get_or c.reached.items i [])
    number_reached = omega (arith, counted, line_reached m cs i k h a known in_ l is, ap length listed, places_length (i + 1) 1 (record_of m h.caller))

    pub number_small : number ≤ k
    number_small = omega (arith, counted, count_small m cs i k h a known in_ l is)

    -- the line in its caller's record
    line_there : (x : Reach) → ((d : Reach) → x ≡ get_or (get_or c.reached.items i []) number d)
        → (x.place ≡ place_of (i + 1) (length (lines_of h.caller (take k all))) 1 (record_of m h.caller)) × (x.is_muted ≡ is_muted (line_of_caller m (i + 1) (take k all) h))
    unfolding count_of
    line_there x e =
        let f : x ≡ record { place = place_of (i + 1) number 1 (record_of m h.caller); is_muted = is_muted (slice_get (reached (i + 1) (record_of m h.caller)) number) } =
        e x ∙ ap (λ (ys : List Reach). get_or ys number x) listed
        ∙ place_at (i + 1) number 1 (record_of m h.caller) x (omega (arith, counted, line_reached m cs i k h a known in_ l is)) in (
          ap (λ (y : Reach). y.place) f ∙ ap (λ n. place_of (i + 1) n 1 (record_of m h.caller)) counted,
          ap (λ (y : Reach). y.is_muted) f ∙ ap (λ n. is_muted (slice_get (reached (i + 1) (record_of m h.caller)) n)) counted,
        )

    more_counted : (d : ℕ) → d < length cs → get_or (set taken h.caller (number + 1)) d 0 ≡ count_of d (take (k + 1) all)
    unfolding Alike
    more_counted d less = by (alike d h.caller)
      where
        one : count_of d (take (k + 1) all) ≡ count_of d (take k all) + count_of d (h ∷ [])
        one = ap (count_of d) next ∙ count_append d (take k all) (h ∷ [])

        by : Alike d h.caller → get_or (set taken h.caller (number + 1)) d 0 ≡ count_of d (take (k + 1) all)
        by (inl e) =
            let self : count_of h.caller (h ∷ []) ≡ suc (count_of h.caller []) = count_self h [] in
            let here : get_or (set taken h.caller (number + 1)) h.caller 0 ≡ number + 1 = get_or-set_same taken h.caller (number + 1) 0 (omega (arith, w.size, e.1, less)) in
            let sum : number + 1 ≡ count_of h.caller (take k all) + count_of h.caller (h ∷ []) = omega (arith, counted, self, count_nothing h.caller) in
            ap (λ n. get_or (set taken h.caller (number + 1)) n 0) e.1 ∙ here ∙ sum ∙ sym (ap (λ n. count_of n (take k all) + count_of n (h ∷ [])) e.1) ∙ sym one
        by (inr e) =
            let zero_more : count_of d (h ∷ []) ≡ 0 = count_other d h (λ f. e.1 (sym f)) in
            let sum : count_of d (take k all) ≡ count_of d (take k all) + count_of d (h ∷ []) = omega (arith, zero_more) in
            get_or-set_other taken h.caller d (number + 1) 0 e.1 ∙ w.counts d less ∙ sum ∙ sym one

    abbrev tags_on : List Tagged
    tags_on = tags_of m (i + 1) (cell_takes cell h.ask).cell (take k all ++ h ∷ []) (drop (k + 1) all)

    tags_next : tags_of m (i + 1) (cell_after fresh_cell (take (k + 1) all)) (take (k + 1) all) (drop (k + 1) all) ≡ tags_on
    tags_next =
        ap (λ (x : Cell). tags_of m (i + 1) x (take (k + 1) all) (drop (k + 1) all)) moved_cell
        ∙ ap (λ (x : List HistoryLine). tags_of m (i + 1) (cell_takes cell h.ask).cell x (drop (k + 1) all)) next

    tags_now : tags_of m (i + 1) cell (take k all) (drop k all) ≡ tags_of m (i + 1) cell (take k all) (h ∷ drop (k + 1) all)
    tags_now = ap (λ (x : List HistoryLine). tags_of m (i + 1) cell (take k all) x) more

    pub walk_stays : (x : Reach) → ((d : Reach) → x ≡ get_or (get_or c.reached.items i []) number d) → None ≡ moved_by (entry_of (record { node = i + 1; line = h; muted = x.is_muted }))
        → Walked m cs i old out (set taken h.caller (number + 1)) last (k + 1)
    walk_stays x e still =
        let t = line_there x e in
        let f : moved_by (entry_of (record { node = i + 1; line = h; muted = is_muted (line_of_caller m (i + 1) (take k all) h) })) ≡ None =
        sym (still ∙ ap (λ b. moved_by (entry_of (record { node = i + 1; line = h; muted = b }))) t.1) in
        record {
          size = length-set taken h.caller (number + 1) ∙ w.size;
          counts = more_counted;
          going =
              ap (λ (ts : List Tagged). out ++ ranks_from last ts) tags_next
              ∙ ap (λ (rs : List Ranked). out ++ rs) (sym (line_still m i (take k all) h cell c x.place last run owned t.0 (drop (k + 1) all) f))
              ∙ ap (λ (ts : List Tagged). out ++ ranks_from last ts) (sym tags_now) ∙ w.going;
        }

    pub walk_moves : (x : Reach) (mv : Moved) (rank : Rank) (new : List Ranked) → ((d : Reach) → x ≡ get_or (get_or c.reached.items i []) number d)
        → Some mv ≡ moved_by (entry_of (record { node = i + 1; line = h; muted = x.is_muted })) → rank ≡ rank_of c mv.epoch x.place last → new ≡ out ++ event_ranked rank mv.event ∷ []
        → Walked m cs i old new (set taken h.caller (number + 1)) rank (k + 1)
    walk_moves x mv rank new e told ranks grown =
        let t = line_there x e in
        let f : moved_by (entry_of (record { node = i + 1; line = h; muted = is_muted (line_of_caller m (i + 1) (take k all) h) })) ≡ Some mv =
        sym (told ∙ ap (λ b. moved_by (entry_of (record { node = i + 1; line = h; muted = b }))) t.1) in
        record {
          size = length-set taken h.caller (number + 1) ∙ w.size;
          counts = more_counted;
          going =
              ap (λ (ts : List Tagged). new ++ ranks_from rank ts) tags_next
              ∙ ap (λ (rs : List Ranked). rs ++ ranks_from rank tags_on) grown
              ∙ append_assoc out (event_ranked rank mv.event ∷ []) (ranks_from rank tags_on)
              ∙ ap (λ (r : Rank). out ++ event_ranked r mv.event ∷ ranks_from r tags_on) ranks
              ∙ ap (λ (rs : List Ranked). out ++ rs) (sym (line_moves m i (take k all) h cell c x.place last run owned t.0 (drop (k + 1) all) mv f))
              ∙ ap (λ (ts : List Tagged). out ++ ranks_from last ts) (sym tags_now) ∙ w.going;
        }
