-- Whatever a read gave is the line's: the node stood as some front of the order leaves it, and what
-- a node serves there is on the line.
use Rattle.std.proofs.Common.{◌≡◌, ℕ, zero, suc, ◌+◌, ◌-◌, ◌<◌, ◌≤◌, List, [], ◌∷◌, ◌++◌, length, reverse, take, drop, filter, Option, Some, None}
use Rattle.std.proofs.Common.{Bool, true, false, cond, Contains, refl, sym, ap, ◌∙◌, subst, arith, append_assoc, ◌⊎◌, inl, inr, ◌==◌}
use Rattle.std.specs.Prelude.{slice_get, filter_map, nat_lt, nat_le, ◌&&◌}
use Rattle.std.proofs.lemmas.Bool.Decides.{nat_tests}
use Rattle.std.specs.List.{cons_option}
use Rattle.std.proofs.lemmas.List.{reverse-append, append-nil}
use Rattle.journal_core.specs.Views.{BatchView}
use Rattle.journal_core.specs.Segments.{find_segment}
use Rattle.journal_core.specs.Reads.{served, or_else, serving, answer_from, edits_from}
use Rattle.journal_core.specs.Step.{node_step}
use Rattle.journal_core.specs.declared.segment.Segment.{Segment}
use Rattle.journal_core.specs.declared.node_state.NodeState.{NodeState}
use Rattle.journal_core.specs.declared.request.Request.{Request}
use Rattle.journal_core.specs.declared.request.Request.TheVariants.{Read}
use Rattle.journal_core.specs.declared.reply.Reply.{Reply}
use Rattle.journal_core.specs.declared.reply.Reply.TheVariants.{Edits}
use Rattle.journal_history.specs.declared.node_ask.NodeAsk.{NodeAsk}
use Rattle.journal_history.specs.declared.node_ask.NodeAsk.TheVariants.{Act}
use Rattle.journal_history.specs.declared.node_ask.NodeAnswer.{NodeAnswer}
use Rattle.journal_history.specs.declared.node_ask.NodeAnswer.TheVariants.{Replied}
use Rattle.journal_history.specs.declared.history_line.HistoryLine.{HistoryLine}
use Rattle.journal_history.specs.declared.record.Record.{Record}
use Rattle.journal_history.specs.declared.record.Record.TheVariants.{Call}
use Rattle.journal_history.specs.declared.record.Told.TheVariants as told
use Rattle.journal_history.specs.declared.arming.Arming.{Arming}
use Rattle.journal_history.specs.Cell.{Cell, fresh_cell, cell_takes, take_request, count_request, replies, stops, kept_by, IsLocalRun, cell_after}
use Rattle.journal_history.specs.Entries.{Entry, Move, after_move, node_after, Earlier}
use Rattle.journal_history.specs.Moving.{Placed, move_of, entry_at, entry_of, moving_of}
use Rattle.journal_history.specs.CellLaws.{IsMoved}
use Rattle.run_safety.specs.Run.{Story, Follows}
use Rattle.run_safety.specs.Safe.{IsOnLine}
use Rattle.journal_history.proofs.CellLaws.{stays, moving}
use Rattle.run_safety.proofs.Along.{node_here}
use Rattle.journal_core.proofs.Changes.{In as InSegments, find-in}
use Rattle.run_safety.proofs.SoundNodes.{stored_after}
use Rattle.run_safety.proofs.Places.{Follows-earlier, Earlier-append}
use Rattle.run_safety.proofs.Safety.{line_later}
use Rattle.run_safety.proofs.Served.{served_on_line}
use Rattle.journal_core.proofs.Steps.{Acted, at_once, by_row, done, acted}
use Rattle.mesh.specs.declared.whole.Mesh.{Mesh}
use Rattle.mesh.specs.Agree.{record_of, history_at}
use Rattle.mesh.specs.Matches.{reaches, reached, lines_of, IsSame, IsWithin, AreWithin}
use Rattle.mesh.specs.Order.{is_muted, line_of_caller, placed_from, placed_at, entries_at}
use Rattle.ns_edits.proofs.Splits.{some_is, none≢some}
use Rattle.mesh.proofs.Lists.{contains_none, contains_cases, contains_head, contains_tail}
use Rattle.mesh.proofs.Shared.{In}
use Rattle.mesh.proofs.OneOwner.{same_line}
use Rattle.play_model.specs.Safe.{AllOn}
use Rattle.play_laws.specs.Linear.{OnLine, ReadsAreOnLine}

-- ## Fronts of an order
-- an order that has some entries first at a node has a front with just these there
pub record Front (node : ℕ) (entries xs : List Entry) : Type 0 where
  pub front : List Entry
  pub rest : List Entry
  pub whole : entries ≡ front ++ rest
  pub there : entries_at node front ≡ xs

pub front_of : (node : ℕ) (entries xs ys : List Entry) → entries_at node entries ≡ xs ++ ys → Front node entries xs
front_of node entries [] ys e = record { front = []; rest = entries; whole = refl; there = refl }
front_of node [] (x ∷ xs) ys e = absurd (cc e)
front_of node (z ∷ zs) (x ∷ xs) ys e = by (z.node == node) refl e (λ h. front_of node zs xs ys h) (λ h. front_of node zs (x ∷ xs) ys h)
  where
    tail_is : (a b : Entry) (as_ bs : List Entry) → a ∷ as_ ≡ b ∷ bs → as_ ≡ bs
    tail_is a b as_ bs e = ap (λ (l : List Entry). drop 1 l) e

    head_is : (a b : Entry) (as_ bs : List Entry) → a ∷ as_ ≡ b ∷ bs → a ≡ b
    head_is a b as_ bs e = cc e

    by : (t : Bool) → (z.node == node) ≡ t → cond t (z ∷ entries_at node zs) (entries_at node zs) ≡ (x ∷ xs) ++ ys
        → (entries_at node zs ≡ xs ++ ys → Front node zs xs) → (entries_at node zs ≡ (x ∷ xs) ++ ys → Front node zs (x ∷ xs)) → Front node (z ∷ zs) (x ∷ xs)
    by true is e here later =
        let f : Front node zs xs = here (tail_is z x (entries_at node zs) (xs ++ ys) e) in
        record {
          front = z ∷ f.front;
          rest = f.rest;
          whole = ap (λ (l : List Entry). z ∷ l) f.whole;
          there = rw is (ap (λ (l : List Entry). z ∷ l) f.there ∙ ap (λ (w : Entry). w ∷ xs) (head_is z x (entries_at node zs) (xs ++ ys) e));
        }
    by false is e here later =
        let f : Front node zs (x ∷ xs) = later e in
        record { front = z ∷ f.front; rest = f.rest; whole = ap (λ (l : List Entry). z ∷ l) f.whole; there = rw is f.there }

-- a node's state is that of its own entries
pub node_only : (node : ℕ) (past : List Entry) → node_after node past ≡ node_after node (entries_at node past)
unfolding node_after
node_only node [] = refl
node_only node (e ∷ past) = by (e.node == node) refl (node_only node past)
  where
    by : (b : Bool) → (e.node == node) ≡ b → node_after node past ≡ node_after node (entries_at node past)
        → cond b (after_move (node_after node past) e.move) (node_after node past) ≡ node_after node (cond b (e ∷ entries_at node past) (entries_at node past))
    by true is h = rw is (ap (λ (s : NodeState). after_move s e.move) h)
    by false is h = h

filter_append : (test : Entry → Bool) (xs ys : List Entry) → filter test (xs ++ ys) ≡ filter test xs ++ filter test ys
filter_append test [] ys = refl
filter_append test (x ∷ xs) ys = by (test x) (filter_append test xs ys)
  where
    by : (b : Bool) → filter test (xs ++ ys) ≡ filter test xs ++ filter test ys
        → cond b (x ∷ filter test (xs ++ ys)) (filter test (xs ++ ys)) ≡ cond b (x ∷ filter test xs) (filter test xs) ++ filter test ys
    by true h = ap (λ (l : List Entry). x ∷ l) h
    by false h = h

-- ## A node along its history
moving_append : (xs ys : List Placed) → moving_of (xs ++ ys) ≡ moving_of xs ++ moving_of ys
unfolding moving_of
moving_append [] ys = refl
moving_append (x ∷ xs) ys = by (entry_of x) (unfold moving_of in moving_append xs ys)
  where
    by : (o : Option Entry) → filter_map entry_of (xs ++ ys) ≡ filter_map entry_of xs ++ filter_map entry_of ys
        → cons_option o (filter_map entry_of (xs ++ ys)) ≡ cons_option o (filter_map entry_of xs) ++ filter_map entry_of ys
    by None h = h
    by (Some e) h = ap (λ (l : List Entry). e ∷ l) h

placed_append : (m : Mesh) (node : ℕ) (before xs ys : List HistoryLine) → placed_from m node before (xs ++ ys) ≡ placed_from m node before xs ++ placed_from m node (before ++ xs) ys
unfolding placed_from
placed_append m node before [] ys = ap (λ (l : List HistoryLine). placed_from m node l ys) (sym (append-nil before))
placed_append m node before (x ∷ xs) ys =
    ap (λ (l : List Placed). record { node = node; line = x; muted = is_muted (line_of_caller m node before x) } ∷ l)
    (placed_append m node (before ++ x ∷ []) xs ys
    ∙ ap (λ (l : List HistoryLine). placed_from m node (before ++ x ∷ []) xs ++ placed_from m node l ys) (append_assoc before (x ∷ []) xs))

reversed_first : (e : Entry) (xs past : List Entry) → reverse xs ++ (e ∷ past) ≡ reverse (e ∷ xs) ++ past
reversed_first e xs past =
    sym (ap (λ (l : List Entry). l ++ past) (reverse-append (e ∷ []) xs) ∙ append_assoc (reverse xs) (e ∷ []) past)

-- the state that a history leaves is that of its moving entries, after those before
pub history_state : (m : Mesh) (node : ℕ) (before hs : List HistoryLine) (c : Cell) (past : List Entry) → c.state ≡ node_after node past → IsLocalRun c hs
    → (cell_after c hs).state ≡ node_after node (reverse (moving_of (placed_from m node before hs)) ++ past)
unfolding cell_after placed_from IsLocalRun moving_of entry_of
history_state m node before [] c past is run = is
history_state m node before (h ∷ hs) c past is run = by (λ more e. history_state m node (before ++ h ∷ []) hs (cell_takes c h.ask).cell more e run.1) (move_of h.caller muted h.ask h.answer) refl
  where
    muted : Bool
    muted = is_muted (line_of_caller m node before h)

    x : Placed
    x = record { node = node; line = h; muted = muted }

    next : Cell
    next = (cell_takes c h.ask).cell

    rest : List Entry
    rest = filter_map entry_of (placed_from m node (before ++ h ∷ []) hs)

    Goes : Type 0
    Goes = (more : List Entry) → next.state ≡ node_after node more → (cell_after next hs).state ≡ node_after node (reverse rest ++ more)

    entry_is : (o : Option Move) → move_of h.caller muted h.ask h.answer ≡ o → entry_of x ≡ entry_at node o
    entry_is o e = ap (entry_at node) e

    told : (o : Option Move) → move_of h.caller muted h.ask h.answer ≡ o → move_of h.caller muted h.ask (cell_takes c h.ask).answer ≡ o
    told o e = ap (move_of h.caller muted h.ask) (sym run.0) ∙ e

    by : Goes → (o : Option Move) → move_of h.caller muted h.ask h.answer ≡ o → (cell_after next hs).state ≡ node_after node (reverse (cons_option (entry_of x) rest) ++ past)
    by goes None e = rw (entry_is None e) (goes past (stays c h.ask h.caller muted (told None e) ∙ is))
    by goes (Some move) e =
        let moved_it : IsMoved c next.state move = moving c h.ask h.caller muted move (told (Some move) e) in
        let z : Entry = record { node = node; move = move } in
        rw (entry_is (Some move) e)
        (goes (z ∷ past) (moved_it.is ∙ ap (λ (s : NodeState). after_move s move) is ∙ sym (node_here node z past refl))
        ∙ ap (node_after node) (reversed_first z rest past))

-- ## What a node serves
record ServedAt (s : NodeState) (from : ℕ) (piece : List (List ℕ)) (gs : List Segment) : Type 0 where
  pub segment : Segment
  pub in_list : InSegments segment gs
  pub starts : segment.start ≤ from
  pub piece_is : piece ≡ drop (from - segment.start) (served s segment)

serving_at : (s : NodeState) (from : ℕ) (piece : List (List ℕ)) (gs : List Segment) → serving s from gs ≡ Some piece → ServedAt s from piece gs
unfolding serving
serving_at s from piece [] e = none≢some piece e
serving_at s from piece (g ∷ gs) e = by (serving s from gs) (nat_le g.start from && nat_lt from (g.start + length (served s g))) refl (λ h. serving_at s from piece gs h) e
  where
    here : (b : Bool) → (nat_le g.start from && nat_lt from (g.start + length (served s g))) ≡ b → cond b (Some (drop (from - g.start) (served s g))) None ≡ Some piece → ServedAt s from piece (g ∷ gs)
    here true is e = record { segment = g; in_list = inl refl; starts = grind (arith, nat_tests, is); piece_is = sym (some_is _ piece e) }
    here false is e = none≢some piece e

    by : (o : Option (List (List ℕ))) (b : Bool) → (nat_le g.start from && nat_lt from (g.start + length (served s g))) ≡ b → (o ≡ Some piece → ServedAt s from piece gs)
        → or_else o (cond b (Some (drop (from - g.start) (served s g))) None) ≡ Some piece → ServedAt s from piece (g ∷ gs)
    by (Some p) b is rec e = let r : ServedAt s from piece gs = rec e in record { segment = r.segment; in_list = inr r.in_list; starts = r.starts; piece_is = r.piece_is }
    by None b is rec e = here b is e

edits_are : (a b : BatchView) → Edits a ≡ Edits b → a ≡ b
edits_are a b e = ap from_edits e
  where
    from_edits : Reply → BatchView
    from_edits (Edits batch) = batch
    from_edits _ = a

read_edits : (s : NodeState) (from : ℕ) (batch : BatchView) → (node_step s (Read from)).reply ≡ Edits batch → edits_from s from ≡ Edits batch
read_edits s from batch e = by (acted s (Read from))
  where
    by : Acted s (Read from) → edits_from s from ≡ Edits batch
    by (at_once x a step b) = absurd (cc (sym (ap (λ z. z.reply) step) ∙ e))
    by (by_row x a r step b) = absurd (cc (sym (ap (λ z. z.reply) step) ∙ e))
    by (done a r step b) = sym (ap (λ z. z.reply) step) ∙ e

record Gave (s : NodeState) (from : ℕ) (batch : BatchView) : Type 0 where
  pub piece : List (List ℕ)
  pub serves : serving s from s.segments ≡ Some piece
  pub bodies : batch.bodies ≡ take 256 piece
  pub first : batch.first ≡ from

gave : (s : NodeState) (from : ℕ) (batch : BatchView) → edits_from s from ≡ Edits batch → Gave s from batch
unfolding edits_from
gave s from batch e = by (serving s from s.segments) refl e
  where
    by : (o : Option (List (List ℕ))) → serving s from s.segments ≡ o → answer_from s from o ≡ Edits batch → Gave s from batch
    by None is e = absurd (cc e)
    by (Some piece) is e =
        let same : record { first = from; bodies = take 256 piece } ≡ batch = edits_are (record { first = from; bodies = take 256 piece }) batch e in
        record { piece = piece; serves = is; bodies = sym (ap (λ (b : BatchView). b.bodies) same); first = sym (ap (λ (b : BatchView). b.first) same) }

pub get_take : (k n : ℕ) (xs : List (List ℕ)) (x : List ℕ) → slice_get (take n xs) k ≡ Some x → slice_get xs k ≡ Some x
get_take k zero [] x e = e
get_take k (suc n) [] x e = e
get_take k zero (y ∷ xs) x e = none≢some x e
get_take zero (suc n) (y ∷ xs) x e = e
get_take (suc k) (suc n) (y ∷ xs) x e = get_take k n xs x e

get_drop : (k n : ℕ) (xs : List (List ℕ)) (x : List ℕ) → slice_get (drop n xs) k ≡ Some x → slice_get xs (n + k) ≡ Some x
get_drop k zero xs x e = let same : 0 + k ≡ k = omega arith in ap (slice_get xs) same ∙ e
get_drop k (suc n) [] x e = none≢some x e
get_drop k (suc n) (y ∷ xs) x e = let same : suc n + k ≡ suc (n + k) = omega arith in ap (slice_get (y ∷ xs)) same ∙ get_drop k n xs x e

-- bodies that stand at their txids one by one
pub all_on : (L : ℕ → List ℕ → Type 0) (t : ℕ) (bodies : List (List ℕ)) → ((k : ℕ) (x : List ℕ) → slice_get bodies k ≡ Some x → L (t + 1 + k) x) → AllOn L t bodies
all_on L t [] h = tt
all_on L t (b ∷ bs) h =
    let zero_same : t + 1 + 0 ≡ t + 1 = omega arith in
    (subst (λ (j : ℕ). L j b) zero_same (h 0 b refl), all_on L (t + 1) bs (λ k x e. let same : t + 1 + suc k ≡ t + 1 + 1 + k = omega arith in subst (λ (j : ℕ). L j x) same (h (suc k) x e)))

-- what a node gives to a read stands on the line of all that moved nodes up to there
pub gives_line : (n : ℕ) (story : Story) (past : List Entry) → Follows n story past → (node t : ℕ) (batch : BatchView)
    → (node_step (node_after node past) (Read (t + 1))).reply ≡ Edits batch → AllOn (IsOnLine n past) t batch.bodies
gives_line n story past run node t batch e = all_on (IsOnLine n past) t batch.bodies one
  where
    s : NodeState
    s = node_after node past

    g : Gave s (t + 1) batch
    g = gave s (t + 1) batch (read_edits s (t + 1) batch e)

    at : ServedAt s (t + 1) g.piece s.segments
    at = serving_at s (t + 1) g.piece s.segments g.serves

    found : find_segment at.segment.start s.segments ≡ Some at.segment
    found = find-in at.segment s.segments (stored_after node past).rising at.in_list

    one : (k : ℕ) (x : List ℕ) → slice_get batch.bodies k ≡ Some x → IsOnLine n past (t + 1 + k) x
    one k x is =
        let in_piece : slice_get g.piece k ≡ Some x = get_take k 256 g.piece x (ap (λ (l : List (List ℕ)). slice_get l k) (sym g.bodies) ∙ is) in
        let there : slice_get (served s at.segment) (t + 1 - at.segment.start + k) ≡ Some x =
        get_drop k (t + 1 - at.segment.start) (served s at.segment) x (ap (λ (l : List (List ℕ)). slice_get l k) (sym at.piece_is) ∙ in_piece) in
        let starts : at.segment.start ≤ t + 1 = at.starts in
        let place : at.segment.start + (t + 1 - at.segment.start + k) ≡ t + 1 + k = omega (arith, starts) in
        subst (λ (j : ℕ). IsOnLine n past j x) place (served_on_line n story past run node at.segment (t + 1 - at.segment.start + k) x found there)

AllOn-map : (L M : ℕ → List ℕ → Type 0) (t : ℕ) (bodies : List (List ℕ)) → ((j : ℕ) (x : List ℕ) → L j x → M j x) → AllOn L t bodies → AllOn M t bodies
AllOn-map L M t [] f h = tt
AllOn-map L M t (b ∷ bs) f h = (f (t + 1) b h.0, AllOn-map L M (t + 1) bs f h.1)

-- ## Places in lists
pub record Place {A : Type 0} (x : A) (xs : List A) : Type 0 where
  pub before : List A
  pub after : List A
  pub is : xs ≡ before ++ x ∷ after

pub place_of : {A : Type 0} (x : A) (xs : List A) → In x xs → Place x xs
unfolding In
place_of x [] i = absurd i
place_of {A} x (y ∷ xs) (inl e) = record { before = []; after = xs; is = ap (λ (z : A). z ∷ xs) e }
place_of {A} x (y ∷ xs) (inr i) = let p : Place x xs = place_of x xs i in record { before = y ∷ p.before; after = p.after; is = ap (λ (l : List A). y ∷ l) p.is }

pub in_middle : {A : Type 0} (before after : List A) (x : A) → In x (before ++ x ∷ after)
unfolding In
in_middle [] after x = inl refl
in_middle (y ∷ before) after x = inr (in_middle before after x)

-- what a list has, in both words
pub in_contains : {A : Type 0} (x : A) (xs : List A) → In x xs → Contains xs x
unfolding In
in_contains x [] i = absurd i
in_contains x (y ∷ ys) (inl e) = contains_head y ys x e
in_contains x (y ∷ ys) (inr i) = contains_tail y ys x (in_contains x ys i)

pub contains_in : {A : Type 0} (x : A) (xs : List A) → Contains xs x → In x xs
unfolding In
contains_in x [] h = absurd (contains_none x h)
contains_in {A} x (y ∷ ys) h = by (contains_cases y ys x h) (λ g. contains_in x ys g)
  where
    by : (y ≡ x) ⊎ Contains ys x → (Contains ys x → In x ys) → (y ≡ x) ⊎ In x ys
    by (inl e) go = inl e
    by (inr g) go = inr (go g)

pub in_filter : {A : Type 0} (test : A → Bool) (x : A) (xs : List A) → In x xs → test x ≡ true → In x (filter test xs)
unfolding In
in_filter test x [] i e = absurd i
in_filter {A} test x (y ∷ xs) i e = by (test y) refl i (λ j. in_filter test x xs j e)
  where
    by : (b : Bool) → test y ≡ b → (y ≡ x) ⊎ In x xs → (In x xs → In x (filter test xs)) → In x (cond b (y ∷ filter test xs) (filter test xs))
    by true is (inl s) go = inl s
    by true is (inr j) go = inr (go j)
    by false is (inl s) go = absurd (cc (sym is ∙ ap test s ∙ e))
    by false is (inr j) go = go j

pub of_filter : {A : Type 0} (test : A → Bool) (x : A) (xs : List A) → In x (filter test xs) → In x xs × (test x ≡ true)
unfolding In
of_filter test x [] i = absurd i
of_filter {A} test x (y ∷ xs) i = by (test y) refl i (λ j. of_filter test x xs j)
  where
    by : (b : Bool) → test y ≡ b → In x (cond b (y ∷ filter test xs) (filter test xs)) → (In x (filter test xs) → In x xs × (test x ≡ true)) → ((y ≡ x) ⊎ In x xs) × (test x ≡ true)
    by true is (inl s) go = (inl s, ap test (sym s) ∙ is)
    by true is (inr j) go = let r : In x xs × (test x ≡ true) = go j in (inr r.0, r.1)
    by false is j go = let r : In x xs × (test x ≡ true) = go j in (inr r.0, r.1)

pub within_in : (n : ℕ) (rs : List Record) (r : Record) → AreWithin n rs → In r rs → IsWithin n r
unfolding In AreWithin
within_in n [] r w x = absurd x
within_in n (y ∷ rs) r w (inl e) = subst (λ (z : Record). IsWithin n z) e w.0
within_in n (y ∷ rs) r w (inr x) = within_in n rs r w.1 x

-- ## A line of a history
pub record Lived (before : List HistoryLine) (h : HistoryLine) : Type 0 where
  pub run : IsLocalRun fresh_cell before
  pub answer : h.answer ≡ (cell_takes (cell_after fresh_cell before) h.ask).answer

lived_from : (c : Cell) (before after : List HistoryLine) (h : HistoryLine) → IsLocalRun c (before ++ h ∷ after) → IsLocalRun c before × (h.answer ≡ (cell_takes (cell_after c before) h.ask).answer)
unfolding IsLocalRun cell_after
lived_from c [] after h run = (tt, run.0)
lived_from c (x ∷ before) after h run = let r : IsLocalRun (cell_takes c x.ask).cell before
    × (h.answer ≡ (cell_takes (cell_after (cell_takes c x.ask).cell before) h.ask).answer) =
    lived_from (cell_takes c x.ask).cell before after h run.1 in ((run.0, r.0), r.1)

pub lived : (before after : List HistoryLine) (h : HistoryLine) → IsLocalRun fresh_cell (before ++ h ∷ after) → Lived before h
lived before after h run = let r : IsLocalRun fresh_cell before × (h.answer ≡ (cell_takes (cell_after fresh_cell before) h.ask).answer) =
    lived_from fresh_cell before after h run in record { run = r.0; answer = r.1 }

-- an answer is the node's step
replied_is : (a b : Reply) → Replied a ≡ Replied b → a ≡ b
replied_is a b e = ap from_replied e
  where
    from_replied : NodeAnswer → Reply
    from_replied (Replied reply) = reply
    from_replied _ = a

counts_reply : (s : NodeState) (r : Request) (reply : Reply) (o : Option Arming) → (count_request s r o).answer ≡ Replied reply → (node_step s r).reply ≡ reply
counts_reply s r reply None e = replied_is (node_step s r).reply reply e
counts_reply s r reply (Some a) e = by (nat_lt 1 a.calls) e
  where
    by : (b : Bool) → (cond b (replies s r (Some (record a { calls = a.calls - 1 }))) (stops s r (kept_by a.stop s r))).answer ≡ Replied reply → (node_step s r).reply ≡ reply
    by true e = replied_is (node_step s r).reply reply e
    by false e = absurd (cc e)

step_reply : (c : Cell) (late : Bool) (r : Request) (reply : Reply) → (cell_takes c (Act late r)).answer ≡ Replied reply → (node_step c.state r).reply ≡ reply
unfolding cell_takes
step_reply c late r reply e = by c.state.up e
  where
    by : (up : Bool) → (take_request up c r).answer ≡ Replied reply → (node_step c.state r).reply ≡ reply
    by true e = counts_reply c.state r reply c.arming e
    by false e = replied_is (node_step c.state r).reply reply e

-- ## The front of an order up to a line of a history
pub reverse_filter : (test : Entry → Bool) (xs : List Entry) → filter test (reverse xs) ≡ reverse (filter test xs)
reverse_filter test [] = refl
reverse_filter test (x ∷ xs) =
    ap (filter test) (reverse-append (x ∷ []) xs) ∙ filter_append test (reverse xs) (x ∷ [])
    ∙ by (test x) (reverse_filter test xs)
  where
    by : (b : Bool) → filter test (reverse xs) ≡ reverse (filter test xs) → filter test (reverse xs) ++ cond b (x ∷ []) [] ≡ reverse (cond b (x ∷ filter test xs) (filter test xs))
    by true e = ap (λ (l : List Entry). l ++ x ∷ []) e ∙ sym (reverse-append (x ∷ []) (filter test xs))
    by false e = append-nil (filter test (reverse xs)) ∙ e

pub record UpTo (m : Mesh) (entries : List Entry) (i : ℕ) (before : List HistoryLine) : Type 0 where
  pub front : List Entry
  pub earlier : Earlier (reverse front) (reverse entries)
  pub state : (cell_after fresh_cell before).state ≡ node_after (i + 1) (reverse front)

pub up_to : (m : Mesh) (entries : List Entry) (i : ℕ) (before after : List HistoryLine) (h : HistoryLine) → entries_at (i + 1) entries ≡ moving_of (placed_at m i)
    → history_at m i ≡ before ++ h ∷ after → IsLocalRun fresh_cell before → UpTo m entries i before
unfolding node_after
up_to m entries i before after h at is run = record {
  front = f.front;
  earlier = subst (λ (l : List Entry). Earlier (reverse f.front) l) (sym (ap reverse f.whole ∙ reverse-append f.front f.rest)) (Earlier-append (reverse f.rest) (reverse f.front));
  state = unfold node_after in (history_state m k [] before fresh_cell [] refl run ∙ ap (node_after k) (append-nil (reverse xs)) ∙ sym there);
}
  where
    k : ℕ
    k = i + 1

    xs : List Entry
    xs = moving_of (placed_from m k [] before)

    f : Front k entries xs
    f = front_of k entries xs (moving_of (placed_from m k before (h ∷ after)))
        (at ∙ ap (λ (l : List HistoryLine). moving_of (placed_from m k [] l)) is ∙ ap moving_of (placed_append m k [] before (h ∷ after))
        ∙ moving_append (placed_from m k [] before) (placed_from m k before (h ∷ after)))

    there : node_after k (reverse f.front) ≡ node_after k (reverse xs)
    there = node_only k (reverse f.front) ∙ ap (node_after k) (reverse_filter (λ e. e.node == k) f.front ∙ ap reverse f.there)

-- ## Whatever a read gave is the line's
pub reads_on_line : ReadsAreOnLine
unfolding reaches
reads_on_line m entries c node t batch before after lists lin below is = all
  where
    r : Record
    r = Call node (Read (t + 1)) (told.Reply (Edits batch))

    listed : In r (record_of m c)
    listed = subst (λ (l : List Record). In r l) (sym is) (in_middle before after r)

    within : (1 ≤ node) × (node ≤ m.nodes)
    within = within_in m.nodes (record_of m c) r (lists.within c (omega (arith, below))) listed

    i : ℕ
    i = node - 1

    node_is : node ≡ i + 1
    node_is = omega (arith, within.0)

    small : i < m.nodes
    small = omega (arith, within.0, within.1)

    reaches_it : reaches (i + 1) r ≡ true
    reaches_it = grind (arith, nat_tests, node_is)

    mine : (h : HistoryLine) × In h (lines_of c (history_at m i)) × IsSame r h
    mine = same_line (reached (i + 1) (record_of m c)) (lines_of c (history_at m i)) r (lists.same i c small (omega (arith, below)))
        (unfold reached in in_filter (reaches (i + 1)) r (record_of m c) listed reaches_it)

    h : HistoryLine
    h = mine.0

    p : Place h (history_at m i)
    p = place_of h (history_at m i) (unfold lines_of in (of_filter (λ (z : HistoryLine). z.caller == c) h (history_at m i) mine.1).0)

    same : (h.ask ≡ Act false (Read (t + 1))) × (h.answer ≡ Replied (Edits batch))
    same = unfold IsSame in mine.2

    live : Lived p.before h
    live = lived p.before p.after h (subst (λ (l : List HistoryLine). IsLocalRun fresh_cell l) p.is (lists.local i small))

    cell : Cell
    cell = cell_after fresh_cell p.before

    reply : (node_step cell.state (Read (t + 1))).reply ≡ Edits batch
    reply = step_reply cell false (Read (t + 1)) (Edits batch) (ap (λ (a : NodeAsk). (cell_takes cell a).answer) (sym same.0) ∙ sym live.answer ∙ same.1)

    u : UpTo m entries i p.before
    u = up_to m entries i p.before p.after h (lin.at_nodes i small) p.is live.run

    front_run : Follows m.nodes lin.run.0 (reverse u.front)
    front_run = Follows-earlier m.nodes lin.run.0 u.earlier lin.run.1

    on_front : AllOn (IsOnLine m.nodes (reverse u.front)) t batch.bodies
    on_front = gives_line m.nodes lin.run.0 (reverse u.front) front_run (i + 1) t batch (ap (λ (s : NodeState). (node_step s (Read (t + 1))).reply) (sym u.state) ∙ reply)

    all : AllOn (OnLine m entries) t batch.bodies
    all = AllOn-map (IsOnLine m.nodes (reverse u.front)) (OnLine m entries) t batch.bodies (λ j x o. line_later m.nodes lin.run.0 (reverse entries) lin.run.1 j x u.earlier o) on_front
