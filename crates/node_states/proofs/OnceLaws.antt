-- Each line of a node's history stands once in the order of all, and a node's lines in their order.
use Rattle.std.proofs.Common.{ℕ, zero, suc, ◌≡◌, ◌<◌, ◌≤◌, ◌+◌, ◌-◌, ◌==◌, List, [], ◌∷◌, ◌++◌, Bool, true, false, cond, Option, Some, None, length, map, drop, get_or, set, reverse}
use Rattle.std.proofs.Common.{refl, sym, ◌∙◌, ap, subst, append-nil, arith, inl, inr}
use Rattle.std.specs.Prelude.{◌≢◌, is_some, filter_map}
use Rattle.std.specs.List.{AllByRecursion}
use Rattle.std.proofs.lemmas.List.{drop-drop, get_or-set_same, get_or-set_other, length-set, reverse-append}
use Rattle.std.proofs.lemmas.List.Elements.{filter-append}
use Rattle.journal_history.specs.declared.node_ask.NodeAsk.{NodeAsk}
use Rattle.journal_history.specs.declared.node_ask.NodeAsk.TheVariants as ask
use Rattle.journal_history.specs.declared.node_ask.NodeAnswer.{NodeAnswer}
use Rattle.journal_history.specs.declared.node_ask.NodeAnswer.TheVariants as answer
use Rattle.journal_history.specs.declared.history_line.HistoryLine.{HistoryLine}
use Rattle.journal_history.specs.declared.record.Record.{Record}
use Rattle.journal_history.specs.Entries.{Heard, Muted, Late, Move, Answer, Stop, Kill, Restart, Entry}
use Rattle.journal_history.specs.Moving.{Placed, moves, way_of, move_of, entry_of, entry_at, moving_of}
use Rattle.run_safety.specs.declared.event.Event.{Event}
use Rattle.run_safety.specs.Run.{Story, Follows}
use Rattle.mesh.specs.declared.whole.Mesh.{Mesh}
use Rattle.mesh.specs.Agree.{history_at}
use Rattle.mesh.specs.Order.{is_muted, line_of_caller, placed_from, epoch_order, entries_at}
use Rattle.mesh.specs.Laws.{OrderAtNodes, OrderIsRun}
use Rattle.mesh.proofs.Lists.{Alike, alike, same_test, other_test}
use Rattle.mesh_judge.specs.Events.{event_of}
use Rattle.node_states.specs.declared.node_line.NodeLine.{NodeLine}
use Rattle.node_states.specs.Lines.{is_moving, reach_of, line_of, lines_from, lines_at, all_lines, none_taken}
use Rattle.node_states.specs.Order.{still_front, next_lines, fronts, front_counts, index_of, brought, told_then, led}
use Rattle.node_states.specs.Laws.{of_node, LinesStandOnce}

-- ## Lines of one node
unfoldable AreOf : ℕ → List NodeLine → Type 0
AreOf i [] = Unit {0}
AreOf i (l ∷ ls) = (l.index ≡ i) × AreOf i ls

of_made : (rss : List (List Record)) (taken : List ℕ) (i line : ℕ) (hs : List HistoryLine) → AreOf i (lines_from rss taken i line hs)
unfolding AreOf lines_from line_of
of_made rss taken i line [] = tt
of_made rss taken i line (h ∷ hs) = (refl, of_made rss (set taken h.caller (reach_of rss taken i h).place) i (line + 1) hs)

of_front : (i : ℕ) (ls : List NodeLine) → AreOf i ls → AreOf i (still_front ls)
unfolding AreOf still_front
of_front i [] h = tt
of_front i (l ∷ ls) h = by l.is_moving (of_front i ls h.1)
  where
    by : (b : Bool) → AreOf i (still_front ls) → AreOf i (cond b [] (l ∷ still_front ls))
    by true g = tt
    by false g = (h.0, g)

of_next : (i : ℕ) (ls : List NodeLine) → AreOf i ls → AreOf i (next_lines ls)
unfolding AreOf next_lines
of_next i [] h = tt
of_next i (l ∷ ls) h = (h.0, of_front i ls h.1)

of_drop : (i k : ℕ) (ls : List NodeLine) → AreOf i ls → AreOf i (drop k ls)
unfolding AreOf
of_drop i zero ls h = h
of_drop i (suc k) [] h = tt
of_drop i (suc k) (l ∷ ls) h = of_drop i k ls h.1

kept : (i : ℕ) (ls : List NodeLine) → AreOf i ls → of_node i ls ≡ ls
unfolding AreOf
kept i [] h = refl
kept i (l ∷ ls) h = rw (same_test l.index i h.0) (ap (λ (x : List NodeLine). l ∷ x) (kept i ls h.1))

passed : (i j : ℕ) (ls : List NodeLine) → j ≢ i → AreOf j ls → of_node i ls ≡ []
unfolding AreOf
passed i j [] off h = refl
passed i j (l ∷ ls) off h = rw (other_test l.index i (λ e. off (sym h.0 ∙ e))) (passed i j ls off h.1)

-- ## Lines of each node
unfoldable AreOfEach : ℕ → List (List NodeLine) → Type 0
AreOfEach i [] = Unit {0}
AreOfEach i (ls ∷ lss) = AreOf i ls × AreOfEach (i + 1) lss

each_made : (rss : List (List Record)) (i : ℕ) (hss : List (List HistoryLine)) → AreOfEach i (all_lines rss i hss)
unfolding AreOfEach all_lines lines_at
each_made rss i [] = tt
each_made rss i (hs ∷ hss) = (of_made rss (none_taken rss) i 0 hs, each_made rss (i + 1) hss)

one_of_each : (i k : ℕ) (lss : List (List NodeLine)) → AreOfEach i lss → AreOf (i + k) (get_or lss k [])
unfolding AreOfEach AreOf
one_of_each i k [] h = tt
one_of_each i zero (ls ∷ lss) h = subst (λ (n : ℕ). AreOf n ls) (let e : i ≡ i + 0 = omega arith in e) h.0
one_of_each i (suc k) (ls ∷ lss) h = subst (λ (n : ℕ). AreOf n (get_or lss k [])) (let e : i + 1 + k ≡ i + suc k = omega arith in e) (one_of_each (i + 1) k lss h.1)

made_at : (rss : List (List Record)) (i k : ℕ) (hss : List (List HistoryLine)) → k < length hss → get_or (all_lines rss i hss) k [] ≡ lines_at rss (i + k) (get_or hss k [])
unfolding all_lines
made_at rss i k [] l = absurd (omega (arith, l))
made_at rss i zero (hs ∷ hss) l = ap (λ (n : ℕ). lines_at rss n hs) (let e : i ≡ i + 0 = omega arith in e)
made_at rss i (suc k) (hs ∷ hss) l = made_at rss (i + 1) k hss (omega (arith, l)) ∙ ap (λ (n : ℕ). lines_at rss n (get_or hss k [])) (let e : i + 1 + k ≡ i + suc k = omega arith in e)

made_length : (rss : List (List Record)) (i : ℕ) (hss : List (List HistoryLine)) → length (all_lines rss i hss) ≡ length hss
unfolding all_lines
made_length rss i [] = refl
made_length rss i (hs ∷ hss) = ap suc (made_length rss (i + 1) hss)

-- ## The fronts
fronts_below : (i k : ℕ) (lss : List (List NodeLine)) → AreOfEach i lss → k < i → of_node k (fronts lss) ≡ []
unfolding AreOfEach fronts
fronts_below i k [] h l = refl
fronts_below i k (ls ∷ lss) h l =
    filter-append (λ (x : NodeLine). x.index == k) (still_front ls) (fronts lss)
    ∙ ap (λ (x : List NodeLine). x ++ of_node k (fronts lss)) (passed k i (still_front ls) (λ (e : i ≡ k). omega (arith, e, l)) (of_front i ls h.0))
    ∙ fronts_below (i + 1) k lss h.1 (omega (arith, l))

fronts_at : (i k : ℕ) (lss : List (List NodeLine)) → AreOfEach i lss → of_node (i + k) (fronts lss) ≡ still_front (get_or lss k [])
unfolding AreOfEach fronts still_front
fronts_at i k [] h = refl
fronts_at i zero (ls ∷ lss) h =
    ap (λ (n : ℕ). of_node n (still_front ls ++ fronts lss)) (let e : i + 0 ≡ i = omega arith in e)
    ∙ filter-append (λ (x : NodeLine). x.index == i) (still_front ls) (fronts lss)
    ∙ ap (λ (x : List NodeLine). x ++ of_node i (fronts lss)) (kept i (still_front ls) (of_front i ls h.0))
    ∙ ap (λ (x : List NodeLine). still_front ls ++ x) (fronts_below (i + 1) i lss h.1 (omega arith)) ∙ append-nil (still_front ls)
fronts_at i (suc k) (ls ∷ lss) h =
    filter-append (λ (x : NodeLine). x.index == i + suc k) (still_front ls) (fronts lss)
    ∙ ap (λ (x : List NodeLine). x ++ of_node (i + suc k) (fronts lss)) (passed (i + suc k) i (still_front ls) (λ (e : i ≡ i + suc k). omega (arith, e)) (of_front i ls h.0))
    ∙ ap (λ (n : ℕ). of_node n (fronts lss)) (let e : i + suc k ≡ i + 1 + k = omega arith in e) ∙ fronts_at (i + 1) k lss h.1

-- ## What events bring of one node
unfoldable groups : List NodeLine → ℕ → List NodeLine
groups ls zero = []
groups ls (suc n) = next_lines ls ++ groups (drop (length (next_lines ls)) ls) n

unfoldable hits : ℕ → List Event → ℕ
hits i [] = 0
hits i (e ∷ es) = cond (index_of e == i) (suc (hits i es)) (hits i es)

of_brought : (k : ℕ) (lss : List (List NodeLine)) (told : List ℕ) → AreOfEach 0 lss → AreOf k (brought lss told k)
unfolding brought
of_brought k lss told h =
    of_next k (drop (get_or told k 0) (get_or lss k [])) (of_drop k (get_or told k 0) (get_or lss k [])
    (subst (λ (n : ℕ). AreOf n (get_or lss k [])) (let e : 0 + k ≡ k = omega arith in e) (one_of_each 0 k lss h)))

long_then : (i k : ℕ) (lss : List (List NodeLine)) (told : List ℕ) → i < length told → i < length (told_then lss told k)
unfolding told_then
long_then i k lss told l =
    let s : length (set told k (get_or told k 0 + length (brought lss told k))) ≡ length told = length-set told k (get_or told k 0 + length (brought lss told k)) in
    omega (arith, s, l)

-- the event is at this node
led_same : (i k : ℕ) (lss : List (List NodeLine)) (told : List ℕ) (es : List Event) (n : ℕ) → AreOfEach 0 lss → i < length told → k ≡ i
    → of_node i (led lss (told_then lss told k) es) ≡ groups (drop (get_or (told_then lss told k) i 0) (get_or lss i [])) n
    → of_node i (brought lss told k) ++ of_node i (led lss (told_then lss told k) es) ≡ groups (drop (get_or told i 0) (get_or lss i [])) (suc n)
unfolding brought told_then groups
led_same i k lss told es n h l is rest =
    let left = drop (get_or told i 0) (get_or lss i []) in
    let more = get_or told i 0 + length (next_lines left) in
    let first : of_node i (brought lss told k) ≡ next_lines left = ap (λ (j : ℕ). of_node i (brought lss told j)) is ∙ kept i (brought lss told i) (of_brought i lss told h) in
    let now : get_or (told_then lss told k) i 0 ≡ more = ap (λ (j : ℕ). get_or (told_then lss told j) i 0) is ∙ get_or-set_same told i more 0 l in
    let after : drop more (get_or lss i []) ≡ drop (length (next_lines left)) left = sym (drop-drop (length (next_lines left)) (get_or told i 0) (get_or lss i [])) in
    ap (λ (x : List NodeLine). x ++ of_node i (led lss (told_then lss told k) es)) first
    ∙ ap (λ (x : List NodeLine). next_lines left ++ x) (rest ∙ ap (λ (j : ℕ). groups (drop j (get_or lss i [])) n) now ∙ ap (λ (x : List NodeLine). groups x n) after)

-- it is at another one
led_other : (i k : ℕ) (lss : List (List NodeLine)) (told : List ℕ) (es : List Event) (n : ℕ) → AreOfEach 0 lss → k ≢ i
    → of_node i (led lss (told_then lss told k) es) ≡ groups (drop (get_or (told_then lss told k) i 0) (get_or lss i [])) n
    → of_node i (brought lss told k) ++ of_node i (led lss (told_then lss told k) es) ≡ groups (drop (get_or told i 0) (get_or lss i [])) n
unfolding told_then
led_other i k lss told es n h off rest =
    ap (λ (x : List NodeLine). x ++ of_node i (led lss (told_then lss told k) es)) (passed i k (brought lss told k) off (of_brought k lss told h))
    ∙ rest ∙ ap (λ (j : ℕ). groups (drop j (get_or lss i [])) n) (get_or-set_other told k i (get_or told k 0 + length (brought lss told k)) 0 (λ e. off (sym e)))

led_at : (i : ℕ) (lss : List (List NodeLine)) (told : List ℕ) (es : List Event) → AreOfEach 0 lss → i < length told
    → of_node i (led lss told es) ≡ groups (drop (get_or told i 0) (get_or lss i [])) (hits i es)
unfolding led groups hits Alike
led_at i lss told [] h l = refl
led_at i lss told (e ∷ es) h l =
    filter-append (λ (x : NodeLine). x.index == i) (brought lss told (index_of e)) (led lss (told_then lss told (index_of e)) es)
    ∙ by (alike (index_of e) i) (led_at i lss (told_then lss told (index_of e)) es h (long_then i (index_of e) lss told l))
  where
    by : Alike (index_of e) i → of_node i (led lss (told_then lss told (index_of e)) es) ≡ groups (drop (get_or (told_then lss told (index_of e)) i 0) (get_or lss i [])) (hits i es)
        → of_node i (brought lss told (index_of e)) ++ of_node i (led lss (told_then lss told (index_of e)) es)
        ≡ groups (drop (get_or told i 0) (get_or lss i [])) (cond (index_of e == i) (suc (hits i es)) (hits i es))
    by (inl a) rest = rw a.0 (led_same i (index_of e) lss told es (hits i es) h l a.1 rest)
    by (inr a) rest = rw a.0 (led_other i (index_of e) lss told es (hits i es) h a.1 rest)

-- ## The groups of a node are its lines
unfoldable moves_in : List NodeLine → ℕ
moves_in [] = 0
moves_in (l ∷ ls) = cond l.is_moving (suc (moves_in ls)) (moves_in ls)

all_groups : (ls : List NodeLine) → still_front ls ++ groups (drop (length (still_front ls)) ls) (moves_in ls) ≡ ls
unfolding still_front groups moves_in next_lines
all_groups [] = refl
all_groups (l ∷ ls) = by l.is_moving (all_groups ls)
  where
    by : (b : Bool) → still_front ls ++ groups (drop (length (still_front ls)) ls) (moves_in ls) ≡ ls
        → cond b [] (l ∷ still_front ls) ++ groups (drop (length (cond b [] (l ∷ still_front ls))) (l ∷ ls)) (cond b (suc (moves_in ls)) (moves_in ls)) ≡ l ∷ ls
    by true h = ap (λ (x : List NodeLine). l ∷ x) h
    by false h = ap (λ (x : List NodeLine). l ∷ x) h

-- ## As many moving lines as events
node_is : (e : Entry) → index_of (event_of e) ≡ e.node - 1
node_is e = by e.node e.move
  where
    by : (node : ℕ) (v : Move) → index_of (event_of (record { node = node; move = v })) ≡ node - 1
    by node (Answer caller Heard r reply) = refl
    by node (Answer caller Muted r reply) = refl
    by node (Answer caller Late r reply) = refl
    by node (Stop caller true r keep) = refl
    by node (Stop caller false r keep) = refl
    by node Kill = refl
    by node Restart = refl

abbrev FromOne : List Entry → Type 0
FromOne = AllByRecursion (λ (e : Entry). 1 ≤ e.node)

follows_from : (n : ℕ) (story : Story) (past : List Entry) → Follows n story past → FromOne past
follows_from n story [] f = tt
follows_from n story (e ∷ past) f = (f.0.from_one, follows_from n story past f.1)

front_part : (xs ys : List Entry) → FromOne (xs ++ ys) → FromOne xs
front_part [] ys h = tt
front_part (x ∷ xs) ys h = (h.0, front_part xs ys h.1)

back_part : (xs ys : List Entry) → FromOne (xs ++ ys) → FromOne ys
back_part [] ys h = h
back_part (x ∷ xs) ys h = back_part xs ys h.1

turned : (es : List Entry) → FromOne (reverse es) → FromOne es
turned [] h = tt
turned (e ∷ es) h =
    let back : FromOne (reverse es ++ e ∷ []) = subst FromOne (reverse-append (e ∷ []) es) h in
    ((back_part (reverse es) (e ∷ []) back).0, turned es (front_part (reverse es) (e ∷ []) back))

hits_are : (i : ℕ) (es : List Entry) → FromOne es → hits i (map event_of es) ≡ length (entries_at (i + 1) es)
unfolding hits Alike
hits_are i [] h = refl
hits_are i (e ∷ es) h = by (alike e.node (i + 1)) (hits_are i es h.1)
  where
    by : Alike e.node (i + 1) → hits i (map event_of es) ≡ length (entries_at (i + 1) es)
        → cond (index_of (event_of e) == i) (suc (hits i (map event_of es))) (hits i (map event_of es)) ≡ length (cond (e.node == i + 1) (e ∷ entries_at (i + 1) es) (entries_at (i + 1) es))
    by (inl a) g = rw (same_test (index_of (event_of e)) i (node_is e ∙ (let k : e.node - 1 ≡ i = omega (arith, a.1) in k))) (rw a.0 (ap suc g))
    by (inr a) g = rw (other_test (index_of (event_of e)) i (λ (k : index_of (event_of e) ≡ i). a.1 (let n : e.node - 1 ≡ i = sym (node_is e) ∙ k in omega (arith, n, h.0)))) (rw a.0 g)

some_if : (b : Bool) (x y : Move) → is_some (cond b (Some x) None) ≡ is_some (cond b (Some y) None)
some_if true x y = refl
some_if false x y = refl

moved_alike : (caller : ℕ) (muted other : Bool) (a : NodeAsk) (an : NodeAnswer) → is_some (move_of caller muted a an) ≡ is_some (move_of caller other a an)
unfolding move_of
moved_alike caller muted other (ask.Act late r) (answer.Replied reply) =
    some_if (moves r reply) (Answer caller (way_of late muted) r reply) (Answer caller (way_of late other) r reply)
moved_alike caller muted other (ask.Act late r) (answer.Stopped keep) = refl
moved_alike caller muted other (ask.Act late r) answer.Done = refl
moved_alike caller muted other (ask.Act late r) answer.Idle = refl
moved_alike caller muted other (ask.Act late r) (answer.NotOpened fail) = refl
moved_alike caller muted other ask.Kill (answer.Replied reply) = refl
moved_alike caller muted other ask.Kill (answer.Stopped keep) = refl
moved_alike caller muted other ask.Kill answer.Done = refl
moved_alike caller muted other ask.Kill answer.Idle = refl
moved_alike caller muted other ask.Kill (answer.NotOpened fail) = refl
moved_alike caller muted other ask.Restart (answer.Replied reply) = refl
moved_alike caller muted other ask.Restart (answer.Stopped keep) = refl
moved_alike caller muted other ask.Restart answer.Done = refl
moved_alike caller muted other ask.Restart answer.Idle = refl
moved_alike caller muted other ask.Restart (answer.NotOpened fail) = refl
moved_alike caller muted other (ask.Arm calls stop) an = refl

entry_some : (node : ℕ) (v : Option Move) → is_some (entry_at node v) ≡ is_some v
entry_some node None = refl
entry_some node (Some v) = refl

first_counted : (x : Placed) (o : Option Entry) (xs : List Placed) (b : Bool) (n : ℕ) → entry_of x ≡ o → is_some o ≡ b → length (filter_map entry_of xs) ≡ n
    → length (filter_map entry_of (x ∷ xs)) ≡ cond b (suc n) n
first_counted x None xs b n e s h = rw e (h ∙ ap (λ (c : Bool). cond c (suc n) n) s)
first_counted x (Some y) xs b n e s h = rw e (ap suc h ∙ ap (λ (c : Bool). cond c (suc n) n) s)

moves_are : (m : Mesh) (node : ℕ) (rss : List (List Record)) (taken : List ℕ) (i line : ℕ) (before hs : List HistoryLine)
    → length (filter_map entry_of (placed_from m node before hs)) ≡ moves_in (lines_from rss taken i line hs)
unfolding placed_from lines_from line_of moves_in entry_of
moves_are m node rss taken i line before [] = refl
moves_are m node rss taken i line before (h ∷ hs) =
    let x : Placed = record { node = node; line = h; muted = is_muted (line_of_caller m node before h) } in
    let then_ = set taken h.caller (reach_of rss taken i h).place in
    first_counted x (entry_of x) (placed_from m node (before ++ h ∷ []) hs) (is_moving h) (moves_in (lines_from rss then_ i (line + 1) hs)) refl
    (entry_some node (move_of h.caller x.muted h.ask h.answer) ∙ moved_alike h.caller x.muted false h.ask h.answer) (moves_are m node rss then_ i (line + 1) (before ++ h ∷ []) hs)

-- ## Once
abbrev front_count : List NodeLine → ℕ
front_count ls = length (still_front ls)

counted : (lss : List (List NodeLine)) (i : ℕ) → get_or (map front_count lss) i 0 ≡ length (still_front (get_or lss i []))
unfolding still_front
counted [] i = refl
counted (ls ∷ lss) zero = refl
counted (ls ∷ lss) (suc i) = counted lss i

count_long : (lss : List (List NodeLine)) → length (map front_count lss) ≡ length lss
count_long [] = refl
count_long (ls ∷ lss) = ap suc (count_long lss)

pub told_once : OrderAtNodes → OrderIsRun → LinesStandOnce
unfolding lines_at moving_of
told_once at_nodes runs m i a l =
    let lss = all_lines m.records 0 m.histories in
    let es = epoch_order m in
    let ls = lines_at m.records i (history_at m i) in
    let inside : i < length m.histories = omega (arith, l, a.histories) in
    let each = each_made m.records 0 m.histories in
    let there : get_or lss i [] ≡ ls = made_at m.records 0 i m.histories inside ∙ ap (λ (n : ℕ). lines_at m.records n (history_at m i)) (let e : 0 + i ≡ i = omega arith in e) in
    let long : i < length (front_counts lss) = omega (arith, inside, count_long lss, made_length m.records 0 m.histories) in
    let from_one : FromOne es = turned es (follows_from m.nodes (runs m a).0 (reverse es) (runs m a).1) in
    let many : hits i (map event_of es) ≡ moves_in ls =
    hits_are i es from_one ∙ ap length (at_nodes m i a l) ∙ moves_are m (i + 1) m.records (none_taken m.records) i 0 [] (history_at m i) in
    filter-append (λ (x : NodeLine). x.index == i) (fronts lss) (led lss (front_counts lss) (map event_of es))
    ∙ ap (λ (x : List NodeLine). x ++ of_node i (led lss (front_counts lss) (map event_of es)))
    (ap (λ (n : ℕ). of_node n (fronts lss)) (let e : i ≡ 0 + i = omega arith in e) ∙ fronts_at 0 i lss each ∙ ap still_front there)
    ∙ ap (λ (x : List NodeLine). still_front ls ++ x)
    (led_at i lss (front_counts lss) (map event_of es) each long
    ∙ (λ k. groups (drop ((counted lss i ∙ ap (λ (x : List NodeLine). length (still_front x)) there) k) (there k)) (many k)))
    ∙ all_groups ls
