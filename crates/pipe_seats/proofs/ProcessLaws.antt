-- Processes at the ends of pipes are a cluster.
use Rattle.std.proofs.Common.{ℕ, zero, suc, ◌≡◌, ◌≢◌, ◌+◌, ◌<◌, ◌≤◌, ◌==◌, ◌⊎◌, inl, inr, List, [], ◌∷◌, ◌++◌, map, filter, cond, length, get_or}
use Rattle.std.proofs.Common.{Option, Some, None, Bool, true, false, refl, sym, ap, ◌∙◌, subst, arith, append_assoc, append-nil}
use Rattle.std.proofs.lemmas.Bool.{cases_eq}
use Rattle.std.proofs.lemmas.List.{length-map, map-append, get_or-map}
use Rattle.std.proofs.lemmas.List.Elements.{filter-append}
use Rattle.journal_history.specs.declared.history_line.HistoryLine.{HistoryLine}
use Rattle.journal_history.specs.declared.node_ask.NodeAsk.TheVariants.{Act, Kill, Restart, Arm}
use Rattle.journal_history.specs.declared.node_ask.NodeAnswer.TheVariants.{Replied, Stopped, Done}
use Rattle.journal_history.specs.declared.stop.Stop.TheVariants.{Effects}
use Rattle.journal_history.specs.declared.record.Record.{Record}
use Rattle.journal_history.specs.declared.record.Record.TheVariants.{Call, Late, Operator, Outcome}
use Rattle.mesh.specs.Makers.{IsOperators, IsOfChores}
use Rattle.mesh.specs.Matches.{reached, reaches, lines_of, AreSame, IsSame, AreWithin, CallersWithin}
use Rattle.mesh.proofs.Lists.{cond_true, cond_false, same_test, other_test}
use Rattle.journal_history.specs.Cell.{fresh_cell, IsLocalRun}
use Rattle.pipe_seats.specs.Settled.{settled, NoCopies}
use Rattle.pipe_seats.specs.Carried.{Got, got_line, IsCarried}
use Rattle.pipe_seats.specs.Cluster.{Life, settled_life, no_life, Cluster, IsCluster}
use Rattle.pipe_seats.specs.Lives.{Answered, Cut, NodeLife, line, answered_line, death_lines, life_lines, lives_lines}
use Rattle.pipe_seats.specs.Processes.{own_answered, own_cut, own_lives, AnsweredBelow, CutBelow, LivesBelow, Processes, lives_of, past_of}
use Rattle.pipe_seats.specs.Processes.{AreProcesses, death_record, lives_record, nodes_record, IsClusterOf, ProcessesAreClusters}
use Rattle.pipe_seats.proofs.CarryLaws.{all_carried}
use Rattle.pipe_seats.proofs.LifeLaws.{all_lives}

-- ## The lines of a caller
lines_append : (k : ℕ) (xs ys : List HistoryLine) → lines_of k (xs ++ ys) ≡ lines_of k xs ++ lines_of k ys
unfolding lines_of
lines_append k xs ys = filter-append (λ (h : HistoryLine). h.caller == k) xs ys

own_line : (k : ℕ) (h : HistoryLine) (hs : List HistoryLine) → h.caller ≡ k → lines_of k (h ∷ hs) ≡ h ∷ lines_of k hs
unfolding lines_of
own_line k h hs e = cond_true (h.caller == k) (h ∷ filter (λ (x : HistoryLine). x.caller == k) hs) (filter (λ (x : HistoryLine). x.caller == k) hs) (same_test h.caller k e)

other_line : (k : ℕ) (h : HistoryLine) (hs : List HistoryLine) → h.caller ≢ k → lines_of k (h ∷ hs) ≡ lines_of k hs
unfolding lines_of
other_line k h hs off = cond_false (h.caller == k) (h ∷ filter (λ (x : HistoryLine). x.caller == k) hs) (filter (λ (x : HistoryLine). x.caller == k) hs) (other_test h.caller k off)

no_lines : (k : ℕ) → lines_of k [] ≡ []
unfolding lines_of
no_lines k = refl

-- ## Of a name node
same_name : (k : ℕ) (caller : ℕ) (g : Got) → caller ≡ k → got_line caller g ≡ got_line k g
same_name k caller g e = ap (λ (c : ℕ). got_line c g) e

answered_own : (k : ℕ) (asked : List Answered) → lines_of k (map answered_line asked) ≡ map (got_line k) (own_answered k asked)
answered_own k [] = no_lines k
answered_own k (a ∷ more) = by (cases_eq a.caller k) (answered_own k more)
  where
    got : Got
    got = record { request = a.request; answer = Replied a.reply }

    by : (a.caller ≡ k) ⊎ (a.caller ≢ k) → lines_of k (map answered_line more) ≡ map (got_line k) (own_answered k more)
        → lines_of k (map answered_line (a ∷ more)) ≡ map (got_line k) (own_answered k (a ∷ more))
    by (inl e) rest =
        own_line k (answered_line a) (map answered_line more) e ∙ ap (λ (h : HistoryLine). h ∷ lines_of k (map answered_line more)) (same_name k a.caller got e)
        ∙ ap (λ (hs : List HistoryLine). got_line k got ∷ hs) rest
        ∙ ap (map (got_line k)) (sym (cond_true (a.caller == k) (got ∷ own_answered k more) (own_answered k more) (same_test a.caller k e)))
    by (inr off) rest =
        other_line k (answered_line a) (map answered_line more) off ∙ rest
        ∙ ap (map (got_line k)) (sym (cond_false (a.caller == k) (got ∷ own_answered k more) (own_answered k more) (other_test a.caller k off)))

cut_own : (op k : ℕ) (c : Cut) → (c.caller ≡ k) ⊎ (c.caller ≢ k) → lines_of k (line c.caller (Act false c.request) (Stopped c.effects) ∷ []) ≡ map (got_line k) (own_cut k (Some c))
cut_own op k c (inl e) =
    own_line k (line c.caller (Act false c.request) (Stopped c.effects)) [] e ∙ ap (λ (hs : List HistoryLine). line c.caller (Act false c.request) (Stopped c.effects) ∷ hs) (no_lines k)
    ∙ ap (λ (h : HistoryLine). h ∷ []) (same_name k c.caller (record { request = c.request; answer = Stopped c.effects }) e)
    ∙ ap (map (got_line k)) (sym (cond_true (c.caller == k) (record { request = c.request; answer = Stopped c.effects } ∷ []) [] (same_test c.caller k e)))
cut_own op k c (inr off) =
    other_line k (line c.caller (Act false c.request) (Stopped c.effects)) [] off ∙ no_lines k
    ∙ ap (map (got_line k)) (sym (cond_false (c.caller == k) (record { request = c.request; answer = Stopped c.effects } ∷ []) [] (other_test c.caller k off)))

death_own : (op k : ℕ) (cut : Option Cut) → op ≢ k → lines_of k (death_lines op cut ++ line op Restart Done ∷ []) ≡ map (got_line k) (own_cut k cut)
death_own op k None off = other_line k (line op Kill Done) (line op Restart Done ∷ []) off ∙ other_line k (line op Restart Done) [] off ∙ no_lines k
death_own op k (Some c) off =
    let own : HistoryLine = line c.caller (Act false c.request) (Stopped c.effects) in
    let restart : HistoryLine = line op Restart Done in
    other_line k (line op (Arm 1 (Effects c.effects)) Done) (own ∷ restart ∷ []) off
    ∙ lines_append k (own ∷ []) (restart ∷ []) ∙ ap (λ (hs : List HistoryLine). lines_of k (own ∷ []) ++ hs) (other_line k restart [] off ∙ no_lines k)
    ∙ append-nil (lines_of k (own ∷ [])) ∙ cut_own op k c (cases_eq c.caller k)

life_own : (op k : ℕ) (life : NodeLife) → op ≢ k → lines_of k (life_lines op life) ≡ map (got_line k) (own_answered k life.answered ++ own_cut k life.cut)
life_own op k life off =
    let asked : List HistoryLine = map answered_line life.answered in
    let death : List HistoryLine = death_lines op life.cut in
    ap (lines_of k) (append_assoc asked death (line op Restart Done ∷ []))
    ∙ lines_append k asked (death ++ line op Restart Done ∷ [])
    ∙ ap (λ (hs : List HistoryLine). hs ++ lines_of k (death ++ line op Restart Done ∷ [])) (answered_own k life.answered)
    ∙ ap (λ (hs : List HistoryLine). map (got_line k) (own_answered k life.answered) ++ hs) (death_own op k life.cut off)
    ∙ sym (map-append (got_line k) (own_answered k life.answered) (own_cut k life.cut))

lives_own : (op k : ℕ) (lives : List NodeLife) → op ≢ k → lines_of k (lives_lines op lives) ≡ map (got_line k) (own_lives k lives)
lives_own op k [] off = no_lines k
lives_own op k (life ∷ lives) off =
    lines_append k (life_lines op life) (lives_lines op lives)
    ∙ ap (λ (hs : List HistoryLine). hs ++ lines_of k (lives_lines op lives)) (life_own op k life off)
    ∙ ap (λ (hs : List HistoryLine). map (got_line k) (own_answered k life.answered ++ own_cut k life.cut) ++ hs) (lives_own op k lives off)
    ∙ sym (map-append (got_line k) (own_answered k life.answered ++ own_cut k life.cut) (own_lives k lives))

-- ## All callers
within_append : (n : ℕ) (xs ys : List HistoryLine) → CallersWithin n xs → CallersWithin n ys → CallersWithin n (xs ++ ys)
unfolding CallersWithin
within_append n [] ys h k = k
within_append n (x ∷ xs) ys h k = (h.0, within_append n xs ys h.1 k)

within_one : (n : ℕ) (h : HistoryLine) → h.caller ≤ n → CallersWithin n (h ∷ [])
unfolding CallersWithin
within_one n h l = (l, tt)

within_none : (n : ℕ) → CallersWithin n []
unfolding CallersWithin
within_none n = tt

answered_within : (n : ℕ) (asked : List Answered) → AnsweredBelow n asked → CallersWithin n (map answered_line asked)
answered_within n [] h = within_none n
answered_within n (a ∷ more) h = within_append n (answered_line a ∷ []) (map answered_line more) (within_one n (answered_line a) (let l = h.0 in omega (arith, l))) (answered_within n more h.1)

death_within : (n : ℕ) (cut : Option Cut) → CutBelow n cut → CallersWithin n (death_lines n cut)
death_within n None h = within_one n (line n Kill Done) (omega arith)
death_within n (Some c) h =
    within_append n (line n (Arm 1 (Effects c.effects)) Done ∷ []) (line c.caller (Act false c.request) (Stopped c.effects) ∷ []) (within_one n (line n (Arm 1 (Effects c.effects)) Done) (omega arith))
    (within_one n (line c.caller (Act false c.request) (Stopped c.effects)) (omega (arith, h)))

lives_within : (n : ℕ) (lives : List NodeLife) → LivesBelow n lives → CallersWithin n (lives_lines n lives)
lives_within n [] h = within_none n
lives_within n (life ∷ lives) h =
    within_append n (life_lines n life) (lives_lines n lives)
    (within_append n (map answered_line life.answered ++ death_lines n life.cut) (line n Restart Done ∷ [])
    (within_append n (map answered_line life.answered) (death_lines n life.cut) (answered_within n life.answered h.0) (death_within n life.cut h.1))
    (within_one n (line n Restart Done) (omega arith)))
    (lives_within n lives h.2)

-- ## The operator
none_answered : (op : ℕ) (asked : List Answered) → AnsweredBelow op asked → lines_of op (map answered_line asked) ≡ []
none_answered op [] h = no_lines op
none_answered op (a ∷ more) h = other_line op (answered_line a) (map answered_line more) (λ (e : a.caller ≡ op). let l = h.0 in omega (arith, l, e)) ∙ none_answered op more h.1

abbrev death_line : ℕ → Option Cut → HistoryLine
death_line op None = line op Kill Done
death_line op (Some c) = line op (Arm 1 (Effects c.effects)) Done

death_operated : (op : ℕ) (cut : Option Cut) → CutBelow op cut → lines_of op (death_lines op cut ++ line op Restart Done ∷ []) ≡ death_line op cut ∷ line op Restart Done ∷ []
death_operated op None h = own_line op (line op Kill Done) (line op Restart Done ∷ []) refl ∙ ap (λ (hs : List HistoryLine). line op Kill Done ∷ hs) (own_line op (line op Restart Done) [] refl
    ∙ ap (λ (hs : List HistoryLine). line op Restart Done ∷ hs) (no_lines op))
death_operated op (Some c) h =
    let own : HistoryLine = line c.caller (Act false c.request) (Stopped c.effects) in
    own_line op (line op (Arm 1 (Effects c.effects)) Done) (own ∷ line op Restart Done ∷ []) refl
    ∙ ap (λ (hs : List HistoryLine). line op (Arm 1 (Effects c.effects)) Done ∷ hs)
    (other_line op own (line op Restart Done ∷ []) (λ (e : c.caller ≡ op). omega (arith, h, e)) ∙ own_line op (line op Restart Done) [] refl
    ∙ ap (λ (hs : List HistoryLine). line op Restart Done ∷ hs) (no_lines op))

two_same : (node op : ℕ) (cut : Option Cut) (rs : List Record) (hs : List HistoryLine) → AreSame rs hs
    → AreSame (death_record node cut ∷ Operator node Restart true ∷ rs) (death_line op cut ∷ line op Restart Done ∷ hs)
unfolding AreSame IsSame
two_same node op None rs hs h = ((refl, refl), ((refl, refl), h))
two_same node op (Some c) rs hs h = ((refl, refl), ((refl, refl), h))

none_same : AreSame [] []
unfolding AreSame
none_same = tt

operated_same : (node op : ℕ) (lives : List NodeLife) → LivesBelow op lives → AreSame (lives_record node lives) (lines_of op (lives_lines op lives))
operated_same node op [] h = subst (λ (hs : List HistoryLine). AreSame [] hs) (sym (no_lines op)) none_same
operated_same node op (life ∷ lives) h =
    let asked : List HistoryLine = map answered_line life.answered in
    let death : List HistoryLine = death_lines op life.cut in
    let restart : List HistoryLine = line op Restart Done ∷ [] in
    let one : lines_of op (life_lines op life) ≡ death_line op life.cut ∷ restart =
    ap (lines_of op) (append_assoc asked death restart) ∙ lines_append op asked (death ++ restart)
    ∙ ap (λ (hs : List HistoryLine). hs ++ lines_of op (death ++ restart)) (none_answered op life.answered h.0) ∙ death_operated op life.cut h.1 in
    let whole : lines_of op (lives_lines op (life ∷ lives)) ≡ death_line op life.cut ∷ line op Restart Done ∷ lines_of op (lives_lines op lives) =
    lines_append op (life_lines op life) (lives_lines op lives) ∙ ap (λ (hs : List HistoryLine). hs ++ lines_of op (lives_lines op lives)) one in
    subst (λ (hs : List HistoryLine). AreSame (lives_record node (life ∷ lives)) hs) (sym whole)
    (two_same node op life.cut (lives_record node lives) (lines_of op (lives_lines op lives)) (operated_same node op lives h.2))

-- what reaches a node of what was done to all
reached_append : (n : ℕ) (xs ys : List Record) → reached n (xs ++ ys) ≡ reached n xs ++ reached n ys
unfolding reached
reached_append n xs ys = filter-append (reaches n) xs ys

record_test : (n : ℕ) (cut : Option Cut) (m : ℕ) → reaches n (death_record m cut) ≡ (m == n)
unfolding reaches
record_test n None m = refl
record_test n (Some c) m = refl

reached_one : (n m : ℕ) (cut : Option Cut) (rs : List Record) → (m == n) ≡ true
    → reached n (death_record m cut ∷ Operator m Restart true ∷ rs) ≡ death_record m cut ∷ Operator m Restart true ∷ reached n rs
unfolding reached reaches
reached_one n m cut rs e =
    cond_true (reaches n (death_record m cut)) (death_record m cut ∷ filter (reaches n) (Operator m Restart true ∷ rs)) (filter (reaches n) (Operator m Restart true ∷ rs)) (record_test n cut m ∙ e)
    ∙ ap (λ (xs : List Record). death_record m cut ∷ xs) (cond_true (m == n) (Operator m Restart true ∷ filter (reaches n) rs) (filter (reaches n) rs) e)

reached_none : (n m : ℕ) (cut : Option Cut) (rs : List Record) → (m == n) ≡ false → reached n (death_record m cut ∷ Operator m Restart true ∷ rs) ≡ reached n rs
unfolding reached reaches
reached_none n m cut rs e =
    cond_false (reaches n (death_record m cut)) (death_record m cut ∷ filter (reaches n) (Operator m Restart true ∷ rs)) (filter (reaches n) (Operator m Restart true ∷ rs)) (record_test n cut m ∙ e)
    ∙ cond_false (m == n) (Operator m Restart true ∷ filter (reaches n) rs) (filter (reaches n) rs) e

reached_nil : (n : ℕ) → reached n [] ≡ []
unfolding reached
reached_nil n = refl

reached_own : (n : ℕ) (lives : List NodeLife) → reached n (lives_record n lives) ≡ lives_record n lives
reached_own n [] = reached_nil n
reached_own n (life ∷ lives) =
    reached_one n n life.cut (lives_record n lives) (same_test n n refl) ∙ ap (λ (xs : List Record). death_record n life.cut ∷ Operator n Restart true ∷ xs) (reached_own n lives)

reached_other : (n m : ℕ) (lives : List NodeLife) → m ≢ n → reached n (lives_record m lives) ≡ []
reached_other n m [] off = reached_nil n
reached_other n m (life ∷ lives) off = reached_none n m life.cut (lives_record m lives) (other_test m n off) ∙ reached_other n m lives off

reached_before : (n m : ℕ) (all : List (List NodeLife)) → n < m → reached n (nodes_record m all) ≡ []
reached_before n m [] l = reached_nil n
reached_before n m (lives ∷ more) l =
    reached_append n (lives_record m lives) (nodes_record (suc m) more)
    ∙ ap (λ (rs : List Record). rs ++ reached n (nodes_record (suc m) more)) (reached_other n m lives (λ (e : m ≡ n). omega (arith, l, e)))
    ∙ reached_before n (suc m) more (omega (arith, l))

reached_node : (m i : ℕ) (all : List (List NodeLife)) → i < length all → reached (m + i) (nodes_record m all) ≡ lives_record (m + i) (get_or all i [])
reached_node m i [] l = absurd (omega (arith, l))
reached_node m zero (lives ∷ more) l =
    let here : m + 0 ≡ m = omega arith in
    subst (λ (n : ℕ). reached n (nodes_record m (lives ∷ more)) ≡ lives_record n lives) (sym here)
    (reached_append m (lives_record m lives) (nodes_record (suc m) more) ∙ ap (λ (rs : List Record). rs ++ reached m (nodes_record (suc m) more)) (reached_own m lives)
    ∙ ap (λ (rs : List Record). lives_record m lives ++ rs) (reached_before m (suc m) more (omega arith)) ∙ append-nil (lives_record m lives))
reached_node m (suc i) (lives ∷ more) l =
    let on : suc m + i ≡ m + suc i = omega arith in
    let rest : reached (m + suc i) (nodes_record (suc m) more) ≡ lives_record (m + suc i) (get_or more i []) =
    subst (λ (n : ℕ). reached n (nodes_record (suc m) more) ≡ lives_record n (get_or more i [])) on (reached_node (suc m) i more (omega (arith, l))) in
    reached_append (m + suc i) (lives_record m lives) (nodes_record (suc m) more)
    ∙ ap (λ (rs : List Record). rs ++ reached (m + suc i) (nodes_record (suc m) more)) (reached_other (m + suc i) m lives (λ (e : m ≡ m + suc i). omega (arith, e)))
    ∙ rest

operators_append : (xs ys : List Record) → IsOperators xs → IsOperators ys → IsOperators (xs ++ ys)
unfolding IsOperators
operators_append [] ys h k = k
operators_append (Operator node ask done ∷ xs) ys h k = (h.0, operators_append xs ys h.1 k)
operators_append (Call node r t ∷ xs) ys h k = absurd h
operators_append (Late node r ∷ xs) ys h k = absurd h
operators_append (Outcome text ∷ xs) ys h k = absurd h

lives_operate : (node : ℕ) (lives : List NodeLife) → IsOperators (lives_record node lives)
unfolding IsOperators
lives_operate node [] = tt
lives_operate node (life ∷ lives) = by life.cut (lives_operate node lives)
  where
    by : (cut : Option Cut) → IsOperators (lives_record node lives) → IsOperators (death_record node cut ∷ Operator node Restart true ∷ lives_record node lives)
    by None h = (tt, (tt, h))
    by (Some c) h = (tt, (tt, h))

no_operators : IsOperators []
unfolding IsOperators
no_operators = tt

nodes_operate : (m : ℕ) (all : List (List NodeLife)) → IsOperators (nodes_record m all)
nodes_operate m [] = no_operators
nodes_operate m (lives ∷ more) = operators_append (lives_record m lives) (nodes_record (suc m) more) (lives_operate m lives) (nodes_operate (suc m) more)

records_append : (n : ℕ) (xs ys : List Record) → AreWithin n xs → AreWithin n ys → AreWithin n (xs ++ ys)
unfolding AreWithin
records_append n [] ys h k = k
records_append n (x ∷ xs) ys h k = (h.0, records_append n xs ys h.1 k)

lives_records : (n node : ℕ) (lives : List NodeLife) → 1 ≤ node → node ≤ n → AreWithin n (lives_record node lives)
unfolding AreWithin
lives_records n node [] low high = tt
lives_records n node (life ∷ lives) low high = by life.cut (lives_records n node lives low high)
  where
    by : (cut : Option Cut) → AreWithin n (lives_record node lives) → AreWithin n (death_record node cut ∷ Operator node Restart true ∷ lives_record node lives)
    by None h = ((low, high), ((low, high), h))
    by (Some c) h = ((low, high), ((low, high), h))

no_records : (n : ℕ) → AreWithin n []
unfolding AreWithin
no_records n = tt

nodes_records : (n m : ℕ) (all : List (List NodeLife)) → 1 ≤ m → m + length all ≤ n + 1 → AreWithin n (nodes_record m all)
nodes_records n m [] low high = no_records n
nodes_records n m (lives ∷ more) low high =
    records_append n (lives_record m lives) (nodes_record (suc m) more) (lives_records n m lives low (omega (arith, high))) (nodes_records n (suc m) more (omega arith) (omega (arith, high)))

-- ## The lives of name nodes
copies_none : (node : ℕ) (rs : List Record) (gots : List Got) → IsCarried node rs gots → NoCopies rs
copies_none node [] gots h = tt
copies_none node (Call m r t ∷ rs) gots (inl h) = copies_none node rs h.1.more h.1.rest
copies_none node (Call m r t ∷ rs) gots (inr h) = copies_none node rs gots h.1
copies_none node (Outcome text ∷ rs) gots h = copies_none node rs gots h
copies_none node (Late m r ∷ rs) gots h = absurd h
copies_none node (Operator m ask done ∷ rs) gots h = absurd h

abbrev life_with : List Record → List Bool → Life
life_with rs arrived = record { past = rs; arrived = arrived }

module _ (arrived : ℕ → List Bool) where
  abbrev numbered : ℕ → List (List Record) → List Life
  numbered k [] = []
  numbered k (rs ∷ more) = life_with rs (arrived k) ∷ numbered (suc k) more

  numbered_past : (k : ℕ) (all : List (List Record)) → map (λ (l : Life). l.past) (numbered k all) ≡ all
  numbered_past k [] = refl
  numbered_past k (rs ∷ more) = ap (λ (x : List (List Record)). rs ∷ x) (numbered_past (suc k) more)

  numbered_count : (k : ℕ) (all : List (List Record)) → length (numbered k all) ≡ length all
  numbered_count k [] = refl
  numbered_count k (rs ∷ more) = ap suc (numbered_count (suc k) more)

  numbered_at : (k i : ℕ) (all : List (List Record)) → i < length all → get_or (numbered k all) i no_life ≡ life_with (get_or all i []) (arrived (k + i))
  numbered_at k i [] l = absurd (omega (arith, l))
  numbered_at k zero (rs ∷ more) l = let here : k ≡ k + 0 = omega arith in ap (λ (n : ℕ). life_with rs (arrived n)) here
  numbered_at k (suc i) (rs ∷ more) l =
      let on : suc k + i ≡ k + suc i = omega arith in
      numbered_at (suc k) i more (omega (arith, l)) ∙ ap (λ (n : ℕ). life_with (get_or more i []) (arrived n)) on

-- ## All together
module _ (p : Processes) (h : AreProcesses p) where
  abbrev op : ℕ
  op = length p.leads

  abbrev settles : (k : ℕ) → (arrived : List Bool) × ((node : ℕ) → AreSame (reached node (settled arrived (past_of p k))) (map (got_line k) (own_lives k (lives_of p node))))
  settles k = all_carried k (past_of p k) (λ node. own_lives k (lives_of p node)) (h.carried k)

  abbrev arrivals : ℕ → List Bool
  arrivals k = (settles k).0

  abbrev cluster : Cluster
  cluster = record { nodes = length p.nodes; histories = map (lives_lines (length p.leads)) p.nodes; lives = numbered arrivals 0 p.leads; operator = nodes_record 1 p.nodes }

  history_is : (i : ℕ) → i < length p.nodes → get_or (map (lives_lines (length p.leads)) p.nodes) i [] ≡ lives_lines (length p.leads) (get_or p.nodes i [])
  history_is i l = get_or-map (lives_lines (length p.leads)) p.nodes i [] [] l

  count_is : length (numbered arrivals 0 p.leads) ≡ length p.leads
  count_is = numbered_count arrivals 0 p.leads

  below : (k : ℕ) → k < length (numbered arrivals 0 p.leads) → k < length p.leads
  below k l = omega (arith, l, count_is)

  life_is : (k : ℕ) → k < length (numbered arrivals 0 p.leads) → get_or (numbered arrivals 0 p.leads) k no_life ≡ life_with (past_of p k) (arrivals k)
  life_is k l = let e : 0 + k ≡ k = omega arith in numbered_at arrivals 0 k p.leads (below k l) ∙ ap (λ (n : ℕ). life_with (past_of p k) (arrivals n)) e

  lives_are : (i : ℕ) → lives_of p (i + 1) ≡ get_or p.nodes i []
  lives_are i = let e : i + 1 ≡ suc i = omega arith in ap (lives_of p) e

  pipe : (i k : ℕ) → i < length p.nodes → k < length p.leads → AreSame (reached (i + 1) (settled (arrivals k) (past_of p k))) (lines_of k (lives_lines (length p.leads) (get_or p.nodes i [])))
  pipe i k l m =
      let apart : length p.leads ≢ k = λ (e : length p.leads ≡ k). omega (arith, m, e) in
      let same : map (got_line k) (own_lives k (lives_of p (i + 1))) ≡ lines_of k (lives_lines (length p.leads) (get_or p.nodes i [])) =
      ap (λ (ls : List NodeLife). map (got_line k) (own_lives k ls)) (lives_are i) ∙ sym (lives_own (length p.leads) k (get_or p.nodes i []) apart) in
      subst (λ (hs : List HistoryLine). AreSame (reached (i + 1) (settled (arrivals k) (past_of p k))) hs) same ((settles k).1 (i + 1))

  operator : (i : ℕ) → i < length p.nodes → AreSame (reached (i + 1) (nodes_record 1 p.nodes)) (lines_of (length p.leads) (lives_lines (length p.leads) (get_or p.nodes i [])))
  operator i l =
      let e : 1 + i ≡ i + 1 = omega arith in
      let reached_so : reached (i + 1) (nodes_record 1 p.nodes) ≡ lives_record (i + 1) (get_or p.nodes i []) =
      subst (λ (n : ℕ). reached n (nodes_record 1 p.nodes) ≡ lives_record n (get_or p.nodes i [])) e (reached_node 1 i p.nodes l) in
      subst (λ (rs : List Record). AreSame rs (lines_of (length p.leads) (lives_lines (length p.leads) (get_or p.nodes i [])))) (sym reached_so)
      (operated_same (i + 1) (length p.leads) (get_or p.nodes i []) (h.callers i l))

  is_cluster : IsCluster cluster
  is_cluster = record {
    count = length-map p.nodes (lives_lines (length p.leads));
    local = λ i l. subst (λ (hs : List HistoryLine). IsLocalRun fresh_cell hs) (sym (history_is i l)) (all_lives (length p.leads) (get_or p.nodes i []) (h.lives i l));
    callers = λ i l. subst (λ (hs : List HistoryLine). CallersWithin (length (numbered arrivals 0 p.leads)) hs) (sym (history_is i l))
        (subst (λ (n : ℕ). CallersWithin n (lives_lines (length p.leads) (get_or p.nodes i []))) (sym count_is) (lives_within (length p.leads) (get_or p.nodes i []) (h.callers i l)));
    made = λ k l. subst (λ (x : Life). IsOfChores (length p.nodes) x.past) (sym (life_is k l)) (h.made k (below k l));
    within = λ k l. subst (λ (x : Life). AreWithin (length p.nodes) x.past) (sym (life_is k l)) (h.within k (below k l));
    no_copies = λ k l. subst (λ (x : Life). NoCopies x.past) (sym (life_is k l)) (copies_none 0 (past_of p k) (own_lives k (lives_of p 0)) (h.carried k 0));
    pipes = λ i k l m. subst (λ (hs : List HistoryLine). AreSame (reached (i + 1) (settled_life (get_or (numbered arrivals 0 p.leads) k no_life))) (lines_of k hs)) (sym (history_is i l))
        (subst (λ (x : Life). AreSame (reached (i + 1) (settled_life x)) (lines_of k (lives_lines (length p.leads) (get_or p.nodes i [])))) (sym (life_is k m)) (pipe i k l (below k m)));
    operated = nodes_operate 1 p.nodes;
    operator_within = nodes_records (length p.nodes) 1 p.nodes (omega arith) (omega arith);
    operator_same = λ i l. subst (λ (hs : List HistoryLine). AreSame (reached (i + 1) (nodes_record 1 p.nodes)) (lines_of (length (numbered arrivals 0 p.leads)) hs)) (sym (history_is i l))
        (subst (λ (n : ℕ). AreSame (reached (i + 1) (nodes_record 1 p.nodes)) (lines_of n (lives_lines (length p.leads) (get_or p.nodes i [])))) (sym count_is) (operator i l));
  }

pub are_clusters : ProcessesAreClusters
are_clusters p h = (cluster p h, record { is = is_cluster p h; nodes = refl; histories = refl; lives = numbered_past (arrivals p h) 0 p.leads })
