-- A caller's record goes along with the lists of its pipes, and with what was heard ahead.
use Rattle.std.proofs.Common.{◌≡◌, ◌≢◌, ⊎_elim, ℕ, suc, zero, ◌+◌, ◌-◌, ◌<◌, ◌≤◌, ◌==◌, Bool, true, false, List, [], ◌∷◌, ◌++◌, length, map, refl, sym, ap, ◌∙◌, subst, arith}
use Rattle.std.proofs.Common.{get_or, set, cond, append-nil}
use Rattle.std.specs.Prelude.{Ok, Option, Some, None, IfSome}
use Rattle.std.specs.List.{All, remove}
use Rattle.std.proofs.lemmas.List.{append_assoc, length-set, get_or-set_same, get_or-set_other}
use Rattle.journal_core.specs.declared.request.Request.{Request}
use Rattle.journal_core.specs.declared.heard.Heard.{Heard}
use Rattle.journal_core.specs.declared.peer_call.PeerCall.{PeerCall}
use Rattle.journal_core.specs.Peers.{FitsHeard}
use Rattle.journal_history.specs.Same.{same_request}
use Rattle.journal_history.proofs.SameLaws.{request_same}
use Rattle.journal_history.specs.declared.record.Record.TheVariants.{Call, Outcome}
use Rattle.journal_history.specs.declared.record.Told.{Told}
use Rattle.journal_history.specs.declared.record.Told.TheVariants as told
use Rattle.mesh.specs.Matches.{reaches}
use Rattle.mesh.proofs.Lists.{cond_true, cond_false, same_test, other_test}
use Rattle.play_calls.specs.Logs.{LogView, with_line}
use Rattle.play_pipes.specs.Calls.{Calls, Answer, gained}
use Rattle.play_pipes.specs.Desks.{AreNodes}
use Rattle.play_pipes.specs.PipeLines.{Stands}
use Rattle.play_pipes.specs.PipeSeats.{asked_calls, round_calls, ahead_at, Leads, HearsAhead, HearsOne, LeadsOn, TiedTo}
use Rattle.play_pipes.proofs.DeskLaws.{same_or}
use Rattle.play_pipes.proofs.PipeLineLaws.{told_more, told_off}
use Rattle.play_threads.proofs.SeatLaws.{outcome_apart}

-- ## What was heard ahead of one node
picked : (b : Bool) (x : Request × Heard) (xs ys : Calls) → cond b (x ∷ (xs ++ ys)) (xs ++ ys) ≡ cond b (x ∷ xs) xs ++ ys
picked true x xs ys = refl
picked false x xs ys = refl

ahead_snoc : (k : ℕ) (pre : List PeerCall) (c : PeerCall) → ahead_at k (pre ++ c ∷ []) ≡ ahead_at k pre ++ ahead_at k (c ∷ [])
ahead_snoc k [] c = refl
ahead_snoc k (p ∷ pre) c =
    ap (λ (l : Calls). cond (p.node == k) ((p.request, p.heard) ∷ l) l) (ahead_snoc k pre c) ∙ picked (p.node == k) (p.request, p.heard) (ahead_at k pre) (ahead_at k (c ∷ []))

ahead_here : (k : ℕ) (c : PeerCall) (cs : List PeerCall) → c.node ≡ k → ahead_at k (c ∷ cs) ≡ (c.request, c.heard) ∷ ahead_at k cs
ahead_here k c cs e = cond_true (c.node == k) ((c.request, c.heard) ∷ ahead_at k cs) (ahead_at k cs) (same_test c.node k e)

ahead_else : (k : ℕ) (c : PeerCall) (cs : List PeerCall) → c.node ≢ k → ahead_at k (c ∷ cs) ≡ ahead_at k cs
ahead_else k c cs n = cond_false (c.node == k) ((c.request, c.heard) ∷ ahead_at k cs) (ahead_at k cs) (other_test c.node k n)

abbrev call_to : ℕ → Request → Heard → PeerCall
call_to node r heard = record { node = node; request = r; heard = heard }

-- ## The list of one node gains a call
abbrev grown : ℕ → Request → Heard → List Calls → List Calls
grown node r heard lists = gained (node ∷ []) r (Ok heard ∷ []) lists

grown_long : (node : ℕ) (r : Request) (heard : Heard) (lists : List Calls) → length (grown node r heard lists) ≡ length lists
grown_long node r heard lists = length-set lists (node - 1) (get_or lists (node - 1) [] ++ (r, heard) ∷ [])

grown_here : (node : ℕ) (r : Request) (heard : Heard) (lists : List Calls) (i : ℕ) → i + 1 ≡ node → i < length lists → get_or (grown node r heard lists) i [] ≡ get_or lists i [] ++ (r, heard) ∷ []
grown_here node r heard lists i e lt =
    let at : node - 1 ≡ i = omega (arith, e) in
    ap (λ j. get_or (set lists j (get_or lists j [] ++ (r, heard) ∷ [])) i []) at ∙ get_or-set_same lists i (get_or lists i [] ++ (r, heard) ∷ []) [] lt

grown_else : (node : ℕ) (r : Request) (heard : Heard) (lists : List Calls) (i : ℕ) → 1 ≤ node → i + 1 ≢ node → get_or (grown node r heard lists) i [] ≡ get_or lists i []
grown_else node r heard lists i low n =
    get_or-set_other lists (node - 1) i (get_or lists (node - 1) [] ++ (r, heard) ∷ []) [] (λ e. n (omega (arith, e, low)))

-- one more is asked ahead
leads_more : (node : ℕ) (r : Request) (heard : Heard) (fronts : List Calls) (pre : List PeerCall) (lists : List Calls) → 1 ≤ node → Leads fronts pre lists
    → Leads fronts (pre ++ call_to node r heard ∷ []) (grown node r heard lists)
leads_more node r heard fronts pre lists low l = (
  l.0 ∙ sym (grown_long node r heard lists),
  λ i lt.
      let long = grown_long node r heard lists in
      let within : i < length lists = omega (arith, lt, long) in
      let c : PeerCall = call_to node r heard in
      let front : Calls = get_or fronts i [] in
      ⊎_elim
      (λ (x : i + 1 ≡ node).
      grown_here node r heard lists i x within ∙ ap (λ z. z ++ (r, heard) ∷ []) (l.1 i within) ∙ append_assoc front (ahead_at (i + 1) pre) ((r, heard) ∷ [])
      ∙ ap (λ z. front ++ (ahead_at (i + 1) pre ++ z)) (sym (ahead_here (i + 1) c [] (sym x))) ∙ ap (λ z. front ++ z) (sym (ahead_snoc (i + 1) pre c)))
      (λ (x : i + 1 ≢ node).
      grown_else node r heard lists i low x ∙ l.1 i within ∙ ap (λ z. front ++ z) (sym (append-nil (ahead_at (i + 1) pre)))
      ∙ ap (λ z. front ++ (ahead_at (i + 1) pre ++ z)) (sym (ahead_else (i + 1) c [] (λ e. x (sym e)))) ∙ ap (λ z. front ++ z) (sym (ahead_snoc (i + 1) pre c)))
      (same_or (i + 1) node),
)

leads_all : (nodes : List ℕ) (r : Request) (heards : List Heard) (fronts : List Calls) (pre : List PeerCall) (lists : List Calls) → ((k : ℕ) → k < length nodes → 1 ≤ get_or nodes k 0)
    → Leads fronts pre lists → Leads fronts (pre ++ asked_calls nodes r heards) (gained nodes r (map (λ h. Ok h) heards) lists)
leads_all [] r heards fronts pre lists low l = subst (λ a. Leads fronts a lists) (sym (append-nil pre)) l
leads_all (n ∷ ns) r [] fronts pre lists low l = subst (λ a. Leads fronts a lists) (sym (append-nil pre)) l
leads_all (n ∷ ns) r (h ∷ hs) fronts pre lists low l =
    let new : List Calls = grown n r h lists in
    let first : Leads fronts (pre ++ call_to n r h ∷ []) new = leads_more n r h fronts pre lists (low 0 (omega arith)) l in
    subst (λ a. Leads fronts a (gained ns r (map (λ h. Ok h) hs) new)) (append_assoc pre (call_to n r h ∷ []) (asked_calls ns r hs))
    (leads_all ns r hs fronts (pre ++ call_to n r h ∷ []) new (λ k lt. low (suc k) (omega (arith, lt))) first)

-- the first of those ahead is made
leads_taken : (node : ℕ) (r : Request) (heard : Heard) (fronts : List Calls) (ahead : List PeerCall) (lists : List Calls) → 1 ≤ node → Leads fronts (call_to node r heard ∷ ahead) lists
    → Leads (grown node r heard fronts) ahead lists
leads_taken node r heard fronts ahead lists low l = (
  grown_long node r heard fronts ∙ l.0,
  λ i lt.
      let long = l.0 in
      let within : i < length fronts = omega (arith, lt, long) in
      let c : PeerCall = call_to node r heard in
      let front : Calls = get_or fronts i [] in
      ⊎_elim
      (λ (x : i + 1 ≡ node).
      l.1 i lt ∙ ap (λ z. front ++ z) (ahead_here (i + 1) c ahead (sym x)) ∙ sym (append_assoc front ((r, heard) ∷ []) (ahead_at (i + 1) ahead))
      ∙ ap (λ z. z ++ ahead_at (i + 1) ahead) (sym (grown_here node r heard fronts i x within)))
      (λ (x : i + 1 ≢ node).
      l.1 i lt ∙ ap (λ z. front ++ z) (ahead_else (i + 1) c ahead (λ e. x (sym e))) ∙ ap (λ z. z ++ ahead_at (i + 1) ahead) (sym (grown_else node r heard fronts i low x)))
      (same_or (i + 1) node),
)

-- ## What is heard
pub hears_ahead : (nodes : List ℕ) (r : Request) (heards : List Heard) (answers : List Answer) (old new : List Calls) (count : ℕ) → AreNodes count nodes → new ≡ gained nodes r answers old
    → answers ≡ map (λ h. Ok h) heards → HearsAhead old (asked_calls nodes r heards) new
hears_ahead nodes r heards answers old new count are e f fronts l =
    subst (Leads fronts (asked_calls nodes r heards)) (sym (e ∙ ap (λ a. gained nodes r a old) f)) (leads_all nodes r heards fronts [] old are.low l)

pub hears_taken : (node : ℕ) (r : Request) (heard : Heard) (ahead ahead' : List PeerCall) (lists : List Calls) → 1 ≤ node → ahead ≡ call_to node r heard ∷ ahead'
    → HearsOne node r heard ahead lists ahead' lists
hears_taken node r heard ahead ahead' lists low e fronts l = leads_taken node r heard fronts ahead' lists low (subst (λ a. Leads fronts a lists) e l)

pub hears_asked : (node : ℕ) (r : Request) (heard : Heard) (ahead asked ahead' : List PeerCall) (old new : List Calls) → 1 ≤ node → ahead ≡ [] → HearsAhead old asked new
    → asked ≡ call_to node r heard ∷ ahead' → HearsOne node r heard ahead old ahead' new
hears_asked node r heard ahead asked ahead' old new low none more e fronts l =
    leads_taken node r heard fronts ahead' new low (subst (λ a. Leads fronts a new) e (more fronts (subst (λ a. Leads fronts a old) none l)))

pub none_asked : (nodes : List ℕ) (o : Option Request) (heards : List Heard) (calls : List PeerCall) → round_calls nodes o heards ≡ calls → length nodes ≡ 0 → calls ≡ []
none_asked [] None heards calls e n = sym e
none_asked [] (Some r) heards calls e n = sym e
none_asked (x ∷ nodes) o heards calls e n = absurd (omega (arith, n))

-- ## The first of those ahead is handed out
pub taken : (nodes : List ℕ) (heards : List Heard) (o : Option Request) (asked r : Request) (node : ℕ) (heard : Heard) → o ≡ Some asked → same_request asked r ≡ true → 0 < length nodes
    → 0 < length heards → node ≡ get_or nodes 0 0 → heard ≡ get_or heards 0 heard → round_calls nodes o heards ≡ call_to node r heard ∷ round_calls (remove nodes 0) o (remove heards 0)
taken [] heards o asked r node heard some same n h at is = absurd (omega (arith, n))
taken (x ∷ nodes) [] o asked r node heard some same n h at is = absurd (omega (arith, h))
taken (x ∷ nodes) (y ∷ heards) o asked r node heard some same n h at is =
    let e : asked ≡ r = request_same asked r same in
    let all : o ≡ Some r = some ∙ ap (λ q. Some q) e in
    ap (λ q. round_calls (x ∷ nodes) q (y ∷ heards)) all ∙ (λ i. call_to (sym at i) r (sym is i) ∷ asked_calls nodes r heards) ∙ ap (λ q. call_to node r heard ∷ round_calls nodes q heards) (sym all)

pub taken_fits : (heards : List Heard) (o : Option Request) (asked r : Request) (heard : Heard) → o ≡ Some asked → same_request asked r ≡ true → 0 < length heards → heard ≡ get_or heards 0 heard
    → IfSome o (λ q. All (λ (h : Heard). FitsHeard q h) heards) → FitsHeard r heard
taken_fits heards o asked r heard some same lt is all =
    let each : All (λ (h : Heard). FitsHeard asked h) heards = subst (λ q. IfSome q (λ z. All (λ (h : Heard). FitsHeard z h) heards)) some all in
    subst (λ (p : Request × Heard). FitsHeard p.0 p.1) (λ i. (request_same asked r same i, sym is i)) (each 0 heard lt)

pub left_fits : (heards : List Heard) (o : Option Request) → IfSome o (λ q. All (λ (h : Heard). FitsHeard q h) heards) → 0 < length heards
    → IfSome o (λ q. All (λ (h : Heard). FitsHeard q h) (remove heards 0))
left_fits heards None all lt = tt
left_fits [] (Some q) all lt = absurd (omega (arith, lt))
left_fits (h ∷ heards) (Some q) all lt = λ i d l. all (suc i) d (omega (arith, l))

-- ## Nodes by rising numbers
at_first : (P : ℕ → Type 0) (node k : ℕ) → P node → k < 1 → P (get_or (node ∷ []) k 0)
at_first P node zero p lt = p
at_first P node (suc k) p lt = absurd (omega (arith, lt))

pub one_node : (count node : ℕ) → 1 ≤ node → node ≤ count → AreNodes count (node ∷ [])
one_node count node low high =
    record {
      low = λ k lt. at_first (λ n. 1 ≤ n) node k low lt;
      high = λ k lt. at_first (λ n. n ≤ count) node k high lt;
      rising = λ j k less lt. absurd (omega (arith, less, lt));
    }

pub no_nodes : (count : ℕ) → AreNodes count []
no_nodes count = record { low = λ k lt. absurd (omega (arith, lt)); high = λ k lt. absurd (omega (arith, lt)); rising = λ j k less lt. absurd (omega (arith, lt)) }

at_snoc : (P : ℕ → Type 0) (xs : List ℕ) (x k : ℕ) → ((j : ℕ) → j < length xs → P (get_or xs j 0)) → P x → k < length (xs ++ x ∷ []) → P (get_or (xs ++ x ∷ []) k 0)
at_snoc P [] x zero old new lt = new
at_snoc P [] x (suc k) old new lt = absurd (omega (arith, lt))
at_snoc P (y ∷ xs) x zero old new lt = old 0 (omega arith)
at_snoc P (y ∷ xs) x (suc k) old new lt = at_snoc P xs x k (λ j l. old (suc j) (omega (arith, l))) new (omega (arith, lt))

rising_snoc : (xs : List ℕ) (x : ℕ) → ((j k : ℕ) → j < k → k < length xs → get_or xs j 0 < get_or xs k 0) → ((j : ℕ) → j < length xs → get_or xs j 0 < x) → (j k : ℕ) → j < k
    → k < length (xs ++ x ∷ []) → get_or (xs ++ x ∷ []) j 0 < get_or (xs ++ x ∷ []) k 0
rising_snoc [] x old less zero zero l lt = absurd (omega (arith, l))
rising_snoc [] x old less zero (suc k) l lt = absurd (omega (arith, lt))
rising_snoc [] x old less (suc j) zero l lt = absurd (omega (arith, l))
rising_snoc [] x old less (suc j) (suc k) l lt = absurd (omega (arith, lt))
rising_snoc (y ∷ xs) x old less j zero l lt = absurd (omega (arith, l))
rising_snoc (y ∷ xs) x old less zero (suc k) l lt =
    at_snoc (λ n. y < n) xs x k (λ j m. old 0 (suc j) (omega arith) (omega (arith, m))) (less 0 (omega arith)) (omega (arith, lt))
rising_snoc (y ∷ xs) x old less (suc j) (suc k) l lt =
    rising_snoc xs x (λ a b c d. old (suc a) (suc b) (omega (arith, c)) (omega (arith, d))) (λ a m. less (suc a) (omega (arith, m))) j k (omega (arith, l)) (omega (arith, lt))

pub more_nodes : (last node : ℕ) (nodes nodes' : List ℕ) → last < node → nodes' ≡ nodes ++ node ∷ [] → AreNodes last nodes → AreNodes node nodes'
more_nodes last node nodes nodes' less e are =
    subst (AreNodes node) (sym e) (record {
      low = λ k lt. at_snoc (λ n. 1 ≤ n) nodes node k are.low (omega (arith, less)) lt;
      high = λ k lt. at_snoc (λ n. n ≤ node) nodes node k (λ j l. let h = are.high j l in let g : get_or nodes j 0 ≤ last = h in omega (arith, g, less)) (omega arith) lt;
      rising = rising_snoc nodes node are.rising (λ j l. let h = are.high j l in let g : get_or nodes j 0 ≤ last = h in omega (arith, g, less));
    })

pub nodes_within : (last count : ℕ) (nodes : List ℕ) → last ≤ count → AreNodes last nodes → AreNodes count nodes
nodes_within last count nodes le are =
    record { low = are.low; high = λ k lt. let h = are.high k lt in let g : get_or nodes k 0 ≤ last = h in omega (arith, g, le); rising = are.rising }

-- ## A call more in the record
here : (node : ℕ) (r : Request) (t : Told) → t ≢ told.Dropped → reaches node (Call node r t) ≡ true
unfolding reaches
here node r (told.Reply reply) n = same_test node node refl
here node r told.Dropped n = absurd (n refl)
here node r told.Muted n = same_test node node refl
here node r told.Silent n = same_test node node refl

else : (node : ℕ) (r : Request) (t : Told) (k : ℕ) → k ≢ node → reaches k (Call node r t) ≡ false
unfolding reaches
else node r (told.Reply reply) k n = other_test node k (λ e. n (sym e))
else node r told.Dropped k n = refl
else node r told.Muted k n = other_test node k (λ e. n (sym e))
else node r told.Silent k n = other_test node k (λ e. n (sym e))

dropped : (node : ℕ) (r : Request) (k : ℕ) → reaches k (Call node r told.Dropped) ≡ false
unfolding reaches
dropped node r k = refl

pub heard_tied : (log : LogView) (node : ℕ) (r : Request) (t : Told) (heard : Heard) (ahead : List PeerCall) (lists : List Calls) (ahead' : List PeerCall) (lists' : List Calls) → 1 ≤ node
    → node ≤ log.nodes → t ≢ told.Dropped → Stands t heard → HearsOne node r heard ahead lists ahead' lists' → TiedTo log ahead lists → TiedTo (with_line log (Call node r t)) ahead' lists'
heard_tied log node r t heard ahead lists ahead' lists' low high not s hears tied =
    let many = tied.count in
    record {
      fronts = grown node r heard tied.fronts;
      leads = hears tied.fronts tied.leads;
      count = grown_long node r heard tied.fronts ∙ tied.count;
      told = told_more log.past tied.fronts node (Call node r t) r heard low (omega (arith, high, many)) (here node r t not) (else node r t) (refl, s) tied.told;
    }

-- a call that was dropped
pub dropped_tied : (log : LogView) (node : ℕ) (r : Request) (ahead : List PeerCall) (lists : List Calls) → TiedTo log ahead lists → TiedTo (with_line log (Call node r told.Dropped)) ahead lists
dropped_tied log node r ahead lists tied =
    record { fronts = tied.fronts; leads = tied.leads; count = tied.count; told = told_off log.past tied.fronts (Call node r told.Dropped) (dropped node r) tied.told }

-- a result is listed
pub said_tied : (log : LogView) (ahead : List PeerCall) (lists : List Calls) (text : List ℕ) → TiedTo log ahead lists → TiedTo (with_line log (Outcome text)) ahead lists
said_tied log ahead lists text tied =
    record { fronts = tied.fronts; leads = tied.leads; count = tied.count; told = told_off log.past tied.fronts (Outcome text) (λ k. outcome_apart k text) tied.told }

-- a round is announced
pub announced : (ahead ahead' : List PeerCall) (old new : List Calls) → ahead ≡ [] → HearsAhead old ahead' new → LeadsOn ahead old ahead' new
announced ahead ahead' old new none more fronts l = more fronts (subst (λ a. Leads fronts a old) none l)

pub ruleset hears = (hears_ahead, hears_taken, hears_asked, one_node)

pub ruleset takes = (taken, taken_fits, left_fits)

pub ruleset nodes = (no_nodes, more_nodes, nodes_within)

pub ruleset rounds = (announced)
