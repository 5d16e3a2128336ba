-- A record is made by some chores just where some stand is left that follows it to its end.
use Rattle.std.proofs.Common.{◌≡◌, ◌≢◌, ℕ, ◌+◌, ◌-◌, ◌==◌, List, [], ◌∷◌, ◌++◌, Bool, true, false, cond, length, refl, sym, ap, ◌∙◌, subst, arith, ◌⊎◌, inl, inr, Some, None, Option, option_map}
use Rattle.std.specs.Prelude.{is_some, position, nat_lt, ◌&&◌}
use Rattle.std.proofs.lemmas.Bool.{true≢false, and_parts, and_from, eqb-true, eq-eqb, lt-ltb, ltb-true}
use Rattle.journal_core.specs.declared.request.Request.{Request}
use Rattle.journal_core.specs.declared.request.Request.TheVariants as request
use Rattle.journal_core.specs.declared.reply.Reply.TheVariants as reply
use Rattle.writer_core.specs.declared.task.Task.{Task}
use Rattle.writer_core.specs.declared.task.Task.TheVariants as task
use Rattle.writer_core.specs.Views.{WriterView}
use Rattle.writer_core.specs.Writer.{Began, writer_begun, next_call, HasBody, is_writing, is_under_way, if_writing, log_limit, log_begins}
use Rattle.writer_core.specs.Left.{IsLive}
use Rattle.writer_core.proofs.LiveLaws.{begun_live, heard_live, someone_called}
use Rattle.journal_history.specs.Same.{same_request}
use Rattle.journal_history.proofs.SameLaws.{request_same, request_self}
use Rattle.journal_history.specs.declared.record.Record.{Record}
use Rattle.journal_history.specs.declared.record.Record.TheVariants.{Call}
use Rattle.journal_history.specs.declared.record.Told.{Told}
use Rattle.journal_history.specs.declared.record.Told.TheVariants as told
use Rattle.mesh.specs.Makers.{Chore, Writes, Tails, heard_of, maker_of, maker_hears, IsMade, HaveBodies}
use Rattle.mesh_judge.specs.declared.making.Pass.{Pass}
use Rattle.mesh_judge.specs.Leading.{Stand, between, in_pass, CanMake, SomeMake, AllLive, log_of, tasks_for, is_call, hears, hear_begun, is_read}
use Rattle.mesh_judge.specs.Leading.{after_pass, next_pass, reads, pass_from, begins, goes_on_in, goes_on, all_go_on}
use Rattle.mesh_judge.proofs.Chores.{call_there, waits, passes, tails, heard, begun, makes_call, makes_begun, makes_tail, makes_read, read_made, Read_by, request_called, shorter}

-- ## Lists of stands
pub some_left : (us vs : List Stand) (rs : List Record) → SomeMake us rs → SomeMake (us ++ vs) rs
some_left [] vs rs h = absurd h
some_left (u ∷ us) vs rs (inl h) = inl h
some_left (u ∷ us) vs rs (inr h) = inr (some_left us vs rs h)

pub some_right : (us vs : List Stand) (rs : List Record) → SomeMake vs rs → SomeMake (us ++ vs) rs
some_right [] vs rs h = h
some_right (u ∷ us) vs rs h = inr (some_right us vs rs h)

pub some_split : (us vs : List Stand) (rs : List Record) → SomeMake (us ++ vs) rs → SomeMake us rs ⊎ SomeMake vs rs
some_split [] vs rs h = inr h
some_split (u ∷ us) vs rs (inl h) = inl (inl h)
some_split (u ∷ us) vs rs (inr h) = by (some_split us vs rs h)
  where
    by : SomeMake us rs ⊎ SomeMake vs rs → SomeMake (u ∷ us) rs ⊎ SomeMake vs rs
    by (inl g) = inl (inr g)
    by (inr g) = inr g

pub some_map : (ss : List Stand) (rs qs : List Record) → ((s : Stand) → CanMake s rs → CanMake s qs) → SomeMake ss rs → SomeMake ss qs
some_map [] rs qs f h = h
some_map (s ∷ ss) rs qs f (inl h) = inl (f s h)
some_map (s ∷ ss) rs qs f (inr h) = inr (some_map ss rs qs f h)

pub nobody : (ss : List Stand) (rs : List Record) → ((s : Stand) → CanMake s rs → ⊥) → SomeMake ss rs → ⊥
nobody [] rs f h = h
nobody (s ∷ ss) rs f (inl h) = f s h
nobody (s ∷ ss) rs f (inr h) = nobody ss rs f h

-- ## The next call
call_tells : (o : Option (ℕ × Request)) (node : ℕ) (r : Request) → is_call o node r ≡ true → o ≡ Some (node, r)
call_tells None node r e = absurd (true≢false (sym e))
call_tells (Some (k, q)) node r e =
    let p = and_parts (k == node) (same_request q r) e in
    ap (λ x. Some (x, q)) (eqb-true k node p.0) ∙ ap (λ x. Some (node, x)) (request_same q r p.1)

call_told : (o : Option (ℕ × Request)) (node : ℕ) (r : Request) → o ≡ Some (node, r) → is_call o node r ≡ true
call_told o node r e = subst (λ x. is_call x node r ≡ true) (sym e) (and_from (node == node) (same_request r r) (eq-eqb node node refl) (request_self r))

-- ## A task that begins has a call to make, or nothing changed
abbrev Starts : WriterView → WriterView → Type 0
Starts w v = (is_under_way v.phase ≡ true) ⊎ (v ≡ w)

if_starts : (b : Bool) (began : Began) (w : WriterView) → Starts w began.writer → Starts w (if_writing b began w).writer
if_starts true began w h = h
if_starts false began w h = inr refl

log_starts : (o : Option ℕ) (bodies : List (List ℕ)) (w : WriterView) → Starts w (log_begins o bodies w).writer
log_starts (Some number) bodies w = inr refl
log_starts None bodies w = inl refl

starts : (w : WriterView) (x : Task) → Starts w (begun w x)
unfolding writer_begun
starts w task.Takeover = inl refl
starts w (task.Log bodies) = if_starts (is_writing w.phase) (log_begins (log_limit w bodies) bodies w) w (log_starts (log_limit w bodies) bodies w)
starts w task.Roll = if_starts (is_writing w.phase) _ w (inl refl)
starts w task.Close = if_starts (is_writing w.phase) _ w (inl refl)
starts w (task.Purge min) = if_starts (is_writing w.phase) _ w (inl refl)

stays : (w : WriterView) (x : Task) → IsLive w → is_some (next_call (begun w x)) ≡ false → begun w x ≡ w
stays w x live e = by (starts w x)
  where
    by : Starts w (begun w x) → begun w x ≡ w
    by (inr h) = h
    by (inl h) =
        let c = someone_called (begun w x) (begun_live w x live) h in
        absurd (true≢false (sym (call_there (next_call (begun w x)) c.0 c.1 c.2) ∙ e))

-- ## What a record that begins with this call says of a caller between chores
pub data Goes (w : WriterView) (node : ℕ) (r : Request) (t : Told) (rs : List Record) : Type 0 where
  Calls : next_call w ≡ Some (node, r) → CanMake (between (heard w node t)) rs → Goes w node r t rs
  Begins : (x : Task) → is_some (next_call w) ≡ false → HasBody x → next_call (begun w x) ≡ Some (node, r) → CanMake (between (heard (begun w x) node t)) rs → Goes w node r t rs
  Reads : (position : ℕ) → is_some (next_call w) ≡ false → CanMake (in_pass w (record { position = position; node = 1 })) (Call node r t ∷ rs) → Goes w node r t rs

goes : (cs : List Chore) (w : WriterView) (node : ℕ) (r : Request) (t : Told) (rs : List Record) → IsLive w → HaveBodies cs → IsMade (maker_of cs w) (Call node r t ∷ rs) → Goes w node r t rs
unfolding IsMade maker_hears maker_of HaveBodies
goes [] w node r t rs live b (e, made) = Calls e ([], tt, made)
goes (Writes x ∷ cs) w node r t rs live b made = by (is_some (next_call w)) refl (goes cs w node r t rs live b.1)
  where
    inner : (c : Bool) → is_some (next_call (begun w x)) ≡ c → is_some (next_call w) ≡ false → IsMade (maker_of cs (begun w x)) (Call node r t ∷ rs)
        → (IsMade (maker_of cs w) (Call node r t ∷ rs) → Goes w node r t rs) → Goes w node r t rs
    inner true f e h later = let g = subst (λ m. IsMade m (Call node r t ∷ rs)) (waits cs (begun w x) f) h in Begins x e b.0 g.0 (cs, b.1, g.1)
    inner false f e h later = later (subst (λ v. IsMade (maker_of cs v) (Call node r t ∷ rs)) (stays w x live f) h)

    by : (c : Bool) → is_some (next_call w) ≡ c → (IsMade (maker_of cs w) (Call node r t ∷ rs) → Goes w node r t rs) → Goes w node r t rs
    by true e later = let g = subst (λ m. IsMade m (Call node r t ∷ rs)) (waits (Writes x ∷ cs) w e) made in Calls g.0 (Writes x ∷ cs, b, g.1)
    by false e later = inner (is_some (next_call (begun w x))) refl e (subst (λ m. IsMade m (Call node r t ∷ rs)) (passes x cs w e) made) later
goes (Tails position more ∷ cs) w node r t rs live b made = by (is_some (next_call w)) refl
  where
    by : (c : Bool) → is_some (next_call w) ≡ c → Goes w node r t rs
    by true e = let g = subst (λ m. IsMade m (Call node r t ∷ rs)) (waits (Tails position more ∷ cs) w e) made in Calls g.0 (Tails position more ∷ cs, b, g.1)
    by false e =
        Reads position e
        (shorter w e (Call node r t ∷ rs) (record { position = position; node = 1 }) more cs b (subst (λ m. IsMade m (Call node r t ∷ rs)) (tails position more cs w e) made))

-- ## Which task begins
abbrev pub Among : Task → List Task → Type 0
Among x [] = ⊥
Among x (y ∷ ys) = (x ≡ y) ⊎ Among x ys

abbrev asking : Request → ℕ → ℕ × Request
asking q n = (n, q)

asks : (o : Option ℕ) (q : Request) (node : ℕ) (r : Request) → option_map (asking q) o ≡ Some (node, r) → q ≡ r
asks None q node r e = absurd (cc e)
asks (Some n) q node r e = ap request_called e

among_log : (bodies : List (List ℕ)) (xs : List Task) → bodies ≢ [] → Among (task.Log bodies) (log_of bodies ++ xs)
among_log [] xs h = absurd (h refl)
among_log (b ∷ bs) xs h = inl refl

-- where a task begins, its request is that of its first round; else the writer has no call to make
if_found : (b : Bool) (began : Began) (w : WriterView) (node : ℕ) (r : Request) (P : Type 0) → is_some (next_call w) ≡ false
    → (next_call began.writer ≡ Some (node, r) → P) → next_call (if_writing b began w).writer ≡ Some (node, r) → P
if_found true began w node r P rests f e = f e
if_found false began w node r P rests f e = absurd (true≢false (sym (call_there (next_call w) node r e) ∙ rests))

log_found : (o : Option ℕ) (bodies : List (List ℕ)) (w : WriterView) (node : ℕ) (r : Request) → is_some (next_call w) ≡ false → bodies ≢ []
    → next_call (log_begins o bodies w).writer ≡ Some (node, r) → Among (task.Log bodies) (tasks_for r)
log_found (Some number) bodies w node r rests b e = absurd (true≢false (sym (call_there (next_call w) node r e) ∙ rests))
log_found None bodies w node r rests b e = subst (λ q. Among (task.Log bodies) (tasks_for q)) (asks _ _ node r e) (among_log bodies (task.Roll ∷ task.Close ∷ []) b)

found : (w : WriterView) (x : Task) (node : ℕ) (r : Request) → is_some (next_call w) ≡ false → HasBody x → next_call (begun w x) ≡ Some (node, r) → Among x (tasks_for r)
unfolding writer_begun
found w task.Takeover node r rests b e = subst (λ q. Among task.Takeover (tasks_for q)) (asks _ _ node r e) (inl refl)
found w (task.Log bodies) node r rests b e =
    if_found (is_writing w.phase) (log_begins (log_limit w bodies) bodies w) w node r (Among (task.Log bodies) (tasks_for r)) rests (log_found (log_limit w bodies) bodies w node r rests b) e
found w task.Roll node r rests b e =
    if_found (is_writing w.phase) _ w node r (Among task.Roll (tasks_for r)) rests
    (λ g. subst (λ q. Among task.Roll (tasks_for q)) (asks _ _ node r g) (inr (inl refl))) e
found w task.Close node r rests b e =
    if_found (is_writing w.phase) _ w node r (Among task.Close (tasks_for r)) rests
    (λ g. subst (λ q. Among task.Close (tasks_for q)) (asks _ _ node r g) (inr (inr (inl refl)))) e
found w (task.Purge min) node r rests b e =
    if_found (is_writing w.phase) _ w node r (Among (task.Purge min) (tasks_for r)) rests (λ g. subst (λ q. Among (task.Purge min) (tasks_for q)) (asks _ _ node r g) (inl refl)) e

-- each of them has a body
has_body : (x y : Task) → x ≡ y → HasBody y → HasBody x
has_body x y e h = subst HasBody (sym e) h

ends_body : (x : Task) → Among x (task.Roll ∷ task.Close ∷ []) → HasBody x
ends_body x (inl e) = has_body x task.Roll e tt
ends_body x (inr (inl e)) = has_body x task.Close e tt
ends_body x (inr (inr h)) = absurd h

log_bodies : (x : Task) (bodies : List (List ℕ)) → Among x (log_of bodies ++ task.Roll ∷ task.Close ∷ []) → HasBody x
log_bodies x [] h = ends_body x h
log_bodies x (b ∷ bs) (inl e) = has_body x (task.Log (b ∷ bs)) e (λ z. cc)
log_bodies x (b ∷ bs) (inr h) = ends_body x h

bodies_for : (x : Task) (r : Request) → Among x (tasks_for r) → HasBody x
bodies_for x request.State (inl e) = has_body x task.Takeover e tt
bodies_for x request.State (inr h) = absurd h
bodies_for x (request.Journal head start batch) h = log_bodies x batch.bodies h
bodies_for x (request.Purge head min) (inl e) = has_body x (task.Purge min) e tt
bodies_for x (request.Purge head min) (inr h) = absurd h
bodies_for x (request.NewEpoch epoch) h = absurd h
bodies_for x (request.Start head start) h = absurd h
bodies_for x (request.Finalize head start end) h = absurd h
bodies_for x (request.Prepare head start) h = absurd h
bodies_for x (request.Fetch head start from) h = absurd h
bodies_for x (request.Accept head batch) h = absurd h
bodies_for x (request.Read from) h = absurd h
bodies_for x request.Manifest h = absurd h

-- ## One call
hears_more : (w : WriterView) (node : ℕ) (r : Request) (t : Told) (rs : List Record) → next_call w ≡ Some (node, r) → CanMake (between (heard w node t)) rs → SomeMake (hears w node r t) rs
hears_more w node r t rs e h = subst (λ b. SomeMake (cond b (between (heard w node t) ∷ []) []) rs) (sym (call_told (next_call w) node r e)) (inl h)

hears_back : (w : WriterView) (node : ℕ) (r : Request) (t : Told) (rs : List Record) → SomeMake (hears w node r t) rs → (next_call w ≡ Some (node, r)) × CanMake (between (heard w node t)) rs
hears_back w node r t rs h = by (is_call (next_call w) node r) refl h
  where
    by : (b : Bool) → is_call (next_call w) node r ≡ b → SomeMake (cond b (between (heard w node t) ∷ []) []) rs → (next_call w ≡ Some (node, r)) × CanMake (between (heard w node t)) rs
    by true e (inl g) = (call_tells (next_call w) node r e, g)
    by true e (inr g) = absurd g
    by false e g = absurd g

begun_more : (w : WriterView) (node : ℕ) (r : Request) (t : Told) (rs : List Record) (x : Task) (xs : List Task) → Among x xs
    → next_call (begun w x) ≡ Some (node, r) → CanMake (between (heard (begun w x) node t)) rs → SomeMake (hear_begun w node r t xs) rs
begun_more w node r t rs x [] a e h = absurd a
begun_more w node r t rs x (y ∷ xs) (inl s) e h =
    some_left (hears (begun w y) node r t) (hear_begun w node r t xs) rs
    (hears_more (begun w y) node r t rs (subst (λ z. next_call (begun w z) ≡ Some (node, r)) s e) (subst (λ z. CanMake (between (heard (begun w z) node t)) rs) s h))
begun_more w node r t rs x (y ∷ xs) (inr a) e h = some_right (hears (begun w y) node r t) (hear_begun w node r t xs) rs (begun_more w node r t rs x xs a e h)

pub data BeganBy (w : WriterView) (node : ℕ) (r : Request) (t : Told) (rs : List Record) (xs : List Task) : Type 0 where
  by_task : (x : Task) → Among x xs → next_call (begun w x) ≡ Some (node, r) → CanMake (between (heard (begun w x) node t)) rs → BeganBy w node r t rs xs

begun_back : (w : WriterView) (node : ℕ) (r : Request) (t : Told) (rs : List Record) (xs : List Task) → SomeMake (hear_begun w node r t xs) rs → BeganBy w node r t rs xs
begun_back w node r t rs [] h = absurd h
begun_back w node r t rs (x ∷ xs) h = by (some_split (hears (begun w x) node r t) (hear_begun w node r t xs) rs h) (begun_back w node r t rs xs)
  where
    later : BeganBy w node r t rs xs → BeganBy w node r t rs (x ∷ xs)
    later (by_task y a e g) = by_task y (inr a) e g

    by : SomeMake (hears (begun w x) node r t) rs ⊎ SomeMake (hear_begun w node r t xs) rs → (SomeMake (hear_begun w node r t xs) rs → BeganBy w node r t rs xs) → BeganBy w node r t rs (x ∷ xs)
    by (inl g) rec = let k = hears_back (begun w x) node r t rs g in by_task x (inl refl) k.0 k.1
    by (inr g) rec = later (rec g)

-- ## One read
reads_more : (w : WriterView) (p : Pass) (from : ℕ) (t : Told) (rs : List Record) → from ≡ p.position + 1 → CanMake (after_pass w p t) rs → SomeMake (reads w p p.node (request.Read from) t) rs
reads_more w p from t rs e h =
    let some : nat_lt 0 from ≡ true = lt-ltb 0 from (omega (arith, e)) in
    let at : (from - 1 == p.position) ≡ true = eq-eqb (from - 1) p.position (omega (arith, e)) in
    subst (λ b. SomeMake (cond b (after_pass w p t ∷ []) []) rs)
    (sym (and_from ((p.node == p.node) && nat_lt 0 from) (from - 1 == p.position) (and_from (p.node == p.node) (nat_lt 0 from) (eq-eqb p.node p.node refl) some) at)) (inl h)

read_more : (w : WriterView) (p : Pass) (node : ℕ) (r : Request) (t : Told) (rs : List Record) → Read_by w p node r t rs → SomeMake (reads w p node r t) rs
read_more w p node r t rs h =
    let n = h.node_is in
    let q = h.request_is in
    subst (λ x. SomeMake (reads w p x r t) rs) n (subst (λ x. SomeMake (reads w p p.node x t) rs) q (reads_more w p (p.position + 1) t rs refl h.rest))

counted : (from position : ℕ) → nat_lt 0 from ≡ true → from - 1 ≡ position → position + 1 ≡ from
counted from position e f = let some = ltb-true 0 from e in omega (arith, some, f)

read_tells : (p : Pass) (node : ℕ) (r : Request) → is_read p node r ≡ true → (p.node ≡ node) × (request.Read (p.position + 1) ≡ r)
read_tells p node (request.Read from) e =
    let a = and_parts ((p.node == node) && nat_lt 0 from) (from - 1 == p.position) e in
    let b = and_parts (p.node == node) (nat_lt 0 from) a.0 in
    (eqb-true p.node node b.0, ap request.Read (counted from p.position b.1 (eqb-true (from - 1) p.position a.1)))
read_tells p node request.State e = absurd (true≢false (sym e))
read_tells p node (request.NewEpoch epoch) e = absurd (true≢false (sym e))
read_tells p node (request.Start head start) e = absurd (true≢false (sym e))
read_tells p node (request.Journal head start batch) e = absurd (true≢false (sym e))
read_tells p node (request.Finalize head start end) e = absurd (true≢false (sym e))
read_tells p node (request.Prepare head start) e = absurd (true≢false (sym e))
read_tells p node (request.Fetch head start from) e = absurd (true≢false (sym e))
read_tells p node (request.Accept head batch) e = absurd (true≢false (sym e))
read_tells p node (request.Purge head min) e = absurd (true≢false (sym e))
read_tells p node request.Manifest e = absurd (true≢false (sym e))

reads_back : (w : WriterView) (p : Pass) (node : ℕ) (r : Request) (t : Told) (rs : List Record) → SomeMake (reads w p node r t) rs → CanMake (in_pass w p) (Call node r t ∷ rs)
reads_back w p node r t rs h = by (is_read p node r) refl h
  where
    by : (b : Bool) → is_read p node r ≡ b → SomeMake (cond b (after_pass w p t ∷ []) []) rs → CanMake (in_pass w p) (Call node r t ∷ rs)
    by true e (inl g) = let k = read_tells p node r e in makes_read w p node r t rs k.0 k.1 g
    by true e (inr g) = absurd g
    by false e g = absurd g

-- ## A chore that begins
begins_task : (w : WriterView) (node : ℕ) (r : Request) (t : Told) (rs : List Record) → SomeMake (hear_begun w node r t (tasks_for r)) rs → SomeMake (begins w node r t) rs
begins_task w node request.State t rs h = h
begins_task w node (request.NewEpoch epoch) t rs h = h
begins_task w node (request.Start head start) t rs h = h
begins_task w node (request.Journal head start batch) t rs h = h
begins_task w node (request.Finalize head start end) t rs h = h
begins_task w node (request.Prepare head start) t rs h = h
begins_task w node (request.Fetch head start from) t rs h = h
begins_task w node (request.Accept head batch) t rs h = h
begins_task w node (request.Purge head min) t rs h = h
begins_task w node (request.Read from) t rs h = absurd h
begins_task w node request.Manifest t rs h = h

begins_read : (w : WriterView) (position node : ℕ) (r : Request) (t : Told) (rs : List Record) → Read_by w (record { position = position; node = 1 }) node r t rs → SomeMake (begins w node r t) rs
begins_read w position node r t rs h =
    let q = h.request_is in
    let p : position + 1 - 1 ≡ position = omega arith in
    subst (λ x. SomeMake (begins w node x t) rs) q
    (subst (λ x. SomeMake (reads w (record { position = x; node = 1 }) node (request.Read (position + 1)) t) rs) (sym p)
    (subst (λ x. SomeMake (reads w (record { position = position; node = 1 }) node x t) rs) (sym q) (read_more w (record { position = position; node = 1 }) node r t rs h)))

pub data BeginsBy (w : WriterView) (node : ℕ) (r : Request) (t : Told) (rs : List Record) : Type 0 where
  a_task : SomeMake (hear_begun w node r t (tasks_for r)) rs → BeginsBy w node r t rs
  a_read : (position : ℕ) → SomeMake (reads w (record { position = position; node = 1 }) node r t) rs → BeginsBy w node r t rs

begins_back : (w : WriterView) (node : ℕ) (r : Request) (t : Told) (rs : List Record) → SomeMake (begins w node r t) rs → BeginsBy w node r t rs
begins_back w node request.State t rs h = a_task h
begins_back w node (request.NewEpoch epoch) t rs h = a_task h
begins_back w node (request.Start head start) t rs h = a_task h
begins_back w node (request.Journal head start batch) t rs h = a_task h
begins_back w node (request.Finalize head start end) t rs h = a_task h
begins_back w node (request.Prepare head start) t rs h = a_task h
begins_back w node (request.Fetch head start from) t rs h = a_task h
begins_back w node (request.Accept head batch) t rs h = a_task h
begins_back w node (request.Purge head min) t rs h = a_task h
begins_back w node (request.Read from) t rs h = a_read (from - 1) h
begins_back w node request.Manifest t rs h = a_task h

-- ## One stand
on_between : (w : WriterView) (node : ℕ) (r : Request) (t : Told) (rs : List Record) → Goes w node r t rs → SomeMake (goes_on (between w) node r t) rs
on_between w node r t rs (Calls e h) =
    subst (λ b. SomeMake (cond b (hears w node r t) (begins w node r t)) rs) (sym (call_there (next_call w) node r e)) (hears_more w node r t rs e h)
on_between w node r t rs (Begins x rests body e h) =
    subst (λ b. SomeMake (cond b (hears w node r t) (begins w node r t)) rs) (sym rests)
    (begins_task w node r t rs (begun_more w node r t rs x (tasks_for r) (found w x node r rests body e) e h))
on_between w node r t rs (Reads position rests h) =
    subst (λ b. SomeMake (cond b (hears w node r t) (begins w node r t)) rs) (sym rests)
    (begins_read w position node r t rs (read_made w (record { position = position; node = 1 }) node r t rs h))

on : (s : Stand) (node : ℕ) (r : Request) (t : Told) (rs : List Record) → IsLive s.writer → CanMake s (Call node r t ∷ rs) → SomeMake (goes_on s node r t) rs
on s node r t rs live h = by s.pass h
  where
    by : (p : Option Pass) → CanMake (record { writer = s.writer; pass = p }) (Call node r t ∷ rs) → SomeMake (goes_on_in p s.writer node r t) rs
    by None g = on_between s.writer node r t rs (goes g.0 s.writer node r t rs live g.1 g.2)
    by (Some p) g = read_more s.writer p node r t rs (read_made s.writer p node r t rs g)

back_between : (w : WriterView) (node : ℕ) (r : Request) (t : Told) (rs : List Record) → SomeMake (goes_on (between w) node r t) rs → CanMake (between w) (Call node r t ∷ rs)
back_between w node r t rs h = by (is_some (next_call w)) refl h
  where
    began : is_some (next_call w) ≡ false → BeganBy w node r t rs (tasks_for r) → CanMake (between w) (Call node r t ∷ rs)
    began rests (by_task x a e g) = makes_begun w x (Call node r t ∷ rs) rests (bodies_for x r a) (makes_call (begun w x) node r t rs e g)

    chore : is_some (next_call w) ≡ false → BeginsBy w node r t rs → CanMake (between w) (Call node r t ∷ rs)
    chore rests (a_task g) = began rests (begun_back w node r t rs (tasks_for r) g)
    chore rests (a_read position g) = makes_tail w position (Call node r t ∷ rs) rests (reads_back w (record { position = position; node = 1 }) node r t rs g)

    by : (c : Bool) → is_some (next_call w) ≡ c → SomeMake (cond c (hears w node r t) (begins w node r t)) rs → CanMake (between w) (Call node r t ∷ rs)
    by true e g = let k = hears_back w node r t rs g in makes_call w node r t rs k.0 k.1
    by false e g = chore e (begins_back w node r t rs g)

back : (s : Stand) (node : ℕ) (r : Request) (t : Told) (rs : List Record) → SomeMake (goes_on s node r t) rs → CanMake s (Call node r t ∷ rs)
back s node r t rs h = by s.pass h
  where
    by : (p : Option Pass) → SomeMake (goes_on_in p s.writer node r t) rs → CanMake (record { writer = s.writer; pass = p }) (Call node r t ∷ rs)
    by None g = back_between s.writer node r t rs g
    by (Some p) g = reads_back s.writer p node r t rs g

-- ## All stands
live_both : (us vs : List Stand) → AllLive us → AllLive vs → AllLive (us ++ vs)
live_both [] vs a b = b
live_both (u ∷ us) vs a b = (a.0, live_both us vs a.1 b)

live_hears : (w : WriterView) (node : ℕ) (r : Request) (t : Told) → IsLive w → AllLive (hears w node r t)
live_hears w node r t l = by (is_call (next_call w) node r)
  where
    by : (b : Bool) → AllLive (cond b (between (heard w node t) ∷ []) [])
    by true = (heard_live w node (heard_of t) l, tt)
    by false = tt

live_begun : (w : WriterView) (node : ℕ) (r : Request) (t : Told) (xs : List Task) → IsLive w → AllLive (hear_begun w node r t xs)
live_begun w node r t [] l = tt
live_begun w node r t (x ∷ xs) l = live_both (hears (begun w x) node r t) (hear_begun w node r t xs) (live_hears (begun w x) node r t (begun_live w x l)) (live_begun w node r t xs l)

live_next : (w : WriterView) (p : Pass) → IsLive w → IsLive (next_pass w p).writer
live_next w p l = by (nat_lt p.node (length w.left))
  where
    by : (b : Bool) → IsLive (cond b (in_pass w (record p { node = p.node + 1 })) (between w)).writer
    by true = l
    by false = l

live_passed : (w : WriterView) (p : Pass) (t : Told) → IsLive w → IsLive (after_pass w p t).writer
live_passed w p (told.Reply (reply.Edits batch)) l = l
live_passed w p (told.Reply reply.Ok) l = live_next w p l
live_passed w p (told.Reply (reply.State promised)) l = live_next w p l
live_passed w p (told.Reply (reply.NewEpoch newest)) l = live_next w p l
live_passed w p (told.Reply (reply.Prepared writer committed segment)) l = live_next w p l
live_passed w p (told.Reply (reply.Segments segments)) l = live_next w p l
live_passed w p (told.Reply (reply.Refused refusal)) l = live_next w p l
live_passed w p told.Dropped l = live_next w p l
live_passed w p told.Muted l = live_next w p l
live_passed w p told.Silent l = live_next w p l

live_reads : (w : WriterView) (p : Pass) (node : ℕ) (r : Request) (t : Told) → IsLive w → AllLive (reads w p node r t)
live_reads w p node r t l = by (is_read p node r)
  where
    by : (b : Bool) → AllLive (cond b (after_pass w p t ∷ []) [])
    by true = (live_passed w p t l, tt)
    by false = tt

live_begins : (w : WriterView) (node : ℕ) (r : Request) (t : Told) → IsLive w → AllLive (begins w node r t)
live_begins w node request.State t l = live_begun w node request.State t (tasks_for request.State) l
live_begins w node (request.NewEpoch epoch) t l = tt
live_begins w node (request.Start head start) t l = tt
live_begins w node (request.Journal head start batch) t l = live_begun w node (request.Journal head start batch) t (tasks_for (request.Journal head start batch)) l
live_begins w node (request.Finalize head start end) t l = tt
live_begins w node (request.Prepare head start) t l = tt
live_begins w node (request.Fetch head start from) t l = tt
live_begins w node (request.Accept head batch) t l = tt
live_begins w node (request.Purge head min) t l = live_begun w node (request.Purge head min) t (tasks_for (request.Purge head min)) l
live_begins w node (request.Read from) t l = live_reads w (pass_from from) node (request.Read from) t l
live_begins w node request.Manifest t l = tt

live_on : (p : Option Pass) (w : WriterView) (node : ℕ) (r : Request) (t : Told) → IsLive w → AllLive (goes_on_in p w node r t)
live_on None w node r t l = by (is_some (next_call w))
  where
    by : (b : Bool) → AllLive (cond b (hears w node r t) (begins w node r t))
    by true = live_hears w node r t l
    by false = live_begins w node r t l
live_on (Some p) w node r t l = live_reads w p node r t l

pub live_all : (ss : List Stand) (node : ℕ) (r : Request) (t : Told) → AllLive ss → AllLive (all_go_on ss node r t)
live_all [] node r t a = tt
live_all (s ∷ ss) node r t a = live_both (goes_on s node r t) (all_go_on ss node r t) (live_on s.pass s.writer node r t a.0) (live_all ss node r t a.1)

pub all_on : (ss : List Stand) (node : ℕ) (r : Request) (t : Told) (rs : List Record) → AllLive ss → SomeMake ss (Call node r t ∷ rs) → SomeMake (all_go_on ss node r t) rs
all_on [] node r t rs a h = h
all_on (s ∷ ss) node r t rs a (inl h) = some_left (goes_on s node r t) (all_go_on ss node r t) rs (on s node r t rs a.0 h)
all_on (s ∷ ss) node r t rs a (inr h) = some_right (goes_on s node r t) (all_go_on ss node r t) rs (all_on ss node r t rs a.1 h)

pub all_back : (ss : List Stand) (node : ℕ) (r : Request) (t : Told) (rs : List Record) → SomeMake (all_go_on ss node r t) rs → SomeMake ss (Call node r t ∷ rs)
all_back [] node r t rs h = h
all_back (s ∷ ss) node r t rs h = by (some_split (goes_on s node r t) (all_go_on ss node r t) rs h) (all_back ss node r t rs)
  where
    by : SomeMake (goes_on s node r t) rs ⊎ SomeMake (all_go_on ss node r t) rs → (SomeMake (all_go_on ss node r t) rs → SomeMake ss (Call node r t ∷ rs)) → SomeMake (s ∷ ss) (Call node r t ∷ rs)
    by (inl g) later = inl (back s node r t rs g)
    by (inr g) later = inr (later g)
