-- The actors of a world, in a tale of its entries: what each made, and how they go on.
use Rattle.std.proofs.Common.{◌≡◌, ◌≢◌, ℕ, ◌≤◌, ◌==◌, ◌&&◌, ◌⊎◌, inl, inr, List, [], ◌∷◌, ◌++◌, Bool, true, false, length, refl, sym, ap, ◌∙◌, subst, arith, Some, is_some}
use Rattle.std.specs.List.{list_all}
use Rattle.std.proofs.lemmas.Bool.{and_parts, or_cases, eqb-true, cases_eq}
use Rattle.journal_core.specs.declared.request.Request.{Request}
use Rattle.journal_core.specs.declared.heard.Heard.{Heard as HeardOf}
use Rattle.writer_core.specs.declared.task.Task.{Task}
use Rattle.writer_core.specs.Views.{WriterView}
use Rattle.writer_core.specs.Writer.{next_call, writer_heard, writer_stopped, HasBody}
use Rattle.writer_core.specs.Whole.{Takeover}
use Rattle.writer_core.proofs.WholeLaws.{with_tasks, with_heard}
use Rattle.writer_core.proofs.WholeRounds.{IsCalling, calling_in}
use Rattle.journal_history.specs.Entries.{Entry, Move, Earlier}
use Rattle.run_safety.specs.Run.{may_follow, IsInTurn}
use Rattle.journal_history.specs.Moving.{epoch_of}
use Rattle.run_safety.specs.Actings.{CallMade, Acting, fresh_acting, was_made}
use Rattle.journal_history.specs.Same.{same_request}
use Rattle.run_safety.proofs.Places.{Earlier-trans}
use Rattle.run_safety.proofs.Slots.{true≢false}
use Rattle.journal_history.proofs.SameLaws.{request_same}
use Rattle.run_safety.proofs.Fair.{IsTold}
use Rattle.run_safety.proofs.Tales.{Tale, Tells, Grows, AreLabelled, IsMadeAt, made_still, earlier_length, place_below}
use Rattle.run_safety.proofs.TaleSteps.{Continues, continues_not, place_cases, made_later, put, put_here, put_there, labelled_continues, grows_not}
use Rattle.run_safety.proofs.WriterRange.{Sized, heard_sized, begun_sized, new_sized}
use Rattle.run_safety.proofs.Tracked.{is_free, Status, free, asking, tracked, status_beside, Quiet, aside, quiet_entry}
use Rattle.run_safety.proofs.CallLeft.{entry, HasEpoch, Enters, CallLeft, nothing, unheard, answered, CopyLeft, no_entry, an_entry, OperationLeft, no_change, a_change}
use Rattle.run_safety.proofs.RoundCalls.{Gives, making_by, Called, called}
use Rattle.run_safety.proofs.RoundEnds.{hears_called}
use Rattle.run_safety.proofs.Asks.{asks_no_epoch, asked, hears_asking}
use Rattle.run_safety.proofs.TaskBegins.{its_begin, task_status}

-- ## One step and then another
grows_trans : (x y : ℕ) (t u v : Takeover) → x ≤ y → Grows x t u → Grows y u v → Grows x t v
grows_trans x y t u v le g h = record {
  more = g.more ++ h.more;
  heard = h.heard;
  is = h.is ∙ ap (λ (w : Takeover). with_heard (with_tasks w h.more) h.heard) g.is ∙ ap (λ (l : List Task). with_heard (record t { tasks = l }) h.heard) (three t.tasks g.more h.more);
  follow = λ e.
      ap (list_all may_follow) (sym (three t.tasks g.more h.more)) ∙ ap (λ (w : Takeover). list_all may_follow (w.tasks ++ h.more)) (sym g.is)
      ∙ h.follow (ap (λ (w : Takeover). list_all may_follow w.tasks) g.is ∙ g.follow e);
  below = λ z l. h.below z (omega (arith, l, le)) ∙ ap (λ (w : Takeover). w.heard z) g.is ∙ g.below z l;
  keeps = λ z i reply e. h.keeps z i reply (ap (λ (w : Takeover). w.heard z i) g.is ∙ g.keeps z i reply e);
}
  where
    three : (a b c : List Task) → (a ++ b) ++ c ≡ a ++ (b ++ c)
    three [] b c = refl
    three (p ∷ a) b c = ap (λ (l : List Task). p ∷ l) (three a b c)

pub continues_trans : (c : ℕ) (x y z : Tale) (past mid next : List Entry) → AreLabelled y mid → Continues c x past y mid → Continues c y mid z next → Continues c x past z next
continues_trans c x y z past mid next labels g h = record {
  longer = Earlier-trans g.longer h.longer;
  tells = record {
    whose = λ m l. h.tells.whose m (omega (arith, l, earlier_length g.longer)) ∙ g.tells.whose m l;
    round = λ m l. h.tells.round m (omega (arith, l, earlier_length g.longer)) ∙ g.tells.round m l;
    count = omega (arith, g.tells.count, h.tells.count);
    grown = λ k l. grows_trans (x.top k) (y.top k) (x.story.takeover k) (y.story.takeover k) (z.story.takeover k) (g.tells.tops k l)
        (g.tells.grown k l) (h.tells.grown k (omega (arith, l, g.tells.count)));
    tops = λ k l. let a : x.top k ≤ y.top k = g.tells.tops k l in let b : y.top k ≤ z.top k = h.tells.tops k (omega (arith, l, g.tells.count)) in omega (arith, a, b);
  };
  others = λ k l off.
      let a = g.others k l off in
      let b = h.others k (omega (arith, l, g.tells.count)) (λ e. off (ap (λ (t : Takeover). t.caller) (sym a.0) ∙ e)) in
      (b.0 ∙ a.0, b.1 ∙ a.1);
  fresh = λ old e p l turn. at old e p l turn (place_cases h.longer p);
}
  where
    at : (old : List Entry) (e : Entry) → Earlier (e ∷ old) next → length past ≤ length old → IsInTurn e.move → (Earlier (e ∷ old) mid) ⊎ (length mid ≤ length old)
        → (z.story.takeover (z.story.whose (length old))).caller ≡ c
    at old e p l turn (inr m) = h.fresh old e p m turn
    at old e p l turn (inl q) =
        let k : ℕ = y.story.whose (length old) in
        ap (λ (i : ℕ). (z.story.takeover i).caller) (h.tells.whose (length old) (place_below e q))
        ∙ ap (λ (t : Takeover). t.caller) (h.tells.grown k (labels old e q).known).is ∙ g.fresh old e q l turn

-- ## A call that a caller made: a copy of it may reach its node later
abbrev pub IsMadeBy : ℕ → Tale → List Entry → ℕ → ℕ → Request → Type 0
IsMadeBy n a past d node r = (k : ℕ) × (s : ℕ) × IsMadeAt n a past k s d node r

abbrev pub IsOwn : ℕ → Tale → List Entry → ℕ → CallMade → Type 0
IsOwn n a past d x = HasEpoch x.request → IsMadeBy n a past d x.node x.request

abbrev pub AreOwn : ℕ → Tale → List Entry → ℕ → List CallMade → Type 0
AreOwn n a past d [] = Unit {0}
AreOwn n a past d (x ∷ xs) = IsOwn n a past d x × AreOwn n a past d xs

pub own_later : (n c : ℕ) (a b : Tale) (past next : List Entry) (d : ℕ) (x : CallMade) → Continues c a past b next → IsOwn n a past d x → IsOwn n b next d x
own_later n c a b past next d x g h = λ some. let m : IsMadeBy n a past d x.node x.request = h some in (m.0, m.1, made_later n c a b past next m.0 m.1 d x.node x.request g m.2)

pub all_later : (n c : ℕ) (a b : Tale) (past next : List Entry) (d : ℕ) (xs : List CallMade) → Continues c a past b next → AreOwn n a past d xs → AreOwn n b next d xs
all_later n c a b past next d [] g h = tt
all_later n c a b past next d (x ∷ xs) g h = (own_later n c a b past next d x g h.0, all_later n c a b past next d xs g h.1)

own_more : (n : ℕ) (a : Tale) (past : List Entry) (d : ℕ) (xs : List CallMade) (x : CallMade) → AreOwn n a past d xs → IsOwn n a past d x → AreOwn n a past d (xs ++ x ∷ [])
own_more n a past d [] x h g = (g, tt)
own_more n a past d (y ∷ ys) x h g = (h.0, own_more n a past d ys x h.1 g)

-- what was made is in the list
pub own_get : (n : ℕ) (a : Tale) (past : List Entry) (d node : ℕ) (r : Request) (xs : List CallMade) → AreOwn n a past d xs → was_made node r xs ≡ true → HasEpoch r → IsMadeBy n a past d node r
own_get n a past d node r [] h e some = absurd (true≢false (sym e))
own_get n a past d node r (x ∷ xs) h e some = elim (or_cases ((x.node == node) && same_request x.request r) (was_made node r xs) e) [
  | inl f ↦ (let p = and_parts (x.node == node) (same_request x.request r) f in
      subst (λ (q : Request). IsMadeBy n a past d node q) (request_same x.request r p.1)
      (subst (λ (j : ℕ). IsMadeBy n a past d j x.request) (eqb-true x.node node p.0) (h.0 (subst HasEpoch (sym (request_same x.request r p.1)) some))))
  | inr f ↦ own_get n a past d node r xs h.1 f some
]

-- ## An actor
pub record IsActing (n : ℕ) (a : Tale) (past : List Entry) (d : ℕ) (x : Acting) : Type 0 where
  pub status : Status n a past d x.writer
  pub sized : Sized n x.writer
  pub calls : AreOwn n a past d x.calls

pub fresh_is : (n : ℕ) (a : Tale) (past : List Entry) (d : ℕ) → IsActing n a past d (fresh_acting n)
fresh_is n a past d = record { status = free refl; sized = new_sized n; calls = tt }

acting_beside : (n c d : ℕ) (a b : Tale) (past next : List Entry) (x : Acting) → Continues c a past b next → d ≢ c → IsActing n a past d x → IsActing n b next d x
acting_beside n c d a b past next x g off h =
    record { status = status_beside n c d a b past next x.writer g off h.status; sized = h.sized; calls = all_later n c a b past next d x.calls g h.calls }

-- all actors
abbrev pub All : ℕ → List Entry → (ℕ → Acting) → Tale → Type 0
All n past acts a = (d : ℕ) → IsActing n a past d (acts d)

-- one of them goes on
pub one_goes : (n c : ℕ) (a b : Tale) (past next : List Entry) (acts : ℕ → Acting) (x : Acting) → Continues c a past b next → All n past acts a → IsActing n b next c x → All n next (put acts c x) b
one_goes n c a b past next acts x g h mine d = by (cases_eq d c)
  where
    by : (d ≡ c) ⊎ (d ≡ c → ⊥) → IsActing n b next d (put acts c x d)
    by (inl same) = subst (λ (j : ℕ). IsActing n b next j (put acts c x j)) (sym same) (subst (λ (y : Acting). IsActing n b next c y) (sym (put_here acts c x)) mine)
    by (inr off) = subst (λ (y : Acting). IsActing n b next d y) (sym (put_there acts c x d off)) (acting_beside n c d a b past next (acts d) g off (h d))

-- ## A task
pub begins_all : (n : ℕ) (a : Tale) (past : List Entry) (c : ℕ) (acts : ℕ → Acting) (t : Task) → HasBody t → IsTold n a past → All n past acts a
    → Gives n c a past past (All n past (put acts c (record (acts c) { writer = its_begin t (acts c).writer })))
begins_all n a past c acts t body told h =
    let x : Acting = acts c in
    let g : Gives n c a past past (λ b. Status n b past c (its_begin t x.writer)) = task_status n a past c x.writer t told (h c).sized body (h c).status in (
      g.0,
      g.1,
      g.2,
      one_goes n c a g.0 past past acts (record x { writer = its_begin t x.writer }) g.2 h
          (record { status = g.3; sized = begun_sized n x.writer t (h c).sized; calls = all_later n c a g.0 past past c x.calls g.2 (h c).calls }),
    )

-- the writer gives up
pub gives_up_all : (n : ℕ) (a : Tale) (past : List Entry) (c : ℕ) (acts : ℕ → Acting) → IsTold n a past → All n past acts a
    → Gives n c a past past (All n past (put acts c (record (acts c) { writer = writer_stopped (acts c).writer })))
gives_up_all n a past c acts told h = (
  a,
  told,
  continues_not c a past,
  one_goes n c a a past past acts (record (acts c) { writer = writer_stopped (acts c).writer }) (continues_not c a past) h
      (record { status = free refl; sized = record { left = (h c).sized.left; slots = (h c).sized.slots; fetch = tt }; calls = (h c).calls }),
)

-- ## A call of the writer
pub call_own : (n : ℕ) (a : Tale) (past : List Entry) (c : ℕ) (v : WriterView) (node : ℕ) (r : Request) → IsCalling v node r → Status n a past c v → HasEpoch r → IsMadeBy n a past c node r
call_own n a past c v node r call (free f) some = absurd (true≢false (sym f ∙ ap is_free call.phase))
call_own n a past c v node r call (asking p e f) some = absurd (asks_no_epoch v node r call p some)
call_own n a past c v node r call (tracked h) some = (h.k, a.top h.k, (making_by n a past c v node r h call h.stands).made)

-- the writer hears what came of it
pub heard_status : (n : ℕ) (a : Tale) (past next : List Entry) (c : ℕ) (v : WriterView) (node : ℕ) (r : Request) (d : HeardOf) → IsCalling v node r
    → IsTold n a past → CallLeft n past c node r d next → Status n a past c v
    → Gives n c a past next (λ b. Status n b next c (writer_heard v node d).writer)
heard_status n a past next c v node r d call told left (free f) = absurd (true≢false (sym f ∙ ap is_free call.phase))
heard_status n a past next c v node r d call told left (asking p e f) =
    let g : Gives n c a past next (λ b. Unit {0}) = asked n a past next c node r d (asks_no_epoch v node r call p) told left in
    let m : Gives n c g.0 next next (λ b. Status n b next c (writer_heard v node d).writer) = hears_asking n g.0 next c v node d g.1 p e f in
    (m.0, m.1, continues_trans c a g.0 m.0 past next next g.1.labels g.2 m.2, m.3)
heard_status n a past next c v node r d call told left (tracked h) =
    let g : Gives n c a past next (λ b. Called n b next c v node d) = called n a past next c v node r d h call told left in
    let m : Gives n c g.0 next next (λ b. Status n b next c (writer_heard v node d).writer) = hears_called n g.0 next c v node d r g.1 call g.3 in
    (m.0, m.1, continues_trans c a g.0 m.0 past next next g.1.labels g.2 m.2, m.3)

pub call_all : (n : ℕ) (a : Tale) (past next : List Entry) (c : ℕ) (acts : ℕ → Acting) (node : ℕ) (r : Request) (d : HeardOf)
    → next_call (acts c).writer ≡ Some (node, r) → CallLeft n past c node r d next → IsTold n a past
    → All n past acts a
    → Gives n c a past next (All n next (put acts c (record { writer = (writer_heard (acts c).writer node d).writer; calls = (acts c).calls ++ record { node = node; request = r } ∷ [] })))
call_all n a past next c acts node r d e left told h =
    let x : Acting = acts c in
    let call : IsCalling x.writer node r = calling_in x.writer node r e in
    let own : AreOwn n a past c (x.calls ++ record { node = node; request = r } ∷ []) =
    own_more n a past c x.calls (record { node = node; request = r }) (h c).calls
    (λ some. call_own n a past c x.writer node r call (h c).status some) in
    let g : Gives n c a past next (λ b. Status n b next c (writer_heard x.writer node d).writer) = heard_status n a past next c x.writer node r d call told left (h c).status in (
      g.0,
      g.1,
      g.2,
      one_goes n c a g.0 past next acts (record { writer = (writer_heard x.writer node d).writer; calls = x.calls ++ record { node = node; request = r } ∷ [] }) g.2 h (record {
        status = g.3;
        sized = heard_sized n x.writer node d (h c).sized;
        calls = all_later n c a g.0 past next c (x.calls ++ record { node = node; request = r } ∷ []) g.2 own;
      }),
    )

-- ## What leaves all writers as they were: a reading, a late copy, an operation
abbrev pub Stays : ℕ → ℕ → Tale → List Entry → List Entry → Type 0
Stays n c a past next = (b : Tale) × IsTold n b next × Continues c a past b next × ((d : ℕ) (v : WriterView) → Status n a past d v → Status n b next d v)

pub stays_all : (n c : ℕ) (a : Tale) (past next : List Entry) (acts : ℕ → Acting) → Stays n c a past next → All n past acts a → Gives n c a past next (All n next acts)
stays_all n c a past next acts s h = (
  s.0,
  s.1,
  s.2,
  λ d. record { status = s.3 d (acts d).writer (h d).status; sized = (h d).sized; calls = all_later n c a s.0 past next d (acts d).calls s.2 (h d).calls },
)

stays_same : (n c : ℕ) (a : Tale) (past next : List Entry) → next ≡ past → IsTold n a past → Stays n c a past next
stays_same n c a past next same told = subst (λ (l : List Entry). Stays n c a past l) (sym same) (a, told, continues_not c a past, λ d v s. s)

-- an entry that is no call in its turn, of a request that was made in this round of this takeover
entry_stays : (n : ℕ) (a : Tale) (past : List Entry) (c node : ℕ) (r : Request) (move : Move) (k s : ℕ) → k ≤ a.count → s ≤ a.top k → IsTold n a past → (HasEpoch r → IsMadeAt n a past k s c node r)
    → (IsInTurn move → ⊥) → Enters n past c node r move → Stays n c a past (entry node move ∷ past)
unfolding Quiet
entry_stays n a past c node r move k s known within told made off enters =
    quiet_entry n c a past (entry node move) k s known within off told
    (enters (aside a past k s) k s (put_here a.story.whose (length past) k) (put_here a.story.round (length past) s)
    (λ some. made_still n a (aside a past k s) (length past) past k s c node r tells (omega arith) (made some)) (λ turn. absurd (off turn)))
  where
    tells : Tells a (aside a past k s) (length past)
    tells = (labelled_continues c a past (entry node move) k s (a.story.takeover k) (grows_not (a.top k) (a.story.takeover k)) (inr refl) (λ turn. absurd (off turn))).tells

not_both : (b : Bool) → b ≡ true → b ≡ false → ⊥
not_both b e f = true≢false (sym e ∙ f)

pub copy_stays : (n : ℕ) (a : Tale) (past next : List Entry) (c node : ℕ) (r : Request) → IsTold n a past → (HasEpoch r → IsMadeBy n a past c node r)
    → CopyLeft n past c node r next → Stays n c a past next
copy_stays n a past next c node r told own (no_entry same) = stays_same n c a past next same told
copy_stays n a past next c node r told own (an_entry move same off enters) = subst (λ (l : List Entry). Stays n c a past l) (sym same) (by (is_some (epoch_of r)) refl)
  where
    by : (b : Bool) → is_some (epoch_of r) ≡ b → Stays n c a past (entry node move ∷ past)
    by true e = let m : IsMadeBy n a past c node r = own e in entry_stays n a past c node r move m.0 m.1 m.2.known m.2.within told (λ some. m.2) off enters
    by false e = entry_stays n a past c node r move 0 0 (omega arith) (omega arith) told (λ some. absurd (not_both (is_some (epoch_of r)) some e)) off enters

pub read_stays : (n : ℕ) (a : Tale) (past next : List Entry) (c node : ℕ) (r : Request) (d : HeardOf) → (HasEpoch r → ⊥) → IsTold n a past → CallLeft n past c node r d next → Stays n c a past next
read_stays n a past next c node r d off told (nothing same quiet) = stays_same n c a past next same told
read_stays n a past next c node r d off told (unheard move same quiet turn enters) =
    subst (λ (l : List Entry). Stays n c a past l) (sym same) (entry_stays n a past c node r move 0 0 (omega arith) (omega arith) told (λ some. absurd (off some)) (λ x. off (turn x)) enters)
read_stays n a past next c node r d off told (answered reply same is some enters) = absurd (off some)

pub operation_stays : (n c : ℕ) (a : Tale) (past next : List Entry) (node : ℕ) → IsTold n a past → OperationLeft n past node next → Stays n c a past next
unfolding Quiet
operation_stays n c a past next node told (no_change same) = stays_same n c a past next same told
operation_stays n c a past next node told (a_change move same off enters) =
    subst (λ (l : List Entry). Stays n c a past l) (sym same) (quiet_entry n c a past (entry node move) 0 0 (omega arith) (omega arith) off told (enters (aside a past 0 0).story))

-- and the reader has one call more
pub read_all : (n : ℕ) (a : Tale) (past next : List Entry) (c : ℕ) (acts : ℕ → Acting) (node : ℕ) (r : Request) (d : HeardOf) → (HasEpoch r → ⊥)
    → IsTold n a past → CallLeft n past c node r d next → All n past acts a
    → Gives n c a past next (All n next (put acts c (record (acts c) { calls = (acts c).calls ++ record { node = node; request = r } ∷ [] })))
read_all n a past next c acts node r d off told left h =
    let s : Stays n c a past next = read_stays n a past next c node r d off told left in
    let x : Acting = acts c in (
      s.0,
      s.1,
      s.2,
      one_goes n c a s.0 past next acts (record x { calls = x.calls ++ record { node = node; request = r } ∷ [] }) s.2 h (record {
        status = s.3 c x.writer (h c).status;
        sized = (h c).sized;
        calls = own_more n s.0 next c x.calls (record { node = node; request = r }) (all_later n c a s.0 past next c x.calls s.2 (h c).calls) (λ some. absurd (off some));
      }),
    )
