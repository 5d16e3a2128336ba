-- A test of runs over finite tables, and that what passes it is a run.
use Rattle.std.proofs.Common.{◌≡◌, ◌≢◌, ℕ, ◌<◌, ◌⊎◌, ◌==◌, ◌&&◌, ◌||◌, Bool, true, false, not, List, [], ◌∷◌, length, get_or, Option, Some, None}
use Rattle.std.proofs.Common.{refl, inl, inr, arith, subst, sym, ap, ◌∙◌, nat_lt, nat_le}
use Rattle.std.specs.List.{list_all}
use Rattle.std.proofs.lemmas.Bool.{cond_both, and_parts, or_cases, eqb-true, eq-eqb, ltb-true, lt-ltb, leb-true}
use Rattle.journal_core.specs.declared.segment_info.SegmentInfo.{SegmentInfo}
use Rattle.journal_core.specs.declared.node_state.NodeState.{NodeState}
use Rattle.journal_core.specs.declared.request.Request.{Request}
use Rattle.journal_core.specs.declared.request.Request.TheVariants.{Start}
use Rattle.journal_core.specs.declared.refusal.Refusal.TheVariants.{SegmentHasEdits}
use Rattle.journal_core.specs.declared.reply.Reply.{Reply}
use Rattle.journal_core.specs.declared.reply.Reply.TheVariants as reply
use Rattle.journal_core.specs.Step.{node_step, effects_of}
use Rattle.writer_core.specs.Whole.{TaskProgress, writer_at, request_of_round, calls}
use Rattle.journal_history.specs.Entries.{Way, Heard, Muted, Late, Move, Answer, Stop, Kill, Restart, Entry, after_move, node_after, Earlier, now, before}
use Rattle.run_safety.specs.Run.{Story, WasHeard, may_follow, IsMade, IsInTurn, IsHeardAs, IsCall, IsNext, Follows}
use Rattle.run_safety.specs.Safe.{SaidOk, IsStart}
use Rattle.run_safety.specs.Tables.{Told, TakeoverTable, Tables, heard_in, takeover_of, no_takeover, story_of}
use Rattle.journal_history.specs.Same.{same_batch, same_request}
use Rattle.run_safety.proofs.Slots.{none≢some, some_same, true≢false}
use Rattle.journal_history.proofs.SameLaws.{batch_same, request_same}

-- ## Tests of equality, for what examples need
abbrev pub same_option : Option ℕ → Option ℕ → Bool
same_option None None = true
same_option None (Some y) = false
same_option (Some x) None = false
same_option (Some x) (Some y) = x == y

option_same : (a b : Option ℕ) → same_option a b ≡ true → a ≡ b
option_same None None e = refl
option_same None (Some y) e = true≢false (sym e)
option_same (Some x) None e = true≢false (sym e)
option_same (Some x) (Some y) e = ap (λ z. Some z) (eqb-true x y e)

abbrev pub same_bool : Bool → Bool → Bool
same_bool true b = b
same_bool false b = not b

bool_same : (a b : Bool) → same_bool a b ≡ true → a ≡ b
bool_same true true e = refl
bool_same true false e = true≢false (sym e)
bool_same false true e = true≢false (sym e)
bool_same false false e = refl

abbrev pub same_info : Option SegmentInfo → Option SegmentInfo → Bool
same_info None None = true
same_info None (Some y) = false
same_info (Some x) None = false
same_info (Some x) (Some y) = (x.start == y.start) && ((x.end == y.end) && ((x.epoch == y.epoch) && (same_bool x.is_final y.is_final && same_bool x.accepted y.accepted)))

info_same : (a b : Option SegmentInfo) → same_info a b ≡ true → a ≡ b
info_same None None e = refl
info_same None (Some y) e = true≢false (sym e)
info_same (Some x) None e = true≢false (sym e)
info_same (Some x) (Some y) e =
    let p = and_parts (x.start == y.start) _ e in let q = and_parts (x.end == y.end) _ p.1 in let r = and_parts (x.epoch == y.epoch) _ q.1 in let s =
    and_parts (same_bool x.is_final y.is_final) (same_bool x.accepted y.accepted) r.1 in
    ap (λ z. Some (record { start = z; end = x.end; epoch = x.epoch; is_final = x.is_final; accepted = x.accepted })) (eqb-true x.start y.start p.0)
    ∙ (ap (λ z. Some (record { start = y.start; end = z; epoch = x.epoch; is_final = x.is_final; accepted = x.accepted })) (eqb-true x.end y.end q.0)
    ∙ (ap (λ z. Some (record { start = y.start; end = y.end; epoch = z; is_final = x.is_final; accepted = x.accepted })) (eqb-true x.epoch y.epoch r.0)
    ∙ (ap (λ z. Some (record { start = y.start; end = y.end; epoch = y.epoch; is_final = z; accepted = x.accepted })) (bool_same x.is_final y.is_final s.0)
    ∙ ap (λ z. Some (record { start = y.start; end = y.end; epoch = y.epoch; is_final = y.is_final; accepted = z })) (bool_same x.accepted y.accepted s.1))))

abbrev pub same_reply : Reply → Reply → Bool
same_reply reply.Ok reply.Ok = true
same_reply (reply.NewEpoch a) (reply.NewEpoch b) = same_option a b
same_reply (reply.Prepared w c g) (reply.Prepared v d h) = (w == v) && ((c == d) && same_info g h)
same_reply (reply.Edits a) (reply.Edits b) = same_batch a b
same_reply (reply.Refused (SegmentHasEdits x)) (reply.Refused (SegmentHasEdits y)) = x == y
same_reply _ _ = false

reply_same : (a b : Reply) → same_reply a b ≡ true → a ≡ b
reply_same reply.Ok reply.Ok e = refl
reply_same (reply.NewEpoch a) (reply.NewEpoch b) e = ap (λ z. reply.NewEpoch z) (option_same a b e)
reply_same (reply.Prepared w c g) (reply.Prepared v d h) e =
    let p = and_parts (w == v) _ e in let q = and_parts (c == d) (same_info g h) p.1 in
    ap (λ z. reply.Prepared z c g) (eqb-true w v p.0) ∙ (ap (λ z. reply.Prepared v z g) (eqb-true c d q.0) ∙ ap (λ z. reply.Prepared v d z) (info_same g h q.1))
reply_same (reply.Edits a) (reply.Edits b) e = ap (λ z. reply.Edits z) (batch_same a b e)
reply_same (reply.Refused (SegmentHasEdits x)) (reply.Refused (SegmentHasEdits y)) e = ap (λ z. reply.Refused (SegmentHasEdits z)) (eqb-true x y e)
reply_same a b e = true≢false (sym e)

-- two states that some number tells apart
abbrev pub differ : NodeState → NodeState → Bool
differ s t = not (s.promised == t.promised) || (not (s.serial == t.serial) || (not (s.known == t.known) || (not (length s.segments == length t.segments) || not (same_bool s.up t.up))))

not_refl : (x : ℕ) → not (x == x) ≡ true → ⊥
not_refl x e = (let yes_it : (x == x) ≡ true = eq-eqb x x refl in let no_it : not true ≡ true = subst (λ b. not b ≡ true) yes_it e in true≢false (sym no_it))

not_same_bool : (b : Bool) → not (same_bool b b) ≡ true → ⊥
not_same_bool true e = true≢false (sym e)
not_same_bool false e = true≢false (sym e)

differ_from : (s t : NodeState) → differ s t ≡ true → s ≢ t
differ_from s t e same = apart (subst (λ z. differ z t ≡ true) same e)
  where
    apart : differ t t ≡ true → ⊥
    apart d = elim (or_cases (not (t.promised == t.promised)) _ d) [
      | inl a ↦ not_refl t.promised a
      | inr d2 ↦ elim (or_cases (not (t.serial == t.serial)) _ d2) [
        | inl a ↦ not_refl t.serial a
        | inr d3 ↦ elim (or_cases (not (t.known == t.known)) _ d3) [
          | inl a ↦ not_refl t.known a
          | inr d4 ↦ elim (or_cases (not (length t.segments == length t.segments)) _ d4) [ inl a ↦ not_refl (length t.segments) a | inr a ↦ not_same_bool t.up a ]
        ]
      ]
    ]

-- ## What was heard before a place
abbrev pub is_heard : Move → Reply → Bool
is_heard (Answer caller Heard request y) reply = same_reply y reply
is_heard _ reply = false

heard_is : (m : Move) (reply : Reply) → is_heard m reply ≡ true → (caller : ℕ) × (request : Request) × (m ≡ Answer caller Heard request reply)
heard_is (Answer caller Heard request y) reply e = (caller, request, ap (λ z. Answer caller Heard request z) (reply_same y reply e))
heard_is (Answer caller Muted request y) reply e = true≢false (sym e)
heard_is (Answer caller Late request y) reply e = true≢false (sym e)
heard_is (Stop caller late request keep) reply e = true≢false (sym e)
heard_is Kill reply e = true≢false (sym e)
heard_is Restart reply e = true≢false (sym e)

abbrev pub stands : Story → List Entry → ℕ → ℕ → ℕ → Reply → Bool
stands story [] a s i reply = false
stands story (e ∷ past) a s i reply =
    ((story.whose (length past) == a) && ((story.round (length past) == s) && ((e.node == i) && is_heard e.move reply))) || stands story past a s i reply

was_heard : (story : Story) (past : List Entry) (a s i : ℕ) (reply : Reply) → stands story past a s i reply ≡ true → WasHeard story past a s i reply
was_heard story [] a s i reply e = true≢false (sym e)
was_heard story (e ∷ past) a s i reply t = elim (or_cases _ (stands story past a s i reply) t) [
  | inl here ↦ (let p = and_parts (story.whose (length past) == a) _ here in let q = and_parts (story.round (length past) == s) _ p.1 in let r = and_parts (e.node == i) (is_heard e.move reply) q.1 in
      (past, e, now, (eqb-true (story.whose (length past)) a p.0, eqb-true (story.round (length past)) s q.0, eqb-true e.node i r.0, heard_is e.move reply r.1)))
  | inr before_it ↦ (let w = was_heard story past a s i reply before_it in (w.0, w.1, before w.2, w.3))
]

-- all that was heard in rounds below this one
abbrev pub all_stand : Story → List Entry → ℕ → ℕ → List Told → Bool
all_stand story past a r [] = true
all_stand story past a r (t ∷ answers) = (not (nat_lt t.round r) || stands story past a t.round t.node t.reply) && all_stand story past a r answers

not_true : (b : Bool) → b ≡ true → not b ≡ true → ⊥
not_true true p e = true≢false (sym e)
not_true false p e = true≢false (sym p)

heard_before : (story : Story) (past : List Entry) (a r : ℕ) (answers : List Told) → all_stand story past a r answers ≡ true
    → (s i : ℕ) (reply : Reply) → s < r → heard_in answers s i ≡ Some reply → WasHeard story past a s i reply
heard_before story past a r [] e s i reply lt h = none≢some reply h
heard_before story past a r (t ∷ answers) e s i reply lt h =
    let p = and_parts (not (nat_lt t.round r) || stands story past a t.round t.node t.reply) (all_stand story past a r answers) e in
    cond_both ((t.round == s) && (t.node == i)) (Some t.reply) (heard_in answers s i) (λ o. o ≡ Some reply → WasHeard story past a s i reply)
    (λ here f. (let q = and_parts (t.round == s) (t.node == i) here in
    let at_s : t.round ≡ s = eqb-true t.round s q.0 in
    let at_i : t.node ≡ i = eqb-true t.node i q.1 in
    let one : t.reply ≡ reply = some_same f in
    elim (or_cases (not (nat_lt t.round r)) (stands story past a t.round t.node t.reply) p.0) [
      | inl late ↦ absurd (not_true (nat_lt t.round r) (lt-ltb t.round r (omega arith)) late)
      | inr there ↦ subst (λ z. WasHeard story past a z i reply) at_s
          (subst (λ z. WasHeard story past a t.round z reply) at_i (subst (λ z. WasHeard story past a t.round t.node z) one
          (was_heard story past a t.round t.node t.reply there)))
    ]))
    (λ elsewhere f. heard_before story past a r answers p.1 s i reply lt f) h

-- an answer Ok that was heard
abbrev pub ok_heard : Move → Request → Bool
ok_heard (Answer caller Heard request reply.Ok) asked_for = same_request request asked_for
ok_heard _ asked_for = false

ok_heard_is : (m : Move) (request : Request) → ok_heard m request ≡ true → (caller : ℕ) × (m ≡ Answer caller Heard request reply.Ok)
ok_heard_is (Answer caller Heard r reply.Ok) request e = (caller, ap (λ z. Answer caller Heard z reply.Ok) (request_same r request e))
ok_heard_is m request e = true≢false (sym e)

abbrev pub said : List Entry → ℕ → Request → Bool
said [] node request = false
said (e ∷ past) node request = ((e.node == node) && ok_heard e.move request) || said past node request

pub said_is : (past : List Entry) (node : ℕ) (request : Request) → said past node request ≡ true → SaidOk past node request
said_is [] node request e = true≢false (sym e)
said_is (x ∷ past) node request e = elim (or_cases ((x.node == node) && ok_heard x.move request) (said past node request) e) [
  | inl here ↦ (let p = and_parts (x.node == node) (ok_heard x.move request) here in (past, x, now, eqb-true x.node node p.0, ok_heard_is x.move request p.1))
  | inr later ↦ (let s = said_is past node request later in (s.0, s.1, before s.2, s.3, s.4))
]

-- ## The order of a takeover's calls
abbrev pub in_turn : Move → Bool
in_turn (Answer caller Heard request reply) = true
in_turn (Answer caller Muted request reply) = true
in_turn (Answer caller Late request reply) = false
in_turn (Stop caller late request keep) = not late && nat_lt 0 keep
in_turn Kill = false
in_turn Restart = false

turn_in : (m : Move) → IsInTurn m → in_turn m ≡ true
turn_in (Answer caller Heard request reply) t = refl
turn_in (Answer caller Muted request reply) t = refl
turn_in (Answer caller Late request reply) t = absurd (t refl)
turn_in (Stop caller late request keep) t = subst (λ b. (not b && nat_lt 0 keep) ≡ true) (sym t.0) (lt-ltb 0 keep t.1)
turn_in Kill t = absurd t
turn_in Restart t = absurd t

abbrev pub orderly : Story → ℕ → ℕ → ℕ → List Entry → Bool
orderly story a r node [] = true
orderly story a r node (e ∷ past) =
    (not (story.whose (length past) == a) || (not (in_turn e.move) || (nat_lt (story.round (length past)) r || ((story.round (length past) == r) && nat_lt e.node node))))
    && orderly story a r node past

in_order : (story : Story) (a r node : ℕ) (past : List Entry) → orderly story a r node past ≡ true → (old : List Entry) (e : Entry)
    → Earlier (e ∷ old) past → story.whose (length old) ≡ a → IsInTurn e.move →
    (story.round (length old) < r) ⊎ (story.round (length old) ≡ r) × (e.node < node)
in_order story a r node [] t old e p whose turn = elim p [ ]
in_order story a r node (x ∷ past) t old e now whose turn =
    let p = and_parts _ (orderly story a r node past) t in
    elim (or_cases (not (story.whose (length past) == a)) _ p.0) [
      | inl other ↦ absurd (not_true (story.whose (length past) == a) (eq-eqb (story.whose (length past)) a whose) other)
      | inr q ↦ elim (or_cases (not (in_turn x.move)) _ q) [
        | inl late ↦ absurd (not_true (in_turn x.move) (turn_in x.move turn) late)
        | inr u ↦ elim (or_cases (nat_lt (story.round (length past)) r) _ u) [
          | inl lt ↦ inl (ltb-true (story.round (length past)) r lt)
          | inr v ↦ (let w = and_parts (story.round (length past) == r) (nat_lt x.node node) v in inr (eqb-true (story.round (length past)) r w.0, ltb-true x.node node w.1))
        ]
      ]
    ]
in_order story a r node (x ∷ past) t old e (before q) whose turn = in_order story a r node past (and_parts _ (orderly story a r node past) t).1 old e q whose turn

-- ## One entry
abbrev pub calls_and_asks : Option TaskProgress → ℕ → Request → Bool
calls_and_asks None node request = false
calls_and_asks (Some u) node request = calls u node && same_request request (request_of_round u)

asks_there : (o : Option TaskProgress) (node : ℕ) (request : Request) → calls_and_asks o node request ≡ true
    → (u : TaskProgress) × (o ≡ Some u) × (calls u node ≡ true) × (request ≡ request_of_round u)
asks_there None node request e = true≢false (sym e)
asks_there (Some u) node request e = let p = and_parts (calls u node) (same_request request (request_of_round u)) e in (u, refl, p.0, request_same request (request_of_round u) p.1)

abbrev pub table_at : Tables → List Entry → TakeoverTable
table_at t past = get_or t.takeovers ((story_of t).whose (length past)) no_takeover

-- made by its takeover, in this round
abbrev pub made : ℕ → Tables → List Entry → ℕ → ℕ → Request → Bool
made n t past caller node request =
    ((table_at t past).caller == caller)
    && (list_all may_follow (table_at t past).tasks
    && (calls_and_asks (writer_at n (takeover_of (table_at t past)) ((story_of t).round (length past))) node request
    && all_stand (story_of t) past ((story_of t).whose (length past)) ((story_of t).round (length past)) (table_at t past).answers))

is_made : (n : ℕ) (t : Tables) (past : List Entry) (caller node : ℕ) (request : Request) → made n t past caller node request ≡ true → IsMade n (story_of t) past caller node request
is_made n t past caller node request e =
    let p = and_parts ((table_at t past).caller == caller) _ e in
    let q = and_parts (list_all may_follow (table_at t past).tasks) _ p.1 in
    let r = and_parts (calls_and_asks (writer_at n (takeover_of (table_at t past)) ((story_of t).round (length past))) node request) _ q.1 in
    let u = asks_there (writer_at n (takeover_of (table_at t past)) ((story_of t).round (length past))) node request r.0 in
    record {
      by = eqb-true (table_at t past).caller caller p.0;
      tasks_follow = q.0;
      underway = u.0;
      is_there = u.1;
      calls_it = u.2;
      is_asked = u.3;
      heard_before = heard_before (story_of t) past ((story_of t).whose (length past)) ((story_of t).round (length past)) (table_at t past).answers r.1;
    }

abbrev pub called : ℕ → Tables → List Entry → ℕ → ℕ → Request → Move → Bool
called n t past caller node request m =
    made n t past caller node request && (not (in_turn m) || orderly (story_of t) ((story_of t).whose (length past)) ((story_of t).round (length past)) node past)

is_call : (n : ℕ) (t : Tables) (past : List Entry) (caller node : ℕ) (request : Request) (m : Move) → called n t past caller node request m ≡ true → IsCall n (story_of t) past caller node request m
is_call n t past caller node request m e =
    let p = and_parts (made n t past caller node request) _ e in
    record {
      made = is_made n t past caller node request p.0;
      in_order = λ turn. elim (or_cases (not (in_turn m)) _ p.1) [
        | inl late ↦ absurd (not_true (in_turn m) (turn_in m turn) late)
        | inr o ↦ in_order (story_of t) ((story_of t).whose (length past)) ((story_of t).round (length past)) node past o
      ];
    }

abbrev pub told : Option Reply → Reply → Bool
told None reply = false
told (Some y) reply = same_reply y reply

told_is : (o : Option Reply) (reply : Reply) → told o reply ≡ true → o ≡ Some reply
told_is None reply e = true≢false (sym e)
told_is (Some y) reply e = ap (λ z. Some z) (reply_same y reply e)

abbrev pub heard_as : Tables → List Entry → ℕ → Reply → Way → Bool
heard_as t past node reply Heard = told (heard_in (table_at t past).answers ((story_of t).round (length past)) node) reply
heard_as t past node reply Muted = true
heard_as t past node reply Late = true

is_heard_as : (t : Tables) (past : List Entry) (node : ℕ) (reply : Reply) (way : Way) → heard_as t past node reply way ≡ true → IsHeardAs (story_of t) past node reply way
is_heard_as t past node reply Heard e = told_is (heard_in (table_at t past).answers ((story_of t).round (length past)) node) reply e
is_heard_as t past node reply Muted e = tt
is_heard_as t past node reply Late e = tt

abbrev pub may_come : ℕ → Tables → List Entry → ℕ → NodeState → Move → Bool
may_come n t past node s (Answer caller way request reply) =
    called n t past caller node request (Answer caller way request reply) && (same_reply (node_step s request).reply reply && heard_as t past node reply way)
may_come n t past node s (Stop caller late request keep) =
    s.up && (nat_le keep (length (effects_of s request)) && (not (nat_lt 0 keep) || called n t past caller node request (Stop caller late request keep)))
may_come n t past node s Kill = s.up
may_come n t past node s Restart = not s.up

not_up : (b : Bool) → not b ≡ true → b ≡ false
not_up true e = true≢false (sym e)
not_up false e = refl

is_next : (n : ℕ) (t : Tables) (past : List Entry) (node : ℕ) (s : NodeState) (m : Move) → may_come n t past node s m ≡ true → IsNext n (story_of t) past node s m
is_next n t past node s (Answer caller way request reply) e =
    let p = and_parts (called n t past caller node request (Answer caller way request reply)) _ e in
    let q = and_parts (same_reply (node_step s request).reply reply) (heard_as t past node reply way) p.1 in
    (is_call n t past caller node request (Answer caller way request reply) p.0, reply_same (node_step s request).reply reply q.0, is_heard_as t past node reply way q.1)
is_next n t past node s (Stop caller late request keep) e =
    let p = and_parts s.up _ e in
    let q = and_parts (nat_le keep (length (effects_of s request))) _ p.1 in (
      p.0,
      leb-true keep (length (effects_of s request)) q.0,
      λ lt. elim (or_cases (not (nat_lt 0 keep)) _ q.1) [
        | inl none ↦ absurd (not_true (nat_lt 0 keep) (lt-ltb 0 keep lt) none)
        | inr c ↦ is_call n t past caller node request (Stop caller late request keep) c
      ],
    )
is_next n t past node s Kill e = e
is_next n t past node s Restart e = not_up s.up e

-- ## A list of entries, newest first
abbrev pub passes : ℕ → Tables → List Entry → Bool
passes n t [] = true
passes n t (e ∷ past) =
    (nat_le 1 e.node && (nat_le e.node n && (may_come n t past e.node (node_after e.node past) e.move && differ (after_move (node_after e.node past) e.move) (node_after e.node past))))
    && passes n t past

pub follows : (n : ℕ) (t : Tables) (past : List Entry) → passes n t past ≡ true → Follows n (story_of t) past
follows n t [] e = tt
follows n t (x ∷ past) e =
    let p = and_parts _ (passes n t past) e in
    let q = and_parts (nat_le 1 x.node) _ p.0 in
    let r = and_parts (nat_le x.node n) _ q.1 in
    let s = and_parts (may_come n t past x.node (node_after x.node past) x.move) _ r.1 in (
      record {
        from_one = leb-true 1 x.node q.0;
        up_to_n = leb-true x.node n r.0;
        is_next = is_next n t past x.node (node_after x.node past) x.move s.0;
        moves = differ_from (after_move (node_after x.node past) x.move) (node_after x.node past) s.1;
      },
      follows n t past p.1,
    )

-- ## No start under an epoch
abbrev pub starts_under : ℕ → Request → Bool
starts_under epoch (Start head start) = head.epoch == epoch
starts_under epoch _ = false

abbrev pub is_start : ℕ → Move → Bool
is_start epoch (Answer caller way request reply) = starts_under epoch request
is_start epoch (Stop caller late request keep) = starts_under epoch request
is_start epoch Kill = false
is_start epoch Restart = false

abbrev pub no_start : ℕ → List Entry → Bool
no_start epoch [] = true
no_start epoch (e ∷ past) = not (is_start epoch e.move) && no_start epoch past

start_seen : (epoch start : ℕ) (e : Entry) → IsStart e epoch start → is_start epoch e.move ≡ true
start_seen epoch start e s = elim s.2 [
  | inl x ↦ ap (is_start epoch) x.3 ∙ eq-eqb s.0.epoch epoch s.1
  | inr x ↦ ap (is_start epoch) x.3 ∙ eq-eqb s.0.epoch epoch s.1
]

pub none_starts : (epoch : ℕ) (past : List Entry) → no_start epoch past ≡ true → (older : List Entry) (e : Entry) (start : ℕ) → Earlier (e ∷ older) past → IsStart e epoch start → ⊥
none_starts epoch past t older e start now s = not_true (is_start epoch e.move) (start_seen epoch start e s) (and_parts (not (is_start epoch e.move)) (no_start epoch older) t).0
none_starts epoch (x ∷ past) t older e start (before p) s = none_starts epoch past (and_parts (not (is_start epoch x.move)) (no_start epoch past) t).1 older e start p s
