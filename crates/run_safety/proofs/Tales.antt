-- Stories that grow with the list: more is heard, more tasks are given, more takeovers propose.
-- What held of the list so far still holds.
use Rattle.std.proofs.Common.{◌≡◌, ℕ, ◌<◌, ◌≤◌, inl, inr, List, ◌∷◌, ◌++◌, true, length, sym, ap, ◌∙◌, subst, arith, Option, Some}
use Rattle.std.specs.List.{list_all}
use Rattle.journal_core.specs.declared.request.Request.{Request}
use Rattle.journal_core.specs.declared.reply.Reply.{Reply}
use Rattle.writer_core.specs.declared.task.Task.{Task}
use Rattle.writer_core.specs.Whole.{Takeover, TaskProgress, writer_at, request_of_round, calls}
use Rattle.writer_core.proofs.WholeLaws.{with_tasks, with_heard, going_on, heard_below, tasks_more}
use Rattle.journal_history.specs.Entries.{Way, Heard, Muted, Late, Move, Entry, Earlier, now, before}
use Rattle.run_safety.specs.Run.{Story, WasHeard, may_follow, IsMade, IsInOrder, IsHeardAs, IsCall}
use Rattle.run_safety.proofs.Places.{Earlier-trans}

-- a story, how many takeovers it tells (numbered from 1), and the last round of each
pub record Tale : Type 0 where
  pub story : Story
  pub count : ℕ
  pub top : ℕ → ℕ

-- ## Places
pub earlier_length : {old past : List Entry} → Earlier old past → length old ≤ length past
earlier_length now = omega arith
earlier_length (before p) = omega (arith, earlier_length p)

pub place_below : {old past : List Entry} (e : Entry) → Earlier (e ∷ old) past → length old < length past
place_below e p = omega (arith, earlier_length p)

-- ## What the places of a list are labelled with
pub record IsLabelled (a : Tale) (old : List Entry) : Type 0 where
  pub known : a.story.whose (length old) ≤ a.count
  pub within : a.story.round (length old) ≤ a.top (a.story.whose (length old))

abbrev pub AreLabelled : Tale → List Entry → Type 0
AreLabelled a past = (old : List Entry) (e : Entry) → Earlier (e ∷ old) past → IsLabelled a old

-- ## A request that a takeover of this caller makes in this round, from what stands in the list
pub record IsMadeAt (n : ℕ) (a : Tale) (past : List Entry) (k s caller node : ℕ) (r : Request) : Type 0 where
  pub known : k ≤ a.count
  pub within : s ≤ a.top k
  pub by : (a.story.takeover k).caller ≡ caller
  pub tasks_follow : list_all may_follow (a.story.takeover k).tasks ≡ true
  pub underway : TaskProgress
  pub is_there : writer_at n (a.story.takeover k) s ≡ Some underway
  pub calls_it : calls underway node ≡ true
  pub is_asked : r ≡ request_of_round underway
  pub heard_before : (x i : ℕ) (reply : Reply) → x < s → (a.story.takeover k).heard x i ≡ Some reply → WasHeard a.story past k x i reply

-- at the place that has these labels
pub made_here : (n : ℕ) (a : Tale) (past : List Entry) (k s caller node : ℕ) (r : Request) → a.story.whose (length past) ≡ k → a.story.round (length past) ≡ s
    → IsMadeAt n a past k s caller node r → IsMade n a.story past caller node r
made_here n a past k s caller node r w x h =
    let same : a.story.takeover (a.story.whose (length past)) ≡ a.story.takeover k = ap a.story.takeover w in
    record {
      by = ap (λ (t : Takeover). t.caller) same ∙ h.by;
      tasks_follow = ap (λ (t : Takeover). list_all may_follow t.tasks) same ∙ h.tasks_follow;
      underway = h.underway;
      is_there = ap (λ (t : Takeover). writer_at n t (a.story.round (length past))) same ∙ ap (writer_at n (a.story.takeover k)) x ∙ h.is_there;
      calls_it = h.calls_it;
      is_asked = h.is_asked;
      heard_before = λ y i reply l e.
          let lt : y < s = omega (arith, x, l) in
          subst (λ (z : ℕ). WasHeard a.story past z y i reply) (sym w) (h.heard_before y i reply lt (ap (λ (t : Takeover). t.heard y i) (sym same) ∙ e));
    }

pub made_there : (n : ℕ) (a : Tale) (past : List Entry) (caller node : ℕ) (r : Request) → IsLabelled a past → IsMade n a.story past caller node r
    → IsMadeAt n a past (a.story.whose (length past)) (a.story.round (length past)) caller node r
made_there n a past caller node r l h = record {
  known = l.known;
  within = l.within;
  by = h.by;
  tasks_follow = h.tasks_follow;
  underway = h.underway;
  is_there = h.is_there;
  calls_it = h.calls_it;
  is_asked = h.is_asked;
  heard_before = h.heard_before;
}

-- ## A takeover that grows: only from its last round on is more heard
pub record Grows (top : ℕ) (t u : Takeover) : Type 0 where
  pub more : List Task
  pub heard : ℕ → ℕ → Option Reply
  pub is : u ≡ with_heard (with_tasks t more) heard
  pub follow : list_all may_follow t.tasks ≡ true → list_all may_follow (t.tasks ++ more) ≡ true
  pub below : (x : ℕ) → x < top → heard x ≡ t.heard x
  pub keeps : (x i : ℕ) (reply : Reply) → t.heard x i ≡ Some reply → heard x i ≡ Some reply

-- and a story, as far as it labels the first places
pub record Tells (a b : Tale) (size : ℕ) : Type 0 where
  pub whose : (m : ℕ) → m < size → b.story.whose m ≡ a.story.whose m
  pub round : (m : ℕ) → m < size → b.story.round m ≡ a.story.round m
  pub count : a.count ≤ b.count
  pub grown : (k : ℕ) → k ≤ a.count → Grows (a.top k) (a.story.takeover k) (b.story.takeover k)
  pub tops : (k : ℕ) → k ≤ a.count → a.top k ≤ b.top k

pub heard_still : (a b : Tale) (size : ℕ) (past : List Entry) (k s i : ℕ) (reply : Reply) → Tells a b size → length past ≤ size
    → WasHeard a.story past k s i reply → WasHeard b.story past k s i reply
heard_still a b size past k s i reply t l h =
    let old : List Entry = h.0 in
    let lt : length old < size = omega (arith, place_below h.1 h.2, l) in
    (old, h.1, h.2, (t.whose (length old) lt ∙ h.3.0, t.round (length old) lt ∙ h.3.1, h.3.2, h.3.3))

pub heard_on : (a : Tale) {past next : List Entry} (k s i : ℕ) (reply : Reply) → Earlier past next → WasHeard a.story past k s i reply → WasHeard a.story next k s i reply
heard_on a k s i reply p h = (h.0, h.1, Earlier-trans h.2 p, h.3)

pub made_still : (n : ℕ) (a b : Tale) (size : ℕ) (past : List Entry) (k s caller node : ℕ) (r : Request) → Tells a b size → length past ≤ size
    → IsMadeAt n a past k s caller node r → IsMadeAt n b past k s caller node r
made_still n a b size past k s caller node r t l h =
    let g : Grows (a.top k) (a.story.takeover k) (b.story.takeover k) = t.grown k h.known in
    let old : Takeover = a.story.takeover k in
    record {
      known = omega (arith, t.count, h.known);
      within = omega (arith, t.tops k h.known, h.within);
      by = ap (λ (x : Takeover). x.caller) g.is ∙ h.by;
      tasks_follow = ap (λ (x : Takeover). list_all may_follow x.tasks) g.is ∙ g.follow h.tasks_follow;
      underway = going_on h.underway g.more;
      is_there =
          ap (λ (x : Takeover). writer_at n x s) g.is
          ∙ heard_below n (with_tasks old g.more) g.heard s (λ x lt. g.below x (omega (arith, lt, h.within)))
          ∙ tasks_more n old g.more s h.underway h.is_there;
      calls_it = h.calls_it;
      is_asked = h.is_asked;
      heard_before = λ x i reply lt e.
          let low : x < a.top k = omega (arith, lt, h.within) in
          heard_still a b size past k x i reply t l
          (h.heard_before x i reply lt (ap (λ (f : ℕ → Option Reply). f i) (sym (g.below x low)) ∙ ap (λ (y : Takeover). y.heard x i) (sym g.is) ∙ e));
    }

pub made_on : (n : ℕ) (a : Tale) {past next : List Entry} (k s caller node : ℕ) (r : Request) → Earlier past next → IsMadeAt n a past k s caller node r → IsMadeAt n a next k s caller node r
made_on n a k s caller node r p h = record {
  known = h.known;
  within = h.within;
  by = h.by;
  tasks_follow = h.tasks_follow;
  underway = h.underway;
  is_there = h.is_there;
  calls_it = h.calls_it;
  is_asked = h.is_asked;
  heard_before = λ x i reply lt e. heard_on a k x i reply p (h.heard_before x i reply lt e);
}

-- ## The list so far
pub labelled_still : (a b : Tale) (size : ℕ) (old : List Entry) → Tells a b size → length old < size → IsLabelled a old → IsLabelled b old
labelled_still a b size old t l h =
    let w : b.story.whose (length old) ≡ a.story.whose (length old) = t.whose (length old) l in
    let x : b.story.round (length old) ≡ a.story.round (length old) = t.round (length old) l in
    let up : a.top (a.story.whose (length old)) ≤ b.top (a.story.whose (length old)) = t.tops (a.story.whose (length old)) h.known in
    record {
      known = omega (arith, w, t.count, h.known);
      within = subst (λ (k : ℕ). b.story.round (length old) ≤ b.top k) (sym w) (omega (arith, x, up, h.within));
    }

pub order_still : (a b : Tale) (size : ℕ) (old : List Entry) (node : ℕ) → Tells a b size → length old < size → IsInOrder a.story old node → IsInOrder b.story old node
order_still a b size old node t l h older e p same turn =
    let lt : length older < size = omega (arith, place_below e p, l) in
    let r : b.story.round (length older) ≡ a.story.round (length older) = t.round (length older) lt in
    let s : b.story.round (length old) ≡ a.story.round (length old) = t.round (length old) l in
    elim (h older e p (sym (t.whose (length older) lt) ∙ same ∙ t.whose (length old) l) turn) [
      | inl f ↦ inl (omega (arith, f, r, s))
      | inr f ↦ inr (r ∙ f.0 ∙ sym s, f.1)
    ]

pub call_still : (n : ℕ) (a b : Tale) (size : ℕ) (old : List Entry) (caller node : ℕ) (r : Request) (move : Move) → Tells a b size → length old < size → IsLabelled a old
    → IsCall n a.story old caller node r move → IsCall n b.story old caller node r move
call_still n a b size old caller node r move t l label h = record {
  made = made_here n b old (a.story.whose (length old)) (a.story.round (length old)) caller node r (t.whose (length old) l) (t.round (length old) l)
      (made_still n a b size old (a.story.whose (length old)) (a.story.round (length old)) caller node r t (omega (arith, l)) (made_there n a old caller node r label h.made));
  in_order = λ turn. order_still a b size old node t l (h.in_order turn);
}

pub heard_as_still : (a b : Tale) (size : ℕ) (old : List Entry) (node : ℕ) (reply : Reply) (way : Way) → Tells a b size → length old < size → IsLabelled a old
    → IsHeardAs a.story old node reply way → IsHeardAs b.story old node reply way
heard_as_still a b size old node reply Heard t l label h =
    let k : ℕ = a.story.whose (length old) in
    let g : Grows (a.top k) (a.story.takeover k) (b.story.takeover k) = t.grown k label.known in
    ap (λ (j : ℕ). (b.story.takeover j).heard (b.story.round (length old)) node) (t.whose (length old) l)
    ∙ ap (λ (s : ℕ). (b.story.takeover k).heard s node) (t.round (length old) l)
    ∙ ap (λ (x : Takeover). x.heard (a.story.round (length old)) node) g.is
    ∙ g.keeps (a.story.round (length old)) node reply h
heard_as_still a b size old node reply Muted t l label h = tt
heard_as_still a b size old node reply Late t l label h = tt
