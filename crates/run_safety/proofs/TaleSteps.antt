-- Steps of a tale that one caller makes: an entry more, a takeover that goes on, a new takeover.
use Rattle.std.proofs.Common.{◌≡◌, ◌≢◌, ℕ, suc, ◌≤◌, ◌==◌, ◌&&◌, ◌⊎◌, inl, inr, List, [], ◌∷◌, ◌++◌, Bool, true, false, cond, length, refl, sym, ap, ◌∙◌, subst, arith, Option, Some, None}
use Rattle.std.proofs.lemmas.Bool.{cases_eq, cond-true, cond-false, eq-eqb, ne_eqb}
use Rattle.std.specs.List.{list_all}
use Rattle.journal_core.specs.declared.request.Request.{Request}
use Rattle.journal_core.specs.declared.reply.Reply.{Reply}
use Rattle.writer_core.specs.declared.task.Task.{Task}
use Rattle.writer_core.specs.Whole.{Takeover}
use Rattle.writer_core.proofs.WholeLaws.{with_tasks, with_heard}
use Rattle.journal_history.specs.Entries.{Entry, Earlier, now, before}
use Rattle.run_safety.specs.Run.{WasHeard, may_follow, IsInTurn}
use Rattle.run_safety.proofs.Tales.{Tale, earlier_length, place_below, Grows, Tells, IsMadeAt, made_still, made_on, heard_still, heard_on}

-- ## A function that is changed at one number
abbrev pub put : {A : Type 0} → (ℕ → A) → ℕ → A → ℕ → A
put f k v i = cond (i == k) v (f i)

pub put_here : {A : Type 0} (f : ℕ → A) (k : ℕ) (v : A) → put f k v k ≡ v
put_here f k v = cond-true (k == k) v (f k) (eq-eqb k k refl)

pub put_there : {A : Type 0} (f : ℕ → A) (k : ℕ) (v : A) (i : ℕ) → i ≢ k → put f k v i ≡ f i
put_there f k v i off = cond-false (i == k) v (f i) (ne_eqb i k off)

pub put_same : {A : Type 0} (f : ℕ → A) (k : ℕ) (v : A) (i : ℕ) → (i ≡ k → v ≡ f i) → put f k v i ≡ f i
put_same {A} f k v i same = elim (cases_eq i k) [
  | inl e ↦ ap (λ (j : ℕ). put f k v j) e ∙ put_here f k v ∙ same e ∙ refl
  | inr off ↦ put_there f k v i off
]

-- ## Growing by nothing, by an answer, by a task
nil_tasks : (l : List Task) → l ≡ l ++ []
nil_tasks [] = refl
nil_tasks (x ∷ l) = ap (λ (z : List Task). x ∷ z) (nil_tasks l)

pub grows_not : (top : ℕ) (t : Takeover) → Grows top t t
grows_not top t = record {
  more = [];
  heard = t.heard;
  is = ap (λ (l : List Task). record t { tasks = l }) (nil_tasks t.tasks);
  follow = λ e. ap (list_all may_follow) (sym (nil_tasks t.tasks)) ∙ e;
  below = λ x l. refl;
  keeps = λ x i reply e. e;
}

abbrev pub hears : Takeover → ℕ → ℕ → Reply → Takeover
hears t s node reply = with_heard t (put t.heard s (put (t.heard s) node (Some reply)))

pub hears_here : (t : Takeover) (s node : ℕ) (reply : Reply) → (hears t s node reply).heard s ≡ put (t.heard s) node (Some reply)
hears_here t s node reply = put_here t.heard s (put (t.heard s) node (Some reply))

pub hears_there : (t : Takeover) (s node : ℕ) (reply : Reply) (x : ℕ) → x ≢ s → (hears t s node reply).heard x ≡ t.heard x
hears_there t s node reply x off = put_there t.heard s (put (t.heard s) node (Some reply)) x off

-- what it has is what it had, or this answer
pub hears_cases : (t : Takeover) (s node : ℕ) (reply : Reply) (x i : ℕ) (other : Reply) → (hears t s node reply).heard x i ≡ Some other
    → (t.heard x i ≡ Some other) ⊎ ((x ≡ s) × (i ≡ node) × (reply ≡ other))
hears_cases t s node reply x i other e = elim (cases_eq x s) [
  | inr off ↦ inl (ap (λ (f : ℕ → Option Reply). f i) (sym (hears_there t s node reply x off)) ∙ e)
  | inl same ↦ elim (cases_eq i node) [
    | inr off ↦ inl (ap (λ (y : ℕ). t.heard y i) same ∙ sym (put_there (t.heard s) node (Some reply) i off)
        ∙ sym (ap (λ (f : ℕ → Option Reply). f i) (hears_here t s node reply)) ∙ sym (ap (λ (y : ℕ). (hears t s node reply).heard y i) same) ∙ e)
    | inl here ↦ inr (
      same,
      here,
      some_same (sym (put_here (t.heard s) node (Some reply))
          ∙ sym (ap (λ (f : ℕ → Option Reply). f node) (hears_here t s node reply)) ∙ sym (ap (λ (y : ℕ). (hears t s node reply).heard y node) same)
          ∙ sym (ap (λ (j : ℕ). (hears t s node reply).heard x j) here) ∙ e),
    )
  ]
]
  where
    some_same : Some reply ≡ Some other → reply ≡ other
    some_same f = cc

pub grows_heard : (t : Takeover) (s node : ℕ) (reply : Reply) → t.heard s node ≡ None → Grows s t (hears t s node reply)
grows_heard t s node reply none = record {
  more = [];
  heard = (hears t s node reply).heard;
  is = ap (λ (l : List Task). record (hears t s node reply) { tasks = l }) (nil_tasks t.tasks);
  follow = λ e. ap (list_all may_follow) (sym (nil_tasks t.tasks)) ∙ e;
  below = λ x l. hears_there t s node reply x (λ same. absurd (omega arith));
  keeps = keeps;
}
  where
    keeps : (x i : ℕ) (other : Reply) → t.heard x i ≡ Some other → (hears t s node reply).heard x i ≡ Some other
    keeps x i other e = elim (cases_eq x s) [
      | inr off ↦ ap (λ (f : ℕ → Option Reply). f i) (hears_there t s node reply x off) ∙ e
      | inl same ↦ elim (cases_eq i node) [
        | inl here ↦ (let no : t.heard x i ≡ None = ap (λ (y : ℕ). t.heard y i) same ∙ ap (t.heard s) here ∙ none in absurd (cc (e, no)))
        | inr off ↦ ap (λ (y : ℕ). (hears t s node reply).heard y i) same ∙ ap (λ (f : ℕ → Option Reply). f i) (hears_here t s node reply)
            ∙ put_there (t.heard s) node (Some reply) i off ∙ ap (λ (y : ℕ). t.heard y i) (sym same) ∙ e
      ]
    ]

pub all_more : (ts : List Task) (x : Task) → list_all may_follow ts ≡ true → may_follow x ≡ true → list_all may_follow (ts ++ x ∷ []) ≡ true
all_more [] x e f = ap (λ (b : Bool). b && true) f
all_more (t ∷ ts) x e f = by (may_follow t) (list_all may_follow ts) (list_all may_follow (ts ++ x ∷ [])) e (λ h. all_more ts x h f)
  where
    by : (a b c : Bool) → (a && b) ≡ true → (b ≡ true → c ≡ true) → (a && c) ≡ true
    by true b c e h = h e
    by false b c e h = e

pub grows_task : (top : ℕ) (t : Takeover) (x : Task) → may_follow x ≡ true → Grows top t (with_tasks t (x ∷ []))
grows_task top t x may = record {
  more = x ∷ [];
  heard = t.heard;
  is = refl;
  follow = λ e. all_more t.tasks x e may;
  below = λ y l. refl;
  keeps = λ y i reply e. e;
}

-- ## A step that this caller makes: the others' takeovers are as they were
pub record Continues (c : ℕ) (a : Tale) (past : List Entry) (b : Tale) (next : List Entry) : Type 0 where
  pub longer : Earlier past next
  pub tells : Tells a b (length past)
  pub others : (k : ℕ) → k ≤ a.count → (a.story.takeover k).caller ≢ c → (b.story.takeover k ≡ a.story.takeover k) × (b.top k ≡ a.top k)
  pub fresh : (old : List Entry) (e : Entry) → Earlier (e ∷ old) next → length past ≤ length old → IsInTurn e.move → (b.story.takeover (b.story.whose (length old))).caller ≡ c

pub place_cases : {past next : List Entry} {e : Entry} {old : List Entry} → Earlier past next → Earlier (e ∷ old) next → Earlier (e ∷ old) past ⊎ (length past ≤ length old)
place_cases now p = inl p
place_cases (before q) now = inr (earlier_length q)
place_cases (before q) (before p) = place_cases q p

pub made_later : (n c : ℕ) (a b : Tale) (past next : List Entry) (k s caller node : ℕ) (r : Request) → Continues c a past b next
    → IsMadeAt n a past k s caller node r → IsMadeAt n b next k s caller node r
made_later n c a b past next k s caller node r g h = made_on n b k s caller node r g.longer (made_still n a b (length past) past k s caller node r g.tells (omega arith) h)

pub heard_later : (c : ℕ) (a b : Tale) (past next : List Entry) (k s i : ℕ) (reply : Reply) → Continues c a past b next → WasHeard a.story past k s i reply → WasHeard b.story next k s i reply
heard_later c a b past next k s i reply g h = heard_on b k s i reply g.longer (heard_still a b (length past) past k s i reply g.tells (omega arith) h)

-- ## An entry more, with its labels; the takeover may have heard its answer
abbrev pub labelled : Tale → ℕ → ℕ → ℕ → Takeover → Tale
labelled a size k s t = record a { story = record { takeover = put a.story.takeover k t; whose = put a.story.whose size k; round = put a.story.round size s } }

pub labelled_continues : (c : ℕ) (a : Tale) (past : List Entry) (e : Entry) (k s : ℕ) (t : Takeover) → Grows (a.top k) (a.story.takeover k) t
    → ((a.story.takeover k).caller ≡ c) ⊎ (t ≡ a.story.takeover k) → (IsInTurn e.move → t.caller ≡ c) → Continues c a past (labelled a (length past) k s t) (e ∷ past)
labelled_continues c a past e k s t g mine turn = record {
  longer = before now;
  tells = record {
    whose = λ m l. put_there a.story.whose (length past) k m (λ same. absurd (omega arith));
    round = λ m l. put_there a.story.round (length past) s m (λ same. absurd (omega arith));
    count = omega arith;
    grown = grown;
    tops = λ i l. omega arith;
  };
  others = λ i l off. (put_same a.story.takeover k t i (λ same. by i off same mine), refl);
  fresh = fresh;
}
  where
    by : (i : ℕ) → (a.story.takeover i).caller ≢ c → i ≡ k → ((a.story.takeover k).caller ≡ c) ⊎ (t ≡ a.story.takeover k) → t ≡ a.story.takeover i
    by i off same (inl m) = absurd (off (ap (λ (j : ℕ). (a.story.takeover j).caller) same ∙ m))
    by i off same (inr m) = m ∙ ap a.story.takeover (sym same)

    grown : (i : ℕ) → i ≤ a.count → Grows (a.top i) (a.story.takeover i) (put a.story.takeover k t i)
    grown i l = elim (cases_eq i k) [
      | inl same ↦ subst (λ (j : ℕ). Grows (a.top j) (a.story.takeover j) (put a.story.takeover k t j)) (sym same)
          (subst (λ (u : Takeover). Grows (a.top k) (a.story.takeover k) u) (sym (put_here a.story.takeover k t)) g)
      | inr off ↦ subst (λ (u : Takeover). Grows (a.top i) (a.story.takeover i) u) (sym (put_there a.story.takeover k t i off)) (grows_not (a.top i) (a.story.takeover i))
    ]

    fresh : (old : List Entry) (x : Entry) → Earlier (x ∷ old) (e ∷ past) → length past ≤ length old → IsInTurn x.move
        → (put a.story.takeover k t (put a.story.whose (length past) k (length old))).caller ≡ c
    fresh old x now l in_turn = ap (λ (j : ℕ). (put a.story.takeover k t j).caller) (put_here a.story.whose (length past) k)
        ∙ ap (λ (u : Takeover). u.caller) (put_here a.story.takeover k t) ∙ turn in_turn
    fresh old x (before p) l in_turn = absurd (omega (arith, place_below x p, l))

-- ## No change
pub continues_not : (c : ℕ) (a : Tale) (past : List Entry) → Continues c a past a past
continues_not c a past = record {
  longer = now;
  tells = record { whose = λ m l. refl; round = λ m l. refl; count = omega arith; grown = λ i l. grows_not (a.top i) (a.story.takeover i); tops = λ i l. omega arith };
  others = λ i l off. (refl, refl);
  fresh = λ old e p l turn. absurd (omega (arith, place_below e p, l));
}

-- ## A takeover of this caller goes on: to a later round, or with a task more
abbrev pub gone_on : Tale → ℕ → ℕ → Takeover → Tale
gone_on a k top t = record a { story = record a.story { takeover = put a.story.takeover k t }; top = put a.top k top }

no_place : (past old : List Entry) (e : Entry) → Earlier (e ∷ old) past → length past ≤ length old → ⊥
no_place past old e p l = omega (arith, place_below e p, l)

pub gone_continues : (c : ℕ) (a : Tale) (past : List Entry) (k top : ℕ) (t : Takeover) → Grows (a.top k) (a.story.takeover k) t → (a.story.takeover k).caller ≡ c → a.top k ≤ top
    → Continues c a past (gone_on a k top t) past
gone_continues c a past k top t g mine up = record {
  longer = now;
  tells = record { whose = λ m l. refl; round = λ m l. refl; count = omega arith; grown = grown; tops = λ i l. tops i };
  others = λ i l off. (put_there a.story.takeover k t i (λ same. off (other i same)), put_there a.top k top i (λ same. off (other i same)));
  fresh = λ old e p l turn. absurd (no_place past old e p l);
}
  where
    other : (i : ℕ) → i ≡ k → (a.story.takeover i).caller ≡ c
    other i same = ap (λ (j : ℕ). (a.story.takeover j).caller) same ∙ mine

    grown : (i : ℕ) → i ≤ a.count → Grows (a.top i) (a.story.takeover i) (put a.story.takeover k t i)
    grown i l = elim (cases_eq i k) [
      | inl same ↦ subst (λ (j : ℕ). Grows (a.top j) (a.story.takeover j) (put a.story.takeover k t j)) (sym same)
          (subst (λ (u : Takeover). Grows (a.top k) (a.story.takeover k) u) (sym (put_here a.story.takeover k t)) g)
      | inr off ↦ subst (λ (u : Takeover). Grows (a.top i) (a.story.takeover i) u) (sym (put_there a.story.takeover k t i off)) (grows_not (a.top i) (a.story.takeover i))
    ]

    tops : (i : ℕ) → a.top i ≤ put a.top k top i
    tops i = elim (cases_eq i k) [
      | inl same ↦ subst (λ (j : ℕ). a.top j ≤ put a.top k top j) (sym same) (let e : put a.top k top k ≡ top = put_here a.top k top in omega (arith, e, up))
      | inr off ↦ (let e : put a.top k top i ≡ a.top i = put_there a.top k top i off in omega (arith, e))
    ]

-- ## A new takeover
abbrev pub taken_over : Tale → Takeover → Tale
taken_over a t = record { story = record a.story { takeover = put a.story.takeover (suc a.count) t }; count = suc a.count; top = put a.top (suc a.count) 0 }

pub taken_continues : (c : ℕ) (a : Tale) (past : List Entry) (t : Takeover) → Continues c a past (taken_over a t) past
taken_continues c a past t = record {
  longer = now;
  tells = record {
    whose = λ m l. refl;
    round = λ m l. refl;
    count = omega arith;
    grown = λ i l. subst (λ (u : Takeover). Grows (a.top i) (a.story.takeover i) u) (sym (put_there a.story.takeover (suc a.count) t i (off i l))) (grows_not (a.top i) (a.story.takeover i));
    tops = λ i l. let e : put a.top (suc a.count) 0 i ≡ a.top i = put_there a.top (suc a.count) 0 i (off i l) in omega (arith, e);
  };
  others = λ i l not_his. (put_there a.story.takeover (suc a.count) t i (off i l), put_there a.top (suc a.count) 0 i (off i l));
  fresh = λ old e p l turn. absurd (no_place past old e p l);
}
  where
    off : (i : ℕ) → i ≤ a.count → i ≢ suc a.count
    off i l same = omega (arith, l, same)
