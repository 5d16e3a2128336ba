-- A life's record, settled by what arrived, tells of each node just what the node got.
use Rattle.std.proofs.Common.{ℕ, ◌≡◌, ◌≢◌, ◌==◌, ◌⊎◌, inl, inr, List, [], ◌∷◌, map, filter, cond, Bool, true, false, refl, sym, ap, ◌∙◌, subst}
use Rattle.std.proofs.lemmas.Bool.{cases_eq}
use Rattle.journal_core.specs.declared.request.Request.{Request}
use Rattle.journal_history.specs.declared.history_line.HistoryLine.{HistoryLine}
use Rattle.journal_history.specs.declared.node_ask.NodeAsk.TheVariants.{Act}
use Rattle.journal_history.specs.declared.record.Record.{Record}
use Rattle.journal_history.specs.declared.record.Record.TheVariants.{Call, Late, Operator, Outcome}
use Rattle.journal_history.specs.declared.record.Told.{Told}
use Rattle.journal_history.specs.declared.record.Told.TheVariants as told
use Rattle.mesh.specs.Matches.{reached, reaches, AreSame, IsSame}
use Rattle.mesh.proofs.Lists.{cond_true, cond_false, same_test, other_test}
use Rattle.pipe_seats.specs.Settled.{settled, settled_told}
use Rattle.pipe_seats.specs.Carried.{Got, got_line, IsHeardOf, IsUnheard, Arrives, IsCarried, PipesCarry}

-- ## One call
own_reaches : (m : ℕ) (r : Request) (t : Told) (rs : List Record) → reached m (Call m r (settled_told t true) ∷ rs) ≡ Call m r (settled_told t true) ∷ reached m rs
unfolding reached reaches
own_reaches m r (told.Reply reply) rs = cond_true (m == m) (Call m r (told.Reply reply) ∷ filter (reaches m) rs) (filter (reaches m) rs) (same_test m m refl)
own_reaches m r told.Dropped rs = cond_true (m == m) (Call m r told.Muted ∷ filter (reaches m) rs) (filter (reaches m) rs) (same_test m m refl)
own_reaches m r told.Muted rs = cond_true (m == m) (Call m r told.Muted ∷ filter (reaches m) rs) (filter (reaches m) rs) (same_test m m refl)
own_reaches m r told.Silent rs = cond_true (m == m) (Call m r told.Muted ∷ filter (reaches m) rs) (filter (reaches m) rs) (same_test m m refl)

other_reaches : (n m : ℕ) (r : Request) (t : Told) (rs : List Record) → m ≢ n → reached n (Call m r (settled_told t true) ∷ rs) ≡ reached n rs
unfolding reached reaches
other_reaches n m r (told.Reply reply) rs off = cond_false (m == n) (Call m r (told.Reply reply) ∷ filter (reaches n) rs) (filter (reaches n) rs) (other_test m n off)
other_reaches n m r told.Dropped rs off = cond_false (m == n) (Call m r told.Muted ∷ filter (reaches n) rs) (filter (reaches n) rs) (other_test m n off)
other_reaches n m r told.Muted rs off = cond_false (m == n) (Call m r told.Muted ∷ filter (reaches n) rs) (filter (reaches n) rs) (other_test m n off)
other_reaches n m r told.Silent rs off = cond_false (m == n) (Call m r told.Muted ∷ filter (reaches n) rs) (filter (reaches n) rs) (other_test m n off)

lost_reaches : (n m : ℕ) (r : Request) (t : Told) (rs : List Record) → IsUnheard t → reached n (Call m r (settled_told t false) ∷ rs) ≡ reached n rs
unfolding reached reaches
lost_reaches n m r (told.Reply reply) rs h = absurd h
lost_reaches n m r told.Dropped rs h = refl
lost_reaches n m r told.Muted rs h = refl
lost_reaches n m r told.Silent rs h = refl

said_reaches : (n : ℕ) (text : List ℕ) (rs : List Record) → reached n (Outcome text ∷ rs) ≡ reached n rs
unfolding reached reaches
said_reaches n text rs = refl

same_call : (caller m : ℕ) (r : Request) (t : Told) (g : Got) → g.request ≡ r → IsHeardOf t g.answer → IsSame (Call m r (settled_told t true)) (got_line caller g)
unfolding IsSame
same_call caller m r (told.Reply reply) g e h = (ap (Act false) e, h)
same_call caller m r told.Dropped g e h = (ap (Act false) e, tt)
same_call caller m r told.Muted g e h = (ap (Act false) e, tt)
same_call caller m r told.Silent g e h = (ap (Act false) e, tt)

more_same : (x : Record) (h : HistoryLine) (rs : List Record) (hs : List HistoryLine) → IsSame x h → AreSame rs hs → AreSame (x ∷ rs) (h ∷ hs)
unfolding AreSame
more_same x h rs hs one rest = (one, rest)

none_same : AreSame [] []
unfolding AreSame
none_same = tt

none_reached : (n : ℕ) → reached n [] ≡ []
unfolding reached
none_reached n = refl

-- ## What is left to carry
abbrev picked : Bool → List Got → List Got → List Got
picked true here there = here
picked false here there = there

elsewhere : (n m : ℕ) (r : Request) (t : Told) (rs : List Record) (gots : List Got) → m ≢ n → IsCarried n (Call m r t ∷ rs) gots → IsCarried n rs gots
elsewhere n m r t rs gots off (inl h) = absurd (off h.0)
elsewhere n m r t rs gots off (inr h) = h.1

picked_own : (n : ℕ) (here there : List Got) → picked (n == n) here there ≡ here
picked_own n here there = ap (λ (b : Bool). picked b here there) (same_test n n refl)

picked_other : (n m : ℕ) (here there : List Got) → n ≢ m → picked (n == m) here there ≡ there
picked_other n m here there off = ap (λ (b : Bool). picked b here there) (other_test n m off)

abbrev Settles : ℕ → List Record → (ℕ → List Got) → Type 0
Settles caller rs gots = (arrived : List Bool) × ((node : ℕ) → AreSame (reached node (settled arrived rs)) (map (got_line caller) (gots node)))

left_own : (rs : List Record) (gots : ℕ → List Got) (m : ℕ) (more : List Got) → ((n : ℕ) → m ≢ n → IsCarried n rs (gots n)) → IsCarried m rs more
    → (n : ℕ) → IsCarried n rs (picked (n == m) more (gots n))
left_own rs gots m more others own n = by (cases_eq n m)
  where
    by : (n ≡ m) ⊎ (n ≢ m) → IsCarried n rs (picked (n == m) more (gots n))
    by (inl e) = subst (λ (k : ℕ). IsCarried k rs (picked (k == m) more (gots k))) (sym e) (subst (λ (gs : List Got). IsCarried m rs gs) (sym (picked_own m more (gots m))) own)
    by (inr off) = subst (λ (gs : List Got). IsCarried n rs gs) (sym (picked_other n m more (gots n) off)) (others n (λ (e : m ≡ n). off (sym e)))

-- the call arrived
own_at : (caller m : ℕ) (r : Request) (t : Told) (rs : List Record) (gots : ℕ → List Got) (a : Arrives r t (gots m) (λ more. IsCarried m rs more))
    (h : Settles caller rs (λ n. picked (n == m) a.more (gots n))) (n : ℕ)
    → (n ≡ m) ⊎ (n ≢ m) → AreSame (reached n (Call m r (settled_told t true) ∷ settled h.0 rs)) (map (got_line caller) (gots n))
own_at caller m r t rs gots a h n (inl e) =
    let rest : AreSame (reached m (settled h.0 rs)) (map (got_line caller) a.more) =
    subst (λ (gs : List Got). AreSame (reached m (settled h.0 rs)) (map (got_line caller) gs)) (picked_own m a.more (gots m)) (h.1 m) in
    let here : AreSame (Call m r (settled_told t true) ∷ reached m (settled h.0 rs)) (got_line caller a.got ∷ map (got_line caller) a.more) =
    more_same (Call m r (settled_told t true)) (got_line caller a.got) (reached m (settled h.0 rs)) (map (got_line caller) a.more) (same_call caller m r t a.got a.request a.heard) rest in
    let told_so : AreSame (reached m (Call m r (settled_told t true) ∷ settled h.0 rs)) (map (got_line caller) (gots m)) =
    subst (λ (x : List Record). AreSame x (map (got_line caller) (gots m))) (sym (own_reaches m r t (settled h.0 rs)))
    (subst (λ (gs : List Got). AreSame (Call m r (settled_told t true) ∷ reached m (settled h.0 rs)) (map (got_line caller) gs)) (sym a.are) here) in
    subst (λ (k : ℕ). AreSame (reached k (Call m r (settled_told t true) ∷ settled h.0 rs)) (map (got_line caller) (gots k))) (sym e) told_so
own_at caller m r t rs gots a h n (inr off) =
    subst (λ (x : List Record). AreSame x (map (got_line caller) (gots n))) (sym (other_reaches n m r t (settled h.0 rs) (λ (e : m ≡ n). off (sym e))))
    (subst (λ (gs : List Got). AreSame (reached n (settled h.0 rs)) (map (got_line caller) gs)) (picked_other n m a.more (gots n) off) (h.1 n))

settles_own : (caller m : ℕ) (r : Request) (t : Told) (rs : List Record) (gots : ℕ → List Got)
    (a : Arrives r t (gots m) (λ more. IsCarried m rs more)) → Settles caller rs (λ n. picked (n == m) a.more (gots n))
    → Settles caller (Call m r t ∷ rs) gots
settles_own caller m r t rs gots a h = (true ∷ h.0, λ n. own_at caller m r t rs gots a h n (cases_eq n m))

-- or it didn't
settles_lost : (caller m : ℕ) (r : Request) (t : Told) (rs : List Record) (gots : ℕ → List Got) → IsUnheard t → Settles caller rs gots → Settles caller (Call m r t ∷ rs) gots
settles_lost caller m r t rs gots unheard h =
    (false ∷ h.0, λ n. subst (λ (x : List Record). AreSame x (map (got_line caller) (gots n))) (sym (lost_reaches n m r t (settled h.0 rs) unheard)) (h.1 n))

left_lost : (m : ℕ) (r : Request) (t : Told) (rs : List Record) (gots : ℕ → List Got) → ((node : ℕ) → IsCarried node (Call m r t ∷ rs) (gots node)) → IsCarried m rs (gots m)
    → (n : ℕ) → (n ≡ m) ⊎ (n ≢ m) → IsCarried n rs (gots n)
left_lost m r t rs gots h k n (inl e) = subst (λ (j : ℕ). IsCarried j rs (gots j)) (sym e) k
left_lost m r t rs gots h k n (inr off) = elsewhere n m r t rs (gots n) (λ (e : m ≡ n). off (sym e)) (h n)

carry_call : (caller m : ℕ) (r : Request) (t : Told) (rs : List Record) (gots : ℕ → List Got) → ((node : ℕ) → IsCarried node (Call m r t ∷ rs) (gots node)) → IsCarried m (Call m r t ∷ rs) (gots m)
    → ((g : ℕ → List Got) → ((node : ℕ) → IsCarried node rs (g node)) → Settles caller rs g) → Settles caller (Call m r t ∷ rs) gots
carry_call caller m r t rs gots h (inl a) on =
    settles_own caller m r t rs gots a.1
    (on (λ n. picked (n == m) a.1.more (gots n)) (left_own rs gots m a.1.more (λ n off. elsewhere n m r t rs (gots n) off (h n)) a.1.rest))
carry_call caller m r t rs gots h (inr (inl off, k)) on = absurd (off refl)
carry_call caller m r t rs gots h (inr (inr unheard, k)) on = settles_lost caller m r t rs gots unheard (on gots (λ n. left_lost m r t rs gots h k n (cases_eq n m)))

carries : (caller : ℕ) (rs : List Record) (gots : ℕ → List Got) → ((node : ℕ) → IsCarried node rs (gots node)) → Settles caller rs gots
carries caller [] gots h =
    ([], λ n. subst (λ (x : List Record). AreSame x (map (got_line caller) (gots n))) (sym (none_reached n)) (subst (λ (gs : List Got). AreSame [] (map (got_line caller) gs)) (sym (h n)) none_same))
carries caller (Outcome text ∷ rs) gots h =
    let more = carries caller rs gots h in
    (more.0, λ n. subst (λ (x : List Record). AreSame x (map (got_line caller) (gots n))) (sym (said_reaches n text (settled more.0 rs))) (more.1 n))
carries caller (Late m r ∷ rs) gots h = absurd (h 0)
carries caller (Operator m ask done ∷ rs) gots h = absurd (h 0)
carries caller (Call m r t ∷ rs) gots h = carry_call caller m r t rs gots h (h m) (λ g k. carries caller rs g k)

pub all_carried : PipesCarry
all_carried = carries
