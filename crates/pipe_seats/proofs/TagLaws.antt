-- What a node got of a life's calls, by the numbers of their lines.
use Rattle.std.proofs.Common.{ℕ, ◌≡◌, ◌+◌, ◌<◌, ◌≤◌, ◌⊎◌, inl, inr, List, [], ◌∷◌, map, refl, sym, ap, subst, arith}
use Rattle.std.specs.List.{AllByRecursion}
use Rattle.std.proofs.lemmas.Bool.{cases_lt}
use Rattle.journal_core.specs.declared.request.Request.{Request}
use Rattle.journal_core.specs.declared.reply.Reply.{Reply}
use Rattle.journal_history.specs.declared.record.Record.{Record}
use Rattle.journal_history.specs.declared.record.Record.TheVariants.{Call, Late, Operator, Outcome}
use Rattle.journal_history.specs.declared.record.Told.{Told}
use Rattle.journal_history.specs.declared.record.Told.TheVariants as told
use Rattle.pipe_seats.specs.Carried.{Got, IsHeardOf, IsUnheard, Arrives, IsCarried}
use Rattle.pipe_seats.specs.Tags.{Asked, GotAs, AreWritten, IsRising, WasAsked, WasAnswered, IsHeardIn, WasHeard, got_of, KeepOrder, TagsCarry}

-- ## Numbers
abbrev Above : ℕ → Asked → Type 0
Above n a = n < a.number

weaker : (n k : ℕ) (asked : List Asked) → n ≤ k → AllByRecursion (Above k) asked → AllByRecursion (Above n) asked
weaker n k [] l h = tt
weaker n k (a ∷ asked) l h =
    let low : k < a.number = h.0 in
    let lower : n < a.number = omega (arith, l, low) in
    (lower, weaker n k asked l h.1)

above : (node n : ℕ) (rs : List Record) (asked : List Asked) → AreWritten node n rs asked → AllByRecursion (Above n) asked
above node n [] asked h = subst (λ (xs : List Asked). AllByRecursion (Above n) xs) (sym h) tt
above node n (Call m r t ∷ rs) asked (inl h) =
    let first : n < n + 1 = omega arith in
    let next : n ≤ n + 1 = omega arith in
    subst (λ (xs : List Asked). AllByRecursion (Above n) xs) (sym h.1.are) (first, weaker n (n + 1) h.1.more next (above node (n + 1) rs h.1.more h.1.rest))
above node n (Call m r t ∷ rs) asked (inr h) = above node n rs asked h.1
above node n (Outcome text ∷ rs) asked h = above node n rs asked h
above node n (Late m r ∷ rs) asked h = absurd h
above node n (Operator m ask done ∷ rs) asked h = absurd h

not_asked : (k : ℕ) (asked : List Asked) (g : GotAs) → AllByRecursion (Above k) asked → g.number ≤ k → WasAsked asked g → ⊥
not_asked k [] g h l w = w
not_asked k (a ∷ asked) g h l (inl w) =
    let low : k < a.number = h.0 in
    let same : a.number ≡ g.number = w.0 in
    omega (arith, low, l, same)
not_asked k (a ∷ asked) g h l (inr w) = not_asked k asked g h.1 l w

no_answer : (n k : ℕ) (gs : List GotAs) (reply : Reply) → n ≤ k → IsRising k gs → WasAnswered gs n reply → ⊥
no_answer n k [] reply l r w = w
no_answer n k (g ∷ gs) reply l r (inl w) =
    let low : k < g.number = r.0 in
    let same : g.number ≡ n = w.0 in
    omega (arith, low, l, same)
no_answer n k (g ∷ gs) reply l r (inr w) =
    let low : k < g.number = r.0 in
    no_answer n g.number gs reply (omega (arith, l, low)) r.1 w

-- ## One call
unheard : (n k : ℕ) (gs : List GotAs) (t : Told) → n ≤ k → IsRising k gs → IsHeardIn gs n t → IsUnheard t
unheard n k gs (told.Reply reply) l r h = no_answer n k gs reply l r h
unheard n k gs told.Dropped l r h = tt
unheard n k gs told.Muted l r h = tt
unheard n k gs told.Silent l r h = tt

heard_first : (g : GotAs) (gs : List GotAs) (n : ℕ) (t : Told) → n ≤ g.number → IsRising g.number gs → IsHeardIn (g ∷ gs) n t → IsHeardOf t g.got.answer
heard_first g gs n (told.Reply reply) l r (inl w) = w.1
heard_first g gs n (told.Reply reply) l r (inr w) = absurd (no_answer n g.number gs reply l r w)
heard_first g gs n told.Dropped l r h = tt
heard_first g gs n told.Muted l r h = tt
heard_first g gs n told.Silent l r h = tt

asked_first : (g : GotAs) (a : Asked) (more : List Asked) → AllByRecursion (Above a.number) more → g.number ≤ a.number → WasAsked (a ∷ more) g → a.request ≡ g.got.request
asked_first g a more h l (inl w) = w.1
asked_first g a more h l (inr w) = absurd (not_asked a.number more g h l w)

-- ## The others
asked_rest : (k : ℕ) (a : Asked) (more : List Asked) (g : GotAs) → a.number ≤ k → k < g.number → WasAsked (a ∷ more) g → WasAsked more g
asked_rest k a more g l low (inl w) = let same : a.number ≡ g.number = w.0 in absurd (omega (arith, l, low, same))
asked_rest k a more g l low (inr w) = w

asked_later : (k : ℕ) (a : Asked) (more : List Asked) (gs : List GotAs) → a.number ≤ k → IsRising k gs → AllByRecursion (WasAsked (a ∷ more)) gs → AllByRecursion (WasAsked more) gs
asked_later k a more [] l r h = tt
asked_later k a more (g ∷ gs) l r h =
    let low : k < g.number = r.0 in
    (asked_rest k a more g l low h.0, asked_later g.number a more gs (omega (arith, l, low)) r.1 h.1)

heard_rest : (g : GotAs) (gs : List GotAs) (n : ℕ) (t : Told) → g.number < n → IsHeardIn (g ∷ gs) n t → IsHeardIn gs n t
heard_rest g gs n (told.Reply reply) l (inl w) = let same : g.number ≡ n = w.0 in absurd (omega (arith, l, same))
heard_rest g gs n (told.Reply reply) l (inr w) = w
heard_rest g gs n told.Dropped l h = tt
heard_rest g gs n told.Muted l h = tt
heard_rest g gs n told.Silent l h = tt

heard_later : (g : GotAs) (gs : List GotAs) (more : List Asked) → AllByRecursion (Above g.number) more → AllByRecursion (WasHeard (g ∷ gs)) more → AllByRecursion (WasHeard gs) more
heard_later g gs [] h w = tt
heard_later g gs (a ∷ more) h w = (heard_rest g gs a.number a.told h.0 w.0, heard_later g gs more h.1 w.1)

-- ## All of them
abbrev first_of : ℕ → Request → Told → Asked
first_of n r t = record { number = n; request = r; told = t }

-- what is still to be carried, where so many lines were written
abbrev Carries : ℕ → ℕ → List Record → List Asked → Type 0
Carries node n rs asked =
    (gs : List GotAs) → IsRising n gs → AllByRecursion (WasAsked asked) gs → AllByRecursion (WasHeard gs) asked → IsCarried node rs (map got_of gs)

call_carried : (node n m : ℕ) (r : Request) (t : Told) (rs : List Record) (more : List Asked) (gots : List GotAs) → m ≡ node → AllByRecursion (Above (n + 1)) more → IsRising n gots
    → AllByRecursion (WasAsked (first_of (n + 1) r t ∷ more)) gots → AllByRecursion (WasHeard gots) (first_of (n + 1) r t ∷ more) → Carries node (n + 1) rs more
    → IsCarried node (Call m r t ∷ rs) (map got_of gots)
call_carried node n m r t rs more [] same high rising there back on = inr (inr (unheard (n + 1) (n + 1) [] t (omega arith) tt back.0), on [] tt tt back.1)
call_carried node n m r t rs more (g ∷ gs) same high rising there back on = by (cases_lt (n + 1) g.number)
  where
    a : Asked
    a = first_of (n + 1) r t

    low : n < g.number
    low = rising.0

    by : (n + 1 < g.number) ⊎ (g.number ≤ n + 1) → IsCarried node (Call m r t ∷ rs) (map got_of (g ∷ gs))
    by (inl far) =
        let later : IsRising (n + 1) (g ∷ gs) = (far, rising.1) in
        inr (inr (unheard (n + 1) (n + 1) (g ∷ gs) t (omega arith) later back.0), on (g ∷ gs) later (asked_later (n + 1) a more (g ∷ gs) (omega arith) later there) back.1)
    by (inr near) =
        let here : g.number ≡ n + 1 = omega (arith, low, near) in
        let from : n + 1 ≤ g.number = omega (arith, low) in
        inl (
          same,
          record {
            got = g.got;
            more = map got_of gs;
            are = refl;
            request = sym (asked_first g a more high near there.0);
            heard = heard_first g gs (n + 1) t from rising.1 back.0;
            rest = on gs (subst (λ (k : ℕ). IsRising k gs) here rising.1) (asked_later g.number a more gs from rising.1 there.1)
                (heard_later g gs more (subst (λ (k : ℕ). AllByRecursion (Above k) more) (sym here) high) back.1);
          },
        )

carry : (node n : ℕ) (rs : List Record) (asked : List Asked) → AreWritten node n rs asked → Carries node n rs asked
carry node n [] asked h [] rising there back = refl
carry node n [] asked h (g ∷ gs) rising there back = absurd (subst (λ (xs : List Asked). WasAsked xs g) h there.0)
carry node n (Call m r t ∷ rs) asked (inl h) gs rising there back =
    call_carried node n m r t rs h.1.more gs h.0 (above node (n + 1) rs h.1.more h.1.rest) rising
    (subst (λ (xs : List Asked). AllByRecursion (WasAsked xs) gs) h.1.are there) (subst (λ (xs : List Asked). AllByRecursion (WasHeard gs) xs) h.1.are back)
    (carry node (n + 1) rs h.1.more h.1.rest)
carry node n (Call m r t ∷ rs) asked (inr h) gs rising there back = inr (h.0, carry node n rs asked h.1 gs rising there back)
carry node n (Outcome text ∷ rs) asked h gs rising there back = carry node n rs asked h gs rising there back
carry node n (Late m r ∷ rs) asked h gs rising there back = absurd h
carry node n (Operator m ask done ∷ rs) asked h gs rising there back = absurd h

pub all_tags : TagsCarry
all_tags node rs gots h = carry node 0 rs h.asked h.written gots h.rising h.there h.back
