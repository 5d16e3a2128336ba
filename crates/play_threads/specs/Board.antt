-- The rule that ties the words, the slot and the views, and what each step tells.
use Rattle.std.specs.Prelude.{◌≡◌, ◌≢◌, ℕ, suc, ◌+◌, ◌%◌, ◌^◌, ◌<◌, ◌≤◌, List, [], ◌∷◌, ◌++◌, length, Bool, true, false, ◌==◌}
use mathlib.Core.Option.{Option, some, none}
use lib.ListN.{get_elem?}
use Rattle.atomic_table.specs.Table.{State, Me, Step}
use Rattle.play_threads.specs.declared.board.View.{View}
use Rattle.play_threads.specs.declared.board.Stage.{Stage}
use Rattle.play_threads.specs.declared.board.Stage.TheVariants.{Keeps, Rests, Waits, Inside, Spent}

-- the second list begins with the first
abbrev pub Begins : {A : Type 0} → List A → List A → Type 0
Begins {A} xs ys = (rest : List A) × (xs ++ rest ≡ ys)

abbrev pub keep_if : Bool → ℕ → List ℕ → List ℕ
keep_if true n ns = n ∷ ns
keep_if false n ns = ns

abbrev pub places_from : {E : Type 0} → ℕ → ℕ → List (ℕ × E) → List ℕ
places_from by n [] = []
places_from by n (e ∷ es) = keep_if (e.0 == by) n (places_from by (suc n) es)

-- the places of a caller's calls in a history
abbrev pub places_of : {E : Type 0} → ℕ → List (ℕ × E) → List ℕ
places_of by log = places_from by 0 log

abbrev pub Log : Type 0 → Type 0
Log E = List (ℕ × E)

-- whether a seat has a ticket
abbrev pub turn : Stage → ℕ
turn Keeps = 0
turn Rests = 0
turn Waits = 1
turn Inside = 1
turn Spent = 0

module _ {E : Type 0} where
  abbrev pub keeper : ℕ → List (Log E × List ℕ) → View E
  keeper made ended = record { stage = Keeps; caller = 0; ticket = 0; seen = []; places = []; made = made; ended = ended }

  abbrev pub seated : Stage → ℕ → ℕ → Log E → List ℕ → View E
  seated st by ticket seen places = record { stage = st; caller = by; ticket = ticket; seen = seen; places = places; made = 0; ended = [] }

  abbrev pub nobody : View E
  nobody = seated Spent 0 0 [] []

  abbrev pub made_one : View E → View E
  made_one v = keeper (suc v.made) v.ended

  abbrev pub new_seat : View E → View E
  new_seat v = seated Rests v.made 0 [] []

  abbrev pub took_in : View E → View E → View E
  took_in v w = keeper v.made (v.ended ++ (w.seen, w.places) ∷ [])

  abbrev pub turns : List (View E) → ℕ
  turns [] = 0
  turns (v ∷ vs) = turn v.stage + turns vs

  -- owners: which seat drew each ticket. served: how many have passed on. out: whether a seat has
  -- the cell
  module _ (owners : List ℕ) (served : ℕ) (log : Log E) (out : Bool) (ended : List (Log E × List ℕ)) (count by : ℕ) (v : View E) where
    abbrev pub Sits : Type 0
    Sits = (by ≡ suc v.caller) × Begins v.seen log × (places_of v.caller log ≡ v.places) × (length ended ≤ v.caller)

    abbrev pub Owns : Type 0
    Owns = get_elem? owners v.ticket ≡ some by

    abbrev pub Knows : Stage → Type 0
    Knows Keeps = (by ≡ 0) × (v.ended ≡ ended) × (count ≡ suc v.made) × (length ended ≤ v.made)
    Knows Rests = Sits
    Knows Waits = Sits × Owns × (served ≤ v.ticket) × (v.ticket ≡ served → out ≡ false)
    Knows Inside = Sits × Owns × (v.ticket ≡ served) × (out ≡ true) × (v.seen ≡ log)
    Knows Spent = Unit {0}

-- In all of these `led` says whether some calls, the oldest first, led to a cell.

module _ {S E : Type 0} (led : Log E → S → Type 0) where
  -- the cell is at home, and this history led to it; or it is out with a seat
  abbrev pub Lies : Log E → List (Option S) → Bool → Type 0
  Lies log homes false = (c : S) × (homes ≡ some c ∷ []) × led log c
  Lies log homes true = homes ≡ none ∷ []

  pub record Kept (s : State S (View E)) : Type 0 where
    pub owners : List ℕ
    pub served : ℕ
    pub log : Log E
    pub out : Bool
    pub ended : List (Log E × List ℕ)
    pub words_are : s.words ≡ length owners % 2 ^ 64 ∷ served % 2 ^ 64 ∷ length log % 2 ^ 64 ∷ []
    pub lies : Lies log s.homes out
    pub drawn : served + turns s.views ≡ length owners
    pub busy : out ≡ true → served < length owners
    pub few : length s.views ≤ 2 ^ 32
    pub each : (by : ℕ) (v : View E) → get_elem? s.views by ≡ some v → Knows owners served log out ended (length s.views) by v v.stage
    pub past : (k : ℕ) (p : Log E × List ℕ) → get_elem? ended k ≡ some p → Begins p.0 log × (places_of k log ≡ p.1)
    pub later : (k : ℕ) → length s.views ≤ suc k → places_of k log ≡ []

  -- a look at another's turn tells nothing. At its own the seat takes the cell, and has seen the
  -- whole history
  abbrev pub looked : Step S → Me S (View E) → ℕ → Me S (View E) → Type 0
  looked st m r m' =
      (r ≢ m.0.ticket % 2 ^ 64 → m' ≡ m)
      × (r ≡ m.0.ticket % 2 ^ 64 → (c : S) × (log : Log E) × (m' ≡ (seated Inside m.0.caller m.0.ticket log m.0.places, (0, c) ∷ m.1))
      × led log c × Begins m.0.seen log × (places_of m.0.caller log ≡ m.0.places))

module _ {S E : Type 0} where
  -- a call of this kind goes on the history that was seen, at its end
  abbrev pub noted : (E → Type 0) → Step S → Me S (View E) → ℕ → Me S (View E) → Type 0
  noted is st m r m' = (x : E) × is x × (m' ≡ (seated Inside m.0.caller m.0.ticket (m.0.seen ++ (m.0.caller, x) ∷ []) (m.0.places ++ length m.0.seen ∷ []), m.1))

module _ {S E : Type 0} where
  abbrev pub drew : Step S → Me S (View E) → ℕ → Me S (View E) → Type 0
  drew st m r m' = (t : ℕ) × (r ≡ t % 2 ^ 64) × (m' ≡ (seated Waits m.0.caller t m.0.seen m.0.places, m.1))

  abbrev pub passed : Step S → Me S (View E) → ℕ → Me S (View E) → Type 0
  passed st m r m' = m' ≡ (seated Rests m.0.caller 0 m.0.seen m.0.places, [])

module _ {S E : Type 0} where
  -- a caller's seat that is at no call
  abbrev pub AtRest : Me S (View E) → ℕ → Type 0
  AtRest m caller = (m.0.stage ≡ Rests) × (m.1 ≡ []) × (m.0.caller ≡ caller) × (places_of caller m.0.seen ≡ m.0.places)

module _ {S E : Type 0} (led : Log E → S → Type 0) where
  -- the seat has the cell and has seen its whole history, which goes on from what the seat had seen
  -- with none of its own calls
  abbrev pub Entered : Me S (View E) → Me S (View E) → Type 0
  Entered m m' = (c : S) × (log : Log E) × (m' ≡ (seated Inside m.0.caller m'.0.ticket log m.0.places, (0, c) ∷ []))
      × led log c × Begins m.0.seen log × (places_of m.0.caller log ≡ m.0.places)

  -- the cell in the held slot was called, by this call or by none: whatever led to it leads to it
  -- with these calls behind
  abbrev pub Visited : Me S (View E) → Log E → Me S (View E) → Type 0
  Visited m more m' = (d : S) × (m' ≡ (m.0, (0, d) ∷ [])) × ((c : S) → m.1 ≡ (0, c) ∷ [] → (log : Log E) → led log c → led (log ++ more) d)

module _ {S E : Type 0} where
  -- after a call that was added
  abbrev pub Added : Me S (View E) → E → Me S (View E) → Type 0
  Added m x m' =
      (between : Log E) × (m' ≡ (seated Rests m.0.caller 0 ((m.0.seen ++ between) ++ (m.0.caller, x) ∷ []) (m.0.places ++ length (m.0.seen ++ between) ∷ []), []))
      × (places_of m.0.caller m'.0.seen ≡ m'.0.places)

  -- after a call that found no memory
  abbrev pub Gave : Me S (View E) → Me S (View E) → Type 0
  Gave m m' = (m' ≡ (seated Rests m.0.caller 0 m'.0.seen m.0.places, [])) × Begins m.0.seen m'.0.seen × (places_of m.0.caller m'.0.seen ≡ m.0.places)

module _ {E : Type 0} where
  -- a call that went on from what had been seen, and its place
  abbrev pub Adds : Log E → List ℕ → ℕ × E → Log E → List ℕ → Type 0
  Adds seen places entry seen' places' = (between : Log E) × (seen' ≡ (seen ++ between) ++ entry ∷ []) × (places' ≡ places ++ length (seen ++ between) ∷ [])

-- each of a list meets P, with its place
abbrev pub AllAt : {G : Type 0} → (ℕ → G → Type 0) → List G → Type 0
AllAt {G} P gs = (k : ℕ) (g : G) → get_elem? gs k ≡ some g → P k g

-- A cell, once all seats were taken in: one history led to it. It begins with what each seat had
-- seen, has each caller's calls at its seat's places, in their order and each once, and no others.
pub record IsClosed {S E G : Type 0} (led : Log E → S → Type 0) (seen : G → Log E) (places : G → List ℕ) (seats : List G) (cell : S) : Type 0 where
  pub log : Log E
  pub led_to : led log cell
  pub each : AllAt (λ k s. Begins (seen s) log × (places_of k log ≡ places s)) seats
  pub no_others : (k : ℕ) → length seats ≤ k → places_of k log ≡ []
