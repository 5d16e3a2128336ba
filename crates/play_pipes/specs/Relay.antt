-- What was sent through a queue is what was received, and then what the queue holds. One pass at
-- most may push, and knows what was sent; one at most may pop, and knows what was received. Each
-- may know a beginning of what was sent.
use Rattle.std.specs.Prelude.{◌≡◌, ℕ, Bool, true, List, [], ◌++◌}
use mathlib.Core.Option.{some}
use lib.ListN.{get_elem?}
use Rattle.atomic_table.specs.Seated.{TableId}
use Rattle.play_pipes.specs.declared.queue.Source.{Source}
use Rattle.play_pipes.specs.declared.queue.Log.{Log}

abbrev pub no_source : Source
no_source = record { words = 0; slots = 0; views_name = 0; atom = 0; block = 0; offset = 0; slot_names = [] }

abbrev pub source_of : TableId → Source
source_of t = record { words = t.words; slots = t.slots; views_name = t.views_name; atom = t.atom; block = t.block; offset = t.offset; slot_names = t.slot_names }

abbrev pub id_of : Source → TableId
id_of s = record { words = s.words; slots = s.slots; views_name = s.views_name; atom = s.atom; block = s.block; offset = s.offset; slot_names = s.slot_names }

-- the second list begins with the first
abbrev pub Begins : {A : Type 0} → List A → List A → Type 0
Begins {A} xs ys = (rest : List A) × (xs ++ rest ≡ ys)

module _ {T : Type 0} where
  abbrev pub log : Bool → Bool → List T → List T → Source → List T → Log T
  log a b sent got source known = record { pushes = a; pops = b; sent = sent; got = got; source = source; known = known }

  -- what a pass knows: one that may push what was sent, one that may pop what was received
  pub record Knows (sent got : List T) (source : Source) (v : Log T) : Type 0 where
    pub pushes : v.pushes ≡ true → (v.sent ≡ sent) × (v.source ≡ source)
    pub pops : v.pops ≡ true → (v.got ≡ got) × (v.source ≡ source)
    pub known : Begins v.known sent

  -- no two passes may
  abbrev pub Sole : (Log T → Bool) → List (Log T) → Type 0
  Sole may views = (j k : ℕ) (v w : Log T) → get_elem? views j ≡ some v → get_elem? views k ≡ some w → may v ≡ true → may w ≡ true → j ≡ k

  -- each item may stand at its place
  abbrev pub Stand : (Source → ℕ → T → Type 0) → Source → List T → Type 0
  Stand stands source sent = (k : ℕ) (x : T) → get_elem? sent k ≡ some x → stands source k x

  pub record Relayed (stands : Source → ℕ → T → Type 0) (items : List T) (views : List (Log T)) : Type 0 where
    pub sent : List T
    pub got : List T
    pub source : Source
    pub holds : sent ≡ got ++ items
    pub stand : Stand stands source sent
    pub one_pushes : Sole (λ v. v.pushes) views
    pub one_pops : Sole (λ v. v.pops) views
    pub each : (pass : ℕ) (v : Log T) → get_elem? views pass ≡ some v → Knows sent got source v
