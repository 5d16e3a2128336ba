-- What stands in the fields of a ring.
use Rattle.std.specs.Prelude.{◌≡◌, ℕ, ◌+◌, ◌-◌, ◌/◌, ◌^◌, ◌<◌, ◌≤◌, List, ◌++◌, length, map, take, drop, get_or, Option, Some}
use Rattle.disk_recent.specs.Edits.{stored_bytes}
use Rattle.disk_recent.specs.Places.{values, parse_bodies, begins, every_sixteenth}
use Rattle.disk_recent.specs.declared.run.Run.{Run}
use Rattle.disk_recent.specs.declared.ring.Ring.{Ring}

abbrev pub bodies_in : List (Option ℕ) → Run → List (List ℕ)
bodies_in cs r = parse_bodies r.count (values (take r.size (drop r.begin cs)))

-- these bodies stand in the run
pub record Holds (cs : List (Option ℕ)) (r : Run) (bs : List (List ℕ)) : Type 0 where
  pub counted : r.count ≡ length bs
  pub within : r.begin + r.size ≤ length cs
  pub lies : take r.size (drop r.begin cs) ≡ map Some (stored_bytes bs)

-- the bodies of the older run and those of the newer one stand in the ring
pub record Laid (r : Ring) (os ns : List (List ℕ)) : Type 0 where
  pub low : 8192 ≤ length r.block
  pub high : length r.block ≤ 16777216
  pub older : Holds r.block r.older os
  pub newer : Holds r.block r.newer ns
  pub start : 0 < r.older.count → r.newer.begin ≡ 0
  pub apart : 0 < r.older.count → r.newer.size ≤ r.older.begin
  pub gap : 0 < r.older.count → length r.block ≤ r.older.begin + r.older.size + 4097
  pub marks : r.marks.items ≡ every_sixteenth r.first (begins r.older.begin os ++ begins r.newer.begin ns)
  pub room : length r.block / 32 + 2 ≤ r.marks.capacity
  pub numbers : r.first + length os + length ns ≤ 2 ^ 64

abbrev pub old_bodies : Ring → List (List ℕ)
old_bodies r = bodies_in r.block r.older

abbrev pub new_bodies : Ring → List (List ℕ)
new_bodies r = bodies_in r.block r.newer

-- the ring is well laid out
abbrev pub IsRing : Ring → Type 0
IsRing r = Laid r (old_bodies r) (new_bodies r)

-- its bodies, oldest first
abbrev pub held_bodies : Ring → List (List ℕ)
held_bodies r = old_bodies r ++ new_bodies r

-- an entry of that size has its place after the newest one
abbrev pub HasWay : Ring → ℕ → Type 0
HasWay r size = (r.newer.begin + r.newer.size + size ≤ length r.block) × (0 < r.older.count → r.newer.size + size ≤ r.older.begin)

-- where its entries begin, oldest first
abbrev pub places_of : Ring → List ℕ
places_of r = begins r.older.begin (old_bodies r) ++ begins r.newer.begin (new_bodies r)

-- the run's entries, the first of which has that txid, are where the ring's entries of these txids
-- begin
abbrev pub ArePlaces : Ring → Run → ℕ → Type 0
ArePlaces r run first = (k : ℕ) → k < run.count → get_or (places_of r) (first - r.first + k) 0 ≡ run.begin + length (stored_bytes (take k (bodies_in r.block run)))
