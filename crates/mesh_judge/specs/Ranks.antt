-- The events of blocks, each with the key of its block as its rank.
use Rattle.std.specs.Prelude.{ℕ, List, [], ◌∷◌, ◌++◌, map, Option, Some, None}
use Rattle.std.specs.BTreeSet.{contains}
use Rattle.std.specs.Ordering.{nat_cmp}
use Rattle.journal_history.specs.Entries.{Entry}
use Rattle.mesh.specs.Order.{Key, Block, owners_place}
use Rattle.mesh_judge.specs.declared.caller.Caller.{Caller}
use Rattle.mesh_judge.specs.declared.ranking.Rank.{Rank}
use Rattle.mesh_judge.specs.declared.ranking.Ranked.{Ranked}
use Rattle.mesh_judge.specs.Events.{event_of}

-- the rank of a caller's line at this place that moved its node under this epoch, or under none
-- after this rank
abbrev pub rank_of : Caller → Option ℕ → ℕ → Rank → Rank
rank_of c None place last = last
rank_of c (Some epoch) place last = record { promise = epoch; place = owners_place (contains nat_cmp c.won epoch) place }

abbrev pub by_key : Key → Rank
by_key key = record { promise = key.promise; place = key.place }

abbrev pub rank_entry : Rank → Entry → Ranked
rank_entry rank e = record { rank = rank; event = event_of e }

unfoldable pub ranked_in : List Block → List Ranked
ranked_in [] = []
ranked_in (b ∷ bs) = map (rank_entry (by_key b.key)) b.entries ++ ranked_in bs
