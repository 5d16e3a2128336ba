-- Places of a run: what stood before a place of a run is a run.
use Rattle.std.proofs.Common.{ℕ, List, [], ◌∷◌, ◌++◌}
use Rattle.journal_history.specs.Entries.{Entry, Earlier, now, before}
use Rattle.run_safety.specs.Run.{Story, Follows, IsNextEntry}

pub Earlier-trans : {xs ys zs : List Entry} → Earlier xs ys → Earlier ys zs → Earlier xs zs
Earlier-trans p now = p
Earlier-trans p (before q) = before (Earlier-trans p q)

pub Earlier-tail : {e : Entry} {xs ys : List Entry} → Earlier (e ∷ xs) ys → Earlier xs ys
Earlier-tail p = Earlier-trans (before now) p

pub Follows-earlier : (n : ℕ) (story : Story) {old past : List Entry} → Earlier old past → Follows n story past → Follows n story old
Follows-earlier n story now f = f
Follows-earlier n story (before p) f = Follows-earlier n story p f.1

pub next_of : (n : ℕ) (story : Story) {e : Entry} {old past : List Entry} → Earlier (e ∷ old) past → Follows n story past → IsNextEntry n story old e
next_of n story p f = (Follows-earlier n story p f).0

pub Earlier-append : (xs ys : List Entry) → Earlier ys (xs ++ ys)
Earlier-append [] ys = now
Earlier-append (x ∷ xs) ys = before (Earlier-append xs ys)
