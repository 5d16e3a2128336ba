-- Tests of equality: requests and what stands in them.
use Rattle.std.specs.Prelude.{ℕ, ◌==◌, ◌&&◌, Bool, true, false, List, [], ◌∷◌}
use Rattle.journal_core.specs.Views.{HeadView, BatchView}
use Rattle.journal_core.specs.declared.request.Request.{Request}
use Rattle.journal_core.specs.declared.request.Request.TheVariants.{State, NewEpoch, Start, Journal, Finalize, Prepare, Fetch, Accept, Purge, Read, Manifest}

abbrev pub same_nats : List ℕ → List ℕ → Bool
same_nats [] [] = true
same_nats [] (y ∷ ys) = false
same_nats (x ∷ xs) [] = false
same_nats (x ∷ xs) (y ∷ ys) = (x == y) && same_nats xs ys

abbrev pub same_bodies : List (List ℕ) → List (List ℕ) → Bool
same_bodies [] [] = true
same_bodies [] (y ∷ ys) = false
same_bodies (x ∷ xs) [] = false
same_bodies (x ∷ xs) (y ∷ ys) = same_nats x y && same_bodies xs ys

abbrev pub same_batch : BatchView → BatchView → Bool
same_batch a b = (a.first == b.first) && same_bodies a.bodies b.bodies

abbrev pub same_head : HeadView → HeadView → Bool
same_head a b = (a.epoch == b.epoch) && ((a.serial == b.serial) && (a.committed == b.committed))

abbrev pub same_request : Request → Request → Bool
same_request State State = true
same_request (NewEpoch a) (NewEpoch b) = a == b
same_request (Start h m) (Start k l) = same_head h k && (m == l)
same_request (Journal h m a) (Journal k l b) = same_head h k && ((m == l) && same_batch a b)
same_request (Finalize h m a) (Finalize k l b) = same_head h k && ((m == l) && (a == b))
same_request (Prepare h m) (Prepare k l) = same_head h k && (m == l)
same_request (Fetch h m a) (Fetch k l b) = same_head h k && ((m == l) && (a == b))
same_request (Accept h a) (Accept k b) = same_head h k && same_batch a b
same_request (Purge h m) (Purge k l) = same_head h k && (m == l)
same_request (Read a) (Read b) = a == b
same_request Manifest Manifest = true
same_request _ _ = false
