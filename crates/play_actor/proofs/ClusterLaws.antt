-- What the program's nodes and actors become is what is kept of a play.
use Rattle.std.proofs.Common.{◌≡◌, ℕ, ◌+◌, List, [], ◌∷◌, ◌++◌, length, map, Bool, refl, sym, ap, ◌∙◌, arith}
pub use Rattle.std.proofs.lemmas.List.{replicate_more as replicated_more}
use Rattle.std.proofs.lemmas.List.{map-append}
use Rattle.journal_history.specs.declared.history_line.HistoryLine.{HistoryLine}
use Rattle.journal_history.specs.declared.record.Record.{Record}
use Rattle.journal_history.specs.declared.mark.Mark.{Mark}
use Rattle.journal_history.specs.NodeCells.{CellView}
use Rattle.mesh.specs.declared.whole.Mesh.{Mesh}
use Rattle.base_disk.specs.declared.mem_disk.MemDisk.{MemDisk}
use Rattle.ns_edits.specs.Replay.{Image}
use Rattle.std.specs.List.{AllZip}
use Rattle.play_actor.specs.declared.player.Player.{Player}
use Rattle.play_model.specs.Actions.{ActorView}
use Rattle.play_model.specs.KeptActor.{KeptActor, new_actor}
use Rattle.play_names.specs.ImageDisks.{HoldsOn}
use Rattle.play_model.specs.Actor.{images_of}
use Rattle.play_actor.specs.Kept.{Kept, with_actor, mesh_kept, end_of, ends_kept, images_kept}
use Rattle.play_actor.specs.Shown.{keeps, kept}

abbrev with_actors : Bool → List CellView → ℕ → List Record → List KeptActor → Kept
with_actors named nodes o os xs = record { named = named; nodes = nodes; actors = xs; operator = o; operated = os }

abbrev mesh : ℕ → List (List HistoryLine) → List (List Record) → List (List Mark) → Mesh
mesh n histories records plan = record { nodes = n; histories = histories; records = records; plan = plan }

-- ## Nodes and actors
module _ {A : Type 0} (seen : A → ActorView) where
  pub one_more_actor : (named : Bool) (nodes : List CellView) (players : List (Player A)) (o : ℕ) (os : List Record) (name : List ℕ) (p : Player A) → keeps seen p ≡ new_actor named (length nodes) name
      → kept seen named nodes (players ++ p ∷ []) o os ≡ with_actor (kept seen named nodes players o os) name
  one_more_actor named nodes players o os name p e =
      ap (with_actors named nodes o os) (map-append (keeps seen) players (p ∷ []) ∙ ap (λ x. map (keeps seen) players ++ x ∷ []) e)

  pasts : (ps : List (Player A)) → map (λ k. k.past) (map (keeps seen) ps) ≡ map (λ p. p.log.past) ps
  pasts [] = refl
  pasts (p ∷ ps) = ap (λ xs. p.log.past ∷ xs) (pasts ps)

  plans : (ps : List (Player A)) → map (λ k. k.marks) (map (keeps seen) ps) ≡ map (λ p. p.log.marks) ps
  plans [] = refl
  plans (p ∷ ps) = ap (λ xs. p.log.marks ∷ xs) (plans ps)

  pub mesh_is : (named : Bool) (nodes : List CellView) (players : List (Player A)) (o : ℕ) (os : List Record) (n : ℕ)
      (histories : List (List HistoryLine)) (records : List (List Record)) (plan : List (List Mark))
      → n ≡ length nodes → histories ≡ map (λ v. v.history) nodes → records ≡ map (λ p. p.log.past) players ++ os ∷ [] → plan ≡ map (λ p. p.log.marks) players
      → record { nodes = n; histories = histories; records = records; plan = plan } ≡ mesh_kept (kept seen named nodes players o os)
  mesh_is named nodes players o os n histories records plan a b c d =
      ap (λ x. mesh x histories records plan) a
      ∙ ap (λ x. mesh (length nodes) x records plan) b
      ∙ ap (λ x. mesh (length nodes) (map (λ v. v.history) nodes) x plan) (c ∙ ap (λ xs. xs ++ os ∷ []) (sym (pasts players)))
      ∙ ap (λ x. mesh (length nodes) (map (λ v. v.history) nodes) (map (λ k. k.past) (map (keeps seen) players) ++ os ∷ []) x) (d ∙ sym (plans players))

  pub ends_are : (named : Bool) (nodes : List CellView) (players : List (Player A)) (o : ℕ) (os : List Record)
      → map (λ p. end_of (keeps seen p)) players ≡ ends_kept (kept seen named nodes players o os)
  ends_are named nodes [] o os = refl
  ends_are named nodes (p ∷ ps) o os = ap (λ xs. end_of (keeps seen p) ∷ xs) (ends_are named nodes ps o os)

  pub images_are : (named : Bool) (nodes : List CellView) (players : List (Player A)) (o : ℕ) (os : List Record)
      → map (λ p. images_of (keeps seen p).holds) players ≡ images_kept (kept seen named nodes players o os)
  images_are named nodes [] o os = refl
  images_are named nodes (p ∷ ps) o os = ap (λ xs. images_of (keeps seen p).holds ∷ xs) (images_are named nodes ps o os)

-- one disk more
pub disk_more : (disks : List MemDisk) (images : List (List Image)) (disk : MemDisk) (kept : List Image) → AllZip HoldsOn disks images → HoldsOn disk kept
    → AllZip HoldsOn (disks ++ disk ∷ []) (images ++ kept ∷ [])
disk_more [] [] disk kept h k = (k, tt)
disk_more [] (i ∷ images) disk kept h k = absurd h
disk_more (d ∷ disks) [] disk kept h k = absurd h
disk_more (d ∷ disks) (i ∷ images) disk kept h k = (h.0, disk_more disks images disk kept h.1 k)
