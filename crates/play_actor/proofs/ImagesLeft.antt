-- The images at the end of a play: each actor's, as its disk holds them.
use Rattle.std.proofs.Common.{◌≡◌, ℕ, List, [], ◌∷◌, length, map, drop, Bool, refl, sym, ap, ◌∙◌, subst}
use Rattle.std.specs.List.{AllZip}
use Rattle.base_disk.specs.declared.mem_disk.MemDisk.{MemDisk}
use Rattle.mesh.specs.declared.whole.Mesh.{Mesh}
use Rattle.ns_edits.specs.Replay.{Image}
use Rattle.ns_tree.specs.declared.end.End.{End}
use Rattle.play_names.specs.ImageDisks.{HoldsOn}
use Rattle.play_script.specs.declared.script_line.ScriptLine.{ScriptLine}
use Rattle.play_model.specs.Lines.{Line}
use Rattle.play_model.specs.Actor.{Actor, images_of}
use Rattle.play_model.specs.KeptActor.{KeptActor, resting}
use Rattle.play_model.specs.Plays.{IsPlayed, LeavesImages, images_in}
use Rattle.play_model.proofs.LinesLeft.{none_left}
use Rattle.play_actor.specs.Kept.{Kept, mesh_kept, ends_kept, images_kept}
use Rattle.play_actor.specs.Goal.{IsUnderWay}
use Rattle.play_actor.proofs.KeptLines.{is_played}

resting_images : (xs : List KeptActor) → map (λ (a : Actor). images_of a.holds) (map resting xs) ≡ map (λ (k : KeptActor). images_of k.holds) xs
resting_images [] = refl
resting_images (k ∷ xs) = ap (λ (is : List (List Image)). images_of k.holds ∷ is) (resting_images xs)

leaves_last : (named : Bool) (nodes : ℕ) (lines : List Line) (k : Kept) (m : Mesh) (ends : List End) (disks : List MemDisk) → IsUnderWay named nodes lines [] k → m ≡ mesh_kept k
    → ends ≡ ends_kept k → AllZip HoldsOn disks (images_kept k) → LeavesImages named nodes lines m ends disks
unfolding is_played
leaves_last named nodes lines k m ends disks u a b on =
    let p : IsPlayed named nodes lines (mesh_kept k) (ends_kept k) = is_played named nodes lines k u.play u.leads u.at_rest in
    let images : images_kept k ≡ images_in u.play = sym (resting_images k.actors) ∙ ap (map (λ (x : Actor). images_of x.holds)) (sym u.at_rest.actors) in
    record {
      played = record { play = u.play; plays = p.plays; mesh = a ∙ p.mesh; ends_are = b ∙ p.ends_are };
      images = subst (λ (is : List (List Image)). AllZip HoldsOn disks is) images on;
    }

pub leaves_images : (named : Bool) (nodes : ℕ) (lines : List Line) (ls : List ScriptLine) (k : Kept) (m : Mesh) (ends : List End) (disks : List MemDisk)
    → IsUnderWay named nodes lines (drop (length ls) ls) k → m ≡ mesh_kept k → ends ≡ ends_kept k → AllZip HoldsOn disks (images_kept k) → LeavesImages named nodes lines m ends disks
leaves_images named nodes lines ls k m ends disks u a b on =
    leaves_last named nodes lines k m ends disks (subst (λ (xs : List ScriptLine). IsUnderWay named nodes lines xs k) (none_left ls) u) a b on
