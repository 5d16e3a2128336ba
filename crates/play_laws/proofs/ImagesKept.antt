-- The images that the actors of a play leave are the line's, and the newest of each actor is that
-- of the greatest txid that it told of a checkpoint.
use Rattle.std.proofs.Common.{◌≡◌, ℕ, zero, suc, ◌<◌, ◌≤◌, List, [], ◌∷◌, Bool, true, false, refl, sym, ap, ◌∙◌, subst, arith, length, get_or, map, append-nil, inl, inr}
use Rattle.std.specs.Prelude.{Option, Some, None, slice_get}
use Rattle.std.specs.List.{AllZip}
use Rattle.base_disk.specs.declared.mem_disk.MemDisk.{MemDisk}
use Rattle.journal_history.specs.declared.record.Record.{Record}
use Rattle.journal_history.specs.declared.record.Record.TheVariants.{Outcome}
use Rattle.mesh.specs.declared.whole.Mesh.{Mesh}
use Rattle.mesh.specs.Agree.{Agrees, operator_of, record_of}
use Rattle.mesh.specs.Order.{epoch_order}
use Rattle.mesh.proofs.Shared.{In}
use Rattle.ns_tree.specs.declared.end.End.{End}
use Rattle.ns_edits.specs.Replay.{Image}
use Rattle.play_names.specs.Holding.{Holding}
use Rattle.play_names.specs.ImageDisks.{HoldsOn}
use Rattle.play_script.specs.Scripts.{ScriptView}
use Rattle.play_model.specs.Lines.{Line, Action, ArePlayable, IsPlayable, lines_of, actions_of}
use Rattle.play_model.specs.Actor.{Actor, fresh_actor, settle, wants, Rests, images_of, IsLed, actor_after}
use Rattle.play_model.specs.Plays.{Play, IsPlay, IsPlayed, LeavesImages, mesh_of, ends_of, has_ended, actor_at, images_in}
use Rattle.play_model.specs.Follows.{FollowsLines}
use Rattle.play_model.proofs.Wanting.{resting, rests_is}
use Rattle.play_model.proofs.Holds.{HoldsWell}
use Rattle.play_model.proofs.Sound.{has_nodes}
use Rattle.play_model.proofs.Parts.{ActorOk}
use Rattle.play_model.proofs.Playing.{Holds}
use Rattle.play_model.proofs.Final.{holds_at, play_agrees, play_follows, ended_turn, actors_are, record_is}
use Rattle.play_laws.specs.Linear.{IsActor, IsNamed, ImagesReplay}
use Rattle.play_laws.specs.Acked.{Says}
use Rattle.play_laws.specs.Keeps.{KeepsNames}
use Rattle.play_laws.specs.ImagesLeft.{saved_text, ReachesTo, AreNewestTold, IsLeftBy, ImagesAreLeft}
use Rattle.play_laws.proofs.ReadLaws.{contains_in, in_contains}
use Rattle.play_laws.proofs.NamedPlays.{is_named}
use Rattle.play_laws.proofs.NamesKept.{names_are_kept}
use Rattle.play_laws.proofs.Saved.{SaysOrDue, TellsSaved, settled_tells, saved_along, fresh_saved, none_said}

-- ## A disk for each actor
disks_many : (disks : List MemDisk) (as_ : List Actor) → AllZip HoldsOn disks (map (λ a. images_of a.holds) as_) → length disks ≡ length as_
disks_many [] [] z = refl
disks_many [] (a ∷ as_) z = absurd z
disks_many (x ∷ xs) [] z = absurd z
disks_many (x ∷ xs) (a ∷ as_) z = ap suc (disks_many xs as_ z.1)

disk_at : (disks : List MemDisk) (as_ : List Actor) (c : ℕ) (disk : MemDisk) (d : Actor) → AllZip HoldsOn disks (map (λ a. images_of a.holds) as_) → slice_get disks c ≡ Some disk
    → (c < length as_) × HoldsOn disk (images_of (get_or as_ c d).holds)
disk_at [] as_ c disk d z e = absurd (cc e)
disk_at (x ∷ xs) [] c disk d z e = absurd z
disk_at (x ∷ xs) (a ∷ as_) zero disk d z e = let same : x ≡ disk = cc e in (omega arith, subst (λ (y : MemDisk). HoldsOn y (images_of a.holds)) same z.0)
disk_at (x ∷ xs) (a ∷ as_) (suc c) disk d z e =
    let r : (c < length as_) × HoldsOn disk (images_of (get_or as_ c d).holds) = disk_at xs as_ c disk d z.1 e in (omega (arith, r.0), r.1)

-- ## An actor at the end of a play
module _ (named : Bool) (n : ℕ) (lines : List Line) (p : Play) (some : 1 ≤ n) (can : ArePlayable named n 0 lines) (h : IsPlay named n lines p) where
  kept : Holds named n lines p
  kept = holds_at named n lines p (has_nodes named n some) can h

  module _ (c : ℕ) (below : c < length p.actors) where
    abbrev ds : List Action
    ds = actions_of c kept.taken

    ok : ActorOk p.named p.nodes ds (actor_at p c)
    unfolding actor_at
    ok = kept.actors.each c below

    nothing_due : (actor_at p c).says ≡ []
    nothing_due =
        let rests : wants (actor_at p c) ≡ Rests = kept.rests c below (λ (f : p.turn ≡ Some c). cc (f, ended_turn p h.ended)) in
        (resting (actor_at p c) (rests_is (wants (actor_at p c)) rests)).says

    tells : TellsSaved (actor_at p c)
    tells =
        subst (λ (a : Actor). TellsSaved a) ok.is
        (saved_along (settle ds (fresh_actor p.named p.nodes)) (actor_at p c).past ok.led (settled_tells ds (fresh_actor p.named p.nodes) (fresh_saved p.named p.nodes)))

    record_there : record_of (mesh_of p) c ≡ (actor_at p c).past
    record_there = record_is p c below

    said : (text : List ℕ) → SaysOrDue (actor_at p c).past (actor_at p c).says text → Says (mesh_of p) c text
    said text (inl i) = in_contains (Outcome text) (record_of (mesh_of p) c) (subst (λ (l : List Record). In (Outcome text) l) (sym record_there) i)
    said text (inr i) = absurd (none_said text (actor_at p c).says nothing_due i)

    pub newest_told : AreNewestTold (mesh_of p) c (images_of (actor_at p c).holds)
    newest_told = record {
      reaches = λ txid says. tells.reaches txid (inl (subst (λ (l : List Record). In (Outcome (saved_text txid)) l) record_there
          (contains_in (Outcome (saved_text txid)) (record_of (mesh_of p) c) says)));
      told = λ i is e. said (saved_text i.txid) (tells.newest i is e);
    }

-- ## The images are the line's
module _ (n : ℕ) (lines : List Line) (p : Play) (some : 1 ≤ n) (can : ArePlayable true n 0 lines) (h : IsPlay true n lines p) where
  at_end : Holds true n lines p
  at_end = holds_at true n lines p some can h

  agrees : Agrees (mesh_of p)
  agrees = play_agrees true n lines p some can h

  follows : FollowsLines true n lines (mesh_of p) (ends_of p)
  follows = play_follows true n lines p some can h

  keeps : KeepsNames (mesh_of p) (epoch_order (mesh_of p))
  keeps = names_are_kept (mesh_of p) lines (ends_of p) agrees (is_named n lines (mesh_of p) (ends_of p) some can follows)

  module _ (c : ℕ) (below : c < length p.actors) where
    abbrev acts : List Action
    acts = actions_of c at_end.taken

    fine : ActorOk p.named p.nodes acts (actor_at p c)
    unfolding actor_at
    fine = at_end.actors.each c below

    fine_named : ActorOk true (mesh_of p).nodes acts (actor_at p c)
    unfolding mesh_of
    fine_named = subst (λ (b : Bool). ActorOk b p.nodes acts (actor_at p c)) at_end.named_is fine

    is_actor : IsActor (mesh_of p) c (actor_at p c)
    is_actor = record {
      some = subst (λ (k : ℕ). 1 ≤ k) (sym follows.nodes_are) some;
      actions = acts;
      are_actions = fine_named.actions;
      before = (actor_at p c).past;
      after = [];
      record_is = record_is p c below ∙ sym (append-nil (actor_at p c).past);
      led = subst (λ (l : List Record). IsLed (settle acts (fresh_actor true (mesh_of p).nodes)) l) (sym (append-nil (actor_at p c).past)) fine_named.led;
      is = sym fine_named.is;
    }

    by_held : (o : Option Holding) → (actor_at p c).holds ≡ o → ImagesReplay (mesh_of p) (epoch_order (mesh_of p)) (images_of o)
    by_held None is = tt
    by_held (Some x) is = keeps.images c (actor_at p c) x (subst (λ (k : ℕ). c < k) (sym (actors_are p)) below) is_actor is

    pub named_replays : ImagesReplay (mesh_of p) (epoch_order (mesh_of p)) (images_of (actor_at p c).holds)
    named_replays = by_held (actor_at p c).holds refl

-- with names or without
replays : (named : Bool) (n : ℕ) (lines : List Line) (p : Play) → 1 ≤ n → ArePlayable named n 0 lines → IsPlay named n lines p → (c : ℕ) → c < length p.actors
    → ImagesReplay (mesh_of p) (epoch_order (mesh_of p)) (images_of (actor_at p c).holds)
unfolding actor_at
replays true n lines p some can h c below = named_replays n lines p some can h c below
replays false n lines p some can h c below = subst (λ (o : Option Holding). ImagesReplay (mesh_of p) (epoch_order (mesh_of p)) (images_of o)) (sym none) tt
  where
    ok : ActorOk p.named p.nodes (actions_of c (holds_at false n lines p tt can h).taken) (actor_at p c)
    ok = (holds_at false n lines p tt can h).actors.each c below

    none : (actor_at p c).holds ≡ None
    none = subst (λ (b : Bool). HoldsWell b p.nodes (actor_at p c).holds) (holds_at false n lines p tt can h).named_is ok.sound.holds

module _ (s : ScriptView) (can : IsPlayable s) (disks : List MemDisk) (p : Play) (h : IsPlay s.named s.nodes (lines_of s) p) (z : AllZip HoldsOn disks (images_in p)) where
  left_at : (c : ℕ) (disk : MemDisk) → slice_get disks c ≡ Some disk → IsLeftBy (mesh_of p) c disk
  unfolding actor_at
  left_at c disk e =
      let there : (c < length p.actors) × HoldsOn disk (images_of (get_or p.actors c (fresh_actor p.named p.nodes)).holds) =
      disk_at disks p.actors c disk (fresh_actor p.named p.nodes) z e in
      record {
        images = images_of (get_or p.actors c (fresh_actor p.named p.nodes)).holds;
        holds = there.1;
        replays = replays s.named s.nodes (lines_of s) p can.nodes can.lines h c there.0;
        newest = newest_told s.named s.nodes (lines_of s) p can.nodes can.lines h c there.0;
      }

pub images_are_left : ImagesAreLeft
images_are_left s m ends disks can l =
    subst (λ (x : Mesh). (length disks ≡ operator_of x) × ((c : ℕ) (disk : MemDisk) → slice_get disks c ≡ Some disk → IsLeftBy x c disk)) (sym l.played.mesh)
    (disks_many disks l.played.play.actors l.images ∙ sym (actors_are l.played.play), left_at s can disks l.played.play l.played.plays l.images)
