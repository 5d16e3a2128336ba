-- The image of a bootstrap is kept.
use Rattle.std.proofs.Common.{◌≡◌, ℕ, List, Option, Some, None, refl, sym, subst}
use Rattle.std.specs.Prelude.{Result, Ok, Err, IsErrOf, IfOk, IfErr, OnOk}
use Rattle.base_disk.specs.Files.{Files}
use Rattle.base_disk.specs.View.{View, IsSound, LeavesOnly}
use Rattle.base_disk.specs.Calls.{Rests, Effect, Happens}
use Rattle.base_disk.specs.DiskCalls.{IsDiskRun}
use Rattle.base_disk.specs.declared.disk.DiskFail.TheVariants.{Failed}
use Rattle.base_disk.specs.declared.disk.DiskModel.{Ghosts}
use Rattle.base_disk.proofs.Keeping.{rests_then}
use Rattle.journal_core.specs.declared.peer_call.PeerCall.{PeerCall}
use Rattle.ns_store.specs.Answers.{IsNewest}
use Rattle.ns_store.specs.declared.newest_answer.Newest.TheVariants as newest
use Rattle.play_names.specs.declared.tailed.Tailed.TheVariants as tailed
use Rattle.play_standby.specs.Standbys.{StandbyView}
use Rattle.play_boot.specs.Boots.{IsBegun, IsBooted, LeavesDisk, HasNoneOrCopy, IsReplayed, IsBootedOf, TailsTo, booted_as, from_result, to_result}
use Rattle.play_boot.specs.Stages.{Begins, Keeps, KeepsNot, IsSmall, kept_result, txid_of}
use Rattle.play_boot.specs.declared.booted.Booted.{Booted}
use Rattle.play_boot.specs.declared.image_bytes.ImageBytes.{ImageBytes}
use Rattle.play_boot.proofs.DiskLaws.{rests_leave, save_leaves, save_keeps}
use Rattle.play_boot.proofs.Refusals.{keeps_from_fine, keeps_booted, keeps_left, keeps_of_log}

-- ## The same save under another answer
-- an answer that is Ok just where the save's is
pub effect_as : {S T E F : Type 0} (N P : Files → Files → Type 0) (r : Result S E) (outer : Result T F) (old new : View) → ((x : T) → outer ≡ Ok x → OnOk r (Happens P old new) → Happens P old new)
    → Effect N P r old new → Effect N P outer old new
effect_as N P r outer old new ok effect = record { any_moment = effect.any_moment; done = by outer refl; failed = effect.failed }
  where
    by : (o : _) → outer ≡ o → OnOk o (Happens P old new)
    by (Ok x) e = ok x e effect.done
    by (Err b) e = tt

-- ## The answer of the whole
module _ (nodes : ℕ) (from to : Files) (before after : List PeerCall) (begun s : StandbyView) (image : Option ImageBytes) (none : IsNewest to newest.NoImage) (begins : Begins from begun image)
    (tails : TailsTo nodes begun before after s (tailed.Caught s.position)) where
  pub kept_booted : (r : Result (Option ℕ) Booted) → IfOk r (λ txid. txid ≡ txid_of image) → IfErr r KeepsNot → IsBooted nodes from to before after (booted_as s r)
  kept_booted (Ok txid) same h = record { none = none; begun = begun; begins = subst (IsBegun from begun) (sym same) begins.begun; tails = tails }
  kept_booted (Err b) same h = keeps_booted nodes from to before after b h

pub kept_of_log : (log : List (List ℕ)) (s : StandbyView) (r : Result (Option ℕ) Booted) → IfErr r KeepsNot → IsReplayed log s → IsBootedOf log (booted_as s r)
kept_of_log log s (Ok txid) h is = is
kept_of_log log s (Err b) h is = keeps_of_log log b h

pub kept_from_fine : (s : StandbyView) (r : Result (Option ℕ) Booted) → IfErr r KeepsNot → IsErrOf (from_result (booted_as s r)) Failed → ⊥
kept_from_fine s (Ok txid) h failed = absurd (cc)
kept_from_fine s (Err b) h failed = keeps_from_fine b h failed

pub kept_to_call :
    {E : Type 0} (disk : Ghosts E) (old new : E) (s : StandbyView) (r : Result (Option ℕ) Booted) → IsDiskRun disk old new (kept_result r)
    → IsDiskRun disk old new (to_result (booted_as s r))
kept_to_call disk old new s (Ok txid) run = run
kept_to_call disk old new s (Err b) run = run

-- ## The disk
module _ (from : Files) (begun : StandbyView) (s : StandbyView) (old mid new : View) (sound : IsSound old) (sound_mid : IsSound mid) (rests : Rests old mid) where
  pub kept_left : (image : Option ImageBytes) (r : Result (Option ℕ) Booted) → Begins from begun image → IsSmall image → IfOk r (λ txid. txid ≡ txid_of image) → IfErr r KeepsNot
      → Keeps image r mid new → LeavesDisk from old new (booted_as s r)
  kept_left image (Err b) begins small same h keeps = keeps_left from old new b h
  kept_left None (Ok txid) begins small same h keeps = subst (λ (t : Option ℕ). LeavesDisk from old new (booted_as s (Ok t))) (sym same) (rests_then old mid new sound rests keeps)
  kept_left (Some i) (Ok txid) begins small same h keeps =
      subst (λ (t : Option ℕ). LeavesDisk from old new (booted_as s (Ok t))) (sym same)
      (save_keeps i.txid small from i.bytes.items begins.bytes {E = Booted} (Ok txid) old mid new sound sound_mid rests keeps)

  pub kept_moments : (image : Option ImageBytes) (r : Result (Option ℕ) Booted) → Begins from begun image → IsSmall image → Keeps image r mid new → IsNewest old.seen newest.NoImage
      → LeavesOnly old new (HasNoneOrCopy from)
  kept_moments None r begins small keeps none = rests_leave from old new sound (rests_then old mid new sound rests keeps) none
  kept_moments (Some i) r begins small keeps none =
      save_leaves i.txid small from i.bytes.items begins.bytes r old mid new sound sound_mid rests keeps begins.begun.0 none
