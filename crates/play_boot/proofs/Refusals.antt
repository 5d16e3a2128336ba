-- What follows of each refusal, by the step that refuses.
use Rattle.std.proofs.Common.{◌≡◌, ℕ, List, Option, refl}
use Rattle.std.specs.Prelude.{IsErrOf}
use Rattle.base_disk.specs.Files.{Files}
use Rattle.base_disk.specs.View.{View}
use Rattle.base_disk.specs.Calls.{Rests}
use Rattle.base_disk.specs.declared.disk.DiskFail.TheVariants.{Failed}
use Rattle.journal_core.specs.declared.peer_call.PeerCall.{PeerCall}
use Rattle.ns_store.specs.Answers.{IsNewest}
use Rattle.ns_store.specs.declared.newest_answer.Newest.TheVariants as newest
use Rattle.play_names.specs.declared.tailed.Tailed.{Tailed}
use Rattle.play_names.specs.declared.tailed.Tailed.TheVariants as tailed
use Rattle.play_standby.specs.Standbys.{StandbyView}
use Rattle.play_boot.specs.Boots.{IsBegun, TailsTo, BootsInVain, IsBooted, LeavesDisk, IsBootedOf, from_result, to_result}
use Rattle.play_boot.specs.Stages.{IsFull, BeginsNot, TailsNot, KeepsNot}
use Rattle.play_boot.specs.declared.booted.Booted.{Booted}
use Rattle.play_boot.specs.declared.booted.Booted.TheVariants as booted

-- ## Its own disk has an image
pub full_from_fine : (told : Type 0) (to : Files) (b : Booted) → IsFull told to b → IsErrOf (from_result b) Failed → ⊥
full_from_fine told to (booted.Done standby image) h failed = absurd h
full_from_fine told to (booted.NotEmpty txid) h failed = absurd (cc)
full_from_fine told to (booted.DigestDiffers stored computed) h failed = absurd h
full_from_fine told to (booted.BadImage place cause) h failed = absurd h
full_from_fine told to (booted.Unreachable have first) h failed = absurd h
full_from_fine told to (booted.Behind txid causes) h failed = absurd h
full_from_fine told to (booted.BadEntry txid) h failed = absurd h
full_from_fine told to booted.FromFault h failed = absurd h
full_from_fine told to booted.ToFault h failed = absurd (cc)
full_from_fine told to booted.OutOfMemory h failed = absurd (cc)

pub full_booted : (told : Type 0) (nodes : ℕ) (from to : Files) (calls : List PeerCall) (b : Booted) → IsFull told to b → told → IsBooted nodes from to calls calls b
full_booted told nodes from to calls (booted.Done standby image) h t = absurd h
full_booted told nodes from to calls (booted.NotEmpty txid) h t = (h t, refl)
full_booted told nodes from to calls (booted.DigestDiffers stored computed) h t = absurd h
full_booted told nodes from to calls (booted.BadImage place cause) h t = absurd h
full_booted told nodes from to calls (booted.Unreachable have first) h t = absurd h
full_booted told nodes from to calls (booted.Behind txid causes) h t = absurd h
full_booted told nodes from to calls (booted.BadEntry txid) h t = absurd h
full_booted told nodes from to calls booted.FromFault h t = absurd h
full_booted told nodes from to calls booted.ToFault h t = tt
full_booted told nodes from to calls booted.OutOfMemory h t = tt

pub full_left : (told : Type 0) (from to : Files) (old new : View) (b : Booted) → IsFull told to b → Rests old new → LeavesDisk from old new b
full_left told from to old new (booted.Done standby image) h rests = absurd h
full_left told from to old new (booted.NotEmpty txid) h rests = rests
full_left told from to old new (booted.DigestDiffers stored computed) h rests = absurd h
full_left told from to old new (booted.BadImage place cause) h rests = absurd h
full_left told from to old new (booted.Unreachable have first) h rests = absurd h
full_left told from to old new (booted.Behind txid causes) h rests = absurd h
full_left told from to old new (booted.BadEntry txid) h rests = absurd h
full_left told from to old new booted.FromFault h rests = absurd h
full_left told from to old new booted.ToFault h rests = tt
full_left told from to old new booted.OutOfMemory h rests = tt

pub full_of_log : (told : Type 0) (to : Files) (log : List (List ℕ)) (b : Booted) → IsFull told to b → IsBootedOf log b
full_of_log told to log (booted.Done standby image) h = absurd h
full_of_log told to log (booted.NotEmpty txid) h = tt
full_of_log told to log (booted.DigestDiffers stored computed) h = absurd h
full_of_log told to log (booted.BadImage place cause) h = absurd h
full_of_log told to log (booted.Unreachable have first) h = absurd h
full_of_log told to log (booted.Behind txid causes) h = absurd h
full_of_log told to log (booted.BadEntry txid) h = absurd h
full_of_log told to log booted.FromFault h = absurd h
full_of_log told to log booted.ToFault h = tt
full_of_log told to log booted.OutOfMemory h = tt

-- ## It doesn't begin
pub begins_to_fine : (told : Type 0) (from : Files) (b : Booted) → BeginsNot told from b → IsErrOf (to_result b) Failed → ⊥
begins_to_fine told from (booted.Done standby image) h failed = absurd h
begins_to_fine told from (booted.NotEmpty txid) h failed = absurd h
begins_to_fine told from (booted.DigestDiffers stored computed) h failed = absurd (cc)
begins_to_fine told from (booted.BadImage place cause) h failed = absurd (cc)
begins_to_fine told from (booted.Unreachable have first) h failed = absurd h
begins_to_fine told from (booted.Behind txid causes) h failed = absurd h
begins_to_fine told from (booted.BadEntry txid) h failed = absurd h
begins_to_fine told from booted.FromFault h failed = absurd (cc)
begins_to_fine told from booted.ToFault h failed = absurd h
begins_to_fine told from booted.OutOfMemory h failed = absurd (cc)

pub begins_booted : (told : Type 0) (nodes : ℕ) (from to : Files) (calls : List PeerCall) (b : Booted) → IsNewest to newest.NoImage → BeginsNot told from b → told
    → IsBooted nodes from to calls calls b
begins_booted told nodes from to calls (booted.Done standby image) none h t = absurd h
begins_booted told nodes from to calls (booted.NotEmpty txid) none h t = absurd h
begins_booted told nodes from to calls (booted.DigestDiffers stored computed) none h t = record { none = none; loads = h t; no_call = refl }
begins_booted told nodes from to calls (booted.BadImage place cause) none h t = record { none = none; loads = h t; no_call = refl }
begins_booted told nodes from to calls (booted.Unreachable have first) none h t = absurd h
begins_booted told nodes from to calls (booted.Behind txid causes) none h t = absurd h
begins_booted told nodes from to calls (booted.BadEntry txid) none h t = absurd h
begins_booted told nodes from to calls booted.FromFault none h t = (none, refl)
begins_booted told nodes from to calls booted.ToFault none h t = absurd h
begins_booted told nodes from to calls booted.OutOfMemory none h t = tt

pub begins_left : (told : Type 0) (from : Files) (old new : View) (b : Booted) → BeginsNot told from b → Rests old new → LeavesDisk from old new b
begins_left told from old new (booted.Done standby image) h rests = absurd h
begins_left told from old new (booted.NotEmpty txid) h rests = absurd h
begins_left told from old new (booted.DigestDiffers stored computed) h rests = rests
begins_left told from old new (booted.BadImage place cause) h rests = rests
begins_left told from old new (booted.Unreachable have first) h rests = absurd h
begins_left told from old new (booted.Behind txid causes) h rests = absurd h
begins_left told from old new (booted.BadEntry txid) h rests = absurd h
begins_left told from old new booted.FromFault h rests = rests
begins_left told from old new booted.ToFault h rests = absurd h
begins_left told from old new booted.OutOfMemory h rests = tt

pub begins_of_log : (told : Type 0) (from : Files) (log : List (List ℕ)) (b : Booted) → BeginsNot told from b → IsBootedOf log b
begins_of_log told from log (booted.Done standby image) h = absurd h
begins_of_log told from log (booted.NotEmpty txid) h = absurd h
begins_of_log told from log (booted.DigestDiffers stored computed) h = tt
begins_of_log told from log (booted.BadImage place cause) h = tt
begins_of_log told from log (booted.Unreachable have first) h = absurd h
begins_of_log told from log (booted.Behind txid causes) h = absurd h
begins_of_log told from log (booted.BadEntry txid) h = absurd h
begins_of_log told from log booted.FromFault h = tt
begins_of_log told from log booted.ToFault h = absurd h
begins_of_log told from log booted.OutOfMemory h = tt

-- ## Its tail doesn't catch up
module _ (nodes : ℕ) (begun : StandbyView) (before after : List PeerCall) (s : StandbyView) where
  pub tails_from_fine : (b : Booted) → TailsNot nodes begun before after s b → IsErrOf (from_result b) Failed → ⊥
  tails_from_fine (booted.Done standby image) h failed = absurd h
  tails_from_fine (booted.NotEmpty txid) h failed = absurd h
  tails_from_fine (booted.DigestDiffers stored computed) h failed = absurd h
  tails_from_fine (booted.BadImage place cause) h failed = absurd h
  tails_from_fine (booted.Unreachable have first) h failed = absurd (cc)
  tails_from_fine (booted.Behind txid causes) h failed = absurd (cc)
  tails_from_fine (booted.BadEntry txid) h failed = absurd (cc)
  tails_from_fine booted.FromFault h failed = absurd h
  tails_from_fine booted.ToFault h failed = absurd h
  tails_from_fine booted.OutOfMemory h failed = absurd (cc)

  pub tails_to_fine : (b : Booted) → TailsNot nodes begun before after s b → IsErrOf (to_result b) Failed → ⊥
  tails_to_fine (booted.Done standby image) h failed = absurd h
  tails_to_fine (booted.NotEmpty txid) h failed = absurd h
  tails_to_fine (booted.DigestDiffers stored computed) h failed = absurd h
  tails_to_fine (booted.BadImage place cause) h failed = absurd h
  tails_to_fine (booted.Unreachable have first) h failed = absurd (cc)
  tails_to_fine (booted.Behind txid causes) h failed = absurd (cc)
  tails_to_fine (booted.BadEntry txid) h failed = absurd (cc)
  tails_to_fine booted.FromFault h failed = absurd h
  tails_to_fine booted.ToFault h failed = absurd h
  tails_to_fine booted.OutOfMemory h failed = absurd (cc)

  in_vain : (from to : Files) (kept : Option ℕ) (have : ℕ) (t : Tailed) → s.position ≡ have → IsNewest to newest.NoImage → IsBegun from begun kept
      → TailsTo nodes begun before after s t → BootsInVain nodes from to before after have t
  in_vain from to kept have t here none begins tails =
      record { standby = s; here = here; image = kept; boots = record { none = none; begun = begun; begins = begins; tails = tails } }

  pub tails_booted : (from to : Files) (kept : Option ℕ) (b : Booted) → IsNewest to newest.NoImage → IsBegun from begun kept → TailsNot nodes begun before after s b
      → IsBooted nodes from to before after b
  tails_booted from to kept (booted.Done standby image) none begins h = absurd h
  tails_booted from to kept (booted.NotEmpty txid) none begins h = absurd h
  tails_booted from to kept (booted.DigestDiffers stored computed) none begins h = absurd h
  tails_booted from to kept (booted.BadImage place cause) none begins h = absurd h
  tails_booted from to kept (booted.Unreachable have first) none begins h = in_vain from to kept have (tailed.Purged first) h.1 none begins h.0
  tails_booted from to kept (booted.Behind txid causes) none begins h = in_vain from to kept txid (tailed.Behind txid causes) h.1 none begins h.0
  tails_booted from to kept (booted.BadEntry txid) none begins h = (s.position, in_vain from to kept s.position (tailed.BadEntry txid) refl none begins h)
  tails_booted from to kept booted.FromFault none begins h = absurd h
  tails_booted from to kept booted.ToFault none begins h = absurd h
  tails_booted from to kept booted.OutOfMemory none begins h = tt

  pub tails_left : (from : Files) (old new : View) (b : Booted) → TailsNot nodes begun before after s b → Rests old new → LeavesDisk from old new b
  tails_left from old new (booted.Done standby image) h rests = absurd h
  tails_left from old new (booted.NotEmpty txid) h rests = absurd h
  tails_left from old new (booted.DigestDiffers stored computed) h rests = absurd h
  tails_left from old new (booted.BadImage place cause) h rests = absurd h
  tails_left from old new (booted.Unreachable have first) h rests = rests
  tails_left from old new (booted.Behind txid causes) h rests = rests
  tails_left from old new (booted.BadEntry txid) h rests = rests
  tails_left from old new booted.FromFault h rests = absurd h
  tails_left from old new booted.ToFault h rests = absurd h
  tails_left from old new booted.OutOfMemory h rests = tt

  pub tails_of_log : (log : List (List ℕ)) (b : Booted) → TailsNot nodes begun before after s b → IsBootedOf log b
  tails_of_log log (booted.Done standby image) h = absurd h
  tails_of_log log (booted.NotEmpty txid) h = absurd h
  tails_of_log log (booted.DigestDiffers stored computed) h = absurd h
  tails_of_log log (booted.BadImage place cause) h = absurd h
  tails_of_log log (booted.Unreachable have first) h = tt
  tails_of_log log (booted.Behind txid causes) h = tt
  tails_of_log log (booted.BadEntry txid) h = tt
  tails_of_log log booted.FromFault h = absurd h
  tails_of_log log booted.ToFault h = absurd h
  tails_of_log log booted.OutOfMemory h = tt

-- ## Its image isn't kept
pub keeps_from_fine : (b : Booted) → KeepsNot b → IsErrOf (from_result b) Failed → ⊥
keeps_from_fine (booted.Done standby image) h failed = absurd h
keeps_from_fine (booted.NotEmpty txid) h failed = absurd h
keeps_from_fine (booted.DigestDiffers stored computed) h failed = absurd h
keeps_from_fine (booted.BadImage place cause) h failed = absurd h
keeps_from_fine (booted.Unreachable have first) h failed = absurd h
keeps_from_fine (booted.Behind txid causes) h failed = absurd h
keeps_from_fine (booted.BadEntry txid) h failed = absurd h
keeps_from_fine booted.FromFault h failed = absurd h
keeps_from_fine booted.ToFault h failed = absurd (cc)
keeps_from_fine booted.OutOfMemory h failed = absurd (cc)

pub keeps_booted : (nodes : ℕ) (from to : Files) (before after : List PeerCall) (b : Booted) → KeepsNot b → IsBooted nodes from to before after b
keeps_booted nodes from to before after (booted.Done standby image) h = absurd h
keeps_booted nodes from to before after (booted.NotEmpty txid) h = absurd h
keeps_booted nodes from to before after (booted.DigestDiffers stored computed) h = absurd h
keeps_booted nodes from to before after (booted.BadImage place cause) h = absurd h
keeps_booted nodes from to before after (booted.Unreachable have first) h = absurd h
keeps_booted nodes from to before after (booted.Behind txid causes) h = absurd h
keeps_booted nodes from to before after (booted.BadEntry txid) h = absurd h
keeps_booted nodes from to before after booted.FromFault h = absurd h
keeps_booted nodes from to before after booted.ToFault h = tt
keeps_booted nodes from to before after booted.OutOfMemory h = tt

pub keeps_left : (from : Files) (old new : View) (b : Booted) → KeepsNot b → LeavesDisk from old new b
keeps_left from old new (booted.Done standby image) h = absurd h
keeps_left from old new (booted.NotEmpty txid) h = absurd h
keeps_left from old new (booted.DigestDiffers stored computed) h = absurd h
keeps_left from old new (booted.BadImage place cause) h = absurd h
keeps_left from old new (booted.Unreachable have first) h = absurd h
keeps_left from old new (booted.Behind txid causes) h = absurd h
keeps_left from old new (booted.BadEntry txid) h = absurd h
keeps_left from old new booted.FromFault h = absurd h
keeps_left from old new booted.ToFault h = tt
keeps_left from old new booted.OutOfMemory h = tt

pub keeps_of_log : (log : List (List ℕ)) (b : Booted) → KeepsNot b → IsBootedOf log b
keeps_of_log log (booted.Done standby image) h = absurd h
keeps_of_log log (booted.NotEmpty txid) h = absurd h
keeps_of_log log (booted.DigestDiffers stored computed) h = absurd h
keeps_of_log log (booted.BadImage place cause) h = absurd h
keeps_of_log log (booted.Unreachable have first) h = absurd h
keeps_of_log log (booted.Behind txid causes) h = absurd h
keeps_of_log log (booted.BadEntry txid) h = absurd h
keeps_of_log log booted.FromFault h = absurd h
keeps_of_log log booted.ToFault h = tt
keeps_of_log log booted.OutOfMemory h = tt
