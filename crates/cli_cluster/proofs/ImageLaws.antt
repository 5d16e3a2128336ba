-- How a name node begins from its folder's images, and saves one.
use Rattle.std.proofs.Common.{ℕ, ◌≡◌, ◌-◌, List, [], Some, None, Option, Bool, true, false, refl, sym, ap, ◌∙◌, subst, arith, inl, inr}
use Rattle.std.specs.Prelude.{Result, Ok, Err, OnOk}
use Rattle.std.specs.declared.alloc.AllocError.{AllocError}
use Rattle.base_disk.specs.Files.{Files}
use Rattle.base_disk.specs.View.{View}
use Rattle.base_disk.specs.Calls.{Rests}
use Rattle.base_disk.specs.DiskCalls.{IsDiskRun, IfTold}
use Rattle.base_disk.specs.declared.disk.DiskFail.{DiskFail}
use Rattle.base_disk.specs.declared.disk.DiskModel.{Ghosts}
use Rattle.base_disk.proofs.Keeping.{rests_same}
use Rattle.ns_edits.specs.Replay.{Image}
use Rattle.ns_store.specs.Answers.{IsNewest, IsKeptFrom}
use Rattle.ns_store.specs.declared.newest_answer.Newest.TheVariants as newest
use Rattle.ns_store.specs.declared.kept_answer.MinToKeep.TheVariants as kept
use Rattle.play_standby.specs.Standbys.{StandbyView, empty_standby}
use Rattle.play_standby.specs.Saves.{one_saved}
use Rattle.play_standby.specs.Disks.{Checkpoints}
use Rattle.play_names.specs.Holding.{Free}
use Rattle.play_model.specs.Actions.{ActorView}
use Rattle.play_actor.specs.Kinds.{begun_actor, IsStandbyAt, IsNoStandby}
use Rattle.pipe_lead.specs.Begun.{IsBegun}
use Rattle.cli_cluster.specs.Images.{FolderView, Stays, IsAtImage, IsSecond, TellsSecond, StartsAt, StandsAtNewest, BeginsAs, HasFolder, SavesStandby, SavesIn, TakesInFolder, failed_after}

-- ## Files that stay
pub stays_same : {D : Type 0} (disk : Ghosts D) (d : D) → Stays disk d d
stays_same disk d t = (t, refl)

pub stays_on : {D : Type 0} (disk : Ghosts D) (a b c : D) → Stays disk a b → Stays disk b c → Stays disk a c
stays_on disk a b c h k t = (let one = h t in let two = k one.0 in (two.0, two.1 ∙ one.1))

pub stays_of : {D T : Type 0} (disk : Ghosts D) (old new : D) (r : Result T DiskFail) → IsDiskRun disk old new r → IfTold disk old new Rests → Stays disk old new
stays_of disk old new r call rest t = (call.tells.0 t, (rest t).keeps.seen)

-- ## A start
pub at_image : (files later : Files) (txid : ℕ) (s : StandbyView) → later ≡ files → IsAtImage later txid s → IsAtImage files txid s
at_image files later txid s e h = subst (λ (f : Files). IsAtImage f txid s) e h

pub second_of : (files : Files) (least txid : ℕ) → IsKeptFrom files 0 (kept.Min least) → txid ≡ least - 1 → TellsSecond files txid
second_of files least txid h e = inl (record { txids = h.0; lists = h.1; second = e ∙ ap (λ (n : ℕ). n - 1) h.3 ∙ omega arith })

pub second_or_none : (files : Files) (txid : ℕ) → IsKeptFrom files 0 kept.NoImage → TellsSecond files txid
second_or_none files txid none = inr none

is_second : (files : Files) (last txid : ℕ) → IsNewest files (newest.Image last) → TellsSecond files txid → IsSecond files txid
is_second files last txid n (inl second) = second
is_second files last txid n (inr none) = absurd (none last n.0)

pub starts_one : (files : Files) (last before : ℕ) (s : StandbyView) (images : List Image) → IsNewest files (newest.Image last) → TellsSecond files before → before ≡ last → IsAtImage files last s
    → images ≡ one_saved [] s → StartsAt files last s images
starts_one files last before s images n second same at are = record {
  at = at;
  kept = inl (subst (λ (t : ℕ). IsSecond files t) (same ∙ sym at.position) (is_second files last before n second), are);
}

pub starts_two : (files : Files) (last before : ℕ) (older s : StandbyView) (images : List Image) → IsNewest files (newest.Image last) → TellsSecond files before → IsAtImage files before older
    → IsAtImage files last s → images ≡ one_saved (one_saved [] older) s → StartsAt files last s images
starts_two files last before older s images n second behind at are = record {
  at = at;
  kept = inr (
    older,
    subst (λ (t : ℕ). IsSecond files t) (sym behind.position) (is_second files last before n second),
    subst (λ (t : ℕ). IsAtImage files t older) (sym behind.position) behind,
    are,
  );
}

pub at_newest : (files later : Files) (txid : ℕ) (s : StandbyView) (images : List Image) → later ≡ files → IsNewest files (newest.Image txid) → StartsAt later txid s images
    → StandsAtNewest files s images
at_newest files later txid s images e n h = inl (txid, n, subst (λ (f : Files). StartsAt f txid s images) e h)

pub at_nothing : (files : Files) (s : StandbyView) (images : List Image) → IsNewest files newest.NoImage → s ≡ empty_standby → images ≡ [] → StandsAtNewest files s images
at_nothing files s images n e none = inr (n, e, none)

pub begins : (nodes : ℕ) (images : List Image) (s : StandbyView) (v : ActorView) → v ≡ begun_actor nodes images s → IsBegun nodes v
begins nodes images s v e =
    subst (λ (x : ActorView). IsBegun nodes x) (sym e)
    (record { writer = refl; holding = record { space = s.space; position = s.position; images = images; work = Free }; holds = refl; free = refl })

pub begins_as : (nodes : ℕ) (files : Files) (images : List Image) (s : StandbyView) (v : ActorView) → v ≡ begun_actor nodes images s → StandsAtNewest files s images → BeginsAs nodes files v
begins_as nodes files images s v e h = record { images = images; standby = s; is = e; stands = h }

pub has_folder : {D : Type 0} (disk : Ghosts D) (old new : D) (actor : ActorView) (v : FolderView D) → Stays disk old new → disk.faults new ≡ disk.faults old
    → v ≡ record { actor = actor; disk = Some new; failed = false } → HasFolder disk old v
has_folder disk old new actor v stays fine e = record { now = new; is = ap (λ x. x.disk) e; stays = stays; no_fault = fine; well = ap (λ x. x.failed) e }

pub ruleset starts = (stays_same, stays_on, stays_of, at_image, second_of, second_or_none, starts_one, starts_two, at_newest, at_nothing, begins, begins_as, has_folder)

-- ## A checkpoint
pub saves_here : (actor : ActorView) (s : StandbyView) (r : Result (Unit {0}) DiskFail) (old new : View) → IsStandbyAt actor s → Checkpoints s.position s.space r old new → SavesStandby actor r old new
saves_here actor s r old new at saves = inl (record { standby = s; stands = at; saves = saves })

pub saves_nothing : (actor : ActorView) (v : View) → IsNoStandby actor → SavesStandby actor (Ok tt) v v
saves_nothing actor v none = inr (none, refl, rests_same v)

pub ruleset saves = (saves_here, saves_nothing)

pub saves_some : {D : Type 0} (disk : Ghosts D) (actor : ActorView) (result : Result (Unit {0}) DiskFail) (old new : D) (before after : Option D) → before ≡ Some old → after ≡ Some new
    → IsDiskRun disk old new result → IfTold disk old new (SavesStandby actor result) → SavesIn disk actor result before after
saves_some {D = D} disk actor result old new before after b a call steps =
    subst (λ (o : Option D). SavesIn disk actor result o after) (sym b) (subst (λ (o : Option D). SavesIn disk actor result (Some old) o) (sym a) (call, steps))

pub saves_none : {D : Type 0} (disk : Ghosts D) (actor : ActorView) (before after : Option D) → before ≡ None → after ≡ None → SavesIn disk actor (Ok tt) before after
saves_none {D = D} disk actor before after b a =
    subst (λ (o : Option D). SavesIn disk actor (Ok tt) o after) (sym b) (subst (λ (o : Option D). SavesIn disk actor (Ok tt) None o) (sym a) refl)

pub ruleset folders = (saves_some, saves_none)

-- ## A line
pub saved_first : {D : Type 0} (disk : Ghosts D) (b : Bool) (outcome : Result (Unit {0}) DiskFail) (result : Result (Unit {0}) AllocError) (old new : FolderView D) → b ≡ true
    → SavesIn disk old.actor outcome old.disk new.disk → OnOk result (outcome ≡ Ok tt) → new.failed ≡ failed_after old.failed outcome → TakesInFolder disk b result old new
saved_first disk true outcome result old new is saves done failed = record { outcome = outcome; saves = saves; done = done; failed = failed }
saved_first disk false outcome result old new is saves done failed = absurd (cc is)

-- and then the line was taken
pub taken_behind : {D : Type 0} (disk : Ghosts D) (b : Bool) (result : Result (Unit {0}) AllocError) (old mid new : FolderView D) → TakesInFolder disk b (Ok tt) old mid → new.disk ≡ mid.disk
    → new.failed ≡ mid.failed → TakesInFolder disk b result old new
taken_behind disk false result old mid new h disk_is failed_is = (disk_is ∙ h.0, failed_is ∙ h.1)
taken_behind {D = D} disk true result old mid new h disk_is failed_is = record {
  outcome = h.outcome;
  saves = subst (λ (d : Option D). SavesIn disk old.actor h.outcome old.disk d) (sym disk_is) h.saves;
  done = on_ok result h.done;
  failed = failed_is ∙ h.failed;
}
  where
    on_ok : (r : Result (Unit {0}) AllocError) → h.outcome ≡ Ok tt → OnOk r (h.outcome ≡ Ok tt)
    on_ok (Ok done) e = e
    on_ok (Err fail) e = tt

pub ruleset first = (saved_first, taken_behind)
