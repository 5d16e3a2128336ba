-- Where a fault of the disk is told the disk failed, and only there; and which image is bad.
use Rattle.std.proofs.Common.{ℕ, ◌≡◌, ◌≢◌, ◌∙◌, refl, sym, ap, subst, arith, inl, inr, ◌⊎◌}
use Rattle.std.specs.Prelude.{Result, Ok, Err, IsErrOf, IfErr}
use Rattle.base_disk.specs.Files.{Files}
use Rattle.base_disk.specs.Calls.{HasCause}
use Rattle.base_disk.specs.declared.disk.DiskFail.{DiskFail}
use Rattle.base_disk.specs.declared.disk.DiskFail.TheVariants as fail
use Rattle.base_disk.specs.declared.disk.DiskModel.{Ghosts}
use Rattle.base_disk.proofs.Rises.{rose_since}
use Rattle.ns_store.specs.Loads.{IsAnswer}
use Rattle.ns_store.specs.declared.loaded.Loaded.{Loaded}
use Rattle.cli_commands.specs.declared.command_fault.CommandFault.{CommandFault}
use Rattle.cli_commands.specs.declared.command_fault.CommandFault.TheVariants as fault
use Rattle.cli_cluster.specs.Images.{TellsFaults, Stays, NamesImage, IsOther, IsBadImage, FailsFor, IsOfTwoNewest, TellsSecond, FailsToBegin}

-- ## Calls of the disk, one after the other
pub cause_failed : {S T : Type 0} (f g : ℕ) (was now : Type 0) (r : Result S DiskFail) (e : DiskFail) (result : Result T DiskFail) → HasCause f g was now r → r ≡ Err e → result ≡ Err e
    → HasCause f g was now result
cause_failed {S = S} {T = T} f g was now r e result h is is_now = subst (λ (x : Result T DiskFail). HasCause f g was now x) (sym is_now) (by e (subst (λ (x : Result S DiskFail). HasCause f g was now x) is h))
  where
    by : (e : DiskFail) → HasCause {T = S} f g was now (Err e) → HasCause {T = T} f g was now (Err e)
    by fail.Failed k = record { later = k.later; failed = λ i. k.failed refl; still = inl refl; steady = k.steady; no_fault = λ s i. k.no_fault s refl }
    by fail.OutOfMemory k = record { later = k.later; failed = λ i. absurd (cc i); still = inr (stays k.still); steady = k.steady; no_fault = λ s i. absurd (cc i) }
      where
        stays : IsErrOf {T = S} (Err fail.OutOfMemory) fail.Failed ⊎ (g ≡ f) → g ≡ f
        stays (inl i) = absurd (cc i)
        stays (inr same) = same

still_ok : {S : Type 0} (f g : ℕ) (x : S) → IsErrOf {T = S} {E = DiskFail} (Ok x) fail.Failed ⊎ (g ≡ f) → g ≡ f
still_ok f g x (inl i) = absurd (cc i)
still_ok f g x (inr same) = same

pub cause_done : {S T : Type 0} (f g : ℕ) (was now : Type 0) (r : Result S DiskFail) (x : S) (y : T) → HasCause f g was now r → r ≡ Ok x → HasCause {T = T} f g was now (Ok y)
cause_done {S = S} f g was now r x y h is =
    let k = subst (λ (z : Result S DiskFail). HasCause f g was now z) is h in
    record { later = k.later; failed = λ i. absurd (cc i); still = inr (still_ok f g x k.still); steady = k.steady; no_fault = λ s i. absurd (cc i) }

pub cause_on : {S T : Type 0} (f g h : ℕ) (was mid now : Type 0) (r : Result S DiskFail) (x : S) (result : Result T DiskFail) → HasCause f g was mid r → r ≡ Ok x → HasCause g h mid now result
    → HasCause f h was now result
cause_on {S = S} {T = T} f g h was mid now r x result first is k =
    let one = subst (λ (z : Result S DiskFail). HasCause f g was mid z) is first in
    let same : g ≡ f = still_ok f g x one.still in
    record {
      later = omega (arith, one.later, k.later);
      failed = λ i. rose_since f g h (omega (arith, same)) (k.failed i);
      still = on k.still same;
      steady = λ s. k.steady (one.steady s);
      no_fault = λ s i. k.no_fault (one.steady s) i;
    }
  where
    on : IsErrOf result fail.Failed ⊎ (h ≡ g) → g ≡ f → IsErrOf result fail.Failed ⊎ (h ≡ f)
    on (inl i) same = inl i
    on (inr stays) same = inr (stays ∙ same)

pub ruleset causes = (cause_failed, cause_done, cause_on)

-- ## A fault that is told
pub fault_told : {D S T : Type 0} (disk : Ghosts D) (old new : D) (r : Result S DiskFail) (result : Result T CommandFault) → HasCause (disk.faults old) (disk.faults new) (disk.steady old) (disk.steady new) r
    → r ≡ Err fail.Failed → result ≡ Err fault.DiskFault → TellsFaults disk old new result
fault_told {S = S} disk old new r result h is told = record {
  failed = λ e. (subst (λ (x : Result S DiskFail). HasCause (disk.faults old) (disk.faults new) (disk.steady old) (disk.steady new) x) is h).failed refl;
  no_fault = λ n. absurd (n told);
}

pub none_told : {D S T : Type 0} (disk : Ghosts D) (old new : D) (r : Result S DiskFail) (result : Result T CommandFault) → HasCause (disk.faults old) (disk.faults new) (disk.steady old) (disk.steady new) r
    → r ≢ Err fail.Failed → result ≢ Err fault.DiskFault → TellsFaults disk old new result
none_told disk old new r result h fine none = record { failed = λ e. absurd (none e); no_fault = λ n. stays h.still }
  where
    stays : IsErrOf r fail.Failed ⊎ (disk.faults new ≡ disk.faults old) → disk.faults new ≡ disk.faults old
    stays (inl i) = absurd (fine i)
    stays (inr same) = same

pub told_on : {D T : Type 0} (disk : Ghosts D) (old mid new : D) (result : Result T CommandFault) → disk.faults mid ≡ disk.faults old → TellsFaults disk mid new result → TellsFaults disk old new result
told_on disk old mid new result same h = record { failed = λ e. rose_since (disk.faults old) (disk.faults mid) (disk.faults new) (omega (arith, same)) (h.failed e); no_fault = λ n. h.no_fault n ∙ same }

pub ruleset told = (fault_told, none_told, told_on)

-- ## Which image is bad
pub bad_one : {D : Type 0} (disk : Ghosts D) (old : D) (txid : ℕ) (of : CommandFault) → NamesImage txid of → (disk.tells old → IsBadImage (disk.view old).seen txid)
    → FailsFor disk old (λ _ t. t ≡ txid) of
bad_one disk old txid (fault.BadFile name) names bad = (txid, names, λ t. (refl, bad t))
bad_one disk old txid fault.OutOfMemory names bad = tt
bad_one disk old txid fault.DiskFault names bad = absurd names
bad_one disk old txid (fault.Usage place) names bad = absurd names
bad_one disk old txid (fault.BadScript line rule) names bad = absurd names
bad_one disk old txid (fault.BadReport line rule) names bad = absurd names
bad_one disk old txid fault.NoFile names bad = absurd names
bad_one disk old txid (fault.BadBytes place cause) names bad = absurd names
bad_one disk old txid (fault.BadImage place cause) names bad = absurd names
bad_one disk old txid fault.NoPath names bad = absurd names
bad_one disk old txid fault.NotJson names bad = absurd names
bad_one disk old txid (fault.BadEntry index) names bad = absurd names
bad_one disk old txid (fault.TooManyEntries most) names bad = absurd names
bad_one disk old txid (fault.Limit most) names bad = absurd names
bad_one disk old txid fault.ReadFault names bad = absurd names

-- what was loaded is no such image
pub not_loaded : (files : Files) (txid : ℕ) (found : Loaded) → IsAnswer files txid found → IsOther txid found → IsBadImage files txid
not_loaded files txid found h other = record { found = found; loaded = h; other = other }

pub ruleset bad = (bad_one, not_loaded)

-- ## What failed before
-- these images may be told, too
pub fails_also : {D : Type 0} (disk : Ghosts D) (old : D) (Of May : Files → ℕ → Type 0) (of : CommandFault) → (disk.tells old → (t : ℕ) → Of (disk.view old).seen t → May (disk.view old).seen t)
    → FailsFor disk old Of of → FailsFor disk old May of
fails_also disk old Of May (fault.BadFile name) may h = (h.0, h.1, λ t. (let one = h.2 t in (may t h.0 one.0, one.1)))
fails_also disk old Of May fault.DiskFault may h = tt
fails_also disk old Of May fault.OutOfMemory may h = tt
fails_also disk old Of May (fault.Usage place) may h = absurd h
fails_also disk old Of May (fault.BadScript line rule) may h = absurd h
fails_also disk old Of May (fault.BadReport line rule) may h = absurd h
fails_also disk old Of May fault.NoFile may h = absurd h
fails_also disk old Of May (fault.BadBytes place cause) may h = absurd h
fails_also disk old Of May (fault.BadImage place cause) may h = absurd h
fails_also disk old Of May fault.NoPath may h = absurd h
fails_also disk old Of May fault.NotJson may h = absurd h
fails_also disk old Of May (fault.BadEntry index) may h = absurd h
fails_also disk old Of May (fault.TooManyEntries most) may h = absurd h
fails_also disk old Of May (fault.Limit most) may h = absurd h
fails_also disk old Of May fault.ReadFault may h = absurd h

-- the disk was called since, and its files stayed
pub fails_on : {D : Type 0} (disk : Ghosts D) (old mid : D) (Of : Files → ℕ → Type 0) (of : CommandFault) → Stays disk old mid → FailsFor disk mid Of of → FailsFor disk old Of of
fails_on disk old mid Of (fault.BadFile name) stays h =
    (h.0, h.1, λ t. (let s = stays t in let one = h.2 s.0 in subst (λ (f : Files). Of f h.0 × IsBadImage f h.0) s.1 one))
fails_on disk old mid Of fault.DiskFault stays h = tt
fails_on disk old mid Of fault.OutOfMemory stays h = tt
fails_on disk old mid Of (fault.Usage place) stays h = absurd h
fails_on disk old mid Of (fault.BadScript line rule) stays h = absurd h
fails_on disk old mid Of (fault.BadReport line rule) stays h = absurd h
fails_on disk old mid Of fault.NoFile stays h = absurd h
fails_on disk old mid Of (fault.BadBytes place cause) stays h = absurd h
fails_on disk old mid Of (fault.BadImage place cause) stays h = absurd h
fails_on disk old mid Of fault.NoPath stays h = absurd h
fails_on disk old mid Of fault.NotJson stays h = absurd h
fails_on disk old mid Of (fault.BadEntry index) stays h = absurd h
fails_on disk old mid Of (fault.TooManyEntries most) stays h = absurd h
fails_on disk old mid Of (fault.Limit most) stays h = absurd h
fails_on disk old mid Of fault.ReadFault stays h = absurd h

-- an error that is passed on, and a value
pub told_err : {D S T : Type 0} (disk : Ghosts D) (old new : D) (r : Result S CommandFault) (result : Result T CommandFault) (e : CommandFault) → TellsFaults disk old new r → r ≡ Err e → result ≡ Err e
    → TellsFaults disk old new result
told_err {S = S} {T = T} disk old new r result e h is now =
    let one = subst (λ (x : Result S CommandFault). TellsFaults disk old new x) is h in
    subst (λ (x : Result T CommandFault). TellsFaults disk old new x) (sym now)
    (record { failed = λ i. one.failed (let same : e ≡ fault.DiskFault = cc i in ap (λ (x : CommandFault). Err x) same); no_fault = λ n. one.no_fault (λ i. n (let same : e ≡ fault.DiskFault = cc i in ap (λ (x : CommandFault). Err x) same)) })

pub told_ok : {D S T : Type 0} (disk : Ghosts D) (old new : D) (r : Result S CommandFault) (x : S) (y : T) → TellsFaults disk old new r → r ≡ Ok x → TellsFaults {T = T} disk old new (Ok y)
told_ok disk old new r x y h is = record { failed = λ i. absurd (cc i); no_fault = λ n. h.no_fault (λ i. absurd (cc (i, is))) }

-- want of memory isn't told as a fault
pub told_none : {D T : Type 0} (disk : Ghosts D) (old new : D) (result : Result T CommandFault) → disk.faults new ≡ disk.faults old → result ≢ Err fault.DiskFault → TellsFaults disk old new result
told_none disk old new result same none = record { failed = λ e. absurd (none e); no_fault = λ n. same }

pub no_fault_at : {D S : Type 0} (disk : Ghosts D) (old new : D) (r : Result S CommandFault) (x : S) → TellsFaults disk old new r → r ≡ Ok x → disk.faults new ≡ disk.faults old
no_fault_at disk old new r x h is = h.no_fault (λ i. absurd (cc (i, is)))

pub begins_not : {D : Type 0} (disk : Ghosts D) (old new : D) (of : CommandFault) → TellsFaults {T = Unit {0}} disk old new (Err of) → FailsFor disk old IsOfTwoNewest of → FailsToBegin disk old of
begins_not disk old new of h why = record { now = new; cause = h; why = why }

-- the older of the two newest is bad
pub older_bad : {D T : Type 0} (disk : Ghosts D) (old mid : D) (before last : ℕ) (r : Result T CommandFault) (e : CommandFault) → r ≡ Err e → Stays disk old mid
    → (disk.tells old → TellsSecond (disk.view old).seen before) → FailsFor disk mid (λ _ of. of ≡ before) e → IfErr r (FailsFor disk old (λ files of. (of ≡ last) ⊎ TellsSecond files of))
older_bad {T = T} disk old mid before last r e is stays second h =
    subst (λ (x : Result T CommandFault). IfErr x (FailsFor disk old (λ files of. (of ≡ last) ⊎ TellsSecond files of))) (sym is)
    (fails_also disk old (λ _ of. of ≡ before) (λ files of. (of ≡ last) ⊎ TellsSecond files of) e
    (λ t txid same. inr (subst (λ (n : ℕ). TellsSecond (disk.view old).seen n) (sym same) (second t)))
    (fails_on disk old mid (λ _ of. of ≡ before) e stays h))

pub ruleset passed = (told_on, told_err, told_ok, told_none, no_fault_at, fails_also, fails_on, older_bad, begins_not)
