-- The bytes of one file while frames are appended.
use Rattle.std.proofs.Common.{inl, inr, ⊎_elim, ◌⊎◌, ◌≡◌, ◌≢◌, ℕ, zero, suc, List, [], ◌∷◌, ◌++◌, ap, sym, ◌∙◌, refl, subst, arith, ◌+◌, ◌-◌, ◌<◌}
use Rattle.std.proofs.Common.{◌≤◌, get_or, take, drop, length, length-append, take-append-drop, append_assoc}
use Rattle.std.specs.Prelude.{Option, Some, None, Result, Ok, Err, OnOk, IsErr, IsErrOf, IsErrAnd}
use Rattle.std.proofs.lemmas.Bool.{cases_eq}
use Rattle.std.proofs.lemmas.List.{take-take, get_or-take, take_at, drop_at, drop_more, length-take-le}
use Rattle.base_disk.specs.Files.{Files, ChangesOnly, Holds, Torn, IsTorn}
use Rattle.base_disk.specs.View.{View, IsSound, IsStable}
use Rattle.base_disk.specs.Calls.{Budget, Rests, Writes, Syncs, Happens}
use Rattle.base_disk.specs.Runs.{Quiet, Decided, Or, quiet_start, quiet_call, decides}
use Rattle.base_disk.specs.declared.disk.DiskFail.{DiskFail}
use Rattle.base_disk.specs.declared.disk.DiskFail.TheVariants.{Failed}
use Rattle.disk_segment.specs.Seal.{IsBlank, StaysBlank, Seals, IsCutAfter, SealCounts}

module _ (w : ℕ) where
  pub blank_same : (file : Option (List ℕ)) → IsBlank w file → StaysBlank w file file
  blank_same None blank = blank
  blank_same (Some o) blank = (refl, blank.0, blank.1)

  -- a write after the seal
  pub torn_after : (n : ℕ) (old mid new : Option (List ℕ)) → StaysBlank w old mid → Torn (w + 1) n mid new → StaysBlank w old new
  torn_after n None mid new blank torn = blank
  torn_after n (Some old) None new blank torn = absurd blank
  torn_after n (Some old) (Some mid) None blank torn = torn
  torn_after n (Some old) (Some mid) (Some new) blank torn = (
    sym (take-take w (w + 1) new (omega arith)) ∙ ap (λ (l : List ℕ). take w l) torn.before ∙ take-take w (w + 1) mid (omega arith) ∙ blank.0,
    omega (arith, blank.1, torn.no_shorter),
    λ is. blank.2 (sym (get_or-take (w + 1) mid w 0 (omega arith)) ∙ sym (ap (λ (l : List ℕ). get_or l w 0) torn.before) ∙ get_or-take (w + 1) new w 0 (omega arith) ∙ is),
  )

  module _ (o behind : List ℕ) (there : w < length o) where
    abbrev pub staged : List ℕ
    staged = take (w + 1) o ++ behind ++ drop (w + 1 + length behind) o

    abbrev pub opened : ℕ → List ℕ
    opened seal = take w o ++ (seal ∷ (behind ++ drop (w + 1 + length behind) o))

    front_length : length (take (w + 1) o) ≡ w + 1
    front_length = length-take-le (w + 1) o (omega arith)

    staged_split : staged ≡ take (w + 1) o ++ (behind ++ drop (w + 1 + length behind) o)
    staged_split = append_assoc (take (w + 1) o) behind (drop (w + 1 + length behind) o)

    pub staged_front : take w staged ≡ take w o
    staged_front = sym (take-take w (w + 1) staged (omega arith)) ∙ ap (λ (l : List ℕ). take w l)
        (ap (λ (l : List ℕ). take (w + 1) l) staged_split ∙ take_at (take (w + 1) o) (behind ++ drop (w + 1 + length behind) o) (w + 1) front_length)
        ∙ take-take w (w + 1) o (omega arith)

    pub staged_back : drop (w + 1) staged ≡ behind ++ drop (w + 1 + length behind) o
    staged_back = ap (λ (l : List ℕ). drop (w + 1) l) staged_split ∙ drop_at (take (w + 1) o) (behind ++ drop (w + 1 + length behind) o) (w + 1) front_length

    pub staged_long : w < length staged
    staged_long = omega (arith, ap length staged_split, length-append (take (w + 1) o) (behind ++ drop (w + 1 + length behind) o), front_length)

    -- the seal alone is torn
    torn_seal : (c : List ℕ) → IsTorn w 1 staged c → c ≡ opened (get_or c w 0)
    torn_seal c torn =
        let rest : drop w c ≡ get_or c w 0 ∷ (behind ++ drop (w + 1 + length behind) o) =
        drop_more c w 0 (omega (arith, torn.no_shorter, staged_long)) ∙ ap (λ (l : List ℕ). get_or c w 0 ∷ l) (torn.after ∙ staged_back) in
        sym (take-append-drop w c) ∙ ap (λ (l : List ℕ). l ++ drop w c) (torn.before ∙ staged_front) ∙ ap (λ (l : List ℕ). take w o ++ l) rest

    pub seal_torn : (c : Option (List ℕ)) → Torn w 1 (Some staged) c → StaysBlank w (Some o) c ⊎ Seals w behind (Some o) c
    seal_torn None torn = absurd torn
    seal_torn (Some c) torn = elim (cases_eq (get_or c w 0) 165) [
      | inl is ↦ inr (ap (λ (l : List ℕ). Some l) (torn_seal c torn ∙ ap opened is))
      | inr other ↦ inl (torn.before ∙ staged_front, omega (arith, torn.no_shorter, staged_long), other)
    ]

    pub seal_written : (c : Option (List ℕ)) → Holds w (165 ∷ []) (Some staged) c → Seals w behind (Some o) c
    seal_written c holds = holds ∙ ap (λ (l : List ℕ). Some (l ++ (165 ∷ []) ++ drop (w + 1) staged)) staged_front ∙ ap (λ (l : List ℕ). Some (take w o ++ (165 ∷ []) ++ l)) staged_back
        ∙ ap (λ (l : List ℕ). Some l) (append_assoc (take w o) (165 ∷ []) (behind ++ drop (w + 1 + length behind) o))

module _ (name : List ℕ) (w : ℕ) (behind : List ℕ) where
  abbrev pub Noise : Files → Files → Type 0
  Noise = ChangesOnly name (StaysBlank w)

  abbrev pub Deed : Files → Files → Type 0
  Deed = ChangesOnly name (Seals w behind)

  module _ (v0 : View) (sound : IsSound v0) (o : List ℕ) (is : v0.seen name ≡ Some o) (blank : IsBlank w (Some o)) (stable : IsStable name v0) where
    here : (d : Files) → v0.may_leave d → d name ≡ Some o
    here d now = stable d now ∙ is

    pub at_first : Quiet Noise v0 v0
    at_first = quiet_start Noise v0 sound (λ c now. record { here = blank_same w (c name) (subst (λ (f : Option (List ℕ)). IsBlank w f) (sym (here c now)) blank); others = λ m ne. refl })

    pub staging : {T : Type 0} (v1 : View) (r : Result T DiskFail) → Writes name (w + 1) behind r v0 v1 → Quiet Noise v0 v1
    staging v1 r writes = quiet_call Noise v0 v0 v1 (ChangesOnly name (Torn (w + 1) (length behind))) sound sound at_first writes.time writes.crash writes.failed
        (λ d e c old mid noise torn. record {
          here = torn_after w (length behind) (d name) (e name) (c name) noise.here torn.here;
          others = λ m ne. torn.others m ne ∙ noise.others m ne;
        })

    pub is_staged : (file : Option (List ℕ)) → Holds (w + 1) behind (v0.seen name) file → file ≡ Some (staged w o behind blank.0)
    is_staged file holds = subst (λ (f : Option (List ℕ)). Holds (w + 1) behind f file) is holds

    module _ (v2 : View) (sound2 : IsSound v2) (quiet : Quiet Noise v0 v2) (stable2 : IsStable name v2) (is2 : v2.seen name ≡ Some (staged w o behind blank.0)) where
      here2 : (e : Files) → v2.may_leave e → e name ≡ Some (staged w o behind blank.0)
      here2 e now = stable2 e now ∙ is2

      pub seal : {T : Type 0} (v3 : View) (r : Result T DiskFail) → Writes name w (165 ∷ []) r v2 v3 → Decided Noise Deed v0 v3
      seal v3 r writes = decides Noise Deed v0 v2 v3 (ChangesOnly name (Torn w 1)) sound sound2 quiet writes.time writes.crash writes.failed step
        where
          step : (d e c : Files) → v0.may_leave d → v2.may_leave e → Noise d e → ChangesOnly name (Torn w 1) e c → Noise d c ⊎ Deed d c
          step d e c old mid noise torn =
              let either : StaysBlank w (d name) (c name) ⊎ Seals w behind (d name) (c name) =
              subst (λ (f : Option (List ℕ)). StaysBlank w f (c name) ⊎ Seals w behind f (c name)) (sym (here d old))
              (seal_torn w o behind blank.0 (c name) (subst (λ (f : Option (List ℕ)). Torn w 1 f (c name)) (here2 e mid) torn.here)) in
              let others : (m : List ℕ) → m ≢ name → c m ≡ d m = λ m ne. torn.others m ne ∙ noise.others m ne in
              ⊎_elim (λ s. inl record { here = s; others = others }) (λ s. inr record { here = s; others = others }) either

      pub seal_done : (v3 v4 : View) → ChangesOnly name (Holds w (165 ∷ [])) v2.seen v3.seen → Decided Noise Deed v0 v4 → IsStable name v4 → v4.seen ≡ v3.seen → Happens Deed v0 v4
      seal_done v3 v4 done decided stable4 same =
          let opens : Seals w behind (Some o) (v4.seen name) = ap (λ (f : Files). f name) same
          ∙ seal_written w o behind blank.0 (v3.seen name) (subst (λ (f : Option (List ℕ)). Holds w (165 ∷ []) f (v3.seen name)) is2 done.here) in
          record {
            seen = record { here = subst (λ (f : Option (List ℕ)). Seals w behind f (v4.seen name)) (sym is) opens; others = others_of v0.seen v4.seen decided.seen };
            crash = λ c now.
                let from = decided.now c now in (
                  from.0,
                  from.1,
                  record {
                    here = subst (λ (f : Option (List ℕ)). Seals w behind f (c name)) (sym (here from.0 from.1))
                        (subst (λ (f : Option (List ℕ)). Seals w behind (Some o) f) (sym (stable4 c now)) opens);
                    others = others_of from.0 c from.2;
                  },
                );
          }
        where
          others_of : (d c : Files) → Or Noise Deed d c → (m : List ℕ) → m ≢ name → c m ≡ d m
          others_of d c (inl noise) = noise.others
          others_of d c (inr deed) = deed.others

pub record Blank (w : ℕ) (file : Option (List ℕ)) : Type 0 where
  pub bytes : List ℕ
  pub is : file ≡ Some bytes
  pub blank : IsBlank w (Some bytes)

pub blank_file : (w : ℕ) (file : Option (List ℕ)) → IsBlank w file → Blank w file
blank_file w None blank = absurd blank
blank_file w (Some o) blank = record { bytes = o; is = refl; blank = blank }

-- an error that `?` passes on
pub carried : {S T : Type 0} {x : DiskFail} (inner : Result S DiskFail) (outer : Result T DiskFail) (e : DiskFail) → inner ≡ Err e → IsErrAnd outer (λ d. d ≡ e) → IsErrOf outer x → IsErrOf inner x
carried inner (Ok y) e is and failed = absurd and
carried {x = x} inner (Err d) e is and failed = is ∙ (let p : e ≡ x = cc in ap (λ (f : DiskFail). Err f) p)

-- and the other way
pub handed_on : {S T : Type 0} {x : DiskFail} (inner : Result S DiskFail) (outer : Result T DiskFail) (e : DiskFail) → inner ≡ Err e → IsErrAnd outer (λ d. d ≡ e) → IsErrOf inner x → IsErrOf outer x
handed_on inner (Ok y) e is and failed = absurd and
handed_on {x = x} inner (Err d) e is and failed = let p : d ≡ x = cc in ap (λ (f : DiskFail). Err f) p

-- after the last call that is left
pub stopped_at : {T : Type 0} (before now : Option ℕ) (tells : Type 0) (r : Result T DiskFail) (old new : View) (k : ℕ)
    → Budget before now tells r old new → before ≡ Some k → IsErrOf r Failed → (k ≡ 0) × (tells → Rests old new)
stopped_at before now tells r old new zero budget is failed = (refl, (budget.stops is).2)
stopped_at before now tells r old new (suc k) budget is failed = absurd ((budget.counts k is).0 failed)

pub goes_at : {T : Type 0} (before now : Option ℕ) (tells : Type 0) (r : Result T DiskFail) (x : T) (old new : View) (k : ℕ)
    → Budget before now tells r old new → before ≡ Some k → r ≡ Ok x → (j : ℕ) × (k ≡ suc j) × (now ≡ Some j)
goes_at before now tells r x old new zero budget is ok = let p = (budget.stops is).0 in absurd (cc)
goes_at before now tells r x old new (suc k) budget is ok = (k, refl, (budget.counts k is).1)

module _ (name : List ℕ) (w : ℕ) (behind : List ℕ) (v0 : View) (sound : IsSound v0) (o : List ℕ) (is : v0.seen name ≡ Some o) (blank : IsBlank w (Some o)) (stable : IsStable name v0) where
  -- stopped with only noise after it
  pub cut_quiet : (k : ℕ) (v v' : View) → k ≤ 2 → Quiet (Noise name w behind) v0 v → Rests v v' → IsCutAfter k name w behind v0 v'
  cut_quiet k v v' le quiet rests = record {
    below = omega (arith, le);
    quiet = λ _. λ c now. quiet.now c (rests.keeps.crash c now);
    stable = λ is3. absurd (omega (arith, le, is3));
    seen = λ is3. absurd (omega (arith, le, is3));
  }

  -- stopped before the last sync
  pub cut_last : (v1 v2 v3 v4 : View) → Writes {T = Unit {0}} name (w + 1) behind (Ok tt) v0 v1 → Syncs {T = Unit {0}} name (Ok tt) v1 v2
      → Writes {T = Unit {0}} name w (165 ∷ []) (Ok tt) v2 v3 → Rests v3 v4 → IsCutAfter 3 name w behind v0 v4
  cut_last v1 v2 v3 v4 one two three rests = record {
    below = omega arith;
    quiet = λ le. absurd (omega (arith, le));
    stable = λ _. record {
      here = subst (λ (f : Option (List ℕ)). StaysBlank w f (v4.synced name)) (sym (stable v0.synced sound.synced_now ∙ is))
          (subst (λ (f : Option (List ℕ)). StaysBlank w (Some o) f) (sym stored_name) staged_blank);
      others = λ m ne. stored m ∙ two.stored.others m ne ∙ ap (λ (f : Files). f m) one.synced;
    };
    seen = λ _. record {
      here = subst (λ (f : Option (List ℕ)). Seals w behind f (v4.seen name)) (sym is)
          (ap (λ (f : Files). f name) rests.keeps.seen ∙ seal_written w o behind blank.0 (v3.seen name)
          (subst (λ (f : Option (List ℕ)). Holds w (165 ∷ []) f (v3.seen name)) is2 three.done.here));
      others = λ m ne. ap (λ (f : Files). f m) rests.keeps.seen ∙ three.done.others m ne ∙ ap (λ (f : Files). f m) two.keeps.seen ∙ one.done.others m ne;
    };
  }
    where
      is1 : v1.seen name ≡ Some (staged w o behind blank.0)
      is1 = is_staged name w behind v0 sound o is blank stable (v1.seen name) one.done.here

      is2 : v2.seen name ≡ Some (staged w o behind blank.0)
      is2 = ap (λ (f : Files). f name) two.keeps.seen ∙ is1

      stored : (m : List ℕ) → v4.synced m ≡ v2.synced m
      stored m = ap (λ (f : Files). f m) rests.synced ∙ ap (λ (f : Files). f m) three.synced

      stored_name : v4.synced name ≡ Some (staged w o behind blank.0)
      stored_name = stored name ∙ two.stored.here ∙ is1

      staged_blank : StaysBlank w (Some o) (Some (staged w o behind blank.0))
      staged_blank = subst (λ (f : Option (List ℕ)). StaysBlank w (Some o) f) is1 (subst (λ (f : Option (List ℕ)). StaysBlank w f (v1.seen name)) is
          (torn_after w (length behind) (v0.seen name) (v0.seen name) (v1.seen name) (blank_same w (v0.seen name) (subst (λ (f : Option (List ℕ)). IsBlank w f) (sym is) blank)) one.failed.here))

-- so many calls were let through
pub record Passed (j : ℕ) (before now : Option ℕ) : Type 0 where
  pub each : (k : ℕ) → before ≡ Some k → (m : ℕ) × (k ≡ j + m) × (now ≡ Some m)

pub passed_none : (b : Option ℕ) → Passed 0 b b
passed_none b = record { each = λ k is. (k, omega arith, is) }

pub passed_more : {T : Type 0} (j : ℕ) (b0 b b' : Option ℕ) (tells : Type 0) (r : Result T DiskFail) (x : T) (v w : View) → Passed j b0 b → Budget b b' tells r v w → r ≡ Ok x → Passed (suc j) b0 b'
passed_more j b0 b b' tells r x v w passed budget ok = record {
  each = λ k is.
      let so_far = passed.each k is in
      let next = goes_at b b' tells r x v w so_far.0 budget so_far.2 ok in
      (next.0, omega (arith, so_far.1, next.1), next.2);
}

err_of : {T : Type 0} (r : Result T DiskFail) → IsErrOf r Failed → IsErr r
err_of (Ok x) is = absurd (cc)
err_of (Err e) is = refl

ok_none : {T : Type 0} (r : Result T DiskFail) (P : Type 0) → IsErr r → OnOk r P
ok_none (Ok x) P err = absurd (cc)
ok_none (Err e) P err = tt

ok_always : {T : Type 0} (r : Result T DiskFail) (P : Type 0) → P → OnOk r P
ok_always (Ok x) P fact = fact
ok_always (Err e) P fact = tt

pub seal_err : {S T : Type 0} (j : ℕ) (b0 b b' : Option ℕ) (tells : Type 0) (r : Result S DiskFail) (outer : Result T DiskFail) (v w : View) → j ≤ 3
    → Passed j b0 b → Budget b b' tells r v w → IsErr outer → (IsErrOf outer Failed → IsErrOf r Failed) → SealCounts b0 b' outer
seal_err j b0 b b' tells r outer v w le passed budget err carry = record {
  stops = λ k is lt. err;
  counts = λ k is.
      let so_far = passed.each (4 + k) is in
      let more : b ≡ Some (suc (3 + k - j)) = so_far.2 ∙ ap (λ (n : ℕ). Some n) (let e : so_far.0 ≡ suc (3 + k - j) = omega (arith, so_far.1) in e) in
      (λ failed. (budget.counts (3 + k - j) more).0 (carry failed), ok_none outer (b' ≡ Some k) err);
}

pub seal_last : (b0 b b' : Option ℕ) (tells : Type 0) (r : Result (Unit {0}) DiskFail) (v w : View) → Passed 3 b0 b → Budget b b' tells r v w → SealCounts b0 b' r
seal_last b0 b b' tells r v w passed budget = record {
  stops = λ k is lt.
      let so_far = passed.each k is in
      err_of r (budget.stops (so_far.2 ∙ ap (λ (n : ℕ). Some n) (let e : so_far.0 ≡ 0 = omega (arith, so_far.1) in e))).0;
  counts = λ k is.
      let so_far = passed.each (4 + k) is in
      let last = budget.counts k (so_far.2 ∙ ap (λ (n : ℕ). Some n) (let e : so_far.0 ≡ suc k = omega (arith, so_far.1) in e)) in
      (last.0, ok_always r (b' ≡ Some k) last.1);
}
