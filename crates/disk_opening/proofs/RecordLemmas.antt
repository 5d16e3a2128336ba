-- What a read of a record says of its file, and which record is the first bad one.
use Rattle.std.proofs.Common.{inl, inr, ⊎_elim, ◌≡◌, ◌↔◌, ℕ, List, [], ◌∷◌, ◌++◌, ap, sym, ◌∙◌, refl, subst, arith, Bool, true, false}
use Rattle.std.specs.Prelude.{Option, Some, None, IsSome, Contains, MatchBool, MatchOption, Result, Ok, Err, IfOk, IsOk, ◌==◌}
use Rattle.std.specs.Option.{is_some}
use Rattle.std.proofs.lemmas.Option.{same_Some}
use Rattle.std.proofs.lemmas.Bool.Decides.{Decides-eqb}
use Rattle.std.proofs.lemmas.List.Elements.{Contains-push_cases}
use Rattle.base_disk.specs.Files.{Files}
use Rattle.base_disk.specs.View.{View, IsSound}
use Rattle.base_disk.specs.Calls.{Rests, Lists, HasCause}
use Rattle.base_disk.specs.declared.disk.DiskFail.{DiskFail}
use Rattle.base_files.specs.Records.{IsRecord, paxos_name}
use Rattle.base_files.specs.Records as records
use Rattle.disk_segment.specs.Names.{Record, name_of}
use Rattle.disk_opening.specs.Kinds.{IsNamed}
use Rattle.disk_segment.specs.Stands.{HasEpoch, IsRecordFile}
use Rattle.disk_opening.specs.Opening.{IsBadRecordFile, IsFirst}
use Rattle.disk_segment.proofs.AcceptLemmas.{record_name}
use Rattle.disk_opening.proofs.TurnLemmas.{Turn, less_is_done}
use Rattle.disk_segment.proofs.OneEpoch.{one_epoch}
use Rattle.base_disk.proofs.Causes.{none_at_ok}

module _ (start : ℕ) (files : Files) where
  pub found_epoch : (epoch end : ℕ) → (bytes : List ℕ) × (files (paxos_name start) ≡ Some bytes) × IsRecord bytes (record { epoch = epoch; end = end }) → HasEpoch (files (name_of start Record)) epoch
  found_epoch epoch end found = record { end = end; bytes = found.0; there = ap files (record_name start) ∙ found.1; spelled = found.2 }

  pub absent_record : files (paxos_name start) ≡ None → files (name_of start Record) ≡ None
  absent_record none = ap files (record_name start) ∙ none

  pub bad_record : (bytes : List ℕ) × (files (paxos_name start) ≡ Some bytes) × ((r : records.Record) → IsRecord bytes r → ⊥) → IsRecordFile (files (name_of start Record)) → ⊥
  bad_record bad (inl none) = let p = sym none ∙ ap files (record_name start) ∙ bad.1 in absurd (cc)
  bad_record bad (inr has) =
      let same : has.1.bytes ≡ bad.0 = same_Some has.1.bytes bad.0 (sym has.1.there ∙ ap files (record_name start) ∙ bad.1) in
      bad.2 (record { epoch = has.0; end = has.1.end }) (subst (λ (bytes : List ℕ). IsRecord bytes (record { epoch = has.0; end = has.1.end })) same has.1.spelled)

  -- whether it has this epoch
  pub epoch_found : (accepted epoch : ℕ) (b : Bool) → b ≡ (accepted == epoch) → HasEpoch (files (name_of start Record)) accepted
      → MatchBool b (HasEpoch (files (name_of start Record)) epoch) (HasEpoch (files (name_of start Record)) epoch → ⊥)
  epoch_found accepted epoch true is has = subst (λ (e : ℕ). HasEpoch (files (name_of start Record)) e) ((Decides-eqb accepted epoch).0 (sym is)) has
  epoch_found accepted epoch false is has = λ other. let p = (Decides-eqb accepted epoch).1 (one_epoch (files (name_of start Record)) accepted epoch has other) in absurd (cc)

  pub epoch_absent : (epoch : ℕ) → files (paxos_name start) ≡ None → HasEpoch (files (name_of start Record)) epoch → ⊥
  epoch_absent epoch none has = let p = sym (absent_record none) ∙ has.there in absurd (cc)

  pub epoch_bad : (epoch : ℕ) → (bytes : List ℕ) × (files (paxos_name start) ≡ Some bytes) × ((r : records.Record) → IsRecord bytes r → ⊥) → HasEpoch (files (name_of start Record)) epoch → ⊥
  epoch_bad epoch bad has = bad_record bad (inr (epoch, has))

-- a record that is there is bad where its file is
pub bad_file : (start : ℕ) (name : List ℕ) (files : Files) → IsNamed name start Record → (IsRecordFile (files (name_of start Record)) → ⊥) → IsBadRecordFile files name
bad_file start name files named bad = record {
  start = start;
  first = named.first;
  small = named.small;
  named = named.spelled;
  bad = subst (λ (n : List ℕ). IsRecordFile (files n) → ⊥) (sym named.spelled) bad;
}

bad_there : (files : Files) (name : List ℕ) → IsBadRecordFile files name → IsSome (files name)
bad_there files name is = by (files name) is.bad
  where
    by : (file : Option (List ℕ)) → (IsRecordFile file → ⊥) → IsSome file
    by None bad = absurd (bad (inl refl))
    by (Some bytes) bad = refl

pub rests_on : (u v w : View) → IsSound u → Rests u v → Rests v w → Rests u w
rests_on u v w sound one two = record {
  keeps = record {
    seen = two.keeps.seen ∙ one.keeps.seen;
    crash = λ c left. one.keeps.crash c (two.keeps.crash c left);
    time = record {
      later = omega (arith, one.keeps.time.later, two.keeps.time.later);
      nothing_else = λ t c le left. ⊎_elim
          (λ before. ⊎_elim (λ l. inl l) (λ mid. inl (sound.counts_now t c le (one.keeps.crash c mid))) (one.keeps.time.nothing_else t c le before))
          (λ now. inr now)
          (two.keeps.time.nothing_else t c (omega (arith, le, one.keeps.time.later)) left);
      keeps = λ t c le left. two.keeps.time.keeps t c (omega (arith, le, one.keeps.time.later)) (one.keeps.time.keeps t c le left);
    };
  };
  synced = two.synced ∙ one.synced;
}

-- no record of these names is bad
pub record IsRead (told tells : Type 0) (v0 v : View) (names done : List (List ℕ)) (f0 f : ℕ) (was_steady is_steady : Type 0) : Type 0 where
  pub tells_on : told ↔ tells
  pub rests : told → Rests v0 v
  pub listed : told → Lists names v0.seen
  pub good : told → (name : List ℕ) → Contains done name → IsBadRecordFile v0.seen name → ⊥
  pub same : f ≡ f0
  pub steady : was_steady → is_steady

module _ (told : Type 0) (v0 : View) (sound : told → IsSound v0) (names : List (List ℕ)) (f0 : ℕ) (was_steady : Type 0) where
  pub begun : {T : Type 0} (tells : Type 0) (v : View) (f : ℕ) (is_steady : Type 0) (r : Result T DiskFail) → told ↔ tells → (told → Rests v0 v)
      → (told → Lists names v0.seen) → HasCause f0 f was_steady is_steady r → IsOk r
      → IsRead told tells v0 v names [] f0 f was_steady is_steady
  begun tells v f is_steady r on rests lists cause ok = record {
    tells_on = on;
    rests = rests;
    listed = lists;
    good = λ t name among bad. absurd (omega (arith, among.1));
    same = none_at_ok f0 f was_steady is_steady r cause ok;
    steady = cause.steady;
  }

  module _ (tells : Type 0) (v : View) (done : List (List ℕ)) (f : ℕ) (is_steady : Type 0) (so_far : IsRead told tells v0 v names done f0 f was_steady is_steady) where
    module _ {T : Type 0} (tells1 : Type 0) (v1 : View) (f1 : ℕ) (steady1 : Type 0) (r : Result T DiskFail) (on : tells ↔ tells1)
        (rests : tells → Rests v v1) (cause : HasCause f f1 is_steady steady1 r) where
      pub now_tells : told ↔ tells1
      now_tells = (λ t. on.0 (so_far.tells_on.0 t), λ t. so_far.tells_on.1 (on.1 t))

      pub now_rests : told → Rests v0 v1
      now_rests t = rests_on v0 v v1 (sound t) (so_far.rests t) (rests (so_far.tells_on.0 t))

      at_start : (P : Files → Type 0) → told → P v.seen → P v0.seen
      at_start P t is = subst P (so_far.rests t).keeps.seen is

      pub one_more : IsOk r → (name : List ℕ) (next : List (List ℕ)) → next ≡ done ++ name ∷ [] → (tells → IsBadRecordFile v.seen name → ⊥)
          → IsRead told tells1 v0 v1 names next f0 f1 was_steady steady1
      one_more ok name next is good = record {
        tells_on = now_tells;
        rests = now_rests;
        listed = so_far.listed;
        good = λ t other among bad. ⊎_elim (λ before. so_far.good t other before bad)
            (λ same. here t (subst (λ (n : List ℕ). IsBadRecordFile v0.seen n) (sym same) bad))
            (Contains-push_cases done name other (subst (λ (l : List (List ℕ)). Contains l other) is among));
        same = none_at_ok f f1 is_steady steady1 r cause ok ∙ so_far.same;
        steady = λ s. cause.steady (so_far.steady s);
      }
        where
          here : told → IsBadRecordFile v0.seen name → ⊥
          here t bad = good (so_far.tells_on.0 t) (subst (λ (files : Files). IsBadRecordFile files name) (sym (so_far.rests t).keeps.seen) bad)

    pub found_first : (name : List ℕ) → told → Turn names done name → IsBadRecordFile v.seen name → IsFirst (IsBadRecordFile v0.seen) name
    found_first name t at bad = record {
      here = subst (λ (files : Files). IsBadRecordFile files name) (so_far.rests t).keeps.seen bad;
      before = λ other less is. so_far.good t other (less_is_done names done name (so_far.listed t).sorted at other ((so_far.listed t).all other (bad_there v0.seen other is)) less) is;
    }

    pub all_good : done ≡ names → told → (name : List ℕ) → IsBadRecordFile v0.seen name → ⊥
    all_good is t name bad = so_far.good t name (subst (λ (l : List (List ℕ)). Contains l name) (sym is) ((so_far.listed t).all name (bad_there v0.seen name bad))) bad

pub ok_told : (r : Result Bool DiskFail) (b : Bool) (P Q : Type 0) → r ≡ Ok b → MatchBool b P Q → IfOk r (λ x. MatchBool x P Q)
ok_told r b P Q is told = subst (λ (o : Result Bool DiskFail). IfOk o (λ x. MatchBool x P Q)) (sym is) told

pub err_told : (r : Result Bool DiskFail) (e : DiskFail) (P Q : Type 0) → r ≡ Err e → IfOk r (λ x. MatchBool x P Q)
err_told r e P Q is = subst (λ (o : Result Bool DiskFail). IfOk o (λ x. MatchBool x P Q)) (sym is) tt

pub at_true : (b : Bool) (P Q : Type 0) → b ≡ true → MatchBool b P Q → P
at_true true P Q is told = told
at_true false P Q is told = absurd (cc)

pub at_false : (b : Bool) (P Q : Type 0) → b ≡ false → MatchBool b P Q → Q
at_false true P Q is told = absurd (cc)
at_false false P Q is told = told

-- what an answer on one name says, where it is of a bad record, and where it isn't
pub told_bad : (o : Option (List ℕ)) (name : List ℕ) (A Q P : Type 0) (F : List ℕ → Type 0) → is_some o ≡ true → MatchOption o A (λ bad. (bad ≡ name) × P) → (P → F name) → MatchOption o Q F
told_bad None name A Q P F some told first = absurd (cc)
told_bad (Some bad) name A Q P F some told first = subst F (sym told.0) (first told.1)

pub told_good : (o : Option (List ℕ)) (A : Type 0) (F : List ℕ → Type 0) → is_some o ≡ false → MatchOption o A F → A
told_good None A F none told = told
told_good (Some bad) A F none told = absurd (cc)
