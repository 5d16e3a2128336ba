-- The passes together.
use Rattle.std.proofs.Common.{inl, inr, ◌≡◌, ℕ, ◌≤◌, ◌^◌, List, ◌++◌, ap, sym, ◌∙◌, refl, subst}
use Rattle.std.specs.Prelude.{Option, None, IsSome, Result, OnOk, codes}
use Rattle.std.proofs.lemmas.Result.{on_ok_weaker}
use Rattle.base_disk.specs.Files.{Files}
use Rattle.base_disk.specs.View.{View, IsSound}
use Rattle.base_disk.specs.Calls.{Rests}
use Rattle.base_disk.specs.Runs.{Quiet, weaker}
use Rattle.base_disk.specs.declared.disk.DiskFail.{DiskFail}
use Rattle.disk_opening.specs.declared.completed.Completed.{Completed}
use Rattle.disk_opening.specs.declared.completed.Completed.TheVariants as told
use Rattle.disk_segment.specs.Names.{Kind, InProgress, Final, Record, UnderWay, Fresh, name_of, IsKind, IsLasting}
use Rattle.disk_opening.specs.Kinds.{IsNamed}
use Rattle.disk_segment.specs.Stands.{IsRecordFile}
use Rattle.disk_opening.specs.Opening.{SegmentsStable, Repairs, IsBadRecordFile, IsRepaired, IsCompleted, completed_result}
use Rattle.disk_opening.specs.Completing.{Mends, Cleans, Spares, AreFinals, IsWay, IsProgress, IsLeftKind, IsLeftOver, NoName, ClearsAll, Completes}
use Rattle.disk_opening.proofs.TemporaryLemmas.{not_temporary, tmp_temporary}
use Rattle.disk_opening.proofs.MendLemmas.{mends_keeps, mends_then, one_kind}
use Rattle.disk_opening.proofs.ClearLemmas.{finals_stay, final_no_way, final_no_progress}

pub named : (start : ℕ) (kind : Kind) → 1 ≤ start → start ≤ 2 ^ 62 → IsKind start kind → IsNamed (name_of start kind) start kind
named start kind first small ok = record { first = first; small = small; valid = ok; spelled = refl }

-- the final files stay where acceptances are settled
pub settled_finals : (finals : List ℕ) (a b : Files) → ClearsAll IsWay IsProgress a b → AreFinals finals a → AreFinals finals b
settled_finals finals a b clears are = finals_stay finals a b (λ name start final. clears.others name (final_no_way name start final) (final_no_progress name start final)) are

-- a file that counts, and isn't one in progress, isn't left over
not_left : (finals : List ℕ) (start : ℕ) (kind : Kind) → 1 ≤ start → start ≤ 2 ^ 62 → IsKind start kind → IsLasting kind
    → ((other : ℕ) → IsLeftKind finals other kind → ⊥) → IsLeftOver finals (name_of start kind) → ⊥
not_left finals start kind first small ok lasts passes (inl tmp) = not_temporary start kind ok lasts (tmp_temporary (name_of start kind) tmp.0 tmp.1)
not_left finals start kind first small ok lasts passes (inr file) =
    passes file.start (subst (λ (k : Kind). IsLeftKind finals file.start k) (one_kind (name_of start kind) file.start start file.kind kind file.named (named start kind first small ok)) file.left)

not_way : (start : ℕ) (kind : Kind) → 1 ≤ start → start ≤ 2 ^ 62 → IsKind start kind → ((epoch : ℕ) → kind ≡ UnderWay epoch → ⊥) → IsWay (name_of start kind) → ⊥
not_way start kind first small ok other way = other way.epoch (one_kind (name_of start kind) start way.start kind (UnderWay way.epoch) (named start kind first small ok) way.named)

not_progress : (start : ℕ) (kind : Kind) → 1 ≤ start → start ≤ 2 ^ 62 → IsKind start kind → (kind ≡ InProgress → ⊥) → IsProgress (name_of start kind) → ⊥
not_progress start kind first small ok other progress = other (one_kind (name_of start kind) start progress.start kind InProgress (named start kind first small ok) progress.named)

module _ (finals : List ℕ) (a b c : Files) (settled : ClearsAll IsWay IsProgress a b) (swept : ClearsAll (IsLeftOver finals) NoName b c) (are : AreFinals finals b) where
  final_same : (start last : ℕ) → 1 ≤ start → start ≤ 2 ^ 62 → IsKind start (Final last) → c (name_of start (Final last)) ≡ b (name_of start (Final last))
  final_same start last first small ok = swept.others (name_of start (Final last)) (not_left finals start (Final last) first small ok tt (λ other left. left)) (λ none. none)

  record_same : (start : ℕ) → 1 ≤ start → start ≤ 2 ^ 62 → c (name_of start Record) ≡ a (name_of start Record)
  record_same start first small =
      swept.others (name_of start Record) (not_left finals start Record first small tt tt (λ other left. left)) (λ none. none)
      ∙ settled.others (name_of start Record) (not_way start Record first small tt (λ epoch is. absurd (cc))) (not_progress start Record first small tt (λ is. absurd (cc)))

  none_under_way : (start epoch : ℕ) → 1 ≤ start → start ≤ 2 ^ 62 → IsKind start (UnderWay epoch) → c (name_of start (UnderWay epoch)) ≡ None
  none_under_way start epoch first small ok =
      swept.others (name_of start (UnderWay epoch)) (not_left finals start (UnderWay epoch) first small ok tt (λ other left. left)) (λ none. none)
      ∙ settled.gone (name_of start (UnderWay epoch)) record { start = start; epoch = epoch; named = named start (UnderWay epoch) first small ok }

  not_both : (start last : ℕ) → 1 ≤ start → start ≤ 2 ^ 62 → IsKind start (Final last) → IsSome (c (name_of start (Final last))) → c (name_of start InProgress) ≡ None
  not_both start last first small ok there = swept.gone (name_of start InProgress) (inr record {
    start = start;
    kind = InProgress;
    named = named start InProgress first small tt;
    left = are.all start record {
      name = name_of start (Final last);
      is = record { last = last; named = named start (Final last) first small ok };
      there = subst IsSome (final_same start last first small ok) there;
    };
  })

  pub completes : Completes a c
  completes = record {
    tidy = record { none_under_way = none_under_way; not_both = not_both };
    none_fresh = λ start first small. swept.gone (name_of start Fresh) (inr record { start = start; kind = Fresh; named = named start Fresh first small tt; left = tt });
    none_temporary = λ front. swept.gone (front ++ codes ".tmp") (inl (front, refl));
    records = λ name bad. record {
      start = bad.start;
      first = bad.first;
      small = bad.small;
      named = bad.named;
      bad = subst (λ (file : Option (List ℕ)). IsRecordFile file → ⊥) (ap c bad.named ∙ record_same bad.start bad.first bad.small ∙ sym (ap a bad.named)) bad.bad;
    };
  }

-- what is repaired, where no record was bad
pub repaired : (a c : Files) → Completes a c → ((name : List ℕ) → IsBadRecordFile a name → ⊥) → IsRepaired c
repaired a c is good = record { tidy = is.tidy; none_fresh = is.none_fresh; none_temporary = is.none_temporary; records = λ name bad. good name (is.records name bad) }

module _ (v0 v1 v2 : View) (rests : Rests v0 v1) where
  pub read_then : IsSound v0 → SegmentsStable v0 → (SegmentsStable v1 → Mends v1 v2) → Mends v0 v2
  read_then sound all more = let first = mends_keeps v0 v1 sound rests.keeps all in mends_then v0 v1 v2 first (more first.stable)

  pub finals_then : (finals : List ℕ) → AreFinals finals v0.seen → ClearsAll IsWay IsProgress v1.seen v2.seen → AreFinals finals v2.seen
  finals_then finals are clears = settled_finals finals v1.seen v2.seen clears (subst (AreFinals finals) (sym rests.keeps.seen) are)

  pub all_completes : (v3 : View) (finals : List ℕ) → AreFinals finals v0.seen → ClearsAll IsWay IsProgress v1.seen v2.seen
      → {T E : Type 0} (r : Result T E) → OnOk r (ClearsAll (IsLeftOver finals) NoName v2.seen v3.seen) → OnOk r (Completes v0.seen v3.seen)
  all_completes v3 finals are settled r swept = on_ok_weaker r
      (λ (clears : ClearsAll (IsLeftOver finals) NoName v2.seen v3.seen). completes finals v0.seen v2.seen v3.seen
      (subst (λ (files : Files). ClearsAll IsWay IsProgress files v2.seen) rests.keeps.seen settled) clears (finals_then finals are settled))
      swept

-- what is told of a repair
pub completed_told : (a c : Files) (answer : Completed) (r : Result (Unit {0}) DiskFail) → completed_result answer ≡ r → OnOk r (answer ≡ told.Done)
    → OnOk r (Completes a c) → ((name : List ℕ) → IsBadRecordFile a name → ⊥) → IsCompleted a c answer
completed_told a c told.Done r is done completes good = (repaired a c (subst (λ (o : Result (Unit {0}) DiskFail). OnOk o (Completes a c)) (sym is) completes) good, good)
completed_told a c (told.BadFile name) r is done completes good =
    let same : told.BadFile name ≡ told.Done = subst (λ (o : Result (Unit {0}) DiskFail). OnOk o (told.BadFile name ≡ told.Done)) (sym is) done in absurd (cc)
completed_told a c told.DiskFault r is done completes good = tt
completed_told a c told.OutOfMemory r is done completes good = tt

-- what a mend says of the segments, and of the files
module _ (old new : View) (mends : Mends old new) where
  pub mended_quiet : Quiet Repairs old new
  mended_quiet = record {
    moments = weaker old new (λ c. (d : Files) × old.may_leave d × Cleans d c) (λ c. (d : Files) × old.may_leave d × Repairs d c) (λ c from. (from.0, from.1, from.2.repairs)) mends.quiet.moments;
    now = λ c left. let from = mends.quiet.now c left in (from.0, from.1, from.2.repairs);
    seen = mends.quiet.seen.repairs;
  }

  pub mended_spares : Quiet Spares old new
  mended_spares = record {
    moments = weaker old new (λ c. (d : Files) × old.may_leave d × Cleans d c) (λ c. (d : Files) × old.may_leave d × Spares d c) (λ c from. (from.0, from.1, from.2.spares)) mends.quiet.moments;
    now = λ c left. let from = mends.quiet.now c left in (from.0, from.1, from.2.spares);
    seen = mends.quiet.seen.spares;
  }
