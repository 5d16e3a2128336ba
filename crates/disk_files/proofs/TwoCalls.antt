-- An effect on the segments whose call is followed by the removal of the record of an acceptance.
use Rattle.std.proofs.Common.{inl, inr, ◌⊎◌, ◌≡◌, ◌≢◌, ℕ, zero, suc, List, sym, ◌∙◌, subst, arith, ◌+◌, ◌^◌, ◌≤◌, Bool, true, false}
use Rattle.std.specs.Prelude.{Option, Some, None, IsSome, Result, Ok, Err, OnOk, IsOk, IsErr, nat_le, if◌then◌else◌}
use Rattle.std.proofs.lemmas.Bool.Decides.{nat_tests}
use Rattle.std.proofs.lemmas.Result.{on_ok_weaker}
use Rattle.base_disk.specs.Files.{Files}
use Rattle.base_disk.specs.View.{View, IsSound, LeavesOnly, AllLeave}
use Rattle.base_disk.specs.Moments.{goes_on}
use Rattle.base_disk.specs.declared.disk.DiskFail.{DiskFail}
use Rattle.base_files.specs.Puts.{temporary}
use Rattle.journal_core.specs.declared.segment.Segment.{Segment}
use Rattle.journal_core.specs.declared.node_state.NodeState.{NodeState}
use Rattle.journal_core.specs.Segments.{find_segment}
use Rattle.journal_core.specs.Cuts.{name_cost}
use Rattle.disk_segment.specs.Names.{Kind, record_, front_of, InProgress, Final, UnderWay, name_of, IsKind}
use Rattle.disk_segment.specs.Stands.{StandsFor}
use Rattle.disk_segment.specs.Effects.{IsTidy, Touches, IsReady, IsCounted}
use Rattle.disk_segment.proofs.Single.{tidy_left}
use Rattle.disk_segment.proofs.RenamedLaws.{same_files_stand}
use Rattle.disk_opening.proofs.OpenLemmas.{NotAccepted, record_gone_stands}
use Rattle.disk_segment.proofs.SealLemmas.{passed_none}
use Rattle.disk_segment.proofs.Counts.{passed_on, counted_on, counted_off}
use Rattle.disk_files.specs.Durable.{number_name, HaveNumbers, StandsAs, HoldsState}
use Rattle.disk_files.specs.EffectCalls.{MayClear, Clears, clear_calls, Does, IsCutAt}
use Rattle.disk_files.proofs.Names.{number_other, temporary_other}
use Rattle.disk_files.proofs.ClearLaws.{kind_stays, other_stays}
use Rattle.disk_files.proofs.OneCall.{Kept, numbers_same, stands_with, numbers_now, temporary_stays, moments_as}

ok_not_err : {T E : Type 0} (r : Result T E) → IsOk r → IsErr r → ⊥
ok_not_err (Ok x) ok err = absurd (cc)
ok_not_err (Err e) ok err = absurd (cc)

pub on_ok_never : {T E : Type 0} (r : Result T E) (P : Type 0) → IsErr r → OnOk r P
on_ok_never (Ok x) P err = absurd (cc)
on_ok_never (Err e) P err = tt

-- ## The number of calls
calls_some : (accepted : Bool) → 0 + 1 ≤ (name_cost accepted).calls
calls_some true = omega arith
calls_some false = omega arith

pub failed_counts : (accepted : Bool) (b0 b1 : Option ℕ) (r : Result (Unit {0}) DiskFail) → IsErr r → IsCounted 1 b0 b1 r → IsCounted (name_cost accepted).calls b0 b1 r
failed_counts accepted b0 b1 r err counted = counted_off 1 0 b0 b0 b1 r (passed_none b0) counted (name_cost accepted).calls (calls_some accepted) err

pub both_counts : (accepted : Bool) (b0 b1 b2 : Option ℕ) (one two : Result (Unit {0}) DiskFail) → IsOk one → IsCounted 1 b0 b1 one
    → IsCounted (clear_calls accepted) b1 b2 two → IsCounted (name_cost accepted).calls b0 b2 two
both_counts true b0 b1 b2 one two ok first second = counted_on 1 1 b0 b1 b2 two (passed_on 1 0 b0 b0 b1 one (passed_none b0) first ok) second
both_counts false b0 b1 b2 one two ok first second = counted_on 0 1 b0 b1 b2 two (passed_on 1 0 b0 b0 b1 one (passed_none b0) first ok) second

-- ## A stop before the first of them
pub failed_cut : (accepted : Bool) (before after : NodeState) (left : Option ℕ) (r : Result (Unit {0}) DiskFail) (v : View)
    → IsCutAt (λ _. name_cost false) before after left r v → IsCutAt (λ _. name_cost accepted) before after left r v
failed_cut true before after left r v cut = record { stands = cut.stands }
failed_cut false before after left r v cut = cut

-- ## After the first call
module _ (start : ℕ) (first : 1 ≤ start) (small : start ≤ 2 ^ 62) (kinds : List Kind) (v0 v1 v2 : View) (sound1 : IsSound v1) (touches : Touches start kinds v0 v1)
    (s : NodeState) (holds : HoldsState v0 s) (after : List Segment) (ready : IsReady v1 after) (free : NotAccepted (find_segment start after))
    (accepted : Bool) (last : Result (Unit {0}) DiskFail) (clears : Clears accepted start last v1 v2) where
  segments_then : (d c : Files) → v1.may_leave d → MayClear start d c → StandsFor c after
  segments_then d c left (inl same) = same_files_stand d c after (ready.stands d left) same
  segments_then d c left (inr gone) = record_gone_stands start small d c after (ready.stands d left) gone (λ epoch ok. none epoch ok) free
    where
      none : (epoch : ℕ) → IsKind start (UnderWay epoch) → d (name_of start (UnderWay epoch)) ≡ None
      none epoch ok = (tidy_left v1 d sound1 ready.tidy left).none_under_way start epoch first small ok

  numbers_then : AllLeave v2 (λ c. HaveNumbers c s)
  numbers_then c now =
      let from = clears.crash c now in
      numbers_same from.0 c s (λ n. other_stays start from.0 c from.2 (number_name n) (number_other n)) (numbers_now start kinds v0 v1 sound1 touches s holds.numbers from.0 from.1)

  stands_then : AllLeave v2 (λ c. StandsAs c (record s { segments = after }))
  stands_then c now = let from = clears.crash c now in stands_with c s after (numbers_then c now) (segments_then from.0 c from.1 from.2)

  tidy_then : IsTidy v2.seen
  tidy_then = record {
    none_under_way = λ other epoch first_other small_other ok. stays other (UnderWay epoch) (λ is. absurd (cc)) ∙ ready.tidy.none_under_way other epoch first_other small_other ok;
    not_both = λ other end first_other small_other ok there. stays other InProgress (λ is. absurd (cc))
        ∙ ready.tidy.not_both other end first_other small_other ok (subst IsSome (stays other (Final end) (λ is. absurd (cc))) there);
  }
    where
      stays : (other : ℕ) (k : Kind) → front_of k ≢ record_ → v2.seen (name_of other k) ≡ v1.seen (name_of other k)
      stays other k ne = kind_stays start v1.seen v2.seen clears.seen other k ne

  pub both_do : LeavesOnly v0 v1 (λ c. StandsFor c s.segments ⊎ StandsFor c after) → OnOk last (Kept v2 after) → Does s (record s { segments = after }) last v0 v2
  both_do moments kept = record {
    any_moment = goes_on v0 v1 v2 (λ c. StandsAs c s ⊎ StandsAs c (record s { segments = after }))
        (moments_as start kinds v0 v1 sound1 touches s holds after moments) clears.time (λ c now. inr (stands_then c now));
    done = on_ok_weaker last (λ (k : Kept v2 after). record {
      numbers = λ c now. (stands_then c now).numbers;
      segments = record { stands = λ c now. (stands_then c now).segments; tidy = tidy_then };
      starts = k.starts;
      filled = k.filled;
      records = k.records;
      none_temporary = λ n. other_stays start v1.seen v2.seen clears.seen (temporary (number_name n)) (temporary_other n) ∙ temporary_stays start kinds v0 v1 sound1 touches n ∙ holds.none_temporary n;
      none_fresh_record = k.none_fresh_record;
    }) kept;
  }

  pub both_cut : (left now : Option ℕ) (one : Result (Unit {0}) DiskFail) → IsOk one → IsCounted 1 left now one → IsCutAt (λ _. name_cost accepted) s (record s { segments = after }) left last v2
  both_cut left now one ok counted = record { stands = λ k is failed cut c chosen. by accepted k is c (stands_then c chosen.0) }
    where
      reached : (k : ℕ) (c : Files) → StandsAs c (record s { segments = after }) → StandsAs c (if nat_le 1 (suc k) then record s { segments = after } else s)
      reached k c stands = let le : nat_le 1 (suc k) ≡ true = grind (arith, nat_tests) in subst (λ (x : Bool). StandsAs c (if x then record s { segments = after } else s)) (sym le) stands

      by : (b : Bool) (k : ℕ) → left ≡ Some k → (c : Files) → StandsAs c (record s { segments = after }) → StandsAs c (if nat_le (name_cost b).decides k then record s { segments = after } else s)
      by true zero is c stands = absurd (ok_not_err one ok (counted.stops 0 is (omega arith)))
      by true (suc k) is c stands = reached k c stands
      by false zero is c stands = absurd (ok_not_err one ok (counted.stops 0 is (omega arith)))
      by false (suc k) is c stands = reached k c stands
