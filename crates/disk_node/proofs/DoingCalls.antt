-- What the disk calls of each effect ask, and that they do it.
use Rattle.std.proofs.Common.{inl, inr, ◌≡◌, ℕ, ◌≤◌, ◌+◌, ◌^◌, ◌++◌, Bool, true, false, List, length, Option, Some, refl, sym, ap, subst, ◌∙◌, arith}
use Rattle.std.specs.Prelude.{IsSome, Result, Ok, Err, OnOk, IsErr, IsErrOf}
use Rattle.std.proofs.lemmas.Option.{same_Some}
use Rattle.std.proofs.lemmas.Result.{on_ok_weaker}
use Rattle.base_words.proofs.StartLaws.{found_all}
use Rattle.base_disk.specs.View.{View, IsSound, IsStable}
use Rattle.base_disk.specs.Calls.{HasCause}
use Rattle.base_disk.specs.DiskCalls.{IsDiskCall}
use Rattle.base_disk.specs.declared.disk.DiskFail.{DiskFail}
use Rattle.base_disk.specs.declared.disk.DiskFail.TheVariants.{Failed, OutOfMemory}
use Rattle.base_disk.specs.declared.disk.DiskModel.{Ghosts}
use Rattle.base_disk.proofs.Causes.{cause_as}
use Rattle.journal_core.specs.Views.{BatchView}
use Rattle.journal_core.specs.declared.cut.Cut.{Cut}
use Rattle.journal_core.specs.declared.cut.Cut.TheVariants as cuts
use Rattle.journal_core.specs.declared.segment.Segment.{Segment}
use Rattle.journal_core.specs.declared.segment_info.SegmentInfo.{SegmentInfo}
use Rattle.journal_core.specs.declared.node_state.NodeState.{NodeState}
use Rattle.journal_core.specs.declared.request.Request.{Request}
use Rattle.journal_core.specs.Segments.{find_segment, end_of, IsNotFinal}
use Rattle.journal_core.specs.Effects.{NewSegment, Append, Replace, MakeFinal, Remove, after_effect, empty_segment}
use Rattle.journal_core.specs.Cuts.{number_cost, segment_cost, append_cost, accept_cost, name_cost, has_record, has_record_of, cost_of}
use Rattle.journal_core.proofs.SegmentLists.{find-start}
use Rattle.disk_frame.specs.Frames.{frame_bytes}
use Rattle.disk_segment.specs.Seal.{IsBlank}
use Rattle.disk_segment.specs.Names.{InProgress, Final, Record, name_of, kind_of, IsKind}
use Rattle.disk_segment.specs.Stands.{Holds, slot_of}
use Rattle.disk_segment.specs.Effects.{AppendsAt, IsCounted}
use Rattle.disk_segment.specs.Calls.{CanAppend, CanFinalize, CanDiscard}
use Rattle.disk_segment.specs.Rows.{AreSoundRows, IsRowWithin}
use Rattle.disk_segment.proofs.RowLaws.{by_rows}
use Rattle.disk_segment.specs.declared.segment_row.SegmentRow.{SegmentRow}
use Rattle.disk_segment.specs.RowsTell.{AreStarts}
use Rattle.disk_files.specs.Durable.{HoldsState}
use Rattle.disk_files.specs.declared.node_number.NodeNumber.{NodeNumber}
use Rattle.disk_files.specs.declared.node_number.NodeNumber.TheVariants.{Promised, Writer, Committed}
use Rattle.disk_files.specs.EffectCalls.{number_effect, Does, IsCutAt, KeepsOthers, CanAccept}
use Rattle.disk_files.proofs.OneCall.{on_ok_always}
use Rattle.disk_files.proofs.Lists.{starts_of}
use Rattle.disk_files.proofs.HoldsLaws.{progress_there, final_there, accepted_there, appends_blank}
use Rattle.disk_effects.specs.Told.{Tells}
use Rattle.disk_node.specs.FileState.{without_segments}
use Rattle.disk_effects.specs.Due.{batch_of, effect_of, IsAppendDue, IsFinalizeDue, IsRemoveDue}
use Rattle.disk_node.specs.Doing.{placeless, storing, CanDo, DoesEffect}
use Rattle.journal_step.specs.declared.durable_effect.DurableEffect.{DurableEffect}
use Rattle.journal_step.specs.declared.durable_effect.DurableEffect.TheVariants as durable
use Rattle.disk_node.proofs.DoingRows.{row_of}

-- ## What is asked of any disk
find_range : (start : ℕ) (gs : List Segment) (g : Segment) → AreStarts gs → find_segment start gs ≡ Some g → (1 ≤ start) × (start ≤ 2 ^ 62)
find_range start gs g starts known = subst (λ (m : ℕ). (1 ≤ m) × (m ≤ 2 ^ 62)) (find-start start gs g known) (starts_of start gs g starts known)

pub append_range : (start at : ℕ) (b : BatchView) (gs : List Segment) (rows : List SegmentRow) → Tells gs rows → IsAppendDue start at b gs rows → (1 ≤ start) × (start ≤ 2 ^ 62)
append_range start at b gs rows t due = find_range start gs due.segment t.starts due.known

pub append_some : (start at : ℕ) (b : BatchView) (gs : List Segment) (rows : List SegmentRow) → Tells gs rows → IsAppendDue start at b gs rows → 1 ≤ b.first
append_some start at b gs rows t due = omega (arith, due.next, (append_range start at b gs rows t due).0)

pub remove_range : (info : SegmentInfo) (gs : List Segment) (rows : List SegmentRow) → Tells gs rows → IsRemoveDue info gs → (1 ≤ info.start) × (info.start ≤ 2 ^ 62)
remove_range info gs rows t due = find_range info.start gs due.segment t.starts due.known

pub remove_end : (info : SegmentInfo) (gs : List Segment) (rows : List SegmentRow) → Tells gs rows → AreSoundRows rows → IsRemoveDue info gs → info.end ≤ 2 ^ 62
remove_end info gs rows t sound due =
    let there = row_of gs rows info.start due.segment t due.known in
    let same : info.end ≡ there.0.info.end = ap (λ (i : SegmentInfo). i.end) (due.info_is ∙ sym there.2) in
    omega (arith, found_all by_rows IsRowWithin info.start rows there.0 sound.within there.1, same)

-- ## What is asked of files
module _ (v : View) (rows : List SegmentRow) (s : NodeState) (r : Request) where
  -- the segment of an append
  module _ (start at : ℕ) (can : CanDo v (without_segments s) rows s r (durable.Append start at)) where
    same_segment : can.place.segment ≡ can.due.segment
    same_segment = same_Some can.place.segment can.due.segment (sym can.place.known ∙ can.due.known)

    same_place : can.place.row.whole_length ≡ at
    same_place = ap (λ (row : SegmentRow). row.whole_length) (same_Some can.place.row can.due.row (sym can.place.told ∙ can.due.told)) ∙ can.due.place

    pub appends_at : AppendsAt v can.due.segment at
    appends_at = subst (λ (n : ℕ). AppendsAt v can.due.segment n) same_place (subst (λ (g : Segment). AppendsAt v g can.place.row.whole_length) same_segment can.place.appends)

    pub append_blank : IsBlank at (v.seen (name_of start InProgress))
    append_blank = subst (λ (m : ℕ). IsBlank at (v.seen (name_of m InProgress))) can.due.start_is (appends_blank v can.due.segment at appends_at)

    pub append_stable : IsStable (name_of start InProgress) v
    append_stable = subst (λ (m : ℕ). IsStable (name_of m InProgress) v) can.due.start_is appends_at.stable

    pub can_append : (b : BatchView) → b ≡ batch_of r → CanAppend start at b s.segments v can.due.segment
    can_append b same = record {
      known = can.due.known;
      start_is = can.due.start_is;
      in_progress = can.due.in_progress;
      appends = appends_at;
      next = ap (λ (x : BatchView). x.first) same ∙ can.due.next;
    }

  pub can_accept : (epoch : ℕ) (again : Bool) (b : BatchView) → b ≡ batch_of r → CanDo v (without_segments s) rows s r (durable.Replace epoch again) → CanAccept epoch b again s.segments
  can_accept epoch again b same can = record {
    not_final = subst (λ (x : BatchView). IsNotFinal (find_segment x.first s.segments)) (sym same) can.due.not_final;
    told = subst (λ (x : BatchView). again ≡ has_record_of epoch (find_segment x.first s.segments)) (sym same) can.due.record_is;
  }

  module _ (start end : ℕ) (accepted : Bool) (sound : IsSound v) (can : CanDo v (without_segments s) rows s r (durable.MakeFinal start end accepted)) where
    pub finalize_there : IsSome (v.seen (name_of start InProgress))
    finalize_there = progress_there v sound s start can.due.segment can.held.files can.due.known can.due.in_progress

    pub finalize_record : accepted ≡ true → IsSome (v.seen (name_of start Record))
    finalize_record has = accepted_there v sound s start can.due.segment can.held.files can.due.known (can.due.accepted_is ∙ has)

    pub can_finalize : CanFinalize start end s.segments can.due.segment
    can_finalize = record { known = can.due.known; in_progress = can.due.in_progress; valid = (can.due.holds, can.due.end_fits); ends = can.due.ends }

  module _ (info : SegmentInfo) (sound : IsSound v) (can : CanDo v (without_segments s) rows s r (durable.Remove info)) where
    is_final : can.due.segment.is_final ≡ info.is_final
    is_final = ap (λ (i : SegmentInfo). i.is_final) (sym can.due.info_is)

    pub remove_accepted : can.due.segment.accepted ≡ info.accepted
    remove_accepted = ap (λ (i : SegmentInfo). i.accepted) (sym can.due.info_is)

    range : (1 ≤ info.start) × (info.start ≤ 2 ^ 62)
    range = find_range info.start s.segments can.due.segment can.held.files.starts can.due.known

    -- the end of a final segment is that of its file
    final_end : can.due.segment.is_final ≡ true → IsKind info.start (Final info.end) × (info.end + 1 ≡ info.start + length can.due.segment.bodies)
    final_end closed = by (subst (λ (held : Option Segment). Holds info.start (slot_of v.seen info.start) held) can.due.known
        ((can.held.files.segments.stands v.seen sound.seen_now).slots info.start range.0 range.1).holds)
      where
        by : Holds info.start (slot_of v.seen info.start) (Some can.due.segment) → IsKind info.start (Final info.end) × (info.end + 1 ≡ info.start + length can.due.segment.bodies)
        by (inl is) =
            let end_is : info.end ≡ end_of can.due.segment = ap (λ (i : SegmentInfo). i.end) can.due.info_is in
            let start_is : can.due.segment.start ≡ info.start = find-start info.start s.segments can.due.segment can.due.known in
            let same : info.end ≡ is.last = omega (arith, end_is, start_is, is.ends) in
            (subst (λ (n : ℕ). IsKind info.start (Final n)) (sym same) is.valid, ap (λ (n : ℕ). n + 1) same ∙ is.ends)
        by (inr is) = let p : true ≡ false = sym closed ∙ is.final in absurd (cc)

    pub can_discard : CanDiscard info.start info.end info.is_final s.segments can.due.segment
    can_discard = record { known = can.due.known; final = is_final; valid = λ is. final_end (is_final ∙ is) }

    pub remove_there : IsSome (v.seen (name_of info.start (kind_of info.end info.is_final)))
    remove_there = by info.is_final refl
      where
        by : (final : Bool) → info.is_final ≡ final → IsSome (v.seen (name_of info.start (kind_of info.end final)))
        by true is = final_there v sound s info.start can.due.segment can.held.files can.due.known info.end (is_final ∙ is) (final_end (is_final ∙ is)).1
        by false is = progress_there v sound s info.start can.due.segment can.held.files can.due.known (is_final ∙ is)

    pub remove_record : info.accepted ≡ true → IsSome (v.seen (name_of info.start Record))
    remove_record has = accepted_there v sound s info.start can.due.segment can.held.files can.due.known (remove_accepted ∙ has)

-- ## What the calls do
module _ {T : Type 0} (s : NodeState) (r : Request) (result : Result T DiskFail) (v0 v1 : View) (l0 l1 : Option ℕ) where
  pub number_does : (number : NodeNumber) (value : ℕ) → Does s (after_effect s (number_effect number value)) result v0 v1
      → ((g : Segment) (at : ℕ) → AppendsAt v0 g at → AppendsAt v1 g at) → IsCounted 3 l0 l1 result
      → IsCutAt (λ _. number_cost) s (after_effect s (number_effect number value)) l0 result v1 → DoesEffect s r (storing number value) result v0 v1 l0 l1
  number_does Promised value effect appends counts cut =
      record { effect = effect; others = λ g at passes was. appends g at was; appends = on_ok_always result (Unit {0}) tt; counts = λ c. counts; cut = cut }
  number_does Writer value effect appends counts cut =
      record { effect = effect; others = λ g at passes was. appends g at was; appends = on_ok_always result (Unit {0}) tt; counts = λ c. counts; cut = cut }
  number_does Committed value effect appends counts cut =
      record { effect = effect; others = λ g at passes was. appends g at was; appends = on_ok_always result (Unit {0}) tt; counts = λ c. counts; cut = cut }

  pub begin_does : (start epoch : ℕ) → Does s (after_effect s (NewSegment start epoch)) result v0 v1 → KeepsOthers start v0 v1
      → OnOk result (AppendsAt v1 (empty_segment start epoch) 24) → IsCounted 3 l0 l1 result
      → IsCutAt (λ _. segment_cost) s (after_effect s (NewSegment start epoch)) l0 result v1 → DoesEffect s r (durable.NewSegment start epoch) result v0 v1 l0 l1
  begin_does start epoch effect keeps appends counts cut = record { effect = effect; others = λ g at ne was. keeps.appends g at ne was; appends = appends; counts = λ c. counts; cut = cut }

  -- an append's four calls, of which each cut decides
  append_counts : (start : ℕ) (bodies : List (List ℕ)) → IsCounted 4 l0 l1 result → (c : Cut) → IsCounted (cost_of c s.segments (Append start bodies)).calls l0 l1 result
  append_counts start bodies counts cuts.Old = counts
  append_counts start bodies counts cuts.New = counts
  append_counts start bodies counts cuts.A5 = counts

  pub append_does : (start at : ℕ) (b : BatchView) (rows : List SegmentRow) (due : IsAppendDue start at (batch_of r) s.segments rows) → b ≡ batch_of r
      → Does s (after_effect s (Append start b.bodies)) result v0 v1 → KeepsOthers start v0 v1
      → OnOk result (AppendsAt v1 (record due.segment { bodies = due.segment.bodies ++ b.bodies }) (at + length (frame_bytes b))) → IsCounted 4 l0 l1 result
      → IsCutAt append_cost s (after_effect s (Append start b.bodies)) l0 result v1 → DoesEffect s r (durable.Append start at) result v0 v1 l0 l1
  append_does start at b rows due same effect keeps appends counts cut = record {
    effect = subst (λ (x : BatchView). Does s (after_effect s (Append start x.bodies)) result v0 v1) same effect;
    others = λ g place ne was. keeps.appends g place ne was;
    appends = on_ok_weaker result (λ (is : AppendsAt v1 (record due.segment { bodies = due.segment.bodies ++ b.bodies })
        (at + length (frame_bytes b))) (g : Segment) (known : find_segment start s.segments ≡ Some g).
        subst (λ (h : Segment). AppendsAt v1 (record h { bodies = h.bodies ++ (batch_of r).bodies }) (at + length (frame_bytes (batch_of r)))) (same_Some due.segment g (sym due.known ∙ known))
        (subst (λ (x : BatchView). AppendsAt v1 (record due.segment { bodies = due.segment.bodies ++ x.bodies }) (at + length (frame_bytes x))) same is)) appends;
    counts = append_counts start (batch_of r).bodies counts;
    cut = subst (λ (x : BatchView). IsCutAt append_cost s (after_effect s (Append start x.bodies)) l0 result v1) same cut;
  }

  pub accept_does : (epoch : ℕ) (again : Bool) (b : BatchView) → b ≡ batch_of r → again ≡ has_record_of epoch (find_segment (batch_of r).first s.segments)
      → Does s (after_effect s (Replace epoch b)) result v0 v1 → KeepsOthers b.first v0 v1 → IsCounted (accept_cost again).calls l0 l1 result
      → IsCutAt (λ _. accept_cost again) s (after_effect s (Replace epoch b)) l0 result v1 → DoesEffect s r (durable.Replace epoch again) result v0 v1 l0 l1
  accept_does epoch again b same told effect keeps counts cut = record {
    effect = subst (λ (x : BatchView). Does s (after_effect s (Replace epoch x)) result v0 v1) same effect;
    others = λ g at ne was. keeps.appends g at (λ is. ne (is ∙ ap (λ (x : BatchView). x.first) same)) was;
    appends = on_ok_always result (Unit {0}) tt;
    counts = λ c. subst (λ (x : Bool). IsCounted (accept_cost x).calls l0 l1 result) told counts;
    cut = subst (λ (x : Bool). IsCutAt (λ _. accept_cost x) s (after_effect s (Replace epoch (batch_of r))) l0 result v1) told
        (subst (λ (x : BatchView). IsCutAt (λ _. accept_cost again) s (after_effect s (Replace epoch x)) l0 result v1) same cut);
  }

  pub finalize_does : (start end : ℕ) (accepted : Bool) → IsFinalizeDue start end accepted s.segments
      → Does s (after_effect s (MakeFinal start)) result v0 v1 → KeepsOthers start v0 v1 → IsCounted (name_cost accepted).calls l0 l1 result
      → IsCutAt (λ _. name_cost accepted) s (after_effect s (MakeFinal start)) l0 result v1 → DoesEffect s r (durable.MakeFinal start end accepted) result v0 v1 l0 l1
  finalize_does start end accepted due effect keeps counts cut =
      let told : accepted ≡ has_record (find_segment start s.segments) = sym (ap has_record due.known ∙ due.accepted_is) in
      record {
        effect = effect;
        others = λ g at ne was. keeps.appends g at ne was;
        appends = on_ok_always result (Unit {0}) tt;
        counts = λ c. subst (λ (x : Bool). IsCounted (name_cost x).calls l0 l1 result) told counts;
        cut = subst (λ (x : Bool). IsCutAt (λ _. name_cost x) s (after_effect s (MakeFinal start)) l0 result v1) told cut;
      }

  pub remove_does : (info : SegmentInfo) → IsRemoveDue info s.segments → Does s (after_effect s (Remove info.start)) result v0 v1
      → KeepsOthers info.start v0 v1 → IsCounted (name_cost info.accepted).calls l0 l1 result
      → IsCutAt (λ _. name_cost info.accepted) s (after_effect s (Remove info.start)) l0 result v1 → DoesEffect s r (durable.Remove info) result v0 v1 l0 l1
  remove_does info due effect keeps counts cut =
      let told : info.accepted ≡ has_record (find_segment info.start s.segments) = ap (λ (i : SegmentInfo). i.accepted) due.info_is ∙ sym (ap has_record due.known) in
      record {
        effect = effect;
        others = λ g at ne was. keeps.appends g at ne was;
        appends = on_ok_always result (Unit {0}) tt;
        counts = λ c. subst (λ (x : Bool). IsCounted (name_cost x).calls l0 l1 result) told counts;
        cut = subst (λ (x : Bool). IsCutAt (λ _. name_cost x) s (after_effect s (Remove info.start)) l0 result v1) told cut;
      }

-- ## How the calls answer
module _ {T U : Type 0} (calls : Result T DiskFail) (result : Result U DiskFail) where
  never_ok : (P : Type 0) → IsErr result → OnOk result P
  never_ok P err = by result err
    where
      by : (x : Result U DiskFail) → IsErr x → OnOk x P
      by (Ok y) err = absurd (cc)
      by (Err e) err = tt

  module _ {s : NodeState} {r : Request} {d : DurableEffect} {v0 v1 : View} {l0 l1 : Option ℕ} (does : DoesEffect s r d calls v0 v1 l0 l1) where
    -- the calls failed, and so does the effect
    pub does_failed : IsErr result → (IsErrOf result Failed → IsErrOf calls Failed) → DoesEffect s r d result v0 v1 l0 l1
    does_failed err passes = record {
      effect = record { any_moment = does.effect.any_moment; done = never_ok (HoldsState v1 (after_effect s (effect_of r d))) err };
      others = does.others;
      appends = never_ok _ err;
      counts = λ cut. record { stops = λ k is few. err; counts = λ k is. (λ failed. ((does.counts cut).counts k is).0 (passes failed), never_ok (l1 ≡ Some k) err) };
      cut = record { stands = λ k is failed cut c chosen. does.cut.stands k is (passes failed) cut c chosen };
    }

-- what is counted of calls that are done doesn't count what they tell
pub ok_counts : {T U : Type 0} {few : ℕ} {l0 l1 : Option ℕ} {x : T} {y : U} → IsCounted few l0 l1 (Ok x) → IsCounted few l0 l1 (Ok y)
ok_counts was = record { stops = λ k is few. absurd (cc (was.stops k is few)); counts = λ k is. (λ failed. absurd (cc failed), (was.counts k is).1) }

-- calls that tell no place
module _ {s : NodeState} {r : Request} {d : DurableEffect} {v0 v1 : View} {l0 l1 : Option ℕ} where
  pub does_placeless : {done : Result (Unit {0}) DiskFail} {result : Result ℕ DiskFail} → result ≡ placeless done → DoesEffect s r d done v0 v1 l0 l1 → DoesEffect s r d result v0 v1 l0 l1
  does_placeless {done = done} is does = subst (λ (x : Result ℕ DiskFail). DoesEffect s r d x v0 v1 l0 l1) (sym is) (by done does)
    where
      by : (x : Result (Unit {0}) DiskFail) → DoesEffect s r d x v0 v1 l0 l1 → DoesEffect s r d (placeless x) v0 v1 l0 l1
      by (Err e) does = does_failed (Err e) (placeless (Err e)) does refl (λ failed. let p : e ≡ Failed = cc in ap (λ (f : DiskFail). Err f) p)
      by (Ok y) does = record {
        effect = record { any_moment = does.effect.any_moment; done = does.effect.done };
        others = does.others;
        appends = does.appends;
        counts = λ cut. ok_counts (does.counts cut);
        cut = record { stands = λ k is failed cut c chosen. absurd (cc failed) };
      }

placeless_failed : (x : Result (Unit {0}) DiskFail) → IsErrOf (placeless x) Failed → IsErrOf x Failed
placeless_failed (Ok y) e = absurd (cc e)
placeless_failed (Err fail) e = let p : fail ≡ Failed = cc in ap (λ (f : DiskFail). Err f) p

placeless_back : (x : Result (Unit {0}) DiskFail) → IsErrOf x Failed → IsErrOf (placeless x) Failed
placeless_back (Ok y) e = absurd (cc e)
placeless_back (Err fail) e = let p : fail ≡ Failed = cc in ap (λ (f : DiskFail). Err f) p

placeless_cause : (f g : ℕ) (was now : Type 0) (x : Result (Unit {0}) DiskFail) → HasCause f g was now x → HasCause f g was now (placeless x)
placeless_cause f g was now x cause = cause_as f g was now x (placeless x) cause (placeless_failed x) (placeless_back x)

pub call_placeless : {D : Type 0} (disk : Ghosts D) {old new : D} {done : Result (Unit {0}) DiskFail} {result : Result ℕ DiskFail}
    → result ≡ placeless done → IsDiskCall disk old new done → IsDiskCall disk old new result
call_placeless disk {old = old} {new = new} {done = done} is call = subst (λ (x : Result ℕ DiskFail). IsDiskCall disk old new x) (sym is) (by done call)
  where
    by : (x : Result (Unit {0}) DiskFail) → IsDiskCall disk old new x → IsDiskCall disk old new (placeless x)
    by (Ok y) call = record {
      tells = call.tells;
      reads = call.reads;
      cause = placeless_cause (disk.faults old) (disk.faults new) (disk.steady old) (disk.steady new) (Ok y) call.cause;
      shortage = record { later = call.shortage.later; short = λ e. absurd (cc e) };
    }
    by (Err fail) call = record {
      tells = call.tells;
      reads = call.reads;
      cause = placeless_cause (disk.faults old) (disk.faults new) (disk.steady old) (disk.steady new) (Err fail) call.cause;
      shortage = record { later = call.shortage.later; short = λ e. let p : fail ≡ OutOfMemory = cc in call.shortage.short (ap (λ (f : DiskFail). Err f) p) };
    }
