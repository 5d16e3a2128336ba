-- A number is put into its file: what that makes of the state that the files stand for.
use Rattle.std.proofs.Common.{inl, inr, ⊎_elim, ◌⊎◌, ◌≡◌, ◌≢◌, ℕ, List, ap, sym, ◌∙◌, refl, subst, arith, ◌+◌, ◌-◌, ◌^◌, ◌≤◌, ◌<◌, Bool, false}
use Rattle.std.specs.Prelude.{Option, Some, None, IsSome, Result, nat_le, if◌then◌else◌}
use Rattle.std.proofs.lemmas.Bool.{cases_lt}
use Rattle.std.proofs.lemmas.Bool.Decides.{nat_tests}
use Rattle.std.proofs.lemmas.Result.{on_ok_weaker}
use Rattle.base_disk.specs.Files.{Files}
use Rattle.base_disk.specs.View.{View, IsSound}
use Rattle.base_disk.specs.Calls.{Effect, Happens}
use Rattle.base_disk.specs.Runs.{weaker}
use Rattle.base_disk.specs.declared.disk.DiskFail.{DiskFail}
use Rattle.base_files.specs.Puts.{temporary, Disturbs, Puts, PutCut}
use Rattle.base_files.specs.Records.{number_bytes, IsNumber}
use Rattle.journal_core.specs.declared.segment.Segment.{Segment}
use Rattle.journal_core.specs.declared.node_state.NodeState.{NodeState}
use Rattle.journal_core.specs.Cuts.{number_cost}
use Rattle.journal_core.specs.Effects.{after_effect}
use Rattle.disk_segment.specs.Names.{Kind, InProgress, Final, Record, UnderWay, FreshRecord, name_of}
use Rattle.disk_segment.specs.Stands.{StandsFor}
use Rattle.disk_segment.specs.Effects.{IsTidy, IsReady, AppendsAt}
use Rattle.disk_segment.proofs.Frame.{stands_same}
use Rattle.disk_opening.proofs.OpenLemmas.{elsewhere}
use Rattle.disk_files.specs.declared.node_number.NodeNumber.{NodeNumber}
use Rattle.disk_files.specs.declared.node_number.NodeNumber.TheVariants.{Promised, Writer, Committed}
use Rattle.disk_segment.specs.RowsTell.{OnlyAccepted, AreStarts}
use Rattle.disk_files.specs.Durable.{number_name, number_of, HaveNumbers, StandsAs, AreFilled, HoldsState}
use Rattle.disk_files.specs.EffectCalls.{number_effect, Does, IsCutAt}
use Rattle.disk_files.proofs.Names.{number_elsewhere, temporary_elsewhere, numbers_apart, temporaries_apart, number_no_temporary}

-- ## Where no file of a segment changes
abbrev pub SameFiles : Files → Files → Type 0
SameFiles d c = (start : ℕ) (kind : Kind) → c (name_of start kind) ≡ d (name_of start kind)

stands_files : (d c : Files) (gs : List Segment) → SameFiles d c → StandsFor d gs → StandsFor c gs
stands_files d c gs same stands = stands_same d c gs (λ start kind first small valid lasts. same start kind) stands

tidy_files : (d c : Files) → SameFiles d c → IsTidy d → IsTidy c
tidy_files d c same tidy = record {
  none_under_way = λ start epoch first small ok. same start (UnderWay epoch) ∙ tidy.none_under_way start epoch first small ok;
  not_both = λ start last first small ok there. same start InProgress ∙ tidy.not_both start last first small ok (subst IsSome (same start (Final last)) there);
}

records_files : (d c : Files) (gs : List Segment) → SameFiles d c → OnlyAccepted d gs → OnlyAccepted c gs
records_files d c gs same only = record { accepted = λ start first small there. only.accepted start first small (subst IsSome (same start Record) there) }

-- ## The number's file
same_segments : (n : NodeNumber) (value : ℕ) (s : NodeState) → (after_effect s (number_effect n value)).segments ≡ s.segments
same_segments Promised value s = refl
same_segments Writer value s = refl
same_segments Committed value s = refl

is_put : (file : Option (List ℕ)) (value : ℕ) → value ≤ 2 ^ 62 → file ≡ Some (number_bytes value) → IsNumber file value
is_put file value small is = subst (λ (f : Option (List ℕ)). IsNumber f value) (sym is) (small, refl)

is_same : (d c : Option (List ℕ)) (value : ℕ) → c ≡ d → IsNumber d value → IsNumber c value
is_same d c value same is = subst (λ (f : Option (List ℕ)). IsNumber f value) (sym same) is

module _ (n : NodeNumber) (value : ℕ) (small : value ≤ 2 ^ 62) where
  abbrev Noise : Files → Files → Type 0
  Noise = Disturbs (temporary (number_name n))

  abbrev Deed : Files → Files → Type 0
  Deed = Puts (number_name n) (temporary (number_name n)) (number_bytes value)

  noise_files : (d c : Files) → Disturbs (temporary (number_name n)) d c → SameFiles d c
  noise_files d c noise start kind = noise.others (name_of start kind) (elsewhere (temporary (number_name n)) (temporary_elsewhere n) start kind)

  deed_files : (d c : Files) → Puts (number_name n) (temporary (number_name n)) (number_bytes value) d c → SameFiles d c
  deed_files d c puts start kind = puts.others (name_of start kind) (elsewhere (number_name n) (number_elsewhere n) start kind)
      (elsewhere (temporary (number_name n)) (temporary_elsewhere n) start kind)

  noise_stands : (d c : Files) (s : NodeState) → Disturbs (temporary (number_name n)) d c → StandsAs d s → StandsAs c s
  noise_stands d c s noise stands = record {
    numbers = λ m. is_same (d (number_name m)) (c (number_name m)) (number_of m s) (noise.others (number_name m) (number_no_temporary m n)) (stands.numbers m);
    segments = stands_files d c s.segments (noise_files d c noise) stands.segments;
  }

  deed_numbers : (d c : Files) (s : NodeState) → Puts (number_name n) (temporary (number_name n)) (number_bytes value) d c → HaveNumbers d s → HaveNumbers c (after_effect s (number_effect n value))
  deed_numbers d c s puts was = λ m. by n m puts.here (λ ne. puts.others (number_name m) (numbers_apart m n (λ is. ne (sym is))) (number_no_temporary m n))
    where
      by : (n m : NodeNumber) → c (number_name n) ≡ Some (number_bytes value) → (n ≢ m → c (number_name m) ≡ d (number_name m))
          → IsNumber (c (number_name m)) (number_of m (after_effect s (number_effect n value)))
      by Promised Promised here same = is_put (c (number_name Promised)) value small here
      by Writer Writer here same = is_put (c (number_name Writer)) value small here
      by Committed Committed here same = is_put (c (number_name Committed)) value small here
      by Promised Writer here same = is_same (d (number_name Writer)) (c (number_name Writer)) s.writer (same (λ is. absurd (cc))) (was Writer)
      by Promised Committed here same = is_same (d (number_name Committed)) (c (number_name Committed)) s.committed (same (λ is. absurd (cc))) (was Committed)
      by Writer Promised here same = is_same (d (number_name Promised)) (c (number_name Promised)) s.promised (same (λ is. absurd (cc))) (was Promised)
      by Writer Committed here same = is_same (d (number_name Committed)) (c (number_name Committed)) s.committed (same (λ is. absurd (cc))) (was Committed)
      by Committed Promised here same = is_same (d (number_name Promised)) (c (number_name Promised)) s.promised (same (λ is. absurd (cc))) (was Promised)
      by Committed Writer here same = is_same (d (number_name Writer)) (c (number_name Writer)) s.writer (same (λ is. absurd (cc))) (was Writer)

  deed_stands : (d c : Files) (s : NodeState) → Puts (number_name n) (temporary (number_name n)) (number_bytes value) d c → StandsAs d s → StandsAs c (after_effect s (number_effect n value))
  deed_stands d c s puts stands = record {
    numbers = deed_numbers d c s puts stands.numbers;
    segments = subst (λ (gs : List Segment). StandsFor c gs) (sym (same_segments n value s)) (stands_files d c s.segments (deed_files d c puts) stands.segments);
  }

  none_left : (d c : Files) → Puts (number_name n) (temporary (number_name n)) (number_bytes value) d c
      → ((m : NodeNumber) → d (temporary (number_name m)) ≡ None) → (m : NodeNumber) → c (temporary (number_name m)) ≡ None
  none_left d c puts none m = by n m puts.gone (λ ne. puts.others (temporary (number_name m)) (λ same. number_no_temporary n m (sym same)) (temporaries_apart m n (λ is. ne (sym is))) ∙ none m)
    where
      by : (n m : NodeNumber) → c (temporary (number_name n)) ≡ None → (n ≢ m → c (temporary (number_name m)) ≡ None) → c (temporary (number_name m)) ≡ None
      by Promised Promised gone same = gone
      by Writer Writer gone same = gone
      by Committed Committed gone same = gone
      by Promised Writer gone same = same (λ is. absurd (cc))
      by Promised Committed gone same = same (λ is. absurd (cc))
      by Writer Promised gone same = same (λ is. absurd (cc))
      by Writer Committed gone same = same (λ is. absurd (cc))
      by Committed Promised gone same = same (λ is. absurd (cc))
      by Committed Writer gone same = same (λ is. absurd (cc))

  module _ (v0 v1 : View) (s : NodeState) (holds : HoldsState v0 s) where
    left_stands : (d : Files) → v0.may_leave d → StandsAs d s
    left_stands d left = record { numbers = holds.numbers d left; segments = holds.segments.stands d left }

    deed_holds : Happens (Puts (number_name n) (temporary (number_name n)) (number_bytes value)) v0 v1 → HoldsState v1 (after_effect s (number_effect n value))
    deed_holds h = record {
      numbers = λ c now. let from = h.crash c now in deed_numbers from.0 c s from.2 (holds.numbers from.0 from.1);
      segments = subst (λ (gs : List Segment). IsReady v1 gs) (sym (same_segments n value s)) record {
        stands = λ c now. let from = h.crash c now in stands_files from.0 c s.segments (deed_files from.0 c from.2) (holds.segments.stands from.0 from.1);
        tidy = tidy_files v0.seen v1.seen (deed_files v0.seen v1.seen h.seen) holds.segments.tidy;
      };
      starts = subst AreStarts (sym (same_segments n value s)) holds.starts;
      filled = subst AreFilled (sym (same_segments n value s)) holds.filled;
      records = subst (λ (gs : List Segment). OnlyAccepted v1.seen gs) (sym (same_segments n value s)) (records_files v0.seen v1.seen s.segments (deed_files v0.seen v1.seen h.seen) holds.records);
      none_temporary = none_left v0.seen v1.seen h.seen holds.none_temporary;
      none_fresh_record = λ start first most. deed_files v0.seen v1.seen h.seen start FreshRecord ∙ holds.none_fresh_record start first most;
    }

    pub number_does : {T E : Type 0} (result : Result T E) → Effect (Disturbs (temporary (number_name n)))
        (Puts (number_name n) (temporary (number_name n)) (number_bytes value)) result v0 v1
        → Does s (after_effect s (number_effect n value)) result v0 v1
    number_does result effect = record {
      any_moment = weaker v0 v1 (λ c. (d : Files) × v0.may_leave d × (Noise d c ⊎ Deed d c)) (λ c. StandsAs c s ⊎ StandsAs c (after_effect s (number_effect n value)))
          (λ c from. ⊎_elim (λ noise. inl (noise_stands from.0 c s noise (left_stands from.0 from.1)))
          (λ puts. inr (deed_stands from.0 c s puts (left_stands from.0 from.1))) from.2) effect.any_moment;
      done = on_ok_weaker result (λ (h : Happens Deed v0 v1). deed_holds h) effect.done;
    }

    pub number_cut : {T : Type 0} (result : Result T DiskFail) (left now : Option ℕ) (tells : Type 0) → tells
        → PutCut left now tells (temporary (number_name n)) result v0 v1
        → IsCutAt (λ _. number_cost) s (after_effect s (number_effect n value)) left result v1
    number_cut result left now tells told put = record {
      stands = λ k is failed cut c chosen. elim (cases_lt k 3) [
        | inl few ↦ let from = (put.stops k is few).1 told c chosen.0 in
            subst (λ (t : NodeState). StandsAs c t) (below k few) (noise_stands from.0 c s from.2 (left_stands from.0 from.1))
        | inr enough ↦ absurd ((put.counts (k - 3) (is ∙ ap (λ (m : ℕ). Some m) (let e : k ≡ 3 + (k - 3) = omega (arith, enough) in e))).0 failed)
      ];
    }
      where
        below : (k : ℕ) → k < 3 → s ≡ (if nat_le 3 k then after_effect s (number_effect n value) else s)
        below k few = let no : nat_le 3 k ≡ false = grind (arith, nat_tests) in ap (λ (b : Bool). if b then after_effect s (number_effect n value) else s) (sym no)

  pub number_appends : {T E : Type 0} (result : Result T E) (v0 v1 : View) → IsSound v1
      → Effect (Disturbs (temporary (number_name n))) (Puts (number_name n) (temporary (number_name n)) (number_bytes value)) result v0 v1
      → (g : Segment) (at : ℕ) → AppendsAt v0 g at → AppendsAt v1 g at
  number_appends result v0 v1 sound effect g at was = record {
    bytes = was.bytes;
    there = seen ∙ was.there;
    edits = was.edits;
    more = was.more;
    stable = λ c now.
        let from = effect.any_moment.each c (sound.counts_now v0.moment c effect.any_moment.later now) in
        same from.0 c from.2 ∙ was.stable from.0 from.1 ∙ sym seen;
  }
    where
      same : (d c : Files) → Disturbs (temporary (number_name n)) d c ⊎ Puts (number_name n) (temporary (number_name n)) (number_bytes value) d c
          → c (name_of g.start InProgress) ≡ d (name_of g.start InProgress)
      same d c (inl noise) = noise_files d c noise g.start InProgress
      same d c (inr puts) = deed_files d c puts g.start InProgress

      seen : v1.seen (name_of g.start InProgress) ≡ v0.seen (name_of g.start InProgress)
      seen = same v0.seen v1.seen effect.failed

  pub number_files : {T E : Type 0} (result : Result T E) (v0 v1 : View)
      → Effect (Disturbs (temporary (number_name n))) (Puts (number_name n) (temporary (number_name n)) (number_bytes value)) result v0 v1
      → (name : List ℕ) → name ≢ number_name n → name ≢ temporary (number_name n) → v1.seen name ≡ v0.seen name
  number_files result v0 v1 effect name ne ne_temporary = ⊎_elim (λ noise. noise.others name ne_temporary) (λ puts. puts.others name ne ne_temporary) effect.failed

-- what was done to the file of one name was done to the file of an equal name
pub named_effect : (told name : List ℕ) (bytes : List ℕ) {T E : Type 0} (result : Result T E) (v0 v1 : View) → told ≡ name
    → Effect (Disturbs (temporary told)) (Puts told (temporary told) bytes) result v0 v1
    → Effect (Disturbs (temporary name)) (Puts name (temporary name) bytes) result v0 v1
named_effect told name bytes result v0 v1 is effect = subst (λ (l : List ℕ). Effect (Disturbs (temporary l)) (Puts l (temporary l) bytes) result v0 v1) is effect

pub named_cut : (told name : List ℕ) {T : Type 0} (result : Result T DiskFail) (left now : Option ℕ) (tells : Type 0) (v0 v1 : View) → told ≡ name
    → PutCut left now tells (temporary told) result v0 v1 → PutCut left now tells (temporary name) result v0 v1
named_cut told name result left now tells v0 v1 is cut = subst (λ (l : List ℕ). PutCut left now tells (temporary l) result v0 v1) is cut
