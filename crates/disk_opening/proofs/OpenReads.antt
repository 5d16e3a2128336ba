-- How the files of segments are read one after the other.
use Rattle.std.proofs.Common.{inl, inr, ◌⊎◌, ◌≡◌, ℕ, ◌+◌, ◌^◌, ◌<◌, ◌≤◌, List, [], length, Bool, true, false, refl, sym, ◌∙◌, ap, subst, arith}
use Rattle.std.specs.Prelude.{Option, Some, None, IsSome, slice_index_or}
use Rattle.std.specs.Ordering.{nat_cmp}
use Rattle.std.specs.declared.cmp.Ordering.TheVariants.{Less}
use Rattle.std.specs.Cmp.Lexicographic.{slice_cmp}
use Rattle.std.proofs.lemmas.Bool.{cases_eq, cases_lt}
use Rattle.std.proofs.lemmas.Option.{same_Some}
use Rattle.base_words.proofs.StartLaws.{put_all}
use Rattle.base_disk.specs.Files.{Files}
use Rattle.base_disk.specs.Calls.{Lists}
use Rattle.journal_core.specs.declared.segment.Segment.{Segment}
use Rattle.journal_core.specs.Segments.{find_segment, put_segment, end_of, AreSound}
use Rattle.journal_core.proofs.PlaceLaws.{by_segments, put_sound}
use Rattle.journal_core.proofs.SegmentLists.{find-put_same}
use Rattle.disk_frame.specs.Segments.{IsSegmentFile}
use Rattle.disk_segment.specs.Names.{Kind, InProgress, Final, Record, UnderWay, Fresh, FreshRecord, name_of, kind_of, IsKind}
use Rattle.disk_segment.specs.Stands.{slot_of, NoneUnderWay, Holds, SlotStands}
use Rattle.disk_opening.specs.Opening.{IsRepaired, IsFirst}
use Rattle.disk_segment.specs.Rows.{find_row, put_row}
use Rattle.disk_segment.specs.declared.segment_row.SegmentRow.{SegmentRow}
use Rattle.disk_opening.specs.Opened.{IsFirstFinal, IsGoodFile, HoldsSegment, IsBadSegmentFile}
use Rattle.disk_segment.specs.RowsTell.{IsRowOf, AreRowsOf, IsStart, AreStarts}
use Rattle.disk_opening.specs.OpenSteps.{IsAcceptedAs, IsReadAs, IsSegmentName, IsNoSegment, IsNewRow, IsFault, IsRefused, AreRead}
use Rattle.disk_segment.proofs.FindLemmas.{find-put_other}
use Rattle.disk_segment.proofs.EffectLaws.{none_is_not}
use Rattle.disk_segment.proofs.HeldOnce.{none_some}
use Rattle.disk_opening.proofs.NameOrder.{nth_is, sorted_at, less_at, not_less_itself, not_less_both, final_less}
use Rattle.disk_opening.proofs.OpenFiles.{read_within}
use Rattle.disk_opening.proofs.OpenJudged.{same_named}
use Rattle.disk_opening.proofs.RecordOrNot.{record_unless}
use Rattle.disk_segment.proofs.RowsOf.{IsFoundRow, find_rows, put_rows}

-- the file of a segment that was read
pub record IsKept (seen : Files) (gs : List Segment) (start : ℕ) (kind : Kind) : Type 0 where
  pub segment : Segment
  pub row : SegmentRow
  pub found : find_segment start gs ≡ Some segment
  pub read : IsReadAs seen start kind segment row
  pub alone : IsFirstFinal seen start kind

-- such a file is among the first i names
pub record IsFrom (names : List (List ℕ)) (i start : ℕ) : Type 0 where
  pub place : ℕ
  pub before : place < i
  pub within : place < length names
  pub kind : Kind
  pub at : slice_index_or names place (name_of start kind) ≡ name_of start kind
  pub named : IsSegmentName (name_of start kind) start kind

-- the files of the first i names were read, and none of them is bad
pub record IsReadTo (seen : Files) (names : List (List ℕ)) (i : ℕ) (rows : List SegmentRow) : Type 0 where
  pub segments : List Segment
  pub sound : AreSound segments
  pub starts : AreStarts segments
  pub told : AreRowsOf seen segments rows
  pub each : (j : ℕ) (name : List ℕ) → j < i → j < length names → slice_index_or names j name ≡ name → (start : ℕ) (kind : Kind) → IsSegmentName name start kind → IsKept seen segments start kind
  pub from : (start : ℕ) (g : Segment) → find_segment start segments ≡ Some g → IsFrom names i start

find_none : (start : ℕ) (g : Segment) → find_segment start [] ≡ Some g → ⊥
unfolding find_segment
find_none start g is = absurd (cc)

none_told : (seen : Files) (o : Option Segment) (p : Option SegmentRow) → IsFoundRow seen o p → p ≡ None → o ≡ None
none_told seen None p found none = refl
none_told seen (Some g) None found none = absurd found
none_told seen (Some g) (Some row) found none = absurd (cc)

some_told : (seen : Files) (o : Option Segment) (p : Option SegmentRow) → IsFoundRow seen o p → IsSome p → (g : Segment) × (o ≡ Some g)
some_told seen (Some g) p found there = (g, refl)
some_told seen None (Some row) found there = absurd found
some_told seen None None found there = absurd (cc)

pub row_of_read : (seen : Files) (start : ℕ) (kind : Kind) (g : Segment) (row : SegmentRow) → IsReadAs seen start kind g row → IsRowOf seen g row
row_of_read seen start kind g row is = record {
  info = is.info;
  bytes = is.bytes;
  there = ap (λ (k : Kind). seen (name_of g.start k)) is.kind_is ∙ ap (λ (n : ℕ). seen (name_of n kind)) is.start_is ∙ is.there;
  edits = subst (λ (n : ℕ). IsSegmentFile is.bytes n g.epoch g.bodies row.whole_length) (sym is.start_is) is.edits;
}

good_of : (seen : Files) (gs : List Segment) (start : ℕ) (kind : Kind) → IsKept seen gs start kind → IsGoodFile seen start kind
good_of seen gs start kind kept = record {
  bytes = kept.read.bytes;
  there = kept.read.there;
  epoch = kept.segment.epoch;
  bodies = kept.segment.bodies;
  whole_length = kept.row.whole_length;
  edits = kept.read.edits;
  ends = kept.read.ends;
  alone = kept.alone;
}

pub begun : (seen : Files) (names : List (List ℕ)) → IsReadTo seen names 0 []
begun seen names = record {
  segments = [];
  sound = record { rising = tt; within = tt };
  starts = tt;
  told = tt;
  each = λ j name lt within at start kind is. absurd (omega (arith, lt));
  from = λ start g found. absurd (find_none start g found);
}

module _ (seen : Files) (names : List (List ℕ)) (lists : Lists names seen) (repaired : IsRepaired seen) where
  module _ (i : ℕ) (within : i < length names) (rows : List SegmentRow) (so_far : IsReadTo seen names i rows) (name : List ℕ) (at : slice_index_or names i name ≡ name) where
    from_more : (start : ℕ) → IsFrom names i start → IsFrom names (i + 1) start
    from_more start is = record { place = is.place; before = omega (arith, is.before); within = is.within; kind = is.kind; at = is.at; named = is.named }

    pub skipped : IsNoSegment name → IsReadTo seen names (i + 1) rows
    skipped none = record {
      segments = so_far.segments;
      sound = so_far.sound;
      starts = so_far.starts;
      told = so_far.told;
      each = λ j n lt inside at_j start kind is. elim (cases_eq j i) [
        | inl same ↦ absurd (none start kind (subst (λ (m : List ℕ). IsSegmentName m start kind) (nth_is names i n name within (subst (λ (k : ℕ). slice_index_or names k n ≡ n) same at_j) at) is))
        | inr ne ↦ so_far.each j n (omega (arith, lt, ne)) inside at_j start kind is
      ];
      from = λ start g found. from_more start (so_far.from start g found);
    }

    name_there : IsSome (seen name)
    name_there = lists.there name (i, within, at)

    pub first_bad : IsBadSegmentFile seen name → IsFirst (IsBadSegmentFile seen) name
    first_bad bad = record {
      here = bad;
      before = λ other less is.
          let place = lists.all other is.there in
          let earlier : place.0 < i = less_at names place.0 i other name lists.sorted place.1 within place.2 at less in
          is.bad (good_of seen so_far.segments is.start is.kind (so_far.each place.0 other earlier place.1 place.2 is.start is.kind record { holds = is.holds; named = is.named }));
    }

    module _ (start : ℕ) where
      -- no other final file of this start comes before
      alone : (kind : Kind) → IsSegmentName name start kind → find_segment start so_far.segments ≡ None → IsFirstFinal seen start kind
      alone (Final last) named none = λ other ok lt. by other ok lt (seen (name_of start (Final other))) refl
        where
          by : (other : ℕ) → IsKind start (Final other) → other < last → (file : Option (List ℕ)) → seen (name_of start (Final other)) ≡ file → seen (name_of start (Final other)) ≡ None
          by other ok lt None is = is
          by other ok lt (Some bytes) is =
              let place = lists.all (name_of start (Final other)) (subst IsSome (sym is) refl) in
              let less : slice_cmp nat_cmp (name_of start (Final other)) name ≡ Less =
              subst (λ (n : List ℕ). slice_cmp nat_cmp (name_of start (Final other)) n ≡ Less) (sym named.named.spelled) (final_less start other last lt named.named.valid.1) in
              let earlier : place.0 < i = less_at names place.0 i (name_of start (Final other)) name lists.sorted place.1 within place.2 at less in
              let kept = so_far.each place.0 (name_of start (Final other)) earlier place.1 place.2 start (Final other)
              record { holds = tt; named = record { first = named.named.first; small = named.named.small; valid = ok; spelled = refl } } in
              absurd (none_some (find_segment start so_far.segments) kept.segment none kept.found)
      alone InProgress named none = tt
      alone Record named none = tt
      alone (UnderWay epoch) named none = tt
      alone Fresh named none = tt
      alone FreshRecord named none = tt

      -- two files of one start aren't both good
      two_of_one : (kind other : Kind) → HoldsSegment kind → HoldsSegment other → 1 ≤ start → start ≤ 2 ^ 62 → IsKind start kind → IsKind start other
          → IsSome (seen (name_of start kind)) → IsSome (seen (name_of start other))
          → slice_cmp nat_cmp (name_of start other) (name_of start kind) ≡ Less → IsFirstFinal seen start kind → ⊥
      two_of_one InProgress InProgress h k first small ok ok_other there there_other less first_final = not_less_itself (name_of start InProgress) less
      two_of_one InProgress (Final last) h k first small ok ok_other there there_other less first_final =
          none_is_not (seen (name_of start InProgress)) (repaired.tidy.not_both start last first small ok_other there_other) there
      two_of_one (Final last) InProgress h k first small ok ok_other there there_other less first_final =
          none_is_not (seen (name_of start InProgress)) (repaired.tidy.not_both start last first small ok there) there_other
      two_of_one (Final m) (Final n) h k first small ok ok_other there there_other less first_final = elim (cases_lt n m) [
        | inl lt ↦ none_is_not (seen (name_of start (Final n))) (first_final n ok_other lt) there_other
        | inr le ↦ elim (cases_eq n m) [
          | inl same ↦ not_less_itself (name_of start (Final m)) (subst (λ (l : ℕ). slice_cmp nat_cmp (name_of start (Final l)) (name_of start (Final m)) ≡ Less) same less)
          | inr ne ↦ not_less_both (name_of start (Final n)) (name_of start (Final m)) less (final_less start m n (omega (arith, le, ne)) ok_other.1)
        ]
      ]
      two_of_one _ Record h k first small ok ok_other there there_other less first_final = absurd k
      two_of_one _ (UnderWay epoch) h k first small ok ok_other there there_other less first_final = absurd k
      two_of_one _ Fresh h k first small ok ok_other there there_other less first_final = absurd k
      two_of_one _ FreshRecord h k first small ok ok_other there there_other less first_final = absurd k
      two_of_one Record _ h k first small ok ok_other there there_other less first_final = absurd h
      two_of_one (UnderWay epoch) _ h k first small ok ok_other there there_other less first_final = absurd h
      two_of_one Fresh _ h k first small ok ok_other there there_other less first_final = absurd h
      two_of_one FreshRecord _ h k first small ok ok_other there there_other less first_final = absurd h

    pub refused : (bad : List ℕ) → IsRefused seen name rows bad → IsFirst (IsBadSegmentFile seen) bad
    refused bad is = by is.why
      where
        named_is : name ≡ name_of is.start is.kind
        named_is = is.named.named.spelled

        told_bad : (IsGoodFile seen is.start is.kind → ⊥) → bad ≡ name → IsFirst (IsBadSegmentFile seen) bad
        told_bad not_good same =
            subst (λ (n : List ℕ). IsFirst (IsBadSegmentFile seen) n) (sym same)
            (first_bad record { start = is.start; kind = is.kind; holds = is.named.holds; named = is.named.named; there = name_there; bad = not_good })

        second : IsSome (find_row is.start rows) → IsGoodFile seen is.start is.kind → ⊥
        second there good =
            let g = some_told seen (find_segment is.start so_far.segments) (find_row is.start rows) (find_rows seen is.start so_far.segments rows so_far.told) there in
            let from = so_far.from is.start g.0 g.1 in
            two_of_one is.start is.kind from.kind is.named.holds from.named.holds is.named.named.first is.named.named.small is.named.named.valid from.named.named.valid
            (subst (λ (n : List ℕ). IsSome (seen n)) named_is name_there)
            (lists.there (name_of is.start from.kind) (from.place, from.within, from.at))
            (subst (λ (n : List ℕ). slice_cmp nat_cmp (name_of is.start from.kind) n ≡ Less) named_is
            (sorted_at names from.place i (name_of is.start from.kind) name lists.sorted from.before within from.at at))
            good.alone

        by : IsFault seen is.start is.kind bad ⊎ ((bad ≡ name) × IsSome (find_row is.start rows)) → IsFirst (IsBadSegmentFile seen) bad
        by (inl (inl fault)) = told_bad fault.1 (fault.0 ∙ sym named_is)
        by (inl (inr fault)) = absurd (repaired.records (name_of is.start Record) record { start = is.start; first = is.named.named.first; small = is.named.named.small; named = refl; bad = fault.1 })
        by (inr fault) = told_bad (second fault.1) fault.0

    pub added : (row : SegmentRow) → IsNewRow seen name rows row → IsReadTo seen names (i + 1) (put_row row rows)
    added row is = record {
      segments = put_segment g so_far.segments;
      sound = put_sound g so_far.segments (read_within seen is.start is.kind g row is.read) so_far.sound;
      starts = put_all by_segments IsStart g so_far.segments (subst (λ (n : ℕ). (1 ≤ n) × (n ≤ 2 ^ 62)) (sym is.read.start_is) (is.named.named.first, is.named.named.small)) so_far.starts;
      told = put_rows seen g row (row_of_read seen is.start is.kind g row is.read) so_far.segments rows so_far.told;
      each = λ j n lt inside at_j start kind named. elim (cases_eq j i) [
        | inl same ↦ current start kind (subst (λ (m : List ℕ). IsSegmentName m start kind) (nth_is names i n name within (subst (λ (k : ℕ). slice_index_or names k n ≡ n) same at_j) at) named)
        | inr ne ↦ earlier start kind (so_far.each j n (omega (arith, lt, ne)) inside at_j start kind named)
      ];
      from = λ start h found. elim (cases_eq start g.start) [
        | inl same ↦ subst (λ (n : ℕ). IsFrom names (i + 1) n) (sym (same ∙ is.read.start_is)) here
        | inr ne ↦ from_more start (so_far.from start h (sym (find-put_other start g so_far.segments ne) ∙ found))
      ];
    }
      where
        g : Segment
        g = is.segment

        none : find_segment is.start so_far.segments ≡ None
        none = none_told seen (find_segment is.start so_far.segments) (find_row is.start rows) (find_rows seen is.start so_far.segments rows so_far.told) is.first

        here : IsFrom names (i + 1) is.start
        here = record {
          place = i;
          before = omega arith;
          within = within;
          kind = is.kind;
          at = subst (λ (n : List ℕ). slice_index_or names i n ≡ n) is.named.named.spelled at;
          named = subst (λ (n : List ℕ). IsSegmentName n is.start is.kind) is.named.named.spelled is.named;
        }

        kept_here : IsKept seen (put_segment g so_far.segments) is.start is.kind
        kept_here = record {
          segment = g;
          row = row;
          found = subst (λ (n : ℕ). find_segment n (put_segment g so_far.segments) ≡ Some g) is.read.start_is (find-put_same g so_far.segments);
          read = is.read;
          alone = alone is.start is.kind is.named none;
        }

        current : (start : ℕ) (kind : Kind) → IsSegmentName name start kind → IsKept seen (put_segment g so_far.segments) start kind
        current start kind named =
            let same = same_named name is.start start is.kind kind is.named.named named.named in
            subst (λ (k : Kind). IsKept seen (put_segment g so_far.segments) start k) same.1 (subst (λ (n : ℕ). IsKept seen (put_segment g so_far.segments) n is.kind) same.0 kept_here)

        earlier : (start : ℕ) (kind : Kind) → IsKept seen so_far.segments start kind → IsKept seen (put_segment g so_far.segments) start kind
        earlier start kind kept = record {
          segment = kept.segment;
          row = kept.row;
          found = find-put_other start g so_far.segments (λ same. none_some (find_segment is.start so_far.segments) kept.segment none
              (subst (λ (n : ℕ). find_segment n so_far.segments ≡ Some kept.segment) (same ∙ is.read.start_is) kept.found)) ∙ kept.found;
          read = kept.read;
          alone = kept.alone;
        }

  module _ (i : ℕ) (all : length names ≤ i) (rows : List SegmentRow) (so_far : IsReadTo seen names i rows) where
    kept_at : (name : List ℕ) (start : ℕ) (kind : Kind) → IsSegmentName name start kind → IsSome (seen name) → IsKept seen so_far.segments start kind
    kept_at name start kind named there = let place = lists.all name there in so_far.each place.0 name (omega (arith, place.1, all)) place.1 place.2 start kind named

    not_bad : (name : List ℕ) → IsBadSegmentFile seen name → ⊥
    not_bad name is = is.bad (good_of seen so_far.segments is.start is.kind (kept_at name is.start is.kind record { holds = is.holds; named = is.named } is.there))

    module _ (start : ℕ) (first : 1 ≤ start) (small : start ≤ 2 ^ 62) where
      kept : (kind : Kind) → HoldsSegment kind → IsKind start kind → IsSome (seen (name_of start kind)) → IsKept seen so_far.segments start kind
      kept kind holds ok there = kept_at (name_of start kind) start kind record { holds = holds; named = record { first = first; small = small; valid = ok; spelled = refl } } there

      -- a file that no segment comes from isn't there
      absent : (kind : Kind) → HoldsSegment kind → IsKind start kind → (IsKept seen so_far.segments start kind → ⊥) → seen (name_of start kind) ≡ None
      absent kind holds ok none = by (seen (name_of start kind)) refl
        where
          by : (file : Option (List ℕ)) → seen (name_of start kind) ≡ file → seen (name_of start kind) ≡ None
          by None is = is
          by (Some bytes) is = absurd (none (kept kind holds ok (subst IsSome (sym is) refl)))

      none_under_way : NoneUnderWay start (slot_of seen start)
      none_under_way = record { none = λ epoch ok counts. repaired.tidy.none_under_way start epoch first small ok }

      nothing : find_segment start so_far.segments ≡ None → Holds start (slot_of seen start) None
      nothing none = record {
        none_final = record { none = λ last ok. absent (Final last) tt ok (λ is. none_some (find_segment start so_far.segments) is.segment none is.found) };
        counts = record { none = none_under_way; there = absent InProgress tt tt (λ is. none_some (find_segment start so_far.segments) is.segment none is.found) };
      }

      module _ (g : Segment) (found : find_segment start so_far.segments ≡ Some g) where
        kind_at : (kind : Kind) → IsKept seen so_far.segments start kind → kind_of (end_of g) g.is_final ≡ kind
        kind_at kind is = subst (λ (h : Segment). kind_of (end_of h) h.is_final ≡ kind) (same_Some is.segment g (sym is.found ∙ found)) is.read.kind_is

        -- the file of its kind holds it
        own : (kind : Kind) (row : SegmentRow) → IsKind start kind → HoldsSegment kind → IsReadAs seen start kind g row → Holds start (slot_of seen start) (Some g)
        own InProgress row ok holds is = inr record {
          start_is = is.start_is;
          final = open_;
          none_final = record { none = λ last ok_last. absent (Final last) tt ok_last (λ other. let p = sym is.kind_is ∙ kind_at (Final last) other in absurd (cc)) };
          file = seen (name_of start InProgress);
          counts = inr record { none = none_under_way; there = refl };
          content = record { bytes = is.bytes; there = is.there; whole_length = row.whole_length; edits = is.edits };
          accepted = subst (λ (b : Bool). IsAcceptedAs b (seen (name_of start Record)) g.epoch g.accepted) open_ is.accepted;
        }
          where
            open_ : g.is_final ≡ false
            open_ = by g.is_final refl
              where
                by : (b : Bool) → g.is_final ≡ b → g.is_final ≡ false
                by false same = same
                by true same = let p = ap (λ (b : Bool). kind_of (end_of g) b) (sym same) ∙ is.kind_is in absurd (cc)
        own (Final last) row ok holds is = inl record {
          start_is = is.start_is;
          final = closed;
          accepted = subst (λ (b : Bool). IsAcceptedAs b (seen (name_of start Record)) g.epoch g.accepted) closed is.accepted;
          last = last;
          valid = ok;
          ends = is.ends;
          content = record { bytes = is.bytes; there = is.there; whole_length = row.whole_length; edits = is.edits };
          alone = λ other ok_other ne. absent (Final other) tt ok_other (λ also. let p = sym (kind_at (Final other) also) ∙ is.kind_is in ne (cc));
        }
          where
            closed : g.is_final ≡ true
            closed = by g.is_final refl
              where
                by : (b : Bool) → g.is_final ≡ b → g.is_final ≡ true
                by true same = same
                by false same = let p = ap (λ (b : Bool). kind_of (end_of g) b) (sym same) ∙ is.kind_is in absurd (cc)
        own Record row ok holds is = absurd holds
        own (UnderWay epoch) row ok holds is = absurd holds
        own Fresh row ok holds is = absurd holds
        own FreshRecord row ok holds is = absurd holds

        something : Holds start (slot_of seen start) (Some g)
        something =
            let from = so_far.from start g found in
            let is = so_far.each from.place (name_of start from.kind) (omega (arith, from.within, all)) from.within from.at start from.kind from.named in
            own from.kind is.row from.named.named.valid from.named.holds (subst (λ (h : Segment). IsReadAs seen start from.kind h is.row) (same_Some is.segment g (sym is.found ∙ found)) is.read)

      holds_at : (held : Option Segment) → find_segment start so_far.segments ≡ held → Holds start (slot_of seen start) held
      holds_at None is = nothing is
      holds_at (Some g) is = something g is

      stands_at : SlotStands start (slot_of seen start) (find_segment start so_far.segments)
      stands_at = record {
        record_ = record_unless (seen (name_of start Record)) (λ bad. repaired.records (name_of start Record) record { start = start; first = first; small = small; named = refl; bad = bad });
        holds = holds_at (find_segment start so_far.segments) refl;
      }

    pub all_read : AreRead seen rows
    all_read = record {
      segments = so_far.segments;
      sound = so_far.sound;
      starts = so_far.starts;
      stands = record { slots = λ start first small. stands_at start first small };
      told = so_far.told;
      good = not_bad;
    }
