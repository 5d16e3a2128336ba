-- An acceptance on the files of one start: its content is written beside the file in progress, its
-- record makes it count, and it takes the place of that file.
use Rattle.std.proofs.Common.{inl, inr, ◌⊎◌, ◌≡◌, ◌≢◌, ℕ, List, ◌++◌, ap, sym, ◌∙◌, refl, subst, ◌^◌, ◌≤◌, Bool, true, false, append_assoc}
use Rattle.std.specs.Prelude.{Option, Some, None, Result, codes}
use Rattle.std.proofs.lemmas.Bool.{cases_eq}
use Rattle.std.proofs.lemmas.List.{append-nil}
use Rattle.base_words.specs.Padded.{padded}
use Rattle.base_disk.specs.Files.{Files, Moves}
use Rattle.base_disk.specs.View.{View}
use Rattle.base_disk.specs.Calls.{Effect}
use Rattle.base_disk.specs.declared.disk.DiskFail.{DiskFail}
use Rattle.base_files.specs.Puts.{Disturbs, Puts, PutCut, temporary}
use Rattle.base_files.specs.Records.{IsRecord, record_bytes, paxos_name}
use Rattle.journal_core.specs.declared.segment.Segment.{Segment}
use Rattle.journal_core.specs.Segments.{find_segment, put_segment}
use Rattle.journal_core.proofs.SegmentLists.{find-put_same}
use Rattle.disk_segment.proofs.FindLemmas.{find-put_other}
use Rattle.disk_frame.specs.Segments.{IsSegmentFile}
use Rattle.disk_segment.specs.Names.{Kind, InProgress, Final, Record, UnderWay, FreshRecord, name_of, IsKind, IsLasting}
use Rattle.disk_segment.specs.Stands.{Slot, slot_of, HasEpoch, IsRecordFile, IsAccepted, NoFinal, NoneUnderWay, CountsUnderWay, CountsPlain, Holds, SlotStands, StandsFor}
use Rattle.disk_segment.proofs.Frame.{stands_by, apart, kinds_apart, no_final_same, accepted_same, epoch_same, final_same}
use Rattle.disk_segment.proofs.OneEpoch.{one_epoch}

-- the content is written under the name of an epoch that the record hasn't
module _ (start epoch : ℕ) (valid : IsKind start (UnderWay epoch)) where
  -- the files of the start, but for this one
  module _ (s t : Slot) (same : (k : Kind) → IsKind start k → IsLasting k → k ≢ UnderWay epoch → t k ≡ s k) (other : HasEpoch (s Record) epoch → ⊥) where
    same_record : t Record ≡ s Record
    same_record = same Record tt tt (λ is. absurd (cc))

    same_way : (e : ℕ) → IsKind start (UnderWay e) → HasEpoch (s Record) e → t (UnderWay e) ≡ s (UnderWay e)
    same_way e ok has = same (UnderWay e) ok tt (λ is. other (subst (λ (n : ℕ). HasEpoch (s Record) n) (let p : e ≡ epoch = cc in p) has))

    none_same : NoneUnderWay start s → NoneUnderWay start t
    none_same is = record { none = λ e ok has. let had = epoch_same (t Record) (s Record) e (sym same_record) has in same_way e ok had ∙ is.none e ok had }

    final_none_same : NoFinal start s → NoFinal start t
    final_none_same is = no_final_same start s t (λ last ok. same (Final last) ok tt (λ is_way. absurd (cc))) is

    counts_same : (file : Option (List ℕ)) → CountsUnderWay start s file ⊎ CountsPlain start s file → CountsUnderWay start t file ⊎ CountsPlain start t file
    counts_same file (inl is) = inl record {
      epoch = is.epoch;
      valid = is.valid;
      counts = epoch_same (s Record) (t Record) is.epoch same_record is.counts;
      there = same_way is.epoch is.valid is.counts ∙ is.there;
    }
    counts_same file (inr is) = inr record { none = none_same is.none; there = same InProgress tt tt (λ is_way. absurd (cc)) ∙ is.there }

    holds_same : (held : Option Segment) → Holds start s held → Holds start t held
    holds_same None is = record {
      none_final = final_none_same is.none_final;
      counts = record { none = none_same is.counts.none; there = same InProgress tt tt (λ is_way. absurd (cc)) ∙ is.counts.there };
    }
    holds_same (Some g) (inl is) = inl (final_same start s t (λ last ok. same (Final last) ok tt (λ is_way. absurd (cc))) g is)
    holds_same (Some g) (inr is) = inr record {
      start_is = is.start_is;
      final = is.final;
      none_final = final_none_same is.none_final;
      file = is.file;
      counts = counts_same is.file is.counts;
      content = is.content;
      accepted = accepted_same (s Record) (t Record) g.epoch g.accepted same_record is.accepted;
    }

    pub way_slot : (held : Option Segment) → SlotStands start s held → SlotStands start t held
    way_slot held is = record { record_ = subst IsRecordFile (sym same_record) is.record_; holds = holds_same held is.holds }

  pub way_stands : (d c : Files) (gs : List Segment) → start ≤ 2 ^ 62 → ((m : List ℕ) → m ≢ name_of start (UnderWay epoch) → c m ≡ d m)
      → (HasEpoch (d (name_of start Record)) epoch → ⊥) → StandsFor d gs → StandsFor c gs
  way_stands d c gs small others lacks stands = stands_by start d c gs gs stands
      (λ other k ne small_other ok lasts. others (name_of other k) (apart start other (UnderWay epoch) k small small_other ne))
      (λ other ne. refl)
      (λ first. way_slot (slot_of d start) (slot_of c start) (λ k ok lasts ne.
      others (name_of start k) (kinds_apart start (UnderWay epoch) k valid ok ne)) lacks (find_segment start gs) (stands.slots start first small))

-- the record of this epoch is put where the content stands
module _ (start epoch : ℕ) (valid : IsKind start (UnderWay epoch)) (first : 1 ≤ start) (small : start ≤ 2 ^ 62) (d : Files) (gs : List Segment) (stands : StandsFor d gs) where
  module _ (c : Files) (end : ℕ) (bytes : List ℕ) (is_record : IsRecord (record_bytes (record { epoch = epoch; end = end })) (record { epoch = epoch; end = end }))
      (puts : Puts (name_of start Record) (name_of start FreshRecord) (record_bytes (record { epoch = epoch; end = end })) d c) where
    same_there : (k : Kind) → IsKind start k → IsLasting k → k ≢ Record → c (name_of start k) ≡ d (name_of start k)
    same_there k ok lasts ne = puts.others (name_of start k) (kinds_apart start Record k tt ok ne) (kinds_apart start FreshRecord k tt ok (λ is. subst IsLasting is lasts))

    has_epoch : HasEpoch (c (name_of start Record)) epoch
    has_epoch = record { end = end; bytes = _; there = puts.here; spelled = is_record }

    pub record_stands : (g : Segment) (whole : ℕ) → g.start ≡ start → g.epoch ≡ epoch → g.is_final ≡ false → g.accepted ≡ true
        → NoFinal start (slot_of d start) → d (name_of start (UnderWay epoch)) ≡ Some bytes
        → IsSegmentFile bytes start epoch g.bodies whole → StandsFor c (put_segment g gs)
    record_stands g whole start_is epoch_is open_ accepted none_final there edits = stands_by start d c gs (put_segment g gs) stands
        (λ other k ne small_other ok lasts. puts.others (name_of other k) (apart start other Record k small small_other ne) (apart start other FreshRecord k small small_other ne))
        (λ other ne. find-put_other other g gs (λ same. ne (same ∙ start_is)))
        (λ first_again. subst (λ (held : Option Segment). SlotStands start (slot_of c start) held)
        (sym (subst (λ (m : ℕ). find_segment m (put_segment g gs) ≡ Some g) start_is (find-put_same g gs))) record {
          record_ = inr (epoch, has_epoch);
          holds = inr record {
            start_is = start_is;
            final = open_;
            none_final = no_final_same start (slot_of d start) (slot_of c start) (λ last ok. same_there (Final last) ok tt (λ is. absurd (cc))) none_final;
            file = Some bytes;
            counts = inl record { epoch = epoch; valid = valid; counts = has_epoch; there = same_there (UnderWay epoch) valid tt (λ is. absurd (cc)) ∙ there };
            content = record { bytes = bytes; there = refl; whole_length = whole; edits = subst (λ (e : ℕ). IsSegmentFile bytes start e g.bodies whole) (sym epoch_is) edits };
            accepted = subst (λ (b : Bool). IsAccepted (c (name_of start Record)) g.epoch b) (sym accepted) (subst (λ (e : ℕ). HasEpoch (c (name_of start Record)) e) (sym epoch_is) has_epoch);
          };
        })

-- the content that counts takes the place of the file in progress
module _ (start epoch : ℕ) (valid : IsKind start (UnderWay epoch)) (small : start ≤ 2 ^ 62) (d c : Files) (gs : List Segment)
    (stands : StandsFor d gs) (moves : Moves (name_of start (UnderWay epoch)) (name_of start InProgress) d c)
    (counts : HasEpoch (d (name_of start Record)) epoch) (bytes : List ℕ) (there : d (name_of start (UnderWay epoch)) ≡ Some bytes) where
  same_settled : (k : Kind) → IsKind start k → k ≢ UnderWay epoch → k ≢ InProgress → c (name_of start k) ≡ d (name_of start k)
  same_settled k ok ne_way ne_progress = moves.others (name_of start k) (kinds_apart start (UnderWay epoch) k valid ok ne_way) (kinds_apart start InProgress k tt ok ne_progress)

  record_same : c (name_of start Record) ≡ d (name_of start Record)
  record_same = same_settled Record tt (λ same. absurd (cc)) (λ same. absurd (cc))

  -- a record has one epoch, and its content has moved
  no_way : NoneUnderWay start (slot_of c start)
  no_way = record {
    none = λ e ok has. subst (λ (n : ℕ). c (name_of start (UnderWay n)) ≡ None)
        (sym (one_epoch (d (name_of start Record)) e epoch (epoch_same (c (name_of start Record)) (d (name_of start Record)) e (sym record_same) has)
        counts))
        (moves.gone (kinds_apart start InProgress (UnderWay epoch) tt valid (λ same. absurd (cc))));
  }

  -- the content that counts is the one that moved, since a record has one epoch
  plain_counts : (file : Option (List ℕ)) → CountsUnderWay start (slot_of d start) file ⊎ CountsPlain start (slot_of d start) file → CountsPlain start (slot_of c start) file
  plain_counts file (inl is) = record {
    none = no_way;
    there = moves.moved ∙ elim (cases_eq is.epoch epoch) [
      | inl same ↦ subst (λ (n : ℕ). d (name_of start (UnderWay n)) ≡ file) same is.there
      | inr ne ↦ there ∙ absurd (no_two is.epoch ne is.counts)
    ];
  }
    where
      no_two : (e : ℕ) → e ≢ epoch → HasEpoch (d (name_of start Record)) e → ⊥
      no_two e ne has = ne (one_epoch (d (name_of start Record)) e epoch has counts)
  plain_counts file (inr is) = let p = sym (is.none.none epoch valid counts) ∙ there in absurd (cc)

  settled_holds : (held : Option Segment) → Holds start (slot_of d start) held → Holds start (slot_of c start) held
  settled_holds None is = let p = sym (is.counts.none.none epoch valid counts) ∙ there in absurd (cc)
  settled_holds (Some g) (inl is) = inl (final_same start (slot_of d start) (slot_of c start) (λ last ok. same_settled (Final last) ok (λ same. absurd (cc)) (λ same. absurd (cc))) g is)
  settled_holds (Some g) (inr is) = inr record {
    start_is = is.start_is;
    final = is.final;
    none_final = no_final_same start (slot_of d start) (slot_of c start) (λ last ok. same_settled (Final last) ok (λ same. absurd (cc)) (λ same. absurd (cc))) is.none_final;
    file = is.file;
    counts = inr (plain_counts is.file is.counts);
    content = is.content;
    accepted = accepted_same (d (name_of start Record)) (c (name_of start Record)) g.epoch g.accepted (same_settled Record tt (λ same. absurd (cc)) (λ same. absurd (cc))) is.accepted;
  }

  pub settled_stands : StandsFor c gs
  settled_stands = stands_by start d c gs gs stands
      (λ other k ne small_other ok lasts. moves.others (name_of other k) (apart start other (UnderWay epoch) k small small_other ne) (apart start other InProgress k small small_other ne))
      (λ other ne. refl)
      (λ first. let was = stands.slots start first small in record {
        record_ = subst IsRecordFile (sym (same_settled Record tt (λ same. absurd (cc)) (λ same. absurd (cc)))) was.record_;
        holds = settled_holds (find_segment start gs) was.holds;
      })

-- the names of a record
pub record_name : (start : ℕ) → name_of start Record ≡ paxos_name start
unfolding name_of
record_name start = ap (λ (l : List ℕ). codes "paxos/" ++ l) (append-nil (padded 19 start))

pub fresh_record_name : (start : ℕ) → name_of start FreshRecord ≡ temporary (paxos_name start)
unfolding name_of
fresh_record_name start = sym (append_assoc (codes "paxos/") (padded 19 start) (codes ".tmp"))

pub record_absent : (start told : ℕ) (v : View) → told ≡ start → v.seen (name_of start FreshRecord) ≡ None → v.seen (temporary (paxos_name told)) ≡ None
record_absent start told v is none = subst (λ (n : ℕ). v.seen (temporary (paxos_name n)) ≡ None) (sym is) (subst (λ (m : List ℕ). v.seen m ≡ None) (fresh_record_name start) none)

pub record_effect : (start told end told_end epoch : ℕ) {T E : Type 0} (inner outer : Result T E) (v0 v1 : View) → told ≡ start → told_end ≡ end → outer ≡ inner
    → Effect (Disturbs (temporary (paxos_name told))) (Puts (paxos_name told) (temporary (paxos_name told)) (record_bytes (record { epoch = epoch; end = told_end }))) inner v0 v1
    → Effect (Disturbs (name_of start FreshRecord)) (Puts (name_of start Record) (name_of start FreshRecord) (record_bytes (record { epoch = epoch; end = end }))) outer v0 v1
record_effect start told end told_end epoch {T} {E} inner outer v0 v1 start_is end_is same effect =
    let at_start : Effect (Disturbs (temporary (paxos_name start))) (Puts (paxos_name start) (temporary (paxos_name start)) (record_bytes (record { epoch = epoch; end = end }))) inner v0 v1 =
    subst (λ (n : ℕ). Effect (Disturbs (temporary (paxos_name n))) (Puts (paxos_name n) (temporary (paxos_name n)) (record_bytes (record { epoch = epoch; end = end }))) inner v0 v1) start_is
    (subst (λ (n : ℕ). Effect (Disturbs (temporary (paxos_name told)))
    (Puts (paxos_name told) (temporary (paxos_name told)) (record_bytes (record { epoch = epoch; end = n }))) inner v0 v1) end_is effect) in
    let named : Effect (Disturbs (name_of start FreshRecord)) (Puts (name_of start Record) (name_of start FreshRecord) (record_bytes (record { epoch = epoch; end = end }))) inner v0 v1 =
    subst (λ (m : List ℕ). Effect (Disturbs m) (Puts (name_of start Record) m (record_bytes (record { epoch = epoch; end = end }))) inner v0 v1) (sym (fresh_record_name start))
    (subst (λ (m : List ℕ). Effect (Disturbs (temporary (paxos_name start)))
    (Puts m (temporary (paxos_name start)) (record_bytes (record { epoch = epoch; end = end }))) inner v0 v1) (sym (record_name start)) at_start)
    in
    subst (λ (r : Result T E). Effect (Disturbs (name_of start FreshRecord))
    (Puts (name_of start Record) (name_of start FreshRecord) (record_bytes (record { epoch = epoch; end = end }))) r v0 v1) (sym same) named

pub record_cut : (start told : ℕ) {T : Type 0} (inner outer : Result T DiskFail) (before now : Option ℕ) (tells : Type 0) (v0 v1 : View) → told ≡ start → outer ≡ inner
    → PutCut before now tells (temporary (paxos_name told)) inner v0 v1 → PutCut before now tells (name_of start FreshRecord) outer v0 v1
record_cut start told {T} inner outer before now tells v0 v1 start_is same cut =
    subst (λ (r : Result T DiskFail). PutCut before now tells (name_of start FreshRecord) r v0 v1) (sym same)
    (subst (λ (m : List ℕ). PutCut before now tells m inner v0 v1) (sym (fresh_record_name start)) (subst (λ (n : ℕ). PutCut before now tells (temporary (paxos_name n)) inner v0 v1) start_is cut))
