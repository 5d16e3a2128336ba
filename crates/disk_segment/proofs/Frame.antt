-- What stays of a set of files where others change.
use Rattle.std.proofs.Common.{inl, inr, ◌⊎◌, ◌≡◌, ◌≢◌, ℕ, List, sym, ◌∙◌, subst, arith, ◌^◌, ◌≤◌, Bool}
use Rattle.std.specs.Prelude.{Option, Some, None}
use Rattle.std.proofs.lemmas.Bool.{cases_eq}
use Rattle.base_disk.specs.Files.{Files}
use Rattle.journal_core.specs.declared.segment.Segment.{Segment}
use Rattle.journal_core.specs.Segments.{find_segment}
use Rattle.disk_segment.specs.Names.{Kind, InProgress, Final, Record, UnderWay, Fresh, name_of, IsKind, IsLasting}
use Rattle.disk_segment.specs.Stands.{Slot, slot_of, HasEpoch, IsRecordFile, IsAccepted, HoldsEdits, NoFinal, NoneUnderWay, CountsUnderWay}
use Rattle.disk_segment.specs.Stands.{CountsPlain, IsFinalOf, IsProgressOf, Holds, SlotStands, StandsFor}
use Rattle.disk_segment.proofs.NamesLemmas.{same_start, same_kind}

pub accepted_same : (x y : Option (List ℕ)) (epoch : ℕ) (b : Bool) → y ≡ x → IsAccepted x epoch b → IsAccepted y epoch b
accepted_same x y epoch b same is = subst (λ (f : Option (List ℕ)). IsAccepted f epoch b) (sym same) is

pub epoch_same : (x y : Option (List ℕ)) (epoch : ℕ) → y ≡ x → HasEpoch x epoch → HasEpoch y epoch
epoch_same x y epoch same is = subst (λ (f : Option (List ℕ)). HasEpoch f epoch) (sym same) is

pub edits_same : (start : ℕ) (x y : Option (List ℕ)) (g : Segment) → y ≡ x → HoldsEdits start x g → HoldsEdits start y g
edits_same start x y g same is = subst (λ (f : Option (List ℕ)). HoldsEdits start f g) (sym same) is

-- files of one start that agree
module _ (start : ℕ) (s t : Slot) where
  pub no_final_same : ((last : ℕ) → IsKind start (Final last) → t (Final last) ≡ s (Final last)) → NoFinal start s → NoFinal start t
  no_final_same same is = record { none = λ last ok. same last ok ∙ is.none last ok }

  pub none_under_way_same : t Record ≡ s Record → ((epoch : ℕ) → IsKind start (UnderWay epoch) → t (UnderWay epoch) ≡ s (UnderWay epoch)) → NoneUnderWay start s → NoneUnderWay start t
  none_under_way_same record_ same is = record { none = λ epoch ok counts. same epoch ok ∙ is.none epoch ok (epoch_same (t Record) (s Record) epoch (sym record_) counts) }

  pub final_same : ((last : ℕ) → IsKind start (Final last) → t (Final last) ≡ s (Final last)) → (g : Segment) → IsFinalOf start s g → IsFinalOf start t g
  final_same same g is = record {
    start_is = is.start_is;
    final = is.final;
    accepted = is.accepted;
    last = is.last;
    valid = is.valid;
    ends = is.ends;
    content = edits_same start (s (Final is.last)) (t (Final is.last)) g (same is.last is.valid) is.content;
    alone = λ other ok ne. same other ok ∙ is.alone other ok ne;
  }

  module _ (same : (k : Kind) → IsKind start k → IsLasting k → t k ≡ s k) where
    counts_same : (file : Option (List ℕ)) → CountsUnderWay start s file ⊎ CountsPlain start s file → CountsUnderWay start t file ⊎ CountsPlain start t file
    counts_same file (inl is) = inl record {
      epoch = is.epoch;
      valid = is.valid;
      counts = epoch_same (s Record) (t Record) is.epoch (same Record tt tt) is.counts;
      there = same (UnderWay is.epoch) is.valid tt ∙ is.there;
    }
    counts_same file (inr is) = inr record { none = none_under_way_same (same Record tt tt) (λ e ok. same (UnderWay e) ok tt) is.none; there = same InProgress tt tt ∙ is.there }

    progress_same : (g : Segment) → IsProgressOf start s g → IsProgressOf start t g
    progress_same g is = record {
      start_is = is.start_is;
      final = is.final;
      none_final = no_final_same (λ last ok. same (Final last) ok tt) is.none_final;
      file = is.file;
      counts = counts_same is.file is.counts;
      content = is.content;
      accepted = accepted_same (s Record) (t Record) g.epoch g.accepted (same Record tt tt) is.accepted;
    }

    holds_same : (held : Option Segment) → Holds start s held → Holds start t held
    holds_same None is = record {
      none_final = no_final_same (λ last ok. same (Final last) ok tt) is.none_final;
      counts = record { none = none_under_way_same (same Record tt tt) (λ e ok. same (UnderWay e) ok tt) is.counts.none; there = same InProgress tt tt ∙ is.counts.there };
    }
    holds_same (Some g) (inl is) = inl (final_same (λ last ok. same (Final last) ok tt) g is)
    holds_same (Some g) (inr is) = inr (progress_same g is)

    pub slot_same : (held : Option Segment) → SlotStands start s held → SlotStands start t held
    slot_same held is = record { record_ = subst IsRecordFile (sym (same Record tt tt)) is.record_; holds = holds_same held is.holds }

-- The frame: where the files of other starts stay, only the files of this one are to be shown.
pub stands_by : (start : ℕ) (d c : Files) (gs hs : List Segment) → StandsFor d gs
    → ((other : ℕ) (k : Kind) → other ≢ start → other ≤ 2 ^ 62 → IsKind other k → IsLasting k → c (name_of other k) ≡ d (name_of other k))
    → ((other : ℕ) → other ≢ start → find_segment other hs ≡ find_segment other gs)
    → (1 ≤ start → SlotStands start (slot_of c start) (find_segment start hs)) → StandsFor c hs
stands_by start d c gs hs stands same others here = record {
  slots = λ other first most. elim (cases_eq other start) [
    | inl is ↦ subst (λ (M : ℕ). SlotStands M (slot_of c M) (find_segment M hs)) (sym is) (here (omega (arith, first, is)))
    | inr ne ↦ subst (λ (held : Option Segment). SlotStands other (slot_of c other) held) (sym (others other ne))
        (slot_same other (slot_of d other) (slot_of c other) (λ k ok lasts. same other k ne most ok lasts) (find_segment other gs) (stands.slots other first most))
  ];
}

-- no file of a segment changes
pub stands_same : (d c : Files) (gs : List Segment) → ((start : ℕ) (k : Kind) → 1 ≤ start → start ≤ 2 ^ 62 → IsKind start k → IsLasting k
    → c (name_of start k) ≡ d (name_of start k)) → StandsFor d gs → StandsFor c gs
stands_same d c gs same stands = record {
  slots = λ start first most. slot_same start (slot_of d start) (slot_of c start) (λ k ok lasts. same start k first most ok lasts) (find_segment start gs) (stands.slots start first most);
}

-- other files stay where one or two of a start change
pub apart : (start other : ℕ) (j k : Kind) → start ≤ 2 ^ 62 → other ≤ 2 ^ 62 → other ≢ start → name_of other k ≢ name_of start j
apart start other j k small small_other ne = λ same. ne (same_start other start k j small_other small same)

pub kinds_apart : (start : ℕ) (j k : Kind) → IsKind start j → IsKind start k → k ≢ j → name_of start k ≢ name_of start j
kinds_apart start j k ok_j ok_k ne = λ same. ne (same_kind start k j ok_k ok_j same)

pub fresh_apart : (start : ℕ) → name_of start Fresh ≢ name_of start InProgress
fresh_apart start = kinds_apart start InProgress Fresh tt tt (λ is. absurd (cc))
