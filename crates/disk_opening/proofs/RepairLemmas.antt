-- Each change of files that the repair makes leaves the segments as they are.
use Rattle.std.proofs.Common.{inl, inr, ⊎_elim, ◌⊎◌, ◌≡◌, ◌≢◌, ℕ, ◌≤◌, ◌^◌, List, ap, sym, ◌∙◌, refl, subst, Bool, true, false}
use Rattle.std.specs.Prelude.{Option, Some, None, IsSome, Contains}
use Rattle.std.specs.Str.{bytes_eq}
use Rattle.std.proofs.lemmas.Bool.{true≢false}
use Rattle.std.proofs.lemmas.Slice.Eq.{bytes_eq-Decides}
use Rattle.base_disk.specs.Files.{Files, ChangesOnly, IsGone, Moves}
use Rattle.journal_core.specs.declared.segment.Segment.{Segment}
use Rattle.journal_core.specs.Segments.{find_segment}
use Rattle.disk_segment.specs.Names.{Kind, InProgress, Final, Record, UnderWay, Fresh, FreshRecord, name_of, IsKind, IsLasting}
use Rattle.disk_opening.specs.Kinds.{IsNamed}
use Rattle.disk_segment.specs.Stands.{slot_of, HasEpoch, IsRecordFile, Holds, StandsFor}
use Rattle.disk_opening.specs.Opening.{IsTemporary, IsOther, Repairs}
use Rattle.disk_opening.specs.Completing.{HasFinal, IsContent, BecomesFile, BecomesContent, Spares, Cleans, IsLeftKind, IsLeftOver}
use Rattle.disk_segment.proofs.Frame.{stands_by, stands_same, apart, kinds_apart, final_same}
use Rattle.disk_segment.proofs.NamesLemmas.{same_start, same_kind}
use Rattle.disk_segment.proofs.AcceptLemmas.{way_stands, settled_stands}
use Rattle.disk_opening.proofs.OpenLemmas.{beside_final_stands}
use Rattle.disk_opening.proofs.TemporaryLemmas.{not_temporary, not_fresh, tmp_temporary}
use Rattle.disk_segment.proofs.EffectLaws.{none_is_not}
use Rattle.disk_segment.proofs.OneEpoch.{one_epoch}

pub names_cases : (xs ys : List ℕ) → (xs ≡ ys) ⊎ (xs ≢ ys)
names_cases xs ys = by (bytes_eq xs ys) refl
  where
    by : (b : Bool) → bytes_eq xs ys ≡ b → (xs ≡ ys) ⊎ (xs ≢ ys)
    by true is = inl ((bytes_eq-Decides xs ys).0 is)
    by false is = inr (λ same. true≢false (sym ((bytes_eq-Decides xs ys).1 same) ∙ is))

repairs_then : (a b c : Files) → Repairs a b → Repairs b c → Repairs a c
repairs_then a b c one two = record {
  segments = λ gs stands. two.segments gs (one.segments gs stands);
  others = λ name other lasts. two.others name other lasts ∙ one.others name other lasts;
}

-- a final file stays one
final_before : (a b : Files) → Spares a b → (start : ℕ) → HasFinal start b → HasFinal start a
final_before a b spares start has = record {
  name = has.name;
  is = has.is;
  there = subst IsSome (subst (λ (n : List ℕ). b n ≡ a n) (sym has.is.named.spelled)
      (spares.finals start has.is.last has.is.named.first has.is.named.small has.is.named.valid)) has.there;
}

none_is_some : (P : Type 0) (file : Option (List ℕ)) → file ≡ None → IsSome file → P
none_is_some P None is some = absurd (cc)
none_is_some P (Some bytes) is some = absurd (cc)

way_before : (a b : Files) → Spares a b → (start epoch : ℕ) → 1 ≤ start → start ≤ 2 ^ 62 → IsKind start (UnderWay epoch)
    → IsSome (b (name_of start (UnderWay epoch))) → b (name_of start (UnderWay epoch)) ≡ a (name_of start (UnderWay epoch))
way_before a b spares start epoch first small ok there = ⊎_elim (λ same. same)
    (λ none. none_is_some (b (name_of start (UnderWay epoch)) ≡ a (name_of start (UnderWay epoch))) (b (name_of start (UnderWay epoch))) none there)
    (spares.ways start epoch first small ok)

becomes_then : (a b : Files) (start : ℕ) (file : Option (List ℕ)) → 1 ≤ start → start ≤ 2 ^ 62 → Spares a b
    → BecomesFile start a (b (name_of start InProgress)) → BecomesFile start b file → BecomesFile start a file
becomes_then a b start file first small spares one (inl same) = subst (BecomesFile start a) (sym same) one
becomes_then a b start file first small spares one (inr (inl content)) =
    let same = way_before a b spares start content.epoch first small content.valid content.there in
    inr (inl record {
      epoch = content.epoch;
      valid = content.valid;
      counts = subst (λ (f : Option (List ℕ)). HasEpoch f content.epoch) (spares.records start first small) content.counts;
      there = subst IsSome same content.there;
      is = content.is ∙ same;
    })
becomes_then a b start file first small spares one (inr (inr gone)) = inr (inr (final_before a b spares start gone.0, gone.1))

content_then : (a b c : Files) (start epoch : ℕ) → 1 ≤ start → start ≤ 2 ^ 62 → IsKind start (UnderWay epoch)
    → HasEpoch (a (name_of start Record)) epoch → IsSome (a (name_of start (UnderWay epoch))) → Spares a b → Spares b c
    → BecomesContent start epoch a b → BecomesContent start epoch a c
content_then a b c start epoch first small ok counts there one two (inl same) = by
    (two.content start epoch first small ok (subst (λ (f : Option (List ℕ)). HasEpoch f epoch) (sym (one.records start first small)) counts) (subst IsSome (sym same) there))
  where
    by : BecomesContent start epoch b c → BecomesContent start epoch a c
    by (inl stays) = inl (stays ∙ same)
    by (inr (inl put)) = inr (inl (put ∙ same))
    by (inr (inr final)) = inr (inr (final_before a b one start final))
content_then a b c start epoch first small ok counts there one two (inr (inl put)) = by (two.progress start first small)
  where
    by : BecomesFile start b (c (name_of start InProgress)) → BecomesContent start epoch a c
    by (inl stays) = inr (inl (stays ∙ put))
    by (inr (inl content)) =
        let same_epoch : content.epoch ≡ epoch = one_epoch (a (name_of start Record)) content.epoch epoch
        (subst (λ (f : Option (List ℕ)). HasEpoch f content.epoch) (one.records start first small) content.counts) counts in
        inr (inl (content.is ∙ way_before a b one start content.epoch first small content.valid content.there ∙ ap (λ (e : ℕ). a (name_of start (UnderWay e))) same_epoch))
    by (inr (inr gone)) = inr (inr (final_before a b one start gone.0))
content_then a b c start epoch first small ok counts there one two (inr (inr final)) = inr (inr final)

spares_then : (a b c : Files) → Spares a b → Spares b c → Spares a c
spares_then a b c one two = record {
  finals = λ start last first small ok. two.finals start last first small ok ∙ one.finals start last first small ok;
  records = λ start first small. two.records start first small ∙ one.records start first small;
  ways = λ start epoch first small ok. ⊎_elim (λ same. ⊎_elim (λ before. inl (same ∙ before)) (λ none. inr (same ∙ none))
      (one.ways start epoch first small ok)) (λ none. inr none) (two.ways start epoch first small ok);
  progress = λ start first small. becomes_then a b start (c (name_of start InProgress)) first small one (one.progress start first small) (two.progress start first small);
  content = λ start epoch first small ok counts there. content_then a b c start epoch first small ok counts there one two (one.content start epoch first small ok counts there);
}

pub cleans_none : (d : Files) → Cleans d d
cleans_none d = record {
  repairs = record { segments = λ gs stands. stands; others = λ name other lasts. refl };
  spares = record {
    finals = λ start last first small ok. refl;
    records = λ start first small. refl;
    ways = λ start epoch first small ok. inl refl;
    progress = λ start first small. inl refl;
    content = λ start epoch first small ok counts there. inl refl;
  };
}

pub cleans_then : (a b c : Files) → Cleans a b → Cleans b c → Cleans a c
cleans_then a b c one two = record { repairs = repairs_then a b c one.repairs two.repairs; spares = spares_then a b c one.spares two.spares }

-- files of other kinds have other names
differ : (s start : ℕ) (k j : Kind) → s ≤ 2 ^ 62 → start ≤ 2 ^ 62 → IsKind s k → IsKind start j → k ≢ j → name_of s k ≢ name_of start j
differ s start k j small_s small ok ok_j ne = λ same.
    let e : s ≡ start = same_start s start k j small_s small same in
    ne (same_kind start k j (subst (λ (n : ℕ). IsKind n k) e ok) ok_j (subst (λ (n : ℕ). name_of n k ≡ name_of start j) e same))

-- a file of a segment isn't another one's
pub not_other : (name other : List ℕ) (start : ℕ) (kind : Kind) → name ≡ name_of start kind → IsOther other → other ≢ name
not_other name other start kind spelled is same = is start kind (sym spelled ∙ sym same)

pub renamed : (step : List ℕ → Files → Files → Type 0) (m n : List ℕ) (d c : Files) → m ≡ n → step m d c → step n d c
renamed step m n d c same is = subst (λ (name : List ℕ). step name d c) same is

-- a final file is there in d
pub record FinalThere (start : ℕ) (d : Files) : Type 0 where
  pub last : ℕ
  pub valid : IsKind start (Final last)
  pub there : IsSome (d (name_of start (Final last)))

final_is : (start : ℕ) → 1 ≤ start → start ≤ 2 ^ 62 → (d : Files) → FinalThere start d → HasFinal start d
final_is start first small d final = record {
  name = name_of start (Final final.last);
  is = record { last = final.last; named = record { first = first; small = small; valid = final.valid; spelled = refl } };
  there = final.there;
}

module _ (start epoch : ℕ) (first : 1 ≤ start) (small : start ≤ 2 ^ 62) (valid : IsKind start (UnderWay epoch)) (d c : Files) where
  -- the content of an acceptance is removed beside a final file
  module _ (gs : List Segment) (stands : StandsFor d gs) (change : ChangesOnly (name_of start (UnderWay epoch)) IsGone d c) (final : FinalThere start d) where
    same_here : (k : Kind) → IsKind start k → k ≢ UnderWay epoch → c (name_of start k) ≡ d (name_of start k)
    same_here k ok ne = change.others (name_of start k) (kinds_apart start (UnderWay epoch) k valid ok ne)

    final_holds : (held : Option Segment) → Holds start (slot_of d start) held → Holds start (slot_of c start) held
    final_holds None is = absurd (none_is_not (d (name_of start (Final final.last))) (is.none_final.none final.last final.valid) final.there)
    final_holds (Some g) (inl is) = inl (final_same start (slot_of d start) (slot_of c start) (λ other ok. same_here (Final other) ok (λ same. absurd (cc))) g is)
    final_holds (Some g) (inr is) = absurd (none_is_not (d (name_of start (Final final.last))) (is.none_final.none final.last final.valid) final.there)

    way_beside_final_stands : StandsFor c gs
    way_beside_final_stands = stands_by start d c gs gs stands
        (λ other k ne small_other ok lasts. change.others (name_of other k) (apart start other (UnderWay epoch) k small small_other ne))
        (λ other ne. refl)
        (λ again. let was = stands.slots start first small in
        record { record_ = subst IsRecordFile (sym (same_here Record tt (λ same. absurd (cc)))) was.record_; holds = final_holds (find_segment start gs) was.holds })

  -- the content of an acceptance is removed
  pub way_gone : ((HasEpoch (d (name_of start Record)) epoch → ⊥) ⊎ FinalThere start d) → ChangesOnly (name_of start (UnderWay epoch)) IsGone d c → Cleans d c
  way_gone why change = record {
    repairs = record {
      segments = λ gs stands. by gs stands why;
      others = λ name other lasts. change.others name (not_other (name_of start (UnderWay epoch)) name start (UnderWay epoch) refl other);
    };
    spares = record {
      finals = λ s last first_s small_s ok. change.others (name_of s (Final last)) (differ s start (Final last) (UnderWay epoch) small_s small ok valid (λ is. absurd (cc)));
      records = λ s first_s small_s. change.others (name_of s Record) (differ s start Record (UnderWay epoch) small_s small tt valid (λ is. absurd (cc)));
      ways = λ s e first_s small_s ok. ⊎_elim (λ same. inr (ap c same ∙ change.here)) (λ ne. inl (change.others (name_of s (UnderWay e)) ne))
          (names_cases (name_of s (UnderWay e)) (name_of start (UnderWay epoch)));
      progress = λ s first_s small_s. inl (change.others (name_of s InProgress) (differ s start InProgress (UnderWay epoch) small_s small tt valid (λ is. absurd (cc))));
      content = λ s e first_s small_s ok counts there. ⊎_elim (λ same. inr (inr (dropped s e small_s ok counts same why)))
          (λ ne. inl (change.others (name_of s (UnderWay e)) ne)) (names_cases (name_of s (UnderWay e)) (name_of start (UnderWay epoch)));
    };
  }
    where
      by : (gs : List Segment) → StandsFor d gs → ((HasEpoch (d (name_of start Record)) epoch → ⊥) ⊎ FinalThere start d) → StandsFor c gs
      by gs stands (inl lacks) = way_stands start epoch valid d c gs small change.others lacks stands
      by gs stands (inr final) = way_beside_final_stands gs stands change final

      -- a content that counts is dropped beside a final file only
      dropped : (s e : ℕ) → s ≤ 2 ^ 62 → IsKind s (UnderWay e) → HasEpoch (d (name_of s Record)) e
          → name_of s (UnderWay e) ≡ name_of start (UnderWay epoch) → ((HasEpoch (d (name_of start Record)) epoch → ⊥) ⊎ FinalThere start d)
          → HasFinal s d
      dropped s e small_s ok counts same (inl lacks) =
          let e_start : s ≡ start = same_start s start (UnderWay e) (UnderWay epoch) small_s small same in
          let e_kind : UnderWay e ≡ UnderWay epoch = same_kind start (UnderWay e) (UnderWay epoch)
          (subst (λ (n : ℕ). IsKind n (UnderWay e)) e_start ok) valid
          (subst (λ (n : ℕ). name_of n (UnderWay e) ≡ name_of start (UnderWay epoch)) e_start same) in
          let e_epoch : e ≡ epoch = cc in
          absurd (lacks (subst (λ (n : ℕ). HasEpoch (d (name_of n Record)) epoch) e_start (subst (λ (n : ℕ). HasEpoch (d (name_of s Record)) n) e_epoch counts)))
      dropped s e small_s ok counts same (inr final) = subst (λ (n : ℕ). HasFinal n d) (sym (same_start s start (UnderWay e) (UnderWay epoch) small_s small same)) (final_is start first small d final)

  -- it is put in the place of the file in progress
  pub way_moved : HasEpoch (d (name_of start Record)) epoch → IsSome (d (name_of start (UnderWay epoch))) → Moves (name_of start (UnderWay epoch)) (name_of start InProgress) d c → Cleans d c
  way_moved counts there moves = record {
    repairs = record {
      segments = λ gs stands. by gs stands (d (name_of start (UnderWay epoch))) refl there;
      others = λ name other lasts. moves.others name (not_other (name_of start (UnderWay epoch)) name start (UnderWay epoch) refl other)
          (not_other (name_of start InProgress) name start InProgress refl other);
    };
    spares = record {
      finals = λ s last first_s small_s ok. still s (Final last) small_s ok (λ is. absurd (cc)) (λ is. absurd (cc));
      records = λ s first_s small_s. still s Record small_s tt (λ is. absurd (cc)) (λ is. absurd (cc));
      ways = λ s e first_s small_s ok. ⊎_elim
          (λ same. inr (ap c same ∙ moves.gone (kinds_apart start InProgress (UnderWay epoch) tt valid (λ is. absurd (cc)))))
          (λ ne. inl (moves.others (name_of s (UnderWay e)) ne (differ s start (UnderWay e) InProgress small_s small ok tt (λ is. absurd (cc)))))
          (names_cases (name_of s (UnderWay e)) (name_of start (UnderWay epoch)));
      progress = λ s first_s small_s. ⊎_elim
          (λ same. inr (inl (taken s (same_start s start InProgress InProgress small_s small same))))
          (λ ne. inl (moves.others (name_of s InProgress) (differ s start InProgress (UnderWay epoch) small_s small tt valid (λ is. absurd (cc))) ne))
          (names_cases (name_of s InProgress) (name_of start InProgress));
      content = λ s e first_s small_s ok counts_s there_s. ⊎_elim
          (λ same. inr (inl (put s e same (same_start s start (UnderWay e) (UnderWay epoch) small_s small same))))
          (λ ne. inl (moves.others (name_of s (UnderWay e)) ne (differ s start (UnderWay e) InProgress small_s small ok tt (λ is. absurd (cc)))))
          (names_cases (name_of s (UnderWay e)) (name_of start (UnderWay epoch)));
    };
  }
    where
      put : (s e : ℕ) → name_of s (UnderWay e) ≡ name_of start (UnderWay epoch) → s ≡ start → c (name_of s InProgress) ≡ d (name_of s (UnderWay e))
      put s e same e_start = ap (λ (n : ℕ). c (name_of n InProgress)) e_start ∙ moves.moved ∙ ap d (sym same)

      still : (s : ℕ) (k : Kind) → s ≤ 2 ^ 62 → IsKind s k → k ≢ UnderWay epoch → k ≢ InProgress → c (name_of s k) ≡ d (name_of s k)
      still s k small_s ok ne_way ne_progress = moves.others (name_of s k) (differ s start k (UnderWay epoch) small_s small ok valid ne_way)
          (differ s start k InProgress small_s small ok tt ne_progress)

      taken : (s : ℕ) → s ≡ start → IsContent s d (c (name_of s InProgress))
      taken s same = subst (λ (n : ℕ). IsContent n d (c (name_of n InProgress))) (sym same) record { epoch = epoch; valid = valid; counts = counts; there = there; is = moves.moved }

      by : (gs : List Segment) → StandsFor d gs → (file : Option (List ℕ)) → d (name_of start (UnderWay epoch)) ≡ file → IsSome file → StandsFor c gs
      by gs stands None is some = absurd (cc)
      by gs stands (Some bytes) is some = settled_stands start epoch valid small d c gs stands moves counts bytes is

-- a file that doesn't count is removed: a temporary one, or one of a segment
uncounted_gone : (name : List ℕ) → ((start : ℕ) (kind : Kind) → IsKind start kind → IsLasting kind → name_of start kind ≢ name)
    → ((other : List ℕ) → IsOther other → (IsTemporary other → ⊥) → other ≢ name)
    → (d c : Files) → ChangesOnly name IsGone d c → Cleans d c
uncounted_gone name counts_not others_not d c change = record {
  repairs = record {
    segments = λ gs stands. stands_same d c gs (λ start kind first small ok lasts. still start kind ok lasts) stands;
    others = λ other is lasts. change.others other (others_not other is lasts);
  };
  spares = record {
    finals = λ start last first small ok. still start (Final last) ok tt;
    records = λ start first small. still start Record tt tt;
    ways = λ start epoch first small ok. inl (still start (UnderWay epoch) ok tt);
    progress = λ start first small. inl (still start InProgress tt tt);
    content = λ start epoch first small ok counts there. inl (still start (UnderWay epoch) ok tt);
  };
}
  where
    still : (start : ℕ) (kind : Kind) → IsKind start kind → IsLasting kind → c (name_of start kind) ≡ d (name_of start kind)
    still start kind ok lasts = change.others (name_of start kind) (counts_not start kind ok lasts)

temporary_gone : (name : List ℕ) → IsTemporary name → (d c : Files) → ChangesOnly name IsGone d c → Cleans d c
temporary_gone name temporary d c change =
    uncounted_gone name (λ start kind ok lasts same. not_temporary start kind ok lasts (subst IsTemporary (sym same) temporary))
    (λ other is lasts same. lasts (subst IsTemporary (sym same) temporary)) d c change

fresh_gone : (start : ℕ) (d c : Files) → ChangesOnly (name_of start Fresh) IsGone d c → Cleans d c
fresh_gone start d c change =
    uncounted_gone (name_of start Fresh) (λ other kind ok lasts. not_fresh other start kind ok lasts) (λ other is lasts. not_other (name_of start Fresh) other start Fresh refl is) d c change

-- a file in progress is removed beside a final one
pub progress_gone : (start : ℕ) → 1 ≤ start → start ≤ 2 ^ 62 → (d c : Files) → FinalThere start d → ChangesOnly (name_of start InProgress) IsGone d c → Cleans d c
progress_gone start first small d c final change = record {
  repairs = record {
    segments = λ gs stands. beside_final_stands start small d c gs stands change final.last final.valid final.there;
    others = λ name other lasts. change.others name (not_other (name_of start InProgress) name start InProgress refl other);
  };
  spares = record {
    finals = λ s last first_s small_s ok. still s (Final last) small_s ok (λ is. absurd (cc));
    records = λ s first_s small_s. still s Record small_s tt (λ is. absurd (cc));
    ways = λ s epoch first_s small_s ok. inl (still s (UnderWay epoch) small_s ok (λ is. absurd (cc)));
    progress = λ s first_s small_s. ⊎_elim
        (λ same. inr (inr (gone s (same_start s start InProgress InProgress small_s small same))))
        (λ ne. inl (change.others (name_of s InProgress) ne))
        (names_cases (name_of s InProgress) (name_of start InProgress));
    content = λ s epoch first_s small_s ok counts there. inl (still s (UnderWay epoch) small_s ok (λ is. absurd (cc)));
  };
}
  where
    still : (s : ℕ) (k : Kind) → s ≤ 2 ^ 62 → IsKind s k → k ≢ InProgress → c (name_of s k) ≡ d (name_of s k)
    still s k small_s ok ne = change.others (name_of s k) (differ s start k InProgress small_s small ok tt ne)

    gone : (s : ℕ) → s ≡ start → HasFinal s d × (c (name_of s InProgress) ≡ None)
    gone s same = subst (λ (n : ℕ). HasFinal n d × (c (name_of n InProgress) ≡ None)) (sym same) (final_is start first small d final, change.here)

-- what is left over is removed
pub left_gone : (finals name : List ℕ) → IsLeftOver finals name → (d c : Files) → ((start : ℕ) → Contains finals start → FinalThere start d) → ChangesOnly name IsGone d c → Cleans d c
left_gone finals name (inl tmp) d c there change = temporary_gone name (tmp_temporary name tmp.0 tmp.1) d c change
left_gone finals name (inr file) d c there change = by file.kind file.named file.left
  where
    by : (kind : Kind) → IsNamed name file.start kind → IsLeftKind finals file.start kind → Cleans d c
    by InProgress named left = progress_gone file.start named.first named.small d c (there file.start left)
        (renamed (λ n. ChangesOnly n IsGone) name (name_of file.start InProgress) d c named.spelled change)
    by (Final last) named left = absurd left
    by Record named left = absurd left
    by (UnderWay epoch) named left = absurd left
    by Fresh named left = fresh_gone file.start d c (renamed (λ n. ChangesOnly n IsGone) name (name_of file.start Fresh) d c named.spelled change)
    by FreshRecord named left = absurd left
