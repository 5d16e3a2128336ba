-- A report gets one verdict.
use Rattle.std.proofs.Common.{ℕ, ◌≡◌, List, Option, Some, None, Result, Ok, Err, length, refl, sym, subst, ◌∙◌, arith}
use Rattle.std.specs.Prelude.{IfOk}
use Rattle.mesh.specs.Agree.{Agrees}
use Rattle.mesh_judge.specs.declared.part.Part.{Part}
use Rattle.report_judge.specs.declared.answer.Lists.{Lists}
use Rattle.report_judge.specs.Reading.{ListsView, shown, lists_of}
use Rattle.report_judge.specs.Reads.{IsReadAs}
use Rattle.play_report.specs.Text.{text_of}
use Rattle.report_judge.specs.Written.{AreWritten}
use Rattle.report_judge.specs.Complete.{Completes}
use Rattle.report_judge.specs.declared.judgement.Judgement.{Judgement}
use Rattle.report_judge.specs.declared.judgement.Judgement.TheVariants as judgement
use Rattle.report_judge.specs.Judged.{marked_by, OfAgreeing, OfDisagreeing, Judges, SomeAgree, NoneAgree, IsJust, VerdictsExclude, AgreementIsTold}
use Rattle.report_judge.proofs.Complete.{written_back}

some_or_none : (o : Option ListsView) (view : ListsView) → o ≡ Some view → o ≡ None → ⊥
some_or_none o view e n = let same : Some view ≡ None = sym e ∙ n in cc

same_view : (v w : ListsView) → Some v ≡ Some w → v ≡ w
same_view v w e = cc

one_view : (bytes : List ℕ) (a b : Lists) → IsReadAs bytes a → IsReadAs bytes b → shown a ≡ shown b
one_view bytes a b h k = same_view (shown a) (shown b) (sym h.are ∙ k.are)

-- the one's lists with the other's marks
remarked : (a b : Lists) → shown a ≡ shown b → a.mesh ≡ marked_by b.mesh a.mesh.plan
remarked a b e = λ i. record { nodes = (e i).nodes; histories = (e i).histories; records = (e i).callers.records; plan = a.mesh.plan }

-- lists with some marks agree where the others do with those
others_agree : (a b : Lists) → shown a ≡ shown b → Agrees a.mesh → Agrees (marked_by b.mesh a.mesh.plan)
others_agree a b e h = subst Agrees (remarked a b e) h

pub exclude : VerdictsExclude
exclude = record {
  agrees_or_bad = λ bytes a n. some_or_none (lists_of bytes) (shown a.lists) a.is_read.are n.none;
  disagrees_or_bad = λ bytes broken d n. some_or_none (lists_of bytes) (shown d.lists) d.is_read.are n.none;
  agrees_or_disagrees = λ bytes broken a d. d.others a.lists.mesh.plan (others_agree a.lists d.lists (one_view bytes a.lists d.lists a.is_read d.is_read) a.agrees);
}

-- ## What is told just where it is so
some_agree : (bytes : List ℕ) → OfAgreeing bytes → SomeAgree bytes
some_agree bytes a = record { lists = a.lists; are = a.is_read.are; agrees = a.agrees }

none_agree : (bytes : List ℕ) (broken : Part) → OfDisagreeing bytes broken → NoneAgree bytes
none_agree bytes broken d = record { view = shown d.lists; are = d.is_read.are; none = λ lists e h. d.others lists.mesh.plan (others_agree lists d.lists e h) }

-- of the same bytes only one of them is so
agree_or_none : (bytes : List ℕ) → SomeAgree bytes → NoneAgree bytes → ⊥
agree_or_none bytes s n = n.none s.lists (same_view (shown s.lists) n.view (sym s.are ∙ n.are)) s.agrees

just_by : (bytes : List ℕ) (j : Judgement) → Judges bytes j → Completes bytes j → IsJust bytes j
just_by bytes judgement.Agrees a c = record {
  agrees = (λ e. some_agree bytes a, λ s. refl);
  disagrees = (λ e. absurd e, λ n. absurd (agree_or_none bytes (some_agree bytes a) n));
  bad = (λ e. absurd e, λ n. absurd (some_or_none (lists_of bytes) (shown a.lists) a.is_read.are n));
}
just_by bytes (judgement.Disagrees found) d c = record {
  agrees = (λ (e : judgement.Disagrees found ≡ judgement.Agrees). absurd (cc e), λ s. absurd (agree_or_none bytes s (none_agree bytes found.part d)));
  disagrees = (λ e. none_agree bytes found.part d, λ n. tt);
  bad = (λ e. absurd e, λ n. absurd (some_or_none (lists_of bytes) (shown d.lists) d.is_read.are n));
}
just_by bytes (judgement.Bad line rule) l c = record {
  agrees = (λ (e : judgement.Bad line rule ≡ judgement.Agrees). absurd (cc e), λ s. absurd (some_or_none (lists_of bytes) (shown s.lists) s.are c.0.none));
  disagrees = (λ e. absurd e, λ n. absurd (some_or_none (lists_of bytes) n.view n.are c.0.none));
  bad = (λ e. c.0.none, λ n. tt);
}

pub just : {E : Type 0} (bytes : List ℕ) (r : Result Judgement E) → IfOk r (λ j. Judges bytes j) → IfOk r (λ j. Completes bytes j) → IfOk r (λ j. IsJust bytes j)
just bytes (Ok j) h c = just_by bytes j h c
just bytes (Err e) h c = h

-- ## Lists within the limits
written_agree : (lists : Lists) → AreWritten lists → length lists.mesh.plan ≡ length lists.ends → Agrees lists.mesh → SomeAgree (text_of lists.mesh lists.ends)
written_agree lists w sized a =
    let records = a.records in
    let back = written_back lists w (omega (arith, records, sized)) in
    record { lists = record { mesh = lists.mesh; ends = back.0 }; are = back.1; agrees = a }

pub agreement_told : AgreementIsTold
agreement_told = record {
  agrees = written_agree;
  disagrees = λ bytes lists w sized of none a. agree_or_none bytes (subst SomeAgree (sym of) (written_agree lists w sized a)) none;
}
