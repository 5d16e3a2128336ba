-- What is told of the files of a node's numbers and of acceptances.
use Rattle.std.proofs.Common.{◌≡◌, ℕ, ◌<◌, List, refl, sym, subst, ◌∙◌, inl, inr, arith, true, false, Bool}
use Rattle.std.specs.Prelude.{Option, Some, None, IfOk, IsErrOf, MatchBool, nat_lt, if◌then◌else◌}
use Rattle.std.proofs.lemmas.Bool.{ltb-true, ltb-false}
use Rattle.std.proofs.lemmas.Option.{same_Some}
use Rattle.base_words.proofs.PaddedLaws.{padded_injective}
use Rattle.base_disk.specs.Files.{Files}
use Rattle.base_disk.specs.Calls.{HasCause}
use Rattle.base_disk.specs.declared.disk.DiskFail.TheVariants.{Failed}
use Rattle.base_disk.proofs.Causes.{cause_as}
use Rattle.base_files.specs.Records.{IsNumber, Record, IsRecord, paxos_name}
use Rattle.base_files.specs.Answers.{GotOf, FoundIn, got_result, found_result}
use Rattle.base_files.specs.declared.answers.Got.{Got}
use Rattle.base_files.specs.declared.answers.Got.TheVariants as got
use Rattle.base_files.specs.declared.answers.GotRecord.{GotRecord}
use Rattle.base_files.specs.declared.answers.GotRecord.TheVariants as record_
use Rattle.base_files.proofs.RecordLaws.{number_front}
use Rattle.disk_segment.specs.Names.{name_of}
use Rattle.disk_segment.specs.Names as names
use Rattle.disk_segment.specs.Stands.{IsRecordFile}
use Rattle.disk_segment.proofs.AcceptLemmas.{record_name}
use Rattle.disk_files.specs.Durable.{number_name}
use Rattle.disk_files.specs.declared.node_number.NodeNumber.{NodeNumber}
use Rattle.disk_files.specs.declared.node_number.NodeNumber.TheVariants.{Promised, Writer, Committed}
use Rattle.list_fsck.specs.declared.rule.Rule.TheVariants as rule
use Rattle.list_fsck.specs.declared.file_role.FileRole.TheVariants as role
use Rattle.list_fsck.specs.Rules.{IsVerdict}
use Rattle.list_fsck.specs.Steps.{judged_writer, held_of, HeldIn, fine_of}

-- a file holds one number
pub one_number : (file : Option (List ℕ)) (m n : ℕ) → IsNumber file m → IsNumber file n → m ≡ n
one_number None m n one two = one ∙ sym two
one_number (Some bytes) m n one two = padded_injective m n one.0 two.0 (sym (number_front bytes m one.1) ∙ number_front bytes n two.1)

module _ (files : Files) (before : ℕ) (name : List ℕ) where
  pub bad_number : (n : NodeNumber) → ((held : ℕ) → IsNumber (files (number_name n)) held → ⊥)
      → IsVerdict files before name (role.Number n) (Some record { rule = rule.Grammar; first = 0; second = 0 })
  bad_number n bad = inr (λ v w h. h, inl (0, 0, (bad, (refl, refl)), refl))

  pub promised_fine : (held : ℕ) → IsNumber (files (number_name Promised)) held → IsVerdict files before name (role.Number Promised) None
  promised_fine held is =
      inr (λ v w h. h, inr (λ v w h. h.0 held is, inr (λ v w h. h, inr (λ v w h. h, inr (λ v w h. h, inr (λ v w h. h, inr (λ v w h. h, inr (λ v w h. h, inr (λ v w h. h, inr (λ v w h. h, refl))))))))))

  pub committed_fine : (held : ℕ) → IsNumber (files (number_name Committed)) held → IsVerdict files before name (role.Number Committed) None
  committed_fine held is =
      inr (λ v w h. h, inr (λ v w h. h.0 held is, inr (λ v w h. h, inr (λ v w h. h, inr (λ v w h. h, inr (λ v w h. h, inr (λ v w h. h, inr (λ v w h. h, inr (λ v w h. h, inr (λ v w h. h, refl))))))))))

  -- where it isn't known to be above the promised one
  pub writer_fine : (held : ℕ) → IsNumber (files (number_name Writer)) held → ((promised : ℕ) → IsNumber (files (number_name Promised)) promised → promised < held → ⊥)
      → IsVerdict files before name (role.Number Writer) None
  writer_fine held is below =
      inr (
        λ v w h. h,
        inr (
          λ v w h. h.0 held is,
          inr (
            λ v w h. below w h.1 (subst (λ (n : ℕ). w < n) (one_number (files (number_name Writer)) v held h.0 is) h.2),
            inr (λ v w h. h, inr (λ v w h. h, inr (λ v w h. h, inr (λ v w h. h, inr (λ v w h. h, inr (λ v w h. h, inr (λ v w h. h, refl))))))),
          ),
        ),
      )

  pub writer_judged : (held promised : ℕ) → IsNumber (files (number_name Writer)) held → IsNumber (files (number_name Promised)) promised
      → IsVerdict files before name (role.Number Writer) (judged_writer held promised)
  writer_judged held promised is is_promised = by (nat_lt promised held) refl
    where
      by : (b : Bool) → nat_lt promised held ≡ b
          → IsVerdict files before name (role.Number Writer) (if b then Some record { rule = rule.WriterPromised; first = held; second = promised } else None)
      by true lt = inr (λ v w h. h, inr (λ v w h. h.0 held is, inl (held, promised, (is, is_promised, ltb-true promised held lt), refl)))
      by false not = writer_fine held is (λ other is_other less. omega (arith, ltb-false promised held not, less, one_number (files (number_name Promised)) other promised is_other is_promised))

  pub bad_record_told : (start : ℕ) → (IsRecordFile (files name) → ⊥) → IsVerdict files before name (role.Record start) (Some record { rule = rule.Grammar; first = 0; second = 0 })
  bad_record_told start bad = inr (λ v w h. h, inl (0, 0, (bad, (refl, refl)), refl))

  pub record_fine : (start : ℕ) → IsRecordFile (files name) → IsVerdict files before name (role.Record start) None
  record_fine start is =
      inr (λ v w h. h, inr (λ v w h. h.0 is, inr (λ v w h. h, inr (λ v w h. h, inr (λ v w h. h, inr (λ v w h. h, inr (λ v w h. h, inr (λ v w h. h, inr (λ v w h. h, inr (λ v w h. h, refl))))))))))

-- ## What was got
pub held_right : (name : List ℕ) (file : Option (List ℕ)) (g : Got) → GotOf name file g → IfOk (held_of g) (HeldIn file)
held_right name file (got.Value held) is = is
held_right name file (got.BadFile bad) is = is.1
held_right name file got.DiskFault is = tt
held_right name file got.OutOfMemory is = tt

held_failed : (g : Got) → IsErrOf (held_of g) Failed → IsErrOf (got_result g) Failed
held_failed (got.Value held) failed = absurd (cc)
held_failed (got.BadFile other) failed = absurd (cc)
held_failed got.DiskFault failed = refl
held_failed got.OutOfMemory failed = absurd (cc)

held_back : (g : Got) → IsErrOf (got_result g) Failed → IsErrOf (held_of g) Failed
held_back (got.Value held) failed = absurd (cc)
held_back (got.BadFile other) failed = absurd (cc)
held_back got.DiskFault failed = refl
held_back got.OutOfMemory failed = absurd (cc)

pub held_cause : (f0 f : ℕ) (was now : Type 0) (g : Got) → HasCause f0 f was now (got_result g) → HasCause f0 f was now (held_of g)
held_cause f0 f was now g cause = cause_as f0 f was now (got_result g) (held_of g) cause (held_failed g) (held_back g)

fine_failed : (g : GotRecord) → IsErrOf (fine_of g) Failed → IsErrOf (found_result g) Failed
fine_failed (record_.Found epoch end) failed = absurd (cc)
fine_failed record_.Absent failed = absurd (cc)
fine_failed (record_.BadFile other) failed = absurd (cc)
fine_failed record_.DiskFault failed = refl
fine_failed record_.OutOfMemory failed = absurd (cc)

fine_back : (g : GotRecord) → IsErrOf (found_result g) Failed → IsErrOf (fine_of g) Failed
fine_back (record_.Found epoch end) failed = absurd (cc)
fine_back record_.Absent failed = absurd (cc)
fine_back (record_.BadFile other) failed = absurd (cc)
fine_back record_.DiskFault failed = refl
fine_back record_.OutOfMemory failed = absurd (cc)

pub fine_cause : (f0 f : ℕ) (was now : Type 0) (g : GotRecord) → HasCause f0 f was now (found_result g) → HasCause f0 f was now (fine_of g)
fine_cause f0 f was now g cause = cause_as f0 f was now (found_result g) (fine_of g) cause (fine_failed g) (fine_back g)

bad_bytes : (file : Option (List ℕ)) (bytes : List ℕ) → file ≡ Some bytes → ((r : Record) → IsRecord bytes r → ⊥) → IsRecordFile file → ⊥
bad_bytes file bytes there none (inl absent) = let p = sym absent ∙ there in absurd (cc)
bad_bytes file bytes there none (inr has) =
    let same : has.1.bytes ≡ bytes = same_Some has.1.bytes bytes (sym has.1.there ∙ there) in
    none (record { epoch = has.0; end = has.1.end }) (subst (λ (b : List ℕ). IsRecord b (record { epoch = has.0; end = has.1.end })) same has.1.spelled)

module _ (files : Files) (start : ℕ) where
  told_at : (g : GotRecord) → FoundIn (paxos_name start) (files (paxos_name start)) g
      → IfOk (fine_of g) (λ good. MatchBool good (IsRecordFile (files (paxos_name start))) (IsRecordFile (files (paxos_name start)) → ⊥))
  told_at (record_.Found epoch end) is = inr (epoch, record { end = end; bytes = is.0; there = is.1; spelled = is.2 })
  told_at record_.Absent is = inl is
  told_at (record_.BadFile bad) is = bad_bytes (files (paxos_name start)) is.1 is.2 is.3
  told_at record_.DiskFault is = tt
  told_at record_.OutOfMemory is = tt

  pub fine_right : (g : GotRecord) → FoundIn (paxos_name start) (files (paxos_name start)) g
      → IfOk (fine_of g) (λ good. MatchBool good (IsRecordFile (files (name_of start names.Record))) (IsRecordFile (files (name_of start names.Record)) → ⊥))
  fine_right g is = subst (λ (n : List ℕ). IfOk (fine_of g) (λ good. MatchBool good (IsRecordFile (files n)) (IsRecordFile (files n) → ⊥))) (sym (record_name start)) (told_at g is)
