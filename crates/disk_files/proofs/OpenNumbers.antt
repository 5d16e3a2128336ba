-- Which number file is the first bad one.
use Rattle.std.proofs.Common.{◌≡◌, ℕ, List, refl, sym, subst}
use Rattle.std.specs.Ordering.{nat_cmp}
use Rattle.std.specs.Cmp.Lexicographic.{slice_cmp}
use Rattle.std.specs.declared.cmp.Ordering.{Ordering}
use Rattle.std.specs.declared.cmp.Ordering.TheVariants.{Less, Equal, Greater}
use Rattle.base_disk.specs.Files.{Files}
use Rattle.base_files.specs.Records.{IsNumber}
use Rattle.journal_core.specs.declared.node_state.NodeState.{NodeState}
use Rattle.disk_opening.specs.Opening.{IsFirst}
use Rattle.disk_files.specs.declared.node_number.NodeNumber.{NodeNumber}
use Rattle.disk_files.specs.declared.node_number.NodeNumber.TheVariants.{Promised, Writer, Committed}
use Rattle.disk_files.specs.declared.node_numbers.NodeNumbers.{NodeNumbers}
use Rattle.disk_files.specs.declared.opened.OpenedFiles.{OpenedFiles}
use Rattle.disk_files.specs.declared.opened.OpenedFiles.TheVariants as opened
use Rattle.disk_files.specs.Durable.{number_name, number_of, HaveNumbers}
use Rattle.disk_files.specs.Opening.{number_in, HaveNodeNumbers, IsBadNumberFile, NoneIs}
use Rattle.disk_files.specs.OpenSteps.{IsNumberStop, IsNumbersStop}

abbrev order : List ℕ → List ℕ → Ordering
order = slice_cmp nat_cmp

module _ (seen : Files) where
  pub none_bad : (numbers : NodeNumbers) → HaveNodeNumbers seen numbers → NoneIs (IsBadNumberFile seen)
  none_bad numbers have name is = is.bad (number_in is.number numbers) (subst (λ (l : List ℕ). IsNumber (seen l) (number_in is.number numbers)) (sym is.named) (have is.number))

  pub bad_number_stands : (name : List ℕ) → IsBadNumberFile seen name → (s : NodeState) → HaveNumbers seen s → ⊥
  bad_number_stands name is s have = is.bad (number_of is.number s) (subst (λ (l : List ℕ). IsNumber (seen l) (number_of is.number s)) (sym is.named) (have is.number))

  -- no number file before it in byte order is bad
  first_number : (n : NodeNumber) → ((k : ℕ) → IsNumber (seen (number_name n)) k → ⊥)
      → ((m : NodeNumber) → order (number_name m) (number_name n) ≡ Less → (k : ℕ) × IsNumber (seen (number_name m)) k)
      → IsFirst (IsBadNumberFile seen) (number_name n)
  first_number n bad before = record {
    here = record { number = n; named = refl; bad = bad };
    before = λ other less is.
        let good = before is.number (subst (λ (l : List ℕ). order l (number_name n) ≡ Less) is.named less) in
        is.bad good.0 (subst (λ (l : List ℕ). IsNumber (seen l) good.0) (sym is.named) good.1);
  }

  first_stop : (n : NodeNumber) → ((m : NodeNumber) → order (number_name m) (number_name n) ≡ Less → (k : ℕ) × IsNumber (seen (number_name m)) k)
      → (answer : OpenedFiles) → IsNumberStop seen n answer → IsNumbersStop seen answer
  first_stop n before (opened.Files f) is = absurd is
  first_stop n before (opened.BadFile name) is = subst (λ (l : List ℕ). IsFirst (IsBadNumberFile seen) l) (sym is.0) (first_number n is.1 before)
  first_stop n before opened.DiskFault is = tt
  first_stop n before opened.OutOfMemory is = tt

  pub committed_stop : (answer : OpenedFiles) → IsNumberStop seen Committed answer → IsNumbersStop seen answer
  committed_stop answer is = first_stop Committed before answer is
    where
      before : (m : NodeNumber) → order (number_name m) (number_name Committed) ≡ Less → (k : ℕ) × IsNumber (seen (number_name m)) k
      before Promised less = let p : Greater ≡ Less = less in absurd (cc)
      before Writer less = let p : Greater ≡ Less = less in absurd (cc)
      before Committed less = let p : Equal ≡ Less = less in absurd (cc)

  module _ (committed : ℕ) (has_committed : IsNumber (seen (number_name Committed)) committed) where
    pub promised_stop : (answer : OpenedFiles) → IsNumberStop seen Promised answer → IsNumbersStop seen answer
    promised_stop answer is = first_stop Promised before answer is
      where
        before : (m : NodeNumber) → order (number_name m) (number_name Promised) ≡ Less → (k : ℕ) × IsNumber (seen (number_name m)) k
        before Promised less = let p : Equal ≡ Less = less in absurd (cc)
        before Writer less = let p : Greater ≡ Less = less in absurd (cc)
        before Committed less = (committed, has_committed)

    module _ (promised : ℕ) (has_promised : IsNumber (seen (number_name Promised)) promised) where
      pub writer_stop : (answer : OpenedFiles) → IsNumberStop seen Writer answer → IsNumbersStop seen answer
      writer_stop answer is = first_stop Writer before answer is
        where
          before : (m : NodeNumber) → order (number_name m) (number_name Writer) ≡ Less → (k : ℕ) × IsNumber (seen (number_name m)) k
          before Promised less = (promised, has_promised)
          before Writer less = let p : Equal ≡ Less = less in absurd (cc)
          before Committed less = (committed, has_committed)

      pub have_all : (writer : ℕ) → IsNumber (seen (number_name Writer)) writer → HaveNodeNumbers seen (record { promised = promised; writer = writer; committed = committed })
      have_all writer has_writer = λ n. by n
        where
          by : (n : NodeNumber) → IsNumber (seen (number_name n)) (number_in n (record { promised = promised; writer = writer; committed = committed }))
          by Promised = has_promised
          by Writer = has_writer
          by Committed = has_committed
