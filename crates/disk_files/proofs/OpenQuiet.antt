-- How the calls of opening go on: each repairs what it was given, and nothing else.
use Rattle.std.proofs.Common.{inl, inr, ◌⊎◌, ◌≡◌, ℕ, List, refl, sym, ◌∙◌, ap, subst, arith}
use Rattle.std.specs.Prelude.{Option, codes}
use Rattle.base_disk.specs.Files.{Files, IsSame}
use Rattle.base_disk.specs.View.{View, LeavesOnly}
use Rattle.base_disk.specs.Calls.{Keeps}
use Rattle.base_disk.specs.Runs.{Quiet, joined, weaker}
use Rattle.journal_core.specs.declared.node_state.NodeState.{NodeState}
use Rattle.disk_segment.specs.Names.{name_of}
use Rattle.disk_opening.specs.Opening.{IsTemporary, Repairs, SyncsOnly}
use Rattle.disk_segment.proofs.Frame.{stands_same}
use Rattle.disk_opening.proofs.StableLaws.{end_byte, end_behind}
use Rattle.disk_opening.proofs.SyncLemmas.{stays}
use Rattle.base_files.specs.Records.{IsNumber}
use Rattle.disk_files.specs.declared.node_number.NodeNumber.{NodeNumber}
use Rattle.disk_files.specs.declared.node_number.NodeNumber.TheVariants.{Promised, Writer, Committed}
use Rattle.disk_files.specs.declared.node_numbers.NodeNumbers.{NodeNumbers}
use Rattle.disk_files.specs.Durable.{number_name, number_of, StandsAs}
use Rattle.disk_files.specs.Opening.{NumbersStable, number_in, HaveNodeNumbers}
use Rattle.disk_files.proofs.Names.{number_other}

-- ## Number files aren't temporary
number_end : (n : NodeNumber) → (end_byte (number_name n) ≡ 104) ⊎ (end_byte (number_name n) ≡ 100)
number_end Promised = inl refl
number_end Writer = inl refl
number_end Committed = inr refl

pub number_lasts : (n : NodeNumber) → IsTemporary (number_name n) → ⊥
number_lasts n is = by (number_end n)
  where
    by : (end_byte (number_name n) ≡ 104) ⊎ (end_byte (number_name n) ≡ 100) → ⊥
    by (inl e) = omega (arith, e, ap end_byte is.ends, end_behind is.front (codes ".tmp") (omega arith))
    by (inr e) = omega (arith, e, ap end_byte is.ends, end_behind is.front (codes ".tmp") (omega arith))

-- ## Repairs
pub same_repairs : (d c : Files) → IsSame d c → Repairs d c
same_repairs d c same = record {
  segments = λ gs stands. stands_same d c gs (λ start kind first small ok lasts. same.files (name_of start kind)) stands;
  others = λ name other lasts. same.files name;
}

pub repairs_then : (a b c : Files) → Repairs a b → Repairs b c → Repairs a c
repairs_then a b c one two = record {
  segments = λ gs stands. two.segments gs (one.segments gs stands);
  others = λ name other lasts. two.others name other lasts ∙ one.others name other lasts;
}

pub number_stays : (d c : Files) → Repairs d c → (n : NodeNumber) → c (number_name n) ≡ d (number_name n)
number_stays d c repairs n = repairs.others (number_name n) (number_other n) (number_lasts n)

-- what was stood for still is
pub states_stay : (d c : Files) → Repairs d c → (s : NodeState) → StandsAs d s → StandsAs c s
states_stay d c repairs s is = record {
  numbers = λ n. subst (λ (file : Option (List ℕ)). IsNumber file (number_of n s)) (sym (number_stays d c repairs n)) (is.numbers n);
  segments = repairs.segments s.segments is.segments;
}

-- ## Calls
abbrev Left : (Files → Files → Type 0) → View → Files → Type 0
Left noise v c = (d : Files) × v.may_leave d × noise d c

pub quiet_weaker : (noise other : Files → Files → Type 0) → ((d c : Files) → noise d c → other d c) → (v w : View) → Quiet noise v w → Quiet other v w
quiet_weaker noise other f v w quiet = record {
  moments = weaker v w (λ c. Left noise v c) (λ c. Left other v c) (λ c from. (from.0, from.1, f from.0 c from.2)) quiet.moments;
  now = λ c left. let from = quiet.now c left in (from.0, from.1, f from.0 c from.2);
  seen = f v.seen w.seen quiet.seen;
}

pub quiet_then : (u v w : View) → Quiet Repairs u v → Quiet Repairs v w → Quiet Repairs u w
quiet_then u v w one two = record {
  moments = weaker u w (λ c. Left Repairs u c ⊎ Left Repairs v c) (λ c. Left Repairs u c) (λ c from. by c from)
      (joined u v w (λ c. Left Repairs u c) (λ c. Left Repairs v c) one.moments two.moments);
  now = λ c left. back c (two.now c left);
  seen = repairs_then u.seen v.seen w.seen one.seen two.seen;
}
  where
    back : (c : Files) → Left Repairs v c → Left Repairs u c
    back c from = let first = one.now from.0 from.1 in (first.0, first.1, repairs_then first.0 from.0 c first.2 from.2)

    by : (c : Files) → Left Repairs u c ⊎ Left Repairs v c → Left Repairs u c
    by c (inl from) = from
    by c (inr from) = back c from

pub synced_quiet : (v w : View) → Quiet IsSame v w → Quiet Repairs v w
synced_quiet v w quiet = quiet_weaker IsSame Repairs (λ d c same. same_repairs d c same) v w quiet

pub quiet_moments : (v w : View) → Quiet Repairs v w → LeavesOnly v w (λ c. (d : Files) × v.may_leave d × ((s : NodeState) → StandsAs d s → StandsAs c s))
quiet_moments v w quiet = (quiet_weaker Repairs (λ d c. (s : NodeState) → StandsAs d s → StandsAs c s) (λ d c repairs. states_stay d c repairs) v w quiet).moments

pub same_path : (d c : Files) → IsSame d c → c ≡ d
same_path d c same = λ i name. same.files name i

-- number files that are the same after each crash stay so
pub numbers_stay : (v w : View) → Quiet Repairs v w → NumbersStable v → NumbersStable w
numbers_stay v w quiet stable = λ n c left.
    let from = quiet.now c left in
    number_stays from.0 c from.2 n ∙ stable n from.0 from.1 ∙ sym (number_stays v.seen w.seen quiet.seen n)

pub numbers_kept : (v w : View) → Keeps v w → NumbersStable v → NumbersStable w
numbers_kept v w keeps stable = λ n. stays v w (number_name n) keeps (stable n)

pub have_stays : (d c : Files) → Repairs d c → (numbers : NodeNumbers) → HaveNodeNumbers d numbers → HaveNodeNumbers c numbers
have_stays d c repairs numbers have = λ n. subst (λ (file : Option (List ℕ)). IsNumber file (number_in n numbers)) (sym (number_stays d c repairs n)) (have n)

-- what two calls spared, one after the other
pub spared_then : (P Q R : List ℕ → Type 0) → ((name : List ℕ) → P name → R name) → ((name : List ℕ) → Q name → R name) → (u v w : View) → SyncsOnly P u v → SyncsOnly Q v w → SyncsOnly R u w
spared_then P Q R from_p from_q u v w one two name not = two name (λ is. not (from_q name is)) ∙ one name (λ is. not (from_p name is))
