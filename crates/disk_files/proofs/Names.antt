-- The names of number files differ from each other, from those of their temporary files, and from
-- those of the files of segments.
use Rattle.std.proofs.Common.{◌≡◌, ◌≢◌, ℕ, List, [], ◌∷◌, ap, sym, ◌∙◌, refl, arith, length, ◌^◌, ◌≤◌}
use Rattle.base_files.specs.Puts.{temporary}
use Rattle.disk_segment.specs.Names.{Kind, front_of, name_of}
use Rattle.disk_segment.specs.Effects.{IsOutside}
use Rattle.disk_opening.specs.Opening.{IsOther}
use Rattle.disk_segment.proofs.NamesLemmas.{front_in, front_is}
use Rattle.disk_segment.proofs.Frame.{apart}
use Rattle.disk_opening.proofs.OpenLemmas.{IsElsewhere, elsewhere}
use Rattle.disk_files.specs.declared.node_number.NodeNumber.{NodeNumber}
use Rattle.disk_files.specs.declared.node_number.NodeNumber.TheVariants.{Promised, Writer, Committed}
use Rattle.disk_files.specs.Durable.{number_name}

pub number_elsewhere : (n : NodeNumber) → IsElsewhere (number_name n)
number_elsewhere Promised = record { no_segment = λ is. omega (arith, is); no_record = λ is. omega (arith, is) }
number_elsewhere Writer = record { no_segment = λ is. omega (arith, is); no_record = λ is. omega (arith, is) }
number_elsewhere Committed = record { no_segment = λ is. omega (arith, is); no_record = λ is. omega (arith, is) }

pub temporary_elsewhere : (n : NodeNumber) → IsElsewhere (temporary (number_name n))
temporary_elsewhere Promised = record { no_segment = λ is. omega (arith, is); no_record = λ is. omega (arith, is) }
temporary_elsewhere Writer = record { no_segment = λ is. omega (arith, is); no_record = λ is. omega (arith, is) }
temporary_elsewhere Committed = record { no_segment = λ is. omega (arith, is); no_record = λ is. omega (arith, is) }

abbrev long : List ℕ → ℕ
long name = length name

-- Names of different lengths. A number's own name has 19, 17 or 14 bytes.
pub numbers_apart : (n m : NodeNumber) → n ≢ m → number_name n ≢ number_name m
numbers_apart Promised Promised ne = absurd (ne refl)
numbers_apart Writer Writer ne = absurd (ne refl)
numbers_apart Committed Committed ne = absurd (ne refl)
numbers_apart Promised Writer ne = λ same. let p : 19 ≡ 17 = ap long same in omega (arith, p)
numbers_apart Promised Committed ne = λ same. let p : 19 ≡ 14 = ap long same in omega (arith, p)
numbers_apart Writer Promised ne = λ same. let p : 17 ≡ 19 = ap long same in omega (arith, p)
numbers_apart Writer Committed ne = λ same. let p : 17 ≡ 14 = ap long same in omega (arith, p)
numbers_apart Committed Promised ne = λ same. let p : 14 ≡ 19 = ap long same in omega (arith, p)
numbers_apart Committed Writer ne = λ same. let p : 14 ≡ 17 = ap long same in omega (arith, p)

pub number_short : (n : NodeNumber) → length (number_name n) ≤ 60
number_short Promised = omega arith
number_short Writer = omega arith
number_short Committed = omega arith

pub temporaries_apart : (n m : NodeNumber) → n ≢ m → temporary (number_name n) ≢ temporary (number_name m)
temporaries_apart Promised Promised ne = absurd (ne refl)
temporaries_apart Writer Writer ne = absurd (ne refl)
temporaries_apart Committed Committed ne = absurd (ne refl)
temporaries_apart Promised Writer ne = λ same. let p : 23 ≡ 21 = ap long same in omega (arith, p)
temporaries_apart Promised Committed ne = λ same. let p : 23 ≡ 18 = ap long same in omega (arith, p)
temporaries_apart Writer Promised ne = λ same. let p : 21 ≡ 23 = ap long same in omega (arith, p)
temporaries_apart Writer Committed ne = λ same. let p : 21 ≡ 18 = ap long same in omega (arith, p)
temporaries_apart Committed Promised ne = λ same. let p : 18 ≡ 23 = ap long same in omega (arith, p)
temporaries_apart Committed Writer ne = λ same. let p : 18 ≡ 21 = ap long same in omega (arith, p)

pub number_no_temporary : (n m : NodeNumber) → number_name n ≢ temporary (number_name m)
number_no_temporary Promised Promised = λ same. let p : 19 ≡ 23 = ap long same in omega (arith, p)
number_no_temporary Promised Writer = λ same. let p : 19 ≡ 21 = ap long same in omega (arith, p)
number_no_temporary Promised Committed = λ same. let p : 19 ≡ 18 = ap long same in omega (arith, p)
number_no_temporary Writer Promised = λ same. let p : 17 ≡ 23 = ap long same in omega (arith, p)
number_no_temporary Writer Writer = λ same. let p : 17 ≡ 21 = ap long same in omega (arith, p)
number_no_temporary Writer Committed = λ same. let p : 17 ≡ 18 = ap long same in omega (arith, p)
number_no_temporary Committed Promised = λ same. let p : 14 ≡ 23 = ap long same in omega (arith, p)
number_no_temporary Committed Writer = λ same. let p : 14 ≡ 21 = ap long same in omega (arith, p)
number_no_temporary Committed Committed = λ same. let p : 14 ≡ 18 = ap long same in omega (arith, p)

-- a name of no file of a segment is outside of all of them
pub outside_all : (name : List ℕ) → IsOther name → (start : ℕ) (kinds : List Kind) → IsOutside start kinds name
outside_all name is start [] = tt
outside_all name is start (k ∷ ks) = (λ same. is start k (sym same), outside_all name is start ks)

pub number_other : (n : NodeNumber) → IsOther (number_name n)
number_other n = elsewhere (number_name n) (number_elsewhere n)

pub temporary_other : (n : NodeNumber) → IsOther (temporary (number_name n))
temporary_other n = elsewhere (temporary (number_name n)) (temporary_elsewhere n)

-- names with different fronts differ, whatever the starts
pub fronts_apart : (M N : ℕ) (j k : Kind) → front_of j ≢ front_of k → name_of M j ≢ name_of N k
fronts_apart M N j k ne = λ same. ne (sym (front_is M j) ∙ ap front_in same ∙ front_is N k)

-- the files of another segment are outside
pub outside_other : (start other : ℕ) (j : Kind) → start ≤ 2 ^ 62 → other ≤ 2 ^ 62 → other ≢ start → (kinds : List Kind) → IsOutside start kinds (name_of other j)
outside_other start other j small small_other ne [] = tt
outside_other start other j small small_other ne (k ∷ ks) = (apart start other k j small small_other ne, outside_other start other j small small_other ne ks)
