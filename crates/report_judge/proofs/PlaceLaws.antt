-- What is known of a place where a part is broken, and how many lines a report has above it.
use Rattle.std.proofs.Common.{ℕ, zero, suc, ◌≡◌, ◌+◌, ◌<◌, List, [], ◌∷◌, Option, Some, None, Result, Ok, Err, length, take, drop, get_or, refl, ap, sym, subst, add-one, arith}
use Rattle.std.specs.Prelude.{IfOk, MatchOption, slice_get}
use Rattle.std.proofs.lemmas.List.Sums.{sum_by_more}
use Rattle.journal_history.specs.declared.history_line.HistoryLine.{HistoryLine}
use Rattle.journal_history.specs.declared.record.Record.{Record}
use Rattle.mesh.specs.declared.whole.Mesh.{Mesh}
use Rattle.mesh.specs.Agree.{operator_of, record_of}
use Rattle.mesh_judge.specs.declared.part.Part.{Part}
use Rattle.mesh_judge.specs.declared.part.Part.TheVariants as part
use Rattle.mesh_judge.specs.Broken.{Keeps, BreaksFirst}
use Rattle.mesh_judge.specs.Plans.{AreCalled}
use Rattle.report_judge.specs.Reads.{IsMarkedIfAny}
use Rattle.ns_tree.specs.declared.end.End.{End}
use Rattle.report_judge.specs.declared.place.ListOf.TheVariants as list
use Rattle.report_judge.specs.declared.place.Place.{Place}
use Rattle.report_judge.specs.Places.{IsBrokenAt, node_lines, space_lines, caller_lines}

-- what is told of a part where it is broken, and where it isn't
abbrev pub Told : Part → Mesh → Type 0 → Option Place → Type 0
Told p m else place = MatchOption place else (λ x. IsBrokenAt p m x.list x.line)

there : {E K : Type 0} (p : Part) (m : Mesh) (r : Result (Option Place) E) → (K → ⊥) → IfOk r (Told p m K) → IfOk r (Told p m (IsBrokenAt p m (list.Node 0) 0))
there p m (Ok None) b k = absurd (b k)
there p m (Ok (Some x)) b at = at
there p m (Err e) b at = at

-- there is a place, since the part is broken
pub place_is : {E : Type 0} (p q : Part) (m : Mesh) (r : Result (Option Place) E) → p ≡ q → BreaksFirst p m → IfOk r (Told q m (Keeps q m)) → IfOk r (Told p m (IsBrokenAt p m (list.Node 0) 0))
place_is p q m r e b is = there p m r b.1 (subst (λ (x : Part). IfOk r (Told x m (Keeps x m))) (sym e) is)

-- also of the marks, where each record goes by its own if by any
marks_broken : (m : Mesh) → BreaksFirst part.Marks m → ((c : ℕ) → c < operator_of m → IsMarkedIfAny m c) → ((c : ℕ) → c < operator_of m → AreCalled [] (record_of m c)) → ⊥
marks_broken m b marked called = b.1 (λ c low. marked c low (b.0.1 c (omega (arith, low))) (called c low))

pub copy_place_is : {E : Type 0} (p : Part) (m : Mesh) (r : Result (Option Place) E) → p ≡ part.Marks → BreaksFirst p m → ((c : ℕ) → c < operator_of m → IsMarkedIfAny m c)
    → IfOk r (Told part.Marks m ((c : ℕ) → c < operator_of m → AreCalled [] (record_of m c))) → IfOk r (Told p m (IsBrokenAt p m (list.Node 0) 0))
copy_place_is {E} p m r e b marked is =
    subst (λ (x : Part). IfOk r (Told x m (IsBrokenAt x m (list.Node 0) 0))) (sym e) (there part.Marks m r (marks_broken m (subst (λ (x : Part). BreaksFirst x m) e b) marked) is)

pub node_lines_more : (hs : List (List HistoryLine)) (i : ℕ) (d : List HistoryLine) → i < length hs → node_lines (take (i + 1) hs) ≡ node_lines (take i hs) + (length (get_or hs i d) + 1)
node_lines_more hs i d l = sum_by_more (λ h. length h + 1) hs i d l

behind : (ends : List End) (i : ℕ) → slice_get (drop 1 ends) i ≡ slice_get ends (suc i)
behind [] i = refl
behind (e ∷ ends) i = refl

one_more : (ends : List End) (rs : List (List Record)) (i : ℕ) (d : List Record) → i < length rs
    → caller_lines ends (take (suc i) rs) ≡ caller_lines ends (take i rs) + (length (get_or rs i d) + space_lines (slice_get ends i) + 1)
unfolding caller_lines
one_more ends [] i d l = absurd (omega (arith, l))
one_more ends (r ∷ rs) zero d l = omega arith
one_more ends (r ∷ rs) (suc i) d l =
    let rest = one_more (drop 1 ends) rs i d (omega (arith, l)) in
    let space = ap space_lines (behind ends i) in
    omega (arith, rest, space)

pub caller_lines_more : (ends : List End) (rs : List (List Record)) (i : ℕ) (d : List Record) → i < length rs
    → caller_lines ends (take (i + 1) rs) ≡ caller_lines ends (take i rs) + (length (get_or rs i d) + space_lines (slice_get ends i) + 1)
caller_lines_more ends rs i d l = rw add-one (one_more ends rs i d l)
