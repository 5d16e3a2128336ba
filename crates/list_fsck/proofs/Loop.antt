-- The files of a folder are checked one after the other.
use Rattle.std.proofs.Common.{◌≡◌, ◌↔◌, ℕ, zero, suc, ◌+◌, ◌≤◌, ◌<◌, List, [], ◌∷◌, ◌++◌, length, take, get_or, refl, sym, ap, subst, ◌∙◌, append_assoc, arith}
use Rattle.std.specs.Prelude.{Option, Some, None, IsSome, IsOk, map, slice_index_or, Result, codes, decimal}
use Rattle.std.proofs.lemmas.List.{append-nil, map-append, length-map, take_more}
use Rattle.base_disk.specs.Files.{Files}
use Rattle.base_disk.specs.View.{View, IsSound}
use Rattle.base_disk.specs.Calls.{Rests, Lists, HasCause}
use Rattle.base_disk.specs.declared.disk.DiskFail.{DiskFail}
use Rattle.base_disk.proofs.Causes.{none_at_ok}
use Rattle.base_disk.proofs.Keeping.{rests_same, rests_then}
use Rattle.list_fsck.specs.declared.finding.Finding.{Finding}
use Rattle.list_fsck.specs.declared.file_role.FileRole.{FileRole}
use Rattle.list_fsck.specs.declared.report.SoFar.{SoFar}
use Rattle.list_fsck.specs.Roles.{HasRole, end_after}
use Rattle.list_fsck.specs.Rules.{IsVerdict}
use Rattle.list_fsck.specs.Reports.{Verdict, line_of, lines_of, one_if, count_of, AreVerdicts, IsReport}
use Rattle.list_fsck.specs.Steps.{AddsVerdict, IsSoFar}

-- ## One file more
lines_more : (vs : List Verdict) (v : Verdict) → lines_of (vs ++ v ∷ []) ≡ lines_of vs ++ line_of v.name v.found
lines_more [] v = append-nil (line_of v.name v.found)
lines_more (x ∷ vs) v = ap (λ (l : List ℕ). line_of x.name x.found ++ l) (lines_more vs v) ∙ sym (append_assoc (line_of x.name x.found) (lines_of vs) (line_of v.name v.found))

count_more : (vs : List Verdict) (v : Verdict) → count_of (vs ++ v ∷ []) ≡ count_of vs + one_if v.found
count_more [] v = omega arith
count_more (x ∷ vs) v = omega (arith, count_more vs v)

verdicts_more : (files : Files) (before : ℕ) (vs : List Verdict) (mid : ℕ) (v : Verdict) (role : FileRole) → AreVerdicts files before vs mid
    → HasRole v.name role → IsVerdict files mid v.name role v.found
    → AreVerdicts files before (vs ++ v ∷ []) (end_after role mid)
verdicts_more files before [] mid v role are named verdict = (role, named, subst (λ (n : ℕ). IsVerdict files n v.name role v.found) are verdict, ap (end_after role) are)
verdicts_more files before (x ∷ vs) mid v role are named verdict = (are.0, are.1, are.2, verdicts_more files (end_after are.0 before) vs mid v role are.3 named verdict)

one_at_most : (found : Option Finding) → one_if found ≤ 1
one_at_most None = omega arith
one_at_most (Some f) = omega arith

pub one_more_file : (told : Type 0) (files : Files) (names : List (List ℕ)) (name : List ℕ) (old new : SoFar) → IsSoFar told files names old
    → AddsVerdict told files name old new → IsSoFar told files (names ++ name ∷ []) new
one_more_file told files names name old new so_far adds = record {
  verdicts = so_far.verdicts ++ v ∷ [];
  names_are = map-append (λ (x : Verdict). x.name) so_far.verdicts (v ∷ []) ∙ ap (λ (l : List (List ℕ)). l ++ name ∷ []) so_far.names_are;
  text = adds.text ∙ ap (λ (l : List ℕ). l ++ line_of name adds.found) so_far.text ∙ sym (lines_more so_far.verdicts v);
  findings = omega (arith, adds.findings, so_far.findings, count_more so_far.verdicts v);
  right = λ t. subst (λ (n : ℕ). AreVerdicts files 0 (so_far.verdicts ++ v ∷ []) n) (sym adds.before)
      (verdicts_more files 0 so_far.verdicts old.before v adds.role (so_far.right t) adds.named (adds.verdict t));
}
  where
    v : Verdict
    v = record { name = name; found = adds.found }

-- ## The loop
-- the files of these names are checked, and nothing changed
pub record IsChecking (told tells : Type 0) (v0 v : View) (names : List (List ℕ)) (i : ℕ) (s : SoFar) (f0 f : ℕ) (was_steady is_steady : Type 0) : Type 0 where
  pub tells_on : told ↔ tells
  pub rests : told → Rests v0 v
  pub so_far : IsSoFar told v0.seen names s
  pub room : s.findings ≤ i
  pub same : f ≡ f0
  pub steady : was_steady → is_steady

pub begun : (told : Type 0) (v0 : View) (s : SoFar) (f0 : ℕ) (was_steady : Type 0) → s.text.items ≡ [] → s.findings ≡ 0 → s.before ≡ 0 → IsChecking told told v0 v0 [] 0 s f0 f0 was_steady was_steady
begun told v0 s f0 was_steady text findings before = record {
  tells_on = (λ t. t, λ t. t);
  rests = λ t. rests_same v0;
  so_far = record { verdicts = []; names_are = refl; text = text; findings = findings; right = λ t. before };
  room = omega (arith, findings);
  same = refl;
  steady = λ s. s;
}

module _ (told : Type 0) (v0 : View) (sound : told → IsSound v0) (f0 : ℕ) (was_steady : Type 0)
    (tells : Type 0) (v : View) (names : List (List ℕ)) (i : ℕ) (s : SoFar) (f : ℕ) (is_steady : Type 0) (so_far : IsChecking told tells v0 v names i s f0 f was_steady is_steady)
    {T : Type 0} (tells1 : Type 0) (v1 : View) (f1 : ℕ) (steady1 : Type 0) (r : Result T DiskFail)
    (on : tells ↔ tells1) (rests : tells → Rests v v1) (cause : HasCause f f1 is_steady steady1 r) where
  pub still_rests : told → Rests v0 v1
  still_rests t = rests_then v0 v v1 (sound t) (so_far.rests t) (rests (so_far.tells_on.0 t))

  -- what was added is right of the files as they were at first
  added : (name : List ℕ) (new : SoFar) → AddsVerdict tells v.seen name s new → AddsVerdict told v0.seen name s new
  added name new adds = record {
    role = adds.role;
    named = adds.named;
    found = adds.found;
    verdict = λ t. subst (λ (files : Files). IsVerdict files s.before name adds.role adds.found) (so_far.rests t).keeps.seen (adds.verdict (so_far.tells_on.0 t));
    text = adds.text;
    findings = adds.findings;
    before = adds.before;
  }

  pub one_more : IsOk r → (name bytes : List ℕ) (next : List (List ℕ)) (new : SoFar) → bytes ≡ name → next ≡ names ++ name ∷ [] → AddsVerdict tells v.seen bytes s new
      → IsChecking told tells1 v0 v1 next (i + 1) new f0 f1 was_steady steady1
  one_more ok name bytes next new same is adds =
      let here : AddsVerdict told v0.seen name s new = added name new (subst (λ (n : List ℕ). AddsVerdict tells v.seen n s new) same adds) in
      record {
        tells_on = (λ t. on.0 (so_far.tells_on.0 t), λ t. so_far.tells_on.1 (on.1 t));
        rests = still_rests;
        so_far = subst (λ (l : List (List ℕ)). IsSoFar told v0.seen l new) (sym is) (one_more_file told v0.seen names name s new so_far.so_far here);
        room = omega (arith, so_far.room, here.findings, one_at_most here.found);
        same = none_at_ok f f1 is_steady steady1 r cause ok ∙ so_far.same;
        steady = λ x. cause.steady (so_far.steady x);
      }

-- ## Names in turn
module _ {X : Type 0} (f : X → List ℕ) where
  pub next_done : (xs : List X) (i : ℕ) (x : X) → i < length xs → x ≡ get_or xs i x → map f (take (i + 1) xs) ≡ map f (take i xs) ++ f x ∷ []
  next_done xs i x lt is = ap (map f) (take_more xs i x lt) ∙ map-append f (take i xs) (get_or xs i x ∷ []) ∙ ap (λ (y : X). map f (take i xs) ++ f y ∷ []) (sym is)

  index_at : (xs : List X) (i : ℕ) (x : X) → i < length xs → x ≡ get_or xs i x → slice_index_or (map f xs) i (f x) ≡ f x
  index_at [] i x lt is = absurd (omega (arith, lt))
  index_at (y ∷ ys) zero x lt is = ap f (sym is)
  index_at (y ∷ ys) (suc i) x lt is = index_at ys i x (omega (arith, lt)) is

  pub is_there : (xs : List X) (i : ℕ) (x : X) (files : Files) → i < length xs → x ≡ get_or xs i x → Lists (map f xs) files → IsSome (files (f x))
  is_there xs i x files lt is lists = lists.there (f x) (i, omega (arith, lt, length-map xs f), index_at xs i x lt is)

-- ## The whole report
