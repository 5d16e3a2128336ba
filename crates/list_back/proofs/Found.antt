-- An object that has some members, and no more than so many, has those.
use Rattle.std.proofs.Common.{◌≡◌, ◌≢◌, ℕ, suc, List, [], ◌∷◌, length, Some, None, Ordering, Less, Equal, Greater, is_eq, refl, sym, ap, subst, ◌∙◌, arith}
use Rattle.std.specs.List.{AllByRecursion}
use Rattle.std.specs.Ordering.{match_ordering}
use Rattle.std.proofs.lemmas.Map.Text.{is_eq-slice_cmp}
use Rattle.std.proofs.lemmas.Slice.Eq.{bytes_eq-Decides}
use Rattle.serde_json.specs.Data.{Data, Members, no_members, member, put}
use Rattle.serde_json.specs.Events.{members_len}
use Rattle.serde_json.specs.Find.{get_member}
use Rattle.serde_json.proofs.Views.{get_member-put, get_member-put_other}
use Rattle.list_back.specs.Members.{Member, put_all, AllAbove, AreOrdered, AreApart}
use Rattle.list_back.proofs.Orders.{cmp, above_trans}

same_key : (k l : List ℕ) → cmp k l ≡ Equal → k ≡ l
same_key k l e = (bytes_eq-Decides k l).0 (sym (is_eq-slice_cmp k l) ∙ ap is_eq e)

-- the other members
abbrev without : List ℕ → Members → Members
without k no_members = no_members
without k (member l e ms) = match_ordering (cmp k l) (member l e ms) ms (member l e (without k ms))

-- no key behind that one is found
absent : (k : List ℕ) (ms : Members) → AllAbove k ms → get_member k ms ≡ None
absent k no_members a = refl
absent k (member l e ms) a = rw (a.0) (absent k ms a.1)

put_first : (k : List ℕ) (d : Data) (ms : Members) → AllAbove k ms → put k d ms ≡ member k d ms
put_first k d no_members a = refl
put_first k d (member l e ms) a = rw (a.0) refl

-- what is taken out and put in again
again_at : (o : Ordering) (k l : List ℕ) (d e : Data) (ms : Members) → cmp k l ≡ o → AllAbove l ms × AreOrdered ms → match_ordering o (get_member k ms) (Some e) (get_member k ms) ≡ Some d
    → (AreOrdered ms → get_member k ms ≡ Some d → put k d (without k ms) ≡ ms)
    → put k d (match_ordering o (member l e ms) ms (member l e (without k ms))) ≡ member l e ms
again_at Less k l d e ms is h found rec = let none = absent k ms (above_trans k l ms is h.0) in absurd cc
again_at Equal k l d e ms is h found rec =
    let same = same_key k l is in
    let value : e ≡ d = cc in
    put_first k d ms (subst (λ (x : List ℕ). AllAbove x ms) (sym same) h.0) ∙ (λ i. member (same i) (sym value i) ms)
again_at Greater k l d e ms is h found rec = rw is (ap (member l e) (rec h.1 found))

again : (k : List ℕ) (d : Data) (ms : Members) → AreOrdered ms → get_member k ms ≡ Some d → put k d (without k ms) ≡ ms
again k d no_members h found = absurd cc
again k d (member l e ms) h found = again_at (cmp k l) k l d e ms refl h found (again k d ms)

one_less_at : (o : Ordering) (k l : List ℕ) (d e : Data) (ms : Members) → cmp k l ≡ o → AllAbove l ms → match_ordering o (get_member k ms) (Some e) (get_member k ms) ≡ Some d
    → (get_member k ms ≡ Some d → suc (members_len (without k ms)) ≡ members_len ms)
    → suc (members_len (match_ordering o (member l e ms) ms (member l e (without k ms)))) ≡ suc (members_len ms)
one_less_at Less k l d e ms is h found rec = let none = absent k ms (above_trans k l ms is h) in absurd cc
one_less_at Equal k l d e ms is h found rec = refl
one_less_at Greater k l d e ms is h found rec = ap suc (rec found)

one_less : (k : List ℕ) (d : Data) (ms : Members) → AreOrdered ms → get_member k ms ≡ Some d → suc (members_len (without k ms)) ≡ members_len ms
one_less k d no_members h found = absurd cc
one_less k d (member l e ms) h found = one_less_at (cmp k l) k l d e ms refl h.0 found (one_less k d ms h.1)

above_at : (o : Ordering) (j k l : List ℕ) (e : Data) (ms : Members) → (cmp j l ≡ Less) × AllAbove j ms → AllAbove j (without k ms)
    → AllAbove j (match_ordering o (member l e ms) ms (member l e (without k ms)))
above_at Less j k l e ms a rec = a
above_at Equal j k l e ms a rec = a.1
above_at Greater j k l e ms a rec = (a.0, rec)

above : (j k : List ℕ) (ms : Members) → AllAbove j ms → AllAbove j (without k ms)
above j k no_members a = tt
above j k (member l e ms) a = above_at (cmp k l) j k l e ms a (above j k ms a.1)

ordered_at : (o : Ordering) (k l : List ℕ) (e : Data) (ms : Members) → AllAbove l ms × AreOrdered ms → AreOrdered (without k ms)
    → AreOrdered (match_ordering o (member l e ms) ms (member l e (without k ms)))
ordered_at Less k l e ms h rec = h
ordered_at Equal k l e ms h rec = h.1
ordered_at Greater k l e ms h rec = (above l k ms h.0, rec)

ordered : (k : List ℕ) (ms : Members) → AreOrdered ms → AreOrdered (without k ms)
ordered k no_members h = tt
ordered k (member l e ms) h = ordered_at (cmp k l) k l e ms h (ordered k ms h.1)

-- another key is found as before
still : (q k : List ℕ) (d : Data) (ms : Members) → AreOrdered ms → get_member k ms ≡ Some d → q ≢ k → get_member q (without k ms) ≡ get_member q ms
still q k d ms h found other = sym (get_member-put_other q k d (without k ms) other) ∙ ap (get_member q) (again k d ms h found)

abbrev pub AreIn : Members → List Member → Type 0
AreIn ms ps = AllByRecursion (λ p. get_member p.0 ms ≡ Some p.1) ps

all_still : (k : List ℕ) (d : Data) (ms : Members) (ps : List Member) → AreOrdered ms → get_member k ms ≡ Some d → AllByRecursion (λ p. p.0 ≢ k) ps → AreIn ms ps → AreIn (without k ms) ps
all_still k d ms [] h found others are = tt
all_still k d ms (p ∷ ps) h found others are = (still p.0 k d ms h found others.0 ∙ are.0, all_still k d ms ps h found others.1 are.1)

none_left : (ms : Members) → members_len ms ≡ 0 → ms ≡ no_members
none_left no_members e = refl
none_left (member l e ms) len = absurd (omega (arith, len))

pub all_found : (ps : List Member) (ms : Members) → AreOrdered ms → members_len ms ≡ length ps → AreApart ps → AreIn ms ps → ms ≡ put_all ps
all_found [] ms h len apart are = none_left ms len
all_found (p ∷ ps) ms h len apart are =
    let less : members_len (without p.0 ms) ≡ length ps = omega (arith, len, one_less p.0 p.1 ms h are.0) in
    sym (again p.0 p.1 ms h are.0) ∙ ap (put p.0 p.1) (all_found ps (without p.0 ms) (ordered p.0 ms h) less apart.1 (all_still p.0 p.1 ms ps h are.0 apart.0 are.1))

-- ## An object that is made of members has those, and no more

more_at : (o : Ordering) (k l : List ℕ) (d e : Data) (ms : Members) → match_ordering o (get_member k ms) (Some e) (get_member k ms) ≡ None
    → (get_member k ms ≡ None → members_len (put k d ms) ≡ suc (members_len ms))
    → members_len (match_ordering o (member k d (member l e ms)) (member l d ms) (member l e (put k d ms))) ≡ suc (suc (members_len ms))
more_at Less k l d e ms none rec = refl
more_at Equal k l d e ms none rec = absurd cc
more_at Greater k l d e ms none rec = ap suc (rec none)

one_more : (k : List ℕ) (d : Data) (ms : Members) → get_member k ms ≡ None → members_len (put k d ms) ≡ suc (members_len ms)
one_more k d no_members none = refl
one_more k d (member l e ms) none = more_at (cmp k l) k l d e ms none (one_more k d ms)

-- a key that none of them has
pub absent_all : (k : List ℕ) (ps : List Member) → AllByRecursion (λ p. p.0 ≢ k) ps → get_member k (put_all ps) ≡ None
absent_all k [] apart = refl
absent_all k (p ∷ ps) apart = get_member-put_other k p.0 p.1 (put_all ps) (λ e. apart.0 (sym e)) ∙ absent_all k ps apart.1

others_in : (k : List ℕ) (d : Data) (ms : Members) (ps : List Member) → AllByRecursion (λ p. p.0 ≢ k) ps → AreIn ms ps → AreIn (put k d ms) ps
others_in k d ms [] apart are = tt
others_in k d ms (p ∷ ps) apart are = (get_member-put_other p.0 k d ms apart.0 ∙ are.0, others_in k d ms ps apart.1 are.1)

pub all_in : (ps : List Member) → AreApart ps → AreIn (put_all ps) ps
all_in [] apart = tt
all_in (p ∷ ps) apart = (get_member-put p.0 p.1 (put_all ps), others_in p.0 p.1 (put_all ps) ps apart.0 (all_in ps apart.1))

pub all_counted : (ps : List Member) → AreApart ps → members_len (put_all ps) ≡ length ps
all_counted [] apart = refl
all_counted (p ∷ ps) apart = one_more p.0 p.1 (put_all ps) (absent_all p.0 ps apart.0) ∙ ap suc (all_counted ps apart.1)
