-- Objects that were read have each key once, in order.
use Rattle.std.proofs.Common.{◌≡◌, ℕ, List, [], ◌∷◌, Option, Some, None, option_map, option_and_then, Ordering, Less, Equal, Greater, nat_cmp, refl, ap, subst, ◌∙◌}
use Rattle.std.specs.List.{AllByRecursion}
use Rattle.std.specs.Ordering.{match_ordering, ordering_reverse}
use Rattle.std.specs.Cmp.Lexicographic.{slice_cmp}
use Rattle.std.proofs.lemmas.Cmp.{nat_list_cmp_total}
use Rattle.json.specs.Json as json
use Rattle.serde_json.specs.Data.{Num, Data, null, boolean, number, string, array, object, Items, item, Members, no_members, member, put}
use Rattle.json.specs.Lex.{tokens}
use Rattle.serde_json.specs.Read.{of_json, of_items, of_members, read, max_depth}
use Rattle.serde_json.specs.View.{items_of}
use Rattle.list_back.specs.Members.{AllAbove, AreOrdered, IsOrdered}

abbrev pub cmp : List ℕ → List ℕ → Ordering
cmp = slice_cmp nat_cmp

pub above_trans : (j k : List ℕ) (ms : Members) → cmp j k ≡ Less → AllAbove k ms → AllAbove j ms
above_trans j k no_members h a = tt
above_trans j k (member l e ms) h a = (nat_list_cmp_total.trans j k l h a.0, above_trans j k ms h a.1)

put_above_at : (o : Ordering) (j k l : List ℕ) (d e : Data) (ms : Members) → cmp j k ≡ Less → (cmp j l ≡ Less) × AllAbove j ms → AllAbove j (put k d ms)
    → AllAbove j (match_ordering o (member k d (member l e ms)) (member l d ms) (member l e (put k d ms)))
put_above_at Less j k l d e ms h a rec = (h, a)
put_above_at Equal j k l d e ms h a rec = a
put_above_at Greater j k l d e ms h a rec = (a.0, rec)

put_above : (j k : List ℕ) (d : Data) (ms : Members) → cmp j k ≡ Less → AllAbove j ms → AllAbove j (put k d ms)
put_above j k d no_members h a = (h, tt)
put_above j k d (member l e ms) h a = put_above_at (cmp k l) j k l d e ms h a (put_above j k d ms h a.1)

pub turned : (k l : List ℕ) → cmp k l ≡ Greater → cmp l k ≡ Less
turned k l e = nat_list_cmp_total.antisymm l k ∙ ap ordering_reverse e

put_ordered_at : (o : Ordering) (k l : List ℕ) (d e : Data) (ms : Members) → cmp k l ≡ o → AllAbove l ms × AreOrdered ms → AreOrdered (put k d ms)
    → AreOrdered (match_ordering o (member k d (member l e ms)) (member l d ms) (member l e (put k d ms)))
put_ordered_at Less k l d e ms is h rec = ((is, above_trans k l ms is h.0), h)
put_ordered_at Equal k l d e ms is h rec = h
put_ordered_at Greater k l d e ms is h rec = (put_above l k d ms (turned k l is) h.0, rec)

pub put_ordered : (k : List ℕ) (d : Data) (ms : Members) → AreOrdered ms → AreOrdered (put k d ms)
put_ordered k d no_members h = (tt, tt)
put_ordered k d (member l e ms) h = put_ordered_at (cmp k l) k l d e ms refl h (put_ordered k d ms h.1)

members_ordered : (js : json.Members) (found ms : Members) → AreOrdered found → of_members js found ≡ Some ms → AreOrdered ms
members_ordered json.no_members found ms h e = let same : found ≡ ms = cc in subst AreOrdered same h
members_ordered (json.member k j js) found ms h e = by (λ d is. members_ordered js (put k d found) ms (put_ordered k d found h) is) (of_json j) e
  where
    by : ((d : Data) → of_members js (put k d found) ≡ Some ms → AreOrdered ms) → (o : Option Data) → option_and_then (λ d. of_members js (put k d found)) o ≡ Some ms → AreOrdered ms
    by rec None e = absurd cc
    by rec (Some d) e = rec d e

object_by : (o : Option Members) (d : Data) → ((ms : Members) → o ≡ Some ms → AreOrdered ms) → option_map object o ≡ Some d → IsOrdered d
object_by None d h e = absurd cc
object_by (Some ms) d h e = let same : object ms ≡ d = cc in subst IsOrdered same (h ms refl)

array_by : (o : Option Items) (d : Data) → option_map array o ≡ Some d → IsOrdered d
array_by None d e = absurd cc
array_by (Some ds) d e = let same : array ds ≡ d = cc in subst IsOrdered same tt

number_by : {A : Type 0} (f : A → Data) (o : Option A) (d : Data) → ((a : A) → IsOrdered (f a)) → option_map f o ≡ Some d → IsOrdered d
number_by f None d h e = absurd cc
number_by f (Some a) d h e = let same : f a ≡ d = cc in subst IsOrdered same (h a)

pub value_ordered : (j : json.Json) (d : Data) → of_json j ≡ Some d → IsOrdered d
value_ordered json.null d e = let same : null ≡ d = cc in subst IsOrdered same tt
value_ordered (json.boolean b) d e = let same : boolean b ≡ d = cc in subst IsOrdered same tt
value_ordered (json.number s) d e = number_by number _ d (λ n. tt) e
value_ordered (json.string s) d e = let same : string s ≡ d = cc in subst IsOrdered same tt
value_ordered (json.array js) d e = array_by (of_items js) d e
value_ordered (json.object ms) d e = object_by (of_members ms no_members) d (λ ns is. members_ordered ms no_members ns tt is) e

-- of the items of an array
items_ordered : (js : json.Items) (ds : List Data) → of_items js ≡ Some (items_of ds) → AllByRecursion IsOrdered ds
items_ordered js [] e = tt
items_ordered json.no_items (d ∷ ds) e = absurd cc
items_ordered (json.item j js) (d ∷ ds) e = by (λ is. items_ordered js ds is) (of_json j) refl e
  where
    rest : (of_items js ≡ Some (items_of ds) → AllByRecursion IsOrdered ds) → (x : Data) (o : Option Items) → of_json j ≡ Some x → of_items js ≡ o
        → option_map (item x) o ≡ Some (item d (items_of ds)) → IsOrdered d × AllByRecursion IsOrdered ds
    rest rec x None first is e = absurd cc
    rest rec x (Some xs) first is e =
        let head : x ≡ d = cc in
        let tail : xs ≡ items_of ds = cc in
        (value_ordered j d (first ∙ ap (λ (y : Data). Some y) head), rec (is ∙ ap (λ (ys : Items). Some ys) tail))

    by : (of_items js ≡ Some (items_of ds) → AllByRecursion IsOrdered ds) → (o : Option Data) → of_json j ≡ o
        → option_and_then (λ x. option_map (item x) (of_items js)) o ≡ Some (item d (items_of ds)) → IsOrdered d × AllByRecursion IsOrdered ds
    by rec None is e = absurd cc
    by rec (Some x) is e = rest rec x (of_items js) is refl e

some_json : (o : Option json.Json) (d : Data) → option_and_then of_json o ≡ Some d → (j : json.Json) × (of_json j ≡ Some d)
some_json None d e = absurd cc
some_json (Some j) d e = (j, e)

array_items : (j : json.Json) (ds : List Data) → of_json j ≡ Some (array (items_of ds)) → AllByRecursion IsOrdered ds
array_items json.null ds e = absurd cc
array_items (json.boolean b) ds e = absurd cc
array_items (json.number s) ds e = not_number _ e
  where
    not_number : (o : Option Num) → option_map number o ≡ Some (array (items_of ds)) → AllByRecursion IsOrdered ds
    not_number None e = absurd cc
    not_number (Some n) e = absurd cc
array_items (json.string s) ds e = absurd cc
array_items (json.array js) ds e = by (of_items js) refl e
  where
    by : (o : Option Items) → of_items js ≡ o → option_map array o ≡ Some (array (items_of ds)) → AllByRecursion IsOrdered ds
    by None is e = absurd cc
    by (Some xs) is e = let same : xs ≡ items_of ds = cc in items_ordered js ds (is ∙ ap (λ (ys : Items). Some ys) same)
array_items (json.object ms) ds e = not_object (of_members ms no_members) e
  where
    not_object : (o : Option Members) → option_map object o ≡ Some (array (items_of ds)) → AllByRecursion IsOrdered ds
    not_object None e = absurd cc
    not_object (Some n) e = absurd cc

-- of the values of an array that is read of a text
pub read_ordered : (text : List ℕ) (ds : List Data) → read text ≡ Some (array (items_of ds)) → AllByRecursion IsOrdered ds
read_ordered text ds e = let j = some_json (option_and_then (λ p. json.if_last p.0 p.1) (json.value max_depth (tokens text))) (array (items_of ds)) e in array_items j.0 ds j.1
