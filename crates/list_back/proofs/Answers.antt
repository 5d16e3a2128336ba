-- The answers for a value that was read and for its text.
use Rattle.std.proofs.Common.{◌≡◌, ◌≢◌, ℕ, List, Some, None, true, false, sym, ap, ◌∙◌, IsUtf8}
use Rattle.std.proofs.lemmas.Bool.{true≢false}
use Rattle.std.specs.List.{AllByRecursion}
use Rattle.serde_json.specs.Data.{Data, Items, null, boolean, number, string, array, object}
use Rattle.serde_json.specs.Find.{as_array}
use Rattle.serde_json.specs.Read.{read}
use Rattle.serde_json.specs.View.{items_of}
use Rattle.list_back.specs.Members.{IsOrdered}
use Rattle.list_back.proofs.Orders.{read_ordered}
use Rattle.list_back.specs.declared.answer.Back.{Back}
use Rattle.list_back.specs.declared.answer.Back.TheVariants.{NotJson, TooLong, BadEntry, Segment, OutOfMemory}
use Rattle.list_back.specs.Opening.{opens_array}
use Rattle.list_back.specs.Backs.{IsBackOf, IsBack}
use Rattle.list_back.proofs.Openings.{array_opens}

-- a value that is no array
pub no_array : (d : Data) → None ≡ as_array d → (ds : List Data) → d ≢ array (items_of ds)
no_array d none ds e = let some : as_array d ≡ Some (items_of ds) = ap as_array e in absurd cc

pub is_array : (d : Data) (items : Items) → Some items ≡ as_array d → d ≡ array items
is_array null items e = absurd cc
is_array (boolean b) items e = absurd cc
is_array (number n) items e = absurd cc
is_array (string s) items e = absurd cc
is_array (array xs) items e = let same : items ≡ xs = cc in ap array (sym same)
is_array (object ms) items e = absurd cc

-- of the value that a text is whose first byte that is no space opens an array
pub right_of : (bytes : List ℕ) (start epoch : ℕ) (d : Data) (back : Back) → opens_array bytes ≡ true → IsUtf8 bytes → read bytes ≡ Some d → IsBackOf d start epoch back → IsBack bytes start epoch back
right_of bytes start epoch d NotJson opens text reads is = λ ds a. let some : Some d ≡ Some (array (items_of ds)) = sym reads ∙ a.value in let same : d ≡ array (items_of ds) = cc in is ds same
right_of bytes start epoch d (TooLong n) opens text reads is = (is.0, record { utf8 = text; value = reads ∙ ap (λ (x : Data). Some x) is.1 }, is.2, is.3)
right_of bytes start epoch d (BadEntry index) opens text reads is = (is.0, record { utf8 = text; value = reads ∙ ap (λ (x : Data). Some x) is.1 }, is.2, is.3)
right_of bytes start epoch d (Segment v) opens text reads is = (is.0, record { utf8 = text; value = reads ∙ ap (λ (x : Data). Some x) is.1 }, is.2, is.3)
right_of bytes start epoch d OutOfMemory opens text reads is = opens

pub no_text : (bytes : List ℕ) (start epoch : ℕ) → (IsUtf8 bytes → read bytes ≡ None) → IsBack bytes start epoch NotJson
no_text bytes start epoch none = λ ds a. let e = none a.utf8 in let some = a.value in absurd cc

-- no array begins otherwise
pub not_opened : (bytes : List ℕ) (start epoch : ℕ) → opens_array bytes ≡ false → IsBack bytes start epoch NotJson
not_opened bytes start epoch shut = λ ds a. true≢false (sym (array_opens bytes (items_of ds) a.value) ∙ shut)

pub values_ordered : (bytes : List ℕ) (d : Data) → read bytes ≡ Some d → (ds : List Data) → d ≡ array (items_of ds) → AllByRecursion IsOrdered ds
values_ordered bytes d reads ds is = read_ordered bytes ds (reads ∙ ap (λ (x : Data). Some x) is)
