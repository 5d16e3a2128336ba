-- Texts and lists, item by item.
use Rattle.std.proofs.Common.{ℕ, ◌≡◌, ◌<◌, ◌≤◌, ◌+◌, List, [], ◌∷◌, ◌++◌, Bool, true, false, not, if◌then◌else◌, length, map, filter, take, get_or, sym, ◌∙◌, ap, append_assoc, append-nil}
use Rattle.std.specs.Prelude.{is_some}
use Rattle.std.proofs.lemmas.List.{take_more, take_all, map-append}
use Rattle.std.proofs.lemmas.List.Elements.{filter-append}
use Rattle.journal_core.specs.declared.segment.Segment.{Segment}
use Rattle.journal_core.specs.Segments.{find_segment}
use Rattle.node_states.specs.Fields.{plain_byte, plain}
use Rattle.node_states.specs.States.{removed}

pub plain_more : (text : List ℕ) (i : ℕ) (out new : List ℕ) (before : List ℕ) → i < length text → out ≡ before ++ plain (take i text) → new ≡ out ++ plain_byte (get_or text i 0) ∷ []
    → new ≡ before ++ plain (take (i + 1) text)
unfolding plain
plain_more text i out new before l h e =
    e ∙ ap (λ (x : List ℕ). x ++ plain_byte (get_or text i 0) ∷ []) h ∙ append_assoc before (map plain_byte (take i text)) (plain_byte (get_or text i 0) ∷ [])
    ∙ ap (λ (x : List ℕ). before ++ x) (sym (ap (map plain_byte) (take_more text i 0 l) ∙ map-append plain_byte (take i text) (get_or text i 0 ∷ [])))

pub plain_last : (text : List ℕ) (i : ℕ) → length text ≤ i → plain (take i text) ≡ plain text
plain_last text i l = ap plain (take_all i text l)

pub plain_first : (before out : List ℕ) → out ≡ before → out ≡ before ++ plain []
unfolding plain
plain_first before out e = e ∙ sym (append-nil before)

pub ruleset plains = (plain_first, plain_more, plain_last)

-- ## The starts that are no segment's
abbrev is_gone : List Segment → ℕ → Bool
is_gone gs start = not (is_some (find_segment start gs))

removed_at : (starts : List ℕ) (gs : List Segment) (i : ℕ) → i < length starts
    → removed (take (i + 1) starts) gs ≡ removed (take i starts) gs ++ (if is_gone gs (get_or starts i 0) then get_or starts i 0 ∷ [] else [])
removed_at starts gs i l = ap (filter (is_gone gs)) (take_more starts i 0 l) ∙ filter-append (is_gone gs) (take i starts) (get_or starts i 0 ∷ [])

abbrev one_by : ℕ → Bool → List ℕ
one_by n b = if b then n ∷ [] else []

pub removed_more : (starts : List ℕ) (gs : List Segment) (i : ℕ) (gone new : List ℕ) → i < length starts → gone ≡ removed (take i starts) gs → is_some (find_segment (get_or starts i 0) gs) ≡ false
    → new ≡ gone ++ get_or starts i 0 ∷ [] → new ≡ removed (take (i + 1) starts) gs
removed_more starts gs i gone new l h b e =
    e ∙ ap (λ (x : List ℕ). x ++ get_or starts i 0 ∷ []) h
    ∙ sym (removed_at starts gs i l ∙ ap (λ (x : Bool). removed (take i starts) gs ++ one_by (get_or starts i 0) (not x)) b)

pub removed_stays : (starts : List ℕ) (gs : List Segment) (i : ℕ) (gone : List ℕ) → i < length starts → gone ≡ removed (take i starts) gs → is_some (find_segment (get_or starts i 0) gs) ≡ true
    → gone ≡ removed (take (i + 1) starts) gs
removed_stays starts gs i gone l h b =
    h ∙ sym (removed_at starts gs i l ∙ ap (λ (x : Bool). removed (take i starts) gs ++ one_by (get_or starts i 0) (not x)) b ∙ append-nil (removed (take i starts) gs))

pub removed_last : (starts : List ℕ) (gs : List Segment) (i : ℕ) → length starts ≤ i → removed (take i starts) gs ≡ removed starts gs
removed_last starts gs i l = ap (λ (x : List ℕ). removed x gs) (take_all i starts l)

pub ruleset removeds = (removed_more, removed_stays, removed_last)
