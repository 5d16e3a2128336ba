-- Names of files, told apart by their fronts.
use Rattle.std.proofs.Common.{◌≡◌, ◌≢◌, ℕ, List, [], ◌++◌, ap, sym, ◌∙◌, refl, subst, ◌^◌, ◌≤◌, take, drop}
use Rattle.std.specs.Prelude.{codes}
use Rattle.std.specs.Fmt.{decimal}
use Rattle.std.proofs.lemmas.List.{append_cancel_left, take_at, drop_at}
use Rattle.base_words.specs.Padded.{padded}
use Rattle.base_words.proofs.PaddedLaws.{length-padded, padded_injective}
use Rattle.disk_segment.specs.Names.{Kind, InProgress, Final, Record, UnderWay, Fresh, FreshRecord, Front, progress, final, record_, front_of, front_text, rest_of, name_of, IsKind}
use Rattle.disk_opening.specs.Kinds.{IsNamed, IsRest, BeginsWith, IsTold}
use Rattle.disk_segment.proofs.NamesLemmas.{front_in, front_is}

pub spelled_out : (name : List ℕ) (start : ℕ) (kind : Kind) → IsNamed name start kind → name ≡ front_text (front_of kind) ++ (padded 19 start ++ rest_of kind)
unfolding name_of
spelled_out name start kind is = is.spelled

spelled_as : (front : Front) (name : List ℕ) (start : ℕ) (kind : Kind) → IsNamed name start kind → front_of kind ≡ front → name ≡ front_text front ++ (padded 19 start ++ rest_of kind)
spelled_as front name start kind is same = spelled_out name start kind is ∙ ap (λ (f : Front). front_text f ++ (padded 19 start ++ rest_of kind)) same

pub not_front : (front : Front) (name : List ℕ) → ((rest : List ℕ) → name ≡ front_text front ++ rest → ⊥) → (start : ℕ) (kind : Kind) → IsNamed name start kind → front_of kind ≢ front
not_front front name none start kind is same = none (padded 19 start ++ rest_of kind) (spelled_as front name start kind is same)

module _ (front : Front) (name rest : List ℕ) (begins : name ≡ front_text front ++ rest) where
  rest_is : (start : ℕ) (kind : Kind) → IsNamed name start kind → front_of kind ≡ front → rest ≡ padded 19 start ++ rest_of kind
  rest_is start kind is same = append_cancel_left (front_text front) rest (padded 19 start ++ rest_of kind) (sym begins ∙ spelled_as front name start kind is same)

  pub no_number : ((n : ℕ) (tail : List ℕ) → BeginsWith rest n tail → ⊥) → (start : ℕ) (kind : Kind) → IsNamed name start kind → front_of kind ≡ front → ⊥
  no_number none start kind is same = none start (rest_of kind) record { first = is.first; small = is.small; spelled = rest_is start kind is same }

  module _ (n : ℕ) (tail : List ℕ) (number : BeginsWith rest n tail) where
    both : (start : ℕ) (kind : Kind) → IsNamed name start kind → front_of kind ≡ front → padded 19 n ++ tail ≡ padded 19 start ++ rest_of kind
    both start kind is same = sym number.spelled ∙ rest_is start kind is same

    same_start : (start : ℕ) (kind : Kind) → IsNamed name start kind → front_of kind ≡ front → start ≡ n
    same_start start kind is same = padded_injective start n is.small number.small
        (sym (take_at (padded 19 start) (rest_of kind) 19 (length-padded 19 start)) ∙ ap (λ (l : List ℕ). take 19 l) (sym (both start kind is same))
        ∙ take_at (padded 19 n) tail 19 (length-padded 19 n))

    same_tail : (start : ℕ) (kind : Kind) → IsNamed name start kind → front_of kind ≡ front → tail ≡ rest_of kind
    same_tail start kind is same = sym (drop_at (padded 19 n) tail 19 (length-padded 19 n)) ∙ ap (λ (l : List ℕ). drop 19 l) (both start kind is same)
        ∙ drop_at (padded 19 start) (rest_of kind) 19 (length-padded 19 start)

    pub no_kind : (start : ℕ) (kind : Kind) → (IsRest front n tail kind → ⊥) → IsNamed name start kind → front_of kind ≡ front → ⊥
    no_kind start kind none is same = none record { front_is = same; valid = subst (λ (m : ℕ). IsKind m kind) (same_start start kind is same) is.valid; spelled = same_tail start kind is same }

    pub is_named : (kind : Kind) → IsRest front n tail kind → IsNamed name n kind
    unfolding name_of
    is_named kind is = record {
      first = number.first;
      small = number.small;
      valid = is.valid;
      spelled = begins ∙ ap (λ (l : List ℕ). front_text front ++ l) (number.spelled ∙ ap (λ (l : List ℕ). padded 19 n ++ l) is.spelled)
          ∙ ap (λ (f : Front). front_text f ++ (padded 19 n ++ rest_of kind)) (sym is.front_is);
    }
