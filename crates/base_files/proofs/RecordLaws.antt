-- The parts of the bytes of small files.
use Rattle.std.proofs.Common.{◌≡◌, ◌≢◌, ◌∙◌, ℕ, List, [], ◌∷◌, ◌++◌, ap, sym, subst, arith, take, drop, length, get_or, set, append_assoc, length-append}
use Rattle.std.specs.Prelude.{Option, Some, None, IfNone}
use Rattle.std.proofs.lemmas.List.{take_at, drop_at, drop_all, drop_more, drop-drop, get_or_at, set_at, take-append-drop}
use borrow.Rule.Slice.PartMut.{put_mid}
use Rattle.base_words.specs.Padded.{padded}
use Rattle.base_words.proofs.PaddedLaws.{length-padded}
use Rattle.base_files.specs.Records.{number_bytes, record_bytes, Record, IsNumber}
use Rattle.base_files.specs.Answers.{GotOf, FoundIn, IsBadNumber, IsBadRecord}
use Rattle.base_files.specs.declared.answers.Got.{Got}
use Rattle.base_files.specs.declared.answers.Got.TheVariants as got
use Rattle.base_files.specs.declared.answers.GotRecord.{GotRecord}
use Rattle.base_files.specs.declared.answers.GotRecord.TheVariants as found

pub if_none : {X : Type 0} (o : Option X) (P Q : Type 0) → (P → Q) → IfNone o P → IfNone o Q
if_none None P Q f fact = f fact
if_none (Some x) P Q f fact = tt

pub none_always : {X : Type 0} (o : Option X) (Q : Type 0) → Q → IfNone o Q
none_always None Q fact = fact
none_always (Some x) Q fact = tt

pub number_front : (b : List ℕ) (n : ℕ) → b ≡ number_bytes n → take 19 b ≡ padded 19 n
number_front b n is = ap (λ (l : List ℕ). take 19 l) is ∙ take_at (padded 19 n) (10 ∷ []) 19 (length-padded 19 n)

pub number_end : (b : List ℕ) (n : ℕ) → b ≡ number_bytes n → get_or b 19 0 ≡ 10
number_end b n is = ap (λ (l : List ℕ). get_or l 19 0) is ∙ get_or_at (padded 19 n) 10 [] 0 19 (length-padded 19 n)

-- the four parts of a record
pub record Parts (b p q : List ℕ) : Type 0 where
  pub first : take 19 b ≡ p
  pub space : get_or b 19 0 ≡ 32
  pub second : take 19 (drop 20 b) ≡ q
  pub end : get_or b 39 0 ≡ 10

pub parts_of : (p q : List ℕ) → length p ≡ 19 → length q ≡ 19 → Parts (p ++ 32 ∷ (q ++ 10 ∷ [])) p q
parts_of p q lp lq =
    let back : drop 20 (p ++ 32 ∷ (q ++ 10 ∷ [])) ≡ q ++ 10 ∷ [] =
    ap (λ (l : List ℕ). drop 20 l) (sym (append_assoc p (32 ∷ []) (q ++ 10 ∷ []))) ∙ drop_at (p ++ 32 ∷ []) (q ++ 10 ∷ []) 20 (omega (arith, length-append p (32 ∷ []), lp)) in
    let front : length ((p ++ 32 ∷ []) ++ q) ≡ 39 = omega (arith, length-append (p ++ 32 ∷ []) q, length-append p (32 ∷ []), lp, lq) in
    record {
      first = take_at p (32 ∷ (q ++ 10 ∷ [])) 19 lp;
      space = get_or_at p 32 (q ++ 10 ∷ []) 0 19 lp;
      second = ap (λ (l : List ℕ). take 19 l) back ∙ take_at q (10 ∷ []) 19 lq;
      end = ap (λ (l : List ℕ). get_or l 39 0) (sym (append_assoc p (32 ∷ []) (q ++ 10 ∷ [])) ∙ sym (append_assoc (p ++ 32 ∷ []) q (10 ∷ []))) ∙ get_or_at ((p ++ 32 ∷ []) ++ q) 10 [] 0 39 front;
    }

pub parts_of_record : (b : List ℕ) (r : Record) → b ≡ record_bytes r → Parts b (padded 19 r.epoch) (padded 19 r.end)
parts_of_record b r is = subst (λ (l : List ℕ). Parts l (padded 19 r.epoch) (padded 19 r.end)) (sym is)
    (parts_of (padded 19 r.epoch) (padded 19 r.end) (length-padded 19 r.epoch) (length-padded 19 r.end))

pub from_parts : (b p q : List ℕ) → length b ≡ 40 → Parts b p q → b ≡ p ++ 32 ∷ (q ++ 10 ∷ [])
from_parts b p q long parts =
    let last : drop 39 b ≡ 10 ∷ [] = drop_more b 39 0 (omega arith) ∙ ap (λ (l : List ℕ). get_or b 39 0 ∷ l) (drop_all 40 b (omega arith)) ∙ ap (λ (x : ℕ). x ∷ []) parts.end in
    let behind : drop 20 b ≡ q ++ 10 ∷ [] =
    sym (take-append-drop 19 (drop 20 b)) ∙ ap (λ (l : List ℕ). l ++ drop 19 (drop 20 b)) parts.second ∙ ap (λ (l : List ℕ). q ++ l) (drop-drop 19 20 b ∙ last) in
    let rest : drop 19 b ≡ 32 ∷ (q ++ 10 ∷ []) = drop_more b 19 0 (omega arith) ∙ ap (λ (x : ℕ). x ∷ drop 20 b) parts.space ∙ ap (λ (l : List ℕ). 32 ∷ l) behind in
    sym (take-append-drop 19 b) ∙ ap (λ (l : List ℕ). l ++ drop 19 b) parts.first ∙ ap (λ (l : List ℕ). p ++ l) rest

abbrev tens : List ℕ
tens = 10 ∷ 10 ∷ 10 ∷ 10 ∷ 10 ∷ 10 ∷ 10 ∷ 10 ∷ 10 ∷ 10 ∷ 10 ∷ 10 ∷ 10 ∷ 10 ∷ 10 ∷ 10 ∷ 10 ∷ 10 ∷ 10 ∷ 10 ∷ []

pub filled_in : (x y p q : List ℕ) → x ≡ p → y ≡ q → length p ≡ 19 → put_mid 20 19 (set (x ++ 10 ∷ tens) 19 32) y ≡ p ++ 32 ∷ (q ++ 10 ∷ [])
filled_in x y p q is_p is_q long =
    let whole : set (x ++ 10 ∷ tens) 19 32 ≡ (p ++ 32 ∷ []) ++ tens = ap (λ (l : List ℕ). set (l ++ 10 ∷ tens) 19 32) is_p ∙ set_at p 10 tens 32 19 long ∙ sym (append_assoc p (32 ∷ []) tens) in
    let front : length (p ++ 32 ∷ []) ≡ 20 = omega (arith, length-append p (32 ∷ []), long) in
    ap (λ (l : List ℕ). put_mid 20 19 l y) whole
    ∙ ap (λ (l : List ℕ). l ++ (y ++ drop 19 (drop 20 ((p ++ 32 ∷ []) ++ tens)))) (take_at (p ++ 32 ∷ []) tens 20 front)
    ∙ ap (λ (l : List ℕ). (p ++ 32 ∷ []) ++ (y ++ drop 19 l)) (drop_at (p ++ 32 ∷ []) tens 20 front)
    ∙ ap (λ (l : List ℕ). (p ++ 32 ∷ []) ++ (l ++ 10 ∷ [])) is_q
    ∙ append_assoc p (32 ∷ []) (q ++ 10 ∷ [])

length-number : (n : ℕ) → length (number_bytes n) ≡ 20
length-number n = omega (arith, length-append (padded 19 n) (10 ∷ []), length-padded 19 n)

length-record : (r : Record) → length (record_bytes r) ≡ 40
length-record r = omega (arith, length-append (padded 19 r.epoch) (32 ∷ (padded 19 r.end ++ 10 ∷ [])), length-append (padded 19 r.end) (10 ∷ []), length-padded 19 r.epoch, length-padded 19 r.end)

-- a file of another length holds no number, and no record
pub got_other : (name bytes into : List ℕ) (file : Option (List ℕ)) (r : Got) → IsBadNumber name r → file ≡ Some bytes → length bytes ≢ length into → length into ≡ 20 → GotOf name file r
got_other name bytes into file (got.Value n) bad is other long = absurd bad
got_other name bytes into file (got.BadFile b) bad is other long =
    (bad, λ n number. let spelled = subst (λ (f : Option (List ℕ)). IsNumber f n) is number in other (ap (λ (l : List ℕ). length l) spelled.1 ∙ length-number n ∙ sym long))
got_other name bytes into file got.DiskFault bad is other long = tt
got_other name bytes into file got.OutOfMemory bad is other long = tt

pub found_other : (name bytes into : List ℕ) (file : Option (List ℕ)) (r : GotRecord) → IsBadRecord name r → file ≡ Some bytes → length bytes ≢ length into → length into ≡ 40 → FoundIn name file r
found_other name bytes into file (found.Found e d) bad is other long = absurd bad
found_other name bytes into file found.Absent bad is other long = absurd bad
found_other name bytes into file (found.BadFile b) bad is other long = (bad, bytes, is, λ r held. other (ap (λ (l : List ℕ). length l) held.spelled ∙ length-record r ∙ sym long))
found_other name bytes into file found.DiskFault bad is other long = tt
found_other name bytes into file found.OutOfMemory bad is other long = tt
