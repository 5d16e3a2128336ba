-- Laws of the reading of lines.
use Rattle.std.proofs.Common.{ℕ, ◌≡◌, ◌≢◌, ◌<◌, ◌≤◌, ◌+◌, ◌&&◌, List, [], ◌∷◌, length, drop, Option, Some, None, is_some, Bool, true, false, not}
use Rattle.std.proofs.Common.{refl, sym, ap, ◌∙◌, arith, option_map, IsTrue, length-drop}
use Rattle.std.specs.List.{list_any}
use Rattle.std.proofs.lemmas.Bool.Decides.{nat_tests}
use Rattle.std.proofs.lemmas.List.{drop_all}
use Rattle.journal_core.specs.declared.request.Request.{Request}
use Rattle.journal_text.specs.declared.request_word.RequestWord.{RequestWord}
use Rattle.journal_text.specs.declared.request_word.RequestWord.TheVariants as word
use Rattle.journal_text.specs.declared.request_line.ReadRequest.{ReadRequest}
use Rattle.journal_text.specs.declared.request_line.ReadRequest.TheVariants.{Read, Bad, OutOfMemory}
use Rattle.base_words.specs.Words.{is_empty, words_of, first_word}
use Rattle.journal_text.specs.Reading.{word_of, has_bodies, leasts_of, fits_count, numbers_in, bodies_in, made, by_bodies, by_numbers, by_count, by_word, takes_memory, reading_of}
use Rattle.journal_text.specs.Words.{asked}

pub asked_none : (w : RequestWord) (ws : List (List ℕ)) → numbers_in (leasts_of w) ws ≡ None → None ≡ asked w ws
asked_none w ws e = sym (ap (option_map (λ ns. made w ns [])) e)

pub asked_some : (w : RequestWord) (ws : List (List ℕ)) (ns : List ℕ) → numbers_in (leasts_of w) ws ≡ Some ns → Some (made w ns []) ≡ asked w ws
asked_some w ws ns e = sym (ap (option_map (λ ns. made w ns [])) e)

-- bodies are left
pub some_bodies : (bodies ws all : List (List ℕ)) (n : ℕ) → length bodies ≡ length ws → ws ≡ drop n all → n < length all → bodies ≢ []
some_bodies bodies ws all n e d l h =
    let none : length bodies ≡ 0 = ap length h in
    let rest : length ws ≡ length (drop n all) = ap length d in
    absurd (omega (arith, length-drop n all))

abbrev plain_answer : Option Request → ReadRequest
plain_answer None = Bad 7
plain_answer (Some r) = Read r

by_none : (w : RequestWord) (ns : Option (List ℕ)) (rest : List (List ℕ)) → rest ≡ [] → by_numbers w ns rest ≡ plain_answer (option_map (λ xs. made w xs []) ns)
by_none w None rest e = refl
by_none w (Some ns) rest e = rw e refl

-- nothing is left behind the numbers
pub plain_reads : (w : RequestWord) (ws : List (List ℕ)) (r : Request) → has_bodies w ≡ false → IsTrue (fits_count w (length ws + 1))
    → Some r ≡ asked w ws → Read r ≡ by_numbers w (numbers_in (leasts_of w) ws) (drop (length (leasts_of w)) ws)
plain_reads w ws r plain fits e =
    let all : length ws ≤ length (leasts_of w) = grind (arith, nat_tests) in
    sym (by_none w (numbers_in (leasts_of w) ws) (drop (length (leasts_of w)) ws) (drop_all (length (leasts_of w)) ws all) ∙ ap plain_answer (sym e))

pub plain_fails : (w : RequestWord) (ws : List (List ℕ)) → has_bodies w ≡ false → IsTrue (fits_count w (length ws + 1)) → None ≡ asked w ws
    → Bad 7 ≡ by_numbers w (numbers_in (leasts_of w) ws) (drop (length (leasts_of w)) ws)
plain_fails w ws plain fits e =
    let all : length ws ≤ length (leasts_of w) = grind (arith, nat_tests) in
    sym (by_none w (numbers_in (leasts_of w) ws) (drop (length (leasts_of w)) ws) (drop_all (length (leasts_of w)) ws all) ∙ ap plain_answer (sym e))

pub ruleset counted = (plain_reads, plain_fails)

-- ## Where memory is wanted
journal_bodies : (e s c m f : ℕ) (bodies : Option (List (List ℕ))) → is_some bodies ≡ true → takes_memory (by_bodies word.Journal (e ∷ s ∷ c ∷ m ∷ f ∷ []) bodies) ≡ true
journal_bodies e s c m f None h = absurd cc
journal_bodies e s c m f (Some bodies) h = refl

pub journal_takes : (ns : Option (List ℕ)) (e s c m f : ℕ) (ws : List (List ℕ)) → ns ≡ Some (e ∷ s ∷ c ∷ m ∷ f ∷ []) → is_some (bodies_in ws) ≡ true
    → takes_memory (by_numbers word.Journal ns ws) ≡ true
journal_takes ns e s c m f ws h some = ap (λ xs. takes_memory (by_numbers word.Journal xs ws)) h ∙ journal_bodies e s c m f (bodies_in ws) some

accept_bodies : (e s c f : ℕ) (bodies : Option (List (List ℕ))) → is_some bodies ≡ true → takes_memory (by_bodies word.Accept (e ∷ s ∷ c ∷ f ∷ []) bodies) ≡ true
accept_bodies e s c f None h = absurd cc
accept_bodies e s c f (Some bodies) h = refl

pub accept_takes : (ns : Option (List ℕ)) (e s c f : ℕ) (ws : List (List ℕ)) → ns ≡ Some (e ∷ s ∷ c ∷ f ∷ []) → is_some (bodies_in ws) ≡ true → takes_memory (by_numbers word.Accept ns ws) ≡ true
accept_takes ns e s c f ws h some = ap (λ xs. takes_memory (by_numbers word.Accept xs ws)) h ∙ accept_bodies e s c f (bodies_in ws) some

-- what a line says isn't lack of memory
bodies_told : (w : RequestWord) (ns : List ℕ) (bodies : Option (List (List ℕ))) → by_bodies w ns bodies ≢ OutOfMemory
bodies_told w ns None e = cc
bodies_told w ns (Some bodies) e = cc

numbers_told : (w : RequestWord) (ns : Option (List ℕ)) (ws : List (List ℕ)) → by_numbers w ns ws ≢ OutOfMemory
numbers_told w None ws e = cc
numbers_told w (Some ns) ws e = bodies_told w ns (bodies_in ws) e

count_told : (w : RequestWord) (ws : List (List ℕ)) (b : Bool) → by_count w ws b ≢ OutOfMemory
count_told w ws true e = numbers_told w (numbers_in (leasts_of w) (drop 1 ws)) (drop (length (leasts_of w)) (drop 1 ws)) e
count_told w ws false e = cc

word_told : (o : Option RequestWord) (ws : List (List ℕ)) → by_word o ws ≢ OutOfMemory
word_told None ws e = cc
word_told (Some w) ws e = count_told w ws (not (list_any is_empty ws) && fits_count w (length ws)) e

-- a line that breaks a rule takes no memory
pub bad_takes : (line : List ℕ) (rule : ℕ) → takes_memory (reading_of line) ≡ true → reading_of line ≢ Bad rule
bad_takes line rule h e = let is : false ≡ true = sym (ap takes_memory e) ∙ h in absurd cc

pub reading_told : (line : List ℕ) → reading_of line ≢ OutOfMemory
unfolding reading_of
reading_told line e = word_told (word_of (first_word (words_of line))) (words_of line) e

pub length_after : (ws : List (List ℕ)) → 0 < length ws → length (drop 1 ws) + 1 ≡ length ws
length_after ws l = omega (arith, length-drop 1 ws)

pub ruleset lines = (length_after)
