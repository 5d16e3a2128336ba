-- Which requests have a text, and what reading and printing have to do with each other.
use Rattle.std.specs.Prelude.{ℕ, ◌≡◌, ◌≤◌, ◌<◌, ◌^◌, true, List, [], ◌∷◌, length}
use Rattle.std.specs.List.{AllByRecursion}
use Rattle.base_words.specs.Hex.{IsByte}
use Rattle.journal_core.specs.declared.request.Request.{Request}
use Rattle.journal_core.specs.declared.request.Request.TheVariants as request
use Rattle.journal_text.specs.declared.request_word.RequestWord.{RequestWord}
use Rattle.journal_text.specs.declared.request_word.RequestWord.TheVariants as word
use Rattle.journal_text.specs.declared.request_line.ReadRequest.TheVariants.{Read}
use Rattle.journal_core.specs.Limits.{bodies_of}
use Rattle.journal_text.specs.Texts.{asked_by, request_text}
use Rattle.journal_text.specs.Reading.{leasts_of, has_bodies, reading_of}

abbrev pub word_for : Request → RequestWord
word_for request.State = word.State
word_for (request.NewEpoch epoch) = word.NewEpoch
word_for (request.Start head start) = word.Start
word_for (request.Journal head start batch) = word.Journal
word_for (request.Finalize head start end) = word.Finalize
word_for (request.Prepare head start) = word.Prepare
word_for (request.Fetch head start from) = word.Fetch
word_for (request.Accept head batch) = word.Accept
word_for (request.Purge head min) = word.Purge
word_for (request.Read from) = word.Read
word_for request.Manifest = word.Manifest

-- the numbers of a text, in order
abbrev pub numbers_for : Request → List ℕ
numbers_for request.State = []
numbers_for (request.NewEpoch epoch) = epoch ∷ []
numbers_for (request.Start head start) = asked_by head (start ∷ [])
numbers_for (request.Journal head start batch) = asked_by head (start ∷ batch.first ∷ [])
numbers_for (request.Finalize head start end) = asked_by head (start ∷ end ∷ [])
numbers_for (request.Prepare head start) = asked_by head (start ∷ [])
numbers_for (request.Fetch head start from) = asked_by head (start ∷ from ∷ [])
numbers_for (request.Accept head batch) = asked_by head (batch.first ∷ [])
numbers_for (request.Purge head min) = asked_by head (min ∷ [])
numbers_for (request.Read from) = from ∷ []
numbers_for request.Manifest = []

-- each number is of 64 bits and no less than its least value
abbrev pub AreNumbers : List ℕ → List ℕ → Type 0
AreNumbers [] [] = Unit {0}
AreNumbers (l ∷ ls) (n ∷ ns) = (l ≤ n) × (n < 2 ^ 64) × AreNumbers ls ns
AreNumbers _ _ = ⊥

-- one to 4,096 bytes
pub record IsBody (body : List ℕ) : Type 0 where
  pub some : 0 < length body
  pub short : length body ≤ 4096
  pub bytes : AllByRecursion IsByte body

-- A request that has a text: its starts, first txids, epochs and serials are at least 1, its batch
-- has a body, and each body is one.
pub record IsRequest (r : Request) : Type 0 where
  pub numbers : AreNumbers (leasts_of (word_for r)) (numbers_for r)
  pub bodies : AllByRecursion IsBody (bodies_of r)
  pub some : has_bodies (word_for r) ≡ true → 0 < length (bodies_of r)

-- what is printed is read as the same request
abbrev pub TextsAreRead : Type 0
TextsAreRead = (r : Request) → IsRequest r → reading_of (request_text r) ≡ Read r
