-- The request that a line says, or the first rule that it breaks.
use Rattle.std.specs.Prelude.{ℕ, ◌+◌, ◌-◌, ◌^◌, ◌==◌, ◌&&◌, ◌||◌, Bool, true, false, not, nat_lt, List, [], ◌∷◌, length, drop, Option, Some, None, if◌then◌else◌, codes}
use Rattle.std.specs.List.{list_any}
use Rattle.std.specs.Str.{bytes_eq}
use Rattle.std.specs.Str.Parse.{digits_value}
use Rattle.base_words.specs.Words.{is_empty, words_of, first_word}
use Rattle.base_words.specs.Hex.{bytes_in}
use Rattle.base_words.specs.WordNumbers.{is_number}
use Rattle.journal_core.specs.Views.{HeadView}
use Rattle.journal_core.specs.declared.request.Request.{Request}
use Rattle.journal_core.specs.declared.request.Request.TheVariants as request
use Rattle.journal_text.specs.declared.request_word.RequestWord.{RequestWord}
use Rattle.journal_text.specs.declared.request_word.RequestWord.TheVariants as word
use Rattle.journal_text.specs.declared.request_line.ReadRequest.{ReadRequest}
use Rattle.journal_text.specs.declared.request_line.ReadRequest.TheVariants.{Read, Bad}

abbrev pub word_text : RequestWord → List ℕ
word_text word.State = codes "state"
word_text word.NewEpoch = codes "new"
word_text word.Start = codes "start"
word_text word.Journal = codes "journal"
word_text word.Finalize = codes "finalize"
word_text word.Prepare = codes "prepare"
word_text word.Fetch = codes "fetch"
word_text word.Accept = codes "accept"
word_text word.Purge = codes "purge"
word_text word.Read = codes "read"
word_text word.Manifest = codes "manifest"

abbrev pub all_words : List RequestWord
all_words =
    word.State ∷ word.NewEpoch ∷ word.Start ∷ word.Journal ∷ word.Finalize ∷ word.Prepare ∷ word.Fetch ∷ word.Accept ∷ word.Purge ∷ word.Read ∷ word.Manifest ∷ []

-- the one of these that has the text
abbrev pub word_among : List RequestWord → List ℕ → Option RequestWord
word_among [] text = None
word_among (w ∷ ws) text = if bytes_eq text (word_text w) then Some w else word_among ws text

unfoldable pub word_of : List ℕ → Option RequestWord
word_of text = word_among all_words text

-- the least value of each number that follows the word
abbrev pub leasts_of : RequestWord → List ℕ
leasts_of word.State = []
leasts_of word.NewEpoch = 0 ∷ []
leasts_of word.Start = 1 ∷ 1 ∷ 0 ∷ 1 ∷ []
leasts_of word.Journal = 1 ∷ 1 ∷ 0 ∷ 1 ∷ 1 ∷ []
leasts_of word.Finalize = 1 ∷ 1 ∷ 0 ∷ 1 ∷ 0 ∷ []
leasts_of word.Prepare = 1 ∷ 1 ∷ 0 ∷ 1 ∷ []
leasts_of word.Fetch = 1 ∷ 1 ∷ 0 ∷ 1 ∷ 1 ∷ []
leasts_of word.Accept = 1 ∷ 1 ∷ 0 ∷ 1 ∷ []
leasts_of word.Purge = 1 ∷ 1 ∷ 0 ∷ 0 ∷ []
leasts_of word.Read = 1 ∷ []
leasts_of word.Manifest = []

-- bodies follow the numbers
abbrev pub has_bodies : RequestWord → Bool
has_bodies word.Journal = true
has_bodies word.Accept = true
has_bodies _ = false

-- the line has as many words as the request
abbrev pub fits_count : RequestWord → ℕ → Bool
fits_count w count = if has_bodies w then nat_lt (length (leasts_of w) + 1) count else (length (leasts_of w) + 1) == count

-- a decimal number without a leading zero, of 64 bits and no less than that
unfoldable pub number_in : ℕ → List ℕ → Option ℕ
number_in least w = if is_number least (2 ^ 64 - 1) w then Some (digits_value 10 w) else None

abbrev pub put_first : {A : Type 0} → Option A → Option (List A) → Option (List A)
put_first (Some x) (Some xs) = Some (x ∷ xs)
put_first (Some x) None = None
put_first None xs = None

abbrev pub numbers_in : List ℕ → List (List ℕ) → Option (List ℕ)
numbers_in [] ws = Some []
numbers_in (l ∷ ls) [] = None
numbers_in (l ∷ ls) (w ∷ ws) = put_first (number_in l w) (numbers_in ls ws)

abbrev pub body_of_size : Option (List ℕ) → Option (List ℕ)
body_of_size None = None
body_of_size (Some bs) = if is_empty bs || nat_lt 4096 (length bs) then None else Some bs

-- a body of one to 4,096 bytes
unfoldable pub body_in : List ℕ → Option (List ℕ)
body_in w = body_of_size (bytes_in w)

abbrev pub bodies_in : List (List ℕ) → Option (List (List ℕ))
bodies_in [] = Some []
bodies_in (w ∷ ws) = put_first (body_in w) (bodies_in ws)

abbrev pub head_with : ℕ → ℕ → ℕ → HeadView
head_with epoch serial committed = record { epoch = epoch; serial = serial; committed = committed }

-- the request of these numbers and bodies
abbrev pub made : RequestWord → List ℕ → List (List ℕ) → Request
made word.NewEpoch (n ∷ _) bodies = request.NewEpoch n
made word.Start (e ∷ s ∷ c ∷ m ∷ _) bodies = request.Start (head_with e s c) m
made word.Journal (e ∷ s ∷ c ∷ m ∷ f ∷ _) bodies = request.Journal (head_with e s c) m (record { first = f; bodies = bodies })
made word.Finalize (e ∷ s ∷ c ∷ m ∷ n ∷ _) bodies = request.Finalize (head_with e s c) m n
made word.Prepare (e ∷ s ∷ c ∷ m ∷ _) bodies = request.Prepare (head_with e s c) m
made word.Fetch (e ∷ s ∷ c ∷ m ∷ f ∷ _) bodies = request.Fetch (head_with e s c) m f
made word.Accept (e ∷ s ∷ c ∷ f ∷ _) bodies = request.Accept (head_with e s c) (record { first = f; bodies = bodies })
made word.Purge (e ∷ s ∷ c ∷ n ∷ _) bodies = request.Purge (head_with e s c) n
made word.Read (f ∷ _) bodies = request.Read f
made word.Manifest _ bodies = request.Manifest
made _ _ bodies = request.State

-- rule 8: a body that isn't one
abbrev pub by_bodies : RequestWord → List ℕ → Option (List (List ℕ)) → ReadRequest
by_bodies w ns None = Bad 8
by_bodies w ns (Some bodies) = Read (made w ns bodies)

-- rule 7: a number that isn't one, or is too small
abbrev pub by_numbers : RequestWord → Option (List ℕ) → List (List ℕ) → ReadRequest
by_numbers w None ws = Bad 7
by_numbers w (Some ns) ws = by_bodies w ns (bodies_in ws)

-- rule 3: a wrong number of words, or a space too many
abbrev pub by_count : RequestWord → List (List ℕ) → Bool → ReadRequest
by_count w ws true = by_numbers w (numbers_in (leasts_of w) (drop 1 ws)) (drop (length (leasts_of w)) (drop 1 ws))
by_count w ws false = Bad 3

-- rule 2: no such word
abbrev pub by_word : Option RequestWord → List (List ℕ) → ReadRequest
by_word None ws = Bad 2
by_word (Some w) ws = by_count w ws (not (list_any is_empty ws) && fits_count w (length ws))

-- Memory is wanted for the bodies of a request alone.
abbrev pub takes_memory : ReadRequest → Bool
takes_memory (Read (request.Journal head start batch)) = true
takes_memory (Read (request.Accept head batch)) = true
takes_memory _ = false

-- what a line says
unfoldable pub reading_of : List ℕ → ReadRequest
reading_of line = by_word (word_of (first_word (words_of line))) (words_of line)
