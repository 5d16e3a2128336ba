-- What is left of a line.
use Rattle.std.specs.Prelude.{ℕ, List, [], ◌∷◌, Option, Some, None, option_map}
use Rattle.base_words.specs.Words.{words_of}
use Rattle.journal_core.specs.Views.{HeadView}
use Rattle.journal_core.specs.declared.request.Request.{Request}
use Rattle.journal_text.specs.declared.request_word.RequestWord.{RequestWord}
use Rattle.journal_text.specs.Reading.{leasts_of, numbers_in, made}

abbrev pub words_left : Option (List ℕ) → List (List ℕ)
words_left None = []
words_left (Some rest) = words_of rest

-- the numbers of a head, and those after them
abbrev pub with_head : Option HeadView → Option (List ℕ) → Option (List ℕ)
with_head None ns = None
with_head (Some h) None = None
with_head (Some h) (Some ns) = Some (h.epoch ∷ h.serial ∷ h.committed ∷ ns)

-- the request of a kind without bodies, from the words after its first
abbrev pub asked : RequestWord → List (List ℕ) → Option Request
asked w ws = option_map (λ ns. made w ns []) (numbers_in (leasts_of w) ws)
