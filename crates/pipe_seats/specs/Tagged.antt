-- Lines with a tag: a number sign, two numbers, a text, and a point at the end.
use Rattle.std.specs.Prelude.{ℕ, ◌≡◌, ◌≢◌, ◌<◌, ◌+◌, ◌^◌, ◌==◌, List, [], ◌∷◌, ◌++◌, if◌then◌else◌, decimal}
use Rattle.journal_core.specs.declared.request.Request.{Request}
use Rattle.journal_core.specs.declared.reply.Reply.{Reply}
use Rattle.journal_text.specs.Texts.{request_text, reply_text}
use Rattle.journal_text.specs.Lines.{IsRequest}
use Rattle.journal_text.specs.Exact.{IsReadable}

-- how often a byte stands in a text
abbrev pub count : ℕ → List ℕ → ℕ
count b [] = 0
count b (x ∷ xs) = (if x == b then 1 else 0) + count b xs

-- no number sign and no point
pub record IsPlain (text : List ℕ) : Type 0 where
  pub no_sign : count 35 text ≡ 0
  pub no_point : count 46 text ≡ 0

-- `#LIFE CALL TEXT .`, without its line feed
abbrev pub tagged : ℕ → ℕ → List ℕ → List ℕ
tagged life call text = 35 ∷ decimal life ++ 32 ∷ decimal call ++ 32 ∷ text ++ 32 ∷ 46 ∷ []

pub record IsTagged (line : List ℕ) : Type 0 where
  pub life : ℕ
  pub call : ℕ
  pub text : List ℕ
  pub wide_life : life < 2 ^ 64
  pub wide_call : call < 2 ^ 64
  pub plain : IsPlain text
  pub is : line ≡ tagged life call text

abbrev pub CutLinesAreNone : Type 0
CutLinesAreNone = (front rest : List ℕ) → rest ≢ [] → IsTagged (front ++ rest) → IsTagged front → ⊥

abbrev pub GluedLinesAreNone : Type 0
GluedLinesAreNone = (front rest line : List ℕ) → front ≢ [] → IsTagged (front ++ rest) → IsTagged line → IsTagged (front ++ line) → ⊥

pub record TextsArePlain : Type 0 where
  pub requests : (r : Request) → IsRequest r → IsPlain (request_text r)
  pub replies : (a : Reply) → IsReadable a → IsPlain (reply_text a)

-- ## The parts of a line
pub record IsSigned (line : List ℕ) : Type 0 where
  pub rest : List ℕ
  pub is : line ≡ 35 ∷ rest

pub record IsEnded (text : List ℕ) : Type 0 where
  pub front : List ℕ
  pub is : text ≡ front ++ 32 ∷ 46 ∷ []

pub record BeginsWithNumber (text : List ℕ) : Type 0 where
  pub number : ℕ
  pub rest : List ℕ
  pub wide : number < 2 ^ 64
  pub is : text ≡ decimal number ++ 32 ∷ rest
