-- A text in pieces, between its line ends, and what is read of a list of them.
use Rattle.std.specs.Prelude.{ℕ, ◌≡◌, ◌==◌, Bool, true, false, List, [], ◌∷◌, ◌++◌, length, Option, Some, None, if◌then◌else◌}
use Rattle.std.specs.List.{slice_split, join_with_byte, flat_map}
use Rattle.play_script.specs.Lines.{Lacks}
use Rattle.report_judge.specs.declared.rules.Rule.{Rule}
use Rattle.report_judge.specs.declared.unread.Unread.{Unread}
use Rattle.report_judge.specs.declared.unread.Unread.TheVariants as unread

-- what stands before, between and after the line ends: each piece but the last is a line
unfoldable pub pieces : List ℕ → List (List ℕ)
pieces text = slice_split (λ b. b == 10) text

-- the text of pieces
abbrev pub joined : List (List ℕ) → List ℕ
joined ps = join_with_byte 10 ps

-- what was read, and the pieces that are left; or the pieces from the line on that is broken, and
-- the rule that it breaks
pub data Front (A : Type 0) : Type 0 where
  Taken : (what : A) → (left : List (List ℕ)) → Front A
  Broken : (left : List (List ℕ)) → (rule : Rule) → Front A

-- the line in front, if it is that one
unfoldable pub line_if : (List ℕ → Bool) → Rule → List (List ℕ) → Front (Unit {0})
line_if own rule [] = Broken [] rule
line_if own rule (l ∷ []) = Broken (l ∷ []) rule
line_if own rule (l ∷ m ∷ ps) = if own l then Taken tt (m ∷ ps) else Broken (l ∷ m ∷ ps) rule

-- such a line comes next
unfoldable pub is_next : (List ℕ → Bool) → List (List ℕ) → Bool
is_next own [] = false
is_next own (l ∷ []) = false
is_next own (l ∷ m ∷ ps) = own l

-- one more thing in front, if it is one; if not the pieces break the rule there
abbrev pub with_line : {X : Type 0} → Rule → List (List ℕ) → Option X → Front (List X) → Front (List X)
with_line rule here None rest = Broken here rule
with_line rule here (Some x) (Taken xs left) = Taken (x ∷ xs) left
with_line rule here (Some x) (Broken left r) = Broken left r

-- the lines in front that are a list's own, as things
unfoldable pub lines_while : {X : Type 0} → (List ℕ → Bool) → (List ℕ → Option X) → Rule → List (List ℕ) → Front (List X)
lines_while own read rule [] = Taken [] []
lines_while own read rule (l ∷ []) = Taken [] (l ∷ [])
lines_while own read rule (l ∷ m ∷ ps) =
    if own l then with_line rule (l ∷ m ∷ ps) (read l) (lines_while own read rule (m ∷ ps)) else Taken [] (l ∷ m ∷ ps)

-- these things before those
abbrev pub behind : {X : Type 0} → List X → Front (List X) → Front (List X)
behind done (Taken xs left) = Taken (done ++ xs) left
behind done (Broken left rule) = Broken left rule

-- what follows what was read
abbrev pub then_ : {A B : Type 0} → Front A → (A → List (List ℕ) → Front B) → Front B
then_ (Taken x left) next = next x left
then_ (Broken left rule) next = Broken left rule

-- so many bytes are left from the broken line on, and it breaks this rule
abbrev pub IsBroken : {A : Type 0} → Front A → ℕ → Rule → Type 0
IsBroken (Taken x left) bytes rule = ⊥
IsBroken (Broken left r) bytes rule = (r ≡ rule) × (bytes ≡ length (joined left))

-- reading stopped there, or for lack of memory
abbrev pub Stops : {A : Type 0} → Front A → Unread → Type 0
Stops front (unread.Bad left rule) = IsBroken front left rule
Stops front unread.OutOfMemory = Unit {0}

-- The text of a thing is a line of a list's own, which is read as a thing with that text.
pub record IsLineOf {X : Type 0} (own : List ℕ → Bool) (read : List ℕ → Option X) (text : X → List ℕ) (x : X) : Type 0 where
  pub line : List ℕ
  pub spelled : text x ≡ line ++ 10 ∷ []
  pub whole : Lacks 10 line
  pub own_line : own line ≡ true
  pub thing : X
  pub is_read : read line ≡ Some thing
  pub same : text thing ≡ text x

-- Things with the texts of others, which are read of what stands before the pieces.
pub record AreRead {X : Type 0} (front : List (List ℕ) → Front (List X)) (text : X → List ℕ) (xs : List X) (after : List ℕ) : Type 0 where
  pub things : List X
  pub are : front (pieces (flat_map text xs ++ after)) ≡ behind things (front (pieces after))
  pub same : flat_map text things ≡ flat_map text xs
