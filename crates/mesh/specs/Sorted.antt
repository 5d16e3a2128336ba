-- When blocks and tagged lines stand in order.
use Rattle.std.specs.Prelude.{◌≡◌, ℕ, ◌+◌, ◌==◌, List, [], ◌∷◌, Bool, true, false}
use Rattle.journal_history.specs.declared.history_line.HistoryLine.{HistoryLine}
use Rattle.journal_history.specs.Cell.{fresh_cell}
use Rattle.journal_history.specs.Moving.{falls}
use Rattle.mesh.specs.declared.whole.Mesh.{Mesh}
use Rattle.mesh.specs.Order.{Key, Block, is_below, Tagged, tags_of}

-- no block of the list that passes the test stands below b
unfoldable pub NoneBelow : (Block → Bool) → Block → List Block → Type 0
NoneBelow test b [] = Unit {0}
NoneBelow test b (c ∷ cs) = (test c ≡ true → is_below c.key b.key ≡ false) × NoneBelow test b cs

-- those that pass the test stand in order
unfoldable pub InOrder : (Block → Bool) → List Block → Type 0
InOrder test [] = Unit {0}
InOrder test (b ∷ bs) = (test b ≡ true → NoneBelow test b bs) × InOrder test bs

-- no line of the list that begins a block has a key below this one
unfoldable pub NotBelow : Key → List Tagged → Type 0
NotBelow key [] = Unit {0}
NotBelow key (t ∷ ts) = (falls t.entry.move ≡ false → is_below t.key key ≡ false) × NotBelow key ts

-- the keys of the lines that begin blocks never fall
unfoldable pub Rising : List Tagged → Type 0
Rising [] = Unit {0}
Rising (t ∷ ts) = (falls t.entry.move ≡ false → NotBelow t.key ts) × Rising ts

abbrev pub is_at : ℕ → Block → Bool
is_at node b = b.node == node

-- of each node, from this one on
unfoldable pub AllRising : Mesh → ℕ → List (List HistoryLine) → Type 0
AllRising m node [] = Unit {0}
AllRising m node (hs ∷ hss) = Rising (tags_of m node fresh_cell [] hs) × AllRising m (node + 1) hss
