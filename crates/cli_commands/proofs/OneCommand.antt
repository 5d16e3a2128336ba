-- Words are of one command at most.
use Rattle.std.proofs.Common.{◌≡◌, ℕ, ◌≤◌, List, [], ◌∷◌, refl, sym, ap, ◌∙◌, arith}
use Rattle.std.specs.Prelude.{codes, if◌then◌else◌}
use Rattle.std.specs.Str.{bytes_eq}
use Rattle.std.specs.Str.Parse.{digits_value}
use Rattle.journal_core.specs.Nodes.{most_nodes}
use Rattle.play_script.proofs.NumberLaws.{number_again}
use Rattle.cli_commands.specs.declared.tool.SegmentTool.{SegmentTool}
use Rattle.cli_commands.specs.declared.tool.SegmentTool.TheVariants as segment
use Rattle.cli_commands.specs.declared.tool.ImageTool.{ImageTool}
use Rattle.cli_commands.specs.declared.tool.ImageTool.TheVariants as image
use Rattle.cli_commands.specs.Tools.{Tool}
use Rattle.cli_commands.specs.Tools as tool
use Rattle.cli_commands.specs.Commands.{Asked, play, run, piped, mirror, boot, node, fsck, judge, states, gen, list, words_of, IsAllowed, AskFor}

-- the command of these words, which are one's
unfoldable alone_at : List ℕ → Asked
alone_at word =
    if bytes_eq word (codes "play") then play
    else (if bytes_eq word (codes "run") then run else (if bytes_eq word (codes "piped") then piped else (if bytes_eq word (codes "mirror") then mirror
    else (if bytes_eq word (codes "boot") then boot else (if bytes_eq word (codes "node") then node
    else (if bytes_eq word (codes "fsck") then fsck else (if bytes_eq word (codes "judge") then judge else states)))))))

unfoldable segment_at : List ℕ → SegmentTool
segment_at word = if bytes_eq word (codes "list") then segment.List else (if bytes_eq word (codes "stats") then segment.Stats else segment.Json)

unfoldable image_at : List ℕ → ImageTool
image_at word = if bytes_eq word (codes "delimited") then image.Delimited else (if bytes_eq word (codes "sizes") then image.Sizes else image.Json)

unfoldable tool_at : List ℕ → List ℕ → Tool
tool_at program word = if bytes_eq program (codes "oev") then tool.Oev (segment_at word) else tool.Oiv (image_at word)

unfoldable asked_at : List (List ℕ) → Asked
asked_at [] = play
asked_at (word ∷ []) = alone_at word
asked_at (program ∷ word ∷ []) = play
asked_at (program ∷ word ∷ name ∷ []) = list (tool_at program word) name
asked_at (word ∷ second ∷ third ∷ fourth ∷ []) =
    if bytes_eq word (codes "gen") then gen (digits_value 10 second) (digits_value 10 third) (digits_value 10 fourth) else list (tool.Ls fourth) third
asked_at (program ∷ word ∷ name ∷ start ∷ epoch ∷ words) = list (tool.Back (digits_value 10 start) (digits_value 10 epoch)) name

asked_back : (asked : Asked) → IsAllowed asked → asked_at (words_of asked) ≡ asked
unfolding asked_at tool_at image_at segment_at alone_at
asked_back play h = refl
asked_back run h = refl
asked_back piped h = refl
asked_back mirror h = refl
asked_back boot h = refl
asked_back node h = refl
asked_back fsck h = refl
asked_back judge h = refl
asked_back states h = refl
asked_back (gen number edits nodes) h =
    let a : number ≤ 4611686018427387904 = h.number_fits in
    let b : edits ≤ 10000 = h.few_edits in
    let c : nodes ≤ most_nodes = h.permitted.1 in
    let n = number_again number (omega (arith, a)) in
    let e = number_again edits (omega (arith, b)) in
    let k = number_again nodes (omega (arith, c)) in
    (λ i. gen (n i) (e i) (k i))
asked_back (list (tool.Oev segment.List) name) h = refl
asked_back (list (tool.Oev segment.Stats) name) h = refl
asked_back (list (tool.Oev segment.Json) name) h = refl
asked_back (list (tool.Oiv image.Delimited) name) h = refl
asked_back (list (tool.Oiv image.Sizes) name) h = refl
asked_back (list (tool.Oiv image.Json) name) h = refl
asked_back (list (tool.Ls path) name) h = refl
asked_back (list (tool.Back start epoch) name) h =
    let a : start ≤ 4611686018427387904 = h.start_within in
    let b : epoch ≤ 4611686018427387904 = h.epoch_within in
    let s = number_again start (omega (arith, a)) in
    let e = number_again epoch (omega (arith, b)) in
    (λ i. list (tool.Back (s i) (e i)) name)

-- words are of one command
pub one_command : (words : List (List ℕ)) (a b : Asked) → AskFor words a → AskFor words b → a ≡ b
one_command words a b p q = sym (asked_back a p.allowed) ∙ (ap asked_at (sym p.words_are ∙ q.words_are) ∙ asked_back b q.allowed)
