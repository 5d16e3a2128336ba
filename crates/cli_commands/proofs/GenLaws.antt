-- The words of `gen`.
use Rattle.std.proofs.Common.{◌≡◌, ℕ, List, [], ◌∷◌, sym, subst}
use Rattle.std.specs.Prelude.{codes}
use Rattle.play_script.specs.Words.{greatest}
use Rattle.base_words.specs.WordNumbers.{Tells}
use Rattle.journal_core.specs.Nodes.{most_nodes}
use Rattle.cli_commands.specs.Commands.{gen, AskFor}

pub asks_gen : (words : List (List ℕ)) (first second third : List ℕ) (number edits nodes : ℕ) → words ≡ first ∷ second ∷ third ∷ [] → Tells 0 greatest first number → Tells 0 10000 second edits
    → Tells 1 most_nodes third nodes → AskFor (codes "gen" ∷ words) (gen number edits nodes)
asks_gen words first second third number edits nodes is n e k =
    subst (λ ws. AskFor (codes "gen" ∷ ws) (gen number edits nodes)) (sym is) (record {
      words_are = (λ i. codes "gen" ∷ sym n.1 i ∷ sym e.1 i ∷ sym k.1 i ∷ []);
      allowed = record { number_fits = n.3; few_edits = e.3; permitted = (k.2, k.3) };
    })

pub ruleset asks = (asks_gen)
