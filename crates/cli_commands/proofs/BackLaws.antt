-- The words of `oev back`.
use Rattle.std.proofs.Common.{◌≡◌, ℕ, List, [], ◌∷◌, sym, subst}
use Rattle.std.specs.Prelude.{codes}
use Rattle.play_script.specs.Words.{greatest}
use Rattle.base_words.specs.WordNumbers.{Tells}
use Rattle.cli_commands.specs.Tools as tool
use Rattle.cli_commands.specs.Commands.{list, AskFor}

pub asks_back : (words : List (List ℕ)) (name first second : List ℕ) (start epoch : ℕ) → words ≡ name ∷ first ∷ second ∷ [] → Tells 1 greatest first start → Tells 1 greatest second epoch
    → AskFor (codes "oev" ∷ codes "back" ∷ words) (list (tool.Back start epoch) name)
asks_back words name first second start epoch is n e =
    subst (λ ws. AskFor (codes "oev" ∷ codes "back" ∷ ws) (list (tool.Back start epoch) name)) (sym is) (record {
      words_are = (λ i. codes "oev" ∷ codes "back" ∷ name ∷ sym n.1 i ∷ sym e.1 i ∷ []);
      allowed = record { some_start = n.2; start_within = n.3; some_epoch = e.2; epoch_within = e.3 };
    })

pub ruleset asks = (asks_back)
