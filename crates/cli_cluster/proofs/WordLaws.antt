-- The words of `serve` and `lead`.
use Rattle.std.proofs.Common.{◌≡◌, ◌≤◌, ℕ, List, [], ◌∷◌, decimal, codes, sym, ap, ◌∙◌}
use Rattle.base_words.specs.WordNumbers.{Tells}
use Rattle.journal_core.specs.Nodes.{most_nodes}
use Rattle.cli_cluster.specs.declared.cluster_command.PipeFolder.{PipeFolder}
use Rattle.cli_cluster.specs.declared.cluster_command.NodeFolder.{NodeFolder}
use Rattle.cli_cluster.specs.declared.cluster_command.ClusterCommand.TheVariants as cluster
use Rattle.cli_cluster.specs.Words.{AsksCluster, IsWithinTime, folder_words, node_words, most_clients, most_seconds}

-- a number stands behind the folder, of that range
pub time_said : (words : List (List ℕ)) (name word : List ℕ) (n : ℕ) → words ≡ name ∷ word ∷ [] → Tells 1 most_seconds word n
    → (words ≡ name ∷ decimal n ∷ []) × (1 ≤ n) × (n ≤ most_seconds)
time_said words name word n is t = (is ∙ ap (λ (w : List ℕ). name ∷ w ∷ []) (sym t.1), t.2, t.3)

pub ruleset times = (time_said)

pub serve_said : (words rest : List (List ℕ)) (word : List ℕ) (n : ℕ) (f : PipeFolder) → words ≡ word ∷ rest → Tells 1 most_clients word n → rest ≡ folder_words f
    → AsksCluster (codes "serve" ∷ words) (cluster.Serve n f)
serve_said words rest word n f is t e = record {
  are = ap (λ (w : List (List ℕ)). codes "serve" ∷ w) (is ∙ ap (λ (w : List ℕ). w ∷ rest) (sym t.1) ∙ ap (λ (w : List (List ℕ)). decimal n ∷ w) e);
  allowed = (t.2, t.3);
}

pub ruleset served = (serve_said)

pub lead_said : (words rest : List (List ℕ)) (word : List ℕ) (n : ℕ) (f : NodeFolder) → words ≡ word ∷ rest → Tells 1 most_nodes word n → rest ≡ node_words f → IsWithinTime f
    → AsksCluster (codes "lead" ∷ words) (cluster.Lead n f)
lead_said words rest word n f is t e w = record {
  are = ap (λ (w : List (List ℕ)). codes "lead" ∷ w) (is ∙ ap (λ (w : List ℕ). w ∷ rest) (sym t.1) ∙ ap (λ (w : List (List ℕ)). decimal n ∷ w) e);
  allowed = ((t.2, t.3), w);
}

pub ruleset leads = (lead_said)
