-- The commands of a cluster, and the words that ask for them.
use Rattle.std.specs.Prelude.{ℕ, ◌≡◌, ◌≤◌, ◌||◌, Bool, false, List, [], ◌∷◌, Option, Some, None, codes, decimal, if◌then◌else◌}
use Rattle.std.specs.Str.{bytes_eq}
use Rattle.base_words.specs.WordNumbers.{is_number}
use Rattle.journal_core.specs.Nodes.{most_nodes, PermittedNodes}
use Rattle.cli_cluster.specs.declared.cluster_command.PipeFolder.{PipeFolder}
use Rattle.cli_cluster.specs.declared.cluster_command.PipeFolder.TheVariants as pipe_folder
use Rattle.cli_cluster.specs.declared.cluster_command.NodeFolder.{NodeFolder}
use Rattle.cli_cluster.specs.declared.cluster_command.NodeFolder.TheVariants as node_folder
use Rattle.cli_cluster.specs.declared.cluster_command.ClusterCommand.{ClusterCommand}
use Rattle.cli_cluster.specs.declared.cluster_command.ClusterCommand.TheVariants as cluster

-- the most clients of a node
abbrev pub most_clients : ℕ
most_clients = 64

-- the most seconds for which the replies of a round are waited for
abbrev pub most_seconds : ℕ
most_seconds = 3600

-- ## Words that ask
-- behind the number of clients
abbrev pub folder_words : PipeFolder → List (List ℕ)
folder_words pipe_folder.Usual = []
folder_words (pipe_folder.Named name) = name.now ∷ []

-- behind the number of nodes
abbrev pub node_words : NodeFolder → List (List ℕ)
node_words node_folder.Usual = []
node_words (node_folder.Named name) = name.now ∷ []
node_words (node_folder.Timed name seconds) = name.now ∷ decimal seconds ∷ []

abbrev pub cluster_words : ClusterCommand → List (List ℕ)
cluster_words (cluster.Serve clients folder) = codes "serve" ∷ decimal clients ∷ folder_words folder
cluster_words (cluster.Lead nodes folder) = codes "lead" ∷ decimal nodes ∷ node_words folder

abbrev pub IsWithinTime : NodeFolder → Type 0
IsWithinTime node_folder.Usual = Unit {0}
IsWithinTime (node_folder.Named name) = Unit {0}
IsWithinTime (node_folder.Timed name seconds) = (1 ≤ seconds) × (seconds ≤ most_seconds)

abbrev pub IsInCluster : ClusterCommand → Type 0
IsInCluster (cluster.Serve clients folder) = (1 ≤ clients) × (clients ≤ most_clients)
IsInCluster (cluster.Lead nodes folder) = PermittedNodes nodes × IsWithinTime folder

pub record AsksCluster (words : List (List ℕ)) (command : ClusterCommand) : Type 0 where
  pub are : words ≡ cluster_words command
  pub allowed : IsInCluster command

-- the first word is one of these commands'
abbrev pub asks_cluster : List (List ℕ) → Bool
asks_cluster [] = false
asks_cluster (word ∷ words) = bytes_eq word (codes "serve") || bytes_eq word (codes "lead")

-- ## Wrong words
-- behind the number of clients may stand the name of a folder
abbrev pub behind_clients : List (List ℕ) → Option ℕ
behind_clients [] = None
behind_clients (name ∷ []) = None
behind_clients (name ∷ word ∷ words) = Some 3

-- behind the number of seconds stands nothing
abbrev pub behind_seconds : List (List ℕ) → Option ℕ
behind_seconds [] = None
behind_seconds (word ∷ words) = Some 4

-- behind the name of a folder may stand a number of seconds
unfoldable pub behind_folder : List (List ℕ) → Option ℕ
behind_folder [] = None
behind_folder (word ∷ words) = if is_number 1 most_seconds word then behind_seconds words else Some 3

-- behind the number of nodes may stand the name of a folder
abbrev pub behind_nodes : List (List ℕ) → Option ℕ
behind_nodes [] = None
behind_nodes (name ∷ words) = behind_folder words

-- after it stands a number of this range
unfoldable pub after_counted : ℕ → (List (List ℕ) → Option ℕ) → List (List ℕ) → Option ℕ
after_counted most behind [] = Some 1
after_counted most behind (word ∷ words) = if is_number 1 most word then behind words else Some 1

-- the place, from 0, of the first word that is missing or wrong after it
unfoldable pub cluster_usage_of : List (List ℕ) → Option ℕ
cluster_usage_of [] = None
cluster_usage_of (word ∷ words) =
    if bytes_eq word (codes "serve") then after_counted most_clients behind_clients words
    else (if bytes_eq word (codes "lead") then after_counted most_nodes behind_nodes words else None)
