-- What holds of the lists that a script leaves, in order or by threads.
use Rattle.std.specs.Prelude.{◌≡◌, ℕ, ◌<◌, true, List, reverse}
use Rattle.run_safety.specs.Run.{IsRun}
use Rattle.run_safety.specs.Keeps.{KeepsParts}
use Rattle.mesh.specs.declared.whole.Mesh.{Mesh}
use Rattle.mesh.specs.Agree.{Agrees, operator_of, record_of}
use Rattle.mesh.specs.Order.{epoch_order}
use Rattle.ns_tree.specs.declared.end.End.{End}
use Rattle.play_script.specs.Scripts.{ScriptView}
use Rattle.play_model.specs.Lines.{lines_of, actions_of}
use Rattle.play_model.specs.Plays.{Play, Plays, mesh_of, ends_of}
use Rattle.play_model.specs.Follows.{FollowsScript}
use Rattle.play_model.specs.Told.{results_in}
use Rattle.play_model.specs.EditResults.{AreResults}
use Rattle.play_model.specs.Safe.{IsSafeWithEnds}
use Rattle.play_laws.specs.Keeps.{KeepsNames}
use Rattle.play_laws.specs.Acked.{TellsAcknowledged}

-- The lists agree, and they are what the script's lines ask for. What moved its nodes, in the order
-- of the epochs, is a run of the journal world, and a safe one with what its actors end with: an
-- acknowledged edit survives, finalised segments agree, and each namespace is the replay of the
-- line's first entries. It keeps all else that a run keeps, of promises, owners, values, starts and
-- purges. Each line of an actor has its results, a log line one for each edit; what a result claims
-- is acknowledged in that run. And with names all that was logged was admitted.
pub record AreSound (script : ScriptView) (m : Mesh) (ends : List End) : Type 0 where
  pub agrees : Agrees m
  pub follows : FollowsScript script m ends
  pub run : IsRun script.nodes (epoch_order m)
  pub safe : IsSafeWithEnds script.nodes (epoch_order m) ends
  pub parts : KeepsParts script.nodes (reverse (epoch_order m))
  pub results : (c : ℕ) → c < operator_of m → AreResults (actions_of c (lines_of script)) (results_in (record_of m c))
  pub told : TellsAcknowledged m (epoch_order m)
  pub names : script.named ≡ true → KeepsNames m (epoch_order m)

-- the one play of the script
pub record IsSound (script : ScriptView) (play : Play) : Type 0 where
  pub plays : Plays script play
  pub lists : AreSound script (mesh_of play) (ends_of play)

-- the mesh and the ends are those of such a play
pub record ComeOf (script : ScriptView) (m : Mesh) (ends : List End) : Type 0 where
  pub play : Play
  pub sound : IsSound script play
  pub mesh : m ≡ mesh_of play
  pub ends_are : ends ≡ ends_of play
