use Rattle.std.proofs.Common.{◌≡◌}
use Rattle.pipe_serve.proofs.clients.serve_clients.Given as goal

-- the node began as this one
abbrev pub ghosts-serve_from : goal.ghosts-serve_from
ghosts-serve_from g a = record { first = λ n. n ≡ a.node; steady = g.D.DiskModel.steady a.node.disk }
