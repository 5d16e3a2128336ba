use Rattle.pipe_serve.specs.declared.served.ServeEnd.TheVariants.{DiskFault}
use Rattle.pipe_serve.proofs.SharedLaws.{never_told}
use Rattle.pipe_serve.proofs.shared.Shared.serve.Goals as goal

pub end_with-requires : goal.end_with-requires
end_with-requires g c =
    never_told g.D.DiskModel.tells g.D.DiskModel.view g.J.Origin.steady c.serve_session.result DiskFault _ _ _ _ c.serve_session.ensures c.in-DiskFault.is
