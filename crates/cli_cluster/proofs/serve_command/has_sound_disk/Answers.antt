use Rattle.cli_cluster.proofs.serve_command.has_sound_disk.Goals as goal

pub returns : goal.returns
returns g c = g.met.D.Disk.sound c.args._node.now.disk
