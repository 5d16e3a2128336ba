use Rattle.cli_commands.proofs.OneState.{one_state}
use Rattle.cli_commands.proofs.laws.one_folder_one_state.Goals as goal

pub returns : goal.returns
returns g c = λ now later ended other told asked left rest before held replied wrote x y. one_state _ x.state y.state x.stood y.stood x.sound y.sound x.starts y.starts
