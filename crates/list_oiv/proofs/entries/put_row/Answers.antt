use Rattle.list_text.specs.Columns.{shown}
use Rattle.list_oiv.proofs.Fitting.{row_fits}
use Rattle.list_oiv.proofs.entries.put_row.Goals as goal

pub put_columns-requires : goal.put_columns-requires
put_columns-requires c = row_fits c.args.row.now c.requires.path c.requires.inode (shown c.columns_of-columns.result) c.columns_of-columns.ensures

pub returns : goal.returns
returns c = c.put_columns.ensures c.args.row.now c.columns_of-columns.ensures
