use Rattle.std.proofs.Common.{ℕ, List, sym, subst}
use Rattle.ns_tree.specs.declared.inode.Inode.{Inode}
use Rattle.list_oiv.specs.Sizes.{CountsFile}
use Rattle.list_oiv.proofs.Counting.{Counts, row_counted, directory_counts, file_counts}
use Rattle.list_oiv.proofs.tally.Tally.count.Goals as goal

pub returns-in-Dir : goal.returns-in-Dir
returns-in-Dir c rows a =
    let counts = directory_counts c.args.self.now c.count_directory.new.self c.in-Dir.mtime c.in-Dir.permission c.in-Dir.user c.in-Dir.group c.in-Dir.names c.in-Dir.space c.count_directory.ensures in
    row_counted c.args.self.now c.count_directory.new.self c.args.row.now (subst (λ (i : Inode). Counts i c.args.self.now c.count_directory.new.self) (sym c.in-Dir.is) counts) rows a

pub returns-in-File : goal.returns-in-File
returns-in-File c rows a =
    let file = subst (λ (ls : List ℕ). CountsFile ls c.args.self.now c.count_file.new.self) c.as_slice.ensures c.count_file.ensures in
    let counts = file_counts c.args.self.now c.count_file.new.self c.in-File.replication c.in-File.mtime c.in-File.atime c.in-File.block_size c.in-File.permission c.in-File.user c.in-File.group
    c.in-File.lengths c.in-File.under_construction file in
    row_counted c.args.self.now c.count_file.new.self c.args.row.now (subst (λ (i : Inode). Counts i c.args.self.now c.count_file.new.self) (sym c.in-File.is) counts) rows a
