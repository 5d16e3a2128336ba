use Rattle.ns_edits.proofs.Inodes.{add_stands, add_good}
use Rattle.ns_edits.proofs.applying.made.add.Goals as goal

pub make-requires-clause-inode : goal.make-requires-clause-inode
make-requires-clause-inode c = rw c.new.ensures (add_good c.args.path c.args.replication c.args.mtime c.args.atime c.args.block_size c.args.permission
    c.args.user c.args.group c.args.ns.now.pairs c.requires.admitted c.requires.good)

pub make-requires-clause-absent : goal.make-requires-clause-absent
make-requires-clause-absent c = (add_stands c.args.path c.args.replication c.args.mtime c.args.atime c.args.block_size c.args.permission c.args.user
    c.args.group c.args.ns.now.pairs c.requires.admitted).absent

pub make-requires-clause-parent : goal.make-requires-clause-parent
make-requires-clause-parent c = (add_stands c.args.path c.args.replication c.args.mtime c.args.atime c.args.block_size c.args.permission c.args.user
    c.args.group c.args.ns.now.pairs c.requires.admitted).parent

pub returns-clause-ok : goal.returns-clause-ok
returns-clause-ok c = rw c.new.ensures at c.make.ensures.ok
