use Rattle.ns_edits.proofs.Inodes.{mkdir_stands, mkdir_good}
use Rattle.ns_edits.proofs.applying.made.mkdir.Goals as goal

pub make-requires-clause-inode : goal.make-requires-clause-inode
make-requires-clause-inode c = mkdir_good c.args.path c.args.time c.args.permission c.args.user c.args.group c.args.ns.now.pairs c.requires.admitted c.requires.good

pub make-requires-clause-absent : goal.make-requires-clause-absent
make-requires-clause-absent c = (mkdir_stands c.args.path c.args.time c.args.permission c.args.user c.args.group c.args.ns.now.pairs c.requires.admitted).absent

pub make-requires-clause-parent : goal.make-requires-clause-parent
make-requires-clause-parent c = (mkdir_stands c.args.path c.args.time c.args.permission c.args.user c.args.group c.args.ns.now.pairs c.requires.admitted).parent
