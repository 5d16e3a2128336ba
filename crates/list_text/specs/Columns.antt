-- The columns of a row.
use Rattle.std.specs.Prelude.{ℕ, zero, suc, Bool, true, false, List, length, sum, Option, Some, None}
use Rattle.ns_tree.specs.declared.inode.Inode.{Inode}
use Rattle.ns_tree.specs.declared.inode.Inode.TheVariants.{Dir, File}
use Rattle.ns_tree.specs.declared.inode.Row.{Row}
use Rattle.list_text.specs.declared.columns.Columns.{Columns as Lent}
use Rattle.list_text.specs.Permissions.{letters}

pub record ColumnsView : Type 0 where
  pub path : List ℕ
  pub replication : ℕ
  pub mtime : ℕ
  pub atime : ℕ
  pub block_size : ℕ
  pub block_count : ℕ
  pub size : ℕ
  pub names : Option ℕ
  pub space : Option ℕ
  pub permission : List ℕ
  pub user : List ℕ
  pub group : List ℕ

-- a quota of 0 is none
abbrev pub quota : ℕ → Option ℕ
quota zero = None
quota (suc n) = Some (suc n)

-- A directory has 0 where only a file has a number, and a file 0 for both quotas. A file's size is
-- the sum of its blocks' lengths.
abbrev pub columns : List ℕ → Inode → ColumnsView
columns path (Dir mtime permission user group names space) = record {
  path = path;
  replication = 0;
  mtime = mtime;
  atime = 0;
  block_size = 0;
  block_count = 0;
  size = 0;
  names = quota names;
  space = quota space;
  permission = letters true permission;
  user = user;
  group = group;
}
columns path (File replication mtime atime block_size permission user group lengths under_construction) = record {
  path = path;
  replication = replication;
  mtime = mtime;
  atime = atime;
  block_size = block_size;
  block_count = length lengths;
  size = sum lengths;
  names = Some 0;
  space = Some 0;
  permission = letters false permission;
  user = user;
  group = group;
}

abbrev pub columns_of : Row → ColumnsView
columns_of row = columns row.path row.inode

-- the columns as the code lends them
abbrev pub shown : Lent → ColumnsView
shown c = record {
  path = c.path.now;
  replication = c.replication;
  mtime = c.mtime;
  atime = c.atime;
  block_size = c.block_size;
  block_count = c.block_count;
  size = c.size;
  names = c.names;
  space = c.space;
  permission = c.permission;
  user = c.user.now;
  group = c.group.now;
}
