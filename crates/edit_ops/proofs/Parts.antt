-- What an edit does, by equal parts.
use Rattle.std.proofs.Common.{◌≡◌, ℕ, List, Bool}
use Rattle.edit_ops.specs.declared.op.Op.TheVariants.{Add, RenameOld, Delete, Mkdir, SetReplication, SetPermissions, SetOwner, Close, Times, SetQuota, Rename, ConcatDelete}

pub add_as : {p q u v g h : List ℕ} {r k m a b s t : ℕ} → p ≡ q → r ≡ k → s ≡ t → u ≡ v → g ≡ h → Add p r m a b s u g ≡ Add q k m a b t v h
add_as e f x y z = cc

pub rename_old_as : {s u d v : List ℕ} {t : ℕ} → s ≡ u → d ≡ v → RenameOld s d t ≡ RenameOld u v t
rename_old_as e f = cc

pub delete_as : {p q : List ℕ} {t : ℕ} → p ≡ q → Delete p t ≡ Delete q t
delete_as e = cc

pub mkdir_as : {p q u v g h : List ℕ} {t s k : ℕ} → p ≡ q → s ≡ k → u ≡ v → g ≡ h → Mkdir p t s u g ≡ Mkdir q t k v h
mkdir_as e f x y = cc

pub replication_as : {p q : List ℕ} {r k : ℕ} → p ≡ q → r ≡ k → SetReplication p r ≡ SetReplication q k
replication_as e f = cc

pub permissions_as : {p q : List ℕ} {s k : ℕ} → p ≡ q → s ≡ k → SetPermissions p s ≡ SetPermissions q k
permissions_as e f = cc

pub owner_as : {p q u v g h : List ℕ} → p ≡ q → u ≡ v → g ≡ h → SetOwner p u g ≡ SetOwner q v h
owner_as e f x = cc

pub close_as : {p q ls ks : List ℕ} {m a : ℕ} → p ≡ q → ls ≡ ks → Close p m a ls ≡ Close q m a ks
close_as e f = cc

pub times_as : {p q : List ℕ} {m a : ℕ} → p ≡ q → Times p m a ≡ Times q m a
times_as e = cc

pub quota_as : {p q : List ℕ} {n s : ℕ} → p ≡ q → SetQuota p n s ≡ SetQuota q n s
quota_as e = cc

pub rename_as : {s u d v : List ℕ} {t : ℕ} {o : Bool} → s ≡ u → d ≡ v → Rename s d t o ≡ Rename u v t o
rename_as e f = cc

pub concat_as : {p q : List ℕ} {t : ℕ} {ss rs : List (List ℕ)} → p ≡ q → ss ≡ rs → ConcatDelete p t ss ≡ ConcatDelete q t rs
concat_as e f = cc
