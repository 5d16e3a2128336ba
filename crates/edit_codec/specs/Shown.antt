-- A field as the code lends it.
use Rattle.edit_codec.specs.declared.field.Field.{Field as Lent}
use Rattle.edit_codec.specs.declared.field.Field.TheVariants as lent
use Rattle.edit_ops.specs.Fields.{Field, path, owner, new_owner, replication, permission, numbers, paths, Text_, Small_, Number_, Flag_, Client_, Call_}

abbrev pub shown : Lent → Field
shown (lent.Path bytes) = Text_ path bytes.now
shown (lent.Owner bytes) = Text_ owner bytes.now
shown (lent.NewOwner bytes) = Text_ new_owner bytes.now
shown (lent.Replication n) = Small_ replication n
shown (lent.Permission n) = Small_ permission n
shown (lent.NumberCount n) = Small_ numbers n
shown (lent.PathCount n) = Small_ paths n
shown (lent.Number n) = Number_ n
shown (lent.Flag b) = Flag_ b
shown (lent.Client bytes) = Client_ bytes.now
shown (lent.CallNumber n) = Call_ n
