-- Known edits.
use Rattle.std.specs.Prelude.{ℕ, List, [], ◌∷◌, codes, Option, Some, None}
use Rattle.edit_ops.specs.declared.op.Op.TheVariants.{RenameOld, Mkdir, StartLogSegment}
use Rattle.edit_ops.specs.Records.{EditView}

abbrev pub start_mark : EditView
start_mark = record { op = StartLogSegment; call = None }

-- a directory that a client's call made
abbrev pub called_mkdir : EditView
called_mkdir = record {
  op = Mkdir (codes "/u") 10 493 (codes "u") (codes "g");
  call = Some (record { client = 0 ∷ 0 ∷ 0 ∷ 0 ∷ 0 ∷ 0 ∷ 0 ∷ 0 ∷ 0 ∷ 0 ∷ 0 ∷ 0 ∷ 0 ∷ 0 ∷ 0 ∷ 170 ∷ []; number = 7 });
}

-- names with a quote and a backslash
abbrev pub odd_names : EditView
odd_names = record { op = RenameOld (47 ∷ 34 ∷ []) (47 ∷ 92 ∷ []) 5; call = None }
