-- The forms in which a field is written.
use Rattle.std.specs.Prelude.{ℕ, List, true, false}
use Rattle.edit_codec.specs.declared.field.Form.{Form}
use Rattle.edit_codec.specs.declared.field.Form.TheVariants.{Record, Script, Listing}
use Rattle.edit_ops.specs.Fields.{Field, field_bytes}
use Rattle.edit_codec.specs.Spaced.{spaced}

abbrev pub written : Form → Field → List ℕ
written Record field = field_bytes field
written Script field = spaced false field
written Listing field = spaced true field
