-- Why an entry isn't applied.
use Rattle.std.specs.Prelude.{◌≡◌, Option, None}
use Rattle.ns_tree.specs.Space.{Space}
use Rattle.ns_edits.specs.declared.entry_error.EntryError.{EntryError}
use Rattle.ns_edits.specs.declared.entry_error.EntryError.TheVariants as errors

-- why an entry isn't applied: it is bad, or memory was wanted and not there
abbrev pub IsEntryError : EntryError → Option Space → Type 0
IsEntryError errors.Bad left = left ≡ None
IsEntryError errors.Memory left = Unit {0}
