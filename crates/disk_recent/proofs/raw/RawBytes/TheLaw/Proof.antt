-- A `&` to the bytes reaches each of them. Assumes `Logic`.
use base.Fml.{Incl-refl}
use denote.Param.Shared.{copy_shared}
use denote.Struct.Field.{RawPtr-field}
use denote.Struct.Laws.{RawPtr-copy}
use denote.Struct.Lending.{of_Lends}
use Rattle.disk_recent.specs.contracts.raw.RawBytes as C
use Rattle.disk_recent.proofs.Sharing.{bytes_lent_laws, Lends-bytes}
use Rattle.disk_recent.proofs.raw.RawBytes.TheLaw.Statement.{statement}

pub shares : statement
shares =
    of_Lends C.struct C.the_codes C.the_heap C.the_lent (λ d p. bytes_lent_laws d.at d.places) (copy_shared RawPtr-field RawPtr-copy, tt)
    (λ M 𝓤 𝓛 d p. Lends-bytes 𝓛 C.the_row.lives (Incl-refl _) d.at d.places)
