-- The record of an acceptance has one epoch.
use Rattle.std.proofs.Common.{◌≡◌, ℕ, List, sym, ◌∙◌, subst}
use Rattle.std.specs.Prelude.{Option}
use Rattle.std.proofs.lemmas.Option.{same_Some}
use Rattle.base_words.proofs.PaddedLaws.{padded_injective}
use Rattle.base_files.specs.Records.{Record, IsRecord}
use Rattle.base_files.proofs.RecordLaws.{parts_of_record}
use Rattle.disk_segment.specs.Stands.{HasEpoch}

pub one_record : (bytes : List ℕ) (r s : Record) → IsRecord bytes r → IsRecord bytes s → r.epoch ≡ s.epoch
one_record bytes r s is other = padded_injective r.epoch s.epoch is.epoch other.epoch (sym (parts_of_record bytes r is.spelled).first ∙ (parts_of_record bytes s other.spelled).first)

pub one_epoch : (file : Option (List ℕ)) (d e : ℕ) → HasEpoch file d → HasEpoch file e → d ≡ e
one_epoch file d e is other =
    one_record is.bytes (record { epoch = d; end = is.end }) (record { epoch = e; end = other.end }) is.spelled
    (subst (λ (l : List ℕ). IsRecord l (record { epoch = e; end = other.end })) (same_Some other.bytes is.bytes (sym other.there ∙ is.there)) other.spelled)
