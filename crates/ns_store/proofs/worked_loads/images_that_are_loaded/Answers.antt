use Rattle.std.proofs.Common.{refl, inr, arith}
use Rattle.std.specs.Prelude.{codes}
use Rattle.base_words.specs.Padded.{padded}
use Rattle.ns_store.specs.Names.{name_of}
use Rattle.ns_store.proofs.DigestLaws.{too_short}
use Rattle.ns_store.proofs.worked_loads.images_that_are_loaded.Goals as goal

pub returns-clause-bad_digest : goal.returns-clause-bad_digest
unfolding padded name_of
returns-clause-bad_digest c =
    (λ _. inr ((record { bytes = codes "four"; digest = codes "digest" }, refl, λ digest is. too_short 4 (codes "digest") digest (omega arith) is), refl, refl), λ large. absurd (large (omega arith)))

pub returns-clause-no_digest : goal.returns-clause-no_digest
unfolding padded name_of
returns-clause-no_digest c = (λ _. refl, λ _. refl)

pub returns-clause-too_high : goal.returns-clause-too_high
returns-clause-too_high c = (λ small. absurd (omega (arith, small)), λ _. refl)
