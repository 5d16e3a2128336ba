use Rattle.std.proofs.Common.{sym, subst, ◌∙◌}
use Rattle.ns_image.specs.declared.answer.ReadImage.{ReadImage}
use Rattle.list_oiv.specs.Directory.{IsPathAnswer}
use Rattle.list_oiv.proofs.NoDigest.{no_digest, image_begun}
use Rattle.list_oiv.proofs.directory.list_path.Goals as goal

pub fault_answer-requires : goal.fault_answer-requires
fault_answer-requires c =
    no_digest c.args.bytes.now c.in-Ok-BadImage.place c.in-Ok-BadImage.cause (sym c.in-Ok-BadImage.field-0-is ∙ c.in-Ok-BadImage.ensures.reading)

pub returns-in-Ok-Image-clause-right : goal.returns-in-Ok-Image-clause-right
returns-in-Ok-Image-clause-right c =
    subst (λ (r : ReadImage). IsPathAnswer c.args.path.now r c.space_answer.result) (sym c.in-Ok-Image.field-0-is ∙ c.in-Ok-Image.ensures.reading)
    (c.space_answer.ensures c.in-Ok-Image.field-0-1)

pub returns-in-Ok-Image-clause-head : goal.returns-in-Ok-Image-clause-head
returns-in-Ok-Image-clause-head c = λ e. image_begun c.args.bytes.now c.in-Ok-Image.namespace c.in-Ok-Image.field-0-1 (sym c.in-Ok-Image.ensures.reading ∙ c.in-Ok-Image.field-0-is)

pub returns-in-Ok-BadImage-clause-right : goal.returns-in-Ok-BadImage-clause-right
returns-in-Ok-BadImage-clause-right c =
    subst (λ (r : ReadImage). IsPathAnswer c.args.path.now r c.fault_answer.result) (sym c.in-Ok-BadImage.field-0-is ∙ c.in-Ok-BadImage.ensures.reading)
    (c.fault_answer.ensures.told c.args.path.now)
