use Rattle.std.proofs.Common.{subst, sym, ◌∙◌, Err}
use Rattle.ns_image.specs.declared.answer.ReadImage.{ReadImage}
use Rattle.ns_image.specs.declared.answer.ReadImage.TheVariants.{BadImage}
use Rattle.ns_image.specs.declared.answer.Unread.{Unread}
use Rattle.ns_image.specs.Reading.{reading_of}
use Rattle.ns_image.specs.Rows.{HasRead}
use Rattle.list_oiv.specs.Listed.{IsAnswer}
use Rattle.list_oiv.proofs.NoDigest.{no_digest}
use Rattle.list_oiv.proofs.OneAnswer.{listed, no_memory, some_taken, rows_begun, rows_told, fault_is}
use Rattle.list_oiv.proofs.tools.answer.Goals as goal

pub text_answer-requires : goal.text_answer-requires
text_answer-requires g c = some_taken g.T.RowSink.has_taken (reading_of c.args.bytes.now) c.in-Ok.rows c.in-Ok.ensures.read

pub fault_answer-requires : goal.fault_answer-requires
fault_answer-requires g c digest =
    no_digest c.args.bytes.now c.in-Err-BadBytes.place c.in-Err-BadBytes.cause
    (fault_is g.T.RowSink.has_taken (reading_of c.args.bytes.now) c.in-Err-BadBytes.place c.in-Err-BadBytes.cause
    (subst (λ (u : Unread). HasRead g.T.RowSink.has_taken (reading_of c.args.bytes.now) (Err u)) c.in-Err-BadBytes.field-0-is c.in-Err-BadBytes.ensures.read))
    (sym c.in-Err-BadBytes.cause-is ∙ digest)

pub returns-in-Ok-clause-right : goal.returns-in-Ok-clause-right
returns-in-Ok-clause-right g c = rows_told g.T.RowSink.has_taken g.T.RowText.tell (reading_of c.args.bytes.now) c.in-Ok.rows c.text_answer.result c.in-Ok.ensures.read c.text_answer.ensures

pub returns-in-Ok-clause-head : goal.returns-in-Ok-clause-head
returns-in-Ok-clause-head g c = λ e. rows_begun g.T.RowSink.has_taken c.args.bytes.now c.in-Ok.rows c.in-Ok.ensures.read

pub returns-in-Err-BadBytes-clause-right : goal.returns-in-Err-BadBytes-clause-right
returns-in-Err-BadBytes-clause-right g c =
    listed g.T.RowText.tell c.args.bytes.now (BadImage c.in-Err-BadBytes.place c.in-Err-BadBytes.cause) c.fault_answer.result
    (fault_is g.T.RowSink.has_taken (reading_of c.args.bytes.now) c.in-Err-BadBytes.place c.in-Err-BadBytes.cause
    (subst (λ (u : Unread). HasRead g.T.RowSink.has_taken (reading_of c.args.bytes.now) (Err u)) c.in-Err-BadBytes.field-0-is c.in-Err-BadBytes.ensures.read))
    (subst (λ (r : ReadImage). IsAnswer g.T.RowText.tell r c.fault_answer.result)
    (λ i. BadImage (c.in-Err-BadBytes.place-is i) (c.in-Err-BadBytes.cause-is i)) (c.fault_answer.ensures.told g.T.RowText.tell))

pub returns-in-Err-BadBytes-clause-head : goal.returns-in-Err-BadBytes-clause-head
returns-in-Err-BadBytes-clause-head g c = λ e. absurd (c.fault_answer.ensures.memory e)

pub returns-in-Err-OutOfMemory-clause-right : goal.returns-in-Err-OutOfMemory-clause-right
returns-in-Err-OutOfMemory-clause-right g c = no_memory g.T.RowText.tell c.args.bytes.now
