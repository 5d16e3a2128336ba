use Rattle.std.proofs.Common.{arith}
use Rattle.edit_codec.specs.declared.decoded.Decoded.TheVariants as answers
use Rattle.ns_edits.proofs.Decodes.{edit_decodes, fault_decodes}
use Rattle.ns_edits.proofs.replaying.edit_of.Goals as goal

pub returns-in-Edit-clause-edit : goal.returns-in-Edit-clause-edit
returns-in-Edit-clause-edit c = edit_decodes c.args.bytes.now c.in-Edit.edit c.in-Edit.ensures.right

pub returns-in-UnknownOpcode-clause-edit : goal.returns-in-UnknownOpcode-clause-edit
returns-in-UnknownOpcode-clause-edit c =
    fault_decodes c.args.bytes.now (answers.UnknownOpcode c.in-UnknownOpcode.code) (λ i. omega (arith, c.type_inv.bytes i)) (λ e is. cc is) (λ is. cc is) c.in-UnknownOpcode.ensures.only

pub returns-in-Short-clause-edit : goal.returns-in-Short-clause-edit
returns-in-Short-clause-edit c =
    fault_decodes c.args.bytes.now (answers.Short c.in-Short.needed) (λ i. omega (arith, c.type_inv.bytes i)) (λ e is. cc is) (λ is. cc is) c.in-Short.ensures.only

pub returns-in-Trailing-clause-edit : goal.returns-in-Trailing-clause-edit
returns-in-Trailing-clause-edit c =
    fault_decodes c.args.bytes.now (answers.Trailing c.in-Trailing.count) (λ i. omega (arith, c.type_inv.bytes i)) (λ e is. cc is) (λ is. cc is) c.in-Trailing.ensures.only

pub returns-in-BadField-clause-edit : goal.returns-in-BadField-clause-edit
returns-in-BadField-clause-edit c =
    fault_decodes c.args.bytes.now (answers.BadField c.in-BadField.place c.in-BadField.rule) (λ i. omega (arith, c.type_inv.bytes i)) (λ e is. cc is) (λ is. cc is) c.in-BadField.ensures.only
