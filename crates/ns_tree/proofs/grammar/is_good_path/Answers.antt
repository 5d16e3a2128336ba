use Rattle.std.proofs.Common.{arith, ◌∙◌}
use Rattle.std.proofs.lemmas.Bool.Decides.{nat_tests}
use Rattle.ns_tree.proofs.Scans.{ended, grown}
use Rattle.ns_tree.proofs.grammar.is_good_path.Goals as goal
use Rattle.ns_tree.proofs.grammar.is_good_path.Goals.{then-text-i-eq47+else-not-is_good_component, else-text-i-eq47}

pub loop-i-preserved : goal.loop-i-preserved
loop-i-preserved c =
    elim c.if-text-i-eq47.branch [
      | then-text-i-eq47+else-not-is_good_component w ↦
          rw w.start-is (record {
            begins = omega arith;
            within = omega arith;
            rest = c.loop-i.invariant.rest ∙ ended c.args.text.now c.loop-i.start c.loop-i.i (omega arith) (omega arith)
                (grind (arith, nat_tests, w.is_good_component.ensures, w.if-not-is_good_component.false));
          })
      | else-text-i-eq47 w ↦
          rw w.start-is (record {
            begins = c.loop-i.invariant.begins;
            within = omega arith;
            rest = c.loop-i.invariant.rest ∙ grown c.args.text.now c.loop-i.start c.loop-i.i c.loop-i.invariant.within (omega arith)
                (grind (arith, nat_tests));
          })
    ]
