use Rattle.std.proofs.Common.{◌≡◌, ℕ, ◌-◌, ◌<◌, List, [], ◌∷◌, ◌++◌, length, drop, ap, sym, subst, ◌∙◌, arith}
use Rattle.std.proofs.lemmas.Bool.Decides.{nat_tests}
use Rattle.disk_recent.specs.Edits.{Edit, Follows, kept_edits}
use Rattle.disk_recent.proofs.Numbered.{follows-drop, kept_less}
use Rattle.disk_recent.proofs.edit_cache.EditCache.make_room.Goals as goal

pub loop-self-preserved : goal.loop-self-preserved
loop-self-preserved c =
    let es : List Edit = c.loop-self.self.edits in let less : c.drop_oldest.new.self.edits ≡ drop 1 es = c.drop_oldest.ensures.edits in
    let some : 0 < length es = grind (arith, nat_tests) in
    record {
      bytes = c.drop_oldest.ensures.bytes ∙ c.loop-self.invariant.bytes;
      follows = λ t f. subst (λ (ds : List Edit). Follows ds t) (sym less) (follows-drop es t (c.loop-self.invariant.follows t f));
      kept_so = λ e same.
          let most : ℕ = c.args.self.now.bytes - 4098 in
          ap (λ (ds : List Edit). kept_edits most (ds ++ e ∷ [])) less ∙ (kept_less most es e some (omega arith) ∙ c.loop-self.invariant.kept_so e same);
    }
