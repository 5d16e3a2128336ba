use Rattle.std.proofs.Common.{ℕ, ◌≡◌, [], ◌+◌, ◌-◌, ◌++◌, ◌∷◌, List, length, get_or, sym, ap, subst, ◌∙◌, arith}
use Rattle.disk_recent.specs.Edits.{Edit, bodies_of, kept_edits}
use Rattle.disk_recent.specs.Recent.{AreFilled, most_stored}
use Rattle.disk_recent.proofs.Pushing.{filled_kept, kept_next, not_empty}
use Rattle.disk_recent.proofs.recent_edits.RecentEdits.push_all.Goals as goal

item : (c : goal.After-push) → c.as_slice.result.now ≡ get_or c.args.bodies.now c.loop-body.body-index c.body-item.result
item c = c.as_slice.ensures ∙ c.body-item.is ∙ ap (λ (bodies : List (List ℕ)). get_or bodies c.loop-body.body-index c.body-item.result) c.as_slice-body-items.ensures

pushed : (c : goal.After-push) → c.push.new.self.edits ≡ kept_edits most_stored
    (c.loop-body.self-inside.ring.edits ++ record { txid = c.args.first + c.loop-body.body-index; body = c.as_slice.result.now } ∷ [])
pushed c =
    c.push.ensures.kept
    ∙ ap (λ (n : ℕ). kept_edits (n - 4098) (c.loop-body.self-inside.ring.edits ++ record { txid = c.loop-body.txid; body = c.as_slice.result.now } ∷ [])) c.loop-body.invariant.bytes
    ∙ ap (λ (n : ℕ). kept_edits most_stored (c.loop-body.self-inside.ring.edits ++ record { txid = n; body = c.as_slice.result.now } ∷ [])) c.loop-body.invariant.place

pub loop-body-preserved : goal.loop-body-preserved
loop-body-preserved c =
    let items = c.as_slice-body-items.ensures in
    record {
      place = omega (arith, c.loop-body.invariant.place);
      items = items;
      start = c.loop-body.invariant.start;
      bytes = c.push.ensures.bytes ∙ c.loop-body.invariant.bytes;
      filled = subst (λ (es : List Edit). AreFilled (bodies_of es)) (sym (pushed c))
          (filled_kept most_stored c.loop-body.self-inside.ring.edits _ c.loop-body.invariant.filled
          (not_empty c.as_slice.result.now (omega (arith, c.len-some.ensures.len, c.len-some.ensures.some, ap length c.as_slice.ensures))));
      follows = c.push.ensures.next;
      held = λ before is. pushed c ∙ kept_next before c.loop-body.self-inside.ring.edits c.args.first c.loop-body.body-index c.args.bodies.now
          c.as_slice.result.now c.body-item.result (omega (arith, ap length items, c.loop-body-test.true)) (item c)
          (c.loop-body.invariant.held before is);
    }
