use Rattle.std.proofs.Common.{List, Some, ap, ◌∙◌}
use Rattle.serde_json.specs.View.{view, items_view}
use Rattle.serde_json.specs.declared.value.Value.{Value}
use Rattle.list_back.proofs.Coding.{few_here, too_many}
use Rattle.list_back.proofs.object_source.items_of.Goals as goal

pub returns-then-items-gt-MOST_ITEMS : goal.returns-then-items-gt-MOST_ITEMS
returns-then-items-gt-MOST_ITEMS c =
    too_many (view c.args.value.now) c.as_slice-items.result.now (ap (λ (vs : List Value). Some (items_view vs)) c.as_slice-items.ensures.value
    ∙ c.in_ok-as_array.ensures) c.if-items-gt-MOST_ITEMS.true

pub returns : goal.returns
returns c = few_here (view c.args.value.now) c.as_slice-items.result.now
    (ap (λ (vs : List Value). Some (items_view vs)) c.as_slice-items.ensures.value ∙ c.in_ok-as_array.ensures) c.if-items-gt-MOST_ITEMS.false
