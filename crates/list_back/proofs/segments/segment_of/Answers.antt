use Rattle.std.proofs.Common.{◌≡◌, ℕ, ◌+◌, map, take, Err, sym, ap, subst, arith}
use Rattle.edit_ops.specs.declared.field_fault.ReadError.{ReadError}
use Rattle.list_back.specs.declared.bad_object.BadObject.{BadObject}
use Rattle.serde_json.specs.View.{view}
use Rattle.list_back.specs.Entries.{IsReadBody}
use Rattle.list_back.specs.Backs.{HasBadEntry}
use Rattle.list_back.proofs.Made.{entry_at}
use Rattle.list_back.proofs.SoFar.{value_ordered, next_txid, firsts_length, more_made, bad_value, all_within, all_made}
use Rattle.list_back.proofs.segments.segment_of.Goals as goal

pub read_body-requires : goal.read_body-requires
read_body-requires c = value_ordered c.args.values.now c.loop-value.value-index c.value-item.result c.requires.ordered c.loop-value-test.true c.value-item.is

pub push-requires-clause-within : goal.push-requires-clause-within
push-requires-clause-within c =
    let entry = c.in-Ok.ensures in
    let within = entry.1.within in
    let i = c.loop-value.invariant in
    let count = firsts_length c.args.values.now c.loop-value.value-index c.loop-value.auto.value-index-end in
    let next = next_txid c.args.start c.args.epoch (map view (take c.loop-value.value-index c.args.values.now)) c.loop-value.writer i.made in
    omega (arith, within, i.at, count, next)

pub returns-in-Err-Fault : goal.returns-in-Err-Fault
returns-in-Err-Fault c =
    let i = c.loop-value.invariant in
    let refused = subst (λ (x : ReadError BadObject). IsReadBody (c.args.start + c.loop-value.index) (view c.value-item.result) (Err x)) c.in-Err-Fault.field-0-is c.in-Err-Fault.ensures in
    let at : c.args.start + c.loop-value.value-index ≡ c.args.start + c.loop-value.index = ap (λ (n : ℕ). c.args.start + n) (sym i.at) in
    subst (λ (n : ℕ). HasBadEntry c.args.start (map view c.args.values.now) n) (sym i.at)
    (bad_value c.args.start c.args.epoch c.args.values.now c.loop-value.value-index c.value-item.result c.loop-value.writer c.loop-value-test.true c.value-item.is i.made
    (λ e entry. refused e (entry_at (c.args.start + c.loop-value.value-index) (c.args.start + c.loop-value.index) e (view c.value-item.result) at entry)))

pub loop-value-preserved : goal.loop-value-preserved
loop-value-preserved c =
    let i = c.loop-value.invariant in
    let read = c.in-Ok.ensures in
    let at : c.args.start + c.loop-value.index ≡ c.args.start + c.loop-value.value-index = ap (λ (n : ℕ). c.args.start + n) i.at in
    record {
      room = c.in_ok-writer-in-Ok.ensures.room;
      at = ap (λ (n : ℕ). n + 1) i.at;
      made = more_made c.args.start c.args.epoch c.args.values.now c.loop-value.value-index c.value-item.result c.loop-value.writer
          c.in_ok-writer-in-Ok.writer c.in-Ok.body c.loop-value-test.true c.value-item.is i.made
          read.0 (entry_at (c.args.start + c.loop-value.index) (c.args.start + c.loop-value.value-index) read.0 (view c.value-item.result) at read.1) read.2 c.in_ok-writer-in-Ok.ensures.written;
    }

pub finish-requires-clause-within : goal.finish-requires-clause-within
finish-requires-clause-within c = all_within c.args.start c.args.epoch (map view (take c.loop-value.value-index c.args.values.now)) c.loop-value.writer c.requires.start c.loop-value.invariant.made

pub returns : goal.returns
returns c = all_made c.args.start c.args.epoch c.args.values.now c.loop-value.value-index c.loop-value.writer c.in_ok-finish.field-0.items
    c.loop-value-test.false c.loop-value.invariant.made c.in_ok-finish.ensures
