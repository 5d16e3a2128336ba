use Rattle.std.proofs.Common.{◌≡◌, ℕ, ◌+◌, ◌-◌, ◌∙◌, List, length, take, Some, ap, sym, subst, arith}
use Rattle.std.proofs.Math.Seq.{take-length}
use Rattle.ns_tree.specs.Space.{AreRising}
use Rattle.journal_core.specs.Views.{last_txid}
use Rattle.ns_edits.specs.Replay.{entered, replay_from, applied, All, BadEntry}
use Rattle.ns_edits.proofs.Retries.{entry_rising}
use Rattle.ns_edits.proofs.Splits.{nothing_replayed, replay_next, bad_next, all_applied}
use Rattle.ns_edits.proofs.replaying.replay.Goals as goal

pub loop-i-init : goal.loop-i-init
loop-i-init c =
    let none : c.args.batch.now.first - 1 ≡ c.args.batch.now.first - 1 + 0 = omega arith in
    record {
      replayed = nothing_replayed (c.args.batch.now.first - 1) c.args.ns.now;
      rising = subst (λ (k : ℕ). AreRising 0 k c.args.ns.now.calls) none c.requires.later;
    }

pub loop-i-preserved : goal.loop-i-preserved
loop-i-preserved c =
    let txid : c.args.batch.now.first - 1 + c.loop-i.i + 1 ≡ c.first.result + c.loop-i.i = omega (arith, c.first.ensures, c.requires.first) in
    let next : entered (c.args.batch.now.first - 1 + c.loop-i.i + 1) c.index-bodies-i.result c.loop-i.ns ≡ Some c.enter.new.ns =
    ap (λ (k : ℕ). entered k c.index-bodies-i.result c.loop-i.ns) txid ∙ c.in-Ok.ensures.ok in
    let later : c.args.batch.now.first - 1 + c.loop-i.i + 1 ≡ c.args.batch.now.first - 1 + (c.loop-i.i + 1) = omega arith in
    record {
      replayed = replay_next (c.args.batch.now.first - 1) c.as_slice-bodies.result.now c.loop-i.i c.index-bodies-i.result c.args.ns.now c.loop-i.ns
          c.loop-i-test.true c.index-bodies-i.is c.loop-i.invariant.replayed c.enter.new.ns next;
      rising = subst (λ (k : ℕ). AreRising 0 k c.enter.new.ns.calls) later
          (entry_rising (c.args.batch.now.first - 1 + c.loop-i.i) c.index-bodies-i.result c.loop-i.ns c.enter.new.ns c.loop-i.invariant.rising next);
    }

pub returns-in-Err-Bad : goal.returns-in-Err-Bad
returns-in-Err-Bad c =
    let txid : c.args.batch.now.first - 1 + c.loop-i.i + 1 ≡ c.first.result + c.loop-i.i = omega (arith, c.first.ensures, c.requires.first) in
    let bad = rw c.in-Err-Bad.field-0-is at c.in-Err-Bad.ensures.why in
    ap (λ (l : List (List ℕ)). applied (c.args.batch.now.first - 1) l c.args.ns.now) (sym (c.as_slice-bodies.ensures ∙ c.bodies.ensures.bodies))
    ∙ bad_next (c.args.batch.now.first - 1) c.as_slice-bodies.result.now c.loop-i.i c.index-bodies-i.result c.args.ns.now c.loop-i.ns c.loop-i-test.true c.index-bodies-i.is c.loop-i.invariant.replayed
    (ap (λ (k : ℕ). entered k c.index-bodies-i.result c.loop-i.ns) txid ∙ bad)
    ∙ (λ k. BadEntry (sym c.in-Err-Bad.ensures.err k) (txid k))

pub returns : goal.returns
returns c =
    let whole : c.as_slice-bodies.result.now ≡ c.args.batch.now.bodies = c.as_slice-bodies.ensures ∙ c.bodies.ensures.bodies in
    let count : c.loop-i.i ≡ length c.as_slice-bodies.result.now = omega arith in
    let all : replay_from (c.args.batch.now.first - 1) c.as_slice-bodies.result.now c.args.ns.now ≡ Some c.loop-i.ns =
    ap (λ (l : List (List ℕ)). replay_from (c.args.batch.now.first - 1) l c.args.ns.now)
    (sym (ap (λ (k : ℕ). take k c.as_slice-bodies.result.now) count ∙ take-length c.as_slice-bodies.result.now)) ∙ c.loop-i.invariant.replayed in
    let size : length c.as_slice-bodies.result.now ≡ length c.args.batch.now.bodies = ap (λ (l : List (List ℕ)). length l) whole in
    let last : c.args.batch.now.first - 1 + length c.as_slice-bodies.result.now ≡ last_txid c.args.batch.now = omega (arith, size, c.requires.first) in
    ap (λ (l : List (List ℕ)). applied (c.args.batch.now.first - 1) l c.args.ns.now) (sym whole)
    ∙ all_applied (c.args.batch.now.first - 1) c.as_slice-bodies.result.now c.args.ns.now c.loop-i.ns all
    ∙ ap (λ (k : ℕ). All c.loop-i.ns k) last
