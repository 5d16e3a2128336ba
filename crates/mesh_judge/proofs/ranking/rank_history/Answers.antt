use Rattle.std.proofs.Common.{◌≡◌, ◌<◌, ◌+◌, List, length, get_or, set, subst, arith, ap, sym, ◌∙◌}
use Rattle.std.proofs.lemmas.List.{get_or_default}
use Rattle.journal_history.specs.declared.history_line.HistoryLine.{HistoryLine}
use Rattle.mesh.specs.Agree.{history_at}
use Rattle.mesh_judge.proofs.Walking.{Walked, lines_are, caller_known, nodes_reached, number_reached, number_small, walk_begins, walk_stays, walk_moves, walk_ends}
use Rattle.mesh_judge.proofs.ranking.rank_history.Goals as goal

pub loop-line-init : goal.loop-line-init
loop-line-init c = walk_begins c.args.mesh.now c.args.callers.now c.args.index c.args.ranked.now.items c.in_ok-taken.taken.items c.in_ok-taken.ensures

pub bounds-callers-place : goal.bounds-callers-place
bounds-callers-place c =
    let lines = lines_are c.args.mesh.now c.args.index c.as_slice.result.now c.index-as_slice-index.result c.as_slice-line-items.result.now
    c.requires.node c.requires.agrees.histories c.as_slice.ensures c.index-as_slice-index.is c.as_slice-line-items.ensures in
    let l : c.loop-line.line-index < length (history_at c.args.mesh.now c.args.index) = omega (arith, c.loop-line-test.true, ap length lines) in
    let is : c.line-item.result ≡ get_or (history_at c.args.mesh.now c.args.index) c.loop-line.line-index c.line-item.result =
    c.line-item.is ∙ ap (λ (hs : List HistoryLine). get_or hs c.loop-line.line-index c.line-item.result) lines in
    omega (
      arith,
      caller_known c.args.mesh.now c.args.callers.now c.args.index c.loop-line.line-index c.line-item.result c.requires.agrees
          c.requires.known c.requires.node l is,
      c.caller-place.ensures,
    )

pub index-number-requires : goal.index-number-requires
index-number-requires c =
    let lines = lines_are c.args.mesh.now c.args.index c.as_slice.result.now c.index-as_slice-index.result c.as_slice-line-items.result.now
    c.requires.node c.requires.agrees.histories c.as_slice.ensures c.index-as_slice-index.is c.as_slice-line-items.ensures in
    let l : c.loop-line.line-index < length (history_at c.args.mesh.now c.args.index) = omega (arith, c.loop-line-test.true, ap length lines) in
    let is : c.line-item.result ≡ get_or (history_at c.args.mesh.now c.args.index) c.loop-line.line-index c.line-item.result =
    c.line-item.is ∙ ap (λ (hs : List HistoryLine). get_or hs c.loop-line.line-index c.line-item.result) lines in
    omega (
      arith,
      caller_known c.args.mesh.now c.args.callers.now c.args.index c.loop-line.line-index c.line-item.result c.requires.agrees
          c.requires.known c.requires.node l is,
      c.loop-line.invariant.size,
      c.loop-line.taken.ok.0,
      c.caller-place.ensures,
    )

pub index_mut-requires : goal.index_mut-requires
index_mut-requires c =
    let lines = lines_are c.args.mesh.now c.args.index c.as_slice.result.now c.index-as_slice-index.result c.as_slice-line-items.result.now
    c.requires.node c.requires.agrees.histories c.as_slice.ensures c.index-as_slice-index.is c.as_slice-line-items.ensures in
    let l : c.loop-line.line-index < length (history_at c.args.mesh.now c.args.index) = omega (arith, c.loop-line-test.true, ap length lines) in
    let is : c.line-item.result ≡ get_or (history_at c.args.mesh.now c.args.index) c.loop-line.line-index c.line-item.result =
    c.line-item.is ∙ ap (λ (hs : List HistoryLine). get_or hs c.loop-line.line-index c.line-item.result) lines in
    omega (
      arith,
      caller_known c.args.mesh.now c.args.callers.now c.args.index c.loop-line.line-index c.line-item.result c.requires.agrees
          c.requires.known c.requires.node l is,
      c.loop-line.invariant.size,
      c.loop-line.taken.ok.0,
      c.caller-place.ensures,
    )

pub overflow_add-number : goal.overflow_add-number
overflow_add-number c =
    let lines = lines_are c.args.mesh.now c.args.index c.as_slice.result.now c.index-as_slice-index.result c.as_slice-line-items.result.now
    c.requires.node c.requires.agrees.histories c.as_slice.ensures c.index-as_slice-index.is c.as_slice-line-items.ensures in
    let l : c.loop-line.line-index < length (history_at c.args.mesh.now c.args.index) = omega (arith, c.loop-line-test.true, ap length lines) in
    let is : c.line-item.result ≡ get_or (history_at c.args.mesh.now c.args.index) c.loop-line.line-index c.line-item.result =
    c.line-item.is ∙ ap (λ (hs : List HistoryLine). get_or hs c.loop-line.line-index c.line-item.result) lines in
    let known = caller_known c.args.mesh.now c.args.callers.now c.args.index c.loop-line.line-index c.line-item.result c.requires.agrees c.requires.known c.requires.node l is in
    let numbered : c.index-number.result.now ≡ get_or c.loop-line.taken.items c.line-item.result.caller 0 =
    c.index-number.ensures ∙ get_or_default c.loop-line.taken.items c.caller-place.result c.index-number.result.now 0 (omega (arith, known, c.loop-line.invariant.size, c.caller-place.ensures))
    ∙ ap (λ k. get_or c.loop-line.taken.items k 0) c.caller-place.ensures in
    omega (
      arith,
      number_small c.args.mesh.now c.args.callers.now c.args.index c.loop-line.line-index c.line-item.result c.requires.agrees
          c.requires.known c.requires.node l is c.args.ranked.now.items c.loop-line.ranked.items c.loop-line.taken.items c.loop-line.rank
          c.loop-line.invariant c.index-callers-place.result (c.index-callers-place.is ∙ ap (λ k. get_or c.args.callers.now k c.index-callers-place.result) c.caller-place.ensures) c.index-number.result.now numbered,
      c.loop-line-test.true,
      c.as_slice-line-items.type_inv.0,
    )

pub reach-reach-requires-clause-node : goal.reach-reach-requires-clause-node
reach-reach-requires-clause-node c =
    let lines = lines_are c.args.mesh.now c.args.index c.as_slice.result.now c.index-as_slice-index.result c.as_slice-line-items.result.now
    c.requires.node c.requires.agrees.histories c.as_slice.ensures c.index-as_slice-index.is c.as_slice-line-items.ensures in
    let l : c.loop-line.line-index < length (history_at c.args.mesh.now c.args.index) = omega (arith, c.loop-line-test.true, ap length lines) in
    let is : c.line-item.result ≡ get_or (history_at c.args.mesh.now c.args.index) c.loop-line.line-index c.line-item.result =
    c.line-item.is ∙ ap (λ (hs : List HistoryLine). get_or hs c.loop-line.line-index c.line-item.result) lines in
    let known = caller_known c.args.mesh.now c.args.callers.now c.args.index c.loop-line.line-index c.line-item.result c.requires.agrees c.requires.known c.requires.node l is in
    let numbered : c.index-number.result.now ≡ get_or c.loop-line.taken.items c.line-item.result.caller 0 =
    c.index-number.ensures ∙ get_or_default c.loop-line.taken.items c.caller-place.result c.index-number.result.now 0 (omega (arith, known, c.loop-line.invariant.size, c.caller-place.ensures))
    ∙ ap (λ k. get_or c.loop-line.taken.items k 0) c.caller-place.ensures in
    omega (
      arith,
      nodes_reached c.args.mesh.now c.args.callers.now c.args.index c.loop-line.line-index c.line-item.result c.requires.agrees
          c.requires.known c.requires.node l is c.args.ranked.now.items c.loop-line.ranked.items c.loop-line.taken.items c.loop-line.rank
          c.loop-line.invariant c.index-callers-place.result (c.index-callers-place.is ∙ ap (λ k. get_or c.args.callers.now k c.index-callers-place.result) c.caller-place.ensures) c.index-number.result.now numbered,
      c.requires.node,
    )

pub reach-reach-requires-clause-line : goal.reach-reach-requires-clause-line
reach-reach-requires-clause-line c =
    let lines = lines_are c.args.mesh.now c.args.index c.as_slice.result.now c.index-as_slice-index.result c.as_slice-line-items.result.now
    c.requires.node c.requires.agrees.histories c.as_slice.ensures c.index-as_slice-index.is c.as_slice-line-items.ensures in
    let l : c.loop-line.line-index < length (history_at c.args.mesh.now c.args.index) = omega (arith, c.loop-line-test.true, ap length lines) in
    let is : c.line-item.result ≡ get_or (history_at c.args.mesh.now c.args.index) c.loop-line.line-index c.line-item.result =
    c.line-item.is ∙ ap (λ (hs : List HistoryLine). get_or hs c.loop-line.line-index c.line-item.result) lines in
    let known = caller_known c.args.mesh.now c.args.callers.now c.args.index c.loop-line.line-index c.line-item.result c.requires.agrees c.requires.known c.requires.node l is in
    let numbered : c.index-number.result.now ≡ get_or c.loop-line.taken.items c.line-item.result.caller 0 =
    c.index-number.ensures ∙ get_or_default c.loop-line.taken.items c.caller-place.result c.index-number.result.now 0 (omega (arith, known, c.loop-line.invariant.size, c.caller-place.ensures))
    ∙ ap (λ k. get_or c.loop-line.taken.items k 0) c.caller-place.ensures in
    number_reached c.args.mesh.now c.args.callers.now c.args.index c.loop-line.line-index c.line-item.result c.requires.agrees c.requires.known
    c.requires.node l is c.args.ranked.now.items c.loop-line.ranked.items c.loop-line.taken.items c.loop-line.rank c.loop-line.invariant
    c.index-callers-place.result (c.index-callers-place.is ∙ ap (λ k. get_or c.args.callers.now k c.index-callers-place.result) c.caller-place.ensures) c.index-number.result.now numbered

pub loop-line-preserved-in_default : goal.loop-line-preserved-in_default
loop-line-preserved-in_default c =
    let lines = lines_are c.args.mesh.now c.args.index c.as_slice.result.now c.index-as_slice-index.result c.as_slice-line-items.result.now
    c.requires.node c.requires.agrees.histories c.as_slice.ensures c.index-as_slice-index.is c.as_slice-line-items.ensures in
    let l : c.loop-line.line-index < length (history_at c.args.mesh.now c.args.index) = omega (arith, c.loop-line-test.true, ap length lines) in
    let is : c.line-item.result ≡ get_or (history_at c.args.mesh.now c.args.index) c.loop-line.line-index c.line-item.result =
    c.line-item.is ∙ ap (λ (hs : List HistoryLine). get_or hs c.loop-line.line-index c.line-item.result) lines in
    let known = caller_known c.args.mesh.now c.args.callers.now c.args.index c.loop-line.line-index c.line-item.result c.requires.agrees c.requires.known c.requires.node l is in
    let numbered : c.index-number.result.now ≡ get_or c.loop-line.taken.items c.line-item.result.caller 0 =
    c.index-number.ensures ∙ get_or_default c.loop-line.taken.items c.caller-place.result c.index-number.result.now 0 (omega (arith, known, c.loop-line.invariant.size, c.caller-place.ensures))
    ∙ ap (λ k. get_or c.loop-line.taken.items k 0) c.caller-place.ensures in
    subst (λ k. Walked c.args.mesh.now c.args.callers.now c.args.index c.args.ranked.now.items c.loop-line.ranked.items
    (set c.loop-line.taken.items k (c.index-number.result.now + 1)) c.loop-line.rank (c.loop-line.line-index + 1)) (sym c.caller-place.ensures)
    (walk_stays c.args.mesh.now c.args.callers.now c.args.index c.loop-line.line-index c.line-item.result c.requires.agrees c.requires.known
    c.requires.node l is c.args.ranked.now.items c.loop-line.ranked.items c.loop-line.taken.items c.loop-line.rank c.loop-line.invariant
    c.index-callers-place.result (c.index-callers-place.is ∙ ap (λ k. get_or c.args.callers.now k c.index-callers-place.result) c.caller-place.ensures) c.index-number.result.now numbered c.reach-reach.result c.reach-reach.ensures
    (sym c.in_default.is ∙ c.in_ok-event.ensures))

pub loop-line-preserved : goal.loop-line-preserved
loop-line-preserved c =
    let lines = lines_are c.args.mesh.now c.args.index c.as_slice.result.now c.index-as_slice-index.result c.as_slice-line-items.result.now
    c.requires.node c.requires.agrees.histories c.as_slice.ensures c.index-as_slice-index.is c.as_slice-line-items.ensures in
    let l : c.loop-line.line-index < length (history_at c.args.mesh.now c.args.index) = omega (arith, c.loop-line-test.true, ap length lines) in
    let is : c.line-item.result ≡ get_or (history_at c.args.mesh.now c.args.index) c.loop-line.line-index c.line-item.result =
    c.line-item.is ∙ ap (λ (hs : List HistoryLine). get_or hs c.loop-line.line-index c.line-item.result) lines in
    let known = caller_known c.args.mesh.now c.args.callers.now c.args.index c.loop-line.line-index c.line-item.result c.requires.agrees c.requires.known c.requires.node l is in
    let numbered : c.index-number.result.now ≡ get_or c.loop-line.taken.items c.line-item.result.caller 0 =
    c.index-number.ensures ∙ get_or_default c.loop-line.taken.items c.caller-place.result c.index-number.result.now 0 (omega (arith, known, c.loop-line.invariant.size, c.caller-place.ensures))
    ∙ ap (λ k. get_or c.loop-line.taken.items k 0) c.caller-place.ensures in
    subst (λ k. Walked c.args.mesh.now c.args.callers.now c.args.index c.args.ranked.now.items c.push.new.self.items
    (set c.loop-line.taken.items k (c.index-number.result.now + 1)) c.rank_of-rank.result (c.loop-line.line-index + 1)) (sym c.caller-place.ensures)
    (walk_moves c.args.mesh.now c.args.callers.now c.args.index c.loop-line.line-index c.line-item.result c.requires.agrees c.requires.known
    c.requires.node l is c.args.ranked.now.items c.loop-line.ranked.items c.loop-line.taken.items c.loop-line.rank c.loop-line.invariant
    c.index-callers-place.result (c.index-callers-place.is ∙ ap (λ k. get_or c.args.callers.now k c.index-callers-place.result) c.caller-place.ensures) c.index-number.result.now numbered c.reach-reach.result c.in-Some.field-0
    c.rank_of-rank.result c.push.new.self.items c.reach-reach.ensures (sym c.in-Some.is ∙ c.in_ok-event.ensures) c.rank_of-rank.ensures
    c.in_ok-push.ensures.items)

pub returns : goal.returns
returns c =
    let lines = lines_are c.args.mesh.now c.args.index c.as_slice.result.now c.index-as_slice-index.result c.as_slice-line-items.result.now
    c.requires.node c.requires.agrees.histories c.as_slice.ensures c.index-as_slice-index.is c.as_slice-line-items.ensures in
    walk_ends c.args.mesh.now c.args.callers.now c.args.index c.loop-line.line-index c.args.ranked.now.items c.loop-line.ranked.items
    c.loop-line.taken.items c.loop-line.rank c.loop-line.invariant (omega (arith, c.loop-line-test.false, ap length lines))
