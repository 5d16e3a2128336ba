use Rattle.std.proofs.Common.{◌≡◌, refl, ◌<◌, ◌+◌, List, length, get_or, set, arith, ap, sym, subst, subst₂, ◌∙◌, Decides}
use Rattle.std.proofs.lemmas.List.{get_or_default}
use Rattle.journal_history.specs.declared.history_line.HistoryLine.{HistoryLine}
use Rattle.mesh.specs.Agree.{operator_of, history_at, record_of}
use Rattle.mesh.specs.Matches.{reached}
use Rattle.mesh_judge.proofs.Walking.{lines_are}
use Rattle.mesh_judge.specs.Matching.{IsNext}
use Rattle.mesh_judge.proofs.Deciding.{holds, fails}
use Rattle.mesh_judge.proofs.MatchLaws.{Walk, Found, caller_within, record_is, table_known, table_size, walk_begins, walk_more, walk_fails, node_unlike, left_or_same}
use Rattle.mesh_judge.proofs.matching.unlike_at.Goals as goal

pub loop-place-init : goal.loop-place-init
loop-place-init c =
    walk_begins c.args.mesh.now c.args.index (length c.args.tables.now) c.in_ok-taken.taken.items (c.requires.known.count ∙ c.requires.sized.records) c.in_ok-taken.ensures

pub index-number-requires : goal.index-number-requires
index-number-requires c =
    let lines = lines_are c.args.mesh.now c.args.index c.as_slice-histories.result.now c.index-histories-index.result c.as_slice-line-items.result.now
    c.requires.node c.requires.sized.histories c.as_slice-histories.ensures c.index-histories-index.is c.as_slice-line-items.ensures in
    let l : c.loop-place.place < length (history_at c.args.mesh.now c.args.index) = omega (arith, c.loop-place-test.true, ap length lines) in
    let is : c.line-item.result ≡ get_or (history_at c.args.mesh.now c.args.index) c.loop-place.place c.line-item.result =
    c.line-item.is ∙ ap (λ (hs : List HistoryLine). get_or hs c.loop-place.place c.line-item.result) lines in
    let known = caller_within (operator_of c.args.mesh.now) c.loop-place.place (history_at c.args.mesh.now c.args.index) c.line-item.result c.requires.callers l is in
    omega (arith, known, c.loop-place.invariant.size, c.loop-place.taken.ok.0, c.caller-caller.ensures)

pub bounds-records-caller : goal.bounds-records-caller
bounds-records-caller c =
    let lines = lines_are c.args.mesh.now c.args.index c.as_slice-histories.result.now c.index-histories-index.result c.as_slice-line-items.result.now
    c.requires.node c.requires.sized.histories c.as_slice-histories.ensures c.index-histories-index.is c.as_slice-line-items.ensures in
    let l : c.loop-place.place < length (history_at c.args.mesh.now c.args.index) = omega (arith, c.loop-place-test.true, ap length lines) in
    let is : c.line-item.result ≡ get_or (history_at c.args.mesh.now c.args.index) c.loop-place.place c.line-item.result =
    c.line-item.is ∙ ap (λ (hs : List HistoryLine). get_or hs c.loop-place.place c.line-item.result) lines in
    let known = caller_within (operator_of c.args.mesh.now) c.loop-place.place (history_at c.args.mesh.now c.args.index) c.line-item.result c.requires.callers l is in
    omega (arith, known, c.requires.sized.records, ap length c.as_slice-records.ensures, c.caller-caller.ensures)

pub bounds-tables-caller : goal.bounds-tables-caller
bounds-tables-caller c =
    let lines = lines_are c.args.mesh.now c.args.index c.as_slice-histories.result.now c.index-histories-index.result c.as_slice-line-items.result.now
    c.requires.node c.requires.sized.histories c.as_slice-histories.ensures c.index-histories-index.is c.as_slice-line-items.ensures in
    let l : c.loop-place.place < length (history_at c.args.mesh.now c.args.index) = omega (arith, c.loop-place-test.true, ap length lines) in
    let is : c.line-item.result ≡ get_or (history_at c.args.mesh.now c.args.index) c.loop-place.place c.line-item.result =
    c.line-item.is ∙ ap (λ (hs : List HistoryLine). get_or hs c.loop-place.place c.line-item.result) lines in
    let known = caller_within (operator_of c.args.mesh.now) c.loop-place.place (history_at c.args.mesh.now c.args.index) c.line-item.result c.requires.callers l is in
    omega (arith, known, c.requires.known.count, c.requires.sized.records, c.caller-caller.ensures)

pub is_next-requires-clause-known : goal.is_next-requires-clause-known
is_next-requires-clause-known c =
    let lines = lines_are c.args.mesh.now c.args.index c.as_slice-histories.result.now c.index-histories-index.result c.as_slice-line-items.result.now
    c.requires.node c.requires.sized.histories c.as_slice-histories.ensures c.index-histories-index.is c.as_slice-line-items.ensures in
    let l : c.loop-place.place < length (history_at c.args.mesh.now c.args.index) = omega (arith, c.loop-place-test.true, ap length lines) in
    let is : c.line-item.result ≡ get_or (history_at c.args.mesh.now c.args.index) c.loop-place.place c.line-item.result =
    c.line-item.is ∙ ap (λ (hs : List HistoryLine). get_or hs c.loop-place.place c.line-item.result) lines in
    let known = caller_within (operator_of c.args.mesh.now) c.loop-place.place (history_at c.args.mesh.now c.args.index) c.line-item.result c.requires.callers l is in
    let recorded = record_is c.args.mesh.now c.caller-caller.result c.as_slice-records.result.now c.index-records-caller.result
    c.as_slice.result.now (omega (arith, known, c.requires.sized.records, c.caller-caller.ensures)) c.as_slice-records.ensures c.index-records-caller.is
    c.as_slice.ensures in
    table_known c.args.mesh.now c.caller-caller.result c.args.tables.now c.index-tables-caller.result c.as_slice.result.now
    c.requires.known (omega (arith, known, c.requires.sized.records, c.caller-caller.ensures)) c.index-tables-caller.is recorded

pub is_next-requires-clause-node : goal.is_next-requires-clause-node
is_next-requires-clause-node c =
    let lines = lines_are c.args.mesh.now c.args.index c.as_slice-histories.result.now c.index-histories-index.result c.as_slice-line-items.result.now
    c.requires.node c.requires.sized.histories c.as_slice-histories.ensures c.index-histories-index.is c.as_slice-line-items.ensures in
    let l : c.loop-place.place < length (history_at c.args.mesh.now c.args.index) = omega (arith, c.loop-place-test.true, ap length lines) in
    let is : c.line-item.result ≡ get_or (history_at c.args.mesh.now c.args.index) c.loop-place.place c.line-item.result =
    c.line-item.is ∙ ap (λ (hs : List HistoryLine). get_or hs c.loop-place.place c.line-item.result) lines in
    let known = caller_within (operator_of c.args.mesh.now) c.loop-place.place (history_at c.args.mesh.now c.args.index) c.line-item.result c.requires.callers l is in
    omega (
      arith,
      c.requires.node,
      table_size c.args.mesh.now c.caller-caller.result c.args.tables.now c.index-tables-caller.result
          c.requires.known (omega (arith, known, c.requires.sized.records, c.caller-caller.ensures)) c.index-tables-caller.is,
    )

pub returns-then-not-is_next : goal.returns-then-not-is_next
returns-then-not-is_next c =
    let lines = lines_are c.args.mesh.now c.args.index c.as_slice-histories.result.now c.index-histories-index.result c.as_slice-line-items.result.now
    c.requires.node c.requires.sized.histories c.as_slice-histories.ensures c.index-histories-index.is c.as_slice-line-items.ensures in
    let l : c.loop-place.place < length (history_at c.args.mesh.now c.args.index) = omega (arith, c.loop-place-test.true, ap length lines) in
    let is : c.line-item.result ≡ get_or (history_at c.args.mesh.now c.args.index) c.loop-place.place c.line-item.result =
    c.line-item.is ∙ ap (λ (hs : List HistoryLine). get_or hs c.loop-place.place c.line-item.result) lines in
    let known = caller_within (operator_of c.args.mesh.now) c.loop-place.place (history_at c.args.mesh.now c.args.index) c.line-item.result c.requires.callers l is in
    let numbered : c.index-number.result.now ≡ get_or c.loop-place.taken.items c.line-item.result.caller 0 =
    c.index-number.ensures ∙ get_or_default c.loop-place.taken.items c.caller-caller.result c.index-number.result.now 0 (omega (arith, known, c.loop-place.invariant.size, c.caller-caller.ensures))
    ∙ ap (λ k. get_or c.loop-place.taken.items k 0) c.caller-caller.ensures in
    let recorded = record_is c.args.mesh.now c.caller-caller.result c.as_slice-records.result.now c.index-records-caller.result
    c.as_slice.result.now (omega (arith, known, c.requires.sized.records, c.caller-caller.ensures)) c.as_slice-records.ensures c.index-records-caller.is
    c.as_slice.ensures in
    let next : Decides c.is_next.result (IsNext (reached (c.args.index + 1) (record_of c.args.mesh.now c.line-item.result.caller))
    (get_or c.loop-place.taken.items c.line-item.result.caller 0) c.line-item.result) =
    subst₂ (λ rs n. Decides c.is_next.result (IsNext (reached (c.args.index + 1) rs) n c.line-item.result))
    (recorded ∙ ap (record_of c.args.mesh.now) c.caller-caller.ensures) numbered c.is_next.ensures in
    let off = fails (IsNext (reached (c.args.index + 1) (record_of c.args.mesh.now c.line-item.result.caller))
    (get_or c.loop-place.taken.items c.line-item.result.caller 0) c.line-item.result) c.is_next.result c.if-not-is_next.true next in (
      (refl, node_unlike c.args.mesh.now c.args.index c.loop-place.taken.items c.loop-place.place c.line-item.result l is known off c.loop-place.invariant),
      walk_fails c.args.mesh.now c.args.index c.loop-place.taken.items c.loop-place.place c.line-item.result l is known off c.loop-place.invariant,
    )

pub overflow_add-number : goal.overflow_add-number
overflow_add-number c =
    let lines = lines_are c.args.mesh.now c.args.index c.as_slice-histories.result.now c.index-histories-index.result c.as_slice-line-items.result.now
    c.requires.node c.requires.sized.histories c.as_slice-histories.ensures c.index-histories-index.is c.as_slice-line-items.ensures in
    let l : c.loop-place.place < length (history_at c.args.mesh.now c.args.index) = omega (arith, c.loop-place-test.true, ap length lines) in
    let is : c.line-item.result ≡ get_or (history_at c.args.mesh.now c.args.index) c.loop-place.place c.line-item.result =
    c.line-item.is ∙ ap (λ (hs : List HistoryLine). get_or hs c.loop-place.place c.line-item.result) lines in
    let known = caller_within (operator_of c.args.mesh.now) c.loop-place.place (history_at c.args.mesh.now c.args.index) c.line-item.result c.requires.callers l is in
    let numbered : c.index-number.result.now ≡ get_or c.loop-place.taken.items c.line-item.result.caller 0 =
    c.index-number.ensures ∙ get_or_default c.loop-place.taken.items c.caller-caller.result c.index-number.result.now 0 (omega (arith, known, c.loop-place.invariant.size, c.caller-caller.ensures))
    ∙ ap (λ k. get_or c.loop-place.taken.items k 0) c.caller-caller.ensures in
    omega (arith, numbered, c.loop-place.invariant.few c.line-item.result.caller, c.loop-place-test.true, c.as_slice-line-items.type_inv.0)

pub index_mut-requires : goal.index_mut-requires
index_mut-requires c =
    let lines = lines_are c.args.mesh.now c.args.index c.as_slice-histories.result.now c.index-histories-index.result c.as_slice-line-items.result.now
    c.requires.node c.requires.sized.histories c.as_slice-histories.ensures c.index-histories-index.is c.as_slice-line-items.ensures in
    let l : c.loop-place.place < length (history_at c.args.mesh.now c.args.index) = omega (arith, c.loop-place-test.true, ap length lines) in
    let is : c.line-item.result ≡ get_or (history_at c.args.mesh.now c.args.index) c.loop-place.place c.line-item.result =
    c.line-item.is ∙ ap (λ (hs : List HistoryLine). get_or hs c.loop-place.place c.line-item.result) lines in
    let known = caller_within (operator_of c.args.mesh.now) c.loop-place.place (history_at c.args.mesh.now c.args.index) c.line-item.result c.requires.callers l is in
    omega (arith, known, c.loop-place.invariant.size, c.loop-place.taken.ok.0, c.caller-caller.ensures)

pub loop-place-preserved : goal.loop-place-preserved
loop-place-preserved c =
    let lines = lines_are c.args.mesh.now c.args.index c.as_slice-histories.result.now c.index-histories-index.result c.as_slice-line-items.result.now
    c.requires.node c.requires.sized.histories c.as_slice-histories.ensures c.index-histories-index.is c.as_slice-line-items.ensures in
    let l : c.loop-place.place < length (history_at c.args.mesh.now c.args.index) = omega (arith, c.loop-place-test.true, ap length lines) in
    let is : c.line-item.result ≡ get_or (history_at c.args.mesh.now c.args.index) c.loop-place.place c.line-item.result =
    c.line-item.is ∙ ap (λ (hs : List HistoryLine). get_or hs c.loop-place.place c.line-item.result) lines in
    let known = caller_within (operator_of c.args.mesh.now) c.loop-place.place (history_at c.args.mesh.now c.args.index) c.line-item.result c.requires.callers l is in
    let numbered : c.index-number.result.now ≡ get_or c.loop-place.taken.items c.line-item.result.caller 0 =
    c.index-number.ensures ∙ get_or_default c.loop-place.taken.items c.caller-caller.result c.index-number.result.now 0 (omega (arith, known, c.loop-place.invariant.size, c.caller-caller.ensures))
    ∙ ap (λ k. get_or c.loop-place.taken.items k 0) c.caller-caller.ensures in
    let recorded = record_is c.args.mesh.now c.caller-caller.result c.as_slice-records.result.now c.index-records-caller.result
    c.as_slice.result.now (omega (arith, known, c.requires.sized.records, c.caller-caller.ensures)) c.as_slice-records.ensures c.index-records-caller.is
    c.as_slice.ensures in
    let next : Decides c.is_next.result (IsNext (reached (c.args.index + 1) (record_of c.args.mesh.now c.line-item.result.caller))
    (get_or c.loop-place.taken.items c.line-item.result.caller 0) c.line-item.result) =
    subst₂ (λ rs n. Decides c.is_next.result (IsNext (reached (c.args.index + 1) rs) n c.line-item.result))
    (recorded ∙ ap (record_of c.args.mesh.now) c.caller-caller.ensures) numbered c.is_next.ensures in
    subst₂ (λ k n. Walk c.args.mesh.now c.args.index (set c.loop-place.taken.items k (n + 1)) (c.loop-place.place + 1)) (sym c.caller-caller.ensures) (sym numbered)
    (walk_more c.args.mesh.now c.args.index c.loop-place.taken.items c.loop-place.place c.line-item.result l is known
    (holds (IsNext (reached (c.args.index + 1) (record_of c.args.mesh.now c.line-item.result.caller))
    (get_or c.loop-place.taken.items c.line-item.result.caller 0) c.line-item.result) c.is_next.result c.if-not-is_next.false next)
    c.loop-place.invariant)

pub returns : goal.returns
returns c =
    let lines = lines_are c.args.mesh.now c.args.index c.as_slice-histories.result.now c.index-histories-index.result c.as_slice-line-items.result.now
    c.requires.node c.requires.sized.histories c.as_slice-histories.ensures c.index-histories-index.is c.as_slice-line-items.ensures in
    left_or_same c.args.mesh.now c.args.index c.loop-place.place c.loop-place.taken.items c.args.tables.now c.first_left.result c.requires.known c.requires.sized c.requires.node
    (omega (arith, c.loop-place-test.false, ap length lines)) c.loop-place.invariant
    (subst (λ t. Found c.args.tables.now c.args.index t c.first_left.result) c.deref.ensures.value c.first_left.ensures)
