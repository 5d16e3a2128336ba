use Rattle.std.proofs.Common.{◌≡◌, ◌∙◌, ◌≤◌, ◌-◌, ap, sym, subst, arith, List}
use Rattle.ns_tree.specs.declared.inode.Noted.{Noted}
use Rattle.ns_tree.specs.Space.{Space, AreRising}
use Rattle.ns_tree.proofs.Noting.{rising_noted, rising_later}
use Rattle.ns_image.specs.Reading.{last_txid}
use Rattle.ns_image.proofs.CallLaws.{last_below, rising_to}
use Rattle.ns_image.proofs.calls.add_call.Goals as goal

pub overflow_add-last : goal.overflow_add-last
overflow_add-last c =
    let last : c.last_txid-last.result ≡ last_txid c.args.namespace.now.calls = c.last_txid-last.ensures ∙ ap (λ (ns : List Noted). last_txid ns) c.calls.ensures in
    let below : last_txid c.args.namespace.now.calls ≤ c.args.txid = last_below 0 c.args.txid c.args.namespace.now.calls c.requires.rising in
    omega (arith, last, below, c.requires.most)

pub note-requires-clause-later : goal.note-requires-clause-later
note-requires-clause-later c =
    let last : c.last_txid-last.result ≡ last_txid c.args.namespace.now.calls = c.last_txid-last.ensures ∙ ap (λ (ns : List Noted). last_txid ns) c.calls.ensures in
    rising_to 0 c.args.txid (c.in_ok-at.at - 1) c.args.namespace.now.calls c.requires.rising (omega (arith, last, c.in_ok-at.ensures.good.0)) (omega arith)

pub returns-clause-rising : goal.returns-clause-rising
returns-clause-rising c =
    let last : c.last_txid-last.result ≡ last_txid c.args.namespace.now.calls = c.last_txid-last.ensures ∙ ap (λ (ns : List Noted). last_txid ns) c.calls.ensures in
    let later : AreRising 0 (c.in_ok-at.at - 1) c.args.namespace.now.calls =
    rising_to 0 c.args.txid (c.in_ok-at.at - 1) c.args.namespace.now.calls c.requires.rising (omega (arith, last, c.in_ok-at.ensures.good.0))
    (omega arith) in
    let rising = rising_noted c.in_ok-call.call c.in_ok-at.at c.args.namespace.now.calls (omega (arith, c.in_ok-at.ensures.good.0)) later in
    subst (λ (s : Space). AreRising 0 c.args.txid s.calls) (sym c.note.ensures) (rising_later 0 c.in_ok-at.at c.args.txid _ c.in_ok-at.ensures.good.1 rising)
