-- A log without a body: what moved its node is no run, so no lists with one agree.
use Rattle.std.proofs.Common.{◌≡◌, ℕ, ◌≤◌, List, [], length, refl, sym, subst, arith}
use Rattle.journal_core.specs.Views.{HeadView, BatchView}
use Rattle.journal_core.specs.declared.request.Request.TheVariants as request
use Rattle.journal_core.specs.Segments.{find_segment, put_segment, remove_segment, newest}
use Rattle.journal_core.specs.Limits.{limit_of}
use Rattle.journal_core.specs.Effects.{after_effects}
use Rattle.journal_core.specs.Step.{node_step, effects_of}
use Rattle.journal_core.specs.Cuts.{standing}
use Rattle.journal_history.specs.Cell.{cell_takes}
use Rattle.journal_history.specs.Entries.{Entry}
use Rattle.journal_history.specs.Moving.{epoch_of, moves, move_of, entry_of, moving_of}
use Rattle.run_safety.specs.Run.{Story, IsMade, IsRun, takeover_at}
use Rattle.run_safety.proofs.SeenLaws.{Round, Propose, Ask, Get, Recover, Finalizing, Open, Write, Clean, Other, Writer, seen, asked}
use Rattle.run_safety.proofs.Sent.{made_asks}
use Rattle.run_safety.proofs.Frames.{Framed, Sound}
use Rattle.run_safety.proofs.Table.{sound_at}
use Rattle.mesh.specs.Matches.{reaches, reached, lines_of}
use Rattle.mesh.specs.Agree.{Agrees}
use Rattle.mesh.specs.Owners.{wins, owns}
use Rattle.mesh.specs.Order.{placed_from, place_of, key_of, is_below, tags_of, blocks_cut, blocks_from, put_block, sorted, entries_in, epoch_order}
use Rattle.mesh.specs.Examples.{first_head, batch_at, empty_log, empty_order}
use Rattle.mesh.proofs.OrderRuns.{order_runs}

-- in a run each journal has edits
journal_is : (e s c : ℕ) (w : Writer) (r : Round) (h : HeadView) (m : ℕ) (b : BatchView) → Framed w r → request.Journal h m b ≡ asked e s c r → 1 ≤ length b.bodies
journal_is e s c w Propose h m b f is = absurd (cc is)
journal_is e s c w (Ask x) h m b f is = absurd (cc is)
journal_is e s c w (Get node x end bodies) h m b f is = absurd (cc is)
journal_is e s c w (Recover x) h m b f is = absurd (cc is)
journal_is e s c w (Finalizing x l) h m b f is = absurd (cc is)
journal_is e s c w (Open x) h m b f is = absurd (cc is)
journal_is e s c w (Write x y) h m b f is = let same : b ≡ y = cc is in subst (λ (z : BatchView). 1 ≤ length z.bodies) (sym same) f.5
journal_is e s c w (Clean l) h m b f is = absurd (cc is)
journal_is e s c w Other h m b f is = absurd (cc is)

journal_has_bodies : (n : ℕ) (story : Story) (past : List Entry) (caller node : ℕ) (h : HeadView) (m : ℕ) (b : BatchView)
    → IsMade n story past caller node (request.Journal h m b) → 1 ≤ length b.bodies
journal_has_bodies n story past caller node h m b x =
    let so : Sound n (takeover_at story past) (story.round (length past)) x.underway = sound_at n (takeover_at story past) (story.round (length past)) x.underway x.tasks_follow x.is_there in
    journal_is (takeover_at story past).epoch (story.round (length past)) (seen x.underway).committed (seen x.underway) (seen x.underway).round h m b
    so.frame (made_asks n story past caller node (request.Journal h m b) x)

pub its_order : epoch_order empty_log ≡ empty_order
unfolding find_segment put_segment remove_segment newest limit_of after_effects node_step effects_of standing cell_takes epoch_of moves move_of
    entry_of moving_of reaches reached lines_of wins owns placed_from place_of key_of is_below tags_of blocks_cut blocks_from put_block sorted
    entries_in epoch_order empty_log empty_order
its_order = refl

pub no_run : IsRun 1 empty_order → ⊥
unfolding empty_order
no_run run =
    let none : 1 ≤ length (batch_at 2 []).bodies = journal_has_bodies 1 run.0 _ 0 1 (first_head 3 1) 1 (batch_at 2 []) run.1.0.is_next.0.made in
    omega (arith, none)

one_node : empty_log.nodes ≡ 1
unfolding empty_log
one_node = refl

pub no_agreement : Agrees empty_log → ⊥
no_agreement a = no_run (subst (IsRun 1) its_order (subst (λ (n : ℕ). IsRun n (epoch_order empty_log)) one_node (order_runs empty_log a)))
