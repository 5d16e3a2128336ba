-- Worked claims: an edit that is acknowledged, a result that tells of no edit, and a batch that nobody
-- may log.
use Rattle.std.proofs.Common.{◌≡◌, ℕ, ◌+◌, ◌≤◌, List, [], ◌∷◌, refl, sym, ap, ◌∙◌, arith, length, get_or, reverse, Contains, ◌⊎◌, inl, inr}
use Rattle.std.specs.Prelude.{Some, None, codes}
use Rattle.std.specs.Fmt.{digits}
use Rattle.journal_core.specs.declared.request.Request.TheVariants.{Journal}
use Rattle.edit_ops.specs.Reading.{field_at}
use Rattle.ns_tree.specs.Space.{Space, empty_space}
use Rattle.ns_edits.specs.Decoded.{op_from, edit_from, opcode_of, decoded}
use Rattle.ns_edits.specs.Admit.{admit_op, admit_of}
use Rattle.ns_edits.specs.Apply.{apply_op, apply_of}
use Rattle.ns_edits.specs.Replay.{entered, replay_from, replay}
use Rattle.ns_edits.proofs.Splits.{some_is, none≢some}
use Rattle.journal_history.specs.declared.record.Record.TheVariants.{Call, Outcome}
use Rattle.journal_history.specs.Entries.{Entry, now, before}
use Rattle.run_safety.specs.Majority.{Member, IsMajority}
use Rattle.run_safety.specs.Safe.{IsAcknowledged, SaidOk}
use Rattle.mesh.specs.declared.whole.Mesh.{Mesh}
use Rattle.mesh.proofs.Lists.{contains_none, contains_cases}
use Rattle.play_laws.specs.PlayExamples.{head, edit, batch}
use Rattle.play_laws.specs.FirstRun.{asking, first_edit, called, moved_by, first_entries}
use Rattle.play_laws.specs.Broken.{only_said}
use Rattle.play_laws.specs.Examples.{orphan_batch}
use Rattle.play_laws.specs.Linear.{IsAdmitted, begins, ends, edits}
use Rattle.play_laws.specs.Acked.{IsLoggedBy, IsAckedBy, TellsAcknowledged}

-- ## The first run: two of its three nodes answered Ok to the first edit
pub first_acknowledged : IsAcknowledged 3 (reverse first_entries) 1 2 (10 ∷ [])
unfolding first_entries
first_acknowledged = (head 1 3 1, 1, batch 2 (edit 10), refl, (0, refl, refl), (1 ∷ 2 ∷ [], two, said))
  where
    two : IsMajority 3 (1 ∷ 2 ∷ [])
    two = record { distinct = (apart, ((λ e. e), tt)); within = within; more = omega arith }
      where
        apart : Member 1 (2 ∷ []) → ⊥
        apart (inl e) = omega (arith, e)
        apart (inr e) = e

        within : (i : ℕ) → Member i (1 ∷ 2 ∷ []) → (1 ≤ i) × (i ≤ 3)
        within i (inl e) = (omega (arith, e), omega (arith, e))
        within i (inr (inl e)) = (omega (arith, e), omega (arith, e))
        within i (inr (inr e)) = absurd e

    said : (node : ℕ) → Member node (1 ∷ 2 ∷ []) → SaidOk (reverse first_entries) node (Journal (head 1 3 1) 1 (batch 2 (edit 10)))
    said node (inl e) = (_, moved_by 1 first_edit, before (before (before (before (before (before (before (before now))))))), e, (0, refl))
    said node (inr (inl e)) = (_, moved_by 2 first_edit, before (before (before (before (before (before (before now)))))), e, (0, refl))
    said node (inr (inr e)) = absurd e

-- ## A result of no edit
pub claimed : (entries : List Entry) → TellsAcknowledged only_said entries → ⊥
unfolding only_said digits
claimed entries t = by (contains_cases (called 1 asking) (Outcome (codes "acked 5") ∷ []) (Call l.node (Journal l.head l.start l.batch) l.told) l.called)
  where
    acked : IsAckedBy only_said entries 0 5
    acked = t.edits 0 5 (omega arith) (omega arith) (1, omega arith, refl)

    l : IsLoggedBy only_said 0 acked.epoch 5 acked.body
    l = acked.logged

    by : (called 1 asking ≡ Call l.node (Journal l.head l.start l.batch) l.told) ⊎ Contains (Outcome (codes "acked 5") ∷ []) (Call l.node (Journal l.head l.start l.batch) l.told) → ⊥
    by (inl e) = cc e
    by (inr h) = later (contains_cases (Outcome (codes "acked 5")) [] (Call l.node (Journal l.head l.start l.batch) l.told) h)
      where
        later : (Outcome (codes "acked 5") ≡ Call l.node (Journal l.head l.start l.batch) l.told) ⊎ Contains [] (Call l.node (Journal l.head l.start l.batch) l.told) → ⊥
        later (inl e) = cc e
        later (inr g) = contains_none (Call l.node (Journal l.head l.start l.batch) l.told) g

-- ## A batch that nobody may log
refused : replay_from 0 orphan_batch.bodies empty_space ≡ None
unfolding field_at op_from edit_from opcode_of decoded admit_op admit_of apply_op apply_of entered replay_from orphan_batch
refused = refl

abbrev first_length : List (List ℕ) → ℕ
first_length bodies = length (get_or bodies 0 [])

orphan_from : (log : List (List ℕ)) (s ahead : Space) → length log + 1 ≡ orphan_batch.first → replay log ≡ Some s → replay_from (length log) orphan_batch.bodies s ≡ Some ahead → ⊥
unfolding orphan_batch
orphan_from [] s ahead at replayed leads =
    none≢some ahead (sym refused ∙ ap (λ (z : Space). replay_from 0 orphan_batch.bodies z) (some_is empty_space s (unfold replay replay_from in replayed)) ∙ leads)
orphan_from (x ∷ log) s ahead at replayed leads = omega (arith, at)

pub orphan : (m : Mesh) (entries : List Entry) → IsAdmitted m entries orphan_batch → ⊥
orphan m entries (begins is) = unfold orphan_batch in omega (arith, ap first_length is)
orphan m entries (ends is) = unfold orphan_batch in omega (arith, ap first_length is)
orphan m entries (edits log s ahead on at replayed leads) = orphan_from log s ahead at replayed leads
