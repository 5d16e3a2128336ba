-- An entry, and so a log, keeps what holds of every namespace.
use Rattle.std.proofs.Common.{◌≡◌, ℕ, ◌+◌, List, [], ◌∷◌, length, Option, Some, None, refl, sym, subst, arith}
use Rattle.edit_ops.specs.Grammar.{IsEdit}
use Rattle.ns_tree.specs.Space.{Space, IsSpace}
use Rattle.ns_tree.specs.Places.{IsTree}
use Rattle.ns_edits.specs.Apply.{apply_op, apply_of}
use Rattle.ns_edits.specs.Keeps.{EntriesStaySound, SpacesStaySound}
use Rattle.ns_edits.specs.Replay.{entered, goes_on, replay_from}
use Rattle.ns_edits.proofs.Admitted.{good_by, op_admitted}
use Rattle.ns_edits.proofs.Calls.{Entered, entered_is}
use Rattle.ns_edits.proofs.Decodes.{only_record_decodes}
use Rattle.ns_edits.proofs.EditsSound.{op_sound}
use Rattle.ns_edits.proofs.Retries.{CallsAreSound, entry_sound}
use Rattle.ns_edits.proofs.Splits.{some_is, none≢some}

pub entries_stay_sound : EntriesStaySound
unfolding apply_of
entries_stay_sound t body s z bytes h e = subst (λ (x : Space). IsSpace (t + 1) x) (sym x.applied) sound
  where
    x : Entered (t + 1) body s z
    x = entered_is (t + 1) body s z e

    is : IsEdit x.edit
    is = (only_record_decodes body x.edit bytes x.decodes).edit

    -- the pairs alone, under an empty retry list
    tree : IsTree (record { pairs = s.pairs; calls = [] })
    tree = record { ordered = h.ordered; pairs = h.pairs; root = h.root; few = omega arith; rising = omega arith; distinct = tt }

    kept : IsTree (record { pairs = apply_op x.edit.op s.pairs; calls = [] })
    kept = op_sound x.edit.op (record { pairs = s.pairs; calls = [] }) (good_by x.edit.call x.edit.op is.fields) (op_admitted s x.edit x.admitted) tree

    calls : CallsAreSound (t + 1) (apply_of s x.edit (t + 1))
    calls = subst (λ (y : Space). CallsAreSound (t + 1) y) x.applied (entry_sound t body s z (record { few = h.few; rising = h.rising; distinct = h.distinct }) e)

    sound : IsSpace (t + 1) (apply_of s x.edit (t + 1))
    sound = record { ordered = kept.ordered; pairs = kept.pairs; root = kept.root; few = calls.few; rising = calls.rising; distinct = calls.distinct }

pub spaces_stay_sound : SpacesStaySound
unfolding replay_from
spaces_stay_sound t [] s z bytes h e = let same : t ≡ t + length {A = List ℕ} [] =
    omega arith in subst (λ (x : Space). IsSpace (t + length {A = List ℕ} []) x) (some_is s z e) (subst (λ (k : ℕ). IsSpace k s) same h)
spaces_stay_sound t (body ∷ bodies) s z bytes h e = by (entered (t + 1) body s) refl (λ y g f. spaces_stay_sound (t + 1) bodies y z bytes.1 g f) e
  where
    by : (o : Option Space) → entered (t + 1) body s ≡ o → ((y : Space) → IsSpace (t + 1) y → replay_from (t + 1) bodies y ≡ Some z → IsSpace (t + 1 + length bodies) z)
        → goes_on o (replay_from (t + 1) bodies) ≡ Some z → IsSpace (t + length (body ∷ bodies)) z
    by None is rec e = none≢some z e
    by (Some y) is rec e = let same : t + 1 + length bodies ≡ t + length (body ∷ bodies) = omega arith in subst (λ (k : ℕ). IsSpace k z) same (rec y (entries_stay_sound t body s y bytes.0 h is) e)
