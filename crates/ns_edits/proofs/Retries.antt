-- An entry keeps the retry list sound: 1,024 calls at most, each once, with rising txids.
use Rattle.std.proofs.Common.{◌≡◌, ℕ, ◌+◌, ◌-◌, ◌≤◌, List, [], ◌∷◌, ◌++◌, length, Option, Some, None, refl, sym, ap, subst, arith}
use Rattle.edit_ops.specs.declared.call.Call.{Call}
use Rattle.ns_tree.specs.declared.inode.Noted.{Noted}
use Rattle.ns_tree.specs.Space.{Space, most_calls, last_calls, AreRising, AreDistinct}
use Rattle.ns_tree.proofs.Noting.{rising_later, rising_drop, rising_snoc, distinct_drop, distinct_snoc, last_few}
use Rattle.ns_edits.specs.Apply.{noted_if, apply_of}
use Rattle.ns_edits.specs.Replay.{entered}
use Rattle.ns_edits.proofs.Admitted.{call_is_new}
use Rattle.ns_edits.proofs.Calls.{Entered, entered_is}

-- of the retry list, after so many entries
pub record CallsAreSound (position : ℕ) (s : Space) : Type 0 where
  pub few : length s.calls ≤ most_calls
  pub rising : AreRising 0 position s.calls
  pub distinct : AreDistinct s.calls

-- the next txid is above all in the list
pub entry_rising : (t : ℕ) (body : List ℕ) (s z : Space) → AreRising 0 t s.calls → entered (t + 1) body s ≡ Some z → AreRising 0 (t + 1) z.calls
unfolding apply_of
entry_rising t body s z h e = subst (λ (x : Space). AreRising 0 (t + 1) x.calls) (sym x.applied) (by x.edit.call refl)
  where
    x : Entered (t + 1) body s z
    x = entered_is (t + 1) body s z e

    by : (o : Option Call) → x.edit.call ≡ o → AreRising 0 (t + 1) (noted_if x.edit.call (t + 1) s.calls)
    by None is = subst (λ (o : Option Call). AreRising 0 (t + 1) (noted_if o (t + 1) s.calls)) (sym is) (rising_later 0 t (t + 1) s.calls (omega arith) h)
    by (Some call) is = subst (λ (o : Option Call). AreRising 0 (t + 1) (noted_if o (t + 1) s.calls)) (sym is)
        (rising_drop (length (s.calls ++ record { call = call; txid = t + 1 } ∷ []) - 1024) 0 (t + 1) (s.calls ++ record { call = call; txid = t + 1 } ∷ []) (rising_snoc 0 t s.calls call h))

pub entry_sound : (t : ℕ) (body : List ℕ) (s z : Space) → CallsAreSound t s → entered (t + 1) body s ≡ Some z → CallsAreSound (t + 1) z
unfolding apply_of
entry_sound t body s z h e = subst (λ (x : Space). CallsAreSound (t + 1) x) (sym x.applied) (by x.edit.call refl)
  where
    x : Entered (t + 1) body s z
    x = entered_is (t + 1) body s z e

    rising : AreRising 0 (t + 1) (apply_of s x.edit (t + 1)).calls
    rising = subst (λ (y : Space). AreRising 0 (t + 1) y.calls) x.applied (entry_rising t body s z h.rising e)

    by : (o : Option Call) → x.edit.call ≡ o → CallsAreSound (t + 1) (apply_of s x.edit (t + 1))
    by None is =
        let same : noted_if x.edit.call (t + 1) s.calls ≡ s.calls = ap (λ (o : Option Call). noted_if o (t + 1) s.calls) is in
        record {
          few = subst (λ (ns : List Noted). length ns ≤ 1024) (sym same) h.few;
          rising = rising;
          distinct = subst (λ (ns : List Noted). AreDistinct ns) (sym same) h.distinct;
        }
    by (Some call) is =
        let same : noted_if x.edit.call (t + 1) s.calls ≡ last_calls (s.calls ++ record { call = call; txid = t + 1 } ∷ []) = ap (λ (o : Option Call). noted_if o (t + 1) s.calls) is in
        record {
          few = subst (λ (ns : List Noted). length ns ≤ 1024) (sym same) (last_few (s.calls ++ record { call = call; txid = t + 1 } ∷ []));
          rising = rising;
          distinct = subst (λ (ns : List Noted). AreDistinct ns) (sym same)
              (distinct_drop (length (s.calls ++ record { call = call; txid = t + 1 } ∷ []) - 1024)
              (s.calls ++ record { call = call; txid = t + 1 } ∷ [])
              (distinct_snoc call (t + 1) s.calls (call_is_new s x.edit call x.admitted is) h.distinct));
        }
