-- A caller some lines later, whatever its wire.
use Rattle.std.specs.Prelude.{◌≡◌, ℕ, ◌≤◌, List, [], ◌∷◌, ◌++◌}
use Rattle.std.proofs.Common.{refl, sym, ap, subst, ◌∙◌, append_assoc, append-nil}
use Rattle.journal_history.specs.declared.record.Record.{Record}
use Rattle.play_calls.specs.Logs.{LogView}
use Rattle.play_calls.specs.Made.{MakesCalls}
use Rattle.play_calls.proofs.CallLists.{makes_none, makes_on}
use Rattle.caller.specs.declared.wire.WireModel.{Ghosts}
use Rattle.caller.specs.Callers.{CallerView, LineGoes, LinesGo, OneGoes, AreLater}

-- the laws of a wire
abbrev pub ReadiesNone : {W : Type 0} → Ghosts W → Type 0
ReadiesNone w = (u : _) → w.readies u u

abbrev pub ReadiesOn : {W : Type 0} → Ghosts W → Type 0
ReadiesOn w = (u v x : _) → w.readies u v → w.readies v x → w.readies u x

module _ {W : Type 0} (w : Ghosts W) where
  -- ## Lines
  ready_first : ReadiesOn w → (lines : List Record) (u v x : W) → w.readies u v → LinesGo w lines v x → LinesGo w lines u x
  unfolding LinesGo
  ready_first on [] u v x r g = on u v x r g
  ready_first on (l ∷ ls) u v x r g = record { ahead = g.ahead; after = g.after; readied = on u v g.ahead r g.readied; went = g.went; rest = g.rest }

  lines_on : ReadiesOn w → (xs ys : List Record) (old mid new : W) → LinesGo w xs old mid → LinesGo w ys mid new → LinesGo w (xs ++ ys) old new
  unfolding LinesGo
  lines_on on [] ys old mid new g h = ready_first on ys old mid new g h
  lines_on on (x ∷ xs) ys old mid new g h = record { ahead = g.ahead; after = g.after; readied = g.readied; went = g.went; rest = lines_on on xs ys g.after mid new g.rest h }

  pub later_same : ReadiesNone w → (s : CallerView W) → AreLater w s s
  unfolding LinesGo
  later_same none s = record { nodes = refl; lines = []; past = sym (append-nil s.log.past); went = none s.wire }

  pub later_on : ReadiesOn w → (r s t : CallerView W) → AreLater w r s → AreLater w s t → AreLater w r t
  later_on on r s t a b = record {
    nodes = b.nodes ∙ a.nodes;
    lines = a.lines ++ b.lines;
    past = b.past ∙ ap (λ (ps : List Record). ps ++ b.lines) a.past ∙ append_assoc r.log.past a.lines b.lines;
    went = lines_on on a.lines b.lines r.wire s.wire t.wire a.went b.went;
  }

  -- ## Calls alone
  abbrev pub AreCalled : CallerView W → CallerView W → Type 0
  AreCalled old new = AreLater w old new × MakesCalls old.log new.log

  pub called_none : ReadiesNone w → (s : CallerView W) → AreCalled s s
  called_none none s = (later_same none s, makes_none s.log)

  pub called_on : ReadiesOn w → (r s t : CallerView W) → AreCalled r s → AreCalled s t → AreCalled r t
  called_on on r s t a b = (later_on on r s t a.0 b.0, makes_on r.log s.log t.log a.1 b.1)

  -- ## A line, or none
  -- requests were sent ahead, and nothing was listed
  pub later_ready : (s t : CallerView W) → t.log.nodes ≡ s.log.nodes → t.log.past ≡ s.log.past → w.readies s.wire t.wire → AreLater w s t
  unfolding LinesGo
  later_ready s t n p r = record { nodes = n; lines = []; past = p ∙ sym (append-nil s.log.past); went = r }

  -- one line
  pub later_one : ReadiesNone w → (s t : CallerView W) (r : Record) → t.log.nodes ≡ s.log.nodes → t.log.past ≡ s.log.past ++ r ∷ [] → LineGoes w r s.wire t.wire → AreLater w s t
  unfolding LinesGo
  later_one none s t r n p g =
      record { nodes = n; lines = r ∷ []; past = p; went = record { ahead = s.wire; after = t.wire; readied = none s.wire; went = g; rest = none t.wire } }
