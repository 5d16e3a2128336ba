-- The operator in a thread.
use Rattle.std.specs.Prelude.{Bool, Option, Some, None}
use Rattle.journal_history.specs.declared.node_ask.NodeAsk.{NodeAsk}
use Rattle.std.proofs.Common.{refl, ◌≡◌, ℕ, ◌+◌, ◌<◌, List, [], ◌∷◌, ◌++◌, length, map, take, sym, subst, append-nil, get_or, ◌∙◌}
use Rattle.play_script.specs.declared.script_line.ScriptLine.{ScriptLine}
use Rattle.journal_history.specs.declared.record.Record.{Record}
use Rattle.journal_history.specs.declared.record.Record.TheVariants.{Operator}
use Rattle.mesh.specs.Makers.{IsOperators, IsOperation}
use Rattle.play_model.specs.Lines.{Line, Declares, Acts, Operates, operations_in, line_of}
use Rattle.play_model.specs.Follows.{AreOperations}
use Rattle.play_model.proofs.Taking.{operations_append, operations_snoc, operators_snoc}
use Rattle.play_threads.specs.Threads.{Asks, OperatesOn, HasOperated}
use Rattle.play_threads.proofs.ActorLaws.{lines_next}

nothing_operated : (past : List Record) → past ≡ [] → HasOperated [] past
unfolding AreOperations IsOperators operations_in
nothing_operated past e = subst (λ x. HasOperated [] x) (sym e) (record { operations = tt; operates = tt })

operated_more : (ls : List Line) (l : Line) (old new : List Record) → HasOperated ls old → OperatesOn l old new → HasOperated (ls ++ l ∷ []) new
unfolding operations_in
operated_more ls (Declares name) old new h e =
    subst (λ x. HasOperated (ls ++ Declares name ∷ []) x) (sym e)
    (record { operations = subst (λ os. AreOperations os old) (sym (operations_append ls (Declares name ∷ []) ∙ append-nil (operations_in ls))) h.operations; operates = h.operates })
operated_more ls (Acts actor action) old new h e =
    subst (λ x. HasOperated (ls ++ Acts actor action ∷ []) x) (sym e)
    (record { operations = subst (λ os. AreOperations os old) (sym (operations_append ls (Acts actor action ∷ []) ∙ append-nil (operations_in ls))) h.operations; operates = h.operates })
operated_more ls (Operates node ask) old new h e =
    subst (λ x. HasOperated (ls ++ Operates node ask ∷ []) x) (sym e.1.1)
    (record {
      operations = subst (λ os. AreOperations os (old ++ Operator node ask e.1.0 ∷ [])) (sym (operations_append ls (Operates node ask ∷ [])))
          (operations_snoc (operations_in ls) old node ask e.1.0 h.operations);
      operates = operators_snoc old node ask e.1.0 h.operates e.0;
    })

pub operated_first : (items : List ScriptLine) (past : List Record) → past ≡ [] → HasOperated (map line_of (take 0 items)) past
operated_first items past e = nothing_operated past e

pub operated_next : (items : List ScriptLine) (i : ℕ) (x : ScriptLine) (old new : List Record) → i < length items → x ≡ get_or items i x → HasOperated (map line_of (take i items)) old
    → OperatesOn (line_of x) old new → HasOperated (map line_of (take (i + 1) items)) new
operated_next items i x old new h e done more = subst (λ ls. HasOperated ls new) (sym (lines_next items i x h e)) (operated_more (map line_of (take i items)) (line_of x) old new done more)

-- ## One line
none_operates : (l : Line) (past : List Record) → Asks None l → OperatesOn l past past
none_operates (Declares name) past a = refl
none_operates (Acts actor action) past a = refl
none_operates (Operates node ask) past a = absurd a

pub asks_none : (o : Option (ℕ × NodeAsk)) (l : Line) (past : List Record) → o ≡ None → Asks o l → OperatesOn l past past
asks_none o l past e a = none_operates l past (subst (λ x. Asks x l) e a)

pub asks_some : (o : Option (ℕ × NodeAsk)) (l : Line) (node : ℕ) (ask : NodeAsk) (done : Bool) (old new : List Record) → o ≡ Some (node, ask) → Asks o l → new ≡ old ++ Operator node ask done ∷ []
    → OperatesOn l old new
asks_some o l node ask done old new e a listed =
    let b : (l ≡ Operates node ask) × IsOperation ask = subst (λ x. Asks x l) e a in
    subst (λ x. OperatesOn x old new) (sym b.0) (b.1, (done, listed))

pub ruleset takes = (asks_none, asks_some)
