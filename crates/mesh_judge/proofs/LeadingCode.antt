-- The chores that may begin with a request; and stands that go on one by one.
use Rattle.std.proofs.Common.{◌≡◌, ◌≢◌, ℕ, List, [], ◌∷◌, ◌++◌, refl, sym, ap, ◌∙◌, append_assoc, append-nil}
use Rattle.journal_core.specs.declared.request.Request.{Request}
use Rattle.writer_core.specs.declared.task.Task.{Task}
use Rattle.writer_core.specs.declared.task.Task.TheVariants as task
use Rattle.writer_core.specs.Views.{WriterView}
use Rattle.writer_core.specs.Writer.{writer_begun}
use Rattle.journal_history.specs.declared.record.Told.{Told}
use Rattle.mesh_judge.specs.Leading.{Stand, log_of, hears, hear_begun, goes_on, all_go_on}

some_log : (bodies : List (List ℕ)) → bodies ≢ [] → log_of bodies ≡ task.Log bodies ∷ []
some_log [] h = absurd (h refl)
some_log (b ∷ bs) h = refl

-- the stands after one task
pub one_begun : (w : WriterView) (node : ℕ) (r : Request) (t : Told) (x : Task) (us a : List Stand) → a ≡ us ++ hears (writer_begun w x).writer node r t → a ≡ us ++ hear_begun w node r t (x ∷ [])
one_begun w node r t x us a e = e ∙ ap (λ l. us ++ l) (sym (append-nil (hears (writer_begun w x).writer node r t)))

-- the stands after each of three tasks, one list after the other
pub log_begun : (w : WriterView) (node : ℕ) (r : Request) (t : Told) (bodies : List (List ℕ)) (us a b c : List Stand) → bodies ≢ []
    → a ≡ us ++ hears (writer_begun w (task.Log bodies)).writer node r t → b ≡ a ++ hears (writer_begun w task.Roll).writer node r t
    → c ≡ b ++ hears (writer_begun w task.Close).writer node r t → c ≡ us ++ hear_begun w node r t (log_of bodies ++ task.Roll ∷ task.Close ∷ [])
log_begun w node r t bodies us a b c some e f g =
    let one = hears (writer_begun w (task.Log bodies)).writer node r t in
    let two = hears (writer_begun w task.Roll).writer node r t in
    let three = hears (writer_begun w task.Close).writer node r t in
    g ∙ ap (λ x. x ++ three) (f ∙ ap (λ x. x ++ two) e) ∙ ap (λ x. x ++ three) (append_assoc us one two) ∙ append_assoc us (one ++ two) three
    ∙ ap (λ x. us ++ x) (append_assoc one two three ∙ ap (λ x. one ++ (two ++ x)) (sym (append-nil three)))
    ∙ ap (λ x. us ++ hear_begun w node r t (x ++ task.Roll ∷ task.Close ∷ [])) (sym (some_log bodies some))

-- one stand more
pub one_more : (node : ℕ) (r : Request) (t : Told) (ss : List Stand) (s : Stand) → all_go_on (ss ++ s ∷ []) node r t ≡ all_go_on ss node r t ++ goes_on s node r t
one_more node r t [] s = append-nil (goes_on s node r t)
one_more node r t (v ∷ ss) s = ap (λ x. goes_on v node r t ++ x) (one_more node r t ss s) ∙ sym (append_assoc (goes_on v node r t) (all_go_on ss node r t) (goes_on s node r t))
