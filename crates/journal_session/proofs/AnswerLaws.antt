-- What a node answered to a line.
use Rattle.std.proofs.Common.{◌≡◌, ◌⊎◌, ℕ, List, [], ◌∷◌, ◌++◌, Option, Some, None, is_some, refl, sym, ap, ◌∙◌, append_assoc, inl, inr, subst}
use Rattle.journal_core.specs.declared.node_state.NodeState.{NodeState}
use Rattle.journal_core.specs.declared.request.Request.{Request}
use Rattle.journal_core.specs.declared.reply.Reply.{Reply}
use Rattle.journal_core.specs.Step.{Stepped, node_step}
use Rattle.journal_core.specs.Answers.{IsStopOf, IsAnswer, Answers}
use Rattle.journal_text.specs.Reading.{reading_of}
use Rattle.journal_text.specs.Texts.{reply_text}
use Rattle.journal_text.specs.declared.request_line.ReadRequest.TheVariants.{Read}
use Rattle.journal_session.specs.Session.{AreAnswered, Asks, Moves}
use Rattle.journal_session.specs.Answering.{reply_line, IsToldBy, IsAnswered, IsAnsweredOf}
use Rattle.journal_session.specs.declared.answered.Answered.{Answered}
use Rattle.journal_session.specs.declared.answered.Answered.TheVariants as answered

-- an answer that is the step's moves the node by the step
moved : (s t : NodeState) (r : Request) (a : Reply) → node_step s r ≡ record { state = t; reply = a } → t ≡ (node_step s r).state
moved s t r a e = sym (ap (λ (x : Stepped). x.state) e)

said : (s t : NodeState) (r : Request) (a : Reply) → node_step s r ≡ record { state = t; reply = a } → reply_text a ++ 10 ∷ [] ≡ reply_line s r
said s t r a e = ap (λ (x : Stepped). reply_text x.reply ++ 10 ∷ []) (sym e)

out_of_memory : (line : List ℕ) (s t : NodeState) (r : Request) → reading_of line ≡ Read r → (t ≡ s) ⊎ IsStopOf s r t → (t ≡ s) ⊎ Asks line (λ x. Moves s x t)
out_of_memory line s t r reads (inl e) = inl e
out_of_memory line s t r reads (inr e) = inr (record { request = r; reads = reads; so = inl e })

answered_told : (outcome : Answered) (line : List ℕ) (r : Request) (a : Reply) (s t : NodeState) (text : List ℕ)
    → reading_of line ≡ Read r → IsAnswer s r a t → IsToldBy outcome a text → IsAnswered outcome line s t text
answered_told answered.Reply line r a s t text reads h told =
    let e = h.step told.2 told.1 in
    record { request = r; reads = reads; so = (moved s t r a e, told.0 ∙ said s t r a e) }
answered_told (answered.Bad rule) line r a s t text reads h told = absurd told
answered_told answered.DiskFault line r a s t text reads h told = record { request = r; reads = reads; so = h.fault told }
answered_told answered.OutOfMemory line r a s t text reads h (inl e) = out_of_memory line s t r reads (h.memory e)
answered_told answered.OutOfMemory line r a s t text reads h (inr p) =
    inr (record { request = r; reads = reads; so = inr (moved s t r a (h.step p.1 p.0)) })

-- what is told of a node's answer to a request is its answer to the line
pub answered_line : (outcome : Answered) (line : List ℕ) (r : Request) (a : Reply) (old new : Option NodeState) (text : List ℕ)
    → reading_of line ≡ Read r → Answers old r a new → IsToldBy outcome a text → IsAnsweredOf outcome line old new text
answered_line outcome line r a None new text reads h told = tt
answered_line outcome line r a (Some s) None text reads h told = absurd h
answered_line outcome line r a (Some s) (Some t) text reads h told = answered_told outcome line r a s t text reads h told

-- ## One line more
pub answered_more : (s t : NodeState) (lines : List (List ℕ)) (line text : List ℕ) (r : Request) → AreAnswered s lines text t → reading_of line ≡ Read r
    → AreAnswered s (lines ++ line ∷ []) (text ++ reply_line t r) (node_step t r).state
answered_more s t [] line text r h e =
    let P : NodeState → Type 0 = λ x. AreAnswered s (line ∷ []) (text ++ reply_line x r) (node_step x r).state in
    subst P (sym h.1) (r, e, [], ap (λ xs. xs ++ reply_line s r) h.0, (refl, refl))
answered_more s t (l ∷ ls) line text r h e = (
  h.0,
  h.1,
  h.2 ++ reply_line t r,
  ap (λ xs. xs ++ reply_line t r) h.3 ∙ append_assoc (reply_text (node_step s h.0).reply) (10 ∷ h.2) (reply_line t r),
  answered_more (node_step s h.0).state t ls line h.2 r h.4 e,
)

-- a node tells its state after an answer exactly where it did before
pub tells_still : (old new : Option NodeState) (r : Request) (a : Reply) → Answers old r a new → is_some new ≡ is_some old
tells_still None None r a h = refl
tells_still None (Some t) r a h = absurd h
tells_still (Some s) None r a h = absurd h
tells_still (Some s) (Some t) r a h = refl
