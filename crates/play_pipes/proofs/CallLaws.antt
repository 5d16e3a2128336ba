-- Calls asked and answered one by one.
use Rattle.std.proofs.Common.{◌≡◌, suc, ◌≤◌, List, [], ◌∷◌, ◌++◌, length, drop, refl, sym, ap, ◌∙◌, arith, length-append, append-nil}
use Rattle.std.proofs.lemmas.List.{append_assoc}
use Rattle.journal_core.specs.declared.request.Request.{Request}
use Rattle.play_pipes.specs.declared.ask.Ask.{Ask}
use Rattle.play_pipes.specs.declared.ask.Ask.TheVariants.{Call, Close}
use Rattle.play_pipes.specs.Calls.{Answer, call_of, calls_of}
use Rattle.play_pipes.specs.Served.{asked}

pub asked_call : (asks : List Ask) (r : Request) → asked (asks ++ Call r ∷ []) ≡ asked asks ++ r ∷ []
asked_call [] r = refl
asked_call (Call q ∷ asks) r = ap (λ l. q ∷ l) (asked_call asks r)
asked_call (Close ∷ asks) r = asked_call asks r

pub asked_close : (asks : List Ask) → asked (asks ++ Close ∷ []) ≡ asked asks
asked_close [] = refl
asked_close (Call q ∷ asks) = ap (λ l. q ∷ l) (asked_close asks)
asked_close (Close ∷ asks) = asked_close asks

-- what isn't answered adds nothing
pub calls_ahead : (rs more : List Request) (answers : List Answer) → length answers ≤ length rs → calls_of (rs ++ more) answers ≡ calls_of rs answers
calls_ahead [] [] [] le = refl
calls_ahead [] (q ∷ more) [] le = refl
calls_ahead [] more (a ∷ answers) le = absurd (omega arith)
calls_ahead (r ∷ rs) more [] le = refl
calls_ahead (r ∷ rs) more (a ∷ answers) le = ap (λ l. call_of r a ++ l) (calls_ahead rs more answers (omega arith))

-- the answer to the first that isn't answered
pub calls_told : (rs : List Request) (answers : List Answer) (r : Request) (a : Answer) → drop (length answers) rs ≡ r ∷ [] → calls_of rs (answers ++ a ∷ []) ≡ calls_of rs answers ++ call_of r a
calls_told [] [] r a e = cc
calls_told [] (b ∷ answers) r a e = cc
calls_told (q ∷ rs) [] r a e =
    let q_is : q ≡ r = cc in
    let rest : rs ≡ [] = cc in
    rw (rest, q_is) (append-nil (call_of r a))
calls_told (q ∷ rs) (b ∷ answers) r a e = ap (λ l. call_of q b ++ l) (calls_told rs answers r a e) ∙ sym (append_assoc (call_of q b) (calls_of rs answers) (call_of r a))

empty : {A : Type 0} (xs : List A) → length xs ≡ 0 → xs ≡ []
empty [] e = refl
empty (x ∷ xs) e = absurd (omega (arith, e))

-- both queues are empty once the closing was popped and each call answered
pub settled : (sent : List Ask) (heard : List Answer) (got : List Ask) (gave : List Answer) (xs : List Ask) (ys : List Answer)
    → sent ++ Close ∷ [] ≡ got ++ xs → gave ≡ heard ++ ys → length got ≡ suc (length gave) → length heard ≡ length sent → calls_of (asked got) gave ≡ calls_of (asked sent) heard
settled sent heard got gave xs ys e f closed even =
    let n = ap length e in
    let n₁ = length-append sent (Close ∷ []) in
    let n₂ = length-append got xs in
    let m = ap length f in
    let m₁ = length-append heard ys in
    let ex : xs ≡ [] = empty xs (omega (arith, n, n₁, n₂, m, m₁, closed, even)) in
    let ey : ys ≡ [] = empty ys (omega (arith, n, n₁, n₂, m, m₁, closed, even)) in
    let g : got ≡ sent ++ Close ∷ [] = sym (e ∙ ap (λ l. got ++ l) ex ∙ append-nil got) in
    let h : gave ≡ heard = f ∙ ap (λ l. heard ++ l) ey ∙ append-nil heard in
    ap (λ l. calls_of (asked l) gave) g ∙ ap (λ l. calls_of l gave) (asked_close sent) ∙ ap (calls_of (asked sent)) h
