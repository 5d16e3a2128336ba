-- What the tests of equality say.
use Rattle.std.proofs.Common.{◌≡◌, ℕ, ◌==◌, true, true≢false, List, [], ◌∷◌, refl, sym, ap, ◌∙◌}
use Rattle.std.proofs.lemmas.Bool.{and_parts, eqb-true, eq-eqb, and_from}
use Rattle.journal_core.specs.Views.{HeadView, BatchView}
use Rattle.journal_core.specs.declared.request.Request.{Request}
use Rattle.journal_core.specs.declared.request.Request.TheVariants.{State, NewEpoch, Start, Journal, Finalize, Prepare, Fetch, Accept, Purge, Read, Manifest}
use Rattle.journal_history.specs.Same.{same_nats, same_bodies, same_batch, same_head, same_request}

pub nats_same : (xs ys : List ℕ) → same_nats xs ys ≡ true → xs ≡ ys
nats_same [] [] e = refl
nats_same [] (y ∷ ys) e = absurd (true≢false (sym e))
nats_same (x ∷ xs) [] e = absurd (true≢false (sym e))
nats_same (x ∷ xs) (y ∷ ys) e = let p = and_parts (x == y) (same_nats xs ys) e in let a : x ≡ y = eqb-true x y p.0 in let b : xs ≡ ys = nats_same xs ys p.1 in cc

pub bodies_same : (xs ys : List (List ℕ)) → same_bodies xs ys ≡ true → xs ≡ ys
bodies_same [] [] e = refl
bodies_same [] (y ∷ ys) e = absurd (true≢false (sym e))
bodies_same (x ∷ xs) [] e = absurd (true≢false (sym e))
bodies_same (x ∷ xs) (y ∷ ys) e = let p = and_parts (same_nats x y) (same_bodies xs ys) e in let a : x ≡ y = nats_same x y p.0 in let b : xs ≡ ys = bodies_same xs ys p.1 in cc

pub batch_same : (a b : BatchView) → same_batch a b ≡ true → a ≡ b
batch_same a b e = let p = and_parts (a.first == b.first) (same_bodies a.bodies b.bodies) e in let x : a.first ≡ b.first =
    eqb-true a.first b.first p.0 in let y : a.bodies ≡ b.bodies = bodies_same a.bodies b.bodies p.1 in
    ap (λ z. record { first = z; bodies = a.bodies }) x ∙ ap (λ z. record { first = b.first; bodies = z }) y

pub head_same : (a b : HeadView) → same_head a b ≡ true → a ≡ b
head_same a b e =
    let p = and_parts (a.epoch == b.epoch) _ e in let q = and_parts (a.serial == b.serial) (a.committed == b.committed) p.1 in
    ap (λ z. record { epoch = z; serial = a.serial; committed = a.committed }) (eqb-true a.epoch b.epoch p.0)
    ∙ (ap (λ z. record { epoch = b.epoch; serial = z; committed = a.committed }) (eqb-true a.serial b.serial q.0)
    ∙ ap (λ z. record { epoch = b.epoch; serial = b.serial; committed = z }) (eqb-true a.committed b.committed q.1))

pub request_same : (a b : Request) → same_request a b ≡ true → a ≡ b
request_same (NewEpoch a) (NewEpoch b) e = ap (λ z. NewEpoch z) (eqb-true a b e)
request_same (Start h m) (Start k l) e = let p = and_parts (same_head h k) (m == l) e in ap (λ z. Start z m) (head_same h k p.0) ∙ ap (λ z. Start k z) (eqb-true m l p.1)
request_same (Journal h m a) (Journal k l b) e =
    let p = and_parts (same_head h k) _ e in let q = and_parts (m == l) (same_batch a b) p.1 in
    ap (λ z. Journal z m a) (head_same h k p.0) ∙ (ap (λ z. Journal k z a) (eqb-true m l q.0) ∙ ap (λ z. Journal k l z) (batch_same a b q.1))
request_same (Finalize h m a) (Finalize k l b) e =
    let p = and_parts (same_head h k) _ e in let q = and_parts (m == l) (a == b) p.1 in
    ap (λ z. Finalize z m a) (head_same h k p.0) ∙ (ap (λ z. Finalize k z a) (eqb-true m l q.0) ∙ ap (λ z. Finalize k l z) (eqb-true a b q.1))
request_same (Prepare h m) (Prepare k l) e = let p = and_parts (same_head h k) (m == l) e in ap (λ z. Prepare z m) (head_same h k p.0) ∙ ap (λ z. Prepare k z) (eqb-true m l p.1)
request_same (Fetch h m a) (Fetch k l b) e =
    let p = and_parts (same_head h k) _ e in let q = and_parts (m == l) (a == b) p.1 in
    ap (λ z. Fetch z m a) (head_same h k p.0) ∙ (ap (λ z. Fetch k z a) (eqb-true m l q.0) ∙ ap (λ z. Fetch k l z) (eqb-true a b q.1))
request_same (Accept h a) (Accept k b) e = let p = and_parts (same_head h k) (same_batch a b) e in ap (λ z. Accept z a) (head_same h k p.0) ∙ ap (λ z. Accept k z) (batch_same a b p.1)
request_same (Purge h m) (Purge k l) e = let p = and_parts (same_head h k) (m == l) e in ap (λ z. Purge z m) (head_same h k p.0) ∙ ap (λ z. Purge k z) (eqb-true m l p.1)
request_same State State e = refl
request_same (Read a) (Read b) e = ap (λ z. Read z) (eqb-true a b e)
request_same Manifest Manifest e = refl
request_same a b e = absurd (true≢false (sym e))

-- ## What is equal passes
nats_self : (xs : List ℕ) → same_nats xs xs ≡ true
nats_self [] = refl
nats_self (x ∷ xs) = and_from (x == x) (same_nats xs xs) (eq-eqb x x refl) (nats_self xs)

bodies_self : (xs : List (List ℕ)) → same_bodies xs xs ≡ true
bodies_self [] = refl
bodies_self (x ∷ xs) = and_from (same_nats x x) (same_bodies xs xs) (nats_self x) (bodies_self xs)

batch_self : (a : BatchView) → same_batch a a ≡ true
batch_self a = and_from (a.first == a.first) (same_bodies a.bodies a.bodies) (eq-eqb a.first a.first refl) (bodies_self a.bodies)

head_self : (a : HeadView) → same_head a a ≡ true
head_self a = and_from (a.epoch == a.epoch) _ (eq-eqb a.epoch a.epoch refl)
    (and_from (a.serial == a.serial) (a.committed == a.committed) (eq-eqb a.serial a.serial refl) (eq-eqb a.committed a.committed refl))

pub request_self : (r : Request) → same_request r r ≡ true
request_self State = refl
request_self (NewEpoch a) = eq-eqb a a refl
request_self (Start h m) = and_from (same_head h h) (m == m) (head_self h) (eq-eqb m m refl)
request_self (Journal h m a) = and_from (same_head h h) _ (head_self h) (and_from (m == m) (same_batch a a) (eq-eqb m m refl) (batch_self a))
request_self (Finalize h m a) = and_from (same_head h h) _ (head_self h) (and_from (m == m) (a == a) (eq-eqb m m refl) (eq-eqb a a refl))
request_self (Prepare h m) = and_from (same_head h h) (m == m) (head_self h) (eq-eqb m m refl)
request_self (Fetch h m a) = and_from (same_head h h) _ (head_self h) (and_from (m == m) (a == a) (eq-eqb m m refl) (eq-eqb a a refl))
request_self (Accept h a) = and_from (same_head h h) (same_batch a a) (head_self h) (batch_self a)
request_self (Purge h m) = and_from (same_head h h) (m == m) (head_self h) (eq-eqb m m refl)
request_self (Read a) = eq-eqb a a refl
request_self Manifest = refl
