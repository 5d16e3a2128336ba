-- Lists that grow at the end keep their front.
use Rattle.std.proofs.Common.{ℕ, ◌≡◌, List, [], ◌++◌, length, take, sym, ◌∙◌, ap, append_assoc, append-nil, refl}
use Rattle.std.proofs.lemmas.List.{take_at}
use Rattle.base_words.specs.Appends.{Keeps}

pub Keeps-same : (old new : List ℕ) → new ≡ old → Keeps old new
Keeps-same old new e = record { rest = []; same = e ∙ sym (append-nil old) }

pub Keeps-more : (old new more : List ℕ) → new ≡ old ++ more → Keeps old new
Keeps-more old new more e = record { rest = more; same = e }

pub Keeps-on : (a b c : List ℕ) → Keeps a b → Keeps b c → Keeps a c
Keeps-on a b c p q = record { rest = p.rest ++ q.rest; same = q.same ∙ ap (λ xs. xs ++ q.rest) p.same ∙ append_assoc a p.rest q.rest }

-- what was added is cut off
pub Keeps-cut : (a b : List ℕ) → Keeps a b → take (length a) b ≡ a
Keeps-cut a b p = rw p.same (take_at a p.rest (length a) refl)

pub Keeps-cut-more : (a b c more : List ℕ) → b ≡ a ++ more → Keeps b c → take (length a) c ≡ a
Keeps-cut-more a b c more e p = Keeps-cut a c (Keeps-on a b c (Keeps-more a b more e) p)

pub ruleset cuts = (Keeps-cut-more)

pub ruleset keeps = (Keeps-same, Keeps-more, Keeps-on, Keeps-cut)
