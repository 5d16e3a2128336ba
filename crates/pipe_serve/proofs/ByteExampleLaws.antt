-- Two lives at a node, and their bytes.
use Rattle.std.proofs.Common.{ℕ, ◌≡◌, ◌<◌, ◌+◌, List, [], ◌∷◌, ◌++◌, length, take, refl, sym, ap, ◌∙◌, inl, inr, arith, length-append}
use Rattle.std.specs.Prelude.{codes}
use Rattle.std.proofs.lemmas.Fmt.{decimal_digit}
use Rattle.journal_core.specs.declared.request.Request.TheVariants as request
use Rattle.journal_core.specs.declared.reply.Reply.TheVariants as reply
use Rattle.journal_text.specs.Lines.{IsRequest}
use Rattle.journal_text.specs.Texts.{request_text, reply_text, numbers_text}
use Rattle.journal_text.proofs.LineLaws.{text_read}
use Rattle.journal_session.specs.Lines.{lines_text}
use Rattle.pipe_seats.specs.Tagged.{tagged}
use Rattle.pipe_serve.specs.Bytes.{HasText, IsCallerLife, IsSessionBytes, AreAtPipes, KeepsBytes}
use Rattle.pipe_serve.specs.ByteExamples.{first_life, second_life, first_session, second_session, two_lives, two_sessions}

-- ## Lines
line_of : (l n : ℕ) (text : List ℕ) → l < 10 → n < 10 → tagged l n text ≡ (35 ∷ (48 + l) ∷ 32 ∷ (48 + n) ∷ 32 ∷ text) ++ 32 ∷ 46 ∷ []
line_of l n text h k = rw (decimal_digit l h, decimal_digit n k) refl

zero_state : reply_text (reply.State 0) ≡ codes "state 0"
unfolding reply_text numbers_text
zero_state = let zero = decimal_digit 0 (omega arith) in rw zero refl

reply_7 : tagged 7 1 (reply_text (reply.State 0)) ≡ codes "#7 1 state 0 ."
reply_7 = ap (tagged 7 1) zero_state ∙ line_of 7 1 (codes "state 0") (omega arith) (omega arith)

reply_8 : tagged 8 2 (reply_text (reply.State 0)) ≡ codes "#8 2 state 0 ."
reply_8 = ap (tagged 8 2) zero_state ∙ line_of 8 2 (codes "state 0") (omega arith) (omega arith)

state_7 : tagged 7 1 (codes "state") ≡ codes "#7 1 state ."
state_7 = line_of 7 1 (codes "state") (omega arith) (omega arith)

state_8 : tagged 8 2 (codes "state") ≡ codes "#8 2 state ."
state_8 = line_of 8 2 (codes "state") (omega arith) (omega arith)

-- ## Texts
state_request : IsRequest request.State
state_request = record { numbers = tt; bodies = tt; some = λ e. absurd (cc e) }

manifest_request : IsRequest request.Manifest
manifest_request = record { numbers = tt; bodies = tt; some = λ e. absurd (cc e) }

zero_text : HasText request.State (reply.State 0)
zero_text = (omega arith, (tt, λ e. absurd (cc e)))

-- ## Both ends
first_is : IsCallerLife first_life
unfolding request_text
first_is = record {
  wide = omega arith;
  wrote = (
    codes "#7 1 state ." ++ 10 ∷ [],
    codes "#7 2 mani",
    (13, sym (ap (λ (l : List ℕ). take 13 (l ++ 10 ∷ [])) state_7)),
    refl,
    (codes "#7 2 mani", [], (9, sym (ap (λ (l : List ℕ). take 9 (l ++ 10 ∷ [])) (line_of 7 2 (codes "manifest") (omega arith) (omega arith)))), refl, refl),
  );
  asked = (
    record { wide = omega arith; request = state_request; heard = (zero_text, inl ([], [], sym (ap (λ (l : List ℕ). l ++ 10 ∷ []) reply_7))) },
    (record { wide = omega arith; request = manifest_request; heard = tt }, tt),
  );
}

second_is : IsCallerLife second_life
unfolding request_text
second_is = record {
  wide = omega arith;
  wrote = (
    codes "#8 1 state ." ++ 10 ∷ [],
    codes "#8 2 state ." ++ 10 ∷ [],
    (13, sym (ap (λ (l : List ℕ). take 13 (l ++ 10 ∷ [])) (line_of 8 1 (codes "state") (omega arith) (omega arith)))),
    refl,
    (codes "#8 2 state ." ++ 10 ∷ [], [], (13, sym (ap (λ (l : List ℕ). take 13 (l ++ 10 ∷ [])) state_8)), refl, refl),
  );
  asked = (
    record { wide = omega arith; request = state_request; heard = tt },
    (record { wide = omega arith; request = state_request; heard = (zero_text, inr (inl ([], [], sym (ap (λ (l : List ℕ). l ++ 10 ∷ []) reply_8)))) }, tt),
  );
}

first_took : IsSessionBytes first_session
unfolding request_text
first_took = record {
  taken = (record { wide_life = omega arith; wide_number = omega arith; reads = text_read request.State state_request; answered = zero_text }, tt);
  wrote = (
    codes "#7 1 state 0 ." ++ 10 ∷ [],
    codes "bad" ++ 10 ∷ [],
    (15, sym (ap (λ (l : List ℕ). take 15 (l ++ 10 ∷ [])) reply_7)),
    refl,
    (codes "bad" ++ 10 ∷ [], [], (4, refl), refl, refl),
  );
}

second_took : IsSessionBytes second_session
unfolding request_text
second_took = record {
  taken = (record { wide_life = omega arith; wide_number = omega arith; reads = text_read request.State state_request; answered = zero_text }, tt);
  wrote = (codes "#8 2 state 0 ." ++ 10 ∷ [], [], (15, sym (ap (λ (l : List ℕ). take 15 (l ++ 10 ∷ [])) reply_8)), refl, ([], [], (0, refl), refl, refl));
}

pub at_pipes : AreAtPipes two_lives two_sessions
at_pipes = record {
  callers = (first_is, (second_is, tt));
  nodes = (first_took, (second_took, tt));
  requests = (
    [],
    codes "#8 2 state ." ++ 10 ∷ [],
    sym (ap (λ (l : List ℕ). (lines_text (l ∷ []) ++ first_session.rest) ++ (codes "#8 2 state ." ++ 10 ∷ [])) state_7),
    ([], [], sym (ap (λ (l : List ℕ). (lines_text (l ∷ []) ++ second_session.rest) ++ []) state_8), tt),
  );
  replies = (
    [],
    codes "bad" ++ 10 ∷ codes "#8 2 state 0 ." ++ 10 ∷ [],
    refl,
    ([], codes "#8 2 state 0 ." ++ 10 ∷ [], refl, ([], [], refl, tt)),
  );
}

pub lost_between : KeepsBytes (codes "ab" ∷ codes "cd" ∷ []) (codes "a" ∷ codes "cd" ∷ [])
lost_between = ([], codes "bcd", refl, (codes "b", [], refl, tt))

none_there : (lost rest : List ℕ) → [] ≡ lost ++ 97 ∷ rest → ⊥
none_there lost rest e = omega (arith, ap length e, length-append lost (97 ∷ rest))

-- no other a stands behind the first
no_other : (lost rest : List ℕ) → codes "b" ≡ lost ++ 97 ∷ rest → ⊥
no_other [] rest e = let f : ◌≡◌ {A = ℕ} 98 97 = cc e in omega (arith, f)
no_other (x ∷ lost) rest e = let f : [] ≡ lost ++ 97 ∷ rest = cc e in none_there lost rest f

pub none_twice : KeepsBytes (codes "ab" ∷ []) (codes "a" ∷ codes "a" ∷ []) → ⊥
none_twice ([], rest, e, (lost, more, f, end)) = let same : codes "b" ≡ rest = cc e in no_other lost more (same ∙ f)
none_twice (x ∷ lost, rest, e, more) = let f : codes "b" ≡ lost ++ 97 ∷ rest = cc e in no_other lost rest f
