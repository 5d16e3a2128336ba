-- Replies to a call, among what is read of a pipe.
use Rattle.std.proofs.Common.{ℕ, ◌≡◌, List, [], ◌∷◌, ◌++◌, Option, Some, None, sym, ap, ◌∙◌, subst, append-nil}
use Rattle.std.specs.Prelude.{Result, Ok, Err, IfOk, IfSome}
use Rattle.std.specs.List.{AllByRecursion}
use Rattle.std.specs.Io.KnownBytes.{Consumes}
use Rattle.std.proofs.KnownBytes.{Consumes-nil, Consumes-trans}
use Rattle.std.proofs.lemmas.Grind.{flat_map-append}
use Rattle.journal_core.specs.declared.request.Request.{Request}
use Rattle.journal_core.specs.declared.reply.Reply.{Reply}
use Rattle.journal_session.specs.Lines.{lines_text}
use Rattle.journal_text.specs.ReplyReading.{reply_of}
use Rattle.journal_text.proofs.Texts.{only_texts}
use Rattle.pipe_seats.specs.Tagged.{tagged}
use Rattle.pipe_seats.specs.Calls.{IsStale, PassesStale, TakesAfterStale, IsReplyLine, IsReplyRead}

-- ## Lines that are passed over
pub all_snoc : {A : Type 0} (P : A → Type 0) (xs : List A) (x : A) → AllByRecursion P xs → P x → AllByRecursion P (xs ++ x ∷ [])
all_snoc P [] x h p = (p, tt)
all_snoc P (y ∷ xs) x h p = (h.0, all_snoc P xs x h.1 p)

pub text_snoc : (xs : List (List ℕ)) (x : List ℕ) → lines_text xs ++ (x ++ 10 ∷ []) ≡ lines_text (xs ++ x ∷ [])
text_snoc xs x = ap (λ l. lines_text xs ++ l) (sym (append-nil (x ++ 10 ∷ []))) ∙ sym (flat_map-append (λ line. line ++ 10 ∷ []) xs (x ∷ []))

pub passes_none : (life call : ℕ) (a : Option (List ℕ)) → PassesStale life call a a
passes_none life call a = record { lines = []; stale = tt; given = Consumes-nil a }

pub passes_one : (life call l k : ℕ) (text line : List ℕ) (a b d : Option (List ℕ)) → PassesStale life call a b → Consumes b d (line ++ 10 ∷ []) → line ≡ tagged l k text
    → ((l ≡ life) × (k ≡ call) → ⊥) → PassesStale life call a d
passes_one life call l k text line a b d h given is other = record {
  lines = h.lines ++ line ∷ [];
  stale = all_snoc (IsStale life call) h.lines line h.stale (record { of_life = l; of_call = k; text = text; is = is; other = other });
  given = subst (λ x. Consumes a d x) (text_snoc h.lines line) (Consumes-trans a b d _ _ h.given given);
}

pub taken_own : (life call : ℕ) (line : List ℕ) (a b d : Option (List ℕ)) → PassesStale life call a b → Consumes b d (line ++ 10 ∷ []) → TakesAfterStale life call line a d
taken_own life call line a b d h given = record { between = b; passed = h; given = given }

pub ruleset passes = (passes_none, passes_one, taken_own)

-- ## The reply
pub own_read : {E : Type 0} (res : Result (Option Reply) E) (life call l k : ℕ) (text line : List ℕ) (r : Request) → line ≡ tagged l k text → (l ≡ life) × (k ≡ call)
    → IfOk res (λ o. o ≡ reply_of r text) → IfOk res (λ o. IfSome o (λ reply. IsReplyLine life call r reply line))
own_read (Ok (Some reply)) life call l k text line r is own read =
    let told = only_texts r text reply (sym read) in
    record {
      is = is ∙ ap (λ n. tagged n k text) own.0 ∙ ap (λ n. tagged life n text) own.1 ∙ ap (tagged life call) (sym told.text);
      fits = told.fits;
    }
own_read (Ok None) life call l k text line r is own read = tt
own_read (Err e) life call l k text line r is own read = tt

pub ruleset own_replies = (own_read)

-- what was read is the reply, where the line that was taken is one
pub reply_read : {E : Type 0} (res : Result (Option Reply) E) (life call : ℕ) (line taken : List ℕ) (r : Request) (a b : Option (List ℕ)) → line ≡ taken → TakesAfterStale life call taken a b
    → IfOk res (λ o. IfSome o (λ reply. IsReplyLine life call r reply line)) → IfOk res (λ o. IfSome o (λ reply. IsReplyRead life call r reply a b))
reply_read (Ok (Some reply)) life call line taken r a b same h k = record {
  between = h.between;
  passed = h.passed;
  given = subst (λ x. Consumes h.between b (x ++ 10 ∷ [])) (sym same ∙ k.is) h.given;
  fits = k.fits;
}
reply_read (Ok None) life call line taken r a b same h k = tt
reply_read (Err e) life call line taken r a b same h k = tt

pub ruleset replies = (reply_read)
