-- What was asked of a node, one line after the other, and what was written of it.
use Rattle.std.proofs.Common.{ℕ, ◌≡◌, ◌⊎◌, List, [], ◌∷◌, ◌++◌, Option, Some, None, refl, sym, ap, ◌∙◌, inl, inr, subst, append_assoc, append-nil}
use Rattle.std.specs.Prelude.{take}
use Rattle.std.specs.Io.KnownBytes.{Appends}
use Rattle.std.proofs.KnownBytes.{Appends-nil, Appends-trans}
use Rattle.journal_core.specs.declared.request.Request.{Request}
use Rattle.journal_core.specs.declared.reply.Reply.{Reply}
use Rattle.journal_text.specs.Reading.{reading_of}
use Rattle.journal_text.specs.declared.request_line.ReadRequest.TheVariants.{Read}
use Rattle.journal_session.specs.Session.{AreWritten}
use Rattle.journal_session.specs.Answering.{IsToldBy}
use Rattle.journal_session.specs.Asking.{IsAsked, IsAskedWell, AreAsked, IsAskedLast, IsTrail, IsAskedFor, IsAskedBy}
use Rattle.journal_session.specs.declared.answered.Answered.{Answered}
use Rattle.journal_session.specs.declared.answered.Answered.TheVariants as answered
use Rattle.journal_session.specs.declared.served.Served.{Served}
use Rattle.journal_session.specs.declared.served.Served.TheVariants as served
use Rattle.journal_session.proofs.EndLaws.{IsThis}

-- whatever ended the session, the text was written, and no part behind it
none_behind : (o : Served) (before now : Option (List ℕ)) (text : List ℕ) → Appends before now text → AreWritten o before now text []
none_behind served.Done before now text wrote = wrote
none_behind (served.BadLine number rule) before now text wrote = wrote
none_behind served.LongLine before now text wrote = wrote
none_behind served.LongInput before now text wrote = wrote
none_behind served.ReadFault before now text wrote = wrote
none_behind served.WriteFault before now text wrote = subst (Appends before now) (sym (append-nil text)) wrote
none_behind served.DiskFault before now text wrote = wrote
none_behind served.OutOfMemory before now text wrote = wrote

none_more : (before written after : Option (List ℕ)) (text : List ℕ) → Appends before written text → Appends written after [] → Appends before after text
none_more before written after text wrote none = subst (Appends before after) (append-nil text) (Appends-trans before written after text [] wrote none)

-- these lines were asked, and the replies that the node gave were written
pub record AreAskedSo {N : Type 0} (Asked : N → Request → Reply → N → Type 0) (lines : List (List ℕ)) (old now : N) (before written : Option (List ℕ)) : Type 0 where
  pub text : List ℕ
  pub are : AreAsked Asked lines text old now
  pub wrote : Appends before written text

module _ {N : Type 0} (Asked : N → Request → Reply → N → Type 0) where
  -- what came of a request that was asked
  pub asked_for : (outcome : Answered) (line : List ℕ) (r : Request) (a : Reply) (old new : N) (text : List ℕ) → reading_of line ≡ Read r → IsToldBy outcome a text
      → Asked old r a new → IsAskedFor Asked outcome line text old new
  asked_for answered.Reply line r a old new text reads told is = record { request = r; reads = reads; so = (a, is, (told.1, told.2, told.0)) }
  asked_for (answered.Bad rule) line r a old new text reads told is = inr record { request = r; reads = reads; so = (a, is) }
  asked_for answered.DiskFault line r a old new text reads told is = inr record { request = r; reads = reads; so = (a, is) }
  asked_for answered.OutOfMemory line r a old new text reads told is = inr record { request = r; reads = reads; so = (a, is) }

  -- nothing was asked yet
  pub none_asked : (node : N) (before : Option (List ℕ)) → AreAskedSo Asked [] node node before before
  none_asked node before = record { text = []; are = (refl, refl); wrote = Appends-nil before }

  -- one line more
  lines_more : (lines : List (List ℕ)) (line text reply : List ℕ) (old mid new : N) → AreAsked Asked lines text old mid → IsAskedWell Asked line reply mid new
      → AreAsked Asked (lines ++ line ∷ []) (text ++ reply) old new
  lines_more [] line text reply old mid new are is = record {
    node = new;
    reply = reply;
    behind = [];
    asked = subst (λ (n : N). IsAskedWell Asked line reply n new) are.1 is;
    spelled = ap (λ xs. xs ++ reply) are.0 ∙ sym (append-nil reply);
    rest = (refl, refl);
  }
  lines_more (l ∷ ls) line text reply old mid new are is = record {
    node = are.node;
    reply = are.reply;
    behind = are.behind ++ reply;
    asked = are.asked;
    spelled = ap (λ xs. xs ++ reply) are.spelled ∙ append_assoc are.reply are.behind reply;
    rest = lines_more ls line are.behind reply are.node mid new are.rest is;
  }

  pub asked_more : (lines : List (List ℕ)) (line reply : List ℕ) (old mid new : N) (before written after : Option (List ℕ)) → AreAskedSo Asked lines old mid before written
      → IsAskedBy Asked None line reply mid new written after → AreAskedSo Asked (lines ++ line ∷ []) old new before after
  asked_more lines line reply old mid new before written after so is = record {
    text = so.text ++ reply;
    are = lines_more lines line so.text reply old mid new so.are is.0;
    wrote = Appends-trans before written after so.text reply so.wrote is.1;
  }

  -- nothing was asked after them
  pub trail_ends : (o : Served) (lines : List (List ℕ)) (old new : N) (before now : Option (List ℕ)) → AreAskedSo Asked lines old new before now
      → IsTrail Asked lines None o old new before now
  trail_ends o lines old new before now so =
      record { node = new; text = so.text; answered = so.are; part = []; last = (refl, refl); written = none_behind o before now so.text so.wrote }

  -- the line was asked after them, or not, and nothing more was written
  stops : (S : Option (List ℕ) → Type 0) (o : Served) (lines : List (List ℕ)) (line : List ℕ) (old mid new : N) (before written after : Option (List ℕ))
      → AreAskedSo Asked lines old mid before written → ((new ≡ mid) ⊎ IsAsked Asked line mid new) × Appends written after []
      → ((last : Option (List ℕ)) → IsThis last line → S last) → (last : Option (List ℕ)) × IsTrail Asked lines last o old new before after × S last
  stops S o lines line old mid new before written after so (inl same, none) session =
      let all = none_behind o before after so.text (none_more before written after so.text so.wrote none) in
      (None, record { node = mid; text = so.text; answered = so.are; part = []; last = (refl, same); written = all }, session None tt)
  stops S o lines line old mid new before written after so (inr is, none) session =
      let all = none_behind o before after so.text (none_more before written after so.text so.wrote none) in
      let last : IsAskedLast Asked (Some line) [] mid new = record { request = is.request; reads = is.reads; so = (is.so.0, is.so.1, inl refl) } in
      (Some line, record { node = mid; text = so.text; answered = so.are; part = []; last = last; written = all }, session (Some line) refl)

  -- and the line ended the session
  pub trail_stops : (S : Option (List ℕ) → Type 0) (o : Served) (lines : List (List ℕ)) (line reply : List ℕ) (old mid new : N) (before written after : Option (List ℕ))
      → AreAskedSo Asked lines old mid before written → IsAskedBy Asked (Some o) line reply mid new written after
      → ((last : Option (List ℕ)) → IsThis last line → S last) → (last : Option (List ℕ)) × IsTrail Asked lines last o old new before after × S last
  trail_stops S served.Done lines line reply old mid new before written after so is session = stops S served.Done lines line old mid new before written after so is session
  trail_stops S (served.BadLine number rule) lines line reply old mid new before written after so is session =
      stops S (served.BadLine number rule) lines line old mid new before written after so is session
  trail_stops S served.LongLine lines line reply old mid new before written after so is session = stops S served.LongLine lines line old mid new before written after so is session
  trail_stops S served.LongInput lines line reply old mid new before written after so is session = stops S served.LongInput lines line old mid new before written after so is session
  trail_stops S served.ReadFault lines line reply old mid new before written after so is session = stops S served.ReadFault lines line old mid new before written after so is session
  trail_stops S served.WriteFault lines line reply old mid new before written after so is session =
      let asked = is.0 in
      let n = is.1.0 in
      let well = asked.so in (
        Some line,
        record {
          node = mid;
          text = so.text;
          answered = so.are;
          part = take n reply;
          last = record { request = asked.request; reads = asked.reads; so = (well.0, well.1, inr (reply, well.2, (n, refl))) };
          written = Appends-trans before written after so.text (take n reply) so.wrote is.1.1;
        },
        session (Some line) refl,
      )
  trail_stops S served.DiskFault lines line reply old mid new before written after so is session = stops S served.DiskFault lines line old mid new before written after so is session
  trail_stops S served.OutOfMemory lines line reply old mid new before written after so is session = stops S served.OutOfMemory lines line old mid new before written after so is session
