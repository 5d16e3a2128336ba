-- The lines that a session took, and the fronts of replies' lines that it wrote.
use Rattle.std.proofs.Common.{ℕ, suc, ◌≡◌, ◌≢◌, List, [], ◌∷◌, ◌++◌, map, inl, inr, refl, sym, ap, ◌∙◌, subst, append_assoc, append-nil}
use Rattle.std.specs.Prelude.{codes}
use Rattle.std.specs.Io.KnownBytes.{Appends, Consumes}
use Rattle.std.specs.List.{flat_map}
use Rattle.std.proofs.lemmas.Grind.{flat_map-append}
use Rattle.std.proofs.lemmas.List.{map-append}
use Rattle.journal_core.specs.declared.request.Request.{Request}
use Rattle.journal_core.specs.declared.reply.Reply.{Reply}
use Rattle.journal_core.specs.declared.reply.Reply.TheVariants.{Refused}
use Rattle.journal_core.specs.declared.refusal.Refusal.TheVariants.{DiskFault}
use Rattle.journal_history.specs.declared.node_ask.NodeAnswer.TheVariants.{Replied}
use Rattle.journal_text.specs.Texts.{reply_text}
use Rattle.journal_session.specs.Lines.{lines_text}
use Rattle.pipe_seats.specs.Tagged.{tagged}
use Rattle.pipe_serve.specs.declared.session_end.SessionEnd.{SessionEnd}
use Rattle.pipe_serve.specs.declared.session_end.SessionEnd.TheVariants as session_end
use Rattle.pipe_serve.specs.Sessions.{Answered, asking_line, answering_line, reply_line, SourceUse, SinkUse, IsAsked, AreAsked, IsFront, EndsWith, EndsBy, IsSession}
use Rattle.pipe_serve.specs.Bytes.{AreFronts, Taken, taken_line, reply_lines, IsTakenFrom, AreTakenFrom, TookLines}

whole_front : (bytes : List ℕ) → IsFront bytes bytes
whole_front [] = (0, refl)
whole_front (b ∷ bytes) = let n = whole_front bytes in (suc n.0, ap (λ (l : List ℕ). b ∷ l) n.1)

front_of_none : (part bytes : List ℕ) → part ≡ [] → IsFront part bytes
front_of_none part bytes e = (0, e)

one_front : (line part : List ℕ) → IsFront part (line ++ 10 ∷ []) → AreFronts (line ∷ []) part
one_front line part h = (part, [], h, sym (append-nil part), refl)

two_fronts : (line other part : List ℕ) → IsFront part (line ++ 10 ∷ []) → AreFronts (line ∷ other ∷ []) part
two_fronts line other part h = (part, [], h, sym (append-nil part), one_front other [] (0, refl))

-- a call with its request
abbrev call_of : ℕ → ℕ → List ℕ → Request → Reply → Taken
call_of life call text r reply = record { life = life; text = text; got = record { number = call; got = record { request = r; answer = Replied reply } } }

module _ {N : Type 0} (Asked : N → Request → Reply → N → Type 0) where
  from : (life call : ℕ) (text : List ℕ) (reply : Reply) (old new : N) (h : IsAsked Asked text reply old new) → IsTakenFrom Asked (call_of life call text h.request reply) old new
  from life call text reply old new h = record { reply = reply; reads = h.reads; answer = refl; asked = h.asked }

  -- the lines of the calls were read, and of their replies' lines these bytes are, before more fronts
  record Took (old new : N) (read wrote : List ℕ) : Type 0 where
    taken : List Taken
    are : AreTakenFrom Asked taken old new
    lines : lines_text (map taken_line taken) ≡ read
    fronts : (more : List (List ℕ)) (bytes : List ℕ) → AreFronts more bytes → AreFronts (flat_map reply_lines taken ++ more) (wrote ++ bytes)

  all_took : (calls : List Answered) (old new : N) → AreAsked Asked calls old new → Took old new (flat_map asking_line calls) (flat_map answering_line calls)
  all_took [] old new h = record { taken = []; are = h; lines = refl; fronts = λ more bytes k. k }
  all_took (a ∷ calls) old new h =
      let rest = all_took calls h.0 new h.2 in
      let line = tagged a.life a.call a.text ++ 10 ∷ [] in
      record {
        taken = call_of a.life a.call a.text h.1.asked.request a.reply ∷ rest.taken;
        are = (h.0, from a.life a.call a.text a.reply old h.0 h.1.asked, rest.are);
        lines = ap (λ (l : List ℕ). line ++ l) rest.lines;
        fronts = λ more bytes k.
            (answering_line a, flat_map answering_line calls ++ bytes, whole_front (answering_line a), append_assoc (answering_line a) (flat_map answering_line calls) bytes, rest.fronts more bytes k);
      }

  are_on : (taken : List Taken) (t : Taken) (old mid new : N) → AreTakenFrom Asked taken old mid → IsTakenFrom Asked t mid new → AreTakenFrom Asked (taken ++ t ∷ []) old new
  are_on [] t old mid new h k = (new, subst (λ (n : N). IsTakenFrom Asked t n new) h k, refl)
  are_on (u ∷ taken) t old mid new h k = (h.0, h.1, are_on taken t h.0 mid new h.2 k)

  lines_on : (taken : List Taken) (t : Taken) → lines_text (map taken_line (taken ++ t ∷ [])) ≡ lines_text (map taken_line taken) ++ (taken_line t ++ 10 ∷ [])
  lines_on taken t =
      ap lines_text (map-append taken_line taken (t ∷ [])) ∙ flat_map-append (λ (line : List ℕ). line ++ 10 ∷ []) (map taken_line taken) (taken_line t ∷ [])
      ∙ ap (λ (l : List ℕ). lines_text (map taken_line taken) ++ l) (append-nil (taken_line t ++ 10 ∷ []))

  module _ (calls : List Answered) (old mid new : N) (source : SourceUse) (sink : SinkUse) (are : AreAsked Asked calls old mid) (part : List ℕ)
      (written : Appends sink.had sink.has (flat_map answering_line calls ++ part)) where
    so_far : Took old mid (flat_map asking_line calls) (flat_map answering_line calls)
    so_far = all_took calls old mid are

    -- nothing else was asked
    no_more : (rest : List ℕ) → new ≡ mid → Consumes source.given source.left (flat_map asking_line calls ++ rest) → IsFront part (codes "bad" ++ 10 ∷ []) → TookLines Asked old new source sink
    no_more rest same read said = record {
      bytes = record { taken = so_far.taken; rest = rest; wrote = flat_map answering_line calls ++ part };
      taken = subst (AreTakenFrom Asked so_far.taken old) (sym same) so_far.are;
      read = subst (λ (l : List ℕ). Consumes source.given source.left (l ++ rest)) (sym so_far.lines) read;
      written = written;
      wrote = so_far.fronts (codes "bad" ∷ []) part (one_front (codes "bad") part said);
    }

    -- one more was asked, and its reply wasn't written whole
    one_more : (life call : ℕ) (text : List ℕ) (reply : Reply) (line behind rest : List ℕ) → IsAsked Asked text reply mid new → line ≡ tagged life call text → rest ≡ line ++ 10 ∷ behind
        → Consumes source.given source.left (flat_map asking_line calls ++ rest) → IsFront part (reply_line life call reply) → TookLines Asked old new source sink
    one_more life call text reply line behind rest asked is split read said =
        let t = call_of life call text asked.request reply in
        let own = tagged life call text in
        let bytes : flat_map asking_line calls ++ rest ≡ lines_text (map taken_line (so_far.taken ++ t ∷ [])) ++ behind =
        ap (λ (l : List ℕ). flat_map asking_line calls ++ l) (split ∙ ap (λ (l : List ℕ). l ++ 10 ∷ behind) is ∙ sym (append_assoc own (10 ∷ []) behind))
        ∙ sym (append_assoc (flat_map asking_line calls) (own ++ 10 ∷ []) behind) ∙ ap (λ (l : List ℕ). (l ++ (own ++ 10 ∷ [])) ++ behind) (sym so_far.lines)
        ∙ ap (λ (l : List ℕ). l ++ behind) (sym (lines_on so_far.taken t)) in
        let lines : flat_map reply_lines (so_far.taken ++ t ∷ []) ++ codes "bad" ∷ [] ≡ flat_map reply_lines so_far.taken ++ (reply_lines t ++ codes "bad" ∷ []) =
        ap (λ (l : List (List ℕ)). l ++ codes "bad" ∷ []) (flat_map-append reply_lines so_far.taken (t ∷ [])) ∙ append_assoc (flat_map reply_lines so_far.taken) (reply_lines t) (codes "bad" ∷ []) in
        record {
          bytes = record { taken = so_far.taken ++ t ∷ []; rest = behind; wrote = flat_map answering_line calls ++ part };
          taken = are_on so_far.taken t old mid new so_far.are (from life call text reply mid new asked);
          read = subst (Consumes source.given source.left) bytes read;
          written = written;
          wrote = subst (λ (l : List (List ℕ)). AreFronts l (flat_map answering_line calls ++ part)) (sym lines)
              (so_far.fronts (reply_lines t ++ codes "bad" ∷ []) part (two_fronts (tagged life call (reply_text reply)) (codes "bad") part said));
        }

  at_line : (old new : N) (source : SourceUse) (sink : SinkUse) (h : IsSession Asked session_end.Over old new source sink) (line behind : List ℕ) → h.rest ≡ line ++ 10 ∷ behind
      → EndsWith Asked session_end.Over line h.node new h.part sink → TookLines Asked old new source sink
  at_line old new source sink h line behind is (inl e) = no_more h.calls old h.node new source sink h.are h.part h.written h.rest e.same h.read e.said
  at_line old new source sink h line behind is (inr e) =
      one_more h.calls old h.node new source sink h.are h.part h.written e.answered.life e.answered.call e.answered.text e.answered.reply line behind h.rest e.asked.asked e.is is h.read e.said

  ended_over : (old new : N) (source : SourceUse) (sink : SinkUse) (h : IsSession Asked session_end.Over old new source sink)
      → EndsBy Asked session_end.Over h.calls h.rest h.node new h.part source sink → TookLines Asked old new source sink
  ended_over old new source sink h (inl e) =
      no_more h.calls old h.node new source sink h.are h.part h.written h.rest e.same h.read (front_of_none h.part (codes "bad" ++ 10 ∷ []) e.said)
  ended_over old new source sink h (inr (inl e)) = no_more h.calls old h.node new source sink h.are h.part h.written h.rest e.same h.read e.said
  ended_over old new source sink h (inr (inr (inl e))) = at_line old new source sink h e.line e.behind e.is e.ends
  ended_over old new source sink h (inr (inr (inr e))) =
      no_more h.calls old h.node new source sink h.are h.part h.written h.rest e.same h.read (front_of_none h.part (codes "bad" ++ 10 ∷ []) e.said)

  pub took_lines : (end : SessionEnd) (old new : N) (source : SourceUse) (sink : SinkUse) → end ≢ session_end.OutOfMemory → IsSession Asked end old new source sink
      → TookLines Asked old new source sink
  took_lines session_end.Over old new source sink off h = ended_over old new source sink h h.ends
  took_lines session_end.DiskFault old new source sink off h =
      let e = h.ends in
      one_more h.calls old h.node new source sink h.are h.part h.written e.ends.life e.ends.call e.ends.text (Refused DiskFault) e.line e.behind h.rest e.ends.asked e.ends.is e.is h.read
      (front_of_none h.part (reply_line e.ends.life e.ends.call (Refused DiskFault)) e.ends.said)
  took_lines session_end.OutOfMemory old new source sink off h = absurd (off refl)
