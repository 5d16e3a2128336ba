-- A session of tagged lines, call by call.
use Rattle.std.proofs.Common.{ℕ, zero, suc, ◌≡◌, ◌+◌, ◌-◌, ◌^◌, List, [], ◌∷◌, ◌++◌, length, Option, Some, None, inl, inr, refl, sym, ap, ◌∙◌, ◌⊎◌, subst, arith, append-nil, append_assoc, length-append}
use Rattle.std.specs.List.{flat_map}
use Rattle.std.specs.Prelude.{take, IfSome}
use Rattle.std.specs.Io.KnownBytes.{Appends, Consumes, prepend_known}
use Rattle.std.proofs.KnownBytes.{Appends-nil, Appends-trans, Consumes-trans}
use Rattle.std.proofs.lemmas.Grind.{flat_map-append}
use Rattle.base_outside.specs.Faults.{Rose}
use Rattle.journal_core.specs.declared.request.Request.{Request}
use Rattle.journal_core.specs.declared.reply.Reply.{Reply}
use Rattle.journal_session.specs.Reader.{LineReaderView, to_come, IsNextLine}
use Rattle.journal_session.specs.declared.next.Next.{Next}
use Rattle.journal_session.specs.declared.next.Next.TheVariants as next
use Rattle.pipe_serve.specs.declared.session_end.SessionEnd.{SessionEnd}
use Rattle.pipe_serve.specs.declared.session_end.SessionEnd.TheVariants as session_end
use Rattle.pipe_serve.specs.Sessions.{Answered, SourceUse, SinkUse, end_of, told_at, Tells, IsFront, refusal, asking_line, answering_line, IsAskedWell, AreAsked, EndsWith, IsServed, EndsBy, IsReadBy, IsSession}

-- ## Bytes that a reader holds
nothing_held : (r : LineReaderView) (given : Option (List ℕ)) → r.held ≡ [] → Consumes given (to_come r given) []
nothing_held r None e = tt
nothing_held r (Some xs) e = sym (ap (λ (l : List ℕ). l ++ xs) e)

-- what a reader holds was read, too
let_go : (r : LineReaderView) (a b : Option (List ℕ)) (xs : List ℕ) → Consumes a (to_come r b) xs → Consumes a b (xs ++ r.held)
let_go r None b xs h = tt
let_go r (Some x) None xs h = absurd h
let_go r (Some x) (Some y) xs h = h ∙ sym (append_assoc xs r.held y)

let_go_empty : (r : LineReaderView) (a b : Option (List ℕ)) (xs : List ℕ) → r.held ≡ [] → Consumes a (to_come r b) xs → Consumes a b xs
let_go_empty r a b xs e h = subst (λ (l : List ℕ). Consumes a b l) (ap (λ (l : List ℕ). xs ++ l) e ∙ append-nil xs) (let_go r a b xs h)

held_still : (r q : LineReaderView) (a b : Option (List ℕ)) (xs : List ℕ) → q.held ≡ r.held → Consumes a (to_come r b) xs → Consumes a (to_come q b) xs
held_still r q a b xs e h = subst (λ (l : List ℕ). Consumes a (prepend_known l b) xs) (sym e) h

not_failed : (of : Next) → of ≡ next.Line → of ≡ next.ReadFault → ⊥
not_failed next.Line e r = absurd (cc r)
not_failed next.Last e r = absurd (cc e)
not_failed next.End e r = absurd (cc e)
not_failed next.LongLine e r = absurd (cc e)
not_failed next.LongInput e r = absurd (cc e)
not_failed next.ReadFault e r = absurd (cc e)
not_failed next.OutOfMemory e r = absurd (cc e)

take_none : (n : ℕ) → take {A = ℕ} n [] ≡ []
take_none zero = refl
take_none (suc n) = refl

none_said : (part : List ℕ) → IsFront part [] → part ≡ []
none_said part h = h.1 ∙ take_none h.0

lines_snoc : (f : Answered → List ℕ) (calls : List Answered) (a : Answered) → flat_map f calls ++ f a ≡ flat_map f (calls ++ a ∷ [])
lines_snoc f calls a = ap (λ (l : List ℕ). flat_map f calls ++ l) (sym (append-nil (f a))) ∙ sym (flat_map-append f calls (a ∷ []))

module _ {N : Type 0} (Asked : N → Request → Reply → N → Type 0) where
  asked_snoc : (calls : List Answered) (a : Answered) (old mid new : N) → AreAsked Asked calls old mid → IsAskedWell Asked a mid new → AreAsked Asked (calls ++ a ∷ []) old new
  asked_snoc [] a old mid new h k = (new, subst (λ (n : N). IsAskedWell Asked a n new) h k, refl)
  asked_snoc (c ∷ calls) a old mid new h k = (h.0, h.1, asked_snoc calls a h.0 mid new h.2 k)

  -- So far each call that was read was answered, and so many were; nothing failed.
  pub record Going (count : ℕ) (reader : LineReaderView) (old now : N) (source : SourceUse) (sink : SinkUse) : Type 0 where
    pub calls : List Answered
    pub are : AreAsked Asked calls old now
    pub count_is : length calls ≡ count
    pub read : Consumes source.given (to_come reader source.left) (flat_map asking_line calls)
    pub written : Appends sink.had sink.has (flat_map answering_line calls)
    pub all_read : source.now ≡ source.before
    pub all_written : sink.now ≡ sink.before
    pub fresh : reader.taken ≡ 0

  pub begun : (r : LineReaderView) (old : N) (given had : Option (List ℕ)) (f k : ℕ) → r.held ≡ [] → r.taken ≡ 0
      → Going 0 r old old (record { given = given; left = given; before = f; now = f }) (record { had = had; has = had; before = k; now = k })
  begun r old given had f k held taken = record {
    calls = [];
    are = refl;
    count_is = refl;
    read = nothing_held r given held;
    written = Appends-nil had;
    all_read = refl;
    all_written = refl;
    fresh = taken;
  }

  module _ (count : ℕ) (q p : LineReaderView) (old mid : N) (given x y a b c : Option (List ℕ)) (f f1 f2 k k1 k2 : ℕ)
      (h : Going count q old mid (record { given = given; left = x; before = f; now = f1 }) (record { had = a; has = b; before = k; now = k1 })) where
    -- what the session reads and writes, up to here
    abbrev so_read : SourceUse
    so_read = record { given = given; left = y; before = f; now = f2 }

    abbrev so_written : SinkUse
    so_written = record { had = a; has = c; before = k; now = k2 }

    -- ## One line more
    is_line : (of : Next) → of ≡ next.Line → IsNextLine of p.line q p x y → IsNextLine next.Line p.line q p x y
    is_line of e line = subst (λ (o : Next). IsNextLine o p.line q p x y) e line

    pub one_more : (n : LineReaderView) (new : N) (of : Next) (said : List ℕ) → of ≡ next.Line → IsNextLine of p.line q p x y → ((of ≡ next.ReadFault → ⊥) → f2 ≡ f1)
        → n.held ≡ p.held → n.line ≡ p.line → n.taken ≡ 0 → said ≡ n.line
        → IsServed Asked None said mid new (record { had = b; has = c; before = k1; now = k2 }) → Going (count + 1) n old new so_read so_written
    one_more n new of said e k still held same taken is served =
        let lines = flat_map asking_line h.calls in
        let line : IsNextLine next.Line p.line q p x y = is_line of e k in
        let its : p.line ++ 10 ∷ [] ≡ asking_line served.answered = ap (λ (l : List ℕ). l ++ 10 ∷ []) (sym same ∙ sym is ∙ served.is) in
        let long = length-append h.calls (served.answered ∷ []) in
        let was = h.count_is in
        record {
          calls = h.calls ++ served.answered ∷ [];
          are = asked_snoc h.calls served.answered old mid new h.are served.asked;
          count_is = omega (arith, long, was);
          read = held_still p n given y (flat_map asking_line (h.calls ++ served.answered ∷ [])) held
              (subst (λ (l : List ℕ). Consumes given (to_come p y) l) (lines_snoc asking_line h.calls served.answered)
              (Consumes-trans given (to_come q x) (to_come p y) lines (asking_line served.answered) h.read
              (subst (λ (l : List ℕ). Consumes (to_come q x) (to_come p y) l) its line.given)));
          written = subst (λ (l : List ℕ). Appends a c l) (lines_snoc answering_line h.calls served.answered)
              (Appends-trans a b c (flat_map answering_line h.calls) (answering_line served.answered) h.written served.written);
          all_read = still (not_failed of e) ∙ h.all_read;
          all_written = served.whole ∙ h.all_written;
          fresh = taken;
        }

    -- ## Its end
    more_read : (bytes : List ℕ) → Consumes (to_come q x) (to_come p y) bytes → Consumes given (to_come p y) (flat_map asking_line h.calls ++ bytes)
    more_read bytes more = Consumes-trans given (to_come q x) (to_come p y) (flat_map asking_line h.calls) bytes h.read more

    -- with what the reader holds
    all_of : (bytes : List ℕ) → Consumes (to_come q x) (to_come p y) bytes → Consumes given y (flat_map asking_line h.calls ++ (bytes ++ p.held))
    all_of bytes more = subst (λ (l : List ℕ). Consumes given y l) (append_assoc (flat_map asking_line h.calls) bytes p.held)
        (let_go p given y (flat_map asking_line h.calls ++ bytes) (more_read bytes more))

    all_empty : (bytes : List ℕ) → p.held ≡ [] → Consumes (to_come q x) (to_come p y) bytes → Consumes given y (flat_map asking_line h.calls ++ bytes)
    all_empty bytes e more = let_go_empty p given y (flat_map asking_line h.calls ++ bytes) e (more_read bytes more)

    read_by : (end : SessionEnd) (rest : List ℕ) → Consumes given y (flat_map asking_line h.calls ++ rest) → IsReadBy end so_read (flat_map asking_line h.calls) rest
    read_by session_end.Over rest e = e
    read_by session_end.DiskFault rest e = e
    read_by session_end.OutOfMemory rest e = tt

    ended : (end : SessionEnd) (new : N) (rest part : List ℕ) → IsReadBy end so_read (flat_map asking_line h.calls) rest → Appends b c part
        → EndsBy Asked end h.calls rest mid new part so_read so_written → IsSession Asked end old new so_read so_written
    ended end new rest part read written ends = record {
      calls = h.calls;
      node = mid;
      are = h.are;
      rest = rest;
      read = read;
      part = part;
      written = Appends-trans a b c (flat_map answering_line h.calls) part h.written written;
      ends = ends;
    }

    -- all was told, or a write failed
    told_since : (part : List ℕ) → (part ≡ refusal) ⊎ Rose k1 k2 → (part ≡ refusal) ⊎ Rose k k2
    told_since part (inl all) = inl all
    told_since part (inr rose) = inr (subst (λ (n : ℕ). Rose n k2) h.all_written rose)

    ends_so : (of : Next) → IsNextLine of p.line q p x y → (of ≡ next.ReadFault → Rose f1 f2) → Tells (told_at of) (record { had = b; has = c; before = k1; now = k2 })
        → IfSome (end_of of) (λ end. IsSession Asked end old mid so_read so_written)
    ends_so next.Line line fault w = tt
    ends_so next.Last line fault w = ended session_end.Over mid p.line w.part (all_empty p.line line.2.held line.0.given) w.written
        (inl (record { one = line.0.one; cause = inl line.2.end; same = refl; said = none_said w.part w.said }))
    ends_so next.End line fault w = ended session_end.Over mid [] w.part (all_empty [] line.1.held line.0.given) w.written
        (inl (record { one = tt; cause = inl line.1.end; same = refl; said = none_said w.part w.said }))
    ends_so next.LongLine line fault w = ended session_end.Over mid p.held w.part (all_of [] line.0.given) w.written
        (inr (inl (record {
          front = line.1.front;
          behind = line.1.behind;
          spelled = line.1.spelled;
          one = line.1.one;
          long = line.1.long;
          same = refl;
          said = w.said;
          whole = told_since w.part w.whole;
        })))
    ends_so next.LongInput line fault w =
        let taken = line.0.taken in
        let fresh = h.fresh in
        let all = line.0.all in
        let short = line.1.short in
        absurd (omega (arith, taken, fresh, all, short))
    ends_so next.ReadFault line fault w = ended session_end.Over mid p.held w.part (all_of [] line.0.given) w.written
        (inl (record { one = line.1.one; cause = inr (subst (λ (n : ℕ). Rose n f2) h.all_read (fault refl)); same = refl; said = none_said w.part w.said }))
    ends_so next.OutOfMemory line fault w = ended session_end.OutOfMemory mid [] w.part tt w.written (record { asked = inl refl; said = none_said w.part w.said })

    -- where no next line comes
    pub session_ends : (of : Next) (end : SessionEnd) → Some end ≡ end_of of → IsNextLine of p.line q p x y → (of ≡ next.ReadFault → Rose f1 f2)
        → Tells (told_at of) (record { had = b; has = c; before = k1; now = k2 }) → IsSession Asked end old mid so_read so_written
    session_ends of end is line fault w = subst (λ (o : Option SessionEnd). IfSome o (λ end. IsSession Asked end old mid so_read so_written)) (sym is) (ends_so of line fault w)

    ends_by : (end : SessionEnd) (line : List ℕ) (new : N) (part : List ℕ) → EndsWith Asked end line mid new part (record { had = b; has = c; before = k1; now = k2 })
        → EndsBy Asked end h.calls (line ++ 10 ∷ p.held) mid new part so_read so_written
    ends_by session_end.Over line new part (inl e) = inr (inr (inl (record {
      line = line;
      behind = p.held;
      is = refl;
      ends = inl (record { no_call = e.no_call; same = e.same; said = e.said; whole = told_since part e.whole });
    })))
    ends_by session_end.Over line new part (inr e) = inr (inr (inl (record {
      line = line;
      behind = p.held;
      is = refl;
      ends = inr (record { answered = e.answered; is = e.is; asked = e.asked; said = e.said; fault = subst (λ (n : ℕ). Rose n k2) h.all_written e.fault });
    })))
    ends_by session_end.DiskFault line new part e = record { line = line; behind = p.held; is = refl; ends = e }
    ends_by session_end.OutOfMemory line new part e = e

    -- where a line ends it
    pub session_stops : (end : SessionEnd) (line : List ℕ) (new : N) (of : Next) → of ≡ next.Line → IsNextLine of p.line q p x y → line ≡ p.line
        → IsServed Asked (Some end) line mid new (record { had = b; has = c; before = k1; now = k2 }) → IsSession Asked end old new so_read so_written
    session_stops end line new of e k same cut =
        let is : IsNextLine next.Line p.line q p x y = is_line of e k in
        let its : Consumes given y (flat_map asking_line h.calls ++ ((p.line ++ 10 ∷ []) ++ p.held)) = all_of (p.line ++ 10 ∷ []) is.given in
        let whole : (p.line ++ 10 ∷ []) ++ p.held ≡ line ++ 10 ∷ p.held = append_assoc p.line (10 ∷ []) p.held ∙ ap (λ (l : List ℕ). l ++ 10 ∷ p.held) (sym same) in
        ended end new (line ++ 10 ∷ p.held) cut.part
        (read_by end (line ++ 10 ∷ p.held) (subst (λ (l : List ℕ). Consumes given y (flat_map asking_line h.calls ++ l)) whole its)) cut.written (ends_by end line new cut.part cut.ends)

  -- where no reader could be made
  pub session_none : (old : N) (source : SourceUse) (sink : SinkUse) → Appends sink.had sink.has [] → IsSession Asked session_end.OutOfMemory old old source sink
  session_none old source sink none = record { calls = []; node = old; are = refl; rest = []; read = tt; part = []; written = none; ends = record { asked = inl refl; said = refl } }

  -- the calls that a process can count came to their end
  pub session_counted : (count : ℕ) (q : LineReaderView) (old mid : N) (source : SourceUse) (sink : SinkUse) → Going count q old mid source sink → count ≡ 2 ^ 64 - 1
      → IsSession Asked session_end.Over old mid source sink
  session_counted count q old mid source sink h e = record {
    calls = h.calls;
    node = mid;
    are = h.are;
    rest = q.held;
    read = let_go q source.given source.left (flat_map asking_line h.calls) h.read;
    part = [];
    written = subst (λ (l : List ℕ). Appends sink.had sink.has l) (sym (append-nil (flat_map answering_line h.calls))) h.written;
    ends = inr (inr (inr (record { count = h.count_is ∙ e; same = refl; said = refl })));
  }

pub ruleset sessions = (begun, one_more, session_ends, session_stops, session_none, session_counted, Appends-nil)
