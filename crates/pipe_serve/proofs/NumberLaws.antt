-- The numbers of a life's calls to a node, and what a node got of them.
use Rattle.std.proofs.Common.{ℕ, ◌≡◌, ◌+◌, ◌<◌, ◌⊎◌, inl, inr, List, [], ◌∷◌, ◌++◌, map, Option, Some, None, refl, sym, ap, ◌∙◌, subst, ⊎_elim, arith, append_assoc, append-nil, Bool, true, false}
use Rattle.std.specs.List.{AllByRecursion}
use Rattle.std.proofs.lemmas.Bool.{cases_eq}
use Rattle.base_outside.specs.Whole.{TakesFront}
use Rattle.journal_core.specs.declared.request.Request.{Request}
use Rattle.journal_core.specs.declared.reply.Reply.{Reply}
use Rattle.journal_core.specs.declared.heard.Heard.{Heard}
use Rattle.journal_core.specs.declared.heard.Heard.TheVariants.{Answer, Silent}
use Rattle.journal_history.specs.declared.record.Record.{Record}
use Rattle.journal_history.specs.declared.record.Record.TheVariants.{Call, Late, Operator, Outcome}
use Rattle.journal_history.specs.declared.record.Told.{Told}
use Rattle.journal_history.specs.declared.record.Told.TheVariants as told
use Rattle.journal_text.specs.Reading.{reading_of}
use Rattle.journal_text.specs.Texts.{request_text}
use Rattle.journal_text.specs.declared.request_line.ReadRequest.TheVariants.{Read}
use Rattle.journal_text.proofs.LineLaws.{text_read}
use Rattle.pipe_seats.specs.Calls.{EndsView, PipeView, unopened, request_line, IsReplyRead, IsReady, IsOpenedAgain, IsExchanged, IsCalledAt}
use Rattle.pipe_seats.specs.Carried.{IsUnheard}
use Rattle.pipe_seats.specs.Piped.{WentAs, Goes}
use Rattle.pipe_seats.specs.Tags.{Asked, GotAs, AreWritten, IsRising, WasAsked}
use Rattle.pipe_serve.specs.Sessions.{Answered}
use Rattle.pipe_serve.specs.Numbers.{IsTakenAs, AreTaken, IsBegunIn, AreBegun, IsRequestOf, SessionsKeepOrder, IsMade, IsReadAs, WasRead, AreNumbered, CallsAreNumbered}
use Rattle.pipe_serve.specs.Numbers.{CallUse, asked_at, IsReadFrom, IsUse, IsOverThese, GoOver, in_use_after, WroteLines, CallsWriteLines, AreSome, LinesKeepOrder}

-- ## One call over a pipe
ready_same : (old new : PipeView) → IsReady old new → (new.life ≡ old.life) × (new.calls ≡ old.calls)
ready_same old new (inl e) = (ap (λ (p : PipeView). p.life) e, ap (λ (p : PipeView). p.calls) e)
ready_same old new (inr h) = (h.life, h.calls)

call_life : (old new : PipeView) (r : Request) (heard : Heard) → IsCalledAt old new r heard → new.life ≡ old.life
call_life old new r heard h = h.exchanged.heard_then.life ∙ h.exchanged.sent.life ∙ (ready_same old h.ready h.readied).0

-- its number was used, or none
abbrev Counts : PipeView → PipeView → Type 0
Counts old new = (new.calls ≡ old.calls) ⊎ (new.calls ≡ old.calls + 1)

call_counts : (old new : PipeView) (r : Request) (heard : Heard) → IsCalledAt old new r heard → Counts old new
call_counts old new r heard h =
    let from = (ready_same old h.ready h.readied).1 in
    let last = h.exchanged.heard_then.calls in
    ⊎_elim (λ b. inl (last ∙ b.1 ∙ from)) (λ b. inr (last ∙ b ∙ ap (λ (n : ℕ). n + 1) from)) h.exchanged.sent.begun

-- a front of its line was written
call_wrote : (old new : PipeView) (r : Request) (heard : Heard) (h : IsCalledAt old new r heard) → TakesFront h.ready.taken new.taken (request_line old.life (old.calls + 1) r)
call_wrote old new r heard h =
    let from = ready_same old h.ready h.readied in
    let line = subst (λ (l : ℕ). TakesFront h.ready.taken h.exchanged.between.taken (request_line l (h.ready.calls + 1) r)) from.0 h.exchanged.sent.front in
    subst (λ (x : Option (List ℕ)). TakesFront h.ready.taken x (request_line old.life (old.calls + 1) r)) (sym h.exchanged.heard_then.taken)
    (subst (λ (n : ℕ). TakesFront h.ready.taken h.exchanged.between.taken (request_line old.life (n + 1) r)) from.1 line)

-- where it was answered, its number was used, and the reply was read on a line of it
answer_counts : (old new : PipeView) (r : Request) (reply : Reply) (h : IsCalledAt old new r (Answer reply))
    → (new.calls ≡ old.calls + 1) × IsReplyRead old.life (old.calls + 1) r reply h.ready.left new.left
answer_counts old new r reply h =
    let from = ready_same old h.ready h.readied in
    let mid = h.exchanged.between in
    let read = h.exchanged.heard_then.read in
    let counted : mid.calls ≡ old.calls + 1 = h.exchanged.sent.counted read.0 ∙ ap (λ (n : ℕ). n + 1) from.1 in
    let life : mid.life ≡ old.life = h.exchanged.sent.life ∙ from.0 in
    let own = subst (λ (k : ℕ). IsReplyRead old.life k r reply mid.left new.left) counted (subst (λ (k : ℕ). IsReplyRead k mid.calls r reply mid.left new.left) life read.2) in
    (h.exchanged.heard_then.calls ∙ counted, subst (λ (x : Option (List ℕ)). IsReplyRead old.life (old.calls + 1) r reply x new.left) h.exchanged.sent.left own)

abbrev use_of : ℕ → Request → Told → PipeView → PipeView → CallUse
use_of n r t ready new =
    record { asked = record { number = n; request = r; told = t }; taken_then = ready.taken; taken_now = new.taken; left_then = ready.left; left_now = new.left }

-- ## Its ends
abbrev ends_of : PipeView → EndsView
ends_of p = record { taken = p.taken; left = p.left }

-- these are the ends of the pipe, as they are, if it was opened
abbrev AreNow : Option EndsView → PipeView → Type 0
AreNow None p = p.is_open ≡ false
AreNow (Some ends) p = (ends.taken ≡ p.taken) × (ends.left ≡ p.left)

-- nothing was written, nor read, and the pipe isn't in use
record IsLeftAlone (ready new : PipeView) : Type 0 where
  closed : new.is_open ≡ false
  taken : new.taken ≡ ready.taken
  left : new.left ≡ ready.left

-- so it is where no number was used
left_alone : (ready new : PipeView) (r : Request) (heard : Heard) → IsExchanged ready new r heard → new.calls ≡ ready.calls → IsLeftAlone ready new
left_alone ready new r heard h same = by h.between.is_open refl h.sent.begun
  where
    by : (b : Bool) → h.between.is_open ≡ b → ((h.between.taken ≡ ready.taken) × (h.between.calls ≡ ready.calls)) ⊎ (h.between.calls ≡ ready.calls + 1) → IsLeftAlone ready new
    by true is begun = absurd (omega (arith, h.sent.counted is, h.heard_then.calls, same))
    by false is (inl b) =
        let e : new ≡ h.between = h.heard_then.closed is in
        record { closed = ap (λ (p : PipeView). p.is_open) e ∙ is; taken = ap (λ (p : PipeView). p.taken) e ∙ b.0; left = ap (λ (p : PipeView). p.left) e ∙ h.sent.left }
    by false is (inr b) = absurd (omega (arith, b, h.heard_then.calls, same))

alone_now : (now : Option EndsView) (old ready new : PipeView) → AreNow now old → ready ≡ old → IsLeftAlone ready new → AreNow now new
alone_now None old ready new a e h = h.closed
alone_now (Some ends) old ready new a e h = (a.0 ∙ sym (h.taken ∙ ap (λ (p : PipeView). p.taken) e), a.1 ∙ sym (h.left ∙ ap (λ (p : PipeView). p.left) e))

-- one whose number was used went over ends
was_open : (ready new : PipeView) (r : Request) (heard : Heard) → IsExchanged ready new r heard → new.calls ≡ ready.calls + 1 → ready.is_open ≡ false → ⊥
was_open ready new r heard h counted closed =
    let same : h.between.calls ≡ ready.calls = ap (λ (p : PipeView). p.calls) (h.sent.closed closed) in
    absurd (omega (arith, same, counted, h.heard_then.calls))

over_these : (now : Option EndsView) (old ready new : PipeView) (n : ℕ) (r : Request) (t : Told) → AreNow now old → ready ≡ old → (ready.is_open ≡ false → ⊥)
    → IsOverThese now (use_of n r t ready new)
over_these None old ready new n r t a e off = absurd (off (ap (λ (p : PipeView). p.is_open) e ∙ a))
over_these (Some ends) old ready new n r t a e off = record { taken = ap (λ (p : PipeView). p.taken) e ∙ sym a.0; left = ap (λ (p : PipeView). p.left) e ∙ sym a.1 }

-- over the ends of an opening no line was begun
over_none : (now : Option EndsView) (ends : EndsView) (more : List EndsView) (uses : List CallUse) → GoOver (Some ends) more uses → GoOver now (ends ∷ more) uses
over_none now ends more [] h = tt
over_none now ends more (u ∷ uses) (inl h) = inr (record { before = []; ends = ends; more = more; are = refl; over = h.0; rest = h.1 })
over_none now ends more (u ∷ uses) (inr h) =
    inr (record { before = ends ∷ h.before; ends = h.ends; more = h.more; are = ap (λ (xs : List EndsView). ends ∷ xs) h.are; over = h.over; rest = h.rest })

-- ## All calls
-- what they wrote, over the ends that there were and those that came
abbrev Wrote : ℕ → List Record → PipeView → PipeView → Type 0
Wrote node rs old new = (now : Option EndsView) → AreNow now old → (more : List EndsView) × (new.opened ≡ old.opened ++ more) × WroteLines node old.life old.calls rs now more

-- ends that came at an opening before these
came_first : (old ready mid new : PipeView) (more : List EndsView) → IsOpenedAgain old ready → mid.opened ≡ ready.opened → new.opened ≡ mid.opened ++ more
    → new.opened ≡ old.opened ++ ends_of ready ∷ more
came_first old ready mid new more o e h = h ∙ ap (λ (xs : List EndsView). xs ++ more) (e ∙ o.opened) ∙ append_assoc old.opened (ends_of ready ∷ []) more

came_none : (old ready mid new : PipeView) (more : List EndsView) → ready ≡ old → mid.opened ≡ ready.opened → new.opened ≡ mid.opened ++ more → new.opened ≡ old.opened ++ more
came_none old ready mid new more o e h = h ∙ ap (λ (xs : List EndsView). xs ++ more) (e ∙ ap (λ (p : PipeView). p.opened) o)

module _ (node m : ℕ) (r : Request) (t : Told) (rs : List Record) (old mid new : PipeView) (life : mid.life ≡ old.life) where
  uncounted_lines : (at now : Option EndsView) (more opened : List EndsView) → (m ≡ node → ⊥) ⊎ IsUnheard t → mid.calls ≡ old.calls → (h : WroteLines node mid.life mid.calls rs at more)
      → GoOver now opened h.uses → WroteLines node old.life old.calls (Call m r t ∷ rs) now opened
  uncounted_lines at now more opened why count h over = record {
    uses = h.uses;
    written = inr (why, subst (λ (k : ℕ). AreWritten node k rs (map asked_at h.uses)) count h.written);
    each = subst (λ (l : ℕ). AllByRecursion (IsUse l) h.uses) life h.each;
    over = over;
  }

  counted_lines : (ready : PipeView) (now : Option EndsView) (more opened : List EndsView) → m ≡ node → mid.calls ≡ old.calls + 1 → IsUse old.life (use_of (old.calls + 1) r t ready mid)
      → (h : WroteLines node mid.life mid.calls rs (in_use_after t (ends_of mid)) more) → GoOver now opened (use_of (old.calls + 1) r t ready mid ∷ h.uses)
      → WroteLines node old.life old.calls (Call m r t ∷ rs) now opened
  counted_lines ready now more opened same count is h over = record {
    uses = use_of (old.calls + 1) r t ready mid ∷ h.uses;
    written = inl (same, record { more = map asked_at h.uses; are = refl; rest = subst (λ (k : ℕ). AreWritten node k rs (map asked_at h.uses)) count h.written });
    each = (is, subst (λ (l : ℕ). AllByRecursion (IsUse l) h.uses) life h.each);
    over = over;
  }

  -- it did nothing to the pipe
  not_gone : (m ≡ node → ⊥) ⊎ IsUnheard t → mid ≡ old → Wrote node rs mid new → Wrote node (Call m r t ∷ rs) old new
  not_gone why e h now a =
      let k = h now (subst (AreNow now) (sym e) a) in
      (k.0, k.1 ∙ ap (λ (p : PipeView). p.opened ++ k.0) e, uncounted_lines now now k.0 k.0 why (ap (λ (p : PipeView). p.calls) e) k.2 k.2.over)

  module _ (heard : Heard) (c : IsCalledAt old mid r heard) (h : Wrote node rs mid new) where
    opened_then : mid.opened ≡ c.ready.opened
    opened_then = c.exchanged.heard_then.opened ∙ c.exchanged.sent.opened

    counted_one : m ≡ node → mid.calls ≡ old.calls + 1 → IsUse old.life (use_of (old.calls + 1) r t c.ready mid) → AreNow (in_use_after t (ends_of mid)) mid
        → Wrote node (Call m r t ∷ rs) old new
    counted_one same count is after now a = by c.readied
      where
        k : (more : List EndsView) × (new.opened ≡ mid.opened ++ more) × WroteLines node mid.life mid.calls rs (in_use_after t (ends_of mid)) more
        k = h (in_use_after t (ends_of mid)) after

        went : c.ready.is_open ≡ false → ⊥
        went = was_open c.ready mid r heard c.exchanged (omega (arith, count, (ready_same old c.ready c.readied).1))

        by : IsReady old c.ready → (more : List EndsView) × (new.opened ≡ old.opened ++ more) × WroteLines node old.life old.calls (Call m r t ∷ rs) now more
        by (inl e) = (
          k.0,
          came_none old c.ready mid new k.0 e opened_then k.1,
          counted_lines c.ready now k.0 k.0 same count is k.2 (inl (over_these now old c.ready mid (old.calls + 1) r t a e went, k.2.over)),
        )
        by (inr o) = (
          ends_of c.ready ∷ k.0,
          came_first old c.ready mid new k.0 o opened_then k.1,
          counted_lines c.ready now k.0 (ends_of c.ready ∷ k.0) same count is k.2
              (inr (record { before = []; ends = ends_of c.ready; more = k.0; are = refl; over = record { taken = refl; left = refl }; rest = k.2.over })),
        )

    uncounted_one : IsUnheard t → mid.calls ≡ old.calls → Wrote node (Call m r t ∷ rs) old new
    uncounted_one quiet count now a = by c.readied
      where
        alone : IsLeftAlone c.ready mid
        alone = left_alone c.ready mid r heard c.exchanged (count ∙ sym (ready_same old c.ready c.readied).1)

        by : IsReady old c.ready → (more : List EndsView) × (new.opened ≡ old.opened ++ more) × WroteLines node old.life old.calls (Call m r t ∷ rs) now more
        by (inl e) =
            let k = h now (alone_now now old c.ready mid a e alone) in
            (k.0, came_none old c.ready mid new k.0 e opened_then k.1, uncounted_lines now now k.0 k.0 (inr quiet) count k.2 k.2.over)
        by (inr o) =
            let ends = ends_of c.ready in
            let k = h (Some ends) (sym alone.taken, sym alone.left) in (
              ends ∷ k.0,
              came_first old c.ready mid new k.0 o opened_then k.1,
              uncounted_lines (Some ends) now k.0 (ends ∷ k.0) (inr quiet) count k.2 (over_none now ends k.0 k.2.uses k.2.over),
            )

    unheard_one : m ≡ node → IsUnheard t → IsUse old.life (use_of (old.calls + 1) r t c.ready mid) → AreNow (in_use_after t (ends_of mid)) mid
        → Wrote node (Call m r t ∷ rs) old new
    unheard_one same quiet is after = ⊎_elim (λ count. uncounted_one quiet count) (λ count. counted_one same count is after) (call_counts old mid r heard c)

one_call : (node m : ℕ) (r : Request) (t : Told) (rs : List Record) (old mid new : PipeView) → m ≡ node → WentAs r t old mid → Wrote node rs mid new → Wrote node (Call m r t ∷ rs) old new
one_call node m r (told.Reply reply) rs old mid new same went h =
    let a = answer_counts old mid r reply went in
    counted_one node m r (told.Reply reply) rs old mid new (call_life old mid r (Answer reply) went) (Answer reply) went h same a.0
    (record { wrote = call_wrote old mid r (Answer reply) went; read = a.1 }) (refl, refl)
one_call node m r told.Silent rs old mid new same went h =
    unheard_one node m r told.Silent rs old mid new (call_life old mid r Silent went) Silent went h same tt (record { wrote = call_wrote old mid r Silent went; read = tt })
    went.exchanged.heard_then.read
one_call node m r told.Muted rs old mid new same went h =
    unheard_one node m r told.Muted rs old mid new (call_life old mid r went.0 went.1) went.0 went.1 h same tt (record { wrote = call_wrote old mid r went.0 went.1; read = tt })
    (refl, refl)
one_call node m r told.Dropped rs old mid new same went h =
    not_gone node m r told.Dropped rs old mid new (ap (λ (p : PipeView). p.life) went) (inr tt) went h

wrote_on : (node : ℕ) (rs : List Record) (old new : PipeView) → AllByRecursion IsMade rs → Goes node rs old new → Wrote node rs old new
wrote_on node [] old new made goes =
    λ now a. ([], ap (λ (p : PipeView). p.opened) goes ∙ sym (append-nil old.opened), record { uses = []; written = refl; each = tt; over = tt })
wrote_on node (Call m r t ∷ rs) old new made goes =
    let rest = wrote_on node rs goes.0 new made.1 goes.2 in
    ⊎_elim (λ same. one_call node m r t rs old goes.0 new same (goes.1.here same) rest)
    (λ ne. let e = goes.1.elsewhere ne in not_gone node m r t rs old goes.0 new (ap (λ (p : PipeView). p.life) e) (inl ne) e rest)
    (cases_eq m node)
wrote_on node (Outcome text ∷ rs) old new made goes =
    let rest = wrote_on node rs goes.0 new made.1 goes.2 in
    let e : goes.0 ≡ old = goes.1.elsewhere (λ x. x) in
    let here : Wrote node rs old new = subst (λ (p : PipeView). Wrote node rs p new) e rest in
    λ now a. let k = here now a in (k.0, k.1, record { uses = k.2.uses; written = k.2.written; each = k.2.each; over = k.2.over })
wrote_on node (Late m r ∷ rs) old new made goes = absurd made.0
wrote_on node (Operator m ask done ∷ rs) old new made goes = absurd made.0

pub all_wrote : CallsWriteLines
all_wrote node life rs pipe made goes = let k = wrote_on node rs (unopened life) pipe made goes None refl in subst (λ (xs : List EndsView). WroteLines node life 0 rs None xs) (sym k.1) k.2

-- ## By their numbers
read_by : (life n : ℕ) (r : Request) (t : Told) (before after : Option (List ℕ)) → IsReadFrom life n r t before after → IsReadAs life n r t
read_by life n r (told.Reply reply) before after h = record { before = before; after = after; read = h }
read_by life n r told.Dropped before after h = tt
read_by life n r told.Muted before after h = tt
read_by life n r told.Silent before after h = tt

were_read : (life : ℕ) (uses : List CallUse) → AllByRecursion (IsUse life) uses → AllByRecursion (WasRead life) (map asked_at uses)
were_read life [] h = tt
were_read life (u ∷ uses) h = (read_by life u.asked.number u.asked.request u.asked.told u.left_then u.left_now h.0.read, were_read life uses h.1)

pub numbered_by : (node life n : ℕ) (rs : List Record) (uses : List CallUse) → AreWritten node n rs (map asked_at uses) → AllByRecursion (IsUse life) uses
    → AreNumbered node life n rs (map asked_at uses)
numbered_by node life n rs uses written each = record { written = written; read = were_read life uses each }

pub all_numbered : CallsAreNumbered
all_numbered node life rs pipe made goes =
    let h = all_wrote node life rs pipe made goes in
    (map asked_at h.uses, numbered_by node life 0 rs h.uses h.written h.each)

-- ## What a node got
later : (a : Asked) (asked : List Asked) (gots : List GotAs) → AllByRecursion (WasAsked asked) gots → AllByRecursion (WasAsked (a ∷ asked)) gots
later a asked [] all = tt
later a asked (g ∷ gots) all = (inr all.0, later a asked gots all.1)

pub were_asked : (asked : List Asked) (gots : List GotAs) → AreSome gots asked → AllByRecursion (WasAsked asked) gots
were_asked asked [] some = tt
were_asked [] (g ∷ gots) some = absurd some
were_asked (a ∷ asked) (g ∷ gots) (inl h) = (inl (h.0, h.1), later a asked gots (were_asked asked gots h.2))
were_asked (a ∷ asked) (g ∷ gots) (inr h) = later a asked (g ∷ gots) (were_asked asked (g ∷ gots) h)

-- the first of those that were written is theirs, or isn't
rises : (n : ℕ) (a : Asked) (more : List Asked) (gots : List GotAs) → a.number ≡ n + 1 → ((gs : List GotAs) → AreSome gs more → IsRising (n + 1) gs) → AreSome gots (a ∷ more) → IsRising n gots
rises n a more [] first on some = tt
rises n a more (g ∷ gots) first on (inl h) =
    let here : g.number ≡ n + 1 = sym h.0 ∙ first in
    let low : n < g.number = omega (arith, here) in
    (low, subst (λ (k : ℕ). IsRising k gots) (sym here) (on gots h.2))
rises n a more (g ∷ gots) first on (inr h) =
    let up = on (g ∷ gots) h in
    let high : n + 1 < g.number = up.0 in
    let low : n < g.number = omega (arith, high) in
    (low, up.1)

none_rises : (n : ℕ) (gots : List GotAs) → AreSome gots [] → IsRising n gots
none_rises n [] some = tt
none_rises n (g ∷ gots) some = absurd some

rising : (node n : ℕ) (rs : List Record) (asked : List Asked) → AreWritten node n rs asked → (gots : List GotAs) → AreSome gots asked → IsRising n gots
rising node n [] asked h gots some = none_rises n gots (subst (AreSome gots) h some)
rising node n (Call m r t ∷ rs) asked (inl h) gots some =
    rises n (record { number = n + 1; request = r; told = t }) h.1.more gots refl (rising node (n + 1) rs h.1.more h.1.rest) (subst (AreSome gots) h.1.are some)
rising node n (Call m r t ∷ rs) asked (inr h) gots some = rising node n rs asked h.1 gots some
rising node n (Outcome text ∷ rs) asked h gots some = rising node n rs asked h gots some
rising node n (Late m r ∷ rs) asked h gots some = absurd h
rising node n (Operator m ask done ∷ rs) asked h gots some = absurd h

pub order_kept : LinesKeepOrder
order_kept node life rs asked gots numbers some back = record {
  asked = asked;
  written = numbers.written;
  rising = rising node 0 rs asked numbers.written gots some;
  there = were_asked asked gots some;
  back = back;
}

-- ## What a node's sessions took
request_same : (a : Answered) (b : Asked) (g : GotAs) → IsRequestOf b → request_text b.request ≡ a.text → IsTakenAs a g → b.request ≡ g.got.request
request_same a b g wide text is =
    let e : Read b.request ≡ Read g.got.request = sym (text_read b.request wide) ∙ ap reading_of text ∙ is.reads in
    cc e

begun_some : (a : Answered) (g : GotAs) (more : List GotAs) (Rest : List Asked → Type 0) → IsTakenAs a g → ((xs : List Asked) → AllByRecursion IsRequestOf xs → Rest xs → AreSome more xs)
    → (asked : List Asked) → AllByRecursion IsRequestOf asked → IsBegunIn a asked Rest → AreSome (g ∷ more) asked
begun_some a g more Rest is on [] wide h = absurd h
begun_some a g more Rest is on (b ∷ asked) wide (inl h) = inl (h.0 ∙ sym is.number, request_same a b g wide.0 h.1 is, on asked wide.1 h.2)
begun_some a g more Rest is on (b ∷ asked) wide (inr h) = inr (begun_some a g more Rest is on asked wide.1 h)

taken_some : (life : ℕ) (calls : List Answered) (gots : List GotAs) → AreTaken life calls gots → (asked : List Asked) → AllByRecursion IsRequestOf asked → AreBegun life calls asked
    → AreSome gots asked
taken_some life [] gots taken asked wide begun = subst (λ (xs : List GotAs). AreSome xs asked) (sym taken) tt
taken_some life (a ∷ calls) gots (inl t) asked wide (inl b) =
    subst (λ (xs : List GotAs). AreSome xs asked) (sym t.1.are)
    (begun_some a t.1.got t.1.more (AreBegun life calls) t.1.is (λ xs w h. taken_some life calls t.1.more t.1.rest xs w h) asked wide b.1)
taken_some life (a ∷ calls) gots (inl t) asked wide (inr b) = absurd (b.0 t.0)
taken_some life (a ∷ calls) gots (inr t) asked wide (inl b) = absurd (t.0 b.0)
taken_some life (a ∷ calls) gots (inr t) asked wide (inr b) = taken_some life calls gots t.1 asked wide b.1

pub sessions_kept : SessionsKeepOrder
sessions_kept node life rs asked calls gots numbers wide taken begun back = order_kept node life rs asked gots numbers (taken_some life calls gots taken asked wide begun) back
