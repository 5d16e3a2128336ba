-- A caller's calls, as their bytes at the ends of its pipe.
use Rattle.std.proofs.Common.{ℕ, ◌≡◌, ◌-◌, List, [], ◌∷◌, ◌++◌, length, map, take, drop, Option, Some, None, inl, inr, refl, sym, ap, ◌∙◌, subst, arith, append_assoc, length-append}
use Rattle.std.specs.Io.KnownBytes.{Appends, Consumes}
use Rattle.std.specs.List.{AllByRecursion, flat_map}
use Rattle.std.proofs.Math.Seq.{take-append_seam, drop-append_seam}
use Rattle.base_outside.specs.Whole.{TakesFront}
use Rattle.journal_core.specs.declared.request.Request.{Request}
use Rattle.journal_core.specs.declared.reply.Reply.{Reply}
use Rattle.journal_history.specs.declared.record.Told.{Told}
use Rattle.journal_history.specs.declared.record.Told.TheVariants as told
use Rattle.journal_text.specs.Texts.{reply_text}
use Rattle.journal_session.specs.Lines.{lines_text}
use Rattle.pipe_seats.specs.Calls.{EndsView, request_line, reply_line, IsReplyRead}
use Rattle.pipe_seats.specs.Tagged.{tagged}
use Rattle.pipe_seats.specs.Tags.{Asked}
use Rattle.pipe_serve.specs.Numbers.{CallUse, asked_at, IsReadFrom, IsUse, in_use_after, ends_after, IsOver, IsOverThese, GoOver}
use Rattle.pipe_serve.specs.Sessions.{IsFront}
use Rattle.pipe_serve.specs.Bytes.{AreFronts, asked_line, IsHeardOn, IsAskedOn, written_between, read_between, written_at, read_at}
use Rattle.pipe_serve.specs.Bytes.{IsKnown, AreKnownIf, TellsBytes, TellsEnds, IsUnmarked, GoesUnmarked, EndsTellBytes, HasTextIf, HasTexts, UsesAreLives}

-- ## What was written
front_written : (before after line : List ℕ) → TakesFront (Some before) (Some after) line → IsFront (written_between (Some before) (Some after)) line
front_written before after line h =
    let part : List ℕ = take h.0 line in
    let is : after ≡ before ++ part = h.1 in
    (h.0, ap (drop (length before)) is ∙ drop-append_seam before part)

front_at : (a b : Option (List ℕ)) (line : List ℕ) → IsKnown a → IsKnown b → TakesFront a b line → IsFront (written_between a b) line
front_at a b line (x, e) (y, f) h =
    subst (λ (o : Option (List ℕ)). IsFront (written_between o b) line) (sym e) (subst (λ (o : Option (List ℕ)). IsFront (written_between (Some x) o) line) (sym f)
    (front_written x y line (subst (λ (o : Option (List ℕ)). TakesFront (Some x) o line) f (subst (λ (o : Option (List ℕ)). TakesFront o b line) e h))))

fronts_at : (life : ℕ) (uses : List CallUse) → AllByRecursion (IsUse life) uses → AllByRecursion TellsBytes uses → AreFronts (map (asked_line life) (map asked_at uses)) (flat_map written_at uses)
fronts_at life [] h k = refl
fronts_at life (u ∷ uses) h k = (
  written_at u,
  flat_map written_at uses,
  front_at u.taken_then u.taken_now (request_line life u.asked.number u.asked.request) k.0.taken_then k.0.taken_now h.0.wrote,
  refl,
  fronts_at life uses h.1 k.1,
)

-- ## What was read
taken_off : (bytes rest : List ℕ) → take (length (bytes ++ rest) - length rest) (bytes ++ rest) ≡ bytes
taken_off bytes rest =
    let long : length (bytes ++ rest) - length rest ≡ length bytes = omega (arith, length-append bytes rest) in
    ap (λ (n : ℕ). take n (bytes ++ rest)) long ∙ take-append_seam bytes rest

-- the line stands at the end of what was read
abbrev EndsWithLine : List ℕ → List ℕ → Type 0
EndsWithLine line bytes = (before : List ℕ) × (bytes ≡ before ++ (line ++ 10 ∷ []))

line_read_by : (line passed before after : List ℕ) (between : Option (List ℕ)) → Consumes (Some before) between passed → Consumes between (Some after) (line ++ 10 ∷ [])
    → EndsWithLine line (read_between (Some before) (Some after))
line_read_by line passed before after None h k = absurd h
line_read_by line passed before after (Some mid) h k =
    let all : before ≡ (passed ++ (line ++ 10 ∷ [])) ++ after = h ∙ ap (λ (l : List ℕ). passed ++ l) k ∙ sym (append_assoc passed (line ++ 10 ∷ []) after) in
    (passed, ap (λ (l : List ℕ). take (length l - length after) l) all ∙ taken_off (passed ++ (line ++ 10 ∷ [])) after)

line_read : (life n : ℕ) (r : Request) (reply : Reply) (a b : Option (List ℕ)) → IsKnown a → IsKnown b → IsReplyRead life n r reply a b
    → EndsWithLine (tagged life n (reply_text reply)) (read_between a b)
line_read life n r reply a b (x, e) (y, f) h =
    let line = tagged life n (reply_text reply) in
    subst (λ (o : Option (List ℕ)). EndsWithLine line (read_between o b)) (sym e) (subst (λ (o : Option (List ℕ)). EndsWithLine line (read_between (Some x) o)) (sym f)
    (line_read_by line (lines_text h.passed.lines) x y h.between (subst (λ (o : Option (List ℕ)). Consumes o h.between (lines_text h.passed.lines)) e h.passed.given)
    (subst (λ (o : Option (List ℕ)). Consumes h.between o (line ++ 10 ∷ [])) f h.given)))

heard_at : (life : ℕ) (read : List (List ℕ)) (n : ℕ) (r : Request) (t : Told) (a b : Option (List ℕ)) → AreKnownIf t a b → HasTextIf r t → IsReadFrom life n r t a b
    → IsHeardOn life (read_between a b ∷ read) n r t
heard_at life read n r (told.Reply reply) a b k text h = let is = line_read life n r reply a b k.0 k.1 h in (text, inl (is.0, [], is.1))
heard_at life read n r told.Dropped a b k text h = tt
heard_at life read n r told.Muted a b k text h = tt
heard_at life read n r told.Silent a b k text h = tt

heard_behind : (life : ℕ) (piece : List ℕ) (read : List (List ℕ)) (n : ℕ) (r : Request) (t : Told) → IsHeardOn life read n r t → IsHeardOn life (piece ∷ read) n r t
heard_behind life piece read n r (told.Reply reply) h = (h.0, inr h.1)
heard_behind life piece read n r told.Dropped h = tt
heard_behind life piece read n r told.Muted h = tt
heard_behind life piece read n r told.Silent h = tt

asked_behind : (life : ℕ) (piece : List ℕ) (read : List (List ℕ)) (asked : List Asked) → AllByRecursion (IsAskedOn life read) asked → AllByRecursion (IsAskedOn life (piece ∷ read)) asked
asked_behind life piece read [] h = tt
asked_behind life piece read (a ∷ asked) h = (
  record { wide = h.0.wide; request = h.0.request; heard = heard_behind life piece read a.number a.request a.told h.0.heard },
  asked_behind life piece read asked h.1,
)

asked_by : (life : ℕ) (uses : List CallUse) → AllByRecursion (IsUse life) uses → AllByRecursion TellsBytes uses → AllByRecursion HasTexts uses
    → AllByRecursion (IsAskedOn life (map read_at uses)) (map asked_at uses)
asked_by life [] h k t = tt
asked_by life (u ∷ uses) h k t = (
  record {
    wide = t.0.wide;
    request = t.0.request;
    heard = heard_at life (map read_at uses) u.asked.number u.asked.request u.asked.told u.left_then u.left_now k.0.left t.0.heard h.0.read;
  },
  asked_behind life (read_at u) (map read_at uses) (map asked_at uses) (asked_by life uses h.1 k.1 t.1),
)

pub are_lives : UsesAreLives
are_lives life uses wide h k t = record { wide = wide; wrote = fronts_at life uses h k; asked = asked_by life uses h k t }

-- ## Where the ends that came at openings tell their bytes
known_after : (a b : Option (List ℕ)) (bytes : List ℕ) → IsKnown a → Appends a b bytes → IsKnown b
known_after a None bytes (x, e) h = absurd (subst (λ (o : Option (List ℕ)). Appends o None bytes) e h)
known_after a (Some y) bytes k h = (y, refl)

known_left : (a b : Option (List ℕ)) (bytes : List ℕ) → IsKnown a → Consumes a b bytes → IsKnown b
known_left a None bytes (x, e) h = absurd (subst (λ (o : Option (List ℕ)). Consumes o None bytes) e h)
known_left a (Some y) bytes k h = (y, refl)

-- of a call over such ends
abbrev TellsNow : Option EndsView → Type 0
TellsNow None = Unit {0}
TellsNow (Some ends) = TellsEnds ends

known_if : (life n : ℕ) (r : Request) (t : Told) (a b : Option (List ℕ)) → IsUnmarked t → IsKnown a → IsReadFrom life n r t a b → AreKnownIf t a b
known_if life n r (told.Reply reply) a b plain k h = (k, known_left h.between b (reply_line life n reply) (known_left a h.between (lines_text h.passed.lines) k h.passed.given) h.given)
known_if life n r told.Dropped a b plain k h = absurd plain
known_if life n r told.Muted a b plain k h = absurd plain
known_if life n r told.Silent a b plain k h = tt

tells_after : (t : Told) (taken a b : Option (List ℕ)) → IsUnmarked t → IsKnown taken → AreKnownIf t a b → TellsNow (in_use_after t (record { taken = taken; left = b }))
tells_after (told.Reply reply) taken a b plain k l = record { taken = k; left = l.1 }
tells_after told.Dropped taken a b plain k l = absurd plain
tells_after told.Muted taken a b plain k l = absurd plain
tells_after told.Silent taken a b plain k l = tt

tells_over : (life : ℕ) (ends : EndsView) (u : CallUse) → IsUse life u → IsUnmarked u.asked.told → TellsEnds ends → IsOver ends u → TellsBytes u
tells_over life ends u is plain k o =
    let taken : IsKnown u.taken_then = subst IsKnown (sym o.taken) k.taken in
    record {
      taken_then = taken;
      taken_now = known_after u.taken_then u.taken_now (take is.wrote.0 (request_line life u.asked.number u.asked.request)) taken is.wrote.1;
      left = known_if life u.asked.number u.asked.request u.asked.told u.left_then u.left_now plain (subst IsKnown (sym o.left) k.left) is.read;
    }

tells_on : (u : CallUse) → IsUnmarked u.asked.told → TellsBytes u → TellsNow (ends_after u)
tells_on u plain k = tells_after u.asked.told u.taken_now u.left_then u.left_now plain k.taken_now k.left

-- those behind some of these
tell_behind : (before : List EndsView) (ends : EndsView) (more : List EndsView) → AllByRecursion TellsEnds (before ++ ends ∷ more) → TellsEnds ends × AllByRecursion TellsEnds more
tell_behind [] ends more h = h
tell_behind (e ∷ before) ends more h = tell_behind before ends more h.1

over_now : (life : ℕ) (now : Option EndsView) (u : CallUse) → IsUse life u → IsUnmarked u.asked.told → TellsNow now → IsOverThese now u → TellsBytes u
over_now life None u is plain k o = absurd o
over_now life (Some ends) u is plain k o = tells_over life ends u is plain k o

tell_from : (life : ℕ) (now : Option EndsView) (opened : List EndsView) (uses : List CallUse) → AllByRecursion (IsUse life) uses → AllByRecursion GoesUnmarked uses → TellsNow now
    → GoOver now opened uses → AllByRecursion TellsEnds opened → AllByRecursion TellsBytes uses
tell_from life now opened [] h plain k o all = tt
tell_from life now opened (u ∷ uses) h plain k (inl o) all =
    let here : TellsBytes u = over_now life now u h.0 plain.0 k o.0 in
    (here, tell_from life (ends_after u) opened uses h.1 plain.1 (tells_on u plain.0 here) o.1 all)
tell_from life now opened (u ∷ uses) h plain k (inr o) all =
    let its = tell_behind o.before o.ends o.more (subst (λ (es : List EndsView). AllByRecursion TellsEnds es) o.are all) in
    let here : TellsBytes u = tells_over life o.ends u h.0 plain.0 its.0 o.over in
    (here, tell_from life (ends_after u) o.more uses h.1 plain.1 (tells_on u plain.0 here) o.rest its.1)

pub ends_tell : EndsTellBytes
ends_tell life opened uses h plain over all = tell_from life None opened uses h plain tt over all
