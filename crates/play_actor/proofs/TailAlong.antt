-- A tail along the reads that it made: its actor is led as the steps of the tail say, whatever it
-- hears.
use Rattle.std.proofs.Common.{◌≡◌, ℕ, ◌+◌, List, [], ◌∷◌, ◌++◌, length, Bool, true, false, if◌then◌else◌, Option, Some, None, refl, sym, ap, ◌∙◌, subst, append_assoc, append-nil}
use Rattle.std.specs.Prelude.{◌≢◌, nat_lt}
use Rattle.journal_core.specs.declared.request.Request.{Request}
use Rattle.journal_core.specs.declared.request.Request.TheVariants.{Read}
use Rattle.journal_core.specs.declared.heard.Heard.{Heard}
use Rattle.journal_core.specs.declared.heard.Heard.TheVariants.{Answer, Silent}
use Rattle.journal_core.specs.declared.reply.Reply.TheVariants as reply
use Rattle.journal_core.specs.declared.peer_call.PeerCall.{PeerCall}
use Rattle.writer_core.specs.Views.{WriterView}
use Rattle.journal_history.specs.declared.mark.Mark.{Mark}
use Rattle.journal_history.specs.declared.record.Record.{Record}
use Rattle.journal_history.specs.declared.record.Record.TheVariants.{Call, Late, Operator, Outcome}
use Rattle.journal_history.specs.declared.record.Told.{Told}
use Rattle.mesh.specs.Makers.{heard_of}
use Rattle.play_calls.specs.Logs.{LogView, with_line, calls_in}
use Rattle.play_calls.specs.Made.{AreCalls, MakesCalls}
use Rattle.play_calls.proofs.CallLists.{made_are}
use Rattle.ns_edits.specs.Replay.{Image, Applied, All, BadEntry, applied}
use Rattle.play_names.specs.Holding.{Holding, Work, Free, Tails, Logs, Broken, with_work}
use Rattle.play_names.specs.Tails.{TailStep, Caught, Reached, PurgedFrom, BehindBy, GoesOn, Ends, Breaks, is_until, pass_begun, pass_end, up_to, after_applied, no_edits, tail_hears}
use Rattle.play_names.specs.declared.tailed.Tailed.{Tailed}
use Rattle.play_names.specs.declared.tailed.Tailed.TheVariants as tailed
use Rattle.play_standby.specs.Standbys.{StandbyView}
use Rattle.play_standby.specs.Reads.{read_of, heard_in, AreReads, tail_along}
use Rattle.play_standby.specs.Tailing.{IsEnd, IsTailed, TailEnds}
use Rattle.play_model.specs.Actor.{wants, say_first, copy_first, read_first, Fits, heard_by, moved_on, settle_again, settle, goes_on, tail_ended, tail_stepped}
use Rattle.play_model.specs.KeptActor.{as_actor}
use Rattle.play_model.specs.Actions.{kept_of, LedTo}
use Rattle.play_model.proofs.LedLaws.{led_same, led_on, led_one}

-- from the one step of a tail its actor is led to the other one, along what its log has more
abbrev pub LeadsTo : ℕ → Option ℕ → TailStep → LogView → TailStep → LogView → Type 0
LeadsTo nodes until begun old here new = (w : WriterView) (o : Option Holding) → length w.left ≡ nodes
    → LedTo (tail_stepped until begun (as_actor None [] (kept_of w o old))) (tail_stepped until here (as_actor None [] (kept_of w o new)))

-- ## A tail up to one end
-- while it goes on it reads up to this
abbrev pub ReadsUntil : Option ℕ → Work → Type 0
ReadsUntil until (Tails u node told) = u ≡ until
ReadsUntil until Free = Unit {0}
ReadsUntil until (Logs ahead dues) = Unit {0}
ReadsUntil until Broken = Unit {0}

abbrev pub TailsUntil : Option ℕ → TailStep → Type 0
TailsUntil until (GoesOn h) = ReadsUntil until h.work
TailsUntil until (Ends end h) = Unit {0}
TailsUntil until (Breaks h) = Unit {0}

begun_if : (b : Bool) (until : Option ℕ) (h : Holding) → TailsUntil until (if b then Ends Reached (with_work Free h) else GoesOn (with_work (Tails until 1 []) h))
begun_if true until h = tt
begun_if false until h = refl

pub begun_until : (until : Option ℕ) (h : Holding) → TailsUntil until (pass_begun until h)
unfolding pass_begun
begun_until until h = begun_if (is_until until h.position) until h

applied_until : (until : Option ℕ) (a : Applied) (h : Holding) → TailsUntil until (after_applied until a h)
applied_until until (All s t) h = begun_until until (record h { space = s; position = t })
applied_until until (BadEntry s txid) h = tt

passed_if : (b : Bool) (until : Option ℕ) (node : ℕ) (told : List Heard) (h : Holding)
    → TailsUntil until (if b then GoesOn (with_work (Tails until (node + 1) told) h) else Ends (pass_end until told) (with_work Free h))
passed_if true until node told h = refl
passed_if false until node told h = tt

no_edits_until : (nodes : ℕ) (until : Option ℕ) (node : ℕ) (told : List Heard) (h : Holding) → TailsUntil until (no_edits nodes until node told h)
no_edits_until nodes until node told h = passed_if (nat_lt node nodes) until node told h

hears_until : (nodes : ℕ) (until : Option ℕ) (node : ℕ) (told : List Heard) (heard : Heard) (h : Holding) → TailsUntil until (tail_hears nodes until node told heard h)
unfolding tail_hears
hears_until nodes until node told (Answer (reply.Edits batch)) h = applied_until until (applied h.position (up_to until h.position batch.bodies) h.space) h
hears_until nodes until node told Silent h = no_edits_until nodes until node (told ++ Silent ∷ []) h
hears_until nodes until node told (Answer reply.Ok) h = no_edits_until nodes until node (told ++ Answer reply.Ok ∷ []) h
hears_until nodes until node told (Answer (reply.State promised)) h = no_edits_until nodes until node (told ++ Answer (reply.State promised) ∷ []) h
hears_until nodes until node told (Answer (reply.NewEpoch newest)) h = no_edits_until nodes until node (told ++ Answer (reply.NewEpoch newest) ∷ []) h
hears_until nodes until node told (Answer (reply.Prepared writer committed segment)) h =
    no_edits_until nodes until node (told ++ Answer (reply.Prepared writer committed segment) ∷ []) h
hears_until nodes until node told (Answer (reply.Segments lines)) h = no_edits_until nodes until node (told ++ Answer (reply.Segments lines) ∷ []) h
hears_until nodes until node told (Answer (reply.Refused refusal)) h = no_edits_until nodes until node (told ++ Answer (reply.Refused refusal) ∷ []) h

-- ## One read
-- the step says what is held, and nothing is left to be done
stepped_over : (until : Option ℕ) (s : TailStep) (w : WriterView) (o p : Option Holding) (log : LogView)
    → settle_again (tail_stepped until s (as_actor None [] (kept_of w p log))) ≡ tail_stepped until s (as_actor None [] (kept_of w o log))
unfolding settle_again settle tail_stepped tail_ended
stepped_over until (GoesOn h) w o p log = refl
stepped_over until (Breaks h) w o p log = refl
stepped_over None (Ends end h) w o p log = refl
stepped_over (Some last) (Ends Reached h) w o p log = refl
stepped_over (Some last) (Ends Caught h) w o p log = refl
stepped_over (Some last) (Ends (PurgedFrom first) h) w o p log = refl
stepped_over (Some last) (Ends (BehindBy causes) h) w o p log = refl

read_on : (nodes : ℕ) (until : Option ℕ) (node : ℕ) (told : List Heard) (h : Holding) (log : LogView) (t : Told)
    → LeadsTo nodes until (GoesOn (with_work (Tails until node told) h)) log (tail_hears nodes until node told (heard_of t) (with_work (Tails until node told) h))
    (with_line log (Call node (Read (h.position + 1)) t))
unfolding wants say_first copy_first read_first Fits goes_on moved_on heard_by tail_stepped
read_on nodes until node told h log t w o count =
    let new : LogView = with_line log (Call node (Read (h.position + 1)) t) in
    let here : Holding = with_work (Tails until node told) h in
    led_one _ _ (Call node (Read (h.position + 1)) t) (refl, refl)
    (stepped_over until (tail_hears (length w.left) until node told (heard_of t) here) w o (Some here) new
    ∙ ap (λ (n : ℕ). tail_stepped until (tail_hears n until node told (heard_of t) here) (as_actor None [] (kept_of w o new))) count)

node_in : Option (ℕ × Request) → ℕ
node_in None = 0
node_in (Some c) = c.0

request_in : Option (ℕ × Request) → Request
request_in None = Read 0
request_in (Some c) = c.1

-- where a step goes on with this work, and hears this
record OneRead (nodes : ℕ) (until : Option ℕ) (h : Holding) (node : ℕ) (r : Request) (t : Told) (log : LogView) (next : TailStep) : Type 0 where
  leads : LeadsTo nodes until (GoesOn h) log next (with_line log (Call node r t))
  tails : TailsUntil until next

one_read : (nodes : ℕ) (until : Option ℕ) (work : Work) (h : Holding) (node : ℕ) (r : Request) (t : Told) (log : LogView) → ReadsUntil until work
    → read_of work h.position ≡ Some (node, r) → OneRead nodes until (with_work work h) node r t log (heard_in nodes work (heard_of t) (with_work work h))
unfolding node_in request_in
one_read nodes until (Tails u k told) h node r t log is e =
    let a : k ≡ node = ap node_in e in
    let b : Read (h.position + 1) ≡ r = ap request_in e in
    let x : OneRead nodes u (with_work (Tails u k told) h) k (Read (h.position + 1)) t log (tail_hears nodes u k told (heard_of t) (with_work (Tails u k told) h)) =
    record { leads = read_on nodes u k told h log t; tails = hears_until nodes u k told (heard_of t) (with_work (Tails u k told) h) } in
    let next : TailStep = tail_hears nodes u k told (heard_of t) (with_work (Tails u k told) h) in
    subst (λ (q : Request). OneRead nodes until (with_work (Tails u k told) h) node q t log next) b
    (subst (λ (n : ℕ). OneRead nodes until (with_work (Tails u k told) h) n (Read (h.position + 1)) t log next) a
    (subst (λ (v : Option ℕ). OneRead nodes v (with_work (Tails u k told) h) k (Read (h.position + 1)) t log next) is x))
one_read nodes until Free h node r t log is e = absurd (cc e)
one_read nodes until (Logs ahead dues) h node r t log is e = absurd (cc e)
one_read nodes until Broken h node r t log is e = absurd (cc e)

-- ## The reads
with_lines : LogView → List Record → LogView
with_lines l lines = record l { past = l.past ++ lines }

lines_more : (l : LogView) (r : Record) (rs : List Record) → with_lines (with_line l r) rs ≡ with_lines l (r ∷ rs)
unfolding with_lines
lines_more l r rs = ap (λ (p : List Record). record l { past = p }) (append_assoc l.past (r ∷ []) rs)

lines_none : (l : LogView) → l ≡ with_lines l []
unfolding with_lines
lines_none l = ap (λ (p : List Record). record l { past = p }) (sym (append-nil l.past))

reads_along : (nodes : ℕ) (until : Option ℕ) (x : TailStep) (old : LogView) (lines : List Record) → AreCalls lines → TailsUntil until x
    → AreReads nodes x (calls_in lines) → LeadsTo nodes until x old (tail_along nodes x (calls_in lines)) (with_lines old lines)
unfolding AreCalls calls_in AreReads tail_along
reads_along nodes until x old [] are tails reads w o count =
    led_same _ _ (ap (λ (l : LogView). tail_stepped until x (as_actor None [] (kept_of w o l))) (lines_none old))
reads_along nodes until (GoesOn h) old (Call node r t ∷ rs) are tails reads w o count =
    let one : OneRead nodes until h node r t old (heard_in nodes h.work (heard_of t) h) = one_read nodes until h.work h node r t old tails reads.0 in
    let more : LeadsTo nodes until (heard_in nodes h.work (heard_of t) h) (with_line old (Call node r t))
    (tail_along nodes (heard_in nodes h.work (heard_of t) h) (calls_in rs)) (with_lines (with_line old (Call node r t)) rs) =
    reads_along nodes until (heard_in nodes h.work (heard_of t) h) (with_line old (Call node r t)) rs are one.tails reads.1 in
    led_on _ _ _ (one.leads w o count)
    (subst (λ (l : LogView). LedTo (tail_stepped until (heard_in nodes h.work (heard_of t) h) (as_actor None [] (kept_of w o (with_line old (Call node r t)))))
    (tail_stepped until (tail_along nodes (heard_in nodes h.work (heard_of t) h) (calls_in rs)) (as_actor None [] (kept_of w o l)))) (lines_more old (Call node r t) rs) (more w o count))
reads_along nodes until (Ends end h) old (Call node r t ∷ rs) are tails reads w o count = absurd (cc reads.0)
reads_along nodes until (Breaks h) old (Call node r t ∷ rs) are tails reads w o count = absurd (cc reads.0)
reads_along nodes until x old (Late node r ∷ rs) are tails reads w o count = absurd are
reads_along nodes until x old (Operator node ask done ∷ rs) are tails reads w o count = absurd are
reads_along nodes until x old (Outcome text ∷ rs) are tails reads w o count = absurd are

-- the log then, as contracts see of it all that an actor's steps read
lines_are : (nodes : ℕ) (until : Option ℕ) (x y : TailStep) (old new : LogView) (lines : List Record) → new.marks ≡ old.marks → new.past ≡ old.past ++ lines
    → LeadsTo nodes until x old y (with_lines old lines) → LeadsTo nodes until x old y new
unfolding with_lines
lines_are nodes until x y old new lines marks past leads w o count =
    let from : LedTo (tail_stepped until x (as_actor None [] (kept_of w o old))) (tail_stepped until y (as_actor None [] (kept_of w o (record old { past = old.past ++ lines })))) = leads w o count in
    subst (λ (p : List Record). LedTo (tail_stepped until x (as_actor None [] (kept_of w o old))) (tail_stepped until y (as_actor None [] (kept_of w o (record new { past = p }))))) (sym past)
    (subst (λ (ms : List Mark). LedTo (tail_stepped until x (as_actor None [] (kept_of w o old)))
    (tail_stepped until y (as_actor None [] (kept_of w o (record new { past = old.past ++ lines; marks = ms }))))) (sym marks) from)

-- ## A tail to its end
pub record TailGoes (nodes : ℕ) (until : Option ℕ) (from : Holding) (old : LogView) (images : List Image) (s : StandbyView) (new : LogView) (t : Tailed) : Type 0 where
  pub end : TailStep
  pub is : IsEnd end images s t
  pub leads : LeadsTo nodes until (pass_begun until from) old end new

-- a tail that the standby made over peers that list their calls so
pub tail_goes : (nodes : ℕ) (until : Option ℕ) (from : Holding) (images : List Image) (old new : LogView) (before after : List PeerCall) (s : StandbyView) (t : Tailed)
    → MakesCalls old new → before ≡ calls_in old.past → after ≡ calls_in new.past → TailEnds nodes (pass_begun until from) images before after s t
    → TailGoes nodes until from old images s new t
tail_goes nodes until from images old new before after s t m first last ends =
    let made : ends.leads.made ≡ calls_in m.lines = made_are old new before after ends.leads.made m first last ends.leads.grew in
    let reads : AreReads nodes (pass_begun until from) (calls_in m.lines) = subst (λ (cs : List PeerCall). AreReads nodes (pass_begun until from) cs) made ends.leads.led in
    let stands : ends.end ≡ tail_along nodes (pass_begun until from) (calls_in m.lines) = ends.leads.stands ∙ ap (λ (cs : List PeerCall). tail_along nodes (pass_begun until from) cs) made in
    let along : LeadsTo nodes until (pass_begun until from) old (tail_along nodes (pass_begun until from) (calls_in m.lines)) (with_lines old m.lines) =
    reads_along nodes until (pass_begun until from) old m.lines m.are (begun_until until from) reads in
    record {
      end = ends.end;
      is = ends.is;
      leads = subst (λ (y : TailStep). LeadsTo nodes until (pass_begun until from) old y new) (sym stands)
          (lines_are nodes until (pass_begun until from) (tail_along nodes (pass_begun until from) (calls_in m.lines)) old new m.lines m.marks m.past along);
    }

-- where memory sufficed it went to its end
pub tailed_ends : (nodes : ℕ) (begun : TailStep) (images : List Image) (before after : List PeerCall) (s : StandbyView) (t : Tailed) → t ≢ tailed.OutOfMemory
    → IsTailed nodes begun images before after s t → TailEnds nodes begun images before after s t
tailed_ends nodes begun images before after s (tailed.Caught txid) some h = h
tailed_ends nodes begun images before after s (tailed.Reached txid) some h = h
tailed_ends nodes begun images before after s (tailed.Behind txid causes) some h = h
tailed_ends nodes begun images before after s (tailed.Purged first) some h = h
tailed_ends nodes begun images before after s (tailed.BadEntry txid) some h = h
tailed_ends nodes begun images before after s tailed.OutOfMemory some h = absurd (some refl)
