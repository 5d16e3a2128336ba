-- An actor along the calls that its writer made: it is led as its task says, whatever it hears.
use Rattle.std.proofs.Common.{◌≡◌, ℕ, List, [], ◌∷◌, ◌++◌, true, sym, ap, ◌∙◌, subst, Option, append_assoc, append-nil}
use Rattle.journal_core.specs.declared.peer_call.PeerCall.{PeerCall}
use Rattle.writer_core.specs.declared.turn.Turn.{Turn}
use Rattle.writer_core.specs.declared.turn.Turn.TheVariants as turn
use Rattle.writer_core.specs.Views.{WriterView}
use Rattle.writer_core.specs.Rounds.{Judgment, keep_going}
use Rattle.writer_core.specs.Writer.{writer_heard, is_under_way}
use Rattle.writer_calls.specs.Led.{IsLed, judgment_along, Leads}
use Rattle.journal_history.specs.declared.mark.Mark.{Mark}
use Rattle.journal_history.specs.declared.record.Record.{Record}
use Rattle.journal_history.specs.declared.record.Record.TheVariants.{Call, Late, Operator, Outcome}
use Rattle.mesh.specs.Makers.{heard_of}
use Rattle.play_names.specs.Holding.{Holding}
use Rattle.play_calls.specs.Logs.{LogView, calls_in}
use Rattle.play_calls.specs.Made.{AreCalls, MakesCalls}
use Rattle.play_calls.proofs.CallLists.{made_are}
use Rattle.play_model.specs.KeptActor.{KeptActor, hears}
use Rattle.play_model.specs.Ready.{IsReady}
use Rattle.play_model.specs.Went.{TellsTaken}
use Rattle.play_model.specs.Actions.{kept_of, GoesFar}
use Rattle.play_model.proofs.TurnsFit.{heard_taken}
use Rattle.play_actor.proofs.Stretches.{goes_begin, heard_more}

-- what is kept once these calls were heard
unfoldable pub kept_along : KeptActor → List Record → KeptActor
kept_along k [] = k
kept_along k (Call node r t ∷ rs) = kept_along (hears k node r t) rs
kept_along k (Late node r ∷ rs) = kept_along k rs
kept_along k (Operator node ask done ∷ rs) = kept_along k rs
kept_along k (Outcome text ∷ rs) = kept_along k rs

-- a writer after its last turn
abbrev pub standing : WriterView → Turn → Judgment
standing w u = record { writer = w; turn = u }

pub goes_along : (n : ℕ) (k0 k : KeptActor) (u : Turn) (lines : List Record) → AreCalls lines → GoesFar n k0 k u → IsLed k.writer (calls_in lines)
    → GoesFar n k0 (kept_along k lines) (judgment_along (standing k.writer u) (calls_in lines)).turn
unfolding kept_along AreCalls calls_in IsLed judgment_along
goes_along n k0 k u [] are g led = g
goes_along n k0 k u (Call node r t ∷ rs) are g led =
    goes_along n k0 (hears k node r t) (writer_heard k.writer node (heard_of t)).turn rs are (heard_more n k0 k u node r t g led.0) led.1
goes_along n k0 k u (Late node r ∷ rs) are g led = absurd are
goes_along n k0 k u (Operator node ask done ∷ rs) are g led = absurd are
goes_along n k0 k u (Outcome text ∷ rs) are g led = absurd are

pub kept_along_is : (k : KeptActor) (u : Turn) (lines : List Record) → AreCalls lines
    → kept_along k lines ≡ record k { writer = (judgment_along (standing k.writer u) (calls_in lines)).writer; past = k.past ++ lines }
unfolding kept_along AreCalls calls_in judgment_along
kept_along_is k u [] are = ap (λ (l : List Record). record k { past = l }) (sym (append-nil k.past))
kept_along_is k u (Call node r t ∷ rs) are =
    let j : Judgment = writer_heard k.writer node (heard_of t) in
    kept_along_is (hears k node r t) j.turn rs are
    ∙ ap (λ (l : List Record). record k { writer = (judgment_along j (calls_in rs)).writer; past = l }) (append_assoc k.past (Call node r t ∷ []) rs)
kept_along_is k u (Late node r ∷ rs) are = absurd are
kept_along_is k u (Operator node ask done ∷ rs) are = absurd are
kept_along_is k u (Outcome text ∷ rs) are = absurd are

-- ## What the calls of the log lead to
module _ (begun v : WriterView) (old new : LogView) (before after : List PeerCall) (u : Turn)
    (m : MakesCalls old new) (first : before ≡ calls_in old.past) (last : after ≡ calls_in new.past)
    (l : Leads begun before after (standing v u)) where
  led_lines : IsLed begun (calls_in m.lines)
  led_lines = subst (λ (cs : List PeerCall). IsLed begun cs) (made_are old new before after l.made m first last l.grew) l.led

  stands_lines : standing v u ≡ judgment_along (keep_going begun) (calls_in m.lines)
  stands_lines = l.stands ∙ ap (λ (cs : List PeerCall). judgment_along (keep_going begun) cs) (made_are old new before after l.made m first last l.grew)

  kept_lines : (o : Option Holding) → kept_along (kept_of begun o old) m.lines ≡ kept_of v o new
  kept_lines o =
      kept_along_is (kept_of begun o old) turn.Going m.lines m.are
      ∙ ap (λ (j : Judgment). record (kept_of begun o old) { writer = j.writer; past = old.past ++ m.lines }) (sym stands_lines)
      ∙ ap (λ (p : List Record). record (kept_of v o old) { past = p }) (sym m.past)
      ∙ ap (λ (ms : List Mark). record (kept_of v o old) { past = new.past; marks = ms }) (sym m.marks)

  pub went_by : (n : ℕ) (o : Option Holding) → IsReady n begun → is_under_way begun.phase ≡ true → GoesFar n (kept_of begun o old) (kept_of v o new) u
  went_by n o ready under =
      let k : KeptActor = kept_of begun o old in
      let g : GoesFar n k (kept_along k m.lines) (judgment_along (keep_going begun) (calls_in m.lines)).turn =
      goes_along n k k turn.Going m.lines m.are (goes_begin n k ready under) led_lines in
      let turned : GoesFar n k (kept_along k m.lines) u = subst (λ (j : Judgment). GoesFar n k (kept_along k m.lines) j.turn) (sym stands_lines) g in
      subst (λ (x : KeptActor). GoesFar n k x u) (kept_lines o) turned

-- ## What a takeover tells
taken_along : (j : Judgment) (calls : List PeerCall) → TellsTaken j.turn j.writer → TellsTaken (judgment_along j calls).turn (judgment_along j calls).writer
unfolding judgment_along
taken_along j [] h = h
taken_along j (c ∷ cs) h = taken_along (writer_heard j.writer c.node c.heard) cs (heard_taken j.writer c.node c.heard)

pub taken_by : (begun v : WriterView) (before after : List PeerCall) (u : Turn) → Leads begun before after (standing v u) → TellsTaken u v
taken_by begun v before after u l =
    subst (λ (j : Judgment). TellsTaken j.turn j.writer) (sym l.stands) (taken_along (keep_going begun) l.made tt)
