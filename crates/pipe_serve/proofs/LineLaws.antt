-- One line of a session.
use Rattle.std.proofs.Common.{ℕ, ◌≡◌, List, [], Option, Some, None, inl, inr, refl, sym, subst}
use Rattle.std.specs.Prelude.{take, length, Result, Ok, Err, OnOk}
use Rattle.std.specs.Io.KnownBytes.{Appends}
use Rattle.std.proofs.KnownBytes.{Appends-nil}
use Rattle.std.proofs.Math.Seq.{take-length}
use Rattle.base_outside.specs.Faults.{Rose, CountsFaults}
use Rattle.base_outside.specs.Whole.{TakesFront}
use Rattle.journal_core.specs.declared.request.Request.{Request}
use Rattle.journal_core.specs.declared.reply.Reply.{Reply}
use Rattle.journal_text.specs.Reading.{reading_of}
use Rattle.journal_text.specs.declared.request_line.ReadRequest.TheVariants.{Read, Bad}
use Rattle.disk_node.specs.Node.{IsNoFault}
use Rattle.pipe_seats.specs.Tagged.{IsTagged, tagged}
use Rattle.pipe_serve.specs.declared.session_end.SessionEnd.{SessionEnd}
use Rattle.pipe_serve.specs.declared.session_end.SessionEnd.TheVariants as session_end
use Rattle.pipe_serve.specs.Sessions.{SinkUse, reply_line, refusal, Tells, IsAsked, IsFaultOf, IsServed}

-- nothing is told, and nothing was written
pub told_none : (b : Option (List ℕ)) (k : ℕ) → Tells [] (record { had = b; has = b; before = k; now = k })
told_none b k = record { part = []; written = Appends-nil b; said = (0, refl); whole = inl refl }

-- a text was written, or that failed
pub told_all : {E : Type 0} (r : Result (Unit {0}) E) (bytes : List ℕ) (had has : Option (List ℕ)) (before now : ℕ) → OnOk r (Appends had has bytes) → TakesFront had has bytes
    → CountsFaults before now r → Tells bytes (record { had = had; has = has; before = before; now = now })
told_all (Ok done) bytes had has before now all front cause = record { part = bytes; written = all; said = (length bytes, sym (take-length bytes)); whole = inl refl }
told_all (Err fail) bytes had has before now all front cause = record { part = take front.0 bytes; written = front.1; said = (front.0, refl); whole = inr cause.failed }

pub ruleset unsaid = (told_none, told_all)

module _ {N : Type 0} (Asked : N → Request → Reply → N → Type 0) where
  -- ## It isn't asked
  pub turned_away : (line : List ℕ) (n : N) (sink : SinkUse) → (IsTagged line → ⊥) → Tells refusal sink → IsServed Asked (Some session_end.Over) line n n sink
  turned_away line n sink none told =
      record { part = told.part; written = told.written; ends = inl (record { no_call = inl none; same = refl; said = told.said; whole = told.whole }) }

  pub turned_away_text : (line text : List ℕ) (life call rule : ℕ) (n : N) (sink : SinkUse) → line ≡ tagged life call text → reading_of text ≡ Bad rule → Tells refusal sink
      → IsServed Asked (Some session_end.Over) line n n sink
  turned_away_text line text life call rule n sink is bad told =
      record { part = told.part; written = told.written; ends = inl (record { no_call = inr (life, call, text, rule, is, bad); same = refl; said = told.said; whole = told.whole }) }

  pub forgotten_unasked : (line : List ℕ) (n : N) (sink : SinkUse) → Appends sink.had sink.has [] → IsServed Asked (Some session_end.OutOfMemory) line n n sink
  forgotten_unasked line n sink none = record { part = []; written = none; ends = record { asked = inl refl; said = refl } }

  -- ## It is asked
  module _ (life call : ℕ) (text : List ℕ) (r : Request) (reply : Reply) (old new : N) (sink : SinkUse) (reads : reading_of text ≡ Read r) (asked : Asked old r reply new) where
    it : IsAsked Asked text reply old new
    it = record { request = r; reads = reads; asked = asked }

    pub asked_forgotten : Appends sink.had sink.has [] → IsServed Asked (Some session_end.OutOfMemory) (tagged life call text) old new sink
    asked_forgotten none = record { part = []; written = none; ends = record { asked = inr (text, reply, it); said = refl } }

    pub asked_fault : (end : SessionEnd) → IsFaultOf end reply → Appends sink.had sink.has [] → IsServed Asked (Some end) (tagged life call text) old new sink
    asked_fault session_end.Over is none = absurd is
    asked_fault session_end.DiskFault is none = record {
      part = [];
      written = none;
      ends = record { life = life; call = call; text = text; is = refl; asked = subst (λ (a : Reply). IsAsked Asked text a old new) is it; said = refl };
    }
    asked_fault session_end.OutOfMemory is none = asked_forgotten none

    pub asked_unwritten : (bytes : List ℕ) → IsNoFault reply → bytes ≡ reply_line life call reply → TakesFront sink.had sink.has bytes → Rose sink.before sink.now
        → IsServed Asked (Some session_end.Over) (tagged life call text) old new sink
    asked_unwritten bytes fine is front rose = record {
      part = take front.0 bytes;
      written = front.1;
      ends = inr (record {
        answered = record { life = life; call = call; text = text; reply = reply };
        is = refl;
        asked = record { asked = it; fine = fine };
        said = subst (λ (l : List ℕ). (n : ℕ) × (take front.0 bytes ≡ take n l)) is (front.0, refl);
        fault = rose;
      });
    }

    pub asked_well : (bytes : List ℕ) → IsNoFault reply → bytes ≡ reply_line life call reply → Appends sink.had sink.has bytes → sink.now ≡ sink.before
        → IsServed Asked None (tagged life call text) old new sink
    asked_well bytes fine is written whole = record {
      answered = record { life = life; call = call; text = text; reply = reply };
      is = refl;
      asked = record { asked = it; fine = fine };
      written = subst (λ (l : List ℕ). Appends sink.had sink.has l) is written;
      whole = whole;
    }

  -- the line is the call's
  pub served_as : (of : Option SessionEnd) (line said : List ℕ) (old new : N) (sink : SinkUse) → line ≡ said → IsServed Asked of said old new sink → IsServed Asked of line old new sink
  served_as of line said old new sink is h = subst (λ (l : List ℕ). IsServed Asked of l old new sink) (sym is) h

pub ruleset serves = (turned_away, turned_away_text, forgotten_unasked, asked_forgotten, asked_fault, asked_unwritten, asked_well, served_as, Appends-nil)
