-- What is known of a node that clients share, and of their sessions.
use Rattle.std.proofs.Common.{ℕ, ◌≡◌, ◌≢◌, List, [], ◌∷◌, ◌++◌, inl, inr, refl, sym, ap, ◌∙◌, subst}
use Rattle.atomic_table.specs.Seated.{TableId}
use Rattle.base_disk.specs.View.{View}
use Rattle.journal_core.specs.declared.refusal.Refusal.TheVariants.{DiskFault}
use Rattle.journal_core.specs.declared.request.Request.{Request}
use Rattle.journal_core.specs.declared.reply.Reply.{Reply}
use Rattle.journal_core.specs.declared.reply.Reply.TheVariants.{Refused}
use Rattle.disk_node.specs.Acted.{IsActed}
use Rattle.disk_node.specs.Node.{NodeParts}
use Rattle.pipe_serve.specs.declared.served.ServeEnd.{ServeEnd}
use Rattle.pipe_serve.specs.declared.session_end.SessionEnd.{SessionEnd}
use Rattle.pipe_serve.specs.declared.session_end.SessionEnd.TheVariants as session_end
use Rattle.pipe_serve.specs.Sessions.{SourceUse, SinkUse, Answered, IsAsked, AreAsked, WasAskedOrNot, EndsWith, EndsBy, IsSession}
use Rattle.pipe_serve.specs.Serving.{IsSharedAnswer}
use Rattle.pipe_serve.specs.Trails.{Line, SeatView, seat_in, IsSeatAnswer, IsAtEnds, Session, AreSessions, AreServed, IsAttended}

-- ## An answer
pub shared : {D : Type 0} (tells : D → Type 0) (view : D → View) (was_steady : Type 0) (old new : NodeParts D) (r : Request) (a : Reply) → IsActed tells view old r a new
    → (was_steady → a ≢ Refused DiskFault) → IsSharedAnswer tells view was_steady r a
shared tells view was_steady old new r a h steady = record { old = old; new = new; acted = h; steady = steady }

pub ruleset answers = (shared)

-- ## A client's sessions
-- one that ends with a fault of the disk heard of one, which a steady disk hasn't
unsteady : {D : Type 0} (tells : D → Type 0) (view : D → View) (was_steady : Type 0) (end : SessionEnd) (old new : SeatView) (source : SourceUse) (sink : SinkUse)
    → IsSession (IsSeatAnswer (IsSharedAnswer tells view was_steady)) end old new source sink → end ≡ session_end.DiskFault → was_steady → ⊥
unsteady tells view was_steady session_end.Over old new source sink h e s = absurd (cc e)
unsteady tells view was_steady session_end.DiskFault old new source sink h e s = h.ends.ends.asked.asked.fits.steady s refl
unsteady tells view was_steady session_end.OutOfMemory old new source sink h e s = absurd (cc e)

pub never_told : {D : Type 0} (tells : D → Type 0) (view : D → View) (was_steady : Type 0) (end : SessionEnd) (told : ServeEnd) (old new : SeatView) (source : SourceUse) (sink : SinkUse)
    → IsSession (IsSeatAnswer (IsSharedAnswer tells view was_steady)) end old new source sink → end ≡ session_end.DiskFault → was_steady → told ≢ told
never_told tells view was_steady end told old new source sink h e s = λ _. unsteady tells view was_steady end old new source sink h e s

module _ (Fits : Request → Reply → Type 0) where
  abbrev Asked : SeatView → Request → Reply → SeatView → Type 0
  Asked = IsSeatAnswer Fits

  -- it is the client's, at the gate
  abbrev IsOwn : SeatView → SeatView → Type 0
  IsOwn old new = (new.table ≡ old.table) × (new.client ≡ old.client)

  own_on : (a b c : SeatView) → IsOwn a b → IsOwn b c → IsOwn a c
  own_on a b c h k = (k.0 ∙ h.0, k.1 ∙ h.1)

  own_same : (a b : SeatView) → b ≡ a → IsOwn a b
  own_same a b e = (ap (λ (v : SeatView). v.table) e, ap (λ (v : SeatView). v.client) e)

  own_asked : (text : List ℕ) (reply : Reply) (old new : SeatView) → IsAsked Asked text reply old new → IsOwn old new
  own_asked text reply old new h = (h.asked.table, h.asked.client)

  own_all : (calls : List Answered) (old new : SeatView) → AreAsked Asked calls old new → IsOwn old new
  own_all [] old new h = own_same old new h
  own_all (c ∷ calls) old new h = own_on old h.0 new (own_asked c.text c.reply old h.0 h.1.asked) (own_all calls h.0 new h.2)

  own_with : (end : SessionEnd) (line : List ℕ) (old new : SeatView) (part : List ℕ) (sink : SinkUse) → EndsWith Asked end line old new part sink → IsOwn old new
  own_with session_end.Over line old new part sink (inl h) = own_same old new h.same
  own_with session_end.Over line old new part sink (inr h) = own_asked h.answered.text h.answered.reply old new h.asked.asked
  own_with session_end.DiskFault line old new part sink h = own_asked h.text (Refused DiskFault) old new h.asked
  own_with session_end.OutOfMemory line old new part sink h = own_or old new h.asked
    where
      own_or : (old new : SeatView) → WasAskedOrNot Asked old new → IsOwn old new
      own_or old new (inl e) = own_same old new e
      own_or old new (inr h) = own_asked h.0 h.1 old new h.2

  own_end : (end : SessionEnd) (calls : List Answered) (rest : List ℕ) (old new : SeatView) (part : List ℕ) (source : SourceUse) (sink : SinkUse)
      → EndsBy Asked end calls rest old new part source sink → IsOwn old new
  own_end session_end.Over calls rest old new part source sink (inl h) = own_same old new h.same
  own_end session_end.Over calls rest old new part source sink (inr (inl h)) = own_same old new h.same
  own_end session_end.Over calls rest old new part source sink (inr (inr (inl h))) = own_with session_end.Over h.line old new part sink h.ends
  own_end session_end.Over calls rest old new part source sink (inr (inr (inr h))) = own_same old new h.same
  own_end session_end.DiskFault calls rest old new part source sink h = own_with session_end.DiskFault h.line old new part sink h.ends
  own_end session_end.OutOfMemory calls rest old new part source sink h = own_with session_end.OutOfMemory [] old new part sink h

  own_session : (end : SessionEnd) (old new : SeatView) (source : SourceUse) (sink : SinkUse) → IsSession Asked end old new source sink → IsOwn old new
  own_session end old new source sink h = own_on old h.node new (own_all h.calls old h.node h.are) (own_end end h.calls h.rest h.node new h.part source sink h.ends)

  module _ (At : SourceUse → SinkUse → Type 0) where
    own_sessions : (sessions : List Session) (old new : SeatView) → AreSessions Asked At sessions old new → IsOwn old new
    own_sessions [] old new h = own_same old new h
    own_sessions (s ∷ sessions) old new h = own_on old h.0 new (own_session s.end old h.0 s.source s.sink h.2) (own_sessions sessions h.0 new h.3)

    -- ## One after the other
    pub served_none : (v : SeatView) → AreServed Asked At v v
    served_none v = record { sessions = []; are = refl }

    pub served_one : (end : SessionEnd) (old new : SeatView) (source : SourceUse) (sink : SinkUse) → At source sink → IsSession Asked end old new source sink → AreServed Asked At old new
    served_one end old new source sink at h = record { sessions = record { end = end; source = source; sink = sink } ∷ []; are = (new, at, h, refl) }

    sessions_on : (xs ys : List Session) (old mid new : SeatView) → AreSessions Asked At xs old mid → AreSessions Asked At ys mid new → AreSessions Asked At (xs ++ ys) old new
    sessions_on [] ys old mid new h k = subst (λ (v : SeatView). AreSessions Asked At ys v new) h k
    sessions_on (x ∷ xs) ys old mid new h k = (h.0, h.1, h.2, sessions_on xs ys h.0 mid new h.3 k)

    pub served_on : (old mid new : SeatView) → AreServed Asked At old mid → AreServed Asked At mid new → AreServed Asked At old new
    served_on old mid new h k = record { sessions = h.sessions ++ k.sessions; are = sessions_on h.sessions k.sessions old mid new h.are k.are }

    pub attended : (table its_table : TableId) (client its_client faults : ℕ) (before seen : List Line) (old new : SeatView) → before ≡ [] → old ≡ seat_in table client before 0
        → new ≡ seat_in its_table its_client seen faults → AreServed Asked At old new → IsAttended Fits At table client its_table its_client seen
    attended table its_table client its_client faults before seen old new none was is h =
        let fresh : old ≡ seat_in table client [] 0 = was ∙ ap (λ (l : List Line). seat_in table client l 0) none in
        let own = own_sessions h.sessions old new h.are in
        record {
          own = sym (ap (λ (v : SeatView). v.table) is) ∙ own.0 ∙ ap (λ (v : SeatView). v.table) fresh;
          its = sym (ap (λ (v : SeatView). v.client) is) ∙ own.1 ∙ ap (λ (v : SeatView). v.client) fresh;
          faults = faults;
          served = subst (λ (v : SeatView). AreServed Asked At v (seat_in its_table its_client seen faults)) fresh (subst (λ (v : SeatView). AreServed Asked At old v) is h);
        }

-- a session over pipes that were opened so
pub served_at : {S K : Type 0} (Fits : Request → Reply → Type 0) (AreOf : S → K → Type 0) (read : S → S → SourceUse) (written : K → K → SinkUse) (end : SessionEnd) (old new : SeatView)
    (s t : S) (k l : K) → AreOf s k → IsSession (IsSeatAnswer Fits) end old new (read s t) (written k l) → AreServed (IsSeatAnswer Fits) (IsAtEnds AreOf read written) old new
served_at Fits AreOf read written end old new s t k l opened h =
    served_one Fits (IsAtEnds AreOf read written) end old new (read s t) (written k l)
    (record { source_then = s; source_now = t; sink_then = k; sink_now = l; opened = opened; read_so = refl; written_so = refl }) h

-- it ended somehow
pub some_session : {N : Type 0} (Asked : N → Request → Reply → N → Type 0) (end : SessionEnd) (old new : N) (source : SourceUse) (sink : SinkUse) → IsSession Asked end old new source sink
    → (e : SessionEnd) × IsSession Asked e old new source sink
some_session Asked end old new source sink h = (end, h)

pub ruleset sessions = (some_session)

pub ruleset served = (served_none, served_on)
