-- The calls of a record: those of two stretches of it, and a stretch of calls alone.
use Rattle.std.proofs.Common.{◌≡◌, ℕ, List, [], ◌∷◌, ◌++◌, refl, sym, ap, ◌∙◌, append_assoc, append-nil}
use Rattle.std.specs.Prelude.{Result, Ok, Err, IfOk, OnErr}
use Rattle.std.specs.declared.alloc.AllocError.{AllocError}
use Rattle.std.proofs.lemmas.List.{append_cancel_left}
use Rattle.journal_core.specs.declared.request.Request.{Request}
use Rattle.journal_core.specs.declared.heard.Heard.{Heard}
use Rattle.journal_core.specs.declared.peer_call.PeerCall.{PeerCall}
use Rattle.journal_core.specs.Peers.{Lists}
use Rattle.journal_history.specs.declared.record.Record.{Record}
use Rattle.journal_history.specs.declared.record.Record.TheVariants.{Call, Late, Operator, Outcome}
use Rattle.mesh.specs.Makers.{heard_of}
use Rattle.play_calls.specs.Logs.{LogView, IsCalled, calls_in}
use Rattle.play_calls.specs.Made.{AreCalls, MakesCalls}

pub calls_append : (xs ys : List Record) → calls_in (xs ++ ys) ≡ calls_in xs ++ calls_in ys
unfolding calls_in
calls_append [] ys = refl
calls_append (Call node r t ∷ rs) ys = ap (λ (l : List PeerCall). record { node = node; request = r; heard = heard_of t } ∷ l) (calls_append rs ys)
calls_append (Late node r ∷ rs) ys = calls_append rs ys
calls_append (Operator node ask done ∷ rs) ys = calls_append rs ys
calls_append (Outcome text ∷ rs) ys = calls_append rs ys

calls_on : (xs ys : List Record) → AreCalls xs → AreCalls ys → AreCalls (xs ++ ys)
unfolding AreCalls
calls_on [] ys g h = h
calls_on (Call node r t ∷ xs) ys g h = calls_on xs ys g h
calls_on (Late node r ∷ xs) ys g h = absurd g
calls_on (Operator node ask done ∷ xs) ys g h = absurd g
calls_on (Outcome text ∷ xs) ys g h = absurd g

-- ## Calls that were listed
pub makes_none : (l : LogView) → MakesCalls l l
unfolding AreCalls
makes_none l = record { nodes = refl; marks = refl; lines = []; are = tt; past = sym (append-nil l.past) }

pub makes_on : (r s t : LogView) → MakesCalls r s → MakesCalls s t → MakesCalls r t
makes_on r s t a b = record {
  nodes = b.nodes ∙ a.nodes;
  marks = b.marks ∙ a.marks;
  lines = a.lines ++ b.lines;
  are = calls_on a.lines b.lines a.are b.are;
  past = b.past ∙ ap (λ (ps : List Record). ps ++ b.lines) a.past ∙ append_assoc r.past a.lines b.lines;
}

pub makes_one : (old new : LogView) (node : ℕ) (r : Request) (heard : Heard) → IsCalled old node r heard new → MakesCalls old new
unfolding AreCalls
makes_one old new node r heard c = record {
  nodes = ap (λ (l : LogView). l.nodes) c.listed;
  marks = ap (λ (l : LogView). l.marks) c.listed;
  lines = Call node r c.told ∷ [];
  are = tt;
  past = ap (λ (l : LogView). l.past) c.listed;
}

pub one_listed : (old new : LogView) (node : ℕ) (r : Request) (heard : Heard) → IsCalled old node r heard new
    → calls_in new.past ≡ calls_in old.past ++ record { node = node; request = r; heard = heard } ∷ []
unfolding calls_in
one_listed old new node r heard c =
    ap (λ (l : LogView). calls_in l.past) c.listed
    ∙ calls_append old.past (Call node r c.told ∷ [])
    ∙ ap (λ (h : Heard). calls_in old.past ++ record { node = node; request = r; heard = h } ∷ []) (sym c.hears)

-- ## What a call through seats comes to
pub lists_called : (old new : LogView) (node : ℕ) (r : Request) (res : Result Heard AllocError) → IfOk res (λ heard. IsCalled old node r heard new)
    → OnErr res (new.past ≡ old.past) → Lists (calls_in old.past) node r res (calls_in new.past)
lists_called old new node r (Ok heard) called e = one_listed old new node r heard called
lists_called old new node r (Err x) called e = ap calls_in e

-- the calls that were listed are those that the list has more
pub made_are : (old new : LogView) (before after made : List PeerCall) (m : MakesCalls old new) → before ≡ calls_in old.past → after ≡ calls_in new.past
    → after ≡ before ++ made → made ≡ calls_in m.lines
made_are old new before after made m first last grew =
    append_cancel_left (calls_in old.past) made (calls_in m.lines)
    (ap (λ (l : List PeerCall). l ++ made) (sym first) ∙ sym grew ∙ last ∙ ap calls_in m.past ∙ calls_append old.past m.lines)

-- ## A stretch of calls is cut where its list of calls is
pub record Cut (lines : List Record) (xs ys : List PeerCall) : Type 0 where
  pub first : List Record
  pub rest : List Record
  pub is : lines ≡ first ++ rest
  pub first_are : AreCalls first
  pub rest_are : AreCalls rest
  pub first_calls : calls_in first ≡ xs
  pub rest_calls : calls_in rest ≡ ys

pub calls_split : (lines : List Record) (xs ys : List PeerCall) → AreCalls lines → calls_in lines ≡ xs ++ ys → Cut lines xs ys
unfolding AreCalls calls_in
calls_split lines [] ys are e = record { first = []; rest = lines; is = refl; first_are = tt; rest_are = are; first_calls = refl; rest_calls = e }
calls_split [] (c ∷ xs) ys are e = absurd (cc e)
calls_split (Call node r t ∷ lines) (c ∷ xs) ys are e =
    let head : record { node = node; request = r; heard = heard_of t } ≡ c = cc e in
    let tail : calls_in lines ≡ xs ++ ys = cc e in
    let k : Cut lines xs ys = calls_split lines xs ys are tail in
    record {
      first = Call node r t ∷ k.first;
      rest = k.rest;
      is = ap (λ (l : List Record). Call node r t ∷ l) k.is;
      first_are = k.first_are;
      rest_are = k.rest_are;
      first_calls = ap (λ (x : PeerCall). x ∷ calls_in k.first) head ∙ ap (λ (l : List PeerCall). c ∷ l) k.first_calls;
      rest_calls = k.rest_calls;
    }
calls_split (Late node r ∷ lines) (c ∷ xs) ys are e = absurd are
calls_split (Operator node ask done ∷ lines) (c ∷ xs) ys are e = absurd are
calls_split (Outcome text ∷ lines) (c ∷ xs) ys are e = absurd are

-- where no call was made nothing was listed
none_listed : (lines : List Record) → AreCalls lines → calls_in lines ≡ [] → lines ≡ []
unfolding AreCalls calls_in
none_listed [] are e = refl
none_listed (Call node r t ∷ rs) are e = absurd (cc e)
none_listed (Late node r ∷ rs) are e = absurd are
none_listed (Operator node ask done ∷ rs) are e = absurd are
none_listed (Outcome text ∷ rs) are e = absurd are

pub nothing_made : (old new : LogView) (before after : List PeerCall) → MakesCalls old new → before ≡ calls_in old.past → after ≡ calls_in new.past
    → after ≡ before → new.past ≡ old.past
nothing_made old new before after m first last same =
    let grew : after ≡ before ++ [] = same ∙ sym (append-nil before) in
    let none : calls_in m.lines ≡ [] = sym (made_are old new before after [] m first last grew) in
    m.past ∙ ap (λ (l : List Record). old.past ++ l) (none_listed m.lines m.are none) ∙ append-nil old.past

-- ## A log is cut where its list of calls is
pub record CutsLog (old new : LogView) (mid : List PeerCall) : Type 0 where
  pub log : LogView
  pub first : MakesCalls old log
  pub rest : MakesCalls log new
  pub calls : mid ≡ calls_in log.past

pub cut_log : (old new : LogView) (before mid after xs ys : List PeerCall) → MakesCalls old new → before ≡ calls_in old.past → after ≡ calls_in new.past
    → mid ≡ before ++ xs → after ≡ mid ++ ys → CutsLog old new mid
cut_log old new before mid after xs ys m start end e f =
    let grew : after ≡ before ++ (xs ++ ys) = f ∙ ap (λ (l : List PeerCall). l ++ ys) e ∙ append_assoc before xs ys in
    let cut : Cut m.lines xs ys = calls_split m.lines xs ys m.are (sym (made_are old new before after (xs ++ ys) m start end grew)) in
    record {
      log = record old { past = old.past ++ cut.first };
      first = record { nodes = refl; marks = refl; lines = cut.first; are = cut.first_are; past = refl };
      rest = record {
        nodes = m.nodes;
        marks = m.marks;
        lines = cut.rest;
        are = cut.rest_are;
        past = m.past ∙ ap (λ (l : List Record). old.past ++ l) cut.is ∙ sym (append_assoc old.past cut.first cut.rest);
      };
      calls = e ∙ ap (λ (l : List PeerCall). l ++ xs) start ∙ ap (λ (l : List PeerCall). calls_in old.past ++ l) (sym cut.first_calls) ∙ sym (calls_append old.past cut.first);
    }
