-- Lists of calls: what those of two stretches told and gave.
use Rattle.std.proofs.Common.{◌≡◌, ℕ, List, [], ◌∷◌, ◌++◌, All, refl, sym, ap, ◌∙◌, append_assoc, append-nil}
use Rattle.std.proofs.lemmas.Grind.{flat_map-append}
use Rattle.std.proofs.lemmas.List.Elements.{All-nil, All-cons, All-append, Contains-append_left, Contains-append_right}
use Rattle.journal_core.specs.Laws.{IsQuestion}
use Rattle.journal_core.specs.declared.heard.Heard.{Heard}
use Rattle.journal_core.specs.declared.peer_call.PeerCall.{PeerCall}
use Rattle.journal_core.specs.declared.request.Request.TheVariants.{Read}
use Rattle.writer_core.specs.declared.cause.Cause.{Cause}
use Rattle.writer_calls.specs.declared.told.NodeTold.{NodeTold}
use Rattle.writer_calls.specs.declared.told.ToldLine.{ToldLine}
use Rattle.writer_calls.specs.Told.{lines_in_call, lines_told, told_in_call, nodes_told}
use Rattle.writer_calls.specs.Fetching.{call_of, IsGiven, IsStopped, AreReads, MakesReads}

pub lines_append : (xs ys : List PeerCall) → lines_told (xs ++ ys) ≡ lines_told xs ++ lines_told ys
lines_append xs ys = flat_map-append (λ (c : PeerCall). lines_in_call c.node c.request c.heard) xs ys

pub nodes_append : (xs ys : List PeerCall) → nodes_told (xs ++ ys) ≡ nodes_told xs ++ nodes_told ys
nodes_append xs ys = flat_map-append (λ (c : PeerCall). told_in_call c.node c.request c.heard) xs ys

-- ## What a longer list gives too
pub given_left : (node : ℕ) (xs ys : List PeerCall) (txid : ℕ) (body : List ℕ) → IsGiven node xs txid body → IsGiven node (xs ++ ys) txid body
given_left node xs ys txid body h = record { from = h.from; batch = h.batch; call = Contains-append_left xs ys _ h.call; has = h.has }

pub given_right : (node : ℕ) (xs ys : List PeerCall) (txid : ℕ) (body : List ℕ) → IsGiven node ys txid body → IsGiven node (xs ++ ys) txid body
given_right node xs ys txid body h = record { from = h.from; batch = h.batch; call = Contains-append_right xs ys _ h.call; has = h.has }

pub stopped_left : (node start end : ℕ) (xs ys : List PeerCall) (cause : Cause) → IsStopped node start end xs cause → IsStopped node start end (xs ++ ys) cause
stopped_left node start end xs ys cause h =
    record { from = h.from; heard = h.heard; call = Contains-append_left xs ys _ h.call; low = h.low; high = h.high; none = h.none; cause_is = h.cause_is }

pub stopped_right : (node start end : ℕ) (xs ys : List PeerCall) (cause : Cause) → IsStopped node start end ys cause → IsStopped node start end (xs ++ ys) cause
stopped_right node start end xs ys cause h =
    record { from = h.from; heard = h.heard; call = Contains-append_right xs ys _ h.call; low = h.low; high = h.high; none = h.none; cause_is = h.cause_is }

-- ## Questions
pub questions_on : (xs ys : List PeerCall) → All (λ c. IsQuestion c.request) xs → All (λ c. IsQuestion c.request) ys → All (λ c. IsQuestion c.request) (xs ++ ys)
questions_on xs ys h k = All-append (λ (c : PeerCall). IsQuestion c.request) xs ys h k

pub no_reads : AreReads []
no_reads = record { questions = All-nil (λ (c : PeerCall). IsQuestion c.request); no_lines = refl; no_nodes = refl }

pub one_read : (node from : ℕ) (heard : Heard) → AreReads (call_of node (Read from) heard ∷ [])
one_read node from heard = record {
  questions = All-cons (λ (c : PeerCall). IsQuestion c.request) (call_of node (Read from) heard) [] tt (All-nil (λ (c : PeerCall). IsQuestion c.request));
  no_lines = refl;
  no_nodes = refl;
}

pub reads_on : (xs ys : List PeerCall) → AreReads xs → AreReads ys → AreReads (xs ++ ys)
reads_on xs ys h k = record {
  questions = questions_on xs ys h.questions k.questions;
  no_lines = lines_append xs ys ∙ ap (λ (ls : List ToldLine). ls ++ lines_told ys) h.no_lines ∙ k.no_lines;
  no_nodes = nodes_append xs ys ∙ ap (λ (ns : List (ℕ × NodeTold)). ns ++ nodes_told ys) h.no_nodes ∙ k.no_nodes;
}

abbrev pub made_none : (calls : List PeerCall) → MakesReads calls calls
made_none calls = record { added = []; calls = sym (append-nil calls); reads = no_reads }

abbrev pub made_on : (a b c : List PeerCall) → MakesReads a b → MakesReads b c → MakesReads a c
made_on a b c h k = record {
  added = h.added ++ k.added;
  calls = k.calls ∙ ap (λ (cs : List PeerCall). cs ++ k.added) h.calls ∙ append_assoc a h.added k.added;
  reads = reads_on h.added k.added h.reads k.reads;
}

abbrev pub made_one : (node from : ℕ) (heard : Heard) (before after : List PeerCall) → after ≡ before ++ call_of node (Read from) heard ∷ [] → MakesReads before after
made_one node from heard before after e = record { added = call_of node (Read from) heard ∷ []; calls = e; reads = one_read node from heard }

pub made_same : (before after : List PeerCall) → after ≡ before → MakesReads before after
made_same before after e = record { added = []; calls = e ∙ sym (append-nil before); reads = no_reads }
