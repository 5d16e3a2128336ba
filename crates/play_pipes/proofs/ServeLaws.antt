-- What a worker did so far, call by call.
use Rattle.std.proofs.Common.{◌≡◌, true, false, List, [], ◌∷◌, ◌++◌, length, sym, ap, ◌∙◌, arith, length-append, append-nil}
use Rattle.std.proofs.lemmas.List.{append_assoc, length-map, map-append}
use Rattle.atomic_table.specs.Seated.{TableId}
use Rattle.crossbeam_queue.specs.Passes.{view}
use Rattle.journal_core.specs.declared.request.Request.{Request}
use Rattle.play_pipes.specs.declared.queue.Log.{Log}
use Rattle.play_pipes.specs.declared.ask.Ask.{Ask}
use Rattle.play_pipes.specs.declared.ask.Ask.TheVariants.{Call, Close}
use Rattle.play_pipes.specs.Calls.{Calls, Answer, call_of, calls_of}
use Rattle.play_pipes.specs.Relay.{log, no_source, source_of, id_of}
use Rattle.play_pipes.specs.Answered.{AnsweredView, answers_of, IsReceipted}
use Rattle.play_pipes.specs.Served.{asked, Serving, Served}
use Rattle.play_pipes.proofs.CallLaws.{asked_call, asked_close}

calls_last : (rs : List Request) (answers : List Answer) (r : Request) (a : Answer) → length rs ≡ length answers → calls_of (rs ++ r ∷ []) (answers ++ a ∷ []) ≡ calls_of rs answers ++ call_of r a
calls_last [] [] r a e = append-nil (call_of r a)
calls_last [] (b ∷ answers) r a e = absurd (omega (arith, e))
calls_last (q ∷ rs) [] r a e = absurd (omega (arith, e))
calls_last (q ∷ rs) (b ∷ answers) r a e = ap (λ l. call_of q b ++ l) (calls_last rs answers r a (omega (arith, e))) ∙ sym (append_assoc (call_of q b) (calls_of rs answers) (call_of r a))

pub answers_more : (xs : List AnsweredView) (x : AnsweredView) → answers_of (xs ++ x ∷ []) ≡ answers_of xs ++ x.answer ∷ []
answers_more xs x = map-append (λ (a : AnsweredView). a.answer) xs (x ∷ [])

pub answers_long : (xs : List AnsweredView) → length (answers_of xs) ≡ length xs
answers_long xs = length-map xs (λ (a : AnsweredView). a.answer)

pub serving_first : (asks : TableId) (before : Calls) (t : Log Ask) (g : Log AnsweredView) → t ≡ log false true [] [] no_source [] → g ≡ log true false [] [] (source_of asks) []
    → Serving asks before t g before
serving_first asks before t g et eg =
    let x : t.got ≡ [] = ap (λ v. v.got) et in
    let y : g.sent ≡ [] = ap (λ v. v.sent) eg in
    record {
      pops = ap (λ v. v.pops) et;
      pushes = ap (λ v. v.pushes) eg;
      source = ap (λ v. v.source) eg;
      even = ap length x ∙ sym (ap length y);
      whole = ap (λ l. length (asked l)) x ∙ sym (ap length x);
      calls = sym (ap (λ l. before ++ l) (ap (λ l. calls_of (asked l) (answers_of g.sent)) x) ∙ append-nil before);
    }

-- the answer may stand at its place
pub receipted : (asks : TableId) (before mid : Calls) (t t' : Log Ask) (g : Log AnsweredView) (r : Request) (a : AnsweredView) → Serving asks before t g mid
    → t' ≡ log t.pushes t.pops t.sent (t.got ++ Call r ∷ []) t.source t.known → a.receipt.table_id ≡ asks → view a.receipt ≡ log false false [] [] no_source t'.got
    → IsReceipted g.source (length g.sent) a
receipted asks before mid t t' g r a s et own seen =
    let x : t'.got ≡ t.got ++ Call r ∷ [] = ap (λ v. v.got) et in
    let k : (view a.receipt).known ≡ t'.got = ap (λ v. v.known) seen in
    let lx = length-append t.got (Call r ∷ []) in
    let nx = ap length x in
    let nk = ap length k in
    let even = s.even in
    (own ∙ sym (ap id_of s.source), omega (arith, lx, nx, nk, even))

pub serving_next : (asks : TableId) (before mid after : Calls) (t t' t'' : Log Ask) (g g' : Log AnsweredView) (r : Request) (a : AnsweredView)
    → Serving asks before t g mid → t' ≡ log t.pushes t.pops t.sent (t.got ++ Call r ∷ []) t.source t.known → t'' ≡ t' → g' ≡ log g.pushes g.pops (g.sent ++ a ∷ []) g.got g.source g.known
    → after ≡ mid ++ call_of r a.answer → Serving asks before t'' g' after
serving_next asks before mid after t t' t'' g g' r a s et same eg e =
    let x : t''.got ≡ t.got ++ Call r ∷ [] = ap (λ v. v.got) same ∙ ap (λ v. v.got) et in
    let y : g'.sent ≡ g.sent ++ a ∷ [] = ap (λ v. v.sent) eg in
    let z : asked t''.got ≡ asked t.got ++ r ∷ [] = ap asked x ∙ asked_call t.got r in
    let w : answers_of g'.sent ≡ answers_of g.sent ++ a.answer ∷ [] = ap answers_of y ∙ answers_more g.sent a in
    let lx = length-append t.got (Call r ∷ []) in
    let ly = length-append g.sent (a ∷ []) in
    let lz = length-append (asked t.got) (r ∷ []) in
    let nx = ap length x in
    let ny = ap length y in
    let nz = ap length z in
    let even = s.even in
    let whole = s.whole in
    let level : length (asked t.got) ≡ length (answers_of g.sent) = whole ∙ even ∙ sym (answers_long g.sent) in
    record {
      pops = ap (λ v. v.pops) same ∙ ap (λ v. v.pops) et ∙ s.pops;
      pushes = ap (λ v. v.pushes) eg ∙ s.pushes;
      source = ap (λ v. v.source) eg ∙ s.source;
      even = omega (arith, lx, ly, nx, ny, even);
      whole = omega (arith, lx, lz, nx, nz, whole);
      calls =
          e ∙ ap (λ l. l ++ call_of r a.answer) s.calls ∙ append_assoc before (calls_of (asked t.got) (answers_of g.sent)) (call_of r a.answer)
          ∙ ap (λ l. before ++ l) (sym (ap (λ l. calls_of l (answers_of g'.sent)) z ∙ ap (calls_of (asked t.got ++ r ∷ [])) w ∙ calls_last (asked t.got) (answers_of g.sent) r a.answer level));
    }

pub served_last : (asks : TableId) (before mid : Calls) (t t' : Log Ask) (g : Log AnsweredView) → Serving asks before t g mid
    → t' ≡ log t.pushes t.pops t.sent (t.got ++ Close ∷ []) t.source t.known → Served before t' g mid
served_last asks before mid t t' g s et =
    let x : t'.got ≡ t.got ++ Close ∷ [] = ap (λ v. v.got) et in
    let z : asked t'.got ≡ asked t.got = ap asked x ∙ asked_close t.got in
    let lx = length-append t.got (Close ∷ []) in
    let nx = ap length x in
    let even = s.even in
    record {
      pops = ap (λ v. v.pops) et ∙ s.pops;
      pushes = s.pushes;
      closed = omega (arith, lx, nx, even);
      calls = s.calls ∙ ap (λ l. before ++ l) (sym (ap (λ l. calls_of l (answers_of g.sent)) z));
    }
