-- The caller's end of a pipe, call by call.
use Rattle.std.proofs.Common.{◌≡◌, ℕ, zero, suc, ◌≤◌, true, false, List, [], ◌∷◌, ◌++◌, length, drop, refl, sym, ap, ◌∙◌, subst, arith, length-append, length-drop, append-nil}
use Rattle.std.specs.Prelude.{IfOk}
use Rattle.std.proofs.lemmas.List.{map-append}
use Rattle.journal_core.specs.Peers.{FitsHeard}
use Rattle.atomic_table.specs.Seated.{TableId}
use Rattle.crossbeam_queue.specs.Passes.{Pass, view}
use Rattle.journal_core.specs.declared.request.Request.{Request}
use Rattle.play_pipes.specs.declared.queue.Log.{Log}
use Rattle.play_pipes.specs.declared.ask.Ask.{Ask}
use Rattle.play_pipes.specs.declared.ask.Ask.TheVariants.{Call, Close}
use Rattle.play_pipes.specs.Calls.{Calls, Start, Answer, call_of, calls_of}
use Rattle.play_pipes.specs.Relay.{log, no_source, source_of, Begins}
use Rattle.play_pipes.specs.Answered.{AnsweredView, answers_of}
use Rattle.play_pipes.specs.Served.{asked, Served}
use Rattle.play_pipes.specs.Ends.{put_one, told_one, end_seen, IsTied}
use Rattle.play_pipes.proofs.CallLaws.{asked_call, calls_ahead, calls_told, settled}
use Rattle.play_pipes.proofs.ServeLaws.{answers_more, answers_long}

drop_end : {A : Type 0} (xs ys : List A) (n : ℕ) → n ≤ length xs → drop n xs ≡ [] → drop n (xs ++ ys) ≡ ys
drop_end [] ys zero le e = refl
drop_end [] ys (suc n) le e = absurd (omega (arith, le))
drop_end (x ∷ xs) ys zero le e = cc
drop_end (x ∷ xs) ys (suc n) le e = drop_end xs ys n (omega (arith, le)) e

drop_next : {A : Type 0} (xs : List A) (n : ℕ) (x : A) → drop n xs ≡ x ∷ [] → drop (suc n) xs ≡ []
drop_next [] zero x e = refl
drop_next [] (suc n) x e = refl
drop_next (y ∷ xs) zero x e = let r : xs ≡ [] = cc in r
drop_next (y ∷ xs) (suc n) x e = drop_next xs n x e

module _ (asks answers : TableId) (sends sends' : Pass Ask (Log Ask)) (hears hears' : Pass AnsweredView (Log AnsweredView)) (takes gives : TableId) where
  pub tied_first : (sends.table_id ≡ asks) × (sends.me.1 ≡ []) → view sends ≡ log true false [] [] no_source [] → (hears.table_id ≡ answers) × (hears.me.1 ≡ [])
      → view hears ≡ log false true [] [] (source_of asks) []
      → takes ≡ asks → gives ≡ answers → IsTied asks answers sends hears takes gives
  tied_first so s ho h t g =
      let x : (view sends).sent ≡ [] = ap (λ v. v.sent) s in
      let y : (view hears).got ≡ [] = ap (λ v. v.got) h in
      let nx = ap length x in
      let ny = ap length y in
      record {
        sends_own = so;
        hears_own = ho;
        takes_own = t;
        gives_own = g;
        pushes = ap (λ v. v.pushes) s;
        pops = ap (λ v. v.pops) h;
        source = ap (λ v. v.source) h;
        whole = ap (λ l. length (asked l)) x ∙ sym nx;
        behind = omega (arith, nx, ny);
      }

  pub tied_put : (r : Request) → IsTied asks answers sends hears takes gives → (sends'.table_id ≡ asks) × (sends'.me.1 ≡ [])
      → view sends' ≡ log (view sends).pushes (view sends).pops ((view sends).sent ++ Call r ∷ []) (view sends).got (view sends).source (view sends).known
      → IsTied asks answers sends' hears takes gives
  tied_put r t own e =
      let x : (view sends').sent ≡ (view sends).sent ++ Call r ∷ [] = ap (λ v. v.sent) e in
      let nx = ap length x in
      let lx = length-append (view sends).sent (Call r ∷ []) in
      let z : asked (view sends').sent ≡ asked (view sends).sent ++ r ∷ [] = ap asked x ∙ asked_call (view sends).sent r in
      let nz = ap length z in
      let lz = length-append (asked (view sends).sent) (r ∷ []) in
      let whole = t.whole in
      let behind = t.behind in
      record {
        sends_own = own;
        hears_own = t.hears_own;
        takes_own = t.takes_own;
        gives_own = t.gives_own;
        pushes = ap (λ v. v.pushes) e ∙ t.pushes;
        pops = t.pops;
        source = t.source;
        whole = omega (arith, nx, lx, nz, lz, whole);
        behind = omega (arith, nx, lx, behind);
      }

  pub tied_hear : (r : Request) (a : AnsweredView) (known : List Ask) → IsTied asks answers sends hears takes gives → (sends'.table_id ≡ asks) × (sends'.me.1 ≡ [])
      → (hears'.table_id ≡ answers) × (hears'.me.1 ≡ [])
      → view hears' ≡ log (view hears).pushes (view hears).pops (view hears).sent ((view hears).got ++ a ∷ []) (view hears).source (view hears).known
      → view sends' ≡ log (view sends).pushes (view sends).pops (view sends).sent (view sends).got (view sends).source known
      → drop (length (view hears).got) (asked (view sends).sent) ≡ r ∷ [] → IsTied asks answers sends' hears' takes gives
  tied_hear r a known t own own' e f d =
      let x : (view hears').got ≡ (view hears).got ++ a ∷ [] = ap (λ v. v.got) e in
      let y : (view sends').sent ≡ (view sends).sent = ap (λ v. v.sent) f in
      let nx = ap length x in
      let ny = ap length y in
      let na = ap (λ l. length (asked l)) y in
      let lx = length-append (view hears).got (a ∷ []) in
      let nd : length (drop (length (view hears).got) (asked (view sends).sent)) ≡ 1 = ap length d in
      let ld = length-drop (length (view hears).got) (asked (view sends).sent) in
      let whole = t.whole in
      record {
        sends_own = own;
        hears_own = own';
        takes_own = t.takes_own;
        gives_own = t.gives_own;
        pushes = ap (λ v. v.pushes) f ∙ t.pushes;
        pops = ap (λ v. v.pops) e ∙ t.pops;
        source = ap (λ v. v.source) e ∙ t.source;
        whole = na ∙ whole ∙ sym ny;
        behind = omega (arith, nx, lx, nd, ld, whole, ny);
      }

pub seen_first : (start : Start) (s : Log Ask) (h : Log AnsweredView) → s ≡ log true false [] [] no_source [] → h.got ≡ [] → end_seen start s h ≡ record { start = start; told = []; waiting = [] }
seen_first start s h es y =
    let x : s.sent ≡ [] = ap (λ v. v.sent) es in
    let p : calls_of (asked s.sent) (answers_of h.got) ≡ [] = ap (λ l. calls_of (asked l) (answers_of h.got)) x in
    let q : drop (length h.got) (asked s.sent) ≡ [] = ap (λ l. drop (length l) (asked s.sent)) y ∙ ap asked x in
    λ i. record { start = start; told = p i; waiting = q i }

pub seen_put : (start : Start) (s s' : Log Ask) (h : Log AnsweredView) (r : Request) → length (asked s.sent) ≡ length s.sent → length h.got ≤ length s.sent → drop (length h.got) (asked s.sent) ≡ []
    → s' ≡ log s.pushes s.pops (s.sent ++ Call r ∷ []) s.got s.source s.known → end_seen start s' h ≡ put_one r (end_seen start s h)
seen_put start s s' h r whole behind d e =
    let z : asked s'.sent ≡ asked s.sent ++ r ∷ [] = ap (λ v. asked v.sent) e ∙ asked_call s.sent r in
    let le : length h.got ≤ length (asked s.sent) = omega (arith, whole, behind) in
    let n = answers_long h.got in
    let le' : length (answers_of h.got) ≤ length (asked s.sent) = omega (arith, le, n) in
    let p : calls_of (asked s'.sent) (answers_of h.got) ≡ calls_of (asked s.sent) (answers_of h.got) =
    ap (λ l. calls_of l (answers_of h.got)) z ∙ calls_ahead (asked s.sent) (r ∷ []) (answers_of h.got) le' in
    let q : drop (length h.got) (asked s'.sent) ≡ r ∷ [] = ap (drop (length h.got)) z ∙ drop_end (asked s.sent) (r ∷ []) (length h.got) le d in
    λ i. record { start = start; told = p i; waiting = q i }

pub seen_hear : (start : Start) (s s' : Log Ask) (h h' : Log AnsweredView) (r : Request) (a : AnsweredView) → drop (length h.got) (asked s.sent) ≡ r ∷ []
    → s'.sent ≡ s.sent → h' ≡ log h.pushes h.pops h.sent (h.got ++ a ∷ []) h.source h.known → end_seen start s' h' ≡ told_one r a.answer (end_seen start s h)
seen_hear start s s' h h' r a d f e =
    let x : h'.got ≡ h.got ++ a ∷ [] = ap (λ v. v.got) e in
    let w : answers_of h'.got ≡ answers_of h.got ++ a.answer ∷ [] = ap answers_of x ∙ answers_more h.got a in
    let d' : drop (length (answers_of h.got)) (asked s.sent) ≡ r ∷ [] = ap (λ k. drop k (asked s.sent)) (answers_long h.got) ∙ d in
    let p : calls_of (asked s'.sent) (answers_of h'.got) ≡ calls_of (asked s.sent) (answers_of h.got) ++ call_of r a.answer =
    ap (λ l. calls_of (asked l) (answers_of h'.got)) f ∙ ap (calls_of (asked s.sent)) w ∙ calls_told (asked s.sent) (answers_of h.got) r a.answer d' in
    let n : length h'.got ≡ suc (length h.got) = let l = length-append h.got (a ∷ []) in let m = ap length x in omega (arith, l, m) in
    let q : drop (length h'.got) (asked s'.sent) ≡ [] = ap (λ l. drop (length h'.got) (asked l)) f ∙ ap (λ k. drop k (asked s.sent)) n ∙ drop_next (asked s.sent) (length h.got) r d in
    λ i. record { start = start; told = p i; waiting = q i }

nil_by : {A : Type 0} (xs : List A) → length xs ≡ 0 → xs ≡ []
nil_by [] e = refl
nil_by (x ∷ xs) e = absurd (omega (arith, e))

drop_front : {A : Type 0} (xs ys : List A) (n : ℕ) → length xs ≡ n → drop n (xs ++ ys) ≡ ys
drop_front [] ys zero e = refl
drop_front [] ys (suc n) e = absurd (omega (arith, e))
drop_front (x ∷ xs) ys zero e = absurd (omega (arith, e))
drop_front (x ∷ xs) ys (suc n) e = drop_front xs ys n (omega (arith, e))

-- what the receipt shows last is what is waited for
pub same_request : (sent known earlier : List Ask) (n : ℕ) (q r : Request) → length (asked sent) ≡ length sent → Begins known sent → length known ≡ suc n → drop n (asked sent) ≡ r ∷ []
    → known ≡ earlier ++ Call q ∷ [] → q ≡ r
same_request sent known earlier n q r whole b long d e =
    let nd : length (drop n (asked sent)) ≡ 1 = ap length d in
    let ld = length-drop n (asked sent) in
    let nb = ap length b.1 in
    let lb = length-append known b.0 in
    let none : b.0 ≡ [] = nil_by b.0 (omega (arith, nd, ld, nb, lb, long, whole)) in
    let all : sent ≡ earlier ++ Call q ∷ [] = sym b.1 ∙ ap (λ l. known ++ l) none ∙ append-nil known ∙ e in
    let z : asked sent ≡ asked earlier ++ q ∷ [] = ap asked all ∙ asked_call earlier q in
    let nz = ap length z in
    let lz = length-append (asked earlier) (q ∷ []) in
    let front : drop n (asked earlier ++ q ∷ []) ≡ q ∷ [] = drop_front (asked earlier) (q ∷ []) n (omega (arith, nd, ld, nz, lz)) in
    let same : q ∷ [] ≡ r ∷ [] = sym front ∙ ap (drop n) (sym z) ∙ d in
    cc

pub fits_same : (q r : Request) (a : Answer) → q ≡ r → IfOk a (λ heard. FitsHeard q heard) → IfOk a (λ heard. FitsHeard r heard)
fits_same q r a e f = subst (λ s. IfOk a (λ heard. FitsHeard s heard)) e f

-- what the line lists once the worker ended
pub finished : (start : Calls) (s s' t : Log Ask) (g h : Log AnsweredView) (after : Calls) (xs : List Ask) (ys : List AnsweredView)
    → length (asked s.sent) ≡ length s.sent → length h.got ≤ length s.sent → drop (length h.got) (asked s.sent) ≡ []
    → s' ≡ log s.pushes s.pops (s.sent ++ Close ∷ []) s.got s.source s.known → Served start t g after → s'.sent ≡ t.got ++ xs → g.sent ≡ h.got ++ ys
    → after ≡ start ++ calls_of (asked s.sent) (answers_of h.got)
finished start s s' t g h after xs ys whole behind d e served ex ey =
    let x : s'.sent ≡ s.sent ++ Close ∷ [] = ap (λ v. v.sent) e in
    let nd : length (drop (length h.got) (asked s.sent)) ≡ 0 = ap length d in
    let ld = length-drop (length h.got) (asked s.sent) in
    let even : length h.got ≡ length s.sent = omega (arith, nd, ld, whole, behind) in
    let ny : answers_of g.sent ≡ answers_of h.got ++ answers_of ys = ap answers_of ey ∙ map-append (λ (a : AnsweredView). a.answer) h.got ys in
    served.calls ∙ ap (λ l. start ++ l) (settled s.sent (answers_of h.got) t.got (answers_of g.sent) xs (answers_of ys) (sym x ∙ ex) ny (served.closed
    ∙ ap suc (sym (answers_long g.sent))) (answers_long h.got ∙ even))

-- a worker that wasn't started called nothing
pub unstarted : (start : Calls) (s t : Log Ask) (g : Log AnsweredView) (after : Calls) (xs : List Ask) → s ≡ log true false (Close ∷ []) [] no_source [] → Served start t g after
    → s.sent ≡ t.got ++ xs → after ≡ start
unstarted start s t g after xs e served ex =
    served.calls ∙ ap (λ l. start ++ l) (settled [] [] t.got (answers_of g.sent) xs (answers_of g.sent) (sym (ap (λ v. v.sent) e) ∙ ex) refl (served.closed
    ∙ ap suc (sym (answers_long g.sent))) refl) ∙ append-nil start
