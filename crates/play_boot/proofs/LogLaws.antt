-- A tail over answers that agree with a log, or with the line of a run, leads to its replay.
use Rattle.std.proofs.Common.{inl, inr, ⊎_elim, ◌⊎◌, ◌≡◌, ℕ, zero, suc, ◌+◌, ◌<◌, ◌≤◌, Bool, true, false, nat_lt, if◌then◌else◌, List, [], ◌∷◌, ◌++◌}
use Rattle.std.proofs.Common.{length, length-append, take, drop, get_or, slice_get, append_assoc, append-nil, Option, Some, None, refl, sym, ap, ◌∙◌, subst, arith}
use Rattle.std.specs.Prelude.{Contains}
use Rattle.std.proofs.Math.Seq.{take-suc}
use Rattle.std.proofs.lemmas.List.{length-take-le, drop_at}
use Rattle.base_disk.specs.Files.{Files}
use Rattle.journal_core.specs.Views.{BatchView}
use Rattle.journal_core.specs.declared.heard.Heard.{Heard}
use Rattle.journal_core.specs.declared.heard.Heard.TheVariants.{Answer, Silent}
use Rattle.journal_core.specs.declared.peer_call.PeerCall.{PeerCall}
use Rattle.journal_core.specs.declared.reply.Reply.TheVariants as reply
use Rattle.journal_core.specs.declared.request.Request.TheVariants.{Read}
use Rattle.journal_core.specs.declared.request.Request.{Request}
use Rattle.writer_calls.specs.Fetching.{call_of, HasBody}
use Rattle.writer_calls.specs.Logs.{made_since}
use Rattle.ns_tree.specs.Space.{Space, empty_space}
use Rattle.ns_edits.specs.Replay.{Applied, All, BadEntry, goes_on, applied, replay_from, replay}
use Rattle.ns_edits.proofs.Splits.{has_gone, HasGone, log_joins, log_splits, none≢some, nothing_replayed}
use Rattle.play_names.specs.Holding.{Holding, Work, Free, Tails, Logs, Broken, with_work}
use Rattle.play_names.specs.Tails.{TailStep, GoesOn, Ends, Breaks, pass_begun, after_applied, no_edits, pass_end, tail_hears}
use Rattle.play_names.specs.declared.tailed.Tailed.TheVariants as tailed
use Rattle.play_standby.specs.Standbys.{StandbyView, held}
use Rattle.play_standby.specs.Reads.{read_of, heard_in, AreReads, tail_along}
use Rattle.play_standby.specs.Tailing.{TailEnds, gives_edits}
use Rattle.play_standby.proofs.StepLaws.{hears_edits, hears_other}
use Rattle.play_boot.specs.Boots.{IsBegun, TailsTo, IsReplayed, IsImageOf, ReadsAgree}

-- ## Lists
get_either : (xs ys : List (List ℕ)) (j : ℕ) (body : List ℕ) → slice_get (xs ++ ys) j ≡ Some body
    → (slice_get xs j ≡ Some body) ⊎ ((k : ℕ) × (j ≡ length xs + k) × (slice_get ys k ≡ Some body))
get_either [] ys j body e = inr (j, omega arith, e)
get_either (x ∷ xs) ys zero body e = inl e
get_either (x ∷ xs) ys (suc j) body e = ⊎_elim (λ h. inl h) (λ h. inr (h.0, omega (arith, h.1), h.2)) (get_either xs ys j body e)

get_take : (k n : ℕ) (xs : List (List ℕ)) (x : List ℕ) → slice_get (take n xs) k ≡ Some x → slice_get xs k ≡ Some x
get_take k zero [] x e = e
get_take k (suc n) [] x e = e
get_take k zero (y ∷ xs) x e = none≢some x e
get_take zero (suc n) (y ∷ xs) x e = e
get_take (suc k) (suc n) (y ∷ xs) x e = get_take k n xs x e

-- ## Replays of what `L` has from txid 1 on
-- these bodies are `L`'s, from this txid on
abbrev pub AreOf : (ℕ → List ℕ → Type 0) → ℕ → List (List ℕ) → Type 0
AreOf L first bodies = (txid : ℕ) (body : List ℕ) → HasBody first bodies txid body → L txid body

-- the replay of `L`'s first entries, as many as the position says
pub record IsReplayOf (L : ℕ → List ℕ → Type 0) (space : Space) (position : ℕ) : Type 0 where
  pub log : List (List ℕ)
  pub of : AreOf L 1 log
  pub long : length log ≡ position
  pub replayed : replay log ≡ Some space

are_joined : (L : ℕ → List ℕ → Type 0) (log bodies : List (List ℕ)) (t : ℕ) → length log ≡ t → AreOf L 1 log → AreOf L (t + 1) bodies → AreOf L 1 (log ++ bodies)
are_joined L log bodies t size front rest txid body has =
    ⊎_elim (λ h. front txid body (has.0, has.1, h)) (λ h. rest txid body (h.0, omega (arith, has.1, h.1, size), h.2)) (get_either log bodies has.0 body has.2)

-- each read that is among these calls gave `L`'s bodies alone
abbrev pub ReadsOf : (ℕ → List ℕ → Type 0) → List PeerCall → Type 0
ReadsOf L calls =
    (node from : ℕ) (batch : BatchView) → Contains calls (call_of node (Read from) (Answer (reply.Edits batch))) → AreOf L from batch.bodies

-- a pass of a tail without an end
abbrev pub IsEndless : Work → Type 0
IsEndless (Tails None node told) = Unit {0}
IsEndless (Tails (Some last) node told) = ⊥
IsEndless Free = ⊥
IsEndless (Logs ahead dues) = ⊥
IsEndless Broken = ⊥

-- what is known of a tail that broke, where some bodies that are `L`'s don't replay
module _ (L : ℕ → List ℕ → Type 0) (Bad : Type 0) (breaks : (log : List (List ℕ)) → AreOf L 1 log → replay log ≡ None → Bad) where
  abbrev pub StandsOn : TailStep → Type 0
  StandsOn (GoesOn h) = IsReplayOf L h.space h.position × IsEndless h.work
  StandsOn (Ends end h) = IsReplayOf L h.space h.position
  StandsOn (Breaks h) = Bad

  applied_on : (t : ℕ) (space : Space) (bodies : List (List ℕ)) (h : Holding) (a : Applied) → IsReplayOf L space t → AreOf L (t + 1) bodies → HasGone t bodies space a
      → StandsOn (after_applied None a h)
  unfolding pass_begun
  applied_on t space bodies h (BadEntry z u) is agree gone =
      let at : replay_from (length is.log) bodies space ≡ None = ap (λ (n : ℕ). replay_from n bodies space) is.long ∙ gone.1 in
      breaks (is.log ++ bodies) (are_joined L is.log bodies t is.long is.of agree)
      (log_splits is.log bodies ∙ ap (λ (o : Option Space). goes_on o (replay_from (length is.log) bodies)) is.replayed ∙ at)
  applied_on t space bodies h (All z u) is agree gone =
      let rest : replay_from (length is.log) bodies space ≡ Some z = ap (λ (n : ℕ). replay_from n bodies space) is.long ∙ gone.0 in
      let size : length (is.log ++ bodies) ≡ length is.log + length bodies = length-append is.log bodies in (
        record {
          log = is.log ++ bodies;
          of = are_joined L is.log bodies t is.long is.of agree;
          long = omega (arith, size, is.long, gone.1);
          replayed = log_joins is.log bodies space z is.replayed rest;
        },
        tt,
      )

  no_edits_on : (nodes node : ℕ) (told : List Heard) (h : Holding) → IsReplayOf L h.space h.position → StandsOn (no_edits nodes None node told h)
  no_edits_on nodes node told h is = by (nat_lt node nodes)
    where
      by : (b : Bool) → StandsOn (if b then GoesOn (with_work (Tails None (node + 1) told) h) else Ends (pass_end None told) (with_work Free h))
      by true = (is, tt)
      by false = is

  hears_on : (nodes node : ℕ) (told : List Heard) (heard : Heard) (h : Holding) → IsReplayOf L h.space h.position
      → ((batch : BatchView) → heard ≡ Answer (reply.Edits batch) → AreOf L (h.position + 1) batch.bodies) → StandsOn (tail_hears nodes None node told heard h)
  hears_on nodes node told heard h is agrees = by heard refl
    where
      other : gives_edits heard ≡ false → StandsOn (tail_hears nodes None node told heard h)
      other none = subst StandsOn (sym (hears_other nodes node None told heard h none)) (no_edits_on nodes node (told ++ heard ∷ []) h is)

      by : (x : Heard) → heard ≡ x → StandsOn (tail_hears nodes None node told heard h)
      by Silent e = other (ap gives_edits e)
      by (Answer reply.Ok) e = other (ap gives_edits e)
      by (Answer (reply.State promised)) e = other (ap gives_edits e)
      by (Answer (reply.NewEpoch newest)) e = other (ap gives_edits e)
      by (Answer (reply.Prepared writer committed segment)) e = other (ap gives_edits e)
      by (Answer (reply.Segments lines)) e = other (ap gives_edits e)
      by (Answer (reply.Refused refusal)) e = other (ap gives_edits e)
      by (Answer (reply.Edits batch)) e =
          subst StandsOn (sym (hears_edits nodes node None told heard batch h e))
          (applied_on h.position h.space batch.bodies h (applied h.position batch.bodies h.space) is (agrees batch e) (has_gone h.position batch.bodies h.space))

  -- ## Call by call
  call_agrees : (c : PeerCall) (calls : List PeerCall) → ReadsOf L (c ∷ calls) → (from : ℕ) → c.request ≡ Read from → (batch : BatchView) → c.heard ≡ Answer (reply.Edits batch)
      → AreOf L from batch.bodies
  call_agrees c calls agree from e batch heard =
      let same : c ≡ call_of c.node (Read from) (Answer (reply.Edits batch)) = (λ i. record { node = c.node; request = e i; heard = heard i }) in
      agree c.node from batch (0, omega arith, same)

  agree_on : (c : PeerCall) (calls : List PeerCall) → ReadsOf L (c ∷ calls) → ReadsOf L calls
  agree_on c calls agree node from batch among = agree node from batch (suc among.0, omega (arith, among.1), among.2)

  work_on : (nodes : ℕ) (work : Work) (h : Holding) (c : PeerCall) → IsReplayOf L h.space h.position → IsEndless work → read_of work h.position ≡ Some (c.node, c.request)
      → ((from : ℕ) → c.request ≡ Read from → (batch : BatchView) → c.heard ≡ Answer (reply.Edits batch) → AreOf L from batch.bodies) → StandsOn (heard_in nodes work c.heard h)
  work_on nodes (Tails None node told) h c is endless asked agrees =
      let both : (node, Read (h.position + 1)) ≡ (c.node, c.request) = cc in
      let e : c.request ≡ Read (h.position + 1) = sym (ap (λ (p : ℕ × Request). p.1) both) in hears_on nodes node told c.heard h is (agrees (h.position + 1) e)
  work_on nodes (Tails (Some last) node told) h c is endless asked agrees = absurd endless
  work_on nodes Free h c is endless asked agrees = absurd endless
  work_on nodes (Logs ahead dues) h c is endless asked agrees = absurd endless
  work_on nodes Broken h c is endless asked agrees = absurd endless

  stands_along : (nodes : ℕ) (x : TailStep) (calls : List PeerCall) → StandsOn x → AreReads nodes x calls → ReadsOf L calls → StandsOn (tail_along nodes x calls)
  unfolding AreReads tail_along
  stands_along nodes x [] on reads agree = on
  stands_along nodes (GoesOn h) (c ∷ calls) on reads agree =
      stands_along nodes (heard_in nodes h.work c.heard h) calls (work_on nodes h.work h c on.0 on.1 reads.0 (call_agrees c calls agree)) reads.1 (agree_on c calls agree)
  stands_along nodes (Ends end h) (c ∷ calls) on reads agree = absurd (cc (reads.0))
  stands_along nodes (Breaks h) (c ∷ calls) on reads agree = absurd (cc (reads.0))

  -- a tail from its beginning on
  pub stands_from : (nodes : ℕ) (begun : StandbyView) (calls : List PeerCall) → IsReplayOf L begun.space begun.position → AreReads nodes (pass_begun None (held [] begun)) calls → ReadsOf L calls
      → StandsOn (tail_along nodes (pass_begun None (held [] begun)) calls)
  unfolding pass_begun
  stands_from nodes begun calls is reads agree = stands_along nodes (pass_begun None (held [] begun)) calls (is, tt) reads agree

-- ## By a log
-- a place in a list
within : (log : List (List ℕ)) (j : ℕ) (body : List ℕ) → slice_get log j ≡ Some body → (j < length log) × (get_or log j [] ≡ body)
within [] j body e = cc
within (x ∷ log) zero body e = let same : x ≡ body = cc in (omega arith, same)
within (x ∷ log) (suc j) body e = let w = within log j body e in (omega (arith, w.0), w.1)

-- a list whose bodies are the log's is its front
record IsFront (t : ℕ) (log front : List (List ℕ)) : Type 0 where
  fits : t + length front ≤ length log
  is : take t log ++ front ≡ take (t + length front) log

front_of : (t : ℕ) (log front : List (List ℕ)) → t ≤ length log → ((k : ℕ) (body : List ℕ) → slice_get front k ≡ Some body → slice_get log (t + k) ≡ Some body) → IsFront t log front
front_of t log [] le each =
    let none : t + length {A = List ℕ} [] ≡ t = omega arith in
    record { fits = omega (arith, le, none); is = append-nil (take t log) ∙ ap (λ (n : ℕ). take n log) (sym none) }
front_of t log (b ∷ front) le each =
    let here : slice_get log t ≡ Some b = let at : t + 0 ≡ t = omega arith in ap (slice_get log) (sym at) ∙ each 0 b refl in
    let w = within log t b here in
    let next : IsFront (suc t) log front = front_of (suc t) log front (omega (arith, w.0))
    (λ k body e. let at : suc t + k ≡ t + suc k = omega arith in ap (slice_get log) at ∙ each (suc k) body e) in
    let count : suc t + length front ≡ t + length (b ∷ front) = omega arith in
    let taken : take (suc t) log ≡ take t log ++ b ∷ [] = take-suc log t [] w.0 ∙ ap (λ (x : List ℕ). take t log ++ x ∷ []) w.1 in
    record {
      fits = omega (arith, next.fits, count);
      is = sym (append_assoc (take t log) (b ∷ []) front) ∙ ap (λ (l : List (List ℕ)). l ++ front) (sym taken) ∙ next.is ∙ ap (λ (n : ℕ). take n log) count;
    }

of_front : (log : List (List ℕ)) (s : StandbyView) → IsReplayOf (HasBody 1 log) s.space s.position → IsReplayed log s
of_front log s is =
    let f : IsFront 0 log is.log = front_of 0 log is.log (omega arith) (λ k body e. at k body (is.of (1 + k) body (k, refl, e))) in
    let count : 0 + length is.log ≡ s.position = omega (arith, is.long) in
    record {
      within = omega (arith, f.fits, is.long);
      space = ap replay (ap (λ (n : ℕ). take n log) (sym count) ∙ sym f.is) ∙ is.replayed;
    }
  where
    at : (k : ℕ) (body : List ℕ) → HasBody 1 log (1 + k) body → slice_get log (0 + k) ≡ Some body
    at k body has = let same : 0 + k ≡ has.0 = omega (arith, has.1) in ap (slice_get log) same ∙ has.2

own_front : (log : List (List ℕ)) (s : StandbyView) → IsReplayed log s → IsReplayOf (HasBody 1 log) s.space s.position
own_front log s is = record {
  log = take s.position log;
  of = λ txid body has. (has.0, has.1, get_take has.0 s.position log body has.2);
  long = length-take-le s.position log is.within;
  replayed = is.space;
}

begun_on : (log : List (List ℕ)) (from : Files) (s : StandbyView) (image : Option ℕ) → IsImageOf log from → IsBegun from s image → IsReplayed log s
unfolding replay
begun_on log from s (Some txid) of begun = of txid s begun
begun_on log from s None of begun = subst (IsReplayed log) (sym begun.1) (record { within = omega arith; space = nothing_replayed 0 empty_space })

pub tails_on : (log : List (List ℕ)) (nodes : ℕ) (from : Files) (begun s : StandbyView) (image : Option ℕ) (before after : List PeerCall) → IsImageOf log from → IsBegun from begun image
    → TailsTo nodes begun before after s (tailed.Caught s.position) → ReadsAgree log (made_since before after) → IsReplayed log s
tails_on log nodes from begun s image before after of is tails agree =
    let x : TailEnds nodes (pass_begun None (held [] begun)) [] before after s (tailed.Caught s.position) = tails [] in
    let made : made_since before after ≡ x.leads.made = ap (drop (length before)) x.leads.grew ∙ drop_at before x.leads.made (length before) refl in
    let reads : ReadsOf (HasBody 1 log) x.leads.made =
    subst (ReadsOf (HasBody 1 log)) made (λ node from batch among txid body has. agree node from txid batch body among has) in
    let stands = stands_from (HasBody 1 log) (Unit {0}) (λ l a e. tt) nodes begun x.leads.made (own_front log begun (begun_on log from begun image of is)) x.leads.led reads in
    of_front log s (subst (StandsOn (HasBody 1 log) (Unit {0}) (λ l a e. tt)) (sym x.leads.stands ∙ x.is.0) stands)
