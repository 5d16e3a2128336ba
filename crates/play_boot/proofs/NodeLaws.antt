-- A bootstrap over nodes that are called directly, each steady and telling its state.
use Rattle.std.proofs.Common.{◌≡◌, ℕ, ◌+◌, ◌-◌, List, [], ◌∷◌, length, map, All, Option, Some, None, slice_get, refl, sym, ap, ◌∙◌, subst}
use Rattle.std.specs.Prelude.{IsErrOf}
use Rattle.std.proofs.lemmas.List.{append_cancel_left, length-map}
use Rattle.std.proofs.lemmas.List.Elements.{All-nil, All-cons, All-head, All-tail, All-map}
use Rattle.base_disk.specs.Files.{Files}
use Rattle.base_disk.specs.declared.disk.DiskFail.TheVariants.{Failed}
use Rattle.journal_core.specs.Laws.{IsQuestion}
use Rattle.journal_core.specs.Step.{node_step}
use Rattle.journal_core.specs.declared.heard.Heard.{Heard}
use Rattle.journal_core.specs.declared.heard.Heard.TheVariants.{Answer}
use Rattle.journal_core.specs.declared.node_state.NodeState.{NodeState}
use Rattle.journal_core.specs.declared.peer_call.PeerCall.{PeerCall}
use Rattle.journal_core.specs.declared.request.Request.{Request}
use Rattle.journal_core.specs.declared.request.Request.TheVariants.{Read}
use Rattle.writer_calls.specs.Directs.{DirectView, CallsGo, AreCalled}
use Rattle.writer_calls.specs.States as mirror
use Rattle.writer_calls.proofs.Steady.{Answered, calls_answered}
use Rattle.ns_edits.specs.Replay.{Image}
use Rattle.ns_store.specs.Answers.{IsNewest}
use Rattle.ns_store.specs.declared.newest_answer.Newest.TheVariants as newest
use Rattle.play_names.specs.Holding.{Work, Free, Tails, Logs, Broken}
use Rattle.play_names.specs.ImageDisks.{HoldsImages}
use Rattle.play_names.specs.Tails.{TailStep, GoesOn, Ends, Breaks, pass_begun}
use Rattle.play_names.specs.declared.tailed.Tailed.{Tailed}
use Rattle.play_names.specs.declared.tailed.Tailed.TheVariants as tailed
use Rattle.play_standby.specs.Standbys.{StandbyView, empty_standby, held}
use Rattle.play_standby.specs.Reads.{read_of, next_read, read_heard, AreReads, tail_along}
use Rattle.play_standby.specs.Tailing.{IsEnd, TailEnds}
use Rattle.play_standby.proofs.DiskLaws.{holds_none}
use Rattle.play_boot.specs.Boots.{IsBooted, IsBegun, from_result, to_result}
use Rattle.play_boot.specs.Laws.{Reloads}
use Rattle.play_boot.specs.Nodes.{begun_of, image_of, IsAnswered, EndsAt, IsBootedOver, TailsEndOnce}
use Rattle.play_boot.specs.declared.booted.Booted.{Booted}
use Rattle.play_boot.specs.declared.booted.Booted.TheVariants as booted
use Rattle.play_boot.proofs.ImageLaws.{boot_reloads, begun_is, never_differs, never_bad}

-- ## A tail asks questions
asks : (work : Work) (position node : ℕ) (r : Request) → read_of work position ≡ Some (node, r) → IsQuestion r
asks Free position node r e = absurd (cc e)
asks (Logs ahead dues) position node r e = absurd (cc e)
asks Broken position node r e = absurd (cc e)
asks (Tails until k told) position node r e = let both : (k, Read (position + 1)) ≡ (node, r) = cc in subst IsQuestion (ap (λ (p : ℕ × Request). p.1) both) tt

asks_next : (x : TailStep) (node : ℕ) (r : Request) → next_read x ≡ Some (node, r) → IsQuestion r
asks_next (GoesOn h) node r e = asks h.work h.position node r e
asks_next (Ends end h) node r e = absurd (cc e)
asks_next (Breaks h) node r e = absurd (cc e)

questions : (nodes : ℕ) (x : TailStep) (calls : List PeerCall) → AreReads nodes x calls → All (λ c. IsQuestion c.request) calls
unfolding AreReads
questions nodes x [] h = All-nil (λ (c : PeerCall). IsQuestion c.request)
questions nodes x (c ∷ calls) h =
    All-cons (λ (d : PeerCall). IsQuestion d.request) c calls (asks_next x c.node c.request h.0) (questions nodes (read_heard nodes x c.heard) calls h.1)

-- each is a read of what follows some position
follows : (work : Work) (position node : ℕ) (r : Request) → read_of work position ≡ Some (node, r) → (k : ℕ) × (r ≡ Read (k + 1))
follows Free position node r e = absurd (cc e)
follows (Logs ahead dues) position node r e = absurd (cc e)
follows Broken position node r e = absurd (cc e)
follows (Tails until k told) position node r e =
    let both : (k, Read (position + 1)) ≡ (node, r) = cc in (position, sym (ap (λ (p : ℕ × Request). p.1) both))

follows_next : (x : TailStep) (node : ℕ) (r : Request) → next_read x ≡ Some (node, r) → (k : ℕ) × (r ≡ Read (k + 1))
follows_next (GoesOn h) node r e = follows h.work h.position node r e
follows_next (Ends end h) node r e = absurd (cc e)
follows_next (Breaks h) node r e = absurd (cc e)

pub all_follow : (nodes : ℕ) (x : TailStep) (calls : List PeerCall) → AreReads nodes x calls → All (λ c. (k : ℕ) × (c.request ≡ Read (k + 1))) calls
unfolding AreReads
all_follow nodes x [] h = All-nil (λ (c : PeerCall). (k : ℕ) × (c.request ≡ Read (k + 1)))
all_follow nodes x (c ∷ calls) h =
    All-cons (λ (d : PeerCall). (k : ℕ) × (d.request ≡ Read (k + 1))) c calls (follows_next x c.node c.request h.0) (all_follow nodes (read_heard nodes x c.heard) calls h.1)

-- ## One end
same_state : (states : List (Option NodeState)) (i : ℕ) (s t : NodeState) → slice_get states i ≡ Some (Some s) → slice_get states i ≡ Some (Some t) → s ≡ t
same_state states i s t e f = let both : Some (Some s) ≡ Some (Some t) = sym e ∙ f in cc

same_heard : (states : List (Option NodeState)) (c d : PeerCall) → c.node ≡ d.node → c.request ≡ d.request → IsAnswered states c → IsAnswered states d → c.heard ≡ d.heard
same_heard states c d node request one two =
    let state : one.0 ≡ two.0 = same_state states (c.node - 1) one.0 two.0 one.1 (ap (λ (k : ℕ). slice_get states (k - 1)) node ∙ two.1) in
    one.2 ∙ (λ i. Answer (node_step (state i) (request i)).reply) ∙ sym two.2

one_end : (nodes : ℕ) (states : List (Option NodeState)) (x : TailStep) (xs ys : List PeerCall) → AreReads nodes x xs → AreReads nodes x ys → All (IsAnswered states) xs → All (IsAnswered states) ys
    → next_read (tail_along nodes x xs) ≡ None → next_read (tail_along nodes x ys) ≡ None → tail_along nodes x xs ≡ tail_along nodes x ys
unfolding AreReads tail_along
one_end nodes states x [] [] a b told heard over done = refl
one_end nodes states x [] (d ∷ ys) a b told heard over done = let none : None ≡ Some (d.node, d.request) = sym over ∙ b.0 in absurd (cc none)
one_end nodes states x (c ∷ xs) [] a b told heard over done = let none : None ≡ Some (c.node, c.request) = sym done ∙ a.0 in absurd (cc none)
one_end nodes states x (c ∷ xs) (d ∷ ys) a b told heard over done =
    let both : Some (c.node, c.request) ≡ Some (d.node, d.request) = sym a.0 ∙ b.0 in
    let pair : (c.node, c.request) ≡ (d.node, d.request) = cc both in
    let node : c.node ≡ d.node = ap (λ (p : ℕ × Request). p.0) pair in
    let request : c.request ≡ d.request = ap (λ (p : ℕ × Request). p.1) pair in
    let same : d.heard ≡ c.heard = sym (same_heard states c d node request (All-head (IsAnswered states) c xs told) (All-head (IsAnswered states) d ys heard)) in
    one_end nodes states (read_heard nodes x c.heard) xs ys a.1 (subst (λ (h : Heard). AreReads nodes (read_heard nodes x h) ys) same b.1)
    (All-tail (IsAnswered states) c xs told) (All-tail (IsAnswered states) d ys heard) over (subst (λ (h : Heard). next_read (tail_along nodes (read_heard nodes x h) ys) ≡ None) same done)
    ∙ ap (λ (h : Heard). tail_along nodes (read_heard nodes x h) ys) (sym same)

pub ends_once : TailsEndOnce
ends_once states begun a b one two =
    one.stands
    ∙ one_end (length states) states (pass_begun None (held [] begun)) one.made two.made one.led two.led one.answered two.answered
    (subst (λ (x : TailStep). next_read x ≡ None) one.stands one.over) (subst (λ (x : TailStep). next_read x ≡ None) two.stands two.over)
    ∙ sym two.stands

-- ## Where it is over
over_at : (x : TailStep) (s : StandbyView) (t : Tailed) → IsEnd x [] s t → next_read x ≡ None
over_at x s (tailed.Caught txid) h = ap next_read h.0
over_at x s (tailed.Reached txid) h = ap next_read h.0
over_at x s (tailed.Behind txid causes) h = ap next_read h.0
over_at x s (tailed.Purged first) h = ap next_read h
over_at x s (tailed.BadEntry txid) h = ap next_read h.0
over_at x s tailed.OutOfMemory h = absurd h

module _ {N : Type 0} (state : N → Option NodeState) (steady : N → Type 0) (before after : DirectView N) (firm : All steady before.nodes) (told : All (λ n. mirror.IsTold (state n)) before.nodes)
    (called : AreCalled state steady before after) where
  abbrev states : List (Option NodeState)
  states = map state before.nodes

  ends_at : (begun s : StandbyView) (t : Tailed) (x : TailEnds (length before.nodes) (pass_begun None (held [] begun)) [] before.calls after.calls s t) → EndsAt states begun x.end
  ends_at begun s t x =
      let made : called.made ≡ x.leads.made = append_cancel_left before.calls called.made x.leads.made (sym called.listed ∙ x.leads.grew) in
      let went : CallsGo state steady x.leads.made before.nodes after.nodes = subst (λ (cs : List PeerCall). CallsGo state steady cs before.nodes after.nodes) made called.went in
      let told_all : All mirror.IsTold states = All-map mirror.IsTold state before.nodes told in
      let count : length before.nodes ≡ length states = sym (length-map before.nodes state) in
      let a : Answered state steady states x.leads.made after.nodes =
      calls_answered state steady states x.leads.made before.nodes after.nodes refl firm told_all (questions (length before.nodes) (pass_begun None (held [] begun)) x.leads.made x.leads.led) went in
      record {
        made = x.leads.made;
        led = subst (λ (n : ℕ). AreReads n (pass_begun None (held [] begun)) x.leads.made) count x.leads.led;
        answered = a.each;
        stands = x.leads.stands ∙ ap (λ (n : ℕ). tail_along n (pass_begun None (held [] begun)) x.leads.made) count;
        over = over_at x.end s t x.is;
      }

  ends_for : (images : List Image) (begun s : StandbyView) (t : Tailed) → begun ≡ begun_of images
      → (x : TailEnds (length before.nodes) (pass_begun None (held [] begun)) [] before.calls after.calls s t) → EndsAt states (begun_of images) x.end
  ends_for images begun s t same x = subst (λ (b : StandbyView). EndsAt states b x.end) same (ends_at begun s t x)

  module _ (from to : Files) (images : List Image) (holds : HoldsImages from images) (empty : IsNewest to newest.NoImage) where
    begins_so : (begun : StandbyView) (image : Option ℕ) → IsBegun from begun image → (begun ≡ begun_of images) × (image ≡ image_of images)
    begins_so begun image is =
        let r : Reloads images begun empty_standby image = boot_reloads from images begun empty_standby image holds is in
        (begun_is images begun r.reloads, r.newest)

    pub over_nodes : (b : Booted) → (IsErrOf (from_result b) Failed → ⊥) → (IsErrOf (to_result b) Failed → ⊥) → IsBooted (length before.nodes) from to before.calls after.calls b
        → IsBootedOver states images b
    over_nodes (booted.Done standby image) f t h =
        let so = begins_so h.begun image h.begins in
        let x : TailEnds (length before.nodes) (pass_begun None (held [] h.begun)) [] before.calls after.calls standby (tailed.Caught standby.position) = h.tails [] in
        (x.end, ends_for images h.begun standby (tailed.Caught standby.position) so.0 x, (so.1, x.is.0))
    over_nodes (booted.NotEmpty txid) f t h = absurd (empty txid h.0.0)
    over_nodes (booted.DigestDiffers kept computed) f t h = absurd (never_differs from images kept computed holds h.loads)
    over_nodes (booted.BadImage place cause) f t h = absurd (never_bad from images place cause holds h.loads)
    over_nodes (booted.Unreachable have first) f t h =
        let so = begins_so h.boots.begun h.image h.boots.begins in
        let x : TailEnds (length before.nodes) (pass_begun None (held [] h.boots.begun)) [] before.calls after.calls h.standby (tailed.Purged first) = h.boots.tails [] in
        (x.end, ends_for images h.boots.begun h.standby (tailed.Purged first) so.0 x, (h.standby, h.here, x.is))
    over_nodes (booted.Behind txid causes) f t h =
        let so = begins_so h.boots.begun h.image h.boots.begins in
        let x : TailEnds (length before.nodes) (pass_begun None (held [] h.boots.begun)) [] before.calls after.calls h.standby (tailed.Behind txid causes) = h.boots.tails [] in
        (x.end, ends_for images h.boots.begun h.standby (tailed.Behind txid causes) so.0 x, (h.standby, h.here, x.is.0))
    over_nodes (booted.BadEntry txid) f t h =
        let b = h.1 in
        let so = begins_so b.boots.begun b.image b.boots.begins in
        let x : TailEnds (length before.nodes) (pass_begun None (held [] b.boots.begun)) [] before.calls after.calls b.standby (tailed.BadEntry txid) = b.boots.tails [] in
        (x.end, ends_for images b.boots.begun b.standby (tailed.BadEntry txid) so.0 x, (b.standby, x.is.0))
    over_nodes booted.FromFault f t h = absurd (f refl)
    over_nodes booted.ToFault f t h = absurd (t refl)
    over_nodes booted.OutOfMemory f t h = tt

-- a disk without files has no image
pub none_in : (files : Files) → ((name : List ℕ) → files name ≡ None) → IsNewest files newest.NoImage
none_in files empty t counts = let none : HoldsImages files [] = holds_none files empty in absurd ((none.counts t).0 counts)

-- an answer is lack of memory or it isn't
pub or_memory : (P : Booted → Type 0) (b : Booted) → ((b ≡ booted.OutOfMemory → ⊥) → P b) → P booted.OutOfMemory → P b
or_memory P (booted.Done standby image) other none = other (λ e. absurd (cc e))
or_memory P (booted.NotEmpty txid) other none = other (λ e. absurd (cc e))
or_memory P (booted.DigestDiffers stored computed) other none = other (λ e. absurd (cc e))
or_memory P (booted.BadImage place cause) other none = other (λ e. absurd (cc e))
or_memory P (booted.Unreachable have first) other none = other (λ e. absurd (cc e))
or_memory P (booted.Behind txid causes) other none = other (λ e. absurd (cc e))
or_memory P (booted.BadEntry txid) other none = other (λ e. absurd (cc e))
or_memory P booted.FromFault other none = other (λ e. absurd (cc e))
or_memory P booted.ToFault other none = other (λ e. absurd (cc e))
or_memory P booted.OutOfMemory other none = none
