-- The steps of a tail as the code takes them.
use Rattle.std.proofs.Common.{◌≡◌, ℕ, ◌+◌, ◌<◌, ◌≤◌, List, [], ◌∷◌, ◌++◌, append-nil, length, length-append, Bool, true, false, nat_lt}
use Rattle.std.proofs.Common.{if◌then◌else◌, Option, Some, None, refl, sym, ap, ◌∙◌, subst, arith}
use Rattle.std.specs.Prelude.{Result, Ok, Err, OnErr}
use Rattle.std.specs.Option.{ForSome}
use Rattle.std.specs.declared.alloc.AllocError.{AllocError}
use Rattle.std.proofs.lemmas.Bool.Decides.{nat_tests}
use Rattle.journal_core.specs.Views.{BatchView}
use Rattle.journal_core.specs.declared.request.Request.TheVariants.{Read}
use Rattle.journal_core.specs.declared.heard.Heard.{Heard}
use Rattle.journal_core.specs.declared.heard.Heard.TheVariants.{Answer, Silent}
use Rattle.journal_core.specs.declared.reply.Reply.TheVariants as reply
use Rattle.journal_core.specs.declared.peer_call.PeerCall.{PeerCall}
use Rattle.ns_edits.specs.Replay.{Image, applied}
use Rattle.ns_edits.proofs.Splits.{nothing_replayed}
use Rattle.play_names.specs.Holding.{Holding, Work, Free, Tails, with_work}
use Rattle.play_names.specs.Tails.{TailStep, GoesOn, Ends, pass_begun, pass_end, tail_hears, up_to, after_applied, no_edits}
use Rattle.play_standby.specs.declared.step.Step.{Step}
use Rattle.play_standby.specs.declared.step.Step.TheVariants as step
use Rattle.play_names.specs.declared.tailed.Tailed.{Tailed}
use Rattle.play_standby.specs.Standbys.{StandbyView, held}
use Rattle.play_standby.specs.Reads.{LeadsTail}
use Rattle.play_standby.specs.Tailing.{begin_asking, IsEnd, IsStep, StandsAt, edits_in, IsPart, StopsShort, TailEnds, gives_edits, is_going, IsExact, IsGoing, Goes}
use Rattle.play_standby.proofs.LedLaws.{leads_none, leads_more}

-- ## What is heard
pub step_as : (x y : TailStep) (until : Option ℕ) (told now : List Heard) (images : List Image) (s : StandbyView) (t : Step) → x ≡ y → told ≡ now → IsStep x until told images s t
    → IsStep y until now images s t
step_as x y until told now images s t e f h = subst (λ (l : List Heard). IsStep y until l images s t) f (subst (λ (z : TailStep). IsStep z until told images s t) e h)

pub hears_edits : (nodes node : ℕ) (until : Option ℕ) (told : List Heard) (heard : Heard) (batch : BatchView) (h : Holding) → heard ≡ Answer (reply.Edits batch)
    → tail_hears nodes until node told heard h ≡ after_applied until (applied h.position (up_to until h.position batch.bodies) h.space) h
unfolding tail_hears
hears_edits nodes node until told heard batch h e = ap (λ (x : Heard). tail_hears nodes until node told x h) e

pub hears_other : (nodes node : ℕ) (until : Option ℕ) (told : List Heard) (heard : Heard) (h : Holding) → gives_edits heard ≡ false
    → tail_hears nodes until node told heard h ≡ no_edits nodes until node (told ++ heard ∷ []) h
unfolding tail_hears
hears_other nodes node until told Silent h e = refl
hears_other nodes node until told (Answer reply.Ok) h e = refl
hears_other nodes node until told (Answer (reply.State promised)) h e = refl
hears_other nodes node until told (Answer (reply.NewEpoch newest)) h e = refl
hears_other nodes node until told (Answer (reply.Prepared writer committed segment)) h e = refl
hears_other nodes node until told (Answer (reply.Edits batch)) h e = absurd (cc e)
hears_other nodes node until told (Answer (reply.Segments lines)) h e = refl
hears_other nodes node until told (Answer (reply.Refused refusal)) h e = refl

-- the last node of a pass
pub pass_over : (nodes : ℕ) (until : Option ℕ) (told now : List Heard) (heard : Heard) (images : List Image) (s : StandbyView) (work : Work) (t : Tailed) → now ≡ told ++ heard ∷ []
    → nat_lt (length told + 1) nodes ≡ false → IsEnd (Ends (pass_end until now) (held images s)) images s t
    → IsEnd (no_edits nodes until (length told + 1) (told ++ heard ∷ []) (with_work work (held images s))) images s t
pass_over nodes until told now heard images s work t e over h =
    let end : Ends (pass_end until now) (held images s) ≡ Ends (pass_end until (told ++ heard ∷ [])) (held images s) = ap (λ (l : List Heard). Ends (pass_end until l) (held images s)) e in
    let last : no_edits nodes until (length told + 1) (told ++ heard ∷ []) (with_work work (held images s)) ≡ Ends (pass_end until (told ++ heard ∷ [])) (held images s) =
    ap (λ (b : Bool). if b then GoesOn (with_work (Tails until (length told + 1 + 1) (told ++ heard ∷ [])) (held images s)) else Ends (pass_end until (told ++ heard ∷ [])) (held images s)) over in
    subst (λ (x : TailStep). IsEnd x images s t) (end ∙ sym last) h

pub over_when : (nodes : ℕ) (told now : List Heard) (heard : Heard) (count : ℕ) → now ≡ told ++ heard ∷ [] → count ≡ length now → nodes ≤ count → nat_lt (length told + 1) nodes ≡ false
over_when nodes told now heard count e is f =
    let same : length now ≡ length told + 1 = ap (λ (l : List Heard). length l) e ∙ length-append told (heard ∷ []) in
    let past : nodes ≤ length told + 1 = omega (arith, same, is, f) in
    grind (arith, nat_tests)

-- ## How many reads are left

-- ## Lack of memory
pub part_none : (bodies : List (List ℕ)) (s : StandbyView) → IsPart bodies s s
part_none bodies s = record { count = 0; applied = nothing_replayed s.position s.space; position = omega arith }

pub err_of : {T P : Type 0} (r : Result T AllocError) → P → OnErr r P
err_of (Ok x) p = tt
err_of (Err e) p = p

pub stops_silent : (nodes : ℕ) (begun : TailStep) (images : List Image) (before mid after : List PeerCall) (until : Option ℕ) (told : List Heard) (s : StandbyView)
    → LeadsTail nodes begun before mid (GoesOn (begin_asking until told (held images s))) → after ≡ mid → StopsShort nodes begun images before after s
stops_silent nodes begun images before mid after until told s l e = record {
  mid = mid;
  here = begin_asking until told (held images s);
  leads = l;
  last = None;
  asked = tt;
  grew = e ∙ sym (append-nil mid);
  count = 0;
  applied = nothing_replayed s.position s.space;
  position = omega arith;
}

pub stops_within : (nodes : ℕ) (begun : TailStep) (images : List Image) (before mid after : List PeerCall) (until : Option ℕ) (told : List Heard) (s new : StandbyView) (heard : Heard)
    → after ≡ mid ++ record { node = length told + 1; request = Read (s.position + 1); heard = heard } ∷ [] → IsPart (edits_in heard) s new
    → LeadsTail nodes begun before mid (GoesOn (begin_asking until told (held images s))) → StopsShort nodes begun images before after new
stops_within nodes begun images before mid after until told s new heard e p l = record {
  mid = mid;
  here = begin_asking until told (held images s);
  leads = l;
  last = Some (record { node = length told + 1; request = Read (s.position + 1); heard = heard });
  asked = refl;
  grew = e;
  count = p.count;
  applied = p.applied;
  position = p.position;
}

-- ## One read more
pub stands_more : (nodes : ℕ) (begun : TailStep) (images : List Image) (before mid after : List PeerCall) (until : Option ℕ) (told now : List Heard) (s new : StandbyView) (heard : Heard) (t : Step)
    → after ≡ mid ++ record { node = length told + 1; request = Read (s.position + 1); heard = heard } ∷ []
    → IsStep (tail_hears nodes until (length told + 1) told heard (begin_asking until told (held images s))) until now images new t
    → LeadsTail nodes begun before mid (GoesOn (begin_asking until told (held images s))) → StandsAt nodes begun before after until now images new t
stands_more nodes begun images before mid after until told now s new heard t e is l = record {
  here = tail_hears nodes until (length told + 1) told heard (begin_asking until told (held images s));
  leads = leads_more nodes begun before mid after (GoesOn (begin_asking until told (held images s))) (tail_hears nodes until (length told + 1) told heard (begin_asking until told (held images s)))
      (record { node = length told + 1; request = Read (s.position + 1); heard = heard }) l refl e refl;
  is = is;
}

-- ## Where a step stands: it goes on, or it ended
going_is : (t : Step) → is_going t ≡ true → t ≡ step.Going
going_is step.Going e = refl
going_is (step.Ended t) e = absurd (cc e)

-- where it began
pub goes_begun : (until : Option ℕ) (nodes : ℕ) (told : List Heard) (position : ℕ) (t : Step) → 1 ≤ nodes → told ≡ [] → IsGoing until position t → Goes until nodes told position t
goes_begun until nodes told position t some e g = subst (λ (l : List Heard). Goes until nodes l position t) (sym e) (by t g)
  where
    by : (u : Step) → IsGoing until position u → Goes until nodes [] position u
    by step.Going f = (f, omega (arith, some))
    by (step.Ended end) f = f

module _ (until : Option ℕ) (nodes : ℕ) (told : List Heard) (position : ℕ) (t : Step) (g : Goes until nodes told position t) where
  goes_at : is_going t ≡ true → Goes until nodes told position step.Going
  goes_at e = subst (λ (u : Step). Goes until nodes told position u) (going_is t e) g

  -- a node is still to be asked
  pub goes_some : is_going t ≡ true → length told < nodes
  goes_some e = let at = goes_at e in at.1

  -- before the end
  pub goes_until : is_going t ≡ true → ForSome until (λ last. position < last)
  goes_until e = let at = goes_at e in at.0

  pub goes_exact : (end : Tailed) → t ≡ step.Ended end → IsExact until position end
  goes_exact end e = subst (λ (u : Step). Goes until nodes told position u) e g

module _ (x : TailStep) (until : Option ℕ) (told : List Heard) (images : List Image) (s : StandbyView) (t : Step) (h : IsStep x until told images s t) where
  pub stands_on : is_going t ≡ true → x ≡ GoesOn (begin_asking until told (held images s))
  stands_on e = subst (λ (u : Step). IsStep x until told images s u) (going_is t e) h

  pub stands_end : (end : Tailed) → t ≡ step.Ended end → IsEnd x images s end
  stands_end end e = subst (λ (u : Step). IsStep x until told images s u) e h

-- what a loop over the steps of a tail rests on
pub ruleset stepping = (goes_begun, goes_some, goes_until, goes_exact, stands_on, stands_end)

-- ## The passes
pub record Passes (nodes : ℕ) (until : Option ℕ) (begun : List Image → TailStep) (before after : List PeerCall) (told : List Heard) (s : StandbyView) (t : Step) : Type 0 where
  pub stands : (images : List Image) → StandsAt nodes (begun images) before after until told images s t
  pub goes : Goes until nodes told s.position t

module _ (nodes : ℕ) (until : Option ℕ) (begun : List Image → TailStep) (before after : List PeerCall) (told : List Heard) (s : StandbyView)
    (t : Step) (h : Passes nodes until begun before after told s t) where
  pub passes_on : is_going t ≡ true → (images : List Image) → LeadsTail nodes (begun images) before after (GoesOn (begin_asking until told (held images s)))
  passes_on e images =
      let x = h.stands images in
      subst (λ (y : TailStep). LeadsTail nodes (begun images) before after y) (stands_on x.here until told images s t x.is e) x.leads

  pub passes_some : is_going t ≡ true → length told < nodes
  passes_some e = goes_some until nodes told s.position t h.goes e

  pub passes_until : is_going t ≡ true → ForSome until (λ last. s.position < last)
  passes_until e = goes_until until nodes told s.position t h.goes e

  pub passes_end : (end : Tailed) → t ≡ step.Ended end → (images : List Image) → TailEnds nodes (begun images) images before after s end
  passes_end end e images = let x = h.stands images in record { end = x.here; leads = x.leads; is = stands_end x.here until told images s t x.is end e }

pub passes_exact : (nodes : ℕ) (until : Option ℕ) (begun : List Image → TailStep) (before after : List PeerCall) (told : List Heard) (s : StandbyView) (t : Step)
    → Passes nodes until begun before after told s t → (end : Tailed) → t ≡ step.Ended end → IsExact until s.position end
passes_exact nodes until begun before after told s t h end e = goes_exact until nodes told s.position t h.goes end e

pub passes_begin : (nodes : ℕ) (until : Option ℕ) (calls : List PeerCall) (told : List Heard) (s : StandbyView) (t : Step) → 1 ≤ nodes → told ≡ [] → IsGoing until s.position t
    → ((images : List Image) (work : Work) → IsStep (pass_begun until (with_work work (held images s))) until [] images s t)
    → Passes nodes until (λ images. pass_begun until (held images s)) calls calls told s t
passes_begin nodes until calls told s t some e goes is = record {
  stands = λ images. record {
    here = pass_begun until (held images s);
    leads = leads_none nodes (pass_begun until (held images s)) calls;
    is = subst (λ (l : List Heard). IsStep (pass_begun until (held images s)) until l images s t) (sym e) (is images Free);
  };
  goes = goes_begun until nodes told s.position t some e goes;
}

pub ruleset passing = (passes_on, passes_some, passes_until, passes_end, passes_exact, passes_begin)
