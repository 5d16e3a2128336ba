-- A tail that is led by one read more.
use Rattle.std.proofs.Common.{◌≡◌, ℕ, List, [], ◌∷◌, ◌++◌, append_assoc, append-nil, Some, refl, sym, ap, ◌∙◌, subst}
use Rattle.journal_core.specs.declared.peer_call.PeerCall.{PeerCall}
use Rattle.play_names.specs.Tails.{TailStep}
use Rattle.play_standby.specs.Reads.{next_read, read_heard, AreReads, tail_along, LeadsTail}

along_more : (nodes : ℕ) (x : TailStep) (made : List PeerCall) (c : PeerCall) → tail_along nodes x (made ++ c ∷ []) ≡ read_heard nodes (tail_along nodes x made) c.heard
unfolding tail_along
along_more nodes x [] c = refl
along_more nodes x (d ∷ made) c = along_more nodes (read_heard nodes x d.heard) made c

reads_more : (nodes : ℕ) (x : TailStep) (made : List PeerCall) (c : PeerCall) → AreReads nodes x made → next_read (tail_along nodes x made) ≡ Some (c.node, c.request)
    → AreReads nodes x (made ++ c ∷ [])
unfolding AreReads tail_along
reads_more nodes x [] c h n = (n, tt)
reads_more nodes x (d ∷ made) c h n = (h.0, reads_more nodes (read_heard nodes x d.heard) made c h.1 n)

pub leads_none : (nodes : ℕ) (x : TailStep) (calls : List PeerCall) → LeadsTail nodes x calls calls x
unfolding AreReads tail_along
leads_none nodes x calls = record { made = []; grew = sym (append-nil calls); led = tt; stands = refl }

pub leads_more : (nodes : ℕ) (x : TailStep) (before mid after : List PeerCall) (old new : TailStep) (c : PeerCall) → LeadsTail nodes x before mid old → next_read old ≡ Some (c.node, c.request)
    → after ≡ mid ++ c ∷ [] → read_heard nodes old c.heard ≡ new → LeadsTail nodes x before after new
leads_more nodes x before mid after old new c l next grew is = record {
  made = l.made ++ c ∷ [];
  grew = grew ∙ ap (λ (cs : List PeerCall). cs ++ c ∷ []) l.grew ∙ append_assoc before l.made (c ∷ []);
  led = reads_more nodes x l.made c l.led (subst (λ (s : TailStep). next_read s ≡ Some (c.node, c.request)) l.stands next);
  stands = sym is ∙ ap (λ (s : TailStep). read_heard nodes s c.heard) l.stands ∙ sym (along_more nodes x l.made c);
}
