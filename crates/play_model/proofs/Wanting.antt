-- What an actor wants, read backwards.
use Rattle.std.proofs.Common.{◌≡◌, ℕ, List, [], ◌∷◌, Bool, false, refl, sym, ap, ◌∙◌}
use Rattle.std.specs.Prelude.{Option, Some, None}
use Rattle.journal_core.specs.declared.request.Request.{Request}
use Rattle.writer_core.specs.Writer.{next_call}
use Rattle.journal_history.specs.declared.node_ask.NodeAsk.{NodeAsk}
use Rattle.journal_history.specs.declared.record.Record.TheVariants.{Call, Late, Operator, Outcome}
use Rattle.journal_history.specs.declared.record.Told.{Told}
use Rattle.play_names.specs.Holding.{Holding, Work, Free, Tails, Logs, Broken}
use Rattle.play_model.specs.Actor.{Actor, Want, WantsCall, WantsCopy, Says, Rests, wants, is_wanting, call_wanted, work_read, read_first, copy_first, say_first, Fits}

-- what an actor wants that has nothing to say and no copy to send: a read of its tail, or its
-- writer's call
abbrev pub reads_or_calls : Actor → Want
reads_or_calls a = read_first a.holds (call_wanted (next_call a.writer))

-- an actor that wants a call, a copy, or nothing
pub record Calling (k : ℕ) (q : Request) (a : Actor) : Type 0 where
  pub says : a.says ≡ []
  pub copies : a.copies ≡ None
  pub want : reads_or_calls a ≡ WantsCall k q

pub record Copying (k : ℕ) (q : Request) (a : Actor) : Type 0 where
  pub says : a.says ≡ []
  pub copies : a.copies ≡ Some (k, q)

pub record Resting (a : Actor) : Type 0 where
  pub says : a.says ≡ []
  pub copies : a.copies ≡ None
  pub want : is_wanting (reads_or_calls a) ≡ false

pub record Saying (t : List ℕ) (a : Actor) : Type 0 where
  pub rest : List (List ℕ)
  pub says : a.says ≡ t ∷ rest

abbrev pair : ℕ → Request → ℕ × Request
pair k q = (k, q)

pair_is : (c : ℕ × Request) (k : ℕ) (q : Request) → c.0 ≡ k → c.1 ≡ q → c ≡ (k, q)
pair_is c k q e f = ap (λ (x : ℕ). pair x c.1) e ∙ ap (λ (y : Request). pair k y) f

abbrev pub sending : ℕ → Request → Option (ℕ × Request)
sending k q = Some (k, q)

pub same_sending : (k i : ℕ) (q p : Request) → sending k q ≡ sending i p → (k ≡ i) × (q ≡ p)
same_sending k i q p e =
    let whole : pair k q ≡ pair i p = cc e in
    (ap (λ (c : ℕ × Request). c.0) whole, ap (λ (c : ℕ × Request). c.1) whole)

pub call_by : (o : Option (ℕ × Request)) (k : ℕ) (q : Request) → call_wanted o ≡ WantsCall k q → o ≡ Some (k, q)
unfolding call_wanted
call_by None k q e = absurd (cc e)
call_by (Some c) k q e = let first : c.0 ≡ k = cc e in let second : c.1 ≡ q = cc e in let whole : c ≡ (k, q) = pair_is c k q first second in ap (λ (x : ℕ × Request). Some x) whole

no_copy_in : (o : Option (ℕ × Request)) (k : ℕ) (q : Request) → call_wanted o ≡ WantsCopy k q → ⊥
unfolding call_wanted
no_copy_in None k q e = cc e
no_copy_in (Some c) k q e = cc e

pub rests_by : (o : Option (ℕ × Request)) → is_wanting (call_wanted o) ≡ false → o ≡ None
unfolding call_wanted is_wanting
rests_by None e = refl
rests_by (Some c) e = absurd (cc e)

-- a read is a call
no_copy_read : (w : Work) (n : ℕ) (o : Option (ℕ × Request)) (k : ℕ) (q : Request) → work_read w n (call_wanted o) ≡ WantsCopy k q → ⊥
no_copy_read Free n o k q e = no_copy_in o k q e
no_copy_read (Tails until node told) n o k q e = cc e
no_copy_read (Logs ahead dues) n o k q e = no_copy_in o k q e
no_copy_read Broken n o k q e = no_copy_in o k q e

no_copy_first : (h : Option Holding) (o : Option (ℕ × Request)) (k : ℕ) (q : Request) → read_first h (call_wanted o) ≡ WantsCopy k q → ⊥
unfolding read_first
no_copy_first None o k q e = no_copy_in o k q e
no_copy_first (Some h) o k q e = no_copy_read h.work h.position o k q e

no_text_in : (o : Option (ℕ × Request)) (t : List ℕ) → call_wanted o ≡ Says t → ⊥
unfolding call_wanted
no_text_in None t e = cc e
no_text_in (Some c) t e = cc e

no_text_read : (w : Work) (n : ℕ) (o : Option (ℕ × Request)) (t : List ℕ) → work_read w n (call_wanted o) ≡ Says t → ⊥
no_text_read Free n o t e = no_text_in o t e
no_text_read (Tails until node told) n o t e = cc e
no_text_read (Logs ahead dues) n o t e = no_text_in o t e
no_text_read Broken n o t e = no_text_in o t e

no_text_first : (h : Option Holding) (o : Option (ℕ × Request)) (t : List ℕ) → read_first h (call_wanted o) ≡ Says t → ⊥
unfolding read_first
no_text_first None o t e = no_text_in o t e
no_text_first (Some h) o t e = no_text_read h.work h.position o t e

pub calling : (a : Actor) (k : ℕ) (q : Request) → wants a ≡ WantsCall k q → Calling k q a
unfolding wants say_first copy_first
calling a k q e = by a.says a.copies refl refl e
  where
    by : (s : List (List ℕ)) (o : Option (ℕ × Request)) → a.says ≡ s → a.copies ≡ o → say_first s (copy_first o (reads_or_calls a)) ≡ WantsCall k q → Calling k q a
    by [] None f g h = record { says = f; copies = g; want = h }
    by [] (Some c) f g h = absurd (cc h)
    by (t ∷ ts) o f g h = absurd (cc h)

pub copying : (a : Actor) (k : ℕ) (q : Request) → wants a ≡ WantsCopy k q → Copying k q a
unfolding wants say_first copy_first
copying a k q e = by a.says a.copies refl refl e
  where
    by : (s : List (List ℕ)) (o : Option (ℕ × Request)) → a.says ≡ s → a.copies ≡ o → say_first s (copy_first o (reads_or_calls a)) ≡ WantsCopy k q → Copying k q a
    by [] None f g h = absurd (no_copy_first a.holds (next_call a.writer) k q h)
    by [] (Some c) f g h = let first : c.0 ≡ k = cc h in let second : c.1 ≡ q = cc h in let whole : c ≡ (k, q) =
        pair_is c k q first second in record { says = f; copies = g ∙ ap (λ (x : ℕ × Request). Some x) whole }
    by (t ∷ ts) o f g h = absurd (cc h)

pub resting : (a : Actor) → is_wanting (wants a) ≡ false → Resting a
unfolding wants say_first copy_first is_wanting
resting a e = by a.says a.copies refl refl e
  where
    by : (s : List (List ℕ)) (o : Option (ℕ × Request)) → a.says ≡ s → a.copies ≡ o → is_wanting (say_first s (copy_first o (reads_or_calls a))) ≡ false → Resting a
    by [] None f g h = record { says = f; copies = g; want = h }
    by [] (Some c) f g h = absurd (cc h)
    by (t ∷ ts) o f g h = absurd (cc h)

pub saying : (a : Actor) (t : List ℕ) → wants a ≡ Says t → Saying t a
unfolding wants say_first copy_first
saying a t e = by a.says a.copies refl e
  where
    by : (s : List (List ℕ)) (o : Option (ℕ × Request)) → a.says ≡ s → say_first s (copy_first o (reads_or_calls a)) ≡ Says t → Saying t a
    by [] None f h = absurd (no_text_first a.holds (next_call a.writer) t h)
    by [] (Some x) f h = absurd (cc h)
    by (x ∷ xs) o f h = let same : x ≡ t = cc h in record { rest = xs; says = f ∙ ap (λ (z : List ℕ). z ∷ xs) same }

-- ## Without names
raw_want : (a : Actor) → a.holds ≡ None → call_wanted (next_call a.writer) ≡ reads_or_calls a
unfolding read_first
raw_want a e = sym (ap (λ (o : Option Holding). read_first o (call_wanted (next_call a.writer))) e)

-- the call is the writer's
pub raw_call : (a : Actor) (k : ℕ) (q : Request) → a.holds ≡ None → Calling k q a → next_call a.writer ≡ Some (k, q)
raw_call a k q e c = call_by (next_call a.writer) k q (raw_want a e ∙ c.want)

pub raw_rest : (a : Actor) → a.holds ≡ None → Resting a → next_call a.writer ≡ None
raw_rest a e r = rests_by (next_call a.writer) (ap is_wanting (raw_want a e) ∙ r.want)

pub rests_is : (w : Want) → w ≡ Rests → is_wanting w ≡ false
unfolding is_wanting
rests_is w e = ap is_wanting e

-- ## What fits a want
pub call_want : (w : Want) (k : ℕ) (q : Request) (t : Told) → Fits w (Call k q t) → w ≡ WantsCall k q
unfolding Fits
call_want (WantsCall i p) k q t h = cc (h.0, h.1)
call_want (WantsCopy i p) k q t h = absurd h
call_want (Says x) k q t h = absurd h
call_want Rests k q t h = absurd h

pub copy_want : (w : Want) (k : ℕ) (q : Request) → Fits w (Late k q) → w ≡ WantsCopy k q
unfolding Fits
copy_want (WantsCall i p) k q h = absurd h
copy_want (WantsCopy i p) k q h = cc (h.0, h.1)
copy_want (Says x) k q h = absurd h
copy_want Rests k q h = absurd h

pub says_want : (w : Want) (x : List ℕ) → Fits w (Outcome x) → w ≡ Says x
unfolding Fits
says_want (WantsCall i p) x h = absurd h
says_want (WantsCopy i p) x h = absurd h
says_want (Says t) x h = ap Says (sym h)
says_want Rests x h = absurd h

pub fits_calling : (a : Actor) (k : ℕ) (q : Request) (t : Told) → Fits (wants a) (Call k q t) → Calling k q a
fits_calling a k q t h = calling a k q (call_want (wants a) k q t h)

pub fits_copying : (a : Actor) (k : ℕ) (q : Request) → Fits (wants a) (Late k q) → Copying k q a
fits_copying a k q h = copying a k q (copy_want (wants a) k q h)

pub fits_saying : (a : Actor) (x : List ℕ) → Fits (wants a) (Outcome x) → Saying x a
fits_saying a x h = saying a x (says_want (wants a) x h)

pub no_operation : (w : Want) (k : ℕ) (ask : NodeAsk) (d : Bool) → Fits w (Operator k ask d) → ⊥
unfolding Fits
no_operation (WantsCall i p) k ask d h = h
no_operation (WantsCopy i p) k ask d h = h
no_operation (Says t) k ask d h = h
no_operation Rests k ask d h = h
