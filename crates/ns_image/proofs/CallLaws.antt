-- Calls that are read are those that were written, and what was written is read again.
use Rattle.std.proofs.Common.{◌≡◌, ℕ, zero, suc, ◌+◌, ◌-◌, ◌^◌, ◌<◌, ◌≤◌, true, false, List, [], ◌∷◌, ◌++◌, length, get_or, take, drop, Ok, refl, sym}
use Rattle.std.proofs.Common.{ap, subst, ◌∙◌, append_assoc, arith, Option, Some, None, ◌⊎◌, inl, inr}
use Rattle.std.specs.Prelude.{nat_le, is_none}
use Rattle.std.specs.List.{flat_map, AllByRecursion}
use Rattle.std.specs.Int.{w32, w64, to_be_bytes}
use Rattle.std.proofs.lemmas.Bool.{leb-true, le-leb}
use Rattle.std.proofs.lemmas.List.{take_at, drop_at, append-nil, length-append, length-take, length_push}
use Rattle.base_words.specs.Fields.{IsBytes}
use Rattle.base_words.proofs.FieldLaws.{Begins, Begins-then, begins_cut, field32, field64}
use Rattle.edit_ops.proofs.SourceLaws.{ok_is}
use Rattle.edit_ops.specs.declared.call.Call.{Call}
use Rattle.ns_tree.specs.declared.inode.Noted.{Noted}
use Rattle.ns_tree.specs.declared.inode.Row.{Row}
use Rattle.ns_tree.specs.Space.{Space, txid_of, same_call, most_calls, AreRising, AreOtherCalls, AreDistinct}
use Rattle.ns_tree.specs.Places.{IsTree}
use Rattle.ns_tree.proofs.Noting.{last_room, sound_noted, rising_later, same_swapped}
use Rattle.ns_image.specs.declared.image_cause.ImageCause.TheVariants.{Short, Field}
use Rattle.ns_image.specs.Layouts.{call_bytes, calls_bytes}
use Rattle.ns_image.specs.Reading.{client_at, last_txid, new_call_at, call_at, calls_at}
use Rattle.ns_image.specs.Laws.{IsSent}
use Rattle.ns_image.proofs.FieldLaws.{bind_ok, wanted_ok, whole_takes, whole_again, number_takes, number_again}
use Rattle.ns_image.proofs.Items.{AreNext, OneTaken, many_take, many_again}

-- ## Clients
client_takes : {bytes : List ℕ} {x : List ℕ × List ℕ} → IsBytes bytes → client_at bytes ≡ Ok x → Begins bytes x.0 x.1 × (length x.0 ≡ 16)
unfolding client_at
client_takes {bytes = bytes} {x = x} fits e =
    let g = wanted_ok (nat_le 16 (length bytes)) Short bytes (take 16 bytes, drop 16 bytes) x e in
    let long : 16 ≤ length bytes = leb-true _ _ g.0 in
    subst (λ (y : List ℕ × List ℕ). Begins bytes y.0 y.1 × (length y.0 ≡ 16)) g.1 (begins_cut 16 bytes fits, omega (arith, long, length-take 16 bytes))

client_again : (client rest : List ℕ) → length client ≡ 16 → client_at (client ++ rest) ≡ Ok (client, rest)
unfolding client_at
client_again client rest len =
    let long : nat_le 16 (length (client ++ rest)) ≡ true = le-leb _ _ (omega (arith, len, length-append client rest)) in
    rw (long, take_at client rest 16 len, drop_at client rest 16 len) refl

-- ## One call more
is_new : (o : Option ℕ) → is_none o ≡ true → o ≡ None
is_new None e = refl
is_new (Some n) e = absurd (cc e)

record NewCallTaken (calls : List Noted) (bytes : List ℕ) (x : Call × List ℕ) : Type 0 where
  taken : Begins bytes (x.0.client ++ to_be_bytes w32 x.0.number) x.1
  client : length x.0.client ≡ 16
  number : x.0.number < 2 ^ 32
  new : txid_of x.0 calls ≡ None

new_call_takes : {calls : List Noted} {bytes : List ℕ} {x : Call × List ℕ} → IsBytes bytes → new_call_at calls bytes ≡ Ok x → NewCallTaken calls bytes x
unfolding new_call_at
new_call_takes {calls = calls} {bytes = bytes} {x = x} fits e =
    let c = bind_ok e in
    let n = bind_ok c.2 in
    let tc = client_takes {bytes = bytes} {x = c.0} fits c.1 in
    let tn = whole_takes field32 tc.0.left n.1 in
    let call : Call = record { client = c.0.0; number = n.0.0 } in
    let g = wanted_ok (is_none (txid_of call calls)) Field bytes (call, n.0.1) x n.2 in
    subst (λ (y : Call × List ℕ). NewCallTaken calls bytes y) g.1 (record { taken = Begins-then tc.0 tn.0; client = tc.1; number = tn.1; new = is_new (txid_of call calls) g.0 })

-- a call that may come after others, up to the image's txid
pub record MayFollow (txid : ℕ) (calls : List Noted) (one : Noted) : Type 0 where
  pub sent : IsSent one
  pub new : txid_of one.call calls ≡ None
  pub above : last_txid calls + 1 ≤ one.txid
  pub most : one.txid ≤ txid

call_takes : (txid : ℕ) (calls : List Noted) (bytes : List ℕ) (x : List Noted × List ℕ) → IsBytes bytes → call_at txid calls bytes ≡ Ok x
    → OneTaken (call_at txid) call_bytes (MayFollow txid) calls bytes x
unfolding call_at
call_takes txid calls bytes x fits e =
    let c = bind_ok e in
    let a = bind_ok c.2 in
    let tc = new_call_takes {calls = calls} {bytes = bytes} {x = c.0} fits c.1 in
    let ta = number_takes field64 _ tc.taken.left a.1 in
    let one : Noted = record { call = c.0.0; txid = a.0.0 } in
    let text : Begins bytes (call_bytes one) a.0.1 = subst (λ (t : List ℕ). Begins bytes t a.0.1)
    (append_assoc c.0.0.client (to_be_bytes w32 c.0.0.number) (to_be_bytes w64 a.0.0)) (Begins-then tc.taken ta.0) in
    let may : MayFollow txid calls one = record { sent = record { client = tc.client; number = tc.number }; new = tc.new; above = ta.1; most = ta.2 } in
    subst (λ (y : List Noted × List ℕ). OneTaken (call_at txid) call_bytes (MayFollow txid) calls bytes y) (ok_is (calls ++ one ∷ [], a.0.1) x a.2)
    (record { item = one; all = refl; taken = text; may = may })

call_again : (txid : ℕ) → txid < 2 ^ 64 → (calls : List Noted) (one : Noted) (rest : List ℕ) → MayFollow txid calls one → call_at txid calls (call_bytes one ++ rest) ≡ Ok (calls ++ one ∷ [], rest)
unfolding call_at new_call_at
call_again txid fits calls one rest may =
    let regrouped : call_bytes one ++ rest ≡ one.call.client ++ (to_be_bytes w32 one.call.number ++ (to_be_bytes w64 one.txid ++ rest)) =
    by one.call.client (to_be_bytes w32 one.call.number) (to_be_bytes w64 one.txid) in
    let most = may.most in
    let new = may.new in
    ap (call_at txid calls) regrouped
    ∙ rw (
      client_again one.call.client (to_be_bytes w32 one.call.number ++ (to_be_bytes w64 one.txid ++ rest)) may.sent.client,
      whole_again field32 one.call.number (to_be_bytes w64 one.txid ++ rest) may.sent.number,
      new,
      number_again field64 (last_txid calls + 1) txid Field one.txid rest (omega (arith, most, fits)) may.above most,
    ) refl
  where
    by : (a b c : List ℕ) → (a ++ (b ++ c)) ++ rest ≡ a ++ (b ++ (c ++ rest))
    by a b c = simp append_assoc

abbrev pub MayGoOnTo : ℕ → List Noted → List Noted → Type 0
MayGoOnTo txid = AreNext (call_at txid) call_bytes (MayFollow txid)

-- ## The calls of an image
-- layout 1 has none
abbrev pub HasLayout : ℕ → List Noted → Type 0
HasLayout layout calls = ((layout ≡ 1) × (calls ≡ [])) ⊎ (layout ≡ 2)

few_calls : (n : ℕ) → n ≤ 1024 → n < 2 ^ 32
few_calls n le = omega (arith, le)

pub record AllCallsTaken (layout txid : ℕ) (bytes : List ℕ) (x : List Noted × List ℕ) : Type 0 where
  pub taken : Begins bytes (calls_bytes layout x.0) x.1
  pub layout_is : HasLayout layout x.0
  pub few : length x.0 ≤ 1024
  pub good : MayGoOnTo txid [] x.0

pub calls_take : (layout txid : ℕ) (bytes : List ℕ) (x : List Noted × List ℕ) → 1 ≤ layout → layout ≤ 2 → IsBytes bytes → calls_at layout txid bytes ≡ Ok x → AllCallsTaken layout txid bytes x
unfolding calls_at
calls_take zero txid bytes x low high fits e = absurd (omega (arith, low))
calls_take (suc zero) txid bytes x low high fits e =
    subst (λ (y : List Noted × List ℕ). AllCallsTaken 1 txid bytes y) (ok_is ([], bytes) x e)
    (record { taken = record { spelled = refl; left = fits }; layout_is = inl (refl, refl); few = omega arith; good = tt })
calls_take (suc (suc zero)) txid bytes x low high fits e =
    let c = bind_ok e in
    let t = number_takes field32 _ fits c.1 in
    let m = many_take (call_at txid) call_bytes (MayFollow txid) (call_takes txid) c.0.0 [] c.0.1 x t.0.left c.2 in
    let counted : Begins bytes (calls_bytes 2 m.more) x.1 = subst (λ (n : ℕ). Begins bytes (to_be_bytes w32 n ++ flat_map call_bytes m.more) x.1) (sym m.counted) (Begins-then t.0 m.taken) in
    subst (λ (ns : List Noted). AllCallsTaken 2 txid bytes (ns, x.1)) (sym m.all) (record { taken = counted; layout_is = inr refl; few = omega (arith, t.2, m.counted); good = m.good })
calls_take (suc (suc (suc n))) txid bytes x low high fits e = absurd (omega (arith, high))

pub calls_again : (layout txid : ℕ) (calls : List Noted) (rest : List ℕ) → HasLayout layout calls → txid < 2 ^ 64 → length calls ≤ 1024
    → MayGoOnTo txid [] calls → calls_at layout txid (calls_bytes layout calls ++ rest) ≡ Ok (calls, rest)
unfolding calls_at
calls_again layout txid calls rest (inl h) fits few good = rw (h.0, h.1) refl
calls_again layout txid calls rest (inr h) fits few good =
    let regrouped : calls_bytes 2 calls ++ rest ≡ to_be_bytes w32 (length calls) ++ (flat_map call_bytes calls ++ rest) =
    append_assoc (to_be_bytes w32 (length calls)) (flat_map call_bytes calls) rest in
    let two : calls_at 2 txid (calls_bytes 2 calls ++ rest) ≡ Ok (calls, rest) = ap (calls_at 2 txid) regrouped
    ∙ rw (number_again field32 0 most_calls Field (length calls) (flat_map call_bytes calls ++ rest) (few_calls (length calls) few)
    (omega arith) few) (many_again (call_at txid) call_bytes (MayFollow txid) (call_again txid fits) [] calls rest good) in
    subst (λ (n : ℕ). calls_at n txid (calls_bytes n calls ++ rest) ≡ Ok (calls, rest)) (sym h) two

-- ## The calls of a namespace
last_snoc : (calls : List Noted) (one : Noted) → last_txid (calls ++ one ∷ []) ≡ one.txid
last_snoc [] one = refl
last_snoc (c ∷ []) one = refl
last_snoc (c ∷ d ∷ calls) one = last_snoc (d ∷ calls) one

-- where the list goes on with a call, its txid is above the last
rising_next : (above txid : ℕ) (calls : List Noted) (one : Noted) (more : List Noted) → AreRising above txid (calls ++ one ∷ more) → (last_txid calls + 1 ≤ one.txid) × (one.txid ≤ txid)
rising_next above txid [] one more h = (omega (arith, h.0), upper one.txid more h.1)
  where
    upper : (low : ℕ) (ns : List Noted) → AreRising low txid ns → low ≤ txid
    upper low [] h = h
    upper low (n ∷ ns) h = let rest : n.txid ≤ txid = upper n.txid ns h.1 in omega (arith, h.0, rest)
rising_next above txid (c ∷ []) one more h = let r = rising_next c.txid txid [] one more h.1 in (omega (arith, h.1.0), r.1)
rising_next above txid (c ∷ d ∷ calls) one more h = rising_next c.txid txid (d ∷ calls) one more h.1

off : (c one : Noted) (ns more : List Noted) → AreOtherCalls c.call (ns ++ one ∷ more) → same_call c.call one.call ≡ false
off c one [] more g = same_swapped one.call c.call g.0
off c one (n ∷ ns) more g = off c one ns more g.1

-- a call that is another one than all of a list isn't found there
others_off : (calls : List Noted) (one : Noted) (more : List Noted) → AreDistinct (calls ++ one ∷ more) → txid_of one.call calls ≡ None
others_off [] one more h = refl
others_off (c ∷ calls) one more h = let here : same_call c.call one.call ≡ false = off c one calls more h.0 in rw here (others_off calls one more h.1)

next_calls : (txid : ℕ) (calls more : List Noted) → AreRising 0 txid (calls ++ more) → AreDistinct (calls ++ more) → AllByRecursion IsSent more → MayGoOnTo txid calls more
next_calls txid calls [] rising distinct sent = tt
next_calls txid calls (one ∷ more) rising distinct sent =
    let r = rising_next 0 txid calls one more rising in
    let whole : (calls ++ one ∷ []) ++ more ≡ calls ++ one ∷ more = append_assoc calls (one ∷ []) more in
    let may : MayFollow txid calls one = record { sent = sent.0; new = others_off calls one more distinct; above = r.0; most = r.1 } in
    (may, next_calls txid (calls ++ one ∷ []) more (subst (AreRising 0 txid) (sym whole) rising) (subst AreDistinct (sym whole) distinct) sent.1)

pub all_next : (s : Space) (txid : ℕ) → IsTree s → AreRising 0 txid s.calls → AllByRecursion IsSent s.calls → MayGoOnTo txid [] s.calls
all_next s txid h rising sent = next_calls txid [] s.calls rising h.distinct sent

-- ## Calls that were read make a retry list
-- what is known of the calls so far
record AreSoFar (rows : List Row) (calls : List Noted) : Type 0 where
  tree : IsTree (record { pairs = rows; calls = calls })
  rising : AreRising 0 (last_txid calls) calls

rising_one : (above : ℕ) (calls : List Noted) (one : Noted) → AreRising above (last_txid calls) calls → last_txid calls + 1 ≤ one.txid
    → above + 1 ≤ one.txid → AreRising above one.txid (calls ++ one ∷ [])
rising_one above [] one h more low = (omega (arith, low), omega arith)
rising_one above (c ∷ []) one h more low = (h.0, (omega (arith, more), omega arith))
rising_one above (c ∷ d ∷ calls) one h more low = (h.0, rising_one c.txid (d ∷ calls) one h.1 more (upper c.txid (d ∷ calls) h.1))
  where
    upper : (a : ℕ) (ns : List Noted) → AreRising a (last_txid (d ∷ calls)) ns → a + 1 ≤ one.txid
    upper a [] g = omega (arith, g, more)
    upper a (n ∷ ns) g = let rest : n.txid + 1 ≤ one.txid = upper n.txid ns g.1 in omega (arith, g.0, rest)

low_of : (calls : List Noted) (one : Noted) → last_txid calls + 1 ≤ one.txid → 0 + 1 ≤ one.txid
low_of calls one h = omega (arith, h)

so_far_one : (rows : List Row) (calls : List Noted) (one : Noted) (txid : ℕ) → AreSoFar rows calls → length calls < 1024 → txid ≤ 2 ^ 62
    → txid_of one.call calls ≡ None → last_txid calls + 1 ≤ one.txid → one.txid ≤ txid
    → AreSoFar rows (calls ++ one ∷ [])
so_far_one rows calls one txid h room most new above below =
    let later : AreRising 0 (one.txid - 1) calls = rising_later 0 (last_txid calls) (one.txid - 1) calls (omega (arith, above)) h.rising in
    let noted_tree = sound_noted (record { pairs = rows; calls = calls }) one.call one.txid h.tree new (low_of calls one above) (omega (arith, below, most)) later in
    record {
      tree = subst (λ (ns : List Noted). IsTree (record { pairs = rows; calls = ns })) (last_room calls one room) noted_tree;
      rising = subst (λ (n : ℕ). AreRising 0 n (calls ++ one ∷ [])) (sym (last_snoc calls one)) (rising_one 0 calls one h.rising above (low_of calls one above));
    }

pub record AreAll (rows : List Row) (txid : ℕ) (calls more : List Noted) : Type 0 where
  pub tree : IsTree (record { pairs = rows; calls = calls ++ more })
  pub rising : AreRising 0 txid (calls ++ more)
  pub sent : AllByRecursion IsSent more

so_far_all : (rows : List Row) (txid : ℕ) (calls more : List Noted) → AreSoFar rows calls → length calls + length more ≤ 1024 → txid ≤ 2 ^ 62
    → last_txid calls ≤ txid → MayGoOnTo txid calls more → AreAll rows txid calls more
so_far_all rows txid calls [] h few most last next =
    record {
      tree = subst (λ (ns : List Noted). IsTree (record { pairs = rows; calls = ns })) (sym (append-nil calls)) h.tree;
      rising = subst (AreRising 0 txid) (sym (append-nil calls)) (rising_later 0 (last_txid calls) txid calls last h.rising);
      sent = tt;
    }
so_far_all rows txid calls (one ∷ more) h few most last next =
    let whole : (calls ++ one ∷ []) ++ more ≡ calls ++ one ∷ more = append_assoc calls (one ∷ []) more in
    let below = next.0.most in
    let one_more = so_far_one rows calls one txid h (omega (arith, few)) most next.0.new next.0.above below in
    let rest = so_far_all rows txid (calls ++ one ∷ []) more one_more (omega (arith, few, length_push calls one)) most (omega (arith, last_snoc calls one, below)) next.1 in
    record {
      tree = subst (λ (ns : List Noted). IsTree (record { pairs = rows; calls = ns })) whole rest.tree;
      rising = subst (AreRising 0 txid) whole rest.rising;
      sent = (next.0.sent, rest.sent);
    }

pub all_read : (rows : List Row) (txid : ℕ) (calls : List Noted) → IsTree (record { pairs = rows; calls = [] }) → length calls ≤ 1024 → txid ≤ 2 ^ 62
    → MayGoOnTo txid [] calls → AreAll rows txid [] calls
all_read rows txid calls tree few most good = so_far_all rows txid [] calls (record { tree = tree; rising = omega arith }) (omega (arith, few)) most (omega arith) good

-- ## The last call
pub last_noted : (calls : List Noted) (d : Noted) → d.txid ≡ 0 → (get_or calls (length calls - 1) d).txid ≡ last_txid calls
last_noted [] d e = e
last_noted (c ∷ []) d e = refl
last_noted (c ∷ b ∷ calls) d e =
    let k : length (c ∷ b ∷ calls) - 1 ≡ suc (length (b ∷ calls) - 1) = omega arith in
    ap (λ (n : ℕ). (get_or (c ∷ b ∷ calls) n d).txid) k ∙ last_noted (b ∷ calls) d e

pub last_below : (above txid : ℕ) (calls : List Noted) → AreRising above txid calls → last_txid calls ≤ txid
last_below above txid [] h = omega arith
last_below above txid (c ∷ []) h = h.1
last_below above txid (c ∷ b ∷ calls) h = last_below c.txid txid (b ∷ calls) h.1

above_last : (above txid : ℕ) (c : Noted) (calls : List Noted) → AreRising above txid (c ∷ calls) → above + 1 ≤ last_txid (c ∷ calls)
above_last above txid c [] h = omega (arith, h.0)
above_last above txid c (b ∷ calls) h = let rest : c.txid + 1 ≤ last_txid (b ∷ calls) = above_last c.txid txid b calls h.1 in omega (arith, h.0, rest)

pub rising_to : (above txid to : ℕ) (calls : List Noted) → AreRising above txid calls → last_txid calls ≤ to → above ≤ to → AreRising above to calls
rising_to above txid to [] h last low = low
rising_to above txid to (c ∷ []) h last low = (h.0, last)
rising_to above txid to (c ∷ b ∷ calls) h last low =
    let rest : c.txid + 1 ≤ last_txid (b ∷ calls) = above_last c.txid txid b calls h.1 in
    (h.0, rising_to c.txid txid to (b ∷ calls) h.1 last (omega (arith, rest, last)))
