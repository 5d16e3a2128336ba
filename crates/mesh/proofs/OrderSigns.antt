-- The epoch order with the caller and the place of each entry.
use Rattle.std.proofs.Common.{◌≡◌, ℕ, zero, suc, ◌+◌, ◌<◌, ◌⊎◌, inl, inr, List, [], ◌∷◌, ◌++◌, Bool, true, false, cond, length, map, get_or, refl}
use Rattle.std.proofs.Common.{sym, ap, ◌∙◌, subst, arith, append_assoc, Option, Some, None}
use Rattle.journal_history.specs.declared.history_line.HistoryLine.{HistoryLine}
use Rattle.journal_history.specs.Cell.{Cell, cell_takes, fresh_cell}
use Rattle.journal_history.specs.Entries.{Entry}
use Rattle.journal_history.specs.Moving.{falls}
use Rattle.mesh.specs.declared.whole.Mesh.{Mesh}
use Rattle.mesh.specs.Order.{Key, key_of, is_below, Tagged, tag_first, tags_of, Block, block_of, with_fall, blocks_cut, front_block, blocks_at, blocks_from, put_block, sorted, entries_in, epoch_order}
use Rattle.mesh.proofs.Lists.{append_none}
use Rattle.mesh.proofs.Shared.{In}
use Rattle.mesh.proofs.Signs.{Sign, entries, sign}
use Rattle.mesh.specs.Agree.{history_at}
use Rattle.mesh.proofs.Matching.{entry_here, place_here, Listed}

-- ## The moving lines of a history
pub record Marked : Type 0 where
  pub sign : Sign
  pub key : Key

abbrev pub mark_first : Option Entry → ℕ → ℕ → Key → List Marked → List Marked
mark_first None caller place key ts = ts
mark_first (Some e) caller place key ts = record { sign = sign e caller place; key = key } ∷ ts

unfoldable pub marks_of : Mesh → ℕ → Cell → List HistoryLine → List HistoryLine → List Marked
marks_of m k cell past [] = []
marks_of m k cell past (h ∷ hs) =
    mark_first (entry_here m k past h) h.caller (place_here m k past h) (key_of m k (cell_takes cell h.ask).cell.state.promised past h)
    (marks_of m k (cell_takes cell h.ask).cell (past ++ h ∷ []) hs)

abbrev tag : Marked → Tagged
tag t = record { entry = t.sign.entry; key = t.key }

first_tag : (o : Option Entry) (c p : ℕ) (key : Key) (ts : List Marked) (us : List Tagged) → map tag ts ≡ us → map tag (mark_first o c p key ts) ≡ tag_first o key us
first_tag None c p key ts us e = e
first_tag (Some x) c p key ts us e = ap (λ (l : List Tagged). record { entry = x; key = key } ∷ l) e

tags_are : (m : Mesh) (k : ℕ) (cell : Cell) (past hs : List HistoryLine) → map tag (marks_of m k cell past hs) ≡ tags_of m k cell past hs
unfolding marks_of tags_of
tags_are m k cell past [] = refl
tags_are m k cell past (h ∷ hs) =
    first_tag (entry_here m k past h) h.caller (place_here m k past h) (key_of m k (cell_takes cell h.ask).cell.state.promised past h)
    (marks_of m k (cell_takes cell h.ask).cell (past ++ h ∷ []) hs) (tags_of m k (cell_takes cell h.ask).cell (past ++ h ∷ []) hs) (tags_are m k (cell_takes cell h.ask).cell (past ++ h ∷ []) hs)

-- ## Blocks
pub record SignBlock : Type 0 where
  pub node : ℕ
  pub key : Key
  pub first : Option Sign
  pub rest : List Sign

abbrev pub first_onto : Option Sign → List Sign → List Sign
first_onto None ss = ss
first_onto (Some s) ss = s ∷ ss

abbrev pub signs_of : SignBlock → List Sign
signs_of b = first_onto b.first b.rest

abbrev pub with_rest : SignBlock → Sign → SignBlock
with_rest b s = record b { rest = b.rest ++ s ∷ [] }

abbrev pub begun : ℕ → Marked → SignBlock
begun k t = record { node = k; key = t.key; first = Some t.sign; rest = [] }

unfoldable pub marks_cut : SignBlock → List Marked → List SignBlock
marks_cut b [] = b ∷ []
marks_cut b (t ∷ ts) = cond (falls t.sign.entry.move) (marks_cut (with_rest b t.sign) ts) (b ∷ marks_cut (begun b.node t) ts)

abbrev pub front : ℕ → SignBlock
front k = record { node = k; key = record { promise = 0; place = 0 }; first = None; rest = [] }

abbrev pub signs_at : Mesh → ℕ → List HistoryLine → List SignBlock
signs_at m k hs = marks_cut (front k) (marks_of m k fresh_cell [] hs)

unfoldable pub signs_from : Mesh → ℕ → List (List HistoryLine) → List SignBlock
signs_from m k [] = []
signs_from m k (hs ∷ hss) = signs_at m k hs ++ signs_from m (k + 1) hss

unfoldable pub put_signs : SignBlock → List SignBlock → List SignBlock
put_signs b [] = b ∷ []
put_signs b (c ∷ cs) = cond (is_below c.key b.key) (c ∷ put_signs b cs) (b ∷ c ∷ cs)

unfoldable pub in_order : List SignBlock → List SignBlock
in_order [] = []
in_order (b ∷ bs) = put_signs b (in_order bs)

unfoldable pub signs_in : List SignBlock → List Sign
signs_in [] = []
signs_in (b ∷ bs) = signs_of b ++ signs_in bs

unfoldable pub order_signs : Mesh → List Sign
order_signs m = signs_in (in_order (signs_from m 1 m.histories))

-- ## Without callers and places they are those of the epoch order
abbrev strip : SignBlock → Block
strip b = record { node = b.node; key = b.key; entries = entries (signs_of b) }

entries_append : (xs ys : List Sign) → entries (xs ++ ys) ≡ entries xs ++ entries ys
entries_append [] ys = refl
entries_append (x ∷ xs) ys = ap (λ (l : List Entry). x.entry ∷ l) (entries_append xs ys)

rest_entries : (o : Option Sign) (ss : List Sign) (s : Sign) → entries (first_onto o (ss ++ s ∷ [])) ≡ entries (first_onto o ss) ++ s.entry ∷ []
rest_entries None ss s = entries_append ss (s ∷ [])
rest_entries (Some x) ss s = ap (λ (l : List Entry). x.entry ∷ l) (entries_append ss (s ∷ []))

fall_strip : (b : SignBlock) (s : Sign) → strip (with_rest b s) ≡ with_fall (strip b) s.entry
fall_strip b s = ap (λ (l : List Entry). record { node = b.node; key = b.key; entries = l }) (rest_entries b.first b.rest s)

cut_strip : (ts : List Marked) (b : SignBlock) → map strip (marks_cut b ts) ≡ blocks_cut (strip b) (map tag ts)
unfolding marks_cut blocks_cut
cut_strip [] b = refl
cut_strip (t ∷ ts) b = by (falls t.sign.entry.move) (cut_strip ts (with_rest b t.sign)) (cut_strip ts (begun b.node t))
  where
    by : (f : Bool) → map strip (marks_cut (with_rest b t.sign) ts) ≡ blocks_cut (strip (with_rest b t.sign)) (map tag ts)
        → map strip (marks_cut (begun b.node t) ts) ≡ blocks_cut (strip (begun b.node t)) (map tag ts)
        → map strip (cond f (marks_cut (with_rest b t.sign) ts) (b ∷ marks_cut (begun b.node t) ts))
        ≡ cond f (blocks_cut (with_fall (strip b) t.sign.entry) (map tag ts)) (strip b ∷ blocks_cut (block_of b.node (tag t)) (map tag ts))
    by true h g = h ∙ ap (λ (x : Block). blocks_cut x (map tag ts)) (fall_strip b t.sign)
    by false h g = ap (λ (l : List Block). strip b ∷ l) g

map_append : (xs ys : List SignBlock) → map strip (xs ++ ys) ≡ map strip xs ++ map strip ys
map_append [] ys = refl
map_append (x ∷ xs) ys = ap (λ (l : List Block). strip x ∷ l) (map_append xs ys)

from_strip : (m : Mesh) (k : ℕ) (hss : List (List HistoryLine)) → map strip (signs_from m k hss) ≡ blocks_from m k hss
unfolding signs_from blocks_from
from_strip m k [] = refl
from_strip m k (hs ∷ hss) =
    map_append (signs_at m k hs) (signs_from m (k + 1) hss)
    ∙ ap (λ (l : List Block). l ++ map strip (signs_from m (k + 1) hss)) (cut_strip (marks_of m k fresh_cell [] hs) (front k) ∙ ap (blocks_cut (front_block k)) (tags_are m k fresh_cell [] hs))
    ∙ ap (λ (l : List Block). blocks_at m k hs ++ l) (from_strip m (k + 1) hss)

put_strip : (b : SignBlock) (cs : List SignBlock) → map strip (put_signs b cs) ≡ put_block (strip b) (map strip cs)
unfolding put_signs put_block
put_strip b [] = refl
put_strip b (c ∷ cs) = by (is_below c.key b.key) (put_strip b cs)
  where
    by : (f : Bool) → map strip (put_signs b cs) ≡ put_block (strip b) (map strip cs)
        → map strip (cond f (c ∷ put_signs b cs) (b ∷ c ∷ cs)) ≡ cond f (strip c ∷ put_block (strip b) (map strip cs)) (strip b ∷ strip c ∷ map strip cs)
    by true h = ap (λ (l : List Block). strip c ∷ l) h
    by false h = refl

order_strip : (bs : List SignBlock) → map strip (in_order bs) ≡ sorted (map strip bs)
unfolding in_order sorted
order_strip [] = refl
order_strip (b ∷ bs) = put_strip b (in_order bs) ∙ ap (put_block (strip b)) (order_strip bs)

in_strip : (bs : List SignBlock) → entries (signs_in bs) ≡ entries_in (map strip bs)
unfolding signs_in entries_in
in_strip [] = refl
in_strip (b ∷ bs) = entries_append (signs_of b) (signs_in bs) ∙ ap (λ (l : List Entry). entries (signs_of b) ++ l) (in_strip bs)

pub order_is : (m : Mesh) → entries (order_signs m) ≡ epoch_order m
unfolding order_signs epoch_order
order_is m =
    in_strip (in_order (signs_from m 1 m.histories)) ∙ ap entries_in (order_strip (signs_from m 1 m.histories) ∙ ap sorted (from_strip m 1 m.histories))

-- ## What they contain
pub in_left : {A : Type 0} (x : A) (xs ys : List A) → In x xs → In x (xs ++ ys)
unfolding In
in_left x [] ys i = absurd i
in_left x (z ∷ xs) ys (inl e) = inl e
in_left x (z ∷ xs) ys (inr i) = inr (in_left x xs ys i)

pub in_right : {A : Type 0} (x : A) (xs ys : List A) → In x ys → In x (xs ++ ys)
unfolding In
in_right x [] ys i = i
in_right x (z ∷ xs) ys i = inr (in_right x xs ys i)

pub in_either : {A : Type 0} (x : A) (xs ys : List A) → In x (xs ++ ys) → In x xs ⊎ In x ys
unfolding In
in_either x [] ys i = inr i
in_either x (z ∷ xs) ys (inl e) = inl (inl e)
in_either {A} x (z ∷ xs) ys (inr i) = by (in_either x xs ys i)
  where
    by : In x xs ⊎ In x ys → ((z ≡ x) ⊎ In x xs) ⊎ In x ys
    by (inl h) = inl (inr h)
    by (inr h) = inr h

pub put_out : (x b : SignBlock) (cs : List SignBlock) → In x (put_signs b cs) → (b ≡ x) ⊎ In x cs
unfolding put_signs In
put_out x b [] (inl e) = inl e
put_out x b [] (inr i) = absurd i
put_out x b (c ∷ cs) i = by (is_below c.key b.key) i (λ j. put_out x b cs j)
  where
    by : (f : Bool) → In x (cond f (c ∷ put_signs b cs) (b ∷ c ∷ cs)) → (In x (put_signs b cs) → (b ≡ x) ⊎ In x cs) → (b ≡ x) ⊎ ((c ≡ x) ⊎ In x cs)
    by true (inl e) go = inr (inl e)
    by true (inr j) go = later (go j)
      where
        later : (b ≡ x) ⊎ In x cs → (b ≡ x) ⊎ ((c ≡ x) ⊎ In x cs)
        later (inl e) = inl e
        later (inr h) = inr (inr h)
    by false (inl e) go = inl e
    by false (inr j) go = inr j

pub put_in : (x b : SignBlock) (cs : List SignBlock) → (b ≡ x) ⊎ In x cs → In x (put_signs b cs)
unfolding put_signs In
put_in x b [] i = i
put_in x b (c ∷ cs) i = by (is_below c.key b.key) i (λ j. put_in x b cs j)
  where
    by : (f : Bool) → (b ≡ x) ⊎ ((c ≡ x) ⊎ In x cs) → ((b ≡ x) ⊎ In x cs → In x (put_signs b cs)) → In x (cond f (c ∷ put_signs b cs) (b ∷ c ∷ cs))
    by false j go = j
    by true (inl e) go = inr (go (inl e))
    by true (inr (inl e)) go = inl e
    by true (inr (inr j)) go = inr (go (inr j))

pub order_out : (x : SignBlock) (bs : List SignBlock) → In x (in_order bs) → In x bs
unfolding in_order In
order_out x [] i = i
order_out x (b ∷ bs) i = by (put_out x b (in_order bs) i) (λ j. order_out x bs j)
  where
    by : (b ≡ x) ⊎ In x (in_order bs) → (In x (in_order bs) → In x bs) → (b ≡ x) ⊎ In x bs
    by (inl e) go = inl e
    by (inr j) go = inr (go j)

pub order_in : (x : SignBlock) (bs : List SignBlock) → In x bs → In x (in_order bs)
unfolding in_order In
order_in x [] i = i
order_in x (b ∷ bs) (inl e) = put_in x b (in_order bs) (inl e)
order_in x (b ∷ bs) (inr i) = put_in x b (in_order bs) (inr (order_in x bs i))

pub signs_out : (s : Sign) (bs : List SignBlock) → In s (signs_in bs) → (b : SignBlock) × In b bs × In s (signs_of b)
unfolding signs_in In
signs_out s [] i = absurd i
signs_out s (b ∷ bs) i = by (in_either s (signs_of b) (signs_in bs) i) (λ j. signs_out s bs j)
  where
    by : In s (signs_of b) ⊎ In s (signs_in bs) → (In s (signs_in bs) → (c : SignBlock) × In c bs × In s (signs_of c)) → (c : SignBlock) × In c (b ∷ bs) × In s (signs_of c)
    by (inl j) go = (b, inl refl, j)
    by (inr j) go = let w = go j in (w.0, inr w.1, w.2)

pub signs_in_block : (s : Sign) (b : SignBlock) (bs : List SignBlock) → In b bs → In s (signs_of b) → In s (signs_in bs)
unfolding signs_in In
signs_in_block s b [] i j = absurd i
signs_in_block s b (c ∷ bs) (inl e) j = in_left s (signs_of c) (signs_in bs) (subst (λ (z : SignBlock). In s (signs_of z)) (sym e) j)
signs_in_block s b (c ∷ bs) (inr i) j = in_right s (signs_of c) (signs_in bs) (signs_in_block s b bs i j)

-- the signs of a cut list
first_more : (o : Option Sign) (ss : List Sign) (s : Sign) (more : List Sign) → first_onto o (ss ++ s ∷ []) ++ more ≡ first_onto o ss ++ s ∷ more
first_more None ss s more = append_assoc ss (s ∷ []) more
first_more (Some x) ss s more = ap (λ (l : List Sign). x ∷ l) (append_assoc ss (s ∷ []) more)

pub cut_signs : (ts : List Marked) (b : SignBlock) → signs_in (marks_cut b ts) ≡ signs_of b ++ map (λ (t : Marked). t.sign) ts
unfolding signs_in marks_cut
cut_signs [] b = refl
cut_signs (t ∷ ts) b = by (falls t.sign.entry.move) (cut_signs ts (with_rest b t.sign)) (cut_signs ts (begun b.node t))
  where
    by : (f : Bool) → signs_in (marks_cut (with_rest b t.sign) ts) ≡ signs_of (with_rest b t.sign) ++ map (λ (x : Marked). x.sign) ts
        → signs_in (marks_cut (begun b.node t) ts) ≡ t.sign ∷ map (λ (x : Marked). x.sign) ts
        → signs_in (cond f (marks_cut (with_rest b t.sign) ts) (b ∷ marks_cut (begun b.node t) ts)) ≡ signs_of b ++ t.sign ∷ map (λ (x : Marked). x.sign) ts
    by true h g = h ∙ first_more b.first b.rest t.sign (map (λ (x : Marked). x.sign) ts)
    by false h g = ap (λ (l : List Sign). signs_of b ++ l) g

map_in : (ts : List Marked) (t : Marked) → In t ts → In t.sign (map (λ (x : Marked). x.sign) ts)
unfolding In
map_in [] t i = i
map_in (x ∷ ts) t (inl e) = inl (ap (λ (z : Marked). z.sign) e)
map_in (x ∷ ts) t (inr i) = inr (map_in ts t i)

first_mark_in : (o : Option Entry) (c p : ℕ) (key : Key) (ts : List Marked) (t : Marked) → In t ts → In t (mark_first o c p key ts)
unfolding In
first_mark_in None c p key ts t i = i
first_mark_in (Some e) c p key ts t i = inr i

first_mark : (o : Option Entry) (c p : ℕ) (key : Key) (ts : List Marked) (e : Entry) → o ≡ Some e → In (record { sign = sign e c p; key = key }) (mark_first o c p key ts)
unfolding In
first_mark None c p key ts e f = absurd (cc f)
first_mark (Some x) c p key ts e f = let same : x ≡ e = cc f in inl (ap (λ (z : Entry). record { sign = sign z c p; key = key }) same)

mark_in : (m : Mesh) (k : ℕ) (cell : Cell) (past xs : List HistoryLine) (h : HistoryLine) (after : List HistoryLine) (e : Entry) → entry_here m k (past ++ xs) h ≡ Some e
    → (key : Key) × In (record { sign = sign e h.caller (place_here m k (past ++ xs) h); key = key }) (marks_of m k cell past (xs ++ h ∷ after))
unfolding marks_of
mark_in m k cell past [] h after e is =
    let none : past ++ [] ≡ past = append_none past in
    let key : Key = key_of m k (cell_takes cell h.ask).cell.state.promised past h in (
      key,
      subst (λ (l : List HistoryLine). In (record { sign = sign e h.caller (place_here m k l h); key = key }) (marks_of m k cell past (h ∷ after))) (sym none)
          (first_mark (entry_here m k past h) h.caller (place_here m k past h) key (marks_of m k (cell_takes cell h.ask).cell (past ++ h ∷ []) after) e
          (subst (λ (l : List HistoryLine). entry_here m k l h ≡ Some e) none is)),
    )
mark_in m k cell past (x ∷ xs) h after e is =
    let next : (past ++ x ∷ []) ++ xs ≡ past ++ x ∷ xs = append_assoc past (x ∷ []) xs in
    let w = mark_in m k (cell_takes cell x.ask).cell (past ++ x ∷ []) xs h after e (subst (λ (l : List HistoryLine). entry_here m k l h ≡ Some e) (sym next) is) in (
      w.0,
      first_mark_in (entry_here m k past x) x.caller (place_here m k past x) (key_of m k (cell_takes cell x.ask).cell.state.promised past x)
          (marks_of m k (cell_takes cell x.ask).cell (past ++ x ∷ []) (xs ++ h ∷ after)) _
          (subst (λ (l : List HistoryLine). In (record { sign = sign e h.caller (place_here m k l h); key = w.0 })
          (marks_of m k (cell_takes cell x.ask).cell (past ++ x ∷ []) (xs ++ h ∷ after))) next w.1),
    )

pub block_in : (m : Mesh) (k i : ℕ) (hss : List (List HistoryLine)) (b : SignBlock) → i < length hss → In b (signs_at m (k + i) (get_or hss i [])) → In b (signs_from m k hss)
unfolding signs_from
block_in m k i [] b l j = absurd (omega (arith, l))
block_in m k zero (hs ∷ hss) b l j = in_left b (signs_at m k hs) (signs_from m (k + 1) hss) (subst (λ (x : ℕ). In b (signs_at m x hs)) (omega arith) j)
block_in m k (suc i) (hs ∷ hss) b l j =
    in_right b (signs_at m k hs) (signs_from m (k + 1) hss) (block_in m (k + 1) i hss b (omega (arith, l)) (subst (λ (x : ℕ). In b (signs_at m x (get_or hss i []))) (omega arith) j))

-- the signs of a list of blocks, block by block
abbrev pub HasBlock : Mesh → ℕ → List (List HistoryLine) → SignBlock → Type 0
HasBlock m k hss b = (i : ℕ) × (i < length hss) × In b (signs_at m (k + i) (get_or hss i []))

pub block_out : (m : Mesh) (k : ℕ) (hss : List (List HistoryLine)) (b : SignBlock) → In b (signs_from m k hss) → HasBlock m k hss b
unfolding signs_from In
block_out m k [] b i = absurd i
block_out m k (hs ∷ hss) b i = by (in_either b (signs_at m k hs) (signs_from m (k + 1) hss) i) (λ j. block_out m (k + 1) hss b j)
  where
    by : In b (signs_at m k hs) ⊎ In b (signs_from m (k + 1) hss) → (In b (signs_from m (k + 1) hss) → HasBlock m (k + 1) hss b) → HasBlock m k (hs ∷ hss) b
    by (inl j) go = (0, omega arith, subst (λ (x : ℕ). In b (signs_at m x hs)) (omega arith) j)
    by (inr j) go = let w : HasBlock m (k + 1) hss b = go j in (suc w.0, omega (arith, w.1), subst (λ (x : ℕ). In b (signs_at m x (get_or hss w.0 []))) (omega arith) w.2)

-- each line that moved its node has its sign in the order
pub sign_ordered : (m : Mesh) (s : Sign) → length m.histories ≡ m.nodes → Listed m s → In s (order_signs m)
unfolding order_signs
sign_ordered m s size l =
    let k : ℕ = l.index + 1 in
    let x : Sign = sign s.entry l.line.caller (place_here m k l.before l.line) in
    let none : List HistoryLine = [] in
    let w = mark_in m k fresh_cell none l.before l.line l.after s.entry l.entry in
    let mark : In x (map (λ (t : Marked). t.sign) (marks_of m k fresh_cell [] (history_at m l.index))) =
    subst (λ (hs : List HistoryLine). In x (map (λ (t : Marked). t.sign) (marks_of m k fresh_cell [] hs))) l.whole
    (map_in (marks_of m k fresh_cell [] (l.before ++ l.line ∷ l.after)) (record { sign = x; key = w.0 }) w.1) in
    let blocks : In x (signs_in (signs_at m k (history_at m l.index))) = subst (In x) (sym (cut_signs (marks_of m k fresh_cell [] (history_at m l.index)) (front k))) mark in
    let b = signs_out x (signs_at m k (history_at m l.index)) blocks in
    let from : In b.0 (signs_from m 1 m.histories) =
    block_in m 1 l.index m.histories b.0 (omega (arith, size, l.in_nodes)) (subst (λ (j : ℕ). In b.0 (signs_at m j (history_at m l.index))) (omega arith) b.1) in
    let same : x ≡ s = ap (λ (c : ℕ). sign s.entry c (place_here m k l.before l.line)) l.caller ∙ ap (λ (p : ℕ). sign s.entry s.caller p) l.place in
    subst (λ (z : Sign). In z (signs_in (in_order (signs_from m 1 m.histories)))) same
    (signs_in_block x b.0 (in_order (signs_from m 1 m.histories)) (order_in b.0 (signs_from m 1 m.histories) from) b.2)
