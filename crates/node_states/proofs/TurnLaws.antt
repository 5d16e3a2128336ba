-- Turns, one after another.
use Rattle.std.proofs.Common.{ℕ, ◌≡◌, ◌<◌, ◌≤◌, ◌+◌, List, [], ◌∷◌, ◌++◌, Bool, true, false, if◌then◌else◌, length, drop, get_or, sym, ◌∙◌, ap, append_assoc, append-nil, Option}
use Rattle.std.specs.Prelude.{is_some}
use Rattle.std.proofs.lemmas.List.{drop_more, drop_all}
use Rattle.journal_history.specs.declared.record.Record.{Record}
use Rattle.mesh_judge.specs.Reaches.{node_reached}
use Rattle.node_states.specs.declared.node_line.NodeLine.{NodeLine}
use Rattle.node_states.specs.declared.turn.Turn.{Turn}
use Rattle.node_states.specs.declared.turn.Turn.TheVariants as turn
use Rattle.node_states.specs.Lines.{record_at}
use Rattle.node_states.specs.Turns.{unreached, first_turns, behind, turns_from}

-- ## Lines that reached no node
abbrev unreached_by : ℕ → ℕ → List Record → Bool → List Turn
unreached_by caller line rs b = if b then [] else turn.OfCaller caller line ∷ unreached caller (line + 1) rs

unreached_at : (caller line : ℕ) (rs : List Record) (d : Record) → line < length rs
    → unreached caller line (drop line rs) ≡ unreached_by caller line (drop (line + 1) rs) (is_some (node_reached (get_or rs line d)))
unfolding unreached
unreached_at caller line rs d l = ap (unreached caller line) (drop_more rs line d l)

pub unreached_more : (caller line : ℕ) (rs : List Record) (d : Record) (out new all : List Turn) → out ++ unreached caller line (drop line rs) ≡ all → line < length rs
    → is_some (node_reached (get_or rs line d)) ≡ false → new ≡ out ++ turn.OfCaller caller line ∷ [] → new ++ unreached caller (line + 1) (drop (line + 1) rs) ≡ all
unreached_more caller line rs d out new all h l b e =
    ap (λ (x : List Turn). x ++ unreached caller (line + 1) (drop (line + 1) rs)) e
    ∙ append_assoc out (turn.OfCaller caller line ∷ []) (unreached caller (line + 1) (drop (line + 1) rs))
    ∙ ap (λ (x : List Turn). out ++ x) (sym (unreached_at caller line rs d l ∙ ap (unreached_by caller line (drop (line + 1) rs)) b)) ∙ h

none_left : (out all xs : List Turn) → xs ≡ [] → out ++ xs ≡ all → out ≡ all
none_left out all xs e h = sym (append-nil out) ∙ ap (λ (x : List Turn). out ++ x) (sym e) ∙ h

pub unreached_stops : (caller line : ℕ) (rs : List Record) (d : Record) (out all : List Turn) → out ++ unreached caller line (drop line rs) ≡ all → line < length rs
    → is_some (node_reached (get_or rs line d)) ≡ true → out ≡ all
unreached_stops caller line rs d out all h l b =
    none_left out all (unreached caller line (drop line rs)) (unreached_at caller line rs d l ∙ ap (unreached_by caller line (drop (line + 1) rs)) b) h

pub unreached_ends : (caller line : ℕ) (rs : List Record) (out all : List Turn) → out ++ unreached caller line (drop line rs) ≡ all → length rs ≤ line → out ≡ all
unfolding unreached
unreached_ends caller line rs out all h l = none_left out all (unreached caller line (drop line rs)) (ap (unreached caller line) (drop_all line rs l)) h

-- the line that was read did, or didn't
pub reached_is : (rs : List Record) (line : ℕ) (r : Record) (n : Option ℕ) (b : Bool) → r ≡ get_or rs line r → n ≡ node_reached r → is_some n ≡ b
    → is_some (node_reached (get_or rs line r)) ≡ b
reached_is rs line r n b is e t = ap (λ (x : Record). is_some (node_reached x)) (sym is) ∙ ap is_some (sym e) ∙ t

-- ## Those of each record, and behind each line
pub first_more : (caller : ℕ) (rss : List (List Record)) (rs s : List Record) (out new all : List Turn) → out ++ first_turns caller (drop caller rss) ≡ all → caller < length rss
    → rs ≡ get_or rss caller rs → s ≡ rs → new ≡ out ++ unreached caller 0 (drop 0 s) → new ++ first_turns (caller + 1) (drop (caller + 1) rss) ≡ all
unfolding first_turns
first_more caller rss rs s out new all h l is ss e =
    ap (λ (x : List Turn). x ++ first_turns (caller + 1) (drop (caller + 1) rss)) (e ∙ ap (λ (x : List Record). out ++ unreached caller 0 x) (ss ∙ is))
    ∙ append_assoc out (unreached caller 0 (get_or rss caller rs)) (first_turns (caller + 1) (drop (caller + 1) rss))
    ∙ ap (λ (x : List (List Record)). out ++ first_turns caller x) (sym (drop_more rss caller rs l)) ∙ h

pub first_last : (caller : ℕ) (rss : List (List Record)) (out all : List Turn) → out ++ first_turns caller (drop caller rss) ≡ all → length rss ≤ caller → out ≡ all
unfolding first_turns
first_last caller rss out all h l = none_left out all (first_turns caller (drop caller rss)) (ap (first_turns caller) (drop_all caller rss l)) h

pub behind_is : (rss : List (List Record)) (l : NodeLine) (rs : List Record) (one new : List Turn) → rs ≡ record_at rss l.caller
    → new ≡ one ++ unreached l.caller l.reach.place (drop l.reach.place rs) → new ≡ one ++ behind rss l
unfolding behind
behind_is rss l rs one new r e = e ∙ ap (λ (x : List Record). one ++ unreached l.caller l.reach.place (drop l.reach.place x)) r

pub turn_more : (rss : List (List Record)) (ls : List NodeLine) (i : ℕ) (d : NodeLine) (out one new all : List Turn) → out ++ turns_from rss (drop i ls) ≡ all → i < length ls
    → one ≡ out ++ turn.OfNode (get_or ls i d) ∷ [] → new ≡ one ++ behind rss (get_or ls i d) → new ++ turns_from rss (drop (i + 1) ls) ≡ all
unfolding turns_from
turn_more rss ls i d out one new all h l o e =
    ap (λ (x : List Turn). x ++ turns_from rss (drop (i + 1) ls)) (e ∙ ap (λ (x : List Turn). x ++ behind rss (get_or ls i d)) o)
    ∙ append_assoc (out ++ turn.OfNode (get_or ls i d) ∷ []) (behind rss (get_or ls i d)) (turns_from rss (drop (i + 1) ls))
    ∙ append_assoc out (turn.OfNode (get_or ls i d) ∷ []) (behind rss (get_or ls i d) ++ turns_from rss (drop (i + 1) ls))
    ∙ ap (λ (x : List NodeLine). out ++ turns_from rss x) (sym (drop_more ls i d l)) ∙ h

pub turn_last : (rss : List (List Record)) (ls : List NodeLine) (i : ℕ) (out all : List Turn) → out ++ turns_from rss (drop i ls) ≡ all → length ls ≤ i → out ≡ all
unfolding turns_from
turn_last rss ls i out all h l = none_left out all (turns_from rss (drop i ls)) (ap (turns_from rss) (drop_all i ls l)) h
