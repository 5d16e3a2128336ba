-- The lines of a history, one after another.
use Rattle.std.proofs.Common.{ℕ, ◌≡◌, ◌<◌, ◌≤◌, ◌+◌, List, [], ◌∷◌, ◌++◌, Bool, true, false, Some, if◌then◌else◌, length, drop, get_or, sym, ◌∙◌, ap, subst, append_assoc, append-nil}
use Rattle.std.specs.Prelude.{slice_set}
use Rattle.std.proofs.lemmas.List.{drop_more, drop_all}
use Rattle.journal_history.specs.declared.history_line.HistoryLine.{HistoryLine}
use Rattle.journal_history.specs.declared.record.Record.{Record}
use Rattle.mesh.specs.Order.{is_muted}
use Rattle.mesh_judge.specs.declared.reached.Reach.{Reach}
use Rattle.mesh_judge.specs.Reaches.{node_reached}
use Rattle.node_states.specs.declared.node_line.NodeLine.{NodeLine}
use Rattle.node_states.specs.Lines.{is_moving, is_at, next_reach, record_at, reach_of, line_of, lines_from, none_taken, lines_at, all_lines}

-- ## The next line that reached a node
abbrev found : ℕ → ℕ → Record → List Record → Bool → Reach
found node place r rs b = if b then record { place = place + 1; is_muted = is_muted (Some r) } else next_reach node (place + 1) rs

pub reach_is : (node place : ℕ) (rs : List Record) (d : Record) (all : Reach) → all ≡ next_reach node place (drop place rs) → place < length rs → is_at node (node_reached (get_or rs place d)) ≡ true
    → record { place = place + 1; is_muted = is_muted (Some (get_or rs place d)) } ≡ all
unfolding next_reach
reach_is node place rs d all h l e = sym (h ∙ ap (next_reach node place) (drop_more rs place d l) ∙ ap (found node place (get_or rs place d) (drop (place + 1) rs)) e)

pub reach_passes : (node place : ℕ) (rs : List Record) (d : Record) (all : Reach) → all ≡ next_reach node place (drop place rs) → place < length rs
    → is_at node (node_reached (get_or rs place d)) ≡ false → all ≡ next_reach node (place + 1) (drop (place + 1) rs)
unfolding next_reach
reach_passes node place rs d all h l e = h ∙ ap (next_reach node place) (drop_more rs place d l) ∙ ap (found node place (get_or rs place d) (drop (place + 1) rs)) e

pub reach_none : (node place : ℕ) (rs : List Record) (all : Reach) → all ≡ next_reach node place (drop place rs) → length rs ≤ place → record { place = place; is_muted = false } ≡ all
unfolding next_reach
reach_none node place rs all h l = sym (h ∙ ap (next_reach node place) (drop_all place rs l))

pub ruleset reaches = (reach_is, reach_passes, reach_none)

-- ## One more line
pub line_first : (rss : List (List Record)) (taken : List ℕ) (index : ℕ) (hs : List HistoryLine) (out : List NodeLine) → out ≡ [] → taken ≡ none_taken rss
    → out ++ lines_from rss taken index 0 (drop 0 hs) ≡ lines_at rss index hs
unfolding lines_at
line_first rss taken index hs out o t = ap (λ (x : List NodeLine). x ++ lines_from rss taken index 0 hs) o ∙ ap (λ (x : List ℕ). lines_from rss x index 0 hs) t

pub line_more : (rss : List (List Record)) (rs : List Record) (taken numbers then_ : List ℕ) (index line caller number : ℕ) (hs : List HistoryLine) (h : HistoryLine) (reach : Reach) (moving : Bool)
    (out new all : List NodeLine) → out ++ lines_from rss taken index line (drop line hs) ≡ all → line < length hs → h ≡ get_or hs line h
    → caller ≡ h.caller → rs ≡ record_at rss caller → numbers ≡ taken → number ≡ get_or numbers caller 0 → reach ≡ next_reach (index + 1) number (drop number rs)
    → moving ≡ is_moving h → then_ ≡ slice_set taken caller reach.place
    → new ≡ out ++ record { index = index; line = line; caller = caller; reach = reach; is_moving = moving } ∷ []
    → new ++ lines_from rss then_ index (line + 1) (drop (line + 1) hs) ≡ all
unfolding lines_from line_of reach_of
line_more rss rs taken numbers then_ index line caller number hs h reach moving out new all inv l is ca rr nn n r m t e =
    let counted : number ≡ get_or taken h.caller 0 = n ∙ (λ i. get_or (nn i) (ca i) 0) in
    let listed : rs ≡ record_at rss h.caller = rr ∙ (λ i. record_at rss (ca i)) in
    let reached : reach ≡ reach_of rss taken index h = r ∙ (λ i. next_reach (index + 1) (counted i) (drop (counted i) (listed i))) in
    let one : record { index = index; line = line; caller = caller; reach = reach; is_moving = moving } ≡ line_of index line (reach_of rss taken index h) h =
    (λ i. record { index = index; line = line; caller = ca i; reach = reached i; is_moving = m i }) in
    let after : then_ ≡ slice_set taken h.caller (reach_of rss taken index h).place = t ∙ (λ i. slice_set taken (ca i) (reached i).place) in
    let rest = lines_from rss (slice_set taken h.caller (reach_of rss taken index h).place) index (line + 1) (drop (line + 1) hs) in
    ap (λ (x : List ℕ). new ++ lines_from rss x index (line + 1) (drop (line + 1) hs)) after
    ∙ ap (λ (x : List NodeLine). x ++ rest) (e ∙ ap (λ (x : NodeLine). out ++ x ∷ []) one)
    ∙ append_assoc out (line_of index line (reach_of rss taken index h) h ∷ []) rest
    ∙ ap (λ (x : List HistoryLine). out ++ lines_from rss taken index line x) (sym (drop_more hs line h l ∙ ap (λ (x : HistoryLine). x ∷ drop (line + 1) hs) (sym is))) ∙ inv

pub line_last : (rss : List (List Record)) (taken : List ℕ) (index line : ℕ) (hs : List HistoryLine) (out all : List NodeLine)
    → out ++ lines_from rss taken index line (drop line hs) ≡ all → length hs ≤ line → out ≡ all
unfolding lines_from
line_last rss taken index line hs out all h l = sym (append-nil out) ∙ ap (λ (x : List HistoryLine). out ++ lines_from rss taken index line x) (sym (drop_all line hs l)) ∙ h

-- ## One more node
pub node_more : (rss rss2 : List (List Record)) (index : ℕ) (hss items : List (List HistoryLine)) (hs h : List HistoryLine) (one : List NodeLine) (out new all : List (List NodeLine))
    → out ++ all_lines rss index (drop index hss) ≡ all → index < length items → items ≡ hss → rss2 ≡ rss → h ≡ get_or items index h → hs ≡ h
    → one ≡ lines_at rss2 index hs → new ≡ out ++ one ∷ [] → new ++ all_lines rss (index + 1) (drop (index + 1) hss) ≡ all
unfolding all_lines
node_more rss rss2 index hss items hs h one out new all inv l it rr is hh o e =
    let inside : index < length hss = subst (λ (x : List (List HistoryLine)). index < length x) it l in
    let there : hs ≡ get_or hss index h = hh ∙ is ∙ ap (λ (x : List (List HistoryLine)). get_or x index h) it in
    let made : one ≡ lines_at rss index (get_or hss index h) = o ∙ (λ i. lines_at (rr i) index (there i)) in
    ap (λ (x : List (List NodeLine)). x ++ all_lines rss (index + 1) (drop (index + 1) hss)) (e ∙ ap (λ (x : List NodeLine). out ++ x ∷ []) made)
    ∙ append_assoc out (lines_at rss index (get_or hss index h) ∷ []) (all_lines rss (index + 1) (drop (index + 1) hss))
    ∙ ap (λ (x : List (List HistoryLine)). out ++ all_lines rss index x) (sym (drop_more hss index h inside)) ∙ inv

pub node_last : (rss : List (List Record)) (index : ℕ) (hss items : List (List HistoryLine)) (out all : List (List NodeLine)) → out ++ all_lines rss index (drop index hss) ≡ all
    → items ≡ hss → length items ≤ index → out ≡ all
unfolding all_lines
node_last rss index hss items out all h it l =
    let past : length hss ≤ index = subst (λ (x : List (List HistoryLine)). length x ≤ index) it l in
    sym (append-nil out) ∙ ap (λ (x : List (List HistoryLine)). out ++ all_lines rss index x) (sym (drop_all index hss past)) ∙ h
