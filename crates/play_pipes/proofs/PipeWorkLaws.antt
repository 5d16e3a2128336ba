-- What an actor leaves whose calls went through pipes, and its seats once they are given back.
use Rattle.std.proofs.Common.{◌≡◌, ℕ, suc, ◌+◌, ◌<◌, ◌==◌, Bool, List, [], ◌∷◌, ◌++◌, length, map, get_or, true, false, refl, sym, ap, ◌∙◌, subst, arith, append-nil}
use Rattle.std.specs.List.{All}
use Rattle.std.specs.Prelude.{Option, Some}
use Rattle.std.proofs.lemmas.List.{length-map, get_or-map, get_or_default}
use Rattle.std.proofs.Math.ListN.{get_or-map as at_map}
use Rattle.atomic_table.specs.Seated.{TableId}
use Rattle.journal_core.specs.declared.peer_call.PeerCall.{PeerCall}
use Rattle.journal_history.specs.declared.history_line.HistoryLine.{HistoryLine}
use Rattle.journal_history.specs.declared.record.Record.{Record}
use Rattle.journal_history.specs.declared.mark.Mark.{Mark}
use Rattle.mesh.specs.Marks.{IsMarked, AreCopied}
use Rattle.mesh.specs.Matches.{reached, AreWithin, AreSame}
use Rattle.ns_tree.specs.declared.end.LastSpace.{LastSpace}
use Rattle.play_calls.specs.Logs.{LogView, new_log}
use Rattle.play_model.specs.Lines.{Action, Line, actions_of}
use Rattle.play_pipes.specs.Calls.{Calls, joined}
use Rattle.play_pipes.proofs.KeptLaws.{parts_same}
use Rattle.play_threads.specs.Gathered.{CallerLeaves}
use Rattle.play_pipes.specs.PipeLines.{calls_at, OnlyCalls, Tells, AreTold, place_of, calls_of_seat, AreFresh}
use Rattle.play_pipes.specs.PipeSeats.{Leads, TiedTo}
use Rattle.play_pipes.specs.PipeWork.{HasWorked}
use Rattle.play_threads.specs.Seated.{Seat, AreSeated}
use Rattle.play_threads.specs.Threads.{DoesLines, FollowsActions}
use Rattle.play_pipes.proofs.PipeLineLaws.{told_first, tells_same}

-- ## The work
tied_begin : (log : LogView) (n : ℕ) (ahead : List PeerCall) (lists start : List Calls) → log ≡ new_log n true → ahead ≡ [] → lists ≡ start → length start ≡ n
    → All (λ (l : Calls). l ≡ []) start → TiedTo log ahead lists
tied_begin log n ahead lists start e none f long all =
    subst (λ (x : LogView × List PeerCall × List Calls). TiedTo x.0 x.1 x.2) (λ i. (sym e i, sym none i, sym f i)) (record {
      fronts = start;
      leads = (refl, λ i lt. sym (append-nil (get_or start i [])));
      count = long;
      told = told_first start (λ i lt. all i [] lt);
    })

-- nothing is ahead at the end
same_lists : (xs ys : List Calls) → length xs ≡ length ys → ((i : ℕ) → i < length ys → get_or ys i [] ≡ get_or xs i []) → xs ≡ ys
same_lists [] [] n each = refl
same_lists [] (y ∷ ys) n each = absurd (omega (arith, n))
same_lists (x ∷ xs) [] n each = absurd (omega (arith, n))
same_lists (x ∷ xs) (y ∷ ys) n each =
    let first : y ≡ x = each 0 (omega arith) in
    λ i. sym first i ∷ same_lists xs ys (omega (arith, n)) (λ k lt. each (suc k) (omega (arith, lt))) i

told_lists : (log : LogView) (ahead : List PeerCall) (lists : List Calls) → ahead ≡ [] → TiedTo log ahead lists → (length lists ≡ log.nodes) × AreTold log.past lists
told_lists log ahead lists none t =
    let bare : Leads t.fronts [] lists = subst (λ a. Leads t.fronts a lists) none t.leads in
    let e : t.fronts ≡ lists = same_lists t.fronts lists bare.0 (λ i lt. bare.1 i lt ∙ append-nil (get_or t.fronts i [])) in
    (sym bare.0 ∙ t.count, subst (AreTold log.past) e t.told)

module _ (named : Bool) (n : ℕ) (actions : List Action) (left : Option (List Record × List Mark × Option LastSpace)) (old new : LogView) (ahead ahead' : List PeerCall)
    (lists start lists' : List Calls) (last : Option LastSpace) where
  pub worked : old ≡ new_log n true → ahead ≡ [] → lists ≡ start → length start ≡ n → All (λ (l : Calls). l ≡ []) start → new.nodes ≡ old.nodes → (TiedTo old ahead lists → TiedTo new ahead' lists') → new.whole ≡ true
      → ahead' ≡ []
      → FollowsActions named old.nodes actions new.past new.marks last → left ≡ Some (new.past, new.marks, last) → (new.whole ≡ true → IsMarked new.marks [] new.past)
      → (new.whole ≡ true → AreCopied new.marks new.past) → (new.whole ≡ true → AreWithin new.nodes new.past) → HasWorked named n actions left lists'
  worked e none f long all nodes go whole done d is m c w =
      let tied = go (tied_begin old n ahead lists start e none f long all) in
      let told = told_lists new ahead' lists' done tied in
      let count : old.nodes ≡ n = ap (λ l. l.nodes) e in
      record {
        log = new;
        last = last;
        whole = whole;
        count = nodes ∙ count;
        is_left = is;
        follows = subst (λ k. FollowsActions named k actions new.past new.marks last) count d;
        long = told.0 ∙ nodes ∙ count;
        told = told.1;
        marked = m whole;
        copied = c whole;
        within = w whole;
      }

-- ## The seats that come back
no_lines : (hs : List HistoryLine) → AreSame [] hs → hs ≡ []
unfolding AreSame
no_lines [] s = refl
no_lines (h ∷ hs) s = absurd s

none_reached : (k : ℕ) → reached k [] ≡ []
unfolding reached
none_reached k = refl

pub fresh : (caller n : ℕ) (tables : List TableId) (seats : List Seat) → AreSeated caller tables (new_log n true) seats → AreFresh caller tables seats
fresh caller n tables seats s =
    record {
      gates = s.gates;
      callers = s.callers;
      none = λ i d lt. no_lines (get_or seats i d).own (subst (λ rs. AreSame rs (get_or seats i d).own) (none_reached (i + 1)) (s.same refl i d lt));
    }

-- empty lists, and then these, are these
joined_nils : (xs ys : List Calls) → ((i : ℕ) → i < length xs → get_or xs i [] ≡ []) → length xs ≡ length ys → joined xs ys ≡ ys
joined_nils [] [] none e = refl
joined_nils [] (y ∷ ys) none e = absurd (omega (arith, e))
joined_nils (x ∷ xs) [] none e = absurd (omega (arith, e))
joined_nils (x ∷ xs) (y ∷ ys) none e =
    let first : x ≡ [] = none 0 (omega arith) in
    λ i. (first i ++ y) ∷ joined_nils xs ys (λ k lt. none (suc k) (omega (arith, lt))) (omega (arith, e)) i

no_calls : (seats : List Seat) → ((i : ℕ) (d : Seat) → i < length seats → (get_or seats i d).own ≡ []) → (i : ℕ) → i < length (map calls_of_seat seats) → get_or (map calls_of_seat seats) i [] ≡ []
no_calls seats none i lt =
    let m = length-map seats calls_of_seat in
    let d : Seat = record { table = record { words = 0; slots = 0; views_name = 0; atom = 0; block = 0; offset = 0; slot_names = [] }; caller = 0; own = [] } in
    let within : i < length seats = omega (arith, lt, m) in
    get_or-map calls_of_seat seats i d [] within ∙ ap calls_at (none i d within)

-- what the pipes say of the lines, and what the caller's record says of the lists
seated : (caller : ℕ) (tables : List TableId) (seats back : List Seat) (lists : List Calls) (log : LogView) → AreFresh caller tables seats → length lists ≡ length seats
    → map place_of back ≡ map place_of seats → map calls_of_seat back ≡ joined (map calls_of_seat seats) lists → All (λ (s : Seat). OnlyCalls s.own) back → length lists ≡ log.nodes
    → AreTold log.past lists → AreSeated caller tables log back
seated caller tables seats back lists log first long places calls all nt told =
    let n₁ = length-map back place_of in
    let n₂ = length-map seats place_of in
    let np = ap length places in
    let m = length-map seats calls_of_seat in
    let same_long : length back ≡ length seats = omega (arith, n₁, n₂, np) in
    let parts = parts_same (λ (s : Seat). (s.table, s.caller)) (λ (s : Seat). (s.table, s.caller)) back seats places in
    let all_calls : map calls_of_seat back ≡ lists = calls ∙ joined_nils (map calls_of_seat seats) lists (no_calls seats first.none) (m ∙ sym long) in
    record {
      count = same_long ∙ sym long ∙ nt;
      gates = parts.0 ∙ first.gates;
      callers = λ i d lt.
          let lt' : i < length seats = omega (arith, lt, same_long) in
          sym (get_or-map (λ (s : Seat). s.caller) back i d 0 lt) ∙ ap (λ l. get_or l i 0) parts.1 ∙ get_or-map (λ (s : Seat). s.caller) seats i d 0 lt' ∙ first.callers i d lt';
      same = λ whole i d lt.
          let within : i < length lists = omega (arith, lt, same_long, long) in
          let mine : get_or lists i [] ≡ calls_at (get_or back i d).own = ap (λ l. get_or l i []) (sym all_calls) ∙ get_or-map calls_of_seat back i d [] lt in
          tells_same (reached (i + 1) log.past) (get_or back i d).own (all i d lt) (subst (Tells (reached (i + 1) log.past)) mine (told i within));
    }

left_same : (a b : List Record × List Mark × Option LastSpace) → ◌≡◌ {A = Option (List Record × List Mark × Option LastSpace)} (Some a) (Some b) → a ≡ b
left_same a b e = cc e

-- ## The lines of the pipes
module _ {G S : Type 0} (table : G → TableId) (seat : S → Seat) (gates : List G) (seats : List S) (caller at : ℕ)
    (h : AreSeated caller (map table gates) (new_log (length seats) true) (map seat seats)) (lt : at < length seats) where
  pub line_within : at < length gates
  line_within =
      let m = length-map seats seat in
      let k = length-map (map seat seats) (λ (x : Seat). x.table) in
      let j = length-map gates table in
      let g = ap length h.gates in
      omega (arith, lt, m, k, j, g)

  pub line_at : (s : S) (d : G) → s ≡ get_or seats at s → d ≡ get_or gates at d → ((seat s).table ≡ table d) × ((seat s).caller ≡ caller) × ((seat s).own ≡ [])
  line_at s d e here =
      let f : AreFresh caller (map table gates) (map seat seats) = fresh caller (length seats) (map table gates) (map seat seats) h in
      let m = length-map seats seat in
      let j = length-map gates table in
      let w = line_within in
      let within : at < length (map seat seats) = omega (arith, lt, m) in
      let is : get_or (map seat seats) at (seat s) ≡ seat s = at_map seat seats at s ∙ ap seat (sym e) in (
        ap (λ (x : Seat). x.table) (sym is) ∙ sym (at_map (λ (x : Seat). x.table) (map seat seats) at (seat s)) ∙ ap (λ l. get_or l at (seat s).table) f.gates
            ∙ get_or_default (map table gates) at (seat s).table (table d) (omega (arith, w, j)) ∙ at_map table gates at d ∙ ap table (sym here),
        ap (λ (x : Seat). x.caller) (sym is) ∙ f.callers at (seat s) within,
        ap (λ (x : Seat). x.own) (sym is) ∙ f.none at (seat s) within,
      )

module _ (named : Bool) (n operator caller : ℕ) (lines : List Line) (tables : List TableId) (seats : List Seat) (left : Option (List Record × List Mark
    × Option LastSpace)) (rs : List Record) (plan : List Mark)
    (space : Option LastSpace) where
  -- what an actor's thread leaves
  pub piped_leaves : (caller == operator) ≡ false → AreSeated caller tables (new_log n true) seats → length seats ≡ n → (back : List Seat) (lists : List Calls) → length lists ≡ length seats
      → HasWorked named n (actions_of caller lines) left lists → map place_of back ≡ map place_of seats → map calls_of_seat back ≡ joined (map calls_of_seat seats) lists
      → All (λ (s : Seat). OnlyCalls s.own) back → left ≡ Some (rs, plan, space) → CallerLeaves named n operator caller lines tables back rs plan space
  piped_leaves actor was count back lists long w places calls all is =
      let three : (w.log.past, w.log.marks, w.last) ≡ (rs, plan, space) = left_same (w.log.past, w.log.marks, w.last) (rs, plan, space) (sym w.is_left ∙ is) in
      let rs_is : w.log.past ≡ rs = ap (λ p. p.0) three in
      let plan_is : w.log.marks ≡ plan = ap (λ p. p.1) three in
      let last_is : w.last ≡ space = ap (λ p. p.2) three in
      let s = seated caller tables seats back lists w.log (fresh caller n tables seats was) long places calls all (w.long ∙ sym w.count) w.told in
      record {
        does = (
          w.log,
          w.whole,
          w.count,
          rs_is,
          plan_is,
          s,
          subst (λ b. DoesLines named b n caller lines w.log space) (sym actor) (subst (FollowsActions named n (actions_of caller lines) w.log.past w.log.marks) last_is w.follows),
        );
        marked = subst (λ (p : List Mark × List Record). IsMarked p.0 [] p.1) (λ i. (plan_is i, rs_is i)) w.marked;
        copied = subst (λ (p : List Mark × List Record). AreCopied p.0 p.1) (λ i. (plan_is i, rs_is i)) w.copied;
        within = subst (λ (p : ℕ × List Record). AreWithin p.0 p.1) (λ i. (w.count i, rs_is i)) w.within;
      }

-- the work is of this actor, at these nodes
pub worked_as : (a b : Bool) (m n : ℕ) (xs ys : List Action) (left : Option (List Record × List Mark × Option LastSpace)) (lists : List Calls) → a ≡ b → m ≡ n → xs ≡ ys → HasWorked a m xs left lists
    → HasWorked b n ys left lists
worked_as a b m n xs ys left lists e f g h = subst (λ (x : Bool × ℕ × List Action). HasWorked x.0 x.1 x.2 left lists) (λ i. (e i, f i, g i)) h
