-- Each kind of step keeps the rule.
use Rattle.std.proofs.Common.{◌≡◌, ◌≢◌, ℕ, zero, suc, ◌+◌, ◌%◌, ◌^◌, ◌<◌, ◌≤◌, List, [], ◌∷◌, ◌++◌, length, set, Bool, true, false, true≢false, refl}
use Rattle.std.proofs.Common.{sym, ap, ◌∙◌, subst, ⊎_elim, arith, length-append, append-nil}
use Rattle.std.specs.Prelude.{slice_index, slice_set}
use Rattle.std.proofs.lemmas.List.{length-set}
use mathlib.Core.Option.{Option, some, none, some-ne-none, some-injective}
use mathlib.Core.Logic.{dite}
use native.Mathlib.Decide.{ℕ_discrete}
use lib.ListN.{get_elem?}
use Rattle.atomic_table.specs.Table.{State, Me, Step, step, Act, keeps, takes, gives, Allows, Splits, Joins, opening, Final, Seen}
use Rattle.atomic_table.proofs.Lists.{at_set, set_again, at_longer, at_last, one_turn}
use Rattle.play_threads.specs.declared.board.View.{View}
use Rattle.play_threads.specs.declared.board.Stage.{Stage}
use Rattle.play_threads.specs.declared.board.Stage.TheVariants.{Keeps, Rests, Waits, Inside, Spent}
use Rattle.play_threads.specs.Board.{Begins, places_of, Log, keeper, seated, nobody, made_one, new_seat, took_in, turn, turns, Knows, Lies, Kept, looked, noted, drew, passed}
use Rattle.play_threads.proofs.Histories.{begins_more, own_place, else_place, turns_set, turns_few, turns_snoc, at_less, at_end}

-- 2 ^ 64
abbrev N : ℕ
N = 2 ^ 64

-- no step's `then` reads its operands
abbrev untold : {S : Type 0} → Step S
untold = step 0 0 0 0 none

not_true : (b : Bool) → ¬ (b ≡ true) → b ≡ false
not_true true n = absurd (n refl)
not_true false n = refl

-- two seats don't have one ticket
one_owner : (owners : List ℕ) (t r i j : ℕ) → get_elem? owners t ≡ some i → get_elem? owners r ≡ some j → r ≡ t → j ≡ i
one_owner owners t r i j a b e = some-injective j i (sym b ∙ ap (get_elem? owners) e ∙ a)

module _ {E : Type 0} where
  each_after : (P : ℕ → ℕ → View E → Type 0) (views : List (View E)) (by : ℕ) (w : View E)
      → ((j : ℕ) (u : View E) → j ≢ by → get_elem? views j ≡ some u → P (length views) j u) → P (length views) by w
      → (j : ℕ) (u : View E) → get_elem? (set views by w) j ≡ some u → P (length (set views by w)) j u
  each_after P views by w others mine j u e =
      subst (λ (n : ℕ). P n j u) (sym (length-set views by w))
      (⊎_elim
      (λ (x : (j ≡ by) × (w ≡ u)). subst (λ (y : ℕ × View E). P (length views) y.0 y.1) (λ i. (sym x.0 i, x.1 i)) mine)
      (λ (x : (j ≢ by) × (get_elem? views j ≡ some u)). others j u x.0 x.1)
      (at_set views by j w u e))

  -- what another seat knows stays true
  draw_other : (owners : List ℕ) (x served : ℕ) (log : Log E) (out : Bool) (ended : List (Log E × List ℕ)) (n j : ℕ) (u : View E) (st : Stage)
      → Knows owners served log out ended n j u st → Knows (owners ++ x ∷ []) served log out ended n j u st
  draw_other owners x served log out ended n j u Keeps k = k
  draw_other owners x served log out ended n j u Rests k = k
  draw_other owners x served log out ended n j u Waits k = (k.0, at_longer owners (x ∷ []) u.ticket j k.1, k.2, k.3)
  draw_other owners x served log out ended n j u Inside k = (k.0, at_longer owners (x ∷ []) u.ticket j k.1, k.2, k.3, k.4)
  draw_other owners x served log out ended n j u Spent k = k

  take_other : (owners : List ℕ) (served : ℕ) (log : Log E) (ended : List (Log E × List ℕ)) (n t by j : ℕ) (u : View E) (st : Stage)
      → get_elem? owners t ≡ some by → served ≡ t → j ≢ by
      → Knows owners served log false ended n j u st → Knows owners served log true ended n j u st
  take_other owners served log ended n t by j u Keeps own is apart k = k
  take_other owners served log ended n t by j u Rests own is apart k = k
  take_other owners served log ended n t by j u Waits own is apart k = (k.0, k.1, k.2, λ e. absurd (apart (one_owner owners t u.ticket by j own k.1 (e ∙ is))))
  take_other owners served log ended n t by j u Inside own is apart k = absurd (true≢false (sym k.3))
  take_other owners served log ended n t by j u Spent own is apart k = k

  pass_other : (owners : List ℕ) (served : ℕ) (log : Log E) (out : Bool) (ended : List (Log E × List ℕ)) (n t by j : ℕ) (u : View E) (st : Stage)
      → get_elem? owners t ≡ some by → t ≡ served → j ≢ by
      → Knows owners served log out ended n j u st → Knows owners (suc served) log false ended n j u st
  pass_other owners served log out ended n t by j u Keeps own is apart k = k
  pass_other owners served log out ended n t by j u Rests own is apart k = k
  pass_other owners served log out ended n t by j u Waits own is apart k =
      let ne : u.ticket ≢ served = λ e. apart (one_owner owners t u.ticket by j own k.1 (e ∙ sym is)) in
      let le = k.2 in (k.0, k.1, omega arith, λ _. refl)
  pass_other owners served log out ended n t by j u Inside own is apart k = absurd (apart (one_owner owners t u.ticket by j own k.1 (k.2 ∙ sym is)))
  pass_other owners served log out ended n t by j u Spent own is apart k = k

  note_sits : (log : Log E) (ended : List (Log E × List ℕ)) (c by j : ℕ) (x : E) (u : View E) → by ≡ suc c → j ≢ by
      → (j ≡ suc u.caller) × Begins u.seen log × (places_of u.caller log ≡ u.places) × (length ended ≤ u.caller)
      → (j ≡ suc u.caller) × Begins u.seen (log ++ (c, x) ∷ []) × (places_of u.caller (log ++ (c, x) ∷ []) ≡ u.places) × (length ended ≤ u.caller)
  note_sits log ended c by j x u is apart k =
      let ne : c ≢ u.caller = λ e. apart (k.0 ∙ sym (is ∙ ap suc e)) in
      (k.0, begins_more u.seen log ((c, x) ∷ []) k.1, else_place u.caller c log x ne ∙ k.2, k.3)

  note_other : (owners : List ℕ) (served : ℕ) (log : Log E) (out : Bool) (ended : List (Log E × List ℕ)) (n t c by j : ℕ) (x : E) (u : View E) (st : Stage)
      → get_elem? owners t ≡ some by → t ≡ served → by ≡ suc c → j ≢ by
      → Knows owners served log out ended n j u st → Knows owners served (log ++ (c, x) ∷ []) out ended n j u st
  note_other owners served log out ended n t c by j x u Keeps own is who apart k = k
  note_other owners served log out ended n t c by j x u Rests own is who apart k = note_sits log ended c by j x u who apart k
  note_other owners served log out ended n t c by j x u Waits own is who apart k = (note_sits log ended c by j x u who apart k.0, k.1, k.2, k.3)
  note_other owners served log out ended n t c by j x u Inside own is who apart k = absurd (apart (one_owner owners t u.ticket by j own k.1 (k.2 ∙ sym is)))
  note_other owners served log out ended n t c by j x u Spent own is who apart k = k

  split_other : (owners : List ℕ) (served : ℕ) (log : Log E) (out : Bool) (ended : List (Log E × List ℕ)) (n m j : ℕ) (u : View E) (st : Stage)
      → j ≢ 0 → Knows owners served log out ended n j u st → Knows owners served log out ended m j u st
  split_other owners served log out ended n m j u Keeps apart k = absurd (apart k.0)
  split_other owners served log out ended n m j u Rests apart k = k
  split_other owners served log out ended n m j u Waits apart k = k
  split_other owners served log out ended n m j u Inside apart k = k
  split_other owners served log out ended n m j u Spent apart k = k

  join_sits : (log : Log E) (ended : List (Log E × List ℕ)) (p : Log E × List ℕ) (other j : ℕ) (u : View E) → other ≡ suc (length ended) → j ≢ other
      → (j ≡ suc u.caller) × Begins u.seen log × (places_of u.caller log ≡ u.places) × (length ended ≤ u.caller)
      → (j ≡ suc u.caller) × Begins u.seen log × (places_of u.caller log ≡ u.places) × (length (ended ++ p ∷ []) ≤ u.caller)
  join_sits log ended p other j u is apart k =
      let ne : length ended ≢ u.caller = λ e. apart (k.0 ∙ sym (is ∙ ap suc e)) in
      let le = k.3 in
      (k.0, k.1, k.2, omega (arith, length-append ended (p ∷ [])))

  join_other : (owners : List ℕ) (served : ℕ) (log : Log E) (out : Bool) (ended : List (Log E × List ℕ)) (p : Log E × List ℕ) (n other j : ℕ) (u : View E) (st : Stage)
      → other ≡ suc (length ended) → j ≢ 0 → j ≢ other
      → Knows owners served log out ended n j u st → Knows owners served log out (ended ++ p ∷ []) n j u st
  join_other owners served log out ended p n other j u Keeps is zeroth apart k = absurd (zeroth k.0)
  join_other owners served log out ended p n other j u Rests is zeroth apart k = join_sits log ended p other j u is apart k
  join_other owners served log out ended p n other j u Waits is zeroth apart k = (join_sits log ended p other j u is apart k.0, k.1, k.2, k.3)
  join_other owners served log out ended p n other j u Inside is zeroth apart k = (join_sits log ended p other j u is apart k.0, k.1, k.2, k.3, k.4)
  join_other owners served log out ended p n other j u Spent is zeroth apart k = k

module _ {S E : Type 0} (led : Log E → S → Type 0) where
  stays : (s : State S (View E)) (k : Kept led s) (ws : List ℕ) (vs : List (View E)) → ws ≡ s.words → vs ≡ s.views → Kept led (record { words = ws; homes = s.homes; views = vs })
  stays s k ws vs we ve = record {
    owners = k.owners;
    served = k.served;
    log = k.log;
    out = k.out;
    ended = k.ended;
    words_are = we ∙ k.words_are;
    lies = k.lies;
    drawn = ap (λ (l : List (View E)). k.served + turns l) ve ∙ k.drawn;
    busy = k.busy;
    few = subst (λ (l : List (View E)). length l ≤ 2 ^ 32) (sym ve) k.few;
    each = λ j u g. subst (λ (l : List (View E)). Knows k.owners k.served k.log k.out k.ended (length l) j u u.stage) (sym ve)
        (k.each j u (subst (λ (l : List (View E)). get_elem? l j ≡ some u) ve g));
    past = k.past;
    later = subst (λ (l : List (View E)). (i : ℕ) → length l ≤ suc i → places_of i k.log ≡ []) (sym ve) k.later;
  }

  pub draws : (slots by : ℕ) (v : View E) (c : List (ℕ × S)) → v.stage ≡ Rests → Allows (Kept led) slots by (v, c) 0 (λ n. (n + 1) % 2 ^ 64) (drew untold (v, c))
  draws slots by v c is s k one at small =
      let t : ℕ = length k.owners in
      let w = seated Waits v.caller t v.seen v.places in
      let longer = length-append k.owners (by ∷ []) in
      let mine : Knows k.owners k.served k.log k.out k.ended (length s.views) by v Rests = subst (Knows k.owners k.served k.log k.out k.ended (length s.views) by v) is (k.each by v at) in
      let spun : (t % 2 ^ 64 + 1) % 2 ^ 64 ≡ length (k.owners ++ by ∷ []) % 2 ^ 64 = omega (arith, longer) in
      let none_yet : turn v.stage ≡ 0 = ap turn is in
      let counted = turns_set s.views by v w at in
      let drawn = k.drawn in (
        w,
        keeps,
        tt,
        record {
          owners = k.owners ++ by ∷ [];
          served = k.served;
          log = k.log;
          out = k.out;
          ended = k.ended;
          words_are = ap (λ (ws : List ℕ). slice_set ws 0 ((slice_index ws 0 + 1) % 2 ^ 64)) k.words_are ∙ ap (λ (n : ℕ). n ∷ k.served % 2 ^ 64 ∷ length k.log % 2 ^ 64 ∷ []) spun;
          lies = k.lies;
          drawn = omega (arith, longer);
          busy = λ b. let l = k.busy b in omega (arith, longer);
          few = let f = k.few in omega (arith, length-set s.views by w);
          each = each_after (λ n j u. Knows (k.owners ++ by ∷ []) k.served k.log k.out k.ended n j u u.stage) s.views by w
              (λ j u apart e. draw_other k.owners by k.served k.log k.out k.ended (length s.views) j u u.stage (k.each j u e))
              (mine, at_last k.owners by t refl, omega arith, λ e. not_true k.out (λ b. let l = k.busy b in absurd (omega arith)));
          past = k.past;
          later = λ i le. k.later i (omega (arith, length-set s.views by w));
        },
        (t, ap (λ (ws : List ℕ). slice_index ws 0) k.words_are, refl),
      )

  pub looks : (slots by : ℕ) (v : View E) (c : List (ℕ × S)) → v.stage ≡ Waits → Allows (Kept led) slots by (v, c) 1 (λ n. n) (looked led untold (v, c))
  looks slots by v c is s k one at small =
      let r : ℕ = slice_index s.words 1 in
      let found : r ≡ k.served % 2 ^ 64 = ap (λ (ws : List ℕ). slice_index ws 1) k.words_are in
      let kept_words : slice_set s.words 1 (slice_index s.words 1) ≡ s.words = ap (λ (ws : List ℕ). slice_set ws 1 (slice_index ws 1)) k.words_are ∙ sym k.words_are in
      let mine : Knows k.owners k.served k.log k.out k.ended (length s.views) by v Waits = subst (Knows k.owners k.served k.log k.out k.ended (length s.views) by v) is (k.each by v at) in
      let Goal : Type 0 = (w : View E) × (a : Act S) × Rattle.atomic_table.specs.Table.Valid s.homes c a
      × Kept led (Rattle.atomic_table.specs.Table.stepped s 1 r by c w a)
      × looked led untold (v, c) r (w, Rattle.atomic_table.specs.Table.carried_after c a) in
      dite (ℕ_discrete r (v.ticket % 2 ^ 64))
      (λ (hit : r ≡ v.ticket % 2 ^ 64).
      let below = at_less k.owners v.ticket by mine.1 in
      let drawn = k.drawn in
      let few = k.few in
      let le = mine.2 in
      let bound = turns_few s.views in
      let now : k.served ≡ v.ticket = one_turn k.served v.ticket (2 ^ 64) le (omega arith) (sym found ∙ hit) in
      let in_place : k.out ≡ false = mine.3 (sym now) in
      let home : Lies led k.log s.homes false = subst (Lies led k.log s.homes) in_place k.lies in
      let cell : S = home.0 in
      let w = seated Inside v.caller v.ticket k.log v.places in
      let ours : turn v.stage ≡ 1 = ap turn is in
      let counted = turns_set s.views by v w at in (
        w,
        takes 0 cell,
        ap (λ (h : List (Option S)). get_elem? h 0) home.1,
        record {
          owners = k.owners;
          served = k.served;
          log = k.log;
          out = true;
          ended = k.ended;
          words_are = kept_words ∙ k.words_are;
          lies = ap (λ (h : List (Option S)). slice_set h 0 none) home.1;
          drawn = omega arith;
          busy = λ b. omega arith;
          few = omega (arith, length-set s.views by w);
          each = each_after (λ n j u. Knows k.owners k.served k.log true k.ended n j u u.stage) s.views by w
              (λ j u apart e. take_other k.owners k.served k.log k.ended (length s.views) v.ticket by j u u.stage mine.1 now apart
              (subst (λ (b : Bool). Knows k.owners k.served k.log b k.ended (length s.views) j u u.stage) in_place (k.each j u e)))
              ((mine.0.0, ([], append-nil k.log), mine.0.2, mine.0.3), mine.1, sym now, refl, refl);
          past = k.past;
          later = λ i le'. k.later i (omega (arith, length-set s.views by w));
        },
        (λ miss. absurd (miss hit), λ _. (cell, k.log, refl, home.2, mine.0.1, mine.0.2)),
      ))
      (λ (miss : r ≢ v.ticket % 2 ^ 64). (v, keeps, tt, stays s k _ _ kept_words (set_again s.views by v at), (λ _. refl, λ hit. absurd (miss hit))))

  lies_out : (log log' : Log E) (homes : List (Option S)) (b : Bool) → b ≡ true → Lies led log homes b → Lies led log' homes b
  lies_out log log' homes true e h = h
  lies_out log log' homes false e h = absurd (true≢false (sym e))

  -- the call goes to the end of the history
  pub notes : (slots by : ℕ) (v : View E) (c : List (ℕ × S)) (is : E → Type 0) (x : E) → v.stage ≡ Inside → is x
      → Allows (Kept led) slots by (v, c) 2 (λ n. (n + 1) % 2 ^ 64) (noted is untold (v, c))
  notes slots by v c is x inside mean s k one at small =
      let mine : Knows k.owners k.served k.log k.out k.ended (length s.views) by v Inside = subst (Knows k.owners k.served k.log k.out k.ended (length s.views) by v) inside (k.each by v at) in
      let log' : Log E = k.log ++ (v.caller, x) ∷ [] in
      let is_log : v.seen ++ (v.caller, x) ∷ [] ≡ log' = ap (λ (l : Log E). l ++ (v.caller, x) ∷ []) mine.4 in
      let w = seated Inside v.caller v.ticket (v.seen ++ (v.caller, x) ∷ []) (v.places ++ length v.seen ∷ []) in
      let ours : turn v.stage ≡ 1 = ap turn inside in
      let counted = turns_set s.views by v w at in
      let drawn = k.drawn in
      let grown = length-append k.log ((v.caller, x) ∷ []) in
      let spun : (length k.log % 2 ^ 64 + 1) % 2 ^ 64 ≡ length log' % 2 ^ 64 = omega (arith, grown) in
      let here_is : length k.log ≡ length v.seen = ap (λ (l : Log E). length l) (sym mine.4) in
      let who = mine.0.0 in
      let low = mine.0.3 in
      let here = at_less s.views by v at in (
        w,
        keeps,
        tt,
        record {
          owners = k.owners;
          served = k.served;
          log = log';
          out = k.out;
          ended = k.ended;
          words_are = ap (λ (ws : List ℕ). slice_set ws 2 ((slice_index ws 2 + 1) % 2 ^ 64)) k.words_are ∙ ap (λ (n : ℕ). length k.owners % 2 ^ 64 ∷ k.served % 2 ^ 64 ∷ n ∷ []) spun;
          lies = lies_out k.log log' s.homes k.out mine.3 k.lies;
          drawn = omega arith;
          busy = k.busy;
          few = let f = k.few in omega (arith, length-set s.views by w);
          each = each_after (λ n j u. Knows k.owners k.served log' k.out k.ended n j u u.stage) s.views by w
              (λ j u apart e. note_other k.owners k.served k.log k.out k.ended (length s.views) v.ticket v.caller by j x u u.stage mine.1 mine.2 who apart (k.each j u e)) (
                (who, ([], append-nil (v.seen ++ (v.caller, x) ∷ []) ∙ is_log), own_place v.caller k.log x ∙ (λ i. mine.0.2 i ++ here_is i ∷ []), low),
                mine.1,
                mine.2,
                mine.3,
                is_log,
              );
          past = λ i p e. let old = k.past i p e in let lt = at_less k.ended i p e
              in (begins_more p.0 k.log ((v.caller, x) ∷ []) old.0, else_place i v.caller k.log x (λ q. absurd (omega arith)) ∙ old.1);
          later = λ i le. let le' : length s.views ≤ suc i = omega (arith, length-set s.views by w) in else_place i v.caller k.log x (λ q. absurd (omega arith)) ∙ k.later i le';
        },
        (x, mean, refl),
      )

  pub passes : (slots by : ℕ) (v : View E) (cell : S) (new : ℕ) → v.stage ≡ Inside → led v.seen cell → new ≡ (v.ticket + 1) % 2 ^ 64
      → Allows (Kept led) slots by (v, (0, cell) ∷ []) 1 (λ _. new) (λ _. passed untold (v, (0, cell) ∷ []) new)
  passes slots by v cell new is same next s k one at small =
      let mine : Knows k.owners k.served k.log k.out k.ended (length s.views) by v Inside = subst (Knows k.owners k.served k.log k.out k.ended (length s.views) by v) is (k.each by v at) in
      let w = seated Rests v.caller 0 v.seen v.places in
      let ours : turn v.stage ≡ 1 = ap turn is in
      let counted = turns_set s.views by v w at in
      let drawn = k.drawn in
      let now = mine.2 in
      let new_is : new ≡ suc k.served % 2 ^ 64 = next ∙ ap (λ (n : ℕ). n % 2 ^ 64) (let q : v.ticket + 1 ≡ suc k.served = omega arith in q) in
      let away : s.homes ≡ none ∷ [] = subst (Lies led k.log s.homes) mine.3 k.lies in (
        w,
        gives,
        tt,
        record {
          owners = k.owners;
          served = suc k.served;
          log = k.log;
          out = false;
          ended = k.ended;
          words_are = ap (λ (ws : List ℕ). slice_set ws 1 new) k.words_are ∙ ap (λ (n : ℕ). length k.owners % 2 ^ 64 ∷ n ∷ length k.log % 2 ^ 64 ∷ []) new_is;
          lies = (cell, ap (λ (h : List (Option S)). slice_set h 0 (some cell)) away, subst (λ (l : Log E). led l cell) mine.4 same);
          drawn = omega arith;
          busy = λ b. absurd (true≢false (sym b));
          few = let f = k.few in omega (arith, length-set s.views by w);
          each = each_after (λ n j u. Knows k.owners (suc k.served) k.log false k.ended n j u u.stage) s.views by w
              (λ j u apart e. pass_other k.owners k.served k.log k.out k.ended (length s.views) v.ticket by j u u.stage mine.1 now apart (k.each j u e))
              mine.0;
          past = k.past;
          later = λ i le. k.later i (omega (arith, length-set s.views by w));
        },
        refl,
      )

  pub passes_at : (slots by : ℕ) (m : Me S (View E)) (cell : S) (new : ℕ) → m.0.stage ≡ Inside → m.1 ≡ (0, cell) ∷ [] → led m.0.seen cell → new ≡ (m.0.ticket + 1) % 2 ^ 64
      → Allows (Kept led) slots by m 1 (λ _. new) (λ _. passed untold m new)
  passes_at slots by m cell new is holds same next =
      subst (λ (c : List (ℕ × S)). Allows (Kept led) slots by (m.0, c) 1 (λ _. new) (λ _. passed untold (m.0, c) new)) (sym holds) (passes slots by m.0 cell new is same next)

  pub splits : (id made : ℕ) (ended : List (Log E × List ℕ)) (v : View E) → v ≡ keeper made ended → made + 2 ≤ 2 ^ 32 → Splits (Kept led) id v (made_one v) (new_seat v)
  splits id made ended v is small s k at =
      let st : v.stage ≡ Keeps = ap (λ (u : View E). u.stage) is in
      let mine : Knows k.owners k.served k.log k.out k.ended (length s.views) id v Keeps = subst (Knows k.owners k.served k.log k.out k.ended (length s.views) id v) st (k.each id v at) in
      let made_is : v.made ≡ made = ap (λ (u : View E). u.made) is in
      let left = made_one v in
      let right = new_seat v in
      let count = mine.2 in
      let low = mine.3 in
      let few = k.few in
      let none_yet : turn v.stage ≡ 0 = ap turn st in
      let counted = turns_set s.views id v left at in
      let drawn = k.drawn in
      let same = length-set s.views id left in
      let longer = length-append (set s.views id left) (right ∷ []) in
      let n : ℕ = length (set s.views id left ++ right ∷ []) in
      let n_is : n ≡ suc (suc v.made) = omega arith in record {
        owners = k.owners;
        served = k.served;
        log = k.log;
        out = k.out;
        ended = k.ended;
        words_are = k.words_are;
        lies = k.lies;
        drawn = let more = turns_snoc (set s.views id left) right in omega arith;
        busy = k.busy;
        few = omega arith;
        each = λ j u e. ⊎_elim
            (λ (was : get_elem? (set s.views id left) j ≡ some u). ⊎_elim
            (λ (x : (j ≡ id) × (left ≡ u)). subst (λ (y : ℕ × View E). Knows k.owners k.served k.log k.out k.ended n y.0 y.1 y.1.stage)
            (λ i. (sym x.0 i, x.1 i)) (mine.0, mine.1, n_is, (let z : length k.ended ≤ suc v.made = omega arith in z)))
            (λ (x : (j ≢ id) × (get_elem? s.views j ≡ some u)). split_other k.owners k.served k.log k.out k.ended (length s.views) n j u u.stage (λ q. x.0 (q ∙ sym mine.0)) (k.each j u x.1))
            (at_set s.views id j left u was))
            (λ (x : (j ≡ length (set s.views id left)) × (right ≡ u)). subst (λ (y : ℕ × View E). Knows k.owners k.served k.log k.out k.ended n y.0 y.1 y.1.stage) (λ i. (sym x.0 i, x.1 i))
            (same ∙ count, (k.log, refl), k.later v.made (omega arith), low))
            (at_end (set s.views id left) right u j e);
        past = k.past;
        later = λ i le. k.later i (omega arith);
      }

  pub joins : (id other made : ℕ) (ended : List (Log E × List ℕ)) (v w : View E) → v ≡ keeper made ended → w.stage ≡ Rests → w.caller ≡ length ended
      → Joins (Kept led) id v other w (took_in v w) nobody
  joins id other made ended v w is rests next s k at apart there =
      let st : v.stage ≡ Keeps = ap (λ (u : View E). u.stage) is in
      let mine : Knows k.owners k.served k.log k.out k.ended (length s.views) id v Keeps = subst (Knows k.owners k.served k.log k.out k.ended (length s.views) id v) st (k.each id v at) in
      let both = took_in v w in
      let was : get_elem? s.views other ≡ some w = ⊎_elim (λ (x : (other ≡ id) × (both ≡ w)). absurd (apart x.0))
      (λ (x : (other ≢ id) × (get_elem? s.views other ≡ some w)). x.1) (at_set s.views id other both w there) in
      let theirs : Knows k.owners k.served k.log k.out k.ended (length s.views) other w Rests =
      subst (Knows k.owners k.served k.log k.out k.ended (length s.views) other w) rests (k.each other w was) in
      let ended_is : v.ended ≡ ended = ap (λ (u : View E). u.ended) is in
      let known : ended ≡ k.ended = sym ended_is ∙ mine.1 in
      let next' : w.caller ≡ length k.ended = next ∙ ap (λ (l : List (Log E × List ℕ)). length l) known in
      let place : other ≡ suc (length k.ended) = theirs.0 ∙ ap suc next' in
      let p : Log E × List ℕ = (w.seen, w.places) in
      let here = at_less s.views other w was in
      let count = mine.2 in
      let few = k.few in
      let idle : turn v.stage ≡ 0 = ap turn st in
      let idle' : turn w.stage ≡ 0 = ap turn rests in
      let one = turns_set s.views id v both at in
      let two = turns_set (set s.views id both) other w nobody there in
      let drawn = k.drawn in
      let grown = length-append k.ended (p ∷ []) in
      let same = length-set s.views id both in
      let same' = length-set (set s.views id both) other nobody in record {
        owners = k.owners;
        served = k.served;
        log = k.log;
        out = k.out;
        ended = k.ended ++ p ∷ [];
        words_are = k.words_are;
        lies = k.lies;
        drawn = omega arith;
        busy = k.busy;
        few = omega arith;
        each = each_after (λ n j u. Knows k.owners k.served k.log k.out (k.ended ++ p ∷ []) n j u u.stage) (set s.views id both) other nobody
            (λ j u away e. subst (λ (n : ℕ). Knows k.owners k.served k.log k.out (k.ended ++ p ∷ []) n j u u.stage) (sym same)
            (⊎_elim
            (λ (x : (j ≡ id) × (both ≡ u)). subst (λ (y : ℕ × View E). Knows k.owners k.served k.log k.out (k.ended ++ p ∷ []) (length s.views) y.0 y.1 y.1.stage) (λ i. (sym x.0 i, x.1 i))
            (mine.0, ap (λ (l : List (Log E × List ℕ)). l ++ p ∷ []) mine.1, count, (let z : length (k.ended ++ p ∷ []) ≤ v.made = omega arith in z)))
            (λ (x : (j ≢ id) × (get_elem? s.views j ≡ some u)). join_other k.owners k.served k.log k.out k.ended p (length s.views) other j u u.stage
            place (λ q. x.0 (q ∙ sym mine.0)) away (k.each j u x.1))
            (at_set s.views id j both u e)))
            tt;
        past = λ i q e. ⊎_elim
            (λ (old : get_elem? k.ended i ≡ some q). k.past i q old)
            (λ (x : (i ≡ length k.ended) × (p ≡ q)). subst (λ (y : ℕ × (Log E × List ℕ)). Begins y.1.0 k.log × (places_of y.0 k.log ≡ y.1.1)) (λ z. ((next' ∙ sym x.0) z, x.1 z)) (theirs.1, theirs.2))
            (at_end k.ended p q i e);
        later = λ i le. k.later i (omega arith);
      }

  pub opens : (cell : S) → led [] cell → Kept led (opening (0 ∷ 0 ∷ 0 ∷ []) (cell ∷ []) (keeper 0 []))
  opens cell empty = record {
    owners = [];
    served = 0;
    log = [];
    out = false;
    ended = [];
    words_are = refl;
    lies = (cell, refl, empty);
    drawn = refl;
    busy = λ b. absurd (true≢false (sym b));
    few = omega arith;
    each = one;
    past = λ i p e. absurd (some-ne-none p (sym e));
    later = λ i le. refl;
  }
    where
      one : (by : ℕ) (v : View E) → get_elem? (keeper 0 [] ∷ []) by ≡ some v → Knows [] 0 [] false [] 1 by v v.stage
      one zero v e = subst (λ (u : View E). Knows [] 0 [] false [] 1 0 u u.stage) (some-injective (keeper 0 []) v e) (refl, refl, refl, omega arith)
      one (suc by) v e = absurd (some-ne-none v (sym e))

-- all seats that the keeper made are taken in
module _ {E : Type 0} where
  all_still : (vs : List (View E)) → ((j : ℕ) (u : View E) → get_elem? vs j ≡ some u → turn u.stage ≡ 0) → turns vs ≡ 0
  all_still [] h = refl
  all_still (v ∷ vs) h = let a : turn v.stage ≡ 0 = h 0 v refl in let b : turns vs ≡ 0 = all_still vs (λ j u e. h (suc j) u e) in omega arith

  still : (owners : List ℕ) (served : ℕ) (log : Log E) (out : Bool) (ended : List (Log E × List ℕ)) (n j : ℕ) (u : View E) (st : Stage)
      → j < n → n ≡ suc (length ended) → Knows owners served log out ended n j u st → turn st ≡ 0
  still owners served log out ended n j u Keeps lt is k = refl
  still owners served log out ended n j u Rests lt is k = refl
  still owners served log out ended n j u Waits lt is k = let a = k.0.0 in let b = k.0.3 in absurd (omega arith)
  still owners served log out ended n j u Inside lt is k = let a = k.0.0 in let b = k.0.3 in absurd (omega arith)
  still owners served log out ended n j u Spent lt is k = refl

  -- the cell is back, one history led to it, and that has what each seat had seen, and each seat's
  -- calls at its places
  pub finishes : {S : Type 0} (led : Log E → S → Type 0) (id : ℕ) (v : View E) (ended : List (Log E × List ℕ)) (ws : List ℕ) (xs : List S)
      → v ≡ keeper (length ended) ended → Final (Seen (Kept led) id v) ws xs
      → (cell : S) × (log : Log E) × (get_elem? xs 0 ≡ some cell) × led log cell
      × ((i : ℕ) (p : Log E × List ℕ) → get_elem? ended i ≡ some p → Begins p.0 log × (places_of i log ≡ p.1))
      × ((i : ℕ) → length ended ≤ i → places_of i log ≡ [])
  finishes {S} led id v ended ws xs is f =
      let s = f.0 in
      let k : Kept led s = f.1.0 in
      let at = f.1.1 in
      let st : v.stage ≡ Keeps = ap (λ (u : View E). u.stage) is in
      let mine : Knows k.owners k.served k.log k.out k.ended (length s.views) id v Keeps = subst (Knows k.owners k.served k.log k.out k.ended (length s.views) id v) st (k.each id v at) in
      let known : ended ≡ k.ended = sym (ap (λ (u : View E). u.ended) is) ∙ mine.1 in
      let size : length s.views ≡ suc (length k.ended) = mine.2 ∙ ap suc (ap (λ (u : View E). u.made) is ∙ ap (λ (l : List (Log E × List ℕ)). length l) known) in
      let quiet : turns s.views ≡ 0 = all_still s.views (λ j u e. still k.owners k.served k.log k.out k.ended (length s.views) j u u.stage (at_less s.views j u e) size (k.each j u e)) in
      let drawn = k.drawn in
      let back : k.out ≡ false = not_true k.out (λ b. let l = k.busy b in absurd (omega arith)) in
      let home : Lies led k.log s.homes false = subst (Lies led k.log s.homes) back k.lies in (
        home.0,
        k.log,
        f.4 0 home.0 (ap (λ (h : List (Option S)). get_elem? h 0) home.1),
        home.2,
        (λ i p e. k.past i p (subst (λ (l : List (Log E × List ℕ)). get_elem? l i ≡ some p) known e)),
        λ i le. k.later i (let n = ap (λ (l : List (Log E × List ℕ)). length l) known in omega arith),
      )
