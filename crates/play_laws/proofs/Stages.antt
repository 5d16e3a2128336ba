-- Where an actor of a script with names stands, what it then holds of a line, and its tails.
use Rattle.std.proofs.Common.{◌≡◌, ℕ, zero, suc, ◌+◌, ◌-◌, ◌≤◌, List, [], ◌∷◌, ◌++◌, Bool, true, false, cond, refl, sym, ap, ◌∙◌, subst, arith, length, take}
use Rattle.std.proofs.lemmas.List.{length-take-le}
use Rattle.std.specs.Prelude.{Option, Some, None, ◌==◌, nat_lt}
use Rattle.std.proofs.lemmas.Bool.Decides.{nat_tests}
use Rattle.journal_core.specs.declared.reply.Reply.TheVariants as reply
use Rattle.journal_core.specs.declared.heard.Heard.{Heard}
use Rattle.journal_core.specs.declared.heard.Heard.TheVariants.{Answer}
use Rattle.ns_tree.specs.Space.{Space}
use Rattle.ns_edits.specs.Replay.{replay_from, Applied, All, BadEntry, applied}
use Rattle.ns_edits.proofs.Splits.{has_gone, HasGone}
use Rattle.writer_core.specs.declared.phase.Phase.{Phase}
use Rattle.writer_core.specs.declared.phase.Phase.TheVariants as phase
use Rattle.writer_core.specs.declared.phase.Aim.TheVariants as aim
use Rattle.writer_core.specs.declared.task.Task.{Task}
use Rattle.writer_core.specs.declared.task.Task.TheVariants as task
use Rattle.writer_core.specs.Views.{WriterView}
use Rattle.writer_core.specs.Writer.{writer_stopped}
use Rattle.play_names.specs.Holding.{Holding, Work, Free, Tails, Logs, Broken, with_work, at_position}
use Rattle.play_names.specs.Tails.{TailEnd, Reached, GoesOn, Ends, pass_begun, up_to, after_applied, least_purged, after_or, pass_end, no_edits, tail_hears}
use Rattle.play_model.specs.Safe.{AllOn}
use Rattle.play_model.specs.Actor.{Actor, is_entered, not_entered, tail_ended, tail_stepped}
use Rattle.writer_core.specs.Turns.{IsInRound, aim_of}
use Rattle.play_model.proofs.WriterTurns.{has_other, IsBetween, Course}
use Rattle.play_laws.proofs.WriterPlaces.{PhasePlace, IsLogIn}
use Rattle.play_laws.proofs.Held.{AllOn-take, held_more, held_at, held_start, Standing}

module _ (L : ℕ → List ℕ → Type 0) where
  -- ## Where the work of an actor stands
  abbrev pub AtStandby : Phase → Type 0
  AtStandby (phase.InRound r) = ⊥
  AtStandby phase.Writing = ⊥
  AtStandby phase.Idle = Unit {0}
  AtStandby phase.Stopped = Unit {0}

  abbrev pub RestsAt : ℕ → Phase → WriterView → Type 0
  RestsAt p (phase.InRound r) w = ⊥
  RestsAt p phase.Writing w = w.next ≡ p + 1
  RestsAt p phase.Idle w = Unit {0}
  RestsAt p phase.Stopped w = Unit {0}

  -- the writer of a tail: of a standby, or of an actor whose takeover was done
  pub record Taken (last : ℕ) (w : WriterView) : Type 0 where
    pub writing : w.phase ≡ phase.Writing
    pub start : w.start ≡ last + 1
    pub next : w.next ≡ last + 2
    pub logged : L (last + 1) (24 ∷ [])

  abbrev pub TailWriter : Option ℕ → WriterView → Type 0
  TailWriter None w = AtStandby w.phase
  TailWriter (Some last) w = Taken last w

  abbrev pub Within : Option ℕ → ℕ → Type 0
  Within None p = Unit {0}
  Within (Some last) p = p ≤ last

  pub record OnTask (p : ℕ) (t : Task) (w : WriterView) : Type 0 where
    pub course : Course (aim_of t) w
    pub in_round : IsInRound w.phase
    pub place : PhasePlace L p (aim_of t) w.phase w

  pub record OnLog (h : Holding) (bodies : List (List ℕ)) (ahead : Space) (w : WriterView) : Type 0 where
    pub on : OnTask h.position (task.Log bodies) w
    pub is_log : IsLogIn L bodies aim.Log w.phase
    pub leads : replay_from h.position bodies h.space ≡ Some ahead

  abbrev pub Stage : Holding → Option Task → WriterView → Work → Type 0
  Stage h None w Free = RestsAt h.position w.phase w
  Stage h None w (Tails until node told) = TailWriter until w × Within until h.position
  Stage h None w (Logs ahead dues) = ⊥
  Stage h None w Broken = IsBetween w.phase
  Stage h (Some (task.Log bodies)) w (Logs ahead dues) = OnLog h bodies ahead w
  Stage h (Some (task.Log bodies)) w Free = ⊥
  Stage h (Some task.Takeover) w Free = OnTask h.position task.Takeover w
  Stage h (Some task.Roll) w Free = OnTask h.position task.Roll w
  Stage h (Some task.Close) w Free = OnTask h.position task.Close w
  Stage h (Some (task.Purge min)) w Free = OnTask h.position (task.Purge min) w
  Stage h (Some t) w _ = ⊥

  -- what holds of an actor, by its parts
  pub record Good (doing : Option Task) (w : WriterView) (holds : Option Holding) : Type 0 where
    pub holding : Holding
    pub is : holds ≡ Some holding
    pub stands : Standing L holding
    pub other : has_other w.left ≡ true
    pub stage : Stage holding doing w holding.work

  abbrev pub GoodActor : Actor → Type 0
  GoodActor a = Good a.doing a.writer a.holds

  -- ## Tails
  taken_next : (last : ℕ) (w : WriterView) (t : Taken last w) → w.next ≡ w.start + 1
  taken_next last w t = let a : w.next ≡ last + 2 = t.next in let b : w.start ≡ last + 1 = t.start in omega (arith, a, b)

  until_is : (last p : ℕ) → (last == p) ≡ true → last ≡ p
  until_is last p e = grind (arith, nat_tests)

  tails_stage : (until : Option ℕ) (node : ℕ) (told : List Heard) (h : Holding) (a : Actor) → a.doing ≡ None → TailWriter until a.writer
      → Within until h.position → Stage h a.doing a.writer (Tails until node told)
  tails_stage until node told h a idle w b = subst (λ (d : Option Task). Stage h d a.writer (Tails until node told)) (sym idle) (w, b)

  pub free_stage : (h : Holding) (a : Actor) (w : WriterView) → a.doing ≡ None → RestsAt h.position w.phase w → Stage h a.doing w Free
  free_stage h a w idle r = subst (λ (d : Option Task). Stage h d w Free) (sym idle) r

  pub rests_standby : (p : ℕ) (x : Phase) (w : WriterView) → AtStandby x → RestsAt p x w
  rests_standby p (phase.InRound r) w s = s
  rests_standby p phase.Writing w s = absurd s
  rests_standby p phase.Idle w s = tt
  rests_standby p phase.Stopped w s = tt

  pub rests_writing : (p : ℕ) (w : WriterView) → w.phase ≡ phase.Writing → w.next ≡ p + 1 → RestsAt p w.phase w
  rests_writing p w e n = subst (λ (x : Phase). RestsAt p x w) (sym e) n

  entered_good : (last : ℕ) (h : Holding) (a : Actor) → Standing L h → h.position ≡ last → a.doing ≡ None → has_other a.writer.left ≡ true → Taken last a.writer → GoodActor (is_entered h a)
  entered_good last h a s at idle o t = record {
    holding = at_position a.writer.start h;
    is = refl;
    stands = record {
      held = held_start L h.position a.writer.start h.space (t.start ∙ ap (λ (k : ℕ). k + 1) (sym at)) s.held
          (subst (λ (k : ℕ). L k (24 ∷ [])) (sym t.start) t.logged);
      images = s.images;
    };
    other = o;
    stage = free_stage (at_position a.writer.start h) a a.writer idle (rests_writing a.writer.start a.writer t.writing (taken_next last a.writer t));
  }

  left_good : (end : TailEnd) (h : Holding) (a : Actor) → Standing L h → h.work ≡ Free → a.doing ≡ None → has_other a.writer.left ≡ true → GoodActor (not_entered end h a)
  left_good end h a s free idle o = record {
    holding = h;
    is = refl;
    stands = s;
    other = o;
    stage = subst (λ (x : Work). Stage h a.doing (writer_stopped a.writer) x) (sym free) (free_stage h a (writer_stopped a.writer) idle tt);
  }

  said_good : (end : TailEnd) (h : Holding) (a : Actor) → Standing L h → h.work ≡ Free → a.doing ≡ None → has_other a.writer.left ≡ true
      → AtStandby a.writer.phase → GoodActor (tail_ended None end h a)
  unfolding tail_ended
  said_good end h a s free idle o w = record {
    holding = h;
    is = refl;
    stands = s;
    other = o;
    stage = subst (λ (x : Work). Stage h a.doing a.writer x) (sym free) (free_stage h a a.writer idle (rests_standby h.position a.writer.phase a.writer w));
  }

  -- a pass begins
  pub pass_good : (until : Option ℕ) (h : Holding) (a : Actor) → Standing L h → Within until h.position → a.doing ≡ None
      → has_other a.writer.left ≡ true → TailWriter until a.writer → GoodActor (tail_stepped until (pass_begun until h) a)
  unfolding tail_stepped pass_begun tail_ended
  pass_good None h a s b idle o w = record {
    holding = with_work (Tails None 1 []) h;
    is = refl;
    stands = record { held = s.held; images = s.images };
    other = o;
    stage = tails_stage None 1 [] (with_work (Tails None 1 []) h) a idle w tt;
  }
  pass_good (Some last) h a s b idle o w = by (last == h.position) refl
    where
      by : (x : Bool) → (last == h.position) ≡ x → GoodActor (tail_stepped (Some last) (cond x (Ends Reached (with_work Free h)) (GoesOn (with_work (Tails (Some last) 1 []) h))) a)
      by true is = entered_good last (with_work Free h) a (record { held = s.held; images = s.images }) (sym (until_is last h.position is)) idle o w
      by false is = record {
        holding = with_work (Tails (Some last) 1 []) h;
        is = refl;
        stands = record { held = s.held; images = s.images };
        other = o;
        stage = tails_stage (Some last) 1 [] (with_work (Tails (Some last) 1 []) h) a idle w b;
      }

  -- no node gave edits
  after_good : (last : ℕ) (o : Option ℕ) (told : List Heard) (h : Holding) (a : Actor) → Standing L h → h.work ≡ Free → a.doing ≡ None
      → has_other a.writer.left ≡ true → GoodActor (tail_ended (Some last) (after_or o told) h a)
  unfolding tail_ended
  after_good last None told h a s free idle o = left_good (after_or None told) h a s free idle o
  after_good last (Some first) told h a s free idle o = left_good (after_or (Some first) told) h a s free idle o

  end_good : (until : Option ℕ) (told : List Heard) (h : Holding) (a : Actor) → Standing L h → h.work ≡ Free → a.doing ≡ None
      → has_other a.writer.left ≡ true → TailWriter until a.writer → GoodActor (tail_ended until (pass_end until told) h a)
  unfolding pass_end
  end_good None told h a s free idle o w = said_good (pass_end None told) h a s free idle o w
  end_good (Some last) told h a s free idle o w = after_good last (least_purged told) told h a s free idle o

  none_good : (nodes : ℕ) (until : Option ℕ) (node : ℕ) (told : List Heard) (h : Holding) (a : Actor) → Standing L h → Within until h.position
      → a.doing ≡ None → has_other a.writer.left ≡ true → TailWriter until a.writer
      → GoodActor (tail_stepped until (no_edits nodes until node told h) a)
  unfolding tail_stepped
  none_good nodes until node told h a s b idle o w = by (nat_lt node nodes)
    where
      here : Standing L (with_work Free h)
      here = record { held = s.held; images = s.images }

      by : (x : Bool) → GoodActor (tail_stepped until (cond x (GoesOn (with_work (Tails until (node + 1) told) h)) (Ends (pass_end until told) (with_work Free h))) a)
      by true = record {
        holding = with_work (Tails until (node + 1) told) h;
        is = refl;
        stands = record { held = s.held; images = s.images };
        other = o;
        stage = tails_stage until (node + 1) told (with_work (Tails until (node + 1) told) h) a idle w b;
      }
      by false = end_good until told (with_work Free h) a here refl idle o w

  -- edits were given
  within_more : (until : Option ℕ) (p : ℕ) (bodies : List (List ℕ)) → Within until p → Within until (p + length (up_to until p bodies))
  within_more None p bodies b = tt
  within_more (Some last) p bodies b = let few : length (take (last - p) bodies) ≤ last - p = length_taken (last - p) bodies in omega (arith, few, b)
    where
      length_taken : (n : ℕ) (xs : List (List ℕ)) → length (take n xs) ≤ n
      length_taken zero [] = omega arith
      length_taken (suc n) [] = omega arith
      length_taken zero (x ∷ xs) = omega arith
      length_taken (suc n) (x ∷ xs) = let rec : length (take n xs) ≤ n = length_taken n xs in omega (arith, rec)

  pub up_to_on : (until : Option ℕ) (p : ℕ) (bodies : List (List ℕ)) → AllOn L p bodies → AllOn L p (up_to until p bodies)
  up_to_on None p bodies a = a
  up_to_on (Some last) p bodies a = AllOn-take L (last - p) p bodies a

  between_by : (x : Phase) → AtStandby x → IsBetween x
  between_by (phase.InRound r) s = s
  between_by phase.Writing s = tt
  between_by phase.Idle s = tt
  between_by phase.Stopped s = tt

  between : (until : Option ℕ) (w : WriterView) → TailWriter until w → IsBetween w.phase
  between None w t = between_by w.phase t
  between (Some last) w t = subst (λ (x : Phase). IsBetween x) (sym t.writing) tt

  broken_stage : (until : Option ℕ) (h : Holding) (a : Actor) → a.doing ≡ None → TailWriter until a.writer → Stage h a.doing a.writer Broken
  broken_stage until h a idle w = subst (λ (d : Option Task). Stage h d a.writer Broken) (sym idle) (between until a.writer w)

  applied_good : (until : Option ℕ) (bodies : List (List ℕ)) (h : Holding) (a : Actor) → Standing L h → Within until h.position → a.doing ≡ None
      → has_other a.writer.left ≡ true → TailWriter until a.writer → AllOn L h.position bodies
      → GoodActor (tail_stepped until (after_applied until (applied h.position (up_to until h.position bodies) h.space) h) a)
  unfolding tail_stepped
  applied_good until bodies h a s b idle o w on = by (applied h.position (up_to until h.position bodies) h.space) (has_gone h.position (up_to until h.position bodies) h.space)
    where
      given : List (List ℕ)
      given = up_to until h.position bodies

      here : AllOn L h.position given
      here = up_to_on until h.position bodies on

      by : (x : Applied) → HasGone h.position given h.space x → GoodActor (tail_stepped until (after_applied until x h) a)
      by (All z u) g =
          pass_good until (record h { space = z; position = u }) a
          (record { held = held_at L (h.position + length given) u z (sym g.1) (held_more L h.position h.space z given s.held here g.0); images = s.images })
          (subst (λ (k : ℕ). Within until k) (sym g.1) (within_more until h.position bodies b)) idle o w
      by (BadEntry z u) g = record {
        holding = record h { space = z; position = u - 1; work = Broken };
        is = refl;
        stands = record {
          held = held_at L (h.position + length (take g.0.count given)) (u - 1) z
              (let few : length (take g.0.count given) ≡ g.0.count = length-take-le g.0.count given g.0.few in let at : u ≡ h.position + g.0.count + 1 = g.0.position in omega (arith, few, at))
              (held_more L h.position h.space z (take g.0.count given) s.held (AllOn-take L g.0.count h.position given here) g.0.replayed);
          images = s.images;
        };
        other = o;
        stage = broken_stage until (record h { space = z; position = u - 1; work = Broken }) a idle w;
      }

  -- what a read must have given
  abbrev pub EditsOn : ℕ → Heard → Type 0
  EditsOn p (Answer (reply.Edits batch)) = AllOn L p batch.bodies
  EditsOn p _ = Unit {0}

  pub hears_good : (nodes : ℕ) (until : Option ℕ) (node : ℕ) (told : List Heard) (heard : Heard) (h : Holding) (a : Actor) → Standing L h
      → Within until h.position → a.doing ≡ None → has_other a.writer.left ≡ true
      → TailWriter until a.writer → EditsOn h.position heard → GoodActor (tail_stepped until (tail_hears nodes until node told heard h) a)
  unfolding tail_hears
  hears_good nodes until node told (Answer (reply.Edits batch)) h a s b idle o w on = applied_good until batch.bodies h a s b idle o w on
  hears_good nodes until node told heard h a s b idle o w on = none_good nodes until node (told ++ heard ∷ []) h a s b idle o w
