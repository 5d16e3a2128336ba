-- Two stopped writers that a takeover doesn't tell apart go on with the same records.
use Rattle.std.proofs.Common.{◌≡◌, ℕ, zero, suc, ◌+◌, ◌-◌, List, [], ◌∷◌, ◌++◌, Bool, true, false, cond, length, refl, sym, ap, ◌∙◌, subst, ◌⊎◌, inl, inr, Some, None, Option}
use Rattle.std.specs.Prelude.{is_some, nat_lt, slice_get, MatchOption}
use Rattle.std.proofs.lemmas.Bool.{true≢false}
use Rattle.journal_core.specs.declared.reply.Reply.TheVariants as reply
use Rattle.writer_core.specs.declared.phase.Phase.TheVariants as phase
use Rattle.writer_core.specs.declared.phase.Aim.TheVariants as aim
use Rattle.writer_core.specs.declared.round.Round.TheVariants as round
use Rattle.writer_core.specs.declared.cause.Cause.{Cause}
use Rattle.writer_core.specs.declared.task.Task.{Task}
use Rattle.writer_core.specs.declared.task.Task.TheVariants as task
use Rattle.writer_core.specs.Views.{WriterView}
use Rattle.writer_core.specs.Rounds.{to_all, none_left_out}
use Rattle.writer_core.specs.Writer.{Began, writer_begun, next_call, call_in, is_writing, if_writing}
use Rattle.writer_core.specs.Alike.{AreStoppedAlike}
use Rattle.journal_history.specs.declared.record.Record.{Record}
use Rattle.journal_history.specs.declared.record.Record.TheVariants.{Call, Late, Operator, Outcome}
use Rattle.journal_history.specs.declared.record.Told.{Told}
use Rattle.journal_history.specs.declared.record.Told.TheVariants as told
use Rattle.mesh.specs.Makers.{Chore, Writes, Tails, Reading, Maker, maker_of, maker_hears, read_heard, IsMade}
use Rattle.mesh_judge.specs.Leading.{Stand, maker_in, CanMake, SomeMake, AllLive, AreAlike, EndAlike, MakeAlike}
use Rattle.mesh_judge.proofs.Chores.{call_there, waiting, tailing, passes, tails, begun}
use Rattle.mesh_judge.proofs.Leading.{some_left, some_right, some_split}

-- ## A stopped writer
abbrev taking : ℕ → ℕ → ℕ → ℕ → ℕ → List Bool → List Cause → WriterView
taking epoch serial committed start next left causes =
    record {
      phase = phase.InRound round.State;
      aim = aim.Takeover;
      epoch = epoch;
      serial = serial;
      committed = committed;
      start = start;
      next = next;
      left = none_left_out left;
      slots = to_all (none_left_out left);
      causes = causes;
    }

takes_over : (w v : WriterView) → AreStoppedAlike w v → begun w task.Takeover ≡ begun v task.Takeover
unfolding writer_begun
takes_over w v a =
    ap (λ x. taking x w.serial w.committed w.start w.next w.left w.causes) a.numbers.epoch
    ∙ ap (λ x. taking v.epoch x w.committed w.start w.next w.left w.causes) a.numbers.serial
    ∙ ap (λ x. taking v.epoch v.serial x w.start w.next w.left w.causes) a.numbers.committed
    ∙ ap (λ x. taking v.epoch v.serial v.committed x w.next w.left w.causes) a.numbers.start
    ∙ ap (λ x. taking v.epoch v.serial v.committed v.start x w.left w.causes) a.numbers.next
    ∙ ap (λ x. taking v.epoch v.serial v.committed v.start v.next x w.causes) a.left
    ∙ ap (λ x. taking v.epoch v.serial v.committed v.start v.next v.left x) a.causes

refuses : (w : WriterView) (b : Began) → w.phase ≡ phase.Stopped → (if_writing (is_writing w.phase) b w).writer ≡ w
refuses w b e = subst (λ p. (if_writing (is_writing p) b w).writer ≡ w) (sym e) refl

no_call : (w : WriterView) → w.phase ≡ phase.Stopped → is_some (next_call w) ≡ false
no_call w e = subst (λ p. is_some (call_in p w) ≡ false) (sym e) refl

-- ## What it goes on with
nothing : (w v : WriterView) → is_some (next_call w) ≡ false → (rs : List Record) → IsMade (waiting [] w) rs → IsMade (waiting [] v) rs
unfolding IsMade
nothing w v rests [] h = tt
nothing w v rests (Call node r t ∷ rs) (e, h) = absurd (true≢false (sym (call_there (next_call w) node r e) ∙ rests))
nothing w v rests (Late node r ∷ rs) h = nothing w v rests rs h
nothing w v rests (Operator node ask done ∷ rs) h = absurd h
nothing w v rests (Outcome text ∷ rs) h = nothing w v rests rs h

abbrev Goes : Maker → Maker → List Record → Type 0
Goes m n rs = IsMade m rs → IsMade n rs

next_alike : (cs : List Chore) (w v : WriterView) (r : Reading) (rs : List Record) → length w.left ≡ length v.left → Goes (maker_of cs w) (maker_of cs v) rs
    → ((q : Reading) → Goes (tailing cs w q) (tailing cs v q) rs)
    → IsMade (cond (nat_lt r.node (length w.left)) (tailing cs w (record r { node = r.node + 1 })) (maker_of cs w)) rs
    → IsMade (cond (nat_lt r.node (length v.left)) (tailing cs v (record r { node = r.node + 1 })) (maker_of cs v)) rs
next_alike cs w v r rs size ends later h =
    subst (λ n. IsMade (cond (nat_lt r.node n) (tailing cs v (record r { node = r.node + 1 })) (maker_of cs v)) rs) size (by (nat_lt r.node (length w.left)) h)
  where
    by : (b : Bool) → IsMade (cond b (tailing cs w (record r { node = r.node + 1 })) (maker_of cs w)) rs → IsMade (cond b (tailing cs v (record r { node = r.node + 1 })) (maker_of cs v)) rs
    by true g = later (record r { node = r.node + 1 }) g
    by false g = ends g

heard_alike : (cs : List Chore) (w v : WriterView) (position node more : ℕ) (t : Told) (rs : List Record) → length w.left ≡ length v.left → Goes (maker_of cs w) (maker_of cs v) rs
    → ((q : Reading) → Goes (tailing cs w q) (tailing cs v q) rs)
    → IsMade (read_heard (record { position = position; node = node; more = more }) t (tailing cs w (record { position = position; node = node; more = more }))) rs
    → IsMade (read_heard (record { position = position; node = node; more = more }) t (tailing cs v (record { position = position; node = node; more = more }))) rs
heard_alike cs w v position node zero (told.Reply (reply.Edits batch)) rs size ends later h = ends h
heard_alike cs w v position node (suc more) (told.Reply (reply.Edits batch)) rs size ends later h = later (record { position = position + length batch.bodies; node = 1; more = more }) h
heard_alike cs w v position node more (told.Reply reply.Ok) rs size ends later h = next_alike cs w v (record { position = position; node = node; more = more }) rs size ends later h
heard_alike cs w v position node more (told.Reply (reply.State promised)) rs size ends later h = next_alike cs w v (record { position = position; node = node; more = more }) rs size ends later h
heard_alike cs w v position node more (told.Reply (reply.NewEpoch newest)) rs size ends later h = next_alike cs w v (record { position = position; node = node; more = more }) rs size ends later h
heard_alike cs w v position node more (told.Reply (reply.Prepared writer committed segment)) rs size ends later h =
    next_alike cs w v (record { position = position; node = node; more = more }) rs size ends later h
heard_alike cs w v position node more (told.Reply (reply.Segments segments)) rs size ends later h = next_alike cs w v (record { position = position; node = node; more = more }) rs size ends later h
heard_alike cs w v position node more (told.Reply (reply.Refused refusal)) rs size ends later h = next_alike cs w v (record { position = position; node = node; more = more }) rs size ends later h
heard_alike cs w v position node more told.Dropped rs size ends later h = next_alike cs w v (record { position = position; node = node; more = more }) rs size ends later h
heard_alike cs w v position node more told.Muted rs size ends later h = next_alike cs w v (record { position = position; node = node; more = more }) rs size ends later h
heard_alike cs w v position node more told.Silent rs size ends later h = next_alike cs w v (record { position = position; node = node; more = more }) rs size ends later h

read_alike : (cs : List Chore) (w v : WriterView) → length w.left ≡ length v.left → ((rs : List Record) → Goes (maker_of cs w) (maker_of cs v) rs)
    → (rs : List Record) (q : Reading) → Goes (tailing cs w q) (tailing cs v q) rs
unfolding IsMade maker_hears
read_alike cs w v size ends [] q h = tt
read_alike cs w v size ends (Call node r t ∷ rs) q (e, h) = (e, heard_alike cs w v q.position q.node q.more t rs size (ends rs) (read_alike cs w v size ends rs) h)
read_alike cs w v size ends (Late node r ∷ rs) q h = read_alike cs w v size ends rs q h
read_alike cs w v size ends (Operator node ask done ∷ rs) q h = absurd h
read_alike cs w v size ends (Outcome text ∷ rs) q h = read_alike cs w v size ends rs q h

made_alike : (w v : WriterView) → AreStoppedAlike w v → (cs : List Chore) (rs : List Record) → Goes (maker_of cs w) (maker_of cs v) rs
unfolding maker_of writer_begun
made_alike w v a [] rs h = nothing w v (no_call w a.stopped) rs h
made_alike w v a (Writes x ∷ cs) rs h =
    subst (λ m. IsMade m rs) (sym (passes x cs v (no_call v a.other_stopped))) (by x (made_alike w v a cs rs) (subst (λ m. IsMade m rs) (passes x cs w (no_call w a.stopped)) h))
  where
    same : (x : Task) → begun w x ≡ w → begun v x ≡ v → Goes (maker_of cs w) (maker_of cs v) rs → Goes (maker_of cs (begun w x)) (maker_of cs (begun v x)) rs
    same x e f later g = subst (λ z. IsMade (maker_of cs z) rs) (sym f) (later (subst (λ z. IsMade (maker_of cs z) rs) e g))

    by : (x : Task) → Goes (maker_of cs w) (maker_of cs v) rs → Goes (maker_of cs (begun w x)) (maker_of cs (begun v x)) rs
    by task.Takeover later g = subst (λ z. IsMade (maker_of cs z) rs) (takes_over w v a) g
    by (task.Log bodies) later g = same (task.Log bodies) (refuses w _ a.stopped) (refuses v _ a.other_stopped) later g
    by task.Roll later g = same task.Roll (refuses w _ a.stopped) (refuses v _ a.other_stopped) later g
    by task.Close later g = same task.Close (refuses w _ a.stopped) (refuses v _ a.other_stopped) later g
    by (task.Purge min) later g = same (task.Purge min) (refuses w _ a.stopped) (refuses v _ a.other_stopped) later g
made_alike w v a (Tails position more ∷ cs) rs h =
    subst (λ m. IsMade m rs) (sym (tails position more cs v (no_call v a.other_stopped)))
    (read_alike cs w v (ap length a.left) (made_alike w v a cs) rs (record { position = position; node = 1; more = more })
    (subst (λ m. IsMade m rs) (tails position more cs w (no_call w a.stopped)) h))

turned : (w v : WriterView) → AreStoppedAlike w v → AreStoppedAlike v w
turned w v a = record {
  stopped = a.other_stopped;
  other_stopped = a.stopped;
  numbers = record { epoch = sym a.numbers.epoch; serial = sym a.numbers.serial; committed = sym a.numbers.committed; start = sym a.numbers.start; next = sym a.numbers.next };
  left = sym a.left;
  causes = sym a.causes;
}

can_alike : (s x : Stand) (rs : List Record) → AreAlike x s → CanMake s rs → CanMake x rs
can_alike s x rs (none, other, a) (cs, bodies, h) = (
  cs,
  bodies,
  subst (λ p. IsMade (maker_in p cs x.writer) rs) (sym none)
      (made_alike s.writer x.writer (turned x.writer s.writer a) cs rs (subst (λ p. IsMade (maker_in p cs s.writer) rs) other h)),
)

-- ## Lists of stands
some_at : (ss : List Stand) (i : ℕ) (x : Stand) (rs : List Record) → slice_get ss i ≡ Some x → CanMake x rs → SomeMake ss rs
some_at [] i x rs e h = absurd (cc e)
some_at (s ∷ ss) zero x rs e h = let f : s ≡ x = cc e in inl (subst (λ z. CanMake z rs) (sym f) h)
some_at (s ∷ ss) (suc i) x rs e h = inr (some_at ss i x rs e h)

end_makes : (ss : List Stand) (s : Stand) (rs : List Record) → EndAlike ss s → CanMake s rs → SomeMake ss rs
end_makes ss s rs a h = by (slice_get ss (length ss - 1)) refl a
  where
    by : (o : Option Stand) → slice_get ss (length ss - 1) ≡ o → MatchOption o ⊥ (λ last. AreAlike last s) → SomeMake ss rs
    by None e g = absurd g
    by (Some last) e g = some_at ss (length ss - 1) last rs e (can_alike s last rs g h)

live_split : (us vs : List Stand) → AllLive (us ++ vs) → AllLive us × AllLive vs
live_split [] vs h = (tt, h)
live_split (u ∷ us) vs h = let g = live_split us vs h.1 in ((h.0, g.0), g.1)

live_push : (us : List Stand) (s : Stand) → AllLive us → AllLive (s ∷ []) → AllLive (us ++ s ∷ [])
live_push [] s a b = b
live_push (u ∷ us) s a b = (a.0, live_push us s a.1 b)

pub skip_alike : (those these : List Stand) (s : Stand) → EndAlike these s → MakeAlike those these → MakeAlike (those ++ s ∷ []) these
skip_alike those these s a m = record {
  on = λ rs h. by rs (some_split those (s ∷ []) rs h);
  back = λ rs h. some_left those (s ∷ []) rs (m.back rs h);
  live = λ h. m.live (live_split those (s ∷ []) h).0;
}
  where
    one : (rs : List Record) → SomeMake (s ∷ []) rs → SomeMake these rs
    one rs (inl h) = end_makes these s rs a h
    one rs (inr h) = absurd h

    by : (rs : List Record) → SomeMake those rs ⊎ SomeMake (s ∷ []) rs → SomeMake these rs
    by rs (inl h) = m.on rs h
    by rs (inr h) = one rs h

pub push_alike : (those these : List Stand) (s : Stand) → MakeAlike those these → MakeAlike (those ++ s ∷ []) (these ++ s ∷ [])
push_alike those these s m = record {
  on = λ rs h. on rs (some_split those (s ∷ []) rs h);
  back = λ rs h. back rs (some_split these (s ∷ []) rs h);
  live = λ h. let g = live_split those (s ∷ []) h in live_push these s (m.live g.0) g.1;
}
  where
    on : (rs : List Record) → SomeMake those rs ⊎ SomeMake (s ∷ []) rs → SomeMake (these ++ s ∷ []) rs
    on rs (inl h) = some_left these (s ∷ []) rs (m.on rs h)
    on rs (inr h) = some_right these (s ∷ []) rs h

    back : (rs : List Record) → SomeMake these rs ⊎ SomeMake (s ∷ []) rs → SomeMake (those ++ s ∷ []) rs
    back rs (inl h) = some_left those (s ∷ []) rs (m.back rs h)
    back rs (inr h) = some_right those (s ∷ []) rs h
