-- What an actor told of its checkpoints, and the newest image that it keeps, at every moment: its
-- images change by checkpoints alone, and each of them is told.
use Rattle.std.proofs.Common.{◌≡◌, ℕ, ◌+◌, ◌-◌, ◌<◌, ◌≤◌, List, [], ◌∷◌, ◌++◌, Bool, true, false, true≢false, cond, refl, sym, ap, ◌∙◌, subst, arith, length, map, drop, ◌⊎◌, inl, inr}
use Rattle.std.specs.Prelude.{Option, Some, None, ◌||◌, ◌==◌, nat_lt, take, codes}
use Rattle.std.proofs.lemmas.Bool.Decides.{nat_tests}
use Rattle.journal_core.specs.declared.request.Request.{Request}
use Rattle.journal_core.specs.declared.reply.Reply.TheVariants as reply
use Rattle.journal_core.specs.declared.heard.Heard.{Heard}
use Rattle.journal_core.specs.declared.heard.Heard.TheVariants.{Answer}
use Rattle.edit_ops.specs.Records.{EditView}
use Rattle.ns_edits.specs.Replay.{Image, Applied, All, BadEntry, applied}
use Rattle.writer_core.specs.declared.task.Task.{Task}
use Rattle.writer_core.specs.declared.task.Task.TheVariants as task
use Rattle.writer_core.specs.declared.task.Begun.{Begun}
use Rattle.writer_core.specs.declared.task.Begun.TheVariants as begun
use Rattle.writer_core.specs.declared.turn.Turn.{Turn}
use Rattle.writer_core.specs.declared.turn.Turn.TheVariants as turn
use Rattle.writer_core.specs.declared.turn.Outcome.{Outcome as Ended}
use Rattle.writer_core.specs.declared.turn.Outcome.TheVariants as outcome
use Rattle.writer_core.specs.Views.{WriterView}
use Rattle.writer_core.specs.Rounds.{Judgment}
use Rattle.writer_core.specs.Writer.{is_writing, writer_begun, writer_heard}
use Rattle.journal_history.specs.declared.record.Record.{Record}
use Rattle.journal_history.specs.declared.record.Record.TheVariants.{Call, Late, Operator, Outcome}
use Rattle.mesh.proofs.Shared.{In}
use Rattle.mesh.proofs.OrderSigns.{in_left, in_either}
use Rattle.mesh.specs.Makers.{heard_of}
use Rattle.play_names.specs.Holding.{Holding, Work, Free, Tails, Logs, Broken, with_work, empty_holding, enters, at_position, image_put, save_image, load_image, reload_image, min_to_keep}
use Rattle.play_names.specs.Tails.{TailEnd, Caught, Reached, PurgedFrom, BehindBy, TailStep, GoesOn, Ends, Breaks, is_until, pass_begun, up_to, after_applied, pass_end, no_edits, tail_hears}
use Rattle.play_names.specs.Results.{took, word, late_none, dues_logged, dues_aborted, inactive_results, too_long_results, results_of}
use Rattle.play_names.specs.Submissions.{Submission, submit_edits, nothing_submitted}
use Rattle.play_model.specs.Lines.{Action, Does, DoDrop, DoMute, DoLate, Submits, Trims, DoTail, Saves, Reloads}
use Rattle.play_model.specs.Actor.{Actor, fresh_actor, images_of, wants, is_wanting, is_broken, tail_ended, tail_stepped, task_begun, make_copy, begin_sync, after_sync, logged_when}
use Rattle.play_model.specs.Actor.{trim_at, unless_active, begin_save, begin_reload, take_named_action, take_action, while_wanting, settle, logs_done, task_done, held_turn, turn_with, turn_taken}
use Rattle.play_model.specs.Actor.{after_judgment, heard_in_work, heard_by, moved_on, settle_again, goes_on, Fits, IsLed, actor_after}
use Rattle.play_model.proofs.Wanting.{Resting, Calling, Saying, resting, fits_calling, fits_saying, no_operation}
use Rattle.play_laws.specs.ImagesLeft.{saved_text, ReachesTo}
use Rattle.play_laws.proofs.Actions.{or_false}
use Rattle.play_laws.proofs.Oks.{in_last}
use Rattle.play_laws.proofs.PlainTexts.{saves, saved_saves, ArePlain, mapped_plain, inactive_plain, long_plain, results_plain, logged_plain, lost_plain, aborts_plain, tail_plain, entry_plain}

-- ## An image that is put among others, of which the two newest are kept
put_reaches : (i : Image) (js : List Image) → ReachesTo i.txid (take 2 (image_put i js))
unfolding image_put
put_reaches i [] = omega arith
put_reaches i (j ∷ js) = by (nat_lt j.txid i.txid) (j.txid == i.txid) refl
  where
    by : (b e : Bool) → nat_lt j.txid i.txid ≡ b → ReachesTo i.txid (take 2 (cond b (i ∷ j ∷ js) (cond e (i ∷ js) (j ∷ image_put i js))))
    by true e is = omega arith
    by false true is = omega arith
    by false false is = grind (arith, nat_tests, is)

reaches_put : (txid : ℕ) (i : Image) (js : List Image) → ReachesTo txid js → ReachesTo txid (take 2 (image_put i js))
unfolding image_put
reaches_put txid i [] r = absurd r
reaches_put txid i (j ∷ js) r = by (nat_lt j.txid i.txid) (j.txid == i.txid) refl refl
  where
    by : (b e : Bool) → nat_lt j.txid i.txid ≡ b → (j.txid == i.txid) ≡ e → ReachesTo txid (take 2 (cond b (i ∷ j ∷ js) (cond e (i ∷ js) (j ∷ image_put i js))))
    by true e is same = grind (arith, nat_tests, is, r)
    by false true is same = grind (arith, nat_tests, same, r)
    by false false is same = r

first_is : (a b : Image) (as_ bs : List Image) → a ∷ as_ ≡ b ∷ bs → a ≡ b
first_is a b as_ bs e = cc e

-- the newest is that one, or was the newest
put_newest : (i : Image) (js : List Image) (k : Image) (ks : List Image) → take 2 (image_put i js) ≡ k ∷ ks → (i ≡ k) ⊎ ((rest : List Image) × (js ≡ k ∷ rest))
unfolding image_put
put_newest i [] k ks e = inl (first_is i k [] ks e)
put_newest i (j ∷ js) k ks e = by (nat_lt j.txid i.txid) (j.txid == i.txid) e
  where
    by : (b e : Bool) → take 2 (cond b (i ∷ j ∷ js) (cond e (i ∷ js) (j ∷ image_put i js))) ≡ k ∷ ks → (i ≡ k) ⊎ ((rest : List Image) × (j ∷ js ≡ k ∷ rest))
    by true e same = inl (first_is i k (take 1 (j ∷ js)) ks same)
    by false true same = inl (first_is i k (take 1 js) ks same)
    by false false same = inr (js, ap (λ (x : Image). x ∷ js) (first_is j k (take 1 (image_put i js)) ks same))

-- ## What tells of no checkpoint, and keeps the images
record Calm (past : List Record) (images : List Image) (b : Actor) : Type 0 where
  same : b.past ≡ past
  kept : images_of b.holds ≡ images
  plain : ArePlain b.says

calm : (a : Actor) → ArePlain a.says → Calm a.past (images_of a.holds) a
calm a p = record { same = refl; kept = refl; plain = p }

-- ### Tails
abbrev step_images : TailStep → List Image
step_images (GoesOn h) = h.images
step_images (Ends end h) = h.images
step_images (Breaks h) = h.images

begun_images : (until : Option ℕ) (h : Holding) → step_images (pass_begun until h) ≡ h.images
unfolding pass_begun
begun_images until h = by (is_until until h.position)
  where
    by : (b : Bool) → step_images (cond b (Ends Reached (with_work Free h)) (GoesOn (with_work (Tails until 1 []) h))) ≡ h.images
    by true = refl
    by false = refl

applied_images : (until : Option ℕ) (x : Applied) (h : Holding) → step_images (after_applied until x h) ≡ h.images
applied_images until (All s t) h = begun_images until (record h { space = s; position = t })
applied_images until (BadEntry s t) h = refl

none_images : (nodes : ℕ) (until : Option ℕ) (node : ℕ) (told : List Heard) (h : Holding) → step_images (no_edits nodes until node told h) ≡ h.images
none_images nodes until node told h = by (nat_lt node nodes)
  where
    by : (b : Bool) → step_images (cond b (GoesOn (with_work (Tails until (node + 1) told) h)) (Ends (pass_end until told) (with_work Free h))) ≡ h.images
    by true = refl
    by false = refl

heard_images : (nodes : ℕ) (until : Option ℕ) (node : ℕ) (told : List Heard) (heard : Heard) (h : Holding) → step_images (tail_hears nodes until node told heard h) ≡ h.images
unfolding tail_hears
heard_images nodes until node told (Answer (reply.Edits batch)) h = applied_images until (applied h.position (up_to until h.position batch.bodies) h.space) h
heard_images nodes until node told heard h = none_images nodes until node (told ++ heard ∷ []) h

ended_calm : (until : Option ℕ) (end : TailEnd) (h : Holding) (a : Actor) → h.images ≡ images_of a.holds → Calm a.past (images_of a.holds) (tail_ended until end h a)
unfolding tail_ended
ended_calm None end h a e = record { same = refl; kept = e; plain = (tail_plain h.position end, tt) }
ended_calm (Some last) Reached h a e = record { same = refl; kept = e; plain = (refl, tt) }
ended_calm (Some last) Caught h a e = record { same = refl; kept = e; plain = (entry_plain h.position Caught, tt) }
ended_calm (Some last) (PurgedFrom first) h a e = record { same = refl; kept = e; plain = (entry_plain h.position (PurgedFrom first), tt) }
ended_calm (Some last) (BehindBy causes) h a e = record { same = refl; kept = e; plain = (entry_plain h.position (BehindBy causes), tt) }

stepped_calm : (until : Option ℕ) (x : TailStep) (a : Actor) → ArePlain a.says → step_images x ≡ images_of a.holds → Calm a.past (images_of a.holds) (tail_stepped until x a)
unfolding tail_stepped
stepped_calm until (GoesOn h) a p e = record { same = refl; kept = e; plain = p }
stepped_calm until (Ends end h) a p e = ended_calm until end h a e
stepped_calm until (Breaks h) a p e = record { same = refl; kept = e; plain = p }

-- ### Tasks
loaded_images : (images : List Image) (h : Holding) → (load_image images h).images ≡ h.images
loaded_images [] h = refl
loaded_images (i ∷ is) h = refl

reloaded_images : (h : Holding) → (reload_image h).images ≡ h.images
unfolding reload_image
reloaded_images h = loaded_images h.images (record h { work = Free })

enters_images : (last : ℕ) (h : Holding) → (enters last h).images ≡ h.images
enters_images last h = by (nat_lt last h.position)
  where
    by : (b : Bool) → (cond b (empty_holding h) h).images ≡ h.images
    by true = refl
    by false = refl

logs_calm : (x : Work) (first last : ℕ) (h : Holding) (a : Actor) → ArePlain a.says → h.images ≡ images_of a.holds → Calm a.past (images_of a.holds) (logs_done x first last h a)
unfolding logs_done
logs_calm (Logs ahead dues) first last h a p e = record { same = refl; kept = e; plain = logged_plain first dues }
logs_calm Free first last h a p e = calm a p
logs_calm (Tails until node told) first last h a p e = calm a p
logs_calm Broken first last h a p e = calm a p

done_calm : (o : Ended) (t : Task) (h : Holding) (a : Actor) → ArePlain a.says → h.images ≡ images_of a.holds → Calm a.past (images_of a.holds) (task_done o t h a)
unfolding task_done
done_calm (outcome.Takeover epoch first) t h a p e =
    stepped_calm (Some (first - 1)) (pass_begun (Some (first - 1)) (enters (first - 1) h)) a p (begun_images (Some (first - 1)) (enters (first - 1) h) ∙ (enters_images (first - 1) h ∙ e))
done_calm (outcome.Log first last) t h a p e = logs_calm h.work first last h a p e
done_calm (outcome.Roll start) t h a p e = record { same = refl; kept = e; plain = (refl, tt) }
done_calm (outcome.Close last) t h a p e = record { same = refl; kept = e; plain = (refl, tt) }
done_calm outcome.Purge (task.Purge min) h a p e = record { same = refl; kept = refl; plain = (refl, tt) }
done_calm outcome.Purge task.Takeover h a p e = calm a p
done_calm outcome.Purge (task.Log bodies) h a p e = calm a p
done_calm outcome.Purge task.Roll h a p e = calm a p
done_calm outcome.Purge task.Close h a p e = calm a p

held_calm : (tn : Turn) (t : Task) (h : Holding) (a : Actor) → ArePlain a.says → h.images ≡ images_of a.holds → Calm a.past (images_of a.holds) (held_turn tn t h a)
unfolding held_turn
held_calm turn.Going t h a p e = calm a p
held_calm (turn.Done o) t h a p e = done_calm o t h a p e
held_calm turn.Aborted t h a p e = record { same = refl; kept = reloaded_images h ∙ e; plain = aborts_plain h.work t a.writer.causes }
held_calm (turn.EpochLimit told) t h a p e = record { same = refl; kept = refl; plain = (refl, tt) }

-- the images of what is held
of_held : (a : Actor) (h : Holding) → a.holds ≡ Some h → h.images ≡ images_of a.holds
of_held a h is = sym (ap (λ (o : Option Holding). images_of o) is)

with_calm : (o : Option Holding) (tn : Turn) (t : Task) (a : Actor) → a.holds ≡ o → ArePlain a.says → Calm a.past (images_of a.holds) (turn_with o tn t a)
unfolding turn_with
with_calm None tn t a is p = record { same = refl; kept = refl; plain = results_plain t tn a.writer.causes }
with_calm (Some h) tn t a is p = held_calm tn t h a p (of_held a h is)

turn_calm : (tn : Turn) (d : Option Task) (a : Actor) → ArePlain a.says → Calm a.past (images_of a.holds) (turn_taken tn d a)
unfolding turn_taken
turn_calm turn.Going d a p = calm a p
turn_calm (turn.Done o) None a p = calm a p
turn_calm turn.Aborted None a p = calm a p
turn_calm (turn.EpochLimit told) None a p = calm a p
turn_calm (turn.Done o) (Some t) a p = with_calm a.holds (turn.Done o) t (record a { doing = None }) refl p
turn_calm turn.Aborted (Some t) a p = with_calm a.holds turn.Aborted t (record a { doing = None }) refl p
turn_calm (turn.EpochLimit told) (Some t) a p = with_calm a.holds (turn.EpochLimit told) t (record a { doing = None }) refl p

judged_calm : (j : Judgment) (a : Actor) → ArePlain a.says → Calm a.past (images_of a.holds) (after_judgment j a)
judged_calm j a p = turn_calm j.turn a.doing (record a { writer = j.writer }) p

heard_calm : (o : Option Holding) (node : ℕ) (heard : Heard) (a : Actor) → a.holds ≡ o → ArePlain a.says → Calm a.past (images_of a.holds) (heard_by o node heard a)
unfolding heard_by
heard_calm None node heard a is p = judged_calm (writer_heard a.writer node heard) a p
heard_calm (Some h) node heard a is p = by h.work
  where
    by : (x : Work) → Calm a.past (images_of a.holds) (heard_in_work x h node heard a)
    by Free = judged_calm (writer_heard a.writer node heard) a p
    by (Logs ahead dues) = judged_calm (writer_heard a.writer node heard) a p
    by Broken = judged_calm (writer_heard a.writer node heard) a p
    by (Tails until next told) =
        stepped_calm until (tail_hears (length a.writer.left) until next told heard h) a p
        (heard_images (length a.writer.left) until next told heard h ∙ of_held a h is)

-- ### Actions
begun_calm : (t : Task) (w : WriterView) (a : Actor) (b : Begun) → ArePlain a.says → Calm a.past (images_of a.holds) (task_begun t w a b)
unfolding task_begun
begun_calm t w a begun.Going p = record { same = refl; kept = refl; plain = p }
begun_calm t w a begun.NotActive p = record { same = refl; kept = refl; plain = inactive_plain t }
begun_calm t w a (begun.TooLong number) p = record { same = refl; kept = refl; plain = long_plain t number }

copy_calm : (node call : ℕ) (o : Option Request) (a : Actor) → ArePlain a.says → Calm a.past (images_of a.holds) (make_copy node call o a)
unfolding make_copy late_none
copy_calm node call None a p = record { same = refl; kept = refl; plain = (refl, tt) }
copy_calm node call (Some r) a p = record { same = refl; kept = refl; plain = p }

sync_calm : (b : Begun) (w : WriterView) (x : Submission) (h : Holding) (a : Actor) → ArePlain a.says → h.images ≡ images_of a.holds → Calm a.past (images_of a.holds) (begin_sync b w x h a)
sync_calm begun.Going w x h a p e = record { same = refl; kept = e; plain = p }
sync_calm begun.NotActive w x h a p e = record { same = refl; kept = refl; plain = lost_plain (codes "inactive") x.dues refl }
sync_calm (begun.TooLong number) w x h a p e = record { same = refl; kept = refl; plain = lost_plain (word (codes "toolong") number) x.dues refl }

synced_calm : (bodies : List (List ℕ)) (x : Submission) (h : Holding) (a : Actor) → ArePlain a.says → h.images ≡ images_of a.holds → Calm a.past (images_of a.holds) (after_sync bodies x h a)
synced_calm [] x h a p e = record { same = refl; kept = refl; plain = logged_plain 0 x.dues }
synced_calm (b ∷ bs) x h a p e = sync_calm (writer_begun a.writer (task.Log x.bodies)).begun (writer_begun a.writer (task.Log x.bodies)).writer x h a p e

logged_calm : (b : Bool) (es : List EditView) (h : Holding) (a : Actor) → ArePlain a.says → h.images ≡ images_of a.holds → Calm a.past (images_of a.holds) (logged_when b es h a)
unfolding logged_when
logged_calm true es h a p e = let x : Submission = submit_edits a.writer es (nothing_submitted h.space) in synced_calm x.bodies x h a p e
logged_calm false es h a p e = record { same = refl; kept = refl; plain = mapped_plain es (codes "inactive") refl }

trim_calm : (b : Bool) (min : Option ℕ) (a : Actor) → ArePlain a.says → Calm a.past (images_of a.holds) (trim_at b min a)
unfolding trim_at
trim_calm false min a p = record { same = refl; kept = refl; plain = (refl, tt) }
trim_calm true None a p = record { same = refl; kept = refl; plain = (refl, tt) }
trim_calm true (Some min) a p = record { same = refl; kept = refl; plain = p }

unless_calm : (b : Bool) (x a : Actor) → Calm a.past (images_of a.holds) x → Calm a.past (images_of a.holds) (unless_active b x a)
unless_calm true x a c = record { same = refl; kept = refl; plain = (refl, tt) }
unless_calm false x a c = c

-- ## What an action leaves: that, or one image more, of which it tells
data Moved (a b : Actor) : Type 0 where
  calmly : Calm a.past (images_of a.holds) b → Moved a b
  by_saving : (h : Holding) → a.holds ≡ Some h → b.past ≡ a.past → images_of b.holds ≡ (save_image h).images → b.says ≡ saved_text h.position ∷ [] → Moved a b

saving : (b : Bool) (h : Holding) (a : Actor) → a.holds ≡ Some h → Moved a (unless_active b (begin_save h a) a)
saving true h a is = calmly (record { same = refl; kept = refl; plain = (refl, tt) })
saving false h a is = by_saving h is refl refl refl

named_moves : (d : Action) (o : Option Holding) (a : Actor) → a.holds ≡ o → ArePlain a.says → Moved a (take_named_action d o a)
unfolding take_named_action
named_moves (Submits es) (Some h) a is p = calmly (logged_calm (is_writing a.writer.phase) es h a p (of_held a h is))
named_moves (Trims extra) (Some h) a is p = calmly (trim_calm (is_writing a.writer.phase) (min_to_keep extra h.images) a p)
named_moves DoTail (Some h) a is p =
    calmly (unless_calm (is_writing a.writer.phase) (tail_stepped None (pass_begun None h) a) a (stepped_calm None (pass_begun None h) a p (begun_images None h ∙ of_held a h is)))
named_moves Saves (Some h) a is p = saving (is_writing a.writer.phase) h a is
named_moves Reloads (Some h) a is p =
    calmly (unless_calm (is_writing a.writer.phase) (begin_reload h a) a (record { same = refl; kept = reloaded_images h ∙ of_held a h is; plain = (refl, tt) }))
named_moves d o a is p = calmly (calm a p)

action_moves : (d : Action) (a : Actor) → ArePlain a.says → Moved a (take_action d a)
unfolding take_action
action_moves (Does t) a p = calmly (begun_calm t (writer_begun a.writer t).writer a (writer_begun a.writer t).begun p)
action_moves (DoDrop node call) a p = calmly (record { same = refl; kept = refl; plain = p })
action_moves (DoMute node call) a p = calmly (record { same = refl; kept = refl; plain = p })
action_moves (DoLate node call) a p = calmly (copy_calm node call _ a p)
action_moves (Submits es) a p = named_moves (Submits es) a.holds a refl p
action_moves (Trims extra) a p = named_moves (Trims extra) a.holds a refl p
action_moves DoTail a p = named_moves DoTail a.holds a refl p
action_moves Saves a p = named_moves Saves a.holds a refl p
action_moves Reloads a p = named_moves Reloads a.holds a refl p

-- ## What was said, or is due
abbrev pub SaysOrDue : List Record → List (List ℕ) → List ℕ → Type 0
SaysOrDue past says text = In (Outcome text) past ⊎ In text says

-- each checkpoint told is of no later txid than the newest image, and that one was told
pub record ToldBy (past : List Record) (says : List (List ℕ)) (images : List Image) : Type 0 where
  pub reaches : (txid : ℕ) → SaysOrDue past says (saved_text txid) → (told : ℕ) × (saved_text told ≡ saved_text txid) × ReachesTo told images
  pub newest : (i : Image) (is : List Image) → images ≡ i ∷ is → SaysOrDue past says (saved_text i.txid)

abbrev pub TellsSaved : Actor → Type 0
TellsSaved a = ToldBy a.past a.says (images_of a.holds)

pub none_said : (text : List ℕ) (says : List (List ℕ)) → says ≡ [] → In text says → ⊥
none_said text says e i = none (subst (λ (l : List (List ℕ)). In text l) e i)
  where
    none : In text [] → ⊥
    none j = unfold In in j

plain_off : (texts : List (List ℕ)) (txid : ℕ) → ArePlain texts → In (saved_text txid) texts → ⊥
unfolding In
plain_off [] txid p i = i
plain_off (text ∷ texts) txid p (inl e) = true≢false (sym (ap (λ (l : List ℕ). saves l) e) ∙ p.0)
plain_off (text ∷ texts) txid p (inr i) = plain_off texts txid p.1 i

plain_none : (says : List (List ℕ)) → says ≡ [] → ArePlain says
plain_none says e = subst (λ (l : List (List ℕ)). ArePlain l) (sym e) tt

due_first : (text x : List ℕ) (rest : List (List ℕ)) → text ≡ x → In x (text ∷ rest)
unfolding In
due_first text x rest e = inl e

-- what was said before stands there
said_still : (a : Actor) (past : List Record) (says : List (List ℕ)) (text : List ℕ) → past ≡ a.past → a.says ≡ [] → SaysOrDue a.past a.says text → SaysOrDue past says text
said_still a past says text same none (inl i) = inl (subst (λ (l : List Record). In (Outcome text) l) (sym same) i)
said_still a past says text same none (inr i) = absurd (none_said text a.says none i)

calm_tells : (a b : Actor) → a.says ≡ [] → Calm a.past (images_of a.holds) b → TellsSaved a → TellsSaved b
calm_tells a b none c g = record {
  reaches = λ txid s. reaches txid s;
  newest = λ i is e. said_still a b.past b.says (saved_text i.txid) c.same none (g.newest i is (sym c.kept ∙ e));
}
  where
    reaches : (txid : ℕ) → SaysOrDue b.past b.says (saved_text txid) → (told : ℕ) × (saved_text told ≡ saved_text txid) × ReachesTo told (images_of b.holds)
    reaches txid (inl i) =
        let r : (told : ℕ) × (saved_text told ≡ saved_text txid) × ReachesTo told (images_of a.holds) =
        g.reaches txid (inl (subst (λ (l : List Record). In (Outcome (saved_text txid)) l) c.same i)) in
        (r.0, r.1, subst (λ (l : List Image). ReachesTo r.0 l) (sym c.kept) r.2)
    reaches txid (inr i) = absurd (plain_off b.says txid c.plain i)

module _ (a b : Actor) (h : Holding) (holds : a.holds ≡ Some h) (same : b.past ≡ a.past) (kept : images_of b.holds ≡ (save_image h).images)
    (says : b.says ≡ saved_text h.position ∷ []) (none : a.says ≡ []) (g : TellsSaved a) where
  abbrev one : Image
  one = record { space = h.space; txid = h.position }

  are_put : images_of b.holds ≡ take 2 (image_put one h.images)
  unfolding save_image
  are_put = kept

  due_now : (txid : ℕ) → In (saved_text txid) (saved_text h.position ∷ []) → saved_text h.position ≡ saved_text txid
  unfolding In
  due_now txid (inl e) = e
  due_now txid (inr i) = absurd i

  saved_reaches : (txid : ℕ) → SaysOrDue b.past b.says (saved_text txid) → (told : ℕ) × (saved_text told ≡ saved_text txid) × ReachesTo told (images_of b.holds)
  saved_reaches txid (inl i) =
      let r : (told : ℕ) × (saved_text told ≡ saved_text txid) × ReachesTo told (images_of a.holds) =
      g.reaches txid (inl (subst (λ (l : List Record). In (Outcome (saved_text txid)) l) same i)) in
      let before : ReachesTo r.0 h.images = subst (λ (l : List Image). ReachesTo r.0 l) (sym (of_held a h holds)) r.2 in
      (r.0, r.1, subst (λ (l : List Image). ReachesTo r.0 l) (sym are_put) (reaches_put r.0 one h.images before))
  saved_reaches txid (inr i) =
      let e : saved_text h.position ≡ saved_text txid = due_now txid (subst (λ (l : List (List ℕ)). In (saved_text txid) l) says i) in
      (h.position, e, subst (λ (l : List Image). ReachesTo h.position l) (sym are_put) (put_reaches one h.images))

  saved_newest : (k : Image) (ks : List Image) → images_of b.holds ≡ k ∷ ks → SaysOrDue b.past b.says (saved_text k.txid)
  saved_newest k ks e = by (put_newest one h.images k ks (sym are_put ∙ e))
    where
      by : (one ≡ k) ⊎ ((rest : List Image) × (h.images ≡ k ∷ rest)) → SaysOrDue b.past b.says (saved_text k.txid)
      by (inl is) =
          inr (subst (λ (l : List (List ℕ)). In (saved_text k.txid) l) (sym says)
          (due_first (saved_text h.position) (saved_text k.txid) [] (ap (λ (i : Image). saved_text i.txid) is)))
      by (inr old) = said_still a b.past b.says (saved_text k.txid) same none (g.newest k old.0 (sym (of_held a h holds) ∙ old.1))

  saving_tells : TellsSaved b
  saving_tells = record { reaches = saved_reaches; newest = saved_newest }

moved_tells : (a b : Actor) → a.says ≡ [] → Moved a b → TellsSaved a → TellsSaved b
moved_tells a b none (calmly c) g = calm_tells a b none c g
moved_tells a b none (by_saving h holds same kept says) g = saving_tells a b h holds same kept says none g

-- ## Between its lines
pub settled_tells : (ds : List Action) (a : Actor) → TellsSaved a → TellsSaved (settle ds a)
unfolding settle
settled_tells [] a g = g
settled_tells (d ∷ ds) a g = by (is_wanting (wants a) || is_broken a) refl (λ x. settled_tells ds (take_action d a) x)
  where
    by : (b : Bool) → (is_wanting (wants a) || is_broken a) ≡ b → (TellsSaved (take_action d a) → TellsSaved (settle ds (take_action d a)))
        → TellsSaved (cond b (record a { todo = while_wanting (is_wanting (wants a)) (d ∷ ds) }) (settle ds (take_action d a)))
    by true e go = g
    by false e go =
        let f : (is_wanting (wants a) ≡ false) × (is_broken a ≡ false) = or_false (λ t x. Unit {0}) (is_wanting (wants a)) (is_broken a) e in
        let none : a.says ≡ [] = (resting a f.0).says in
        go (moved_tells a (take_action d a) none (action_moves d a (plain_none a.says none)) g)

-- ## A line of its record
-- one that is no result
more_tells : (past : List Record) (says : List (List ℕ)) (images : List Image) (r : Record) → ((text : List ℕ) → r ≡ Outcome text → ⊥) → ToldBy past says images → ToldBy (past ++ r ∷ []) says images
unfolding In
more_tells past says images r off g = record {
  reaches = λ txid s. g.reaches txid (before (saved_text txid) s);
  newest = λ i is e. after (saved_text i.txid) (g.newest i is e);
}
  where
    one_off : (text : List ℕ) → In (Outcome text) (r ∷ []) → ⊥
    one_off text (inl e) = off text e
    one_off text (inr i) = i

    before : (text : List ℕ) → SaysOrDue (past ++ r ∷ []) says text → SaysOrDue past says text
    before text (inr i) = inr i
    before text (inl i) = by (in_either (Outcome text) past (r ∷ []) i)
      where
        by : In (Outcome text) past ⊎ In (Outcome text) (r ∷ []) → SaysOrDue past says text
        by (inl j) = inl j
        by (inr j) = absurd (one_off text j)

    after : (text : List ℕ) → SaysOrDue past says text → SaysOrDue (past ++ r ∷ []) says text
    after text (inl i) = inl (in_left (Outcome text) past (r ∷ []) i)
    after text (inr i) = inr i

-- a result that was due
said_tells : (past : List Record) (text : List ℕ) (rest : List (List ℕ)) (images : List Image) → ToldBy past (text ∷ rest) images → ToldBy (past ++ Outcome text ∷ []) rest images
unfolding In
said_tells past text rest images g = record {
  reaches = λ txid s. g.reaches txid (before (saved_text txid) s);
  newest = λ i is e. after (saved_text i.txid) (g.newest i is e);
}
  where
    text_is : (x : List ℕ) → Outcome text ≡ Outcome x → text ≡ x
    text_is x e = cc e

    later_due : (x : List ℕ) → In x rest → In x (text ∷ rest)
    later_due x i = inr i

    one_is : (x : List ℕ) → In (Outcome x) (Outcome text ∷ []) → text ≡ x
    one_is x (inl e) = text_is x e
    one_is x (inr i) = absurd i

    before : (x : List ℕ) → SaysOrDue (past ++ Outcome text ∷ []) rest x → SaysOrDue past (text ∷ rest) x
    before x (inr i) = inr (later_due x i)
    before x (inl i) = by (in_either (Outcome x) past (Outcome text ∷ []) i)
      where
        by : In (Outcome x) past ⊎ In (Outcome x) (Outcome text ∷ []) → SaysOrDue past (text ∷ rest) x
        by (inl j) = inl j
        by (inr j) = inr (due_first text x rest (one_is x j))

    due_or_rest : (x : List ℕ) → In x (text ∷ rest) → (text ≡ x) ⊎ In x rest
    due_or_rest x i = i

    after : (x : List ℕ) → SaysOrDue past (text ∷ rest) x → SaysOrDue (past ++ Outcome text ∷ []) rest x
    after x (inl i) = inl (in_left (Outcome x) past (Outcome text ∷ []) i)
    after x (inr i) = by (due_or_rest x i)
      where
        by : (text ≡ x) ⊎ In x rest → SaysOrDue (past ++ Outcome text ∷ []) rest x
        by (inl e) = inl (subst (λ (l : List ℕ). In (Outcome l) (past ++ Outcome text ∷ [])) e (in_last (Outcome text) past))
        by (inr j) = inr j

line_tells : (a : Actor) (r : Record) → Fits (wants a) r → TellsSaved a → TellsSaved (moved_on r (record a { past = a.past ++ r ∷ [] }))
unfolding moved_on
line_tells a (Call node q t) f g =
    let x : Actor = record a { past = a.past ++ Call node q t ∷ [] } in
    let none : a.says ≡ [] = (fits_calling a node q t f).says in
    calm_tells x (heard_by x.holds node (heard_of t) x) none (heard_calm x.holds node (heard_of t) x refl (plain_none a.says none))
    (more_tells a.past a.says (images_of a.holds) (Call node q t) (λ text e. cc e) g)
line_tells a (Late node q) f g = more_tells a.past a.says (images_of a.holds) (Late node q) (λ text e. cc e) g
line_tells a (Operator node ask done) f g = absurd (no_operation (wants a) node ask done f)
line_tells a (Outcome text) f g =
    let s : Saying text a = fits_saying a text f in
    let due : ToldBy (a.past ++ Outcome text ∷ []) s.rest (images_of a.holds) =
    said_tells a.past text s.rest (images_of a.holds) (subst (λ (l : List (List ℕ)). ToldBy a.past l (images_of a.holds)) s.says g) in
    subst (λ (l : List (List ℕ)). ToldBy (a.past ++ Outcome text ∷ []) (drop 1 l) (images_of a.holds)) (sym s.says) due

goes_tells : (a : Actor) (r : Record) → Fits (wants a) r → TellsSaved a → TellsSaved (goes_on a r)
unfolding goes_on settle_again
goes_tells a r f g =
    let x : Actor = moved_on r (record a { past = a.past ++ r ∷ [] }) in
    settled_tells x.todo x (line_tells a r f g)

-- ## Along its record
pub saved_along : (a : Actor) (rs : List Record) → IsLed a rs → TellsSaved a → TellsSaved (actor_after a rs)
unfolding IsLed actor_after
saved_along a [] led g = g
saved_along a (r ∷ rs) led g = saved_along (goes_on a r) rs led.1 (goes_tells a r led.0 g)

fresh_images : (named : Bool) (n : ℕ) → images_of (fresh_actor named n).holds ≡ []
unfolding fresh_actor
fresh_images true n = refl
fresh_images false n = refl

pub fresh_saved : (named : Bool) (n : ℕ) → TellsSaved (fresh_actor named n)
unfolding fresh_actor In
fresh_saved named n = record { reaches = λ txid s. absurd (nothing txid s); newest = λ i is e. absurd (none i is (sym (fresh_images named n) ∙ e)) }
  where
    nothing : (txid : ℕ) → SaysOrDue [] [] (saved_text txid) → ⊥
    nothing txid (inl i) = i
    nothing txid (inr i) = i

    none : (i : Image) (is : List Image) → [] ≡ i ∷ is → ⊥
    none i is e = cc e
