-- What is due of a script over whose nodes a standby boots.
use Rattle.std.proofs.Common.{◌≡◌, ℕ, zero, suc, ◌+◌, ◌-◌, List, [], ◌∷◌, length, slice_get, All, Option, Some, None, refl, sym, ap, subst, ◌∙◌, arith, inl, inr}
use Rattle.std.specs.List.{AllZip}
use Rattle.std.proofs.lemmas.List.Elements.{All-contains}
use Rattle.base_disk.specs.MemDisk.{disk_view}
use Rattle.base_disk.specs.declared.mem_disk.MemDisk.{MemDisk}
use Rattle.journal_core.specs.Views.{BatchView}
use Rattle.journal_core.specs.Step.{node_step}
use Rattle.journal_core.specs.declared.heard.Heard.TheVariants.{Answer}
use Rattle.journal_core.specs.declared.peer_call.PeerCall.{PeerCall}
use Rattle.journal_core.specs.declared.reply.Reply.TheVariants as reply
use Rattle.journal_core.specs.declared.request.Request.{Request}
use Rattle.journal_core.specs.declared.request.Request.TheVariants.{Read}
use Rattle.writer_calls.specs.Fetching.{call_of}
use Rattle.mesh.specs.declared.whole.Mesh.{Mesh}
use Rattle.mesh.specs.Agree.{Agrees}
use Rattle.mesh.specs.Order.{epoch_order}
use Rattle.ns_tree.specs.Space.{empty_space}
use Rattle.ns_tree.specs.declared.end.End.{End}
use Rattle.ns_edits.specs.Replay.{Image, replay}
use Rattle.ns_edits.proofs.Splits.{nothing_replayed}
use Rattle.play_script.specs.Scripts.{ScriptView}
use Rattle.play_script.specs.Rules.{fault_of}
use Rattle.play_script.specs.Naming.{raw_line_of, fault_or}
use Rattle.play_script.specs.Laws.{TextIsOfOneScript}
use Rattle.play_model.specs.Lines.{Line}
use Rattle.play_model.specs.Safe.{AllOn}
use Rattle.play_model.specs.Plays.{Play, Plays, mesh_of, images_in, states_after}
use Rattle.play_model.specs.Laws.{OnePlay}
use Rattle.play_names.specs.Holding.{Broken, with_work}
use Rattle.play_names.specs.ImageDisks.{HoldsOn}
use Rattle.play_names.specs.Tails.{TailStep, Ends, Breaks, Caught, PurgedFrom, BehindBy, pass_begun}
use Rattle.play_standby.specs.Standbys.{StandbyView, held}
use Rattle.play_laws.specs.Linear.{IsLinear, IsNamed, OnLine, ImagesReplay, LineReplays}
use Rattle.play_laws.specs.EndReads.{EndReadsAreOnLine}
use Rattle.play_laws.specs.ImagesLeft.{AreNewestTold, IsLeftBy}
use Rattle.play_laws.proofs.ReadLaws.{all_on}
use Rattle.play_boot.specs.Nodes.{begun_of, image_of, IsAnswered, EndsAt, IsBootedOver, TailsEndOnce}
use Rattle.play_boot.specs.declared.booted.Booted.{Booted}
use Rattle.play_boot.specs.declared.booted.Booted.TheVariants as booted
use Rattle.play_boot.proofs.LogLaws.{AreOf, IsReplayOf, ReadsOf, StandsOn, stands_from}
use Rattle.play_boot.proofs.ImageLaws.{one_held}
use Rattle.play_boot.proofs.NodeLaws.{all_follow}
use Rattle.play_report.specs.Booted.{booted_text, unreachable_text, booted_behind_text}
use Rattle.cli_commands.specs.declared.command_fault.CommandFault.{CommandFault}
use Rattle.cli_commands.specs.declared.command_fault.CommandFault.TheVariants as fault
use Rattle.qj_cli.specs.Plays.{IsTextFault}
use Rattle.qj_cli.specs.Boots.{ended_text, first_images, AreFirstImages, IsBootText, EndsOnLine, IsFirstDisk, MayCome, answer_text, IsNamesFault, ScriptsHaveOneBoot}

-- ## One text
text_at : Option ℕ → TailStep → List ℕ
text_at image (Ends end holding) = ended_text image end holding
text_at image _ = []

one_text : TailsEndOnce → (m : Mesh) (images : List Image) (a b : List ℕ) → IsBootText m images a → IsBootText m images b → a ≡ b
unfolding text_at
one_text once m images a b x y =
    x.printed ∙ ap (text_at (image_of images)) (once (states_after m.histories) (begun_of images) (Ends x.end x.holding) (Ends y.end y.holding) x.ends y.ends) ∙ sym y.printed

pub one_boot : TextIsOfOneScript → OnePlay → TailsEndOnce → ScriptsHaveOneBoot
one_boot one_script one_play once bytes a b f g =
    let e : f.script ≡ g.script = one_script bytes f.script g.script f.reads g.reads in
    let plays : Plays f.script g.leaves.play = subst (λ (s : ScriptView). Plays s g.leaves.play) (sym e) g.leaves.sound.plays in
    let same : f.leaves.play ≡ g.leaves.play = one_play f.script f.leaves.play g.leaves.play f.leaves.sound.plays plays in
    let mesh : g.mesh ≡ f.mesh = g.leaves.mesh ∙ ap mesh_of (sym same) ∙ sym f.leaves.mesh in
    let images : first_images (images_in g.leaves.play) ≡ first_images (images_in f.leaves.play) = ap (λ (p : Play). first_images (images_in p)) (sym same) in
    one_text once f.mesh (first_images (images_in f.leaves.play)) a b f.boots
    (subst (λ (is : List Image). IsBootText f.mesh is b) images (subst (λ (m : Mesh). IsBootText m (first_images (images_in g.leaves.play)) b) mesh g.boots))

-- ## Why bytes give no script with names
pub names_fault : (bytes : List ℕ) (of : CommandFault) → raw_line_of bytes ≡ None → IsTextFault bytes of → IsNamesFault bytes of
names_fault bytes (fault.Usage place) none is = absurd is
names_fault bytes (fault.BadScript line rule) none is = ap (λ (o : Option ℕ). fault_or o (fault_of bytes)) none ∙ is
names_fault bytes (fault.BadReport line rule) none is = absurd is
names_fault bytes fault.NoFile none is = absurd is
names_fault bytes (fault.BadBytes place cause) none is = absurd is
names_fault bytes (fault.BadImage place cause) none is = absurd is
names_fault bytes (fault.BadFile name) none is = absurd is
names_fault bytes fault.NoPath none is = absurd is
names_fault bytes fault.NotJson none is = absurd is
names_fault bytes (fault.BadEntry index) none is = absurd is
names_fault bytes (fault.TooManyEntries number) none is = absurd is
names_fault bytes (fault.Limit number) none is = absurd is
names_fault bytes fault.ReadFault none is = absurd is
names_fault bytes fault.DiskFault none is = absurd is
names_fault bytes fault.OutOfMemory none is = tt

-- ## The images of the first actor
pub first_held : (disks : List MemDisk) (lists : List (List Image)) (disk : MemDisk) → AllZip HoldsOn disks lists → IsFirstDisk disks disk → HoldsOn disk (first_images lists)
first_held [] [] disk z is = is
first_held [] (x ∷ lists) disk z is = absurd z
first_held (d ∷ disks) [] disk z is = absurd z
first_held (d ∷ disks) (x ∷ lists) disk z is = subst (λ (k : MemDisk). HoldsOn k x) (sym is) z.0

pub first_told : (m : Mesh) (disks : List MemDisk) (lists : List (List Image)) → AllZip HoldsOn disks lists → ((c : ℕ) (disk : MemDisk) → slice_get disks c ≡ Some disk → IsLeftBy m c disk)
    → AreFirstImages m (first_images lists)
first_told m [] [] z left = record { replays = tt; newest = inl refl }
first_told m [] (x ∷ lists) z left = absurd z
first_told m (d ∷ disks) [] z left = absurd z
first_told m (d ∷ disks) (x ∷ lists) z left =
    let l : IsLeftBy m 0 d = left 0 d refl in
    let same : l.images ≡ x = one_held (disk_view d).seen l.images x l.holds z.0 in
    record {
      replays = subst (λ (is : List Image). ImagesReplay m (epoch_order m) is) same l.replays;
      newest = inr (subst (λ (is : List Image). AreNewestTold m 0 is) same l.newest);
    }

-- ## What a tail at the end of a play holds
on_of : (L : ℕ → List ℕ → Type 0) (t : ℕ) (bodies : List (List ℕ)) → AllOn L t bodies → AreOf L (t + 1) bodies
on_of L t [] all txid body has = let none : slice_get (let no : List (List ℕ) = [] in no) has.0 ≡ Some body = has.2 in cc
on_of L t (b ∷ bodies) all txid body (zero, e, is) =
    let same : b ≡ body = cc in let at : t + 1 ≡ txid = omega (arith, e) in subst (λ (x : List ℕ). L txid x) same (subst (λ (k : ℕ). L k b) at all.0)
on_of L t (b ∷ bodies) all txid body (suc k, e, is) = on_of L (t + 1) bodies all.1 txid body (k, omega (arith, e), is)

of_on : (L : ℕ → List ℕ → Type 0) (bodies : List (List ℕ)) → AreOf L 1 bodies → AllOn L 0 bodies
of_on L bodies of = all_on L 0 bodies (λ k x e. of (0 + 1 + k) x (k, omega arith, e))

module _ (m : Mesh) (ends : List End) (lines : List Line) (agrees : Agrees m) (lin : IsLinear m (epoch_order m)) (named : IsNamed lines m ends) (replays : LineReplays)
    (reads : EndReadsAreOnLine) where
  abbrev TheLine : ℕ → List ℕ → Type 0
  TheLine = OnLine m (epoch_order m)

  never_breaks : (log : List (List ℕ)) → AreOf TheLine 1 log → replay log ≡ None → ⊥
  never_breaks log of none = let r = replays m (epoch_order m) lines ends log agrees.lists lin named (of_on TheLine log of) in let wrong = sym none ∙ r.1 in absurd (cc wrong)

  begun_of_line : (images : List Image) → ImagesReplay m (epoch_order m) images → IsReplayOf TheLine (begun_of images).space (begun_of images).position
  unfolding replay
  begun_of_line [] r = record {
    log = [];
    of = λ txid body has. (let none : slice_get (let no : List (List ℕ) = [] in no) has.0 ≡ Some body = has.2 in cc);
    long = refl;
    replayed = nothing_replayed 0 empty_space;
  }
  begun_of_line (i ∷ is) r = record { log = r.0.0; of = on_of TheLine 0 r.0.0 r.0.1; long = r.0.2.1; replayed = r.0.2.0 }

  answered_on : (c : PeerCall) (from : ℕ) (batch : BatchView) → IsAnswered (states_after m.histories) c → (k : ℕ) → c.request ≡ Read (k + 1) → c.request ≡ Read from
      → c.heard ≡ Answer (reply.Edits batch) → AreOf TheLine from batch.bodies
  answered_on c from batch (s, at, told) k asked read heard =
      let same : k + 1 ≡ from = let e : Read (k + 1) ≡ Read from = sym asked ∙ read in cc in
      let answers : Answer (node_step s c.request).reply ≡ Answer (reply.Edits batch) = sym told ∙ heard in
      let gave : (node_step s c.request).reply ≡ reply.Edits batch = cc answers in
      subst (λ (n : ℕ). AreOf TheLine n batch.bodies) same
      (on_of TheLine k batch.bodies (reads m (c.node - 1) k s batch agrees at (ap (λ (r : Request). (node_step s r).reply) (sym asked) ∙ gave)))

  reads_on : (made : List PeerCall) → All (IsAnswered (states_after m.histories)) made → All (λ c. (k : ℕ) × (c.request ≡ Read (k + 1))) made → ReadsOf TheLine made
  reads_on made told follow node from batch among =
      let c : PeerCall = call_of node (Read from) (Answer (reply.Edits batch)) in
      let f = All-contains (λ (d : PeerCall). (k : ℕ) × (d.request ≡ Read (k + 1))) made c follow among in
      answered_on c from batch (All-contains (IsAnswered (states_after m.histories)) made c told among) f.0 f.1 refl refl

  stands_at : (images : List Image) (end : TailStep) → ImagesReplay m (epoch_order m) images → EndsAt (states_after m.histories) (begun_of images) end → StandsOn TheLine ⊥ never_breaks end
  stands_at images end r e =
      let nodes = length (states_after m.histories) in
      let begun = pass_begun None (held [] (begun_of images)) in
      subst (StandsOn TheLine ⊥ never_breaks) (sym e.stands)
      (stands_from TheLine ⊥ never_breaks nodes (begun_of images) e.made (begun_of_line images r) e.led (reads_on e.made e.answered (all_follow nodes begun e.made e.led)))

  pub ends_on_line : (images : List Image) → ImagesReplay m (epoch_order m) images → EndsOnLine m images
  ends_on_line images r end holding e =
      let s : IsReplayOf TheLine holding.space holding.position = stands_at images (Ends end holding) r e in
      record { log = s.log; of_line = of_on TheLine s.log s.of; position = s.long; replayed = s.replayed }

  no_bad_entry : (images : List Image) (end : TailStep) (s : StandbyView) → ImagesReplay m (epoch_order m) images → EndsAt (states_after m.histories) (begun_of images) end
      → end ≡ Breaks (with_work Broken (held [] s)) → ⊥
  no_bad_entry images end s r e is = subst (StandsOn TheLine ⊥ never_breaks) is (stands_at images end r e)

  pub may_come : (images : List Image) (b : Booted) → ImagesReplay m (epoch_order m) images → IsBootedOver (states_after m.histories) images b → MayCome b
  may_come images (booted.Done standby image) r o = tt
  may_come images (booted.NotEmpty txid) r o = o.2
  may_come images (booted.DigestDiffers stored computed) r o = o.2
  may_come images (booted.BadImage place cause) r o = o.2
  may_come images (booted.Unreachable have first) r o = tt
  may_come images (booted.Behind txid causes) r o = tt
  may_come images (booted.BadEntry txid) r o = no_bad_entry images o.0 o.2.0 r o.1 o.2.1
  may_come images booted.FromFault r o = o.2
  may_come images booted.ToFault r o = o.2
  may_come images booted.OutOfMemory r o = tt

-- ## The text of an answer
pub answer_boots : (m : Mesh) (images : List Image) (b : Booted) → MayCome b → (b ≡ booted.OutOfMemory → ⊥) → IsBootedOver (states_after m.histories) images b → EndsOnLine m images
    → IsBootText m images (answer_text b)
answer_boots m images (booted.Done standby image) may other o line = record {
  end = Caught;
  holding = held [] standby;
  ends = subst (λ (x : TailStep). EndsAt (states_after m.histories) (begun_of images) x) o.2.1 o.1;
  printed = ap (λ (i : Option ℕ). booted_text i (record { position = standby.position; rows = standby.space.pairs })) o.2.0;
  on_line = line Caught (held [] standby) (subst (λ (x : TailStep). EndsAt (states_after m.histories) (begun_of images) x) o.2.1 o.1);
}
answer_boots m images (booted.Unreachable have first) may other o line = record {
  end = PurgedFrom first;
  holding = held [] o.2.0;
  ends = subst (λ (x : TailStep). EndsAt (states_after m.histories) (begun_of images) x) o.2.2 o.1;
  printed = ap (λ (k : ℕ). unreachable_text k first) (sym o.2.1);
  on_line = line (PurgedFrom first) (held [] o.2.0) (subst (λ (x : TailStep). EndsAt (states_after m.histories) (begun_of images) x) o.2.2 o.1);
}
answer_boots m images (booted.Behind txid causes) may other o line = record {
  end = BehindBy causes;
  holding = held [] o.2.0;
  ends = subst (λ (x : TailStep). EndsAt (states_after m.histories) (begun_of images) x) o.2.2 o.1;
  printed = ap (λ (k : ℕ). booted_behind_text k causes) (sym o.2.1);
  on_line = line (BehindBy causes) (held [] o.2.0) (subst (λ (x : TailStep). EndsAt (states_after m.histories) (begun_of images) x) o.2.2 o.1);
}
answer_boots m images (booted.NotEmpty txid) may other o line = absurd may
answer_boots m images (booted.DigestDiffers stored computed) may other o line = absurd may
answer_boots m images (booted.BadImage place cause) may other o line = absurd may
answer_boots m images (booted.BadEntry txid) may other o line = absurd may
answer_boots m images booted.FromFault may other o line = absurd may
answer_boots m images booted.ToFault may other o line = absurd may
answer_boots m images booted.OutOfMemory may other o line = absurd (other refl)
