-- What is due of a script whose nodes are mirrored.
use Rattle.std.proofs.Common.{◌≡◌, ℕ, ◌+◌, ◌≤◌, List, [], ◌∷◌, length, Option, Some, true, map, refl, sym, ap, ◌∙◌, subst, arith}
use Rattle.std.specs.Prelude.{slice_get, option_map}
use Rattle.std.specs.List.{All, Contains}
use Rattle.std.proofs.lemmas.Bool.{and_parts}
use Rattle.std.proofs.lemmas.Option.{slice_get-map, slice_get_read}
use Rattle.std.proofs.lemmas.List.Elements.{All-weaker, All-contains, All-from_recursion, All-contains_itself}
use Rattle.journal_core.specs.Segments.{any_body, has_edit, IsWithin, AreSound}
use Rattle.journal_core.specs.declared.node_state.NodeState.{NodeState}
use Rattle.journal_core.specs.declared.segment.Segment.{Segment}
use Rattle.journal_core.specs.declared.segment_line.SegmentLine.{SegmentLine}
use Rattle.writer_calls.specs.declared.synced.Missing.{Missing}
use Rattle.writer_calls.specs.declared.told.NodeTold.{NodeTold}
use Rattle.writer_calls.specs.Logs.{MirroredBy}
use Rattle.writer_calls.specs.Mirrors.{lines_of}
use Rattle.writer_calls.specs.States.{is_final_with_edit, told_at, mirror_of, IsNumbered, IsTold}
use Rattle.writer_calls.proofs.HoldLaws.{ComesOf, mirror_comes}
use Rattle.writer_calls.proofs.SteadyLaws.{told_map}
use Rattle.mesh.specs.declared.whole.Mesh.{Mesh}
use Rattle.mesh.specs.Agree.{Agrees}
use Rattle.mesh.specs.Order.{epoch_order}
use Rattle.ns_tree.specs.declared.end.End.{End}
use Rattle.play_script.specs.Scripts.{ScriptView}
use Rattle.play_model.specs.Plays.{states_after}
use Rattle.play_laws.specs.Linear.{OnLine}
use Rattle.play_laws.specs.Finals.{FinalsAreOnLine}
use Rattle.play_report.specs.Mirrored.{mirror_text}
use Rattle.cli_commands.specs.declared.status.Status.TheVariants as status
use Rattle.cli_commands.specs.Uses.{SourceUse}
use Rattle.qj_cli.specs.Sound.{ComeOf}
use Rattle.qj_cli.specs.Plays.{GivesScript}
use Rattle.qj_cli.specs.Mirrors.{text_of_mesh, GivesMirrored}

pub agreed : (script : ScriptView) (m : Mesh) (ends : List End) → ComeOf script m ends → Agrees m
agreed script m ends leaves = subst (λ (x : Mesh). Agrees x) (sym leaves.mesh) leaves.sound.lists.agrees

-- ## What the states at the end of histories tell
first_body : (bodies : List (List ℕ)) → any_body bodies ≡ true → (body : List ℕ) × (slice_get bodies 0 ≡ Some body)
first_body [] e = absurd (cc e)
first_body (body ∷ bodies) e = (body, refl)

module _ (finals : FinalsAreOnLine) (m : Mesh) (agrees : Agrees m) where
  -- a final segment with an edit begins at 1 at least: that edit is the line's
  final_start : (i : ℕ) (s : NodeState) (g : Segment) → slice_get (states_after m.histories) i ≡ Some (Some s) → Contains s.segments g → is_final_with_edit g ≡ true → 1 ≤ g.start
  final_start i s g at there final =
      let parts = and_parts g.is_final (has_edit g) final in
      let first = first_body g.bodies parts.1 in
      let line : OnLine m (epoch_order m) (g.start + 0) first.0 = finals m i (g.start + 0) s g first.0 agrees at there parts.0 (0, refl, first.1) in
      let from : 1 ≤ g.start + 0 = line.from_one in omega (arith, from)

  node_told : (i : ℕ) (s : NodeState) → slice_get (states_after m.histories) i ≡ Some (Some s) → AreSound s.segments → IsTold (Some s)
  node_told i s at sound = λ up.
      All-weaker (Contains s.segments) (λ (g : Segment). is_final_with_edit g ≡ true → IsNumbered g)
      (λ g there final. (final_start i s g at there final, All-contains IsWithin s.segments g (All-from_recursion IsWithin s.segments sound.within) there))
      s.segments (All-contains_itself s.segments)

  -- so do nodes that hold these states
  pub nodes_told : (states : List NodeState) → map (λ (s : NodeState). Some s) states ≡ states_after m.histories → All (λ (s : NodeState). AreSound s.segments) states
      → All (λ (s : NodeState). IsTold (Some s)) states
  nodes_told states same sound =
      All-weaker (Contains states) (λ (s : NodeState). IsTold (Some s))
      (λ s there.
      let held : slice_get states there.0 ≡ Some s = slice_get_read states (length states) there.0 s refl there.1 (sym there.2) in
      let at : slice_get (states_after m.histories) there.0 ≡ Some (Some s) =
      ap (λ (ss : List (Option NodeState)). slice_get ss there.0) (sym same) ∙ slice_get-map (λ (x : NodeState). Some x) states there.0
      ∙ ap (option_map (λ (x : NodeState). Some x)) held in
      node_told there.0 s at (All-contains (λ (x : NodeState). AreSound x.segments) states s sound there))
      states (All-contains_itself states)

-- ## The text of nodes that a play left
pub text_of : {N : Type 0} (state : N → Option NodeState) (nodes : List N) (m : Mesh) (heard : List NodeTold) (lines : List SegmentLine) (held : List Segment) (missing : List Missing)
    (text : List ℕ) → map state nodes ≡ states_after m.histories → heard ≡ map (λ n. told_at (state n)) nodes → missing ≡ [] → lines ≡ lines_of held
    → lines_of held ≡ lines_of (mirror_of (map state nodes)) → text ≡ mirror_text heard lines missing → text ≡ text_of_mesh m
text_of state nodes m heard lines held missing text states hear none are holds is =
    let told : heard ≡ map told_at (states_after m.histories) = hear ∙ sym (told_map state nodes) ∙ ap (λ (ss : List (Option NodeState)). map told_at ss) states in
    let segments : lines ≡ lines_of (mirror_of (states_after m.histories)) = are ∙ holds ∙ ap (λ (ss : List (Option NodeState)). lines_of (mirror_of ss)) states in
    is ∙ ap (λ (ts : List NodeTold). mirror_text ts lines missing) told
    ∙ ap (λ (ls : List SegmentLine). mirror_text (map told_at (states_after m.histories)) ls missing) segments
    ∙ ap (λ (ms : List Missing). mirror_text (map told_at (states_after m.histories)) (lines_of (mirror_of (states_after m.histories))) ms) none

-- ## What a mirror of the nodes holds is the line's
mirror_on_line : FinalsAreOnLine → (script : ScriptView) (m : Mesh) (ends : List End) → ComeOf script m ends → MirroredBy (OnLine m (epoch_order m)) (mirror_of (states_after m.histories))
mirror_on_line finals script m ends leaves start txid g body e has =
    let c : ComesOf (states_after m.histories) g = mirror_comes (states_after m.histories) start g e in
    finals m c.place txid c.s g body (agreed script m ends leaves) c.here c.there c.final has

pub gives_mirrored : FinalsAreOnLine → (source : SourceUse) (script : ScriptView) (m : Mesh) (ends : List End) (text : List ℕ) → GivesScript source script → ComeOf script m ends
    → text ≡ text_of_mesh m → GivesMirrored source status.Ok text
gives_mirrored finals source script m ends text given leaves is = record {
  good_is = refl;
  bytes = given.bytes;
  read = given.read;
  mirrored = record {
    script = script;
    reads = given.reads;
    mesh = m;
    ends = ends;
    leaves = leaves;
    printed = is;
    on_line = mirror_on_line finals script m ends leaves;
  };
}
