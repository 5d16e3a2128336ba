-- What is known of a play, of its report and of its summary.
use Rattle.std.proofs.Common.{◌≡◌, ◌≤◌, ℕ, Bool, true, false, List, sym, subst, ◌∙◌, ap}
use Rattle.run_safety.specs.Run.{IsRun}
use Rattle.run_safety.specs.Keeps.{OfEveryRun, KeepsParts}
use Rattle.mesh.specs.declared.whole.Mesh.{Mesh}
use Rattle.ns_tree.specs.declared.end.End.{End}
use Rattle.mesh.specs.Agree.{Agrees}
use Rattle.mesh.specs.Order.{epoch_order}
use Rattle.mesh.specs.Laws.{OrderIsRun}
use Rattle.play_script.specs.Scripts.{ScriptView}
use Rattle.play_script.specs.Laws.{TextIsOfOneScript}
use Rattle.play_model.specs.Lines.{Line, lines_of, ArePlayable, IsPlayable}
use Rattle.play_script.specs.Generated.{generated}
use Rattle.play_model.specs.Plays.{Play, Plays, mesh_of, ends_of, IsPlayed}
use Rattle.play_model.specs.Laws.{PlaysAgree, PlaysFollow, MeshesAreSafe, OnePlay}
use Rattle.play_model.specs.Safe.{IsSafeWithEnds}
use Rattle.play_model.specs.Follows.{FollowsLines, FollowsScript}
use Rattle.play_laws.specs.Laws.{EpochOrderIsSafe, NamesAreKept, EditsHaveOneResult, ResultsTellAcknowledged}
use Rattle.play_laws.proofs.NamedPlays.{is_named}
use Rattle.play_report.specs.Text.{text_of}
use Rattle.play_report.specs.Summary.{summary_text}
use Rattle.qj_cli.specs.Sound.{AreSound, ComeOf}
use Rattle.qj_cli.specs.Report.{IsReport, ScriptsHaveOneReport}
use Rattle.qj_cli.specs.Mirrors.{text_of_mesh, ScriptsHaveOneMirror}
use Rattle.qj_cli.specs.Generates.{IsSummary, NumbersHaveOneSummary}
use Rattle.qj_cli.proofs.MeshEnds.{meshes_hold_nothing}

-- ## Lists that a script leaves
-- of a script with names or without, whoever made the lists
mesh_safe : (named : Bool) (nodes : ℕ) (lines : List Line) (m : Mesh) (ends : List End) → 1 ≤ nodes → ArePlayable named nodes 0 lines → Agrees m → FollowsLines named nodes lines m ends
    → MeshesAreSafe → EpochOrderIsSafe → IsSafeWithEnds nodes (epoch_order m) ends
mesh_safe true nodes lines m ends some can agrees follows safe names =
    subst (λ n. IsSafeWithEnds n (epoch_order m) ends) follows.nodes_are (names m lines ends agrees (is_named nodes lines m ends some can follows))
mesh_safe false nodes lines m ends some can agrees follows safe names =
    subst (λ n. IsSafeWithEnds n (epoch_order m) ends) follows.nodes_are (safe m ends agrees (meshes_hold_nothing nodes lines m ends can follows))

-- what the laws say of such lists
pub record Laws : Type 0 where
  pub run : OrderIsRun
  pub safe : MeshesAreSafe
  pub named_safe : EpochOrderIsSafe
  pub parts : OfEveryRun KeepsParts
  pub results : EditsHaveOneResult
  pub told : ResultsTellAcknowledged
  pub names : NamesAreKept

ordered_run : (s : ScriptView) (m : Mesh) (ends : List End) → Agrees m → FollowsScript s m ends → OrderIsRun → IsRun s.nodes (epoch_order m)
ordered_run s m ends agrees follows law = subst (λ n. IsRun n (epoch_order m)) follows.nodes_are (law m agrees)

pub sound : (s : ScriptView) (m : Mesh) (ends : List End) → IsPlayable s → Agrees m → FollowsScript s m ends → Laws → AreSound s m ends
sound s m ends playable agrees follows laws = record {
  agrees = agrees;
  follows = follows;
  run = ordered_run s m ends agrees follows laws.run;
  safe = mesh_safe s.named s.nodes (lines_of s) m ends playable.nodes playable.lines agrees follows laws.safe laws.named_safe;
  parts = laws.parts s.nodes (epoch_order m) (ordered_run s m ends agrees follows laws.run);
  results = laws.results s m ends playable agrees follows;
  told = laws.told s m ends playable agrees follows;
  names = λ e. laws.names m (lines_of s) ends agrees
      (is_named s.nodes (lines_of s) m ends playable.nodes (subst (λ (b : Bool). ArePlayable b s.nodes 0 (lines_of s)) e playable.lines)
      (subst (λ (b : Bool). FollowsLines b s.nodes (lines_of s) m ends) e follows));
}

pub comes : (s : ScriptView) (m : Mesh) (ends : List End) → IsPlayable s → IsPlayed s.named s.nodes (lines_of s) m ends → PlaysAgree → PlaysFollow → Laws → ComeOf s m ends
comes s m ends playable played agree follow laws =
    let p : Play = played.play in
    record {
      play = p;
      sound = record {
        plays = played.plays;
        lists = sound s (mesh_of p) (ends_of p) playable (agree s p playable played.plays) (follow s p playable played.plays) laws;
      };
      mesh = played.mesh;
      ends_are = played.ends_are;
    }

-- ## Its summary
pub summed : (number edits nodes : ℕ) (text : List ℕ) (s : ScriptView) (m : Mesh) (ends : List End) → s ≡ generated number edits nodes → ComeOf s m ends → text ≡ summary_text m ends
    → IsSummary number edits nodes text
summed number edits nodes text s m ends e come is =
    let made : ComeOf (generated number edits nodes) m ends = subst (λ (x : ScriptView). ComeOf x m ends) e come in
    record {
      play = made.play;
      sound = made.sound;
      printed = is ∙ ap (λ x. summary_text x ends) made.mesh ∙ ap (λ x. summary_text (mesh_of made.play) x) made.ends_are;
    }

-- ## One report, and one summary
same_text : (p q : Play) → p ≡ q → text_of (mesh_of p) (ends_of p) ≡ text_of (mesh_of q) (ends_of q)
same_text p q e = ap (λ x. text_of (mesh_of x) (ends_of x)) e

-- the text is that of the play
of_play : {bytes text : List ℕ} → (f : IsReport ComeOf bytes text) → text ≡ text_of (mesh_of f.leaves.play) (ends_of f.leaves.play)
of_play f = f.printed ∙ ap (λ x. text_of x f.ends) f.leaves.mesh ∙ ap (λ x. text_of (mesh_of f.leaves.play) x) f.leaves.ends_are

pub one_report : TextIsOfOneScript → OnePlay → ScriptsHaveOneReport
one_report one_script one_play bytes a b f g =
    let e : f.script ≡ g.script = one_script bytes f.script g.script f.reads g.reads in
    let plays : Plays f.script g.leaves.play = subst (λ s. Plays s g.leaves.play) (sym e) g.leaves.sound.plays in
    of_play f ∙ same_text f.leaves.play g.leaves.play (one_play f.script f.leaves.play g.leaves.play f.leaves.sound.plays plays) ∙ sym (of_play g)

pub one_summary : OnePlay → NumbersHaveOneSummary
one_summary one_play number edits nodes a b f g =
    f.printed ∙ ap (λ x. summary_text (mesh_of x) (ends_of x)) (one_play (generated number edits nodes) f.play g.play f.sound.plays g.sound.plays) ∙ sym g.printed

pub one_mirror : TextIsOfOneScript → OnePlay → ScriptsHaveOneMirror
one_mirror one_script one_play bytes a b f g =
    let e : f.script ≡ g.script = one_script bytes f.script g.script f.reads g.reads in
    let plays : Plays f.script g.leaves.play = subst (λ s. Plays s g.leaves.play) (sym e) g.leaves.sound.plays in
    let same : f.leaves.play ≡ g.leaves.play = one_play f.script f.leaves.play g.leaves.play f.leaves.sound.plays plays in
    f.printed ∙ ap text_of_mesh (f.leaves.mesh ∙ ap mesh_of same ∙ sym g.leaves.mesh) ∙ sym g.printed
