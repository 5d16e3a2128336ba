-- A pass over nodes that are called directly, each steady and telling its state.
use Rattle.std.proofs.Common.{◌≡◌, List, [], ◌∷◌, length, map, filter, All, Option, Result, Ok, Err, IfOk, OnOk, refl, sym, ap, ◌∙◌, subst}
use Rattle.std.specs.List.{flat_map}
use Rattle.std.specs.declared.alloc.AllocError.{AllocError}
use Rattle.std.proofs.lemmas.List.{append_cancel_left, length-map}
use Rattle.std.proofs.lemmas.List.Elements.{All-map}
use Rattle.journal_core.specs.declared.node_state.NodeState.{NodeState}
use Rattle.journal_core.specs.declared.peer_call.PeerCall.{PeerCall}
use Rattle.journal_core.specs.declared.segment.Segment.{Segment}
use Rattle.journal_core.specs.declared.segment_line.SegmentLine.{SegmentLine}
use Rattle.writer_calls.specs.declared.synced.Missing.{Missing}
use Rattle.writer_calls.specs.declared.synced.Synced.{Synced}
use Rattle.writer_calls.specs.declared.told.NodeTold.{NodeTold}
use Rattle.writer_calls.specs.declared.told.ToldLine.{ToldLine}
use Rattle.writer_calls.specs.Told.{lines_told}
use Rattle.writer_calls.specs.Directs.{DirectView, CallsGo, AreCalled}
use Rattle.writer_calls.specs.Logs.{MirroredBy}
use Rattle.writer_calls.specs.Mirrors.{lines_of, hold_lines, LineOutcome, lines_stopped, IsOutcome, unheld, place_of, place_missing, Passes, IsSynced}
use Rattle.writer_calls.specs.States.{finals_at, told_at, IsGivenBy, IsTold}
use Rattle.writer_calls.proofs.Steady.{Answered, calls_answered}
use Rattle.writer_calls.proofs.SteadyPass.{heard_are, lines_all, ReadAll, reads_all, all_given}
use Rattle.writer_calls.proofs.SyncLaws.{is_missing, missing_are, passes_mirrored}

-- what holds of such a pass
pub record SyncsSteadily (states : List (Option NodeState)) (old new : List Segment) (s : Synced) (after : List (Option NodeState)) : Type 0 where
  pub heard : s.heard.items ≡ map told_at states
  pub missing : s.missing.items ≡ []
  pub lines : lines_of new ≡ hold_lines (lines_of old) (lines_of (flat_map finals_at states))
  pub given : MirroredBy (IsGivenBy states) old → MirroredBy (IsGivenBy states) new
  pub same : after ≡ states

no_places : (ms : List Missing) → map place_missing ms ≡ [] → ms ≡ []
no_places [] e = refl
no_places (m ∷ ms) e = cc

nothing_missing : (calls : List PeerCall) (new : List Segment) (os : List LineOutcome) → map (λ o. o.told) os ≡ lines_told calls → All (λ o. IsOutcome calls new o.told o.stopped) os
    → lines_stopped os ≡ [] → map place_of (unheld new (lines_told calls)) ≡ []
nothing_missing calls new os each out none =
    ap (λ (ts : List ToldLine). map place_of (unheld new ts)) (sym each) ∙ sym (missing_are calls new os out)
    ∙ ap (λ (ms : List Missing). map place_missing (filter (is_missing new) ms)) none

pub syncs_steadily : {N : Type 0} (state : N → Option NodeState) (steady : N → Type 0) (before after : DirectView N) (old new : List Segment) (s : Synced) → All steady before.nodes
    → All (λ n. IsTold (state n)) before.nodes → AreCalled state steady before after → IsSynced (length before.nodes) before.calls after.calls old new s
    → SyncsSteadily (map state before.nodes) old new s (map state after.nodes)
syncs_steadily state steady before after old new s firm told called y =
    let p : Passes before.calls after.calls old new = y.passes in
    let states = map state before.nodes in
    let made : called.made ≡ p.added = append_cancel_left before.calls called.made p.added (sym called.listed ∙ p.calls) in
    let went : CallsGo state steady p.added before.nodes after.nodes = subst (λ (cs : List PeerCall). CallsGo state steady cs before.nodes after.nodes) made called.went in
    let told_all : All IsTold states = All-map IsTold state before.nodes told in
    let a : Answered state steady states p.added after.nodes = calls_answered state steady states p.added before.nodes after.nodes refl firm told_all p.questions went in
    let count : length s.heard.items ≡ length states = y.all ∙ sym (length-map before.nodes state) in
    let r : ReadAll p.added p.outcomes = reads_all states p.added new p.outcomes told_all a.each y.each_line p.takes.each in
    record {
      heard = heard_are states p.added s.heard.items told_all p.questions a.each y.asked count;
      missing = no_places s.missing.items (y.missing ∙ nothing_missing p.added new p.outcomes y.each_line p.takes.each r.none);
      lines = p.takes.lines ∙ ap (λ (ls : List SegmentLine). hold_lines (lines_of old) ls) (r.all ∙ lines_all states p.added s.heard.items told_all p.questions a.each y.asked count);
      given = λ m. passes_mirrored (IsGivenBy states) before.calls after.calls old new p (all_given states p.added p.questions a.each) m;
      same = a.same;
    }

-- what holds of a pass that answers, where memory sufficed
pub steadily : {N : Type 0} (state : N → Option NodeState) (steady : N → Type 0) (before after : DirectView N) (old new : List Segment) (r : Result Synced AllocError) → All steady before.nodes
    → All (λ n. IsTold (state n)) before.nodes → OnOk r (AreCalled state steady before after) → IfOk r (λ s. IsSynced (length before.nodes) before.calls after.calls old new s)
    → IfOk r (λ s. SyncsSteadily (map state before.nodes) old new s (map state after.nodes))
steadily state steady before after old new (Ok s) firm told called y = syncs_steadily state steady before after old new s firm told called y
steadily state steady before after old new (Err e) firm told called y = tt

pub on_ok_of : {T E : Type 0} (P : T → Type 0) (Q : Type 0) (r : Result T E) → ((x : T) → P x → Q) → IfOk r P → OnOk r Q
on_ok_of P Q (Ok x) f h = f x h
on_ok_of P Q (Err e) f h = tt

pub told_map : {N : Type 0} (state : N → Option NodeState) (nodes : List N) → map told_at (map state nodes) ≡ map (λ n. told_at (state n)) nodes
told_map state [] = refl
told_map state (n ∷ nodes) = ap (λ (ts : List NodeTold). told_at (state n) ∷ ts) (told_map state nodes)
