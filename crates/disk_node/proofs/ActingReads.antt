-- A segment's file has the edits that are to be told.
use Rattle.std.proofs.Common.{inl, inr, ℕ, ◌≡◌, ◌⊎◌, ◌≤◌, ◌-◌, Bool, List, [], ◌∷◌, take, drop, Option, Some, None, refl, sym, ap, subst, ◌∙◌, arith, zero, suc, length-take, length-drop}
use Rattle.std.proofs.lemmas.List.{take-take}
use Rattle.std.proofs.lemmas.Option.{same_Some}
use Rattle.base_words.proofs.StartLaws.{found_all}
use Rattle.base_disk.specs.View.{View, IsSound}
use Rattle.journal_core.specs.Views.{BatchView, last_txid}
use Rattle.journal_core.specs.declared.segment.Segment.{Segment}
use Rattle.journal_core.specs.declared.segment_line.SegmentLine.{SegmentLine}
use Rattle.journal_core.specs.declared.node_state.NodeState.{NodeState}
use Rattle.journal_core.specs.declared.reply.Reply.{Reply}
use Rattle.journal_core.specs.declared.reply.Reply.TheVariants.{Edits}
use Rattle.journal_core.specs.Limits.{max_number}
use Rattle.journal_core.specs.Segments.{find_segment, end_of, IsWithin, AreSound}
use Rattle.std.specs.Prelude.{Result, Ok, Err, IfOk}
use Rattle.base_disk.specs.declared.disk.DiskFail.{DiskFail}
use Rattle.disk_effects.specs.Told.{state_with}
use Rattle.disk_effects.specs.Served.{IsServedBy, IsLineOf}
use Rattle.journal_core.specs.Reads.{piece_of as fetched_piece}
use Rattle.journal_core.specs.Reads.{served, serving, edits_from, answer_from, not_served, least_served}
use Rattle.journal_core.specs.Answers.{Serves as NodeServes}
use Rattle.journal_core.proofs.PlaceLaws.{by_segments}
use Rattle.journal_core.proofs.SegmentLists.{find-start}
use Rattle.disk_segment.specs.Names.{Kind, InProgress, Final, name_of, kind_of}
use Rattle.disk_segment.specs.Stands.{HoldsEdits, Holds, IsFinalOf, IsProgressOf, CountsUnderWay, CountsPlain, slot_of}
use Rattle.disk_segment.specs.Effects.{IsReady, IsTidy}
use Rattle.disk_segment.specs.Reads.{Serves, IsGiven, piece_of}
use Rattle.disk_segment.specs.declared.given.Given.TheVariants as given
use Rattle.disk_effects.specs.Told.{Tells, line_of}
use Rattle.disk_node.specs.Decoded.{bodies_in}
use Rattle.disk_node.proofs.Decodes.{segment_file_decoded}
use Rattle.disk_segment.specs.Rows.{find_row}
use Rattle.disk_segment.specs.declared.segment_row.SegmentRow.{SegmentRow}
use Rattle.disk_effects.proofs.ToldLaws.{IsTold, found}

from_one : (gs : List Segment) (rows : List SegmentRow) (start : ℕ) (g : Segment) → Tells gs rows → find_segment start gs ≡ Some g → 1 ≤ g.start
from_one gs rows start g t known = by (find_row start rows) (subst (λ (o : Option Segment). IsTold o (find_row start rows)) known (found gs rows start t))
  where
    by : (o : Option SegmentRow) → IsTold (Some g) o → 1 ≤ g.start
    by None told = absurd told
    by (Some row) told = told.1

-- ## The file of a segment
module _ (v : View) (gs : List Segment) (g : Segment) (from : ℕ) (tidy : IsTidy v.seen) (one : 1 ≤ g.start) (low : g.start ≤ from) (high : from ≤ end_of g) (fits : end_of g ≤ max_number) where
  abbrev file_of : Kind → Option (List ℕ)
  file_of kind = v.seen (name_of g.start kind)

  abbrev told_file : Option (List ℕ)
  told_file = file_of (kind_of (end_of g) g.is_final)

  serves_by : (kind : Kind) → kind_of (end_of g) g.is_final ≡ kind → HoldsEdits g.start (file_of kind) g → Serves g.start (end_of g) g.is_final from told_file g.bodies
  serves_by kind is holds = record {
    bytes = holds.bytes;
    there = ap file_of is ∙ holds.there;
    epoch = g.epoch;
    whole_length = holds.whole_length;
    edits = holds.edits;
    ends = λ final. omega arith;
    more = omega arith;
  }

  final_serves : IsFinalOf g.start (slot_of v.seen g.start) g → Serves g.start (end_of g) g.is_final from told_file g.bodies
  final_serves f = serves_by (Final f.last) (ap (kind_of (end_of g)) f.final ∙ ap (λ (n : ℕ). Final n) (let e : end_of g ≡ f.last = omega (arith, f.ends) in e)) f.content

  plain_file : (file : Option (List ℕ)) → CountsUnderWay g.start (slot_of v.seen g.start) file ⊎ CountsPlain g.start (slot_of v.seen g.start) file
      → HoldsEdits g.start file g → HoldsEdits g.start (file_of InProgress) g
  plain_file file (inl way) holds = absurd (nothing file (sym way.there
      ∙ tidy.none_under_way g.start way.epoch one (let l : g.start ≤ 4611686018427387904 = omega arith in l) way.valid) holds.bytes holds.there)
    where
      nothing : (file : Option (List ℕ)) → file ≡ None → (bytes : List ℕ) → file ≡ Some bytes → ⊥
      nothing file none bytes some = cc
  plain_file file (inr plain) holds = subst (λ (f : Option (List ℕ)). HoldsEdits g.start f g) (sym plain.there) holds

  progress_serves : IsProgressOf g.start (slot_of v.seen g.start) g → Serves g.start (end_of g) g.is_final from told_file g.bodies
  progress_serves p = serves_by InProgress (ap (kind_of (end_of g)) p.final) (plain_file p.file p.counts p.content)

  stands_serves : Holds g.start (slot_of v.seen g.start) (Some g) → Serves g.start (end_of g) g.is_final from told_file g.bodies
  stands_serves (inl f) = final_serves f
  stands_serves (inr p) = progress_serves p

ready_serves : (v : View) (sound : IsSound v) (gs : List Segment) (g : Segment) (from : ℕ) → IsReady v gs → 1 ≤ g.start
    → find_segment g.start gs ≡ Some g → g.start ≤ from → from ≤ end_of g → end_of g ≤ max_number
    → Serves g.start (end_of g) g.is_final from (v.seen (name_of g.start (kind_of (end_of g) g.is_final))) g.bodies
ready_serves v sound gs g from ready one known low high fits =
    stands_serves v gs g from ready.tidy one low high fits
    (subst (λ (o : Option Segment). Holds g.start (slot_of v.seen g.start) o) known
    ((ready.stands v.seen sound.seen_now).slots g.start one (let l : g.start ≤ 4611686018427387904 = omega arith in l)).holds)

pub line_serves : (v : View) (sound : IsSound v) (gs : List Segment) (g : Segment) (line : SegmentLine) (from : ℕ) → IsReady v gs → 1 ≤ line.start
    → find_segment line.start gs ≡ Some g → line ≡ line_of g
    → line.start ≤ from → from ≤ line.end → line.end ≤ max_number
    → Serves line.start line.end line.is_final from (v.seen (name_of line.start (kind_of line.end line.is_final))) g.bodies
line_serves v sound gs g line from ready one known is =
    let P : SegmentLine → Type 0 = λ l. 1 ≤ l.start → find_segment l.start gs ≡ Some g → l.start ≤ from → from ≤ l.end → l.end ≤ max_number
    → Serves l.start l.end l.is_final from (v.seen (name_of l.start (kind_of l.end l.is_final))) g.bodies in
    subst P (sym is) (ready_serves v sound gs g from ready) one known

-- ## What a read gives
same_bodies : (start end : ℕ) (final : Bool) (from : ℕ) (file : Option (List ℕ)) (xs ys : List (List ℕ)) → Serves start end final from file xs → Serves start end final from file ys → xs ≡ ys
same_bodies start end final from file xs ys a b =
    sym (segment_file_decoded a.bytes start a.epoch xs a.whole_length a.edits).1
    ∙ ap bodies_in (same_Some a.bytes b.bytes (sym a.there ∙ b.there))
    ∙ (segment_file_decoded b.bytes start b.epoch ys b.whole_length b.edits).1

pub given_piece : (start end : ℕ) (final : Bool) (from : ℕ) (file : Option (List ℕ)) (bodies : List (List ℕ)) (b : BatchView)
    → Serves start end final from file bodies → IsGiven start end final from file (given.Edits b)
    → b ≡ piece_of start from bodies
given_piece start end final from file bodies b serves is =
    is.2 ∙ ap (piece_of start from) (same_bodies start end final from file is.0 bodies is.1 serves)

pub given_bad : (start end : ℕ) (final : Bool) (from : ℕ) (file : Option (List ℕ)) (bodies : List (List ℕ)) (name : List ℕ)
    → Serves start end final from file bodies → IsGiven start end final from file (given.BadFile name) → ⊥
given_bad start end final from file bodies name serves bad = bad.1 bodies serves

pub told_edits : (start from most : ℕ) (g : Segment) (gs : List Segment) (b : BatchView) (reply : Reply) → AreSound gs
    → find_segment start gs ≡ Some g → start ≤ from → from ≤ max_number → b ≡ piece_of start from g.bodies
    → (last_txid (record { first = from; bodies = take most b.bodies }) ≤ max_number → reply ≡ Edits (record { first = from; bodies = take most b.bodies }))
    → reply ≡ Edits (record { first = from; bodies = take most (take 256 (drop (from - g.start) g.bodies)) })
told_edits start from most g gs b reply sound known low high piece told =
    let at : g.start ≡ start = find-start start gs g known in
    let within : IsWithin g = found_all by_segments IsWithin start gs g sound.within known in
    let bodies : b.bodies ≡ take 256 (drop (from - g.start) g.bodies) = ap (λ (x : BatchView). x.bodies) piece ∙ ap (λ (n : ℕ). take 256 (drop (from - n) g.bodies)) (sym at) in
    let P : List (List ℕ) → Type 0 = λ xs. (last_txid (record { first = from; bodies = take most xs }) ≤ max_number → reply ≡ Edits (record { first = from; bodies = take most xs })) in
    subst P bodies told (omega (
      arith,
      length-take most (take 256 (drop (from - g.start) g.bodies)),
      length-take 256 (drop (from - g.start) g.bodies),
      length-drop (from - g.start) g.bodies,
      within,
      at,
    ))

-- ## Replies
take_swap : (n m : ℕ) (xs : List (List ℕ)) → take n (take m xs) ≡ take m (take n xs)
take_swap zero zero xs = refl
take_swap zero (suc m) [] = refl
take_swap zero (suc m) (x ∷ xs) = refl
take_swap (suc n) zero [] = refl
take_swap (suc n) zero (x ∷ xs) = refl
take_swap (suc n) (suc m) [] = refl
take_swap (suc n) (suc m) (x ∷ xs) = ap (λ (ys : List (List ℕ)). x ∷ ys) (take_swap n m xs)

take_none : (n : ℕ) → (let none : List (List ℕ) = [] in take n none ≡ none)
take_none zero = refl
take_none (suc n) = refl

drop_cut : (skip count : ℕ) (xs : List (List ℕ)) → take (count - skip) (drop skip xs) ≡ drop skip (take count xs)
drop_cut zero count xs = let e : count - zero ≡ count = omega arith in ap (λ (n : ℕ). take n xs) e
drop_cut (suc skip) zero [] = let e : zero - suc skip ≡ zero = omega arith in ap (λ (n : ℕ). take n []) e
drop_cut (suc skip) zero (x ∷ xs) = let e : zero - suc skip ≡ zero = omega arith in ap (λ (n : ℕ). take n (drop skip xs)) e
drop_cut (suc skip) (suc count) [] = take_none (suc count - suc skip)
drop_cut (suc skip) (suc count) (x ∷ xs) = let e : suc count - suc skip ≡ count - skip = omega arith in ap (λ (n : ℕ). take n (drop skip xs)) e ∙ drop_cut skip count xs

cut_piece : (most skip count : ℕ) (xs : List (List ℕ)) → take (count - skip) (take most (drop skip xs)) ≡ take most (drop skip (take count xs))
cut_piece most skip count xs = take_swap (count - skip) most (drop skip xs) ∙ ap (take most) (drop_cut skip count xs)

on_ok_map : (result : Result Reply DiskFail) (P Q : Reply → Type 0) → ((reply : Reply) → P reply → Q reply) → IfOk result P → IfOk result Q
on_ok_map (Ok reply) P Q f p = f reply p
on_ok_map (Err e) P Q f p = tt

read_told : (s : NodeState) (from count : ℕ) (g : Segment) (start : ℕ) (reply : Reply) → g.start ≡ start → NodeServes s from g count
    → reply ≡ Edits (record { first = from; bodies = take (count - (from - start)) (take 256 (drop (from - g.start) g.bodies)) }) → reply ≡ edits_from s from
unfolding edits_from
read_told s from count g start reply at serves is =
    is
    ∙ ap (λ (n : ℕ). Edits (record { first = from; bodies = take (count - (from - n)) (take 256 (drop (from - g.start) g.bodies)) })) (sym at)
    ∙ ap (λ (xs : List (List ℕ)). Edits (record { first = from; bodies = xs }))
    (cut_piece 256 (from - g.start) count g.bodies ∙ ap (λ (xs : List (List ℕ)). take 256 (drop (from - g.start) xs)) (sym serves.prefix))
    ∙ sym (ap (answer_from s from) serves.piece)

pub none_told : (s : NodeState) (from : ℕ) (reply : Reply) → serving s from s.segments ≡ None → reply ≡ not_served s from (least_served s s.segments) → reply ≡ edits_from s from
unfolding edits_from
none_told s from reply none is = is ∙ sym (ap (answer_from s from) none)

abbrev pub TellsEdits : List Segment → SegmentLine → ℕ → ℕ → Result Reply DiskFail → Type 0
TellsEdits gs line from most result = (g : Segment) → 1 ≤ line.start → find_segment line.start gs ≡ Some g → line ≡ line_of g
    → IfOk result (λ reply. reply ≡ Edits (record { first = from; bodies = take most (take 256 (drop (from - g.start) g.bodies)) }))

pub read_reply : (m : NodeState) (gs : List Segment) (rows : List SegmentRow) (from count : ℕ) (line : SegmentLine) (result : Result Reply DiskFail)
    → Tells gs rows → IsServedBy (state_with m gs) from line count
    → TellsEdits gs line from (count - (from - line.start)) result → IfOk result (λ reply. reply ≡ edits_from (state_with m gs) from)
read_reply m gs rows from count line result t served told =
    let at : served.segment.start ≡ line.start = find-start line.start gs served.segment served.known in
    on_ok_map result _ (λ reply. reply ≡ edits_from (state_with m gs) from) (λ reply is. read_told (state_with m gs) from count served.segment line.start reply at served.serves is)
    (told served.segment (subst (λ (n : ℕ). 1 ≤ n) at (from_one gs rows line.start served.segment t served.known)) served.known served.line_is)

pub fetch_reply : (gs : List Segment) (rows : List SegmentRow) (start from : ℕ) (line : SegmentLine) (result : Result Reply DiskFail) → Tells gs rows
    → IsLineOf gs start line → TellsEdits gs line from 256 result
    → IfOk result (λ reply. reply ≡ Edits (record { first = from; bodies = fetched_piece (find_segment start gs) from }))
fetch_reply gs rows start from line result t of told =
    let at : of.segment.start ≡ start = find-start start gs of.segment of.known in
    let here : line.start ≡ of.segment.start = ap (λ (l : SegmentLine). l.start) of.line_is in
    let known : find_segment line.start gs ≡ Some of.segment = ap (λ (n : ℕ). find_segment n gs) (here ∙ at) ∙ of.known in
    on_ok_map result _ _ (λ reply is. is ∙ ap (λ (xs : List (List ℕ)). Edits (record { first = from; bodies = xs }))
    (take-take 256 256 (drop (from - of.segment.start) of.segment.bodies) (omega arith)
    ∙ sym (ap (λ (o : Option Segment). fetched_piece o from) of.known)))
    (told of.segment (subst (λ (n : ℕ). 1 ≤ n) (sym here) (from_one gs rows start of.segment t of.known)) known of.line_is)
