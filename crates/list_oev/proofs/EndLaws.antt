-- Two ways to go through the frames of a file end at one place.
use Rattle.std.proofs.Common.{◌≡◌, ℕ, ◌+◌, List, [], ◌∷◌, ◌++◌, length, take, drop, None, refl, sym, ap, ◌∙◌, arith, append_assoc, add-zero, subst}
use Rattle.std.specs.List.{flat_map, AllByRecursion}
use Rattle.std.proofs.lemmas.List.{take-append-drop, drop-drop, length-take-le, length-append, append_cancel_left}
use Rattle.journal_core.specs.Views.{BatchView}
use Rattle.disk_frame.specs.declared.frame_cause.FrameCause.{FrameCause}
use Rattle.disk_frame.specs.Frames.{frame_bytes, broken_rule, AreInOrder, IsTail}
use Rattle.disk_frame.specs.Faults.{FitsFields, Spells, IsBadFrame}
use Rattle.edit_ops.specs.Records.{EditView}
use Rattle.list_oev.specs.declared.segment_listing.SegmentCause.{SegmentCause}
use Rattle.list_oev.specs.Segment.{AreRecords, Begins}
use Rattle.list_oev.specs.Damage.{IsBadBody}
use Rattle.list_oev.proofs.RecordLaws.{HasEdit, one_list, records_length, each_has, each_split, no_bad_among}
use Rattle.disk_frame.proofs.RuleLaws.{good_fits}
use Rattle.disk_frame.proofs.SpellLaws.{one_spelling}
use Rattle.disk_frame.proofs.FrameLaws.{no_frames}
use Rattle.disk_frame.proofs.FaultLaws.{tail_stops, bad_stops, no_value}
use Rattle.disk_frame.proofs.SegmentLaws.{one_header}

-- no frame of edits stands there, the first of them at that txid
pub record Halts (next : ℕ) (rest : List ℕ) : Type 0 where
  pub none : (b : BatchView) → Spells rest b → broken_rule next b ≡ None → AllByRecursion HasEdit b.bodies → ⊥

pub halts_at_tail : (next : ℕ) (rest : List ℕ) → IsTail rest → Halts next rest
halts_at_tail next rest h = record { none = λ b s g r. tail_stops next rest h b g s }

pub halts_at_bad : (next : ℕ) (rest : List ℕ) (cause : FrameCause) → IsBadFrame next rest cause → Halts next rest
halts_at_bad next rest cause h = record { none = λ b s g r. bad_stops next rest cause h b g s }

-- a tail has no bad frame
pub tail_not_bad : (next : ℕ) (rest : List ℕ) (cause : FrameCause) → IsTail rest → IsBadFrame next rest cause → ⊥
tail_not_bad next rest cause tail bad =
    no_value next rest [] 0 0 cause (record { frames = no_frames next rest; tail = tail })
    (record { bodies = []; frames = no_frames next rest; bad = subst (λ (n : ℕ). IsBadFrame n rest cause) (sym (add-zero next)) bad })

-- two frames that bytes begin with are one
one_frame : (a b : BatchView) (x y : List ℕ) → FitsFields a → FitsFields b → frame_bytes a ++ x ≡ frame_bytes b ++ y → (a ≡ b) × (x ≡ y)
one_frame a b x y fa fb e =
    let h : a ≡ b = one_spelling (frame_bytes a ++ x) a b (record { fits = fa; rest = x; spelled = refl }) (record { fits = fb; rest = y; spelled = e }) in
    (h, append_cancel_left (frame_bytes a) x y (e ∙ ap (λ (c : BatchView). frame_bytes c ++ y) (sym h)))

pub halts_at_edit : (next : ℕ) (rest : List ℕ) (f : BatchView) (records : List (List ℕ)) (body : List ℕ) (others : List (List ℕ)) (cause : SegmentCause)
    → Spells rest f → f.bodies ≡ records ++ body ∷ others → IsBadBody body cause → Halts next rest
halts_at_edit next rest f records body others cause s e p = record {
  none = λ b t g r.
      let h : b ≡ f = one_spelling rest b f t s in
      let k : b.bodies ≡ records ++ body ∷ others = ap (λ c. c.bodies) h ∙ e in
      no_bad_among records body others cause (subst (AllByRecursion HasEdit) k r) p;
}

abbrev pub all_bodies : List BatchView → List (List ℕ)
all_bodies bs = flat_map (λ b. b.bodies) bs

cons_same : {A : Type 0} (b c : A) (bs cs : List A) → b ≡ c → bs ≡ cs → b ∷ bs ≡ c ∷ cs
cons_same b c bs cs p q = cc

-- the bytes after the header are the frames, and the rest
pub rest_of : (bytes : List ℕ) (start : ℕ) (edits : List EditView) (end : ℕ) (b : Begins bytes start edits end) → flat_map frame_bytes b.frames.batches ++ drop end bytes ≡ drop 24 bytes
rest_of bytes start edits end b =
    let d : drop end bytes ≡ drop b.behind (drop 24 bytes) = ap (λ (n : ℕ). drop n bytes) b.end_is ∙ sym (drop-drop b.behind 24 bytes) in
    ap (λ (z : List ℕ). z ++ drop end bytes) (sym b.frames.spelled) ∙ (ap (λ (z : List ℕ). take b.behind (drop 24 bytes) ++ z) d ∙ take-append-drop b.behind (drop 24 bytes))

pub after_of : (bytes : List ℕ) (start : ℕ) (edits : List EditView) (end : ℕ) (b : Begins bytes start edits end) → b.behind ≡ length (flat_map frame_bytes b.frames.batches)
after_of bytes start edits end b = sym (length-take-le b.behind (drop 24 bytes) b.frames.there) ∙ ap length b.frames.spelled

pub record SameEnd (bs cs : List BatchView) (x y : List ℕ) : Type 0 where
  pub batches : bs ≡ cs
  pub rest : x ≡ y

-- where no frame of edits stands, none does
nothing_more : (next n : ℕ) (x : List ℕ) (c : BatchView) (more : List ℕ) → n ≡ next + 0 → Halts n x → broken_rule next c ≡ None → AllByRecursion HasEdit c.bodies → x ≡ frame_bytes c ++ more → ⊥
nothing_more next n x c more e halts good has spelled =
    halts.none c (record { fits = good_fits next c good; rest = more; spelled = spelled }) (subst (λ (m : ℕ). broken_rule m c ≡ None) (omega arith) good) has

pub one_end : (bs cs : List BatchView) (next n m : ℕ) (x y : List ℕ) → AreInOrder next bs → AreInOrder next cs
    → AllByRecursion HasEdit (all_bodies bs) → AllByRecursion HasEdit (all_bodies cs)
    → flat_map frame_bytes bs ++ x ≡ flat_map frame_bytes cs ++ y → n ≡ next + length (all_bodies bs) → m ≡ next + length (all_bodies cs) → Halts n x → Halts m y → SameEnd bs cs x y
one_end [] [] next n m x y ob oc hb hc e en em sx sy = record { batches = refl; rest = e }
one_end [] (c ∷ cs) next n m x y ob oc hb hc e en em sx sy =
    absurd (nothing_more next n x c (flat_map frame_bytes cs ++ y) en sx oc.0 (each_split c.bodies (all_bodies cs) hc).0 (e ∙ append_assoc (frame_bytes c) (flat_map frame_bytes cs) y))
one_end (b ∷ bs) [] next n m x y ob oc hb hc e en em sx sy =
    absurd (nothing_more next m y b (flat_map frame_bytes bs ++ x) em sy ob.0 (each_split b.bodies (all_bodies bs) hb).0 (sym e ∙ append_assoc (frame_bytes b) (flat_map frame_bytes bs) x))
one_end (b ∷ bs) (c ∷ cs) next n m x y ob oc hb hc e en em sx sy =
    let f = one_frame b c (flat_map frame_bytes bs ++ x) (flat_map frame_bytes cs ++ y) (good_fits next b ob.0) (good_fits next c oc.0)
    (sym (append_assoc (frame_bytes b) (flat_map frame_bytes bs) x) ∙ (e ∙ append_assoc (frame_bytes c) (flat_map frame_bytes cs) y)) in
    let bc : b ≡ c = f.0 in
    let t = one_end bs cs (next + length b.bodies) n m x y ob.1 (subst (λ (z : BatchView). AreInOrder (next + length z.bodies) cs) (sym bc) oc.1)
    (each_split b.bodies (all_bodies bs) hb).1 (each_split c.bodies (all_bodies cs) hc).1 f.1
    (omega (arith, length-append b.bodies (all_bodies bs))) (omega (arith, length-append c.bodies (all_bodies cs), ap (λ (z : BatchView). length z.bodies) bc)) sx sy in
    record { batches = cons_same b c bs cs bc t.batches; rest = t.rest }

pub record OneBegin (start other : ℕ) (edits others : List EditView) (end last : ℕ) : Type 0 where
  pub same_start : start ≡ other
  pub same_edits : edits ≡ others
  pub same_end : end ≡ last

-- a file begins in one way up to where no frame of edits stands
pub one_begin : (bytes : List ℕ) (s t : ℕ) (es fs : List EditView) (end last : ℕ) → Begins bytes s es end → Begins bytes t fs last
    → Halts (s + length es) (drop end bytes) → Halts (t + length fs) (drop last bytes) → OneBegin s t es fs end last
one_begin bytes s t es fs end last a b ha hb =
    let st : s ≡ t = (one_header bytes s a.epoch t b.epoch a.header b.header).0 in
    let bs = a.frames.batches in
    let cs = b.frames.batches in
    let ea : flat_map frame_bytes a.frames.batches ++ drop end bytes ≡ drop 24 bytes = rest_of bytes s es end a in
    let eb : flat_map frame_bytes b.frames.batches ++ drop last bytes ≡ drop 24 bytes = rest_of bytes t fs last b in
    let la : length es ≡ length (all_bodies a.frames.batches) = records_length a.bodies es a.are ∙ ap length a.frames.bodies_are in
    let lb : length fs ≡ length (all_bodies b.frames.batches) = records_length b.bodies fs b.are ∙ ap length b.frames.bodies_are in
    let same = one_end a.frames.batches b.frames.batches s (s + length es) (t + length fs) (drop end bytes) (drop last bytes)
    a.frames.in_order (subst (λ (n : ℕ). AreInOrder n b.frames.batches) (sym st) b.frames.in_order)
    (subst (AllByRecursion HasEdit) a.frames.bodies_are (each_has a.bodies es a.are)) (subst (AllByRecursion HasEdit) b.frames.bodies_are (each_has b.bodies fs b.are))
    (ea ∙ sym eb) (omega (arith, la)) (omega (arith, lb, st)) ha hb in
    let bodies : a.bodies ≡ b.bodies = a.frames.bodies_are ∙ (ap all_bodies same.batches ∙ sym b.frames.bodies_are) in
    let ends : a.behind ≡ b.behind = after_of bytes s es end a ∙ (ap (λ (z : List BatchView). length (flat_map frame_bytes z)) same.batches ∙ sym (after_of bytes t fs last b)) in
    record {
      same_start = st;
      same_edits = one_list b.bodies es fs (subst (λ (z : List (List ℕ)). AreRecords z es) bodies a.are) b.are;
      same_end = omega (arith, a.end_is, b.end_is, ends);
    }
