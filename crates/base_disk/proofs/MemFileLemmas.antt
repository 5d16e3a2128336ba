-- One change more of a file in memory.
use Rattle.std.proofs.Common.{◌≡◌, ℕ, ◌+◌, ◌-◌, ◌≤◌, List, [], ◌∷◌, ◌++◌, refl, ap, sym, ◌∙◌, subst, arith, take, drop, length, length-append, length-take, length-drop}
use Rattle.std.specs.Prelude.{Vec, map, min, max, Option, Some, None, Bool, true, false, if◌then◌else◌}
use Rattle.std.specs.declared.alloc.Global.{Global}
use Rattle.base_disk.specs.Files.{IsTorn, Torn}
use Rattle.base_disk.specs.FileView.{FileView, Allows, Wrote, overwritten, written}
use Rattle.base_disk.specs.Change.{Stage, content, undo, undone, step_of, CanUndo, AllUndo, Leads}
use Rattle.base_disk.specs.MemFile.{stage_of, stable_of, file_view, IsKept}
use Rattle.base_disk.specs.declared.mem_file.MemFile.TheInside.{Inside}
use Rattle.base_disk.specs.declared.change.Change.{Change}
use Rattle.base_disk.specs.declared.change.Change.TheVariants.{Write, Cut}
use Rattle.base_disk.proofs.Bytes.{done_is_torn, take-overwritten-more, put_back, length-overwritten}

pub undone-push : (cs : List Change) (c : Change) (s : Stage) → undone (cs ++ c ∷ []) s ≡ undone cs (undo c s)
undone-push [] c s = refl
undone-push (d ∷ cs) c s = ap (λ (t : Stage). undo d t) (undone-push cs c s)

pub AllUndo-push : (cs : List Change) (c : Change) (s : Stage) → AllUndo cs (undo c s) → CanUndo c s → s.end ≤ length s.bytes → AllUndo (cs ++ c ∷ []) s
AllUndo-push [] c s all can ends = (can, ends)
AllUndo-push (d ∷ cs) c s all can ends = (subst (λ (t : Stage). CanUndo d t) (sym (undone-push cs c s)) all.0, AllUndo-push cs c s all.1 can ends)

pub AllUndo-pop : (cs : List Change) (c : Change) (s : Stage) → AllUndo (cs ++ c ∷ []) s → CanUndo c s → (undo c s).end ≤ length (undo c s).bytes → AllUndo cs (undo c s)
AllUndo-pop [] c s all can ends = ends
AllUndo-pop (d ∷ cs) c s all can ends = (subst (λ (t : Stage). CanUndo d t) (undone-push cs c s) all.0, AllUndo-pop cs c s all.1 can ends)

pub CanUndo-last : (cs : List Change) (c : Change) (s : Stage) → AllUndo (cs ++ c ∷ []) s → CanUndo c s
CanUndo-last [] c s all = all.0
CanUndo-last (d ∷ cs) c s all = CanUndo-last cs c s all.1

pub Leads-push : (first : Option (List ℕ)) (cs : List Change) (c : Change) (s : Stage) → Leads first cs (undo c s)
    → Allows (step_of c) (Some (content (undo c s))) (Some (content s)) → Leads first (cs ++ c ∷ []) s
Leads-push first [] c s leads allows = (subst (λ (x : Option (List ℕ)). Allows (step_of c) x (Some (content s))) (sym leads) allows, refl)
Leads-push first (d ∷ cs) c s leads allows =
    let e : undone (cs ++ c ∷ []) s ≡ undone cs (undo c s) = undone-push cs c s in (
      subst (λ (t : Stage). Allows (step_of d) first (Some (content t))) (sym e) leads.0,
      subst (λ (t : Stage). Leads (Some (content t)) (cs ++ c ∷ []) s) (sym e) (Leads-push (Some (content (undone cs (undo c s)))) cs c s leads.1 allows),
    )

pub map-step-push : (cs : List Change) (c : Change) → map step_of (cs ++ c ∷ []) ≡ map step_of cs ++ step_of c ∷ []
map-step-push [] c = refl
map-step-push (d ∷ cs) c = ap (λ l. step_of d ∷ l) (map-step-push cs c)

stable_pushed : (is_new : Bool) (cs : List Change) (c : Change) (s t : Stage) → undo c t ≡ s
    → (if is_new then None else Some (content (undone (cs ++ c ∷ []) t))) ≡ (if is_new then None else Some (content (undone cs s)))
stable_pushed true cs c s t back = refl
stable_pushed false cs c s t back = ap (λ (u : Stage). Some (content u)) (undone-push cs c t ∙ ap (λ (u : Stage). undone cs u) back)

-- a file with one change more, which can be taken back
module _ (f g : Inside) (c : Change) (kept : IsKept f) (items : g.changes.items ≡ f.changes.items ++ c ∷ []) (age : g.is_new ≡ f.is_new) (back : undo c (stage_of g) ≡ stage_of f) where
  stable : stable_of g ≡ stable_of f
  stable =
      ap (λ (cs : List Change). if g.is_new then None else Some (content (undone cs (stage_of g)))) items
      ∙ ap (λ (b : Bool). if b then None else Some (content (undone (f.changes.items ++ c ∷ []) (stage_of g)))) age
      ∙ stable_pushed f.is_new f.changes.items c (stage_of f) (stage_of g) back

  pub pushed_kept : CanUndo c (stage_of g) → g.end ≤ length g.bytes.items → Allows (step_of c) (Some (content (stage_of f))) (Some (content (stage_of g))) → IsKept g
  pushed_kept can ends allows = record {
    ends = ends;
    undo = subst (λ (cs : List Change). AllUndo cs (stage_of g)) (sym items)
        (AllUndo-push f.changes.items c (stage_of g) (subst (λ (s : Stage). AllUndo f.changes.items s) (sym back) kept.undo) can ends);
    leads = subst (λ (x : Option (List ℕ)). Leads x g.changes.items (stage_of g)) (sym stable)
        (subst (λ (cs : List Change). Leads (stable_of f) cs (stage_of g)) (sym items)
        (Leads-push (stable_of f) f.changes.items c (stage_of g)
        (subst (λ (s : Stage). Leads (stable_of f) f.changes.items s) (sym back) kept.leads)
        (subst (λ (s : Stage). Allows (step_of c) (Some (content s)) (Some (content (stage_of g)))) (sym back) allows)));
  }

  pub pushed_view : (now : List ℕ) → content (stage_of g) ≡ now → file_view g ≡ record { now = now; stable = (file_view f).stable; steps = (file_view f).steps ++ step_of c ∷ [] }
  pushed_view now is = λ i. record { now = is i; stable = stable i; steps = (ap (λ (cs : List Change). map step_of cs) items ∙ map-step-push f.changes.items c) i }

-- a file that was written
module _ (f g : Inside) (at len over : ℕ) (bytes : List ℕ) (before : Vec ℕ Global) (kept : IsKept f) (le : at ≤ length (content (stage_of f))) (is_len : len ≡ length bytes)
    (is_over : over ≡ min (length bytes) (length f.bytes.items - at)) (is_before : before.items ≡ take over (drop at f.bytes.items))
    (items : g.changes.items ≡ f.changes.items ++ Write at len before (length f.bytes.items) f.end ∷ []) (age : g.is_new ≡ f.is_new)
    (buffer : g.bytes.items ≡ overwritten at bytes f.bytes.items) (end : g.end ≡ max f.end (at + length bytes)) where
  at_end : at ≤ f.end
  at_end = omega (arith, le, length-take f.end f.bytes.items)

  at_length : at ≤ length f.bytes.items
  at_length = omega (arith, le, length-take f.end f.bytes.items)

  back : undo (Write at len before (length f.bytes.items) f.end) (stage_of g) ≡ stage_of f
  back = λ i. record {
    bytes = (ap (λ (l : List ℕ). take (length f.bytes.items) (take at l ++ before.items ++ drop (at + length before.items) l)) buffer
        ∙ put_back at over bytes before.items f.bytes.items at_length is_over is_before) i;
    end = f.end;
  }

  long : length g.bytes.items ≡ max (length f.bytes.items) (at + length bytes)
  long = ap (λ (l : List ℕ). length l) buffer ∙ length-overwritten at bytes f.bytes.items at_length

  now : content (stage_of g) ≡ overwritten at bytes (content (stage_of f))
  now = ap (λ (n : ℕ). take n g.bytes.items) end ∙ ap (λ (l : List ℕ). take (max f.end (at + length bytes)) l) buffer ∙ take-overwritten-more at bytes f.bytes.items f.end at_end kept.ends

  can : CanUndo (Write at len before (length f.bytes.items) f.end) (stage_of g)
  can =
      let short : length before.items ≤ over = omega (arith, ap (λ (l : List ℕ). length l) is_before, length-take over (drop at f.bytes.items)) in
      let ends : f.end ≤ length f.bytes.items = kept.ends in
      (omega (arith, long, is_over, at_length), omega (arith, long), ends)

  allows : Torn at len (Some (content (stage_of f))) (Some (content (stage_of g)))
  allows =
      subst (λ (n : ℕ). IsTorn at n (content (stage_of f)) (content (stage_of g))) (sym is_len)
      (subst (λ (l : List ℕ). IsTorn at (length bytes) (content (stage_of f)) l) (sym now) (done_is_torn at bytes (content (stage_of f)) le))

  pub written_kept : IsKept g
  written_kept = let ends : f.end ≤ length f.bytes.items = kept.ends in pushed_kept f g (Write at len before (length f.bytes.items) f.end) kept items age back can (omega (arith, long, end)) allows

  pub written_view : file_view g ≡ written at bytes (file_view f)
  written_view =
      pushed_view f g (Write at len before (length f.bytes.items) f.end) kept items age back (overwritten at bytes (content (stage_of f))) now
      ∙ ap (λ (n : ℕ). let v : FileView = record { now = overwritten at bytes (content (stage_of f)); stable = (file_view f).stable; steps = (file_view f).steps ++ Wrote at n ∷ [] } in v) is_len

-- what a change takes back doesn't go by the end that there was
pub undo-end : (c : Change) (bytes : List ℕ) (e f : ℕ) → undo c (record { bytes = bytes; end = e }) ≡ undo c (record { bytes = bytes; end = f })
undo-end (Write at len before size end) bytes e f = refl
undo-end (Cut to end) bytes e f = refl

pub CanUndo-end : (c : Change) (bytes : List ℕ) (e f : ℕ) → CanUndo c (record { bytes = bytes; end = e }) → CanUndo c (record { bytes = bytes; end = f })
CanUndo-end (Write at len before size end) bytes e f can = can
CanUndo-end (Cut to end) bytes e f can = can

pub undo_ends : (c : Change) (s : Stage) → CanUndo c s → (undo c s).end ≤ length (undo c s).bytes
undo_ends (Write at len before size end) s can =
    let whole : List ℕ = take at s.bytes ++ before.items ++ drop (at + length before.items) s.bytes in
    let long : length whole ≡ length (take at s.bytes ++ before.items) + length (drop (at + length before.items) s.bytes) =
    length-append (take at s.bytes ++ before.items) (drop (at + length before.items) s.bytes) in
    omega (arith, can.0, can.1, can.2, long, length-append (take at s.bytes) before.items, length-take at s.bytes, length-drop (at + length before.items) s.bytes, length-take size whole)
undo_ends (Cut to end) s can = can
