use Rattle.std.proofs.Common.{◌≡◌, ◌∙◌, ◌≤◌, ℕ, List, refl, sym, ap, subst, arith, take, length, length-take}
use Rattle.std.proofs.lemmas.List.{take-take}
use Rattle.base_disk.specs.Files.{IsCut}
use Rattle.base_disk.specs.FileView.{FileView, shortened}
use Rattle.base_disk.specs.declared.change.Change.TheVariants.{Cut}
use Rattle.base_disk.specs.declared.mem_file.MemFile.TheInside.{Inside}
use Rattle.base_disk.proofs.Bytes.{done_is_cut}
use Rattle.base_disk.proofs.MemFileLemmas.{pushed_kept, pushed_view}
use Rattle.base_disk.proofs.mem_file.MemFile.cut.Goals as goal

-- a part of the content is a part of the buffer
part : (to end : ℕ) (bytes now : List ℕ) → take end bytes ≡ now → to ≤ length now → (to ≤ end) × (to ≤ length bytes) × (take to bytes ≡ take to now)
part to end bytes now is le =
    let long : length now ≡ length (take end bytes) = ap (λ (l : List ℕ). length l) (sym is) in
    let short : to ≤ end = omega (arith, long, length-take end bytes) in
    (short, omega (arith, long, length-take end bytes), sym (take-take to end bytes short) ∙ ap (λ (l : List ℕ). take to l) is)

pub invariant_of-self-2 : goal.invariant_of-self-2
invariant_of-self-2 c =
    let f : Inside = c.self.inside in
    let g : Inside = record { bytes = c.self.inside.bytes; end = c.args.to; changes = c.push.new.self; is_new = c.self.inside.is_new } in
    let fits = part c.args.to f.end f.bytes.items c.args.self.now.now (ap (λ (v : FileView). v.now) c.self.view_is) c.requires in
    pushed_kept f g (Cut c.args.to f.end) c.self.invariant c.in_ok-push.ensures.items refl refl c.self.invariant.ends fits.1
    (subst (λ (l : List ℕ). IsCut c.args.to (take f.end f.bytes.items) l) (take-take c.args.to f.end f.bytes.items fits.0) (done_is_cut c.args.to (take f.end f.bytes.items)))

pub returns-clause-ok : goal.returns-clause-ok
returns-clause-ok c =
    let f : Inside = c.self.inside in
    let g : Inside = record { bytes = c.self.inside.bytes; end = c.args.to; changes = c.push.new.self; is_new = c.self.inside.is_new } in
    let fits = part c.args.to f.end f.bytes.items c.args.self.now.now (ap (λ (v : FileView). v.now) c.self.view_is) c.requires in
    pushed_view f g (Cut c.args.to f.end) c.self.invariant c.in_ok-push.ensures.items refl refl (take c.args.to (take f.end f.bytes.items)) (sym (take-take c.args.to f.end f.bytes.items fits.0))
    ∙ ap (λ (v : FileView). shortened c.args.to v) c.self.view_is
