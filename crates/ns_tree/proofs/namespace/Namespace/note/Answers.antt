use Rattle.std.proofs.Common.{◌≡◌, sym, subst, arith, List, ap, refl}
use Rattle.ns_tree.specs.declared.inode.Noted.{Noted}
use Rattle.ns_tree.specs.Space.{Space}
use Rattle.ns_tree.specs.Places.{IsTree}
use Rattle.ns_tree.proofs.Noting.{sound_noted}
use Rattle.ns_tree.proofs.namespace.Namespace.note.Goals as goal

pub invariant_of-self : goal.invariant_of-self
invariant_of-self c =
    let calls : c.self.inside.calls ≡ c.args.self.now.calls = ap (λ (s : Space). s.calls) c.self.view_is in
    record {
      sound = subst (λ (ns : List Noted). IsTree (record { pairs = c.self.inside.rows; calls = ns })) (sym c.note.ensures)
          (sound_noted (record { pairs = c.self.inside.rows; calls = c.self.inside.calls }) c.args.call c.args.txid c.self.invariant.sound
          (rw calls c.requires.new) c.requires.positive (omega (arith, c.ranges.txid.fits)) (rw calls c.requires.later));
    }

pub returns : goal.returns
returns c = rw (c.note.ensures, ← c.self.view_is) refl
