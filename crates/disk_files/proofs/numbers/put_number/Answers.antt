use Rattle.std.proofs.Common.{◌≡◌, ◌≤◌, sym, subst, List, ℕ, length}
use Rattle.std.specs.Prelude.{None}
use Rattle.base_files.specs.Puts.{temporary}
use Rattle.disk_files.proofs.NumberLaws.{number_does, number_cut, number_appends, number_files, named_effect, named_cut}
use Rattle.disk_segment.proofs.Counts.{counted_put}
use Rattle.disk_files.proofs.Names.{number_short}
use Rattle.disk_files.proofs.numbers.put_number.Goals as goal

pub put-requires-clause-short : goal.put-requires-clause-short
put-requires-clause-short g c = subst (λ (l : List ℕ). length l ≤ 60) (sym c.name.ensures) (number_short c.args.number)

pub put-requires-clause-absent : goal.put-requires-clause-absent
put-requires-clause-absent g c = λ t. subst (λ (l : List ℕ). (g.D.DiskModel.view c.args.disk.now).seen (temporary l) ≡ None) (sym c.name.ensures) (c.requires.absent t)

pub returns-clause-effect : goal.returns-clause-effect
returns-clause-effect g c = λ t s holds.
    number_does c.args.number c.args.value c.requires.value _ _ s holds _ (named_effect _ _ _ _ _ _ c.name.ensures (c.put.ensures.put t))

pub returns-clause-appends : goal.returns-clause-appends
returns-clause-appends g c = λ t. number_appends c.args.number c.args.value c.requires.value _ _ _
    (g.met.D.Disk.sound _ (c.put.ensures.call.tells.0 t)) (named_effect _ _ _ _ _ _ c.name.ensures (c.put.ensures.put t))

pub returns-clause-files : goal.returns-clause-files
returns-clause-files g c = λ t. number_files c.args.number c.args.value c.requires.value _ _ _ (named_effect _ _ _ _ _ _ c.name.ensures (c.put.ensures.put t))

pub returns-clause-counts : goal.returns-clause-counts
returns-clause-counts g c = counted_put _ _ _ _ _ _ _ c.put.ensures.cut

pub returns-clause-cut : goal.returns-clause-cut
returns-clause-cut g c = λ t s holds.
    number_cut c.args.number c.args.value c.requires.value _ _ s holds _ _ _ _ t (named_cut _ _ _ _ _ _ _ _ c.name.ensures c.put.ensures.cut)
