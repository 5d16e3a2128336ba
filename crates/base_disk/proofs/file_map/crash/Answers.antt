use Rattle.std.proofs.Common.{rules}
use Rattle.base_disk.proofs.Retains.{retained}
use Rattle.base_disk.proofs.file_map.crash.Goals as goal

pub returns-clause-left : goal.returns-clause-left
returns-clause-left c = λ name. (retained _ c.args.choice _ (λ k v b w g t.
    (record { left = search rules; rests = search rules; image = search rules }, search rules)) name _ _ c.retain.ensures.was_ordered
    c.retain.ensures.filtered).left

pub returns-clause-image : goal.returns-clause-image
returns-clause-image c = λ name. (retained _ c.args.choice _ (λ k v b w g t.
    (record { left = search rules; rests = search rules; image = search rules }, search rules)) name _ _ c.retain.ensures.was_ordered
    c.retain.ensures.filtered).image

pub returns-clause-rests : goal.returns-clause-rests
returns-clause-rests c = λ name. (retained _ c.args.choice _ (λ k v b w g t.
    (record { left = search rules; rests = search rules; image = search rules }, search rules)) name _ _ c.retain.ensures.was_ordered
    c.retain.ensures.filtered).rests
