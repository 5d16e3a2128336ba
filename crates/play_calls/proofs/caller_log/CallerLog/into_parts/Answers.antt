use Rattle.std.proofs.Common.{◌≡◌, true, subst}
use Rattle.mesh.specs.Marks.{AreCopied}
use Rattle.play_calls.specs.Logs.{LogView}
use Rattle.play_calls.proofs.LogLaws.{all_copied}
use Rattle.play_calls.proofs.caller_log.CallerLog.into_parts.Goals as goal

pub returns-clause-copied : goal.returns-clause-copied
returns-clause-copied c =
    let P : LogView → Type 0 = λ v. v.whole ≡ true → AreCopied v.marks v.past in
    subst P c.self.view_is (λ w. all_copied _ _ _ (c.self.invariant w).1)
