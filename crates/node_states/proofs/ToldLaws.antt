-- What is told of the bytes of a report.
use Rattle.std.proofs.Common.{ℕ, ◌≡◌, List, Result, Ok}
use Rattle.mesh.specs.Agree.{Agrees}
use Rattle.mesh.specs.Laws.{OrderIsRun, OrderIsSafe}
use Rattle.report_judge.specs.declared.answer.Lists.{Lists}
use Rattle.report_judge.specs.Reads.{IsReadAs}
use Rattle.report_judge.specs.declared.judgement.Finding.{Finding}
use Rattle.report_judge.specs.declared.judgement.Judgement.{Judgement}
use Rattle.report_judge.specs.declared.judgement.Judgement.TheVariants as judgement
use Rattle.report_judge.specs.Judged.{OfAgreeing, OfDisagreeing, OfPlace, JudgesLists}
use Rattle.report_judge.proofs.Judgements.{judged, placed}
use Rattle.node_states.specs.Texts.{states_text}
use Rattle.node_states.specs.Laws.{LinesStandOnce}
use Rattle.node_states.specs.Told.{OfStates}

pub agreeing : OrderIsRun → OrderIsSafe → LinesStandOnce → (bytes : List ℕ) (lists : Lists) (text : List ℕ) → IsReadAs bytes lists → Agrees lists.mesh → text ≡ states_text lists.mesh lists.ends
    → OfStates bytes text × OfAgreeing bytes
agreeing run safe once bytes lists text of a e =
    (record { lists = lists; is_read = of; agrees = a; is_text = e; once = λ i l. once lists.mesh i a l }, record { lists = lists; is_read = of; agrees = a; run = run lists.mesh a; safe = safe lists.mesh a })

pub disagreeing : OrderIsRun → OrderIsSafe → (bytes : List ℕ) (lists : Lists) (found : Finding) → IsReadAs bytes lists → JudgesLists lists (judgement.Disagrees found)
    → OfDisagreeing bytes found.part × OfPlace bytes found
disagreeing run safe bytes lists found of d =
    let r : Result Judgement (Unit {0}) = Ok (judgement.Disagrees found) in
    (judged run safe bytes lists r of d, placed bytes lists r of d)

pub ruleset told = (agreeing, disagreeing)
