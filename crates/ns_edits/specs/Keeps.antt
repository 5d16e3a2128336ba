-- What a replay keeps of every namespace, and what it is a function of.
use Rattle.std.specs.Prelude.{◌≡◌, ℕ, ◌+◌, ◌<◌, List, ◌++◌, length, Some}
use Rattle.std.specs.List.{AllByRecursion}
use Rattle.edit_ops.specs.Grammar.{IsEdit, IsRecord}
use Rattle.edit_ops.specs.Records.{EditView, record_of}
use Rattle.ns_tree.specs.declared.inode.Row.{Row}
use Rattle.ns_tree.specs.Space.{Space, IsSpace}
use Rattle.ns_edits.specs.Decoded.{decoded}
use Rattle.ns_edits.specs.Calls.{CallsApart}
use Rattle.ns_edits.specs.Replay.{entered, goes_on, replay_from, replay, IsReplay}

-- ## Bodies
abbrev pub AreBytes : List ℕ → Type 0
AreBytes = AllByRecursion (λ b. b < 256)

-- a record decodes to its edit, and only a record decodes
abbrev pub RecordsDecode : Type 0
RecordsDecode = (e : EditView) → IsEdit e → decoded (record_of e) ≡ Some e

abbrev pub OnlyRecordsDecode : Type 0
OnlyRecordsDecode = (body : List ℕ) (e : EditView) → AreBytes body → decoded body ≡ Some e → IsRecord body e

-- ## Namespaces
-- an entry of any kind keeps a namespace sound: its pairs in the order of a walk, each within its
-- grammar and limits under a directory that is there, and its retry list as it must be
abbrev pub EntriesStaySound : Type 0
EntriesStaySound = (t : ℕ) (body : List ℕ) (s z : Space) → AreBytes body → IsSpace t s → entered (t + 1) body s ≡ Some z → IsSpace (t + 1) z

-- and so does a log
abbrev pub SpacesStaySound : Type 0
SpacesStaySound =
    (t : ℕ) (bodies : List (List ℕ)) (s z : Space) → AllByRecursion AreBytes bodies → IsSpace t s → replay_from t bodies s ≡ Some z
    → IsSpace (t + length bodies) z

-- ## Logs
-- a log replays as its front does, and then the rest
abbrev pub ReplaySplits : Type 0
ReplaySplits = (xs ys : List (List ℕ)) → replay (xs ++ ys) ≡ goes_on (replay xs) (replay_from (length xs) ys)

-- what a log replays to is determined by it
abbrev pub OneReplay : Type 0
OneReplay = (log : List (List ℕ)) (rows others : List Row) → IsReplay log rows → IsReplay log others → rows ≡ others

abbrev pub ReplayedCallsApart : Type 0
ReplayedCallsApart = (log : List (List ℕ)) (s : Space) → replay log ≡ Some s → CallsApart log
