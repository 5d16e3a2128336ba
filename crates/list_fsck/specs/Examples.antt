-- The folder of a known session of a node, and its report.
use Rattle.std.specs.Prelude.{ℕ, List, [], ◌∷◌, ◌++◌, Option, Some, None, codes, if◌then◌else◌}
use Rattle.std.specs.Str.{bytes_eq}
use Rattle.base_disk.specs.Files.{Files}
use Rattle.list_fsck.specs.declared.rule.Rule.TheVariants as rule
use Rattle.list_fsck.specs.declared.finding.Finding.{Finding}
use Rattle.list_fsck.specs.Reports.{Verdict}

abbrev pub verdict : List ℕ → Option Finding → Verdict
verdict name found = record { name = name; found = found }

-- the number 2 as a node writes it
abbrev pub two : List ℕ
two = codes "0000000000000000002" ++ 10 ∷ []

-- the file of the segment from txid 2 on, which epoch 2 began: a header, the frame of the one body
-- 18, and a blank seal
abbrev pub segment_file : List ℕ
segment_file =
    81 ∷ 74 ∷ 83 ∷ 71 ∷ 0 ∷ 0 ∷ 0 ∷ 1 ∷ 0 ∷ 0 ∷ 0 ∷ 0 ∷ 0 ∷ 0 ∷ 0 ∷ 2 ∷ 0 ∷ 0 ∷ 0 ∷ 0 ∷ 0 ∷ 0 ∷ 0 ∷ 2
    ∷ 165 ∷ 0 ∷ 0 ∷ 0 ∷ 15 ∷ 0 ∷ 0 ∷ 0 ∷ 0 ∷ 0 ∷ 0 ∷ 0 ∷ 2 ∷ 0 ∷ 0 ∷ 0 ∷ 1 ∷ 0 ∷ 1 ∷ 24 ∷ 0 ∷ []

-- the folder, with the segment under this name
abbrev pub folder : List ℕ → Files
folder name other =
    if bytes_eq other (codes "committed-txid") then Some two
    else if bytes_eq other name then Some segment_file
    else if bytes_eq other (codes "last-promised-epoch") then Some two
    else if bytes_eq other (codes "last-writer-epoch") then Some two
    else None

abbrev pub clean_name : List ℕ
clean_name = codes "edits_0000000000000000002-0000000000000000002"

-- the name of a segment that ends at 3
abbrev pub other_name : List ℕ
other_name = codes "edits_0000000000000000002-0000000000000000003"

abbrev pub clean : List Verdict
clean = verdict (codes "committed-txid") None ∷ verdict clean_name None ∷ verdict (codes "last-promised-epoch") None ∷ verdict (codes "last-writer-epoch") None ∷ []

abbrev pub renamed : List Verdict
renamed =
    verdict (codes "committed-txid") None ∷ verdict other_name (Some record { rule = rule.Last; first = 3; second = 2 })
    ∷ verdict (codes "last-promised-epoch") None ∷ verdict (codes "last-writer-epoch") None ∷ []
