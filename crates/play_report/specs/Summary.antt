-- The summary of a play: how many results there are of each kind, and how far its actors came.
use Rattle.std.specs.Prelude.{ℕ, ◌+◌, ◌/◌, List, [], ◌∷◌, ◌++◌, Option, Some, None, Bool, true, false, ◌==◌, ◌&&◌, ◌||◌, nat_lt, nat_le, max, map}
use Rattle.std.specs.Prelude.{codes, decimal, sum_by, count_by, slice_index_or, if◌then◌else◌}
use Rattle.std.specs.List.{flat_map, fold, starts_with}
use Rattle.std.specs.Str.{bytes_eq}
use Rattle.journal_core.specs.Views.{HeadView, BatchView, last_txid}
use Rattle.journal_core.specs.declared.request.Request.{Request}
use Rattle.journal_core.specs.declared.request.Request.TheVariants.{Journal}
use Rattle.journal_core.specs.declared.reply.Reply.TheVariants.{Ok}
use Rattle.journal_history.specs.declared.record.Record.{Record}
use Rattle.journal_history.specs.declared.record.Record.TheVariants.{Call, Outcome}
use Rattle.journal_history.specs.declared.record.Told.{Told}
use Rattle.journal_history.specs.declared.record.Told.TheVariants.{Reply}
use Rattle.ns_tree.specs.declared.end.LastSpace.{LastSpace}
use Rattle.ns_tree.specs.declared.end.End.{End}
use Rattle.mesh.specs.declared.whole.Mesh.{Mesh}
use Rattle.play_report.specs.declared.tally.Tally.{Tally}
use Rattle.play_report.specs.declared.results.ResultKind.{ResultKind}
use Rattle.play_report.specs.declared.results.ResultKind.TheVariants.{Edits, Acked, Refused, Aborted, Inactive, TooLong, Takeovers}

-- ## Results
abbrev pub begins : List ℕ → List ℕ → Bool
begins text front = starts_with (λ a b. a == b) text front

-- what came of an edit; one that repeats a client's call is counted as an edit alone
abbrev pub is_of_edit : List ℕ → Bool
is_of_edit text =
    begins text (codes "acked ") || begins text (codes "refused ") || begins text (codes "aborted ") || begins text (codes "inactive") || begins text (codes "toolong ")
    || begins text (codes "repeated ")

abbrev pub is_digit : ℕ → Bool
is_digit b = nat_le 48 b && nat_le b 57

-- a takeover with an epoch
abbrev pub is_taken : List ℕ → Bool
is_taken text = begins text (codes "takeover ") && is_digit (slice_index_or text 9 0)

abbrev pub is_of : ResultKind → List ℕ → Bool
is_of Edits text = is_of_edit text
is_of Acked text = begins text (codes "acked ")
is_of Refused text = begins text (codes "refused ")
is_of Aborted text = begins text (codes "aborted ")
is_of Inactive text = begins text (codes "inactive")
is_of TooLong text = begins text (codes "toolong ")
is_of Takeovers text = is_taken text

-- the line is a result of that kind
abbrev pub is_result : ResultKind → Record → Bool
is_result kind (Outcome text) = is_of kind text
is_result kind _ = false

-- how many results of that kind all records have
abbrev pub results_of : ResultKind → List (List Record) → ℕ
results_of kind records = sum_by (λ lines. count_by (is_result kind) lines) records

-- ## The last txid of a journal round that was done
-- before the first round
abbrev pub no_tally : Tally
no_tally = record { epoch = 0; serial = 0; oks = 0; last = 0 }

abbrev pub oks_with : HeadView → Tally → ℕ
oks_with head t = if (t.epoch == head.epoch) && (t.serial == head.serial) then t.oks + 1 else 1

-- done once more than half of the nodes answered with Ok
abbrev pub last_with : ℕ → ℕ → BatchView → Tally → ℕ
last_with nodes oks batch t = if nat_lt (nodes / 2) oks then max t.last (last_txid batch) else t.last

unfoldable pub ok_heard : ℕ → HeadView → BatchView → Tally → Tally
ok_heard nodes head batch t =
    record { epoch = head.epoch; serial = head.serial; oks = oks_with head t; last = last_with nodes (oks_with head t) batch t }

abbrev pub is_ok : Told → Bool
is_ok (Reply Ok) = true
is_ok _ = false

abbrev pub request_heard : ℕ → Request → Tally → Tally
request_heard nodes (Journal head start batch) t = ok_heard nodes head batch t
request_heard nodes _ t = t

-- the calls of a round stand together in a record
abbrev pub tally_record : ℕ → Tally → Record → Tally
tally_record nodes t (Call node request told) = if is_ok told then request_heard nodes request t else t
tally_record nodes t _ = t

unfoldable pub last_in : ℕ → List Record → ℕ
last_in nodes lines = (fold (tally_record nodes) no_tally lines).last

abbrev pub last_done : Mesh → ℕ
last_done mesh = fold max 0 (map (last_in mesh.nodes) mesh.records)

-- ## The standby
abbrev pub position_in : Option LastSpace → ℕ
position_in None = 0
position_in (Some last) = last.position

-- the position of the first actor of that name, or 0 where there is none or it has no position
abbrev pub position_of : List ℕ → List End → ℕ
position_of name [] = 0
position_of name (e ∷ ends) = if bytes_eq e.name name then position_in e.last else position_of name ends

-- ## The summary
abbrev pub word_of : ResultKind → List ℕ
word_of Edits = codes "edits"
word_of Acked = codes "acked"
word_of Refused = codes "refused"
word_of Aborted = codes "aborted"
word_of Inactive = codes "inactive"
word_of TooLong = codes "toolong"
word_of Takeovers = codes "takeovers"

abbrev pub all_kinds : List ResultKind
all_kinds = Edits ∷ Acked ∷ Refused ∷ Aborted ∷ Inactive ∷ TooLong ∷ Takeovers ∷ []

abbrev pub summary_line : List ℕ → ℕ → List ℕ
summary_line word number = word ++ 32 ∷ decimal number ++ 10 ∷ []

unfoldable pub kind_line : List (List Record) → ResultKind → List ℕ
kind_line records kind = summary_line (word_of kind) (results_of kind records)

unfoldable pub summary_text : Mesh → List End → List ℕ
summary_text mesh ends =
    summary_line (codes "nodes") mesh.nodes ++ flat_map (kind_line mesh.records) all_kinds ++ summary_line (codes "last") (last_done mesh)
    ++ summary_line (codes "standby") (position_of (codes "s") ends)
