-- A worked mesh, and its states.
use Rattle.std.specs.Prelude.{ℕ, List, [], ◌∷◌, ◌++◌, codes, Some}
use Rattle.std.specs.List.{flat_map}
use Rattle.journal_core.specs.declared.request.Request.{Request}
use Rattle.journal_core.specs.declared.request.Request.TheVariants as request
use Rattle.journal_core.specs.declared.reply.Reply.{Reply}
use Rattle.journal_core.specs.declared.reply.Reply.TheVariants as reply
use Rattle.journal_core.specs.declared.refusal.Refusal.TheVariants as refusal
use Rattle.journal_history.specs.declared.record.Record.TheVariants as record_
use Rattle.journal_history.specs.declared.record.Told.TheVariants as told
use Rattle.mesh.specs.declared.whole.Mesh.{Mesh}
use Rattle.mesh.specs.Examples.{listed, called, promised, first_head, batch_at, logged}

-- the requests of the first actor, and what its last one is answered
abbrev pub begun : Request
begun = request.Start (first_head 1 0) 1

abbrev pub opened : Request
opened = request.Journal (first_head 2 0) 1 (batch_at 1 ((24 ∷ []) ∷ []))

abbrev pub logged_late : Request
logged_late = request.Journal (first_head 3 1) 1 (batch_at 2 logged)

abbrev pub fenced_off : Reply
fenced_off = reply.Refused (refusal.EpochRefused 2)

-- One node. The first actor takes over; then the node promises a higher epoch to the second one, of
-- whose first call nothing came, and which never hears of the promise; and the first one is fenced.
abbrev pub fenced : Mesh
fenced =
    record {
      nodes = 1;
      histories =
          (listed 0 request.State (reply.State 0) ∷ listed 0 (request.NewEpoch 1) promised ∷ listed 0 begun reply.Ok ∷ listed 0 opened reply.Ok
          ∷ listed 1 request.State (reply.State 1) ∷ listed 1 (request.NewEpoch 2) (reply.NewEpoch (Some 1)) ∷ listed 0 logged_late fenced_off ∷ [])
          ∷ [];
      records =
          (called 1 request.State (reply.State 0) ∷ called 1 (request.NewEpoch 1) promised ∷ called 1 begun reply.Ok ∷ called 1 opened reply.Ok
          ∷ record_.Outcome (codes "takeover 1 1") ∷ called 1 logged_late fenced_off ∷ [])
          ∷ (record_.Call 1 request.State told.Dropped ∷ called 1 request.State (reply.State 1) ∷ record_.Call 1 (request.NewEpoch 2) told.Muted ∷ [])
          ∷ [] ∷ [];
      plan = [] ∷ [] ∷ [];
    }

abbrev pub as_lines : List (List ℕ) → List ℕ
as_lines lines = flat_map (λ line. line ++ 10 ∷ []) lines

abbrev pub fenced_states : List ℕ
fenced_states =
    as_lines
    (codes "{\"event\":0,\"nodes\":1,\"actors\":[\"a\",\"b\"]}"
    ∷ codes "{\"event\":1,\"caller\":\"b\",\"way\":\"dropped\",\"node\":1,\"ask\":{\"is\":\"state\"}}"
    ∷ codes "{\"event\":2,\"caller\":\"a\",\"way\":\"heard\",\"node\":1,\"ask\":{\"is\":\"state\"},\"answer\":{\"is\":\"state\",\"promised\":0}}"
    ∷ (codes "{\"event\":3,\"caller\":\"a\",\"way\":\"heard\",\"node\":1,\"ask\":{\"is\":\"new\",\"epoch\":1},\"answer\":{\"is\":\"new\",\"newest\":-1}"
    ++ codes ",\"state\":{\"promised\":1,\"writer\":0,\"committed\":0,\"known\":0,\"serial\":0,\"open\":-1,\"up\":true}}")
    ∷ (codes "{\"event\":4,\"caller\":\"a\",\"way\":\"heard\",\"node\":1,\"ask\":{\"is\":\"start\",\"epoch\":1,\"serial\":1,\"committed\":0,\"start\":1}"
    ++ codes ",\"answer\":{\"is\":\"ok\"},\"state\":{\"promised\":1,\"writer\":1,\"committed\":0,\"known\":0,\"serial\":1,\"open\":1,\"up\":true}"
    ++ codes ",\"segment\":{\"start\":1,\"end\":0,\"epoch\":1,\"final\":false,\"accepted\":false}}")
    ∷ (codes "{\"event\":5,\"caller\":\"a\",\"way\":\"heard\",\"node\":1,\"ask\":{\"is\":\"journal\",\"epoch\":1,\"serial\":2,\"committed\":0,\"start\":1"
    ++ codes ",\"first\":1,\"edits\":1},\"answer\":{\"is\":\"ok\"},\"state\":{\"promised\":1,\"writer\":1,\"committed\":0,\"known\":0,\"serial\":2"
    ++ codes ",\"open\":1,\"up\":true},\"segment\":{\"start\":1,\"end\":1,\"epoch\":1,\"final\":false,\"accepted\":false}}")
    ∷ codes "{\"event\":6,\"caller\":\"a\",\"way\":\"result\",\"result\":\"takeover 1 1\"}"
    ∷ codes "{\"event\":7,\"caller\":\"b\",\"way\":\"heard\",\"node\":1,\"ask\":{\"is\":\"state\"},\"answer\":{\"is\":\"state\",\"promised\":1}}"
    ∷ (codes "{\"event\":8,\"caller\":\"b\",\"way\":\"muted\",\"node\":1,\"ask\":{\"is\":\"new\",\"epoch\":2},\"answer\":{\"is\":\"new\",\"newest\":1}"
    ++ codes ",\"state\":{\"promised\":2,\"writer\":1,\"committed\":0,\"known\":0,\"serial\":0,\"open\":-1,\"up\":true}}")
    ∷ (codes "{\"event\":9,\"caller\":\"a\",\"way\":\"heard\",\"node\":1,\"ask\":{\"is\":\"journal\",\"epoch\":1,\"serial\":3,\"committed\":1,\"start\":1"
    ++ codes ",\"first\":2,\"edits\":1},\"answer\":{\"is\":\"refused\",\"cause\":\"EpochRefused\",\"number\":2}}")
    ∷ [])
