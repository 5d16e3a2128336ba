-- What was asked, as an object.
use Rattle.std.specs.Prelude.{ℕ, List, ◌++◌, length, codes}
use Rattle.journal_core.specs.Views.{HeadView}
use Rattle.journal_core.specs.declared.cut.Cut.{Cut}
use Rattle.journal_core.specs.declared.cut.Cut.TheVariants as cut
use Rattle.journal_core.specs.declared.request.Request.{Request}
use Rattle.journal_core.specs.declared.request.Request.TheVariants as request
use Rattle.journal_history.specs.declared.stop.Stop.{Stop}
use Rattle.journal_history.specs.declared.stop.Stop.TheVariants as stop
use Rattle.journal_history.specs.declared.node_ask.NodeAsk.{NodeAsk}
use Rattle.journal_history.specs.declared.node_ask.NodeAsk.TheVariants as ask
use Rattle.node_states.specs.Fields.{number_text, word_text, kind_text, closed}

-- the kind of a request, and who asks
unfoldable pub headed : List ℕ → HeadView → List ℕ
headed word h = kind_text word ++ (number_text (codes "epoch") h.epoch ++ (number_text (codes "serial") h.serial ++ number_text (codes "committed") h.committed))

unfoldable pub request_text : Request → List ℕ
request_text request.State = kind_text (codes "state") ++ closed
request_text (request.NewEpoch epoch) = kind_text (codes "new") ++ (number_text (codes "epoch") epoch ++ closed)
request_text (request.Start head start) = headed (codes "start") head ++ (number_text (codes "start") start ++ closed)
request_text (request.Journal head start batch) =
    headed (codes "journal") head ++ (number_text (codes "start") start ++ (number_text (codes "first") batch.first ++ (number_text (codes "edits") (length batch.bodies) ++ closed)))
request_text (request.Finalize head start end) = headed (codes "finalize") head ++ (number_text (codes "start") start ++ (number_text (codes "end") end ++ closed))
request_text (request.Prepare head start) = headed (codes "prepare") head ++ (number_text (codes "start") start ++ closed)
request_text (request.Fetch head start from) = headed (codes "fetch") head ++ (number_text (codes "start") start ++ (number_text (codes "from") from ++ closed))
request_text (request.Accept head batch) =
    headed (codes "accept") head ++ (number_text (codes "start") batch.first ++ (number_text (codes "edits") (length batch.bodies) ++ closed))
request_text (request.Purge head min) = headed (codes "purge") head ++ (number_text (codes "min") min ++ closed)
request_text (request.Read from) = kind_text (codes "read") ++ (number_text (codes "from") from ++ closed)
request_text request.Manifest = kind_text (codes "manifest") ++ closed

abbrev pub choice_word : Cut → List ℕ
choice_word cut.Old = codes "old"
choice_word cut.New = codes "new"
choice_word cut.A5 = codes "a5"

unfoldable pub arming_text : ℕ → Stop → List ℕ
arming_text calls (stop.Effects keep) = kind_text (codes "stop") ++ (number_text (codes "calls") calls ++ (number_text (codes "keep") keep ++ closed))
arming_text calls (stop.DiskCalls made choice) =
    kind_text (codes "cut") ++ (number_text (codes "calls") calls ++ (number_text (codes "made") made ++ (word_text (codes "choice") (choice_word choice) ++ closed)))

unfoldable pub ask_text : NodeAsk → List ℕ
ask_text (ask.Act late r) = request_text r
ask_text ask.Kill = kind_text (codes "kill") ++ closed
ask_text ask.Restart = kind_text (codes "restart") ++ closed
ask_text (ask.Arm calls s) = arming_text calls s
