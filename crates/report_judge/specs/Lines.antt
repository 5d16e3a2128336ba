-- What the parts of a report's line say.
use Rattle.std.specs.Prelude.{ℕ, Bool, true, false, List, [], ◌∷◌, drop, Option, Some, None, if◌then◌else◌, codes}
use Rattle.std.specs.Str.{bytes_eq}
use Rattle.base_words.specs.Words.{words_of}
use Rattle.journal_core.specs.declared.cut.Cut.{Cut}
use Rattle.journal_core.specs.declared.request.Request.{Request}
use Rattle.journal_core.specs.declared.reply.Reply.{Reply}
use Rattle.journal_text.specs.declared.request_line.ReadRequest.{ReadRequest}
use Rattle.journal_text.specs.declared.request_line.ReadRequest.TheVariants.{Read}
use Rattle.journal_text.specs.Reading.{number_in, reading_of}
use Rattle.journal_text.specs.ReplyReading.{head_number, is_over, reply_of}
use Rattle.journal_history.specs.declared.stop.Stop.TheVariants as stop
use Rattle.journal_history.specs.declared.node_ask.NodeAsk.{NodeAsk}
use Rattle.journal_history.specs.declared.node_ask.NodeAsk.TheVariants as ask
use Rattle.journal_history.specs.declared.node_ask.NodeAnswer.{NodeAnswer}
use Rattle.journal_history.specs.declared.node_ask.NodeAnswer.TheVariants as answer
use Rattle.journal_history.specs.declared.record.Told.{Told}
use Rattle.journal_history.specs.declared.record.Told.TheVariants as told
use Rattle.journal_history.specs.declared.record.Record.{Record}
use Rattle.journal_history.specs.declared.record.Record.TheVariants as record_
use Rattle.play_script.specs.Words.{choice_of}
use Rattle.play_report.specs.Summary.{begins}

-- ## What was asked
-- two numbers, and no more
abbrev pub stop_by : Option ℕ → Option ℕ → Bool → Option NodeAsk
stop_by (Some calls) (Some keep) true = Some (ask.Arm calls (stop.Effects keep))
stop_by _ _ _ = None

-- the words after `stop`
unfoldable pub stop_in : List (List ℕ) → Option NodeAsk
stop_in ws = stop_by (head_number ws) (head_number (drop 1 ws)) (is_over (drop 1 (drop 1 ws)))

-- two numbers and a choice, and no more
abbrev pub cut_by : Option ℕ → Option ℕ → Option Cut → Bool → Option NodeAsk
cut_by (Some calls) (Some made) (Some choice) true = Some (ask.Arm calls (stop.DiskCalls made choice))
cut_by _ _ _ _ = None

abbrev pub head_choice : List (List ℕ) → Option Cut
head_choice [] = None
head_choice (w ∷ ws) = choice_of w

-- the words after `cut`
unfoldable pub cut_in : List (List ℕ) → Option NodeAsk
cut_in ws = cut_by (head_number ws) (head_number (drop 1 ws)) (head_choice (drop 1 (drop 1 ws))) (is_over (drop 1 (drop 1 (drop 1 ws))))

abbrev pub request_in : ReadRequest → Option Request
request_in (Read r) = Some r
request_in _ = None

-- a request, or a copy of one that came late
abbrev pub act_by : Bool → Option Request → Option NodeAsk
act_by late (Some r) = Some (ask.Act late r)
act_by late None = None

-- an order's text, or a request's
unfoldable pub ask_in : List ℕ → Option NodeAsk
ask_in text =
    if bytes_eq text (codes "kill") then Some ask.Kill
    else (if bytes_eq text (codes "restart") then Some ask.Restart
    else (if begins text (codes "stop ") then stop_in (words_of (drop 5 text))
    else (if begins text (codes "cut ") then cut_in (words_of (drop 4 text))
    else (if begins text (codes "late ") then act_by true (request_in (reading_of (drop 5 text)))
    else act_by false (request_in (reading_of text))))))

-- ## What was answered
abbrev pub stopped_by : Option ℕ → Option NodeAnswer
stopped_by (Some keep) = Some (answer.Stopped keep)
stopped_by None = None

abbrev pub replied_by : Option Reply → Option NodeAnswer
replied_by (Some reply) = Some (answer.Replied reply)
replied_by None = None

-- of a request: that the node was stopped, or a reply that fits the request
unfoldable pub acted_in : Request → List ℕ → Option NodeAnswer
acted_in r text = if begins text (codes "stopped ") then stopped_by (number_in 0 (drop 8 text)) else replied_by (reply_of r text)

-- whether an order took place
unfoldable pub done_in : List ℕ → Option Bool
done_in text = if bytes_eq text (codes "done") then Some true else (if bytes_eq text (codes "idle") then Some false else None)

abbrev pub ordered_by : Option Bool → Option NodeAnswer
ordered_by (Some true) = Some answer.Done
ordered_by (Some false) = Some answer.Idle
ordered_by None = None

abbrev pub answered_in : NodeAsk → List ℕ → Option NodeAnswer
answered_in (ask.Act late r) text = acted_in r text
answered_in ask.Kill text = ordered_by (done_in text)
answered_in ask.Restart text = ordered_by (done_in text)
answered_in (ask.Arm calls stop) text = ordered_by (done_in text)

-- ## What a caller lists
abbrev pub heard_by : Option Reply → Option Told
heard_by (Some reply) = Some (told.Reply reply)
heard_by None = None

unfoldable pub told_in : Request → List ℕ → Option Told
told_in r text =
    if bytes_eq text (codes "dropped") then Some told.Dropped
    else (if bytes_eq text (codes "muted") then Some told.Muted
    else (if bytes_eq text (codes "silent") then Some told.Silent else heard_by (reply_of r text)))

abbrev pub called_by : ℕ → Request → Option Told → Option Record
called_by node r (Some t) = Some (record_.Call node r t)
called_by node r None = None

abbrev pub operated_by : ℕ → NodeAsk → Option Bool → Option Record
operated_by node q (Some done) = Some (record_.Operator node q done)
operated_by node q None = None

-- of a call at this node: what was asked, and what stands after the arrow
abbrev pub recorded_in : ℕ → NodeAsk → List ℕ → Option Record
recorded_in node (ask.Act false r) text = called_by node r (told_in r text)
recorded_in node (ask.Act true r) text = if bytes_eq text (codes "gone") then Some (record_.Late node r) else None
recorded_in node ask.Kill text = operated_by node ask.Kill (done_in text)
recorded_in node ask.Restart text = operated_by node ask.Restart (done_in text)
recorded_in node (ask.Arm calls stop) text = operated_by node (ask.Arm calls stop) (done_in text)

-- an outcome is some bytes
abbrev pub outcome_in : List ℕ → Option Record
outcome_in [] = None
outcome_in (b ∷ bs) = Some (record_.Outcome (b ∷ bs))
