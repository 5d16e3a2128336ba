-- What is printed of a line is read as that line.
use Rattle.std.proofs.Common.{ℕ, ◌≡◌, ◌≢◌, ◌<◌, ◌≤◌, ◌+◌, ◌^◌, ◌%◌, ◌==◌, ◌&&◌, nat_le, List, [], ◌∷◌, ◌++◌, Bool, true, false, not, Some, None, drop, refl, sym}
use Rattle.std.proofs.Common.{ap, subst, ◌∙◌, arith, append-nil, append_assoc, decimal, if◌then◌else◌}
use Rattle.std.specs.Prelude.{codes}
use Rattle.std.specs.Str.Parse.{digits_value}
use Rattle.std.proofs.lemmas.Bool.Decides.{nat_tests}
use Rattle.std.proofs.lemmas.Fmt.{decimal_by_steps}
use Rattle.journal_core.specs.Nodes.{most_nodes}
use Rattle.base_words.specs.Words.{words_of}
use Rattle.base_words.proofs.NumberLaws.{tells, value_of_decimal}
use Rattle.journal_core.specs.Peers.{FitsHeard}
use Rattle.journal_core.specs.declared.heard.Heard.TheVariants.{Answer}
use Rattle.journal_core.specs.declared.cut.Cut.{Cut}
use Rattle.journal_core.specs.declared.cut.Cut.TheVariants as cut
use Rattle.journal_core.specs.declared.request.Request.{Request}
use Rattle.journal_core.specs.declared.request.Request.TheVariants as request
use Rattle.journal_core.specs.declared.reply.Reply.{Reply}
use Rattle.journal_core.specs.declared.reply.Reply.TheVariants as reply
use Rattle.journal_text.specs.Texts.{numbers_text, request_text, reply_text}
use Rattle.journal_text.specs.Lines.{IsRequest}
use Rattle.journal_text.specs.Reading.{number_in, reading_of}
use Rattle.journal_text.specs.ReplyReading.{reply_of}
use Rattle.journal_text.specs.Exact.{IsWide, IsReadable}
use Rattle.journal_text.proofs.Spaced.{spaced_all, words_back, decimal_no_space, NoSpace}
use Rattle.journal_text.proofs.Found.{number_back}
use Rattle.journal_text.proofs.LineLaws.{text_read}
use Rattle.journal_text.proofs.Texts.{replies_read}
use Rattle.journal_history.specs.declared.stop.Stop.{Stop}
use Rattle.journal_history.specs.declared.stop.Stop.TheVariants as stop
use Rattle.journal_history.specs.declared.node_ask.NodeAsk.{NodeAsk}
use Rattle.journal_history.specs.declared.node_ask.NodeAsk.TheVariants as ask
use Rattle.journal_history.specs.declared.node_ask.NodeAnswer.{NodeAnswer}
use Rattle.journal_history.specs.declared.node_ask.NodeAnswer.TheVariants as answer
use Rattle.journal_history.specs.declared.history_line.HistoryLine.{HistoryLine}
use Rattle.journal_history.specs.declared.record.Told.{Told}
use Rattle.journal_history.specs.declared.record.Told.TheVariants as told
use Rattle.journal_history.specs.declared.record.Record.{Record}
use Rattle.journal_history.specs.declared.record.Record.TheVariants as record_
use Rattle.ns_tree.specs.declared.end.End.{End}
use Rattle.play_script.specs.Lines.{Lacks}
use Rattle.play_script.specs.Words.{choice_of, choice_word}
use Rattle.play_report.specs.Summary.{begins}
use Rattle.play_report.specs.Text.{arrow, choice_text, stop_text, ask_text, answer_text, heard_text, done_text, record_line_text}
use Rattle.report_judge.specs.Lines.{ask_in, stop_in, stop_by, cut_in as cut_words_in, cut_by, act_by, request_in, acted_in, replied_by, stopped_by, done_in, answered_in, told_in, heard_by}
use Rattle.report_judge.specs.Lines.{called_by, recorded_in, outcome_in}
use Rattle.report_judge.specs.Callers.{caller_in}
use Rattle.report_judge.specs.Cuts.{cut_in}
use Rattle.report_judge.specs.Reading.{history_line_in, answered_by, asked_by, parted_by, called_from, named_by, record_line_in, told_by, parted_at, called_at, numbered_by, number_within}
use Rattle.report_judge.specs.Reading.{is_of_record}
use Rattle.report_judge.specs.Written.{IsStop, IsAsked, IsReplied, IsAnswered, IsHeard, IsNodeOf, IsOrder, IsRecordLine}
use Rattle.report_judge.proofs.CutLaws.{cut_back, arrow_back, Lacks-append}
use Rattle.report_judge.proofs.Tame.{Tame, tame_append, tame_cons, no_end, no_mark, tame_decimal, tame_ask, tame_heard, tame_request, tame_done, tame_order}

-- ## What was asked
-- a request's text is no order's
plain_ask : (r : Request) → ask_in (request_text r) ≡ act_by false (request_in (reading_of (request_text r)))
unfolding ask_in request_text
plain_ask request.State = refl
plain_ask (request.NewEpoch epoch) = refl
plain_ask (request.Start head start) = refl
plain_ask (request.Journal head start batch) = refl
plain_ask (request.Finalize head start end) = refl
plain_ask (request.Prepare head start) = refl
plain_ask (request.Fetch head start from) = refl
plain_ask (request.Accept head batch) = refl
plain_ask (request.Purge head min) = refl
plain_ask (request.Read from) = refl
plain_ask request.Manifest = refl

late_ask : (r : Request) → ask_in (codes "late " ++ request_text r) ≡ act_by true (request_in (reading_of (request_text r)))
unfolding ask_in
late_ask r = refl

stop_words : (calls keep : ℕ) → ask_in (stop_text calls (stop.Effects keep)) ≡ stop_in (words_of (decimal calls ++ spaced_all (decimal keep ∷ [])))
unfolding ask_in numbers_text
stop_words calls keep = refl

stop_back : (calls keep : ℕ) → IsWide calls → IsWide keep → ask_in (stop_text calls (stop.Effects keep)) ≡ Some (ask.Arm calls (stop.Effects keep))
unfolding stop_in
stop_back calls keep h k =
    stop_words calls keep ∙ ap stop_in (words_back (decimal keep ∷ []) (decimal calls) (decimal_no_space calls h) (decimal_no_space keep k, tt))
    ∙ ap (λ o. stop_by o (number_in 0 (decimal keep)) true) (number_back calls h) ∙ ap (λ o. stop_by (Some calls) o true) (number_back keep k)

cut_words : (calls made : ℕ) (choice : Cut) → ask_in (stop_text calls (stop.DiskCalls made choice)) ≡ cut_words_in (words_of (decimal calls ++ (32 ∷ (decimal made ++ [])) ++ choice_text choice))
unfolding ask_in numbers_text
cut_words calls made choice = refl

choice_spaced : (c : Cut) → choice_text c ≡ spaced_all (choice_word c ∷ [])
choice_spaced cut.Old = refl
choice_spaced cut.New = refl
choice_spaced cut.A5 = refl

choice_apart : (c : Cut) → NoSpace (choice_word c)
choice_apart cut.Old = (refl, (refl, (refl, tt)))
choice_apart cut.New = (refl, (refl, (refl, tt)))
choice_apart cut.A5 = (refl, (refl, tt))

choice_back : (c : Cut) → choice_of (choice_word c) ≡ Some c
unfolding choice_of
choice_back cut.Old = refl
choice_back cut.New = refl
choice_back cut.A5 = refl

cut_spaced : (calls made : ℕ) (c : Cut) → decimal calls ++ (32 ∷ (decimal made ++ [])) ++ choice_text c ≡ decimal calls ++ spaced_all (decimal made ∷ choice_word c ∷ [])
cut_spaced calls made c =
    append_assoc (decimal calls) (32 ∷ (decimal made ++ [])) (choice_text c)
    ∙ ap (λ (x : List ℕ). decimal calls ++ ((32 ∷ x) ++ choice_text c)) (append-nil (decimal made)) ∙ ap (λ (x : List ℕ). decimal calls ++ ((32 ∷ decimal made) ++ x)) (choice_spaced c)

cut_order_back : (calls made : ℕ) (c : Cut) → IsWide calls → IsWide made → ask_in (stop_text calls (stop.DiskCalls made c)) ≡ Some (ask.Arm calls (stop.DiskCalls made c))
unfolding cut_words_in
cut_order_back calls made c h k =
    cut_words calls made c ∙ ap (λ x. cut_words_in (words_of x)) (cut_spaced calls made c)
    ∙ ap cut_words_in (words_back (decimal made ∷ choice_word c ∷ []) (decimal calls) (decimal_no_space calls h) (decimal_no_space made k, (choice_apart c, tt)))
    ∙ ap (λ o. cut_by o (number_in 0 (decimal made)) (choice_of (choice_word c)) true) (number_back calls h)
    ∙ ap (λ o. cut_by (Some calls) o (choice_of (choice_word c)) true) (number_back made k) ∙ ap (λ o. cut_by (Some calls) (Some made) o true) (choice_back c)

arm_back : (calls : ℕ) (s : Stop) → IsWide calls → IsStop s → ask_in (stop_text calls s) ≡ Some (ask.Arm calls s)
arm_back calls (stop.Effects keep) h k = stop_back calls keep h k
arm_back calls (stop.DiskCalls made c) h k = cut_order_back calls made c h k

kill_back : ask_in (codes "kill") ≡ Some ask.Kill
unfolding ask_in
kill_back = refl

restart_back : ask_in (codes "restart") ≡ Some ask.Restart
unfolding ask_in
restart_back = refl

pub ask_back : (q : NodeAsk) → IsAsked q → ask_in (ask_text q) ≡ Some q
unfolding ask_text
ask_back (ask.Act false r) h = plain_ask r ∙ ap (λ x. act_by false (request_in x)) (text_read r h)
ask_back (ask.Act true r) h = late_ask r ∙ ap (λ x. act_by true (request_in x)) (text_read r h)
ask_back ask.Kill h = kill_back
ask_back ask.Restart h = restart_back
ask_back (ask.Arm calls s) h = arm_back calls s h.0 h.1

pub order_back : (q : NodeAsk) → IsOrder q → ask_in (ask_text q) ≡ Some q
order_back (ask.Act late r) h = absurd h
order_back ask.Kill h = ask_back ask.Kill tt
order_back ask.Restart h = ask_back ask.Restart tt
order_back (ask.Arm calls s) h = ask_back (ask.Arm calls s) h

-- ## What was answered
-- a reply's text isn't that of a stop, nor of a loss
not_stopped : (a : Reply) → begins (reply_text a) (codes "stopped ") ≡ false
unfolding reply_text
not_stopped reply.Ok = refl
not_stopped (reply.State p) = refl
not_stopped (reply.NewEpoch s) = refl
not_stopped (reply.Prepared w c s) = refl
not_stopped (reply.Edits b) = refl
not_stopped (reply.Segments lines) = refl
not_stopped (reply.Refused c) = refl

replied_back : (r : Request) (a : Reply) → IsReadable a → FitsHeard r (Answer a) → acted_in r (reply_text a) ≡ Some (answer.Replied a)
unfolding acted_in
replied_back r a h k =
    ap (λ b. if b then stopped_by (number_in 0 (drop 8 (reply_text a))) else replied_by (reply_of r (reply_text a))) (not_stopped a) ∙ ap replied_by (replies_read r a h k)

stopped_words : (r : Request) (keep : ℕ) → acted_in r (codes "stopped" ++ numbers_text (keep ∷ [])) ≡ stopped_by (number_in 0 (decimal keep ++ []))
unfolding acted_in numbers_text
stopped_words r keep = refl

acted_back : (r : Request) (a : NodeAnswer) → IsReplied r a → acted_in r (answer_text a) ≡ Some a
unfolding answer_text
acted_back r (answer.Replied a) h = replied_back r a h.0 h.1
acted_back r (answer.Stopped keep) h = stopped_words r keep ∙ ap (λ x. stopped_by (number_in 0 x)) (append-nil (decimal keep)) ∙ ap stopped_by (number_back keep h)
acted_back r answer.Done h = absurd h
acted_back r answer.Idle h = absurd h
acted_back r (answer.NotOpened fail) h = absurd h

pub answer_back : (q : NodeAsk) (a : NodeAnswer) → IsAnswered q a → answered_in q (answer_text a) ≡ Some a
unfolding answer_text done_in
answer_back (ask.Act late r) a h = acted_back r a h
answer_back ask.Kill answer.Done h = refl
answer_back ask.Kill answer.Idle h = refl
answer_back ask.Kill (answer.Replied a) h = absurd h
answer_back ask.Kill (answer.Stopped keep) h = absurd h
answer_back ask.Kill (answer.NotOpened fail) h = absurd h
answer_back ask.Restart answer.Done h = refl
answer_back ask.Restart answer.Idle h = refl
answer_back ask.Restart (answer.Replied a) h = absurd h
answer_back ask.Restart (answer.Stopped keep) h = absurd h
answer_back ask.Restart (answer.NotOpened fail) h = absurd h
answer_back (ask.Arm calls s) answer.Done h = refl
answer_back (ask.Arm calls s) answer.Idle h = refl
answer_back (ask.Arm calls s) (answer.Replied a) h = absurd h
answer_back (ask.Arm calls s) (answer.Stopped keep) h = absurd h
answer_back (ask.Arm calls s) (answer.NotOpened fail) h = absurd h

-- ## What a caller lists
told_plain : (r : Request) (a : Reply) → told_in r (reply_text a) ≡ heard_by (reply_of r (reply_text a))
unfolding told_in reply_text
told_plain r reply.Ok = refl
told_plain r (reply.State p) = refl
told_plain r (reply.NewEpoch s) = refl
told_plain r (reply.Prepared w c s) = refl
told_plain r (reply.Edits b) = refl
told_plain r (reply.Segments lines) = refl
told_plain r (reply.Refused c) = refl

pub told_back : (r : Request) (t : Told) → IsHeard r t → told_in r (heard_text t) ≡ Some t
unfolding heard_text told_in
told_back r (told.Reply a) h = told_plain r a ∙ ap heard_by (replies_read r a h.0 h.1)
told_back r told.Dropped h = refl
told_back r told.Muted h = refl
told_back r told.Silent h = refl

done_back : (node : ℕ) (q : NodeAsk) (done : Bool) → IsOrder q → recorded_in node q (done_text done) ≡ Some (record_.Operator node q done)
unfolding done_in
done_back node (ask.Act late r) done h = absurd h
done_back node ask.Kill true h = refl
done_back node ask.Kill false h = refl
done_back node ask.Restart true h = refl
done_back node ask.Restart false h = refl
done_back node (ask.Arm calls s) true h = refl
done_back node (ask.Arm calls s) false h = refl

-- ## A line of a history
-- the pieces of a line, the first of them up to a space
pub regroup : (a b c d : List ℕ) → a ++ 32 ∷ b ++ c ++ d ≡ a ++ 32 ∷ (b ++ c ++ d)
regroup a b c d = ap (λ (x : List ℕ). x ++ d) (append_assoc a (32 ∷ b) c) ∙ append_assoc a (32 ∷ (b ++ c)) d

pub history_back :
    (ends : List End) (name : List ℕ) (h : HistoryLine) → Lacks 32 name → caller_in ends name ≡ Some h.caller → IsAsked h.ask → IsAnswered h.ask h.answer
    → history_line_in ends (name ++ 32 ∷ ask_text h.ask ++ arrow ++ answer_text h.answer) ≡ Some h
unfolding history_line_in
history_back ends name h apart called asked answered =
    ap (λ x. named_by ends (cut_in 32 x)) (regroup name (ask_text h.ask) arrow (answer_text h.answer))
    ∙ ap (named_by ends) (cut_back 32 name (ask_text h.ask ++ arrow ++ answer_text h.answer) apart)
    ∙ ap (λ c. called_from c (ask_text h.ask ++ arrow ++ answer_text h.answer)) called
    ∙ ap (parted_by h.caller) (arrow_back (ask_text h.ask) (answer_text h.answer) (no_mark (ask_text h.ask) (tame_ask h.ask asked)))
    ∙ ap (asked_by h.caller (answer_text h.answer)) (ask_back h.ask asked)
    ∙ ap (answered_by h.caller h.ask) (answer_back h.ask h.answer answered)

-- ## A line of a record
-- a number begins with a digit
pub record StartsDigit (ds : List ℕ) : Type 0 where
  pub digit : ℕ
  pub others : List ℕ
  pub low : 48 ≤ digit
  pub high : digit ≤ 57
  pub are : ds ≡ digit ∷ others

more_digits : (ds es : List ℕ) → StartsDigit ds → StartsDigit (ds ++ es)
more_digits ds es s = record { digit = s.digit; others = s.others ++ es; low = s.low; high = s.high; are = ap (λ (x : List ℕ). x ++ es) s.are }

pub starts_digit : (n : ℕ) → n < 2 ^ 64 → StartsDigit (decimal n)
starts_digit n h =
    decimal_by_steps (λ m ds. StartsDigit ds) (λ m l. record { digit = 48 + m; others = []; low = omega arith; high = omega (arith, l); are = refl })
    (λ m ds l k. more_digits ds ((48 + m % 10) ∷ []) k) n h

digit_not_mark : (d : ℕ) → d ≤ 57 → (61 == d) ≡ false
digit_not_mark d l = grind (arith, nat_tests)

no_mark_first : (d : ℕ) (ds : List ℕ) → (61 == d) ≡ false → begins (d ∷ ds) (codes "= ") ≡ false
no_mark_first d [] e = rw e refl
no_mark_first d (c ∷ cs) e = rw e refl

-- a line that begins with a digit is no result, and a record's
pub no_result : (xs ys : List ℕ) → StartsDigit xs → begins (xs ++ ys) (codes "= ") ≡ false
no_result xs ys s =
    ap (λ (x : List ℕ). begins (x ++ ys) (codes "= ")) s.are
    ∙ no_mark_first s.digit (s.others ++ ys) (digit_not_mark s.digit s.high)

digit_no_letter : (d : ℕ) → d ≤ 57 → not (nat_le 97 d && nat_le d 122) ≡ true
digit_no_letter d l = grind (arith, nat_tests)

pub digit_of_record : (xs ys : List ℕ) → StartsDigit xs → is_of_record (xs ++ ys) ≡ true
digit_of_record xs ys s = ap (λ (x : List ℕ). is_of_record (x ++ ys)) s.are ∙ digit_no_letter s.digit s.high

lacks_by : (b c : ℕ) → 48 ≤ b → c < 48 → b ≢ c
lacks_by b c l h e = omega (arith, l, h, e)

pub decimal_lacks : (c n : ℕ) → c < 48 → n < 2 ^ 64 → Lacks c (decimal n)
decimal_lacks c n small h =
    decimal_by_steps (λ m ds. Lacks c ds) (λ m l. (lacks_by (48 + m) c (omega arith) small, tt))
    (λ m ds l k. Lacks-append c ds ((48 + m % 10) ∷ []) k (lacks_by (48 + m % 10) c (omega arith) small, tt)) n h

pub within_back : (least most n : ℕ) → n < 2 ^ 64 → least ≤ n → n ≤ most → number_within least most (decimal n) ≡ Some n
within_back least most n w l h =
    ap (λ b. if b then Some (digits_value 10 (decimal n)) else None) (tells least most (decimal n) n w refl l h).0 ∙ ap (λ x. Some x) (value_of_decimal n w)

module _ (nodes : ℕ) (few : nodes ≤ most_nodes) where
  node_small : (node : ℕ) → IsNodeOf nodes node → node < 2 ^ 64
  node_small node h = let high = h.1 in omega (arith, high, few)

  -- a line that is no result
  recorded_by_line : (node : ℕ) (asked came : List ℕ) (q : NodeAsk) (x : Record) → IsNodeOf nodes node → Lacks 62 asked → ask_in asked ≡ Some q → recorded_in node q came ≡ Some x
      → record_line_in nodes (decimal node ++ 32 ∷ asked ++ arrow ++ came) ≡ Some x
  unfolding record_line_in
  recorded_by_line node asked came q x n apart a r =
      let w = node_small node n in
      let line = decimal node ++ 32 ∷ (asked ++ arrow ++ came) in
      ap (record_line_in nodes) (regroup (decimal node) asked arrow came)
      ∙ ap (λ b. if b then outcome_in (drop 2 line) else numbered_by nodes (cut_in 32 line)) (no_result (decimal node) (32 ∷ (asked ++ arrow ++ came)) (starts_digit node w))
      ∙ ap (numbered_by nodes) (cut_back 32 (decimal node) (asked ++ arrow ++ came) (decimal_lacks 32 node (omega arith) w))
      ∙ ap (λ o. called_at o (asked ++ arrow ++ came)) (within_back 1 nodes node w n.0 n.1) ∙ ap (parted_at node) (arrow_back asked came apart)
      ∙ ap (told_by node came) a ∙ r

  outcome_back : (text : List ℕ) → text ≢ [] → outcome_in text ≡ Some (record_.Outcome text)
  outcome_back [] h = absurd (h refl)
  outcome_back (b ∷ bs) h = refl

  result_line : (text : List ℕ) → record_line_in nodes (codes "= " ++ text) ≡ outcome_in text
  unfolding record_line_in
  result_line text = refl

  -- the line of a record, without its end
  abbrev pub line_of : Record → List ℕ
  line_of (record_.Call node r t) = decimal node ++ 32 ∷ request_text r ++ arrow ++ heard_text t
  line_of (record_.Late node r) = decimal node ++ codes " late " ++ request_text r ++ codes " -> gone"
  line_of (record_.Operator node q done) = decimal node ++ 32 ∷ ask_text q ++ arrow ++ done_text done
  line_of (record_.Outcome text) = codes "= " ++ text

  pub record_spelled : (x : Record) → record_line_text x ≡ line_of x ++ 10 ∷ []
  unfolding record_line_text
  record_spelled (record_.Call node r t) = refl
  record_spelled (record_.Late node r) = refl
  record_spelled (record_.Operator node q done) = refl
  record_spelled (record_.Outcome text) = refl

  late_line : (node : ℕ) (r : Request) → line_of (record_.Late node r) ≡ decimal node ++ 32 ∷ (codes "late " ++ request_text r) ++ arrow ++ codes "gone"
  late_line node r =
      append_assoc (decimal node ++ codes " late ") (request_text r) (codes " -> gone") ∙ append_assoc (decimal node) (codes " late ") (request_text r ++ codes " -> gone")
      ∙ sym (regroup (decimal node) (codes "late " ++ request_text r) arrow (codes "gone")
      ∙ ap (λ (x : List ℕ). decimal node ++ 32 ∷ x) (append_assoc (codes "late " ++ request_text r) arrow (codes "gone")))

  late_asked : (r : Request) → IsRequest r → ask_in (codes "late " ++ request_text r) ≡ Some (ask.Act true r)
  late_asked r h = late_ask r ∙ ap (λ x. act_by true (request_in x)) (text_read r h)

  plain_asked : (r : Request) → IsRequest r → ask_in (request_text r) ≡ Some (ask.Act false r)
  plain_asked r h = plain_ask r ∙ ap (λ x. act_by false (request_in x)) (text_read r h)

  pub record_back : (x : Record) → IsRecordLine nodes x → record_line_in nodes (line_of x) ≡ Some x
  record_back (record_.Call node r t) h =
      recorded_by_line node (request_text r) (heard_text t) (ask.Act false r) (record_.Call node r t) h.0 (no_mark (request_text r) (tame_request r h.1)) (plain_asked r h.1)
      (ap (called_by node r) (told_back r t h.2))
  record_back (record_.Late node r) h =
      ap (record_line_in nodes) (late_line node r)
      ∙ recorded_by_line node (codes "late " ++ request_text r) (codes "gone") (ask.Act true r) (record_.Late node r) h.0
      (no_mark (codes "late " ++ request_text r) (tame_append (codes "late ") (request_text r) refl (tame_request r h.1))) (late_asked r h.1) refl
  record_back (record_.Operator node q done) h =
      recorded_by_line node (ask_text q) (done_text done) q (record_.Operator node q done) h.0 (no_mark (ask_text q) (tame_order q h.1)) (order_back q h.1) (done_back node q done h.1)
  record_back (record_.Outcome text) h = result_line text ∙ outcome_back text h.0

  line_end : (node : ℕ) (asked came : List ℕ) → IsNodeOf nodes node → Tame asked → Tame came → Lacks 10 (decimal node ++ 32 ∷ asked ++ arrow ++ came)
  line_end node asked came n a c =
      let w = node_small node n in
      let front = tame_append (decimal node) (32 ∷ asked) (tame_decimal node w) (tame_cons 32 asked refl a) in
      Lacks-append 10 (decimal node ++ 32 ∷ asked ++ arrow) came
      (Lacks-append 10 (decimal node ++ 32 ∷ asked) arrow (no_end (decimal node ++ 32 ∷ asked) front) ((λ e. cc), ((λ e. cc), ((λ e. cc), ((λ e. cc), tt)))))
      (no_end came c)

  pub record_whole : (x : Record) → IsRecordLine nodes x → Lacks 10 (line_of x)
  record_whole (record_.Call node r t) h = line_end node (request_text r) (heard_text t) h.0 (tame_request r h.1) (tame_heard r t h.2)
  record_whole (record_.Late node r) h =
      subst (Lacks 10) (sym (late_line node r)) (line_end node (codes "late " ++ request_text r) (codes "gone") h.0 (tame_append (codes "late ") (request_text r) refl (tame_request r h.1)) refl)
  record_whole (record_.Operator node q done) h = line_end node (ask_text q) (done_text done) h.0 (tame_order q h.1) (tame_done done)
  record_whole (record_.Outcome text) h = ((λ e. cc), ((λ e. cc), h.1))

  own_by : (node : ℕ) (asked came : List ℕ) → IsNodeOf nodes node → is_of_record (decimal node ++ 32 ∷ asked ++ arrow ++ came) ≡ true
  own_by node asked came n =
      ap is_of_record (regroup (decimal node) asked arrow came) ∙ digit_of_record (decimal node) (32 ∷ (asked ++ arrow ++ came)) (starts_digit node (node_small node n))

  pub record_own : (x : Record) → IsRecordLine nodes x → is_of_record (line_of x) ≡ true
  record_own (record_.Call node r t) h = own_by node (request_text r) (heard_text t) h.0
  record_own (record_.Late node r) h = ap is_of_record (late_line node r) ∙ own_by node (codes "late " ++ request_text r) (codes "gone") h.0
  record_own (record_.Operator node q done) h = own_by node (ask_text q) (done_text done) h.0
  record_own (record_.Outcome text) h = refl
