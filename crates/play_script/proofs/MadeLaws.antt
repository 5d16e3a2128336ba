-- Two lines with the same words are one.
use Rattle.std.proofs.Common.{ℕ, ◌≡◌, ◌<◌, List, [], ◌∷◌, length, Option, Some, None, true, refl, sym, ap, arith, ◌∙◌, map, decimal}
use Rattle.std.specs.Str.Parse.{digits_value}
use Rattle.base_words.specs.Hex.{hex_text}
use Rattle.journal_core.specs.declared.cut.Cut.{Cut}
use Rattle.journal_core.specs.declared.cut.Cut.TheVariants as choice
use Rattle.journal_history.specs.declared.stop.Stop.TheVariants as stop
use Rattle.play_script.specs.declared.task_word.TaskWord.TheVariants as task
use Rattle.play_script.specs.declared.standby_word.StandbyWord.TheVariants as standby
use Rattle.play_script.specs.declared.call_word.CallWord.TheVariants as call
use Rattle.play_script.specs.declared.node_word.NodeWord.TheVariants as node
use Rattle.play_script.specs.declared.kind.Kind.{Kind}
use Rattle.play_script.specs.declared.kind.Kind.TheVariants as kind
use Rattle.play_script.specs.declared.script_line.ScriptLine.{ScriptLine}
use Rattle.play_script.specs.declared.script_line.ScriptLine.TheVariants as line
use Rattle.play_script.specs.Views.{SaidView}
use Rattle.play_script.specs.Edits.{texts_between, edits_text}
use Rattle.base_words.specs.Words.{words_of}
use Rattle.play_script.specs.Words.{actor_of, name_at, choice_word, choice_of}
use Rattle.play_script.specs.Grammar.{belongs, keyword, kind_in, operands, words_in, IsNode, IsCount, HasSense}
use Rattle.play_script.specs.Rules.{kind_of}
use Rattle.journal_text.specs.Reading.{bodies_in}
use Rattle.journal_text.proofs.BodyLaws.{bodies_read}
use Rattle.play_script.proofs.NumberLaws.{number_again, choice_again}
use Rattle.play_script.proofs.NameLaws.{AreKnown}
use Rattle.play_script.proofs.EditLaws.{edits_from, edits_again}
use Rattle.play_script.proofs.KindLaws.{kind_is}
use Rattle.play_script.proofs.SenseLaws.{AreFew}

abbrev or_first : Option ℕ → ℕ
or_first None = 0
or_first (Some n) = n

abbrev or_nothing : Option (List (List ℕ)) → List (List ℕ)
or_nothing None = []
or_nothing (Some bodies) = bodies

abbrev or_old : Option Cut → Cut
or_old None = choice.Old
or_old (Some c) = c

abbrev place_of : List (List ℕ) → List ℕ → ℕ
place_of names name = or_first (actor_of names name)

-- the line of that kind that these words say
abbrev made : List (List ℕ) → Kind → List (List ℕ) → ScriptLine
made names kind.Declare (name ∷ []) = line.Declare name
made names (kind.Task task.Takeover) (name ∷ []) = line.Takeover (place_of names name)
made names (kind.Task task.Roll) (name ∷ []) = line.Roll (place_of names name)
made names (kind.Task task.Close) (name ∷ []) = line.Close (place_of names name)
made names kind.Log (name ∷ bodies) = line.Log (place_of names name) (or_nothing (bodies_in bodies))
made names kind.Edits (name ∷ words) = line.Edits (place_of names name) (edits_from (texts_between words))
made names kind.Trim (name ∷ extra ∷ []) = line.Trim (place_of names name) (digits_value 10 extra)
made names (kind.Standby standby.Tail) (name ∷ []) = line.Tail (place_of names name)
made names (kind.Standby standby.Checkpoint) (name ∷ []) = line.Checkpoint (place_of names name)
made names (kind.Standby standby.Reload) (name ∷ []) = line.Reload (place_of names name)
made names kind.Purge (name ∷ min ∷ []) = line.Purge (place_of names name) (digits_value 10 min)
made names (kind.Call call.Drop) (name ∷ i ∷ k ∷ []) = line.Drop (place_of names name) (digits_value 10 i) (digits_value 10 k)
made names (kind.Call call.Mute) (name ∷ i ∷ k ∷ []) = line.Mute (place_of names name) (digits_value 10 i) (digits_value 10 k)
made names (kind.Call call.Late) (name ∷ i ∷ k ∷ []) = line.Late (place_of names name) (digits_value 10 i) (digits_value 10 k)
made names (kind.Node node.Kill) (i ∷ []) = line.Kill (digits_value 10 i)
made names (kind.Node node.Restart) (i ∷ []) = line.Restart (digits_value 10 i)
made names kind.Stop (i ∷ calls ∷ keep ∷ []) = line.Arm (digits_value 10 i) (digits_value 10 calls) (stop.Effects (digits_value 10 keep))
made names kind.Cut (i ∷ calls ∷ after ∷ word ∷ []) =
    line.Arm (digits_value 10 i) (digits_value 10 calls) (stop.DiskCalls (digits_value 10 after) (or_old (choice_of word)))
made names k words = line.Declare []

module _ (said : SaidView) (k : AreKnown said.names) (f : AreFew said) where
  place : (actor : ℕ) → actor < length said.names → place_of said.names (name_at said.names actor) ≡ actor
  place actor l = ap or_first (k.found actor l)

  node_again : (i : ℕ) → IsNode said i → digits_value 10 (decimal i) ≡ i
  node_again i n = number_again i (omega (arith, n.1))

  count_again : (n : ℕ) → IsCount n → digits_value 10 (decimal n) ≡ n
  count_again n c = number_again n c.1

  made_again : (l : ScriptLine) → HasSense said l → made said.names (kind_in l) (operands said.names l) ≡ l
  made_again (line.Declare name) s = refl
  made_again (line.Takeover actor) s = ap line.Takeover (place actor s)
  made_again (line.Roll actor) s = ap line.Roll (place actor s)
  made_again (line.Close actor) s = ap line.Close (place actor s)
  made_again (line.Log actor bodies) s = ap (λ a. line.Log a (or_nothing (bodies_in (map hex_text bodies)))) (place actor s.0) ∙ ap (λ o. line.Log actor (or_nothing o)) (bodies_read bodies s.2)
  made_again (line.Edits actor edits) s = ap (λ a. line.Edits a (edits_from (texts_between (words_of (edits_text edits))))) (place actor s.0) ∙ ap (line.Edits actor) (edits_again edits s.1 s.2)
  made_again (line.Trim actor extra) s = ap (λ a. line.Trim a (digits_value 10 (decimal extra))) (place actor s.0) ∙ ap (line.Trim actor) (number_again extra s.1)
  made_again (line.Tail actor) s = ap line.Tail (place actor s)
  made_again (line.Checkpoint actor) s = ap line.Checkpoint (place actor s)
  made_again (line.Reload actor) s = ap line.Reload (place actor s)
  made_again (line.Purge actor min) s = ap (λ a. line.Purge a (digits_value 10 (decimal min))) (place actor s.0) ∙ ap (line.Purge actor) (number_again min s.1)
  made_again (line.Drop actor i n) s =
      ap (λ a. line.Drop a (digits_value 10 (decimal i)) (digits_value 10 (decimal n))) (place actor s.0)
      ∙ ap (λ x. line.Drop actor x (digits_value 10 (decimal n))) (node_again i s.1) ∙ ap (line.Drop actor i) (count_again n s.2)
  made_again (line.Mute actor i n) s =
      ap (λ a. line.Mute a (digits_value 10 (decimal i)) (digits_value 10 (decimal n))) (place actor s.0)
      ∙ ap (λ x. line.Mute actor x (digits_value 10 (decimal n))) (node_again i s.1) ∙ ap (line.Mute actor i) (count_again n s.2)
  made_again (line.Late actor i n) s =
      ap (λ a. line.Late a (digits_value 10 (decimal i)) (digits_value 10 (decimal n))) (place actor s.0)
      ∙ ap (λ x. line.Late actor x (digits_value 10 (decimal n))) (node_again i s.1) ∙ ap (line.Late actor i) (count_again n s.2)
  made_again (line.Kill i) s = ap line.Kill (node_again i s)
  made_again (line.Restart i) s = ap line.Restart (node_again i s)
  made_again (line.Arm i calls (stop.Effects keep)) s =
      ap (λ x. line.Arm x (digits_value 10 (decimal calls)) (stop.Effects (digits_value 10 (decimal keep)))) (node_again i s.0)
      ∙ ap (λ x. line.Arm i x (stop.Effects (digits_value 10 (decimal keep)))) (count_again calls s.1) ∙ ap (λ x. line.Arm i calls (stop.Effects x)) (number_again keep s.2)
  made_again (line.Arm i calls (stop.DiskCalls after word)) s =
      ap (λ x. line.Arm x (digits_value 10 (decimal calls)) (stop.DiskCalls (digits_value 10 (decimal after)) (or_old (choice_of (choice_word word))))) (node_again i s.0)
      ∙ ap (λ x. line.Arm i x (stop.DiskCalls (digits_value 10 (decimal after)) (or_old (choice_of (choice_word word))))) (count_again calls s.1)
      ∙ ap (λ x. line.Arm i calls (stop.DiskCalls x (or_old (choice_of (choice_word word))))) (number_again after s.2)
      ∙ ap (λ c. line.Arm i calls (stop.DiskCalls after (or_old c))) (choice_again word)

  pub same_line : (x y : ScriptLine) → belongs said.named (kind_in x) ≡ true → belongs said.named (kind_in y) ≡ true → HasSense said x → HasSense said y → words_in said x ≡ words_in said y → x ≡ y
  same_line x y g h s t e =
      let first : keyword said.named (kind_in x) ≡ keyword said.named (kind_in y) = heads (keyword said.named (kind_in x)) (keyword said.named (kind_in y)) _ _ e in
      let rest : operands said.names x ≡ operands said.names y = tails (keyword said.named (kind_in x)) (keyword said.named (kind_in y)) _ _ e in
      let both_are : Some (kind_in x) ≡ Some (kind_in y) = sym (kind_is said.named (kind_in x) g) ∙ ap (kind_of said.named) first ∙ kind_is said.named (kind_in y) h in
      let same : kind_in x ≡ kind_in y = some_same (kind_in x) (kind_in y) both_are in
      sym (made_again x s) ∙ ap (λ j. made said.names j (operands said.names x)) same ∙ ap (made said.names (kind_in y)) rest ∙ made_again y t
    where
      heads : (u v : List ℕ) (us vs : List (List ℕ)) → u ∷ us ≡ v ∷ vs → u ≡ v
      heads u v us vs e = cc

      tails : (u v : List ℕ) (us vs : List (List ℕ)) → u ∷ us ≡ v ∷ vs → us ≡ vs
      tails u v us vs e = cc

      some_same : (a b : Kind) → Some a ≡ Some b → a ≡ b
      some_same a b e = cc
