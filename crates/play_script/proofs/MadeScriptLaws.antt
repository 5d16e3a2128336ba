-- A generated script is a script: each of its lines makes sense in its place.
use Rattle.std.proofs.Common.{ℕ, zero, suc, ◌≡◌, ◌<◌, ◌≤◌, ◌+◌, ◌*◌, ◌/◌, ◌%◌, ◌^◌, ◌==◌, List, [], ◌∷◌, ◌++◌, length, length-append, Bool, true}
use Rattle.std.proofs.Common.{false, cond, refl, sym, ap, subst, arith, ◌∙◌, append_assoc, append-nil, codes, decimal, lit<, lit≤}
use Rattle.std.specs.List.{AllByRecursion}
use Rattle.std.proofs.Math.Nat.{mod-lt, div-le_of_le-mul}
use Rattle.journal_core.specs.Nodes.{most_nodes}
use Rattle.edit_ops.specs.Records.{EditView}
use Rattle.edit_codec.specs.EditTexts.{text_of}
use Rattle.play_script.specs.declared.script_line.ScriptLine.{ScriptLine}
use Rattle.play_script.specs.declared.script_line.ScriptLine.TheVariants.{Declare, Takeover, Roll, Edits, Tail, Drop, Kill, Restart}
use Rattle.play_script.specs.Scripts.{ScriptView}
use Rattle.play_script.specs.Views.{SaidView}
use Rattle.base_words.specs.Words.{joined, words_of}
use Rattle.play_script.specs.Words.{is_name, actor_of}
use Rattle.play_script.specs.Edits.{edits_text}
use Rattle.play_script.specs.Grammar.{nothing_said, said_after, words_in, line_text, MaySay, AreLines, IsScript}
use Rattle.play_script.specs.declared.chance.Chance.{Chance}
use Rattle.play_script.specs.declared.chance.Chance.TheVariants as chance
use Rattle.play_script.specs.Draws.{next_state, drawn}
use Rattle.play_script.specs.declared.making.Making.{Making}
use Rattle.play_script.specs.Generated.{IsWithin, chance_of, after_draw, node_drawn, chance_lines, lines_before, directory_edit, file_edit, edit_after, edit_lines, first_making, generated}
use Rattle.play_script.proofs.MadeEditLaws.{IsPlainWord, words_are, IsShort, directory_is_short, file_is_short, number_short}

-- ## Short lines
abbrev IsShortWord : List ℕ → Type 0
IsShortWord word = length word ≤ 20

joined_short : (words : List (List ℕ)) → AllByRecursion IsShortWord words → length (joined words) ≤ 21 * length words
joined_short [] h = omega arith
joined_short (word ∷ []) h = let short : length word ≤ 20 = h.0 in omega (arith, short)
joined_short (word ∷ next ∷ words) h =
    let short : length word ≤ 20 = h.0 in
    let rest : length (joined (next ∷ words)) ≤ 21 * length (next ∷ words) = joined_short (next ∷ words) h.1 in
    let size : length (joined (word ∷ next ∷ words)) ≡ length word + length (32 ∷ joined (next ∷ words)) = length-append word (32 ∷ joined (next ∷ words)) in
    omega (arith, short, rest, size)

fits : (said : SaidView) (line : ScriptLine) (words : List (List ℕ)) → words_in said line ≡ words → AllByRecursion IsShortWord words → length words ≤ 11 → length (line_text said line) ≤ 16384
fits said line words e h few =
    let short : length (joined words) ≤ 21 * length words = joined_short words h in
    let is : length (line_text said line) ≡ length (joined words) = ap (λ ws. length (joined ws)) e in
    omega (arith, short, is, few)

number_fits : (n : ℕ) → n ≤ most_nodes → IsShortWord (decimal n)
number_fits n l = let short : length (decimal n) ≤ 5 = number_short n (omega (arith, l)) in omega (arith, short)

-- ## Lines after the declarations
abbrev said_all : ℕ → SaidView
said_all nodes = record { named = true; nodes = nodes; names = codes "a" ∷ codes "b" ∷ codes "s" ∷ [] }

-- a line that may stand there and declares no actor
record MayFollow (nodes : ℕ) (line : ScriptLine) : Type 0 where
  pub may : MaySay (said_all nodes) line
  pub same : said_after (said_all nodes) line ≡ said_all nodes

lines_on : (nodes : ℕ) (line : ScriptLine) (lines : List ScriptLine) → MayFollow nodes line → AreLines (said_all nodes) lines → AreLines (said_all nodes) (line ∷ lines)
unfolding AreLines
lines_on nodes line lines m r = (m.may, subst (λ said. AreLines said lines) (sym m.same) r)

takeover_may : (nodes writer : ℕ) → writer ≤ 1 → MayFollow nodes (Takeover writer)
takeover_may nodes zero l = record { may = record { here = refl; sense = lit< tt; fits = lit≤ tt }; same = refl }
takeover_may nodes (suc zero) l = record { may = record { here = refl; sense = lit< tt; fits = lit≤ tt }; same = refl }
takeover_may nodes (suc (suc n)) l = absurd (omega (arith, l))

roll_may : (nodes writer : ℕ) → writer ≤ 1 → MayFollow nodes (Roll writer)
roll_may nodes zero l = record { may = record { here = refl; sense = lit< tt; fits = lit≤ tt }; same = refl }
roll_may nodes (suc zero) l = record { may = record { here = refl; sense = lit< tt; fits = lit≤ tt }; same = refl }
roll_may nodes (suc (suc n)) l = absurd (omega (arith, l))

tail_may : (nodes : ℕ) → MayFollow nodes (Tail 2)
tail_may nodes = record { may = record { here = refl; sense = lit< tt; fits = lit≤ tt }; same = refl }

drop_may : (nodes writer node : ℕ) → writer ≤ 1 → 1 ≤ node → node ≤ nodes → nodes ≤ most_nodes → MayFollow nodes (Drop writer node 1)
drop_may nodes zero node w a b m =
    record {
      may = record {
        here = refl;
        sense = (lit< tt, (a, b), (lit≤ tt, lit≤ tt));
        fits = fits (said_all nodes) (Drop 0 node 1) (codes "drop" ∷ codes "a" ∷ decimal node ∷ decimal 1 ∷ []) refl
            (lit≤ tt, (lit≤ tt, (number_fits node (omega (arith, b, m)), (number_fits 1 (lit≤ tt), tt)))) (lit≤ tt);
      };
      same = refl;
    }
drop_may nodes (suc zero) node w a b m =
    record {
      may = record {
        here = refl;
        sense = (lit< tt, (a, b), (lit≤ tt, lit≤ tt));
        fits = fits (said_all nodes) (Drop 1 node 1) (codes "drop" ∷ codes "b" ∷ decimal node ∷ decimal 1 ∷ []) refl
            (lit≤ tt, (lit≤ tt, (number_fits node (omega (arith, b, m)), (number_fits 1 (lit≤ tt), tt)))) (lit≤ tt);
      };
      same = refl;
    }
drop_may nodes (suc (suc n)) node w a b m = absurd (omega (arith, w))

kill_may : (nodes node : ℕ) → 1 ≤ node → node ≤ nodes → nodes ≤ most_nodes → MayFollow nodes (Kill node)
kill_may nodes node a b m = record {
  may = record {
    here = refl;
    sense = (a, b);
    fits = fits (said_all nodes) (Kill node) (codes "kill" ∷ decimal node ∷ []) refl (lit≤ tt, (number_fits node (omega (arith, b, m)), tt)) (lit≤ tt);
  };
  same = refl;
}

restart_may : (nodes node : ℕ) → 1 ≤ node → node ≤ nodes → nodes ≤ most_nodes → MayFollow nodes (Restart node)
restart_may nodes node a b m = record {
  may = record {
    here = refl;
    sense = (a, b);
    fits = fits (said_all nodes) (Restart node) (codes "restart" ∷ decimal node ∷ []) refl (lit≤ tt, (number_fits node (omega (arith, b, m)), tt)) (lit≤ tt);
  };
  same = refl;
}

-- ## Edits
plain_short : (words : List (List ℕ)) → AllByRecursion IsPlainWord words → AllByRecursion IsShortWord words
plain_short [] h = tt
plain_short (word ∷ words) h = (h.0.short, plain_short words h.1)

line_words : (e : EditView) (s : IsShort e) → words_of (edits_text (e ∷ [])) ≡ s.word ∷ s.words
line_words e s = ap words_of (append-nil (text_of false e)) ∙ words_are e s.word s.words s.has

edits_may : (nodes writer : ℕ) (e : EditView) → writer ≤ 1 → IsShort e → MayFollow nodes (Edits writer (e ∷ []))
edits_may nodes zero e w s =
    record {
      may = record {
        here = refl;
        sense = (lit< tt, (λ z. cc z), (s.says, tt));
        fits = fits (said_all nodes) (Edits 0 (e ∷ [])) (codes "log" ∷ codes "a" ∷ s.word ∷ s.words)
            (ap (λ ws. codes "log" ∷ codes "a" ∷ ws) (line_words e s)) (lit≤ tt, (lit≤ tt, plain_short (s.word ∷ s.words) s.has.plain))
            (let few : length s.words ≤ 8 = s.few in omega (arith, few));
      };
      same = refl;
    }
edits_may nodes (suc zero) e w s =
    record {
      may = record {
        here = refl;
        sense = (lit< tt, (λ z. cc z), (s.says, tt));
        fits = fits (said_all nodes) (Edits 1 (e ∷ [])) (codes "log" ∷ codes "b" ∷ s.word ∷ s.words)
            (ap (λ ws. codes "log" ∷ codes "b" ∷ ws) (line_words e s)) (lit≤ tt, (lit≤ tt, plain_short (s.word ∷ s.words) s.has.plain))
            (let few : length s.words ≤ 8 = s.few in omega (arith, few));
      };
      same = refl;
    }
edits_may nodes (suc (suc n)) e w s = absurd (omega (arith, w))

after_is_short : (count : ℕ) → count < 10000 → IsShort (edit_after count)
after_is_short count l = by (count % 100 == 0)
  where
    few : count / 100 ≤ 100
    few = div-le_of_le-mul 100 (omega (arith, l))

    by : (t : Bool) → IsShort (cond t (directory_edit (count / 100) (count + 1)) (file_edit (count / 100) (count + 1)))
    by true = directory_is_short (count / 100) (count + 1) few (omega (arith, l))
    by false = file_is_short (count / 100) (count + 1) few (omega (arith, l))

-- ## What happens before an edit
drawn_below : (nodes state : ℕ) → 1 ≤ nodes → drawn nodes state < nodes
drawn_below nodes state l = mod-lt (state / 2 ^ 33) l

module _ (nodes : ℕ) (some : 1 ≤ nodes) (most : nodes ≤ most_nodes) where
  node_is : (m : Making) → (1 ≤ node_drawn nodes m) × (node_drawn nodes m ≤ nodes)
  node_is m = let below : drawn nodes (next_state m.state) < nodes = drawn_below nodes (next_state m.state) some in (omega arith, omega (arith, below))

  chance_writer : (c : Chance) (m : Making) → m.writer ≤ 1 → (chance_lines nodes c m).next.writer ≤ 1
  chance_writer chance.Switch m w = other_is (m.writer == 0)
    where
      other_is : (t : Bool) → cond t 1 0 ≤ 1
      other_is true = lit≤ tt
      other_is false = lit≤ tt
  chance_writer chance.Roll m w = w
  chance_writer chance.Drop m w = w
  chance_writer chance.Restart m w = w
  chance_writer chance.Retake m w = w
  chance_writer chance.Nothing m w = w

  chance_may : (c : Chance) (m : Making) (lines : List ScriptLine) → m.writer ≤ 1 → AreLines (said_all nodes) lines → AreLines (said_all nodes) ((chance_lines nodes c m).lines ++ lines)
  chance_may chance.Switch m lines w r = lines_on nodes (Takeover (chance_lines nodes chance.Switch m).next.writer) lines
      (takeover_may nodes (chance_lines nodes chance.Switch m).next.writer (chance_writer chance.Switch m w)) r
  chance_may chance.Roll m lines w r = lines_on nodes (Roll m.writer) lines (roll_may nodes m.writer w) r
  chance_may chance.Drop m lines w r = let n = node_is m in lines_on nodes (Drop m.writer (node_drawn nodes m) 1) lines (drop_may nodes m.writer (node_drawn nodes m) w n.0 n.1 most) r
  chance_may chance.Restart m lines w r =
      let n = node_is m in
      lines_on nodes (Kill (node_drawn nodes m)) (Restart (node_drawn nodes m) ∷ lines) (kill_may nodes (node_drawn nodes m) n.0 n.1 most)
      (lines_on nodes (Restart (node_drawn nodes m)) lines (restart_may nodes (node_drawn nodes m) n.0 n.1 most) r)
  chance_may chance.Retake m lines w r = lines_on nodes (Takeover m.writer) lines (takeover_may nodes m.writer w) r
  chance_may chance.Nothing m lines w r = r

  before_may : (m : Making) (lines : List ScriptLine) → m.writer ≤ 1 → AreLines (said_all nodes) lines → AreLines (said_all nodes) ((lines_before nodes m).lines ++ lines)
  unfolding lines_before
  before_may m lines w r = chance_may (chance_of (drawn 100 (next_state m.state))) (after_draw m) lines w r

  before_writer : (m : Making) → m.writer ≤ 1 → (lines_before nodes m).next.writer ≤ 1
  unfolding lines_before
  before_writer m w = chance_writer (chance_of (drawn 100 (next_state m.state))) (after_draw m) w

  edit_lines_may : (left count : ℕ) (m : Making) (lines : List ScriptLine) → count + left ≤ 10000 → m.writer ≤ 1 → AreLines (said_all nodes) lines
      → AreLines (said_all nodes) (edit_lines nodes left count m ++ lines)
  unfolding edit_lines
  edit_lines_may zero count m lines few w r = r
  edit_lines_may (suc left) count m lines few w r =
      let next : Making = (lines_before nodes m).next in
      let line : ScriptLine = Edits next.writer (edit_after count ∷ []) in
      let writer : next.writer ≤ 1 = before_writer m w in
      subst (AreLines (said_all nodes)) (sym (append_assoc (lines_before nodes m).lines (line ∷ edit_lines nodes left (count + 1) next) lines))
      (before_may m (line ∷ edit_lines nodes left (count + 1) next ++ lines) w
      (lines_on nodes line (edit_lines nodes left (count + 1) next ++ lines) (edits_may nodes next.writer (edit_after count) writer (after_is_short count (omega (arith, few))))
      (edit_lines_may left (count + 1) next lines (omega (arith, few)) writer r)))

-- ## The whole
first_may : (nodes : ℕ) (lines : List ScriptLine) → AreLines (said_all nodes) lines → AreLines (nothing_said true nodes) (Declare (codes "a") ∷ Declare (codes "b") ∷ Declare (codes "s") ∷ lines)
unfolding AreLines is_name actor_of
first_may nodes lines r = (
  record { here = refl; sense = (refl, lit< tt, refl); fits = lit≤ tt },
  (
    record { here = refl; sense = (refl, lit< tt, refl); fits = lit≤ tt },
    (record { here = refl; sense = (refl, lit< tt, refl); fits = lit≤ tt }, r),
  ),
)

last_may : (nodes : ℕ) → AreLines (said_all nodes) (Tail 2 ∷ [])
unfolding AreLines
last_may nodes = ((tail_may nodes).may, tt)

pub is_script : (number edits nodes : ℕ) → IsWithin number edits nodes → IsScript (generated number edits nodes)
is_script number edits nodes h =
    let few : edits ≤ 10000 = h.few_edits in
    record {
      permitted = h.permitted;
      lines = first_may nodes (Takeover 0 ∷ edit_lines nodes edits 0 (first_making number) ++ Tail 2 ∷ [])
          (lines_on nodes (Takeover 0) (edit_lines nodes edits 0 (first_making number) ++ Tail 2 ∷ []) (takeover_may nodes 0 (omega arith))
          (edit_lines_may nodes h.permitted.0 h.permitted.1 edits 0 (first_making number) (Tail 2 ∷ []) (omega (arith, few)) (omega arith) (last_may nodes)));
    }

pub script_is : (number edits nodes : ℕ) (s : ScriptView) → IsWithin number edits nodes → s ≡ generated number edits nodes → IsScript s
script_is number edits nodes s h e = subst IsScript (sym e) (is_script number edits nodes h)
