-- The words of commands, and where others stop being some.
use Rattle.std.proofs.Common.{◌≡◌, ◌≢◌, ℕ, length, decimal, Bool, true, false, List, [], ◌∷◌, ◌||◌, Some, refl, sym, ap, subst, ◌∙◌, arith, inl, inr, ◌⊎◌, ⊎_elim}
use Rattle.std.specs.Prelude.{codes, Option, None, MatchOption}
use Rattle.std.specs.Str.{bytes_eq}
use Rattle.std.specs.Str.Parse.{digits_value}
use Rattle.std.proofs.lemmas.Slice.Eq.{bytes_eq-Decides}
use Rattle.std.proofs.lemmas.Bool.{or_cases}
use Rattle.journal_core.specs.Nodes.{most_nodes}
use Rattle.base_words.specs.WordNumbers.{is_number}
use Rattle.base_words.proofs.NumberLaws.{told_number}
use Rattle.play_script.specs.Words.{greatest}
use Rattle.play_script.proofs.NumberLaws.{number_is}
use Rattle.play_script.specs.Generated.{IsWithin}
use Rattle.cli_commands.specs.declared.tool.SegmentTool.{SegmentTool}
use Rattle.cli_commands.specs.declared.tool.SegmentTool.TheVariants as segment
use Rattle.cli_commands.specs.declared.tool.ImageTool.{ImageTool}
use Rattle.cli_commands.specs.declared.tool.ImageTool.TheVariants as image
use Rattle.cli_commands.specs.Tools as tool
use Rattle.cli_commands.specs.Commands.{Asked, play, run, piped, mirror, boot, node, fsck, judge, states, gen, list, segment_word}
use Rattle.cli_commands.specs.Commands.{image_word, words_of, AreOfSegment, is_from_root, AskFor, IsCommand}
use Rattle.cli_commands.specs.Usage.{is_alone, is_oev, is_oiv, after_one, after_tool, after_program, after_epoch, behind_start, behind_name, after_back}
use Rattle.cli_commands.specs.Usage.{after_oev, after_path, behind_image, after_ls, after_oiv, asks_piped}
use Rattle.cli_commands.specs.Usage.{after_number, behind_edits, after_nodes, after_gen, usage_of}
use Rattle.cli_commands.specs.Words.{StopAt, UsageIsOfFirstWrongWord}
pub use Rattle.cli_commands.proofs.OneCommand.{one_command}

-- ## Words and their tests
bytes_other : (a b : List ℕ) → bytes_eq a b ≡ false → a ≡ b → ⊥
bytes_other a b n e = let y : bytes_eq a b ≡ true = (bytes_eq-Decides a b).1 e in absurd (cc (n, y))

both_not : (a : Bool) → a ≡ false → a ≡ true → ⊥
both_not a n y = cc (n, y)

-- one of three
one_of_three : (word a b c : List ℕ) → (bytes_eq word a || (bytes_eq word b || bytes_eq word c)) ≡ true → (word ≡ a) ⊎ ((word ≡ b) ⊎ (word ≡ c))
one_of_three word a b c t = ⊎_elim (λ y. inl ((bytes_eq-Decides word a).0 y))
    (λ r. inr (⊎_elim (λ y. inl ((bytes_eq-Decides word b).0 y)) (λ y. inr ((bytes_eq-Decides word c).0 y))
    (or_cases (bytes_eq word b) (bytes_eq word c) r)))
    (or_cases (bytes_eq word a) (bytes_eq word b || bytes_eq word c) t)

-- a word of this name is a command where that name is one
this_word : (word name : List ℕ) → IsCommand (name ∷ []) → bytes_eq word name ≡ true → IsCommand (word ∷ [])
this_word word name is y = subst (λ (w : List ℕ). IsCommand (w ∷ [])) (sym ((bytes_eq-Decides word name).0 y)) is

-- the word is of this name, or one of the rest
first_or : (word name : List ℕ) (rest : Bool) → IsCommand (name ∷ []) → (rest ≡ true → IsCommand (word ∷ [])) → (bytes_eq word name || rest) ≡ true → IsCommand (word ∷ [])
first_or word name rest is later t = ⊎_elim (λ y. this_word word name is y) later (or_cases (bytes_eq word name) rest t)

alone_word : (word : List ℕ) → is_alone word ≡ true → IsCommand (word ∷ [])
alone_word word t =
    first_or word (codes "play") _ (play, record { words_are = refl; allowed = tt })
    (first_or word (codes "run") _ (run, record { words_are = refl; allowed = tt })
    (first_or word (codes "piped") _ (piped, record { words_are = refl; allowed = tt })
    (first_or word (codes "mirror") _ (mirror, record { words_are = refl; allowed = tt })
    (first_or word (codes "boot") _ (boot, record { words_are = refl; allowed = tt })
    (first_or word (codes "node") _ (node, record { words_are = refl; allowed = tt })
    (first_or word (codes "fsck") _ (fsck, record { words_are = refl; allowed = tt })
    (first_or word (codes "judge") _ (judge, record { words_are = refl; allowed = tt })
    (this_word word (codes "states") (states, record { words_are = refl; allowed = tt })))))))))
    t

oev_word : (word : List ℕ) → is_oev word ≡ true → (of : SegmentTool) × (word ≡ segment_word of)
oev_word word t = by (one_of_three word (codes "list") (codes "stats") (codes "json") t)
  where
    by : (word ≡ codes "list") ⊎ ((word ≡ codes "stats") ⊎ (word ≡ codes "json")) → (of : SegmentTool) × (word ≡ segment_word of)
    by (inl e) = (segment.List, e)
    by (inr (inl e)) = (segment.Stats, e)
    by (inr (inr e)) = (segment.Json, e)

oiv_word : (word : List ℕ) → is_oiv word ≡ true → (of : ImageTool) × (word ≡ image_word of)
oiv_word word t = by (one_of_three word (codes "delimited") (codes "sizes") (codes "json") t)
  where
    by : (word ≡ codes "delimited") ⊎ ((word ≡ codes "sizes") ⊎ (word ≡ codes "json")) → (of : ImageTool) × (word ≡ image_word of)
    by (inl e) = (image.Delimited, e)
    by (inr (inl e)) = (image.Sizes, e)
    by (inr (inr e)) = (image.Json, e)

is_segment_tool : (of : SegmentTool) → is_oev (segment_word of) ≡ true
is_segment_tool segment.List = refl
is_segment_tool segment.Stats = refl
is_segment_tool segment.Json = refl

is_image_tool : (of : ImageTool) → is_oiv (image_word of) ≡ true
is_image_tool image.Delimited = refl
is_image_tool image.Sizes = refl
is_image_tool image.Json = refl

-- no listing has the word of the way back, and none that of a path
not_back : (of : SegmentTool) → bytes_eq (segment_word of) (codes "back") ≡ false
not_back segment.List = refl
not_back segment.Stats = refl
not_back segment.Json = refl

not_ls : (of : ImageTool) → bytes_eq (image_word of) (codes "ls") ≡ false
not_ls image.Delimited = refl
not_ls image.Sizes = refl
not_ls image.Json = refl

-- ## What stands after the first word of a command
heads : (a b : List ℕ) (xs ys : List (List ℕ)) → a ∷ xs ≡ b ∷ ys → a ≡ b
heads a b xs ys e = cc e

tails : (a b : List ℕ) (xs ys : List (List ℕ)) → a ∷ xs ≡ b ∷ ys → xs ≡ ys
tails a b xs ys e = cc e

no_words : (asked : Asked) → [] ≡ words_of asked → ⊥
no_words play e = cc e
no_words run e = cc e
no_words piped e = cc e
no_words mirror e = cc e
no_words boot e = cc e
no_words node e = cc e
no_words fsck e = cc e
no_words judge e = cc e
no_words states e = cc e
no_words (gen number edits nodes) e = cc e
no_words (list of name) e = cc e

-- a command begins with a word that is alone, with that of a program, or with `gen`
first_word : (word : List ℕ) (words : List (List ℕ)) (asked : Asked) → word ∷ words ≡ words_of asked → (is_alone word ≡ true) ⊎ ((word ≡ codes "oev") ⊎ ((word ≡ codes "oiv") ⊎ (word ≡ codes "gen")))
first_word word words play e = inl (ap is_alone (heads word (codes "play") words [] e))
first_word word words run e = inl (ap is_alone (heads word (codes "run") words [] e))
first_word word words piped e = inl (ap is_alone (heads word (codes "piped") words [] e))
first_word word words mirror e = inl (ap is_alone (heads word (codes "mirror") words [] e))
first_word word words boot e = inl (ap is_alone (heads word (codes "boot") words [] e))
first_word word words node e = inl (ap is_alone (heads word (codes "node") words [] e))
first_word word words fsck e = inl (ap is_alone (heads word (codes "fsck") words [] e))
first_word word words judge e = inl (ap is_alone (heads word (codes "judge") words [] e))
first_word word words states e = inl (ap is_alone (heads word (codes "states") words [] e))
first_word word words (gen number edits nodes) e = inr (inr (inr (heads word (codes "gen") words (decimal number ∷ decimal edits ∷ decimal nodes ∷ []) e)))
first_word word words (list (tool.Oev of) name) e = inr (inl (heads word (codes "oev") words (segment_word of ∷ name ∷ []) e))
first_word word words (list (tool.Oiv of) name) e = inr (inr (inl (heads word (codes "oiv") words (image_word of ∷ name ∷ []) e)))
first_word word words (list (tool.Ls path) name) e = inr (inr (inl (heads word (codes "oiv") words (codes "ls" ∷ name ∷ path ∷ []) e)))
first_word word words (list (tool.Back start epoch) name) e = inr (inl (heads word (codes "oev") words (codes "back" ∷ name ∷ decimal start ∷ decimal epoch ∷ []) e))

-- a program isn't a command alone
apart : (word program : List ℕ) → is_alone program ≡ false → is_alone word ≡ true → word ≡ program → ⊥
apart word program n y e = both_not (is_alone program) n (sym (ap is_alone e) ∙ y)

after_alone : (word : List ℕ) (words : List (List ℕ)) (asked : Asked) → is_alone word ≡ true → word ∷ words ≡ words_of asked → words ≡ []
after_alone word words play y e = tails word (codes "play") words [] e
after_alone word words run y e = tails word (codes "run") words [] e
after_alone word words piped y e = tails word (codes "piped") words [] e
after_alone word words mirror y e = tails word (codes "mirror") words [] e
after_alone word words boot y e = tails word (codes "boot") words [] e
after_alone word words node y e = tails word (codes "node") words [] e
after_alone word words fsck y e = tails word (codes "fsck") words [] e
after_alone word words judge y e = tails word (codes "judge") words [] e
after_alone word words states y e = tails word (codes "states") words [] e
after_alone word words (gen number edits nodes) y e = absurd (apart word (codes "gen") refl y (heads word (codes "gen") words (decimal number ∷ decimal edits ∷ decimal nodes ∷ []) e))
after_alone word words (list (tool.Oev of) name) y e = absurd (apart word (codes "oev") refl y (heads word (codes "oev") words (segment_word of ∷ name ∷ []) e))
after_alone word words (list (tool.Oiv of) name) y e = absurd (apart word (codes "oiv") refl y (heads word (codes "oiv") words (image_word of ∷ name ∷ []) e))
after_alone word words (list (tool.Ls path) name) y e = absurd (apart word (codes "oiv") refl y (heads word (codes "oiv") words (codes "ls" ∷ name ∷ path ∷ []) e))
after_alone word words (list (tool.Back start epoch) name) y e =
    absurd (apart word (codes "oev") refl y (heads word (codes "oev") words (codes "back" ∷ name ∷ decimal start ∷ decimal epoch ∷ []) e))

-- no program has its own word alone
program_alone : (word : List ℕ) (asked : Asked) → word ∷ [] ≡ words_of asked → is_alone word ≡ true
program_alone word play e = ap is_alone (heads word (codes "play") [] [] e)
program_alone word run e = ap is_alone (heads word (codes "run") [] [] e)
program_alone word piped e = ap is_alone (heads word (codes "piped") [] [] e)
program_alone word mirror e = ap is_alone (heads word (codes "mirror") [] [] e)
program_alone word boot e = ap is_alone (heads word (codes "boot") [] [] e)
program_alone word node e = ap is_alone (heads word (codes "node") [] [] e)
program_alone word fsck e = ap is_alone (heads word (codes "fsck") [] [] e)
program_alone word judge e = ap is_alone (heads word (codes "judge") [] [] e)
program_alone word states e = ap is_alone (heads word (codes "states") [] [] e)
program_alone word (gen number edits nodes) e = absurd (cc (tails word (codes "gen") [] (decimal number ∷ decimal edits ∷ decimal nodes ∷ []) e))
program_alone word (list (tool.Oev of) name) e = absurd (cc (tails word (codes "oev") [] (segment_word of ∷ name ∷ []) e))
program_alone word (list (tool.Oiv of) name) e = absurd (cc (tails word (codes "oiv") [] (image_word of ∷ name ∷ []) e))
program_alone word (list (tool.Ls path) name) e = absurd (cc (tails word (codes "oiv") [] (codes "ls" ∷ name ∷ path ∷ []) e))
program_alone word (list (tool.Back start epoch) name) e = absurd (cc (tails word (codes "oev") [] (codes "back" ∷ name ∷ decimal start ∷ decimal epoch ∷ []) e))

more_words : (word : List ℕ) → is_alone word ≡ false → IsCommand (word ∷ []) → ⊥
more_words word n c = both_not (is_alone word) n (program_alone word c.0 c.1.words_are)

-- after `oev` stand a listing's word and a name, where there isn't `back`
after_oev_is : (word : List ℕ) (words : List (List ℕ)) → bytes_eq word (codes "back") ≡ false → IsCommand (codes "oev" ∷ word ∷ words)
    → (of : SegmentTool) × (name : List ℕ) × (word ∷ words ≡ segment_word of ∷ name ∷ [])
after_oev_is word words b (play, e) = absurd (bytes_other (codes "oev") (codes "play") refl (heads (codes "oev") (codes "play") (word ∷ words) [] e.words_are))
after_oev_is word words b (run, e) = absurd (bytes_other (codes "oev") (codes "run") refl (heads (codes "oev") (codes "run") (word ∷ words) [] e.words_are))
after_oev_is word words b (piped, e) = absurd (bytes_other (codes "oev") (codes "piped") refl (heads (codes "oev") (codes "piped") (word ∷ words) [] e.words_are))
after_oev_is word words b (mirror, e) = absurd (bytes_other (codes "oev") (codes "mirror") refl (heads (codes "oev") (codes "mirror") (word ∷ words) [] e.words_are))
after_oev_is word words b (boot, e) = absurd (bytes_other (codes "oev") (codes "boot") refl (heads (codes "oev") (codes "boot") (word ∷ words) [] e.words_are))
after_oev_is word words b (node, e) = absurd (bytes_other (codes "oev") (codes "node") refl (heads (codes "oev") (codes "node") (word ∷ words) [] e.words_are))
after_oev_is word words b (fsck, e) = absurd (bytes_other (codes "oev") (codes "fsck") refl (heads (codes "oev") (codes "fsck") (word ∷ words) [] e.words_are))
after_oev_is word words b (judge, e) = absurd (bytes_other (codes "oev") (codes "judge") refl (heads (codes "oev") (codes "judge") (word ∷ words) [] e.words_are))
after_oev_is word words b (states, e) = absurd (bytes_other (codes "oev") (codes "states") refl (heads (codes "oev") (codes "states") (word ∷ words) [] e.words_are))
after_oev_is word words b (gen number edits nodes, e) = absurd (bytes_other (codes "oev") (codes "gen") refl
    (heads (codes "oev") (codes "gen") (word ∷ words) (decimal number ∷ decimal edits ∷ decimal nodes ∷ []) e.words_are))
after_oev_is word words b (list (tool.Oev of) name, e) = (of, name, tails (codes "oev") (codes "oev") (word ∷ words) (segment_word of ∷ name ∷ []) e.words_are)
after_oev_is word words b (list (tool.Oiv of) name, e) =
    absurd (bytes_other (codes "oev") (codes "oiv") refl (heads (codes "oev") (codes "oiv") (word ∷ words) (image_word of ∷ name ∷ []) e.words_are))
after_oev_is word words b (list (tool.Ls path) name, e) =
    absurd (bytes_other (codes "oev") (codes "oiv") refl (heads (codes "oev") (codes "oiv") (word ∷ words) (codes "ls" ∷ name ∷ path ∷ []) e.words_are))
after_oev_is word words b (list (tool.Back start epoch) name, e) = absurd (bytes_other word (codes "back") b
    (heads word (codes "back") words (name ∷ decimal start ∷ decimal epoch ∷ [])
    (tails (codes "oev") (codes "oev") (word ∷ words) (codes "back" ∷ name ∷ decimal start ∷ decimal epoch ∷ []) e.words_are)))

-- after `oiv` a tool's word and a name, where there isn't `ls`
after_oiv_is : (word : List ℕ) (words : List (List ℕ)) → bytes_eq word (codes "ls") ≡ false → IsCommand (codes "oiv" ∷ word ∷ words)
    → (of : ImageTool) × (name : List ℕ) × (word ∷ words ≡ image_word of ∷ name ∷ [])
after_oiv_is word words b (play, e) = absurd (bytes_other (codes "oiv") (codes "play") refl (heads (codes "oiv") (codes "play") (word ∷ words) [] e.words_are))
after_oiv_is word words b (run, e) = absurd (bytes_other (codes "oiv") (codes "run") refl (heads (codes "oiv") (codes "run") (word ∷ words) [] e.words_are))
after_oiv_is word words b (piped, e) = absurd (bytes_other (codes "oiv") (codes "piped") refl (heads (codes "oiv") (codes "piped") (word ∷ words) [] e.words_are))
after_oiv_is word words b (mirror, e) = absurd (bytes_other (codes "oiv") (codes "mirror") refl (heads (codes "oiv") (codes "mirror") (word ∷ words) [] e.words_are))
after_oiv_is word words b (boot, e) = absurd (bytes_other (codes "oiv") (codes "boot") refl (heads (codes "oiv") (codes "boot") (word ∷ words) [] e.words_are))
after_oiv_is word words b (node, e) = absurd (bytes_other (codes "oiv") (codes "node") refl (heads (codes "oiv") (codes "node") (word ∷ words) [] e.words_are))
after_oiv_is word words b (fsck, e) = absurd (bytes_other (codes "oiv") (codes "fsck") refl (heads (codes "oiv") (codes "fsck") (word ∷ words) [] e.words_are))
after_oiv_is word words b (judge, e) = absurd (bytes_other (codes "oiv") (codes "judge") refl (heads (codes "oiv") (codes "judge") (word ∷ words) [] e.words_are))
after_oiv_is word words b (states, e) = absurd (bytes_other (codes "oiv") (codes "states") refl (heads (codes "oiv") (codes "states") (word ∷ words) [] e.words_are))
after_oiv_is word words b (gen number edits nodes, e) = absurd (bytes_other (codes "oiv") (codes "gen") refl
    (heads (codes "oiv") (codes "gen") (word ∷ words) (decimal number ∷ decimal edits ∷ decimal nodes ∷ []) e.words_are))
after_oiv_is word words b (list (tool.Oev of) name, e) =
    absurd (bytes_other (codes "oiv") (codes "oev") refl (heads (codes "oiv") (codes "oev") (word ∷ words) (segment_word of ∷ name ∷ []) e.words_are))
after_oiv_is word words b (list (tool.Oiv of) name, e) = (of, name, tails (codes "oiv") (codes "oiv") (word ∷ words) (image_word of ∷ name ∷ []) e.words_are)
after_oiv_is word words b (list (tool.Ls path) name, e) = absurd (bytes_other word (codes "ls") b
    (heads word (codes "ls") words (name ∷ path ∷ []) (tails (codes "oiv") (codes "oiv") (word ∷ words) (codes "ls" ∷ name ∷ path ∷ []) e.words_are)))
after_oiv_is word words b (list (tool.Back start epoch) name, e) =
    absurd (bytes_other (codes "oiv") (codes "oev") refl (heads (codes "oiv") (codes "oev") (word ∷ words) (codes "back" ∷ name ∷ decimal start ∷ decimal epoch ∷ []) e.words_are))

-- ## Where words stop being a command
some_play : IsCommand (codes "play" ∷ [])
some_play = (play, record { words_are = refl; allowed = tt })

wrong_first : (word : List ℕ) (words : List (List ℕ)) → is_alone word ≡ false → (word ≡ codes "oev" → ⊥) → (word ≡ codes "oiv" → ⊥) → (word ≡ codes "gen" → ⊥) → StopAt (word ∷ words) 0
wrong_first word words a o p q = record {
  none = λ c. none words c.0 c.1.words_are;
  within = omega arith;
  before = (codes "play" ∷ [], some_play);
  further = λ l b. none b.0 b.1.0 b.1.1.words_are;
}
  where
    none : (others : List (List ℕ)) (asked : Asked) → word ∷ others ≡ words_of asked → ⊥
    none others asked e = ⊎_elim (both_not (is_alone word) a) (⊎_elim o (⊎_elim p q)) (first_word word others asked e)

-- a command of one word, and others after it
alone_first : (word : List ℕ) (words : List (List ℕ)) → is_alone word ≡ true → IsCommand (word ∷ []) → MatchOption (after_one words) (IsCommand (word ∷ words)) (StopAt (word ∷ words))
alone_first word [] y c = c
alone_first word (other ∷ words) y c = record {
  none = λ k. absurd (cc (after_alone word (other ∷ words) k.0 y k.1.words_are));
  within = omega arith;
  before = ([], c);
  further = λ l b. absurd (cc (after_alone word (other ∷ b.0) b.1.0 y b.1.1.words_are));
}

-- ## After a program
-- its tools with their words, of which there is one, the test of a word, and the test of one after
-- which other words stand
module _ {W : Type 0} (program : List ℕ) (word_for : W → List ℕ) (test other : List ℕ → Bool) (some : W) (alone : is_alone program ≡ false)
    (behind_is : (word : List ℕ) (words : List (List ℕ)) → other word ≡ false → IsCommand (program ∷ word ∷ words) → (of : W) × (name : List ℕ) × (word ∷ words ≡ word_for of ∷ name ∷ []))
    (is_one : (of : W) (name : List ℕ) → IsCommand (program ∷ word_for of ∷ name ∷ []))
    (named : (word : List ℕ) → test word ≡ true → (of : W) × (word ≡ word_for of)) (passes : (of : W) → test (word_for of) ≡ true) (aside : (of : W) → other (word_for of) ≡ false) where
  tool_first : (of : W) (words : List (List ℕ)) → MatchOption (after_tool words) (IsCommand (program ∷ word_for of ∷ words)) (StopAt (program ∷ word_for of ∷ words))
  tool_first of [] = record {
    none = λ c. let h = behind_is (word_for of) [] (aside of) c in absurd (cc h.2);
    within = omega arith;
    before = ([] ∷ [], is_one of []);
    further = λ l b. absurd (omega (arith, l));
  }
  tool_first of (name ∷ []) = is_one of name
  tool_first of (name ∷ word ∷ words) = record {
    none = λ c. let h = behind_is (word_for of) (name ∷ word ∷ words) (aside of) c in absurd (cc h.2);
    within = omega arith;
    before = ([], is_one of name);
    further = λ l b. let h = behind_is (word_for of) (name ∷ word ∷ b.0) (aside of) b.1 in absurd (cc h.2);
  }

  no_tool : (word : List ℕ) (words : List (List ℕ)) → other word ≡ false → test word ≡ false → IsCommand (program ∷ word ∷ words) → ⊥
  no_tool word words o n c =
      let h = behind_is word words o c in
      let is : word ≡ word_for h.0 = heads word (word_for h.0) words (h.1 ∷ []) h.2 in
      both_not (test word) n (ap test is ∙ passes h.0)

  wrong_tool : (word : List ℕ) (words : List (List ℕ)) → other word ≡ false → test word ≡ false → StopAt (program ∷ word ∷ words) 1
  wrong_tool word words o n = record {
    none = no_tool word words o n;
    within = omega arith;
    before = (word_for some ∷ [] ∷ [], is_one some []);
    further = λ l b. no_tool word b.0 o n b.1;
  }

  tool_missing : StopAt (program ∷ []) 1
  tool_missing = record {
    none = more_words program alone;
    within = omega arith;
    before = (word_for some ∷ [] ∷ [], is_one some []);
    further = λ l b. absurd (omega (arith, l));
  }

  program_by : (word : List ℕ) (words : List (List ℕ)) (t : Bool) → other word ≡ false → test word ≡ t
      → MatchOption (after_program test (word ∷ words)) (IsCommand (program ∷ word ∷ words)) (StopAt (program ∷ word ∷ words))
  unfolding after_program
  program_by word words true o e =
      let is = named word e in
      rw e (subst (λ w. MatchOption (after_tool words) (IsCommand (program ∷ w ∷ words)) (StopAt (program ∷ w ∷ words))) (sym is.1) (tool_first is.0 words))
  program_by word words false o e = rw e (wrong_tool word words o e)

  program_first : (words : List (List ℕ)) → ((word : List ℕ) (others : List (List ℕ)) → words ≡ word ∷ others → other word ≡ false)
      → MatchOption (after_program test words) (IsCommand (program ∷ words)) (StopAt (program ∷ words))
  unfolding after_program
  program_first [] o = tool_missing
  program_first (word ∷ words) o = program_by word words (test word) (o word words refl) refl

-- after `oiv`, but for `ls`
image_first : (words : List (List ℕ)) → ((word : List ℕ) (others : List (List ℕ)) → words ≡ word ∷ others → bytes_eq word (codes "ls") ≡ false)
    → MatchOption (after_program is_oiv words) (IsCommand (codes "oiv" ∷ words)) (StopAt (codes "oiv" ∷ words))
image_first = program_first (codes "oiv") image_word is_oiv (λ word. bytes_eq word (codes "ls")) image.Delimited refl after_oiv_is
    (λ of name. (list (tool.Oiv of) name, record { words_are = refl; allowed = tt })) oiv_word is_image_tool not_ls

-- after `oev`, but for `back`
listing_first : (words : List (List ℕ)) → ((word : List ℕ) (others : List (List ℕ)) → words ≡ word ∷ others → bytes_eq word (codes "back") ≡ false)
    → MatchOption (after_program is_oev words) (IsCommand (codes "oev" ∷ words)) (StopAt (codes "oev" ∷ words))
listing_first = program_first (codes "oev") segment_word is_oev (λ word. bytes_eq word (codes "back")) segment.List refl after_oev_is
    (λ of name. (list (tool.Oev of) name, record { words_are = refl; allowed = tt })) oev_word is_segment_tool not_back

-- ## After `oev back`
-- what stands there in a command
record IsBack (words : List (List ℕ)) : Type 0 where
  pub name : List ℕ
  pub start : ℕ
  pub epoch : ℕ
  pub within : AreOfSegment start epoch
  pub words_are : words ≡ name ∷ decimal start ∷ decimal epoch ∷ []

after_back_is : (words : List (List ℕ)) → IsCommand (codes "oev" ∷ codes "back" ∷ words) → IsBack words
after_back_is words (play, e) = absurd (bytes_other (codes "oev") (codes "play") refl (heads (codes "oev") (codes "play") (codes "back" ∷ words) [] e.words_are))
after_back_is words (run, e) = absurd (bytes_other (codes "oev") (codes "run") refl (heads (codes "oev") (codes "run") (codes "back" ∷ words) [] e.words_are))
after_back_is words (piped, e) = absurd (bytes_other (codes "oev") (codes "piped") refl (heads (codes "oev") (codes "piped") (codes "back" ∷ words) [] e.words_are))
after_back_is words (mirror, e) = absurd (bytes_other (codes "oev") (codes "mirror") refl (heads (codes "oev") (codes "mirror") (codes "back" ∷ words) [] e.words_are))
after_back_is words (boot, e) = absurd (bytes_other (codes "oev") (codes "boot") refl (heads (codes "oev") (codes "boot") (codes "back" ∷ words) [] e.words_are))
after_back_is words (node, e) = absurd (bytes_other (codes "oev") (codes "node") refl (heads (codes "oev") (codes "node") (codes "back" ∷ words) [] e.words_are))
after_back_is words (fsck, e) = absurd (bytes_other (codes "oev") (codes "fsck") refl (heads (codes "oev") (codes "fsck") (codes "back" ∷ words) [] e.words_are))
after_back_is words (judge, e) = absurd (bytes_other (codes "oev") (codes "judge") refl (heads (codes "oev") (codes "judge") (codes "back" ∷ words) [] e.words_are))
after_back_is words (states, e) = absurd (bytes_other (codes "oev") (codes "states") refl (heads (codes "oev") (codes "states") (codes "back" ∷ words) [] e.words_are))
after_back_is words (gen number edits nodes, e) = absurd (bytes_other (codes "oev") (codes "gen") refl
    (heads (codes "oev") (codes "gen") (codes "back" ∷ words) (decimal number ∷ decimal edits ∷ decimal nodes ∷ []) e.words_are))
after_back_is words (list (tool.Oev of) name, e) =
    let is : codes "back" ≡ segment_word of =
    heads (codes "back") (segment_word of) words (name ∷ []) (tails (codes "oev") (codes "oev") (codes "back" ∷ words) (segment_word of ∷ name ∷ []) e.words_are) in
    absurd (bytes_other (segment_word of) (codes "back") (not_back of) (sym is))
after_back_is words (list (tool.Oiv of) name, e) =
    absurd (bytes_other (codes "oev") (codes "oiv") refl (heads (codes "oev") (codes "oiv") (codes "back" ∷ words) (image_word of ∷ name ∷ []) e.words_are))
after_back_is words (list (tool.Ls path) name, e) =
    absurd (bytes_other (codes "oev") (codes "oiv") refl (heads (codes "oev") (codes "oiv") (codes "back" ∷ words) (codes "ls" ∷ name ∷ path ∷ []) e.words_are))
after_back_is words (list (tool.Back start epoch) name, e) = record {
  name = name;
  start = start;
  epoch = epoch;
  within = e.allowed;
  words_are = tails (codes "back") (codes "back") words (name ∷ decimal start ∷ decimal epoch ∷ [])
      (tails (codes "oev") (codes "oev") (codes "back" ∷ words) (codes "back" ∷ name ∷ decimal start ∷ decimal epoch ∷ []) e.words_are);
}

-- a name, and two words that are numbers from 1 to 2^62
back_of : (name start epoch : List ℕ) → is_number 1 greatest start ≡ true → is_number 1 greatest epoch ≡ true → IsCommand (codes "oev" ∷ codes "back" ∷ name ∷ start ∷ epoch ∷ [])
back_of name start epoch a b =
    let n = told_number 1 greatest start a in
    let e = told_number 1 greatest epoch b in (
      list (tool.Back (digits_value 10 start) (digits_value 10 epoch)) name,
      record {
        words_are = (λ i. codes "oev" ∷ codes "back" ∷ name ∷ sym n.1 i ∷ sym e.1 i ∷ []);
        allowed = record { some_start = n.2; start_within = n.3; some_epoch = e.2; epoch_within = e.3 };
      },
    )

-- a number to go on with
some_one : is_number 1 greatest (decimal 1) ≡ true
some_one = number_is 1 greatest 1 (omega arith) (omega arith) (omega arith)

-- words of which one is no such number
bad_start : (name start : List ℕ) (words : List (List ℕ)) → is_number 1 greatest start ≡ false → IsCommand (codes "oev" ∷ codes "back" ∷ name ∷ start ∷ words) → ⊥
bad_start name start words n c =
    let h = after_back_is (name ∷ start ∷ words) c in
    let rest = tails name h.name (start ∷ words) (decimal h.start ∷ decimal h.epoch ∷ []) h.words_are in
    let is : start ≡ decimal h.start = heads start (decimal h.start) words (decimal h.epoch ∷ []) rest in
    both_not (is_number 1 greatest start) n (ap (is_number 1 greatest) is ∙ number_is 1 greatest h.start (omega arith) h.within.some_start h.within.start_within)

bad_epoch : (name start epoch : List ℕ) (words : List (List ℕ)) → is_number 1 greatest epoch ≡ false → IsCommand (codes "oev" ∷ codes "back" ∷ name ∷ start ∷ epoch ∷ words) → ⊥
bad_epoch name start epoch words n c =
    let h = after_back_is (name ∷ start ∷ epoch ∷ words) c in
    let rest = tails name h.name (start ∷ epoch ∷ words) (decimal h.start ∷ decimal h.epoch ∷ []) h.words_are in
    let more = tails start (decimal h.start) (epoch ∷ words) (decimal h.epoch ∷ []) rest in
    let is : epoch ≡ decimal h.epoch = heads epoch (decimal h.epoch) words [] more in
    both_not (is_number 1 greatest epoch) n (ap (is_number 1 greatest) is ∙ number_is 1 greatest h.epoch (omega arith) h.within.some_epoch h.within.epoch_within)

-- too few words, and too many
not_named : (words : List (List ℕ)) → length words ≢ 3 → IsCommand (codes "oev" ∷ codes "back" ∷ words) → ⊥
not_named words n c = let h = after_back_is words c in n (ap length h.words_are)

epoch_first : (name start epoch : List ℕ) (words : List (List ℕ)) → is_number 1 greatest start ≡ true → is_number 1 greatest epoch ≡ true
    → MatchOption (after_epoch words) (IsCommand (codes "oev" ∷ codes "back" ∷ name ∷ start ∷ epoch ∷ words)) (StopAt (codes "oev" ∷ codes "back" ∷ name ∷ start ∷ epoch ∷ words))
epoch_first name start epoch [] a b = back_of name start epoch a b
epoch_first name start epoch (word ∷ words) a b = record {
  none = not_named (name ∷ start ∷ epoch ∷ word ∷ words) (λ e. absurd (omega (arith, e)));
  within = omega arith;
  before = ([], back_of name start epoch a b);
  further = λ l x. not_named (name ∷ start ∷ epoch ∷ word ∷ x.0) (λ e. absurd (omega (arith, e))) x.1;
}

start_first : (name start : List ℕ) (words : List (List ℕ)) → is_number 1 greatest start ≡ true
    → MatchOption (behind_start words) (IsCommand (codes "oev" ∷ codes "back" ∷ name ∷ start ∷ words)) (StopAt (codes "oev" ∷ codes "back" ∷ name ∷ start ∷ words))
start_first name start [] a = record {
  none = not_named (name ∷ start ∷ []) (λ e. absurd (omega (arith, e)));
  within = omega arith;
  before = (decimal 1 ∷ [], back_of name start (decimal 1) a some_one);
  further = λ l x. absurd (omega (arith, l));
}
start_first name start (epoch ∷ words) a = by (is_number 1 greatest epoch) refl
  where
    by : (t : Bool) → is_number 1 greatest epoch ≡ t → MatchOption (behind_start (epoch ∷ words)) (IsCommand (codes "oev" ∷ codes "back" ∷ name ∷ start ∷ epoch ∷ words))
        (StopAt (codes "oev" ∷ codes "back" ∷ name ∷ start ∷ epoch ∷ words))
    by true b = rw b (epoch_first name start epoch words a b)
    by false b = rw b (let stop : StopAt (codes "oev" ∷ codes "back" ∷ name ∷ start ∷ epoch ∷ words) 4 = record {
      none = bad_epoch name start epoch words b;
      within = omega arith;
      before = (decimal 1 ∷ [], back_of name start (decimal 1) a some_one);
      further = λ l x. bad_epoch name start epoch x.0 b x.1;
    } in stop)

name_first : (name : List ℕ) (words : List (List ℕ))
    → MatchOption (behind_name words) (IsCommand (codes "oev" ∷ codes "back" ∷ name ∷ words)) (StopAt (codes "oev" ∷ codes "back" ∷ name ∷ words))
name_first name [] = record {
  none = not_named (name ∷ []) (λ e. absurd (omega (arith, e)));
  within = omega arith;
  before = (decimal 1 ∷ decimal 1 ∷ [], back_of name (decimal 1) (decimal 1) some_one some_one);
  further = λ l x. absurd (omega (arith, l));
}
name_first name (start ∷ words) = by (is_number 1 greatest start) refl
  where
    by : (t : Bool) → is_number 1 greatest start ≡ t → MatchOption (behind_name (start ∷ words)) (IsCommand (codes "oev" ∷ codes "back" ∷ name ∷ start ∷ words))
        (StopAt (codes "oev" ∷ codes "back" ∷ name ∷ start ∷ words))
    by true a = rw a (start_first name start words a)
    by false a = rw a (let stop : StopAt (codes "oev" ∷ codes "back" ∷ name ∷ start ∷ words) 3 = record {
      none = bad_start name start words a;
      within = omega arith;
      before = (decimal 1 ∷ decimal 1 ∷ [], back_of name (decimal 1) (decimal 1) some_one some_one);
      further = λ l x. bad_start name start x.0 a x.1;
    } in stop)

back_first : (words : List (List ℕ)) → MatchOption (after_back words) (IsCommand (codes "oev" ∷ codes "back" ∷ words)) (StopAt (codes "oev" ∷ codes "back" ∷ words))
unfolding after_back
back_first [] = record {
  none = not_named [] (λ e. absurd (omega (arith, e)));
  within = omega arith;
  before = ([] ∷ decimal 1 ∷ decimal 1 ∷ [], back_of [] (decimal 1) (decimal 1) some_one some_one);
  further = λ l x. absurd (omega (arith, l));
}
back_first (name ∷ words) = name_first name words

oev_by : (word : List ℕ) (words : List (List ℕ)) (t : Bool) → bytes_eq word (codes "back") ≡ t
    → MatchOption (after_oev (word ∷ words)) (IsCommand (codes "oev" ∷ word ∷ words)) (StopAt (codes "oev" ∷ word ∷ words))
unfolding after_oev
oev_by word words true e =
    rw e (subst (λ w. MatchOption (after_back words) (IsCommand (codes "oev" ∷ w ∷ words)) (StopAt (codes "oev" ∷ w ∷ words))) (sym ((bytes_eq-Decides word (codes "back")).0 e)) (back_first words))
oev_by word words false e =
    rw e (listing_first (word ∷ words) (λ w others is. ap (λ x. bytes_eq x (codes "back")) (sym (heads word w words others is)) ∙ e))

oev_first : (words : List (List ℕ)) → MatchOption (after_oev words) (IsCommand (codes "oev" ∷ words)) (StopAt (codes "oev" ∷ words))
unfolding after_oev after_program
oev_first [] = listing_first [] (λ word others e. absurd (cc e))
oev_first (word ∷ words) = oev_by word words (bytes_eq word (codes "back")) refl

-- ## After `oiv ls`
-- what stands there in a command
record IsLs (words : List (List ℕ)) : Type 0 where
  pub name : List ℕ
  pub path : List ℕ
  pub begins : is_from_root path ≡ true
  pub words_are : words ≡ name ∷ path ∷ []

after_ls_is : (words : List (List ℕ)) → IsCommand (codes "oiv" ∷ codes "ls" ∷ words) → IsLs words
after_ls_is words (play, e) = absurd (bytes_other (codes "oiv") (codes "play") refl (heads (codes "oiv") (codes "play") (codes "ls" ∷ words) [] e.words_are))
after_ls_is words (run, e) = absurd (bytes_other (codes "oiv") (codes "run") refl (heads (codes "oiv") (codes "run") (codes "ls" ∷ words) [] e.words_are))
after_ls_is words (piped, e) = absurd (bytes_other (codes "oiv") (codes "piped") refl (heads (codes "oiv") (codes "piped") (codes "ls" ∷ words) [] e.words_are))
after_ls_is words (mirror, e) = absurd (bytes_other (codes "oiv") (codes "mirror") refl (heads (codes "oiv") (codes "mirror") (codes "ls" ∷ words) [] e.words_are))
after_ls_is words (boot, e) = absurd (bytes_other (codes "oiv") (codes "boot") refl (heads (codes "oiv") (codes "boot") (codes "ls" ∷ words) [] e.words_are))
after_ls_is words (node, e) = absurd (bytes_other (codes "oiv") (codes "node") refl (heads (codes "oiv") (codes "node") (codes "ls" ∷ words) [] e.words_are))
after_ls_is words (fsck, e) = absurd (bytes_other (codes "oiv") (codes "fsck") refl (heads (codes "oiv") (codes "fsck") (codes "ls" ∷ words) [] e.words_are))
after_ls_is words (judge, e) = absurd (bytes_other (codes "oiv") (codes "judge") refl (heads (codes "oiv") (codes "judge") (codes "ls" ∷ words) [] e.words_are))
after_ls_is words (states, e) = absurd (bytes_other (codes "oiv") (codes "states") refl (heads (codes "oiv") (codes "states") (codes "ls" ∷ words) [] e.words_are))
after_ls_is words (gen number edits nodes, e) = absurd (bytes_other (codes "oiv") (codes "gen") refl
    (heads (codes "oiv") (codes "gen") (codes "ls" ∷ words) (decimal number ∷ decimal edits ∷ decimal nodes ∷ []) e.words_are))
after_ls_is words (list (tool.Oev of) name, e) =
    absurd (bytes_other (codes "oiv") (codes "oev") refl (heads (codes "oiv") (codes "oev") (codes "ls" ∷ words) (segment_word of ∷ name ∷ []) e.words_are))
after_ls_is words (list (tool.Oiv of) name, e) =
    let is : codes "ls" ≡ image_word of =
    heads (codes "ls") (image_word of) words (name ∷ []) (tails (codes "oiv") (codes "oiv") (codes "ls" ∷ words) (image_word of ∷ name ∷ []) e.words_are) in
    absurd (bytes_other (image_word of) (codes "ls") (not_ls of) (sym is))
after_ls_is words (list (tool.Ls path) name, e) = record {
  name = name;
  path = path;
  begins = e.allowed;
  words_are = tails (codes "ls") (codes "ls") words (name ∷ path ∷ []) (tails (codes "oiv") (codes "oiv") (codes "ls" ∷ words) (codes "ls" ∷ name ∷ path ∷ []) e.words_are);
}
after_ls_is words (list (tool.Back start epoch) name, e) =
    absurd (bytes_other (codes "oiv") (codes "oev") refl (heads (codes "oiv") (codes "oev") (codes "ls" ∷ words) (codes "back" ∷ name ∷ decimal start ∷ decimal epoch ∷ []) e.words_are))

ls_of : (name path : List ℕ) → is_from_root path ≡ true → IsCommand (codes "oiv" ∷ codes "ls" ∷ name ∷ path ∷ [])
ls_of name path a = (list (tool.Ls path) name, record { words_are = refl; allowed = a })

bad_path : (name path : List ℕ) (words : List (List ℕ)) → is_from_root path ≡ false → IsCommand (codes "oiv" ∷ codes "ls" ∷ name ∷ path ∷ words) → ⊥
bad_path name path words n c =
    let h = after_ls_is (name ∷ path ∷ words) c in
    let is : path ≡ h.path = heads path h.path words [] (tails name h.name (path ∷ words) (h.path ∷ []) h.words_are) in
    both_not (is_from_root path) n (ap is_from_root is ∙ h.begins)

-- too few words, and too many
not_two : (words : List (List ℕ)) → length words ≢ 2 → IsCommand (codes "oiv" ∷ codes "ls" ∷ words) → ⊥
not_two words n c = let h = after_ls_is words c in n (ap length h.words_are)

path_first : (name path : List ℕ) (words : List (List ℕ)) → is_from_root path ≡ true
    → MatchOption (after_path words) (IsCommand (codes "oiv" ∷ codes "ls" ∷ name ∷ path ∷ words)) (StopAt (codes "oiv" ∷ codes "ls" ∷ name ∷ path ∷ words))
path_first name path [] a = ls_of name path a
path_first name path (word ∷ words) a = record {
  none = not_two (name ∷ path ∷ word ∷ words) (λ e. absurd (omega (arith, e)));
  within = omega arith;
  before = ([], ls_of name path a);
  further = λ l x. not_two (name ∷ path ∷ word ∷ x.0) (λ e. absurd (omega (arith, e))) x.1;
}

image_behind : (name : List ℕ) (words : List (List ℕ))
    → MatchOption (behind_image words) (IsCommand (codes "oiv" ∷ codes "ls" ∷ name ∷ words)) (StopAt (codes "oiv" ∷ codes "ls" ∷ name ∷ words))
image_behind name [] = record {
  none = not_two (name ∷ []) (λ e. absurd (omega (arith, e)));
  within = omega arith;
  before = (codes "/" ∷ [], ls_of name (codes "/") refl);
  further = λ l x. absurd (omega (arith, l));
}
image_behind name (path ∷ words) = by (is_from_root path) refl
  where
    by : (t : Bool) → is_from_root path ≡ t → MatchOption (behind_image (path ∷ words)) (IsCommand (codes "oiv" ∷ codes "ls" ∷ name ∷ path ∷ words))
        (StopAt (codes "oiv" ∷ codes "ls" ∷ name ∷ path ∷ words))
    by true a = rw a (path_first name path words a)
    by false a = rw a (let stop : StopAt (codes "oiv" ∷ codes "ls" ∷ name ∷ path ∷ words) 3 = record {
      none = bad_path name path words a;
      within = omega arith;
      before = (codes "/" ∷ [], ls_of name (codes "/") refl);
      further = λ l x. bad_path name path x.0 a x.1;
    } in stop)

ls_first : (words : List (List ℕ)) → MatchOption (after_ls words) (IsCommand (codes "oiv" ∷ codes "ls" ∷ words)) (StopAt (codes "oiv" ∷ codes "ls" ∷ words))
unfolding after_ls
ls_first [] = record {
  none = not_two [] (λ e. absurd (omega (arith, e)));
  within = omega arith;
  before = ([] ∷ codes "/" ∷ [], ls_of [] (codes "/") refl);
  further = λ l x. absurd (omega (arith, l));
}
ls_first (name ∷ words) = image_behind name words

oiv_by : (word : List ℕ) (words : List (List ℕ)) (t : Bool) → bytes_eq word (codes "ls") ≡ t
    → MatchOption (after_oiv (word ∷ words)) (IsCommand (codes "oiv" ∷ word ∷ words)) (StopAt (codes "oiv" ∷ word ∷ words))
unfolding after_oiv
oiv_by word words true e =
    rw e (subst (λ w. MatchOption (after_ls words) (IsCommand (codes "oiv" ∷ w ∷ words)) (StopAt (codes "oiv" ∷ w ∷ words))) (sym ((bytes_eq-Decides word (codes "ls")).0 e)) (ls_first words))
oiv_by word words false e =
    rw e (image_first (word ∷ words) (λ w others is. ap (λ x. bytes_eq x (codes "ls")) (sym (heads word w words others is)) ∙ e))

oiv_first : (words : List (List ℕ)) → MatchOption (after_oiv words) (IsCommand (codes "oiv" ∷ words)) (StopAt (codes "oiv" ∷ words))
unfolding after_oiv after_program
oiv_first [] = image_first [] (λ word others e. absurd (cc e))
oiv_first (word ∷ words) = oiv_by word words (bytes_eq word (codes "ls")) refl

-- ## After `gen`
-- what stands there in a command
record IsGen (words : List (List ℕ)) : Type 0 where
  pub number : ℕ
  pub edits : ℕ
  pub nodes : ℕ
  pub within : IsWithin number edits nodes
  pub words_are : words ≡ decimal number ∷ decimal edits ∷ decimal nodes ∷ []

after_gen_is : (words : List (List ℕ)) → IsCommand (codes "gen" ∷ words) → IsGen words
after_gen_is words (play, e) = absurd (bytes_other (codes "gen") (codes "play") refl (heads (codes "gen") (codes "play") words [] e.words_are))
after_gen_is words (run, e) = absurd (bytes_other (codes "gen") (codes "run") refl (heads (codes "gen") (codes "run") words [] e.words_are))
after_gen_is words (piped, e) = absurd (bytes_other (codes "gen") (codes "piped") refl (heads (codes "gen") (codes "piped") words [] e.words_are))
after_gen_is words (mirror, e) = absurd (bytes_other (codes "gen") (codes "mirror") refl (heads (codes "gen") (codes "mirror") words [] e.words_are))
after_gen_is words (boot, e) = absurd (bytes_other (codes "gen") (codes "boot") refl (heads (codes "gen") (codes "boot") words [] e.words_are))
after_gen_is words (node, e) = absurd (bytes_other (codes "gen") (codes "node") refl (heads (codes "gen") (codes "node") words [] e.words_are))
after_gen_is words (fsck, e) = absurd (bytes_other (codes "gen") (codes "fsck") refl (heads (codes "gen") (codes "fsck") words [] e.words_are))
after_gen_is words (judge, e) = absurd (bytes_other (codes "gen") (codes "judge") refl (heads (codes "gen") (codes "judge") words [] e.words_are))
after_gen_is words (states, e) = absurd (bytes_other (codes "gen") (codes "states") refl (heads (codes "gen") (codes "states") words [] e.words_are))
after_gen_is words (gen number edits nodes, e) = record {
  number = number;
  edits = edits;
  nodes = nodes;
  within = e.allowed;
  words_are = tails (codes "gen") (codes "gen") words (decimal number ∷ decimal edits ∷ decimal nodes ∷ []) e.words_are;
}
after_gen_is words (list (tool.Oev of) name, e) = absurd (bytes_other (codes "gen") (codes "oev") refl (heads (codes "gen") (codes "oev") words (segment_word of ∷ name ∷ []) e.words_are))
after_gen_is words (list (tool.Back start epoch) name, e) =
    absurd (bytes_other (codes "gen") (codes "oev") refl (heads (codes "gen") (codes "oev") words (codes "back" ∷ name ∷ decimal start ∷ decimal epoch ∷ []) e.words_are))
after_gen_is words (list (tool.Ls path) name, e) = absurd (bytes_other (codes "gen") (codes "oiv") refl (heads (codes "gen") (codes "oiv") words (codes "ls" ∷ name ∷ path ∷ []) e.words_are))
after_gen_is words (list (tool.Oiv of) name, e) = absurd (bytes_other (codes "gen") (codes "oiv") refl (heads (codes "gen") (codes "oiv") words (image_word of ∷ name ∷ []) e.words_are))

-- three words that are numbers in their ranges
gen_of : (number edits nodes : List ℕ) → is_number 0 greatest number ≡ true → is_number 0 10000 edits ≡ true → is_number 1 most_nodes nodes ≡ true → IsCommand (codes "gen" ∷ number ∷ edits ∷ nodes ∷ [])
gen_of number edits nodes a b c =
    let n = told_number 0 greatest number a in
    let e = told_number 0 10000 edits b in
    let k = told_number 1 most_nodes nodes c in (
      gen (digits_value 10 number) (digits_value 10 edits) (digits_value 10 nodes),
      record {
        words_are = (λ i. codes "gen" ∷ sym n.1 i ∷ sym e.1 i ∷ sym k.1 i ∷ []);
        allowed = record { number_fits = n.3; few_edits = e.3; permitted = (k.2, k.3) };
      },
    )

-- numbers to go on with
some_number : is_number 0 greatest (decimal 0) ≡ true
some_number = number_is 0 greatest 0 (omega arith) (omega arith) (omega arith)

some_edits : is_number 0 10000 (decimal 0) ≡ true
some_edits = number_is 0 10000 0 (omega arith) (omega arith) (omega arith)

some_nodes : is_number 1 most_nodes (decimal 1) ≡ true
some_nodes = number_is 1 most_nodes 1 (omega arith) (omega arith) (omega arith)

-- words of which one is no number of its range
bad_number : (number : List ℕ) (words : List (List ℕ)) → is_number 0 greatest number ≡ false → IsCommand (codes "gen" ∷ number ∷ words) → ⊥
bad_number number words n c =
    let h = after_gen_is (number ∷ words) c in
    let is : number ≡ decimal h.number = heads number (decimal h.number) words (decimal h.edits ∷ decimal h.nodes ∷ []) h.words_are in
    both_not (is_number 0 greatest number) n (ap (is_number 0 greatest) is ∙ number_is 0 greatest h.number (omega arith) (omega arith) h.within.number_fits)

bad_edits : (number edits : List ℕ) (words : List (List ℕ)) → is_number 0 10000 edits ≡ false → IsCommand (codes "gen" ∷ number ∷ edits ∷ words) → ⊥
bad_edits number edits words n c =
    let h = after_gen_is (number ∷ edits ∷ words) c in
    let rest = tails number (decimal h.number) (edits ∷ words) (decimal h.edits ∷ decimal h.nodes ∷ []) h.words_are in
    let is : edits ≡ decimal h.edits = heads edits (decimal h.edits) words (decimal h.nodes ∷ []) rest in
    both_not (is_number 0 10000 edits) n (ap (is_number 0 10000) is ∙ number_is 0 10000 h.edits (omega arith) (omega arith) h.within.few_edits)

bad_nodes : (number edits nodes : List ℕ) (words : List (List ℕ)) → is_number 1 most_nodes nodes ≡ false → IsCommand (codes "gen" ∷ number ∷ edits ∷ nodes ∷ words) → ⊥
bad_nodes number edits nodes words n c =
    let h = after_gen_is (number ∷ edits ∷ nodes ∷ words) c in
    let rest = tails number (decimal h.number) (edits ∷ nodes ∷ words) (decimal h.edits ∷ decimal h.nodes ∷ []) h.words_are in
    let more = tails edits (decimal h.edits) (nodes ∷ words) (decimal h.nodes ∷ []) rest in
    let is : nodes ≡ decimal h.nodes = heads nodes (decimal h.nodes) words [] more in
    both_not (is_number 1 most_nodes nodes) n (ap (is_number 1 most_nodes) is ∙ number_is 1 most_nodes h.nodes (omega arith) h.within.permitted.0 h.within.permitted.1)

-- too few of them, and too many
not_three : (words : List (List ℕ)) → length words ≢ 3 → IsCommand (codes "gen" ∷ words) → ⊥
not_three words n c = let h = after_gen_is words c in n (ap length h.words_are)

nodes_first : (number edits nodes : List ℕ) (words : List (List ℕ)) → is_number 0 greatest number ≡ true → is_number 0 10000 edits ≡ true → is_number 1 most_nodes nodes ≡ true
    → MatchOption (after_nodes words) (IsCommand (codes "gen" ∷ number ∷ edits ∷ nodes ∷ words)) (StopAt (codes "gen" ∷ number ∷ edits ∷ nodes ∷ words))
nodes_first number edits nodes [] a b c = gen_of number edits nodes a b c
nodes_first number edits nodes (word ∷ words) a b c = record {
  none = not_three (number ∷ edits ∷ nodes ∷ word ∷ words) (λ e. absurd (omega (arith, e)));
  within = omega arith;
  before = ([], gen_of number edits nodes a b c);
  further = λ l x. not_three (number ∷ edits ∷ nodes ∷ word ∷ x.0) (λ e. absurd (omega (arith, e))) x.1;
}

edits_first : (number edits : List ℕ) (words : List (List ℕ)) → is_number 0 greatest number ≡ true → is_number 0 10000 edits ≡ true
    → MatchOption (behind_edits words) (IsCommand (codes "gen" ∷ number ∷ edits ∷ words)) (StopAt (codes "gen" ∷ number ∷ edits ∷ words))
edits_first number edits [] a b = record {
  none = not_three (number ∷ edits ∷ []) (λ e. absurd (omega (arith, e)));
  within = omega arith;
  before = (decimal 1 ∷ [], gen_of number edits (decimal 1) a b some_nodes);
  further = λ l x. absurd (omega (arith, l));
}
edits_first number edits (nodes ∷ words) a b = by (is_number 1 most_nodes nodes) refl
  where
    by : (t : Bool) → is_number 1 most_nodes nodes ≡ t → MatchOption (behind_edits (nodes ∷ words)) (IsCommand (codes "gen" ∷ number ∷ edits ∷ nodes ∷ words))
        (StopAt (codes "gen" ∷ number ∷ edits ∷ nodes ∷ words))
    by true c = rw c (nodes_first number edits nodes words a b c)
    by false c = rw c (let stop : StopAt (codes "gen" ∷ number ∷ edits ∷ nodes ∷ words) 3 = record {
      none = bad_nodes number edits nodes words c;
      within = omega arith;
      before = (decimal 1 ∷ [], gen_of number edits (decimal 1) a b some_nodes);
      further = λ l x. bad_nodes number edits nodes x.0 c x.1;
    } in stop)

number_first : (number : List ℕ) (words : List (List ℕ)) → is_number 0 greatest number ≡ true
    → MatchOption (after_number words) (IsCommand (codes "gen" ∷ number ∷ words)) (StopAt (codes "gen" ∷ number ∷ words))
number_first number [] a = record {
  none = not_three (number ∷ []) (λ e. absurd (omega (arith, e)));
  within = omega arith;
  before = (decimal 0 ∷ decimal 1 ∷ [], gen_of number (decimal 0) (decimal 1) a some_edits some_nodes);
  further = λ l x. absurd (omega (arith, l));
}
number_first number (edits ∷ words) a = by (is_number 0 10000 edits) refl
  where
    by : (t : Bool) → is_number 0 10000 edits ≡ t → MatchOption (after_number (edits ∷ words)) (IsCommand (codes "gen" ∷ number ∷ edits ∷ words)) (StopAt (codes "gen" ∷ number ∷ edits ∷ words))
    by true b = rw b (edits_first number edits words a b)
    by false b = rw b (let stop : StopAt (codes "gen" ∷ number ∷ edits ∷ words) 2 = record {
      none = bad_edits number edits words b;
      within = omega arith;
      before = (decimal 0 ∷ decimal 1 ∷ [], gen_of number (decimal 0) (decimal 1) a some_edits some_nodes);
      further = λ l x. bad_edits number edits x.0 b x.1;
    } in stop)

gen_first : (words : List (List ℕ)) → MatchOption (after_gen words) (IsCommand (codes "gen" ∷ words)) (StopAt (codes "gen" ∷ words))
unfolding after_gen
gen_first [] = record {
  none = not_three [] (λ e. absurd (omega (arith, e)));
  within = omega arith;
  before = (decimal 0 ∷ decimal 0 ∷ decimal 1 ∷ [], gen_of (decimal 0) (decimal 0) (decimal 1) some_number some_edits some_nodes);
  further = λ l x. absurd (omega (arith, l));
}
gen_first (number ∷ words) = by (is_number 0 greatest number) refl
  where
    by : (t : Bool) → is_number 0 greatest number ≡ t → MatchOption (after_gen (number ∷ words)) (IsCommand (codes "gen" ∷ number ∷ words)) (StopAt (codes "gen" ∷ number ∷ words))
    by true a = rw a (number_first number words a)
    by false a = rw a (let stop : StopAt (codes "gen" ∷ number ∷ words) 1 = record {
      none = bad_number number words a;
      within = omega arith;
      before = (decimal 0 ∷ decimal 0 ∷ decimal 1 ∷ [], gen_of (decimal 0) (decimal 0) (decimal 1) some_number some_edits some_nodes);
      further = λ l x. bad_number number x.0 a x.1;
    } in stop)

-- ## All words
first_by : (word : List ℕ) (words : List (List ℕ)) (a o p q : Bool) → is_alone word ≡ a → bytes_eq word (codes "oev") ≡ o → bytes_eq word (codes "oiv") ≡ p → bytes_eq word (codes "gen") ≡ q
    → MatchOption (usage_of (word ∷ words)) (IsCommand (word ∷ words)) (StopAt (word ∷ words))
unfolding usage_of
first_by word words true o p q e h k g = rw e (alone_first word words e (alone_word word e))
first_by word words false true p q e h k g =
    rw (e, h) (subst (λ w. MatchOption (after_oev words) (IsCommand (w ∷ words)) (StopAt (w ∷ words))) (sym ((bytes_eq-Decides word (codes "oev")).0 h)) (oev_first words))
first_by word words false false true q e h k g =
    rw (e, h, k) (subst (λ w. MatchOption (after_oiv words) (IsCommand (w ∷ words)) (StopAt (w ∷ words))) (sym ((bytes_eq-Decides word (codes "oiv")).0 k)) (oiv_first words))
first_by word words false false false true e h k g =
    rw (e, h, k, g) (subst (λ w. MatchOption (after_gen words) (IsCommand (w ∷ words)) (StopAt (w ∷ words))) (sym ((bytes_eq-Decides word (codes "gen")).0 g)) (gen_first words))
first_by word words false false false false e h k g =
    rw (e, h, k, g) (wrong_first word words e (bytes_other word (codes "oev") h) (bytes_other word (codes "oiv") k) (bytes_other word (codes "gen") g))

no_word : StopAt [] 0
no_word = record {
  none = λ c. no_words c.0 c.1.words_are;
  within = omega arith;
  before = (codes "play" ∷ [], some_play);
  further = λ l b. absurd (omega (arith, l));
}

pub first_wrong_word : UsageIsOfFirstWrongWord
unfolding usage_of
first_wrong_word [] = no_word
first_wrong_word (word ∷ words) = first_by word words (is_alone word) (bytes_eq word (codes "oev")) (bytes_eq word (codes "oiv")) (bytes_eq word (codes "gen")) refl refl refl refl

-- ## A command's words are no others'
-- words that are a command's have no wrong one
pub right_words : (words : List (List ℕ)) (asked : Asked) (place : ℕ) → AskFor words asked → usage_of words ≡ Some place → ⊥
right_words words asked place is wrong = (subst (λ o. MatchOption o (IsCommand words) (StopAt words)) wrong (first_wrong_word words)).none (asked, is)

-- the words of a command have no wrong one
pub no_wrong_word : (words : List (List ℕ)) (asked : Asked) → AskFor words asked → usage_of words ≡ None
no_wrong_word words asked is = by (usage_of words) refl
  where
    by : (o : Option ℕ) → usage_of words ≡ o → o ≡ None
    by None e = refl
    by (Some place) e = absurd (right_words words asked place is e)

-- the words that ask for pipes
pub asks_pipes : (words : List (List ℕ)) → asks_piped words ≡ true → AskFor words piped
unfolding asks_piped
asks_pipes [] t = absurd (cc t)
asks_pipes (word ∷ []) t = record { words_are = ap (λ (w : List ℕ). w ∷ []) ((bytes_eq-Decides word (codes "piped")).0 t); allowed = tt }
asks_pipes (word ∷ other ∷ words) t = absurd (cc t)

pub pipes_asked : (words : List (List ℕ)) → AskFor words piped → asks_piped words ≡ true
unfolding asks_piped
pipes_asked words is = ap asks_piped is.words_are
