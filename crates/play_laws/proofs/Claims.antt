-- Which result lines claim that something is acknowledged, and what those claim.
use Rattle.std.proofs.Common.{◌≡◌, ◌≢◌, ℕ, suc, ◌+◌, ◌-◌, ◌<◌, ◌≤◌, ◌^◌, List, [], ◌∷◌, ◌++◌, Bool, true, false, true≢false, refl, sym, ap, ◌∙◌}
use Rattle.std.proofs.Common.{subst, arith, length, drop, get_or, map, append-nil, length-append}
use Rattle.std.specs.Prelude.{Option, Some, None, ◌&&◌, ◌||◌, ◌==◌, nat_lt, nat_le, codes, decimal}
use Rattle.std.specs.Str.Parse.{AllDigits}
use Rattle.std.proofs.lemmas.Bool.Decides.{nat_tests}
use Rattle.std.proofs.lemmas.Fmt.{decimal_injective, decimal_is_IsNumeral}
use Rattle.std.proofs.lemmas.Str.Parse.{digit_from_value}
use Rattle.edit_ops.specs.Records.{EditView, record_of}
use Rattle.ns_edits.specs.declared.refusal.AdmitRefusal.{AdmitRefusal}
use Rattle.ns_edits.specs.declared.refusal.AdmitRefusal.TheVariants as refusal
use Rattle.ns_edits.specs.Admit.{Refusal, admit_of}
use Rattle.writer_core.specs.declared.task.Task.{Task}
use Rattle.writer_core.specs.declared.task.Task.TheVariants as task
use Rattle.writer_core.specs.declared.cause.Cause.{Cause}
use Rattle.writer_core.specs.Views.{WriterView}
use Rattle.writer_core.specs.Rounds.{start_record, end_record}
use Rattle.writer_core.specs.Writer.{log_limit}
use Rattle.journal_history.specs.Entries.{Entry}
use Rattle.mesh.specs.declared.whole.Mesh.{Mesh}
use Rattle.play_script.specs.Lines.{Lacks}
use Rattle.play_script.proofs.WordLaws.{words_more, words_all}
use Rattle.play_names.specs.Submissions.{Due, Pends, Refused, Repeats, TooLong, Submission, unless_long, unless_refused, submit_edits}
use Rattle.play_names.specs.Tails.{TailEnd, Caught, Reached, PurgedFrom, BehindBy}
use Rattle.play_names.specs.Results.{word, took, cause_words, name_of, for_each, acked_from, inactive_results, too_long_results, aborted_results}
use Rattle.play_names.specs.Results.{refusal_text, dues_logged, dues_aborted, abort_text}
use Rattle.play_model.specs.Actor.{tail_text, entry_text}
use Rattle.play_model.specs.Safe.{AllOn}
use Rattle.play_laws.specs.Acked.{IsAckedBy, IsRecordBy}

-- ## Texts that begin with the word of a claim
abbrev pub begins : List ℕ → List ℕ → Bool
begins [] text = true
begins (x ∷ xs) [] = false
begins (x ∷ xs) (y ∷ ys) = (x == y) && begins xs ys

-- a digit stands at that place, and no letter
abbrev digit_at : ℕ → List ℕ → Bool
digit_at k text = nat_lt (get_or text k 58) 58

abbrev pub claims : List ℕ → Bool
claims text =
    begins (codes "acked ") text
    || ((begins (codes "takeover ") text && digit_at 9 text)
    || ((begins (codes "roll ") text && digit_at 5 text)
    || (begins (codes "close ") text && digit_at 6 text)))

-- ## Numbers, read back
digits_lack : (ds : List ℕ) → AllDigits 10 ds → Lacks 32 ds
digits_lack [] d = tt
digits_lack (x ∷ xs) d = ((λ e. let low : 48 ≤ x = (digit_from_value x d.0).0 in omega (arith, low, e)), digits_lack xs d.1)

number_lacks : (n : ℕ) → n < 2 ^ 64 → Lacks 32 (decimal n)
number_lacks n small = digits_lack (decimal n) (decimal_is_IsNumeral n small).0.1

digit_first : (ds more : List ℕ) → 0 < length ds → AllDigits 10 ds → digit_at 0 (ds ++ more) ≡ true
digit_first [] more some d = absurd (omega (arith, some))
digit_first (x ∷ xs) more some d = let high : x ≤ 57 = (digit_from_value x d.0).1 in below_58 x high
  where
    below_58 : (x : ℕ) → x ≤ 57 → nat_lt x 58 ≡ true
    below_58 x h = grind (arith, nat_tests)

number_first : (n : ℕ) (more : List ℕ) → n < 2 ^ 64 → digit_at 0 (decimal n ++ more) ≡ true
number_first n more small = let d = decimal_is_IsNumeral n small in digit_first (decimal n) more d.0.0 d.0.1

pairs_same : (a b c d : ℕ) → a < 2 ^ 64 → b < 2 ^ 64 → c < 2 ^ 64 → d < 2 ^ 64 → decimal a ++ 32 ∷ decimal b ≡ decimal c ++ 32 ∷ decimal d → (a ≡ c) × (b ≡ d)
pairs_same a b c d fa fb fc fd e = (decimal_injective a c fa fc (ap (λ (l : List (List ℕ)). get_or l 0 []) both), decimal_injective b d fb fd (ap (λ (l : List (List ℕ)). get_or l 1 []) both))
  where
    text : List ℕ
    text = decimal a ++ 32 ∷ decimal b

    both : decimal a ∷ decimal b ∷ [] ≡ decimal c ∷ decimal d ∷ []
    both =
        sym (words_more text (decimal a) (decimal b) refl (number_lacks a fa) ∙ ap (λ (l : List (List ℕ)). decimal a ∷ l) (words_all (decimal b) (number_lacks b fb)))
        ∙ (words_more text (decimal c) (decimal d) e (number_lacks c fc) ∙ ap (λ (l : List (List ℕ)). decimal c ∷ l) (words_all (decimal d) (number_lacks d fd)))

-- a digit, or a letter, after the word
number_alone : (n : ℕ) → n < 2 ^ 64 → digit_at 0 (decimal n) ≡ true
number_alone n small = subst (λ (l : List ℕ). digit_at 0 l ≡ true) (append-nil (decimal n)) (number_first n [] small)

takeover_claims : (epoch first : ℕ) → epoch < 2 ^ 64 → claims (took epoch first) ≡ true
takeover_claims epoch first small = ap (λ (b : Bool). b || false) (number_first epoch (32 ∷ decimal first) small)

roll_claims : (n : ℕ) → n < 2 ^ 64 → claims (word (codes "roll") n) ≡ true
roll_claims n small = ap (λ (b : Bool). b || false) (number_alone n small)

close_claims : (n : ℕ) → n < 2 ^ 64 → claims (word (codes "close") n) ≡ true
close_claims n small = number_alone n small

inactive_claims : (t : Task) → claims (name_of t ++ codes "inactive") ≡ false
unfolding name_of
inactive_claims task.Takeover = refl
inactive_claims (task.Log bodies) = refl
inactive_claims task.Roll = refl
inactive_claims task.Close = refl
inactive_claims (task.Purge min) = refl

aborted_claims : (t : Task) (causes : List Cause) → claims (name_of t ++ codes "aborted" ++ cause_words causes) ≡ false
unfolding name_of
aborted_claims task.Takeover causes = refl
aborted_claims (task.Log bodies) causes = refl
aborted_claims task.Roll causes = refl
aborted_claims task.Close causes = refl
aborted_claims (task.Purge min) causes = refl

refusal_claims : (r : AdmitRefusal) → claims (refusal_text r) ≡ false
unfolding refusal_text
refusal_claims refusal.NoParent = refl
refusal_claims refusal.Exists = refl
refusal_claims refusal.Missing = refl
refusal_claims refusal.NotDirectory = refl
refusal_claims refusal.NotFile = refl
refusal_claims refusal.NotEmpty = refl
refusal_claims refusal.UnderConstruction = refl
refusal_claims refusal.Root = refl
refusal_claims refusal.IntoItself = refl
refusal_claims refusal.BadName = refl
refusal_claims refusal.BadNumber = refl
refusal_claims (refusal.RepeatedCall txid) = refl

pub abort_claims : (causes : List Cause) → claims (abort_text causes) ≡ false
unfolding abort_text
abort_claims causes = refl

pub trim_claims : (causes : List Cause) → claims (codes "trim " ++ abort_text causes) ≡ false
trim_claims causes = refl

pub tail_claims : (position : ℕ) (end : TailEnd) → claims (tail_text position end) ≡ false
unfolding tail_text
tail_claims position Caught = refl
tail_claims position Reached = refl
tail_claims position (PurgedFrom first) = refl
tail_claims position (BehindBy causes) = refl

pub entry_claims : (position : ℕ) (end : TailEnd) → claims (entry_text position end) ≡ false
unfolding entry_text
entry_claims position Caught = refl
entry_claims position Reached = refl
entry_claims position (PurgedFrom first) = refl
entry_claims position (BehindBy causes) = refl

-- texts that begin with other codes
abbrev first_code : List ℕ → ℕ
first_code text = get_or text 0 0

other_first : (a b : ℕ) → a ≡ b → a ≢ b → ⊥
other_first a b e off = off e

-- ## Edits that were submitted: as many bodies as edits that pend
abbrev pub pends_in : List Due → ℕ
pends_in [] = 0
pends_in (Pends ∷ ds) = suc (pends_in ds)
pends_in (Refused r ∷ ds) = pends_in ds
pends_in (Repeats t pends ∷ ds) = pends_in ds
pends_in (TooLong number ∷ ds) = pends_in ds

due_more : (ds : List Due) (d : Due) → pends_in (ds ++ d ∷ []) ≡ pends_in ds + pends_in (d ∷ [])
due_more [] d = omega arith
due_more (Pends ∷ ds) d = omega (arith, due_more ds d)
due_more (Refused r ∷ ds) d = due_more ds d
due_more (Repeats t pends ∷ ds) d = due_more ds d
due_more (TooLong number ∷ ds) d = due_more ds d

abbrev pub AreAsMany : Submission → Type 0
AreAsMany x = length x.bodies ≡ pends_in x.dues

long_many : (o : Option ℕ) (txid : ℕ) (e : EditView) (x : Submission) → AreAsMany x → AreAsMany (unless_long o txid e x)
long_many (Some number) txid e x h = omega (arith, h, due_more x.dues (TooLong number))
long_many None txid e x h = omega (arith, h, due_more x.dues Pends, length-append x.bodies (record_of e ∷ []))

refused_many : (next : ℕ) (r : Refusal) (y x : Submission) → AreAsMany y → AreAsMany x → AreAsMany (unless_refused next r y x)
refused_many next None y x g h = g
refused_many next (Some r) y x g h = by r
  where
    by : (r : AdmitRefusal) → AreAsMany (unless_refused next (Some r) y x)
    by (refusal.RepeatedCall txid) = omega (arith, h, due_more x.dues (Repeats txid (nat_le next txid)))
    by refusal.NoParent = omega (arith, h, due_more x.dues (Refused refusal.NoParent))
    by refusal.Exists = omega (arith, h, due_more x.dues (Refused refusal.Exists))
    by refusal.Missing = omega (arith, h, due_more x.dues (Refused refusal.Missing))
    by refusal.NotDirectory = omega (arith, h, due_more x.dues (Refused refusal.NotDirectory))
    by refusal.NotFile = omega (arith, h, due_more x.dues (Refused refusal.NotFile))
    by refusal.NotEmpty = omega (arith, h, due_more x.dues (Refused refusal.NotEmpty))
    by refusal.UnderConstruction = omega (arith, h, due_more x.dues (Refused refusal.UnderConstruction))
    by refusal.Root = omega (arith, h, due_more x.dues (Refused refusal.Root))
    by refusal.IntoItself = omega (arith, h, due_more x.dues (Refused refusal.IntoItself))
    by refusal.BadName = omega (arith, h, due_more x.dues (Refused refusal.BadName))
    by refusal.BadNumber = omega (arith, h, due_more x.dues (Refused refusal.BadNumber))

pub submitted_many : (w : WriterView) (es : List EditView) (x : Submission) → AreAsMany x → AreAsMany (submit_edits w es x)
unfolding submit_edits
submitted_many w [] x h = h
submitted_many w (e ∷ es) x h =
    let y : Submission = unless_long (log_limit w (x.bodies ++ record_of e ∷ [])) (w.next + length x.bodies) e x in
    submitted_many w es (unless_refused w.next (admit_of x.ahead e) y x)
    (refused_many w.next (admit_of x.ahead e) y x (long_many (log_limit w (x.bodies ++ record_of e ∷ [])) (w.next + length x.bodies) e x h) h)

-- ## What a text claims
module _ (m : Mesh) (entries : List Entry) (c : ℕ) where
  -- all of it is acknowledged
  pub record Tells (text : List ℕ) : Type 0 where
    pub edits : (txid : ℕ) → txid < 2 ^ 64 → text ≡ word (codes "acked") txid → IsAckedBy m entries c txid
    pub takeovers :
        (epoch first : ℕ) → epoch < 2 ^ 64 → first < 2 ^ 64 → text ≡ took epoch first
        → (x : IsRecordBy m entries c first start_record) × (x.0.epoch ≡ epoch)
    pub rolls :
        (start : ℕ) → start < 2 ^ 64 → text ≡ word (codes "roll") start
        → IsRecordBy m entries c start start_record × IsRecordBy m entries c (start - 1) end_record
    pub closes : (last : ℕ) → last < 2 ^ 64 → text ≡ word (codes "close") last → IsRecordBy m entries c last end_record

  -- a text with no claim
  pub tells_nothing : (text : List ℕ) → claims text ≡ false → Tells text
  tells_nothing text none = record {
    edits = λ txid small is. absurd (true≢false (sym (ap claims is) ∙ none));
    takeovers = λ epoch first small fits is. absurd (true≢false (sym (takeover_claims epoch first small) ∙ sym (ap claims is) ∙ none));
    rolls = λ start small is. absurd (true≢false (sym (roll_claims start small) ∙ sym (ap claims is) ∙ none));
    closes = λ last small is. absurd (true≢false (sym (close_claims last small) ∙ sym (ap claims is) ∙ none));
  }

  -- a text with one claim
  pub edit_tells : (t : ℕ) → t < 2 ^ 64 → IsAckedBy m entries c t → Tells (word (codes "acked") t)
  edit_tells t small a = record {
    edits = λ txid fits is. subst (λ (n : ℕ). IsAckedBy m entries c n) (decimal_injective t txid small fits (ap (λ (l : List ℕ). drop 6 l) is)) a;
    takeovers = λ epoch first s f is. absurd (other_first 97 116 (ap first_code is) (omega arith));
    rolls = λ start s is. absurd (other_first 97 114 (ap first_code is) (omega arith));
    closes = λ last s is. absurd (other_first 97 99 (ap first_code is) (omega arith));
  }

  pub takeover_tells : (epoch first : ℕ) → epoch < 2 ^ 64 → first < 2 ^ 64 → (x : IsRecordBy m entries c first start_record) → x.0.epoch ≡ epoch → Tells (took epoch first)
  takeover_tells epoch first small fits x under = record {
    edits = λ txid s is. absurd (other_first 116 97 (ap first_code is) (omega arith));
    takeovers = λ e f se sf is.
        let same : (epoch ≡ e) × (first ≡ f) = pairs_same epoch first e f small fits se sf (ap (λ (l : List ℕ). drop 9 l) is) in
        subst (λ (n : ℕ). (y : IsRecordBy m entries c n start_record) × (y.0.epoch ≡ e)) same.1 (x, under ∙ same.0);
    rolls = λ start s is. absurd (other_first 116 114 (ap first_code is) (omega arith));
    closes = λ last s is. absurd (other_first 116 99 (ap first_code is) (omega arith));
  }

  pub roll_tells : (t : ℕ) → t < 2 ^ 64 → IsRecordBy m entries c t start_record → IsRecordBy m entries c (t - 1) end_record → Tells (word (codes "roll") t)
  roll_tells t small x y = record {
    edits = λ txid s is. absurd (other_first 114 97 (ap first_code is) (omega arith));
    takeovers = λ epoch first s f is. absurd (other_first 114 116 (ap first_code is) (omega arith));
    rolls = λ start fits is.
        subst (λ (n : ℕ). IsRecordBy m entries c n start_record × IsRecordBy m entries c (n - 1) end_record)
        (decimal_injective t start small fits (ap (λ (l : List ℕ). drop 5 l) is)) (x, y);
    closes = λ last s is. absurd (other_first 114 99 (ap first_code is) (omega arith));
  }

  pub close_tells : (t : ℕ) → t < 2 ^ 64 → IsRecordBy m entries c t end_record → Tells (word (codes "close") t)
  close_tells t small x = record {
    edits = λ txid s is. absurd (other_first 99 97 (ap first_code is) (omega arith));
    takeovers = λ epoch first s f is. absurd (other_first 99 116 (ap first_code is) (omega arith));
    rolls = λ start s is. absurd (other_first 99 114 (ap first_code is) (omega arith));
    closes = λ last fits is. subst (λ (n : ℕ). IsRecordBy m entries c n end_record) (decimal_injective t last small fits (ap (λ (l : List ℕ). drop 6 l) is)) x;
  }

  -- ## Lists of texts
  abbrev pub TellAll : List (List ℕ) → Type 0
  TellAll [] = Unit {0}
  TellAll (text ∷ texts) = Tells text × TellAll texts

  pub tell_rest : (texts : List (List ℕ)) → TellAll texts → TellAll (drop 1 texts)
  tell_rest [] t = tt
  tell_rest (text ∷ texts) t = t.1

  pub one_tells : (text : List ℕ) → claims text ≡ false → TellAll (text ∷ [])
  one_tells text none = (tells_nothing text none, tt)

  pub repeated_tell : {A : Type 0} (xs : List A) (text : List ℕ) → claims text ≡ false → TellAll (map (λ x. text) xs)
  repeated_tell [] text none = tt
  repeated_tell (x ∷ xs) text none = (tells_nothing text none, repeated_tell xs text none)

  each_tells : (t : Task) (text : List ℕ) → claims text ≡ false → TellAll (for_each t text)
  unfolding for_each
  each_tells (task.Log bodies) text none = repeated_tell bodies text none
  each_tells task.Takeover text none = one_tells text none
  each_tells task.Roll text none = one_tells text none
  each_tells task.Close text none = one_tells text none
  each_tells (task.Purge min) text none = one_tells text none

  pub inactive_tell : (t : Task) → TellAll (inactive_results t)
  unfolding inactive_results
  inactive_tell t = each_tells t (name_of t ++ codes "inactive") (inactive_claims t)

  pub long_tell : (t : Task) (number : ℕ) → TellAll (too_long_results t number)
  unfolding too_long_results
  long_tell t number = each_tells t (word (codes "toolong") number) refl

  pub aborted_tell : (t : Task) (causes : List Cause) → TellAll (aborted_results t causes)
  aborted_tell t causes = each_tells t (name_of t ++ codes "aborted" ++ cause_words causes) (aborted_claims t causes)

  -- what became of edits that were submitted
  pub lost_tell : (text : List ℕ) (dues : List Due) → claims text ≡ false → TellAll (dues_aborted text dues)
  unfolding dues_aborted
  lost_tell text [] none = tt
  lost_tell text (Pends ∷ ds) none = (tells_nothing text none, lost_tell text ds none)
  lost_tell text (Refused r ∷ ds) none = (tells_nothing (refusal_text r) (refusal_claims r), lost_tell text ds none)
  lost_tell text (Repeats t true ∷ ds) none = (tells_nothing text none, lost_tell text ds none)
  lost_tell text (Repeats t false ∷ ds) none = (tells_nothing (word (codes "repeated") t) refl, lost_tell text ds none)
  lost_tell text (TooLong number ∷ ds) none = (tells_nothing (word (codes "toolong") number) refl, lost_tell text ds none)

  pub none_tell : (txid : ℕ) (dues : List Due) → pends_in dues ≡ 0 → TellAll (dues_logged txid dues)
  unfolding dues_logged
  none_tell txid [] none = tt
  none_tell txid (Pends ∷ ds) none = absurd (omega (arith, none))
  none_tell txid (Refused r ∷ ds) none = (tells_nothing (refusal_text r) (refusal_claims r), none_tell txid ds none)
  none_tell txid (Repeats t pends ∷ ds) none = (tells_nothing (word (codes "repeated") t) refl, none_tell txid ds none)
  none_tell txid (TooLong number ∷ ds) none = (tells_nothing (word (codes "toolong") number) refl, none_tell txid ds none)

  -- edits that were logged after p others
  module _ (L : ℕ → List ℕ → Type 0) (is_acked : (t : ℕ) (x : List ℕ) → L t x → (t < 2 ^ 64) × IsAckedBy m entries c t) where
    logged_one : (t : ℕ) (x : List ℕ) → L t x → Tells (word (codes "acked") t)
    logged_one t x l = let a : (t < 2 ^ 64) × IsAckedBy m entries c t = is_acked t x l in edit_tells t a.0 a.1

    pub logged_tell : (p : ℕ) (bodies : List (List ℕ)) (dues : List Due) → AllOn L p bodies → length bodies ≡ pends_in dues → TellAll (dues_logged (p + 1) dues)
    unfolding dues_logged
    logged_tell p bodies [] on many = tt
    logged_tell p [] (Pends ∷ ds) on many = absurd (omega (arith, many))
    logged_tell p (b ∷ bs) (Pends ∷ ds) on many = (logged_one (p + 1) b on.0, logged_tell (p + 1) bs ds on.1 (omega (arith, many)))
    logged_tell p bodies (Refused r ∷ ds) on many = (tells_nothing (refusal_text r) (refusal_claims r), logged_tell p bodies ds on many)
    logged_tell p bodies (Repeats t pends ∷ ds) on many = (tells_nothing (word (codes "repeated") t) refl, logged_tell p bodies ds on many)
    logged_tell p bodies (TooLong number ∷ ds) on many = (tells_nothing (word (codes "toolong") number) refl, logged_tell p bodies ds on many)

    pub acked_tell : (p : ℕ) (bodies : List (List ℕ)) → AllOn L p bodies → TellAll (acked_from (p + 1) bodies)
    unfolding acked_from
    acked_tell p [] on = tt
    acked_tell p (b ∷ bs) on = (logged_one (p + 1) b on.0, acked_tell (p + 1) bs on.1)
