-- Frames one after the other: how they go on, and that bytes are frames in one way at most.
use Rattle.std.proofs.Common.{◌≡◌, ℕ, ◌+◌, ◌≤◌, List, [], ◌∷◌, ◌++◌, length, take, drop, None, refl, sym, ap, subst, ◌∙◌, append_assoc, arith}
use Rattle.std.specs.List.{flat_map}
use Rattle.std.proofs.lemmas.List.{append-nil, append_cancel_left, take_at, drop_at, take-append-drop, drop-drop, length-append, length-take, length-drop}
use Rattle.std.proofs.lemmas.List.Concat.{flat_map-append}
use Rattle.journal_core.specs.Views.{BatchView}
use Rattle.disk_frame.specs.Frames.{frame_bytes, broken_rule, AreInOrder, BeginWithFrames, IsTail, AreFrames}
use Rattle.disk_frame.specs.Faults.{Spells}
use Rattle.disk_frame.proofs.SpellLaws.{one_spelling}
use Rattle.disk_frame.proofs.RuleLaws.{good_fits}

abbrev pub bodies_of : List BatchView → List (List ℕ)
bodies_of bs = flat_map (λ b. b.bodies) bs

-- ---- one frame more

in_order_more : (next : ℕ) (bs : List BatchView) (b : BatchView) → AreInOrder next bs → broken_rule (next + length (bodies_of bs)) b ≡ None → AreInOrder next (bs ++ b ∷ [])
in_order_more next [] b in_order good = (subst (λ (n : ℕ). broken_rule n b ≡ None) (omega arith) good, tt)
in_order_more next (c ∷ bs) b in_order good =
    (in_order.0, in_order_more (next + length c.bodies) bs b in_order.1 (subst (λ (n : ℕ). broken_rule n b ≡ None) (omega (arith, length-append c.bodies (bodies_of bs))) good))

one_more_of : {A : Type 0} (f : BatchView → List A) (bs : List BatchView) (b : BatchView) → flat_map f (bs ++ b ∷ []) ≡ flat_map f bs ++ f b
one_more_of f bs b = flat_map-append f bs (b ∷ []) ∙ ap (λ (x : List _). flat_map f bs ++ x) (append-nil (f b))

-- the bytes before the end of the frames are those, and no other bytes matter
pub same_front : (first : ℕ) (bytes others : List ℕ) (bodies : List (List ℕ)) (end : ℕ) → BeginWithFrames first bytes bodies end
    → take end others ≡ take end bytes → end ≤ length others → BeginWithFrames first others bodies end
same_front first bytes others bodies end frames same there = record {
  batches = frames.batches;
  in_order = frames.in_order;
  bodies_are = frames.bodies_are;
  spelled = same ∙ frames.spelled;
  there = there;
}

take_front : (n : ℕ) (bytes front rest : List ℕ) → n ≤ length bytes → drop n bytes ≡ front ++ rest → take (n + length front) bytes ≡ take n bytes ++ front
take_front n bytes front rest le e =
    let split : bytes ≡ (take n bytes ++ front) ++ rest = sym (take-append-drop n bytes) ∙ ap (λ (x : List ℕ). take n bytes ++ x) e ∙ sym (append_assoc (take n bytes) front rest) in
    let len : length (take n bytes ++ front) ≡ n + length front = omega (arith, length-append (take n bytes) front, length-take n bytes, le) in
    ap (take (n + length front)) split ∙ take_at (take n bytes ++ front) rest (n + length front) len

-- where the frames end, another one that keeps the rules goes on
pub goes_on : (first : ℕ) (bytes : List ℕ) (bodies : List (List ℕ)) (end : ℕ) (b : BatchView) → BeginWithFrames first bytes bodies end
    → Spells (drop end bytes) b → broken_rule (first + length bodies) b ≡ None
    → BeginWithFrames first bytes (bodies ++ b.bodies) (end + length (frame_bytes b))
goes_on first bytes bodies end b frames spells good =
    let bs = frames.batches in
    let len : length (drop end bytes) ≡ length (frame_bytes b) + length spells.rest = ap length spells.spelled ∙ length-append (frame_bytes b) spells.rest in
    record {
      batches = frames.batches ++ b ∷ [];
      in_order = in_order_more first frames.batches b frames.in_order (subst (λ (x : List (List ℕ)). broken_rule (first + length x) b ≡ None) frames.bodies_are good);
      bodies_are = ap (λ (x : List (List ℕ)). x ++ b.bodies) frames.bodies_are ∙ sym (one_more_of (λ b. b.bodies) frames.batches b);
      spelled = take_front end bytes (frame_bytes b) spells.rest frames.there spells.spelled ∙ ap (λ (x : List ℕ). x ++ frame_bytes b) frames.spelled ∙ sym (one_more_of frame_bytes frames.batches b);
      there = omega (arith, len, length-drop end bytes, frames.there);
    }

pub no_frames : (first : ℕ) (bytes : List ℕ) → BeginWithFrames first bytes [] 0
no_frames first bytes = record { batches = []; in_order = tt; bodies_are = refl; spelled = refl; there = omega arith }

-- ---- another tail, and one frame more in place of a tail

take_again : (n : ℕ) (bytes rest : List ℕ) → n ≤ length bytes → take n (take n bytes ++ rest) ≡ take n bytes
take_again n bytes rest le = take_at (take n bytes) rest n (omega (arith, length-take n bytes, le))

drop_again : (n : ℕ) (bytes rest : List ℕ) → n ≤ length bytes → drop n (take n bytes ++ rest) ≡ rest
drop_again n bytes rest le = drop_at (take n bytes) rest n (omega (arith, length-take n bytes, le))

front_again : (first : ℕ) (bytes rest : List ℕ) (bodies : List (List ℕ)) (end : ℕ) → BeginWithFrames first bytes bodies end → BeginWithFrames first (take end bytes ++ rest) bodies end
front_again first bytes rest bodies end frames =
    same_front first bytes (take end bytes ++ rest) bodies end frames (take_again end bytes rest frames.there) (omega (arith, length-append (take end bytes) rest, length-take end bytes, frames.there))

pub other_tail : (first : ℕ) (bytes : List ℕ) (bodies : List (List ℕ)) (whole_length : ℕ) (tail : List ℕ) → AreFrames first bytes bodies whole_length
    → IsTail tail → AreFrames first (take whole_length bytes ++ tail) bodies whole_length
other_tail first bytes bodies whole_length tail are is = record {
  frames = front_again first bytes tail bodies whole_length are.frames;
  tail = subst IsTail (sym (drop_again whole_length bytes tail are.frames.there)) is;
}

pub one_frame_more : (first : ℕ) (bytes : List ℕ) (bodies : List (List ℕ)) (whole_length : ℕ) (b : BatchView) (tail : List ℕ)
    → AreFrames first bytes bodies whole_length → broken_rule (first + length bodies) b ≡ None → IsTail tail
    → AreFrames first (take whole_length bytes ++ (frame_bytes b ++ tail)) (bodies ++ b.bodies) (whole_length + length (frame_bytes b))
one_frame_more first bytes bodies whole_length b tail are good is =
    let dropped : drop whole_length (take whole_length bytes ++ (frame_bytes b ++ tail)) ≡ frame_bytes b ++ tail = drop_again whole_length bytes (frame_bytes b ++ tail) are.frames.there in
    let spells : Spells (drop whole_length (take whole_length bytes ++ (frame_bytes b ++ tail))) b = record { fits = good_fits (first + length bodies) b good; rest = tail; spelled = dropped } in
    let ends : drop (whole_length + length (frame_bytes b)) (take whole_length bytes ++ (frame_bytes b ++ tail)) ≡ tail =
    sym (drop-drop (length (frame_bytes b)) whole_length (take whole_length bytes ++ (frame_bytes b ++ tail)))
    ∙ ap (drop (length (frame_bytes b))) dropped ∙ drop_at (frame_bytes b) tail (length (frame_bytes b)) refl in
    record {
      frames = goes_on first (take whole_length bytes ++ (frame_bytes b ++ tail)) bodies whole_length b (front_again first bytes (frame_bytes b ++ tail) bodies whole_length are.frames) spells good;
      tail = subst IsTail (sym ends) is;
    }

-- the frame of a batch is read back, whatever tail follows
pub frame_read_back : (b : BatchView) (tail : List ℕ) → broken_rule b.first b ≡ None → IsTail tail → AreFrames b.first (frame_bytes b ++ tail) b.bodies (length (frame_bytes b))
frame_read_back b tail good is =
    subst (λ (n : ℕ). AreFrames b.first (frame_bytes b ++ tail) b.bodies n) {x = 0 + length (frame_bytes b)} (omega arith)
    (one_frame_more b.first [] [] 0 b tail (record { frames = no_frames b.first []; tail = tt }) (subst (λ (n : ℕ). broken_rule n b ≡ None) (omega arith) good) is)

-- ---- one reading

-- no frame that keeps the rules stands here
abbrev pub Stops : ℕ → List ℕ → Type 0
Stops next bytes = (b : BatchView) → broken_rule next b ≡ None → Spells bytes b → ⊥

pub record SameFrames (bs cs : List BatchView) (x y : List ℕ) : Type 0 where
  pub batches : bs ≡ cs
  pub rest : x ≡ y

pub one_reading : (bs cs : List BatchView) (first next last : ℕ) (x y : List ℕ) → AreInOrder first bs → AreInOrder first cs → flat_map frame_bytes bs ++ x ≡ flat_map frame_bytes cs ++ y
    → next ≡ first + length (bodies_of bs) → last ≡ first + length (bodies_of cs) → Stops next x → Stops last y → SameFrames bs cs x y
one_reading [] [] first next last x y p q e is_next is_last stops ends = record { batches = refl; rest = e }
one_reading [] (c ∷ cs) first next last x y p q e is_next is_last stops ends =
    absurd (stops c (subst (λ (n : ℕ). broken_rule n c ≡ None) (omega (arith, is_next)) q.0)
    (record {
      fits = good_fits first c q.0;
      rest = flat_map frame_bytes cs ++ y;
      spelled = e ∙ append_assoc (frame_bytes c) (flat_map frame_bytes cs) y;
    }))
one_reading (b ∷ bs) [] first next last x y p q e is_next is_last stops ends =
    absurd (ends b (subst (λ (n : ℕ). broken_rule n b ≡ None) (omega (arith, is_last)) p.0)
    (record {
      fits = good_fits first b p.0;
      rest = flat_map frame_bytes bs ++ x;
      spelled = sym e ∙ append_assoc (frame_bytes b) (flat_map frame_bytes bs) x;
    }))
one_reading (b ∷ bs) (c ∷ cs) first next last x y p q e is_next is_last stops ends =
    let left : Spells ((frame_bytes b ++ flat_map frame_bytes bs) ++ x) b =
    record {
      fits = good_fits first b p.0;
      rest = flat_map frame_bytes bs ++ x;
      spelled = append_assoc (frame_bytes b) (flat_map frame_bytes bs) x;
    } in
    let right : Spells ((frame_bytes b ++ flat_map frame_bytes bs) ++ x) c =
    record {
      fits = good_fits first c q.0;
      rest = flat_map frame_bytes cs ++ y;
      spelled = e ∙ append_assoc (frame_bytes c) (flat_map frame_bytes cs) y;
    } in
    let same : b ≡ c = one_spelling ((frame_bytes b ++ flat_map frame_bytes bs) ++ x) b c left right in
    let rest : flat_map frame_bytes bs ++ x ≡ flat_map frame_bytes cs ++ y =
    append_cancel_left (frame_bytes c) (flat_map frame_bytes bs ++ x) (flat_map frame_bytes cs ++ y)
    (ap (λ (d : BatchView). frame_bytes d ++ (flat_map frame_bytes bs ++ x)) (sym same) ∙ sym (append_assoc (frame_bytes b) (flat_map frame_bytes bs) x) ∙ right.spelled) in
    let others = one_reading bs cs (first + length c.bodies) next last x y (subst (λ (d : BatchView). AreInOrder (first + length d.bodies) bs) same p.1) q.1 rest
    (omega (arith, is_next, length-append b.bodies (bodies_of bs), ap (λ (d : BatchView). length d.bodies) same)) (omega (arith, is_last, length-append c.bodies (bodies_of cs))) stops ends in
    record { batches = λ i. same i ∷ others.batches i; rest = others.rest }

-- the frames at the front of bytes, where no more follow
pub record SameFront (bodies others : List (List ℕ)) (end last : ℕ) : Type 0 where
  pub bodies_same : bodies ≡ others
  pub end_same : end ≡ last

pub one_front : (first : ℕ) (bytes : List ℕ) (bodies others : List (List ℕ)) (end last : ℕ) → BeginWithFrames first bytes bodies end → BeginWithFrames first bytes others last
    → Stops (first + length bodies) (drop end bytes) → Stops (first + length others) (drop last bytes) → SameFront bodies others end last
one_front first bytes bodies others end last p q stops ends =
    let whole : flat_map frame_bytes p.batches ++ drop end bytes ≡ flat_map frame_bytes q.batches ++ drop last bytes =
    ap (λ (x : List ℕ). x ++ drop end bytes) (sym p.spelled) ∙ take-append-drop end bytes ∙ sym (take-append-drop last bytes) ∙ ap (λ (x : List ℕ). x ++ drop last bytes) q.spelled in
    let same = one_reading p.batches q.batches first (first + length bodies) (first + length others) (drop end bytes) (drop last bytes) p.in_order q.in_order whole
    (ap (λ (x : List (List ℕ)). first + length x) p.bodies_are) (ap (λ (x : List (List ℕ)). first + length x) q.bodies_are) stops ends in
    let front : take end bytes ≡ take last bytes = p.spelled ∙ ap (flat_map frame_bytes) same.batches ∙ sym q.spelled in
    record {
      bodies_same = p.bodies_are ∙ ap bodies_of same.batches ∙ sym q.bodies_are;
      end_same = omega (arith, ap length front, length-take end bytes, length-take last bytes, p.there, q.there);
    }
