-- What a line reader holds, and what is still to come.
use Rattle.std.proofs.Common.{ℕ, ◌≡◌, ◌+◌, List, [], ◌∷◌, ◌++◌, take, drop, Option, Some, None, sym, ap, ◌∙◌, append_assoc, subst, length-append}
use Rattle.std.proofs.KnownBytes.{Consumes-trans, Consumes-nil}
use Rattle.std.proofs.lemmas.List.{take-append-drop}
use Rattle.std.specs.Io.KnownBytes.{Consumes, prepend_known}
use Rattle.journal_session.specs.Lines.{IsLine}
use Rattle.journal_session.specs.Reader.{LineReaderView, to_come, HoldsStill, IsRead, IsCut, TakesLine, TakesNone, IsPastLimit, IsNextLine}
use Rattle.journal_session.specs.declared.more.More.TheVariants as more
use Rattle.journal_session.specs.declared.next.Next.{Next}
use Rattle.journal_session.specs.declared.next.Next.TheVariants as next

-- bytes of the source that were taken in are still to come
read_in : (held read : List ℕ) (before after : Option (List ℕ)) → Consumes before after read → Consumes (prepend_known held before) (prepend_known (held ++ read) after) []
read_in held read None after h = tt
read_in held read (Some x) None h = absurd h
read_in held read (Some x) (Some y) h = ap (λ xs. held ++ xs) h ∙ sym (append_assoc held read y)

-- what is held loses its front
lost_front : (front held : List ℕ) (left : Option (List ℕ)) → Consumes (prepend_known (front ++ held) left) (prepend_known held left) front
lost_front front held None = tt
lost_front front held (Some x) = append_assoc front held x

-- ## A cut
cut_ended : (line held : List ℕ) (old new : LineReaderView) (left : Option (List ℕ)) → old.held ≡ line ++ 10 ∷ new.held
    → Consumes (to_come old left) (to_come new left) (line ++ 10 ∷ [])
cut_ended line held old new left e =
    let P : List ℕ → Type 0 = λ xs. Consumes (prepend_known xs left) (to_come new left) (line ++ 10 ∷ []) in
    subst P (append_assoc line (10 ∷ []) new.held ∙ sym e) (lost_front (line ++ 10 ∷ []) new.held left)

still : (old new : LineReaderView) (left : Option (List ℕ)) → HoldsStill old new → TakesNone old new left left
still old new left h =
    let P : List ℕ → Type 0 = λ xs. Consumes (to_come old left) (prepend_known xs left) [] in
    record { given = subst P (sym h.held) (Consumes-nil (to_come old left)); taken = h.taken }

pub next_of_cut : (outcome : Next) (line : List ℕ) (old new : LineReaderView) (left : Option (List ℕ)) → IsCut outcome line old new → IsNextLine outcome line old new left left
next_of_cut next.Line line old new left h = record {
  one = h.1;
  short = h.2;
  given = cut_ended line new.held old new left h.0;
  taken = h.3 ∙ ap (λ n. old.taken + n) (sym (length-append line (10 ∷ [])));
}
next_of_cut next.Last line old new left h = absurd h
next_of_cut next.End line old new left h = absurd h
next_of_cut next.LongLine line old new left h = (
  still old new left h.0,
  record {
    front = take h.1.0 old.held;
    behind = drop h.1.0 old.held;
    spelled = h.0.held ∙ sym (take-append-drop h.1.0 old.held);
    one = h.1.1;
    long = h.1.2;
  },
)
next_of_cut next.LongInput line old new left h = absurd h
next_of_cut next.ReadFault line old new left h = absurd h
next_of_cut next.OutOfMemory line old new left h = tt

-- ## Reads
-- what was read so far is held, and no LF is in it
pub record IsReading (old now : LineReaderView) (before after : Option (List ℕ)) : Type 0 where
  pub none : TakesNone old now before after
  pub one : IsLine now.held

pub then_none : (old mid new : LineReaderView) (a b c : Option (List ℕ)) → TakesNone old mid a b → TakesNone mid new b c → TakesNone old new a c
then_none old mid new a b c h k = record { given = Consumes-trans _ _ _ _ _ h.given k.given; taken = k.taken ∙ h.taken }

-- what comes of the next line after reads that took nothing
pub next_after : (outcome : Next) (line : List ℕ) (old mid new : LineReaderView) (a b c : Option (List ℕ)) → TakesNone old mid a b → IsNextLine outcome line mid new b c
    → IsNextLine outcome line old new a c
next_after next.Line line old mid new a b c h k =
    record { one = k.one; short = k.short; given = Consumes-trans _ _ _ _ _ h.given k.given; taken = rw (← h.taken) k.taken }
next_after next.Last line old mid new a b c h k =
    let taken : TakesLine line line old new a c =
    record { one = k.0.one; short = k.0.short; given = Consumes-trans _ _ _ _ _ h.given k.0.given; taken = rw (← h.taken) k.0.taken } in
    (taken, k.1, k.2)
next_after next.End line old mid new a b c h k = (then_none old mid new a b c h k.0, k.1)
next_after next.LongLine line old mid new a b c h k = (then_none old mid new a b c h k.0, k.1)
next_after next.LongInput line old mid new a b c h k =
    let past : IsPastLimit old new a c =
    record { byte = k.0.byte; given = Consumes-trans _ _ _ _ _ h.given k.0.given; taken = k.0.taken ∙ h.taken; all = k.0.all } in
    (past, k.1)
next_after next.ReadFault line old mid new a b c h k = (then_none old mid new a b c h k.0, k.1)
next_after next.OutOfMemory line old mid new a b c h k = tt

pub none_of_bytes : (old new : LineReaderView) (before after : Option (List ℕ)) → IsRead more.Bytes old new before after → TakesNone old new before after
none_of_bytes old new before after h =
    let P : List ℕ → Type 0 = λ xs. Consumes (to_come old before) (prepend_known xs after) [] in
    record { given = subst P (sym h.1.held) (read_in old.held h.0 before after h.2); taken = h.1.taken }

-- the line that ends in what was read last
pub line_after : (outcome : Next) (line : List ℕ) (old mid new last : LineReaderView) (a b c : Option (List ℕ)) → IsReading old mid a b → IsRead more.Bytes mid new b c
    → IsCut outcome line new last → IsNextLine outcome line old last a c
line_after outcome line old mid new last a b c h k cut =
    next_after outcome line old new last a c c (then_none old mid new a b c h.none (none_of_bytes mid new b c k)) (next_of_cut outcome line new last c cut)
