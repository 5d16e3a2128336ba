-- What one call does to a disk in memory, once what the files were is kept.
use Rattle.std.proofs.Common.{◌≡◌, ◌≢◌, ◌⊎◌, ⊎_elim, inl, inr, ℕ, suc, zero, ◌+◌, ◌≤◌, List, [], ◌∷◌, ◌++◌, refl, ap, sym, ◌∙◌, subst, arith, length, length-append, take, drop}
use Rattle.std.specs.Prelude.{Option, Some, None, Result, Ok, IsErr, IsSome, slice_get, bytes_eq, if◌then◌else◌, Bool, option_map}
use Rattle.std.specs.declared.snapshot.Snapshot.{Snapshot}
use Rattle.std.proofs.lemmas.List.{append-nil, take_all, drop_all}
use Rattle.std.proofs.lemmas.Result.{IfOk-from_err}
use Rattle.base_disk.specs.Files.{Files, ChangesOnly, Moves, Holds, Torn, Cut, IsShortened, IsGone, Follows, bytes_of}
use Rattle.base_disk.specs.View.{View, Elapses}
use Rattle.base_disk.specs.Calls.{Writes, Cuts, Syncs, Keeps, Rests, Atomic, Happens}
use Rattle.base_disk.specs.declared.disk.DiskFail.{DiskFail}
use Rattle.base_disk.specs.FileView.{FileView, at_rest, shortened}
use Rattle.base_disk.specs.FileMap.{Map, file_in, now_of, stable_of, bytes_in, written_in, MayBe, SetsFile, MovesFile, SameFiles}
use Rattle.base_disk.specs.ImageLaws.{torn_same, cut_same}
use Rattle.base_disk.specs.Timeline.{Past, Leaves, LeftSince, view_of, Remembers}
use Rattle.base_disk.proofs.Bytes.{option_torn, done_is_cut}
use Rattle.base_disk.proofs.Images.{written_back, created_back, shortened_back, at_rest_image}
use Rattle.base_disk.proofs.Maps.{equal_names, other_names, names}

at_front : {X : Type 0} (xs : List X) (y x : X) (k : ℕ) → slice_get xs k ≡ Some x → slice_get (xs ++ y ∷ []) k ≡ Some x
at_front [] y x k is = absurd (cc)
at_front (z ∷ xs) y x zero is = is
at_front (z ∷ xs) y x (suc k) is = at_front xs y x k is

at_end : {X : Type 0} (xs : List X) (y : X) → slice_get (xs ++ y ∷ []) (length xs) ≡ Some y
at_end [] y = refl
at_end (z ∷ xs) y = at_end xs y

one_of : {X : Type 0} (xs : List X) (y x : X) (k : ℕ) → slice_get (xs ++ y ∷ []) k ≡ Some x → (slice_get xs k ≡ Some x) ⊎ (y ≡ x)
one_of [] y x zero is = inr (cc)
one_of [] y x (suc k) is = absurd (cc)
one_of (z ∷ xs) y x zero is = inl is
one_of (z ∷ xs) y x (suc k) is = one_of xs y x k is

stays : (v : View) → Elapses v v
stays v = record { later = omega arith; nothing_else = λ t c le left. inl left; keeps = λ t c le left. left }

pub kept : (v : View) → Keeps v v
kept v = record { seen = refl; crash = λ c now. now; time = stays v }

pub rests : (v : View) → Rests v v
rests v = record { keeps = kept v; synced = refl }

-- nothing happened
pub write_stopped : {T : Type 0} (name : List ℕ) (at : ℕ) (bytes : List ℕ) (r : Result T DiskFail) (v w : View) → Keeps v w → w.synced ≡ v.synced → IsErr r → Writes name at bytes r v w
write_stopped name at bytes r v w keeps synced err = record {
  done = IfOk-from_err r (λ _. ChangesOnly name (Holds at bytes) v.seen w.seen) err;
  failed = record { here = subst (λ (f : Files). Torn at (length bytes) (v.seen name) (f name)) (sym keeps.seen) (torn_same at (length bytes) (v.seen name)); others = λ m ne i. keeps.seen i m };
  crash = λ c now. (c, keeps.crash c now, record { here = torn_same at (length bytes) (c name); others = λ m ne. refl });
  synced = synced;
  time = keeps.time;
}

pub atomic_stopped : {T : Type 0} (step : Files → Files → Type 0) (r : Result T DiskFail) (v w : View) → Keeps v w → IsErr r → Atomic step r v w
atomic_stopped step r v w keeps err = record {
  done = IfOk-from_err r (λ _. Happens step v w) err;
  failed = inr keeps;
  stored = IfOk-from_err r (λ _. step v.synced w.synced) err;
  time = keeps.time;
}

pub cut_stopped : {T : Type 0} (name : List ℕ) (to : ℕ) (r : Result T DiskFail) (v w : View) → Keeps v w → w.synced ≡ v.synced → IsErr r → Cuts name to r v w
cut_stopped name to r v w keeps synced err = record {
  done = IfOk-from_err r (λ _. ChangesOnly name (IsShortened to) v.seen w.seen) err;
  failed = record { here = subst (λ (f : Files). Cut to (v.seen name) (f name)) (sym keeps.seen) (cut_same to (v.seen name)); others = λ m ne i. keeps.seen i m };
  crash = λ c now. (c, keeps.crash c now, record { here = cut_same to (c name); others = λ m ne. refl });
  synced = synced;
  time = keeps.time;
}

pub time : (past past' : Past) (m m' : Map) → Remembers m past past' → Elapses (view_of past m) (view_of past' m')
time past past' m m' remembers = record {
  later = omega (arith, ap (λ (l : Past). length l) remembers.items, length-append past (remembers.snapshot ∷ []));
  nothing_else = λ t c le left. ⊎_elim (λ leaves. inr leaves) (λ since. before t c since) left;
  keeps = λ t c le left. ⊎_elim
      (λ leaves. inr (record {
        moment = length past;
        was = remembers.snapshot;
        later = le;
        there = subst (λ (l : Past). slice_get l (length past) ≡ Some remembers.snapshot) (sym remembers.items) (at_end past remembers.snapshot);
        leaves = subst (λ (n : Map). Leaves n c) (sym remembers.value) leaves;
      }))
      (λ since. inr (record {
        moment = since.moment;
        was = since.was;
        later = since.later;
        there = subst (λ (l : Past). slice_get l since.moment ≡ Some since.was) (sym remembers.items) (at_front past remembers.snapshot since.was since.moment since.there);
        leaves = since.leaves;
      }))
      left;
}
  where
    before : (t : ℕ) (c : Files) → LeftSince past' t c → (Leaves m c ⊎ LeftSince past t c) ⊎ Leaves m' c
    before t c since = ⊎_elim
        (λ there. inl (inr (record { moment = since.moment; was = since.was; later = since.later; there = there; leaves = since.leaves })))
        (λ same. inl (inl (subst (λ (n : Map). Leaves n c) (sym (ap (λ (s : Snapshot Map). s.value) same) ∙ remembers.value) since.leaves)))
        (one_of past remembers.snapshot since.was since.moment (subst (λ (l : Past). slice_get l since.moment ≡ Some since.was) remembers.items since.there))

-- the files stay, whatever is kept of them
pub kept_files : (past past' : Past) (m m' : Map) → Elapses (view_of past m) (view_of past' m') → SameFiles m m' → Keeps (view_of past m) (view_of past' m')
kept_files past past' m m' elapses same = record {
  seen = λ i name. now_of (same.files name i);
  crash = λ c leaves name. subst (λ (f : Option FileView). MayBe f (c name)) (same.files name) (leaves name);
  time = elapses;
}

pub synced_files : (past past' : Past) (m m' : Map) → SameFiles m m' → (view_of past' m').synced ≡ (view_of past m).synced
synced_files past past' m m' same = λ i name. stable_of (same.files name i)

pub same_files : (m : Map) → SameFiles m m
same_files m = record { files = λ name. refl }

-- one file changes
module _ (past past' : Past) (m m' : Map) (elapses : Elapses (view_of past m) (view_of past' m')) (name : List ℕ) (file : Option FileView) (sets : SetsFile name file m m') where
  follows : (R : Option (List ℕ) → Option (List ℕ) → Type 0) → ((x : Option (List ℕ)) → MayBe file x
      → (y : Option (List ℕ)) × MayBe (file_in m name) y × R y x) → Follows (ChangesOnly name R) (Leaves m) (Leaves m')
  follows R back c leaves =
      let found = back (c name) (subst (λ (f : Option FileView). MayBe f (c name)) sets.here (leaves name)) in
      let d : Files = λ n. if bytes_eq n name then found.0 else c n in
      let d_here : d name ≡ found.0 = ap (λ (t : Bool). if t then found.0 else c name) (equal_names name name refl) in
      let d_other : (n : List ℕ) → n ≢ name → d n ≡ c n = λ n ne. ap (λ (t : Bool). if t then found.0 else c n) (other_names n name ne) in (
        d,
        (λ n. ⊎_elim
            (λ is. subst (λ (k : List ℕ). MayBe (file_in m k) (d k)) (sym is) (subst (λ (x : Option (List ℕ)). MayBe (file_in m name) x) (sym d_here) found.1))
            (λ ne. subst (λ (x : Option (List ℕ)). MayBe (file_in m n) x) (sym (d_other n ne)) (subst (λ (f : Option FileView). MayBe f (c n)) (sets.others n ne) (leaves n)))
            (names n name)),
        record { here = subst (λ (x : Option (List ℕ)). R x (c name)) (sym d_here) found.2; others = λ n ne. sym (d_other n ne) },
      )

  seen_here : (view_of past' m').seen name ≡ now_of file
  seen_here = ap now_of sets.here

  seen_other : (n : List ℕ) → n ≢ name → (view_of past' m').seen n ≡ (view_of past m).seen n
  seen_other n ne = ap now_of (sets.others n ne)

  stable_here : (view_of past' m').synced name ≡ stable_of file
  stable_here = ap stable_of sets.here

  stable_other : (n : List ℕ) → n ≢ name → (view_of past' m').synced n ≡ (view_of past m).synced n
  stable_other n ne = ap stable_of (sets.others n ne)

  stable_same : stable_of file ≡ stable_of (file_in m name) → (view_of past' m').synced ≡ (view_of past m).synced
  stable_same same = λ i n. by n i
    where
      by : (n : List ℕ) → (view_of past' m').synced n ≡ (view_of past m).synced n
      by n = ⊎_elim
          (λ named. subst (λ (k : List ℕ). (view_of past' m').synced k ≡ (view_of past m).synced k) (sym named) (stable_here ∙ same))
          (λ ne. stable_other n ne)
          (names n name)

  pub removed : file ≡ None → Atomic {T = Unit {0}} (ChangesOnly name IsGone) (Ok tt) (view_of past m) (view_of past' m')
  removed none = record { done = happens; failed = inl happens; stored = record { here = stable_here ∙ ap stable_of none; others = stable_other }; time = elapses }
    where
      now_may_be : (f : Option FileView) → MayBe f (now_of f)
      now_may_be None = refl
      now_may_be (Some f) = inr refl

      gone : (x : Option (List ℕ)) → MayBe file x → x ≡ None
      gone x image = subst (λ (f : Option FileView). MayBe f x) none image

      happens : Happens (ChangesOnly name IsGone) (view_of past m) (view_of past' m')
      happens = record {
        seen = record { here = seen_here ∙ ap now_of none; others = seen_other };
        crash = follows IsGone (λ x image. (now_of (file_in m name), now_may_be (file_in m name), gone x image));
      }

written_may_be : (at : ℕ) (bytes : List ℕ) (old : Option FileView) → at ≤ length (bytes_of (now_of old)) → (x : Option (List ℕ))
    → MayBe (Some (written_in at bytes old)) x → (y : Option (List ℕ)) × MayBe old y × Torn at (length bytes) y x
written_may_be at bytes None le x image = (None, refl, subst (λ (n : ℕ). Torn n (length bytes) None x) (let e : 0 ≡ at = omega arith in e) (created_back bytes x image))
written_may_be at bytes (Some f) le x image = written_back at bytes f le x image

written_stable : (at : ℕ) (bytes : List ℕ) (old : Option FileView) → stable_of (Some (written_in at bytes old)) ≡ stable_of old
written_stable at bytes None = refl
written_stable at bytes (Some f) = refl

written_now : (at : ℕ) (bytes : List ℕ) (old : Option FileView) → at ≤ length (bytes_of (now_of old)) → Holds at bytes (now_of old) (now_of (Some (written_in at bytes old)))
written_now at bytes None le =
    let none : drop (at + length bytes) [] ≡ [] = drop_all (at + length bytes) [] (omega arith) in
    let front : take at [] ≡ [] = take_all at [] (omega arith) in
    ap (λ (l : List ℕ). Some l) (sym (ap (λ (l : List ℕ). l ++ bytes ++ drop (at + length bytes) []) front ∙ ap (λ (l : List ℕ). bytes ++ l) none ∙ append-nil bytes))
written_now at bytes (Some f) le = refl

module _ (past past' : Past) (m m' : Map) (elapses : Elapses (view_of past m) (view_of past' m')) (name : List ℕ) where
  pub wrote : (at : ℕ) (bytes : List ℕ) → at ≤ length (bytes_in m name) → SetsFile name (Some (written_in at bytes (file_in m name))) m m'
      → Writes {T = Unit {0}} name at bytes (Ok tt) (view_of past m) (view_of past' m')
  wrote at bytes le sets =
      let file : Option FileView = Some (written_in at bytes (file_in m name)) in
      let holds : Holds at bytes (now_of (file_in m name)) (now_of file) = written_now at bytes (file_in m name) le in
      record {
        done = record { here = seen_here past past' m m' elapses name file sets ∙ holds; others = seen_other past past' m m' elapses name file sets };
        failed = record {
          here = subst (λ (x : Option (List ℕ)). Torn at (length bytes) (now_of (file_in m name)) x)
              (sym (seen_here past past' m m' elapses name file sets ∙ holds)) (option_torn at bytes (now_of (file_in m name)) le);
          others = seen_other past past' m m' elapses name file sets;
        };
        crash = follows past past' m m' elapses name file sets (Torn at (length bytes)) (written_may_be at bytes (file_in m name) le);
        synced = stable_same past past' m m' elapses name file sets (written_stable at bytes (file_in m name));
        time = elapses;
      }

  -- there is such a file
  there : (o : Option FileView) → IsSome (now_of o) → (f : FileView) × (o ≡ Some f)
  there None is = absurd (cc)
  there (Some f) is = (f, refl)

  pub cut_done : (to : ℕ) → IsSome ((view_of past m).seen name) → SetsFile name (option_map (shortened to) (file_in m name)) m m'
      → Cuts {T = Unit {0}} name to (Ok tt) (view_of past m) (view_of past' m')
  cut_done to is sets =
      let was = there (file_in m name) is in
      by was.0 was.1 (record { here = sets.here ∙ ap (λ (o : Option FileView). option_map (shortened to) o) was.1; others = sets.others })
    where
      by : (f : FileView) → file_in m name ≡ Some f → SetsFile name (Some (shortened to f)) m m' → Cuts {T = Unit {0}} name to (Ok tt) (view_of past m) (view_of past' m')
      by f is sets = record {
        done = record {
          here = seen_here past past' m m' elapses name (Some (shortened to f)) sets
              ∙ ap (λ (o : Option FileView). Some (take to (bytes_of (now_of o)))) (sym is);
          others = seen_other past past' m m' elapses name (Some (shortened to f)) sets;
        };
        failed = record {
          here = subst (λ (o : Option FileView). Cut to (now_of o) ((view_of past' m').seen name)) (sym is)
              (subst (λ (x : Option (List ℕ)). Cut to (Some f.now) x) (sym (seen_here past past' m m' elapses name (Some (shortened to f)) sets)) (done_is_cut to f.now));
          others = seen_other past past' m m' elapses name (Some (shortened to f)) sets;
        };
        crash = follows past past' m m' elapses name (Some (shortened to f)) sets (Cut to)
            (λ x image. subst (λ (o : Option FileView). (y : Option (List ℕ)) × MayBe o y × Cut to y x) (sym is) (shortened_back to f x image));
        synced = stable_same past past' m m' elapses name (Some (shortened to f)) sets (sym (ap stable_of is));
        time = elapses;
      }

  pub sync_done : IsSome ((view_of past m).seen name) → SetsFile name (option_map (λ f. at_rest f.now) (file_in m name)) m m' → Syncs {T = Unit {0}} name (Ok tt) (view_of past m) (view_of past' m')
  sync_done is sets =
      let was = there (file_in m name) is in
      by was.0 was.1 (record { here = sets.here ∙ ap (λ (o : Option FileView). option_map (λ f. at_rest f.now) o) was.1; others = sets.others })
    where
      by : (f : FileView) → file_in m name ≡ Some f → SetsFile name (Some (at_rest f.now)) m m' → Syncs {T = Unit {0}} name (Ok tt) (view_of past m) (view_of past' m')
      by f is sets = record {
        keeps = record {
          seen = λ i n. same n i;
          crash = λ c leaves n. ⊎_elim
              (λ named. subst (λ (k : List ℕ). MayBe (file_in m k) (c k)) (sym named) (subst (λ (o : Option FileView). MayBe o (c name)) (sym is) (inr (only c leaves))))
              (λ ne. subst (λ (o : Option FileView). MayBe o (c n)) (sets.others n ne) (leaves n))
              (names n name);
          time = elapses;
        };
        done = λ c leaves. only c leaves ∙ sym (seen_here past past' m m' elapses name (Some (at_rest f.now)) sets);
        stored = record {
          here = stable_here past past' m m' elapses name (Some (at_rest f.now)) sets ∙ sym (ap now_of is);
          others = stable_other past past' m m' elapses name (Some (at_rest f.now)) sets;
        };
      }
        where
          only : (c : Files) → Leaves m' c → c name ≡ Some f.now
          only c leaves = at_rest_image f.now (c name) (subst (λ (o : Option FileView). MayBe o (c name)) sets.here (leaves name))

          same : (n : List ℕ) → (view_of past' m').seen n ≡ (view_of past m).seen n
          same n = ⊎_elim
              (λ named. subst (λ (k : List ℕ). (view_of past' m').seen k ≡ (view_of past m).seen k) (sym named)
              (seen_here past past' m m' elapses name (Some (at_rest f.now)) sets ∙ sym (ap now_of is)))
              (λ ne. seen_other past past' m m' elapses name (Some (at_rest f.now)) sets n ne)
              (names n name)

now_may_be : (f : Option FileView) → MayBe f (now_of f)
now_may_be None = refl
now_may_be (Some f) = inr refl

-- a file under another name
module _ (past past' : Past) (m m' : Map) (elapses : Elapses (view_of past m) (view_of past' m')) (from to : List ℕ) (moves : MovesFile from to m m') where
  moves_happens : Happens (Moves from to) (view_of past m) (view_of past' m')
  moves_happens = record {
    seen = record {
      moved = ap now_of moves.moved;
      gone = λ ne. ap now_of (moves.gone ne);
      others = λ n ne_from ne_to. ap now_of (moves.others n ne_from ne_to);
    };
    crash = λ c leaves.
        let d : Files = λ n. if bytes_eq n from then c to else (if bytes_eq n to then now_of (file_in m to) else c n) in
        let d_from : d from ≡ c to = ap (λ (t : Bool). if t then c to else (if bytes_eq from to then now_of (file_in m to) else c from)) (equal_names from from refl) in
        let d_not_from : (n : List ℕ) → n ≢ from → d n ≡ (if bytes_eq n to then now_of (file_in m to) else c n) =
        λ n ne. ap (λ (t : Bool). if t then c to else (if bytes_eq n to then now_of (file_in m to) else c n)) (other_names n from ne) in
        let d_other : (n : List ℕ) → n ≢ from → n ≢ to → d n ≡ c n = λ n ne_from ne_to. d_not_from n ne_from ∙ ap (λ (t : Bool). if t then now_of (file_in m to) else c n) (other_names n to ne_to) in
        let d_to : from ≢ to → d to ≡ now_of (file_in m to) = λ ne. d_not_from to (λ same. ne (sym same)) ∙ ap (λ (t : Bool). if t then now_of (file_in m to) else c to) (equal_names to to refl) in
        let from_image : MayBe (file_in m from) (d from) =
        subst (λ (x : Option (List ℕ)). MayBe (file_in m from) x) (sym d_from) (subst (λ (o : Option FileView). MayBe o (c to)) moves.moved (leaves to)) in (
          d,
          (λ n. ⊎_elim
              (λ same. subst (λ (k : List ℕ). MayBe (file_in m k) (d k)) (sym same) from_image)
              (λ ne_from. ⊎_elim
              (λ same. subst (λ (k : List ℕ). MayBe (file_in m k) (d k)) (sym same)
              (subst (λ (x : Option (List ℕ)). MayBe (file_in m to) x) (sym (d_to (λ eq. ne_from (same ∙ sym eq)))) (now_may_be (file_in m to))))
              (λ ne_to. subst (λ (x : Option (List ℕ)). MayBe (file_in m n) x) (sym (d_other n ne_from ne_to))
              (subst (λ (o : Option FileView). MayBe o (c n)) (moves.others n ne_from ne_to) (leaves n)))
              (names n to))
              (names n from)),
          record {
            moved = sym d_from;
            gone = λ ne. subst (λ (o : Option FileView). MayBe o (c from)) (moves.gone ne) (leaves from);
            others = λ n ne_from ne_to. sym (d_other n ne_from ne_to);
          },
        );
  }

  pub rename_done : Atomic {T = Unit {0}} (Moves from to) (Ok tt) (view_of past m) (view_of past' m')
  rename_done = record {
    done = moves_happens;
    failed = inl moves_happens;
    stored = record {
      moved = ap stable_of moves.moved;
      gone = λ ne. ap stable_of (moves.gone ne);
      others = λ n ne_from ne_to. ap stable_of (moves.others n ne_from ne_to);
    };
    time = elapses;
  }
