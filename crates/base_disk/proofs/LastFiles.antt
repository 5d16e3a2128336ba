-- The map of all files, of which one is held beside the others.
use Rattle.std.proofs.Common.{◌≡◌, ◌≢◌, ◌≤◌, ◌∙◌, ⊎_elim, ℕ, List, [], ◌∷◌, ap, sym, subst, Bool, true, false, cond, map, refl, length}
use Rattle.std.specs.Prelude.{Option, Some, None, IsSome, IfSome, string_bytes, option_map}
use Rattle.std.specs.Map.{lookup, keys_of, set_value}
use Rattle.std.specs.String.{string_cmp}
use Rattle.std.specs.declared.string.String.{String}
use Rattle.std.specs.declared.alloc.Global.{Global}
use Rattle.std.specs.List.Sorted.{IsStrictlySortedBy}
use Rattle.std.proofs.lemmas.Map.{keys-set_value}
use Rattle.std.proofs.lemmas.Slice.Eq.{bytes_eq-Decides}
use Rattle.base_disk.specs.declared.disk.Choice.{Choice}
use Rattle.base_disk.specs.Files.{bytes_of}
use Rattle.base_disk.specs.FileView.{FileView, written}
use Rattle.base_disk.specs.FileMap.{Map, is_named, file_in, now_of, bytes_in, names_in, written_in, crashed_in, MayBe, SetsFile, MovesFile, SameFiles}
use Rattle.base_disk.specs.LastFile.{is_last, changed, shown, HasPlace}
use Rattle.base_disk.specs.declared.held_files.LastFile.{LastFile}
use Rattle.base_disk.proofs.Maps.{names, sets_to}
use Rattle.base_disk.proofs.Names.{same_name}
use Rattle.base_disk.proofs.Timeline.{same_files}

-- a key has one name
apart : (name q : List ℕ) (k : String Global) → q ≢ name → is_named name k ≡ true → is_named q k ≡ false
apart name q k ne here = by (is_named q k) refl
  where
    by : (t : Bool) → is_named q k ≡ t → t ≡ false
    by true is = absurd (ne (same_name q k is ∙ sym (same_name name k here)))
    by false is = refl

set_here : (name : List ℕ) (es : Map) (f : FileView) → IsSome (lookup (is_named name) es) → lookup (is_named name) (set_value (is_named name) es f) ≡ Some f
set_here name [] f is = absurd (cc)
set_here name (e ∷ es) f is = by (is_named name e.0) refl (λ rest. set_here name es f rest) is
  where
    by : (t : Bool) → is_named name e.0 ≡ t → (IsSome (lookup (is_named name) es) → lookup (is_named name) (set_value (is_named name) es f) ≡ Some f)
        → IsSome (cond t (Some e.1) (lookup (is_named name) es))
        → lookup (is_named name) (cond t ((e.0, f) ∷ es) (e ∷ set_value (is_named name) es f)) ≡ Some f
    by true here behind is = ap (λ (t : Bool). cond t (Some f) (lookup (is_named name) es)) here
    by false other behind is = ap (λ (t : Bool). cond t (Some e.1) (lookup (is_named name) (set_value (is_named name) es f))) other ∙ behind is

set_others : (name q : List ℕ) (es : Map) (f : FileView) → q ≢ name → lookup (is_named q) (set_value (is_named name) es f) ≡ lookup (is_named q) es
set_others name q [] f ne = refl
set_others name q (e ∷ es) f ne = by (is_named name e.0) refl (set_others name q es f ne)
  where
    by : (t : Bool) → is_named name e.0 ≡ t → lookup (is_named q) (set_value (is_named name) es f) ≡ lookup (is_named q) es
        → lookup (is_named q) (cond t ((e.0, f) ∷ es) (e ∷ set_value (is_named name) es f)) ≡ cond (is_named q e.0) (Some e.1) (lookup (is_named q) es)
    by true here behind =
        let other : is_named q e.0 ≡ false = apart name q e.0 ne here in
        ap (λ (t : Bool). cond t (Some f) (lookup (is_named q) es)) other ∙ sym (ap (λ (t : Bool). cond t (Some e.1) (lookup (is_named q) es)) other)
    by false other behind = ap (λ (o : Option FileView). cond (is_named q e.0) (Some e.1) o) behind

-- ## What is shown of the file that is held, and of the others

pub shown_here : (m : Map) (l : LastFile) → HasPlace m (Some l) → file_in (shown m (Some l)) (string_bytes l.name) ≡ Some l.file
shown_here m l place = set_here (string_bytes l.name) m l.file place

pub shown_others : (m : Map) (l : LastFile) (q : List ℕ) → q ≢ string_bytes l.name → file_in (shown m (Some l)) q ≡ file_in m q
shown_others m l q ne = set_others (string_bytes l.name) q m l.file ne

shown_keys : (m : Map) (l : Option LastFile) → keys_of (shown m l) ≡ keys_of m
shown_keys m None = refl
shown_keys m (Some l) = keys-set_value (is_named (string_bytes l.name)) m l.file

pub shown_names : (v m : Map) (l : Option LastFile) → shown m l ≡ v → names_in m ≡ names_in v
shown_names v m l is = sym (ap (λ (ks : List (String Global)). map string_bytes ks) (shown_keys m l)) ∙ ap (λ (n : Map). names_in n) is

pub shown_order : (v m : Map) (l : Option LastFile) → shown m l ≡ v → IsStrictlySortedBy string_cmp (keys_of m) → IsStrictlySortedBy string_cmp (keys_of v)
shown_order v m l is sorted = subst (λ (n : Map). IsStrictlySortedBy string_cmp (keys_of n)) is (subst (λ (ks : List (String Global)). IsStrictlySortedBy string_cmp ks) (sym (shown_keys m l)) sorted)

-- the file that is held has this name
named : (l : LastFile) (name : List ℕ) → is_last (Some l) name ≡ true → string_bytes l.name ≡ name
named l name is = (bytes_eq-Decides (string_bytes l.name) name).0 is

-- ## A file that is put back

pub has_place : (m : Map) (last : Option LastFile) (l : LastFile) (text : List ℕ) → Some l ≡ last → text ≡ string_bytes l.name → HasPlace m last → IsSome (file_in m text)
has_place m last l text is same place =
    subst (λ (t : List ℕ). IsSome (file_in m t)) (sym same) (subst (λ (o : Option LastFile). HasPlace m o) (sym is) place)

put_one : (m n : Map) (l : LastFile) → HasPlace m (Some l) → SetsFile (string_bytes l.name) (Some l.file) m n → SameFiles (shown m (Some l)) n
put_one m n l place sets = record {
  files = λ q. ⊎_elim
      (λ is. subst (λ (a : List ℕ). file_in n a ≡ file_in (shown m (Some l)) a) (sym is) (sets.here ∙ sym (shown_here m l place)))
      (λ ne. sets.others q ne ∙ sym (shown_others m l q ne))
      (names q (string_bytes l.name));
}

pub put_back : (m n : Map) (last : Option LastFile) (l : LastFile) (text : List ℕ) → Some l ≡ last → text ≡ string_bytes l.name → HasPlace m last → SetsFile text (Some l.file) m n
    → SameFiles (shown m last) n
put_back m n last l text is same place sets =
    subst (λ (o : Option LastFile). SameFiles (shown m o) n) is
    (put_one m n l (subst (λ (o : Option LastFile). HasPlace m o) (sym is) place) (subst (λ (t : List ℕ). SetsFile t (Some l.file) m n) same sets))

pub none_back : (m : Map) (last : Option LastFile) → None ≡ last → SameFiles (shown m last) m
none_back m last is = subst (λ (o : Option LastFile). SameFiles (shown m o) m) is (same_files m)

pub ruleset backs = (has_place, none_back)

-- ## A file that is taken up

pub none_place : (m : Map) (last : Option LastFile) → last ≡ None → HasPlace m last
none_place m last is = subst (λ (o : Option LastFile). HasPlace m o) (sym is) tt

pub none_shown : (m n : Map) (last : Option LastFile) → last ≡ None → SameFiles m n → SameFiles m (shown n last)
none_shown m n last is same = subst (λ (o : Option LastFile). SameFiles m (shown n o)) (sym is) same

pub none_kept : (m : Map) (last : Option LastFile) → last ≡ None → SameFiles m (shown m last)
none_kept m last is = none_shown m m last is (same_files m)

pub up_place : (m n : Map) (l : LastFile) (text : List ℕ) (blank : FileView) → text ≡ string_bytes l.name → SetsFile text (Some blank) m n → HasPlace n (Some l)
up_place m n l text blank same sets = subst (λ (t : List ℕ). IsSome (file_in n t)) same (subst (λ (o : Option FileView). IsSome o) (sym sets.here) refl)

up_one : (m n : Map) (l : LastFile) (blank : FileView) → Some l.file ≡ file_in m (string_bytes l.name) → SetsFile (string_bytes l.name) (Some blank) m n → SameFiles m (shown n (Some l))
up_one m n l blank was sets = record {
  files = λ q. ⊎_elim
      (λ is. subst (λ (a : List ℕ). file_in (shown n (Some l)) a ≡ file_in m a) (sym is) (shown_here n l (up_place m n l (string_bytes l.name) blank refl sets) ∙ was))
      (λ ne. shown_others n l q ne ∙ sets.others q ne)
      (names q (string_bytes l.name));
}

pub up_shown : (m n : Map) (l : LastFile) (text : List ℕ) (blank : FileView) → text ≡ string_bytes l.name → Some l.file ≡ file_in m text → SetsFile text (Some blank) m n
    → SameFiles m (shown n (Some l))
up_shown m n l text blank same was sets =
    up_one m n l blank (subst (λ (t : List ℕ). Some l.file ≡ file_in m t) same was) (subst (λ (t : List ℕ). SetsFile t (Some blank) m n) same sets)

pub ruleset ups = (none_place, none_shown, none_kept, up_place)

-- ## One after the other

pub same_then : (m n p : Map) → SameFiles m n → SameFiles n p → SameFiles m p
same_then m n p first second = record { files = λ q. second.files q ∙ first.files q }

pub room_after : (name : List ℕ) (at : ℕ) (m n : Map) → SameFiles m n → at ≤ length (bytes_in m name) → at ≤ length (bytes_in n name)
room_after name at m n same le = subst (λ (o : Option FileView). at ≤ length (bytes_of (now_of o))) (sym (same.files name)) le

pub some_after : (name : List ℕ) (m n : Map) → SameFiles m n → IsSome (file_in m name) → IsSome (file_in n name)
some_after name m n same some = subst (λ (o : Option FileView). IsSome o) (sym (same.files name)) some

pub sets_after : (name : List ℕ) (w : Option FileView) (m n p : Map) → SameFiles m n → SetsFile name w n p → SetsFile name w m p
sets_after name w m n p same sets = record { here = sets.here; others = λ q ne. sets.others q ne ∙ same.files q }

pub sets_before : (name : List ℕ) (w : Option FileView) (m n p : Map) → SetsFile name w m n → SameFiles n p → SetsFile name w m p
sets_before name w m n p sets same = record { here = same.files name ∙ sets.here; others = λ q ne. same.files q ∙ sets.others q ne }

pub mapped_after : (name : List ℕ) (f : FileView → FileView) (m n p : Map) → SameFiles m n → SetsFile name (option_map f (file_in n name)) n p → SetsFile name (option_map f (file_in m name)) m p
mapped_after name f m n p same sets =
    sets_to name (option_map f (file_in n name)) (option_map f (file_in m name)) m p (sets_after name (option_map f (file_in n name)) m n p same sets)
    (ap (λ (o : Option FileView). option_map f o) (same.files name))

pub moves_after : (from to : List ℕ) (m n p : Map) → SameFiles m n → MovesFile from to n p → MovesFile from to m p
moves_after from to m n p same moves = record {
  moved = moves.moved ∙ same.files from;
  gone = moves.gone;
  others = λ q ne_from ne_to. moves.others q ne_from ne_to ∙ same.files q;
}

pub left_after : (choice : Choice) (m n p : Map) → SameFiles m n → ((name : List ℕ) → now_of (file_in p name) ≡ crashed_in choice (file_in n name))
    → (name : List ℕ) → now_of (file_in p name) ≡ crashed_in choice (file_in m name)
left_after choice m n p same left name = left name ∙ ap (λ (o : Option FileView). crashed_in choice o) (same.files name)

pub image_after : (choice : Choice) (m n : Map) → SameFiles m n → ((name : List ℕ) → MayBe (file_in n name) (crashed_in choice (file_in n name)))
    → (name : List ℕ) → MayBe (file_in m name) (crashed_in choice (file_in m name))
image_after choice m n same image name = subst (λ (o : Option FileView). MayBe o (crashed_in choice o)) (same.files name) (image name)

-- what is shown of the files where none is held
pub same_as : (v s n : Map) → s ≡ v → SameFiles s n → SameFiles v n
same_as v s n is same = subst (λ (m : Map). SameFiles m n) is same

-- ## A write to a file that isn't held

pub wrote_after : (name bytes : List ℕ) (at : ℕ) (m n p : Map) → SameFiles m n → SetsFile name (Some (written_in at bytes (file_in n name))) n p
    → SetsFile name (Some (written_in at bytes (file_in m name))) m p
wrote_after name bytes at m n p same sets =
    sets_to name (Some (written_in at bytes (file_in n name))) (Some (written_in at bytes (file_in m name))) m p
    (sets_after name (Some (written_in at bytes (file_in n name))) m n p same sets)
    (ap (λ (o : Option FileView). Some (written_in at bytes o)) (same.files name))

pub wrote_none : (name bytes : List ℕ) (at : ℕ) (m n p : Map) (last : Option LastFile) → last ≡ None → SameFiles m n
    → SetsFile name (Some (written_in at bytes (file_in n name))) n p → SetsFile name (Some (written_in at bytes (file_in m name))) m (shown p last)
wrote_none name bytes at m n p last is same sets =
    subst (λ (o : Option LastFile). SetsFile name (Some (written_in at bytes (file_in m name))) m (shown p o)) (sym is) (wrote_after name bytes at m n p same sets)

pub wrote_up : (name bytes : List ℕ) (at : ℕ) (m n p s : Map) → SameFiles m n → SetsFile name (Some (written_in at bytes (file_in n name))) n p → SameFiles p s
    → SetsFile name (Some (written_in at bytes (file_in m name))) m s
wrote_up name bytes at m n p s same sets up =
    sets_before name (Some (written_in at bytes (file_in m name))) m p s (wrote_after name bytes at m n p same sets) up

pub fails_none : (m n p : Map) (last : Option LastFile) → last ≡ None → SameFiles m n → SameFiles n p → SameFiles m (shown p last)
fails_none m n p last is first second = none_shown m p last is (same_then m n p first second)

pub ruleset others = (same_as, none_place, room_after, wrote_none, wrote_up, fails_none)

-- ## The file that is held is changed

pub changed_place : (m : Map) (f : FileView → FileView) (last : Option LastFile) → HasPlace m last → HasPlace m (changed f last)
changed_place m f None place = tt
changed_place m f (Some l) place = place

one_sets : (m : Map) (l k : LastFile) (f : FileView → FileView) → k.name ≡ l.name → k.file ≡ f l.file → HasPlace m (Some l) → HasPlace m (Some k)
    → SetsFile (string_bytes l.name) (option_map f (file_in (shown m (Some l)) (string_bytes l.name))) (shown m (Some l)) (shown m (Some k))
one_sets m l k f same is place place_k = record {
  here = subst (λ (n : String Global). file_in (shown m (Some k)) (string_bytes n) ≡ Some k.file) same (shown_here m k place_k) ∙ ap (λ (g : FileView). Some g) is
      ∙ sym (ap (λ (o : Option FileView). option_map f o) (shown_here m l place));
  others = λ q ne. shown_others m k q (subst (λ (n : String Global). q ≢ string_bytes n) (sym same) ne) ∙ sym (shown_others m l q ne);
}

pub last_sets : (m : Map) (last : Option LastFile) (name : List ℕ) (f : FileView → FileView) → is_last last name ≡ true → HasPlace m last
    → SetsFile name (option_map f (file_in (shown m last) name)) (shown m last) (shown m (changed f last))
last_sets m None name f is place = absurd (cc)
last_sets m (Some l) name f is place =
    subst (λ (t : List ℕ). SetsFile t (option_map f (file_in (shown m (Some l)) t)) (shown m (Some l)) (shown m (changed f (Some l)))) (named l name is)
    (one_sets m l (record { name = l.name; file = f l.file }) f refl refl place place)

last_some : (m : Map) (last : Option LastFile) (name bytes : List ℕ) (at : ℕ) → is_last last name ≡ true → HasPlace m last
    → option_map (written at bytes) (file_in (shown m last) name) ≡ Some (written_in at bytes (file_in (shown m last) name))
last_some m None name bytes at is place = absurd (cc)
last_some m (Some l) name bytes at is place =
    subst (λ (t : List ℕ). option_map (written at bytes) (file_in (shown m (Some l)) t) ≡ Some (written_in at bytes (file_in (shown m (Some l)) t))) (named l name is)
    (ap (λ (o : Option FileView). option_map (written at bytes) o) (shown_here m l place) ∙ sym (ap (λ (o : Option FileView). Some (written_in at bytes o)) (shown_here m l place)))

pub last_synced : (v m : Map) (last new : Option LastFile) (name : List ℕ) (f : FileView → FileView) → shown m last ≡ v → is_last last name ≡ true → HasPlace m last → new ≡ changed f last
    → SetsFile name (option_map f (file_in v name)) v (shown m new)
last_synced v m last new name f view is place made =
    subst (λ (n : Map). SetsFile name (option_map f (file_in n name)) n (shown m new)) view
    (subst (λ (o : Option LastFile). SetsFile name (option_map f (file_in (shown m last) name)) (shown m last) (shown m o)) (sym made) (last_sets m last name f is place))

pub last_wrote : (v m : Map) (last new : Option LastFile) (name bytes : List ℕ) (at : ℕ) → shown m last ≡ v → is_last last name ≡ true → HasPlace m last → new ≡ changed (written at bytes) last
    → SetsFile name (Some (written_in at bytes (file_in v name))) v (shown m new)
last_wrote v m last new name bytes at view is place made =
    subst (λ (n : Map). SetsFile name (Some (written_in at bytes (file_in n name))) n (shown m new)) view
    (sets_to name (option_map (written at bytes) (file_in (shown m last) name)) (Some (written_in at bytes (file_in (shown m last) name))) (shown m last) (shown m new)
    (subst (λ (o : Option LastFile). SetsFile name (option_map (written at bytes) (file_in (shown m last) name)) (shown m last) (shown m o)) (sym made)
    (last_sets m last name (written at bytes) is place)) (last_some m last name bytes at is place))

pub last_kept : (v m : Map) (last new : Option LastFile) → shown m last ≡ v → new ≡ last → SameFiles v (shown m new)
last_kept v m last new view same = subst (λ (o : Option LastFile). SameFiles v (shown m o)) (sym same) (subst (λ (n : Map). SameFiles n (shown m last)) view (same_files (shown m last)))

pub kept_place : (m : Map) (last new : Option LastFile) → new ≡ last → HasPlace m last → HasPlace m new
kept_place m last new same place = subst (λ (o : Option LastFile). HasPlace m o) (sym same) place

pub made_place : (m : Map) (f : FileView → FileView) (last new : Option LastFile) → new ≡ changed f last → HasPlace m last → HasPlace m new
made_place m f last new made place = subst (λ (o : Option LastFile). HasPlace m o) (sym made) (changed_place m f last place)

pub last_room : (v m : Map) (last : Option LastFile) (name : List ℕ) (at : ℕ) → shown m last ≡ v → is_last last name ≡ true → HasPlace m last → at ≤ length (bytes_in v name)
    → IfSome last (λ l. at ≤ length l.file.now)
last_room v m None name at view is place le = tt
last_room v m (Some l) name at view is place le =
    let here : file_in v name ≡ Some l.file =
    subst (λ (n : Map). file_in n name ≡ Some l.file) view (subst (λ (t : List ℕ). file_in (shown m (Some l)) t ≡ Some l.file) (named l name is) (shown_here m l place)) in
    subst (λ (bytes : List ℕ). at ≤ length bytes) (ap (λ (o : Option FileView). bytes_of (now_of o)) here) le

pub ruleset lasts = (last_kept, kept_place, made_place)

-- ## The file of a name

pub got_none : (v m : Map) (last : Option LastFile) (name : List ℕ) (file : Option FileView) → shown m last ≡ v → None ≡ last → file ≡ file_in m name → file ≡ file_in v name
got_none v m last name file view is got = got ∙ ap (λ (o : Option LastFile). file_in (shown m o) name) is ∙ ap (λ (n : Map). file_in n name) view

pub got_last : (v m : Map) (last : Option LastFile) (l : LastFile) (name : List ℕ) → shown m last ≡ v → Some l ≡ last → string_bytes l.name ≡ name → HasPlace m last → Some l.file ≡ file_in v name
got_last v m last l name view is same place =
    sym (subst (λ (t : List ℕ). file_in (shown m (Some l)) t ≡ Some l.file) same (shown_here m l (subst (λ (o : Option LastFile). HasPlace m o) (sym is) place)))
    ∙ ap (λ (o : Option LastFile). file_in (shown m o) name) is ∙ ap (λ (n : Map). file_in n name) view

pub got_other : (v m : Map) (last : Option LastFile) (l : LastFile) (name : List ℕ) (file : Option FileView) → shown m last ≡ v → Some l ≡ last → name ≢ string_bytes l.name → file ≡ file_in m name
    → file ≡ file_in v name
got_other v m last l name file view is ne got =
    got ∙ sym (shown_others m l name ne) ∙ ap (λ (o : Option LastFile). file_in (shown m o) name) is ∙ ap (λ (n : Map). file_in n name) view

pub ruleset orders = (shown_names, shown_order)

pub ruleset afters = (same_as, none_place, none_shown, room_after, some_after, sets_after, mapped_after, moves_after, left_after, image_after)
