-- What the walks of the pointer's functions share. Assumes `Logic`.
--     word_had, word_made, mark_had, mark_made      a value of one pointer, and one of no bytes
--     place_out, place_in      one place is taken out of the row, and put back;        emptied      what stood there is forgotten
--     run_seen      a run of written places is seen;        of_room, to_room      room for an array is a row of places
use mathlib.Core.Path.{◌≡◌, refl, sym, ap, subst, ◌∙◌}
use Prim.Native.Nat.{ℕ, zero, suc, ◌+◌, ◌<◌, ◌≤◌}
use native.Mathlib.Omega.{arith}
use mathlib.Core.List.{List, [], ◌∷◌, ◌++◌, map}
use lib.ListN.{length, take, drop, set, get_or, replicate, take-append-drop, length-take}
use lib.Seq.{drop-cons, set_split}
use seplogic.Ra.Ura.{Ura}
use base.Fraction.{full_share}
use mir.Syntax.{Ty, ty_int, ty_ptr, ty_struct, ty_array, tcons, tnil, w8}
use mir.Raw.{raw as bare}
use mir.Val.{Val, vint, vstruct, of_list}
use base.Logic.{ent, sep, via, snd∗, id⊢, mono_r}
use base.Fml.{Fml, Lft, Share, ftrue, fsep, fat, froom, flft}
use types.Logic.{Logic, sem}
use types.Kit.{Item, Goal, Seq, Step, Soaks, step, ‵, ◌⊛◌, ◌$◌, ◌∵◌, !, qed, by, move, keep, drop as skip, use1, use2, split, fsplit, fjoin, fpick, fpack, feq_i, feq_l, rewrite, done}
use denote.RattleType.{RattleType, Valss}
use denote.Builtin.{u8}
use denote.Copied.{Copied, plain_Copied, Struct-Copied}
use denote.Memory.{cell_at, part_at, hidden_shr}
use denote.Opens.{Shut}
use denote.Plain.{uint_out}
use denote.RawPtr.{Ptr, RawPtr, ptr_val, coded_ptr, ptr_own, rawptr_pure}
use denote.Slice.{elements_shared}
use denote.Steps.{nothing, looks, shuts}
use denote.Struct.Laws.{RawPtr-laws}
use denote.Struct.Struct.{Shape, Struct, within}
use denote.Struct.Owning.{shape}
use Rattle.std.specs.Prelude.{Option, Some, None}
use Rattle.std.proofs.RcSteps.{word}
use Rattle.disk_recent.specs.Owned.{place, places, place_lent, places_lent}
use Rattle.disk_recent.specs.contracts.raw.RawBytes as B-type

abbrev pub Br : RattleType
Br = B-type.the_row

abbrev one_field : Shape
one_field = shape B-type.the_type

-- the one field of `RawBytes`
abbrev pub Word : RattleType
Word = Struct one_field

abbrev pub word_ty : Ty
word_ty = ty_struct one_field.name (tcons ty_ptr tnil)

module _ {M : Type 1} {𝓤 : Ura M} {𝓛 : Logic 𝓤} {K : Type 0} {Γ : List (Item 𝓤)} {G : Goal 𝓤 𝓛.H} where
  pub word_had : K → (c : Ptr) (vs : List Val) → (vs ≡ word c ∷ [] → Seq K 𝓛 Γ G) → Seq K 𝓛 (‵ (Word.own_val (c, tt) vs) ∷ Γ) G
  word_had t c vs k = fpick t (λ vss. fsplit t $ feq_l t (λ ev. fsplit t $ feq_l t (λ e. skip t $ k (subst (λ (ws : List Val). vs ≡ vstruct (of_list (ws ++ [])) ∷ []) e ev))))

  pub word_made : K → (c : Ptr) → Step K 𝓛 (‵ (Word.own_val (c, tt) (word c ∷ [])) ∷ Γ) G Γ G
  word_made t c = step (λ s.
      nothing t $ feq_i t (List Val) (ptr_val c ∷ []) (ptr_val c ∷ []) refl $ fjoin t $ feq_i t (List Val) (word c ∷ []) (word c ∷ []) refl $ fjoin t $
      fpack t (Valss (RawPtr ∷ [])) (within one_field (c, tt) (word c ∷ [])) (ptr_val c ∷ [], tt) $ s)

module _ {M : Type 1} {𝓤 : Ura M} {𝓛 : Logic 𝓤} {K : Type 0} {Γ : List (Item 𝓤)} {G : Goal 𝓤 𝓛.H} where
  -- the pointer is read through a `&`: [the word; what shuts]
  pub reads : K → Soaks G → (c : Ptr) {κ : Lft} {q : Share} (b o : ℕ) → ((q' : Share) → Seq K 𝓛 (‵ (fat q' word_ty b o (word c)) ∷ Shut 𝓛 κ q (part_at Word q' (c, tt) b o) ∷ Γ) G)
      → Seq K 𝓛 (‵ (hidden_shr Word κ (c, tt) b o) ∷ ‵ (flft κ q) ∷ Γ) G
  reads t z c b o k =
      let raw_copied : Copied 𝓛 RawPtr = plain_Copied 𝓛 Ptr coded_ptr (ty_ptr ∷ []) ptr_own rawptr_pure ptr_val RawPtr-laws.tells in
      let copied : Copied 𝓛 Word = Struct-Copied 𝓛 one_field (refl, tt) (raw_copied, tt) in
      looks t z Word copied.opens (c, tt) b o (λ q' vs. move t (3 ∷ []) $ skip t $ move t (1 ∷ []) $ word_had t c vs (λ e.
      rewrite t 0 (λ (us : List Val). ‵ (cell_at q' (word_ty ∷ []) us b o)) e refl $ use1 𝓛 (‵ (fat q' word_ty b o (word c))) (𝓛.laws.raw_at q' word_ty b o (word c)) $ k q'))

  pub read : K → Soaks G → (c : Ptr) {κ : Lft} {q : Share} (b o : ℕ) (q' : Share)
      → Step K 𝓛 (‵ (flft κ q) ∷ Γ) G (‵ (fat q' word_ty b o (word c)) ∷ Shut 𝓛 κ q (part_at Word q' (c, tt) b o) ∷ Γ) G
  read t z c b o q' = step (λ s.
      use1 𝓛 (‵ (fat q' (bare word_ty) b o (word c))) (𝓛.laws.at_raw q' word_ty b o (word c)) $ word_made t c $ move t (1 ∷ 0 ∷ []) $ shuts t z Word q' (c, tt) (word c ∷ []) b o $ s)

module _ {M : Type 1} {𝓤 : Ura M} (𝓛 : Logic 𝓤) (b : ℕ) where
  open 𝓛 use {H}

  abbrev Row : ℕ → List (Option ℕ) → Fml
  Row = places b

  cut : (xs ys : List (Option ℕ)) (o at : ℕ) → at ≡ length xs + o → ent 𝓤 (sem 𝓛 (Row o (xs ++ ys))) (sep 𝓤 (sem 𝓛 (Row o xs)) (sem 𝓛 (Row at ys)))
  cut [] ys o at e = qed 𝓛 (‵ (Row o ys) ∷ []) ∵ rewrite ! 0 (λ (k : ℕ). ‵ (Row k ys)) {x = at} (omega arith) refl $ nothing ! $ done !
  cut (x ∷ xs) ys o at e = qed 𝓛 (‵ (Row o (x ∷ xs ++ ys)) ∷ []) ∵ fsplit ! $ move ! (1 ∷ []) $
      use1 𝓛 (‵ (Row (o + 1) xs) ⊛ ‵ (Row at ys)) (cut xs ys (o + 1) at (omega arith)) $ split ! $ move ! (2 ∷ 0 ∷ []) $ fjoin ! $ done !

  glue : (xs ys : List (Option ℕ)) (o at : ℕ) → at ≡ length xs + o → ent 𝓤 (sep 𝓤 (sem 𝓛 (Row o xs)) (sem 𝓛 (Row at ys))) (sem 𝓛 (Row o (xs ++ ys)))
  glue [] ys o at e = qed 𝓛 (‵ ftrue ∷ ‵ (Row at ys) ∷ []) ∵ skip ! $ rewrite ! 0 (λ (k : ℕ). ‵ (Row k ys)) {x = o} (omega arith) refl $ done !
  glue (x ∷ xs) ys o at e = qed 𝓛 (‵ (Row o (x ∷ xs)) ∷ ‵ (Row at ys) ∷ []) ∵ fsplit ! $ move ! (1 ∷ 2 ∷ []) $
      use2 𝓛 (‵ (Row (o + 1) (xs ++ ys))) (glue xs ys (o + 1) at (omega arith)) $ move ! (1 ∷ 0 ∷ []) $ fjoin ! $ done !

  module _ (o : ℕ) (cs : List (Option ℕ)) (i : ℕ) where
    -- the places but for the i-th
    abbrev pub Besides : Fml
    Besides = fsep (Row o (take i cs)) (Row (i + o + 1) (drop (suc i) cs))

    before : i ≤ length cs → i + o ≡ length (take i cs) + o
    before le = let long : i ≡ length (take i cs) = omega (arith, length-take i cs) in ap (λ k. k + o) long

    pub place_out : i < length cs → ent 𝓤 (sem 𝓛 (Row o cs)) (sep 𝓤 (sem 𝓛 (place b (i + o) (get_or cs i None))) (sem 𝓛 Besides))
    place_out lt = qed 𝓛 (‵ (Row o cs) ∷ []) ∵
        rewrite ! 0 (λ (l : List (Option ℕ)). ‵ (Row o l)) (sym (take-append-drop i cs) ∙ ap (λ l. take i cs ++ l) (drop-cons cs i None lt)) refl $
        use1 𝓛 (‵ (Row o (take i cs)) ⊛ ‵ (Row (i + o) (get_or cs i None ∷ drop (suc i) cs))) (cut (take i cs) (get_or cs i None ∷ drop (suc i) cs) o (i + o) (before (omega arith))) $
        split ! $ move ! (1 ∷ []) $ fsplit ! $ move ! (2 ∷ 1 ∷ []) $ fjoin ! $ move ! (1 ∷ []) $ done !

    pub place_in : i < length cs → (c : Option ℕ) → ent 𝓤 (sep 𝓤 (sem 𝓛 (place b (i + o) c)) (sem 𝓛 Besides)) (sem 𝓛 (Row o (set cs i c)))
    place_in lt c = qed 𝓛 (‵ (place b (i + o) c) ∷ ‵ Besides ∷ []) ∵ move ! (1 ∷ []) $ fsplit ! $ move ! (2 ∷ 1 ∷ []) $ fjoin ! $ move ! (1 ∷ 0 ∷ []) $
        use2 𝓛 (‵ (Row o (take i cs ++ c ∷ drop (suc i) cs))) (glue (take i cs) (c ∷ drop (suc i) cs) o (i + o) (before (omega arith))) $
        rewrite ! 0 (λ (l : List (Option ℕ)). ‵ (Row o l)) (sym (set_split cs i c lt)) refl $ done !

  -- what stands at a place is forgotten
  pub emptied : (c : Option ℕ) (o : ℕ) → ent 𝓤 (sem 𝓛 (place b o c)) (H.room (ty_int w8) b o)
  emptied None o = id⊢ 𝓤 _
  emptied (Some x) o = qed 𝓛 (‵ (place b o (Some x)) ∷ []) ∵
      use1 𝓛 (‵ (fat full_share (ty_int w8) b o (vint w8 x))) (uint_out 𝓛 full_share w8 x b o) $ by ! (𝓛.laws.at_room (ty_int w8) b o (vint w8 x))

  pub of_room : (n o : ℕ) → ent 𝓤 (H.room (ty_array (ty_int w8) n) b o) (sem 𝓛 (Row o (replicate n None)))
  of_room zero o = qed 𝓛 (‵ (froom (ty_array (ty_int w8) 0) b o) ∷ []) ∵ keep ! [] $ done !
  of_room (suc n) o = qed 𝓛 (‵ (froom (ty_array (ty_int w8) (suc n)) b o) ∷ []) ∵
      use1 𝓛 (‵ (froom (ty_int w8) b o) ⊛ ‵ (froom (ty_array (ty_int w8) n) b (o + 1))) (𝓛.laws.room_uncons (ty_int w8) n b o) $ split ! $
      move ! (1 ∷ []) $ use1 𝓛 (‵ (Row (o + 1) (replicate n None))) (of_room n (o + 1)) $ move ! (1 ∷ 0 ∷ []) $ fjoin ! $ done !

  pub to_room : (cs : List (Option ℕ)) (o : ℕ) → ent 𝓤 (sem 𝓛 (Row o cs)) (H.room (ty_array (ty_int w8) (length cs)) b o)
  to_room [] o = 𝓛.laws.room_nil (ty_int w8) b o
  to_room (c ∷ cs) o = qed 𝓛 (‵ (place b o c) ∷ ‵ (Row (o + 1) cs) ∷ []) ∵
      use1 𝓛 (‵ (froom (ty_int w8) b o)) (emptied c o) $ move ! (1 ∷ []) $
      use1 𝓛 (‵ (froom (ty_array (ty_int w8) (length cs)) b (o + 1))) (to_room cs (o + 1)) $ move ! (1 ∷ []) $ by ! (𝓛.laws.room_cons (ty_int w8) (length cs) b o)

  module _ (κ : Lft) where
    abbrev Seen : ℕ → List (Option ℕ) → Fml
    Seen o cs = places_lent b o cs κ

    from_on : (cs : List (Option ℕ)) (i o at : ℕ) → i ≤ length cs → at ≡ i + o → ent 𝓤 (sem 𝓛 (Seen o cs)) (sem 𝓛 (Seen at (drop i cs)))
    from_on cs zero o at le e = let same : o ≡ at = omega arith in subst (λ k. ent 𝓤 (sem 𝓛 (Seen o cs)) (sem 𝓛 (Seen k cs))) same (id⊢ 𝓤 _)
    from_on [] (suc i) o at le e = absurd (omega arith)
    from_on (c ∷ cs) (suc i) o at le e =
        via 𝓤 (sem 𝓛 (Seen (o + 1) cs)) (snd∗ 𝓤 (sem 𝓛 (place_lent b o c κ)) (sem 𝓛 (Seen (o + 1) cs))) (from_on cs i (o + 1) at (omega arith) (omega arith))

    up_to : (xs : List ℕ) (rest : List (Option ℕ)) (o : ℕ) → ent 𝓤 (sem 𝓛 (Seen o (map Some xs ++ rest))) (sem 𝓛 (elements_shared u8 xs b o κ))
    up_to [] rest o = qed 𝓛 (‵ (Seen o rest) ∷ []) ∵ keep ! [] $ done !
    up_to (x ∷ xs) rest o = mono_r 𝓤 (sem 𝓛 (place_lent b o (Some x) κ)) (up_to xs rest (o + 1))

    pub run_seen : (o : ℕ) (cs : List (Option ℕ)) (i n : ℕ) (xs : List ℕ) → i ≤ length cs → take n (drop i cs) ≡ map Some xs
        → ent 𝓤 (sem 𝓛 (Seen o cs)) (sem 𝓛 (elements_shared u8 xs b (i + o) κ))
    run_seen o cs i n xs le e = qed 𝓛 (‵ (Seen o cs) ∷ []) ∵ use1 𝓛 (‵ (Seen (i + o) (drop i cs))) (from_on cs i o (i + o) le refl) $
        rewrite ! 0 (λ (l : List (Option ℕ)). ‵ (Seen (i + o) l)) (sym (take-append-drop n (drop i cs)) ∙ ap (λ l. l ++ drop n (drop i cs)) e) refl $ by ! (up_to xs (drop n (drop i cs)) (i + o))
