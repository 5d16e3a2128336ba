-- What the walks of `allocate` and `deallocate` share. Assumes `Logic`.
--     args, P, Dr      the type argument, the allocator's row and the ownership's
--     mark_had, mark_made      a value of no bytes;        two_of      a pair is made
--     block_size      the size of an array of bytes;        learned      of a `requires` under one type parameter, the fact about its lifetime
use mathlib.Core.Path.{◌≡◌, refl, ap, subst, ◌∙◌}
use Prim.Native.Nat.{ℕ, ◌*◌, ◌<◌, ◌^◌}
use native.Mathlib.Omega.{arith}
use mathlib.Core.List.{List, [], ◌∷◌, ◌++◌}
use seplogic.Ra.Ura.{Ura}
use mir.Syntax.{Args, a_type, dcons, dnil, ty_array, ty_int, w8}
use mir.Val.{Val, vstruct, vcons, vnil, of_list}
use base.Logic.{SProp, ent, sep, emp, via, fst∗, snd∗, mono_r}
use prog.Memory.{size, capped}
use prog.Capped.{capped_is}
use types.Logic.{Logic, sem}
use types.Kit.{Item, Goal, Seq, ‵, ◌$◌, ◌∵◌, !, qed, move, drop as skip, fsplit, fjoin, fpick, fpack, feq_i, feq_l, done}
use contract.Monad.{fact, fact_use}
use denote.RattleType.{RattleType, Valss}
use denote.Param.{param, bounded}
use denote.Shadow.{makes_shadow}
use denote.Steps.{nothing}
use denote.Struct.Struct.{Struct, within}
use denote.Struct.Owning.{shape}
use denote.Struct.Declared as Declared
use denote.Struct.Tuple.{Tuple, tuple_type}
use Rattle.std.proofs.alloc.Calls.{Al}
use Rattle.disk_recent.specs.contracts.raw.Ownership as D-type

module _ (Z : Al) where
  abbrev pub args : Args
  args = bounded (a_type ∷ []) (Z.row, tt) (dcons Z.d (dcons Z.drops dnil))

  abbrev pub P : RattleType
  P = param 0 Z.row

  abbrev pub Dr : RattleType
  Dr = D-type.the_row P Z.g

  -- the one field of `Ownership`, which takes no bytes
  abbrev pub Mark : RattleType
  Mark = Struct (shape (D-type.the_type P Z.g))

abbrev pub mark : Val
mark = vstruct (vcons (vstruct vnil) vnil)

pub mark_made : (Z : Al) {M : Type 1} {𝓤 : Ura M} (𝓛 : Logic 𝓤) → ent 𝓤 (emp 𝓤) (sem 𝓛 ((Mark Z).own_val (tt, tt) (mark ∷ [])))
mark_made Z 𝓛 = makes_shadow 𝓛 ((Mark Z).own_val (tt, tt) (mark ∷ [])) (λ vss. (tt, ((λ uss. (tt, tt)), tt))) ((vstruct vnil ∷ [], tt), (refl, ((tt, (refl, tt)), tt)))

module _ {M : Type 1} {𝓤 : Ura M} {𝓛 : Logic 𝓤} {K : Type 0} {Γ : List (Item 𝓤)} {G : Goal 𝓤 𝓛.H} where
  pub mark_had : K → (Z : Al) (vs : List Val) → (vs ≡ mark ∷ [] → Seq K 𝓛 Γ G) → Seq K 𝓛 (‵ ((Mark Z).own_val (tt, tt) vs) ∷ Γ) G
  mark_had t Z vs k = fpick t (λ vss. fsplit t $ feq_l t (λ ev. fsplit t $ fpick t (λ uss. fsplit t $ feq_l t (λ e. skip t $ skip t $
      k (subst (λ (ws : List Val). vs ≡ vstruct (of_list (ws ++ [])) ∷ []) e ev)))))

abbrev pub two_val : Val → Val → Val
two_val u v = vstruct (vcons u (vcons v vnil))

pub two_of : {M : Type 1} {𝓤 : Ura M} (𝓛 : Logic 𝓤) (R S : RattleType) (x : R.Denot) (y : S.Denot) (u v : Val)
    → ent 𝓤 (sep 𝓤 (sem 𝓛 (R.own_val x (u ∷ []))) (sem 𝓛 (S.own_val y (v ∷ [])))) (sem 𝓛 ((Tuple (R ∷ S ∷ [])).own_val (x, y) (two_val u v ∷ [])))
two_of 𝓛 R S x y u v =
    qed 𝓛 (‵ (R.own_val x (u ∷ [])) ∷ ‵ (S.own_val y (v ∷ [])) ∷ []) ∵ nothing ! $ move ! (2 ∷ 0 ∷ []) $ fjoin ! $ move ! (1 ∷ 0 ∷ []) $ fjoin ! $
    feq_i ! (List Val) (two_val u v ∷ []) (two_val u v ∷ []) refl $ fjoin ! $
    fpack ! (Valss (R ∷ S ∷ [])) (within (Declared.shape (tuple_type (R ∷ S ∷ []))) (x, (y, tt)) (two_val u v ∷ [])) (u ∷ [], (v ∷ [], tt)) $ done !

-- the size that a call passes for an array of n bytes
pub block_size : (n : ℕ) → n < 2 ^ 64 → capped (size (ty_array (ty_int w8) n)) ≡ n
block_size n fits = let same : n * 1 ≡ n = omega arith in ap capped same ∙ capped_is n fits

pub learned : {M : Type 1} (𝓤 : Ura M) (ψ : Type 0) (P R : SProp 𝓤) {Q : SProp 𝓤} → (ψ → ent 𝓤 (sep 𝓤 P R) Q) → ent 𝓤 (sep 𝓤 P (sep 𝓤 (fact 𝓤 ψ) R)) Q
learned 𝓤 ψ P R k =
    let S : SProp 𝓤 = sep 𝓤 (fact 𝓤 ψ) R in
    fact_use 𝓤 ψ (via 𝓤 S (snd∗ 𝓤 P S) (fst∗ 𝓤 (fact 𝓤 ψ) R)) (λ x. via 𝓤 (sep 𝓤 P R) (mono_r 𝓤 P {Q = S} {Q' = R} (snd∗ 𝓤 (fact 𝓤 ψ) R)) (k x))
