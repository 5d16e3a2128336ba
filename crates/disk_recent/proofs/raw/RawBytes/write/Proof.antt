-- `write` forgets what stood at a place, and puts a byte there. Assumes `Logic`.
use mathlib.Core.Path.{◌≡◌, refl, sym, ap, subst, ◌∙◌}
use Prim.Native.Nat.{ℕ, ◌+◌, ◌<◌, ◌^◌}
use mathlib.Core.List.{List, [], ◌∷◌, ◌++◌}
use lib.ListN.{length, set, get_or, length-set}
use seplogic.Ra.Ura.{Ura}
use base.Fraction.{full_share}
use base.Logic.{SProp, ent, never, id⊢}
use base.Fml.{Lft, GName, Share, ftrue, froom, flft, fobs, fbor}
use mir.Syntax.{named, ty_int, w8, w64}
use mir.Val.{Val, vptr, vint, vunit}
use prog.Memory.{Memory}
use prog.Routine.{Routine}
use prog.Wp.{Env, Calls, Loops, WpFn, Tables}
use types.Logic.{Logic}
use types.Kit.{Item, ⋆, ‵, ◌⊛◌, at_ret, ◌$◌, ◌∵◌, !, qed, by, move, keep, use1, use2, split, join, rewrite, fsplit, fsplit3, fjoin, fjoin3, feq_i, feq_l, flt_l, flt_i, suffices, frame, done}
use types.Part.{whole, sub, look_in}
use types.Run.{init, stop, fld, load, bin, unit_lit, of_opd, assigns_last, first, blocks, exec, returns, enter}
use types.ByLocal.{alloc_all, pass_all, free_all, look_at, get, through, sets, env}
use types.SemTy.{Body as Borrowed}
use contract.Monad.{Fun}
use contract.Running.{tables, tables_of}
use sound.WpLaws.{WpFn-mono}
use denote.Exit.{yes}
use denote.RattleType.{owns}
use denote.Memory.{mem, cell_at}
use denote.Plain.{uint_in}
use denote.RawPtr.{Ptr, in_a_block}
use denote.Ref.{MutBor, MutRef}
use denote.Builtin.{u8, usize}
use denote.Signature.{plain}
use denote.Steps.{nothing, opens, closes}
use denote.Triple.Clauses.{Clauses}
use denote.Triple.Entry.{on_entry}
use denote.Triple.Spec.{Meets, triple_of}
use denote.Triple.Table.{entered}
use denote.Triple.Walked.{says, needs, Stays, stay_dropped, stay_ref, walk_of, ends_at, Goes-dropped, Goes-ref, walk_Meets}
use Rattle.std.specs.Prelude.{Some, None}
use Rattle.std.proofs.VecSteps.Shapes.{after}
use Rattle.std.proofs.RcSteps.{word}
use Rattle.disk_recent.specs.Owned.{place, places, bytes_own}
use Rattle.disk_recent.proofs.Memory.{Br, word_had, word_made, Besides, place_out, place_in, emptied}
use Rattle.disk_recent.specs.contracts.raw.RawBytes.write as F
use Rattle.disk_recent.specs.contracts.raw.RawBytes.write.Key.{name as #self}
use Rattle.disk_recent.proofs.raw.RawBytes.write.Statement as stated
use Rattle.disk_recent.proofs.raw.RawBytes.write.Code as code

abbrev stayed : Stays F.ended.signature.params F.ended.kept
stayed = (stay_ref (0 ∷ []) tt (plain (λ _. Br)), (stay_dropped (plain (λ _. usize)) yes, (stay_dropped (plain (λ _. u8)) yes, tt)))

module _ {M : Type 1} {𝓤 : Ura M} (𝓛 : Logic 𝓤) (at_mem : Memory → SProp 𝓤) (run : Routine → Fun 𝓤) where
  open 𝓛 use {H}

  abbrev clauses : Clauses 𝓤 F.ended
  clauses = F.clauses 𝓛 at_mem run

  module _ (C : Calls 𝓤 H) (Λ : Loops 𝓤 H) (κ : Lft) (q : Share) (rb ro : ℕ) (γ : GName) (d : Br.Denot) (index byte : ℕ) (us0 us1 us2 : List Val) where
    abbrev self : MutBor Br.Denot
    self = record { ref_ptr = (rb, ro); ghost_name = γ; now = d }

    abbrev bound : (walk_of 𝓛 F.ended stayed clauses).Ghost
    bound = (((κ, tt), (q, tt), tt, (self, (index, (byte, tt))), (us0, (us1, (us2, tt)))), tt)

    abbrev Post : Val → SProp 𝓤
    Post = (walk_of 𝓛 F.ended stayed clauses).post bound

    abbrev new : Br.Denot
    new = record { at = d.at; places = set d.places index (Some byte) }

    exits : us0 ≡ vptr rb ro ∷ [] → ent 𝓤 (⋆ 𝓛 (‵ (fobs γ (Br.coded.code new)) ∷ ‵ (fbor κ (Borrowed (mem Br) rb ro γ)) ∷ ‵ (flft κ q) ∷ [])) (Post vunit)
    exits passed =
        qed 𝓛 (‵ (fobs γ (Br.coded.code new)) ∷ ‵ (fbor κ (Borrowed (mem Br) rb ro γ)) ∷ ‵ (flft κ q) ∷ []) ∵
        suffices ! _ (ends_at 𝓛 F.ended stayed clauses bound vunit tt (new, (tt, (tt, tt))) (tt, (tt, (tt, tt)))) $ says ! (refl, refl) $
        feq_i ! (List Val) (vunit ∷ []) (vunit ∷ []) refl $ move ! (1 ∷ 2 ∷ 3 ∷ 0 ∷ []) $
        nothing ! $ move ! (3 ∷ 0 ∷ []) $ join ! $ frame ! $ feq_i ! (List Val) us0 (vptr rb ro ∷ []) passed $ fjoin3 ! $ nothing ! $ nothing ! $
        fjoin ! $ nothing ! $ fjoin ! $ move ! (1 ∷ 0 ∷ []) $ fjoin ! $ done !

    abbrev Had : List (Item 𝓤)
    Had = ‵ (fobs γ (Br.coded.code d)) ∷ ‵ (fbor κ (Borrowed (mem Br) rb ro γ)) ∷ ‵ (flft κ q) ∷ []

    walk : us0 ≡ vptr rb ro ∷ [] → index < length d.places → index < 2 ^ 64 → byte < 2 ^ 8 → ent 𝓤 (⋆ 𝓛 Had) (WpFn 𝓤 H C Λ code.function (vptr rb ro ∷ vint w64 index ∷ vint w8 byte ∷ []) Post)
    walk passed within fits_index fits_byte =
        qed 𝓛 Had ∵ enter ! C Λ code.function (vptr rb ro ∷ vint w64 index ∷ vint w8 byte ∷ []) _ $
        alloc_all ! (λ l. pass_all ! refl ((tt, tt), ((tt, record { fits = fits_index }), ((tt, record { fits = fits_byte }), tt))) $
        let En : Env 𝓤 H = env (code.function).locals l in
        opens ! tt Br {h = d} rb ro (λ vs. move ! (1 ∷ []) $ fsplit ! $
        word_had ! d.at vs (λ ev.
        in_a_block ! d.at (λ p. bytes_own p d.places) (id⊢ 𝓤 (never 𝓤)) (λ b o e. fsplit ! $ flt_l ! (λ small.
        let cell = ev ∙ ap (λ (p : Ptr). word p ∷ []) e in
        rewrite ! 1 (λ (ws : List Val). ‵ (cell_at full_share Br.mir ws rb ro)) cell refl $
        use1 𝓛 (‵ (place b (index + o) (get_or d.places index None)) ⊛ ‵ (Besides 𝓛 b o d.places index)) (place_out 𝓛 b o d.places index within) $ split ! $
        use1 𝓛 (‵ (froom (ty_int w8) b (index + o))) (emptied 𝓛 b (get_or d.places index None) (index + o)) $
        -- [the room; the other places; the cell of self; the open borrow, in three entries]
        first ! $ blocks ! $
        sets ! (of_opd ! (load ! (through ! refl (fld ! refl (stop !))) (look_in ! 2 (sub ! 0 refl (whole !))))) refl (tt, tt) $
        sets ! (bin ! (get ! refl) (get ! refl) tt) refl (tt, tt) $
        assigns_last ! (of_opd ! (get ! refl)) (through ! refl (stop !)) (init ! 0 refl (tt, record { fits = fits_byte })) $
        exec ! C Λ En (after 1 (code.function).body) (at_ret En Post) $ sets ! (of_opd ! (unit_lit !)) refl (tt, tt) $
        use1 𝓛 (‵ (place b (index + o) (Some byte))) (uint_in 𝓛 full_share w8 byte b (index + o)) $
        use2 𝓛 (‵ (places b o new.places)) (place_in 𝓛 b o d.places index within (Some byte)) $
        flt_i ! (length new.places) (2 ^ 63) (subst (λ k. k < 2 ^ 63) (sym (length-set d.places index (Some byte))) small) $ fjoin ! $
        rewrite ! 0 (λ (p : Ptr). ‵ (bytes_own p new.places)) (sym e) refl $
        rewrite ! 1 (λ (ws : List Val). ‵ (cell_at full_share Br.mir ws rb ro)) (ap (λ (p : Ptr). word p ∷ []) (sym e)) refl $
        word_made ! d.at $ fjoin ! $ move ! (1 ∷ 0 ∷ []) $ closes ! tt Br new (word d.at ∷ []) rb ro $
        returns ! (look_at ! 0 refl) $ free_all ! refl $ keep ! (0 ∷ 1 ∷ 2 ∷ []) $ by ! (exits passed))))))

    entry : index < length d.places → ent 𝓤 (on_entry 𝓛 F.signature (κ, tt) (q, tt) (self, (index, (byte, tt))) (us0, (us1, (us2, tt)))) (WpFn 𝓤 H C Λ code.function (us0 ++ (us1 ++ (us2 ++ []))) Post)
    entry within =
        qed 𝓛 ((‵ (flft κ q) ⊛ ‵ ftrue) ∷ ‵ (owns (MutRef (named 0) κ Br ∷ usize ∷ u8 ∷ []) (self, (index, (byte, tt))) (us0, (us1, (us2, tt)))) ∷ []) ∵
        split ! $ move ! (2 ∷ []) $ fsplit ! $ fsplit3 ! $ feq_l ! (λ e0.
        move ! (2 ∷ []) $ fsplit ! $ fsplit ! $ feq_l ! (λ e1. flt_l ! (λ fits_index.
        fsplit ! $ fsplit ! $ feq_l ! (λ e2. flt_l ! (λ fits_byte.
        keep ! (1 ∷ 2 ∷ 3 ∷ []) $
        by ! (subst (λ (ws : List Val × List Val × List Val). ent 𝓤 (⋆ 𝓛 Had) (WpFn 𝓤 H C Λ code.function (ws.0 ++ (ws.1 ++ (ws.2 ++ []))) Post))
        (λ j. (sym e0 j, sym e1 j, sym e2 j)) (walk e0 within fits_index fits_byte)))))))

  meets : (𝓣 : Tables 𝓤 H) → Meets 𝓛 F.signature (WpFn 𝓤 H 𝓣.C 𝓣.Λ code.function) (F.spec 𝓛 at_mem run)
  meets 𝓣 =
      walk_Meets 𝓛 F.ended stayed (Goes-ref 𝓛 1 0 tt (plain (λ _. Br)), (Goes-dropped 𝓛 1 (plain (λ _. usize)) yes (λ κs x f. refl), (Goes-dropped 𝓛 1 (plain (λ _. u8)) yes (λ κs x f. refl), tt)))
      clauses (WpFn 𝓤 H 𝓣.C 𝓣.Λ code.function) (WpFn-mono 𝓤 H 𝓛.laws 𝓣 code.function)
      (λ z. needs 𝓤 (z.0.3.1.0 < length z.0.3.0.now.places) _ (entry 𝓣.C 𝓣.Λ z.0.0.0 z.0.1.0 z.0.3.0.ref_ptr.0 z.0.3.0.ref_ptr.1 z.0.3.0.ghost_name
      z.0.3.0.now z.0.3.1.0 z.0.3.1.1.0 z.0.4.0 z.0.4.1.0 z.0.4.1.1.0))

pub write_spec : {M : Type 1} → stated.statement M
unfolding tables_of
write_spec 𝓤 𝓛 𝓜 𝓡 wired =
    let 𝓣 : Tables 𝓤 𝓛.H = tables_of 𝓤 𝓛.H 𝓜 (tables 𝓤 𝓛.H 𝓜 𝓡 𝓡.env) in
    entered 𝓤 𝓛.H (triple_of 𝓛 F.signature (F.spec 𝓛 𝓜.mem 𝓡.returns)) 𝓣.C 𝓣.Λ #self code.function (code.unfolded 𝓤 𝓛.H 𝓜 𝓡 wired) (meets 𝓛 𝓜.mem 𝓡.returns 𝓣)
