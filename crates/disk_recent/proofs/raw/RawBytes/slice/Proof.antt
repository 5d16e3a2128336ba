-- `slice` shows a run of written bytes. Assumes `Logic`.
use mathlib.Core.Path.{◌≡◌, refl, sym, ap, subst}
use Prim.Native.Nat.{ℕ, ◌+◌, ◌*◌, ◌<◌, ◌^◌}
use native.Mathlib.Omega.{arith}
use mathlib.Core.List.{List, [], ◌∷◌, ◌++◌, map}
use lib.ListN.{length, take, drop as drop_l, length-take, length-drop}
use seplogic.Ra.Ura.{Ura}
use base.Logic.{SProp, ent, never, id⊢}
use base.Fml.{Lft, Share, ftrue, fat, flft}
use mir.Syntax.{named, w64}
use mir.Val.{Val, vptr, vint}
use prog.Memory.{Memory}
use prog.Routine.{Routine}
use prog.Wp.{Env, Calls, Loops, WpFn, Tables}
use types.Logic.{Logic}
use types.Kit.{Item, ⋆, ‵, ◌⊛◌, at_ret, ◌$◌, ◌∵◌, !, qed, by, move, keep, use1, split, join, rewrite, fsplit, fjoin, feq_i, feq_l, flt_l, flt_i, suffices, frame, done}
use types.Part.{whole, sub, agg, look_in}
use types.Run.{stop, fld, load, bin, of_opd, and_then, no_more, first, blocks, exec, returns, enter}
use types.ByLocal.{alloc_all, pass_all, free_all, look_at, get, through, sets, sets_last, env}
use contract.Monad.{Fun}
use contract.Running.{tables, tables_of}
use sound.WpLaws.{WpFn-mono}
use denote.Exit.{yes}
use denote.RattleType.{owns}
use denote.Memory.{hidden_shr}
use denote.RawPtr.{Ptr, in_a_block}
use denote.Ref.{Bor, ShrRef}
use denote.Builtin.{u8, usize, RefOf}
use denote.Signature.{plain}
use denote.Slice.{ShrSlice, slice_val, elements_shared}
use denote.Opens.{hide, unhide}
use denote.Steps.{nothing}
use denote.Triple.Clauses.{Clauses}
use denote.Triple.Entry.{on_entry}
use denote.Triple.Spec.{Meets, triple_of}
use denote.Triple.Table.{entered}
use denote.Triple.Walked.{says, needs, Stays, stay_dropped, walk_of, ends_at, Goes-dropped, walk_Meets}
use Rattle.std.specs.Prelude.{Some}
use Rattle.std.proofs.VecSteps.Shapes.{after}
use Rattle.std.proofs.RcSteps.{word}
use Rattle.std.proofs.lemmas.List.{length-map}
use Rattle.disk_recent.specs.Owned.{bytes_lent, IsWritten}
use Rattle.disk_recent.proofs.Memory.{Br, word_ty, reads, read, run_seen}
use Rattle.disk_recent.specs.contracts.raw.RawBytes.slice as F
use Rattle.disk_recent.specs.contracts.raw.RawBytes.slice.Key.{name as #self}
use Rattle.disk_recent.proofs.raw.RawBytes.slice.Statement as stated
use Rattle.disk_recent.proofs.raw.RawBytes.slice.Code as code

abbrev stayed : Stays F.ended.signature.params F.ended.kept
stayed = (stay_dropped (RefOf (0 ∷ []) tt (plain (λ _. Br)) (λ _. tt)) yes, (stay_dropped (plain (λ _. usize)) yes, (stay_dropped (plain (λ _. usize)) yes, tt)))

module _ {M : Type 1} {𝓤 : Ura M} (𝓛 : Logic 𝓤) (at_mem : Memory → SProp 𝓤) (run : Routine → Fun 𝓤) where
  open 𝓛 use {H}

  abbrev clauses : Clauses 𝓤 F.ended
  clauses = F.clauses 𝓛 at_mem run

  module _ (C : Calls 𝓤 H) (Λ : Loops 𝓤 H) (κ : Lft) (q : Share) (rb ro : ℕ) (d : Br.Denot) (from count : ℕ) (us0 us1 us2 : List Val) where
    abbrev self : Bor Br.Denot
    self = record { ref_ptr = (rb, ro); now = d }

    abbrev bound : (walk_of 𝓛 F.ended stayed clauses).Ghost
    bound = (((κ, tt), (q, tt), tt, (self, (from, (count, tt))), (us0, (us1, (us2, tt)))), tt)

    abbrev Post : Val → SProp 𝓤
    Post = (walk_of 𝓛 F.ended stayed clauses).post bound

    exits : (r : (ShrSlice (named 0) κ u8).Denot) (v : Val) → take count (drop_l from d.places) ≡ map Some r.now
        → ent 𝓤 (⋆ 𝓛 (‵ (flft κ q) ∷ ‵ ((ShrSlice (named 0) κ u8).own_val r (v ∷ [])) ∷ [])) (Post v)
    exits r v g =
        qed 𝓛 (‵ (flft κ q) ∷ ‵ ((ShrSlice (named 0) κ u8).own_val r (v ∷ [])) ∷ []) ∵
        suffices ! _ (ends_at 𝓛 F.ended stayed clauses bound v r (tt, (tt, (tt, tt))) (tt, (tt, (tt, tt)))) $ says ! g $
        nothing ! $ move ! (1 ∷ 0 ∷ []) $ join ! $ frame ! $ nothing ! $ nothing ! $ fjoin ! $ nothing ! $ fjoin ! $ nothing ! $ fjoin ! $ done !

    abbrev Had : List (Item 𝓤)
    Had = ‵ (hidden_shr Br κ d rb ro) ∷ ‵ (flft κ q) ∷ []

    walk : IsWritten d.places from count → from < 2 ^ 64 → count < 2 ^ 64 → ent 𝓤 (⋆ 𝓛 Had) (WpFn 𝓤 H C Λ code.function (vptr rb ro ∷ vint w64 from ∷ vint w64 count ∷ []) Post)
    walk asked fits_from fits_count =
        let xs = asked.1.0 in let written = asked.1.1 in let within = asked.0 in
        let long : length xs ≡ count = omega (arith, ap length written, length-map xs (λ (x : ℕ). Some x), length-take count (drop_l from d.places), length-drop from d.places) in
        qed 𝓛 Had ∵ enter ! C Λ code.function (vptr rb ro ∷ vint w64 from ∷ vint w64 count ∷ []) _ $
        alloc_all ! (λ l. pass_all ! refl ((tt, tt), ((tt, record { fits = fits_from }), ((tt, record { fits = fits_count }), tt))) $
        let En : Env 𝓤 H = env (code.function).locals l in
        unhide ! $ fsplit ! $ hide ! $ move ! (0 ∷ 2 ∷ []) $
        reads ! tt d.at rb ro (λ q'.
        -- [the word of self; what shuts it; the bytes; the locals]
        move ! (2 ∷ []) $ in_a_block ! d.at (λ p. bytes_lent p d.places κ) (id⊢ 𝓤 (never 𝓤)) (λ b o e. fsplit ! $ flt_l ! (λ small.
        let at : ℕ × ℕ = (b, from + o) in
        use1 𝓛 (‵ (elements_shared u8 xs b (from + o) κ)) (run_seen 𝓛 b κ o d.places from count xs (omega arith) written) $ hide ! $
        move ! (1 ∷ []) $ rewrite ! 0 (λ (p : Ptr). ‵ (fat q' word_ty rb ro (word p))) e refl $
        first ! $ blocks ! $
        sets ! (of_opd ! (load ! (through ! refl (fld ! refl (stop !))) (look_in ! 0 (sub ! 0 refl (whole !))))) refl (tt, tt) $
        sets ! (bin ! (get ! refl) (get ! refl) tt) refl (tt, tt) $
        sets_last ! (agg ! (and_then ! (get ! refl) (and_then ! (get ! refl) (no_more !)))) refl (tt, (tt, (record { fits = fits_count }, tt))) $
        exec ! C Λ En (after 1 (code.function).body) (at_ret En Post) $ sets ! (of_opd ! (get ! refl)) refl (tt, (tt, (record { fits = fits_count }, tt))) $
        rewrite ! 0 (λ (p : Ptr). ‵ (fat q' word_ty rb ro (word p))) (sym e) refl $ move ! (0 ∷ 2 ∷ []) $
        read ! tt d.at rb ro q' $ move ! (1 ∷ []) $
        flt_i ! (length xs * 1) (2 ^ 63) (omega arith) $ flt_i ! (length xs) (2 ^ 64) (omega arith) $ fjoin ! $
        feq_i ! (List Val) (slice_val at count ∷ []) (slice_val at (length xs) ∷ []) (ap (λ k. slice_val at k ∷ []) (sym long)) $ fjoin ! $ fjoin ! $
        returns ! (look_at ! 0 refl) $ free_all ! refl $ keep ! (1 ∷ 0 ∷ []) $ by ! (exits (record { ref_ptr = at; now = xs }) (slice_val at count) written)))))

    entry : IsWritten d.places from count → ent 𝓤 (on_entry 𝓛 F.signature (κ, tt) (q, tt) (self, (from, (count, tt))) (us0, (us1, (us2, tt))))
        (WpFn 𝓤 H C Λ code.function (us0 ++ (us1 ++ (us2 ++ []))) Post)
    entry asked =
        qed 𝓛 ((‵ (flft κ q) ⊛ ‵ ftrue) ∷ ‵ (owns (ShrRef (named 0) κ Br ∷ usize ∷ usize ∷ []) (self, (from, (count, tt))) (us0, (us1, (us2, tt)))) ∷ []) ∵
        split ! $ move ! (2 ∷ []) $ fsplit ! $ fsplit ! $ feq_l ! (λ e0.
        move ! (1 ∷ []) $ fsplit ! $ fsplit ! $ feq_l ! (λ e1. flt_l ! (λ fits_from.
        fsplit ! $ fsplit ! $ feq_l ! (λ e2. flt_l ! (λ fits_count.
        keep ! (1 ∷ 2 ∷ []) $
        by ! (subst (λ (ws : List Val × List Val × List Val). ent 𝓤 (⋆ 𝓛 Had) (WpFn 𝓤 H C Λ code.function (ws.0 ++ (ws.1 ++ (ws.2 ++ []))) Post))
        (λ j. (sym e0 j, sym e1 j, sym e2 j)) (walk asked fits_from fits_count)))))))

  meets : (𝓣 : Tables 𝓤 H) → Meets 𝓛 F.signature (WpFn 𝓤 H 𝓣.C 𝓣.Λ code.function) (F.spec 𝓛 at_mem run)
  meets 𝓣 =
      walk_Meets 𝓛 F.ended stayed (
        Goes-dropped 𝓛 1 (RefOf (0 ∷ []) tt (plain (λ _. Br)) (λ _. tt)) yes (λ κs x f. refl),
        (Goes-dropped 𝓛 1 (plain (λ _. usize)) yes (λ κs x f. refl), (Goes-dropped 𝓛 1 (plain (λ _. usize)) yes (λ κs x f. refl), tt)),
      )
      clauses (WpFn 𝓤 H 𝓣.C 𝓣.Λ code.function) (WpFn-mono 𝓤 H 𝓛.laws 𝓣 code.function)
      (λ z. needs 𝓤 (IsWritten z.0.3.0.now.places z.0.3.1.0 z.0.3.1.1.0) _
      (entry 𝓣.C 𝓣.Λ z.0.0.0 z.0.1.0 z.0.3.0.ref_ptr.0 z.0.3.0.ref_ptr.1 z.0.3.0.now z.0.3.1.0 z.0.3.1.1.0 z.0.4.0 z.0.4.1.0 z.0.4.1.1.0))

pub slice_spec : {M : Type 1} → stated.statement M
unfolding tables_of
slice_spec 𝓤 𝓛 𝓜 𝓡 wired =
    let 𝓣 : Tables 𝓤 𝓛.H = tables_of 𝓤 𝓛.H 𝓜 (tables 𝓤 𝓛.H 𝓜 𝓡 𝓡.env) in
    entered 𝓤 𝓛.H (triple_of 𝓛 F.signature (F.spec 𝓛 𝓜.mem 𝓡.returns)) 𝓣.C 𝓣.Λ #self code.function (code.unfolded 𝓤 𝓛.H 𝓜 𝓡 wired) (meets 𝓛 𝓜.mem 𝓡.returns 𝓣)
