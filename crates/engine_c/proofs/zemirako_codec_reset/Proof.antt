-- The export lends what lies at its handle to the codec's own function, for the call, and gives the handle back.
use Rattle.engine_c.proofs.Steps.{◌≡◌, ℕ, List, [], ◌∷◌, ◌++◌, refl, MutBor, w32, w64, proved, leaves, WpFn, full_share, id⊢, ftrue, flft, flent, named, vptr, fact, tables, sem, ‵, raw, prop, ◌⊛◌, some, later, ◌$◌, ◌∵◌, !, qed, move, keep, use1, use2, use3, split, join, fsplit, fjoin, feq_l, pick, await, regoal, by, enter, of_opd, addr, from, stop, fld, hop, no_more, and_then, returns, alloc_all, pass_all, free_all, look_at, look_in_at, get, get_in, through, sets, lands_as, agg, sub, whole, Body, lft_new, lft_end, u8, u32, u64, RawPtr, yes, Is, shows, uint_vals, uint_Tells, uint_Lawful, lends_ref, ref_back, mem, part_at, Ptr, block_ptr, lies_at, in_a_block, rawptr_vals, rawptr_Tells, MutRef, mut_vals, ShrRef, shr_vals, shr_Tells, ShrSlice, shr_slice_vals, shr_slice_Tells, shr_slice_Lawful, MutSlice, mut_slice_vals, mut_slice_Tells, mut_slice_Lawful, plain, shr_ref_to, shr_slice_of, mut_slice_of, nothing, heard, peeks, calls_at, lasts, Lasts, at_exit, triple_of, Stays, walk_of, stay_dropped, Goes-dropped, gave_slice, Goes-gave_slice, framed, gives}
use Rattle.engine_c.specs.contracts.zemirako_codec_reset as f
use Rattle.engine_c.proofs.zemirako_codec_reset.Statement.{statement}
use Rattle.engine_c.proofs.zemirako_codec_reset.Code as code
use Rattle.engine.specs.contracts.codec.AudioCodec.reset as g
use Rattle.engine.proofs.codec.AudioCodec.reset.Met.{met}
use Rattle.engine.specs.contracts.codec.AudioCodec.{the_row as R}
use Rattle.engine.specs.contracts.answers.Reply.{the_row as Out}
use Rattle.engine.proofs.answers.Reply.TheLaws as out_laws
use Rattle.engine.specs.Steps.{Calls}
use Rattle.codec_model.specs.declared.entry.Call.TheVariants as call

abbrev stayed : Stays f.ended.signature.params f.ended.kept
stayed = (stay_dropped (plain (λ _. RawPtr)) yes, tt)

pub zemirako_codec_reset_spec : {M : Type 1} → statement M
zemirako_codec_reset_spec 𝓤 𝓛 𝓜 𝓡 wired =
    let c = f.clauses 𝓛 𝓜.mem 𝓡.returns in let W = walk_of 𝓛 f.ended stayed c in let 𝓣 = tables 𝓤 𝓛.H 𝓜 𝓡 𝓡.env in
    proved 𝓛 f.ended stayed c 𝓜 𝓡 (Goes-dropped 𝓛 0 (plain (λ _. RawPtr)) yes (λ κs x w. refl), tt)
    f.Key.name code.function (code.unfolded 𝓤 𝓛.H 𝓜 𝓡 wired)
    (λ κs. (rawptr_vals, tt)) (λ κs. (rawptr_Tells, tt)) (λ κs qs bounds a value are.
    let y : Ptr → W.Ghost = λ p. ((κs, qs, bounds, (p, tt), (rawptr_vals p, tt)), value) in
    qed 𝓛 (((‵ ftrue) ⊛ ‵ (RawPtr.own_val a.0 (rawptr_vals a.0)) ⊛ ‵ ftrue) ∷ ‵ (lies_at R full_share a.0 value) ∷ []) ∵
    split ! $ move ! (1 ∷ []) $ split ! $ keep ! (3 ∷ []) $
    in_a_block ! a.0 (λ p. lies_at R full_share p value) (id⊢ 𝓤 _) (λ b o e.
    regoal ! (λ p. prop (WpFn 𝓤 𝓛.H 𝓣.C 𝓣.Λ code.function (rawptr_vals p ++ []) (W.post (y p)))) e refl $
    enter ! _ _ _ _ _ $ alloc_all ! (λ l. pass_all ! refl ((tt, tt), tt) $
    sets ! (of_opd ! (get ! refl)) refl (tt, tt) $
    sets ! (addr ! (through ! refl (stop !))) refl (tt, tt) $
    lft_new ! tt (λ α. move ! (1 ∷ []) $
    use1 𝓛 (later (some (λ (γ : ℕ). ‵ ((MutRef (named 0) (α ∷ []) R).own_val (record { ref_ptr = (b, o); ghost_name = γ; now = value }) (vptr b o ∷ [])) ⊛ ‵ (flent (α ∷ []) (Body (mem R) b o γ)))))
    (lends_ref 𝓛 R (named 0) (α ∷ []) value b o) $ await ! tt $ pick ! (λ γ. split ! $
    let r : MutBor R.Denot = record { ref_ptr = (b, o); ghost_name = γ; now = value } in
    let G = triple_of 𝓛 g.signature (g.spec 𝓛 𝓜.mem 𝓡.returns) in
    let z : G.Ghost = (((α ∷ [], tt), (full_share, tt), tt, (r, tt), (mut_vals r, tt)), tt) in
    nothing ! $ move ! (1 ∷ 0 ∷ []) $ join ! $ nothing ! $ move ! (3 ∷ 0 ∷ []) $ join ! $ join ! $ nothing ! $ move ! (1 ∷ 0 ∷ []) $ use2 𝓛 (raw (G.pre z)) (id⊢ 𝓤 _) $
    calls_at ! (framed 𝓤 𝓛.H 𝓜 (tables 𝓤 𝓛.H 𝓜 𝓡 𝓡.env)) G (met 𝓤 𝓛 𝓜 𝓡 (code.calls-engine::codec::AudioCodec::reset 𝓡.env wired)) z
    (and_then ! (get ! refl) (no_more !)) (λ v.
    use1 𝓛 (later (some (λ (x : Out.Denot). ((‵ (flft (α ∷ []) full_share) ⊛ ‵ ftrue) ⊛ ‵ (Out.own_val x (v ∷ []))) ⊛
    some (λ (ws : Lasts g.ended z.0.0 z.0.3). ‵ (lasts g.ended z.0.0 z.0.3 ws) ⊛ raw (fact 𝓤 (Calls call.Reset value ws.0 x)))))) (id⊢ 𝓤 _) $
    await ! tt $ pick ! (λ x. split ! $ split ! $ split ! $ lft_end ! tt $
    move ! (2 ∷ []) $ peeks ! Out (Is Out) (shows 𝓛 Out) x (v ∷ []) (λ is.
    lands_as ! refl refl ((out_laws.the_row_laws.lawful 𝓛).typed x _ is).0 $
    move ! (3 ∷ []) $ pick ! (λ ws. split ! $ move ! (1 ∷ []) $ heard ! _ (λ does.
    fsplit ! $ fsplit ! $ move ! (4 ∷ 6 ∷ 0 ∷ []) $ use3 𝓛 (later (‵ (part_at R full_share ws.0 b o))) (ref_back 𝓛 R (α ∷ []) γ ws.0 b o) $ await ! tt $
    returns ! (look_at ! 0 refl) $ free_all ! refl $
    use1 𝓛 (raw ((c κs (y (block_ptr b o)).0.3).ensures value x (at_exit f.ended κs (y (block_ptr b o)).0.3 (tt, tt))))
    (gives 𝓤 (λ new. sem 𝓛 (lies_at R full_share (block_ptr b o) new)) (λ new. Calls call.Reset value new x) ws.0 does) $
    nothing ! $ nothing ! $ fjoin ! $ keep ! (5 ∷ 0 ∷ 4 ∷ 1 ∷ []) $ by ! (leaves 𝓛 f.ended stayed c (y (block_ptr b o)) v x (tt, tt) (tt, tt))))))))))))
