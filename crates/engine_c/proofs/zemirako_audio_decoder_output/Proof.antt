-- The export lends what lies at its handle to the codec's own function, for the call, and gives the handle back.
use Rattle.engine_c.proofs.Steps.{◌≡◌, ℕ, List, [], ◌∷◌, ◌++◌, refl, MutBor, w32, w64, proved, leaves, WpFn, full_share, id⊢, ftrue, flft, flent, named, vptr, fact, tables, sem, ‵, raw, prop, ◌⊛◌, some, later, ◌$◌, ◌∵◌, !, qed, move, keep, use1, use2, use3, split, join, fsplit, fjoin, feq_l, pick, await, regoal, by, enter, of_opd, addr, from, stop, fld, hop, no_more, and_then, returns, alloc_all, pass_all, free_all, look_at, look_in_at, get, get_in, through, sets, lands_as, agg, sub, whole, Body, lft_new, lft_end, u8, u32, u64, RawPtr, yes, Is, shows, uint_vals, uint_Tells, uint_Lawful, lends_ref, ref_back, mem, part_at, Ptr, block_ptr, lies_at, in_a_block, rawptr_vals, rawptr_Tells, MutRef, mut_vals, ShrRef, shr_vals, shr_Tells, ShrSlice, shr_slice_vals, shr_slice_Tells, shr_slice_Lawful, MutSlice, mut_slice_vals, mut_slice_Tells, mut_slice_Lawful, plain, shr_ref_to, shr_slice_of, mut_slice_of, nothing, heard, peeks, calls_at, lasts, Lasts, at_exit, triple_of, Stays, walk_of, stay_dropped, Goes-dropped, gave_slice, Goes-gave_slice, framed, gives}
use Rattle.engine_c.specs.contracts.zemirako_audio_decoder_output as f
use Rattle.engine_c.proofs.zemirako_audio_decoder_output.Statement.{statement}
use Rattle.engine_c.proofs.zemirako_audio_decoder_output.Code as code
use Rattle.engine.specs.contracts.codec.AudioCodec.output as g
use Rattle.engine.proofs.codec.AudioCodec.output.Met.{met}
use Rattle.engine.specs.contracts.codec.AudioCodec.{the_row as R}
use Rattle.engine.specs.contracts.answers.Output.{the_row as Out}
use Rattle.engine.proofs.answers.Output.TheLaws as out_laws
use Rattle.engine.specs.Steps.{OutputOf}

abbrev stayed : Stays f.ended.signature.params f.ended.kept
stayed = (stay_dropped (plain (λ _. RawPtr)) yes, (stay_dropped (plain (λ _. u64)) yes, (gave_slice (0 ∷ []) tt (plain (λ _. u8)), tt)))

pub zemirako_audio_decoder_output_spec : {M : Type 1} → statement M
zemirako_audio_decoder_output_spec 𝓤 𝓛 𝓜 𝓡 wired =
    let c = f.clauses 𝓛 𝓜.mem 𝓡.returns in let W = walk_of 𝓛 f.ended stayed c in let 𝓣 = tables 𝓤 𝓛.H 𝓜 𝓡 𝓡.env in
    proved 𝓛 f.ended stayed c 𝓜 𝓡 (Goes-dropped 𝓛 1 (plain (λ _. RawPtr)) yes (λ κs x w. refl), (Goes-dropped 𝓛 1 (plain (λ _. u64)) yes (λ κs x w. refl), (Goes-gave_slice 𝓛 1 0 tt (plain (λ _. u8)), tt)))
    f.Key.name code.function (code.unfolded 𝓤 𝓛.H 𝓜 𝓡 wired)
    (λ κs. (rawptr_vals, (uint_vals w64, (mut_slice_vals, tt)))) (λ κs. (rawptr_Tells, (uint_Tells w64, (mut_slice_Tells (named 0) κs.0 u8, tt)))) (λ κs qs bounds a value are.
    let y : Ptr → W.Ghost = λ p. ((κs, qs, bounds, (p, (a.1.0, (a.1.1.0, tt))), (rawptr_vals p, (uint_vals w64 a.1.0, (mut_slice_vals a.1.1.0, tt)))), value) in
    qed 𝓛 (((‵ (flft κs.0 qs.0) ⊛ ‵ ftrue) ⊛ ‵ (RawPtr.own_val a.0 (rawptr_vals a.0)) ⊛ ‵ (u64.own_val a.1.0 (uint_vals w64 a.1.0)) ⊛ ‵ ((MutSlice (named 0) κs.0 u8).own_val a.1.1.0 (mut_slice_vals a.1.1.0)) ⊛ ‵ ftrue) ∷ ‵ (lies_at R full_share a.0 value) ∷ []) ∵
    split ! $ move ! (1 ∷ []) $ split ! $ move ! (1 ∷ []) $ split ! $ move ! (1 ∷ []) $ split ! $ move ! (4 ∷ []) $ split ! $ keep ! (6 ∷ 4 ∷ 2 ∷ 0 ∷ []) $
    in_a_block ! a.0 (λ p. lies_at R full_share p value) (id⊢ 𝓤 _) (λ b o e.
    regoal ! (λ p. prop (WpFn 𝓤 𝓛.H 𝓣.C 𝓣.Λ code.function (rawptr_vals p ++ (uint_vals w64 a.1.0 ++ (mut_slice_vals a.1.1.0 ++ []))) (W.post (y p)))) e refl $
    enter ! _ _ _ _ _ $ alloc_all ! (λ l. pass_all ! refl ((tt, tt), ((tt, record { fits = are.1.0.1 }), ((((mut_slice_Lawful 𝓛 (named 0) κs.0 u8).typed a.1.1.0 _ are.1.1.0).0), tt))) $
    sets ! (of_opd ! (get ! refl)) refl (tt, tt) $
    sets ! (addr ! (through ! refl (stop !))) refl (tt, tt) $
    sets ! (addr ! (from ! (fld ! refl (hop ! (look_in_at ! 3 (sub ! 0 refl (whole !))) (stop !))))) refl (tt, tt) $
    sets ! (agg ! (and_then ! (get ! refl) (and_then ! (get_in ! (fld ! refl (stop !)) (sub ! 1 refl (whole !))) (no_more !)))) refl (((mut_slice_Lawful 𝓛 (named 0) κs.0 u8).typed a.1.1.0 _ are.1.1.0).0) $
    lft_new ! tt (λ α. move ! (1 ∷ []) $
    use1 𝓛 (later (some (λ (γ : ℕ). ‵ ((MutRef (named 0) (α ∷ []) R).own_val (record { ref_ptr = (b, o); ghost_name = γ; now = value }) (vptr b o ∷ [])) ⊛ ‵ (flent (α ∷ []) (Body (mem R) b o γ)))))
    (lends_ref 𝓛 R (named 0) (α ∷ []) value b o) $ await ! tt $ pick ! (λ γ. split ! $
    let r : MutBor R.Denot = record { ref_ptr = (b, o); ghost_name = γ; now = value } in
    let G = triple_of 𝓛 g.signature (g.spec 𝓛 𝓜.mem 𝓡.returns) in
    let z : G.Ghost = (((α ∷ [], (κs.0, tt)), (full_share, (qs.0, tt)), tt, (r, (a.1.0, (a.1.1.0, tt))), (mut_vals r, (uint_vals w64 a.1.0, (mut_slice_vals a.1.1.0, tt)))), tt) in
    nothing ! $ move ! (5 ∷ 0 ∷ []) $ join ! $ move ! (4 ∷ 0 ∷ []) $ join ! $ move ! (1 ∷ 0 ∷ []) $ join ! $ nothing ! $ move ! (4 ∷ 0 ∷ []) $ join ! $ move ! (3 ∷ 0 ∷ []) $ join ! $ join ! $ nothing ! $ move ! (1 ∷ 0 ∷ []) $ use2 𝓛 (raw (G.pre z)) (id⊢ 𝓤 _) $
    calls_at ! (framed 𝓤 𝓛.H 𝓜 (tables 𝓤 𝓛.H 𝓜 𝓡 𝓡.env)) G (met 𝓤 𝓛 𝓜 𝓡 (code.calls-engine::codec::AudioCodec::output 𝓡.env wired)) z
    (and_then ! (get ! refl) (and_then ! (get ! refl) (and_then ! (get ! refl) (no_more !)))) (λ v.
    use1 𝓛 (later (some (λ (x : Out.Denot). ((‵ (flft (α ∷ []) full_share) ⊛ ‵ (flft κs.0 qs.0) ⊛ ‵ ftrue) ⊛ ‵ (Out.own_val x (v ∷ []))) ⊛
    some (λ (ws : Lasts g.ended z.0.0 z.0.3). ‵ (lasts g.ended z.0.0 z.0.3 ws) ⊛ raw (fact 𝓤 (OutputOf value a.1.0 a.1.1.0.now ws.1.1.0 x × (ws.0 ≡ value))))))) (id⊢ 𝓤 _) $
    await ! tt $ pick ! (λ x. split ! $ split ! $ split ! $ lft_end ! tt $
    move ! (2 ∷ []) $ peeks ! Out (Is Out) (shows 𝓛 Out) x (v ∷ []) (λ is.
    lands_as ! refl refl ((out_laws.the_row_laws.lawful 𝓛).typed x _ is).0 $
    move ! (3 ∷ []) $ pick ! (λ ws. split ! $ move ! (1 ∷ []) $ heard ! _ (λ does.
    fsplit ! $ fsplit ! $ move ! (4 ∷ 6 ∷ 0 ∷ []) $ use3 𝓛 (later (‵ (part_at R full_share ws.0 b o))) (ref_back 𝓛 R (α ∷ []) γ ws.0 b o) $ await ! tt $
    returns ! (look_at ! 0 refl) $ free_all ! refl $
    move ! (2 ∷ []) $ fsplit ! $ move ! (1 ∷ []) $ fsplit ! $ fsplit ! $ fsplit ! $ move ! (1 ∷ []) $ feq_l ! (λ long.
    move ! (4 ∷ []) $ use1 𝓛 (raw ((c κs (y (block_ptr b o)).0.3).ensures value x (at_exit f.ended κs (y (block_ptr b o)).0.3 (tt, (tt, (ws.1.1.0, tt))))))
    (gives 𝓤 (λ new. sem 𝓛 (lies_at R full_share (block_ptr b o) new)) (λ new. OutputOf value a.1.0 a.1.1.0.now ws.1.1.0 x × (new ≡ value)) ws.0 does) $
    move ! (1 ∷ 2 ∷ []) $ fjoin ! $ nothing ! $ move ! (1 ∷ 0 ∷ []) $ fjoin ! $ nothing ! $ fjoin ! $ nothing ! $ fjoin ! $ keep ! (6 ∷ 0 ∷ 5 ∷ 1 ∷ []) $ by ! (leaves 𝓛 f.ended stayed c (y (block_ptr b o)) v x (tt, (tt, (ws.1.1.0, tt))) (tt, (tt, (long, tt)))))))))))))))
