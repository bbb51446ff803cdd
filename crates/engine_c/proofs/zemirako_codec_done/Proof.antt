-- The export moves the work item out of its room into the codec that it lends.
use Rattle.engine_c.proofs.Steps.{ℕ, [], ◌∷◌, ◌++◌, refl, MutBor, w32, w64, proved, leaves, WpFn, full_share, id⊢, ftrue, flft, flent, named, vptr, fact, tables, sem, ‵, raw, prop, ◌⊛◌, some, later, ◌$◌, ◌∵◌, !, qed, move, keep, use1, use2, use3, split, join, fsplit, fjoin, pick, await, regoal, by, enter, of_opd, addr, stop, no_more, and_then, returns, alloc_all, pass_all, free_all, look_at, get, through, sets, lands_as, Body, lft_new, lft_end, u64, RawPtr, yes, Is, shows, uint_vals, uint_Tells, uint_Lawful, lends_ref, ref_back, mem, part_at, Ptr, block_ptr, lies_at, in_a_block, rawptr_vals, rawptr_Tells, MutRef, mut_vals, plain, nothing, heard, peeks, calls_at, lasts, Lasts, at_exit, triple_of, Stays, walk_of, stay_dropped, Goes-dropped, framed, use0, fat, froom, Val, load, look, part_out, lone, room_at, fact_i, emp, sep, ex_i, with_fact}
use Rattle.engine_c.specs.contracts.zemirako_codec_done as f
use Rattle.engine_c.proofs.zemirako_codec_done.Statement.{statement}
use Rattle.engine_c.proofs.zemirako_codec_done.Code as code
use Rattle.engine.specs.contracts.codec.AudioCodec.done as g
use Rattle.engine.proofs.codec.AudioCodec.done.Met.{met}
use Rattle.engine.specs.contracts.codec.AudioCodec.{the_row as R}
use Rattle.engine.specs.contracts.work.WorkItem.{the_row as In}
use Rattle.engine.proofs.work.WorkItem.TheLaws as in_laws
use denote.Builtin.{u32 as Out}
use Rattle.engine.specs.Steps.{Returns}

abbrev stayed : Stays f.ended.signature.params f.ended.kept
stayed = (stay_dropped (plain (λ _. RawPtr)) yes, (stay_dropped (plain (λ _. RawPtr)) yes, (stay_dropped (plain (λ _. u64)) yes, tt)))

pub zemirako_codec_done_spec : {M : Type 1} → statement M
zemirako_codec_done_spec 𝓤 𝓛 𝓜 𝓡 wired =
    let c = f.clauses 𝓛 𝓜.mem 𝓡.returns in let W = walk_of 𝓛 f.ended stayed c in let 𝓣 = tables 𝓤 𝓛.H 𝓜 𝓡 𝓡.env in
    let goes = Goes-dropped 𝓛 0 (plain (λ _. RawPtr)) yes (λ κs x w. refl) in
    proved 𝓛 f.ended stayed c 𝓜 𝓡 (goes, (goes, (Goes-dropped 𝓛 0 (plain (λ _. u64)) yes (λ κs x w. refl), tt)))
    f.Key.name code.function (code.unfolded 𝓤 𝓛.H 𝓜 𝓡 wired)
    (λ κs. (rawptr_vals, (rawptr_vals, (uint_vals w64, tt)))) (λ κs. (rawptr_Tells, (rawptr_Tells, (uint_Tells w64, tt)))) (λ κs qs bounds a value are.
    let m = a.1.1.0 in
    let y : Ptr → Ptr → W.Ghost = λ p p'. ((κs, qs, bounds, (p, (p', (m, tt))), (rawptr_vals p, (rawptr_vals p', (uint_vals w64 m, tt)))), value) in
    qed 𝓛 ((‵ ftrue ⊛ ‵ (RawPtr.own_val a.0 (rawptr_vals a.0)) ⊛ ‵ (RawPtr.own_val a.1.0 (rawptr_vals a.1.0)) ⊛ ‵ (u64.own_val m (uint_vals w64 m)) ⊛ ‵ ftrue) ∷
    (‵ (lies_at R full_share a.0 value.0) ⊛ ‵ (lies_at In full_share a.1.0 value.1)) ∷ []) ∵
    split ! $ move ! (1 ∷ []) $ split ! $ move ! (1 ∷ []) $ split ! $ move ! (1 ∷ []) $ split ! $
    move ! (5 ∷ []) $ split ! $ keep ! (0 ∷ 1 ∷ 2 ∷ []) $
    -- [the codec; the work item; the moment]
    in_a_block ! a.0 (λ p. lies_at R full_share p value.0) (id⊢ 𝓤 _) (λ b o e.
    regoal ! (λ p. prop (WpFn 𝓤 𝓛.H 𝓣.C 𝓣.Λ code.function (rawptr_vals p ++ (rawptr_vals a.1.0 ++ (uint_vals w64 m ++ []))) (W.post (y p a.1.0)))) e refl $
    move ! (1 ∷ []) $ in_a_block ! a.1.0 (λ p. lies_at In full_share p value.1) (id⊢ 𝓤 _) (λ b' o' e'.
    regoal ! (λ p. prop (WpFn 𝓤 𝓛.H 𝓣.C 𝓣.Λ code.function (rawptr_vals (block_ptr b o) ++ (rawptr_vals p ++ (uint_vals w64 m ++ []))) (W.post (y (block_ptr b o) p)))) e' refl $
    use1 𝓛 (some (λ (u : Val). ‵ (fat full_share (lone In.mir) b' o' u) ⊛ ‵ (In.own_val value.1 (u ∷ [])))) (part_out 𝓛 In refl full_share value.1 b' o') $ pick ! (λ u. split ! $ move ! (1 ∷ []) $
    peeks ! In (Is In) (shows 𝓛 In) value.1 (u ∷ []) (λ isu.
    -- [the work item; its cell; the codec; the moment]
    enter ! _ _ _ _ _ $ alloc_all ! (λ l. pass_all ! refl ((tt, tt), ((tt, tt), ((tt, record { fits = are.1.1.0.1 }), tt))) $
    sets ! (of_opd ! (get ! refl)) refl (tt, tt) $
    sets ! (addr ! (through ! refl (stop !))) refl (tt, tt) $
    sets ! (of_opd ! (get ! refl)) refl (tt, tt) $
    sets ! (of_opd ! (load ! (through ! refl (stop !)) (look ! 1 refl))) refl ((in_laws.the_row_laws.lawful 𝓛).typed value.1 _ isu).0 $
    lft_new ! tt (λ α. move ! (3 ∷ []) $
    use1 𝓛 (later (some (λ (γ : ℕ). ‵ ((MutRef (named 0) (α ∷ []) R).own_val (record { ref_ptr = (b, o); ghost_name = γ; now = value.0 }) (vptr b o ∷ [])) ⊛ ‵ (flent (α ∷ []) (Body (mem R) b o γ)))))
    (lends_ref 𝓛 R (named 0) (α ∷ []) value.0 b o) $ await ! tt $ pick ! (λ γ. split ! $
    let r : MutBor R.Denot = record { ref_ptr = (b, o); ghost_name = γ; now = value.0 } in
    let G = triple_of 𝓛 g.signature (g.spec 𝓛 𝓜.mem 𝓡.returns) in
    let z : G.Ghost = (((α ∷ [], tt), (full_share, tt), tt, (r, (value.1, (m, tt))), (mut_vals r, (u ∷ [], (uint_vals w64 m, tt)))), tt) in
    -- [the loan; what the lender keeps; the token; the work item; its cell; the moment]
    nothing ! $ move ! (6 ∷ 0 ∷ []) $ join ! $ move ! (4 ∷ 0 ∷ []) $ join ! $ move ! (1 ∷ 0 ∷ []) $ join ! $
    nothing ! $ move ! (3 ∷ 0 ∷ []) $ join ! $ join ! $
    nothing ! $ move ! (1 ∷ 0 ∷ []) $ use2 𝓛 (raw (G.pre z)) (id⊢ 𝓤 _) $
    calls_at ! (framed 𝓤 𝓛.H 𝓜 (tables 𝓤 𝓛.H 𝓜 𝓡 𝓡.env)) G (met 𝓤 𝓛 𝓜 𝓡 (code.calls-engine::codec::AudioCodec::done 𝓡.env wired)) z
    (and_then ! (get ! refl) (and_then ! (get ! refl) (and_then ! (get ! refl) (no_more !)))) (λ v.
    use1 𝓛 (later (some (λ (x : Out.Denot). ((‵ (flft (α ∷ []) full_share) ⊛ ‵ ftrue) ⊛ ‵ (Out.own_val x (v ∷ []))) ⊛
    some (λ (ws : Lasts g.ended z.0.0 z.0.3). ‵ (lasts g.ended z.0.0 z.0.3 ws) ⊛ raw (fact 𝓤 (Returns m value.1 value.0 ws.0 x)))))) (id⊢ 𝓤 _) $
    await ! tt $ pick ! (λ x. split ! $ split ! $ split ! $ lft_end ! tt $
    move ! (2 ∷ []) $ peeks ! Out (Is Out) (shows 𝓛 Out) x (v ∷ []) (λ is.
    lands_as ! refl refl ((uint_Lawful 𝓛 w32).typed x _ is).0 $
    move ! (3 ∷ []) $ pick ! (λ ws. split ! $ move ! (1 ∷ []) $ heard ! _ (λ does.
    fsplit ! $ fsplit ! $ move ! (4 ∷ 6 ∷ 0 ∷ []) $ use3 𝓛 (later (‵ (part_at R full_share ws.0 b o))) (ref_back 𝓛 R (α ∷ []) γ ws.0 b o) $ await ! tt $
    -- [the codec; two parts of the last values; the answer; nothing; the cell]
    returns ! (look_at ! 0 refl) $ free_all ! refl $
    move ! (5 ∷ []) $ use1 𝓛 (‵ (froom (lone In.mir) b' o')) (𝓛.laws.at_room (lone In.mir) b' o' u) $
    use1 𝓛 (raw (sep 𝓤 (sem 𝓛 (room_at In (block_ptr b' o'))) (fact 𝓤 (Returns m value.1 value.0 ws.0 x)))) (with_fact 𝓤 (sem 𝓛 (room_at In (block_ptr b' o'))) (Returns m value.1 value.0 ws.0 x) does) $
    move ! (1 ∷ 0 ∷ []) $ use2 𝓛 (raw ((c κs (y (block_ptr b o) (block_ptr b' o')).0.3).ensures value x (at_exit f.ended κs (y (block_ptr b o) (block_ptr b' o')).0.3 (tt, (tt, (tt, tt))))))
    (ex_i 𝓤 (λ (new : R.Denot). sep 𝓤 (sem 𝓛 (lies_at R full_share (block_ptr b o) new)) (sep 𝓤 (sem 𝓛 (room_at In (block_ptr b' o'))) (fact 𝓤 (Returns m value.1 value.0 new x)))) ws.0) $
    -- [the clause; two parts of the last values; the answer; nothing]
    nothing ! $ nothing ! $ fjoin ! $ nothing ! $ fjoin ! $ nothing ! $ fjoin ! $ nothing ! $ keep ! (0 ∷ 1 ∷ 5 ∷ 2 ∷ []) $
    by ! (leaves 𝓛 f.ended stayed c (y (block_ptr b o) (block_ptr b' o')) v x (tt, (tt, (tt, tt))) (tt, (tt, (tt, tt)))))))))))))))))
