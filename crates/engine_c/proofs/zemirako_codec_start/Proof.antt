-- The export lends the codec at its handle, and moves the work item that leaves it into the room.
use Rattle.engine_c.proofs.Steps.{ℕ, List, [], ◌∷◌, ◌++◌, refl, MutBor, proved, leaves, WpFn, full_share, id⊢, ftrue, flft, flent, named, vptr, fact, tables, sem, ‵, raw, prop, ◌⊛◌, some, later, ◌$◌, ◌∵◌, !, qed, move, keep, use1, use2, use3, split, join, fsplit, fjoin, pick, await, regoal, by, enter, of_opd, addr, stop, no_more, and_then, returns, alloc_all, pass_all, free_all, look_at, get, through, sets, lands_as, Body, lft_new, lft_end, RawPtr, yes, Is, shows, lends_ref, ref_back, mem, part_at, Ptr, block_ptr, lies_at, in_a_block, rawptr_vals, rawptr_Tells, MutRef, mut_vals, plain, nothing, heard, peeks, calls_at, lasts, Lasts, at_exit, triple_of, Stays, walk_of, stay_dropped, Goes-dropped, framed, gives, Val, vunit, unit_lit, init, assigns, part_in, room_at, sep, ex, ex_i, drop, feq_i}
use Rattle.engine_c.specs.contracts.zemirako_codec_start as f
use Rattle.engine_c.proofs.zemirako_codec_start.Statement.{statement}
use Rattle.engine_c.proofs.zemirako_codec_start.Code as code
use Rattle.engine.specs.contracts.codec.AudioCodec.start as g
use Rattle.engine.proofs.codec.AudioCodec.start.Met.{met}
use Rattle.engine.specs.contracts.codec.AudioCodec.{the_row as R}
use Rattle.engine.specs.contracts.work.WorkItem.{the_row as Out}
use Rattle.engine.proofs.work.WorkItem.TheLaws as out_laws
use Rattle.engine.specs.Steps.{Starts}

abbrev stayed : Stays f.ended.signature.params f.ended.kept
stayed = (stay_dropped (plain (λ _. RawPtr)) yes, (stay_dropped (plain (λ _. RawPtr)) yes, tt))

pub zemirako_codec_start_spec : {M : Type 1} → statement M
zemirako_codec_start_spec 𝓤 𝓛 𝓜 𝓡 wired =
    let c = f.clauses 𝓛 𝓜.mem 𝓡.returns in let W = walk_of 𝓛 f.ended stayed c in let 𝓣 = tables 𝓤 𝓛.H 𝓜 𝓡 𝓡.env in
    let goes = Goes-dropped 𝓛 0 (plain (λ _. RawPtr)) yes (λ κs x w. refl) in
    proved 𝓛 f.ended stayed c 𝓜 𝓡 (goes, (goes, tt))
    f.Key.name code.function (code.unfolded 𝓤 𝓛.H 𝓜 𝓡 wired)
    (λ κs. (rawptr_vals, (rawptr_vals, tt))) (λ κs. (rawptr_Tells, (rawptr_Tells, tt))) (λ κs qs bounds a value are.
    let y : Ptr → Ptr → W.Ghost = λ p p'. ((κs, qs, bounds, (p, (p', tt)), (rawptr_vals p, (rawptr_vals p', tt))), value) in
    qed 𝓛 ((‵ ftrue ⊛ ‵ (RawPtr.own_val a.0 (rawptr_vals a.0)) ⊛ ‵ (RawPtr.own_val a.1.0 (rawptr_vals a.1.0)) ⊛ ‵ ftrue) ∷ (‵ (lies_at R full_share a.0 value) ⊛ ‵ (room_at Out a.1.0)) ∷ []) ∵ drop ! $ split ! $
    in_a_block ! a.0 (λ p. lies_at R full_share p value) (id⊢ 𝓤 _) (λ b o e.
    regoal ! (λ p. prop (WpFn 𝓤 𝓛.H 𝓣.C 𝓣.Λ code.function (rawptr_vals p ++ (rawptr_vals a.1.0 ++ [])) (W.post (y p a.1.0)))) e refl $
    move ! (1 ∷ []) $ in_a_block ! a.1.0 (λ p. room_at Out p) (id⊢ 𝓤 _) (λ b' o' e'.
    regoal ! (λ p. prop (WpFn 𝓤 𝓛.H 𝓣.C 𝓣.Λ code.function (rawptr_vals (block_ptr b o) ++ (rawptr_vals p ++ [])) (W.post (y (block_ptr b o) p)))) e' refl $
    -- [the room; the codec]
    enter ! _ _ _ _ _ $ alloc_all ! (λ l. pass_all ! refl ((tt, tt), ((tt, tt), tt)) $
    sets ! (of_opd ! (get ! refl)) refl (tt, tt) $ sets ! (of_opd ! (get ! refl)) refl (tt, tt) $
    sets ! (addr ! (through ! refl (stop !))) refl (tt, tt) $
    lft_new ! tt (λ α. move ! (2 ∷ []) $
    use1 𝓛 (later (some (λ (γ : ℕ). ‵ ((MutRef (named 0) (α ∷ []) R).own_val (record { ref_ptr = (b, o); ghost_name = γ; now = value }) (vptr b o ∷ [])) ⊛ ‵ (flent (α ∷ []) (Body (mem R) b o γ)))))
    (lends_ref 𝓛 R (named 0) (α ∷ []) value b o) $ await ! tt $ pick ! (λ γ. split ! $
    let r : MutBor R.Denot = record { ref_ptr = (b, o); ghost_name = γ; now = value } in
    let G = triple_of 𝓛 g.signature (g.spec 𝓛 𝓜.mem 𝓡.returns) in
    let z : G.Ghost = (((α ∷ [], tt), (full_share, tt), tt, (r, tt), (mut_vals r, tt)), tt) in
    nothing ! $ move ! (1 ∷ 0 ∷ []) $ join ! $ nothing ! $ move ! (3 ∷ 0 ∷ []) $ join ! $ join ! $ nothing ! $ move ! (1 ∷ 0 ∷ []) $ use2 𝓛 (raw (G.pre z)) (id⊢ 𝓤 _) $
    calls_at ! (framed 𝓤 𝓛.H 𝓜 (tables 𝓤 𝓛.H 𝓜 𝓡 𝓡.env)) G (met 𝓤 𝓛 𝓜 𝓡 (code.calls-engine::codec::AudioCodec::start 𝓡.env wired)) z
    (and_then ! (get ! refl) (no_more !)) (λ v.
    use1 𝓛 (later (some (λ (x : Out.Denot). ((‵ (flft (α ∷ []) full_share) ⊛ ‵ ftrue) ⊛ ‵ (Out.own_val x (v ∷ []))) ⊛
    some (λ (ws : Lasts g.ended z.0.0 z.0.3). ‵ (lasts g.ended z.0.0 z.0.3 ws) ⊛ raw (fact 𝓤 (Starts value ws.0 x)))))) (id⊢ 𝓤 _) $
    await ! tt $ pick ! (λ x. split ! $ split ! $ split ! $ lft_end ! tt $
    -- [the lifetime is over; nothing; the work item; the last values; what the lender keeps; the room]
    move ! (2 ∷ []) $ peeks ! Out (Is Out) (shows 𝓛 Out) x (v ∷ []) (λ is.
    lands_as ! refl refl ((out_laws.the_row_laws.lawful 𝓛).typed x _ is).0 $
    move ! (3 ∷ []) $ pick ! (λ ws. split ! $ move ! (1 ∷ []) $ heard ! _ (λ does.
    fsplit ! $ fsplit ! $ move ! (4 ∷ 6 ∷ 0 ∷ []) $ use3 𝓛 (later (‵ (part_at R full_share ws.0 b o))) (ref_back 𝓛 R (α ∷ []) γ ws.0 b o) $ await ! tt $
    -- [the codec; two parts of the last values; the work item; nothing; the room]
    assigns ! (of_opd ! (get ! refl)) (through ! refl (stop !)) (init ! 5 refl ((out_laws.the_row_laws.lawful 𝓛).typed x _ is).0) $
    sets ! (of_opd ! (unit_lit !)) refl (tt, tt) $
    returns ! (look_at ! 0 refl) $ free_all ! refl $
    move ! (5 ∷ 3 ∷ 0 ∷ []) $ use2 𝓛 (‵ (part_at Out full_share x b' o')) (part_in 𝓛 Out refl full_share x b' o' v) $
    use1 𝓛 (raw (ex 𝓤 (λ (w : Out.Denot). sep 𝓤 (sem 𝓛 (lies_at Out full_share (block_ptr b' o') w)) (fact 𝓤 (Starts value ws.0 w)))))
    (gives 𝓤 (λ w. sem 𝓛 (lies_at Out full_share (block_ptr b' o') w)) (λ w. Starts value ws.0 w) x does) $
    move ! (1 ∷ 0 ∷ []) $ use2 𝓛 (raw ((c κs (y (block_ptr b o) (block_ptr b' o')).0.3).ensures value tt (at_exit f.ended κs (y (block_ptr b o) (block_ptr b' o')).0.3 (tt, (tt, tt)))))
    (ex_i 𝓤 (λ (new : R.Denot). sep 𝓤 (sem 𝓛 (lies_at R full_share (block_ptr b o) new)) (ex 𝓤 (λ (w : Out.Denot). sep 𝓤 (sem 𝓛 (lies_at Out full_share (block_ptr b' o') w)) (fact 𝓤 (Starts value new w))))) ws.0) $
    nothing ! $ nothing ! $ fjoin ! $ nothing ! $ fjoin ! $ feq_i ! (List Val) (vunit ∷ []) (vunit ∷ []) refl $ nothing ! $ keep ! (0 ∷ 2 ∷ 1 ∷ 3 ∷ []) $
    by ! (leaves 𝓛 f.ended stayed c (y (block_ptr b o) (block_ptr b' o')) vunit tt (tt, (tt, tt)) (tt, (tt, tt))))))))))))))
