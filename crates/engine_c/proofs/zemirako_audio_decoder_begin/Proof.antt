-- The export opens a decoder and moves it into the room.
use Rattle.engine_c.proofs.Steps.{◌≤◌, List, [], ◌∷◌, ◌++◌, refl, w32, proved, leaves, WpFn, full_share, id⊢, ftrue, Val, vunit, fact, tables, sem, ‵, raw, prop, ◌⊛◌, some, later, ◌$◌, ◌∵◌, !, qed, move, keep, drop, use0, use1, use2, split, join, fjoin, feq_i, pick, await, regoal, by, enter, of_opd, unit_lit, init, assigns, stop, no_more, and_then, returns, alloc_all, pass_all, free_all, look_at, get, through, sets, lands_as, u32, RawPtr, yes, Is, shows, uint_vals, uint_Tells, part_at, part_in, Ptr, block_ptr, lies_at, room_at, in_a_block, rawptr_vals, rawptr_Tells, plain, nothing, heard, peeks, calls_at, lasts, Lasts, at_exit, triple_of, Stays, walk_of, stay_dropped, Goes-dropped, framed, gives, fact_i, emp}
use Rattle.engine_c.specs.contracts.zemirako_audio_decoder_begin as f
use Rattle.engine_c.proofs.zemirako_audio_decoder_begin.Statement.{statement}
use Rattle.engine_c.proofs.zemirako_audio_decoder_begin.Code as code
use Rattle.engine.specs.contracts.codec.AudioCodec.open_decoder as g
use Rattle.engine.proofs.codec.AudioCodec.open_decoder.Met.{met}
use Rattle.engine.specs.contracts.codec.AudioCodec.{the_row as R}
use Rattle.engine.proofs.codec.AudioCodec.TheLaws as row_laws
use Rattle.std.specs.contracts.alloc.Global.{the_row as Heap}
use Rattle.std.proofs.alloc.Global.TheLaws as heap_laws
use Rattle.engine.specs.Steps.{OpenedDecoder}

abbrev stayed : Stays f.ended.signature.params f.ended.kept
stayed = (stay_dropped (plain (λ _. Heap)) yes, (stay_dropped (plain (λ _. RawPtr)) yes, (stay_dropped (plain (λ _. u32)) yes, tt)))

abbrev heap_vals : Heap.Denot → List Val
heap_vals d = heap_laws.lowers.lowered d ∷ []

pub zemirako_audio_decoder_begin_spec : {M : Type 1} → statement M
zemirako_audio_decoder_begin_spec 𝓤 𝓛 𝓜 𝓡 wired =
    let c = f.clauses 𝓛 𝓜.mem 𝓡.returns in let W = walk_of 𝓛 f.ended stayed c in let 𝓣 = tables 𝓤 𝓛.H 𝓜 𝓡 𝓡.env in
    proved 𝓛 f.ended stayed c 𝓜 𝓡 (Goes-dropped 𝓛 0 (plain (λ _. Heap)) yes (λ κs x w. refl), (Goes-dropped 𝓛 0 (plain (λ _. RawPtr)) yes (λ κs x w. refl), (Goes-dropped 𝓛 0 (plain (λ _. u32)) yes (λ κs x w. refl), tt)))
    f.Key.name code.function (code.unfolded 𝓤 𝓛.H 𝓜 𝓡 wired)
    (λ κs. (heap_vals, (rawptr_vals, (uint_vals w32, tt)))) (λ κs. (heap_laws.lowers.val_is, (rawptr_Tells, (uint_Tells w32, tt)))) (λ κs qs bounds a nil are.
    let y : Ptr → W.Ghost = λ p. ((κs, qs, bounds, (a.0, (p, (a.1.1.0, tt))), (heap_vals a.0, (rawptr_vals p, (uint_vals w32 a.1.1.0, tt)))), nil) in
    qed 𝓛 ((‵ ftrue ⊛ ‵ (Heap.own_val a.0 (heap_vals a.0)) ⊛ ‵ (RawPtr.own_val a.1.0 (rawptr_vals a.1.0)) ⊛ ‵ (u32.own_val a.1.1.0 (uint_vals w32 a.1.1.0)) ⊛ ‵ ftrue) ∷
    ‵ (room_at R a.1.0) ∷ []) ∵
    split ! $ move ! (1 ∷ []) $ split ! $ move ! (1 ∷ []) $ split ! $ move ! (1 ∷ []) $ split ! $
    keep ! (5 ∷ 0 ∷ 3 ∷ []) $
    -- [the room; the number; the heap]
    in_a_block ! a.1.0 (λ p. room_at R p) (id⊢ 𝓤 _) (λ b o e.
    regoal ! (λ p. prop (WpFn 𝓤 𝓛.H 𝓣.C 𝓣.Λ code.function (heap_vals a.0 ++ (rawptr_vals p ++ (uint_vals w32 a.1.1.0 ++ []))) (W.post (y p)))) e refl $
    enter ! _ _ _ _ _ $ alloc_all ! (λ l. pass_all ! refl (((heap_laws.the_row_laws.lawful 𝓛).typed a.0 _ are.0).0, ((tt, tt), ((tt, record { fits = are.1.1.0.1 }), tt))) $
    sets ! (of_opd ! (get ! refl)) refl (tt, tt) $
    let G = triple_of 𝓛 g.signature (g.spec 𝓛 𝓜.mem 𝓡.returns) in
    let z : G.Ghost = ((tt, tt, tt, (a.0, (a.1.1.0, tt)), (heap_vals a.0, (uint_vals w32 a.1.1.0, tt))), tt) in
    nothing ! $ move ! (2 ∷ 0 ∷ []) $ join ! $ move ! (2 ∷ 0 ∷ []) $ join ! $ nothing ! $ join ! $
    nothing ! $ move ! (1 ∷ 0 ∷ []) $ use2 𝓛 (raw (G.pre z)) (id⊢ 𝓤 _) $
    calls_at ! (framed 𝓤 𝓛.H 𝓜 (tables 𝓤 𝓛.H 𝓜 𝓡 𝓡.env)) G (met 𝓤 𝓛 𝓜 𝓡 (code.calls-engine::codec::AudioCodec::open_decoder 𝓡.env wired)) z
    (and_then ! (get ! refl) (and_then ! (get ! refl) (no_more !))) (λ v.
    use1 𝓛 (later (some (λ (d : R.Denot). (‵ ftrue ⊛ ‵ (R.own_val d (v ∷ []))) ⊛
    some (λ (ws : Lasts g.ended z.0.0 z.0.3). ‵ (lasts g.ended z.0.0 z.0.3 ws) ⊛ raw (fact 𝓤 (OpenedDecoder a.1.1.0 d)))))) (id⊢ 𝓤 _) $
    await ! tt $ pick ! (λ d. split ! $ split ! $ drop ! $
    -- [the decoder; the last values; the room]
    peeks ! R (Is R) (shows 𝓛 R) d (v ∷ []) (λ is.
    lands_as ! refl refl ((row_laws.the_row_laws.lawful 𝓛).typed d _ is).0 $
    move ! (1 ∷ []) $ pick ! (λ ws. split ! $ drop ! $ heard ! _ (λ opened.
    assigns ! (of_opd ! (get ! refl)) (through ! refl (stop !)) (init ! 1 refl ((row_laws.the_row_laws.lawful 𝓛).typed d _ is).0) $
    sets ! (of_opd ! (unit_lit !)) refl (tt, tt) $
    returns ! (look_at ! 0 refl) $ free_all ! refl $
    move ! (1 ∷ 0 ∷ []) $ use2 𝓛 (‵ (part_at R full_share d b o)) (part_in 𝓛 R refl full_share d b o v) $
    use1 𝓛 (raw ((c κs (y (block_ptr b o)).0.3).ensures nil tt (at_exit f.ended κs (y (block_ptr b o)).0.3 (tt, (tt, (tt, tt))))))
    (gives 𝓤 (λ new. sem 𝓛 (lies_at R full_share (block_ptr b o) new)) (λ new. OpenedDecoder a.1.1.0 new) d opened) $
    nothing ! $ nothing ! $ fjoin ! $ nothing ! $ fjoin ! $ nothing ! $ fjoin ! $ feq_i ! (List Val) (vunit ∷ []) (vunit ∷ []) refl $ nothing ! $ keep ! (0 ∷ 2 ∷ 1 ∷ 3 ∷ []) $
    by ! (leaves 𝓛 f.ended stayed c (y (block_ptr b o)) vunit tt (tt, (tt, (tt, tt))) (tt, (tt, (tt, tt))))))))))))
