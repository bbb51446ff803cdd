-- The export moves the work item out of its room and drops it.
use Rattle.engine_c.proofs.Steps.{List, [], ◌∷◌, ◌++◌, refl, ap, proved, leaves, WpFn, full_share, id⊢, ftrue, fat, froom, Val, vunit, tables, ‵, raw, prop, ◌⊛◌, some, later, ◌$◌, ◌∵◌, !, qed, move, keep, drop, use1, use2, split, join, fjoin, feq_l, feq_i, pick, await, regoal, by, enter, of_opd, unit_lit, load, look, stop, no_more, and_then, returns, alloc_all, pass_all, free_all, look_at, get, through, sets, lands_as, unit, RawPtr, yes, Is, shows, part_out, lone, Ptr, block_ptr, lies_at, in_a_block, rawptr_vals, rawptr_Tells, plain, nothing, peeks, only, calls_at, lasts, Lasts, triple_of, Stays, walk_of, stay_dropped, Goes-dropped, framed}
use Rattle.engine_c.specs.contracts.zemirako_work_item_end as f
use Rattle.engine_c.proofs.zemirako_work_item_end.Statement.{statement}
use Rattle.engine_c.proofs.zemirako_work_item_end.Code as code
use Rattle.engine.specs.contracts.work.WorkItem.end as g
use Rattle.engine.proofs.work.WorkItem.end.Met.{met}
use Rattle.engine.specs.contracts.work.WorkItem.{the_row as R}
use Rattle.engine.proofs.work.WorkItem.TheLaws as row_laws

abbrev stayed : Stays f.ended.signature.params f.ended.kept
stayed = (stay_dropped (plain (λ _. RawPtr)) yes, tt)

pub zemirako_work_item_end_spec : {M : Type 1} → statement M
zemirako_work_item_end_spec 𝓤 𝓛 𝓜 𝓡 wired =
    let c = f.clauses 𝓛 𝓜.mem 𝓡.returns in let W = walk_of 𝓛 f.ended stayed c in let 𝓣 = tables 𝓤 𝓛.H 𝓜 𝓡 𝓡.env in
    proved 𝓛 f.ended stayed c 𝓜 𝓡 (Goes-dropped 𝓛 0 (plain (λ _. RawPtr)) yes (λ κs x w. refl), tt)
    f.Key.name code.function (code.unfolded 𝓤 𝓛.H 𝓜 𝓡 wired)
    (λ κs. (rawptr_vals, tt)) (λ κs. (rawptr_Tells, tt)) (λ κs qs bounds a value are.
    let y : Ptr → W.Ghost = λ p. ((κs, qs, bounds, (p, tt), (rawptr_vals p, tt)), value) in
    qed 𝓛 ((‵ ftrue ⊛ ‵ (RawPtr.own_val a.0 (rawptr_vals a.0)) ⊛ ‵ ftrue) ∷ ‵ (lies_at R full_share a.0 value) ∷ []) ∵ drop ! $
    in_a_block ! a.0 (λ p. lies_at R full_share p value) (id⊢ 𝓤 _) (λ b o e.
    regoal ! (λ p. prop (WpFn 𝓤 𝓛.H 𝓣.C 𝓣.Λ code.function (rawptr_vals p ++ []) (W.post (y p)))) e refl $
    use1 𝓛 (some (λ (v : Val). ‵ (fat full_share (lone R.mir) b o v) ⊛ ‵ (R.own_val value (v ∷ [])))) (part_out 𝓛 R refl full_share value b o) $ pick ! (λ v. split ! $ move ! (1 ∷ []) $
    peeks ! R (Is R) (shows 𝓛 R) value (v ∷ []) (λ is.
    -- [the work item; its cell]
    enter ! _ _ _ _ _ $ alloc_all ! (λ l. pass_all ! refl ((tt, tt), tt) $
    sets ! (of_opd ! (get ! refl)) refl (tt, tt) $
    sets ! (of_opd ! (load ! (through ! refl (stop !)) (look ! 1 refl))) refl ((row_laws.the_row_laws.lawful 𝓛).typed value _ is).0 $
    let G = triple_of 𝓛 g.signature (g.spec 𝓛 𝓜.mem 𝓡.returns) in
    let z : G.Ghost = ((tt, tt, tt, (value, tt), (v ∷ [], tt)), tt) in
    nothing ! $ move ! (1 ∷ 0 ∷ []) $ join ! $ nothing ! $ join ! $ nothing ! $ move ! (1 ∷ 0 ∷ []) $ use2 𝓛 (raw (G.pre z)) (id⊢ 𝓤 _) $
    calls_at ! (framed 𝓤 𝓛.H 𝓜 (tables 𝓤 𝓛.H 𝓜 𝓡 𝓡.env)) G (met 𝓤 𝓛 𝓜 𝓡 (code.calls-engine::work::WorkItem::end 𝓡.env wired)) z
    (and_then ! (get ! refl) (no_more !)) (λ u.
    use1 𝓛 (later (some (λ (r : Unit {0}). (‵ ftrue ⊛ ‵ (unit.own_val r (u ∷ []))) ⊛
    some (λ (ws : Lasts g.ended z.0.0 z.0.3). ‵ (lasts g.ended z.0.0 z.0.3 ws) ⊛ ‵ ftrue)))) (id⊢ 𝓤 _) $
    await ! tt $ pick ! (λ r. split ! $ split ! $ drop ! $ feq_l ! (λ is_unit. drop ! $
    lands_as ! (ap only is_unit) refl (tt, tt) $
    sets ! (of_opd ! (unit_lit !)) refl (tt, tt) $
    returns ! (look_at ! 0 refl) $ free_all ! refl $
    use1 𝓛 (‵ (froom (lone R.mir) b o)) (𝓛.laws.at_room (lone R.mir) b o v) $
    nothing ! $ nothing ! $ fjoin ! $ feq_i ! (List Val) (vunit ∷ []) (vunit ∷ []) refl $ nothing ! $ keep ! (0 ∷ 2 ∷ 1 ∷ 3 ∷ []) $
    by ! (leaves 𝓛 f.ended stayed c (y (block_ptr b o)) vunit tt (tt, tt) (tt, tt))))))))))
