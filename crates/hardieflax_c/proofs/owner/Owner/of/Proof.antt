-- `of` hands the box to `into_raw`, and keeps the address.
use Rattle.std.proofs.Common.{List, [], ◌∷◌, ◌++◌, refl, ap}
use mir.Val.{Val}
use base.Logic.{SProp, emp, id⊢}
use base.Fml.{ftrue}
use prog.Wp.{WpFn}
use types.Logic.{sem}
use types.Kit.{‵, raw, ◌⊛◌, some, later, prop, ◌$◌, ◌∵◌, !, qed, done, move, drop, use0, use1, use2, split, join}
use types.Kit.{fjoin, feq_l, pick, await, rewrite, regoal, suffices}
use types.Part.{agg}
use types.Run.{of_opd, no_more, and_then, returns, enter}
use types.ByLocal.{alloc_all, pass_all, free_all, look_at, get, sets, lands_as}
use contract.Running.{tables}
use denote.Builtin.{RawPtr}
use denote.Exit.{yes}
use denote.Laid.Entry.{statics, wholes}
use denote.Param.{layout}
use denote.RattleType.{owns}
use denote.RawPtr.{Ptr}
use denote.Signature.{plain}
use denote.Steps.{nothing, only}
use denote.Triple.Call.{calls_at}
use denote.Triple.Clauses.{Lasts, lasts}
use denote.Triple.Entry.{alive}
use denote.Triple.Spec.{triple_of}
use denote.Triple.Table.{framed}
use denote.Triple.Walked.{says, Stays, stay_dropped, walk_of, ends_at, Goes-dropped}
use Rattle.std.proofs.cell.Inside.{one}
use Rattle.std.proofs.raw_atomic.Walks.{proved_at}
use Rattle.std.specs.Prelude.{Some}
use Rattle.std.specs.contracts.impls.GlobalAllocator.TheImpl.{ghosts, dict}
use Rattle.std.proofs.impls.GlobalAllocator.TheImpl.Met.{passed}
use Rattle.std.specs.contracts.boxed.Box.into_raw as into_raw
use Rattle.std.proofs.boxed.Box.into_raw.Met.{met}
use Rattle.hardieflax_c.specs.Owning.{kept_at}
use Rattle.hardieflax_c.proofs.Owners.{Boxed, boxed_typed, Content, content-laws, content-drop, content-goes}
use Rattle.hardieflax_c.proofs.Owners.{Alloc, alloc-laws, alloc-drop, alloc-goes}
use Rattle.hardieflax_c.proofs.Owners.{Tokens, passes, address, holds_address, address_made, address_typed, word_typed}
use Rattle.hardieflax_c.specs.contracts.owner.Owner as Owner
use Rattle.hardieflax_c.specs.contracts.owner.Owner.of.{ended, clauses}
use Rattle.hardieflax_c.specs.contracts.owner.Owner.of.Key.{name as #self}
use Rattle.hardieflax_c.proofs.owner.Owner.of.Statement.{statement}
use Rattle.hardieflax_c.proofs.owner.Owner.of.Code as code

abbrev stayed : Stays (ended).signature.params (ended).kept
stayed = (stay_dropped (plain (λ _. Boxed)) yes, tt)

pub of_spec : {M : Type 1} → statement M
of_spec {M} 𝓤 𝓛 𝓜 𝓡 wired =
    let γ = 𝓡.env in let 𝓣 = tables 𝓤 𝓛.H 𝓜 𝓡 γ in let c = clauses 𝓛 𝓜.mem 𝓡.returns in
    -- the call
    let T = into_raw.ended Content Alloc ghosts dict alloc-drop content-drop in
    let Call = triple_of 𝓛 T.signature
    (into_raw.spec Content Alloc ghosts dict alloc-drop content-drop 𝓛 𝓜.mem 𝓡.returns) in
    let allocates = passed γ (code.calls-std_heap::GlobalAllocator::allocate γ wired)
    (code.calls-std_heap::GlobalAllocator::deallocate γ wired) (code.calls-std_heap::GlobalAllocator::grow γ wired)
    (code.calls-std_heap::GlobalAllocator::shrink γ wired) M 𝓤 𝓛 𝓜 𝓡 in
    let alloc-gone = alloc-goes 𝓛 𝓜 𝓡 (code.calls-hardieflax_c::Destruct++none::drop γ wired) in
    let content-gone = content-goes 𝓛 𝓜 𝓡
    (code.calls-hardieflax_c::sql_tool_session++responder++Responder+Destruct::drop γ wired) in
    let known = met 𝓤 𝓛 𝓜 𝓡 (code.calls-std_alloc::boxed::Box::into_raw γ wired)
    Content Alloc content-laws alloc-laws ghosts dict alloc-drop content-drop
    allocates alloc-gone content-gone in
    -- the walk
    proved_at 𝓛 ended stayed c 𝓜 𝓡 (Goes-dropped 𝓛 0 (plain (λ _. Boxed)) yes (λ κs x f. refl), tt)
    #self code.function (code.unfolded 𝓤 𝓛.H 𝓜 𝓡 wired) (λ z are.
    let Post : Val → SProp 𝓤 = (walk_of 𝓛 ended stayed c).post z in
    let d = z.0.3.0 in let lies = one (layout Boxed) z.0.4.0 (boxed_typed 𝓛 d z.0.4.0 are.0) in let w = lies.0 in
    let y : Call.Ghost = ((statics 2, wholes 2, tt, (d, tt), (w ∷ [], tt)), tt) in
    qed 𝓛 ((raw (alive 𝓛 (ended).signature z.0.0 z.0.1) ⊛ ‵ (owns (Boxed ∷ []) z.0.3 z.0.4)) ∷ ‵ ftrue ∷ []) ∵
    split ! $ rewrite ! 1 (λ (us : List Val). ‵ (owns (Boxed ∷ []) z.0.3 (us, tt))) lies.1 refl $
    move ! (1 ∷ 2 ∷ []) $
    use2 𝓛 (raw (Call.pre y)) (passes 𝓛 𝓜 (sem 𝓛 (owns (Boxed ∷ []) z.0.3 (w ∷ [], tt))) (emp 𝓤)) $
    regoal ! (λ (us : List Val). prop (WpFn 𝓤 𝓛.H 𝓣.C 𝓣.Λ code.function us Post)) (λ i. lies.1 i ++ []) refl $
    enter ! 𝓣.C 𝓣.Λ code.function (w ∷ []) Post $ alloc_all ! (λ l. pass_all ! refl (lies.2, tt) $
    sets ! (of_opd ! (get ! refl)) refl lies.2 $
    calls_at ! (framed 𝓤 𝓛.H 𝓜 𝓣) Call known y (and_then ! (get ! refl) (no_more !)) (λ u.
    use1 𝓛 (later (some (λ (p : Ptr). (raw (Tokens 𝓛) ⊛ ‵ (RawPtr.own_val p (u ∷ []))) ⊛
    some (λ (ls : Lasts T y.0.0 y.0.3). ‵ (lasts T y.0.0 y.0.3 ls) ⊛ ‵ (kept_at (Some d.value) p)))))
    (id⊢ 𝓤 (Call.post y u)) $
    await ! tt $ pick ! (λ p. split ! $ split ! $ drop ! $ feq_l ! (λ e. pick ! (λ _. split ! $ drop ! $
    -- [what is kept at p; no tokens]
    lands_as ! (ap only e) refl (word_typed p) $
    sets ! (of_opd ! (get ! refl)) refl (word_typed p) $
    sets ! (agg ! (and_then ! (get ! refl) (no_more !))) refl (address_typed p) $
    returns ! (look_at ! 0 refl) $ free_all ! refl $
    let made : (Owner.the_row).Denot = record { at = p; kept = Some d.value } in
    use0 𝓛 (‵ (holds_address p (address p ∷ []))) (address_made 𝓛 p) $ fjoin ! $
    use1 𝓛 (‵ ((Owner.the_row).own_val made (address p ∷ []))) (id⊢ 𝓤 _) $
    suffices ! _ (ends_at 𝓛 ended stayed c z (address p) made (tt, tt) (tt, tt)) $ says ! refl $
    nothing ! $ nothing ! $ fjoin ! $ join ! $ move ! (1 ∷ 0 ∷ []) $ join ! $ done !))))))
