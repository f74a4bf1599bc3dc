-- `into_box` hands the address to `from_raw`, with what is kept there.
use Rattle.std.proofs.Common.{◌≡◌, List, [], ◌∷◌, ◌++◌, refl, sym, ap, ◌∙◌}
use mir.Val.{Val}
use base.Logic.{SProp, id⊢}
use prog.Wp.{WpFn}
use types.Logic.{sem}
use types.Kit.{‵, raw, ◌⊛◌, some, later, prop, at_ret, ◌$◌, ◌∵◌, !, qed, done, move, drop, use1, use2, split, split3}
use types.Kit.{join, fsplit, fjoin, feq_i, pick, await, rewrite, regoal, suffices}
use types.Part.{sub, whole}
use types.Run.{stop, fld, of_opd, no_more, and_then, first, blocks, exec, returns, enter}
use types.ByLocal.{alloc_all, pass_all, free_all, look_at, get, get_in, sets, lands_last, env}
use contract.Monad.{fact}
use contract.Running.{tables}
use denote.Builtin.{RawPtr}
use denote.Exit.{yes}
use denote.Laid.Entry.{statics, wholes}
use denote.Laws.{Is, shows}
use denote.Param.{layout}
use denote.RattleType.{Valss, owns}
use denote.RawPtr.{ptr_val}
use denote.Signature.{plain}
use denote.Steps.{nothing, heard, peeks}
use denote.Triple.Call.{calls_at_last}
use denote.Triple.Clauses.{Lasts, lasts}
use denote.Triple.Entry.{alive}
use denote.Triple.Spec.{triple_of}
use denote.Triple.Table.{framed}
use denote.Triple.Walked.{says, Stays, stay_dropped, walk_of, ends_at, Goes-dropped}
use Rattle.std.proofs.VecSteps.Shapes.{after}
use Rattle.std.proofs.cell.Inside.{one}
use Rattle.std.proofs.raw_atomic.Walks.{proved_at}
use Rattle.std.specs.Prelude.{Some, Option}
use Rattle.std.specs.contracts.alloc.Global as Heap
use Rattle.std.proofs.alloc.Global.TheLaws as heap
use Rattle.std.specs.contracts.impls.GlobalAllocator.TheImpl.{ghosts, dict}
use Rattle.std.proofs.impls.GlobalAllocator.TheImpl.Met.{passed}
use Rattle.std.specs.contracts.boxed.Box.from_raw as from_raw
use Rattle.std.proofs.boxed.Box.from_raw.Met.{met}
use Rattle.hardieflax_c.specs.Owning.{kept_at}
use Rattle.hardieflax_c.proofs.Owners.{Boxed, boxed_typed, Content, content-laws}
use Rattle.hardieflax_c.proofs.Owners.{Alloc, alloc-laws, alloc-drop, alloc-goes}
use Rattle.hardieflax_c.proofs.Owners.{Tokens, passes, address, address_told, address_typed, word_typed}
use Rattle.hardieflax_c.specs.contracts.owner.Owner as Owner
use Rattle.hardieflax_c.specs.contracts.owner.Owner.into_box.{ended, clauses}
use Rattle.hardieflax_c.specs.contracts.owner.Owner.into_box.Key.{name as #self}
use Rattle.hardieflax_c.proofs.owner.Owner.into_box.Statement.{statement}
use Rattle.hardieflax_c.proofs.owner.Owner.into_box.Code as code

abbrev stayed : Stays (ended).signature.params (ended).kept
stayed = (stay_dropped (plain (λ _. Owner.the_row)) yes, (stay_dropped (plain (λ _. Heap.the_row)) yes, tt))

pub into_box_spec : {M : Type 1} → statement M
into_box_spec {M} 𝓤 𝓛 𝓜 𝓡 wired =
    let γ = 𝓡.env in let 𝓣 = tables 𝓤 𝓛.H 𝓜 𝓡 γ in let c = clauses 𝓛 𝓜.mem 𝓡.returns in
    -- the call
    let T = from_raw.ended Content Alloc ghosts dict alloc-drop in
    let Call = triple_of 𝓛 T.signature (from_raw.spec Content Alloc ghosts dict alloc-drop 𝓛 𝓜.mem 𝓡.returns) in
    let allocates = passed γ (code.calls-std_heap::GlobalAllocator::allocate γ wired)
    (code.calls-std_heap::GlobalAllocator::deallocate γ wired) (code.calls-std_heap::GlobalAllocator::grow γ wired)
    (code.calls-std_heap::GlobalAllocator::shrink γ wired) M 𝓤 𝓛 𝓜 𝓡 in
    let alloc-gone = alloc-goes 𝓛 𝓜 𝓡 (code.calls-hardieflax_c::Destruct++none::drop γ wired) in
    let known = met 𝓤 𝓛 𝓜 𝓡 (code.calls-std_alloc::boxed::Box::from_raw γ wired)
    Content Alloc content-laws alloc-laws ghosts dict alloc-drop allocates alloc-gone in
    -- the walk
    let owner_goes = Goes-dropped 𝓛 0 (plain (λ _. Owner.the_row)) yes (λ κs x f. refl) in
    let heap_goes = Goes-dropped 𝓛 0 (plain (λ _. Heap.the_row)) yes (λ κs x f. refl) in
    proved_at 𝓛 ended stayed c 𝓜 𝓡 (owner_goes, (heap_goes, tt))
    #self code.function (code.unfolded 𝓤 𝓛.H 𝓜 𝓡 wired) (λ z are.
    let Post : Val → SProp 𝓤 = (walk_of 𝓛 ended stayed c).post z in
    let owner = z.0.3.0 in let p = owner.at in let a = z.0.3.1.0 in let vs = z.0.4.1.0 in
    let lies = one (layout Heap.the_row) vs ((heap.the_row_laws.lawful 𝓛).typed a vs are.1.0) in let h = lies.0 in
    let Asked : Type 0 = (kept : Content.Denot) × (owner.kept ≡ Some kept) in
    let given = owns (Owner.the_row ∷ Heap.the_row ∷ []) z.0.3 z.0.4 in
    qed 𝓛 ((raw (alive 𝓛 (ended).signature z.0.0 z.0.1) ⊛ ‵ given) ∷ raw (fact 𝓤 Asked) ∷ []) ∵
    move ! (1 ∷ []) $ heard ! Asked (λ asked. let x = asked.0 in
    let words : Valss (Alloc ∷ RawPtr ∷ []) = (h ∷ [], (ptr_val p ∷ [], tt)) in
    let y : Call.Ghost = ((statics 2, wholes 2, tt, (a, (p, tt)), words), x) in
    split ! $ move ! (1 ∷ []) $ fsplit ! $ fsplit ! $ drop ! $
    rewrite ! 0 (λ (k : Option Content.Denot). ‵ (kept_at k p)) asked.1 refl $
    move ! (1 ∷ []) $ fsplit ! $ rewrite ! 0 (λ (us : List Val). ‵ ((Heap.the_row).own_val a us)) lies.1 refl $
    -- [the allocator; nothing; what is kept at p; no tokens]
    move ! (1 ∷ []) $ feq_i ! (List Val) (ptr_val p ∷ []) (ptr_val p ∷ []) refl $ fjoin ! $
    move ! (1 ∷ 0 ∷ []) $ fjoin ! $
    use2 𝓛 (raw (Call.pre y))
    (passes 𝓛 𝓜 (sem 𝓛 (owns (Alloc ∷ RawPtr ∷ []) (a, (p, tt)) words)) (sem 𝓛 (kept_at (Some x) p))) $
    regoal ! (λ (us : List Val). prop (WpFn 𝓤 𝓛.H 𝓣.C 𝓣.Λ code.function us Post))
    (λ i. address_told p z.0.4.0 are.0.0 i ++ (lies.1 i ++ [])) refl $
    enter ! 𝓣.C 𝓣.Λ code.function (address p ∷ h ∷ []) Post $
    alloc_all ! (λ l. pass_all ! refl (address_typed p, (lies.2, tt)) $
    sets ! (of_opd ! (get_in ! (fld ! refl (stop !)) (sub ! 0 refl (whole !)))) refl (word_typed p) $
    first ! $ blocks ! $ sets ! (of_opd ! (get ! refl)) refl (word_typed p) $
    calls_at_last ! (framed 𝓤 𝓛.H 𝓜 𝓣) Call known y
    (and_then ! (get ! refl) (and_then ! (get ! refl) (no_more !))) (λ u.
    use1 𝓛 (later (some (λ (r : Boxed.Denot). (raw (Tokens 𝓛) ⊛ ‵ (Boxed.own_val r (u ∷ []))) ⊛
    some (λ (ls : Lasts T y.0.0 y.0.3). ‵ (lasts T y.0.0 y.0.3 ls) ⊛
    raw (fact 𝓤 (r.value ≡ x)) ⊛ raw (fact 𝓤 (r.alloc ≡ a)))))) (id⊢ 𝓤 (Call.post y u)) $
    await ! tt $ pick ! (λ r. split ! $ move ! (1 ∷ []) $ pick ! (λ _. split3 ! $ drop ! $
    heard ! (r.value ≡ x) (λ same. drop ! $ split ! $ drop ! $
    -- [the box; no tokens]
    peeks ! Boxed (Is Boxed) (shows 𝓛 Boxed) r (u ∷ []) (λ is. let typed = (boxed_typed 𝓛 r (u ∷ []) is).0 in
    lands_last ! refl typed $
    exec ! 𝓣.C 𝓣.Λ (env (code.function).locals l) (after 2 (code.function).body) (at_ret _ Post) $
    sets ! (of_opd ! (get ! refl)) refl typed $ returns ! (look_at ! 0 refl) $ free_all ! refl $
    suffices ! _ (ends_at 𝓛 ended stayed c z u r (tt, (tt, tt)) (tt, (tt, tt))) $
    says ! (asked.1 ∙ ap Some (sym same)) $
    nothing ! $ nothing ! $ fjoin ! $ nothing ! $ fjoin ! $ join ! $ move ! (1 ∷ 0 ∷ []) $ join ! $ done !))))))))
