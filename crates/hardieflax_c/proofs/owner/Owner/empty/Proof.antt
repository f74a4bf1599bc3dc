-- `empty` owns nothing.
use Rattle.std.proofs.Common.{◌≡◌, List, [], ◌∷◌, ◌++◌, refl}
use mir.Val.{Val}
use base.Logic.{SProp, emp}
use base.Fml.{ftrue}
use prog.Wp.{WpFn}
use contract.Monad.{fact, fact_i}
use contract.Running.{tables}
use types.Kit.{‵, raw, ◌⊛◌, prop, ◌$◌, ◌∵◌, !, qed, by, move, keep, use0, split, regoal, fjoin}
use types.Part.{agg}
use types.Run.{no_more, and_then, returns, enter}
use types.ByLocal.{alloc_all, pass_all, free_all, look_at, get, sets}
use denote.Exit.{yes}
use denote.RattleType.{owns}
use denote.RawPtr.{RawPtr, ptr_val}
use denote.Signature.{plain, types_at}
use denote.Steps.{nothing}
use denote.Triple.Entry.{alive}
use denote.Triple.Walked.{Stays, stay_dropped, walk_of, Goes-dropped}
use Rattle.std.proofs.raw_atomic.Walks.{proved_at, leaves}
use Rattle.std.specs.Prelude.{None}
use Rattle.hardieflax_c.proofs.Owners.{address, holds_address, address_made, address_typed, word_typed}
use Rattle.hardieflax_c.specs.contracts.owner.Owner as Owner
use Rattle.hardieflax_c.specs.contracts.owner.Owner.empty.{ended, clauses}
use Rattle.hardieflax_c.specs.contracts.owner.Owner.empty.Key.{name as #self}
use Rattle.hardieflax_c.proofs.owner.Owner.empty.Statement.{statement}
use Rattle.hardieflax_c.proofs.owner.Owner.empty.Code as code

abbrev stayed : Stays (ended).signature.params (ended).kept
stayed = (stay_dropped (plain (λ _. RawPtr)) yes, tt)

pub empty_spec : {M : Type 1} → statement M
empty_spec 𝓤 𝓛 𝓜 𝓡 wired =
    let H = 𝓛.H in let 𝓣 = tables 𝓤 H 𝓜 𝓡 𝓡.env in let c = clauses 𝓛 𝓜.mem 𝓡.returns in
    proved_at 𝓛 ended stayed c 𝓜 𝓡 (Goes-dropped 𝓛 0 (plain (λ _. RawPtr)) yes (λ κs x f. refl), tt)
    #self code.function (code.unfolded 𝓤 H 𝓜 𝓡 wired) (λ z are.
    let p = z.0.3.0 in
    let Post : Val → SProp 𝓤 = (walk_of 𝓛 ended stayed c).post z in
    let made : (Owner.the_row).Denot = record { at = p; kept = None } in
    let Said : Type 0 = made.kept ≡ None in
    qed 𝓛 ((raw (alive 𝓛 (ended).signature z.0.0 z.0.1) ⊛ ‵ (owns (types_at (ended).signature.params z.0.0) z.0.3 z.0.4)) ∷ ‵ ftrue ∷ []) ∵
    split ! $ keep ! (0 ∷ []) $
    regoal ! (λ (us : List Val). prop (WpFn 𝓤 H 𝓣.C 𝓣.Λ code.function us Post)) (λ i. are.0 i ++ []) refl $
    enter ! 𝓣.C 𝓣.Λ code.function (ptr_val p ∷ []) Post $
    alloc_all ! (λ l. pass_all ! refl (word_typed p, tt) $
    sets ! (agg ! (and_then ! (get ! refl) (no_more !))) refl (address_typed p) $
    returns ! (look_at ! 0 refl) $ free_all ! refl $
    -- [the tokens]
    nothing ! $ use0 𝓛 (‵ (holds_address p (address p ∷ []))) (address_made 𝓛 p) $ fjoin ! $
    use0 𝓛 (raw (fact 𝓤 Said)) (fact_i 𝓤 Said (emp 𝓤) refl) $
    nothing ! $ nothing ! $ fjoin ! $ move ! (3 ∷ 0 ∷ 2 ∷ 1 ∷ []) $
    by ! (leaves 𝓛 ended stayed c z (address p) made (tt, tt) (tt, tt))))
