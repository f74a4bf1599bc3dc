-- How an address lies in its field, and what a call takes that is generic over a responder and the allocator.
-- Assumes `Logic`.
--     address, holds_address     a struct of one address: its machine value, and what its field owns
--     Boxed                      the box of a responder
--     Content, Alloc             a responder and the allocator as a call passes their types, with their laws
--     content-drop, alloc-drop   what drops each
--     passes                     what a call takes, from what its arguments own and what its clauses ask for
--     content-goes, alloc-goes   that code meets the contract of a drop
use Rattle.std.proofs.Common.{◌≡◌, List, [], ◌∷◌, ◌++◌, refl, ◌∙◌, lit<}
use seplogic.Ra.Ura.{Ura}
use mir.Raw.{raw as bare}
use mir.Syntax.{Callee, Dict, impl, method, no_args, ty_ptr, ty_struct, tcons, tnil, dnil}
use mir.Val.{Val, vstruct, vcons, vnil, of_list}
use base.Logic.{SProp, ent, sep, emp}
use base.Fml.{Fml, ftrue, fsep}
use prog.Model.{Model}
use prog.Wired.{Wired}
use types.Logic.{Logic, sem}
use types.Kit.{raw, ◌$◌, ◌∵◌, !, qed, done, move, drop, use0, use1, join, show}
use contract.BorrowLft.{◌⊑◌, ⊑_refl}
use contract.Lifetimes.{toks}
use contract.Monad.{fact}
use contract.Running.{Running}
use denote.Builtin.{RawPtr}
use denote.Exit.{no}
use denote.Laid.Entry.{statics, wholes, free_toks}
use denote.Laws.{Is, Typed}
use denote.Param.{arg, layout}
use denote.Param.Glue as glue
use denote.Param.Laws.{Laws, arg_laws}
use denote.Param.NoDrop.{glues}
use denote.RattleType.{RattleType}
use denote.RawPtr.{Ptr, block_ptr, null_ptr, ptr_val}
use denote.Shadow.{shadow, makes_shadow}
use denote.Steps.{nothing}
use denote.Struct.Struct.{Struct}
use denote.Triple.Carry.{beside, insides, insides_in, spared}
use denote.Triple.Spec.{Spec, triple_of}
use denote.Triple.Table.{run_framed, widened}
use Rattle.std.proofs.cell.Inside.{Good}
use Rattle.std.specs.contracts.alloc.Global as Heap
use Rattle.std.proofs.alloc.Global.TheLaws as heap
use Rattle.std.specs.contracts.boxed.Box as Box
use Rattle.std.proofs.boxed.Box.TheLaws as box
use Rattle.std.specs.contracts.impls.GlobalAllocator.TheImpl.{ghosts}
use Rattle.sql_tool_session.specs.contracts.responder.Responder as Responder
use Rattle.sql_tool_session.proofs.responder.Responder.TheLaws as responder
use Rattle.hardieflax_c.proofs.Destruct++none.drop.Code as none
use Rattle.hardieflax_c.specs.contracts.sql_tool_session++responder++Responder+Destruct.drop as Drop
use Rattle.hardieflax_c.proofs.sql_tool_session++responder++Responder+Destruct.drop.Symbol as drop_code
use Rattle.hardieflax_c.proofs.sql_tool_session++responder++Responder+Destruct.drop.Met.{met}

abbrev pub address : Ptr → Val
address p = vstruct (vcons (ptr_val p) vnil)

abbrev pub holds_address : Ptr → List Val → Fml
holds_address p = (Struct (record { name = []; args = []; types = []; fields = RawPtr ∷ [] })).own_val (p, tt)

abbrev pub address_told : (p : Ptr) (vs : List Val) → shadow (holds_address p vs) → vs ≡ address p ∷ []
address_told p vs s = s.1.0 ∙ (λ i. vstruct (of_list (s.1.1.0 i ++ [])) ∷ [])

pub address_made : {M : Type 1} {𝓤 : Ura M} (𝓛 : Logic 𝓤) (p : Ptr)
    → ent 𝓤 (emp 𝓤) (sem 𝓛 (holds_address p (address p ∷ [])))
address_made 𝓛 p =
    makes_shadow 𝓛 (holds_address p (address p ∷ [])) (λ _. (tt, (tt, tt))) ((ptr_val p ∷ [], tt), (refl, (refl, tt)))

pub word_typed : (p : Ptr) → Good ty_ptr (ptr_val p)
word_typed (block_ptr b o) = (tt, tt)
word_typed null_ptr = (tt, record { fits = lit< tt })

pub address_typed : (p : Ptr) → Good (ty_struct [] (tcons ty_ptr tnil)) (address p)
address_typed (block_ptr b o) = (tt, (tt, tt))
address_typed null_ptr = (tt, (record { fits = lit< tt }, tt))

abbrev pub Boxed : RattleType
Boxed = Box.the_row Responder.the_row Heap.the_row ghosts

abbrev pub boxed_typed : {M : Type 1} {𝓤 : Ura M} (𝓛 : Logic 𝓤) (d : Boxed.Denot) (vs : List Val)
    → Is Boxed d vs → Typed Boxed.mir vs
boxed_typed 𝓛 =
    let laws = box.the_field_loose Responder.the_row Heap.the_row ghosts responder.the_row_laws heap.the_row_laws in
    (laws.lawful 𝓛).typed

abbrev pub Content : RattleType
Content = arg (bare (layout Responder.the_row)) no Responder.the_row

abbrev pub Alloc : RattleType
Alloc = arg (bare (layout Heap.the_row)) no Heap.the_row

abbrev pub content-laws : Laws Content
content-laws = arg_laws (bare (layout Responder.the_row)) no Responder.the_row responder.the_row_laws refl

abbrev pub alloc-laws : Laws Alloc
alloc-laws = arg_laws (bare (layout Heap.the_row)) no Heap.the_row heap.the_row_laws refl

abbrev pub content-drop : Dict
content-drop = impl ("hardieflax_c::sql_tool_session++responder++Responder+Destruct::drop" ∷ []) tnil dnil

abbrev pub alloc-drop : Dict
alloc-drop = impl ("hardieflax_c::Destruct++none::drop" ∷ []) (tcons (layout Alloc) tnil) dnil

module _ {M : Type 1} {𝓤 : Ura M} (𝓛 : Logic 𝓤) where
  -- both lifetimes of the call are `'static`
  abbrev pub Tokens : SProp 𝓤
  Tokens = toks 𝓛 2 (statics 2) (wholes 2)

  abbrev Within : SProp 𝓤 → SProp 𝓤
  Within = insides 𝓤 2 (statics 2) (Content.lives, (Alloc.lives, tt))

  module _ (𝓜 : Model 𝓤 𝓛.H) where
    pub passes : (owned asked : SProp 𝓤) → ent 𝓤 (sep 𝓤 owned asked) (sep 𝓤 (sep 𝓤 Tokens owned) (Within asked))
    passes owned asked =
        let lasts = insides_in 𝓤 2 (statics 2) (Content.lives, (Alloc.lives, tt)) asked (⊑_refl [], (⊑_refl [], tt)) in
        qed 𝓛 (raw owned ∷ raw asked ∷ []) ∵ use0 𝓛 (raw Tokens) (free_toks 𝓛 𝓜 2) $ join ! $ move ! (1 ∷ []) $
        use1 𝓛 (raw (Within asked)) lasts $ move ! (1 ∷ 0 ∷ []) $ done !

    module _ (𝓡 : Running 𝓤 𝓛.H 𝓜) where
      pub alloc-goes : Wired 𝓡.env none.code → glue.Met 𝓛 𝓜 𝓡 𝓡.env Alloc alloc-drop
      unfolding none.code
      alloc-goes wired = glues "hardieflax_c::Destruct++none::drop" 𝓡.env wired Alloc alloc-laws M 𝓤 𝓛 𝓜 𝓡

      -- the code needs no lifetime, and nobody needs what it says at its end
      pub content-goes : Wired 𝓡.env drop_code.code → glue.Met 𝓛 𝓜 𝓡 𝓡.env Content content-drop
      content-goes wired =
          let γ = 𝓡.env in let k : Callee = method content-drop 0 no_args in let framed = run_framed 𝓤 𝓛.H 𝓜 𝓡 (γ k) in
          let said : Spec 𝓤 Drop.signature = Drop.spec 𝓛 𝓜.mem 𝓡.returns in
          let longer : Spec 𝓤 (glue.signature Content) = λ κs a. record {
            ghost = Unit {0};
            requires = λ g. sep 𝓤 (fact 𝓤 (κs.0 ⊑ Content.lives)) (emp 𝓤);
            ensures = (said tt a).ensures;
          } in
          let named = widened 𝓤 𝓛.H (triple_of 𝓛 Drop.signature said) 𝓜 𝓡 γ (γ drop_code.name) (γ k)
          (drop_code.as_method γ wired k refl) (met 𝓤 𝓛 𝓜 𝓡 wired) in
          beside 𝓛 (glue.signature Content) (𝓡.run (γ k)) framed longer (glue.spent 𝓛 Content)
          (λ κs a g. g) (λ κs a g. emp 𝓤)
          (λ κs a g. qed 𝓛 (raw ((longer κs a).requires g) ∷ []) ∵ nothing ! $ move ! (1 ∷ 0 ∷ []) $ done !)
          (λ κs a g r. qed 𝓛 (raw ((longer κs a).ensures g r) ∷ raw (emp 𝓤) ∷ []) ∵ drop ! $
          show ! (λ (ws : Unit {0} × Unit {0}). sep 𝓤 (sem 𝓛 (fsep ftrue ftrue)) (emp 𝓤)) (tt, tt) $
          nothing ! $ nothing ! $ join ! $ done !)
          (spared 𝓛 Drop.signature (𝓡.run (γ k)) framed 1 (Content.lives, tt) said named)
