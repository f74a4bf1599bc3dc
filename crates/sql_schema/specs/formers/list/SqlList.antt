-- How a list holds its elements, so that a type may hold itself through `SqlList`: its value is the list itself, and
-- the `Vec` inside has the elements in that order.
use mathlib.Core.Path.{◌≡◌, refl, sym}
use mathlib.Core.List.{List, []}
use mathlib.Core.Former.{Former, this, list, via, children}
use base.Stored.{code_map}
use denote.RattleType.{RattleType}
use denote.HoleLaws.{Alike}
use denote.HolePlaces.{Recodes, struct_places, laid}
use denote.Hole.Carrier.{listed, list-listed}
use denote.Hole.Fix.{over}
use denote.Model.Placed.{view_places}
use denote.Param.Weighed.{Weighed, w_list}
use Rattle.std.specs.formers.vec.Vec.{the_former as vec_former, the_places as vec_places, mapped}
use Rattle.std.specs.declared.alloc.Global.{Global}
use Rattle.std.specs.contracts.alloc.Global as global
use Rattle.std.specs.contracts.impls.GlobalAllocator.TheImpl.{ghosts}
use Rattle.sql_schema.specs.declared.list.SqlList.TheInside.{Inside}
use Rattle.sql_schema.specs.declared.list.SqlList.TheView.{view, invariant}
use Rattle.sql_schema.specs.contracts.list.SqlList.{the_row}
use Rattle.sql_schema.specs.contracts.list.SqlList.TheInside as inside

abbrev pub the_former : Former {0} → Former {0}
the_former g = list g

abbrev pub the_weighed : {g : Former {0}} → Weighed g → Weighed (the_former g)
the_weighed w = w_list w

pub the_empty : List ⊥
the_empty = []

abbrev pub the_items : (X : Type 0) → List X → List X
the_items X xs = xs

pub the_items_listed : (X : Type 0) (xs : List X) → listed _ (children (the_former this) X xs) ≡ the_items X xs
the_items_listed X xs = list-listed X xs

-- the one field, a `Vec`
abbrev of_vec : Former {0}
of_vec =
    via (vec_former this Global) Inside (λ X it. it.items) (λ X v. record { items = v }) (λ X it. refl) (λ X v. refl)

module _ (R R' : RattleType) (h : R.Denot → R'.Denot) where
  pub the_places : Alike R R' h → Alike (the_row R) (the_row R') ((the_former this).map R.Denot R'.Denot h)
  the_places alike =
      let vec = vec_places global.the_row ghosts R R' h alike in
      let fields =
      struct_places (inside.the_type R) (inside.the_type R') (mapped h, tt) _ (λ it. refl) refl
      (laid _ _ _ vec, tt) in
      view_places of_vec (list this) view (λ X Y k it. refl) (λ X it. refl) R.Denot R'.Denot h (the_row R).coded
      (the_row R').coded
      (invariant R.Denot) (invariant R'.Denot) (λ it p q. refl) (λ it p q. refl) (λ it p. tt) (λ it p. tt)
      (over (inside.the_row R)) (over (inside.the_row R')) fields

  pub the_codes_placed : Recodes R R' h → Recodes (the_row R) (the_row R') ((the_former this).map R.Denot R'.Denot h)
  the_codes_placed same xs = sym (code_map R.coded.code R'.coded.code h (λ x. sym (same x)) xs)
