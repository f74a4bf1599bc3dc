-- `==` on texts, types and their parts is true of equal values alone.
use Rattle.std.specs.Prelude.{nat_eq}
use Rattle.std.specs.Cmp.Lexicographic.{pointwise}
use Rattle.std.specs.Cmp.{first_so, second_so, booleans_Decides, unsigned_Decides}
use Rattle.sql_schema.proofs.Exact.{IsExact, exact-list}
use Rattle.sql_schema.specs.contracts.types.BasePartialEq.TheImpl as base_eq
use Rattle.sql_schema.specs.contracts.types.Base.{the_type}
use denote.Enum.Bare.{same_true}
use mathlib.Core.Bool.{beq}
use Rattle.sql_schema.specs.contracts.types.SqlTypePartialEq.TheImpl as type_eq

pub exact-unsigned : IsExact nat_eq
exact-unsigned a b h = (unsigned_Decides a b).0 h

pub exact-bool : IsExact beq
exact-bool a b h = (booleans_Decides a b).0 h

pub exact-text : IsExact (pointwise nat_eq)
exact-text = exact-list exact-unsigned

pub exact-base : IsExact (base_eq.ghosts).eq
exact-base a b h = same_true the_type tt a b h

pub exact-type : IsExact (type_eq.ghosts).eq
exact-type a b h =
    let p = exact-base a.base b.base (first_so ((base_eq.ghosts).eq a.base b.base) (beq a.nullable b.nullable) h) in
    let q =
    exact-bool a.nullable b.nullable
    (second_so ((base_eq.ghosts).eq a.base b.base) (beq a.nullable b.nullable) h) in
    λ i. record { base = p i; nullable = q i }
