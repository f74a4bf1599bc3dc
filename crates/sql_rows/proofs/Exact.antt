-- `==` tells different pairs apart.
use Rattle.std.proofs.Common.{◌≡◌, true, Bool, subst}
use Rattle.std.specs.Bool.{Decides}
use Rattle.std.specs.Cmp.{first_so, second_so}
use denote.Enum.Bare.{same_true}
use Rattle.sql_schema.proofs.Exact.{IsExact}
use Rattle.sql_dialect.specs.contracts.backend.DialectPartialEq.TheImpl as dialect_eq
use Rattle.sql_dialect.specs.contracts.backend.Dialect.{the_type as the_dialect}
use Rattle.sql_key.proofs.ExactNodes.{same-key}
use Rattle.sql_key.specs.contracts.key.QueryKeyPartialEq.TheImpl as query_eq
use Rattle.sql_rows.specs.declared.cache.RequestKey.{RequestKey}
use Rattle.sql_rows.specs.contracts.cache.RequestKeyPartialEq.TheImpl as key_eq
use Rattle.sql_rows.specs.contracts.cache.RequestKeyEq.TheImpl.Laws.{laws-law}

abbrev pub same_key : RequestKey → RequestKey → Bool
same_key = (key_eq.ghosts).eq

pub exact-key : IsExact same_key
exact-key a b h =
    let d = (dialect_eq.ghosts).eq a.dialect b.dialect in
    let k = (query_eq.ghosts).eq a.key b.key in
    let p = same_true the_dialect tt a.dialect b.dialect (first_so d k h) in
    let q = (same-key a.key b.key).0 (second_so d k h) in
    λ i. record { dialect = p i; key = q i }

pub decides-key : (a b : RequestKey) → Decides (same_key a b) (a ≡ b)
decides-key a b = (exact-key a b, (λ p. subst (λ c. same_key a c ≡ true) p (laws-law.refl a)))
