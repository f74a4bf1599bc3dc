-- Which relation joins two tables (diesel, `joinable!`).
use Rattle.std.specs.Prelude.{ℕ, List, Bool, ◌&&◌, ◌||◌, Option, find}
use Rattle.std.specs.Str.{bytes_eq}
use Rattle.sql_schema.specs.declared.declaration.JoinableDecl.{JoinableDecl}

-- the two names are a and b, in either order
abbrev pub are_named : List ℕ → List ℕ → List ℕ → List ℕ → Bool
are_named one other a b = (bytes_eq one a && bytes_eq other b) || (bytes_eq one b && bytes_eq other a)

-- the relation goes from the table named a to the one named b, or from b to a
abbrev pub relates : List ℕ → List ℕ → JoinableDecl → Bool
relates a b j = are_named j.child j.parent a b

-- the first relation that is declared between the two, in either direction
abbrev pub relation_of : List JoinableDecl → List ℕ → List ℕ → Option JoinableDecl
relation_of joinables a b = find (relates a b) joinables
