-- A name before a path.
use Rattle.std.proofs.Common.{◌≡◌, List, [], ◌∷◌, ◌++◌, map, length, ◌+◌, refl, ◌∙◌, arith}
use Rattle.sql_grammar.specs.Tree.{Name}
use Rattle.sql_read_tree.specs.Path.{Path, prefixed, prefixed_by}

pub prefixed_push : {A : Type 0} (f : A → Name) (names : List A) (a : A) (p : Path)
    → prefixed_by (map f (names ++ a ∷ [])) p ≡ prefixed (f a) (prefixed_by (map f names) p)
prefixed_push f [] a p = refl
prefixed_push f (b ∷ names) a p = prefixed_push f names a (prefixed (f b) p)

pub prefixed_count : {A : Type 0} (f : A → Name) (names : List A) (p : Path)
    → length (prefixed_by (map f names) p).more ≡ length names + length p.more
prefixed_count f [] p = omega arith
prefixed_count f (b ∷ names) p = prefixed_count f names (prefixed (f b) p) ∙ omega arith
