-- The names of a path, from the last to the first.
use Rattle.std.proofs.Common.{◌≡◌, ℕ, ◌+◌, ◌<◌, List, [], ◌∷◌, ◌++◌, length, take, map, get_or, codes, refl, ap, ◌∙◌}
use Rattle.std.proofs.lemmas.List.{take_more}
use Rattle.sql_dialect.specs.Written.{quoted}
use Rattle.sql_dialect.specs.declared.backend.Dialect.{Dialect}
use Rattle.sql_grammar.specs.Text as x
use Rattle.sql_read_tree.specs.Path.{Path, prefixed, prefixed_by}
use Rattle.sql_read_tree.proofs.Paths.{prefixed_push}
use Rattle.sql_read_writer.specs.More.{path_text}

prefixed_text : (d : Dialect) (a : List ℕ) (p : Path) (rest : List ℕ)
    → path_text d (prefixed a p) rest ≡ quoted d a ++ (codes "." ++ path_text d p rest)
unfolding x.names
prefixed_text d a p rest = refl

pub one_text : (d : Dialect) (a rest : List ℕ) → path_text d (record { first = a; more = [] }) rest ≡ quoted d a ++ rest
unfolding x.names
one_text d a rest = refl

pub next_text : (d : Dialect) {A : Type 0} (bytes : A
    → List ℕ) (before : List A) (i j : ℕ) (a : A) (p : Path) (rest : List ℕ) → i ≡ j + 1
    → j < length before
    → path_text d (prefixed_by (map bytes (take i before)) p) rest
    ≡ quoted d (bytes (get_or before j a))
    ++ (codes "." ++ path_text d (prefixed_by (map bytes (take j before)) p) rest)
next_text d {A = A} bytes before i j a p rest e h =
    ap (λ k. path_text d (prefixed_by (map bytes (take k before)) p) rest) e
    ∙ ap (λ (ns : List A). path_text d (prefixed_by (map bytes ns) p) rest) (take_more before j a h)
    ∙ ap (λ q. path_text d q rest) (prefixed_push bytes (take j before) (get_or before j a) p)
    ∙ prefixed_text d (bytes (get_or before j a)) (prefixed_by (map bytes (take j before)) p) rest
