-- The requests before the first one that nests too deep, as the code counts them.
use Rattle.std.proofs.Common.{◌≡◌, ◌∙◌, ◌+◌, ◌<◌, ◌≤◌, Bool, cond, List, [], ◌∷◌, length, map, take, take_while, ap, arith, refl, sym}
use Rattle.std.proofs.lemmas.List.{length-map, take-map, take_all}
use Rattle.std.proofs.lemmas.List.Folds.{length-prefix_len}
use Rattle.std.specs.List.{prefix_len}
use Rattle.sql_tool_document.specs.Trees.{request_tree}
use Rattle.sql_tool_document.specs.declared.document.Request.{Request}
use Rattle.sql_tool_session.specs.Within.{HasTooDeep, before_too_deep, fits}

prefix_len-map : {X Y : Type 0} (f : X → Y) (p : Y → Bool) (xs : List X)
    → prefix_len p (map f xs) ≡ prefix_len (λ x. p (f x)) xs
prefix_len-map f p [] = refl
prefix_len-map f p (x ∷ xs) = ap (λ n. cond (p (f x)) (1 + n) 0) (prefix_len-map f p xs)

-- a prefix of a list, each element seen as another thing
pub take_while-map : {X Y : Type 0} (f : X → Y) (p : Y → Bool) (xs : List X)
    → map f (take (prefix_len (λ x. p (f x)) xs) xs) ≡ take_while p (map f xs)
take_while-map f p xs =
    sym (take-map f (prefix_len (λ x. p (f x)) xs) xs) ∙ ap (λ n. take n (map f xs)) (sym (prefix_len-map f p xs))

-- where those before are fewer, one of the requests nests too deep
pub fewer_before : (some all : List Request) → map request_tree some ≡ before_too_deep (map request_tree all)
    → length some < length all → HasTooDeep (map request_tree all)
fewer_before some all cut fewer =
    omega (arith, fewer, ap length cut, length-map some request_tree, length-map all request_tree)

-- and where they are not, they are all
pub all_before : (some all : List Request) → map request_tree some ≡ before_too_deep (map request_tree all)
    → length all ≤ length some → before_too_deep (map request_tree all) ≡ map request_tree all
all_before some all cut enough =
    let trees = map request_tree all in
    take_all (prefix_len fits trees) trees
    (omega (arith, enough, ap length cut, length-map some request_tree, length-map all request_tree, length-prefix_len fits trees))
