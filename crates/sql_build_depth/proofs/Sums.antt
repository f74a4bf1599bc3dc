-- Leaves as 64 bits hold them: of a call and of all that follows it matters only how the leaves before are held.
use Rattle.std.proofs.Common.{◌≡◌, ℕ, ◌+◌, ◌<◌, max, List, ◌∷◌, length, map, drop, get_or, sym, ap, ◌∙◌, arith}
use Rattle.std.proofs.lemmas.List.{drop_more}
use Rattle.sql_build_depth.specs.Leaves.{source_leaves, query_leaves, calls_leaves, call_leaves}
use Rattle.sql_build_syntax.specs.Tree.{Calls, no_calls, more_calls, Call, plain, clause, join_with, find, order, then_order_by, limit, offset, into_boxed, combine, positional_order_by}
use Rattle.sql_build_syntax.specs.View.{call_tree, calls_of}
use Rattle.sql_build_syntax.specs.declared.call.Call as written
use Rattle.sql_build_depth.specs.inside.Capped.{capped}
use Rattle.sql_build_depth.proofs.Depths.{capped_twice, capped_max}

pub sum_capped : (n m : ℕ) → capped (capped n + capped m) ≡ capped (n + m)
sum_capped n m = omega arith

left_capped : (n m : ℕ) → capped (capped n + m) ≡ capped (n + m)
left_capped n m = omega arith

call_capped : (c : Call) (n : ℕ) → capped (call_leaves c (capped n)) ≡ capped (call_leaves c n)
call_capped (plain by) n = capped_twice n
call_capped (clause by e) n = capped_twice n
call_capped (join_with kind r on) n = left_capped n (source_leaves r)
call_capped (find es) n = capped_twice n
call_capped (order is) n = capped_twice n
call_capped (then_order_by is) n = capped_twice n
call_capped (limit m) n = capped_twice n
call_capped (offset m) n = capped_twice n
call_capped (into_boxed given) n = capped_twice n
call_capped (combine by all q) n = capped_max n (query_leaves q)
call_capped (positional_order_by is) n = capped_twice n

pub query_capped : (cs : Calls) (n : ℕ) → capped (calls_leaves cs (capped n)) ≡ capped (calls_leaves cs n)
query_capped no_calls n = capped_twice n
query_capped (more_calls c cs) n =
    sym (query_capped cs (call_leaves c (capped n)))
    ∙ ap (λ x. capped (calls_leaves cs x)) (call_capped c n)
    ∙ query_capped cs (call_leaves c n)

-- where a loop over the calls has the leaves before one of them, it has the leaves before the next one
pub calls_go_on : (calls : List written.Call) (i : ℕ) (c : written.Call) (before after total : ℕ) → i < length calls
    → c ≡ get_or calls i c → after ≡ capped (call_leaves (call_tree c) before)
    → capped (calls_leaves (calls_of (map call_tree (drop i calls))) before) ≡ total
    → capped (calls_leaves (calls_of (map call_tree (drop (i + 1) calls))) after) ≡ total
calls_go_on calls i c before after total below is found so_far =
    let rest = drop (i + 1) calls in
    let others = calls_of (map call_tree rest) in
    let here : drop i calls ≡ c ∷ rest = drop_more calls i c below ∙ ap (λ z. z ∷ rest) (sym is) in
    ap (λ n. capped (calls_leaves others n)) found
    ∙ query_capped others (call_leaves (call_tree c) before)
    ∙ sym (ap (λ xs. capped (calls_leaves (calls_of (map call_tree xs)) before)) here)
    ∙ so_far
