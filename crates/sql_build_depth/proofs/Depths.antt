-- Depths as 64 bits hold them: of a call and of all that follows it matters only how the depths before are held.
use Rattle.std.proofs.Common.{◌≡◌, ℕ, ◌+◌, ◌<◌, max, Bool, true, false, List, ◌∷◌, length, map, drop, get_or, refl, sym, ap, ◌∙◌, arith}
use Rattle.std.proofs.lemmas.List.{drop_more}
use Rattle.sql_build_depth.specs.Depth.{selecting, filtering, holding, joining, nullable, combining, begun, after_plain, after_clause, expr_depth, maybe_depth, source_depth, items_depth, query_depth, after_call, after_calls, key_depth}
use Rattle.sql_build_syntax.specs.Tree.{Exprs, no_exprs, more_exprs, Calls, no_calls, more_calls, Call, plain, clause, join_with, find, order, then_order_by, limit, offset, into_boxed, combine, positional_order_by}
use Rattle.sql_build_syntax.specs.View.{call_tree, calls_of, expr_tree, exprs_of}
use Rattle.sql_build_syntax.specs.declared.call.Call as written
use Rattle.sql_build_syntax.specs.declared.call.ClauseCall.{ClauseCall}
use Rattle.sql_build_syntax.specs.declared.call.ClauseCall.TheVariants as clause
use Rattle.sql_build_syntax.specs.declared.call.PlainCall.{PlainCall}
use Rattle.sql_build_syntax.specs.declared.call.PlainCall.TheVariants as plain
use Rattle.sql_build_syntax.specs.declared.expr.Expr.{Expr}
use Rattle.sql_build_depth.specs.declared.depth.Depths.{Depths}
use Rattle.sql_build_depth.specs.inside.Capped.{capped, capped_depths}

pub capped_twice : (n : ℕ) → capped (capped n) ≡ capped n
capped_twice n = omega arith

capped_suc : (n : ℕ) → capped (1 + capped n) ≡ capped (1 + n)
capped_suc n = omega arith

capped_above : (n m : ℕ) → capped (1 + max (capped n) m) ≡ capped (1 + max n m)
capped_above n m = omega arith

pub capped_max : (n m : ℕ) → capped (max (capped n) m) ≡ capped (max n m)
capped_max n m = omega arith

-- two sides that are held alike are, beside each other, held alike
beside : (w n m : ℕ) → capped n ≡ capped m → capped (max (capped w) n) ≡ capped (max w m)
beside w n m e = omega arith

same : (a b : Depths) → a.selection ≡ b.selection → a.sources ≡ b.sources → a.condition ≡ b.condition
    → a.deepest ≡ b.deepest → a.boxed ≡ b.boxed → a ≡ b
same a b s r c d x =
    ap (λ n. record a { selection = n }) s
    ∙ ap (λ n. record a { selection = b.selection; sources = n }) r
    ∙ ap (λ n. record a { selection = b.selection; sources = b.sources; condition = n }) c
    ∙ ap (λ n. record a { selection = b.selection; sources = b.sources; condition = b.condition; deepest = n }) d
    ∙ ap (λ v. record b { boxed = v }) x

pub all_capped : (d : Depths) → capped_depths (capped_depths d) ≡ capped_depths d
all_capped d =
    same (capped_depths (capped_depths d)) (capped_depths d) (capped_twice d.selection) (capped_twice d.sources)
    (capped_twice d.condition) (capped_twice d.deepest) refl

selecting_capped : (n m : ℕ) (d : Depths) → capped n ≡ capped m
    → capped_depths (selecting n (capped_depths d)) ≡ capped_depths (selecting m d)
selecting_capped n m d e =
    same (capped_depths (selecting n (capped_depths d))) (capped_depths (selecting m d)) e (capped_twice d.sources)
    (capped_twice d.condition) (beside d.deepest n m e) refl

filtering_capped : (n m : ℕ) (d : Depths) → capped n ≡ capped m
    → capped_depths (filtering n (capped_depths d)) ≡ capped_depths (filtering m d)
filtering_capped n m d e =
    same (capped_depths (filtering n (capped_depths d))) (capped_depths (filtering m d)) (capped_twice d.selection)
    (capped_twice d.sources) e (beside d.deepest n m e) refl

holding_capped : (n m : ℕ) (d : Depths) → capped n ≡ capped m
    → capped_depths (holding n (capped_depths d)) ≡ capped_depths (holding m d)
holding_capped n m d e =
    same (capped_depths (holding n (capped_depths d))) (capped_depths (holding m d)) (capped_twice d.selection)
    (capped_twice d.sources) (capped_twice d.condition) (beside d.deepest n m e) refl

joined_above : (w f r o : ℕ)
    → capped (max (capped w) (max (2 + r) (1 + max (capped f) (max r o)))) ≡ capped (max w (max (2 + r) (1 + max f (max r o))))
joined_above w f r o = omega arith

joining_capped : (r o : ℕ) (d : Depths)
    → capped_depths (joining r o (capped_depths d)) ≡ capped_depths (joining r o d)
joining_capped r o d =
    same (capped_depths (joining r o (capped_depths d))) (capped_depths (joining r o d))
    (capped_max d.selection (2 + r)) (capped_above d.sources (max r o)) (capped_twice d.condition)
    (joined_above d.deepest d.sources r o) refl

side_capped : (n q : ℕ) → capped (1 + max (1 + capped n) q) ≡ capped (1 + max (1 + n) q)
side_capped n q = omega arith

combining_capped : (q : ℕ) (d : Depths) → capped_depths (combining q (capped_depths d)) ≡ capped_depths (combining q d)
combining_capped q d =
    same (capped_depths (combining q (capped_depths d))) (capped_depths (combining q d)) (capped_twice d.selection)
    (capped_twice d.sources) (capped_twice d.condition) (side_capped d.deepest q) refl

boxed_capped : (d : Depths)
    → capped_depths (record (capped_depths d) { boxed = true }) ≡ capped_depths (record d { boxed = true })
boxed_capped d =
    same (capped_depths (record (capped_depths d) { boxed = true })) (capped_depths (record d { boxed = true }))
    (capped_twice d.selection) (capped_twice d.sources) (capped_twice d.condition) (capped_twice d.deepest) refl

nullable_capped : (b : Bool) (d : Depths) → capped_depths (nullable b (capped_depths d)) ≡ capped_depths (nullable b d)
nullable_capped true d = all_capped d
nullable_capped false d = selecting_capped (1 + capped d.selection) (1 + d.selection) d (capped_suc d.selection)

plain_capped : (by : PlainCall) (d : Depths)
    → capped_depths (after_plain by (capped_depths d)) ≡ capped_depths (after_plain by d)
plain_capped plain.Nullable d = nullable_capped d.boxed d
plain_capped plain.Count d = selecting_capped 1 1 d refl
plain_capped plain.Distinct d = all_capped d
plain_capped plain.ForUpdate d = all_capped d
plain_capped plain.ForNoKeyUpdate d = all_capped d
plain_capped plain.ForShare d = all_capped d
plain_capped plain.ForKeyShare d = all_capped d
plain_capped plain.SkipLocked d = all_capped d
plain_capped plain.NoWait d = all_capped d

clause_capped : (by : ClauseCall) (e : ℕ) (d : Depths)
    → capped_depths (after_clause by e (capped_depths d)) ≡ capped_depths (after_clause by e d)
clause_capped clause.Filter e d =
    filtering_capped (1 + max (capped d.condition) e) (1 + max d.condition e) d (capped_above d.condition e)
clause_capped clause.OrFilter e d =
    filtering_capped (1 + max (capped d.condition) e) (1 + max d.condition e) d (capped_above d.condition e)
clause_capped clause.Select e d = selecting_capped e e d refl
clause_capped clause.Having e d = holding_capped e e d refl
clause_capped clause.GroupBy e d = holding_capped e e d refl
clause_capped clause.DistinctOn e d = holding_capped e e d refl

pub key_capped : (es : Exprs) (d : ℕ) → capped (key_depth es (capped d)) ≡ capped (key_depth es d)
key_capped no_exprs d = capped_twice d
key_capped (more_exprs e es) d =
    let deeper : ℕ → ℕ = λ n. 1 + max n (1 + expr_depth e) in
    sym (key_capped es (deeper (capped d)))
    ∙ ap (λ n. capped (key_depth es n)) (capped_above d (1 + expr_depth e))
    ∙ key_capped es (deeper d)

after_capped : (c : Call) (d : Depths) → capped_depths (after_call c (capped_depths d)) ≡ capped_depths (after_call c d)
after_capped (plain by) d = plain_capped by d
after_capped (clause by e) d = clause_capped by (expr_depth e) d
after_capped (join_with kind r on) d = joining_capped (source_depth r) (maybe_depth on) d
after_capped (find es) d =
    filtering_capped (key_depth es (capped d.condition)) (key_depth es d.condition) d (key_capped es d.condition)
after_capped (order is) d = holding_capped (items_depth is) (items_depth is) d refl
after_capped (then_order_by is) d = holding_capped (items_depth is) (items_depth is) d refl
after_capped (limit n) d = all_capped d
after_capped (offset n) d = all_capped d
after_capped (into_boxed given) d = boxed_capped d
after_capped (combine by all q) d = combining_capped (query_depth q) d
after_capped (positional_order_by is) d = all_capped d

pub calls_capped : (cs : Calls) (d : Depths)
    → capped_depths (after_calls cs (capped_depths d)) ≡ capped_depths (after_calls cs d)
calls_capped no_calls d = all_capped d
calls_capped (more_calls c cs) d =
    sym (calls_capped cs (after_call c (capped_depths d)))
    ∙ ap (λ x. capped_depths (after_calls cs x)) (after_capped c d)
    ∙ calls_capped cs (after_call c d)

-- where a loop over the calls has the depths before one of them, it has the depths before the next one
pub calls_go_on : (calls : List written.Call) (i : ℕ) (c : written.Call) (before after total : Depths) → i < length calls
    → c ≡ get_or calls i c → after ≡ capped_depths (after_call (call_tree c) before)
    → capped_depths (after_calls (calls_of (map call_tree (drop i calls))) before) ≡ total
    → capped_depths (after_calls (calls_of (map call_tree (drop (i + 1) calls))) after) ≡ total
calls_go_on calls i c before after total below is found so_far =
    let rest = drop (i + 1) calls in
    let others = calls_of (map call_tree rest) in
    let here : drop i calls ≡ c ∷ rest = drop_more calls i c below ∙ ap (λ z. z ∷ rest) (sym is) in
    ap (λ n. capped_depths (after_calls others n)) found
    ∙ calls_capped others (after_call (call_tree c) before)
    ∙ sym (ap (λ xs. capped_depths (after_calls (calls_of (map call_tree xs)) before)) here)
    ∙ so_far

pub key_goes_on : (key : List Expr) (i : ℕ) (e : Expr) (before after total : ℕ) → i < length key
    → e ≡ get_or key i e → after ≡ capped (1 + max before (1 + expr_depth (expr_tree e)))
    → capped (key_depth (exprs_of (map expr_tree (drop i key))) before) ≡ total
    → capped (key_depth (exprs_of (map expr_tree (drop (i + 1) key))) after) ≡ total
key_goes_on key i e before after total below is found so_far =
    let rest = drop (i + 1) key in
    let others = exprs_of (map expr_tree rest) in
    let here : drop i key ≡ e ∷ rest = drop_more key i e below ∙ ap (λ z. z ∷ rest) (sym is) in
    ap (λ n. capped (key_depth others n)) found
    ∙ key_capped others (1 + max before (1 + expr_depth (expr_tree e)))
    ∙ sym (ap (λ xs. capped (key_depth (exprs_of (map expr_tree xs)) before)) here)
    ∙ so_far

-- a value of a key: its comparison is one level around it, AND one around that
pub step_capped : (d e : ℕ) → capped (max d (capped (capped e + 1)) + 1) ≡ capped (1 + max d (1 + e))
step_capped d e = omega arith

query_step : (n : ℕ) → capped (capped n + 1) ≡ capped (1 + n)
query_step n = omega arith

begun_capped : (b : Bool) (n : ℕ) → capped_depths (begun b (capped n)) ≡ capped_depths (begun b n)
begun_capped true n =
    same (capped_depths (begun true (capped n))) (capped_depths (begun true n)) (capped_suc n) (capped_twice n) refl
    (capped_suc n) refl
begun_capped false n =
    same (capped_depths (begun false (capped n))) (capped_depths (begun false n)) (capped_twice n) refl refl
    (capped_twice n) refl

pub query_capped : (cs : Calls) (b : Bool) (n : ℕ)
    → capped ((capped_depths (after_calls cs (begun b (capped n)))).deepest + 1)
    ≡ capped (1 + (after_calls cs (begun b n)).deepest)
query_capped cs b n =
    ap (λ (x : Depths). capped (x.deepest + 1))
    (sym (calls_capped cs (begun b (capped n)))
    ∙ ap (λ x. capped_depths (after_calls cs x)) (begun_capped b n)
    ∙ calls_capped cs (begun b n))
    ∙ query_step (after_calls cs (begun b n)).deepest
