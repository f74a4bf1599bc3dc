-- What is known after a select statement, clause by clause.
use Rattle.std.proofs.Common.{◌≡◌, ℕ, ◌+◌, List, [], ◌∷◌, ◌++◌, length, refl, sym, ap, ◌∙◌}
use Rattle.sql_grammar.specs.MarkTree as t
use Rattle.sql_schema.specs.declared.declaration.TableDecl.{TableDecl}
use Rattle.sql_audit_resolution.specs.Leaves as l
use Rattle.sql_audit_resolution.specs.Leaves.{Level}
use Rattle.sql_audit_resolution.specs.Uses as u
use Rattle.sql_audit_resolution.specs.Uses.{Use}
use Rattle.sql_audit_resolution.specs.inside.After as x
use Rattle.sql_audit_resolution.specs.inside.After.{Known, after, own_level}
use Rattle.sql_audit_resolution.proofs.Joined.{same_after, seven}

clauses_after : (ts : List TableDecl) (around : List Level) (k : Known) (d : t.Distinctness) (es : t.Expressions)
    (f : t.MaybeSource) (w : t.MaybeExpression) (g : t.MaybeExpressions) (h : t.MaybeExpression) (o : t.MaybeItems)
    (p : t.Page) (m : t.Lock) (own : Level)
    → l.leaves_from (length k.tables + length (l.tables_distinct d) + length (l.tables_expressions es)) f ≡ own
    → after ts k (l.tables_query (t.Select d es f w g h o p m)) (λ n. u.uses_query around n (t.Select d es f w g h o p m))
    ≡ after ts (after ts (after ts (after ts (after ts (after ts (after ts k
    (l.tables_distinct d) (λ n. u.uses_distinct (own ∷ []) n d))
    (l.tables_expressions es) (λ n. u.uses_expressions (own ∷ []) n es))
    (l.tables_from f) (λ n. u.uses_from n f))
    (l.tables_maybe w) (λ n. u.uses_maybe (own ∷ around) n w))
    (l.tables_group g) (λ n. u.uses_group (own ∷ []) n g))
    (l.tables_maybe h) (λ n. u.uses_maybe (own ∷ []) n h))
    (l.tables_order o) (λ n. u.uses_order (own ∷ []) n o)
clauses_after ts around k d es f w g h o p m own is =
    let m0 = length (l.tables_distinct d) in
    let m1 = length (l.tables_expressions es) in
    let m2 = length (l.tables_from f) in
    let m3 = length (l.tables_maybe w) in
    let m4 = length (l.tables_group g) in
    let m5 = length (l.tables_maybe h) in
    let uses_with : Level → ℕ → List Use =
    λ level n.
    u.uses_distinct (level ∷ []) n d ++ (u.uses_expressions (level ∷ []) (n + m0) es ++ (u.uses_from (n + m0 + m1) f
    ++ (u.uses_maybe (level ∷ around) (n + m0 + m1 + m2) w ++ (u.uses_group (level ∷ []) (n + m0 + m1 + m2 + m3) g
    ++ (u.uses_maybe (level ∷ []) (n + m0 + m1 + m2 + m3 + m4) h
    ++ u.uses_order (level ∷ []) (n + m0 + m1 + m2 + m3 + m4 + m5) o))))) in
    same_after ts k (l.tables_query (t.Select d es f w g h o p m))
    (λ n. u.uses_query around n (t.Select d es f w g h o p m)) (uses_with own)
    (ap (λ (level : Level). uses_with level (length k.tables)) is)
    ∙ sym (seven ts k (l.tables_distinct d) (l.tables_expressions es) (l.tables_from f) (l.tables_maybe w)
    (l.tables_group g) (l.tables_maybe h) (l.tables_order o)
    (λ n. u.uses_distinct (own ∷ []) n d) (λ n. u.uses_expressions (own ∷ []) n es) (λ n. u.uses_from n f)
    (λ n. u.uses_maybe (own ∷ around) n w) (λ n. u.uses_group (own ∷ []) n g) (λ n. u.uses_maybe (own ∷ []) n h)
    (λ n. u.uses_order (own ∷ []) n o))

-- the clauses as they are walked
pub select_after : (ts : List TableDecl) (around : List Level) (k : Known) (q : t.Query) (d : t.Distinctness)
    (es : t.Expressions) (f : t.MaybeSource) (w : t.MaybeExpression) (g : t.MaybeExpressions) (h : t.MaybeExpression)
    (o : t.MaybeItems) (p : t.Page) (m : t.Lock) (own : Level)
    → q ≡ t.Select d es f w g h o p m → own ≡ own_level (length k.tables) q
    → x.after_query ts around k q
    ≡ x.after_ordered ts (own ∷ []) (x.after_maybe ts (own ∷ []) (x.after_grouped ts (own ∷ [])
    (x.after_maybe ts (own ∷ around) (x.after_from ts (x.after_selected ts (own ∷ [])
    (x.after_distinct ts (own ∷ []) k d) q) f) w) q) h) q
unfolding x.after_query x.after_distinct x.after_selected x.after_from x.after_maybe x.after_grouped x.after_ordered
select_after ts around k q d es f w g h o p m own is level =
    rw is
    (clauses_after ts around k d es f w g h o p m own (sym (level ∙ ap (own_level (length k.tables)) is)))
