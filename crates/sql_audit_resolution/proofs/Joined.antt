-- What is known after two parts of a text, one after the other.
use Rattle.std.proofs.Common.{◌≡◌, ℕ, ◌+◌, List, [], ◌∷◌, ◌++◌, length, map, Bool, refl, sym, ap, ◌∙◌, append_assoc, length-append}
use Rattle.std.proofs.lemmas.List.{append-nil, map-append, length-map}
use Rattle.sql_grammar.specs.MarkTree as t
use Rattle.sql_grammar.specs.MarkTree.{Name}
use Rattle.sql_grammar.specs.Token.{Comparison}
use Rattle.sql_schema.specs.declared.declaration.TableDecl.{TableDecl}
use Rattle.sql_audit_resolution.specs.Leaves as l
use Rattle.sql_audit_resolution.specs.Leaves.{Backwards, Level, backwards}
use Rattle.sql_audit_resolution.specs.Meant.{name_at, meaning, sought}
use Rattle.sql_audit_resolution.specs.Uses as u
use Rattle.sql_audit_resolution.specs.Uses.{Use}
use Rattle.sql_audit_resolution.specs.inside.After as x
use Rattle.sql_audit_resolution.specs.inside.After.{Known, after}

pub nothing : (ts : List TableDecl) (k : Known) → after ts k [] (λ n. []) ≡ k
unfolding after
nothing ts k = simp append-nil

pub joined : (ts : List TableDecl) (k : Known) (xs ys : List Backwards) (f g : ℕ → List Use)
    → after ts (after ts k xs f) ys g ≡ after ts k (xs ++ ys) (λ n. f n ++ g (n + length xs))
unfolding after
joined ts k xs ys f g = simp (append_assoc, map-append, length-append, length-map)

-- it matters alone what the paths are where the next leaf has the number that it has
pub same_after : (ts : List TableDecl) (k : Known) (xs : List Backwards) (f g : ℕ → List Use)
    → f (length k.tables) ≡ g (length k.tables) → after ts k xs f ≡ after ts k xs g
unfolding after
same_after ts k xs f g e =
    ap (λ us. record { tables = k.tables ++ map (name_at ts) xs; meanings = k.meanings ++ map (meaning ts) us }) e

pub three : (ts : List TableDecl) (k : Known) (xs ys zs : List Backwards) (f g h : ℕ → List Use)
    → after ts (after ts (after ts k xs f) ys g) zs h
    ≡ after ts k (xs ++ (ys ++ zs)) (λ n. f n ++ (g (n + length xs) ++ h (n + length xs + length ys)))
three ts k xs ys zs f g h =
    joined ts (after ts k xs f) ys zs g h ∙ joined ts k xs (ys ++ zs) f (λ n. g n ++ h (n + length ys))

pub seven : (ts : List TableDecl) (k : Known) (ps bs cs ds es fs gs : List Backwards) (a b c d e f g : ℕ → List Use)
    → after ts (after ts (after ts (after ts (after ts (after ts (after ts k ps a) bs b) cs c) ds d) es e) fs f) gs g
    ≡ after ts k (ps ++ (bs ++ (cs ++ (ds ++ (es ++ (fs ++ gs))))))
    (λ n. a n ++ (b (n + length ps) ++ (c (n + length ps + length bs)
    ++ (d (n + length ps + length bs + length cs)
    ++ (e (n + length ps + length bs + length cs + length ds)
    ++ (f (n + length ps + length bs + length cs + length ds + length es)
    ++ g (n + length ps + length bs + length cs + length ds + length es + length fs)))))))
seven ts k ps bs cs ds es fs gs a b c d e f g =
    let k1 = after ts k ps a in
    let k2 = after ts k1 bs b in
    let k3 = after ts k2 cs c in
    let k4 = after ts k3 ds d in
    three ts k4 es fs gs e f g
    ∙ joined ts k3 ds (es ++ (fs ++ gs)) d (λ n. e n ++ (f (n + length es) ++ g (n + length es + length fs)))
    ∙ joined ts k2 cs (ds ++ (es ++ (fs ++ gs))) c
    (λ n. d n ++ (e (n + length ds) ++ (f (n + length ds + length es) ++ g (n + length ds + length es + length fs))))
    ∙ joined ts k1 bs (cs ++ (ds ++ (es ++ (fs ++ gs)))) b
    (λ n. c n ++ (d (n + length cs) ++ (e (n + length cs + length ds) ++ (f (n + length cs + length ds + length es)
    ++ g (n + length cs + length ds + length es + length fs)))))
    ∙ joined ts k ps (bs ++ (cs ++ (ds ++ (es ++ (fs ++ gs))))) a
    (λ n. b n ++ (c (n + length bs) ++ (d (n + length bs + length cs) ++ (e (n + length bs + length cs + length ds)
    ++ (f (n + length bs + length cs + length ds + length es)
    ++ g (n + length bs + length cs + length ds + length es + length fs))))))

-- ## Nodes

pub path_after : (ts : List TableDecl) (ls : List Level) (k : Known) (a : Name) (more : List Name)
    → x.after_expression ts ls k (t.Path a more)
    ≡ record k { meanings = k.meanings ++ sought ts (backwards a more) ls ∷ [] }
unfolding x.after_expression after
path_after ts ls k a more = simp append-nil

pub compared_after : (ts : List TableDecl) (ls : List Level) (k : Known) (by : Comparison) (a b : t.Expression)
    → x.after_expression ts ls k (t.Compared by a b)
    ≡ x.after_expression ts ls (x.after_expression ts ls k a) b
unfolding x.after_expression
compared_after ts ls k by a b =
    sym (joined ts k (l.tables_expression a) (l.tables_expression b) (λ n. u.uses_expression ls n a)
    (λ n. u.uses_expression ls n b))

pub connected_after : (ts : List TableDecl) (ls : List Level) (k : Known) (by : t.Logic) (a b : t.Expression)
    → x.after_expression ts ls k (t.Connected by a b)
    ≡ x.after_expression ts ls (x.after_expression ts ls k a) b
unfolding x.after_expression
connected_after ts ls k by a b =
    sym (joined ts k (l.tables_expression a) (l.tables_expression b) (λ n. u.uses_expression ls n a)
    (λ n. u.uses_expression ls n b))

pub in_query_after : (ts : List TableDecl) (ls : List Level) (k : Known) (negated : Bool) (a : t.Expression)
    (q : t.Query) → x.after_expression ts ls k (t.InQuery negated a q)
    ≡ x.after_query ts ls (x.after_expression ts ls k a) q
unfolding x.after_expression x.after_query
in_query_after ts ls k negated a q =
    sym (joined ts k (l.tables_expression a) (l.tables_query q) (λ n. u.uses_expression ls n a)
    (λ n. u.uses_query ls n q))

pub placeholder_after : (ts : List TableDecl) (ls : List Level) (k : Known) (m : t.Mark)
    → x.after_expression ts ls k (t.Placeholder m) ≡ k
unfolding x.after_expression
placeholder_after ts ls k m = nothing ts k

pub count_all_after : (ts : List TableDecl) (ls : List Level) (k : Known)
    → x.after_expression ts ls k t.CountAll ≡ k
unfolding x.after_expression
count_all_after ts ls k = nothing ts k

pub constant_after : (ts : List TableDecl) (ls : List Level) (k : Known) (b : Bool)
    → x.after_expression ts ls k (t.Constant b) ≡ k
unfolding x.after_expression
constant_after ts ls k b = nothing ts k

pub table_after : (ts : List TableDecl) (k : Known) (a : Name) (more : List Name) (only : Bool) (s : t.Sample)
    → x.after_source ts k (t.Table a more only s)
    ≡ record k { tables = k.tables ++ name_at ts (backwards a more) ∷ [] }
unfolding x.after_source after
table_after ts k a more only s = simp append-nil

pub alias_after : (ts : List TableDecl) (k : Known) (a : Name) (more : List Name) (b : Name)
    → x.after_source ts k (t.Alias a more b)
    ≡ record k { tables = k.tables ++ name_at ts (backwards a more) ∷ [] }
unfolding x.after_source after
alias_after ts k a more b = simp append-nil

pub join_after : (ts : List TableDecl) (k : Known) (kind : t.JoinKind) (a b : t.Source) (on : t.Expression)
    (level : Level) → level ≡ l.leaves_source (length k.tables) (t.Join kind a b on)
    → x.after_source ts k (t.Join kind a b on)
    ≡ x.after_expression ts (level ∷ []) (x.after_source ts (x.after_source ts k a) b) on
unfolding x.after_source x.after_expression
join_after ts k kind a b on level is =
    let n1 = length (l.tables_source a) in
    let n2 = length (l.tables_source b) in
    let uses_with : Level → ℕ → List Use =
    λ own n.
    u.uses_source n a ++ (u.uses_source (n + n1) b ++ u.uses_expression (own ∷ []) (n + n1 + n2) on) in
    same_after ts k (l.tables_source (t.Join kind a b on)) (λ n. u.uses_source n (t.Join kind a b on)) (uses_with level)
    (ap (λ (own : Level). uses_with own (length k.tables)) (sym is))
    ∙ sym (three ts k (l.tables_source a) (l.tables_source b) (l.tables_expression on) (λ n. u.uses_source n a)
    (λ n. u.uses_source n b) (λ n. u.uses_expression (level ∷ []) n on))

pub combined_after : (ts : List TableDecl) (ls : List Level) (k : Known) (a : t.Query) (by : t.SetOperator)
    (all : Bool) (b : t.Query) (o : t.MaybePlaces) (p : t.Page)
    → x.after_query ts ls k (t.Combined a by all b o p) ≡ x.after_query ts ls (x.after_query ts ls k a) b
unfolding x.after_query
combined_after ts ls k a by all b o p =
    sym (joined ts k (l.tables_query a) (l.tables_query b) (λ n. u.uses_query ls n a) (λ n. u.uses_query ls n b))

pub single_after : (ts : List TableDecl) (ls : List Level) (k : Known) (q : t.Query)
    → x.after_expression ts ls k (t.SingleValue q) ≡ x.after_query ts ls k q
unfolding x.after_expression x.after_query
single_after ts ls k q = refl

pub exists_after : (ts : List TableDecl) (ls : List Level) (k : Known) (q : t.Query)
    → x.after_expression ts ls k (t.Exists q) ≡ x.after_query ts ls k q
unfolding x.after_expression x.after_query
exists_after ts ls k q = refl

pub not_after : (ts : List TableDecl) (ls : List Level) (k : Known) (a : t.Expression)
    → x.after_expression ts ls k (t.Not a) ≡ x.after_expression ts ls k a
unfolding x.after_expression
not_after ts ls k a = refl

pub null_test_after : (ts : List TableDecl) (ls : List Level) (k : Known) (negated : Bool) (a : t.Expression)
    → x.after_expression ts ls k (t.NullTest negated a) ≡ x.after_expression ts ls k a
unfolding x.after_expression
null_test_after ts ls k negated a = refl

pub count_after : (ts : List TableDecl) (ls : List Level) (k : Known) (a : t.Expression)
    → x.after_expression ts ls k (t.Count a) ≡ x.after_expression ts ls k a
unfolding x.after_expression
count_after ts ls k a = refl

pub in_list_after : (ts : List TableDecl) (ls : List Level) (k : Known) (negated : Bool) (a : t.Expression) (m : t.Mark)
    (ms : List t.Mark) → x.after_expression ts ls k (t.InList negated a m ms) ≡ x.after_expression ts ls k a
unfolding x.after_expression
in_list_after ts ls k negated a m ms = refl

-- ## From nothing

pub first_tables : (ts : List TableDecl) (k : Known) (q : t.Query) → k ≡ record { tables = []; meanings = [] }
    → (x.after_query ts [] k q).tables ≡ map (name_at ts) (l.tables_query q)
unfolding x.after_query after
first_tables ts k q e = ap (λ (j : Known). j.tables ++ map (name_at ts) (l.tables_query q)) e

pub first_meanings : (ts : List TableDecl) (k : Known) (q : t.Query) → k ≡ record { tables = []; meanings = [] }
    → (x.after_query ts [] k q).meanings ≡ map (meaning ts) (u.uses_query [] 0 q)
unfolding x.after_query after
first_meanings ts k q e =
    ap (λ (j : Known). j.meanings ++ map (meaning ts) (u.uses_query [] (length j.tables) q)) e
