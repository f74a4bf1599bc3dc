-- The text of each part of a statement is the text of its part of the normal tree, and its values are those of its part of
-- the filled tree.
use Rattle.std.proofs.Common.{◌≡◌, ℕ, ℤ, suc, ◌+◌, add-one, List, [], ◌∷◌, ◌++◌, length, map, Bool, true, false, Option, Some, None, refl, sym, ap, ◌∙◌, append_assoc, append-nil, codes}
use Rattle.std.specs.Prelude.{decimal}
use Rattle.std.proofs.Math.Dec.{eqb-suc-zero}
use Rattle.sql_schema.specs.declared.declaration.TableDecl.{TableDecl}
use Rattle.sql_schema.specs.declared.types.SqlType.{SqlType}
use Rattle.sql_dialect.specs.Supports.{is_all}
use Rattle.sql_dialect.specs.Written.{quoted, placeholder, raised, numbers}
use Rattle.sql_dialect.specs.declared.backend.Dialect.{Dialect}
use Rattle.sql_dialect.specs.declared.backend.Dialect.TheVariants.{Pg, Mysql, Sqlite, Bracket}
use Rattle.sql_dialect.specs.Syntax.{array}
use Rattle.sql_dialect.specs.declared.syntax.ArrayComparison.{ArrayComparison}
use Rattle.sql_dialect.specs.declared.syntax.ArrayComparison.TheVariants.{AnsiSqlArrayComparison, PgStyleArrayComparison}
use Rattle.sql_dialect.specs.declared.combination.Combinator.{Combinator}
use Rattle.sql_dialect.specs.declared.combination.Combinator.TheVariants.{Union, Intersect, Except}
use Rattle.sql_dialect.specs.declared.combination.DuplicateRule.{DuplicateRule}
use Rattle.sql_dialect.specs.declared.combination.DuplicateRule.TheVariants.{Distinct as DistinctRows, All}
use Rattle.sql_grammar.specs.Numbering.{mark_of, after, each_expression, each_expressions, each_items, each_page, each_sample, each_marks}
use Rattle.sql_grammar.specs.Values.{values_expression, values_expressions, values_items, values_page, values_sample}
use Rattle.sql_grammar.proofs.Numbers.{after-append}
use Rattle.sql_pass.proofs.Laws.{values_of-append}
use Rattle.sql_grammar.specs.Spelling.{sign_text}
use Rattle.sql_grammar.specs.Text as x
use Rattle.sql_grammar.specs.Tree as g
use Rattle.sql_pass.specs.Commas.{commas}
use Rattle.sql_pass.specs.Parts.{pieces_of_option, side_open, from_open}
use Rattle.sql_pass.specs.Paths.{dotted, path_pieces}
use Rattle.sql_pass.specs.Pieces.{Piece, one, Text, Ident, Bind, ValueOnly, Unsafe, text_of, values_of}
use Rattle.sql_pass.specs.declared.value.Bound.{Bound}
use Rattle.sql_pass.specs.declared.value.Bound.TheVariants.{Value as OneValue, List as ManyValues}
use Rattle.sql_pass.specs.declared.value.Value.{Value}
use Rattle.sql_leaf.specs.Limits.{least_limit, largest_limit, fetch_from_the_first, fetch_next, rows_only, limit_pieces, offset_pieces, offset_rows_pieces, fetch_pieces, limit_offset_pieces}
use Rattle.sql_leaf.specs.Locks.{lock_sql, skip_locked, modifier_pieces, locking_pieces}
use Rattle.sql_pass.specs.Bounds.{of_i16, of_i32, of_i64}
use Rattle.sql_leaf.specs.Positions.{direction_pieces, position_pieces}
use Rattle.sql_leaf.specs.Sources.{only_pieces, method_open, repeatable, sample_pieces}
use Rattle.sql_leaf.specs.declared.limit_offset.LimitOffsetClause.{LimitOffsetClause}
use Rattle.sql_leaf.specs.declared.locking.LockMode.{LockMode}
use Rattle.sql_leaf.specs.declared.locking.LockMode.TheVariants as mode
use Rattle.sql_leaf.specs.declared.locking.LockingClause.{LockingClause}
use Rattle.sql_leaf.specs.declared.locking.LockingClause.TheVariants as locking
use Rattle.sql_leaf.specs.declared.locking.Modifier.{Modifier}
use Rattle.sql_leaf.specs.declared.locking.Modifier.TheVariants as modifier
use Rattle.sql_leaf.specs.declared.position.Direction.{Direction}
use Rattle.sql_leaf.specs.declared.position.Direction.TheVariants as direction
use Rattle.sql_leaf.specs.declared.position.PositionalItem.{PositionalItem}
use Rattle.sql_leaf.specs.declared.table_source.JoinKind.{JoinKind}
use Rattle.sql_leaf.specs.declared.table_source.JoinKind.TheVariants.{Inner, LeftOuter}
use Rattle.sql_leaf.specs.declared.table_source.Tablesample.{Tablesample}
use Rattle.sql_leaf.specs.declared.table_source.TablesampleMethod.{TablesampleMethod}
use Rattle.sql_leaf.specs.declared.table_source.TablesampleMethod.TheVariants.{BernoulliMethod, SystemMethod}
use Rattle.sql_node.specs.Pieces as p
use Rattle.sql_leaf.specs.Operators.{comparison_sql, logic_sql, unary_before, unary_after, is_not_null}
use Rattle.sql_leaf.specs.declared.operator.Unary.{Unary}
use Rattle.sql_leaf.specs.declared.operator.Unary.TheVariants.{Not, IsNull, IsNotNull}
use Rattle.sql_leaf.specs.declared.operator.Comparison.{Comparison}
use Rattle.sql_leaf.specs.declared.operator.Comparison.TheVariants.{Eq, Ne, Lt, Le, Gt, Ge}
use Rattle.sql_leaf.specs.declared.operator.Logic.{Logic}
use Rattle.sql_leaf.specs.declared.operator.Logic.TheVariants.{And, Or}
use Rattle.sql_leaf.specs.Words.{among_sql, constant_sql, join_sql, combinator_sql, order_by_sql, group_by, distinct_on_open}
use Rattle.sql_node.specs.Pieces.{Written, alone, many, each, spread, expr_parts, pieces, origin_pieces, values_pieces, positions_pieces, all_pieces, end_pieces}
use Rattle.sql_node.specs.Tree.{Form, unboxed, boxed, Expr}
use Rattle.sql_normal.specs.Filled as f
use Rattle.sql_normal.specs.Filled.{lead, expressions_of, expressions_from, trees, normal, Item, items_from, first_name, more_names, column_path}
use Rattle.sql_normal.specs.Words as words
use Rattle.sql_normal.specs.inside.HasText.{IsSingle, PageHasText, PlacesHaveText, is_boxed}
use Rattle.sql_normal.proofs.Lists.{NotEmpty, IsAlone, is-alone}

-- where placeholders have no numbers they are all alike, and how many stand before says nothing
pub same-place : (d : Dialect) → numbers d ≡ false → (n m : ℕ) → placeholder d n ≡ placeholder d m
same-place Pg h n m = cc
same-place Mysql h n m = refl
same-place Sqlite h n m = refl
same-place Bracket h n m = cc

pub any-count : (d : Dialect) → numbers d ≡ false → (ps : List Piece) (n m : ℕ) → text_of d n ps ≡ text_of d m ps
any-count d h [] n m = refl
any-count d h (Text t ∷ ps) n m = ap (λ r. t ++ r) (any-count d h ps n m)
any-count d h (Ident a ∷ ps) n m = ap (λ r. quoted d a ++ r) (any-count d h ps n m)
any-count d h (Bind b ∷ ps) n m =
    let place = same-place d h (n + 1) (m + 1) in
    let rest = any-count d h ps (raised d n) (raised d m) in
    λ i. place i ++ rest i
any-count d h (ValueOnly b ∷ ps) n m = any-count d h ps (raised d n) (raised d m)
any-count d h (Unsafe ∷ ps) n m = any-count d h ps n m

pub place-text : (d : Dialect) (n : ℕ) (b : Bound) (more : List Piece)
    → text_of d n (one (Bind b) ++ more) ≡ x.mark d (mark_of d n) (text_of d (suc n) more)
unfolding one x.mark
place-text Pg n b more = ap (λ k. 36 ∷ (decimal k ++ text_of Pg k more)) (add-one n)
place-text Mysql n b more = ap (λ l. 63 ∷ l) (any-count Mysql refl more n (suc n))
place-text Sqlite n b more = ap (λ l. 63 ∷ l) (any-count Sqlite refl more n (suc n))
place-text Bracket n b more = ap (λ k. 64 ∷ (112 ∷ (decimal k ++ text_of Bracket k more))) (add-one n)

module _ (d : Dialect) where
  abbrev pub mark : ℕ → Bound → g.Mark
  mark n b = mark_of d n

  -- After n placeholders the pieces have the text that put writes before what follows, and these are their values.
  pub record Writes (ps : List Piece) (put : ℕ → List ℕ → List ℕ) (vs : List Bound) : Type 0 where
    pub says : (n : ℕ) (more : List Piece) → text_of d n (ps ++ more) ≡ put n (text_of d (after n vs) more)
    pub has : values_of ps ≡ vs

  both-have : (ps qs : List Piece) {vs ws : List Bound} → values_of ps ≡ vs → values_of qs ≡ ws
      → values_of (ps ++ qs) ≡ vs ++ ws
  both-have ps qs {vs} h k =
      values_of-append ps qs ∙ ap (λ x. x ++ values_of qs) h ∙ ap (λ x. vs ++ x) k

  pub then-text : {ps qs : List Piece} {f g : ℕ → List ℕ → List ℕ} {vs ws : List Bound} → Writes ps f vs
      → Writes qs g ws
      → Writes (ps ++ qs) (λ n r. f n (g (after n vs) r)) (vs ++ ws)
  then-text {ps} {qs} {f} {g} {vs} {ws} h k =
      record {
        says =
            λ n more. ap (text_of d n) (append_assoc ps qs more) ∙ h.says n (qs ++ more)
            ∙ ap (f n) (k.says (after n vs) more
            ∙ ap (λ m. g (after n vs) (text_of d m more)) (sym (after-append n vs ws)));
        has = both-have ps qs h.has k.has;
      }

  -- pieces without values come after
  pub then-none : {ps qs : List Piece} {f g : ℕ → List ℕ → List ℕ} {vs : List Bound} → Writes ps f vs
      → Writes qs g []
      → Writes (ps ++ qs) (λ n r. f n (g (after n vs) r)) vs
  then-none {ps} {qs} {f} {g} {vs} h k =
      record {
        says =
            λ n more. ap (text_of d n) (append_assoc ps qs more) ∙ h.says n (qs ++ more)
            ∙ ap (f n) (k.says (after n vs) more);
        has = both-have ps qs h.has k.has ∙ append-nil vs;
      }

  -- brackets to the left are brackets to the right
  pub regrouped-text : (ps qs rs : List Piece) {f : ℕ → List ℕ → List ℕ} {vs : List Bound}
      → Writes (ps ++ (qs ++ rs)) f vs
      → Writes ((ps ++ qs) ++ rs) f vs
  regrouped-text ps qs rs h =
      record {
        says = λ n more. ap (λ q. text_of d n (q ++ more)) (append_assoc ps qs rs) ∙ h.says n more;
        has = ap values_of (append_assoc ps qs rs) ∙ h.has;
      }

  pub sql-text : (t : List ℕ) → Writes (one (Text t)) (λ n r. t ++ r) []
  unfolding one
  sql-text t = record { says = λ n more. refl; has = refl }

  pub comma-text : (q rs : List Piece) {f : ℕ → List ℕ → List ℕ} {vs : List Bound} → Writes (q ++ rs) f vs
      → Writes ((one (Text (codes ", ")) ++ q) ++ rs) (λ n r. codes ", " ++ f n r) vs
  comma-text q rs h = regrouped-text (one (Text (codes ", "))) q rs (then-text (sql-text (codes ", ")) h)

  pub no-text : Writes [] (λ n r. r) []
  no-text = record { says = λ n more. refl; has = refl }

  pub name-text : (a : List ℕ) → Writes (one (Ident a)) (λ n r. quoted d a ++ r) []
  unfolding one
  name-text a = record { says = λ n more. refl; has = refl }

  pub unsafe-text : Writes (one Unsafe) (λ n r. r) []
  unfolding one
  unsafe-text = record { says = λ n more. refl; has = refl }

  pub bind-text : (b : Bound) → Writes (one (Bind b)) (λ n r. x.mark d (mark_of d n) r) (b ∷ [])
  unfolding one
  bind-text b = record { says = λ n more. place-text d n b more; has = refl }

  -- the same pieces with nothing after them
  pub last-text : {ps : List Piece} {f : ℕ → List ℕ → List ℕ} {vs : List Bound} → Writes ps f vs
      → Writes (ps ++ []) f vs
  last-text {ps} h =
      record {
        says = λ n more. ap (λ q. text_of d n (q ++ more)) (append-nil ps) ∙ h.says n more;
        has = ap values_of (append-nil ps) ∙ h.has;
      }

  -- ## Lists of expressions

  abbrev pub ExprText : List Piece → g.Expression Bound → Type 0
  ExprText ps t = Writes ps (λ n r. x.expression d (each_expression mark n t) r) (values_expression t)

  abbrev pub EachText : List (List Piece) → List (g.Expression Bound) → Type 0
  EachText [] [] = Unit {0}
  EachText (ps ∷ pss) (t ∷ ts) = ExprText ps t × EachText pss ts
  EachText _ _ = ⊥

  pub append-text : (pss qss : List (List Piece)) (ts us : List (g.Expression Bound)) → EachText pss ts → EachText qss us
      → EachText (pss ++ qss) (ts ++ us)
  append-text [] qss [] us h k = k
  append-text [] qss (t ∷ ts) us h k = absurd h
  append-text (ps ∷ pss) qss [] us h k = absurd h
  append-text (ps ∷ pss) qss (t ∷ ts) us h k = (h.0, append-text pss qss ts us h.1 k)

  pub alone-text : (q : Written) (ts : List (g.Expression Bound)) → IsAlone d q → EachText (each q) ts
      → ExprText (spread true q) (lead ts)
  alone-text (alone ps) [] a h = absurd h
  alone-text (alone ps) (t ∷ ts) a h = h.0
  alone-text (many pss) ts a h = absurd a

  pub lead-text : (e : Expr) → IsSingle e → EachText (each (expr_parts d e)) (trees d e)
      → ExprText (spread true (expr_parts d e)) (lead (trees d e))
  lead-text e o h = alone-text (expr_parts d e) (trees d e) (is-alone d e o) h

  pub list-text : (ps : List Piece) (more : List (List Piece)) (t : g.Expression Bound) (ts : List (g.Expression Bound))
      → ExprText ps t → EachText more ts
      → Writes (commas true (ps ∷ more)) (λ n r. x.expressions d (each_expressions mark n (expressions_from t ts)) r)
      (values_expressions (expressions_from t ts))
  unfolding x.expressions
  list-text ps [] t [] h k = let e = last-text h in record { says = λ n more. e.says n more; has = e.has }
  list-text ps [] t (u ∷ us) h k = absurd k
  list-text ps (q ∷ qs) t [] h k = absurd k
  list-text ps (q ∷ qs) t (u ∷ us) h k =
      let e = then-text h (comma-text q (commas false qs) (list-text q qs u us k.0 k.1)) in
      record { says = λ n more. e.says n more; has = e.has }

  -- the elements of a list that has some
  pub elements-text : (q : Written) (ts : List (g.Expression Bound)) → NotEmpty (each q) → EachText (each q) ts
      → Writes (spread true q) (λ n r. x.expressions d (each_expressions mark n (expressions_of ts)) r)
      (values_expressions (expressions_of ts))
  unfolding x.expressions
  elements-text (alone ps) [] l h = absurd h
  elements-text (alone ps) (t ∷ []) l h = let e = h.0 in record { says = λ n more. e.says n more; has = e.has }
  elements-text (alone ps) (t ∷ u ∷ us) l h = absurd h.1
  elements-text (many []) ts l h = absurd l
  elements-text (many (q ∷ qs)) [] l h = absurd h
  elements-text (many (q ∷ qs)) (t ∷ ts) l h = list-text q qs t ts h.0 h.1

  unfoldable pub ItemText : List Piece → Item → Type 0
  ItemText ps i =
      Writes ps (λ n r. x.expression d (each_expression mark n i.0) (x.direction i.1 r)) (values_expression i.0)

  unfoldable pub ItemsText : List (List Piece) → List Item → Type 0
  ItemsText [] [] = Unit {0}
  ItemsText (ps ∷ pss) (i ∷ is) = ItemText ps i × ItemsText pss is
  ItemsText _ _ = ⊥

  pub items-text : (ps : List Piece) (more : List (List Piece)) (i : Item) (is : List Item) → ItemText ps i
      → ItemsText more is
      → Writes (commas true (ps ∷ more)) (λ n r. x.items d (each_items mark n (items_from i is)) r)
      (values_items (items_from i is))
  unfolding x.items ItemText ItemsText
  items-text ps [] i [] h k = let e = last-text h in record { says = λ n more. e.says n more; has = e.has }
  items-text ps [] i (u ∷ us) h k = absurd k
  items-text ps (q ∷ qs) i [] h k = absurd k
  items-text ps (q ∷ qs) i (u ∷ us) h k =
      let e = then-text h (comma-text q (commas false qs) (items-text q qs u us k.0 k.1)) in
      record { says = λ n more. e.says n more; has = e.has }

  -- ## Words

  pub comparison-text : (by : Comparison)
      → Writes (one (Text (comparison_sql by)))
      (λ n r. codes " " ++ sign_text (words.comparison_of by) (codes " " ++ r)) []
  unfolding sign_text one
  comparison-text Eq = record { says = λ n more. refl; has = refl }
  comparison-text Ne = record { says = λ n more. refl; has = refl }
  comparison-text Lt = record { says = λ n more. refl; has = refl }
  comparison-text Le = record { says = λ n more. refl; has = refl }
  comparison-text Gt = record { says = λ n more. refl; has = refl }
  comparison-text Ge = record { says = λ n more. refl; has = refl }

  pub logic-text : (by : Logic) → Writes (one (Text (logic_sql by))) (λ n r. x.logic (words.logic_of by) r) []
  unfolding x.logic one
  logic-text And = record { says = λ n more. refl; has = refl }
  logic-text Or = record { says = λ n more. refl; has = refl }

  pub direction-text : (by : Direction)
      → Writes (direction_pieces by) (λ n r. x.direction (words.direction_of by) r) []
  unfolding x.direction one
  direction-text direction.None = record { says = λ n more. refl; has = refl }
  direction-text direction.Asc = record { says = λ n more. refl; has = refl }
  direction-text direction.Desc = record { says = λ n more. refl; has = refl }

  pub kind-text : (k : JoinKind) → Writes (one (Text (join_sql k))) (λ n r. x.kind (words.kind_of k) r) []
  unfolding x.kind one
  kind-text Inner = record { says = λ n more. refl; has = refl }
  kind-text LeftOuter = record { says = λ n more. refl; has = refl }

  pub combinator-text : (by : Combinator)
      → Writes (one (Text (combinator_sql by))) (λ n r. x.operator (words.operator_of by) r) []
  unfolding x.operator one
  combinator-text Union = record { says = λ n more. refl; has = refl }
  combinator-text Intersect = record { says = λ n more. refl; has = refl }
  combinator-text Except = record { says = λ n more. refl; has = refl }

  pub all-text : (all : DuplicateRule) → Writes (all_pieces all) (λ n r. x.all_word (is_all all) r) []
  unfolding x.all_word one
  all-text All = record { says = λ n more. refl; has = refl }
  all-text DistinctRows = record { says = λ n more. refl; has = refl }

  pub only-text : (only : Bool) → Writes (only_pieces only) (λ n r. x.only only r) []
  unfolding x.only one
  only-text true = record { says = λ n more. refl; has = refl }
  only-text false = record { says = λ n more. refl; has = refl }

  pub mode-text : (m : LockMode) → Writes (one (Text (lock_sql m))) (λ n r. x.mode (words.mode_of m) r) []
  unfolding x.mode one
  mode-text mode.ForUpdate = record { says = λ n more. refl; has = refl }
  mode-text mode.ForNoKeyUpdate = record { says = λ n more. refl; has = refl }
  mode-text mode.ForShare = record { says = λ n more. refl; has = refl }
  mode-text mode.ForKeyShare = record { says = λ n more. refl; has = refl }

  pub wait-text : (w : Modifier) → Writes (modifier_pieces w) (λ n r. x.wait (words.wait_of w) r) []
  unfolding x.wait one skip_locked
  wait-text modifier.NoModifier = record { says = λ n more. refl; has = refl }
  wait-text modifier.SkipLocked = record { says = λ n more. refl; has = refl }
  wait-text modifier.NoWait = record { says = λ n more. refl; has = refl }

  pub lock-text : (l : LockingClause) → Writes (locking_pieces l) (λ n r. x.lock (words.lock_of l) r) []
  unfolding x.lock
  lock-text locking.NoLockingClause = no-text
  lock-text (locking.LockingClause m w) =
      let h = then-text (mode-text m) (wait-text w) in record { says = λ n more. h.says n more; has = h.has }

  pub method-text : (m : TablesampleMethod)
      → Writes (one (Text (method_open m))) (λ n r. x.method (words.method_of m) r) []
  unfolding x.method one
  method-text BernoulliMethod = record { says = λ n more. refl; has = refl }
  method-text SystemMethod = record { says = λ n more. refl; has = refl }

  pub repeatable-text : Writes (one (Text repeatable)) (λ n r. codes " REPEATABLE(" ++ r) []
  unfolding one repeatable
  repeatable-text = record { says = λ n more. refl; has = refl }

  pub order_by-text : Writes (one (Text order_by_sql)) (λ n r. codes " ORDER BY " ++ r) []
  unfolding one order_by_sql
  order_by-text = record { says = λ n more. refl; has = refl }

  pub group_by-text : Writes (one (Text group_by)) (λ n r. codes " GROUP BY " ++ r) []
  unfolding one group_by
  group_by-text = record { says = λ n more. refl; has = refl }

  pub distinct_on-text : Writes (one (Text distinct_on_open)) (λ n r. codes "DISTINCT ON (" ++ r) []
  unfolding one distinct_on_open
  distinct_on-text = record { says = λ n more. refl; has = refl }

  pub least-text : Writes (one (Text least_limit)) (λ n r. codes " LIMIT -1 " ++ r) []
  unfolding one least_limit
  least-text = record { says = λ n more. refl; has = refl }

  pub largest-text : Writes (one (Text largest_limit)) (λ n r. codes " LIMIT 18446744073709551615 " ++ r) []
  unfolding one largest_limit
  largest-text = record { says = λ n more. refl; has = refl }

  pub constant-text : (b : Bool) → Writes (one (Text (constant_sql b))) (λ n r. x.constant b r) []
  unfolding x.constant one
  constant-text true = record { says = λ n more. refl; has = refl }
  constant-text false = record { says = λ n more. refl; has = refl }

  -- ## Names

  pub path-text : (schema : Option (List ℕ)) (name : List ℕ)
      → Writes (path_pieces schema name) (λ n r. x.names d (first_name schema name) (more_names schema name []) r)
      []
  unfolding x.names
  path-text None name = let h = name-text name in record { says = λ n more. h.says n more; has = h.has }
  path-text (Some s) name =
      let h = then-text (name-text s) (then-text (sql-text (codes ".")) (name-text name)) in
      record { says = λ n more. h.says n more; has = h.has }

  pub in_path-text : (schema : Option (List ℕ)) (name c : List ℕ)
      → Writes (path_pieces schema name ++ dotted c)
      (λ n r. x.names d (first_name schema name) (more_names schema name (c ∷ [])) r) []
  unfolding x.names
  in_path-text None name c =
      let h = then-text (name-text name) (then-text (sql-text (codes ".")) (name-text c)) in
      record { says = λ n more. h.says n more; has = h.has }
  in_path-text (Some s) name c =
      let h =
      then-text (then-text (name-text s) (then-text (sql-text (codes ".")) (name-text name)))
      (then-text (sql-text (codes ".")) (name-text c)) in
      record { says = λ n more. h.says n more; has = h.has }

  pub column-text : (alias : Option (List ℕ)) (t : TableDecl) (c : List ℕ)
      → ExprText (origin_pieces alias t ++ dotted c) (column_path alias t c)
  unfolding x.expression x.names
  column-text None t c = let h = in_path-text t.schema t.sql_name c in record { says = λ n more. h.says n more; has = h.has }
  column-text (Some a) t c =
      let h = then-text (name-text a) (then-text (sql-text (codes ".")) (name-text c)) in
      record { says = λ n more. h.says n more; has = h.has }

  -- ## Values

  pub values-text : (t : SqlType) (v : Value) (vs : List Value)
      → Writes (values_pieces t (v ∷ vs))
      (λ n r. x.marks d (mark n (OneValue t v)) (each_marks mark (suc n) (map (OneValue t) vs)) r)
      (OneValue t v ∷ map (OneValue t) vs)
  unfolding x.marks
  values-text t v [] = let h = last-text (bind-text (OneValue t v)) in record { says = λ n more. h.says n more; has = h.has }
  values-text t v (z ∷ zs) =
      let h =
      then-text (bind-text (OneValue t v))
      (comma-text (one (Bind (OneValue t z))) (commas false (map (λ v. one (Bind (OneValue t v))) zs))
      (values-text t z zs)) in
      record { says = λ n more. h.says n more; has = h.has }

  pub seed-text : (m : TablesampleMethod) (portion : ℤ) (seed : Option ℤ) (s : Option Tablesample)
      → s ≡ Some (record { method = m; portion = portion; seed = seed })
      → Writes (pieces_of_option sample_pieces s) (λ n r. x.sample d (each_sample mark n (f.sample_of s)) r)
      (values_sample (f.sample_of s))
  unfolding x.sample x.seed
  seed-text m portion None s e =
      rw e (let h =
      then-text (method-text m)
      (then-text (bind-text (of_i16 portion)) (then-text (sql-text (codes ")")) no-text)) in
      record { says = λ n more. h.says n more; has = h.has })
  seed-text m portion (Some z) s e =
      rw e (let h =
      then-text (method-text m)
      (then-text (bind-text (of_i16 portion))
      (then-text (sql-text (codes ")"))
      (then-text repeatable-text (then-none (bind-text (of_i32 z)) (sql-text (codes ")")))))) in
      record { says = λ n more. h.says n more; has = h.has })

  pub sample-text : (s : Option Tablesample)
      → Writes (pieces_of_option sample_pieces s) (λ n r. x.sample d (each_sample mark n (f.sample_of s)) r)
      (values_sample (f.sample_of s))
  unfolding x.sample
  sample-text None = no-text
  sample-text (Some s) = seed-text s.method s.portion s.seed (Some s) refl

  pub place-list-text : (p : PositionalItem) (ps : List PositionalItem)
      → Writes (commas true (map (λ p. position_pieces p.column p.direction) (p ∷ ps)))
      (λ n r. x.places (f.places_from p ps) r) []
  unfolding x.places
  place-list-text p [] =
      let h = last-text (then-text (sql-text (decimal p.column.0)) (direction-text p.direction)) in
      record { says = λ n more. h.says n more; has = h.has }
  place-list-text p (q ∷ qs) =
      let h = then-text (then-text (sql-text (decimal p.column.0)) (direction-text p.direction))
      (comma-text (position_pieces q.column q.direction)
      (commas false (map (λ p. position_pieces p.column p.direction) qs)) (place-list-text q qs))
      in
      record { says = λ n more. h.says n more; has = h.has }

  pub places-text : (o : Option (List PositionalItem)) → PlacesHaveText o
      → Writes (positions_pieces o) (λ n r. x.by_places (f.places_of o) r) []
  unfolding x.by_places
  places-text None k = no-text
  places-text (Some []) k = absurd k
  places-text (Some (p ∷ ps)) k =
      let h = then-text order_by-text (place-list-text p ps) in record { says = λ n more. h.says n more; has = h.has }

-- ## What the dialects write differently

pub among-text : (d : Dialect) (negated : Bool)
    → Writes d (one (Text (among_sql d negated))) (λ k r. x.among d negated r) []
unfolding x.among one
among-text Pg true = record { says = λ n more. refl; has = refl }
among-text Pg false = record { says = λ n more. refl; has = refl }
among-text Mysql true = record { says = λ n more. refl; has = refl }
among-text Mysql false = record { says = λ n more. refl; has = refl }
among-text Sqlite true = record { says = λ n more. refl; has = refl }
among-text Sqlite false = record { says = λ n more. refl; has = refl }
among-text Bracket true = record { says = λ n more. refl; has = refl }
among-text Bracket false = record { says = λ n more. refl; has = refl }

pub side_open-text : (d : Dialect) → Writes d (one (Text (side_open d))) (λ k r. x.side_open d r) []
unfolding x.side_open one side_open from_open
side_open-text Pg = record { says = λ n more. refl; has = refl }
side_open-text Mysql = record { says = λ n more. refl; has = refl }
side_open-text Sqlite = record { says = λ n more. refl; has = refl }
side_open-text Bracket = record { says = λ n more. refl; has = refl }

pub one_by_one-text : (d : Dialect) (negated : Bool) (ps : List Piece) (t : g.Expression Bound) (ty : SqlType)
    (vs : List Value)
    → ExprText d ps t
    → ExprText d (p.one_by_one d negated ps ty vs) (f.one_by_one negated t (map (OneValue ty) vs))
unfolding x.expression
one_by_one-text d negated ps t ty [] h =
    let e = then-text d (unsafe-text d) (constant-text d negated) in record { says = λ n more. e.says n more; has = e.has }
one_by_one-text d negated ps t ty (v ∷ vs) h =
    rw (eqb-suc-zero (length vs)) (let e =
    then-text d (unsafe-text d)
    (then-text d (then-text d (sql-text d (codes "(")) (then-none d h (among-text d negated)))
    (then-none d (values-text d ty v vs) (sql-text d (codes "))")))) in
    record { says = λ n more. e.says n more; has = e.has })

among_as-text : (by : ArrayComparison) (d : Dialect) (negated : Bool) (ps : List Piece) (t : g.Expression Bound)
    (ty : SqlType) (vs : List Value)
    → ExprText d ps t
    → ExprText d (p.among_as by d negated ps ty vs) (f.among_as by negated t (ManyValues ty vs) (map (OneValue ty) vs))
unfolding x.expression x.marks
among_as-text PgStyleArrayComparison d negated ps t ty vs h =
    let e =
    then-text d (then-text d (sql-text d (codes "(")) (then-none d h (among-text d negated)))
    (then-none d (bind-text d (ManyValues ty vs)) (sql-text d (codes "))"))) in
    record { says = λ n more. e.says n more; has = e.has }
among_as-text AnsiSqlArrayComparison d negated ps t ty vs h = one_by_one-text d negated ps t ty vs h

pub unary-text : (d : Dialect) (u : Unary) (ps : List Piece) (t : g.Expression Bound) → ExprText d ps t
    → ExprText d (p.around (unary_before u) ps (unary_after u)) (words.unary_tree u t)
unfolding x.expression x.null_test is_not_null
unary-text d Not ps t h =
    let e = then-text d (sql-text d (codes "NOT (")) (then-none d h (sql-text d (codes ")"))) in
    record { says = λ n more. e.says n more; has = e.has }
unary-text d IsNull ps t h =
    let e = then-text d (sql-text d (codes "(")) (then-none d h (sql-text d (codes " IS NULL)"))) in
    record { says = λ n more. e.says n more; has = e.has }
unary-text d IsNotNull ps t h =
    let e = then-text d (sql-text d (codes "(")) (then-none d h (sql-text d is_not_null)) in
    record { says = λ n more. e.says n more; has = e.has }

pub membership-text : (d : Dialect) (negated : Bool) (ps : List Piece) (t : g.Expression Bound) (ty : SqlType)
    (vs : List Value)
    → ExprText d ps t
    → ExprText d (p.among_pieces d negated ps ty vs) (f.among d negated t (ManyValues ty vs) (map (OneValue ty) vs))
membership-text d negated ps t ty vs h = among_as-text (array d) d negated ps t ty vs h

pub limit-text : (d : Dialect) (l : ℤ)
    → Writes d (limit_pieces l) (λ n r. codes " LIMIT " ++ x.mark d (mark_of d n) r) (of_i64 l ∷ [])
limit-text d l =
    let h = then-text d (sql-text d (codes " LIMIT ")) (bind-text d (of_i64 l)) in
    record { says = λ n more. h.says n more; has = h.has }

pub offset-text : (d : Dialect) (o : ℤ)
    → Writes d (offset_pieces o) (λ n r. codes " OFFSET " ++ x.mark d (mark_of d n) r) (of_i64 o ∷ [])
offset-text d o =
    let h = then-text d (sql-text d (codes " OFFSET ")) (bind-text d (of_i64 o)) in
    record { says = λ n more. h.says n more; has = h.has }

pub both-text : (d : Dialect) (l o : ℤ)
    → Writes d (limit_pieces l ++ offset_pieces o)
    (λ n r. codes " LIMIT " ++ x.mark d (mark_of d n) (codes " OFFSET " ++ x.mark d (mark_of d (suc n)) r))
    (of_i64 l ∷ of_i64 o ∷ [])
both-text d l o = let h = then-text d (limit-text d l) (offset-text d o) in record { says = λ n more. h.says n more; has = h.has }

pub offset_rows-text : (d : Dialect) (o : ℤ)
    → Writes d (offset_rows_pieces o) (λ n r. codes " OFFSET " ++ x.mark d (mark_of d n) (codes " ROWS" ++ r)) (of_i64 o ∷ [])
offset_rows-text d o =
    let h =
    then-text d (sql-text d (codes " OFFSET ")) (then-none d (bind-text d (of_i64 o)) (sql-text d (codes " ROWS"))) in
    record { says = λ n more. h.says n more; has = h.has }

pub rows_only-text : (d : Dialect) → Writes d (one (Text rows_only)) (λ n r. codes " ROWS ONLY" ++ r) []
unfolding one rows_only
rows_only-text d = record { says = λ n more. refl; has = refl }

-- the number of rows to fetch, after the words before it
fetch-text : (d : Dialect) (t : List ℕ) (l : ℤ)
    → Writes d (fetch_pieces t l) (λ n r. t ++ x.mark d (mark_of d n) (codes " ROWS ONLY" ++ r)) (of_i64 l ∷ [])
fetch-text d t l =
    let h = then-text d (sql-text d t) (then-none d (bind-text d (of_i64 l)) (rows_only-text d)) in
    record { says = λ n more. h.says n more; has = h.has }

pub page-text : (d : Dialect) (boxed : Bool) (l o : Option ℤ) → PageHasText d boxed l o
    → Writes d (limit_offset_pieces d boxed l o) (λ n r. x.page d (each_page (mark d) n (f.page_of d l o)) r)
    (values_page (f.page_of d l o))
unfolding x.page x.fetch fetch_from_the_first fetch_next
page-text Pg b None None h = no-text Pg
page-text Mysql b None None h = no-text Mysql
page-text Sqlite b None None h = no-text Sqlite
page-text Bracket b None None h = no-text Bracket
page-text Pg b None (Some o) h = let e = offset-text Pg o in record { says = λ n more. e.says n more; has = e.has }
page-text Sqlite b None (Some o) h =
    let e = then-text Sqlite (least-text Sqlite) (offset-text Sqlite o) in record { says = λ n more. e.says n more; has = e.has }
page-text Mysql false None (Some o) h = absurd h
page-text Mysql true None (Some o) h =
    let e = then-text Mysql (largest-text Mysql) (offset-text Mysql o) in record { says = λ n more. e.says n more; has = e.has }
page-text Bracket b None (Some o) h = let e = offset_rows-text Bracket o in record { says = λ n more. e.says n more; has = e.has }
page-text Pg b (Some l) None h = let e = limit-text Pg l in record { says = λ n more. e.says n more; has = e.has }
page-text Mysql b (Some l) None h = let e = limit-text Mysql l in record { says = λ n more. e.says n more; has = e.has }
page-text Sqlite b (Some l) None h = let e = limit-text Sqlite l in record { says = λ n more. e.says n more; has = e.has }
page-text Bracket b (Some l) None h =
    let e = fetch-text Bracket fetch_from_the_first l in record { says = λ n more. e.says n more; has = e.has }
page-text Pg b (Some l) (Some o) h = let e = both-text Pg l o in record { says = λ n more. e.says n more; has = e.has }
page-text Mysql b (Some l) (Some o) h = let e = both-text Mysql l o in record { says = λ n more. e.says n more; has = e.has }
page-text Sqlite b (Some l) (Some o) h = let e = both-text Sqlite l o in record { says = λ n more. e.says n more; has = e.has }
page-text Bracket b (Some l) (Some o) h =
    let e = then-text Bracket (offset_rows-text Bracket o) (fetch-text Bracket fetch_next l) in
    record { says = λ n more. e.says n more; has = e.has }

-- the page and the lock
abbrev pub page_in : Dialect → LimitOffsetClause → g.Page Bound
page_in d rows = f.page_of d rows.limit_clause rows.offset_clause

pub end-text : (d : Dialect) (form : Form) (rows : LimitOffsetClause)
    → PageHasText d (is_boxed form) rows.limit_clause rows.offset_clause
    → Writes d (end_pieces d rows form)
    (λ n r. x.page d (each_page (mark d) n (page_in d rows)) (x.lock (f.lock_in form) r)) (values_page (page_in d rows))
unfolding x.lock
end-text d (unboxed l) rows h =
    let e = then-none d (page-text d false rows.limit_clause rows.offset_clause h) (lock-text d l) in
    record { says = λ n more. e.says n more; has = e.has }
end-text d (boxed b all) rows h =
    let e = page-text d true rows.limit_clause rows.offset_clause h in record { says = λ n more. e.says n more; has = e.has }
