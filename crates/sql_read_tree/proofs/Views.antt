-- What a node of some variants is seen as.
use Rattle.std.proofs.Common.{◌≡◌, ℕ, map, Bool, Option, Some, None, rules}
use Rattle.std.specs.declared.boxed.Box.{Box}
use Rattle.std.specs.declared.vec.Vec.{Vec}
use Rattle.std.specs.declared.alloc.Global.{Global}
use Rattle.sql_grammar.specs.MarkTree as t
use Rattle.sql_read_tree.specs.declared.tree.Distinctness.{Distinctness}
use Rattle.sql_read_tree.specs.declared.tree.Distinctness.TheVariants as D
use Rattle.sql_read_tree.specs.declared.tree.Expression.{Expression, the_lemmas}
use Rattle.sql_read_tree.specs.declared.tree.Expression.TheVariants as E
use Rattle.sql_read_tree.specs.declared.tree.Source.TheVariants as S
use Rattle.sql_read_tree.specs.declared.words.Logic.{Logic}
use Rattle.sql_read_tree.specs.declared.words.JoinKind.{JoinKind}
use Rattle.sql_read_lexer.specs.declared.token.Comparison.{Comparison}
use Rattle.sql_read_lexer.specs.View.{comparison_of}
use Rattle.sql_read_tree.specs.declared.tree.Item.{Item}
use Rattle.sql_read_tree.specs.declared.tree.Place.{Place}
use Rattle.sql_read_tree.specs.declared.tree.Query.{Query}
use Rattle.sql_read_tree.specs.declared.tree.Query.TheVariants as Q
use Rattle.sql_read_tree.specs.declared.tree.Source.{Source}
use Rattle.sql_read_tree.specs.declared.words.Lock.{Lock}
use Rattle.sql_read_tree.specs.declared.words.Page.{Page}
use Rattle.sql_read_tree.specs.declared.words.SetOperator.{SetOperator}
use Rattle.sql_read_tree.specs.View.{expressions_of, group_of, order_of, by_places_of, place_of, page_of, lock_of, operator_of, logic_of, kind_of, source_tree, expression_tree, item_tree, distinctness_tree, query_tree, maybe_tree, maybe_source_tree}

pub every_seen : distinctness_tree D.Every ≡ t.Every
every_seen = search (rules, the_lemmas)

pub distinct_seen : distinctness_tree D.Distinct ≡ t.Distinct
distinct_seen = search (rules, the_lemmas)

pub distinct_on_seen : (e : Box Expression Global) (es : Vec Expression Global)
    → distinctness_tree (D.DistinctOn e es)
    ≡ t.DistinctOn (expressions_of (expression_tree e.value) (map expression_tree es.items))
distinct_on_seen e es = search (rules, the_lemmas)

pub combined_seen : (a : Box Query Global) (by : SetOperator) (all : Bool) (b : Box Query Global)
    (o : Vec Place Global) (p : Page)
    → query_tree (Q.Combined a by all b o p)
    ≡ t.Combined (query_tree a.value) (operator_of by) all (query_tree b.value) (by_places_of (map place_of o.items))
    (page_of p)
combined_seen a by all b o p = search (rules, the_lemmas)

pub select_seen : (u : Distinctness) (e : Box Expression Global) (es : Vec Expression Global) (f : Option Source)
    (w : Option Expression) (g : Vec Expression Global) (h : Option Expression) (o : Vec Item Global) (p : Page)
    (l : Lock)
    → query_tree (Q.Select u e es f w g h o p l)
    ≡ t.Select (distinctness_tree u) (expressions_of (expression_tree e.value) (map expression_tree es.items))
    (maybe_source_tree f) (maybe_tree w) (group_of (map expression_tree g.items)) (maybe_tree h)
    (order_of (map item_tree o.items)) (page_of p) (lock_of l)
select_seen u e es None None g None o p l = search (rules, the_lemmas)
select_seen u e es None None g (Some h) o p l = search (rules, the_lemmas)
select_seen u e es None (Some w) g None o p l = search (rules, the_lemmas)
select_seen u e es None (Some w) g (Some h) o p l = search (rules, the_lemmas)
select_seen u e es (Some f) None g None o p l = search (rules, the_lemmas)
select_seen u e es (Some f) None g (Some h) o p l = search (rules, the_lemmas)
select_seen u e es (Some f) (Some w) g None o p l = search (rules, the_lemmas)
select_seen u e es (Some f) (Some w) g (Some h) o p l = search (rules, the_lemmas)

pub compared_seen : (by : Comparison) (a b : Box Expression Global)
    → expression_tree (E.Compared by a b)
    ≡ t.Compared (comparison_of by) (expression_tree a.value) (expression_tree b.value)
compared_seen by a b = search (rules, the_lemmas)

pub connected_seen : (by : Logic) (a b : Box Expression Global)
    → expression_tree (E.Connected by a b)
    ≡ t.Connected (logic_of by) (expression_tree a.value) (expression_tree b.value)
connected_seen by a b = search (rules, the_lemmas)

pub in_list_seen : (k : Bool) (a : Box Expression Global) (m : Option ℕ) (ms : Vec (Option ℕ) Global)
    → expression_tree (E.InList k a m ms) ≡ t.InList k (expression_tree a.value) m ms.items
in_list_seen k a m ms = search (rules, the_lemmas)

pub in_query_seen : (k : Bool) (a : Box Expression Global) (q : Box Query Global)
    → expression_tree (E.InQuery k a q) ≡ t.InQuery k (expression_tree a.value) (query_tree q.value)
in_query_seen k a q = search (rules, the_lemmas)

pub join_seen : (k : JoinKind) (a b : Box Source Global) (e : Box Expression Global)
    → source_tree (S.Join k a b e)
    ≡ t.Join (kind_of k) (source_tree a.value) (source_tree b.value) (expression_tree e.value)
join_seen k a b e = search (rules, the_lemmas)
