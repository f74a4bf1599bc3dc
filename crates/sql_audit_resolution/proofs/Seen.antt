-- What a node of some variants is seen as.
use Rattle.std.proofs.Common.{◌≡◌, ℕ, Bool, Option, String, string_bytes, rules}
use Rattle.std.specs.declared.boxed.Box.{Box}
use Rattle.std.specs.declared.alloc.Global.{Global}
use Rattle.sql_grammar.specs.MarkTree as t
use Rattle.sql_read_tree.specs.declared.tree.Expression.{Expression, the_lemmas}
use Rattle.sql_read_tree.specs.declared.tree.Expression.TheVariants as E
use Rattle.sql_read_tree.specs.declared.tree.Query.{Query}
use Rattle.sql_read_tree.specs.declared.tree.Source.TheVariants as S
use Rattle.sql_read_tree.specs.declared.words.Sample.{Sample}
use Rattle.sql_read_tree.specs.Path.{Path}
use Rattle.sql_read_tree.specs.View.{expression_tree, query_tree, source_tree, sample_of}

pub path_seen : (p : Path) → expression_tree (E.Path p) ≡ t.Path p.first p.more
path_seen p = search (rules, the_lemmas)

pub placeholder_seen : (m : Option ℕ) → expression_tree (E.Placeholder m) ≡ t.Placeholder m
placeholder_seen m = search (rules, the_lemmas)

pub count_all_seen : expression_tree E.CountAll ≡ t.CountAll
count_all_seen = search (rules, the_lemmas)

pub constant_seen : (b : Bool) → expression_tree (E.Constant b) ≡ t.Constant b
constant_seen b = search (rules, the_lemmas)

pub table_seen : (p : Path) (only : Bool) (s : Sample)
    → source_tree (S.Table p only s) ≡ t.Table p.first p.more only (sample_of s)
table_seen p only s = search (rules, the_lemmas)

pub alias_seen : (p : Path) (a : String Global) → source_tree (S.Alias p a) ≡ t.Alias p.first p.more (string_bytes a)
alias_seen p a = search (rules, the_lemmas)

pub single_seen : (q : Box Query Global) → expression_tree (E.SingleValue q) ≡ t.SingleValue (query_tree q.value)
single_seen q = search (rules, the_lemmas)

pub exists_seen : (q : Box Query Global) → expression_tree (E.Exists q) ≡ t.Exists (query_tree q.value)
exists_seen q = search (rules, the_lemmas)

pub not_seen : (a : Box Expression Global) → expression_tree (E.Not a) ≡ t.Not (expression_tree a.value)
not_seen a = search (rules, the_lemmas)

pub null_test_seen : (negated : Bool) (a : Box Expression Global)
    → expression_tree (E.NullTest negated a) ≡ t.NullTest negated (expression_tree a.value)
null_test_seen negated a = search (rules, the_lemmas)

pub count_seen : (a : Box Expression Global) → expression_tree (E.Count a) ≡ t.Count (expression_tree a.value)
count_seen a = search (rules, the_lemmas)
