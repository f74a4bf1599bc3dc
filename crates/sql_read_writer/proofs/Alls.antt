-- A list fits where each of its elements does.
use Rattle.std.proofs.Common.{◌↔◌, ◌≡◌, List, [], ◌∷◌, Bool}
use Rattle.sql_dialect.specs.declared.backend.Dialect.{Dialect}
use Rattle.sql_grammar.specs.MarkTree as t
use Rattle.sql_grammar.specs.Fits as f
use Rattle.sql_read_tree.specs.View.{Ordered, Placed, expressions_of, group_of, items_of, order_of, places_of, by_places_of}
use Rattle.sql_read_writer.specs.All as all

pub expressions_fit : (d : Dialect) (e : t.Expression) (es : List t.Expression)
    → f.FitsExpressions d (expressions_of e es) ↔ (f.FitsExpression d e × all.Expressions d es)
unfolding f.FitsExpression
expressions_fit d e [] = (λ h. (h, tt), λ h. h.0)
expressions_fit d e (x ∷ es) =
    let more = expressions_fit d x es in (λ h. (h.0, more.0 h.1), λ h. (h.0, more.1 h.1))

pub group_fits : (d : Dialect) (es : List t.Expression) → f.FitsMaybeExpressions d (group_of es) ↔ all.Expressions d es
unfolding f.FitsExpression
group_fits d [] = (λ h. tt, λ h. tt)
group_fits d (e ∷ es) = expressions_fit d e es

pub items_fit : (d : Dialect) (i : Ordered) (is : List Ordered)
    → f.FitsItems d (items_of i is) ↔ (f.FitsExpression d i.0 × all.Items d is)
unfolding f.FitsExpression
items_fit d i [] = (λ h. (h, tt), λ h. h.0)
items_fit d i (x ∷ is) = let more = items_fit d x is in (λ h. (h.0, more.0 h.1), λ h. (h.0, more.1 h.1))

pub order_fits : (d : Dialect) (is : List Ordered) → f.FitsMaybeItems d (order_of is) ↔ all.Items d is
unfolding f.FitsExpression
order_fits d [] = (λ h. tt, λ h. tt)
order_fits d (i ∷ is) = items_fit d i is

places_fit : (p : Placed) (ps : List Placed) → f.FitsPlaces (places_of p ps) ↔ (f.IsPlace p.0 × all.Places ps)
places_fit p [] = (λ h. (h, tt), λ h. h.0)
places_fit p (x ∷ ps) = let more = places_fit x ps in (λ h. (h.0, more.0 h.1), λ h. (h.0, more.1 h.1))

by_places_fit : (ps : List Placed) → f.FitsMaybePlaces (by_places_of ps) ↔ all.Places ps
by_places_fit [] = (λ h. tt, λ h. tt)
by_places_fit (p ∷ ps) = places_fit p ps

pub every_fits : (d : Dialect) → f.FitsDistinctness d t.Every
unfolding f.FitsExpression
every_fits d = tt

pub distinct_fits : (d : Dialect) → f.FitsDistinctness d t.Distinct
unfolding f.FitsExpression
distinct_fits d = tt

pub distinct_on_fits : (d : Dialect) (e : t.Expression) (es : List t.Expression)
    → f.FitsDistinctness d (t.DistinctOn (expressions_of e es))
    ↔ (f.OnPg d × f.FitsExpression d e × all.Expressions d es)
unfolding f.FitsExpression
distinct_on_fits d e es =
    let more = expressions_fit d e es in
    (λ h. let x = more.0 h.1 in (h.0, x.0, x.1), λ h. (h.0, more.1 (h.1, h.2)))

pub select_fits : (d : Dialect) (q : t.Query) (u : t.Distinctness) (es : t.Expressions) (s : t.MaybeSource)
    (w : t.MaybeExpression) (g : t.MaybeExpressions) (h : t.MaybeExpression) (o : t.MaybeItems) (p : t.Page)
    (l : t.Lock)
    → q ≡ t.Select u es s w g h o p l
    → f.FitsQuery d q
    ↔ (f.FitsDistinctness d u × all.Selected d q × f.FitsMaybeSource d s × f.FitsMaybeExpression d w × all.Grouped d q
    × f.FitsMaybeExpression d h × all.InOrder d q × f.FitsPage d p × f.FitsLock d l)
unfolding f.FitsExpression
select_fits d q u es s w g h o p l is = rw is ((λ k. k), (λ k. k))

pub combined_fits : (d : Dialect) (a : t.Query) (by : t.SetOperator) (all_of : Bool) (b : t.Query) (o : List Placed)
    (p : t.Page)
    → f.FitsQuery d (t.Combined a by all_of b (by_places_of o) p)
    ↔ (f.FitsQuery d a × f.FitsOperator d by all_of × f.FitsQuery d b × all.Places o × f.FitsOuterPage d p)
unfolding f.FitsExpression
combined_fits d a by all_of b o p =
    let c = by_places_fit o in
    (λ k. (k.0, k.1, k.2, c.0 k.3, k.4), λ k. (k.0, k.1, k.2, c.1 k.3, k.4))
