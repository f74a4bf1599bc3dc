use Rattle.std.proofs.Common.{◌↔◌, drop, map}
use Rattle.sql_read_tree.specs.View.{expression_tree, item_tree}
use Rattle.sql_read_writer.specs.All as all
use Rattle.sql_read_writer.proofs.fits.+fits.Given as goal

-- all fit where those that are left do
abbrev pub invariant-fits_all-loop-e : goal.invariant-fits_all-loop-e
invariant-fits_all-loop-e l =
    all.Expressions l.dialect (map expression_tree (drop l.e-index l.es))
    ↔ all.Expressions l.dialect (map expression_tree l.es)

abbrev pub invariant-fits_items-loop-item : goal.invariant-fits_items-loop-item
invariant-fits_items-loop-item l =
    all.Items l.dialect (map item_tree (drop l.item-index l.items)) ↔ all.Items l.dialect (map item_tree l.items)
