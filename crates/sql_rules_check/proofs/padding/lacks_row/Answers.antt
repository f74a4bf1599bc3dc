use Rattle.std.proofs.Common.{◌≡◌, ◌&&◌, not, true, map, sym, ap, ◌∙◌}
use Rattle.sql_origin.specs.Borrowed.{origin_of}
use Rattle.sql_rules_check.specs.inside.Padding.{is_lacking, stands_twice}
use Rattle.sql_rules_check.specs.inside.PaddingStacks.{leaf_of}
use Rattle.sql_rules_check.proofs.PaddingStacking.{origins-of}
use Rattle.sql_rules_check.proofs.padding.lacks_row.Goals as goal

pub returns-then-is_lacking : goal.returns-then-is_lacking
returns-then-is_lacking c =
    let ls = c.args.leaves.now in
    let o = origin_of c.args.origin in
    let lacking : true ≡ is_lacking (map leaf_of ls) o = sym c.if-is_lacking.true ∙ c.is_lacking.ensures in
    let twice : c.stands_twice.result ≡ stands_twice (map (λ l. l.origin) (map leaf_of ls)) o =
    c.stands_twice.ensures ∙ ap (λ v. stands_twice v o) (sym (origins-of ls)) in λ i. lacking i && not (twice i)
