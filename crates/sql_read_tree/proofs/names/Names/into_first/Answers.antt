use Rattle.std.proofs.Common.{◌≡◌, [], string_bytes, sym, ap}
use Rattle.sql_read_tree.specs.Path.{Path}
use Rattle.sql_read_tree.proofs.Paths.{prefixed_push}
use Rattle.sql_read_tree.proofs.names.Names.into_first.Goals as goal

pub returns-in-Some : goal.returns-in-Some
returns-in-Some c =
    rw (← c.self.view_is, c.in-Some.ensures.items)
    (ap (λ (p : Path). p.first)
    (sym
    (prefixed_push string_bytes c.pop.new.self.items c.in-Some.first
    (record { first = string_bytes c.self.inside.last; more = [] }))))
