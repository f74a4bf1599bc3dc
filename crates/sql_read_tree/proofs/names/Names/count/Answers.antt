use Rattle.std.proofs.Common.{◌≡◌, [], string_bytes, arith}
use Rattle.sql_read_tree.proofs.Paths.{prefixed_count}
use Rattle.sql_read_tree.proofs.names.Names.count.Goals as goal

pub returns : goal.returns
returns c =
    let e =
    prefixed_count string_bytes c.self.inside.before.items
    (record { first = string_bytes c.self.inside.last; more = [] }) in
    rw (← c.self.view_is) (omega (arith, e, c.len.ensures))
