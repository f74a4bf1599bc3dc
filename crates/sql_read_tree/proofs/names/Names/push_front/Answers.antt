use Rattle.std.proofs.Common.{◌≡◌, [], string_bytes}
use Rattle.sql_read_tree.proofs.Paths.{prefixed_push}
use Rattle.sql_read_tree.proofs.names.Names.push_front.Goals as goal

pub returns : goal.returns
returns c =
    rw (c.in_ok-push.ensures.items, ← c.self.view_is)
    (prefixed_push string_bytes c.self.inside.before.items c.args.name
    (record { first = string_bytes c.self.inside.last; more = [] }))
