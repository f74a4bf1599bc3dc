use Rattle.std.proofs.Common.{◌∙◌}
use Rattle.sql_key_names.proofs.Mixed.{other-any}
use Rattle.sql_key_names.proofs.compared.cmp_kinds.Goals as goal

pub returns-in_default : goal.returns-in_default
returns-in_default c =
    c.cmp-in_default.ensures
    ∙ other-any c.args.one.now c.args.other.now (c.in_default.not-Column, c.in_default.not-Table, c.in_default.not-Alias)
