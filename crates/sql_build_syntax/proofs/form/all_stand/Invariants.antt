use Rattle.std.proofs.Common.{◌≡◌, drop, map}
use Rattle.sql_build_syntax.specs.Forms.{stand}
use Rattle.sql_build_syntax.specs.View.{call_tree, calls_of}
use Rattle.sql_build_syntax.specs.declared.form.Form.TheVariants as form
use Rattle.sql_build_syntax.proofs.form.all_stand.Given as goal

abbrev pub invariant-loop-call : goal.invariant-loop-call
invariant-loop-call l =
    stand l.form (calls_of (map call_tree (drop l.call-index l.calls)))
    ≡ stand form.Select (calls_of (map call_tree l.calls))
