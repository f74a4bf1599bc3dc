use Rattle.std.proofs.Common.{◌≡◌, ◌∙◌, ◌≤◌, ◌<◌, ◌+◌, ◌++◌, ◌∷◌, [], length, length-append, option_map, subst, arith}
use Rattle.std.specs.BTreeMap.{IsEmpty, btree_map_len}
use Rattle.std.specs.Prelude.{string_bytes}
use Rattle.sql_tool_document.specs.Trees.{request_tree}
use Rattle.sql_tool_guard.specs.Trees.{tenant_tree}
use Rattle.sql_tool_session.proofs.Answered.{written_next}
use Rattle.sql_tool_session.specs.Session.{asked_for, capacity_of}
use Rattle.sql_tool_session.proofs.session.Session.line.Goals as goal

pub returns-clause-line : goal.returns-clause-line
returns-clause-line c = λ schema asked text has.
    let old = c.args.self.now in
    let item = request_tree c.args.request.now in
    let tenant = option_map tenant_tree c.args.tenant.now in
    let number = c.in_ok-number.number in
    let next : number ≡ 1 + length asked = omega (arith, c.in_ok-number.ensures, has.count) in
    let grown : length (asked ++ asked_for tenant (item ∷ [])) ≡ length asked + 1 =
    length-append asked (asked_for tenant (item ∷ [])) in
    record {
      schema = c.line_for.ensures.schema ∙ has.schema;
      count = omega (arith, next, grown);
      written = written_next (capacity_of old) schema old.cache.schema asked old.seen c.line_for.new.seen c.keep_within.new.seen
          (record { tenant = tenant; request = item }) number text (string_bytes c.in_ok-line.line) next has.schema
          c.in_ok-line.ensures.line c.keep_within.ensures.was_sorted (subst (λ n. n ≤ btree_map_len c.line_for.new.seen → IsEmpty c.keep_within.new.seen) c.shapes.ensures c.keep_within.ensures.full)
          (subst (λ n. btree_map_len c.line_for.new.seen < n → c.keep_within.new.seen ≡ c.line_for.new.seen) c.shapes.ensures c.keep_within.ensures.kept)
          c.keep_within.ensures.sorted has.written;
    }
