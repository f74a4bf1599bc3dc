use Rattle.std.proofs.Common.{◌≡◌, ◌++◌, [], ◌-◌, take, map, length, ap, sym, ◌∙◌, string_bytes, codes, rules, arith}
use Rattle.std.proofs.lemmas.Grind.{common_steps}
use Rattle.sql_read_tree.specs.Path.{prefixed_by}
use Rattle.sql_read_writer.specs.More.{path_text}
use Rattle.sql_read_writer.proofs.Names.{next_text, one_text}
use Rattle.sql_read_writer.proofs.leaf.push_before.Goals as goal

pub loop-i-preserved : goal.loop-i-preserved
loop-i-preserved c = record {
  within = omega arith;
  done = λ rest.
      let next =
      next_text c.args.dialect string_bytes c.args.before.now c.loop-i.i (c.loop-i.i - 1) c.index-before-i.result
      (record { first = c.args.last.now; more = [] }) rest (omega arith) (omega arith) in
      let done = c.loop-i.invariant.done rest in
      grind (arith, common_steps, next, done);
}

pub returns : goal.returns
returns c = λ rest.
    let one = one_text c.args.dialect c.args.last.now rest in
    let done = c.loop-i.invariant.done rest in
    let none : take c.loop-i.i c.args.before.now ≡ [] = search (rules, arith) in
    grind (arith, common_steps, one, done, none)
