use Rattle.std.proofs.Common.{ap}
use Rattle.sql_rules_check.specs.inside.PaddingStacks.{held_of, parted}
use Rattle.sql_rules_check.proofs.PaddingStacking.{first-bare, first-leaves}
use Rattle.sql_rules_check.proofs.padding.gather.Goals as goal

pub loop-held-init : goal.loop-held-init
loop-held-init c =
    let hs = (parted c.args.end c.args.parts.now.items).0 in
    let gs = (parted c.args.end c.next-all.new.parts.items).0 in
    let h = held_of c.next-all.result in record {
      leaves = first-leaves hs gs h c.next-all.ensures.held (ap (λ p. p.0) c.next-all.ensures.left);
      bare = first-bare hs gs h c.next-all.ensures.held (ap (λ p. p.0) c.next-all.ensures.left);
      left = ap (λ p. p.1) c.next-all.ensures.left;
    }
