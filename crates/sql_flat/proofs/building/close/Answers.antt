use Rattle.std.proofs.Common.{◌≡◌, ◌∙◌, ◌∷◌, ◌++◌, arith, ap, set, get_or}
use Rattle.std.proofs.Math.Seq.{set-append_seam, get_or-append_seam}
use Rattle.sql_flat_law.specs.Building.{closes}
use Rattle.sql_flat.specs.Flat.{flat_node}
use Rattle.sql_flat.proofs.building.close.Goals as goal

pub returns-in-Some : goal.returns-in-Some
returns-in-Some c = closes (λ k e before behind is at.
    let x = c.in-Some.node.now in
    let v : x ≡ get_or c.args.nodes.now.items c.args.at x = grind arith in
    let w : x ≡ flat_node k e = v ∙ (λ i. get_or (is i) (at i) x) ∙ get_or-append_seam before (flat_node k e) behind x in
    (λ i. set (is i) (at i) (flat_node (w i).kind c.len-end.result))
    ∙ set-append_seam before (flat_node k e) behind (flat_node k c.len-end.result)
    ∙ ap (λ n. before ++ flat_node k n ∷ behind) (c.len-end.ensures ∙ c.args.nodes.now.ok.0))
