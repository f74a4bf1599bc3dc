use Rattle.std.proofs.Common.{◌∙◌, sym}
use Rattle.sql_dialect.specs.declared.backend.Dialect.TheVariants.{Pg}
use Rattle.sql_rules_check.proofs.LeafPairs.{ambiguous, apart, clashing}
use Rattle.sql_rules_check.proofs.NamesTell.{all-known, in-scope}
use Rattle.sql_rules_check.proofs.Relations.{unrelated}
use Rattle.sql_rules_check.proofs.UnknownNames.{unknown}
use Rattle.sql_rules_check.proofs.names.names_of_flat.Goals as goal

pub lacks_name-unknown_name-requires : goal.lacks_name-unknown_name-requires
lacks_name-unknown_name-requires c =
    λ h. let s = c.nodes-nodes.ensures.statement in
    all-known s.0 c.nodes-nodes.result.now c.args.schema.now Pg (c.nodes-nodes.ensures.nodes ∙ s.1)
    (c.requires h s.0 s.1 Pg)

pub returns-clause-unknown_name : goal.returns-clause-unknown_name
returns-clause-unknown_name c =
    λ s is d. unknown s c.nodes-nodes.result.now c.lacks_name-unknown_name.result c.args.schema.now
    (c.nodes-nodes.ensures.nodes ∙ is) c.lacks_name-unknown_name.ensures d

pub returns-clause-no_relation : goal.returns-clause-no_relation
returns-clause-no_relation c =
    λ s is d. unrelated s c.nodes-nodes.result.now c.any_lacks_on.result (c.nodes-nodes.ensures.nodes ∙ is)
    c.any_lacks_on.ensures c.args.schema.now d

pub returns-clause-ambiguous : goal.returns-clause-ambiguous
returns-clause-ambiguous c =
    λ s is d. ambiguous c.args.schema.now d s c.nodes-nodes.result.now c.in_ok-not_in_scope.pairs.ambiguous
    (c.nodes-nodes.ensures.nodes ∙ is) c.in_ok-not_in_scope.ensures.ambiguous

pub returns-clause-not_together : goal.returns-clause-not_together
returns-clause-not_together c =
    λ s is d. apart c.args.schema.now d s c.nodes-nodes.result.now c.in_ok-not_in_scope.pairs.apart
    (c.nodes-nodes.ensures.nodes ∙ is) c.in_ok-not_in_scope.ensures.apart

pub returns-clause-name_clash : goal.returns-clause-name_clash
returns-clause-name_clash c =
    λ s is d. clashing c.args.schema.now d s c.nodes-nodes.result.now c.in_ok-not_in_scope.pairs.clashing
    (c.nodes-nodes.ensures.nodes ∙ is) c.in_ok-not_in_scope.ensures.clashing

pub returns-clause-not_in_scope : goal.returns-clause-not_in_scope
returns-clause-not_in_scope c =
    λ s is d. in-scope c.args.schema.now c.names_differ.ensures s c.nodes-nodes.result.now
    c.lacks_name-unknown_name.result c.in_ok-not_in_scope.not_in_scope (c.nodes-nodes.ensures.nodes ∙ is)
    (λ h. sym c.lacks_name-unknown_name.ensures ∙ h) c.in_ok-not_in_scope.ensures.scope d
