use Rattle.sql_rules_check.proofs.judgement.flags_of.Goals as goal

pub returns-clause-flags : goal.returns-clause-flags
returns-clause-flags g c = λ s is.
    let schema = c.args.schema.now in
    let d = g.DB.Backend.speaks in
    let named = c.in_ok-scoped.ensures in
    let typed = c.in_ok-columns.ensures in (
      named.unknown_name s is d,
      (
        c.is_flat_incompatible.ensures s is schema d,
        (
          typed.empty s is schema d,
          (
            named.no_relation s is d,
            (
              named.ambiguous s is d,
              (
                named.not_together s is d,
                (
                  named.name_clash s is d,
                  (
                    named.not_in_scope s is d,
                    (
                      typed.mismatched s is schema d,
                      (
                        c.in_ok-lacks_nullable.ensures s is schema d,
                        (
                          c.is_flat_misgrouped-misgrouped.ensures s is schema d,
                          (
                            c.in_ok-order_invalid.ensures s is schema d,
                            (
                              c.is_flat_unsupported.ensures s is schema,
                              tt,
                            ),
                          ),
                        ),
                      ),
                    ),
                  ),
                ),
              ),
            ),
          ),
        ),
      ),
    )
