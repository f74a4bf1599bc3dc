-- A path from its last name to its first.
use Rattle.std.proofs.Common.{◌≡◌, List, [], ◌∷◌, ◌++◌, reverse, sym, ap, ◌∙◌, append_assoc}
use Rattle.std.proofs.lemmas.Grind.{reverse_onto}
use Rattle.std.proofs.lemmas.List.{append-nil}
use Rattle.sql_grammar.specs.Tree.{Name}
use Rattle.sql_read_tree.specs.Path.{Path, prefixed, prefixed_by}
use Rattle.sql_audit_resolution.specs.Leaves.{backwards}

prefixed_backwards : (before : List Name) (p : Path)
    → backwards (prefixed_by before p).first (prefixed_by before p).more ≡ backwards p.first p.more ++ before
prefixed_backwards [] p = sym (append-nil (backwards p.first p.more))
prefixed_backwards (b ∷ bs) p =
    prefixed_backwards bs (prefixed b p)
    ∙ ap (λ names. names ++ bs) (reverse_onto (p.first ∷ p.more) b [])
    ∙ append_assoc (backwards p.first p.more) (b ∷ []) bs

pub path_backwards : (last : Name) (before : List Name) (p : Path)
    → p ≡ prefixed_by before (record { first = last; more = [] }) → backwards p.first p.more ≡ last ∷ before
path_backwards last before p is =
    ap (λ (q : Path). backwards q.first q.more) is ∙ prefixed_backwards before (record { first = last; more = [] })
