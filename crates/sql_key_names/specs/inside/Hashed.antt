-- Keys that the order by names does not tell apart hash alike.
use Rattle.std.proofs.Common.{◌≡◌, ℕ, true, List, refl, sym, ap, ◌∙◌}
use Rattle.std.specs.Hash.{HashWrites, items_Alike}
use Rattle.std.specs.Ordering.{eq_by_cmp}
use Rattle.std.specs.Cmp.Lexicographic.{lists_ties}
use Rattle.sql_flat.specs.declared.kind.FlatKind.{FlatKind}
use Rattle.sql_flat.specs.declared.kind.FlatKind.TheVariants as K
use Rattle.sql_flat.specs.declared.kind.FlatNode.{FlatNode}
use Rattle.sql_flat.specs.contracts.kind.FlatNodeHash.TheImpl as node_hash
use Rattle.sql_key_names.specs.inside.Named.{key_cmp, key_hash, named, node_cmp}
use Rattle.sql_key_names.specs.inside.Exact.{same-node}

abbrev node-fed : FlatNode → HashWrites
node-fed n = (node_hash.ghosts).hash_input n

abbrev with-end : FlatKind → ℕ → FlatNode
with-end k e = record { kind = k; end = e }

-- of declarations the names alone are hashed
named-fed : (k : FlatKind) (e : ℕ) → node-fed (with-end (named k) e) ≡ node-fed (with-end k e)
named-fed (K.Column a c) e = refl
named-fed (K.Table s) e = refl
named-fed (K.Alias a) e = refl
named-fed _ e = refl

tied-fed : (a b : FlatNode) → eq_by_cmp node_cmp a b ≡ true → node-fed a ≡ node-fed b
tied-fed a b h = sym (named-fed a.kind a.end) ∙ ap node-fed (same-node a b h) ∙ named-fed b.kind b.end

pub same_hash : (a b : List FlatNode) → eq_by_cmp key_cmp a b ≡ true → key_hash a ≡ key_hash b
same_hash a b h = (items_Alike (record { fed = tied-fed })).fed a b (lists_ties node_cmp (λ x y. refl) a b ∙ h)
