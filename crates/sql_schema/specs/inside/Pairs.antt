-- An index of pairs of tables: at which index of a list the element that names two tables is.
use Rattle.std.specs.Prelude.{ℕ, List, Bool, false, Option, None, Some, min, max}
use Rattle.std.specs.BTreeMap.{BTreeMap, get}
use Rattle.std.specs.Ordering.{is_eq, nat_cmp, ordering_then}
use Rattle.std.specs.Str.{bytes_eq}
use Rattle.std.specs.declared.cmp.Ordering.{Ordering}
use Rattle.sql_schema.specs.declared.declaration.TableDecl.{TableDecl}
use Rattle.sql_schema.specs.inside.Indices.{index_by, IndexesBy}

-- the index of the table of that name
abbrev pub table_index : List TableDecl → List ℕ → Option ℕ
table_index tables name = index_by (λ t. bytes_eq t.name name) tables

abbrev pub key_cmp : ℕ × ℕ → ℕ × ℕ → Ordering
key_cmp x y = ordering_then (nat_cmp x.0 y.0) (nat_cmp x.1 y.1)

-- the lesser index first
abbrev pub lesser_first : Option ℕ → Option ℕ → Option (ℕ × ℕ)
lesser_first None j = None
lesser_first (Some i) None = None
lesser_first (Some i) (Some j) = Some (min i j, max i j)

-- the key of two tables
abbrev pub key_of : List TableDecl → List ℕ → List ℕ → Option (ℕ × ℕ)
key_of tables a b = lesser_first (table_index tables a) (table_index tables b)

abbrev pub is_key : Option (ℕ × ℕ) → ℕ × ℕ → Bool
is_key None q = false
is_key (Some k) q = is_eq (key_cmp k q)

module _ {A : Type 0} (tables : List TableDecl) (names_of : A → List ℕ × List ℕ) where
  -- the element names the two tables of that key
  abbrev pub has_key : ℕ × ℕ → A → Bool
  has_key q x = is_key (key_of tables (names_of x).0 (names_of x).1) q

  -- an index of the first n elements
  abbrev pub IndexesPairs : BTreeMap (ℕ × ℕ) ℕ → List A → ℕ → Type 0
  IndexesPairs m xs n = IndexesBy has_key (get key_cmp m) xs n
