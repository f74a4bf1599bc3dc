-- Samples of a table (PostgreSQL, SELECT, TABLESAMPLE; diesel, `TablesampleDsl`).
use Rattle.std.specs.Prelude.{ℤ, None, Some, option_map}
use Rattle.sql_leaf.specs.declared.table_source.TableSource.{TableSource}
use Rattle.sql_leaf.specs.declared.table_source.Tablesample.{Tablesample}
use Rattle.sql_leaf.specs.declared.table_source.TablesampleMethod.{TablesampleMethod}

-- a sample of so many rows of a hundred, in place of an earlier one
abbrev pub sampled : TablesampleMethod → ℤ → TableSource → TableSource
sampled method portion t =
    record {
      table = t.table;
      only = t.only;
      sample = Some (record { method = method; portion = portion; seed = None });
    }

abbrev pub with_seed : ℤ → Tablesample → Tablesample
with_seed seed s = record { method = s.method; portion = s.portion; seed = Some seed }

-- the same sample each time; without a sample nothing changes
abbrev pub seeded : ℤ → TableSource → TableSource
seeded seed t = record { table = t.table; only = t.only; sample = option_map (with_seed seed) t.sample }
