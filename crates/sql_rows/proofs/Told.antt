-- What is kept of an answer serves for each statement of its key.
use Rattle.std.proofs.Common.{◌≡◌, ◌⊎◌, true, None, List, Contains, inl, inr, sym, ◌∙◌, subst}
use Rattle.sql_schema.specs.Declarations.{Declarations}
use Rattle.sql_schema.specs.Refusals.{least_refusal}
use Rattle.sql_dialect.specs.declared.backend.Dialect.{Dialect}
use Rattle.sql_node.specs.Tree.{Statement}
use Rattle.sql_check.specs.Compiled.{IsBuilt}
use Rattle.sql_check.specs.declared.built.Built.{Built}
use Rattle.sql_rows.proofs.EqualIds as ids
use Rattle.lru.specs.LruCache.{LruCache}
use Rattle.lru.proofs.CallerLemmas.{IsPut}
use Rattle.sql_rows.specs.declared.cache.Kept.{Kept}
use Rattle.sql_rows.specs.declared.cache.RequestKey.{RequestKey}
use Rattle.sql_rows.specs.Entries.{IsLookedUp}
use Rattle.sql_rows.specs.inside.Served.{AllServe, Serves, Tells, kept_of}
use Rattle.sql_rows.specs.inside.Known.{AllKnown, IsKnown}
use Rattle.sql_rows.proofs.Keys.{Finds}
use Rattle.sql_rows.proofs.Known.{same_pair}

pub kept-serves : (schema : Declarations) (d : Dialect) (s : Statement) (pair : RequestKey) (b : Built)
    → IsLookedUp d s pair → IsBuilt schema d s b
    → Serves schema (pair, kept_of b)
kept-serves schema d s pair b own built = λ e t other.
    let told : Tells schema d t (kept_of b) =
    record {
      accepted = ids.accepted schema d s t pair.key own.id other.id other.fit built.accepted;
      sql = built.sql ∙ ids.text d s t pair.key own.id other.id;
      sql_types = built.sql_types ∙ ids.column_types s t pair.key own.id other.id;
      safe = built.safe ∙ ids.safe d s t pair.key own.id other.id;
    } in
    subst (λ x. Tells schema x t (kept_of b))
    (sym own.dialect ∙ other.dialect) told

-- what holds of the entries of a cache over the schema
abbrev pub Holds : Declarations → List (RequestKey × Kept) → Type 0
Holds schema es = AllServe schema es × (AllKnown schema es × (least_refusal schema ≡ None))

-- it holds of fewer
pub fewer : (schema : Declarations) (es fs : List (RequestKey × Kept))
    → ((e : RequestKey × Kept) → Contains fs e → Contains es e) → Holds schema es → Holds schema fs
fewer schema es fs was (serve, (known, sound)) =
    (λ e there. serve e (was e there), ((λ e there. known e (was e there)), sound))

module _ (schema : Declarations) (c : LruCache RequestKey Kept) (q : RequestKey) (v : Kept) (finds : Finds (same_pair q) q c.entries) where
  put-key : (e : RequestKey × Kept) → IsPut same_pair c q v e → q ≡ e.0
  put-key e put = key put.1
    where
      key : (e.0 ≡ q) ⊎ ((w : Kept) × Contains c.entries (e.0, w) × (same_pair q e.0 ≡ true)) → q ≡ e.0
      key (inl p) = sym p
      key (inr (w, there, t)) = finds (e.0, w) there t

  -- an entry after a put serves where what was put does
  put-serves : (e : RequestKey × Kept) → IsPut same_pair c q v e → Serves schema (q, v) → Serves schema e
  put-serves e put h = subst (Serves schema) (λ i. (put-key e put i, sym put.0 i)) h

  -- and its names are known where those are
  put-known : (e : RequestKey × Kept) → IsPut same_pair c q v e → IsKnown schema q → IsKnown schema e.0
  put-known e put h = subst (IsKnown schema) (put-key e put) h

  -- what holds of the entries holds behind a put
  pub put-holds : Holds schema c.entries → IsKnown schema q → Serves schema (q, v) → (fs : List (RequestKey × Kept))
      → ((e : RequestKey × Kept) → Contains fs e → Contains c.entries e ⊎ IsPut same_pair c q v e) → Holds schema fs
  put-holds (serve, (known, sound)) own serves fs was = (
    (λ e there. elim (was e there) [ inl old ↦ serve e old | inr put ↦ put-serves e put serves ]),
    ((λ e there. elim (was e there) [ inl old ↦ known e old | inr put ↦ put-known e put own ]), sound),
  )
