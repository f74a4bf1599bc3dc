-- The order of tables ties equal tables alone, and that of columns equal columns.
use Rattle.std.proofs.Common.{◌≡◌, ℕ, true, List, [], ◌∷◌, ◌++◌, Some, None, refl, sym, ap, ◌∙◌}
use Rattle.std.proofs.lemmas.List.{append_assoc}
use Rattle.sql_schema.specs.declared.declaration.ColumnDecl.{ColumnDecl}
use Rattle.std.proofs.lemmas.Bool.{false≢true}
use Rattle.std.specs.Cmp.{first_so, second_so, tied_then, unsigned_ties}
use Rattle.std.specs.Cmp.Lexicographic.{slice_cmp, lists_ties, texts_ties}
use Rattle.std.specs.Option.{option_cmp}
use Rattle.std.specs.Ordering.{ordering_then, nat_cmp, eq_by_cmp, is_eq}
use Rattle.std.specs.declared.cmp.Ordering.{Ordering}
use Rattle.sql_schema.proofs.Exact.{IsExact, exact-list}
use Rattle.sql_schema.proofs.ExactTypes.{exact-text, exact-type, exact-unsigned}
use Rattle.sql_schema.specs.contracts.types.SqlTypeOrd.TheImpl as type_ord
use Rattle.sql_schema.specs.contracts.types.SqlTypeOrd.TheImpl.Laws.{matches_eq-law}
use Rattle.sql_schema.specs.inside.Spelled.{spelled, columns_text, table_text, tail_of, same-spelled, same-schema, same-keys}
use Rattle.sql_schema.specs.inside.Tables.{text_cmp, column_cmp, sized_cmp, table_cmp, declared_cmp}

-- an order that ties equal values alone
abbrev IsStrict : {A : Type 0} → (A → A → Ordering) → Type 0
IsStrict R = IsExact (eq_by_cmp R)

-- both of two orders tie where one after the other does
ties : (r s : Ordering) {P Q : Type 0} → (is_eq r ≡ true → P) → (is_eq s ≡ true → Q) → is_eq (ordering_then r s) ≡ true
    → P × Q
ties r s p q h = let k = tied_then r s ∙ h in (p (first_so (is_eq r) (is_eq s) k), q (second_so (is_eq r) (is_eq s) k))

strict-text : IsStrict text_cmp
strict-text a b h = exact-text a b (texts_ties a b ∙ h)

strict-list : {A : Type 0} (R : A → A → Ordering) → IsStrict R → IsStrict (slice_cmp R)
strict-list R e a b h = exact-list e a b (lists_ties R (λ _ _. refl) a b ∙ h)

strict-option : {A : Type 0} (R : A → A → Ordering) → IsStrict R → IsStrict (option_cmp R)
strict-option R e None None h = refl
strict-option R e None (Some b) h = absurd (false≢true h)
strict-option R e (Some a) None h = absurd (false≢true h)
strict-option R e (Some a) (Some b) h = ap Some (e a b h)

strict-length : IsStrict nat_cmp
strict-length a b h = exact-unsigned a b (unsigned_ties a b ∙ h)

strict-type : IsStrict (type_ord.ghosts).cmp
strict-type a b h = exact-type a b (matches_eq-law a b ∙ h)

strict-column : IsStrict column_cmp
strict-column a b h =
    let r =
    ties _ _
    (ties _ _ (ties _ _ (strict-text a.name b.name) (strict-text a.sql_name b.sql_name))
    (strict-type a.ty b.ty))
    (strict-option _ strict-length a.max_length b.max_length) h in
    λ i. record { name = r.0.0.0 i; sql_name = r.0.0.1 i; ty = r.0.1 i; max_length = r.1 i }

-- columns of one text, of the same types and lengths
same-columns : (a b : List ColumnDecl) (r s : List ℕ) → columns_text a ++ r ≡ columns_text b ++ s
    → eq_by_cmp (slice_cmp sized_cmp) a b ≡ true → (a ≡ b) × (r ≡ s)
same-columns [] [] r s h t = (refl, ap tail_of h)
same-columns [] (y ∷ ys) r s h t = absurd (false≢true t)
same-columns (x ∷ xs) [] r s h t = absurd (false≢true t)
same-columns (x ∷ xs) (y ∷ ys) r s h t =
    let sizes =
    ties (sized_cmp x y) (slice_cmp sized_cmp xs ys)
    (ties _ _ (strict-type x.ty y.ty) (strict-option _ strict-length x.max_length y.max_length)) (λ k. k) t in
    let g =
    sym (append_assoc (spelled x.name) (spelled x.sql_name ++ columns_text xs) r)
    ∙ ap tail_of h
    ∙ append_assoc (spelled y.name) (spelled y.sql_name ++ columns_text ys) s in
    let n = same-spelled x.name y.name _ _ g in
    let m =
    same-spelled x.sql_name y.sql_name _ _
    (sym (append_assoc (spelled x.sql_name) (columns_text xs) r)
    ∙ n.1
    ∙ append_assoc (spelled y.sql_name) (columns_text ys) s) in
    let q = same-columns xs ys r s m.1 sizes.1 in
    (λ i. record { name = n.0 i; sql_name = m.0 i; ty = sizes.0.0 i; max_length = sizes.0.1 i } ∷ q.0 i, q.1)

pub exact-table : IsExact (eq_by_cmp table_cmp)
exact-table a b h =
    let r = ties _ _ (strict-text (table_text a) (table_text b)) (λ k. k) h in
    let n = same-spelled a.name b.name _ _ r.0 in
    let c = same-schema a.schema b.schema _ _ n.1 in
    let m = same-spelled a.sql_name b.sql_name _ _ c.1 in
    let d = same-columns a.columns b.columns _ _ m.1 r.1 in
    let k = same-keys a.primary_key b.primary_key d.1 in
    λ i. record {
      name = n.0 i;
      schema = c.0 i;
      sql_name = m.0 i;
      columns = d.0 i;
      primary_key = k i;
    }

pub exact-column : IsExact (eq_by_cmp declared_cmp)
exact-column a b h =
    let r = ties _ _ (exact-table a.table b.table) (strict-column a.decl b.decl) h in
    λ i. record { table = r.0 i; decl = r.1 i }
