-- Statements of one shape have one text; where it is safe to prepare, the lengths of lists are of no account.
use Rattle.std.proofs.Common.{◌≡◌, suc, Bool, true, false, List, [], ◌∷◌, map, length, inl, inr, refl, sym, ap, ◌∙◌}
use Rattle.std.proofs.lemmas.Bool.{false≢true}
use Rattle.std.proofs.lemmas.List.{length-map}
use Rattle.sql_dialect.specs.declared.backend.Dialect.{Dialect}
use Rattle.sql_pass.specs.Bounds.{type_of}
use Rattle.sql_pass.specs.Pieces.{text_of, values_of, is_safe}
use Rattle.sql_pass.specs.declared.value.Bound.{Bound}
use Rattle.sql_pass.specs.declared.value.Bound.TheVariants.{Value as OneValue, List as ManyValues}
use Rattle.sql_pass.specs.declared.value.Value.{Value}
use Rattle.sql_pass.specs.declared.value.Value.TheVariants.{Null}
use Rattle.sql_node.specs.Pieces.{pieces}
use Rattle.sql_node.specs.Tree.{Statement}
use Rattle.sql_shape.specs.Shape.{null, nulls, shape}
use Rattle.sql_rules_law.specs.Blank.{erased_bound, erased_pieces, blank_bound}
use Rattle.sql_rules_law.specs.Lengths.{shape_without_lengths}
use Rattle.sql_rules_law.proofs.Alike.{Alike, one_text, like_values}
use Rattle.sql_rules_law.proofs.PieceLaws.{pieces-alike}

-- ## Of one shape

nulls-once : (xs : List Value) → nulls (nulls xs) ≡ nulls xs
nulls-once [] = refl
nulls-once (x ∷ xs) = ap (λ l. Null ∷ l) (nulls-once xs)

nulls-length : (xs : List Value) → length (nulls xs) ≡ length xs
nulls-length [] = refl
nulls-length (x ∷ xs) = ap suc (nulls-length xs)

shape-alike : (d : Dialect) (s : Statement) → Alike nulls true (pieces d (shape s)) (pieces d s)
shape-alike d = pieces-alike nulls true null (λ t. nulls) (λ t. nulls-once) d (λ n e t. nulls-length)

one-blank : (d : Dialect) (a b : Statement) → shape a ≡ shape b
    → erased_pieces nulls (pieces d a) ≡ erased_pieces nulls (pieces d b)
one-blank d a b h =
    sym ((shape-alike d a).says (inl refl)) ∙ ap (λ s. erased_pieces nulls (pieces d s)) h
    ∙ (shape-alike d b).says (inl refl)

pub text : (d : Dialect) (a b : Statement) → shape a ≡ shape b → text_of d 0 (pieces d a) ≡ text_of d 0 (pieces d b)
text d a b h = one_text nulls true d 0 (pieces d a) (pieces d b) (one-blank d a b h)

pub safe : (d : Dialect) (a b : Statement) → shape a ≡ shape b → is_safe (pieces d a) ≡ is_safe (pieces d b)
safe d a b h = sym ((shape-alike d a).safe) ∙ ap (λ s. is_safe (pieces d s)) h ∙ (shape-alike d b).safe

pub values : (d : Dialect) (a b : Statement) → shape a ≡ shape b
    → map blank_bound (values_of (pieces d a)) ≡ map blank_bound (values_of (pieces d b))
values d a b h = like_values nulls true (pieces d a) (pieces d b) (one-blank d a b h)

types-blank : (bs : List Bound) → map type_of (map blank_bound bs) ≡ map type_of bs
types-blank [] = refl
types-blank (OneValue t x ∷ bs) = ap (λ ts. type_of (OneValue t x) ∷ ts) (types-blank bs)
types-blank (ManyValues t xs ∷ bs) = ap (λ ts. type_of (ManyValues t xs) ∷ ts) (types-blank bs)

pub bind_types : (d : Dialect) (a b : Statement) → shape a ≡ shape b
    → map type_of (values_of (pieces d a)) ≡ map type_of (values_of (pieces d b))
bind_types d a b h =
    sym (types-blank (values_of (pieces d a))) ∙ ap (map type_of) (values d a b h)
    ∙ types-blank (values_of (pieces d b))

-- values, one for each of the other's
count : (many : List Value → List Value) (always : Bool) (d : Dialect) (a b : Statement)
    → erased_pieces many (pieces d a) ≡ erased_pieces many (pieces d b)
    → length (values_of (pieces d a)) ≡ length (values_of (pieces d b))
count many always d a b h =
    sym (length-map (values_of (pieces d a)) (erased_bound many))
    ∙ ap length (like_values many always (pieces d a) (pieces d b) h)
    ∙ length-map (values_of (pieces d b)) (erased_bound many)

pub as_many : (d : Dialect) (a b : Statement) → shape a ≡ shape b
    → length (values_of (pieces d a)) ≡ length (values_of (pieces d b))
as_many d a b h = count nulls true d a b (one-blank d a b h)

-- ## Of one shape but for the lengths of lists

abbrev nothing : List Value → List Value
nothing xs = []

lengths-alike : (d : Dialect) (s : Statement) → Alike nothing false (pieces d (shape_without_lengths s)) (pieces d s)
lengths-alike d = pieces-alike nothing false null (λ t. nothing) (λ t xs. refl) d (λ n e t xs. absurd (false≢true e))

-- whether a text is safe, lengths do not tell
pub safe-loosely : (d : Dialect) (a b : Statement) → shape_without_lengths a ≡ shape_without_lengths b
    → is_safe (pieces d a) ≡ is_safe (pieces d b)
safe-loosely d a b h =
    sym ((lengths-alike d a).safe) ∙ ap (λ s. is_safe (pieces d s)) h ∙ (lengths-alike d b).safe

loose-blank : (d : Dialect) (a b : Statement) → shape_without_lengths a ≡ shape_without_lengths b
    → is_safe (pieces d a) ≡ true → erased_pieces nothing (pieces d a) ≡ erased_pieces nothing (pieces d b)
loose-blank d a b h s =
    sym ((lengths-alike d a).says (inr s)) ∙ ap (λ q. erased_pieces nothing (pieces d q)) h
    ∙ (lengths-alike d b).says (inr (sym (safe-loosely d a b h) ∙ s))

pub text-loosely : (d : Dialect) (a b : Statement) → shape_without_lengths a ≡ shape_without_lengths b
    → is_safe (pieces d a) ≡ true → text_of d 0 (pieces d a) ≡ text_of d 0 (pieces d b)
text-loosely d a b h s = one_text nothing false d 0 (pieces d a) (pieces d b) (loose-blank d a b h s)

pub as_many-loosely : (d : Dialect) (a b : Statement) → shape_without_lengths a ≡ shape_without_lengths b
    → is_safe (pieces d a) ≡ true → length (values_of (pieces d a)) ≡ length (values_of (pieces d b))
as_many-loosely d a b h s = count nothing false d a b (loose-blank d a b h s)
