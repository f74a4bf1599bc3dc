-- Texts that have no reading: the machine would find one.
use Rattle.std.proofs.Common.{◌≡◌, ℕ, List, [], ◌∷◌, Option, Some, None, true, refl, sym, ap, ◌∙◌, subst, codes}
use Rattle.sql_dialect.specs.declared.backend.Dialect.{Dialect}
use Rattle.sql_dialect.specs.declared.backend.Dialect.TheVariants.{Pg, Sqlite, Bracket}
use Rattle.sql_grammar.specs.Token.{SELECT, WHERE, LIMIT, FOR, UPDATE, INTERSECT, ALL, Equal, Token, Word, Number, Mark, Sign, Open, Close}
use Rattle.sql_grammar.specs.Tokens.{tokens}
use Rattle.sql_grammar.specs.Fits as f
use Rattle.sql_grammar.specs.Grammar as r
use Rattle.sql_grammar.specs.MarkTree.{ForUpdate, Waits, Unlocked, Locks, Intersect, PageBy, NoPlaces, Placeholder, OnlyExpression, NoExpression, SomeExpression, NoExpressions, NoItems, NoSource, Every, Query, Select, Combined}
use Rattle.sql_grammar.specs.Reading.{IsReading}
use Rattle.sql_grammar.proofs.Machine as m
use Rattle.sql_grammar.proofs.OneReading.{found}
use Rattle.sql_grammar.proofs.Worked.{computed}

some_back : {A : Type 0} {x y : A} → Some x ≡ Some y → x ≡ y
some_back e = cc

none_some : {A : Type 0} {x : A} → Path (Option A) None (Some x) → ⊥
none_some e = cc

-- what the machine finds, computed
candidate_of : List Token → Option Query
unfolding m.rank m.top m.query_in m.mark_in m.name_in m.names_in m.first m.marks_of m.more_marks m.expressions_of m.direction_of m.listed m.items_of m.numbered m.places_of m.tail_of m.wait_of m.seed_of m.after_name m.source_of m.quoted m.dot m.put_listed m.put_numbered m.comma_token m.comma m.negated m.in_query m.in_row m.sign_token m.sign m.joins m.constant_of m.source_item m.complete m.open_source m.open_listed m.open_expression m.combined m.grouped m.open_query m.open_number m.open_token m.open_bracket m.select_list m.select_from m.select_star m.select m.distinctly m.on m.put_tail m.from_source m.from_expression m.from m.where_by m.having_by m.put_group m.group_by m.put_order m.put_places m.order_token m.order_by m.put_page m.offset_in m.put_limit m.limit_token m.limit_by m.offset_of m.no_offset m.offset_by m.lock_by m.locking m.key_mode m.key m.all_or_not m.combines m.alias_as m.only_item m.only m.rows m.fetch m.sampled m.seeded m.join_on m.join_with m.join m.join_of m.exists_item m.exists m.negate m.not_of m.null m.count m.skip m.word m.step m.fold m.candidate_of m.candidate
candidate_of ts = m.candidate ts

-- Where the machine finds nothing, or what doesn't fit, there is no reading.
not_found : (d : Dialect) (text : List ℕ) (ts : List Token) → tokens d text ≡ Some ts → m.candidate ts ≡ None
    → (q : Query) → IsReading d text q → ⊥
not_found d text ts e none q h =
    let same : h.0 ≡ ts = some_back (sym h.1 ∙ e) in
    let is = found d h.0 q h.2 in
    none_some (sym none ∙ ap m.candidate (sym same) ∙ is)

misfit : (d : Dialect) (text : List ℕ) (ts : List Token) (other : Query) → tokens d text ≡ Some ts
    → m.candidate ts ≡ Some other → (f.FitsQuery d other → ⊥) → (q : Query) → IsReading d text q → ⊥
misfit d text ts other e one lacks q h =
    let same : h.0 ≡ ts = some_back (sym h.1 ∙ e) in
    let is : q ≡ other = some_back (sym (found d h.0 q h.2) ∙ ap m.candidate same ∙ one) in
    lacks (subst (f.FitsQuery d) is h.2.0)

-- what the machine finds has other tokens
mistaken : (d : Dialect) (text : List ℕ) (ts : List Token) (other : Query) → tokens d text ≡ Some ts
    → m.candidate ts ≡ Some other → (ts ≡ r.query d other [] → ⊥) → (q : Query) → IsReading d text q → ⊥
mistaken d text ts other e one differ q h =
    let same : h.0 ≡ ts = some_back (sym h.1 ∙ e) in
    let is : q ≡ other = some_back (sym (found d h.0 q h.2) ∙ ap m.candidate same ∙ one) in
    differ (sym same ∙ h.2.1 ∙ ap (λ x. r.query d x []) is)

-- a text without tokens
no_tokens : (d : Dialect) (text : List ℕ) → tokens d text ≡ None → (q : Query) → IsReading d text q → ⊥
no_tokens d text e q h = none_some (sym e ∙ h.1)

select_value : ℕ → Query
select_value n =
    Select Every (OnlyExpression (Placeholder (Some n))) NoSource NoExpression NoExpressions NoExpression NoItems
    (PageBy None None) Unlocked

select_locked : Query
select_locked =
    Select Every (OnlyExpression (Placeholder None)) NoSource NoExpression NoExpressions NoExpression NoItems
    (PageBy None None) (Locks ForUpdate Waits)

pub lock_on_sqlite : (q : Query) → IsReading Sqlite (codes "SELECT ? FOR UPDATE") q → ⊥
unfolding computed candidate_of select_locked f.FitsQuery
lock_on_sqlite =
    misfit Sqlite (codes "SELECT ? FOR UPDATE") (Word SELECT ∷ Mark None ∷ Word FOR ∷ Word UPDATE ∷ []) select_locked
    refl refl (λ h. h.8)

pub intersect_all_on_bracket : (q : Query) → IsReading Bracket (codes "(SELECT @p1) INTERSECT ALL (SELECT @p2)") q → ⊥
unfolding computed candidate_of select_value f.FitsQuery
intersect_all_on_bracket =
    misfit Bracket (codes "(SELECT @p1) INTERSECT ALL (SELECT @p2)")
    (Open ∷ Word SELECT ∷ Mark (Some 1) ∷ Close ∷ Word INTERSECT ∷ Word ALL ∷ Open ∷ Word SELECT ∷ Mark (Some 2) ∷ Close
    ∷ [])
    (Combined (select_value 1) Intersect true (select_value 2) NoPlaces (PageBy None None)) refl refl (λ h. cc)

select_limited : Query
select_limited =
    Select Every (OnlyExpression (Placeholder (Some 1))) NoSource NoExpression NoExpressions NoExpression NoItems
    (PageBy (Some (Some 2)) None) Unlocked

pub limit_on_bracket : (q : Query) → IsReading Bracket (codes "SELECT @p1 LIMIT @p2") q → ⊥
unfolding computed candidate_of select_limited f.FitsQuery
limit_on_bracket =
    misfit Bracket (codes "SELECT @p1 LIMIT @p2") (Word SELECT ∷ Mark (Some 1) ∷ Word LIMIT ∷ Mark (Some 2) ∷ [])
    select_limited refl refl (λ h. h.7.0)

bare_tokens : List Token
bare_tokens = Word SELECT ∷ Mark (Some 1) ∷ Word WHERE ∷ Mark (Some 2) ∷ Sign Equal ∷ Mark (Some 3) ∷ []

select_where : Query
select_where =
    Select Every (OnlyExpression (Placeholder (Some 1))) NoSource (SomeExpression (Placeholder (Some 2))) NoExpressions
    NoExpression NoItems (PageBy None None) Unlocked

longer : bare_tokens ≡ r.query Pg select_where [] → ⊥
unfolding bare_tokens select_where r.query r.page r.lock
longer e = cc

pub bare_condition : (q : Query) → IsReading Pg (codes "SELECT $1 WHERE $2=$3") q → ⊥
unfolding computed candidate_of bare_tokens select_where
bare_condition = mistaken Pg (codes "SELECT $1 WHERE $2=$3") bare_tokens select_where refl refl longer

pub number_as_value : (q : Query) → IsReading Pg (codes "SELECT 1") q → ⊥
unfolding computed candidate_of
number_as_value = not_found Pg (codes "SELECT 1") (Word SELECT ∷ Number (codes "1") ∷ []) refl refl

pub text_as_value : (q : Query) → IsReading Pg (codes "SELECT 'a'") q → ⊥
unfolding computed
text_as_value = no_tokens Pg (codes "SELECT 'a'") refl
