-- What the machine makes of parts without recursion, and of what stands after a part.
use Rattle.std.proofs.Common.{◌≡◌, ℕ, ◌≤◌, List, [], ◌∷◌, Option, Some, None, Bool, true, false, refl, ap, ◌∙◌, lit≤, arith}
use Rattle.sql_grammar.specs.Token.{AS, Token, Quoted, Word, Number, Close, Comma}
use Rattle.sql_grammar.specs.MarkTree.{Mark, Name, Direction, Plain, Ascending, Descending, JoinKind, Inner, LeftOuter, SampleMethod, Bernoulli, System, Waits, Sample, Whole, Sampled, Places, OnlyPlace, MorePlace, Expression, Path, Placeholder, SingleValue, Expressions, OnlyExpression, MoreExpression, Items, OnlyItem, MoreItem, Source, Table, Alias, Join, Query}
use Rattle.sql_grammar.specs.Grammar as r
use Rattle.sql_grammar.proofs.Machine as m
use Rattle.sql_grammar.proofs.Machine.{Item, Raw, Dotted, E, Listed, Numbered, Ordered, Row, Right, S, AliasAs, SampledBy, Seeded, OnExpression, Waiting, Rest, JoinsTo, Clauses, empty, Tail, Combines, Side, Stack, top, fold}

-- Where nothing that belongs to it stands after a part, the part ends.
pub quoted-free : (a : Name) (σ : Stack) → 1 ≤ top σ → m.quoted a σ ≡ E (Path a []) ∷ σ
unfolding m.quoted m.top m.rank
quoted-free a [] h = refl
quoted-free a (Dotted b ns ∷ σ) h = absurd (omega arith)
quoted-free a (x ∷ σ) h = refl

pub grouped-free : (q : Query) (σ : Stack) → 1 ≤ top σ → m.grouped q σ ≡ E (SingleValue q) ∷ σ
unfolding m.grouped m.top m.rank
grouped-free q [] h = refl
grouped-free q (Combines o all b ∷ σ) h = absurd (omega arith)
grouped-free q (x ∷ σ) h = refl

pub direction-free : (σ : Stack) → 2 ≤ top σ → m.direction_of σ ≡ (Plain, σ)
unfolding m.direction_of m.top m.rank
direction-free [] h = refl
direction-free (Ordered by ∷ σ) h = absurd (omega arith)
direction-free (x ∷ σ) h = refl

pub listed-free : (e : Expression) (by : Direction) (σ : Stack) → 3 ≤ top σ → m.listed e by σ ≡ (OnlyItem e by, σ)
unfolding m.listed m.top m.rank
listed-free e by [] h = refl
listed-free e by (Listed is ∷ σ) h = absurd (omega arith)
listed-free e by (x ∷ σ) h = refl

pub numbered-free : (n : List ℕ) (by : Direction) (σ : Stack) → 3 ≤ top σ → m.numbered n by σ ≡ (OnlyPlace n by, σ)
unfolding m.numbered m.top m.rank
numbered-free n by [] h = refl
numbered-free n by (Numbered ps ∷ σ) h = absurd (omega arith)
numbered-free n by (x ∷ σ) h = refl

pub after_name-free : (o : Bool) (a : Name) (ns : List Name) (σ : Stack) → 4 ≤ top σ
    → m.after_name o a ns σ ≡ (Table a ns o Whole, σ)
unfolding m.after_name m.top m.rank
after_name-free o a ns [] h = refl
after_name-free o a ns (AliasAs b ∷ σ) h = absurd (omega arith)
after_name-free o a ns (SampledBy s ∷ σ) h = absurd (omega arith)
after_name-free o a ns (x ∷ σ) h = refl

pub seed-free : (σ : Stack) → 4 ≤ top σ → m.seed_of σ ≡ (None, σ)
unfolding m.seed_of m.top m.rank
seed-free [] h = refl
seed-free (Seeded s ∷ σ) h = absurd (omega arith)
seed-free (x ∷ σ) h = refl

pub wait-free : (σ : Stack) → 4 ≤ top σ → m.wait_of σ ≡ (Waits, σ)
unfolding m.wait_of m.top m.rank
wait-free [] h = refl
wait-free (Waiting w ∷ σ) h = absurd (omega arith)
wait-free (x ∷ σ) h = refl

-- a path
pub names-law : (a : Name) (ns : List Name) (rest : List Token) → 1 ≤ top (fold rest)
    → fold (r.names a ns rest) ≡ E (Path a ns) ∷ fold rest
unfolding m.fold m.step m.dot m.quoted m.name_in m.names_in r.names
names-law a [] rest h = quoted-free a (fold rest) h
names-law a (b ∷ bs) rest h = ap (λ σ. m.quoted a (m.dot σ)) (names-law b bs rest h)

-- a list, as it stands on the stack
unfoldable pub push_direction : Direction → Stack → Stack
push_direction Plain σ = σ
push_direction Ascending σ = Ordered Ascending ∷ σ
push_direction Descending σ = Ordered Descending ∷ σ

unfoldable pub behind : Items → Stack → Stack
behind (OnlyItem e by) σ = push_direction by σ
behind (MoreItem e by more) σ = push_direction by (Listed more ∷ σ)

unfoldable pub plain : Expressions → Items
plain (OnlyExpression e) = OnlyItem e Plain
plain (MoreExpression e more) = MoreItem e Plain (plain more)

pub expressions-back : (es : Expressions) → m.expressions_of (plain es) ≡ es
unfolding m.expressions_of plain
expressions-back (OnlyExpression e) = refl
expressions-back (MoreExpression e more) = ap (MoreExpression e) (expressions-back more)

pub items-back : (is : Items) (σ : Stack) → 3 ≤ top σ → m.items_of (m.first is) (behind is σ) ≡ (is, σ)
unfolding m.items_of m.first m.direction_of m.listed behind push_direction
items-back (OnlyItem e Plain) σ h =
    ap (λ (d : Direction × Stack). m.listed e d.0 d.1) (direction-free σ (omega arith)) ∙ listed-free e Plain σ h
items-back (OnlyItem e Ascending) σ h = listed-free e Ascending σ h
items-back (OnlyItem e Descending) σ h = listed-free e Descending σ h
items-back (MoreItem e Plain more) σ h = refl
items-back (MoreItem e Ascending more) σ h = refl
items-back (MoreItem e Descending more) σ h = refl

pub direction-law : (by : Direction) (rest : List Token) → fold (r.direction by rest) ≡ push_direction by (fold rest)
unfolding m.fold m.step m.word r.direction push_direction
direction-law Plain rest = refl
direction-law Ascending rest = refl
direction-law Descending rest = refl

pub direction-calm : (by : Direction) (σ : Stack) → 2 ≤ top σ → 1 ≤ top (push_direction by σ)
unfolding m.top m.rank push_direction
direction-calm Plain σ h = omega arith
direction-calm Ascending σ h = lit≤ tt
direction-calm Descending σ h = lit≤ tt

pub listed-calm : (is : Items) (σ : Stack) → 2 ≤ top (Listed is ∷ σ)
unfolding m.top m.rank
listed-calm is σ = lit≤ tt

pub comma-items : (is : Items) (σ : Stack) → 3 ≤ top σ → m.comma (E (m.first is) ∷ behind is σ) ≡ Listed is ∷ σ
unfolding m.comma m.put_listed
comma-items is σ h = ap m.put_listed (items-back is σ h)

pub row-items : (es : Expressions) (σ : Stack)
    → m.open_bracket (E (m.first (plain es)) ∷ behind (plain es) (Raw Close ∷ σ)) ≡ Row (plain es) ∷ σ
unfolding m.open_bracket m.open_expression m.open_listed m.first plain behind push_direction
row-items (OnlyExpression e) σ = refl
row-items (MoreExpression e more) σ = refl

-- placeholders
unfoldable pub marked : Mark → List Mark → Expressions
marked p [] = OnlyExpression (Placeholder p)
marked p (n ∷ ns) = MoreExpression (Placeholder p) (marked n ns)

pub marks-law : (p : Mark) (ps : List Mark) (rest : List Token) → 3 ≤ top (fold rest)
    → fold (r.marks p ps rest) ≡ E (m.first (plain (marked p ps))) ∷ behind (plain (marked p ps)) (fold rest)
unfolding m.fold m.step m.first r.marks plain marked behind push_direction
marks-law p [] rest h = refl
marks-law p (n ∷ ns) rest h =
    ap (λ σ. E (Placeholder p) ∷ σ)
    (ap m.comma (marks-law n ns rest h) ∙ comma-items (plain (marked n ns)) (fold rest) h)

pub marks-back : (p : Mark) (ps : List Mark) → m.marks_of (plain (marked p ps)) ≡ p ∷ ps
unfolding m.marks_of m.mark_in plain marked
marks-back p [] = refl
marks-back p (n ∷ ns) = ap (λ xs. p ∷ xs) (marks-back n ns)

pub more_marks-back : (p : Mark) (ps : List Mark) → m.more_marks (plain (marked p ps)) ≡ ps
unfolding m.more_marks plain marked
more_marks-back p [] = refl
more_marks-back p (n ∷ ns) = marks-back n ns

pub first_mark-back : (p : Mark) (ps : List Mark) → m.mark_in (m.first (plain (marked p ps))) ≡ p
unfolding m.mark_in m.first plain marked
first_mark-back p [] = refl
first_mark-back p (n ∷ ns) = refl

-- places
unfoldable pub behind_place : Places → Stack → Stack
behind_place (OnlyPlace n by) σ = push_direction by σ
behind_place (MorePlace n by more) σ = push_direction by (Numbered more ∷ σ)

unfoldable pub first_place : Places → List ℕ
first_place (OnlyPlace n by) = n
first_place (MorePlace n by more) = n

pub places-back : (ps : Places) (σ : Stack) → 3 ≤ top σ → m.places_of (first_place ps) (behind_place ps σ) ≡ (ps, σ)
unfolding m.places_of m.direction_of m.numbered first_place behind_place push_direction
places-back (OnlyPlace n Plain) σ h =
    ap (λ (d : Direction × Stack). m.numbered n d.0 d.1) (direction-free σ (omega arith)) ∙ numbered-free n Plain σ h
places-back (OnlyPlace n Ascending) σ h = numbered-free n Ascending σ h
places-back (OnlyPlace n Descending) σ h = numbered-free n Descending σ h
places-back (MorePlace n Plain more) σ h = refl
places-back (MorePlace n Ascending more) σ h = refl
places-back (MorePlace n Descending more) σ h = refl

pub places-law : (ps : Places) (rest : List Token) → 3 ≤ top (fold rest)
    → fold (r.places ps rest) ≡ Raw (Number (first_place ps)) ∷ behind_place ps (fold rest)
unfolding m.fold m.step m.comma m.comma_token m.put_numbered r.places first_place behind_place
places-law (OnlyPlace n by) rest h = ap (λ σ. Raw (Number n) ∷ σ) (direction-law by rest)
places-law (MorePlace n by more) rest h =
    let c : m.comma (fold (r.places more rest)) ≡ Numbered more ∷ fold rest =
    ap m.comma (places-law more rest h) ∙ ap m.put_numbered (places-back more (fold rest) h) in
    ap (λ σ. Raw (Number n) ∷ σ) (direction-law by (Comma ∷ r.places more rest) ∙ ap (push_direction by) c)

-- a sample
pub seed-law : (s : Option Mark) (rest : List Token) → 4 ≤ top (fold rest)
    → m.seed_of (fold (r.seed s rest)) ≡ (s, fold rest)
unfolding m.fold m.step m.word m.seeded m.seed_of m.open_bracket m.open_expression m.first m.mark_in r.seed
seed-law None rest h = seed-free (fold rest) h
seed-law (Some p) rest h = refl

put_sample : SampleMethod → Mark → Option Mark × Stack → Stack
put_sample by p (s, σ) = SampledBy (Sampled by p s) ∷ σ

pub sample-law : (by : SampleMethod) (p : Mark) (s : Option Mark) (rest : List Token) → 4 ≤ top (fold rest)
    → fold (r.sample (Sampled by p s) rest) ≡ SampledBy (Sampled by p s) ∷ fold rest
unfolding m.fold m.step m.word m.sampled m.open_bracket m.open_expression m.first m.mark_in r.sample r.method put_sample
sample-law Bernoulli p s rest h = ap (put_sample Bernoulli p) (seed-law s rest h)
sample-law System p s rest h = ap (put_sample System p) (seed-law s rest h)

-- a source, as it stands on the stack
unfoldable pub push_source : Source → Stack → Stack
push_source (Table a ns false Whole) σ = E (Path a ns) ∷ σ
push_source (Table a ns false (Sampled by p s)) σ = E (Path a ns) ∷ SampledBy (Sampled by p s) ∷ σ
push_source (Table a ns true s) σ = S (Table a ns true s) ∷ σ
push_source (Alias a ns b) σ = E (Path a ns) ∷ AliasAs b ∷ σ
push_source (Join k a b e) σ = S (Join k a b e) ∷ σ

pub source-back : (s : Source) (σ : Stack) → 4 ≤ top σ → m.source_of (push_source s σ) ≡ (s, σ)
unfolding m.source_of m.after_name m.name_in m.names_in push_source
source-back (Table a ns false Whole) σ h = after_name-free false a ns σ h
source-back (Table a ns false (Sampled by p s)) σ h = refl
source-back (Table a ns true s) σ h = refl
source-back (Alias a ns b) σ h = refl
source-back (Join k a b e) σ h = refl

pub from-push : (s : Source) (σ : Stack) → 4 ≤ top σ → m.from (push_source s σ) ≡ m.from_source (s, σ)
unfolding m.from m.from_expression m.after_name m.name_in m.names_in push_source
from-push (Table a ns false Whole) σ h = ap m.from_source (after_name-free false a ns σ h)
from-push (Table a ns false (Sampled by p s)) σ h = refl
from-push (Table a ns true s) σ h = refl
from-push (Alias a ns b) σ h = refl
from-push (Join k a b e) σ h = refl

pub open-push : (k : JoinKind) (a b : Source) (e : Expression) (σ : Stack)
    → m.open_bracket (push_source a (Right (JoinsTo k b e) ∷ σ)) ≡ push_source (Join k a b e) σ
unfolding m.open_bracket m.open_expression m.open_source m.source_item m.complete m.name_in m.names_in push_source
open-push k (Table a ns false Whole) b e σ = refl
open-push k (Table a ns false (Sampled by p s)) b e σ = refl
open-push k (Table a ns true s) b e σ = refl
open-push k (Alias a ns c) b e σ = refl
open-push k (Join k' a c f) b e σ = refl

pub kind-law : (k : JoinKind) (b : Source) (e : Expression) (u : List Token) (σ : Stack)
    → fold u ≡ push_source b (OnExpression e ∷ σ) → fold (r.kind k u) ≡ Right (JoinsTo k b e) ∷ σ
unfolding m.fold m.step m.word m.join m.join_of m.join_with m.join_on r.kind m.top m.rank
kind-law Inner b e u σ h =
    ap (λ τ. m.join_of Inner (m.join τ)) h
    ∙ ap (λ p. m.join_of Inner (m.join_with p)) (source-back b (OnExpression e ∷ σ) (lit≤ tt))
kind-law LeftOuter b e u σ h =
    ap (λ τ. m.join_of LeftOuter (m.join τ)) h
    ∙ ap (λ p. m.join_of LeftOuter (m.join_with p)) (source-back b (OnExpression e ∷ σ) (lit≤ tt))

pub table-law : (a : Name) (ns : List Name) (o : Bool) (s : Sample) (rest : List Token) → 4 ≤ top (fold rest)
    → fold (r.only o (r.names a ns (r.sample s rest))) ≡ push_source (Table a ns o s) (fold rest)
unfolding m.fold m.step m.word m.only m.only_item m.after_name m.name_in m.names_in r.only r.sample push_source m.top m.rank
table-law a ns false Whole rest h = names-law a ns rest (omega arith)
table-law a ns true Whole rest h =
    ap m.only (names-law a ns rest (omega arith)) ∙ ap m.only_item (after_name-free true a ns (fold rest) h)
table-law a ns false (Sampled by p s) rest h =
    let e = sample-law by p s rest h in names-law a ns _ (rw e (lit≤ tt)) ∙ ap (λ σ. E (Path a ns) ∷ σ) e
table-law a ns true (Sampled by p s) rest h =
    let e = sample-law by p s rest h in ap m.only (names-law a ns _ (rw e (lit≤ tt)) ∙ ap (λ σ. E (Path a ns) ∷ σ) e)

pub alias-law : (a : Name) (ns : List Name) (b : Name) (rest : List Token) → 4 ≤ top (fold rest)
    → fold (r.names a ns (Word AS ∷ Quoted b ∷ rest)) ≡ push_source (Alias a ns b) (fold rest)
unfolding m.fold m.step m.word m.alias_as m.name_in m.names_in push_source m.top m.rank
alias-law a ns b rest h =
    let e : m.alias_as (m.quoted b (fold rest)) ≡ AliasAs b ∷ fold rest =
    ap m.alias_as (quoted-free b (fold rest) (omega arith)) in
    names-law a ns _ (rw e (lit≤ tt)) ∙ ap (λ σ. E (Path a ns) ∷ σ) e
