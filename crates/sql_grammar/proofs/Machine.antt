-- A machine that takes the tokens from the last to the first, and keeps what they have come to in a list.
-- It takes any dialect, and more than the grammar: only that it gives back the tree of each reading counts.
use Rattle.std.specs.Prelude.{ℕ, List, [], ◌∷◌, Option, Some, None, Bool, true, false, nat_eq}
use Rattle.sql_grammar.specs.Token.{Comparison, Equal, Keyword, SELECT, DISTINCT, ON, FROM, WHERE, GROUP, BY, HAVING, ORDER, ASC, DESC, LIMIT, OFFSET, FOR, UPDATE, SHARE, NO, KEY, SKIP, LOCKED, NOWAIT, UNION, INTERSECT, EXCEPT, ALL, AS, ONLY, TABLESAMPLE, BERNOULLI, SYSTEM, REPEATABLE, INNER, LEFT, OUTER, JOIN, EXISTS, AND, OR, NOT, IS, NULL, COUNT, ANY, IN, ROWS, FETCH, NEXT, Token, Quoted, Word, Number, Sign, Open, Close, Comma, Dot, Star, Minus}
use Rattle.sql_grammar.specs.Token as token
use Rattle.sql_grammar.specs.MarkTree.{Mark, Name, Logic, And, Or, Direction, Plain, Ascending, Descending, JoinKind, Inner, LeftOuter, SampleMethod, Bernoulli, System, SetOperator, Union, Intersect, Except, LockMode, ForUpdate, ForNoKeyUpdate, ForShare, ForKeyShare, LockWait, Waits, SkipLocked, NoWait, Lock, Unlocked, Locks, Sample, Whole, Sampled, Page, PageBy, FetchBy, Places, OnlyPlace, MorePlace, MaybePlaces, NoPlaces, SomePlaces, Expression, Path, Placeholder, SingleValue, Exists, Compared, Connected, Not, NullTest, CountAll, Count, InList, InQuery, Constant, Expressions, OnlyExpression, MoreExpression, Items, OnlyItem, MoreItem, Source, Table, Alias, Join, MaybeExpression, NoExpression, SomeExpression, MaybeExpressions, NoExpressions, SomeExpressions, MaybeItems, NoItems, SomeItems, MaybeSource, NoSource, SomeSource, Distinctness, Every, Distinct, DistinctOn, Query, Select, Combined}

-- what stands after the first part of a bracket, with the bracket's end
pub data Rest : Type 0 where
  Compares : Comparison → Expression → Rest
  Joins : Logic → Expression → Rest
  IsNull : Bool → Rest
  IsIn : Bool → Items → Rest
  IsInQuery : Bool → Query → Rest
  Equals : List ℕ → Rest
  JoinsTo : JoinKind → Source → Expression → Rest

-- the clauses after a selection
pub record Clauses : Type 0 where
  pub source : MaybeSource
  pub filter : MaybeExpression
  pub group : MaybeExpressions
  pub having : MaybeExpression
  pub order : MaybeItems
  pub places : MaybePlaces
  pub page : Page
  pub lock : Lock

abbrev pub empty : Clauses
empty =
    record {
      source = NoSource;
      filter = NoExpression;
      group = NoExpressions;
      having = NoExpression;
      order = NoItems;
      places = NoPlaces;
      page = PageBy None None;
      lock = Unlocked;
    }

pub data Item : Type 0 where
  -- a token as it is
  Raw : Token → Item
  -- a dot and the path after it
  Dotted : Name → List Name → Item
  E : Expression → Item
  -- a comma and the list after it
  Listed : Items → Item
  Numbered : Places → Item
  Ordered : Direction → Item
  -- a list in brackets
  Row : Items → Item
  StarRow : Item
  Right : Rest → Item
  Q : Query → Item
  -- the right side of a combination, with its operator
  Combines : SetOperator → Bool → Query → Item
  -- a side as Sqlite has it, and without its first two tokens
  Side : Query → Item
  FromQuery : Query → Item
  S : Source → Item
  AliasAs : Name → Item
  SampledBy : Sample → Item
  Seeded : Mark → Item
  OnExpression : Expression → Item
  OnRow : Items → Item
  JoinTo : Source → Expression → Item
  Distinctly : Distinctness → Item
  Waiting : LockWait → Item
  Locking : LockMode → LockWait → Item
  -- `ROWS ONLY` without and with its first word, and the number of rows to fetch
  OnlyLast : Item
  RowsOnly : Item
  Fetches : Mark → Item
  Tail : Clauses → Item

abbrev pub Stack : Type 0
Stack = List Item

-- how closely an item joins to what stands before it
unfoldable pub rank : Item → ℕ
rank (E e) = 0
rank (Dotted a ns) = 0
rank (Combines o all q) = 0
rank (Ordered by) = 1
rank (Listed is) = 2
rank (Numbered ps) = 2
rank (AliasAs a) = 3
rank (SampledBy s) = 3
rank (Seeded m) = 3
rank (Waiting w) = 3
rank OnlyLast = 3
rank RowsOnly = 3
rank (Fetches l) = 3
rank _ = 4

unfoldable pub top : Stack → ℕ
top [] = 4
top (x ∷ σ) = rank x

-- what a list or an expression holds, where it is what it should be
unfoldable pub query_in : Expression → Option Query
query_in (SingleValue q) = Some q
query_in _ = None

unfoldable pub mark_in : Expression → Mark
mark_in (Placeholder m) = m
mark_in _ = None

unfoldable pub name_in : Expression → Name
name_in (Path a ns) = a
name_in _ = []

unfoldable pub names_in : Expression → List Name
names_in (Path a ns) = ns
names_in _ = []

unfoldable pub first : Items → Expression
first (OnlyItem e by) = e
first (MoreItem e by more) = e

unfoldable pub marks_of : Items → List Mark
marks_of (OnlyItem e by) = mark_in e ∷ []
marks_of (MoreItem e by more) = mark_in e ∷ marks_of more

unfoldable pub more_marks : Items → List Mark
more_marks (OnlyItem e by) = []
more_marks (MoreItem e by more) = marks_of more

unfoldable pub expressions_of : Items → Expressions
expressions_of (OnlyItem e by) = OnlyExpression e
expressions_of (MoreItem e by more) = MoreExpression e (expressions_of more)

-- parts that may stand first on a stack
unfoldable pub direction_of : Stack → Direction × Stack
direction_of (Ordered by ∷ σ) = (by, σ)
direction_of σ = (Plain, σ)

unfoldable pub listed : Expression → Direction → Stack → Items × Stack
listed e by (Listed more ∷ σ) = (MoreItem e by more, σ)
listed e by σ = (OnlyItem e by, σ)

unfoldable pub items_of : Expression → Stack → Items × Stack
items_of e σ = let d = direction_of σ in listed e d.0 d.1

unfoldable pub numbered : List ℕ → Direction → Stack → Places × Stack
numbered n by (Numbered more ∷ σ) = (MorePlace n by more, σ)
numbered n by σ = (OnlyPlace n by, σ)

unfoldable pub places_of : List ℕ → Stack → Places × Stack
places_of n σ = let d = direction_of σ in numbered n d.0 d.1

unfoldable pub tail_of : Stack → Clauses × Stack
tail_of (Tail t ∷ σ) = (t, σ)
tail_of σ = (empty, σ)

unfoldable pub wait_of : Stack → LockWait × Stack
wait_of (Waiting w ∷ σ) = (w, σ)
wait_of σ = (Waits, σ)

unfoldable pub seed_of : Stack → Option Mark × Stack
seed_of (Seeded m ∷ σ) = (Some m, σ)
seed_of σ = (None, σ)

unfoldable pub after_name : Bool → Name → List Name → Stack → Source × Stack
after_name o a ns (AliasAs b ∷ σ) = (Alias a ns b, σ)
after_name o a ns (SampledBy s ∷ σ) = (Table a ns o s, σ)
after_name o a ns σ = (Table a ns o Whole, σ)

unfoldable pub source_of : Stack → Source × Stack
source_of (S s ∷ σ) = (s, σ)
source_of (E e ∷ σ) = after_name false (name_in e) (names_in e) σ
source_of σ = (Table [] [] false Whole, σ)

-- steps
unfoldable pub quoted : Name → Stack → Stack
quoted a (Dotted b ns ∷ σ) = E (Path a (b ∷ ns)) ∷ σ
quoted a σ = E (Path a []) ∷ σ

unfoldable pub dot : Stack → Stack
dot (E e ∷ σ) = Dotted (name_in e) (names_in e) ∷ σ
dot _ = []

unfoldable pub put_listed : Items × Stack → Stack
put_listed (is, σ) = Listed is ∷ σ

unfoldable pub put_numbered : Places × Stack → Stack
put_numbered (ps, σ) = Numbered ps ∷ σ

unfoldable pub comma_token : Token → Stack → Stack
comma_token (Number n) σ = put_numbered (places_of n σ)
comma_token _ σ = []

unfoldable pub comma : Stack → Stack
comma (E e ∷ σ) = put_listed (items_of e σ)
comma (Raw t ∷ σ) = comma_token t σ
comma _ = []

unfoldable pub negated : Comparison → Bool
negated Equal = false
negated _ = true

unfoldable pub in_query : Bool → Option Query → Stack → Stack
in_query b (Some q) σ = Right (IsInQuery b q) ∷ σ
in_query b None σ = []

-- after IN, ANY and ALL
unfoldable pub in_row : Bool → Stack → Stack
in_row b (Row is ∷ x ∷ σ) = Right (IsIn b is) ∷ σ
in_row b (E e ∷ x ∷ σ) = in_query b (query_in e) σ
in_row b _ = []

unfoldable pub sign_token : Comparison → Token → Stack → Stack
sign_token by (Number n) (x ∷ σ) = Right (Equals n) ∷ σ
sign_token by (Word k) σ = in_row (negated by) σ
sign_token by _ _ = []

unfoldable pub sign : Comparison → Stack → Stack
sign by (E b ∷ x ∷ σ) = Right (Compares by b) ∷ σ
sign by (Raw t ∷ σ) = sign_token by t σ
sign by _ = []

unfoldable pub joins : Logic → Stack → Stack
joins by (E b ∷ x ∷ σ) = Right (Joins by b) ∷ σ
joins by _ = []

unfoldable pub constant_of : List ℕ → Bool
constant_of [] = false
constant_of (n ∷ ns) = nat_eq n 49

unfoldable pub source_item : Source → Rest → Item
source_item a (JoinsTo k b e) = S (Join k a b e)
source_item a _ = StarRow

unfoldable pub complete : Expression → Rest → Item
complete a (Compares by b) = E (Compared by a b)
complete a (Joins by b) = E (Connected by a b)
complete a (IsNull b) = E (NullTest b a)
complete a (IsIn b is) = E (InList b a (mark_in (first is)) (more_marks is))
complete a (IsInQuery b q) = E (InQuery b a q)
complete a (Equals n) = StarRow
complete a (JoinsTo k b e) = S (Join k (Table (name_in a) (names_in a) false Whole) b e)

unfoldable pub open_source : Source → Stack → Stack
open_source a (Right r ∷ σ) = source_item a r ∷ σ
open_source a _ = []

unfoldable pub open_listed : Expression → Items → Stack → Stack
open_listed e is (x ∷ σ) = Row (MoreItem e Plain is) ∷ σ
open_listed e is [] = []

unfoldable pub open_expression : Expression → Stack → Stack
open_expression e (Right r ∷ σ) = complete e r ∷ σ
open_expression e (Listed is ∷ σ) = open_listed e is σ
open_expression e (AliasAs b ∷ σ) = open_source (Alias (name_in e) (names_in e) b) σ
open_expression e (SampledBy s ∷ σ) = open_source (Table (name_in e) (names_in e) false s) σ
open_expression e (x ∷ σ) = Row (OnlyItem e Plain) ∷ σ
open_expression e [] = []

unfoldable pub combined : Query → SetOperator → Bool → Query → Clauses × Stack → Stack
combined a by all b (t, σ) = Q (Combined a by all b t.places t.page) ∷ σ

-- after a query in brackets
unfoldable pub grouped : Query → Stack → Stack
grouped q (Combines by all b ∷ σ) = combined q by all b (tail_of σ)
grouped q σ = E (SingleValue q) ∷ σ

unfoldable pub open_query : Query → Stack → Stack
open_query q (x ∷ σ) = grouped q σ
open_query q [] = []

unfoldable pub open_number : Stack → Stack
open_number (Right (Equals n) ∷ σ) = E (Constant (constant_of n)) ∷ σ
open_number _ = []

unfoldable pub open_token : Token → Stack → Stack
open_token Star (x ∷ σ) = StarRow ∷ σ
open_token (Number n) σ = open_number σ
open_token _ _ = []

unfoldable pub open_bracket : Stack → Stack
open_bracket (E e ∷ σ) = open_expression e σ
open_bracket (Q q ∷ σ) = open_query q σ
open_bracket (S s ∷ σ) = open_source s σ
open_bracket (Raw t ∷ σ) = open_token t σ
open_bracket _ = []

unfoldable pub select_list : Distinctness → Items × Stack → Stack
select_list u (is, σ) =
    let c = tail_of σ in let t = c.0 in
    Q (Select u (expressions_of is) t.source t.filter t.group t.having t.order t.page t.lock) ∷ c.1

unfoldable pub select_from : Distinctness → Stack → Stack
select_from u (E e ∷ σ) = select_list u (items_of e σ)
select_from u _ = []

unfoldable pub select_star : Stack → Stack
select_star (FromQuery q ∷ σ) = Side q ∷ σ
select_star (Q q ∷ σ) = Q q ∷ σ
select_star _ = []

unfoldable pub select : Stack → Stack
select (Distinctly u ∷ σ) = select_from u σ
select (Raw t ∷ σ) = select_star σ
select (E e ∷ σ) = select_from Every (E e ∷ σ)
select _ = []

unfoldable pub distinctly : Stack → Stack
distinctly (OnRow is ∷ σ) = Distinctly (DistinctOn (expressions_of is)) ∷ σ
distinctly σ = Distinctly Distinct ∷ σ

unfoldable pub on : Stack → Stack
on (E e ∷ x ∷ σ) = OnExpression e ∷ σ
on (Row is ∷ σ) = OnRow is ∷ σ
on _ = []

unfoldable pub put_tail : Clauses → Stack → Stack
put_tail t σ = Tail t ∷ σ

unfoldable pub from_source : Source × Stack → Stack
from_source (s, σ) = let c = tail_of σ in Tail (record c.0 { source = SomeSource s }) ∷ c.1

unfoldable pub from_expression : Expression → Stack → Stack
from_expression (SingleValue q) σ = FromQuery q ∷ σ
from_expression e σ = from_source (after_name false (name_in e) (names_in e) σ)

unfoldable pub from : Stack → Stack
from (E e ∷ σ) = from_expression e σ
from (S s ∷ σ) = from_source (s, σ)
from (Q q ∷ σ) = Q q ∷ σ
from _ = []

unfoldable pub where_by : Stack → Stack
where_by (E e ∷ σ) = let c = tail_of σ in Tail (record c.0 { filter = SomeExpression e }) ∷ c.1
where_by _ = []

unfoldable pub having_by : Stack → Stack
having_by (E e ∷ σ) = let c = tail_of σ in Tail (record c.0 { having = SomeExpression e }) ∷ c.1
having_by _ = []

unfoldable pub put_group : Items × Stack → Stack
put_group (is, σ) = let c = tail_of σ in Tail (record c.0 { group = SomeExpressions (expressions_of is) }) ∷ c.1

unfoldable pub group_by : Stack → Stack
group_by (E e ∷ σ) = put_group (items_of e σ)
group_by _ = []

unfoldable pub put_order : Items × Stack → Stack
put_order (is, σ) = let c = tail_of σ in Tail (record c.0 { order = SomeItems is }) ∷ c.1

unfoldable pub put_places : Places × Stack → Stack
put_places (ps, σ) = let c = tail_of σ in Tail (record c.0 { places = SomePlaces ps }) ∷ c.1

unfoldable pub order_token : Token → Stack → Stack
order_token (Number n) σ = put_places (places_of n σ)
order_token _ _ = []

unfoldable pub order_by : Stack → Stack
order_by (E e ∷ σ) = put_order (items_of e σ)
order_by (Raw t ∷ σ) = order_token t σ
order_by _ = []

unfoldable pub put_page : Page → Clauses × Stack → Stack
put_page p (t, σ) = Tail (record t { page = p }) ∷ σ

unfoldable pub offset_in : Page → Option Mark
offset_in (PageBy l o) = o
offset_in (FetchBy o l) = o

unfoldable pub put_limit : Mark → Clauses × Stack → Stack
put_limit l (t, σ) = Tail (record t { page = PageBy (Some l) (offset_in t.page) }) ∷ σ

unfoldable pub limit_token : Token → Stack → Stack
limit_token Minus (x ∷ σ) = σ
limit_token _ σ = σ

unfoldable pub limit_by : Stack → Stack
limit_by (E e ∷ σ) = put_limit (mark_in e) (tail_of σ)
limit_by (Raw t ∷ σ) = limit_token t σ
limit_by _ = []

unfoldable pub offset_of : Mark → Stack → Stack
offset_of o (Fetches l ∷ σ) = put_page (FetchBy (Some o) l) (tail_of σ)
offset_of o σ = put_page (PageBy None (Some o)) (tail_of σ)

unfoldable pub no_offset : Stack → Stack
no_offset (Fetches l ∷ σ) = put_page (FetchBy None l) (tail_of σ)
no_offset _ = []

unfoldable pub offset_by : Stack → Stack
offset_by (E e ∷ σ) = offset_of (mark_in e) σ
offset_by (Raw t ∷ σ) = no_offset σ
offset_by _ = []

unfoldable pub lock_by : Stack → Stack
lock_by (Locking m w ∷ σ) = let c = tail_of σ in Tail (record c.0 { lock = Locks m w }) ∷ c.1
lock_by _ = []

unfoldable pub locking : LockMode → Stack → Stack
locking m σ = let w = wait_of σ in Locking m w.0 ∷ w.1

unfoldable pub key_mode : LockMode → LockMode
key_mode ForShare = ForKeyShare
key_mode _ = ForNoKeyUpdate

unfoldable pub key : Stack → Stack
key (Locking m w ∷ σ) = Locking (key_mode m) w ∷ σ
key _ = []

unfoldable pub all_or_not : SetOperator → Bool → Stack → Stack
all_or_not by all (Side q ∷ σ) = Combines by all q ∷ σ
all_or_not by all (E (SingleValue q) ∷ σ) = Combines by all q ∷ σ
all_or_not by all _ = []

unfoldable pub combines : SetOperator → Stack → Stack
combines by (Raw t ∷ σ) = all_or_not by true σ
combines by σ = all_or_not by false σ

unfoldable pub alias_as : Stack → Stack
alias_as (E e ∷ σ) = AliasAs (name_in e) ∷ σ
alias_as _ = []

unfoldable pub only_item : Source × Stack → Stack
only_item (s, σ) = S s ∷ σ

unfoldable pub only : Stack → Stack
only (E e ∷ σ) = only_item (after_name true (name_in e) (names_in e) σ)
only σ = OnlyLast ∷ σ

unfoldable pub rows : Stack → Stack
rows (OnlyLast ∷ σ) = RowsOnly ∷ σ
rows σ = σ

unfoldable pub fetch : Stack → Stack
fetch (E e ∷ x ∷ σ) = Fetches (mark_in e) ∷ σ
fetch _ = []

unfoldable pub sampled : SampleMethod → Stack → Stack
sampled by (Row is ∷ σ) = let m = seed_of σ in SampledBy (Sampled by (mark_in (first is)) m.0) ∷ m.1
sampled by _ = []

unfoldable pub seeded : Stack → Stack
seeded (Row is ∷ σ) = Seeded (mark_in (first is)) ∷ σ
seeded _ = []

unfoldable pub join_on : Source → Stack → Stack
join_on s (OnExpression e ∷ σ) = JoinTo s e ∷ σ
join_on s _ = []

unfoldable pub join_with : Source × Stack → Stack
join_with (s, σ) = join_on s σ

unfoldable pub join : Stack → Stack
join σ = join_with (source_of σ)

unfoldable pub join_of : JoinKind → Stack → Stack
join_of k (JoinTo s e ∷ σ) = Right (JoinsTo k s e) ∷ σ
join_of k _ = []

unfoldable pub exists_item : Option Query → Stack → Stack
exists_item (Some q) σ = E (Exists q) ∷ σ
exists_item None σ = []

unfoldable pub exists : Stack → Stack
exists (E e ∷ σ) = exists_item (query_in e) σ
exists _ = []

unfoldable pub negate : Rest → Rest
negate (IsNull b) = IsNull true
negate (IsIn b is) = IsIn true is
negate (IsInQuery b q) = IsInQuery true q
negate r = r

unfoldable pub not_of : Stack → Stack
not_of (Row is ∷ σ) = E (Not (first is)) ∷ σ
not_of (Right r ∷ σ) = Right (negate r) ∷ σ
not_of _ = []

unfoldable pub null : Stack → Stack
null (x ∷ σ) = Right (IsNull false) ∷ σ
null [] = []

unfoldable pub count : Stack → Stack
count (Row is ∷ σ) = E (Count (first is)) ∷ σ
count (StarRow ∷ σ) = E CountAll ∷ σ
count _ = []

unfoldable pub skip : Stack → Stack
skip (x ∷ σ) = Waiting SkipLocked ∷ σ
skip [] = []

unfoldable pub word : Keyword → Stack → Stack
word SELECT σ = select σ
word DISTINCT σ = distinctly σ
word ON σ = on σ
word FROM σ = from σ
word WHERE σ = where_by σ
word GROUP σ = group_by σ
word BY σ = σ
word HAVING σ = having_by σ
word ORDER σ = order_by σ
word ASC σ = Ordered Ascending ∷ σ
word DESC σ = Ordered Descending ∷ σ
word LIMIT σ = limit_by σ
word OFFSET σ = offset_by σ
word FOR σ = lock_by σ
word UPDATE σ = locking ForUpdate σ
word SHARE σ = locking ForShare σ
word NO σ = σ
word KEY σ = key σ
word SKIP σ = skip σ
word LOCKED σ = Raw (Word LOCKED) ∷ σ
word NOWAIT σ = Waiting NoWait ∷ σ
word UNION σ = combines Union σ
word INTERSECT σ = combines Intersect σ
word EXCEPT σ = combines Except σ
word ALL σ = Raw (Word ALL) ∷ σ
word AS σ = alias_as σ
word ONLY σ = only σ
word TABLESAMPLE σ = σ
word BERNOULLI σ = sampled Bernoulli σ
word SYSTEM σ = sampled System σ
word REPEATABLE σ = seeded σ
word INNER σ = join_of Inner σ
word LEFT σ = σ
word OUTER σ = join_of LeftOuter σ
word JOIN σ = join σ
word EXISTS σ = exists σ
word AND σ = joins And σ
word OR σ = joins Or σ
word NOT σ = not_of σ
word IS σ = σ
word NULL σ = null σ
word COUNT σ = count σ
word ANY σ = Raw (Word ANY) ∷ σ
word IN σ = in_row false σ
word ROWS σ = rows σ
word FETCH σ = σ
word NEXT σ = fetch σ

unfoldable pub step : Token → Stack → Stack
step (Quoted a) σ = quoted a σ
step (Word k) σ = word k σ
step (token.Unknown w) σ = []
step (Number n) σ = Raw (Number n) ∷ σ
step (token.Mark m) σ = E (Placeholder m) ∷ σ
step (Sign by) σ = sign by σ
step Open σ = open_bracket σ
step Close σ = Raw Close ∷ σ
step Comma σ = comma σ
step Dot σ = dot σ
step Star σ = Raw Star ∷ σ
step Minus σ = Raw Minus ∷ σ

unfoldable pub fold : List Token → Stack
fold [] = []
fold (t ∷ ts) = step t (fold ts)

-- the query that the whole list comes to, if it comes to one
unfoldable pub candidate_of : Stack → Option Query
candidate_of (Q q ∷ []) = Some q
candidate_of _ = None

unfoldable pub candidate : List Token → Option Query
candidate ts = candidate_of (fold ts)
