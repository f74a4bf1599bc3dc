-- The tree of a statement: one kind of node for each production of the grammar. P is what stands at the place of a value: a
-- mark in a text that is read, a value in a tree that is filled. Lists are never empty, so each has a first element by its
-- form. The words are SQL's (PostgreSQL, SELECT; MySQL, 13.2.13 SELECT Statement; SQLite, SELECT and SQL Language
-- Expressions).
use Rattle.std.specs.Prelude.{ℕ, List, Option, Bool}
use Rattle.sql_grammar.specs.Token.{Comparison}

-- the number of a placeholder, where it has one
abbrev pub Mark : Type 0
Mark = Option ℕ

-- the bytes of a name
abbrev pub Name : Type 0
Name = List ℕ

-- ## Words that stand in a tree

pub data Logic : Type 0 where
  And : Logic
  Or : Logic

-- the direction of an order item, or none
pub data Direction : Type 0 where
  Plain : Direction
  Ascending : Direction
  Descending : Direction

pub data JoinKind : Type 0 where
  Inner : JoinKind
  LeftOuter : JoinKind

pub data SampleMethod : Type 0 where
  Bernoulli : SampleMethod
  System : SampleMethod

pub data SetOperator : Type 0 where
  Union : SetOperator
  Intersect : SetOperator
  Except : SetOperator

pub data LockMode : Type 0 where
  ForUpdate : LockMode
  ForNoKeyUpdate : LockMode
  ForShare : LockMode
  ForKeyShare : LockMode

-- what a lock does about rows that are locked already
pub data LockWait : Type 0 where
  Waits : LockWait
  SkipLocked : LockWait
  NoWait : LockWait

-- ## Parts that hold no expression

pub data Lock : Type 0 where
  Unlocked : Lock
  Locks : LockMode → LockWait → Lock

pub data Sample (P : Type 0) : Type 0 where
  Whole : Sample P
  Sampled : SampleMethod → (portion : P) (seed : Option P) → Sample P

pub data Page (P : Type 0) : Type 0 where
  PageBy : (limit offset : Option P) → Page P
  -- a page whose offset stands before its limit
  FetchBy : (offset : Option P) (limit : P) → Page P

-- columns of a combination's result by their place, each number as its digits
pub data Places : Type 0 where
  OnlyPlace : List ℕ → Direction → Places
  MorePlace : List ℕ → Direction → Places → Places

pub data MaybePlaces : Type 0 where
  NoPlaces : MaybePlaces
  SomePlaces : Places → MaybePlaces

-- ## Expressions, sources and queries

mutual
  pub data Expression (P : Type 0) : Type 0 where
    -- the first name of a path, and the names after it
    Path : Name → List Name → Expression P
    Placeholder : P → Expression P
    SingleValue : Query P → Expression P
    Exists : Query P → Expression P
    Compared : Comparison → Expression P → Expression P → Expression P
    Connected : Logic → Expression P → Expression P → Expression P
    Not : Expression P → Expression P
    -- IS NULL, or IS NOT NULL where the flag is true
    NullTest : Bool → Expression P → Expression P
    CountAll : Expression P
    Count : Expression P → Expression P
    -- membership in a list of places, or in a query; not a member where the flag is true
    InList : Bool → Expression P → P → List P → Expression P
    InQuery : Bool → Expression P → Query P → Expression P
    -- true or false whatever the row
    Constant : Bool → Expression P

  pub data Expressions (P : Type 0) : Type 0 where
    OnlyExpression : Expression P → Expressions P
    MoreExpression : Expression P → Expressions P → Expressions P

  -- order items
  pub data Items (P : Type 0) : Type 0 where
    OnlyItem : Expression P → Direction → Items P
    MoreItem : Expression P → Direction → Items P → Items P

  pub data Source (P : Type 0) : Type 0 where
    -- the path of a table, whether ONLY stands before it, and its sample
    Table : Name → List Name → Bool → Sample P → Source P
    -- the path of a table, and the alias
    Alias : Name → List Name → Name → Source P
    Join : JoinKind → Source P → Source P → (on : Expression P) → Source P

  pub data MaybeExpression (P : Type 0) : Type 0 where
    NoExpression : MaybeExpression P
    SomeExpression : Expression P → MaybeExpression P

  pub data MaybeExpressions (P : Type 0) : Type 0 where
    NoExpressions : MaybeExpressions P
    SomeExpressions : Expressions P → MaybeExpressions P

  pub data MaybeItems (P : Type 0) : Type 0 where
    NoItems : MaybeItems P
    SomeItems : Items P → MaybeItems P

  pub data MaybeSource (P : Type 0) : Type 0 where
    NoSource : MaybeSource P
    SomeSource : Source P → MaybeSource P

  pub data Distinctness (P : Type 0) : Type 0 where
    Every : Distinctness P
    Distinct : Distinctness P
    DistinctOn : Expressions P → Distinctness P

  pub data Query (P : Type 0) : Type 0 where
    -- the distinctness and list of the selection, FROM, WHERE, GROUP BY, HAVING, ORDER BY, the page and the lock
    Select :
        Distinctness P → Expressions P → (source : MaybeSource P) → (filter : MaybeExpression P)
        → (group : MaybeExpressions P)
        → (having : MaybeExpression P) → (order : MaybeItems P) → Page P → Lock → Query P
    -- a combination of two queries, with ALL where the flag is true
    Combined : Query P → SetOperator → Bool → Query P → MaybePlaces → Page P → Query P
