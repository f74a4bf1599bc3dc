-- The contents of a builder that numbers its placeholders.
use Rattle.std.specs.Prelude.{ℕ, List}

pub record Built : Type 0 where
  pub text : List ℕ
  pub count : ℕ
