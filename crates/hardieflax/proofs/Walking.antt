-- The lemmas on walks, for parts of one's own: `#![tactic(auto, using(hardieflax::proofs::Walking::walking))]`.
use Rattle.sql_pass.proofs.Walking.{walks-none, walks-fail, walks-then}

pub ruleset walking = (walks-none, walks-fail, walks-then)
