-- A membership in either form, by what is sought.
use Rattle.std.proofs.Common.{◌≡◌, Bool, false, ◌||◌, refl}
use Rattle.sql_node.specs.Tree.{Expr}
use Rattle.sql_node.specs.View.{Among, among_list, among_query, among_of}
use Rattle.sql_guard.specs.Misread.{is_misread, is_negation}

pub negation-among : (n : Bool) (e : Expr) (a : Among) → is_negation (among_of n e a) ≡ false
negation-among n e (among_list ty xs) = refl
negation-among n e (among_query q) = refl

pub misread-among : (n : Bool) (e : Expr) (a : Among) → is_misread (among_of n e a) ≡ (is_negation e || is_misread e)
misread-among n e (among_list ty xs) = refl
misread-among n e (among_query q) = refl

pub ruleset misreading = (negation-among, misread-among)
