-- The top of the stack is the last entry.
use Rattle.std.proofs.Common.{◌≡◌, List, [], ◌∷◌, ◌++◌, map, reverse, refl, ap}
use Rattle.std.proofs.lemmas.List.{reverse-append, append-nil}
use Rattle.sql_read_machine.specs.declared.entry.Entry.{Entry}
use Rattle.sql_read_machine.specs.View.{entry_of}

pub stack_push : (xs : List Entry) (x : Entry)
    → map entry_of (reverse (xs ++ x ∷ [])) ≡ entry_of x ∷ map entry_of (reverse xs)
stack_push xs x = ap (map entry_of) (reverse-append xs (x ∷ []))

pub stack_same : (xs : List Entry) → map entry_of (reverse (xs ++ [])) ≡ map entry_of (reverse xs)
stack_same xs = ap (λ ys. map entry_of (reverse ys)) (append-nil xs)

pub ruleset stacks = (stack_push, stack_same)
