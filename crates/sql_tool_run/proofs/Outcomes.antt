-- What words, bytes and status have to do with each other, whatever the source and the sink are.
use Rattle.std.proofs.Common.{◌≡◌, ◌∙◌, ◌+◌, ◌<◌, ◌≤◌, ◌↔◌, ◌⊎◌, inl, inr, ℕ, List, [], ◌++◌, length, Bool, true, false, ◌&&◌, cond, Option, None, Some, ap, append-nil, length-append, refl, subst, sym, arith}
use Rattle.std.specs.Prelude.{IfSome, nat_lt}
use Rattle.std.specs.Io.KnownBytes.{Appends, Consumes, IsAtEnd, Keeps}
use Rattle.std.proofs.lemmas.Bool.Decides.{nat_tests}
use Rattle.sql_tool_run.specs.Command.{IsBadInput, IsOutputOf, reads_source}
use Rattle.sql_tool_run.specs.Limits.{greatest_input}
use Rattle.sql_tool_run.specs.Run.{Ends, HasRead, HasReadSome, Outcome, Took, may_write, status_from, status_of, status_on}
use Rattle.sql_tool_run.specs.declared.command.Command.{Command}
use Rattle.sql_tool_run.specs.declared.command.Command.TheVariants.{Build, Generate, Read, Audit, Guard, Tenant}
use Rattle.sql_tool_run.specs.declared.status.Status.{Status}
use Rattle.sql_tool_run.specs.declared.status.Status.TheVariants.{Done, Usage, BadDocument, ReadFault, WriteFault, NoMemory, TooLarge}

-- ---- usage

pub usage : (status : Status) (o : Option Command) (given written : List ℕ) (AtEnd : Type 0)
    → Outcome status o given written AtEnd → (status ≡ Usage) ↔ (o ≡ None)
usage status None given written AtEnd outcome = (λ _. refl, λ _. outcome.0)
usage status (Some c) given written AtEnd outcome =
    (λ is. absurd (subst (λ s. Ends s c given written AtEnd) is outcome), λ none. cc)

-- ---- what was written

pub nothing : (status : Status) (o : Option Command) (given written : List ℕ) (AtEnd : Type 0)
    → Outcome status o given written AtEnd → may_write status ≡ false → written ≡ []
nothing status None given written AtEnd outcome silent = outcome.2
nothing Done (Some c) given written AtEnd outcome silent = cc
nothing Usage (Some c) given written AtEnd outcome silent = absurd outcome
nothing BadDocument (Some c) given written AtEnd outcome silent = outcome.2
nothing ReadFault (Some c) given written AtEnd outcome silent = outcome.2
nothing WriteFault (Some c) given written AtEnd outcome silent = cc
nothing NoMemory (Some c) given written AtEnd outcome silent = cc
nothing TooLarge (Some c) given written AtEnd outcome silent = outcome.2

pub kept : (held new : Option (List ℕ)) (written : List ℕ) → written ≡ [] → Appends held new written → Keeps held new
kept None new written empty appended = tt
kept (Some xs) None written empty appended = appended
kept (Some xs) (Some ys) written empty appended = appended ∙ ap (λ w. xs ++ w) empty ∙ append-nil xs

-- ---- what was read

within : (b : Bool) (given : List ℕ) (AtEnd : Type 0) → HasRead b given AtEnd → length given ≤ greatest_input
within true given AtEnd has = has.1
within false given AtEnd has = let e = ap length has in omega arith

within-some : (b : Bool) (given : List ℕ) → HasReadSome b given → length given ≤ greatest_input
within-some true given has = has
within-some false given has = let e = ap length has in omega arith

-- more than the limit was given exactly where that is the status
large : (status : Status) (o : Option Command) (given written : List ℕ) (AtEnd : Type 0)
    → Outcome status o given written AtEnd → (status ≡ TooLarge) ↔ (greatest_input < length given)
large status None given written AtEnd outcome = (
  λ is. let clash : Usage ≡ TooLarge = sym outcome.0 ∙ is in cc,
  λ more. let e = ap length outcome.1 in absurd (omega arith),
)
large Done (Some c) given written AtEnd outcome =
    (λ is. cc, λ more. let le = within (reads_source c) given AtEnd outcome.0 in absurd (omega arith))
large Usage (Some c) given written AtEnd outcome = absurd outcome
large BadDocument (Some c) given written AtEnd outcome =
    (λ is. cc, λ more. let le = within (reads_source c) given AtEnd outcome.0 in absurd (omega arith))
large ReadFault (Some c) given written AtEnd outcome = (λ is. cc, λ more. let le = outcome.1 in absurd (omega arith))
large WriteFault (Some c) given written AtEnd outcome =
    (λ is. cc, λ more. let le = within (reads_source c) given AtEnd outcome.0 in absurd (omega arith))
large NoMemory (Some c) given written AtEnd outcome =
    (λ is. cc, λ more. let le = within-some (reads_source c) given outcome.0 in absurd (omega arith))
large TooLarge (Some c) given written AtEnd outcome = (λ _. outcome.1, λ _. refl)

pub too-large : (status : Status) (o : Option Command) (left rest : Option (List ℕ)) (given written : List ℕ)
    → Took status left rest given → Outcome status o given written (IsAtEnd rest)
    → IfSome left (λ input. IfSome rest (λ more. (status ≡ TooLarge) ↔ (greatest_input + length more < length input)))
too-large status o None rest given written took outcome = tt
too-large status o (Some xs) None given written took outcome = tt
too-large status o (Some xs) (Some ys) given written took outcome =
    let all = ap length took.0 ∙ length-append given ys in
    let is = large status o given written (IsAtEnd (Some ys)) outcome in
    (λ so. let more = is.0 so in omega arith, λ more. is.1 (omega arith))

-- ---- the status

done-status : (c : Command) (given written : List ℕ) → IsOutputOf c given written → status_on c given ≡ Done
done-status Build given written (d, is, output) = ap status_from is
done-status (Generate n) given written output = refl
done-status (Read d) given written (t, is, output) = ap status_from is
done-status (Audit d) given written (x, is, output) = ap status_from is
done-status Guard given written (x, is, output) = ap status_from is
done-status Tenant given written (x, is, output) = ap status_from is

bad-status : (c : Command) (given : List ℕ) → IsBadInput c given → status_on c given ≡ BadDocument
bad-status Build given bad = ap status_from bad
bad-status (Generate n) given bad = absurd bad
bad-status (Read d) given bad = ap status_from bad
bad-status (Audit d) given bad = ap status_from bad
bad-status Guard given bad = ap status_from bad
bad-status Tenant given bad = ap status_from bad

-- a command that reads no source ends so whatever the source has
unread-status : (c : Command) → reads_source c ≡ false → (a b : List ℕ) → status_on c a ≡ status_on c b
unread-status Build unread a b = cc
unread-status (Generate n) unread a b = refl
unread-status (Read d) unread a b = cc
unread-status (Audit d) unread a b = cc
unread-status Guard unread a b = cc
unread-status Tenant unread a b = cc

pub all-given : (xs given : List ℕ) (rest : Option (List ℕ)) → Consumes (Some xs) rest given → IsAtEnd rest → given ≡ xs
all-given xs given None taken end = absurd taken
all-given xs given (Some ys) taken end = sym (taken ∙ ap (λ y. given ++ y) end ∙ append-nil given)

not-larger : (n : ℕ) → n ≤ greatest_input → nat_lt greatest_input n ≡ false
not-larger n le = grind (arith, nat_tests)

larger : (n : ℕ) → greatest_input < n → nat_lt greatest_input n ≡ true
larger n lt = grind (arith, nat_tests)

long : (xs given : List ℕ) (rest : Option (List ℕ)) → Consumes (Some xs) rest given → greatest_input < length given
    → greatest_input < length xs
long xs given None taken more = absurd taken
long xs given (Some ys) taken more = let all = ap length taken ∙ length-append given ys in omega arith

module _ (c : Command) (xs given : List ℕ) (rest : Option (List ℕ)) where
  abbrev told : Bool → Status
  told b = cond (b && nat_lt greatest_input (length xs)) TooLarge (status_on c xs)

  -- a command that has read what it reads is judged by that
  whole-if : (b : Bool) → reads_source c ≡ b → Consumes (Some xs) rest given → HasRead b given (IsAtEnd rest)
      → told b ≡ status_on c given
  whole-if true is taken (end, le) =
      let same = all-given xs given rest taken end in
      ap (λ l. cond l TooLarge (status_on c xs)) (not-larger (length xs) (subst (λ x. length x ≤ greatest_input) same le))
      ∙ ap (status_on c) (sym same)
  whole-if false is taken has = unread-status c is xs given

  whole : Consumes (Some xs) rest given → HasRead (reads_source c) given (IsAtEnd rest)
      → status_of (Some c) xs ≡ status_on c given
  whole = whole-if (reads_source c) refl

  above-if : (b : Bool) → b ≡ true → greatest_input < length xs → told b ≡ TooLarge
  above-if true is more = ap (λ l. cond l TooLarge (status_on c xs)) (larger (length xs) more)
  above-if false is more = cc

abbrev Decided : Status → Option Command → List ℕ → Type 0
Decided status o input =
    (status ≡ status_of o input) ⊎ ((status ≡ ReadFault) ⊎ ((status ≡ WriteFault) ⊎ (status ≡ NoMemory)))

known : (status : Status) (c : Command) (xs given written : List ℕ) (rest : Option (List ℕ))
    → Took status (Some xs) rest given → Ends status c given written (IsAtEnd rest) → Decided status (Some c) xs
known Done c xs given written rest took ends =
    inl (sym (whole c xs given rest (took.1 (λ h. cc)) ends.0 ∙ done-status c given written ends.1))
known Usage c xs given written rest took ends = absurd ends
known BadDocument c xs given written rest took ends =
    inl (sym (whole c xs given rest (took.1 (λ h. cc)) ends.0 ∙ bad-status c given ends.1))
known ReadFault c xs given written rest took ends = inr (inl refl)
known WriteFault c xs given written rest took ends = inr (inr (inl refl))
known NoMemory c xs given written rest took ends = inr (inr (inr refl))
known TooLarge c xs given written rest took ends =
    inl (sym (above-if c xs given rest (reads_source c) ends.0 (long xs given rest (took.1 (λ h. cc)) ends.1)))

-- words and bytes decide the status, unless an object fails or memory runs out
pub decided : (status : Status) (o : Option Command) (left rest : Option (List ℕ)) (given written : List ℕ)
    → Took status left rest given → Outcome status o given written (IsAtEnd rest)
    → IfSome left (λ input. Decided status o input)
decided status o None rest given written took outcome = tt
decided status None (Some xs) rest given written took outcome = inl outcome.0
decided status (Some c) (Some xs) rest given written took outcome = known status c xs given written rest took outcome

-- and where no object fails, unless memory runs out
pub complete : (status : Status) (o : Option Command) (left : Option (List ℕ)) (Lost Full : Type 0)
    → (status ≡ ReadFault → Lost) → (status ≡ WriteFault → Full) → IfSome left (λ input. Decided status o input)
    → IfSome left (λ input. ¬ Lost → ¬ Full → (status ≡ NoMemory) ⊎ (status ≡ status_of o input))
complete status o None Lost Full lost full h = tt
complete status o (Some xs) Lost Full lost full (inl is) = λ _ _. inr is
complete status o (Some xs) Lost Full lost full (inr (inl fault)) = λ sound _. absurd (sound (lost fault))
complete status o (Some xs) Lost Full lost full (inr (inr (inl fault))) = λ _ sound. absurd (sound (full fault))
complete status o (Some xs) Lost Full lost full (inr (inr (inr want))) = λ _ _. inl want
