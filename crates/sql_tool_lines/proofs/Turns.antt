-- Events after events.
use Rattle.std.proofs.Common.{◌≡◌, ◌∙◌, ℕ, List, [], ◌∷◌, ◌++◌, Option, None, Some, refl, ap, sym, subst, append_assoc, append-nil, arith}
use Rattle.std.specs.List.{Contains}
use Rattle.std.proofs.lemmas.List.Elements.{Contains-append_right}
use Rattle.sql_tool_lines.specs.Conversation.{IsPrompt}
use Rattle.sql_tool_lines.specs.Lines.{ended}
use Rattle.sql_tool_lines.specs.Turns.{Adds, AreWrites, Event, Read, Wrote, read_in, written_in}

pub Adds-nil : (a : Option (List Event)) → Adds a a []
Adds-nil None = tt
Adds-nil (Some xs) = sym (append-nil xs)

pub Adds-trans : (a b c : Option (List Event)) (es fs : List Event) → Adds a b es → Adds b c fs → Adds a c (es ++ fs)
Adds-trans None b c es fs p q = tt
Adds-trans (Some x) None c es fs p q = absurd p
Adds-trans (Some x) (Some y) None es fs p q = absurd q
Adds-trans (Some x) (Some y) (Some z) es fs p q = q ∙ ap (λ l. l ++ fs) p ∙ append_assoc x es fs

pub read_in-append : (es fs : List Event) → read_in (es ++ fs) ≡ read_in es ++ read_in fs
read_in-append [] fs = refl
read_in-append (Read p ∷ es) fs =
    ap (λ u. p ++ u) (read_in-append es fs) ∙ sym (append_assoc p (read_in es) (read_in fs))
read_in-append (Wrote p ∷ es) fs = read_in-append es fs

pub written_in-append : (es fs : List Event) → written_in (es ++ fs) ≡ written_in es ++ written_in fs
written_in-append [] fs = refl
written_in-append (Read p ∷ es) fs = written_in-append es fs
written_in-append (Wrote p ∷ es) fs =
    ap (λ u. p ++ u) (written_in-append es fs) ∙ sym (append_assoc p (written_in es) (written_in fs))

pub prompt-append : (A : List (List ℕ) → List ℕ → Type 0) (given taken : List ℕ) (es fs : List Event)
    → IsPrompt A given taken es → IsPrompt A (given ++ read_in es) (taken ++ written_in es) fs → IsPrompt A given taken (es ++ fs)
prompt-append A given taken [] fs p q =
    subst (λ u. IsPrompt A u taken fs) (append-nil given)
    (subst (λ u. IsPrompt A (given ++ []) u fs) (append-nil taken) q)
prompt-append A given taken (Read x ∷ es) fs p q = (
  p.0,
  prompt-append A (given ++ x) taken es fs p.1
      (subst (λ u. IsPrompt A u (taken ++ written_in es) fs) (sym (append_assoc given x (read_in es))) q),
)
prompt-append A given taken (Wrote x ∷ es) fs p q =
    prompt-append A given (taken ++ x) es fs p
    (subst (λ u. IsPrompt A (given ++ read_in es) u fs) (sym (append_assoc taken x (written_in es))) q)

-- what is said of the lines and the text may be said in other words
pub prompt-weaker : (A B : List (List ℕ) → List ℕ → Type 0) → ((lines : List (List ℕ)) (text : List ℕ) → A lines text → B lines text)
    → (given taken : List ℕ) (es : List Event) → IsPrompt A given taken es → IsPrompt B given taken es
prompt-weaker A B f given taken [] p = tt
prompt-weaker A B f given taken (Read x ∷ es) p =
    (f (ended given) taken p.0, prompt-weaker A B f (given ++ x) taken es p.1)
prompt-weaker A B f given taken (Wrote x ∷ es) p = prompt-weaker A B f given (taken ++ x) es p

-- ---- writes alone

pub writes-append : (es fs : List Event) (text more : List ℕ) → AreWrites es text → AreWrites fs more
    → AreWrites (es ++ fs) (text ++ more)
writes-append [] fs text more p q = subst (λ u. AreWrites fs u) (ap (λ u. u ++ more) (sym p)) q
writes-append (Read x ∷ es) fs text more p q = absurd p
writes-append (Wrote x ∷ es) fs text more p q =
    let (rest, is, h) = p in
    (rest ++ more, ap (λ u. u ++ more) is ∙ append_assoc x rest more, writes-append es fs rest more h q)

pub writes-read : (es : List Event) (text : List ℕ) → AreWrites es text → read_in es ≡ []
writes-read [] text p = refl
writes-read (Read x ∷ es) text p = absurd p
writes-read (Wrote x ∷ es) text p = let (rest, is, h) = p in writes-read es rest h

pub writes-written : (es : List Event) (text : List ℕ) → AreWrites es text → written_in es ≡ text
writes-written [] text p = sym p
writes-written (Read x ∷ es) text p = absurd p
writes-written (Wrote x ∷ es) text p = let (rest, is, h) = p in ap (λ u. x ++ u) (writes-written es rest h) ∙ sym is

pub writes-prompt : (A : List (List ℕ) → List ℕ → Type 0) (given taken : List ℕ) (es : List Event) (text : List ℕ)
    → AreWrites es text → IsPrompt A given taken es
writes-prompt A given taken [] text p = tt
writes-prompt A given taken (Read x ∷ es) text p = absurd p
writes-prompt A given taken (Wrote x ∷ es) text p = let (rest, is, h) = p in writes-prompt A given (taken ++ x) es rest h

-- ---- a read, and writes after it

pub turn-read : (es fs : List Event) (piece text : List ℕ) → AreWrites fs text
    → read_in (es ++ Read piece ∷ fs) ≡ read_in es ++ piece
turn-read es fs piece text p =
    read_in-append es (Read piece ∷ fs)
    ∙ ap (λ u. read_in es ++ (piece ++ u)) (writes-read fs text p) ∙ ap (λ u. read_in es ++ u) (append-nil piece)

pub turn-written : (es fs : List Event) (piece text : List ℕ) → AreWrites fs text
    → written_in (es ++ Read piece ∷ fs) ≡ written_in es ++ text
turn-written es fs piece text p =
    written_in-append es (Read piece ∷ fs) ∙ ap (λ u. written_in es ++ u) (writes-written fs text p)

pub turn-prompt : (A : List (List ℕ) → List ℕ → Type 0) (es fs : List Event) (piece text : List ℕ) → AreWrites fs text
    → IsPrompt A [] [] es → A (ended (read_in es)) (written_in es) → IsPrompt A [] [] (es ++ Read piece ∷ fs)
turn-prompt A es fs piece text p before now =
    prompt-append A [] [] es (Read piece ∷ fs) before (now, writes-prompt A (read_in es ++ piece) (written_in es) fs text p)

pub turn-contains : (es fs : List Event) (piece : List ℕ) → Contains (es ++ Read piece ∷ fs) (Read piece)
turn-contains es fs piece =
    Contains-append_right es (Read piece ∷ fs) (Read piece) (0, omega arith, refl)

-- a read that adds one event, and events after it
pub Adds-turn : (a b c d : Option (List Event)) (es fs : List Event) (e : Event) → Adds a b es → Adds b c (e ∷ []) → Adds c d fs
    → Adds a d (es ++ e ∷ fs)
Adds-turn a b c d es fs e p q r =
    subst (Adds a d) (append_assoc es (e ∷ []) fs) (Adds-trans a c d (es ++ e ∷ []) fs (Adds-trans a b c es (e ∷ []) p q) r)
