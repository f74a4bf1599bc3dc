-- A line that has not ended, and what the functions inside `converse` come to.
use Rattle.std.proofs.Common.{◌≡◌, ◌∙◌, ◌<◌, ◌≤◌, ◌-◌, ℕ, true, false, List, [], ◌∷◌, ◌++◌, length, length-append, Option, Result, Ok, Err, refl, ap, sym, subst, append_assoc, append-nil, arith}
use Rattle.std.specs.Prelude.{IfErr, OnOk}
use Rattle.sql_tool_lines.specs.Conversation.{Conversed, HasStopped, Moves}
use Rattle.sql_tool_lines.specs.Lines.{all_lines, ended, ended_after, last_line, unended, unended_after}
use Rattle.sql_tool_lines.specs.Turns.{Adds, AreWrites, Event, Read, read_in, written_in}
use Rattle.sql_tool_lines.specs.inside.Parts.{Goes, Holds, HoldsBytes, MovesSome}
use Rattle.sql_tool_lines.specs.declared.listener.Stop.{Stop}
use Rattle.sql_tool_lines.specs.declared.listener.Stop.TheVariants.{NoMemory}
use Rattle.sql_tool_lines.specs.declared.part.Part.{Part}
use Rattle.sql_tool_lines.proofs.Lines.{ended-append, unended-append}
use Rattle.sql_tool_lines.proofs.Turns.{Adds-turn, turn-contains, turn-prompt, turn-read, turn-written}

pub holds-long : (limit : ℕ) (part : Part) (line : List ℕ) → part.is_long ≡ true → Holds limit part line → limit < length line
holds-long limit part line e h = subst (λ b. HoldsBytes b limit part.bytes.items line) e h

pub holds-short : (limit : ℕ) (part : Part) (line : List ℕ) → part.is_long ≡ false → Holds limit part line
    → (part.bytes.items ≡ line) × (length line ≤ limit)
holds-short limit part line e h = subst (λ b. HoldsBytes b limit part.bytes.items line) e h

pub is-long : (limit : ℕ) (part : Part) (line : List ℕ) → part.is_long ≡ true → limit < length line → Holds limit part line
is-long limit part line e h = subst (λ b. HoldsBytes b limit part.bytes.items line) (sym e) h

pub is-short : (limit : ℕ) (part : Part) (line : List ℕ) → part.is_long ≡ false → part.bytes.items ≡ line → length line ≤ limit
    → Holds limit part line
is-short limit part line e same few = subst (λ b. HoldsBytes b limit part.bytes.items line) (sym e) (same, few)

pub extend-long : (limit : ℕ) (part : Part) (line piece : List ℕ) → part.is_long ≡ true → Holds limit part line
    → Holds limit part (line ++ piece)
extend-long limit part line piece e h =
    let over = holds-long limit part line e h in
    is-long limit part (line ++ piece) e (omega (arith, length-append line piece, over))

pub extend-over : (limit : ℕ) (old : Part) (line piece : List ℕ) → old.is_long ≡ false
    → limit - length old.bytes.items < length piece → Holds limit old line → limit < length (line ++ piece)
extend-over limit old line piece e over h =
    let (same, few) = holds-short limit old line e h in
    omega (arith, length-append line piece, ap length same, over, few)

pub extend-more : (limit : ℕ) (old new : Part) (line piece : List ℕ) → old.is_long ≡ false → new.is_long ≡ false
    → length piece ≤ limit - length old.bytes.items → new.bytes.items ≡ old.bytes.items ++ piece → Holds limit old line
    → Holds limit new (line ++ piece)
extend-more limit old new line piece e f fits grown h =
    let (same, few) = holds-short limit old line e h in
    is-short limit new (line ++ piece) f (grown ∙ ap (λ u. u ++ piece) same)
    (omega (arith, length-append line piece, ap length same, fits, few))

-- the lines of what was read, and of one more piece
pub lines-more : (given piece : List ℕ) → all_lines (given ++ piece)
    ≡ ended given ++ (ended_after (unended given) piece ++ last_line (unended (given ++ piece)))
lines-more given piece =
    ap (λ x. x ++ last_line (unended (given ++ piece))) (ended-append [] given piece)
    ∙ append_assoc (ended given) (ended_after (unended given) piece) (last_line (unended (given ++ piece)))

pub lines-all : (given : List ℕ) → all_lines (given ++ []) ≡ ended given ++ (last_line (unended given) ++ [])
lines-all given =
    ap all_lines (append-nil given) ∙ ap (λ x. ended given ++ x) (sym (append-nil (last_line (unended given))))

-- ---- answers

module _ {S : Type 0} (Answers : S → S → List (List ℕ) → List ℕ → Type 0) where
  pub moves-nil : (a : S) → Moves Answers a a [] []
  moves-nil a first earlier before h =
      subst (λ ls. Answers first a ls (before ++ [])) (sym (append-nil earlier))
      (subst (λ t. Answers first a earlier t) (sym (append-nil before)) h)

  pub moves-trans : (a b c : S) (ls ms : List (List ℕ)) (t u : List ℕ) → Moves Answers a b ls t → Moves Answers b c ms u
      → Moves Answers a c (ls ++ ms) (t ++ u)
  moves-trans a b c ls ms t u p q first earlier before h =
      subst (λ x. Answers first c x (before ++ (t ++ u))) (append_assoc earlier ls ms)
      (subst (λ x. Answers first c ((earlier ++ ls) ++ ms) x) (append_assoc before t u)
      (q first (earlier ++ ls) (before ++ t) (p first earlier before h)))

  -- none of the lines
  pub some-none : (a : S) (lines : List (List ℕ)) → MovesSome Answers a lines [] NoMemory
  some-none a lines = record {
    state = a;
    some = [];
    later = lines;
    rest = [];
    split = refl;
    moved = moves-nil a;
    whole = λ other. refl;
    written = λ e. (cc);
  }

  -- some of the lines that come after others
  pub some-later : (a b : S) (ls ms : List (List ℕ)) (t u : List ℕ) (stop : Stop) → Moves Answers a b ls t
      → MovesSome Answers b ms u stop → MovesSome Answers a (ls ++ ms) (t ++ u) stop
  some-later a b ls ms t u stop p q = record {
    state = q.state;
    some = ls ++ q.some;
    later = q.later;
    rest = q.rest;
    split = ap (λ x. ls ++ x) q.split ∙ sym (append_assoc ls q.some q.later);
    moved = subst (Moves Answers a q.state (ls ++ q.some)) (sym (append_assoc t u q.rest))
        (moves-trans a b q.state ls q.some t (u ++ q.rest) p q.moved);
    whole = q.whole;
    written = q.written;
  }

  -- some of the lines before others
  pub some-before : (a : S) (ls ms : List (List ℕ)) (t : List ℕ) (stop : Stop) → MovesSome Answers a ls t stop
      → MovesSome Answers a (ls ++ ms) t stop
  some-before a ls ms t stop q = record {
    state = q.state;
    some = q.some;
    later = q.later ++ ms;
    rest = q.rest;
    split = ap (λ x. x ++ ms) q.split ∙ append_assoc q.some q.later ms;
    moved = q.moved;
    whole = q.whole;
    written = q.written;
  }

  abbrev pub Answered : S → List (List ℕ) → List ℕ → Type 0
  Answered first lines text = (state : S) × Answers first state lines text

  -- a read and the answers to the lines that end in it
  pub goes-on : (limit : ℕ) (first now new : S) (part next : Part) (es fs : List Event) (piece text : List ℕ)
      → Goes Answers limit first now part es → AreWrites fs text
      → ((begun : List ℕ) → Holds limit part begun
      → Holds limit next (unended_after begun piece) × Moves Answers now new (ended_after begun piece) text)
      → Goes Answers limit first new next (es ++ Read piece ∷ fs)
  goes-on limit first now new part next es fs piece text goes writes took =
      let given = read_in es in
      let (holds, moved) = took (unended given) goes.part in
      let read = turn-read es fs piece text writes in record {
        prompt = turn-prompt (Answered first) es fs piece text writes goes.prompt (now, goes.answers);
        part = subst (λ u. Holds limit next u) (sym (ap unended read ∙ unended-append [] given piece)) holds;
        answers = subst (λ ls. Answers first new ls (written_in (es ++ Read piece ∷ fs)))
            (sym (ap ended read ∙ ended-append [] given piece))
            (subst (Answers first new (ended given ++ ended_after (unended given) piece)) (sym (turn-written es fs piece text writes))
            (moved first (ended given) (written_in es) goes.answers));
      }

  -- a read, and the answers to some of the lines
  pub goes-stopped : (limit : ℕ) (first now : S) (part : Part) (es fs : List Event) (piece text : List ℕ) (stop : Stop)
      → (lines : List (List ℕ)) → Goes Answers limit first now part es → AreWrites fs text
      → (later : List (List ℕ)) → all_lines (read_in es ++ piece) ≡ ended (read_in es) ++ (lines ++ later)
      → MovesSome Answers now lines text stop → HasStopped (Answered first) (es ++ Read piece ∷ fs) stop
  goes-stopped limit first now part es fs piece text stop lines goes writes later all q =
      let given = read_in es in
      let read = turn-read es fs piece text writes in record {
        some = ended given ++ q.some;
        later = q.later ++ later;
        rest = q.rest;
        lines = ap all_lines read ∙ all ∙ ap (λ x. ended given ++ (x ++ later)) q.split
            ∙ ap (λ x. ended given ++ x) (append_assoc q.some q.later later)
            ∙ sym (append_assoc (ended given) q.some (q.later ++ later));
        answered = (
          q.state,
          subst (Answers first q.state (ended given ++ q.some))
              (sym (append_assoc (written_in es) text q.rest)
              ∙ ap (λ u. u ++ q.rest) (sym (turn-written es fs piece text writes)))
              (q.moved first (ended given) (written_in es) goes.answers),
        );
        whole = q.whole;
        read = λ e. absurd (q.written e);
      }

  -- each line that has ended is answered, and nothing else was written
  pub goes-rests : (limit : ℕ) (first now : S) (part : Part) (es : List Event) (stop : Stop) → Goes Answers limit first now part es
      → HasStopped (Answered first) es stop
  goes-rests limit first now part es stop goes = record {
    some = ended (read_in es);
    later = last_line (unended (read_in es));
    rest = [];
    lines = refl;
    answered = (now, subst (Answers first now (ended (read_in es))) (sym (append-nil (written_in es))) goes.answers);
    whole = λ other. refl;
    read = λ e. refl;
  }

  -- a read and the answers to some of the lines that end in it
  pub stopped : {T : Type 0} (Done : List (List ℕ) → List ℕ → Type 0) (limit : ℕ) (first now : S) (part : Part) (es : List Event)
      (old mid more last : Option (List Event)) (piece given : List ℕ) (e : Stop)
      → piece ≡ given → Adds old mid es → Adds mid more (Read piece ∷ []) → Goes Answers limit first now part es
      → ((fs : List Event) × (text : List ℕ) × Adds more last fs × AreWrites fs text
      × ((begun : List ℕ) → Holds limit part begun → MovesSome Answers now (ended_after begun given) text e))
      → (all : List Event) × Adds old last all × Conversed {T = T} (Answered first) Done all (Err e)
  stopped Done limit first now part es old mid more last piece given e same before one goes (fs, text, after, writes, some) = (
    es ++ Read piece ∷ fs,
    Adds-turn old mid more last es fs (Read piece) before one after,
    record {
      prompt = turn-prompt (Answered first) es fs piece text writes goes.prompt (now, goes.answers);
      ends = goes-stopped limit first now part es fs piece text e (ended_after (unended (read_in es)) piece) goes writes
          (last_line (unended (read_in es ++ piece))) (lines-more (read_in es) piece)
          (subst (λ p. MovesSome Answers now (ended_after (unended (read_in es)) p) text e) (sym same)
          (some (unended (read_in es)) goes.part));
    },
  )

  -- the end, and the answer to the last line
  pub finished : {T : Type 0} (r : Result T Stop) (limit : ℕ) (first now new : S) (part : Part) (es : List Event)
      (old mid more last : Option (List Event)) (piece : List ℕ)
      → piece ≡ [] → Adds old mid es → Adds mid more (Read piece ∷ []) → Goes Answers limit first now part es
      → OnOk r ((fs : List Event) × (text : List ℕ) × Adds more last fs × AreWrites fs text
      × ((line : List ℕ) → Holds limit part line → Moves Answers now new (last_line line) text))
      → IfErr r (λ e. (fs : List Event) × (text : List ℕ) × Adds more last fs × AreWrites fs text
      × ((line : List ℕ) → Holds limit part line → MovesSome Answers now (last_line line) text e))
      → (all : List Event) × Adds old last all × Conversed (Answered first) (λ lines text. Answers first new lines text) all r
  finished (Ok x) limit first now new part es old mid more last piece none before one goes ok err =
      let (fs, text, after, writes, moved) = ok in
      let given = read_in es in
      let read : read_in (es ++ Read [] ∷ fs) ≡ given ++ [] = turn-read es fs [] text writes in (
        es ++ Read [] ∷ fs,
        Adds-turn old mid more last es fs (Read []) before (subst (λ p. Adds mid more (Read p ∷ [])) none one) after,
        record {
          prompt = turn-prompt (Answered first) es fs [] text writes goes.prompt (now, goes.answers);
          ends = (
            turn-contains es fs [],
            subst (λ u. Answers first new (all_lines u) (written_in (es ++ Read [] ∷ fs))) (sym (read ∙ append-nil given))
                (subst (Answers first new (all_lines given)) (sym (turn-written es fs [] text writes))
                (moved (unended given) goes.part first (ended given) (written_in es) goes.answers)),
          );
        },
      )
  finished (Err e) limit first now new part es old mid more last piece none before one goes ok err =
      let (fs, text, after, writes, some) = err in
      let given = read_in es in (
        es ++ Read [] ∷ fs,
        Adds-turn old mid more last es fs (Read []) before (subst (λ p. Adds mid more (Read p ∷ [])) none one) after,
        record {
          prompt = turn-prompt (Answered first) es fs [] text writes goes.prompt (now, goes.answers);
          ends = goes-stopped limit first now part es fs [] text e (last_line (unended given)) goes writes [] (lines-all given)
              (some (unended given) goes.part);
        },
      )

  -- a read and the answers to the lines that end in it, and all so far
  pub went-on : (limit : ℕ) (first now new : S) (part next : Part) (es : List Event) (old mid more last : Option (List Event))
      (piece given : List ℕ)
      → piece ≡ given → Adds old mid es → Adds mid more (Read piece ∷ []) → Goes Answers limit first now part es
      → ((fs : List Event) × (text : List ℕ) × Adds more last fs × AreWrites fs text
      × ((begun : List ℕ) → Holds limit part begun
      → Holds limit next (unended_after begun given) × Moves Answers now new (ended_after begun given) text))
      → (all : List Event) × Adds old last all × Goes Answers limit first new next all
  went-on limit first now new part next es old mid more last piece given same before one goes (fs, text, after, writes, took) = (
    es ++ Read piece ∷ fs,
    Adds-turn old mid more last es fs (Read piece) before one after,
    goes-on limit first now new part next es fs piece text goes writes
        (subst (λ p. (begun : List ℕ) → Holds limit part begun
        → Holds limit next (unended_after begun p) × Moves Answers now new (ended_after begun p) text) (sym same) took),
  )
