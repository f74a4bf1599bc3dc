-- The line of a request, and which keys are then kept.
use Rattle.std.proofs.Common.{◌≡◌, ◌∙◌, ℕ, List, Option, None, Some, option_map, refl, subst}
use Rattle.std.specs.Option.{option_or}
use Rattle.serde_json.specs.Data.{Data}
use Rattle.sql_schema.specs.Declarations.{Declarations}
use Rattle.sql_schema.specs.Refusals.{least_refusal}
use Rattle.sql_dialect.specs.declared.backend.Dialect.{Dialect}
use Rattle.sql_node.specs.Tree.{Statement}
use Rattle.sql_rules.specs.Texts.{rule_text}
use Rattle.sql_rules.specs.declared.rule.Rule.{Rule}
use Rattle.sql_check.specs.Compiled.{IsBuilt, IsLeast, IsRead, binds_of}
use Rattle.sql_check.specs.declared.built.Built.{Built}
use Rattle.sql_tool_build.specs.Objects.{line_object, refused, statement_data}
use Rattle.sql_tool_build.specs.Judgement.{IsAccepted, Judges, accepts, made, refuses, unmade}
use Rattle.sql_tool_build.specs.Output.{Line, StatementRequest}
use Rattle.sql_rows.specs.declared.cache.RequestKey.{RequestKey}
use Rattle.sql_tool_build.specs.inside.Keys.{keyed, id_found, line_found, IsKept, HasLine}

option_or-none : (o : Option ℕ) → o ≡ option_or o None
option_or-none None = refl
option_or-none (Some x) = refl

-- without a key a look-up stays as it is
pub kept-none : (f : RequestKey → Option ℕ) (n : ℕ) → IsKept f f n None
kept-none f n q = option_or-none (f q)

pub is-accepted : (schema : Declarations) (d : Dialect) (s : Statement) (b : Built) → IsBuilt schema d s b
    → IsRead d s b.sql b.binds → IsAccepted schema d s b.sql_types
is-accepted schema d s b built read =
    record {
      accepted = built.accepted;
      types = built.sql_types;
      read =
          subst (λ t. IsRead d s t (binds_of d s)) built.sql
          (subst (IsRead d s b.sql) built.binds read);
    }

module _ (schema : Declarations) (sound : least_refusal schema ≡ None) (r : StatementRequest) (n : ℕ) (f : RequestKey → Option ℕ) where
  abbrev IsObject : Data → Line → Type 0
  IsObject v l = v ≡ line_object l.dialect l.id l.judgement

  pub unmade-line : (Said : Line → Type 0) (why : List ℕ) → unmade why ≡ r.statement
      → Said (line_found f n r.dialect (refuses why)) → HasLine schema r n f f Said
  unmade-line Said why is said =
      (refuses why, subst (λ o. Judges schema r.dialect o (refuses why)) is refl, said, kept-none f n, sound)

  pub refused-line : (s : Statement) (rule : Rule) (v : Data) → made s ≡ r.statement
      → IsLeast rule schema r.dialect s → v ≡ refused (rule_text rule) → HasLine schema r n f f (IsObject v)
  refused-line s rule v some least is = (
    refuses (rule_text rule),
    subst (λ o. Judges schema r.dialect o (refuses (rule_text rule))) some (rule, least, refl),
    is,
    kept-none f n,
    sound,
  )

  pub accepted-line : (s : Statement) (b : Built) (g : RequestKey → Option ℕ) (v : Data) → made s ≡ r.statement
      → IsBuilt schema r.dialect s b → IsRead r.dialect s b.sql b.binds
      → v
      ≡ statement_data b.binds b.sql_types (id_found f n (option_map (keyed r.dialect) b.id)) b.safe b.sql
      → IsKept f g n (option_map (keyed r.dialect) b.id) → HasLine schema r n f g (IsObject v)
  accepted-line s b g v some built read is kept =
      let d = r.dialect in
      let ts = b.sql_types in (
        accepts s ts,
        subst (λ o. Judges schema d o (accepts s ts)) some (
          refl,
          is-accepted schema d s b built read,
        ),
        is ∙ (λ i. statement_data (built.binds i) ts (id_found f n (option_map (keyed d) (built.id i))) (built.safe i) (built.sql i)),
        subst (λ k. IsKept f g n (option_map (keyed d) k)) built.id kept,
        sound,
      )
