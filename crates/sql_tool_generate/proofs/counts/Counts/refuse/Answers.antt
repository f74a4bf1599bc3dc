use Rattle.std.proofs.Common.{rules, ◌≡◌, ◌∙◌, ℕ, List, Option, Some, unwrap_or, bytes_eq, string_bytes, refl}
use Rattle.std.proofs.lemmas.Map.Text.{btree_map_updates_text}
use Rattle.std.specs.BTreeMap.{get_by_text}
use Rattle.std.specs.Map.{update}
use Rattle.sql_rules.specs.Texts.{rule_text}
use Rattle.sql_tool_generate.specs.inside.Counting.{raised}
use Rattle.sql_tool_generate.proofs.counts.Counts.refuse.Goals as goal

written : (f : List ℕ → Option ℕ) (k name : List ℕ) (v w : ℕ) (q : List ℕ) → k ≡ name → v ≡ w
    → update bytes_eq f k (Some v) q ≡ update bytes_eq f name (Some w) q
written f k name v w q keys values = λ i. update bytes_eq f (keys i) (Some (values i)) q

pub returns : goal.returns
returns c =
    let old = c.args.self.now.refused in
    let name = rule_text c.args.rule in
    let key = string_bytes c.in_ok-name.name in
    let v = c.saturating_add.result in
    let keys : key ≡ name = search rules in
    let values : v ≡ raised (unwrap_or (get_by_text old name) 0) 1 = search rules in
    record {
      accepted = refl;
      binds = refl;
      bytes = refl;
      ids = refl;
      refused = λ q. btree_map_updates_text key old c.insert.new.self (Some v) c.in_ok-insert.ensures.updates q
          ∙ written (get_by_text old) key name v (raised (unwrap_or (get_by_text old name) 0) 1) q keys values;
      requests = search rules;
    }
