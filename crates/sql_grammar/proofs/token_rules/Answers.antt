use Rattle.sql_grammar.proofs.TokenRules as rule
use Rattle.sql_grammar.proofs.token_rules.Goals as goal

pub returns : goal.returns
returns c = record {
  space = rule.space-rule;
  word = rule.word-rule;
  keyword = rule.keyword-rule;
  number = rule.number-rule;
  numbered = rule.dollar-rule;
  misnumbered = rule.no_number-rule;
  at_numbered = rule.at-rule;
  at_misnumbered = rule.no_at_number-rule;
  unnumbered = rule.question-rule;
  comparison = rule.comparison-rule;
  opening_bracket = rule.open-rule;
  closing_bracket = rule.close-rule;
  comma = rule.comma-rule;
  dot = rule.dot-rule;
  star = rule.star-rule;
  minus = rule.minus-rule;
  end = rule.end-rule;
  unclosed = rule.unclosed-rule;
  exclamation = rule.bang-rule;
  dollar = rule.lone_dollar-rule;
  at_p = rule.lone_at_p-rule;
  at = rule.lone_at-rule;
  other = rule.other-rule;
}
