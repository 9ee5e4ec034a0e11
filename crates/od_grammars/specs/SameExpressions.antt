-- The regular expressions of a rule are those of what it asks of a sentence, in the same order.
use Rattle.std.specs.Prelude.{◌≡◌}
use Rattle.od_pattern.specs.declared.rule.Body.{Body}
use Rattle.od_asked.specs.Asked.{asked_body}
use Rattle.od_asked.specs.Expressions.{expressions_of}
use Rattle.od_rule_text.specs.Expressions.{body_expressions}

abbrev pub ExpressionsAreAsked : Type 0
ExpressionsAreAsked = (body : Body) → body_expressions body ≡ expressions_of (asked_body body)
