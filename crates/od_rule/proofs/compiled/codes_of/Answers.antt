use Rattle.std.proofs.Common.{◌≡◌, ◌++◌, ◌∷◌, [], List, sym, subst, ◌∙◌, take, arith, ap}
use Rattle.std.proofs.lemmas.List.{take_more}
use Rattle.std.specs.List.{AllZip}
use Rattle.od_pattern.specs.declared.rule.Rule.{Rule}
use Rattle.od_rule.proofs.Places.{zip_more}
use Rattle.od_rule.specs.Codes.{IsReadyRule}
use Rattle.od_rule.specs.declared.code.RuleCode.{RuleCode}
use Rattle.od_rule.proofs.compiled.codes_of.Goals as goal

pub loop-rule-preserved : goal.loop-rule-preserved
loop-rule-preserved c =
    let i = c.loop-rule.rule-index in
    let rules = c.args.rules.now in
    subst (λ (xs : List Rule). AllZip IsReadyRule xs c.push.new.self)
    (sym (take_more rules i c.rule-item.result (omega arith) ∙ ap (λ z. take i rules ++ z ∷ []) (sym c.rule-item.is)))
    (subst (λ (ys : List RuleCode). AllZip IsReadyRule (take i rules ++ c.rule-item.result ∷ []) ys) (sym c.in_ok-push.ensures.ok)
    (zip_more IsReadyRule (take i rules) c.loop-rule.codes c.rule-item.result c.in_ok-code.code c.loop-rule.invariant c.in_ok-code.ensures))
