-- The bodies of rules are what the definitions of patterns say.
use Rattle.std.proofs.Common.{◌≡◌, ℕ, List, [], ◌∷◌, Ok, Err, refl, sym, ◌∙◌, ap, subst}
use Rattle.od_pattern.specs.declared.rule.Body.{Body}
use Rattle.od_pattern.specs.declared.rule.Body.TheVariants.{Basic, Event}
use Rattle.od_pattern.specs.declared.rule.EventRule.{EventRule}
use Rattle.od_pattern.specs.declared.rule.Hop.{Hop}
use Rattle.od_pattern.specs.declared.rule.Rule.{Rule}
use Rattle.od_language.specs.declared.pattern_fault.PatternKind.{PatternKind}
use Rattle.od_language.specs.WholeRuns.{Verdict, IsVerdict}
use Rattle.std.specs.List.{AllZip}
use Rattle.std.specs.Str.{chars}
use Rattle.od_rule_text.specs.declared.rule_file.KeyText.{KeyText}
use Rattle.od_rule_text.specs.Grammars.{read_as}
use Rattle.od_rule_text.specs.Items.{basic, event}
use Rattle.od_rule_text.specs.Laws.{IsRuleOf}
use Rattle.od_rule_text.proofs.GrammarsRead.{keeps_order}
use Rattle.od_syntax.specs.Events.{IsEventText, IsEventTextFault}
use Rattle.od_syntax.specs.Texts.{IsHopText, IsHopTextFault}
use Rattle.od_syntax.specs.EventVerdicts.{event_of}
use Rattle.od_syntax.specs.HopVerdicts.{hop_of}
use Rattle.od_syntax.proofs.Events.{events_are_computed}
use Rattle.od_syntax.proofs.Hops.Verdicts.{hop_texts_are_computed}
use Rattle.od_grammars.specs.Bodies.{IsBodyText, BodiesAreComputed, IsMeant, RulesAreMeant}
use Rattle.od_grammars.specs.Grammars.{patterns}

-- a verdict under a constructor
module _ {X : Type 0} (body : X → Body) (Value : X → Type 0) (Fault : ℕ → PatternKind → Type 0) (Is : Body → Type 0)
    (from : (b : Body) → Is b → (x : X) × (b ≡ body x) × Value x) (to : (x : X) → Value x → Is (body x)) where
  abbrev good : Body → Verdict Body
  good b = Ok b

  abbrev bad : ℕ × PatternKind → Verdict Body
  bad f = Err f

  abbrev fine : X → Verdict X
  fine x = Ok x

  abbrev wrong : ℕ × PatternKind → Verdict X
  wrong f = Err f

  same_good : (b c : Body) → good b ≡ good c → b ≡ c
  same_good b c e = cc

  same_bad : (f g : ℕ × PatternKind) → bad f ≡ bad g → f ≡ g
  same_bad f g e = cc

  value_back : (v : Verdict X) (b : Body) → ((x : X) → v ≡ Ok x → Value x) → read_as body v ≡ good b → Is b
  value_back (Ok x) b f e = subst Is (same_good (body x) b e) (to x (f x refl))
  value_back (Err k) b f e = absurd (cc)

  fault_back : (v : Verdict X) (f : ℕ × PatternKind) → read_as body v ≡ bad f → v ≡ wrong f
  fault_back (Ok x) f e = absurd (cc)
  fault_back (Err g) f e = ap wrong (same_bad g f e)

  under : (v : Verdict X) → IsVerdict Value Fault v → IsVerdict Is Fault (read_as body v)
  under v i = record {
    value = λ b. (λ u. let x = from b u in ap (read_as body) ((i.value x.0).0 x.2) ∙ ap good (sym x.1), λ e. value_back v b (λ x. (i.value x).1) e);
    fault = λ at k. (λ u. ap (read_as body) ((i.fault at k).0 u), λ e. (i.fault at k).1 (fault_back v (at, k) e));
  }

-- the value in a body
hop_in : (text : List ℕ) (b : Body) → IsBodyText basic text b → (h : Hop) × (b ≡ Basic h) × IsHopText (chars text) h
hop_in text (Basic h) u = (h, refl, u)
hop_in text (Event e) u = absurd u

event_in : (text : List ℕ) (b : Body) → IsBodyText event text b → (e : EventRule) × (b ≡ Event e) × IsEventText (chars text) e
event_in text (Event e) u = (e, refl, u)
event_in text (Basic h) u = absurd u

pub bodies_are_computed : BodiesAreComputed
bodies_are_computed basic text =
    under Basic (IsHopText (chars text)) (IsHopTextFault (chars text)) (IsBodyText basic text) (hop_in text) (λ h u. u) (hop_of (chars text)) (hop_texts_are_computed (chars text))
bodies_are_computed event text =
    under Event (IsEventText (chars text)) (IsEventTextFault (chars text)) (IsBodyText event text) (event_in text) (λ e u. u) (event_of (chars text)) (events_are_computed (chars text))

-- the rules of a file
meant : (vars item : List KeyText) (rule : Rule) → IsRuleOf patterns vars item rule → IsMeant vars item rule
meant vars item rule is = record { says = is; body = ((bodies_are_computed is.body.type is.body.text).value rule.body).1 is.body.reads }

all_meant : (vars : List KeyText) (items : List (List KeyText)) (rules : List Rule) → AllZip (IsRuleOf patterns vars) items rules → AllZip (IsMeant vars) items rules
all_meant vars [] [] h = h
all_meant vars [] (r ∷ rules) h = h
all_meant vars (i ∷ items) [] h = h
all_meant vars (i ∷ items) (r ∷ rules) h = (meant vars i r h.0, all_meant vars items rules h.1)

pub rules_are_meant : RulesAreMeant
rules_are_meant text room grammar h =
    let k = keeps_order patterns text room grammar h in (k.0, k.1, all_meant k.0.vars k.0.rules grammar.rules k.2)
