use Rattle.std.proofs.Common.{◌≡◌, ◌++◌, ◌∷◌, [], sym, ap, ◌∙◌}
use Rattle.std.proofs.lemmas.List.{map-append}
use Rattle.od_grammar.specs.declared.expressions.Use.{Use}
use Rattle.od_grammar.specs.Uses.{use_of, uses}
use Rattle.od_grammar.proofs.Appearing.{noted_again, noted_new}
use Rattle.od_grammar.proofs.Among.{among_at, not_among}
use Rattle.od_grammar.proofs.expressions.note.Goals as goal

pub returns-in-Some : goal.returns-in-Some
returns-in-Some c =
    noted_again c.args.seen.now (uses c.args.found.now.items) (record { rule = c.args.rule; expression = c.args.expression.now })
    (among_at c.args.seen.now c.args.expression.now c.in-Some.field-0 (sym c.in-Some.ensures))

pub returns-in_ok-push-in-None-2 : goal.returns-in_ok-push-in-None-2
returns-in_ok-push-in-None-2 c =
    let one : Use = record { rule = c.args.rule; expression = c.args.expression } in
    let more : c.push-in-None.new.self.items ≡ c.args.found.now.items ++ one ∷ [] = c.in_ok-push-in-None-2.ensures.items in
    noted_new c.args.seen.now c.push.new.self (uses c.args.found.now.items) (uses c.push-in-None.new.self.items) (use_of one)
    (not_among c.args.seen.now c.args.expression.now (sym c.in-None.ensures)) c.in_ok-push-in-None.ensures.ok
    (ap uses more ∙ map-append use_of c.args.found.now.items (one ∷ []))
