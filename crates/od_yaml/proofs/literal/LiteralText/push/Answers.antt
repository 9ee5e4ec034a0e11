use Rattle.std.proofs.Common.{sym, ◌∙◌, ap, ◌++◌, ◌∷◌, [], List, ℕ, string_bytes, append_assoc, Result, Ok, Err}
use Rattle.std.specs.Prelude.{OnOk}
use Rattle.od_rule_text.specs.Scalars.{unindented}
use Rattle.od_yaml.proofs.Literals.{filled_step}
use Rattle.od_yaml.proofs.literal.LiteralText.push.Goals as goal

on_ok : {X E A B : Type 0} (r : Result X E) → (A → B) → OnOk r A → OnOk r B
on_ok (Ok x) f a = f a
on_ok (Err e) f a = a

pub returns : goal.returns
returns c =
    let filled = sym c.is_blank_line.ensures ∙ c.if-is_blank_line.false in
    let grown = c.in_ok-push_text.ensures ∙ ap (λ (xs : List ℕ). string_bytes c.args.self.now.text ++ xs) c.as_str.ensures.value in
    on_ok c.push_line-2.result
    (λ is ws. filled_step c.args.n (string_bytes c.args.self.now.text) (string_bytes c.args.self.now.held) c.args.line.now (string_bytes c.push_line-2.new.text) (string_bytes c.clear.new.self) ws filled
    (is ∙ ap (λ (xs : List ℕ). xs ++ unindented c.args.n c.args.line.now ++ 10 ∷ []) grown
    ∙ append_assoc (string_bytes c.args.self.now.text ++ string_bytes c.args.self.now.held) (unindented c.args.n c.args.line.now) (10 ∷ []))
    c.clear.ensures.bytes)
    c.push_line-2.ensures
