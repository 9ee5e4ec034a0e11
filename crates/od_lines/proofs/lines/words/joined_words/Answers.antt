use Rattle.std.proofs.Common.{◌≡◌, ℕ, ◌∷◌, ◌++◌, ◌+◌, ◌-◌, ◌<◌, [], append_assoc, take, drop, map, string_bytes, sym, ap, ◌∙◌, arith}
use Rattle.std.specs.List.{join_with_byte}
use Rattle.od_line.specs.Mentions.{text_in}
use Rattle.od_lines.proofs.LineWords.{first_word, next_word}
use Rattle.od_lines.proofs.lines.words.joined_words.Goals as goal
use Rattle.od_lines.proofs.lines.words.joined_words.Goals.{then-token-start+in_ok-push, else-token-start}

pub loop-token-preserved : goal.loop-token-preserved
loop-token-preserved c =
    let tokens = c.args.words.now.sentence.tokens in
    let start = c.args.start in
    let token = c.loop-token.token in
    let word = c.word_of.result.now in
    elim c.if-token-start.branch [
      | then-token-start+in_ok-push w ↦
          let low : 32 < 128 = omega arith in
          let spaced = w.in_ok-push.ensures.bytes ∙ ap (λ space. string_bytes c.loop-token.text ++ space) (w.in_ok-push.ensures.ascii low)
          ∙ ap (λ text. text ++ 32 ∷ []) c.loop-token.invariant.written in
          record {
            written = c.in_ok-push_str.ensures.bytes ∙ ap (λ text. string_bytes text ++ word) w.text-is ∙ ap (λ text. text ++ word) spaced
                ∙ append_assoc (text_in tokens start token) (32 ∷ []) word ∙ next_word tokens start token word w.if-token-start.true c.word_of.ensures;
            within = omega arith;
          }
      | else-token-start w ↦
          let first : start ≡ token = omega arith in
          let empty : string_bytes c.loop-token.text ≡ [] = c.loop-token.invariant.written ∙ ap (text_in tokens start) (sym first)
          ∙ ap (λ n. join_with_byte 32 (map (λ t. t.word) (take n (drop start tokens)))) (nothing start) in
          record {
            written = c.in_ok-push_str.ensures.bytes ∙ ap (λ text. string_bytes text ++ word) w.text-is ∙ ap (λ text. text ++ word) empty
                ∙ first_word tokens token word c.word_of.ensures ∙ ap (λ n. text_in tokens n (token + 1)) (sym first);
            within = omega arith;
          }
    ]
  where
    nothing : (n : ℕ) → n - n ≡ 0
    nothing n = omega arith

pub returns : goal.returns
returns c =
    let passed = c.loop-token.invariant.within in
    let cut : c.loop-token.token - c.args.start ≡ c.args.end - c.args.start = omega (arith, passed) in
    c.loop-token.invariant.written ∙ ap (λ n. join_with_byte 32 (map (λ token. token.word) (take n (drop c.args.start c.args.words.now.sentence.tokens)))) cut
