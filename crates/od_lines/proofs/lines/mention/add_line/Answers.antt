use Rattle.std.proofs.Common.{◌≡◌, ◌++◌, List, ap, ◌∙◌}
use Rattle.od_document.specs.declared.token.Token.{Token}
use Rattle.od_line.specs.Data.{line_of}
use Rattle.od_line.specs.Mentions.{mention_data, tokens_in}
use Rattle.od_lines.specs.Words.{tokens_of}
use Rattle.od_lines.proofs.LineTokens.{line-added}
use Rattle.od_lines.proofs.LineWords.{same_tokens}
use Rattle.od_lines.proofs.lines.mention.add_line.Goals as goal

pub returns : goal.returns
returns g c =
    let tokens = tokens_of c.sentence-words.result in
    let d = mention_data c.args.session.now c.name.result.now tokens c.args.mention.now in
    c.in_ok-push.ensures.items
    ∙ line-added c.args.out.items _ _ _ _ d (c.in_ok-write_mention.ensures.before ∙ c.new-line.ensures.before) c.new-line.ensures.tokens c.in_ok-write_mention.ensures.tokens c.into_inner-lines.ensures.items
    ∙ ap (λ name. c.args.out.items ++ line_of (mention_data c.args.session.now name tokens c.args.mention.now)) c.name.ensures
    ∙ ap (λ (ts : List Token). c.args.out.items ++ line_of (mention_data c.args.session.now c.args.doc.now.name ts c.args.mention.now)) (same_tokens c.sentence-words.result ∙ ap tokens_in c.sentence-words.ensures)
