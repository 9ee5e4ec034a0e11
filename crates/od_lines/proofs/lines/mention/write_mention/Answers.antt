use Rattle.std.proofs.lemmas.Result.{on_ok_weaker}
use Rattle.od_lines.specs.Words.{tokens_of}
use Rattle.od_lines.proofs.LineTokens.{mention-written}
use Rattle.od_lines.proofs.lines.mention.write_mention.Goals as goal

pub returns-clause-tokens : goal.returns-clause-tokens
returns-clause-tokens c =
    on_ok_weaker c.end_object.result (λ e. mention-written c.args.session.now c.args.document.now (tokens_of c.args.words) c.args.mention.now _ _ _ _ _ _ _ _ _ _ _ _
    c.in_ok-begin_object.ensures.ok c.in_ok-write_parts.ensures.tokens c.in_ok-write_word.ensures.tokens c.in_ok-write_count.ensures.tokens
    c.in_ok-write_word-2.ensures.tokens c.in_ok-write_word-3.ensures.tokens c.in_ok-write_count-2.ensures.tokens c.in_ok-write_word-4.ensures.tokens
    c.in_ok-write_count-3.ensures.tokens c.in_ok-write_text.ensures.tokens e) c.end_object.ensures.ok
