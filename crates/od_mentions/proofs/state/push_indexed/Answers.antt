-- The new mention is noted at its place.
use Rattle.std.proofs.Common.{◌≡◌, ◌∷◌, [], ◌++◌, length, subst, sym, ap, ◌∙◌, arith}
use Rattle.od_mentions.specs.Indexes.{IndexesOne, IsIndexOf}
use Rattle.od_mentions.proofs.Noted.{index-more}
use Rattle.od_mentions.proofs.state.push_indexed.Goals as goal

pub returns-clause-indexed : goal.returns-clause-indexed
returns-clause-indexed c =
    let ms = c.args.mentions.now.items in
    let long : c.len.result ≡ length ms = omega (arith, ap length c.reserve.ensures.items) in
    let items : c.push_reserved.new.self.items ≡ ms ++ c.args.mention ∷ [] = c.push_reserved.ensures.items ∙ ap (λ xs. xs ++ c.args.mention ∷ []) c.reserve.ensures.items in
    subst (IsIndexOf c.note.new.self) (sym items)
    (index-more c.args.index.now c.note.new.self ms c.args.mention (subst (λ n. IndexesOne c.args.index.now c.note.new.self c.args.mention n) long c.in_ok-note.ensures.ok) c.requires.indexed)
