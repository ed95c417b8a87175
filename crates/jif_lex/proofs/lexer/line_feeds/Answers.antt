use Rattle.std.proofs.Common.{◌≡◌, ◌==◌, sym, ◌∙◌, rules}
use Rattle.std.specs.List.{count_by}
use Rattle.jif_lex.proofs.Skips.{line_feeds_count}
use Rattle.jif_lex.proofs.lexer.line_feeds.Goals as goal

pub returns : goal.returns
returns c =
    let is : c.count.result ≡ count_by (λ byte. byte == 10) c.args.bytes.now = search rules in
    is ∙ sym (line_feeds_count c.args.bytes.now)
