use Rattle.std.proofs.Common.{◌≡◌, true, false, inl, inr, drop, codes, sym, ◌∙◌}
use Rattle.std.proofs.lemmas.Bool.Decides.{Decides-eqb}
use Rattle.std.proofs.lemmas.Slice.Eq.{starts_is}
use Rattle.jif_lex.proofs.skipped.opens_comment.Goals as goal

pub returns-then-starts_with : goal.returns-then-starts_with
returns-then-starts_with c =
    let starts =
    starts_is Decides-eqb c.args.text.now (codes "//") c.starts_with.result
    (rw c.as_slice.ensures at c.starts_with.ensures.value) in
    (λ _. (drop 2 c.args.text.now, inl (starts.0 c.if-starts_with.true)), λ _. c.if-starts_with.true)

pub returns-else-starts_with : goal.returns-else-starts_with
returns-else-starts_with c =
    let first =
    starts_is Decides-eqb c.args.text.now (codes "//") c.starts_with.result
    (rw c.as_slice.ensures at c.starts_with.ensures.value) in
    let second =
    starts_is Decides-eqb c.args.text.now (codes "/*") c.starts_with-else-starts_with.result
    (rw c.as_slice-else-starts_with.ensures at c.starts_with-else-starts_with.ensures.value) in (
      λ is. (drop 2 c.args.text.now, inr (second.0 is)),
      λ opens. elim opens.1 [
        | inl a ↦ absurd (let yes : c.starts_with.result ≡ true = first.1 opens.0 a in let no =
            c.if-starts_with.false in let both : true ≡ false = sym yes ∙ no in cc)
        | inr b ↦ second.1 opens.0 b
      ],
    )
