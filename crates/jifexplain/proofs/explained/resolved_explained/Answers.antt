use Rattle.std.proofs.Common.{◌≡◌, ◌∙◌, ℕ, List, ap, inl}
use Rattle.front_end.specs.Sources.{Lexed}
use Rattle.front_end.specs.Verdicts.{VerdictShape}
use Rattle.front_end.proofs.Stages.{due_handed_on, due_stops}
use Rattle.jif_lex.specs.declared.token.Token.{Token}
use Rattle.explain_texts.specs.Heads.{resolved_told}
use Rattle.jifexplain.specs.Explained.{ResolveExplained}
use Rattle.jifexplain.specs.Texts.{readable, told_of}
use Rattle.jifexplain.proofs.explained.resolved_explained.Goals as goal

pub returns-in_err-tokens : goal.returns-in_err-tokens
returns-in_err-tokens c = λ p loaded_p.
    due_handed_on (ResolveExplained c.args.name.now p c.args.why) c.in_err-tokens.field-0.0 c.from_residual.result
    c.from_residual.ensures
    (due_stops (Lexed p) (λ (list : List Token) (verdict : VerdictShape). verdict ≡ told_of c.args.name.now (readable p) (resolved_told list c.args.why)) c.in_err-tokens.field-0.0
    (c.in_err-tokens.ensures.lexed p loaded_p))

pub returns : goal.returns
returns c = λ p loaded_p.
    inl (
      c.in_ok-tokens.tokens.items,
      c.in_ok-tokens.ensures.lexed p loaded_p,
      c.in_ok-resolved_shown.ensures
          ∙ ap (λ (text : List ℕ). told_of c.args.name.now text (resolved_told c.deref.result.now c.args.why))
          (c.readable-text.ensures.text p loaded_p)
          ∙ ap (λ (list : List Token). told_of c.args.name.now (readable p) (resolved_told list c.args.why))
          c.deref.ensures.value,
    )
