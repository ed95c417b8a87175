-- What the parser tells of tokens, by what was read of them.
use Rattle.std.proofs.Common.{◌≡◌, ℕ, List, Some, None, ap, sym, subst, ◌∙◌, arith, inl, inr, [], map, get_or}
use Rattle.jif_lex.specs.declared.token.Token.{Token}
use Rattle.jif_tree.specs.declared.draft.Draft.{Draft}
use Rattle.label_lattice.specs.Written.{kinds}
use Rattle.jif_grammar.specs.Phrases.{ProgramPhrase}
use Rattle.jif_grammar.specs.Grouping.{IsProgram}
use Rattle.jif_grammar.specs.Marks.{tally_at_start}
use Rattle.jif_grammar.specs.Unmarked.{program_then}
use Rattle.jif_grammar.specs.DraftShapes.{draft_shape}
use Rattle.jif_grammar.specs.Programs.{Spells, IsProgramText, IsProgramOf, line_at, Refusal, unexpected, too_deep}
use Rattle.jif_grammar.specs.Programs.{too_many}
use Rattle.jif_grammar.specs.Programs.{IsRefused}
use Rattle.jif_grammar.specs.Verdicts.{refusal_of}
use Rattle.jif_parse.specs.declared.cursor.Cursor.{Cursor}
use Rattle.jif_parse.specs.declared.parse_error.ParseError.{ParseError}
use Rattle.jif_parse.specs.Counting.{IsTally}
use Rattle.jif_parse.specs.Reading.{IsErrorOf}
use Rattle.jif_parse.specs.Statements.{HasLines}
use Rattle.jif_parse.specs.Items.{FailsWhole, ReadsItems}
use Rattle.jif_parse.specs.Parsing.{IsRefusedBy}

-- nothing was read yet
pub record Starts (start : Cursor) (tokens : List Token) : Type 0 where
  pub rest : start.rest.now ≡ tokens
  pub at : start.at ≡ 0
  pub counts : IsTally start.counts tally_at_start

pub found : {start : Cursor} {made : Draft} (tokens : List Token) → Starts start tokens →
    ((program : ProgramPhrase) → refusal_of tokens ≡ None → Spells tokens program → IsProgramText tokens program) →
    ((program : ProgramPhrase) → IsProgram program → kinds tokens ≡ program_then program [] → Spells tokens program) →
    ReadsItems start made → IsProgramOf tokens (draft_shape made)
found {start} {made} tokens starts accepted spelled read =
    let line : Token → ℕ = λ token. token.line in
    let has : HasLines (line_at tokens) start =
    λ k. ap (λ xs. get_or (map line xs) k 0) starts.rest ∙ ap (line_at tokens) (omega (arith, starts.at)) in
    let spells = spelled read.program read.sound (ap kinds (sym starts.rest) ∙ read.written) in
    let none : refusal_of tokens ≡ None = cc (read.accepted tally_at_start starts.counts, starts.rest, starts.at) in
    let shape = read.draft_is (line_at tokens) has in
    record {
      program = read.program;
      text = accepted read.program none spells;
      draft_is = cc (shape, starts.at);
    }

by_refusal : (tokens : List Token) (error : ParseError) (refusal : Refusal) → IsErrorOf refusal error →
    IsRefused tokens refusal → IsRefusedBy tokens error
by_refusal tokens error (unexpected n) is refused = subst (IsRefusedBy tokens) (sym is) refused
by_refusal tokens error (too_deep n) is refused = subst (IsRefusedBy tokens) (sym is) refused
by_refusal tokens error (too_many what n) is refused = subst (IsRefusedBy tokens) (sym is) refused

pub refused_by : {start : Cursor} {error : ParseError} (tokens : List Token) → Starts start tokens →
    ((refusal : Refusal) → refusal_of tokens ≡ Some refusal → IsRefused tokens refusal) → FailsWhole start error →
    IsRefusedBy tokens error
refused_by {start} {error} tokens starts law fails =
    elim fails.why [
      | inl memory ↦ subst (IsRefusedBy tokens) (sym memory) tt
      | inr told ↦
          let some : refusal_of tokens ≡ Some told.0 =
          cc (told.2 tally_at_start starts.counts, starts.rest, starts.at) in
          by_refusal tokens error told.0 told.1 (law told.0 some)
    ]
