-- What is due after the first tokens: exactly where a program begins with them, and nothing where they are a program.
use Rattle.std.proofs.Common.{◌≡◌, inl, inr, zero, suc, false, pos, List, [], ◌∷◌, ◌++◌, refl, ap, sym}
use Rattle.std.proofs.Common.{subst, ◌∙◌, Option, Some, None}
use Rattle.jif_lex.specs.declared.token.Token.{Token}
use Rattle.jif_lex.specs.declared.token.TokenKind.{TokenKind}
use Rattle.jif_lex.specs.declared.token.TokenKind.TheVariants.{Name, Number, Word}
use Rattle.jif_lex.specs.declared.token.Symbol.TheVariants as symbols
use Rattle.jif_lex.specs.declared.token.Word.TheVariants as words
use Rattle.label_lattice.specs.Written.{policy, symbol, kinds}
use Rattle.jif_grammar.specs.Phrases.{number, unset, ProgramPhrase}
use Rattle.jif_grammar.specs.Due as due
use Rattle.jif_grammar.specs.Due.{Due, Closing, Place, fixed_symbol, due_next, after_all, due_after}
use Rattle.jif_grammar.specs.Programs.{IsBeginning}
use Rattle.jif_grammar.specs.Grouping.{IsProgram}
use Rattle.jif_grammar.specs.Unmarked.{program_then}
use Rattle.jif_grammar.proofs.Continued.{program_unmarked}
use Rattle.jif_grammar.proofs.Written.{Closes, WrittenLinks, WrittenCall, Written, AreWritten, WrittenFrom}
use Rattle.jif_grammar.proofs.DueProgress.{progress_from}
use Rattle.jif_grammar.proofs.DueStatements.{ended}
use Rattle.jif_grammar.proofs.DuePrograms.{sound_from}

-- ---- something may be written for all that is due

closed : (closing : Closing) (rest : List TokenKind) → (tokens : List TokenKind) × Closes closing tokens rest
closed due.at_semicolon rest = (symbol symbols.Semicolon ∷ rest, refl)
closed due.at_comma rest = (symbol symbols.Comma ∷ rest, refl)
closed due.at_bracket rest = (symbol symbols.RightBracket ∷ rest, refl)
closed due.at_parenthesis rest = (symbol symbols.RightParenthesis ∷ rest, refl)
closed due.at_argument rest = (symbol symbols.RightParenthesis ∷ rest, ([], tt, refl))

no_links : (closing : Closing) (rest : List TokenKind) →
    (tokens : List TokenKind) × WrittenLinks closing tokens rest
no_links closing rest =
    let (tokens, closes) = closed closing rest in
    (tokens, record { links = []; sound = tt; behind = tokens; closes = closes; written = refl })

abbrev zero_token : TokenKind
zero_token = Number (pos 0)

empty_call : (rest : List TokenKind) →
    WrittenCall (symbol symbols.LeftParenthesis ∷ symbol symbols.RightParenthesis ∷ symbol symbols.Semicolon ∷ rest)
    rest
empty_call rest = record { args = []; sound = tt; written = refl }

complete : (first : Due) (rest : List TokenKind) → (tokens : List TokenKind) × Written first tokens rest
complete (due.exactly fixed) rest = (symbol (fixed_symbol fixed) ∷ rest, refl)
complete due.int_word rest = (Word words.Int ∷ rest, refl)
complete due.authority_word rest = (Word words.Authority ∷ rest, refl)
complete due.a_name rest = (Name [] ∷ rest, ([], refl))
complete due.a_number rest = (zero_token ∷ rest, (0, refl))
complete due.a_size rest = (Number (pos (suc zero)) ∷ rest, (zero, refl))
complete due.after_name rest = (symbol symbols.Semicolon ∷ rest, inl (unset, tt, refl))
complete due.first_value rest = (zero_token ∷ symbol symbols.Semicolon ∷ rest, (false, 0, refl))
complete due.label rest = (symbol symbols.LeftBrace ∷ symbol symbols.RightBrace ∷ rest, ([], tt, refl))
complete due.first_part rest = (symbol symbols.RightBrace ∷ rest, ([], tt, refl))
complete due.a_part rest =
    (Name [] ∷ symbol symbols.Colon ∷ symbol symbols.RightBrace ∷ rest, (policy [] [], [], tt, refl))
complete due.readers rest = (symbol symbols.RightBrace ∷ rest, ([], [], tt, refl))
complete due.after_reader rest = (symbol symbols.RightBrace ∷ rest, ([], [], tt, refl))
complete due.members rest = (symbol symbols.RightBrace ∷ rest, ([], refl))
complete due.after_member rest = (symbol symbols.RightBrace ∷ rest, ([], refl))
complete due.params rest = (symbol symbols.RightParenthesis ∷ rest, ([], tt, refl))
complete due.after_param rest = (symbol symbols.RightParenthesis ∷ rest, ([], tt, refl))
complete due.authority rest = (symbol symbols.LeftBrace ∷ rest, ([], refl))
complete due.after_principal rest =
    (symbol symbols.RightParenthesis ∷ symbol symbols.LeftBrace ∷ rest, ([], refl))
complete (due.statements place) rest = (symbol symbols.RightBrace ∷ rest, ended place rest rest refl)
complete (due.otherwise place) rest = (symbol symbols.RightBrace ∷ rest, inr (ended place rest rest refl))
complete due.after_int rest = (
  Name [] ∷ symbol symbols.Assign ∷ zero_token ∷ symbol symbols.Semicolon ∷ rest,
  record {
    label = None;
    name = [];
    label_sound = tt;
    behind = symbol symbols.Assign ∷ zero_token ∷ symbol symbols.Semicolon ∷ rest;
    set = record { value = number 0; sound = tt; written = refl };
    written = refl;
  },
)
complete due.after_first_name rest = (
  symbol symbols.LeftParenthesis ∷ symbol symbols.RightParenthesis ∷ symbol symbols.Semicolon ∷ rest,
  inr (inr (empty_call rest)),
)
complete due.value rest = (
  zero_token ∷ symbol symbols.Semicolon ∷ rest,
  inl (record {
    expr = number 0;
    sound = tt;
    behind = symbol symbols.Semicolon ∷ rest;
    closes = refl;
    written = refl;
  }),
)
complete due.after_value_name rest = (
  symbol symbols.LeftParenthesis ∷ symbol symbols.RightParenthesis ∷ symbol symbols.Semicolon ∷ rest,
  inr (empty_call rest),
)
complete due.args rest = (symbol symbols.RightParenthesis ∷ rest, ([], tt, refl))
complete (due.operand closing) rest =
    let (tokens, closes) = closed closing rest in (
      zero_token ∷ tokens,
      record {
        expr = number 0;
        sound = tt;
        behind = tokens;
        closes = closes;
        written = refl;
      },
    )
complete (due.after_operand_name closing) rest =
    let (tokens, w) = no_links closing rest in
    (tokens, inl w)
complete (due.links closing) rest = no_links closing rest

complete_all : (first : List Due) (rest : List TokenKind) → (tokens : List TokenKind) × AreWritten first tokens rest
complete_all [] rest = (rest, refl)
complete_all (one ∷ later) rest =
    let (between, more) = complete_all later rest in
    let (tokens, w) = complete one between in
    (tokens, (between, w, more))

complete_from : (first : List Due) → (tokens : List TokenKind) × WrittenFrom first tokens
complete_from first =
    let (tokens, w) = complete_all first [] in
    (tokens, record { behind = []; written = w; items = []; sound = tt; is = refl })

-- ---- through all tokens

step_sound : (first new : List Due) (kind : TokenKind) (more r : List TokenKind) (made : Option (List Due)) →
    due_next first kind ≡ made → after_all made more ≡ Some new →
    ((middle : List Due) → after_all (Some middle) more ≡ Some new → WrittenFrom middle (more ++ r)) →
    WrittenFrom first (kind ∷ more ++ r)
step_sound first new kind more r None step is rest = absurd (cc)
step_sound first new kind more r (Some middle) step is rest =
    sound_from first kind middle (more ++ r) step (rest middle is)

pub run_sound : (front : List TokenKind) (first new : List Due) (r : List TokenKind) →
    after_all (Some first) front ≡ Some new → WrittenFrom new r → WrittenFrom first (front ++ r)
run_sound [] first new r is w =
    let same : new ≡ first = (cc) in
    subst (λ ds. WrittenFrom ds r) same w
run_sound (kind ∷ more) first new r is w =
    step_sound first new kind more r (due_next first kind) refl is
    (λ middle reached. run_sound more middle new r reached
    w)

pub run_progress : (front : List TokenKind) (first : List Due) (r : List TokenKind) → WrittenFrom first (front ++ r) →
    (new : List Due) × (after_all (Some first) front ≡ Some new) × WrittenFrom new r
run_progress [] first r w = (first, refl, w)
run_progress (kind ∷ more) first r w =
    let moved = progress_from first kind (more ++ r) w in
    let (new, is, written) = run_progress more moved.new r moved.written in
    (new, ap (λ made. after_all made more) moved.is ∙ is, written)

pub from_program : (tokens : List TokenKind) (program : ProgramPhrase) → IsProgram program →
    tokens ≡ program_then program [] → WrittenFrom [] tokens
from_program tokens program sound is = record {
  behind = tokens;
  written = refl;
  items = program;
  sound = sound;
  is = is;
}

-- ---- the laws

pub due_at_beginning : (tokens : List Token) → IsBeginning tokens →
    (first : List Due) × (due_after (kinds tokens) ≡ Some first)
due_at_beginning tokens (program, goes) =
    let (new, is, written) = run_progress (kinds tokens) [] goes.rest (from_program (kinds tokens ++ goes.rest) program
    goes.is_program (goes.written ∙ program_unmarked program)) in
    (new, is)

pub beginning_of_due : (tokens : List Token) (first : List Due) → due_after (kinds tokens) ≡ Some first →
    IsBeginning tokens
beginning_of_due tokens first is =
    let (r, w) = complete_from first in
    let whole = run_sound (kinds tokens) [] first r is w in (
      whole.items,
      record {
        is_program = whole.sound;
        rest = r;
        written = whole.written ∙ whole.is ∙ sym (program_unmarked whole.items);
      },
    )
