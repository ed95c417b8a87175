-- Symbols and names that are due.
use Rattle.std.proofs.Common.{◌≡◌, ℕ, ◌≤◌, [], ◌∷◌, Some, None, refl, ap, ◌∙◌, ◌⊎◌, inl, inr}
use Rattle.js_base.specs.declared.limits.TheConstants.{NESTING}
use Rattle.jif_lex.specs.declared.token.TokenKind.{TokenKind}
use Rattle.jif_lex.specs.declared.token.TokenKind.TheVariants as token
use Rattle.jif_lex.specs.declared.token.Symbol.{Symbol}
use Rattle.jif_lex.specs.declared.token.Symbol.TheVariants as symbols
use Rattle.label_lattice.specs.Written.{kinds}
use Rattle.jif_grammar.specs.Due.{exactly, a_name, Fixed, left_parenthesis, right_parenthesis, left_brace, right_brace}
use Rattle.jif_grammar.specs.Due.{right_bracket, semicolon, colon, assign, fixed_symbol, after_fixed, due_after_token}
use Rattle.jif_grammar.specs.Nesting.{nested_at}
use Rattle.jif_tree.specs.declared.draft.NameDraft.{NameDraft}
use Rattle.jif_parse.specs.declared.cursor.Cursor.{Cursor}
use Rattle.jif_parse.specs.declared.parse_error.ParseError.{ParseError}
use Rattle.jif_parse.specs.declared.parse_error.ParseError.TheVariants as fault
use Rattle.jif_parse.specs.Reading.{behind, IsNextKind, IsNextSymbol, IsNextName, Takes, Fails}
use Rattle.jif_parse.specs.Phrases.{PassesSymbol, ReadsName}
use Rattle.jif_parse.proofs.Taking.{out_of_memory}
use Rattle.jif_parse.proofs.Moving.{Stepped, stepped, takes_passed, fails_other}

-- ---- symbols

pub step_symbol : {old new : Cursor} {written : Symbol} → PassesSymbol old new written →
    Stepped old new (token.Symbol written)
step_symbol {old} {new} {written} passes = stepped (token.Symbol written) passes.is_next passes.passes.steps

fixed_next : (fixed : Fixed) (depth : ℕ) → due_after_token (exactly fixed) (token.Symbol (fixed_symbol fixed)) ≡ Some []
fixed_next left_parenthesis depth = refl
fixed_next right_parenthesis depth = refl
fixed_next left_brace depth = refl
fixed_next right_brace depth = refl
fixed_next right_bracket depth = refl
fixed_next semicolon depth = refl
fixed_next colon depth = refl
fixed_next assign depth = refl

fixed_none : (fixed : Fixed) (written : Symbol) → ¬ (written ≡ fixed_symbol fixed) → after_fixed fixed written ≡ None
fixed_none left_parenthesis symbols.LeftParenthesis unlike = absurd (unlike refl)
fixed_none left_parenthesis _ unlike = refl
fixed_none right_parenthesis symbols.RightParenthesis unlike = absurd (unlike refl)
fixed_none right_parenthesis _ unlike = refl
fixed_none left_brace symbols.LeftBrace unlike = absurd (unlike refl)
fixed_none left_brace _ unlike = refl
fixed_none right_brace symbols.RightBrace unlike = absurd (unlike refl)
fixed_none right_brace _ unlike = refl
fixed_none right_bracket symbols.RightBracket unlike = absurd (unlike refl)
fixed_none right_bracket _ unlike = refl
fixed_none semicolon symbols.Semicolon unlike = absurd (unlike refl)
fixed_none semicolon _ unlike = refl
fixed_none colon symbols.Colon unlike = absurd (unlike refl)
fixed_none colon _ unlike = refl
fixed_none assign symbols.Assign unlike = absurd (unlike refl)
fixed_none assign _ unlike = refl

fixed_kind_none : (fixed : Fixed) (kind : TokenKind) → ¬ (kind ≡ token.Symbol (fixed_symbol fixed)) →
    due_after_token (exactly fixed) kind ≡ None
fixed_kind_none fixed (token.Symbol written) unlike =
    fixed_none fixed written (λ is. unlike (ap (λ s. token.Symbol s) is))
fixed_kind_none fixed (token.Name name) unlike = refl
fixed_kind_none fixed (token.Number n) unlike = refl
fixed_kind_none fixed (token.Word word) unlike = refl

-- a symbol that is due by itself
pub takes_fixed : {old new : Cursor} (fixed : Fixed) (depth : ℕ) → depth ≤ NESTING →
    PassesSymbol old new (fixed_symbol fixed) → Takes old new (nested_at depth (exactly fixed) ∷ []) []
takes_fixed fixed depth nested passes =
    takes_passed (nested_at depth (exactly fixed)) (token.Symbol (fixed_symbol fixed)) [] depth (step_symbol passes)
    passes.passes.counts nested (fixed_next fixed depth) refl

pub fails_fixed : (old : Cursor) (error : ParseError) (fixed : Fixed) (depth : ℕ) →
    (error ≡ fault.Unexpected old.at) × ¬ IsNextSymbol old (fixed_symbol fixed) →
    Fails old (nested_at depth (exactly fixed) ∷ []) error
fails_fixed old error fixed depth other =
    fails_other old error (nested_at depth (exactly fixed)) other.0
    (λ kind is. fixed_kind_none fixed kind (λ same. other.1 (is ∙ ap (λ k. k ∷ kinds (behind old)) same)))

-- ---- names

pub step_name : {old new : Cursor} {draft : NameDraft} (reads : ReadsName old new draft) →
    Stepped old new (token.Name reads.name)
step_name {old} {new} reads =
    stepped (token.Name reads.name) (reads.written
    ∙ ap (λ ts. token.Name reads.name ∷ kinds ts) reads.passes.steps.rest)
    reads.passes.steps

-- a name that is due by itself
pub takes_name : {old new : Cursor} {draft : NameDraft} (depth : ℕ) → depth ≤ NESTING → ReadsName old new draft →
    Takes old new (nested_at depth a_name ∷ []) []
takes_name depth nested reads =
    takes_passed (nested_at depth a_name) (token.Name reads.name) [] depth (step_name reads) reads.passes.counts nested
    refl refl

name_none : (old : Cursor) (kind : TokenKind) → ¬ IsNextName old → IsNextKind old kind →
    due_after_token a_name kind ≡ None
name_none old (token.Name name) unlike is = absurd (unlike (name, is))
name_none old (token.Number n) unlike is = refl
name_none old (token.Word word) unlike is = refl
name_none old (token.Symbol written) unlike is = refl

pub fails_name : (old : Cursor) (error : ParseError) (depth : ℕ) →
    (error ≡ fault.OutOfMemory) ⊎ ((error ≡ fault.Unexpected old.at) × ¬ IsNextName old) →
    Fails old (nested_at depth a_name ∷ []) error
fails_name old error depth (inl memory) = out_of_memory old (nested_at depth a_name ∷ []) error memory
fails_name old error depth (inr other) =
    fails_other old error (nested_at depth a_name) other.0 (λ kind is. name_none old kind other.1 is)
