-- What is due finds the marks of labels and expressions as they are spelled.
use Rattle.std.proofs.Common.{◌≡◌, ◌≤◌, ◌⊎◌, inl, inr, ℕ, suc, List, [], ◌∷◌, refl, sym, subst, Some, arith}
use Rattle.std.specs.Prelude.{⊤}
use Rattle.js_base.specs.declared.binary_operator.BinOp.{BinOp}
use Rattle.js_base.specs.declared.binary_operator.BinOp.TheVariants as operator
use Rattle.jif_lex.specs.declared.token.TokenKind.TheVariants.{Name}
use Rattle.jif_lex.specs.declared.token.Symbol.TheVariants as symbols
use Rattle.label_lattice.specs.Written.{Part, policy, trust, symbol, TrustIsLast}
use Rattle.jif_grammar.specs.Phrases.{complement, minus, release, acceptance, LabelPhrase, ExprPhrase, number}
use Rattle.jif_grammar.specs.Phrases.{variable, element, parenthesized, signed, binary, relabelled}
use Rattle.jif_grammar.specs.Operators.{operator_symbol, operator_level, tightest_level}
use Rattle.jif_grammar.specs.Marks.{Marked, mark, plain, nothing, node}
use Rattle.jif_grammar.specs.Grouping.{level, IsGrouped}
use Rattle.jif_grammar.specs.Due as due
use Rattle.jif_grammar.specs.Due.{Due, Closing, Place}
use Rattle.jif_grammar.specs.Nesting.{Nested, nested_at, nested_next}
use Rattle.jif_grammar.proofs.Marked.{joined_before, names_before, part_before, label_before, expr_before}

-- the tokens are marked as what is due, token by token, has them
abbrev pub Goes : List Nested → List Marked → Type 0
Goes first [] = ⊤
Goes first (token ∷ tokens) =
    (next : List Nested) × (nested_next first token.kind ≡ Some (token, next)) × Goes next tokens

-- ---- names

-- names behind the first, where a comma makes a name due and then the same again
pub goes_more_names : (more : Due) (depth : ℕ) (later : List Nested) (tokens : List Marked)
    (name : List ℕ) (names : List (List ℕ)) →
    nested_next (nested_at depth more ∷ later) (symbol symbols.Comma)
    ≡ Some (plain depth (symbol symbols.Comma), nested_at depth due.a_name ∷ nested_at depth more ∷ later) →
    Goes (nested_at depth more ∷ later) tokens →
    Goes (nested_at depth due.a_name ∷ nested_at depth more ∷ later) (names_before depth (name ∷ names) tokens)
goes_more_names more depth later tokens name [] comma goes = (nested_at depth more ∷ later, refl, goes)
goes_more_names more depth later tokens name (next ∷ names) comma goes = (
  nested_at depth more ∷ later,
  refl,
  (
    nested_at depth due.a_name ∷ nested_at depth more ∷ later,
    comma,
    goes_more_names more depth later tokens next names comma goes,
  ),
)

-- names up to what ends them
goes_names : (first more : Due) (depth : ℕ) (later : List Nested) (tokens : List Marked) (names : List (List ℕ)) →
    ((name : List ℕ) → nested_next (nested_at depth first ∷ later) (Name name)
    ≡ Some (plain depth (Name name), nested_at depth more ∷ later)) →
    nested_next (nested_at depth more ∷ later) (symbol symbols.Comma)
    ≡ Some (plain depth (symbol symbols.Comma), nested_at depth due.a_name ∷ nested_at depth more ∷ later) →
    Goes (nested_at depth first ∷ later) tokens → Goes (nested_at depth more ∷ later) tokens →
    Goes (nested_at depth first ∷ later) (names_before depth names tokens)
goes_names first more depth later tokens [] begin comma none goes = none
goes_names first more depth later tokens (name ∷ []) begin comma none goes =
    (nested_at depth more ∷ later, begin name, goes)
goes_names first more depth later tokens (name ∷ next ∷ names) begin comma none goes = (
  nested_at depth more ∷ later,
  begin name,
  (
    nested_at depth due.a_name ∷ nested_at depth more ∷ later,
    comma,
    goes_more_names more depth later tokens next names comma goes,
  ),
)

-- ---- labels

goes_readers : (depth : ℕ) (later : List Nested) (tokens : List Marked) (names : List (List ℕ)) →
    Goes (nested_at depth due.readers ∷ later) tokens → Goes (nested_at depth due.after_reader ∷ later) tokens →
    Goes (nested_at depth due.readers ∷ later) (names_before depth names tokens)
goes_readers depth later tokens names none goes =
    goes_names due.readers due.after_reader depth later tokens names (λ name. refl) refl none goes

goes_members : (depth : ℕ) (later : List Nested) (tokens : List Marked) (names : List (List ℕ)) →
    Goes (nested_at depth due.members ∷ later) tokens → Goes (nested_at depth due.after_member ∷ later) tokens →
    Goes (nested_at depth due.members ∷ later) (names_before depth names tokens)
goes_members depth later tokens names none goes =
    goes_names due.members due.after_member depth later tokens names (λ name. refl) refl none goes

abbrev pub parts_before : ℕ → LabelPhrase → List Marked → List Marked
parts_before depth parts tokens = joined_before (plain depth (symbol symbols.Semicolon))
    (part_before depth) parts tokens

abbrev pub brace : ℕ → Marked
brace depth = plain depth (symbol symbols.RightBrace)

goes_parts : (depth : ℕ) (later : List Nested) (tokens : List Marked) (part : Part) (parts : LabelPhrase) →
    TrustIsLast (part ∷ parts) → Goes later tokens →
    Goes (nested_at depth due.a_part ∷ later) (parts_before depth (part ∷ parts) (brace depth ∷ tokens))
goes_parts depth later tokens (policy owner readers) [] last goes = (
  nested_at depth (due.exactly due.colon) ∷ nested_at depth due.readers ∷ later,
  refl,
  (
    nested_at depth due.readers ∷ later,
    refl,
    goes_readers depth later (brace depth ∷ tokens) readers (later, refl, goes) (later, refl, goes),
  ),
)
goes_parts depth later tokens (policy owner readers) (next ∷ parts) last goes =
    let more = goes_parts depth later tokens next parts last goes in (
      nested_at depth (due.exactly due.colon) ∷ nested_at depth due.readers ∷ later,
      refl,
      (
        nested_at depth due.readers ∷ later,
        refl,
        goes_readers depth later (plain depth (symbol symbols.Semicolon)
            ∷ parts_before depth (next ∷ parts) (brace depth ∷ tokens)) readers
            (nested_at depth due.a_part ∷ later, refl, more) (nested_at depth due.a_part ∷ later, refl, more),
      ),
    )
goes_parts depth later tokens (trust members) [] last goes = (
  nested_at depth (due.exactly due.colon) ∷ nested_at depth due.members ∷ later,
  refl,
  (
    nested_at depth due.members ∷ later,
    refl,
    goes_members depth later (brace depth ∷ tokens) members (later, refl, goes) (later, refl, goes),
  ),
)
goes_parts depth later tokens (trust members) (next ∷ parts) last goes = absurd (cc)

pub goes_first_part : (depth : ℕ) (later : List Nested) (tokens : List Marked) (parts : LabelPhrase) →
    TrustIsLast parts → Goes later tokens →
    Goes (nested_at depth due.first_part ∷ later) (parts_before depth parts (brace depth ∷ tokens))
goes_first_part depth later tokens [] last goes = (later, refl, goes)
goes_first_part depth later tokens (policy owner readers ∷ []) last goes =
    goes_parts depth later tokens (policy owner readers) [] last goes
goes_first_part depth later tokens (policy owner readers ∷ next ∷ parts) last goes =
    goes_parts depth later tokens (policy owner readers) (next ∷ parts) last goes
goes_first_part depth later tokens (trust members ∷ []) last goes =
    goes_parts depth later tokens (trust members) [] last goes
goes_first_part depth later tokens (trust members ∷ next ∷ parts) last goes = absurd (cc)

pub goes_label : (depth : ℕ) (later : List Nested) (tokens : List Marked) (label : LabelPhrase) →
    TrustIsLast label → Goes later tokens →
    Goes (nested_at depth due.label ∷ later) (label_before nothing depth label tokens)
goes_label depth later tokens label last goes =
    (nested_at depth due.first_part ∷ later, refl, goes_first_part depth later tokens label last goes)

-- ---- expressions

abbrev after_name_at : Closing → ℕ → ℕ → Nested
after_name_at closing depth inner =
    record { due = due.after_operand_name closing; depth = depth; inner = inner }

abbrev pub operand_at : Closing → ℕ → ℕ → Nested
operand_at closing depth inner = record { due = due.operand closing; depth = depth; inner = inner }

-- the tokens go on behind an operand, and behind one that is a name
abbrev pub GoesBehind : Closing → ℕ → List Nested → List Marked → Type 0
GoesBehind closing depth later tokens =
    Goes (nested_at depth (due.links closing) ∷ later) tokens
    × ((inner : ℕ) → Goes (after_name_at closing depth inner ∷ later) tokens)

pub links_operator : (closing : Closing) (depth : ℕ) (later : List Nested) (o : BinOp) →
    nested_next (nested_at depth (due.links closing) ∷ later) (symbol (operator_symbol o))
    ≡ Some (mark node depth (symbol (operator_symbol o)), operand_at closing depth depth ∷ later)
links_operator due.at_semicolon depth later operator.Or = refl
links_operator due.at_semicolon depth later _ = refl
links_operator due.at_comma depth later operator.Or = refl
links_operator due.at_comma depth later _ = refl
links_operator due.at_bracket depth later operator.Or = refl
links_operator due.at_bracket depth later _ = refl
links_operator due.at_parenthesis depth later operator.Or = refl
links_operator due.at_parenthesis depth later _ = refl
links_operator due.at_argument depth later operator.Or = refl
links_operator due.at_argument depth later _ = refl

pub name_operator : (closing : Closing) (depth inner : ℕ) (later : List Nested) (o : BinOp) →
    nested_next (after_name_at closing depth inner ∷ later) (symbol (operator_symbol o))
    ≡ Some (mark node depth (symbol (operator_symbol o)), operand_at closing depth depth ∷ later)
name_operator due.at_semicolon depth inner later operator.Or = refl
name_operator due.at_semicolon depth inner later _ = refl
name_operator due.at_comma depth inner later operator.Or = refl
name_operator due.at_comma depth inner later _ = refl
name_operator due.at_bracket depth inner later operator.Or = refl
name_operator due.at_bracket depth inner later _ = refl
name_operator due.at_parenthesis depth inner later operator.Or = refl
name_operator due.at_parenthesis depth inner later _ = refl
name_operator due.at_argument depth inner later operator.Or = refl
name_operator due.at_argument depth inner later _ = refl

pub value_name_operator : (depth : ℕ) (later : List Nested) (o : BinOp) →
    nested_next (nested_at depth due.after_value_name ∷ later) (symbol (operator_symbol o))
    ≡ Some (mark node depth (symbol (operator_symbol o)), operand_at due.at_semicolon depth depth ∷ later)
value_name_operator depth later operator.Or = refl
value_name_operator depth later _ = refl

below_tightest : (o : BinOp) → ¬ (tightest_level ≤ operator_level o)
below_tightest operator.Or tight = omega (arith, tight)
below_tightest operator.And tight = omega (arith, tight)
below_tightest _ tight = omega (arith, tight)

pub goes_expr : (e : ExprPhrase) (closing : Closing) (depth inner : ℕ) (later : List Nested) (tokens : List Marked) →
    IsGrouped e → (inner ≡ depth) ⊎ (tightest_level ≤ level e) → GoesBehind closing depth later tokens →
    Goes (operand_at closing depth inner ∷ later) (expr_before inner e tokens)
goes_expr (number n) closing depth inner later tokens grouped fits goes =
    (nested_at depth (due.links closing) ∷ later, refl, goes.0)
goes_expr (variable name) closing depth inner later tokens grouped fits goes =
    (after_name_at closing depth inner ∷ later, refl, goes.1 inner)
goes_expr (element name index) closing depth inner later tokens grouped fits goes =
    let behind = nested_at depth (due.links closing) ∷ later in (
      after_name_at closing depth inner ∷ later,
      refl,
      (
        operand_at due.at_bracket (suc inner) (suc inner) ∷ behind,
        refl,
        goes_expr index due.at_bracket (suc inner) (suc inner) behind
            (plain (suc inner) (symbol symbols.RightBracket) ∷ tokens) grouped (inl refl)
            ((behind, refl, goes.0), λ deeper. (behind, refl, goes.0)),
      ),
    )
goes_expr (parenthesized e) closing depth inner later tokens grouped fits goes =
    let behind = nested_at depth (due.links closing) ∷ later in (
      operand_at due.at_parenthesis (suc inner) (suc inner) ∷ behind,
      refl,
      goes_expr e due.at_parenthesis (suc inner) (suc inner) behind
          (plain (suc inner) (symbol symbols.RightParenthesis) ∷ tokens) grouped (inl refl)
          ((behind, refl, goes.0), λ deeper. (behind, refl, goes.0)),
    )
goes_expr (signed complement e) closing depth inner later tokens grouped fits goes = (
  operand_at closing depth (suc inner) ∷ later,
  refl,
  goes_expr e closing depth (suc inner) later tokens grouped.1 (inr grouped.0) goes,
)
goes_expr (signed minus e) closing depth inner later tokens grouped fits goes = (
  operand_at closing depth (suc inner) ∷ later,
  refl,
  goes_expr e closing depth (suc inner) later tokens grouped.1 (inr grouped.0) goes,
)
goes_expr (binary o left right) closing depth inner later tokens grouped (inr tight) goes =
    absurd (below_tightest o tight)
goes_expr (binary o left right) closing depth inner later tokens grouped (inl is) goes =
    let more = goes_expr right closing depth depth later tokens grouped.3 (inl refl) goes in
    subst (λ i. Goes (operand_at closing depth i ∷ later) (expr_before i (binary o left right) tokens)) (sym is)
    (goes_expr left closing depth depth later
    (mark node depth (symbol (operator_symbol o)) ∷ expr_before depth right tokens) grouped.2 (inl refl) (
      (operand_at closing depth depth ∷ later, links_operator closing depth later o, more),
      λ deeper. (operand_at closing depth depth ∷ later, name_operator closing depth deeper later o, more),
    ))
goes_expr (relabelled release e label) closing depth inner later tokens grouped fits goes =
    let behind = nested_at depth (due.links closing) ∷ later in
    let close = nested_at (suc inner) (due.exactly due.right_parenthesis) ∷ behind in
    let label_due = nested_at (suc inner) due.label ∷ close in
    let rest = label_before nothing (suc inner) label (plain (suc inner) (symbol symbols.RightParenthesis) ∷ tokens) in
    let more = goes_label (suc inner) close (plain (suc inner) (symbol symbols.RightParenthesis) ∷ tokens) label
    grouped.1
    (behind, refl, goes.0) in (
      nested_at (suc inner) (due.exactly due.left_parenthesis)
          ∷ operand_at due.at_comma (suc inner) (suc inner) ∷ label_due,
      refl,
      (
        operand_at due.at_comma (suc inner) (suc inner) ∷ label_due,
        refl,
        goes_expr e due.at_comma (suc inner) (suc inner) label_due (plain (suc inner) (symbol symbols.Comma) ∷ rest)
            grouped.0 (inl refl) ((label_due, refl, more), λ deeper. (label_due, refl, more)),
      ),
    )
goes_expr (relabelled acceptance e label) closing depth inner later tokens grouped fits goes =
    let behind = nested_at depth (due.links closing) ∷ later in
    let close = nested_at (suc inner) (due.exactly due.right_parenthesis) ∷ behind in
    let label_due = nested_at (suc inner) due.label ∷ close in
    let rest = label_before nothing (suc inner) label (plain (suc inner) (symbol symbols.RightParenthesis) ∷ tokens) in
    let more = goes_label (suc inner) close (plain (suc inner) (symbol symbols.RightParenthesis) ∷ tokens) label
    grouped.1
    (behind, refl, goes.0) in (
      nested_at (suc inner) (due.exactly due.left_parenthesis)
          ∷ operand_at due.at_comma (suc inner) (suc inner) ∷ label_due,
      refl,
      (
        operand_at due.at_comma (suc inner) (suc inner) ∷ label_due,
        refl,
        goes_expr e due.at_comma (suc inner) (suc inner) label_due (plain (suc inner) (symbol symbols.Comma) ∷ rest)
            grouped.0 (inl refl) ((label_due, refl, more), λ deeper. (label_due, refl, more)),
      ),
    )
