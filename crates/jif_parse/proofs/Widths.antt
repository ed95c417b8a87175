-- How many tokens phrases have.
use Rattle.std.proofs.Common.{◌≡◌, ℕ, ◌+◌, List, [], ◌∷◌, length, refl, ap, arith, Option, add-zero}
use Rattle.jif_lex.specs.declared.token.TokenKind.{TokenKind}
use Rattle.jif_lex.specs.declared.token.TokenKind.TheVariants.{Name, Word}
use Rattle.jif_lex.specs.declared.token.Word.TheVariants.{Else}
use Rattle.jif_lex.specs.declared.token.Symbol.TheVariants.{LeftBrace, RightBrace, RightParenthesis}
use Rattle.jif_lex.specs.declared.token.Symbol.TheVariants.{RightBracket, Semicolon, Assign}
use Rattle.label_lattice.specs.Written.{symbol}
use Rattle.jif_grammar.specs.Phrases.{LabelPhrase, ExprPhrase, BlockPhrase, end, declaration, assignment}
use Rattle.jif_grammar.specs.Phrases.{element_assignment, call, call_into, branch, branch_else, loop}
use Rattle.jif_grammar.specs.Spelling.{args_spelling, optional_label_spelling}
use Rattle.jif_grammar.specs.Unmarked.{expr_then, block_then}
use Rattle.jif_grammar.specs.DraftShapes.{BlockShape}
use Rattle.jif_grammar.specs.Drafts.{expr_width, block_width, block_at}
use Rattle.jif_parse.specs.Widths.{Widths}
use Rattle.jif_parse.proofs.Chains.{chain, chain_then}

pub declaration_width : (w : Widths) (label : Option LabelPhrase) (name : List ℕ) (value : ExprPhrase)
    (rest : BlockPhrase) →
    block_width (declaration label name value rest)
    ≡ length (optional_label_spelling 0 label) + expr_width value + block_width rest + 4
declaration_width w label name value rest =
    let behind = symbol Semicolon ∷ block_then rest [] in
    omega (
      arith,
      w.block (declaration label name value rest) [],
      w.block rest [],
      w.expr value behind,
      w.optional_label label (Name name ∷ symbol Assign ∷ expr_then value behind),
    )

pub assignment_width : (w : Widths) (name : List ℕ) (value : ExprPhrase) (rest : BlockPhrase) →
    block_width (assignment name value rest) ≡ expr_width value + block_width rest + 3
assignment_width w name value rest =
    let behind = symbol Semicolon ∷ block_then rest [] in
    omega (arith, w.block (assignment name value rest) [], w.block rest [], w.expr value behind)

pub element_assignment_width : (w : Widths) (name : List ℕ) (index value : ExprPhrase) (rest : BlockPhrase) →
    block_width (element_assignment name index value rest)
    ≡ expr_width index + expr_width value + block_width rest + 5
element_assignment_width w name index value rest =
    let behind = symbol Semicolon ∷ block_then rest [] in
    omega (
      arith,
      w.block (element_assignment name index value rest) [],
      w.block rest [],
      w.expr value behind,
      w.expr index (symbol RightBracket ∷ symbol Assign ∷ expr_then value behind),
    )

pub call_width : (w : Widths) (name : List ℕ) (args : List ExprPhrase) (rest : BlockPhrase) →
    block_width (call name args rest) ≡ length (args_spelling 0 args) + block_width rest + 4
call_width w name args rest =
    let behind = symbol RightParenthesis ∷ symbol Semicolon ∷ block_then rest [] in
    omega (arith, w.block (call name args rest) [], w.block rest [], w.args args behind)

pub call_into_width : (w : Widths) (into name : List ℕ) (args : List ExprPhrase) (rest : BlockPhrase) →
    block_width (call_into into name args rest) ≡ length (args_spelling 0 args) + block_width rest + 6
call_into_width w into name args rest =
    let behind = symbol RightParenthesis ∷ symbol Semicolon ∷ block_then rest [] in
    omega (arith, w.block (call_into into name args rest) [], w.block rest [], w.args args behind)

-- a guard and a nested block have so many tokens with those around them
guarded_width : (w : Widths) (guard : ExprPhrase) (block : BlockPhrase) (rest : List TokenKind) →
    length (expr_then guard (symbol RightParenthesis ∷ symbol LeftBrace ∷ block_then block (symbol RightBrace ∷ rest)))
    ≡ expr_width guard + block_width block + length rest + 3
guarded_width w guard block rest =
    let behind = symbol RightBrace ∷ rest in
    omega (
      arith,
      w.block block behind,
      w.expr guard (symbol RightParenthesis ∷ symbol LeftBrace ∷ block_then block behind),
    )

pub branch_width : (w : Widths) (guard : ExprPhrase) (first rest : BlockPhrase) →
    block_width (branch guard first rest) ≡ expr_width guard + block_width first + block_width rest + 5
branch_width w guard first rest =
    omega (
      arith,
      w.block (branch guard first rest) [],
      w.block rest [],
      guarded_width w guard first
          (block_then rest []),
    )

pub branch_else_width : (w : Widths) (guard : ExprPhrase) (first second rest : BlockPhrase) →
    block_width (branch_else guard first second rest)
    ≡ expr_width guard + block_width first + block_width second + block_width rest + 8
branch_else_width w guard first second rest =
    let behind = symbol RightBrace ∷ block_then rest [] in
    omega (
      arith,
      w.block (branch_else guard first second rest) [],
      w.block rest [],
      w.block second behind,
      guarded_width w guard first (Word Else ∷ symbol LeftBrace ∷ block_then second behind),
    )

pub loop_width : (w : Widths) (guard : ExprPhrase) (body rest : BlockPhrase) →
    block_width (loop guard body rest) ≡ expr_width guard + block_width body + block_width rest + 5
loop_width w guard body rest =
    omega (arith, w.block (loop guard body rest) [], w.block rest [], guarded_width w guard body (block_then rest []))

pub chain_at : (w : Widths) (lines : ℕ → ℕ) (at : ℕ) (first second : BlockPhrase) (behind : BlockShape) →
    block_at lines at (chain first second) behind
    ≡ block_at lines at first (block_at lines (at + block_width first) second behind)
chain_at w lines at end second behind = rw add-zero refl
chain_at w lines at (declaration label name value rest) second behind =
    let place = at + 1 + length (optional_label_spelling 0 label) + 3 + expr_width value in
    let same : place + block_width rest ≡ at + block_width (declaration label name value rest) =
    omega (arith, declaration_width w label name value rest) in
    cc (chain_at w lines place rest second behind, same)
chain_at w lines at (assignment name value rest) second behind =
    let place = at + 3 + expr_width value in
    let same : place + block_width rest ≡ at + block_width (assignment name value rest) =
    omega (arith, assignment_width w name value rest) in
    cc (chain_at w lines place rest second behind, same)
chain_at w lines at (element_assignment name index value rest) second behind =
    let place = at + 4 + expr_width index + 1 + expr_width value in
    let same : place + block_width rest ≡ at + block_width (element_assignment name index value rest) =
    omega (arith, element_assignment_width w name index value rest) in
    cc (chain_at w lines place rest second behind, same)
chain_at w lines at (call name args rest) second behind =
    let place = at + 4 + length (args_spelling 0 args) in
    let same : place + block_width rest ≡ at + block_width (call name args rest) =
    omega (arith, call_width w name args rest) in
    cc (chain_at w lines place rest second behind, same)
chain_at w lines at (call_into into name args rest) second behind =
    let place = at + 6 + length (args_spelling 0 args) in
    let same : place + block_width rest ≡ at + block_width (call_into into name args rest) =
    omega (arith, call_into_width w into name args rest) in
    cc (chain_at w lines place rest second behind, same)
chain_at w lines at (branch guard one rest) second behind =
    let place = at + 4 + expr_width guard + 1 + block_width one in
    let same : place + block_width rest ≡ at + block_width (branch guard one rest) =
    omega (arith, branch_width w guard one rest) in
    cc (chain_at w lines place rest second behind, same)
chain_at w lines at (branch_else guard one other rest) second behind =
    let place = at + 4 + expr_width guard + 3 + block_width one + 1 + block_width other in
    let same : place + block_width rest ≡ at + block_width (branch_else guard one other rest) =
    omega (arith, branch_else_width w guard one other rest) in
    cc (chain_at w lines place rest second behind, same)
chain_at w lines at (loop guard body rest) second behind =
    let place = at + 4 + expr_width guard + 1 + block_width body in
    let same : place + block_width rest ≡ at + block_width (loop guard body rest) =
    omega (arith, loop_width w guard body rest) in
    cc (chain_at w lines place rest second behind, same)

pub chain_width : (w : Widths) (first second : BlockPhrase) →
    block_width (chain first second) ≡ block_width first + block_width second
chain_width w first second =
    omega (
      arith,
      w.block (chain first second) [],
      w.block first (block_then second []),
      w.block second [],
      ap length (chain_then first second []),
    )
