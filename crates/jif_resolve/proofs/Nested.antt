-- No more constructs are open at a place of a draft than at its tokens.
use Rattle.std.proofs.Common.{ℕ, suc, ◌+◌, ◌<◌, ◌≤◌, List, [], ◌∷◌, ◌++◌, Option, Some, None, arith}
use Rattle.std.specs.List.{AllByRecursion}
use Rattle.js_base.specs.declared.limits.TheConstants.{NESTING}
use Rattle.jif_lex.specs.declared.token.TokenKind.TheVariants.{Name, Word}
use Rattle.jif_lex.specs.declared.token.Symbol.TheVariants.{LeftBrace, RightBrace, LeftParenthesis, RightParenthesis}
use Rattle.jif_lex.specs.declared.token.Symbol.TheVariants.{LeftBracket, RightBracket, Semicolon, Assign, Comma}
use Rattle.jif_lex.specs.declared.token.Word.TheVariants.{Int, If, Else, While, Return}
use Rattle.label_lattice.specs.Written.{symbol}
use Rattle.jif_grammar.specs.Phrases.{LabelPhrase, ExprPhrase, number, variable, element, parenthesized, signed, binary}
use Rattle.jif_grammar.specs.Phrases.{relabelled, complement, minus, release, acceptance}
use Rattle.jif_grammar.specs.Phrases.{BlockPhrase, end, declaration, assignment, element_assignment, call, call_into}
use Rattle.jif_grammar.specs.Phrases.{branch, branch_else, loop}
use Rattle.jif_grammar.specs.Operators.{operator_symbol}
use Rattle.jif_grammar.specs.Marks as marks
use Rattle.jif_grammar.specs.Marks.{Marked, Tally, mark, plain, nothing, node, local, statement, after_token}
use Rattle.jif_grammar.specs.Spelling.{label_spelling, expr_spelling, args_spelling, optional_label_spelling}
use Rattle.jif_grammar.specs.Spelling.{block_spelling, result_spelling}
use Rattle.jif_grammar.specs.DraftShapes.{BlockShape, end_shape}
use Rattle.jif_grammar.specs.Drafts.{expr_at, args_at, expr_width, block_at, result_at}
use Rattle.jif_grammar.proofs.StaysWithin.{StaysWithin}
use Rattle.jif_resolve.specs.Sizes.{IsExprNested, IsBlockNested}

-- ---- tokens

-- few constructs are open at each token
abbrev pub AreShallow : List Marked → Type 0
AreShallow tokens = AllByRecursion (λ token. token.nesting ≤ NESTING) tokens

pub shallow : (t : Tally) (tokens : List Marked) → StaysWithin t tokens → AreShallow tokens
shallow t [] within = tt
shallow t (token ∷ tokens) within =
    let deep = within.0.nesting in
    (omega (arith, deep), shallow (after_token t token) tokens within.1)

shallow_front : (front more : List Marked) → AreShallow (front ++ more) → AreShallow front
shallow_front [] more all = tt
shallow_front (token ∷ front) more all = (all.0, shallow_front front more all.1)

shallow_behind : (front more : List Marked) → AreShallow (front ++ more) → AreShallow more
shallow_behind [] more all = all
shallow_behind (token ∷ front) more all = shallow_behind front more all.1

-- ---- expressions

-- one more is open in the draft, as at the token
one_more : (around depth : ℕ) → around ≤ depth → suc depth ≤ NESTING → (around < NESTING) × (around + 1 ≤ suc depth)
one_more around depth less few = (omega (arith, less, few), omega (arith, less))

-- the tokens of what is relabelled
changed_front : (depth : ℕ) (e : ExprPhrase) (label : LabelPhrase) →
    AreShallow (expr_spelling depth e ++ plain depth (symbol Comma)
    ∷ label_spelling nothing depth label ++ plain depth (symbol RightParenthesis) ∷ []) →
    AreShallow (expr_spelling depth e)
changed_front depth e label all =
    let comma = plain depth (symbol Comma) ∷ label_spelling nothing depth label in
    shallow_front (expr_spelling depth e) comma (shallow_front (expr_spelling depth e ++ comma) _ all)

expr_nested : (around depth at : ℕ) (e : ExprPhrase) → around ≤ depth → AreShallow (expr_spelling depth e) →
    IsExprNested around (expr_at at e)
expr_nested around depth at (number n) less all = tt
expr_nested around depth at (variable name) less all = tt
expr_nested around depth at (element name index) less all =
    let more = one_more around depth less all.1.0 in (
      more.0,
      expr_nested (around + 1) (suc depth) (at + 2) index more.1 (shallow_front (expr_spelling (suc depth) index)
          (plain (suc depth) (symbol RightBracket) ∷ []) all.1.1),
    )
expr_nested around depth at (parenthesized e) less all =
    expr_nested around (suc depth) (at + 1) e (omega (arith, less))
    (shallow_front (expr_spelling (suc depth) e) (plain (suc depth) (symbol RightParenthesis) ∷ []) all.1)
expr_nested around depth at (signed complement e) less all =
    let more = one_more around depth less all.0 in
    (more.0, expr_nested (around + 1) (suc depth) (at + 1) e more.1 all.1)
expr_nested around depth at (signed minus e) less all =
    let more = one_more around depth less all.0 in
    (more.0, expr_nested (around + 1) (suc depth) (at + 1) e more.1 all.1)
expr_nested around depth at (binary operator left right) less all =
    let operator_mark = mark node depth (symbol (operator_symbol operator)) in
    let behind = operator_mark ∷ expr_spelling depth right in
    let tokens = expr_spelling depth left in (
      expr_nested around depth at left less (shallow_front tokens behind all),
      expr_nested around depth (at + expr_width left + 1) right less (shallow_behind tokens behind all).1,
    )
expr_nested around depth at (relabelled release e label) less all =
    let more = one_more around depth less all.0 in
    (more.0, expr_nested (around + 1) (suc depth) (at + 2) e more.1 (changed_front (suc depth) e label all.1.1))
expr_nested around depth at (relabelled acceptance e label) less all =
    let more = one_more around depth less all.0 in
    (more.0, expr_nested (around + 1) (suc depth) (at + 2) e more.1 (changed_front (suc depth) e label all.1.1))

args_nested : (around depth at : ℕ) (args : List ExprPhrase) → around ≤ depth → AreShallow (args_spelling depth args) →
    AllByRecursion (IsExprNested around) (args_at at args)
args_nested around depth at [] less all = tt
args_nested around depth at (arg ∷ []) less all = (expr_nested around depth at arg less all, tt)
args_nested around depth at (arg ∷ next ∷ args) less all =
    let tokens = expr_spelling depth arg in
    let behind = plain depth (symbol Comma) ∷ args_spelling depth (next ∷ args) in (
      expr_nested around depth at arg less (shallow_front tokens behind all),
      args_nested around depth (at + expr_width arg + 1) (next ∷ args) less (shallow_behind tokens behind all).1,
    )

-- ---- statements

pub result_nested : (lines : ℕ → ℕ) (at : ℕ) (result : Option ExprPhrase) → AreShallow (result_spelling result) →
    IsBlockNested 0 (result_at lines at result)
result_nested lines at None all = tt
result_nested lines at (Some value) all =
    let front = mark statement 0 (Word Return) ∷ expr_spelling 0 value in
    let tokens = shallow_front front (plain 0 (symbol Semicolon) ∷ []) all in
    (expr_nested 0 0 (at + 1) value (omega arith) tokens.1, tt)

pub block_nested : (lines : ℕ → ℕ) (around depth at : ℕ) (block : BlockPhrase) (behind : BlockShape) →
    around ≤ depth → AreShallow (block_spelling depth block) → IsBlockNested around behind →
    IsBlockNested around (block_at lines at block behind)
block_nested lines around depth at end behind less all last = last
block_nested lines around depth at (declaration label name value rest) behind less all last =
    let front = mark local depth (Word Int) ∷ optional_label_spelling depth label in
    let middle = plain depth (Name name) ∷ plain depth (symbol Assign) ∷ expr_spelling depth value in
    let more = plain depth (symbol Semicolon) ∷ block_spelling depth rest in
    let here = shallow_behind front middle (shallow_front (front ++ middle) more all) in (
      expr_nested around depth _ value less here.1.1,
      block_nested lines around depth _ rest behind less (shallow_behind (front ++ middle) more all).1 last,
    )
block_nested lines around depth at (assignment name value rest) behind less all last =
    let front = mark statement depth (Name name) ∷ plain depth (symbol Assign) ∷ expr_spelling depth value in
    let more = plain depth (symbol Semicolon) ∷ block_spelling depth rest in (
      expr_nested around depth _ value less (shallow_front front more all).1.1,
      block_nested lines around depth _ rest behind less (shallow_behind front more all).1 last,
    )
block_nested lines around depth at (element_assignment name index value rest) behind less all last =
    let front = mark statement depth (Name name) ∷ plain depth (symbol LeftBracket) ∷ expr_spelling depth index in
    let middle = plain depth (symbol RightBracket) ∷ plain depth (symbol Assign) ∷ expr_spelling depth value in
    let more = plain depth (symbol Semicolon) ∷ block_spelling depth rest in
    let here = shallow_front (front ++ middle) more all in (
      expr_nested around depth _ index less (shallow_front front middle here).1.1,
      expr_nested around depth _ value less (shallow_behind front middle here).1.1,
      block_nested lines around depth _ rest behind less (shallow_behind (front ++ middle) more all).1 last,
    )
block_nested lines around depth at (call name args rest) behind less all last =
    let front = mark statement depth (Name name) ∷ plain depth (symbol LeftParenthesis) ∷ args_spelling depth args in
    let more = plain depth (symbol RightParenthesis) ∷ plain depth (symbol Semicolon) ∷ block_spelling depth rest in (
      args_nested around depth _ args less (shallow_front front more all).1.1,
      block_nested lines around depth _ rest behind less (shallow_behind front more all).1.1 last,
    )
block_nested lines around depth at (call_into into name args rest) behind less all last =
    let front = mark marks.arguments depth (symbol LeftParenthesis) ∷ args_spelling depth args in
    let more = plain depth (symbol RightParenthesis) ∷ plain depth (symbol Semicolon) ∷ block_spelling depth rest in
    let from = all.1.1.1 in (
      args_nested around depth _ args less (shallow_front front more from).1,
      block_nested lines around depth _ rest behind less (shallow_behind front more from).1.1 last,
    )
block_nested lines around depth at (branch guard block rest) behind less all last =
    let head = mark statement depth (Word If) ∷ plain depth (symbol LeftParenthesis) ∷ expr_spelling depth guard in
    let body = plain depth (symbol RightParenthesis) ∷ plain (suc depth) (symbol LeftBrace)
    ∷ block_spelling (suc depth) block in
    let more = plain (suc depth) (symbol RightBrace) ∷ block_spelling depth rest in
    let front = shallow_front (head ++ body) more all in
    let inner = shallow_behind head body front in
    let one = one_more around depth less inner.1.0 in (
      expr_nested around depth _ guard less (shallow_front head body front).1.1,
      one.0,
      block_nested lines (around + 1) (suc depth) _ block end_shape one.1 inner.1.1 tt,
      tt,
      block_nested lines around depth _ rest behind less (shallow_behind (head ++ body) more all).1 last,
    )
block_nested lines around depth at (branch_else guard block second rest) behind less all last =
    let head = mark statement depth (Word If) ∷ plain depth (symbol LeftParenthesis) ∷ expr_spelling depth guard in
    let body = plain depth (symbol RightParenthesis) ∷ plain (suc depth) (symbol LeftBrace)
    ∷ block_spelling (suc depth) block in
    let others = plain (suc depth) (symbol RightBrace) ∷ plain depth (Word Else) ∷ plain (suc depth) (symbol LeftBrace)
    ∷ block_spelling (suc depth) second in
    let more = plain (suc depth) (symbol RightBrace) ∷ block_spelling depth rest in
    let front = shallow_front (head ++ body ++ others) more all in
    let before = shallow_front (head ++ body) others front in
    let inner = shallow_behind head body before in
    let one = one_more around depth less inner.1.0 in (
      expr_nested around depth _ guard less (shallow_front head body before).1.1,
      one.0,
      block_nested lines (around + 1) (suc depth) _ block end_shape one.1 inner.1.1 tt,
      block_nested lines (around + 1) (suc depth) _ second end_shape one.1
          (shallow_behind (head ++ body) others front).1.1.1 tt,
      block_nested lines around depth _ rest behind less (shallow_behind (head ++ body ++ others) more all).1 last,
    )
block_nested lines around depth at (loop guard block rest) behind less all last =
    let head = mark statement depth (Word While) ∷ plain depth (symbol LeftParenthesis) ∷ expr_spelling depth guard in
    let body = plain depth (symbol RightParenthesis) ∷ plain (suc depth) (symbol LeftBrace)
    ∷ block_spelling (suc depth) block in
    let more = plain (suc depth) (symbol RightBrace) ∷ block_spelling depth rest in
    let front = shallow_front (head ++ body) more all in
    let inner = shallow_behind head body front in
    let one = one_more around depth less inner.1.0 in (
      expr_nested around depth _ guard less (shallow_front head body front).1.1,
      one.0,
      block_nested lines (around + 1) (suc depth) _ block end_shape one.1 inner.1.1 tt,
      block_nested lines around depth _ rest behind less (shallow_behind (head ++ body) more all).1 last,
    )
