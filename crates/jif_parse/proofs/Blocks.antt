-- Statements one after the other, and nested blocks, put together from what was read.
use Rattle.std.proofs.Common.{◌≡◌, ◌≤◌, ◌<◌, ℕ, suc, ◌+◌, List, [], ◌∷◌, ◌++◌, drop, length, map, get_or, None, refl}
use Rattle.std.proofs.Common.{ap, sym, subst, ◌∙◌, arith, Vec, Global, append_assoc, length-drop}
use Rattle.std.proofs.lemmas.List.{length-map, drop-map, get_or-drop, append-nil}
use Rattle.js_base.specs.declared.limits.TheConstants.{NESTING}
use Rattle.jif_lex.specs.declared.token.Token.{Token}
use Rattle.jif_lex.specs.declared.token.TokenKind.{TokenKind}
use Rattle.jif_lex.specs.declared.token.TokenKind.TheVariants as token
use Rattle.jif_lex.specs.declared.token.TokenKind.TheVariants.{Name, Number, Word}
use Rattle.jif_lex.specs.declared.token.Word.TheVariants.{Int, If, Else, While}
use Rattle.jif_lex.specs.declared.token.Symbol.TheVariants.{LeftBrace, RightBrace, LeftParenthesis, RightParenthesis}
use Rattle.jif_lex.specs.declared.token.Symbol.TheVariants as symbols
use Rattle.label_lattice.specs.Written.{kinds, symbol}
use Rattle.jif_tree.specs.declared.draft.ExprDraft.{ExprDraft}
use Rattle.jif_tree.specs.declared.draft.StmtDraft.{StmtDraft}
use Rattle.jif_tree.specs.declared.draft.StmtKindDraft as kind
use Rattle.jif_tree.specs.declared.draft.StmtKindDraft.{StmtKindDraft}
use Rattle.jif_grammar.proofs.DraftRows.{if_shape, while_shape}
use Rattle.jif_grammar.specs.Phrases as phrases
use Rattle.jif_grammar.specs.Phrases.{BlockPhrase}
use Rattle.jif_grammar.specs.Grouping.{IsBlock}
use Rattle.jif_grammar.specs.Due as due
use Rattle.jif_grammar.specs.Due.{Place, exactly, operand, at_parenthesis, due_after_token}
use Rattle.jif_grammar.specs.Marks as marks
use Rattle.jif_grammar.specs.Marks.{Tally}
use Rattle.jif_grammar.specs.Nesting.{Nested, nested_at}
use Rattle.jif_grammar.specs.Verdicts.{going, refusal_from, walk_on}
use Rattle.jif_grammar.specs.DraftShapes.{statement_shape, block_shape, end_shape}
use Rattle.jif_grammar.specs.Drafts.{expr_at, expr_width, start_at, block_at, block_width}
use Rattle.jif_grammar.specs.Unmarked.{expr_then, block_then}
use Rattle.jif_parse.specs.declared.cursor.Cursor.{Cursor}
use Rattle.jif_parse.specs.declared.parse_error.ParseError.{ParseError}
use Rattle.jif_parse.specs.declared.parse_error.ParseError.TheVariants as fault
use Rattle.jif_parse.specs.Reading.{IsNext, IsNextKind, IsNextSymbol, Takes, Fails, Moves, Passes, Counted}
use Rattle.jif_parse.specs.Phrases.{PassesSymbol, ReadsUpTo, FailsUpTo}
use Rattle.jif_parse.specs.Statements.{HasLines, BeginsStatement, statements_due, ReadsKind}
use Rattle.jif_parse.specs.Statements.{ReadsStatement, FailsStatement, ReadsStatements, ReadsBraced, FailsBraced}
use Rattle.jif_parse.specs.Statements.{braced_due, ReadsGuarded, FailsGuarded, guarded_due}
use Rattle.jif_parse.specs.Widths.{Widths}
use Rattle.jif_parse.proofs.Taking.{takes_then, takes_before, fails_then, fails_before}
use Rattle.jif_parse.proofs.Moving.{moves_then, moves_as, stepped, takes_passed, takes_counted, fails_other}
use Rattle.jif_parse.proofs.Fixed.{takes_fixed, fails_fixed, step_symbol}
use Rattle.jif_parse.proofs.Chains.{chain, chain_then, IsBlock_chain}
use Rattle.jif_parse.proofs.Widths.{chain_at, chain_width, branch_width, branch_else_width, loop_width}

-- ---- lines

pub lines_moved : {old new : Cursor} {count : ℕ} (lines : ℕ → ℕ) → Moves old new count → HasLines lines old →
    HasLines lines new
lines_moved {old} {new} {count} lines moves has k =
    let line : Token → ℕ = λ token. token.line in
    let place : old.at + (count + k) ≡ new.at + k = omega (arith, moves.at) in
    ap (λ xs. get_or (map line xs) k 0) moves.rest ∙ ap (λ xs. get_or xs k 0) (sym (drop-map line count old.rest.now))
    ∙ get_or-drop count (map line old.rest.now) k 0 ∙ has (count + k) ∙ ap lines place

pub line_of_next : (cursor : Cursor) (next : Token) (lines : ℕ → ℕ) → IsNext cursor next → HasLines lines cursor →
    next.line ≡ lines cursor.at
line_of_next cursor next lines is has =
    let line : Token → ℕ = λ token. token.line in
    sym (ap (λ xs. get_or (map line xs) 0 0) is) ∙ has 0 ∙ ap lines (omega arith)

pub line_of_none : (cursor : Cursor) (lines : ℕ → ℕ) → cursor.rest.now ≡ [] → HasLines lines cursor →
    0 ≡ lines cursor.at
line_of_none cursor lines is has =
    let line : Token → ℕ = λ token. token.line in
    sym (ap (λ xs. get_or (map line xs) 0 0) is) ∙ has 0 ∙ ap lines (omega arith)

-- ---- one after the other

pub stands : (cursor : Cursor) (due : List Nested) → Takes cursor cursor due due
stands cursor due = record { same = λ later t is. (t, is, refl) }

pub stays : (cursor : Cursor) → Moves cursor cursor 0
stays cursor = record { rest = refl; at = omega arith }

-- the statements so far
pub record StatementsSoFar (old now : Cursor) (depth : ℕ) (drafts : List StmtDraft) : Type 0 where
  pub block : BlockPhrase
  pub sound : IsBlock block
  pub written : kinds old.rest.now ≡ block_then block (kinds now.rest.now)
  pub drafts_are : (lines : ℕ → ℕ) → HasLines lines old → (behind : List StmtDraft) →
      block_shape (drafts ++ behind) ≡ block_at lines old.at block (block_shape behind)
  pub moves : Moves old now (block_width block)
  pub takes : (place : Place) → Takes old now (statements_due place depth) (statements_due place depth)

pub no_statements : (cursor : Cursor) (depth : ℕ) (drafts : List StmtDraft) → drafts ≡ [] →
    StatementsSoFar cursor cursor depth drafts
no_statements cursor depth drafts none = record {
  block = phrases.end;
  sound = tt;
  written = refl;
  drafts_are = λ lines has behind. ap (λ xs. block_shape (xs ++ behind)) none;
  moves = stays cursor;
  takes = λ place. stands cursor (statements_due place depth);
}

pub one_more : {old now new : Cursor} {depth : ℕ} {drafts : List StmtDraft} {draft : StmtDraft} → Widths →
    StatementsSoFar old now depth drafts → ReadsStatement now new depth draft →
    StatementsSoFar old new depth (drafts ++ draft ∷ [])
one_more {old} {now} {new} {depth} {drafts} {draft} w so_far read =
    let first = so_far.block in
    let second = read.kind.block in
    record {
      block = chain first second;
      sound = IsBlock_chain first second so_far.sound read.kind.sound;
      written = so_far.written ∙ ap (block_then first) read.kind.written
          ∙ sym (chain_then first second (kinds new.rest.now));
      drafts_are = λ lines has behind.
          let start : record { at = draft.at; line = draft.line } ≡ start_at lines now.at =
          cc (read.at, read.line lines (lines_moved lines so_far.moves has)) in
          ap block_shape (append_assoc drafts (draft ∷ []) behind)
          ∙ so_far.drafts_are lines has (draft ∷ behind)
          ∙ ap (block_at lines old.at first) (ap (λ s. statement_shape draft.kind s (block_shape behind)) start
          ∙ read.kind.draft_is lines (lines_moved lines so_far.moves has) (block_shape behind)
          ∙ ap (λ at. block_at lines at second (block_shape behind)) so_far.moves.at)
          ∙ sym (chain_at w lines old.at first second (block_shape behind));
      moves = moves_as _ (sym (chain_width w first second)) (moves_then so_far.moves read.kind.moves);
      takes = λ place. takes_then (so_far.takes place) (read.kind.takes place);
    }

pub all_read : {old now : Cursor} {depth : ℕ} {drafts : List StmtDraft} → StatementsSoFar old now depth drafts →
    ¬ BeginsStatement now → ReadsStatements old now depth drafts
all_read so_far ends = record {
  block = so_far.block;
  sound = so_far.sound;
  written = so_far.written;
  drafts_are = so_far.drafts_are;
  moves = so_far.moves;
  ends = ends;
  takes = so_far.takes;
}

pub later_fails : {old now : Cursor} {depth : ℕ} {drafts : List StmtDraft} {error : ParseError} →
    StatementsSoFar old now depth drafts → FailsStatement now depth error → FailsStatement old depth error
later_fails so_far fails place = fails_then (so_far.takes place) (fails place)

pub falls : {old new : Cursor} {depth : ℕ} {draft : StmtDraft} → BeginsStatement old →
    ReadsStatement old new depth draft →
    length new.rest.now < length old.rest.now
falls {old} {new} begins read =
    let some : 0 < length old.rest.now =
    omega (arith, ap length begins.1, length-map old.rest.now (λ (token : Token). token.kind)) in
    omega (
      arith,
      ap length read.kind.moves.rest,
      length-drop (block_width read.kind.block) old.rest.now,
      read.kind.some,
    )

-- ---- nested blocks

brace_none : (old : Cursor) (kind : TokenKind) → ¬ IsNextSymbol old LeftBrace → IsNextKind old kind →
    due_after_token (exactly due.left_brace) kind ≡ None
brace_none old (token.Symbol symbols.LeftBrace) other is = absurd (other is)
brace_none old _ other is = refl

pub brace_fails : {old : Cursor} {depth : ℕ} {error : ParseError} → error ≡ fault.Unexpected old.at →
    ¬ IsNextSymbol old LeftBrace → FailsBraced old depth error
brace_fails {old} {depth} {error} tells other =
    fails_before (nested_at depth (due.statements due.nested) ∷ [])
    (fails_other old error (nested_at depth (exactly due.left_brace)) tells (λ kind is. brace_none old kind other is))

brace_taken : {old a : Cursor} (depth : ℕ) → IsNextSymbol old LeftBrace → Counted old a depth marks.nothing →
    Takes old a (braced_due depth) (statements_due due.nested depth)
brace_taken depth next counted =
    takes_before (statements_due due.nested depth)
    (takes_counted (nested_at depth (exactly due.left_brace)) (symbol LeftBrace) [] depth marks.nothing next counted
    refl refl)

pub block_fails : {old a : Cursor} {depth : ℕ} {error : ParseError} → IsNextSymbol old LeftBrace →
    Counted old a depth marks.nothing → FailsStatement a depth error → FailsBraced old depth error
block_fails {depth = depth} next counted fails = fails_then (brace_taken depth next counted) (fails due.nested)

-- where no statement begins, only a brace is due in a nested block
end_none : (old : Cursor) (kind : TokenKind) → ¬ BeginsStatement old → ¬ IsNextSymbol old RightBrace →
    IsNextKind old kind → due_after_token (due.statements due.nested) kind ≡ None
end_none old (Name name) ends other is = absurd (ends (Name name, is, tt))
end_none old (Word Int) ends other is = absurd (ends (Word Int, is, tt))
end_none old (Word If) ends other is = absurd (ends (Word If, is, tt))
end_none old (Word While) ends other is = absurd (ends (Word While, is, tt))
end_none old (token.Symbol symbols.RightBrace) ends other is = absurd (other is)
end_none old _ ends other is = refl

pub block_end_fails : {old a b : Cursor} {depth : ℕ} {drafts : List StmtDraft} {error : ParseError} →
    IsNextSymbol old LeftBrace → Counted old a depth marks.nothing → ReadsStatements a b depth drafts →
    (error ≡ fault.Unexpected b.at) × (¬ IsNextSymbol b RightBrace) → FailsBraced old depth error
block_end_fails {b = b} {depth = depth} {error = error} next counted read other =
    fails_then (takes_then (brace_taken depth next counted) (read.takes due.nested))
    (fails_other b error (nested_at depth (due.statements due.nested)) other.0
    (λ kind is. end_none b kind read.ends other.1 is))

pub braced_read : {old a b new : Cursor} {depth : ℕ} {drafts : List StmtDraft} → IsNextSymbol old LeftBrace →
    Counted old a depth marks.nothing → ReadsStatements a b depth drafts → PassesSymbol b new RightBrace →
    ReadsBraced old new depth drafts
braced_read {old} {a} {b} {new} {depth} {drafts} next counted read passed =
    let first = stepped (symbol LeftBrace) next counted.steps in
    let last = step_symbol passed in
    record {
      block = read.block;
      sound = read.sound;
      written = first.is_next
          ∙ ap (λ ks. symbol LeftBrace ∷ ks) (read.written ∙ ap (block_then read.block) last.is_next);
      drafts_are = λ lines has.
          ap block_shape (sym (append-nil drafts)) ∙ read.drafts_are lines (lines_moved lines first.moves has) []
          ∙ ap (λ at. block_at lines at read.block end_shape) first.moves.at;
      moves = moves_as _ (omega arith) (moves_then (moves_then first.moves read.moves) last.moves);
      takes = takes_then (takes_then (brace_taken depth next counted) (read.takes due.nested))
          (takes_passed (nested_at depth (due.statements due.nested)) (symbol RightBrace) [] depth last
          passed.passes.counts
          counted.nested refl refl);
    }

-- ---- guards

-- behind the parenthesis of a guard, and behind the guard
abbrev behind_opening : ℕ → List Nested
behind_opening depth = nested_at depth (operand at_parenthesis) ∷ braced_due (suc depth)

pub guard_opening_fails : {old : Cursor} {depth : ℕ} {error : ParseError} →
    (error ≡ fault.Unexpected old.at) × (¬ IsNextSymbol old LeftParenthesis) → FailsGuarded old depth error
guard_opening_fails {old} {depth} {error} other =
    fails_before (behind_opening depth) (fails_fixed old error due.left_parenthesis depth other)

opening_taken : {old a : Cursor} (depth : ℕ) → depth ≤ NESTING → PassesSymbol old a LeftParenthesis →
    Takes old a (guarded_due depth) (behind_opening depth)
opening_taken depth nested passed =
    takes_before (behind_opening depth) (takes_fixed due.left_parenthesis depth nested passed)

pub guard_fails : {old a : Cursor} {depth : ℕ} {error : ParseError} → depth ≤ NESTING →
    PassesSymbol old a LeftParenthesis → FailsUpTo a at_parenthesis depth error → FailsGuarded old depth error
guard_fails {depth = depth} nested passed fails =
    fails_then (opening_taken depth nested passed) (fails_before (braced_due (suc depth)) fails)

guard_taken : {old a b : Cursor} {guard : ExprDraft} (depth : ℕ) → depth ≤ NESTING →
    PassesSymbol old a LeftParenthesis →
    ReadsUpTo a b at_parenthesis depth guard → Takes old b (guarded_due depth) (braced_due (suc depth))
guard_taken depth nested passed read =
    takes_then (opening_taken depth nested passed) (takes_before (braced_due (suc depth)) read.takes)

one_deeper : (depth : ℕ) → depth + 1 ≡ suc depth
one_deeper depth = omega arith

pub guarded_block_fails : {old a b : Cursor} {guard : ExprDraft} {depth : ℕ} {error : ParseError} → depth ≤ NESTING →
    PassesSymbol old a LeftParenthesis → ReadsUpTo a b at_parenthesis depth guard → FailsBraced b (depth + 1) error →
    FailsGuarded old depth error
guarded_block_fails {b = b} {depth = depth} {error = error} nested passed read fails =
    fails_then (guard_taken depth nested passed read)
    (subst (λ d. Fails b (braced_due d) error) (one_deeper depth) fails)

pub guarded_read : {old a b new : Cursor} {guard : ExprDraft} {drafts : List StmtDraft} {depth : ℕ} → depth ≤ NESTING →
    PassesSymbol old a LeftParenthesis → ReadsUpTo a b at_parenthesis depth guard →
    ReadsBraced b new (depth + 1) drafts →
    ReadsGuarded old new depth guard drafts
guarded_read {old} {a} {b} {new} {guard} {drafts} {depth} nested passed read block =
    let first = step_symbol passed in
    let moved = moves_then first.moves read.moves in
    let place : b.at + 1 ≡ old.at + 3 + expr_width read.expr = omega (arith, moved.at) in
    record {
      guard = read.expr;
      block = block.block;
      grouped = read.grouped;
      sound = block.sound;
      written = first.is_next ∙ ap (λ ks. symbol LeftParenthesis ∷ ks) (read.written
          ∙ ap (λ ks. expr_then read.expr (symbol RightParenthesis ∷ ks)) block.written);
      guard_is = read.draft_is ∙ ap (λ at. expr_at at read.expr) first.moves.at;
      drafts_are = λ lines has. block.drafts_are lines (lines_moved lines moved has)
          ∙ ap (λ at. block_at lines at block.block end_shape) place;
      moves = moves_as _ (omega arith) (moves_then moved block.moves);
      takes = takes_then (guard_taken depth nested passed read)
          (subst (λ d. Takes b new (braced_due d) []) (one_deeper depth) block.takes);
    }

-- ---- `while`

while_taken : {old a : Cursor} (place : Place) (depth : ℕ) → IsNextKind old (Word While) →
    Counted old a depth marks.statement →
    Takes old a (statements_due place depth) (guarded_due depth ++ statements_due place depth)
while_taken place depth next counted =
    takes_counted (nested_at depth (due.statements place)) (Word While)
    (due.guard ++ due.statements due.nested ∷ due.statements place ∷ []) depth marks.statement next counted refl refl

pub while_fails : {old a : Cursor} {depth : ℕ} {error : ParseError} → IsNextKind old (Word While) →
    Counted old a depth marks.statement → FailsGuarded a depth error → FailsStatement old depth error
while_fails {depth = depth} next counted fails place =
    fails_then (while_taken place depth next counted) (fails_before (statements_due place depth) fails)

pub while_read : {old a new : Cursor} {guard : ExprDraft} {depth : ℕ} (body : Vec StmtDraft Global) → Widths →
    IsNextKind old (Word While) → Counted old a depth marks.statement → ReadsGuarded a new depth guard body.items →
    ReadsKind old new depth (kind.While guard body)
while_read {old} {a} {new} {guard} {depth} body w next counted read =
    let first = stepped (Word While) next counted.steps in
    let width = loop_width w read.guard read.block phrases.end in
    let guard_place : a.at + 1 ≡ old.at + 2 = omega (arith, first.moves.at) in
    let body_place : a.at + 3 + expr_width read.guard ≡ old.at + 4 + expr_width read.guard =
    omega (arith, first.moves.at) in
    let guard_is = read.guard_is ∙ ap (λ at. expr_at at read.guard) guard_place in
    record {
      block = phrases.loop read.guard read.block phrases.end;
      some = omega (arith, width);
      sound = (read.grouped, read.sound, tt);
      written = first.is_next ∙ ap (λ ks. Word While ∷ ks) read.written;
      draft_is = λ lines has behind.
          let body_is = read.drafts_are lines (lines_moved lines first.moves has)
          ∙ ap (λ at. block_at lines at read.block end_shape) body_place in
          while_shape guard body (start_at lines old.at) behind ∙ cc (guard_is, body_is);
      moves = moves_as _ (omega (arith, width)) (moves_then first.moves read.moves);
      takes = λ place. takes_then (while_taken place depth next counted)
          (takes_before (statements_due place depth) read.takes);
    }

-- ---- `if`

abbrev otherwise_due : Place → ℕ → List Nested
otherwise_due place depth = nested_at depth (due.otherwise place) ∷ []

if_taken : {old a : Cursor} (place : Place) (depth : ℕ) → IsNextKind old (Word If) →
    Counted old a depth marks.statement →
    Takes old a (statements_due place depth) (guarded_due depth ++ otherwise_due place depth)
if_taken place depth next counted =
    takes_counted (nested_at depth (due.statements place)) (Word If)
    (due.guard ++ due.statements due.nested ∷ due.otherwise place ∷ []) depth marks.statement next counted refl refl

pub if_fails : {old a : Cursor} {depth : ℕ} {error : ParseError} → IsNextKind old (Word If) →
    Counted old a depth marks.statement → FailsGuarded a depth error → FailsStatement old depth error
if_fails {depth = depth} next counted fails place =
    fails_then (if_taken place depth next counted) (fails_before (otherwise_due place depth) fails)

first_taken : {old a b : Cursor} {guard : ExprDraft} {drafts : List StmtDraft} (place : Place) (depth : ℕ) →
    IsNextKind old (Word If) → Counted old a depth marks.statement → ReadsGuarded a b depth guard drafts →
    Takes old b (statements_due place depth) (otherwise_due place depth)
first_taken place depth next counted read =
    takes_then (if_taken place depth next counted) (takes_before (otherwise_due place depth) read.takes)

same_walk : (place : Place) (depth : ℕ) (later : List Nested) (t : Tally) (n : ℕ) (kind : TokenKind) →
    ¬ (kind ≡ Word Else) →
    walk_on (nested_at depth (due.otherwise place) ∷ later) t n kind
    ≡ walk_on (nested_at depth (due.statements place) ∷ later) t n kind
same_walk place depth later t n (Word Else) unlike = absurd (unlike refl)
same_walk place depth later t n (Word word) unlike = refl
same_walk place depth later t n (Name name) unlike = refl
same_walk place depth later t n (Number number) unlike = refl
same_walk place depth later t n (token.Symbol written) unlike = refl

same_verdict : (place : Place) (depth : ℕ) (later : List Nested) (t : Tally) (n : ℕ) (tokens : List Token) →
    ¬ (kinds tokens ≡ Word Else ∷ kinds (drop 1 tokens)) →
    refusal_from (going (nested_at depth (due.otherwise place) ∷ later) t) n (kinds tokens)
    ≡ refusal_from (going (nested_at depth (due.statements place) ∷ later) t) n (kinds tokens)
same_verdict place depth later t n [] unlike = refl
same_verdict place depth later t n (next ∷ tokens) unlike =
    ap (λ walk. refusal_from walk (n + 1) (kinds tokens)) (same_walk place depth later t n next.kind
    (λ is. unlike (ap (λ k. k ∷ kinds tokens) is)))

no_else : (cursor : Cursor) (place : Place) (depth : ℕ) → ¬ IsNextKind cursor (Word Else) →
    Takes cursor cursor (otherwise_due place depth) (statements_due place depth)
no_else cursor place depth unlike = record {
  same = λ later t is. (t, is, same_verdict place depth later t cursor.at cursor.rest.now unlike);
}

pub if_read : {old a new : Cursor} {guard : ExprDraft} {depth : ℕ} (first second : Vec StmtDraft Global) → Widths →
    IsNextKind old (Word If) → Counted old a depth marks.statement → ReadsGuarded a new depth guard first.items →
    ¬ IsNextKind new (Word Else) → second.items ≡ [] → ReadsKind old new depth (kind.If guard first second)
if_read {old} {a} {new} {guard} {depth} first second w next counted read unlike none =
    let step = stepped (Word If) next counted.steps in
    let width = branch_width w read.guard read.block phrases.end in
    let guard_place : a.at + 1 ≡ old.at + 2 = omega (arith, step.moves.at) in
    let body_place : a.at + 3 + expr_width read.guard ≡ old.at + 4 + expr_width read.guard =
    omega (arith, step.moves.at) in
    let guard_is = read.guard_is ∙ ap (λ at. expr_at at read.guard) guard_place in
    let none_is : block_shape second.items ≡ end_shape = ap block_shape none in
    record {
      block = phrases.branch read.guard read.block phrases.end;
      some = omega (arith, width);
      sound = (read.grouped, read.sound, tt);
      written = step.is_next ∙ ap (λ ks. Word If ∷ ks) read.written;
      draft_is = λ lines has behind.
          let body_is = read.drafts_are lines (lines_moved lines step.moves has)
          ∙ ap (λ at. block_at lines at read.block end_shape) body_place in
          if_shape guard first second (start_at lines old.at) behind ∙ cc (guard_is, body_is, none_is);
      moves = moves_as _ (omega (arith, width)) (moves_then step.moves read.moves);
      takes = λ place. takes_then (first_taken place depth next counted read) (no_else new place depth unlike);
    }

else_taken : {old a b c : Cursor} {guard : ExprDraft} {drafts : List StmtDraft} (place : Place) (depth : ℕ) →
    depth ≤ NESTING → IsNextKind old (Word If) → Counted old a depth marks.statement →
    ReadsGuarded a b depth guard drafts →
    IsNextKind b (Word Else) → Passes b c →
    Takes old c (statements_due place depth) (braced_due (suc depth) ++ statements_due place depth)
else_taken place depth nested next counted read is passes =
    takes_then (first_taken place depth next counted read)
    (takes_passed (nested_at depth (due.otherwise place)) (Word Else)
    (exactly due.left_brace ∷ due.statements due.nested ∷ due.statements place ∷ []) depth
    (stepped (Word Else) is passes.steps) passes.counts nested refl refl)

pub else_fails : {old a b c : Cursor} {guard : ExprDraft} {drafts : List StmtDraft} {depth : ℕ} {error : ParseError} →
    depth ≤ NESTING → IsNextKind old (Word If) → Counted old a depth marks.statement →
    ReadsGuarded a b depth guard drafts →
    IsNextKind b (Word Else) → Passes b c → FailsBraced c (depth + 1) error → FailsStatement old depth error
else_fails {c = c} {depth = depth} {error = error} nested next counted read is passes fails place =
    fails_then (else_taken place depth nested next counted read is passes) (fails_before (statements_due place depth)
    (subst (λ d. Fails c (braced_due d) error) (one_deeper depth) fails))

pub else_read : {old a b c new : Cursor} {guard : ExprDraft} {depth : ℕ} (first second : Vec StmtDraft Global) →
    Widths →
    depth ≤ NESTING → IsNextKind old (Word If) → Counted old a depth marks.statement →
    ReadsGuarded a b depth guard first.items → IsNextKind b (Word Else) → Passes b c →
    ReadsBraced c new (depth + 1) second.items → ReadsKind old new depth (kind.If guard first second)
else_read {old} {a} {b} {c} {new} {guard} {depth} first second w nested next counted read is passes block =
    let step = stepped (Word If) next counted.steps in
    let other = stepped (Word Else) is passes.steps in
    let moved = moves_then (moves_then step.moves read.moves) other.moves in
    let width = branch_else_width w read.guard read.block block.block phrases.end in
    let guard_place : a.at + 1 ≡ old.at + 2 = omega (arith, step.moves.at) in
    let first_place : a.at + 3 + expr_width read.guard ≡ old.at + 4 + expr_width read.guard =
    omega (arith, step.moves.at) in
    let second_place : c.at + 1 ≡ old.at + 4 + expr_width read.guard + 3 + block_width read.block =
    omega (arith, moved.at) in
    let guard_is = read.guard_is ∙ ap (λ at. expr_at at read.guard) guard_place in
    record {
      block = phrases.branch_else read.guard read.block block.block phrases.end;
      some = omega (arith, width);
      sound = (read.grouped, read.sound, block.sound, tt);
      written = step.is_next ∙ ap (λ ks. Word If ∷ ks) (read.written
          ∙ ap (λ ks. symbol LeftParenthesis ∷ expr_then read.guard (symbol RightParenthesis ∷ symbol LeftBrace
          ∷ block_then read.block (symbol RightBrace ∷ ks)))
          (other.is_next ∙ ap (λ ks. Word Else ∷ ks) block.written));
      draft_is = λ lines has behind.
          let first_is = read.drafts_are lines (lines_moved lines step.moves has)
          ∙ ap (λ at. block_at lines at read.block end_shape) first_place in
          let second_is = block.drafts_are lines (lines_moved lines moved has)
          ∙ ap (λ at. block_at lines at block.block end_shape) second_place in
          if_shape guard first second (start_at lines old.at) behind ∙ cc (guard_is, first_is, second_is);
      moves = moves_as _ (omega (arith, width)) (moves_then moved block.moves);
      takes = λ place. takes_then (else_taken place depth nested next counted read is passes)
          (takes_before (statements_due place depth)
          (subst (λ d. Takes c new (braced_due d) []) (one_deeper depth) block.takes));
    }
