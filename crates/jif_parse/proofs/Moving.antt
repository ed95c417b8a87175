-- Where a reader stands behind what it read.
use Rattle.std.proofs.Common.{◌≡◌, ℕ, suc, ◌≤◌, ◌<◌, ◌+◌, List, [], ◌∷◌, length, drop, refl, ap, sym, subst, ◌∙◌, arith}
use Rattle.std.proofs.Common.{Some, None}
use Rattle.std.proofs.lemmas.List.{drop-drop, length-map, length-drop}
use Rattle.js_base.specs.declared.limits.TheConstants.{NESTING}
use Rattle.jif_lex.specs.declared.token.Token.{Token}
use Rattle.jif_lex.specs.declared.token.TokenKind.{TokenKind}
use Rattle.label_lattice.specs.Written.{kinds}
use Rattle.jif_grammar.specs.Due.{Due, due_after_token}
use Rattle.jif_grammar.specs.Marks.{Beginning, nothing, mark, plain}
use Rattle.jif_grammar.specs.Nesting.{Nested, marked_by, nested_after}
use Rattle.jif_parse.specs.declared.cursor.Cursor.{Cursor}
use Rattle.jif_parse.specs.declared.parse_error.ParseError.{ParseError}
use Rattle.jif_parse.specs.declared.parse_error.ParseError.TheVariants as fault
use Rattle.jif_parse.specs.Counting.{IsTally}
use Rattle.jif_parse.specs.Reading.{behind, IsNextKind, Moves, Steps, Counted, Takes, Fails}
use Rattle.jif_parse.proofs.Taking.{takes_token, fails_unexpected}

pub stays : (cursor : Cursor) → Moves cursor cursor 0
stays cursor = record { rest = refl; at = omega arith }

pub moves_then : {old middle new : Cursor} {first second : ℕ} → Moves old middle first → Moves middle new second →
    Moves old new (first + second)
moves_then {old} {middle} {new} {first} {second} one two = record {
  rest = two.rest ∙ ap (drop second) one.rest ∙ drop-drop second first old.rest.now;
  at = omega (arith, one.at, two.at);
}

pub moves_as : {old new : Cursor} {first : ℕ} (second : ℕ) → first ≡ second → Moves old new first → Moves old new second
moves_as {old} {new} second same moves = subst (Moves old new) same moves

-- behind a token of this kind
pub record Stepped (old new : Cursor) (kind : TokenKind) : Type 0 where
  pub is_next : kinds old.rest.now ≡ kind ∷ kinds new.rest.now
  pub moves : Moves old new 1

at_next : (old_at new_at : ℕ) (tokens : List Token) (kind : TokenKind) (more : List TokenKind) →
    kinds tokens ≡ kind ∷ more → new_at + length (drop 1 tokens) ≡ old_at + length tokens → new_at ≡ old_at + 1
at_next old_at new_at [] kind more is same = absurd (cc)
at_next old_at new_at (token ∷ tokens) kind more is same = omega (arith, same)

next_of : (tokens : List Token) (kind : TokenKind) (more : List TokenKind) → kinds tokens ≡ kind ∷ more →
    kinds tokens ≡ kind ∷ kinds (drop 1 tokens)
next_of [] kind more is = absurd (cc)
next_of (token ∷ tokens) kind more is = ap (λ k. k ∷ kinds tokens) (cc)

pub next_kind : (cursor : Cursor) (kind : TokenKind) (more : List TokenKind) → kinds cursor.rest.now ≡ kind ∷ more →
    IsNextKind cursor kind
next_kind cursor kind more is = next_of cursor.rest.now kind more is

pub stepped : {old new : Cursor} (kind : TokenKind) → IsNextKind old kind → Steps old new → Stepped old new kind
stepped {old} {new} kind is steps = record {
  is_next = is ∙ ap (λ tokens. kind ∷ kinds tokens) (sym steps.rest);
  moves = record {
    rest = steps.rest;
    at =
        at_next old.at new.at old.rest.now kind (kinds (behind old)) is
        (ap (λ tokens. new.at + length tokens) (sym steps.rest) ∙ steps.at);
  };
}

-- a due token at which nothing begins
pub takes_passed : {old new : Cursor} (first : Nested) (kind : TokenKind) (sooner : List Due) (nesting : ℕ) →
    Stepped old new kind → new.counts ≡ old.counts → nesting ≤ NESTING → due_after_token first.due kind ≡ Some sooner →
    marked_by first kind ≡ plain nesting kind → Takes old new (first ∷ []) (nested_after first kind sooner)
takes_passed {old} {new} first kind sooner nesting steps counts nested is_due marked =
    takes_token first kind sooner nesting nothing steps.is_next steps.moves.at
    (λ t h. subst (λ c. IsTally c t) (sym counts) h) nested is_due marked

-- a due token at which something begins
pub takes_counted : {old new : Cursor} (first : Nested) (kind : TokenKind) (sooner : List Due) (nesting : ℕ)
    (beginning : Beginning) → IsNextKind old kind → Counted old new nesting beginning →
    due_after_token first.due kind ≡ Some sooner → marked_by first kind ≡ mark beginning nesting kind →
    Takes old new (first ∷ []) (nested_after first kind sooner)
takes_counted first kind sooner nesting beginning is counted is_due marked =
    let steps = stepped kind is counted.steps in
    takes_token first kind sooner nesting beginning steps.is_next steps.moves.at counted.counted counted.nested is_due
    marked

-- the next token, if any, is not due
pub fails_other : (old : Cursor) (error : ParseError) (first : Nested) → error ≡ fault.Unexpected old.at →
    ((kind : TokenKind) → IsNextKind old kind → due_after_token first.due kind ≡ None) → Fails old (first ∷ []) error
fails_other old error first tells other =
    fails_unexpected old error first tells (λ kind more is. other kind (next_kind old kind more is))

-- fewer tokens are left
pub fewer : {old middle new : Cursor} {kind : TokenKind} {count : ℕ} → Stepped old middle kind →
    Moves middle new count →
    length new.rest.now < length old.rest.now
fewer {old} {middle} {new} {kind} {count} one moves =
    let more : length (kinds old.rest.now) ≡ suc (length (kinds middle.rest.now)) = ap length one.is_next in
    let least : length new.rest.now ≡ length (drop count middle.rest.now) = ap length moves.rest in
    omega (
      arith,
      more,
      least,
      length-map old.rest.now (λ token. token.kind),
      length-map middle.rest.now (λ token. token.kind),
      length-drop count middle.rest.now,
    )
