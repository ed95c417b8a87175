-- Readers one after the other, and single steps.
use Rattle.std.proofs.Common.{◌≡◌, ℕ, ◌≤◌, ◌+◌, List, [], ◌∷◌, ◌++◌, drop, append_assoc, Some, None, refl, ap, sym}
use Rattle.std.proofs.Common.{◌∙◌, inl, inr}
use Rattle.std.specs.Option.{option_map}
use Rattle.js_base.specs.declared.limits.TheConstants.{NESTING}
use Rattle.jif_lex.specs.declared.token.Token.{Token}
use Rattle.jif_lex.specs.declared.token.TokenKind.{TokenKind}
use Rattle.label_lattice.specs.Written.{kinds}
use Rattle.jif_grammar.specs.Due.{Due, due_after_token}
use Rattle.jif_grammar.specs.Marks.{Beginning, Tally, Marked, mark, after_beginning, after_token}
use Rattle.jif_grammar.specs.Programs.{unexpected}
use Rattle.jif_grammar.specs.Nesting.{Nested, marked_by, nested_after}
use Rattle.jif_grammar.specs.Verdicts.{going, excess, excess_at, refusal_from, walk_behind, walk_within}
use Rattle.jif_grammar.specs.Verdicts.{walk_on}
use Rattle.jif_parse.specs.declared.cursor.Cursor.{Cursor}
use Rattle.jif_parse.specs.declared.parse_error.ParseError.{ParseError}
use Rattle.jif_parse.specs.declared.parse_error.ParseError.TheVariants as fault
use Rattle.jif_parse.specs.Counting.{HasCounted}
use Rattle.jif_parse.specs.Reading.{behind, Takes, Fails, IsOver}
use Rattle.jif_parse.proofs.Limits.{any_nesting, no_excess}

-- ---- one after the other

pub takes_nothing : (cursor : Cursor) (due : List Nested) → Takes cursor cursor due due
takes_nothing cursor due = record { same = λ later t h. (t, h, refl) }

pub takes_then : {old middle new : Cursor} {due between left : List Nested} → Takes old middle due between →
    Takes middle new between left → Takes old new due left
takes_then first second = record {
  same = λ later t h.
      let one = first.same later t h in
      let two = second.same later one.0 one.1 in
      (two.0, two.1, one.2 ∙ two.2);
}

-- with more behind what is due
pub takes_before : {old new : Cursor} {due left : List Nested} (more : List Nested) → Takes old new due left →
    Takes old new (due ++ more) (left ++ more)
takes_before {old} {new} {due} {left} more takes = record {
  same = λ later t h.
      let one = takes.same (more ++ later) t h in (
        one.0,
        one.1,
        ap (λ d. refusal_from (going d t) old.at (kinds old.rest.now)) (append_assoc due more later) ∙ one.2
            ∙ ap (λ d. refusal_from (going d one.0) new.at (kinds new.rest.now)) (sym (append_assoc left more later)),
      );
}

pub fails_then : {old middle : Cursor} {due between : List Nested} {error : ParseError} →
    Takes old middle due between → Fails middle between error → Fails old due error
fails_then takes fails = record {
  why = elim fails.why [
    | inl memory ↦ inl memory
    | inr told ↦
        inr (
          told.0,
          told.1,
          λ later t h.
              let one = takes.same later t h in
              one.2 ∙ told.2 later one.0 one.1,
        )
  ];
}

pub fails_before : {old : Cursor} {due : List Nested} {error : ParseError} (more : List Nested) →
    Fails old due error → Fails old (due ++ more) error
fails_before {old} {due} more fails = record {
  why = elim fails.why [
    | inl memory ↦ inl memory
    | inr told ↦
        inr (
          told.0,
          told.1,
          λ later t h.
              ap (λ d. refusal_from (going d t) old.at (kinds old.rest.now)) (append_assoc due more later)
              ∙ told.2 (more ++ later) t h,
        )
  ];
}

pub out_of_memory : (old : Cursor) (due : List Nested) (error : ParseError) → error ≡ fault.OutOfMemory →
    Fails old due error
out_of_memory old due error memory = record { why = inl memory }

-- ---- single steps

-- what a due token leaves of the verdict
walk_step : (first : Nested) (later : List Nested) (t : Tally) (n : ℕ) (kind : TokenKind) (more : List TokenKind)
    (sooner : List Due) (token : Marked) → due_after_token first.due kind ≡ Some sooner → marked_by first kind ≡ token →
    refusal_from (going (first ∷ later) t) n (kind ∷ more)
    ≡ refusal_from (walk_within (excess (after_token t token)) (nested_after first kind sooner ++ later)
    (after_token t token) n) (n + 1) more
walk_step first later t n kind more sooner token is_due marked =
    ap (λ o. refusal_from (walk_behind (option_map (λ s. (marked_by first kind, nested_after first kind s ++ later)) o)
    t n) (n + 1) more) is_due
    ∙ ap (λ m. refusal_from (walk_within (excess (after_token t m)) (nested_after first kind sooner ++ later)
    (after_token t m) n) (n + 1) more) marked

-- a due token, within the limits
pub takes_token : {old new : Cursor} (first : Nested) (kind : TokenKind) (sooner : List Due) (nesting : ℕ)
    (beginning : Beginning) → kinds old.rest.now ≡ kind ∷ kinds new.rest.now → new.at ≡ old.at + 1 →
    HasCounted old.counts new.counts beginning → nesting ≤ NESTING → due_after_token first.due kind ≡ Some sooner →
    marked_by first kind ≡ mark beginning nesting kind → Takes old new (first ∷ []) (nested_after first kind sooner)
takes_token {old} {new} first kind sooner nesting beginning is_next at counted nested is_due marked = record {
  same = λ later t h.
      let token : Marked = mark beginning nesting kind in
      let within = any_nesting new.counts (after_beginning t beginning) nesting (counted t h) in
      let behind = nested_after first kind sooner ++ later in (
        after_token t token,
        within,
        ap (λ ks. refusal_from (going (first ∷ later) t) old.at ks) is_next
            ∙ walk_step first later t old.at kind (kinds new.rest.now) sooner token is_due marked
            ∙ ap (λ o. refusal_from (walk_within o behind (after_token t token) old.at) (old.at + 1)
            (kinds new.rest.now))
            (no_excess new.counts (after_token t token) within nested)
            ∙ ap (λ n. refusal_from (going behind (after_token t token)) n (kinds new.rest.now)) (sym at),
      );
}

-- a due token that passes a limit
pub fails_at_limit : {old : Cursor} {error : ParseError} (first : Nested) (kind : TokenKind) (more : List TokenKind)
    (sooner : List Due) (nesting : ℕ) (beginning : Beginning) → kinds old.rest.now ≡ kind ∷ more →
    IsOver old nesting beginning error → due_after_token first.due kind ≡ Some sooner →
    marked_by first kind ≡ mark beginning nesting kind → Fails old (first ∷ []) error
fails_at_limit {old} {error} first kind more sooner nesting beginning is_next over is_due marked = record {
  why = inr (
    excess_at over.0 old.at,
    over.1,
    λ later t h.
        let token : Marked = mark beginning nesting kind in
        let behind = nested_after first kind sooner ++ later in
        ap (λ ks. refusal_from (going (first ∷ later) t) old.at ks) is_next
        ∙ walk_step first later t old.at kind more sooner token is_due marked
        ∙ ap (λ o. refusal_from (walk_within o behind (after_token t token) old.at) (old.at + 1) more) (over.2 t h),
  );
}

-- ---- tokens that are not due

refused_end : (first : Nested) (later : List Nested) (t : Tally) (n : ℕ) (tokens : List Token) →
    ((kind : TokenKind) (more : List TokenKind) → kinds tokens ≡ kind ∷ more → due_after_token first.due kind ≡ None) →
    refusal_from (going (first ∷ later) t) n (kinds tokens) ≡ Some (unexpected n)
refused_end first later t n [] other = refl
refused_end first later t n (token ∷ tokens) other =
    ap (λ o. refusal_from (walk_behind (option_map (λ s.
    (marked_by first token.kind, nested_after first token.kind s ++ later)) o) t n) (n + 1) (kinds tokens))
    (other token.kind (kinds tokens) refl)

-- the tokens are at their end, or the next is not due
pub fails_unexpected : (old : Cursor) (error : ParseError) (first : Nested) → error ≡ fault.Unexpected old.at →
    ((kind : TokenKind) (more : List TokenKind) → kinds old.rest.now ≡ kind ∷ more →
    due_after_token first.due kind ≡ None) → Fails old (first ∷ []) error
fails_unexpected old error first tells other = record {
  why = inr (unexpected old.at, tells, λ later t h. refused_end first later t old.at old.rest.now other);
}

-- ---- the same verdict by other things that are due

same_from : (first other : Nested) (later : List Nested) (t : Tally) (n : ℕ) (tokens : List Token) →
    ((kind : TokenKind) → kinds tokens ≡ kind ∷ kinds (drop 1 tokens) →
    walk_behind (option_map (λ s. (marked_by first kind, nested_after first kind s ++ later))
    (due_after_token first.due kind)) t n
    ≡ walk_behind (option_map (λ s. (marked_by other kind, nested_after other kind s ++ later))
    (due_after_token other.due kind)) t n) →
    refusal_from (going (first ∷ later) t) n (kinds tokens) ≡ refusal_from (going (other ∷ later) t) n (kinds tokens)
same_from first other later t n [] same = refl
same_from first other later t n (token ∷ tokens) same =
    ap (λ w. refusal_from w (n + 1) (kinds tokens)) (same token.kind refl)

-- the token does the same for either
abbrev pub SameStep : Nested → Nested → TokenKind → Type 0
SameStep first other kind =
    (later : List Nested) (t : Tally) (n : ℕ) →
    walk_behind (option_map (λ s. (marked_by first kind, nested_after first kind s ++ later))
    (due_after_token first.due kind)) t n
    ≡ walk_behind (option_map (λ s. (marked_by other kind, nested_after other kind s ++ later))
    (due_after_token other.due kind)) t n

pub takes_same : (old : Cursor) (first other : Nested) →
    ((kind : TokenKind) → kinds old.rest.now ≡ kind ∷ kinds (behind old) → SameStep first other kind) →
    Takes old old (first ∷ []) (other ∷ [])
takes_same old first other same = record {
  same = λ later t h.
      (t, h, same_from first other later t old.at old.rest.now (λ kind is. same kind is later t old.at));
}

-- the next token does the same for one thing that is due as for two others
pub takes_alike : (old : Cursor) (first other : Nested) (more : List Nested) (kind : TokenKind) →
    kinds old.rest.now ≡ kind ∷ kinds (behind old) →
    ((later : List Nested) (t : Tally) (n : ℕ) →
    walk_on (first ∷ later) t n kind ≡ walk_on (other ∷ more ++ later) t n kind) →
    Takes old old (first ∷ []) (other ∷ more)
takes_alike old first other more kind is same = record {
  same = λ later t h. (
    t,
    h,
    ap (λ ks. refusal_from (going (first ∷ later) t) old.at ks) is
        ∙ ap (λ w. refusal_from w (old.at + 1) (kinds (behind old))) (same later t old.at)
        ∙ ap (λ ks. refusal_from (going (other ∷ more ++ later) t) old.at ks) (sym is),
  );
}
