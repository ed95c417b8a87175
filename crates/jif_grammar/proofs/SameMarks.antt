-- Two programs that go on from the same tokens mark these alike, since what is due marks them.
use Rattle.std.proofs.Common.{◌≡◌, ℕ, ◌+◌, ◌<◌, ◌≤◌, List, [], ◌∷◌, ◌++◌, length, take, refl, ap, sym, ◌∙◌}
use Rattle.std.proofs.Common.{subst, Some, arith, length-take-le}
use Rattle.jif_lex.specs.declared.token.Token.{Token}
use Rattle.jif_lex.specs.declared.token.TokenKind.{TokenKind}
use Rattle.label_lattice.specs.Written.{kinds}
use Rattle.jif_grammar.specs.Phrases.{ProgramPhrase}
use Rattle.jif_grammar.specs.Marks.{Marked, tally}
use Rattle.jif_grammar.specs.Spelling.{spelling}
use Rattle.jif_grammar.specs.Programs.{token_kinds, GoesOn, tally_at}
use Rattle.jif_grammar.specs.Nesting.{Nested, nested_next}
use Rattle.jif_grammar.proofs.ExprMarks.{Goes}
use Rattle.jif_grammar.proofs.ProgramMarks.{goes_program}
use Rattle.jif_grammar.proofs.OneRefusal.{kinds_length}

pub one_step : (first second : Marked × List Nested) → Some first ≡ Some second → first ≡ second
one_step first second same = cc

same_front : (front : List TokenKind) (first : List Nested) (tokens others : List Marked) (r s : List TokenKind) →
    Goes first tokens → Goes first others → front ++ r ≡ token_kinds tokens → front ++ s ≡ token_kinds others →
    take (length front) tokens ≡ take (length front) others
same_front [] first tokens others r s one other from also = refl
same_front (kind ∷ more) first [] others r s one other from also = absurd (cc)
same_front (kind ∷ more) first (token ∷ tokens) [] r s one other from also = absurd (cc)
same_front (kind ∷ more) first (token ∷ tokens) (next ∷ others) r s one other from also =
    let heads : token.kind ≡ next.kind = cc in
    let step = one_step (token, one.0) (next, other.0) (sym one.1 ∙ ap (nested_next first) heads ∙ other.1) in
    let from_behind : more ++ r ≡ token_kinds tokens = cc in
    let also_behind : more ++ s ≡ token_kinds others = cc in
    let tails = same_front more other.0 tokens others r s
    (subst (λ due. Goes due tokens) (ap (λ pair. pair.1) step) one.2) other.2 from_behind also_behind in
    ap (λ t. t ∷ take (length more) tokens) (ap (λ pair. pair.0) step) ∙ ap (λ ts. next ∷ ts) tails

pub same_marks : (tokens : List Token) (first second : ProgramPhrase) → GoesOn tokens first → GoesOn tokens second →
    take (length tokens) (spelling first) ≡ take (length tokens) (spelling second)
same_marks tokens first second one other =
    subst (λ n. take n (spelling first) ≡ take n (spelling second)) (kinds_length tokens)
    (same_front (kinds tokens) [] (spelling first) (spelling second) one.rest other.rest
    (goes_program first one.is_program) (goes_program second other.is_program) one.written other.written)

pub one_tally : (tokens : List Token) (n : ℕ) (first second : ProgramPhrase) → n < length tokens →
    GoesOn (take (n + 1) tokens) first → GoesOn (take (n + 1) tokens) second → tally_at first n ≡ tally_at second n
one_tally tokens n first second there one other =
    let few : length (take (n + 1) tokens) ≡ n + 1 = length-take-le (n + 1) tokens (let e : n + 1 ≤ length tokens =
    omega arith in e) in
    ap tally (subst (λ m. take m (spelling first) ≡ take m (spelling second)) few
    (same_marks (take (n + 1) tokens) first second one other))
