-- Tokens are refused for one cause at most, and never where they are a program.
use Rattle.std.proofs.Common.{◌≡◌, inl, inr, ℕ, ◌<◌, List, refl, ap, sym, ◌∙◌}
use Rattle.std.proofs.Common.{arith}
use Rattle.jif_lex.specs.declared.token.Token.{Token}
use Rattle.jif_grammar.specs.declared.what.What.{What}
use Rattle.jif_grammar.specs.declared.what.What.TheVariants as counted
use Rattle.jif_grammar.specs.Programs.{Refusal, unexpected, too_deep, too_many, place, rank, rank_of_what, ComesBefore}
use Rattle.jif_grammar.specs.Programs.{IsRefused}
use Rattle.std.proofs.Common.{length, take, drop, [], ◌∷◌, suc, ◌+◌}
use Rattle.jif_grammar.specs.Marks.{Marked}
use Rattle.std.proofs.lemmas.Bool.{cases_lt}
use Rattle.std.proofs.lemmas.List.{map-append, take-append-drop}
use Rattle.label_lattice.specs.Written.{kinds}
use Rattle.jif_grammar.specs.Phrases.{ProgramPhrase}
use Rattle.jif_grammar.specs.Spelling.{spelling}
use Rattle.jif_grammar.specs.Programs.{token_kinds, Spells, GoesOn, IsProgramText, IsProgramOf, IsFault}
use Rattle.jif_grammar.specs.DraftShapes.{DraftShape}

-- ---- places and ranks determine refusals

pub one_rank : (first second : What) → rank_of_what first ≡ rank_of_what second → first ≡ second
one_rank counted.Fields counted.Fields same = refl
one_rank counted.Methods counted.Methods same = refl
one_rank counted.Parameters counted.Parameters same = refl
one_rank counted.Locals counted.Locals same = refl
one_rank counted.Statements counted.Statements same = refl
one_rank counted.Nodes counted.Nodes same = refl
one_rank counted.Elements counted.Elements same = refl
one_rank _ _ same = absurd (omega arith)

pub rank_within : (what : What) → (0 < rank_of_what what) × (rank_of_what what < 8)
rank_within counted.Fields = omega arith
rank_within _ = omega arith

same_refusal : (first second : Refusal) → place first ≡ place second → rank first ≡ rank second → first ≡ second
same_refusal (unexpected n) (unexpected m) places ranks = ap unexpected places
same_refusal (too_deep n) (too_deep m) places ranks = ap too_deep places
same_refusal (too_many what n) (too_many other m) places ranks =
    ap (λ w. too_many w n) (one_rank what other ranks) ∙ ap (too_many other) places
same_refusal (too_many what n) (too_deep m) places ranks = absurd (omega (arith, rank_within what))
same_refusal (too_deep n) (too_many what m) places ranks = absurd (omega (arith, rank_within what))
same_refusal (too_many what n) (unexpected m) places ranks = absurd (omega (arith, rank_within what))
same_refusal (unexpected n) (too_many what m) places ranks = absurd (omega (arith, rank_within what))
same_refusal (unexpected n) (too_deep m) places ranks = absurd (omega arith)
same_refusal (too_deep n) (unexpected m) places ranks = absurd (omega arith)

pub one_refusal : (tokens : List Token) (first second : Refusal) → IsRefused tokens first → IsRefused tokens second →
    first ≡ second
one_refusal tokens first second one other =
    let not_first : ComesBefore second first → ⊥ = one.first second other.fault in
    let not_second : ComesBefore first second → ⊥ = other.first first one.fault in
    let no_earlier : ¬ (place first < place second) = λ less. not_second (inl less) in
    let no_later : ¬ (place second < place first) = λ less. not_first (inl less) in
    let places : place first ≡ place second = omega arith in
    let no_lower : ¬ (rank first < rank second) = λ less. not_second (inr (places, less)) in
    let no_higher : ¬ (rank second < rank first) = λ less. not_first (inr (sym places, less)) in
    let ranks : rank first ≡ rank second = omega arith in
    same_refusal first second places ranks

-- ---- a program is not refused

pub kinds_length : (tokens : List Token) → length (kinds tokens) ≡ length tokens
kinds_length [] = refl
kinds_length (token ∷ tokens) = ap suc (kinds_length tokens)

pub unmarked_length : (tokens : List Marked) → length (token_kinds tokens) ≡ length tokens
unmarked_length [] = refl
unmarked_length (token ∷ tokens) = ap suc (unmarked_length tokens)

pub same_length : (tokens : List Token) (program : ProgramPhrase) → Spells tokens program →
    length tokens ≡ length (spelling program)
same_length tokens program spells =
    sym (kinds_length tokens) ∙ ap length spells.written ∙ unmarked_length (spelling program)

-- a program goes on from each beginning of its tokens
goes_on : (tokens : List Token) (program : ProgramPhrase) (n : ℕ) → Spells tokens program →
    GoesOn (take n tokens) program
goes_on tokens program n spells = record {
  is_program = spells.is_program;
  rest = kinds (drop n tokens);
  written = sym (map-append (λ token. token.kind) (take n tokens) (drop n tokens))
      ∙ ap kinds (take-append-drop n tokens) ∙ spells.written;
}

no_fault : (tokens : List Token) (program : ProgramPhrase) (refusal : Refusal) → IsProgramText tokens program →
    ¬ IsFault tokens refusal
no_fault tokens program (unexpected n) is fault =
    elim (cases_lt n (length tokens)) [
      | inl less ↦ fault.no_further less (program, goes_on tokens program (n + 1) is.spells)
      | inr least ↦ fault.not_whole program (let e : n ≡ length tokens = omega (arith, fault.within, least) in e)
          is.spells
    ]
no_fault tokens program (too_deep n) is fault =
    (is.limits n (let e : n < length (spelling program) =
    omega (arith, fault.there, same_length tokens program is.spells) in e)).nesting
    (fault.certain program (goes_on tokens program (n + 1) is.spells))
no_fault tokens program (too_many what n) is fault =
    (is.limits n (let e : n < length (spelling program) =
    omega (arith, fault.there, same_length tokens program is.spells) in e)).counts what
    (fault.certain program (goes_on tokens program (n + 1) is.spells))

pub never_both : (tokens : List Token) (draft : DraftShape) (refusal : Refusal) → IsProgramOf tokens draft →
    ¬ IsRefused tokens refusal
never_both tokens draft refusal is refused = no_fault tokens is.program refusal is.text refused.fault
