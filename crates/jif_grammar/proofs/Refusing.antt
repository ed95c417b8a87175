-- What is enough for a refusal: one program that goes on from the tokens before it, or from the token itself.
use Rattle.std.proofs.Common.{◌≡◌, inl, inr, ℕ, ◌+◌, ◌<◌, ◌≤◌, List, ◌++◌, length, take, drop, ap, sym, ◌∙◌}
use Rattle.std.proofs.Common.{subst, arith, append_assoc}
use Rattle.std.proofs.lemmas.List.{map-append, take-append-drop, take-take}
use Rattle.jif_lex.specs.declared.token.Token.{Token}
use Rattle.label_lattice.specs.Written.{kinds}
use Rattle.jif_grammar.specs.declared.what.What.{What}
use Rattle.jif_grammar.specs.Phrases.{ProgramPhrase}
use Rattle.jif_grammar.specs.Marks.{Tally, IsTooDeep, HasTooMany}
use Rattle.jif_grammar.specs.Programs.{Spells, GoesOn, IsBeginning, tally_at, IsWithinUpTo, Refusal, unexpected}
use Rattle.jif_grammar.specs.Programs.{too_deep, too_many, place, rank, rank_of_what, IsCertain, IsFault}
use Rattle.jif_grammar.specs.Programs.{IsRefused}
use Rattle.jif_grammar.proofs.OneRefusal.{rank_within}
use Rattle.jif_grammar.proofs.SameMarks.{one_tally}

pub goes_on_sooner : (tokens : List Token) (program : ProgramPhrase) (n : ℕ) → GoesOn tokens program →
    GoesOn (take n tokens) program
goes_on_sooner tokens program n goes = record {
  is_program = goes.is_program;
  rest = kinds (drop n tokens) ++ goes.rest;
  written = sym (append_assoc (kinds (take n tokens)) (kinds (drop n tokens)) goes.rest)
      ∙ ap (λ ts. ts ++ goes.rest) (sym (map-append (λ token. token.kind) (take n tokens) (drop n tokens))
      ∙ ap kinds (take-append-drop n tokens)) ∙ goes.written;
}

sooner : (tokens : List Token) (program : ProgramPhrase) (m n : ℕ) → m ≤ n → GoesOn (take n tokens) program →
    GoesOn (take m tokens) program
sooner tokens program m n less goes =
    subst (λ ts. GoesOn ts program) (take-take m n tokens less)
    (goes_on_sooner (take n tokens) program m goes)

certain_of : (tokens : List Token) (n : ℕ) (program : ProgramPhrase) (P : Tally → Type 0) → n < length tokens →
    GoesOn (take (n + 1) tokens) program → P (tally_at program n) → IsCertain tokens n P
certain_of tokens n program P there goes holds = record {
  there = there;
  begins = (program, goes);
  certain = λ other goes_too. subst P (one_tally tokens n program other there goes goes_too) holds;
}

no_earlier : (tokens : List Token) (n : ℕ) (program : ProgramPhrase) → n ≤ length tokens →
    GoesOn (take n tokens) program → IsWithinUpTo program n → (other : Refusal) → place other < n →
    ¬ IsFault tokens other
no_earlier tokens n program within goes limits (unexpected m) before fault =
    fault.no_further (omega (arith, before, within))
    (program, sooner tokens program (m + 1) n (omega (arith, before)) goes)
no_earlier tokens n program within goes limits (too_deep m) before fault =
    (limits m before).nesting (fault.certain program (sooner tokens program (m + 1) n (omega (arith, before)) goes))
no_earlier tokens n program within goes limits (too_many what m) before fault =
    (limits m before).counts what
    (fault.certain program (sooner tokens program (m + 1) n (omega (arith, before)) goes))

pub too_deep_at : (tokens : List Token) (n : ℕ) (program : ProgramPhrase) → n < length tokens →
    GoesOn (take (n + 1) tokens) program → IsWithinUpTo program n → IsTooDeep (tally_at program n) →
    IsRefused tokens (too_deep n)
too_deep_at tokens n program there goes limits passes = record {
  fault = certain_of tokens n program IsTooDeep there goes passes;
  first = λ other fault before. elim before [
    | inl less ↦ no_earlier tokens n program (omega (arith, there))
        (sooner tokens program n (n + 1) (omega arith) goes) limits other less fault
    | inr same ↦ omega (arith, same.1)
  ];
}

pub too_many_at : (tokens : List Token) (n : ℕ) (program : ProgramPhrase) (what : What) → n < length tokens →
    GoesOn (take (n + 1) tokens) program → IsWithinUpTo program n → HasTooMany what (tally_at program n) →
    ¬ IsTooDeep (tally_at program n) →
    ((other : What) → rank_of_what other < rank_of_what what → ¬ HasTooMany other (tally_at program n)) →
    IsRefused tokens (too_many what n)
too_many_at tokens n program what there goes limits passes not_deep not_sooner = record {
  fault = certain_of tokens n program (HasTooMany what) there goes passes;
  first = λ other fault before. elim before [
    | inl less ↦ no_earlier tokens n program (omega (arith, there))
        (sooner tokens program n (n + 1) (omega arith) goes) limits other less fault
    | inr same ↦ none other fault same.0 same.1
  ];
}
  where
    at_token : {P : Tally → Type 0} (m : ℕ) → m ≡ n → IsCertain tokens m P → P (tally_at program n)
    at_token {P} m is fault =
        (subst (λ k. IsCertain tokens k P) is fault).certain program goes

    none : (other : Refusal) → IsFault tokens other → place other ≡ n → rank other < rank_of_what what → ⊥
    none (unexpected m) fault is lower = omega (arith, lower, rank_within what)
    none (too_deep m) fault is lower = not_deep (at_token {P = IsTooDeep} m is fault)
    none (too_many other m) fault is lower = not_sooner other lower (at_token {P = HasTooMany other} m is fault)

pub unexpected_at : (tokens : List Token) (n : ℕ) (program : ProgramPhrase) → n ≤ length tokens →
    GoesOn (take n tokens) program → IsWithinUpTo program n →
    (n < length tokens → ¬ IsBeginning (take (n + 1) tokens)) →
    ((other : ProgramPhrase) → n ≡ length tokens → ¬ Spells tokens other) → IsRefused tokens (unexpected n)
unexpected_at tokens n program within goes limits no_further not_whole = record {
  fault = record { within = within; begins = (program, goes); no_further = no_further; not_whole = not_whole };
  first = λ other fault before. elim before [
    | inl less ↦ no_earlier tokens n program within goes limits other less fault
    | inr same ↦ none other fault same.0 same.1
  ];
}
  where
    at_token : {P : Tally → Type 0} (m : ℕ) → m ≡ n → IsCertain tokens m P → ⊥
    at_token {P} m is fault =
        let here : IsCertain tokens n P = subst (λ k. IsCertain tokens k P) is fault in
        no_further here.there here.begins

    none : (other : Refusal) → IsFault tokens other → place other ≡ n → rank other < 8 → ⊥
    none (unexpected m) fault is lower = omega (arith, lower)
    none (too_deep m) fault is lower = at_token {P = IsTooDeep} m is fault
    none (too_many other m) fault is lower = at_token {P = HasTooMany other} m is fault
