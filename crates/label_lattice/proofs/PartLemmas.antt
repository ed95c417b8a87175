-- What one part of a label is, and adds.
use Rattle.std.proofs.Common.{ℕ, zero, suc, ◌≡◌, ◌≢◌, ◌∙◌, sym, ap, subst, inl, inr, List, [], ◌∷◌, arith}
use Rattle.std.specs.Prelude.{Contains}
use Rattle.js_base.specs.declared.ids.PrincipalId.{PrincipalId}
use Rattle.jif_lex.specs.declared.token.TokenKind.{TokenKind}
use Rattle.jif_lex.specs.declared.token.TokenKind.TheVariants.{Name}
use Rattle.jif_lex.specs.declared.token.Symbol.TheVariants.{Colon, Comma, Semicolon, Question}
use Rattle.principals.specs.ActsFor.{Declared}
use Rattle.label_lattice.specs.declared.label.Label.{Label}
use Rattle.label_lattice.specs.Label.{SameForbidden, SameTrust, AddsPolicy, AddsTrust}
use Rattle.label_lattice.specs.Written.{symbol, names_tokens, Part, policy, trust, part_tokens, policy_of, trust_of}
use Rattle.label_lattice.specs.Written.{IsKnown, AreKnown}
use Rattle.label_lattice.specs.Reading.{Adds, AddsPart, IsNoPart}
use Rattle.label_lattice.proofs.KnownNames.{known_is_held}

-- ---- what a part adds

pub adds_policy : (principals : Declared) (old new : Label) (owner : PrincipalId) (readers : List PrincipalId) →
    AddsPolicy old new principals owner readers → SameTrust old new →
    Adds principals (policy_of owner readers) old new
adds_policy principals old new owner readers adds same = record {
  forbids = adds;
  trusts = λ p within. (
    λ trusts. inl ((same p within).0 trusts),
    λ either. elim either [ inl trusts ↦ (same p within).1 trusts | inr none ↦ absurd none ],
  );
}

pub adds_trust : (principals : Declared) (old new : Label) (members : List PrincipalId) → SameForbidden old new →
    AddsTrust old new principals members → Adds principals (trust_of members) old new
adds_trust principals old new members same adds = record {
  forbids = λ owner reader owner_in reader_in. (
    λ forbids. inl ((same owner reader owner_in reader_in).0 forbids),
    λ either. elim either [
      | inl forbids ↦ (same owner reader owner_in reader_in).1 forbids
      | inr none ↦ absurd
          none
    ],
  );
  trusts = adds;
}

pub policy_part : (principals : Declared) (tokens names : List TokenKind) (head : TokenKind) (old new : Label)
    (owner : List ℕ) (text : List ℕ) (known_owner : PrincipalId) (readers : List (List ℕ))
    (known : List PrincipalId) → tokens ≡ head ∷ symbol Colon ∷ names → head ≡ Name owner → text ≡ owner →
    names ≡ names_tokens readers → IsKnown principals text known_owner → AreKnown principals readers known →
    AddsPolicy old new principals known_owner known → SameTrust old new → AddsPart principals tokens old new
policy_part principals tokens names head old new owner text known_owner readers known cut head_is text_is names_are is
    are adds same =
    let P : List ℕ → Type 0 = λ n. IsKnown principals n known_owner in
    record {
      part = policy owner readers;
      known = policy_of known_owner known;
      written = cut ∙ ap (λ h. h ∷ symbol Colon ∷ names) head_is ∙ ap (λ ns. Name owner ∷ symbol Colon ∷ ns) names_are;
      is_known = (subst P text_is is, are);
      adds = adds_policy principals old new known_owner known adds same;
    }

pub trust_part : (principals : Declared) (tokens names : List TokenKind) (head : TokenKind) (old new : Label)
    (members : List (List ℕ)) (known : List PrincipalId) → tokens ≡ head ∷ symbol Colon ∷ names →
    head ≡ symbol Question → names ≡ names_tokens members → AreKnown principals members known →
    SameForbidden old new → AddsTrust old new principals known → AddsPart principals tokens old new
trust_part principals tokens names head old new members known cut head_is names_are are same adds = record {
  part = trust members;
  known = trust_of known;
  written = cut ∙ ap (λ h. h ∷ symbol Colon ∷ names) head_is ∙ ap (λ ns. symbol Question ∷ symbol Colon ∷ ns) names_are;
  is_known = are;
  adds = adds_trust principals old new known same adds;
}

-- an owner that is not declared
pub unknown_owner : (principals : Declared) (tokens names : List TokenKind) (head : TokenKind) (owner text : List ℕ) →
    tokens ≡ head ∷ symbol Colon ∷ names → head ≡ Name owner → text ≡ owner → ¬ Contains principals.names text →
    IsNoPart principals tokens
unknown_owner principals tokens names head owner text cut head_is text_is none (trust members) known written is_known =
    let heads : head ≡ symbol Question = cc in
    let both : Name owner ≡ symbol Question = sym head_is ∙ heads in
    absurd cc
unknown_owner principals tokens names head owner text cut head_is text_is none (policy other readers)
    (trust_of members) written is_known = absurd is_known
unknown_owner principals tokens names head owner text cut head_is text_is none (policy other readers)
    (policy_of known_owner known) written is_known =
    let heads : head ≡ Name other = cc in
    let both : Name owner ≡ Name other = sym head_is ∙ heads in
    let same : owner ≡ other = cc in
    let P : List ℕ → Type 0 = λ n. ¬ Contains principals.names n in
    subst P (text_is ∙ same) none (known_is_held principals other known_owner is_known.0)

-- ---- no part has a semicolon

lacks_more : (x c : TokenKind) (xs : List TokenKind) → x ≢ c → ¬ Contains xs c → ¬ Contains (x ∷ xs) c
lacks_more x c xs other lacks (zero, within, is) = other is
lacks_more x c xs other lacks (suc k, within, is) = lacks (k, omega (arith, within), is)

name_lacks : (name : List ℕ) → Name name ≢ symbol Semicolon
name_lacks name is = cc

comma_lacks : symbol Comma ≢ symbol Semicolon
comma_lacks is = cc

colon_lacks : symbol Colon ≢ symbol Semicolon
colon_lacks is = cc

question_lacks : symbol Question ≢ symbol Semicolon
question_lacks is = cc

names_lack : (names : List (List ℕ)) → ¬ Contains (names_tokens names) (symbol Semicolon)
names_lack [] found = omega (arith, found.1)
names_lack (name ∷ []) found =
    lacks_more (Name name) (symbol Semicolon) [] (name_lacks name) (λ f. omega (arith, f.1)) found
names_lack (name ∷ next ∷ names) found =
    lacks_more (Name name) (symbol Semicolon) (symbol Comma ∷ names_tokens (next ∷ names)) (name_lacks name)
    (lacks_more (symbol Comma) (symbol Semicolon) (names_tokens (next ∷ names)) comma_lacks
    (names_lack (next ∷ names))) found

pub no_semicolon : (part : Part) → ¬ Contains (part_tokens part) (symbol Semicolon)
no_semicolon (policy owner readers) found =
    lacks_more (Name owner) (symbol Semicolon) (symbol Colon ∷ names_tokens readers) (name_lacks owner)
    (lacks_more (symbol Colon) (symbol Semicolon) (names_tokens readers) colon_lacks (names_lack readers)) found
no_semicolon (trust members) found =
    lacks_more (symbol Question) (symbol Semicolon) (symbol Colon ∷ names_tokens members) question_lacks
    (lacks_more (symbol Colon) (symbol Semicolon) (names_tokens members) colon_lacks (names_lack members)) found

pub a_part : (part : Part) → part_tokens part ≢ []
a_part (policy owner readers) is = cc
a_part (trust members) is = cc
