-- Names and pairs are declared in one way, or refused for one cause.
use Rattle.std.proofs.Common.{◌≡◌, ◌≢◌, ℕ, ◌∙◌, sym, ap, refl, inl, inr, arith}
use Rattle.std.proofs.Common.{List, [], ◌∷◌, string_bytes}
use Rattle.std.specs.List.{AllZip, IsDistinct}
use Rattle.std.specs.Str.{bytes_eq}
use Rattle.js_base.proofs.Lists.{one_zipped}
use Rattle.js_base.proofs.Repeats.{one_place, none_repeated, one_repeated}
use Rattle.principals.specs.ActsFor.{Declared}
use Rattle.principals.specs.Declaring.{IsPairOf, AreDeclaredAs, Refuses, IsFirstUnknown, mentioned_names}
use Rattle.principals.specs.declared.principals.PrincipalError.{PrincipalError}
use Rattle.principals.specs.declared.principals.PrincipalError.TheVariants.{OutOfMemory, TooMany, Twice, Unknown}
use Rattle.principals.specs.Refusal.{refusal_shape, unknown, twice}
use Rattle.principals.proofs.Pairing.{named_is_held}

-- ---- one declaration

one_pair : (names : List (List ℕ)) → IsDistinct bytes_eq names → (written : List ℕ × List ℕ) (first second : ℕ × ℕ) →
    IsPairOf names written first → IsPairOf names written second → first ≡ second
one_pair names distinct written first second one two =
    let left : first.0 ≡ second.0 = one_place names written.0 first.0 second.0 distinct one.0 two.0 in
    let right : first.1 ≡ second.1 = one_place names written.1 first.1 second.1 distinct one.1 two.1 in
    ap (λ n. (n, first.1)) left ∙ ap (λ n. (second.0, n)) right

pub declared_once : (names : List (List ℕ)) (pairs : List (List ℕ × List ℕ)) (first second : Declared) →
    AreDeclaredAs names pairs first → AreDeclaredAs names pairs second → first ≡ second
declared_once names pairs first second one two =
    let same_names : first.names ≡ second.names = one.names_are ∙ sym two.names_are in
    let same_pairs : first.pairs ≡ second.pairs =
    one_zipped (IsPairOf names) (one_pair names one.declarable.distinct) pairs first.pairs second.pairs
    one.pairs_are two.pairs_are in
    let with_names : List (List ℕ) → Declared = λ ns. record { names = ns; pairs = first.pairs } in
    let with_pairs : List (ℕ × ℕ) → Declared = λ ps. record { names = second.names; pairs = ps } in
    ap with_names same_names ∙ ap with_pairs same_pairs

-- ---- one refusal

one_unknown : (names used : List (List ℕ)) (first second : List ℕ) →
    IsFirstUnknown names used first → IsFirstUnknown names used second → first ≡ second
one_unknown names [] first second one two = absurd one
one_unknown names (next ∷ rest) first second (inl one) (inl two) = one.1 ∙ sym two.1
one_unknown names (next ∷ rest) first second (inl one) (inr two) = absurd (one.0 two.0)
one_unknown names (next ∷ rest) first second (inr one) (inl two) = absurd (two.0 one.0)
one_unknown names (next ∷ rest) first second (inr one) (inr two) = one_unknown names rest first second one.1 two.1

pub one_refusal : (names : List (List ℕ)) (pairs : List (List ℕ × List ℕ)) (first second : PrincipalError) →
    Refuses names pairs first → Refuses names pairs second → first ≢ OutOfMemory → second ≢ OutOfMemory →
    refusal_shape first ≡ refusal_shape second
one_refusal names pairs OutOfMemory second one two no_first no_second = absurd (no_first refl)
one_refusal names pairs TooMany OutOfMemory one two no_first no_second = absurd (no_second refl)
one_refusal names pairs TooMany TooMany one two no_first no_second = refl
one_refusal names pairs TooMany (Twice b) one two no_first no_second = absurd (omega (arith, one, two.0))
one_refusal names pairs TooMany (Unknown b) one two no_first no_second = absurd (omega (arith, one, two.0.few))
one_refusal names pairs (Twice a) OutOfMemory one two no_first no_second = absurd (no_second refl)
one_refusal names pairs (Twice a) TooMany one two no_first no_second = absurd (omega (arith, one.0, two))
one_refusal names pairs (Twice a) (Twice b) one two no_first no_second =
    ap twice (one_repeated names (string_bytes a) (string_bytes b) one.1 two.1)
one_refusal names pairs (Twice a) (Unknown b) one two no_first no_second =
    absurd (none_repeated names (string_bytes a) two.0.distinct one.1)
one_refusal names pairs (Unknown a) OutOfMemory one two no_first no_second = absurd (no_second refl)
one_refusal names pairs (Unknown a) TooMany one two no_first no_second = absurd (omega (arith, one.0.few, two))
one_refusal names pairs (Unknown a) (Twice b) one two no_first no_second =
    absurd (none_repeated names (string_bytes b) one.0.distinct two.1)
one_refusal names pairs (Unknown a) (Unknown b) one two no_first no_second =
    ap unknown (one_unknown names (mentioned_names pairs) (string_bytes a) (string_bytes b) one.1 two.1)

-- ---- never both

all_known : (names : List (List ℕ)) (pairs : List (List ℕ × List ℕ)) (ids : List (ℕ × ℕ)) (name : List ℕ) →
    AllZip (IsPairOf names) pairs ids → ¬ IsFirstUnknown names (mentioned_names pairs) name
all_known names [] ids name known unknown_name = unknown_name
all_known names (pair ∷ pairs) [] name known unknown_name = absurd known
all_known names (pair ∷ pairs) (id ∷ ids) name known (inl first) =
    first.0 (named_is_held names pair.0 id.0 known.0.0)
all_known names (pair ∷ pairs) (id ∷ ids) name known (inr (held, inl second)) =
    second.0 (named_is_held names pair.1 id.1 known.0.1)
all_known names (pair ∷ pairs) (id ∷ ids) name known (inr (held, inr rest)) =
    all_known names pairs ids name known.1 rest.1

pub never_both : (names : List (List ℕ)) (pairs : List (List ℕ × List ℕ)) (principals : Declared)
    (why : PrincipalError) →
    AreDeclaredAs names pairs principals → Refuses names pairs why → why ≡ OutOfMemory
never_both names pairs principals OutOfMemory are refuses = refl
never_both names pairs principals TooMany are refuses = absurd (omega (arith, are.declarable.few, refuses))
never_both names pairs principals (Twice name) are refuses =
    absurd (none_repeated names (string_bytes name) are.declarable.distinct refuses.1)
never_both names pairs principals (Unknown name) are refuses =
    absurd (all_known names pairs principals.pairs (string_bytes name) are.pairs_are refuses.1)
