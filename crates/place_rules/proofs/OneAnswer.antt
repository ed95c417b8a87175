-- One row of words, or one cause.
use Rattle.std.proofs.Common.{◌≡◌, ◌≢◌, ◌∙◌, ℕ, zero, suc, ◌<◌, List, [], ◌∷◌, length}
use Rattle.std.proofs.Common.{refl, sym, ap, subst, arith, inl, inr}
use Rattle.std.specs.Prelude.{All}
use Rattle.std.specs.Int.{bit_at}
use Rattle.std.proofs.lemmas.Bool.{cases_order, cases_eq}
use Rattle.std.proofs.lemmas.Option.{slice_get_within, get_or_from_slice_get}
use Rattle.std.proofs.lemmas.List.{get_or-take, length-take}
use Rattle.std.proofs.lemmas.Nat.Bits.{bit_at-lt, same_from_bits}
use Rattle.js_base.proofs.Lists.{one_zipped}
use Rattle.host_decl.specs.Hosts.{HostShape, HostsShape}
use Rattle.need_labels.specs.Labelled.{Labelled}
use Rattle.need_labels.specs.Needs.{NeedsShape}
use Rattle.place_rules.specs.Allowed.{AllowedShape}
use Rattle.place_rules.specs.PlaceRules.{HoldsOn, HasHolder, IsWordOf, IsWordOfSome, AreAllowed, MayHoldField}
use Rattle.place_rules.specs.PlaceRules.{MayHoldStatement}
use Rattle.place_rules.specs.PlaceRules.{told_fields, needed_statements}
use Rattle.place_rules.specs.Refusal.{IsFirstUnheld, IsPlaceRefused}
use Rattle.place_rules.specs.declared.place_error.PlaceError.{PlaceError}
use Rattle.place_rules.specs.declared.place_error.PlaceError.TheVariants as error
use Rattle.place_rules.proofs.Held.{AreWordsOf}

-- ---- one word

same_bit : (first second number : ℕ) → (bit_at first number ≡ 1 → bit_at second number ≡ 1) →
    (bit_at second number ≡ 1 → bit_at first number ≡ 1) → bit_at first number ≡ bit_at second number
same_bit first second number over back =
    let one = bit_at-lt first number in
    let other = bit_at-lt second number in
    elim (cases_eq (bit_at first number) 1) [
      | inl set ↦ set ∙ sym (over set)
      | inr clear ↦ elim (cases_eq (bit_at second number) 1) [
        | inl set ↦ absurd (clear (back set))
        | inr also ↦ omega arith
      ]
    ]

one_word : (may : HostShape → Type 0) (hosts : List HostShape) (first second : ℕ) → IsWordOf may hosts first →
    IsWordOf may hosts second → first ≡ second
one_word may hosts first second one two =
    same_from_bits first second
    (λ number. same_bit first second number
    (λ set. (two.members number).1 ((one.members number).0 set))
    (λ set. (one.members number).1 ((two.members number).0 set)))

one_row : {A : Type 0} (may : A → HostShape → Type 0) (hosts : List HostShape) (all : List A) (first second : List ℕ) →
    AreWordsOf may hosts all first → AreWordsOf may hosts all second → first ≡ second
one_row may hosts all first second one two =
    one_zipped (λ x word. IsWordOf (may x) hosts word) (λ x. one_word (may x) hosts) all first second one two

pub one_allowed : (labelled : Labelled) (needs : NeedsShape) (hosts : HostsShape) (first second : AllowedShape) →
    AreAllowed labelled needs hosts first → AreAllowed labelled needs hosts second → first ≡ second
one_allowed labelled needs hosts first second one two =
    let fields : first.fields ≡ second.fields =
    one_row MayHoldField hosts.hosts (told_fields labelled needs) first.fields second.fields one.fields two.fields in
    let statements : first.statements ≡ second.statements =
    one_row MayHoldStatement hosts.hosts (needed_statements needs) first.statements second.statements
    one.statements two.statements in
    ap (λ words. record { fields = words; statements = first.statements }) fields
    ∙ ap (λ words. record { fields = second.fields; statements = words }) statements

-- ---- one cause

-- the first that no host may hold is not before another first
not_before : {A : Type 0} (may : A → HostShape → Type 0) (hosts : List HostShape) (all : List A) (first second : ℕ) →
    IsFirstUnheld may hosts all first → IsFirstUnheld may hosts all second → first < second → ⊥
not_before {A = A} may hosts all first second one two sooner =
    let within : first < length all = slice_get_within all first one.one one.place in
    let Held : A → Type 0 = λ x. HasHolder (may x) hosts in
    one.unheld (subst Held
    (get_or-take second all first one.one sooner ∙ get_or_from_slice_get all first one.one one.one one.place)
    (two.before first one.one (rw length-take (omega arith))))

one_first : {A : Type 0} (may : A → HostShape → Type 0) (hosts : List HostShape) (all : List A) (first second : ℕ) →
    IsFirstUnheld may hosts all first → IsFirstUnheld may hosts all second → first ≡ second
one_first may hosts all first second one two = elim (cases_order first second) [
  | inl same ↦ same
  | inr (inl sooner) ↦ absurd (not_before may hosts all first second one two sooner)
  | inr (inr later) ↦ absurd (not_before may hosts all second first two one later)
]

none_unheld : {A : Type 0} (may : A → HostShape → Type 0) (hosts : List HostShape) (all : List A) (number : ℕ) →
    All (λ x. HasHolder (may x) hosts) all → IsFirstUnheld may hosts all number → ⊥
none_unheld {A = A} may hosts all number held first =
    let Held : A → Type 0 = λ x. HasHolder (may x) hosts in
    first.unheld (subst Held (get_or_from_slice_get all number first.one first.one first.place)
    (held number first.one (slice_get_within all number first.one first.place)))

pub one_refusal : (labelled : Labelled) (needs : NeedsShape) (hosts : HostsShape) (first second : PlaceError) →
    IsPlaceRefused labelled needs hosts first → IsPlaceRefused labelled needs hosts second → first ≢ error.OutOfMemory →
    second ≢ error.OutOfMemory → first ≡ second
one_refusal labelled needs hosts error.OutOfMemory second one two is other = absurd (is refl)
one_refusal labelled needs hosts (error.NoHostForField field) error.OutOfMemory one two is other = absurd (other refl)
one_refusal labelled needs hosts (error.NoHostForField field) (error.NoHostForField second) one two is other =
    ap (λ number. error.NoHostForField (record { 0 = number }))
    (one_first MayHoldField hosts.hosts (told_fields labelled needs) field.0 second.0 one two)
one_refusal labelled needs hosts (error.NoHostForField field) (error.NoHostForStatement second) one two is other =
    absurd (none_unheld MayHoldField hosts.hosts (told_fields labelled needs) field.0 two.0 one)
one_refusal labelled needs hosts (error.NoHostForStatement statement) error.OutOfMemory one two is other =
    absurd (other refl)
one_refusal labelled needs hosts (error.NoHostForStatement statement) (error.NoHostForField second) one two is other =
    absurd (none_unheld MayHoldField hosts.hosts (told_fields labelled needs) second.0 one.0 two)
one_refusal labelled needs hosts (error.NoHostForStatement statement) (error.NoHostForStatement second) one two is
    other =
    ap (λ number. error.NoHostForStatement (record { 0 = number }))
    (one_first MayHoldStatement hosts.hosts (needed_statements needs) statement.0 second.0 one.1 two.1)

pub never_both : (labelled : Labelled) (needs : NeedsShape) (hosts : HostsShape) (allowed : AllowedShape)
    (why : PlaceError) → AreAllowed labelled needs hosts allowed → IsPlaceRefused labelled needs hosts why →
    why ≡ error.OutOfMemory
never_both labelled needs hosts allowed error.OutOfMemory are refused = refl
never_both labelled needs hosts allowed (error.NoHostForField field) are refused =
    absurd (none_unheld MayHoldField hosts.hosts (told_fields labelled needs) field.0 are.held_fields refused)
never_both labelled needs hosts allowed (error.NoHostForStatement statement) are refused =
    absurd (none_unheld MayHoldStatement hosts.hosts (needed_statements needs) statement.0 are.held_statements
    refused.1)

-- ---- hosts of words

within_hosts : (may : HostShape → Type 0) (hosts : List HostShape) (number : ℕ) → HoldsOn may hosts number →
    number < length hosts
within_hosts may [] number holds = absurd holds
within_hosts may (host ∷ hosts) zero holds = omega arith
within_hosts may (host ∷ hosts) (suc number) holds = let less = within_hosts may hosts number holds in omega arith

word_of_some : (may : HostShape → Type 0) (hosts : List HostShape) (word : ℕ) → IsWordOf may hosts word →
    HasHolder may hosts → IsWordOfSome (length hosts) word
word_of_some may hosts word is held = record {
  fits = is.fits;
  within = λ number set. within_hosts may hosts number ((is.members number).0 set);
  some = (held.0, (is.members held.0).1 held.1);
}

all_of_some : {A : Type 0} (may : A → HostShape → Type 0) (hosts : List HostShape) (all : List A) (words : List ℕ) →
    AreWordsOf may hosts all words → All (λ x. HasHolder (may x) hosts) all → All (IsWordOfSome (length hosts)) words
all_of_some may hosts [] [] zipped held k d lt = absurd (omega arith)
all_of_some may hosts [] (word ∷ words) zipped held k d lt = absurd zipped
all_of_some may hosts (one ∷ all) [] zipped held k d lt = absurd zipped
all_of_some may hosts (one ∷ all) (word ∷ words) zipped held zero d lt =
    word_of_some (may one) hosts word zipped.0 (held 0 one (omega arith))
all_of_some may hosts (one ∷ all) (word ∷ words) zipped held (suc k) d lt =
    all_of_some may hosts all words zipped.1 (λ place x less. held (suc place) x (omega arith)) k d (omega arith)

pub some_host : (labelled : Labelled) (needs : NeedsShape) (hosts : HostsShape) (allowed : AllowedShape) →
    AreAllowed labelled needs hosts allowed →
    All (IsWordOfSome (length hosts.hosts)) allowed.fields × All (IsWordOfSome (length hosts.hosts)) allowed.statements
some_host labelled needs hosts allowed are = (
  all_of_some MayHoldField hosts.hosts (told_fields labelled needs) allowed.fields are.fields are.held_fields,
  all_of_some MayHoldStatement hosts.hosts (needed_statements needs) allowed.statements are.statements
      are.held_statements,
)
