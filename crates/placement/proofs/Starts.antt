-- Starting plans: where they put each thing, and that there is one for each host.
use Rattle.std.proofs.Common.{◌≡◌, ◌≢◌, ℕ, ◌+◌, ◌<◌, ◌≤◌, ◌^◌, ◌∙◌, List, [], ◌∷◌, ◌++◌, length, get_or, take, sym}
use Rattle.std.proofs.Common.{ap, subst, arith}
use Rattle.std.proofs.Common.{inl, inr, w16}
use Rattle.std.specs.List.{AllZip}
use Rattle.std.specs.Int.{bit_at, trailing_zeros}
use Rattle.std.proofs.lemmas.Bool.{cases_order}
use Rattle.std.proofs.lemmas.List.{take_more, take_all}
use Rattle.std.proofs.lemmas.Nat.Bits.{bit_at-zero, bit_at-trailing_zeros}
use Rattle.std.proofs.lemmas.Slice.Zip.{all_zipped_more}
use Rattle.js_base.proofs.Lists.{one_zipped}
use Rattle.js_base.specs.declared.ids.HostId.{HostId}
use Rattle.need_labels.specs.Plan.{PlanShape}
use Rattle.place_rules.specs.Allowed.{AllowedShape}
use Rattle.place_rules.specs.PlaceRules.{IsWordOfSome}
use Rattle.placement.specs.Starting.{IsFirstHost, StartsOn, IsStartOf}

-- ---- words

pub lowest_host : (word : ℕ) → word ≢ 0 → word < 2 ^ 16 → IsFirstHost word (trailing_zeros w16 word)
lowest_host word some fits =
    let lowest = bit_at-trailing_zeros w16 word (omega arith) fits in
    record {
      held = lowest.1;
      before = λ earlier less set. let clear = lowest.2 earlier less in absurd (omega arith);
    }

pub some_word : (count word : ℕ) → IsWordOfSome count word → word ≢ 0
some_word count word is none =
    let set : bit_at word is.some.0 ≡ 1 = is.some.1 in
    let clear : bit_at word is.some.0 ≡ 0 = ap (λ one. bit_at one is.some.0) none ∙ bit_at-zero is.some.0 in
    absurd (omega arith)

-- ---- a row of words

pub starts_more : (preferred : ℕ) (words : List ℕ) (i : ℕ) (word : ℕ) (hosts : List HostId) (host : HostId) →
    i < length words → word ≡ get_or words i word → AllZip (StartsOn preferred) (take i words) hosts →
    StartsOn preferred word host → AllZip (StartsOn preferred) (take (i + 1) words) (hosts ++ host ∷ [])
starts_more preferred words i word hosts host within is all last =
    let Q : List ℕ → Type 0 = λ front. AllZip (StartsOn preferred) front (hosts ++ host ∷ []) in
    let longer : take (i + 1) words ≡ take i words ++ word ∷ [] =
    take_more words i word within ∙ ap (λ one. take i words ++ one ∷ []) (sym is) in
    subst Q (sym longer) (all_zipped_more (StartsOn preferred) (take i words) hosts word host all last)

pub starts_all : (preferred : ℕ) (words : List ℕ) (i : ℕ) (hosts : List HostId) → length words ≤ i →
    AllZip (StartsOn preferred) (take i words) hosts → AllZip (StartsOn preferred) words hosts
starts_all preferred words i hosts past all =
    let Q : List ℕ → Type 0 = λ front. AllZip (StartsOn preferred) front hosts in
    subst Q (take_all i words past) all

-- ---- one plan for each host

one_first : (word first second : ℕ) → IsFirstHost word first → IsFirstHost word second → first ≡ second
one_first word first second one two = elim (cases_order first second) [
  | inl same ↦ same
  | inr (inl sooner) ↦ absurd (two.before first sooner one.held)
  | inr (inr later) ↦ absurd (one.before second later two.held)
]

one_number : (preferred word : ℕ) (first second : HostId) → StartsOn preferred word first →
    StartsOn preferred word second → first.0 ≡ second.0
one_number preferred word first second (inl one) (inl two) = one.1 ∙ sym two.1
one_number preferred word first second (inl one) (inr two) = absurd (two.0 one.0)
one_number preferred word first second (inr one) (inl two) = absurd (one.0 two.0)
one_number preferred word first second (inr one) (inr two) = one_first word first.0 second.0 one.1 two.1

one_host : (preferred word : ℕ) (first second : HostId) → StartsOn preferred word first →
    StartsOn preferred word second → first ≡ second
one_host preferred word first second one two =
    let host_of : ℕ → HostId = λ number. record { 0 = number } in
    ap host_of (one_number preferred word first second one two)

one_row : (preferred : ℕ) (words : List ℕ) (first second : List HostId) → AllZip (StartsOn preferred) words first →
    AllZip (StartsOn preferred) words second → first ≡ second
one_row preferred words first second one two =
    one_zipped (StartsOn preferred) (one_host preferred) words first second one two

pub one_start : (allowed : AllowedShape) (preferred : ℕ) (first second : PlanShape) →
    IsStartOf allowed preferred first → IsStartOf allowed preferred second → first ≡ second
one_start allowed preferred first second one two =
    let fields : first.fields ≡ second.fields = one_row preferred allowed.fields _ _ one.fields two.fields in
    let statements : first.statements ≡ second.statements =
    one_row preferred allowed.statements _ _ one.statements two.statements in
    let with_fields : List HostId → PlanShape =
    λ hosts. record { fields = hosts; statements = first.statements } in
    let with_statements : List HostId → PlanShape =
    λ hosts. record { fields = second.fields; statements = hosts } in
    ap with_fields fields ∙ ap with_statements statements
