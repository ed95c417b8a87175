-- The lines that are printed for misbehaving hosts name these hosts, and no others.
use Rattle.std.proofs.Common.{◌≡◌, ◌∙◌, ◌<◌, ◌≤◌, ◌+◌, ◌==◌, ◌||◌, ℕ, suc, Bool, true, false, List, [], ◌∷◌, ◌++◌}
use Rattle.std.proofs.Common.{length, Some, refl, ap, sym, subst, inl, inr, arith, slice_get, codes}
use Rattle.std.proofs.Common.{add-zero}
use Rattle.std.specs.Prelude.{if◌then◌else◌}
use Rattle.std.specs.Int.{bit_at}
use Rattle.std.specs.List.{list_any}
use Rattle.std.proofs.lemmas.Bool.{cases_eq, false≢true}
use Rattle.std.proofs.lemmas.Bool.Decides.{nat_tests}
use Rattle.std.proofs.lemmas.Nat.Bits.{bit_at-lt, same_from_bits}
use Rattle.js_base.specs.Name.{IsName}
use Rattle.js_base.specs.declared.ids.HostId.{HostId}
use Rattle.host_code.specs.Code.{CodeHostShape}
use Rattle.event_text.specs.Lines.{LineShape, words}
use Rattle.event_text.specs.Misbehaving.{bad_of, bad_in_front, past_bad, with_hosts}
use Rattle.event_text.specs.Parts.{host_named}
use Rattle.event_text.specs.ScriptText.{bad_lines}
use Rattle.event_text.proofs.BadBits.{has_number, bad_bits}
use Rattle.event_text.proofs.PrintedLines.{numbered_lines}
use Rattle.event_text.proofs.PrintedWords.{name_word, bad_word, two_words_are}

-- the hosts whose bits are set in a word, where the first has this number
abbrev pub hosts_set : ℕ → ℕ → List CodeHostShape → List HostId
hosts_set word number [] = []
hosts_set word number (host ∷ hosts) =
    if bit_at word number == 1
    then record { 0 = number } ∷ hosts_set word (number + 1) hosts
    else hosts_set word (number + 1) hosts

-- ---- what lines say

-- each line names the host at its place
abbrev pub Tell : List CodeHostShape → List (List ℕ) → List HostId → Type 0
Tell all [] [] = Unit {0}
Tell all [] (host ∷ hosts) = ⊥
Tell all (line ∷ lines) [] = ⊥
Tell all (line ∷ lines) (host ∷ hosts) = (bad_of all (words line) ≡ Some host) × Tell all lines hosts

pub tell_in_front : (all : List CodeHostShape) (number : ℕ) (lines : List (List ℕ)) (hosts : List HostId)
    (rest : List LineShape) → Tell all lines hosts → bad_in_front all rest ≡ [] →
    bad_in_front all (numbered_lines number lines ++ rest) ≡ hosts
tell_in_front all number [] [] rest tell none = none
tell_in_front all number [] (host ∷ hosts) rest tell none = absurd tell
tell_in_front all number (line ∷ lines) [] rest tell none = absurd tell
tell_in_front all number (line ∷ lines) (host ∷ hosts) rest tell none =
    rw tell.0 (ap (λ (others : List HostId). host ∷ others)
    (tell_in_front all (number + 1) lines hosts rest tell.1 none))

pub tell_past : (all : List CodeHostShape) (number : ℕ) (lines : List (List ℕ)) (hosts : List HostId)
    (rest : List LineShape) → Tell all lines hosts → past_bad all rest ≡ rest →
    past_bad all (numbered_lines number lines ++ rest) ≡ rest
tell_past all number [] [] rest tell none = none
tell_past all number [] (host ∷ hosts) rest tell none = absurd tell
tell_past all number (line ∷ lines) [] rest tell none = absurd tell
tell_past all number (line ∷ lines) (host ∷ hosts) rest tell none =
    rw tell.0 (tell_past all (number + 1) lines hosts rest tell.1 none)

-- ---- the lines that are printed

-- a host that a line can name
pub record IsTold (all : List CodeHostShape) (number : ℕ) (host : CodeHostShape) : Type 0 where
  pub name : IsName host.name
  pub named : host_named all host.name ≡ Some (record { 0 = number })

host_told : (all : List CodeHostShape) (number : ℕ) (host : CodeHostShape) → IsTold all number host →
    bad_of all (words (codes "bad " ++ host.name)) ≡ Some (record { 0 = number })
host_told all number host told =
    ap (bad_of all) (two_words_are (codes "bad") host.name bad_word (name_word host.name told.name)) ∙ told.named

-- the hosts from a number on
pub hosts_told : (all : List CodeHostShape) (word number : ℕ) (left : List CodeHostShape) →
    ((k : ℕ) (host : CodeHostShape) → slice_get left k ≡ Some host → IsTold all (number + k) host) →
    Tell all (bad_lines word number left) (hosts_set word number left)
hosts_told all word number [] told = tt
hosts_told all word number (host ∷ left) told =
    let here : IsTold all number host = subst (λ n. IsTold all n host) (add-zero number) (told 0 host refl) in
    by (bit_at word number == 1) (host_told all number host here)
    (hosts_told all word (number + 1) left (λ k one there.
    subst (λ n. IsTold all n one) (omega arith) (told (suc k) one there)))
  where
    by : (is_set : Bool) → bad_of all (words (codes "bad " ++ host.name)) ≡ Some (record { 0 = number }) →
        Tell all (bad_lines word (number + 1) left) (hosts_set word (number + 1) left) →
        Tell all
        (if is_set then (codes "bad " ++ host.name) ∷ bad_lines word (number + 1) left
        else bad_lines word (number + 1) left)
        (if is_set then record { 0 = number } ∷ hosts_set word (number + 1) left
        else hosts_set word (number + 1) left)
    by true here rest = (here, rest)
    by false here rest = rest

-- ---- the word that they make

abbrev IsNamed : ℕ → List HostId → Type 0
IsNamed number hosts = list_any (has_number number) hosts ≡ true

-- what is named has its bit
named_set : (word first : ℕ) (left : List CodeHostShape) (number : ℕ) →
    IsNamed number (hosts_set word first left) → bit_at word number ≡ 1
named_set word first [] number named = absurd (false≢true named)
named_set word first (host ∷ left) number named =
    by (bit_at word first == 1) refl (named_set word (first + 1) left number) named
  where
    here_or : (here : Bool) → (first == number) ≡ here → (bit_at word first == 1) ≡ true →
        (IsNamed number (hosts_set word (first + 1) left) → bit_at word number ≡ 1) →
        (here || list_any (has_number number) (hosts_set word (first + 1) left)) ≡ true → bit_at word number ≡ 1
    here_or true same is_set rest named =
        let own : first ≡ number = grind (arith, nat_tests) in
        let bit : bit_at word first ≡ 1 = grind (arith, nat_tests) in
        subst (λ n. bit_at word n ≡ 1) own bit
    here_or false same is_set rest named = rest named

    by : (is_set : Bool) → (bit_at word first == 1) ≡ is_set →
        (IsNamed number (hosts_set word (first + 1) left) → bit_at word number ≡ 1) →
        IsNamed number (if is_set then record { 0 = first } ∷ hosts_set word (first + 1) left
        else hosts_set word (first + 1) left) → bit_at word number ≡ 1
    by true is rest named = here_or (first == number) refl is rest named
    by false is rest named = rest named

-- and what has its bit is named
set_named : (word first : ℕ) (left : List CodeHostShape) (number : ℕ) → first ≤ number →
    number < first + length left → bit_at word number ≡ 1 → IsNamed number (hosts_set word first left)
set_named word first [] number above below bit = absurd (omega arith)
set_named word first (host ∷ left) number above below bit = elim (cases_eq first number) [
  | inl same ↦
      let own : bit_at word first ≡ 1 = ap (bit_at word) same ∙ bit in
      let is_set : (bit_at word first == 1) ≡ true = grind (arith, nat_tests) in
      let here : (first == number) ≡ true = grind (arith, nat_tests) in
      rw (is_set, here) refl
  | inr other ↦
      by (bit_at word first == 1)
      (set_named word (first + 1) left number (omega (arith, other)) (omega (arith, below)) bit)
]
  where
    here_or : (here : Bool) → IsNamed number (hosts_set word (first + 1) left) →
        (here || list_any (has_number number) (hosts_set word (first + 1) left)) ≡ true
    here_or true rest = refl
    here_or false rest = rest

    by : (is_set : Bool) → IsNamed number (hosts_set word (first + 1) left) →
        IsNamed number (if is_set then record { 0 = first } ∷ hosts_set word (first + 1) left
        else hosts_set word (first + 1) left)
    by true rest = here_or (first == number) rest
    by false rest = rest

-- a word whose bits are those of hosts is made of these
pub word_again : (word : ℕ) (hosts : List CodeHostShape) →
    ((number : ℕ) → bit_at word number ≡ 1 → number < length hosts) → with_hosts 0 (hosts_set word 0 hosts) ≡ word
word_again word hosts among =
    same_from_bits (with_hosts 0 (hosts_set word 0 hosts)) word (λ number. same number)
  where
    same : (number : ℕ) → bit_at (with_hosts 0 (hosts_set word 0 hosts)) number ≡ bit_at word number
    same number =
        let bits = bad_bits (hosts_set word 0 hosts) number in
        let one = bit_at-lt (with_hosts 0 (hosts_set word 0 hosts)) number in
        let two = bit_at-lt word number in
        elim (cases_eq (bit_at word number) 1) [
          | inl is_set ↦
              let made = bits.1 (set_named word 0 hosts number (omega arith)
              (omega (arith, among number is_set)) is_set) in
              made ∙ sym is_set
          | inr clear ↦ elim (cases_eq (bit_at (with_hosts 0 (hosts_set word 0 hosts)) number) 1) [
            | inl made ↦ absurd (clear (named_set word 0 hosts number (bits.0 made)))
            | inr also ↦ omega (arith, one, two, clear, also)
          ]
        ]
