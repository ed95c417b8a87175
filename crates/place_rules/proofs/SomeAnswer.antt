-- A program has words, or is refused for a cause.
use Rattle.std.proofs.Common.{◌≡◌, ◌≢◌, ◌∙◌, ◌⊎◌, ◌↔◌, ℕ, zero, suc, ◌+◌, ◌*◌, ◌/◌, ◌<◌, ◌≤◌, ◌^◌, List, [], ◌∷◌}
use Rattle.std.proofs.Common.{Option, Some, None}
use Rattle.std.proofs.Common.{length, position, refl, sym, ap, arith, inl, inr}
use Rattle.std.specs.Int.{bit_at}
use Rattle.std.proofs.Math.Nat.{two-pow-succ}
use Rattle.std.proofs.Math.Pow.{pow_mono}
use Rattle.std.proofs.lemmas.Nat.Bits.{bit_at-zero, bit_at-suc, bit_at_lowest}
use Rattle.js_base.specs.declared.limits.TheConstants.{HOSTS}
use Rattle.label_lattice.specs.declared.label.Label.{Label}
use Rattle.label_lattice.specs.Lattice.{join_of}
use Rattle.label_lattice.proofs.Decisions.{conf_flows, is_trusted}
use Rattle.js_base.proofs.Decisions.{Decided, both}
use Rattle.host_decl.specs.Hosts.{HostShape, HostsShape}
use Rattle.jif_tree.specs.Trees.{FieldTree}
use Rattle.need_labels.specs.Labelled.{Labelled}
use Rattle.need_labels.specs.Needs.{NeedsShape}
use Rattle.place_rules.specs.Allowed.{AllowedShape}
use Rattle.place_rules.specs.PlaceRules.{HoldsOn, AreAllowed, MayHoldField, MayHoldStatement, told_fields}
use Rattle.place_rules.specs.PlaceRules.{needed_statements}
use Rattle.place_rules.specs.Refusal.{IsPlaceRefused}
use Rattle.place_rules.specs.declared.place_error.PlaceError.{PlaceError}
use Rattle.place_rules.specs.declared.place_error.PlaceError.TheVariants as error
use Rattle.place_rules.proofs.Held.{AreWordsOf, is_empty, all_held, first_unheld}

-- ---- whether a host may hold it

field_decided : (one : FieldTree × Label) (host : HostShape) → Decided (MayHoldField one host)
field_decided one host =
    both _ _ (conf_flows (join_of one.0.label one.1) host.label) (is_trusted host.label one.0.label.trust)

statement_decided : (one : Label × ℕ) (host : HostShape) → Decided (MayHoldStatement one host)
statement_decided one host = both _ _ (conf_flows one.0 host.label) (is_trusted host.label one.1)

-- ---- the word of a row of hosts

record HasWord (may : HostShape → Type 0) (hosts : List HostShape) : Type 0 where
  word : ℕ
  fits : word < 2 ^ length hosts
  members : (number : ℕ) → ((bit_at word number ≡ 1) ↔ HoldsOn may hosts number)

-- a word behind one more lowest bit
longer : (may : HostShape → Type 0) (host : HostShape) (hosts : List HostShape) (rest : HasWord may hosts) (bit : ℕ) →
    bit < 2 → ((bit ≡ 1) ↔ may host) → HasWord may (host ∷ hosts)
longer may host hosts rest bit small first = record {
  word = rest.word * 2 + bit;
  fits = rw two-pow-succ (let fits = rest.fits in omega arith);
  members = member;
}
  where
    member : (number : ℕ) → ((bit_at (rest.word * 2 + bit) number ≡ 1) ↔ HoldsOn may (host ∷ hosts) number)
    member zero =
        let same : bit_at (rest.word * 2 + bit) 0 ≡ bit = bit_at_lowest (rest.word * 2 + bit) ∙ omega arith in
        (λ set. first.0 (sym same ∙ set), λ holds. same ∙ first.1 holds)
    member (suc number) =
        let half : (rest.word * 2 + bit) / 2 ≡ rest.word = omega arith in
        let same : bit_at (rest.word * 2 + bit) (suc number) ≡ bit_at rest.word number =
        bit_at-suc (rest.word * 2 + bit) number ∙ ap (λ word. bit_at word number) half in
        (λ set. (rest.members number).0 (sym same ∙ set), λ holds. same ∙ (rest.members number).1 holds)

has_word : (may : HostShape → Type 0) → ((host : HostShape) → Decided (may host)) → (hosts : List HostShape) →
    HasWord may hosts
has_word may each [] = record {
  word = 0;
  fits = omega arith;
  members = λ number. (λ set. let clear = bit_at-zero number in absurd (cc), λ holds. absurd holds);
}
has_word may each (host ∷ hosts) = elim (each host) [
  | inl holds ↦ longer may host hosts (has_word may each hosts) 1 (omega arith) (λ _. holds, λ _. refl)
  | inr not ↦ longer may host hosts (has_word may each hosts) 0 (omega arith)
      (λ same. absurd (omega arith), λ holds. absurd (not holds))
]

-- ---- the words of a list

row_of : {A : Type 0} (may : A → HostShape → Type 0) → ((one : A) (host : HostShape) → Decided (may one host)) →
    (hosts : List HostShape) → length hosts ≤ HOSTS → (all : List A) → (words : List ℕ) × AreWordsOf may hosts all words
row_of may each hosts few [] = ([], tt)
row_of may each hosts few (one ∷ all) =
    let first = has_word (may one) (each one) hosts in
    let rest = row_of may each hosts few all in
    let most : 2 ^ length hosts ≤ 2 ^ HOSTS = pow_mono few in
    let fits : first.word < 2 ^ length hosts = first.fits in
    (first.word ∷ rest.0, (record { fits = omega arith; members = first.members }, rest.1))

option_cases : (found : Option ℕ) → (found ≡ None) ⊎ ((number : ℕ) × (found ≡ Some number))
option_cases None = inl refl
option_cases (Some number) = inr (number, refl)

pub allowed_or_refused : (labelled : Labelled) (needs : NeedsShape) (hosts : HostsShape) →
    length hosts.hosts ≤ HOSTS → ((allowed : AllowedShape) × AreAllowed labelled needs hosts allowed)
    ⊎ ((why : PlaceError) × (why ≢ error.OutOfMemory) × IsPlaceRefused labelled needs hosts why)
allowed_or_refused labelled needs hosts few =
    let fields = row_of MayHoldField field_decided hosts.hosts few (told_fields labelled needs) in
    let statements = row_of MayHoldStatement statement_decided hosts.hosts few (needed_statements needs) in
    elim (option_cases (position is_empty fields.0)) [
      | inl none ↦
          let held = all_held MayHoldField hosts.hosts (told_fields labelled needs) fields.0 fields.1 none in
          elim (option_cases (position is_empty statements.0)) [
            | inl also ↦ inl (
              record { fields = fields.0; statements = statements.0 },
              record {
                fields = fields.1;
                statements = statements.1;
                held_fields = held;
                held_statements = all_held MayHoldStatement hosts.hosts (needed_statements needs) statements.0
                    statements.1 also;
              },
            )
            | inr found ↦ inr (
              error.NoHostForStatement (record { 0 = found.0 }),
              (λ same. cc),
              (
                held,
                first_unheld MayHoldStatement hosts.hosts (needed_statements needs) statements.0 found.0
                    statements.1 found.1,
              ),
            )
          ]
      | inr found ↦ inr (
        error.NoHostForField (record { 0 = found.0 }),
        (λ same. cc),
        first_unheld MayHoldField hosts.hosts (told_fields labelled needs) fields.0 found.0 fields.1 found.1,
      )
    ]
