-- What a policy forbids, as words and rows of bits come to say it.
use Rattle.std.proofs.Common.{ℕ, ◌≡◌, ◌≢◌, ◌<◌, ◌≤◌, ◌+◌, ◌↔◌, ◌⊎◌, ◌∙◌, sym, ap, refl, subst, inl, inr, List, [], All}
use Rattle.std.proofs.Common.{get_or, set, min, ◌-◌, ◌^◌, length, arith}
use Rattle.std.specs.Int.{bit_at}
use Rattle.std.proofs.lemmas.Bool.{cases_lt}
use Rattle.js_base.specs.declared.ids.PrincipalId.{PrincipalId}
use Rattle.std.proofs.lemmas.List.{get_or_default, get_or-set_same, get_or-set_other, length-set}
use Rattle.std.proofs.lemmas.List.Elements.{All-set}
use Rattle.principals.specs.ActsFor.{Declared, IsDeclared, ActsFor, IsReader, outsider}
use Rattle.label_lattice.specs.declared.label.Label.{Label}
use Rattle.label_lattice.specs.Label.{Forbids, ConfFlows, ForbidsNothing, KeepsOut, PolicyForbids, IsPolicy, AddsPolicy}

-- the outsider acts for itself alone
abbrev pub OutsiderIsAlone : Type 0
OutsiderIsAlone = (principals : Declared) (p : ℕ) → IsDeclared principals → ActsFor principals outsider p → p ≡ outsider

-- whom a declared principal acts for is declared
abbrev pub LeadsToDeclared : Type 0
LeadsToDeclared = (principals : Declared) (p q : ℕ) → IsDeclared principals → p < length principals.names →
    ActsFor principals p q → q < length principals.names

-- a policy of declared principals keeps out the outsider
pub outsider_kept_out : OutsiderIsAlone → (principals : Declared) (owner : PrincipalId) (readers : List PrincipalId) →
    IsDeclared principals → owner.0 < length principals.names →
    All (λ named. named.0 < length principals.names) readers → KeepsOut principals owner readers outsider
outsider_kept_out alone principals owner readers is owner_in readers_in = record {
  is_reader = inr refl;
  not_owner = λ acts. omega (arith, alone principals owner.0 is acts, is.names.few, owner_in);
  not_named = λ k d within acts. omega
      (arith, alone principals (get_or readers k d).0 is acts, is.names.few, readers_in k d within);
}

-- ---- laws of flows

-- a label of one policy forbids its owner's data to the outsider
kept_from_outsider : OutsiderIsAlone →
    (label : Label) (principals : Declared) (owner : PrincipalId) (readers : List PrincipalId) →
    IsDeclared principals → owner.0 < length principals.names →
    All (λ named. named.0 < length principals.names) readers → IsPolicy label principals owner readers →
    Forbids label owner.0 outsider
kept_from_outsider alone label principals owner readers declared owner_in readers_in is =
    (is owner.0 outsider (omega (arith, owner_in, declared.names.few)) (omega arith)).1
    (([], refl), outsider_kept_out alone principals owner readers declared owner_in readers_in)

pub policy_not_free : OutsiderIsAlone →
    (label free : Label) (principals : Declared) (owner : PrincipalId) (readers : List PrincipalId) →
    IsDeclared principals → owner.0 < length principals.names →
    All (λ named. named.0 < length principals.names) readers → IsPolicy label principals owner readers →
    ForbidsNothing free → ¬ ConfFlows label free
policy_not_free alone label free principals owner readers declared owner_in readers_in is nothing flows =
    let within : owner.0 < 63 = omega (arith, owner_in, declared.names.few) in
    nothing owner.0 outsider within (omega arith)
    (flows owner.0 outsider within (omega arith)
    (kept_from_outsider alone label principals owner readers declared owner_in readers_in is))

no_readers : (principals : Declared) → All {X = PrincipalId} (λ named. named.0 < length principals.names) []
no_readers principals k d within = absurd (omega arith)

pub acts_from_flow : OutsiderIsAlone → (from to : Label) (principals : Declared) (first second : PrincipalId) →
    IsDeclared principals → first.0 < length principals.names → IsPolicy from principals first [] →
    IsPolicy to principals second [] → ConfFlows from to → ActsFor principals second.0 first.0
acts_from_flow alone from to principals first second declared first_in from_is to_is flows =
    let within : first.0 < 63 = omega (arith, first_in, declared.names.few) in
    let also : PolicyForbids principals second [] first.0 outsider =
    (to_is first.0 outsider within (omega arith)).0
    (flows first.0 outsider within (omega arith)
    (kept_from_outsider alone from principals first [] declared first_in (no_readers principals) from_is)) in
    also.0

-- who acts for one goes on to whom that one acts for
abbrev pub GoesOn : Type 0
GoesOn = (principals : Declared) (p q r : ℕ) → ActsFor principals p q → ActsFor principals q r → ActsFor principals p r

pub flow_from_acts : GoesOn → (from to : Label) (principals : Declared) (first second : PrincipalId) →
    IsPolicy from principals first [] → IsPolicy to principals second [] → ActsFor principals second.0 first.0 →
    ConfFlows from to
flow_from_acts goes_on from to principals first second from_is to_is acts owner reader owner_in reader_in forbidden =
    let kept : PolicyForbids principals first [] owner reader = (from_is owner reader owner_in reader_in).0 forbidden in
    let out : KeepsOut principals second [] reader = record {
      is_reader = kept.1.is_reader;
      not_owner = λ reads. kept.1.not_owner (goes_on principals reader second.0 first.0 reads acts);
      not_named = λ k d within. absurd (omega arith);
    } in
    (to_is owner reader owner_in reader_in).1 (goes_on principals second.0 first.0 owner acts kept.0, out)

-- ---- the word of the readers who are kept out

-- the word has the bits of the outsider and of those below a place who are kept out
pub record KeptBelow (principals : Declared) (owner : PrincipalId) (readers : List PrincipalId) (word place : ℕ)
    : Type 0 where
  pub outsider : bit_at word 63 ≡ 1
  pub before : (reader : ℕ) → reader < place → ((bit_at word reader ≡ 1) ↔ KeepsOut principals owner readers reader)
  pub after : (reader : ℕ) → place ≤ reader → reader < 63 → bit_at word reader ≡ 0

kept_before : (principals : Declared) (owner : PrincipalId) (readers : List PrincipalId) (word next place : ℕ) →
    ((bit_at next place ≡ 1) ↔ KeepsOut principals owner readers place) →
    ((k : ℕ) → k ≢ place → bit_at next k ≡ bit_at word k) → KeptBelow principals owner readers word place →
    (reader : ℕ) → reader < place + 1 → ((bit_at next reader ≡ 1) ↔ KeepsOut principals owner readers reader)
kept_before principals owner readers word next place here others so_far reader below =
    elim (cases_lt reader place) [
      | inl less ↦
          let same : bit_at next reader ≡ bit_at word reader = others reader (omega arith) in
          (λ set. (so_far.before reader less).0 (sym same ∙ set), λ kept. same ∙ (so_far.before reader less).1 kept)
      | inr more ↦
          let place_is : place ≡ reader = omega arith in
          let P : ℕ → Type 0 = λ n. (bit_at next n ≡ 1) ↔ KeepsOut principals owner readers n in
          subst P place_is here
    ]

-- the next place is decided, and every other bit stays
pub kept_more : (principals : Declared) (owner : PrincipalId) (readers : List PrincipalId) (word next place : ℕ) →
    place < 63 → ((bit_at next place ≡ 1) ↔ KeepsOut principals owner readers place) →
    ((k : ℕ) → k ≢ place → bit_at next k ≡ bit_at word k) → KeptBelow principals owner readers word place →
    KeptBelow principals owner readers next (place + 1)
kept_more principals owner readers word next place place_in here others so_far = record {
  outsider = others 63 (omega arith) ∙ so_far.outsider;
  before = λ reader below. kept_before principals owner readers word next place here others so_far reader below;
  after = λ reader above below. others reader (omega arith) ∙ so_far.after reader (omega arith) below;
}

-- one who is not kept out leaves the word as it is
pub let_in : (principals : Declared) (owner : PrincipalId) (readers : List PrincipalId) (word place : ℕ) →
    place < 63 → ¬ KeepsOut principals owner readers place → KeptBelow principals owner readers word place →
    KeptBelow principals owner readers word (place + 1)
let_in principals owner readers word place place_in admitted so_far =
    kept_more principals owner readers word word place place_in
    (λ set. absurd (omega (arith, so_far.after place (omega arith) place_in)), λ kept. absurd (admitted kept))
    (λ k _. refl) so_far

-- every place is decided: the bits are those of the readers who are kept out
pub kept_all : OutsiderIsAlone →
    (principals : Declared) (owner : PrincipalId) (readers : List PrincipalId) (word place : ℕ) →
    IsDeclared principals → owner.0 < length principals.names →
    All (λ named. named.0 < length principals.names) readers → length principals.names ≤ place →
    place ≤ length principals.names → KeptBelow principals owner readers word place → (reader : ℕ) → reader < 64 →
    ((bit_at word reader ≡ 1) ↔ KeepsOut principals owner readers reader)
kept_all alone principals owner readers word place declared owner_in readers_in low high kept reader within =
    elim (cases_lt reader place) [
      | inl less ↦ kept.before reader less
      | inr more ↦ elim (cases_lt reader 63) [
        | inl no_reader ↦ (
          λ set. absurd (omega (arith, kept.after reader more no_reader)),
          λ out. absurd (not_a_reader out.is_reader no_reader more),
        )
        | inr last ↦
            let is : outsider ≡ reader = omega arith in
            let P : ℕ → Type 0 = λ n. (bit_at word n ≡ 1) ↔ KeepsOut principals owner readers n in
            subst P is (
              λ _. outsider_kept_out alone principals owner readers declared owner_in readers_in,
              λ _. kept.outsider,
            )
      ]
    ]
  where
    not_a_reader : IsReader principals reader → reader < 63 → place ≤ reader → ⊥
    not_a_reader (inl within) below above = omega (arith, within, above, low)
    not_a_reader (inr is) below above = omega (arith, is, below)

-- ---- the rows with one more policy

-- a row forbids what the old row or the policy forbids on behalf of the principal
abbrev pub RowAdds : ℕ → ℕ → Declared → PrincipalId → List PrincipalId → ℕ → Type 0
RowAdds old new principals owner readers q = (reader : ℕ) → reader < 64 →
    ((bit_at new reader ≡ 0) ↔ ((bit_at old reader ≡ 0) ⊎ PolicyForbids principals owner readers q reader))

-- the rows below a place have the policy, and those from there on are the old ones
pub record RowsBelow (old rows : List ℕ) (principals : Declared) (owner : PrincipalId) (readers : List PrincipalId)
    (place : ℕ) : Type 0 where
  pub long : length rows ≡ 63
  pub words : All (λ row. row < 2 ^ 64) old → All (λ row. row < 2 ^ 64) rows
  pub before : (q : ℕ) → q < place → RowAdds (get_or old q 0) (get_or rows q 0) principals owner readers q
  pub after : (q : ℕ) → place ≤ q → get_or rows q 0 ≡ get_or old q 0

-- the rows from the last principal on forbid nothing more, since the owner acts for nobody there
pub rows_with_policy : LeadsToDeclared →
    (old rows : List ℕ) (principals : Declared) (owner : PrincipalId) (readers : List PrincipalId) (place : ℕ) →
    IsDeclared principals → owner.0 < length principals.names → length principals.names ≤ place →
    RowsBelow old rows principals owner readers place → (q : ℕ) → q < 63 →
    RowAdds (get_or old q 0) (get_or rows q 0) principals owner readers q
rows_with_policy declared_too old rows principals owner readers place declared owner_in all below q within =
    elim (cases_lt q place) [
      | inl less ↦ below.before q less
      | inr more ↦
          λ reader reader_in.
          let same : bit_at (get_or rows q 0) reader ≡ bit_at (get_or old q 0) reader =
          ap (λ row. bit_at row reader) (below.after q more) in (
            λ clear. inl (sym same ∙ clear),
            λ either. elim either [
              | inl clear ↦ same ∙ clear
              | inr forbids ↦ absurd (omega (arith, declared_too principals owner.0 q declared owner_in forbids.0))
            ],
          )
    ]

pub only_policy : (free label : Label) (principals : Declared) (owner : PrincipalId) (readers : List PrincipalId) →
    ForbidsNothing free → AddsPolicy free label principals owner readers → IsPolicy label principals owner readers
only_policy free label principals owner readers nothing adds p r p_in r_in = (
  λ forbids. elim ((adds p r p_in r_in).0 forbids) [ inl old ↦ absurd (nothing p r p_in r_in old) | inr new ↦ new ],
  λ forbids. (adds p r p_in r_in).1 (inr forbids),
)

-- the owner acts for the principal of this row: what the policy keeps out is taken from it
pub row_more : (principals : Declared) (owner : PrincipalId) (readers : List PrincipalId) (q row forbidden next : ℕ) →
    ActsFor principals owner.0 q →
    ((reader : ℕ) → reader < 64 → ((bit_at forbidden reader ≡ 1) ↔ KeepsOut principals owner readers reader)) →
    ((k : ℕ) → k < 64 → bit_at next k ≡ min (bit_at row k) (1 - bit_at forbidden k)) →
    RowAdds row next principals owner readers q
row_more principals owner readers q row forbidden next acts kept without reader within = (there, back)
  where
    there : bit_at next reader ≡ 0 → (bit_at row reader ≡ 0) ⊎ PolicyForbids principals owner readers q reader
    there clear = elim (cases_lt (bit_at row reader) 1) [
      | inl less ↦ inl (omega arith)
      | inr more ↦ inr (acts, (kept reader within).0 (omega (arith, without reader within, clear)))
    ]

    back : (bit_at row reader ≡ 0) ⊎ PolicyForbids principals owner readers q reader → bit_at next reader ≡ 0
    back (inl clear) = omega (arith, without reader within, clear)
    back (inr forbids) = omega (arith, without reader within, (kept reader within).1 forbids.1)

-- the owner does not: the policy forbids nothing on behalf of the principal
pub row_stays : (principals : Declared) (owner : PrincipalId) (readers : List PrincipalId) (q row : ℕ) →
    ¬ ActsFor principals owner.0 q → RowAdds row row principals owner readers q
row_stays principals owner readers q row other reader within =
    (λ clear. inl clear, λ either. elim either [ inl clear ↦ clear | inr forbids ↦ absurd (other forbids.0) ])

pub rows_more : (old rows : List ℕ) (principals : Declared) (owner : PrincipalId) (readers : List PrincipalId)
    (place next : ℕ) → place < 63 → next < 2 ^ 64 →
    RowAdds (get_or rows place 0) next principals owner readers place →
    RowsBelow old rows principals owner readers place →
    RowsBelow old (set rows place next) principals owner readers (place + 1)
rows_more old rows principals owner readers place next within fits adds so_far = record {
  long = length-set rows place next ∙ so_far.long;
  words = λ old_words. All-set (λ row. row < 2 ^ 64) rows place next fits (so_far.words old_words);
  before = before;
  after = λ q above. get_or-set_other rows place q next 0 (λ same. omega (arith, above, same))
      ∙ so_far.after q (omega arith);
}
  where
    P : ℕ → ℕ → Type 0
    P q row = RowAdds (get_or old q 0) row principals owner readers q

    before : (q : ℕ) → q < place + 1 →
        RowAdds (get_or old q 0) (get_or (set rows place next) q 0) principals owner readers q
    before q below = elim (cases_lt q place) [
      | inl less ↦
          let Q : ℕ → Type 0 = λ row. P q row in
          subst Q (sym (get_or-set_other rows place q next 0 (λ same. omega (arith, less, same))))
          (so_far.before q less)
      | inr more ↦
          let at : place ≡ q = omega arith in
          let Q : ℕ → Type 0 = λ n. RowAdds (get_or old n 0) (get_or (set rows place next) n 0) principals owner
          readers n in
          let R : ℕ → Type 0 = λ row. RowAdds (get_or old place 0) row principals owner readers place in
          let S : ℕ → Type 0 = λ row. RowAdds row next principals owner readers place in
          subst Q at (subst R (sym (get_or-set_same rows place next 0 (omega (arith, within, so_far.long))))
          (subst S (so_far.after place (omega arith)) adds))
    ]

pub rows_stay : (old rows : List ℕ) (principals : Declared) (owner : PrincipalId) (readers : List PrincipalId)
    (place : ℕ) → ¬ ActsFor principals owner.0 place → RowsBelow old rows principals owner readers place →
    RowsBelow old rows principals owner readers (place + 1)
rows_stay old rows principals owner readers place other so_far = record {
  long = so_far.long;
  words = so_far.words;
  before = before;
  after = λ q above. so_far.after q (omega arith);
}
  where
    before : (q : ℕ) → q < place + 1 → RowAdds (get_or old q 0) (get_or rows q 0) principals owner readers q
    before q below = elim (cases_lt q place) [
      | inl less ↦ so_far.before q less
      | inr more ↦
          let at : place ≡ q = omega arith in
          let Q : ℕ → Type 0 = λ n. RowAdds (get_or old n 0) (get_or rows n 0) principals owner readers n in
          let S : ℕ → Type 0 = λ row. RowAdds row (get_or rows place 0) principals owner readers place in
          subst Q at (subst S (so_far.after place (omega arith))
          (row_stays principals owner readers place (get_or rows place 0) other))
    ]

-- ---- a principal who acts for none of some others

abbrev pub NoneBelow : Declared → ℕ → List PrincipalId → ℕ → Type 0
NoneBelow principals p others place = (k : ℕ) (d : PrincipalId) → k < place →
    ¬ ActsFor principals p (get_or others k d).0

pub none_more : (principals : Declared) (p : ℕ) (others : List PrincipalId) (place : ℕ) (e : PrincipalId) →
    place < length others → ¬ ActsFor principals p (get_or others place e).0 → NoneBelow principals p others place →
    NoneBelow principals p others (place + 1)
none_more principals p others place e within other so_far k d below = elim (cases_lt k place) [
  | inl less ↦ so_far k d less
  | inr more ↦
      let at : place ≡ k = omega arith in
      let P : ℕ → Type 0 = λ n. ¬ ActsFor principals p (get_or others n d).0 in
      let Q : PrincipalId → Type 0 = λ m. ¬ ActsFor principals p m.0 in
      subst P at (subst Q (get_or_default others place e d within) other)
]
