-- A part is sound, or refused for a cause that is no want of memory: what an entry leads to is found by walks as those
-- of the code, and each thing that an instruction names or shows can be decided.
use Rattle.std.proofs.Common.{◌≡◌, ◌≢◌, ◌⊎◌, ◌∙◌, ◌<◌, ◌≤◌, ◌+◌, ◌*◌, ℕ, zero, suc, List, [], ◌∷◌, ◌++◌, length, ap}
use Rattle.std.proofs.Common.{sym, subst, inl, inr, refl, arith, bit_and, get_or, replicate}
use Rattle.std.specs.Prelude.{true, false, Option, Some, None, slice_get, slice_index, slice_set}
use Rattle.std.specs.List.{AllByRecursion}
use Rattle.std.specs.Int.{bit_at}
use Rattle.std.proofs.lemmas.Bool.{cases_eq, cases_lt, false≢true, true≢false}
use Rattle.std.proofs.lemmas.List.{length-append, length-replicate, length-set, get_or_past}
use Rattle.std.proofs.lemmas.Nat.Bits.{bit_at-zero}
use Rattle.std.proofs.lemmas.Option.{slice_get_cases, slice_get_within}
use Rattle.js_base.specs.declared.bits.TheConstants.{WORD_BITS}
use Rattle.js_base.specs.declared.ids.HostId.{HostId}
use Rattle.js_base.specs.declared.ids.FieldId.{FieldId}
use Rattle.js_base.specs.declared.ids.VarId.{VarId}
use Rattle.js_base.specs.declared.ids.EntryId.{EntryId}
use Rattle.js_base.specs.Bits.{BitsWithin}
use Rattle.js_base.proofs.Decisions.{Decided, all_below, both, implied, never}
use Rattle.label_lattice.specs.declared.label.Label.{Label}
use Rattle.host_code.specs.declared.code.Entry.{Entry}
use Rattle.host_code.specs.declared.instruction.Instr.{Instr}
use Rattle.host_code.specs.declared.instruction.Op.{Op}
use Rattle.host_code.specs.declared.instruction.Op.TheVariants as op
use Rattle.host_code.specs.Code.{CodeShape, halt, part_of, instruction_at}
use Rattle.host_code.specs.Code.{entry_at, field_at, variable_at}
use Rattle.entry_check.specs.Checks.{label_at, label_of_host}
use Rattle.entry_check.proofs.Decisions.{may_see, same_host, some_and}
use Rattle.part_verify.specs.declared.errors.VerifyError.{VerifyError}
use Rattle.part_verify.specs.declared.errors.VerifyError.TheVariants.{OutOfMemory, WeakEntry, Reveals}
use Rattle.part_verify.specs.Paths.{goes_on}
use Rattle.part_verify.specs.SoundPart.{LabelWithin, EntryWithin, FieldWithin, VariableWithin, NamesWithin, IsSeenBy}
use Rattle.part_verify.specs.SoundPart.{SeesVariable, ShowsVariable, ShowsWell, AreNeedsKept, IsSoundPart}
use Rattle.part_verify.specs.Bounds.{IsBounded, Found}
use Rattle.part_verify.specs.Refusing.{IsPartRefusedFor, RevealsAt}
use Rattle.part_verify.proofs.Within.{all_set}
use Rattle.part_verify.proofs.Walks.{IsWalk, open_places, starts, skips, visits, visit_ends, ends}
use Rattle.part_verify.proofs.Needs.{ArePassed, bounds_begin, none_passed, all_passed, passed_elsewhere, passed_here}
use Rattle.part_verify.proofs.Needs.{refused_here}

-- ---- what is named

-- what holds of a thing that was found, where one was
if_found : {X : Type 0} (P : X → Type 0) → ((x : X) → Decided (P x)) → (found : Option X) →
    Decided ((x : X) → found ≡ Some x → P x)
if_found P each None = inl (λ x is. absurd (let never : ⊥ = cc in never))
if_found P each (Some y) = elim (each y) [
  | inl holds ↦ inl (λ x is. let same : y ≡ x = cc in subst P same holds)
  | inr not ↦ inr (λ all. not (all y refl))
]

for_each : {X : Type 0} (P : X → Type 0) → ((x : X) → Decided (P x)) → (xs : List X) → Decided (AllByRecursion P xs)
for_each P each [] = inl tt
for_each P each (x ∷ xs) = both _ _ (each x) (for_each P each xs)

at_most : (m n : ℕ) → Decided (m ≤ n)
at_most m n = elim (cases_lt n m) [
  | inl more ↦ inr (λ few. omega (arith, more, few))
  | inr few ↦ inl (omega (arith, few))
]

within : (inner outer : ℕ) → Decided (BitsWithin inner outer)
within inner outer =
    all_below WORD_BITS (λ k. bit_at inner k ≤ bit_at outer k) (λ k. at_most (bit_at inner k) (bit_at outer k))

module _ (code : CodeShape) (need : ℕ) where
  label_within : (label : ℕ) → Decided (LabelWithin code need label)
  label_within label =
      if_found (λ there. BitsWithin there.trust need) (λ there. within there.trust need) (label_at code label)

  entry_within : (entry : EntryId) → Decided (EntryWithin code need entry)
  entry_within entry =
      if_found (λ there. BitsWithin there.need need) (λ there. within there.need need) (entry_at code entry)

  field_within : (field : FieldId) → Decided (FieldWithin code need field)
  field_within field =
      if_found (λ there. LabelWithin code need there.label) (λ there. label_within there.label) (field_at code field)

  variable_within : (variable : VarId) → Decided (VariableWithin code need variable)
  variable_within variable =
      if_found (λ there. LabelWithin code need there.label) (λ there. label_within there.label)
      (variable_at code variable)

  riders_within : (riders : List VarId) → Decided (AllByRecursion (VariableWithin code need) riders)
  riders_within riders = for_each (VariableWithin code need) variable_within riders

  names_within : (does : Op) → Decided (NamesWithin code need does)
  names_within (op.Read field index) = inl tt
  names_within (op.Let variable value) = variable_within variable
  names_within (op.Put field index value) = field_within field
  names_within (op.Send variable to) = variable_within variable
  names_within (op.Frame site) = inl tt
  names_within (op.Arg variable value) = variable_within variable
  names_within (op.Pass variable to) = variable_within variable
  names_within (op.Push entry) = entry_within entry
  names_within (op.Ask entry on) = entry_within entry
  names_within (op.Go entry on) = entry_within entry
  names_within (op.Call entry on) = entry_within entry
  names_within (op.Ret variable value) = variable_within variable
  names_within op.Back = inl tt
  names_within (op.Branch guard target) = inl tt
  names_within (op.GoWith entry on riders) = both _ _ (entry_within entry) (riders_within riders)
  names_within (op.CallWith entry on riders) = both _ _ (entry_within entry) (riders_within riders)

-- ---- what is shown

module _ (code : CodeShape) (me : HostId) (label : ℕ) where
  seen_by : (other : ℕ) (host : HostId) → Decided (IsSeenBy code other host)
  seen_by other host = may_see (label_at code other) (label_of_host code host)

  sees_variable : (host : HostId) (variable : VarId) → Decided (SeesVariable code host variable)
  sees_variable host variable =
      some_and (λ there. IsSeenBy code there.label host) (λ there. seen_by there.label host) (variable_at code variable)

  shows_variable : (variable : VarId) (to : HostId) → Decided (ShowsVariable code label variable to)
  shows_variable variable to = both _ _ (seen_by label to) (sees_variable to variable)

  shows_well : (does : Op) → Decided (ShowsWell code me label does)
  shows_well (op.Read field index) =
      some_and (λ there. there.host ≢ me → IsSeenBy code label there.host)
      (λ there. implied _ _ (never _ (same_host there.host me)) (seen_by label there.host)) (field_at code field)
  shows_well (op.Let variable value) = inl tt
  shows_well (op.Put field index value) =
      some_and (λ there. there.host ≢ me → (IsSeenBy code label there.host × IsSeenBy code there.label there.host))
      (λ there. implied _ _ (never _ (same_host there.host me))
      (both _ _ (seen_by label there.host) (seen_by there.label there.host))) (field_at code field)
  shows_well (op.Send variable to) = shows_variable variable to
  shows_well (op.Frame site) = inl tt
  shows_well (op.Arg variable value) = inl tt
  shows_well (op.Pass variable to) = shows_variable variable to
  shows_well (op.Push entry) = inl tt
  shows_well (op.Ask entry on) = seen_by label on
  shows_well (op.Go entry on) = seen_by label on
  shows_well (op.Call entry on) = implied _ _ (never _ (same_host on me)) (seen_by label on)
  shows_well (op.Ret variable value) = inl tt
  shows_well op.Back = inl tt
  shows_well (op.Branch guard target) = inl tt
  shows_well (op.GoWith entry on riders) =
      both _ _ (seen_by label on) (for_each (SeesVariable code on) (sees_variable on) riders)
  shows_well (op.CallWith entry on riders) =
      both _ _ (seen_by label on) (for_each (SeesVariable code on) (sees_variable on) riders)

-- ---- a walk

-- a list has a last item, or none
last_of : (work : List ℕ) → (work ≡ []) ⊎ ((front : List ℕ) × (last : ℕ) × (work ≡ front ++ last ∷ []))
last_of [] = inl refl
last_of (first ∷ work) = elim (last_of work) [
  | inl empty ↦ inr ([], first, ap (λ (l : List ℕ). first ∷ l) empty)
  | inr (front, last, is) ↦ inr (first ∷ front, last, ap (λ (l : List ℕ). first ∷ l) is)
]

module _ (code : CodeShape) (me : HostId) (at need : ℕ) where
  -- what a walk has found, with the bounds that it leaves
  abbrev Walked : Type 0
  Walked = (least : Option ℕ) × (bound : List ℕ) × (length bound ≡ length (part_of code me))
      × Found code me at need least bound

  past_closed : (bound : List ℕ) (place : ℕ) → length bound ≤ place → BitsWithin (slice_index bound place) need
  past_closed bound place past =
      subst (λ word. BitsWithin word need) (sym (get_or_past bound place 0 past))
      (λ k below. omega (arith, bit_at-zero k))

  walked : (fuel : ℕ) (bound work : List ℕ) (least : Option ℕ) → length bound ≡ length (part_of code me) →
      3 * open_places need bound + length work < fuel → IsWalk code me at need bound work least → Walked
  walked zero bound work least long few walk = absurd (omega (arith, few))
  walked (suc fuel) bound work least long few walk = elim (last_of work) [
    | inl empty ↦ (
      least,
      bound,
      long,
      ends code me at need bound least
          (subst (λ (l : List ℕ). IsWalk code me at need bound l least) empty walk),
    )
    | inr (front, place, is) ↦
        let here : IsWalk code me at need bound (front ++ place ∷ []) least =
        subst (λ (l : List ℕ). IsWalk code me at need bound l least) is walk in
        let many : length work ≡ length front + 1 = ap length is ∙ length-append front (place ∷ []) in
        elim (within (slice_index bound place) need) [
          | inl closed ↦ walked fuel bound front least long (omega (arith, few, many))
              (skips code me at need bound front place least closed here)
          | inr opens ↦ elim (slice_get_cases (part_of code me) place).1 [
            | inl (one, lt, there, read) ↦
                let inside : place < length bound = omega (arith, lt, long) in
                let new = slice_set bound place (bit_and (slice_index bound place) need) in
                let same : length new ≡ length (part_of code me) =
                length-set bound place (bit_and (slice_index bound place) need) ∙ long in
                let fewer = visit_ends need bound place one.op front new (front ++ goes_on one.op place) work inside
                opens refl refl is in
                elim (names_within code need one.op) [
                  | inl names ↦ walked fuel new (front ++ goes_on one.op place) least same (omega (arith, few, fewer))
                      (visits code me at need bound front place least one false inside there
                      (λ impossible. absurd (false≢true impossible)) (λ told. names) here)
                  | inr more ↦ walked fuel new (front ++ goes_on one.op place) _ same (omega (arith, few, fewer))
                      (visits code me at need bound front place least one true inside there (λ told. more)
                      (λ impossible. absurd (true≢false impossible)) here)
                ]
            | inr (past, none) ↦ absurd (opens (past_closed bound place (omega (arith, past, long))))
          ]
        ]
  ]

-- ---- entries

module _ (code : CodeShape) (me : HostId) where
  abbrev Refused : Type 0
  Refused = (why : VerifyError) × (why ≢ OutOfMemory) × IsPartRefusedFor code me why

  abbrev AreBounds : List ℕ → Type 0
  AreBounds bound = (length bound ≡ length (part_of code me)) × IsBounded code me bound

  -- the entries below the number pass, with bounds of all that they lead to, or the part is refused
  abbrev Checked : ℕ → Type 0
  Checked number = ((bound : List ℕ) × AreBounds bound × ArePassed code me number) ⊎ Refused

  entry_checked : (number : ℕ) (entry : Entry) → slice_get code.entries number ≡ Some entry → 0 < number →
      entry.host ≡ me → ArePassed code me number → Walked code me entry.at entry.need → Checked (number + 1)
  entry_checked number entry found some here passed (None, bound, long, kept) =
      inl (bound, (long, kept.0), passed_here code me number entry found bound kept passed)
  entry_checked number entry found some here passed (Some place, bound, long, weak) =
      let this : EntryId = record { 0 = number } in
      let not_halt : this ≢ halt = λ same. let none : number ≡ 0 = ap (λ (e : EntryId). e.0) same in
      omega (arith, some, none) in
      inr (
        WeakEntry this place,
        λ same. cc,
        refused_here code me number entry found place bound not_halt here weak passed,
      )

  next : (number : ℕ) → Checked (number + 1) → Checked (suc number)
  next number = let same : number + 1 ≡ suc number = omega arith in subst Checked same

  entries_checked : (count : ℕ) → count < length code.entries → Checked (suc count)
  entries_checked zero some =
      let many = length (part_of code me) in
      inl (replicate many all_set, (length-replicate many all_set, bounds_begin code me many refl), none_passed code me)
  entries_checked (suc count) some = elim (entries_checked count (omega (arith, some))) [
    | inr refused ↦ inr refused
    | inl (bound, bounds, passed) ↦ elim (slice_get_cases code.entries (suc count)).1 [
      | inr (past, none) ↦ absurd (omega (arith, some, past))
      | inl (entry, lt, found, read) ↦ elim (same_host entry.host me) [
        | inr elsewhere ↦ next (suc count)
            (inl (bound, bounds, passed_elsewhere code me (suc count) entry found elsewhere passed))
        | inl here ↦ next (suc count) (entry_checked (suc count) entry found (omega arith) here passed
            (walked code me entry.at entry.need (3 * open_places entry.need bound + 2) bound (entry.at ∷ []) None
            bounds.0 (omega arith) (starts code me entry.at entry.need bound bounds.1)))
      ]
    ]
  ]

  needs_checked : (many : ℕ) → length code.entries ≡ many → AreNeedsKept code me ⊎ Refused
  needs_checked zero is = inl (all_passed code me 1 (omega (arith, is)) (none_passed code me))
  needs_checked (suc count) is = elim (entries_checked count (omega (arith, is))) [
    | inl (bound, bounds, passed) ↦ inl (all_passed code me (suc count) (omega (arith, is)) passed)
    | inr refused ↦ inr refused
  ]

  -- ---- places

  -- the instructions below the place show well, or the first that does not is told
  abbrev Shown : ℕ → Type 0
  Shown count = ((place : ℕ) (one : Instr) → place < count → instruction_at code me place ≡ Some one →
      ShowsWell code me one.label one.op)
      ⊎ ((place : ℕ) × RevealsAt code me place × ((other : ℕ) → other < place → ¬ RevealsAt code me other))

  one_more : (count : ℕ) → ((place : ℕ) (one : Instr) → place < count → instruction_at code me place ≡ Some one →
      ShowsWell code me one.label one.op) → ((one : Instr) → instruction_at code me count ≡ Some one →
      ShowsWell code me one.label one.op) → (place : ℕ) (one : Instr) → place < suc count →
      instruction_at code me place ≡ Some one → ShowsWell code me one.label one.op
  one_more count before here place one below is = elim (cases_eq place count) [
    | inl same ↦ here one (subst (λ n. instruction_at code me n ≡ Some one) same is)
    | inr apart ↦ before place one (omega (arith, below, apart)) is
  ]

  shown : (count : ℕ) → Shown count
  shown zero = inl (λ place one below is. absurd (omega (arith, below)))
  shown (suc count) = elim (shown count) [
    | inr reveals ↦ inr reveals
    | inl before ↦ elim (if_found (λ one. ShowsWell code me one.label one.op)
        (λ one. shows_well code me one.label one.op) (instruction_at code me count)) [
          | inl here ↦ inl (one_more count before here)
          | inr not ↦ elim (slice_get_cases (part_of code me) count).1 [
            | inl (one, lt, there, read) ↦ elim (shows_well code me one.label one.op) [
              | inl well ↦ absurd (not (λ other is. let same : one ≡ other =
                  let both : Some one ≡ Some other = sym there ∙ is in cc in
                  subst (λ (i : Instr). ShowsWell code me i.label i.op) same well))
              | inr bad ↦ inr (
                count,
                (one, there, bad),
                λ other below reveals. reveals.2 (before other reveals.0 below reveals.1),
              )
            ]
            | inr (past, none) ↦ absurd (not (λ other is.
                let never : None ≡ Some other = sym none ∙ is in absurd (let no : ⊥ = cc in no)))
          ]
        ]
  ]

  all_shown : AreNeedsKept code me → IsSoundPart code me ⊎ Refused
  all_shown kept = elim (shown (length (part_of code me))) [
    | inl well ↦ inl (record {
      needs = kept;
      shows = λ place one is. well place one (slice_get_within (part_of code me) place one is) is;
    })
    | inr (place, reveals, first) ↦ inr (Reveals place, λ same. cc, (kept, reveals, first))
  ]

pub sound_or_refused : (code : CodeShape) (me : HostId) → IsSoundPart code me
    ⊎ ((why : VerifyError) × (why ≢ OutOfMemory) × IsPartRefusedFor code me why)
sound_or_refused code me = elim (needs_checked code me (length code.entries) refl) [
  | inl kept ↦ all_shown code me kept
  | inr refused ↦ inr refused
]
