-- A walk over the instructions that an entry leads to, with a bound for each place.
use Rattle.std.proofs.Common.{◌≡◌, ◌≢◌, ◌<◌, ◌≤◌, ◌+◌, ◌*◌, ◌⊎◌, ◌∙◌, ℕ, zero, suc, List, [], ◌∷◌, ◌++◌, length, refl}
use Rattle.std.proofs.Common.{ap, sym, subst, inl, inr, arith, bit_and}
use Rattle.std.specs.Prelude.{Bool, true, false, not, IsTrue, ◌↔◌, if◌then◌else◌, ◌==◌, nat_lt, Option, Some, None}
use Rattle.std.specs.Prelude.{IfSome, slice_index, slice_set, Contains}
use Rattle.std.specs.List.{sum_by}
use Rattle.std.specs.Int.Bits.{and_self}
use Rattle.std.proofs.Math.Nat.{le_refl}
use Rattle.std.proofs.lemmas.Nat.{and_assoc}
use Rattle.std.proofs.lemmas.Bool.{ltb-true, ltb-false, false≢true}
use Rattle.std.proofs.lemmas.Bool.Decides.{eqb_tells}
use Rattle.std.proofs.lemmas.List.{get_or-set_same, get_or-set_other, length-append}
use Rattle.std.proofs.lemmas.List.Sums.{sum_by-set}
use Rattle.std.proofs.lemmas.List.Elements.{Contains-push, Contains-push_cases, Contains-append_left}
use Rattle.std.proofs.lemmas.List.Elements.{Contains-append_right, Contains-append_cases}
use Rattle.js_base.specs.declared.ids.HostId.{HostId}
use Rattle.js_base.specs.Bits.{BitsWithin}
use Rattle.js_base.proofs.BitLemmas.{within_from_and}
use Rattle.host_code.specs.declared.instruction.Instr.{Instr}
use Rattle.host_code.specs.declared.instruction.Op.{Op}
use Rattle.host_code.specs.declared.instruction.Op.TheVariants as op
use Rattle.host_code.specs.Code.{CodeShape, instruction_at}
use Rattle.part_verify.specs.Paths.{IsEdge, PathLeads, LeadsIn, goes_on}
use Rattle.part_verify.specs.SoundPart.{NamesWithin}
use Rattle.part_verify.specs.Bounds.{IsBounded, NamesMore, Found, lesser}
use Rattle.part_verify.proofs.Within.{within_itself, within_through, common_in_first, common_in_second, in_common}
use Rattle.part_verify.proofs.Within.{names_in_larger, names_in_common}

-- ---- how much is left to visit

-- one for a bound that is not within the need
abbrev pub is_open : ℕ → ℕ → ℕ
is_open need word = if bit_and word need == word then 0 else 1

abbrev pub open_places : ℕ → List ℕ → ℕ
open_places need bound = sum_by (is_open need) bound

open_before : (need word : ℕ) → ¬ BitsWithin word need → is_open need word ≡ 1
open_before need word not = elim (eqb_tells (bit_and word need) word) [
  | inl same ↦ absurd (not (within_from_and word need same.1))
  | inr apart ↦ ap (λ b. if b then 0 else 1) apart.0
]

closed_behind : (need word : ℕ) → is_open need (bit_and word need) ≡ 0
closed_behind need word =
    let same : bit_and (bit_and word need) need ≡ bit_and word need =
    and_assoc need word need ∙ ap (bit_and word) (and_self need) in
    elim (eqb_tells (bit_and (bit_and word need) need) (bit_and word need)) [
      | inl is ↦ ap (λ b. if b then 0 else 1) is.0
      | inr apart ↦ absurd (apart.1 same)
    ]

goes_few : (does : Op) (place : ℕ) → length (goes_on does place) ≤ 2
goes_few (op.Read field index) place = omega arith
goes_few (op.Let variable value) place = omega arith
goes_few (op.Put field index value) place = omega arith
goes_few (op.Send variable to) place = omega arith
goes_few (op.Frame site) place = omega arith
goes_few (op.Arg variable value) place = omega arith
goes_few (op.Pass variable to) place = omega arith
goes_few (op.Push entry) place = omega arith
goes_few (op.Ask entry on) place = omega arith
goes_few (op.Go entry on) place = omega arith
goes_few (op.Call entry on) place = omega arith
goes_few (op.Ret variable value) place = omega arith
goes_few op.Back place = omega arith
goes_few (op.Branch guard target) place = omega arith
goes_few (op.GoWith entry on riders) place = omega arith
goes_few (op.CallWith entry on riders) place = omega arith

-- a visit closes a place, and opens none
fewer_open : (need : ℕ) (bound : List ℕ) (place : ℕ) → place < length bound →
    ¬ BitsWithin (slice_index bound place) need →
    open_places need (slice_set bound place (bit_and (slice_index bound place) need)) + 1 ≡ open_places need bound
fewer_open need bound place within not =
    omega (
      arith,
      sum_by-set (is_open need) bound place (bit_and (slice_index bound place) need) 0 within,
      open_before need (slice_index bound place) not,
      closed_behind need (slice_index bound place),
    )

-- a visit pushes two places at most
pub visit_ends : (need : ℕ) (bound : List ℕ) (place : ℕ) (does : Op) (work new_bound new_work old_work : List ℕ) →
    place < length bound → ¬ BitsWithin (slice_index bound place) need →
    new_bound ≡ slice_set bound place (bit_and (slice_index bound place) need) → new_work ≡ work ++ goes_on does place →
    old_work ≡ work ++ place ∷ [] →
    3 * open_places need new_bound + length new_work < 3 * open_places need bound + length old_work
visit_ends need bound place does work new_bound new_work old_work within not lowered pushed popped =
    omega (
      arith,
      ap (open_places need) lowered,
      fewer_open need bound place within not,
      goes_few does place,
      ap length pushed ∙ length-append work (goes_on does place),
      ap length popped ∙ length-append work (place ∷ []),
    )

-- ---- the walk

abbrev pub IsUpTo : Option ℕ → ℕ → Type 0
IsUpTo None place = ⊥
IsUpTo (Some least) place = least ≤ place

-- what is within the bound of the next place and within the need is within the bound of the place
abbrev pub IsMetIn : List ℕ → ℕ → ℕ → ℕ → Type 0
IsMetIn bound need next place = (word : ℕ) → BitsWithin word (slice_index bound next) → BitsWithin word need →
    BitsWithin word (slice_index bound place)

-- Each bound has what is named at its place, where that is no place past the least that was found. It has the bounds of
-- the places where it goes on, unless these wait to be visited; then it will.
pub record IsWalk (code : CodeShape) (me : HostId) (at need : ℕ) (bound work : List ℕ) (least : Option ℕ) :
    Type 0 where
  pub named : (place : ℕ) (one : Instr) → instruction_at code me place ≡ Some one →
      NamesWithin code (slice_index bound place) one.op ⊎ IsUpTo least place
  pub behind : (place next : ℕ) → IsEdge code me place next →
      BitsWithin (slice_index bound next) (slice_index bound place)
      ⊎ (Contains work next × IsMetIn bound need next place)
  pub begun : BitsWithin (slice_index bound at) need ⊎ Contains work at
  pub led : (place : ℕ) → Contains work place → PathLeads code me at place
  pub least_is : IfSome least (λ place. PathLeads code me at place × NamesMore code me need place)

one_more : (code : CodeShape) (me : HostId) (from before to : ℕ) → PathLeads code me from before →
    IsEdge code me before to → PathLeads code me from to
one_more code me from before to leads edge = (suc leads.0, (before, leads.1, edge))

none_there : (n : ℕ) → Contains [] n → ⊥
none_there n has = omega (arith, has.1)

-- ---- the least so far

up_to_here : (least : Option ℕ) (place : ℕ) → IsUpTo (lesser least place true) place
up_to_here None place = le_refl place
up_to_here (Some other) place = by_case (nat_lt other place) refl
  where
    by_case : (b : Bool) → nat_lt other place ≡ b → IsUpTo (if b then Some other else Some place) place
    by_case true is = omega (arith, ltb-true other place is)
    by_case false is = le_refl place

still_up_to : (least : Option ℕ) (place at : ℕ) (counts : Bool) → IsUpTo least at →
    IsUpTo (lesser least place counts) at
still_up_to least place at false upto = upto
still_up_to (Some other) place at true upto = by_case (nat_lt other place) refl
  where
    by_case : (b : Bool) → nat_lt other place ≡ b → IsUpTo (if b then Some other else Some place) at
    by_case true is = upto
    by_case false is = omega (arith, ltb-false other place is, upto)
still_up_to None place at true upto = absurd upto

least_has : (P : ℕ → Type 0) (least : Option ℕ) (place : ℕ) → IfSome least P → P place →
    IfSome (lesser least place true) P
least_has P None place old new = new
least_has P (Some other) place old new = by_case (nat_lt other place)
  where
    by_case : (b : Bool) → IfSome (if b then Some other else Some place) P
    by_case true = old
    by_case false = new

module _ (code : CodeShape) (me : HostId) (at need : ℕ) where
  -- ---- the start

  pub starts : (bound : List ℕ) → IsBounded code me bound → IsWalk code me at need bound (at ∷ []) None
  starts bound bounds = record {
    named = λ place one is. inl (bounds.named place one is);
    behind = λ place next edge. inl (bounds.behind place next edge);
    begun = inr (Contains-push [] at);
    led = λ place has. elim (Contains-push_cases [] at place has) [
      | inl none ↦ absurd (none_there place none)
      | inr same ↦ (0, same)
    ];
    least_is = tt;
  }

  -- ---- a place that is skipped

  pub skips : (bound work : List ℕ) (place : ℕ) (least : Option ℕ) → BitsWithin (slice_index bound place) need →
      IsWalk code me at need bound (work ++ place ∷ []) least → IsWalk code me at need bound work least
  skips bound work place least closed w = record {
    named = w.named;
    behind = λ from next edge. elim (w.behind from next edge) [
      | inl within ↦ inl within
      | inr waits ↦ elim (Contains-push_cases work place next waits.0) [
        | inl still ↦ inr (still, waits.1)
        | inr same ↦ inl (waits.1 (slice_index bound next) (within_itself (slice_index bound next))
            (subst (λ n. BitsWithin (slice_index bound n) need) same closed))
      ]
    ];
    begun = elim (w.begun) [
      | inl within ↦ inl within
      | inr waits ↦ elim (Contains-push_cases work place at waits) [
        | inl still ↦ inr still
        | inr same ↦ inl (subst (λ n. BitsWithin (slice_index bound n) need) same closed)
      ]
    ];
    led = λ other has. w.led other (Contains-append_left work (place ∷ []) other has);
    least_is = w.least_is;
  }

  -- ---- a place that is visited

  module _ (bound work : List ℕ) (place : ℕ) (least : Option ℕ) (one : Instr) (counts : Bool)
      (within : place < length bound) (there : instruction_at code me place ≡ Some one)
      (more : counts ≡ true → ¬ NamesWithin code need one.op) (no_more : counts ≡ false → NamesWithin code need one.op)
      (w : IsWalk code me at need bound (work ++ place ∷ []) least) where
    abbrev old : ℕ
    old = slice_index bound place

    abbrev new : List ℕ
    new = slice_set bound place (bit_and old need)

    here : slice_index new place ≡ bit_and old need
    here = get_or-set_same bound place (bit_and old need) 0 within

    elsewhere : (n : ℕ) → n ≢ place → slice_index new n ≡ slice_index bound n
    elsewhere n apart = get_or-set_other bound place n (bit_and old need) 0 apart

    here_in_need : BitsWithin (slice_index new place) need
    here_in_need = subst (λ k. BitsWithin k need) (sym here) (common_in_second old need)

    here_in_old : BitsWithin (slice_index new place) old
    here_in_old = subst (λ k. BitsWithin k old) (sym here) (common_in_first old need)

    falls : (n : ℕ) → BitsWithin (slice_index new n) (slice_index bound n)
    falls n = elim (eqb_tells n place) [
      | inl same ↦ subst (λ k. BitsWithin (slice_index new k) (slice_index bound k)) (sym same.1) here_in_old
      | inr apart ↦ subst (λ k. BitsWithin k (slice_index bound n)) (sym (elsewhere n apart.1))
          (within_itself (slice_index bound n))
    ]

    -- what has the old bound and the need has the new bound
    in_here : (word : ℕ) → BitsWithin word old → BitsWithin word need → BitsWithin word (slice_index new place)
    in_here word in_old in_need = subst (BitsWithin word) (sym here) (in_common word old need in_old in_need)

    named_here : (told : Bool) → counts ≡ told →
        NamesWithin code (slice_index new place) one.op ⊎ IsUpTo (lesser least place told) place
    named_here true is = inr (up_to_here least place)
    named_here false is = elim (w.named place one there) [
      | inl names ↦ inl (subst (λ k. NamesWithin code k one.op) (sym here)
          (names_in_common code old need one.op names (no_more is)))
      | inr upto ↦ inr upto
    ]

    least_here : (told : Bool) → counts ≡ told →
        IfSome (lesser least place told) (λ k. PathLeads code me at k × NamesMore code me need k)
    least_here false is = w.least_is
    least_here true is = least_has (λ k. PathLeads code me at k × NamesMore code me need k) least place w.least_is
        (w.led place (Contains-push work place), (one, there, more is))

    pub visits : IsWalk code me at need new (work ++ goes_on one.op place) (lesser least place counts)
    visits = record {
      named = λ from found is. elim (eqb_tells from place) [
        | inl same ↦
            let is_here : instruction_at code me place ≡ Some found =
            subst (λ n. instruction_at code me n ≡ Some found) same.1 is in
            let alike : one ≡ found = let both : Some one ≡ Some found = sym there ∙ is_here in cc in
            subst (λ (s : Instr). NamesWithin code (slice_index new from) s.op
            ⊎ IsUpTo (lesser least place counts) from)
            alike
            (subst (λ n. NamesWithin code (slice_index new n) one.op ⊎ IsUpTo (lesser least place counts) n)
            (sym same.1) (named_here counts refl))
        | inr apart ↦ elim (w.named from found is) [
          | inl names ↦ inl (subst (λ k. NamesWithin code k found.op) (sym (elsewhere from apart.1)) names)
          | inr upto ↦ inr (still_up_to least place from counts upto)
        ]
      ];
      behind = λ from next edge. elim (eqb_tells from place) [
        | inl same ↦
            let edge_here : IsEdge code me place next = subst (λ n. IsEdge code me n next) same.1 edge in
            let alike : one ≡ edge_here.0 = let both : Some one ≡ Some edge_here.0 = sym there ∙ edge_here.1 in cc in
            let added : Contains (goes_on one.op place) next =
            subst (λ (s : Instr). Contains (goes_on s.op place) next) (sym alike) edge_here.2 in
            elim (w.behind place next edge_here) [
              | inl in_old ↦ inr (
                Contains-append_right work (goes_on one.op place) next added,
                λ word word_next word_need. subst (λ k. BitsWithin word (slice_index new k)) (sym same.1)
                    (in_here word (within_through word (slice_index new next) old word_next
                    (within_through (slice_index new next) (slice_index bound next) old (falls next) in_old))
                    word_need),
              )
              | inr waits ↦ inr (
                Contains-append_right work (goes_on one.op place) next added,
                λ word word_next word_need. subst (λ k. BitsWithin word (slice_index new k)) (sym same.1)
                    (in_here word (waits.1 word (within_through word (slice_index new next) (slice_index bound next)
                    word_next (falls next)) word_need) word_need),
              )
            ]
        | inr apart ↦ elim (w.behind from next edge) [
          | inl in_old ↦ inl (subst (BitsWithin (slice_index new next)) (sym (elsewhere from apart.1))
              (within_through (slice_index new next) (slice_index bound next) (slice_index bound from) (falls next)
              in_old))
          | inr waits ↦ elim (Contains-push_cases work place next waits.0) [
            | inl still ↦ inr (
              Contains-append_left work (goes_on one.op place) next still,
              λ word word_next word_need. subst (BitsWithin word) (sym (elsewhere from apart.1))
                  (waits.1 word (within_through word (slice_index new next) (slice_index bound next) word_next
                  (falls next)) word_need),
            )
            | inr same ↦ inl (subst (BitsWithin (slice_index new next)) (sym (elsewhere from apart.1))
                (waits.1 (slice_index new next) (falls next)
                (subst (λ k. BitsWithin (slice_index new k) need) same here_in_need)))
          ]
        ]
      ];
      begun = elim (w.begun) [
        | inl in_need ↦ inl (within_through (slice_index new at) (slice_index bound at) need (falls at) in_need)
        | inr waits ↦ elim (Contains-push_cases work place at waits) [
          | inl still ↦ inr (Contains-append_left work (goes_on one.op place) at still)
          | inr same ↦ inl (subst (λ k. BitsWithin (slice_index new k) need) same here_in_need)
        ]
      ];
      led = λ other has. elim (Contains-append_cases work (goes_on one.op place) other has) [
        | inl still ↦ w.led other (Contains-append_left work (place ∷ []) other still)
        | inr added ↦ one_more code me at place other (w.led place (Contains-push work place)) (one, there, added)
      ];
      least_is = least_here counts refl;
    }

  -- ---- the end

  ends_within : (bound : List ℕ) (least : Option ℕ) → IsWalk code me at need bound [] least → (from next : ℕ) →
      IsEdge code me from next → BitsWithin (slice_index bound next) (slice_index bound from)
  ends_within bound least w from next edge = elim (w.behind from next edge) [
    | inl within ↦ within
    | inr waits ↦ absurd (none_there next waits.0)
  ]

  begins_within : (bound : List ℕ) (least : Option ℕ) → IsWalk code me at need bound [] least →
      BitsWithin (slice_index bound at) need
  begins_within bound least w = elim (w.begun) [
    | inl within ↦ within
    | inr waits ↦ absurd (none_there at waits)
  ]

  pub led_within : (bound : List ℕ) → ((from next : ℕ) → IsEdge code me from next →
      BitsWithin (slice_index bound next) (slice_index bound from)) → BitsWithin (slice_index bound at) need →
      (count to : ℕ) → LeadsIn code me count at to → BitsWithin (slice_index bound to) need
  led_within bound behind begun zero to leads = subst (λ n. BitsWithin (slice_index bound n) need) leads begun
  led_within bound behind begun (suc count) to leads =
      within_through (slice_index bound to) (slice_index bound leads.0) need (behind leads.0 to leads.2)
      (led_within bound behind begun count leads.0 leads.1)

  pub ends : (bound : List ℕ) (least : Option ℕ) → IsWalk code me at need bound [] least →
      Found code me at need least bound
  ends bound None w = (
    record {
      named = λ place one is. elim (w.named place one is) [
        | inl names ↦ names
        | inr upto ↦ absurd upto
      ];
      behind = ends_within bound None w;
    },
    begins_within bound None w,
  )
  ends bound (Some least) w = (
    w.least_is.0,
    w.least_is.1,
    λ other earlier leads breaks. elim (w.named other breaks.0 breaks.1) [
      | inl names ↦ breaks.2 (names_in_larger code (slice_index bound other) need breaks.0.op
          (led_within bound (ends_within bound (Some least) w) (begins_within bound (Some least) w) leads.0 other
          leads.1) names)
      | inr upto ↦ omega (arith, upto, earlier)
    ],
  )

-- ---- a test that is turned round

pub not_so : (told : Bool) (P : Type 0) → (IsTrue told ↔ P) → not told ≡ true → ¬ P
not_so true P same is holds = false≢true is
not_so false P same is holds = false≢true (same.1 holds)

pub is_so : (told : Bool) (P : Type 0) → (IsTrue told ↔ P) → not told ≡ false → P
is_so true P same is = same.0 refl
is_so false P same is = absurd (false≢true (sym is))
