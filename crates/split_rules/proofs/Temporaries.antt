-- A walk says of no place that there are more temporaries than the code has there.
use Rattle.std.proofs.Common.{◌≡◌, ◌∙◌, ℕ, zero, suc, ◌≤◌, inl, inr, Bool, true, false, List, []}
use Rattle.std.proofs.Common.{◌∷◌, ◌++◌, length, Some, slice_get, nat_eq, if◌then◌else◌, refl, ap, sym, subst}
use Rattle.std.proofs.Common.{arith, eq-eqb, append_assoc, option_map}
use Rattle.std.specs.Prelude.{⊤}
use Rattle.std.proofs.lemmas.Bool.Decides.{eqb_tells}
use Rattle.std.proofs.lemmas.List.{length-append}
use Rattle.std.proofs.lemmas.Option.{slice_get-map, slice_get_cases}
use Rattle.js_base.specs.declared.ids.HostId.{HostId}
use Rattle.label_lattice.specs.declared.label.Label.{Label}
use Rattle.host_code.specs.declared.code.Entry.{Entry}
use Rattle.host_code.specs.declared.instruction.Op.{Op}
use Rattle.host_code.specs.declared.instruction.Op.TheVariants as op
use Rattle.host_code.specs.Sound.{temporaries_after, temporaries_past, temporaries_at, is_entrance}
use Rattle.split_rules.specs.Emissions.{Emission, instruction, entry, stands, lands, Emitted}
use Rattle.split_rules.specs.SplitCode.{emitted_on, before_entry, landed, placed_instruction, part_on}
use Rattle.split_rules.specs.Flow.{Scope, Flow, stopped, at, awaited, State, after, flow_behind, flow_after}
use Rattle.split_rules.specs.Flow.{InstructionFitsFlow, EmissionFits, FlowGoes}
use Rattle.split_rules.proofs.Places.{shown, same_host, emitted_append, found}
use Rattle.split_rules.proofs.Pendings.{of_entries}
use Rattle.split_rules.proofs.Standing.{emitted_own, Placed}

-- ---- temporaries along the emissions

abbrev pub reads_with : HostId → ℕ → Emission → ℕ
reads_with host count (instruction one) =
    if nat_eq one.host.0 host.0 then temporaries_after one.op count else count
reads_with host count (entry named) = count
reads_with host count (stands on number) = if nat_eq on.0 host.0 then 0 else count
reads_with host count (lands on number) = count

-- how many temporaries of a host there are behind emissions, where there are so many before them
abbrev pub reads : HostId → ℕ → List Emission → ℕ
reads host count [] = count
reads host count (emission ∷ others) = reads host (reads_with host count emission) others

pub reads_append : (host : HostId) (count : ℕ) (front more : List Emission) →
    reads host count (front ++ more) ≡ reads host (reads host count front) more
reads_append host count [] more = refl
reads_append host count (emission ∷ front) more = reads_append host (reads_with host count emission) front more

after_more : (what : Op) (count larger : ℕ) → count ≤ larger →
    temporaries_after what count ≤ temporaries_after what larger
after_more (op.Read field index) count larger more = omega arith
after_more (op.Let variable value) count larger more = omega arith
after_more (op.Put field index value) count larger more = omega arith
after_more (op.Arg variable value) count larger more = omega arith
after_more (op.Ret variable value) count larger more = omega arith
after_more (op.Branch guard target) count larger more = omega arith
after_more other count larger more = more

-- without an instruction of the host there are no more than before
pub reads_fewer : (host : HostId) (count : ℕ) (emissions : List Emission) →
    length (emitted_on host emissions) ≡ 0 → reads host count emissions ≤ count
reads_fewer host count [] none = omega arith
reads_fewer host count (instruction one ∷ others) none = elim (eqb_tells one.host.0 host.0) [
  | inl same ↦ absurd (omega (
    arith,
    none,
    ap length (emitted_own host one others (same_host one.host host same.1)),
  ))
  | inr other ↦ rw other.0 (reads_fewer host count others (rw other.0 at none))
]
reads_fewer host count (entry named ∷ others) none = reads_fewer host count others none
reads_fewer host count (stands on number ∷ others) none = elim (eqb_tells on.0 host.0) [
  | inl same ↦ rw same.0 (let so = reads_fewer host 0 others none in omega arith)
  | inr other ↦ rw other.0 (reads_fewer host count others none)
]
reads_fewer host count (lands on number ∷ others) none = reads_fewer host count others none

-- ---- what a walk knows

-- where the host goes on there are no more temporaries than this
abbrev pub Under : HostId → ℕ → Flow → Type 0
Under host count stopped = ⊤
Under host count (at here fewer) = here ≡ host → fewer ≤ count
Under host count (awaited here) = ⊤

under_behind : (host me : HostId) (count fewer : ℕ) (what : Op) →
    (me ≡ host → temporaries_after what fewer ≤ count) → Under host count (flow_behind me fewer what)
under_behind host me count fewer op.Back so = tt
under_behind host me count fewer (op.Go there on) so = tt
under_behind host me count fewer (op.Call there on) so = tt
under_behind host me count fewer (op.GoWith there on riders) so = tt
under_behind host me count fewer (op.CallWith there on riders) so = tt
under_behind host me count fewer other so = so

under_instruction : (host : HostId) (scope : Scope) (state : State) (one : Emitted) (count : ℕ) (flow : Flow) →
    InstructionFitsFlow scope state one flow → Under host count flow →
    Under host (reads_with host count (instruction one)) (flow_after flow one)
under_instruction host scope state one count stopped fits under = tt
under_instruction host scope state one count (at here fewer) fits under =
    under_behind host one.host (reads_with host count (instruction one)) fewer one.op
    (λ own. rw (eq-eqb one.host.0 host.0 (ap (λ id. id.0) own))
    (after_more one.op fewer count (under (fits.0 ∙ own))))
under_instruction host scope state one count (awaited here) fits under = tt

under_after : (host : HostId) (scope : Scope) (state : State) (emission : Emission) (count : ℕ) →
    EmissionFits scope state emission → Under host count state.flow →
    Under host (reads_with host count emission) (after state emission).flow
under_after host scope state (instruction one) count fits under =
    under_instruction host scope state one count state.flow fits under
under_after host scope state (entry named) count fits under = under
under_after host scope state (stands on number) count fits under = λ same. omega arith
under_after host scope state (lands on number) count fits under = λ same. omega arith

pub under : (host : HostId) (scope : Scope) (state : State) (emissions : List Emission) (last : State) (count : ℕ) →
    FlowGoes scope state emissions last → Under host count state.flow →
    Under host (reads host count emissions) last.flow
under host scope state [] last count goes so = subst (λ (one : State). Under host count one.flow) goes so
under host scope state (emission ∷ others) last count goes so =
    under host scope (after state emission) others last (reads_with host count emission) goes.1
    (under_after host scope state emission count goes.0 so)

-- ---- what the code has

-- where an entry stands there are none
no_reads : (host : HostId) (number count : ℕ) (front behind before : List Emission) (one : Emitted)
    (more : List Emission) → one.host ≡ host →
    front ++ stands host number ∷ behind ≡ before ++ instruction one ∷ more →
    length (emitted_on host front) ≡ length (emitted_on host before) → reads host count before ≤ 0
no_reads host number count [] behind [] one more own is long = absurd (cc)
no_reads host number count [] behind (emission ∷ before) one more own is long =
    let first : emission ≡ stands host number = cc in
    let none : 0 ≡ length (emitted_on host before) =
    long ∙ ap (λ head. length (emitted_on host (head ∷ before))) first in
    subst (λ (head : Emission). reads host (reads_with host count head) before ≤ 0) (sym first)
    (rw (eq-eqb host.0 host.0 refl) (reads_fewer host 0 before (sym none)))
no_reads host number count (emission ∷ front) behind [] one more own is long =
    let first : emission ≡ instruction one = cc in
    let some = ap (λ head. length (emitted_on host (head ∷ front))) first
    ∙ ap length (emitted_own host one front own) in
    absurd (omega (arith, long, some))
no_reads host number count (emission ∷ front) behind (head ∷ before) one more own is long =
    let first : emission ≡ head = cc in
    let rest : front ++ stands host number ∷ behind ≡ before ++ instruction one ∷ more = cc in
    let both : length (emitted_on host (head ∷ front)) ≡ length (emitted_on host (head ∷ before)) =
    ap (λ same. length (emitted_on host (same ∷ front))) (sym first) ∙ long in
    no_reads host number (reads_with host count head) front behind before one more own rest
    (elim (shown host head) [
      | inl here ↦ omega (arith, both, ap length (here.first front), ap length (here.first before))
      | inr other ↦ omega (arith, both, ap length (other front), ap length (other before))
    ])

slice_get_behind : {X : Type 0} (xs : List X) (x : X) (ys : List X) → slice_get (xs ++ x ∷ ys) (length xs) ≡ Some x
slice_get_behind [] x ys = refl
slice_get_behind (first ∷ xs) x ys = slice_get_behind xs x ys

temporaries_landed : (host : HostId) (emissions : List Emission) (what : Op) (count : ℕ) →
    temporaries_after (landed host emissions what) count ≡ temporaries_after what count
temporaries_landed host emissions (op.Branch guard number) count = refl
temporaries_landed host emissions other count = refl

chosen : (test : Bool) (count one other : ℕ) → (test ≡ true → count ≤ one) → (test ≡ false → count ≤ other) →
    count ≤ (if test then one else other)
chosen true count one other yes_so no_so = yes_so refl
chosen false count one other yes_so no_so = no_so refl

-- at each entrance of a host stands an entry
abbrev pub HasEntrances : HostId → List Emission → List Entry → Type 0
HasEntrances host emissions entries =
    (spot : ℕ) → is_entrance entries host spot ≡ true →
    (number : ℕ) × Placed of_entries host number emissions
    × (length (emitted_on host (before_entry number emissions)) ≡ spot)

-- the instruction of the host before the last of its instructions at a place
record Earlier (host : HostId) (labels : List Label) (emissions before : List Emission) (spot : ℕ) (one : Emitted)
    (more : List Emission) : Type 0 where
  earlier : Emitted
  front : List Emission
  between : List Emission
  is : before ≡ front ++ instruction earlier ∷ between
  all_is : emissions ≡ front ++ instruction earlier ∷ (between ++ instruction one ∷ more)
  own : earlier.host ≡ host
  place : length (emitted_on host front) ≡ spot
  none : length (emitted_on host between) ≡ 0
  there : slice_get (part_on labels emissions host) spot ≡ Some (placed_instruction labels emissions earlier)

earlier_of : (host : HostId) (labels : List Label) (emissions before : List Emission) (spot : ℕ) (one : Emitted)
    (more : List Emission) → emissions ≡ before ++ instruction one ∷ more →
    length (emitted_on host before) ≡ suc spot → Earlier host labels emissions before spot one more
earlier_of host labels emissions before spot one more is long =
    elim ((slice_get_cases (emitted_on host before) spot).1) [
      | inl within ↦
          let so = found host before spot within.0 within.2 in
          let all_is : emissions ≡ so.before ++ instruction within.0 ∷ (so.behind ++ instruction one ∷ more) =
          is ∙ ap (λ list. list ++ instruction one ∷ more) so.is
          ∙ append_assoc so.before (instruction within.0 ∷ so.behind) (instruction one ∷ more) in
          let rest = so.behind ++ instruction one ∷ more in
          let parts : emitted_on host before
          ≡ emitted_on host so.before ++ (within.0 ∷ emitted_on host so.behind) =
          ap (emitted_on host) so.is ∙ emitted_append host so.before (instruction within.0 ∷ so.behind)
          ∙ ap (λ list. emitted_on host so.before ++ list) (emitted_own host within.0 so.behind so.own) in
          let shares : emitted_on host emissions ≡ emitted_on host so.before ++ (within.0 ∷ emitted_on host rest) =
          ap (emitted_on host) all_is ∙ emitted_append host so.before (instruction within.0 ∷ rest)
          ∙ ap (λ list. emitted_on host so.before ++ list) (emitted_own host within.0 rest so.own) in
          let long_parts = ap length parts
          ∙ length-append (emitted_on host so.before) (within.0 ∷ emitted_on host so.behind) in
          let place = so.place in
          record {
            earlier = within.0;
            front = so.before;
            between = so.behind;
            is = so.is;
            all_is = all_is;
            own = so.own;
            place = so.place;
            none = omega (arith, long_parts, long, place);
            there = slice_get-map (placed_instruction labels emissions) (emitted_on host emissions) spot
                ∙ ap (option_map (placed_instruction labels emissions))
                (ap (λ list. slice_get list spot) shares
                ∙ ap (slice_get (emitted_on host so.before ++ (within.0 ∷ emitted_on host rest))) (sym so.place)
                ∙ slice_get_behind (emitted_on host so.before) within.0 (emitted_on host rest));
          }
      | inr past ↦ absurd (let over = past.0 in omega (arith, over, long))
    ]

pub reads_at : (host : HostId) (labels : List Label) (emissions : List Emission) (entries : List Entry) →
    HasEntrances host emissions entries → (spot : ℕ) (before : List Emission) (one : Emitted) (more : List Emission) →
    emissions ≡ before ++ instruction one ∷ more → one.host ≡ host → length (emitted_on host before) ≡ spot →
    reads host 0 before ≤ temporaries_at entries host (part_on labels emissions host) spot
reads_at host labels emissions entries entrances zero before one more is own place =
    reads_fewer host 0 before place
reads_at host labels emissions entries entrances (suc spot) before one more is own place =
    let so = earlier_of host labels emissions before spot one more is place in
    let part = part_on labels emissions host in
    let less = reads_at host labels emissions entries entrances spot so.front so.earlier
    (so.between ++ instruction one ∷ more) so.all_is so.own so.place in
    let step : reads host 0 before ≡ reads host (temporaries_after so.earlier.op (reads host 0 so.front)) so.between =
    ap (reads host 0) so.is ∙ reads_append host 0 so.front (instruction so.earlier ∷ so.between)
    ∙ ap (λ test. reads host (if test then temporaries_after so.earlier.op (reads host 0 so.front)
    else reads host 0 so.front) so.between)
    (eq-eqb so.earlier.host.0 host.0 (ap (λ id. id.0) so.own)) in
    let fewer = reads_fewer host (temporaries_after so.earlier.op (reads host 0 so.front)) so.between so.none in
    let grown = after_more so.earlier.op (reads host 0 so.front) (temporaries_at entries host part spot) less in
    let past : temporaries_past (slice_get part spot) (temporaries_at entries host part spot)
    ≡ temporaries_after so.earlier.op (temporaries_at entries host part spot) =
    ap (λ here. temporaries_past here (temporaries_at entries host part spot)) so.there
    ∙ temporaries_landed so.earlier.host emissions so.earlier.op (temporaries_at entries host part spot) in
    chosen (is_entrance entries host (suc spot)) (reads host 0 before) 0
    (temporaries_past (slice_get part spot) (temporaries_at entries host part spot))
    (λ enters.
    let entrance = entrances (suc spot) enters in
    no_reads host entrance.0 0 (before_entry entrance.0 emissions) entrance.1.behind before one more own
    (sym entrance.1.is ∙ is) (entrance.2 ∙ sym place))
    (λ otherwise. omega (arith, step, fewer, grown, past))
