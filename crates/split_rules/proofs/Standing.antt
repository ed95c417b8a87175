-- Where an entry that is owed stands and an open branch leads to, an instruction of the host follows. The last
-- instruction of a host leaves it.
use Rattle.std.proofs.Common.{◌≡◌, ◌∙◌, ℕ, ◌<◌, ◌≤◌, ◌⊎◌, inl, inr, List, [], ◌∷◌, ◌++◌, length}
use Rattle.std.proofs.Common.{refl, ap, sym, subst, arith, eq-eqb, append_assoc}
use Rattle.std.specs.Prelude.{⊤}
use Rattle.std.proofs.lemmas.List.{length-append}
use Rattle.js_base.specs.declared.ids.HostId.{HostId}
use Rattle.host_code.specs.declared.instruction.Op.{Op}
use Rattle.host_code.specs.declared.instruction.Op.TheVariants as op
use Rattle.host_code.specs.Sound.{IsLeaving}
use Rattle.split_rules.specs.Emissions.{Emission, instruction, entry, stands, lands, Emitted}
use Rattle.split_rules.specs.SplitCode.{emitted_on}
use Rattle.split_rules.specs.Flow.{Scope, Flow, stopped, at, awaited, State, after, flow_behind, flow_after}
use Rattle.split_rules.specs.Flow.{InstructionFitsFlow, EmissionFits, FlowGoes}
use Rattle.split_rules.proofs.Places.{shown, emitted_append}
use Rattle.split_rules.proofs.Pendings.{Numbered, of_entries, of_branches, due, count, before, mark, Passes}
use Rattle.split_rules.proofs.Pendings.{before_mark, passes_mark, IsAmong}
use Rattle.split_rules.proofs.Pendings.{AreBelow, AreDistinct, keeps, adds, places, step_of, AreOrdered, ordered_after}
use Rattle.split_rules.proofs.Pendings.{ordered_at, not_among, count_after, count_kept, halves, GoesOn, goes_on_stand}

-- ---- what goes on has an instruction

pub emitted_own : (host : HostId) (one : Emitted) (others : List Emission) → one.host ≡ host →
    emitted_on host (instruction one ∷ others) ≡ one ∷ emitted_on host others
emitted_own host one others own = rw (eq-eqb one.host.0 host.0 (ap (λ id. id.0) own)) refl

pub own_instruction : (host : HostId) (scope : Scope) (state : State) (one : Emitted) (flow : Flow) →
    InstructionFitsFlow scope state one flow → GoesOn host flow → one.host ≡ host
own_instruction host scope state one stopped fits on = absurd on
own_instruction host scope state one (at here count) fits on = sym fits.0 ∙ on
own_instruction host scope state one (awaited here) fits on = absurd fits

pub has_more : (host : HostId) (scope : Scope) (state : State) (emissions : List Emission) (last : State) →
    FlowGoes scope state emissions last → last.flow ≡ stopped → GoesOn host state.flow →
    0 < length (emitted_on host emissions)
has_more host scope state [] last goes ended on =
    absurd (subst (GoesOn host) (ap (λ one. one.flow) goes ∙ ended) on)
has_more host scope state (instruction one ∷ others) last goes ended on =
    let own = own_instruction host scope state one state.flow goes.0 on in
    omega (arith, ap length (emitted_own host one others own))
has_more host scope state (entry named ∷ others) last goes ended on =
    has_more host scope (after state (entry named)) others last goes.1 ended on
has_more host scope state (stands other number ∷ others) last goes ended on =
    has_more host scope (after state (stands other number)) others last goes.1 ended
    (goes_on_stand host other state.flow on goes.0.1)
has_more host scope state (lands other number ∷ others) last goes ended on =
    absurd (subst (GoesOn host) goes.0.1 on)

-- ---- the last instruction of a host

abbrev pub LeavesLast : List Emitted → Type 0
LeavesLast [] = ⊤
LeavesLast (one ∷ []) = IsLeaving one.op
LeavesLast (one ∷ next ∷ others) = LeavesLast (next ∷ others)

leaves_more : (one : Emitted) (others : List Emitted) → LeavesLast others →
    IsLeaving one.op ⊎ (0 < length others) → LeavesLast (one ∷ others)
leaves_more one [] leaves (inl leaving) = leaving
leaves_more one [] leaves (inr some) = absurd (omega arith)
leaves_more one (next ∷ others) leaves either = leaves

leaves_or_goes : (me : HostId) (count : ℕ) (what : Op) → IsLeaving what ⊎ GoesOn me (flow_behind me count what)
leaves_or_goes me count op.Back = inl tt
leaves_or_goes me count (op.Go there on) = inl tt
leaves_or_goes me count (op.GoWith there on riders) = inl tt
leaves_or_goes me count other = inr refl

pub behind_instruction : (scope : Scope) (state : State) (one : Emitted) (flow : Flow) →
    InstructionFitsFlow scope state one flow → IsLeaving one.op ⊎ GoesOn one.host (flow_after flow one)
behind_instruction scope state one stopped fits = absurd fits
behind_instruction scope state one (at here count) fits = leaves_or_goes one.host count one.op
behind_instruction scope state one (awaited here) fits = absurd fits

pub leaves_last : (host : HostId) (scope : Scope) (state : State) (emissions : List Emission) (last : State) →
    FlowGoes scope state emissions last → last.flow ≡ stopped → LeavesLast (emitted_on host emissions)
leaves_last host scope state [] last goes ended = tt
leaves_last host scope state (instruction one ∷ others) last goes ended =
    let so = leaves_last host scope (after state (instruction one)) others last goes.1 ended in
    elim (shown host (instruction one)) [
      | inl own ↦ subst LeavesLast (sym (own.first others)) (leaves_more own.one (emitted_on host others) so
          (let same : one ≡ own.one = cc in
          subst (λ (emitted : Emitted). IsLeaving emitted.op ⊎ (0 < length (emitted_on host others))) same
          (elim (behind_instruction scope state one state.flow goes.0) [
            | inl leaving ↦ inl leaving
            | inr on ↦ inr (has_more host scope (after state (instruction one)) others last goes.1 ended
                (subst (λ (here : HostId). GoesOn here (flow_after state.flow one))
                (ap (λ emitted. emitted.host) same ∙ own.own) on))
          ])))
      | inr other ↦ subst LeavesLast (sym (other others)) so
    ]
leaves_last host scope state (entry named ∷ others) last goes ended =
    leaves_last host scope (after state (entry named)) others last goes.1 ended
leaves_last host scope state (stands other number ∷ others) last goes ended =
    leaves_last host scope (after state (stands other number)) others last goes.1 ended
leaves_last host scope state (lands other number ∷ others) last goes ended =
    leaves_last host scope (after state (lands other number)) others last goes.1 ended

-- ---- where what is pending is placed

-- it is placed once, and an instruction of its host follows
pub record Placed (kind : Numbered) (host : HostId) (number : ℕ) (emissions : List Emission) : Type 0 where
  pub behind : List Emission
  pub is : emissions ≡ before kind number emissions ++ mark kind host number ∷ behind
  pub more : 0 < length (emitted_on host behind)

unmarked : (kind : Numbered) (host on : HostId) (number : ℕ) (others : List Emission) →
    emitted_on host (mark kind on number ∷ others) ≡ emitted_on host others
unmarked of_entries host on number others = refl
unmarked of_branches host on number others = refl

pub placed_below : (kind : Numbered) (host : HostId) (number : ℕ) (emissions : List Emission) →
    Placed kind host number emissions →
    length (emitted_on host (before kind number emissions)) < length (emitted_on host emissions)
placed_below kind host number emissions so =
    let front = before kind number emissions in
    let parts = ap (λ list. length (emitted_on host list)) so.is
    ∙ ap length (emitted_append host front (mark kind host number ∷ so.behind))
    ∙ length-append (emitted_on host front) (emitted_on host (mark kind host number ∷ so.behind)) in
    let rest = ap length (unmarked kind host host number so.behind) in
    let more = so.more in
    omega arith

pub some_there : (kind : Numbered) (host : HostId) (number : ℕ) (emissions : List Emission) →
    Placed kind host number emissions → 0 < length (emitted_on host emissions)
some_there kind host number emissions so =
    let below = placed_below kind host number emissions so in
    omega arith

pub placed_later : (kind : Numbered) (host : HostId) (number : ℕ) (emission : Emission) (others : List Emission) →
    Passes kind number emission → Placed kind host number others → Placed kind host number (emission ∷ others)
placed_later kind host number emission others passes so = record {
  behind = so.behind;
  is = ap (◌∷◌ emission) so.is ∙ ap (λ list. list ++ mark kind host number ∷ so.behind) (sym (passes others));
  more = so.more;
}

placed_here : (kind : Numbered) (host : HostId) (number : ℕ) (emission : Emission) (others : List Emission) →
    emission ≡ mark kind host number → 0 < length (emitted_on host others) →
    Placed kind host number (emission ∷ others)
placed_here kind host number emission others is more = record {
  behind = others;
  is = ap (λ first. first ∷ others) is
      ∙ ap (λ list. list ++ mark kind host number ∷ others)
      (sym (ap (λ first. before kind number (first ∷ others)) is ∙ before_mark kind host number others));
  more = more;
}

pub placed : (kind : Numbered) (host : HostId) (number : ℕ) (scope : Scope) (state : State)
    (emissions : List Emission) (last : State) → FlowGoes scope state emissions last → AreOrdered kind state →
    due kind last ≡ [] → last.flow ≡ stopped → IsAmong host number (due kind state) →
    Placed kind host number emissions
placed kind host number scope state [] last goes ordered none ended among =
    absurd (subst (IsAmong host number) (ap (due kind) goes ∙ none) among)
placed kind host number scope state (emission ∷ others) last goes ordered none ended among =
    let step = step_of kind scope state emission goes.0 in
    let so = placed kind host number scope (after state emission) others last goes.1
    (ordered_after kind state emission step ordered) none ended in
    elim step [
      | keeps same as_many passes ↦ placed_later kind host number emission others (passes number)
          (so (subst (IsAmong host number) (sym same) among))
      | adds other more one_more passes ↦ placed_later kind host number emission others (passes number)
          (so (subst (IsAmong host number) (sym more) (inr among)))
      | places here first is off as_many flow ↦ elim (subst (IsAmong host number) off among) [
        | inl same ↦
            let on = subst (GoesOn host) (sym flow) (ap (λ one. one.host) same) in
            placed_here kind host number emission others
            (is ∙ ap (λ one. mark kind one.host one.number) same)
            (has_more host scope (after state emission) others last goes.1 ended on)
        | inr later ↦
            let apart = (subst AreDistinct off ordered.distinct).0 in
            placed_later kind host number emission others
            (subst (Passes kind number) (sym is) (passes_mark kind here first number
            (not_among host number first (due kind (after state emission)) apart later)))
            (so later)
      ]
    ]

-- what is placed later passes all that comes before
pub passed_front : (kind : Numbered) (number : ℕ) (scope : Scope) (state : State) (front more : List Emission)
    (last : State) → FlowGoes scope state front last → AreOrdered kind state → count kind last ≤ number →
    before kind number (front ++ more) ≡ front ++ before kind number more
passed_front kind number scope state [] more last goes ordered large = refl
passed_front kind number scope state (emission ∷ front) more last goes ordered large =
    let step = step_of kind scope state emission goes.0 in
    let so = ap (◌∷◌ emission) (passed_front kind number scope (after state emission) front more last goes.1
    (ordered_after kind state emission step ordered) large) in
    let fewer = count_kept kind scope (after state emission) front last goes.1 in
    let fewer_yet = count_after kind state emission step in
    elim step [
      | keeps same as_many passes ↦ passes number (front ++ more) ∙ so
      | adds other grown one_more passes ↦ passes number (front ++ more) ∙ so
      | places here first is off as_many flow ↦
          let below = (subst (AreBelow (count kind state)) off ordered.below).0 in
          subst (Passes kind number) (sym is) (passes_mark kind here first number (λ same. omega (arith, same)))
          (front ++ more) ∙ so
    ]

-- what is added by an emission is placed behind it
pub placed_from : (kind : Numbered) (host : HostId) (number : ℕ) (scope : Scope) (state : State)
    (front : List Emission) (emission : Emission) (more : List Emission) (last : State) (emissions : List Emission) →
    emissions ≡ front ++ emission ∷ more →
    FlowGoes scope state emissions last → AreOrdered kind state → due kind last ≡ [] → last.flow ≡ stopped →
    ((middle : State) → FlowGoes scope state front middle → EmissionFits scope middle emission →
    (count kind middle ≤ number) × IsAmong host number (due kind (after middle emission))) →
    Passes kind number emission → Placed kind host number emissions
placed_from kind host number scope state front emission more last emissions is goes ordered none ended added passes =
    let split = halves scope state front (emission ∷ more) last
    (subst (λ (list : List Emission). FlowGoes scope state list last) is goes) in
    let what = added split.middle split.to split.from.0 in
    let then_ordered = ordered_after kind split.middle emission
    (step_of kind scope split.middle emission split.from.0)
    (ordered_at kind scope state front split.middle split.to ordered) in
    let rest = placed_later kind host number emission more passes
    (placed kind host number scope (after split.middle emission) more last split.from.1 then_ordered none ended
    what.1) in
    subst (Placed kind host number) (sym is) (record {
      behind = rest.behind;
      is = ap (λ list. front ++ list) rest.is
          ∙ sym (append_assoc front (before kind number (emission ∷ more)) (mark kind host number ∷ rest.behind))
          ∙ ap (λ list. list ++ mark kind host number ∷ rest.behind)
          (sym (passed_front kind number scope state front (emission ∷ more) split.middle split.to ordered what.0));
      more = rest.more;
    })
