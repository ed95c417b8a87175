-- The positions of a host's instructions in a typed walk: each is the one that was known where it was given, and what
-- goes on stands at the next.
use Rattle.std.proofs.Common.{◌≡◌, ◌∙◌, ℕ, zero, suc, ◌+◌, inl, inr, List, [], ◌∷◌, ◌++◌, length, nat_eq, ap, sym}
use Rattle.std.proofs.Common.{subst, arith, eq-eqb, append_assoc, append-nil, length-append, if◌then◌else◌}
use Rattle.std.proofs.lemmas.Bool.Decides.{eqb_tells}
use Rattle.std.specs.Prelude.{Some, slice_get, ⊤}
use Rattle.js_base.specs.declared.ids.HostId.{HostId}
use Rattle.host_code.specs.declared.instruction.Op.{Op}
use Rattle.host_code.specs.declared.instruction.Op.TheVariants as op
use Rattle.msg_cost.specs.Moves.{PlannedShape}
use Rattle.split_rules.specs.Emissions.{Emission, instruction, entry, stands, lands}
use Rattle.split_rules.specs.Positions.{Position, Entrance}
use Rattle.split_rules.specs.SplitCode.{emitted_on, entries_in}
use Rattle.split_rules.specs.Typing.{IsCalm, WalkPlace, nowhere, here, WalkKnown, TypedOp, Types, AreTyped}
use Rattle.split_rules.proofs.WalkedCalls.{still_there}

-- ---- what was known stays known

-- a list with more behind it
pub record Grows {X : Type 0} (first last : List X) : Type 0 where
  pub more : List X
  pub is : last ≡ first ++ more

grows_not : {X : Type 0} (list other : List X) → other ≡ list → Grows list other
grows_not list other same = record { more = []; is = same ∙ sym (append-nil list) }

grows_then : {X : Type 0} (first middle last : List X) → Grows first middle → Grows middle last → Grows first last
grows_then first middle last one two = record {
  more = one.more ++ two.more;
  is = two.is ∙ ap (λ list. list ++ two.more) one.is ∙ append_assoc first one.more two.more;
}

pub record BothGrow (first last : WalkKnown) : Type 0 where
  pub entries : Grows first.entries last.entries
  pub branches : Grows first.branches last.branches

-- an instruction names no entry
record OpGrows (known after : WalkKnown) : Type 0 where
  entries : after.entries ≡ known.entries
  branches : Grows known.branches after.branches

place_only : (known : WalkKnown) (place : WalkPlace) (after : WalkKnown) →
    after ≡ record { place = place; entries = known.entries; branches = known.branches } → OpGrows known after
place_only known place after is = record {
  entries = ap (λ one. one.entries) is;
  branches = grows_not known.branches after.branches (ap (λ one. one.branches) is);
}

op_grows : (planned : PlannedShape) (known : WalkKnown) (me : HostId) (from : Position) (what : Op)
    (after : WalkKnown) →
    TypedOp planned known me from what after → OpGrows known after
op_grows planned known me from (op.Read field index) after typed = place_only known _ after typed.2
op_grows planned known me from (op.Let x value) after typed = place_only known _ after typed.2
op_grows planned known me from (op.Put field index value) after typed = place_only known _ after typed.2
op_grows planned known me from (op.Send x to) after typed = place_only known _ after typed.2
op_grows planned known me from (op.Frame site) after typed = place_only known _ after typed.2
op_grows planned known me from (op.Arg x value) after typed = place_only known _ after typed.2
op_grows planned known me from (op.Pass x to) after typed = place_only known _ after typed.2
op_grows planned known me from (op.Push there) after typed = place_only known _ after typed.2
op_grows planned known me from (op.Ask there on) after typed = place_only known _ after typed.2
op_grows planned known me from (op.Go there on) after typed = place_only known _ after typed.1
op_grows planned known me from (op.Call there on) after typed = place_only known _ after typed.1
op_grows planned known me from (op.Ret x value) after typed = place_only known _ after typed.2
op_grows planned known me from op.Back after typed = place_only known _ after typed.1
op_grows planned known me from (op.Branch guard number) after typed = record {
  entries = ap (λ one. one.entries) typed.4;
  branches = record { more = typed.1 ∷ []; is = ap (λ one. one.branches) typed.4 };
}
op_grows planned known me from (op.GoWith there on riders) after typed = place_only known _ after typed.1
op_grows planned known me from (op.CallWith there on riders) after typed = place_only known _ after typed.1

-- the place alone is another
still_known : (known after : WalkKnown) → OpGrows known after → BothGrow known after
still_known known after so = record {
  entries = grows_not known.entries after.entries so.entries;
  branches = so.branches;
}

pub one_grows : (planned : PlannedShape) (known : WalkKnown) (x : Emission) (after : WalkKnown) →
    Types planned known x after → BothGrow known after
one_grows planned known (instruction one) after typed =
    still_known known after (op_grows planned known one.host typed.0 one.op after typed.3)
one_grows planned known (entry named) after typed = record {
  entries = record {
    more = record { position = typed.0; need = named.need } ∷ [];
    is = ap (λ one. one.entries) typed.4;
  };
  branches = grows_not known.branches after.branches (ap (λ one. one.branches) typed.4);
}
one_grows planned known (stands host number) after typed =
    still_known known after (place_only known _ after typed.4)
one_grows planned known (lands host number) after typed =
    still_known known after (place_only known _ after typed.3)

pub all_grow : (planned : PlannedShape) (first : WalkKnown) (xs : List Emission) (last : WalkKnown) →
    AreTyped planned first xs last → BothGrow first last
all_grow planned first [] last typed = record {
  entries = grows_not first.entries last.entries (ap (λ one. one.entries) (sym typed));
  branches = grows_not first.branches last.branches (ap (λ one. one.branches) (sym typed));
}
all_grow planned first (x ∷ xs) last typed =
    let one = one_grows planned first x typed.0 typed.1 in
    let others = all_grow planned typed.0 xs last typed.2 in
    record {
      entries = grows_then first.entries typed.0.entries last.entries one.entries others.entries;
      branches = grows_then first.branches typed.0.branches last.branches one.branches others.branches;
    }

pub grown : {X : Type 0} (first last : List X) → Grows first last → (number : ℕ) (x : X) →
    slice_get first number ≡ Some x → slice_get last number ≡ Some x
grown {X} first last grows number x is =
    let P : List X → Type 0 = λ list. slice_get list number ≡ Some x in
    subst P (sym grows.is) (still_there first grows.more number x is)

-- ---- entries are calm, and as many as are named

abbrev pub AreCalm : List Entrance → Type 0
AreCalm [] = ⊤
AreCalm (entrance ∷ others) = IsCalm entrance.position × AreCalm others

calm_more : (entries : List Entrance) (entrance : Entrance) → AreCalm entries → IsCalm entrance.position →
    AreCalm (entries ++ entrance ∷ [])
calm_more [] entrance calm one = (one, tt)
calm_more (first ∷ entries) entrance calm one = (calm.0, calm_more entries entrance calm.1 one)

pub calm_there : (entries : List Entrance) (number : ℕ) (entrance : Entrance) → AreCalm entries →
    slice_get entries number ≡ Some entrance → IsCalm entrance.position
calm_there [] number entrance calm is = absurd (cc)
calm_there (first ∷ entries) zero entrance calm is =
    let same : first ≡ entrance = cc in
    let P : Entrance → Type 0 = λ it. IsCalm it.position in
    subst P same calm.0
calm_there (first ∷ entries) (suc number) entrance calm is = calm_there entries number entrance calm.1 is

pub all_calm : (planned : PlannedShape) (first : WalkKnown) (xs : List Emission) (last : WalkKnown) →
    AreTyped planned first xs last → AreCalm first.entries → AreCalm last.entries
all_calm planned first [] last typed calm = subst AreCalm (ap (λ one. one.entries) typed) calm
all_calm planned first (instruction one ∷ xs) last typed calm =
    let same = (op_grows planned first one.host typed.1.0 one.op typed.0 typed.1.3).entries in
    all_calm planned typed.0 xs last typed.2 (subst AreCalm (sym same) calm)
all_calm planned first (entry named ∷ xs) last typed calm =
    all_calm planned typed.0 xs last typed.2
    (subst AreCalm (sym (ap (λ one. one.entries) typed.1.4))
    (calm_more first.entries (record { position = typed.1.0; need = named.need }) calm typed.1.1))
all_calm planned first (stands host number ∷ xs) last typed calm =
    all_calm planned typed.0 xs last typed.2 (subst AreCalm (sym (ap (λ one. one.entries) typed.1.4)) calm)
all_calm planned first (lands host number ∷ xs) last typed calm =
    all_calm planned typed.0 xs last typed.2 (subst AreCalm (sym (ap (λ one. one.entries) typed.1.3)) calm)

pub entries_many : (planned : PlannedShape) (first : WalkKnown) (xs : List Emission) (last : WalkKnown) →
    AreTyped planned first xs last → length last.entries ≡ length first.entries + length (entries_in xs)
entries_many planned first [] last typed =
    let same = ap {A = WalkKnown} (λ one. length one.entries) typed in omega arith
entries_many planned first (instruction one ∷ xs) last typed =
    let same = ap length (op_grows planned first one.host typed.1.0 one.op typed.0 typed.1.3).entries in
    let others = entries_many planned typed.0 xs last typed.2 in
    omega arith
entries_many planned first (entry named ∷ xs) last typed =
    let same = ap {A = WalkKnown} (λ one. length one.entries) typed.1.4
    ∙ length-append first.entries (record { position = typed.1.0; need = named.need } ∷ []) in
    let others = entries_many planned typed.0 xs last typed.2 in
    omega arith
entries_many planned first (stands host number ∷ xs) last typed =
    let same = ap {A = WalkKnown} (λ one. length one.entries) typed.1.4 in
    let others = entries_many planned typed.0 xs last typed.2 in
    omega arith
entries_many planned first (lands host number ∷ xs) last typed =
    let same = ap {A = WalkKnown} (λ one. length one.entries) typed.1.3 in
    let others = entries_many planned typed.0 xs last typed.2 in
    omega arith

-- ---- positions

-- the positions of the instructions of a host
unfoldable pub positions_on : (planned : PlannedShape) (host : HostId) (first : WalkKnown) (xs : List Emission)
    (last : WalkKnown) →
    AreTyped planned first xs last → List Position
positions_on planned host first [] last typed = []
positions_on planned host first (instruction one ∷ xs) last typed =
    let others = positions_on planned host typed.0 xs last typed.2 in
    if nat_eq one.host.0 host.0 then typed.1.0 ∷ others else others
positions_on planned host first (entry named ∷ xs) last typed = positions_on planned host typed.0 xs last typed.2
positions_on planned host first (stands on number ∷ xs) last typed =
    positions_on planned host typed.0 xs last typed.2
positions_on planned host first (lands on number ∷ xs) last typed = positions_on planned host typed.0 xs last typed.2

-- what goes on stands at the next instruction of its host
not_nowhere : (host : HostId) (position : Position) → here host position ≡ nowhere → ⊥
not_nowhere host position same = cc

here_host : (host other : HostId) (position next : Position) → here host position ≡ here other next →
    (host ≡ other) × (position ≡ next)
here_host host other position next same = (cc, cc)

pub first_is : (planned : PlannedShape) (host : HostId) (position : Position) (first : WalkKnown) (xs : List Emission)
    (last : WalkKnown) → (typed : AreTyped planned first xs last) → first.place ≡ here host position →
    last.place ≡ nowhere → slice_get (positions_on planned host first xs last typed) 0 ≡ Some position
unfolding positions_on
first_is planned host position first [] last typed goes_on ends =
    absurd (not_nowhere host position (sym goes_on ∙ ap (λ one. one.place) typed ∙ ends))
first_is planned host position first (instruction one ∷ xs) last typed goes_on ends =
    let same = here_host one.host host typed.1.0 position (sym typed.1.1 ∙ goes_on) in
    rw (eq-eqb one.host.0 host.0 (ap (λ it. it.0) same.0)) (ap Some same.1)
first_is planned host position first (entry named ∷ xs) last typed goes_on ends =
    first_is planned host position typed.0 xs last typed.2 (ap (λ one. one.place) typed.1.4 ∙ goes_on) ends
first_is planned host position first (stands on number ∷ xs) last typed goes_on ends = elim typed.1.3 [
  | inl none ↦ absurd (not_nowhere host position (sym goes_on ∙ none))
  | inr same ↦ first_is planned host position typed.0 xs last typed.2
      (ap (λ one. one.place) typed.1.4 ∙ sym same ∙ goes_on) ends
]
first_is planned host position first (lands on number ∷ xs) last typed goes_on ends =
    absurd (not_nowhere host position (sym goes_on ∙ typed.1.2))

-- ---- halves

-- what is behind the first part of a typed walk, and the positions there
pub record Half (planned : PlannedShape) (host : HostId) (first : WalkKnown) (xs ys : List Emission) (last : WalkKnown)
    (typed : AreTyped planned first (xs ++ ys) last) : Type 0 where
  pub middle : WalkKnown
  pub behind : AreTyped planned middle ys last
  pub many : length middle.entries ≡ length first.entries + length (entries_in xs)
  pub places : (number : ℕ) → slice_get (positions_on planned host first (xs ++ ys) last typed)
      (length (emitted_on host xs) + number) ≡ slice_get (positions_on planned host middle ys last behind) number

pub half : (planned : PlannedShape) (host : HostId) (first : WalkKnown) (xs ys : List Emission) (last : WalkKnown) →
    (typed : AreTyped planned first (xs ++ ys) last) → Half planned host first xs ys last typed
unfolding positions_on
half planned host first [] ys last typed = record {
  middle = first;
  behind = typed;
  many = omega arith;
  places = λ number. let none : 0 + number ≡ number = omega arith in
      ap (slice_get (positions_on planned host first ys last typed)) none;
}
half planned host first (instruction one ∷ xs) ys last typed =
    let others = half planned host typed.0 xs ys last typed.2 in
    let same = ap length (op_grows planned first one.host typed.1.0 one.op typed.0 typed.1.3).entries in
    let rest = others.many in
    let behind = positions_on planned host typed.0 (xs ++ ys) last typed.2 in
    record {
      middle = others.middle;
      behind = others.behind;
      many = omega arith;
      places = λ number. elim (eqb_tells one.host.0 host.0) [
        | inl same ↦ rw same.0
            (let next : length (one ∷ emitted_on host xs) + number ≡ suc (length (emitted_on host xs) + number) =
            omega arith in
            ap (slice_get (typed.1.0 ∷ behind)) next ∙ others.places number)
        | inr other ↦ rw other.0 (others.places number)
      ];
    }
half planned host first (entry named ∷ xs) ys last typed =
    let others = half planned host typed.0 xs ys last typed.2 in
    let same = ap {A = WalkKnown} (λ one. length one.entries) typed.1.4
    ∙ length-append first.entries (record { position = typed.1.0; need = named.need } ∷ []) in
    let rest = others.many in
    record { middle = others.middle; behind = others.behind; many = omega arith; places = others.places }
half planned host first (stands on number ∷ xs) ys last typed =
    let others = half planned host typed.0 xs ys last typed.2 in
    let same = ap {A = WalkKnown} (λ one. length one.entries) typed.1.4 in
    let rest = others.many in
    record { middle = others.middle; behind = others.behind; many = omega arith; places = others.places }
half planned host first (lands on number ∷ xs) ys last typed =
    let others = half planned host typed.0 xs ys last typed.2 in
    let same = ap {A = WalkKnown} (λ one. length one.entries) typed.1.3 in
    let rest = others.many in
    record { middle = others.middle; behind = others.behind; many = omega arith; places = others.places }
