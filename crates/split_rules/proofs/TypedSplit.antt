-- The code of a split program is typed: the table is read off the typed walk.
use Rattle.std.proofs.Common.{◌≡◌, ◌∙◌, ℕ, zero, suc, inl, inr, ◌+◌, List, [], ◌∷◌, ◌++◌, map, length, refl, ap}
use Rattle.std.proofs.Common.{sym, subst, arith, length-append, eq-eqb, ne_eqb}
use Rattle.std.specs.Prelude.{Some, slice_get, unwrap_or}
use Rattle.std.specs.List.{AllByRecursion}
use Rattle.js_base.specs.declared.ids.HostId.{HostId}
use Rattle.js_base.specs.declared.ids.VarId.{VarId}
use Rattle.host_decl.specs.Hosts.{HostsShape}
use Rattle.jif_tree.specs.Trees.{MethodTree, ProgramTree, call}
use Rattle.host_code.specs.declared.code.Entry.{Entry}
use Rattle.host_code.specs.declared.instruction.Instr.{Instr}
use Rattle.host_code.specs.declared.instruction.Op.{Op}
use Rattle.host_code.specs.declared.instruction.Op.TheVariants as op
use Rattle.host_code.specs.Code.{instruction_at}
use Rattle.need_labels.specs.Labelled.{Labelled}
use Rattle.msg_cost.specs.Moves.{PlannedShape, home_of}
use Rattle.split_rules.specs.Placed.{PlacedProgram, planned_from}
use Rattle.split_rules.specs.Emissions.{Emission, instruction, stands, lands, Emitted, counts_after, NamedEntry, entry}
use Rattle.split_rules.specs.Positions.{body, Calling, no_call, arguing, entering, Position, calm, all_due, Entrance}
use Rattle.split_rules.specs.SplitCode.{emitted_on, entries_in, before_entry, before_landing, landed, code_labels}
use Rattle.split_rules.specs.SplitCode.{code_of_emissions, split_code}
use Rattle.split_rules.specs.Splittable.{IsSplittable}
use Rattle.split_rules.specs.Typable.{IsTypableMethod, IsTypable}
use Rattle.split_rules.specs.Walk.{need_of, methods_emissions, method_entry}
use Rattle.split_rules.specs.Typing.{AreDueOn, Covers, BranchLeadsTo, EntryIs, Cuts, Pushes, Follows, Enters, Ends}
use Rattle.split_rules.specs.Typing.{nowhere}
use Rattle.split_rules.specs.Typing.{EntersWith, here, WalkKnown, TypedOp, AreTyped, IsTrustedAt}
use Rattle.split_rules.specs.TypedCode.{IsTypedEntry, Table, IsTypedOp, IsTypedCode}
use Rattle.split_rules.specs.WalkStart.{front_emissions, known_start}
use Rattle.split_rules.specs.Flow.{State}
use Rattle.split_rules.proofs.Places.{found, found_entry, entries_append}
use Rattle.split_rules.proofs.NumberedLists.{length-numbered}
use Rattle.split_rules.proofs.CodeItems.{code_entry, entries_numbered}
use Rattle.split_rules.proofs.Fronts.{IsWalk, front_is, walk_there, others_stand, get_append}
use Rattle.split_rules.proofs.SoundParts.{given, code_given, given_emitted, entry_made}
use Rattle.split_rules.proofs.SoundInstructions.{instruction_made, branch_leads}
use Rattle.split_rules.proofs.WalkedPrograms.{scope_there, program_goes}
use Rattle.split_rules.proofs.WalkedMoves.{at_last}
use Rattle.split_rules.proofs.TypedPlaces.{all_grow, one_grows, grown, calm_there, all_calm, entries_many, positions_on}
use Rattle.split_rules.proofs.TypedPlaces.{first_is, half}
use Rattle.split_rules.proofs.TypedPrograms.{program_typed, start_methods, start_many, start_calm}

-- ---- laws with more entries

abbrev Kept : {X : Type 0} → List X → List X → Type 0
Kept {X} first more = (number : ℕ) (x : X) → slice_get first number ≡ Some x → slice_get more number ≡ Some x

cuts_more : (planned : PlannedShape) (entries more : List Entrance) → Kept entries more → (from : Position)
    (number : ℕ) (next : Position) → Cuts planned entries from number next → Cuts planned more from number next
cuts_more planned entries more kept from number next cuts = record {
  idle = cuts.idle;
  behind = cuts.behind;
  pushed = kept number _ cuts.pushed;
  due = cuts.due;
  goes = cuts.goes;
}

pushes_more : (planned : PlannedShape) (entries more : List Entrance) → Kept entries more → (from : Position)
    (calling : Calling) (number : ℕ) (next : Position) → Pushes planned entries from calling number next →
    Pushes planned more from calling number next
pushes_more planned entries more kept from no_call number next pushes =
    cuts_more planned entries more kept from number next pushes
pushes_more planned entries more kept from (arguing (call heading site method arguments into rest) set left) number
    next pushes = record {
      others = pushes.others;
      due = pushes.due;
      reads = pushes.reads;
      all_set = pushes.all_set;
      pushed = kept number _ pushes.pushed;
      goes = pushes.goes;
    }
pushes_more planned entries more kept from other number next pushes = absurd pushes

follows_more : (planned : PlannedShape) (entries more : List Entrance) → Kept entries more → (me : HostId)
    (from : Position) (what : Op) (next : Position) → Follows planned entries me from what next →
    Follows planned more me from what next
follows_more planned entries more kept me from (op.Push there) next follows =
    pushes_more planned entries more kept from from.calling there.0 next follows
follows_more planned entries more kept me from (op.Ask there on) next follows =
    (cuts_more planned entries more kept from there.0 next follows.0, follows.1, follows.2)
follows_more planned entries more kept me from other next follows = follows

enters_more : (planned : PlannedShape) (entries more : List Entrance) → Kept entries more → (from : Position)
    (calling : Calling) (number : ℕ) → Enters planned entries from calling number →
    Enters planned more from calling number
enters_more planned entries more kept from (entering (call heading site method arguments into rest)) number enters =
    (enters.0, enters.1, enters.2, enters.3, kept number _ enters.4)
enters_more planned entries more kept from other number enters = absurd enters

enters_with_more : (planned : PlannedShape) (entries more : List Entrance) → Kept entries more → (from : Position)
    (calling : Calling) (number : ℕ) (riders : List VarId) (on : HostId) →
    EntersWith planned entries from calling number riders on → EntersWith planned more from calling number riders on
enters_with_more planned entries more kept from (entering (call heading site method arguments into rest)) number riders
    on enters = (enters.0, enters.1, enters.2, enters.3, kept number _ enters.4)
enters_with_more planned entries more kept from other number riders on enters = absurd enters

ends_more : (planned : PlannedShape) (entries more : List Entrance) → Kept entries more → (from : Position)
    (what : Op) → Ends planned entries from what → Ends planned more from what
ends_more planned entries more kept from (op.Go there on) ends = (ends.0, kept there.0 _ ends.1)
ends_more planned entries more kept from (op.Call there on) ends =
    enters_more planned entries more kept from from.calling there.0 ends
ends_more planned entries more kept from (op.GoWith there on riders) ends =
    (ends.0, ends.1, kept there.0 _ ends.2)
ends_more planned entries more kept from (op.CallWith there on riders) ends =
    enters_with_more planned entries more kept from from.calling there.0 riders on ends
ends_more planned entries more kept from op.Back ends = ends
ends_more planned entries more kept from other ends = ends

-- ---- what stands where

-- the position of an instruction, and of what is behind it
record InstructionTyped (planned : PlannedShape) (host : HostId) (positions : List Position) (place : ℕ) (one : Emitted)
    (last : WalkKnown) : Type 0 where
  known : WalkKnown
  from : Position
  after : WalkKnown
  stands_at : slice_get positions place ≡ Some from
  trusted : IsTrustedAt planned one.host from
  typed : TypedOp planned known one.host from one.op after
  next : (position : Position) → after.place ≡ here host position → slice_get positions (suc place) ≡ Some position
  entries : Kept known.entries last.entries
  branches : Kept after.branches last.branches

instruction_there : (planned : PlannedShape) (host : HostId) (first : WalkKnown) (last : WalkKnown) → last.place
    ≡ nowhere →
    (emissions before : List Emission) (one : Emitted) (behind : List Emission) →
    emissions ≡ before ++ instruction one ∷ behind → one.host ≡ host → (typed : AreTyped planned first emissions last) →
    InstructionTyped planned host (positions_on planned host first emissions last typed)
    (length (emitted_on host before)) one last
unfolding positions_on
instruction_there planned host first last ends emissions before one behind is own typed = subst P (sym is) split typed
  where
    P : List Emission → Type 0
    P list = (typed : AreTyped planned first list last) →
        InstructionTyped planned host (positions_on planned host first list last typed)
        (length (emitted_on host before)) one last

    split : P (before ++ instruction one ∷ behind)
    split all =
        let parts = half planned host first before (instruction one ∷ behind) last all in
        let step = parts.behind.1 in
        let rest = parts.behind.2 in
        let grows = all_grow planned parts.behind.0 behind last rest in
        let one_more = one_grows planned parts.middle (instruction one) parts.behind.0 step in
        let place = length (emitted_on host before) in
        let none : place + 0 ≡ place = omega arith in
        let next : place + 1 ≡ suc place = omega arith in
        let positions = positions_on planned host first (before ++ instruction one ∷ behind) last all in
        let own_first : slice_get (positions_on planned host parts.middle (instruction one ∷ behind) last parts.behind)
        0
        ≡ Some step.0 = rw (eq-eqb one.host.0 host.0 (ap (λ it. it.0) own)) refl in
        let own_next : slice_get (positions_on planned host parts.middle (instruction one ∷ behind) last parts.behind) 1
        ≡ slice_get (positions_on planned host parts.behind.0 behind last rest) 0 =
        rw (eq-eqb one.host.0 host.0 (ap (λ it. it.0) own)) refl in
        record {
          known = parts.middle;
          from = step.0;
          after = parts.behind.0;
          stands_at = ap (slice_get positions) (sym none) ∙ parts.places 0 ∙ own_first;
          trusted = step.2;
          typed = step.3;
          next = λ position goes_on. ap (slice_get positions) (sym next) ∙ parts.places 1 ∙ own_next
              ∙ first_is planned host position parts.behind.0 behind last rest goes_on ends;
          entries = λ number position there. grown parts.behind.0.entries last.entries grows.entries number position
              (grown parts.middle.entries parts.behind.0.entries one_more.entries number position there);
          branches = λ number position there. grown parts.behind.0.branches last.branches grows.branches number position
              there;
        }

-- where an entry stands, or a branch leads
record EntryTyped (positions : List Position) (place number : ℕ) (entries : List Entrance) : Type 0 where
  position : Position
  need : ℕ
  stands_at : slice_get positions place ≡ Some position
  known : EntryIs entries number position need

record LandingTyped (positions : List Position) (place number : ℕ) (branches : List Position) : Type 0 where
  position : Position
  stands_at : slice_get positions place ≡ Some position
  known : BranchLeadsTo branches number position

entry_stands : (planned : PlannedShape) (host : HostId) (number : ℕ) (first : WalkKnown) (last : WalkKnown) →
    last.place ≡ nowhere → (emissions before behind : List Emission) →
    emissions ≡ before ++ stands host number ∷ behind →
    (typed : AreTyped planned first emissions last) →
    EntryTyped (positions_on planned host first emissions last typed) (length (emitted_on host before)) number
    last.entries
unfolding positions_on
entry_stands planned host number first last ends emissions before behind is typed = subst P (sym is) split typed
  where
    P : List Emission → Type 0
    P list = (typed : AreTyped planned first list last) →
        EntryTyped (positions_on planned host first list last typed) (length (emitted_on host before)) number
        last.entries

    split : P (before ++ stands host number ∷ behind)
    split all =
        let parts = half planned host first before (stands host number ∷ behind) last all in
        let step = parts.behind.1 in
        let rest = parts.behind.2 in
        let grows = all_grow planned parts.behind.0 behind last rest in
        let same = ap {A = WalkKnown} (λ one. one.entries) step.4 in
        let P : List Entrance → Type 0 = λ entries. EntryIs entries number step.0 step.1 in
        let place = length (emitted_on host before) in
        let none : place + 0 ≡ place = omega arith in
        record {
          position = step.0;
          need = step.1;
          stands_at = ap (slice_get (positions_on planned host first (before ++ stands host number ∷ behind) last all))
              (sym none) ∙ parts.places 0
              ∙ first_is planned host step.0 parts.behind.0 behind last rest (ap (λ one. one.place) step.4) ends;
          known = grown parts.behind.0.entries last.entries grows.entries number
              (record { position = step.0; need = step.1 }) (subst P (sym same) step.2);
        }

branch_lands : (planned : PlannedShape) (host : HostId) (number : ℕ) (first : WalkKnown) (last : WalkKnown) →
    last.place ≡ nowhere → (emissions before behind : List Emission) →
    emissions ≡ before ++ lands host number ∷ behind →
    (typed : AreTyped planned first emissions last) →
    LandingTyped (positions_on planned host first emissions last typed) (length (emitted_on host before)) number
    last.branches
unfolding positions_on
branch_lands planned host number first last ends emissions before behind is typed = subst P (sym is) split typed
  where
    P : List Emission → Type 0
    P list = (typed : AreTyped planned first list last) →
        LandingTyped (positions_on planned host first list last typed) (length (emitted_on host before)) number
        last.branches

    split : P (before ++ lands host number ∷ behind)
    split all =
        let parts = half planned host first before (lands host number ∷ behind) last all in
        let step = parts.behind.1 in
        let rest = parts.behind.2 in
        let grows = all_grow planned parts.behind.0 behind last rest in
        let same = ap {A = WalkKnown} (λ one. one.branches) step.3 in
        let P : List Position → Type 0 = λ branches. BranchLeadsTo branches number step.0 in
        let place = length (emitted_on host before) in
        let none : place + 0 ≡ place = omega arith in
        record {
          position = step.0;
          stands_at = ap (slice_get (positions_on planned host first (before ++ lands host number ∷ behind) last all))
              (sym none) ∙ parts.places 0
              ∙ first_is planned host step.0 parts.behind.0 behind last rest (ap (λ one. one.place) step.3) ends;
          known = grown parts.behind.0.branches last.branches grows.branches number step.0 (subst P (sym same) step.1);
        }

-- ---- the front

landing_before : (planned : PlannedShape) (number : ℕ) (methods : List MethodTree) (emissions : List Emission) →
    before_landing number (map (method_entry planned) methods ++ emissions)
    ≡ map (method_entry planned) methods ++ before_landing number emissions
landing_before planned number [] emissions = refl
landing_before planned number (method ∷ methods) emissions =
    ap (λ list. method_entry planned method ∷ list) (landing_before planned number methods emissions)

entry_before : (planned : PlannedShape) (number : ℕ) (methods : List MethodTree) (emissions : List Emission) →
    before_entry number (map (method_entry planned) methods ++ emissions)
    ≡ map (method_entry planned) methods ++ before_entry number emissions
entry_before planned number [] emissions = refl
entry_before planned number (method ∷ methods) emissions =
    ap (λ list. method_entry planned method ∷ list) (entry_before planned number methods emissions)

pub landing_place : (host : HostId) (labelled : Labelled) (planned : PlannedShape) (main : MethodTree) (number : ℕ)
    (emissions : List Emission) →
    length (emitted_on host (before_landing number (given labelled planned main emissions)))
    ≡ length (emitted_on host (before_landing number emissions))
landing_place host labelled planned main number emissions =
    ap (λ list. length (emitted_on host (method_entry planned main ∷ stands (home_of planned main) 0 ∷ list)))
    (landing_before planned number labelled.program.methods emissions)
    ∙ ap length (given_emitted host labelled planned main (before_landing number emissions))

pub entry_place : (host : HostId) (labelled : Labelled) (planned : PlannedShape) (main : MethodTree) (number : ℕ)
    (emissions : List Emission) →
    length (emitted_on host (before_entry (suc number) (given labelled planned main emissions)))
    ≡ length (emitted_on host (before_entry (suc number) emissions))
entry_place host labelled planned main number emissions =
    rw (ne_eqb 0 (suc number) (λ same. omega (arith, same)))
    (ap (λ list. length (emitted_on host (method_entry planned main ∷ stands (home_of planned main) 0 ∷ list)))
    (entry_before planned (suc number) labelled.program.methods emissions)
    ∙ ap length (given_emitted host labelled planned main (before_entry (suc number) emissions)))

-- ---- the table

-- The table of a typed walk.
table_of : (planned : PlannedShape) (first : WalkKnown) (emissions : List Emission) (last : WalkKnown) →
    AreTyped planned first emissions last → Table
table_of planned first emissions last typed = record {
  entries = last.entries;
  at = λ host place. unwrap_or
      (slice_get (positions_on planned (record { 0 = host }) first emissions last typed) place)
      (calm (body planned.program.main) []);
}

read_off : (planned : PlannedShape) (first : WalkKnown) (emissions : List Emission) (last : WalkKnown) →
    (typed : AreTyped planned first emissions last) (host : HostId) (place : ℕ) (position : Position) →
    slice_get (positions_on planned host first emissions last typed) place ≡ Some position →
    (table_of planned first emissions last typed).at host.0 place ≡ position
unfolding table_of
read_off planned first emissions last typed host place position is =
    ap (λ found. unwrap_or found (calm (body planned.program.main) [])) is

same_some : {X : Type 0} (one other : X) → Some one ≡ Some other → one ≡ other
same_some one other same = cc

pub same_there : {X : Type 0} (list : List X) (number : ℕ) (one other : X) → slice_get list number ≡ Some one →
    slice_get list number ≡ Some other → one ≡ other
same_there list number one other first second = same_some one other (sym first ∙ second)

-- what a walk and its typed walk give together
record Walk (labelled : Labelled) (hosts : HostsShape) (planned : PlannedShape) (main : MethodTree)
    (emissions : List Emission) : Type 0 where
  end : State
  walk : IsWalk labelled hosts planned main emissions end
  last : WalkKnown
  typed : AreTyped planned (known_start planned) emissions last
  ends : last.place ≡ nowhere

abbrev table_in : {labelled : Labelled} {hosts : HostsShape} {planned : PlannedShape} {main : MethodTree}
    {emissions : List Emission} → Walk labelled hosts planned main emissions → Table
table_in {labelled} {hosts} {planned} {main} {emissions} walk =
    table_of planned (known_start planned) emissions walk.last walk.typed

-- an instruction that the walk has keeps the law of its kind
op_typed : (labelled : Labelled) (hosts : HostsShape) (planned : PlannedShape) (main : MethodTree)
    (emissions : List Emission) (walk : Walk labelled hosts planned main emissions) (before : List Emission)
    (one : Emitted) (behind : List Emission) → emissions ≡ before ++ instruction one ∷ behind → (me : HostId) →
    one.host ≡ me → (what : Op) → one.op ≡ what →
    IsTrustedAt planned me ((table_in walk).at me.0 (length (emitted_on me before)))
    × IsTypedOp planned (table_in walk) me (length (emitted_on me before))
    (landed me (given labelled planned main emissions) what)
unfolding table_of
op_typed labelled hosts planned main emissions walk before one behind is me own what what_is =
    (trusted, by what what_is typed)
  where
    first : WalkKnown
    first = known_start planned

    place : ℕ
    place = length (emitted_on me before)

    table : Table
    table = table_in walk

    so : InstructionTyped planned me (positions_on planned me first emissions walk.last walk.typed) place one walk.last
    so = instruction_there planned me first walk.last walk.ends emissions before one behind is own walk.typed

    here_is : table.at me.0 place ≡ so.from
    here_is = read_off planned first emissions walk.last walk.typed me place so.from so.stands_at

    next_is : (next : Position) → so.after.place ≡ here me next → table.at me.0 (suc place) ≡ next
    next_is next goes_on =
        read_off planned first emissions walk.last walk.typed me (suc place) next (so.next next goes_on)

    trusted : IsTrustedAt planned me (table.at me.0 place)
    trusted =
        let P : HostId → Type 0 = λ host. IsTrustedAt planned host so.from in
        let Q : Position → Type 0 = λ position. IsTrustedAt planned me position in
        subst Q (sym here_is) (subst P own so.trusted)

    typed : TypedOp planned so.known me so.from what so.after
    typed =
        let P : HostId → Type 0 = λ host. TypedOp planned so.known host so.from what so.after in
        let Q : Op → Type 0 = λ it. TypedOp planned so.known one.host so.from it so.after in
        subst P own (subst Q what_is so.typed)

    by : (it : Op) → one.op ≡ it → TypedOp planned so.known me so.from it so.after →
        IsTypedOp planned (table_in walk) me place (landed me (given labelled planned main emissions) it)
    by (op.Branch guard number) it_is law =
        let lands_there = branch_leads labelled hosts planned main emissions walk.end walk.walk before one behind is me
        own guard number it_is in
        let marked = branch_lands planned me number first walk.last walk.ends emissions
        (before_landing number emissions)
        lands_there.behind lands_there.is walk.typed in
        let target_known : BranchLeadsTo so.after.branches number law.1 =
        (let P : List Position → Type 0 = λ list. BranchLeadsTo list number law.1 in
        let Q : ℕ → Type 0 = λ at. BranchLeadsTo (so.known.branches ++ law.1 ∷ []) at law.1 in
        subst P (sym (ap (λ known. known.branches) law.4)) (subst Q (sym law.2)
        (at_last so.known.branches law.1 []))) in
        let same = same_there walk.last.branches number marked.position law.1 marked.known
        (so.branches number law.1 target_known) in
        let target_is = ap (table.at me.0) (landing_place me labelled planned main number emissions)
        ∙ read_off planned first emissions walk.last walk.typed me
        (length (emitted_on me (before_landing number emissions)))
        marked.position marked.stands_at ∙ same in
        rw (here_is, next_is law.0 (ap (λ known. known.place) law.4), target_is) law.3
    by (op.Go there on) it_is law =
        rw here_is (ends_more planned so.known.entries walk.last.entries so.entries so.from (op.Go there on) law.0)
    by (op.Call there on) it_is law =
        rw here_is (ends_more planned so.known.entries walk.last.entries so.entries so.from (op.Call there on) law.0)
    by op.Back it_is law =
        rw here_is (ends_more planned so.known.entries walk.last.entries so.entries so.from op.Back law.0)
    by (op.GoWith there on riders) it_is law =
        rw here_is
        (ends_more planned so.known.entries walk.last.entries so.entries so.from (op.GoWith there on riders) law.0)
    by (op.CallWith there on riders) it_is law =
        rw here_is
        (ends_more planned so.known.entries walk.last.entries so.entries so.from (op.CallWith there on riders) law.0)
    by other it_is law =
        rw (here_is, next_is law.0 (ap (λ known. known.place) law.2))
        (follows_more planned so.known.entries walk.last.entries so.entries me so.from other law.0 law.1)

-- ---- the code

abbrev IsTypedThere : PlannedShape → Table → HostId → ℕ → Op → Type 0
IsTypedThere planned table me place what =
    IsTrustedAt planned me (table.at me.0 place) × IsTypedOp planned table me place what

instructions_typed : (labelled : Labelled) (hosts : HostsShape) (planned : PlannedShape) (main : MethodTree)
    (emissions : List Emission) (walk : Walk labelled hosts planned main emissions) (me : HostId) (place : ℕ)
    (there : Instr) → instruction_at (code_given labelled hosts planned main emissions) me place ≡ Some there →
    IsTypedThere planned (table_in walk) me place there.op
instructions_typed labelled hosts planned main emissions walk me place there is =
    let made = instruction_made labelled hosts planned all me place there is in
    let one = made.1 in
    let so = found me emissions place one.0
    (ap (λ list. slice_get list place) (sym (given_emitted me labelled planned main emissions)) ∙ one.1) in
    let P : ℕ → Type 0 = λ at. IsTypedThere planned (table_in walk) me at (landed me all one.0.op) in
    let Q : HostId → Type 0 = λ host. IsTypedThere planned (table_in walk) me place (landed host all one.0.op) in
    let R : Instr → Type 0 = λ it. IsTypedThere planned (table_in walk) me place it.op in
    subst R one.2 (subst Q (sym so.own) (subst P so.place
    (op_typed labelled hosts planned main emissions walk so.before one.0 so.behind so.is me so.own one.0.op refl)))
  where
    all : List Emission
    all = given labelled planned main emissions

-- ---- entries

-- what is known of an entry where it is named: its host is trusted for what is due there, and its need covers that
record NamedTyped (planned : PlannedShape) (entries : List Entrance) (number : ℕ) (named : NamedEntry) : Type 0 where
  position : Position
  is : EntryIs entries number position named.need
  trusted : AreDueOn planned named.host position.due
  covers : Covers planned named.need position.due

pub method_named : (planned : PlannedShape) (methods : List MethodTree) (place : ℕ) (named : NamedEntry) →
    slice_get (entries_in (map (method_entry planned) methods)) place ≡ Some named →
    (method : MethodTree) × (slice_get methods place ≡ Some method) × (named ≡ record {
      host = home_of planned method;
      label = method.begin;
      need = need_of planned (method.head ∷ []);
    })
method_named planned [] place named there = absurd (cc)
method_named planned (method ∷ methods) zero named there = (method, refl, sym (same_some _ _ there))
method_named planned (method ∷ methods) (suc place) named there = method_named planned methods place named there

typable_there : (planned : PlannedShape) (methods : List MethodTree) (place : ℕ) (method : MethodTree) →
    AllByRecursion (IsTypableMethod planned) methods → slice_get methods place ≡ Some method →
    IsTypableMethod planned method
typable_there planned [] place method typable there = absurd (cc)
typable_there planned (first ∷ methods) zero method typable there =
    subst (IsTypableMethod planned) (same_some first method there) typable.0
typable_there planned (first ∷ methods) (suc place) method typable there =
    typable_there planned methods place method typable.1 there

-- the entry of a method, whose home is trusted for its body
method_typed : (labelled : Labelled) (planned : PlannedShape) → labelled.program ≡ planned.program → IsTypable planned →
    (emissions : List Emission) (last : WalkKnown) → AreTyped planned (known_start planned) emissions last →
    (number : ℕ)
    (named : NamedEntry) →
    slice_get (entries_in (map (method_entry planned) labelled.program.methods)) number ≡ Some named →
    NamedTyped planned last.entries (suc number) named
method_typed labelled planned same typable emissions last typed number named there =
    let found = method_named planned labelled.program.methods number named there in
    let method = found.0 in
    let P : ProgramTree → Type 0 = λ program. slice_get program.methods number ≡ Some method in
    let own = subst P same found.1 in
    let so = typable_there planned planned.program.methods number method typable.methods own in
    let grows = all_grow planned (known_start planned) emissions last typed in
    let Q : NamedEntry → Type 0 = λ it. NamedTyped planned last.entries (suc number) it in
    subst Q (sym found.2) (record {
      position = calm (body (record { 0 = number })) (all_due method.body);
      is = grown (known_start planned).entries last.entries grows.entries (suc number) _
          (start_methods planned number method own);
      trusted = so.home;
      covers = so.covers;
    })

-- an entry that is named in the bodies
later_typed : (planned : PlannedShape) (first : WalkKnown) (last : WalkKnown) (emissions before : List Emission)
    (named : NamedEntry)
    (behind : List Emission) → emissions ≡ before ++ entry named ∷ behind →
    AreTyped planned first emissions last →
    NamedTyped planned last.entries (length first.entries + length (entries_in before)) named
later_typed planned first last emissions before named behind is typed =
    let P : List Emission → Type 0 = λ list. AreTyped planned first list last in
    let parts = half planned named.host first before (entry named ∷ behind) last (subst P is typed) in
    let step = parts.behind.1 in
    let rest = parts.behind.2 in
    let grows = all_grow planned parts.behind.0 behind last rest in
    let entrance : Entrance = record { position = step.0; need = named.need } in
    let same = ap {A = WalkKnown} (λ one. one.entries) step.4 in
    let Q : ℕ → Type 0 = λ number. EntryIs last.entries number step.0 named.need in
    let R : List Entrance → Type 0 = λ list. EntryIs list (length parts.middle.entries) step.0 named.need in
    record {
      position = step.0;
      is = subst Q parts.many (grown parts.behind.0.entries last.entries grows.entries (length parts.middle.entries)
          entrance (subst R (sym same) (at_last parts.middle.entries entrance [])));
      trusted = step.2;
      covers = step.3;
    }

named_typed : (labelled : Labelled) (hosts : HostsShape) (planned : PlannedShape) (main : MethodTree)
    (emissions : List Emission) → labelled.program ≡ planned.program → IsTypable planned →
    (walk : Walk labelled hosts planned main emissions) → (number : ℕ) (named : NamedEntry) →
    slice_get (entries_in (given labelled planned main emissions)) (suc number) ≡ Some named →
    NamedTyped planned walk.last.entries (suc number) named
named_typed labelled hosts planned main emissions same typable walk number named there =
    let methods = map (method_entry planned) labelled.program.methods in
    let either = get_append (entries_in methods) (entries_in emissions) number named
    (ap (λ list. slice_get list number) (sym (entries_append methods emissions)) ∙ there) in
    elim either [
      | inl before ↦ method_typed labelled planned same typable emissions walk.last walk.typed number named before
      | inr behind ↦
          let so = found_entry emissions behind.0 named behind.2 in
          let later = later_typed planned (known_start planned) walk.last emissions so.before named so.behind so.is
          walk.typed in
          let many = start_many planned 0 planned.program.methods in
          let own = ap {A = ProgramTree} (λ program. length (entries_in (map (method_entry planned) program.methods)))
          same in
          let place = so.place in
          let sum : length (known_start planned).entries + length (entries_in so.before) ≡ suc number =
          let is = behind.1 in omega arith in
          let P : ℕ → Type 0 = λ at. NamedTyped planned walk.last.entries at named in
          subst P sum later
    ]

entries_typed : (labelled : Labelled) (hosts : HostsShape) (planned : PlannedShape) (main : MethodTree)
    (emissions : List Emission) → labelled.program ≡ planned.program → IsTypable planned →
    (walk : Walk labelled hosts planned main emissions) → (number : ℕ) (there : Entry) →
    slice_get (code_given labelled hosts planned main emissions).entries (suc number) ≡ Some there →
    IsTypedEntry planned (table_in walk) (suc number) there
unfolding table_of
entries_typed labelled hosts planned main emissions same typable walk number there is =
    let all = given labelled planned main emissions in
    let first = known_start planned in
    let made = entry_made (code_labels labelled all) all (suc number) there is in
    let named = made.0 in
    let so = others_stand labelled hosts planned main emissions walk.end walk.walk number named made.1 in
    let marked = entry_stands planned named.host (suc number) first walk.last walk.ends emissions
    (before_entry (suc number) emissions) so.1.behind so.1.is walk.typed in
    let own = named_typed labelled hosts planned main emissions same typable walk number named made.1 in
    let one : Entrance = record { position = marked.position; need = marked.need } in
    let other : Entrance = record { position = own.position; need = named.need } in
    let both : one ≡ other = same_there walk.last.entries (suc number) one other marked.known own.is in
    let position_is : marked.position ≡ own.position = ap (λ entrance. entrance.position) both in
    let at = read_off planned first emissions walk.last walk.typed named.host
    (length (emitted_on named.host (before_entry (suc number) emissions))) marked.position marked.stands_at in
    let place = entry_place named.host labelled planned main number emissions in
    let P : Entry → Type 0 = λ it. IsTypedEntry planned (table_in walk) (suc number) it in
    subst P (sym made.2) (record {
      position = own.position;
      is = own.is;
      is_calm = calm_there walk.last.entries (suc number) other
          (all_calm planned first emissions walk.last walk.typed (start_calm planned)) own.is;
      stands = ap ((table_in walk).at named.host.0) place ∙ at ∙ position_is;
      trusted = own.trusted;
      covers = own.covers;
    })

as_many : (labelled : Labelled) (hosts : HostsShape) (planned : PlannedShape) (main : MethodTree)
    (emissions : List Emission) → labelled.program ≡ planned.program →
    (walk : Walk labelled hosts planned main emissions) →
    length (table_in walk).entries ≡ length (code_given labelled hosts planned main emissions).entries
unfolding table_of
as_many labelled hosts planned main emissions same walk =
    let all = given labelled planned main emissions in
    let labels = code_labels labelled all in
    let methods = map (method_entry planned) labelled.program.methods in
    let first = entries_many planned (known_start planned) emissions walk.last walk.typed in
    let start = start_many planned 0 planned.program.methods in
    let own = ap {A = ProgramTree} (λ program. length (entries_in (map (method_entry planned) program.methods))) same in
    let parts = ap length (entries_append methods emissions)
    ∙ length-append (entries_in methods) (entries_in emissions) in
    let read = ap length (entries_numbered labels all 0 (entries_in all))
    ∙ length-numbered (code_entry labels all) 0 (entries_in all) in
    omega arith

code_typed : (labelled : Labelled) (hosts : HostsShape) (planned : PlannedShape) (main : MethodTree)
    (emissions : List Emission) → labelled.program ≡ planned.program → IsTypable planned →
    (walk : Walk labelled hosts planned main emissions) →
    IsTypedCode planned (code_given labelled hosts planned main emissions) (table_in walk)
unfolding table_of
code_typed labelled hosts planned main emissions same typable walk =
    let first = (known_start planned).entries in
    let grows = all_grow planned (known_start planned) emissions walk.last walk.typed in
    record {
      many = as_many labelled hosts planned main emissions same walk;
      halts = grown first walk.last.entries grows.entries 0 _ refl;
      methods = λ place tree is. grown first walk.last.entries grows.entries (suc place) _
          (start_methods planned place tree is);
      entries = entries_typed labelled hosts planned main emissions same typable walk;
      instructions = instructions_typed labelled hosts planned main emissions walk;
    }

-- The code of a split program has a table with which it is typed.
pub split_is_typed : (placed : PlacedProgram) → IsSplittable placed → IsTypable (planned_from placed) →
    (table : Table) × IsTypedCode (planned_from placed) (split_code placed) table
split_is_typed placed splittable typable =
    subst P (sym (front_is placed.labelled planned main splittable.numbered.main.1))
    (table_in walk, code_typed placed.labelled placed.hosts planned main emissions refl typable walk)
  where
    planned : PlannedShape
    planned = planned_from placed

    main : MethodTree
    main = splittable.numbered.main.0

    emissions : List Emission
    emissions = methods_emissions placed.hosts.principals placed.labelled planned
        (counts_after (record { entries = 0; branches = 0 }) (front_emissions placed.labelled planned)) 0
        placed.labelled.program.methods

    walk : Walk placed.labelled placed.hosts planned main emissions
    walk =
        let goes = program_goes placed splittable in
        let typed = program_typed placed splittable.numbered (scope_there placed splittable).statements typable in
        record {
          end = goes.0;
          walk = walk_there placed emissions goes.0 splittable goes.1 goes.2;
          last = typed.0;
          typed = typed.2;
          ends = typed.1;
        }

    P : List Emission → Type 0
    P front = (table : Table) × IsTypedCode planned (code_of_emissions placed.labelled placed.hosts planned (front
        ++ emissions)) table
