-- The code of a split program has a table of shades, which is read off the shaded walk.
use Rattle.std.proofs.Common.{◌≡◌, ◌∙◌, ℕ, zero, suc, inl, inr, ◌+◌, ◌<◌, Bool, false, List, [], ◌∷◌, ◌++◌, map}
use Rattle.std.proofs.Common.{length, refl, ap, sym, subst, arith, length-append, append_assoc}
use Rattle.std.proofs.Common.{option_map}
use Rattle.std.proofs.lemmas.Bool.{cases_lt}
use Rattle.std.proofs.lemmas.List.FromFn.{length-map-range_with_len}
use Rattle.std.proofs.lemmas.Option.{slice_get-map, slice_get_past}
use Rattle.std.specs.List.{range_with_len}
use Rattle.std.specs.Prelude.{Option, Some, None, IfSome, slice_get, unwrap_or}
use Rattle.js_base.specs.declared.ids.HostId.{HostId}
use Rattle.label_lattice.specs.declared.label.Label.{Label}
use Rattle.label_lattice.specs.Lattice.{empty_label}
use Rattle.host_decl.specs.Hosts.{HostsShape}
use Rattle.jif_tree.specs.Trees.{MethodTree}
use Rattle.jif_tree.specs.LabelRules.{method_at, begin_label}
use Rattle.host_code.specs.declared.code.Entry.{Entry}
use Rattle.host_code.specs.declared.code_expr.Node.{Node}
use Rattle.host_code.specs.declared.instruction.Instr.{Instr}
use Rattle.host_code.specs.declared.instruction.Op.{Op}
use Rattle.host_code.specs.declared.instruction.Op.TheVariants as op
use Rattle.host_code.specs.Code.{CodeShape, instruction_at}
use Rattle.msg_cost.specs.Moves.{PlannedShape, home_of}
use Rattle.split_rules.specs.Placed.{PlacedProgram, planned_from}
use Rattle.split_rules.specs.Allowed.{IsAllowed}
use Rattle.split_rules.specs.Emissions.{Emission, instruction, stands, lands, Emitted, counts_after, NamedEntry, entry}
use Rattle.split_rules.specs.Flow.{State}
use Rattle.split_rules.specs.Held.{IsWellHeld}
use Rattle.split_rules.specs.Positions.{body}
use Rattle.split_rules.specs.SplitCode.{emitted_on, entries_in, before_entry, before_landing, landed, code_labels}
use Rattle.split_rules.specs.SplitCode.{placed_instruction, code_of_emissions, split_code}
use Rattle.split_rules.specs.Releases.{operands_at, released_on, releases_by, releases_of}
use Rattle.split_rules.specs.Splittable.{IsSplittable}
use Rattle.split_rules.specs.Walk.{methods_emissions, method_entry}
use Rattle.split_rules.specs.WalkStart.{front_emissions}
use Rattle.split_rules.proofs.CodeItems.{code_entry, entries_numbered}
use Rattle.split_rules.proofs.Fronts.{front_of, IsWalk, front_is, walk_there, others_stand, get_append}
use Rattle.split_rules.proofs.NumberedLists.{length-numbered, number_there}
use Rattle.split_rules.proofs.Places.{found, found_entry, entries_append}
use Rattle.split_rules.proofs.SeenPrograms.{program_tells_well, all_there}
use Rattle.split_rules.proofs.SoundParts.{given, code_given, given_emitted, entry_made}
use Rattle.split_rules.proofs.SoundInstructions.{instruction_made, branch_leads}
use Rattle.split_rules.proofs.ToldCode.{emission_labelled}
use Rattle.split_rules.proofs.ToldEmissions.{entry_of}
use Rattle.split_rules.proofs.ToldWalks.{MethodTellsWell}
use Rattle.split_rules.proofs.TypedSplit.{landing_place, entry_place, same_there, method_named}
use Rattle.split_rules.proofs.WalkedMoves.{at_last}
use Rattle.split_rules.proofs.WalkedPrograms.{program_goes}
use Rattle.split_shades.specs.Flows.{IsSeenOn, AreResultsLabelled}
use Rattle.split_shades.specs.ShadedCode.{Shades, IsShadedOp, IsShadedAt, IsShadedEntry, IsShadedCode}
use Rattle.split_shades.specs.ShadedCode.{ReleaseNothing, IsTabled}
use Rattle.split_shades.specs.Shades.{Shade, EntryShade, Ahead, MeetsShade, ahead_of}
use Rattle.split_shades.specs.Shading.{Scene, IsShade, IsEntryShade, FollowsInShade, DividesInShade, EndsInShade}
use Rattle.split_shades.specs.Shading.{nowhere, here}
use Rattle.split_shades.specs.Shading.{ShadeKnown, ShadedOp, Shaded, AreShaded, method_shade, method_shades}
use Rattle.split_shades.specs.Shading.{halt_shade, shades_start}
use Rattle.split_shades.specs.Sites.{ReleasesNothing, scene_of}
use Rattle.split_shades.proofs.BasisLabels.{flows_self}
use Rattle.split_shades.proofs.ForwardExits.{exit_behind}
use Rattle.split_shades.proofs.ReadOff.{items_on, half, InstructionRead, instruction_read, stands_read, lands_read}
use Rattle.split_shades.proofs.ShadedPlaces.{Kept, kept_then, step_keeps, steps_keep, entries_many, shade_more}
use Rattle.split_shades.proofs.ShadedPlaces.{entry_more}
use Rattle.split_shades.proofs.ShadedPlaces.{follows_more, ends_more, shade_of, Goes, Meet, not_nowhere, shades_go_on}
use Rattle.split_shades.proofs.ShadedPrograms.{start_named, program_shaded}

-- ---- the table

-- a shade for places at which no instruction stands
abbrev no_shade : Shade
no_shade = record {
  level = body (record { 0 = 0 });
  pc = empty_label;
  block = empty_label;
  guard = None;
  temps = [];
  calls = false;
  released = [];
}

abbrev shades_on : (scene : Scene) (host : HostId) (first : ShadeKnown) (emissions : List Emission)
    (last : ShadeKnown) →
    AreShaded scene first emissions last → List Shade
shades_on scene host first emissions last so = items_on (Shaded scene) (shade_of scene) host first emissions last so

-- The table of a shaded walk.
table_of : (scene : Scene) (first : ShadeKnown) (emissions : List Emission) (last : ShadeKnown) →
    AreShaded scene first emissions last → Shades
table_of scene first emissions last so = record {
  entries = last.entries;
  at = λ host place. unwrap_or (slice_get (shades_on scene host first emissions last so) place) no_shade;
  exits = λ host number. length (emitted_on host (before_landing number emissions));
}

read_off : (scene : Scene) (first : ShadeKnown) (emissions : List Emission) (last : ShadeKnown) →
    (so : AreShaded scene first emissions last) (host : HostId) (place : ℕ) (shade : Shade) →
    slice_get (shades_on scene host first emissions last so) place ≡ Some shade →
    (table_of scene first emissions last so).at host place ≡ shade
unfolding table_of
read_off scene first emissions last so host place shade is = ap (λ found. unwrap_or found no_shade) is

-- what a walk and its shaded walk give together
record Walk (scene : Scene) (hosts : HostsShape) (main : MethodTree) (emissions : List Emission) : Type 0 where
  end : State
  walk : IsWalk scene.basis.labelled hosts scene.planned main emissions end
  last : ShadeKnown
  shaded : AreShaded scene (shades_start scene.basis.labelled.program) emissions last
  ends : last.place ≡ nowhere

abbrev table_in : {scene : Scene} {hosts : HostsShape} {main : MethodTree} {emissions : List Emission} →
    Walk scene hosts main emissions → Shades
table_in {scene} {hosts} {main} {emissions} walk =
    table_of scene (shades_start scene.basis.labelled.program) emissions walk.last walk.shaded

-- nothing goes on behind a walk
nobody_goes : (host : HostId) (last : ShadeKnown) → last.place ≡ nowhere → Goes last host → ⊥
nobody_goes host last ends goes = not_nowhere host goes.0 (sym goes.1 ∙ ends)

-- ---- instructions

exits_there : (guard : Option ℕ) (number target : ℕ) (exits : ℕ → ℕ) → target ≡ exits number →
    IfSome guard (λ own. own ≡ number) → IfSome guard (λ own. target ≡ exits own)
exits_there None number target exits is own = tt
exits_there (Some it) number target exits is own = is ∙ ap exits (sym own)

-- an instruction that the walk has keeps the law of its kind
op_shaded : (scene : Scene) (hosts : HostsShape) (main : MethodTree) (emissions : List Emission)
    (walk : Walk scene hosts main emissions) (before : List Emission) (one : Emitted) (behind : List Emission) →
    emissions ≡ before ++ instruction one ∷ behind → (me : HostId) → one.host ≡ me → (what : Op) → one.op ≡ what →
    let place = length (emitted_on me before) in
    let shade = (table_in walk).at me place in
    (shade.pc ≡ one.label) × IsShade scene walk.last.entries shade
    × IfSome shade.guard (λ own. place < (table_in walk).exits me own)
    × IsShadedOp scene (table_in walk) me place (landed me (given scene.basis.labelled scene.planned main emissions)
    what)
unfolding table_of
op_shaded scene hosts main emissions walk before one behind is me own what what_is =
    (ap (λ it. it.pc) here_is ∙ so.step.label_is, is_shade, exits, by what what_is law)
  where
    first : ShadeKnown
    first = shades_start scene.basis.labelled.program

    last : ShadeKnown
    last = walk.last

    place : ℕ
    place = length (emitted_on me before)

    table : Shades
    table = table_in walk

    so : InstructionRead (Shaded scene) (shade_of scene) Goes Meet me first before one behind walk.last
        (shades_on scene me first emissions walk.last walk.shaded)
    so = instruction_read (Shaded scene) (shade_of scene) Goes Meet (shades_go_on scene) me first emissions before one
        behind walk.last is own (nobody_goes me walk.last walk.ends) walk.shaded

    shade : Shade
    shade = so.step.shade

    here_is : table.at me place ≡ shade
    here_is = read_off scene first emissions walk.last walk.shaded me place shade so.stands_at

    kept : Kept so.known.entries walk.last.entries
    kept = kept_then so.known.entries so.after.entries walk.last.entries
        (step_keeps scene so.known (instruction one) so.after so.step).entries
        (steps_keep scene so.after behind walk.last so.from).entries

    next_meets : (next : Ahead) → so.after.place ≡ here me next → MeetsShade next (table.at me (suc place))
    next_meets next goes_on =
        let there = so.next (next, goes_on) in
        let P : Shade → Type 0 = λ it. MeetsShade next it in
        subst P (sym (read_off scene first emissions walk.last walk.shaded me (suc place) there.0 there.1))
        (there.2 next goes_on)

    is_shade : IsShade scene walk.last.entries (table.at me place)
    is_shade =
        let P : Shade → Type 0 = λ it. IsShade scene walk.last.entries it in
        subst P (sym here_is) (shade_more scene so.known.entries walk.last.entries kept shade so.step.is_shade)

    exits : IfSome (table.at me place).guard (λ own. place < table.exits me own)
    exits =
        let P : List Emission → Type 0 = λ list. IfSome shade.guard
        (λ own. place < length (emitted_on me (before_landing own list))) in
        let Q : Shade → Type 0 = λ it. IfSome it.guard (λ own. place < table.exits me own) in
        subst Q (sym here_is) (subst P (sym is)
        (exit_behind scene me first before so.known one behind so.after refl so.to so.step own))

    law : ShadedOp scene so.known me shade what so.after
    law =
        let P : HostId → Type 0 = λ host. ShadedOp scene so.known host shade what so.after in
        let Q : Op → Type 0 = λ it. ShadedOp scene so.known one.host shade it so.after in
        subst P own (subst Q what_is so.step.law)

    by : (it : Op) → one.op ≡ it → ShadedOp scene so.known me shade it so.after →
        IsShadedOp scene table me place (landed me (given scene.basis.labelled scene.planned main emissions) it)
    by (op.Branch guard number) it_is so_law =
        let labelled = scene.basis.labelled in
        let lands_there = branch_leads labelled hosts scene.planned main emissions walk.end walk.walk before one behind
        is me own guard number it_is in
        let marked = lands_read (Shaded scene) (shade_of scene) Goes Meet (shades_go_on scene) me me number first
        emissions
        (before_landing number emissions) lands_there.behind walk.last lands_there.is (nobody_goes me walk.last
        walk.ends) walk.shaded in
        let later = steps_keep scene so.after behind walk.last so.from in
        let marked_later = kept_then marked.known.branches marked.after.branches walk.last.branches
        (step_keeps scene marked.known (lands me number) marked.after marked.step).branches
        (steps_keep scene marked.after lands_there.behind walk.last marked.from).branches in
        let opened : slice_get so.after.branches number ≡ Some so_law.1 =
        (let P : List Ahead → Type 0 = λ list. slice_get list number ≡ Some so_law.1 in
        let Q : ℕ → Type 0 = λ at. slice_get (so.known.branches ++ so_law.1 ∷ []) at ≡ Some so_law.1 in
        subst P (sym (ap (λ known. known.branches) so_law.6)) (subst Q (sym so_law.2)
        (at_last so.known.branches so_law.1 []))) in
        let same = same_there walk.last.branches number marked.step.0 so_law.1
        (marked_later number marked.step.0 marked.step.1) (later.branches number so_law.1 opened) in
        let comes : marked.after.place ≡ here me marked.step.0 = ap (λ known. known.place) marked.step.3 in
        let there = marked.next (marked.step.0, comes) in
        let target = length (emitted_on me (before_landing number (given labelled scene.planned main emissions))) in
        let exit = length (emitted_on me (before_landing number emissions)) in
        let target_is : target ≡ exit = landing_place me labelled scene.planned main number emissions in
        let P : Ahead → Type 0 = λ it. MeetsShade it there.0 in
        let Q : Shade → Type 0 = λ it. MeetsShade so_law.1 it in
        let meets_exit = subst Q (sym (read_off scene first emissions walk.last walk.shaded me exit there.0 there.1))
        (subst P same (there.2 marked.step.0 comes)) in
        let R : ℕ → Type 0 = λ at. MeetsShade so_law.1 (table.at me at) in
        let S : Shade → Type 0 = λ it. (next : Ahead) × (other : Ahead) × (it.calls ≡ false)
        × DividesInShade scene it guard it.guard next other
        × MeetsShade next (table.at me (suc place)) × MeetsShade other (table.at me target)
        × IfSome it.guard (λ own. target ≡ table.exits me own) in
        subst S (sym here_is) (
          so_law.0,
          so_law.1,
          so_law.3,
          so_law.5,
          next_meets so_law.0 (ap (λ known. known.place) so_law.6),
          subst R (sym target_is) meets_exit,
          exits_there shade.guard number target (table.exits me) target_is so_law.4,
        )
    by (op.Go there on) it_is so_law =
        let P : Shade → Type 0 = λ it. EndsInShade scene walk.last.entries it (op.Go there on) in
        subst P (sym here_is) (ends_more scene so.known.entries walk.last.entries kept shade (op.Go there on) so_law.0)
    by (op.Call there on) it_is so_law =
        let P : Shade → Type 0 = λ it. EndsInShade scene walk.last.entries it (op.Call there on) in
        subst P (sym here_is) (ends_more scene so.known.entries walk.last.entries kept shade (op.Call there on)
        so_law.0)
    by op.Back it_is so_law =
        let P : Shade → Type 0 = λ it. EndsInShade scene walk.last.entries it op.Back in
        subst P (sym here_is) (ends_more scene so.known.entries walk.last.entries kept shade op.Back so_law.0)
    by (op.GoWith there on riders) it_is so_law =
        let P : Shade → Type 0 = λ it. EndsInShade scene walk.last.entries it (op.GoWith there on riders) in
        subst P (sym here_is) (ends_more scene so.known.entries walk.last.entries kept shade
        (op.GoWith there on riders) so_law.0)
    by (op.CallWith there on riders) it_is so_law =
        let P : Shade → Type 0 = λ it. EndsInShade scene walk.last.entries it (op.CallWith there on riders) in
        subst P (sym here_is) (ends_more scene so.known.entries walk.last.entries kept shade
        (op.CallWith there on riders) so_law.0)
    by other it_is so_law =
        let P : Shade → Type 0 = λ it. FollowsInShade scene walk.last.entries me it other so_law.0 in (
          so_law.0,
          subst P (sym here_is)
              (follows_more scene so.known.entries walk.last.entries kept me shade other so_law.0 so_law.1),
          next_meets so_law.0 (ap (λ known. known.place) so_law.2),
        )

instructions_shaded : (scene : Scene) (hosts : HostsShape) (main : MethodTree) (emissions : List Emission)
    (walk : Walk scene hosts main emissions) (me : HostId) (place : ℕ) (there : Instr) →
    instruction_at (code_given scene.basis.labelled hosts scene.planned main emissions) me place ≡ Some there →
    IsShadedAt scene (code_given scene.basis.labelled hosts scene.planned main emissions) (table_in walk) me place there
unfolding table_of
instructions_shaded scene hosts main emissions walk me place there is =
    let labelled = scene.basis.labelled in
    let made = instruction_made scene.basis.labelled hosts scene.planned all me place there is in
    let one = made.1 in
    let so = found me emissions place one.0
    (ap (λ list. slice_get list place) (sym (given_emitted me labelled scene.planned main emissions)) ∙ one.1) in
    let law = op_shaded scene hosts main emissions walk so.before one.0 so.behind so.is me so.own one.0.op refl in
    let whole : all ≡ (front ++ so.before) ++ instruction one.0 ∷ so.behind =
    ap (λ list. front ++ list) so.is ∙ sym (append_assoc front so.before (instruction one.0 ∷ so.behind)) in
    let label_is = emission_labelled labelled hosts scene.planned all (front ++ so.before) (instruction one.0)
    so.behind whole one.0.label (inl refl) in
    let P : ℕ → Type 0 = λ at. IsShadedAt scene code (table_in walk) me at (placed_instruction labels all one.0) in
    let Q : HostId → Type 0 = λ host. IsShadedOp scene (table_in walk) me (length (emitted_on me so.before))
    (landed host all one.0.op) in
    let R : Instr → Type 0 = λ it. IsShadedAt scene code (table_in walk) me place it in
    subst R one.2 (subst P so.place (record {
      label_is = label_is ∙ ap Some (sym law.0);
      is_shade = law.1;
      exits = law.2;
      law = subst Q (sym so.own) law.3;
    }))
  where
    code : CodeShape
    code = code_given scene.basis.labelled hosts scene.planned main emissions

    all : List Emission
    all = given scene.basis.labelled scene.planned main emissions

    labels : List Label
    labels = code_labels scene.basis.labelled all

    front : List Emission
    front = front_of scene.planned main scene.basis.labelled.program.methods

-- ---- releases

-- an instruction that the walk has releases what its shade says
released_there : (scene : Scene) (hosts : HostsShape) (main : MethodTree) (emissions : List Emission)
    (walk : Walk scene hosts main emissions) (me : HostId) (place : ℕ) (one : Emitted) →
    slice_get (emitted_on me emissions) place ≡ Some one → ((table_in walk).at me place).released ≡ one.released
unfolding table_of
released_there scene hosts main emissions walk me place one is =
    let first = shades_start scene.basis.labelled.program in
    let so = found me emissions place one is in
    let read = instruction_read (Shaded scene) (shade_of scene) Goes Meet (shades_go_on scene) me first emissions
    so.before one so.behind walk.last so.is so.own (nobody_goes me walk.last walk.ends) walk.shaded in
    let at_is = read_off scene first emissions walk.last walk.shaded me (length (emitted_on me so.before))
    read.step.shade read.stands_at in
    let P : ℕ → Type 0 = λ at. ((table_in walk).at me at).released ≡ one.released in
    subst P so.place (ap (λ shade. shade.released) at_is ∙ read.step.released_is)

-- and nothing, where the program releases nothing
none_there : (scene : Scene) (hosts : HostsShape) (main : MethodTree) (emissions : List Emission)
    (walk : Walk scene hosts main emissions) (me : HostId) (place : ℕ) (one : Emitted) → scene.may_release ≡ false →
    slice_get (emitted_on me emissions) place ≡ Some one → one.released ≡ []
none_there scene hosts main emissions walk me place one silent is =
    let first = shades_start scene.basis.labelled.program in
    let so = found me emissions place one is in
    let read = instruction_read (Shaded scene) (shade_of scene) Goes Meet (shades_go_on scene) me first emissions
    so.before one so.behind walk.last so.is so.own (nobody_goes me walk.last walk.ends) walk.shaded in
    sym read.step.released_is ∙ read.step.is_shade.silent silent

-- the row of a place in the table of releases
abbrev row_of : Option Emitted → List (List Node)
row_of found = unwrap_or (option_map (λ (it : Emitted). it.released) found) []

row_at : (hosts : HostsShape) (emissions : List Emission) (me : HostId) (place : ℕ) → me.0 < length hosts.hosts →
    operands_at (releases_by hosts emissions) me place ≡ row_of (slice_get (emitted_on me emissions) place)
row_at hosts emissions me place within =
    let make : ℕ → List (List (List Node)) = λ number. released_on emissions (record { 0 = number }) in
    let released : Emitted → List (List Node) = λ it. it.released in
    let numbers = range_with_len 0 (length hosts.hosts) in
    let row : slice_get (releases_by hosts emissions) me.0 ≡ Some (released_on emissions me) =
    slice_get-map make numbers me.0 ∙ ap (option_map make) (number_there (length hosts.hosts) me.0 within) in
    ap (λ own. unwrap_or (slice_get (unwrap_or own []) place) []) row
    ∙ ap (λ operands. unwrap_or operands []) (slice_get-map released (emitted_on me emissions) place)

row_there : (hosts : HostsShape) (emissions : List Emission) (me : HostId) (place : ℕ) (one : Emitted) →
    me.0 < length hosts.hosts → slice_get (emitted_on me emissions) place ≡ Some one →
    operands_at (releases_by hosts emissions) me place ≡ one.released
row_there hosts emissions me place one within is = row_at hosts emissions me place within ∙ ap row_of is

-- no place has a row where no emission there releases anything
no_row : (hosts : HostsShape) (emissions : List Emission) (me : HostId) (place : ℕ) →
    ((one : Emitted) → slice_get (emitted_on me emissions) place ≡ Some one → one.released ≡ []) →
    operands_at (releases_by hosts emissions) me place ≡ []
no_row hosts emissions me place each =
    elim (cases_lt me.0 (length hosts.hosts)) [
      | inl within ↦ row_at hosts emissions me place within ∙ by (slice_get (emitted_on me emissions) place) refl
      | inr past ↦ ap (λ own. unwrap_or (slice_get (unwrap_or own []) place) [])
          (slice_get_past (releases_by hosts emissions) me.0 (omega (arith, past, long)))
    ]
  where
    make : ℕ → List (List (List Node))
    make number = released_on emissions (record { 0 = number })

    long : length (releases_by hosts emissions) ≡ length hosts.hosts
    long = length-map-range_with_len make 0 (length hosts.hosts)

    by : (found : Option Emitted) → slice_get (emitted_on me emissions) place ≡ found → row_of found ≡ []
    by None is = refl
    by (Some one) is = each one is

code_silent : (scene : Scene) (hosts : HostsShape) (main : MethodTree) (emissions : List Emission)
    (walk : Walk scene hosts main emissions) → scene.may_release ≡ false → (me : HostId) (place : ℕ) →
    operands_at (releases_by hosts (given scene.basis.labelled scene.planned main emissions)) me place ≡ []
code_silent scene hosts main emissions walk silent me place =
    let labelled = scene.basis.labelled in
    no_row hosts (given labelled scene.planned main emissions) me place
    (λ one is. none_there scene hosts main emissions walk me place one silent
    (ap (λ list. slice_get list place) (sym (given_emitted me labelled scene.planned main emissions)) ∙ is))

code_tabled : (scene : Scene) (hosts : HostsShape) (main : MethodTree) (emissions : List Emission)
    (walk : Walk scene hosts main emissions) →
    IsTabled (code_given scene.basis.labelled hosts scene.planned main emissions) (table_in walk)
    (releases_by hosts (given scene.basis.labelled scene.planned main emissions))
code_tabled scene hosts main emissions walk me place there is =
    let labelled = scene.basis.labelled in
    let all = given labelled scene.planned main emissions in
    let made = instruction_made labelled hosts scene.planned all me place there is in
    let one = made.1.0 in
    let own = ap (λ list. slice_get list place) (sym (given_emitted me labelled scene.planned main emissions))
    ∙ made.1.1 in
    released_there scene hosts main emissions walk me place one own
    ∙ sym (row_there hosts all me place one made.0 made.1.1)

-- ---- entries

-- what is known of an entry where it is named
record NamedShaded (scene : Scene) (entries : List EntryShade) (number : ℕ) (named : NamedEntry) : Type 0 where
  it : EntryShade
  is : slice_get entries number ≡ Some it
  label_is : it.label ≡ named.label
  is_shade : IsEntryShade scene entries named.host it

-- an entry that is named in the bodies
later_shaded : (scene : Scene) (first last : ShadeKnown) (emissions before : List Emission) (named : NamedEntry)
    (behind : List Emission) → emissions ≡ before ++ entry named ∷ behind → AreShaded scene first emissions last →
    NamedShaded scene last.entries (length first.entries + length (entries_in before)) named
later_shaded scene first last emissions before named behind is so =
    let P : List Emission → Type 0 = λ list. AreShaded scene first list last in
    let parts = half (Shaded scene) (shade_of scene) named.host first before (entry named ∷ behind) last (subst P is
    so) in
    let step = parts.behind.1 in
    let rest = steps_keep scene parts.behind.0 behind last parts.behind.2 in
    let kept = kept_then parts.middle.entries parts.behind.0.entries last.entries
    (step_keeps scene parts.middle (entry named) parts.behind.0 step).entries rest.entries in
    let many = entries_many scene first before parts.middle parts.before in
    let Q : ℕ → Type 0 = λ number. slice_get last.entries number ≡ Some step.0 in
    let R : List EntryShade → Type 0 = λ list. slice_get list (length parts.middle.entries) ≡ Some step.0 in
    record {
      it = step.0;
      is = subst Q many (rest.entries (length parts.middle.entries) step.0
          (subst R (sym (ap (λ one. one.entries) step.3)) (at_last parts.middle.entries step.0 [])));
      label_is = step.1;
      is_shade = entry_more scene parts.middle.entries last.entries kept named.host step.0 step.2;
    }

-- the entries of methods, whose homes see their begin labels
record Homes (scene : Scene) (main : MethodTree) : Type 0 where
  main_is : method_at scene.basis.labelled.program scene.basis.labelled.program.main ≡ Some main
  see : (place : ℕ) (tree : MethodTree) → slice_get scene.basis.labelled.program.methods place ≡ Some tree →
      IsSeenOn scene.planned (home_of scene.planned tree) tree.begin

-- an entry with the begin label of a method, of whose token is held there
begin_shaded : (scene : Scene) (entries : List EntryShade) (place : ℕ) (tree : MethodTree) →
    slice_get entries (suc place) ≡ Some (method_shade place tree) →
    IsSeenOn scene.planned (home_of scene.planned tree) tree.begin →
    IsEntryShade scene entries (home_of scene.planned tree) (method_shade place tree)
begin_shaded scene entries place tree is sees = record {
  level = (tree.begin, (method_shade place tree, is, refl), flows_self tree.begin, flows_self tree.begin);
  pushed = tt;
  seen = sees;
}

-- what is known at the start is known at the end
start_kept : (scene : Scene) (hosts : HostsShape) (main : MethodTree) (emissions : List Emission) →
    (walk : Walk scene hosts main emissions) →
    Kept (shades_start scene.basis.labelled.program).entries walk.last.entries
start_kept scene hosts main emissions walk =
    (steps_keep scene (shades_start scene.basis.labelled.program) emissions walk.last walk.shaded).entries

methods_there : (scene : Scene) (hosts : HostsShape) (main : MethodTree) (emissions : List Emission) →
    (walk : Walk scene hosts main emissions) → (place : ℕ) (tree : MethodTree) →
    slice_get scene.basis.labelled.program.methods place ≡ Some tree →
    slice_get walk.last.entries (suc place) ≡ Some (method_shade place tree)
methods_there scene hosts main emissions walk place tree is =
    start_kept scene hosts main emissions walk (suc place) _ (start_named scene place tree is)

halts_there : (scene : Scene) (hosts : HostsShape) (main : MethodTree) (emissions : List Emission) →
    (walk : Walk scene hosts main emissions) →
    slice_get walk.last.entries 0 ≡ Some (halt_shade scene.basis.labelled.program)
halts_there scene hosts main emissions walk = start_kept scene hosts main emissions walk 0 _ refl

method_many : (planned : PlannedShape) (number : ℕ) (methods : List MethodTree) →
    length (method_shades number methods) ≡ length (entries_in (map (method_entry planned) methods))
method_many planned number [] = refl
method_many planned number (method ∷ methods) = ap suc (method_many planned (suc number) methods)

named_shaded : (scene : Scene) (hosts : HostsShape) (main : MethodTree) (emissions : List Emission) →
    (walk : Walk scene hosts main emissions) → Homes scene main → (number : ℕ) (named : NamedEntry) →
    slice_get (entries_in (given scene.basis.labelled scene.planned main emissions)) number ≡ Some named →
    NamedShaded scene walk.last.entries number named
named_shaded scene hosts main emissions walk homes zero named there =
    let program = scene.basis.labelled.program in
    let planned = scene.planned in
    let begin : begin_label (method_at program program.main) ≡ main.begin = ap begin_label homes.main_is in
    let sees = homes.see program.main.0 main homes.main_is in
    let main_there = methods_there scene hosts main emissions walk program.main.0 main homes.main_is in
    let P : Label → Type 0 = λ label. IsEntryShade scene walk.last.entries (home_of planned main)
    (record { level = body program.main; block = label; label = label; pushed = None; begun = None }) in
    let Q : NamedEntry → Type 0 = λ it. NamedShaded scene walk.last.entries 0 it in
    let is_named : entry_of planned main ≡ named = cc in
    subst Q is_named (record {
      it = halt_shade program;
      is = halts_there scene hosts main emissions walk;
      label_is = begin;
      is_shade = subst P (sym begin) (record {
        level = (
          main.begin,
          (method_shade program.main.0 main, main_there, refl),
          flows_self main.begin,
          flows_self main.begin,
        );
        pushed = tt;
        seen = sees;
      });
    })
named_shaded scene hosts main emissions walk homes (suc number) named there =
    let labelled = scene.basis.labelled in
    let planned = scene.planned in
    let first = shades_start labelled.program in
    let methods = map (method_entry planned) labelled.program.methods in
    let either = get_append (entries_in methods) (entries_in emissions) number named
    (ap (λ list. slice_get list number) (sym (entries_append methods emissions)) ∙ there) in
    elim either [
      | inl before ↦
          let so = method_named planned labelled.program.methods number named before in
          let is = methods_there scene hosts main emissions walk number so.0 so.1 in
          let P : NamedEntry → Type 0 = λ it. NamedShaded scene walk.last.entries (suc number) it in
          subst P (sym so.2) (record {
            it = method_shade number so.0;
            is = is;
            label_is = refl;
            is_shade = begin_shaded scene walk.last.entries number so.0 is (homes.see number so.0 so.1);
          })
      | inr behind ↦
          let so = found_entry emissions behind.0 named behind.2 in
          let later = later_shaded scene first walk.last emissions so.before named so.behind so.is walk.shaded in
          let many = method_many planned 0 labelled.program.methods in
          let place = so.place in
          let sum : length first.entries + length (entries_in so.before) ≡ suc number =
          let is = behind.1 in omega arith in
          let P : ℕ → Type 0 = λ at. NamedShaded scene walk.last.entries at named in
          subst P sum later
    ]

entries_shaded : (scene : Scene) (hosts : HostsShape) (main : MethodTree) (emissions : List Emission) →
    (walk : Walk scene hosts main emissions) → Homes scene main → (number : ℕ) (there : Entry) →
    let code = code_given scene.basis.labelled hosts scene.planned main emissions in
    slice_get code.entries number ≡ Some there → IsShadedEntry scene code (table_in walk) number there
unfolding table_of
entries_shaded scene hosts main emissions walk homes number there is =
    let labelled = scene.basis.labelled in
    let all = given labelled scene.planned main emissions in
    let code = code_given labelled hosts scene.planned main emissions in
    let made = entry_made (code_labels labelled all) all number there is in
    let named = made.0 in
    let own = named_shaded scene hosts main emissions walk homes number named made.1 in
    let so = found_entry all number named made.1 in
    let label_is = emission_labelled labelled hosts scene.planned all so.before (entry named) so.behind so.is
    named.label
    (inl refl) in
    let P : Entry → Type 0 = λ it. IsShadedEntry scene code (table_in walk) number it in
    subst P (sym made.2) (record {
      it = own.it;
      is = own.is;
      label_is = label_is ∙ ap Some (sym own.label_is);
      is_shade = own.is_shade;
    })

entries_stand : (scene : Scene) (hosts : HostsShape) (main : MethodTree) (emissions : List Emission) →
    (walk : Walk scene hosts main emissions) → (number : ℕ) (there : Entry) (it : EntryShade) →
    slice_get (code_given scene.basis.labelled hosts scene.planned main emissions).entries (suc number) ≡ Some there →
    slice_get walk.last.entries (suc number) ≡ Some it →
    MeetsShade (ahead_of it) ((table_in walk).at there.host there.at)
unfolding table_of
entries_stand scene hosts main emissions walk number there it is it_is =
    let labelled = scene.basis.labelled in
    let planned = scene.planned in
    let all = given labelled planned main emissions in
    let first = shades_start labelled.program in
    let made = entry_made (code_labels labelled all) all (suc number) there is in
    let named = made.0 in
    let so = others_stand labelled hosts planned main emissions walk.end walk.walk number named made.1 in
    let marked = stands_read (Shaded scene) (shade_of scene) Goes Meet (shades_go_on scene) named.host named.host (suc
    number)
    first emissions (before_entry (suc number) emissions) so.1.behind walk.last so.1.is
    (nobody_goes named.host walk.last walk.ends) walk.shaded in
    let kept = kept_then marked.known.entries marked.after.entries walk.last.entries
    (step_keeps scene marked.known (stands named.host (suc number)) marked.after marked.step).entries
    (steps_keep scene marked.after so.1.behind walk.last marked.from).entries in
    let same = same_there walk.last.entries (suc number) marked.step.0 it (kept (suc number) marked.step.0
    marked.step.1)
    it_is in
    let comes : marked.after.place ≡ here named.host (ahead_of marked.step.0) = ap (λ known. known.place)
    marked.step.3 in
    let next = marked.next (ahead_of marked.step.0, comes) in
    let at = length (emitted_on named.host (before_entry (suc number) emissions)) in
    let place = entry_place named.host labelled planned main number emissions in
    let P : EntryShade → Type 0 = λ one. MeetsShade (ahead_of one) next.0 in
    let Q : Shade → Type 0 = λ shade. MeetsShade (ahead_of it) shade in
    let R : Entry → Type 0 = λ one. MeetsShade (ahead_of it) ((table_in walk).at one.host one.at) in
    let S : ℕ → Type 0 = λ one. MeetsShade (ahead_of it) ((table_in walk).at named.host one) in
    subst R (sym made.2) (subst S (sym place)
    (subst Q (sym (read_off scene first emissions walk.last walk.shaded named.host at next.0 next.1))
    (subst P same (next.2 (ahead_of marked.step.0) comes))))

as_many : (scene : Scene) (hosts : HostsShape) (main : MethodTree) (emissions : List Emission) →
    (walk : Walk scene hosts main emissions) →
    length walk.last.entries ≡ length (code_given scene.basis.labelled hosts scene.planned main emissions).entries
as_many scene hosts main emissions walk =
    let labelled = scene.basis.labelled in
    let planned = scene.planned in
    let all = given labelled planned main emissions in
    let labels = code_labels labelled all in
    let methods = map (method_entry planned) labelled.program.methods in
    let first = entries_many scene (shades_start labelled.program) emissions walk.last walk.shaded in
    let start = method_many planned 0 labelled.program.methods in
    let parts = ap length (entries_append methods emissions)
    ∙ length-append (entries_in methods) (entries_in emissions) in
    let read = ap length (entries_numbered labels all 0 (entries_in all))
    ∙ length-numbered (code_entry labels all) 0 (entries_in all) in
    omega arith

-- ---- the code

code_shaded : (scene : Scene) (hosts : HostsShape) (main : MethodTree) (emissions : List Emission) →
    (walk : Walk scene hosts main emissions) → Homes scene main →
    IsShadedCode scene (code_given scene.basis.labelled hosts scene.planned main emissions) (table_in walk)
unfolding table_of
code_shaded scene hosts main emissions walk homes = record {
  many = as_many scene hosts main emissions walk;
  halts = halts_there scene hosts main emissions walk;
  methods = methods_there scene hosts main emissions walk;
  entries = entries_shaded scene hosts main emissions walk homes;
  stands = entries_stand scene hosts main emissions walk;
  instructions = instructions_shaded scene hosts main emissions walk;
}

-- The code of a split program has a table of shades, and each instruction releases by its shade what it does by its row
-- of the table of releases. Where nothing may be released, no row has an operand.
split_has_table : (placed : PlacedProgram) (may_release : Bool) → IsSplittable placed → IsAllowed placed →
    IsWellHeld placed → AreResultsLabelled placed.labelled.program →
    (may_release ≡ false → ReleasesNothing placed.labelled.program) →
    (shades : Shades) × IsShadedCode (scene_of placed may_release) (split_code placed) shades
    × IsTabled (split_code placed) shades (releases_of placed)
    × (may_release ≡ false → (host : HostId) (place : ℕ) → operands_at (releases_of placed) host place ≡ [])
split_has_table placed may_release splittable allowed held results silent =
    subst P (sym (front_is placed.labelled planned main splittable.numbered.main.1)) (
      table_in walk,
      code_shaded scene placed.hosts main emissions walk homes,
      code_tabled scene placed.hosts main emissions walk,
      code_silent scene placed.hosts main emissions walk,
    )
  where
    planned : PlannedShape
    planned = planned_from placed

    scene : Scene
    scene = scene_of placed may_release

    main : MethodTree
    main = splittable.numbered.main.0

    emissions : List Emission
    emissions = methods_emissions placed.hosts.principals placed.labelled planned
        (counts_after (record { entries = 0; branches = 0 }) (front_emissions placed.labelled planned)) 0
        placed.labelled.program.methods

    walk : Walk scene placed.hosts main emissions
    walk =
        let goes = program_goes placed splittable in
        let so = program_shaded placed may_release splittable allowed held results silent in
        record {
          end = goes.0;
          walk = walk_there placed emissions goes.0 splittable goes.1 goes.2;
          last = so.0;
          shaded = so.2;
          ends = so.1;
        }

    homes : Homes scene main
    homes = record {
      main_is = splittable.numbered.main.1;
      see = λ place tree is. (all_there (MethodTellsWell placed.hosts.principals placed.labelled planned)
          placed.labelled.program.methods
          (program_tells_well placed splittable allowed held) place tree is).home;
    }

    P : List Emission → Type 0
    P front = (shades : Shades)
        × IsShadedCode scene (code_of_emissions placed.labelled placed.hosts planned (front ++ emissions)) shades
        × IsTabled (code_of_emissions placed.labelled placed.hosts planned (front ++ emissions)) shades
        (releases_by placed.hosts (front ++ emissions))
        × (may_release ≡ false → (host : HostId) (place : ℕ) →
        operands_at (releases_by placed.hosts (front ++ emissions)) host place ≡ [])

pub split_is_tabled : (placed : PlacedProgram) (may_release : Bool) → IsSplittable placed → IsAllowed placed →
    IsWellHeld placed → AreResultsLabelled placed.labelled.program →
    (may_release ≡ false → ReleasesNothing placed.labelled.program) →
    (shades : Shades) × IsShadedCode (scene_of placed may_release) (split_code placed) shades
    × IsTabled (split_code placed) shades (releases_of placed)
split_is_tabled placed may_release splittable allowed held results silent =
    let so = split_has_table placed may_release splittable allowed held results silent in
    (so.0, so.1, so.2)

-- the table of a program that releases nothing has no operand
pub split_is_untold : (placed : PlacedProgram) → IsSplittable placed → IsAllowed placed → IsWellHeld placed →
    AreResultsLabelled placed.labelled.program → ReleasesNothing placed.labelled.program → (host : HostId)
    (place : ℕ) → operands_at (releases_of placed) host place ≡ []
split_is_untold placed splittable allowed held results silent =
    (split_has_table placed false splittable allowed held results (λ none. silent)).3 refl

-- The code of a split program has a table of shades.
pub split_is_shaded : (placed : PlacedProgram) (may_release : Bool) → IsSplittable placed → IsAllowed placed →
    IsWellHeld placed → AreResultsLabelled placed.labelled.program →
    (may_release ≡ false → ReleasesNothing placed.labelled.program) →
    (shades : Shades) × IsShadedCode (scene_of placed may_release)
    (split_code placed) shades
split_is_shaded placed may_release splittable allowed held results silent =
    let so = split_is_tabled placed may_release splittable allowed held results silent in
    (so.0, so.1)

-- Where the program releases nothing, no instruction does.
pub split_is_silent : (placed : PlacedProgram) → IsSplittable placed → IsAllowed placed → IsWellHeld placed →
    AreResultsLabelled placed.labelled.program → ReleasesNothing placed.labelled.program →
    (shades : Shades) × IsShadedCode (scene_of placed false)
    (split_code placed) shades × ReleaseNothing (split_code placed) shades
split_is_silent placed splittable allowed held results silent =
    let so = split_is_shaded placed false splittable allowed held results (λ none. silent) in
    (so.0, so.1, λ host place there is. (so.1.instructions host place there is).is_shade.silent refl)
