-- A call: parameters are set in order, the entry behind the call has due what is left, and what the called method does
-- is due from then on.
use Rattle.std.proofs.Common.{◌≡◌, ◌∙◌, ◌⊎◌, ℕ, suc, ◌<◌, true, true≢false, List, [], ◌∷◌, ◌++◌, map, length, refl}
use Rattle.std.proofs.Common.{ap, sym, subst, inl, inr, append_assoc, append-nil, eq-eqb}
use Rattle.std.proofs.lemmas.List.{map-append}
use Rattle.std.specs.Prelude.{Option, Some, None}
use Rattle.std.specs.List.{AllByRecursion}
use Rattle.js_base.specs.declared.ids.HostId.{HostId}
use Rattle.js_base.specs.declared.ids.VarId.{VarId}
use Rattle.js_base.specs.declared.ids.SiteId.{SiteId}
use Rattle.js_base.specs.declared.ids.StmtId.{StmtId}
use Rattle.js_base.specs.declared.ids.MethodId.{MethodId}
use Rattle.jif_tree.specs.Trees.{ExprTree, Heading, BlockTree, done, call, MethodTree}
use Rattle.jif_tree.specs.LabelRules.{method_at, result_of, params_of}
use Rattle.jif_tree.specs.WellNumbered.{is_some}
use Rattle.host_code.specs.declared.instruction.Op.TheVariants as op
use Rattle.msg_cost.specs.Moves.{PlannedShape, is_trusted_for, is_to, home_of}
use Rattle.split_rules.specs.Expressions.{nodes_of, released_by}
use Rattle.split_rules.specs.Walk.{Walked, expr_emissions, pass_emissions, argument_emissions, kept_emissions}
use Rattle.split_rules.specs.Walk.{called_emissions, call_emissions, need_of, riders_to, riding_params, call_with}
use Rattle.split_rules.specs.Walk.{entry_id, releasing}
use Rattle.split_rules.specs.Positions.{is_on, DueWork, run, keep, all_due, kept_due, Level, body, field_reads}
use Rattle.split_rules.specs.Positions.{Argument}
use Rattle.split_rules.specs.Positions.{arguments_of, arguing, entering, Forward, Position, calm, with_reads}
use Rattle.split_rules.specs.Positions.{with_forwards}
use Rattle.split_rules.specs.Positions.{forwards_of, due_numbers, Entrance, number_of, IsOf}
use Rattle.split_rules.specs.Typing.{EntryIs, Frames, PushesCall, nowhere, here, AreTyped, AreDueOn, Covers, need_due}
use Rattle.split_rules.specs.Typing.{need_of_method, IsParam, GivesVariable, AreSourced, RidesAll, TypedOp}
use Rattle.split_rules.specs.TypedCode.{AreMethodEntries}
use Rattle.split_rules.proofs.WalkedCalls.{still_there}
use Rattle.split_rules.proofs.WalkedMoves.{at_last}
use Rattle.split_rules.proofs.TypedStates.{known_at, counts_in, typed_on, Leads}
use Rattle.split_rules.proofs.TypedRows.{covers_due}
use Rattle.split_rules.proofs.TypedValues.{IsDueOn, Site, expr_typed}
use Rattle.split_rules.proofs.BackedLabels.{all_both}
use Rattle.split_rules.proofs.TypedForwards.{out_behind, out_rides, out_sourced, none_riding, IsGivenOn}
use Rattle.split_rules.proofs.TypedForwards.{AreCarried, send_typed, pass_typed}
use Rattle.split_rules.proofs.TypedStatements.{calm_at, riding_at}

pub methods_still : (planned : PlannedShape) (entries more : List Entrance) → AreMethodEntries planned entries →
    AreMethodEntries planned (entries ++ more)
methods_still planned entries more there place tree is =
    still_there entries more (suc place) _ (there place tree is)

-- ---- arguments

-- where some parameters of a call are set, of which these have still to be sent, and others are left
abbrev arguing_at : Level → List DueWork → BlockTree → List Argument → List Argument → List Forward → Position
arguing_at level due statement set left out = record {
  level = level;
  due = due;
  reads = [];
  calling = arguing statement set left;
  forwards = out;
}

-- what is left to be sent of all parameters: what rides to the home of the method
abbrev out_params : PlannedShape → HostId → BlockTree → HostId → List VarId → List ExprTree → List Forward
out_params planned me statement home params [] = []
out_params planned me statement home [] (argument ∷ others) = []
out_params planned me statement home (param ∷ params) (argument ∷ others) =
    out_behind planned me statement param (Some home) ++ out_params planned me statement home params others

-- and it rides there
rides_all_both : (home : HostId) (first second : List VarId) (out more : List Forward) → RidesAll first home out →
    RidesAll second home more → RidesAll (first ++ second) home (out ++ more)
rides_all_both home first second out more one two = (
  map-append (λ (forward : Forward). forward.variable) out more
      ∙ ap (λ names. names ++ map (λ (forward : Forward). forward.variable) more) one.0
      ∙ ap (λ names. first ++ names) two.0,
  all_both (λ (forward : Forward). forward.host ≡ home) out more one.1 two.1,
)

params_ride : (planned : PlannedShape) (me : HostId) (statement : BlockTree) (home : HostId) →
    home.0 < length planned.hosts.hosts → (params : List VarId) (arguments : List ExprTree) →
    RidesAll (riding_params planned me home params arguments) home
    (out_params planned me statement home params arguments)
params_ride planned me statement home within params [] = (refl, tt)
params_ride planned me statement home within [] (argument ∷ others) = (refl, tt)
params_ride planned me statement home within (param ∷ params) (argument ∷ others) =
    rides_all_both home (riders_to planned me param (Some home)) (riding_params planned me home params others)
    (out_behind planned me statement param (Some home)) (out_params planned me statement home params others)
    (out_rides planned me statement param (Some home) within)
    (params_ride planned me statement home within params others)

are_carried : (home : HostId) (riders : List VarId) (out : List Forward) → RidesAll riders home out →
    AreCarried (Some home) out
are_carried home riders out rides = by out rides.1
  where
    by : (all : List Forward) → AllByRecursion (λ forward. forward.host ≡ home) all → AreCarried (Some home) all
    by [] there = tt
    by (forward ∷ others) there =
        (eq-eqb forward.host.0 home.0 (ap (λ (host : HostId). host.0) there.0), by others there.1)

-- no parameter is left
none_left : (planned : PlannedShape) (site : Site) (level : Level) (due : List DueWork) (statement : BlockTree)
    (set : List Argument) (out : List Forward) (entries : List Entrance) (branches : List Position) →
    AreTyped planned (known_at (here site.me (arguing_at level due statement set [] out)) entries branches) []
    (known_at (here site.me (arguing_at level due statement (set ++ []) [] (out ++ []))) entries branches)
none_left planned site level due statement set out entries branches =
    ap (λ all. known_at (here site.me (arguing_at level due statement all [] out)) entries branches)
    (sym (append-nil set))
    ∙ ap (λ all. known_at (here site.me (arguing_at level due statement (set ++ []) [] all)) entries branches)
    (sym (append-nil out))

arguments_typed : (walked : Walked) (site : Site) (level : Level) (due : List DueWork) (statement : BlockTree)
    (set : List Argument) → IsDueOn walked.planned site.me (calm level due) →
    is_on walked.planned site.me statement ≡ true →
    is_trusted_for walked.planned site.me (number_of statement) ≡ true → IsOf walked.planned.program statement →
    (home : HostId) → home.0 < length walked.planned.hosts.hosts → (out : List Forward) →
    AreSourced walked.planned site.me out → AreCarried (Some home) out →
    (entries : List Entrance) (branches : List Position) (params : List VarId) (arguments : List ExprTree) →
    ((x : VarId) → IsParam x params → GivesVariable walked.planned statement x) →
    let left = arguments_of params arguments in
    AreTyped walked.planned (known_at (here site.me (arguing_at level due statement set left out)) entries branches)
    (argument_emissions walked site.me home site.label site.id params arguments)
    (known_at (here site.me (arguing_at level due statement (set ++ left) []
    (out ++ out_params walked.planned site.me statement home params arguments))) entries branches)
arguments_typed walked site level due statement set on_due own trusted is_of home within out sourced carried entries
    branches params [] among =
    none_left walked.planned site level due statement set out entries branches
arguments_typed walked site level due statement set on_due own trusted is_of home within out sourced carried entries
    branches [] (argument ∷ arguments) among =
    none_left walked.planned site level due statement set out entries branches
arguments_typed walked site level due statement set on_due own trusted is_of home within out sourced carried entries
    branches (param ∷ params) (argument ∷ arguments) among =
    let planned = walked.planned in
    let one : Argument = record { param = param; value = argument } in
    let left = arguments_of params arguments in
    let kept = out_behind planned site.me statement param (Some home) in
    let first = arguing_at level due statement set (one ∷ left) out in
    let second = arguing_at level due statement (set ++ one ∷ []) left (out ++ kept) in
    let start = known_at (here site.me first) entries branches in
    let middle = known_at (here site.me second) entries branches in
    let reads = expr_emissions site.me site.label site.id 0 argument in
    let passes = pass_emissions planned site.me site.label site.id param (Some home) in
    let handed = releasing site.me site.label site.id (op.Arg param (nodes_of 0 argument))
    (released_by 0 argument) ∷ passes in
    let sent = with_forwards second (out ++ forwards_of planned site.me statement param) in
    let given : IsGivenOn planned site.me statement param =
    record { on_host = own; trusted = trusted; is_of = is_of; gives = among param (inl refl) } in
    let base_due : IsDueOn planned site.me first =
    record {
      trusted = (on_due.trusted.0, sourced);
      first = on_due.first;
      others = on_due.others;
      due = on_due.due;
      on_host = on_due.on_host;
    } in
    let P : List Argument → Type 0 = λ all. AreTyped planned middle
    (argument_emissions walked site.me home site.label site.id params arguments)
    (known_at (here site.me (arguing_at level due statement all []
    ((out ++ kept) ++ out_params planned site.me statement home params arguments))) entries branches) in
    let Q : List Forward → Type 0 = λ all. AreTyped planned middle
    (argument_emissions walked site.me home site.label site.id params arguments)
    (known_at (here site.me (arguing_at level due statement (set ++ one ∷ left) [] all)) entries branches) in
    typed_on planned start (reads ++ handed)
    (argument_emissions walked site.me home site.label site.id params arguments) middle _
    (typed_on planned start reads handed
    (known_at (here site.me (with_reads first (field_reads argument))) entries branches) middle
    (expr_typed planned site first base_due entries branches [] argument [] (sym (append-nil (field_reads argument)))) (
      known_at (here site.me sent) entries branches,
      (
        with_reads first (field_reads argument),
        refl,
        (on_due.trusted.0, sourced),
        (
          sent,
          record {
            value = argument;
            others = left;
            is_next = refl;
            is_value = record { reads = refl; are = refl };
            on_host = own;
            goes = refl;
          },
          refl,
        ),
      ),
      pass_typed planned site second refl statement (set ++ one ∷ []) left refl on_due.trusted.0 entries branches
          statement param given (Some home) out sourced carried,
    ))
    (subst Q (append_assoc out kept (out_params planned site.me statement home params arguments))
    (subst P (append_assoc set (one ∷ []) left)
    (arguments_typed walked site level due statement (set ++ one ∷ []) on_due own trusted is_of home within (out ++
    kept)
    (all_both _ out kept sourced (out_sourced planned site.me statement param (Some home) given))
    (all_both (λ forward. is_to (Some home) forward.host.0 ≡ true) out kept carried
    (are_carried home (riders_to planned site.me param (Some home)) kept
    (out_rides planned site.me statement param (Some home) within)))
    entries branches params arguments
    (λ x is. among x (inr is)))))

-- ---- results

-- what is left to be sent of a variable that is given a value, if one is
abbrev pub out_given : PlannedShape → HostId → BlockTree → Option VarId → Option HostId → List Forward
out_given planned me source None carried = []
out_given planned me source (Some x) carried = out_behind planned me source x carried

kept_typed : (walked : Walked) (site : Site) (level : Level) (heading : Heading) (at : SiteId) (method : MethodId)
    (arguments : List ExprTree) (into result : Option VarId) →
    result_of (method_at walked.planned.program method) ≡ result → is_some result ≡ is_some into →
    (carried : Option HostId) (others : List DueWork) →
    is_on walked.planned site.me (call heading at method arguments into done) ≡ true →
    AreDueOn walked.planned site.me (run (call heading at method arguments into done) ∷ others) →
    (entries : List Entrance) (branches : List Position) →
    AreTyped walked.planned
    (calm_at site level (kept_due walked.planned (call heading at method arguments into done)
    ++ others) entries branches)
    (kept_emissions walked site.me site.label site.id result into carried)
    (riding_at site level others (out_given walked.planned site.me (call heading at method arguments into done) into
    carried) entries branches)
kept_typed walked site level heading at method arguments None None is gives carried others own trusted entries branches
    =
    rw is refl
kept_typed walked site level heading at method arguments (Some x) None is gives carried others own trusted entries
    branches =
    absurd (true≢false (sym gives))
kept_typed walked site level heading at method arguments None (Some result) is gives carried others own trusted entries
    branches =
    rw is refl
kept_typed walked site level heading at method arguments (Some x) (Some result) is gives carried others own trusted
    entries branches =
    let planned = walked.planned in
    let statement = call heading at method arguments (Some x) done in
    let next = with_forwards (calm level others) (forwards_of planned site.me statement x) in
    rw is (
      known_at (here site.me next) entries branches,
      (
        calm level (keep statement ∷ others),
        refl,
        (trusted, tt),
        (
          next,
          (
            keep statement,
            others,
            record { due = refl; on_host = own; forwards = refl },
            refl,
            (result, is, refl, refl, refl),
            refl,
          ),
          refl,
        ),
      ),
      send_typed planned site (calm level others) refl refl trusted.1 entries branches statement x
          (record { on_host = own; trusted = trusted.0.0; is_of = trusted.0.1; gives = inl refl }) carried,
    )

-- what is due behind a call, with or without its result
kept_either : (planned : PlannedShape) (heading : Heading) (at : SiteId) (method : MethodId) (arguments : List ExprTree)
    (into : Option VarId) (others : List DueWork) →
    let statement = call heading at method arguments into done in
    (kept_due planned statement ++ others ≡ others) ⊎ (kept_due planned statement ++ others ≡ keep statement ∷ others)
kept_either planned heading at method arguments into others =
    by (result_of (method_at planned.program method)) refl into refl
  where
    statement : BlockTree
    statement = call heading at method arguments into done

    by : (result : Option VarId) → result_of (method_at planned.program method) ≡ result → (it : Option VarId) →
        into ≡ it → (kept_due planned statement ++ others ≡ others)
        ⊎ (kept_due planned statement ++ others ≡ keep statement ∷ others)
    by None is None same = inl (rw is refl)
    by None is (Some x) same = inl (rw is refl)
    by (Some result) is None same = inl (rw (is, same) refl)
    by (Some result) is (Some x) same = inr (rw (is, same) refl)

-- ---- calls

params_sourced : (planned : PlannedShape) (me : HostId) (statement : BlockTree) → is_on planned me statement ≡ true →
    is_trusted_for planned me (number_of statement) ≡ true → IsOf planned.program statement → (home : HostId)
    (params : List VarId) (arguments : List ExprTree) →
    ((x : VarId) → IsParam x params → GivesVariable planned statement x) →
    AreSourced planned me (out_params planned me statement home params arguments)
params_sourced planned me statement own trusted is_of home params [] among = tt
params_sourced planned me statement own trusted is_of home [] (argument ∷ arguments) among = tt
params_sourced planned me statement own trusted is_of home (param ∷ params) (argument ∷ arguments) among =
    all_both _ (out_behind planned me statement param (Some home))
    (out_params planned me statement home params arguments)
    (out_sourced planned me statement param (Some home)
    (record { on_host = own; trusted = trusted; is_of = is_of; gives = among param (inl refl) }))
    (params_sourced planned me statement own trusted is_of home params arguments (λ x is. among x (inr is)))

-- where the entry behind a call is pushed, and these parameters are out
abbrev entered_at : MethodId → List DueWork → BlockTree → List Forward → Position
entered_at method due statement out = record {
  level = body method;
  due = due;
  reads = [];
  calling = entering statement;
  forwards = out;
}

abbrev IsCallOf : BlockTree → MethodId → Type 0
IsCallOf (call heading at method arguments into rest) called = method ≡ called
IsCallOf other called = ⊥

-- the method is called with all that rides
calls_typed : (planned : PlannedShape) (me home : HostId) (statement : BlockTree) (method : MethodId)
    (due : List DueWork)
    (riders : List VarId) (out : List Forward) (entries : List Entrance) (branches : List Position) →
    RidesAll riders home out → IsCallOf statement method →
    EntryIs entries (suc method.0) (calm (body method) due)
    (need_of_method planned (method_at planned.program method)) →
    TypedOp planned (known_at (here me (entered_at method due statement out)) entries branches) me
    (entered_at method due statement out) (call_with riders (entry_id (suc method.0)) home)
    (known_at nowhere entries branches)
calls_typed planned me home (call heading at method arguments into rest) called due [] out entries branches rides same
    entered =
    let P : MethodId → Type 0 = λ it. EntryIs entries (suc called.0) (calm (body called) due)
    (need_of_method planned (method_at planned.program it)) in (
      (
        ap (λ (it : MethodId). suc it.0) (sym same),
        ap body (sym same),
        refl,
        none_riding home out rides,
        subst P (sym same) entered,
      ),
      refl,
    )
calls_typed planned me home (call heading at method arguments into rest) called due (x ∷ riders) out entries branches
    rides same entered =
    let P : MethodId → Type 0 = λ it. EntryIs entries (suc called.0) (calm (body called) due)
    (need_of_method planned (method_at planned.program it)) in
    ((ap (λ (it : MethodId). suc it.0) (sym same), ap body (sym same), refl, rides, subst P (sym same) entered), refl)
calls_typed planned me home other called due riders out entries branches rides same entered = absurd same

pub call_typed : (walked : Walked) (site : Site) (level : Level) (heading : Heading) (at : SiteId) (method : MethodId)
    (arguments : List ExprTree) (into : Option VarId) (called : MethodTree) →
    method_at walked.labelled.program method ≡ Some called → method_at walked.planned.program method ≡ Some called →
    is_some called.result ≡ is_some into → (home_of walked.planned called).0 < length walked.planned.hosts.hosts →
    (carried : Option HostId) (others : List DueWork) →
    is_on walked.planned site.me (call heading at method arguments into
    done) ≡ true →
    AreDueOn walked.planned site.me (run (call heading at method arguments into done) ∷ others) →
    AreDueOn walked.planned site.me (all_due called.body) → site.id ≡ heading.id → (left : List StmtId) →
    left ≡ due_numbers others → (entries : List Entrance) (branches : List Position) →
    AreMethodEntries walked.planned entries →
    Leads walked.planned
    (calm_at site level (run (call heading at method arguments into done) ∷ others) entries branches)
    (call_emissions walked (counts_in entries branches) site.me site.label site.id at method arguments into carried
    left)
    (here site.me (with_forwards (calm level others)
    (out_given walked.planned site.me (call heading at method arguments into done) into carried)))
call_typed walked site level heading at method arguments into called is there gives home_within carried others own
    trusted
    inside_due id_is left left_is entries branches methods =
    subst R (sym is) (record {
      more = behind ∷ [];
      ahead = [];
      typed = (
        known_at (here site.me (calm level due)) more branches,
        (behind.position, refl, behind_due, behind_covers, refl),
        (
          known_at (here site.me (arguing_at level due statement [] all [])) more branches,
          (
            calm level due,
            refl,
            (trusted, tt),
            (
              arguing_at level due statement [] all [],
              (run statement, others, record { due = refl; on_host = own; forwards = refl }, refl, framed),
              refl,
            ),
          ),
          typed_on planned (known_at (here site.me (arguing_at level due statement [] all [])) more branches)
              (argument_emissions walked site.me home site.label site.id called.params arguments) _
              (known_at (here site.me (arguing_at level due statement all [] out)) more branches) _
              (arguments_typed walked site level due statement [] on_due own trusted.0.0 trusted.0.1 home home_within []
              tt tt more branches called.params arguments params_given) (
                known_at (here site.me inside) more branches,
                (arguing_at level due statement all [] out, refl, (trusted, sourced), (inside, pushes, refl)),
                (
                  known_at nowhere more branches,
                  (
                    inside,
                    refl,
                    (inside_due, sourced),
                    calls_typed planned site.me home statement method (all_due called.body)
                        (riding_params planned site.me home called.params arguments) out more branches
                        (params_ride planned site.me statement home home_within called.params arguments) is_call
                        entered,
                  ),
                  (
                    calm_at site level (kept_due planned statement ++ others) more branches,
                    (behind.position, behind.need, at_last entries behind [], inl refl, refl),
                    ends,
                  ),
                ),
              ),
        ),
      );
    })
  where
    planned : PlannedShape
    planned = walked.planned

    statement : BlockTree
    statement = call heading at method arguments into done

    R : Option MethodTree → Type 0
    R it = Leads walked.planned
        (calm_at site level (run (call heading at method arguments into done) ∷ others) entries branches)
        (called_emissions walked (counts_in entries branches) site.me site.label site.id at method it arguments into
        carried left)
        (here site.me (with_forwards (calm level others)
        (out_given walked.planned site.me (call heading at method arguments into done) into carried)))

    home : HostId
    home = home_of walked.planned called

    out : List Forward
    out = out_params walked.planned site.me (call heading at method arguments into done) (home_of walked.planned called)
        called.params arguments

    due : List DueWork
    due = run statement ∷ others

    on_due : IsDueOn walked.planned site.me (calm level (run statement ∷ others))
    on_due = record { trusted = (trusted, tt); first = run statement; others = others; due = refl; on_host = own }

    params_given : (x : VarId) → IsParam x called.params → GivesVariable walked.planned statement x
    params_given x is =
        let P : Option MethodTree → Type 0 = λ it. IsParam x (params_of it) in
        inr (subst P (sym there) is)

    sourced : AreSourced walked.planned site.me out
    sourced = params_sourced walked.planned site.me statement own trusted.0.0 trusted.0.1 home called.params arguments
        params_given

    behind : Entrance
    behind = record {
      position = calm level (kept_due walked.planned (call heading at method arguments into done) ++ others);
      need = need_of walked.planned (site.id ∷ left);
    }

    need_is : need_due planned due ≡ need_of walked.planned (site.id ∷ left)
    need_is = ap (λ numbers. need_of walked.planned (heading.id ∷ numbers)) (sym left_is)
        ∙ ap (λ id. need_of walked.planned (id ∷ left)) (sym id_is)

    covers : Covers planned (need_of walked.planned (site.id ∷ left)) due
    covers =
        let P : ℕ → Type 0 = λ need. Covers planned need due in
        subst P need_is (covers_due planned due)

    behind_due : AreDueOn planned site.me (kept_due planned statement ++ others)
    behind_due =
        let P : List DueWork → Type 0 = λ it. AreDueOn planned site.me it in
        elim (kept_either planned heading at method arguments into others) [
          | inl none ↦ subst P (sym none) trusted.1
          | inr some ↦ subst P (sym some) trusted
        ]

    behind_covers : Covers planned behind.need (kept_due planned statement ++ others)
    behind_covers =
        let P : List DueWork → Type 0 = λ it. Covers planned behind.need it in
        elim (kept_either planned heading at method arguments into others) [
          | inl none ↦ subst P (sym none) covers.1
          | inr some ↦ subst P (sym some) covers
        ]

    more : List Entrance
    more = entries ++ behind ∷ []

    all : List Argument
    all = arguments_of called.params arguments

    inside : Position
    inside = record {
      level = body method;
      due = all_due called.body;
      reads = [];
      calling = entering statement;
      forwards = out;
    }

    is_call : IsCallOf statement method
    is_call = refl

    framed : Frames planned (calm level due) (run statement) at (arguing_at level due statement [] all [])
    framed = (refl, rw there refl)

    pushes : PushesCall planned more (arguing_at level due statement all [] out) statement all method arguments
        (length entries) inside
    pushes =
        let P : ℕ → Type 0 = λ need. EntryIs more (length entries) behind.position need in
        record {
          others = others;
          due = refl;
          reads = refl;
          all_set = rw there refl;
          pushed = subst P (sym need_is) (at_last entries behind []);
          goes = rw there refl;
        }

    entered : EntryIs more (suc method.0) (calm (body method) (all_due called.body))
        (need_of_method planned (method_at planned.program method))
    entered =
        let P : Option MethodTree → Type 0 = λ it. EntryIs more (suc method.0)
        (calm (body method) (all_due called.body))
        (need_of_method planned it) in
        subst P (sym there) (methods_still planned entries (behind ∷ []) methods method.0 called there)

    kept : AreTyped planned (calm_at site level (kept_due planned statement ++ others) more branches)
        (kept_emissions walked site.me site.label site.id called.result into carried)
        (riding_at site level others (out_given planned site.me statement into carried) more branches)
    kept = kept_typed walked site level heading at method arguments into called.result
        (rw there refl) gives carried others own trusted
        more branches

    ends : AreTyped planned (calm_at site level (kept_due planned statement ++ others) more branches)
        (kept_emissions walked site.me site.label site.id called.result into carried)
        (riding_at site level others (out_given planned site.me statement into carried) more (branches ++ []))
    ends =
        let P : List Position → Type 0 = λ one. AreTyped planned
        (calm_at site level (kept_due planned statement ++ others) more branches)
        (kept_emissions walked site.me site.label site.id called.result into carried)
        (riding_at site level others (out_given planned site.me statement into carried) more one) in
        subst P (sym (append-nil branches)) kept
