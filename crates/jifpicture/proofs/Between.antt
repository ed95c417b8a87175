-- Which ways stay on their host: calls, and what comes back from them.
use Rattle.std.proofs.Common.{◌≡◌, List, [], ◌∷◌, Option, Some, None, All, Bool, true, false, refl, sym, ◌∙◌, eq-eqb}
use Rattle.std.specs.Prelude.{◌==◌, if◌then◌else◌}
use Rattle.std.specs.List.{flat_map}
use Rattle.std.proofs.lemmas.Bool.{false≢true}
use Rattle.std.proofs.lemmas.List.Elements.{All-nil, All-cons, All-append}
use Rattle.js_base.specs.declared.ids.EntryId.{EntryId}
use Rattle.js_base.specs.declared.ids.StmtId.{StmtId}
use Rattle.js_base.specs.declared.ids.VarId.{VarId}
use Rattle.host_code.specs.Code.{entry_at, halt, instruction_at}
use Rattle.host_code.specs.declared.code.Entry.{Entry}
use Rattle.host_code.specs.declared.instruction.Instr.{Instr}
use Rattle.host_code.specs.declared.instruction.Op.{Op}
use Rattle.host_code.specs.declared.instruction.Op.TheVariants as op
use Rattle.plan_ways.specs.Ends.{is_same_end, kept}
use Rattle.plan_ways.specs.Ways.{SheetShape, asked, asked_by, asked_of, back_at, back_elsewhere, back_if_elsewhere}
use Rattle.plan_ways.specs.Ways.{back_to, back_ways, called, elsewhere, end_of_main, entries_behind, given_by}
use Rattle.plan_ways.specs.Ways.{given_of, going, gone, got, instruction_ways, level_of, place_ways, result_at, result_to, result_ways}
use Rattle.plan_ways.specs.Ways.{sent, set, ways_at}
use Rattle.plan_ways.specs.Stands.{door_of}
use Rattle.plan_ways.specs.declared.ends.Way.{Way}
use Rattle.plan_ways.specs.declared.ends.WayKind.TheVariants as kind
use Rattle.plan_ways.specs.declared.ends.WayText.TheVariants as what
use Rattle.plan_ways.specs.declared.levels.Level.{Level}
use Rattle.plan_ways.specs.declared.levels.Level.TheVariants.{Body, Under}
use Rattle.plan_ways.specs.declared.stands.Place.{Place}
use Rattle.jifpicture.specs.Staying.{may_stay}

-- a way that stays is one that may
abbrev pub IsBetween : Way → Type 0
IsBetween way = way.from.0 ≡ way.to.0 → may_stay way ≡ true

abbrev AreBetween : List Way → Type 0
AreBetween ways = All IsBetween ways

one_kept : (way : Way) (test : Bool) → IsBetween way → AreBetween (if test then [] else way ∷ [])
one_kept way true is = All-nil IsBetween
one_kept way false is = All-cons IsBetween way [] is (All-nil IsBetween)

kept_one : (way : Way) → IsBetween way → AreBetween (kept (Some way))
kept_one way is = one_kept way (is_same_end way.begin way.end) is

kept_test : (way : Way) (test : Bool) → (way.from.0 == way.to.0) ≡ test →
    AreBetween (kept (if test then None else Some way))
kept_test way true is = All-nil IsBetween
kept_test way false is =
    kept_one way (λ same. absurd (false≢true (sym is ∙ eq-eqb way.from.0 way.to.0 same)))

-- what goes elsewhere does not stay
kept_elsewhere : (place : Place) (way : Way) → AreBetween (kept (elsewhere place way))
kept_elsewhere place way = kept_test way (way.from.0 == way.to.0) refl

all_flat : {X : Type 0} (f : X → List Way) → ((x : X) → AreBetween (f x)) → (xs : List X) →
    AreBetween (flat_map f xs)
all_flat f each [] = All-nil IsBetween
all_flat f each (x ∷ xs) = All-append IsBetween (f x) (flat_map f xs) (each x) (all_flat f each xs)

-- ---- what is asked

asked_between : (sheet : SheetShape) (place : Place) (statement : StmtId) (operation : Op) →
    AreBetween (kept (asked_of sheet place statement operation))
asked_between sheet place statement (op.Read field index) = kept_elsewhere place (got sheet place statement field)
asked_between sheet place statement (op.Put field index value) =
    kept_elsewhere place (set sheet place statement field)
asked_between sheet place statement (op.Send variable to) =
    kept_elsewhere place (sent sheet place statement variable to)
asked_between sheet place statement (op.Pass variable to) =
    kept_elsewhere place (sent sheet place statement variable to)
asked_between sheet place statement (op.Ask entry on) = kept_elsewhere place (asked sheet place statement entry on)
asked_between sheet place statement (op.Go entry on) =
    kept_elsewhere place (gone sheet place statement entry on false)
asked_between sheet place statement (op.GoWith entry on riders) =
    kept_elsewhere place (gone sheet place statement entry on true)
asked_between sheet place statement (op.Call entry on) =
    kept_one (called sheet place statement entry on false) (λ same. refl)
asked_between sheet place statement (op.CallWith entry on riders) =
    kept_one (called sheet place statement entry on true) (λ same. refl)
asked_between sheet place statement other = All-nil IsBetween

-- ---- what is given back

result_between : (sheet : SheetShape) (place : Place) (statement : StmtId) (variable : VarId) (entry : EntryId)
    (found : Option Entry) → AreBetween (kept (result_at sheet place statement variable entry found))
result_between sheet place statement variable entry None = All-nil IsBetween
result_between sheet place statement variable entry (Some there) =
    kept_elsewhere place
    (going kind.Forward place statement there.host (door_of sheet.doors entry there.host) (what.Result variable))

results_between : (sheet : SheetShape) (place : Place) (statement : StmtId) (variable : VarId)
    (level : Option Level) → AreBetween (result_ways sheet place statement variable level)
results_between sheet place statement variable None = All-nil IsBetween
results_between sheet place statement variable (Some (Under entry)) = All-nil IsBetween
results_between sheet place statement variable (Some (Body method)) =
    all_flat (λ entry. kept (result_to sheet place statement variable entry))
    (λ entry. result_between sheet place statement variable entry (entry_at sheet.code entry))
    (entries_behind sheet.behind method)

back_between : (sheet : SheetShape) (place : Place) (statement : StmtId) (entry : EntryId) (found : Option Entry) →
    AreBetween (kept (back_at sheet place statement entry found))
back_between sheet place statement entry None = All-nil IsBetween
back_between sheet place statement entry (Some there) =
    kept_one (going kind.Back place statement there.host (door_of sheet.doors entry there.host) (what.Entry entry))
    (λ same. refl)

back_kept : (place : Place) (found : Option Way) → AreBetween (kept (back_if_elsewhere place found))
back_kept place None = All-nil IsBetween
back_kept place (Some way) = kept_elsewhere place way

main_between : (sheet : SheetShape) (place : Place) (statement : StmtId) (test : Bool) →
    AreBetween (kept (if test then back_elsewhere sheet place statement halt else None))
main_between sheet place statement true = back_kept place (back_to sheet place statement halt)
main_between sheet place statement false = All-nil IsBetween

backs_between : (sheet : SheetShape) (place : Place) (statement : StmtId) (level : Option Level) →
    AreBetween (back_ways sheet place statement level)
backs_between sheet place statement None = All-nil IsBetween
backs_between sheet place statement (Some (Under entry)) = back_kept place (back_to sheet place statement entry)
backs_between sheet place statement (Some (Body method)) =
    All-append IsBetween (kept (end_of_main sheet place statement method))
    (flat_map (λ entry. kept (back_to sheet place statement entry)) (entries_behind sheet.behind method))
    (main_between sheet place statement (method.0 == sheet.code.main.0))
    (all_flat (λ entry. kept (back_to sheet place statement entry))
    (λ entry. back_between sheet place statement entry (entry_at sheet.code entry))
    (entries_behind sheet.behind method))

given_between : (sheet : SheetShape) (place : Place) (statement : StmtId) (operation : Op) →
    AreBetween (given_of sheet place statement operation)
given_between sheet place statement (op.Ret result value) =
    results_between sheet place statement result (level_of sheet place)
given_between sheet place statement op.Back = backs_between sheet place statement (level_of sheet place)
given_between sheet place statement other = All-nil IsBetween

-- ---- all ways

found_between : (sheet : SheetShape) (place : Place) (found : Option Instr) →
    AreBetween (instruction_ways sheet place found)
found_between sheet place None = All-nil IsBetween
found_between sheet place (Some instruction) =
    All-append IsBetween (kept (asked_by sheet place instruction)) (given_by sheet place instruction)
    (asked_between sheet place instruction.statement instruction.op)
    (given_between sheet place instruction.statement instruction.op)

pub all_between : (sheet : SheetShape) (places : List Place) → AreBetween (ways_at sheet places)
all_between sheet places =
    all_flat (place_ways sheet)
    (λ place. found_between sheet place (instruction_at sheet.code place.host place.at)) places
