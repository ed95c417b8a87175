-- No way begins and ends in one row.
use Rattle.std.proofs.Common.{◌≡◌, ◌≢◌, List, [], ◌∷◌, Option, Some, None, All, Bool, refl, sym, ◌∙◌, ap, eq-eqb}
use Rattle.std.specs.Prelude.{if◌then◌else◌, true, false}
use Rattle.std.specs.List.{flat_map}
use Rattle.std.proofs.lemmas.Bool.{false≢true}
use Rattle.std.proofs.lemmas.List.Elements.{All-nil, All-cons, All-append}
use Rattle.js_base.specs.declared.ids.StmtId.{StmtId}
use Rattle.js_base.specs.declared.ids.VarId.{VarId}
use Rattle.host_code.specs.Code.{instruction_at}
use Rattle.host_code.specs.declared.instruction.Instr.{Instr}
use Rattle.host_code.specs.declared.instruction.Op.{Op}
use Rattle.host_code.specs.declared.instruction.Op.TheVariants as op
use Rattle.plan_ways.specs.Ends.{is_same_end, kept}
use Rattle.plan_ways.specs.Ways.{SheetShape, asked_by, back_elsewhere, back_to, back_ways, end_of_main}
use Rattle.plan_ways.specs.Ways.{entries_behind, given_by, given_of, instruction_ways, level_of, place_ways}
use Rattle.plan_ways.specs.Ways.{result_to, result_ways, ways_at}
use Rattle.plan_ways.specs.declared.ends.Way.{Way}
use Rattle.plan_ways.specs.declared.ends.WayEnd.{WayEnd}
use Rattle.plan_ways.specs.declared.ends.WayEnd.TheVariants as end
use Rattle.plan_ways.specs.declared.levels.Level.{Level}
use Rattle.plan_ways.specs.declared.levels.Level.TheVariants.{Body, Under}
use Rattle.plan_ways.specs.declared.stands.Place.{Place}

abbrev IsApart : Way → Type 0
IsApart way = way.begin ≢ way.end

same_end : (one : WayEnd) → is_same_end one one ≡ true
same_end (end.Host a) = eq-eqb a.0 a.0 refl
same_end (end.Field a) = eq-eqb a.0 a.0 refl
same_end (end.Statement a) = eq-eqb a.0 a.0 refl
same_end (end.Relay a) = eq-eqb a.0 a.0 refl

kept_test : (way : Way) (test : Bool) → is_same_end way.begin way.end ≡ test →
    All IsApart (if test then [] else way ∷ [])
kept_test way true is = All-nil IsApart
kept_test way false is =
    All-cons IsApart way []
    (λ same. false≢true (sym is ∙ ap (is_same_end way.begin) (sym same) ∙ same_end way.begin)) (All-nil IsApart)

kept_apart : (found : Option Way) → All IsApart (kept found)
kept_apart None = All-nil IsApart
kept_apart (Some way) = kept_test way (is_same_end way.begin way.end) refl

all_flat : {X : Type 0} (f : X → List Way) → ((x : X) → All IsApart (f x)) → (xs : List X) →
    All IsApart (flat_map f xs)
all_flat f each [] = All-nil IsApart
all_flat f each (x ∷ xs) = All-append IsApart (f x) (flat_map f xs) (each x) (all_flat f each xs)

results_apart : (sheet : SheetShape) (place : Place) (statement : StmtId) (variable : VarId)
    (level : Option Level) → All IsApart (result_ways sheet place statement variable level)
results_apart sheet place statement variable None = All-nil IsApart
results_apart sheet place statement variable (Some (Under entry)) = All-nil IsApart
results_apart sheet place statement variable (Some (Body method)) =
    all_flat (λ entry. kept (result_to sheet place statement variable entry))
    (λ entry. kept_apart (result_to sheet place statement variable entry)) (entries_behind sheet.behind method)

backs_apart : (sheet : SheetShape) (place : Place) (statement : StmtId) (level : Option Level) →
    All IsApart (back_ways sheet place statement level)
backs_apart sheet place statement None = All-nil IsApart
backs_apart sheet place statement (Some (Under entry)) = kept_apart (back_elsewhere sheet place statement entry)
backs_apart sheet place statement (Some (Body method)) =
    All-append IsApart (kept (end_of_main sheet place statement method))
    (flat_map (λ entry. kept (back_to sheet place statement entry)) (entries_behind sheet.behind method))
    (kept_apart (end_of_main sheet place statement method))
    (all_flat (λ entry. kept (back_to sheet place statement entry))
    (λ entry. kept_apart (back_to sheet place statement entry)) (entries_behind sheet.behind method))

given_apart : (sheet : SheetShape) (place : Place) (statement : StmtId) (operation : Op) →
    All IsApart (given_of sheet place statement operation)
given_apart sheet place statement (op.Ret result value) =
    results_apart sheet place statement result (level_of sheet place)
given_apart sheet place statement op.Back = backs_apart sheet place statement (level_of sheet place)
given_apart sheet place statement other = All-nil IsApart

found_apart : (sheet : SheetShape) (place : Place) (found : Option Instr) →
    All IsApart (instruction_ways sheet place found)
found_apart sheet place None = All-nil IsApart
found_apart sheet place (Some instruction) =
    All-append IsApart (kept (asked_by sheet place instruction)) (given_by sheet place instruction)
    (kept_apart (asked_by sheet place instruction))
    (given_apart sheet place instruction.statement instruction.op)

pub all_apart : (sheet : SheetShape) (places : List Place) → All IsApart (ways_at sheet places)
all_apart sheet places =
    all_flat (place_ways sheet)
    (λ place. found_apart sheet place (instruction_at sheet.code place.host place.at)) places
