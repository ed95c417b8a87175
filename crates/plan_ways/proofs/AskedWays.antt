-- The ways of what instructions ask for are those of the instructions, and results and tokens are others.
use Rattle.std.proofs.Common.{◌≡◌, ℕ, zero, suc, ◌+◌, List, [], ◌∷◌, ◌++◌, Option, Some, None, Bool, refl, sym, ◌∙◌, ap}
use Rattle.std.proofs.Common.{add-one, drop, length, map}
use Rattle.std.specs.Prelude.{◌==◌, IfSome, filter, if◌then◌else◌, slice_get, true, false}
use Rattle.std.specs.List.{flat_map, range_with_len}
use Rattle.std.proofs.lemmas.List.{append-nil, map-append}
use Rattle.std.proofs.lemmas.List.Concat.{flat_map-append}
use Rattle.std.proofs.lemmas.List.Elements.{filter-append}
use Rattle.std.proofs.Math.Path.{ap₂}
use Rattle.js_base.specs.declared.ids.EntryId.{EntryId}
use Rattle.js_base.specs.declared.ids.HostId.{HostId}
use Rattle.js_base.specs.declared.ids.StmtId.{StmtId}
use Rattle.js_base.specs.declared.ids.VarId.{VarId}
use Rattle.host_code.specs.Code.{entry_at, halt, instruction_at, part_of}
use Rattle.host_code.specs.declared.code.Entry.{Entry}
use Rattle.host_code.specs.declared.instruction.Instr.{Instr}
use Rattle.host_code.specs.declared.instruction.Op.{Op}
use Rattle.host_code.specs.declared.instruction.Op.TheVariants as op
use Rattle.plan_ways.specs.Asks.{Request, apart, asked_at, asked_there, asked_ways, code_requests, is_asked, listed}
use Rattle.plan_ways.specs.Asks.{request_of, requests_from, requests_of, requests_on}
use Rattle.plan_ways.specs.Ends.{is_same_end, kept}
use Rattle.plan_ways.specs.Stands.{arrivals_of, code_places, landed, passed, places_from, places_on, standing}
use Rattle.plan_ways.specs.Ways.{SheetShape, asked, asked_by, asked_of, back_at, back_elsewhere, back_if_elsewhere}
use Rattle.plan_ways.specs.Ways.{back_to, back_ways, elsewhere, end_of_main, entries_behind, given_by, given_of}
use Rattle.plan_ways.specs.Ways.{gone, got, instruction_ways, level_of, place_ways, result_at, result_to}
use Rattle.plan_ways.specs.Ways.{result_ways, sent, set, ways_at}
use Rattle.plan_ways.specs.declared.ends.Way.{Way}
use Rattle.plan_ways.specs.declared.ends.WayEnd.{WayEnd}
use Rattle.plan_ways.specs.declared.levels.Level.{Level}
use Rattle.plan_ways.specs.declared.levels.Level.TheVariants.{Body, Under}
use Rattle.plan_ways.specs.declared.stands.Place.{Place}
use Rattle.plan_ways.specs.declared.stands.Stand.{Stand}

-- ---- which ways are asked for

abbrev Is : Bool → Option Way → Type 0
Is answer found = IfSome found (λ way. is_asked way ≡ answer)

elsewhere_test : (answer : Bool) (way : Way) (test : Bool) → is_asked way ≡ answer →
    Is answer (if test then None else Some way)
elsewhere_test answer way true is = tt
elsewhere_test answer way false is = is

elsewhere_is : (answer : Bool) (place : Place) (way : Way) → is_asked way ≡ answer →
    Is answer (elsewhere place way)
elsewhere_is answer place way is = elsewhere_test answer way (way.from.0 == way.to.0) is

asked_is : (sheet : SheetShape) (place : Place) (statement : StmtId) (operation : Op) →
    Is true (asked_of sheet place statement operation)
asked_is sheet place statement (op.Read field index) =
    elsewhere_is true place (got sheet place statement field) refl
asked_is sheet place statement (op.Put field index value) =
    elsewhere_is true place (set sheet place statement field) refl
asked_is sheet place statement (op.Send variable to) =
    elsewhere_is true place (sent sheet place statement variable to) refl
asked_is sheet place statement (op.Pass variable to) =
    elsewhere_is true place (sent sheet place statement variable to) refl
asked_is sheet place statement (op.Ask entry on) =
    elsewhere_is true place (asked sheet place statement entry on) refl
asked_is sheet place statement (op.Go entry on) =
    elsewhere_is true place (gone sheet place statement entry on false) refl
asked_is sheet place statement (op.GoWith entry on riders) =
    elsewhere_is true place (gone sheet place statement entry on true) refl
asked_is sheet place statement (op.Call entry on) = refl
asked_is sheet place statement (op.CallWith entry on riders) = refl
asked_is sheet place statement other = tt

kept_test : (way : Way) (test : Bool) → is_asked way ≡ true →
    filter is_asked (if test then [] else way ∷ []) ≡ (if test then [] else way ∷ [])
kept_test way true is = refl
kept_test way false is = ap (λ (b : Bool). if b then way ∷ [] else []) is

kept_asked : (found : Option Way) → Is true found → filter is_asked (kept found) ≡ flat_map apart (listed found)
kept_asked None is = refl
kept_asked (Some way) is =
    kept_test way (is_same_end way.begin way.end) is ∙ sym (append-nil (kept (Some way)))

dropped_test : (way : Way) (test : Bool) → is_asked way ≡ false →
    filter is_asked (if test then [] else way ∷ []) ≡ []
dropped_test way true is = refl
dropped_test way false is = ap (λ (b : Bool). if b then way ∷ [] else []) is

kept_dropped : (found : Option Way) → Is false found → filter is_asked (kept found) ≡ []
kept_dropped None is = refl
kept_dropped (Some way) is = dropped_test way (is_same_end way.begin way.end) is

-- ---- results and tokens

all_dropped : {X : Type 0} (f : X → List Way) → ((x : X) → filter is_asked (f x) ≡ []) → (xs : List X) →
    filter is_asked (flat_map f xs) ≡ []
all_dropped f each [] = refl
all_dropped {X} f each (x ∷ xs) =
    filter-append is_asked (f x) (flat_map f xs) ∙ ap₂ (λ (a b : List Way). a ++ b) (each x) (all_dropped f each xs)

result_is : (sheet : SheetShape) (place : Place) (statement : StmtId) (variable : VarId) (entry : EntryId)
    (there : Option Entry) → Is false (result_at sheet place statement variable entry there)
result_is sheet place statement variable entry None = tt
result_is sheet place statement variable entry (Some there) = elsewhere_is false place _ refl

back_is : (sheet : SheetShape) (place : Place) (statement : StmtId) (entry : EntryId) (there : Option Entry) →
    Is false (back_at sheet place statement entry there)
back_is sheet place statement entry None = tt
back_is sheet place statement entry (Some there) = refl

back_far : (place : Place) (found : Option Way) → Is false found → Is false (back_if_elsewhere place found)
back_far place None is = tt
back_far place (Some way) is = elsewhere_is false place way is

back_elsewhere_is : (sheet : SheetShape) (place : Place) (statement : StmtId) (entry : EntryId) →
    Is false (back_elsewhere sheet place statement entry)
back_elsewhere_is sheet place statement entry =
    back_far place (back_to sheet place statement entry)
    (back_is sheet place statement entry (entry_at sheet.code entry))

end_test : (found : Option Way) (test : Bool) → Is false found → Is false (if test then found else None)
end_test found true is = is
end_test found false is = tt

results_dropped : (sheet : SheetShape) (place : Place) (statement : StmtId) (variable : VarId)
    (level : Option Level) → filter is_asked (result_ways sheet place statement variable level) ≡ []
results_dropped sheet place statement variable None = refl
results_dropped sheet place statement variable (Some (Under entry)) = refl
results_dropped sheet place statement variable (Some (Body method)) =
    all_dropped (λ entry. kept (result_to sheet place statement variable entry))
    (λ entry. kept_dropped (result_to sheet place statement variable entry)
    (result_is sheet place statement variable entry (entry_at sheet.code entry)))
    (entries_behind sheet.behind method)

backs_dropped : (sheet : SheetShape) (place : Place) (statement : StmtId) (level : Option Level) →
    filter is_asked (back_ways sheet place statement level) ≡ []
backs_dropped sheet place statement None = refl
backs_dropped sheet place statement (Some (Under entry)) =
    kept_dropped (back_elsewhere sheet place statement entry) (back_elsewhere_is sheet place statement entry)
backs_dropped sheet place statement (Some (Body method)) =
    filter-append is_asked (kept (end_of_main sheet place statement method))
    (flat_map (λ entry. kept (back_to sheet place statement entry)) (entries_behind sheet.behind method))
    ∙ ap₂ (λ (a b : List Way). a ++ b)
    (kept_dropped (end_of_main sheet place statement method)
    (end_test (back_elsewhere sheet place statement halt) (method.0 == sheet.code.main.0)
    (back_elsewhere_is sheet place statement halt)))
    (all_dropped (λ entry. kept (back_to sheet place statement entry))
    (λ entry. kept_dropped (back_to sheet place statement entry)
    (back_is sheet place statement entry (entry_at sheet.code entry))) (entries_behind sheet.behind method))

given_dropped : (sheet : SheetShape) (place : Place) (statement : StmtId) (operation : Op) →
    filter is_asked (given_of sheet place statement operation) ≡ []
given_dropped sheet place statement (op.Ret result value) =
    results_dropped sheet place statement result (level_of sheet place)
given_dropped sheet place statement op.Back = backs_dropped sheet place statement (level_of sheet place)
given_dropped sheet place statement other = refl

-- ---- all ways

place_asked : (sheet : SheetShape) (place : Place) (found : Option Instr) →
    filter is_asked (instruction_ways sheet place found) ≡ flat_map apart (asked_there sheet place found)
place_asked sheet place None = refl
place_asked sheet place (Some instruction) =
    let ways = kept (asked_by sheet place instruction) in
    filter-append is_asked ways (given_by sheet place instruction)
    ∙ ap₂ (λ (a b : List Way). a ++ b)
    (kept_asked (asked_by sheet place instruction)
    (asked_is sheet place instruction.statement instruction.op))
    (given_dropped sheet place instruction.statement instruction.op)
    ∙ append-nil (flat_map apart (listed (asked_by sheet place instruction)))

pub all_asked : (sheet : SheetShape) (places : List Place) →
    filter is_asked (ways_at sheet places) ≡ flat_map apart (asked_ways sheet places)
all_asked sheet [] = refl
all_asked sheet (place ∷ places) =
    filter-append is_asked (place_ways sheet place) (ways_at sheet places)
    ∙ ap₂ (λ (a b : List Way). a ++ b)
    (place_asked sheet place (instruction_at sheet.code place.host place.at)) (all_asked sheet places)
    ∙ sym (flat_map-append apart (asked_at sheet place) (asked_ways sheet places))

-- ---- what instructions ask for

between_test : (way : Way) (test : Bool) →
    map request_of (listed (if test then None else Some way)) ≡ (if test then [] else request_of way ∷ [])
between_test way true = refl
between_test way false = refl

asked_requests : (sheet : SheetShape) (place : Place) (statement : StmtId) (operation : Op) →
    map request_of (listed (asked_of sheet place statement operation))
    ≡ requests_of sheet.plan place.host place.at statement operation
asked_requests sheet place statement (op.Read field index) =
    let way = got sheet place statement field in between_test way (way.from.0 == way.to.0)
asked_requests sheet place statement (op.Put field index value) =
    let way = set sheet place statement field in between_test way (way.from.0 == way.to.0)
asked_requests sheet place statement (op.Send variable to) =
    let way = sent sheet place statement variable to in between_test way (way.from.0 == way.to.0)
asked_requests sheet place statement (op.Pass variable to) =
    let way = sent sheet place statement variable to in between_test way (way.from.0 == way.to.0)
asked_requests sheet place statement (op.Ask entry on) =
    let way = asked sheet place statement entry on in between_test way (way.from.0 == way.to.0)
asked_requests sheet place statement (op.Go entry on) =
    let way = gone sheet place statement entry on false in between_test way (way.from.0 == way.to.0)
asked_requests sheet place statement (op.GoWith entry on riders) =
    let way = gone sheet place statement entry on true in between_test way (way.from.0 == way.to.0)
asked_requests sheet place statement (op.Call entry on) = refl
asked_requests sheet place statement (op.CallWith entry on riders) = refl
asked_requests sheet place statement other = refl

-- what is left of a list from a place on has what stands there, and what is left behind it
here_left : {X : Type 0} (xs : List X) (n : ℕ) (x : X) (rest : List X) → drop n xs ≡ x ∷ rest →
    slice_get xs n ≡ Some x
here_left [] zero x rest is = absurd (cc)
here_left [] (suc n) x rest is = absurd (cc)
here_left (y ∷ xs) zero x rest is = let same : y ≡ x = cc in ap Some same
here_left (y ∷ xs) (suc n) x rest is = here_left xs n x rest is

behind_left : {X : Type 0} (xs : List X) (n : ℕ) (x : X) (rest : List X) → drop n xs ≡ x ∷ rest →
    drop (suc n) xs ≡ rest
behind_left [] zero x rest is = absurd (cc)
behind_left [] (suc n) x rest is = absurd (cc)
behind_left {X} (y ∷ xs) zero x rest is = let same : xs ≡ rest = cc in same
behind_left (y ∷ xs) (suc n) x rest is = behind_left xs n x rest is

part_requests : (sheet : SheetShape) (host : HostId) (at : ℕ) (table : List (Option Stand)) (before : Option Stand)
    (part : List Instr) → drop at (part_of sheet.code host) ≡ part →
    map request_of (asked_ways sheet (places_from host at table before part))
    ≡ requests_from sheet.plan host at part
part_requests sheet host at table before [] is = refl
part_requests sheet host at table before (instruction ∷ others) is =
    let stand : Stand = standing table host at before instruction in
    let place : Place = record { host = host; at = at; stand = stand } in
    let behind = places_from host (at + 1) (landed table stand instruction.op) (passed stand instruction.op) others in
    let found : instruction_at sheet.code host at ≡ Some instruction =
    here_left (part_of sheet.code host) at instruction others is in
    let next : drop (at + 1) (part_of sheet.code host) ≡ others =
    rw add-one (behind_left (part_of sheet.code host) at instruction others is) in
    map-append request_of (asked_at sheet place) (asked_ways sheet behind)
    ∙ ap₂ (λ (a b : List Request). a ++ b)
    (ap (λ (f : Option Instr). map request_of (asked_there sheet place f)) found
    ∙ asked_requests sheet place instruction.statement instruction.op)
    (part_requests sheet host (at + 1) (landed table stand instruction.op) (passed stand instruction.op) others next)

hosts_requests : (sheet : SheetShape) (doors : List WayEnd) (numbers : List ℕ) →
    map request_of (asked_ways sheet (flat_map (places_on sheet.code doors) numbers))
    ≡ flat_map (requests_on sheet.code sheet.plan) numbers
hosts_requests sheet doors [] = refl
hosts_requests sheet doors (number ∷ numbers) =
    let host : HostId = record { 0 = number } in
    ap (map request_of) (flat_map-append (asked_at sheet) (places_on sheet.code doors number)
    (flat_map (places_on sheet.code doors) numbers))
    ∙ map-append request_of (asked_ways sheet (places_on sheet.code doors number))
    (asked_ways sheet (flat_map (places_on sheet.code doors) numbers))
    ∙ ap₂ (λ (a b : List Request). a ++ b)
    (part_requests sheet host 0 (arrivals_of sheet.code doors host) None (part_of sheet.code host) refl)
    (hosts_requests sheet doors numbers)

pub all_requests : (sheet : SheetShape) (doors : List WayEnd) →
    map request_of (asked_ways sheet (code_places sheet.code doors)) ≡ code_requests sheet.code sheet.plan
all_requests sheet doors = hosts_requests sheet doors (range_with_len 0 (length sheet.code.hosts))
