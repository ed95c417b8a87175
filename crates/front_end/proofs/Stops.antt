-- What is due where a file was not loaded, and what is known where all were.
use Rattle.std.proofs.Common.{◌≡◌, ℕ, zero, suc, ◌+◌, ◌≤◌, ◌<◌, List, [], ◌∷◌, ◌++◌, length, get_or, map, refl, sym}
use Rattle.std.proofs.Common.{◌∙◌, ap}
use Rattle.std.proofs.Common.{subst, inl, inr, Option, Some, None, add-one, arith}
use Rattle.std.specs.Prelude.{take, slice_get, IsSome}
use Rattle.std.specs.List.{AllByRecursion, AllZip}
use Rattle.std.specs.Option.{option_map}
use Rattle.std.proofs.lemmas.List.{take_more}
use Rattle.std.proofs.lemmas.Option.{slice_get-map}
use Rattle.std.proofs.Math.Nat.{min-le_left}
use Rattle.js_base.proofs.Lists.{zip_push}
use Rattle.js_base.specs.Counts.{counted, last_count}
use Rattle.front_end.specs.declared.load.Asked.{Asked}
use Rattle.front_end.specs.declared.load.Loaded.{Loaded}
use Rattle.front_end.specs.declared.load.LoadStop.{LoadStop}
use Rattle.front_end.specs.declared.load.LoadStop.TheVariants as load_stop
use Rattle.front_end.specs.Verdicts.{VerdictShape}
use Rattle.front_end.specs.Loads.{FilesChange, IsHeld, counted_by}
use Rattle.front_end.specs.Loading.{Gives, LoadStops, StopCounts, IsStopOf, StopsLoading}

-- ---- counts

-- so many more loads count no more than so many
counted_little : (count : ℕ) → counted count ≤ count + 1
counted_little count = omega (arith, min-le_left (count + 1) last_count)

pub counted_by_little : (more count : ℕ) → counted_by more count ≤ count + more
counted_by_little zero count = omega arith
counted_by_little (suc more) count =
    let before = counted_by_little more count in
    let one = counted_little (counted_by more count) in
    omega arith

-- ---- loads

-- what was loaded is held
pub held_where_loaded : (held : Option (List ℕ → Option (List ℕ))) (name : List ℕ) (most : ℕ) (found : Loaded) →
    Gives held name most found → IsHeld held name
held_where_loaded None name most found gives = tt
held_where_loaded (Some holds) name most found gives = subst (IsSome {T = List ℕ}) (sym gives.1) refl

abbrev pub GivesAsked : Option (List ℕ → Option (List ℕ)) → Asked → Loaded → Type 0
GivesAsked held one given = Gives held one.name.now one.most given

abbrev pub names_asked : List Asked → List (List ℕ)
names_asked asked = map (λ (one : Asked). one.name.now) asked

-- all in front are held
pub held_in_front : (held : Option (List ℕ → Option (List ℕ))) (asked : List Asked) (place : ℕ) (given : List Loaded) →
    AllZip (GivesAsked held) (take place asked) given → AllByRecursion (IsHeld held) (take place (names_asked asked))
held_in_front held [] zero given all = tt
held_in_front held [] (suc place) given all = tt
held_in_front held (one ∷ asked) zero given all = tt
held_in_front held (one ∷ asked) (suc place) [] all = absurd all
held_in_front held (one ∷ asked) (suc place) (g ∷ given) all =
    (held_where_loaded held one.name.now one.most g all.0, held_in_front held asked place given all.1)

-- The file at a place was not loaded, those before it are held, and they were loaded without a fault.
pub stop_at : (names : List (List ℕ)) (place : ℕ) (file : List ℕ) (files : FilesChange) (loads faults : ℕ)
    (why : LoadStop) (verdict : VerdictShape) →
    slice_get names place ≡ Some file →
    AllByRecursion (IsHeld files.held) (take place names) →
    loads ≡ counted_by place files.loads_before → faults ≡ files.faults_before → files.loads_after ≡ counted loads →
    LoadStops files.held file why → StopCounts file faults files.faults_after files.failed why →
    IsStopOf why file verdict →
    StopsLoading names files verdict
stop_at names place file files loads faults load_stop.OutOfMemory verdict here before loads_so_far faults_so_far
    one_more stops counts is = absurd is
stop_at names place file files loads faults load_stop.Absent verdict here before loads_so_far faults_so_far one_more
    stops counts is =
    inl (
      place,
      file,
      record { here = here; absent = stops; before = before },
      record { loads = rw add-one (one_more ∙ ap counted loads_so_far); no_fault = counts ∙ faults_so_far },
      is,
    )
stop_at names place file files loads faults load_stop.Failed verdict here before loads_so_far faults_so_far one_more
    stops counts is =
    inr (record {
      place = place;
      here = here ∙ ap Some (sym counts.1);
      held = subst (IsHeld files.held) (sym counts.1) stops;
      before = before;
      loads = rw add-one (one_more ∙ ap counted loads_so_far);
      rose = rw (← faults_so_far) counts.0;
      verdict_is = rw counts.1 is;
    })

get_within : {X : Type 0} (xs : List X) (place : ℕ) (default : X) → place < length xs →
    slice_get xs place ≡ Some (get_or xs place default)
get_within [] place default within = absurd (omega arith)
get_within (x ∷ xs) zero default within = refl
get_within (x ∷ xs) (suc place) default within = get_within xs place default (omega arith)

-- the name at a place
pub name_at : (asked : List Asked) (place : ℕ) (default : Asked) → place < length asked →
    slice_get (names_asked asked) place ≡ Some (get_or asked place default).name.now
name_at asked place default within =
    slice_get-map (λ (other : Asked). other.name.now) asked place
    ∙ ap (option_map (λ (other : Asked). other.name.now)) (get_within asked place default within)

-- one more was loaded
pub one_more_given : (held : Option (List ℕ → Option (List ℕ))) (asked : List Asked) (place : ℕ) (default : Asked)
    (given : List Loaded) (one : Loaded) → place < length asked →
    AllZip (GivesAsked held) (take place asked) given → GivesAsked held (get_or asked place default) one →
    AllZip (GivesAsked held) (take (place + 1) asked) (given ++ one ∷ [])
one_more_given held asked place default given one within all last =
    let P : List Asked → Type 0 = λ front. AllZip (GivesAsked held) front (given ++ one ∷ []) in
    subst P (sym (take_more asked place default within))
    (zip_push (GivesAsked held) (take place asked) given (get_or asked place default) one all last)

-- so few loads
pub few_loads : (place most before between after : ℕ) → between ≡ counted_by place before → after ≡ counted between →
    place < most → after ≤ before + most
few_loads place most before between after so_far one_more within =
    let little = counted_by_little place before in
    let one = counted_little between in
    omega arith
