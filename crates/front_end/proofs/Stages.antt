-- Stages one after the other: how a result ends them, and that they have one outcome.
use Rattle.std.proofs.Common.{◌≡◌, ◌≢◌, refl, sym, ap, ◌∙◌, subst, inl, inr, ⊎_elim, Result, Ok, Err}
use Rattle.std.specs.Prelude.{IfOk, IsErr, MatchResult}
use Rattle.std.specs.Result.{IsErrAnd}
use Rattle.std.proofs.lemmas.Result.{IfOk-weaker}
use Rattle.js_base.specs.declared.OutOfMemory.{OutOfMemory}
use Rattle.front_end.specs.declared.stop.Stop.{Stop}
use Rattle.front_end.specs.declared.stop.Stop.TheVariants as stop
use Rattle.front_end.specs.declared.verdict.Verdict.{Verdict}
use Rattle.front_end.specs.Verdicts.{VerdictShape, verdict_shape}
use Rattle.front_end.specs.Stages.{StageEnd, given, stopped, Then, DueThen}
use Rattle.front_end.specs.Loading.{StopsWith, EndsAs, EndsIn}
use Rattle.front_end.proofs.Results.{both_ok}

pub stops_weaker : (P Q : VerdictShape → Type 0) (why : Stop) → ((verdict : VerdictShape) → P verdict → Q verdict) →
    StopsWith P why → StopsWith Q why
stops_weaker P Q stop.OutOfMemory weaker stops = tt
stops_weaker P Q (stop.Due verdict) weaker stops = weaker (verdict_shape verdict) stops

-- what is due where a command stops with a verdict that was made
pub stopped_with : (P : VerdictShape → Type 0) (due : Result Verdict OutOfMemory) (why : Stop) →
    IfOk due (λ verdict. P (verdict_shape verdict)) →
    MatchResult due (λ verdict. why ≡ stop.Due verdict) (λ _. why ≡ stop.OutOfMemory) → StopsWith P why
stopped_with P (Ok verdict) why is made = subst (StopsWith P) (sym made) is
stopped_with P (Err memory) why is made = subst (StopsWith P) (sym made) tt

-- a cause that was told, and for which memory did not run out
pub refusal_stops : {W : Type 0} (Fails : W → Type 0) (memory : W) (told : W → VerdictShape) (why : W)
    (due : Result Verdict OutOfMemory) (stopping : Stop) → Fails why →
    IfOk due (λ verdict. verdict_shape verdict ≡ told why) → IfOk due (λ _. why ≢ memory) →
    MatchResult due (λ verdict. stopping ≡ stop.Due verdict) (λ _. stopping ≡ stop.OutOfMemory) →
    StopsWith (λ verdict. (cause : W) × Fails cause × (cause ≢ memory) × (verdict ≡ told cause)) stopping
refusal_stops {W} Fails memory told why due stopping fails is not made =
    stopped_with (λ verdict. (cause : W) × Fails cause × (cause ≢ memory) × (verdict ≡ told cause)) due stopping
    (IfOk-weaker due _ _ (λ verdict both. (why, fails, both.1, both.0))
    (both_ok due (λ verdict. verdict_shape verdict ≡ told why) (λ _. why ≢ memory) is not)) made

-- a stage that gave a value, and a result of the next
pub then_ends : {X Y S T : Type 0} (first : S → X) (second : T → Y) (First : StageEnd X → Type 0)
    (Next : X → StageEnd Y → Type 0) (value : S) (result : Result T Stop) →
    First (given (first value)) → EndsAs second (Next (first value)) result → EndsAs second (Then First Next) result
then_ends first second First Next value (Ok last) was ends = inl (first value, was, ends)
then_ends first second First Next value (Err why) was ends =
    stops_weaker (λ verdict. Next (first value) (stopped verdict)) (λ verdict. Then First Next (stopped verdict)) why
    (λ verdict end. inl (first value, was, end)) ends

-- a stage that stopped
pub then_stops : {X Y : Type 0} (First : StageEnd X → Type 0) (Next : X → StageEnd Y → Type 0) (why : Stop) →
    StopsWith (λ verdict. First (stopped verdict)) why → StopsWith (λ verdict. Then First Next (stopped verdict)) why
then_stops First Next why stops =
    stops_weaker (λ verdict. First (stopped verdict)) (λ verdict. Then First Next (stopped verdict)) why
    (λ verdict was. inr (verdict, was, refl)) stops

-- a stage that stopped a command
pub due_stops : {X : Type 0} (First : StageEnd X → Type 0) (Last : X → VerdictShape → Type 0) (why : Stop) →
    StopsWith (λ verdict. First (stopped verdict)) why → StopsWith (DueThen First Last) why
due_stops First Last why stops =
    stops_weaker (λ verdict. First (stopped verdict)) (DueThen First Last) why (λ verdict was. inr was) stops

-- a stage and what is due for what it gave, where other such are put for both
pub due_moved : {X : Type 0} (First Other : StageEnd X → Type 0) (Last Least : X → VerdictShape → Type 0)
    (verdict : VerdictShape) → ((end : StageEnd X) → First end → Other end) →
    ((x : X) → Last x verdict → Least x verdict) → DueThen First Last verdict → DueThen Other Least verdict
due_moved First Other Last Least verdict first last due =
    ⊎_elim (λ left. inl (left.0, first (given left.0) left.1, last left.0 left.2))
    (λ right. inr (first (stopped verdict) right)) due

-- ---- a stop that is handed on as it is

pub handed_on : {X Y : Type 0} (view : X → Y) (P : StageEnd Y → Type 0) (why : Stop) (result : Result X Stop) →
    IsErr result × IsErrAnd result (λ other. other ≡ why) → StopsWith (λ verdict. P (stopped verdict)) why →
    EndsAs view P result
handed_on view P why (Ok value) is stops = absurd is.1
handed_on view P why (Err other) is stops = subst (StopsWith (λ verdict. P (stopped verdict))) (sym is.1) stops

pub due_handed_on : (P : VerdictShape → Type 0) (why : Stop) (result : Result Verdict Stop) →
    IsErr result × IsErrAnd result (λ other. other ≡ why) → StopsWith P why → EndsIn P result
due_handed_on P why (Ok value) is stops = absurd is.1
due_handed_on P why (Err other) is stops = subst (StopsWith P) (sym is.1) stops

-- memory ran out
pub memory_ran_out : (P : VerdictShape → Type 0) (result : Result Verdict Stop) →
    IsErr result × IsErrAnd result (λ other. other ≡ stop.OutOfMemory) → EndsIn P result
memory_ran_out P (Ok value) is = absurd is.1
memory_ran_out P (Err other) is = subst (StopsWith P) (sym is.1) tt

pub ends_weaker : (P Q : VerdictShape → Type 0) (result : Result Verdict Stop) →
    ((verdict : VerdictShape) → P verdict → Q verdict) → EndsIn P result → EndsIn Q result
ends_weaker P Q (Ok verdict) weaker ends = weaker (verdict_shape verdict) ends
ends_weaker P Q (Err why) weaker ends = stops_weaker P Q why weaker ends

-- ---- one outcome

abbrev pub give : {X : Type 0} → X → StageEnd X
give x = given x

abbrev pub stop_with : {X : Type 0} → VerdictShape → StageEnd X
stop_with verdict = stopped verdict

abbrev pub IsOne : {X : Type 0} → (StageEnd X → Type 0) → Type 0
IsOne {X} P = (first second : StageEnd X) → P first → P second → first ≡ second

-- two stages have one outcome where each has
pub one_then : {X Y : Type 0} (First : StageEnd X → Type 0) (Next : X → StageEnd Y → Type 0) → IsOne First →
    ((x : X) → First (given x) → IsOne (Next x)) → IsOne (Then First Next)
one_then {X} {Y} First Next one next first second one_is two_is =
    ⊎_elim
    (λ left. ⊎_elim
    (λ right. let both : give left.0 ≡ give right.0 = one (given left.0) (given right.0) left.1 right.1 in
    let same : right.0 ≡ left.0 = cc in
    next left.0 left.1 first second left.2 (subst (λ (x : X). Next x second) same right.2))
    (λ right. absurd (let no : give left.0 ≡ stop_with right.0 =
    one (given left.0) (stopped right.0) left.1 right.1 in cc))
    two_is)
    (λ left. ⊎_elim
    (λ right. absurd (let no : stop_with left.0 ≡ give right.0 =
    one (stopped left.0) (given right.0) left.1 right.1 in cc))
    (λ right. let both : stop_with {X = X} left.0 ≡ stop_with right.0 =
    one (stopped left.0) (stopped right.0) left.1 right.1 in
    let same : left.0 ≡ right.0 = cc in
    left.2 ∙ ap (λ (verdict : VerdictShape). stop_with {X = Y} verdict) same ∙ sym right.2)
    two_is)
    one_is

-- a stage and what is due for what it gave are one verdict where each is one
pub one_due : {X : Type 0} (First : StageEnd X → Type 0) (Last : X → VerdictShape → Type 0)
    (first second : VerdictShape) → IsOne First →
    ((x : X) → First (given x) → Last x first → Last x second → first ≡ second) →
    DueThen First Last first → DueThen First Last second → first ≡ second
one_due {X} First Last first second one last one_is two_is =
    ⊎_elim
    (λ left. ⊎_elim
    (λ right. let both : give left.0 ≡ give right.0 = one (given left.0) (given right.0) left.1 right.1 in
    let same : right.0 ≡ left.0 = cc in
    last left.0 left.1 left.2 (subst (λ (x : X). Last x second) same right.2))
    (λ right. absurd (let no : give left.0 ≡ stop_with second =
    one (given left.0) (stopped second) left.1 right in cc))
    two_is)
    (λ left. ⊎_elim
    (λ right. absurd (let no : stop_with first ≡ give right.0 =
    one (stopped first) (given right.0) left right.1 in cc))
    (λ right. let both : stop_with {X = X} first ≡ stop_with second =
    one (stopped first) (stopped second) left right in cc)
    two_is)
    one_is
