-- Starts one after the other, and the waits for their children.
use Rattle.std.proofs.Common.{◌≡◌, ◌<◌, ◌≤◌, ◌+◌, ◌++◌, ◌∙◌, ◌⊎◌, ℕ, ℤ, List, [], ◌∷◌, length, refl, sym, ap, subst}
use Rattle.std.proofs.Common.{append_assoc, append-nil, inl, inr, arith, drop, get_or, map, take, Option, Some, None}
use Rattle.std.proofs.Common.{Result}
use Rattle.std.proofs.Common.{Ok, Err}
use Rattle.std.specs.Prelude.{Contains, IfOk, IsErrOf, OnErr}
use Rattle.std.specs.Option.{option_map}
use Rattle.std.specs.List.{AllZip, flat_map, sum_by, zip}
use Rattle.std.proofs.lemmas.Bool.Decides.{eqb_tells}
use Rattle.std.proofs.lemmas.Grind.{flat_map-append}
use Rattle.std.proofs.lemmas.List.Elements.{Contains-push_cases, Contains-append_left, Contains-append_right}
use Rattle.std.proofs.lemmas.List.Elements.{Contains-append_cases}
use Rattle.std.proofs.lemmas.List.{drop_more, map_push, take_all, take_more}
use Rattle.std.proofs.lemmas.List.Sums.{sum_by-append}
use Rattle.js_base.specs.Counts.{Rose}
use Rattle.js_base.proofs.Lists.{zip_push}
use Rattle.child_programs.specs.Children.{without}
use Rattle.child_programs.specs.declared.spawner.SpawnError.{SpawnError}
use Rattle.child_programs.specs.declared.spawner.SpawnError.TheVariants as error
use Rattle.launch.specs.declared.child_end.ChildEnd.{ChildEnd}
use Rattle.launch.specs.Launching.{AllEnded, AllStarted, AreApartChildren, AreLive, Launched, Spawned, Waited}
use Rattle.launch.specs.Launching.{children, failures, given, requests, statuses, without_started}
use Rattle.launch.specs.Starts.{SpawnAnswers, Grew, MayEnd, RoseBy, SpawnerState, ChildStart, unasked, childless}
use Rattle.launch.specs.Starts.{started}
use Rattle.launch.specs.Starts.{child_of, end_of, failed_start, failure, given_by, request_of}

-- ---- lists that are told

pub grew_none : {A : Type 0} (told : Option (List A)) → Grew [] told told
grew_none None = refl
grew_none (Some all) = ap Some (sym (append-nil all))

pub grew_on : {A : Type 0} (xs ys : List A) (one two three : Option (List A)) → Grew xs one two → Grew ys two three →
    Grew (xs ++ ys) one three
grew_on xs ys None two three first second = second ∙ ap (option_map (λ all. all ++ ys)) first
grew_on xs ys (Some all) two three first second =
    second ∙ ap (option_map (λ list. list ++ ys)) first ∙ ap Some (append_assoc all xs ys)

pub grew_by : {A : Type 0} (xs ys : List A) (one two : Option (List A)) → ys ≡ xs → Grew xs one two → Grew ys one two
grew_by {A = A} xs ys one two same grew = subst (λ (more : List A). Grew more one two) (sym same) grew

-- ---- counts

pub rose_none : (count : ℕ) → RoseBy 0 count count
rose_none count = record { least = inl (omega arith); more = omega arith; calm = λ _. refl }

pub rose_on : (many more one two three : ℕ) → RoseBy many one two → RoseBy more two three → RoseBy (many + more) one
    three
rose_on many more one two three first second = record {
  least = elim first.least [
    | inl rose ↦ elim second.least [
      | inl again ↦ inl (omega (arith, rose, again))
      | inr last ↦ inr last
    ]
    | inr last ↦ inr (omega (arith, last, second.more))
  ];
  more = omega (arith, first.more, second.more);
  calm = λ none. second.calm (omega (arith, none)) ∙ first.calm (omega (arith, none));
}

pub rose_as : (many more one two : ℕ) → more ≡ many → RoseBy many one two → RoseBy more one two
rose_as many more one two same rose = subst (λ (n : ℕ). RoseBy n one two) (sym same) rose

-- by a failure that is counted
pub rose_once : (old new : ℕ) → Rose old new → old ≤ new → RoseBy 1 old new
rose_once old new rose more = record {
  least = elim rose [
    | inl less ↦ inl (omega (arith, less))
    | inr last ↦ inr (omega (arith, last))
  ];
  more = more;
  calm = λ none. absurd (omega (arith, none));
}

-- ---- children apart

at_front : (child : ℕ) (others : List ℕ) → Contains (child ∷ others) child
at_front child others = (0, omega arith, refl)

apart_push : (others more : List ℕ) (child : ℕ) → AreApartChildren others more → (Contains (others ++ more) child → ⊥) →
    AreApartChildren others (more ++ child ∷ [])
apart_push others [] child apart fresh = (
  λ has. fresh (Contains-append_left others [] child has),
  λ has. omega (arith, has.1),
  tt,
)
apart_push others (one ∷ more) child apart fresh = (
  apart.0,
  λ has. elim (Contains-push_cases more child one has) [
    | inl there ↦ apart.1 there
    | inr same ↦ fresh (Contains-append_right others (one ∷ more) child
        (subst (λ (n : ℕ). Contains (one ∷ more) n) (sym same) (at_front one more)))
  ],
  apart_push others more child apart.2 (λ has. elim (Contains-append_cases others more child has) [
    | inl there ↦ fresh (Contains-append_left others (one ∷ more) child there)
    | inr there ↦ fresh (Contains-append_right others (one ∷ more) child (Contains-append_right (one ∷ []) more child
        there))
  ]),
)

kept : (child : ℕ) (others : List ℕ) → (Contains others child → ⊥) → without child others ≡ others
kept child [] none = refl
kept child (other ∷ others) none = elim (eqb_tells other child) [
  | inl same ↦ absurd (none (subst (λ (n : ℕ). Contains (other ∷ others) n) same.1 (at_front other others)))
  | inr apart ↦
      let rest = kept child others (λ has. none (Contains-append_right (other ∷ []) others child has)) in
      rw (apart.0) (ap (λ (list : List ℕ). other ∷ list) rest)
]

without_front : (others rest : List ℕ) (child : ℕ) → (Contains others child → ⊥) → (Contains rest child → ⊥) →
    without child (others ++ child ∷ rest) ≡ others ++ rest
without_front [] rest child none behind = elim (eqb_tells child child) [
  | inl same ↦ rw (same.0) (kept child rest behind)
  | inr other ↦ absurd (other.1 refl)
]
without_front (one ∷ others) rest child none behind = elim (eqb_tells one child) [
  | inl same ↦ absurd (none (subst (λ (n : ℕ). Contains (one ∷ others) n) same.1 (at_front one others)))
  | inr apart ↦
      let left = without_front others rest child (λ has. none (Contains-append_right (one ∷ []) others child has))
      behind in
      rw (apart.0) (ap (λ (list : List ℕ). one ∷ list) left)
]

-- ---- one start after others

pub zip_front : {A B : Type 0} (xs : List A) (ys : List B) (x : A) (y : B) → length ys ≡ length xs →
    zip (xs ++ x ∷ []) (ys ++ y ∷ []) ≡ zip xs ys ++ (x, y) ∷ []
zip_front {A = A} {B = B} [] [] x y long = refl
zip_front {A = A} {B = B} [] (b ∷ ys) x y long = absurd (omega (arith, long))
zip_front {A = A} {B = B} (a ∷ xs) [] x y long = absurd (omega (arith, long))
zip_front {A = A} {B = B} (a ∷ xs) (b ∷ ys) x y long = ap (λ (more : List (A × B)). (a, b) ∷ more) (zip_front xs ys x
    y (omega (arith, long)))

one_of : {X A : Type 0} (f : X → List A) (x : X) → flat_map f (x ∷ []) ≡ f x
one_of f x = append-nil (f x)

pub flat_more : {X A : Type 0} (f : X → List A) (xs : List X) (x : X) → flat_map f (xs ++ x ∷ []) ≡ flat_map f xs ++ f x
flat_more {A = A} f xs x = flat_map-append f xs (x ∷ []) ∙ ap (λ (more : List A). flat_map f xs ++ more) (one_of f x)

pub none_started : (program : List ℕ) (state : SpawnerState) → AllStarted program [] [] state state
none_started program state = record {
  starts = [];
  many = refl;
  answered = tt;
  asked = grew_none state.asked;
  gave = grew_none state.gave;
  ended = refl;
  live = sym (append-nil state.live);
  apart = tt;
  faults = rose_none state.faults;
}

long_push : {A : Type 0} (xs : List A) (x : A) → length (xs ++ x ∷ []) ≡ length xs + 1
long_push [] x = refl
long_push (a ∷ xs) x = omega (arith, long_push xs x)

apart_more : (others more : List ℕ) (answer : Result ℕ SpawnError) → AreApartChildren others more →
    ((child : ℕ) → Contains (child_of answer) child → Contains (others ++ more) child → ⊥) →
    AreApartChildren others (more ++ child_of answer)
apart_more others more (Ok child) apart fresh = apart_push others more child apart (fresh child (at_front child []))
apart_more others more (Err why) apart fresh = subst (AreApartChildren others) (sym (append-nil more)) apart

pub one_started : (program : List ℕ) (words : List (List (List ℕ))) (one : List (List ℕ))
    (answers : List (Result ℕ SpawnError)) (answer : Result ℕ SpawnError) (old now new : SpawnerState) →
    AllStarted program words answers old now → Spawned program one answer now new →
    AllStarted program (words ++ one ∷ []) (answers ++ answer ∷ []) old new
one_started program words one answers answer old now new so_far last = record {
  starts = so_far.starts ++ last.start ∷ [];
  many = long_push so_far.starts last.start ∙ ap (λ (n : ℕ). n + 1) so_far.many ∙ sym (long_push words one);
  answered = zip_push SpawnAnswers so_far.starts answers last.start answer so_far.answered last.answered;
  asked = grew_by _ _ old.asked new.asked
      (ap (flat_map (λ (w : List (List ℕ) × ChildStart). request_of program w.0 w.1))
      (zip_front words so_far.starts one last.start so_far.many)
      ∙ flat_more (λ (w : List (List ℕ) × ChildStart). request_of program w.0 w.1) (zip words so_far.starts) (
        one,
        last.start,
      ))
      (grew_on (requests program words so_far.starts) (request_of program one last.start) old.asked now.asked new.asked
      so_far.asked last.asked);
  gave = grew_by _ _ old.gave new.gave (flat_more given_by so_far.starts last.start)
      (grew_on (given so_far.starts) (given_by last.start) old.gave now.gave new.gave so_far.gave last.gave);
  ended = last.ended ∙ so_far.ended;
  live = last.live ∙ ap (λ (list : List ℕ). list ++ child_of answer) so_far.live
      ∙ append_assoc old.live (children answers) (child_of answer)
      ∙ ap (λ (list : List ℕ). old.live ++ list) (sym (flat_more child_of answers answer));
  apart = subst (AreApartChildren old.live) (sym (flat_more child_of answers answer))
      (apart_more old.live (children answers) answer so_far.apart
      (λ child new_one has. last.fresh child new_one (subst (λ (list : List ℕ). Contains list child) (sym so_far.live)
      has)));
  faults = rose_as _ _ old.faults new.faults
      (sum_by-append failed_start answers (answer ∷ []) ∙ ap (λ (n : ℕ). so_far_count + n) (sum_one answer))
      (rose_on so_far_count (failed_start answer) old.faults now.faults new.faults so_far.faults last.faults);
}
  where
    so_far_count : ℕ
    so_far_count = sum_by failed_start answers

    sum_one : (one : Result ℕ SpawnError) → sum_by failed_start (one ∷ []) ≡ failed_start one
    sum_one one = omega arith

-- ---- one wait after others

wait_front : (others live rest : List ℕ) (answer : Result ℕ SpawnError) → AreLive others live (child_of answer ++
    rest) →
    AreLive others (without_started answer live) rest
wait_front others live rest (Ok child) old = record {
  live_is = ap (without child) old.live_is ∙ without_front others rest child old.apart.0 old.apart.1;
  apart = old.apart.2;
}
wait_front others live rest (Err why) old = old

pub has_front : (others live rest : List ℕ) (child : ℕ) → AreLive others live (child ∷ rest) → Contains live child
has_front others live rest child old =
    subst (λ (list : List ℕ). Contains list child) (sym old.live_is)
    (Contains-append_right others (child ∷ rest) child (at_front child rest))

-- the waits for the children of some answers, where those of others are left
pub record EndedSoFar (done left : List (Result ℕ SpawnError)) (ends : List ChildEnd) (before : ℕ)
    (old new : SpawnerState) : Type 0 where
  pub may_end : AllZip MayEnd done ends
  pub asked : new.asked ≡ old.asked
  pub gave : new.gave ≡ old.gave
  pub ended : Grew (statuses done ends) old.ended new.ended
  pub faults : RoseBy (sum_by failed_start left + failures ends) before new.faults

pub none_ended : (answers : List (Result ℕ SpawnError)) (before : ℕ) (state : SpawnerState) →
    RoseBy (sum_by failed_start answers) before state.faults → EndedSoFar [] answers [] before state state
none_ended answers before state rose = record {
  may_end = tt;
  asked = refl;
  gave = refl;
  ended = grew_none state.ended;
  faults = rose_as _ _ before state.faults (omega arith) rose;
}

all_long : {A B : Type 0} (R : A → B → Type 0) (xs : List A) (ys : List B) → AllZip R xs ys → length ys ≡ length xs
all_long R [] [] all = refl
all_long R [] (y ∷ ys) all = absurd all
all_long R (x ∷ xs) [] all = absurd all
all_long R (x ∷ xs) (y ∷ ys) all = omega (arith, all_long R xs ys all.1)

pub one_ended : (done left : List (Result ℕ SpawnError)) (answer : Result ℕ SpawnError) (ends : List ChildEnd)
    (end : ChildEnd) (before : ℕ) (old now new : SpawnerState) →
    EndedSoFar done (answer ∷ left) ends before old now → Waited answer end now new →
    EndedSoFar (done ++ answer ∷ []) left (ends ++ end ∷ []) before old new
one_ended done left answer ends end before old now new so_far last = record {
  may_end = zip_push MayEnd done ends answer end so_far.may_end last.may_end;
  asked = last.asked ∙ so_far.asked;
  gave = last.gave ∙ so_far.gave;
  ended = grew_by _ _ old.ended new.ended
      (ap (flat_map (λ (w : Result ℕ SpawnError × ChildEnd). end_of w.0 w.1))
      (zip_front done ends answer end (all_long MayEnd done ends so_far.may_end))
      ∙ flat_more (λ (w : Result ℕ SpawnError × ChildEnd). end_of w.0 w.1) (zip done ends) (answer, end))
      (grew_on (statuses done ends) (end_of answer end) old.ended now.ended new.ended so_far.ended last.ended);
  faults = rose_as (failure end + rest) _ before new.faults
      (ap (λ (n : ℕ). sum_by failed_start left + n) (sum_by-append failure ends (end ∷ [])) ∙ omega arith)
      (last.faults before rest (rose_as _ _ before now.faults (omega (
        arith,
        sum_by-append failed_start (answer ∷ [])
            left,
      ))
      so_far.faults));
}
  where
    rest : ℕ
    rest = sum_by failed_start left + failures ends

pub live_on : (others left : List ℕ) (answer : Result ℕ SpawnError) (end : ChildEnd) (now new : SpawnerState) →
    AreLive others now.live (child_of answer ++ left) → Waited answer end now new → AreLive others new.live left
live_on others left answer end now new old last =
    subst (λ (live : List ℕ). AreLive others live left) (sym last.live) (wait_front others now.live left answer old)

pub all_ended : (others : List ℕ) (answers : List (Result ℕ SpawnError)) (ends : List ChildEnd) (before : ℕ)
    (old new : SpawnerState) → EndedSoFar answers [] ends before old new → AreLive others new.live [] →
    AllEnded others answers ends before old new
all_ended others answers ends before old new so_far live = record {
  may_end = so_far.may_end;
  asked = so_far.asked;
  gave = so_far.gave;
  ended = so_far.ended;
  live = live.live_is ∙ append-nil others;
  faults = rose_as _ _ before new.faults (omega arith) so_far.faults;
}

pub launched : (program : List ℕ) (words : List (List (List ℕ))) (answers : List (Result ℕ SpawnError))
    (ends : List ChildEnd) (old mid new : SpawnerState) → AllStarted program words answers old mid →
    AllEnded old.live answers ends old.faults mid new → Launched program words ends old new
launched program words answers ends old mid new begun over = record {
  starts = begun.starts;
  answers = answers;
  many = begun.many;
  answered = begun.answered;
  may_end = over.may_end;
  asked = over.asked ∙ begun.asked;
  gave = over.gave ∙ begun.gave;
  ended = subst (λ (told : Option (List (ℕ × ℤ))). Grew (statuses answers ends) told new.ended) begun.ended over.ended;
  live = over.live;
  faults = over.faults;
}

-- ---- one call

-- what a call of `spawn` leaves, by what it says
pub spawned : (program : List ℕ) (words : List (List ℕ)) (answer : Result ℕ SpawnError) (old new : SpawnerState) →
    IfOk answer (λ child. new.live ≡ old.live ++ child ∷ []) →
    IfOk answer (λ child. Contains old.live child → ⊥) →
    OnErr answer (new.live ≡ old.live) →
    ((IsErrOf answer error.OutOfMemory → ⊥) → Grew ((program, words) ∷ []) old.asked new.asked) →
    IfOk answer (λ child. Grew (Some child ∷ []) old.gave new.gave) →
    (IsErrOf answer error.Failed → Grew (None ∷ []) old.gave new.gave) →
    (IsErrOf answer error.OutOfMemory → ((new.asked ≡ old.asked) × (new.gave ≡ old.gave))
    ⊎ (Grew ((program, words) ∷ []) old.asked new.asked × Grew (None ∷ []) old.gave new.gave)) →
    new.ended ≡ old.ended → old.faults ≤ new.faults →
    (IsErrOf answer error.Failed ⊎ (new.faults ≡ old.faults)) →
    (IsErrOf answer error.Failed → Rose old.faults new.faults) → Spawned program words answer old new
spawned program words (Ok child) old new live fresh err asked gave gave_none memory ended more no_fault cause = record {
  start = started child;
  answered = refl;
  asked = asked (λ is. absurd (not_err is));
  gave = gave;
  ended = ended;
  live = live;
  fresh = λ number new_one has. fresh (subst (λ (n : ℕ). Contains old.live n) (only_one new_one) has);
  faults = record {
    least = inl (omega (arith, more));
    more = more;
    calm = λ _. elim no_fault [
      | inl is ↦ absurd (not_failed is)
      | inr same ↦ same
    ];
  };
}
  where
    not_err : ◌≡◌ {A = Result ℕ SpawnError} (Ok child) (Err error.OutOfMemory) → ⊥
    not_err is = cc

    not_failed : ◌≡◌ {A = Result ℕ SpawnError} (Ok child) (Err error.Failed) → ⊥
    not_failed is = cc

    only_one : {number : ℕ} → Contains (child ∷ []) number → number ≡ child
    only_one {number} has = elim (Contains-push_cases [] child number has) [
      | inl none ↦ absurd (omega (arith, none.1))
      | inr same ↦ sym same
    ]
spawned program words (Err error.Failed) old new live fresh err asked gave gave_none memory ended more no_fault cause
    = record {
      start = childless;
      answered = tt;
      asked = asked (λ is. absurd (not_memory is));
      gave = gave_none refl;
      ended = ended;
      live = err ∙ sym (append-nil old.live);
      fresh = λ number new_one has. omega (arith, new_one.1);
      faults = rose_once old.faults new.faults (cause refl) more;
    }
  where
    not_memory : ◌≡◌ {A = Result ℕ SpawnError} (Err error.Failed) (Err error.OutOfMemory) → ⊥
    not_memory is = cc
spawned program words (Err error.OutOfMemory) old new live fresh err asked gave gave_none memory ended more no_fault
    cause =
    elim (memory refl) [
      | inl none ↦ record {
        start = unasked;
        answered = tt;
        asked = subst (Grew [] old.asked) (sym none.0) (grew_none old.asked);
        gave = subst (Grew [] old.gave) (sym none.1) (grew_none old.gave);
        ended = ended;
        live = err ∙ sym (append-nil old.live);
        fresh = λ number new_one has. omega (arith, new_one.1);
        faults = calm;
      }
      | inr one ↦ record {
        start = childless;
        answered = tt;
        asked = one.0;
        gave = one.1;
        ended = ended;
        live = err ∙ sym (append-nil old.live);
        fresh = λ number new_one has. omega (arith, new_one.1);
        faults = calm;
      }
    ]
  where
    not_failed : ◌≡◌ {A = Result ℕ SpawnError} (Err error.OutOfMemory) (Err error.Failed) → ⊥
    not_failed is = cc

    calm : RoseBy 0 old.faults new.faults
    calm = record {
      least = inl (omega (arith, more));
      more = more;
      calm = λ _. elim no_fault [
        | inl is ↦ absurd (not_failed is)
        | inr same ↦ same
      ];
    }

-- ---- lists up to a place

pub mapped_more : {A B : Type 0} (f : A → B) (xs : List A) (i : ℕ) (x : A) → i < length xs → x ≡ get_or xs i x →
    map f (take (i + 1) xs) ≡ map f (take i xs) ++ f x ∷ []
mapped_more f xs i x within is =
    ap (map f) (take_more xs i x within) ∙ map_push f (take i xs) (get_or xs i x)
    ∙ ap (λ y. map f (take i xs) ++ f y ∷ []) (sym is)

pub all_mapped : {A B : Type 0} (f : A → B) (xs : List A) (n : ℕ) → n ≡ length xs → map f (take n xs) ≡ map f xs
all_mapped f xs n is = ap (map f) (take_all n xs (omega (arith, is)))

pub taken_more : {A : Type 0} (xs : List A) (i : ℕ) (x : A) → i < length xs → x ≡ get_or xs i x →
    take (i + 1) xs ≡ take i xs ++ x ∷ []
taken_more xs i x within is = take_more xs i x within ∙ ap (λ y. take i xs ++ y ∷ []) (sym is)

pub dropped : {A : Type 0} (xs : List A) (i : ℕ) (x : A) → i < length xs → x ≡ get_or xs i x →
    drop i xs ≡ x ∷ drop (i + 1) xs
dropped xs i x within is = drop_more xs i x within ∙ ap (λ y. y ∷ drop (i + 1) xs) (sym is)
