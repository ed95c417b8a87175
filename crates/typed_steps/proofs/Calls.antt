-- The calls of a configuration after one of them set a variable, and after one more was made.
use Rattle.std.proofs.Common.{◌≡◌, ◌∙◌, ℕ, zero, suc, ◌<◌, inl, inr, Bool, List, [], ◌∷◌, ◌++◌}
use Rattle.std.proofs.Common.{length, Option, Some, refl, ap, sym, arith, length-set}
use Rattle.std.specs.Prelude.{ℤ, pos, ◌==◌, if◌then◌else◌, slice_get, slice_set, unwrap_or}
use Rattle.std.specs.Option.{option_map}
use Rattle.std.proofs.lemmas.Bool.Decides.{eqb_tells}
use Rattle.jif_tree.specs.SourceRun.{Call, Configuration, calls_after, variable, with_value}
use Rattle.net_world.proofs.Present.{get_other}
use Rattle.typed_steps.specs.Views.{CallNaming, values_set}
use Rattle.typed_steps.specs.Variables.{IsCallNamed}

-- ---- lists

pub there_within : {X : Type 0} (xs : List X) (n : ℕ) → n < length xs → (x : X) × (slice_get xs n ≡ Some x)
there_within [] n within = absurd (omega arith)
there_within (x ∷ xs) zero within = (x, refl)
there_within (x ∷ xs) (suc n) within = there_within xs n (omega arith)

pub set_there : {X : Type 0} (xs : List X) (n : ℕ) (x y : X) → slice_get xs n ≡ Some y →
    slice_get (slice_set xs n x) n ≡ Some x
set_there [] n x y is = absurd (cc)
set_there (first ∷ xs) zero x y is = refl
set_there (first ∷ xs) (suc n) x y is = set_there xs n x y is

pub get_front : {X : Type 0} (xs ys : List X) (n : ℕ) → n < length xs → slice_get (xs ++ ys) n ≡ slice_get xs n
get_front [] ys n within = absurd (omega arith)
get_front (x ∷ xs) ys zero within = refl
get_front (x ∷ xs) ys (suc n) within = get_front xs ys n (omega arith)

pub get_last : {X : Type 0} (xs : List X) (x : X) (n : ℕ) → n ≡ length xs → slice_get (xs ++ x ∷ []) n ≡ Some x
get_last [] x zero at = refl
get_last [] x (suc n) at = absurd (omega arith)
get_last (first ∷ xs) x zero at = absurd (omega arith)
get_last (first ∷ xs) x (suc n) at = get_last xs x n (omega arith)

pub long_last : {X : Type 0} (xs : List X) (x : X) → length (xs ++ x ∷ []) ≡ suc (length xs)
long_last [] x = refl
long_last (first ∷ xs) x = ap suc (long_last xs x)

-- ---- a variable was set

pub after_set : (calls : List Call) (call x : ℕ) (value : ℤ) (made : Call) → slice_get calls call ≡ Some made →
    calls_after calls call x value ≡ slice_set calls call (record made { values = with_value made.values x value })
after_set calls call x value made is = rw is refl

pub long_set : (calls : List Call) (call x : ℕ) (value : ℤ) → call < length calls →
    length (calls_after calls call x value) ≡ length calls
long_set calls call x value within =
    let there = there_within calls call within in
    ap length (after_set calls call x value there.0 there.1)
    ∙ length-set calls call (record there.0 { values = with_value there.0.values x value })

-- the variables of all calls
pub value_set : (calls : List Call) (call x : ℕ) (value : ℤ) → call < length calls → (other y : ℕ) →
    variable (calls_after calls call x value) other y ≡ values_set (variable calls) call x value other y
value_set calls call x value within other y =
    let there = there_within calls call within in
    let now : Call = record there.0 { values = with_value there.0.values x value } in
    let read = λ (o : Option Call). unwrap_or (option_map (λ (made : Call). made.values y) o) (pos 0) in
    let is = ap (λ list. read (slice_get list other)) (after_set calls call x value there.0 there.1) in
    elim (eqb_tells other call) [
      | inl same ↦
          let own : read (slice_get calls other) ≡ there.0.values y =
          ap (λ n. read (slice_get calls n)) same.1 ∙ ap read there.1 in
          is ∙ ap (λ n. read (slice_get (slice_set calls call now) n)) same.1
          ∙ ap read (set_there calls call now there.0 there.1)
          ∙ ap (λ v. if y == x then value else v) (sym own)
          ∙ ap (λ (b : Bool). if b then with_value (variable calls other) x value y else variable calls other y)
          (sym same.0)
      | inr apart ↦
          is ∙ ap read (get_other calls call other now apart.1)
          ∙ ap (λ (b : Bool). if b then with_value (variable calls other) x value y else variable calls other y)
          (sym apart.0)
    ]

-- what is known of calls stays
pub named_set : (c now : Configuration) (naming : CallNaming) (call x : ℕ) (value : ℤ) → call < length c.calls →
    now.calls ≡ calls_after c.calls call x value → (other : ℕ) → IsCallNamed c naming other →
    IsCallNamed now naming other
named_set c now naming call x value within is other named =
    let there = there_within c.calls call within in
    let made : Call = record there.0 { values = with_value there.0.values x value } in
    let calls = is ∙ after_set c.calls call x value there.0 there.1 in
    elim (eqb_tells other call) [
      | inl same ↦
          let own : Some there.0 ≡ Some named.made =
          sym (ap (slice_get c.calls) same.1 ∙ there.1) ∙ named.is in
          let one : there.0 ≡ named.made = cc in
          record {
            made = made;
            is = ap (λ list. slice_get list other) calls ∙ ap (slice_get (slice_set c.calls call made)) same.1
                ∙ set_there c.calls call made there.0 there.1;
            caller = ap (λ (m : Call). m.caller) one ∙ named.caller;
            method = ap (λ (m : Call). m.method) one ∙ named.method;
          }
      | inr apart ↦ record {
        made = named.made;
        is = ap (λ list. slice_get list other) calls ∙ get_other c.calls call other made apart.1 ∙ named.is;
        caller = named.caller;
        method = named.method;
      }
    ]

-- ---- one more call was made

pub value_front : (calls : List Call) (last : Call) (call x : ℕ) → call < length calls →
    variable (calls ++ last ∷ []) call x ≡ variable calls call x
value_front calls last call x within =
    ap (λ (o : Option Call). unwrap_or (option_map (λ (made : Call). made.values x) o) (pos 0))
    (get_front calls (last ∷ []) call within)

pub value_last : (calls : List Call) (last : Call) (x : ℕ) →
    variable (calls ++ last ∷ []) (length calls) x ≡ last.values x
value_last calls last x =
    ap (λ (o : Option Call). unwrap_or (option_map (λ (made : Call). made.values x) o) (pos 0))
    (get_last calls last (length calls) refl)
