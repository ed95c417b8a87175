-- Lists with a stack for each host.
use Rattle.std.proofs.Common.{◌≡◌, ◌≢◌, ◌∙◌, ℕ, zero, suc, ◌+◌, ◌<◌, List, [], ◌∷◌, ◌++◌, length, map, Option, Some}
use Rattle.std.proofs.Common.{ap, sym, subst}
use Rattle.std.proofs.Common.{refl, arith, inl, inr}
use Rattle.std.proofs.Common.{get_or}
use Rattle.std.specs.Prelude.{slice_get, slice_set, unwrap_or}
use Rattle.std.proofs.lemmas.Bool.{cases_lt}
use Rattle.std.proofs.lemmas.List.{map-set}
use Rattle.js_base.specs.declared.ids.HostId.{HostId}
use Rattle.js_base.specs.declared.ids.EntryId.{EntryId}
use Rattle.net_world.proofs.Present.{get_other}
use Rattle.run_rows.specs.Stacks.{stack_at}

before_last : {X : Type 0} (xs : List X) (y : X) (i : ℕ) → i < length xs →
    slice_get (xs ++ y ∷ []) i ≡ slice_get xs i
before_last [] y i lt = absurd (omega arith)
before_last (x ∷ xs) y zero lt = refl
before_last (x ∷ xs) y (suc i) lt = before_last xs y i (omega arith)

pub at_last : {X : Type 0} (xs : List X) (y : X) (i : ℕ) → i ≡ length xs → slice_get (xs ++ y ∷ []) i ≡ Some y
at_last [] y zero is = refl
at_last [] y (suc i) is = absurd (omega (arith, is))
at_last (x ∷ xs) y zero is = absurd (omega (arith, is))
at_last (x ∷ xs) y (suc i) is = at_last xs y i (omega (arith, is))

-- one stack more
pub stack_more : (stacks : List (List EntryId)) (one : List EntryId) (n : ℕ) (first : HostId → List EntryId) →
    length stacks ≡ n → ((host : HostId) → host.0 < n → stack_at stacks host ≡ first host) →
    ((host : HostId) → host.0 ≡ n → one ≡ first host) →
    (host : HostId) → host.0 < n + 1 → stack_at (stacks ++ one ∷ []) host ≡ first host
stack_more stacks one n first long before last host within = elim (cases_lt host.0 n) [
  | inl lt ↦ ap (λ (o : Option (List EntryId)). unwrap_or o []) (before_last stacks one host.0 (omega arith))
      ∙ before host lt
  | inr not ↦ ap (λ (o : Option (List EntryId)). unwrap_or o []) (at_last stacks one host.0 (omega arith))
      ∙ last host (omega arith)
]

-- the stack that was put at a place, and those at others
pub stack_put : (stacks : List (List EntryId)) (host : HostId) (one : List EntryId) → host.0 < length stacks →
    stack_at (slice_set stacks host.0 one) host ≡ one
stack_put stacks host one within = put stacks host.0 within
  where
    put : (xs : List (List EntryId)) (i : ℕ) → i < length xs → unwrap_or (slice_get (slice_set xs i one) i) [] ≡ one
    put [] i lt = absurd (omega arith)
    put (x ∷ xs) zero lt = refl
    put (x ∷ xs) (suc i) lt = put xs i (omega arith)

pub stack_beside : (stacks : List (List EntryId)) (host other : HostId) (one : List EntryId) → other.0 ≢ host.0 →
    stack_at (slice_set stacks host.0 one) other ≡ stack_at stacks other
stack_beside stacks host other one apart =
    ap (λ (o : Option (List EntryId)). unwrap_or o []) (get_other stacks host.0 other.0 one apart)

-- ---- stacks as a vector has them

stack_of : {X : Type 0} (make : X → List EntryId) (items : List X) (host : HostId) (d : X) →
    host.0 < length items → stack_at (map make items) host ≡ make (get_or items host.0 d)
stack_of {X} make items host d within = of items host.0 within
  where
    of : (xs : List X) (i : ℕ) → i < length xs → unwrap_or (slice_get (map make xs) i) [] ≡ make (get_or xs i d)
    of [] i lt = absurd (omega arith)
    of (x ∷ xs) zero lt = refl
    of (x ∷ xs) (suc i) lt = of xs i (omega arith)

-- one of them is replaced
pub replaced : {X : Type 0} (make : X → List EntryId) (items : List X) (host : HostId) (one : X)
    (stacks : List (List EntryId)) → stacks ≡ map make items → host.0 < length stacks →
    stack_at (map make (slice_set items host.0 one)) host ≡ make one
replaced {X} make items host one stacks is within =
    let long : host.0 < length (map make items) =
    subst (λ (all : List (List EntryId)). host.0 < length all) is within in
    ap (λ (all : List (List EntryId)). stack_at all host) (map-set make items host.0 one)
    ∙ stack_put (map make items) host (make one) long

pub all_replaced : {X : Type 0} (make : X → List EntryId) (items : List X) (host : HostId) (one : X)
    (stacks : List (List EntryId)) → stacks ≡ map make items → host.0 < length stacks →
    map make (slice_set items host.0 one)
    ≡ slice_set stacks host.0 (stack_at (map make (slice_set items host.0 one)) host)
all_replaced {X} make items host one stacks is within =
    map-set make items host.0 one
    ∙ ap (λ (all : List (List EntryId)). slice_set all host.0 (make one)) (sym is)
    ∙ ap (λ (stack : List EntryId). slice_set stacks host.0 stack) (sym (replaced make items host one stacks is within))

length_made : {X : Type 0} (make : X → List EntryId) (items : List X) → length (map make items) ≡ length items
length_made make [] = refl
length_made make (x ∷ items) = ap suc (length_made make items)

pub stack_there : {X : Type 0} (make : X → List EntryId) (items : List X) (host : HostId) (d : X)
    (stacks : List (List EntryId)) → stacks ≡ map make items → host.0 < length stacks →
    stack_at stacks host ≡ make (get_or items host.0 d)
stack_there {X} make items host d stacks is within =
    let long : length stacks ≡ length items = ap length is ∙ length_made make items in
    ap (λ (all : List (List EntryId)). stack_at all host) is ∙ stack_of make items host d (omega arith)
