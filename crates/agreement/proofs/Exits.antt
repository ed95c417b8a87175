-- Where it goes on in the open, behind loops whose guards may not be seen.
use Rattle.std.proofs.Common.{◌≡◌, ◌∙◌, ℕ, zero, suc, ◌+◌, ◌<◌, ◌≤◌, Bool, true, false, length, arith}
use Rattle.std.proofs.Common.{Option, Some, None, inl, inr, refl, ap, sym, subst}
use Rattle.std.specs.Prelude.{nat_lt, if◌then◌else◌, IfSome}
use Rattle.std.specs.Option.{option_map}
use Rattle.std.proofs.lemmas.Bool.Decides.{nat_tests}
use Rattle.std.proofs.lemmas.Option.{slice_get_cases, slice_get_within}
use Rattle.js_base.specs.declared.ids.HostId.{HostId}
use Rattle.host_code.specs.declared.instruction.Instr.{Instr}
use Rattle.host_code.specs.Code.{part_of, instruction_at}
use Rattle.seen_world.specs.Eyes.{Eyes, AreEyes, is_open}
use Rattle.agreement.specs.Views.{guard_passed, passed_to, followed, exit_within, exit_of}

inside_of : (place count : ℕ) → nat_lt place count ≡ true → place < count
inside_of place count is = grind (arith, nat_tests)

outside_of : (place count : ℕ) → count ≤ place → nat_lt place count ≡ false
outside_of place count past = grind (arith, nat_tests)

pub within_of : (place count : ℕ) → place < count → nat_lt place count ≡ true
within_of place count lt = grind (arith, nat_tests)

-- ---- one place

passed_out : (eyes : Eyes) (host : HostId) (place : ℕ) → length (part_of eyes.code host) ≤ place →
    passed_to eyes host place ≡ None
passed_out eyes host place past = rw (outside_of place (length (part_of eyes.code host)) past) refl

either_same : (b : Bool) (to : Option ℕ) → (if b then to else to) ≡ to
either_same true to = refl
either_same false to = refl

passed_open : (eyes : Eyes) (host : HostId) (place : ℕ) → is_open eyes host place ≡ true →
    passed_to eyes host place ≡ None
passed_open eyes host place seen = rw seen (either_same (nat_lt place (length (part_of eyes.code host))) None)

passed_guard : (eyes : Eyes) (host : HostId) (place loop : ℕ) → place < length (part_of eyes.code host) →
    is_open eyes host place ≡ false → (eyes.shades.at host place).guard ≡ Some loop →
    passed_to eyes host place ≡ Some (eyes.shades.exits host loop)
passed_guard eyes host place loop within hidden is =
    rw (within_of place (length (part_of eyes.code host)) within, hidden, is) refl

-- where a place is passed it is one of the code, and the next one is behind it
some_next : (b seen : Bool) (exit next : ℕ) → (if b then guard_passed seen (Some exit) else None) ≡ Some next →
    exit ≡ next
some_next true true exit next same = absurd (cc)
some_next true false exit next same = cc
some_next false seen exit next same = absurd (cc)

no_next : (b seen : Bool) (next : ℕ) → (if b then guard_passed seen None else None) ≡ Some next → ⊥
no_next true true next same = absurd (cc)
no_next true false next same = absurd (cc)
no_next false seen next same = absurd (cc)

abbrev PassesTo : Eyes → HostId → ℕ → ℕ → Option ℕ → Type 0
PassesTo eyes host place next guard =
    (if nat_lt place (length (part_of eyes.code host))
    then guard_passed (is_open eyes host place) (option_map (eyes.shades.exits host) guard)
    else None) ≡ Some next

passed_by : (eyes : Eyes) (host : HostId) (place next : ℕ) (guard : Option ℕ) →
    IfSome guard (λ own. place < eyes.shades.exits host own) → PassesTo eyes host place next guard → place < next
passed_by eyes host place next None exits is =
    absurd (no_next (nat_lt place (length (part_of eyes.code host))) (is_open eyes host place) next is)
passed_by eyes host place next (Some loop) exits is =
    let at : eyes.shades.exits host loop ≡ next =
    some_next (nat_lt place (length (part_of eyes.code host))) (is_open eyes host place)
    (eyes.shades.exits host loop) next is in
    omega arith

passed_on : (eyes : Eyes) → AreEyes eyes → (host : HostId) (place next : ℕ) → passed_to eyes host place ≡ Some next →
    place < next
passed_on eyes are host place next is = elim (slice_get_cases (part_of eyes.code host) place).1 [
  | inl there ↦ passed_by eyes host place next (eyes.shades.at host place).guard
      (are.shaded.instructions host place there.0 there.2).exits is
  | inr past ↦
      let never : None ≡ Some next = sym (passed_out eyes host place past.0) ∙ is in
      absurd (cc)
]

-- ---- all that are passed

followed_same : (one other : ℕ → ℕ) (place : ℕ) (to : Option ℕ) →
    ((next : ℕ) → to ≡ Some next → one next ≡ other next) → followed one place to ≡ followed other place to
followed_same one other place None each = refl
followed_same one other place (Some next) each = each next refl

-- no more are passed than the code has behind the place
exit_more : (more : ℕ) (eyes : Eyes) (host : HostId) (place : ℕ) → AreEyes eyes →
    length (part_of eyes.code host) ≤ place + more →
    exit_within more eyes host place ≡ exit_within (suc more) eyes host place
exit_more zero eyes host place are past =
    ap (followed (λ next. exit_within zero eyes host next) place)
    (sym (passed_out eyes host place (omega arith)))
exit_more (suc more) eyes host place are past =
    followed_same (λ next. exit_within more eyes host next) (λ next. exit_within (suc more) eyes host next) place
    (passed_to eyes host place) (λ next is.
    let less = passed_on eyes are host place next is in
    exit_more more eyes host next are (omega arith))

open_within : (more : ℕ) (eyes : Eyes) (host : HostId) (place : ℕ) → is_open eyes host place ≡ true →
    exit_within more eyes host place ≡ place
open_within zero eyes host place seen = refl
open_within (suc more) eyes host place seen =
    ap (followed (λ next. exit_within more eyes host next) place) (passed_open eyes host place seen)

-- a place that may be seen is its own exit
pub exit_open : (eyes : Eyes) (host : HostId) (place : ℕ) → is_open eyes host place ≡ true →
    exit_of eyes host place ≡ place
exit_open eyes host place seen = open_within (length (part_of eyes.code host)) eyes host place seen

guard_within : (count : ℕ) (eyes : Eyes) (host : HostId) (place loop : ℕ) → AreEyes eyes →
    count ≡ length (part_of eyes.code host) → place < length (part_of eyes.code host) →
    is_open eyes host place ≡ false → (eyes.shades.at host place).guard ≡ Some loop → place < eyes.shades.exits host
    loop →
    exit_within count eyes host place ≡ exit_within count eyes host (eyes.shades.exits host loop)
guard_within zero eyes host place loop are all within hidden is less = absurd (omega arith)
guard_within (suc more) eyes host place loop are all within hidden is less =
    ap (followed (λ next. exit_within more eyes host next) place) (passed_guard eyes host place loop within hidden is)
    ∙ exit_more more eyes host (eyes.shades.exits host loop) are (omega arith)

-- in a guard that may not be seen it goes on as behind its loop
pub exit_guard : (eyes : Eyes) (host : HostId) (place loop : ℕ) (there : Instr) → AreEyes eyes →
    instruction_at eyes.code host place ≡ Some there → is_open eyes host place ≡ false →
    (eyes.shades.at host place).guard ≡ Some loop →
    exit_of eyes host place ≡ exit_of eyes host (eyes.shades.exits host loop)
exit_guard eyes host place loop there are at hidden is =
    let less : place < eyes.shades.exits host loop =
    subst (λ guard. IfSome guard (λ own. place < eyes.shades.exits host own)) is
    (are.shaded.instructions host place there at).exits in
    guard_within (length (part_of eyes.code host)) eyes host place loop are refl
    (slice_get_within (part_of eyes.code host) place there at) hidden is less
