-- What is owed in small cases, and what is seen then.
use Rattle.std.proofs.Common.{◌≡◌, ◌≢◌, ℕ, List, [], ◌∷◌, length, None, inl, inr, refl, ap, sym, ◌∙◌, arith}
use Rattle.std.specs.Prelude.{pos}
use Rattle.js_base.specs.declared.ids.HostId.{HostId}
use Rattle.capability.specs.declared.token.Token.{Token}
use Rattle.host_code.specs.declared.instruction.Op.TheVariants as op
use Rattle.host_code.specs.Thread.{ThreadShape}
use Rattle.host_core.specs.Start.{main_frame}
use Rattle.token_laws.specs.TokenExamples.{small, host_id, entry_id, first_token, second_token}
use Rattle.agreement.specs.Turns.{ChangesAlone, carried_value, SeenOperation}
use Rattle.agreement.specs.Views.{LowView, gives, Completed}
use Rattle.agreement.specs.Worked.{small_eyes, one_entry, popped_at, a_variable, idle, runs_at, set_at, came_to, seven}

-- a thread more or less is not the same view
pub more_runs : (one other : LowView) (thread : ThreadShape) → (one.hosts (host_id 0)).running ≡ [] →
    (other.hosts (host_id 0)).running ≡ thread ∷ [] → one ≢ other
more_runs one other thread none some same =
    let never : [] ≡ thread ∷ [] = sym none ∙ ap (λ (v : LowView). (v.hosts (host_id 0)).running) same ∙ some in
    absurd (cc)

pub tokens_apart : first_token ≢ second_token
tokens_apart same =
    let number : 0 ≡ 2 = ap (λ (t : Token). t.entry.0) same in
    absurd (omega (arith, number))

pub pops : Completed small_eyes (gives first_token) one_entry (popped_at 3)
pops = inl (refl, refl)

pub pops_more : ¬ (Completed small_eyes (gives first_token) one_entry one_entry)
pops_more (inl same) = more_runs one_entry (popped_at 3) _ refl refl same.1
pops_more (inr apart) = apart.0 refl

abbrev first_place : List ThreadShape → ℕ
first_place [] = 0
first_place (thread ∷ threads) = thread.at

-- it goes on behind the loop, and not at its guard
pub pops_behind : ¬ (Completed small_eyes (gives first_token) one_entry (popped_at 0))
pops_behind (inl same) =
    let places = ap (λ (v : LowView). (v.hosts (host_id 0)).running) same.1 in
    let number : 0 ≡ 3 = ap first_place places in
    absurd (omega (arith, number))
pops_behind (inr apart) = apart.0 refl

pub other_stays : Completed small_eyes (gives second_token) one_entry one_entry
other_stays = inr (tokens_apart, refl)

-- ---- turns

-- a turn that sets a variable carries its value
pub sets : SeenOperation small_eyes idle (host_id 0) (runs_at 3) second_token (op.Let a_variable seven)
    (carried_value (pos 7)) (set_at 4 (pos 7))
sets = refl

pub sets_more : ¬ (SeenOperation small_eyes idle (host_id 0) (runs_at 3) second_token (op.Let a_variable seven)
    (carried_value (pos 7)) (set_at 4 (pos 8)))
sets_more same =
    let values : pos 8 ≡ pos 7 =
    ap (λ (v : LowView). (v.hosts (host_id 0)).variables main_frame a_variable) same in
    absurd (cc)

-- a branch leads to its target where its guard is 0
pub branches : SeenOperation small_eyes idle (host_id 0) (runs_at 3) second_token (op.Branch seven 6)
    (carried_value (pos 0)) (came_to 6)
branches = refl

pub branches_more : ¬ (SeenOperation small_eyes idle (host_id 0) (runs_at 3) second_token (op.Branch seven 6)
    (carried_value (pos 1)) (came_to 6))
branches_more same =
    let number : 6 ≡ 4 = ap first_place (ap (λ (v : LowView). (v.hosts (host_id 0)).running) same) in
    absurd (omega (arith, number))

-- an entry that is pushed is seen
pub pushes_more : ¬ (SeenOperation small_eyes idle (host_id 0) (runs_at 3) second_token (op.Push (entry_id 1))
    (carried_value (pos 0)) (came_to 4))
pushes_more same =
    let never = ap (λ (v : LowView). length (v.hosts (host_id 0)).entries) same in
    absurd (omega (arith, never))

-- a call of another host changes more than its host
pub other_call : ¬ (ChangesAlone small (host_id 0) None (op.Call (entry_id 1) (host_id 1)))
other_call same =
    let number : 1 ≡ 0 = ap (λ (h : HostId). h.0) same in
    absurd (omega (arith, number))
