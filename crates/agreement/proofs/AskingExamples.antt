-- What is seen where a host of the small code asks the other for an element of its field.
use Rattle.std.proofs.Common.{◌≡◌, ◌≢◌, List, [], ◌∷◌, refl, ap, arith}
use Rattle.std.specs.Prelude.{ℤ, pos}
use Rattle.js_base.specs.declared.ids.HostId.{HostId}
use Rattle.host_code.specs.declared.code_expr.Node.TheVariants as node
use Rattle.host_code.specs.declared.instruction.Op.TheVariants as op
use Rattle.host_code.specs.declared.message.Message.{Message}
use Rattle.host_code.specs.declared.message.Message.TheVariants as message
use Rattle.host_code.specs.Thread.Awaited.{value_of_field}
use Rattle.net_world.specs.Flying.{Flight}
use Rattle.token_laws.specs.TokenExamples.{small, host_id, a_field, first_request, second_token}
use Rattle.agreement.specs.Asking.{AsksElsewhere, carried_index, SeenAsking}
use Rattle.agreement.specs.AskingExamples.{asked_for}
use Rattle.agreement.specs.Views.{LowView}
use Rattle.agreement.specs.Worked.{small_eyes, a_variable, runs_at, came_to, seven}
use Rattle.agreement.proofs.AskingsAgree.{asking_once}
use Rattle.agreement.proofs.WorkedViews.{more_runs}

hosts_apart : host_id 1 ≢ host_id 0
hosts_apart same =
    let number : 1 ≡ 0 = ap (λ (h : HostId). h.0) same in
    absurd (omega (arith, number))

pub asks_other : AsksElsewhere small (host_id 0) second_token (op.Read a_field seven)
asks_other = hosts_apart

pub asks_own : ¬ (AsksElsewhere small (host_id 1) second_token (op.Read a_field seven))
asks_own apart = apart refl

pub own_result : ¬ (AsksElsewhere small (host_id 0) second_token (op.Ret a_variable seven))
own_result asks = asks.0 refl

pub asks_once : SeenAsking small_eyes (came_to 1) (host_id 0) (carried_index (pos 0)) (asked_for (pos 0))
asks_once = record {
  thread = runs_at 1;
  running = refl;
  token = second_token;
  held = refl;
  instruction = record {
    label = 0;
    statement = record { 0 = 0 };
    op = op.Read a_field (node.Number (pos 0) ∷ []);
  };
  is = refl;
  asks = hosts_apart;
  question = record {
    to = host_id 1;
    said = message.Get first_request a_field (pos 0);
    awaited = value_of_field;
    later = runs_at 2;
  };
  asks_so = refl;
  seen = refl;
}

index_in : Message → ℤ
index_in (message.Get request field index) = index
index_in other = pos 0

first_index : List Flight → ℤ
first_index [] = pos 0
first_index (flight ∷ flights) = index_in flight.message

-- it asks for what it carries, and for no other element
pub asks_for_more : ¬ (SeenAsking small_eyes (came_to 1) (host_id 0) (carried_index (pos 0)) (asked_for (pos 7)))
unfolding index_in first_index
asks_for_more seen =
    let same = asking_once small_eyes (came_to 1) (host_id 0) (carried_index (pos 0)) (asked_for (pos 0))
    (asked_for (pos 7)) asks_once seen in
    let never : pos 0 ≡ pos 7 =
    ap (λ (v : LowView). first_index (v.flying (host_id 0) (host_id 1))) same in
    absurd (cc)

-- it waits, and does not run on
pub asks_on : ¬ (SeenAsking small_eyes (came_to 1) (host_id 0) (carried_index (pos 0)) (came_to 2))
asks_on seen =
    more_runs (asked_for (pos 0)) (came_to 2) (runs_at 2) refl refl
    (asking_once small_eyes (came_to 1) (host_id 0) (carried_index (pos 0)) (asked_for (pos 0)) (came_to 2) asks_once
    seen)
