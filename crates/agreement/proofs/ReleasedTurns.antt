-- What a turn releases by a table, which has the rows of the shades.
use Rattle.std.proofs.Common.{◌≡◌, ◌∙◌, Some, ap, sym}
use Rattle.std.specs.Prelude.{ℤ, List, map}
use Rattle.js_base.specs.declared.ids.HostId.{HostId}
use Rattle.host_code.specs.declared.code_expr.Node.{Node}
use Rattle.host_code.specs.declared.instruction.Instr.{Instr}
use Rattle.host_code.specs.Code.{instruction_at}
use Rattle.host_code.specs.Thread.{ThreadShape}
use Rattle.host_core.specs.Host.{HostState, value_in_thread}
use Rattle.net_world.specs.Released.{released_by_thread, released_by_host, released_at}
use Rattle.net_world.specs.World.{WorldShape, state_at}
use Rattle.split_rules.specs.Releases.{ReleasesShape, operands_at}
use Rattle.split_shades.specs.ShadedCode.{IsTabled}
use Rattle.seen_world.specs.Eyes.{Eyes}

-- the turn of a host that runs a thread
pub released_is : (table : ReleasesShape) (world : WorldShape) (host : HostId) (state : HostState)
    (thread : ThreadShape) → state_at world host ≡ Some state → state.running ≡ Some thread →
    released_at table world host ≡ map (value_in_thread state thread) (operands_at table host thread.at)
released_is table world host state thread there is =
    ap (released_by_host table host) there ∙ ap (released_by_thread table host state) is

-- Turns that release the same by the table give the operands of the shade the same values.
pub turns_release : (eyes : Eyes) (table : ReleasesShape) (one other : WorldShape) (host : HostId)
    (state mirror : HostState) (thread twin : ThreadShape) (there : Instr) → IsTabled eyes.code eyes.shades table →
    state_at one host ≡ Some state → state_at other host ≡ Some mirror → state.running ≡ Some thread →
    mirror.running ≡ Some twin → instruction_at eyes.code host thread.at ≡ Some there → twin.at ≡ thread.at →
    released_at table one host ≡ released_at table other host →
    map (value_in_thread state thread) (eyes.shades.at host thread.at).released
    ≡ map (value_in_thread mirror twin) (eyes.shades.at host thread.at).released
turns_release eyes table one other host state mirror thread twin there tabled stands stands_other is is_other
    instruction place same =
    let row = tabled host thread.at there instruction in
    let first : List (List Node) → List ℤ = map (value_in_thread state thread) in
    let second : List (List Node) → List ℤ = map (value_in_thread mirror twin) in
    ap first row ∙ sym (released_is table one host state thread stands is) ∙ same
    ∙ released_is table other host mirror twin stands_other is_other
    ∙ ap (λ n. second (operands_at table host n)) place ∙ sym (ap second row)
