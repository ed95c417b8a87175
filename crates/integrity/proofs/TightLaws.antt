-- The laws of a chain that stands and of its holder, where what happens is none of the holder's.
use Rattle.std.proofs.Common.{◌≡◌, ℕ, ℤ, List, [], ◌∷◌, ◌++◌, refl}
use Rattle.std.specs.List.{AllByRecursion}
use Rattle.host_decl.specs.Hosts as declared_hosts
use Rattle.ics_stack.specs.declared.stack.StackEntry.{StackEntry}
use Rattle.event_text.specs.declared.event.Event.{Event}
use Rattle.event_text.specs.declared.event.Event.TheVariants.{Take, Turn, Act}
use Rattle.net_world.specs.Fits.{ShapeFits, HasOwnToken}
use Rattle.net_world.specs.World.{WorldShape, IsStep, world_at_start}
use Rattle.split_rules.specs.Placed.{PlacedProgram, planned_from}
use Rattle.split_rules.specs.Allowed.{IsAllowed}
use Rattle.split_rules.specs.SplitCode.{split_code}
use Rattle.split_rules.specs.Splittable.{IsSplittable}
use Rattle.split_rules.specs.TypedCode.{Table, IsTypedCode}
use Rattle.token_laws.specs.Reached.{IsReached}
use Rattle.token_laws.proofs.AskedLaws.{known_asked}
use Rattle.token_laws.proofs.EachFlight.{states_after}
use Rattle.token_laws.proofs.HeldLaws as tokens
use Rattle.token_laws.proofs.Walks.{fits_there, one_more, own_there}
use Rattle.token_laws.proofs.WorldTokens.{Accounts, account}
use Rattle.integrity.specs.Exposed.{AreAsBefore, bad_labels}
use Rattle.integrity.specs.Holding.{IsAmong, Holder, IsHoldersEvent, StateIsOutside, IsStanding, IsTight}
use Rattle.integrity.specs.Outside.{Threat, threat_of}
use Rattle.integrity.proofs.Among.{each_among, all_among}
use Rattle.integrity.proofs.HeldTokens.{StandsThere}
use Rattle.integrity.proofs.HolderStays.{stands_after, there_after, top_after, gone_after, chain_stands}
use Rattle.integrity.proofs.OpenSteps.{IsKnown}
use Rattle.integrity.proofs.OpenWorlds.{bad_reached, before_after}
use Rattle.integrity.proofs.OutsideEvents.{Leaves, safe, run_none, fly_none, act_none, turn_leaves, take_leaves}
use Rattle.integrity.proofs.OutsideEvents.{act_leaves}
use Rattle.integrity.proofs.OutsideLaws.{AreLaws, known}
use Rattle.integrity.proofs.StackMoves.{held_back}
use Rattle.integrity.proofs.TightKept.{IsLawful, tokens_known}

-- what is known of a world that events lead to
pub lawful : (threat : Threat) (rows : List declared_hosts.HostShape) (bad : ℕ) (store : List (List ℤ))
    (events : List Event) (world : WorldShape) → threat.exposure.bad ≡ bad_labels bad 0 rows →
    IsReached threat.code rows bad store events world → IsLawful threat world
lawful threat rows bad store events world is reach = record {
  fits = fits_there threat.code rows bad store events world reach;
  held = (tokens.known threat.code rows bad store events world reach).held;
  asked = known_asked threat.code rows bad store events world reach;
  bad = bad_reached threat rows bad store events world is reach;
}

pub event_leaves : (threat : Threat) → IsKnown threat → (chain : List StackEntry) (holder : Holder)
    (world after : WorldShape) (event : Event) → IsLawful threat world → HasOwnToken world event →
    IsStep threat.code world event after → IsTight threat chain holder world → ¬ IsHoldersEvent holder world event →
    Leaves threat chain holder world after
event_leaves threat known chain holder world after (Take from to place) is own step tight apart =
    take_leaves threat known chain holder world after from to place is step tight.there tight.outside apart
    (λ token gives top.
    fly_none threat chain holder world is (safe threat chain holder world tight) from to place step.flight step.there
    apart token gives)
event_leaves threat known chain holder world after (Turn host) is own step tight apart =
    turn_leaves threat known chain holder world after host is step tight.outside apart
    (λ token back top.
    run_none threat chain holder world is (safe threat chain holder world tight) host step.state step.obeys apart token
    (held_back threat.code step.state.me step.state.running token back))
event_leaves threat known chain holder world after (Act from to made) is own step tight apart =
    act_leaves threat known chain holder world after from to made is step tight.there tight.outside apart
    (λ token gives top.
    act_none chain holder world (safe threat chain holder world tight) made step.message own step.makes token gives)

pub tight_after : (threat : Threat) (chain : List StackEntry) (holder : Holder) (world after : WorldShape) →
    IsLawful threat world → ShapeFits threat.code after → Accounts world after → IsTight threat chain holder world →
    Leaves threat chain holder world after → IsTight threat chain holder after
tight_after threat chain holder world after is fits step tight leaves =
    let move = leaves.alone in
    let known = tokens_known threat world is in
    let standing : (e : StackEntry) → IsAmong chain e → IsStanding world e =
    λ e. each_among (IsStanding world) chain e tight.standing in
    let there = there_after chain world after holder move tight.there in
    let has_top =
    top_after chain holder world after (λ e among nobody.
    (gone_after threat.code world after known fits step e (standing e among) nobody).0) tight.has_top in
    let stands : AllByRecursion (StandsThere after) chain =
    all_among (StandsThere after) chain (λ e among.
    stands_after chain world after holder move e among (standing e among).there) in
    record {
      linked = tight.linked;
      standing = chain_stands threat.code world after known fits step holder chain tight.linked tight.standing stands
          tight.has_top there has_top;
      there = there;
      has_top = has_top;
      outside = record {
        states = states_after (StateIsOutside threat chain holder) world after move.me move.old move.new move.obeys
            move.puts tight.outside.states leaves.state;
        flying = leaves.flying;
      };
    }

-- the chain stands, and nothing has changed that may not be affected
abbrev pub StaysTight : Threat → List StackEntry → Holder → WorldShape → WorldShape → Type 0
StaysTight threat chain holder world after =
    IsTight threat chain holder after × AreAsBefore threat.exposure world after

pub kept : AreLaws → (placed : PlacedProgram) (table : Table) (bad : ℕ) (store : List (List ℤ)) (events : List Event)
    (world after : WorldShape) (event : Event)
    (chain : List StackEntry) (holder : Holder) → IsSplittable placed →
    IsAllowed placed →
    IsTypedCode (planned_from placed) (split_code placed) table →
    IsReached (split_code placed) placed.hosts.hosts bad store events world →
    HasOwnToken (world_at_start (split_code placed) placed.hosts.hosts bad store) event →
    IsStep (split_code placed) world event after →
    IsTight (threat_of placed table bad) chain holder world → ¬ IsHoldersEvent holder world event →
    StaysTight (threat_of placed table bad) chain holder world after
kept laws placed table bad store events world after event chain holder splittable allowed typed reach
    own step tight apart =
    let threat = threat_of placed table bad in
    let code = threat.code in
    let is = lawful threat placed.hosts.hosts bad store events world refl reach in
    let own_here = own_there code placed.hosts.hosts bad store events world event reach own in
    let next = one_more code placed.hosts.hosts bad store events world after event reach own step in
    let leaves =
    event_leaves threat
    (known laws placed table bad splittable allowed typed reach.sound) chain holder
    world after event is own_here step tight apart in
    let move = leaves.alone in (
      tight_after threat chain holder world after is
          (fits_there code placed.hosts.hosts bad store (events ++ event ∷ []) after next)
          (account code world after event reach.sound is.fits own_here step) tight leaves,
      before_after threat.exposure world after move.me move.old move.new move.obeys move.puts leaves.stays,
    )
