-- Why a constraint does not hold: what is listed of what fails, each with what brings it in.
use Rattle.std.specs.Prelude.{ℕ, ◌≡◌, ◌==◌, ◌&&◌, Bool, false, not, List, [], ◌∷◌}
use Rattle.std.specs.Prelude.{Any, Option, Some, None}
use Rattle.std.specs.List.{filter, filter_map, list_any}
use Rattle.std.specs.Option.{option_map}
use Rattle.js_base.specs.declared.ids.PrincipalId.{PrincipalId}
use Rattle.js_base.specs.declared.ids.StmtId.{StmtId}
use Rattle.principals.specs.ActsFor.{Declared, ActsFor, AreDeclared}
use Rattle.label_lattice.specs.declared.label.Label.{Label}
use Rattle.label_lattice.specs.Label.{Trusts, PolicyForbids}
use Rattle.label_lattice.specs.Over.{IsLabelOver}
use Rattle.jif_tree.specs.LabelRules.{Constraint, may_release, trusted, may_endorse, may_begin, may_flow}
use Rattle.label_reasons.specs.declared.reason.Trait.{Trait}
use Rattle.label_reasons.specs.declared.reason.Trait.TheVariants.{Keeps, Distrusts}
use Rattle.label_reasons.specs.declared.reason.Cause.{Cause}
use Rattle.label_reasons.specs.declared.demand.Demand.{Demand}
use Rattle.label_reasons.specs.declared.demand.Demand.TheVariants.{Release, Trust, Endorse, Begin, Flow}
use Rattle.label_reasons.specs.declared.reason.Reason.{Reason}
use Rattle.label_reasons.specs.declared.reason.Wanted.{Wanted}
use Rattle.jif_tree.specs.Trees.{ProgramTree}
use Rattle.label_reasons.specs.Traits.{has, TraitIsLacking, IsDeclaredTrait}
use Rattle.label_reasons.specs.Causes.{TellsCause}
use Rattle.label_reasons.specs.Listed.{acts_for, listed}
use Rattle.label_reasons.specs.Asks.{Ask, program_asks}

-- ---- what fails of a constraint

-- the first label has it, and the second has not
abbrev pub fails : Trait → Label → Label → Bool
fails trait from to = has trait from && not (has trait to)

-- a member may release to the reader what the owner keeps
abbrev pub may_tell : Declared → ℕ → ℕ → PrincipalId → Bool
may_tell principals owner reader member =
    acts_for principals member.0 owner && not (acts_for principals reader member.0)

abbrev pub release_fails : Declared → List PrincipalId → Label → Label → Trait → Bool
release_fails principals authority from to (Keeps owner reader) =
    fails (Keeps owner reader) from to && not (list_any (may_tell principals owner reader) authority)
release_fails principals authority from to (Distrusts principal) = false

-- a member does not trust the program label
abbrev pub trust_fails : List PrincipalId → Label → Trait → Bool
trust_fails authority pc (Keeps owner reader) = false
trust_fails authority pc (Distrusts principal) =
    list_any (λ member. member.0 == principal) authority && has (Distrusts principal) pc

abbrev pub endorse_fails : Declared → List PrincipalId → Label → Label → Trait → Bool
endorse_fails principals authority from to (Keeps owner reader) = false
endorse_fails principals authority from to (Distrusts principal) =
    fails (Distrusts principal) from to
    && not (list_any (λ member. acts_for principals member.0 principal) authority)

-- whether it fails where this is asked for
abbrev pub fails_in : Declared → Constraint → Trait → Bool
fails_in principals (may_release authority from to) trait = release_fails principals authority from to trait
fails_in principals (trusted authority pc) trait = trust_fails authority pc trait
fails_in principals (may_endorse authority from to) trait = endorse_fails principals authority from to trait
fails_in principals (may_begin pc begin) trait = fails trait pc begin
fails_in principals (may_flow from to) trait = fails trait from to

-- what is demanded, by this authority
abbrev pub constraint_of : List PrincipalId → Demand → Constraint
constraint_of authority (Release from to) = may_release authority from to
constraint_of authority (Trust pc) = trusted authority pc
constraint_of authority (Endorse from to) = may_endorse authority from to
constraint_of authority (Begin pc begin) = may_begin pc begin
constraint_of authority (Flow from to) = may_flow from to

-- the label that is asked about
abbrev pub asked_label : Constraint → Label
asked_label (may_release authority from to) = from
asked_label (trusted authority pc) = pc
asked_label (may_endorse authority from to) = from
asked_label (may_begin pc begin) = pc
asked_label (may_flow from to) = from

-- ---- reasons

-- what is listed of what fails where this is asked for
abbrev pub listed_in : Declared → Ask → List Trait
listed_in principals ask = listed principals (fails_in principals ask.constraint)

abbrev pub reason_of : (Trait → Option Cause) → Trait → Option Reason
reason_of cause trait = option_map (λ found. record { held = trait; cause = found }) (cause trait)

-- why what is asked for fails: none where it holds
abbrev pub label_reasons : Declared → Ask → List Reason
label_reasons principals ask = filter_map (reason_of ask.cause) (listed_in principals ask)

-- ---- what reasons say

-- What is held fails: the first label has it and the second has not, or authority is missing.
abbrev pub ReleaseFails : Declared → List PrincipalId → Label → Label → Trait → Type 0
ReleaseFails principals authority from to (Keeps owner reader) =
    TraitIsLacking (Keeps owner reader) from to
    × ¬ Any (λ member. PolicyForbids principals member [] owner reader) authority
ReleaseFails principals authority from to (Distrusts principal) = ⊥

abbrev pub TrustFails : List PrincipalId → Label → Trait → Type 0
TrustFails authority pc (Keeps owner reader) = ⊥
TrustFails authority pc (Distrusts principal) = Any (λ member. member.0 ≡ principal) authority × ¬ Trusts pc principal

abbrev pub EndorseFails : Declared → List PrincipalId → Label → Label → Trait → Type 0
EndorseFails principals authority from to (Keeps owner reader) = ⊥
EndorseFails principals authority from to (Distrusts principal) =
    TraitIsLacking (Distrusts principal) from to × ¬ Any (λ member. ActsFor principals member.0 principal) authority

abbrev pub FailsIn : Declared → Constraint → Trait → Type 0
FailsIn principals (may_release authority from to) trait = ReleaseFails principals authority from to trait
FailsIn principals (trusted authority pc) trait = TrustFails authority pc trait
FailsIn principals (may_endorse authority from to) trait = EndorseFails principals authority from to trait
FailsIn principals (may_begin pc begin) trait = TraitIsLacking trait pc begin
FailsIn principals (may_flow from to) trait = TraitIsLacking trait from to

-- A reason for what is asked: a trait of declared principals fails in it, and the cause is what brings that in.
pub record IsLabelReason (principals : Declared) (ask : Ask) (reason : Reason) : Type 0 where
  pub within : IsDeclaredTrait principals reason.held
  pub fails : FailsIn principals ask.constraint reason.held
  pub cause : ask.cause reason.held ≡ Some reason.cause

-- ---- what is asked of labels over the declared principals

-- there is a cause exactly where the label that is asked about has the trait
abbrev pub IsTold : Declared → Ask → Type 0
IsTold principals ask = (trait : Trait) → IsDeclaredTrait principals trait →
    TellsCause trait (ask.cause trait) (asked_label ask.constraint)

-- its labels are over the declared principals, and so is its authority
abbrev pub IsConstraintOver : Declared → Constraint → Type 0
IsConstraintOver principals (may_release authority from to) = AreDeclared principals authority
    × IsLabelOver principals from
IsConstraintOver principals (trusted authority pc) = AreDeclared principals authority
IsConstraintOver principals (may_endorse authority from to) = AreDeclared principals authority
    × IsLabelOver principals to
IsConstraintOver principals (may_begin pc begin) = IsLabelOver principals pc × IsLabelOver principals begin
IsConstraintOver principals (may_flow from to) = IsLabelOver principals from × IsLabelOver principals to

-- ---- the refused statement

-- the first of which something is listed
abbrev pub refused_or : Ask → List Trait → Option Ask → Option Ask
refused_or ask [] later = later
refused_or ask (trait ∷ traits) later = Some ask

abbrev pub first_refused : Declared → List Ask → Option Ask
first_refused principals [] = None
first_refused principals (ask ∷ asks) = refused_or ask (listed_in principals ask) (first_refused principals asks)

-- what a statement asks for
abbrev pub asked_by : StmtId → List Ask → List Ask
asked_by statement asks = filter (λ ask. ask.statement.0 == statement.0) asks

-- what is told: the statement, what it wants, and why it may not
abbrev pub Explained : Type 0
Explained = Option (StmtId × Wanted × List Reason)

abbrev pub explained : Declared → ProgramTree → Explained
explained principals program =
    option_map (λ ask. (ask.statement, ask.wanted, label_reasons principals ask))
    (first_refused principals (program_asks principals program))
