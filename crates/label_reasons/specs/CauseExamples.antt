-- A program of Alice and Bob, to see what brings a trait into its labels.
use Rattle.std.specs.Prelude.{ℕ, pos, true, false, [], ◌∷◌, Option, Some, None, codes}
use Rattle.js_base.specs.declared.binary_operator.BinOp.TheVariants.{Add}
use Rattle.js_base.specs.declared.ids.FieldId.{FieldId}
use Rattle.js_base.specs.declared.ids.VarId.{VarId}
use Rattle.js_base.specs.declared.ids.MethodId.{MethodId}
use Rattle.js_base.specs.declared.ids.StmtId.{StmtId}
use Rattle.label_lattice.specs.Lattice.{empty_label}
use Rattle.label_lattice.specs.PrintedExamples.{alice_and_bob, keeps_bob_out}
use Rattle.jif_tree.specs.Trees.{ExprTree, number, local, scalar, element, binary, declassified, endorsed, BlockTree}
use Rattle.jif_tree.specs.Trees.{Heading, done, set_local, branch}
use Rattle.jif_tree.specs.LabelRules.{MethodSetting, VariableLabels}
use Rattle.label_reasons.specs.declared.reason.Trait.{Trait}
use Rattle.label_reasons.specs.declared.reason.Trait.TheVariants.{Keeps, Distrusts}
use Rattle.label_reasons.specs.declared.reason.Source.{Source}
use Rattle.label_reasons.specs.declared.reason.Source.TheVariants.{OfField}
use Rattle.label_reasons.specs.declared.reason.Via.{Via}
use Rattle.label_reasons.specs.declared.reason.Via.TheVariants.{ByGuard}
use Rattle.label_reasons.specs.declared.reason.Cause.{Cause}
use Rattle.label_reasons.specs.Causes.{expr_cause, guarded_cause, causes_after, declared_causes}

-- Alice is principal 0, and Bob principal 1
abbrev pub from_bob : Trait
from_bob = Keeps 0 1

abbrev pub not_by_alice : Trait
not_by_alice = Distrusts 0

abbrev pub not_by_bob : Trait
not_by_bob = Distrusts 1

-- ---- fields, variables and statements

-- Alice keeps the field `a` and the array `t` from Bob, and alone trusts them. The label of `q` is `{}`.
abbrev pub a : FieldId
a = record { 0 = 0 }

abbrev pub t : FieldId
t = record { 0 = 1 }

abbrev pub q : FieldId
q = record { 0 = 2 }

-- the local `x` is declared without a label, and `y` with that of `a`
abbrev pub x : VarId
x = record { 0 = 0 }

abbrev pub y : VarId
y = record { 0 = 1 }

abbrev pub labels : VariableLabels
labels = None ∷ Some keeps_bob_out ∷ []

abbrev pub main : MethodId
main = record { 0 = 0 }

abbrev pub statement : ℕ → StmtId
statement place = record { 0 = place }

abbrev at : ℕ → Heading
at place = record { id = statement place; line = 1 }

abbrev setting : MethodSetting
setting = record {
  principals = alice_and_bob;
  program = record {
    fields = record { name = codes "a"; label = keeps_bob_out; size = 1; array = false; first = pos 0 }
        ∷ record { name = codes "t"; label = keeps_bob_out; size = 2; array = true; first = pos 0 }
        ∷ record { name = codes "q"; label = empty_label; size = 1; array = false; first = pos 0 } ∷ [];
    vars = [];
    methods = [];
    main = main;
  };
  authority = [];
  result = None;
}

-- ---- causes

abbrev pub caused : Source → Via → Option Cause
caused source via = Some (record { source = source; via = via })

-- of a program label inside a guard, statement 0, that tells what `t` has
abbrev pub told_before : Option Cause
told_before = caused (OfField t) (ByGuard (statement 0))

-- of an expression of statement 1, by the cause of the program label
abbrev pub cause_under : Option Cause → Trait → ExprTree → Option Cause
cause_under of_pc trait value = expr_cause trait setting (statement 1) of_pc (declared_causes trait labels) value

abbrev pub cause_of : Trait → ExprTree → Option Cause
cause_of trait value = cause_under None trait value

-- of the program label inside a branch, statement 1, with this guard
abbrev pub cause_inside : Option Cause → Trait → ExprTree → Option Cause
cause_inside of_pc trait guard = guarded_cause trait setting (statement 1) of_pc (declared_causes trait labels) guard

-- of a variable behind a block
abbrev pub cause_behind : Trait → BlockTree → VarId → Option Cause
cause_behind trait block x = causes_after trait setting empty_label None labels (declared_causes trait labels) block x

-- ---- expressions and blocks

abbrev pub sum : ExprTree → ExprTree → ExprTree
sum left right = binary Add left right

-- `t[a]`
abbrev pub chosen : ExprTree
chosen = element t (scalar a)

-- `declassify(a, {})`
abbrev pub released : ExprTree
released = declassified (scalar a) empty_label

-- `declassify(q, L)`, where L is the label of `a`
abbrev pub released_again : ExprTree
released_again = declassified (scalar q) keeps_bob_out

-- `endorse(a, L)`, where L is the label of `a`
abbrev pub endorsed_again : ExprTree
endorsed_again = endorsed (scalar a) keeps_bob_out

-- `int x = a;`
abbrev pub copied : BlockTree
copied = set_local (at 1) x (scalar a) done

-- `if (a) { int x = 1; }`
abbrev pub told : BlockTree
told = branch (at 1) (scalar a) (set_local (at 2) x (number (pos 1)) done) done done

-- `if (y) { int x = a; }`
abbrev pub copied_inside : BlockTree
copied_inside = branch (at 1) (local y) (set_local (at 2) x (scalar a) done) done done

-- `y = q;`
abbrev pub overwritten : BlockTree
overwritten = set_local (at 1) y (scalar q) done
