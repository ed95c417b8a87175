-- The last entry of the vector is the top.
use Rattle.std.proofs.Common.{◌≡◌, ◌-◌, ◌∷◌, length, take, reverse, sym, ap, ◌∙◌, subst, Some, List, ℕ, refl}
use Rattle.std.specs.Prelude.{slice_get}
use Rattle.std.specs.Vec.{vec_len}
use Rattle.ics_stack.specs.declared.stack.StackEntry.{StackEntry}
use Rattle.ics_stack.specs.Stack.{StackShape, IsTakenOff, LackToken, StackFits}
use Rattle.ics_stack.proofs.Tokens.{fits_below, lack_top}
use Rattle.ics_stack.proofs.Tops.{reversed}
use Rattle.ics_stack.proofs.stack.IcsStack.take.Goals as goal

-- the entries before are the top and those after
parted : (c : goal.After-of) → reverse c.self.inside.entries.items ≡ c.in-Some.top ∷ reverse c.pop.new.self.items
parted c =
    let items = c.self.inside.entries.items in
    let count : vec_len c.self.inside.entries ≡ length items =
    sym c.deref.ensures.len ∙ ap length c.deref.ensures.value in
    let P : List StackEntry → Type 0 = λ s. slice_get s (length s - 1) ≡ Some (c.in-Some.top) in
    let last = subst P c.deref.ensures.value (sym (c.in-Some.ensures ∙ c.last.ensures.value)) in
    let left : reverse c.pop.new.self.items ≡ reverse (take (length items - 1) items) =
    ap reverse c.pop.ensures.rest ∙ ap (λ (n : ℕ). reverse (take (n - 1) items)) count in
    reversed items c.in-Some.top last ∙ ap (λ (s : List StackEntry). c.in-Some.top ∷ s) (sym left)

same_token : (c : goal.After-of) → c.in-Some.top.token ≡ c.args.token
same_token c = c.is_same.ensures.0 c.if-not-is_same.false

stood : (c : goal.After-of) →
    StackFits c.self.inside.host c.self.inside.serials.items (c.in-Some.top ∷ reverse c.pop.new.self.items)
stood c = subst (StackFits c.self.inside.host c.self.inside.serials.items) (parted c) c.self.invariant.1

pub invariant_of-self : goal.invariant_of-self
invariant_of-self c = (
  c.self.invariant.0,
  fits_below c.self.inside.host c.self.inside.serials.items c.in-Some.top (reverse c.pop.new.self.items) (stood c),
)

pub returns-clause-once : goal.returns-clause-once
returns-clause-once c =
    subst (LackToken (reverse c.pop.new.self.items)) (same_token c)
    (lack_top c.in-Some.top (reverse c.pop.new.self.items) (stood c).distinct)

pub returns-clause-ok : goal.returns-clause-ok
returns-clause-ok c =
    subst (λ (s : StackShape). IsTakenOff s.entries c.args.token c.of.result (reverse c.pop.new.self.items))
    c.self.view_is
    (subst (λ (s : List StackEntry). IsTakenOff s c.args.token c.of.result (reverse c.pop.new.self.items))
    (sym (parted c))
    (same_token c, c.of.ensures, refl))
