-- For a step of an altered run the plain run makes some steps: those of idle items that come first, and the same step
-- where the item is not idle. At the end of the altered run it makes all that are left.
use Rattle.std.proofs.Common.{◌≡◌, ◌∙◌, ap, refl, sym, subst, inl, ⊎_elim, arith, ℕ, zero, suc, ◌+◌, ◌≤◌, List, [], ◌∷◌}
use Rattle.std.proofs.Common.{map, IsSomeAnd}
use Rattle.std.specs.List.{AllZip}
use Rattle.jif_tree.specs.declared.program.Program.{Program}
use Rattle.jif_tree.specs.declared.program.Stmt.{Stmt}
use Rattle.jif_tree.specs.declared.program.Expr.{Expr}
use Rattle.jif_tree.specs.declared.program.Expr as expr
use Rattle.jif_tree.specs.SourceRun.{Call, Item, run, keep, Configuration, method_at, result_of, after_item, step}
use Rattle.jif_tree.specs.SourceRun.{operands, value_of, after_steps, variable}
use Rattle.jif_tree.specs.Altered.{Exposure, VariableIsAffected, MayStep, MayGive}
use Rattle.source_law.specs.Steady.{IsIdle, IsSteadyProgram}
use Rattle.source_law.specs.Related.{ItemIsIdle, AreItemsAlike, AreAligned, ended, idles, other_idles, alike}
use Rattle.source_law.specs.Related.{AreRelated}
use Rattle.source_law.specs.Follows.{EndsAfter}
use Rattle.source_law.proofs.KeptCalls.{same_calls}
use Rattle.source_law.proofs.AlignedItems.{aligned_more, idles_before, mates_more, others_before}
use Rattle.source_law.proofs.IdleSteps.{LeavesIdle, idle_steps}
use Rattle.source_law.proofs.PairedItems.{paired_steps}

-- ---- plain steps are steps too

-- a value may be read as it is
plainly : (exposure : Exposure) (c : Configuration) (call : ℕ) (e : Expr) →
    MayGive exposure c call e (value_of c call e)
plainly exposure c call (expr.Number n) = refl
plainly exposure c call (expr.Local x) = inl refl
plainly exposure c call (expr.Scalar field) = inl refl
plainly exposure c call (expr.Element' field p index) = (value_of c call index, plainly exposure c call index, inl refl)
plainly exposure c call (expr.Not' p operand) = (value_of c call operand, plainly exposure c call operand, refl)
plainly exposure c call (expr.Negate' p operand) = (value_of c call operand, plainly exposure c call operand, refl)
plainly exposure c call (expr.Binary' operator p left q right) =
    (value_of c call left, value_of c call right, plainly exposure c call left, plainly exposure c call right, refl)
plainly exposure c call (expr.Declassify' p inner label) = plainly exposure c call inner
plainly exposure c call (expr.Endorse' p inner label) = plainly exposure c call inner

all_plainly : (exposure : Exposure) (c : Configuration) (call : ℕ) (exprs : List Expr) →
    AllZip (MayGive exposure c call) exprs (map (value_of c call) exprs)
all_plainly exposure c call [] = tt
all_plainly exposure c call (e ∷ exprs) = (plainly exposure c call e, all_plainly exposure c call exprs)

plain_step : (program : Program) (exposure : Exposure) (c : Configuration) (item : Item) (behind : List Item) →
    MayStep program exposure c (item ∷ behind) (after_item program c (item ∷ behind))
plain_step program exposure c (run call statement) behind =
    (map (value_of c call) (operands statement.kind), all_plainly exposure c call (operands statement.kind), refl)
plain_step program exposure c (keep call into result) behind = (variable c.calls call result.0, inl refl, refl)

-- ---- idle work on either side

pub related_here : (program : Program) (exposure : Exposure) (c d next : Configuration) (behind : List Item) →
    (r : AreRelated program exposure c d) → LeavesIdle program exposure c behind next →
    AreAligned program exposure r.pairs c.calls d.calls behind d.pending → AreRelated program exposure next d
related_here program exposure c d next behind r leaves rest =
    let grown = aligned_more program exposure r.pairs c.calls next.calls d.calls d.calls behind d.pending leaves.calls
    (same_calls exposure d.calls) rest in
    let P : List Item → Type 0 = λ items. AreAligned program exposure r.pairs next.calls d.calls items d.pending in
    record {
      fields = λ field clean. leaves.fields field clean ∙ r.fields field clean;
      pairs = r.pairs;
      mates = λ i j pair. mates_more exposure r.pairs r.pairs c.calls next.calls d.calls d.calls i j
          (λ k l other. other) leaves.calls (same_calls exposure d.calls) (r.mates i j pair);
      one_there = r.one_there;
      one_here = r.one_here;
      pending = subst P (sym leaves.pending)
          (idles_before program exposure r.pairs next.calls d.calls leaves.made behind d.pending leaves.idle grown);
    }

related_there : (program : Program) (exposure : Exposure) (c d next : Configuration) (behind : List Item) →
    (r : AreRelated program exposure c d) → LeavesIdle program exposure d behind next →
    AreAligned program exposure r.pairs c.calls d.calls c.pending behind → AreRelated program exposure c next
related_there program exposure c d next behind r leaves rest =
    let grown = aligned_more program exposure r.pairs c.calls c.calls d.calls next.calls c.pending behind
    (same_calls exposure c.calls) leaves.calls rest in
    let P : List Item → Type 0 = λ items. AreAligned program exposure r.pairs c.calls next.calls c.pending items in
    record {
      fields = λ field clean. r.fields field clean ∙ sym (leaves.fields field clean);
      pairs = r.pairs;
      mates = λ i j pair. mates_more exposure r.pairs r.pairs c.calls c.calls d.calls next.calls i j
          (λ k l other. other) (same_calls exposure c.calls) leaves.calls (r.mates i j pair);
      one_there = r.one_there;
      one_here = r.one_here;
      pending = subst P (sym leaves.pending)
          (others_before program exposure r.pairs c.calls next.calls leaves.made c.pending behind leaves.idle grown);
    }

-- what is idle in a call is idle in its mate
pub idle_too : (program : Program) (exposure : Exposure) (c d : Configuration) (r : AreRelated program exposure c d)
    (first second : Item) → AreItemsAlike program exposure r.pairs c.calls first second →
    ItemIsIdle program exposure c.calls first → ItemIsIdle program exposure d.calls second
idle_too program exposure c d r (run i one) (run j two) same idle =
    let mates = r.mates i j same.0 in
    let own : IsIdle program exposure (result_of (method_at program mates.first.method)) one.kind =
    subst (λ found. IsSomeAnd found (λ (made : Call). IsIdle program exposure (result_of (method_at program
    made.method)) one.kind))
    mates.first_there idle in
    rw mates.second_there
    (subst (λ (s : Stmt). IsIdle program exposure (result_of (method_at program mates.second.method)) s.kind) same.1
    (subst (λ n. IsIdle program exposure (result_of (method_at program n)) one.kind) mates.alike.method own))
idle_too program exposure c d r (run i one) (keep j into result) same idle = absurd same
idle_too program exposure c d r (keep i into result) (run j two) same idle = absurd same
idle_too program exposure c d r (keep i into result) (keep j onto other) same idle =
    subst (VariableIsAffected exposure) same.1 idle

-- ---- the plain run

module _ (program : Program) (exposure : Exposure) (steady : IsSteadyProgram program exposure) (start : Configuration)
    (most : ℕ) (length_is : EndsAfter program most start) where
  -- where something is due the end is not come to
  not_ended : (n k : ℕ) (item : Item) (behind : List Item) → n + k ≡ most →
      (after_steps program n start).pending ≡ item ∷ behind → (less : ℕ) × (k ≡ suc less)
  not_ended n zero item behind sum due =
      let same : n ≡ most = omega (arith, sum) in
      let end : [] ≡ item ∷ behind =
      sym (ap (λ m. (after_steps program m start).pending) same ∙ length_is) ∙ due in
      absurd (cc)
  not_ended n (suc less) item behind sum due = (less, refl)

  -- by some steps more it is related again
  pub record Reaches (from : ℕ) (next : Configuration) : Type 0 where
    pub to : ℕ
    pub on : from ≤ to
    pub within : to ≤ most
    pub related : AreRelated program exposure next (after_steps program to start)

  step_to : (d : Configuration) (item : Item) (behind : List Item) → d.pending ≡ item ∷ behind →
      after_item program d (item ∷ behind) ≡ step program d
  step_to d item behind due = ap (after_item program d) (sym due)

  -- the plain run goes on over an item of its own that is idle
  passes : (n : ℕ) (c : Configuration) (item : Item) (more : List Item) →
      (r : AreRelated program exposure c (after_steps program n start)) →
      (after_steps program n start).pending ≡ item ∷ more →
      ItemIsIdle program exposure (after_steps program n start).calls item →
      AreAligned program exposure r.pairs c.calls (after_steps program n start).calls c.pending more →
      AreRelated program exposure c (after_steps program (suc n) start)
  passes n c item more r due idle rest =
      let d = after_steps program n start in
      subst (AreRelated program exposure c) (step_to d item more due)
      (related_there program exposure c d (after_item program d (item ∷ more)) more r
      (idle_steps program exposure steady d item more (after_item program d (item ∷ more)) idle
      (plain_step program exposure d item more)) rest)

  pub follows : (k n : ℕ) → n + k ≡ most → (c next : Configuration) (items more : List Item) →
      (r : AreRelated program exposure c (after_steps program n start)) → c.pending ≡ items →
      (after_steps program n start).pending ≡ more →
      AreAligned program exposure r.pairs c.calls (after_steps program n start).calls items more →
      MayStep program exposure c items next → Reaches n next
  follows k n sum c next _ _ r here there ended may = absurd may
  follows k n sum c next _ _ r here there (idles item items more idle rest) may =
      let d = after_steps program n start in
      let P : List Item → Type 0 = λ due. AreAligned program exposure r.pairs c.calls d.calls items due in
      record {
        to = n;
        on = omega arith;
        within = omega (arith, sum);
        related = related_here program exposure c d next items r
            (idle_steps program exposure steady c item items next idle may) (subst P (sym there) rest);
      }
  follows k n sum c next _ _ r here there (alike first second items more same rest) may =
      let d = after_steps program n start in
      let left = not_ended n k second more sum there in
      ⊎_elim
      (λ idle.
      let P : List Item → Type 0 = λ due. AreAligned program exposure r.pairs c.calls d.calls items due in
      record {
        to = n;
        on = omega arith;
        within = omega (arith, sum);
        related = related_here program exposure c d next items r
            (idle_steps program exposure steady c first items next idle may)
            (subst P (sym there) (other_idles second items more
            (idle_too program exposure c d r first second same idle) rest));
      })
      (λ related. record {
        to = suc n;
        on = omega arith;
        within = omega (arith, sum, left.1);
        related = subst (AreRelated program exposure next) (step_to d second more there) related;
      })
      (paired_steps program exposure steady c d next first second items more r here there same rest may)
  follows zero n sum c next _ _ r here there (other_idles item items more idle rest) may =
      let left = not_ended n zero item more sum there in
      let none : zero ≡ suc left.0 = left.1 in
      absurd (cc)
  follows (suc less) n sum c next _ _ r here there (other_idles item items more idle rest) may =
      let d = after_steps program n start in
      let P : List Item → Type 0 = λ due. AreAligned program exposure r.pairs c.calls d.calls due more in
      let after = passes n c item more r there idle (subst P (sym here) rest) in
      let Q : List Item → Type 0 = λ due. AreAligned program exposure after.pairs c.calls
      (after_steps program (suc n) start).calls due (after_steps program (suc n) start).pending in
      let reached = follows less (suc n) (omega (arith, sum)) c next items (after_steps program (suc n) start).pending
      after here
      refl (subst Q here after.pending) may in
      record {
        to = reached.to;
        on = let on = reached.on in omega (arith, on);
        within = reached.within;
        related = reached.related;
      }

  -- at the end of the altered run only idle items are left to the plain run
  stays : (d : Configuration) → d.pending ≡ [] → d ≡ step program d
  stays d none = ap (after_item program d) (sym none)

  pub finishes : (k n : ℕ) → n + k ≡ most → (c : Configuration) (items more : List Item) → c.pending ≡ [] →
      (r : AreRelated program exposure c (after_steps program n start)) → c.pending ≡ items →
      (after_steps program n start).pending ≡ more →
      AreAligned program exposure r.pairs c.calls (after_steps program n start).calls items more →
      AreRelated program exposure c (after_steps program most start)
  finishes zero n sum c items more ends r here there rest =
      let same : n ≡ most = omega (arith, sum) in
      subst (λ m. AreRelated program exposure c (after_steps program m start)) same r
  finishes (suc k) n sum c _ _ ends r here there ended =
      let after = subst (AreRelated program exposure c) (stays (after_steps program n start) there) r in
      finishes k (suc n) (omega (arith, sum)) c c.pending (after_steps program (suc n) start).pending ends after
      refl refl after.pending
  finishes (suc k) n sum c _ _ ends r here there (idles item items more idle rest) =
      let none : [] ≡ item ∷ items = sym ends ∙ here in
      absurd (cc)
  finishes (suc k) n sum c _ _ ends r here there (alike first second items more same rest) =
      let none : [] ≡ first ∷ items = sym ends ∙ here in
      absurd (cc)
  finishes (suc k) n sum c _ _ ends r here there (other_idles item items more idle rest) =
      let d = after_steps program n start in
      let P : List Item → Type 0 = λ due. AreAligned program exposure r.pairs c.calls d.calls due more in
      let after = passes n c item more r there idle (subst P (sym here) rest) in
      finishes k (suc n) (omega (arith, sum)) c c.pending (after_steps program (suc n) start).pending ends after
      refl refl after.pending
