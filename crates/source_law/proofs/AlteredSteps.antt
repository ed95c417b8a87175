-- Whatever comes next in an altered run, the plain run goes on by some steps to a configuration that is related again.
use Rattle.std.proofs.Common.{◌≡◌, ◌∙◌, ap, refl, sym, subst, arith, ℕ, zero, suc, ◌+◌, ◌-◌, ◌≤◌, List, [], ◌∷◌}
use Rattle.jif_tree.specs.declared.program.Program.{Program}
use Rattle.jif_tree.specs.SourceRun.{Item, run, keep, Configuration, IsAtEnd, after_steps, step, calls_after}
use Rattle.jif_tree.specs.Altered.{Exposure, MayBeLeft, Alters, steps, changes_field, changes_variable, leaves_out}
use Rattle.jif_tree.specs.Altered.{Altered}
use Rattle.source_law.specs.Steady.{IsSteady, IsSteadyProgram}
use Rattle.source_law.specs.Related.{ItemIsIdle, AreItemsAlike, AreAligned, ended, idles, other_idles, alike}
use Rattle.source_law.specs.Related.{AreRelated}
use Rattle.source_law.specs.Follows.{EndsAfter, KeepsUp}
use Rattle.source_law.proofs.KeptCalls.{set_affected}
use Rattle.source_law.proofs.IdleSteps.{field_affected}
use Rattle.source_law.proofs.PairedItems.{in_call}
use Rattle.source_law.proofs.PlainSteps.{Reaches, follows, finishes, related_here, idle_too}

-- ---- what is left out

-- an item that is left out is idle, so the plain run may have it for itself
left_out : (program : Program) (exposure : Exposure) (c d : Configuration) (r : AreRelated program exposure c d)
    (items more : List Item) (item : Item) (behind : List Item) → items ≡ item ∷ behind → MayBeLeft exposure item →
    AreAligned program exposure r.pairs c.calls d.calls items more →
    AreAligned program exposure r.pairs c.calls d.calls behind more
left_out program exposure c d r _ _ item behind is left ended = absurd (cc)
left_out program exposure c d r _ _ item behind is left (idles one items more idle rest) =
    let same : items ≡ behind = cc in
    let P : List Item → Type 0 = λ list. AreAligned program exposure r.pairs c.calls d.calls list more in
    subst P same rest
left_out program exposure c d r _ _ item behind is left (other_idles one items more idle rest) =
    other_idles one behind more idle (left_out program exposure c d r items more item behind is left rest)
left_out program exposure c d r _ _ item behind is left (alike one two items more same rest) =
    let tails : items ≡ behind = cc in
    let heads : item ≡ one = cc in
    let P : List Item → Type 0 = λ list. AreAligned program exposure r.pairs c.calls d.calls list more in
    other_idles two behind more (idle_too program exposure c d r one two same
    (idle one two same (subst (MayBeLeft exposure) heads left))) (subst P tails rest)
  where
    idle : (one two : Item) → AreItemsAlike program exposure r.pairs c.calls one two → MayBeLeft exposure one →
        ItemIsIdle program exposure c.calls one
    idle (run i first) (run j second) same far =
        let mates = r.mates i j same.0 in
        let well = in_call program c.calls i mates.first
        (λ result. IsSteady program exposure result first.id first.kind) mates.first_there same.2 in
        rw mates.first_there (well.0 far)
    idle (run i first) (keep j into result) same far = absurd same
    idle (keep i into result) (run j second) same far = absurd same
    idle (keep i into result) (keep j onto other) same far = far

-- ---- what comes next

module _ (program : Program) (exposure : Exposure) (steady : IsSteadyProgram program exposure) (start : Configuration)
    (most : ℕ) (length_is : EndsAfter program most start) where
  abbrev Goes : ℕ → Configuration → Type 0
  Goes n next = Reaches program exposure steady start most length_is n next

  goes : (n : ℕ) (c next : Configuration) → n ≤ most → AreRelated program exposure c (after_steps program n start) →
      Alters program exposure c next → Goes n next
  goes n c next within r (steps may) =
      follows program exposure steady start most length_is (most - n) n
      (omega (arith, within)) c next c.pending (after_steps program n start).pending r refl refl r.pending may
  goes n c next within r (changes_field field index value far number is) =
      let P : Configuration → Type 0 = λ it. AreRelated program exposure it (after_steps program n start) in
      record {
        to = n;
        on = omega arith;
        within = within;
        related = subst P (sym is) (record {
          fields = λ g clean. field_affected exposure c.store field index value far g clean ∙ r.fields g clean;
          pairs = r.pairs;
          mates = r.mates;
          one_there = r.one_there;
          one_here = r.one_here;
          pending = r.pending;
        });
      }
  goes n c next within r (changes_variable call x value far number is) =
      let P : Configuration → Type 0 = λ it. AreRelated program exposure it (after_steps program n start) in
      record {
        to = n;
        on = omega arith;
        within = within;
        related = subst P (sym is) (related_here program exposure c (after_steps program n start)
            (record c { calls = calls_after c.calls call x.0 value }) c.pending r (record {
              fields = λ g clean. refl;
              calls = set_affected exposure c.calls call x value far;
              made = [];
              pending = refl;
              idle = tt;
            }) r.pending);
      }
  goes n c next within r (leaves_out item behind pending left is) =
      let P : Configuration → Type 0 = λ it. AreRelated program exposure it (after_steps program n start) in
      record {
        to = n;
        on = omega arith;
        within = within;
        related = subst P (sym is) (record {
          fields = r.fields;
          pairs = r.pairs;
          mates = r.mates;
          one_there = r.one_there;
          one_here = r.one_here;
          pending = left_out program exposure c (after_steps program n start) r c.pending
              (after_steps program n start).pending item behind pending left r.pending;
        });
      }

  -- one thing after the other
  goes_on : (others : List Configuration) (c now : Configuration) (n : ℕ) → n ≤ most →
      AreRelated program exposure c (after_steps program n start) → Altered program exposure c others now → Goes n now
  goes_on [] c now n within r same =
      let P : Configuration → Type 0 = λ it. AreRelated program exposure it (after_steps program n start) in
      record { to = n; on = omega arith; within = within; related = subst P (sym same) r }
  goes_on (next ∷ others) c now n within r altered =
      let at = goes n c next within r altered.0 in
      let last = goes_on others next now at.to at.within at.related altered.1 in
      record {
        to = last.to;
        on = let first = at.on in let second = last.on in omega (arith, first, second);
        within = last.within;
        related = last.related;
      }

  -- and at the end of the altered run to that of the plain run
  record Comes (c : Configuration) : Type 0 where
    to : ℕ
    within : to ≤ most
    related : AreRelated program exposure c (after_steps program to start)
    ends : IsAtEnd c → to ≡ most

  comes : (n : ℕ) (c : Configuration) → Goes n c → Comes c
  comes n c at = by c.pending refl
    where
      by : (pending : List Item) → c.pending ≡ pending → Comes c
      by [] is =
          let within = at.within in
          record {
            to = most;
            within = omega arith;
            related = finishes program exposure steady start most length_is (most - at.to) at.to
                (omega (arith, within)) c c.pending (after_steps program at.to start).pending is at.related refl refl
                at.related.pending;
            ends = λ end. refl;
          }
      by (item ∷ items) is = record {
        to = at.to;
        within = at.within;
        related = at.related;
        ends = λ end. let none : [] ≡ item ∷ items = sym end ∙ is in absurd (cc);
      }

-- ---- the plain run keeps up

pub steps_joined : (program : Program) (more n : ℕ) (c : Configuration) →
    after_steps program more (after_steps program n c) ≡ after_steps program (more + n) c
steps_joined program zero n c =
    let none : n ≡ zero + n = omega arith in
    ap (λ k. after_steps program k c) none
steps_joined program (suc more) n c =
    let one : suc (more + n) ≡ suc more + n = omega arith in
    ap (step program) (steps_joined program more n c) ∙ ap (λ k. after_steps program k c) one

pub keeps_up : (program : Program) (exposure : Exposure) (left : ℕ) (c d now : Configuration)
    (others : List Configuration) → IsSteadyProgram program exposure → EndsAfter program left d →
    AreRelated program exposure c d → Altered program exposure c others now → KeepsUp program exposure d left now
keeps_up program exposure left c d now others steady ends r altered =
    let within : 0 ≤ left = omega arith in
    let at = comes program exposure steady d left ends 0 now
    (goes_on program exposure steady d left ends others c now 0 within r altered) in
    let far = at.within in
    let total : (left - at.to) + at.to ≡ left = omega (arith, far) in
    let P : ℕ → Type 0 = λ n. IsAtEnd (after_steps program n d) in
    let Q : Configuration → Type 0 = λ it. IsAtEnd it in
    record {
      steps = at.to;
      further = left - at.to;
      total = omega (arith, far);
      related = at.related;
      still = subst Q (sym (steps_joined program (left - at.to) at.to d)) (subst P (sym total) ends);
      ended = λ end. let all = at.ends end in omega (arith, all);
    }
