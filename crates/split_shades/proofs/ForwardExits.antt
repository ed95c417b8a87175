-- The branch of a loop leads out of it behind the whole guard: no guard is evaluated once it is known where its branch
-- leads.
use Rattle.std.proofs.Common.{◌≡◌, ◌≢◌, ◌∙◌, ℕ, suc, ◌+◌, ◌<◌, ◌≤◌, inl, inr, Bool, true, false, List, [], ◌∷◌, ◌++◌}
use Rattle.std.proofs.Common.{length, refl, ap, sym, subst, arith, ne_eqb, append_assoc, append-nil, length-append}
use Rattle.std.proofs.Common.{eq-eqb}
use Rattle.std.specs.Prelude.{Option, Some, None, IfSome, ⊤}
use Rattle.std.proofs.lemmas.Option.{slice_get_within}
use Rattle.js_base.specs.declared.ids.HostId.{HostId}
use Rattle.label_lattice.specs.declared.label.Label.{Label}
use Rattle.host_code.specs.declared.code_expr.Node.{Node}
use Rattle.host_code.specs.declared.instruction.Op.{Op}
use Rattle.host_code.specs.declared.instruction.Op.TheVariants as op
use Rattle.split_rules.specs.Emissions.{Emission, instruction, entry, stands, lands, Emitted, Counts, one_more_branch}
use Rattle.split_rules.specs.SplitCode.{emitted_on, before_landing}
use Rattle.split_rules.proofs.Places.{emitted_append}
use Rattle.split_shades.specs.Shades.{Shade, EntryShade, Begun, Ahead, ahead_of}
use Rattle.split_shades.specs.Shading.{Scene, PushesAt, PushesInShade, FollowsInShade, DividesInShade, nowhere, here}
use Rattle.split_shades.specs.Shading.{ShadeKnown, ShadedOp}
use Rattle.split_shades.specs.Shading.{IsShaded}
use Rattle.split_shades.specs.Shading.{Shaded, AreShaded}
use Rattle.split_shades.proofs.ShadedPlaces.{not_nowhere, here_host}
use Rattle.split_shades.proofs.ShadedStates.{counts_of, counts_behind}

-- ---- branches of which it is not yet known where they lead

abbrev NotLanded : ℕ → List Emission → Type 0
NotLanded own [] = ⊤
NotLanded own (instruction one ∷ xs) = NotLanded own xs
NotLanded own (entry named ∷ xs) = NotLanded own xs
NotLanded own (stands host number ∷ xs) = NotLanded own xs
NotLanded own (lands host number ∷ xs) = (number ≢ own) × NotLanded own xs

not_landed_on : (own : ℕ) (xs ys : List Emission) → NotLanded own xs → NotLanded own ys → NotLanded own (xs ++ ys)
not_landed_on own [] ys one two = two
not_landed_on own (instruction it ∷ xs) ys one two = not_landed_on own xs ys one two
not_landed_on own (entry named ∷ xs) ys one two = not_landed_on own xs ys one two
not_landed_on own (stands host number ∷ xs) ys one two = not_landed_on own xs ys one two
not_landed_on own (lands host number ∷ xs) ys one two = (one.0, not_landed_on own xs ys one.1 two)

-- Of no branch that is still to come is it known where it leads, nor of the loop whose guard is ahead.
record IsForward (before : List Emission) (known : ShadeKnown) : Type 0 where
  fresh : (own : ℕ) → length known.branches ≤ own → NotLanded own before
  guards : (own : ℕ) (host : HostId) (ahead : Ahead) (pc : Label) → known.place ≡ here host ahead →
      ahead.begun ≡ Some (record { pc = pc; guard = Some own }) → NotLanded own before

-- ---- what an instruction leaves ahead

abbrev BeginsGuard : Ahead → ℕ → Type 0
BeginsGuard ahead own = (pc : Label) × (ahead.begun ≡ Some (record { pc = pc; guard = Some own }))

none_begins : (ahead : Ahead) (own : ℕ) → ahead.begun ≡ None → BeginsGuard ahead own → ⊥
none_begins ahead own none begins = let same : None ≡ Some _ = sym none ∙ begins.1 in absurd (cc)

abbrev begun_as : Label → Option ℕ → Begun
begun_as pc guard = record { pc = pc; guard = guard }

same_guard : (pc other : Label) (guard : Option ℕ) (own : ℕ) →
    Some (begun_as pc guard) ≡ Some (begun_as other (Some own)) → guard ≡ Some own
same_guard pc other guard own same =
    let both : begun_as pc guard ≡ begun_as other (Some own) = cc in
    ap {A = Begun} (λ begun. begun.guard) both

pushes_none : (guard : Option ℕ) (entries : List EntryShade) (shade : Shade) (number : ℕ) (next : Ahead) →
    PushesAt guard entries shade number next → next.begun ≡ None
pushes_none None entries shade number next pushes = ap (λ ahead. ahead.begun) pushes.1
pushes_none (Some guard) entries shade number next pushes = ap (λ ahead. ahead.begun) pushes.2

push_none : (scene : Scene) (entries : List EntryShade) (me : HostId) (calls : Bool) (shade : Shade) (number : ℕ)
    (next : Ahead) → PushesInShade scene entries me calls shade number next → next.begun ≡ None
push_none scene entries me false shade number next pushes =
    pushes_none shade.guard entries shade number next pushes
push_none scene entries me true shade number next pushes = ap (λ ahead. ahead.begun) pushes.goes

follows_guard : (scene : Scene) (entries : List EntryShade) (me : HostId) (shade : Shade) (what : Op) (next : Ahead)
    (own : ℕ) → FollowsInShade scene entries me shade what next → BeginsGuard next own → shade.guard ≡ Some own
follows_guard scene entries me shade (op.Read field index) next own law begins =
    same_guard shade.pc begins.0 shade.guard own (sym (ap (λ ahead. ahead.begun) law.goes) ∙ begins.1)
follows_guard scene entries me shade (op.Let x value) next own law begins =
    absurd (none_begins next own (ap (λ ahead. ahead.begun) law.3) begins)
follows_guard scene entries me shade (op.Put field index value) next own law begins =
    absurd (none_begins next own (ap (λ ahead. ahead.begun) law.3) begins)
follows_guard scene entries me shade (op.Send x to) next own law begins =
    absurd (none_begins next own (ap (λ ahead. ahead.begun) law.2) begins)
follows_guard scene entries me shade (op.Frame site) next own law begins =
    absurd (none_begins next own (ap (λ ahead. ahead.begun) law.4) begins)
follows_guard scene entries me shade (op.Arg x value) next own law begins =
    absurd (none_begins next own (ap (λ ahead. ahead.begun) law.3) begins)
follows_guard scene entries me shade (op.Pass x to) next own law begins =
    absurd (none_begins next own (ap (λ ahead. ahead.begun) law.2) begins)
follows_guard scene entries me shade (op.Push there) next own law begins =
    absurd (none_begins next own (push_none scene entries me shade.calls shade there.0 next law.1) begins)
follows_guard scene entries me shade (op.Ask there on) next own law begins =
    absurd (none_begins next own (pushes_none None entries shade there.0 next law.3) begins)
follows_guard scene entries me shade (op.Ret x value) next own law begins =
    absurd (none_begins next own (ap (λ ahead. ahead.begun) law.3) begins)
follows_guard scene entries me shade other next own law begins = absurd law

divides_guard : (scene : Scene) (shade : Shade) (nodes : List Node) (guard : Option ℕ) (next target : Ahead) (own : ℕ) →
    DividesInShade scene shade nodes guard next target → BeginsGuard next own → guard ≡ Some own
divides_guard scene shade nodes None next target own law begins =
    absurd (none_begins next own (ap (λ ahead. ahead.begun) law.1) begins)
divides_guard scene shade nodes (Some guard) next target own law begins =
    same_guard shade.pc begins.0 (Some guard) own (sym (ap (λ ahead. ahead.begun) law.1) ∙ begins.1)

-- a guard that is ahead behind an instruction is the one that it evaluates
op_guard : (scene : Scene) (known : ShadeKnown) (me : HostId) (shade : Shade) (what : Op) (after : ShadeKnown) →
    ShadedOp scene known me shade what after → (own : ℕ) (host : HostId) (ahead : Ahead) →
    after.place ≡ here host ahead → BeginsGuard ahead own → shade.guard ≡ Some own
op_guard scene known me shade (op.Branch guard number) after law own host ahead place_is begins =
    let same = (here_host me host law.0 ahead (sym (ap (λ one. one.place) law.6) ∙ place_is)).1 in
    let P : Ahead → Type 0 = λ it. BeginsGuard it own in
    divides_guard scene shade guard shade.guard law.0 law.1 own law.5 (subst P (sym same) begins)
op_guard scene known me shade (op.Go there on) after law own host ahead place_is begins =
    absurd (not_nowhere host ahead (sym place_is ∙ ap (λ one. one.place) law.1))
op_guard scene known me shade (op.Call there on) after law own host ahead place_is begins =
    absurd (not_nowhere host ahead (sym place_is ∙ ap (λ one. one.place) law.1))
op_guard scene known me shade (op.GoWith there on riders) after law own host ahead place_is begins =
    absurd (not_nowhere host ahead (sym place_is ∙ ap (λ one. one.place) law.1))
op_guard scene known me shade (op.CallWith there on riders) after law own host ahead place_is begins =
    absurd (not_nowhere host ahead (sym place_is ∙ ap (λ one. one.place) law.1))
op_guard scene known me shade op.Back after law own host ahead place_is begins =
    absurd (not_nowhere host ahead (sym place_is ∙ ap (λ one. one.place) law.1))
op_guard scene known me shade other after law own host ahead place_is begins =
    let same = (here_host me host law.0 ahead (sym (ap (λ one. one.place) law.2) ∙ place_is)).1 in
    let P : Ahead → Type 0 = λ it. BeginsGuard it own in
    follows_guard scene known.entries me shade other law.0 own law.1 (subst P (sym same) begins)

-- no guard is evaluated of a loop of which it is known where its branch leads
guard_waits : (scene : Scene) (before : List Emission) (known : ShadeKnown) (one : Emitted) (after : ShadeKnown) →
    IsForward before known → (so : IsShaded scene known one after) → (own : ℕ) → so.shade.guard ≡ Some own →
    NotLanded own before
guard_waits scene before known one after forward so own is =
    let P : Option ℕ → Type 0 = λ guard. IfSome guard
    (λ it. so.ahead.begun ≡ Some (record { pc = so.shade.pc; guard = Some it })) in
    forward.guards own one.host so.ahead so.shade.pc so.is_here (subst P is so.guarded)

-- ---- steps

no_fewer : (what : Op) (counts : Counts) → counts.branches ≤ (one_more_branch what counts).branches
no_fewer (op.Branch guard number) counts = omega arith
no_fewer other counts = omega arith

forward_step : (scene : Scene) (before : List Emission) (known : ShadeKnown) (x : Emission) (after : ShadeKnown) →
    IsForward before known → Shaded scene known x after → IsForward (before ++ x ∷ []) after
forward_step scene before known (instruction one) after forward so = record {
  fresh = λ own past.
      let counted = ap (λ counts. counts.branches)
      (counts_behind scene known (instruction one ∷ []) after (after, so, refl)) in
      let more = no_fewer one.op (counts_of known) in
      not_landed_on own before (instruction one ∷ []) (forward.fresh own (omega (arith, counted, more, past))) tt;
  guards = λ own host ahead pc place_is begun.
      not_landed_on own before (instruction one ∷ [])
      (guard_waits scene before known one after forward so own
      (op_guard scene known one.host so.shade one.op after so.law own host ahead place_is (pc, begun))) tt;
}
forward_step scene before known (entry named) after forward so = record {
  fresh = λ own past.
      let many = ap {A = ShadeKnown} (λ one. length one.branches) so.3 in
      not_landed_on own before (entry named ∷ []) (forward.fresh own (omega (arith, many, past))) tt;
  guards = λ own host ahead pc place_is begun.
      not_landed_on own before (entry named ∷ [])
      (forward.guards own host ahead pc (sym (ap (λ one. one.place) so.3) ∙ place_is) begun) tt;
}
forward_step scene before known (stands on number) after forward so = record {
  fresh = λ own past.
      let many = ap {A = ShadeKnown} (λ one. length one.branches) so.3 in
      not_landed_on own before (stands on number ∷ []) (forward.fresh own (omega (arith, many, past))) tt;
  guards = λ own host ahead pc place_is begun.
      let same = (here_host on host (ahead_of so.0) ahead (sym (ap (λ one. one.place) so.3) ∙ place_is)).1 in
      let own_begun : so.0.begun ≡ Some (record { pc = pc; guard = Some own }) = ap (λ it. it.begun) same ∙ begun in
      not_landed_on own before (stands on number ∷ []) (forward.fresh own (next own pc own_begun)) tt;
}
  where
    next : (own : ℕ) (pc : Label) → so.0.begun ≡ Some (record { pc = pc; guard = Some own }) →
        length known.branches ≤ own
    next own pc own_begun = elim so.2 [
      | inl none ↦
          let same : None ≡ Some (begun_as pc (Some own)) = sym none.1 ∙ own_begun in
          absurd (cc)
      | inr both ↦
          let P : Option Begun → Type 0 = λ begun.
          IfSome begun (λ it. it.guard ≡ Some (length known.branches)) in
          let same : Some own ≡ Some (length known.branches) = subst P own_begun both.1 in
          let is : own ≡ length known.branches = cc in
          omega arith
    ]
forward_step scene before known (lands on number) after forward so = record {
  fresh = λ own past.
      let many = ap {A = ShadeKnown} (λ one. length one.branches) so.3 in
      let within = slice_get_within known.branches number so.0 so.1 in
      not_landed_on own before (lands on number ∷ []) (forward.fresh own (omega (arith, many, past)))
      ((λ same. omega (arith, many, past, within, same)), tt);
  guards = λ own host ahead pc place_is begun.
      let same = (here_host on host so.0 ahead (sym (ap (λ one. one.place) so.3) ∙ place_is)).1 in
      let none : None ≡ Some (begun_as pc (Some own)) =
      sym so.2.1 ∙ ap (λ it. it.begun) same ∙ begun in
      absurd (cc);
}

forward_all : (scene : Scene) (before : List Emission) (first : ShadeKnown) (xs : List Emission) (last : ShadeKnown) →
    IsForward before first → AreShaded scene first xs last → IsForward (before ++ xs) last
forward_all scene before first [] last forward so =
    let P : ShadeKnown → Type 0 = λ known. IsForward (before ++ []) known in
    let Q : List Emission → Type 0 = λ list. IsForward list first in
    subst P so (subst Q (sym (append-nil before)) forward)
forward_all scene before first (x ∷ xs) last forward so =
    let P : List Emission → Type 0 = λ list. IsForward list last in
    subst P (append_assoc before (x ∷ []) xs)
    (forward_all scene (before ++ x ∷ []) so.0 xs last (forward_step scene before first x so.0 forward so.1) so.2)

-- at the start nothing goes on
forward_start : (known : ShadeKnown) → known.place ≡ nowhere → IsForward [] known
forward_start known none = record {
  fresh = λ own past. tt;
  guards = λ own host ahead pc place_is begun. absurd (not_nowhere host ahead (sym place_is ∙ none));
}

-- ---- where a branch leads

landing_behind : (own : ℕ) (before : List Emission) (one : Emitted) (behind : List Emission) → NotLanded own before →
    before_landing own (before ++ instruction one ∷ behind)
    ≡ before ++ instruction one ∷ before_landing own behind
landing_behind own [] one behind not = refl
landing_behind own (instruction other ∷ before) one behind not =
    ap (λ list. instruction other ∷ list) (landing_behind own before one behind not)
landing_behind own (entry named ∷ before) one behind not =
    ap (λ list. entry named ∷ list) (landing_behind own before one behind not)
landing_behind own (stands host number ∷ before) one behind not =
    ap (λ list. stands host number ∷ list) (landing_behind own before one behind not)
landing_behind own (lands host number ∷ before) one behind not =
    rw (ne_eqb number own not.0) (ap (λ list. lands host number ∷ list) (landing_behind own before one behind not.1))

-- the branch of a loop leads behind each instruction of its guard
pub exit_behind : (scene : Scene) (me : HostId) (first : ShadeKnown) (before : List Emission) (known : ShadeKnown)
    (one : Emitted)
    (behind : List Emission) (after : ShadeKnown) → first.place ≡ nowhere → AreShaded scene first before known →
    (so : IsShaded scene known one after) → one.host ≡ me →
    IfSome so.shade.guard (λ own. length (emitted_on me before)
    < length (emitted_on me (before_landing own (before ++ instruction one ∷ behind))))
exit_behind scene me first before known one behind after none to so own_host = by so.shade.guard refl
  where
    forward : IsForward before known
    forward = forward_all scene [] first before known (forward_start first none) to

    by : (guard : Option ℕ) → so.shade.guard ≡ guard →
        IfSome guard (λ own. length (emitted_on me before)
        < length (emitted_on me (before_landing own (before ++ instruction one ∷ behind))))
    by None is = tt
    by (Some own) is =
        let waits = guard_waits scene before known one after forward so own is in
        let same = eq-eqb one.host.0 me.0 (ap (λ it. it.0) own_host) in
        let rest = before_landing own behind in
        let more : length (emitted_on me (instruction one ∷ rest)) ≡ suc (length (emitted_on me rest)) = rw same refl in
        let all : length (emitted_on me (before_landing own (before ++ instruction one ∷ behind)))
        ≡ length (emitted_on me before) + suc (length (emitted_on me rest)) =
        ap (λ list. length (emitted_on me list)) (landing_behind own before one behind waits)
        ∙ ap length (emitted_append me before (instruction one ∷ rest))
        ∙ length-append (emitted_on me before) (emitted_on me (instruction one ∷ rest))
        ∙ ap (λ many. length (emitted_on me before) + many) more in
        omega (arith, all)
