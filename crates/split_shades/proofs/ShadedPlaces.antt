-- What is known in a shaded walk stays known, laws hold with more entries too, and what is ahead of a place is met by
-- the instruction that comes next.
use Rattle.std.proofs.Common.{◌≡◌, ◌∙◌, ℕ, ◌+◌, inl, inr, List, [], ◌∷◌, ◌++◌, length, ap, sym, subst, arith}
use Rattle.std.proofs.Common.{Bool, true, false}
use Rattle.std.specs.Prelude.{Option, Some, None, slice_get}
use Rattle.js_base.specs.declared.ids.HostId.{HostId}
use Rattle.label_lattice.specs.declared.label.Label.{Label}
use Rattle.host_code.specs.declared.instruction.Op.{Op}
use Rattle.host_code.specs.declared.instruction.Op.TheVariants as op
use Rattle.split_rules.specs.Emissions.{Emission, instruction, entry, stands, lands, Emitted, Counts, counts_after}
use Rattle.split_rules.specs.Emissions.{one_more_branch, counts_with}
use Rattle.split_rules.specs.Positions.{Level, body}
use Rattle.split_rules.specs.SplitCode.{entries_in}
use Rattle.split_rules.proofs.ToldEmissions.{no_entry}
use Rattle.split_rules.proofs.WalkedCalls.{still_there}
use Rattle.split_shades.specs.Shades.{Shade, EntryShade, Ahead, MeetsShade, ahead_of, level_entry}
use Rattle.split_shades.specs.Shading.{Scene, IsLevelOf, NamesInShade, PushesAt, PushesInShade, FollowsInShade, HandsOn}
use Rattle.split_shades.specs.Shading.{EntersInShade, GoesToInShade, CallsOn, EndsInShade, IsShade, IsEntryShade}
use Rattle.split_shades.specs.Shading.{ShadePlace, nowhere, here}
use Rattle.split_shades.specs.Shading.{ShadeKnown, known_at, ShadedOp, no_begun, Shaded, AreShaded}
use Rattle.split_shades.proofs.ReadOff.{GoesOn}
use Rattle.split_shades.proofs.ShadedStates.{counts_behind, counts_of}

-- ---- what was known stays known

abbrev pub Kept : {X : Type 0} → List X → List X → Type 0
Kept {X} first more = (number : ℕ) (x : X) → slice_get first number ≡ Some x → slice_get more number ≡ Some x

kept_same : {X : Type 0} (first more : List X) → more ≡ first → Kept first more
kept_same {X} first more same number x is =
    let P : List X → Type 0 = λ list. slice_get list number ≡ Some x in
    subst P (sym same) is

kept_longer : {X : Type 0} (first behind more : List X) → more ≡ first ++ behind → Kept first more
kept_longer {X} first behind more same number x is =
    let P : List X → Type 0 = λ list. slice_get list number ≡ Some x in
    subst P (sym same) (still_there first behind number x is)

pub kept_then : {X : Type 0} (first middle last : List X) → Kept first middle → Kept middle last → Kept first last
kept_then first middle last one two number x is = two number x (one number x is)

pub record BothKept (first last : ShadeKnown) : Type 0 where
  pub entries : Kept first.entries last.entries
  pub branches : Kept first.branches last.branches

place_only : (known : ShadeKnown) (place : ShadePlace) (after : ShadeKnown) → after
    ≡ known_at place known.entries known.branches →
    BothKept known after
place_only known place after is = record {
  entries = kept_same known.entries after.entries (ap (λ one. one.entries) is);
  branches = kept_same known.branches after.branches (ap (λ one. one.branches) is);
}

op_keeps : (scene : Scene) (known : ShadeKnown) (me : HostId) (shade : Shade) (what : Op) (after : ShadeKnown) →
    ShadedOp scene known me shade what after → BothKept known after
op_keeps scene known me shade (op.Read field index) after law = place_only known _ after law.2
op_keeps scene known me shade (op.Let x value) after law = place_only known _ after law.2
op_keeps scene known me shade (op.Put field index value) after law = place_only known _ after law.2
op_keeps scene known me shade (op.Send x to) after law = place_only known _ after law.2
op_keeps scene known me shade (op.Frame site) after law = place_only known _ after law.2
op_keeps scene known me shade (op.Arg x value) after law = place_only known _ after law.2
op_keeps scene known me shade (op.Pass x to) after law = place_only known _ after law.2
op_keeps scene known me shade (op.Push there) after law = place_only known _ after law.2
op_keeps scene known me shade (op.Ask there on) after law = place_only known _ after law.2
op_keeps scene known me shade (op.Go there on) after law = place_only known _ after law.1
op_keeps scene known me shade (op.Call there on) after law = place_only known _ after law.1
op_keeps scene known me shade (op.Ret x value) after law = place_only known _ after law.2
op_keeps scene known me shade op.Back after law = place_only known _ after law.1
op_keeps scene known me shade (op.Branch guard number) after law = record {
  entries = kept_same known.entries after.entries (ap (λ one. one.entries) law.6);
  branches = kept_longer known.branches (law.1 ∷ []) after.branches (ap (λ one. one.branches) law.6);
}
op_keeps scene known me shade (op.GoWith there on riders) after law = place_only known _ after law.1
op_keeps scene known me shade (op.CallWith there on riders) after law = place_only known _ after law.1

pub step_keeps : (scene : Scene) (known : ShadeKnown) (x : Emission) (after : ShadeKnown) → Shaded scene known x after →
    BothKept known after
step_keeps scene known (instruction one) after so = op_keeps scene known one.host so.shade one.op after so.law
step_keeps scene known (entry named) after so = record {
  entries = kept_longer known.entries (so.0 ∷ []) after.entries (ap (λ one. one.entries) so.3);
  branches = kept_same known.branches after.branches (ap (λ one. one.branches) so.3);
}
step_keeps scene known (stands host number) after so = place_only known _ after so.3
step_keeps scene known (lands host number) after so = place_only known _ after so.3

pub steps_keep : (scene : Scene) (first : ShadeKnown) (xs : List Emission) (last : ShadeKnown) →
    AreShaded scene first xs last →
    BothKept first last
steps_keep scene first [] last so = record {
  entries = kept_same first.entries last.entries (ap (λ one. one.entries) (sym so));
  branches = kept_same first.branches last.branches (ap (λ one. one.branches) (sym so));
}
steps_keep scene first (x ∷ xs) last so =
    let one = step_keeps scene first x so.0 so.1 in
    let others = steps_keep scene so.0 xs last so.2 in
    record {
      entries = kept_then first.entries so.0.entries last.entries one.entries others.entries;
      branches = kept_then first.branches so.0.branches last.branches one.branches others.branches;
    }

-- ---- as many entries as are named

entries_counted : (counts : Counts) (xs : List Emission) →
    (counts_after counts xs).entries ≡ counts.entries + length (entries_in xs)
entries_counted counts [] = omega arith
entries_counted counts (instruction one ∷ xs) =
    entries_counted (one_more_branch one.op counts) xs
    ∙ ap (λ many. many + length (entries_in xs)) (no_entry one.op counts)
entries_counted counts (entry named ∷ xs) =
    let others = entries_counted (counts_with counts (entry named)) xs in omega arith
entries_counted counts (stands host number ∷ xs) = entries_counted counts xs
entries_counted counts (lands host number ∷ xs) = entries_counted counts xs

pub entries_many : (scene : Scene) (first : ShadeKnown) (xs : List Emission) (last : ShadeKnown) →
    AreShaded scene first xs last →
    length last.entries ≡ length first.entries + length (entries_in xs)
entries_many scene first xs last so =
    ap (λ counts. counts.entries) (counts_behind scene first xs last so) ∙ entries_counted (counts_of first) xs

-- ---- laws with more entries

pub level_more : (entries more : List EntryShade) → Kept entries more → (level : Level) (label : Label) →
    IsLevelOf entries level label → IsLevelOf more level label
level_more entries more kept level label (it, is, label_is) = (it, kept (level_entry level) it is, label_is)

pub shade_more : (scene : Scene) (entries more : List EntryShade) → Kept entries more → (shade : Shade) →
    IsShade scene entries shade → IsShade scene more shade
shade_more scene entries more kept shade is = record {
  under_block = is.under_block;
  below = (is.below.0, level_more entries more kept shade.level is.below.0 is.below.1, is.below.2);
  silent = is.silent;
}

pub entry_more : (scene : Scene) (entries more : List EntryShade) → Kept entries more → (host : HostId)
    (it : EntryShade) → IsEntryShade scene entries host it → IsEntryShade scene more host it
entry_more scene entries more kept host it is = record {
  level = (
    is.level.0,
    level_more entries more kept it.level is.level.0 is.level.1,
    is.level.2,
    is.level.3,
  );
  pushed = is.pushed;
  seen = is.seen;
}

names_more : (entries more : List EntryShade) → Kept entries more → (shade : Shade) (number : ℕ) →
    NamesInShade entries shade number → NamesInShade more shade number
names_more entries more kept shade number names = record {
  it = names.it;
  is = kept number names.it names.is;
  level = names.level;
  block = names.block;
  pushed = names.pushed;
}

pushes_at_more : (entries more : List EntryShade) → Kept entries more → (guard : Option ℕ) (shade : Shade)
    (number : ℕ) (next : Ahead) → PushesAt guard entries shade number next → PushesAt guard more shade number next
unfolding names_more
pushes_at_more entries more kept None shade number next pushes =
    (names_more entries more kept shade number pushes.0, pushes.1)
pushes_at_more entries more kept (Some guard) shade number next pushes =
    (names_more entries more kept shade number pushes.0, pushes.1, pushes.2)

pushes_more : (scene : Scene) (entries more : List EntryShade) → Kept entries more → (me : HostId) (calls : Bool)
    (shade : Shade) (number : ℕ) (next : Ahead) → PushesInShade scene entries me calls shade number next →
    PushesInShade scene more me calls shade number next
pushes_more scene entries more kept me false shade number next pushes =
    pushes_at_more entries more kept shade.guard shade number next pushes
pushes_more scene entries more kept me true shade number next pushes = record {
  names = names_more entries more kept shade number pushes.names;
  method = pushes.method;
  begin = pushes.begin;
  is_begin = level_more entries more kept (body pushes.method) pushes.begin pushes.is_begin;
  sees = pushes.sees;
  no_guard = pushes.no_guard;
  goes = pushes.goes;
}

pub follows_more : (scene : Scene) (entries more : List EntryShade) → Kept entries more → (me : HostId) (shade : Shade)
    (what : Op) (next : Ahead) → FollowsInShade scene entries me shade what next →
    FollowsInShade scene more me shade what next
follows_more scene entries more kept me shade (op.Push there) next follows =
    (follows.0, pushes_more scene entries more kept me shade.calls shade there.0 next follows.1)
follows_more scene entries more kept me shade (op.Ask there on) next follows = (
  follows.0,
  follows.1,
  follows.2,
  pushes_at_more entries more kept None shade there.0 next follows.3,
  follows.4,
)
follows_more scene entries more kept me shade other next follows = follows

hands_more : (entries more : List EntryShade) → Kept entries more → (shade : Shade) (number : ℕ) →
    HandsOn entries shade number → HandsOn more shade number
hands_more entries more kept shade number hands = record {
  it = hands.it;
  is = kept number hands.it hands.is;
  level = hands.level;
  block = hands.block;
}

enters_more : (entries more : List EntryShade) → Kept entries more → (shade : Shade) (number : ℕ) →
    EntersInShade entries shade number → EntersInShade more shade number
enters_more entries more kept shade number enters = record {
  method = enters.method;
  is_level = enters.is_level;
  is_number = enters.is_number;
  it = enters.it;
  is = kept number enters.it enters.is;
  level = enters.level;
  block = enters.block;
  below = enters.below;
}

goes_more : (scene : Scene) (entries more : List EntryShade) → Kept entries more → (shade : Shade) (number : ℕ)
    (on : HostId) → GoesToInShade scene entries shade number on → GoesToInShade scene more shade number on
goes_more scene entries more kept shade number on goes =
    (goes.0, goes.1, goes.2, hands_more entries more kept shade number goes.3, goes.4)

calls_more : (scene : Scene) (entries more : List EntryShade) → Kept entries more → (shade : Shade) (number : ℕ)
    (on : HostId) → CallsOn scene entries shade number on → CallsOn scene more shade number on
calls_more scene entries more kept shade number on calls =
    (calls.0, calls.1, calls.2, enters_more entries more kept shade number calls.3, calls.4)

pub ends_more : (scene : Scene) (entries more : List EntryShade) → Kept entries more → (shade : Shade) (what : Op) →
    EndsInShade scene entries shade what → EndsInShade scene more shade what
ends_more scene entries more kept shade (op.Go there on) ends =
    goes_more scene entries more kept shade there.0 on ends
ends_more scene entries more kept shade (op.Call there on) ends =
    calls_more scene entries more kept shade there.0 on ends
ends_more scene entries more kept shade (op.GoWith there on riders) ends =
    (goes_more scene entries more kept shade there.0 on ends.0, ends.1)
ends_more scene entries more kept shade (op.CallWith there on riders) ends =
    (calls_more scene entries more kept shade there.0 on ends.0, ends.1)
ends_more scene entries more kept shade op.Back ends = ends
ends_more scene entries more kept shade other ends = ends

-- ---- what comes next

-- what is read off at an instruction
abbrev pub shade_of : (scene : Scene) (known : ShadeKnown) (one : Emitted) (after : ShadeKnown) →
    Shaded scene known (instruction one) after → Shade
shade_of scene known one after so = so.shade

abbrev pub Goes : ShadeKnown → HostId → Type 0
Goes known host = (ahead : Ahead) × (known.place ≡ here host ahead)

abbrev pub Meet : ShadeKnown → HostId → Shade → Type 0
Meet known host shade = (ahead : Ahead) → known.place ≡ here host ahead → MeetsShade ahead shade

pub not_nowhere : (host : HostId) (ahead : Ahead) → here host ahead ≡ nowhere → ⊥
not_nowhere host ahead same = cc

pub here_host : (host other : HostId) (ahead next : Ahead) → here host ahead ≡ here other next →
    (host ≡ other) × (ahead ≡ next)
here_host host other ahead next same = (cc, cc)

no_less : (own : EntryShade) (shade : Shade) → MeetsShade (ahead_of own) shade →
    MeetsShade (no_begun (ahead_of own)) shade
no_less own shade meets = record {
  level = meets.level;
  block = meets.block;
  temps = meets.temps;
  calls = meets.calls;
  begun = tt;
}

pub shades_go_on : (scene : Scene) → GoesOn (Shaded scene) (shade_of scene) Goes Meet
shades_go_on scene = record {
  own = λ known one after host so goes.
      let at = here_host one.host host so.ahead goes.0 (sym so.is_here ∙ goes.1) in (
        at.0,
        λ ahead place_is.
            let same = (here_host one.host host so.ahead ahead (sym so.is_here ∙ place_is)).1 in
            let P : Ahead → Type 0 = λ it. MeetsShade it so.shade in
            subst P same so.meets,
      );
  named = λ known named after host so goes.
      let same = ap (λ one. one.place) so.3 in
      ((goes.0, same ∙ goes.1), λ shade meet ahead place_is. meet ahead (same ∙ place_is));
  stands_there = λ known on number after host so goes. elim so.2 [
    | inl none ↦ absurd (not_nowhere host goes.0 (sym goes.1 ∙ none.0))
    | inr both ↦
        let same = both.0 in
        let at = here_host on host (no_begun (ahead_of so.0)) goes.0 (sym same ∙ goes.1) in
        let later = ap (λ one. one.place) so.3 ∙ ap (λ it. here it (ahead_of so.0)) at.0 in (
          (ahead_of so.0, later),
          λ shade meet ahead place_is.
              let before = (here_host on host (no_begun (ahead_of so.0)) ahead (sym same ∙ place_is)).1 in
              let P : Ahead → Type 0 = λ it. MeetsShade it shade in
              subst P before (no_less so.0 shade (meet (ahead_of so.0) later)),
        )
  ];
  lands_there = λ known on number after host so goes. absurd (not_nowhere host goes.0 (sym goes.1 ∙ so.2.0));
}
