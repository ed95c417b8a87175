-- Idle work keeps what is to be done aligned.
use Rattle.std.proofs.Common.{◌≡◌, ◌∙◌, refl, sym, subst, ℕ, List, [], ◌∷◌, ◌++◌, Option, Some, None, slice_get}
use Rattle.std.proofs.Common.{IsSomeAnd}
use Rattle.std.specs.List.{AllByRecursion}
use Rattle.js_base.specs.declared.ids.VarId.{VarId}
use Rattle.jif_tree.specs.declared.program.Program.{Program}
use Rattle.jif_tree.specs.SourceRun.{Call, Item, run, keep, method_at, result_of}
use Rattle.jif_tree.specs.Altered.{Exposure}
use Rattle.source_law.specs.Steady.{IsIdle, IsSteady}
use Rattle.source_law.specs.Related.{Pairs, IsPair, AreMates, IsInCall, ItemIsIdle, AreItemsAlike, AreAligned, ended}
use Rattle.source_law.specs.Related.{idles, other_idles, alike}
use Rattle.source_law.proofs.KeptCalls.{AreMore}

-- a call that is there stays, as one of its method
abbrev pub AreKept : List Call → List Call → Type 0
AreKept calls more = (i : ℕ) (call : Call) → slice_get calls i ≡ Some call →
    (now : Call) × (slice_get more i ≡ Some now) × (now.method ≡ call.method)

pub kept_of : (exposure : Exposure) (calls more : List Call) → AreMore exposure calls more → AreKept calls more
kept_of exposure calls more grown i call is =
    let stays = grown i call is in
    (stays.now, stays.there, stays.method)

pub kept_same : (calls : List Call) → AreKept calls calls
kept_same calls i call is = (call, is, refl)

abbrev pub ArePairsKept : Pairs → Pairs → Type 0
ArePairsKept pairs further = (i j : ℕ) → IsPair pairs i j → IsPair further i j

in_call_more : (program : Program) (exposure : Exposure) (calls more : List Call) (call : ℕ)
    (Holds : Option VarId → Type 0) → AreKept calls more → IsInCall program calls call Holds →
    IsInCall program more call Holds
in_call_more program exposure calls more call Holds grown holds = by (slice_get calls call) refl holds
  where
    by : (found : Option Call) → slice_get calls call ≡ found →
        IsSomeAnd found (λ made. Holds (result_of (method_at program made.method))) → IsInCall program more call Holds
    by None is none = absurd none
    by (Some made) is own =
        let stays = grown call made is in
        rw stays.1 (subst (λ n. Holds (result_of (method_at program n))) (sym stays.2) own)

idle_more : (program : Program) (exposure : Exposure) (calls more : List Call) (item : Item) →
    AreKept calls more → ItemIsIdle program exposure calls item → ItemIsIdle program exposure more item
idle_more program exposure calls more (run call statement) grown idle =
    in_call_more program exposure calls more call (λ result. IsIdle program exposure result statement.kind) grown idle
idle_more program exposure calls more (keep call into result) grown idle = idle

alike_more : (program : Program) (exposure : Exposure) (pairs further : Pairs) (calls more : List Call)
    (first second : Item) → ArePairsKept pairs further → AreKept calls more →
    AreItemsAlike program exposure pairs calls first second → AreItemsAlike program exposure further more first second
alike_more program exposure pairs further calls more (run i first) (run j second) wider grown same = (
  wider i j same.0,
  same.1,
  in_call_more program exposure calls more i
      (λ result. IsSteady program exposure result first.id first.kind) grown same.2,
)
alike_more program exposure pairs further calls more (run i first) (keep j into result) wider grown same = absurd same
alike_more program exposure pairs further calls more (keep i into result) (run j second) wider grown same = absurd same
alike_more program exposure pairs further calls more (keep i into result) (keep j onto other) wider grown same =
    (wider i j same.0, same.1, same.2, same.3)

pub aligned_kept : (program : Program) (exposure : Exposure) (pairs wide : Pairs)
    (calls more others further : List Call) (items too : List Item) → ArePairsKept pairs wide → AreKept calls more →
    AreKept others further → AreAligned program exposure pairs calls others items too →
    AreAligned program exposure wide more further items too
aligned_kept program exposure pairs wide calls more others further _ _ wider grown grown_too ended = ended
aligned_kept program exposure pairs wide calls more others further _ _ wider grown grown_too (idles item items too idle
    rest) =
    idles item items too (idle_more program exposure calls more item grown idle)
    (aligned_kept program exposure pairs wide calls more others further items too wider grown grown_too rest)
aligned_kept program exposure pairs wide calls more others further _ _ wider grown grown_too (other_idles item items too
    idle rest) =
    other_idles item items too (idle_more program exposure others further item grown_too idle)
    (aligned_kept program exposure pairs wide calls more others further items too wider grown grown_too rest)
aligned_kept program exposure pairs wide calls more others further _ _ wider grown grown_too (alike first second items
    too same rest) =
    alike first second items too (alike_more program exposure pairs wide calls more first second wider grown same)
    (aligned_kept program exposure pairs wide calls more others further items too wider grown grown_too rest)

pub aligned_more : (program : Program) (exposure : Exposure) (pairs : Pairs) (calls more others further : List Call)
    (items too : List Item) → AreMore exposure calls more → AreMore exposure others further →
    AreAligned program exposure pairs calls others items too →
    AreAligned program exposure pairs more further items too
aligned_more program exposure pairs calls more others further items too grown grown_too rest =
    aligned_kept program exposure pairs pairs calls more others further items too (λ i j pair. pair)
    (kept_of exposure calls more grown) (kept_of exposure others further grown_too) rest

-- idle items in front on either side
pub idles_before : (program : Program) (exposure : Exposure) (pairs : Pairs) (calls others : List Call)
    (made items too : List Item) → AllByRecursion (ItemIsIdle program exposure calls) made →
    AreAligned program exposure pairs calls others items too →
    AreAligned program exposure pairs calls others (made ++ items) too
idles_before program exposure pairs calls others [] items too all rest = rest
idles_before program exposure pairs calls others (item ∷ made) items too all rest =
    idles item (made ++ items) too all.0
    (idles_before program exposure pairs calls others made items too all.1 rest)

pub others_before : (program : Program) (exposure : Exposure) (pairs : Pairs) (calls others : List Call)
    (made items too : List Item) → AllByRecursion (ItemIsIdle program exposure others) made →
    AreAligned program exposure pairs calls others items too →
    AreAligned program exposure pairs calls others items (made ++ too)
others_before program exposure pairs calls others [] items too all rest = rest
others_before program exposure pairs calls others (item ∷ made) items too all rest =
    other_idles item items (made ++ too) all.0
    (others_before program exposure pairs calls others made items too all.1 rest)

pub mates_more : (exposure : Exposure) (pairs wide : Pairs) (calls more others further : List Call) (i j : ℕ) →
    ArePairsKept pairs wide → AreMore exposure calls more → AreMore exposure others further →
    AreMates exposure pairs calls others i j → AreMates exposure wide more further i j
mates_more exposure pairs wide calls more others further i j wider grown grown_too mates =
    let one = grown i mates.first mates.first_there in
    let two = grown_too j mates.second mates.second_there in
    record {
      first = one.now;
      first_there = one.there;
      second = two.now;
      second_there = two.there;
      alike = record {
        method = one.method ∙ mates.alike.method ∙ sym two.method;
        callers = subst (λ n. IsPair wide one.now.caller n) (sym two.caller)
            (subst (λ n. IsPair wide n mates.second.caller) (sym one.caller)
            (wider mates.first.caller mates.second.caller mates.alike.callers));
        values = λ x clean. one.values x clean ∙ mates.alike.values x clean ∙ sym (two.values x clean);
      };
    }
