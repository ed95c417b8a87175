-- Traces that go on.
use Rattle.std.proofs.Common.{◌≡◌, List, [], ◌∷◌, ◌++◌, refl}
use Rattle.split_rules.specs.Emissions.{Emission, Counts, counts_with, counts_after}
use Rattle.control_split.specs.Trace.{TraceShape, traced, traced_one}

-- more emissions, and then more
pub traced_append : (trace : TraceShape) (first second : List Emission) →
    traced trace (first ++ second) ≡ traced (traced trace first) second
traced_append trace [] second = refl
traced_append trace (emission ∷ others) second = traced_append (traced_one trace emission) others second

pub traced_counts : (trace : TraceShape) (emissions : List Emission) →
    (traced trace emissions).counts ≡ counts_after trace.counts emissions
traced_counts trace [] = refl
traced_counts trace (emission ∷ others) = traced_counts (traced_one trace emission) others

pub counts_append : (counts : Counts) (first second : List Emission) →
    counts_after counts (first ++ second) ≡ counts_after (counts_after counts first) second
counts_append counts [] second = refl
counts_append counts (emission ∷ others) second = counts_append (counts_with counts emission) others second
