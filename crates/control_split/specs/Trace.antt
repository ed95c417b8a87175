-- What a walk has given so far, as contracts see it: labels by their places, and items that name them so.
use Rattle.std.specs.Prelude.{◌≡◌, ℕ, ◌+◌, ◌<◌, Bool, ◌&&◌, nat_lt, List, [], ◌∷◌, ◌++◌, length, slice_index_or}
use Rattle.js_base.specs.declared.ids.HostId.{HostId}
use Rattle.js_base.specs.declared.ids.StmtId.{StmtId}
use Rattle.js_base.specs.declared.ids.VarId.{VarId}
use Rattle.label_lattice.specs.declared.label.Label.{Label}
use Rattle.label_lattice.specs.Lattice.{empty_label}
use Rattle.control_split.specs.declared.needs.Ahead.{Ahead}
use Rattle.control_split.specs.declared.trace.TraceItem.{TraceItem}
use Rattle.control_split.specs.declared.trace.TraceItem.TheVariants as item
use Rattle.split_rules.specs.Emissions.{Emission, instruction, entry, stands, lands, Counts, counts_with}
use Rattle.split_rules.specs.SplitCode.{same_label, with_labels, label_place, label_of_emission}
use Rattle.split_rules.specs.Walk.{emitted, entry_id, push_or_ask, go_with}

pub record TraceShape : Type 0 where
  pub labels : List Label
  pub items : List TraceItem
  pub counts : Counts

abbrev pub no_counts : Counts
no_counts = record { entries = 0; branches = 0 }

abbrev pub first_trace : TraceShape
first_trace = record { labels = []; items = []; counts = no_counts }

abbrev pub with_item : TraceShape → TraceItem → TraceShape
with_item trace one = record trace { items = trace.items ++ one ∷ [] }

-- an emission with the places of its labels among these
abbrev pub item_of : List Label → Emission → TraceItem
item_of labels (instruction one) = item.Instruction one.host (record {
  label = label_place 0 one.label labels;
  statement = one.statement;
  op = one.op;
})
item_of labels (entry named) = item.Entry named.host (label_place 0 named.label labels) named.need
item_of labels (stands host number) = item.Stands host number
item_of labels (lands host number) = item.Lands host number

-- with one more emission
abbrev pub traced_one : TraceShape → Emission → TraceShape
traced_one trace emission =
    let labels = with_labels trace.labels (label_of_emission emission) in
    record {
      labels = labels;
      items = trace.items ++ item_of labels emission ∷ [];
      counts = counts_with trace.counts emission;
    }

-- with more emissions
abbrev pub traced : TraceShape → List Emission → TraceShape
traced trace [] = trace
traced trace (emission ∷ others) = traced (traced_one trace emission) others

-- whether the label is at this place
abbrev pub is_at : List Label → ℕ → Label → Bool
is_at labels place label =
    nat_lt place (length labels) && same_label label (slice_index_or labels place empty_label)

-- the label at this place, where there is one, is at no earlier one
abbrev pub IsNamedLast : List Label → ℕ → Type 0
IsNamedLast labels place =
    place < length labels → label_place 0 (slice_index_or labels place empty_label) labels ≡ place

-- The token is lent from a host to another, and given back to a third: the entry of the third, that of the segment, and
-- where the segment stands. The values of some variables ride.
abbrev pub lent : StmtId → Label → Counts → HostId → List VarId → HostId → HostId → Ahead → List Emission
lent owner pc counts from riders host back ahead =
    entry (record { host = back; label = pc; need = ahead.behind })
    ∷ entry (record { host = host; label = pc; need = ahead.row })
    ∷ emitted from pc owner (push_or_ask from back counts.entries)
    ∷ emitted from pc owner (go_with riders (entry_id (counts.entries + 1)) host)
    ∷ stands host (counts.entries + 1) ∷ []
