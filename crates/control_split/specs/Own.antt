-- What a statement gives by itself, on a host that holds the token already, without the statements behind it.
use Rattle.std.specs.Prelude.{List, [], ◌∷◌, ◌++◌, Option}
use Rattle.js_base.specs.declared.ids.HostId.{HostId}
use Rattle.js_base.specs.declared.ids.StmtId.{StmtId}
use Rattle.jif_tree.specs.Trees.{ExprTree, BlockTree, done, set_local, set_field, set_element, branch, loop, call}
use Rattle.jif_tree.specs.Trees.{give_back}
use Rattle.jif_tree.specs.LabelRules.{guarded}
use Rattle.host_code.specs.declared.instruction.Op.TheVariants as op
use Rattle.need_labels.specs.Labelled.{all_labels}
use Rattle.split_rules.specs.Emissions.{Emission, entry, stands, lands, Counts, counts_after}
use Rattle.split_rules.specs.Expressions.{reads_in, nodes_of, first_element, released_by}
use Rattle.split_rules.specs.Walk.{Walked, Around, lane_on, entry_id, need_of, emitted, expr_emissions, send_emissions}
use Rattle.split_rules.specs.Walk.{call_emissions, result_emissions, block_emissions, releasing}

-- inside a branch or a loop
abbrev pub inside_of : Walked → Around → StmtId → ExprTree → Around
inside_of walked around owner guard = record {
  owner = owner;
  pc = guarded walked.setting around.pc (all_labels walked.labelled) guard;
}

abbrev pub branch_front : Walked → Around → Counts → HostId → List StmtId → StmtId → ExprTree → List Emission
branch_front walked around here host left id guard =
    entry (record {
      host = host;
      label = (inside_of walked around id guard).pc;
      need = need_of walked.planned left;
    })
    ∷ emitted host around.pc id (op.Push (entry_id here.entries))
    ∷ expr_emissions host around.pc id 0 guard
    ++ releasing host around.pc id (op.Branch (nodes_of 0 guard) here.branches) (released_by 0 guard) ∷ []

abbrev pub loop_front : Walked → Around → Counts → HostId → List StmtId → StmtId → ExprTree → List Emission
loop_front walked around here host left id guard =
    let inside = inside_of walked around id guard in
    entry (record {
      host = host;
      label = inside.pc;
      need = need_of walked.planned (id ∷ left);
    })
    ∷ stands host here.entries
    ∷ expr_emissions host inside.pc id 0 guard
    ++ releasing host inside.pc id (op.Branch (nodes_of 0 guard) here.branches) (released_by 0 guard)
    ∷ emitted host inside.pc id (op.Push (entry_id here.entries)) ∷ []

-- The statements behind it that run under the same token are given by their numbers, and what it gives is carried to a
-- host or to none.
abbrev pub own_emissions : Walked → Around → Counts → HostId → List StmtId → Option HostId → BlockTree → List Emission
own_emissions walked around here host left carried done = []
own_emissions walked around here host left carried (set_local heading x value rest) =
    expr_emissions host around.pc heading.id 0 value
    ++ releasing host around.pc heading.id (op.Let x (nodes_of 0 value)) (released_by 0 value)
    ∷ send_emissions walked.planned host around.pc heading.id x carried
own_emissions walked around here host left carried (set_field heading field value rest) =
    expr_emissions host around.pc heading.id 0 value
    ++ releasing host around.pc heading.id (op.Put field first_element (nodes_of 0 value)) (released_by 0 value) ∷ []
own_emissions walked around here host left carried (set_element heading field index value rest) =
    expr_emissions host around.pc heading.id 0 index
    ++ expr_emissions host around.pc heading.id (reads_in index) value
    ++ releasing host around.pc heading.id (op.Put field (nodes_of 0 index) (nodes_of (reads_in index) value))
    (released_by 0 index ++ released_by (reads_in index) value) ∷ []
own_emissions walked around here host left carried (branch heading guard first second rest) =
    let inside = inside_of walked around heading.id guard in
    let front = branch_front walked around here host left heading.id guard in
    let one = block_emissions walked inside (counts_after here front) (lane_on host) first in
    let between = lands host here.branches ∷ [] in
    let two = block_emissions walked inside (counts_after here (front ++ one ++ between)) (lane_on host) second in
    front ++ one ++ between ++ two ++ stands host here.entries ∷ []
own_emissions walked around here host left carried (loop heading guard body rest) =
    let inside = inside_of walked around heading.id guard in
    let front = loop_front walked around here host left heading.id guard in
    front ++ block_emissions walked inside (counts_after here front) (lane_on host) body
    ++ lands host here.branches ∷ []
own_emissions walked around here host left carried (call heading site method arguments into rest) =
    call_emissions walked here host around.pc heading.id site method arguments into carried left
own_emissions walked around here host left carried (give_back heading value rest) =
    expr_emissions host around.pc heading.id 0 value ++ result_emissions walked host around.pc heading.id value
