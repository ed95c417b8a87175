-- The cost of a program is that of its pieces.
use Rattle.std.proofs.Common.{◌≡◌, ◌∙◌, ℕ, suc, ◌+◌, Bool, true, false, List, [], ◌∷◌, ◌++◌, drop, length, refl, ap}
use Rattle.std.proofs.Common.{sym}
use Rattle.std.proofs.Common.{append_assoc, length-append, arith}
use Rattle.std.proofs.lemmas.List.Sums.{sum_by-append}
use Rattle.std.specs.Prelude.{Option, Some, None, if◌then◌else◌}
use Rattle.std.specs.List.{flat_map}
use Rattle.host_decl.specs.Hosts.{HostsShape}
use Rattle.js_base.specs.declared.ids.HostId.{HostId}
use Rattle.js_base.specs.declared.ids.StmtId.{StmtId}
use Rattle.js_base.specs.declared.ids.VarId.{VarId}
use Rattle.js_base.specs.declared.ids.MethodId.{MethodId}
use Rattle.jif_tree.specs.LabelRules.{method_at, params_of}
use Rattle.jif_tree.specs.Trees.{ExprTree, number, local, scalar, element, inverted, negated, binary, declassified}
use Rattle.jif_tree.specs.Trees.{endorsed, BlockTree, done, set_local, set_field, set_element, branch, loop}
use Rattle.jif_tree.specs.Trees.{call, give_back, MethodTree}
use Rattle.need_labels.specs.Plan.{statement_host}
use Rattle.msg_cost.specs.declared.spot.Spot.{Spot}
use Rattle.msg_cost.specs.Cost.{cost_of}
use Rattle.msg_cost.specs.Moves.{PlannedShape, on, next_spot, straight_to, carried_to, own_statements, end_host}
use Rattle.msg_cost.specs.Moves.{block_end, home_of, called_home, called_end}
use Rattle.msg_cost.specs.Terms.{Term, message, exchange, inside, leave_terms, move_terms, expr_terms, forwards}
use Rattle.msg_cost.specs.Terms.{given_terms, argument_terms, call_terms, block_terms, method_terms, program_terms}
use Rattle.msg_cost.specs.Pieces.{Given, given_ids, given_statements, CostPiece, access, giving, passing, calling, walk}
use Rattle.msg_cost.specs.Pieces.{ending, touches, untouched, walk_terms, carried_at, piece_cost, pieces_cost}
use Rattle.msg_cost.specs.Pieces.{expr_pieces, argument_pieces, call_pieces, given_pieces, block_pieces}
use Rattle.msg_cost.specs.Pieces.{method_pieces, program_pieces}
use Rattle.msg_cost.specs.Walks.{spot_behind}
use Rattle.msg_cost.proofs.Spots.{next_host}
use Rattle.msg_cost.proofs.Statements.{given_own}
use Rattle.msg_cost.proofs.Sums.{cost-append}

pub pieces-append : (planned : PlannedShape) (moved : Option StmtId) (first second : List CostPiece) →
    pieces_cost planned moved (first ++ second) ≡ pieces_cost planned moved first + pieces_cost planned moved second
pieces-append planned moved first second = sum_by-append (piece_cost planned moved) first second

pub pieces-cons : (planned : PlannedShape) (moved : Option StmtId) (piece : CostPiece) (others : List CostPiece) →
    pieces_cost planned moved (piece ∷ others) ≡ piece_cost planned moved piece + pieces_cost planned moved others
pieces-cons planned moved piece others = let parts = pieces-append planned moved (piece ∷ []) others in omega arith

-- terms that cost what pieces do
record Same (planned : PlannedShape) (moved : Option StmtId) (terms : List Term) (pieces : List CostPiece) :
    Type 0 where
  pub cost : cost_of planned.hosts terms ≡ pieces_cost planned moved pieces

both : (planned : PlannedShape) (moved : Option StmtId) (terms others : List Term) (pieces more : List CostPiece) →
    Same planned moved terms pieces → Same planned moved others more →
    Same planned moved (terms ++ others) (pieces ++ more)
both planned moved terms others pieces more one two = record {
  cost =
      let all = cost-append planned.hosts terms others in
      let parts = pieces-append planned moved pieces more in
      let first = one.cost in
      let second = two.cost in
      omega arith;
}

one_piece : (planned : PlannedShape) (moved : Option StmtId) (piece : CostPiece) (terms : List Term) →
    cost_of planned.hosts terms ≡ piece_cost planned moved piece → Same planned moved terms (piece ∷ [])
one_piece planned moved piece terms same = record { cost = omega arith }

expr_same : (planned : PlannedShape) (moved : Option StmtId) (weight : ℕ) (id : StmtId) (expr : ExprTree) →
    Same planned moved (expr_terms planned weight (statement_host planned.plan id) expr) (expr_pieces weight id expr)
expr_same planned moved weight id (number value) = record { cost = refl }
expr_same planned moved weight id (local x) = record { cost = refl }
expr_same planned moved weight id (scalar field) = one_piece planned moved (access weight id field) _ refl
expr_same planned moved weight id (element field index) =
    both planned moved _ _ _ _ (expr_same planned moved weight id index)
    (one_piece planned moved (access weight id field) _ refl)
expr_same planned moved weight id (inverted operand) = expr_same planned moved weight id operand
expr_same planned moved weight id (negated operand) = expr_same planned moved weight id operand
expr_same planned moved weight id (binary operator left right) =
    both planned moved _ _ _ _ (expr_same planned moved weight id left) (expr_same planned moved weight id right)
expr_same planned moved weight id (declassified operand label) = expr_same planned moved weight id operand
expr_same planned moved weight id (endorsed operand label) = expr_same planned moved weight id operand

arguments_same : (planned : PlannedShape) (moved : Option StmtId) (weight : ℕ) (id : StmtId) (method : MethodId)
    (params : List VarId) (arguments : List ExprTree) →
    Same planned moved (argument_terms planned weight (statement_host planned.plan id)
    (called_home planned (method_at planned.program method)) params arguments)
    (argument_pieces weight id method params arguments)
arguments_same planned moved weight id method params [] = record { cost = refl }
arguments_same planned moved weight id method [] (argument ∷ others) =
    both planned moved _ _ _ _ (expr_same planned moved weight id argument)
    (arguments_same planned moved weight id method [] others)
arguments_same planned moved weight id method (param ∷ params) (argument ∷ others) =
    both planned moved _ _ _ _
    (both planned moved _ _ _ _ (expr_same planned moved weight id argument)
    (one_piece planned moved (passing weight id method param) _ refl))
    (arguments_same planned moved weight id method params others)

call_same : (planned : PlannedShape) (moved : Option StmtId) (weight : ℕ) (id : StmtId) (method : MethodId)
    (arguments : List ExprTree) (into : Option VarId) →
    Same planned moved
    (call_terms planned weight (statement_host planned.plan id) (method_at planned.program method) arguments into)
    (call_pieces planned.program weight id method arguments into)
call_same planned moved weight id method arguments None =
    let host = statement_host planned.plan id in
    let called = method_at planned.program method in
    let messages : List Term = message weight host (called_home planned called)
    ∷ message weight (called_end planned called) host ∷ [] in
    let given = argument_terms planned weight host (called_home planned called) (params_of called) arguments in
    let given_pieces = argument_pieces weight id method (params_of called) arguments in
    record {
      cost =
          let all = cost-append planned.hosts (given ++ messages) [] in
          let two = cost-append planned.hosts given messages in
          let first = pieces-append planned moved given_pieces (calling weight id method false ∷ []) in
          let one = pieces-cons planned moved (calling weight id method false) [] in
          let here = (arguments_same planned moved weight id method (params_of called) arguments).cost in
          omega arith;
    }
call_same planned moved weight id method arguments (Some x) =
    let host = statement_host planned.plan id in
    let called = method_at planned.program method in
    let messages : List Term = message weight host (called_home planned called)
    ∷ message weight (called_end planned called) host ∷ [] in
    let result : List Term = exchange weight (called_end planned called) host ∷ [] in
    let given = argument_terms planned weight host (called_home planned called) (params_of called) arguments in
    let given_pieces = argument_pieces weight id method (params_of called) arguments in
    record {
      cost =
          let all = cost-append planned.hosts (given ++ messages) result in
          let two = cost-append planned.hosts given messages in
          let four = cost-append planned.hosts messages result in
          let first = pieces-append planned moved given_pieces (calling weight id method true ∷ []) in
          let one = pieces-cons planned moved (calling weight id method true) [] in
          let here = (arguments_same planned moved weight id method (params_of called) arguments).cost in
          omega arith;
    }

-- ---- places of a block

-- these are statements of a block behind a place, at which the walk from its home stands at the spot
record IsAt (planned : PlannedShape) (home : StmtId) (own : List Given) (place : ℕ) (spot : Spot)
    (left : List StmtId) : Type 0 where
  pub before : List StmtId
  pub at : place ≡ length before
  pub list : given_ids own ≡ before ++ left
  pub stands : spot ≡ spot_behind planned (on (statement_host planned.plan home)) (given_ids own) place

behind_next : (planned : PlannedShape) (home : Spot) (before : List StmtId) (statement : StmtId)
    (others : List StmtId) →
    spot_behind planned home (before ++ statement ∷ others) (suc (length before))
    ≡ next_spot planned (spot_behind planned home (before ++ statement ∷ others) (length before)) statement others
behind_next planned home [] statement others = refl
behind_next planned home (first ∷ before) statement others =
    behind_next planned (next_spot planned home first (before ++ statement ∷ others)) before statement others

left_behind : (before : List StmtId) (statement : StmtId) (others : List StmtId) →
    drop (suc (length before)) (before ++ statement ∷ others) ≡ others
left_behind [] statement others = refl
left_behind (first ∷ before) statement others = left_behind before statement others

begins : (planned : PlannedShape) (home : StmtId) (block : BlockTree) →
    IsAt planned home (given_statements block) 0 (on (statement_host planned.plan home)) (own_statements block)
begins planned home block = record { before = []; at = refl; list = sym (given_own block); stands = refl }

goes_on : (planned : PlannedShape) (home : StmtId) (own : List Given) (place : ℕ) (spot : Spot) (id : StmtId)
    (others : List StmtId) → IsAt planned home own place spot (id ∷ others) →
    IsAt planned home own (suc place) (next_spot planned spot id others) others
goes_on planned home own place spot id others is =
    let start = on (statement_host planned.plan home) in
    let long = length-append is.before (id ∷ []) in
    let at = is.at in
    record {
      before = is.before ++ id ∷ [];
      at = omega arith;
      list = is.list ∙ sym (append_assoc is.before (id ∷ []) others);
      stands = sym (ap (λ (count : ℕ). spot_behind planned start (given_ids own) (suc count)) is.at
          ∙ ap (λ (ids : List StmtId). spot_behind planned start ids (suc (length is.before))) is.list
          ∙ behind_next planned start is.before id others
          ∙ ap (λ (ids : List StmtId). next_spot planned (spot_behind planned start ids (length is.before)) id others)
          (sym is.list)
          ∙ ap (λ (count : ℕ). next_spot planned (spot_behind planned start (given_ids own) count) id others)
          (sym is.at)
          ∙ ap (λ (one : Spot). next_spot planned one id others) (sym is.stands));
    }

-- what rides from a place of a block
carried_is : (planned : PlannedShape) (home : StmtId) (own : List Given) (place : ℕ) (spot : Spot) (id : StmtId)
    (others : List StmtId) → IsAt planned home own place spot (id ∷ others) →
    carried_at planned home (given_ids own) place ≡ carried_to planned (next_spot planned spot id others) others
carried_is planned home own place spot id others is =
    let next = goes_on planned home own place spot id others is in
    let left : drop (suc place) (given_ids own) ≡ others =
    ap (λ (count : ℕ). drop (suc count) (given_ids own)) is.at
    ∙ ap (λ (ids : List StmtId). drop (suc (length is.before)) ids) is.list
    ∙ left_behind is.before id others in
    ap (λ (one : Spot). carried_to planned one (drop (suc place) (given_ids own))) (sym next.stands)
    ∙ ap (λ (ids : List StmtId). carried_to planned (next_spot planned spot id others) ids) left

-- ---- what is given

either : (hosts : HostsShape) (test : Bool) (terms : List Term) →
    cost_of hosts terms ≡ cost_of hosts (if test then [] else terms) + cost_of hosts (if test then terms else [])
either hosts true terms = omega arith
either hosts false terms = omega arith

left_out : (planned : PlannedShape) (weight : ℕ) (host : HostId) (x : VarId) (carried : Option HostId) (test : Bool) →
    (if test then [] else forwards planned weight host x carried)
    ≡ given_terms planned weight host (if test then None else Some x) carried
left_out planned weight host x carried true = refl
left_out planned weight host x carried false = refl

-- what a statement gives is counted in the walk or as a piece
given_parts : (planned : PlannedShape) (moved : Option StmtId) (weight : ℕ) (home : StmtId) (own : List Given)
    (place : ℕ) (spot : Spot) (id : StmtId) (gives : Option VarId) (others : List StmtId) →
    IsAt planned home own place spot (id ∷ others) →
    let next = next_spot planned spot id others in
    let given : Given = record { id = id; gives = gives } in
    cost_of planned.hosts
    (given_terms planned weight (statement_host planned.plan id) gives (carried_to planned next others))
    ≡ cost_of planned.hosts (given_terms planned weight next.host (untouched planned.needs moved given)
    (carried_to planned next others))
    + pieces_cost planned moved (given_pieces weight id gives home own place)
given_parts planned moved weight home own place spot id None others is = omega arith
given_parts planned moved weight home own place spot id (Some x) others is =
    let next = next_spot planned spot id others in
    let host = statement_host planned.plan id in
    let test = touches planned.needs moved id x in
    let carried = carried_to planned next others in
    let parts = either planned.hosts test (forwards planned weight host x carried) in
    let walked = ap (cost_of planned.hosts) (left_out planned weight host x carried test) in
    let there = ap (λ (one : HostId).
    cost_of planned.hosts (given_terms planned weight one (if test then None else Some x) carried))
    (next_host planned spot id others) in
    let piece = ap (λ (to : Option HostId).
    cost_of planned.hosts (if test then forwards planned weight host x to else []))
    (carried_is planned home own place spot id others is) in
    let one = pieces-cons planned moved (giving weight id x home own place) [] in
    omega arith

-- ---- blocks

-- The terms of a block are those of the walk over it and its pieces. What the statement before gives is still to be
-- counted.
record Walked (planned : PlannedShape) (moved : Option StmtId) (weight : ℕ) (home : StmtId) (own : List Given)
    (place : ℕ) (spot : Spot) (left : Option VarId) (block : BlockTree) : Type 0 where
  pub cost : cost_of planned.hosts
      (given_terms planned weight spot.host left (carried_to planned spot (own_statements block)))
      + cost_of planned.hosts (block_terms planned weight spot block)
      ≡ cost_of planned.hosts (walk_terms planned moved weight spot left (given_statements block))
      + pieces_cost planned moved (block_pieces planned.program weight home own place block)

-- one statement, with what it gives
step_walked : (planned : PlannedShape) (moved : Option StmtId) (weight : ℕ) (home : StmtId) (own : List Given)
    (place : ℕ) (spot : Spot) (left : Option VarId) (id : StmtId) (gives : Option VarId) (rest : BlockTree)
    (terms : List Term) (pieces : List CostPiece) →
    IsAt planned home own place spot (id ∷ own_statements rest) → Same planned moved terms pieces →
    Walked planned moved weight home own (suc place) (next_spot planned spot id (own_statements rest))
    (untouched planned.needs moved (record { id = id; gives = gives })) rest →
    let next = next_spot planned spot id (own_statements rest) in
    let given : Given = record { id = id; gives = gives } in
    cost_of planned.hosts
    (given_terms planned weight spot.host left (carried_to planned spot (id ∷ own_statements rest)))
    + (cost_of planned.hosts (move_terms weight spot next)
    + (cost_of planned.hosts terms
    + cost_of planned.hosts (given_terms planned weight (statement_host planned.plan id) gives
    (carried_to planned next (own_statements rest))))
    + cost_of planned.hosts (block_terms planned weight next rest))
    ≡ cost_of planned.hosts (walk_terms planned moved weight spot left (given ∷ given_statements rest))
    + (pieces_cost planned moved pieces
    + pieces_cost planned moved (given_pieces weight id gives home own place)
    + pieces_cost planned moved (block_pieces planned.program weight home own (suc place) rest))
step_walked planned moved weight home own place spot left id gives rest terms pieces is same walked =
    let ids = own_statements rest in
    let next = next_spot planned spot id ids in
    let more = untouched planned.needs moved (record { id = id; gives = gives }) in
    let first = given_terms planned weight spot.host left (straight_to spot next) in
    let behind = walk_terms planned moved weight next more (given_statements rest) in
    let walk_is : cost_of planned.hosts
    (walk_terms planned moved weight spot left (record { id = id; gives = gives } ∷ given_statements rest))
    ≡ cost_of planned.hosts ((first ++ move_terms weight spot next) ++ behind) =
    ap (λ (list : List StmtId). cost_of planned.hosts
    ((given_terms planned weight spot.host left (straight_to spot (next_spot planned spot id list))
    ++ move_terms weight spot (next_spot planned spot id list))
    ++ walk_terms planned moved weight (next_spot planned spot id list) more (given_statements rest)))
    (sym (given_own rest)) in
    let all = cost-append planned.hosts (first ++ move_terms weight spot next) behind in
    let two = cost-append planned.hosts first (move_terms weight spot next) in
    let given = given_parts planned moved weight home own place spot id gives ids is in
    let here = same.cost in
    let rest_is = walked.cost in
    omega arith

-- one statement that gives nothing
plain : (planned : PlannedShape) (moved : Option StmtId) (weight : ℕ) (home : StmtId) (own : List Given) (place : ℕ)
    (spot : Spot) (left : Option VarId) (id : StmtId) (rest : BlockTree) →
    IsAt planned home own place spot (id ∷ own_statements rest) → (terms : List Term) (pieces : List CostPiece) →
    Same planned moved terms pieces →
    Walked planned moved weight home own (suc place) (next_spot planned spot id (own_statements rest)) None rest →
    cost_of planned.hosts
    (given_terms planned weight spot.host left (carried_to planned spot (id ∷ own_statements rest)))
    + cost_of planned.hosts (move_terms weight spot (next_spot planned spot id (own_statements rest)) ++ terms
    ++ block_terms planned weight (next_spot planned spot id (own_statements rest)) rest)
    ≡ cost_of planned.hosts
    (walk_terms planned moved weight spot left (record { id = id; gives = None } ∷ given_statements rest))
    + pieces_cost planned moved (pieces ++ block_pieces planned.program weight home own (suc place) rest)
plain planned moved weight home own place spot left id rest is terms pieces same walked =
    let next = next_spot planned spot id (own_statements rest) in
    let all = cost-append planned.hosts (move_terms weight spot next ++ terms)
    (block_terms planned weight next rest) in
    let first = cost-append planned.hosts (move_terms weight spot next) terms in
    let parts = pieces-append planned moved pieces
    (block_pieces planned.program weight home own (suc place) rest) in
    let step = step_walked planned moved weight home own place spot left id None rest terms pieces is same walked in
    omega arith

nested_same : (planned : PlannedShape) (moved : Option StmtId) (weight : ℕ) (id : StmtId) (block : BlockTree) →
    Walked planned moved weight id (given_statements block) 0 (on (statement_host planned.plan id)) None block →
    Same planned moved
    (block_terms planned weight (on (statement_host planned.plan id)) block
    ++ message weight (block_end planned (statement_host planned.plan id) block) (statement_host planned.plan id) ∷ [])
    (walk weight id true (given_statements block)
    ∷ block_pieces planned.program weight id (given_statements block) 0 block)
nested_same planned moved weight id block walked = record {
  cost =
      let host = statement_host planned.plan id in
      let own = given_statements block in
      let back : List StmtId → List Term = λ ids. message weight (end_host planned (on host) ids) host ∷ [] in
      let back_is = ap (λ (ids : List StmtId). cost_of planned.hosts (back ids)) (given_own block) in
      let first = cost-append planned.hosts (block_terms planned weight (on host) block)
      (back (own_statements block)) in
      let second = cost-append planned.hosts (walk_terms planned moved weight (on host) None own)
      (back (given_ids own)) in
      let parts = pieces-cons planned moved (walk weight id true own)
      (block_pieces planned.program weight id own 0 block) in
      let here = walked.cost in
      omega arith;
}

block_walked : (planned : PlannedShape) (moved : Option StmtId) (weight : ℕ) (home : StmtId) (own : List Given)
    (place : ℕ) (spot : Spot) (left : Option VarId) (block : BlockTree) →
    IsAt planned home own place spot (own_statements block) →
    Walked planned moved weight home own place spot left block
block_walked planned moved weight home own place spot left done is = record {
  cost =
      let parts = cost-append planned.hosts (given_terms planned weight spot.host left None)
      (leave_terms weight spot) in
      omega arith;
}
block_walked planned moved weight home own place spot left (set_local heading x value rest) is =
    let host = statement_host planned.plan heading.id in
    let ids = own_statements rest in
    let next = next_spot planned spot heading.id ids in
    let reads = expr_terms planned weight host value in
    let sent = forwards planned weight host x (carried_to planned next ids) in
    let pieces = expr_pieces weight heading.id value in
    let gives = giving weight heading.id x home own place in
    let behind = block_pieces planned.program weight home own (suc place) rest in
    record {
      cost =
          let all = cost-append planned.hosts (move_terms weight spot next ++ (reads ++ sent))
          (block_terms planned weight next rest) in
          let first = cost-append planned.hosts (move_terms weight spot next) (reads ++ sent) in
          let two = cost-append planned.hosts reads sent in
          let parts = pieces-append planned moved (pieces ++ gives ∷ []) behind in
          let more = pieces-append planned moved pieces (gives ∷ []) in
          let step = step_walked planned moved weight home own place spot left heading.id (Some x) rest _ _ is
          (expr_same planned moved weight heading.id value)
          (block_walked planned moved weight home own (suc place) next
          (untouched planned.needs moved (record { id = heading.id; gives = Some x })) rest
          (goes_on planned home own place spot heading.id ids is)) in
          omega arith;
    }
block_walked planned moved weight home own place spot left (set_field heading field value rest) is =
    record {
      cost = plain planned moved weight home own place spot left heading.id rest is _ _
          (both planned moved _ _ _ _ (expr_same planned moved weight heading.id value)
          (one_piece planned moved (access weight heading.id field) _ refl))
          (block_walked planned moved weight home own (suc place)
          (next_spot planned spot heading.id (own_statements rest)) None rest
          (goes_on planned home own place spot heading.id (own_statements rest) is));
    }
block_walked planned moved weight home own place spot left (set_element heading field index value rest) is =
    record {
      cost = plain planned moved weight home own place spot left heading.id rest is _ _
          (both planned moved _ _ _ _
          (both planned moved _ _ _ _ (expr_same planned moved weight heading.id index)
          (expr_same planned moved weight heading.id value))
          (one_piece planned moved (access weight heading.id field) _ refl))
          (block_walked planned moved weight home own (suc place)
          (next_spot planned spot heading.id (own_statements rest)) None rest
          (goes_on planned home own place spot heading.id (own_statements rest) is));
    }
block_walked planned moved weight home own place spot left (branch heading guard first second rest) is =
    let host = statement_host planned.plan heading.id in
    record {
      cost = plain planned moved weight home own place spot left heading.id rest is _ _
          (both planned moved _ _ _ _
          (both planned moved _ _ _ _ (expr_same planned moved weight heading.id guard)
          (nested_same planned moved weight heading.id first
          (block_walked planned moved weight heading.id (given_statements first) 0 (on host) None first
          (begins planned heading.id first))))
          (nested_same planned moved weight heading.id second
          (block_walked planned moved weight heading.id (given_statements second) 0 (on host) None second
          (begins planned heading.id second))))
          (block_walked planned moved weight home own (suc place)
          (next_spot planned spot heading.id (own_statements rest)) None rest
          (goes_on planned home own place spot heading.id (own_statements rest) is));
    }
block_walked planned moved weight home own place spot left (loop heading guard body rest) is =
    let host = statement_host planned.plan heading.id in
    record {
      cost = plain planned moved weight home own place spot left heading.id rest is _ _
          (both planned moved _ _ _ _ (expr_same planned moved (inside weight) heading.id guard)
          (nested_same planned moved (inside weight) heading.id body
          (block_walked planned moved (inside weight) heading.id (given_statements body) 0 (on host) None body
          (begins planned heading.id body))))
          (block_walked planned moved weight home own (suc place)
          (next_spot planned spot heading.id (own_statements rest)) None rest
          (goes_on planned home own place spot heading.id (own_statements rest) is));
    }
block_walked planned moved weight home own place spot left (call heading site method arguments into rest) is =
    let host = statement_host planned.plan heading.id in
    let ids = own_statements rest in
    let next = next_spot planned spot heading.id ids in
    let calls = call_terms planned weight host (method_at planned.program method) arguments into in
    let sent = given_terms planned weight host into (carried_to planned next ids) in
    let pieces = call_pieces planned.program weight heading.id method arguments into in
    let gives = given_pieces weight heading.id into home own place in
    let behind = block_pieces planned.program weight home own (suc place) rest in
    record {
      cost =
          let all = cost-append planned.hosts (move_terms weight spot next ++ (calls ++ sent))
          (block_terms planned weight next rest) in
          let first = cost-append planned.hosts (move_terms weight spot next) (calls ++ sent) in
          let two = cost-append planned.hosts calls sent in
          let parts = pieces-append planned moved (pieces ++ gives) behind in
          let more = pieces-append planned moved pieces gives in
          let step = step_walked planned moved weight home own place spot left heading.id into rest _ _ is
          (call_same planned moved weight heading.id method arguments into)
          (block_walked planned moved weight home own (suc place) next
          (untouched planned.needs moved (record { id = heading.id; gives = into })) rest
          (goes_on planned home own place spot heading.id ids is)) in
          omega arith;
    }
block_walked planned moved weight home own place spot left (give_back heading value rest) is =
    record {
      cost = plain planned moved weight home own place spot left heading.id rest is _ _
          (expr_same planned moved weight heading.id value)
          (block_walked planned moved weight home own (suc place)
          (next_spot planned spot heading.id (own_statements rest)) None rest
          (goes_on planned home own place spot heading.id (own_statements rest) is));
    }

-- ---- programs

method_same : (planned : PlannedShape) (moved : Option StmtId) (method : MethodTree) →
    Same planned moved (method_terms planned method) (method_pieces planned.program method)
method_same planned moved method = record {
  cost =
      let host = home_of planned method in
      let own = given_statements method.body in
      let walked = (block_walked planned moved 1 method.head own 0 (on host) None method.body
      (begins planned method.head method.body)).cost in
      let none = cost-append planned.hosts (walk_terms planned moved 1 (on host) None own) [] in
      let parts = pieces-cons planned moved (walk 1 method.head false own)
      (block_pieces planned.program 1 method.head own 0 method.body) in
      omega arith;
}

methods_same : (planned : PlannedShape) (moved : Option StmtId) (methods : List MethodTree) →
    Same planned moved (flat_map (method_terms planned) methods) (flat_map (method_pieces planned.program) methods)
methods_same planned moved [] = record { cost = refl }
methods_same planned moved (method ∷ methods) =
    both planned moved _ _ _ _ (method_same planned moved method) (methods_same planned moved methods)

pub by_pieces : (planned : PlannedShape) (moved : Option StmtId) →
    cost_of planned.hosts (program_terms planned) ≡ pieces_cost planned moved (program_pieces planned.program)
by_pieces planned moved =
    (both planned moved _ _ _ _ (methods_same planned moved planned.program.methods)
    (one_piece planned moved (ending planned.program.main) _ refl)).cost
