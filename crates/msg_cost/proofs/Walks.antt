-- Walks of blocks, a statement at a time.
use Rattle.std.proofs.Common.{◌≡◌, ◌∙◌, ℕ, ◌+◌, ◌-◌, ◌^◌, min, List, [], ◌∷◌, ◌++◌, refl, ap, sym, subst, eq-eqb}
use Rattle.std.proofs.Common.{append-nil, append_assoc}
use Rattle.js_base.specs.declared.ids.HostId.{HostId}
use Rattle.std.specs.Prelude.{Option}
use Rattle.js_base.specs.declared.ids.StmtId.{StmtId}
use Rattle.js_base.specs.declared.ids.VarId.{VarId}
use Rattle.jif_tree.specs.declared.program.Stmt.{Stmt}
use Rattle.jif_tree.specs.declared.program.StmtKind.{StmtKind}
use Rattle.jif_tree.specs.declared.program.StmtKind as kind
use Rattle.jif_tree.specs.Trees.{Heading, BlockTree, done, branch, loop, statement_tree, block_tree, ExprTree}
use Rattle.jif_tree.specs.Trees.{tree_before, head_of}
use Rattle.need_labels.specs.Plan.{statement_host}
use Rattle.msg_cost.specs.declared.spot.Spot.{Spot}
use Rattle.msg_cost.specs.Cost.{cost_of}
use Rattle.msg_cost.specs.Moves.{PlannedShape, on, next_spot, straight_to, carried_to, own_statements}
use Rattle.msg_cost.specs.Moves.{block_end}
use Rattle.msg_cost.specs.Terms.{Term, message, inside, move_terms, expr_terms, given_terms, block_terms}
use Rattle.msg_cost.specs.Terms.{own_terms}
use Rattle.msg_cost.specs.PieceViews.{gives}
use Rattle.msg_cost.specs.Views.{capped, ids_of}
use Rattle.msg_cost.proofs.Statements.{own_first, own_ids}
use Rattle.msg_cost.proofs.Spots.{next_host}
use Rattle.msg_cost.specs.Walks.{CostsWith}
use Rattle.msg_cost.proofs.Sums.{with_less, sum_of_two}

-- a statement runs where it stands, and nothing comes of going from a spot to itself
pub stays : (planned : PlannedShape) (id : StmtId) (others : List StmtId) →
    next_spot planned (on (statement_host planned.plan id)) id others ≡ on (statement_host planned.plan id)
stays planned id others =
    let host = statement_host planned.plan id in
    rw (eq-eqb host.0 host.0 refl) refl

pub unmoved : (weight : ℕ) (host : HostId) → move_terms weight (on host) (on host) ≡ []
unmoved weight host = rw (eq-eqb host.0 host.0 refl) refl

alone : (planned : PlannedShape) (weight : ℕ) (spot : Spot) (heading : Heading) (rest : BlockTree)
    (own : List Term) →
    move_terms weight spot (next_spot planned spot heading.id (own_statements rest)) ++ own
    ++ block_terms planned weight (next_spot planned spot heading.id (own_statements rest)) rest
    ≡ move_terms weight spot (next_spot planned spot heading.id (own_statements rest)) ++ (own ++ [])
    ++ block_terms planned weight (next_spot planned spot heading.id (own_statements rest)) rest
alone planned weight spot heading rest own =
    let next = next_spot planned spot heading.id (own_statements rest) in
    ap (λ terms. move_terms weight spot next ++ terms ++ block_terms planned weight next rest) (sym (append-nil own))

-- a statement first, with what it gives, and then those behind it
statement_first : (planned : PlannedShape) (weight : ℕ) (spot : Spot) (what : StmtKind) (heading : Heading)
    (rest : BlockTree) →
    block_terms planned weight spot (statement_tree what heading rest)
    ≡ move_terms weight spot (next_spot planned spot heading.id (own_statements rest))
    ++ (own_terms planned weight (statement_tree what heading done)
    ++ given_terms planned weight (statement_host planned.plan heading.id) (gives what)
    (carried_to planned (next_spot planned spot heading.id (own_statements rest)) (own_statements rest)))
    ++ block_terms planned weight (next_spot planned spot heading.id (own_statements rest)) rest
statement_first planned weight spot (kind.Let x value) heading rest = refl
statement_first planned weight spot (kind.SetField field value) heading rest =
    alone planned weight spot heading rest _
statement_first planned weight spot (kind.SetElement field index value) heading rest =
    alone planned weight spot heading rest _
statement_first planned weight spot (kind.If' guard m first n second) heading rest =
    alone planned weight spot heading rest _
statement_first planned weight spot (kind.While' guard m body) heading rest =
    alone planned weight spot heading rest _
statement_first planned weight spot (kind.Call site method args into) heading rest = refl
statement_first planned weight spot (kind.Return value) heading rest =
    alone planned weight spot heading rest _

-- what is left of a block from a spot on, with what the statement before gives
abbrev pub pending_terms : PlannedShape → ℕ → Spot → Option VarId → BlockTree → List Term
pending_terms planned weight spot left block =
    given_terms planned weight spot.host left (carried_to planned spot (own_statements block))
    ++ block_terms planned weight spot block

-- the walk goes over the first of the statements that are left
pub one_walked : (planned : PlannedShape) (weight : ℕ) (spot next : Spot) (left : Option VarId) (all : List Term)
    (total gave moved own : ℕ) (statement : Stmt) (others : List Stmt) →
    next ≡ next_spot planned spot statement.id (ids_of others) →
    gave ≡ capped (cost_of planned.hosts (given_terms planned weight spot.host left (straight_to spot next))) →
    moved ≡ capped (cost_of planned.hosts (move_terms weight spot next)) →
    own ≡ capped (cost_of planned.hosts (own_terms planned weight (tree_before statement done))) →
    CostsWith planned.hosts all total (pending_terms planned weight spot left (block_tree (statement ∷ others))) →
    CostsWith planned.hosts all
    (min (min (min (total + gave) (2 ^ 64 - 1) + moved) (2 ^ 64 - 1) + own) (2 ^ 64 - 1))
    (pending_terms planned weight next (gives statement.kind) (block_tree others))
one_walked planned weight spot next left all total gave moved own statement others next_is gave_is moved_is own_is so =
    let head : Heading = head_of statement in
    let host = statement_host planned.plan statement.id in
    let tree = block_tree others in
    let one = own_terms planned weight (tree_before statement done) in
    let Left : List Term → Type 0 = λ terms. CostsWith planned.hosts all total terms in
    let given_at : Spot → List Term = λ at.
    given_terms planned weight spot.host left (straight_to spot at) in
    let behind : HostId → Spot → List Term = λ from at.
    given_terms planned weight from (gives statement.kind) (carried_to planned at (own_statements tree)) in
    let after = next_spot planned spot statement.id (own_statements tree) in
    let first : pending_terms planned weight spot left (block_tree (statement ∷ others))
    ≡ given_at after ++ (move_terms weight spot after ++ (one ++ behind host after)
    ++ block_terms planned weight after tree) =
    ap (λ (ids : List StmtId). given_terms planned weight spot.host left (carried_to planned spot ids)
    ++ block_terms planned weight spot (block_tree (statement ∷ others))) (own_first statement.kind head tree)
    ∙ ap (λ (terms : List Term). given_at after ++ terms)
    (statement_first planned weight spot statement.kind head tree) in
    let split : Left (given_at after ++ (move_terms weight spot after
    ++ (one ++ (behind host after ++ block_terms planned weight after tree)))) =
    subst Left (first ∙ ap (λ (terms : List Term). given_at after ++ terms)
    (append_assoc (move_terms weight spot after) (one ++ behind host after) (block_terms planned weight after tree)
    ∙ ap (λ (terms : List Term). move_terms weight spot after ++ terms)
    (append_assoc one (behind host after) (block_terms planned weight after tree)))) so in
    let Q : HostId → Spot → Type 0 = λ from at. Left (given_at at ++ (move_terms weight spot at
    ++ (one ++ (behind from at ++ block_terms planned weight at tree)))) in
    let R : List StmtId → Type 0 = λ ids. Q host (next_spot planned spot statement.id ids) in
    let there : Q host next = subst (Q host) (sym next_is) (subst R (own_ids others) split) in
    let stands : host ≡ next.host =
    sym (ap (λ (at : Spot). at.host) next_is ∙ next_host planned spot statement.id (ids_of others)) in
    let here : Q next.host next = subst (λ (from : HostId). Q from next) stands there in
    let rest = behind next.host next ++ block_terms planned weight next tree in
    with_less planned.hosts all one rest _ own
    (with_less planned.hosts all (move_terms weight spot next) (one ++ rest) _ moved
    (with_less planned.hosts all (given_at next) (move_terms weight spot next ++ (one ++ rest)) total gave here gave_is)
    moved_is) own_is

-- ---- nested blocks

pub branch_alone : (planned : PlannedShape) (weight : ℕ) (heading : Heading) (guard : ExprTree)
    (first second : BlockTree) (read one two : ℕ) →
    let host = statement_host planned.plan heading.id in
    read ≡ capped (cost_of planned.hosts (expr_terms planned weight host guard)) →
    one ≡ capped (cost_of planned.hosts
    (block_terms planned weight (on host) first ++ message weight (block_end planned host first) host ∷ [])) →
    two ≡ capped (cost_of planned.hosts
    (block_terms planned weight (on host) second ++ message weight (block_end planned host second) host ∷ [])) →
    min (min (read + one) (2 ^ 64 - 1) + two) (2 ^ 64 - 1)
    ≡ capped (cost_of planned.hosts (own_terms planned weight (branch heading guard first second done)))
branch_alone planned weight heading guard first second read one two read_is one_is two_is =
    let host = statement_host planned.plan heading.id in
    let guard_terms = expr_terms planned weight host guard in
    let first_terms = block_terms planned weight (on host) first
    ++ message weight (block_end planned host first) host ∷ [] in
    let second_terms = block_terms planned weight (on host) second
    ++ message weight (block_end planned host second) host ∷ [] in
    sum_of_two planned.hosts (guard_terms ++ first_terms) second_terms (min (read + one) (2 ^ 64 - 1)) two
    (sum_of_two planned.hosts guard_terms first_terms read one read_is one_is) two_is

pub loop_alone : (planned : PlannedShape) (weight : ℕ) (heading : Heading) (guard : ExprTree) (body : BlockTree)
    (read one : ℕ) →
    let host = statement_host planned.plan heading.id in
    read ≡ capped (cost_of planned.hosts (expr_terms planned (inside weight) host guard)) →
    one ≡ capped (cost_of planned.hosts
    (block_terms planned (inside weight) (on host) body
    ++ message (inside weight) (block_end planned host body) host ∷ [])) →
    min (read + one) (2 ^ 64 - 1)
    ≡ capped (cost_of planned.hosts (own_terms planned weight (loop heading guard body done)))
loop_alone planned weight heading guard body read one read_is one_is =
    let host = statement_host planned.plan heading.id in
    let guard_terms = expr_terms planned (inside weight) host guard in
    let body_terms = block_terms planned (inside weight) (on host) body
    ++ message (inside weight) (block_end planned host body) host ∷ [] in
    sum_of_two planned.hosts guard_terms body_terms read one read_is one_is
