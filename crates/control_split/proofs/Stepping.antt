-- Walks of blocks, a statement at a time.
use Rattle.std.proofs.Common.{◌≡◌, ◌∙◌, Bool, true, false, List, ◌∷◌, ◌++◌, refl, ap, sym, subst}
use Rattle.js_base.specs.declared.ids.HostId.{HostId}
use Rattle.js_base.specs.declared.ids.StmtId.{StmtId}
use Rattle.jif_tree.specs.declared.program.Stmt.{Stmt}
use Rattle.jif_tree.specs.declared.program.StmtKind.{StmtKind}
use Rattle.jif_tree.specs.declared.program.StmtKind as kind
use Rattle.jif_tree.specs.Trees.{Heading, BlockTree, done, statement_tree, block_tree, tree_before, head_of}
use Rattle.msg_cost.proofs.Spots.{next_host, next_stays}
use Rattle.msg_cost.proofs.Statements.{own_ids}
use Rattle.msg_cost.specs.declared.spot.Spot.{Spot}
use Rattle.msg_cost.specs.Moves.{PlannedShape, is_same, next_spot, carried_to, own_statements}
use Rattle.msg_cost.specs.PieceViews.{gives}
use Rattle.msg_cost.specs.Views.{ids_of}
use Rattle.split_rules.specs.Emissions.{Emission, Counts, counts_after}
use Rattle.split_rules.specs.Walk.{Walked, Around, Lane, lane_at, lane_behind, under_token, move_emissions}
use Rattle.split_rules.specs.Walk.{block_emissions}
use Rattle.control_split.specs.Own.{own_emissions}
use Rattle.control_split.specs.Trace.{TraceShape, traced}
use Rattle.control_split.proofs.Traces.{traced_append, traced_counts, counts_append}

-- a lane that moves to the spot of a statement is at that spot
pub lane_spot : (planned : PlannedShape) (counts : Counts) (lane : Lane) (statement : StmtId) (others : List StmtId) →
    let next = next_spot planned lane.spot statement others in
    (lane_at counts lane next).spot ≡ next
lane_spot planned counts lane statement others = by (is_same lane.spot.host next.host) refl
  where
    next : Spot
    next = next_spot planned lane.spot statement others

    P : HostId → Type 0
    P one = is_same lane.spot.host one ≡ true

    by : (b : Bool) → is_same lane.spot.host next.host ≡ b → (lane_at counts lane next).spot ≡ next
    by true is =
        rw is (sym (next_stays planned lane.spot statement others
        (subst P (next_host planned lane.spot statement others) is)))
    by false is = rw is refl

-- what comes of a statement and those behind it, where it is known where it runs and what is behind it
abbrev one_by_one : Walked → Around → Counts → Lane → Spot → List StmtId → StmtKind → Heading → BlockTree →
    List Emission
one_by_one walked around counts lane next others what heading rest =
    let moved = move_emissions walked around counts lane next (heading.id ∷ others) in
    let here = counts_after counts moved in
    let own = own_emissions walked around here next.host (under_token walked.planned next others)
    (carried_to walked.planned next others) (statement_tree what heading done) in
    moved ++ own
    ++ block_emissions walked around (counts_after here own) (lane_behind walked counts lane next (gives what) others)
    rest

counted : (walked : Walked) (around : Around) (counts : Counts) (moved own : List Emission) (lane : Lane)
    (rest : BlockTree) →
    moved ++ own ++ block_emissions walked around (counts_after counts (moved ++ own)) lane rest
    ≡ moved ++ own ++ block_emissions walked around (counts_after (counts_after counts moved) own) lane rest
counted walked around counts moved own lane rest =
    ap (λ (there : Counts). moved ++ own ++ block_emissions walked around there lane rest)
    (counts_append counts moved own)

-- where the counts are taken behind the move and what the statement gives
counted_at : (walked : Walked) (around : Around) (counts : Counts) (lane : Lane) (next : Spot) (others : List StmtId)
    (what : StmtKind) (heading : Heading) (rest : BlockTree) →
    let moved = move_emissions walked around counts lane next (heading.id ∷ others) in
    let own = own_emissions walked around (counts_after counts moved) next.host
    (under_token walked.planned next others) (carried_to walked.planned next others)
    (statement_tree what heading done) in
    moved ++ own
    ++ block_emissions walked around (counts_after counts (moved ++ own))
    (lane_behind walked counts lane next (gives what) others) rest
    ≡ one_by_one walked around counts lane next others what heading rest
counted_at walked around counts lane next others what heading rest =
    let moved = move_emissions walked around counts lane next (heading.id ∷ others) in
    counted walked around counts moved (own_emissions walked around (counts_after counts moved) next.host
    (under_token walked.planned next others) (carried_to walked.planned next others)
    (statement_tree what heading done)) (lane_behind walked counts lane next (gives what) others) rest

abbrev next_of : Walked → Lane → Heading → BlockTree → Spot
next_of walked lane heading rest = next_spot walked.planned lane.spot heading.id (own_statements rest)

statement_first : (walked : Walked) (around : Around) (counts : Counts) (lane : Lane) (what : StmtKind)
    (heading : Heading) (rest : BlockTree) →
    block_emissions walked around counts lane (statement_tree what heading rest)
    ≡ one_by_one walked around counts lane (next_of walked lane heading rest) (own_statements rest) what heading rest
statement_first walked around counts lane (kind.Let x value) heading rest =
    counted_at walked around counts lane (next_of walked lane heading rest) (own_statements rest)
    (kind.Let x value) heading rest
statement_first walked around counts lane (kind.SetField field value) heading rest =
    counted_at walked around counts lane (next_of walked lane heading rest) (own_statements rest)
    (kind.SetField field value) heading rest
statement_first walked around counts lane (kind.SetElement field index value) heading rest =
    counted_at walked around counts lane (next_of walked lane heading rest) (own_statements rest)
    (kind.SetElement field index value) heading rest
statement_first walked around counts lane (kind.If' guard m first n second) heading rest = refl
statement_first walked around counts lane (kind.While' guard m body) heading rest = refl
statement_first walked around counts lane (kind.Call site method args into) heading rest =
    counted_at walked around counts lane (next_of walked lane heading rest) (own_statements rest)
    (kind.Call site method args into) heading rest
statement_first walked around counts lane (kind.Return value) heading rest =
    counted_at walked around counts lane (next_of walked lane heading rest) (own_statements rest)
    (kind.Return value) heading rest

-- a trace that goes on with a move, with what a statement gives, and with the rest
traced_by_one : (walked : Walked) (around : Around) (trace : TraceShape) (lane : Lane) (next : Spot)
    (others : List StmtId) (what : StmtKind) (heading : Heading) (rest : BlockTree) →
    let moved = traced trace (move_emissions walked around trace.counts lane next (heading.id ∷ others)) in
    let own = traced moved (own_emissions walked around moved.counts next.host
    (under_token walked.planned next others) (carried_to walked.planned next others)
    (statement_tree what heading done)) in
    traced trace (one_by_one walked around trace.counts lane next others what heading rest)
    ≡ traced own (block_emissions walked around own.counts
    (lane_behind walked trace.counts lane next (gives what) others) rest)
traced_by_one walked around trace lane next others what heading rest =
    let moves = move_emissions walked around trace.counts lane next (heading.id ∷ others) in
    let moved = traced trace moves in
    let there = lane_behind walked trace.counts lane next (gives what) others in
    let owns : Counts → List Emission = λ here. own_emissions walked around here next.host
    (under_token walked.planned next others) (carried_to walked.planned next others)
    (statement_tree what heading done) in
    let F : Counts → TraceShape = λ here. traced (traced moved (owns here))
    (block_emissions walked around (counts_after here (owns here)) there rest) in
    let G : Counts → TraceShape = λ behind. traced (traced moved (owns moved.counts))
    (block_emissions walked around behind there rest) in
    let here = counts_after trace.counts moves in
    let behind = block_emissions walked around (counts_after here (owns here)) there rest in
    traced_append trace (moves ++ owns here) behind
    ∙ ap (λ (front : TraceShape). traced front behind) (traced_append trace moves (owns here))
    ∙ ap F (sym (traced_counts trace moves))
    ∙ ap G (sym (traced_counts moved (owns moved.counts)))

-- the walk goes over the first of the statements that are left
pub one_walked : (walked : Walked) (around : Around) (start trace moved own : TraceShape) (lane there : Lane)
    (next : Spot) (statement : Stmt) (others : List Stmt) →
    next ≡ next_spot walked.planned lane.spot statement.id (ids_of others) →
    moved ≡ traced trace (move_emissions walked around trace.counts lane next (statement.id ∷ ids_of others)) →
    there ≡ lane_behind walked trace.counts lane next (gives statement.kind) (ids_of others) →
    own ≡ traced moved (own_emissions walked around moved.counts next.host
    (under_token walked.planned next (ids_of others)) (carried_to walked.planned next (ids_of others))
    (tree_before statement done)) →
    traced trace (block_emissions walked around trace.counts lane (block_tree (statement ∷ others))) ≡ start →
    traced own (block_emissions walked around own.counts there (block_tree others)) ≡ start
one_walked walked around start trace moved own lane there next statement others next_is moved_is there_is own_is so =
    let heading : Heading = head_of statement in
    let rest = block_tree others in
    let P : List StmtId → Type 0 = λ ids.
    traced trace (one_by_one walked around trace.counts lane (next_spot walked.planned lane.spot statement.id ids)
    ids statement.kind heading rest) ≡ start in
    let Q : Spot → Type 0 = λ spot.
    traced trace (one_by_one walked around trace.counts lane spot (ids_of others) statement.kind heading rest)
    ≡ start in
    let first = subst P (own_ids others)
    (sym (ap (traced trace) (statement_first walked around trace.counts lane statement.kind heading rest)) ∙ so) in
    let here = subst Q (sym next_is) first in
    let R : TraceShape → Type 0 = λ trace_there.
    traced trace_there (block_emissions walked around trace_there.counts
    (lane_behind walked trace.counts lane next (gives statement.kind) (ids_of others)) rest) ≡ start in
    let S : TraceShape → Type 0 = λ middle. R (traced middle (own_emissions walked around middle.counts next.host
    (under_token walked.planned next (ids_of others)) (carried_to walked.planned next (ids_of others))
    (tree_before statement done))) in
    let T : Lane → Type 0 = λ behind. traced own (block_emissions walked around own.counts behind rest) ≡ start in
    subst T (sym there_is) (subst R (sym own_is) (subst S (sym moved_is)
    (sym (traced_by_one walked around trace lane next (ids_of others) statement.kind heading rest) ∙ here)))
