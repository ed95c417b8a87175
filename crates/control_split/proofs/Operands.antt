-- The second operand of an expression behind the first: there is room for its temporaries, and its reads follow.
use Rattle.std.proofs.Common.{◌≡◌, ◌∙◌, ℕ, ◌+◌, ◌≤◌, List, [], ◌∷◌, ◌++◌, Some, map, ap, sym, refl, arith}
use Rattle.std.proofs.lemmas.List.{map-append}
use Rattle.js_base.specs.declared.ids.HostId.{HostId}
use Rattle.js_base.specs.declared.ids.StmtId.{StmtId}
use Rattle.js_base.specs.declared.ids.VarId.{VarId}
use Rattle.label_lattice.specs.declared.label.Label.{Label}
use Rattle.jif_tree.specs.Trees.{ExprTree}
use Rattle.jif_tree.specs.Sizes.{expr_nodes}
use Rattle.host_code.specs.declared.instruction.Op.TheVariants as op
use Rattle.split_rules.specs.Emissions.{Emission}
use Rattle.split_rules.specs.Expressions.{ElementReading, reads_in, nodes_of, released_by}
use Rattle.split_rules.specs.Walk.{Walked, read_emissions, result_emissions, argument_emissions, releasing}
use Rattle.control_split.specs.Trace.{TraceShape, traced, traced_one}
use Rattle.split_rules.proofs.ExpressionNodes.{reads_few}
use Rattle.control_split.proofs.Traces.{traced_append}

-- an expression reads no more than it has nodes
pub few_reads : (expr : ExprTree) → reads_in expr ≤ expr_nodes expr
few_reads = reads_few

pub room_behind : (first middle most : ℕ) (left right : ExprTree) → middle ≡ first + reads_in left →
    first + (1 + (expr_nodes left + expr_nodes right)) ≤ most → middle + expr_nodes right ≤ most
room_behind first middle most left right is room = omega (arith, reads_few left, is, room)

pub reads_both : (start between behind : TraceShape) (host : HostId) (label : Label) (statement : StmtId)
    (one two : List ElementReading) →
    between ≡ traced start (read_emissions host label statement one) →
    behind ≡ traced between (read_emissions host label statement two) →
    behind ≡ traced start (read_emissions host label statement (one ++ two))
reads_both start between behind host label statement one two first second =
    let give : ElementReading → Emission =
    λ reading. releasing host label statement (op.Read reading.field reading.index) reading.released in
    second
    ∙ ap (λ (trace : TraceShape). traced trace (read_emissions host label statement two)) first
    ∙ sym (traced_append start (map give one) (map give two))
    ∙ sym (ap (traced start) (map-append give one two))

-- emissions, and then more
pub traced_then : (start between behind : TraceShape) (first second : List Emission) →
    between ≡ traced start first → behind ≡ traced between second → behind ≡ traced start (first ++ second)
traced_then start between behind first second one two =
    two ∙ ap (λ (trace : TraceShape). traced trace second) one ∙ sym (traced_append start first second)

pub result_kept : (walked : Walked) (host : HostId) (label : Label) (statement : StmtId) (value : ExprTree)
    (kept : VarId) → walked.setting.result ≡ Some kept →
    result_emissions walked host label statement value
    ≡ releasing host label statement (op.Ret kept (nodes_of 0 value)) (released_by 0 value) ∷ []
result_kept walked host label statement value kept is = rw is refl

pub no_parameters : (walked : Walked) (host home : HostId) (label : Label) (statement : StmtId)
    (args : List ExprTree) → argument_emissions walked host home label statement [] args ≡ []
no_parameters walked host home label statement [] = refl
no_parameters walked host home label statement (first ∷ others) = refl

-- one emission more on a trace, where it is another way to say it
pub with_one : (before after : TraceShape) (one other : Emission) → after ≡ traced_one before one → one ≡ other →
    after ≡ traced_one before other
with_one before after one other is same = is ∙ ap (traced_one before) same

-- a call: two emissions, the arguments, three emissions, and what is kept
pub called : (start named framed given pushed away standing : TraceShape) (first second : Emission)
    (arguments : List Emission) (third fourth fifth : Emission) (kept : List Emission) →
    named ≡ traced_one start first → framed ≡ traced_one named second → given ≡ traced framed arguments →
    pushed ≡ traced_one given third → away ≡ traced_one pushed fourth → standing ≡ traced_one away fifth →
    traced standing kept ≡ traced start (first ∷ second ∷ arguments ++ third ∷ fourth ∷ fifth ∷ kept)
called start named framed given pushed away standing first second arguments third fourth fifth kept one two three four
    five six =
    let rest : List Emission = third ∷ fourth ∷ fifth ∷ kept in
    ap (λ (trace : TraceShape). traced trace kept) (six ∙ ap (λ (trace : TraceShape). traced_one trace fifth)
    (five ∙ ap (λ (trace : TraceShape). traced_one trace fourth) four))
    ∙ ap (λ (trace : TraceShape). traced trace rest) (three ∙ ap (λ (trace : TraceShape). traced trace arguments)
    (two ∙ ap (λ (trace : TraceShape). traced_one trace second) one))
    ∙ sym (traced_append (traced_one (traced_one start first) second) arguments rest)
