-- What branches and loops give, put together from what they give one by one.
use Rattle.std.proofs.Common.{◌≡◌, ℕ, List, [], ◌∷◌, ◌++◌, None, refl, sym, ap, ◌∙◌}
use Rattle.js_base.specs.declared.ids.HostId.{HostId}
use Rattle.js_base.specs.declared.ids.StmtId.{StmtId}
use Rattle.label_lattice.specs.declared.label.Label.{Label}
use Rattle.jif_tree.specs.Trees.{Heading, ExprTree, BlockTree, done, branch, loop}
use Rattle.host_code.specs.declared.instruction.Op.TheVariants as op
use Rattle.split_rules.specs.Emissions.{Emission, Counts, entry, stands, lands, counts_after}
use Rattle.split_rules.specs.Expressions.{ElementReading, nodes_of, readings_of, released_by}
use Rattle.split_rules.specs.Walk.{Walked, Around, lane_on, entry_id, need_of, emitted, read_emissions, expr_emissions}
use Rattle.split_rules.specs.Walk.{block_emissions, releasing}
use Rattle.control_split.specs.Own.{inside_of, branch_front, loop_front, own_emissions}
use Rattle.control_split.specs.Trace.{TraceShape, traced}
use Rattle.control_split.proofs.Traces.{traced_append, traced_counts}

-- reads name no entry, and are no branches
readings_count : (host : HostId) (label : Label) (id : StmtId) (readings : List ElementReading) (counts : Counts) →
    counts_after counts (read_emissions host label id readings) ≡ counts
readings_count host label id [] counts = refl
readings_count host label id (reading ∷ others) counts = readings_count host label id others counts

pub reads_count : (trace : TraceShape) (host : HostId) (label : Label) (id : StmtId) (first : ℕ) (expr : ExprTree) →
    (traced trace (expr_emissions host label id first expr)).counts ≡ trace.counts
reads_count trace host label id first expr =
    traced_counts trace (expr_emissions host label id first expr)
    ∙ readings_count host label id (readings_of first expr) trace.counts

-- ---- branches

pub branch_front_traced : (walked : Walked) (around : Around) (host : HostId) (left : List StmtId) (id : StmtId)
    (guard : ExprTree) (start named pushed reading branched : TraceShape) →
    named ≡ traced start (entry (record {
      host = host;
      label = (inside_of walked around id guard).pc;
      need = need_of walked.planned left;
    }) ∷ []) →
    pushed ≡ traced named (emitted host around.pc id (op.Push (entry_id start.counts.entries)) ∷ []) →
    reading ≡ traced pushed (expr_emissions host around.pc id 0 guard) →
    branched ≡ traced reading
    (releasing host around.pc id (op.Branch (nodes_of 0 guard) reading.counts.branches) (released_by 0 guard) ∷ []) →
    (branched ≡ traced start (branch_front walked around start.counts host left id guard))
    × (reading.counts.branches ≡ start.counts.branches)
branch_front_traced walked around host left id guard start named pushed reading branched named_is pushed_is reading_is
    branched_is =
    let first = entry (record {
      host = host;
      label = (inside_of walked around id guard).pc;
      need = need_of walked.planned left;
    }) in
    let second = emitted host around.pc id (op.Push (entry_id start.counts.entries)) in
    let reads = expr_emissions host around.pc id 0 guard in
    let there = traced start (first ∷ second ∷ []) in
    let last : ℕ → Emission = λ number. releasing host around.pc id (op.Branch (nodes_of 0 guard) number)
    (released_by 0 guard) in
    let pushed_there : pushed ≡ there =
    pushed_is ∙ ap (λ (trace : TraceShape). traced trace (second ∷ [])) named_is in
    let reading_there : reading ≡ traced there reads =
    reading_is ∙ ap (λ (trace : TraceShape). traced trace reads) pushed_there in
    let count : reading.counts.branches ≡ start.counts.branches =
    ap (λ (trace : TraceShape). trace.counts.branches) reading_there
    ∙ ap (λ (counts : Counts). counts.branches) (reads_count there host around.pc id 0 guard) in (
      branched_is
          ∙ ap (λ number. traced reading (last number ∷ [])) count
          ∙ ap (λ (trace : TraceShape). traced trace (last start.counts.branches ∷ [])) reading_there
          ∙ sym (traced_append there reads (last start.counts.branches ∷ [])),
      count,
    )

pub branch_traced : (walked : Walked) (around : Around) (host : HostId) (left : List StmtId) (heading : Heading)
    (guard : ExprTree) (first second : BlockTree) (start branched one landed two stood : TraceShape) →
    let inside = inside_of walked around heading.id guard in
    branched ≡ traced start (branch_front walked around start.counts host left heading.id guard) →
    one ≡ traced branched (block_emissions walked inside branched.counts (lane_on host) first) →
    landed ≡ traced one (lands host start.counts.branches ∷ []) →
    two ≡ traced landed (block_emissions walked inside landed.counts (lane_on host) second) →
    stood ≡ traced two (stands host start.counts.entries ∷ []) →
    stood ≡ traced start (own_emissions walked around start.counts host left None (branch heading guard first second
    done))
branch_traced walked around host left heading guard first second start branched one landed two stood branched_is one_is
    landed_is two_is stood_is =
    let inside = inside_of walked around heading.id guard in
    let front = branch_front walked around start.counts host left heading.id guard in
    let firsts : Counts → List Emission = λ counts. block_emissions walked inside counts (lane_on host) first in
    let seconds : Counts → List Emission = λ counts. block_emissions walked inside counts (lane_on host) second in
    let ones = firsts (counts_after start.counts front) in
    let between = lands host start.counts.branches ∷ [] in
    let twos = seconds (counts_after start.counts (front ++ ones ++ between)) in
    let last = stands host start.counts.entries ∷ [] in
    let branched_counts : branched.counts ≡ counts_after start.counts front =
    ap (λ (trace : TraceShape). trace.counts) branched_is ∙ traced_counts start front in
    let one_there : one ≡ traced start (front ++ ones) =
    one_is ∙ ap (λ counts. traced branched (firsts counts)) branched_counts
    ∙ ap (λ (trace : TraceShape). traced trace ones) branched_is ∙ sym (traced_append start front ones) in
    let landed_there : landed ≡ traced start (front ++ ones ++ between) =
    landed_is ∙ ap (λ (trace : TraceShape). traced trace between) one_there
    ∙ sym (traced_append start (front ++ ones) between) in
    let landed_counts : landed.counts ≡ counts_after start.counts (front ++ ones ++ between) =
    ap (λ (trace : TraceShape). trace.counts) landed_there ∙ traced_counts start (front ++ ones ++ between) in
    let two_there : two ≡ traced start (front ++ ones ++ between ++ twos) =
    two_is ∙ ap (λ counts. traced landed (seconds counts)) landed_counts
    ∙ ap (λ (trace : TraceShape). traced trace twos) landed_there
    ∙ sym (traced_append start (front ++ ones ++ between) twos) in
    stood_is ∙ ap (λ (trace : TraceShape). traced trace last) two_there
    ∙ sym (traced_append start (front ++ ones ++ between ++ twos) last)

-- ---- loops

pub loop_front_traced : (walked : Walked) (around : Around) (host : HostId) (left : List StmtId) (id : StmtId)
    (guard : ExprTree) (start named stood reading branched pushed : TraceShape) →
    let inside = inside_of walked around id guard in
    named ≡ traced start (entry (record {
      host = host;
      label = inside.pc;
      need = need_of walked.planned (id ∷ left);
    }) ∷ []) →
    stood ≡ traced named (stands host start.counts.entries ∷ []) →
    reading ≡ traced stood (expr_emissions host inside.pc id 0 guard) →
    branched ≡ traced reading
    (releasing host inside.pc id (op.Branch (nodes_of 0 guard) reading.counts.branches) (released_by 0 guard) ∷ []) →
    pushed ≡ traced branched (emitted host inside.pc id (op.Push (entry_id start.counts.entries)) ∷ []) →
    (pushed ≡ traced start (loop_front walked around start.counts host left id guard))
    × (reading.counts.branches ≡ start.counts.branches)
loop_front_traced walked around host left id guard start named stood reading branched pushed named_is stood_is
    reading_is branched_is pushed_is =
    let inside = inside_of walked around id guard in
    let first = entry (record {
      host = host;
      label = inside.pc;
      need = need_of walked.planned (id ∷ left);
    }) in
    let second = stands host start.counts.entries in
    let reads = expr_emissions host inside.pc id 0 guard in
    let there = traced start (first ∷ second ∷ []) in
    let branches : ℕ → Emission = λ number. releasing host inside.pc id (op.Branch (nodes_of 0 guard) number)
    (released_by 0 guard) in
    let last = emitted host inside.pc id (op.Push (entry_id start.counts.entries)) in
    let stood_there : stood ≡ there =
    stood_is ∙ ap (λ (trace : TraceShape). traced trace (second ∷ [])) named_is in
    let reading_there : reading ≡ traced there reads =
    reading_is ∙ ap (λ (trace : TraceShape). traced trace reads) stood_there in
    let count : reading.counts.branches ≡ start.counts.branches =
    ap (λ (trace : TraceShape). trace.counts.branches) reading_there
    ∙ ap (λ (counts : Counts). counts.branches) (reads_count there host inside.pc id 0 guard) in
    let branched_there : branched ≡ traced (traced there reads) (branches start.counts.branches ∷ []) =
    branched_is ∙ ap (λ number. traced reading (branches number ∷ [])) count
    ∙ ap (λ (trace : TraceShape). traced trace (branches start.counts.branches ∷ [])) reading_there in (
      pushed_is ∙ ap (λ (trace : TraceShape). traced trace (last ∷ [])) branched_there
          ∙ sym (traced_append there reads (branches start.counts.branches ∷ last ∷ [])),
      count,
    )

pub loop_traced : (walked : Walked) (around : Around) (host : HostId) (left : List StmtId) (heading : Heading)
    (guard : ExprTree) (body : BlockTree) (start pushed one landed : TraceShape) →
    let inside = inside_of walked around heading.id guard in
    pushed ≡ traced start (loop_front walked around start.counts host left heading.id guard) →
    one ≡ traced pushed (block_emissions walked inside pushed.counts (lane_on host) body) →
    landed ≡ traced one (lands host start.counts.branches ∷ []) →
    landed ≡ traced start (own_emissions walked around start.counts host left None (loop heading guard body done))
loop_traced walked around host left heading guard body start pushed one landed pushed_is one_is landed_is =
    let inside = inside_of walked around heading.id guard in
    let front = loop_front walked around start.counts host left heading.id guard in
    let bodies : Counts → List Emission = λ counts. block_emissions walked inside counts (lane_on host) body in
    let ones = bodies (counts_after start.counts front) in
    let last = lands host start.counts.branches ∷ [] in
    let pushed_counts : pushed.counts ≡ counts_after start.counts front =
    ap (λ (trace : TraceShape). trace.counts) pushed_is ∙ traced_counts start front in
    let one_there : one ≡ traced start (front ++ ones) =
    one_is ∙ ap (λ counts. traced pushed (bodies counts)) pushed_counts
    ∙ ap (λ (trace : TraceShape). traced trace ones) pushed_is ∙ sym (traced_append start front ones) in
    landed_is ∙ ap (λ (trace : TraceShape). traced trace last) one_there
    ∙ sym (traced_append start (front ++ ones) last)
