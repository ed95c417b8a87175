use Rattle.std.proofs.Common.{inl, inr, arith, ap, refl, ◌∙◌, ◌++◌, ◌∷◌, []}
use Rattle.std.specs.Global.{Vec}
use Rattle.js_base.specs.declared.ids.StmtId.{StmtId}
use Rattle.std.proofs.lemmas.List.{get_or_read}
use Rattle.need_labels.proofs.ReadRows.{read_past, read_again, read_first}
use Rattle.need_labels.proofs.reads.read.Goals as goal
use Rattle.need_labels.proofs.reads.read.Goals.{else-place-len-via-then-place-len+then-place-len-2+else-index-turn}
use Rattle.need_labels.proofs.reads.read.Goals.{else-place-len-via-then-place-len+else-place-len-2}
use Rattle.need_labels.proofs.reads.read.Goals.{else-place-len-via-else-place-len}

pub returns-in_ok-push : goal.returns-in_ok-push
returns-in_ok-push c principals labelled =
    let marked = get_or_read c.args.reads.now.marks.items _ _ (omega arith) c.index.ensures 0 in
    read_first principals labelled c.args.statement c.args.turn c.args.reads.now c.args.variable _ _ c.push.new.self
    c.index_mut.result.now (omega arith) (omega arith)
    (omega (arith, marked, c.if-index-turn.true)) refl
    (c.in_ok-push.ensures.items
    ∙ ap (λ (row : Vec StmtId). row.items ++ c.args.statement ∷ []) c.index_mut.ensures.value) refl

pub returns-else-place-len : goal.returns-else-place-len
returns-else-place-len c principals labelled = elim c.else-place-len.branch [
  | else-place-len-via-then-place-len+then-place-len-2+else-index-turn w ↦
      let marked = get_or_read c.args.reads.now.marks.items _ _ (omega arith) w.index.ensures 0 in
      read_again principals labelled c.args.statement c.args.turn c.args.reads.now c.args.variable (omega arith)
      (omega (arith, marked, w.if-index-turn.false))
  | else-place-len-via-then-place-len+else-place-len-2 w ↦
      read_past principals labelled c.args.statement c.args.turn c.args.reads.now c.args.variable (inr (omega arith))
  | else-place-len-via-else-place-len w ↦
      read_past principals labelled c.args.statement c.args.turn c.args.reads.now c.args.variable (inl (omega arith))
]
