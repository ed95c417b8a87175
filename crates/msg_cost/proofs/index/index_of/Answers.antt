use Rattle.std.proofs.Common.{List, ◌∙◌, length, ap, subst}
use Rattle.jif_tree.specs.Trees.{program_tree}
use Rattle.msg_cost.specs.declared.index.Kind.TheVariants as kind
use Rattle.msg_cost.specs.Pieces.{CostPiece}
use Rattle.msg_cost.specs.PieceViews.{all_pieces}
use Rattle.msg_cost.specs.Rows.{AreRows, numbers_of, rows_of}
use Rattle.msg_cost.proofs.index.index_of.Goals as goal

pub returns : goal.returns
returns c =
    let program = program_tree c.args.checked.now.program in
    let needs = c.args.needs.now in
    let hosts = c.args.hosts.now in
    let pieces = c.in_ok-pieces.ensures.pieces in
    let tables = c.in_ok-pieces.ensures.tables in
    record {
      rows = record {
        fields = subst (λ (all : List CostPiece).
            AreRows (numbers_of kind.Fields program needs) all (rows_of c.in_ok-fields.fields.items))
            (ap all_pieces c.deref.ensures.value ∙ pieces) c.in_ok-fields.ensures.rows;
        statements = subst (λ (all : List CostPiece).
            AreRows (numbers_of kind.Statements program needs) all (rows_of c.in_ok-statements.statements.items))
            (ap all_pieces c.deref-2.ensures.value ∙ pieces) c.in_ok-statements.ensures.rows;
      };
      long_fields = c.in_ok-fields.ensures.long ∙ c.len-count.ensures ∙ c.args.checked.now.program.fields.ok.0;
      long_statements = c.in_ok-statements.ensures.long ∙ ap length c.need-count.ensures;
      field_tables = c.in_ok-fields.ensures.tables hosts (rw c.deref.ensures.value tables);
      statement_tables = c.in_ok-statements.ensures.tables hosts (rw c.deref-2.ensures.value tables);
      bodies = c.in_ok-bodies.ensures;
    }
