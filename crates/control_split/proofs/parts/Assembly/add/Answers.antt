use Rattle.std.proofs.Common.{◌∙◌, ◌<◌, List, length, ap, sym, arith, rules}
use Rattle.host_code.specs.declared.instruction.Instr.{Instr}
use Rattle.control_split.specs.declared.trace.TraceItem.{TraceItem}
use Rattle.control_split.specs.declared.trace.TraceItem.TheVariants as item
use Rattle.control_split.specs.Assembly.{AssemblyShape, with_item}
use Rattle.control_split.proofs.Lists.{list_grown}
use Rattle.control_split.proofs.parts.Assembly.add.Goals as goal

pub returns-in_ok-push_to-in-Instruction : goal.returns-in_ok-push_to-in-Instruction
returns-in_ok-push_to-in-Instruction c =
    let one : TraceItem = item.Instruction c.in-Instruction.host c.in-Instruction.instruction in
    let fits : c.in-Instruction.host.0 < 256 = search rules in
    let within : c.in-Instruction.host.0 < length c.self.inside.lists.items =
    omega (arith, fits, c.self.invariant.0) in
    ap (λ (lists : List (List Instr)). record {
      lists = lists;
      entries = c.self.inside.entries.items;
      standing = c.self.inside.standing.items;
      landing = c.self.inside.landing.items;
    }) (list_grown c.self.inside.lists.items c.in-Instruction.host.0 c.index_mut.result.now c.push_to.new.list
    c.in-Instruction.instruction within c.index_mut.ensures.value c.in_ok-push_to-in-Instruction.ensures.pushed)
    ∙ ap (λ (shape : AssemblyShape). with_item shape one) c.self.view_is
    ∙ ap (with_item c.args.self.now) (sym c.in-Instruction.is)
