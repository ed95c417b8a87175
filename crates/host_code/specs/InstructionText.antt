-- How an instruction is printed. Its expressions are not shown.
use Rattle.std.specs.Prelude.{ℕ, List, ◌++◌, flat_map, codes}
use Rattle.std.specs.Fmt.{decimal}
use Rattle.js_base.specs.declared.ids.VarId.{VarId}
use Rattle.host_code.specs.declared.instruction.Op.{Op}
use Rattle.host_code.specs.declared.instruction.Op.TheVariants as op
use Rattle.host_code.specs.Code.{CodeShape}
use Rattle.host_code.specs.MessageText.{host_text, field_text, variable_text, entry_text}

-- the variables that ride, with a blank before each
abbrev pub variables_text : CodeShape → List VarId → List ℕ
variables_text code variables = flat_map (λ variable. codes " " ++ variable_text code variable) variables

abbrev pub instruction_text : CodeShape → Op → List ℕ
instruction_text code (op.Read field index) = codes "read " ++ field_text code field
instruction_text code (op.Let variable value) = codes "let " ++ variable_text code variable
instruction_text code (op.Put field index value) = codes "store " ++ field_text code field
instruction_text code (op.Send variable to) =
    codes "send " ++ variable_text code variable ++ codes " " ++ host_text code to
instruction_text code (op.Frame site) = codes "frame " ++ decimal site.0
instruction_text code (op.Arg variable value) = codes "arg " ++ variable_text code variable
instruction_text code (op.Pass variable to) =
    codes "pass " ++ variable_text code variable ++ codes " " ++ host_text code to
instruction_text code (op.Push entry) = codes "push " ++ entry_text entry
instruction_text code (op.Ask entry on) = codes "ask " ++ entry_text entry ++ codes " " ++ host_text code on
instruction_text code (op.Go entry on) = codes "go " ++ entry_text entry ++ codes " " ++ host_text code on
instruction_text code (op.Call entry on) = codes "call " ++ entry_text entry ++ codes " " ++ host_text code on
instruction_text code (op.Ret variable value) = codes "ret " ++ variable_text code variable
instruction_text code op.Back = codes "back"
instruction_text code (op.Branch guard target) = codes "branch " ++ decimal target
instruction_text code (op.GoWith entry on riders) =
    codes "go " ++ entry_text entry ++ codes " " ++ host_text code on ++ codes " with" ++ variables_text code riders
instruction_text code (op.CallWith entry on riders) =
    codes "call " ++ entry_text entry ++ codes " " ++ host_text code on ++ codes " with" ++ variables_text code riders
