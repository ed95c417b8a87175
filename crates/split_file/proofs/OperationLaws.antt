-- Laws of the readers of operations.
use Rattle.std.proofs.Common.{◌≡◌, ℕ, ◌^◌, ◌<◌, true, ◌&&◌, List, [], ◌∷◌, ◌++◌, length, Some, refl, sym, ap, subst}
use Rattle.std.proofs.Common.{◌∙◌, append_assoc, arith}
use Rattle.std.specs.Prelude.{⊤, ◌==◌, nat_le}
use Rattle.std.specs.List.{flat_map}
use Rattle.std.proofs.lemmas.Bool.{and_parts, eqb-true, eq-eqb}
use Rattle.js_base.specs.declared.ids.HostId.{HostId}
use Rattle.js_base.specs.declared.ids.VarId.{VarId}
use Rattle.js_base.specs.declared.ids.EntryId.{EntryId}
use Rattle.host_code.specs.declared.instruction.Op.{Op}
use Rattle.host_code.specs.declared.instruction.Op.TheVariants as op
use Rattle.host_code.specs.declared.code_expr.Node.{Node}
use Rattle.host_code.specs.declared.riders.TheConstants.{MOST_RIDERS}
use Rattle.host_code.specs.Code.{CodeShape, site_at}
use Rattle.host_code.specs.Sound.{IsHost, IsField, IsVariable, IsOther, IsEntryOn, AreRiding}
use Rattle.byte_format.specs.Numbers.{number_bytes}
use Rattle.byte_format.specs.Reader.{sequel, given}
use Rattle.byte_format.proofs.NumberLaws.{byte_reads, byte_again, number_reads, number_again}
use Rattle.byte_format.proofs.Sequels.{Reads, Again, reads_then, reads_given, reads_last, reads_refused, reads_if}
use Rattle.byte_format.proofs.Sequels.{reads_weaker, again_then, again_given, again_last}
use Rattle.byte_format.proofs.ItemLaws.{all_weaker, all_read, items_again, each_by_recursion, in_by_recursion}
use Rattle.byte_format.proofs.ItemLaws.{counted_within, within_again}
use Rattle.split_file.specs.declared.fault.Fault.TheVariants as fault
use Rattle.split_file.specs.Spelling.{host_id_bytes, expression_bytes, riders_bytes, operation_bytes}
use Rattle.split_file.specs.Reader.{SplitReader, byte_at}
use Rattle.split_file.specs.Reading.{valued_at, sent_at, entered_at, read_at, let_at, put_at, send_at, frame_at, arg_at}
use Rattle.split_file.specs.Reading.{pass_at, push_at, ask_at, go_at, call_at, ret_at, branch_at, operation_of}
use Rattle.split_file.specs.Reading.{operation_at, variable_id_at, riders_at, go_with_at, call_with_at}
use Rattle.split_file.proofs.Sequels.{reads_place, again_place, reads_in_range, again_in_range}
use Rattle.split_file.proofs.NumberLaws.{index_reads, index_again}
use Rattle.split_file.proofs.ExpressionLaws.{ExpressionIs, reads_tag, variable_id_reads, variable_id_again}
use Rattle.split_file.proofs.ExpressionLaws.{expression_reads, expression_again}
use Rattle.split_file.proofs.OperandLaws.{IsFew, field_id_reads, field_id_again, other_host_reads, other_host_again}
use Rattle.split_file.proofs.OperandLaws.{own_site_reads, own_site_again, own_entry_reads, own_entry_again}
use Rattle.split_file.proofs.OperandLaws.{some_entry_reads, some_entry_again, host_of_entry_reads, host_of_entry_again}
use Rattle.split_file.proofs.OperandLaws.{other_host_of_entry_reads, other_host_of_entry_again}

abbrev pub ExpressionFor : CodeShape → ℕ → List Node → Type 0
ExpressionFor code temporaries nodes = ExpressionIs (length code.variables) temporaries nodes

-- what an operation names is there, of a host that has so many instructions, in a file of this version
abbrev pub OperationIs : ℕ → CodeShape → HostId → ℕ → ℕ → Op → Type 0
OperationIs version code me temporaries places (op.Read field index) =
    IsField code field × ExpressionFor code temporaries index
OperationIs version code me temporaries places (op.Let variable value) =
    IsVariable code variable × ExpressionFor code temporaries value
OperationIs version code me temporaries places (op.Put field index value) =
    IsField code field × (ExpressionFor code temporaries index × ExpressionFor code temporaries value)
OperationIs version code me temporaries places (op.Send variable to) = IsVariable code variable × IsOther code me to
OperationIs version code me temporaries places (op.Frame site) = site_at code site ≡ Some me
OperationIs version code me temporaries places (op.Arg variable value) =
    IsVariable code variable × ExpressionFor code temporaries value
OperationIs version code me temporaries places (op.Pass variable to) = IsVariable code variable × IsOther code me to
OperationIs version code me temporaries places (op.Push entry) = IsEntryOn code me entry
OperationIs version code me temporaries places (op.Ask entry on) = IsEntryOn code on entry × IsOther code me on
OperationIs version code me temporaries places (op.Go entry on) = IsEntryOn code on entry × IsOther code me on
OperationIs version code me temporaries places (op.Call entry on) = IsEntryOn code on entry × IsHost code on
OperationIs version code me temporaries places (op.Ret variable value) =
    IsVariable code variable × ExpressionFor code temporaries value
OperationIs version code me temporaries places op.Back = ⊤
OperationIs version code me temporaries places (op.Branch guard target) =
    ExpressionFor code temporaries guard × (target < places)
OperationIs version code me temporaries places (op.GoWith entry on riders) =
    (version ≡ 2) × (IsEntryOn code on entry × IsOther code me on × AreRiding code riders)
OperationIs version code me temporaries places (op.CallWith entry on riders) =
    (version ≡ 2) × (IsEntryOn code on entry × IsOther code me on × AreRiding code riders)

-- ---- operands of several operations

abbrev valued_bytes : VarId × List Node → List ℕ
valued_bytes p = number_bytes p.0.0 ++ expression_bytes p.1

valued_reads : (code : CodeShape) (temporaries : ℕ) → Reads (valued_at code temporaries)
    (λ p text. (text ≡ valued_bytes p) × (IsVariable code p.0 × ExpressionFor code temporaries p.1))
unfolding valued_at
valued_reads code temporaries =
    reads_then (variable_id_reads (length code.variables)) (λ variable there.
    reads_last _ (expression_reads (length code.variables) temporaries) (λ value is. (refl, (there, is))))

valued_again : (code : CodeShape) (temporaries : ℕ) (variable : VarId) (value : List Node) → IsFew code →
    temporaries < 2 ^ 32 → IsVariable code variable → ExpressionFor code temporaries value →
    Again (valued_at code temporaries) (variable, value) (number_bytes variable.0 ++ expression_bytes value)
unfolding valued_at
valued_again code temporaries variable value few short there is =
    again_then _ (variable_id_again (length code.variables) variable few.variables there)
    (again_last (λ value. (variable, value))
    (expression_again (length code.variables) temporaries value few.variables short is))

abbrev sent_bytes : VarId × HostId → List ℕ
sent_bytes p = number_bytes p.0.0 ++ host_id_bytes p.1

sent_reads : (code : CodeShape) (me : HostId) → Reads (sent_at code me)
    (λ p text. (text ≡ sent_bytes p) × (IsVariable code p.0 × IsOther code me p.1))
unfolding sent_at
sent_reads code me =
    reads_then (variable_id_reads (length code.variables)) (λ variable there.
    reads_last _ (other_host_reads code me) (λ to is. (refl, (there, is))))

sent_again : (code : CodeShape) (me : HostId) (variable : VarId) (to : HostId) → IsFew code →
    IsVariable code variable → IsOther code me to →
    Again (sent_at code me) (variable, to) (number_bytes variable.0 ++ host_id_bytes to)
unfolding sent_at
sent_again code me variable to few there is =
    again_then _ (variable_id_again (length code.variables) variable few.variables there)
    (again_last (λ to. (variable, to)) (other_host_again code me to is))

abbrev entered_bytes : EntryId × HostId → List ℕ
entered_bytes p = number_bytes p.0.0 ++ host_id_bytes p.1

entered_reads : (code : CodeShape) (me : HostId) → Reads (entered_at code me)
    (λ p text. (text ≡ entered_bytes p) × (IsEntryOn code p.1 p.0 × IsOther code me p.1))
unfolding entered_at
entered_reads code me =
    reads_then (some_entry_reads code) (λ entry apart.
    reads_last _ (other_host_of_entry_reads code me entry) (λ on is. (refl, ((apart, is.1), is.0))))

entered_again : (code : CodeShape) (me : HostId) (entry : EntryId) (on : HostId) → IsFew code →
    IsEntryOn code on entry → IsOther code me on →
    Again (entered_at code me) (entry, on) (number_bytes entry.0 ++ host_id_bytes on)
unfolding entered_at
entered_again code me entry on few there is =
    again_then _ (some_entry_again code on entry few there)
    (again_last (λ on. (entry, on)) (other_host_of_entry_again code me entry on is there))

riders_reads : (code : CodeShape) → Reads (riders_at (length code.variables))
    (λ riders text. (text ≡ riders_bytes riders) × AreRiding code riders)
unfolding riders_at
riders_reads code =
    reads_then (reads_in_range (number_reads _)) (λ count is. reads_weaker
    (all_read (λ _. variable_id_at (length code.variables)) (λ variable. number_bytes variable.0)
    (λ _ variable. IsVariable code variable) (λ _. variable_id_reads (length code.variables)) count)
    (λ riders text all. (
      ap (λ t. number_bytes count ++ t) all.0
          ∙ ap (λ n. number_bytes n ++ flat_map (λ (variable : VarId). number_bytes variable.0) riders) (sym all.1.0),
      (
        counted_within 1 MOST_RIDERS count riders all.1.0 is.1,
        each_by_recursion (IsVariable code) [] riders all.1.1,
      ),
    )))

riders_again : (code : CodeShape) (riders : List VarId) → IsFew code → AreRiding code riders →
    Again (riders_at (length code.variables)) riders (riders_bytes riders)
unfolding riders_at
riders_again code riders few are =
    let variables = length code.variables in
    let each = all_weaker (λ _ variable. IsVariable code variable)
    (λ _ variable. Again (variable_id_at variables) variable (number_bytes variable.0))
    (λ _ variable there. variable_id_again variables variable few.variables there) [] riders
    (in_by_recursion (IsVariable code) [] riders are.1) in
    again_then _ (again_in_range (λ count. nat_le 1 count && nat_le count MOST_RIDERS)
    (within_again 1 MOST_RIDERS (length riders) are.0.0 are.0.1)
    (number_again _ (length riders) (omega (arith, are.0.1))))
    (items_again (λ _. variable_id_at variables) (λ variable. number_bytes variable.0) [] riders each)

-- an entry on another host, and what rides there
abbrev carried_at : CodeShape → HostId → (EntryId → HostId → List VarId → Op) → SplitReader Op
carried_at code me with =
    sequel (entered_at code me) (λ where_to. sequel (riders_at (length code.variables))
    (λ riders. given (with where_to.0 where_to.1 riders)))

carried_again : (code : CodeShape) (me : HostId) (with : EntryId → HostId → List VarId → Op) (entry : EntryId)
    (on : HostId) (riders : List VarId) → IsFew code → IsEntryOn code on entry → IsOther code me on →
    AreRiding code riders →
    Again (carried_at code me with) (with entry on riders)
    (number_bytes entry.0 ++ (host_id_bytes on ++ riders_bytes riders))
carried_again code me with entry on riders few there other are =
    subst (λ text. Again (carried_at code me with) (with entry on riders) text)
    (append_assoc (number_bytes entry.0) (host_id_bytes on) (riders_bytes riders))
    (again_then (λ (where_to : EntryId × HostId). sequel (riders_at (length code.variables))
    (λ riders. given (with where_to.0 where_to.1 riders))) (entered_again code me entry on few there other)
    (again_last (with entry on) (riders_again code riders few are)))

-- ---- each operation, behind its first byte

read_reads : (version : ℕ) (code : CodeShape) (me : HostId) (temporaries places : ℕ) → Reads (read_at code temporaries)
    (λ o text. (1 ∷ text ≡ operation_bytes o) × OperationIs version code me temporaries places o)
unfolding read_at
read_reads version code me temporaries places =
    reads_then (field_id_reads code) (λ field there.
    reads_last _ (expression_reads (length code.variables) temporaries) (λ index is. (refl, (there, is))))

let_reads : (version : ℕ) (code : CodeShape) (me : HostId) (temporaries places : ℕ) → Reads (let_at code temporaries)
    (λ o text. (2 ∷ text ≡ operation_bytes o) × OperationIs version code me temporaries places o)
unfolding let_at
let_reads version code me temporaries places =
    reads_last _ (valued_reads code temporaries) (λ p is. (refl, is))

arg_reads : (version : ℕ) (code : CodeShape) (me : HostId) (temporaries places : ℕ) → Reads (arg_at code temporaries)
    (λ o text. (6 ∷ text ≡ operation_bytes o) × OperationIs version code me temporaries places o)
unfolding arg_at
arg_reads version code me temporaries places =
    reads_last _ (valued_reads code temporaries) (λ p is. (refl, is))

ret_reads : (version : ℕ) (code : CodeShape) (me : HostId) (temporaries places : ℕ) → Reads (ret_at code temporaries)
    (λ o text. (12 ∷ text ≡ operation_bytes o) × OperationIs version code me temporaries places o)
unfolding ret_at
ret_reads version code me temporaries places =
    reads_last _ (valued_reads code temporaries) (λ p is. (refl, is))

put_reads : (version : ℕ) (code : CodeShape) (me : HostId) (temporaries places : ℕ) → Reads (put_at code temporaries)
    (λ o text. (3 ∷ text ≡ operation_bytes o) × OperationIs version code me temporaries places o)
unfolding put_at
put_reads version code me temporaries places =
    reads_then (field_id_reads code) (λ field there.
    reads_then (expression_reads (length code.variables) temporaries) (λ index index_is.
    reads_last _ (expression_reads (length code.variables) temporaries) (λ value is. (refl, (there, (index_is, is))))))

send_reads : (version : ℕ) (code : CodeShape) (me : HostId) (temporaries places : ℕ) → Reads (send_at code me)
    (λ o text. (4 ∷ text ≡ operation_bytes o) × OperationIs version code me temporaries places o)
unfolding send_at
send_reads version code me temporaries places =
    reads_last _ (sent_reads code me) (λ p is. (refl, is))

pass_reads : (version : ℕ) (code : CodeShape) (me : HostId) (temporaries places : ℕ) → Reads (pass_at code me)
    (λ o text. (7 ∷ text ≡ operation_bytes o) × OperationIs version code me temporaries places o)
unfolding pass_at
pass_reads version code me temporaries places =
    reads_last _ (sent_reads code me) (λ p is. (refl, is))

frame_reads : (version : ℕ) (code : CodeShape) (me : HostId) (temporaries places : ℕ) → Reads (frame_at code me)
    (λ o text. (5 ∷ text ≡ operation_bytes o) × OperationIs version code me temporaries places o)
unfolding frame_at
frame_reads version code me temporaries places =
    reads_last _ (own_site_reads code me) (λ site is. (refl, is))

push_reads : (version : ℕ) (code : CodeShape) (me : HostId) (temporaries places : ℕ) → Reads (push_at code me)
    (λ o text. (8 ∷ text ≡ operation_bytes o) × OperationIs version code me temporaries places o)
unfolding push_at
push_reads version code me temporaries places =
    reads_last _ (own_entry_reads code me) (λ entry is. (refl, is))

ask_reads : (version : ℕ) (code : CodeShape) (me : HostId) (temporaries places : ℕ) → Reads (ask_at code me)
    (λ o text. (9 ∷ text ≡ operation_bytes o) × OperationIs version code me temporaries places o)
unfolding ask_at
ask_reads version code me temporaries places =
    reads_last _ (entered_reads code me) (λ p is. (refl, is))

go_reads : (version : ℕ) (code : CodeShape) (me : HostId) (temporaries places : ℕ) → Reads (go_at code me)
    (λ o text. (10 ∷ text ≡ operation_bytes o) × OperationIs version code me temporaries places o)
unfolding go_at
go_reads version code me temporaries places =
    reads_last _ (entered_reads code me) (λ p is. (refl, is))

call_reads : (version : ℕ) (code : CodeShape) (me : HostId) (temporaries places : ℕ) → Reads (call_at code)
    (λ o text. (11 ∷ text ≡ operation_bytes o) × OperationIs version code me temporaries places o)
unfolding call_at
call_reads version code me temporaries places =
    reads_then (some_entry_reads code) (λ entry apart.
    reads_last _ (host_of_entry_reads code entry) (λ on is. (refl, ((apart, is.1), is.0))))

branch_reads : (version : ℕ) (code : CodeShape) (me : HostId) (temporaries places : ℕ) →
    Reads (branch_at code temporaries places)
    (λ o text. (14 ∷ text ≡ operation_bytes o) × OperationIs version code me temporaries places o)
unfolding branch_at
branch_reads version code me temporaries places =
    reads_then (expression_reads (length code.variables) temporaries) (λ guard guard_is.
    reads_last _ (index_reads places) (λ target is. (refl, (guard_is, is))))

-- where values ride, the file is of version 2
go_with_reads : (version : ℕ) (code : CodeShape) (me : HostId) (temporaries places : ℕ) → version ≡ 2 →
    Reads (go_with_at code me)
    (λ o text. (15 ∷ text ≡ operation_bytes o) × OperationIs version code me temporaries places o)
unfolding go_with_at
go_with_reads version code me temporaries places is =
    reads_then (entered_reads code me) (λ p there. reads_last _ (riders_reads code) (λ riders are. (
      ap (λ text. 15 ∷ text) (append_assoc (number_bytes p.0.0) (host_id_bytes p.1) (riders_bytes riders)),
      (is, (there.0, there.1, are)),
    )))

call_with_reads : (version : ℕ) (code : CodeShape) (me : HostId) (temporaries places : ℕ) → version ≡ 2 →
    Reads (call_with_at code me)
    (λ o text. (16 ∷ text ≡ operation_bytes o) × OperationIs version code me temporaries places o)
unfolding call_with_at
call_with_reads version code me temporaries places is =
    reads_then (entered_reads code me) (λ p there. reads_last _ (riders_reads code) (λ riders are. (
      ap (λ text. 16 ∷ text) (append_assoc (number_bytes p.0.0) (host_id_bytes p.1) (riders_bytes riders)),
      (is, (there.0, there.1, are)),
    )))

-- the tag of an operation with which values ride
reads_riding : {version byte : ℕ} {reader : SplitReader Op} {P : Op → Type 0} (tag : ℕ) →
    (byte == tag && version == 2) ≡ true →
    (version ≡ 2 → Reads reader (λ o text. (tag ∷ text ≡ operation_bytes o) × P o)) →
    Reads reader (λ o text. (byte ∷ text ≡ operation_bytes o) × P o)
reads_riding {version = version} {byte = byte} tag is reads =
    let parts = and_parts (byte == tag) (version == 2) is in
    reads_tag tag byte parts.0 (reads (eqb-true version 2 parts.1))

operation_tail : (version : ℕ) (code : CodeShape) (me : HostId) (temporaries places at byte : ℕ) →
    Reads (operation_of version code me temporaries places at byte)
    (λ o text. (byte ∷ text ≡ operation_bytes o) × OperationIs version code me temporaries places o)
unfolding operation_of
operation_tail version code me temporaries places at byte =
    reads_if (byte == 1) (λ is. reads_tag 1 byte is (read_reads version code me temporaries places)) (λ _.
    reads_if (byte == 2) (λ is. reads_tag 2 byte is (let_reads version code me temporaries places)) (λ _.
    reads_if (byte == 3) (λ is. reads_tag 3 byte is (put_reads version code me temporaries places)) (λ _.
    reads_if (byte == 4) (λ is. reads_tag 4 byte is (send_reads version code me temporaries places)) (λ _.
    reads_if (byte == 5) (λ is. reads_tag 5 byte is (frame_reads version code me temporaries places)) (λ _.
    reads_if (byte == 6) (λ is. reads_tag 6 byte is (arg_reads version code me temporaries places)) (λ _.
    reads_if (byte == 7) (λ is. reads_tag 7 byte is (pass_reads version code me temporaries places)) (λ _.
    reads_if (byte == 8) (λ is. reads_tag 8 byte is (push_reads version code me temporaries places)) (λ _.
    reads_if (byte == 9) (λ is. reads_tag 9 byte is (ask_reads version code me temporaries places)) (λ _.
    reads_if (byte == 10) (λ is. reads_tag 10 byte is (go_reads version code me temporaries places)) (λ _.
    reads_if (byte == 11) (λ is. reads_tag 11 byte is (call_reads version code me temporaries places)) (λ _.
    reads_if (byte == 12) (λ is. reads_tag 12 byte is (ret_reads version code me temporaries places)) (λ _.
    reads_if (byte == 13) (λ is. reads_tag 13 byte is (reads_given op.Back (refl, tt))) (λ _.
    reads_if (byte == 14) (λ is. reads_tag 14 byte is (branch_reads version code me temporaries places)) (λ _.
    reads_if (byte == 15 && version == 2)
    (λ is. reads_riding 15 is (go_with_reads version code me temporaries places)) (λ _.
    reads_if (byte == 16 && version == 2)
    (λ is. reads_riding 16 is (call_with_reads version code me temporaries places)) (λ _.
    reads_refused (fault.BadField at)))))))))))))))))

pub operation_reads : (version : ℕ) (code : CodeShape) (me : HostId) (temporaries places : ℕ) →
    Reads (operation_at version code me temporaries places)
    (λ o text. (text ≡ operation_bytes o) × OperationIs version code me temporaries places o)
unfolding operation_at
operation_reads version code me temporaries places =
    reads_place (λ at. reads_then (byte_reads _) (λ byte lt. operation_tail version code me temporaries places at byte))

-- ---- what is read again

abbrev Tail : ℕ → CodeShape → HostId → ℕ → ℕ → ℕ → SplitReader Op
Tail version code me temporaries places at =
    sequel byte_at (λ byte. operation_of version code me temporaries places at byte)

operation_behind : (version : ℕ) (code : CodeShape) (me : HostId) (temporaries places at : ℕ) (o : Op) → IsFew code →
    temporaries < 2 ^ 32 → places < 2 ^ 32 → OperationIs version code me temporaries places o →
    Again (Tail version code me temporaries places at) o (operation_bytes o)
unfolding operation_of read_at let_at put_at send_at frame_at arg_at pass_at push_at ask_at go_at call_at ret_at
    branch_at go_with_at call_with_at
operation_behind version code me temporaries places at (op.Read field index) few short limit is =
    again_then (operation_of version code me temporaries places at) (byte_again _ 1)
    (again_then _ (field_id_again code field few is.0)
    (again_last (op.Read field) (expression_again (length code.variables) temporaries index few.variables short is.1)))
operation_behind version code me temporaries places at (op.Let variable value) few short limit is =
    again_then (operation_of version code me temporaries places at) (byte_again _ 2)
    (again_last (λ p. op.Let p.0 p.1) (valued_again code temporaries variable value few short is.0 is.1))
operation_behind version code me temporaries places at (op.Put field index value) few short limit is =
    again_then (operation_of version code me temporaries places at) (byte_again _ 3)
    (again_then _ (field_id_again code field few is.0)
    (again_then _ (expression_again (length code.variables) temporaries index few.variables short is.1.0)
    (again_last (op.Put field index)
    (expression_again (length code.variables) temporaries value few.variables short is.1.1))))
operation_behind version code me temporaries places at (op.Send variable to) few short limit is =
    again_then (operation_of version code me temporaries places at) (byte_again _ 4)
    (again_last (λ p. op.Send p.0 p.1) (sent_again code me variable to few is.0 is.1))
operation_behind version code me temporaries places at (op.Frame site) few short limit is =
    again_then (operation_of version code me temporaries places at) (byte_again _ 5)
    (again_last op.Frame (own_site_again code me site few is))
operation_behind version code me temporaries places at (op.Arg variable value) few short limit is =
    again_then (operation_of version code me temporaries places at) (byte_again _ 6)
    (again_last (λ p. op.Arg p.0 p.1) (valued_again code temporaries variable value few short is.0 is.1))
operation_behind version code me temporaries places at (op.Pass variable to) few short limit is =
    again_then (operation_of version code me temporaries places at) (byte_again _ 7)
    (again_last (λ p. op.Pass p.0 p.1) (sent_again code me variable to few is.0 is.1))
operation_behind version code me temporaries places at (op.Push entry) few short limit is =
    again_then (operation_of version code me temporaries places at) (byte_again _ 8)
    (again_last op.Push (own_entry_again code me entry few is))
operation_behind version code me temporaries places at (op.Ask entry on) few short limit is =
    again_then (operation_of version code me temporaries places at) (byte_again _ 9)
    (again_last (λ p. op.Ask p.0 p.1) (entered_again code me entry on few is.0 is.1))
operation_behind version code me temporaries places at (op.Go entry on) few short limit is =
    again_then (operation_of version code me temporaries places at) (byte_again _ 10)
    (again_last (λ p. op.Go p.0 p.1) (entered_again code me entry on few is.0 is.1))
operation_behind version code me temporaries places at (op.Call entry on) few short limit is =
    again_then (operation_of version code me temporaries places at) (byte_again _ 11)
    (again_then _ (some_entry_again code on entry few is.0)
    (again_last (op.Call entry) (host_of_entry_again code entry on is.1 is.0)))
operation_behind version code me temporaries places at (op.Ret variable value) few short limit is =
    again_then (operation_of version code me temporaries places at) (byte_again _ 12)
    (again_last (λ p. op.Ret p.0 p.1) (valued_again code temporaries variable value few short is.0 is.1))
operation_behind version code me temporaries places at op.Back few short limit is =
    again_then (operation_of version code me temporaries places at) (byte_again _ 13)
    (again_given op.Back)
operation_behind version code me temporaries places at (op.Branch guard target) few short limit is =
    again_then (operation_of version code me temporaries places at) (byte_again _ 14)
    (again_then _ (expression_again (length code.variables) temporaries guard few.variables short is.0)
    (again_last (op.Branch guard) (index_again places target limit is.1)))
operation_behind version code me temporaries places at (op.GoWith entry on riders) few short limit is =
    again_then (operation_of version code me temporaries places at) (byte_again _ 15)
    (rw (eq-eqb version 2 is.0) (carried_again code me op.GoWith entry on riders few is.1.0 is.1.1 is.1.2))
operation_behind version code me temporaries places at (op.CallWith entry on riders) few short limit is =
    again_then (operation_of version code me temporaries places at) (byte_again _ 16)
    (rw (eq-eqb version 2 is.0) (carried_again code me op.CallWith entry on riders few is.1.0 is.1.1 is.1.2))

pub operation_again : (version : ℕ) (code : CodeShape) (me : HostId) (temporaries places : ℕ) (o : Op) → IsFew code →
    temporaries < 2 ^ 32 → places < 2 ^ 32 → OperationIs version code me temporaries places o →
    Again (operation_at version code me temporaries places) o (operation_bytes o)
unfolding operation_at
operation_again version code me temporaries places o few short limit is =
    again_place (λ at. operation_behind version code me temporaries places at o few short limit is)
