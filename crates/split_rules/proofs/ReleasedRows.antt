-- What one pass over the instructions of a host tells that these release, for parts of a walk.
use Rattle.std.proofs.Common.{◌≡◌, ◌∙◌, ℕ, Bool, true, false, List, [], ◌∷◌, ◌++◌, map, refl, ap, sym, subst}
use Rattle.std.proofs.Common.{append_assoc, nat_eq, if◌then◌else◌}
use Rattle.std.proofs.lemmas.List.{map-append}
use Rattle.js_base.specs.declared.ids.HostId.{HostId}
use Rattle.js_base.specs.declared.ids.StmtId.{StmtId}
use Rattle.label_lattice.specs.declared.label.Label.{Label}
use Rattle.jif_tree.specs.Trees.{BlockTree}
use Rattle.host_code.specs.declared.code_expr.Node.{Node}
use Rattle.host_code.specs.declared.instruction.Instr.{Instr}
use Rattle.host_code.specs.declared.instruction.Op.{Op}
use Rattle.host_code.specs.declared.instruction.Op.TheVariants as op
use Rattle.split_rules.specs.Emissions.{Emission, instruction, Emitted}
use Rattle.split_rules.specs.Expressions.{ElementReading}
use Rattle.split_rules.specs.ReleaseRows.{read_rows, statement_at, statement_rows, evaluates, rows_for, first_row}
use Rattle.split_rules.specs.ReleaseRows.{other_rows, row_of, left_behind, rows_told}
use Rattle.split_rules.specs.SplitCode.{emitted_on, placed_instruction, landed}
use Rattle.split_rules.specs.Walk.{releasing, emitted, read_emissions}
use Rattle.split_rules.proofs.Places.{emitted_append}

-- a host, with what its instructions are read off
pub record Pass : Type 0 where
  pub statements : List BlockTree
  pub labels : List Label
  pub all : List Emission
  pub host : HostId

-- the instructions of the host, and what they release
abbrev pub own_instructions : Pass → List Emission → List Instr
own_instructions pass xs = map (placed_instruction pass.labels pass.all) (emitted_on pass.host xs)

abbrev pub own_rows : Pass → List Emission → List (List (List Node))
own_rows pass xs = map (λ one. one.released) (emitted_on pass.host xs)

-- whether an instruction evaluates an expression of its statement, where it stands in code
abbrev pub Evaluates : Pass → Emitted → Bool → Type 0
Evaluates pass one is =
    evaluates (statement_at pass.statements one.statement) (landed one.host pass.all one.op) ≡ is

-- With these rows left before them, emissions are told what they release, and these are left behind them, whatever
-- follows.
pub record Tells (pass : Pass) (left : List (List (List Node))) (xs : List Emission)
    (behind : List (List (List Node))) : Type 0 where
  pub rows : (more : List Instr) → rows_told pass.statements left (own_instructions pass xs ++ more)
      ≡ own_rows pass xs ++ rows_told pass.statements behind more

apart : {Y : Type 0} (f : Emitted → Y) (host : HostId) (xs ys : List Emission) →
    map f (emitted_on host (xs ++ ys)) ≡ map f (emitted_on host xs) ++ map f (emitted_on host ys)
apart f host xs ys = ap (map f) (emitted_append host xs ys) ∙ map-append f (emitted_on host xs) (emitted_on host ys)

pub tells_on : (pass : Pass) {left middle last : List (List (List Node))} {xs ys : List Emission} →
    Tells pass left xs middle → Tells pass middle ys last → Tells pass left (xs ++ ys) last
tells_on pass {left} {middle} {last} {xs} {ys} one two = record { rows = both }
  where
    place : Emitted → Instr
    place = placed_instruction pass.labels pass.all

    released : Emitted → List (List Node)
    released it = it.released

    both : (more : List Instr) → rows_told pass.statements left (own_instructions pass (xs ++ ys) ++ more)
        ≡ own_rows pass (xs ++ ys) ++ rows_told pass.statements last more
    both more =
        ap (λ list. rows_told pass.statements left (list ++ more)) (apart place pass.host xs ys)
        ∙ ap (rows_told pass.statements left) (append_assoc (own_instructions pass xs) (own_instructions pass ys) more)
        ∙ one.rows (own_instructions pass ys ++ more)
        ∙ ap (λ list. own_rows pass xs ++ list) (two.rows more)
        ∙ sym (append_assoc (own_rows pass xs) (own_rows pass ys) (rows_told pass.statements last more))
        ∙ ap (λ list. list ++ rows_told pass.statements last more) (sym (apart released pass.host xs ys))

pub tells_none : (pass : Pass) (left : List (List (List Node))) → Tells pass left [] left
tells_none pass left = record { rows = λ more. refl }

-- one emission before others
pub tells_then : (pass : Pass) {left middle last : List (List (List Node))} {x : Emission} {xs : List Emission} →
    Tells pass left (x ∷ []) middle → Tells pass middle xs last → Tells pass left (x ∷ xs) last
tells_then pass {x = x} one others = tells_on pass {xs = x ∷ []} one others

-- ---- one instruction

-- one that evaluates nothing
pub tells_plain : (pass : Pass) (left : List (List (List Node))) (one : Emitted) → Evaluates pass one false →
    one.released ≡ [] → Tells pass left (instruction one ∷ []) left
tells_plain pass left one none released = record { rows = λ more. by (nat_eq one.host.0 pass.host.0) more }
  where
    by : (own : Bool) (more : List Instr) →
        rows_told pass.statements left (map (placed_instruction pass.labels pass.all)
        (if own then one ∷ [] else []) ++ more)
        ≡ map (λ (it : Emitted). it.released) (if own then one ∷ [] else []) ++ rows_told pass.statements left more
    by true more = rw (none, released) refl
    by false more = refl

-- rows for the instructions of a host, where these are the host's
abbrev pub rows_on : Pass → HostId → List (List (List Node)) → List (List (List Node))
rows_on pass on rows = if nat_eq on.0 pass.host.0 then rows else []

pub no_rows_on : (pass : Pass) (on : HostId) → rows_on pass on [] ≡ []
no_rows_on pass on = by (nat_eq on.0 pass.host.0)
  where
    none : List (List (List Node))
    none = []

    by : (own : Bool) → (if own then none else none) ≡ none
    by true = refl
    by false = refl

-- one that evaluates takes its row
pub tells_one : (pass : Pass) (one : Emitted) (rows : List (List (List Node))) → Evaluates pass one true →
    Tells pass (rows_on pass one.host (one.released ∷ rows)) (instruction one ∷ []) (rows_on pass one.host rows)
tells_one pass one rows does = record { rows = λ more. by (nat_eq one.host.0 pass.host.0) more }
  where
    by : (own : Bool) (more : List Instr) →
        rows_told pass.statements (if own then one.released ∷ rows else []) (map
        (placed_instruction pass.labels pass.all) (if own then one ∷ [] else []) ++ more)
        ≡ map (λ (it : Emitted). it.released) (if own then one ∷ [] else [])
        ++ rows_told pass.statements (if own then rows else []) more
    by true more = rw does refl
    by false more = refl

-- the first that evaluates finds all rows of its statement
pub tells_first : (pass : Pass) (one : Emitted) {xs : List Emission} {last : List (List (List Node))} →
    Evaluates pass one true →
    Tells pass (rows_on pass one.host (statement_rows (statement_at pass.statements one.statement)))
    (instruction one ∷ xs) last →
    Tells pass [] (instruction one ∷ xs) last
tells_first pass one {xs} {last} does told = record {
  rows = λ more. by (nat_eq one.host.0 pass.host.0) more ∙ told.rows more;
}
  where
    all : List (List (List Node))
    all = statement_rows (statement_at pass.statements one.statement)

    same : (rows : List (List (List Node))) → rows ≡ all →
        rows_for rows (statement_at pass.statements one.statement) ≡ all
    same [] is = refl
    same (row ∷ rows) is = is

    loaded : (others : List Instr) →
        rows_told pass.statements [] (placed_instruction pass.labels pass.all one ∷ others)
        ≡ rows_told pass.statements all (placed_instruction pass.labels pass.all one ∷ others)
    loaded others = rw (does, same all refl) refl

    by : (own : Bool) (more : List Instr) →
        rows_told pass.statements [] (map (placed_instruction pass.labels pass.all)
        (if own then one ∷ emitted_on pass.host xs else emitted_on pass.host xs) ++ more)
        ≡ rows_told pass.statements (if own then all else []) (map (placed_instruction pass.labels pass.all)
        (if own then one ∷ emitted_on pass.host xs else emitted_on pass.host xs) ++ more)
    by true more = loaded (own_instructions pass xs ++ more)
    by false more = refl

-- ---- expressions

-- reads take their rows
pub tells_reads : (pass : Pass) (on : HostId) (label : Label) (id : StmtId) (readings : List ElementReading)
    (rows : List (List (List Node))) →
    Tells pass (rows_on pass on (read_rows readings ++ rows)) (read_emissions on label id readings)
    (rows_on pass on rows)
tells_reads pass on label id [] rows = record { rows = λ more. refl }
tells_reads pass on label id (reading ∷ readings) rows =
    let one : Emitted = record {
      host = on;
      label = label;
      statement = id;
      op = op.Read reading.field reading.index;
      released = reading.released;
    } in
    tells_then pass (tells_one pass one (read_rows readings ++ rows) refl)
    (tells_reads pass on label id readings rows)

-- Reads and the instruction that uses what they left take their rows, where these are the next.
pub tells_group : (pass : Pass) (on : HostId) (label : Label) (id : StmtId) (readings : List ElementReading) (what : Op)
    (released : List (List Node)) (rows : List (List (List Node))) (more : List Emission)
    {last : List (List (List Node))} →
    Evaluates pass (record { host = on; label = label; statement = id; op = what; released = released }) true →
    Tells pass (rows_on pass on rows) more last →
    Tells pass (rows_on pass on (read_rows readings ++ released ∷ rows))
    (read_emissions on label id readings ++ releasing on label id what released ∷ more) last
tells_group pass on label id readings what released rows more does others =
    let one : Emitted = record { host = on; label = label; statement = id; op = what; released = released } in
    tells_on pass (tells_reads pass on label id readings (released ∷ rows))
    (tells_then pass (tells_one pass one rows does) others)

-- and so they do where they are the first of their statement
pub tells_begun : (pass : Pass) (on : HostId) (label : Label) (id : StmtId) (readings : List ElementReading) (what : Op)
    (released : List (List Node)) (more : List Emission) {last : List (List (List Node))} →
    Evaluates pass (record { host = on; label = label; statement = id; op = what; released = released }) true →
    Tells pass (rows_on pass on (statement_rows (statement_at pass.statements id)))
    (read_emissions on label id readings ++ releasing on label id what released ∷ more) last →
    Tells pass [] (read_emissions on label id readings ++ releasing on label id what released ∷ more) last
tells_begun pass on label id [] what released more does told =
    tells_first pass (record { host = on; label = label; statement = id; op = what; released = released }) does told
tells_begun pass on label id (reading ∷ readings) what released more does told =
    tells_first pass (record {
      host = on;
      label = label;
      statement = id;
      op = op.Read reading.field reading.index;
      released = reading.released;
    }) refl told

-- all of a statement that evaluates one value, or several by one instruction
pub tells_all : (pass : Pass) (on : HostId) (label : Label) (id : StmtId) (readings : List ElementReading) (what : Op)
    (released : List (List Node)) (more : List Emission) {last : List (List (List Node))} →
    Evaluates pass (record { host = on; label = label; statement = id; op = what; released = released }) true →
    statement_rows (statement_at pass.statements id) ≡ read_rows readings ++ released ∷ [] →
    Tells pass [] more last →
    Tells pass [] (read_emissions on label id readings ++ releasing on label id what released ∷ more) last
tells_all pass on label id readings what released more {last} does rows_are others =
    let xs = read_emissions on label id readings ++ releasing on label id what released ∷ more in
    let P : List (List (List Node)) → Type 0 = λ rows. Tells pass (rows_on pass on rows) xs last in
    let Q : List (List (List Node)) → Type 0 = λ left. Tells pass left more last in
    tells_begun pass on label id readings what released more does
    (subst P (sym rows_are) (tells_group pass on label id readings what released [] more does
    (subst Q (sym (no_rows_on pass on)) others)))
