-- Lists of what is still to be done: the statements of a block before others, and what comes first.
use Rattle.std.proofs.Common.{◌≡◌, ◌∙◌, ℕ, ◌⊎◌, inl, inr, true, List, [], ◌∷◌, ◌++◌, map, refl, ap, sym, subst}
use Rattle.std.specs.Prelude.{⊤}
use Rattle.std.specs.List.{AllByRecursion}
use Rattle.js_base.specs.declared.ids.HostId.{HostId}
use Rattle.js_base.specs.declared.ids.VarId.{VarId}
use Rattle.jif_tree.specs.declared.program.Stmt.{Stmt}
use Rattle.jif_tree.specs.declared.program.StmtKind.{StmtKind}
use Rattle.jif_tree.specs.declared.program.StmtKind as kind
use Rattle.jif_tree.specs.SourceRun as source
use Rattle.jif_tree.specs.SourceRun.{Configuration}
use Rattle.jif_tree.specs.Trees.{Heading, BlockTree, done, block_tree, row_tree, statement_tree, head_of}
use Rattle.host_code.specs.Code.{CodeShape}
use Rattle.msg_cost.specs.Moves.{PlannedShape}
use Rattle.split_rules.specs.Positions as positions
use Rattle.split_rules.specs.Positions.{DueWork, all_due, is_on, statements_of}
use Rattle.typed_steps.specs.Readers.{IsFit}
use Rattle.typed_steps.specs.Views.{Split}
use Rattle.typed_steps.specs.Chains.{Duty, under}
use Rattle.typed_steps.specs.Threads.{IsOfMethodWith, alone, Owed, to_run, to_keep, item_of, duty_of, IsKeeping}
use Rattle.typed_steps.specs.Threads.{IsKnownWork}
use Rattle.typed_steps.specs.Threads.{IsReturn}
use Rattle.typed_steps.specs.Threads.{Returns, MayFollow, AreReturned, ResultStandsOn, IsLeft, NoneKept}

-- ---- what does not begin with a result that is to be kept

abbrev pub BeginsPlainly : List Owed → Type 0
BeginsPlainly (to_keep call statement into result ∷ others) = ⊥
BeginsPlainly others = ⊤

pub plainly_behind : (split : Split) (owed : Owed) (behind : List Owed) → MayFollow split owed behind →
    (Returns owed → ⊥) → BeginsPlainly behind
plainly_behind split owed [] follows none = tt
plainly_behind split owed (to_run call statement ∷ behind) follows none = tt
plainly_behind split owed (to_keep call statement into result ∷ behind) follows none = none follows.0

pub none_kept : (c : Configuration) (behind : List Owed) → c.pending ≡ map item_of behind → BeginsPlainly behind →
    NoneKept c
none_kept c [] pending plainly call into result others is =
    absurd (let both : [] ≡ source.keep call into result ∷ others = sym pending ∙ is in cc)
none_kept c (to_run number statement ∷ behind) pending plainly call into result others is =
    absurd (let both : source.run number statement ∷ map item_of behind ≡ source.keep call into result ∷ others =
    sym pending ∙ is in cc)
none_kept c (to_keep number statement kept given ∷ behind) pending plainly call into result others is = absurd plainly

pub stands_plainly : (split : Split) (keeper : HostId) (behind : List Owed) → BeginsPlainly behind →
    ResultStandsOn split keeper behind
stands_plainly split keeper [] plainly = tt
stands_plainly split keeper (to_run call statement ∷ behind) plainly = tt
stands_plainly split keeper (to_keep call statement into result ∷ behind) plainly = absurd plainly

pub follows_plainly : (split : Split) (owed : Owed) (behind : List Owed) → BeginsPlainly behind →
    MayFollow split owed behind
follows_plainly split owed [] plainly = tt
follows_plainly split owed (to_run call statement ∷ behind) plainly = tt
follows_plainly split owed (to_keep call statement into result ∷ behind) plainly = absurd plainly

-- ---- what comes first

-- a statement of a call
pub record RunsFirst (split : Split) (c : Configuration) (call : ℕ) (first : DueWork) (others : List Duty) : Type 0
  where
    pub statement : Stmt
    pub behind : List Owed
    pub pending : c.pending ≡ source.run call statement ∷ map item_of behind
    pub is : first ≡ positions.run (alone statement)
    pub due : others ≡ map duty_of behind
    pub fit : IsFit split.code split.planned (alone statement)
    pub known : AllByRecursion (IsKnownWork split) behind
    pub follows : MayFollow split (to_run call statement) behind
    pub returned : AreReturned split behind

-- a result that is to be kept
pub record KeepsFirst (split : Split) (c : Configuration) (keeper : HostId) (call : ℕ) (first : DueWork)
    (others : List Duty) : Type 0 where
  pub statement : Stmt
  pub into : VarId
  pub result : VarId
  pub behind : List Owed
  pub pending : c.pending ≡ source.keep call into result ∷ map item_of behind
  pub is : first ≡ positions.keep (alone statement)
  pub due : others ≡ map duty_of behind
  pub keeping : IsKeeping split statement into result
  pub on_host : is_on split.planned keeper (alone statement) ≡ true
  pub known : AllByRecursion (IsKnownWork split) behind
  pub plainly : BeginsPlainly behind
  pub returned : AreReturned split behind

abbrev pub IsFirst : Split → Configuration → HostId → ℕ → DueWork → List Duty → Type 0
IsFirst split c keeper call first others =
    RunsFirst split c call first others ⊎ KeepsFirst split c keeper call first others

first_of : (split : Split) (c : Configuration) (keeper : HostId) (call : ℕ) (first : DueWork) (others : List Duty)
    (left : List Owed) → c.pending ≡ map item_of left →
    record { call = call; due = first } ∷ others ≡ map duty_of left →
    AllByRecursion (IsKnownWork split) left → AreReturned split left → ResultStandsOn split keeper left →
    IsFirst split c keeper call first others
first_of split c keeper call first others [] pending due known returned stands = absurd (cc)
first_of split c keeper call first others (to_run number statement ∷ behind) pending due known returned stands =
    let own : Duty = record { call = call; due = first } in
    let one : own ≡ duty_of (to_run number statement) = cc in
    let same : number ≡ call = sym (ap (λ (d : Duty). d.call) one) in
    inl (record {
      statement = statement;
      behind = behind;
      pending = pending ∙ ap (λ n. source.run n statement ∷ map item_of behind) same;
      is = ap (λ (d : Duty). d.due) one;
      due = cc;
      fit = known.0;
      known = known.1;
      follows = subst (λ n. MayFollow split (to_run n statement) behind) same returned.0;
      returned = returned.1;
    })
first_of split c keeper call first others (to_keep number statement into result ∷ behind) pending due known returned
    stands =
    let own : Duty = record { call = call; due = first } in
    let one : own ≡ duty_of (to_keep number statement into result) = cc in
    let same : number ≡ call = sym (ap (λ (d : Duty). d.call) one) in
    inr (record {
      statement = statement;
      into = into;
      result = result;
      behind = behind;
      pending = pending ∙ ap (λ n. source.keep n into result ∷ map item_of behind) same;
      is = ap (λ (d : Duty). d.due) one;
      due = cc;
      keeping = known.0;
      on_host = stands;
      known = known.1;
      plainly = plainly_behind split (to_keep number statement into result) behind returned.0 (λ no. no);
      returned = returned.1;
    })

-- what is due first at a position, and what is behind that
pub front_of : (split : Split) (c : Configuration) (keeper : HostId) (call : ℕ) (here : List DueWork) (rest : List Duty)
    (first : DueWork) (others : List DueWork) → here ≡ first ∷ others →
    IsLeft split c keeper (under call here ++ rest) →
    IsFirst split c keeper call first (under call others ++ rest)
front_of split c keeper call here rest first others due left =
    first_of split c keeper call first (under call others ++ rest) left.left left.pending
    (sym (ap (λ list. under call list ++ rest) due) ∙ left.due) left.known left.returned left.stands

-- ---- the statements of a block before others

abbrev pub to_run_all : ℕ → List Stmt → List Owed
to_run_all call statements = map (to_run call) statements

one_statement : (what : StmtKind) (heading : Heading) (rest : BlockTree) →
    statements_of (statement_tree what heading rest) ≡ statement_tree what heading done ∷ statements_of rest
one_statement (kind.Let x value) heading rest = refl
one_statement (kind.SetField field value) heading rest = refl
one_statement (kind.SetElement field index value) heading rest = refl
one_statement (kind.If' guard m first n second) heading rest = refl
one_statement (kind.While' guard m body) heading rest = refl
one_statement (kind.Call site method args into) heading rest = refl
one_statement (kind.Return value) heading rest = refl

record FitApart (code : CodeShape) (planned : PlannedShape) (what : StmtKind) (heading : Heading) (rest : BlockTree) :
    Type 0 where
  own : IsFit code planned (statement_tree what heading done)
  behind : IsFit code planned rest

fit_apart : (code : CodeShape) (planned : PlannedShape) (what : StmtKind) (heading : Heading) (rest : BlockTree) →
    IsFit code planned (statement_tree what heading rest) → FitApart code planned what heading rest
fit_apart code planned (kind.Let x value) heading rest fit = record { own = (fit.0, tt); behind = fit.1 }
fit_apart code planned (kind.SetField field value) heading rest fit = record { own = (fit.0, tt); behind = fit.1 }
fit_apart code planned (kind.SetElement field index value) heading rest fit =
    record { own = (fit.0, fit.1, tt); behind = fit.2 }
fit_apart code planned (kind.If' guard m first n second) heading rest fit =
    record { own = (fit.0, fit.1, fit.2, tt); behind = fit.3 }
fit_apart code planned (kind.While' guard m body) heading rest fit =
    record { own = (fit.0, fit.1, tt); behind = fit.2 }
fit_apart code planned (kind.Call site method args into) heading rest fit =
    record { own = (fit.0, fit.1, fit.2, tt); behind = fit.3 }
fit_apart code planned (kind.Return value) heading rest fit = record { own = (fit.0, tt); behind = fit.1 }

-- the statements of a block, with what is known of them
pub record AreStatements (code : CodeShape) (planned : PlannedShape) (block : BlockTree) (statements : List Stmt) :
    Type 0 where
  pub due : all_due block ≡ map (λ one. positions.run (alone one)) statements
  pub fit : IsFit code planned block → AllByRecursion (λ one. IsFit code planned (alone one)) statements

one_more : (code : CodeShape) (planned : PlannedShape) (statement : Stmt) (block : BlockTree) (statements : List Stmt) →
    AreStatements code planned block statements →
    AreStatements code planned
    (statement_tree statement.kind (head_of statement) block)
    (statement ∷ statements)
one_more code planned statement block statements others =
    let heading : Heading = head_of statement in
    record {
      due = ap (map positions.run) (one_statement statement.kind heading block)
          ∙ ap (λ list. positions.run (alone statement) ∷ list) others.due;
      fit = λ fit.
          let apart = fit_apart code planned statement.kind heading block fit in
          (apart.own, others.fit apart.behind);
    }

pub row_statements : (code : CodeShape) (planned : PlannedShape) {n : _} (row : kind.Row_of-Stmt n) →
    AreStatements code planned (row_tree row) (source.statements_of row)
row_statements code planned kind.end_of-Stmt = record { due = refl; fit = λ fit. tt }
row_statements code planned (kind.more_of-Stmt id line what rest) =
    one_more code planned (record { id = id; line = line; kind = what }) (row_tree rest) (source.statements_of rest)
    (row_statements code planned rest)

pub block_statements : (code : CodeShape) (planned : PlannedShape) (statements : List Stmt) →
    AreStatements code planned (block_tree statements) statements
block_statements code planned [] = record { due = refl; fit = λ fit. tt }
block_statements code planned (statement ∷ statements) =
    one_more code planned statement (block_tree statements) statements (block_statements code planned statements)

pub items_before : (call : ℕ) (statements : List Stmt) (behind : List Owed) →
    map item_of (to_run_all call statements ++ behind) ≡ map (source.run call) statements ++ map item_of behind
items_before call [] behind = refl
items_before call (statement ∷ statements) behind =
    ap (λ list. source.run call statement ∷ list) (items_before call statements behind)

pub duties_before : (call : ℕ) (statements : List Stmt) (behind : List Owed) →
    map duty_of (to_run_all call statements ++ behind)
    ≡ under call (map (λ one. positions.run (alone one)) statements) ++ map duty_of behind
duties_before call [] behind = refl
duties_before call (statement ∷ statements) behind =
    ap (λ list. duty_of (to_run call statement) ∷ list) (duties_before call statements behind)

pub known_before : (split : Split) (call : ℕ) (statements : List Stmt) (behind : List Owed) →
    AllByRecursion (λ one. IsFit split.code split.planned (alone one)) statements →
    AllByRecursion (IsKnownWork split) behind →
    AllByRecursion (IsKnownWork split) (to_run_all call statements ++ behind)
known_before split call [] behind fit known = known
known_before split call (statement ∷ statements) behind fit known =
    (fit.0, known_before split call statements behind fit.1 known)

pub plainly_before : (call : ℕ) (statements : List Stmt) (behind : List Owed) → BeginsPlainly behind →
    BeginsPlainly (to_run_all call statements ++ behind)
plainly_before call [] behind plainly = plainly
plainly_before call (statement ∷ statements) behind plainly = tt

pub returned_before : (split : Split) (call : ℕ) (statements : List Stmt) (behind : List Owed) → BeginsPlainly behind →
    AreReturned split behind → AreReturned split (to_run_all call statements ++ behind)
returned_before split call [] behind plainly returned = returned
returned_before split call (statement ∷ statements) behind plainly returned = (
  follows_plainly split (to_run call statement) (to_run_all call statements ++ behind)
      (plainly_before call statements behind plainly),
  returned_before split call statements behind plainly returned,
)

-- a body that ends by giving a result of its method back
abbrev pub EndsWithReturn : Split → VarId → List Stmt → Type 0
EndsWithReturn split result [] = ⊥
EndsWithReturn split result (statement ∷ []) = IsReturn statement.kind
    × IsOfMethodWith split (to_run 0 statement) result
EndsWithReturn split result (statement ∷ next ∷ statements) = EndsWithReturn split result (next ∷ statements)

pub plainly_ending : (split : Split) (result : VarId) (call : ℕ) (statements : List Stmt) (behind : List Owed) →
    EndsWithReturn split result statements →
    BeginsPlainly (to_run_all call statements ++ behind)
plainly_ending split result call [] behind ends = absurd ends
plainly_ending split result call (statement ∷ statements) behind ends = tt

pub returned_ending : (split : Split) (call : ℕ) (statements : List Stmt) (caller : ℕ) (from : Stmt)
    (into result : VarId) (behind : List Owed) → EndsWithReturn split result statements → BeginsPlainly behind →
    AreReturned split behind →
    AreReturned split (to_run_all call statements ++ to_keep caller from into result ∷ behind)
returned_ending split call [] caller from into result behind ends plainly returned = absurd ends
returned_ending split call (statement ∷ []) caller from into result behind ends plainly returned =
    (ends, (follows_plainly split (to_keep caller from into result) behind plainly, returned))
returned_ending split call (statement ∷ next ∷ statements) caller from into result behind ends plainly returned =
    (tt, returned_ending split call (next ∷ statements) caller from into result behind ends plainly returned)
