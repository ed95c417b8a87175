-- What each instruction asks of the position at which it stands, and what it makes of it. The laws speak of one
-- instruction, of the position behind it, and of the entries that it names.
--
-- Needs are exact where entries are pushed. The need of an entry that is pushed or gone to is that of what is due
-- there, and not only as much. So whoever pushes an entry is trusted for its need, since it is trusted for all that is
-- due.
use Rattle.std.specs.Prelude.{◌≡◌, ℕ, suc, true, List, [], ◌∷◌, ◌++◌, length, map, Option, Some, None, slice_get}
use Rattle.std.specs.Prelude.{◌⊎◌, ◌≤◌, slice_index, ◌<◌}
use Rattle.std.specs.Int.{bit_at}
use Rattle.std.specs.List.{AllByRecursion}
use Rattle.js_base.specs.declared.ids.HostId.{HostId}
use Rattle.js_base.specs.declared.ids.FieldId.{FieldId}
use Rattle.js_base.specs.declared.ids.VarId.{VarId}
use Rattle.js_base.specs.declared.ids.MethodId.{MethodId}
use Rattle.js_base.specs.declared.ids.SiteId.{SiteId}
use Rattle.label_lattice.specs.declared.label.TheConstants.{READERS}
use Rattle.jif_tree.specs.Trees.{ExprTree, BlockTree, done, set_local, set_field, set_element, branch, loop, call}
use Rattle.jif_tree.specs.Trees.{give_back, MethodTree}
use Rattle.jif_tree.specs.LabelRules.{method_at, params_of, result_of}
use Rattle.host_code.specs.declared.code_expr.Node.{Node}
use Rattle.host_code.specs.declared.code_expr.Node.TheVariants as node
use Rattle.host_code.specs.declared.instruction.Op.{Op}
use Rattle.host_code.specs.declared.instruction.Op.TheVariants as op
use Rattle.msg_cost.specs.Moves.{PlannedShape, is_trusted_for}
use Rattle.split_rules.specs.Emissions.{Emission, instruction, entry, stands, lands}
use Rattle.split_rules.specs.Expressions.{reads_in, nodes_of, first_element}
use Rattle.split_rules.specs.Walk.{need_of}
use Rattle.split_rules.specs.Positions.{IsStatementOfMethod, IsOf, number_of, due_numbers, Entrance, DueWork, run, keep}
use Rattle.split_rules.specs.Positions.{statement_due}
use Rattle.split_rules.specs.Positions.{is_on, all_due, kept_due, body, under, FieldRead, field_reads, Argument}
use Rattle.split_rules.specs.Positions.{Calling, no_call, arguing, entering, Forward, arguments_of, reads_due, Position}
use Rattle.split_rules.specs.Positions.{calm, with_reads, with_forwards, forwards_of, IsOut, without_forward}

-- ---- parts of the laws

-- the entry of a number has this position and this need
abbrev pub EntryIs : List Entrance → ℕ → Position → ℕ → Type 0
EntryIs entries number position need =
    slice_get entries number ≡ Some (record { position = position; need = need })

-- the branch of a number leads to this position
abbrev pub BranchLeadsTo : List Position → ℕ → Position → Type 0
BranchLeadsTo branches number position = slice_get branches number ≡ Some position

-- a host is trusted for all that is due
abbrev pub AreDueOn : PlannedShape → HostId → List DueWork → Type 0
AreDueOn planned host due =
    AllByRecursion (λ item. (is_trusted_for planned host (number_of (statement_due item)) ≡ true)
    × IsOf planned.program (statement_due item)) due

abbrev pub IsParam : VarId → List VarId → Type 0
IsParam x [] = ⊥
IsParam x (param ∷ params) = (param ≡ x) ⊎ IsParam x params

-- a statement gives a variable its value: an assignment, or a call whose parameter or kept result it is
abbrev pub GivesVariable : PlannedShape → BlockTree → VarId → Type 0
GivesVariable planned (set_local heading variable value rest) x = variable ≡ x
GivesVariable planned (call heading site method arguments into rest) x =
    (into ≡ Some x) ⊎ IsParam x (params_of (method_at planned.program method))
GivesVariable planned other x = ⊥

-- What has to be sent was given its value by a statement of the program on this host, which is trusted for the
-- statement.
abbrev pub AreSourced : PlannedShape → HostId → List Forward → Type 0
AreSourced planned me forwards = AllByRecursion (λ forward. (is_on planned me forward.source ≡ true)
    × (is_trusted_for planned me (number_of forward.source) ≡ true) × IsOf planned.program forward.source
    × GivesVariable planned forward.source forward.variable) forwards

-- a host is trusted for what is due and for what has to be sent
abbrev pub IsTrustedAt : PlannedShape → HostId → Position → Type 0
IsTrustedAt planned me here = AreDueOn planned me here.due × AreSourced planned me here.forwards

-- whoever has to trust the host of a statement for which something is due is in the word
abbrev pub Covers : PlannedShape → ℕ → List DueWork → Type 0
Covers planned need due = AllByRecursion (λ item. (principal : ℕ) → principal < READERS →
    bit_at (slice_index planned.needs.need (number_of (statement_due item)).0) principal ≤ bit_at need principal) due

-- those who have to trust whoever enters where this is due, and nobody else
abbrev pub need_due : PlannedShape → List DueWork → ℕ
need_due planned due = need_of planned (due_numbers due)

-- those who have to trust whoever enters a method; nobody where there is none
abbrev pub need_of_method : PlannedShape → Option MethodTree → ℕ
need_of_method planned None = 0
need_of_method planned (Some method) = need_of planned (method.head ∷ [])

abbrev pub IsCalm : Position → Type 0
IsCalm position = position ≡ calm position.level position.due

-- nothing was read and no call is made; something may still have to be sent
abbrev pub IsIdle : Position → Type 0
IsIdle position = (position.reads ≡ []) × (position.calling ≡ no_call)

-- All that has still to be sent rides to one host: these variables, in their order.
abbrev pub RidesAll : List VarId → HostId → List Forward → Type 0
RidesAll riders on forwards = (map (λ forward. forward.variable) forwards ≡ riders)
    × AllByRecursion (λ forward. forward.host ≡ on) forwards

-- what comes first stands on this host, and nothing has to be sent before it
pub record BeginsWith (planned : PlannedShape) (me : HostId) (here : Position) (first : DueWork)
    (others : List DueWork) :
    Type 0 where
  pub due : here.due ≡ first ∷ others
  pub on_host : is_on planned me (statement_due first) ≡ true
  pub forwards : here.forwards ≡ []

-- The nodes of an expression over the first temporaries, which hold what it reads.
pub record IsValue (here : Position) (value : ExprTree) (nodes : List Node) : Type 0 where
  pub reads : here.reads ≡ field_reads value
  pub are : nodes ≡ nodes_of 0 value

-- a variable is set by an assignment, or to the result of a call
abbrev pub Sets : PlannedShape → Position → DueWork → VarId → List Node → Type 0
Sets planned here (run (set_local heading variable value rest)) x nodes = (variable ≡ x) × IsValue here value nodes
Sets planned here (keep (call heading site method arguments into rest)) x nodes =
    (result : VarId) × (result_of (method_at planned.program method) ≡ Some result) × (into ≡ Some x)
    × (here.reads ≡ []) × (nodes ≡ node.Var result ∷ [])
Sets planned here other x nodes = ⊥

-- an assignment to a field
abbrev pub Stores : Position → DueWork → FieldId → List Node → List Node → Type 0
Stores here (run (set_field heading field value rest)) to at nodes =
    (field ≡ to) × (at ≡ first_element) × IsValue here value nodes
Stores here (run (set_element heading field index value rest)) to at nodes =
    (field ≡ to) × (here.reads ≡ field_reads index ++ field_reads value) × (at ≡ nodes_of 0 index)
    × (nodes ≡ nodes_of (reads_in index) value)
Stores here other to at nodes = ⊥

-- what is due first is a call of this site, all of whose parameters are then to be set
abbrev pub Frames : PlannedShape → Position → DueWork → SiteId → Position → Type 0
Frames planned here (run (call heading own method arguments into rest)) site next =
    (own ≡ site) × (next ≡ record {
      level = here.level;
      due = here.due;
      reads = [];
      calling = arguing (call heading own method arguments into rest) []
          (arguments_of (params_of (method_at planned.program method)) arguments);
      forwards = [];
    })
Frames planned here other site next = ⊥

-- what is due first is to give back this value
abbrev pub GivesBackDue : Position → DueWork → List Node → Type 0
GivesBackDue here (run (give_back heading value rest)) nodes = IsValue here value nodes
GivesBackDue here other nodes = ⊥

-- the body of a method, empty where there is none
abbrev pub body_of : Option MethodTree → BlockTree
body_of None = done
body_of (Some method) = method.body

-- ---- pushes

-- What is due is cut in two: what is behind stays with the entry that is pushed. What has still to be sent is sent
-- behind the push, or rides when the thread is handed over.
pub record Cuts (planned : PlannedShape) (entries : List Entrance) (here : Position) (number : ℕ) (next : Position) :
    Type 0 where
  pub idle : IsIdle here
  pub behind : List DueWork
  pub pushed : EntryIs entries number (calm here.level behind) (need_due planned behind)
  pub due : here.due ≡ next.due ++ behind
  pub goes : next ≡ with_forwards (calm (under number) next.due) here.forwards

-- The entry behind a call is pushed once all parameters are set. What the called method does is due from then on, and
-- the parameters that have still to be sent may ride with the call.
pub record PushesCall (planned : PlannedShape) (entries : List Entrance) (here : Position) (statement : BlockTree)
    (set : List Argument) (method : MethodId) (arguments : List ExprTree) (number : ℕ) (next : Position) : Type 0 where
  pub others : List DueWork
  pub due : here.due ≡ run statement ∷ others
  pub reads : here.reads ≡ []
  pub all_set : set ≡ arguments_of (params_of (method_at planned.program method)) arguments
  pub pushed : EntryIs entries number (calm here.level (kept_due planned statement ++ others))
      (need_due planned here.due)
  pub goes : next ≡ record {
    level = body method;
    due = all_due (body_of (method_at planned.program method));
    reads = [];
    calling = entering statement;
    forwards = here.forwards;
  }

abbrev pub Pushes : PlannedShape → List Entrance → Position → Calling → ℕ → Position → Type 0
Pushes planned entries here no_call number next = Cuts planned entries here number next
Pushes planned entries here (arguing (call heading site method arguments into rest) set left) number next =
    PushesCall planned entries here (call heading site method arguments into rest) set method arguments number next
Pushes planned entries here other number next = ⊥

-- ---- instructions

-- the element is read that is to be read next, by an index over the last temporaries
pub record Reads (planned : PlannedShape) (me : HostId) (here : Position) (field : FieldId) (nodes : List Node)
    (next : Position) : Type 0 where
  pub first : DueWork
  pub others : List DueWork
  pub due : here.due ≡ first ∷ others
  pub on_host : is_on planned me (statement_due first) ≡ true
  pub index : ExprTree
  pub behind : List FieldRead
  pub due_next : reads_due here.calling (statement_due first)
      ≡ here.reads ++ record { field = field; index = index } ∷ behind
  pub before : List FieldRead
  pub reads : here.reads ≡ before ++ field_reads index
  pub are : nodes ≡ nodes_of (length before) index
  pub goes : next ≡ with_reads here (here.reads ++ record { field = field; index = index } ∷ [])

-- the parameter is set that is to be set next, and those set before may still have to be sent
pub record SetsArgument (planned : PlannedShape) (me : HostId) (here : Position) (statement : BlockTree)
    (set left : List Argument) (x : VarId) (nodes : List Node) (next : Position) : Type 0 where
  pub value : ExprTree
  pub others : List Argument
  pub is_next : left ≡ record { param = x; value = value } ∷ others
  pub is_value : IsValue here value nodes
  pub on_host : is_on planned me statement ≡ true
  pub goes : next ≡ record {
    level = here.level;
    due = here.due;
    reads = [];
    calling = arguing statement (set ++ record { param = x; value = value } ∷ []) others;
    forwards = here.forwards ++ forwards_of planned me statement x;
  }

abbrev pub Argues : PlannedShape → HostId → Position → Calling → VarId → List Node → Position → Type 0
Argues planned me here (arguing statement set left) x nodes next =
    SetsArgument planned me here statement set left x nodes next
Argues planned me here other x nodes next = ⊥

-- one of the forwards that are left is sent
abbrev pub Sends : Position → VarId → HostId → Position → Type 0
Sends here x to next = (here.reads ≡ []) × IsOut here.forwards x to
    × (next ≡ with_forwards here (without_forward x to here.forwards))

-- An instruction of a host at a position behind which the host goes on at the next.
abbrev pub Follows : PlannedShape → List Entrance → HostId → Position → Op → Position → Type 0
Follows planned entries me here (op.Read field index) next = Reads planned me here field index next
Follows planned entries me here (op.Let x value) next =
    (first : DueWork) × (others : List DueWork) × BeginsWith planned me here first others × (here.calling ≡ no_call)
    × Sets planned here first x value × (next ≡ record {
      level = here.level;
      due = others;
      reads = [];
      calling = no_call;
      forwards = forwards_of planned me (statement_due first) x;
    })
Follows planned entries me here (op.Put field index value) next =
    (first : DueWork) × (others : List DueWork) × BeginsWith planned me here first others × (here.calling ≡ no_call)
    × Stores here first field index value × (next ≡ calm here.level others)
Follows planned entries me here (op.Send x to) next = (here.calling ≡ no_call) × Sends here x to next
Follows planned entries me here (op.Frame site) next =
    (first : DueWork) × (others : List DueWork) × BeginsWith planned me here first others × IsCalm here
    × Frames planned here first site next
Follows planned entries me here (op.Arg x value) next = Argues planned me here here.calling x value next
Follows planned entries me here (op.Pass x to) next =
    (statement : BlockTree) × (set : List Argument) × (left : List Argument)
    × (here.calling ≡ arguing statement set left) × Sends here x to next
Follows planned entries me here (op.Push there) next = Pushes planned entries here here.calling there.0 next
Follows planned entries me here (op.Ask there on) next =
    Cuts planned entries here there.0 next × AreDueOn planned on here.due × (here.forwards ≡ [])
Follows planned entries me here (op.Ret x value) next =
    (first : DueWork) × (method : MethodId) × BeginsWith planned me here first [] × (here.calling ≡ no_call)
    × GivesBackDue here first value × (here.level ≡ body method)
    × (result_of (method_at planned.program method) ≡ Some x) × (next ≡ calm here.level [])
    × IsStatementOfMethod planned.program method (statement_due first)
Follows planned entries me here other next = ⊥

-- A branch goes on at the next position where its guard holds, and otherwise at its target.
abbrev pub Branches : Position → DueWork → List DueWork → List Node → Position → Position → Type 0
Branches here (run (branch heading guard first second rest)) others nodes next target =
    IsValue here guard nodes × (others ≡ []) × (next ≡ calm here.level (all_due first))
    × (target ≡ calm here.level (all_due second))
Branches here (run (loop heading guard inner rest)) others nodes next target =
    IsValue here guard nodes
    × (next ≡ calm here.level (all_due inner ++ run (loop heading guard inner rest) ∷ others))
    × (target ≡ calm here.level others)
Branches here other others nodes next target = ⊥

abbrev pub Divides : PlannedShape → HostId → Position → List Node → Position → Position → Type 0
Divides planned me here nodes next target =
    (first : DueWork) × (others : List DueWork) × BeginsWith planned me here first others × (here.calling ≡ no_call)
    × Branches here first others nodes next target

-- the entry of the called method is gone to
abbrev pub Enters : PlannedShape → List Entrance → Position → Calling → ℕ → Type 0
Enters planned entries here (entering (call heading site method arguments into rest)) number =
    (number ≡ suc method.0) × (here.level ≡ body method) × (here.reads ≡ []) × (here.forwards ≡ [])
    × EntryIs entries number (calm here.level here.due) (need_of_method planned (method_at planned.program method))
Enters planned entries here other number = ⊥

-- the entry of the called method is gone to, and all parameters that have still to be sent ride to this host
abbrev pub EntersWith :
    PlannedShape → List Entrance → Position → Calling → ℕ → List VarId → HostId → Type 0
EntersWith planned entries here (entering (call heading site method arguments into rest)) number riders on =
    (number ≡ suc method.0) × (here.level ≡ body method) × (here.reads ≡ []) × RidesAll riders on here.forwards
    × EntryIs entries number (calm here.level here.due) (need_of_method planned (method_at planned.program method))
EntersWith planned entries here other number riders on = ⊥

-- An instruction behind which the thread ends.
abbrev pub Ends : PlannedShape → List Entrance → Position → Op → Type 0
Ends planned entries here (op.Go there on) =
    IsCalm here × EntryIs entries there.0 here (need_due planned here.due)
Ends planned entries here (op.Call there on) = Enters planned entries here here.calling there.0
Ends planned entries here (op.GoWith there on riders) = IsIdle here × RidesAll riders on here.forwards
    × EntryIs entries there.0 (calm here.level here.due) (need_due planned here.due)
Ends planned entries here (op.CallWith there on riders) =
    EntersWith planned entries here here.calling there.0 riders on
Ends planned entries here op.Back = here ≡ calm here.level []
Ends planned entries here other = ⊥

-- ---- emissions

-- Where a walk goes on.
pub data WalkPlace : Type 0 where
  nowhere : WalkPlace
  here : HostId → Position → WalkPlace

-- What is known at a place of a walk: the entries so far, by their numbers, and where branches lead.
pub record WalkKnown : Type 0 where
  pub place : WalkPlace
  pub entries : List Entrance
  pub branches : List Position

abbrev pub with_place : WalkKnown → WalkPlace → WalkKnown
with_place known place = record { place = place; entries = known.entries; branches = known.branches }

-- An instruction of a host at a position.
abbrev pub TypedOp : PlannedShape → WalkKnown → HostId → Position → Op → WalkKnown → Type 0
TypedOp planned known me from (op.Branch guard number) after =
    (next : Position) × (target : Position) × (number ≡ length known.branches)
    × Divides planned me from guard next target × (after ≡ record {
      place = here me next;
      entries = known.entries;
      branches = known.branches ++ target ∷ [];
    })
TypedOp planned known me from (op.Go there on) after =
    Ends planned known.entries from (op.Go there on) × (after ≡ with_place known nowhere)
TypedOp planned known me from (op.Call there on) after =
    Ends planned known.entries from (op.Call there on) × (after ≡ with_place known nowhere)
TypedOp planned known me from (op.GoWith there on riders) after =
    Ends planned known.entries from (op.GoWith there on riders) × (after ≡ with_place known nowhere)
TypedOp planned known me from (op.CallWith there on riders) after =
    Ends planned known.entries from (op.CallWith there on riders) × (after ≡ with_place known nowhere)
TypedOp planned known me from op.Back after =
    Ends planned known.entries from op.Back × (after ≡ with_place known nowhere)
TypedOp planned known me from other after =
    (next : Position) × Follows planned known.entries me from other next × (after ≡ with_place known (here me next))

-- The host of an instruction is trusted for all that is due there, and for what has to be sent. An entry has a calm
-- position from where it is named on, and stands where that is the position. Its host is trusted for all that is due
-- there, and its need has all who have to be asked for that.
abbrev pub Types : PlannedShape → WalkKnown → Emission → WalkKnown → Type 0
Types planned known (instruction one) after =
    (from : Position) × (known.place ≡ here one.host from) × IsTrustedAt planned one.host from
    × TypedOp planned known one.host from one.op after
Types planned known (entry named) after =
    (position : Position) × IsCalm position × AreDueOn planned named.host position.due
    × Covers planned named.need position.due × (after ≡ record {
      place = known.place;
      entries = known.entries ++ record { position = position; need = named.need } ∷ [];
      branches = known.branches;
    })
Types planned known (stands host number) after =
    (position : Position) × (need : ℕ) × EntryIs known.entries number position need
    × ((known.place ≡ nowhere) ⊎ (known.place ≡ here host position)) × (after ≡ with_place known (here host position))
Types planned known (lands host number) after =
    (position : Position) × BranchLeadsTo known.branches number position × (known.place ≡ nowhere)
    × (after ≡ with_place known (here host position))

-- Emissions from one place of a walk to another.
abbrev pub AreTyped : PlannedShape → WalkKnown → List Emission → WalkKnown → Type 0
AreTyped planned first [] last = first ≡ last
AreTyped planned first (emission ∷ others) last =
    (middle : WalkKnown) × Types planned first emission middle × AreTyped planned middle others last
