-- What the count keeps so that it goes over no statement again and again.
use Rattle.std.specs.Prelude.{◌≡◌, ◌<◌, ◌≤◌, ◌↔◌, ⊤, ℕ, Bool, IsTrue, Option, Some, None}
use Rattle.std.specs.Prelude.{List, All, drop, slice_index, slice_get, unwrap_or}
use Rattle.std.specs.Int.{bit_at}
use Rattle.js_base.specs.declared.bits.TheConstants.{WORD_BITS}
use Rattle.js_base.specs.declared.ids.HostId.{HostId}
use Rattle.js_base.specs.declared.ids.StmtId.{StmtId}
use Rattle.js_base.specs.declared.ids.VarId.{VarId}
use Rattle.jif_tree.specs.declared.program.Stmt.{Stmt}
use Rattle.need_labels.specs.Plan.{first_host}
use Rattle.msg_cost.specs.declared.kept.Kept.{Kept}
use Rattle.msg_cost.specs.declared.kept.VariableReaders.{VariableReaders}
use Rattle.msg_cost.specs.Moves.{PlannedShape, called_end, is_trusted_for_all}
use Rattle.msg_cost.specs.Pieces.{moved_reads}
use Rattle.msg_cost.specs.Terms.{reads_on}
use Rattle.msg_cost.specs.Views.{ids_of}

-- the hosts that hold the token behind the bodies of the methods, by the methods' numbers
abbrev pub AreEnds : PlannedShape → List HostId → Type 0
AreEnds planned ends = (number : ℕ) →
    unwrap_or (slice_get ends number) first_host ≡ called_end planned (slice_get planned.program.methods number)

-- the word has a bit for each host on which a statement reads the variable
abbrev pub IsReadingWord : PlannedShape → VarId → ℕ → Type 0
IsReadingWord planned x word = (host : ℕ) → host < WORD_BITS → (bit_at word host ≡ 1) ↔ IsTrue (reads_on planned x host)

-- for the first variables, so many, these are the words
abbrev pub AreReadingWords : PlannedShape → ℕ → List ℕ → Type 0
AreReadingWords planned count words = (x : VarId) → x.0 < count → IsReadingWord planned x (slice_index words x.0)

pub record IsCostKept (planned : PlannedShape) (kept : Kept) : Type 0 where
  pub ends : AreEnds planned kept.ends.now
  pub reading : AreReadingWords planned kept.found kept.reading.now

-- whether the host is trusted for all statements of a block from a place on
abbrev pub is_trusted_from : PlannedShape → HostId → List Stmt → ℕ → Bool
is_trusted_from planned host block place = is_trusted_for_all planned host (ids_of (drop place block))

-- The host is trusted for the statements between these places: whether it is trusted for all from one of them on is
-- whether it is trusted for all from the last on.
abbrev pub IsTrustedBetween : PlannedShape → HostId → List Stmt → ℕ → ℕ → Type 0
IsTrustedBetween planned host block first last = (place : ℕ) → first ≤ place → place ≤ last →
    is_trusted_from planned host block place ≡ is_trusted_from planned host block last

-- for each host a place of a block up to which it is trusted for the statements from this place on
abbrev pub AreTrustedTo : PlannedShape → List Stmt → ℕ → List ℕ → Type 0
AreTrustedTo planned block place ends = (host : HostId) →
    IsTrustedBetween planned host block place (slice_index ends host.0)

-- ---- readers that are kept while a move is tried

-- this is so of the statements that read the variable
pub record AreReadersOf (planned : PlannedShape) (step : Option StmtId) (x : VarId) (readers : VariableReaders) :
    Type 0 where
  pub variable : readers.reading.variable ≡ x
  pub hosts : IsReadingWord planned x readers.reading.word
  pub moved : readers.moved ≡ moved_reads planned.needs step x

abbrev pub IsRecent : PlannedShape → Option StmtId → Option VariableReaders → Type 0
IsRecent planned moved None = ⊤
IsRecent planned moved (Some readers) = AreReadersOf planned moved readers.reading.variable readers

-- what is kept of the readers of some variables
abbrev pub AreRecent : PlannedShape → Option StmtId → List (Option VariableReaders) → Type 0
AreRecent planned moved recent = All (IsRecent planned moved) recent
