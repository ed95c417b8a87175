-- What lines say of an accepted program is so.
use Rattle.std.proofs.Common.{◌≡◌, ◌≢◌, ℕ, List, [], ◌∷◌, Some, refl, sym}
use Rattle.std.proofs.Common.{subst}
use Rattle.principals.specs.ActsFor.{Declared, IsDeclared}
use Rattle.label_lattice.specs.declared.label.Label.{Label}
use Rattle.jif_grammar.specs.DraftShapes.{DraftShape}
use Rattle.jif_tree.specs.LabelRules.{Obligation}
use Rattle.jif_tree.specs.Trees.{MethodTree, ProgramTree}
use Rattle.jif_resolve.specs.Verdicts.{IsProgramOf}
use Rattle.host_decl.specs.Hosts.{HostsShape}
use Rattle.label_reasons.specs.Asks.{Ask, obligation_of, program_asks}
use Rattle.label_reasons.specs.Programs.{IsProgramOver}
use Rattle.label_reasons.specs.Reasons.{explained, first_refused, label_reasons}
use Rattle.place_reasons.specs.Refuted.{IsCauseTrue, RefutesHead}
use Rattle.place_reasons.specs.declared.reason.PlaceReason.{PlaceReason}
use Rattle.place_reasons.specs.declared.reason.PlaceReason.TheVariants as row
use Rattle.front_end.specs.Sources.{HostsRead, ProgramLabelled as WasLabelled, Resolved, Source, Sources}
use Rattle.front_end.specs.Stages.{given}
use Rattle.jifexplain.specs.Places.{lines_or}
use Rattle.jifexplain.proofs.StoppedStages.{source_accepted, then_given}

-- ---- lines

-- no lines stand for none
pub held_when_none : (other lines : List ℕ) → lines ≡ [] → lines_or other lines ≡ other
held_when_none other lines none = rw none refl

pub lines_when_some : (other lines : List ℕ) → lines ≢ [] → lines_or other lines ≡ lines
lines_when_some other [] some = absurd (some refl)
lines_when_some other (byte ∷ bytes) some = refl

-- ---- heads

-- a reason for a head names no cause
pub head_caused : (program : ProgramTree) (host : Label) (method : MethodTree) (reason : PlaceReason) →
    RefutesHead host method reason → IsCauseTrue program reason
head_caused program host method (row.Own pair) refutes = absurd refutes
head_caused program host method (row.Read pair statement cause) refutes = absurd refutes
head_caused program host method (row.Index pair statement cause) refutes = absurd refutes
head_caused program host method (row.Untrusted principal) refutes = absurd refutes
head_caused program host method (row.Begins pair) refutes = tt
head_caused program host method (row.Runs pair cause) refutes = absurd refutes
head_caused program host method (row.Uses pair cause) refutes = absurd refutes
head_caused program host method (row.CallBegins pair called) refutes = absurd refutes
head_caused program host method (row.CallGives pair called) refutes = absurd refutes
head_caused program host method (row.Needs principal what statement) refutes = tt
head_caused program host method (row.Releases member principal statement) refutes = absurd refutes

-- ---- programs

-- the labels of an accepted program are over the declared principals
abbrev pub GivesOver : Type 0
GivesOver = (principals : Declared) (draft : DraftShape) (tree : ProgramTree) → IsDeclared principals →
    IsProgramOf principals draft tree → IsProgramOver principals tree

abbrev pub GivesDeclared : Type 0
GivesDeclared = (h : List ℕ) (file : HostsShape) → HostsRead h (given file) → IsDeclared file.principals

-- those of an accepted program of two files
pub record IsAcceptedOver (source : Source) : Type 0 where
  pub declared : IsDeclared source.file.principals
  pub over : IsProgramOver source.file.principals source.tree

pub accepted_over : GivesOver → GivesDeclared → (p h : List ℕ) (source : Source) → Sources p h (given source) →
    IsAcceptedOver source
accepted_over gives hosts p h source is =
    let was = source_accepted p h source is in
    let tree = then_given (Resolved was.2 was.1) (WasLabelled was.2) source was.3.accepted in
    let same : source ≡ record { file = was.2; tree = tree.0 } = tree.2.1 in
    subst IsAcceptedOver (sym same) (record {
      declared = hosts h was.2 was.3.hosts;
      over = gives was.2.principals was.1 tree.0 (hosts h was.2 was.3.hosts) tree.1;
    })

-- ---- labels

-- what is explained is told of this obligation
pub record IsTold (principals : Declared) (tree : ProgramTree) (failed : Obligation) (ask : Ask) : Type 0 where
  pub found : first_refused principals (program_asks principals tree) ≡ Some ask
  pub same : obligation_of ask ≡ failed
  pub some : label_reasons principals ask ≢ []

pub explained_is : (principals : Declared) (tree : ProgramTree) (failed : Obligation) (ask : Ask) →
    IsTold principals tree failed ask →
    explained principals tree ≡ Some (ask.statement, ask.wanted, label_reasons principals ask)
explained_is principals tree failed ask told = rw told.found refl
