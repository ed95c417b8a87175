-- What a command answers and puts out, by what is due.
--
-- `no memory` is put where it can be. The line needs the error output to work. Whether it could be put is not looked
-- at, and the status is 8 in either case.
--
-- A report that can't be put for want of memory ends with status 8. The sink may say that it had no memory to put a
-- text. That is want of memory, and no fault of the output, so the status is 8, and not 7.
use Rattle.std.specs.Prelude.{◌≡◌, ℕ, ◌⊎◌, List, Option}
use Rattle.js_base.specs.Counts.{Rose}
use Rattle.js_base.specs.Sink.{Takes, TakesFront}
use Rattle.js_base.specs.declared.sink.Sink as sinks
use Rattle.js_base.specs.declared.status.Status.{Status}
use Rattle.js_base.specs.declared.status.Status.TheVariants.{OutFault, NoMemory}
use Rattle.front_end.specs.Refusals.{RefusalShape, error_line, no_memory_line, refusal_status, refusal_text}
use Rattle.front_end.specs.Verdicts.{VerdictShape, Refuse, Print}

-- a sink before and after: its faults, and what it has taken where it tells
pub record SinkChange : Type 0 where
  pub faults_before : ℕ
  pub faults_after : ℕ
  pub taken_before : Option (List ℕ)
  pub taken_after : Option (List ℕ)

-- what a sink of this kind did between two moments, by what it tells of itself
abbrev pub sink_change : {S : Type 0} → sinks.Ghosts S → (before after : S) → SinkChange
sink_change of before after = record {
  faults_before = of.faults before;
  faults_after = of.faults after;
  taken_before = of.taken before;
  taken_after = of.taken after;
}

-- nothing was put, and no fault was counted
abbrev pub IsUntouched : SinkChange → Type 0
IsUntouched sink = (sink.taken_after ≡ sink.taken_before) × (sink.faults_after ≡ sink.faults_before)

-- no more was put than a front of the text
abbrev pub PutsFront : List ℕ → SinkChange → Type 0
PutsFront text sink = TakesFront text sink.taken_before sink.taken_after

-- no more was put than a front of the first text and then a front of the second
abbrev pub PutsFronts : List ℕ → List ℕ → SinkChange → Type 0
PutsFronts first second sink =
    (between : Option (List ℕ))
    × TakesFront first sink.taken_before between
    × TakesFront second between sink.taken_after

-- ---- answers to what is due

-- all of the text was put, with no fault, and the answer is this status, or a front of it, where the sink counted one
abbrev pub PutsWhole : List ℕ → Status → Status → SinkChange → Type 0
PutsWhole text status answer sink =
    ((answer ≡ status) × Takes text sink.taken_before sink.taken_after × (sink.faults_after ≡ sink.faults_before))
    ⊎ ((answer ≡ OutFault) × Rose sink.faults_before sink.faults_after × PutsFront text sink)

-- A refusal puts its line on the error output, behind the program's name, and nothing on the output. A report goes on
-- the output, with nothing on the error output.
abbrev pub IsRefusalAnswered : (program : List ℕ) → RefusalShape → Status → SinkChange → Type 0
IsRefusalAnswered program refusal answer err =
    PutsWhole (error_line program (refusal_text refusal)) (refusal_status refusal) answer err

abbrev pub IsAnswered : (program : List ℕ) → VerdictShape → Status → SinkChange → SinkChange → Type 0
IsAnswered program (Refuse refusal) answer out err =
    IsUntouched out × IsRefusalAnswered program refusal answer err
IsAnswered program (Print status text) answer out err = IsUntouched err × PutsWhole text status answer out

-- ---- where memory ran out

-- No more was put than a front of what is due, and then a front of the line that says that memory ran out.
abbrev pub IsRefusalCut : (program : List ℕ) → RefusalShape → SinkChange → Type 0
IsRefusalCut program refusal err =
    PutsFronts (error_line program (refusal_text refusal)) (no_memory_line program) err

abbrev pub IsCutShort : (program : List ℕ) → VerdictShape → SinkChange → SinkChange → Type 0
IsCutShort program (Refuse refusal) out err =
    IsUntouched out × IsRefusalCut program refusal err
IsCutShort program (Print status text) out err = PutsFront text out × PutsFront (no_memory_line program) err

-- it ran out before anything was due, and no more was put than a front of the line that says so
abbrev pub IsUndue : (program : List ℕ) → SinkChange → SinkChange → Type 0
IsUndue program out err = IsUntouched out × PutsFront (no_memory_line program) err

-- the answer to a refusal, or want of memory while it was put
abbrev pub AnswersRefusal : (program : List ℕ) → RefusalShape → Status → SinkChange → Type 0
AnswersRefusal program refusal answer err =
    ((answer ≡ NoMemory) × IsRefusalCut program refusal err) ⊎ IsRefusalAnswered program refusal answer err

-- the answer to what is due, or want of memory while it was put
abbrev pub AnswersVerdict : (program : List ℕ) → VerdictShape → Status → SinkChange → SinkChange → Type 0
AnswersVerdict program verdict answer out err =
    ((answer ≡ NoMemory) × IsCutShort program verdict out err) ⊎ IsAnswered program verdict answer out err

-- ---- the whole

-- Memory ran out before anything was due, where something holds of what came before, or while what was due was put.
abbrev pub RanOut : (program : List ℕ) (Before : Type 0) (IsDue : VerdictShape → Type 0) → SinkChange → SinkChange →
    Type 0
RanOut program Before IsDue out err =
    (Before × IsUndue program out err)
    ⊎ ((verdict : VerdictShape) × IsDue verdict × IsCutShort program verdict out err)

-- the answer of a program of this name is that to what is due, or want of memory
abbrev pub AnswersTo : (program : List ℕ) (Before : Type 0) (IsDue : VerdictShape → Type 0) → Status → SinkChange →
    SinkChange → Type 0
AnswersTo program Before IsDue answer out err =
    ((answer ≡ NoMemory) × RanOut program Before IsDue out err)
    ⊎ ((verdict : VerdictShape) × IsDue verdict × IsAnswered program verdict answer out err)
