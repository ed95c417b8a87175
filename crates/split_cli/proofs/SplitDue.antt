-- What is due for a split, by what was loaded for it and what its save did.
use Rattle.std.proofs.Common.{◌≡◌, ℕ, List, [], ◌∷◌, Option, refl, sym, ap, ◌∙◌, subst, inl, inr}
use Rattle.std.proofs.Common.{Result, Ok, Err}
use Rattle.std.specs.Prelude.{IfOk, IfErr, OnOk}
use Rattle.js_base.specs.Counts.{counted, Rose}
use Rattle.js_base.specs.Files.{ChangesOnly}
use Rattle.js_base.specs.declared.status.Status.TheVariants.{Done}
use Rattle.split_words.specs.Commands.{Split}
use Rattle.split_cli.specs.Due.{DueForCommand, loaded, SavesFor, MaySave, IsDueForCommand}
use Rattle.front_end.specs.Loading.{StopsWith, EndsIn}
use Rattle.front_end.specs.Loads.{FilesChange, AreKept, counted_by}
use Rattle.split_cli.specs.Saves.{SavesUnder, IsSaved}
use Rattle.split_cli.specs.Split.{SplitShape, SplitSources}
use Rattle.front_end.specs.Stages.{given, stopped}
use Rattle.front_end.specs.Verdicts.{VerdictShape, Print, verdict_shape, file_fault}
use Rattle.front_end.specs.declared.load.Loaded.{Loaded}
use Rattle.front_end.specs.declared.stop.Stop.{Stop}
use Rattle.front_end.specs.declared.verdict.Verdict.{Verdict}
use Rattle.front_end.proofs.LoadedFiles.{TwoFiles}
use Rattle.split_cli.proofs.SplitStages.{split_refuses}
use Rattle.front_end.proofs.Stages.{stops_weaker}
use Rattle.split_cli.proofs.Stops.{saves_refused}

-- ---- one change of files after another

-- the second begins where the first ended
pub record Follows (first second : FilesChange) : Type 0 where
  pub held : second.held ≡ first.held_after
  pub saves : second.saves_before ≡ first.saves_after
  pub loads : second.loads_before ≡ first.loads_after
  pub faults : second.faults_before ≡ first.faults_after

-- both
abbrev pub joined : FilesChange → FilesChange → FilesChange
joined first second = record {
  held = first.held;
  held_after = second.held_after;
  loads_before = first.loads_before;
  loads_after = second.loads_after;
  saves_before = first.saves_before;
  saves_after = second.saves_after;
  faults_before = first.faults_before;
  faults_after = second.faults_after;
  failed = second.failed;
}

pub under_joined : (first second : FilesChange) (name : List ℕ) → Follows first second → AreKept first →
    SavesUnder name second → SavesUnder name (joined first second)
under_joined first second name follows kept under = record {
  saves = under.saves ∙ ap counted (follows.saves ∙ kept.saves);
  others = subst (λ (held : Option (List ℕ → Option (List ℕ))). ChangesOnly name held second.held_after)
      (follows.held ∙ kept.held) under.others;
}

-- ---- the command

-- a program and a host file that have no split
pub no_split : (program hosts out : List ℕ) (files : FilesChange) (p h : Loaded) (why : Stop) →
    (two : TwoFiles files.held program hosts p h) → files.loads_after ≡ counted_by 2 files.loads_before →
    files.faults_after ≡ files.faults_before → AreKept files →
    StopsWith (λ verdict. SplitSources two.program_bytes two.hosts_bytes (stopped verdict)) why →
    StopsWith (IsDueForCommand (Split program hosts out) files) why
no_split program hosts out files p h why two loads faults kept stops =
    stops_weaker (λ verdict. SplitSources two.program_bytes two.hosts_bytes (stopped verdict))
    (IsDueForCommand (Split program hosts out) files) why
    (λ verdict was.
    let refusal = split_refuses two.program_bytes two.hosts_bytes verdict was in
    inl (
      2,
      loaded verdict (record {
        bytes = two.program_bytes ∷ two.hosts_bytes ∷ [];
        told = (two.program_told, (two.hosts_told, tt));
        due = inr was;
      }),
      record { loads = loads; no_fault = faults },
      subst (λ (due : VerdictShape). SavesFor (Split program hosts out) due files) (sym refusal.1)
          (saves_refused (Split program hosts out) refusal.0 files kept),
    )) stops

-- the report of a split is due
report_due : (program hosts out : List ℕ) (files : FilesChange) (p h : Loaded) (split : SplitShape) →
    (two : TwoFiles files.held program hosts p h) →
    SplitSources two.program_bytes two.hosts_bytes (given split) →
    DueForCommand files.held (Split program hosts out) 2 (Print Done split.text)
report_due program hosts out files p h split two was =
    loaded (Print Done split.text) (record {
      bytes = two.program_bytes ∷ two.hosts_bytes ∷ [];
      told = (two.program_told, (two.hosts_told, tt));
      due = inl (split, was, refl);
    })

-- its save is one that a split may ask for
pub split_saves : (program hosts out : List ℕ) (first second : FilesChange) (p h : Loaded) (split : SplitShape) →
    (two : TwoFiles first.held program hosts p h) → first.loads_after ≡ counted_by 2 first.loads_before →
    AreKept first → SplitSources two.program_bytes two.hosts_bytes (given split) → Follows first second →
    second.loads_after ≡ second.loads_before → SavesUnder out second →
    MaySave (Split program hosts out) (joined first second)
split_saves program hosts out first second p h split two loads kept was follows no_load under =
    inr (
      2,
      split.text,
      report_due program hosts out first p h split two was,
      no_load ∙ follows.loads ∙ loads,
      under_joined first second out follows kept under,
    )

-- a split that was loaded, and what its save did
pub split_due : (program hosts out : List ℕ) (first second : FilesChange) (p h : Loaded) (split : SplitShape)
    (result : Result Verdict Stop) → (two : TwoFiles first.held program hosts p h) →
    first.loads_after ≡ counted_by 2 first.loads_before → first.faults_after ≡ first.faults_before → AreKept first →
    SplitSources two.program_bytes two.hosts_bytes (given split) → Follows first second →
    second.loads_after ≡ second.loads_before → SavesUnder out second →
    IfOk result (λ verdict. verdict_shape verdict ≡ Print Done split.text) →
    OnOk result (IsSaved out split.bytes second) → OnOk result (second.faults_after ≡ second.faults_before) →
    IfErr result (StopsWith (λ verdict. (verdict ≡ file_fault out) × (second.failed ≡ out)
    × Rose second.faults_before second.faults_after)) →
    EndsIn (IsDueForCommand (Split program hosts out) (joined first second)) result
split_due program hosts out first second p h split (Ok verdict) two loads faults kept was follows no_load under report
    saved calm fails =
    subst (IsDueForCommand (Split program hosts out) (joined first second)) (sym report) (inl (
      2,
      report_due program hosts out first p h split two was,
      record {
        loads = no_load ∙ follows.loads ∙ loads;
        no_fault = calm ∙ follows.faults ∙ faults;
      },
      (
        two.program_bytes,
        two.hosts_bytes,
        two.program_told,
        two.hosts_told,
        split,
        was,
        record { under = under_joined first second out follows kept under; holds = saved.holds },
      ),
    ))
split_due program hosts out first second p h split (Err why) two loads faults kept was follows no_load under report
    saved calm fails =
    stops_weaker (λ verdict. (verdict ≡ file_fault out) × (second.failed ≡ out)
    × Rose second.faults_before second.faults_after) (IsDueForCommand (Split program hosts out) (joined first second))
    why
    (λ verdict failed. inr (inr (
      2,
      split.text,
      report_due program hosts out first p h split two was,
      record {
        under = under_joined first second out follows kept under;
        here = failed.1;
        loads = no_load ∙ follows.loads ∙ loads;
        rose = subst (λ (before : ℕ). Rose before second.faults_after) (follows.faults ∙ faults) failed.2;
        verdict_is = failed.0 ∙ ap file_fault (sym failed.1);
      },
    ))) fails
