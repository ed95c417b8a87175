-- The program that is made is accepted.
use Rattle.std.proofs.Common.{◌≡◌, ◌≢◌, ℕ, ◌<◌, ◌≤◌, ◌⊎◌, List, [], length, refl, sym, subst, ◌∙◌, arith}
use Rattle.std.specs.List.{range_with_len}
use Rattle.std.proofs.lemmas.List.FromFn.{length-range_with_len}
use Rattle.std.proofs.Common.{⊎_elim}
use Rattle.js_base.specs.declared.limits.TheConstants.{STATEMENTS, HOSTS}
use Rattle.principals.specs.ActsFor.{Declared}
use Rattle.jif_lex.specs.declared.token.Token.{Token}
use Rattle.jif_lex.specs.Tokens.{ReadsAs, tokens}
use Rattle.jif_tree.specs.SourceRun.{HasLength}
use Rattle.label_lattice.specs.Written.{kinds}
use Rattle.label_lattice.specs.PrintedExamples.{alice_and_bob}
use Rattle.jif_grammar.specs.Grouping.{IsProgram}
use Rattle.jif_grammar.specs.Phrases.{ProgramPhrase}
use Rattle.jif_grammar.specs.Programs.{Spells, line_at}
use Rattle.jif_grammar.specs.Unmarked.{program_then}
use Rattle.host_decl.specs.Hosts.{HostsShape}
use Rattle.need_labels.specs.Labelled.{Labelled}
use Rattle.need_labels.specs.Needs.{NeedsShape, AreNeedsOf}
use Rattle.place_rules.specs.Allowed.{AllowedShape}
use Rattle.place_rules.specs.PlaceRules.{AreAllowed}
use Rattle.place_rules.specs.Refusal.{IsPlaceRefused}
use Rattle.place_rules.specs.declared.place_error.PlaceError.{PlaceError}
use Rattle.place_rules.specs.declared.place_error.PlaceError.TheVariants as error
use Rattle.made_laws.specs.Made.{IsMadeAccepted}
use Rattle.made_laws.proofs.MadeDrafts.{made_draft, made_resolved}
use Rattle.made_laws.proofs.MadeHosts.{SpelledLaw, made_file, reads_hosts}
use Rattle.made_laws.proofs.MadeLabels.{LabelLaws, made_labels}
use Rattle.made_laws.proofs.MadeLimits.{made_phrases, phrases_grouped, phrases_written, phrases_within}
use Rattle.made_laws.proofs.MadePlaces.{made_labelled, has_place}
use Rattle.made_laws.proofs.MadeRuns.{made_length}
use Rattle.made_laws.proofs.MadeTokens.{program_parts, program_apart, program_spelled, program_short}
use Rattle.made_laws.proofs.MadeTrees.{made_tree, well_labelled}

-- ---- laws of the crates below

pub record PlaceLaws : Type 0 where
  pub some_needs : (principals : Declared) (labelled : Labelled) →
      (needs : NeedsShape) × AreNeedsOf principals labelled needs
  pub allowed_or_refused : (labelled : Labelled) (needs : NeedsShape) (hosts : HostsShape) →
      length hosts.hosts ≤ HOSTS → ((allowed : AllowedShape) × AreAllowed labelled needs hosts allowed)
      ⊎ ((why : PlaceError) × (why ≢ error.OutOfMemory) × IsPlaceRefused labelled needs hosts why)

pub record MadeLaws : Type 0 where
  pub spelled : SpelledLaw
  pub labels : LabelLaws
  pub grammar : (tokens : List Token) (program : ProgramPhrase) → IsProgram program →
      kinds tokens ≡ program_then program [] → Spells tokens program
  pub places : PlaceLaws

-- ---- the whole

pub accepted : MadeLaws → (statements : ℕ) → statements < STATEMENTS → IsMadeAccepted statements
accepted laws statements less =
    let numbers = range_with_len 0 statements in
    let count : length numbers ≡ statements = length-range_with_len 0 statements in
    let text = sym (program_spelled statements) in
    let spelled = laws.spelled (program_parts statements) (program_apart statements less) in
    let list = spelled.0 in
    let lines = line_at list in
    let labels = made_labels laws.labels in
    let file = made_file labels in
    let labelled = made_labelled labels lines numbers in
    let needs = laws.places.some_needs alice_and_bob labelled in
    let allowed = ⊎_elim (λ found. found)
    (λ refused. absurd (has_place laws.labels labels lines numbers needs.0 refused.0 needs.1 refused.1 refused.2))
    (laws.places.allowed_or_refused labelled needs.0 file (omega arith)) in
    record {
      few = program_short statements less;
      list = list;
      read = subst (λ bytes. ReadsAs bytes (tokens list)) text spelled.1;
      draft = made_draft lines numbers;
      parsed = record {
        program = made_phrases numbers;
        text = record {
          spells = laws.grammar list (made_phrases numbers) (phrases_grouped numbers)
              (spelled.2 ∙ phrases_written numbers);
          limits = phrases_within numbers (omega (arith, count, less));
        };
        draft_is = refl;
      };
      file = file;
      hosts = reads_hosts laws.spelled labels;
      tree = made_tree labels lines numbers;
      resolved = made_resolved labels lines numbers;
      labelled = well_labelled laws.labels labels lines numbers;
      needs = needs.0;
      needs_are = needs.1;
      allowed = allowed.0;
      allowed_are = allowed.1;
      runs = λ program values is.
          subst (λ steps. HasLength program values steps) count (made_length labels lines numbers program values is);
    }
