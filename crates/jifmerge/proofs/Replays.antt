-- The script of what journals tell is read again, and its events happen.
use Rattle.std.proofs.Common.{◌≡◌, ◌+◌, ℕ, ℤ, List, [], ◌∷◌, length, Ok, arith}
use Rattle.std.proofs.lemmas.Nat.Bits.{bit_at-zero}
use Rattle.event_text.specs.declared.event.Event.{Event}
use Rattle.event_text.specs.Script.{ScriptShape, script_of}
use Rattle.event_text.specs.ScriptText.{IsPrintable, front_lines, on_lines, script_text}
use Rattle.host_code.specs.Code.{CodeShape}
use Rattle.host_code.specs.Sound.{IsSoundCode}
use Rattle.host_decl.specs.Hosts.{HostShape}
use Rattle.net_world.specs.Fits.{ShapeFits}
use Rattle.net_world.specs.World.{WorldShape, AreHostsOf, IsRun, world_at_start}
use Rattle.record_merge.specs.Merging.{IsMerged}
use Rattle.record_merge.specs.Notes.{JournalNote, IsNotedRun}
use Rattle.record_merge.specs.Single.{IsSingle}
use Rattle.jifmerge.specs.Replays.{CanBeSaid}
use Rattle.jifmerge.proofs.SaidEvents.{StepLaws, all_said, step_of}

-- what is known of the first world, of steps and of scripts
pub record ReplayLaws : Type 0 where
  pub steps : StepLaws
  pub start : (code : CodeShape) (rows : List HostShape) (store : List (List ℤ)) →
      IsSingle (world_at_start code rows 0 store)
  pub fits : (code : CodeShape) (rows : List HostShape) (bad : ℕ) (store : List (List ℤ)) →
      IsSoundCode code → AreHostsOf code rows → ShapeFits code (world_at_start code rows bad store)
  pub script_again : (code : CodeShape) (bad : ℕ) (start : List (List ℤ)) (events : List Event) →
      IsSoundCode code → IsPrintable code bad start events →
      script_of code (script_text code bad start events) ≡ Ok (record {
        bad = bad;
        start = start;
        events = on_lines (length (front_lines code bad start) + 1) events;
      })

pub read_again : ReplayLaws → (code : CodeShape) (rows : List HostShape) (values : List (List ℤ))
    (journals : List (List ℕ)) (events : List Event) → IsSoundCode code → AreHostsOf code rows →
    CanBeSaid code values → IsMerged code (world_at_start code rows 0 values) journals events →
    script_of code (script_text code 0 values events) ≡ Ok (record {
      bad = 0;
      start = values;
      events = on_lines (length (front_lines code 0 values) + 1) events;
    })
read_again laws code rows values journals events sound same can merged =
    let meets = merged.1 in
    laws.script_again code 0 values events sound (record {
      hosts = can.hosts;
      fields = can.fields;
      among = λ number set. absurd (omega (arith, bit_at-zero number, set));
      sizes = can.sizes;
      values = can.fit;
      said = all_said laws.steps code (world_at_start code rows 0 values) meets.last events meets.notes sound can.hosts
          (laws.start code rows values) (laws.fits code rows 0 values sound same) meets.run;
    })

-- events that are noted happen
pub noted_run : (code : CodeShape) (world last : WorldShape) (events : List Event) (notes : List JournalNote) →
    IsNotedRun code world events last notes → IsRun code world events last
noted_run code world last [] notes run = run.0
noted_run code world last (event ∷ events) notes run = (
  run.0,
  (step_of code world run.0 event run.1 run.3).0,
  noted_run code run.0 last events run.2 run.4,
)
