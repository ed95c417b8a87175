-- A script is read in one way, and one of its events at most is the first that is refused.
use Rattle.std.proofs.Common.{◌≡◌, ℕ, List, [], ◌∷◌, Some, None, refl, ap, sym, subst, ◌∙◌, ⊎_elim}
use Rattle.std.proofs.Common.{arith}
use Rattle.event_text.specs.declared.event.Event.{Event}
use Rattle.event_text.specs.Script.{ScriptShape}
use Rattle.host_code.specs.Code.{CodeShape}
use Rattle.net_world.specs.Replay.{events_in, IsRefusedAt}
use Rattle.net_world.specs.World.{WorldShape, IsStep, IsRun, EventRefusal, refusal_of}
use Rattle.front_end.specs.Verdicts.{no_form}
use Rattle.front_end.proofs.Stages.{IsOne, give, stop_with}
use Rattle.script_stages.specs.Scripts.{ScriptRead, long, bad_line, read}

-- an event leaves one world
abbrev pub OneStep : Type 0
OneStep = (code : CodeShape) (world first second : WorldShape) (event : Event) →
    IsStep code world event first → IsStep code world event second → first ≡ second

-- what is known of steps
pub record StepLaws : Type 0 where
  pub one : OneStep
  pub not_refused : (code : CodeShape) (world after : WorldShape) (event : Event) → IsStep code world event after →
      refusal_of world event ≡ None

-- ---- what refuses a script

pub record AreOne (at other : ℕ × Event) (why also : EventRefusal) : Type 0 where
  pub places : at ≡ other
  pub causes : why ≡ also

never_both : (code : CodeShape) (world after : WorldShape) (event : Event) (why : EventRefusal) → StepLaws →
    IsStep code world event after → ¬ (refusal_of world event ≡ Some why)
never_both code world after event why laws step stops =
    let goes = laws.not_refused code world after event step in
    let no : ⊥ = cc (goes, stops) in no

pub refused_once : StepLaws → (code : CodeShape) (world : WorldShape) (said : List (ℕ × Event)) (at other : ℕ × Event)
    (why also : EventRefusal) → IsRefusedAt code world said at why → IsRefusedAt code world said other also →
    AreOne at other why also
refused_once laws code world [] at other why also one two = absurd one
refused_once laws code world (event ∷ said) at other why also one two =
    ⊎_elim
    (λ here. ⊎_elim
    (λ there. record {
      places = sym here.0 ∙ there.0;
      causes = let both = sym here.1 ∙ there.1 in let same : why ≡ also = cc in same;
    })
    (λ later. absurd (never_both code world later.0 event.1 why laws later.1 here.1)) two)
    (λ past. ⊎_elim
    (λ there. absurd (never_both code world past.0 event.1 also laws past.1 there.1))
    (λ later. refused_once laws code past.0 said at other why also past.2
    (subst (λ (w : WorldShape). IsRefusedAt code w said other also)
    (sym (laws.one code world past.0 later.0 event.1 past.1 later.1)) later.2)) two)
    one

pub ran_or_refused : StepLaws → (code : CodeShape) (world last : WorldShape) (said : List (ℕ × Event)) (at : ℕ × Event)
    (why : EventRefusal) → IsRun code world (events_in said) last → ¬ IsRefusedAt code world said at why
ran_or_refused laws code world last [] at why ran stops = stops
ran_or_refused laws code world last (event ∷ said) at why ran stops =
    ⊎_elim
    (λ here. never_both code world ran.0 event.1 why laws ran.1 here.1)
    (λ later. ran_or_refused laws code ran.0 last said at why ran.2
    (subst (λ (w : WorldShape). IsRefusedAt code w said at why)
    (sym (laws.one code world ran.0 later.0 event.1 ran.1 later.1)) later.2))
    stops

-- ---- what a script says

pub script_once : (file script : List ℕ) (code : CodeShape) → IsOne (ScriptRead file script code)
script_once file script code _ _ (long more) (long also) = refl
script_once file script code _ _ (long more) (bad_line line short is) = absurd (omega arith)
script_once file script code _ _ (long more) (read said short is) = absurd (omega arith)
script_once file script code _ _ (bad_line line short is) (long more) = absurd (omega arith)
script_once file script code _ _ (bad_line line short is) (bad_line other also_short also) =
    let both = sym is ∙ also in
    ap (λ (n : ℕ). stop_with {X = ScriptShape} (no_form file n)) (let same : line ≡ other = cc in same)
script_once file script code _ _ (bad_line line short is) (read said also_short also) =
    absurd (let no = sym is ∙ also in cc)
script_once file script code _ _ (read said short is) (long more) = absurd (omega arith)
script_once file script code _ _ (read said short is) (bad_line line also_short also) =
    absurd (let no = sym is ∙ also in cc)
script_once file script code _ _ (read said short is) (read other also_short also) =
    let both = sym is ∙ also in
    ap give (let same : said ≡ other = cc in same)
