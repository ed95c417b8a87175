-- What the journal of a node tells of the steps of its host, however the node ends.
use Rattle.std.proofs.Common.{◌≡◌, ◌⊎◌, inl, inr, ℕ, zero, suc, ◌+◌, List, [], ◌∷◌, ◌++◌, length, take}
use Rattle.std.proofs.Common.{Option, Some, None, refl, sym, ap, ◌∙◌, subst, append_assoc, arith, Bool, true, false}
use Rattle.std.proofs.Common.{if◌then◌else◌, ◌==◌}
use Rattle.std.proofs.lemmas.Bool.{cases_lt}
use Rattle.std.proofs.lemmas.List.{append-nil, take_all}
use Rattle.js_base.specs.declared.ids.HostId.{HostId}
use Rattle.js_base.specs.declared.status.Status.{Status}
use Rattle.host_code.specs.declared.message.Message.{Message}
use Rattle.host_code.specs.Code.{CodeShape}
use Rattle.host_code.specs.Thread.{ThreadShape}
use Rattle.host_core.specs.Host.{HostState, Outcome}
use Rattle.node_seals.specs.declared.arrivals.Arrival.{Arrival}
use Rattle.node_seals.specs.declared.arrivals.Arrival.TheVariants as arrival
use Rattle.node_engine.specs.declared.node_error.NodeError.{NodeError}
use Rattle.node_engine.specs.declared.node_error.NodeError.TheVariants as node_error
use Rattle.node_engine.specs.JournalLines.{turn_line}
use Rattle.node_engine.specs.NodeWorlds.{Inside, NodeWorld, NodePart, Taking, Opening, Step, Hearing, Line, Sealing}
use Rattle.node_engine.specs.NodeWorlds.{Sending, do_part, do_all, Breaks, BreaksIn, inside_of}
use Rattle.node_engine.specs.Notes.{HostStep, IsNodeStep, IsNoted, IsPartOfLine, MakesHostSteps, Note, note_line}
use Rattle.node_engine.specs.Notes.{note_lines}
use Rattle.node_engine.specs.Notes.{done, dropped, sent, steps_told, step_told, take_from, took, turn, turned}
use Rattle.node_seals.specs.Seals.{Opened, SealsShape, as_they_are, refused, unsealed, string_for}
use Rattle.node_engine.specs.Serving.{Closes, EndsAt, Serves, Stage, after_telling, closing_from, closing_parts}
use Rattle.node_engine.specs.Serving.{stage_of}
use Rattle.node_engine.specs.Serving.{is_told, halts, goes_on, telling}
use Rattle.node_engine.specs.Units.{AreArrivalParts, AreTakingParts, AreUnitPartsOf}
use Rattle.node_engine.specs.Units.{frame_parts, opening_parts, out_parts, sending_parts, step_parts}

-- ---- lists of notes and of steps

lines_append : (code : CodeShape) (first others : List Note) →
    note_lines code (first ++ others) ≡ note_lines code first ++ note_lines code others
lines_append code [] others = refl
lines_append code (note ∷ first) others =
    ap (λ (rest : List ℕ). note_line code note ++ rest) (lines_append code first others)
    ∙ sym (append_assoc (note_line code note) (note_lines code first) (note_lines code others))

steps_append : (first others : List Note) → steps_told (first ++ others) ≡ steps_told first ++ steps_told others
steps_append [] others = refl
steps_append (note ∷ first) others =
    ap (λ (rest : List HostStep). step_told note ++ rest) (steps_append first others)
    ∙ sym (append_assoc (step_told note) (steps_told first) (steps_told others))

makes_append : (code : CodeShape) (first others : List HostStep) (host mid later : HostState) →
    MakesHostSteps code host first mid → MakesHostSteps code mid others later →
    MakesHostSteps code host (first ++ others) later
makes_append code [] others host mid later one two = subst (λ (h : HostState). MakesHostSteps code h others later) one
    two
makes_append code (step ∷ first) others host mid later one two =
    (one.0, one.1, makes_append code first others one.0.state mid later one.2 two)

-- nothing was put of another line
nothing_cut : (code : CodeShape) → IsPartOfLine code []
nothing_cut code = (turned, 0, omega arith, refl)

-- ---- between two moments

-- the journal took these lines and nothing else, and the host made the steps that they tell
record IsExact (code : CodeShape) (host later : HostState) (before after : List ℕ) : Type 0 where
  notes : List Note
  journal_is : after ≡ before ++ note_lines code notes
  made : MakesHostSteps code host (steps_told notes) later

exact_then : (code : CodeShape) (host mid later : HostState) (before between after : List ℕ) →
    IsExact code host mid before between → IsNoted code mid later between after →
    IsNoted code host later before after
exact_then code host mid later before between after one two = record {
  notes = one.notes ++ two.notes;
  front = two.front;
  journal_is = two.journal_is
      ∙ ap (λ (front : List ℕ). front ++ (note_lines code two.notes ++ two.front)) one.journal_is
      ∙ append_assoc before (note_lines code one.notes) (note_lines code two.notes ++ two.front)
      ∙ ap (λ (rest : List ℕ). before ++ rest)
      (sym (append_assoc (note_lines code one.notes) (note_lines code two.notes) two.front)
      ∙ ap (λ (lines : List ℕ). lines ++ two.front) (sym (lines_append code one.notes two.notes)));
  cut = two.cut;
  steps = steps_told one.notes ++ two.steps;
  made = makes_append code (steps_told one.notes) two.steps host mid later one.made two.made;
  told = elim two.told [
    | inl same ↦ inl (ap (λ (steps : List HostStep). steps_told one.notes ++ steps) same
        ∙ sym (steps_append one.notes two.notes))
    | inr more ↦ inr (
      more.0,
      ap (λ (steps : List HostStep). steps_told one.notes ++ steps) more.1
          ∙ sym (append_assoc (steps_told one.notes) (steps_told two.notes) (more.0 ∷ []))
          ∙ ap (λ (steps : List HostStep). steps ++ more.0 ∷ []) (sym (steps_append one.notes two.notes)),
    )
  ];
}

-- nothing more was done
noted_nothing : (code : CodeShape) (host later : HostState) (before after : List ℕ) → later ≡ host → after ≡ before →
    IsNoted code host later before after
noted_nothing code host later before after same still = record {
  notes = [];
  front = [];
  journal_is = still ∙ sym (append-nil before);
  cut = nothing_cut code;
  steps = [];
  made = same;
  told = inl refl;
}

-- ---- parts without a step

-- none of the parts is a step, and their lines have these notes, which tell none
abbrev IsPlain : CodeShape → List NodePart → List Note → Type 0
IsPlain code [] notes = notes ≡ []
IsPlain code (Taking ∷ parts) notes = IsPlain code parts notes
IsPlain code (Opening from ∷ parts) notes = IsPlain code parts notes
IsPlain code (Step host ∷ parts) notes = ⊥
IsPlain code (Hearing ∷ parts) notes = IsPlain code parts notes
IsPlain code (Line bytes ∷ parts) notes =
    (note : Note) × (rest : List Note) × (bytes ≡ note_line code note) × (step_told note ≡ [])
    × (notes ≡ note ∷ rest) × IsPlain code parts rest
IsPlain code (Sealing to ∷ parts) notes = IsPlain code parts notes
IsPlain code (Sending to bytes ∷ parts) notes = IsPlain code parts notes

-- lines that tell no step, and a part of another
record AddsLines (code : CodeShape) (before after : List ℕ) : Type 0 where
  notes : List Note
  front : List ℕ
  journal_is : after ≡ before ++ (note_lines code notes ++ front)
  cut : IsPartOfLine code front
  none : steps_told notes ≡ []

-- the host stays, and the journal may have such lines more
abbrev IsStill : CodeShape → (world new : NodeWorld) → Type 0
IsStill code world new = (new.host ≡ world.host) × AddsLines code world.journal new.journal

adds_nothing : (code : CodeShape) (before after : List ℕ) → after ≡ before → AddsLines code before after
adds_nothing code before after same = record {
  notes = [];
  front = [];
  journal_is = same ∙ sym (append-nil before);
  cut = nothing_cut code;
  none = refl;
}

-- the line of a note goes before
adds_line : (code : CodeShape) (note : Note) (before bytes after : List ℕ) → bytes ≡ note_line code note →
    step_told note ≡ [] → AddsLines code (before ++ bytes) after → AddsLines code before after
adds_line code note before bytes after is silent adds = record {
  notes = note ∷ adds.notes;
  front = adds.front;
  journal_is = adds.journal_is
      ∙ append_assoc before bytes (note_lines code adds.notes ++ adds.front)
      ∙ ap (λ (line : List ℕ). before ++ (line ++ (note_lines code adds.notes ++ adds.front))) is
      ∙ ap (λ (rest : List ℕ). before ++ rest)
      (sym (append_assoc (note_line code note) (note_lines code adds.notes) adds.front));
  cut = adds.cut;
  none = ap (λ (steps : List HostStep). steps ++ steps_told adds.notes) silent ∙ adds.none;
}

-- a front of a line is a part of it, or all of it
part_or_all : (code : CodeShape) (note : Note) (n : ℕ) →
    IsPartOfLine code (take n (note_line code note)) ⊎ (take n (note_line code note) ≡ note_line code note)
part_or_all code note n = elim (cases_lt n (length (note_line code note))) [
  | inl less ↦ inl (note, n, less, refl)
  | inr not ↦ inr (take_all n (note_line code note) (omega arith))
]

adds_front : (code : CodeShape) (note : Note) (n : ℕ) (before after : List ℕ) → step_told note ≡ [] →
    after ≡ before ++ take n (note_line code note) → AddsLines code before after
adds_front code note n before after silent is = elim (part_or_all code note n) [
  | inl cut ↦ record {
    notes = [];
    front = take n (note_line code note);
    journal_is = is;
    cut = cut;
    none = refl;
  }
  | inr all ↦ adds_line code note before (note_line code note) after refl silent
      (adds_nothing code (before ++ note_line code note) after
      (is ∙ ap (λ (line : List ℕ). before ++ line) all))
]

-- ---- a part that breaks

line_at : (error : NodeError) (bytes : List ℕ) (world new : NodeWorld) → Breaks error (Line bytes) world new →
    (n : ℕ) × (new ≡ do_part (Line (take n bytes)) world)
line_at node_error.OutOfMemory bytes world new at = at
line_at node_error.LinkFault bytes world new at = absurd at
line_at node_error.OutFault bytes world new at = at

step_at : (error : NodeError) (host : HostState) (world new : NodeWorld) → Breaks error (Step host) world new →
    new ≡ world
step_at node_error.OutOfMemory host world new at = at
step_at node_error.LinkFault host world new at = absurd at
step_at node_error.OutFault host world new at = absurd at

taking_at : (error : NodeError) (world new : NodeWorld) → Breaks error Taking world new → new ≡ world
taking_at node_error.OutOfMemory world new at = at
taking_at node_error.LinkFault world new at = at
taking_at node_error.OutFault world new at = absurd at

opening_at : (error : NodeError) (from : HostId) (world new : NodeWorld) → Breaks error (Opening from) world new →
    new ≡ world
opening_at node_error.OutOfMemory from world new at = at
opening_at node_error.LinkFault from world new at = absurd at
opening_at node_error.OutFault from world new at = absurd at

sealing_at : (error : NodeError) (to : HostId) (world new : NodeWorld) → Breaks error (Sealing to) world new →
    new ≡ world
sealing_at node_error.OutOfMemory to world new at = at
sealing_at node_error.LinkFault to world new at = absurd at
sealing_at node_error.OutFault to world new at = absurd at

hearing_at : (error : NodeError) (world new : NodeWorld) → Breaks error Hearing world new → ⊥
hearing_at node_error.OutOfMemory world new at = at
hearing_at node_error.LinkFault world new at = at
hearing_at node_error.OutFault world new at = at

abbrev SentOrNot : HostId → List ℕ → (world new : NodeWorld) → Type 0
SentOrNot to bytes world new = (new ≡ world) ⊎ (new ≡ do_part (Sending to bytes) world)

sending_at : (error : NodeError) (to : HostId) (bytes : List ℕ) (world new : NodeWorld) →
    Breaks error (Sending to bytes) world new → SentOrNot to bytes world new
sending_at node_error.OutOfMemory to bytes world new at = at
sending_at node_error.LinkFault to bytes world new at = at
sending_at node_error.OutFault to bytes world new at = absurd at

same_still : (code : CodeShape) (world new : NodeWorld) → new ≡ world → IsStill code world new
same_still code world new same = (
  ap (λ (it : NodeWorld). it.host) same,
  adds_nothing code world.journal new.journal (ap (λ (it : NodeWorld). it.journal) same),
)

sent_still : (code : CodeShape) (to : HostId) (bytes : List ℕ) (world new : NodeWorld) →
    SentOrNot to bytes world new → IsStill code world new
sent_still code to bytes world new (inl same) = same_still code world new same
sent_still code to bytes world new (inr same) = (
  ap (λ (it : NodeWorld). it.host) same,
  adds_nothing code world.journal new.journal (ap (λ (it : NodeWorld). it.journal) same),
)

plain_breaks : (code : CodeShape) (error : NodeError) (parts : List NodePart) (notes : List Note) →
    IsPlain code parts notes → (world new : NodeWorld) → BreaksIn error parts world new → IsStill code world new
plain_breaks code error [] notes plain world new breaks = absurd breaks
plain_breaks code error (Taking ∷ parts) notes plain world new (inl at) =
    same_still code world new (taking_at error world new at)
plain_breaks code error (Taking ∷ parts) notes plain world new (inr later) =
    plain_breaks code error parts notes plain (do_part Taking world) new later
plain_breaks code error (Opening from ∷ parts) notes plain world new (inl at) =
    same_still code world new (opening_at error from world new at)
plain_breaks code error (Opening from ∷ parts) notes plain world new (inr later) =
    plain_breaks code error parts notes plain (do_part (Opening from) world) new later
plain_breaks code error (Step host ∷ parts) notes plain world new breaks = absurd plain
plain_breaks code error (Hearing ∷ parts) notes plain world new (inl at) = absurd (hearing_at error world new at)
plain_breaks code error (Hearing ∷ parts) notes plain world new (inr later) =
    plain_breaks code error parts notes plain (do_part Hearing world) new later
plain_breaks code error (Line bytes ∷ parts) notes plain world new (inl at) =
    let cut = line_at error bytes world new at in (
      ap (λ (it : NodeWorld). it.host) cut.1,
      adds_front code plain.0 cut.0 world.journal new.journal plain.3
          (ap (λ (it : NodeWorld). it.journal) cut.1
          ∙ ap (λ (line : List ℕ). world.journal ++ take cut.0 line) plain.2),
    )
plain_breaks code error (Line bytes ∷ parts) notes plain world new (inr later) =
    let still = plain_breaks code error parts plain.1 plain.5 (do_part (Line bytes) world) new later in
    (still.0, adds_line code plain.0 world.journal bytes new.journal plain.2 plain.3 still.1)
plain_breaks code error (Sealing to ∷ parts) notes plain world new (inl at) =
    same_still code world new (sealing_at error to world new at)
plain_breaks code error (Sealing to ∷ parts) notes plain world new (inr later) =
    plain_breaks code error parts notes plain (do_part (Sealing to) world) new later
plain_breaks code error (Sending to bytes ∷ parts) notes plain world new (inl at) =
    sent_still code to bytes world new (sending_at error to bytes world new at)
plain_breaks code error (Sending to bytes ∷ parts) notes plain world new (inr later) =
    plain_breaks code error parts notes plain (do_part (Sending to bytes) world) new later

-- all of them are done
plain_done : (code : CodeShape) (parts : List NodePart) (notes : List Note) → IsPlain code parts notes →
    (world : NodeWorld) →
    ((do_all parts world).host ≡ world.host)
    × ((do_all parts world).journal ≡ world.journal ++ note_lines code notes) × (steps_told notes ≡ [])
plain_done code [] notes plain world =
    let nothing : note_lines code notes ≡ [] = ap (note_lines code) plain in (
      refl,
      sym (append-nil world.journal) ∙ ap (λ (rest : List ℕ). world.journal ++ rest) (sym nothing),
      ap steps_told plain,
    )
plain_done code (Taking ∷ parts) notes plain world = plain_done code parts notes plain (do_part Taking world)
plain_done code (Opening from ∷ parts) notes plain world =
    plain_done code parts notes plain (do_part (Opening from) world)
plain_done code (Step host ∷ parts) notes plain world = absurd plain
plain_done code (Hearing ∷ parts) notes plain world = plain_done code parts notes plain (do_part Hearing world)
plain_done code (Line bytes ∷ parts) notes plain world =
    let rest = plain_done code parts plain.1 plain.5 (do_part (Line bytes) world) in (
      rest.0,
      rest.1
          ∙ append_assoc world.journal bytes (note_lines code plain.1)
          ∙ ap (λ (line : List ℕ). world.journal ++ (line ++ note_lines code plain.1)) plain.2
          ∙ ap (λ (them : List Note). world.journal ++ note_lines code them) (sym plain.4),
      ap steps_told plain.4
          ∙ ap (λ (steps : List HostStep). steps ++ steps_told plain.1) plain.3
          ∙ rest.2,
    )
plain_done code (Sealing to ∷ parts) notes plain world =
    plain_done code parts notes plain (do_part (Sealing to) world)
plain_done code (Sending to bytes ∷ parts) notes plain world =
    plain_done code parts notes plain (do_part (Sending to bytes) world)

-- ---- parts with a step, which has its line

-- the parts are a step with its line, and plain ones behind it
record IsStepped (code : CodeShape) (host : HostState) (parts : List NodePart) : Type 0 where
  note : Note
  step : HostStep
  outcome : Outcome
  others : List NodePart
  notes : List Note
  parts_are : parts ≡ Step outcome.state ∷ Line (note_line code note) ∷ others
  tells : step_told note ≡ step ∷ []
  made : IsNodeStep code host step outcome
  plain : IsPlain code others notes

abbrev IsKnown : CodeShape → HostState → List NodePart → Type 0
IsKnown code host parts = ((notes : List Note) × IsPlain code parts notes) ⊎ IsStepped code host parts

one_step : (code : CodeShape) (host : HostState) (step : HostStep) (outcome : Outcome) (later : HostState) →
    IsNodeStep code host step outcome → later ≡ outcome.state → MakesHostSteps code host (step ∷ []) later
one_step code host step outcome later made same = (outcome, made, same)

stepped_exact : (code : CodeShape) (parts : List NodePart) (world : NodeWorld) → IsStepped code world.host parts →
    IsExact code world.host (do_all parts world).host world.journal (do_all parts world).journal
stepped_exact code parts world known =
    subst (λ (them : List NodePart).
    IsExact code world.host (do_all them world).host world.journal (do_all them world).journal)
    (sym known.parts_are)
    (let behind : NodeWorld =
    record world { host = known.outcome.state; journal = world.journal ++ note_line code known.note } in
    let others = plain_done code known.others known.notes known.plain behind in
    let steps : steps_told (known.note ∷ known.notes) ≡ known.step ∷ [] =
    ap (λ (them : List HostStep). them ++ steps_told known.notes) known.tells
    ∙ ap (λ (them : List HostStep). known.step ∷ them) others.2 in
    record {
      notes = known.note ∷ known.notes;
      journal_is = others.1
          ∙ append_assoc world.journal (note_line code known.note) (note_lines code known.notes);
      made = subst (λ (them : List HostStep). MakesHostSteps code world.host them (do_all known.others behind).host)
          (sym steps)
          (one_step code world.host known.step known.outcome (do_all known.others behind).host known.made others.0);
    })

-- the line of the step broke: it was put whole, or it tells one step too few
cut_noted : (code : CodeShape) (note : Note) (step : HostStep) (outcome : Outcome) (host later : HostState) (n : ℕ)
    (before after : List ℕ) → step_told note ≡ step ∷ [] → IsNodeStep code host step outcome →
    later ≡ outcome.state → after ≡ before ++ take n (note_line code note) →
    IsNoted code host later before after
cut_noted code note step outcome host later n before after tells made same is = elim (part_or_all code note n) [
  | inl cut ↦ record {
    notes = [];
    front = take n (note_line code note);
    journal_is = is;
    cut = cut;
    steps = step ∷ [];
    made = one_step code host step outcome later made same;
    told = inr (step, refl);
  }
  | inr all ↦ record {
    notes = note ∷ [];
    front = [];
    journal_is = is
        ∙ ap (λ (line : List ℕ). before ++ line)
        (all ∙ sym (append-nil (note_line code note)) ∙ sym (append-nil (note_line code note ++ [])));
    cut = nothing_cut code;
    steps = step ∷ [];
    made = one_step code host step outcome later made same;
    told = inl (sym (ap (λ (them : List HostStep). them ++ []) tells));
  }
]

-- something behind the line of the step broke
behind_noted : (code : CodeShape) (note : Note) (step : HostStep) (outcome : Outcome) (host later : HostState)
    (before after : List ℕ) → step_told note ≡ step ∷ [] → IsNodeStep code host step outcome →
    later ≡ outcome.state → AddsLines code (before ++ note_line code note) after →
    IsNoted code host later before after
behind_noted code note step outcome host later before after tells made same adds = record {
  notes = note ∷ adds.notes;
  front = adds.front;
  journal_is = adds.journal_is
      ∙ append_assoc before (note_line code note) (note_lines code adds.notes ++ adds.front)
      ∙ ap (λ (rest : List ℕ). before ++ rest)
      (sym (append_assoc (note_line code note) (note_lines code adds.notes) adds.front));
  cut = adds.cut;
  steps = step ∷ [];
  made = one_step code host step outcome later made same;
  told = inl (sym
      (ap (λ (them : List HostStep). them ++ steps_told adds.notes) tells
      ∙ ap (λ (them : List HostStep). step ∷ them) adds.none));
}

stepped_breaks : (code : CodeShape) (error : NodeError) (note : Note) (step : HostStep) (outcome : Outcome)
    (others : List NodePart) (notes : List Note) (world new : NodeWorld) → step_told note ≡ step ∷ [] →
    IsNodeStep code world.host step outcome → IsPlain code others notes →
    BreaksIn error (Step outcome.state ∷ Line (note_line code note) ∷ others) world new →
    IsNoted code world.host new.host world.journal new.journal
stepped_breaks code error note step outcome others notes world new tells made plain (inl at) =
    let same = step_at error outcome.state world new at in
    noted_nothing code world.host new.host world.journal new.journal (ap (λ (it : NodeWorld). it.host) same)
    (ap (λ (it : NodeWorld). it.journal) same)
stepped_breaks code error note step outcome others notes world new tells made plain (inr (inl at)) =
    let cut = line_at error (note_line code note) (do_part (Step outcome.state) world) new at in
    cut_noted code note step outcome world.host new.host cut.0 world.journal new.journal tells made
    (ap (λ (it : NodeWorld). it.host) cut.1) (ap (λ (it : NodeWorld). it.journal) cut.1)
stepped_breaks code error note step outcome others notes world new tells made plain (inr (inr later)) =
    let still = plain_breaks code error others notes plain
    (do_part (Line (note_line code note)) (do_part (Step outcome.state) world)) new later in
    behind_noted code note step outcome world.host new.host world.journal new.journal tells made still.0 still.1

-- ---- parts that are known

known_exact : (code : CodeShape) (parts : List NodePart) (world : NodeWorld) → IsKnown code world.host parts →
    IsExact code world.host (do_all parts world).host world.journal (do_all parts world).journal
known_exact code parts world (inl plain) =
    let all = plain_done code parts plain.0 plain.1 world in
    record {
      notes = plain.0;
      journal_is = all.1;
      made = subst (λ (them : List HostStep). MakesHostSteps code world.host them (do_all parts world).host) (sym all.2)
          all.0;
    }
known_exact code parts world (inr stepped) = stepped_exact code parts world stepped

still_noted : (code : CodeShape) (world new : NodeWorld) → IsStill code world new →
    IsNoted code world.host new.host world.journal new.journal
still_noted code world new still = record {
  notes = still.1.notes;
  front = still.1.front;
  journal_is = still.1.journal_is;
  cut = still.1.cut;
  steps = [];
  made = still.0;
  told = inl (sym still.1.none);
}

known_breaks : (code : CodeShape) (error : NodeError) (parts : List NodePart) (world new : NodeWorld) →
    IsKnown code world.host parts → BreaksIn error parts world new →
    IsNoted code world.host new.host world.journal new.journal
known_breaks code error parts world new (inl plain) breaks =
    still_noted code world new (plain_breaks code error parts plain.0 plain.1 world new breaks)
known_breaks code error parts world new (inr known) breaks =
    stepped_breaks code error known.note known.step known.outcome known.others known.notes world new known.tells
    known.made known.plain (subst (λ (them : List NodePart). BreaksIn error them world new) known.parts_are breaks)

-- ---- the parts of a unit

-- a frame that goes out, with a line behind it
out_plain : (code : CodeShape) (to : HostId) (out : Option (List ℕ)) (note : Note) → step_told note ≡ [] →
    IsPlain code (out_parts to out ++ Line (note_line code note) ∷ []) (note ∷ [])
out_plain code to None note silent = (note, [], refl, silent, refl, refl)
out_plain code to (Some bytes) note silent = (note, [], refl, silent, refl, refl)

frame_plain : (code : CodeShape) (seals : SealsShape) (to : HostId) (frame : List ℕ) (note : Note) →
    step_told note ≡ [] → IsPlain code (frame_parts seals to frame ++ Line (note_line code note) ∷ []) (note ∷ [])
frame_plain code None to frame note silent = (note, [], refl, silent, refl, refl)
frame_plain code (Some links) to frame note silent = out_plain code to (string_for (Some links) to frame) note silent

sending_plain : (code : CodeShape) (me : HostId) (seals : SealsShape) (message : Option (HostId × Message)) →
    (notes : List Note) × IsPlain code (sending_parts code me seals message) notes
sending_plain code me seals None = ([], refl)
sending_plain code me seals (Some it) =
    (sent it.0 it.1 ∷ [], frame_plain code seals it.0 _ (sent it.0 it.1) refl)

step_known : (code : CodeShape) (me : HostId) (inside : Inside) (note : Note) (step : HostStep) (outcome : Outcome)
    (parts : List NodePart) → step_told note ≡ step ∷ [] → IsNodeStep code inside.host step outcome →
    parts ≡ step_parts code me inside.seals (note_line code note) outcome → IsStepped code inside.host parts
step_known code me inside note step outcome parts tells made is =
    let plain = sending_plain code me inside.seals outcome.sent in
    record {
      note = note;
      step = step;
      outcome = outcome;
      others = sending_parts code me inside.seals outcome.sent;
      notes = plain.0;
      parts_are = is;
      tells = tells;
      made = made;
      plain = plain.1;
    }

hearing_plain : (code : CodeShape) (from : HostId) (is_root : Bool) →
    IsPlain code ((if is_root then Hearing ∷ [] else []) ++ Line (note_line code (done from)) ∷ []) (done from ∷ [])
hearing_plain code from true = (done from, [], refl, refl, refl, refl)
hearing_plain code from false = (done from, [], refl, refl, refl, refl)

arrival_known : (code : CodeShape) (me : HostId) (inside : Inside) (it : Arrival) (parts : List NodePart) →
    AreArrivalParts code me inside it parts → IsKnown code inside.host parts
arrival_known code me inside (arrival.Dropped why) parts are =
    inl (
      dropped why ∷ [],
      subst (λ (them : List NodePart). IsPlain code them (dropped why ∷ [])) (sym are)
          (dropped why, [], refl, refl, refl, refl),
    )
arrival_known code me inside (arrival.Done from) parts are =
    inl (
      done from ∷ [],
      subst (λ (them : List NodePart). IsPlain code them (done from ∷ [])) (sym are)
          (hearing_plain code from (from.0 == code.root.0)),
    )
arrival_known code me inside (arrival.Taken from message) parts are =
    inr (step_known code me inside (took from message) (take_from from message) are.0 parts refl are.1 are.2)

-- what was taken is opened first
opened_exact : (code : CodeShape) (opened : Opened) (others : List NodePart) (world : NodeWorld) →
    IsKnown code world.host others →
    let after = do_all (opening_parts opened ++ others) world in
    IsExact code world.host after.host world.journal after.journal
opened_exact code as_they_are others world known = known_exact code others world known
opened_exact code refused others world known = known_exact code others world known
opened_exact code (unsealed from frame) others world known =
    known_exact code others (do_part (Opening from) world) known

opened_breaks : (code : CodeShape) (error : NodeError) (opened : Opened) (others : List NodePart)
    (world new : NodeWorld) → IsKnown code world.host others →
    BreaksIn error (opening_parts opened ++ others) world new →
    IsNoted code world.host new.host world.journal new.journal
opened_breaks code error as_they_are others world new known breaks = known_breaks code error others world new known
    breaks
opened_breaks code error refused others world new known breaks = known_breaks code error others world new known breaks
opened_breaks code error (unsealed from frame) others world new known (inl at) =
    still_noted code world new (same_still code world new (opening_at error from world new at))
opened_breaks code error (unsealed from frame) others world new known (inr later) =
    known_breaks code error others (do_part (Opening from) world) new known later

-- the parts are a taking, and behind it an opening and parts that are known
abbrev IsTaken : CodeShape → HostState → List NodePart → Type 0
IsTaken code host parts =
    (opened : Opened) × (others : List NodePart) × IsKnown code host others
    × (parts ≡ Taking ∷ (opening_parts opened ++ others))

taking_exact : (code : CodeShape) (parts : List NodePart) (world : NodeWorld) → IsTaken code world.host parts →
    IsExact code world.host (do_all parts world).host world.journal (do_all parts world).journal
taking_exact code parts world (opened, others, known, is) =
    subst (λ (them : List NodePart).
    IsExact code world.host (do_all them world).host world.journal (do_all them world).journal) (sym is)
    (opened_exact code opened others (do_part Taking world) known)

after_taking : (code : CodeShape) (error : NodeError) (opened : Opened) (others : List NodePart)
    (world new : NodeWorld) →
    IsKnown code world.host others → BreaksIn error (Taking ∷ (opening_parts opened ++ others)) world new →
    IsNoted code world.host new.host world.journal new.journal
after_taking code error opened others world new known (inl at) =
    still_noted code world new (same_still code world new (taking_at error world new at))
after_taking code error opened others world new known (inr later) =
    opened_breaks code error opened others (do_part Taking world) new known later

taking_breaks : (code : CodeShape) (error : NodeError) (parts : List NodePart) (world new : NodeWorld) →
    IsTaken code world.host parts → BreaksIn error parts world new →
    IsNoted code world.host new.host world.journal new.journal
taking_breaks code error parts world new (opened, others, known, is) breaks =
    after_taking code error opened others world new known
    (subst (λ (them : List NodePart). BreaksIn error them world new) is breaks)

-- the parts where no thread runs
are_taken : (code : CodeShape) (me : HostId) (inside : Inside) (left : List (List ℕ)) (parts : List NodePart) →
    AreTakingParts code me inside left parts → IsTaken code inside.host parts
are_taken code me inside [] parts are = (as_they_are, [], inl ([], refl), are)
are_taken code me inside (bytes ∷ left) parts are =
    (_, are.1, arrival_known code me _ are.0 are.1 are.3, are.4)

turn_known : (code : CodeShape) (me : HostId) (inside : Inside) (parts : List NodePart) (outcome : Outcome) →
    IsNodeStep code inside.host turn outcome → parts ≡ step_parts code me inside.seals turn_line outcome →
    IsKnown code inside.host parts
turn_known code me inside parts outcome made is =
    inr (step_known code me inside turned turn outcome parts refl made is)

unit_exact : (code : CodeShape) (me : HostId) (world : NodeWorld) (running : Option ThreadShape)
    (parts : List NodePart) →
    AreUnitPartsOf code me world running parts →
    IsExact code world.host (do_all parts world).host world.journal (do_all parts world).journal
unit_exact code me world None parts are =
    taking_exact code parts world (are_taken code me (inside_of world) world.left parts are)
unit_exact code me world (Some thread) parts are =
    known_exact code parts world (turn_known code me (inside_of world) parts are.0 are.1 are.2)

unit_breaks : (code : CodeShape) (me : HostId) (error : NodeError) (world new : NodeWorld)
    (running : Option ThreadShape) (parts : List NodePart) → AreUnitPartsOf code me world running parts →
    BreaksIn error parts world new → IsNoted code world.host new.host world.journal new.journal
unit_breaks code me error world new None parts are breaks =
    taking_breaks code error parts world new (are_taken code me (inside_of world) world.left parts are) breaks
unit_breaks code me error world new (Some thread) parts are breaks =
    known_breaks code error parts world new (turn_known code me (inside_of world) parts are.0 are.1 are.2) breaks

-- ---- the closing frames

plain_append : (code : CodeShape) (first others : List NodePart) → IsPlain code first [] → IsPlain code others [] →
    IsPlain code (first ++ others) []
plain_append code [] others one two = two
plain_append code (Taking ∷ first) others one two = plain_append code first others one two
plain_append code (Opening from ∷ first) others one two = plain_append code first others one two
plain_append code (Step host ∷ first) others one two = absurd one
plain_append code (Hearing ∷ first) others one two = plain_append code first others one two
plain_append code (Line bytes ∷ first) others one two = absurd (let never = one.4 in let no : ⊥ = cc in no)
plain_append code (Sealing to ∷ first) others one two = plain_append code first others one two
plain_append code (Sending to bytes ∷ first) others one two = plain_append code first others one two

out_silent : (code : CodeShape) (to : HostId) (out : Option (List ℕ)) → IsPlain code (out_parts to out) []
out_silent code to None = refl
out_silent code to (Some bytes) = refl

frame_silent : (code : CodeShape) (seals : SealsShape) (to : HostId) (frame : List ℕ) →
    IsPlain code (frame_parts seals to frame) []
frame_silent code None to frame = refl
frame_silent code (Some links) to frame = out_silent code to (string_for (Some links) to frame)

telling_plain : (code : CodeShape) (seals : SealsShape) (to : HostId) (frame : List ℕ) (is_own : Bool) →
    IsPlain code (if is_own then [] else frame_parts seals to frame) []
telling_plain code seals to frame true = refl
telling_plain code seals to frame false = frame_silent code seals to frame

closing_plain : (code : CodeShape) (me : HostId) (seals : SealsShape) (number count : ℕ) →
    IsPlain code (closing_from me seals number count) []
closing_plain code me seals number zero = refl
closing_plain code me seals number (suc count) =
    plain_append code (telling me seals number) (closing_from me (after_telling me seals number) (number + 1) count)
    (telling_plain code seals (record { 0 = number }) _ (number == me.0))
    (closing_plain code me (after_telling me seals number) (number + 1) count)

closes_noted : (code : CodeShape) (me : HostId) (answer : Status) (world new : NodeWorld) →
    Closes code me answer world new → IsNoted code world.host new.host world.journal new.journal
closes_noted code me answer world new (inl told) =
    let plain = closing_plain code me world.seals 0 (length code.hosts) in
    let all = plain_done code (closing_parts code me world.seals) [] plain world in
    noted_nothing code world.host new.host world.journal new.journal
    (ap (λ (it : NodeWorld). it.host) told.1 ∙ all.0)
    (ap (λ (it : NodeWorld). it.journal) told.1 ∙ all.1 ∙ append-nil world.journal)
closes_noted code me answer world new (inr stops) =
    still_noted code world new
    (plain_breaks code stops.0 (closing_parts code me world.seals) []
    (closing_plain code me world.seals 0 (length code.hosts)) world new stops.2)

-- ---- all units

ends_noted : (code : CodeShape) (me : HostId) (stage : Stage) (answer : Status) (world new : NodeWorld)
    (Otherwise : Type 0) → (Otherwise → IsNoted code world.host new.host world.journal new.journal) →
    EndsAt code me stage answer world new Otherwise → IsNoted code world.host new.host world.journal new.journal
ends_noted code me is_told answer world new Otherwise noted ends =
    still_noted code world new (same_still code world new ends.1)
ends_noted code me halts answer world new Otherwise noted ends = closes_noted code me answer world new ends
ends_noted code me goes_on answer world new Otherwise noted ends = noted ends

pub steps_noted : (code : CodeShape) (me : HostId) (units : ℕ) (answer : Status) (world new : NodeWorld) →
    Serves code me units answer world new → IsNoted code world.host new.host world.journal new.journal
steps_noted code me zero answer world new serves =
    ends_noted code me (stage_of code me world) answer world new _
    (λ spent. still_noted code world new (same_still code world new spent.1)) serves
steps_noted code me (suc units) answer world new serves =
    ends_noted code me (stage_of code me world) answer world new _
    (λ (parts, are, goes). elim goes [
      | inl stops ↦ unit_breaks code me stops.0 world new world.host.running parts are stops.2
      | inr others ↦ exact_then code world.host (do_all parts world).host new.host world.journal
          (do_all parts world).journal new.journal (unit_exact code me world world.host.running parts are)
          (steps_noted code me units answer (do_all parts world) new others.1)
    ]) serves
