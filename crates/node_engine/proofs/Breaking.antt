-- What is left of a node's world where parts are done and where one breaks.
use Rattle.std.proofs.Common.{◌≡◌, ◌⊎◌, inl, inr, ℕ, List, [], ◌∷◌, ◌++◌, Option, Some, None, take, drop, refl, ◌∙◌}
use Rattle.std.proofs.Common.{Result}
use Rattle.std.proofs.Common.{Ok, Err, sym, subst}
use Rattle.std.specs.Prelude.{IfErr, IsErr}
use Rattle.std.specs.Result.{IsErrAnd}
use Rattle.std.proofs.lemmas.List.{append-nil}
use Rattle.std.proofs.lemmas.Option.{none-some}
use Rattle.js_base.specs.Sink.{TakesFront}
use Rattle.js_base.specs.Sink as sink
use Rattle.js_base.specs.declared.ids.HostId.{HostId}
use Rattle.js_base.specs.declared.status.Status.{Status}
use Rattle.js_base.specs.declared.status.Status.TheVariants as status
use Rattle.host_core.specs.Host.{HostState}
use Rattle.node_links.specs.Links.{Gave, Took}
use Rattle.node_engine.specs.declared.node_error.NodeError.{NodeError}
use Rattle.node_engine.specs.declared.node_error.NodeError.TheVariants as node_error
use Rattle.node_engine.specs.NodeWorlds.{Inside, NodeWorld, NodePart, Taking, Step, Line, Sending, do_part, do_all}
use Rattle.node_engine.specs.NodeWorlds.{Breaks, BreaksIn}
use Rattle.node_engine.specs.Statuses.{status_of}
use Rattle.node_engine.specs.Told.{LinksTold, JournalTold, Outside, Seen, IsAllTold, TellsOf, TakesFrame, PartsAreDone}
use Rattle.node_engine.specs.Told.{Stops}
use Rattle.node_engine.specs.Told.{Faults, Leaves, Rises}

-- ---- what is left beside the world

pub leaves_all : (there : Outside) → Leaves status.Done there there
leaves_all there = record { faults = (refl, refl); begun = refl }

pub leaves_without_memory : (there : Outside) → Leaves status.NoMemory there there
leaves_without_memory there = record { faults = (refl, refl); begun = refl }

pub faults_later : (answer : Status) (old mid new : Outside) → Faults status.Done old mid → Faults answer mid new →
    Faults answer old new
faults_later status.LinkFault old mid new one two =
    (subst (λ n. Rises n new.links.faults) one.0 two.0, two.1 ∙ one.1)
faults_later status.OutFault old mid new one two =
    (two.0 ∙ one.0, subst (λ n. Rises n new.journal.faults) one.1 two.1)
faults_later status.Done old mid new one two = (two.0 ∙ one.0, two.1 ∙ one.1)
faults_later status.Usage old mid new one two = (two.0 ∙ one.0, two.1 ∙ one.1)
faults_later status.SourceRefused old mid new one two = (two.0 ∙ one.0, two.1 ∙ one.1)
faults_later status.InputRefused old mid new one two = (two.0 ∙ one.0, two.1 ∙ one.1)
faults_later status.Differ old mid new one two = (two.0 ∙ one.0, two.1 ∙ one.1)
faults_later status.FileFault old mid new one two = (two.0 ∙ one.0, two.1 ∙ one.1)
faults_later status.NoMemory old mid new one two = (two.0 ∙ one.0, two.1 ∙ one.1)
faults_later status.Spent old mid new one two = (two.0 ∙ one.0, two.1 ∙ one.1)
faults_later status.ChildFault old mid new one two = (two.0 ∙ one.0, two.1 ∙ one.1)
faults_later status.ChildEnded old mid new one two = (two.0 ∙ one.0, two.1 ∙ one.1)

pub leaves_later : (answer : Status) (old mid new : Outside) → Leaves status.Done old mid → Leaves answer mid new →
    Leaves answer old new
leaves_later answer old mid new one two = record {
  faults = faults_later answer old mid new one.faults two.faults;
  begun = two.begun ∙ one.begun;
}

-- where one of two cannot be, the other is so
pub the_other : {P S : Type 0} → P ⊎ S → ¬ P → S
the_other (inl is) not = absurd (not is)
the_other (inr is) not = is

-- ---- one part

line_leaves : (answer : Status) (links : LinksTold) (old new : JournalTold) →
    Faults answer (record { links = links; journal = old }) (record { links = links; journal = new }) →
    Leaves answer (record { links = links; journal = old }) (record { links = links; journal = new })
line_leaves answer links old new faults = record { faults = faults; begun = refl }

pub line_done : (bytes : List ℕ) (inside : Inside) (there : LinksTold) (old new : JournalTold) →
    sink.Takes bytes old.taken new.taken → new.faults ≡ old.faults →
    PartsAreDone (Line bytes ∷ []) (record { inside = inside; outside = record { links = there; journal = old } })
    (record { inside = inside; outside = record { links = there; journal = new } })
line_done bytes inside there old new takes still = record {
  after = λ world told.
      let put = rw told.journal_is at takes in
      record {
        host_is = told.host_is;
        seals_is = told.seals_is;
        left_is = told.left_is;
        sent_is = told.sent_is;
        journal_is = put;
      };
  leaves = line_leaves status.Done there old new (refl, still);
}

-- a front of a line was put
line_front : (bytes : List ℕ) (inside : Inside) (there : LinksTold) (old new : JournalTold) →
    TakesFront bytes old.taken new.taken → (world : NodeWorld) →
    IsAllTold world (record { inside = inside; outside = record { links = there; journal = old } }) →
    TellsOf (λ after. (n : ℕ) × (after ≡ do_part (Line (take n bytes)) world))
    (record { inside = inside; outside = record { links = there; journal = new } })
line_front bytes inside there old new front world told =
    let put = rw told.journal_is at front.1 in (
      do_part (Line (take front.0 bytes)) world,
      record {
        host_is = told.host_is;
        seals_is = told.seals_is;
        left_is = told.left_is;
        sent_is = told.sent_is;
        journal_is = put;
      },
      (front.0, refl),
    )

pub line_breaks : (bytes : List ℕ) (inside : Inside) (there : LinksTold) (old new : JournalTold) →
    TakesFront bytes old.taken new.taken → Rises old.faults new.faults →
    Stops node_error.OutFault (Line bytes ∷ [])
    (record { inside = inside; outside = record { links = there; journal = old } })
    (record { inside = inside; outside = record { links = there; journal = new } })
line_breaks bytes inside there old new front rises = record {
  after = λ world told.
      let end = line_front bytes inside there old new front world told in (end.0, end.1, inl end.2);
  leaves = line_leaves status.OutFault there old new (refl, rises);
}

pub line_without_memory : (bytes : List ℕ) (inside : Inside) (there : LinksTold) (old new : JournalTold) →
    TakesFront bytes old.taken new.taken → new.faults ≡ old.faults →
    Stops node_error.OutOfMemory (Line bytes ∷ [])
    (record { inside = inside; outside = record { links = there; journal = old } })
    (record { inside = inside; outside = record { links = there; journal = new } })
line_without_memory bytes inside there old new front still = record {
  after = λ world told.
      let end = line_front bytes inside there old new front world told in (end.0, end.1, inl end.2);
  leaves = line_leaves status.NoMemory there old new (refl, still);
}

-- nothing of a line was put
pub line_unput : (bytes : List ℕ) (there : Seen) → Stops node_error.OutOfMemory (Line bytes ∷ []) there there
line_unput bytes there = record {
  after = λ world told. (
    do_part (Line (take 0 bytes)) world,
    record {
      host_is = told.host_is;
      seals_is = told.seals_is;
      left_is = told.left_is;
      sent_is = told.sent_is;
      journal_is = rw (append-nil world.journal) told.journal_is;
    },
    inl (0, refl),
  );
  leaves = leaves_without_memory there.outside;
}

-- what a call of links leaves that keeps what it is to give
pub record Sends (answer : Status) (old new : LinksTold) : Type 0 where
  pub faults : (journal : JournalTold) →
      Faults answer (record { links = old; journal = journal }) (record { links = new; journal = journal })
  pub begun : new.begun ≡ old.begun
  pub left : new.left ≡ old.left

frame_sent : (to : HostId) (bytes : List ℕ) (old new : LinksTold) (inside : Inside) (journal : JournalTold) →
    Took to bytes old.sent new.sent → new.left ≡ old.left → (world : NodeWorld) →
    IsAllTold world (record { inside = inside; outside = record { links = old; journal = journal } }) →
    IsAllTold (do_part (Sending to bytes) world)
    (record { inside = inside; outside = record { links = new; journal = journal } })
frame_sent to bytes old new inside journal took stays world told =
    let sent = rw told.sent_is at took in
    record {
      host_is = told.host_is;
      seals_is = told.seals_is;
      left_is = stays ∙ told.left_is;
      sent_is = sent;
      journal_is = told.journal_is;
    }

pub send_done : (to : HostId) (bytes : List ℕ) (old new : LinksTold) (inside : Inside) (journal : JournalTold) →
    Took to bytes old.sent new.sent → Sends status.Done old new →
    PartsAreDone (Sending to bytes ∷ [])
    (record { inside = inside; outside = record { links = old; journal = journal } })
    (record { inside = inside; outside = record { links = new; journal = journal } })
send_done to bytes old new inside journal took sends = record {
  after = λ world told. frame_sent to bytes old new inside journal took sends.left world told;
  leaves = record { faults = sends.faults journal; begun = sends.begun };
}

-- a frame was sent or not
sent_or_not : (to : HostId) (bytes : List ℕ) (old new : LinksTold) (inside : Inside) (journal : JournalTold) →
    ((new.sent ≡ old.sent) ⊎ Took to bytes old.sent new.sent) → new.left ≡ old.left → (world : NodeWorld) →
    IsAllTold world (record { inside = inside; outside = record { links = old; journal = journal } }) →
    TellsOf (λ after. (after ≡ world) ⊎ (after ≡ do_part (Sending to bytes) world))
    (record { inside = inside; outside = record { links = new; journal = journal } })
sent_or_not to bytes old new inside journal (inl same) stays world told = (
  world,
  record {
    host_is = told.host_is;
    seals_is = told.seals_is;
    left_is = stays ∙ told.left_is;
    sent_is = same ∙ told.sent_is;
    journal_is = told.journal_is;
  },
  inl refl,
)
sent_or_not to bytes old new inside journal (inr took) stays world told =
    (do_part (Sending to bytes) world, frame_sent to bytes old new inside journal took stays world told, inr refl)

pub send_breaks : (to : HostId) (bytes : List ℕ) (old new : LinksTold) (inside : Inside) (journal : JournalTold) →
    ((new.sent ≡ old.sent) ⊎ Took to bytes old.sent new.sent) → Sends status.LinkFault old new →
    Stops node_error.LinkFault (Sending to bytes ∷ [])
    (record { inside = inside; outside = record { links = old; journal = journal } })
    (record { inside = inside; outside = record { links = new; journal = journal } })
send_breaks to bytes old new inside journal sent sends = record {
  after = λ world told.
      let end = sent_or_not to bytes old new inside journal sent sends.left world told in
      (end.0, end.1, inl end.2);
  leaves = record { faults = sends.faults journal; begun = sends.begun };
}

pub send_without_memory : (to : HostId) (bytes : List ℕ) (old new : LinksTold) (inside : Inside)
    (journal : JournalTold) → ((new.sent ≡ old.sent) ⊎ Took to bytes old.sent new.sent) →
    Sends status.NoMemory old new →
    Stops node_error.OutOfMemory (Sending to bytes ∷ [])
    (record { inside = inside; outside = record { links = old; journal = journal } })
    (record { inside = inside; outside = record { links = new; journal = journal } })
send_without_memory to bytes old new inside journal sent sends = record {
  after = λ world told.
      let end = sent_or_not to bytes old new inside journal sent sends.left world told in
      (end.0, end.1, inl end.2);
  leaves = record { faults = sends.faults journal; begun = sends.begun };
}

-- its bytes were not made
pub send_unmade : (to : HostId) (bytes : List ℕ) (there : Seen) →
    Stops node_error.OutOfMemory (Sending to bytes ∷ []) there there
send_unmade to bytes there = record {
  after = λ world told. (world, told, inl (inl refl));
  leaves = leaves_without_memory there.outside;
}

-- the frame that is taken is the next one
next_frame : (bytes : List ℕ) (left : List (List ℕ)) (new : Option (List (List ℕ))) → Gave bytes (Some left) new →
    (new ≡ Some (drop 1 left)) × ((rest : List (List ℕ)) × (left ≡ bytes ∷ rest))
next_frame bytes left None gave = absurd (none-some left (sym gave))
next_frame bytes left (Some rest) gave =
    let same : left ≡ bytes ∷ rest = cc in (rw same refl, (rest, same))

pub frame_taken : (bytes : List ℕ) (old new : LinksTold) (inside : Inside) (journal : JournalTold) →
    Gave bytes old.left new.left → new.sent ≡ old.sent → new.begun ≡ old.begun → new.faults ≡ old.faults →
    TakesFrame bytes (record { inside = inside; outside = record { links = old; journal = journal } })
    (record { inside = inside; outside = record { links = new; journal = journal } })
frame_taken bytes old new inside journal gave same stays still = record {
  after = λ world told.
      let next = next_frame bytes world.left new.left (rw told.left_is at gave) in (
        record {
          host_is = told.host_is;
          seals_is = told.seals_is;
          left_is = next.0;
          sent_is = same ∙ told.sent_is;
          journal_is = told.journal_is;
        },
        next.1,
      );
  leaves = record { faults = (still, refl); begun = stays };
}

-- nothing was taken
taking_stops : (error : NodeError) → ((world : NodeWorld) → Breaks error Taking world world) →
    (old new : LinksTold) (inside : Inside) (journal : JournalTold) → new.sent ≡ old.sent →
    Sends (status_of error) old new →
    Stops error (Taking ∷ []) (record { inside = inside; outside = record { links = old; journal = journal } })
    (record { inside = inside; outside = record { links = new; journal = journal } })
taking_stops error breaks old new inside journal same sends = record {
  after = λ world told. (
    world,
    record {
      host_is = told.host_is;
      seals_is = told.seals_is;
      left_is = sends.left ∙ told.left_is;
      sent_is = same ∙ told.sent_is;
      journal_is = told.journal_is;
    },
    inl (breaks world),
  );
  leaves = record { faults = sends.faults journal; begun = sends.begun };
}

pub taking_breaks : (old new : LinksTold) (inside : Inside) (journal : JournalTold) → new.sent ≡ old.sent →
    Sends status.LinkFault old new →
    Stops node_error.LinkFault (Taking ∷ [])
    (record { inside = inside; outside = record { links = old; journal = journal } })
    (record { inside = inside; outside = record { links = new; journal = journal } })
taking_breaks = taking_stops node_error.LinkFault (λ world. refl)

pub taking_without_memory : (old new : LinksTold) (inside : Inside) (journal : JournalTold) → new.sent ≡ old.sent →
    Sends status.NoMemory old new →
    Stops node_error.OutOfMemory (Taking ∷ [])
    (record { inside = inside; outside = record { links = old; journal = journal } })
    (record { inside = inside; outside = record { links = new; journal = journal } })
taking_without_memory = taking_stops node_error.OutOfMemory (λ world. refl)

-- ---- parts in a row

-- no part is done
pub does_nothing : (there : Seen) → PartsAreDone [] there there
does_nothing there = record { after = λ world told. told; leaves = leaves_all there.outside }

-- it breaks as the first of several
pub breaks_first : (error : NodeError) (part : NodePart) (parts : List NodePart) (old new : Seen) →
    Stops error (part ∷ []) old new → Stops error (part ∷ parts) old new
breaks_first error part parts old new stops = record {
  after = λ world told.
      let end = stops.after world told in
      (end.0, end.1, elim end.2 [ inl broken ↦ inl broken | inr none ↦ absurd none ]);
  leaves = stops.leaves;
}

pub breaks_later : (error : NodeError) (part : NodePart) (parts : List NodePart) (old mid new : Seen) →
    PartsAreDone (part ∷ []) old mid → Stops error parts mid new → Stops error (part ∷ parts) old new
breaks_later error part parts old mid new does stops = record {
  after = λ world told.
      let end = stops.after (do_part part world) (does.after world told) in (end.0, end.1, inr end.2);
  leaves = leaves_later (status_of error) old.outside mid.outside new.outside does.leaves stops.leaves;
}

pub done_later : (part : NodePart) (parts : List NodePart) (old mid new : Seen) →
    PartsAreDone (part ∷ []) old mid → PartsAreDone parts mid new → PartsAreDone (part ∷ parts) old new
done_later part parts old mid new first others = record {
  after = λ world told. others.after (do_part part world) (first.after world told);
  leaves = leaves_later status.Done old.outside mid.outside new.outside first.leaves others.leaves;
}

-- ---- parts behind others

pub do_all_behind : (first others : List NodePart) (world : NodeWorld) →
    do_all (first ++ others) world ≡ do_all others (do_all first world)
do_all_behind [] others world = refl
do_all_behind (part ∷ first) others world = do_all_behind first others (do_part part world)

breaks_behind : (error : NodeError) (first others : List NodePart) (world new : NodeWorld) →
    BreaksIn error others (do_all first world) new → BreaksIn error (first ++ others) world new
breaks_behind error [] others world new breaks = breaks
breaks_behind error (part ∷ first) others world new breaks =
    inr (breaks_behind error first others (do_part part world) new breaks)

breaks_before : (error : NodeError) (first others : List NodePart) (world new : NodeWorld) →
    BreaksIn error first world new → BreaksIn error (first ++ others) world new
breaks_before error [] others world new breaks = absurd breaks
breaks_before error (part ∷ first) others world new (inl breaks) = inl breaks
breaks_before error (part ∷ first) others world new (inr breaks) =
    inr (breaks_before error first others (do_part part world) new breaks)

pub all_done : (first others : List NodePart) (old mid new : Seen) → PartsAreDone first old mid →
    PartsAreDone others mid new →
    PartsAreDone (first ++ others) old new
all_done first others old mid new does did = record {
  after = λ world told.
      subst (λ (there : NodeWorld). IsAllTold there new) (sym (do_all_behind first others world))
      (did.after (do_all first world) (does.after world told));
  leaves = leaves_later status.Done old.outside mid.outside new.outside does.leaves did.leaves;
}

pub stops_behind : (error : NodeError) (first others : List NodePart) (old mid new : Seen) →
    PartsAreDone first old mid →
    Stops error others mid new → Stops error (first ++ others) old new
stops_behind error first others old mid new does stops = record {
  after = λ world told.
      let end = stops.after (do_all first world) (does.after world told) in
      (end.0, end.1, breaks_behind error first others world end.0 end.2);
  leaves = leaves_later (status_of error) old.outside mid.outside new.outside does.leaves stops.leaves;
}

pub stops_before : (error : NodeError) (first others : List NodePart) (old new : Seen) → Stops error first old new →
    Stops error (first ++ others) old new
stops_before error first others old new stops = record {
  after = λ world told.
      let end = stops.after world told in (end.0, end.1, breaks_before error first others world end.0 end.2);
  leaves = stops.leaves;
}

-- ---- a step of the host

-- it is made, and leaves the seals and what is outside
step_made : (before : Inside) (later : HostState) (there : Outside) →
    PartsAreDone (Step later ∷ []) (record { inside = before; outside = there })
    (record { inside = record before { host = later }; outside = there })
step_made before later there = record {
  after = λ world told. record {
    host_is = refl;
    seals_is = told.seals_is;
    left_is = told.left_is;
    sent_is = told.sent_is;
    journal_is = told.journal_is;
  };
  leaves = leaves_all there;
}

pub step_does : (parts : List NodePart) (before : Inside) (later : HostState) (there : Outside) (new : Seen) →
    PartsAreDone parts (record { inside = record before { host = later }; outside = there }) new →
    PartsAreDone (Step later ∷ parts) (record { inside = before; outside = there }) new
step_does parts before later there new does =
    done_later (Step later) parts _ _ new (step_made before later there) does

-- a part behind it breaks
pub step_then_stops : (error : NodeError) (parts : List NodePart) (before : Inside) (later : HostState)
    (there : Outside)
    (new : Seen) → Stops error parts (record { inside = record before { host = later }; outside = there }) new →
    Stops error (Step later ∷ parts) (record { inside = before; outside = there }) new
step_then_stops error parts before later there new stops =
    breaks_later error (Step later) parts _ _ new (step_made before later there) stops

-- it is not made
pub step_stops : (parts : List NodePart) (before : Inside) (later outcome : HostState) (there : Outside) →
    later ≡ before.host →
    Stops node_error.OutOfMemory (Step outcome ∷ parts) (record { inside = before; outside = there })
    (record { inside = record before { host = later }; outside = there })
step_stops parts before later outcome there same = record {
  after = λ world told. (
    world,
    record {
      host_is = same ∙ told.host_is;
      seals_is = told.seals_is;
      left_is = told.left_is;
      sent_is = told.sent_is;
      journal_is = told.journal_is;
    },
    inl refl,
  );
  leaves = leaves_without_memory there;
}

-- ---- an error that is handed on

pub handed : {T : Type 0} (P : NodeError → Type 0) (why : NodeError) (result : Result T NodeError) →
    IsErr result × IsErrAnd result (λ other. other ≡ why) → P why → IfErr result P
handed P why (Ok value) is holds = absurd is.1
handed P why (Err other) is holds = subst P (sym is.1) holds
