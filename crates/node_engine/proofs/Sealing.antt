-- What is left of a node where frames are sealed and opened.
use Rattle.std.proofs.Common.{◌≡◌, ◌∙◌, ℕ, List, [], ◌∷◌, Some, None, inl, refl, sym, ap, subst}
use Rattle.js_base.specs.declared.ids.HostId.{HostId}
use Rattle.host_core.specs.Host.{HostState}
use Rattle.node_engine.specs.declared.node_error.NodeError.{NodeError}
use Rattle.node_engine.specs.declared.node_error.NodeError.TheVariants as node_error
use Rattle.node_engine.specs.NodeWorlds.{NodeWorld, Sending, do_all}
use Rattle.node_seals.specs.Seals.{Opened, SealsShape, as_they_are, refused, unsealed, after_opened}
use Rattle.node_seals.specs.Seals.{after_opening, after_sealing}
use Rattle.node_seals.specs.Seals.{string_for}
use Rattle.node_engine.specs.Told.{PartsAreDone, Outside, Seen, Stops}
use Rattle.node_engine.specs.Units.{frame_parts, opening_parts, out_parts, sealing_parts}
use Rattle.node_engine.proofs.Breaking.{all_done, does_nothing, leaves_all, leaves_without_memory, stops_behind}

-- a node with this host and these seals
abbrev with_seals : HostState → SealsShape → Outside → Seen
with_seals host seals there = record { inside = record { host = host; seals = seals }; outside = there }

-- ---- sealing

sealing_made : (seals : SealsShape) (to : HostId) (host : HostState) (there : Outside) →
    PartsAreDone (sealing_parts seals to) (with_seals host seals there) (with_seals host (after_sealing to seals) there)
sealing_made None to host there = does_nothing (with_seals host None there)
sealing_made (Some links) to host there = record {
  after = λ world told. record {
    host_is = told.host_is;
    seals_is = ap (after_sealing to) told.seals_is;
    left_is = told.left_is;
    sent_is = told.sent_is;
    journal_is = told.journal_is;
  };
  leaves = leaves_all there;
}

-- what goes out for a frame is sent
pub frame_does : (seals after : SealsShape) (to : HostId) (frame bytes : List ℕ) (host : HostState) (there : Outside)
    (new : Seen) → after ≡ after_sealing to seals → Some bytes ≡ string_for seals to frame →
    PartsAreDone (Sending to bytes ∷ []) (with_seals host after there) new →
    PartsAreDone (frame_parts seals to frame) (with_seals host seals there) new
frame_does seals after to frame bytes host there new raised is does =
    all_done (sealing_parts seals to) (out_parts to (string_for seals to frame)) _
    (with_seals host (after_sealing to seals) there) new (sealing_made seals to host there)
    (subst (λ out. PartsAreDone (out_parts to out) (with_seals host (after_sealing to seals) there) new) is
    (subst (λ s. PartsAreDone (Sending to bytes ∷ []) (with_seals host s there) new) raised does))

-- or breaks
pub frame_stops : (error : NodeError) (seals after : SealsShape) (to : HostId) (frame bytes : List ℕ)
    (host : HostState) (there : Outside) (new : Seen) → after ≡ after_sealing to seals →
    Some bytes ≡ string_for seals to frame →
    Stops error (Sending to bytes ∷ []) (with_seals host after there) new →
    Stops error (frame_parts seals to frame) (with_seals host seals there) new
frame_stops error seals after to frame bytes host there new raised is stops =
    stops_behind error (sealing_parts seals to) (out_parts to (string_for seals to frame)) _
    (with_seals host (after_sealing to seals) there) new (sealing_made seals to host there)
    (subst (λ out. Stops error (out_parts to out) (with_seals host (after_sealing to seals) there) new) is
    (subst (λ s. Stops error (Sending to bytes ∷ []) (with_seals host s there) new) raised stops))

-- nothing goes out for it
pub frame_kept : (seals after : SealsShape) (to : HostId) (frame : List ℕ) (host : HostState) (there : Outside) →
    after ≡ after_sealing to seals → None ≡ string_for seals to frame →
    PartsAreDone (frame_parts seals to frame) (with_seals host seals there) (with_seals host after there)
frame_kept seals after to frame host there raised is =
    subst (λ s. PartsAreDone (frame_parts seals to frame) (with_seals host seals there) (with_seals host s there))
    (sym raised)
    (all_done (sealing_parts seals to) (out_parts to (string_for seals to frame)) _
    (with_seals host (after_sealing to seals) there) _ (sealing_made seals to host there)
    (subst (λ out.
    PartsAreDone (out_parts to out) (with_seals host (after_sealing to seals) there)
    (with_seals host (after_sealing to seals) there)) is (does_nothing _)))

-- it is not made, or not sealed
pub frame_unmade : (seals : SealsShape) (to : HostId) (frame : List ℕ) (host : HostState) (there : Outside) →
    Stops node_error.OutOfMemory (frame_parts seals to frame) (with_seals host seals there)
    (with_seals host seals there)
frame_unmade None to frame host there = record {
  after = λ world told. (world, told, inl (inl refl));
  leaves = leaves_without_memory there;
}
frame_unmade (Some links) to frame host there = record {
  after = λ world told. (world, told, inl refl);
  leaves = leaves_without_memory there;
}

pub frame_unsealed : (seals after : SealsShape) (to : HostId) (frame : List ℕ) (host : HostState) (there : Outside) →
    after ≡ seals →
    Stops node_error.OutOfMemory (frame_parts seals to frame) (with_seals host seals there)
    (with_seals host after there)
frame_unsealed seals after to frame host there same =
    subst (λ s.
    Stops node_error.OutOfMemory (frame_parts seals to frame) (with_seals host seals there) (with_seals host s there))
    (sym same) (frame_unmade seals to frame host there)

-- ---- opening

opening_made : (opened : Opened) (seals : SealsShape) (host : HostState) (there : Outside) →
    PartsAreDone (opening_parts opened) (with_seals host seals there)
    (with_seals host (after_opened opened seals) there)
opening_made as_they_are seals host there = does_nothing (with_seals host seals there)
opening_made refused seals host there = does_nothing (with_seals host seals there)
opening_made (unsealed from frame) seals host there = record {
  after = λ world told. record {
    host_is = told.host_is;
    seals_is = ap (after_opening from) told.seals_is;
    left_is = told.left_is;
    sent_is = told.sent_is;
    journal_is = told.journal_is;
  };
  leaves = leaves_all there;
}

pub opening_does : (opened : Opened) (seals after : SealsShape) (host : HostState) (there : Outside) →
    after ≡ after_opened opened seals →
    PartsAreDone (opening_parts opened) (with_seals host seals there) (with_seals host after there)
opening_does opened seals after host there is =
    subst (λ s. PartsAreDone (opening_parts opened) (with_seals host seals there) (with_seals host s there)) (sym is)
    (opening_made opened seals host there)

pub opening_stops : (opened : Opened) (from : HostId) (frame : List ℕ) (seals after : SealsShape) (host : HostState)
    (there : Outside) → opened ≡ unsealed from frame → after ≡ seals →
    Stops node_error.OutOfMemory (opening_parts opened) (with_seals host seals there) (with_seals host after there)
opening_stops opened from frame seals after host there is same =
    subst (λ it. Stops node_error.OutOfMemory (opening_parts it) (with_seals host seals there) (with_seals host after
    there)) (sym is)
    (record {
      after = λ world told. (
        world,
        record {
          host_is = told.host_is;
          seals_is = same ∙ told.seals_is;
          left_is = told.left_is;
          sent_is = told.sent_is;
          journal_is = told.journal_is;
        },
        inl refl,
      );
      leaves = leaves_without_memory there;
    })

-- opening tells nothing of the end of the program
pub opening_keeps : (opened : Opened) (world : NodeWorld) → (do_all (opening_parts opened) world).ended ≡ world.ended
opening_keeps as_they_are world = refl
opening_keeps refused world = refl
opening_keeps (unsealed from frame) world = refl
