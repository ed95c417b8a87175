-- Lists with what is followed of each host.
use Rattle.std.proofs.Common.{◌≡◌, ℕ, zero, suc, ◌<◌, ◌≤◌, List, [], ◌∷◌, length, ap, refl, sym, ◌∙◌, arith, get_or}
use Rattle.std.specs.Prelude.{slice_get, slice_set, unwrap_or}
use Rattle.std.proofs.lemmas.List.{map-set}
use Rattle.host_code.specs.Code.{CodeShape}
use Rattle.js_base.specs.declared.ids.HostId.{HostId}
use Rattle.run_rows.specs.declared.row.Row.{Row}
use Rattle.run_sheet.specs.ChartRows.{TrackShape, no_track, track_at, track_behind, track_shape, track_shapes}
use Rattle.run_sheet.specs.ChartRows.{tracks_behind}
use Rattle.run_sheet.specs.RunEvents.{host_moved}
use Rattle.run_sheet.specs.declared.tracks.HostTrack.{HostTrack}

there_at : (tracks : List HostTrack) (n : ℕ) (d : HostTrack) → n < length tracks →
    unwrap_or (slice_get (track_shapes tracks) n) no_track ≡ track_shape (get_or tracks n d)
there_at [] n d lt = absurd (omega arith)
there_at (track ∷ tracks) zero d lt = refl
there_at (track ∷ tracks) (suc n) d lt = there_at tracks n d (omega arith)

pub track_there : (tracks : List HostTrack) (host : HostId) (d : HostTrack) → host.0 < length tracks →
    track_at (track_shapes tracks) host ≡ track_shape (get_or tracks host.0 d)
track_there tracks host d lt = there_at tracks host.0 d lt

missing_at : (tracks : List HostTrack) (n : ℕ) → length tracks ≤ n →
    unwrap_or (slice_get (track_shapes tracks) n) no_track ≡ no_track
missing_at [] n past = refl
missing_at (track ∷ tracks) zero past = absurd (omega arith)
missing_at (track ∷ tracks) (suc n) past = missing_at tracks n (omega arith)

pub track_missing : (tracks : List HostTrack) (host : HostId) → length tracks ≤ host.0 →
    track_at (track_shapes tracks) host ≡ no_track
track_missing tracks host past = missing_at tracks host.0 past

pub tracks_put : (tracks : List HostTrack) (n : ℕ) (track : HostTrack) →
    track_shapes (slice_set tracks n track) ≡ slice_set (track_shapes tracks) n (track_shape track)
tracks_put tracks n track = map-set track_shape tracks n track

-- what is followed of the host that moved is put in its place
pub tracks_followed : (code : CodeShape) (tracks : List HostTrack) (row : Row) (host : HostId) (here next : HostTrack) →
    host ≡ host_moved row.what → host.0 < length tracks → here ≡ get_or tracks host.0 here →
    track_shape next ≡ track_behind code (track_shape here) row →
    track_shapes (slice_set tracks host.0 next) ≡ tracks_behind code (track_shapes tracks) row
tracks_followed code tracks row host here next same lt is follows =
    let there : track_shape here ≡ track_at (track_shapes tracks) host =
    sym (track_there tracks host here lt ∙ ap track_shape (sym is)) in
    tracks_put tracks host.0 next
    ∙ ap (slice_set (track_shapes tracks) host.0) (follows ∙ ap (λ (t : TrackShape). track_behind code t row) there)
    ∙ ap (λ (h : HostId).
    slice_set (track_shapes tracks) h.0 (track_behind code (track_at (track_shapes tracks) h) row)) same
