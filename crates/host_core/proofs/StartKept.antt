-- What holds of a host of the code holds at the start.
use Rattle.std.proofs.Common.{◌≡◌, ℕ, ◌+◌, suc, ℤ, List, [], ◌∷◌, length, sym, ap, ◌∙◌, refl}
use Rattle.std.specs.Prelude.{Option, Some, None, IsSomeAnd, replicate}
use Rattle.std.proofs.lemmas.List.{length-replicate}
use Rattle.std.proofs.lemmas.List.Elements.{All-nil}
use Rattle.js_base.specs.declared.ids.HostId.{HostId}
use Rattle.ics_stack.proofs.Tokens.{fits_empty}
use Rattle.host_code.specs.declared.code.Entry.{Entry}
use Rattle.host_code.specs.Code.{CodeShape, CodeFieldShape, halt, part_of, entry_at}
use Rattle.host_code.specs.Sound.{IsHost, IsSoundCode}
use Rattle.host_stores.specs.Stores.{own_rows}
use Rattle.host_core.specs.Host.{HostState, new_token, after_push}
use Rattle.host_core.specs.Start.{main_frame, last_token, idle_host, root_host}
use Rattle.host_core.specs.Fits.{StateFits, WaitingFits, StackEntryFits}
use Rattle.host_core.proofs.Kept.{kept_push, kept_entering}

-- there is a row for each field
rows_long : (me : HostId) (store : List (List ℤ)) (number : ℕ) (fields : List CodeFieldShape)
    → length (own_rows me store number fields) ≡ length fields
rows_long me store number [] = refl
rows_long me store number (field ∷ fields) = ap suc (rows_long me store (number + 1) fields)

pub idle_fits : (code : CodeShape) (store : List (List ℤ)) (key : List ℕ) (me : HostId) → IsHost code me
    → StateFits code (idle_host code store key me)
idle_fits code store key me there = record {
  me = there;
  rows = rows_long me store 0 code.fields;
  serials = length-replicate (length code.entries) 0;
  frames = length-replicate (length code.sites + 1) 0;
  requests = length-replicate (length (part_of code me)) 0;
  running = tt;
  waiting = All-nil (WaitingFits code me);
  entries = All-nil (StackEntryFits code me);
  stack = fits_empty me (replicate (length code.entries) 0);
}

-- an entry on the root host is one of a host that is the root
on_root : (code : CodeShape) (me : HostId) (P : Entry → Type 0) (there : Option Entry) → me ≡ code.root
    → IsSomeAnd there (λ found. (found.host ≡ code.root) × P found) → IsSomeAnd there (λ found. found.host ≡ me)
on_root code me P None same on = on
on_root code me P (Some found) same on = on.0 ∙ sym same

main_on_root : (code : CodeShape) (me : HostId) (there : Option Entry) → me ≡ code.root
    → IsSomeAnd there (λ found. found.host ≡ code.root) → IsSomeAnd there (λ found. found.host ≡ me)
main_on_root code me None same on = on
main_on_root code me (Some found) same on = on ∙ sym same

pub root_fits : (code : CodeShape) (idle : HostState) → IsSoundCode code → StateFits code idle → idle.me ≡ code.root
    → StateFits code (root_host code idle)
root_fits code idle sound fits root =
    kept_entering code (after_push idle halt main_frame (last_token idle.me)) code.main main_frame
    (new_token idle halt main_frame) sound
    (kept_push code idle halt main_frame (last_token idle.me) fits
    (on_root code idle.me (λ found. found.at ≡ 0) (entry_at code halt) root sound.halt_first) fits.me)
    (main_on_root code idle.me (entry_at code code.main) root sound.main) fits.me
