-- Why bytes are no frame, by places and lengths alone: the first fault in the order of refusals.
use Rattle.std.specs.Prelude.{ℕ, ◌*◌, Bool, true, if◌then◌else◌, ◌==◌, List, [], ◌∷◌, length, take, drop, nat_lt}
use Rattle.std.specs.Prelude.{nat_le, slice_index, Option, Some, None, Result, Ok, Err}
use Rattle.std.specs.Int.{w32, from_be_bytes}
use Rattle.js_base.specs.declared.limits.TheConstants.{HOSTS, FRAME_BYTES}
use Rattle.wire_msg.specs.declared.error.WireError.{WireError}
use Rattle.wire_msg.specs.declared.error.WireError.TheVariants as refusal
use Rattle.wire_msg.specs.Frames.{may_ride}

-- How many bytes the fields of a message have at the least, at which of them its token begins, if it has one, and
-- which of them says how many pairs follow, if some do. A token begins with its host, and a pair is a variable and the
-- value that rides for it.
pub record Layout : Type 0 where
  pub sure : ℕ
  pub token : Option ℕ
  pub count : Option ℕ

abbrev pub without_token : ℕ → Layout
without_token sure = record { sure = sure; token = None; count = None }

abbrev pub with_token : ℕ → ℕ → Layout
with_token sure token = record { sure = sure; token = Some token; count = None }

abbrev pub with_pairs : ℕ → ℕ → ℕ → Layout
with_pairs sure token count = record { sure = sure; token = Some token; count = Some count }

-- the layout of a kind
abbrev pub message_layout : ℕ → Option Layout
message_layout kind =
    if kind == 1 then Some (without_token 24)
    else (if kind == 2 then Some (without_token 32)
    else (if kind == 3 then Some (without_token 36)
    else (if kind == 4 then Some (with_token 69 28)
    else (if kind == 5 then Some (with_token 57 16)
    else (if kind == 6 then Some (with_token 41 0)
    else (if kind == 7 then Some (without_token 20)
    else (if kind == 8 then Some (without_token 12)
    else (if kind == 9 then Some (with_token 53 12)
    else (if kind == 11 then Some (with_pairs 58 16 57)
    else None)))))))))

-- of each kind that there is
abbrev pub layout_of : ℕ → Option Layout
layout_of kind = if kind == 10 then Some (without_token 0) else message_layout kind

-- the byte at the place, if there is one, is the number of a host that there may be
abbrev pub has_host_at : Option ℕ → List ℕ → Bool
has_host_at None fields = true
has_host_at (Some place) fields = nat_lt (slice_index fields place) HOSTS

abbrev pub left_fault : List ℕ → Option WireError
left_fault [] = None
left_fault (byte ∷ bytes) = Some refusal.Trailing

-- how many bytes a pair has
abbrev pub PAIR_BYTES : ℕ
PAIR_BYTES = 12

-- of the bytes behind the count of pairs
abbrev pub pairs_fault : ℕ → List ℕ → Option WireError
pairs_fault count rest =
    if may_ride count
    then (if nat_lt (length rest) (PAIR_BYTES * count) then Some refusal.Short
    else left_fault (drop (PAIR_BYTES * count) rest))
    else Some refusal.BadField

-- of the rest of some fields, where one of them says how many pairs it has, or where it has none
abbrev pub rest_fault : Option ℕ → List ℕ → List ℕ → Option WireError
rest_fault None fields rest = left_fault rest
rest_fault (Some place) fields rest = pairs_fault (slice_index fields place) rest

-- of the bytes behind a kind
abbrev pub fields_fault : Option Layout → List ℕ → Option WireError
fields_fault None fields = Some refusal.BadKind
fields_fault (Some layout) fields =
    if nat_lt (length fields) layout.sure then Some refusal.Short
    else (if has_host_at layout.token fields then rest_fault layout.count fields (drop layout.sure fields)
    else Some refusal.BadField)

abbrev pub body_fault : List ℕ → Option WireError
body_fault [] = Some refusal.Short
body_fault (from ∷ []) = Some refusal.Short
body_fault (from ∷ kind ∷ fields) =
    if nat_lt from HOSTS then fields_fault (layout_of kind) fields else Some refusal.BadField

-- the first of two faults
abbrev pub or_else : Option WireError → Option WireError → Option WireError
or_else (Some what) next = Some what
or_else None next = next

-- of the bytes behind a length
abbrev pub sized_fault : ℕ → List ℕ → Option WireError
sized_fault len rest =
    if nat_le len FRAME_BYTES
    then (if nat_lt (length rest) len then Some refusal.Short
    else or_else (body_fault (take len rest)) (left_fault (drop len rest)))
    else Some refusal.TooLong

-- what is wrong with bytes, or nothing where they are a frame
unfoldable pub first_fault : List ℕ → Option WireError
first_fault bytes =
    if nat_lt (length bytes) 4 then Some refusal.Short
    else sized_fault (from_be_bytes w32 (take 4 bytes)) (drop 4 bytes)

abbrev pub fault_in : {A : Type 0} → Result A WireError → Option WireError
fault_in (Ok x) = None
fault_in (Err what) = Some what
