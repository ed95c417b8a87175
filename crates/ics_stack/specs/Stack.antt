-- The integrity control stack of a host: the entries at which threads may start, each once, and only the top one.
use Rattle.std.specs.Prelude.{◌≡◌, ◌≢◌, ℕ, ◌+◌, ◌<◌, List, [], ◌∷◌, All, AllPairs, Option, Some, None, slice_index}
use Rattle.std.specs.Prelude.{slice_set}
use Rattle.js_base.specs.declared.ids.HostId.{HostId}
use Rattle.js_base.specs.declared.ids.FrameId.{FrameId}
use Rattle.js_base.specs.declared.ids.EntryId.{EntryId}
use Rattle.capability.specs.declared.token.Token.{Token}
use Rattle.capability.specs.Pending.{PendingShape}
use Rattle.capability.specs.Tag.{tag_of}
use Rattle.ics_stack.specs.declared.stack.StackEntry.{StackEntry}

-- The stack of a host with a key. The top stands first. There is for each entry how many times it was pushed, and
-- beside these how many pushes there were in all, and for how many more there is room.
pub record StackShape : Type 0 where
  pub host : HostId
  pub key : List ℕ
  pub entries : List StackEntry
  pub serials : List ℕ
  pub pushes : ℕ
  pub room : ℕ

-- the token of an entry's next push
abbrev pub next_token : StackShape → EntryId → FrameId → Token
next_token stack entry frame =
    let serial = slice_index stack.serials entry.0 in
    record {
      host = stack.host;
      frame = frame;
      entry = entry;
      serial = serial;
      tag = tag_of stack.key stack.host frame entry serial;
    }

-- what is on the stack after a push: the entry in its frame with a token of its own, and the token that is kept with it
abbrev pub entries_after_push : StackShape → EntryId → FrameId → Token → List StackEntry
entries_after_push stack entry frame kept =
    record { token = next_token stack entry frame; entry = entry; frame = frame; kept = kept } ∷ stack.entries

-- the counts after a push of an entry
abbrev pub serials_after_push : StackShape → EntryId → List ℕ
serials_after_push stack entry = slice_set stack.serials entry.0 (slice_index stack.serials entry.0 + 1)

-- the token of the top entry
abbrev pub top_token : List StackEntry → Option Token
top_token [] = None
top_token (top ∷ below) = Some top.token

-- The token is the top one. Its entry was taken off, and the rest stands.
abbrev pub IsTakenOff : List StackEntry → Token → PendingShape → List StackEntry → Type 0
IsTakenOff [] token pending rest = ⊥
IsTakenOff (top ∷ below) token pending rest =
    (top.token ≡ token) × (pending ≡ record { entry = top.entry; frame = top.frame; kept = top.kept })
    × (rest ≡ below)

-- every token on the stack is one of this host, for its entry and its frame
pub record IsOwnEntry (host : HostId) (on_stack : StackEntry) : Type 0 where
  pub host_is : on_stack.token.host ≡ host
  pub entry_is : on_stack.token.entry ≡ on_stack.entry
  pub frame_is : on_stack.token.frame ≡ on_stack.frame

abbrev pub AreOwnEntries : HostId → List StackEntry → Type 0
AreOwnEntries host entries = All (IsOwnEntry host) entries

-- the serial of each token is one that its entry's count has passed
abbrev pub AreCounted : List ℕ → List StackEntry → Type 0
AreCounted serials entries = All (λ on_stack. on_stack.token.serial < slice_index serials on_stack.entry.0) entries

-- no entry has this token
abbrev pub LackToken : List StackEntry → Token → Type 0
LackToken entries token = All (λ on_stack. token ≢ on_stack.token) entries

-- no two entries have the same token
abbrev pub HaveOwnTokens : List StackEntry → Type 0
HaveOwnTokens entries = AllPairs (λ above below. above.token ≢ below.token) entries

-- what every stack keeps of its counts and its entries
pub record StackFits (host : HostId) (serials : List ℕ) (entries : List StackEntry) : Type 0 where
  pub own : AreOwnEntries host entries
  pub counted : AreCounted serials entries
  pub distinct : HaveOwnTokens entries
