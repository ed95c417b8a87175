-- No two entries on a stack have the same token, since an entry's tokens have serials that its count has passed.
use Rattle.std.proofs.Common.{◌≡◌, ◌+◌, ◌<◌, ℕ, suc, List, [], ◌∷◌, length, get_or, sym, ap, ◌∙◌, subst, arith}
use Rattle.std.specs.Prelude.{◌≢◌, slice_index, slice_set}
use Rattle.std.proofs.lemmas.Grind.{get_or-set_at}
use Rattle.std.proofs.lemmas.List.{get_or-set_same, get_or-set_other}
use Rattle.std.proofs.lemmas.List.Elements.{All-nil, All-cons, All-tail, All-weaker}
use Rattle.std.proofs.lemmas.List.Kept.{AllPairs-cons}
use Rattle.js_base.specs.declared.ids.HostId.{HostId}
use Rattle.js_base.specs.declared.ids.EntryId.{EntryId}
use Rattle.capability.specs.declared.token.Token.{Token}
use Rattle.ics_stack.specs.declared.stack.StackEntry.{StackEntry}
use Rattle.ics_stack.specs.Stack.{IsOwnEntry, AreOwnEntries, AreCounted, LackToken, HaveOwnTokens, StackFits}

-- a token with the serial to which its entry's count has come is on none
pub lack_next : (host : HostId) (serials : List ℕ) (entries : List StackEntry) (token : Token) →
    AreOwnEntries host entries → AreCounted serials entries → token.serial ≡ slice_index serials token.entry.0 →
    LackToken entries token
lack_next host serials entries token own counted next k d lt same =
    let on_stack : StackEntry = get_or entries k d in
    let there : IsOwnEntry host on_stack = own k d lt in
    let entry : on_stack.entry ≡ token.entry =
    sym there.entry_is ∙ ap (λ (t : Token). t.entry) (sym same) in
    let passed : on_stack.token.serial < slice_index serials on_stack.entry.0 = counted k d lt in
    let below : on_stack.token.serial < slice_index serials token.entry.0 =
    subst (λ (e : EntryId). on_stack.token.serial < slice_index serials e.0) entry passed in
    let serial : token.serial ≡ on_stack.token.serial = ap (λ (t : Token). t.serial) same in
    omega arith

-- a count that goes up by one passes no less
still_passed : (serials : List ℕ) (place other serial : ℕ) → place < length serials →
    serial < slice_index serials other →
    serial < slice_index (slice_set serials place (slice_index serials place + 1)) other
still_passed serials place other serial within passed = grind (arith, get_or-set_at, get_or-set_other)

pub counted_more : (serials : List ℕ) (entries : List StackEntry) (pushed : StackEntry) → AreCounted serials entries →
    pushed.token.serial ≡ slice_index serials pushed.entry.0 → pushed.entry.0 < length serials →
    AreCounted (slice_set serials pushed.entry.0 (slice_index serials pushed.entry.0 + 1)) (pushed ∷ entries)
counted_more serials entries pushed counted next within =
    let count : ℕ = slice_index serials pushed.entry.0 in
    let after : List ℕ = slice_set serials pushed.entry.0 (count + 1) in
    let P : StackEntry → Type 0 = λ on_stack. on_stack.token.serial < slice_index after on_stack.entry.0 in
    let is : slice_index after pushed.entry.0 ≡ count + 1 =
    get_or-set_same serials pushed.entry.0 (count + 1) 0 within in
    All-cons P pushed entries (omega arith)
    (All-weaker (λ (on_stack : StackEntry). on_stack.token.serial < slice_index serials on_stack.entry.0) P
    (λ on_stack passed. still_passed serials pushed.entry.0 on_stack.entry.0 on_stack.token.serial within passed)
    entries counted)

-- below the top no entry has its token
pub lack_top : (top : StackEntry) (below : List StackEntry) → HaveOwnTokens (top ∷ below) → LackToken below top.token
lack_top top below distinct k d lt = distinct 0 (suc k) d (omega arith) (omega arith)

pub distinct_below : (top : StackEntry) (below : List StackEntry) → HaveOwnTokens (top ∷ below) → HaveOwnTokens below
distinct_below top below distinct i j d lt within = distinct (suc i) (suc j) d (omega arith) (omega arith)

pub distinct_more : (entries : List StackEntry) (pushed : StackEntry) → HaveOwnTokens entries →
    LackToken entries pushed.token → HaveOwnTokens (pushed ∷ entries)
distinct_more entries pushed distinct lack =
    AllPairs-cons (λ (above below : StackEntry). above.token ≢ below.token) pushed entries lack distinct

-- one more entry with its next token
pub fits_more : (host : HostId) (serials : List ℕ) (entries : List StackEntry) (pushed : StackEntry) →
    StackFits host serials entries → IsOwnEntry host pushed →
    pushed.token.serial ≡ slice_index serials pushed.entry.0 → pushed.entry.0 < length serials →
    StackFits host (slice_set serials pushed.entry.0 (slice_index serials pushed.entry.0 + 1)) (pushed ∷ entries)
fits_more host serials entries pushed fits own next within =
    let of_entry : pushed.token.serial ≡ slice_index serials pushed.token.entry.0 =
    next ∙ ap (λ (e : EntryId). slice_index serials e.0) (sym own.entry_is) in
    record {
      own = All-cons (IsOwnEntry host) pushed entries own fits.own;
      counted = counted_more serials entries pushed fits.counted next within;
      distinct = distinct_more entries pushed fits.distinct
          (lack_next host serials entries pushed.token fits.own fits.counted of_entry);
    }

-- without the top
pub fits_below : (host : HostId) (serials : List ℕ) (top : StackEntry) (below : List StackEntry) →
    StackFits host serials (top ∷ below) → StackFits host serials below
fits_below host serials top below fits = record {
  own = All-tail (IsOwnEntry host) top below fits.own;
  counted = All-tail (λ (on_stack : StackEntry). on_stack.token.serial < slice_index serials on_stack.entry.0) top below
      fits.counted;
  distinct = distinct_below top below fits.distinct;
}

-- a stack without entries
pub fits_empty : (host : HostId) (serials : List ℕ) → StackFits host serials []
fits_empty host serials = record {
  own = All-nil (IsOwnEntry host);
  counted = All-nil (λ (on_stack : StackEntry). on_stack.token.serial < slice_index serials on_stack.entry.0);
  distinct = λ i j d lt within. absurd (omega arith);
}
