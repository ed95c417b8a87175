-- Where a thread stands that started at an entry.
use Rattle.std.proofs.Common.{◌≡◌, ◌≢◌, ◌⊎◌, ℕ, zero, suc, List, [], ◌∷◌, ◌++◌, Option, Some, None, subst, inl, inr, refl}
use Rattle.std.specs.Prelude.{Contains, slice_get, remove, ⊤}
use Rattle.js_base.specs.declared.ids.HostId.{HostId}
use Rattle.js_base.specs.declared.ids.EntryId.{EntryId}
use Rattle.js_base.specs.Bits.{BitsWithin}
use Rattle.js_base.proofs.Options.{some_same}
use Rattle.host_code.specs.declared.code.Entry.{Entry}
use Rattle.host_code.specs.declared.instruction.Instr.{Instr}
use Rattle.host_code.specs.declared.instruction.Op.TheVariants as op
use Rattle.host_code.specs.Code.{CodeShape, halt, entry_at, instruction_at}
use Rattle.host_code.specs.Thread.{ThreadShape, WaitingShape}
use Rattle.part_verify.specs.Paths.{IsUnder, goes_on}
use Rattle.part_verify.specs.SoundPart.{NamesWithin, AreNeedsKept}
use Rattle.part_verify.proofs.Within.{within_itself, within_through, names_in_larger}

-- The place is one that an entry of this host leads to, whose need is within that of the mark. Of the entry that ends
-- the program nothing is said.
abbrev pub IsCovered : CodeShape → HostId → EntryId → ℕ → Type 0
IsCovered code me mark place = (mark ≡ halt) ⊎ ((by : EntryId) × (under : IsUnder code me by place)
    × ((entry : Entry) → entry_at code mark ≡ Some entry → BitsWithin under.entry.need entry.need))

pub covered_entered : (code : CodeShape) (me : HostId) (mark : EntryId) (there : Entry) → mark ≢ halt →
    entry_at code mark ≡ Some there → there.host ≡ me → IsCovered code me mark there.at
covered_entered code me mark there not_halt is here = inr (
  mark,
  record { entry = there; is = is; not_halt = not_halt; here = here; leads = (0, refl) },
  λ entry again. subst (λ (e : Entry). BitsWithin there.need e.need)
      (some_same (entry_at code mark) there entry is again) (within_itself there.need),
)

pub covered_next : (code : CodeShape) (me : HostId) (mark : EntryId) (place next : ℕ) (one : Instr) →
    instruction_at code me place ≡ Some one → Contains (goes_on one.op place) next → IsCovered code me mark place →
    IsCovered code me mark next
covered_next code me mark place next one is goes (inl ends) = inl ends
covered_next code me mark place next one is goes (inr (by, under, within)) = inr (
  by,
  record {
    entry = under.entry;
    is = under.is;
    not_halt = under.not_halt;
    here = under.here;
    leads = (suc under.leads.0, (place, under.leads.1, (one, is, goes)));
  },
  within,
)

-- the need of the mark has what the instruction names
pub covered_names : (code : CodeShape) (me : HostId) (mark : EntryId) (entry : Entry) (place : ℕ) (one : Instr) →
    AreNeedsKept code me → mark ≢ halt → entry_at code mark ≡ Some entry → instruction_at code me place ≡ Some one →
    IsCovered code me mark place → NamesWithin code entry.need one.op
covered_names code me mark entry place one kept not_halt is there (inl ends) = absurd (not_halt ends)
covered_names code me mark entry place one kept not_halt is there (inr (by, under, within)) =
    names_in_larger code under.entry.need entry.need one.op (within entry is) (kept by place one under there)

-- a call on the own host goes on at an entry whose need is within that of the entry before
pub covered_called : (code : CodeShape) (me : HostId) (mark called : EntryId) (on : HostId) (there : Entry) (place : ℕ)
    (one : Instr) → AreNeedsKept code me → instruction_at code me place ≡ Some one → one.op ≡ op.Call called on →
    called ≢ halt → entry_at code called ≡ Some there → there.host ≡ me → IsCovered code me mark place →
    IsCovered code me mark there.at
covered_called code me mark called on there place one kept is calls not_halt found here (inl ends) = inl ends
covered_called code me mark called on there place one kept is calls not_halt found here (inr (by, under, within)) =
    let names : NamesWithin code under.entry.need (op.Call called on) =
    subst (NamesWithin code under.entry.need) calls (kept by place one under is) in
    inr (
      called,
      record { entry = there; is = found; not_halt = not_halt; here = here; leads = (0, refl) },
      λ entry again. within_through there.need under.entry.need entry.need (names there found) (within entry again),
    )

-- ---- threads with their marks

abbrev pub IsMarked : CodeShape → HostId → Option ThreadShape → Option EntryId → Type 0
IsMarked code me None mark = ⊤
IsMarked code me (Some thread) None = ⊥
IsMarked code me (Some thread) (Some mark) = IsCovered code me mark thread.at

abbrev pub AreMarked : CodeShape → HostId → List EntryId → List WaitingShape → Type 0
AreMarked code me [] [] = ⊤
AreMarked code me [] (waiting ∷ behind) = ⊥
AreMarked code me (mark ∷ marks) [] = ⊥
AreMarked code me (mark ∷ marks) (waiting ∷ behind) =
    IsCovered code me mark waiting.thread.at × AreMarked code me marks behind

module _ (code : CodeShape) (me : HostId) where
  pub at_rest : (running : Option ThreadShape) (mark : Option EntryId) → running ≡ None → IsMarked code me running mark
  at_rest None mark is = tt
  at_rest (Some thread) mark is = absurd (cc)

  pub marked_push : (marks : List EntryId) (waiting : List WaitingShape) (mark : EntryId) (last : WaitingShape) →
      AreMarked code me marks waiting → IsCovered code me mark last.thread.at →
      AreMarked code me (marks ++ mark ∷ []) (waiting ++ last ∷ [])
  marked_push [] [] mark last all covered = (covered, tt)
  marked_push [] (first ∷ waiting) mark last all covered = absurd all
  marked_push (first ∷ marks) [] mark last all covered = absurd all
  marked_push (first ∷ marks) (one ∷ waiting) mark last all covered =
      (all.0, marked_push marks waiting mark last all.1 covered)

  pub marked_remove : (place : ℕ) (marks : List EntryId) (waiting : List WaitingShape) → AreMarked code me marks waiting →
      AreMarked code me (remove marks place) (remove waiting place)
  marked_remove zero [] [] all = tt
  marked_remove (suc place) [] [] all = tt
  marked_remove place [] (first ∷ waiting) all = absurd all
  marked_remove place (first ∷ marks) [] all = absurd all
  marked_remove zero (first ∷ marks) (one ∷ waiting) all = all.1
  marked_remove (suc place) (first ∷ marks) (one ∷ waiting) all = (all.0, marked_remove place marks waiting all.1)

  pub marked_at : (place : ℕ) (marks : List EntryId) (waiting : List WaitingShape) (one : WaitingShape) →
      AreMarked code me marks waiting → slice_get waiting place ≡ Some one →
      (mark : EntryId) × (slice_get marks place ≡ Some mark) × IsCovered code me mark one.thread.at
  marked_at place [] [] one all is = absurd (cc)
  marked_at place [] (first ∷ waiting) one all is = absurd all
  marked_at place (first ∷ marks) [] one all is = absurd all
  marked_at zero (first ∷ marks) (other ∷ waiting) one all is =
      let same : other ≡ one = let both : Some other ≡ Some one = is in cc in
      (first, refl, subst (λ (w : WaitingShape). IsCovered code me first w.thread.at) same all.0)
  marked_at (suc place) (first ∷ marks) (other ∷ waiting) one all is = marked_at place marks waiting one all.1 is
