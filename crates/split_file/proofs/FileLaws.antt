-- Laws of split files: what is read is spelled so, and what is spelled so is read.
use Rattle.std.proofs.Common.{◌≡◌, ◌≢◌, ◌⊎◌, inl, inr, ℕ, ◌+◌, ◌-◌, ◌*◌, ◌^◌, ◌<◌, true, ◌||◌, List, [], ◌∷◌, ◌++◌}
use Rattle.std.proofs.Common.{length, Result, Ok, Err, refl, sym, ap, subst, ◌∙◌, append_assoc, arith}
use Rattle.std.specs.Prelude.{if◌then◌else◌, ⊤, ◌==◌}
use Rattle.std.specs.List.{concat, flat_map, list_any}
use Rattle.std.specs.Int.{w16, to_be_bytes}
use Rattle.std.proofs.lemmas.Bool.{ltb-true, lt-ltb, eqb-true, eq-eqb}
use Rattle.std.proofs.lemmas.List.{append-nil, length-append}
use Rattle.host_code.specs.declared.code.Entry.{Entry}
use Rattle.host_code.specs.declared.instruction.Instr.{Instr}
use Rattle.host_code.specs.Code.{CodeShape}
use Rattle.byte_format.specs.Numbers.{AreBytes}
use Rattle.byte_format.specs.Reader.{handed_on, sequel, given, require, items_at}
use Rattle.byte_format.proofs.Sequels.{Reads, Again, read_as, ok_is, handed, reads_given, reads_require, reads_weaker}
use Rattle.byte_format.proofs.Sequels.{again_given, again_require}
use Rattle.split_file.specs.declared.fault.Fault.{Fault}
use Rattle.split_file.specs.declared.fault.Fault.TheVariants as fault
use Rattle.split_file.specs.declared.fault.ReadError.{ReadError}
use Rattle.split_file.specs.declared.fault.ReadError.TheVariants as error
use Rattle.split_file.specs.declared.error.SplitError.{SplitError}
use Rattle.split_file.specs.declared.error.SplitError.TheVariants as refusal
use Rattle.split_file.specs.declared.reading.Front.{Front}
use Rattle.split_file.specs.Spelling.{magic, any_ride, version_of, table_bytes, start_bytes, part_bytes, file_as}
use Rattle.split_file.specs.Spelling.{split_file}
use Rattle.split_file.specs.Reader.{SplitReader, ReadFails}
use Rattle.split_file.specs.Reading.{next_part_at, front_at, with_parts, ended, PLACE_BYTES, ENTRY_BYTES, entries_stand}
use Rattle.split_file.specs.Reading.{version_stands, code_at}
use Rattle.split_file.specs.File.{IsRealCode, IsSplitRefusal, refusal_of, outcome, file_code}
use Rattle.split_file.proofs.Sequels.{require_reads, require_again}
use Rattle.split_file.proofs.PartLaws.{parts_reads, parts_again}
use Rattle.split_file.proofs.FrontLaws.{front_bytes, front_reads, front_of, named_bytes, front_again, is_version}
use Rattle.split_file.proofs.FrontLaws.{short_version}
use Rattle.split_file.proofs.SoundCodes.{Stand, sound_code, front_is, few_items, parts_are, entries_there}

-- ---- entries

stand_reads : (code : CodeShape) (entries : List Entry) (behind : ℕ) → Reads (entries_stand code entries behind)
    (λ _ text. (text ≡ []) × Stand code entries)
unfolding entries_stand
stand_reads code [] behind = reads_given tt (refl, tt)
stand_reads code (entry ∷ entries) behind =
    reads_require (fault.BadField (PLACE_BYTES + ENTRY_BYTES * length entries + behind)) (λ stands.
    reads_weaker (stand_reads code entries behind) (λ _ text is. (is.0, (ltb-true _ _ stands, is.1))))

stand_again : (code : CodeShape) (entries : List Entry) (behind : ℕ) → Stand code entries →
    Again (entries_stand code entries behind) tt []
unfolding entries_stand
stand_again code [] behind all = again_given tt
stand_again code (entry ∷ entries) behind all =
    again_require (fault.BadField (PLACE_BYTES + ENTRY_BYTES * length entries + behind)) (lt-ltb _ _ all.0)
    (stand_again code entries behind all.1)

-- ---- the end

ended_is : (bytes : List ℕ) (x : ⊤) (rest : List ℕ) → ended bytes ≡ Ok (x, rest) → (bytes ≡ []) × (rest ≡ [])
unfolding ended
ended_is [] x rest is =
    let same = ok_is (tt, []) (x, rest) is in
    (refl, ap (λ (p : ⊤ × List ℕ). p.1) (sym same))
ended_is (byte ∷ bytes) x rest is = absurd cc

-- what is read behind the front, up to the end
abbrev entries_behind : CodeShape × Front → List (List Instr) → SplitReader CodeShape
entries_behind front parts =
    sequel (entries_stand (with_parts front.0 parts) front.0.entries front.1.behind)
    (λ _. given (with_parts front.0 parts))

abbrev behind_parts : CodeShape × Front → List (List Instr) → SplitReader CodeShape
behind_parts front parts =
    sequel ended (λ _. sequel (version_stands (with_parts front.0 parts) front.1) (λ _. entries_behind front parts))

abbrev behind_front : CodeShape × Front → SplitReader CodeShape
behind_front front =
    sequel (items_at (next_part_at front.1.version front.0) [] (length front.0.hosts)) (behind_parts front)

no_bytes : AreBytes []
no_bytes i = omega arith

version_reads : (code : CodeShape) (front : Front) → Reads (version_stands code front)
    (λ _ text. (text ≡ []) × (front.version ≡ version_of code))
unfolding version_stands
version_reads code front =
    reads_weaker (require_reads (front.version == version_of code) (fault.BadField front.from_version))
    (λ _ text is. (is.0, eqb-true _ _ is.1))

-- no bytes are left, the file is of the version of the code, and its entries stand
record IsEnd (front : CodeShape × Front) (parts : List (List Instr)) (bytes : List ℕ) (code : CodeShape) : Type 0 where
  none : bytes ≡ []
  whole : code ≡ with_parts front.0 parts
  version : front.1.version ≡ version_of (with_parts front.0 parts)
  stand : Stand (with_parts front.0 parts) front.0.entries

end_read : (front : CodeShape × Front) (parts : List (List Instr)) (bytes : List ℕ) (code : CodeShape)
    (rest : List ℕ) → behind_parts front parts bytes ≡ Ok (code, rest) → IsEnd front parts bytes code
unfolding sequel given
end_read front parts bytes code rest is =
    let final = with_parts front.0 parts in
    let tail = λ (_ : ⊤). sequel (version_stands final front.1) (λ _. entries_behind front parts) in
    let step = handed (ended bytes) tail code rest is in
    let over = ended_is bytes step.0 step.1 step.2 in
    let left = subst AreBytes (sym over.1) no_bytes in
    let then_entries = λ (_ : ⊤). entries_behind front parts in
    let next = handed (version_stands final front.1 step.1) then_entries code rest step.3 in
    let version = (version_reads final front.1).taken step.1 next.0 next.1 left next.2 in
    let last = handed (entries_stand final front.0.entries front.1.behind next.1) (λ _. given final) code rest
    next.3 in
    let stood = (stand_reads final front.0.entries front.1.behind).taken next.1 last.0 last.1 version.left last.2 in
    let same = ok_is (final, last.1) (code, rest) last.3 in
    record {
      none = over.0;
      whole = sym (ap (λ (p : CodeShape × List ℕ). p.0) same);
      version = version.is.1;
      stand = stood.is.1;
    }

regroup : (one two three four more : List ℕ) →
    concat (one ∷ two ∷ three ∷ four ∷ []) ++ more ≡ concat (one ∷ two ∷ three ∷ four ∷ more ∷ [])
regroup one two three four more = simp (append_assoc, append-nil)

-- the front and the parts are the file
whole_file : (version : ℕ) (code : CodeShape) (parts : List (List Instr)) →
    version ≡ version_of (with_parts code parts) →
    front_bytes version code ++ flat_map part_bytes parts ≡ split_file (with_parts code parts)
unfolding split_file
whole_file version code parts is =
    ap (λ v. front_bytes v code ++ flat_map part_bytes parts) is
    ∙ regroup magic (to_be_bytes w16 (version_of (with_parts code parts))) (table_bytes code) (start_bytes code)
    (flat_map part_bytes parts)

-- what is read is spelled so, and sound
pub code_read : (bytes : List ℕ) (code : CodeShape) (rest : List ℕ) → AreBytes bytes → code_at bytes ≡ Ok (code, rest) →
    IsRealCode code × (bytes ≡ split_file code)
unfolding code_at sequel
code_read bytes code rest fits is =
    let step = handed (front_at bytes) behind_front code rest is in
    let bare = step.0.0 in
    let version = step.0.1.version in
    let front = front_reads.taken bytes step.0 step.1 fits step.2 in
    let next = handed (items_at (next_part_at version bare) [] (length bare.hosts) step.1) (behind_parts step.0) code
    rest step.3 in
    let parts = (parts_reads version bare (length bare.hosts)).taken step.1 next.0 next.1 front.left next.2 in
    let end = end_read step.0 next.0 next.1 code rest next.3 in
    let real = sound_code version bare next.0 front.is.1 parts.is.1.0 parts.is.1.1 end.stand in
    let behind : step.1 ≡ flat_map part_bytes next.0 =
    parts.parts ∙ ap (λ r. parts.text ++ r) end.none ∙ append-nil parts.text ∙ parts.is.0 in
    let spelled : bytes ≡ split_file (with_parts bare next.0) =
    front.parts ∙ ap (λ t. t ++ step.1) front.is.0 ∙ ap (λ r. front_bytes version bare ++ r) behind
    ∙ whole_file version bare next.0 end.version in
    subst (λ c. IsRealCode c × (bytes ≡ split_file c)) (sym end.whole) (real, spelled)

-- the parts of a sound code are read, and then the version is looked at
parts_behind : (version : ℕ) (code : CodeShape) (from_version behind : ℕ) → IsRealCode code →
    (list_any any_ride code.parts ≡ true → version ≡ 2) →
    behind_front (front_of version code from_version behind) (flat_map part_bytes code.parts)
    ≡ handed_on (version_stands code (front_of version code from_version behind).1 [])
    (λ _. entries_behind (front_of version code from_version behind) code.parts)
unfolding sequel ended
parts_behind version code from_version behind sound riding =
    let front = front_of version code from_version behind in
    let next = next_part_at version front.0 in
    let parts_are_there = parts_are version code sound riding in
    let parts = (parts_again version front.0 code.parts (few_items code sound) parts_are_there).again [] in
    let read : items_at next [] (length code.hosts) (flat_map part_bytes code.parts) ≡ Ok (code.parts, []) =
    ap (λ n. items_at next [] n (flat_map part_bytes code.parts)) (sym sound.0.a_part_each)
    ∙ ap (items_at next [] (length code.parts)) (sym (append-nil (flat_map part_bytes code.parts)))
    ∙ parts in
    ap (λ reading. handed_on reading (behind_parts front)) read

regroup_named : (one two three four more : List ℕ) →
    one ++ (two ++ (concat (three ∷ four ∷ []) ++ more)) ≡ concat (one ∷ two ∷ three ∷ four ∷ more ∷ [])
regroup_named one two three four more = simp (append_assoc, append-nil)

file_named : (version : ℕ) (code : CodeShape) →
    magic ++ (to_be_bytes w16 version ++ (named_bytes code ++ flat_map part_bytes code.parts)) ≡ file_as version code
file_named version code =
    regroup_named magic (to_be_bytes w16 version) (table_bytes code) (start_bytes code)
    (flat_map part_bytes code.parts)

-- how many bytes there are from the version on
abbrev from_version : ℕ → CodeShape → ℕ
from_version version code =
    length (to_be_bytes w16 version ++ (named_bytes code ++ flat_map part_bytes code.parts))

-- a sound code behind a version is read up to the version
file_behind : (version : ℕ) (code : CodeShape) → IsRealCode code → (version == 1 || version == 2) ≡ true →
    version < 2 ^ 16 → (list_any any_ride code.parts ≡ true → version ≡ 2) →
    (behind : ℕ) × (code_at (file_as version code)
    ≡ handed_on (version_stands code (front_of version code (from_version version code) behind).1 [])
    (λ _. entries_behind (front_of version code (from_version version code) behind) code.parts))
unfolding code_at sequel
file_behind version code sound known short riding =
    let found = front_again version code known short (front_is code sound) (flat_map part_bytes code.parts) in (
      found.0,
      ap (λ bytes. handed_on (front_at bytes) behind_front) (sym (file_named version code))
          ∙ ap (λ reading. handed_on reading behind_front) found.1
          ∙ parts_behind version code (from_version version code) found.0 sound riding,
    )

version_again : (code : CodeShape) (place behind : ℕ) →
    version_stands code (front_of (version_of code) code place behind).1 [] ≡ Ok (tt, [])
unfolding version_stands
version_again code place behind =
    (require_again (version_of code == version_of code) (fault.BadField place)
    (eq-eqb (version_of code) (version_of code) refl)).again []

-- what is spelled so is read
pub code_again : (code : CodeShape) → IsRealCode code → code_at (split_file code) ≡ Ok (code, [])
unfolding split_file sequel given
code_again code sound =
    let riding = list_any any_ride code.parts in
    let version = version_of code in
    let found = file_behind version code sound (is_version riding) (short_version riding)
    (λ rides. ap (λ b. if b then 2 else 1) rides) in
    let front = front_of version code (from_version version code) found.0 in
    found.1
    ∙ ap (λ reading. handed_on reading (λ _. entries_behind front code.parts))
    (version_again code (from_version version code) found.0)
    ∙ ap (λ reading. handed_on reading (λ _. given code))
    ((stand_again code code.entries found.0 (entries_there code sound)).again [])

version_fails : (code : CodeShape) (place behind : ℕ) → version_of code ≡ 1 →
    version_stands code (front_of 2 code place behind).1 [] ≡ Err (fault.BadField place)
unfolding version_stands require
version_fails code place behind is = ap (λ version. require (2 == version) (fault.BadField place) []) is

-- a code in which no values ride is refused behind version 2, at the version
idle_code : (code : CodeShape) → IsRealCode code → version_of code ≡ 1 →
    code_at (file_as 2 code) ≡ Err (fault.BadField (from_version 2 code))
idle_code code sound is =
    let found = file_behind 2 code sound refl (omega arith) (λ _. refl) in
    let front = front_of 2 code (from_version 2 code) found.0 in
    found.1
    ∙ ap (λ reading. handed_on reading (λ _. entries_behind front code.parts))
    (version_fails code (from_version 2 code) found.0 is)

pub idle_version : (code : CodeShape) → IsRealCode code → version_of code ≡ 1 →
    file_code (file_as 2 code) ≡ Err (refusal.BadField 8)
unfolding file_code
idle_version code sound is =
    let left = from_version 2 code in
    let total = length (file_as 2 code) in
    let long : total ≡ 8 + left =
    ap length (sym (file_named 2 code))
    ∙ length-append magic (to_be_bytes w16 2 ++ (named_bytes code ++ flat_map part_bytes code.parts)) in
    let place : total - left ≡ 8 = omega (arith, long) in
    ap (outcome total) (idle_code code sound is) ∙ ap (λ at. Err (refusal.BadField at)) place

-- ---- files

outcome_is : (total : ℕ) (reading : Result (CodeShape × List ℕ) Fault) (code : CodeShape) →
    outcome total reading ≡ Ok code → (rest : List ℕ) × (reading ≡ Ok (code, rest))
outcome_is total (Ok x) code is =
    let same : x.0 ≡ code = cc in
    (x.1, ap (λ c. Ok (c, x.1)) same)
outcome_is total (Err what) code is = absurd cc

pub file_read : (bytes : List ℕ) (code : CodeShape) → AreBytes bytes → file_code bytes ≡ Ok code →
    IsRealCode code × (bytes ≡ split_file code)
unfolding file_code
file_read bytes code fits is =
    let found = outcome_is (length bytes) (code_at bytes) code is in
    code_read bytes code found.0 fits found.1

pub file_again : (code : CodeShape) → IsRealCode code → file_code (split_file code) ≡ Ok code
unfolding file_code
file_again code sound = ap (outcome (length (split_file code))) (code_again code sound)

-- where there is something to read, only memory may fail
pub only_memory : (e : ReadError) (total : ℕ) (refused : SplitError) (reading : Result (CodeShape × List ℕ) Fault)
    (x : CodeShape × List ℕ) → ReadFails e reading → reading ≡ Ok x → IsSplitRefusal total e refused →
    refused ≡ refusal.OutOfMemory
only_memory error.OutOfMemory total refused reading x fails is refusing = refusing
only_memory (error.Fault what) total refused reading x fails is refusing =
    let never : read_as x ≡ Err what = sym is ∙ fails in
    absurd cc

abbrev coded : CodeShape → Result CodeShape SplitError
coded code = Ok code

read_refused : (bytes : List ℕ) (refused : SplitError) → file_code bytes ≡ Err refused → (code : CodeShape) →
    IsRealCode code → bytes ≡ split_file code → ⊥
read_refused bytes refused is code sound spelled =
    let never : coded code ≡ Err refused = sym (file_again code sound) ∙ sym (ap file_code spelled) ∙ is in
    absurd cc

refusal_apart : (total : ℕ) (what : Fault) → refusal_of total what ≢ refusal.OutOfMemory
refusal_apart total fault.Short is = cc
refusal_apart total fault.BadMagic is = cc
refusal_apart total fault.BadVersion is = cc
refusal_apart total (fault.BadField left) is = cc
refusal_apart total fault.Trailing is = cc

-- which of both it is
pub one_outcome : (bytes : List ℕ) (reading : Result (CodeShape × List ℕ) Fault) →
    file_code bytes ≡ outcome (length bytes) reading →
    ((code : CodeShape) × (file_code bytes ≡ Ok code))
    ⊎ ((refused : SplitError) × (refused ≢ refusal.OutOfMemory) × (file_code bytes ≡ Err refused))
one_outcome bytes (Ok x) is = inl (x.0, is)
one_outcome bytes (Err what) is = inr (refusal_of (length bytes) what, refusal_apart (length bytes) what, is)

by_outcome : (bytes : List ℕ) → file_code bytes ≡ outcome (length bytes) (code_at bytes)
unfolding file_code
by_outcome bytes = refl

pub code_or_refusal : (bytes : List ℕ) → AreBytes bytes →
    ((code : CodeShape) × IsRealCode code × (bytes ≡ split_file code) × (file_code bytes ≡ Ok code))
    ⊎ ((refused : SplitError) × (refused ≢ refusal.OutOfMemory) × (file_code bytes ≡ Err refused)
    × ((code : CodeShape) → IsRealCode code → bytes ≢ split_file code))
code_or_refusal bytes fits =
    elim (one_outcome bytes (code_at bytes) (by_outcome bytes)) [
      | inl found ↦
          let fact = file_read bytes found.0 fits found.1 in
          inl (found.0, fact.0, fact.1, found.1)
      | inr found ↦ inr (found.0, found.1, found.2, read_refused bytes found.0 found.2)
    ]

pub spelled_once : (first second : CodeShape) → IsRealCode first → IsRealCode second →
    split_file first ≡ split_file second → first ≡ second
spelled_once first second one other same =
    let both : coded first ≡ coded second =
    sym (file_again first one) ∙ ap file_code same ∙ file_again second other in
    cc
