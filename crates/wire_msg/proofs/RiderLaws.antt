-- Laws of the reader of an rgoto with which values ride.
use Rattle.std.proofs.Common.{◌≡◌, ℕ, ◌+◌, ◌*◌, ◌^◌, ◌<◌, true, List, [], ◌∷◌, ◌++◌, length, refl, sym, ap, ◌∙◌}
use Rattle.std.proofs.Common.{append_assoc, arith}
use Rattle.std.specs.Prelude.{nat_lt}
use Rattle.std.specs.List.{flat_map}
use Rattle.std.proofs.lemmas.List.{length-append}
use Rattle.js_base.specs.declared.ids.EntryId.{EntryId}
use Rattle.js_base.specs.declared.ids.FrameId.{FrameId}
use Rattle.js_base.specs.declared.limits.TheConstants.{HOSTS}
use Rattle.capability.specs.declared.tags.TheConstants.{TAG_BYTES}
use Rattle.capability.specs.declared.token.Token.{Token}
use Rattle.host_code.specs.declared.message.Message.TheVariants as message
use Rattle.host_code.specs.declared.riders.TheConstants.{MOST_RIDERS}
use Rattle.host_code.specs.Riders.{Rider}
use Rattle.byte_format.specs.Numbers.{number_bytes, word_bytes}
use Rattle.byte_format.proofs.NumberLaws.{byte_reads, byte_again, integer_reads, integer_again}
use Rattle.byte_format.proofs.Sequels.{Reads, Again, reads_then, reads_last, reads_require, again_then, again_last}
use Rattle.byte_format.proofs.Sequels.{again_require}
use Rattle.byte_format.proofs.ItemLaws.{all_weaker, all_read, items_again, each_by_recursion, in_by_recursion}
use Rattle.byte_format.proofs.ItemLaws.{counted_within, within_again}
use Rattle.wire_msg.specs.declared.error.WireError.TheVariants as refusal
use Rattle.wire_msg.specs.declared.riding.Riding.{Riding}
use Rattle.wire_msg.specs.Frames.{IsFrameId, IsToken, IsRider, IsMessage}
use Rattle.wire_msg.specs.Spelling.{frame_id_bytes, token_bytes, rider_bytes, message_bytes}
use Rattle.wire_msg.specs.Reading.{riding_at, rider_at, rgoto_with_at}
use Rattle.wire_msg.proofs.FieldLaws.{variable_reads, variable_again, entry_reads, entry_again, frame_id_reads}
use Rattle.wire_msg.proofs.FieldLaws.{frame_id_again, token_reads, token_again}

-- ---- how many bytes

riders_length : (riders : List Rider) → length (flat_map rider_bytes riders) ≡ 12 * length riders
unfolding number_bytes word_bytes
riders_length [] = refl
riders_length (rider ∷ riders) =
    let others = riders_length riders in
    let one = length-append (rider_bytes rider) (flat_map rider_bytes riders) in
    omega (arith, one, others)

pub spelled_length : (id : FrameId) (entry : EntryId) (token : Token) (riders : List Rider) →
    length token.tag ≡ TAG_BYTES →
    length (message_bytes (message.RgotoWith id entry token riders)) ≡ 59 + 12 * length riders
unfolding number_bytes word_bytes
spelled_length id entry token riders is =
    let tail = length-append token.tag (length riders ∷ flat_map rider_bytes riders) in
    let pairs = riders_length riders in
    omega (arith, is, tail, pairs)

-- ---- what is read

rider_reads : Reads rider_at (λ rider text. (text ≡ rider_bytes rider) × IsRider rider)
unfolding rider_at
rider_reads = reads_then variable_reads (λ variable lt. reads_last _ (integer_reads _) (λ value is. (refl, (lt, is))))

abbrev pub riding_bytes : Riding → List ℕ
riding_bytes riding =
    frame_id_bytes riding.frame
    ++ (number_bytes riding.entry.0 ++ (token_bytes riding.token ++ riding.count ∷ []))

abbrev IsRiding : Riding → Type 0
IsRiding riding = IsFrameId riding.frame × ((riding.entry.0 < 2 ^ 32) × IsToken riding.token)

riding_reads : Reads riding_at (λ riding text. (text ≡ riding_bytes riding) × IsRiding riding)
unfolding riding_at
riding_reads =
    reads_then frame_id_reads (λ id id_is. reads_then entry_reads (λ entry entry_is.
    reads_then token_reads (λ token token_is. reads_last _ (byte_reads _) (λ count _.
    (refl, (id_is, (entry_is, token_is)))))))

-- bytes behind the count
joined : (riding : Riding) (pairs : List ℕ) → riding_bytes riding ++ pairs
    ≡ frame_id_bytes riding.frame
    ++ (number_bytes riding.entry.0 ++ (token_bytes riding.token ++ riding.count ∷ pairs))
joined riding pairs =
    let last : List ℕ = riding.count ∷ [] in
    let entry = number_bytes riding.entry.0 in
    let token = token_bytes riding.token in
    append_assoc (frame_id_bytes riding.frame) (entry ++ (token ++ last)) pairs
    ∙ ap (λ more. frame_id_bytes riding.frame ++ more)
    (append_assoc entry (token ++ last) pairs ∙ ap (λ more. entry ++ more) (append_assoc token last pairs))

pub rgoto_with_reads : Reads rgoto_with_at (λ sent text. (11 ∷ text ≡ message_bytes sent) × IsMessage sent)
unfolding rgoto_with_at
rgoto_with_reads =
    reads_then riding_reads (λ riding is. reads_require refusal.BadField (λ _.
    reads_require refusal.BadField (λ few.
    reads_last _ (all_read (λ _. rider_at) rider_bytes (λ _ rider. IsRider rider) (λ _. rider_reads) riding.count)
    (λ riders all. (
      ap (λ text. 11 ∷ text) (joined riding (flat_map rider_bytes riders))
          ∙ ap (λ count. 11 ∷ (frame_id_bytes riding.frame
          ++ (number_bytes riding.entry.0 ++ (token_bytes riding.token ++ count ∷ flat_map rider_bytes riders))))
          (sym all.0),
      (
        is.0,
        (
          is.1.0,
          (
            is.1.1,
            (
              counted_within 1 MOST_RIDERS riding.count riders all.0 few,
              each_by_recursion IsRider [] riders all.1,
            ),
          ),
        ),
      ),
    )))))

-- ---- what is read again

rider_again : (rider : Rider) → IsRider rider → Again rider_at rider (rider_bytes rider)
unfolding rider_at
rider_again rider is =
    again_then _ (variable_again rider.0 is.0) (again_last (λ value. (rider.0, value)) (integer_again _ rider.1 is.1))

riding_again : (riding : Riding) → IsRiding riding → Again riding_at riding (riding_bytes riding)
unfolding riding_at
riding_again riding is =
    again_then _ (frame_id_again riding.frame is.0) (again_then _ (entry_again riding.entry is.1.0)
    (again_then _ (token_again riding.token is.1.1)
    (again_last (λ count. record { frame = riding.frame; entry = riding.entry; token = riding.token; count = count })
    (byte_again _ riding.count))))

abbrev riding_of : FrameId → EntryId → Token → List Rider → Riding
riding_of id entry token riders = record { frame = id; entry = entry; token = token; count = length riders }

-- what follows the kind of such a message
abbrev pub behind_11 : FrameId → EntryId → Token → List Rider → List ℕ
behind_11 id entry token riders = riding_bytes (riding_of id entry token riders) ++ flat_map rider_bytes riders

pub spelled_behind : (id : FrameId) (entry : EntryId) (token : Token) (riders : List Rider) →
    11 ∷ behind_11 id entry token riders ≡ message_bytes (message.RgotoWith id entry token riders)
spelled_behind id entry token riders =
    ap (λ text. 11 ∷ text) (joined (riding_of id entry token riders) (flat_map rider_bytes riders))

pub rgoto_with_again : (id : FrameId) (entry : EntryId) (token : Token) (riders : List Rider) →
    IsMessage (message.RgotoWith id entry token riders) → nat_lt token.host.0 HOSTS ≡ true →
    Again rgoto_with_at (message.RgotoWith id entry token riders) (behind_11 id entry token riders)
unfolding rgoto_with_at
rgoto_with_again id entry token riders is named =
    let each = all_weaker (λ _ rider. IsRider rider) (λ _ rider. Again rider_at rider (rider_bytes rider))
    (λ _ rider rider_is. rider_again rider rider_is) [] riders (in_by_recursion IsRider [] riders is.1.1.1.1) in
    let may = within_again 1 MOST_RIDERS (length riders) is.1.1.1.0.0 is.1.1.1.0.1 in
    again_then _ (riding_again (riding_of id entry token riders) (is.0, (is.1.0, is.1.1.0)))
    (again_require refusal.BadField named (again_require refusal.BadField may
    (again_last (message.RgotoWith id entry token) (items_again (λ _. rider_at) rider_bytes [] riders each))))
