-- Laws of the readers of what messages name.
use Rattle.std.proofs.Common.{◌≡◌, ◌^◌, ◌<◌, refl}
use Rattle.js_base.specs.declared.ids.FieldId.{FieldId}
use Rattle.js_base.specs.declared.ids.VarId.{VarId}
use Rattle.js_base.specs.declared.ids.EntryId.{EntryId}
use Rattle.js_base.specs.declared.ids.FrameId.{FrameId}
use Rattle.js_base.specs.declared.ids.RequestId.{RequestId}
use Rattle.capability.specs.declared.tags.TheConstants.{TAG_BYTES}
use Rattle.capability.specs.declared.token.Token.{Token}
use Rattle.byte_format.specs.Numbers.{number_bytes}
use Rattle.byte_format.proofs.NumberLaws.{byte_reads, byte_again, bytes_reads, bytes_again, number_reads, number_again}
use Rattle.byte_format.proofs.NumberLaws.{word_reads, word_again}
use Rattle.byte_format.proofs.Sequels.{Reads, Again, reads_then, reads_last, again_then, again_last}
use Rattle.wire_msg.specs.Frames.{IsWireRequest, IsFrameId, IsToken}
use Rattle.wire_msg.specs.Spelling.{request_bytes, frame_id_bytes, token_bytes}
use Rattle.wire_msg.specs.Reading.{field_at, variable_at, entry_at, request_at, frame_id_at, token_at}

-- ---- what is read

pub field_reads : Reads field_at (λ field text. (text ≡ number_bytes field.0) × (field.0 < 2 ^ 32))
unfolding field_at
field_reads = reads_last _ (number_reads _) (λ n lt. (refl, lt))

pub variable_reads : Reads variable_at (λ variable text. (text ≡ number_bytes variable.0) × (variable.0 < 2 ^ 32))
unfolding variable_at
variable_reads = reads_last _ (number_reads _) (λ n lt. (refl, lt))

pub entry_reads : Reads entry_at (λ entry text. (text ≡ number_bytes entry.0) × (entry.0 < 2 ^ 32))
unfolding entry_at
entry_reads = reads_last _ (number_reads _) (λ n lt. (refl, lt))

pub request_reads : Reads request_at (λ request text. (text ≡ request_bytes request) × IsWireRequest request)
unfolding request_at
request_reads = reads_then (number_reads _) (λ at at_is. reads_last _ (word_reads _) (λ count is. (refl, (at_is, is))))

pub frame_id_reads : Reads frame_id_at (λ id text. (text ≡ frame_id_bytes id) × IsFrameId id)
unfolding frame_id_at
frame_id_reads =
    reads_then (number_reads _) (λ site site_is. reads_last _ (word_reads _) (λ count is. (refl, (site_is, is))))

pub token_reads : Reads token_at (λ token text. (text ≡ token_bytes token) × IsToken token)
unfolding token_at
token_reads =
    reads_then (byte_reads _) (λ host host_is. reads_then frame_id_reads (λ id id_is.
    reads_then entry_reads (λ entry entry_is. reads_then (word_reads _) (λ serial serial_is.
    reads_last _ (bytes_reads _ TAG_BYTES) (λ tag is. (refl, (host_is, (id_is, (entry_is, (serial_is, is))))))))))

-- ---- what is read again

pub field_again : (field : FieldId) → field.0 < 2 ^ 32 → Again field_at field (number_bytes field.0)
unfolding field_at
field_again field is = again_last (λ n. record { 0 = n }) (number_again _ field.0 is)

pub variable_again : (variable : VarId) → variable.0 < 2 ^ 32 → Again variable_at variable (number_bytes variable.0)
unfolding variable_at
variable_again variable is = again_last (λ n. record { 0 = n }) (number_again _ variable.0 is)

pub entry_again : (entry : EntryId) → entry.0 < 2 ^ 32 → Again entry_at entry (number_bytes entry.0)
unfolding entry_at
entry_again entry is = again_last (λ n. record { 0 = n }) (number_again _ entry.0 is)

pub request_again : (request : RequestId) → IsWireRequest request → Again request_at request (request_bytes request)
unfolding request_at
request_again request is =
    again_then _ (number_again _ request.at is.0)
    (again_last (λ count. record { at = request.at; count = count }) (word_again _ request.count is.1))

pub frame_id_again : (id : FrameId) → IsFrameId id → Again frame_id_at id (frame_id_bytes id)
unfolding frame_id_at
frame_id_again id is =
    again_then _ (number_again _ id.site.0 is.0)
    (again_last (λ count. record { site = id.site; count = count }) (word_again _ id.count is.1))

pub token_again : (token : Token) → IsToken token → Again token_at token (token_bytes token)
unfolding token_at
token_again token is =
    again_then _ (byte_again _ token.host.0) (again_then _ (frame_id_again token.frame is.1.0)
    (again_then _ (entry_again token.entry is.1.1.0) (again_then _ (word_again _ token.serial is.1.1.1.0)
    (again_last (λ tag. record {
      host = token.host;
      frame = token.frame;
      entry = token.entry;
      serial = token.serial;
      tag = tag;
    }) (bytes_again _ token.tag TAG_BYTES is.1.1.1.1.0)))))
