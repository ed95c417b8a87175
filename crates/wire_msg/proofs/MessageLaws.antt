-- Laws of the readers of messages.
use Rattle.std.proofs.Common.{◌≡◌, ℕ, true, false, List, ◌∷◌, refl, sym, subst}
use Rattle.std.specs.Prelude.{◌==◌}
use Rattle.std.proofs.lemmas.Bool.{eqb-true}
use Rattle.host_code.specs.declared.message.Message.{Message}
use Rattle.host_code.specs.declared.message.Message.TheVariants as message
use Rattle.byte_format.proofs.NumberLaws.{integer_reads, integer_again}
use Rattle.byte_format.proofs.Sequels.{Reads, Again, reads_then, reads_last, reads_if, reads_refused, again_then}
use Rattle.byte_format.proofs.Sequels.{again_last}
use Rattle.wire_msg.specs.declared.error.WireError.TheVariants as refusal
use Rattle.wire_msg.specs.declared.frame.Frame.TheVariants as frame
use Rattle.wire_msg.specs.Frames.{has_host, IsMessage}
use Rattle.wire_msg.specs.Spelling.{message_bytes}
use Rattle.wire_msg.specs.Reader.{WireReader}
use Rattle.wire_msg.specs.Reading.{get_at, set_at, forward_at, sync_at, rgoto_at, lgoto_at, value_at, ack_at, answer_at}
use Rattle.wire_msg.specs.Reading.{message_at}
use Rattle.wire_msg.proofs.FieldLaws.{field_reads, field_again, variable_reads, variable_again, entry_reads}
use Rattle.wire_msg.proofs.FieldLaws.{entry_again, request_reads, request_again, frame_id_reads, frame_id_again}
use Rattle.wire_msg.proofs.FieldLaws.{token_reads, token_again}
use Rattle.wire_msg.proofs.RiderLaws.{rgoto_with_reads, spelled_behind, rgoto_with_again}

-- ---- what is read

-- what follows a kind, and the kind, are those of a message
abbrev IsBehind : ℕ → Message → List ℕ → Type 0
IsBehind kind sent text = (kind ∷ text ≡ message_bytes sent) × IsMessage sent

get_reads : Reads get_at (IsBehind 1)
unfolding get_at
get_reads =
    reads_then request_reads (λ request request_is. reads_then field_reads (λ field field_is.
    reads_last _ (integer_reads _) (λ index is. (refl, (request_is, (field_is, is))))))

set_reads : Reads set_at (IsBehind 2)
unfolding set_at
set_reads =
    reads_then request_reads (λ request request_is. reads_then field_reads (λ field field_is.
    reads_then (integer_reads _) (λ index index_is. reads_last _ (integer_reads _) (λ value is.
    (refl, (request_is, (field_is, (index_is, is))))))))

forward_reads : Reads forward_at (IsBehind 3)
unfolding forward_at
forward_reads =
    reads_then request_reads (λ request request_is. reads_then frame_id_reads (λ id id_is.
    reads_then variable_reads (λ variable variable_is. reads_last _ (integer_reads _) (λ value is.
    (refl, (request_is, (id_is, (variable_is, is))))))))

sync_reads : Reads sync_at (IsBehind 4)
unfolding sync_at
sync_reads =
    reads_then request_reads (λ request request_is. reads_then frame_id_reads (λ id id_is.
    reads_then entry_reads (λ entry entry_is. reads_last _ token_reads (λ token is.
    (refl, (request_is, (id_is, (entry_is, is))))))))

rgoto_reads : Reads rgoto_at (IsBehind 5)
unfolding rgoto_at
rgoto_reads =
    reads_then frame_id_reads (λ id id_is. reads_then entry_reads (λ entry entry_is.
    reads_last _ token_reads (λ token is. (refl, (id_is, (entry_is, is))))))

lgoto_reads : Reads lgoto_at (IsBehind 6)
unfolding lgoto_at
lgoto_reads = reads_last _ token_reads (λ token is. (refl, is))

value_reads : Reads value_at (IsBehind 7)
unfolding value_at
value_reads =
    reads_then request_reads (λ request request_is. reads_last _ (integer_reads _) (λ value is.
    (refl, (request_is, is))))

ack_reads : Reads ack_at (IsBehind 8)
unfolding ack_at
ack_reads = reads_last _ request_reads (λ request is. (refl, is))

answer_reads : Reads answer_at (IsBehind 9)
unfolding answer_at
answer_reads =
    reads_then request_reads (λ request request_is. reads_last _ token_reads (λ token is. (refl, (request_is, is))))

-- the kind is this one
reads_kind : {reader : WireReader Message} (one kind : ℕ) → (kind == one) ≡ true → Reads reader (IsBehind one) →
    Reads reader (IsBehind kind)
reads_kind {reader = reader} one kind is reads =
    subst (λ k. Reads reader (IsBehind k)) (sym (eqb-true kind one is)) reads

pub message_reads : (kind : ℕ) → Reads (message_at kind)
    (λ sent text. (kind ∷ text ≡ message_bytes sent) × IsMessage sent)
unfolding message_at
message_reads kind =
    reads_if (kind == 1) (λ is. reads_kind 1 kind is get_reads) (λ _.
    reads_if (kind == 2) (λ is. reads_kind 2 kind is set_reads) (λ _.
    reads_if (kind == 3) (λ is. reads_kind 3 kind is forward_reads) (λ _.
    reads_if (kind == 4) (λ is. reads_kind 4 kind is sync_reads) (λ _.
    reads_if (kind == 5) (λ is. reads_kind 5 kind is rgoto_reads) (λ _.
    reads_if (kind == 6) (λ is. reads_kind 6 kind is lgoto_reads) (λ _.
    reads_if (kind == 7) (λ is. reads_kind 7 kind is value_reads) (λ _.
    reads_if (kind == 8) (λ is. reads_kind 8 kind is ack_reads) (λ _.
    reads_if (kind == 9) (λ is. reads_kind 9 kind is answer_reads) (λ _.
    reads_if (kind == 11) (λ is. reads_kind 11 kind is rgoto_with_reads) (λ _.
    reads_refused refusal.BadKind))))))))))

-- ---- what is read again

-- the kind of a message, and its fields, which are read as it
abbrev pub HasKind : Message → Type 0
HasKind sent =
    (kind : ℕ) × (text : List ℕ) × (kind ∷ text ≡ message_bytes sent) × ((kind == 10) ≡ false)
    × Again (message_at kind) sent text

has_kind : (kind : ℕ) {sent : Message} {text : List ℕ} → kind ∷ text ≡ message_bytes sent → (kind == 10) ≡ false →
    Again (message_at kind) sent text → HasKind sent
has_kind kind {text = text} is apart one = (kind, text, is, apart, one)

pub message_again : (sent : Message) → IsMessage sent → has_host (frame.Message sent) ≡ true → HasKind sent
unfolding message_at get_at set_at forward_at sync_at rgoto_at lgoto_at value_at ack_at answer_at
message_again (message.Get request field index) is named =
    has_kind 1 refl refl (again_then _ (request_again request is.0) (again_then _ (field_again field is.1.0)
    (again_last (message.Get request field) (integer_again _ index is.1.1))))
message_again (message.Set request field index value) is named =
    has_kind 2 refl refl (again_then _ (request_again request is.0) (again_then _ (field_again field is.1.0)
    (again_then _ (integer_again _ index is.1.1.0)
    (again_last (message.Set request field index) (integer_again _ value is.1.1.1)))))
message_again (message.Forward request id variable value) is named =
    has_kind 3 refl refl (again_then _ (request_again request is.0) (again_then _ (frame_id_again id is.1.0)
    (again_then _ (variable_again variable is.1.1.0)
    (again_last (message.Forward request id variable) (integer_again _ value is.1.1.1)))))
message_again (message.Sync request id entry token) is named =
    has_kind 4 refl refl (again_then _ (request_again request is.0) (again_then _ (frame_id_again id is.1.0)
    (again_then _ (entry_again entry is.1.1.0)
    (again_last (message.Sync request id entry) (token_again token is.1.1.1)))))
message_again (message.Rgoto id entry token) is named =
    has_kind 5 refl refl (again_then _ (frame_id_again id is.0) (again_then _ (entry_again entry is.1.0)
    (again_last (message.Rgoto id entry) (token_again token is.1.1))))
message_again (message.Lgoto token) is named = has_kind 6 refl refl (again_last message.Lgoto (token_again token is))
message_again (message.Value request value) is named =
    has_kind 7 refl refl (again_then _ (request_again request is.0)
    (again_last (message.Value request) (integer_again _ value is.1)))
message_again (message.Ack request) is named = has_kind 8 refl refl (again_last message.Ack (request_again request is))
message_again (message.Token request token) is named =
    has_kind 9 refl refl (again_then _ (request_again request is.0)
    (again_last (message.Token request) (token_again token is.1)))
message_again (message.RgotoWith id entry token riders) is named =
    has_kind 11 (spelled_behind id entry token riders) refl (rgoto_with_again id entry token riders is named)
