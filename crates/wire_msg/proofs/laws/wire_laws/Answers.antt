use Rattle.std.proofs.Common.{refl, arith}
use Rattle.byte_format.specs.Numbers.{number_bytes, word_bytes}
use Rattle.byte_format.specs.Reader.{sequel, given, refused, require, byte_at, bytes_at, number_at, integer_at}
use Rattle.byte_format.specs.Reader.{items_at}
use Rattle.wire_msg.specs.Spelling.{frame_bytes}
use Rattle.wire_msg.specs.Reader.{known, whole}
use Rattle.wire_msg.specs.Reading.{entry_at, frame_id_at, token_at, lgoto_at, message_at, some_message_at, fields_at}
use Rattle.wire_msg.specs.Reading.{sent_at, body_at, frame_at, reading_of, riding_at, rider_at, variable_at}
use Rattle.wire_msg.specs.Reading.{rgoto_with_at}
use Rattle.wire_msg.proofs.FrameLaws.{fitting, spelled_once, read_again, frame_read, frame_or_refusal}
use Rattle.wire_msg.proofs.RiderLaws.{spelled_length}
use Rattle.wire_msg.proofs.FaultLaws.{first_fault_is}
use Rattle.wire_msg.proofs.laws.wire_laws.Goals as goal

pub returns-clause-spelled_once : goal.returns-clause-spelled_once
returns-clause-spelled_once c = spelled_once

pub returns-clause-read_again : goal.returns-clause-read_again
returns-clause-read_again c = read_again

pub returns-clause-only_spelled : goal.returns-clause-only_spelled
returns-clause-only_spelled c bytes from sent fits is = frame_read bytes from sent fits is

pub returns-clause-frame_or_refusal : goal.returns-clause-frame_or_refusal
returns-clause-frame_or_refusal c = frame_or_refusal

pub returns-clause-fitting : goal.returns-clause-fitting
returns-clause-fitting c = fitting

pub returns-clause-refused : goal.returns-clause-refused
returns-clause-refused c = first_fault_is

pub returns-clause-worked_get : goal.returns-clause-worked_get
unfolding number_bytes word_bytes frame_bytes
returns-clause-worked_get c from request field index = refl

pub returns-clause-worked_set : goal.returns-clause-worked_set
unfolding number_bytes word_bytes frame_bytes
returns-clause-worked_set c from request field index value = refl

pub returns-clause-worked_forward : goal.returns-clause-worked_forward
unfolding number_bytes word_bytes frame_bytes
returns-clause-worked_forward c from request id variable value = refl

pub returns-clause-worked_sync : goal.returns-clause-worked_sync
unfolding number_bytes word_bytes frame_bytes
returns-clause-worked_sync c from request id entry token is = omega (arith, is.0)

pub returns-clause-worked_rgoto : goal.returns-clause-worked_rgoto
unfolding number_bytes word_bytes frame_bytes
returns-clause-worked_rgoto c from id entry token is = omega (arith, is.0)

pub returns-clause-worked_rgoto_with : goal.returns-clause-worked_rgoto_with
unfolding number_bytes word_bytes frame_bytes
returns-clause-worked_rgoto_with c from id entry token riders is =
    omega (arith, spelled_length id entry token riders is.0)

pub returns-clause-worked_lgoto : goal.returns-clause-worked_lgoto
unfolding number_bytes word_bytes frame_bytes
returns-clause-worked_lgoto c from token is = omega (arith, is.0)

pub returns-clause-worked_value : goal.returns-clause-worked_value
unfolding number_bytes word_bytes frame_bytes
returns-clause-worked_value c from request value = refl

pub returns-clause-worked_ack : goal.returns-clause-worked_ack
unfolding number_bytes word_bytes frame_bytes
returns-clause-worked_ack c from request = refl

pub returns-clause-worked_token : goal.returns-clause-worked_token
unfolding number_bytes word_bytes frame_bytes
returns-clause-worked_token c from request token is = omega (arith, is.0)

pub returns-clause-worked_done : goal.returns-clause-worked_done
unfolding number_bytes word_bytes frame_bytes
returns-clause-worked_done c from = refl

pub returns-clause-worked_bytes : goal.returns-clause-worked_bytes
unfolding number_bytes word_bytes frame_bytes
returns-clause-worked_bytes c = refl

pub returns-clause-worked_riding : goal.returns-clause-worked_riding
unfolding number_bytes word_bytes frame_bytes
returns-clause-worked_riding c = refl

pub returns-clause-worked_nothing : goal.returns-clause-worked_nothing
unfolding reading_of frame_at body_at whole sequel number_at
returns-clause-worked_nothing c = refl

pub returns-clause-worked_length : goal.returns-clause-worked_length
unfolding reading_of frame_at body_at whole sequel number_at
returns-clause-worked_length c = refl

pub returns-clause-worked_long : goal.returns-clause-worked_long
unfolding reading_of frame_at body_at whole sequel number_at require
returns-clause-worked_long c = refl

pub returns-clause-worked_longest : goal.returns-clause-worked_longest
unfolding reading_of frame_at body_at whole sequel number_at require bytes_at
returns-clause-worked_longest c = refl

pub returns-clause-worked_cut : goal.returns-clause-worked_cut
unfolding reading_of frame_at body_at whole sequel number_at require bytes_at
returns-clause-worked_cut c = refl

pub returns-clause-worked_empty : goal.returns-clause-worked_empty
unfolding reading_of frame_at body_at whole sequel number_at require bytes_at known sent_at byte_at
returns-clause-worked_empty c = refl

pub returns-clause-worked_no_kind : goal.returns-clause-worked_no_kind
unfolding reading_of frame_at body_at whole sequel number_at require bytes_at known sent_at byte_at
returns-clause-worked_no_kind c = refl

pub returns-clause-worked_sender : goal.returns-clause-worked_sender
unfolding reading_of frame_at body_at whole sequel number_at require bytes_at known sent_at byte_at
returns-clause-worked_sender c = refl

pub returns-clause-worked_first_kind : goal.returns-clause-worked_first_kind
unfolding reading_of frame_at body_at whole sequel number_at require bytes_at known sent_at byte_at fields_at
    some_message_at message_at refused
returns-clause-worked_first_kind c = refl

pub returns-clause-worked_last_kind : goal.returns-clause-worked_last_kind
unfolding reading_of frame_at body_at whole sequel number_at require bytes_at known sent_at byte_at fields_at
    some_message_at message_at refused
returns-clause-worked_last_kind c = refl

pub returns-clause-worked_fields : goal.returns-clause-worked_fields
unfolding reading_of frame_at body_at whole sequel number_at require bytes_at known sent_at byte_at fields_at
    some_message_at message_at refused lgoto_at token_at frame_id_at entry_at given
returns-clause-worked_fields c = refl

pub returns-clause-worked_cut_token : goal.returns-clause-worked_cut_token
unfolding reading_of frame_at body_at whole sequel number_at require bytes_at known sent_at byte_at fields_at
    some_message_at message_at refused lgoto_at token_at frame_id_at entry_at given
returns-clause-worked_cut_token c = refl

pub returns-clause-worked_token_host : goal.returns-clause-worked_token_host
unfolding reading_of frame_at body_at whole sequel number_at require bytes_at known sent_at byte_at fields_at
    some_message_at message_at refused lgoto_at token_at frame_id_at entry_at given
returns-clause-worked_token_host c = refl

pub returns-clause-worked_cut_count : goal.returns-clause-worked_cut_count
unfolding reading_of frame_at body_at whole sequel number_at require bytes_at known sent_at byte_at fields_at
    some_message_at message_at refused rgoto_with_at riding_at token_at frame_id_at entry_at rider_at variable_at
    integer_at items_at given
returns-clause-worked_cut_count c = refl

pub returns-clause-worked_riding_host : goal.returns-clause-worked_riding_host
unfolding reading_of frame_at body_at whole sequel number_at require bytes_at known sent_at byte_at fields_at
    some_message_at message_at refused rgoto_with_at riding_at token_at frame_id_at entry_at rider_at variable_at
    integer_at items_at given
returns-clause-worked_riding_host c = refl

pub returns-clause-worked_none_ride : goal.returns-clause-worked_none_ride
unfolding reading_of frame_at body_at whole sequel number_at require bytes_at known sent_at byte_at fields_at
    some_message_at message_at refused rgoto_with_at riding_at token_at frame_id_at entry_at rider_at variable_at
    integer_at items_at given
returns-clause-worked_none_ride c = refl

pub returns-clause-worked_nine_ride : goal.returns-clause-worked_nine_ride
unfolding reading_of frame_at body_at whole sequel number_at require bytes_at known sent_at byte_at fields_at
    some_message_at message_at refused rgoto_with_at riding_at token_at frame_id_at entry_at rider_at variable_at
    integer_at items_at given
returns-clause-worked_nine_ride c = refl

pub returns-clause-worked_eight_ride : goal.returns-clause-worked_eight_ride
unfolding reading_of frame_at body_at whole sequel number_at require bytes_at known sent_at byte_at fields_at
    some_message_at message_at refused rgoto_with_at riding_at token_at frame_id_at entry_at rider_at variable_at
    integer_at items_at given
returns-clause-worked_eight_ride c = refl

pub returns-clause-worked_cut_pair : goal.returns-clause-worked_cut_pair
unfolding reading_of frame_at body_at whole sequel number_at require bytes_at known sent_at byte_at fields_at
    some_message_at message_at refused rgoto_with_at riding_at token_at frame_id_at entry_at rider_at variable_at
    integer_at items_at given
returns-clause-worked_cut_pair c = refl

pub returns-clause-worked_pair_left : goal.returns-clause-worked_pair_left
unfolding reading_of frame_at body_at whole sequel number_at require bytes_at known sent_at byte_at fields_at
    some_message_at message_at refused rgoto_with_at riding_at token_at frame_id_at entry_at rider_at variable_at
    integer_at items_at given
returns-clause-worked_pair_left c = refl

pub returns-clause-worked_left : goal.returns-clause-worked_left
unfolding reading_of frame_at body_at whole sequel number_at require bytes_at known sent_at byte_at fields_at
    some_message_at message_at refused given
returns-clause-worked_left c = refl

pub returns-clause-worked_behind : goal.returns-clause-worked_behind
unfolding reading_of frame_at body_at whole sequel number_at require bytes_at known sent_at byte_at fields_at
    some_message_at message_at refused given
returns-clause-worked_behind c = refl

pub returns-clause-worked_read : goal.returns-clause-worked_read
unfolding reading_of frame_at body_at whole sequel number_at require bytes_at known sent_at byte_at fields_at
    some_message_at message_at refused given
returns-clause-worked_read c = refl
