use Rattle.std.proofs.Common.{refl, []}
use Rattle.sha2.specs.Sha256.{sha256, digest_bytes, hash_after, compress, rounds, schedule, first_words}
use Rattle.link_seal.specs.Hmac.{hmac_of}
use Rattle.byte_format.specs.Numbers.{number_bytes, word_bytes}
use Rattle.byte_format.specs.Reader.{sequel, given, require, bytes_at, number_at}
use Rattle.link_seal.specs.declared.sizes.TheConstants.{MOST_FRAMES}
use Rattle.link_seal.specs.Examples.{small_link, ended_link, small_text}
use Rattle.link_seal.specs.Links.{text_of}
use Rattle.link_seal.specs.Opening.{parts_at, opens}
use Rattle.link_seal.proofs.Accepting.{prefix, sealed_once, length-sealed}
use Rattle.link_seal.proofs.Opened.{opened, again, out_of_turn}
use Rattle.link_seal.proofs.Worked.{bad_tag, with_its_tag, taken_twice}
use Rattle.link_seal.proofs.laws.seal_laws.Goals as goal

pub returns-clause-opened : goal.returns-clause-opened
returns-clause-opened c = opened

pub returns-clause-again : goal.returns-clause-again
returns-clause-again c = again

pub returns-clause-prefix : goal.returns-clause-prefix
returns-clause-prefix c = prefix

pub returns-clause-out_of_turn : goal.returns-clause-out_of_turn
returns-clause-out_of_turn c = out_of_turn

pub returns-clause-sealed_once : goal.returns-clause-sealed_once
returns-clause-sealed_once c = sealed_once

pub returns-clause-worked_pad : goal.returns-clause-worked_pad
returns-clause-worked_pad c = refl

pub returns-clause-worked_key : goal.returns-clause-worked_key
returns-clause-worked_key c = refl

pub returns-clause-worked_size : goal.returns-clause-worked_size
returns-clause-worked_size c = length-sealed

pub returns-clause-worked_text : goal.returns-clause-worked_text
unfolding number_bytes word_bytes
returns-clause-worked_text c key = refl

pub returns-clause-worked_length : goal.returns-clause-worked_length
unfolding number_bytes word_bytes
returns-clause-worked_length c key = refl

pub returns-clause-worked_nothing : goal.returns-clause-worked_nothing
unfolding sequel given require bytes_at number_at parts_at opens
returns-clause-worked_nothing c key = refl

pub returns-clause-worked_three : goal.returns-clause-worked_three
unfolding sequel given require bytes_at number_at parts_at opens
returns-clause-worked_three c key = refl

pub returns-clause-worked_long : goal.returns-clause-worked_long
unfolding sequel given require bytes_at number_at parts_at opens
returns-clause-worked_long c key = refl

pub returns-clause-worked_longest : goal.returns-clause-worked_longest
unfolding sequel given require bytes_at number_at parts_at opens
returns-clause-worked_longest c key = refl

pub returns-clause-worked_small : goal.returns-clause-worked_small
unfolding sequel given require bytes_at number_at parts_at opens
returns-clause-worked_small c key = refl

pub returns-clause-worked_cut : goal.returns-clause-worked_cut
unfolding sequel given require bytes_at number_at parts_at opens
returns-clause-worked_cut c key = refl

pub returns-clause-worked_behind : goal.returns-clause-worked_behind
unfolding sequel given require bytes_at number_at parts_at opens
returns-clause-worked_behind c key = refl

pub returns-clause-worked_tag : goal.returns-clause-worked_tag
returns-clause-worked_tag c key text tag other = bad_tag (small_link key) text tag other

pub returns-clause-worked_from : goal.returns-clause-worked_from
unfolding word_bytes
returns-clause-worked_from c key = with_its_tag (small_link key) (small_text 2 2 1)

pub returns-clause-worked_to : goal.returns-clause-worked_to
unfolding word_bytes
returns-clause-worked_to c key = with_its_tag (small_link key) (small_text 1 1 0)

pub returns-clause-worked_number : goal.returns-clause-worked_number
unfolding word_bytes
returns-clause-worked_number c key = with_its_tag (small_link key) (small_text 1 2 1)

pub returns-clause-worked_frame : goal.returns-clause-worked_frame
unfolding word_bytes
returns-clause-worked_frame c key = with_its_tag (small_link key) (small_text 1 2 0)

pub returns-clause-worked_ended : goal.returns-clause-worked_ended
unfolding word_bytes
returns-clause-worked_ended c key =
    with_its_tag (ended_link key) (text_of (ended_link key).from (ended_link key).to MOST_FRAMES [])

pub returns-clause-worked_twice : goal.returns-clause-worked_twice
returns-clause-worked_twice c key = taken_twice (small_link key)

pub returns-clause-worked_hmac : goal.returns-clause-worked_hmac
unfolding hmac_of sha256 digest_bytes hash_after compress rounds schedule first_words
returns-clause-worked_hmac c = refl

pub returns-clause-worked_blocks : goal.returns-clause-worked_blocks
unfolding hmac_of sha256 digest_bytes hash_after compress rounds schedule first_words
returns-clause-worked_blocks c = refl
