use Rattle.std.proofs.Common.{◌<◌, ◌^◌, arith}
use Rattle.js_base.specs.declared.bits.TheConstants.{WORD_BITS}
use Rattle.byte_format.specs.Numbers.{word_bytes}
use Rattle.split_file.proofs.Appends.{put_more}
use Rattle.split_file.proofs.appending.put_words.Goals as goal

pub loop-word-preserved : goal.loop-word-preserved
loop-word-preserved c =
    put_more word_bytes (λ word. word < 2 ^ WORD_BITS) c.args.words.now c.loop-word.word-index 0 _ _ _ (omega arith)
    c.loop-word.invariant c.in_ok-put_word.ensures.bytes c.put_word.ensures.fits
