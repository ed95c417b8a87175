use Rattle.std.proofs.Common.{◌<◌, ◌^◌, take}
use Rattle.js_base.specs.declared.bits.TheConstants.{WORD_BITS}
use Rattle.byte_format.specs.Numbers.{word_bytes}
use Rattle.split_file.specs.Put.{ArePut}
use Rattle.split_file.proofs.appending.put_words.Given as goal

abbrev pub invariant-loop-word : goal.invariant-loop-word
invariant-loop-word l =
    ArePut word_bytes (λ word. word < 2 ^ WORD_BITS) l.initial.out.items (take l.word-index l.words) l.out.items
