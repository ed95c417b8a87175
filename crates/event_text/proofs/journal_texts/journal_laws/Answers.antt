use Rattle.std.proofs.Common.{refl}
use Rattle.event_text.proofs.JournalLines.{take_line_words, send_line_words}
use Rattle.event_text.proofs.journal_texts.journal_laws.Goals as goal

pub returns : goal.returns
returns c = record { turn = refl; take = take_line_words; send = send_line_words }
