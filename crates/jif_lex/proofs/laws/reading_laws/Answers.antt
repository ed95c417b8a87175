use Rattle.jif_lex.proofs.SomeReading.{some_reading, tokens_or_fault, bad_byte_within, bad_number_within}
use Rattle.jif_lex.proofs.laws.reading_laws.Goals as goal

pub returns : goal.returns
returns c = record {
  some_reading = some_reading;
  tokens_or_fault = tokens_or_fault;
  bad_byte = bad_byte_within;
  bad_number = bad_number_within;
}
