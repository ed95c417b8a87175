-- Keywords.
use Rattle.jif_lex.specs.declared.token.TokenKind.TheVariants as token
use Rattle.jif_lex.specs.declared.token.Word as words
use Rattle.jif_parse.specs.declared.cursor.Cursor.{Cursor}
use Rattle.jif_parse.specs.Reading.{Passes, IsNextKind}

pub record PassesWord (old new : Cursor) (written : words.Word) : Type 0 where
  pub is_next : IsNextKind old (token.Word written)
  pub passes : Passes old new
