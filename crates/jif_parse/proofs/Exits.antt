-- The exit of a `?`.
use Rattle.std.proofs.Common.{◌≡◌, Result, Ok, Err, sym, subst}
use Rattle.std.specs.Result.{IsErr, IsErrAnd, IfErr}
use Rattle.jif_parse.specs.declared.parse_error.ParseError.{ParseError}

-- the error is handed on as it is
pub handed_on : {T : Type 0} (P : ParseError → Type 0) (error : ParseError) (result : Result T ParseError) →
    IsErr result × IsErrAnd result (λ other. other ≡ error) → P error → IfErr result P
handed_on P error (Ok value) is holds = absurd is.1
handed_on P error (Err other) is holds = subst P (sym is.1) holds
