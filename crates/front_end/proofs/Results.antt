-- What holds of the values of results.
use Rattle.std.proofs.Common.{ℕ, ◌≤◌, List, length, Result, Ok, Err, Vec, Global}
use Rattle.std.specs.Prelude.{IfOk, MatchResult}
use Rattle.js_base.specs.declared.limits.TheConstants.{PROGRAM_BYTES}
use Rattle.host_decl.specs.Hosts.{HostsShape}
use Rattle.host_decl.specs.Reading.{ReadsHosts}
use Rattle.jif_lex.specs.declared.token.Token.{Token}
use Rattle.jif_lex.specs.Tokens.{ReadsAs, tokens}
use Rattle.jif_lex.specs.TokenLists.{AreTokens}
use Rattle.front_end.specs.ReadPrograms.{AreShort}

-- both of what hold of the value
pub both_ok : {T E : Type 0} (r : Result T E) (P Q : T → Type 0) → IfOk r P → IfOk r Q → IfOk r (λ x. P x × Q x)
both_ok (Ok x) P Q first second = (first, second)
both_ok (Err e) P Q first second = tt

-- the tokens of a text are tokens
pub are_tokens : {E : Type 0} (r : Result (Vec Token Global) E) (text : List ℕ) (F : E → Type 0) →
    ((bytes : List ℕ) (list : List Token) → length bytes ≤ PROGRAM_BYTES → ReadsAs bytes (tokens list) →
    AreTokens list) →
    MatchResult r (λ list. (length text ≤ PROGRAM_BYTES) × ReadsAs text (tokens list.items)) F →
    IfOk r (λ list. AreTokens list.items)
are_tokens (Ok list) text F law found = law text list.items found.0 found.1
are_tokens (Err why) text F law found = tt

-- the hosts of a host file have short names
pub are_short : {E : Type 0} (r : Result HostsShape E) (bytes : List ℕ) (F : E → Type 0) →
    ((text : List ℕ) (hosts : HostsShape) → ReadsHosts text hosts → AreShort hosts) →
    MatchResult r (ReadsHosts bytes) F → IfOk r AreShort
are_short (Ok hosts) bytes F law found = law bytes hosts found
are_short (Err why) bytes F law found = tt
