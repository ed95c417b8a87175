-- Words that are written out, and what they ask for.
use Rattle.std.proofs.Common.{◌≡◌, ◌∙◌, List, [], ◌∷◌, None, Some, ap, arith, codes, refl, sym}
use Rattle.std.proofs.lemmas.Fmt.{decimal_digit}
use Rattle.clap.specs.Words.{Text, fault_of}
use Rattle.clap.specs.declared.error.kind.ErrorKind.TheVariants as kind
use Rattle.clap.proofs.OnLiterals.{clap_on_literals}
use Rattle.node_engine.specs.Options.{Asked, IsAsked, node_command, value_of}
use Rattle.node_starts.specs.SourceNames.{Code, Program}

-- ---- no words

none_given : fault_of node_command [] ≡ kind.MissingRequiredArgument ∷ []
unfolding clap_on_literals
none_given = refl

pub no_words : (asked : Asked) → ¬ IsAsked [] asked
no_words asked is = absurd (let both = sym none_given ∙ is.parses in cc)

-- ---- all options

abbrev given : List Text
given = codes "--program" ∷ codes "P" ∷ codes "--hosts" ∷ codes "H" ∷ codes "--host" ∷ codes "A" ∷
    codes "--start" ∷ codes "S" ∷ codes "--turns" ∷ codes "4" ∷ []

given_parses : fault_of node_command given ≡ []
unfolding clap_on_literals
given_parses = refl

given_program : value_of given (codes "program") ≡ Some (codes "P")
unfolding clap_on_literals
given_program = refl

given_code : value_of given (codes "code") ≡ None
unfolding clap_on_literals
given_code = refl

given_hosts : value_of given (codes "hosts") ≡ Some (codes "H")
unfolding clap_on_literals
given_hosts = refl

given_host : value_of given (codes "host") ≡ Some (codes "A")
unfolding clap_on_literals
given_host = refl

given_start : value_of given (codes "start") ≡ Some (codes "S")
unfolding clap_on_literals
given_start = refl

given_turns : value_of given (codes "turns") ≡ Some (codes "4")
unfolding clap_on_literals
given_turns = refl

given_seals : value_of given (codes "seals") ≡ None
unfolding clap_on_literals
given_seals = refl

pub all_options : IsAsked given (record {
  source = Program (codes "P");
  hosts = codes "H";
  host = codes "A";
  start = codes "S";
  turns = 4;
  seals = None;
})
all_options = record {
  parses = given_parses;
  hosts = given_hosts;
  host = given_host;
  start = given_start;
  turns = given_turns ∙ ap Some (sym (decimal_digit 4 (omega arith)));
  count = record { least = omega arith; most = omega arith };
  seals = given_seals;
  source = (given_program, given_code);
}

-- ---- with seals

abbrev sealed : List Text
sealed = codes "--code" ∷ codes "C" ∷ codes "--hosts" ∷ codes "H" ∷ codes "--host" ∷ codes "A" ∷
    codes "--start" ∷ codes "S" ∷ codes "--turns" ∷ codes "4" ∷ codes "--seals" ∷ codes "K" ∷ []

sealed_parses : fault_of node_command sealed ≡ []
unfolding clap_on_literals
sealed_parses = refl

sealed_program : value_of sealed (codes "program") ≡ None
unfolding clap_on_literals
sealed_program = refl

sealed_code : value_of sealed (codes "code") ≡ Some (codes "C")
unfolding clap_on_literals
sealed_code = refl

sealed_hosts : value_of sealed (codes "hosts") ≡ Some (codes "H")
unfolding clap_on_literals
sealed_hosts = refl

sealed_host : value_of sealed (codes "host") ≡ Some (codes "A")
unfolding clap_on_literals
sealed_host = refl

sealed_start : value_of sealed (codes "start") ≡ Some (codes "S")
unfolding clap_on_literals
sealed_start = refl

sealed_turns : value_of sealed (codes "turns") ≡ Some (codes "4")
unfolding clap_on_literals
sealed_turns = refl

sealed_seals : value_of sealed (codes "seals") ≡ Some (codes "K")
unfolding clap_on_literals
sealed_seals = refl

pub with_seals : IsAsked sealed (record {
  source = Code (codes "C");
  hosts = codes "H";
  host = codes "A";
  start = codes "S";
  turns = 4;
  seals = Some (codes "K");
})
with_seals = record {
  parses = sealed_parses;
  hosts = sealed_hosts;
  host = sealed_host;
  start = sealed_start;
  turns = sealed_turns ∙ ap Some (sym (decimal_digit 4 (omega arith)));
  count = record { least = omega arith; most = omega arith };
  seals = sealed_seals;
  source = (sealed_program, sealed_code);
}
