-- The names of files that were asked for, and the bytes of a program and a host file that were loaded.
use Rattle.std.proofs.Common.{◌≡◌, ℕ, List, [], ◌∷◌, get_or, Option, Some, sym, ap, ◌∙◌, subst}
use Rattle.std.specs.List.{AllZip}
use Rattle.js_base.specs.declared.limits.TheConstants.{PROGRAM_BYTES, HOSTS_BYTES}
use Rattle.front_end.specs.declared.load.Asked.{Asked}
use Rattle.front_end.specs.declared.load.Loaded.{Loaded}
use Rattle.front_end.specs.Loads.{Told}
use Rattle.front_end.specs.Loading.{IsLoaded, Gives}
use Rattle.front_end.proofs.Stops.{GivesAsked, names_asked}

pub two_names : (one two : Asked) (program hosts : List ℕ) → one.name.now ≡ program → two.name.now ≡ hosts →
    names_asked (one ∷ two ∷ []) ≡ program ∷ hosts ∷ []
two_names one two program hosts first second =
    ap (λ (name : List ℕ). name ∷ two.name.now ∷ []) first ∙ ap (λ (name : List ℕ). program ∷ name ∷ []) second

pub three_names : (one two three : Asked) (program hosts script : List ℕ) → one.name.now ≡ program →
    two.name.now ≡ hosts → three.name.now ≡ script →
    names_asked (one ∷ two ∷ three ∷ []) ≡ program ∷ hosts ∷ script ∷ []
three_names one two three program hosts script first second third =
    ap (λ (name : List ℕ). name ∷ two.name.now ∷ three.name.now ∷ []) first
    ∙ ap (λ (name : List ℕ). program ∷ name ∷ three.name.now ∷ []) second
    ∙ ap (λ (name : List ℕ). program ∷ hosts ∷ name ∷ []) third

pub four_names : (one two three four : Asked) (program hosts script other : List ℕ) → one.name.now ≡ program →
    two.name.now ≡ hosts → three.name.now ≡ script → four.name.now ≡ other →
    names_asked (one ∷ two ∷ three ∷ four ∷ []) ≡ program ∷ hosts ∷ script ∷ other ∷ []
four_names one two three four program hosts script other first second third fourth =
    ap (λ (name : List ℕ). name ∷ two.name.now ∷ three.name.now ∷ four.name.now ∷ []) first
    ∙ ap (λ (name : List ℕ). program ∷ name ∷ three.name.now ∷ four.name.now ∷ []) second
    ∙ ap (λ (name : List ℕ). program ∷ hosts ∷ name ∷ four.name.now ∷ []) third
    ∙ ap (λ (name : List ℕ). program ∷ hosts ∷ script ∷ name ∷ []) fourth

-- what was asked for and given, as a file of a command
pub given_file : (held : Option (List ℕ → Option (List ℕ))) (one : Asked) (name : List ℕ) (most : ℕ) (given : Loaded) →
    one.name.now ≡ name → one.most ≡ most → GivesAsked held one given → Gives held name most given
given_file held one name most given same_name same_most gives =
    subst (λ (n : ℕ). Gives held name n given) same_most
    (subst (λ (text : List ℕ). Gives held text one.most given) same_name gives)

-- the bytes of a program and a host file that were loaded
pub record TwoFiles (held : Option (List ℕ → Option (List ℕ))) (program hosts : List ℕ) (p h : Loaded) : Type 0 where
  pub program_bytes : List ℕ
  pub hosts_bytes : List ℕ
  pub program_told : Told held program (Some program_bytes)
  pub hosts_told : Told held hosts (Some hosts_bytes)
  pub program_loaded : IsLoaded PROGRAM_BYTES program_bytes p
  pub hosts_loaded : IsLoaded HOSTS_BYTES hosts_bytes h

pub two_files : (held : Option (List ℕ → Option (List ℕ))) (program hosts : List ℕ) (one two : Asked)
    (given : List Loaded) (p h : Loaded) → AllZip (GivesAsked held) (one ∷ two ∷ []) given → p ≡ get_or given 0 p →
    h ≡ get_or given 1 h → one.name.now ≡ program → one.most ≡ PROGRAM_BYTES → two.name.now ≡ hosts →
    two.most ≡ HOSTS_BYTES → TwoFiles held program hosts p h
two_files held program hosts one two [] p h all pa pb na ma nb mb = absurd all
two_files held program hosts one two (x ∷ []) p h all pa pb na ma nb mb = absurd all.1
two_files held program hosts one two (x ∷ y ∷ z ∷ more) p h all pa pb na ma nb mb = absurd all.1.1
two_files held program hosts one two (x ∷ y ∷ []) p h all pa pb na ma nb mb =
    let first = given_file held one program PROGRAM_BYTES x na ma all.0 in
    let second = given_file held two hosts HOSTS_BYTES y nb mb all.1.0 in
    record {
      program_bytes = first.0;
      hosts_bytes = second.0;
      program_told = first.1;
      hosts_told = second.1;
      program_loaded = subst (IsLoaded PROGRAM_BYTES first.0) (sym pa) first.2;
      hosts_loaded = subst (IsLoaded HOSTS_BYTES second.0) (sym pb) second.2;
    }
