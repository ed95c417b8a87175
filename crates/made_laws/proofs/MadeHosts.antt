-- The hosts that the host file of made programs says.
use Rattle.std.proofs.Common.{◌≡◌, ℕ, ◌≤◌, inl, inr, Bool, true, false, List, [], ◌∷◌, ◌++◌}
use Rattle.std.proofs.Common.{length, codes, refl, sym, ap, ◌∙◌, arith, Option, Some, None, Ordering, Less, Equal}
use Rattle.std.proofs.Common.{Greater, nat_cmp}
use Rattle.std.specs.Prelude.{IsUtf8, nat_lt}
use Rattle.std.proofs.lemmas.Bool.Decides.{Decides-ltb}
use Rattle.std.proofs.lemmas.Str.{IsUtf8-from_ascii}
use Rattle.js_base.proofs.Texts.{list_ascii}
use Rattle.std.specs.List.{IsDistinct}
use Rattle.std.specs.Ordering.{match_ordering, is_eq}
use Rattle.std.specs.Cmp.Lexicographic.{slice_cmp}
use Rattle.std.specs.Str.{bytes_eq}
use Rattle.std.proofs.lemmas.Bool.{cases_Bool}
use Rattle.std.proofs.lemmas.Map.Text.{is_eq-slice_cmp}
use Rattle.js_base.specs.Name.{is_name}
use Rattle.js_base.specs.declared.limits.TheConstants.{PROGRAM_BYTES}
use Rattle.std.proofs.lemmas.Slice.Eq.{bytes_eq-Decides}
use Rattle.jif_lex.specs.declared.token.Symbol.TheVariants.{LeftBrace, RightBrace}
use Rattle.jif_lex.specs.Spelled.{Spelled, spelled_text, spelled_kinds, AreApart, HasKinds}
use Rattle.label_lattice.specs.declared.label.Label.{Label}
use Rattle.label_lattice.specs.PrintedExamples.{alice_and_bob}
use Rattle.label_lattice.specs.Written.{Part, parts_tokens, symbol, TrustIsLast}
use Rattle.toml.specs.Data.{Data, string, Members, no_members, member, get_member}
use Rattle.host_decl.specs.declared.schema.TableKind.{TableKind}
use Rattle.host_decl.specs.declared.schema.TableKind.TheVariants as kinds
use Rattle.host_decl.specs.Schema.{is_bad, IsSound, IsSoundFile}
use Rattle.host_decl.specs.Draft.{draft_of, key_of, path_of}
use Rattle.host_decl.specs.Hosts.{HostShape, HostsShape, AreHostNames}
use Rattle.host_decl.specs.LabelText.{IsLabelText}
use Rattle.host_decl.specs.Meaning.{IsMeaningOf}
use Rattle.host_decl.specs.Reading.{ReadsHosts}
use Rattle.made_laws.specs.MadePrograms.{made_hosts}
use Rattle.made_laws.proofs.HostFile.{made_members, reads_members}
use Rattle.made_laws.proofs.MadeLabels.{MadeLabels, IsSaid, both, two_declared}
use Rattle.made_laws.proofs.MadeLimits.{alice_label, bob_label, both_label}
use Rattle.made_laws.proofs.MadeTokens.{alice_label_parts, alice_label_apart, bob_label_parts, bob_label_apart}
use Rattle.made_laws.proofs.MadeTokens.{both_label_parts, both_label_apart}

-- ---- labels

abbrev pub SpelledLaw : Type 0
SpelledLaw = (parts : List Spelled) → AreApart parts → HasKinds (spelled_text parts) (spelled_kinds parts)

label_text : SpelledLaw → (parts : List Part) (spelled : List Spelled) (label : Label) → AreApart spelled →
    spelled_kinds spelled ≡ symbol LeftBrace ∷ (parts_tokens parts ++ symbol RightBrace ∷ []) → TrustIsLast parts →
    length (spelled_text spelled) ≤ PROGRAM_BYTES → IsSaid parts label →
    IsLabelText alice_and_bob (spelled_text spelled) label
label_text law parts spelled label apart same last few said =
    let read = law spelled apart in
    record {
      few = few;
      list = read.0;
      reads = read.1;
      means = record {
        inside = parts_tokens parts;
        braces = read.2 ∙ same;
        parts = record {
          parts = parts;
          known = said.known;
          written = refl;
          trust_is_last = last;
          are_known = said.are_known;
          means = said.means;
        };
      };
      over = said.over;
    }

-- ---- hosts

abbrev pub host_shape : List ℕ → Label → HostShape
host_shape name label = record { name = name; label = label; key = key_of name None; path = path_of name None }

abbrev pub made_file : MadeLabels → HostsShape
made_file labels = record {
  principals = alice_and_bob;
  hosts = host_shape (codes "T") both ∷ host_shape (codes "A") labels.alice ∷ host_shape (codes "B") labels.bob ∷ [];
  costs = (0 ∷ 1 ∷ 1 ∷ []) ∷ (1 ∷ 0 ∷ 1 ∷ []) ∷ (1 ∷ 1 ∷ 0 ∷ []) ∷ [];
}

-- ---- keys

not_equal : (order : Ordering) → is_eq order ≡ false → (held rest : Option Data) →
    match_ordering order rest held rest ≡ rest
not_equal Less is held rest = refl
not_equal Equal is held rest = absurd (let no = is in cc)
not_equal Greater is held rest = refl

-- another key is none of the table's
missed : (key own : List ℕ) (value : Data) (members : Members) → bytes_eq key own ≡ false →
    get_member key (member own value members) ≡ get_member key members
missed key own value members other =
    not_equal (slice_cmp nat_cmp key own) (is_eq-slice_cmp key own ∙ other) (Some value) (get_member key members)

-- a table of two keys, of which no other key is asked for
two_sound : (kind : TableKind) (one other : List ℕ) (first second : Data) →
    let members = member one first (member other second no_members) in
    is_bad kind one (get_member one members) ≡ false → is_bad kind other (get_member other members) ≡ false →
    ((key : List ℕ) → bytes_eq key one ≡ false → bytes_eq key other ≡ false → is_bad kind key None ≡ false) →
    IsSound kind members
two_sound kind one other first second one_fits other_fits no_others key bad =
    elim (cases_Bool (bytes_eq key one)) [
      | inl same ↦ clash (ap (bad_at) ((bytes_eq-Decides key one).0 same) ∙ one_fits) bad
      | inr not_one ↦ elim (cases_Bool (bytes_eq key other)) [
        | inl same ↦ clash (ap (bad_at) ((bytes_eq-Decides key other).0 same) ∙ other_fits) bad
        | inr not_other ↦
            clash (ap (is_bad kind key) (missed key one first (member other second no_members) not_one
            ∙ missed key other second no_members not_other) ∙ no_others key not_one not_other) bad
      ]
    ]
  where
    bad_at : List ℕ → Bool
    bad_at key = is_bad kind key (get_member key (member one first (member other second no_members)))

    clash : {b : Bool} → b ≡ false → b ≡ true → ⊥
    clash {b} fails holds = let never : false ≡ true = sym fails ∙ holds in cc

file_sound : IsSound kinds.File made_members
file_sound =
    two_sound kinds.File (codes "host") (codes "principals") _ _ refl refl
    (λ key not_host not_principals. rw not_principals refl)

host_sound : (label name : List ℕ) → is_name name ≡ true →
    IsSound kinds.Host (member (codes "label") (string label) (member (codes "name") (string name) no_members))
host_sound label name is =
    two_sound kinds.Host (codes "label") (codes "name") (string label) (string name) refl (rw is refl)
    (λ key not_label not_name. rw not_label (rw not_name refl))

pub members_sound : IsSoundFile made_members
members_sound = (
  file_sound,
  (
    host_sound (codes "{?:Alice, Bob}") (codes "T") refl,
    (
      host_sound (codes "{Alice:; ?:Alice}") (codes "A") refl,
      (host_sound (codes "{Bob:; ?:Bob}") (codes "B") refl, tt),
    ),
  ),
)

-- ---- the file

host_names : AreHostNames (codes "T" ∷ codes "A" ∷ codes "B" ∷ [])
unfolding IsDistinct
host_names = record {
  some = omega arith;
  few = omega arith;
  distinct = ((refl, (refl, tt)), ((refl, tt), (tt, tt)));
}

file_means : SpelledLaw → (labels : MadeLabels) → IsMeaningOf (draft_of made_members) (made_file labels)
file_means law labels = record {
  principals = record { declarable = two_declared.names; names_are = refl; pairs_are = tt };
  names = host_names;
  rows = (
    record {
      name = refl;
      label = label_text law both_label both_label_parts both both_label_apart refl refl (omega arith)
          labels.both_is_said;
      key = refl;
      path = refl;
    },
    (
      record {
        name = refl;
        label = label_text law alice_label alice_label_parts labels.alice alice_label_apart refl refl (omega arith)
            labels.alice_said;
        key = refl;
        path = refl;
      },
      (
        record {
          name = refl;
          label = label_text law bob_label bob_label_parts labels.bob bob_label_apart refl refl (omega arith)
              labels.bob_said;
          key = refl;
          path = refl;
        },
        tt,
      ),
    ),
  );
  links = λ place less link there. absurd (omega (arith, less));
  costs = refl;
}

hosts_text : IsUtf8 made_hosts
hosts_text =
    IsUtf8-from_ascii made_hosts
    (list_ascii (λ byte. nat_lt byte 128) (λ byte low. (Decides-ltb byte 128).0 low) made_hosts refl)

pub reads_hosts : SpelledLaw → (labels : MadeLabels) → ReadsHosts made_hosts (made_file labels)
reads_hosts law labels = (
  made_members,
  record { few = omega arith; text = hosts_text; reads = reads_members },
  members_sound,
  file_means law labels,
)
