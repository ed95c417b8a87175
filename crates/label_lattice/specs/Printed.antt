-- How a label is printed: between braces the policies, in the order of their owners, and then who trusts.
--
-- A row that allows nobody can be printed. Where two principals both act for a third, what the one forbids and the
-- other forbids may leave nobody. Then the owner has no names behind its colon and blank, and such a text reads back.
use Rattle.std.specs.Prelude.{ℕ, ◌+◌, ◌==◌, Bool, if◌then◌else◌}
use Rattle.std.specs.Prelude.{List, [], ◌∷◌, ◌++◌, codes, slice_index}
use Rattle.std.specs.Int.{bit_at}
use Rattle.std.specs.List.{list_any, join_by, range_with_len}
use Rattle.jif_lex.specs.declared.token.Token.{Token}
use Rattle.jif_lex.specs.Tokens.{ReadsAs, tokens}
use Rattle.principals.specs.ActsFor.{Declared}
use Rattle.label_lattice.specs.declared.label.Label.{Label}
use Rattle.label_lattice.specs.declared.label.TheConstants.{READERS}
use Rattle.label_lattice.specs.Written.{Part, policy, trust, IsLabelOf}

-- ---- the sets of a label, as tests

abbrev pub forbids : Label → ℕ → ℕ → Bool
forbids label owner reader = bit_at (slice_index label.rows owner) reader == 0

-- the owner forbids some reader
abbrev pub forbids_some : Label → ℕ → Bool
forbids_some label owner = list_any (forbids label owner) (range_with_len 0 READERS)

abbrev pub allows : Label → ℕ → ℕ → Bool
allows label owner reader = bit_at (slice_index label.rows owner) reader == 1

abbrev pub is_trusted_by : Label → ℕ → Bool
is_trusted_by label principal = bit_at label.trust principal == 1

-- ---- the parts of a label

-- what is made of each principal that passes a test, in order, where the first name is that of this principal
abbrev pub each_where : {X : Type 0} → (ℕ → Bool) → (ℕ → List ℕ → X) → ℕ →
    List (List ℕ) → List X
each_where test make first [] = []
each_where test make first (name ∷ names) =
    (if test first then make first name ∷ [] else []) ++ each_where test make (first + 1) names

-- the names of the principals that pass a test
abbrev pub names_where : (ℕ → Bool) → Declared → List (List ℕ)
names_where test principals = each_where test (λ principal name. name) 0 principals.names

-- the policy of an owner: it names the principals whom the owner allows
abbrev pub printed_policy : Declared → Label → ℕ → List ℕ → Part
printed_policy principals label owner name = policy name (names_where (allows label owner) principals)

-- a policy for each owner who forbids some reader
abbrev pub printed_policies : Declared → Label → List Part
printed_policies principals label =
    each_where (forbids_some label) (printed_policy principals label) 0 principals.names

-- who trusts, where there is one
abbrev pub trust_parts : List (List ℕ) → List Part
trust_parts [] = []
trust_parts (member ∷ members) = trust (member ∷ members) ∷ []

abbrev pub printed_parts : Declared → Label → List Part
printed_parts principals label =
    printed_policies principals label ++ trust_parts (names_where (is_trusted_by label) principals)

-- ---- the text

abbrev pub joined : List ℕ → List (List ℕ) → List ℕ
joined separator texts = join_by (λ text. text) separator texts

abbrev pub printed_part : Part → List ℕ
printed_part (policy owner readers) = owner ++ codes ": " ++ joined (codes ", ") readers
printed_part (trust members) = codes "?" ++ codes ": " ++ joined (codes ", ") members

abbrev pub printed_label : Declared → Label → List ℕ
printed_label principals label =
    codes "{" ++ join_by printed_part (codes "; ") (printed_parts principals label) ++ codes "}"

-- the text has tokens that are this label, written with names of these principals
abbrev pub ReadsBack : Declared → Label → Type 0
ReadsBack principals label =
    (list : List Token) × ReadsAs (printed_label principals label) (tokens list) × IsLabelOf principals list label
