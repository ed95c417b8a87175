-- What is told of the places of a program that is accepted: which hosts may not hold which of its parts, and why. It is
-- asked about all parts, or about those that a word means.
--
-- The program is read once more, for its tokens. So nothing has to be kept for what does not ask.
use Rattle.std.specs.Prelude.{◌≡◌, ℕ, if◌then◌else◌, List, [], ◌∷◌, ◌++◌, codes, Option, Some, None}
use Rattle.std.specs.Option.{option_map}
use Rattle.js_base.specs.declared.status.Status.TheVariants.{Done}
use Rattle.js_base.specs.declared.text.TheConstants.{LINE_FEED}
use Rattle.jif_lex.specs.declared.token.Token.{Token}
use Rattle.jif_grammar.specs.DraftShapes.{DraftShape}
use Rattle.jif_tree.specs.Trees.{ProgramTree}
use Rattle.host_decl.specs.Hosts.{HostShape, HostsShape}
use Rattle.event_text.specs.Numbers.{is_plain_number}
use Rattle.need_labels.specs.Labelled.{Labelled}
use Rattle.place_rules.specs.declared.place_error.PlaceError.{PlaceError}
use Rattle.explain_texts.specs.Sheets.{SheetShape}
use Rattle.explain_texts.specs.Told.{ToldShape}
use Rattle.place_texts.specs.Lines.{parts_lines}
use Rattle.place_texts.specs.Meant.{meant, unheld_parts}
use Rattle.place_texts.specs.Parts.{PartShape, parts_of}
use Rattle.front_end.specs.PlacedSources.{labelled_source}
use Rattle.front_end.specs.Refusals as refusals
use Rattle.front_end.specs.Sources.{DraftAccepted, HostsRead, Lexed, Parsed, Source}
use Rattle.front_end.specs.Stages.{DueThen}
use Rattle.front_end.specs.Verdicts.{VerdictShape, Print, Refuse}
use Rattle.jifexplain.specs.Texts.{readable, sheet_of, told_of, unheld_told}

-- ---- words that mean parts

-- A plain number stands for a line of the program, and another word for a name. What is said of a word that means no
-- part of the program of this name:
abbrev pub no_part_text : (program word : List ℕ) → List ℕ
no_part_text program word =
    if is_plain_number word then codes "no statement begins on line " ++ (word ++ (codes " of " ++ program))
    else program ++ (codes " has no field or method " ++ word)

abbrev pub no_part : (program word : List ℕ) → VerdictShape
no_part program word = Refuse (refusals.InputExplained (no_part_text program word))

-- ---- what is told of parts

-- the parts asked about: all of the program, or those that the word means
abbrev pub asked_words : Option (List ℕ) → List ℕ
asked_words None = codes "each part"
asked_words (Some word) = if is_plain_number word then codes "what begins on line " ++ word else word

-- the line that stands where no other is due
abbrev pub held_line : Option (List ℕ) → List ℕ
held_line asked = codes "each host may hold " ++ (asked_words asked ++ LINE_FEED ∷ [])

abbrev pub lines_or : (other lines : List ℕ) → List ℕ
lines_or other [] = other
lines_or other (byte ∷ bytes) = byte ∷ bytes

-- a line for each of these parts and each host that may not hold it, or the one that each host may hold them
abbrev pub lines_told : SheetShape → Labelled → List HostShape → Option (List ℕ) → List PartShape → List ℕ
lines_told sheet labelled hosts asked parts = lines_or (held_line asked) (parts_lines sheet labelled hosts parts)

-- The lines are put out, or stand behind what is told of a part that no host may hold.
abbrev pub lines_verdict : (name text : List ℕ) → Option ToldShape → (lines : List ℕ) → VerdictShape
lines_verdict name text None lines = Print Done lines
lines_verdict name text (Some head) lines =
    told_of name text (record { at = head.at; message = head.message; lines = head.lines ++ lines })

-- ---- what is due

-- all parts of a program of which each has a host, or else the first that no host may hold
abbrev pub whole_parts : ProgramTree → Option PlaceError → List PartShape
whole_parts tree None = parts_of tree
whole_parts tree (Some why) = unheld_parts tree why

abbrev pub parts_verdict : (name text : List ℕ) → Option ToldShape → SheetShape → Labelled → List HostShape →
    (word : List ℕ) → List PartShape → VerdictShape
parts_verdict name text head sheet labelled hosts word [] = no_part name word
parts_verdict name text head sheet labelled hosts word (part ∷ parts) =
    lines_verdict name text head (lines_told sheet labelled hosts (Some word) (part ∷ parts))

-- with the head of what is told where no host may hold some part
abbrev pub places_verdict : (name text : List ℕ) → Option ToldShape → SheetShape → Labelled → List HostShape →
    Option PlaceError → (asked : Option (List ℕ)) → VerdictShape
places_verdict name text head sheet labelled hosts why None =
    lines_verdict name text head (lines_told sheet labelled hosts None (whole_parts sheet.tree why))
places_verdict name text head sheet labelled hosts why (Some word) =
    parts_verdict name text head sheet labelled hosts word (meant sheet.tree word)

abbrev pub head_told : List Token → DraftShape → Option PlaceError → Option ToldShape
head_told list draft why = option_map (unheld_told list draft) why

-- with the tokens, the draft and the accepted program with its hosts
abbrev pub source_verdict : (name text : List ℕ) (asked : Option (List ℕ)) → Option PlaceError → List Token →
    DraftShape → Source → VerdictShape
source_verdict name text asked why list draft source =
    places_verdict name text (head_told list draft why) (sheet_of list draft source.file source.tree)
    (labelled_source source) source.file.hosts why asked

abbrev pub SourcePlaced : (name p : List ℕ) (asked : Option (List ℕ)) → Option PlaceError → List Token → DraftShape →
    HostsShape → VerdictShape → Type 0
SourcePlaced name p asked why list draft file =
    DueThen (DraftAccepted file draft)
    (λ source verdict. verdict ≡ source_verdict name (readable p) asked why list draft source)

abbrev pub DraftPlaced : (name p h : List ℕ) (asked : Option (List ℕ)) → Option PlaceError → List Token → DraftShape →
    VerdictShape → Type 0
DraftPlaced name p h asked why list draft = DueThen (HostsRead h) (SourcePlaced name p asked why list draft)

abbrev pub TokensPlaced : (name p h : List ℕ) (asked : Option (List ℕ)) → Option PlaceError → List Token →
    VerdictShape → Type 0
TokensPlaced name p h asked why list = DueThen (Parsed list) (DraftPlaced name p h asked why list)

-- What is told of an accepted program of this name and these bytes with a host file, where it has its places or no host
-- may hold some part. A word that means no part is refused, and nothing else is told.
abbrev pub PlacesTold : (name p h : List ℕ) (asked : Option (List ℕ)) → Option PlaceError → VerdictShape → Type 0
PlacesTold name p h asked why = DueThen (Lexed p) (TokensPlaced name p h asked why)
