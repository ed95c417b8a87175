-- What an opener accepts of the strings that come to it, and what of that was sealed.
use Rattle.std.specs.Prelude.{◌≡◌, ◌≢◌, ℕ, List, [], ◌∷◌, ◌++◌, map, Result, Ok, Err, Some, slice_get, Contains}
use Rattle.link_seal.specs.declared.errors.OpenError.{OpenError}
use Rattle.link_seal.specs.Links.{LinkShape, after_one, sealed, CanSeal}
use Rattle.link_seal.specs.Opening.{opens}

-- a string that was accepted, and the frame that it was opened to
pub record Accepted : Type 0 where
  pub string : List ℕ
  pub frame : List ℕ

abbrev pub frames_of : List Accepted → List (List ℕ)
frames_of taken = map (λ one. one.frame) taken

-- by the answer to a string: what is accepted with it and behind it, or behind it alone
abbrev pub with_answer : List ℕ → Result (List ℕ) OpenError → List Accepted → List Accepted → List Accepted
with_answer string (Ok frame) behind otherwise = record { string = string; frame = frame } ∷ behind
with_answer string (Err why) behind otherwise = otherwise

-- the link goes on behind each string that is accepted, and stays as it is behind each that is refused
abbrev pub accepted : LinkShape → List (List ℕ) → List Accepted
accepted link [] = []
accepted link (string ∷ strings) =
    with_answer string (opens link string) (accepted (after_one link) strings) (accepted link strings)

-- the first of these, in their order
abbrev pub AreFirstFrames : List (List ℕ) → List (List ℕ) → Type 0
AreFirstFrames first frames = (rest : List (List ℕ)) × (first ++ rest ≡ frames)

-- A string with the tag of its text, as if it were a frame that was sealed for the link. But it is none of those that
-- were sealed, each with its place as its number.
pub record IsForged (link : LinkShape) (frames : List (List ℕ)) (string : List ℕ) : Type 0 where
  pub number : ℕ
  pub frame : List ℕ
  pub can : CanSeal number frame
  pub is_tagged : string ≡ sealed link.key link.from link.to number frame
  pub is_other : (place : ℕ) (one : List ℕ) → slice_get frames place ≡ Some one →
      string ≢ sealed link.key link.from link.to place one

abbrev pub SomeForged : LinkShape → List (List ℕ) → List Accepted → Type 0
SomeForged link frames taken = (one : Accepted) × Contains taken one × IsForged link frames one.string
