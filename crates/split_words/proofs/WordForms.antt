-- Whether words ask for a command can be decided.
use Rattle.std.proofs.Common.{◌≡◌, ◌≢◌, ◌⊎◌, ℕ, ◌<◌, List, [], ◌∷◌, inl, inr, ⊎_elim, sym, ap, ◌∙◌, arith}
use Rattle.std.proofs.Common.{refl}
use Rattle.std.specs.Prelude.{codes}
use Rattle.std.specs.Fmt.{decimal}
use Rattle.std.specs.Str.Parse.{digits_value}
use Rattle.std.proofs.lemmas.Fmt.{digits_value-decimal}
use Rattle.js_base.proofs.Decisions.{Decided, same_text, less_than}
use Rattle.split_words.specs.Commands.{CommandShape, Check, Run, Replay, Drive, Compare, Split, Make}
use Rattle.split_words.specs.Commands.{IsCommand, IsMadeCount, HaveNoForm, words_of}
use Rattle.front_end.specs.StepCounts.{IsStepCount}
use Rattle.front_end.specs.declared.step_counts.TheConstants.{STEPS}
use Rattle.split_words.specs.declared.words.TheConstants.{MADE_STATEMENTS}
use Rattle.front_end.proofs.StepCounts.{own, small}
use Rattle.split_words.proofs.MadeCounts.{none_made, more_made}
use Rattle.split_words.proofs.CommandWords.{no_count, no_make, no_steps, no_verb}

-- the words ask for this command
abbrev pub AskFor : List (List ℕ) → Type 0
AskFor words = (command : CommandShape) × IsCommand command × (words ≡ words_of command)

-- ---- numbers of steps

-- what writes a number of steps
abbrev IsCountWord : List ℕ → Type 0
IsCountWord word = (steps : ℕ) × IsStepCount steps × (word ≡ decimal steps)

-- it writes the value of its digits
same_value : (word : List ℕ) (steps : ℕ) → IsStepCount steps → word ≡ decimal steps → digits_value 10 word ≡ steps
same_value word steps is same =
    ap (digits_value 10) same ∙ digits_value-decimal own steps (small steps is)

count_by_value : (word : List ℕ) → Decided (digits_value 10 word < 1) → Decided (STEPS < digits_value 10 word) →
    Decided (word ≡ decimal (digits_value 10 word)) →
    IsCountWord word ⊎ ((steps : ℕ) → IsStepCount steps → word ≢ decimal steps)
count_by_value word (inl none) many written =
    inr (λ steps is same. omega (arith, none, is.least, same_value word steps is same))
count_by_value word (inr some) (inl many) written =
    inr (λ steps is same. omega (arith, many, is.most, same_value word steps is same))
count_by_value word (inr some) (inr few) (inl written) =
    inl (digits_value 10 word, record { least = omega (arith, some); most = omega (arith, few) }, written)
count_by_value word (inr some) (inr few) (inr other) =
    inr (λ steps is same. other (same ∙ ap decimal (sym (same_value word steps is same))))

count_word : (word : List ℕ) → IsCountWord word ⊎ ((steps : ℕ) → IsStepCount steps → word ≢ decimal steps)
count_word word =
    let value = digits_value 10 word in
    count_by_value word (less_than value 1) (less_than STEPS value) (same_text word (decimal value))

-- what writes a number of statements
abbrev IsMadeWord : List ℕ → Type 0
IsMadeWord word = (statements : ℕ) × IsMadeCount statements × (word ≡ decimal statements)

made_by_count : (word : List ℕ) → IsCountWord word ⊎ ((steps : ℕ) → IsStepCount steps → word ≢ decimal steps) →
    IsMadeWord word ⊎ ((statements : ℕ) → IsMadeCount statements → word ≢ decimal statements)
made_by_count word (inr none) = inr (none_made word none)
made_by_count word (inl (steps, count, written)) =
    ⊎_elim
    (λ many. inr (more_made word steps count written many))
    (λ few. inl (steps, record { least = count.least; most = omega (arith, few) }, written))
    (less_than MADE_STATEMENTS steps)

-- ---- so many words

pub none_asked : HaveNoForm []
none_asked (Check program hosts) is same = let never : ⊥ = cc in never
none_asked (Run program hosts start steps) is same = let never : ⊥ = cc in never
none_asked (Replay program hosts events) is same = let never : ⊥ = cc in never
none_asked (Drive program hosts start events) is same = let never : ⊥ = cc in never
none_asked (Compare program hosts one other) is same = let never : ⊥ = cc in never
none_asked (Split program hosts out) is same = let never : ⊥ = cc in never
none_asked (Make statements) is same = let never : ⊥ = cc in never

one_asked : (a : List ℕ) → HaveNoForm (a ∷ [])
one_asked a (Check program hosts) is same = let never : ⊥ = cc in never
one_asked a (Run program hosts start steps) is same = let never : ⊥ = cc in never
one_asked a (Replay program hosts events) is same = let never : ⊥ = cc in never
one_asked a (Drive program hosts start events) is same = let never : ⊥ = cc in never
one_asked a (Compare program hosts one other) is same = let never : ⊥ = cc in never
one_asked a (Split program hosts out) is same = let never : ⊥ = cc in never
one_asked a (Make statements) is same = let never : ⊥ = cc in never

three_asked : (a b c : List ℕ) → a ≢ codes "check" → HaveNoForm (a ∷ b ∷ c ∷ [])
three_asked a b c not (Check program hosts) is same = not (let first : a ≡ codes "check" = cc in first)
three_asked a b c not (Run program hosts start steps) is same = let never : ⊥ = cc in never
three_asked a b c not (Replay program hosts events) is same = let never : ⊥ = cc in never
three_asked a b c not (Drive program hosts start events) is same = let never : ⊥ = cc in never
three_asked a b c not (Compare program hosts one other) is same = let never : ⊥ = cc in never
three_asked a b c not (Split program hosts out) is same = let never : ⊥ = cc in never
three_asked a b c not (Make statements) is same = let never : ⊥ = cc in never

four_asked : (a b c d : List ℕ) → a ≢ codes "replay" → a ≢ codes "split" → HaveNoForm (a ∷ b ∷ c ∷ d ∷ [])
four_asked a b c d not neither (Check program hosts) is same = let never : ⊥ = cc in never
four_asked a b c d not neither (Run program hosts start steps) is same = let never : ⊥ = cc in never
four_asked a b c d not neither (Replay program hosts events) is same =
    not (let first : a ≡ codes "replay" = cc in first)
four_asked a b c d not neither (Drive program hosts start events) is same = let never : ⊥ = cc in never
four_asked a b c d not neither (Compare program hosts one other) is same = let never : ⊥ = cc in never
four_asked a b c d not neither (Split program hosts out) is same =
    neither (let first : a ≡ codes "split" = cc in first)
four_asked a b c d not neither (Make statements) is same = let never : ⊥ = cc in never

six_asked : (a b c d e f : List ℕ) (more : List (List ℕ)) → HaveNoForm (a ∷ b ∷ c ∷ d ∷ e ∷ f ∷ more)
six_asked a b c d e f more (Check program hosts) is same = let never : ⊥ = cc in never
six_asked a b c d e f more (Run program hosts start steps) is same = let never : ⊥ = cc in never
six_asked a b c d e f more (Replay program hosts events) is same = let never : ⊥ = cc in never
six_asked a b c d e f more (Drive program hosts start events) is same = let never : ⊥ = cc in never
six_asked a b c d e f more (Compare program hosts one other) is same = let never : ⊥ = cc in never
six_asked a b c d e f more (Split program hosts out) is same = let never : ⊥ = cc in never
six_asked a b c d e f more (Make statements) is same = let never : ⊥ = cc in never

-- ---- forms

two_form : (a b : List ℕ) → Decided (a ≡ codes "make") →
    IsMadeWord b ⊎ ((statements : ℕ) → IsMadeCount statements → b ≢ decimal statements) →
    AskFor (a ∷ b ∷ []) ⊎ HaveNoForm (a ∷ b ∷ [])
two_form a b makes (inr none) = inr (no_count a b none)
two_form a b (inl is) (inl (statements, count, written)) = inl (Make statements, count, cc)
two_form a b (inr not) (inl count) = inr (no_make a b not)

four_form : (a b c d : List ℕ) → Decided (a ≡ codes "replay") → Decided (a ≡ codes "split") →
    AskFor (a ∷ b ∷ c ∷ d ∷ []) ⊎ HaveNoForm (a ∷ b ∷ c ∷ d ∷ [])
four_form a b c d (inl is) splits = inl (Replay b c d, tt, ap (λ x. x ∷ b ∷ c ∷ d ∷ []) is)
four_form a b c d (inr not) (inl is) = inl (Split b c d, tt, ap (λ x. x ∷ b ∷ c ∷ d ∷ []) is)
four_form a b c d (inr not) (inr neither) = inr (four_asked a b c d not neither)

counted_form : (a b c d e : List ℕ) → a ≢ codes "compare" → Decided (a ≡ codes "run") →
    Decided (a ≡ codes "drive") → IsCountWord e ⊎ ((steps : ℕ) → IsStepCount steps → e ≢ decimal steps) →
    AskFor (a ∷ b ∷ c ∷ d ∷ e ∷ []) ⊎ HaveNoForm (a ∷ b ∷ c ∷ d ∷ e ∷ [])
counted_form a b c d e other runs drives (inr none) =
    inr (no_steps (a ∷ b ∷ c ∷ d ∷ e ∷ []) a b c d e e refl other refl none)
counted_form a b c d e other (inl is) drives (inl (steps, count, written)) = inl (Run b c d steps, count, cc)
counted_form a b c d e other (inr not) (inl is) (inl (steps, count, written)) = inl (Drive b c d steps, count, cc)
counted_form a b c d e other (inr not) (inr neither) (inl count) = inr (no_verb a b c d e other not neither)

five_form : (a b c d e : List ℕ) → Decided (a ≡ codes "compare") →
    AskFor (a ∷ b ∷ c ∷ d ∷ e ∷ []) ⊎ HaveNoForm (a ∷ b ∷ c ∷ d ∷ e ∷ [])
five_form a b c d e (inl is) = inl (Compare b c d e, tt, ap (λ x. x ∷ b ∷ c ∷ d ∷ e ∷ []) is)
five_form a b c d e (inr not) =
    counted_form a b c d e not (same_text a (codes "run")) (same_text a (codes "drive")) (count_word e)

pub words_form : (words : List (List ℕ)) → AskFor words ⊎ HaveNoForm words
words_form [] = inr none_asked
words_form (a ∷ []) = inr (one_asked a)
words_form (a ∷ b ∷ []) = two_form a b (same_text a (codes "make")) (made_by_count b (count_word b))
words_form (a ∷ b ∷ c ∷ []) =
    ⊎_elim (λ is. inl (Check b c, tt, ap (λ x. x ∷ b ∷ c ∷ []) is)) (λ not. inr (three_asked a b c not))
    (same_text a (codes "check"))
words_form (a ∷ b ∷ c ∷ d ∷ []) = four_form a b c d (same_text a (codes "replay")) (same_text a (codes "split"))
words_form (a ∷ b ∷ c ∷ d ∷ e ∷ []) = five_form a b c d e (same_text a (codes "compare"))
words_form (a ∷ b ∷ c ∷ d ∷ e ∷ f ∷ more) = inr (six_asked a b c d e f more)
