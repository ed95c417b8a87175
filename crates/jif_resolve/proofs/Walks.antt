-- A walk over the statements of a block: the place it has come to, and the faults it has found.
use Rattle.std.proofs.Common.{◌≡◌, ℕ, zero, suc, ◌+◌, ◌-◌, ◌<◌, ◌≤◌, List, [], ◌∷◌, ◌++◌, map, length, drop}
use Rattle.std.proofs.Common.{get_or, refl}
use Rattle.std.proofs.Common.{Bool, Option, Some, None, Vec, Global}
use Rattle.std.proofs.Common.{ap, sym, ◌∙◌, subst, arith, append_assoc}
use Rattle.std.specs.List.{flat_map}
use Rattle.std.specs.Option.{option_map, is_some}
use Rattle.std.proofs.lemmas.List.{append-nil, map-append, length-append, length-map, drop_all}
use Rattle.std.proofs.Math.Seq.{drop-cons}
use Rattle.jif_tree.specs.declared.draft.ExprDraft.{ExprDraft}
use Rattle.jif_tree.specs.declared.draft.NameDraft.{NameDraft}
use Rattle.jif_tree.specs.declared.draft.StmtKindDraft as kind
use Rattle.jif_tree.specs.declared.draft.StmtKindDraft.{StmtKindDraft}
use Rattle.jif_tree.specs.declared.draft.StmtDraft.{StmtDraft}
use Rattle.jif_grammar.proofs.DraftRows.{if_shape, while_shape}
use Rattle.jif_grammar.specs.DraftShapes.{NameShape, Start, BlockShape, end_shape, declaration_shape, assignment_shape}
use Rattle.jif_grammar.specs.DraftShapes.{element_assignment_shape, branch_shape, loop_shape, call_shape, return_shape}
use Rattle.jif_grammar.specs.DraftShapes.{name_shape, expr_shape, statement_shape, block_shape}
use Rattle.jif_resolve.specs.declared.fault.Fault.{Fault}
use Rattle.jif_resolve.specs.Counts.{LocalShape, locals_in, statements_in, calls_in}
use Rattle.jif_resolve.specs.Places.{Setting, Known, Place, next_variable, after_statement, after_call}
use Rattle.jif_resolve.specs.Places.{after_declaration, after_block, meaning_at}
use Rattle.jif_resolve.specs.Faults.{called_faults, into_faults, is_kept, expr_faults, call_faults, block_faults}
use Rattle.jif_resolve.specs.First.{with_faults}
use Rattle.jif_resolve.specs.KnownNames.{IsCounted, left}
use Rattle.jif_resolve.specs.Walks.{behind}
use Rattle.jif_resolve.proofs.Sooner.{faults_joined}

-- ---- calls

kept_is : (into : Option NameDraft) → is_some into ≡ is_kept (option_map name_shape into)
kept_is None = refl
kept_is (Some name) = refl

pub call_joined : (s : Setting) (p : Place) (name : NameShape) (args : List ExprDraft) (into : Option NameDraft)
    (first called kept found : Option Fault) (keeps : Bool) (count : ℕ) → keeps ≡ is_some into →
    count ≡ length args →
    called ≡ with_faults first (called_faults name.at keeps count (meaning_at s p name.text)) →
    kept ≡ with_faults called (into_faults s p (option_map name_shape into)) →
    found ≡ with_faults kept (flat_map (expr_faults s p) (map expr_shape args)) →
    found ≡ with_faults first (call_faults s p name (map expr_shape args) (option_map name_shape into))
call_joined s p name args into first called kept found keeps count keeps_is count_is one two three =
    let inner = into_faults s p (option_map name_shape into) in
    let last = flat_map (expr_faults s p) (map expr_shape args) in
    let head : Bool → ℕ → List Fault = λ b n. called_faults name.at b n (meaning_at s p name.text) in
    let long : count ≡ length (map expr_shape args) = count_is ∙ sym (length-map args expr_shape) in
    three ∙ ap (λ f. with_faults f last) (two ∙ ap (λ f. with_faults f inner) one)
    ∙ ap (λ f. with_faults f last) (sym (faults_joined first (head keeps count) inner))
    ∙ sym (faults_joined first (head keeps count ++ inner) last)
    ∙ ap (λ b. with_faults first (head b count ++ inner ++ last)) (keeps_is ∙ kept_is into)
    ∙ ap (λ n. with_faults first (head (is_kept (option_map name_shape into)) n ++ inner ++ last)) long

-- ---- places

abbrev place_of : ℕ → List (List ℕ) → List Known → ℕ → ℕ → Place
place_of first earlier known statement site =
    record { first = first; earlier = earlier; known = known; statement = statement; site = site }

same_place : (first : ℕ) (e f : List (List ℕ)) (k l : List Known) (s t c d : ℕ) → e ≡ f → k ≡ l → s ≡ t → c ≡ d →
    place_of first e k s c ≡ place_of first f l t d
same_place first e f k l s t c d earlier known statement site =
    ap (λ x. place_of first x k s c) earlier ∙ ap (λ x. place_of first f x s c) known
    ∙ ap (λ x. place_of first f l x c) statement ∙ ap (λ x. place_of first f l t x) site

abbrev names : List LocalShape → List (List ℕ)
names locals = map (λ local. local.name.text) locals

names_of_two : (e : List (List ℕ)) (a b : List LocalShape) → e ++ names a ++ names b ≡ e ++ names (a ++ b)
names_of_two e a b =
    append_assoc e (names a) (names b) ∙ ap (λ x. e ++ x) (sym (map-append (λ local. local.name.text) a b))

names_of_three : (e : List (List ℕ)) (a b c : List LocalShape) →
    e ++ names a ++ names b ++ names c ≡ e ++ names (a ++ b ++ c)
names_of_three e a b c = ap (λ x. x ++ names c) (names_of_two e a b) ∙ names_of_two e (a ++ b) c

drop_head : (m : ℕ) (x : Known) (xs : List Known) → m ≤ length xs →
    drop (length (x ∷ xs) - m) (x ∷ xs) ≡ drop (length xs - m) xs
drop_head m x xs less =
    let same : length (x ∷ xs) - m ≡ suc (length xs - m) = omega arith in
    ap (λ n. drop n (x ∷ xs)) same

-- a statement that declares nothing and calls nothing
plain_step : (m : ℕ) (p : Place) (rest : BlockShape) →
    left m (after_block (after_statement p) rest)
    ≡ left m (record p {
      earlier = p.earlier ++ names (locals_in rest);
      statement = p.statement + (1 + statements_in rest);
      site = p.site + calls_in rest;
    })
plain_step m p rest =
    same_place _ _ _ _ _ _ _ _ _ refl refl
    (let same : p.statement + 1 + statements_in rest ≡ p.statement + (1 + statements_in rest) = omega arith in
    same) refl

-- a block is left behind its last statement
left_behind : (m : ℕ) (p : Place) (b : BlockShape) → m ≤ length p.known →
    left m (behind p b) ≡ left m (after_block p b)
left_behind m p end_shape less =
    let one : p.statement ≡ p.statement + 0 = omega arith in
    let two : p.site ≡ p.site + 0 = omega arith in
    same_place _ _ _ _ _ _ _ _ _ (sym (append-nil p.earlier)) refl one two
left_behind m p (declaration_shape start label name value rest) less =
    let q = after_declaration p name in
    let more : m ≤ length q.known = omega arith in
    let one : p.statement + 1 + statements_in rest ≡ p.statement + (1 + statements_in rest) = omega arith in
    left_behind m q rest more
    ∙ same_place _ _ _ _ _ _ _ _ _ (append_assoc p.earlier (name.text ∷ []) (names (locals_in rest)))
    (drop_head m (record { name = name.text; variable = next_variable p }) p.known less) one refl
left_behind m p (assignment_shape start name value rest) less =
    left_behind m (after_statement p) rest less ∙ plain_step m p rest
left_behind m p (element_assignment_shape start name index value rest) less =
    left_behind m (after_statement p) rest less ∙ plain_step m p rest
left_behind m p (branch_shape start guard first second rest) less =
    let q = after_block (after_block (after_statement p) first) second in
    let one : p.statement + 1 + statements_in first + statements_in second + statements_in rest
    ≡ p.statement + (1 + statements_in first + statements_in second + statements_in rest) = omega arith in
    let two : p.site + calls_in first + calls_in second + calls_in rest
    ≡ p.site + (calls_in first + calls_in second + calls_in rest) = omega arith in
    left_behind m q rest less
    ∙ same_place _ _ _ _ _ _ _ _ _ (names_of_three p.earlier (locals_in first) (locals_in second) (locals_in rest))
    refl one two
left_behind m p (loop_shape start guard body rest) less =
    let q = after_block (after_statement p) body in
    let one : p.statement + 1 + statements_in body + statements_in rest
    ≡ p.statement + (1 + statements_in body + statements_in rest) = omega arith in
    let two : p.site + calls_in body + calls_in rest ≡ p.site + (calls_in body + calls_in rest) = omega arith in
    left_behind m q rest less
    ∙ same_place _ _ _ _ _ _ _ _ _ (names_of_two p.earlier (locals_in body) (locals_in rest)) refl one two
left_behind m p (call_shape start name args into rest) less =
    let q = after_call p in
    let one : p.statement + 1 + statements_in rest ≡ p.statement + (1 + statements_in rest) = omega arith in
    let two : p.site + 1 + calls_in rest ≡ p.site + (1 + calls_in rest) = omega arith in
    left_behind m q rest less ∙ same_place _ _ _ _ _ _ _ _ _ refl refl one two
left_behind m p (return_shape start value rest) less =
    left_behind m (after_statement p) rest less ∙ plain_step m p rest

left_at_end : (p : Place) (b : BlockShape) → left (length p.known) (behind p b) ≡ after_block p b
left_at_end p b =
    let q = after_block p b in
    let less : length p.known ≤ length p.known = omega arith in
    let none : length p.known - length p.known ≡ 0 = omega arith in
    left_behind (length p.known) p b less
    ∙ ap (λ n. place_of q.first q.earlier (drop n q.known) q.statement q.site) none

-- ---- counts

same_counts : (p q : Place) → left 0 p ≡ left 0 q → IsCounted p → IsCounted q
same_counts p q same counted =
    let one : p.first + length p.earlier ≡ q.first + length q.earlier = ap (λ x. x.first + length x.earlier) same in
    let two : p.statement ≡ q.statement = ap (λ x. x.statement) same in
    let three : p.site ≡ q.site = ap (λ x. x.site) same in
    let a = counted.variables in
    let b = counted.statements in
    let c = counted.sites in
    record { variables = omega arith; statements = omega arith; sites = omega arith }

pub counted_before : (p : Place) (b : BlockShape) → IsCounted (after_block p b) → IsCounted p
counted_before p b counted =
    let long = length-append p.earlier (names (locals_in b)) in
    let one = counted.variables in
    let two = counted.statements in
    let three = counted.sites in
    record { variables = omega (arith, long); statements = omega arith; sites = omega arith }

counted_behind : (p : Place) (b : BlockShape) → IsCounted (after_block p b) → IsCounted (behind p b)
counted_behind p b = same_counts (after_block p b) (behind p b) (sym (left_behind 0 p b (omega arith)))

counted_from : (p : Place) (b : BlockShape) → IsCounted (behind p b) → IsCounted p
counted_from p b counted = counted_before p b (same_counts (behind p b) (after_block p b)
    (left_behind 0 p b (omega arith)) counted)

-- ---- statements one by one

pub next_place : (p : Place) (k : StmtKindDraft) (start : Start) (rest : BlockShape) →
    behind p (statement_shape k start rest) ≡ behind (behind p (statement_shape k start end_shape)) rest
next_place p (kind.Declare label name value) start rest = refl
next_place p (kind.Assign name value) start rest = refl
next_place p (kind.AssignElement name index value) start rest = refl
next_place p (kind.If' guard m first n second) start rest = refl
next_place p (kind.While' guard m body) start rest = refl
next_place p (kind.Call name args into) start rest = refl
next_place p (kind.Return value) start rest = refl

pub next_faults : (s : Setting) (p : Place) (k : StmtKindDraft) (start : Start) (rest : BlockShape) →
    block_faults s p (statement_shape k start rest)
    ≡ block_faults s p (statement_shape k start end_shape)
    ++ block_faults s (behind p (statement_shape k start end_shape)) rest
next_faults s p (kind.Declare label name value) start rest = simp append-nil refl
next_faults s p (kind.Assign name value) start rest = simp append-nil refl
next_faults s p (kind.AssignElement name index value) start rest = simp append-nil refl
next_faults s p (kind.If' guard m first n second) start rest = simp append-nil refl
next_faults s p (kind.While' guard m body) start rest = simp append-nil refl
next_faults s p (kind.Call name args into) start rest = simp append-nil refl
next_faults s p (kind.Return value) start rest = simp append-nil refl

-- what is left of a list at a place
pub at_place : {X : Type 0} (xs : List X) (i : ℕ) (x : X) → i < length xs → x ≡ get_or xs i x →
    drop i xs ≡ x ∷ drop (i + 1) xs
at_place xs i x less read =
    let next : suc i ≡ i + 1 = omega arith in
    drop-cons xs i x less ∙ ap (λ y. y ∷ drop (suc i) xs) (sym read) ∙ ap (λ n. x ∷ drop n xs) next

-- what is found in a block where the walk has come so far: with what is left it makes the whole
pub record WalkedSoFar (s : Setting) (start : Place) (first : Option Fault) (block : List StmtDraft) (i : ℕ)
    (p : Place) (found : Option Fault) : Type 0 where
  pub faults : with_faults found (block_faults s p (block_shape (drop i block)))
      ≡ with_faults first (block_faults s start (block_shape block))
  pub place : behind p (block_shape (drop i block)) ≡ behind start (block_shape block)

pub walk_counted : {s : Setting} {start : Place} {first : Option Fault} {block : List StmtDraft} {i : ℕ} {p : Place}
    {found : Option Fault} (x : StmtDraft) → IsCounted (after_block start (block_shape block)) →
    WalkedSoFar s start first block i p found → i < length block → x ≡ get_or block i x →
    IsCounted (behind p (block_shape (x ∷ [])))
walk_counted {s} {start} {first} {block} {i} {p} {found} x counted so_far less read =
    let here = behind p (block_shape (x ∷ [])) in
    let rest = block_shape (drop (i + 1) block) in
    let same : behind start (block_shape block) ≡ behind here rest =
    sym so_far.place ∙ ap (λ ys. behind p (block_shape ys)) (at_place block i x less read)
    ∙ next_place p x.kind _ rest in
    counted_from here rest (subst IsCounted same (counted_behind start (block_shape block) counted))

pub walk_goes_on : {s : Setting} {start : Place} {first : Option Fault} {block : List StmtDraft} {i : ℕ} {p : Place}
    {found : Option Fault} (x : StmtDraft) (next : Place) (sooner : Option Fault) →
    WalkedSoFar s start first block i p found → i < length block → x ≡ get_or block i x →
    next ≡ behind p (block_shape (x ∷ [])) →
    sooner ≡ with_faults found (block_faults s p (block_shape (x ∷ []))) →
    WalkedSoFar s start first block (i + 1) next sooner
walk_goes_on {s} {start} {first} {block} {i} {p} {found} x next sooner so_far less read place faults =
    let here = behind p (block_shape (x ∷ [])) in
    let rest = block_shape (drop (i + 1) block) in
    let part = block_faults s p (block_shape (x ∷ [])) in
    let step = at_place block i x less read in
    record {
      faults = ap (λ q. with_faults sooner (block_faults s q rest)) place
          ∙ ap (λ f. with_faults f (block_faults s here rest)) faults
          ∙ sym (faults_joined found part (block_faults s here rest))
          ∙ ap (with_faults found) (sym (next_faults s p x.kind _ rest))
          ∙ ap (λ ys. with_faults found (block_faults s p (block_shape ys))) (sym step)
          ∙ so_far.faults;
      place = ap (λ q. behind q rest) place ∙ sym (next_place p x.kind _ rest)
          ∙ ap (λ ys. behind p (block_shape ys)) (sym step) ∙ so_far.place;
    }

pub walk_left : {s : Setting} {start : Place} {first : Option Fault} {block : List StmtDraft} {i : ℕ} {p : Place}
    {found : Option Fault} → WalkedSoFar s start first block i p found → length block ≤ i →
    left (length start.known) p ≡ after_block start (block_shape block)
walk_left {s} {start} {first} {block} {i} {p} {found} so_far over =
    ap (left (length start.known))
    (ap (λ ys. behind p (block_shape ys)) (sym (drop_all i block over)) ∙ so_far.place)
    ∙ left_at_end start (block_shape block)

-- ---- the number of statements

next_count : (k : StmtKindDraft) (start : Start) (rest : BlockShape) →
    statements_in (statement_shape k start rest)
    ≡ statements_in (statement_shape k start end_shape) + statements_in rest
next_count (kind.Declare label name value) start rest = omega arith
next_count (kind.Assign name value) start rest = omega arith
next_count (kind.AssignElement name index value) start rest = omega arith
next_count (kind.If' guard m first n second) start rest = omega arith
next_count (kind.While' guard m body) start rest = omega arith
next_count (kind.Call name args into) start rest = omega arith
next_count (kind.Return value) start rest = omega arith

-- a statement of a block has no more statements in it than the block
pub one_count : (block : List StmtDraft) (i : ℕ) (x : StmtDraft) → i < length block → x ≡ get_or block i x →
    statements_in (block_shape (x ∷ [])) ≤ statements_in (block_shape block)
one_count [] i x less read = absurd (omega arith)
one_count (y ∷ ys) zero x less read =
    let same : statements_in (block_shape (x ∷ [])) ≡ statements_in (block_shape (y ∷ [])) =
    ap (λ z. statements_in (block_shape (z ∷ []))) read in
    let all = next_count y.kind (record { at = y.at; line = y.line }) (block_shape ys) in
    omega (arith, same, all)
one_count (y ∷ ys) (suc i) x less read =
    let inner : i < length ys = omega arith in
    let later = one_count ys i x inner read in
    let all = next_count y.kind (record { at = y.at; line = y.line }) (block_shape ys) in
    omega (arith, later, all)

-- ---- statements with blocks

abbrev begin_of : StmtDraft → Start
begin_of x = record { at = x.at; line = x.line }

-- an `if` alone, and a `while` alone
abbrev pub if_alone : StmtDraft → ExprDraft → List StmtDraft → List StmtDraft → BlockShape
if_alone x guard ys zs = branch_shape (begin_of x) (expr_shape guard) (block_shape ys) (block_shape zs) end_shape

abbrev pub while_alone : StmtDraft → ExprDraft → List StmtDraft → BlockShape
while_alone x guard ys = loop_shape (begin_of x) (expr_shape guard) (block_shape ys) end_shape

pub is_if : (x : StmtDraft) (guard : ExprDraft) (first second : Vec StmtDraft Global) (ys zs : List StmtDraft) →
    x.kind ≡ kind.If guard first second → ys ≡ first.items → zs ≡ second.items →
    block_shape (x ∷ []) ≡ if_alone x guard ys zs
is_if x guard first second ys zs is one two =
    ap (λ k. statement_shape k (begin_of x) end_shape) is
    ∙ if_shape guard first second (begin_of x) end_shape
    ∙ ap (λ l. if_alone x guard l second.items) (sym one)
    ∙ ap (λ l. if_alone x guard ys l) (sym two)

pub is_while : (x : StmtDraft) (guard : ExprDraft) (body : Vec StmtDraft Global) (ys : List StmtDraft) →
    x.kind ≡ kind.While guard body → ys ≡ body.items → block_shape (x ∷ []) ≡ while_alone x guard ys
is_while x guard body ys is one =
    ap (λ k. statement_shape k (begin_of x) end_shape) is ∙ while_shape guard body (begin_of x) end_shape
    ∙ ap (while_alone x guard) (sym one)

-- the blocks of a statement have fewer statements in them
pub if_count : (x : StmtDraft) (guard : ExprDraft) (ys zs : List StmtDraft) →
    block_shape (x ∷ []) ≡ if_alone x guard ys zs →
    statements_in (block_shape (x ∷ [])) ≡ 1 + statements_in (block_shape ys) + statements_in (block_shape zs) + 0
if_count x guard ys zs is = ap statements_in is

pub while_count : (x : StmtDraft) (guard : ExprDraft) (ys : List StmtDraft) →
    block_shape (x ∷ []) ≡ while_alone x guard ys →
    statements_in (block_shape (x ∷ [])) ≡ 1 + statements_in (block_shape ys) + 0
while_count x guard ys is = ap statements_in is

pub first_counted : (p q : Place) (x : StmtDraft) (guard : ExprDraft) (ys zs : List StmtDraft) →
    block_shape (x ∷ []) ≡ if_alone x guard ys zs → q ≡ after_statement p →
    IsCounted (behind p (block_shape (x ∷ []))) → IsCounted (after_block q (block_shape ys))
first_counted p q x guard ys zs is one counted =
    let all = subst (λ b. IsCounted (behind p b)) is counted in
    let inside = after_block (after_statement p) (block_shape ys) in
    subst (λ y. IsCounted (after_block y (block_shape ys))) (sym one) (counted_before inside (block_shape zs) all)

pub second_counted : (p q r : Place) (x : StmtDraft) (guard : ExprDraft) (ys zs : List StmtDraft) →
    block_shape (x ∷ []) ≡ if_alone x guard ys zs → q ≡ after_statement p → r ≡ after_block q (block_shape ys) →
    IsCounted (behind p (block_shape (x ∷ []))) → IsCounted (after_block r (block_shape zs))
second_counted p q r x guard ys zs is one two counted =
    let all = subst (λ b. IsCounted (behind p b)) is counted in
    let place : r ≡ after_block (after_statement p) (block_shape ys) =
    two ∙ ap (λ y. after_block y (block_shape ys)) one in
    subst (λ y. IsCounted (after_block y (block_shape zs))) (sym place) all

pub if_place : (p q r : Place) (x : StmtDraft) (guard : ExprDraft) (ys zs : List StmtDraft) →
    block_shape (x ∷ []) ≡ if_alone x guard ys zs → q ≡ after_statement p → r ≡ after_block q (block_shape ys) →
    after_block r (block_shape zs) ≡ behind p (block_shape (x ∷ []))
if_place p q r x guard ys zs is one two =
    ap (λ y. after_block y (block_shape zs)) (two ∙ ap (λ y. after_block y (block_shape ys)) one)
    ∙ ap (behind p) (sym is)

pub if_faults : (s : Setting) (p q r : Place) (x : StmtDraft) (guard : ExprDraft) (ys zs : List StmtDraft)
    (first guarded found : Option Fault) → block_shape (x ∷ []) ≡ if_alone x guard ys zs → q ≡ after_statement p →
    r ≡ after_block q (block_shape ys) → guarded ≡ with_faults first (expr_faults s p (expr_shape guard)) →
    found ≡ with_faults guarded (block_faults s q (block_shape ys)) →
    with_faults found (block_faults s r (block_shape zs)) ≡ with_faults first (block_faults s p (block_shape (x ∷ [])))
if_faults s p q r x guard ys zs first guarded found is one two in_guard in_first =
    let g = expr_faults s p (expr_shape guard) in
    let inside = after_statement p in
    let between = after_block inside (block_shape ys) in
    let y = block_faults s inside (block_shape ys) in
    let z = block_faults s between (block_shape zs) in
    let at_first : found ≡ with_faults (with_faults first g) y =
    in_first ∙ ap (λ l. with_faults guarded (block_faults s l (block_shape ys))) one
    ∙ ap (λ f. with_faults f y) in_guard in
    let at_second : r ≡ between = two ∙ ap (λ l. after_block l (block_shape ys)) one in
    ap (λ l. with_faults found (block_faults s l (block_shape zs))) at_second
    ∙ ap (λ f. with_faults f z) (at_first ∙ sym (faults_joined first g y))
    ∙ sym (faults_joined first (g ++ y) z)
    ∙ ap (with_faults first) (sym (append-nil (g ++ y ++ z)))
    ∙ ap (λ b. with_faults first (block_faults s p b)) (sym is)

pub body_counted : (p q : Place) (x : StmtDraft) (guard : ExprDraft) (ys : List StmtDraft) →
    block_shape (x ∷ []) ≡ while_alone x guard ys → q ≡ after_statement p →
    IsCounted (behind p (block_shape (x ∷ []))) → IsCounted (after_block q (block_shape ys))
body_counted p q x guard ys is one counted =
    let all = subst (λ b. IsCounted (behind p b)) is counted in
    subst (λ y. IsCounted (after_block y (block_shape ys))) (sym one) all

pub while_place : (p q : Place) (x : StmtDraft) (guard : ExprDraft) (ys : List StmtDraft) →
    block_shape (x ∷ []) ≡ while_alone x guard ys → q ≡ after_statement p →
    after_block q (block_shape ys) ≡ behind p (block_shape (x ∷ []))
while_place p q x guard ys is one =
    ap (λ y. after_block y (block_shape ys)) one ∙ ap (behind p) (sym is)

pub while_faults : (s : Setting) (p q : Place) (x : StmtDraft) (guard : ExprDraft) (ys : List StmtDraft)
    (first guarded : Option Fault) → block_shape (x ∷ []) ≡ while_alone x guard ys → q ≡ after_statement p →
    guarded ≡ with_faults first (expr_faults s p (expr_shape guard)) →
    with_faults guarded (block_faults s q (block_shape ys)) ≡ with_faults first
    (block_faults s p (block_shape (x ∷ [])))
while_faults s p q x guard ys first guarded is one in_guard =
    let g = expr_faults s p (expr_shape guard) in
    let y = block_faults s (after_statement p) (block_shape ys) in
    ap (λ l. with_faults guarded (block_faults s l (block_shape ys))) one
    ∙ ap (λ f. with_faults f y) in_guard
    ∙ sym (faults_joined first g y)
    ∙ ap (with_faults first) (sym (append-nil (g ++ y)))
    ∙ ap (λ b. with_faults first (block_faults s p b)) (sym is)
