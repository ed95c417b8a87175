-- Statements one after the other: those of a first block and then those of a second.
use Rattle.std.proofs.Common.{◌≡◌, List, [], ◌∷◌, refl}
use Rattle.jif_lex.specs.declared.token.TokenKind.{TokenKind}
use Rattle.jif_tree.specs.declared.draft.StmtDraft.{StmtDraft}
use Rattle.jif_grammar.specs.Phrases.{BlockPhrase, end, declaration, assignment, element_assignment, call}
use Rattle.jif_grammar.specs.Phrases.{call_into, branch, branch_else, loop}
use Rattle.jif_grammar.specs.Grouping.{IsBlock}
use Rattle.jif_grammar.specs.Unmarked.{block_then}
use Rattle.jif_grammar.specs.DraftShapes.{BlockShape, statement_shape}

abbrev pub chain : BlockPhrase → BlockPhrase → BlockPhrase
chain end second = second
chain (declaration label name value rest) second = declaration label name value (chain rest second)
chain (assignment name value rest) second = assignment name value (chain rest second)
chain (element_assignment name index value rest) second = element_assignment name index value (chain rest second)
chain (call name args rest) second = call name args (chain rest second)
chain (call_into into name args rest) second = call_into into name args (chain rest second)
chain (branch guard first rest) second = branch guard first (chain rest second)
chain (branch_else guard first other rest) second = branch_else guard first other (chain rest second)
chain (loop guard body rest) second = loop guard body (chain rest second)

pub chain_then : (first second : BlockPhrase) (more : List TokenKind) →
    block_then (chain first second) more ≡ block_then first (block_then second more)
chain_then end second more = refl
chain_then (declaration label name value rest) second more = cc (chain_then rest second more)
chain_then (assignment name value rest) second more = cc (chain_then rest second more)
chain_then (element_assignment name index value rest) second more = cc (chain_then rest second more)
chain_then (call name args rest) second more = cc (chain_then rest second more)
chain_then (call_into into name args rest) second more = cc (chain_then rest second more)
chain_then (branch guard first rest) second more = cc (chain_then rest second more)
chain_then (branch_else guard first other rest) second more = cc (chain_then rest second more)
chain_then (loop guard body rest) second more = cc (chain_then rest second more)

pub IsBlock_chain : (first second : BlockPhrase) → IsBlock first → IsBlock second → IsBlock (chain first second)
IsBlock_chain end second f s = s
IsBlock_chain (declaration label name value rest) second f s = (f.0, f.1, IsBlock_chain rest second f.2 s)
IsBlock_chain (assignment name value rest) second f s = (f.0, IsBlock_chain rest second f.1 s)
IsBlock_chain (element_assignment name index value rest) second f s = (f.0, f.1, IsBlock_chain rest second f.2 s)
IsBlock_chain (call name args rest) second f s = (f.0, IsBlock_chain rest second f.1 s)
IsBlock_chain (call_into into name args rest) second f s = (f.0, IsBlock_chain rest second f.1 s)
IsBlock_chain (branch guard first rest) second f s = (f.0, f.1, IsBlock_chain rest second f.2 s)
IsBlock_chain (branch_else guard first other rest) second f s = (f.0, f.1, f.2, IsBlock_chain rest second f.3 s)
IsBlock_chain (loop guard body rest) second f s = (f.0, f.1, IsBlock_chain rest second f.2 s)

-- the drafts of statements, and then those behind
abbrev pub drafts_then : List StmtDraft → BlockShape → BlockShape
drafts_then [] behind = behind
drafts_then (draft ∷ drafts) behind =
    statement_shape draft.kind (record { at = draft.at; line = draft.line }) (drafts_then drafts behind)
