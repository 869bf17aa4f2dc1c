-- The canonical text of each statement that is read is cut into its tokens.
use Rattle.std.proofs.Common.{◌||◌, Bool, List, refl, sym, subst, inr}
use Rattle.std.specs.Prelude.{codes}
use Rattle.acl_names.specs.declared.auth.AuthId.{AuthId}
use Rattle.acl_stmt.specs.declared.privileges.PrivList.{PrivList}
use Rattle.acl_stmt.specs.declared.statement.Statement.{Statement}
use Rattle.acl_stmt.specs.declared.statement.Statement.TheVariants as statement
use Rattle.acl_stmt.specs.declared.target.Target.{Target}
use Rattle.canonical_texts.proofs.Chains.{IsSegment, chain_printed, follows_start, segment_append}
use Rattle.canonical_texts.proofs.Segments.{accounts_segment, if_segment, opening_token, privileges_segment, target_segment, word_then, words_segment}
use Rattle.canonical_texts.proofs.TokenTexts.{tokens_text}
use Rattle.canonical_texts.specs.StatementTokens.{canonical_tokens, further_tokens}
use Rattle.canonical_texts.specs.Statements.{canonical_text}
use Rattle.canonical_texts.specs.Tokens.{opening_word, words_of}
use Rattle.grant_lex.proofs.Prints.{printed_cut}
use Rattle.grant_lex.specs.Printed.{ArePrinted, tokens_of}
use Rattle.grant_lex.specs.Token.{IsCut}
use Rattle.grant_parse.specs.Meaning.{MeansStatement}
use Rattle.priv_items.specs.Grants.{names_grant_option}
use Rattle.priv_items.specs.Lowered.{lowered_target}
use Rattle.privilege_statements.specs.declared.statement.RawStatement.{RawStatement}
use Rattle.privilege_statements.specs.declared.statement.RawStatement.TheVariants.{Grant, Revoke}

-- the canonical text is cut into its tokens
abbrev pub IsCutUp : Statement → Type 0
IsCutUp s = IsCut (canonical_text s) (tokens_of 0 (canonical_tokens s))

printed_is_cut : (s : Statement) → ArePrinted (canonical_tokens s) → IsCutUp s
printed_is_cut s apart = subst (λ l. IsCut l (tokens_of 0 (canonical_tokens s))) (tokens_text s) (printed_cut (canonical_tokens s) apart)

grant_segment : (privileges : PrivList) (target : Target) (accounts : List AuthId) (option : Bool)
    → IsSegment (further_tokens (statement.Grant privileges target accounts option))
unfolding further_tokens
grant_segment privileges target accounts option =
    segment_append _ _ (privileges_segment privileges)
    (word_then (codes "ON") _ refl
    (segment_append _ _ (target_segment target)
    (word_then (codes "TO") _ refl
    (segment_append _ _ (accounts_segment accounts) (if_segment option (words_of (codes "WITH GRANT OPTION")) (words_segment (codes "WITH GRANT OPTION") refl))))))

revoke_segment : (privileges : PrivList) (target : Target) (accounts : List AuthId) → IsSegment (further_tokens (statement.Revoke privileges target accounts))
unfolding further_tokens
revoke_segment privileges target accounts =
    segment_append _ _ (privileges_segment privileges)
    (word_then (codes "ON") _ refl (segment_append _ _ (target_segment target) (word_then (codes "FROM") _ refl (accounts_segment accounts))))

grant_cut : (privileges : PrivList) (target : Target) (accounts : List AuthId) (option : Bool) → IsCutUp (statement.Grant privileges target accounts option)
grant_cut privileges target accounts option =
    let s = statement.Grant privileges target accounts option in
    let rest = grant_segment privileges target accounts option in
    printed_is_cut s (chain_printed (canonical_tokens s) (opening_token (codes "GRANT") refl, follows_start (opening_word (codes "GRANT")) (further_tokens s) rest.starts, rest.chain))

revoke_cut : (privileges : PrivList) (target : Target) (accounts : List AuthId) → IsCutUp (statement.Revoke privileges target accounts)
revoke_cut privileges target accounts =
    let s = statement.Revoke privileges target accounts in
    let rest = revoke_segment privileges target accounts in
    printed_is_cut s (chain_printed (canonical_tokens s) (opening_token (codes "REVOKE") refl, follows_start (opening_word (codes "REVOKE")) (further_tokens s) rest.starts, rest.chain))

pub meant_cut : (raw : RawStatement) (s : Statement) → MeansStatement (inr raw) s → IsCutUp s
meant_cut (Grant named target accounts option) s (list, meant, same) =
    subst IsCutUp (sym same) (grant_cut list (lowered_target target) accounts (option || names_grant_option named))
meant_cut (Revoke named target accounts) s (list, meant, same) = subst IsCutUp (sym same) (revoke_cut list (lowered_target target) accounts)
