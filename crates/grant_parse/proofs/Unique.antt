-- Tokens spell one statement, and what they spell means one.
use Rattle.std.proofs.Common.{◌≡◌, ◌⊎◌, ◌||◌, true, Ok, Result, inl, inr, sym, ◌∙◌, ap, subst}
use Rattle.std.proofs.Props.{props}
use Rattle.acl_grammar.specs.Grammar.Grammar.{to}
use Rattle.acl_grammar.specs.Spelling.{Disjoint}
use Rattle.acl_grammar.proofs.Whole.{either_only, whole_only}
use Rattle.acl_stmt.specs.Requests.{is_request}
use Rattle.acl_stmt.specs.declared.privileges.PrivList.{PrivList}
use Rattle.acl_stmt.specs.declared.request.Request.{Request}
use Rattle.acl_stmt.specs.declared.statement.Statement.{Statement}
use Rattle.acl_stmt.specs.declared.statement.Statement.TheVariants as statement
use Rattle.acl_stmt.specs.declared.target.Target.{Target}
use Rattle.grant_parse.proofs.Disjoint.{rules_differ}
use Rattle.grant_parse.specs.Meaning.{MeansRequest, MeansStatement}
use Rattle.grant_parse.specs.Sanity.{privilege_rule_sane, user_rule_sane}
use Rattle.grant_parse.specs.Statements.{SpellsRequest, SpellsStatement, privilege_rule, user_rule}
use Rattle.grant_parse.proofs.Once.{IsUnique}
use Rattle.grant_words.specs.Syntax.{grammar_of}
use Rattle.priv_items.proofs.OneList.{one_list}
use Rattle.priv_items.specs.Grants.{names_grant_option, without_grant_option}
use Rattle.priv_items.specs.Lowered.{lowered_target}
use Rattle.priv_items.specs.declared.item.Named.{Named}
use Rattle.privilege_statements.specs.Sanity.{request_sane}
use Rattle.privilege_statements.specs.Statements.{request}
use Rattle.privilege_statements.specs.declared.statement.RawStatement.{RawStatement}
use Rattle.privilege_statements.specs.declared.statement.RawStatement.TheVariants.{Grant, Revoke}

same_value : {A E : Type 0} (a b : A) (r : Result A E) → r ≡ Ok a → r ≡ Ok b → a ≡ b
same_value a b r h k = let both : Ok a ≡ Ok b = sym h ∙ k in cc

pub one_statement : IsUnique SpellsStatement
one_statement ts m other k l =
    let apart : Disjoint (to inl (grammar_of user_rule)) (to inr (grammar_of privilege_rule)) =
    λ us v w a b. rules_differ us a.0 b.0 a.1 b.1 in
    same_value m other _
    (either_only (to inl (grammar_of user_rule)) (to inr (grammar_of privilege_rule)) user_rule_sane privilege_rule_sane apart ts m k)
    (either_only (to inl (grammar_of user_rule)) (to inr (grammar_of privilege_rule)) user_rule_sane privilege_rule_sane apart ts other l)

pub one_request : IsUnique SpellsRequest
one_request ts m other k l =
    same_value m other _ (whole_only (grammar_of request) request_sane ts m k) (whole_only (grammar_of request) request_sane ts other l)

-- a request is its two parts: the proof that they fit does not tell two apart
abbrev request_with : (parts : PrivList × Target) → is_request parts.0 parts.1 ≡ true → Request
request_with parts fits = record { privileges = parts.0; target = parts.1; fits = fits }

same_request_with : (p q : PrivList × Target) → p ≡ q → (r : is_request p.0 p.1 ≡ true) (s : is_request q.0 q.1 ≡ true)
    → request_with p r ≡ request_with q s
same_request_with p q same =
    let P : PrivList × Target → Type 0 =
    λ x. (r : is_request p.0 p.1 ≡ true) (s : is_request x.0 x.1 ≡ true) → request_with p r ≡ request_with x s in
    let one : IsProp (is_request p.0 p.1 ≡ true) = hlevel props in
    subst P same (λ r s. ap (request_with p) (one r s))

same_request : (a b : Request) → a.privileges ≡ b.privileges → a.target ≡ b.target → a ≡ b
same_request a b privileges target =
    same_request_with (a.privileges, a.target) (b.privileges, b.target) (λ i. (privileges i, target i)) a.fits b.fits

pub request_meant_once : (m : Named × Target) (a b : Request) → MeansRequest m a → MeansRequest m b → a ≡ b
request_meant_once m a b (list, target) (other, target') =
    same_request a b (one_list m.0 a.privileges b.privileges list other) (target ∙ sym target')

pub statement_meant_once : (m : Statement ⊎ RawStatement) (a b : Statement) → MeansStatement m a → MeansStatement m b → a ≡ b
statement_meant_once (inl s) a b h k = h ∙ sym k
statement_meant_once (inr (Grant named target accounts option)) a b (list, h, same) (list', h', same') =
    same
    ∙ ap (λ x. statement.Grant x (lowered_target target) accounts (option || names_grant_option named))
    (one_list (without_grant_option named) list list' h h')
    ∙ sym same'
statement_meant_once (inr (Revoke named target accounts)) a b (list, h, same) (list', h', same') =
    same ∙ ap (λ x. statement.Revoke x (lowered_target target) accounts) (one_list named list list' h h') ∙ sym same'
