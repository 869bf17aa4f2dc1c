-- What is spelled means, once its privileges have the level of their target.
use Rattle.std.specs.Prelude.{◌≡◌, ◌⊎◌, ◌||◌, ℕ, List, Option, Some, None}
use mathlib.Core.Logic.{inl, inr}
use Rattle.acl_stmt.specs.declared.privileges.PrivList.{PrivList}
use Rattle.acl_stmt.specs.declared.request.Request.{Request}
use Rattle.acl_stmt.specs.declared.statement.Statement.{Statement}
use Rattle.acl_stmt.specs.declared.statement.Statement.TheVariants as statement
use Rattle.acl_stmt.specs.declared.target.Target.{Target}
use Rattle.grant_parse.specs.Statements.{SpellsRequest, SpellsStatement}
use Rattle.grant_parse.specs.Texts.{IsParseRefusal, IsRead}
use Rattle.acl_names.specs.declared.auth.AuthId.{AuthId}
use Rattle.grant_refusal.specs.declared.ParseRefusal.{ParseRefusal}
use Rattle.grant_refusal.specs.declared.ParseRefusal.TheVariants.{Limit, Syntax, WrongLevel, NoMemory}
use Rattle.priv_items.specs.declared.refusal.LevelRefusal.{LevelRefusal}
use Rattle.priv_items.specs.declared.refusal.LevelRefusal.TheVariants as level
use Rattle.priv_items.specs.Grants.{names_grant_option, without_grant_option}
use Rattle.priv_items.specs.LevelRefusals.{wrong_level}
use Rattle.priv_items.specs.Lowered.{lowered_target}
use Rattle.priv_items.specs.Meaning.{IsMeant}
use Rattle.priv_items.specs.declared.item.Named.{Named}
use Rattle.priv_sets.specs.declared.privilege.Privilege.{Privilege}
use Rattle.privilege_statements.specs.declared.statement.RawStatement.{RawStatement}
use Rattle.privilege_statements.specs.declared.statement.RawStatement.TheVariants.{Grant, Revoke}

-- the first named privilege without the level of the target
abbrev pub level_fault : Statement ⊎ RawStatement → Option Privilege
level_fault (inl s) = None
level_fault (inr (Grant named target accounts option)) = wrong_level named target
level_fault (inr (Revoke named target accounts)) = wrong_level named target

-- want of memory, or this privilege without the level
abbrev pub IsLevelFault : Option Privilege → ParseRefusal → Type 0
IsLevelFault fault NoMemory = Unit {0}
IsLevelFault fault (WrongLevel privilege) = fault ≡ Some privilege
IsLevelFault fault Limit = ⊥
IsLevelFault fault (Syntax _) = ⊥

abbrev pub refusal_from : LevelRefusal → ParseRefusal
refusal_from (level.WrongLevel privilege) = WrongLevel privilege
refusal_from level.NoMemory = NoMemory

-- the accounts to which, or from which
abbrev pub accounts_of : RawStatement → List AuthId
accounts_of (Grant named target accounts option) = accounts
accounts_of (Revoke named target accounts) = accounts

-- a list of privileges is meant by what is named; GRANT OPTION in a GRANT is WITH GRANT OPTION
abbrev pub MeansStatement : Statement ⊎ RawStatement → Statement → Type 0
MeansStatement (inl s) t = t ≡ s
MeansStatement (inr (Grant named target accounts option)) t =
    (list : PrivList) × IsMeant (without_grant_option named) list
    × (t ≡ statement.Grant list (lowered_target target) accounts (option || names_grant_option named))
MeansStatement (inr (Revoke named target accounts)) t =
    (list : PrivList) × IsMeant named list × (t ≡ statement.Revoke list (lowered_target target) accounts)

-- the text, of at most so many bytes, is a statement
abbrev pub IsStatement : ℕ → List ℕ → Statement → Type 0
IsStatement = IsRead SpellsStatement level_fault MeansStatement

-- why the text is no statement
abbrev pub IsStatementRefusal : ℕ → List ℕ → ParseRefusal → Type 0
IsStatementRefusal = IsParseRefusal SpellsStatement level_fault

abbrev pub request_fault : Named × Target → Option Privilege
request_fault v = wrong_level v.0 v.1

abbrev pub MeansRequest : Named × Target → Request → Type 0
MeansRequest v request = IsMeant v.0 request.privileges × (request.target ≡ lowered_target v.1)

-- the text, of at most so many bytes, is a request
abbrev pub IsRequestText : ℕ → List ℕ → Request → Type 0
IsRequestText = IsRead SpellsRequest request_fault MeansRequest

-- why the text is no request
abbrev pub IsRequestRefusal : ℕ → List ℕ → ParseRefusal → Type 0
IsRequestRefusal = IsParseRefusal SpellsRequest request_fault
