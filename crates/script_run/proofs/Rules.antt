-- What is read as a statement keeps the rules of statements.
use Rattle.std.proofs.Common.{◌≡◌, ◌∙◌, ap, ◌⊎◌, inl, inr, ℕ, Bool, true, false, not, ◌||◌, IsTrue, List, [], ◌∷◌, filter, cond, None, Some, refl}
use Rattle.std.specs.List.{list_any}
use Rattle.acl_names.specs.declared.auth.AuthId.{AuthId}
use Rattle.acl_stmt.specs.Entries.{is_entry}
use Rattle.acl_stmt.specs.Lists.{is_some_list}
use Rattle.acl_stmt.specs.Requests.{is_request}
use Rattle.acl_stmt.specs.Statements.{is_statement}
use Rattle.acl_stmt.specs.declared.privileges.PrivList.{PrivList}
use Rattle.acl_stmt.specs.declared.statement.Statement.{Statement as AnyStatement}
use Rattle.acl_stmt.specs.declared.statement.Statement.TheVariants as of
use Rattle.acl_stmt.specs.declared.target.Target.{Target}
use Rattle.acl_stmt.specs.declared.target.Target.TheVariants as on
use Rattle.grant_parse.proofs.Kept.{raw_text_accounts, user_text_kept}
use Rattle.grant_parse.specs.Meaning.{MeansStatement, level_fault}
use Rattle.grant_parse.specs.Statements.{SpellsStatement}
use Rattle.grant_parse.specs.Texts.{IsSpelled}
use Rattle.grant_words.specs.declared.lexeme.Lexeme.{Lexeme}
use Rattle.priv_items.proofs.Fits.{request_from_meant}
use Rattle.priv_items.proofs.WithoutOption.{wrong_level-without}
use Rattle.priv_items.specs.Grants.{names_grant_option, without_grant_option}
use Rattle.priv_items.specs.Lowered.{lowered_target}
use Rattle.priv_items.specs.Meaning.{IsMeant}
use Rattle.priv_items.specs.Naming.{is_plain, items_in, names_plain}
use Rattle.priv_items.specs.LevelRefusals.{wrong_level}
use Rattle.priv_items.specs.declared.item.Item.{Item}
use Rattle.priv_items.specs.declared.item.Named.{Named}
use Rattle.priv_items.specs.declared.item.Named.TheVariants.{All, Listed}
use Rattle.priv_sets.specs.Levels.{grant_option}
use Rattle.priv_sets.specs.StaticSet.{holds}
use Rattle.privilege_statements.specs.declared.statement.RawStatement.{RawStatement}
use Rattle.privilege_statements.specs.declared.statement.RawStatement.TheVariants.{Grant, Revoke}
use Rattle.script_commands.specs.declared.command.RawCommand.{RawCommand}
use Rattle.script_commands.specs.declared.command.RawCommand.TheVariants as raw
use Rattle.script_read.specs.Commands.{IsCommand, IsTimed, IsUntimed}
use Rattle.script_read.specs.Written.{MeansWritten, SpellsWritten, connect_at, written_fault}
use Rattle.script_read.specs.declared.command.Command.TheVariants as made
use Rattle.script_run.specs.Forms.{is_built_statement, keeps_rules}

abbrev rest_of : List Item → List Item
rest_of items = filter (λ item. not (is_plain grant_option item)) items

none_at : (item : Item) (items : List Item) (t : Bool) → is_plain grant_option item ≡ t → list_any (is_plain grant_option) (rest_of items) ≡ false
    → list_any (is_plain grant_option) (cond (not t) (item ∷ rest_of items) (rest_of items)) ≡ false
none_at item items true is rest = rest
none_at item items false is rest = rw is rest

none_left : (items : List Item) → list_any (is_plain grant_option) (rest_of items) ≡ false
none_left [] = refl
none_left (item ∷ items) = none_at item items (is_plain grant_option item) refl (none_left items)

no_option_left : (named : Named) → names_plain (items_in (without_grant_option named)) grant_option ≡ false
no_option_left All = refl
no_option_left (Listed items) = none_left items

grant_kept : (named : Named) (target : Target) (accounts : List AuthId) (option : Bool) (list : PrivList) → wrong_level named target ≡ None → IsTrue (is_some_list accounts)
    → IsMeant (without_grant_option named) list → IsTrue (is_statement (of.Grant list (lowered_target target) accounts option))
unfolding is_statement
grant_kept named target accounts option list fits some meant =
    let request : is_request list (lowered_target target) ≡ true = request_from_meant (without_grant_option named) target list meant (wrong_level-without named target fits) in
    let without : holds list.plain grant_option ≡ false = meant.plain grant_option ∙ no_option_left named in
    rw (request, without, some) refl

revoke_kept : (named : Named) (target : Target) (accounts : List AuthId) (list : PrivList) → wrong_level named target ≡ None → IsTrue (is_some_list accounts)
    → IsMeant named list → IsTrue (is_statement (of.Revoke list (lowered_target target) accounts))
unfolding is_statement
revoke_kept named target accounts list fits some meant =
    let request : is_request list (lowered_target target) ≡ true = request_from_meant named target list meant fits in
    rw (request, some) refl

statement_kept : (text : List ℕ) (m : AnyStatement ⊎ RawStatement) (s : AnyStatement) → IsSpelled SpellsStatement text m → level_fault m ≡ None → MeansStatement m s → IsTrue (is_statement s)
statement_kept text (inl written) s spelled fits means = ap is_statement means ∙ user_text_kept text written spelled
statement_kept text (inr (Grant named target accounts option)) s spelled fits (list, meant, same) =
    ap is_statement same ∙ grant_kept named target accounts (option || names_grant_option named) list fits (raw_text_accounts text (Grant named target accounts option) spelled) meant
statement_kept text (inr (Revoke named target accounts)) s spelled fits (list, meant, same) =
    ap is_statement same ∙ revoke_kept named target accounts list fits (raw_text_accounts text (Revoke named target accounts) spelled) meant

statement_part : (ts : List Lexeme) (m : AnyStatement ⊎ RawStatement) → SpellsWritten ts (inr m) → SpellsStatement ts m
statement_part ts m (inl (x, k, same)) = absurd (cc)
statement_part ts m (inr (x, k, same)) = rw (inner m x same) k
  where
    inner : (a b : AnyStatement ⊎ RawStatement) → let left : RawCommand ⊎ (AnyStatement ⊎ RawStatement) = inr a in left ≡ inr b → a ≡ b
    inner a b e = cc

written_kept : (text : List ℕ) (written : RawCommand ⊎ (AnyStatement ⊎ RawStatement)) (s : AnyStatement) → IsSpelled SpellsWritten text written → written_fault written ≡ None
    → MeansWritten written (made.Statement s) → IsTrue (is_statement s)
written_kept text (inl (raw.Connect connect)) s spelled fits means = absurd (cc)
written_kept text (inl raw.Disconnect) s spelled fits means = absurd (cc)
written_kept text (inl (raw.UseSchema schema)) s spelled fits means = absurd (cc)
written_kept text (inl (raw.SetRole form)) s spelled fits means = absurd (cc)
written_kept text (inl (raw.Check privileges target)) s spelled fits (request, meant, same) = absurd (cc)
written_kept text (inl (raw.ShowGrants account roles)) s spelled fits means = absurd (cc)
written_kept text (inl (raw.Await length turns)) s spelled fits means = absurd (cc)
written_kept text (inr m) s (tokens, cut, k) fits (statement, means, same) =
    ap is_statement (inner s statement same) ∙ statement_kept text m statement (tokens, cut, statement_part _ m k) fits means
  where
    inner : (a b : AnyStatement) → made.Statement a ≡ made.Statement b → a ≡ b
    inner a b e = cc

command_kept : (text : List ℕ) (s : AnyStatement) → IsCommand text (made.Statement s) → IsTrue (is_statement s)
command_kept text s is = by is.kind
  where
    timed : IsTimed text (made.Statement s) → IsTrue (is_statement s)
    timed t = absurd (differ t.command_is)
      where
        differ : made.Statement s ≡ connect_at t.connect (Some t.moment) → ⊥
        differ same = cc

    by : IsTimed text (made.Statement s) ⊎ IsUntimed text (made.Statement s) → IsTrue (is_statement s)
    by (inl t) = timed t
    by (inr u) = written_kept text u.written s u.spelled u.fits u.means

built_entry : (s : AnyStatement) → IsTrue (is_statement s) → IsTrue (is_built_statement s) → IsTrue (is_entry [] s)
unfolding is_entry
built_entry (of.Grant privileges on.Global accounts option) kept built = rw kept refl
built_entry (of.Grant privileges (on.Schema schema) accounts option) kept built = rw kept refl
built_entry (of.Grant privileges (on.Table schema table) accounts option) kept built = rw kept refl
built_entry (of.Grant privileges (on.Function schema name) accounts option) kept built = rw kept refl
built_entry (of.Grant privileges (on.Procedure schema name) accounts option) kept built = rw kept refl
built_entry (of.SetPassword account verifier) kept built = absurd (cc)
built_entry _ kept built = rw kept refl

-- a statement of a form that is run keeps the rules of a history
pub statement_rules : (text : List ℕ) (s : AnyStatement) → IsCommand text (made.Statement s) → IsTrue (is_built_statement s) → IsTrue (keeps_rules (made.Statement s))
statement_rules text s is built = built_entry s (command_kept text s is) built
