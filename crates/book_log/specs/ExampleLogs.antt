-- Worked examples: a log of two sessions, in which a refused statement stands between accepted ones.
use Rattle.std.specs.Prelude.{◌≡◌, ℕ, true, false, IsTrue, not, ◌==◌, List, [], ◌∷◌, Option, Some, None, Ok, Err, codes, filter, map, refl}
use Rattle.std.specs.List.{range_with_len}
use Rattle.acl_model.specs.Effects.{after, becomes, changed, state_after}
use Rattle.acl_model.specs.Refusals.{first_fault}
use Rattle.acl_model.specs.State.{opening, root, stands}
use Rattle.acl_names.specs.Verifiers.{empty_verifier}
use Rattle.acl_names.specs.declared.auth.AuthId.{AuthId}
use Rattle.acl_stmt.specs.Entries.{is_entry}
use Rattle.acl_stmt.specs.Limits.{is_limit}
use Rattle.acl_stmt.specs.Privileges.{is_priv_list}
use Rattle.acl_stmt.specs.Statements.{is_statement}
use Rattle.acl_stmt.specs.declared.entry.Entry.{Entry}
use Rattle.acl_stmt.specs.declared.limit.Limit.{Limit}
use Rattle.acl_stmt.specs.declared.options.AccountOptions.{AccountOptions}
use Rattle.acl_stmt.specs.declared.privileges.PrivList.{PrivList}
use Rattle.acl_stmt.specs.declared.refusal.Refusal.TheVariants.{AccountExists, Closed}
use Rattle.acl_stmt.specs.declared.statement.Statement.{Statement}
use Rattle.acl_stmt.specs.declared.statement.Statement.TheVariants.{CreateUser}
use Rattle.book_log.specs.Callers.{AreNumberedFrom, calls}
use Rattle.book_log.specs.Histories.{below_grant_option, handed_on, history}
use Rattle.book_log.specs.Items.{Item, asked}
use Rattle.book_log.specs.Logs.{IsReply, Origin, state_at}
use Rattle.book_log.specs.Pasts.{Noted, Past, log_of}
use Rattle.book_log.specs.Rules.{Rules}
use Rattle.priv_map.specs.declared.acting.Acting.{Acting}
use Rattle.priv_map.specs.declared.held.Held.{Held}
use Rattle.priv_sets.specs.Levels.{grant_option, has_level}
use Rattle.priv_sets.specs.StaticSet.{holds, members}
use Rattle.priv_sets.specs.declared.static_set.Static.{Static}

abbrev pub at_any_host : List ℕ → AuthId
at_any_host user = record { user = user; host = codes "%" }

abbrev pub ann : AuthId
ann = at_any_host (codes "ann")

abbrev pub bob : AuthId
bob = at_any_host (codes "bob")

-- root, whatever it has read
abbrev pub as_root : Held → Acting
as_root held = record { account = root; roles = []; held = held; current = None }

abbrev pub no_options : AccountOptions
no_options = record { attempts = None; days = None; locked = None }

abbrev pub create : AuthId → Statement
create account = CreateUser false ((account, empty_verifier) ∷ []) no_options

-- everybody may issue everything, the choice is the manual's, and the journal never ends
abbrev pub free : Rules
free = record { lacked = λ state acting statement. None; hands_on = true; own_choice = None; is_full = λ entries entry. false }

-- a log from the very beginning, which ends behind so many items or is open
abbrev pub from_nothing : Option ℕ → Origin
from_nothing end = record { rules = free; start = opening; base = []; end = end }

abbrev pub noted_as : Item → Noted
noted_as item = record { item = item; chosen = None }

abbrev pub first : Held → Item
first held = asked 0 0 (as_root held) (create ann) (Ok 1)

-- another session asks for the same account
abbrev pub again : Held → Item
again held = asked 1 0 (as_root held) (create ann) (Err (AccountExists ann))

abbrev pub second : Held → Item
second held = asked 0 1 (as_root held) (create bob) (Ok 2)

abbrev pub all_of : Held → Past
all_of held = noted_as (second held) ∷ noted_as (again held) ∷ noted_as (first held) ∷ []

abbrev pub begun : Held → Past
begun held = noted_as (first held) ∷ []

example-accepted_ones : (held : Held) → map (λ (entry : Entry). entry.statement) (history free [] (log_of (all_of held))) ≡ create ann ∷ create bob ∷ []
unfolding history is_entry is_statement
example-accepted_ones held = refl

example-their_numbers : (held : Held) → map (λ (entry : Entry). entry.number) (history free [] (log_of (all_of held))) ≡ 0 ∷ 1 ∷ []
unfolding history is_entry is_statement
example-their_numbers held = refl

pub example-refused_between : (held : Held) → IsReply (from_nothing None) (begun held) (noted_as (again held))
unfolding IsReply history is_entry is_statement state_after after changed becomes first_fault
example-refused_between held = (refl, (refl, refl))

-- had the log ended behind the first item, the same call would be told so
example-told_of_the_end : (held : Held) → IsReply (from_nothing (Some 1)) (begun held) (noted_as (asked 1 0 (as_root held) (create ann) (Err Closed)))
unfolding IsReply
example-told_of_the_end held = (refl, refl)

example-both_stand : (held : Held) → stands (state_at (from_nothing None) (all_of held)) bob ≡ true
unfolding history is_entry is_statement state_after after changed becomes
example-both_stand held = refl

example-calls_of_one : (held : Held) → calls 0 (log_of (all_of held)) ≡ first held ∷ second held ∷ []
example-calls_of_one held = refl

example-numbers_of_one : (held : Held) → AreNumberedFrom 0 (calls 0 (log_of (all_of held)))
example-numbers_of_one held = (refl, (refl, tt))

-- a grant of SELECT on `*.*` by one whose SELECT and INSERT are restricted on a schema
abbrev both : Static
both = record { 0 = 3 }

both-restrict : IsTrue (is_limit both)
unfolding is_limit holds has_level
both-restrict = refl

select : Static
select = record { 0 = 1 }

select-listed : IsTrue (is_priv_list false select [] 0)
unfolding is_priv_list select
select-listed = refl

abbrev select_alone : PrivList
select_alone = record { all = false; plain = select; columns = []; dynamic = 0; listed = select-listed }

abbrev restriction : Limit
restriction = record { schema = codes "pay"; privileges = both; restricts = both-restrict }

example-handed_on : map (λ (limit : Limit). limit.privileges) (handed_on select_alone restriction) ≡ select ∷ []
unfolding is_limit holds has_level select
example-handed_on = refl

-- ALL is each static privilege but GRANT OPTION
example-all_but_grant_option : members (record { 0 = below_grant_option }) ≡ filter (λ p. not (p == grant_option)) (range_with_len 0 31)
unfolding members holds
example-all_but_grant_option = refl
