-- The refusals that rows give are none of those that have causes of their own.
use Rattle.std.proofs.Common.{◌≡◌, ◌∙◌, Bool, true, false, not, ◌&&◌, ◌||◌, List, [], ◌∷◌, Option, Some, None, if◌then◌else◌, refl, sym, ap}
use Rattle.std.specs.Option.{option_map, option_or}
use Rattle.acl_model.specs.Acceptance.{IsRefused}
use Rattle.acl_model.specs.Refusals.{first_fault, no_account, no_renaming}
use Rattle.acl_model.specs.State.{State, stands}
use Rattle.acl_names.specs.AuthId.{same_auth}
use Rattle.acl_names.specs.declared.auth.AuthId.{AuthId}
use Rattle.acl_stmt.specs.declared.entry.Entry.{Entry}
use Rattle.acl_stmt.specs.declared.refusal.Refusal.{Refusal}
use Rattle.acl_stmt.specs.declared.refusal.Refusal.TheVariants as why
use Rattle.acl_stmt.specs.declared.statement.Statement.{Statement}
use Rattle.acl_stmt.specs.declared.statement.Statement.TheVariants.{CreateUser, DropUser, Grant, RenameUser, Revoke, RevokeAll}
use Rattle.book_log.specs.Statements.{IsRefusedWith}
use Rattle.line_answers.specs.declared.answer.Answer.TheVariants.{Refused}
use Rattle.line_answers.specs.declared.answer.LineRefusal.TheVariants.{Statement as OfStatement}
use Rattle.priv_map.specs.declared.acting.Acting.{Acting}
use Rattle.script_run.specs.Forms.{is_built_statement}
use Rattle.session_rules.specs.Answers.{told_refusal}
use Rattle.session_rules.specs.Setting.{rules}

-- closing, denials, the journal and want of memory
has_own_cause : Refusal → Bool
has_own_cause why.Closed = true
has_own_cause (why.Denied missing) = true
has_own_cause why.HistoryFull = true
has_own_cause why.DiskFault = true
has_own_cause why.NoMemory = true
has_own_cause _ = false

-- a fault is none of these
IsOfRows : Option Refusal → Type 0
IsOfRows fault = (reason : Refusal) → fault ≡ Some reason → has_own_cause reason ≡ false

none_of_rows : IsOfRows None
unfolding IsOfRows
none_of_rows reason is = absurd (cc)

one_of_rows : (reason : Refusal) → has_own_cause reason ≡ false → IsOfRows (Some reason)
unfolding IsOfRows
one_of_rows reason free other is = let same : reason ≡ other = cc in ap has_own_cause (sym same) ∙ free

mapped_of_rows : (made : AuthId → Refusal) (found : Option AuthId) → ((account : AuthId) → has_own_cause (made account) ≡ false) → IsOfRows (option_map made found)
mapped_of_rows made None free = none_of_rows
mapped_of_rows made (Some account) free = one_of_rows (made account) (free account)

either_of_rows : (one other : Option Refusal) → IsOfRows one → IsOfRows other → IsOfRows (option_or one other)
either_of_rows None other first second = second
either_of_rows (Some reason) other first second = first

if_of_rows : (test : Bool) (other : Option Refusal) → IsOfRows other → IsOfRows (if test then None else other)
if_of_rows true other free = none_of_rows
if_of_rows false other free = free

renaming_step : (old new : Bool) (pair : AuthId × AuthId) (rest : Option Refusal) → IsOfRows rest →
    IsOfRows (if old then (if new then Some (why.AccountExists pair.1) else rest) else Some (why.NoSuchAccount pair.0))
unfolding has_own_cause
renaming_step true true pair rest free = one_of_rows (why.AccountExists pair.1) refl
renaming_step true false pair rest free = free
renaming_step false new pair rest free = one_of_rows (why.NoSuchAccount pair.0) refl

renaming_of_rows : (there : AuthId → Bool) (pairs : List (AuthId × AuthId)) → IsOfRows (no_renaming there pairs)
renaming_of_rows there [] = none_of_rows
renaming_of_rows there (pair ∷ pairs) =
    let after : AuthId → Bool = λ other. same_auth other pair.1 || (not (same_auth other pair.0) && there other) in
    renaming_step (there pair.0) (there pair.1) pair (no_renaming after pairs) (renaming_of_rows after pairs)

account_of_rows : (state : State) (accounts : List AuthId) → IsOfRows (no_account state accounts)
unfolding has_own_cause
account_of_rows state accounts = mapped_of_rows (λ account. why.NoSuchAccount account) _ (λ account. refl)

fault_of_rows : (state : State) (statement : Statement) → is_built_statement statement ≡ true → IsOfRows (first_fault state statement)
unfolding first_fault has_own_cause
fault_of_rows state (CreateUser if_not_exists accounts options) built = if_of_rows if_not_exists _ (mapped_of_rows (λ account. why.AccountExists account) _ (λ account. refl))
fault_of_rows state (DropUser if_exists accounts) built =
    either_of_rows _ _ (if_of_rows if_exists _ (mapped_of_rows (λ account. why.NoSuchAccount account) _ (λ account. refl)))
    (mapped_of_rows (λ account. why.Mandatory account) _ (λ account. refl))
fault_of_rows state (RenameUser pairs) built =
    either_of_rows _ _ (renaming_of_rows (stands state) pairs) (mapped_of_rows (λ account. why.Mandatory account) _ (λ account. refl))
fault_of_rows state (Grant privileges target accounts option) built = account_of_rows state accounts
fault_of_rows state (Revoke privileges target accounts) built =
    either_of_rows _ _ (account_of_rows state accounts) (mapped_of_rows (λ account. why.NoSuchGrant account) _ (λ account. refl))
fault_of_rows state (RevokeAll accounts) built = account_of_rows state accounts
fault_of_rows state _ built = absurd (cc)

wrong_cause : (state : State) (statement : Statement) (reason : Refusal) → is_built_statement statement ≡ true → has_own_cause reason ≡ true →
    first_fault state statement ≡ Some reason → ⊥
unfolding IsOfRows
wrong_cause state statement reason built own is = let free = fault_of_rows state statement built reason is in absurd (cc)

-- what rows refuse is refused so by the rules
pub refused_by_rules : (entries : List Entry) (state : State) (acting : Acting) (entry : Entry) (reason : Refusal) → is_built_statement entry.statement ≡ true →
    rules.lacked state acting entry.statement ≡ None → IsRefused state entry reason → IsRefusedWith rules entries state acting entry reason
unfolding has_own_cause
refused_by_rules entries state acting entry why.Closed built right is = wrong_cause state entry.statement why.Closed built refl is
refused_by_rules entries state acting entry (why.Denied missing) built right is = absurd (wrong_cause state entry.statement (why.Denied missing) built refl is)
refused_by_rules entries state acting entry why.HistoryFull built right is = absurd (wrong_cause state entry.statement why.HistoryFull built refl is)
refused_by_rules entries state acting entry why.DiskFault built right is = absurd (wrong_cause state entry.statement why.DiskFault built refl is)
refused_by_rules entries state acting entry why.NoMemory built right is = wrong_cause state entry.statement why.NoMemory built refl is
refused_by_rules entries state acting entry (why.NoSuchAccount account) built right is = (right, is)
refused_by_rules entries state acting entry (why.AccountExists account) built right is = (right, is)
refused_by_rules entries state acting entry (why.Mandatory role) built right is = (right, is)
refused_by_rules entries state acting entry (why.NotGranted role account) built right is = (right, is)
refused_by_rules entries state acting entry (why.Loop role account) built right is = (right, is)
refused_by_rules entries state acting entry (why.NoSuchGrant account) built right is = (right, is)
refused_by_rules entries state acting entry (why.Full what) built right is = (right, is)

-- and it is told so
pub told_as_refused : (state : State) (entry : Entry) (reason : Refusal) → is_built_statement entry.statement ≡ true → IsRefused state entry reason →
    told_refusal reason ≡ Some (Refused (OfStatement reason))
unfolding has_own_cause
told_as_refused state entry why.Closed built is = refl
told_as_refused state entry (why.Denied missing) built is = absurd (wrong_cause state entry.statement (why.Denied missing) built refl is)
told_as_refused state entry why.HistoryFull built is = refl
told_as_refused state entry why.DiskFault built is = absurd (wrong_cause state entry.statement why.DiskFault built refl is)
told_as_refused state entry why.NoMemory built is = refl
told_as_refused state entry (why.NoSuchAccount account) built is = refl
told_as_refused state entry (why.AccountExists account) built is = refl
told_as_refused state entry (why.Mandatory role) built is = refl
told_as_refused state entry (why.NotGranted role account) built is = refl
told_as_refused state entry (why.Loop role account) built is = refl
told_as_refused state entry (why.NoSuchGrant account) built is = refl
told_as_refused state entry (why.Full what) built is = refl
