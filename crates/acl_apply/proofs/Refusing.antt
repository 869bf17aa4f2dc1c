-- From a part's fault to the refusal of the statement.
use Rattle.std.proofs.Common.{◌≡◌, ◌∙◌, List, [], ◌∷◌, ◌++◌, Option, Some, None, Result, Ok, Err, refl, inl}
use Rattle.std.specs.Result.{IfErr}
use Rattle.std.proofs.Common.{Bool, true, ◌&&◌, not, ap, subst, sym}
use Rattle.std.proofs.lemmas.Bool.{and_parts}
use Rattle.acl_names.specs.declared.auth.AuthId.{AuthId}
use Rattle.acl_names.specs.declared.policy.Verifier.{Verifier}
use Rattle.acl_model.specs.Counts.{IsExceeded}
use Rattle.acl_stmt.specs.declared.options.AccountOptions.{AccountOptions}
use Rattle.acl_stmt.specs.declared.refusal.Full.TheVariants as full
use Rattle.revoke_effects.proofs.Listing.{none_of_none}
use Rattle.acl_apply.specs.Created.{IsCreateCause, IsCrowded}
use Rattle.acl_model.specs.Effects.{after, changed}
use Rattle.acl_stmt.specs.Entries.{are_limits_in_order, is_complete, is_entry, may_have_limits}
use Rattle.acl_stmt.specs.Lists.{is_some_list}
use Rattle.acl_stmt.specs.Statements.{is_statement}
use Rattle.acl_stmt.specs.declared.limit.Limit.{Limit}
use Rattle.acl_stmt.specs.declared.privileges.PrivList.{PrivList}
use Rattle.acl_stmt.specs.declared.target.Target.{Target}
use Rattle.revoke_effects.specs.Found.{IsGrantFault}
use Rattle.acl_apply.specs.Revoked.{IsRevokeCause}
use Rattle.acl_stmt.specs.declared.statement.Statement.{Statement}
use Rattle.acl_stmt.specs.declared.statement.Statement.TheVariants.{CreateUser, DropUser, Grant, RenameUser, Revoke, RevokeAll}
use Rattle.acl_model.specs.Acceptance.{IsFeasible, IsRefused, revoked_accounts, role_pairs}
use Rattle.acl_model.specs.Refusals.{first_fault}
use Rattle.acl_model.specs.State.{State}
use Rattle.acl_stmt.specs.declared.entry.Entry.{Entry}
use Rattle.acl_stmt.specs.declared.refusal.Refusal.{Refusal}
use Rattle.acl_stmt.specs.declared.refusal.Refusal.TheVariants.{AccountExists, Full, Mandatory, NoMemory, NoSuchAccount, NoSuchGrant}
use Rattle.acl_apply.specs.Causes.{IsCause, IsWantOrFault}

pub if_err_weaker : {X E : Type 0} (result : Result X E) (P Q : E → Type 0) → ((e : E) → P e → Q e) → IfErr result P → IfErr result Q
if_err_weaker (Ok x) P Q weaker is = tt
if_err_weaker (Err e) P Q weaker is = weaker e is

-- a part's fault is that of the whole
pub fault_of_part : (part whole : Option Refusal) → ((e : Refusal) → part ≡ Some e → whole ≡ Some e) → (e : Refusal) → IsWantOrFault part e → IsWantOrFault whole e
fault_of_part part whole first NoMemory is = tt
fault_of_part part whole first (NoSuchAccount a) is = first (NoSuchAccount a) is
fault_of_part part whole first (AccountExists a) is = first (AccountExists a) is
fault_of_part part whole first (Mandatory a) is = first (Mandatory a) is
fault_of_part part whole first (NoSuchGrant a) is = first (NoSuchGrant a) is
fault_of_part part whole first _ is = absurd is

-- a fault refuses the statement
pub fault_refuses : (state : State) (entry : Entry) (wanted : Option Refusal) → wanted ≡ first_fault state entry.statement → (e : Refusal) → IsWantOrFault wanted e → IsCause (IsRefused state entry) e
fault_refuses state entry wanted same NoMemory is = tt
fault_refuses state entry wanted same (NoSuchAccount a) is = cc
fault_refuses state entry wanted same (AccountExists a) is = cc
fault_refuses state entry wanted same (Mandatory a) is = cc
fault_refuses state entry wanted same (NoSuchGrant a) is = inl (cc)
fault_refuses state entry wanted same _ is = absurd is

-- the end of a list is none
no_list : {A : Type 0} (xs : List A) → not (is_some_list xs) ≡ true → xs ≡ []
no_list [] none = refl
no_list (x ∷ xs) none = cc

pub last_of_four : (a b c d : Bool) → (a && b && c && d) ≡ true → d ≡ true
last_of_four a b c d all = (and_parts (a && b && c) d all).1

-- only a grant hands restrictions on
no_limits : (limits : List Limit) (statement : Statement) → may_have_limits limits statement ≡ not (is_some_list limits) → is_entry limits statement ≡ true → limits ≡ []
unfolding is_entry
no_limits limits statement alone legal =
    no_list limits (sym alone ∙ last_of_four (is_statement statement) (is_complete statement) (are_limits_in_order limits) (may_have_limits limits statement) legal)

after_as : (entry : Entry) (statement : Statement) (before now : State) → entry.statement ≡ statement → may_have_limits entry.limits statement ≡ not (is_some_list entry.limits)
    → now ≡ changed [] statement before → now ≡ after entry before
unfolding after
after_as entry statement before now is alone same =
    let legal : is_entry entry.limits statement ≡ true = subst (λ (s : Statement). is_entry entry.limits s ≡ true) is entry.legal in
    same ∙ ap (λ ls. changed ls statement before) (sym (no_limits entry.limits statement alone legal)) ∙ ap (λ s. changed entry.limits s before) (sym is)

-- what a renaming leaves is what the entry leaves
pub after_renaming : (entry : Entry) (pairs : List (AuthId × AuthId)) (before now : State) → entry.statement ≡ RenameUser pairs → now ≡ changed [] (RenameUser pairs) before → now ≡ after entry before
after_renaming entry pairs before now is same = after_as entry (RenameUser pairs) before now is refl same

-- what a creation leaves is what the entry leaves
pub after_creating : (entry : Entry) (exists : Bool) (accounts : List (AuthId × Verifier)) (options : AccountOptions) (before now : State) → entry.statement ≡ CreateUser exists accounts options
    → now ≡ changed [] (CreateUser exists accounts options) before → now ≡ after entry before
after_creating entry exists accounts options before now is same = after_as entry (CreateUser exists accounts options) before now is refl same

no_split : {X : Type 0} (earlier : List X) (x : X) (later : List X) → [] ≡ earlier ++ x ∷ later → ⊥
no_split [] x later split = cc
no_split (y ∷ earlier) x later split = cc

feasible_as : (state : State) (statement other : Statement) → statement ≡ other → first_fault state other ≡ None → role_pairs other ≡ [] → revoked_accounts other ≡ [] → IsFeasible state statement
feasible_as state statement other is none no_pairs no_accounts =
    rw is (record {
      no_fault = none;
      no_loop = λ earlier pair later split path. no_split earlier pair later (sym no_pairs ∙ split);
      no_lack = λ earlier a later split lack. no_split earlier a later (sym no_accounts ∙ split);
    })

pub feasible_renaming : (state : State) (statement : Statement) (pairs : List (AuthId × AuthId)) → statement ≡ RenameUser pairs → first_fault state (RenameUser pairs) ≡ None → IsFeasible state statement
feasible_renaming state statement pairs is none = feasible_as state statement (RenameUser pairs) is none refl refl

pub feasible_creating : (state : State) (statement : Statement) (exists : Bool) (accounts : List (AuthId × Verifier)) (options : AccountOptions) → statement ≡ CreateUser exists accounts options
    → first_fault state (CreateUser exists accounts options) ≡ None → IsFeasible state statement
feasible_creating state statement exists accounts options is none = feasible_as state statement (CreateUser exists accounts options) is none refl refl

-- what a drop leaves is what the entry leaves
pub after_dropping : (entry : Entry) (exists : Bool) (accounts : List AuthId) (before now : State) → entry.statement ≡ DropUser exists accounts → now ≡ changed [] (DropUser exists accounts) before → now ≡ after entry before
after_dropping entry exists accounts before now is same = after_as entry (DropUser exists accounts) before now is refl same

pub feasible_dropping : (state : State) (statement : Statement) (exists : Bool) (accounts : List AuthId) → statement ≡ DropUser exists accounts → first_fault state (DropUser exists accounts) ≡ None → IsFeasible state statement
feasible_dropping state statement exists accounts is none = feasible_as state statement (DropUser exists accounts) is none refl refl

-- what a grant leaves is what the entry leaves
pub after_granting : (entry : Entry) (privileges : PrivList) (target : Target) (accounts : List AuthId) (option : Bool) (before now : State) → entry.statement ≡ Grant privileges target accounts option
    → now ≡ changed entry.limits (Grant privileges target accounts option) before → now ≡ after entry before
unfolding after
after_granting entry privileges target accounts option before now is same = same ∙ ap (λ s. changed entry.limits s before) (sym is)

pub feasible_granting : (state : State) (statement : Statement) (privileges : PrivList) (target : Target) (accounts : List AuthId) (option : Bool) → statement ≡ Grant privileges target accounts option
    → first_fault state (Grant privileges target accounts option) ≡ None → IsFeasible state statement
feasible_granting state statement privileges target accounts option is none = feasible_as state statement (Grant privileges target accounts option) is none refl refl

-- what a revoke leaves is what the entry leaves
pub after_revoking : (entry : Entry) (privileges : PrivList) (target : Target) (accounts : List AuthId) (before now : State) → entry.statement ≡ Revoke privileges target accounts
    → now ≡ changed [] (Revoke privileges target accounts) before → now ≡ after entry before
after_revoking entry privileges target accounts before now is same = after_as entry (Revoke privileges target accounts) before now is refl same

pub feasible_revoking : (state : State) (statement : Statement) (privileges : PrivList) (target : Target) (accounts : List AuthId) → statement ≡ Revoke privileges target accounts
    → IsGrantFault state privileges target accounts None → IsFeasible state statement
feasible_revoking state statement privileges target accounts is found =
    rw is (record { no_fault = found.0; no_loop = λ earlier pair later split path. no_split earlier pair later split; no_lack = found.1 })

-- what a revoke of all leaves is what the entry leaves
pub after_revoking_all : (entry : Entry) (accounts : List AuthId) (before now : State) → entry.statement ≡ RevokeAll accounts → now ≡ changed [] (RevokeAll accounts) before → now ≡ after entry before
after_revoking_all entry accounts before now is same = after_as entry (RevokeAll accounts) before now is refl same

pub feasible_revoking_all : (state : State) (statement : Statement) (accounts : List AuthId) → statement ≡ RevokeAll accounts → first_fault state (RevokeAll accounts) ≡ None → IsFeasible state statement
feasible_revoking_all state statement accounts is none = feasible_as state statement (RevokeAll accounts) is none refl refl

-- an entry's statement keeps the rules of statements
pub statement_of : (entry : Entry) (statement : Statement) → entry.statement ≡ statement → is_statement statement ≡ true
unfolding is_entry
statement_of entry statement is =
    let legal : is_entry entry.limits statement ≡ true = subst (λ (s : Statement). is_entry entry.limits s ≡ true) is entry.legal in
    let three = (and_parts (is_statement statement && is_complete statement && are_limits_in_order entry.limits) (may_have_limits entry.limits statement) legal).0 in
    (and_parts (is_statement statement) (is_complete statement) (and_parts (is_statement statement && is_complete statement) (are_limits_in_order entry.limits) three).0).0

-- what refuses a revoke refuses the entry
pub revoke_refused : (state : State) (entry : Entry) (privileges : PrivList) (target : Target) (accounts : List AuthId) → entry.statement ≡ Revoke privileges target accounts
    → (e : Refusal) → IsRevokeCause state privileges target accounts e → IsCause (IsRefused state entry) e
revoke_refused state entry privileges target accounts is NoMemory cause = tt
revoke_refused state entry privileges target accounts is (NoSuchAccount a) cause = ap (first_fault state) is ∙ cause
revoke_refused state entry privileges target accounts is (NoSuchGrant a) cause = rw is cause
revoke_refused state entry privileges target accounts is _ cause = absurd cause

-- what refuses a creation refuses the entry
pub creation_refused : (state : State) (entry : Entry) (exists : Bool) (accounts : List (AuthId × Verifier)) (options : AccountOptions) → entry.statement ≡ CreateUser exists accounts options
    → (e : Refusal) → IsCreateCause (first_fault state (CreateUser exists accounts options)) (changed [] (CreateUser exists accounts options) state) e → IsCause (IsRefused state entry) e
creation_refused state entry exists accounts options is NoMemory cause = tt
creation_refused state entry exists accounts options is (AccountExists a) cause = ap (first_fault state) is ∙ cause
creation_refused state entry exists accounts options is (Full full.Accounts) cause =
    let same : changed [] (CreateUser exists accounts options) state ≡ after entry state = after_creating entry exists accounts options state (changed [] (CreateUser exists accounts options) state) is refl in (
      feasible_creating state entry.statement exists accounts options is cause.0,
      record {
        before = [];
        rest = full.Schemas ∷ full.Pairs ∷ full.Objects ∷ full.Edges ∷ [];
        split = refl;
        has = subst IsCrowded same cause.1;
        none_before = none_of_none (IsExceeded (after entry state));
      },
    )
creation_refused state entry exists accounts options is _ cause = absurd cause
