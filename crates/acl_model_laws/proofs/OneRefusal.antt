-- A statement is refused with one thing at most.
use Rattle.std.proofs.Common.{◌≡◌, inl, inr, List, [], ◌∷◌, ◌++◌, Option, Some, None, refl, sym, ap, ◌∙◌}
use Rattle.acl_names.specs.declared.auth.AuthId.{AuthId}
use Rattle.acl_model.specs.Acceptance.{IsFeasible, IsFirstLoop, IsRefused, LacksGrant, limits_in_order, revoked_accounts, role_pairs}
use Rattle.acl_model.specs.Counts.{IsExceeded}
use Rattle.acl_model.specs.Effects.{after}
use Rattle.acl_model.specs.Firsts.{IsFirst}
use Rattle.acl_model.specs.Refusals.{first_fault}
use Rattle.acl_model.specs.State.{State}
use Rattle.acl_model_laws.proofs.FirstItems.{same_heads, same_tails}
use Rattle.acl_stmt.specs.declared.entry.Entry.{Entry}
use Rattle.acl_stmt.specs.declared.refusal.Full.{Full as FullOf}
use Rattle.acl_stmt.specs.declared.refusal.Refusal.{Refusal}
use Rattle.acl_stmt.specs.declared.refusal.Refusal.TheVariants.{AccountExists, Closed, Denied, DiskFault, Full, HistoryFull, Loop, Mandatory, NoMemory, NoSuchAccount, NoSuchGrant, NotGranted}
use Rattle.acl_stmt.specs.declared.statement.Statement.{Statement}
use Rattle.acl_stmt.specs.declared.statement.Statement.TheVariants.{CreateUser, AlterUser, DropUser, RenameUser, CreateRole, DropRole, Grant, GrantRoles, Revoke, RevokeAll, RevokeRoles, SetDefaultRole, SetPassword, SetMandatory, SetActivateAll}

-- where a list is split at two items, one of them stands before the other, or they are one
data Splits {X : Type 0} (one : List X) (x : X) (other : List X) (y : X) : Type 0 where
  Same : x ≡ y → one ≡ other → Splits one x other y
  Earlier : (between : List X) → other ≡ one ++ x ∷ between → Splits one x other y
  Later : (between : List X) → one ≡ other ++ y ∷ between → Splits one x other y

one_more : {X : Type 0} (c d : X) (one : List X) (x : X) (other : List X) (y : X) → c ≡ d → Splits one x other y → Splits (c ∷ one) x (d ∷ other) y
one_more c d one x other y equal (Same same lists) = Same same (ap (λ e. e ∷ one) equal ∙ ap (λ es. d ∷ es) lists)
one_more c d one x other y equal (Earlier between is) = Earlier between (ap (λ e. e ∷ other) (sym equal) ∙ ap (λ es. c ∷ es) is)
one_more c d one x other y equal (Later between is) = Later between (ap (λ e. e ∷ one) equal ∙ ap (λ es. d ∷ es) is)

two_splits : {X : Type 0} (one : List X) (x : X) (xs : List X) (other : List X) (y : X) (ys : List X) → one ++ x ∷ xs ≡ other ++ y ∷ ys → Splits one x other y
two_splits [] x xs [] y ys is = Same (same_heads x y xs ys is) refl
two_splits [] x xs (d ∷ other) y ys is = Earlier other (ap (λ e. e ∷ other) (sym (same_heads x d xs (other ++ y ∷ ys) is)))
two_splits (c ∷ one) x xs [] y ys is = Later one (ap (λ e. e ∷ one) (same_heads c y (one ++ x ∷ xs) ys is))
two_splits (c ∷ one) x xs (d ∷ other) y ys is =
    one_more c d one x other y (same_heads c d (one ++ x ∷ xs) (other ++ y ∷ ys) is)
    (two_splits one x xs other y ys (same_tails c d (one ++ x ∷ xs) (other ++ y ∷ ys) is))

first_from : {X : Type 0} (P : X → Type 0) (items : List X) (x y : X) (one : IsFirst P items x) (other : IsFirst P items y)
    → Splits one.before x other.before y → x ≡ y
first_from P items x y one other (Same same lists) = same
first_from P items x y one other (Earlier between is) = absurd (other.none_before one.before x between is one.has)
first_from P items x y one other (Later between is) = absurd (one.none_before other.before y between is other.has)

-- there is one first item
two_firsts : {X : Type 0} (P : X → Type 0) (items : List X) (x y : X) → IsFirst P items x → IsFirst P items y → x ≡ y
two_firsts P items x y one other =
    first_from P items x y one other (two_splits one.before x one.rest other.before y other.rest (sym one.split ∙ other.split))

loop_from : (state : State) (pairs : List (AuthId × AuthId)) (r a q b : AuthId) (one : IsFirstLoop state pairs r a) (other : IsFirstLoop state pairs q b)
    → Splits one.before (r, a) other.before (q, b) → Loop r a ≡ Loop q b
loop_from state pairs r a q b one other (Same same lists) = ap (λ (pair : AuthId × AuthId). Loop pair.0 pair.1) same
loop_from state pairs r a q b one other (Earlier between is) = absurd (other.none_before one.before (r, a) between is one.loops)
loop_from state pairs r a q b one other (Later between is) = absurd (one.none_before other.before (q, b) between is other.loops)

two_loops : (state : State) (pairs : List (AuthId × AuthId)) (r a q b : AuthId) → IsFirstLoop state pairs r a → IsFirstLoop state pairs q b → Loop r a ≡ Loop q b
two_loops state pairs r a q b one other =
    loop_from state pairs r a q b one other (two_splits one.before (r, a) one.rest other.before (q, b) other.rest (sym one.split ∙ other.split))

-- the ways of being refused
data Way (state : State) (entry : Entry) (refusal : Refusal) : Type 0 where
  ByFault : first_fault state entry.statement ≡ Some refusal → Way state entry refusal
  ByLoop : (role account : AuthId) → refusal ≡ Loop role account → first_fault state entry.statement ≡ None → IsFirstLoop state (role_pairs entry.statement) role account → Way state entry refusal
  ByLack : (account : AuthId) → refusal ≡ NoSuchGrant account → first_fault state entry.statement ≡ None → IsFirst (LacksGrant state entry.statement) (revoked_accounts entry.statement) account → Way state entry refusal
  ByLimit : (what : FullOf) → refusal ≡ Full what → IsFeasible state entry.statement → IsFirst (IsExceeded (after entry state)) limits_in_order what → Way state entry refusal

way_of : (state : State) (entry : Entry) (refusal : Refusal) → IsRefused state entry refusal → Way state entry refusal
way_of state entry (Loop role account) is = ByLoop role account refl is.0 is.1
way_of state entry (NoSuchGrant account) (inl fault) = ByFault fault
way_of state entry (NoSuchGrant account) (inr lack) = ByLack account refl lack.0 lack.1
way_of state entry (Full what) is = ByLimit what refl is.0 is.1
way_of state entry (NoSuchAccount account) is = ByFault is
way_of state entry (AccountExists account) is = ByFault is
way_of state entry (Mandatory role) is = ByFault is
way_of state entry (NotGranted role account) is = ByFault is
way_of state entry Closed is = ByFault is
way_of state entry (Denied missing) is = ByFault is
way_of state entry HistoryFull is = ByFault is
way_of state entry DiskFault is = ByFault is
way_of state entry NoMemory is = ByFault is

not_both : {A : Type 0} (o : Option A) (a : A) → o ≡ Some a → o ≡ None → ⊥
not_both o a some none = cc

some_or : Refusal → Option Refusal → Refusal
some_or r None = r
some_or r (Some q) = q

same_fault : (o : Option Refusal) (r q : Refusal) → o ≡ Some r → o ≡ Some q → r ≡ q
unfolding some_or
same_fault o r q one other = ap (some_or r) (sym one ∙ other)

nothing_is_split : {X : Type 0} (before : List X) (x : X) (rest : List X) → [] ≡ before ++ x ∷ rest → ⊥
nothing_is_split [] x rest is = cc
nothing_is_split (first ∷ before) x rest is = cc

-- no statement both grants roles and revokes privileges
not_both_kinds : (s : Statement) (before : List (AuthId × AuthId)) (pair : AuthId × AuthId) (rest : List (AuthId × AuthId))
    (earlier : List AuthId) (account : AuthId) (later : List AuthId) → role_pairs s ≡ before ++ pair ∷ rest → revoked_accounts s ≡ earlier ++ account ∷ later → ⊥
not_both_kinds (GrantRoles roles accounts with_admin_option) before pair rest earlier account later pairs revoked = nothing_is_split earlier account later revoked
not_both_kinds (CreateUser if_not_exists accounts options) before pair rest earlier account later pairs revoked = nothing_is_split before pair rest pairs
not_both_kinds (AlterUser accounts options) before pair rest earlier account later pairs revoked = nothing_is_split before pair rest pairs
not_both_kinds (DropUser if_exists accounts) before pair rest earlier account later pairs revoked = nothing_is_split before pair rest pairs
not_both_kinds (RenameUser renamed) before pair rest earlier account later pairs revoked = nothing_is_split before pair rest pairs
not_both_kinds (CreateRole if_not_exists roles) before pair rest earlier account later pairs revoked = nothing_is_split before pair rest pairs
not_both_kinds (DropRole if_exists roles) before pair rest earlier account later pairs revoked = nothing_is_split before pair rest pairs
not_both_kinds (Grant privileges target accounts with_grant_option) before pair rest earlier account later pairs revoked = nothing_is_split before pair rest pairs
not_both_kinds (Revoke privileges target accounts) before pair rest earlier account later pairs revoked = nothing_is_split before pair rest pairs
not_both_kinds (RevokeAll accounts) before pair rest earlier account later pairs revoked = nothing_is_split before pair rest pairs
not_both_kinds (RevokeRoles roles accounts) before pair rest earlier account later pairs revoked = nothing_is_split before pair rest pairs
not_both_kinds (SetDefaultRole form accounts) before pair rest earlier account later pairs revoked = nothing_is_split before pair rest pairs
not_both_kinds (SetPassword one verifier) before pair rest earlier account later pairs revoked = nothing_is_split before pair rest pairs
not_both_kinds (SetMandatory roles) before pair rest earlier account later pairs revoked = nothing_is_split before pair rest pairs
not_both_kinds (SetActivateAll on) before pair rest earlier account later pairs revoked = nothing_is_split before pair rest pairs

not_loop_and_lack : (state : State) (entry : Entry) (role holder account : AuthId) → IsFirstLoop state (role_pairs entry.statement) role holder
    → IsFirst (LacksGrant state entry.statement) (revoked_accounts entry.statement) account → ⊥
not_loop_and_lack state entry role holder account loop lack =
    not_both_kinds entry.statement loop.before (role, holder) loop.rest lack.before account lack.rest loop.split lack.split

same_way : (state : State) (entry : Entry) (r q : Refusal) → Way state entry r → Way state entry q → r ≡ q
same_way state entry r q (ByFault one) (ByFault other) = same_fault _ r q one other
same_way state entry r q (ByFault one) (ByLoop role account is none loop) = absurd (not_both _ r one none)
same_way state entry r q (ByFault one) (ByLack account is none lack) = absurd (not_both _ r one none)
same_way state entry r q (ByFault one) (ByLimit what is feasible more) = absurd (not_both _ r one feasible.no_fault)
same_way state entry r q (ByLoop role account is none loop) (ByFault other) = absurd (not_both _ q other none)
same_way state entry r q (ByLoop role account is none loop) (ByLoop other_role other_account other_is other_none other_loop) =
    is ∙ two_loops state (role_pairs entry.statement) role account other_role other_account loop other_loop ∙ sym other_is
same_way state entry r q (ByLoop role account is none loop) (ByLack other other_is other_none lack) = absurd (not_loop_and_lack state entry role account other loop lack)
same_way state entry r q (ByLoop role account is none loop) (ByLimit what other_is feasible more) =
    absurd (feasible.no_loop loop.before (role, account) loop.rest loop.split loop.loops)
same_way state entry r q (ByLack account is none lack) (ByFault other) = absurd (not_both _ q other none)
same_way state entry r q (ByLack account is none lack) (ByLoop role holder other_is other_none loop) = absurd (not_loop_and_lack state entry role holder account loop lack)
same_way state entry r q (ByLack account is none lack) (ByLack other other_is other_none other_lack) =
    is ∙ ap (λ (a : AuthId). NoSuchGrant a) (two_firsts _ _ account other lack other_lack) ∙ sym other_is
same_way state entry r q (ByLack account is none lack) (ByLimit what other_is feasible more) =
    absurd (feasible.no_lack lack.before account lack.rest lack.split lack.has)
same_way state entry r q (ByLimit what is feasible more) (ByFault other) = absurd (not_both _ q other feasible.no_fault)
same_way state entry r q (ByLimit what is feasible more) (ByLoop role account other_is none loop) =
    absurd (feasible.no_loop loop.before (role, account) loop.rest loop.split loop.loops)
same_way state entry r q (ByLimit what is feasible more) (ByLack account other_is none lack) =
    absurd (feasible.no_lack lack.before account lack.rest lack.split lack.has)
same_way state entry r q (ByLimit what is feasible more) (ByLimit other other_is other_feasible other_more) =
    is ∙ ap (λ (w : FullOf). Full w) (two_firsts _ _ what other more other_more) ∙ sym other_is

pub one_refusal : (state : State) (entry : Entry) (one other : Refusal) → IsRefused state entry one → IsRefused state entry other → one ≡ other
one_refusal state entry one other is other_is = same_way state entry one other (way_of state entry one is) (way_of state entry other other_is)
