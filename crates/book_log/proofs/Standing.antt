-- The account that a login chooses stands.
use Rattle.std.proofs.Common.{◌≡◌, ◌∙◌, ℕ, zero, suc, Bool, true, false, ◌||◌, List, [], ◌∷◌, Option, Some, None, refl, subst}
use Rattle.std.specs.Prelude.{slice_get}
use Rattle.std.specs.List.{list_any}
use Rattle.std.specs.Option.{option_map}
use Rattle.account_match.specs.declared.listed.Listed.{Listed}
use Rattle.acl_model.specs.State.{State, stands}
use Rattle.acl_names.proofs.SameAuth.{same_auth_itself}
use Rattle.acl_names.specs.AuthId.{same_auth}
use Rattle.acl_names.specs.declared.auth.AuthId.{AuthId}
use Rattle.book_log.specs.Items.{Knock}
use Rattle.book_log.specs.Logins.{IsChosenAccount, IsChosenBy, auth_at}

or_right : (a b : Bool) → b ≡ true → (a || b) ≡ true
or_right true b holds = refl
or_right false b holds = holds

or_left : (a b : Bool) → a ≡ true → (a || b) ≡ true
or_left true b holds = refl
or_left false b holds = absurd (cc)

listed_there : (account : AuthId) (accounts : List Listed) (place : ℕ) → Some account ≡ option_map (λ (listed : Listed). listed.auth) (slice_get accounts place) →
    list_any (λ (listed : Listed). same_auth account listed.auth) accounts ≡ true
listed_there account [] place is = absurd (cc)
listed_there account (listed ∷ accounts) zero is =
    or_left (same_auth account listed.auth) (list_any (λ (listed : Listed). same_auth account listed.auth) accounts)
    (let own : account ≡ listed.auth = cc in subst (λ other. same_auth account other ≡ true) own (same_auth_itself account))
listed_there account (listed ∷ accounts) (suc place) is =
    or_right (same_auth account listed.auth) (list_any (λ (listed : Listed). same_auth account listed.auth) accounts) (listed_there account accounts place is)

listed_at : (account : AuthId) (accounts : List Listed) (place : Option ℕ) → Some account ≡ auth_at accounts place →
    list_any (λ (listed : Listed). same_auth account listed.auth) accounts ≡ true
listed_at account accounts None is = absurd (cc)
listed_at account accounts (Some place) is = listed_there account accounts place is

pub chosen_stands : (state : State) (knock : Knock) (account : AuthId) → IsChosenAccount state knock (Some account) → stands state account ≡ true
chosen_stands state knock account chosen = chosen.just_standing account ∙ listed_at account chosen.accounts chosen.place chosen.chosen_is

pub chosen_by_stands : (choice : Option (State → Knock → Option AuthId)) (state : State) (knock : Knock) (account : AuthId) →
    IsChosenBy choice state knock (Some account) → stands state account ≡ true
chosen_by_stands None state knock account chosen = chosen_stands state knock account chosen
chosen_by_stands (Some choice) state knock account chosen = chosen.1 account refl
