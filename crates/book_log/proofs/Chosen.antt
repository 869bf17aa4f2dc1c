-- A login chooses one account, and the items of a legal log can be noted in one way.
use Rattle.std.proofs.Common.{◌≡◌, ◌∙◌, ℕ, Bool, true, false, ◌||◌, List, [], ◌∷◌, get_or, Option, Some, None, refl, sym, ap, arith}
use Rattle.std.proofs.lemmas.List.Elements.{All-tail}
use Rattle.std.proofs.lemmas.Option.{slice_get-get_or}
use Rattle.std.specs.List.{list_any}
use Rattle.std.specs.Ordering.{ordering_reverse}
use Rattle.std.specs.Prelude.{All, slice_get}
use Rattle.std.specs.declared.cmp.Ordering.{Ordering}
use Rattle.std.specs.declared.cmp.Ordering.TheVariants.{Equal, Greater, Less}
use Rattle.account_match.proofs.Ties.{never_tied}
use Rattle.account_match.proofs.Totals.{account_order_total}
use Rattle.account_match.specs.Admitted.{is_admitted}
use Rattle.account_match.specs.Choice.{Admits, IsChoice, IsChosen, Precedes}
use Rattle.account_match.specs.Order.{account_order}
use Rattle.account_match.specs.declared.client.Client.{Client}
use Rattle.account_match.specs.declared.listed.Listed.{Listed}
use Rattle.acl_model.specs.State.{State}
use Rattle.acl_names.proofs.SameAuth.{equal_from_same_auth}
use Rattle.acl_names.specs.AuthId.{same_auth}
use Rattle.acl_names.specs.declared.auth.AuthId.{AuthId}
use Rattle.book_log.proofs.Standing.{chosen_stands}
use Rattle.book_log.specs.Items.{Knock}
use Rattle.book_log.specs.Logins.{IsChosenAccount, IsChosenBy, auth_at}

-- an account that a list has, with what holds of all that it has
found : (account : AuthId) (accounts : List Listed) (P : Listed → Type 0) →
    list_any (λ (listed : Listed). same_auth account listed.auth) accounts ≡ true → All P accounts →
    (listed : Listed) × (listed.auth ≡ account) × P listed
found account [] P there all = absurd (cc)
found account (listed ∷ accounts) P there all =
    by (same_auth account listed.auth) refl there (λ rest. found account accounts P rest (All-tail P listed accounts all))
  where
    by : (own : Bool) → same_auth account listed.auth ≡ own →
        (own || list_any (λ (listed : Listed). same_auth account listed.auth) accounts) ≡ true →
        (list_any (λ (listed : Listed). same_auth account listed.auth) accounts ≡ true → (listed : Listed) × (listed.auth ≡ account) × P listed) →
        (listed : Listed) × (listed.auth ≡ account) × P listed
    by true own is behind = (listed, sym (equal_from_same_auth account listed.auth own), all 0 listed (omega arith))
    by false own is behind = behind is

-- the chosen one among the listed ones
chosen_listed : (accounts : List Listed) (user : List ℕ) (client : Client) (account : AuthId) (place : Option ℕ) → IsChoice accounts user client place →
    Some account ≡ auth_at accounts place → (listed : Listed) × (listed.auth ≡ account) × IsChosen accounts user client listed
chosen_listed accounts user client account None choice is = absurd (cc)
chosen_listed accounts user client account (Some place) choice is =
    let some : Listed = record { auth = account; pattern = account.host; own = refl } in
    let there : slice_get accounts place ≡ Some (get_or accounts place some) = slice_get-get_or accounts place some choice.0 in
    let same : Some account ≡ Some (get_or accounts place some).auth = is ∙ ap (λ (held : Option Listed). auth_of held) there in
    let own : account ≡ (get_or accounts place some).auth = cc in
    (get_or accounts place some, sym own, choice.1 some)
  where
    auth_of : Option Listed → Option AuthId
    auth_of None = None
    auth_of (Some listed) = Some listed.auth

-- nothing that stands and admits the client comes before the chosen account
not_before : (state : State) (knock : Knock) (account other : AuthId) → IsChosenAccount state knock (Some account) → IsChosenAccount state knock (Some other) →
    account_order other account ≡ Less → ⊥
not_before state knock account other choice others before =
    let own = chosen_listed choice.accounts knock.user knock.client account choice.place choice.is_choice choice.chosen_is in
    let theirs = chosen_listed others.accounts knock.user knock.client other others.place others.is_choice others.chosen_is in
    let there : list_any (λ (listed : Listed). same_auth other listed.auth) choice.accounts ≡ true =
    sym (choice.just_standing other) ∙ chosen_stands state knock other others in
    let listed = found other choice.accounts (λ another. Admits knock.user knock.client another → ¬ (Precedes another own.0)) there own.2.first in
    let same : listed.0.auth ≡ theirs.0.auth = listed.1 ∙ sym theirs.1 in
    let admitted : is_admitted knock.user knock.client listed.0.auth ≡ true = ap (λ who. is_admitted knock.user knock.client who) same ∙ theirs.2.admits in
    let precedes : account_order listed.0.auth own.0.auth ≡ Less =
    ap (λ who. account_order who own.0.auth) listed.1 ∙ ap (λ who. account_order other who) own.1 ∙ before in
    listed.2 admitted precedes

same_account : (state : State) (knock : Knock) (one other : AuthId) → IsChosenAccount state knock (Some one) → IsChosenAccount state knock (Some other) → one ≡ other
same_account state knock one other first second = by (account_order one other) refl
  where
    by : (order : Ordering) → account_order one other ≡ order → one ≡ other
    by Less is = absurd (not_before state knock other one second first is)
    by Equal is = never_tied one other is
    by Greater is = absurd (not_before state knock one other first second (account_order_total.antisymm other one ∙ ap ordering_reverse is))

-- where one list has no account for the client, no other has one
not_none : (state : State) (knock : Knock) (account : AuthId) → IsChosenAccount state knock None → IsChosenAccount state knock (Some account) → ⊥
not_none state knock account none some = by none.place none.is_choice none.chosen_is
  where
    theirs : (listed : Listed) × (listed.auth ≡ account) × IsChosen some.accounts knock.user knock.client listed
    theirs = chosen_listed some.accounts knock.user knock.client account some.place some.is_choice some.chosen_is

    there : list_any (λ (listed : Listed). same_auth account listed.auth) none.accounts ≡ true
    there = sym (none.just_standing account) ∙ chosen_stands state knock account some

    by : (place : Option ℕ) → IsChoice none.accounts knock.user knock.client place → None ≡ auth_at none.accounts place → ⊥
    by None choice is =
        let listed = found account none.accounts (λ another. ¬ (Admits knock.user knock.client another)) there choice in
        let same : listed.0.auth ≡ theirs.0.auth = listed.1 ∙ sym theirs.1 in
        listed.2 (ap (λ who. is_admitted knock.user knock.client who) same ∙ theirs.2.admits)
    by (Some place) choice is =
        let some : Listed = record { auth = account; pattern = account.host; own = refl } in
        let held : slice_get none.accounts place ≡ Some (get_or none.accounts place some) = slice_get-get_or none.accounts place some choice.0 in
        let wrong : None ≡ Some (get_or none.accounts place some).auth = is ∙ ap (λ (listed : Option Listed). auth_of listed) held in cc
      where
        auth_of : Option Listed → Option AuthId
        auth_of None = None
        auth_of (Some listed) = Some listed.auth

pub chosen_once : (state : State) (knock : Knock) (one other : Option AuthId) → IsChosenAccount state knock one → IsChosenAccount state knock other → one ≡ other
chosen_once state knock None None first second = refl
chosen_once state knock None (Some other) first second = absurd (not_none state knock other first second)
chosen_once state knock (Some one) None first second = absurd (not_none state knock one second first)
chosen_once state knock (Some one) (Some other) first second = ap Some (same_account state knock one other first second)

pub chosen_by_once : (choice : Option (State → Knock → Option AuthId)) (state : State) (knock : Knock) (one other : Option AuthId) →
    IsChosenBy choice state knock one → IsChosenBy choice state knock other → one ≡ other
chosen_by_once None state knock one other first second = chosen_once state knock one other first second
chosen_by_once (Some choice) state knock one other first second = first.0 ∙ sym second.0
